-- By what the ticket of a request settled.
use Rattle.std.specs.Prelude.{◌≡◌, ℕ, ◌⊎◌, [], ◌∷◌}
use Rattle.nats_message.specs.declared.message.Message.{Message}
use Rattle.nats_lines.specs.Operations.{message}
use Rattle.nats_history.specs.declared.config.Config.{Config}
use Rattle.nats_history.specs.History.{Step, read, History}
use Rattle.nats_ask_laws.specs.Asked.{WasAsked}

-- a step reads this message, which comes to number 0 with the subject of the reply to the request of a ticket: the
-- first such since the request was handled
abbrev pub IsFirstReply : Config → ℕ → Message → History → Step → Type 0
IsFirstReply c ticket m h (read (message sid came)) = (sid ≡ 0) × (came ≡ m) × WasAsked c ticket m.subject h
IsFirstReply c ticket m h step = ⊥

-- one of the steps does
abbrev pub WasReplied : Config → ℕ → Message → History → Type 0
WasReplied c ticket m [] = ⊥
WasReplied c ticket m ((place, step) ∷ h) = IsFirstReply c ticket m h step ⊎ WasReplied c ticket m h
