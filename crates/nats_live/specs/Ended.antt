-- What an ended link shows of a command that was played on it: its words look at the link's bytes alone.
use Rattle.std.specs.Prelude.{◌≡◌, ◌≤◌, ◌==◌, ℕ, Bool, true, false, List, [], ◌∷◌, ◌++◌, length, take, drop, Option, Some, None, if◌then◌else◌}
use Rattle.std.specs.List.{concat, flat_map}
use Rattle.nats_pool.specs.Auths.{AuthValue}
use Rattle.nats_message.specs.declared.message.Message.{Message}
use Rattle.nats_message.specs.declared.op.ClientOp.TheVariants as client
use Rattle.nats_commands.specs.Commands.{command_text}
use Rattle.nats_lines.specs.Operations.{Operation, message, ping_op, Front, unfinished, got, fault, front, behind, operations}
use Rattle.nats_history.specs.History.{read, max_payload_after}
use Rattle.nats_handshake.specs.Opened.{Opened, opened}
use Rattle.nats_handshake.specs.Shaking.{opening, wants_tls}
use Rattle.nats_message_text.specs.Printed.{message_line}

-- the pieces that a link gave, and the bytes that it took
abbrev pub EndedLink : Type 0
EndedLink = List (List ℕ) × List ℕ

-- the last of some ended links is so
pub record LastLink (Is : EndedLink → Type 0) (links : List EndedLink) : Type 0 where
  pub earlier : List EndedLink
  pub link : EndedLink
  pub last : links ≡ earlier ++ link ∷ []
  pub shows : Is link

-- the same of the last of them, which came behind those of before
pub record LastSince (before : Option (List EndedLink)) (Is : EndedLink → Type 0) (links : List EndedLink)
    : Type 0 where
  pub earlier : List EndedLink
  pub more : List EndedLink
  pub link : EndedLink
  pub known : before ≡ Some earlier
  pub last : links ≡ (earlier ++ more) ++ link ∷ []
  pub shows : Is link

-- the link's pieces hold the success of a handshake, by all its rules: TLS is wanted neither by an option nor by the
-- scheme of the address, which aren't told by pieces, nor by the INFO
abbrev pub IsOpenedBy : EndedLink → Opened → Type 0
IsOpenedBy link o = (opened link.0 ≡ Some o) × (wants_tls false false o.info ≡ false)

-- ---- what the server said

-- all bytes that came behind the handshake
abbrev pub behind_handshake : Opened → List ℕ
behind_handshake o = o.rest ++ concat o.later

-- the operations that came with the handshake's pieces, behind its last operation
abbrev pub before : Opened → List Operation
before o = operations o.rest

-- those that came later: all but as many of the first
abbrev pub after : Opened → List Operation
after o = drop (length (before o)) (operations (behind_handshake o))

-- the messages of a number
abbrev pub messages : ℕ → List Operation → List Message
messages s [] = []
messages s (message sid m ∷ more) = if sid == s then m ∷ messages s more else messages s more
messages s (op ∷ more) = messages s more

-- the limit of payloads after some operations, where this one held before them
abbrev pub limit_behind : List Operation → ℕ → ℕ
limit_behind [] limit = limit
limit_behind (op ∷ more) limit = limit_behind more (max_payload_after (read op) limit)

-- the same after those of some bytes
abbrev pub limit_with : ℕ → List ℕ → ℕ
limit_with limit bytes = limit_behind (operations bytes) limit

-- the limit of a link's server as a command begins: that of its INFO, or the last one told with the handshake's pieces
abbrev pub limit_of : Opened → ℕ
limit_of o = limit_with o.info.max_payload o.rest

abbrev pub is_fault : Front → Bool
is_fault (fault n) = true
is_fault (got op n) = false
is_fault unfinished = false

-- what stands behind the operations of a text is no beginning of one
abbrev pub ends_in_fault : List ℕ → Bool
ends_in_fault text = is_fault (front (behind (length (operations text)) text))

-- ---- what the client wrote

-- a client of default options authenticates by nothing
abbrev pub nothing : AuthValue
nothing = record { jwt = None; nkey = None; username = None; password = None; token = None; signature = None }

-- CONNECT, PING, and a PONG for each PING of the handshake
abbrev pub handshake_text : Opened → List ℕ
handshake_text o = opening None false nothing ++ o.said

-- a PONG for each PING
abbrev pub pong : Operation → List ℕ
pong ping_op = command_text client.Pong
pong op = []

abbrev pub pongs : List Operation → List ℕ
pongs ops = flat_map pong ops

-- ---- the commands

-- a message was published: the link took the handshake's text, a PONG for each PING that came with it, the text of the
-- publish, and nothing else
pub record WasPublished (subject payload : List ℕ) (link : EndedLink) : Type 0 where
  pub shaken : Opened
  pub opens : IsOpenedBy link shaken
  pub took : link.1
      ≡ handshake_text shaken ++ pongs (before shaken) ++ command_text (client.Publish subject payload None None)

-- the texts of the first n messages of subscription 1 were printed
abbrev pub received_text : ℕ → Opened → List ℕ
received_text n o = flat_map message_line (take n (messages 1 (after o)))

-- n messages were received: they are the first of subscription 1 that came after the handshake's pieces were
-- read. The link took the handshake's text, a PONG for each PING that came with it, the text of the subscribe,
-- and of the PONGs for the later PINGs the first bytes
pub record WasReceived (subject : List ℕ) (n : ℕ) (text : List ℕ) (link : EndedLink) : Type 0 where
  pub shaken : Opened
  pub opens : IsOpenedBy link shaken
  pub enough : n ≤ length (messages 1 (after shaken))
  pub printed : text ≡ received_text n shaken
  pub answered : List ℕ
  pub left : List ℕ
  pub answers : answered ++ left ≡ pongs (after shaken)
  pub took : link.1
      ≡ handshake_text shaken ++ pongs (before shaken) ++ command_text (client.Subscribe 1 subject None) ++ answered
