-- Sentences about the replies of tickets.
use Rattle.std.specs.Prelude.{◌≡◌, ℕ, Bool, false, not, ◌&&◌, ◌||◌, ◌==◌, List, [], ◌∷◌, map, is_some}
use Rattle.nats_history.specs.declared.config.Config.{Config}
use Rattle.nats_history.specs.declared.call.CallReply.{CallReply}
use Rattle.nats_history.specs.History.{History}
use Rattle.nats_tickets.specs.Kept.{reply_in}
use Rattle.nats_session.specs.Handler.{settled_tickets, without_all, StoodThere}

abbrev pub stands_in : ℕ → List ℕ → Bool
stands_in ticket [] = false
stands_in ticket (x ∷ xs) = (ticket == x) || stands_in ticket xs

abbrev pub number_settled : ℕ × CallReply → ℕ
number_settled settled = settled.0

abbrev pub numbers_settled : List (ℕ × CallReply) → List ℕ
numbers_settled settled = map number_settled settled

-- a ticket has a reply that is to be handed out exactly where it settled and its reply was not handed out
abbrev pub ReplyOnce : Type 0
ReplyOnce =
    (c : Config) (h : History) (out : List ℕ) (ticket : ℕ) → StoodThere out (settled_tickets c h)
    → is_some (reply_in ticket (without_all out (settled_tickets c h)))
    ≡ (stands_in ticket (numbers_settled (settled_tickets c h)) && not (stands_in ticket out))
