-- The opening of the list, and the list behind it.
use Rattle.std.proofs.Common.{◌≡◌, ℕ, zero, suc, ◌%◌, Bool, true, false, cond, [], ◌∷◌, length, nat_lt, Some, None, refl, sym, ◌∙◌, ap, subst}
use Rattle.std.specs.Prelude.{codes}
use Rattle.nats_info.specs.Info.{default_info}
use Rattle.nats_lines.specs.Operations.{front}
use Rattle.nats_history.specs.declared.call.Call.{Call}
use Rattle.nats_history.specs.declared.call.Call.TheVariants.{Subscribe}
use Rattle.nats_history.specs.declared.turn.Turn.{Turn}
use Rattle.nats_history.specs.declared.turn.Turn.TheVariants.{Up}
use Rattle.nats_history.specs.History.{accepted, handled, opened}
use Rattle.nats_history.specs.Parts.{Parts, parts_of}
use Rattle.nats_history.specs.Schedule.{due, due_call, due_by}
use Rattle.nats_history.specs.After.{after, after_all}
use Rattle.nats_history.proofs.Dues.{none_due, one_due}
use Rattle.nats_bulk.specs.Generated.{bulk_config, subscribing_to, turn_at, opening, generated}
use Rattle.nats_bulk.specs.Laws.{InTurn}
use Rattle.nats_bulk.proofs.Turns.{nothing_there, settles, turned, turned_to, turned_steady, turn_passes, Steady, Comes, one_more, in_turn_from}

abbrev first_call : Call
first_call = Subscribe (codes "bulk.a") None

abbrev second_call : Call
second_call = Subscribe (codes "bulk.b") None

abbrev link_up : Turn
link_up = Up (record default_info { max_payload = 1048576 })

abbrev begun : Parts
begun = parts_of bulk_config []

-- the parts once the link is up
abbrev p_up : Parts
p_up = after begun (opened (record default_info { max_payload = 1048576 }))

-- the parts once the first subscription is accepted, and once it is handled
abbrev p_asked : Parts
p_asked = after p_up (accepted first_call)

abbrev p_one : Parts
p_one = after p_asked (handled first_call)

-- the parts once the second is accepted
abbrev p_two : Parts
p_two = after p_one (accepted second_call)

-- nothing is due where no byte is unread and no call waits
no_call : (room : Bool) → due_call room [] ≡ None
no_call true = refl
no_call false = refl

idle : (p : Parts) → p.link.is_up ≡ true → p.link.wire.unread ≡ [] → p.calls ≡ [] → due p ≡ None
idle p up unread calls =
    ap (λ b. cond b (due_by (front p.link.wire.unread) p) None) up
    ∙ (ap (λ f. due_by f p) (ap front unread ∙ nothing_there) ∙ (ap (due_call (nat_lt (length p.link.wire.waiting) 65535)) calls ∙ no_call (nat_lt (length p.link.wire.waiting) 65535)))

up_turned : turned begun link_up ≡ p_up
up_turned = turned_to begun link_up ∙ ap (after_all p_up) (none_due p_up (idle p_up refl refl refl))

first_due : due p_asked ≡ Some (handled first_call)
first_due = ap (λ f. due_by f p_asked) nothing_there

one_turned : turned p_up (subscribing_to (codes "bulk.a")) ≡ p_one
one_turned =
    turned_to p_up (subscribing_to (codes "bulk.a"))
    ∙ ap (after_all p_asked) (one_due p_asked (handled first_call) first_due)
    ∙ ap (λ steps. after_all p_asked (handled first_call ∷ steps)) (none_due p_one (idle p_one refl refl refl))

two_steady : Steady [] p_two
two_steady = record { up = refl; unread_is = refl; calm = (refl, tt); one = refl; two = refl }

two_turned : Comes p_one (subscribing_to (codes "bulk.b") ∷ [])
two_turned = (refl, turned_steady p_one (subscribing_to (codes "bulk.b")) (settles p_two two_steady))

opening_comes : Comes begun opening
opening_comes = (
  refl,
  subst (λ (p : Parts). Comes p (subscribing_to (codes "bulk.a") ∷ subscribing_to (codes "bulk.b") ∷ [])) (sym up_turned)
      (refl, subst (λ (p : Parts). Comes p (subscribing_to (codes "bulk.b") ∷ [])) (sym one_turned) two_turned),
)

generated_comes : (n : ℕ) → Comes begun (generated n)
generated_comes zero = opening_comes
generated_comes (suc k) =
    one_more (generated k) (turn_at (suc k)) begun (λ q s. turn_passes q (suc k % 8) (suc k) s) (generated_comes k)

-- each turn of the list may come where it stands
pub in_turn : InTurn
in_turn n = in_turn_from bulk_config 1 (generated n) [] (generated_comes n)
