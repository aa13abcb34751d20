-- What is unread goes on behind what was read; what operations answer and say.
use Rattle.std.proofs.Common.{◌≡◌, refl, ◌∙◌, sym, ap, ℕ, ◌==◌, Bool, true, false, if◌then◌else◌, List, [], ◌∷◌, ◌++◌, length, drop, append_assoc, append-nil}
use Rattle.std.proofs.lemmas.List.{drop-append-le}
use Rattle.nats_message.specs.declared.message.Message.{Message}
use Rattle.nats_lines.specs.Laws.{IsGot}
use Rattle.nats_lines.specs.Operations.{Operation, message, info_op, error_op, ok_op, ping_op, pong_op, Front, unfinished, got, fault, front, past, behind, operations}
use Rattle.nats_lines.proofs.Fronts.{front_more, front_fits}
use Rattle.nats_lines.proofs.Reading.{operations_next, operations_none}
use Rattle.nats_live.specs.Ended.{messages, is_fault, ends_in_fault, pong, pongs}
use Rattle.nats_live.specs.Flow.{GoesOn}

-- ---- answers and messages of more operations

pub pongs_more : (ops more : List Operation) → pongs (ops ++ more) ≡ pongs ops ++ pongs more
pongs_more [] more = refl
pongs_more (op ∷ ops) more =
    ap (λ (t : List ℕ). pong op ++ t) (pongs_more ops more) ∙ sym (append_assoc (pong op) (pongs ops) (pongs more))

-- one more
pub pongs_one : (ops : List Operation) (op : Operation) → pongs (ops ++ op ∷ []) ≡ pongs ops ++ pong op
pongs_one ops op = pongs_more ops (op ∷ []) ∙ ap (λ (t : List ℕ). pongs ops ++ t) (append-nil (pong op))

onto_more : (b : Bool) (m : Message) (these more : List Message)
    → (if b then m ∷ (these ++ more) else these ++ more) ≡ (if b then m ∷ these else these) ++ more
onto_more true m these more = refl
onto_more false m these more = refl

pub messages_more : (s : ℕ) (ops more : List Operation) → messages s (ops ++ more) ≡ messages s ops ++ messages s more
messages_more s [] more = refl
messages_more s (message sid m ∷ ops) more =
    ap (λ (t : List Message). if sid == s then m ∷ t else t) (messages_more s ops more)
    ∙ onto_more (sid == s) m (messages s ops) (messages s more)
messages_more s (info_op info ∷ ops) more = messages_more s ops more
messages_more s (error_op e ∷ ops) more = messages_more s ops more
messages_more s (ok_op ∷ ops) more = messages_more s ops more
messages_more s (ping_op ∷ ops) more = messages_more s ops more
messages_more s (pong_op ∷ ops) more = messages_more s ops more

-- ---- the end of a text

fault_next : (bytes : List ℕ) (op : Operation) (n : ℕ) → front bytes ≡ got op n
    → ends_in_fault bytes ≡ ends_in_fault (drop n bytes)
fault_next bytes op n e =
    ap (λ (ops : List Operation). is_fault (front (behind (length ops) bytes))) (operations_next bytes op n e)
    ∙ ap (λ (f : Front). is_fault (front (behind (length (operations (drop n bytes))) (past f bytes)))) e

fault_none : (bytes : List ℕ) → ¬ (IsGot (front bytes)) → ends_in_fault bytes ≡ is_fault (front bytes)
fault_none bytes none =
    ap (λ (ops : List Operation). is_fault (front (behind (length ops) bytes))) (operations_none bytes none)

-- ---- what goes on

-- no byte came
pub goes_first : GoesOn [] [] []
goes_first = record { ops = λ more. refl; faults = λ more. refl }

-- more bytes come
pub goes_fed : (joined : List ℕ) (done : List Operation) (unread bytes : List ℕ) → GoesOn joined done unread
    → GoesOn (joined ++ bytes) done (unread ++ bytes)
goes_fed joined done unread bytes goes = record {
  ops = λ more.
      ap operations (append_assoc joined bytes more)
      ∙ (goes.ops (bytes ++ more) ∙ ap (λ (t : List ℕ). done ++ operations t) (sym (append_assoc unread bytes more)));
  faults = λ more.
      ap ends_in_fault (append_assoc joined bytes more)
      ∙ (goes.faults (bytes ++ more) ∙ ap ends_in_fault (sym (append_assoc unread bytes more)));
}

-- an operation is read
pub goes_read : (joined : List ℕ) (done : List Operation) (unread : List ℕ) (op : Operation) (n : ℕ)
    → front unread ≡ got op n
    → GoesOn joined done unread → GoesOn joined (done ++ op ∷ []) (drop n unread)
goes_read joined done unread op n e goes = record {
  ops = λ more.
      goes.ops more
      ∙ (ap (λ (ops : List Operation). done ++ ops)
      (operations_next (unread ++ more) op n (front_more unread more op n e))
      ∙ (ap (λ (t : List ℕ). done ++ (op ∷ operations t)) (drop-append-le n unread more (front_fits unread op n e))
      ∙ sym (append_assoc done (op ∷ []) (operations (drop n unread ++ more)))));
  faults = λ more.
      goes.faults more
      ∙ (fault_next (unread ++ more) op n (front_more unread more op n e)
      ∙ ap ends_in_fault (drop-append-le n unread more (front_fits unread op n e)));
}

-- none is left
pub goes_over : (joined : List ℕ) (done : List Operation) (unread : List ℕ) → GoesOn joined done unread
    → ¬ (IsGot (front unread))
    → operations joined ≡ done
goes_over joined done unread goes none =
    ap operations (sym (append-nil joined))
    ∙ (goes.ops []
    ∙ (ap (λ (t : List ℕ). done ++ operations t) (append-nil unread)
    ∙ (ap (λ (ops : List Operation). done ++ ops) (operations_none unread none) ∙ append-nil done)))

-- and what stands there is no beginning of one, or is
pub goes_fault : (joined : List ℕ) (done : List Operation) (unread : List ℕ) → GoesOn joined done unread
    → ¬ (IsGot (front unread))
    → ends_in_fault joined ≡ is_fault (front unread)
goes_fault joined done unread goes none =
    ap ends_in_fault (sym (append-nil joined))
    ∙ (goes.faults [] ∙ (ap ends_in_fault (append-nil unread) ∙ fault_none unread none))

pub not_got_unfinished : (f : Front) → f ≡ unfinished → ¬ (IsGot f)
not_got_unfinished unfinished e = λ g. g
not_got_unfinished (got op n) e = cc
not_got_unfinished (fault n) e = λ g. g

pub not_got_fault : (f : Front) (n : ℕ) → f ≡ fault n → ¬ (IsGot f)
not_got_fault unfinished n e = λ g. g
not_got_fault (got op m) n e = cc
not_got_fault (fault m) n e = λ g. g
