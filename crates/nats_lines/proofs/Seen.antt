-- What stands at the front of a text, by what is seen there.
use Rattle.std.proofs.Common.{◌≡◌, ◌≢◌, ℕ, ◌≤◌, arith, Bool, true, false, List, length, drop, Option, Some, None, Result, Ok, Err, refl, ap, sym, subst, ◌∙◌}
use Rattle.std.specs.Prelude.{IsTrue, option_map}
use Rattle.nats_message.specs.declared.op.ServerOp.{ServerOp}
use Rattle.nats_lines.specs.Operations.{Operation, OpText, Sight, less, whole, bad, sight, op_of, lost_at, got_or_fault, front_of_sight, Front, unfinished, got, fault, size_of, is_unfinished, is_whole, takes_memory, front, op_view, peeked_view}
use Rattle.nats_lines.proofs.Fronts.{front_by_sight, front_fits, fault_fits}

-- an operation that is read from its text stands there
pub got_whole : (bytes : List ℕ) (text : OpText) (n : ℕ) (op : Operation) → whole text n ≡ sight bytes → Some op ≡ op_of text
    → got op n ≡ front bytes
got_whole bytes text n op sees is =
    ap (got_or_fault n (lost_at text n)) is ∙ sym (front_by_sight bytes (whole text n) sees)

-- a text that is no operation is a fault
pub lost_whole : (bytes : List ℕ) (text : OpText) (n : ℕ) → whole text n ≡ sight bytes → None ≡ op_of text
    → fault (lost_at text n) ≡ front bytes
lost_whole bytes text n sees is =
    ap (got_or_fault n (lost_at text n)) is ∙ sym (front_by_sight bytes (whole text n) sees)

pub less_seen : (bytes : List ℕ) → less ≡ sight bytes → unfinished ≡ front bytes
less_seen bytes sees = sym (front_by_sight bytes less sees)

pub bad_seen : (bytes : List ℕ) (n : ℕ) → bad n ≡ sight bytes → fault n ≡ front bytes
bad_seen bytes n sees = sym (front_by_sight bytes (bad n) sees)

pub whole_takes : (bytes : List ℕ) (text : OpText) (n : ℕ) → whole text n ≡ sight bytes → IsTrue (takes_memory bytes)
whole_takes bytes text n sees = sym (ap is_whole sees)

pub got_fits : (bytes : List ℕ) (n : ℕ) (op : Operation) → got op n ≡ front bytes → n ≤ length bytes
got_fits bytes n op is = front_fits bytes op n (sym is)

pub lost_fits : (bytes : List ℕ) (n : ℕ) → fault n ≡ front bytes → n ≤ length bytes
lost_fits bytes n is = fault_fits bytes n (sym is)

pub got_or_fault_is : (n lost : ℕ) (found : Option Operation) → is_unfinished (got_or_fault n lost found) ≡ false
got_or_fault_is n lost None = refl
got_or_fault_is n lost (Some op) = refl

-- what stands there by a text that is there whole
pub whole_front : (bytes : List ℕ) (text : OpText) (n lost : ℕ) (found : Option ServerOp) → whole text n ≡ sight bytes → lost ≡ lost_at text n
    → option_map op_view found ≡ op_of text → got_or_fault n lost (option_map op_view found) ≡ front bytes
whole_front bytes text n lost found sees loses is = rw (loses, is) (sym (front_by_sight bytes (whole text n) sees))

size_fits : (found : Front) (bytes : List ℕ) → front bytes ≡ found → size_of found ≤ length bytes
size_fits unfinished bytes is = omega arith
size_fits (got op n) bytes is = front_fits bytes op n is
size_fits (fault n) bytes is = fault_fits bytes n is

pub found_fits : (found : Front) (bytes : List ℕ) → found ≡ front bytes → size_of found ≤ length bytes
found_fits found bytes is = size_fits found bytes (sym is)
