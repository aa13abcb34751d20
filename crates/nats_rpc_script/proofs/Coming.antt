-- How lines come, one after another.
use Rattle.std.proofs.Common.{◌≡◌, ℕ, suc, ◌⊎◌, inl, inr, List, [], ◌∷◌, ◌++◌, refl, sym, subst, Result, Ok, Err, IfOk, take, get_or, length, ◌+◌, ◌<◌, zero, arith, ◌∙◌, ap}
use Rattle.nats_history.specs.declared.config.Config.{Config}
use Rattle.nats_history.specs.declared.turn.Turn.{Turn}
use Rattle.nats_core.specs.declared.entry.Entry.{Entry}
use Rattle.nats_core.specs.Journal.{turns_of}
use Rattle.nats_rpc_script.specs.declared.lines.Kind.{Kind}
use Rattle.nats_rpc_script.specs.declared.play.Came.{Came}
use Rattle.nats_rpc_script.specs.declared.play.Came.TheVariants as came
use Rattle.nats_rpc_script.specs.declared.play.Player.{Player}
use Rattle.nats_rpc_script.specs.declared.play.Played.{Played}
use Rattle.nats_rpc_script.specs.Played.{Begins, LineComes, Come, ComesTo, Ends, PlaysAll}

-- a line is played, and then the others come
pub one_played : (place : ℕ) (turn : Turn) (more : List Turn) (kind : Kind) (others : List Kind) (turns : List Turn)
    (kinds : List Kind) (old mid : Player) (came' : Came) (at : ℕ) (last : Player)
    → turns ≡ turn ∷ more → kinds ≡ kind ∷ others → LineComes kind turn place old came.Played mid
    → Come (place + 1) more others mid came' at last → Come place turns kinds old came' at last
one_played place turn more kind others turns kinds old mid came' at last is so line rest =
    let next : place + 1 ≡ suc place = omega arith in
    subst (λ ts. Come place ts kinds old came' at last) (sym is)
    (subst (λ ks. Come place (turn ∷ more) ks old came' at last) (sym so)
    (inl (mid, line, subst (λ n. Come n more others mid came' at last) next rest)))

-- a line that is not played is the last that is looked at
pub one_stops : (place : ℕ) (turn : Turn) (more : List Turn) (kind : Kind) (others : List Kind) (turns : List Turn)
    (kinds : List Kind) (old new : Player) (came' : Came)
    → turns ≡ turn ∷ more → kinds ≡ kind ∷ others → (came' ≡ came.Played → ⊥) → LineComes kind turn place old came' new
    → Come place turns kinds old came' place new
one_stops place turn more kind others turns kinds old new came' is so stops line =
    subst (λ ts. Come place ts kinds old came' place new) (sym is)
    (subst (λ ks. Come place (turn ∷ more) ks old came' place new) (sym so) (inr (stops, line, refl)))

pub unreadable_stops : came.Unreadable ≡ came.Played → ⊥
unreadable_stops e = let no : ⊥ = cc in no

pub out_of_turn_stops : came.OutOfTurn ≡ came.Played → ⊥
out_of_turn_stops e = let no : ⊥ = cc in no

-- no line is left
pub no_turns : (place : ℕ) (turns : List Turn) (kinds : List Kind) (old : Player) (at : ℕ) → turns ≡ []
    → Come place turns kinds old came.Played at old
no_turns place turns kinds old at is =
    subst (λ ts. Come place ts kinds old came.Played at old) (sym is) (refl, refl)

pub no_kinds : (place : ℕ) (turns : List Turn) (kinds : List Kind) (old : Player) (at : ℕ) → kinds ≡ []
    → Come place turns kinds old came.Played at old
no_kinds place [] kinds old at is = (refl, refl)
no_kinds place (turn ∷ more) kinds old at is =
    subst (λ ks. Come place (turn ∷ more) ks old came.Played at old) (sym is) (refl, refl)

-- lines that were played, and what they came to
pub comes_to : (turns : List Turn) (kinds : List Kind) (start last : Player) (came' : Came) (at : ℕ) (played : Played)
    → Come 1 turns kinds start came' at last → Ends came' at last played → ComesTo turns kinds start played
comes_to turns kinds start last came' at played come ends = (last, came', at, come, ends)

-- from a new caller and a new core on
pub plays_all : (config : Config) (turns : List Turn) (kinds : List Kind) (tries patience : ℕ) (start : Player)
    (played : Played) → Begins config tries patience start → ComesTo turns kinds start played
    → PlaysAll config turns kinds tries patience played
plays_all config turns kinds tries patience start played begins (last, came', at, come, ends) = record {
  start = start;
  last = last;
  came' = came';
  at = at;
  begins = begins;
  come = come;
  ends = ends;
}

-- what holds of an answer holds of what is made of it
pub on_ok : {A E : Type 0} (r : Result A E) (P Q : A → Type 0) → ((a : A) → P a → Q a) → IfOk r P → IfOk r Q
on_ok (Ok a) P Q f h = f a h
on_ok (Err e) P Q f h = tt

turns_next : (entries : List Entry) (i : ℕ) (entry : Entry) → i < length entries → entry ≡ get_or entries i entry
    → turns_of (take (suc i) entries) ≡ turns_of (take i entries) ++ entry.turn ∷ []
turns_next [] i entry below is = absurd (omega (arith, below))
turns_next (e ∷ entries) zero entry below is = ap (λ (x : Entry). x.turn ∷ []) (sym is)
turns_next (e ∷ entries) (suc i) entry below is =
    ap (λ (ts : List Turn). e.turn ∷ ts) (turns_next entries i entry (omega (arith, below)) is)

-- the turns of one entry more
pub turns_more : (entries : List Entry) (i : ℕ) (entry : Entry) → i < length entries → entry ≡ get_or entries i entry
    → turns_of (take (i + 1) entries) ≡ turns_of (take i entries) ++ entry.turn ∷ []
turns_more entries i entry below is =
    let next : i + 1 ≡ suc i = omega arith in
    ap (λ (n : ℕ). turns_of (take n entries)) next ∙ turns_next entries i entry below is
