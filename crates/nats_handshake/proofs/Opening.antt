-- A handshake that goes on by pieces opens its link at the first piece that holds its success.
use Rattle.std.proofs.Common.{◌≡◌, refl, ◌∙◌, sym, ap, Bool, ℕ, List, [], ◌∷◌, ◌++◌, drop, append_assoc, Option, Some, None, Result, Ok}
use Rattle.std.specs.List.{concat}
use Rattle.std.specs.Option.{option_or}
use Rattle.nats_info.specs.declared.info.ServerInfo.{ServerInfo}
use Rattle.nats_pool.specs.Auths.{AuthValue}
use Rattle.nats_lines.specs.Operations.{info_op, front}
use Rattle.nats_lines.proofs.Fronts.{front_more}
use Rattle.nats_handshake.specs.declared.course.Verdict.{Verdict}
use Rattle.nats_handshake.specs.declared.course.Verdict.TheVariants as verdict
use Rattle.nats_handshake.specs.declared.course.Greeting.{Greeting}
use Rattle.nats_handshake.specs.declared.course.Greeting.TheVariants as greeting
use Rattle.nats_handshake.specs.declared.stage.Stage.{Stage}
use Rattle.nats_handshake.specs.declared.stage.Stage.TheVariants as stage
use Rattle.nats_handshake.specs.declared.stage.Shake.TheVariants as shake
use Rattle.nats_handshake.specs.Course.{Course, course, greeting_at}
use Rattle.nats_handshake.specs.Shaking.{Talk, operations_most, Greeted, Heeds}
use Rattle.nats_handshake.specs.Heard.{Succeeds, Heard, IsOpen}
use Rattle.nats_handshake.specs.Opened.{Opened, opened_by, opened_at, opened_in, opened_from}
use Rattle.nats_handshake.proofs.Hearing.{answer_waits}

-- ---- lists of pieces

-- whether a text holds the success doesn't hang on what comes later
none_by : (v : Verdict) (info : ServerInfo) (c : Course) (later other : List (List ℕ)) → opened_by v info c later ≡ None
    → opened_by v info c other ≡ None
none_by verdict.Succeeds info c later other none = cc
none_by verdict.Waits info c later other none = refl
none_by (verdict.Refuses r) info c later other none = refl

none_at : (g : Greeting) (text : List ℕ) (later other : List (List ℕ)) → opened_at g text later ≡ None → opened_at g text other ≡ None
none_at (greeting.Greets info n) text later other none =
    let c = course operations_most (drop n text) in none_by c.verdict info c later other none
none_at greeting.Waits text later other none = refl
none_at (greeting.Refuses r) text later other none = refl

none_in : (text : List ℕ) (later other : List (List ℕ)) → opened_in text later ≡ None → opened_in text other ≡ None
none_in text later other none = none_at (greeting_at (front text)) text later other none

or_none : {A : Type 0} (a b : Option A) → option_or a b ≡ None → (a ≡ None) × (b ≡ None)
or_none None b none = (refl, none)
or_none (Some x) b none = cc

or_right : {A : Type 0} (a b : Option A) → a ≡ None → option_or a b ≡ b
or_right None b none = refl
or_right (Some x) b none = cc

or_nothing : {A : Type 0} (a : Option A) → option_or a None ≡ a
or_nothing None = refl
or_nothing (Some x) = refl

-- one more piece, where those before hold no success
pub opened_more : (heard : List ℕ) (pieces : List (List ℕ)) (piece : List ℕ) → opened_from heard pieces ≡ None
    → opened_from heard (pieces ++ piece ∷ []) ≡ opened_in (heard ++ (concat pieces ++ piece)) []
opened_more heard [] piece none = or_nothing (opened_in (heard ++ piece) [])
opened_more heard (first ∷ pieces) piece none =
    let both = or_none (opened_in (heard ++ first) pieces) (opened_from (heard ++ first) pieces) none in
    or_right (opened_in (heard ++ first) (pieces ++ piece ∷ [])) (opened_from (heard ++ first) (pieces ++ piece ∷ []))
    (none_in (heard ++ first) pieces (pieces ++ piece ∷ []) both.0)
    ∙ (opened_more (heard ++ first) pieces piece both.1
    ∙ ap (λ (text : List ℕ). opened_in text [])
    (append_assoc heard first (concat pieces ++ piece) ∙ ap (λ (t : List ℕ). heard ++ t) (sym (append_assoc first (concat pieces) piece))))

abbrev pub with_later : List (List ℕ) → Opened → Opened
with_later more o = record o { later = o.later ++ more }

abbrev lifted : List (List ℕ) → Option Opened → Option Opened
lifted more None = None
lifted more (Some o) = Some (with_later more o)

later_by : (v : Verdict) (info : ServerInfo) (c : Course) (later more : List (List ℕ)) (o : Opened) → opened_by v info c later ≡ Some o
    → opened_by v info c (later ++ more) ≡ Some (with_later more o)
later_by verdict.Succeeds info c later more o is = ap (lifted more) is
later_by verdict.Waits info c later more o is = cc
later_by (verdict.Refuses r) info c later more o is = cc

later_at : (g : Greeting) (text : List ℕ) (later more : List (List ℕ)) (o : Opened) → opened_at g text later ≡ Some o
    → opened_at g text (later ++ more) ≡ Some (with_later more o)
later_at (greeting.Greets info n) text later more o is =
    let c = course operations_most (drop n text) in later_by c.verdict info c later more o is
later_at greeting.Waits text later more o is = cc
later_at (greeting.Refuses r) text later more o is = cc

-- pieces that hold the success still do with more behind them, which come later
pub opened_later : (heard : List ℕ) (pieces more : List (List ℕ)) (o : Opened) → opened_from heard pieces ≡ Some o
    → opened_from heard (pieces ++ more) ≡ Some (with_later more o)
opened_later heard [] more o is = cc
opened_later heard (first ∷ pieces) more o is =
    by (λ later. opened_later (heard ++ first) pieces more o later) (opened_in (heard ++ first) pieces) refl
  where
    by : (opened_from (heard ++ first) pieces ≡ Some o
        → opened_from (heard ++ first) (pieces ++ more) ≡ Some (with_later more o))
        → (x : Option Opened) → opened_in (heard ++ first) pieces ≡ x
        → option_or (opened_in (heard ++ first) (pieces ++ more)) (opened_from (heard ++ first) (pieces ++ more)) ≡ Some (with_later more o)
    by behind None same =
        or_right (opened_in (heard ++ first) (pieces ++ more)) (opened_from (heard ++ first) (pieces ++ more))
        (none_in (heard ++ first) pieces (pieces ++ more) same)
        ∙ behind (sym (or_right (opened_in (heard ++ first) pieces) (opened_from (heard ++ first) pieces) same) ∙ is)
    by behind (Some x) same =
        ap (λ (y : Option Opened). option_or y (opened_from (heard ++ first) (pieces ++ more)))
        (later_at (greeting_at (front (heard ++ first))) (heard ++ first) pieces more x same)
        ∙ ap (lifted more) (sym (ap (λ (y : Option Opened). option_or y (opened_from (heard ++ first) pieces)) same) ∙ is)

-- ---- a handshake

-- a text that comes to success
pub succeeds_opened : (info : ServerInfo) (rest said text : List ℕ) (later : List (List ℕ)) → Succeeds info rest said text
    → opened_in text later ≡ Some (record { info = info; said = said; rest = rest; later = later })
succeeds_opened info rest said text later s =
    ap (λ (f : _). opened_at (greeting_at f) text later) s.first
    ∙ ap (λ (c : Course). opened_by c.verdict info c later) s.all

module _ (Discovers : List (List ℕ) → List (List ℕ) → Type 0) (Stays : Type 0)
    (Offers : List ℕ → Result AuthValue (List ℕ) → Type 0) (by_option : Bool) (name : Option (List ℕ)) (no_echo : Bool)
  where
    greeted_none : (said : Greeting) (t new : Talk) (later : List (List ℕ))
        → Greeted Discovers Stays Offers by_option name no_echo said t shake.More new → opened_at said t.unread later ≡ None
    greeted_none greeting.Waits t new later g = refl
    greeted_none (greeting.Refuses r) t new later g = absurd g
    greeted_none (greeting.Greets info n) t new later g =
        let c = course operations_most (drop n t.unread) in
        ap (λ (v : Verdict). opened_by v info c later) (answer_waits c.verdict g.3.0)

    -- while more is due the text holds no success
    pub more_unopened : (at : Stage) (t new : Talk) (unread wrote text bytes : List ℕ) (later : List (List ℕ)) → IsOpen at
        → t.unread ≡ unread ++ bytes → Heard Offers name no_echo at unread wrote text
        → Heeds Discovers Stays Offers by_option name no_echo at t (Ok shake.More) new → opened_in (text ++ bytes) later ≡ None
    more_unopened stage.Greets t new unread wrote text bytes later going same h comes =
        let whole : t.unread ≡ text ++ bytes = same ∙ ap (λ (u : List ℕ). u ++ bytes) h.0 in
        ap (λ (u : List ℕ). opened_in u later) (sym whole)
        ∙ greeted_none (greeting_at (front t.unread)) t new later comes
    more_unopened (stage.Asks info left) t new unread wrote text bytes later going same h comes =
        let k = h.2 in
        let c = course operations_most (drop k.len (text ++ bytes)) in
        ap (λ (f : _). opened_at (greeting_at f) (text ++ bytes) later) (front_more text bytes (info_op info) k.len k.first)
        ∙ ap (λ (v : Verdict). opened_by v info c later) (
        ap (λ (d : Course). d.verdict) (k.alike bytes)
        ∙ (ap (λ (u : List ℕ). (course left u).verdict) (sym same) ∙ answer_waits (course left t.unread).verdict comes.1.0))
    more_unopened (stage.Linked info) t new unread wrote text bytes later going same h comes = absurd going
    more_unopened (stage.Refused kind) t new unread wrote text bytes later going same h comes = absurd going
