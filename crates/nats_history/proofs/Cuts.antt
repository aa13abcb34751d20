-- How pieces cut the bytes of a link makes no difference: what is read stays read when bytes join, and behind a turn no
-- call is due that reading could make wait.
use Rattle.std.proofs.Common.{◌≡◌, ℕ, zero, suc, ◌≤◌, ◌<◌, Bool, true, false, cond, List, [], ◌∷◌, ◌++◌, length, nat_lt, Option, Some, None, refl, sym, ◌∙◌, ap, subst, arith}
use Rattle.std.proofs.lemmas.Bool.{false≢true, ltb-true, lt-ltb}
use Rattle.std.proofs.lemmas.List.{append_assoc, length-append}
use Rattle.std.proofs.lemmas.Option.{none-some}
use Rattle.nats_message.specs.declared.op.ClientOp.{ClientOp}
use Rattle.nats_lines.specs.Laws.{IsGot}
use Rattle.nats_lines.specs.Operations.{Operation, Front, got, unfinished, fault, front}
use Rattle.nats_lines.proofs.Fronts.{front_more, past_more}
use Rattle.nats_history.specs.declared.config.Config.{Config}
use Rattle.nats_history.specs.declared.call.Call.{Call}
use Rattle.nats_history.specs.declared.turn.Turn.{Turn}
use Rattle.nats_history.specs.declared.turn.Turn.TheVariants.{Piece}
use Rattle.nats_history.specs.declared.transcript.LinkWord.{LinkWord}
use Rattle.nats_history.specs.declared.transcript.LinkWord.TheVariants as word
use Rattle.nats_history.specs.History.{Step, fed, read, link_end, History, texts}
use Rattle.nats_history.specs.Parts.{Parts, parts_of}
use Rattle.nats_history.specs.Schedule.{is_valid_turn, closes, closing, ending, read_end, chain, own_steps, due_call, due_by, due, most_due, write_limit, put_steps, after_turn, steps_from, steps, out_of_turn_from, out_of_turn}
use Rattle.nats_history.specs.After.{written, commands_of, after, after_all, due_steps}
use Rattle.nats_history.specs.Laws.{onto_piece, uncut, onto_unfed, unfed, CutAnyhow, UncutInTurn}
use Rattle.nats_history.proofs.Dues.{bound_falls, none_due, one_due, after_append, none_left}
use Rattle.nats_history.proofs.Plays.{parts_after_all, put_append, same_turn}
use Rattle.nats_history.proofs.Words.{written_all}

-- ---- bytes join the unread ones

abbrev with_unread : List ℕ → Parts → Parts
with_unread bytes p = record p { link = record p.link { wire = record p.link.wire { unread = bytes } } }

-- parts with more unread bytes
abbrev joined_by : List ℕ → Parts → Parts
joined_by more p = with_unread (p.link.wire.unread ++ more) p

fed_joins : (p : Parts) (bytes : List ℕ) → p.link.is_up ≡ true → after p (fed bytes) ≡ joined_by bytes p
fed_joins p bytes up = ap (λ b. with_unread (cond b (p.link.wire.unread ++ bytes) []) p) up

joined_twice : (p : Parts) (a b : List ℕ) → joined_by b (joined_by a p) ≡ joined_by (a ++ b) p
joined_twice p a b = ap (λ bytes. with_unread bytes p) (append_assoc p.link.wire.unread a b)

-- what is read is read alike when bytes join
read_joins : (p : Parts) (operation : Operation) (n : ℕ) (more : List ℕ) → front p.link.wire.unread ≡ got operation n
    → after (joined_by more p) (read operation) ≡ joined_by more (after p (read operation))
read_joins p operation n more e =
    let stays = past_more p.link.wire.unread more (subst IsGot (sym e) tt) in
    ap (λ bytes. with_unread bytes (after p (read operation))) stays

-- ---- no call is due

-- no call waits, or so many bytes wait that none is handled
abbrev NoCall : Parts → Type 0
NoCall p = due_call (nat_lt (length p.link.wire.waiting) write_limit) p.calls ≡ None

calls_wait : (room less : Bool) (calls : List Call) → (less ≡ true → room ≡ true) → due_call room calls ≡ None
    → due_call less calls ≡ None
calls_wait room false calls imply none = refl
calls_wait room true [] imply none = refl
calls_wait true true (call ∷ more) imply none = none
calls_wait false true (call ∷ more) imply none = absurd (false≢true (imply refl))

-- writing takes no byte away
writes_more : (commands : List ClientOp) (waiting : List ℕ) → length waiting ≤ length (written true commands waiting)
writes_more [] waiting = omega arith
writes_more (command ∷ more) waiting =
    omega (arith, length-append waiting (texts (command ∷ more)), ap length (written_all (command ∷ more) waiting))

less_room : (p : Parts) (step : Step) (up : Bool) → p.link.is_up ≡ up → up ≡ true
    → nat_lt (length (written up (commands_of p step) p.link.wire.waiting)) write_limit ≡ true
    → nat_lt (length p.link.wire.waiting) write_limit ≡ true
less_room p step true is e room =
    let more = writes_more (commands_of p step) p.link.wire.waiting in
    let below = ltb-true (length (written true (commands_of p step) p.link.wire.waiting)) write_limit room in
    lt-ltb (length p.link.wire.waiting) write_limit (omega (arith, more, below))
less_room p step false is e room = absurd (false≢true e)

-- ---- the link stays up

-- the link is up behind all steps that are due
abbrev StaysUp : Parts → Type 0
StaysUp p = (after_all p (due_steps p)).link.is_up ≡ true

-- what is due while a link is up
due_up : (p : Parts) → p.link.is_up ≡ true → due p ≡ due_by (front p.link.wire.unread) p
due_up p up = ap (λ u. cond u (due_by (front p.link.wire.unread) p) None) up

down_due : (q : Parts) → q.link.is_up ≡ false → due q ≡ None
down_due q e = ap (λ up. cond up (due_by (front q.link.wire.unread) q) None) e

down_stays : (q : Parts) → q.link.is_up ≡ false → StaysUp q → ⊥
down_stays q e stays =
    false≢true (sym e ∙ (ap (λ steps. (after_all q steps).link.is_up) (sym (none_due q (down_due q e))) ∙ stays))

ends_down : (q : Parts) (end : LinkWord) (b : Bool) → (after_all q (link_end end ∷ closing b)).link.is_up ≡ false
ends_down q end true = refl
ends_down q end false = refl

stays_next : (p : Parts) (step : Step) → due p ≡ Some step → StaysUp p → StaysUp (after_all p (chain p step))
stays_next p step e stays =
    let q = after_all p (chain p step) in
    ap (λ (r : Parts). r.link.is_up) (sym (after_append (chain p step) (due_steps q) p))
    ∙ (ap (λ steps. (after_all p steps).link.is_up) (sym (one_due p step e)) ∙ stays)

-- ---- the steps that are due when more bytes joined

-- the steps that are due come with more bytes too, and then those that are due behind them with more bytes
abbrev JoinsBy : List ℕ → Parts → List Step → Type 0
JoinsBy more p steps =
    (due_steps (joined_by more p) ≡ steps ++ due_steps (joined_by more (after_all p steps)))
    × (after_all (joined_by more p) steps ≡ joined_by more (after_all p steps))

abbrev Joins : List ℕ → Parts → Type 0
Joins more p = JoinsBy more p (due_steps p)

none_joins : (more : List ℕ) (p : Parts) → due p ≡ None → Joins more p
none_joins more p e = subst (JoinsBy more p) (sym (none_due p e)) (refl, refl)

-- an operation stands there while a link is up
due_read : (p : Parts) (operation : Operation) (n : ℕ) → p.link.is_up ≡ true
    → front p.link.wire.unread ≡ got operation n → due p ≡ Some (read operation)
due_read p operation n up is = due_up p up ∙ ap (λ f. due_by f p) is

-- a read that does not end the link
read_due : (p : Parts) (operation : Operation) (n : ℕ) → p.link.is_up ≡ true
    → front p.link.wire.unread ≡ got operation n → read_end p.link.pings operation ≡ None
    → due_steps p ≡ read operation ∷ due_steps (after p (read operation))
read_due p operation n up is goes =
    let q = after p (read operation) in
    let after_end = ending p.drain.is_handled in
    one_due p (read operation) (due_read p operation n up is)
    ∙ ap (λ end. (read operation ∷ after_end end) ++ due_steps (after_all q (after_end end))) goes

module _ (more : List ℕ) where
  read_goes_on : (p : Parts) (operation : Operation) (n : ℕ) → p.link.is_up ≡ true
      → front p.link.wire.unread ≡ got operation n → read_end p.link.pings operation ≡ None
      → Joins more (after p (read operation)) → Joins more p
  read_goes_on p operation n up is goes later =
      let q = after p (read operation) in
      let same = read_joins p operation n more is in
      let stays = front_more p.link.wire.unread more operation n is in
      let longer = read_due (joined_by more p) operation n up stays goes in
      subst (JoinsBy more p) (sym (read_due p operation n up is goes)) (
        longer ∙ (ap (λ r. read operation ∷ due_steps r) same ∙ ap (λ steps. read operation ∷ steps) later.0),
        ap (λ r. after_all r (due_steps q)) same ∙ later.1,
      )

  joins_by : (p : Parts) → ((q : Parts) → most_due q < most_due p → NoCall q → StaysUp q → Joins more q)
      → NoCall p → StaysUp p → Joins more p
  joins_by p smaller none stays = by_up p.link.is_up refl
    where
      by_end : (operation : Operation) (n : ℕ) (end : Option LinkWord) → p.link.is_up ≡ true
          → front p.link.wire.unread ≡ got operation n
          → read_end p.link.pings operation ≡ end → Joins more p
      by_end operation n None up is goes =
          let d = due_read p operation n up is in
          let q = after p (read operation) in
          let alone : chain p (read operation) ≡ read operation ∷ [] =
          ap (λ end. read operation ∷ ending p.drain.is_handled end) goes
          in
          let falls : most_due q < most_due p =
          subst (λ steps. most_due (after_all p steps) < most_due p) alone (bound_falls p (read operation) d)
          in
          let waits : NoCall q = calls_wait _ _ p.calls (less_room p (read operation) p.link.is_up refl up) none in
          let up_later : StaysUp q =
          subst (λ steps. StaysUp (after_all p steps)) alone (stays_next p (read operation) d stays)
          in
          read_goes_on p operation n up is goes (smaller q falls waits up_later)
      by_end operation n (Some end) up is goes =
          let d = due_read p operation n up is in
          let drained = p.drain.is_handled in
          let q = after p (read operation) in
          let rest = link_end end ∷ closing (closes drained end) in
          let last : chain p (read operation) ≡ read operation ∷ rest =
          ap (λ end. read operation ∷ ending drained end) goes
          in
          let up_later : StaysUp (after_all q rest) =
          subst (λ steps. StaysUp (after_all p steps)) last (stays_next p (read operation) d stays)
          in
          absurd (down_stays (after_all q rest) (ends_down q end (closes drained end)) up_later)

      by_front : (f : Front) → p.link.is_up ≡ true → front p.link.wire.unread ≡ f → Joins more p
      by_front (got operation n) up is = by_end operation n (read_end p.link.pings operation) up is refl
      by_front (fault n) up is =
          let d : due p ≡ Some (link_end word.Fault) = due_up p up ∙ ap (λ f. due_by f p) is in
          let closed_too = closes p.drain.is_handled word.Fault in
          let rest = link_end word.Fault ∷ closing closed_too in
          let up_later : StaysUp (after_all p rest) = stays_next p (link_end word.Fault) d stays in
          absurd (down_stays (after_all p rest) (ends_down p word.Fault closed_too) up_later)
      by_front unfinished up is = none_joins more p (due_up p up ∙ (ap (λ f. due_by f p) is ∙ none))

      by_up : (up : Bool) → p.link.is_up ≡ up → Joins more p
      by_up true e = by_front (front p.link.wire.unread) e refl
      by_up false e = none_joins more p (down_due p e)

  joins_within : (most : ℕ) (p : Parts) → most_due p ≤ most → NoCall p → StaysUp p → Joins more p
  joins_within zero p fits none stays = joins_by p (λ q less n s. absurd (omega (arith, less, fits))) none stays
  joins_within (suc most) p fits none stays =
      joins_by p (λ q less n s. joins_within most q (omega (arith, less, fits)) n s) none stays

  joins : (p : Parts) → NoCall p → StaysUp p → Joins more p
  joins p none stays = joins_within (most_due p) p (omega arith) none stays

-- ---- turns over parts

-- all steps of a turn
abbrev turn_steps : Parts → Turn → List Step
turn_steps p turn = own_steps p turn ++ due_steps (after_all p (own_steps p turn))

abbrev after_steps : Parts → Turn → Parts
after_steps p turn = after_all p (turn_steps p turn)

-- all steps of some turns
abbrev all_steps : Parts → List Turn → List Step
all_steps p [] = []
all_steps p (turn ∷ turns) = turn_steps p turn ++ all_steps (after_steps p turn) turns

-- each turn may come where it stands
abbrev Fit : Parts → List Turn → Type 0
Fit p [] = Unit {0}
Fit p (turn ∷ turns) = (is_valid_turn p turn ≡ true) × Fit (after_steps p turn) turns

settled_turn : (p : Parts) (turn : Turn) → due (after_steps p turn) ≡ None
settled_turn p turn =
    let q = after_all p (own_steps p turn) in
    ap due (after_append (own_steps p turn) (due_steps q) p) ∙ none_left q

-- ---- what is told of steps

abbrev told_on : List Step → List Step → List Step
told_on [] told = told
told_on (step ∷ steps) told = told_on steps (onto_unfed step told)

told_append : (xs ys told : List Step) → told_on (xs ++ ys) told ≡ told_on ys (told_on xs told)
told_append [] ys told = refl
told_append (x ∷ xs) ys told = told_append xs ys (onto_unfed x told)

unfed_put : (place : ℕ) (steps : List Step) (h : History) → unfed (put_steps place steps h) ≡ told_on steps (unfed h)
unfed_put place [] h = refl
unfed_put place (step ∷ steps) h = unfed_put place steps ((place, step) ∷ h)

-- a turn over histories puts the steps of the turn over parts
turn_put : (c : Config) (place : ℕ) (turn : Turn) (h : History)
    → after_turn c place turn h ≡ put_steps place (turn_steps (parts_of c h) turn) h
turn_put c place turn h =
    let own = own_steps (parts_of c h) turn in
    same_turn c place turn h ∙ sym (put_append place own (due_steps (after_all (parts_of c h) own)) h)

turn_parts : (c : Config) (place : ℕ) (turn : Turn) (h : History)
    → parts_of c (after_turn c place turn h) ≡ after_steps (parts_of c h) turn
turn_parts c place turn h =
    ap (parts_of c) (turn_put c place turn h) ∙ parts_after_all c h place (turn_steps (parts_of c h) turn)

unfed_steps : (c : Config) (place : ℕ) (turns : List Turn) (h : History)
    → unfed (steps_from c place turns h) ≡ told_on (all_steps (parts_of c h) turns) (unfed h)
unfed_steps c place [] h = refl
unfed_steps c place (turn ∷ turns) h =
    let p = parts_of c h in
    let more = after_turn c place turn h in
    let here : unfed more ≡ told_on (turn_steps p turn) (unfed h) =
    ap unfed (turn_put c place turn h) ∙ unfed_put place (turn_steps p turn) h
    in
    unfed_steps c (suc place) turns more
    ∙ (ap (λ q. told_on (all_steps q turns) (unfed more)) (turn_parts c place turn h)
    ∙ (ap (told_on (all_steps (after_steps p turn) turns)) here
    ∙ sym (told_append (turn_steps p turn) (all_steps (after_steps p turn) turns) (unfed h))))

valid_both : (b : Bool) (later : Option ℕ) (place : ℕ) → cond b later (Some place) ≡ None
    → (b ≡ true) × (later ≡ None)
valid_both true later place e = (refl, e)
valid_both false later place e = absurd (none-some place (sym e))

-- each turn of a valid list fits
valid_fit : (c : Config) (place : ℕ) (turns : List Turn) (h : History) → out_of_turn_from c place turns h ≡ None
    → Fit (parts_of c h) turns
valid_fit c place [] h e = tt
valid_fit c place (turn ∷ turns) h e =
    let more = after_turn c place turn h in
    let both = valid_both (is_valid_turn (parts_of c h) turn) (out_of_turn_from c (suc place) turns more) place e in
    (both.0, subst (λ q. Fit q turns) (turn_parts c place turn h) (valid_fit c (suc place) turns more both.1))

-- and turns that fit are a valid list
fit_valid : (c : Config) (place : ℕ) (turns : List Turn) (h : History) → Fit (parts_of c h) turns
    → out_of_turn_from c place turns h ≡ None
fit_valid c place [] h fit = refl
fit_valid c place (turn ∷ turns) h fit =
    let more = after_turn c place turn h in
    ap (λ b. cond b (out_of_turn_from c (suc place) turns more) (Some place)) fit.0
    ∙ fit_valid c (suc place) turns more (subst (λ q. Fit q turns) (sym (turn_parts c place turn h)) fit.1)

-- ---- one cut

-- where no step is due while a link is up, no call is
no_call : (p : Parts) → p.link.is_up ≡ true → due p ≡ None → NoCall p
no_call p up e =
    by_front (front p.link.wire.unread) (sym (due_up p up) ∙ e)
  where
    by_front : (f : Front) → due_by f p ≡ None → NoCall p
    by_front (got operation n) is = absurd (none-some (read operation) (sym is))
    by_front (fault n) is = absurd (none-some (link_end word.Fault) (sym is))
    by_front unfinished is = is

-- the parts behind all steps that are due
abbrev played : Parts → Parts
played p = after_all p (due_steps p)

-- two pieces, one after another, behind which no step is due
module _ (p : Parts) (a b : List ℕ) (nothing : due p ≡ None) (up : p.link.is_up ≡ true)
    (up_later : (after_steps p (Piece a)).link.is_up ≡ true) where
  abbrev begun : Parts
  begun = joined_by a p

  abbrev later_on : Parts
  later_on = joined_by b (played begun)

  begins : after p (fed a) ≡ begun
  begins = fed_joins p a up

  both_join : Joins b begun
  both_join = joins b begun (no_call p up nothing) (subst StaysUp begins up_later)

  begins_whole : after p (fed (a ++ b)) ≡ joined_by b begun
  begins_whole = fed_joins p (a ++ b) up ∙ sym (joined_twice p a b)

  goes_on : after (after_steps p (Piece a)) (fed b) ≡ later_on
  goes_on = fed_joins (after_steps p (Piece a)) b up_later ∙ ap (λ q. joined_by b (played q)) begins

  cut_parts : after_steps p (Piece (a ++ b)) ≡ after_steps (after_steps p (Piece a)) (Piece b)
  cut_parts =
      ap played begins_whole
      ∙ (ap (after_all (joined_by b begun)) both_join.0
      ∙ (after_append (due_steps begun) (due_steps later_on) (joined_by b begun)
      ∙ (ap (λ q. after_all q (due_steps later_on)) both_join.1
      ∙ sym (ap played goes_on))))

  cut_told : (told : List Step) → told_on (turn_steps p (Piece (a ++ b))) told
      ≡ told_on (turn_steps (after_steps p (Piece a)) (Piece b)) (told_on (turn_steps p (Piece a)) told)
  cut_told told =
      ap (λ q. told_on (due_steps q) told) begins_whole
      ∙ (ap (λ steps. told_on steps told) both_join.0
      ∙ (told_append (due_steps begun) (due_steps later_on) told
      ∙ (ap (λ q. told_on (due_steps later_on) (told_on (due_steps q) told)) (sym begins)
      ∙ ap (λ q. told_on (due_steps q) (told_on (turn_steps p (Piece a)) told)) (sym goes_on))))

-- ---- any cuts

-- the other turns fit there, and tell the same
abbrev Alike : Parts → List Turn → List Turn → Type 0
Alike p turns others =
    Fit p others × ((told : List Step) → told_on (all_steps p others) told ≡ told_on (all_steps p turns) told)

-- turns behind one that are alike
alike_behind : (p : Parts) (turn : Turn) (turns others : List Turn) → is_valid_turn p turn ≡ true
    → Alike (after_steps p turn) turns others → Alike p (turn ∷ turns) (turn ∷ others)
alike_behind p turn turns others valid alike =
    let q = after_steps p turn in (
      (valid, alike.0),
      λ told.
          told_append (turn_steps p turn) (all_steps q others) told
          ∙ (alike.1 (told_on (turn_steps p turn) told)
          ∙ sym (told_append (turn_steps p turn) (all_steps q turns) told)),
    )

onto_alike : (p : Parts) (bytes : List ℕ) (turns : List Turn) → due p ≡ None → Fit p (Piece bytes ∷ turns)
    → Alike p (Piece bytes ∷ turns) (onto_piece bytes turns)
onto_alike p bytes (Piece more ∷ turns) nothing fit =
    let first = after_steps p (Piece bytes) in
    let q = after_steps first (Piece more) in
    let whole = turn_steps p (Piece (bytes ++ more)) in
    let then = turn_steps first (Piece more) in
    let same = cut_parts p bytes more nothing fit.0 fit.1.0 in (
      (fit.0, subst (λ r. Fit r turns) (sym same) fit.1.1),
      λ told.
          told_append whole (all_steps (after_steps p (Piece (bytes ++ more))) turns) told
          ∙ (ap (λ r. told_on (all_steps r turns) (told_on whole told)) same
          ∙ (ap (told_on (all_steps q turns)) (cut_told p bytes more nothing fit.0 fit.1.0 told)
          ∙ (sym (told_append then (all_steps q turns) (told_on (turn_steps p (Piece bytes)) told))
          ∙ sym (told_append (turn_steps p (Piece bytes)) (then ++ all_steps q turns) told)))),
    )
onto_alike p bytes turns nothing fit = (fit, λ told. refl)

uncut_alike : (p : Parts) (turns : List Turn) → due p ≡ None → Fit p turns → Alike p turns (uncut turns)
uncut_alike p [] nothing fit = (tt, λ told. refl)
uncut_alike p (Piece bytes ∷ turns) nothing fit =
    let later = uncut_alike (after_steps p (Piece bytes)) turns (settled_turn p (Piece bytes)) fit.1 in
    let kept = alike_behind p (Piece bytes) turns (uncut turns) fit.0 later in
    let first = onto_alike p bytes (uncut turns) nothing kept.0 in
    (first.0, λ told. first.1 told ∙ kept.1 told)
uncut_alike p (turn ∷ turns) nothing fit =
    alike_behind p turn turns (uncut turns) fit.0 (uncut_alike (after_steps p turn) turns (settled_turn p turn) fit.1)

-- a valid list tells what it tells uncut
uncut_told : (c : Config) (turns : List Turn) → out_of_turn c turns ≡ None
    → unfed (steps c turns) ≡ told_on (all_steps (parts_of c []) (uncut turns)) []
uncut_told c turns valid =
    unfed_steps c 1 turns [] ∙ sym ((uncut_alike (parts_of c []) turns refl (valid_fit c 1 turns [] valid)).1 [])

pub cut_anyhow : CutAnyhow
cut_anyhow c turns others valid valid_too alike =
    uncut_told c turns valid
    ∙ (ap (λ list. told_on (all_steps (parts_of c []) list) []) alike ∙ sym (uncut_told c others valid_too))

pub uncut_in_turn : UncutInTurn
uncut_in_turn c turns valid =
    fit_valid c 1 (uncut turns) [] (uncut_alike (parts_of c []) turns refl (valid_fit c 1 turns [] valid)).0
