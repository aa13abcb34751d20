-- One turn, one write, one read, each with all that it makes due.
use Rattle.std.proofs.Common.{◌≡◌, refl, ◌∙◌, sym, ap, subst, ℕ, Bool, true, false, List, take, Result, Ok, Err, IsErr}
use Rattle.std.proofs.lemmas.Bool.{false≢true}
use Rattle.nats_names.specs.declared.failed.NoMemory.{NoMemory}
use Rattle.nats_outside.specs.Told.{ReadTold, WriteTold}
use Rattle.nats_history.specs.declared.turn.Turn.{Turn}
use Rattle.nats_history.specs.declared.turn.Turn.TheVariants as turns
use Rattle.nats_session.specs.Handler.{Seen}
use Rattle.nats_core.specs.declared.answers.StepError.{StepError}
use Rattle.nats_core.specs.declared.answers.StepError.TheVariants.{OutOfTurn, LinkGone, NoMemory as Wanting}
use Rattle.nats_core.specs.declared.answers.ReadOnce.{ReadOnce}
use Rattle.nats_core.specs.declared.answers.ReadOnce.TheVariants as reads
use Rattle.nats_core.specs.declared.answers.WriteOnce.{WriteOnce}
use Rattle.nats_core.specs.declared.answers.WriteOnce.TheVariants as writes
use Rattle.nats_core.specs.declared.entry.StepReply.{StepReply}
use Rattle.nats_core.specs.Journal.{Logged, all_due, with_session, caught_up, played}
use Rattle.nats_core.specs.Calls.{parts_in, PlaysDue, Steps}
use Rattle.nats_core.specs.Links.{Reads, Writes}
use Rattle.nats_core.proofs.Dues.{none_played, none_after_all, rounds_on_the_way}
use Rattle.nats_live.specs.Steps.{PlaysWhole, WritesWhole, ReadsWhole}

-- due steps that were played make no difference once all are
pub caught_due : (old new : Logged) → PlaysDue old new → caught_up new ≡ caught_up old
caught_due old new due =
    ap caught_up due.same ∙ ap (λ (s : Seen). with_session s old) (rounds_on_the_way due.rounds old.session)

pub plays_ok : (old mid new : Logged) (t : Turn) (reply : StepReply) → Steps old t (Ok reply) mid → new ≡ caught_up mid
    → PlaysWhole old t (Ok reply) new
plays_ok old mid new t reply steps is = (steps.0, steps.1, is ∙ caught_due (played t (caught_up old)) mid steps.2)

pub plays_err : (old new : Logged) (t : Turn) (e : StepError) → Steps old t (Err e) new → PlaysWhole old t (Err e) new
plays_err old new t OutOfTurn steps = steps
plays_err old new t (LinkGone current) steps = absurd steps
plays_err old new t Wanting steps = tt

-- nothing is due of a core that caught up
pub caught_twice : (c : Logged) → caught_up (caught_up c) ≡ caught_up c
caught_twice c = ap (λ (s : Seen). with_session s c) (none_played (all_due c.session) (none_after_all c.session))

-- ---- the link

-- whether a link is up, of a core that caught up
up_of : (old core : Logged) (up : Bool) → core ≡ caught_up old → up ≡ (parts_in core).link.is_up
    → (parts_in (caught_up old)).link.is_up ≡ up
up_of old core up is told = ap (λ (c : Logged). (parts_in c).link.is_up) (sym is) ∙ sym told

pub writes_gone : (old core : Logged) (w : WriteTold) (up : Bool) → core ≡ caught_up old
    → up ≡ (parts_in core).link.is_up → up ≡ false
    → WritesWhole old w w (Ok writes.Gone) core
writes_gone old core w up is told down = (up_of old core up is told ∙ down, refl, is)

pub writes_once : (old core mid new : Logged) (before after : WriteTold) (up : Bool) (once : WriteOnce)
    → core ≡ caught_up old
    → up ≡ (parts_in core).link.is_up → up ≡ true → Writes core before after (Ok once) mid → new ≡ caught_up mid
    → WritesWhole old before after (Ok once) new
writes_once old core mid new before after up (writes.Wrote n) is told it_is wrote caught =
    subst (λ (c : Logged). Writes c before after (Ok (writes.Wrote n)) mid → WritesWhole old before after
    (Ok (writes.Wrote n)) new) (sym is)
    (λ w. (
      up_of old core up is told ∙ it_is,
      w.0,
      w.1,
      w.2,
      caught ∙ caught_due
          (played (turns.Write n) (caught_up old)) mid w.3,
    )) wrote
writes_once old core mid new before after up writes.Idle is told it_is wrote caught =
    subst (λ (c : Logged). Writes c before after (Ok writes.Idle) mid → WritesWhole old before after (Ok writes.Idle)
    new) (sym is)
    (λ w. (up_of old core up is told ∙ it_is, w.0, w.1, caught ∙ (ap caught_up w.2 ∙ caught_twice old))) wrote
writes_once old core mid new before after up writes.Lost is told it_is wrote caught =
    subst (λ (c : Logged). Writes c before after (Ok writes.Lost) mid → WritesWhole old before after (Ok writes.Lost)
    new) (sym is)
    (λ w. (up_of old core up is told ∙ it_is, w.1, caught ∙ caught_due (played turns.Lost (caught_up old)) mid w.2))
    wrote
writes_once old core mid new before after up writes.Gone is told it_is wrote caught = absurd wrote

pub writes_wanting : (old new : Logged) (before after : WriteTold) (r : Result WriteOnce NoMemory) → IsErr r
    → WritesWhole old before after r new
writes_wanting old new before after (Ok once) is = absurd (false≢true is)
writes_wanting old new before after (Err e) is = tt

pub reads_gone : (old core : Logged) (buf : List ℕ) (r : ReadTold) (up : Bool) → core ≡ caught_up old
    → up ≡ (parts_in core).link.is_up → up ≡ false
    → ReadsWhole old buf r r (Ok reads.Gone) core
reads_gone old core buf r up is told down = (up_of old core up is told ∙ down, refl, is)

pub reads_once : (old core mid new : Logged) (buf : List ℕ) (before after : ReadTold) (up : Bool) (once : ReadOnce)
    → core ≡ caught_up old
    → up ≡ (parts_in core).link.is_up → up ≡ true → Reads core buf before after (Ok once) mid → new ≡ caught_up mid
    → ReadsWhole old buf before after (Ok once) new
reads_once old core mid new buf before after up (reads.Played n) is told it_is read caught =
    subst (λ (c : Logged). Reads c buf before after (Ok (reads.Played n)) mid → ReadsWhole old buf before after
    (Ok (reads.Played n)) new) (sym is)
    (λ r. (
      up_of old core up is told ∙ it_is,
      r.0,
      r.1,
      r.2,
      caught ∙ caught_due
          (played (turns.Piece (take n buf)) (caught_up old)) mid r.4,
    )) read
reads_once old core mid new buf before after up reads.Lost is told it_is read caught =
    subst (λ (c : Logged). Reads c buf before after (Ok reads.Lost) mid → ReadsWhole old buf before after
    (Ok reads.Lost) new) (sym is)
    (λ r. (up_of old core up is told ∙ it_is, r.0, caught ∙ caught_due (played turns.Lost (caught_up old)) mid r.1)) read
reads_once old core mid new buf before after up reads.Gone is told it_is read caught = absurd read

pub reads_wanting : (old new : Logged) (buf : List ℕ) (before after : ReadTold) (r : Result ReadOnce NoMemory)
    → IsErr r
    → ReadsWhole old buf before after r new
reads_wanting old new buf before after (Ok once) is = absurd (false≢true is)
reads_wanting old new buf before after (Err e) is = tt
