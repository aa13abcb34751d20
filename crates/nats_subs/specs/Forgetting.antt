-- A subscription that ended rests, and one that a table forgot stays forgotten.
use Rattle.std.proofs.Common.{◌≡◌, Bool, true, false, ◌&&◌, cond, nat_le, suc, Some, refl, ◌∙◌, ap}
use Rattle.std.proofs.lemmas.Bool.{false≢true}
use Rattle.nats_tables.specs.Rows.{tidied}
use Rattle.nats_message.specs.declared.message.Message.{Message}
use Rattle.nats_history.specs.declared.config.Config.{Config}
use Rattle.nats_history.specs.declared.stage.Stage.{Stage}
use Rattle.nats_history.specs.declared.stage.Stage.TheVariants.{Asked, Open, Ended}
use Rattle.nats_history.specs.History.{Sub, is_ended, is_over, forgotten, cut, puts, reached, open_if, end_if}
use Rattle.nats_subs.specs.declared.subs.subscription.Alteration.{Alteration}
use Rattle.nats_subs.specs.declared.subs.subscription.Alteration.TheVariants as alterations
use Rattle.nats_subs.specs.Delivery.{altered, put_into, deliver}

-- nothing opens or ends it any more, and no command is written of it
abbrev pub rests : Sub → Bool
rests sub = is_ended sub.stage

pub over_rests : (sub : Sub) → is_over sub ≡ true → rests sub ≡ true
over_rests sub over = by sub.is_gone over
  where
    by : (b : Bool) → (b && is_ended sub.stage) ≡ true → is_ended sub.stage ≡ true
    by true over = over
    by false over = absurd (false≢true over)

-- a stage that is the last one stays
pub stage_stays : (ending opening : Bool) (stage : Stage) → is_ended stage ≡ true
    → end_if ending (open_if opening stage) ≡ stage
stage_stays true true Ended ended = refl
stage_stays true false Ended ended = refl
stage_stays false true Ended ended = refl
stage_stays false false Ended ended = refl
stage_stays ending opening Asked ended = absurd (false≢true ended)
stage_stays ending opening Open ended = absurd (false≢true ended)

-- what rests does so for good, whatever happens to it
pub still_rests : (a : Alteration) (sub : Sub) → rests sub ≡ true → rests (altered a sub) ≡ true
still_rests alterations.Open sub rest = ap is_ended (stage_stays false true sub.stage rest) ∙ rest
still_rests alterations.Shut sub rest = rest
still_rests alterations.End sub rest = ap is_ended (stage_stays true false sub.stage rest) ∙ rest
still_rests (alterations.Limit n) sub rest = ap is_ended (stage_stays (nat_le n sub.puts) false sub.stage rest) ∙ rest
still_rests alterations.Drain sub rest = rest
still_rests alterations.LetGo sub rest = rest
still_rests alterations.Renew sub rest = ap is_ended (stage_stays sub.is_shut false sub.stage rest) ∙ rest
still_rests alterations.EndLink sub rest = ap is_ended (stage_stays sub.is_draining false sub.stage rest) ∙ rest
still_rests alterations.Close sub rest = ap is_ended (stage_stays true true sub.stage rest) ∙ rest

-- and whatever comes for it
pub rests_on : (c : Config) (m : Message) (sub : Sub) → rests sub ≡ true → rests (deliver c m sub) ≡ true
rests_on c m sub rest = by (puts c sub)
  where
    by : (b : Bool) → rests (cond b (put_into m sub) sub) ≡ true
    by true = ap is_ended (stage_stays (reached sub.limit (cut (suc sub.puts))) false sub.stage rest) ∙ rest
    by false = rest

-- this leaves alone what rests
abbrev pub LeavesResting : Alteration → Type 0
LeavesResting a = (sub : Sub) → rests sub ≡ true → altered a sub ≡ sub

-- what is forgotten stays so, whatever happens to it
pub still : (a : Alteration) → tidied is_over forgotten (altered a forgotten) ≡ forgotten
still alterations.Open = refl
still alterations.Shut = refl
still alterations.End = refl
still alterations.Drain = refl
still alterations.LetGo = refl
still alterations.Renew = refl
still alterations.EndLink = refl
still alterations.Close = refl
still (alterations.Limit n) = by_end (nat_le n 0)
  where
    limited : Bool → Sub
    limited b = record forgotten { stage = end_if b Ended; limit = Some n }

    by_end : (b : Bool) → tidied is_over forgotten (limited b) ≡ forgotten
    by_end true = refl
    by_end false = refl
