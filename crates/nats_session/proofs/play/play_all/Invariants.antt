-- the turns before this one were played
use Rattle.nats_history.specs.declared.config.Config.{Config}
use Rattle.nats_session.specs.Handler.{idle}
use Rattle.nats_session.specs.Sheet.{empty_sheet}
use Rattle.nats_session.specs.Machine.{quiet}
use Rattle.nats_session.proofs.Runs.{Running}
use Rattle.nats_history.specs.Schedule.{due}
use Rattle.std.proofs.Common.{◌≡◌, None}
use Rattle.nats_session.proofs.play.play_all.Given as goal

abbrev pub invariant-turns : goal.invariant-turns
invariant-turns l = record {
  seen : l.handler ≡ quiet l.handler.parts;
  none : due l.handler.parts ≡ None;
  running : (c : Config) → l.initial.handler.parts ≡ idle c → l.initial.draft ≡ empty_sheet
      → Running c l.turns l.index l.handler.parts l.draft;
}
