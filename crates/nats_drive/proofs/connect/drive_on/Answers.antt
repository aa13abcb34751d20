-- memory was wanting: a link that is open was handed back; and the options that the driver owns may be sent: each of
-- their fields may, those with callbacks since these may
use Rattle.std.proofs.Crossing.{crosses, dyn_box_send}
use denote.Exit.{no}
use denote.Param.Object.{Vt, ghosts_of}
use denote.Param.Callables.{held_fn}
use denote.Param.Send.{sendable, arg_send, param_send}
use denote.Param.SendFields.{declared_send}
use Rattle.nats_drive.specs.contracts.plan.Planned as Planned
use Rattle.nats_pool.specs.contracts.connect_options.ConnectOptions as ConnectOptions
use Rattle.nats_names.proofs.subject.Subject.TheSendSync as Subject
use Rattle.nats_drive.specs.contracts.connect.drive_on.dyn-1 as dyn-1
use Rattle.nats_drive.specs.contracts.connect.drive_on.dyn-2 as dyn-2
use Rattle.nats_drive.specs.contracts.connect.drive_on.dyn-3 as dyn-3
use Rattle.nats_drive.specs.contracts.connect.drive_on.dyn-4 as dyn-4
use Rattle.nats_drive.specs.contracts.connect.drive_on.dyn-5 as dyn-5
use Rattle.nats_drive.proofs.Refusals.{out_starts}
use Rattle.nats_drive.proofs.connect.drive_on.Goals as goal

pub start_driver-started-requires-send-K : goal.start_driver-started-requires-send-K
start_driver-started-requires-send-K g c κs within =
    let s1 = dyn-1.slots g.row.G g.row.Q g.row.R g.row.P g.row.W
    g.row.P-Rt g.row.W-Ticks g.row.W-Read g.row.W-Write g.row.W-Rt in
    let t1 = Vt s1 g.dyn-1.0 in
    let g1 = ghosts_of s1 g.dyn-1.0 g.dyn-1.1 in
    let s2 = dyn-2.slots g.row.G g.row.Q g.row.R g.row.P g.row.W
    g.row.P-Rt g.row.W-Ticks g.row.W-Read g.row.W-Write g.row.W-Rt in
    let t2 = Vt s2 g.dyn-2.0 in
    let g2 = ghosts_of s2 g.dyn-2.0 g.dyn-2.1 in
    let s3 = dyn-3.slots g.row.G g.row.Q g.row.R g.row.P g.row.W
    g.row.P-Rt g.row.W-Ticks g.row.W-Read g.row.W-Write g.row.W-Rt in
    let t3 = Vt s3 g.dyn-3.0 in
    let g3 = ghosts_of s3 g.dyn-3.0 g.dyn-3.1 in
    let s4 = dyn-4.slots g.row.G g.row.Q g.row.R g.row.P g.row.W
    g.row.P-Rt g.row.W-Ticks g.row.W-Read g.row.W-Write g.row.W-Rt in
    let t4 = Vt s4 g.dyn-4.0 in
    let g4 = ghosts_of s4 g.dyn-4.0 g.dyn-4.1 in
    let s5 = dyn-5.slots g.row.G g.row.Q g.row.R g.row.P g.row.W
    g.row.P-Rt g.row.W-Ticks g.row.W-Read g.row.W-Write g.row.W-Rt in
    let t5 = Vt s5 g.dyn-5.0 in
    let g5 = ghosts_of s5 g.dyn-5.0 g.dyn-5.1 in
    let options = declared_send
    (ConnectOptions.the_type t1 t2 t3 t4 t5 g1 g2 g3 g4 g5
    (held_fn g.dyn-1.0) (held_fn g.dyn-2.0) (held_fn g.dyn-3.0) (held_fn g.dyn-4.0) (held_fn g.dyn-5.0)) (
      search (crosses, sendable) depth 30,
      (
        search (crosses, sendable) depth 30,
        (
          search (crosses, sendable) depth 30,
          (
            search (crosses, sendable) depth 30,
            (
              search (crosses, sendable) depth 30,
              (
                search (crosses, sendable) depth 30,
                (
                  search (crosses, sendable) depth 30,
                  (
                    search (crosses, sendable) depth 30,
                    (
                      search (Subject.the_send, crosses, sendable) depth 30,
                      (
                        search (crosses, sendable) depth 30,
                        (
                          search (crosses, sendable) depth 30,
                          (
                            search (crosses, sendable) depth 30,
                            (
                              search (crosses, sendable) depth 30,
                              (
                                search (crosses, sendable) depth 30,
                                (
                                  search (crosses, sendable) depth 30,
                                  (
                                    search (crosses, sendable) depth 30,
                                    (
                                      search (dyn_box_send t1 g1 g.dyn-1.2, crosses, sendable) depth 30,
                                      (
                                        search (dyn_box_send t2 g2 g.dyn-2.2, crosses, sendable) depth 30,
                                        (
                                          search (dyn_box_send t3 g3 g.dyn-3.2, crosses, sendable) depth 30,
                                          (
                                            search (dyn_box_send t4 g4 g.dyn-4.2, crosses, sendable) depth 30,
                                            (
                                              search (dyn_box_send t5 g5 g.dyn-5.2, crosses, sendable) depth 30,
                                              (
                                                search (crosses, sendable) depth 30,
                                                tt,
                                              ),
                                            ),
                                          ),
                                        ),
                                      ),
                                    ),
                                  ),
                                ),
                              ),
                            ),
                          ),
                        ),
                      ),
                    ),
                  ),
                ),
              ),
            ),
          ),
        ),
      ),
    ) in
    param_send _ _ (arg_send _ no _ (declared_send
    (Planned.the_type t1 t2 t3 t4 t5 g1 g2 g3 g4 g5
    (held_fn g.dyn-1.0) (held_fn g.dyn-2.0) (held_fn g.dyn-3.0) (held_fn g.dyn-4.0) (held_fn g.dyn-5.0))
    (options, tt)))

pub returns-in_default-clause-refused : goal.returns-in_default-clause-refused
returns-in_default-clause-refused g c = λ a out.
    let refused = c.out_of_memory in
    out_starts g.W.Reach.seen a _ refused.result refused.ensures.error (refused.ensures.back a out)
