-- what moves to the thread of the driver may be sent, as the closure asks of its callers
use Rattle.std.proofs.Crossing.{crosses}
use denote.Param.Send.{sendable}
use Rattle.nats_drive.proofs.connect.fn.start_driver.start.Goals as goal

pub drive-requires-send-G : goal.drive-requires-send-G
drive-requires-send-G g c κs within = search (crosses, sendable)

pub drive-requires-send-Q : goal.drive-requires-send-Q
drive-requires-send-Q g c κs within = search (crosses, sendable)

pub drive-requires-send-L : goal.drive-requires-send-L
drive-requires-send-L g c κs within = search (crosses, sendable)

pub drive-requires-send-H : goal.drive-requires-send-H
drive-requires-send-H g c κs within = search (crosses, sendable)

pub drive-requires-send-T : goal.drive-requires-send-T
drive-requires-send-T g c κs within = search (crosses, sendable)

pub drive-requires-send-W : goal.drive-requires-send-W
drive-requires-send-W g c κs within = search (crosses, sendable)

pub drive-requires-send-K : goal.drive-requires-send-K
drive-requires-send-K g c κs within = search (crosses, sendable)
