-- The copied texts are those of the INFO, and the other fields are its own.
use Rattle.std.proofs.Common.{rules}
use Rattle.nats_info.proofs.Infos.{same_info}
use Rattle.nats_info.proofs.info.ServerInfo.copy.Goals as goal

pub returns : goal.returns
returns c =
    let ids = c.in_ok-server_id in
    let build = c.in_ok-version in
    let place = c.in_ok-cluster in
    same_info c.args.self.now (ids.server_id, ids.server_name, ids.host) (build.version, build.go, build.nonce) (place.cluster, place.domain) _ _ _ ids.ensures build.ensures place.ensures (search rules) (search rules) (search rules)
