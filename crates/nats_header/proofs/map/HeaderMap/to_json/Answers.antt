-- The map is read back from its JSON.
use Rattle.std.proofs.Common.{sym, ap, subst, ◌∙◌, fold}
use Rattle.serde_json.specs.Data.{object}
use Rattle.serde_json.specs.View.{members_view}
use Rattle.serde_json.proofs.Views.{view-Object}
use Rattle.nats_header.specs.Json.{put_field, headers_in, ReadsAs}
use Rattle.nats_header.proofs.JsonBack.{reads_back}
use Rattle.nats_header.proofs.map.HeaderMap.to_json.Goals as goal

pub returns-clause-reads_back : goal.returns-clause-reads_back
returns-clause-reads_back c =
    let headers = c.args.self.now in
    let members = members_view c.loop-name.members.entries in
    let made = ap (fold put_field members) (sym c.in-None.ensures.steps.0) ∙ c.loop-name.invariant in
    let json = view-Object c.loop-name.members ∙ ap object made in
    subst (λ json. ReadsAs (headers_in json) headers) (sym json) (reads_back headers c.iter-name-items.ensures.valid c.iter-name-items.ensures.distinct)
