-- What stands at the front follows from the line there.
use Rattle.std.proofs.Common.{◌≡◌, None, ap, sym, ◌∙◌}
use Rattle.nats_lines.specs.Operations.{cut_line}
use Rattle.nats_unread.specs.Kept.{Unread}
use Rattle.nats_lines.proofs.Fronts.{sight_by_cut}
use Rattle.nats_lines.proofs.Scans.{fits_there, cut_found, on_false}
use Rattle.nats_unread.proofs.unread.Unread.sight_counted.Goals as goal

pub sight_at-requires-clause-fits : goal.sight_at-requires-clause-fits
sight_at-requires-clause-fits g c =
    let found = c.search_on-found.result in
    let same : c.as_slice.result.now ≡ c.args.self.now.bytes = c.as_slice.ensures ∙ ap (λ (u : Unread). u.bytes) c.self.view_is in
    rw same (fits_there found.place found.ended c.args.self.now.bytes c.if-found.true c.search_on-found.ensures.looked)

pub sight_at-requires-clause-cut : goal.sight_at-requires-clause-cut
sight_at-requires-clause-cut g c =
    let found = c.search_on-found.result in
    let same : c.as_slice.result.now ≡ c.args.self.now.bytes = c.as_slice.ensures ∙ ap (λ (u : Unread). u.bytes) c.self.view_is in
    rw same (cut_found found.place found.ended c.args.self.now.bytes c.if-found.true c.search_on-found.ensures.looked)

pub returns-else-found : goal.returns-else-found
returns-else-found g c =
    let bytes = c.args.self.now.bytes in
    let none = on_false c.search_on-found.result.ended (cut_line bytes ≡ None) c.if-found.false c.search_on-found.ensures.none in
    sym (sight_by_cut bytes None (sym none))
