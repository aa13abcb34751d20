-- The parts make the line.
use Rattle.std.proofs.Common.{◌≡◌, ℕ, List, [], ◌++◌, rules, sym, append_assoc}
use Rattle.std.specs.Prelude.{codes}
use Rattle.std.specs.Fmt.{decimal}
use Rattle.nats_routing.specs.Texts.{crlf}
use Rattle.nats_broker.proofs.info.info_line.Goals as goal

info_parts : (a id b num e l0 l1 l2 l3 l4 l5 other count : List ℕ) → l0 ≡ [] → l1 ≡ l0 ++ a → l2 ≡ l1 ++ other → l3 ≡ l2 ++ b → l4 ≡ l3 ++ count
    → l5 ≡ l4 ++ (e ++ crlf) → other ≡ id → count ≡ num → l5 ≡ ((((a ++ id) ++ b) ++ num) ++ e) ++ crlf
info_parts a id b num e l0 l1 l2 l3 l4 l5 other count p0 p1 p2 p3 p4 p5 q r =
    rw (p5, p4, p3, p2, p1, p0, q, r) (sym (append_assoc (((a ++ id) ++ b) ++ num) e crlf))

pub returns : goal.returns
returns c =
    let id : c.as_bytes.result.now ≡ c.args.info.now.server_id = search rules in
    let number : c.as_bytes-number.result.now ≡ decimal c.args.info.now.max_payload = search rules in
    info_parts (codes "INFO {\"server_id\":\"") c.args.info.now.server_id
    (codes "\",\"version\":\"2.10.0\",\"proto\":1,\"headers\":true,\"max_payload\":") (decimal c.args.info.now.max_payload)
    (codes "}") c.new-line.result.items c.extend_from_slice.new.self.items c.extend_from_slice-2.new.self.items
    c.extend_from_slice-3.new.self.items c.extend_from_slice-4.new.self.items c.extend_from_slice-5.new.self.items
    c.as_bytes.result.now c.as_bytes-number.result.now c.new-line.ensures.items
    c.in_ok-extend_from_slice.ensures.items c.in_ok-extend_from_slice-2.ensures.items c.in_ok-extend_from_slice-3.ensures.items
    c.in_ok-extend_from_slice-4.ensures.items c.in_ok-extend_from_slice-5.ensures.items id number
