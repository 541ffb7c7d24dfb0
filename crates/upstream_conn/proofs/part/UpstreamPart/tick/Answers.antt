use Rattle.std.proofs.Common.{map, arith, ap, ◌∙◌}
use Rattle.upstream_conn.specs.Ticks.{abandon_of}
use Rattle.upstream_conn.proofs.Expiries.{list-length}
use Rattle.upstream_conn.proofs.part.UpstreamPart.tick.Goals as goal

pub expire_all-requires-clause-entries : goal.expire_all-requires-clause-entries
expire_all-requires-clause-entries c =
    let few = list-length c.args.self.now.core c.args.at c.in_ok-list.list.items (c.in_ok-list.ensures ∙ ap (map abandon_of) (c.from_vec.ensures.items ∙ c.in_ok-due.ensures.due)) in
    omega (arith, few, c.len-more.ensures.len, c.in_ok-reserve.ensures.entry_room)

pub expire_all-requires-clause-letters : goal.expire_all-requires-clause-letters
expire_all-requires-clause-letters c =
    let few = list-length c.args.self.now.core c.args.at c.in_ok-list.list.items (c.in_ok-list.ensures ∙ ap (map abandon_of) (c.from_vec.ensures.items ∙ c.in_ok-due.ensures.due)) in
    omega (arith, few, c.len-more.ensures.len, c.in_ok-reserve.ensures.letter_room)
