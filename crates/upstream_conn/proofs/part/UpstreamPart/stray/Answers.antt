use Rattle.std.proofs.Common.{List, ℕ, ap, sym, ◌∙◌}
use Rattle.lload_names.specs.declared.names.EndWhy.TheVariants.{Bad}
use Rattle.conn_core.specs.Dropped.{is_dropped}
use Rattle.upstream_conn.proofs.Falls.{fall-did, fall-knows}
use Rattle.upstream_conn.proofs.Lasts.{stray-is}
use Rattle.upstream_conn.proofs.part.UpstreamPart.stray.Goals as goal

pub returns-clause-did : goal.returns-clause-did
returns-clause-did c = λ s mark k.
    let u = c.args.self.now in
    let kept = ap (λ (l : List ℕ). is_dropped u.core.table.ids.next c.args.id l) (sym c.as_slice.ensures) ∙ sym c.is_dropped.ensures ∙ c.if-is_dropped.false in
    let t = stray-is u c.args.at c.args.id c.args.rest k.steady.plain c.requires.other c.requires.stray kept in
    fall-did s u c.fall.new.self c.args.out.now c.fall.new.out c.args.at c.args.id c.args.rest Bad u.own mark t.0 t.1 c.in_ok-fall.ensures.entries c.in_ok-fall.ensures.letters c.in_ok-fall.ensures.closed

pub returns-clause-knows : goal.returns-clause-knows
returns-clause-knows c = λ s k. fall-knows s c.args.self.now c.fall.new.self c.args.at c.args.self.now.own c.in_ok-fall.ensures.closed c.in_ok-fall.ensures.request c.in_ok-fall.ensures.table k.steady.own k.steady.fresh k
