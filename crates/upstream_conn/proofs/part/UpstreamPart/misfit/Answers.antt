use Rattle.lload_names.specs.declared.names.EndWhy.TheVariants.{Bad}
use Rattle.upstream_conn.proofs.Gots.{there}
use Rattle.upstream_conn.proofs.Falls.{fall-did, fall-knows, unfit-is}
use Rattle.upstream_conn.proofs.part.UpstreamPart.misfit.Goals as goal

pub returns-clause-did : goal.returns-clause-did
returns-clause-did c = λ s mark k.
    let r = there _ _ c.requires.row c.requires.live in
    let t = unfit-is c.args.self.now c.args.at c.args.id c.args.rest r.0 k.steady.plain k.steady.sound.table.rises c.requires.other r.1 r.2 in
    fall-did s c.args.self.now c.fall.new.self c.args.out.now c.fall.new.out c.args.at c.args.id c.args.rest Bad c.args.self.now.own mark t.0 t.1 c.in_ok-fall.ensures.entries c.in_ok-fall.ensures.letters c.in_ok-fall.ensures.closed

pub returns-clause-knows : goal.returns-clause-knows
returns-clause-knows c = λ s k. fall-knows s c.args.self.now c.fall.new.self c.args.at c.args.self.now.own c.in_ok-fall.ensures.closed c.in_ok-fall.ensures.request c.in_ok-fall.ensures.table k.steady.own k.steady.fresh k
