use Rattle.std.proofs.Common.{None, refl}
use Rattle.lload_names.specs.declared.names.EndWhy.TheVariants.{Bad}
use Rattle.upstream_conn.proofs.Falls.{fall-did, fall-knows}
use Rattle.upstream_conn.proofs.Lasts.{own-got, own-unfit-is}
use Rattle.upstream_conn.proofs.part.UpstreamPart.own_misfit.Goals as goal

pub returns-clause-did : goal.returns-clause-did
returns-clause-did c = λ s mark k. fall-did s c.args.self.now c.fall.new.self c.args.out.now c.fall.new.out c.args.at c.args.id c.args.rest Bad None mark (own-got c.args.self.now c.args.at c.args.id c.args.rest c.requires.own) (own-unfit-is c.args.self.now c.args.at c.args.id c.args.rest c.requires.own k.steady.own c.requires.told) c.in_ok-fall.ensures.entries c.in_ok-fall.ensures.letters c.in_ok-fall.ensures.closed

pub returns-clause-knows : goal.returns-clause-knows
returns-clause-knows c = λ s k. fall-knows s c.args.self.now c.fall.new.self c.args.at None c.in_ok-fall.ensures.closed c.in_ok-fall.ensures.request c.in_ok-fall.ensures.table tt (λ h. refl) k
