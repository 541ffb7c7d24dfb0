use Rattle.std.proofs.Common.{◌*◌, replicate, ap, ◌∙◌}
use Rattle.std.proofs.lemmas.List.{length-replicate}
use Rattle.tier_select.proofs.Bits.{length-bits, none-set}
use Rattle.tier_select.proofs.flags.FlagSet.new.Goals as goal

pub returns-clause-size : goal.returns-clause-size
returns-clause-size g c = length-bits (replicate g.row.WORDS 0) ∙ ap (λ n. 64 * n) (length-replicate g.row.WORDS 0)

pub returns-clause-none : goal.returns-clause-none
returns-clause-none g c = none-set g.row.WORDS
