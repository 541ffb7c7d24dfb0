use Rattle.std.proofs.Common.{ap, sym, ◌∙◌}
use Rattle.std.specs.Prelude.{is_some}
use Rattle.lload_conf.specs.Faults.{repeats}
use Rattle.lload_conf.proofs.Repeats.{repeats-first}
use Rattle.lload_conf.proofs.line.repeats.Goals as goal

pub returns-in_ok-first_repeat-in-Pairs : goal.returns-in_ok-first_repeat-in-Pairs
returns-in_ok-first_repeat-in-Pairs c = c.is_some.ensures ∙ (ap is_some c.in_ok-first_repeat-in-Pairs.ensures.is ∙ (repeats-first c.args.words.now ∙ ap (λ a. repeats a c.args.words.now) (sym c.in-Pairs.is)))
