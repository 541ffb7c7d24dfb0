use Rattle.std.proofs.Common.{List, Bool, ◌-◌, filter, ap, ◌∙◌}
use Rattle.lload_spec.specs.Lists.{first}
use Rattle.lload_spec.specs.Picks.{rising}
use Rattle.tier_select.specs.Flags.{is_set}
use Rattle.tier_select.proofs.Bits.{same-first}
use Rattle.tier_select.proofs.flags.FlagSet.first_between.Goals as goal

pub returns-clause-first : goal.returns-clause-first
returns-clause-first g c =
    c.first_in_words.ensures.first
    ∙ same-first c.self.inside.words c.args.from (c.args.to - c.args.from)
    ∙ ap (λ (flags : List Bool). first (filter (is_set flags) (rising c.args.from (c.args.to - c.args.from)))) c.self.view_is
