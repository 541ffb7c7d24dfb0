use Rattle.std.proofs.Common.{rules, ◌≡◌, ◌∙◌, sym, ap, length, ◌-◌, Some, None, List}
use Rattle.std.specs.Prelude.{slice_get}
use Rattle.std.specs.Option.{option_copied}
use Rattle.lload_names.specs.declared.plans.Planned.{Planned}
use Rattle.lload_reload.specs.Bases.{last_base}
use Rattle.lload_reload.proofs.Last.{last_is, none_last}
use Rattle.lload_reload.proofs.plans.Plans.last_base.Goals as goal

pub returns-in-Some : goal.returns-in-Some
returns-in-Some c =
    last_is c.in-Some.planned.now c.self.inside.plans
    (sym (ap option_copied c.in-Some.is) ∙ c.last.ensures.value ∙ ap (λ (l : List Planned). slice_get l (length l - 1)) c.as_slice.ensures) ∙ ap last_base c.self.view_is
