use Rattle.std.proofs.Common.{◌≡◌, ◌≤◌, ◌+◌, ◌++◌, ◌∷◌, [], ℕ, List, sym, ◌∙◌, ap, subst, arith}
use Rattle.lload_names.specs.declared.plans.Planned.{Planned}
use Rattle.lload_reload.specs.Bases.{last_base, AreKept}
use Rattle.lload_reload.proofs.Found.{kept_more}
use Rattle.lload_reload.proofs.plans.Plans.add.Goals as goal

moved : (ps qs : List Planned) (before counts : List ℕ) (count all : ℕ) → qs ≡ ps → counts ≡ before → all ≡ count → AreKept ps before count → AreKept qs counts all
moved ps qs before counts count all e f g k = subst (λ z. AreKept z counts all) (sym e) (subst (λ z. AreKept ps z all) (sym f) (subst (λ z. AreKept ps before z) (sym g) k))

pub invariant_of-self-2 : goal.invariant_of-self-2
invariant_of-self-2 c =
    moved _ _ _ _ _ _ c.in_ok-push.ensures.ok (c.push_reserved.ensures.items ∙ ap (λ l. l ++ c.self.inside.count ∷ []) c.in_ok-reserve.ensures.items) (ap (λ (z : ℕ). c.self.inside.count + z) c.backends_in.ensures)
    (kept_more c.self.inside.plans c.self.inside.before.items c.self.inside.count (record { plan = c.args.plan; base = c.args.base }) c.self.invariant c.requires.plan (subst (λ (z : List Planned). last_base z ≤ c.args.base) (sym c.self.view_is) c.requires.base) (omega (arith, c.if-backends-greatest.false, c.backends_in.ensures)))
