use Rattle.std.proofs.Common.{◌≡◌, ℕ, Option, Some, None, refl, subst}
use Rattle.std.specs.Prelude.{IfSome}
use Rattle.io_workers.specs.Places.{due, IsNext, IsTurnOf}
use Rattle.io_workers.proofs.Numbers.{due-next, next-turn}
use Rattle.io_workers.proofs.places.Places.due.Goals as goal

if-some : (o : Option ℕ) (P : ℕ → Type 0) → ((conn : ℕ) → o ≡ Some conn → P conn) → IfSome o P
if-some None P h = tt
if-some (Some conn) P h = h conn refl

pub returns-clause-next : goal.returns-clause-next
returns-clause-next c =
    if-some c.due.result (λ conn. IsNext conn c.args.self.now) (λ (conn : ℕ) (h : c.due.result ≡ Some conn).
    let found : due c.args.now c.self.inside.tree ≡ Some conn = cc (c.due.ensures, h) in
    subst (IsNext conn) c.self.view_is (due-next c.args.now c.self.inside.count conn c.self.inside.tree c.self.invariant.count_is c.self.invariant.numbered found))

pub returns-clause-turn : goal.returns-clause-turn
returns-clause-turn c =
    if-some c.due.result (λ conn. IsTurnOf conn c.args.self.now) (λ (conn : ℕ) (h : c.due.result ≡ Some conn).
    let found : due c.args.now c.self.inside.tree ≡ Some conn = cc (c.due.ensures, h) in
    subst (IsTurnOf conn) c.self.view_is (next-turn conn c.self.inside.tree (due-next c.args.now c.self.inside.count conn c.self.inside.tree c.self.invariant.count_is c.self.invariant.numbered found)))
