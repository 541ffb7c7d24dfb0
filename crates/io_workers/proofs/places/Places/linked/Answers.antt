use Rattle.std.proofs.Common.{◌≡◌, Some, ap, subst, sym, ◌∙◌}
use Rattle.std.specs.Prelude.{slice_get}
use Rattle.std.proofs.Math.ListN.{set}
use Rattle.io_workers.specs.Places.{linked, changed_for, index_of, ArePlaces, IsNext, IsTurnOf}
use Rattle.io_workers.proofs.Numbers.{places-linked, set-changed_for, next-turn, turn-linked}
use Rattle.io_workers.proofs.places.Places.linked.Goals as goal

pub invariant_of-self : goal.invariant_of-self
invariant_of-self c =
    let new : c.set.new.self ≡ set c.self.inside.tree c.index_of-i.result (linked c.in-Some.row) = cc (c.set.ensures, c.linked.ensures) in
    let there : slice_get c.self.inside.tree c.index_of-i.result ≡ Some c.in-Some.row = cc (c.get.ensures, c.in-Some.is) in
    subst (ArePlaces c.self.inside.count) (sym new) (places-linked c.self.inside.count c.index_of-i.result c.self.inside.tree c.in-Some.row c.self.invariant there)

pub returns-in-Some-clause-linked : goal.returns-in-Some-clause-linked
returns-in-Some-clause-linked c =
    let new : c.set.new.self ≡ set c.self.inside.tree c.index_of-i.result (linked c.in-Some.row) = cc (c.set.ensures, c.linked.ensures) in
    let there : slice_get c.self.inside.tree c.index_of-i.result ≡ Some c.in-Some.row = cc (c.get.ensures, c.in-Some.is) in
    let at : c.index_of-i.result ≡ index_of c.args.conn c.self.inside.tree = c.index_of-i.ensures ∙ ap (index_of c.args.conn) (sym c.self.view_is) in
    new
    ∙ set-changed_for linked c.self.inside.tree c.index_of-i.result c.args.conn c.in-Some.row at there
    ∙ ap (changed_for c.args.conn linked) c.self.view_is

pub returns-in-Some-clause-turn : goal.returns-in-Some-clause-turn
returns-in-Some-clause-turn c =
    let new : c.set.new.self ≡ set c.self.inside.tree c.index_of-i.result (linked c.in-Some.row) = cc (c.set.ensures, c.linked.ensures) in
    let there : slice_get c.self.inside.tree c.index_of-i.result ≡ Some c.in-Some.row = cc (c.get.ensures, c.in-Some.is) in
    let at : c.index_of-i.result ≡ index_of c.args.conn c.self.inside.tree = c.index_of-i.ensures ∙ ap (index_of c.args.conn) (sym c.self.view_is) in
    subst (IsTurnOf c.args.conn) (sym new)
    (turn-linked c.self.inside.tree c.index_of-i.result c.args.conn c.in-Some.row at there
    (next-turn c.args.conn c.self.inside.tree (subst (IsNext c.args.conn) (sym c.self.view_is) c.requires)))
