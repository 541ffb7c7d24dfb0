use Rattle.std.proofs.Common.{◌≡◌, length, Some, ap, subst, sym, ◌∙◌}
use Rattle.std.specs.Prelude.{slice_get}
use Rattle.std.proofs.Math.ListN.{set}
use Rattle.io_workers.specs.Places.{lost, changed_for, index_of, ArePlaces}
use Rattle.io_workers.proofs.Numbers.{places-lost, set-changed_for}
use Rattle.io_workers.proofs.places.Places.lost.Goals as goal

pub invariant_of-self : goal.invariant_of-self
invariant_of-self c =
    let new : c.set.new.self ≡ set c.self.inside.tree c.index_of-i.result (lost c.self.inside.count c.args.now c.in-Some.row) = cc (c.set.ensures, c.lost.ensures) in
    let there : slice_get c.self.inside.tree c.index_of-i.result ≡ Some c.in-Some.row = cc (c.get.ensures, c.in-Some.is) in
    subst (ArePlaces c.self.inside.count) (sym new) (places-lost c.self.inside.count c.index_of-i.result c.args.now c.self.inside.tree c.in-Some.row c.self.invariant there)

pub returns-in-Some : goal.returns-in-Some
returns-in-Some c =
    let new : c.set.new.self ≡ set c.self.inside.tree c.index_of-i.result (lost c.self.inside.count c.args.now c.in-Some.row) = cc (c.set.ensures, c.lost.ensures) in
    let there : slice_get c.self.inside.tree c.index_of-i.result ≡ Some c.in-Some.row = cc (c.get.ensures, c.in-Some.is) in
    let at : c.index_of-i.result ≡ index_of c.args.conn c.self.inside.tree = c.index_of-i.ensures ∙ ap (index_of c.args.conn) (sym c.self.view_is) in
    new
    ∙ set-changed_for (lost c.self.inside.count c.args.now) c.self.inside.tree c.index_of-i.result c.args.conn c.in-Some.row at there
    ∙ ap (changed_for c.args.conn (lost c.self.inside.count c.args.now)) c.self.view_is
    ∙ ap (λ n. changed_for c.args.conn (lost n c.args.now) c.args.self.now) (c.self.invariant.count_is ∙ ap length c.self.view_is)
