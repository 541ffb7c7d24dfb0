use Rattle.std.proofs.Common.{◌≡◌, ◌-◌, refl, ap, ◌∙◌, sym, subst}
use Rattle.std.proofs.lemmas.List.{length-set}
use Rattle.small_world.specs.declared.world.Forwarded.{Forwarded}
use Rattle.std.specs.Prelude.{Option, IfOk, slice_get, slice_set}
use Rattle.small_world.specs.States.{WorldState, answered}
use Rattle.small_world.proofs.RoundsMade.{row_read, again_piece, again_state, first_piece, first_state, on_ok, one_row, answered_in_range}
use Rattle.small_world.proofs.world.World.take_answer.Goals as goal

pub invariant_of-self : goal.invariant_of-self
invariant_of-self c = (rw length-set c.self.invariant.0, c.self.invariant.1, answered_in_range c.self.inside.forwarded.items (c.args.id - 1) c.index_mut.result.now _ (ap {B = Option Forwarded} (λ w. slice_get w.forwarded (c.args.id - 1)) c.self.view_is ∙ row_read c.args.self.now c.self.inside.forwarded.items c.args.id c.index_mut.result.now (ap (λ w. w.forwarded) c.self.view_is) c.requires.id_given c.index_mut.ensures.value) refl c.self.invariant.2)

pub returns-then-forwarded-clause-made : goal.returns-then-forwarded-clause-made
returns-then-forwarded-clause-made c = subst (λ p. IfOk c.got_again.result (λ piece. piece ≡ p)) (sym (again_piece c.args.self.now c.args.id c.index-forwarded.result.now c.args.rest (row_read c.args.self.now c.self.inside.forwarded.items c.args.id c.index-forwarded.result.now (ap (λ w. w.forwarded) c.self.view_is) c.requires.id_given c.index-forwarded.ensures) c.if-forwarded.true)) c.got_again.ensures

pub returns-then-forwarded-clause-state : goal.returns-then-forwarded-clause-state
returns-then-forwarded-clause-state c = on_ok c.got_again.result _ (sym (again_state c.args.self.now c.args.id c.index-forwarded.result.now (row_read c.args.self.now c.self.inside.forwarded.items c.args.id c.index-forwarded.result.now (ap (λ w. w.forwarded) c.self.view_is) c.requires.id_given c.index-forwarded.ensures) c.if-forwarded.true))

pub returns-clause-made : goal.returns-clause-made
returns-clause-made c = c.in_ok-entries.ensures ∙ sym (first_piece c.args.self.now c.args.id c.index-forwarded.result.now c.args.rest (row_read c.args.self.now c.self.inside.forwarded.items c.args.id c.index-forwarded.result.now (ap (λ w. w.forwarded) c.self.view_is) c.requires.id_given c.index-forwarded.ensures) c.if-forwarded.false)

pub returns-clause-state : goal.returns-clause-state
returns-clause-state c =
    let there = row_read c.args.self.now c.self.inside.forwarded.items c.args.id c.index-forwarded.result.now (ap (λ w. w.forwarded) c.self.view_is) c.requires.id_given c.index-forwarded.ensures in
    let written = row_read c.args.self.now c.self.inside.forwarded.items c.args.id c.index_mut.result.now (ap (λ w. w.forwarded) c.self.view_is) c.requires.id_given c.index_mut.ensures.value in
    ap {A = WorldState} (λ w. record w { forwarded = slice_set w.forwarded (c.args.id - 1) (answered c.index_mut.result.now) }) c.self.view_is
    ∙ ap {B = WorldState} (λ f. record c.args.self.now { forwarded = slice_set c.args.self.now.forwarded (c.args.id - 1) (answered f) }) (one_row c.args.self.now.forwarded (c.args.id - 1) c.index_mut.result.now c.index-forwarded.result.now written there)
    ∙ sym (first_state c.args.self.now c.args.id c.index-forwarded.result.now there c.if-forwarded.false)
