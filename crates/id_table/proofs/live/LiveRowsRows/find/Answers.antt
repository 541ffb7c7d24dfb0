use Rattle.std.proofs.Common.{◌≡◌, true, false, ap, subst, sym, ◌∙◌}
use Rattle.std.proofs.lemmas.Bool.{false_from_ne_true}
use Rattle.std.specs.BTreeSet.{contains}
use Rattle.lload_names.specs.Same.{same_op}
use Rattle.lload_names.specs.declared.names.OpName.{OpName}
use Rattle.id_table.specs.Rows.{id_of}
use Rattle.id_table.specs.Filed.{key_cmp}
use Rattle.id_table.proofs.Index.{id-missed, id-found, from-first, id-le, between, least-key, first-key, same-op, differ}
use Rattle.id_table.proofs.live.LiveRowsRows.find.Goals as goal

pub returns-in_err-found : goal.returns-in_err-found
returns-in_err-found c =
    c.from_residual.ensures ∙ sym (id-missed c.args.op c.self.inside.ids 0 _ _ c.self.invariant.1 c.self.invariant.2 (λ id. (c.range.ensures.in_range tt).5 c.in_err-found.ensures.steps.0 (c.args.op, id) (from-first c.args.op id, tt))) ∙ ap (id_of c.args.op) c.self.view_is

pub returns-then-eq : goal.returns-then-eq
returns-then-eq c =
    let op = c.args.op in
    let key = c.in_ok-found.field-0.now in
    let same : same_op key.0 op ≡ true = sym c.eq.ensures ∙ c.if-eq.true in
    let first = first-key c.range.result _ key _ c.in_ok-found.ensures.steps (c.range.ensures.in_range tt).1 in
    let own : key.0 ≡ op = same-op key.0 op same in
    let here : contains key_cmp c.self.inside.ids (op, key.1) ≡ true = subst (λ (o : OpName). contains key_cmp c.self.inside.ids (o, key.1) ≡ true) own first.1 in
    sym (id-found op key.1 c.self.inside.ids 0 _ _ c.self.invariant.1 c.self.invariant.2 here (λ j h. id-le op key.0 key.1 j same (least-key c.range.result _ key (op, j) c.in_ok-found.ensures.steps ((c.range.ensures.in_range tt).2 (op, j) (from-first op j, tt) h)))) ∙ ap (id_of op) c.self.view_is

pub returns-else-eq : goal.returns-else-eq
returns-else-eq c =
    let op = c.args.op in
    let key = c.in_ok-found.field-0.now in
    let other : same_op key.0 op ≡ false = sym c.eq.ensures ∙ c.if-eq.false in
    let first = first-key c.range.result _ key _ c.in_ok-found.ensures.steps (c.range.ensures.in_range tt).1 in
    sym (id-missed op c.self.inside.ids 0 _ _ c.self.invariant.1 c.self.invariant.2 (λ j. false_from_ne_true _ (λ h. differ (sym (between op key.0 key.1 j first.0.0 (least-key c.range.result _ key (op, j) c.in_ok-found.ensures.steps ((c.range.ensures.in_range tt).2 (op, j) (from-first op j, tt) h))) ∙ other)))) ∙ ap (id_of op) c.self.view_is
