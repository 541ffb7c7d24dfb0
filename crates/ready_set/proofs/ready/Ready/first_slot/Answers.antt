use Rattle.std.proofs.Common.{◌≡◌, ◌≤◌, ◌-◌, true, arith, unwrap_or, ap, sym}
use Rattle.std.proofs.lemmas.Bool.{false_from_ne_true}
use Rattle.ready_set.proofs.Readies.{in-range, place-le, rest-le, least-key, in-first}
use Rattle.std.specs.BTreeSet.{contains}
use Rattle.ready_set.specs.Keys.{key_cmp}
use Rattle.ready_set.proofs.ready.Ready.first_slot.Goals as goal

pub returns-in_err-key-clause-none : goal.returns-in_err-key-clause-none
returns-in_err-key-clause-none c = λ r i x l u. (c.range.ensures.in_range tt).5 c.in_err-key.ensures.steps.0 (i, x) (in-range c.args.from i x l, tt)

pub returns-then-key-to-clause-first : goal.returns-then-key-to-clause-first
returns-then-key-to-clause-first c = λ slot e j x l h.
    let is = ap (λ o. unwrap_or o slot) e in
    let least = least-key c.range.result _ c.in_ok-key.key.now (j, x) c.in_ok-key.ensures.steps ((c.range.ensures.in_range tt).2 (j, x) (in-range c.args.from j x l, tt) h) in
    rw (sym is) (place-le _ _ j x least)

pub returns-then-key-to-clause-greatest : goal.returns-then-key-to-clause-greatest
returns-then-key-to-clause-greatest c = λ slot e x h.
    let is = ap (λ o. unwrap_or o slot) e in
    let place : c.in_ok-key.key.now.0 ≡ slot.place = ap (λ s. s.place) is in
    let conn : 4294967295 - c.in_ok-key.key.now.1 ≡ slot.conn = ap (λ s. s.conn) is in
    let from : c.args.from ≤ c.in_ok-key.key.now.0 = place-le c.args.from 0 c.in_ok-key.key.now.0 c.in_ok-key.key.now.1 (in-first c.range.result _ c.in_ok-key.key.now _ c.in_ok-key.ensures.steps (c.range.ensures.in_range tt).1).0.0 in
    let here : contains key_cmp c.args.self.now.keys (c.in_ok-key.key.now.0, x) ≡ true = rw place h in
    let least = least-key c.range.result _ c.in_ok-key.key.now (c.in_ok-key.key.now.0, x) c.in_ok-key.ensures.steps ((c.range.ensures.in_range tt).2 (c.in_ok-key.key.now.0, x) (in-range c.args.from c.in_ok-key.key.now.0 x from, tt) here) in
    let le : c.in_ok-key.key.now.1 ≤ x = rest-le c.in_ok-key.key.now.0 c.in_ok-key.key.now.1 x least in
    omega (arith, le, conn)

pub returns-else-key-to-clause-none : goal.returns-else-key-to-clause-none
returns-else-key-to-clause-none c = λ r i x l u. false_from_ne_true _ (λ h.
    let least = least-key c.range.result _ c.in_ok-key.key.now (i, x) c.in_ok-key.ensures.steps ((c.range.ensures.in_range tt).2 (i, x) (in-range c.args.from i x l, tt) h) in
    let le : c.in_ok-key.key.now.0 ≤ i = place-le _ _ i x least in
    omega (arith, le, u, c.if-key-to.false))
