use Rattle.std.proofs.Common.{◌≡◌, ap, subst, sym, ◌∙◌, ◌+◌, find, map, if◌then◌else◌, ◌==◌, List, ℕ, Option}
use Rattle.std.specs.BTreeMap.{BTreeMap, is_at}
use Rattle.std.specs.Ordering.{nat_cmp}
use Rattle.std.specs.Map.{values_of, set_value}
use Rattle.client_rows.specs.Rows.{has_number, sent, sent_on, waiting_body, Counted, IsNumbered}
use Rattle.client_rows.specs.Filed.{AreFiled, Rises}
use Rattle.client_rows.specs.declared.row.Row.{Row}
use Rattle.client_rows.proofs.Entries.{find-lookup, values-set, values-miss, filed-set, rises-set, found-number, numbered}
use Rattle.client_rows.proofs.filed.FiledRows.send.Goals as goal

pub returns-in_err-get_mut-clause-body : goal.returns-in_err-get_mut-clause-body
returns-in_err-get_mut-clause-body c = c.from_residual.ensures ∙ ap waiting_body (c.in_err-get_mut.ensures.value ∙ sym (find-lookup c.args.k c.self.inside.rows.entries c.self.invariant.0)) ∙ ap (λ v. waiting_body (find (has_number c.args.k) v.rows)) c.self.view_is

pub returns-in_err-get_mut-clause-sent : goal.returns-in_err-get_mut-clause-sent
returns-in_err-get_mut-clause-sent c =
    let es = c.self.inside.rows.entries in
    let change : Row → Row = λ r. record r { way = sent_on c.args.conn r.way } in
    let make : List Row → Counted = λ rows. record { count = c.self.inside.count; rows = rows } in
    let with_rows : Counted → Counted = λ v. record { count = v.count; rows = map (sent c.args.k c.args.conn) v.rows } in
    ap (λ m. make (values_of m.entries)) c.get_mut.follows.holds-at-none ∙ ap make (sym (values-miss change c.args.k es c.self.invariant.0 (sym c.in_err-get_mut.ensures.value))) ∙ ap with_rows c.self.view_is

pub invariant_of-self-2 : goal.invariant_of-self-2
invariant_of-self-2 c =
    let es = c.self.inside.rows.entries in
    let has = sym c.in_ok-get_mut.ensures.value in
    let number = ap (λ r. r.k) c.send.ensures.sent ∙ found-number c.args.k es c.in_ok-get_mut.field-0.now c.self.invariant.0 has in
    rw ((c.get_mut.follows.holds c.send.new.self).0) (filed-set c.args.k es c.send.new.self c.self.invariant.0 number, rises-set c.args.k 0 es _ c.send.new.self c.self.invariant.1)

pub returns-clause-body : goal.returns-clause-body
returns-clause-body c = c.send.ensures.body ∙ ap waiting_body (c.in_ok-get_mut.ensures.value ∙ sym (find-lookup c.args.k c.self.inside.rows.entries c.self.invariant.0)) ∙ ap (λ v. waiting_body (find (has_number c.args.k) v.rows)) c.self.view_is

pub returns-clause-sent : goal.returns-clause-sent
returns-clause-sent c =
    let es = c.self.inside.rows.entries in
    let has = sym c.in_ok-get_mut.ensures.value in
    let change : Row → Row = λ r. record r { way = sent_on c.args.conn r.way } in
    let make : List Row → Counted = λ rows. record { count = c.self.inside.count; rows = rows } in
    let with_rows : Counted → Counted = λ v. record { count = v.count; rows = map (sent c.args.k c.args.conn) v.rows } in
    let written = (c.get_mut.follows.holds c.send.new.self).0 in
    ap (λ es. make (values_of es)) written
    ∙ ap (λ r. make (values_of (set_value (is_at (nat_cmp c.args.k)) es r))) c.send.ensures.sent
    ∙ ap make (values-set change c.args.k 0 es _ c.in_ok-get_mut.field-0.now c.self.invariant.0 c.self.invariant.1 has)
    ∙ ap with_rows c.self.view_is

pub returns-clause-numbered : goal.returns-clause-numbered
returns-clause-numbered c = let inv = invariant_of-self-2 c in numbered 0 _ _ inv.0 inv.1

pub returns-in_err-get_mut-clause-numbered : goal.returns-in_err-get_mut-clause-numbered
returns-in_err-get_mut-clause-numbered c =
    let P : BTreeMap ℕ Row → Type 0 = λ m. IsNumbered (record { count = c.self.inside.count; rows = values_of m.entries }) in
    subst P (sym c.get_mut.follows.holds-at-none) (numbered 0 _ _ c.self.invariant.0 c.self.invariant.1)
