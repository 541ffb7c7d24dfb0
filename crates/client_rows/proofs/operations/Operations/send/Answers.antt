use Rattle.std.proofs.Common.{◌≡◌, ◌&&◌, not, ap, sym, subst, ◌∙◌, arith, find, filter, length, map, List, ℕ, Option, Some, None}
use Rattle.client_rows.specs.Rows.{has_number, sent, lets_wait, is_bind, one, numbers_under, Counted}
use Rattle.client_rows.specs.declared.row.Row.{Row}
use Rattle.client_rows.proofs.Index.{sent-miss, count-sent, number-sent}
use Rattle.client_rows.proofs.operations.Operations.send.Goals as goal

pub returns-in_err-row-clause-sent : goal.returns-in_err-row-clause-sent
returns-in_err-row-clause-sent c =
    let make : List Row → Counted = λ rows. record { count = c.self.inside.filed.count; rows = rows } in
    let none : find (has_number c.args.k) c.self.inside.filed.rows ≡ None = sym c.in_err-row.ensures in
    let P : Counted → Type 0 = λ v. v ≡ record { count = v.count; rows = map (sent c.args.k c.args.conn) v.rows } in
    subst P c.self.view_is (ap make (sym (sent-miss c.args.k c.args.conn c.self.inside.filed.rows none)))

pub overflow_sub-self : goal.overflow_sub-self
overflow_sub-self c =
    let count = count-sent c.args.k c.args.conn 0 c.self.inside.filed.rows _ c.in_ok-row.row.now c.self.invariant.0 (sym c.in_ok-row.ensures) in
    let stops : c.one-stops.result ≡ one (lets_wait c.in_ok-row.row.now && not (is_bind c.in_ok-row.row.now)) = c.one-stops.ensures ∙ ap one c.waits_for_connection.ensures in
    omega (arith, count, c.self.invariant.2, stops)

pub invariant_of-self : goal.invariant_of-self
invariant_of-self c =
    let rows = ap (λ v. v.rows) c.send-rest.ensures.sent in
    let count = count-sent c.args.k c.args.conn 0 c.self.inside.filed.rows _ c.in_ok-row.row.now c.self.invariant.0 (sym c.in_ok-row.ensures) in
    let stops : c.one-stops.result ≡ one (lets_wait c.in_ok-row.row.now && not (is_bind c.in_ok-row.row.now)) = c.one-stops.ensures ∙ ap one c.waits_for_connection.ensures in
    (c.send-rest.ensures.numbered, λ id. ap (numbers_under id) rows ∙ number-sent c.args.k c.args.conn id c.self.inside.filed.rows ∙ c.self.invariant.1 id, omega (arith, count, c.self.invariant.2, stops, ap (λ rs. length (filter lets_wait rs)) rows))
