use Rattle.std.proofs.Common.{subst, ◌≡◌, ap, sym, ◌∙◌, arith, find, filter, length, map, List, ℕ, Option, Some, None}
use Rattle.client_rows.specs.Rows.{IsNumbered, has_number, lets_wait, one, numbers_under, without, Counted}
use Rattle.client_rows.specs.Index.{Indexes}
use Rattle.client_rows.specs.declared.row.Row.{Row}
use Rattle.client_rows.proofs.Index.{without-miss, count-without, index-without}
use Rattle.client_rows.proofs.operations.Operations.take.Goals as goal

pub invariant_of-self : goal.invariant_of-self
invariant_of-self c =
    let none : find (has_number c.args.k) c.self.inside.filed.rows ≡ None = sym c.in_err-row.ensures.row in
    let rows = ap (λ v. v.rows) c.take.ensures.rest ∙ without-miss c.args.k c.self.inside.filed.rows none in
    (c.take.ensures.numbered, λ id. ap (numbers_under id) rows ∙ c.self.invariant.1 id, ap (λ rs. length (filter lets_wait rs)) rows ∙ c.self.invariant.2)

pub overflow_sub-self : goal.overflow_sub-self
overflow_sub-self c =
    let count = count-without lets_wait c.args.k 0 c.self.inside.filed.rows _ c.in_ok-row.row c.self.invariant.0 (sym c.in_ok-row.ensures.row) in
    let less : c.one.result ≡ one (lets_wait c.in_ok-row.row) = c.one.ensures ∙ ap one c.lets_wait.ensures in
    omega (arith, count, c.self.invariant.2, less)

pub invariant_of-self-2 : goal.invariant_of-self-2
invariant_of-self-2 c =
    let rows = ap (λ v. v.rows) c.take.ensures.rest in
    let has = sym c.in_ok-row.ensures.row in
    let count = count-without lets_wait c.args.k 0 c.self.inside.filed.rows _ c.in_ok-row.row c.self.invariant.0 has in
    let less : c.one.result ≡ one (lets_wait c.in_ok-row.row) = c.one.ensures ∙ ap one c.lets_wait.ensures in
    let index = index-without c.args.k 0 c.self.inside.filed.rows _ c.in_ok-row.row c.self.inside.numbers c.remove.new.self c.self.invariant.0 has c.self.invariant.1 c.remove.ensures.updates.0 in
    (c.take.ensures.numbered, λ id. ap (numbers_under id) rows ∙ index id, omega (arith, count, c.self.invariant.2, less, ap (λ rs. length (filter lets_wait rs)) rows))

pub returns-in_err-row-clause-numbered : goal.returns-in_err-row-clause-numbered
returns-in_err-row-clause-numbered c = subst IsNumbered c.self.view_is c.self.invariant.0

pub returns-clause-numbered : goal.returns-clause-numbered
returns-clause-numbered c = subst IsNumbered c.self.view_is c.self.invariant.0
