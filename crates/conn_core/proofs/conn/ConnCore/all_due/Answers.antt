use Rattle.std.proofs.Common.{◌≡◌, ◌<◌, ◌^◌, ℕ, List, map, filter, Result, Ok, Err, ap, ◌∙◌, sym, subst}
use Rattle.std.specs.Prelude.{IfOk}
use Rattle.std.specs.List.{AllByRecursion}
use Rattle.op_deadlines.specs.Due.{is_due, all_due}
use Rattle.conn_core.specs.Conn.{Conn}
use Rattle.conn_core.proofs.Moments.{moments-due}
use Rattle.conn_core.proofs.Keeps.{small-due}
use Rattle.conn_core.proofs.conn.ConnCore.all_due.Goals as goal

pub returns-clause-due : goal.returns-clause-due
returns-clause-due c =
    subst (λ (l : List ℕ). IfOk c.all_due.result (λ due. due.items ≡ l))
    (ap (all_due c.self.inside.deadlines.timeout c.args.at) c.self.invariant.counted
    ∙ moments-due c.self.inside.deadlines.timeout c.args.at c.self.inside.table.rows
    ∙ ap (λ (v : Conn). map (λ r. r.id) (filter (λ r. is_due v.timeout c.args.at r.last) v.table.rows)) c.self.view_is) c.all_due.ensures

if-ok : {T E : Type 0} (P Q : T → Type 0) → ((t : T) → P t → Q t) → (r : Result T E) → IfOk r P → IfOk r Q
if-ok P Q f (Ok t) h = f t h
if-ok P Q f (Err e) h = h

pub returns-clause-small : goal.returns-clause-small
returns-clause-small c =
    if-ok (λ due. due.items ≡ all_due c.self.inside.deadlines.timeout c.args.at c.self.inside.deadlines.moments) (λ due. AllByRecursion (λ id. id < 2 ^ 31) due.items)
    (λ due h. subst (AllByRecursion (λ id. id < 2 ^ 31)) (sym (h ∙ ap (all_due c.self.inside.deadlines.timeout c.args.at) c.self.invariant.counted)) (small-due c.self.inside.deadlines.timeout c.args.at c.self.inside.table c.self.invariant.sound)) c.all_due.result c.all_due.ensures
