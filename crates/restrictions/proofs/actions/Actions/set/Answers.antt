use Rattle.std.proofs.Common.{◌≡◌, ℕ, List, true, false, ap, ◌∙◌, sym, rules}
use Rattle.restrictions.specs.Actions.{action_view, put, restrictions_of}
use Rattle.restrictions.proofs.Entries.{has_none, inserted, never}
use Rattle.restrictions.proofs.actions.Actions.set.Goals as goal

pub returns-then-contains_key-clause-answer : goal.returns-then-contains_key-clause-answer
returns-then-contains_key-clause-answer c = sym (has_none c.args.oid.now c.self.inside.by_oid.entries c.args.self.now true c.self.view_is (sym c.contains_key.ensures ∙ c.if-contains_key.true))

pub returns-in_err-to_vec-clause-no_memory : goal.returns-in_err-to_vec-clause-no_memory
returns-in_err-to_vec-clause-no_memory c = λ had. absurd (never _ (has_none c.args.oid.now c.self.inside.by_oid.entries c.args.self.now false c.self.view_is (sym c.contains_key.ensures ∙ c.if-contains_key.false)) had)

pub returns-in_err-insert-clause-no_memory : goal.returns-in_err-insert-clause-no_memory
returns-in_err-insert-clause-no_memory c = λ had. absurd (never _ (has_none c.args.oid.now c.self.inside.by_oid.entries c.args.self.now false c.self.view_is (sym c.contains_key.ensures ∙ c.if-contains_key.false)) had)

pub returns-clause-answer : goal.returns-clause-answer
returns-clause-answer c = sym (has_none c.args.oid.now c.self.inside.by_oid.entries c.args.self.now false c.self.view_is (sym c.contains_key.ensures ∙ c.if-contains_key.false))

pub returns-clause-put : goal.returns-clause-put
returns-clause-put c = λ _.
    let key : c.in_ok-to_vec.field-0.items ≡ c.args.oid.now = search rules in
    let a = action_view c.args.action in
    ap restrictions_of c.in_ok-insert.ensures.entries ∙ (inserted c.in_ok-to_vec.field-0 c.args.action c.self.inside.by_oid.entries
    ∙ (ap (λ (oid : List ℕ). put oid a (restrictions_of c.self.inside.by_oid.entries)) key ∙ ap (put c.args.oid.now a) c.self.view_is))

pub returns-clause-no_memory : goal.returns-clause-no_memory
returns-clause-no_memory c = λ had. absurd (never _ (has_none c.args.oid.now c.self.inside.by_oid.entries c.args.self.now false c.self.view_is (sym c.contains_key.ensures ∙ c.if-contains_key.false)) had)
