use Rattle.std.proofs.Common.{◌≡◌, ◌++◌, ◌∷◌, [], ◌==◌, true, false, List, Option, filter, map, ap, sym, subst, append-nil, ◌∙◌}
use Rattle.std.specs.Option.{option_to_list, option_copied}
use Rattle.part_spec.specs.ClientState.{ClientState, without}
use Rattle.client_rows.specs.Rows.{has_id, is_bind}
use Rattle.client_session.specs.Under.{names}
use Rattle.client_session.specs.Stands.{Stands, shown}
use Rattle.client_session.proofs.Under.{named_seen, none-under, bind-named, without-none, drop-none, drop-one, without-tests, names-one, one-number, on-some}
use Rattle.client_session.proofs.part.ClientPart.end_named.Goals as goal

pub returns-in_default-clause-letters : goal.returns-in_default-clause-letters
returns-in_default-clause-letters c = λ s p h.
    let none : filter (has_id c.args.named) c.args.self.now.operations.rows ≡ [] = c.under.ensures ∙ ap (λ o. option_to_list (option_copied o)) c.in_default.is in
    sym (ap (λ l. c.args.out.now.letters.items ++ l) (drop-none s p c.args.self.now c.args.named h (none-under c.args.named c.args.self.now.operations.rows none)) ∙ append-nil c.args.out.now.letters.items)

pub returns-in_default-clause-stands : goal.returns-in_default-clause-stands
returns-in_default-clause-stands c = λ s p h.
    let none : filter (has_id c.args.named) c.args.self.now.operations.rows ≡ [] = c.under.ensures ∙ ap (λ o. option_to_list (option_copied o)) c.in_default.is in
    subst (λ (q : ClientState). Stands s q c.args.self.now) (sym (without-none s p c.args.self.now c.args.named c.args.at h (none-under c.args.named c.args.self.now.operations.rows none))) h

pub returns-then-is_bind-clause-letters : goal.returns-then-is_bind-clause-letters
returns-then-is_bind-clause-letters c = λ s p h.
    let binds = bind-named c.args.named c.args.self.now.operations.rows c.in-Some.row.now c.in-Some.ensures (sym c.is_bind.ensures ∙ c.if-is_bind.true) in
    sym (ap (λ l. c.args.out.now.letters.items ++ l) (drop-none s p c.args.self.now c.args.named h binds) ∙ append-nil c.args.out.now.letters.items)

pub returns-then-is_bind-clause-stands : goal.returns-then-is_bind-clause-stands
returns-then-is_bind-clause-stands c = λ s p h.
    let binds = bind-named c.args.named c.args.self.now.operations.rows c.in-Some.row.now c.in-Some.ensures (sym c.is_bind.ensures ∙ c.if-is_bind.true) in
    subst (λ (q : ClientState). Stands s q c.args.self.now) (sym (without-none s p c.args.self.now c.args.named c.args.at h binds)) h

pub returns-clause-letters : goal.returns-clause-letters
returns-clause-letters c = λ s p h.
    c.put_drop.ensures.letters ∙ ap (λ l. c.args.out.now.letters.items ++ l) (sym (drop-one s p c.args.self.now c.args.named h c.in-Some.row.now c.in-Some.ensures (sym c.is_bind.ensures ∙ c.if-is_bind.false)))

pub returns-clause-stands : goal.returns-clause-stands
returns-clause-stands c = λ s p h.
    let d = c.args.self.now in
    let row = c.in-Some.row.now in
    let plain : is_bind row ≡ false = sym c.is_bind.ensures ∙ c.if-is_bind.false in
    let found = c.end.ensures.row ∙ one-number c.args.named d row c.end.ensures.numbered c.in-Some.ensures plain in
    subst (λ (q : ClientState). Stands s q c.end.new.self)
    (sym (without-tests (names c.args.named) (λ r. r.k == row.k) c.args.at p (names-one s p d c.args.named row c.end.ensures.numbered h c.in-Some.ensures plain)))
    (on-some c.end.result row found c.end.ensures.state s p h)
