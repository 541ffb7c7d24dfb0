use Rattle.std.proofs.Common.{◌≡◌, ◌≤◌, ◌||◌, true, false, nat_eq, refl, sym, ◌∙◌, ap, arith}
use Rattle.std.proofs.lemmas.Bool.Decides.{nat_tests}
use Rattle.std.specs.Prelude.{nat_le}
use Rattle.std.specs.List.{list_any}
use Rattle.client_rows.specs.Rows.{lets_wait}
use Rattle.part_spec.specs.ClientState.{lets_wait as row_waits}
use Rattle.client_session.specs.Stands.{seen, shown}
use Rattle.client_session.proofs.Views.{waits-shown}
use Rattle.client_session.proofs.part.ClientPart.holds.Goals as goal

pub returns-then-is_waiting-clause-holds : goal.returns-then-is_waiting-clause-holds
returns-then-is_waiting-clause-holds c = λ s p h.
    let waits : list_any (row_waits s) p.rows ≡ true = waits-shown s p.rows c.args.self.now.operations.rows h.live.rows_are ∙ sym c.is_waiting.ensures ∙ c.if-is_waiting.true in
    rw (c.if-is_waiting.true, waits) refl

pub returns-else-is_waiting-clause-holds : goal.returns-else-is_waiting-clause-holds
returns-else-is_waiting-clause-holds c = λ s p h.
    let waits : list_any (row_waits s) p.rows ≡ false = waits-shown s p.rows c.args.self.now.operations.rows h.live.rows_are ∙ sym c.is_waiting.ensures ∙ c.if-is_waiting.false in
    let is : p.count ≡ c.count.result = h.live.count_is ∙ sym c.count.ensures in
    rw (waits, is) (grind (arith, nat_tests, c.count.type_inv))
