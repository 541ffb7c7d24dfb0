use Rattle.std.proofs.Common.{ℕ, ◌+◌, ◌*◌, ◌≤◌, ap, sym, ◌∙◌, subst}
use Rattle.part_spec.specs.Turn.{connection_turn, connection_sever}
use Rattle.conn_core.specs.Most.{IsWithin}
use Rattle.conn_core.specs.Turned.{behind}
use Rattle.bind_conn.specs.Most.{most_of}
use Rattle.bind_conn.proofs.Within.{step-within, step-doubles, sever-within, most-is}
use Rattle.bind_conn.proofs.part.BindPart.most.Goals as goal

pub returns-clause-most : goal.returns-clause-most
returns-clause-most c = λ s p h. ap (λ n. 2 * n + 4) c.len.ensures.len ∙ most-is s p c.args.self.now h

pub returns-clause-step : goal.returns-clause-step
returns-clause-step c = λ s p input h. subst (λ (n : ℕ). IsWithin n (connection_turn s p input)) (sym (ap (λ n. 2 * n + 4) c.len.ensures.len ∙ most-is s p c.args.self.now h)) (step-within s p c.args.self.now input h)

pub returns-clause-doubles : goal.returns-clause-doubles
returns-clause-doubles c = λ s p input h. subst (λ (n : ℕ). most_of (behind s p input) ≤ 2 * n) (sym (ap (λ n. 2 * n + 4) c.len.ensures.len ∙ most-is s p c.args.self.now h)) (step-doubles s p c.args.self.now input h)

pub returns-clause-sever : goal.returns-clause-sever
returns-clause-sever c = λ s p now why h. subst (λ (n : ℕ). IsWithin n (connection_sever p now why)) (sym (ap (λ n. 2 * n + 4) c.len.ensures.len ∙ most-is s p c.args.self.now h)) (sever-within p now why)
