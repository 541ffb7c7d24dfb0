use Rattle.std.proofs.Common.{◌∙◌, ap, sym, subst}
use Rattle.std.specs.Option.{option_copied_mut}
use Rattle.part_spec.specs.Inputs.{letter_of, marked_by}
use Rattle.part_spec.specs.Turn.{connection_turn}
use Rattle.conn_core.specs.Turned.{behind}
use Rattle.conn_core.proofs.Turns.{on-ok}
use Rattle.proxy_parts.specs.Connections.{IsConnection}
use Rattle.proxy_parts.proofs.Kept.{was_up}
use Rattle.proxy_parts.proofs.Maps.{written, is-some}
use Rattle.proxy_parts.proofs.connections.Connections.step.Goals as goal

pub returns-in-Some-clause-took : goal.returns-in-Some-clause-took
returns-in-Some-clause-took c =
    let had = sym c.get_mut.ensures.value ∙ ap option_copied_mut c.in-Some.is in
    let has = written c.args.self.now.parts (c.get_mut.follows.lender c.step.new.self) c.args.conn c.in-Some.part.now c.step.new.self had (c.get_mut.follows.holds c.step.new.self) in
    on-ok c.step.result
    (λ turned s p h unplaced m.
    let t = turned s p (subst (λ o. IsConnection s c.args.conn p o) had h.part) m in
    record {
      entries = t.entries;
      letters = t.letters;
      stands = record { part = subst (λ o. IsConnection s c.args.conn (behind s p c.args.input) o) (sym has) t.stands; ending = λ some up. h.ending (is-some _ _ had) (was_up s (marked_by (letter_of c.args.input) (connection_turn s p c.args.input).entries) p up) };
    })
    c.step.ensures.turned
