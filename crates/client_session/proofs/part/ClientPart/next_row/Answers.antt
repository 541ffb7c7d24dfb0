use Rattle.std.proofs.Common.{refl, ap, arith, ◌∙◌}
use Rattle.ldap_spec.specs.Messages.{Message}
use Rattle.ldap_spec.specs.Requests.{request}
use Rattle.lload_spec.specs.Binding.{restricts}
use Rattle.client_session.specs.Stands.{simple_who}
use Rattle.client_session.proofs.Went.{waiting-shown}
use Rattle.client_session.proofs.part.ClientPart.next_row.Goals as goal

pub returns-clause-row : goal.returns-clause-row
returns-clause-row c = λ s p rest h its is act.
    let m : Message = record { id = c.args.id; rest = rest } in
    let count = c.count.ensures in
    let same = h.live.count_is in
    waiting-shown s p m c.args.kind _ c.args.sent its is (omega (arith, count, same)) refl refl act (c.restricts.ensures s h.settings ∙ ap (restricts s) act) (c.in_ok-who.ensures ∙ ap (λ r. simple_who (request r)) c.as_slice.ensures) refl
