use Rattle.ldap_messages.proofs.LentParts.{part_of_part, method_through}
use Rattle.ldap_messages.proofs.requests.bind_request.Goals as goal

pub returns-clause-lent : goal.returns-clause-lent
returns-clause-lent c =
    let behind = part_of_part _ _ _ c.in_ok-version.ensures.lent.behind c.in_ok-name.ensures.lent.behind in (
      part_of_part _ _ _ c.in_ok-version.ensures.lent.behind c.in_ok-name.ensures.lent.contents,
      method_through _ _ _ (part_of_part _ _ _ behind c.in_ok-authentication.ensures.lent.contents) c.in_ok-method_of.ensures.lent,
    )
