use Rattle.ldap_messages.proofs.LentParts.{part_of_part, method_through}
use Rattle.ldap_messages.proofs.requests.classify.Goals as goal

pub returns-in_ok-bind_request-in-96-clause-lent : goal.returns-in_ok-bind_request-in-96-clause-lent
returns-in_ok-bind_request-in-96-clause-lent c = (
  part_of_part _ _ _ c.in_ok-operation.ensures.lent.contents c.in_ok-bind_request-in-96.ensures.lent.0,
  method_through _ _ _ c.in_ok-operation.ensures.lent.contents c.in_ok-bind_request-in-96.ensures.lent.1,
)

pub returns-in_ok-tagged_part-in-119-clause-lent : goal.returns-in_ok-tagged_part-in-119-clause-lent
returns-in_ok-tagged_part-in-119-clause-lent c = part_of_part _ _ _ c.in_ok-operation.ensures.lent.contents c.in_ok-tagged_part-in-119.ensures.lent.contents
