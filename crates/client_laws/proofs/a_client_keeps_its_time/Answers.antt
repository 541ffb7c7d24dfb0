use Rattle.client_laws.proofs.ClientClauses.{client_moments, client_stalls_so, client_late}
use Rattle.client_laws.proofs.a_client_keeps_its_time.Goals as goal

pub returns-clause-moments : goal.returns-clause-moments
returns-clause-moments c = client_moments

pub returns-clause-stalls : goal.returns-clause-stalls
returns-clause-stalls c = client_stalls_so

pub returns-clause-late : goal.returns-clause-late
returns-clause-late c = client_late
