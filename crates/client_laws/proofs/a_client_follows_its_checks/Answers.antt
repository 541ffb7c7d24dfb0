use Rattle.client_laws.proofs.ClientChecks.{client_checks}
use Rattle.client_laws.proofs.a_client_follows_its_checks.Goals as goal

pub returns : goal.returns
returns c = record { checks = client_checks }
