use Rattle.client_answer_laws.proofs.LifeKept.{client_life}
use Rattle.client_answer_laws.proofs.a_client_lives_its_life.Goals as goal

pub returns : goal.returns
returns c = record { life = client_life }
