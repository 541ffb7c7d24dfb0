use Rattle.client_laws.proofs.ClientMarks.{client_marks}
use Rattle.client_laws.proofs.a_client_marks_its_letters.Goals as goal

pub returns : goal.returns
returns c = record { marks = client_marks }
