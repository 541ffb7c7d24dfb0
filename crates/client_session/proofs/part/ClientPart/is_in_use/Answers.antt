use Rattle.std.proofs.Common.{sym, ◌∙◌}
use Rattle.client_session.proofs.Facts.{in-use-by}
use Rattle.client_session.proofs.part.ClientPart.is_in_use.Goals as goal

pub returns : goal.returns
returns c = c.is_some.ensures ∙ in-use-by c.args.id _ c.under.result c.under.ensures
