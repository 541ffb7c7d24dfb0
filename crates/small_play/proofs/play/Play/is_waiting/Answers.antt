use Rattle.std.proofs.Common.{◌∙◌, ◌==◌, ap, sym}
use Rattle.small_play.specs.FedMessages.{message}
use Rattle.small_play.specs.Waiting.{waits}
use Rattle.small_laws.proofs.ListLaws.{any-map}
use Rattle.small_play.proofs.play.Play.is_waiting.Goals as goal

pub returns : goal.returns
returns c = c.has_id.ensures ∙ sym (any-map (λ m. m.id == c.args.id) message c.self.inside.requests.items) ∙ ap (λ p. waits p.requests c.args.id) c.self.view_is
