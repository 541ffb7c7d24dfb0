use Rattle.std.proofs.Common.{sym, ap, ◌∙◌}
use Rattle.tier_select.specs.Calls.{choice}
use Rattle.tier_select.proofs.Orders.{choice_within, choice_none, none_choice}
use Rattle.tier_select.proofs.Standings.{choice_standing}
use Rattle.tier_select.proofs.tier.Tier.choose.Goals as goal

pub returns-clause-pick : goal.returns-clause-pick
returns-clause-pick c plan calls stood =
    c.next.ensures ∙ (ap (λ t. choice t c.args.eligible.now c.args.word) stood ∙ choice_standing plan calls c.args.eligible.now c.args.word)

pub returns-clause-none : goal.returns-clause-none
returns-clause-none c =
    (λ e. choice_none c.args.self.now c.args.eligible.now c.args.word (sym c.next.ensures ∙ e), λ none. c.next.ensures ∙ none_choice c.args.self.now c.args.eligible.now c.args.word none)

pub returns-clause-within : goal.returns-clause-within
returns-clause-within c x e = choice_within c.args.self.now c.args.eligible.now c.args.word x (sym c.next.ensures ∙ e)
