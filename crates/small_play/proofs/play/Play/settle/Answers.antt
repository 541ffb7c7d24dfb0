use Rattle.std.proofs.Common.{◌≡◌, ◌∙◌, ap, sym, subst, map}
use Rattle.lload_names.specs.declared.names.PartName.TheVariants.{Client, Up as Connection}
use Rattle.small_play.specs.PlayState.{PlayState}
use Rattle.small_play.specs.FedMessages.{message}
use Rattle.small_play.specs.Settling.{MayTakeEach, after_each}
use Rattle.small_play.proofs.Waiting.{heard_may, taken_may}
use Rattle.small_play.proofs.Settles.{settled}
use Rattle.small_play.proofs.play.Play.settle.Goals as goal

pub take_each-requires : goal.take_each-requires
take_each-requires c =
    let p : PlayState = record { world = c.self.inside.world; requests = map message c.self.inside.requests.items; answers = map message c.self.inside.answers.items } in
    subst (λ q. MayTakeEach c.hear.new.self (Client 1) (map message q.items)) (sym c.replace-requests.ensures.value) (heard_may p c.hear.new.self c.self.invariant c.in_ok-piece.ensures.state)

pub take_each-requires-2 : goal.take_each-requires-2
take_each-requires-2 c =
    let p : PlayState = record { world = c.self.inside.world; requests = map message c.self.inside.requests.items; answers = map message c.self.inside.answers.items } in
    let state : c.take_each.new.world ≡ after_each c.hear.new.self (Client 1) p.requests = c.in_ok-take_each.ensures.took.world ∙ ap (λ q. after_each c.hear.new.self (Client 1) (map message q.items)) c.replace-requests.ensures.value in
    subst (λ q. MayTakeEach c.take_each.new.world (Connection 1) (map message q.items)) (sym c.replace-answers.ensures.value) (taken_may p c.hear.new.self c.take_each.new.world c.self.invariant c.in_ok-piece.ensures.state state)

pub returns-clause-settled : goal.returns-clause-settled
returns-clause-settled c =
    let p : PlayState = record { world = c.self.inside.world; requests = map message c.self.inside.requests.items; answers = map message c.self.inside.answers.items } in
    settled p c.args.self.now c.hear.new.self c.take_each.new.world c.take_each-2.new.world c.in_ok-piece.piece c.take_each.new.piece c.take_each-2.new.piece (map message c.replace-requests.result.items) (map message c.replace-answers.result.items) (map message c.replace-requests.new.dest.items) (map message c.replace-answers.new.dest.items) c.self.view_is (ap (λ q. map message q.items) c.replace-requests.ensures.value) (ap (λ q. map message q.items) c.replace-answers.ensures.value) c.in_ok-piece.ensures.made c.in_ok-piece.ensures.stands c.in_ok-take_each.ensures.took c.in_ok-take_each-2.ensures.took (ap (λ q. map message q.items) c.replace-requests.ensures.after ∙ ap (map message) c.new.ensures.items) (ap (λ q. map message q.items) c.replace-answers.ensures.after ∙ ap (map message) c.new-2.ensures.items)
