use Rattle.std.proofs.Common.{◌≡◌, ap, max, arith}
use Rattle.lload_spec.specs.BindingCalls.{WriteEnded}
use Rattle.lload_spec.proofs.Pushed.{after, pushed}
use Rattle.coherence.proofs.window.Window.write_ended.Goals as goal

-- src/window.rt:68:5
pub returns : goal.returns
returns c =
    let later : c.max-self-inside.result ≡ max c.self.inside.ended c.args.now = grind (arith, c.max-self-inside.ensures) in
    record { calls = λ calls h. rw later (pushed c.args.self.now _ calls (WriteEnded c.args.now) (ap (after (WriteEnded c.args.now)) c.self.view_is) h) }
