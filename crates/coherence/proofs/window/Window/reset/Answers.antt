use Rattle.std.proofs.Common.{ap}
use Rattle.lload_spec.specs.BindingCalls.{Reset}
use Rattle.lload_spec.proofs.Pushed.{after, pushed}
use Rattle.coherence.proofs.window.Window.reset.Goals as goal

-- src/window.rt:77:5
pub returns : goal.returns
returns c =
    record { calls = λ calls h. pushed c.args.self.now _ calls Reset (ap (after Reset) c.self.view_is) h }
