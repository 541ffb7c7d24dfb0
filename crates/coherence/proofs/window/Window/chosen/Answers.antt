use Rattle.std.proofs.Common.{ap}
use Rattle.lload_names.specs.declared.names.Hold.TheVariants.{Write, Backend, Connection}
use Rattle.lload_spec.specs.BindingCalls.{Chosen}
use Rattle.lload_spec.proofs.Pushed.{after, pushed}
use Rattle.coherence.proofs.window.Window.chosen.Goals as goal

-- src/window.rt:53:5
pub returns-in-Write : goal.returns-in-Write
returns-in-Write c =
    record { calls = λ calls h. rw c.in-Write.is (pushed c.args.self.now _ calls (Chosen Write c.args.conn c.args.backend) (ap (after (Chosen Write c.args.conn c.args.backend)) c.self.view_is) h) }

-- src/window.rt:53:5
pub returns-in-Backend : goal.returns-in-Backend
returns-in-Backend c =
    record { calls = λ calls h. rw c.in-Backend.is (rw c.or-self-inside.ensures (pushed c.args.self.now _ calls (Chosen Backend c.args.conn c.args.backend) (ap (after (Chosen Backend c.args.conn c.args.backend)) c.self.view_is) h)) }

-- src/window.rt:53:5
pub returns-in-Connection : goal.returns-in-Connection
returns-in-Connection c =
    record { calls = λ calls h. rw c.in-Connection.is (rw c.or-self-inside-in-Connection.ensures (pushed c.args.self.now _ calls (Chosen Connection c.args.conn c.args.backend) (ap (after (Chosen Connection c.args.conn c.args.backend)) c.self.view_is) h)) }
