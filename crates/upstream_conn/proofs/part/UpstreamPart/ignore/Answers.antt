use Rattle.std.proofs.Common.{◌++◌, ◌∷◌, [], List, ap, sym, ◌∙◌, subst}
use Rattle.lload_names.specs.declared.names.Entry.{Entry}
use Rattle.lload_names.specs.declared.names.Posted.{Posted}
use Rattle.lload_names.specs.declared.names.PartName.TheVariants.{Up as Connection}
use Rattle.lload_names.specs.declared.names.What.TheVariants as what
use Rattle.outbox.specs.Room.{Room}
use Rattle.part_spec.specs.Inputs.{entries_of}
use Rattle.part_spec.specs.RegularTurn.{message}
use Rattle.conn_core.specs.Conn.{Conn}
use Rattle.conn_core.specs.Did.{Did}
use Rattle.upstream_conn.specs.Part.{state}
use Rattle.upstream_conn.proofs.Gots.{ignore-did}
use Rattle.upstream_conn.proofs.part.UpstreamPart.ignore.Goals as goal

pub returns-clause-did : goal.returns-clause-did
returns-clause-did c = λ s mark k.
    subst (λ (w : Conn). Did s (state c.args.self.now) c.args.at mark (message (state c.args.self.now) c.args.at (record { id = c.args.id; rest = c.args.rest })) c.args.out.now c.put.new.out (state (record c.args.self.now { core = w }))) (sym c.moved.ensures)
    (ignore-did s c.args.self.now c.args.out.now c.put.new.out c.args.at c.args.id c.args.rest mark k c.requires.stray c.requires.other c.requires.dropped
    (c.put.ensures.entries ∙ ap (λ (l : List Entry). l ++ entries_of (Connection c.args.self.now.core.number) c.args.at (what.Got c.args.id c.args.rest ∷ [])) c.in_ok-reserve.ensures.entries)
    (ap (λ (r : Room Posted). r.items) c.put.ensures.letters ∙ c.in_ok-reserve.ensures.letters))
