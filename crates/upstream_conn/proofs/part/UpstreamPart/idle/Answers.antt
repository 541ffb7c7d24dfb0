use Rattle.std.proofs.Common.{◌++◌, ◌∷◌, [], List, ap, sym, ◌∙◌, subst}
use Rattle.lload_names.specs.declared.names.Entry.{Entry}
use Rattle.lload_names.specs.declared.names.Posted.{Posted}
use Rattle.lload_names.specs.declared.names.PartName.TheVariants.{Up as Connection}
use Rattle.lload_names.specs.declared.names.What.TheVariants as what
use Rattle.outbox.specs.Room.{Room}
use Rattle.part_spec.specs.Inputs.{entries_of}
use Rattle.part_spec.specs.RegularTurn.{drops}
use Rattle.conn_core.specs.Conn.{Conn}
use Rattle.conn_core.specs.Did.{Did}
use Rattle.upstream_conn.specs.Part.{state}
use Rattle.upstream_conn.proofs.Gots.{idle-did}
use Rattle.upstream_conn.proofs.part.UpstreamPart.idle.Goals as goal

pub returns-clause-did : goal.returns-clause-did
returns-clause-did c = λ s mark k.
    subst (λ (w : Conn). Did s (state c.args.self.now) c.args.at mark (drops s (state c.args.self.now) c.args.op) c.args.out.now c.put.new.out (state (record c.args.self.now { core = w }))) (sym c.moved.ensures)
    (idle-did s c.args.self.now c.args.out.now c.put.new.out c.args.at c.args.op mark c.requires
    (c.put.ensures.entries ∙ ap (λ (l : List Entry). l ++ entries_of (Connection c.args.self.now.core.number) c.args.at (what.Idle c.args.op ∷ [])) c.in_ok-reserve.ensures.entries)
    (ap (λ (r : Room Posted). r.items) c.put.ensures.letters ∙ c.in_ok-reserve.ensures.letters))
