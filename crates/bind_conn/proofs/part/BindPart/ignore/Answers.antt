use Rattle.std.proofs.Common.{◌++◌, ◌∷◌, [], List, ap, sym, ◌∙◌, subst}
use Rattle.lload_names.specs.declared.names.Entry.{Entry}
use Rattle.lload_names.specs.declared.names.Posted.{Posted}
use Rattle.lload_names.specs.declared.names.PartName.TheVariants.{Up as Connection}
use Rattle.lload_names.specs.declared.names.What.TheVariants as what
use Rattle.outbox.specs.Room.{Room}
use Rattle.part_spec.specs.Inputs.{entries_of}
use Rattle.part_spec.specs.BindTurn.{message}
use Rattle.conn_core.specs.Conn.{Conn}
use Rattle.conn_core.specs.Did.{Did}
use Rattle.bind_conn.specs.Part.{state}
use Rattle.bind_conn.proofs.Strays.{ignore-did}
use Rattle.bind_conn.proofs.part.BindPart.ignore.Goals as goal

pub returns-clause-did : goal.returns-clause-did
returns-clause-did c = λ s mark k.
    let b = c.args.self.now in
    subst (λ (w : Conn). Did s (state b) c.args.at mark (message s (state b) (record { id = c.args.id; rest = c.args.rest })) c.args.out.now c.put.new.out (state (record b { core = w }))) (sym c.moved.ensures)
    (ignore-did s b c.args.out.now c.put.new.out c.args.at c.args.id c.args.rest mark (c.requires.stray s k) c.requires.dropped
    (c.put.ensures.entries ∙ ap (λ (l : List Entry). l ++ entries_of (Connection b.core.number) c.args.at (what.Got c.args.id c.args.rest ∷ [])) c.in_ok-reserve.ensures.entries)
    (ap (λ (x : Room Posted). x.items) c.put.ensures.letters ∙ c.in_ok-reserve.ensures.letters))
