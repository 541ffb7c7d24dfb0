use Rattle.std.proofs.Common.{◌++◌, ◌∷◌, [], List, ap, sym, ◌∙◌, subst}
use Rattle.lload_names.specs.declared.names.Entry.{Entry}
use Rattle.lload_names.specs.declared.names.Posted.{Posted}
use Rattle.lload_names.specs.declared.names.PartName.TheVariants.{Up as Connection}
use Rattle.lload_names.specs.declared.names.What.TheVariants as what
use Rattle.outbox.specs.Room.{Room}
use Rattle.part_spec.specs.Inputs.{entries_of}
use Rattle.part_spec.specs.RegularTurn.{message}
use Rattle.conn_core.specs.Conn.{Conn}
use Rattle.conn_core.specs.Did.{Did}
use Rattle.upstream_conn.specs.Part.{state}
use Rattle.std.proofs.Common.{None, append_assoc}
use Rattle.lload_names.specs.declared.names.PartName.TheVariants.{Desk}
use Rattle.lload_names.specs.declared.names.Letter.TheVariants.{IsUp}
use Rattle.part_spec.specs.Inputs.{to}
use Rattle.upstream_conn.proofs.Gots.{success-did}
use Rattle.upstream_conn.proofs.part.UpstreamPart.own_success.Goals as goal

pub returns-clause-did : goal.returns-clause-did
returns-clause-did c = λ s mark k.
    subst (λ (w : Conn). Did s (state c.args.self.now) c.args.at mark (message (state c.args.self.now) c.args.at (record { id = c.args.id; rest = c.args.rest })) c.args.out.now c.tell_desk.new.out (state (record c.args.self.now { core = w; own = None }))) (sym c.come_up.ensures)
    (success-did s c.args.self.now c.args.out.now c.tell_desk.new.out c.args.at c.args.id c.args.rest mark c.requires.own c.requires.told
    (ap (λ (r : Room Entry). r.items) c.tell_desk.ensures.entries
    ∙ c.put-2.ensures.entries
    ∙ ap (λ (l : List Entry). l ++ entries_of (Connection c.args.self.now.core.number) c.args.at (what.Up ∷ [])) (c.put.ensures.entries ∙ ap (λ (l : List Entry). l ++ entries_of (Connection c.args.self.now.core.number) c.args.at (what.Got c.args.id c.args.rest ∷ [])) c.in_ok-reserve.ensures.entries)
    ∙ append_assoc c.args.out.now.entries.items (entries_of (Connection c.args.self.now.core.number) c.args.at (what.Got c.args.id c.args.rest ∷ [])) (entries_of (Connection c.args.self.now.core.number) c.args.at (what.Up ∷ [])))
    (c.tell_desk.ensures.letters
    ∙ ap (λ (l : List Posted). l ++ to Desk (IsUp c.number-conn.result)) (ap (λ (r : Room Posted). r.items) (c.put-2.ensures.letters ∙ c.put.ensures.letters) ∙ c.in_ok-reserve.ensures.letters)
    ∙ ap (λ n. c.args.out.now.letters.items ++ to Desk (IsUp n)) (c.number-conn.ensures ∙ ap (λ (w : Conn). w.number) c.come_up.ensures)))
