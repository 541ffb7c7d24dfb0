use Rattle.std.proofs.Common.{ℕ, false, None, ◌++◌, ◌∷◌, [], List, ap, sym, ◌∙◌, subst}
use Rattle.lload_names.specs.declared.names.Entry.{Entry}
use Rattle.lload_names.specs.declared.names.Posted.{Posted}
use Rattle.lload_names.specs.declared.names.PartName.TheVariants.{Up as Connection}
use Rattle.lload_names.specs.declared.names.What.TheVariants as what
use Rattle.outbox.specs.Room.{Room}
use Rattle.id_table.specs.Table.{IsTable}
use Rattle.part_spec.specs.Inputs.{entries_of, reply}
use Rattle.part_spec.specs.BindTurn.{message}
use Rattle.conn_core.specs.Conn.{Conn}
use Rattle.conn_core.specs.Did.{Did}
use Rattle.bind_conn.specs.Part.{state}
use Rattle.bind_conn.proofs.Gots.{there}
use Rattle.bind_conn.proofs.Settles.{more-did, touched-knows}
use Rattle.bind_conn.proofs.part.BindPart.answer.Goals as goal

pub returns-clause-did : goal.returns-clause-did
returns-clause-did c = λ s mark k.
    let b = c.args.self.now in
    let r = there _ _ c.requires.row c.requires.live in
    let new = c.moved.ensures ∙ ap (λ (w : Conn). record w { moment = c.args.at }) c.touch.ensures.touched in
    subst (λ (w : Conn). Did s (state b) c.args.at mark (message s (state b) (record { id = c.args.id; rest = c.args.rest })) c.args.out.now c.reply.new.out (state (record b { core = w }))) (sym new)
    (more-did s b c.args.out.now c.reply.new.out c.args.at c.args.id c.args.rest r.0 c.args.op mark k r.1 r.2.0 r.2.1 r.2.2
    (ap (λ (x : Room Entry). x.items) c.reply.ensures.entries ∙ c.put.ensures.entries ∙ ap (λ (t : List ℕ). c.reserve.new.self.entries.items ++ entries_of (Connection b.core.number) c.args.at (what.Got c.args.id t ∷ [])) c.in_ok-told.ensures ∙ ap (λ (l : List Entry). l ++ entries_of (Connection b.core.number) c.args.at (what.Got c.args.id c.args.rest ∷ [])) c.in_ok-reserve.ensures.entries)
    (c.reply.ensures.letters ∙ ap (λ (l : List Posted). l ++ reply c.args.op c.args.rest false None) (ap (λ (x : Room Posted). x.items) c.put.ensures.letters ∙ c.in_ok-reserve.ensures.letters)))

pub returns-clause-knows : goal.returns-clause-knows
returns-clause-knows c = λ s.
    let r = there _ _ c.requires.row c.requires.live in
    touched-knows s c.args.self.now c.moved.new.self c.args.at c.args.id r.0 r.1 (c.moved.ensures ∙ ap (λ (w : Conn). record w { moment = c.args.at }) c.touch.ensures.touched) (subst (λ (w : Conn). IsTable w.table) (sym c.moved.ensures) c.touch.ensures.table)
