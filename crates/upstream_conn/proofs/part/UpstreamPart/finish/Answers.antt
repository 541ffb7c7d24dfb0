use Rattle.std.proofs.Common.{ℕ, true, Some, None, ◌++◌, ◌∷◌, [], List, ap, sym, ◌∙◌, subst, append_assoc}
use Rattle.lload_names.specs.declared.names.Entry.{Entry}
use Rattle.lload_names.specs.declared.names.Posted.{Posted}
use Rattle.lload_names.specs.declared.names.PartName.TheVariants.{Desk, Up as Connection}
use Rattle.lload_names.specs.declared.names.Letter.TheVariants.{Ended}
use Rattle.lload_names.specs.declared.names.What.TheVariants as what
use Rattle.lload_spec.specs.Owed.{latency_between}
use Rattle.outbox.specs.Room.{Room}
use Rattle.id_table.specs.Table.{IsTable}
use Rattle.part_spec.specs.Inputs.{entries_of, reply, to}
use Rattle.part_spec.specs.RegularTurn.{message}
use Rattle.conn_core.specs.Conn.{Conn}
use Rattle.conn_core.specs.Did.{Did}
use Rattle.upstream_conn.specs.Part.{state}
use Rattle.upstream_conn.proofs.Gots.{there}
use Rattle.upstream_conn.proofs.Lasts.{finish-did, finish-knows}
use Rattle.upstream_conn.proofs.part.UpstreamPart.finish.Goals as goal

pub returns-clause-did : goal.returns-clause-did
returns-clause-did c = λ s mark k.
    let r = there _ _ c.requires.row c.requires.live in
    let new = c.moved.ensures ∙ ap (λ (w : Conn). record w { moment = c.args.at }) c.finish.ensures.finished in
    subst (λ (w : Conn). Did s (state c.args.self.now) c.args.at mark (message (state c.args.self.now) c.args.at (record { id = c.args.id; rest = c.args.rest })) c.args.out.now c.tell_end.new.out (state (record c.args.self.now { core = w }))) (sym new)
    (finish-did s c.args.self.now c.args.out.now c.tell_end.new.out c.args.at c.args.id c.latency.result c.args.rest r.0 c.args.op mark k r.1 r.2.0 (c.latency.ensures ∙ ap (λ n. latency_between n c.args.at) (sym r.2.1)) r.2.2 c.requires.other
    (ap (λ (r : Room Entry). r.items) (c.tell_end.ensures.entries ∙ c.reply.ensures.entries) ∙ c.put.ensures.entries ∙ ap (λ (t : List ℕ). c.reserve.new.self.entries.items ++ entries_of (Connection c.args.self.now.core.number) c.args.at (what.Got c.args.id t ∷ [])) c.in_ok-told.ensures ∙ ap (λ (l : List Entry). l ++ entries_of (Connection c.args.self.now.core.number) c.args.at (what.Got c.args.id c.args.rest ∷ [])) c.in_ok-reserve.ensures.entries)
    (c.tell_end.ensures.letters
    ∙ ap (λ (l : List Posted). l ++ to Desk (Ended c.args.op c.moved.new.self.number (Some c.latency.result))) (c.reply.ensures.letters ∙ ap (λ (l : List Posted). l ++ reply c.args.op c.args.rest true None) (ap (λ (r : Room Posted). r.items) c.put.ensures.letters ∙ c.in_ok-reserve.ensures.letters))
    ∙ append_assoc c.args.out.now.letters.items (reply c.args.op c.args.rest true None) (to Desk (Ended c.args.op c.moved.new.self.number (Some c.latency.result)))
    ∙ ap (λ (w : Conn). c.args.out.now.letters.items ++ (reply c.args.op c.args.rest true None ++ to Desk (Ended c.args.op w.number (Some c.latency.result)))) new))

pub returns-clause-knows : goal.returns-clause-knows
returns-clause-knows c = λ s.
    let r = there _ _ c.requires.row c.requires.live in
    finish-knows s c.args.self.now c.moved.new.self c.args.at c.args.id r.0 r.1 (c.moved.ensures ∙ ap (λ (w : Conn). record w { moment = c.args.at }) c.finish.ensures.finished) (subst (λ (w : Conn). IsTable w.table) (sym c.moved.ensures) c.finish.ensures.table)
