use Rattle.std.proofs.Common.{ℕ, true, false, ◌≡◌, ◌==◌, None, ◌++◌, List, ap, sym, ◌∙◌, subst, append_assoc}
use Rattle.lload_names.specs.declared.names.Entry.{Entry}
use Rattle.lload_names.specs.declared.names.Posted.{Posted}
use Rattle.lload_names.specs.declared.names.PartName.TheVariants.{Desk, Up as Connection}
use Rattle.lload_names.specs.declared.names.Letter.TheVariants.{Ended}
use Rattle.lload_names.specs.declared.names.What.TheVariants as what
use Rattle.outbox.specs.Room.{Room}
use Rattle.id_table.specs.Table.{IsTable, ended_at}
use Rattle.part_spec.specs.Inputs.{entries_of, to}
use Rattle.conn_core.specs.Conn.{Conn}
use Rattle.conn_core.specs.Closing.{given_whats, retired_letters}
use Rattle.conn_core.specs.Did.{Did}
use Rattle.upstream_conn.specs.Part.{state}
use Rattle.part_spec.specs.RegularTurn.{drops}
use Rattle.upstream_conn.proofs.Owns.{named-some, may-own, abandon-did, abandon-knows}
use Rattle.upstream_conn.proofs.part.UpstreamPart.abandon.Goals as goal

pub returns-in_default-clause-did : goal.returns-in_default-clause-did
returns-in_default-clause-did c = λ s mark k.
    let f = named-some c.args.op c.args.id 1 c.args.self.now.core.table.ids.next c.args.self.now.core.table.rows k.steady.sound.table.rises c.requires.live in
    absurd (let bad : true ≡ false = sym (may-own s c.args.self.now c.args.id f.0 k f.1) ∙ c.in_default.ensures.own.0 in cc)

pub returns-clause-did : goal.returns-clause-did
returns-clause-did c = λ s mark k.
    let u = c.args.self.now in
    let o = c.args.out.now in
    let own = c.in-Some.own in
    let ended = c.end.ensures.ended ∙ ap (λ (w : Conn). record w { table = ended_at c.args.id w.table }) c.in-Some.ensures.own.1 in
    let new = c.moved.ensures ∙ ap (λ (w : Conn). record w { moment = c.args.at }) ended in
    subst (λ (w : Conn). Did s (state u) c.args.at mark (drops s (state u) c.args.op) o c.tell_retired.new.out (state (record u { core = w }))) (sym new)
    (abandon-did s u o c.tell_retired.new.out c.args.at c.args.id own c.args.op mark k c.requires.live c.in-Some.ensures.own.0
    (ap (λ (r : Room Entry). r.items) (c.tell_retired.ensures.entries ∙ c.tell_end.ensures.entries)
    ∙ c.put_giving.ensures.entries
    ∙ ap (λ (l : List Entry). l ++ entries_of (Connection c.end.new.self.number) c.args.at (given_whats (own == c.end.new.self.table.limit) (what.Own own c.in_ok-rest.rest))) c.in_ok-reserve.ensures.entries
    ∙ ap (λ (w : Conn). o.entries.items ++ entries_of (Connection w.number) c.args.at (given_whats (own == w.table.limit) (what.Own own c.in_ok-rest.rest))) ended
    ∙ ap (λ (b : List ℕ). o.entries.items ++ entries_of (Connection u.core.number) c.args.at (given_whats (own == u.core.table.limit) (what.Own own b))) c.in_ok-rest.ensures)
    (c.tell_retired.ensures.letters
    ∙ ap (λ (l : List Posted). l ++ retired_letters c.moved.new.self.number (own == c.moved.new.self.table.limit)) (c.tell_end.ensures.letters ∙ ap (λ (l : List Posted). l ++ to Desk (Ended c.args.op c.moved.new.self.number None)) (ap (λ (r : Room Posted). r.items) c.put_giving.ensures.letters ∙ c.in_ok-reserve.ensures.letters))
    ∙ append_assoc o.letters.items (to Desk (Ended c.args.op c.moved.new.self.number None)) (retired_letters c.moved.new.self.number (own == c.moved.new.self.table.limit))
    ∙ ap (λ (w : Conn). o.letters.items ++ (to Desk (Ended c.args.op w.number None) ++ retired_letters w.number (own == w.table.limit))) new))

pub returns-clause-knows : goal.returns-clause-knows
returns-clause-knows c = λ s k.
    let u = c.args.self.now in
    let f = named-some c.args.op c.args.id 1 u.core.table.ids.next u.core.table.rows k.steady.sound.table.rises c.requires.live in
    abandon-knows s u c.moved.new.self c.args.at c.args.id f.0 f.1 (c.moved.ensures ∙ ap (λ (w : Conn). record w { moment = c.args.at }) (c.end.ensures.ended ∙ ap (λ (w : Conn). record w { table = ended_at c.args.id w.table }) c.in-Some.ensures.own.1)) (subst (λ (w : Conn). IsTable w.table) (sym c.moved.ensures) c.end.ensures.table) k
