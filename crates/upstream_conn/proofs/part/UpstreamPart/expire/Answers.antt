use Rattle.std.proofs.Common.{ℕ, true, false, ◌≡◌, ◌==◌, None, ◌++◌, ◌∷◌, [], List, ap, sym, ◌∙◌, subst, append_assoc}
use Rattle.lload_names.specs.declared.names.Entry.{Entry}
use Rattle.lload_names.specs.declared.names.Posted.{Posted}
use Rattle.lload_names.specs.declared.names.Refusal.TheVariants.{C5}
use Rattle.lload_names.specs.declared.names.PartName.TheVariants.{Desk, Up as Connection}
use Rattle.lload_names.specs.declared.names.Letter.TheVariants.{Ended}
use Rattle.lload_names.specs.declared.names.What.TheVariants as what
use Rattle.outbox.specs.Room.{Room}
use Rattle.id_table.specs.Rows.{row_of}
use Rattle.id_table.specs.declared.row.Row.{Row}
use Rattle.id_table.specs.Table.{IsTable, ended_at}
use Rattle.part_spec.specs.Inputs.{entries_of, failed, to}
use Rattle.part_spec.specs.RegularTurn.{expires}
use Rattle.conn_core.specs.Conn.{Conn}
use Rattle.conn_core.specs.Closing.{given_whats, retired_letters}
use Rattle.conn_core.specs.Kept.{up_row}
use Rattle.conn_core.specs.Did.{Did}
use Rattle.upstream_conn.specs.Part.{state}
use Rattle.upstream_conn.proofs.Owns.{may-own, abandon-knows}
use Rattle.upstream_conn.proofs.Expiries.{expire-did, some-same}
use Rattle.upstream_conn.proofs.part.UpstreamPart.expire.Goals as goal

pub returns-in_default-clause-did : goal.returns-in_default-clause-did
returns-in_default-clause-did c = λ s r k found. absurd (let bad : true ≡ false = sym (may-own s c.args.self.now c.args.id r k found) ∙ c.in_default.ensures.own.0 in cc)

pub returns-in_default-clause-core : goal.returns-in_default-clause-core
returns-in_default-clause-core c = λ s r k found. absurd (let bad : true ≡ false = sym (may-own s c.args.self.now c.args.id r k found) ∙ c.in_default.ensures.own.0 in cc)

pub returns-clause-did : goal.returns-clause-did
returns-clause-did c = λ s r k found.
    let u = c.args.self.now in
    let o = c.args.out.now in
    let own = c.in-Some.own in
    let op = c.in-Some-end.row.op in
    let ended = c.end.ensures.ended ∙ ap (λ (w : Conn). record w { table = ended_at c.args.id w.table }) c.in-Some.ensures.own.1 in
    let new = c.moved.ensures ∙ ap (λ (w : Conn). record w { moment = c.args.at }) ended in
    let same = some-same c.in-Some-end.row r (c.in-Some-end.ensures.row ∙ ap (λ (w : Conn). row_of c.args.id w.table.rows) c.in-Some.ensures.own.1 ∙ found) in
    subst (λ (w : Conn). Did s (state u) c.args.at None (expires s (state u) u.core.table.ids.next (up_row r)) o c.tell_retired.new.out (state (record u { core = w }))) (sym new)
    (expire-did s u o c.tell_retired.new.out c.args.at c.args.id own r k found c.in-Some.ensures.own.0
    (ap (λ (x : Room Entry). x.items) (c.tell_retired.ensures.entries ∙ c.fail.ensures.entries)
    ∙ c.put_giving.ensures.entries
    ∙ ap (λ (l : List Entry). l ++ entries_of (Connection c.end.new.self.number) c.args.at (given_whats (own == c.end.new.self.table.limit) (what.Own own c.args.rest))) c.put.ensures.entries
    ∙ append_assoc o.entries.items (entries_of (Connection c.end.new.self.number) c.args.at (what.Expired op ∷ [])) (entries_of (Connection c.end.new.self.number) c.args.at (given_whats (own == c.end.new.self.table.limit) (what.Own own c.args.rest)))
    ∙ ap (λ (w : Conn). o.entries.items ++ (entries_of (Connection w.number) c.args.at (what.Expired op ∷ []) ++ entries_of (Connection w.number) c.args.at (given_whats (own == w.table.limit) (what.Own own c.args.rest)))) ended
    ∙ ap (λ (x : Row). o.entries.items ++ entries_of (Connection u.core.number) c.args.at (what.Expired x.op ∷ given_whats (own == u.core.table.limit) (what.Own own c.args.rest))) same
    ∙ ap (λ (b : List ℕ). o.entries.items ++ entries_of (Connection u.core.number) c.args.at (what.Expired r.op ∷ given_whats (own == u.core.table.limit) (what.Own own b))) c.requires.written)
    (c.tell_retired.ensures.letters
    ∙ ap (λ (l : List Posted). l ++ retired_letters c.moved.new.self.number (own == c.moved.new.self.table.limit)) (c.fail.ensures.letters ∙ ap (λ (x : Room Posted). x.items ++ (failed op C5 ++ to Desk (Ended op c.moved.new.self.number None))) (c.put_giving.ensures.letters ∙ c.put.ensures.letters))
    ∙ append_assoc o.letters.items (failed op C5 ++ to Desk (Ended op c.moved.new.self.number None)) (retired_letters c.moved.new.self.number (own == c.moved.new.self.table.limit))
    ∙ ap (λ (w : Conn). o.letters.items ++ ((failed op C5 ++ to Desk (Ended op w.number None)) ++ retired_letters w.number (own == w.table.limit))) new
    ∙ ap (λ (x : Row). o.letters.items ++ ((failed x.op C5 ++ to Desk (Ended x.op u.core.number None)) ++ retired_letters u.core.number (own == u.core.table.limit))) same))

pub returns-clause-knows : goal.returns-clause-knows
returns-clause-knows c = λ s r k found. abandon-knows s c.args.self.now c.moved.new.self c.args.at c.args.id r found (c.moved.ensures ∙ ap (λ (w : Conn). record w { moment = c.args.at }) (c.end.ensures.ended ∙ ap (λ (w : Conn). record w { table = ended_at c.args.id w.table }) c.in-Some.ensures.own.1)) (subst (λ (w : Conn). IsTable w.table) (sym c.moved.ensures) c.end.ensures.table) k
