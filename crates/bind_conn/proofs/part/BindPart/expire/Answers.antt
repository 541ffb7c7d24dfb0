use Rattle.std.proofs.Common.{◌++◌, ◌∷◌, [], List, length, arith, ap, ◌∙◌, append_assoc}
use Rattle.lload_names.specs.declared.names.Entry.{Entry}
use Rattle.lload_names.specs.declared.names.EndWhy.TheVariants.{TimedOut}
use Rattle.lload_names.specs.declared.names.Posted.{Posted}
use Rattle.lload_names.specs.declared.names.PartName.TheVariants.{Up as Connection}
use Rattle.lload_names.specs.declared.names.Refusal.TheVariants.{C5}
use Rattle.lload_names.specs.declared.names.What.TheVariants as what
use Rattle.outbox.specs.Room.{Room}
use Rattle.part_spec.specs.Inputs.{entries_of, failed}
use Rattle.part_spec.specs.ConnectionState.{with_down}
use Rattle.part_spec.specs.ConnectionTurn.{down_letters}
use Rattle.conn_core.specs.Conn.{Conn}
use Rattle.conn_core.proofs.Rows.{without-length}
use Rattle.bind_conn.specs.Part.{state}
use Rattle.bind_conn.proofs.Gots.{there}
use Rattle.bind_conn.proofs.Clocks.{expire-did, ended-knows}
use Rattle.bind_conn.proofs.part.BindPart.expire.Goals as goal

pub end-requires-2-clause-letters : goal.end-requires-2-clause-letters
end-requires-2-clause-letters c =
    let less = without-length c.args.id c.args.self.now.core.table.rows in
    let rows = ap (λ (w : Conn). length w.table.rows) c.end.ensures.ended in
    let same = ap (λ (x : Room Posted). x.spare) c.put.ensures.letters in
    omega (arith, less, rows, same, c.in_ok-reserve_end.ensures.letter_room, c.fail.ensures.letter_room)

pub returns-clause-did : goal.returns-clause-did
returns-clause-did c = λ s k.
    let b = c.args.self.now in
    let o = c.args.out.now in
    let r = there _ _ c.requires.row c.requires.live in
    let n = ap (λ (w : Conn). w.number) c.end.ensures.ended in
    expire-did s b c.args.at c.args.id r.0 c.args.op k r.1 r.2.0 r.2.1 c.end-2.new.self o c.end-2.new.out
    (c.end-2.ensures.entries
    ∙ ap (λ (l : List Entry). l ++ entries_of (Connection c.end.new.self.number) c.args.at (what.Down TimedOut ∷ [])) (ap (λ (x : Room Entry). x.items) c.fail.ensures.entries ∙ c.put.ensures.entries ∙ ap (λ (l : List Entry). l ++ entries_of (Connection c.end.new.self.number) c.args.at (what.Expired c.args.op ∷ [])) c.in_ok-reserve_end.ensures.entries)
    ∙ append_assoc o.entries.items (entries_of (Connection c.end.new.self.number) c.args.at (what.Expired c.args.op ∷ [])) (entries_of (Connection c.end.new.self.number) c.args.at (what.Down TimedOut ∷ []))
    ∙ ap (λ i. o.entries.items ++ entries_of (Connection i) c.args.at (what.Expired c.args.op ∷ what.Down TimedOut ∷ [])) n)
    (c.end-2.ensures.letters s (ended-knows s b c.end.new.self c.args.id r.0 r.1 c.end.ensures.ended c.end.ensures.table k)
    ∙ ap (λ (l : List Posted). l ++ down_letters (state (record b { core = c.end.new.self }))) (c.fail.ensures.letters ∙ ap (λ (l : List Posted). l ++ failed c.args.op C5) (ap (λ (x : Room Posted). x.items) c.put.ensures.letters ∙ c.in_ok-reserve_end.ensures.letters))
    ∙ append_assoc o.letters.items (failed c.args.op C5) (down_letters (state (record b { core = c.end.new.self })))
    ∙ ap (λ (w : Conn). o.letters.items ++ (failed c.args.op C5 ++ down_letters (state (record b { core = w })))) c.end.ensures.ended)
    (c.end-2.ensures.behind ∙ ap (λ (w : Conn). record (with_down (state (record b { core = w }))) { moment = c.args.at }) c.end.ensures.ended)

pub returns-clause-knows : goal.returns-clause-knows
returns-clause-knows c = λ s k.
    let r = there _ _ c.requires.row c.requires.live in
    c.end-2.ensures.knows s (ended-knows s c.args.self.now c.end.new.self c.args.id r.0 r.1 c.end.ensures.ended c.end.ensures.table k)

pub returns-clause-room : goal.returns-clause-room
returns-clause-room c =
    let less = without-length c.args.id c.args.self.now.core.table.rows in
    let rows = ap (λ (w : Conn). length w.table.rows) c.end.ensures.ended in
    let same = ap (λ (x : Room Posted). x.spare) c.put.ensures.letters in
    let kept = ap (λ (x : Room Entry). x.spare) c.fail.ensures.entries in (
      omega (arith, kept, c.in_ok-reserve_end.ensures.entry_room, c.put.ensures.entry_room, c.end-2.ensures.entry_room),
      omega (arith, less, rows, same, c.in_ok-reserve_end.ensures.letter_room, c.fail.ensures.letter_room, c.end-2.ensures.letter_room),
    )
