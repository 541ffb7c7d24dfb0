use Rattle.std.proofs.Common.{ℕ, ◌≡◌, ◌==◌, true, false, ◌++◌, ◌∷◌, [], List, ap, sym, ◌∙◌, subst, append_assoc}
use Rattle.lload_names.specs.declared.names.Entry.{Entry}
use Rattle.lload_names.specs.declared.names.Posted.{Posted}
use Rattle.lload_names.specs.declared.names.PartName.TheVariants.{Up as Connection}
use Rattle.lload_names.specs.declared.names.What.TheVariants as what
use Rattle.outbox.specs.Room.{Room}
use Rattle.id_table.specs.Table.{IsTable, kept_at}
use Rattle.part_spec.specs.Inputs.{entries_of}
use Rattle.part_spec.specs.BindTurn.{message}
use Rattle.conn_core.specs.Conn.{Conn}
use Rattle.conn_core.specs.Closing.{given_whats, retired_letters}
use Rattle.conn_core.specs.Did.{Did}
use Rattle.bind_conn.specs.Part.{state}
use Rattle.bind_conn.proofs.Gots.{there}
use Rattle.bind_conn.proofs.Keeping.{may-own, keep-did, keep-knows}
use Rattle.bind_conn.proofs.part.BindPart.hold_back.Goals as goal

pub returns-in_default-clause-did : goal.returns-in_default-clause-did
returns-in_default-clause-did c = λ s mark k.
    let r = there _ _ c.requires.row c.requires.live in
    absurd (let bad : true ≡ false = sym (may-own s c.args.self.now c.args.id r.0 k r.1 r.2.0) ∙ c.in_default.ensures.own.0 in cc)

pub returns-clause-did : goal.returns-clause-did
returns-clause-did c = λ s mark k.
    let b = c.args.self.now in
    let o = c.args.out.now in
    let own = c.in-Some.who in
    let r = there _ _ c.requires.row c.requires.live in
    let gave = c.in-Some.ensures.own.1 in
    let new = c.moved.ensures ∙ ap (λ (w : Conn). record w { moment = c.args.at }) (c.keep.ensures.kept ∙ ap (λ (w : Conn). record w { table = kept_at c.args.id c.args.at (record { rest = c.args.rest; who = own }) w.table }) gave) in
    subst (λ (w : Conn). Did s (state b) c.args.at mark (message s (state b) (record { id = c.args.id; rest = c.args.rest })) o c.tell_retired.new.out (state (record b { core = w }))) (sym new)
    (keep-did s b c.args.at c.args.id c.args.rest r.0 mark k r.1 r.2.0 r.2.1 o c.tell_retired.new.out own c.in-Some.ensures.own.0
    (ap (λ (x : Room Entry). x.items) c.tell_retired.ensures.entries
    ∙ c.put_giving.ensures.entries
    ∙ ap (λ (l : List Entry). l ++ entries_of (Connection c.moved.new.self.number) c.args.at (given_whats (own == c.moved.new.self.table.limit) (what.Own own c.in_ok-asked.asked)))
    (c.put.ensures.entries ∙ ap (λ (t : List ℕ). c.reserve.new.self.entries.items ++ entries_of (Connection c.own.new.self.number) c.args.at (what.Got c.args.id t ∷ [])) c.in_ok-told.ensures ∙ ap (λ (l : List Entry). l ++ entries_of (Connection c.own.new.self.number) c.args.at (what.Got c.args.id c.args.rest ∷ [])) c.in_ok-reserve.ensures.entries)
    ∙ append_assoc o.entries.items (entries_of (Connection c.own.new.self.number) c.args.at (what.Got c.args.id c.args.rest ∷ [])) (entries_of (Connection c.moved.new.self.number) c.args.at (given_whats (own == c.moved.new.self.table.limit) (what.Own own c.in_ok-asked.asked)))
    ∙ ap (λ (w : Conn). o.entries.items ++ (entries_of (Connection w.number) c.args.at (what.Got c.args.id c.args.rest ∷ []) ++ entries_of (Connection c.moved.new.self.number) c.args.at (given_whats (own == c.moved.new.self.table.limit) (what.Own own c.in_ok-asked.asked)))) gave
    ∙ ap (λ (w : Conn). o.entries.items ++ (entries_of (Connection b.core.number) c.args.at (what.Got c.args.id c.args.rest ∷ []) ++ entries_of (Connection w.number) c.args.at (given_whats (own == w.table.limit) (what.Own own c.in_ok-asked.asked)))) new
    ∙ ap (λ (t : List ℕ). o.entries.items ++ (entries_of (Connection b.core.number) c.args.at (what.Got c.args.id c.args.rest ∷ []) ++ entries_of (Connection b.core.number) c.args.at (given_whats (own == b.core.table.limit) (what.Own own t)))) c.in_ok-asked.ensures)
    (c.tell_retired.ensures.letters
    ∙ ap (λ (l : List Posted). l ++ retired_letters c.moved.new.self.number (own == c.moved.new.self.table.limit)) (ap (λ (x : Room Posted). x.items) (c.put_giving.ensures.letters ∙ c.put.ensures.letters) ∙ c.in_ok-reserve.ensures.letters)
    ∙ ap (λ (w : Conn). o.letters.items ++ retired_letters w.number (own == w.table.limit)) new))

pub returns-clause-knows : goal.returns-clause-knows
returns-clause-knows c = λ s.
    let r = there _ _ c.requires.row c.requires.live in
    keep-knows s c.args.self.now c.moved.new.self c.args.at c.args.id c.in-Some.who c.args.rest r.0 r.1 r.2.0 (c.moved.ensures ∙ ap (λ (w : Conn). record w { moment = c.args.at }) (c.keep.ensures.kept ∙ ap (λ (w : Conn). record w { table = kept_at c.args.id c.args.at (record { rest = c.args.rest; who = c.in-Some.who }) w.table }) c.in-Some.ensures.own.1)) (subst (λ (w : Conn). IsTable w.table) (sym c.moved.ensures) c.keep.ensures.table)
