use Rattle.std.proofs.Common.{true, false, ◌≡◌, ◌==◌, Some, ◌++◌, ◌∷◌, [], List, ap, sym, ◌∙◌, subst, append_assoc}
use Rattle.lload_names.specs.declared.names.Entry.{Entry}
use Rattle.lload_names.specs.declared.names.Posted.{Posted}
use Rattle.lload_names.specs.declared.names.PartName.TheVariants.{Up as Connection}
use Rattle.lload_names.specs.declared.names.What.TheVariants as what
use Rattle.outbox.specs.Room.{Room}
use Rattle.id_table.specs.Table.{IsTable}
use Rattle.part_spec.specs.Inputs.{entries_of}
use Rattle.conn_core.specs.Conn.{Conn}
use Rattle.conn_core.specs.Closing.{given_whats, retired_letters}
use Rattle.conn_core.specs.Did.{Did}
use Rattle.upstream_conn.specs.Part.{state}
use Rattle.part_spec.specs.RegularTurn.{link_up}
use Rattle.upstream_conn.proofs.OwnBinds.{bind-did, bind-knows, first-left}
use Rattle.upstream_conn.proofs.part.UpstreamPart.bind.Goals as goal

pub returns-in_default-clause-did : goal.returns-in_default-clause-did
returns-in_default-clause-did c = λ s mark k. absurd (let bad : true ≡ false = sym (first-left s c.args.self.now k c.requires.unlinked) ∙ c.in_default.ensures.own.0 in cc)

pub returns-clause-did : goal.returns-clause-did
returns-clause-did c = λ s mark k.
    let u = c.args.self.now in
    let o = c.args.out.now in
    let id = c.in-Some.id in
    let gave = c.in-Some.ensures.own.1 in
    let new = c.link.ensures ∙ ap (λ (w : Conn). record w { moment = c.args.at; linked = true }) gave in
    subst (λ (w : Conn). Did s (state u) c.args.at mark (link_up s (state u)) o c.tell_retired.new.out (state (record u { core = w; own = Some (record { id = id; at = c.args.at }) }))) (sym new)
    (bind-did s u o c.tell_retired.new.out c.args.at id c.args.rest mark k c.requires.unlinked c.requires.request c.in-Some.ensures.own.0
    (ap (λ (r : Room Entry). r.items) c.tell_retired.ensures.entries
    ∙ c.put_giving.ensures.entries
    ∙ ap (λ (l : List Entry). l ++ entries_of (Connection c.link.new.self.number) c.args.at (given_whats (id == c.link.new.self.table.limit) (what.Own id c.args.rest))) (c.put.ensures.entries ∙ ap (λ (l : List Entry). l ++ entries_of (Connection c.own.new.self.number) c.args.at (what.Linked ∷ [])) c.in_ok-reserve.ensures.entries)
    ∙ append_assoc o.entries.items (entries_of (Connection c.own.new.self.number) c.args.at (what.Linked ∷ [])) (entries_of (Connection c.link.new.self.number) c.args.at (given_whats (id == c.link.new.self.table.limit) (what.Own id c.args.rest)))
    ∙ ap (λ (w : Conn). o.entries.items ++ (entries_of (Connection w.number) c.args.at (what.Linked ∷ []) ++ entries_of (Connection c.link.new.self.number) c.args.at (given_whats (id == c.link.new.self.table.limit) (what.Own id c.args.rest)))) gave
    ∙ ap (λ (w : Conn). o.entries.items ++ (entries_of (Connection u.core.number) c.args.at (what.Linked ∷ []) ++ entries_of (Connection w.number) c.args.at (given_whats (id == w.table.limit) (what.Own id c.args.rest)))) new)
    (c.tell_retired.ensures.letters
    ∙ ap (λ (l : List Posted). l ++ retired_letters c.link.new.self.number (id == c.link.new.self.table.limit)) (ap (λ (r : Room Posted). r.items) (c.put_giving.ensures.letters ∙ c.put.ensures.letters) ∙ c.in_ok-reserve.ensures.letters)
    ∙ ap (λ (w : Conn). o.letters.items ++ retired_letters w.number (id == w.table.limit)) new))

pub returns-clause-knows : goal.returns-clause-knows
returns-clause-knows c = λ s. bind-knows s c.args.self.now c.link.new.self c.args.at c.in-Some.id c.requires.unlinked c.in-Some.ensures.own.0 (c.link.ensures ∙ ap (λ (w : Conn). record w { moment = c.args.at; linked = true }) c.in-Some.ensures.own.1) (subst (λ (w : Conn). IsTable w.table) (sym c.link.ensures) c.in-Some.ensures.table)
