use Rattle.std.proofs.Common.{None, ◌++◌, ◌∷◌, [], List, ap, sym, ◌∙◌, subst, append_assoc}
use Rattle.lload_names.specs.declared.names.Entry.{Entry}
use Rattle.lload_names.specs.declared.names.Posted.{Posted}
use Rattle.lload_names.specs.declared.names.PartName.TheVariants.{Up as Connection}
use Rattle.lload_names.specs.declared.names.Refusal.TheVariants.{C9}
use Rattle.lload_names.specs.declared.names.What.TheVariants as what
use Rattle.outbox.specs.Room.{Room}
use Rattle.id_table.specs.Table.{IsTable}
use Rattle.part_spec.specs.Inputs.{entries_of, failed}
use Rattle.part_spec.specs.BindTurn.{message}
use Rattle.conn_core.specs.Conn.{Conn}
use Rattle.conn_core.specs.Closing.{holder_letters}
use Rattle.conn_core.specs.Did.{Did}
use Rattle.bind_conn.specs.Part.{Knows, state}
use Rattle.bind_conn.specs.declared.part.BindPart.{BindPart}
use Rattle.bind_conn.proofs.Gots.{there}
use Rattle.bind_conn.proofs.Settles.{finish-knows}
use Rattle.bind_conn.proofs.Whos.{asked-of, refuses-did}
use Rattle.bind_conn.proofs.part.BindPart.refuse.Goals as goal

pub returns-clause-did : goal.returns-clause-did
returns-clause-did c = λ s mark k.
    let b = c.args.self.now in
    let o = c.args.out.now in
    let r = there _ _ c.requires.row c.requires.live in
    let x = asked-of r.0.kept c.args.id r.2.1 in
    let new = c.moved.ensures ∙ ap (λ (w : Conn). record w { moment = c.args.at }) c.finish.ensures.finished in
    subst (λ (v : BindPart). Did s (state b) c.args.at mark (message s (state b) (record { id = c.args.id; rest = c.args.rest })) o c.release.new.out (state v)) (sym (c.release.ensures.released ∙ ap (λ (w : Conn). record b { core = w; holder = None }) new))
    (refuses-did s b o c.release.new.out c.args.at c.args.id c.args.first c.args.rest r.0 x.0 mark k r.1 x.1 x.2 c.args.op r.2.0 c.requires.told
    (ap (λ (y : Room Entry). y.items) (c.release.ensures.entries ∙ c.fail.ensures.entries) ∙ c.put.ensures.entries ∙ ap (λ (l : List Entry). l ++ entries_of (Connection b.core.number) c.args.at (what.Got c.args.id c.args.rest ∷ [])) c.in_ok-reserve.ensures.entries)
    (c.release.ensures.letters
    ∙ ap (λ (l : List Posted). l ++ holder_letters c.moved.new.self.number b.holder) (c.fail.ensures.letters ∙ ap (λ (l : List Posted). l ++ failed c.args.op C9) (ap (λ (y : Room Posted). y.items) c.put.ensures.letters ∙ c.in_ok-reserve.ensures.letters))
    ∙ append_assoc o.letters.items (failed c.args.op C9) (holder_letters c.moved.new.self.number b.holder)
    ∙ ap (λ (w : Conn). o.letters.items ++ (failed c.args.op C9 ++ holder_letters w.number b.holder)) new))

pub returns-clause-knows : goal.returns-clause-knows
returns-clause-knows c = λ s k.
    let r = there _ _ c.requires.row c.requires.live in
    let new = c.moved.ensures ∙ ap (λ (w : Conn). record w { moment = c.args.at }) c.finish.ensures.finished in
    subst (λ (v : BindPart). Knows s v) (sym c.release.ensures.released) (finish-knows s c.args.self.now c.moved.new.self c.args.at c.args.first r.0 None r.1 new (subst (λ (w : Conn). IsTable w.table) (sym c.moved.ensures) c.finish.ensures.table) k)
