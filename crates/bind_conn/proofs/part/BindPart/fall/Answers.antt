use Rattle.std.proofs.Common.{◌++◌, ◌∷◌, [], List, ap, ◌∙◌, append_assoc}
use Rattle.lload_names.specs.declared.names.Entry.{Entry}
use Rattle.lload_names.specs.declared.names.EndWhy.TheVariants.{Bad}
use Rattle.lload_names.specs.declared.names.Posted.{Posted}
use Rattle.lload_names.specs.declared.names.PartName.TheVariants.{Up as Connection}
use Rattle.lload_names.specs.declared.names.What.TheVariants as what
use Rattle.outbox.specs.Room.{Room}
use Rattle.part_spec.specs.Inputs.{entries_of}
use Rattle.part_spec.specs.ConnectionTurn.{down_letters}
use Rattle.bind_conn.specs.Part.{state}
use Rattle.bind_conn.proofs.Misfits.{fall-did}
use Rattle.bind_conn.proofs.part.BindPart.fall.Goals as goal

pub returns-clause-did : goal.returns-clause-did
returns-clause-did c = λ s mark k.
    let b = c.args.self.now in
    let o = c.args.out.now in
    fall-did s b c.end.new.self o c.end.new.out c.args.at (record { id = c.args.id; rest = c.args.rest }) mark (c.requires.fells s k)
    (c.end.ensures.entries
    ∙ ap (λ (l : List Entry). l ++ entries_of (Connection b.core.number) c.args.at (what.Down Bad ∷ [])) (c.put.ensures.entries ∙ ap (λ (l : List Entry). l ++ entries_of (Connection b.core.number) c.args.at (what.Got c.args.id c.args.rest ∷ [])) c.in_ok-reserve_end.ensures.entries)
    ∙ append_assoc o.entries.items (entries_of (Connection b.core.number) c.args.at (what.Got c.args.id c.args.rest ∷ [])) (entries_of (Connection b.core.number) c.args.at (what.Down Bad ∷ [])))
    (c.end.ensures.letters s k ∙ ap (λ (l : List Posted). l ++ down_letters (state b)) (ap (λ (x : Room Posted). x.items) c.put.ensures.letters ∙ c.in_ok-reserve_end.ensures.letters))
    c.end.ensures.behind
