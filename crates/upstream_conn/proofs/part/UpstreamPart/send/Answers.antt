use Rattle.std.proofs.Common.{◌==◌, ◌++◌, List, ap, ◌∙◌}
use Rattle.lload_names.specs.declared.names.Entry.{Entry}
use Rattle.lload_names.specs.declared.names.Posted.{Posted}
use Rattle.lload_names.specs.declared.names.PartName.TheVariants.{Up as Connection}
use Rattle.lload_names.specs.declared.names.What.TheVariants as what
use Rattle.outbox.specs.Room.{Room}
use Rattle.part_spec.specs.Inputs.{entries_of}
use Rattle.conn_core.specs.Conn.{Conn}
use Rattle.conn_core.specs.Closing.{given_whats, retired_letters}
use Rattle.upstream_conn.proofs.Sends.{sent-did, sent-knows}
use Rattle.upstream_conn.proofs.part.UpstreamPart.send.Goals as goal

pub returns-clause-did : goal.returns-clause-did
returns-clause-did c = λ s sender holder k.
    sent-did s c.args.self.now c.send.new.self c.args.out.now c.tell_retired.new.out c.args.at sender c.args.op c.args.kind c.args.ask_who c.args.rest holder c.in_ok-id.id k c.requires.goes_on c.requires.there c.in_ok-id.ensures.id c.in_ok-id.ensures.sent
    (ap (λ (r : Room Entry). r.items) c.tell_retired.ensures.entries
    ∙ c.put_giving.ensures.entries
    ∙ ap (λ (l : List Entry). l ++ entries_of (Connection c.send.new.self.number) c.args.at (given_whats (c.in_ok-id.id == c.send.new.self.table.limit) (what.Sent c.in_ok-id.id c.args.op c.args.rest))) c.in_ok-reserve.ensures.entries
    ∙ ap (λ (w : Conn). c.args.out.now.entries.items ++ entries_of (Connection w.number) c.args.at (given_whats (c.in_ok-id.id == w.table.limit) (what.Sent c.in_ok-id.id c.args.op c.args.rest))) c.in_ok-id.ensures.sent)
    (c.tell_retired.ensures.letters
    ∙ ap (λ (l : List Posted). l ++ retired_letters c.send.new.self.number (c.in_ok-id.id == c.send.new.self.table.limit)) (ap (λ (r : Room Posted). r.items) c.put_giving.ensures.letters ∙ c.in_ok-reserve.ensures.letters)
    ∙ ap (λ (w : Conn). c.args.out.now.letters.items ++ retired_letters w.number (c.in_ok-id.id == w.table.limit)) c.in_ok-id.ensures.sent)

pub returns-clause-knows : goal.returns-clause-knows
returns-clause-knows c = λ s holder k t. sent-knows s c.args.self.now c.send.new.self c.args.at c.args.op c.args.kind c.args.ask_who c.requires.goes_on c.requires.linked t.0 t.1 t.2 c.in_ok-id.ensures.sent c.in_ok-id.ensures.table k
