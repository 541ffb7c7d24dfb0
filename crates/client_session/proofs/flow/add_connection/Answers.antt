use Rattle.std.proofs.Common.{ap, sym, ◌∙◌}
use Rattle.client_session.specs.Flow.{put_all}
use Rattle.client_session.proofs.Flows.{keys-put, forwarded-to}
use Rattle.client_session.proofs.flow.add_connection.Goals as goal

pub returns-in_ok-insert : goal.returns-in_ok-insert
returns-in_ok-insert c =
    let is = forwarded-to c.args.row.now c.in-Some.conn (sym c.is_bind.ensures ∙ c.if-is_bind.false) (sym c.connection.ensures ∙ c.in-Some.is) in
    c.in_ok-insert.ensures.keys ∙ keys-put c.in-Some.conn c.args.us.now.keys ∙ ap (λ l. put_all l c.args.us.now.keys) (sym is)
