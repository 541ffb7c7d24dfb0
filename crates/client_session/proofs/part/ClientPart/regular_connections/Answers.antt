use Rattle.std.proofs.Common.{◌≡◌, ◌∷◌, List, ap, sym, ◌∙◌}
use Rattle.lload_spec.specs.Lists.{rising_once}
use Rattle.client_rows.specs.declared.row.Row.{Row}
use Rattle.client_session.specs.Flow.{connections, put_all}
use Rattle.client_session.proofs.Flows.{put-row, put-rising}
use Rattle.client_session.proofs.part.ClientPart.regular_connections.Goals as goal

pub loop-row-init : goal.loop-row-init
loop-row-init c = ap (put_all (connections c.into_iter-row-iterator.result)) c.new-us.ensures.empty ∙ put-rising (connections c.into_iter-row-iterator.result) ∙ ap (λ (rows : List Row). rising_once (connections rows)) (c.into_iter-row-iterator.ensures.into_iter_gives ∙ c.values-row-items.ensures)

pub loop-row-preserved : goal.loop-row-preserved
loop-row-preserved c =
    let steps : c.loop-row.row-iterator ≡ c.in-Some.row.now ∷ c.next.new.self = c.in-Some.ensures.steps in
    ap (put_all (connections c.next.new.self)) c.in_ok-add_connection.ensures ∙ put-row c.in-Some.row.now c.next.new.self c.loop-row.us.keys ∙ ap (λ (rows : List Row). put_all (connections rows) c.loop-row.us.keys) (sym steps) ∙ c.loop-row.invariant
