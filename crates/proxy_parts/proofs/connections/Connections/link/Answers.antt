use Rattle.proxy_parts.specs.Connections.{connection_part}
use Rattle.proxy_parts.proofs.Maps.{when-ok}
use Rattle.proxy_parts.proofs.Unplaced.{unplaced}
use Rattle.proxy_parts.proofs.connections.Connections.link.Goals as goal

pub returns-clause-took : goal.returns-clause-took
returns-clause-took c =
    λ s p made h.
    when-ok c.step.result (let e = c.is_err.ensures.value in let f = c.if-is_err.false in cc) c.step.ensures.took
    s p (c.in_ok-admit.ensures.made s p made h) (unplaced s c.args.conn c.args.now (connection_part c.admit.new.self c.args.conn) c.in_ok-admit.ensures.here) tt
