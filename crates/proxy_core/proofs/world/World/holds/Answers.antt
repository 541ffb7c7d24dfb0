use Rattle.std.proofs.Common.{◌≡◌, ◌∙◌, ap, sym, subst}
use Rattle.std.specs.Option.{option_copied}
use Rattle.part_spec.specs.Merge.{world_of}
use Rattle.part_spec.specs.World as run
use Rattle.proxy_parts.specs.Connections.{IsConnection}
use Rattle.proxy_core.proofs.world.World.holds.Goals as goal

pub returns-in-Some-part : goal.returns-in-Some-part
returns-in-Some-part c =
    λ s ms h.
    let v = world_of s ms in
    let p = run.connection_in s v c.in-Up.conn in
    let has = sym c.part-in-Up.ensures ∙ ap option_copied c.in-Some-part.is in
    subst (λ q. c.holds-in-Some-part.result ≡ run.holds s v q) (sym c.in-Up.is)
    (c.holds-in-Some-part.ensures s p (subst (λ o. IsConnection s c.in-Up.conn p o) has (h.is.connections c.in-Up.conn).part))
