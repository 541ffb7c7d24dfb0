-- A connection that has a part needs no place.
use Rattle.std.proofs.Common.{◌≢◌, ℕ, Option, Some, None, refl}
use Rattle.lload_names.specs.declared.inputs.Input.TheVariants.{LinkUp}
use Rattle.lload_spec.specs.Settings.{Settings}
use Rattle.proxy_parts.specs.Connections.{IsUnplaced}
use Rattle.proxy_parts.specs.declared.connection.Connection.{Connection}

pub unplaced : (s : Settings) (u now : ℕ) (o : Option Connection) → o ≢ None → IsUnplaced s u (LinkUp now) o
unplaced s u now (Some c) h = tt
unplaced s u now None h = absurd (h refl)
