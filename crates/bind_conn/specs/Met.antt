-- What a message meets at the live Bind.
use Rattle.std.specs.Prelude.{◌≡◌, ◌==◌, ℕ, true, false, Option, Some, None}
use Rattle.std.specs.Option.{ForSome}
use Rattle.lload_spec.specs.Lists.{passes}
use Rattle.id_table.specs.declared.row.Row.{Row}
use Rattle.id_table.specs.declared.row.Kept.{Kept}
use Rattle.bind_conn.specs.declared.hears.Met.{Met}
use Rattle.bind_conn.specs.declared.hears.Met.TheVariants.{Live, Asked, Nothing}

-- an identifier is neither that of a Bind that waits for its answer nor that of its Who Am I
abbrev pub IsApart : ℕ → ℕ → Option Kept → Type 0
IsApart first id None = (first == id) ≡ false
IsApart first id (Some k) = (k.who == id) ≡ false

-- a message under this identifier, where the row is the one under the first
abbrev pub Meets : ℕ → ℕ → Row → Met → Type 0
Meets first id r (Live op ask_who) = (first ≡ id) × (r.op ≡ op) × (r.kept ≡ None) × (r.ask_who ≡ ask_who)
Meets first id r (Asked op kept) =
    (r.op ≡ op) × (passes (λ k. k.who == id) r.kept ≡ true) × ForSome r.kept (λ k. k.rest ≡ kept)
Meets first id r Nothing = IsApart first id r.kept
