-- A connection whose link comes up: its place, and which connections have parts from then on.
use Rattle.std.proofs.Common.{◌≡◌, ◌≢◌, ◌≤◌, ◌==◌, ◌∷◌, ℕ, Bool, true, false, List, [], None, refl, ap, ◌∙◌, arith}
use Rattle.std.specs.Prelude.{max}
use Rattle.std.proofs.lemmas.Bool.{eqb-true, eqb-false}
use Rattle.lload_names.specs.Plans.{place_among}
use Rattle.lload_spec.specs.Settings.{Settings, place_at}
use Rattle.proxy_parts.specs.Room.{lists_of}
use Rattle.proxy_parts.specs.Connections.{IsSameConnection, connection_part}
use Rattle.proxy_parts.specs.declared.connections.Connections.{Connections}
use Rattle.proxy_core.specs.States.{Agrees, LeavesPart}
use Rattle.proxy_core.specs.declared.world.World.{World}
use Rattle.lload_names.specs.declared.names.PartName.TheVariants.{Up as Connection}
use Rattle.proxy_core.proofs.Places.{placed}

-- the settings place it as the plans so far do
pub place-by : (s : Settings) (w : World) (u : ℕ) → Agrees s w → LeavesPart s w (Connection u) → place_at s u ≡ place_among w.plans u
place-by s w u agrees leaves = placed s u _ leaves ∙ ap (λ ps. place_among ps u) agrees.so_far

-- each connection that has a part is at most the greatest
pub known-linked : (u greatest : ℕ) (old new : Connections)
    → ((n : ℕ) → n ≢ u → IsSameConnection n old new) → ((n : ℕ) → connection_part old n ≢ None → n ≤ greatest)
    → (n : ℕ) → connection_part new n ≢ None → n ≤ max greatest u
known-linked u greatest old new others known n = by (n == u) refl
  where
    by : (b : Bool) → (n == u) ≡ b → connection_part new n ≢ None → n ≤ max greatest u
    by true e some = let same = eqb-true n u e in omega (arith, same)
    by false e some = let below = known n (λ j. some ((others n (eqb-false n u e)).part ∙ j)) in omega (arith, below)

-- there must be room for one list at most
pub one-list : {A : Type 0} (xs : List A) → lists_of xs ≤ 1
one-list [] = omega arith
one-list (x ∷ xs) = omega arith
