-- What joins the states to the lists: the state behind a list says what the list says. Each rule is one text over
-- facts, so where the facts are the same, so is what the rule gives. These are statements; their proofs are the parts'
-- own.
use Rattle.std.specs.Prelude.{◌≡◌, ℕ, false, List, map, IsTrue}
use Rattle.lload_names.specs.declared.names.ConnKind.{ConnKind}
use Rattle.lload_names.specs.declared.names.PartName.{PartName}
use Rattle.lload_names.specs.declared.plans.TierPlan.{TierPlan}
use Rattle.lload_spec.specs.Settings.{Settings}
use Rattle.lload_spec.specs.Journal.{Family}
use Rattle.lload_spec.specs.Operations.{live_operations}
use Rattle.lload_spec.specs.Binding.{choices, standing_by}
use Rattle.lload_spec.specs.FirstCheck.{live_request, is_between_steps, client_facts}
use Rattle.lload_spec.specs.Identity.{identity}
use Rattle.lload_spec.specs.Identifiers.{ids_at}
use Rattle.lload_spec.specs.Pauses.{pausing_at, waiting_clients}
use Rattle.lload_spec.specs.Order.{desk_facts}
use Rattle.part_spec.specs.Marked.{Marked, entries}
use Rattle.part_spec.specs.ClientState.{client_of, standing_of, facts_of as client_says}
use Rattle.part_spec.specs.ConnectionState.{connection_of}
use Rattle.part_spec.specs.DeskState.{desk_of, facts_of as desk_says}
use Rattle.part_spec.specs.Fit.{is_all_fit}
use Rattle.part_spec.specs.Share.{keeps_part_share}

-- each letter of a part's list was fit, and the list keeps the part's share
pub record IsKept (s : Settings) (p : PartName) (list : List Marked) : Type 0 where
  pub fit : IsTrue (is_all_fit s p list)
  pub share : IsTrue (keeps_part_share s p list)

-- a client's state says which operations are live, whether it is in an exchange, what it pauses, and, unless it is
-- gone, what binds it; and who it is, where the identities that its letters told are those that its Binds' answers tell
pub record ClientSays (s : Settings) (F : Family) (c : ℕ) (list : List Marked) : Type 0 where
  pub live : (client_says (client_of s c list)).live ≡ map (λ o. live_request o.request)
      (live_operations c (entries list))
  pub in_exchange : (client_says (client_of s c list)).in_exchange ≡ is_between_steps c (entries list)
  pub pausing : (client_of s c list).pausing ≡ pausing_at c (entries list)
  pub standing : (client_of s c list).gone ≡ false → standing_of s (client_of s c list) ≡ standing_by s
      (choices c (entries list))
  pub facts : (client_of s c list).identity ≡ identity s F c (entries list) → client_says
      (client_of s c list) ≡ client_facts s F c (entries list)

-- a connection's state says which identifiers are next and free, and for which clients it pauses
pub record ConnectionSays (s : Settings) (F : Family) (u : ℕ) (list : List Marked) : Type 0 where
  pub ids : (connection_of s u list).ids ≡ ids_at s F u (entries list)
  pub waiting : (connection_of s u list).waiting ≡ waiting_clients (entries list)

-- the desk's state says of each list what a choice rests on, but for what is viable
pub record DeskSays (s : Settings) (list : List Marked) : Type 0 where
  pub tiers : (desk_says s (desk_of s list)).tiers ≡ (desk_facts s (entries list)).tiers
  pub pending : (desk_says s (desk_of s list)).pending ≡ (desk_facts s (entries list)).pending
  pub last_backend : (t : TierPlan) → (desk_says s (desk_of s list)).last_backend t ≡
      (desk_facts s (entries list)).last_backend t
  pub last_place : (b : ℕ) (kind : ConnKind) → (desk_says s (desk_of s list)).last_place b kind ≡
      (desk_facts s (entries list)).last_place b kind
  pub mean : (b : ℕ) → (desk_says s (desk_of s list)).mean b ≡ (desk_facts s (entries list)).mean b

-- and of a list that is kept also which connections are viable
pub record DeskSaysViable (s : Settings) (list : List Marked) : Type 0 where
  pub viable : (desk_says s (desk_of s list)).viable ≡ (desk_facts s (entries list)).viable
