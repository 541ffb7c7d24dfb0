-- What the desk's list says at a place, as one record: the desk holds this, and its turns look at nothing else.
use Rattle.std.specs.Prelude.{ℕ, Bool, true, false, ◌==◌, ◌&&◌, ◌||◌, not, if◌then◌else◌, List, [], ◌∷◌, ◌++◌, filter, find, map, nat_lt, Option, Some, None, option_map}
use Rattle.lload_names.specs.declared.names.OpName.{OpName}
use Rattle.lload_names.specs.declared.names.ConnKind.{ConnKind}
use Rattle.lload_names.specs.declared.names.ConnKind.TheVariants.{Regular, Bind}
use Rattle.lload_names.specs.declared.plans.TierPlan.{TierPlan}
use Rattle.lload_names.specs.declared.names.Answer.{Answer}
use Rattle.lload_names.specs.declared.names.Answer.TheVariants.{Go}
use Rattle.lload_names.specs.declared.names.Want.{Want}
use Rattle.lload_names.specs.declared.names.Letter.{Letter}
use Rattle.lload_names.specs.declared.names.Letter.TheVariants.{Returned, Ended, IsUp, IsRetired, IsDown}
use Rattle.lload_names.specs.declared.names.What.{What}
use Rattle.lload_names.specs.declared.names.What.TheVariants as what
use Rattle.lload_spec.specs.Lists.{passes, last}
use Rattle.lload_spec.specs.Settings.{Settings, is_of_kind, is_of_backend, backend_of, place_index, place_at, plan_in_force}
use Rattle.lload_spec.specs.Journal.{same_op}
use Rattle.lload_spec.specs.Entries.{Named, asked}
use Rattle.lload_spec.specs.Order.{is_free, has_backend}
use Rattle.lload_spec.specs.Picks.{last_of, mean}
use Rattle.lload_spec.specs.Choice.{DeskFacts}
use Rattle.part_spec.specs.Marked.{Marked}

-- the last latencies of a backend, in milliseconds
pub record Ring : Type 0 where
  pub backend : ℕ
  pub latencies : List ℕ

-- the moment of the last entry; the number of the plan in force; what the last entry asked; the connections that were
-- heard to be up and not to be retired or down, as they came; the pending operations with their connections; the
-- backends that free requests got, each once, by the last time, and of each backend and kind the connection that was
-- chosen last; the last 16 latencies of each backend, these three since the plan is in force
pub record DeskState : Type 0 where
  pub moment : ℕ
  pub plan : ℕ
  pub asked : Option (Named Want)
  pub viable : List ℕ
  pub pending : List (Named ℕ)
  pub last_backends : List ℕ
  pub last_connections : List ℕ
  pub rings : List Ring

-- of the empty list
abbrev pub empty_desk : DeskState
empty_desk =
    record {
      moment = 0;
      plan = 1;
      asked = None;
      viable = [];
      pending = [];
      last_backends = [];
      last_connections = [];
      rings = [];
    }

-- whether two connections belong to one backend, and are of one kind
abbrev pub share_wheel : Settings → ℕ → ℕ → Bool
share_wheel s m n =
    is_of_backend s (backend_of s m) n
    && (is_of_kind s Regular m && is_of_kind s Regular n || is_of_kind s Bind m && is_of_kind s Bind n)

-- these, with a new one in place of those that it shares something with
abbrev pub in_place_of : (ℕ → Bool) → ℕ → List ℕ → List ℕ
in_place_of shares n ns = filter (λ m. not (shares m)) ns ++ n ∷ []

-- whether a free request was asked for
abbrev pub asks_freely : OpName → Option (Named Want) → Bool
asks_freely op before = passes (λ a. same_op a.op op && is_free a.value.bound) before

-- the desk chose
abbrev pub with_choice : Settings → OpName → Answer → DeskState → DeskState
with_choice s op (Go n b) p =
    record p {
      pending = p.pending ++ record { op = op; value = n } ∷ [];
      last_backends =
          if asks_freely op p.asked then in_place_of (λ m. m == b) b p.last_backends else p.last_backends;
      last_connections = in_place_of (share_wheel s n) n p.last_connections;
    }
with_choice s op _ p = p

-- a ring with one more latency, where it is the backend's
abbrev pub with_latency : ℕ → ℕ → List Ring → List Ring
with_latency b latency [] = record { backend = b; latencies = latency ∷ [] } ∷ []
with_latency b latency (r ∷ rs) =
    elim (r.backend == b) [
      | true ↦ record r { latencies = last_of 16 (r.latencies ++ latency ∷ []) } ∷ rs
      | false ↦ r ∷ with_latency b latency rs
    ]

-- the rings, with a latency of a connection's backend, where one was told and the connection has a place
abbrev pub with_told : Settings → ℕ → Option ℕ → List Ring → List Ring
with_told s u None rings = rings
with_told s u (Some latency) rings =
    elim (place_at s u) [ None ↦ rings | Some place ↦ with_latency place.backend latency rings ]

-- the operations that are pending without this one
abbrev pub without_op : OpName → List (Named ℕ) → List (Named ℕ)
without_op op pending = filter (λ x. not (same_op op x.op)) pending

-- these connections without this one
abbrev pub without_connection : ℕ → List ℕ → List ℕ
without_connection u us = filter (λ n. not (n == u)) us

-- the desk heard a letter
abbrev pub with_heard : Settings → Letter → DeskState → DeskState
with_heard s (IsUp u) p = record p { viable = p.viable ++ u ∷ [] }
with_heard s (IsRetired u) p = record p { viable = without_connection u p.viable }
with_heard s (IsDown u) p = record p { viable = without_connection u p.viable }
with_heard s (Returned op u) p = record p { pending = without_op op p.pending }
with_heard s (Ended op u latency) p =
    record p { pending = without_op op p.pending; rings = with_told s u latency p.rings }
with_heard s _ p = p

-- the desk chooses by another plan: what was chosen and heard of latencies before counts no more
abbrev pub with_plan : ℕ → DeskState → DeskState
with_plan k p = record p { plan = k; last_backends = []; last_connections = []; rings = [] }

-- behind what an entry says
abbrev pub desk_behind : Settings → DeskState → What → DeskState
desk_behind s p (what.Chose op answer word) = with_choice s op answer p
desk_behind s p (what.Heard letter) = with_heard s letter p
desk_behind s p (what.Replanned k base) = with_plan k p
desk_behind s p _ = p

-- behind an entry
abbrev pub step_desk : Settings → DeskState → Marked → DeskState
step_desk s p m = record (desk_behind s p m.entry.what) { moment = m.entry.at; asked = asked m.entry.what }

-- behind these entries
abbrev pub step_desks : Settings → DeskState → List Marked → DeskState
step_desks s p [] = p
step_desks s p (m ∷ ms) = step_desks s (step_desk s p m) ms

-- what the desk's list says
abbrev pub desk_of : Settings → List Marked → DeskState
desk_of s list = step_desks s empty_desk list

-- What a choice rests on.

-- the backend that the last free request of a tier got
abbrev pub last_backend : DeskState → TierPlan → Option ℕ
last_backend p t = last (filter (has_backend t) p.last_backends)

-- the index of the place of the connection of a backend and kind that was chosen last
abbrev pub last_place : Settings → DeskState → ℕ → ConnKind → Option ℕ
last_place s p backend kind =
    option_map (place_index s)
    (last (filter (λ n. is_of_kind s kind n && is_of_backend s backend n) p.last_connections))

-- the mean of the last latencies of a backend
abbrev pub mean_latency : DeskState → ℕ → ℕ
mean_latency p b = elim (find (λ r. r.backend == b) p.rings) [ None ↦ 0 | Some r ↦ mean r.latencies ]

-- the facts
abbrev pub facts_of : Settings → DeskState → DeskFacts
facts_of s p =
    record {
      tiers = (plan_in_force s p.plan).plan;
      viable = filter (nat_lt (plan_in_force s p.plan).base) p.viable;
      pending = map (λ x. x.value) p.pending;
      last_backend = last_backend p;
      last_place = last_place s p;
      mean = mean_latency p;
    }
