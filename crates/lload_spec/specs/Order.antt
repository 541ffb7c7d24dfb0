-- The facts that the desk's list tells of a choice: all but what is viable and pending is read behind the last entry
-- that says the desk took another plan.
use Rattle.std.specs.Prelude.{ℕ, Bool, true, false, ◌==◌, ◌&&◌, not, nat_lt, if◌then◌else◌, List, [], ◌∷◌, ◌++◌, filter, Option, Some, None, option_map}
use Rattle.std.specs.List.{list_any}
use Rattle.lload_names.specs.declared.names.Entry.{Entry}
use Rattle.lload_names.specs.declared.names.ConnKind.{ConnKind}
use Rattle.lload_names.specs.declared.names.Answer.{Answer}
use Rattle.lload_names.specs.declared.names.Answer.TheVariants.{Go}
use Rattle.lload_names.specs.declared.names.Want.{Want}
use Rattle.lload_names.specs.declared.names.Bound.{Bound}
use Rattle.lload_names.specs.declared.names.Bound.TheVariants.{Free}
use Rattle.lload_names.specs.declared.names.Letter.{Letter}
use Rattle.lload_names.specs.declared.names.Letter.TheVariants.{Ended, IsUp}
use Rattle.lload_names.specs.declared.plans.TierPlan.{TierPlan}
use Rattle.lload_spec.specs.Lists.{last}
use Rattle.lload_spec.specs.News.{tells_over, tells_stopped, is_heard}
use Rattle.lload_spec.specs.Picks.{mean_of_last}
use Rattle.lload_spec.specs.Choice.{DeskFacts}
use Rattle.lload_spec.specs.Journal.{same_op}
use Rattle.lload_spec.specs.Entries.{Named, asked, chose, heard, replanned}
use Rattle.lload_spec.specs.Settings.{Settings, place_index, is_of_kind, is_of_backend, plan_in_force}

-- the number of the plan that these entries take last, or this one
abbrev pub plan_behind : ℕ → List Entry → ℕ
plan_behind k [] = k
plan_behind k (e ∷ es) = plan_behind (elim (replanned e.what) [ None ↦ k | Some r ↦ r.number ]) es

-- the number of the plan in force at a place of the desk's list: the first is in force at its beginning
abbrev pub plan_number : List Entry → ℕ
plan_number place = plan_behind 1 place

-- the entries behind the last one that takes a plan, where these came before
abbrev pub behind_plan : List Entry → List Entry → List Entry
behind_plan before [] = before
behind_plan before (e ∷ es) = behind_plan (elim (replanned e.what) [ None ↦ before ++ e ∷ [] | Some r ↦ [] ]) es

abbrev pub since_plan : List Entry → List Entry
since_plan place = behind_plan [] place

-- the connection that an answer gives
abbrev pub go_connection : Answer → List ℕ
go_connection (Go n b) = n ∷ []
go_connection _ = []

-- the backend that an answer gives
abbrev pub go_backend : Answer → List ℕ
go_backend (Go n b) = b ∷ []
go_backend _ = []

-- the connections that the desk chose, in order
abbrev pub goes : List Entry → List ℕ
goes [] = []
goes (e ∷ es) = elim (chose e.what) [ None ↦ [] | Some c ↦ go_connection c.value ] ++ goes es

-- whether a bound is free
abbrev pub is_free : Bound → Bool
is_free Free = true
is_free _ = false

-- the backend that an entry chose for the free request that the entry before it asked, if it did
abbrev pub free_go : Option (Named Want) → Option (Named Answer) → List ℕ
free_go (Some a) (Some c) = if same_op a.op c.op && is_free a.value.bound then go_backend c.value else []
free_go _ _ = []

-- the backends that the desk chose for free requests, in order, where this stood before
abbrev pub free_goes_behind : Option (Named Want) → List Entry → List ℕ
free_goes_behind before [] = []
free_goes_behind before (e ∷ es) = free_go before (chose e.what) ++ free_goes_behind (asked e.what) es

-- the backends that the desk chose for free requests, in order
abbrev pub free_goes : List Entry → List ℕ
free_goes place = free_goes_behind None place

-- whether a tier has this backend
abbrev pub has_backend : TierPlan → ℕ → Bool
has_backend t number = list_any (λ b. b.number == number) t.backends

-- the backend of a tier that a free request got last
abbrev pub last_free_go : List Entry → TierPlan → Option ℕ
last_free_go place t = last (filter (has_backend t) (free_goes (since_plan place)))

-- the index of the place of the last connection of the backend and kind that was chosen
abbrev pub last_go : Settings → List Entry → ℕ → ConnKind → Option ℕ
last_go s place backend kind =
    option_map (place_index s)
    (last (filter (λ n. is_of_kind s kind n && is_of_backend s backend n) (goes (since_plan place))))

-- the latency that a letter tells of a backend, if it does
abbrev pub latency_told : Settings → ℕ → Letter → List ℕ
latency_told s backend (Ended op conn (Some latency)) = if is_of_backend s backend conn then latency ∷ [] else []
latency_told s backend _ = []

-- the latencies of a backend that the desk heard, in order
abbrev pub latencies : Settings → ℕ → List Entry → List ℕ
latencies s backend [] = []
latencies s backend (e ∷ es) =
    elim (heard e.what) [ None ↦ [] | Some l ↦ latency_told s backend l ] ++ latencies s backend es

-- the mean of the last 16 latencies of a backend
abbrev pub mean_latency : Settings → List Entry → ℕ → ℕ
mean_latency s place backend = mean_of_last (latencies s backend (since_plan place))

-- the connection that a letter says is up
abbrev pub up_told : Letter → List ℕ
up_told (IsUp conn) = conn ∷ []
up_told _ = []

-- the connections that the desk heard are up
abbrev pub ups_heard : List Entry → List ℕ
ups_heard [] = []
ups_heard (e ∷ es) = elim (heard e.what) [ None ↦ [] | Some l ↦ up_told l ] ++ ups_heard es

-- whether a connection is above the base of the plan in force
abbrev pub is_of_plan : Settings → List Entry → ℕ → Bool
is_of_plan s place n = nat_lt (plan_in_force s (plan_number place)).base n

-- the viable connections: heard to be up, and not to be retired or down, and above the base of the plan in force
abbrev pub viable : Settings → List Entry → List ℕ
viable s place = filter (λ n. is_of_plan s place n && not (is_heard (tells_stopped n) place)) (ups_heard place)

-- the connection of a choice that none of these entries behind it says ended or was returned
abbrev pub pending_choice : Option (Named Answer) → List Entry → List ℕ
pending_choice None behind = []
pending_choice (Some c) behind =
    if is_heard (tells_over c.op) behind then [] else go_connection c.value

-- the connections of the choices that are pending: of those whose operation wasn't heard behind them to have ended or
-- to be returned
abbrev pub pending : List Entry → List ℕ
pending [] = []
pending (e ∷ es) = pending_choice (chose e.what) es ++ pending es

-- the facts at a place of the desk's list
abbrev pub desk_facts : Settings → List Entry → DeskFacts
desk_facts s place =
    record {
      tiers = (plan_in_force s (plan_number place)).plan;
      viable = viable s place;
      pending = pending place;
      last_backend = last_free_go place;
      last_place = last_go s place;
      mean = mean_latency s place;
    }
