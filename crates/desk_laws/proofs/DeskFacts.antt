-- The facts that the desk's state has are the facts of its list.
use Rattle.std.proofs.Common.{◌≡◌, ℕ, Bool, ◌==◌, not, List, refl, ap, ◌∙◌, sym}
use Rattle.std.specs.Prelude.{Option, Some, None, map, filter, find, option_map, nat_lt}
use Rattle.lload_names.specs.declared.names.Entry.{Entry}
use Rattle.lload_spec.specs.Settings.{Settings, place_index, plan_in_force}
use Rattle.lload_spec.specs.Picks.{mean}
use Rattle.lload_spec.specs.Order.{has_backend, ups_heard, viable, plan_number, mean_latency, desk_facts}
use Rattle.lload_spec.specs.News.{is_heard, tells_stopped}
use Rattle.part_spec.specs.DeskState.{DeskState, Ring, facts_of}
use Rattle.part_spec.specs.DeskState as state
use Rattle.part_laws.proofs.ListLaws.{filter-filter}
use Rattle.desk_laws.proofs.DeskSays.{StateSays, pending_values, latencies_in}

-- whether a connection was heard to be retired or down
abbrev pub is_lost : List Entry → ℕ → Bool
is_lost place n = is_heard (tells_stopped n) place

-- the connections that were heard to be up and not to be retired or down, of any plan
abbrev pub viable_at : List Entry → List ℕ
viable_at place = filter (λ n. not (is_lost place n)) (ups_heard place)

module _ (s : Settings) (place : List Entry) (p : DeskState) (says : StateSays s place p) where
  same_mean : (b : ℕ) → state.mean_latency p b ≡ mean_latency s place b
  same_mean b = by (find (λ r. r.backend == b) p.rings) ∙ ap mean (says.rings b)
    where
      by : (o : Option Ring) → (elim o [ None ↦ 0 | Some r ↦ mean r.latencies ]) ≡ mean (latencies_in o)
      by None = refl
      by (Some r) = refl

  -- the facts, but for what is viable
  pub facts_said : (viable : List ℕ) → record (facts_of s p) { viable = viable } ≡ record (desk_facts s place) { viable = viable }
  facts_said viable =
      let tiers = ap (λ k. (plan_in_force s k).plan) says.plan in
      let pending = ap (map (λ x. x.value)) says.pending ∙ sym (pending_values place) in
      λ i. record {
        tiers = tiers i;
        viable = viable;
        pending = pending i;
        last_backend = λ t. says.backends (has_backend t) i;
        last_place = λ b kind. option_map (place_index s) (says.connections b kind i);
        mean = λ b. same_mean b i;
      }

  module _ (all : p.viable ≡ viable_at place) where
    same_viable : filter (nat_lt (plan_in_force s p.plan).base) p.viable ≡ viable s place
    same_viable = ap (λ k. filter (nat_lt (plan_in_force s k).base) p.viable) says.plan ∙ ap (filter (nat_lt (plan_in_force s (plan_number place)).base)) all ∙ filter-filter (nat_lt (plan_in_force s (plan_number place)).base) (λ n. not (is_lost place n)) (ups_heard place)

    -- the facts are the same
    pub same_facts : facts_of s p ≡ desk_facts s place
    same_facts = facts_said (facts_of s p).viable ∙ ap (λ v. record (desk_facts s place) { viable = v }) same_viable
