-- The shares of the parts of a run.
use Rattle.std.proofs.Common.{◌≡◌, Bool, true, false, List, [], ◌∷◌, refl, ap, ◌∙◌, subst}
use Rattle.std.specs.Prelude.{cond, filter}
use Rattle.lload_names.specs.declared.names.PartName.{PartName}
use Rattle.lload_names.specs.declared.names.PartName.TheVariants.{Desk, Client, Up as Connection}
use Rattle.lload_spec.specs.Settings.{Settings}
use Rattle.lload_spec.specs.Journal.{of_part}
use Rattle.part_spec.specs.Laws.{FitIsWhole}
use Rattle.part_spec.specs.Linked.{list_of}
use Rattle.part_spec.specs.Merge.{PartMove, world_of}
use Rattle.part_spec.specs.Share.{Share, PartShare}
use Rattle.part_spec.specs.World.{journal_of, list_in}
use Rattle.link_laws.specs.Moves.{end_rightly}
use Rattle.link_laws.specs.Laws.{EntriesLaw, DeskSharesLaw, ClientSharesLaw, ConnectionSharesLaw}
use Rattle.fitness_laws.specs.Fitness.{FitnessLaw}
use Rattle.run_laws.specs.Runs.{family_of_run, RunsAreShared}

-- what passed a test passes it again
filtered_twice : {A : Type 0} (test : A → Bool) (xs : List A) → filter test (filter test xs) ≡ filter test xs
filtered_twice test [] = refl
filtered_twice test (x ∷ xs) = by (test x) refl (filtered_twice test xs)
  where
    by : (b : Bool) → test x ≡ b → filter test (filter test xs) ≡ filter test xs → filter test (cond b (x ∷ filter test xs) (filter test xs)) ≡ cond b (x ∷ filter test xs) (filter test xs)
    by true e h = ap (λ c. cond c (x ∷ filter test (filter test xs)) (filter test (filter test xs))) e ∙ ap (λ l. x ∷ l) h
    by false e h = h

own_entries : (s : Settings) (ms : List PartMove) (p : PartName) → of_part p (list_of (family_of_run s ms) p) ≡ list_of (family_of_run s ms) p
own_entries s ms Desk = filtered_twice _ (journal_of (world_of s ms))
own_entries s ms (Client c) = filtered_twice _ (journal_of (world_of s ms))
own_entries s ms (Connection u) = filtered_twice _ (journal_of (world_of s ms))

module _ (whole : FitIsWhole) (entries_in : EntriesLaw) (fitness : FitnessLaw) (desk : DeskSharesLaw) (clients : ClientSharesLaw) (connections : ConnectionSharesLaw) where
  -- each letter was fit, so that the share is of the whole list
  whole_share : (s : Settings) (ms : List PartMove) (p : PartName) → Share s p (list_in (world_of s ms) p) → PartShare s p (list_in (world_of s ms) p)
  whole_share s ms p h = subst (PartShare s p) (whole s p (list_in (world_of s ms) p) ((fitness s ms).taken p)) h

  share_of : (s : Settings) (ms : List PartMove) → end_rightly ms ≡ true → (p : PartName) → PartShare s p (list_in (world_of s ms) p)
  share_of s ms k Desk = whole_share s ms Desk (desk s ms)
  share_of s ms k (Client c) = whole_share s ms (Client c) (clients s ms c k)
  share_of s ms k (Connection u) = whole_share s ms (Connection u) (connections s ms u k)

  pub runs_are_shared : RunsAreShared
  runs_are_shared s ms k = record { same_entries = entries_in (world_of s ms); own_entries = own_entries s ms; shares = share_of s ms k }
