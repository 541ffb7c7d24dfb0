-- A bind connection has one holder at a time.
use Rattle.std.proofs.Common.{◌≡◌, ℕ, true, List, [], sym, subst}
use Rattle.std.specs.List.{list_all}
use Rattle.lload_names.specs.declared.names.ConnKind.TheVariants.{Bind as BindKind}
use Rattle.lload_names.specs.declared.names.Entry.{Entry}
use Rattle.lload_names.specs.declared.names.PartName.{PartName}
use Rattle.lload_names.specs.declared.names.PartName.TheVariants.{Up as Connection}
use Rattle.lload_spec.specs.Answers.{sendings}
use Rattle.lload_spec.specs.Entries.{is_of_connection}
use Rattle.lload_spec.specs.Journal.{Family}
use Rattle.lload_spec.specs.Lists.{each_split_from}
use Rattle.lload_spec.specs.OneEach.{has_free_way, has_one_holder}
use Rattle.lload_spec.specs.Settings.{Settings, is_of_kind}
use Rattle.lload_spec.specs.Strict.{lives_as_connection}
use Rattle.part_spec.specs.ConnectionState.{empty_connection, step_connection}
use Rattle.part_spec.specs.Fit.{empty_connection_ledger, step_connection_ledger, fits_connection, are_fit_from}
use Rattle.part_spec.specs.Marked.{Marked, entries}
use Rattle.part_spec.specs.Marks.{each_from, has_connection_mark}
use Rattle.part_spec.specs.Share.{ConnectionShare}
use Rattle.bind_laws.specs.Turns.{are_told_rightly}
use Rattle.connection_laws.specs.Turns.{connection_list}
use Rattle.carried_laws.specs.Laws.{Played}
use Rattle.caused_laws.specs.Laws.{BindConnectionsSay, HoldersAreAlone}
use Rattle.caused_laws.proofs.HolderWalk.{bind_ways}
use Rattle.lload_laws.proofs.ListLaws.{all_always, implies_by}
use Rattle.joined_laws.proofs.Choices.{split_right}

module _ (says : BindConnectionsSay) (s : Settings) (F : Family) (marked : PartName → List Marked) (h : Played s F marked) where
  share : (u : ℕ) → ConnectionShare s u (marked (Connection u))
  share u = h.joined.shared.shares (Connection u)

  ways : (u : ℕ) → is_of_kind s BindKind u ≡ true → list_all (has_free_way s F u) (sendings u (entries (marked (Connection u)))) ≡ true
  ways u kind =
      let list : connection_list s u (h.connections u).events ≡ marked (Connection u) = (h.connections u).same in
      let lives : each_split_from (λ place (x : Entry) behind. lives_as_connection place x) [] (entries (marked (Connection u))) ≡ true = split_right (λ place (x : Entry) behind. is_of_connection x.what) (λ place (x : Entry) behind. lives_as_connection place x) [] (entries (marked (Connection u))) (share u).life in
      subst (λ l. list_all (has_free_way s F u) (sendings u (entries l)) ≡ true) list
      (bind_ways s F u kind (h.connections u).events
      (subst (λ l. are_told_rightly s F l ≡ true) (sym list) (says s F marked h u kind).told)
      (subst (λ l. are_fit_from (fits_connection s) (step_connection_ledger s) (empty_connection_ledger s u) l ≡ true) (sym list) (h.joined.fit (Connection u)))
      (subst (λ l. each_from (step_connection s) has_connection_mark (empty_connection s u) l ≡ true) (sym list) (share u).marks)
      (subst (λ l. each_split_from (λ place (x : Entry) behind. lives_as_connection place x) [] (entries l) ≡ true) (sym list) lives))

  alone : (u : ℕ) → has_one_holder s F u ≡ true
  alone u = implies_by (is_of_kind s BindKind u) (list_all (has_free_way s F u) (sendings u (F.connection u))) (λ e. subst (λ l. list_all (has_free_way s F u) (sendings u l) ≡ true) (h.joined.shared.same_entries (Connection u)) (ways u e))

pub holders_alone : BindConnectionsSay → HoldersAreAlone
holders_alone says s F marked h = all_always (has_one_holder s F) F.connections (alone says s F marked h)
