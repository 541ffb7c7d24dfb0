-- Each Drop and each Leave that comes to nothing is owed.
use Rattle.std.proofs.Common.{◌≡◌, ℕ, true, ◌&&◌, not, if◌then◌else◌, List, [], refl, ap, ◌∙◌, sym, subst, Option, Some, None}
use Rattle.std.specs.List.{list_any}
use Rattle.lload_names.specs.declared.names.ConnKind.TheVariants.{Bind as BindKind}
use Rattle.lload_names.specs.declared.names.EndWhy.TheVariants.{Unfinished}
use Rattle.lload_names.specs.declared.names.Entry.{Entry}
use Rattle.lload_names.specs.declared.names.OpKind.TheVariants.{Bind}
use Rattle.lload_names.specs.declared.names.OpName.{OpName}
use Rattle.lload_names.specs.declared.names.PartName.TheVariants.{Up as Connection}
use Rattle.lload_spec.specs.Entries.{idle_op, is_down_by}
use Rattle.lload_spec.specs.Fifo.{is_chosen_for}
use Rattle.lload_spec.specs.Journal.{Family, same_op}
use Rattle.lload_spec.specs.Lists.{each_split_from, passes, some_entry, where_there}
use Rattle.lload_spec.specs.Operations.{Operation, is_of, operation}
use Rattle.lload_spec.specs.Owed.{is_drop_idle, is_held_by, is_idle_owed, is_leave_idle, leaves_exchange, may_be_idle, was_forwarded}
use Rattle.lload_spec.specs.Settings.{Settings, is_of_kind}
use Rattle.lload_spec.proofs.Growth.{both, left, right}
use Rattle.part_spec.specs.Laws.{FitIsWhole}
use Rattle.part_spec.specs.Marked.{entries}
use Rattle.part_laws.proofs.ListLaws.{splits_both}
use Rattle.caused_laws.specs.Laws.{BindConnectionsSay}
use Rattle.rows_laws.proofs.Steps.{op_named}
use Rattle.upstream_laws.proofs.Places.{each_connection}
use Rattle.leave_laws.specs.Laws.{BindIdlesAreOfLeft, RegularIdlesAreOwed, is_idle_of_left, is_left_bind}
use Rattle.leave_laws.proofs.Ends.{splits_imply}
use Rattle.idle_laws.specs.Laws.{BindIdlesAreOwed, EachIdleIsOwed, LeavesAreGivenOnce}
use Rattle.idle_laws.proofs.Frees.{idles_free, is_free, is_idle_free}

module _ (s : Settings) (F : Family) (u : ℕ) (kind : is_of_kind s BindKind u ≡ true) where
  -- an operation whose client left the connection, and whose Leave may come to nothing
  owed : (place : List Entry) (o : Operation) → is_left_bind F u place o ≡ true → is_free s F u kind place o.name ≡ true → may_be_idle s F u place o ≡ true
  owed place o h k =
      let chosen : (was_forwarded o.name place && is_of Bind o && is_chosen_for F o u) ≡ true = left (was_forwarded o.name place && is_of Bind o && is_chosen_for F o u) _ h in
      let bound : (was_forwarded o.name place && is_of Bind o) ≡ true = left (was_forwarded o.name place && is_of Bind o) _ chosen in
      let three : (not (list_any (λ e. passes (same_op o.name) (idle_op e.what)) place) && not (is_held_by s F u place o.name) && not (some_entry (λ b e. is_down_by Unfinished e && is_held_by s F u b o.name) place)) ≡ true = left (not (list_any (λ e. passes (same_op o.name) (idle_op e.what)) place) && not (is_held_by s F u place o.name) && not (some_entry (λ b e. is_down_by Unfinished e && is_held_by s F u b o.name) place)) _ k in
      let two : (not (list_any (λ e. passes (same_op o.name) (idle_op e.what)) place) && not (is_held_by s F u place o.name)) ≡ true = left (not (list_any (λ e. passes (same_op o.name) (idle_op e.what)) place) && not (is_held_by s F u place o.name)) _ three in
      both (was_forwarded o.name place && not (list_any (λ e. passes (same_op o.name) (idle_op e.what)) place)) _
      (both (was_forwarded o.name place) _ (left (was_forwarded o.name place) _ bound) (left (not (list_any (λ e. passes (same_op o.name) (idle_op e.what)) place)) _ two))
      (ap (λ b. if b then is_leave_idle s F u place o else is_drop_idle s F u place o) (right (was_forwarded o.name place) _ bound)
      ∙ both (some_entry (leaves_exchange o) (F.client o.name.client) && is_chosen_for F o u && not (is_held_by s F u place o.name)) _
      (both (some_entry (leaves_exchange o) (F.client o.name.client) && is_chosen_for F o u) _
      (both (some_entry (leaves_exchange o) (F.client o.name.client)) _
      (right (not (list_any (λ e. passes (same_op o.name) (idle_op e.what)) place) && not (is_held_by s F u place o.name) && not (some_entry (λ b e. is_down_by Unfinished e && is_held_by s F u b o.name) place)) _ k)
      (right (was_forwarded o.name place && is_of Bind o) _ chosen))
      (right (not (list_any (λ e. passes (same_op o.name) (idle_op e.what)) place)) _ two))
      (right (not (list_any (λ e. passes (same_op o.name) (idle_op e.what)) place) && not (is_held_by s F u place o.name)) _ three))

  one : (place : List Entry) (e : Entry) (behind : List Entry) → (is_idle_of_left F u place e && is_idle_free s F u kind place e) ≡ true → is_idle_owed s F u place e ≡ true
  one place e behind k = by (idle_op e.what) (left (is_idle_of_left F u place e) _ k) (right (is_idle_of_left F u place e) _ k)
    where
      by : (o : Option OpName) → where_there (λ op. passes (is_left_bind F u place) (operation F op)) o ≡ true → where_there (is_free s F u kind place) o ≡ true → where_there (λ op. passes (may_be_idle s F u place) (operation F op)) o ≡ true
      by None i j = refl
      by (Some op) i j = there (operation F op) refl i
        where
          there : (q : Option Operation) → operation F op ≡ q → passes (is_left_bind F u place) q ≡ true → passes (may_be_idle s F u place) q ≡ true
          there None z p = p
          there (Some q) z p = owed place q p (ap (is_free s F u kind place) (sym (op_named F op q z)) ∙ j)

pub bind_idles_owed : FitIsWhole → BindIdlesAreOfLeft → BindConnectionsSay → LeavesAreGivenOnce → BindIdlesAreOwed
bind_idles_owed fit_whole of_left says given s F marked h u kind = splits_imply (λ place e behind. is_idle_of_left F u place e && is_idle_free s F u kind place e) (λ place e behind. is_idle_owed s F u place e) [] (F.connection u) (one s F u kind) (splits_both (λ place e behind. is_idle_of_left F u place e) (λ place e behind. is_idle_free s F u kind place e) [] (F.connection u) (of_left s F marked h u kind) (idles_free fit_whole says given s F marked h u kind))

pub each_owed : RegularIdlesAreOwed → BindIdlesAreOwed → EachIdleIsOwed
each_owed regular bind s F marked h = each_connection s F marked h (λ u list. each_split_from (λ place e behind. is_idle_owed s F u place e) [] list) (λ u kind. there u (regular s F marked h u kind)) (λ u kind. there u (bind s F marked h u kind)) (λ u. refl)
  where
    there : (u : ℕ) → each_split_from (λ place e behind. is_idle_owed s F u place e) [] (F.connection u) ≡ true → each_split_from (λ place e behind. is_idle_owed s F u place e) [] (entries (marked (Connection u))) ≡ true
    there u k = subst (λ l. each_split_from (λ place e behind. is_idle_owed s F u place e) [] l ≡ true) (sym (h.joined.shared.same_entries (Connection u))) k
