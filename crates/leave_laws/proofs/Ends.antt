-- Each end of a connection has its cause.
use Rattle.std.proofs.Common.{◌≡◌, ℕ, Bool, true, ◌==◌, ◌&&◌, ◌||◌, List, [], ◌∷◌, ◌++◌, length, refl, ap, ◌∙◌, sym, subst}
use Rattle.std.specs.Prelude.{Option, Some, None, nat_lt}
use Rattle.std.specs.List.{list_any}
use Rattle.ldap_spec.specs.Requests.{request}
use Rattle.lload_names.specs.declared.names.ConnKind.TheVariants.{Bind as BindKind, Regular}
use Rattle.lload_names.specs.declared.names.EndWhy.{EndWhy}
use Rattle.lload_names.specs.declared.names.EndWhy.TheVariants as why
use Rattle.lload_names.specs.declared.names.Entry.{Entry}
use Rattle.lload_names.specs.declared.names.OpKind.TheVariants.{Bind}
use Rattle.lload_names.specs.declared.names.OpName.{OpName}
use Rattle.lload_names.specs.declared.names.PartName.{PartName}
use Rattle.lload_names.specs.declared.names.PartName.TheVariants.{Client, Up as Connection}
use Rattle.lload_names.specs.declared.names.What.{What}
use Rattle.lload_names.specs.declared.names.What.TheVariants as what
use Rattle.lload_spec.specs.CausedUp.{has_down_cause, has_other_version, is_down_caused, is_left_by, is_unfinished}
use Rattle.lload_spec.specs.Entries.{down_why, is_gone, same_why}
use Rattle.lload_spec.specs.Fifo.{is_in_progress, is_pinned_to, is_sent_at}
use Rattle.lload_spec.specs.Journal.{Family, same_part}
use Rattle.lload_spec.specs.Lists.{each_split_from, implies, passes, some_entry, where_there}
use Rattle.lload_spec.specs.Operations.{Operation, is_of, last_bind, operations}
use Rattle.lload_spec.specs.Settings.{Settings, is_of_kind}
use Rattle.lload_spec.proofs.Growth.{left, right, both}
use Rattle.lload_laws.specs.ClientGrowth.{is_named_within}
use Rattle.lload_laws.proofs.ClientGrowth.{own_names}
use Rattle.lload_laws.proofs.ListLaws.{all_both, all_imply, any_imply, passes_imply}
use Rattle.part_laws.proofs.ListLaws.{or_elim, or_left, or_right, same_number, splits_both}
use Rattle.part_spec.specs.Fit.{ConnectionLedger, empty_connection_ledger, is_leave_of, step_connection_ledger}
use Rattle.part_spec.specs.Gives.{gives}
use Rattle.part_spec.specs.Marked.{Marked, entries}
use Rattle.part_spec.specs.Share.{ClientShare, ConnectionShare}
use Rattle.connection_laws.proofs.Permits.{push_entry}
use Rattle.carried_laws.specs.Laws.{Played}
use Rattle.caused_laws.specs.Laws.{BindConnectionsSay}
use Rattle.joined_laws.proofs.Taken.{is_mark_from, was_given}
use Rattle.forward_laws.proofs.Causes.{is_live_choice, is_step_from}
use Rattle.forward_laws.proofs.Chosen.{answered_there}
use Rattle.forward_laws.proofs.Sendings.{given_to, sent_at}
use Rattle.upstream_laws.specs.Laws.{EndsAreCaused, RegularEndsAreCaused, is_end_caused}
use Rattle.upstream_laws.proofs.BindEnds.{Comes}
use Rattle.upstream_laws.proofs.Places.{each_connection}
use Rattle.leave_laws.specs.Laws.{AllEndsAreCaused}
use Rattle.leave_laws.proofs.Along.{along}
use Rattle.leave_laws.proofs.Leaves.{gave_leave, has_left, has_left_for, is_leaving}
use Rattle.leave_laws.proofs.Letters.{is_left_there}
use Rattle.leave_laws.proofs.Lists.{any_among}
use Rattle.leave_laws.proofs.Places.{AtPlaces, bind_places}
use Rattle.leave_laws.proofs.Unfinished.{ends_left, is_unfinished_so}

pub splits_imply : (t q : List Entry → Entry → List Entry → Bool) (before es : List Entry) → ((b : List Entry) (e : Entry) (d : List Entry) → t b e d ≡ true → q b e d ≡ true) → each_split_from t before es ≡ true → each_split_from q before es ≡ true
splits_imply t q before [] f h = refl
splits_imply t q before (e ∷ es) f h = both (q before e es) _ (f before e es (left (t before e es) _ h)) (splits_imply t q (before ++ e ∷ []) es f (right (t before e es) _ h))

module _ (s : Settings) (F : Family) (u : ℕ) (kind : is_of_kind s BindKind u ≡ true) where
  abbrev by_list : List Entry → Entry → List Entry → Bool
  by_list place e behind = is_unfinished_so s F u place e

  -- whether a list took a Leave of this holder from its client
  abbrev pub took_leave : OpName → List Marked → Bool
  took_leave n ms = list_any (λ m. is_mark_from (Client n.client) (is_leave_of n) m.mark) ms

  unfinished : (ms before : List Marked) (l : ConnectionLedger) → AtPlaces s F u kind before l ms → ((n : OpName) → took_leave n ms ≡ true → is_left_by F u n.client ≡ true) → each_split_from by_list (entries before) (entries ms) ≡ true
  unfinished [] before l a f = refl
  unfinished (m ∷ ms) before l a f =
      both (by_list (entries before) m.entry (entries ms)) _ (here m.entry.what refl)
      (subst (λ place. each_split_from by_list place (entries ms) ≡ true) (push_entry before m)
      (unfinished ms (before ++ m ∷ []) (step_connection_ledger s l m) a.1 (λ n k. f n (or_right (is_mark_from (Client n.client) (is_leave_of n) m.mark) _ k))))
    where
      of_unfinished : m.entry.what ≡ what.Down why.Unfinished → is_unfinished s F u (entries before) ≡ true
      of_unfinished e = ends_left s F u kind before l a.0.0 m.entry.part m.entry.at m.mark (subst (λ w. Comes s F u kind before l (record { entry = record { part = m.entry.part; at = m.entry.at; what = w }; mark = m.mark })) e a.0.1) (λ n k. f n (or_left (is_mark_from (Client n.client) (is_leave_of n) m.mark) _ k))

      ended : (y : EndWhy) → m.entry.what ≡ what.Down y → implies (same_why y why.Unfinished) (is_unfinished s F u (entries before)) ≡ true
      ended why.Unfinished e = of_unfinished e
      ended _ e = refl

      here : (w : What) → m.entry.what ≡ w → is_unfinished_so s F u (entries before) m.entry ≡ true
      here (what.Down y) e = ap (λ w. where_there (λ v. implies (same_why v why.Unfinished) (is_unfinished s F u (entries before))) (down_why w)) e ∙ ended y e
      here w e = ap (λ v. where_there (λ y. implies (same_why y why.Unfinished) (is_unfinished s F u (entries before))) (down_why v)) e

-- whether a connection was chosen for this holder, whose client left it
abbrev pub is_left_for : Family → ℕ → OpName → Bool
is_left_for F u n = some_entry (is_live_choice n.client n u) (F.client n.client) && is_left_by F u n.client

module _ (s : Settings) (F : Family) (marked : PartName → List Marked) (h : Played s F marked) where
  client_share : (c : ℕ) → ClientShare s c (marked (Client c))
  client_share c = h.joined.shared.shares (Client c)

  connection_share : (u : ℕ) → ConnectionShare s u (marked (Connection u))
  connection_share u = h.joined.shared.shares (Connection u)

  -- what its list says of a client that left its exchange, the family says
  left_by : (u c : ℕ) → has_left c u (entries (marked (Client c))) (marked (Client c)) ≡ true → is_left_by F u c ≡ true
  left_by u c k =
      or_elim (list_any is_gone (F.client c)) (list_any (is_leaving c u (marked (Client c))) (operations c (F.client c)))
      (λ j. or_left (list_any is_gone (F.client c)) _ j)
      (λ j. or_right (list_any is_gone (F.client c)) _ (any_among (is_named_within c (length (operations c (F.client c)))) (is_leaving c u (marked (Client c))) by_family (operations c (F.client c)) one (own_names c (F.client c)) j))
      (subst (λ list. has_left c u list (marked (Client c)) ≡ true) (h.joined.shared.same_entries (Client c)) k)
    where
      by_family : Operation → Bool
      by_family o = passes has_other_version (request o.request.rest) && is_pinned_to F o u

      one : (o : Operation) → is_named_within c (length (operations c (F.client c))) o ≡ true → is_leaving c u (marked (Client c)) o ≡ true → by_family o ≡ true
      one o named j =
          let own : o.name.client ≡ c = same_number o.name.client c (left (o.name.client == c) _ (left (o.name.client == c && nat_lt 0 o.name.k) _ named)) in
          let bind : (is_of Bind o && passes (is_step_from u (marked (Client c))) (last_bind c o.before)) ≡ true = right (passes has_other_version (request o.request.rest)) _ j in
          both (passes has_other_version (request o.request.rest)) _ (left (passes has_other_version (request o.request.rest)) _ j)
          (both (is_of Bind o) _ (left (is_of Bind o) _ bind)
          (subst (λ n. passes (λ b. is_in_progress b && is_sent_at F u b) (last_bind n o.before) ≡ true) (sym own)
          (passes_imply (is_step_from u (marked (Client c))) (λ b. is_in_progress b && is_sent_at F u b) (last_bind c o.before)
          (λ b i. both (is_in_progress b) _ (left (is_in_progress b) _ i) (sent_at F u b h.whole (answered_there s F marked h.joined b.name u c (right (is_in_progress b) _ i))))
          (right (is_of Bind o) _ bind))))

  gave_left : (u : ℕ) (n : OpName) → list_any (λ m. is_mark_from (Client n.client) (is_leave_of n) m.mark) (marked (Connection u)) ≡ true → has_left_for n n.client u (entries (marked (Client n.client))) (marked (Client n.client)) ≡ true
  gave_left u n k =
      gave_leave s n.client u n (marked (Client n.client)) (along s n.client (marked (Client n.client)) (client_share n.client) (h.joined.fit (Client n.client)))
      (any_imply (λ x. same_part (Connection u) x.to && is_leave_of n x.letter) (is_left_there n u) (gives s (Client n.client) (marked (Client n.client))) (λ x j. both (is_leave_of n x.letter) _ (right (same_part (Connection u) x.to) _ j) (left (same_part (Connection u) x.to) _ j))
      (given_to (Connection u) (is_leave_of n) (gives s (Client n.client) (marked (Client n.client))) (was_given s F marked h.joined.linked (Client n.client) (Connection u) (is_leave_of n) k)))

  took_left : (u : ℕ) (n : OpName) → list_any (λ m. is_mark_from (Client n.client) (is_leave_of n) m.mark) (marked (Connection u)) ≡ true → is_left_by F u n.client ≡ true
  took_left u n k = left_by u n.client (right (some_entry (is_live_choice n.client n u) (entries (marked (Client n.client)))) _ (gave_left u n k))

  -- and the connection was chosen for the holder
  pub took_left_for : (u : ℕ) (n : OpName) → list_any (λ m. is_mark_from (Client n.client) (is_leave_of n) m.mark) (marked (Connection u)) ≡ true → is_left_for F u n ≡ true
  took_left_for u n k = both (some_entry (is_live_choice n.client n u) (F.client n.client)) _ (subst (λ list. some_entry (is_live_choice n.client n u) list ≡ true) (h.joined.shared.same_entries (Client n.client)) (left (some_entry (is_live_choice n.client n u) (entries (marked (Client n.client)))) _ (gave_left u n k))) (took_left u n k)

  bind_unfinished : BindConnectionsSay → (u : ℕ) → is_of_kind s BindKind u ≡ true → each_split_from (λ place e behind. is_unfinished_so s F u place e) [] (entries (marked (Connection u))) ≡ true
  bind_unfinished says u kind =
      unfinished s F u kind (marked (Connection u)) [] (empty_connection_ledger s u) (bind_places says s F marked h u kind) (took_left u)

pub all_ends : BindConnectionsSay → EndsAreCaused → RegularEndsAreCaused → AllEndsAreCaused
all_ends says ends regular s F marked h =
    all_imply (λ u. each_split_from (λ place e behind. is_end_caused s F u place e) [] (F.connection u) && each_split_from (λ place e behind. is_unfinished_so s F u place e) [] (F.connection u)) (λ u. each_split_from (λ place e behind. is_down_caused s F u place e) [] (F.connection u)) F.connections joined
    (all_both (λ u. each_split_from (λ place e behind. is_end_caused s F u place e) [] (F.connection u)) (λ u. each_split_from (λ place e behind. is_unfinished_so s F u place e) [] (F.connection u)) F.connections (ends s F marked h)
    (each_connection s F marked h (λ u list. each_split_from (λ place e behind. is_unfinished_so s F u place e) [] list) of_regular (bind_unfinished s F marked h says) (λ u. refl)))
  where
    down_causes : (u : ℕ) (place : List Entry) (e : Entry) (o : Option EndWhy) → where_there (λ y. has_down_cause s F u place e.at y) o ≡ true → where_there (λ y. implies (same_why y why.Unfinished) (is_unfinished s F u place)) o ≡ true
    down_causes u place e None k = refl
    down_causes u place e (Some why.Unfinished) k = k
    down_causes u place e (Some _) k = refl

    of_regular : (u : ℕ) → is_of_kind s Regular u ≡ true → each_split_from (λ place e behind. is_unfinished_so s F u place e) [] (entries (marked (Connection u))) ≡ true
    of_regular u kind = splits_imply (λ place e behind. is_down_caused s F u place e) (λ place e behind. is_unfinished_so s F u place e) [] (entries (marked (Connection u))) (λ b e d k. down_causes u b e (down_why e.what) k) (subst (λ l. each_split_from (λ place e behind. is_down_caused s F u place e) [] l ≡ true) (sym (h.joined.shared.same_entries (Connection u))) (regular s F marked h u kind))

    both_causes : (u : ℕ) (place : List Entry) (e : Entry) (o : Option EndWhy) → where_there (λ y. same_why y why.Unfinished || has_down_cause s F u place e.at y) o ≡ true → where_there (λ y. implies (same_why y why.Unfinished) (is_unfinished s F u place)) o ≡ true → where_there (λ y. has_down_cause s F u place e.at y) o ≡ true
    both_causes u place e None k j = refl
    both_causes u place e (Some why.Unfinished) k j = j
    both_causes u place e (Some _) k j = k

    joined : (u : ℕ) → (each_split_from (λ place e behind. is_end_caused s F u place e) [] (F.connection u) && each_split_from (λ place e behind. is_unfinished_so s F u place e) [] (F.connection u)) ≡ true → each_split_from (λ place e behind. is_down_caused s F u place e) [] (F.connection u) ≡ true
    joined u k =
        splits_imply (λ place e behind. is_end_caused s F u place e && is_unfinished_so s F u place e) (λ place e behind. is_down_caused s F u place e) [] (F.connection u) (λ b e d j. both_causes u b e (down_why e.what) (left (is_end_caused s F u b e) _ j) (right (is_end_caused s F u b e) _ j))
        (splits_both (λ place e behind. is_end_caused s F u place e) (λ place e behind. is_unfinished_so s F u place e) [] (F.connection u) (left (each_split_from (λ place e behind. is_end_caused s F u place e) [] (F.connection u)) _ k) (right (each_split_from (λ place e behind. is_end_caused s F u place e) [] (F.connection u)) _ k))
