-- The desk hears of each connection in order.
use Rattle.std.proofs.Common.{◌≡◌, ℕ, Bool, true, false, ◌==◌, ◌&&◌, ◌||◌, not, List, [], ◌∷◌, ◌++◌, refl, ap, ◌∙◌, sym, subst, append_assoc}
use Rattle.std.specs.Prelude.{Option, Some, None}
use Rattle.std.specs.List.{list_any, list_all}
use Rattle.std.proofs.lemmas.List.{map-append}
use Rattle.std.proofs.lemmas.List.Folds.{list_all-append}
use Rattle.lload_names.specs.Same.{same_letter}
use Rattle.lload_names.specs.declared.names.Entry.{Entry}
use Rattle.lload_names.specs.declared.names.Letter.{Letter}
use Rattle.lload_names.specs.declared.names.Letter.TheVariants.{IsUp, IsRetired, IsDown}
use Rattle.lload_names.specs.declared.names.PartName.{PartName}
use Rattle.lload_names.specs.declared.names.PartName.TheVariants.{Desk, Up as Connection}
use Rattle.lload_names.specs.declared.names.What.{What}
use Rattle.lload_names.specs.declared.names.What.TheVariants as what
use Rattle.lload_spec.specs.Entries.{heard, is_news}
use Rattle.lload_spec.specs.Journal.{Family, same_part}
use Rattle.lload_spec.specs.Lists.{each_entry, each_split_from, implies, passes, where_there}
use Rattle.lload_spec.specs.News.{is_heard, tells_down, tells_retired, tells_stopped, tells_up}
use Rattle.lload_spec.specs.Settings.{Settings}
use Rattle.lload_spec.specs.Strict.{is_heard_in_order, is_next_news}
use Rattle.lload_spec.proofs.Growth.{left, right, both}
use Rattle.lload_laws.proofs.ListLaws.{any_imply, implies_by}
use Rattle.part_laws.proofs.ListLaws.{any_before, any_behind, any_split, eq_eqb, false_by, not_true, or_elim, or_left, or_right, same_number}
use Rattle.part_spec.specs.ConnectionState.{empty_connection}
use Rattle.part_spec.specs.Fit.{DeskLedger, are_fit_from, empty_desk_ledger, fits_desk, is_of_sender, is_unfit, step_desk_ledger, with_mark}
use Rattle.part_spec.specs.Gives.{gives}
use Rattle.part_spec.specs.Marked.{Marked, Taken, entries, letter_from, letters_to, taken_from}
use Rattle.part_spec.specs.Marks.{has_desk_mark, marks_desk, must_mark_desk}
use Rattle.joined_laws.proofs.Taken.{is_fit_there}
use Rattle.carried_laws.specs.Laws.{Played}
use Rattle.settled_laws.proofs.Heard.{taken_heard}
use Rattle.settled_laws.proofs.Rest.{retired_news, up_news}
use Rattle.drained_laws.specs.Laws.{NoneComesDrained, none_comes_drained}
use Rattle.order_laws.specs.Laws.{UpsInTime, is_up_in_time}
use Rattle.news_laws.specs.Laws.{HeardInOrder}
use Rattle.news_laws.proofs.Gives.{GivenAt, given_at_entry}
use Rattle.news_laws.proofs.Stands.{is_lived, is_retired_entry, is_up_entry, retired_before_down, up_before_down, up_before_retired}

-- A test of what is told: letters that are the same pass it alike.
abbrev Alike : (Letter → Bool) → Type 0
Alike test = (x y : Letter) → same_letter x y ≡ true → test x ≡ true → test y ≡ true

down_alike : (u : ℕ) → Alike (tells_down u)
down_alike u (IsDown v) (IsDown w) h k = eq_eqb w u (sym (same_number v w h) ∙ same_number v u k)
down_alike u (IsDown v) _ h k = absurd (let bad : false ≡ true = h in cc)
down_alike u _ y h k = absurd (let bad : false ≡ true = k in cc)

stopped_alike : (u : ℕ) → Alike (tells_stopped u)
stopped_alike u (IsRetired v) (IsRetired w) h k = or_left (w == u) false (eq_eqb w u (sym (same_number v w h) ∙ same_number v u (or_elim (v == u) false (λ j. j) (λ j. absurd (let bad : false ≡ true = j in cc)) k)))
stopped_alike u (IsDown v) (IsDown w) h k = eq_eqb w u (sym (same_number v w h) ∙ same_number v u k)
stopped_alike u (IsRetired v) _ h k = absurd (let bad : false ≡ true = h in cc)
stopped_alike u (IsDown v) _ h k = absurd (let bad : false ≡ true = h in cc)
stopped_alike u _ y h k = absurd (let bad : false ≡ true = k in cc)

-- what the desk heard it took
mark_alike : (test : Letter → Bool) → Alike test → (w : What) (mark : Option Taken) → (elim mark [ None ↦ not (must_mark_desk w) | Some t ↦ marks_desk w t.letter ]) ≡ true → passes test (heard w) ≡ true → passes (λ t. test t.letter) mark ≡ true
mark_alike test alike (what.Heard x) None h k = absurd (let bad : false ≡ true = h in cc)
mark_alike test alike (what.Heard x) (Some t) h k = alike x t.letter (right (is_news t.letter) _ h) k
mark_alike test alike _ mark h k = absurd (let bad : false ≡ true = k in cc)

taken_more : (test : Letter → Bool) (mark : Option Taken) (taken : List Taken) → list_any (λ t. test t.letter) taken ≡ true → list_any (λ t. test t.letter) (with_mark mark taken) ≡ true
taken_more test None taken h = h
taken_more test (Some t) taken h = any_before (λ x. test x.letter) taken (t ∷ []) h

taken_new : (test : Letter → Bool) (mark : Option Taken) (taken : List Taken) → passes (λ t. test t.letter) mark ≡ true → list_any (λ t. test t.letter) (with_mark mark taken) ≡ true
taken_new test None taken h = absurd (let bad : false ≡ true = h in cc)
taken_new test (Some t) taken h = any_behind (λ x. test x.letter) taken (t ∷ []) (or_left (test t.letter) false h)

-- what was taken of a part before and behind
taken_both : (p : PartName) (xs ys : List Marked) → taken_from p (xs ++ ys) ≡ taken_from p xs ++ taken_from p ys
taken_both p [] ys = refl
taken_both p (m ∷ xs) ys = ap (λ l. letter_from p m.mark ++ l) (taken_both p xs ys) ∙ sym (append_assoc (letter_from p m.mark) (taken_from p xs) (taken_from p ys))

module _ (drained : NoneComesDrained) (in_time : UpsInTime) (s : Settings) (F : Family) (marked : PartName → List Marked) (h : Played s F marked) where
  life : (u : ℕ) → each_entry is_lived (entries (marked (Connection u))) ≡ true
  life u = (h.joined.shared.shares (Connection u)).life

  none_drained : (u : ℕ) → none_comes_drained s u (marked (Connection u)) ≡ true
  none_drained u = subst (λ l. none_comes_drained s u l ≡ true) (h.connections u).same (drained s u (h.connections u).events)

  ups : (u : ℕ) → each_entry is_up_in_time (entries (marked (Connection u))) ≡ true
  ups u = in_time s u (marked (Connection u)) (h.joined.shared.shares (Connection u)) (h.joined.fit (Connection u)) (none_drained u)

  marks : list_all has_desk_mark (marked Desk) ≡ true
  marks = h.joined.linked.marks Desk

  -- What the desk took of a connection before a letter that tells a state of it.
  module _ (u : ℕ) (before : List Marked) (m : Marked) (ms : List Marked) (same : marked Desk ≡ before ++ m ∷ ms) (t : Taken) (mark_is : m.mark ≡ Some t) (from_it : same_part (Connection u) t.sender ≡ true) where
    abbrev waiting : List Letter
    waiting = (h.joined.linked.in_order (Connection u) Desk).0

    here : letter_from (Connection u) m.mark ≡ t.letter ∷ []
    here = ap (letter_from (Connection u)) mark_is ∙ ap (λ b. elim b [ true ↦ t.letter ∷ [] | false ↦ [] ]) from_it

    given : letters_to Desk (gives s (Connection u) (marked (Connection u))) ≡ taken_from (Connection u) before ++ t.letter ∷ (taken_from (Connection u) ms ++ waiting)
    given =
        (h.joined.linked.in_order (Connection u) Desk).1
        ∙ ap (λ l. l ++ waiting) (ap (taken_from (Connection u)) same ∙ taken_both (Connection u) before (m ∷ ms) ∙ ap (λ l. taken_from (Connection u) before ++ (l ++ taken_from (Connection u) ms)) here)
        ∙ append_assoc (taken_from (Connection u) before) (t.letter ∷ taken_from (Connection u) ms) waiting

    at_entry : GivenAt s u (empty_connection s u) (marked (Connection u)) (taken_from (Connection u) before) t.letter
    at_entry = given_at_entry s u (empty_connection s u) (marked (Connection u)) (taken_from (Connection u) before) (taken_from (Connection u) ms ++ waiting) t.letter refl given

    marks_before : list_all has_desk_mark before ≡ true
    marks_before = left (list_all has_desk_mark before) _ (sym (list_all-append has_desk_mark before (m ∷ ms)) ∙ ap (list_all has_desk_mark) (sym same) ∙ marks)

    in_list : (sort : Entry → Bool) → list_any sort (F.connection u) ≡ true → list_any sort (entries (marked (Connection u))) ≡ true
    in_list sort k = ap (list_any sort) (h.joined.shared.same_entries (Connection u)) ∙ k

    up_heard : (tells_retired u t.letter || tells_down u t.letter) ≡ true → list_any is_up_entry (F.connection u) ≡ true → is_heard (tells_up u) (entries before) ≡ true
    up_heard k j =
        taken_heard (Connection u) (tells_up u) (up_news u) before marks_before
        (or_elim (tells_retired u t.letter) (tells_down u t.letter)
        (λ i. up_before_retired s u (marked (Connection u)) (life u) (ups u) (taken_from (Connection u) before) t.letter at_entry i (in_list is_up_entry j))
        (λ i. up_before_down s u (marked (Connection u)) (life u) (ups u) (taken_from (Connection u) before) t.letter at_entry i (in_list is_up_entry j)) k)

    retired_heard : tells_down u t.letter ≡ true → list_any is_retired_entry (F.connection u) ≡ true → is_heard (tells_retired u) (entries before) ≡ true
    retired_heard k j =
        taken_heard (Connection u) (tells_retired u) (retired_news u) before marks_before
        (retired_before_down s u (marked (Connection u)) (life u) (ups u) (taken_from (Connection u) before) t.letter at_entry k (in_list is_retired_entry j))

  -- Along the desk's list: what it heard it took.
  abbrev Took : List Marked → DeskLedger → Type 0
  Took before l = (test : Letter → Bool) → Alike test → is_heard test (entries before) ≡ true → list_any (λ t. test t.letter) l.taken ≡ true

  took_more : (before : List Marked) (l : DeskLedger) (m : Marked) → has_desk_mark m ≡ true → Took before l → Took (before ++ m ∷ []) (step_desk_ledger s l m)
  took_more before l m mark took test alike k =
      any_split (λ e. passes test (heard e.what)) (entries before) (m.entry ∷ [])
      (λ j. taken_more test m.mark l.taken (took test alike j))
      (λ j. taken_new test m.mark l.taken (mark_alike test alike m.entry.what m.mark mark (or_elim (passes test (heard m.entry.what)) false (λ i. i) (λ i. absurd (let bad : false ≡ true = i in cc)) j)))
      (sym (ap (is_heard test) (map-append (λ (x : Marked). x.entry) before (m ∷ []))) ∙ k)

  not_taken : (before : List Marked) (l : DeskLedger) → Took before l → (test wider : Letter → Bool) → Alike test → ((x : Letter) → test x ≡ true → wider x ≡ true) → not (list_any (λ t. wider t.letter) l.taken) ≡ true → not (is_heard test (entries before)) ≡ true
  not_taken before l took test wider alike f k = ap not (false_by (is_heard test (entries before)) (λ j. sym (not_true (list_any (λ t. wider t.letter) l.taken) k) ∙ any_imply (λ t. test t.letter) (λ t. wider t.letter) l.taken (λ t i. f t.letter i) (took test alike j)))

  sender_is : (sender : PartName) (u v : ℕ) → (u == v) ≡ true → same_part sender (Connection v) ≡ true → same_part (Connection u) sender ≡ true
  sender_is (Connection n) u v e k = eq_eqb u n (same_number u v e ∙ sym (same_number n v k))
  sender_is _ u v e k = absurd (let bad : false ≡ true = k in cc)

  at_news : (before : List Marked) (m : Marked) (ms : List Marked) (l : DeskLedger) (rest : Bool) → marked Desk ≡ before ++ m ∷ ms → Took before l → has_desk_mark m ≡ true → (not (is_unfit (fits_desk s) l m.mark) && rest) ≡ true → is_heard_in_order F (entries before) m.entry ≡ true
  at_news before m ms l rest same took mark fit = by m.entry.what m.mark refl mark fit
    where
      of_letter : (x : Letter) (t : Taken) (y : Letter) → m.mark ≡ Some t → t.letter ≡ y → same_letter x y ≡ true → fits_desk s l t.sender y ≡ true → is_next_news F (entries before) x ≡ true
      of_letter (IsUp u) t (IsUp v) e f i j =
          let number : u ≡ v = same_number u v i in
          not_taken before l took (tells_stopped u) (λ x. tells_up v x || tells_stopped v x) (stopped_alike u) (λ x k. or_right (tells_up v x) _ (subst (λ n. tells_stopped n x ≡ true) number k)) (right (is_of_sender s t.sender v) _ j)
      of_letter (IsRetired u) t (IsRetired v) e f i j =
          let number : u ≡ v = same_number u v i in
          let sender : same_part (Connection u) t.sender ≡ true = sender_is t.sender u v i (left (same_part t.sender (Connection v)) _ (left (is_of_sender s t.sender v) _ j)) in
          both (not (is_heard (tells_down u) (entries before))) _ (not_taken before l took (tells_down u) (tells_stopped v) (down_alike u) (λ x k. or_right (tells_retired v x) _ (subst (λ n. tells_down n x ≡ true) number k)) (right (is_of_sender s t.sender v) _ j))
          (implies_by (list_any is_up_entry (F.connection u)) _ (λ k. up_heard u before m ms same t e sender (or_left (tells_retired u t.letter) _ (ap (tells_retired u) f ∙ eq_eqb v u (sym number))) k))
      of_letter (IsDown u) t (IsDown v) e f i j =
          let number : u ≡ v = same_number u v i in
          let sender : same_part (Connection u) t.sender ≡ true = sender_is t.sender u v i (left (same_part t.sender (Connection v)) _ (left (is_of_sender s t.sender v) _ j)) in
          let down : tells_down u t.letter ≡ true = ap (tells_down u) f ∙ eq_eqb v u (sym number) in
          both (implies (list_any is_up_entry (F.connection u)) (is_heard (tells_up u) (entries before))) _
          (implies_by (list_any is_up_entry (F.connection u)) _ (λ k. up_heard u before m ms same t e sender (or_right (tells_retired u t.letter) _ down) k))
          (implies_by (list_any is_retired_entry (F.connection u)) _ (λ k. retired_heard u before m ms same t e sender down k))
      of_letter (IsUp u) t _ e f i j = absurd (let bad : false ≡ true = i in cc)
      of_letter (IsRetired u) t _ e f i j = absurd (let bad : false ≡ true = i in cc)
      of_letter (IsDown u) t _ e f i j = absurd (let bad : false ≡ true = i in cc)
      of_letter _ t y e f i j = refl

      by : (w : What) (mark : Option Taken) → m.mark ≡ mark → (elim mark [ None ↦ not (must_mark_desk w) | Some t ↦ marks_desk w t.letter ]) ≡ true → (not (is_unfit (fits_desk s) l mark) && rest) ≡ true → where_there (λ letter. is_next_news F (entries before) letter) (heard w) ≡ true
      by (what.Heard x) None e i j = absurd (let bad : false ≡ true = i in cc)
      by (what.Heard x) (Some t) e i j = of_letter x t t.letter e refl (right (is_news t.letter) _ i) (is_fit_there (fits_desk s) l t rest j)
      by _ mark e i j = refl

  hears_from : (before ms : List Marked) (l : DeskLedger) → marked Desk ≡ before ++ ms → Took before l → list_all has_desk_mark ms ≡ true → are_fit_from (fits_desk s) (step_desk_ledger s) l ms ≡ true → each_split_from (λ place e r. is_heard_in_order F place e) (entries before) (entries ms) ≡ true
  hears_from before [] l same took mk fit = refl
  hears_from before (m ∷ ms) l same took mk fit =
      both (is_heard_in_order F (entries before) m.entry) _ (at_news before m ms l _ same took (left (has_desk_mark m) _ mk) fit)
      (subst (λ es. each_split_from (λ place e r. is_heard_in_order F place e) es (entries ms) ≡ true) (map-append (λ (x : Marked). x.entry) before (m ∷ []))
      (hears_from (before ++ m ∷ []) ms (step_desk_ledger s l m) (same ∙ sym (append_assoc before (m ∷ []) ms)) (took_more before l m (left (has_desk_mark m) _ mk) took) (right (has_desk_mark m) _ mk) (right (not (is_unfit (fits_desk s) l m.mark)) _ fit)))

  pub all_in_order : each_entry (is_heard_in_order F) F.desk ≡ true
  all_in_order = subst (λ es. each_entry (is_heard_in_order F) es ≡ true) (h.joined.linked.same_entries Desk) (hears_from [] (marked Desk) empty_desk_ledger refl (λ test alike k. absurd (let bad : false ≡ true = k in cc)) marks (h.joined.fit Desk))

pub heard_in_order : NoneComesDrained → UpsInTime → HeardInOrder
heard_in_order drained in_time s F marked h = all_in_order drained in_time s F marked h
