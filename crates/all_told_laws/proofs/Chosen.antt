-- An operation that was refused by a choice went nowhere: it was chosen once, and the desk isn't asked for one that goes on in an
-- exchange.
use Rattle.std.proofs.Common.{◌≡◌, ℕ, Bool, true, false, ◌==◌, ◌&&◌, not, if◌then◌else◌, List, [], ◌∷◌, ◌++◌, append_assoc, refl, ap, ◌∙◌, sym, subst}
use Rattle.std.specs.Prelude.{Option, Some, None, is_some}
use Rattle.std.specs.List.{list_all, list_any}
use Rattle.lload_names.specs.declared.names.Answer.{Answer}
use Rattle.lload_names.specs.declared.names.Answer.TheVariants.{Busy, Go, Unavailable}
use Rattle.lload_names.specs.declared.names.Entry.{Entry}
use Rattle.lload_names.specs.declared.names.OpName.{OpName}
use Rattle.lload_names.specs.declared.names.PartName.{PartName}
use Rattle.lload_names.specs.declared.names.PartName.TheVariants.{Client, Desk}
use Rattle.lload_names.specs.declared.names.Want.{Want}
use Rattle.lload_spec.specs.Caused.{check_of}
use Rattle.lload_spec.specs.Entries.{Named, asked, chose, chosen, goes_to, is_choice_of, is_of_client, word_of}
use Rattle.lload_spec.specs.Fifo.{is_chosen_for, is_pinned_to}
use Rattle.lload_spec.specs.FirstCheck.{lets_go_on}
use Rattle.lload_spec.specs.Journal.{Family, same_answer, same_op}
use Rattle.lload_spec.specs.Lists.{each_split, each_split_from, passes, some_split_from, where_there}
use Rattle.lload_spec.specs.Operations.{Operation, is_live_at, operation, operation_in}
use Rattle.lload_spec.specs.Right.{asked_last, is_answered, is_right_choice, is_right_for, is_right_plan}
use Rattle.lload_spec.specs.Settings.{Settings}
use Rattle.lload_spec.specs.Strict.{has_place_in_client, is_ask_due, is_asked_for, is_choice_for, is_chose_of, is_chosen_by_desk, is_chosen_once, is_in_unheld, is_pinned, is_to_ask, lives_as_client}
use Rattle.lload_spec.proofs.Growth.{left, right}
use Rattle.part_laws.proofs.ListLaws.{any_before, any_behind, not_true, or_elim, or_left, or_right, same_op_eq}
use Rattle.part_spec.specs.Marked.{Marked}
use Rattle.part_spec.specs.Share.{ClientShare, DeskShare}
use Rattle.joined_laws.specs.Joined.{OfSeveralLists}
use Rattle.carried_laws.specs.Laws.{Played}
use Rattle.window_laws.specs.Laws.{OfAsks}
use Rattle.told_laws.proofs.Came.{all_named}
use Rattle.heard_laws.proofs.EndsHeard.{last_asked, right_asked}

-- what passes at a split stands in the list
pub any_of_split : (f : List Entry → Entry → List Entry → Bool) (t : Entry → Bool) → ((b : List Entry) (e : Entry) (r : List Entry) → f b e r ≡ true → t e ≡ true) → (before es : List Entry) → some_split_from f before es ≡ true → list_any t es ≡ true
any_of_split f t g before [] h = h
any_of_split f t g before (e ∷ es) h = or_elim (f before e es) (some_split_from f (before ++ e ∷ []) es) (λ k. or_left (t e) _ (g before e es k)) (λ k. or_right (t e) _ (any_of_split f t g (before ++ e ∷ []) es k)) h

-- The choices of an operation in a client's list.
module _ (s : Settings) (c : ℕ) (op : OpName) where
  abbrev lives_so : List Entry → Entry → List Entry → Bool
  lives_so place e behind = is_of_client e.what && has_place_in_client s c place e behind

  -- a choice is the first of its operation
  first_choice : (place : List Entry) (e : Entry) (behind : List Entry) → lives_so place e behind ≡ true → is_choice_for op e ≡ true → list_any (is_choice_for op) place ≡ false
  first_choice place e behind h k = by (chosen e.what) once k
    where
      once : is_chosen_once c place e ≡ true
      once = right (lives_as_client place e) _ (left (lives_as_client place e && is_chosen_once c place e) _ (left (lives_as_client place e && is_chosen_once c place e && is_in_unheld s c place e) _ (right (is_of_client e.what) _ h)))

      by : (o : Option (Named Answer)) → where_there (λ x. x.op.client == c && is_some (operation_in c place x.op) && not (list_any (is_choice_for x.op) place)) o ≡ true → passes (λ x. same_op op x.op) o ≡ true → list_any (is_choice_for op) place ≡ false
      by None i j = absurd (let bad : false ≡ true = j in cc)
      by (Some x) i j = ap (λ n. list_any (is_choice_for n) place) (same_op_eq op x.op j) ∙ not_true (list_any (is_choice_for x.op) place) (right (x.op.client == c && is_some (operation_in c place x.op)) _ i)

  -- so behind one none stands
  none_later : (t : Entry → Bool) → ((e : Entry) → t e ≡ true → is_choice_for op e ≡ true) → (before es : List Entry) → list_any (is_choice_for op) before ≡ true → each_split_from lives_so before es ≡ true → list_any t es ≡ true → false ≡ true
  none_later t f before [] h k j = j
  none_later t f before (e ∷ es) h k j =
      or_elim (t e) (list_any t es)
      (λ i. sym (first_choice before e es (left (lives_so before e es) _ k) (f e i)) ∙ h)
      (λ i. none_later t f (before ++ e ∷ []) es (any_before (is_choice_for op) before (e ∷ []) h) (right (lives_so before e es) _ k) i) j

  one_choice : (t q : Entry → Bool) → ((e : Entry) → t e ≡ true → is_choice_for op e ≡ true) → ((e : Entry) → q e ≡ true → is_choice_for op e ≡ true) → ((e : Entry) → t e ≡ true → q e ≡ true → false ≡ true) → (before es : List Entry) → each_split_from lives_so before es ≡ true → list_any t es ≡ true → list_any q es ≡ true → false ≡ true
  one_choice t q f g apart before [] k i j = i
  one_choice t q f g apart before (e ∷ es) k i j =
      or_elim (t e) (list_any t es)
      (λ a. or_elim (q e) (list_any q es) (apart e a) (none_later q g (before ++ e ∷ []) es (here e (f e a)) more) j)
      (λ a. or_elim (q e) (list_any q es) (λ b. none_later t f (before ++ e ∷ []) es (here e (g e b)) more a) (one_choice t q f g apart (before ++ e ∷ []) es more a) j)
      i
    where
      more : each_split_from lives_so (before ++ e ∷ []) es ≡ true
      more = right (lives_so before e es) _ k

      here : (x : Entry) → is_choice_for op x ≡ true → list_any (is_choice_for op) (before ++ x ∷ []) ≡ true
      here x a = any_behind (is_choice_for op) before (x ∷ []) (or_left (is_choice_for op x) false a)

-- What the desk chose it was asked for.
module _ (s : Settings) (op : OpName) where
  abbrev right_so : List Entry → Entry → List Entry → Bool
  right_so place e behind = is_answered e behind && is_right_choice s place e && is_right_plan s place e

  abbrev is_chose_for : Entry → Bool
  is_chose_for e = passes (λ d. same_op op d.op) (chose e.what)

  chose_asked : (place : List Entry) (e : Entry) (behind : List Entry) → right_so place e behind ≡ true → is_chose_for e ≡ true → list_any (is_asked_for op) place ≡ true
  chose_asked place e behind h k = by (chose e.what) (right (is_answered e behind) _ (left (is_answered e behind && is_right_choice s place e) _ h)) k
    where
      by : (o : Option (Named Answer)) → where_there (λ d. is_right_for s place (word_of e.what) d (asked_last place)) o ≡ true → passes (λ d. same_op op d.op) o ≡ true → list_any (is_asked_for op) place ≡ true
      by None i j = absurd (let bad : false ≡ true = j in cc)
      by (Some d) i j = last_asked op place (ap (λ n. passes (λ a. same_op n a.op) (asked_last place)) (same_op_eq op d.op j) ∙ right_asked s place (word_of e.what) d (asked_last place) i)

  asked_in : (before es : List Entry) → each_split_from right_so before es ≡ true → list_any is_chose_for es ≡ true → list_any (is_asked_for op) (before ++ es) ≡ true
  asked_in before [] h k = absurd (let bad : false ≡ true = k in cc)
  asked_in before (e ∷ es) h k =
      or_elim (is_chose_for e) (list_any is_chose_for es)
      (λ j. any_before (is_asked_for op) before (e ∷ es) (chose_asked before e es (left (right_so before e es) _ h) j))
      (λ j. subst (λ l. list_any (is_asked_for op) l ≡ true) (append_assoc before (e ∷ []) es) (asked_in (before ++ e ∷ []) es (right (right_so before e es) _ h) j)) k

module _ (s : Settings) (F : Family) (marked : PartName → List Marked) (h : Played s F marked) (several : OfSeveralLists s F) (asks : OfAsks s F) (o : Operation) (there : operation F o.name ≡ Some o) where
  abbrev c : ℕ
  c = o.name.client

  abbrev op : OpName
  op = o.name

  share : ClientShare s o.name.client (marked (Client o.name.client))
  share = h.joined.shared.shares (Client c)

  desk_share : DeskShare s (marked Desk)
  desk_share = h.joined.shared.shares Desk

  -- each choice is the desk's
  by_desk : list_all (is_chosen_by_desk F) (F.client o.name.client) ≡ true
  by_desk = by (list_any (λ n. n == c) F.clients) refl
    where
      by : (b : Bool) → list_any (λ n. n == c) F.clients ≡ b → list_all (is_chosen_by_desk F) (F.client c) ≡ true
      by true e = right (each_split (has_place_in_client s c) (F.client c)) _ (all_named (λ n. each_split (has_place_in_client s n) (F.client n) && list_all (is_chosen_by_desk F) (F.client n)) c F.clients e several.clients_live)
      by false e = ap (list_all (is_chosen_by_desk F)) (h.whole.clients_named c e)

  -- for what was chosen the desk was asked
  chosen_by : (es : List Entry) → list_all (is_chosen_by_desk F) es ≡ true → list_any (is_choice_for o.name) es ≡ true → list_any (is_chose_for s o.name) F.desk ≡ true
  chosen_by [] i j = absurd (let bad : false ≡ true = j in cc)
  chosen_by (e ∷ es) i j = or_elim (is_choice_for op e) (list_any (is_choice_for op) es) (λ k. by (chosen e.what) (left (is_chosen_by_desk F e) _ i) k) (λ k. chosen_by es (right (is_chosen_by_desk F e) _ i) k) j
    where
      desk_too : (x : Named Answer) → same_op op x.op ≡ true → (ds : List Entry) → list_any (is_chose_of x) ds ≡ true → list_any (is_chose_for s op) ds ≡ true
      desk_too x k [] a = a
      desk_too x k (d ∷ ds) a = or_elim (is_chose_of x d) (list_any (is_chose_of x) ds) (λ b. or_left (is_chose_for s op d) _ (one (chose d.what) b)) (λ b. or_right (is_chose_for s op d) _ (desk_too x k ds b)) a
        where
          one : (y : Option (Named Answer)) → passes (λ z. same_op x.op z.op && same_answer x.value z.value) y ≡ true → passes (λ z. same_op op z.op) y ≡ true
          one None b = b
          one (Some z) b = ap (λ n. same_op n z.op) (same_op_eq op x.op k) ∙ left (same_op x.op z.op) _ b

      by : (x : Option (Named Answer)) → where_there (λ y. list_any (is_chose_of y) F.desk) x ≡ true → passes (λ y. same_op op y.op) x ≡ true → list_any (is_chose_for s op) F.desk ≡ true
      by None a b = absurd (let bad : false ≡ true = b in cc)
      by (Some x) a b = desk_too x b F.desk a

  asked_for : list_any (is_choice_for o.name) (F.client o.name.client) ≡ true → list_any (is_asked_for o.name) F.desk ≡ true
  asked_for k = asked_in s op [] F.desk (subst (λ es. each_split_from (right_so s op) [] es ≡ true) (h.joined.shared.same_entries Desk) desk_share.choices) (chosen_by (F.client c) by_desk k)

  due_so : (ds : List Entry) → list_all (is_ask_due s F) ds ≡ true → list_any (is_asked_for o.name) ds ≡ true → is_to_ask s F o ≡ true
  due_so [] i j = absurd (let bad : false ≡ true = j in cc)
  due_so (d ∷ ds) i j = or_elim (is_asked_for op d) (list_any (is_asked_for op) ds) (λ k. by (asked d.what) (left (is_ask_due s F d) _ i) k) (λ k. due_so ds (right (is_ask_due s F d) _ i) k) j
    where
      by : (a : Option (Named Want)) → where_there (λ x. passes (is_to_ask s F) (operation F x.op)) a ≡ true → passes (λ x. same_op op x.op) a ≡ true → is_to_ask s F o ≡ true
      by None a b = absurd (let bad : false ≡ true = b in cc)
      by (Some x) a b = sym (ap (passes (is_to_ask s F)) there) ∙ ap (λ n. passes (is_to_ask s F) (operation F n)) (same_op_eq op x.op b) ∙ a

  unpinned : list_any (is_choice_for o.name) (F.client o.name.client) ≡ true → is_pinned s F o ≡ false
  unpinned k = not_true (is_pinned s F o) (right (lets_go_on (check_of s F o)) _ (due_so F.desk asks.due (asked_for k)))

  -- a refusal by a choice
  module _ (u : ℕ) (a : Answer) (bare : (v : ℕ) (b : Answer) → goes_to v b ≡ true → same_answer a b ≡ true → false ≡ true) where
    abbrev refuses : Entry → Bool
    refuses e = passes (λ x. same_op o.name x.op && same_answer a x.value) (chosen e.what)

    refuses_it : (e : Entry) → refuses e ≡ true → is_choice_for o.name e ≡ true
    refuses_it e k = by (chosen e.what) k
      where
        by : (x : Option (Named Answer)) → passes (λ y. same_op o.name y.op && same_answer a y.value) x ≡ true → passes (λ y. same_op o.name y.op) x ≡ true
        by None i = i
        by (Some y) i = left (same_op op y.op) _ i

    goes_it : (e : Entry) → is_choice_of o.name u e ≡ true → is_choice_for o.name e ≡ true
    goes_it e k = by (chosen e.what) k
      where
        by : (x : Option (Named Answer)) → passes (λ y. same_op o.name y.op && goes_to u y.value) x ≡ true → passes (λ y. same_op o.name y.op) x ≡ true
        by None i = i
        by (Some y) i = left (same_op op y.op) _ i

    apart : (e : Entry) → is_choice_of o.name u e ≡ true → refuses e ≡ true → false ≡ true
    apart e k j = by (chosen e.what) k j
      where
        by : (x : Option (Named Answer)) → passes (λ y. same_op o.name y.op && goes_to u y.value) x ≡ true → passes (λ y. same_op o.name y.op && same_answer a y.value) x ≡ true → false ≡ true
        by None i m = i
        by (Some y) i m = bare u y.value (right (same_op op y.op) _ i) (right (same_op op y.op) _ m)

    pub not_refused : (if is_pinned s F o then is_pinned_to F o u else is_chosen_for F o u) ≡ true → list_any (λ e. passes (λ x. same_op o.name x.op && same_answer a x.value) (chosen e.what)) (F.client o.name.client) ≡ true → false ≡ true
    not_refused k j = one_choice s c op (is_choice_of op u) refuses goes_it refuses_it apart [] (F.client c) (subst (λ es. each_split_from (lives_so s c op) [] es ≡ true) (h.joined.shared.same_entries (Client c)) share.life) (any_of_split (λ place e r. is_choice_of op u e && is_live_at c place op) (is_choice_of op u) (λ b e r i. left (is_choice_of op u e) _ i) [] (F.client c) chosen_there) j
      where
        any_choice : (es : List Entry) → list_any refuses es ≡ true → list_any (is_choice_for op) es ≡ true
        any_choice [] i = i
        any_choice (e ∷ es) i = or_elim (refuses e) (list_any refuses es) (λ m. or_left (is_choice_for op e) _ (refuses_it e m)) (λ m. or_right (is_choice_for op e) _ (any_choice es m)) i

        chosen_there : is_chosen_for F o u ≡ true
        chosen_there = sym (ap (λ b. if b then is_pinned_to F o u else is_chosen_for F o u) (unpinned (any_choice (F.client c) j))) ∙ k

  pub busy_bare : (v : ℕ) (b : Answer) → goes_to v b ≡ true → same_answer Busy b ≡ true → false ≡ true
  busy_bare v (Go n m) k j = j
  busy_bare v _ k j = k

  pub unavailable_bare : (v : ℕ) (b : Answer) → goes_to v b ≡ true → same_answer Unavailable b ≡ true → false ≡ true
  unavailable_bare v (Go n m) k j = j
  unavailable_bare v _ k j = k
