-- Each choice that a client learned is one of the desk: it is the mark of the desk's letter, and the desk gives this letter
-- where it chose so.
use Rattle.std.proofs.Common.{◌≡◌, ℕ, Bool, true, false, ◌&&◌, not, List, [], ◌∷◌, ◌++◌, refl, ◌∙◌, subst}
use Rattle.std.specs.Prelude.{Option, Some, None}
use Rattle.std.specs.List.{list_all, list_any}
use Rattle.lload_names.specs.declared.names.Answer.{Answer}
use Rattle.lload_names.specs.declared.names.Entry.{Entry}
use Rattle.lload_names.specs.declared.names.Letter.{Letter}
use Rattle.lload_names.specs.declared.names.Letter.TheVariants.{Choice}
use Rattle.lload_names.specs.declared.names.PartName.{PartName}
use Rattle.lload_names.specs.declared.names.PartName.TheVariants.{Desk, Client, Up as Connection}
use Rattle.lload_names.specs.declared.names.What.{What}
use Rattle.lload_names.specs.declared.names.What.TheVariants as what
use Rattle.lload_spec.specs.Lists.{passes, where_there, each_split_from}
use Rattle.lload_spec.specs.Settings.{Settings}
use Rattle.lload_spec.specs.Journal.{Family, same_op, same_answer, same_part}
use Rattle.lload_spec.specs.Entries.{Named, chosen, chose}
use Rattle.lload_spec.specs.Strict.{is_chose_of, is_chosen_by_desk}
use Rattle.lload_spec.proofs.Growth.{left, right, both}
use Rattle.lload_laws.proofs.ListLaws.{any-map}
use Rattle.part_laws.proofs.ListLaws.{or_elim, or_left, or_right}
use Rattle.part_spec.specs.DeskState.{empty_desk, step_desk}
use Rattle.part_spec.specs.Fit.{ClientLedger, fits_client, step_client_ledger, are_fit_from, is_unfit}
use Rattle.part_spec.specs.Gives.{desk_letters}
use Rattle.part_spec.specs.Linked.{Linked}
use Rattle.part_spec.specs.Marked.{Marked, Taken, entries, letters_to}
use Rattle.part_spec.specs.Marks.{may_be_first, marks_client, must_mark_client}
use Rattle.joined_laws.proofs.Taken.{is_mark_from, was_given, given_at, is_fit_there}
use Rattle.joined_laws.proofs.Begun.{is_begun}
use Rattle.joined_laws.proofs.Walks.{Begun}

-- Lists.

-- what is so of each element, where it is known to stand in the list
pub all_in : {A : Type 0} (t q : A → Bool) (xs : List A) → ((x : A) → t x ≡ true → ((u : A → Bool) → u x ≡ true → list_any u xs ≡ true) → q x ≡ true) → list_all t xs ≡ true → list_all q xs ≡ true
all_in t q [] f h = refl
all_in t q (x ∷ xs) f h =
    both (q x) (list_all q xs) (f x (left (t x) _ h) (λ u k. or_left (u x) (list_any u xs) k))
    (all_in t q xs (λ y k at. f y k (λ u j. or_right (u x) (list_any u xs) (at u j))) (right (t x) _ h))

-- the second of two tests of each split
pub split_right : {A : Type 0} (t q : List A → A → List A → Bool) (before xs : List A) → each_split_from (λ b x r. t b x r && q b x r) before xs ≡ true → each_split_from q before xs ≡ true
split_right t q before [] h = refl
split_right t q before (x ∷ xs) h = both (q before x xs) _ (right (t before x xs) (q before x xs) (left (t before x xs && q before x xs) _ h)) (split_right t q (before ++ x ∷ []) xs (right (t before x xs && q before x xs) _ h))

-- what is so of each entry with its mark
pub all_entries : (q : Entry → Bool) (ms : List Marked) → list_all (λ m. q m.entry) ms ≡ true → list_all q (entries ms) ≡ true
all_entries q [] h = refl
all_entries q (m ∷ ms) h = both (q m.entry) _ (left (q m.entry) _ h) (all_entries q ms (right (q m.entry) _ h))

-- The letter of a choice.

abbrev is_choice_as : Named Answer → Letter → Bool
is_choice_as x (Choice o a) = same_op x.op o && same_answer x.value a
is_choice_as x _ = false

-- whether a choice is the mark of the desk's letter
abbrev is_by_letter : What → Option Taken → Bool
is_by_letter w mark = where_there (λ x. is_mark_from Desk (is_choice_as x) mark) (chosen w)

desk_gave : (q : PartName) (x : Named Answer) (w : What) → list_any (is_choice_as x) (letters_to q (desk_letters w)) ≡ true → passes (λ d. same_op x.op d.op && same_answer x.value d.value) (chose w) ≡ true
desk_gave q x (what.Chose op answer word) h = by (same_part q (Client op.client)) h
  where
    by : (b : Bool) → list_any (is_choice_as x) ((elim b [ true ↦ Choice op answer ∷ [] | false ↦ [] ]) ++ []) ≡ true → (same_op x.op op && same_answer x.value answer) ≡ true
    by true k = or_elim (same_op x.op op && same_answer x.value answer) false (λ j. j) (λ j. absurd (let bad : false ≡ true = j in cc)) k
    by false k = absurd (let bad : false ≡ true = k in cc)
desk_gave q x _ h = absurd (let bad : false ≡ true = h in cc)

module _ (s : Settings) where
  choice_marked : (l : ClientLedger) (e : Entry) (mark : Option Taken) (rest : Bool) → (is_begun e.what ≡ true → may_be_first l.state e mark ≡ true) → (not (is_unfit (fits_client s) l mark) && rest) ≡ true → is_by_letter e.what mark ≡ true
  choice_marked l e None rest f k = none e.what f
    where
      none : (w : What) → (is_begun w ≡ true → not (must_mark_client e w) ≡ true) → is_by_letter w None ≡ true
      none (what.Chosen op answer) g = g refl
      none _ g = refl
  choice_marked l e (Some t) rest f k = some e.what t.sender t.letter f (is_fit_there (fits_client s) l t rest k)
    where
      some : (w : What) (sender : PartName) (letter : Letter) → (is_begun w ≡ true → marks_client l.state w letter ≡ true) → fits_client s l sender letter ≡ true → where_there (λ x. same_part Desk sender && is_choice_as x letter) (chosen w) ≡ true
      some (what.Chosen op answer) Desk (Choice o a) g j = g refl
      some (what.Chosen op answer) (Client n) (Choice o a) g j = absurd (let bad : false ≡ true = j in cc)
      some (what.Chosen op answer) (Connection n) (Choice o a) g j = absurd (let bad : false ≡ true = j in cc)
      some (what.Chosen op answer) sender _ g j = absurd (let bad : false ≡ true = g refl in cc)
      some _ sender letter g j = refl

  pub choices_marked : (c : ℕ) (place : List Entry) (l : ClientLedger) (ms : List Marked) → Begun s c place l.state ms → are_fit_from (fits_client s) (step_client_ledger s) l ms ≡ true → list_all (λ m. is_by_letter m.entry.what m.mark) ms ≡ true
  choices_marked c place l [] h f = refl
  choices_marked c place l (m ∷ ms) h f =
      both (is_by_letter m.entry.what m.mark) _ (choice_marked l m.entry m.mark _ (λ i. (h.0 i).marked) f)
      (choices_marked c (place ++ m.entry ∷ []) (step_client_ledger s l m) ms h.1 (right (not (is_unfit (fits_client s) l m.mark)) _ f))

  pub choices_given : (F : Family) (marked : PartName → List Marked) (c : ℕ) → Linked s F marked → entries (marked Desk) ≡ F.desk → list_all (λ m. is_by_letter m.entry.what m.mark) (marked (Client c)) ≡ true → list_all (is_chosen_by_desk F) (entries (marked (Client c))) ≡ true
  choices_given F marked c linked same h = all_entries (is_chosen_by_desk F) (marked (Client c)) (all_in (λ m. is_by_letter m.entry.what m.mark) (λ m. is_chosen_by_desk F m.entry) (marked (Client c)) (λ m k at. given m k at (chosen m.entry.what) k) h)
    where
      given : (m : Marked) → is_by_letter m.entry.what m.mark ≡ true → ((u : Marked → Bool) → u m ≡ true → list_any u (marked (Client c)) ≡ true) → (o : Option (Named Answer)) → where_there (λ x. is_mark_from Desk (is_choice_as x) m.mark) o ≡ true → where_there (λ x. list_any (is_chose_of x) F.desk) o ≡ true
      given m k at None j = refl
      given m k at (Some x) j =
          subst (λ es. list_any (is_chose_of x) es ≡ true) same
          (any-map (is_chose_of x) (λ (n : Marked). n.entry) (marked Desk)
          ∙ given_at (step_desk s) (λ q n. desk_letters n.entry.what) (Client c) (is_choice_as x) (λ n. is_chose_of x n.entry) (λ q n i. desk_gave (Client c) x n.entry.what i) empty_desk (marked Desk)
          (was_given s F marked linked Desk (Client c) (is_choice_as x) (at (λ n. is_mark_from Desk (is_choice_as x) n.mark) j)))
