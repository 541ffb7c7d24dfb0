-- What a list gives is heard, where all of it was taken.
use Rattle.std.proofs.Common.{◌≡◌, Bool, true, false, not, List, [], ◌∷◌, sym, subst}
use Rattle.std.specs.Prelude.{Option, Some, None}
use Rattle.std.specs.List.{list_any, list_all}
use Rattle.lload_names.specs.Same.{same_letter}
use Rattle.lload_names.specs.declared.names.Letter.{Letter}
use Rattle.lload_names.specs.declared.names.Letter.TheVariants.{Ask}
use Rattle.lload_names.specs.declared.names.PartName.{PartName}
use Rattle.lload_names.specs.declared.names.Posted.{Posted}
use Rattle.lload_names.specs.declared.names.What.{What}
use Rattle.lload_names.specs.declared.names.What.TheVariants as what
use Rattle.lload_spec.specs.Lists.{passes}
use Rattle.lload_spec.specs.Entries.{heard, is_news}
use Rattle.lload_spec.specs.Journal.{same_part}
use Rattle.lload_spec.specs.News.{is_heard}
use Rattle.lload_spec.proofs.Growth.{left, right}
use Rattle.part_laws.proofs.ListLaws.{any_before, any_behind, any_split, or_elim, or_left, or_right}
use Rattle.part_spec.specs.Gives.{gives_from}
use Rattle.part_spec.specs.Marked.{Marked, Taken, entries, letter_from, letters_to, taken_from}
use Rattle.part_spec.specs.Marks.{has_desk_mark, marks_desk, must_mark_desk}
use Rattle.joined_laws.proofs.Taken.{letters_to_both}

-- such a letter is given, where an entry of this sort stands and each such entry gives one
pub gives_at : {A : Type 0} (step : A → Marked → A) (letters : A → Marked → List Posted) (Keeps : A → Type 0) (q : PartName) (test : Letter → Bool) (sort : Marked → Bool) → ((state : A) (m : Marked) → Keeps state → Keeps (step state m)) → ((state : A) (m : Marked) → Keeps state → sort m ≡ true → list_any test (letters_to q (letters state m)) ≡ true) → (state : A) (ms : List Marked) → Keeps state → list_any sort ms ≡ true → list_any test (letters_to q (gives_from step letters state ms)) ≡ true
gives_at step letters Keeps q test sort keep says state [] k h = absurd (let bad : false ≡ true = h in cc)
gives_at step letters Keeps q test sort keep says state (m ∷ ms) k h =
    subst (λ l. list_any test l ≡ true) (sym (letters_to_both q (letters state m) (gives_from step letters (step state m) ms)))
    (or_elim (sort m) (list_any sort ms)
    (λ i. any_before test (letters_to q (letters state m)) (letters_to q (gives_from step letters (step state m) ms)) (says state m k i))
    (λ i. any_behind test (letters_to q (letters state m)) (letters_to q (gives_from step letters (step state m) ms)) (gives_at step letters Keeps q test sort keep says (step state m) ms (keep state m k) i)) h)

-- a test of what the desk hears: it looks at what is told alone, and no question passes it
pub record IsOfNews (test : Letter → Bool) : Type 0 where
  pub same : (x y : Letter) → same_letter x y ≡ true → test y ≡ true → test x ≡ true
  pub news : (y : Letter) → test y ≡ true → is_news y ≡ true

module _ (p : PartName) (test : Letter → Bool) (n : IsOfNews test) where
  of_mark : (w : What) (mark : Option Taken) → (elim mark [ None ↦ not (must_mark_desk w) | Some t ↦ marks_desk w t.letter ]) ≡ true → list_any test (letter_from p mark) ≡ true → passes test (heard w) ≡ true
  of_mark w None h k = absurd (let bad : false ≡ true = k in cc)
  of_mark w (Some t) h k = by w t.letter h (letter (same_part p t.sender) k)
    where
      letter : (b : Bool) → list_any test (elim b [ true ↦ t.letter ∷ [] | false ↦ [] ]) ≡ true → test t.letter ≡ true
      letter true j = or_elim (test t.letter) false (λ i. i) (λ i. absurd (let bad : false ≡ true = i in cc)) j
      letter false j = absurd (let bad : false ≡ true = j in cc)

      by : (v : What) (l : Letter) → marks_desk v l ≡ true → test l ≡ true → passes test (heard v) ≡ true
      by (what.Heard x) l i j = n.same x l (right (is_news l) _ i) j
      by (what.Asked op want) (Ask o w) i j = absurd (let bad : false ≡ true = n.news (Ask o w) j in cc)
      by (what.Asked op want) _ i j = absurd (let bad : false ≡ true = i in cc)
      by _ l i j = absurd (let bad : false ≡ true = i in cc)

  -- what the desk took of such letters it heard
  pub taken_heard : (ms : List Marked) → list_all has_desk_mark ms ≡ true → list_any test (taken_from p ms) ≡ true → is_heard test (entries ms) ≡ true
  taken_heard [] h k = absurd (let bad : false ≡ true = k in cc)
  taken_heard (m ∷ ms) h k =
      any_split test (letter_from p m.mark) (taken_from p ms)
      (λ i. or_left (passes test (heard m.entry.what)) (is_heard test (entries ms)) (of_mark m.entry.what m.mark (left (has_desk_mark m) _ h) i))
      (λ i. or_right (passes test (heard m.entry.what)) (is_heard test (entries ms)) (taken_heard ms (right (has_desk_mark m) _ h) i)) k
