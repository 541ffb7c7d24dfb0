-- How many letters for an operation came too late, how many were taken, and how many of those in time. Each letter that came too
-- late is one that was taken.
use Rattle.std.proofs.Common.{◌≡◌, ℕ, suc, ◌+◌, ◌≤◌, Bool, true, false, not, List, [], ◌∷◌, ◌++◌, length, arith, refl, ap, ◌∙◌, sym}
use Rattle.std.specs.Prelude.{Option, Some, None, cond, filter, if◌then◌else◌}
use Rattle.std.proofs.lemmas.List.{length-append, map-append}
use Rattle.std.proofs.lemmas.List.Elements.{filter-append}
use Rattle.lload_names.specs.declared.names.Entry.{Entry}
use Rattle.lload_names.specs.declared.names.Letter.{Letter}
use Rattle.lload_names.specs.declared.names.Letter.TheVariants.{Failed, Reply}
use Rattle.lload_names.specs.declared.names.OpName.{OpName}
use Rattle.lload_names.specs.declared.names.What.{What}
use Rattle.lload_names.specs.declared.names.What.TheVariants as what
use Rattle.lload_spec.specs.Entries.{late_op}
use Rattle.lload_spec.specs.Journal.{same_op}
use Rattle.lload_spec.specs.Lists.{passes}
use Rattle.lload_spec.specs.Owed.{is_late_of}
use Rattle.lload_spec.specs.Settings.{Settings}
use Rattle.lload_spec.proofs.Growth.{left}
use Rattle.part_laws.proofs.ListLaws.{same_op_eq}
use Rattle.part_spec.specs.ClientState.{ClientState, step_client}
use Rattle.part_spec.specs.Marked.{Marked, Taken, entries}
use Rattle.part_spec.specs.Marks.{marks_client, may_be_first, must_mark_client}
use Rattle.joined_laws.proofs.Begun.{is_begun}
use Rattle.joined_laws.proofs.Walks.{Begun}
use Rattle.told_laws.proofs.Letters.{letter_for, letters_for, of_operation}

module _ (s : Settings) (c : ℕ) (n : OpName) where
  -- a late letter is the mark of a letter for its operation
  letter_late : (p : ClientState) (op : OpName) (x : Letter) → same_op n op ≡ true → marks_client p (what.Late op) x ≡ true → of_operation n x ≡ true
  letter_late p op (Reply o rest is_last who) e k = ap (λ q. same_op q o) (same_op_eq n op e) ∙ left (same_op op o) _ k
  letter_late p op (Failed o which) e k = ap (λ q. same_op q o) (same_op_eq n op e) ∙ left (same_op op o) _ k
  letter_late p op _ e k = absurd (let bad : false ≡ true = k in cc)

  pub late_marked : (p : ClientState) (e : Entry) (mark : Option Taken) → (is_begun e.what ≡ true → may_be_first p e mark ≡ true) → is_late_of n e ≡ true → length (letter_for n mark) ≡ 1
  late_marked p e mark first h = by e.what refl (ap (λ w. passes (same_op n) (late_op w)) refl ∙ h)
    where
      one : (op : OpName) → e.what ≡ what.Late op → same_op n op ≡ true → (o : Option Taken) → mark ≡ o → length (letter_for n o) ≡ 1
      one op z k None i = absurd (let bad : false ≡ true = ap (λ w. not (must_mark_client e w)) (sym z) ∙ ap (may_be_first p e) (sym i) ∙ first (ap is_begun z) in cc)
      one op z k (Some t) i = ap (λ b. length (if b then t.letter ∷ [] else [])) (letter_late p op t.letter k (ap (λ w. marks_client p w t.letter) (sym z) ∙ ap (may_be_first p e) (sym i) ∙ first (ap is_begun z)))

      by : (w : What) → e.what ≡ w → passes (same_op n) (late_op w) ≡ true → length (letter_for n mark) ≡ 1
      by (what.Late op) z k = one op z k mark refl
      by _ z k = absurd (let bad : false ≡ true = k in cc)

module _ (s : Settings) (c k : ℕ) where
  abbrev n : OpName
  n = record { client = c; k = k }

  abbrev is_timely_one : Marked → Bool
  is_timely_one m = not (is_late_of n m.entry)

  abbrev pub late : List Marked → ℕ
  late ms = length (filter (is_late_of n) (entries ms))

  abbrev pub taken : List Marked → ℕ
  taken ms = length (letters_for n ms)

  abbrev pub in_time : List Marked → ℕ
  in_time ms = length (letters_for n (filter (λ m. not (is_late_of n m.entry)) ms))

  pub late_both : (xs ys : List Marked) → late (xs ++ ys) ≡ late xs + late ys
  late_both xs ys = ap (λ l. length (filter (is_late_of n) l)) (map-append (λ (m : Marked). m.entry) xs ys) ∙ ap length (filter-append (is_late_of n) (entries xs) (entries ys)) ∙ length-append (filter (is_late_of n) (entries xs)) (filter (is_late_of n) (entries ys))

  pub in_time_more : (xs ys : List Marked) → in_time xs ≤ in_time (xs ++ ys)
  in_time_more [] ys = omega arith
  in_time_more (x ∷ xs) ys = by (is_timely_one x) (in_time_more xs ys)
    where
      by : (b : Bool) → in_time xs ≤ in_time (xs ++ ys) → length (letters_for n (cond b (x ∷ filter is_timely_one xs) (filter is_timely_one xs))) ≤ length (letters_for n (cond b (x ∷ filter is_timely_one (xs ++ ys)) (filter is_timely_one (xs ++ ys))))
      by true ih =
          let one : length (letter_for n x.mark ++ letters_for n (filter is_timely_one xs)) ≡ length (letter_for n x.mark) + in_time xs = length-append (letter_for n x.mark) (letters_for n (filter is_timely_one xs)) in
          let all : length (letter_for n x.mark ++ letters_for n (filter is_timely_one (xs ++ ys))) ≡ length (letter_for n x.mark) + in_time (xs ++ ys) = length-append (letter_for n x.mark) (letters_for n (filter is_timely_one (xs ++ ys))) in
          omega (arith, one, all, ih)
      by false ih = ih

  -- those that came too late are taken beside those in time
  pub both_taken : (place : List Entry) (p : ClientState) (ms : List Marked) → Begun s c place p ms → late ms + in_time ms ≤ taken ms
  both_taken place p [] h = omega arith
  both_taken place p (m ∷ ms) h = by (is_late_of n m.entry) refl (both_taken (place ++ m.entry ∷ []) (step_client s p m) ms h.1)
    where
      by : (b : Bool) → is_late_of n m.entry ≡ b → late ms + in_time ms ≤ taken ms → length (cond b (m.entry ∷ filter (is_late_of n) (entries ms)) (filter (is_late_of n) (entries ms))) + length (letters_for n (cond (not b) (m ∷ filter (λ x. not (is_late_of n x.entry)) ms) (filter (λ x. not (is_late_of n x.entry)) ms))) ≤ length (letter_for n m.mark ++ letters_for n ms)
      by true e ih =
          let sum : length (letter_for n m.mark ++ letters_for n ms) ≡ length (letter_for n m.mark) + length (letters_for n ms) = length-append (letter_for n m.mark) (letters_for n ms) in
          let one : length (letter_for n m.mark) ≡ 1 = late_marked s c n p m.entry m.mark (λ i. (h.0 i).marked) e in
          omega (arith, sum, one, ih)
      by false e ih =
          let sum : length (letter_for n m.mark ++ letters_for n ms) ≡ length (letter_for n m.mark) + length (letters_for n ms) = length-append (letter_for n m.mark) (letters_for n ms) in
          let timely_sum : length (letter_for n m.mark ++ letters_for n (filter (λ x. not (is_late_of n x.entry)) ms)) ≡ length (letter_for n m.mark) + in_time ms = length-append (letter_for n m.mark) (letters_for n (filter (λ x. not (is_late_of n x.entry)) ms)) in
          omega (arith, sum, timely_sum, ih)

  -- where none came too late, all came in time
  pub all_in_time : (ms : List Marked) → late ms ≡ 0 → taken ms ≡ in_time ms
  all_in_time [] h = refl
  all_in_time (m ∷ ms) h = by (is_late_of n m.entry) h (all_in_time ms)
    where
      by : (b : Bool) → length (cond b (m.entry ∷ filter (is_late_of n) (entries ms)) (filter (is_late_of n) (entries ms))) ≡ 0 → (late ms ≡ 0 → taken ms ≡ in_time ms) → length (letter_for n m.mark ++ letters_for n ms) ≡ length (letters_for n (cond (not b) (m ∷ filter (λ x. not (is_late_of n x.entry)) ms) (filter (λ x. not (is_late_of n x.entry)) ms)))
      by true e ih = absurd (let bad : suc (length (filter (is_late_of n) (entries ms))) ≡ 0 = e in cc)
      by false e ih = length-append (letter_for n m.mark) (letters_for n ms) ∙ ap (λ d. length (letter_for n m.mark) + d) (ih e) ∙ sym (length-append (letter_for n m.mark) (letters_for n (filter (λ x. not (is_late_of n x.entry)) ms)))
