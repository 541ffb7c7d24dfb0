-- The induction over turns, for a part of any kind: what holds of nothing, and behind each turn that took a fit letter
-- where it held before the turn, holds of the list up to the first letter that isn't fit.
use Rattle.std.proofs.Common.{◌≡◌, Bool, true, false, List, [], ◌∷◌, ◌++◌, refl, ap, ◌∙◌, sym, subst, append_assoc}
use Rattle.std.specs.Prelude.{Option, None, map}
use Rattle.std.proofs.lemmas.List.{append-nil}
use Rattle.lload_names.specs.declared.names.Entry.{Entry}
use Rattle.lload_names.specs.declared.names.Letter.{Letter}
use Rattle.lload_names.specs.declared.names.PartName.{PartName}
use Rattle.part_spec.specs.Marked.{Marked, Taken}
use Rattle.lload_names.specs.declared.inputs.Effects.{Effects}
use Rattle.part_spec.specs.Inputs.{marked_by}
use Rattle.part_spec.specs.Fit.{is_unfit, fit_from, ledger_behind as behind}
use Rattle.part_laws.specs.Turns.{Event, letter_with, made, list_from}

module _ {A S : Type 0} (fits : A → PartName → Letter → Bool) (grow : A → Marked → A) (step : S → Marked → S) (see : A → S) (sees : (l : A) (m : Marked) → see (grow l m) ≡ step (see l) m) where
  -- what the ledger sees behind some entries
  pub sees_behind : (l : A) (ms : List Marked) → see (behind grow l ms) ≡ behind step (see l) ms
  sees_behind l [] = refl
  sees_behind l (m ∷ ms) = sees_behind (grow l m) ms ∙ ap (λ p. behind step p ms) (sees l m)

  -- entries without a mark are no end of a fit beginning
  unmarked : List Entry → List Marked
  unmarked es = map (λ e. record { entry = e; mark = None }) es

  fit_unmarked : (l : A) (es : List Entry) (rest : List Marked) → fit_from fits grow l (map (λ e. record { entry = e; mark = None }) es ++ rest) ≡ map (λ e. record { entry = e; mark = None }) es ++ fit_from fits grow (behind grow l (map (λ e. record { entry = e; mark = None }) es)) rest
  fit_unmarked l [] rest = refl
  fit_unmarked l (e ∷ es) rest = ap (λ r. record { entry = e; mark = None } ∷ r) (fit_unmarked (grow l (record { entry = e; mark = None })) es rest)

  module _ (turn : S → Event → Effects) (P : List Marked → A → Type 0) (Q : List Marked → Type 0) (end : (before : List Marked) (l : A) → P before l → Q before) where
    -- one turn
    one_turn : (mark : Option Taken) (es : List Entry) (b : Bool) (xs : List Event) (before : List Marked) (l : A) → is_unfit fits l mark ≡ b → P before l → (is_unfit fits l mark ≡ false → P (before ++ marked_by mark es) (behind grow l (marked_by mark es))) → ((before : List Marked) (l : A) → P before l → Q (before ++ fit_from fits grow l (list_from step turn (see l) xs))) → Q (before ++ fit_from fits grow l (marked_by mark es ++ list_from step turn (behind step (see l) (marked_by mark es)) xs))
    one_turn mark [] b xs before l u p go ih = ih before l p
    one_turn mark (e ∷ es) true xs before l u p go ih =
        let cut : fit_from fits grow l (marked_by mark (e ∷ es) ++ list_from step turn (behind step (see l) (marked_by mark (e ∷ es))) xs) ≡ [] = ap (λ b. elim b [ true ↦ [] | false ↦ record { entry = e; mark = mark } ∷ fit_from fits grow (grow l (record { entry = e; mark = mark })) (map (λ x. record { entry = x; mark = None }) es ++ list_from step turn (behind step (see l) (marked_by mark (e ∷ es))) xs) ]) u in
        subst Q (sym (append-nil before) ∙ ap (λ r. before ++ r) (sym cut)) (end before l p)
    one_turn mark (e ∷ es) false xs before l u p go ih =
        let whole : List Marked = marked_by mark (e ∷ es) in
        let first : Marked = record { entry = e; mark = mark } in
        let kept : fit_from fits grow l (whole ++ list_from step turn (behind step (see l) whole) xs) ≡ whole ++ fit_from fits grow (behind grow l whole) (list_from step turn (behind step (see l) whole) xs) = ap (λ b. elim b [ true ↦ [] | false ↦ first ∷ fit_from fits grow (grow l first) (map (λ x. record { entry = x; mark = None }) es ++ list_from step turn (behind step (see l) whole) xs) ]) u ∙ ap (λ r. first ∷ r) (fit_unmarked (grow l first) es (list_from step turn (behind step (see l) whole) xs)) in
        let seen : list_from step turn (behind step (see l) whole) xs ≡ list_from step turn (see (behind grow l whole)) xs = ap (λ q. list_from step turn q xs) (sym (sees_behind l whole)) in
        let same : before ++ fit_from fits grow l (whole ++ list_from step turn (behind step (see l) whole) xs) ≡ (before ++ whole) ++ fit_from fits grow (behind grow l whole) (list_from step turn (see (behind grow l whole)) xs) = ap (λ r. before ++ r) (kept ∙ ap (λ r. whole ++ fit_from fits grow (behind grow l whole) r) seen) ∙ sym (append_assoc before whole (fit_from fits grow (behind grow l whole) (list_from step turn (see (behind grow l whole)) xs))) in
        subst Q (sym same) (ih (before ++ whole) (behind grow l whole) (go u))

    module _ (keeps : (before : List Marked) (l : A) (x : Event) → P before l → is_unfit fits l (letter_with x) ≡ false → P (before ++ made turn (see l) x) (behind grow l (made turn (see l) x))) where
      pub through : (xs : List Event) (before : List Marked) (l : A) → P before l → Q (before ++ fit_from fits grow l (list_from step turn (see l) xs))
      through [] before l p = subst Q (sym (append-nil before)) (end before l p)
      through (x ∷ xs) before l p = one_turn (letter_with x) (turn (see l) x).entries (is_unfit fits l (letter_with x)) xs before l refl p (λ u. keeps before l x p u) (λ b k h. through xs b k h)
