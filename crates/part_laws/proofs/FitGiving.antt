-- What the lists of turns give where each letter was fit: what stands behind each turn may be used.
use Rattle.std.proofs.Common.{◌≡◌, Bool, true, false, not, List, [], ◌∷◌, ◌++◌, refl, ap, ◌∙◌, sym, subst}
use Rattle.std.specs.Prelude.{Option}
use Rattle.lload_names.specs.declared.names.Entry.{Entry}
use Rattle.lload_names.specs.declared.names.Letter.{Letter}
use Rattle.lload_names.specs.declared.names.PartName.{PartName}
use Rattle.lload_names.specs.declared.names.Posted.{Posted}
use Rattle.lload_names.specs.declared.inputs.Effects.{Effects}
use Rattle.part_spec.specs.Marked.{Marked, Taken}
use Rattle.part_spec.specs.Inputs.{marked_by}
use Rattle.part_spec.specs.Gives.{gives_from}
use Rattle.part_spec.specs.Fit.{is_unfit, are_fit_from, ledger_behind as behind}
use Rattle.lload_spec.proofs.Growth.{left, right}
use Rattle.part_laws.specs.Turns.{Event, letter_with, made, list_from, letters_given}
use Rattle.part_laws.proofs.ListLaws.{not_true}
use Rattle.part_laws.proofs.Giving.{gives_more}
use Rattle.part_laws.proofs.Induction.{sees_behind}

-- where each letter of a longer list was fit, so was each behind its beginning
pub fit_behind : {A : Type 0} (fits : A → PartName → Letter → Bool) (grow : A → Marked → A) (l : A) (L M : List Marked) → are_fit_from fits grow l (L ++ M) ≡ true → are_fit_from fits grow (behind grow l L) M ≡ true
fit_behind fits grow l [] M h = h
fit_behind fits grow l (m ∷ L) M h = fit_behind fits grow (grow l m) L M (right (not (is_unfit fits l m.mark)) _ h)

module _ {A S : Type 0} (fits : A → PartName → Letter → Bool) (grow : A → Marked → A) (step : S → Marked → S) (see : A → S) (sees : (l : A) (m : Marked) → see (grow l m) ≡ step (see l) m) (letters : S → Marked → List Posted) (turn : S → Event → Effects) (P : List Marked → A → Type 0) where
  -- one turn, which gives nothing where it has no entries
  one_turn : (mark : Option Taken) (es : List Entry) (given : List Posted) (xs : List Event) (before : List Marked) (l : A) → (es ≡ [] → given ≡ []) → (is_unfit fits l mark ≡ false → P (before ++ marked_by mark es) (behind grow l (marked_by mark es))) → (is_unfit fits l mark ≡ false → gives_from step letters (see l) (marked_by mark es) ≡ given) → P before l → are_fit_from fits grow l (marked_by mark es ++ list_from step turn (behind step (see l) (marked_by mark es)) xs) ≡ true → ((b : List Marked) (k : A) → P b k → are_fit_from fits grow k (list_from step turn (see k) xs) ≡ true → gives_from step letters (see k) (list_from step turn (see k) xs) ≡ letters_given step turn (see k) xs) → gives_from step letters (see l) (marked_by mark es ++ list_from step turn (behind step (see l) (marked_by mark es)) xs) ≡ given ++ letters_given step turn (behind step (see l) (marked_by mark es)) xs
  one_turn mark [] given xs before l silent go gives h fit ih = ih before l h fit ∙ ap (λ g. g ++ letters_given step turn (see l) xs) (sym (silent refl))
  one_turn mark (e ∷ es) given xs before l silent go gives h fit ih =
      let whole : List Marked = marked_by mark (e ∷ es) in
      let u : is_unfit fits l mark ≡ false = not_true (is_unfit fits l mark) (left (not (is_unfit fits l mark)) _ fit) in
      let seen : see (behind grow l whole) ≡ behind step (see l) whole = sees_behind fits grow step see sees l whole in
      let rest_fit : are_fit_from fits grow (behind grow l whole) (list_from step turn (see (behind grow l whole)) xs) ≡ true = subst (λ q. are_fit_from fits grow (behind grow l whole) (list_from step turn q xs) ≡ true) (sym seen) (fit_behind fits grow l whole (list_from step turn (behind step (see l) whole) xs) fit) in
      let rest : gives_from step letters (behind step (see l) whole) (list_from step turn (behind step (see l) whole) xs) ≡ letters_given step turn (behind step (see l) whole) xs = subst (λ q. gives_from step letters q (list_from step turn q xs) ≡ letters_given step turn q xs) seen (ih (before ++ whole) (behind grow l whole) (go u) rest_fit) in
      gives_more step letters (see l) whole (list_from step turn (behind step (see l) whole) xs) ∙ ap (λ g. g ++ gives_from step letters (behind step (see l) whole) (list_from step turn (behind step (see l) whole) xs)) (gives u) ∙ ap (λ g. given ++ g) rest

  module _ (silent : (before : List Marked) (l : A) (x : Event) → P before l → (turn (see l) x).entries ≡ [] → (turn (see l) x).letters ≡ []) (keeps : (before : List Marked) (l : A) (x : Event) → P before l → is_unfit fits l (letter_with x) ≡ false → P (before ++ made turn (see l) x) (behind grow l (made turn (see l) x))) (gives : (before : List Marked) (l : A) (x : Event) → P before l → is_unfit fits l (letter_with x) ≡ false → gives_from step letters (see l) (made turn (see l) x) ≡ (turn (see l) x).letters) where
    pub fit_turns_give : (xs : List Event) (before : List Marked) (l : A) → P before l → are_fit_from fits grow l (list_from step turn (see l) xs) ≡ true → gives_from step letters (see l) (list_from step turn (see l) xs) ≡ letters_given step turn (see l) xs
    fit_turns_give [] before l h fit = refl
    fit_turns_give (x ∷ xs) before l h fit = one_turn (letter_with x) (turn (see l) x).entries (turn (see l) x).letters xs before l (silent before l x h) (λ u. keeps before l x h u) (λ u. gives before l x h u) h fit (λ b k j f. fit_turns_give xs b k j f)
