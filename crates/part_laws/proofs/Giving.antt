-- What the lists of turns give: where the entries of each turn give the letters of the turn, the list gives those of all
-- turns. What each entry keeps of the state may be used.
use Rattle.std.proofs.Common.{◌≡◌, List, [], ◌∷◌, ◌++◌, refl, ap, ◌∙◌, sym, append_assoc}
use Rattle.lload_names.specs.declared.inputs.Effects.{Effects}
use Rattle.lload_names.specs.declared.names.Posted.{Posted}
use Rattle.part_spec.specs.Marked.{Marked}
use Rattle.part_spec.specs.Gives.{gives_from}
use Rattle.part_spec.specs.Fit.{ledger_behind as behind}
use Rattle.part_laws.specs.Turns.{Event, made, list_from, letters_given}

module _ {S : Type 0} (step : S → Marked → S) (letters : S → Marked → List Posted) where
  -- what a longer list gives
  pub gives_more : (p : S) (L M : List Marked) → gives_from step letters p (L ++ M) ≡ gives_from step letters p L ++ gives_from step letters (behind step p L) M
  gives_more p [] M = refl
  gives_more p (m ∷ L) M = ap (λ l. letters p m ++ l) (gives_more (step p m) L M) ∙ sym (append_assoc (letters p m) (gives_from step letters (step p m) L) (gives_from step letters (behind step (step p m) L) M))

  module _ (I : S → Type 0) (kept : (p : S) (m : Marked) → I p → I (step p m)) where
    -- what each entry keeps stays through a list
    pub kept_through : (p : S) (ms : List Marked) → I p → I (behind step p ms)
    kept_through p [] h = h
    kept_through p (m ∷ ms) h = kept_through (step p m) ms (kept p m h)

    module _ (turn : S → Event → Effects) (each : (p : S) (x : Event) → I p → gives_from step letters p (made turn p x) ≡ (turn p x).letters) where
      pub turns_give : (xs : List Event) (p : S) → I p → gives_from step letters p (list_from step turn p xs) ≡ letters_given step turn p xs
      turns_give [] p h = refl
      turns_give (x ∷ xs) p h = gives_more p (made turn p x) (list_from step turn (behind step p (made turn p x)) xs) ∙ ap (λ l. l ++ gives_from step letters (behind step p (made turn p x)) (list_from step turn (behind step p (made turn p x)) xs)) (each p x h) ∙ ap (λ l. (turn p x).letters ++ l) (turns_give xs (behind step p (made turn p x)) (kept_through p (made turn p x) h))
