-- The letters that a connection took, with one more.
use Rattle.std.proofs.Common.{◌≡◌, Bool, true, false, ◌&&◌, ◌||◌, if◌then◌else◌, List, [], ◌∷◌, ◌++◌, refl, ap, ◌∙◌, append-nil}
use Rattle.std.specs.Prelude.{filter}
use Rattle.std.specs.List.{list_any}
use Rattle.std.proofs.lemmas.List.Elements.{filter-append}
use Rattle.std.proofs.lemmas.List.Folds.{list_any-append}
use Rattle.std.proofs.Math.Bool.{or-false}
use Rattle.lload_names.specs.declared.names.Letter.{Letter}
use Rattle.lload_names.specs.declared.names.PartName.{PartName}
use Rattle.lload_spec.specs.Lists.{last, passes}
use Rattle.lload_spec.specs.Journal.{same_part}
use Rattle.part_spec.specs.Fit.{is_taken_last}
use Rattle.part_spec.specs.Marked.{Taken}
use Rattle.part_laws.proofs.ListLaws.{last_push}

pub taken_push : (first second : Letter → Bool) (sender : PartName) (xs : List Taken) (t : Taken)
    → is_taken_last first second sender (xs ++ t ∷ []) ≡ (if same_part sender t.sender && (first t.letter || second t.letter) then first t.letter else is_taken_last first second sender xs)
taken_push first second sender xs t =
    ap (λ (ts : List Taken). passes (λ (z : Taken). first z.letter) (last ts)) (filter-append test xs (t ∷ [])) ∙ go (test t)
  where
    test : Taken → Bool
    test z = same_part sender z.sender && (first z.letter || second z.letter)

    go : (b : Bool) → passes (λ (z : Taken). first z.letter) (last (filter test xs ++ (if b then t ∷ [] else []))) ≡ (if b then first t.letter else is_taken_last first second sender xs)
    go true = ap (passes (λ (z : Taken). first z.letter)) (last_push (filter test xs) t)
    go false = ap (λ (ts : List Taken). passes (λ (z : Taken). first z.letter) (last ts)) (append-nil (filter test xs))

pub taken_any : (t : Letter → Bool) (xs : List Taken) (x : Taken) → list_any (λ z. t z.letter) (xs ++ x ∷ []) ≡ (if t x.letter then true else list_any (λ z. t z.letter) xs)
taken_any t xs x = list_any-append (λ z. t z.letter) xs (x ∷ []) ∙ (ap (λ q. list_any (λ z. t z.letter) xs || q) (or-false (t x.letter)) ∙ go (t x.letter) (list_any (λ z. t z.letter) xs))
  where
    go : (q o : Bool) → (o || q) ≡ (if q then true else o)
    go true true = refl
    go true false = refl
    go false true = refl
    go false false = refl
