-- The count of a name in the list of names whose read failed, which a read keeps or lengthens by its name.
use Rattle.std.proofs.Common.{◌≡◌, ◌≢◌, ℕ, ◌+◌, ◌≤◌, ◌⊎◌, inl, inr, Bool, true, false, cond, List, [], ◌∷◌, ◌++◌, refl, sym, ap, ◌∙◌, arith}
use Rattle.std.specs.Str.{bytes_eq}
use Rattle.std.proofs.lemmas.List.Sums.{sum_by_push}
use Rattle.std.proofs.lemmas.Slice.Eq.{bytes_eq-Decides}
use Rattle.lload_outside.specs.Held.{times_failed}
use Rattle.lload_outside.specs.declared.files.FileRead.{FileRead}
use Rattle.lload_outside.specs.declared.files.FileRead.TheVariants.{Whole, TooLong, Failed, NoMemory}

times_failed_push : (failed : List (List ℕ)) (name other : List ℕ) (same : Bool) → bytes_eq name other ≡ same → times_failed (failed ++ name ∷ []) other ≡ times_failed failed other + cond same 1 0
times_failed_push failed name other same is = sum_by_push (λ known. cond (bytes_eq known other) 1 0) failed name ∙ ap (λ b. times_failed failed other + cond b 1 0) is

-- the name itself is counted once more
pub times_failed_same : (failed : List (List ℕ)) (name : List ℕ) → times_failed (failed ++ name ∷ []) name ≡ times_failed failed name + 1
times_failed_same failed name = times_failed_push failed name name true ((bytes_eq-Decides name name).1 refl)

unlike : (name other : List ℕ) (same : Bool) → bytes_eq name other ≡ same → other ≢ name → same ≡ false
unlike name other true is different = absurd (different (sym ((bytes_eq-Decides name other).0 is)))
unlike name other false is different = refl

times_failed_other : (failed : List (List ℕ)) (name other : List ℕ) → other ≢ name → times_failed (failed ++ name ∷ []) other ≡ times_failed failed other
times_failed_other failed name other different =
    let push = times_failed_push failed name other false (unlike name other (bytes_eq name other) refl different) in omega (arith, push)

-- a read keeps the list, or lengthens it by its name
pub kept_or_listed : (result : FileRead) (failed now : List (List ℕ)) (name : List ℕ) → (result ≡ Failed → now ≡ failed ++ name ∷ []) → (result ≢ Failed → now ≡ failed) → (now ≡ failed) ⊎ (now ≡ failed ++ name ∷ [])
kept_or_listed (Whole body) failed now name listed kept = inl (kept (λ e. cc))
kept_or_listed TooLong failed now name listed kept = inl (kept (λ e. cc))
kept_or_listed Failed failed now name listed kept = inr (listed refl)
kept_or_listed NoMemory failed now name listed kept = inl (kept (λ e. cc))

-- so no count falls
pub times_failed_never_falls : (failed now : List (List ℕ)) (name : List ℕ) → (now ≡ failed) ⊎ (now ≡ failed ++ name ∷ []) → times_failed failed name ≤ times_failed now name
times_failed_never_falls failed now name (inl same) = rw same (omega arith)
times_failed_never_falls failed now name (inr more) = rw more (omega (arith, times_failed_same failed name))

-- and that of another name stays
pub times_failed_stays : (failed now : List (List ℕ)) (name other : List ℕ) → (now ≡ failed) ⊎ (now ≡ failed ++ name ∷ []) → other ≢ name → times_failed now other ≡ times_failed failed other
times_failed_stays failed now name other (inl same) different = rw same refl
times_failed_stays failed now name other (inr more) different = rw more (times_failed_other failed name other different)
