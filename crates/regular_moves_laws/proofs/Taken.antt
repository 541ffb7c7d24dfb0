-- The letters that a regular connection took, with one more.
use Rattle.std.proofs.Common.{◌≡◌, ℕ, Bool, true, false, ◌==◌, ◌&&◌, ◌||◌, if◌then◌else◌, List, [], ◌∷◌, ◌++◌, refl, ap, ◌∙◌}
use Rattle.std.specs.List.{list_any}
use Rattle.lload_names.specs.declared.names.OpName.{OpName}
use Rattle.lload_names.specs.declared.names.OpKind.{OpKind}
use Rattle.lload_names.specs.declared.names.Letter.TheVariants as real
use Rattle.lload_names.specs.declared.names.PartName.TheVariants.{Client}
use Rattle.part_spec.specs.Fit.{is_forward_of, is_drop_of, is_pause, is_resume, is_taken_last}
use Rattle.part_spec.specs.Marked.{Taken}
use Rattle.move_laws.specs.World.{Conn, put, put2}
use Rattle.stands_laws.specs.Books.{name}
use Rattle.stands_laws.specs.Letters.{signal_of}
use Rattle.stands_laws.specs.RegularStands.{RegularTaken}
use Rattle.stands_laws.proofs.TakenLetters.{taken_any, taken_push}

-- a letter that isn't of these kinds
off : (t : Bool) (o : Bool) → (if t && (false || false) then false else o) ≡ o
off true o = refl
off false o = refl

-- A Forward.
abbrev pub forward_taken : ℕ → ℕ → OpKind → List ℕ → Bool → OpName → Taken
forward_taken c k kind rest ask holder = record { sender = Client c; letter = real.Forward (name c k) kind rest ask holder }

pub taken_forward : (c k : ℕ) (kind : OpKind) (rest : List ℕ) (ask : Bool) (holder : OpName) (xs : List Taken) (v : Conn) → RegularTaken xs v → RegularTaken (xs ++ forward_taken c k kind rest ask holder ∷ []) (record v { taken = put2 v.taken c k true })
taken_forward c k kind rest ask holder xs v h = record {
  forwards = λ i j. taken_any (is_forward_of (name i j)) xs (forward_taken c k kind rest ask holder) ∙ ap (λ (o : Bool). if (i == c) && (j == k) then true else o) (h.forwards i j);
  drops = λ i j e d. taken_push (is_forward_of (name i j)) (is_drop_of (name i j)) (Client i) xs (forward_taken c k kind rest ask holder) ∙ go i j (i == c) (j == k) e d;
  pauses = λ i. taken_push is_pause is_resume (Client i) xs (forward_taken c k kind rest ask holder) ∙ (off (i == c) (is_taken_last is_pause is_resume (Client i) xs) ∙ h.pauses i);
}
  where
    go : (i j : ℕ) (p q : Bool) → (if p && q then true else v.taken i j) ≡ true → v.dropped i j ≡ false → (if p && ((p && q) || false) then p && q else is_taken_last (is_forward_of (name i j)) (is_drop_of (name i j)) (Client i) xs) ≡ true
    go i j true true e d = refl
    go i j true false e d = h.drops i j e d
    go i j false q e d = h.drops i j e d

-- A Drop.
abbrev pub drop_taken : ℕ → ℕ → Taken
drop_taken c k = record { sender = Client c; letter = real.Drop (name c k) }

pub taken_drop : (c k : ℕ) (xs : List Taken) (v : Conn) → RegularTaken xs v → RegularTaken (xs ++ drop_taken c k ∷ []) (record v { dropped = put2 v.dropped c k true })
taken_drop c k xs v h = record {
  forwards = λ i j. taken_any (is_forward_of (name i j)) xs (drop_taken c k) ∙ h.forwards i j;
  drops = λ i j e d. taken_push (is_forward_of (name i j)) (is_drop_of (name i j)) (Client i) xs (drop_taken c k) ∙ go i j (i == c) (j == k) e d;
  pauses = λ i. taken_push is_pause is_resume (Client i) xs (drop_taken c k) ∙ (off (i == c) (is_taken_last is_pause is_resume (Client i) xs) ∙ h.pauses i);
}
  where
    go : (i j : ℕ) (p q : Bool) → v.taken i j ≡ true → (if p && q then true else v.dropped i j) ≡ false → (if p && (false || (p && q)) then false else is_taken_last (is_forward_of (name i j)) (is_drop_of (name i j)) (Client i) xs) ≡ true
    go i j true true e d = absurd (let bad : true ≡ false = d in cc)
    go i j true false e d = h.drops i j e d
    go i j false q e d = h.drops i j e d

-- A Pause or a Resume.
abbrev pub signal_taken : ℕ → Bool → Taken
signal_taken c pause = record { sender = Client c; letter = signal_of c pause }

pub taken_signal : (c : ℕ) (pause : Bool) (xs : List Taken) (v : Conn) → RegularTaken xs v → RegularTaken (xs ++ signal_taken c pause ∷ []) (record v { paused = put v.paused c pause })
taken_signal c pause xs v h = record {
  forwards = λ i j. taken_any (is_forward_of (name i j)) xs (signal_taken c pause) ∙ (ap (λ (t : Bool). if t then true else list_any (λ z. is_forward_of (name i j) z.letter) xs) (no_forward i j pause) ∙ h.forwards i j);
  drops = λ i j e d. taken_push (is_forward_of (name i j)) (is_drop_of (name i j)) (Client i) xs (signal_taken c pause) ∙ (no_drop i j pause (i == c) ∙ h.drops i j e d);
  pauses = λ i. taken_push is_pause is_resume (Client i) xs (signal_taken c pause) ∙ go i pause (i == c);
}
  where
    no_forward : (i j : ℕ) (t : Bool) → is_forward_of (name i j) (signal_of c t) ≡ false
    no_forward i j true = refl
    no_forward i j false = refl

    no_drop : (i j : ℕ) (t p : Bool) → (if p && (is_forward_of (name i j) (signal_of c t) || is_drop_of (name i j) (signal_of c t)) then is_forward_of (name i j) (signal_of c t) else is_taken_last (is_forward_of (name i j)) (is_drop_of (name i j)) (Client i) xs) ≡ is_taken_last (is_forward_of (name i j)) (is_drop_of (name i j)) (Client i) xs
    no_drop i j true true = refl
    no_drop i j true false = refl
    no_drop i j false true = refl
    no_drop i j false false = refl

    go : (i : ℕ) (t p : Bool) → (if p && (is_pause (signal_of c t) || is_resume (signal_of c t)) then is_pause (signal_of c t) else is_taken_last is_pause is_resume (Client i) xs) ≡ (if p then t else v.paused i)
    go i true true = refl
    go i true false = h.pauses i
    go i false true = refl
    go i false false = h.pauses i
