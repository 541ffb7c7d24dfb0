-- Pauses and their ends among letters: whether the last one says to pause, how often a pause begins, and how often one ends.
use Rattle.std.proofs.Common.{◌≡◌, ℕ, ◌+◌, Bool, true, false, ◌==◌, ◌&&◌, ◌||◌, not, List, [], ◌∷◌, ◌++◌, refl, ap, ◌∙◌, sym, arith}
use Rattle.std.specs.List.{list_any, list_all}
use Rattle.lload_names.specs.declared.names.Letter.{Letter}
use Rattle.lload_names.specs.declared.names.Letter.TheVariants.{Pause, Resume}
use Rattle.lload_names.specs.declared.names.PartName.TheVariants.{Up as Connection}
use Rattle.lload_spec.specs.Journal.{same_part}
use Rattle.lload_spec.specs.Owed.{count_of}
use Rattle.lload_spec.specs.Pauses.{pause_letters, resume_letters}
use Rattle.lload_spec.proofs.Growth.{left, right}
use Rattle.part_laws.proofs.ListLaws.{eqb_sym}
use Rattle.part_spec.specs.Marked.{letters_to}

-- whether a connection pauses behind a letter
abbrev pub after : Letter → Bool → Bool
after (Pause c) b = true
after (Resume c) b = false
after _ b = b

-- and behind these
abbrev pub told : Bool → List Letter → Bool
told b [] = b
told b (x ∷ xs) = told (after x b) xs

-- how often a pause begins among them, and ends
abbrev pub begun_in : Bool → List Letter → ℕ
begun_in b [] = 0
begun_in b (x ∷ xs) = count_of (not b && after x b) + begun_in (after x b) xs

abbrev pub ended_in : Bool → List Letter → ℕ
ended_in b [] = 0
ended_in b (x ∷ xs) = count_of (b && not (after x b)) + ended_in (after x b) xs

pub told_both : (b : Bool) (xs ys : List Letter) → told b (xs ++ ys) ≡ told (told b xs) ys
told_both b [] ys = refl
told_both b (x ∷ xs) ys = told_both (after x b) xs ys

pub begun_both : (b : Bool) (xs ys : List Letter) → begun_in b (xs ++ ys) ≡ begun_in b xs + begun_in (told b xs) ys
begun_both b [] ys = omega arith
begun_both b (x ∷ xs) ys = let rest = begun_both (after x b) xs ys in omega (arith, rest)

pub ended_both : (b : Bool) (xs ys : List Letter) → ended_in b (xs ++ ys) ≡ ended_in b xs + ended_in (told b xs) ys
ended_both b [] ys = omega arith
ended_both b (x ∷ xs) ys = let rest = ended_both (after x b) xs ys in omega (arith, rest)

-- letters that lead from pausing so to pausing so, with no change but that one
pub record Leads (b d : Bool) (xs : List Letter) : Type 0 where
  pub last : told b xs ≡ d
  pub begun : begun_in b xs ≡ count_of (not b && d)
  pub ended : ended_in b xs ≡ count_of (b && not d)

-- no change is none
pub none_begun : (b : Bool) → count_of (not b && b) ≡ 0
none_begun true = refl
none_begun false = refl

pub none_ended : (b : Bool) → count_of (b && not b) ≡ 0
none_ended true = refl
none_ended false = refl

pub leads_nowhere : (b : Bool) → Leads b b []
leads_nowhere b = record { last = refl; begun = sym (none_begun b); ended = sym (none_ended b) }

-- Letters of other sorts.

abbrev pub is_quiet : Letter → Bool
is_quiet (Pause c) = false
is_quiet (Resume c) = false
is_quiet _ = true

pub quiet_after : (x : Letter) (b : Bool) → is_quiet x ≡ true → after x b ≡ b
quiet_after (Pause c) b h = absurd (let bad : false ≡ true = h in cc)
quiet_after (Resume c) b h = absurd (let bad : false ≡ true = h in cc)
quiet_after _ b h = refl

-- they change nothing
pub quiet_before : (b d : Bool) (xs ys : List Letter) → list_all is_quiet xs ≡ true → Leads b d ys → Leads b d (xs ++ ys)
quiet_before b d [] ys h t = t
quiet_before b d (x ∷ xs) ys h t =
    let same : after x b ≡ b = quiet_after x b (left (is_quiet x) _ h) in
    let rest : Leads b d (xs ++ ys) = quiet_before b d xs ys (right (is_quiet x) _ h) t in
    record {
      last = ap (λ a. told a (xs ++ ys)) same ∙ rest.last;
      begun = ap (λ a. count_of (not b && a) + begun_in a (xs ++ ys)) same ∙ (let none = none_begun b in let more = rest.begun in omega (arith, none, more));
      ended = ap (λ a. count_of (b && not a) + ended_in a (xs ++ ys)) same ∙ (let none = none_ended b in let more = rest.ended in omega (arith, none, more));
    }

-- Pauses of these connections, as this one finds them, and their ends.
module _ (c u : ℕ) where
  abbrev among : List ℕ → Bool
  among us = list_any (λ n. n == u) us

  abbrev pause_to : ℕ → List Letter
  pause_to v = elim (same_part (Connection u) (Connection v)) [ true ↦ Pause c ∷ [] | false ↦ [] ]

  or_true : (b : Bool) → (b || true) ≡ true
  or_true true = refl
  or_true false = refl

  and_false : (b : Bool) → (not b && false) ≡ false
  and_false true = refl
  and_false false = refl

  -- one that begins here
  paused_here : (b d : Bool) (xs : List Letter) → d ≡ true → Leads true d xs → Leads b true (Pause c ∷ xs)
  paused_here b true xs e h = by b h
    where
      by : (a : Bool) → Leads true true xs → Leads a true (Pause c ∷ xs)
      by true k = record { last = k.last; begun = (let more = k.begun in omega (arith, more)); ended = (let more = k.ended in omega (arith, more)) }
      by false k = record { last = k.last; begun = (let more = k.begun in omega (arith, more)); ended = (let more = k.ended in omega (arith, more)) }
  paused_here b false xs e h = absurd (let bad : false ≡ true = e in cc)

  -- and one that ends here
  resumed_here : (b d : Bool) (xs : List Letter) → d ≡ false → Leads false d xs → Leads b false (Resume c ∷ xs)
  resumed_here b false xs e h = by b h
    where
      by : (a : Bool) → Leads false false xs → Leads a false (Resume c ∷ xs)
      by true k = record { last = k.last; begun = (let more = k.begun in omega (arith, more)); ended = (let more = k.ended in omega (arith, more)) }
      by false k = record { last = k.last; begun = (let more = k.begun in omega (arith, more)); ended = (let more = k.ended in omega (arith, more)) }
  resumed_here b true xs e h = absurd (let bad : true ≡ false = e in cc)

  pub leads_to_pause : (us : List ℕ) (b : Bool) → Leads b (list_any (λ n. n == u) us || b) (letters_to (Connection u) (pause_letters c us))
  leads_to_pause [] b = leads_nowhere b
  leads_to_pause (v ∷ us) b = by (u == v) (v == u) (eqb_sym u v) (leads_to_pause us)
    where
      rest : List Letter
      rest = letters_to (Connection u) (pause_letters c us)

      by : (x y : Bool) → x ≡ y → ((a : Bool) → Leads a (list_any (λ n. n == u) us || a) (letters_to (Connection u) (pause_letters c us))) → Leads b ((y || list_any (λ n. n == u) us) || b) ((elim x [ true ↦ Pause c ∷ [] | false ↦ [] ]) ++ letters_to (Connection u) (pause_letters c us))
      by true true e ih = paused_here b (among us || true) rest (or_true (among us)) (ih true)
      by false false e ih = ih b
      by true false e ih = absurd (let bad : true ≡ false = e in cc)
      by false true e ih = absurd (let bad : false ≡ true = e in cc)

  pub leads_to_resume : (us : List ℕ) (b : Bool) → Leads b (not (list_any (λ n. n == u) us) && b) (letters_to (Connection u) (resume_letters c us))
  leads_to_resume [] b = leads_nowhere b
  leads_to_resume (v ∷ us) b = by (u == v) (v == u) (eqb_sym u v) (leads_to_resume us)
    where
      rest : List Letter
      rest = letters_to (Connection u) (resume_letters c us)

      by : (x y : Bool) → x ≡ y → ((a : Bool) → Leads a (not (list_any (λ n. n == u) us) && a) (letters_to (Connection u) (resume_letters c us))) → Leads b (not (y || list_any (λ n. n == u) us) && b) ((elim x [ true ↦ Resume c ∷ [] | false ↦ [] ]) ++ letters_to (Connection u) (resume_letters c us))
      by true true e ih = resumed_here b (not (among us) && false) rest (and_false (among us)) (ih false)
      by false false e ih = ih b
      by true false e ih = absurd (let bad : true ≡ false = e in cc)
      by false true e ih = absurd (let bad : false ≡ true = e in cc)
