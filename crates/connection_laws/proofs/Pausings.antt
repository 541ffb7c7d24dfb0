-- The clients for which a connection pauses are those whose last letter of the two kinds was Pause.
use Rattle.std.proofs.Common.{◌≡◌, ℕ, Bool, true, false, ◌==◌, ◌&&◌, ◌||◌, not, List, [], ◌∷◌, ◌++◌, refl, ap, ◌∙◌, sym}
use Rattle.std.specs.Prelude.{Option, Some, None, filter, cond, nat_lt}
use Rattle.std.specs.List.{list_any}
use Rattle.std.proofs.lemmas.List.{append-nil}
use Rattle.std.proofs.lemmas.List.Elements.{filter-append}
use Rattle.lload_names.specs.declared.names.PartName.{PartName}
use Rattle.lload_names.specs.declared.names.PartName.TheVariants.{Desk, Client, Up as Connection}
use Rattle.lload_names.specs.declared.names.Letter.{Letter}
use Rattle.lload_names.specs.declared.names.Letter.TheVariants.{Pause, Resume}
use Rattle.lload_names.specs.declared.names.What.{What}
use Rattle.lload_names.specs.declared.names.What.TheVariants as what
use Rattle.lload_spec.specs.Lists.{passes, last, put_number}
use Rattle.lload_spec.specs.Journal.{same_part}
use Rattle.lload_spec.specs.Pauses.{waiting_behind}
use Rattle.part_spec.specs.Marked.{Taken}
use Rattle.part_spec.specs.Marks.{marks_connection, must_mark_connection}
use Rattle.part_spec.specs.ConnectionState.{ConnectionState}
use Rattle.part_spec.specs.Fit.{is_taken_last, is_pause, is_resume, with_mark}
use Rattle.part_laws.proofs.ListLaws.{last_push, same_number, eq_eqb}

-- whether a Pause or Resume is its client's own
abbrev pub is_sent_by : PartName → Letter → Bool
is_sent_by sender (Pause c) = same_part sender (Client c)
is_sent_by sender (Resume c) = same_part sender (Client c)
is_sent_by sender _ = true

abbrev pub comes_rightly : Option Taken → Bool
comes_rightly None = true
comes_rightly (Some t) = is_sent_by t.sender t.letter

twice : (a b : Bool) → (a || b) ≡ (a || (a || b))
twice true b = refl
twice false b = refl

swap : (a b c : Bool) → (a || (b || c)) ≡ (b || (a || c))
swap true true c = refl
swap true false c = refl
swap false true c = refl
swap false false c = refl

put_there : (c d : ℕ) (cs : List ℕ) → list_any (λ n. n == c) (put_number d cs) ≡ ((d == c) || list_any (λ n. n == c) cs)
put_there c d [] = refl
put_there c d (m ∷ cs) = by (d == m) (nat_lt d m) refl (put_there c d cs)
  where
    by : (a b : Bool) → (d == m) ≡ a → list_any (λ n. n == c) (put_number d cs) ≡ ((d == c) || list_any (λ n. n == c) cs) → list_any (λ n. n == c) (elim a [ true ↦ m ∷ cs | false ↦ elim b [ true ↦ d ∷ m ∷ cs | false ↦ m ∷ put_number d cs ] ]) ≡ ((d == c) || ((m == c) || list_any (λ n. n == c) cs))
    by true b e ih = twice (m == c) (list_any (λ n. n == c) cs) ∙ ap (λ x. (x == c) || ((m == c) || list_any (λ n. n == c) cs)) (sym (same_number d m e))
    by false true e ih = refl
    by false false e ih = ap (λ b. (m == c) || b) ih ∙ swap (m == c) (d == c) (list_any (λ n. n == c) cs)

taken_out : (c d : ℕ) (cs : List ℕ) → list_any (λ n. n == c) (filter (λ n. not (n == d)) cs) ≡ (not (d == c) && list_any (λ n. n == c) cs)
taken_out c d [] = none (d == c)
  where
    none : (b : Bool) → false ≡ (not b && false)
    none true = refl
    none false = refl
taken_out c d (m ∷ cs) = by (m == d) (m == c) (d == c) refl refl refl (taken_out c d cs)
  where
    by : (x y z : Bool) → (m == d) ≡ x → (m == c) ≡ y → (d == c) ≡ z → list_any (λ n. n == c) (filter (λ n. not (n == d)) cs) ≡ (not z && list_any (λ n. n == c) cs) → list_any (λ n. n == c) (cond (not x) (m ∷ filter (λ n. not (n == d)) cs) (filter (λ n. not (n == d)) cs)) ≡ (not z && (y || list_any (λ n. n == c) cs))
    by true true true e f g ih = ih
    by true true false e f g ih = absurd (let bad : false ≡ true = sym g ∙ eq_eqb d c (sym (same_number m d e) ∙ same_number m c f) in cc)
    by true false z e f g ih = ih
    by false true true e f g ih = absurd (let bad : false ≡ true = sym e ∙ eq_eqb m d (same_number m c f ∙ sym (same_number d c g)) in cc)
    by false true false e f g ih = ap (λ b. b || list_any (λ n. n == c) (filter (λ n. not (n == d)) cs)) f
    by false false z e f g ih = ap (λ b. b || list_any (λ n. n == c) (filter (λ n. not (n == d)) cs)) f ∙ ih

-- the last that passes, with one more
last_with : {A : Type 0} (q : A → Bool) (xs : List A) (x : A) → last (filter q (xs ++ x ∷ [])) ≡ cond (q x) (Some x) (last (filter q xs))
last_with q xs x = ap last (filter-append q xs (x ∷ [])) ∙ by (q x)
  where
    by : (b : Bool) → last (filter q xs ++ cond b (x ∷ []) []) ≡ cond b (Some x) (last (filter q xs))
    by true = last_push (filter q xs) x
    by false = ap last (append-nil (filter q xs))

abbrev is_of_two : ℕ → Taken → Bool
is_of_two c t = same_part (Client c) t.sender && (is_pause t.letter || is_resume t.letter)

taken_with : (c : ℕ) (taken : List Taken) (t : Taken) → is_taken_last is_pause is_resume (Client c) (taken ++ t ∷ []) ≡ cond (is_of_two c t) (is_pause t.letter) (is_taken_last is_pause is_resume (Client c) taken)
taken_with c taken t = ap (passes (λ x. is_pause x.letter)) (last_with (is_of_two c) taken t) ∙ by (is_of_two c t)
  where
    by : (b : Bool) → passes (λ x. is_pause x.letter) (cond b (Some t) (last (filter (is_of_two c) taken))) ≡ cond b (is_pause t.letter) (passes (λ x. is_pause x.letter) (last (filter (is_of_two c) taken)))
    by true = refl
    by false = refl

-- what is of one client
from_client : (sender : PartName) (c d : ℕ) → same_part sender (Client d) ≡ true → same_part (Client c) sender ≡ (d == c)
from_client (Client e) c d h = by (c == e) (d == c) refl refl
  where
    by : (x y : Bool) → (c == e) ≡ x → (d == c) ≡ y → x ≡ y
    by true true f g = refl
    by true false f g = absurd (let bad : false ≡ true = sym g ∙ eq_eqb d c (sym (same_number e d h) ∙ sym (same_number c e f)) in cc)
    by false true f g = absurd (let bad : false ≡ true = sym f ∙ eq_eqb c e (sym (same_number d c g) ∙ sym (same_number e d h)) in cc)
    by false false f g = refl
from_client Desk c d h = absurd (let bad : false ≡ true = h in cc)
from_client (Connection u) c d h = absurd (let bad : false ≡ true = h in cc)

-- which entry marks_connection p which letter
unmarked_pause : (p : ConnectionState) (w : What) (cs : List ℕ) → not (must_mark_connection p w) ≡ true → waiting_behind cs w ≡ cs
unmarked_pause p (what.Paused c) cs h = absurd (let bad : false ≡ true = h in cc)
unmarked_pause p (what.Resumed c) cs h = absurd (let bad : false ≡ true = h in cc)
unmarked_pause p _ cs h = refl

marks_pause : (p : ConnectionState) (w : What) (cs : List ℕ) (d : ℕ) → marks_connection p w (Pause d) ≡ true → waiting_behind cs w ≡ put_number d cs
marks_pause p (what.Paused c) cs d h = ap (λ n. put_number n cs) (same_number c d h)
marks_pause p _ cs d h = absurd (let bad : false ≡ true = h in cc)

marks_resume : (p : ConnectionState) (w : What) (cs : List ℕ) (d : ℕ) → marks_connection p w (Resume d) ≡ true → waiting_behind cs w ≡ filter (λ n. not (n == d)) cs
marks_resume p (what.Resumed c) cs d h = ap (λ k. filter (λ n. not (n == k)) cs) (same_number c d h)
marks_resume p _ cs d h = absurd (let bad : false ≡ true = h in cc)

marks_other : (p : ConnectionState) (w : What) (cs : List ℕ) (x : Letter) → is_pause x ≡ false → is_resume x ≡ false → marks_connection p w x ≡ true → waiting_behind cs w ≡ cs
marks_other p (what.Paused c) cs (Pause d) e f h = absurd (let bad : true ≡ false = e in cc)
marks_other p (what.Paused c) cs (Resume d) e f h = absurd (let bad : true ≡ false = f in cc)
marks_other p (what.Paused c) cs _ e f h = absurd (let bad : false ≡ true = h in cc)
marks_other p (what.Resumed c) cs (Pause d) e f h = absurd (let bad : true ≡ false = e in cc)
marks_other p (what.Resumed c) cs (Resume d) e f h = absurd (let bad : true ≡ false = f in cc)
marks_other p (what.Resumed c) cs _ e f h = absurd (let bad : false ≡ true = h in cc)
marks_other p _ cs x e f h = refl

and_both : (b : Bool) → (b && true) ≡ b
and_both true = refl
and_both false = refl

and_neither : (b : Bool) → (b && false) ≡ false
and_neither true = refl
and_neither false = refl

paused_by : (a b : Bool) → (a || b) ≡ cond a true b
paused_by true b = refl
paused_by false b = refl

resumed_by : (a b : Bool) → (not a && b) ≡ cond a false b
resumed_by true b = refl
resumed_by false b = refl

-- behind an entry with its mark
pub pauses_more : (p : ConnectionState) (c : ℕ) (cs : List ℕ) (taken : List Taken) (w : What) (mark : Option Taken) → (elim mark [ None ↦ not (must_mark_connection p w) | Some t ↦ marks_connection p w t.letter ]) ≡ true → comes_rightly mark ≡ true → list_any (λ n. n == c) cs ≡ is_taken_last is_pause is_resume (Client c) taken → list_any (λ n. n == c) (waiting_behind cs w) ≡ is_taken_last is_pause is_resume (Client c) (with_mark mark taken)
pauses_more p c cs taken w None fit right h = ap (list_any (λ n. n == c)) (unmarked_pause p w cs fit) ∙ h
pauses_more p c cs taken w (Some t) fit right h = by t.sender t.letter fit right
  where
    other : (sender : PartName) (x : Letter) → is_pause x ≡ false → is_resume x ≡ false → marks_connection p w x ≡ true → list_any (λ n. n == c) (waiting_behind cs w) ≡ is_taken_last is_pause is_resume (Client c) (taken ++ record { sender = sender; letter = x } ∷ [])
    other sender x e f k = ap (list_any (λ n. n == c)) (marks_other p w cs x e f k) ∙ h ∙ sym (taken_with c taken (record { sender = sender; letter = x }) ∙ ap (λ b. cond b (is_pause x) (is_taken_last is_pause is_resume (Client c) taken)) (ap (λ b. same_part (Client c) sender && (b || is_resume x)) e ∙ ap (λ b. same_part (Client c) sender && b) f ∙ and_neither (same_part (Client c) sender)))

    by : (sender : PartName) (x : Letter) → marks_connection p w x ≡ true → is_sent_by sender x ≡ true → list_any (λ n. n == c) (waiting_behind cs w) ≡ is_taken_last is_pause is_resume (Client c) (taken ++ record { sender = sender; letter = x } ∷ [])
    by sender (Pause d) k j = ap (list_any (λ n. n == c)) (marks_pause p w cs d k) ∙ put_there c d cs ∙ paused_by (d == c) (list_any (λ n. n == c) cs) ∙ ap (cond (d == c) true) h ∙ sym (taken_with c taken (record { sender = sender; letter = Pause d }) ∙ ap (λ b. cond b true (is_taken_last is_pause is_resume (Client c) taken)) (and_both (same_part (Client c) sender) ∙ from_client sender c d j))
    by sender (Resume d) k j = ap (list_any (λ n. n == c)) (marks_resume p w cs d k) ∙ taken_out c d cs ∙ resumed_by (d == c) (list_any (λ n. n == c) cs) ∙ ap (cond (d == c) false) h ∙ sym (taken_with c taken (record { sender = sender; letter = Resume d }) ∙ ap (λ b. cond b false (is_taken_last is_pause is_resume (Client c) taken)) (and_both (same_part (Client c) sender) ∙ from_client sender c d j))
    by sender _ k j = other sender _ refl refl k

-- the sender of such a letter
pub client_is : (sender : PartName) (c : ℕ) → same_part sender (Client c) ≡ true → sender ≡ Client c
client_is (Client e) c h = ap Client (same_number e c h)
client_is Desk c h = absurd (let bad : false ≡ true = h in cc)
client_is (Connection u) c h = absurd (let bad : false ≡ true = h in cc)
