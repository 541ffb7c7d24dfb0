-- How many letters are told for an operation from an entry on.
use Rattle.std.proofs.Common.{◌≡◌, ℕ, suc, ◌≤◌, Bool, true, false, ◌==◌, ◌&&◌, ◌||◌, not, if◌then◌else◌, List, [], ◌∷◌, arith, refl, ap, ◌∙◌}
use Rattle.std.specs.Prelude.{Option, Some, None, is_none, is_some}
use Rattle.std.specs.List.{list_any}
use Rattle.ldap_spec.specs.Responses.{result_code}
use Rattle.lload_names.specs.declared.names.EndWhy.TheVariants.{Bad as BadEnd}
use Rattle.lload_names.specs.declared.names.Entry.{Entry}
use Rattle.lload_names.specs.declared.names.OpKind.TheVariants.{Bind}
use Rattle.lload_names.specs.declared.names.What.{What}
use Rattle.lload_names.specs.declared.names.What.TheVariants as what
use Rattle.lload_spec.specs.Answers.{Sending, answer_of, asks_who, gives_id, is_kept_back, who_answer}
use Rattle.lload_spec.specs.Entries.{down_why, given_id, is_down_by, is_expired, own_message, same_why}
use Rattle.lload_spec.specs.Lists.{first_passes, passes}
use Rattle.lload_spec.specs.Operations.{Operation, is_final_for, is_of}
use Rattle.lload_spec.specs.Owed.{count_of, drops, loses, told_at_final, told_by}
use Rattle.lload_spec.specs.Settings.{Settings}
use Rattle.part_laws.proofs.ListLaws.{or_right}

-- an entry that is no own message drops nothing
pub drops_none : (o : Operation) (x : Sending) (e : Entry) → own_message e.what ≡ None → drops o x e ≡ false
drops_none o x e h = by (is_of Bind o) (ap (passes _) h)
  where
    by : (b : Bool) {c : Bool} → c ≡ false → (not b && c) ≡ false
    by true k = refl
    by false k = k

one_or_more : (n : ℕ) → n ≡ 1 → 1 ≤ n
one_or_more n e = omega (arith, e)

module _ (s : Settings) (o : Operation) where
  abbrev final_text : List Entry → Bool → Bool → ℕ
  final_text es unread kept =
      if unread then count_of (list_any (loses o) es)
      else if kept then count_of (is_some (who_answer es) || list_any (loses o) es)
      else 1

  -- one that goes out at once, and a success that is kept back
  pub final_told : (r : List ℕ) (es : List Entry) → (is_of Bind o && is_none (result_code r)) ≡ false → is_kept_back (asks_who s o) r ≡ false → told_at_final s o r es ≡ 1
  final_told r es u k = ap (λ b. final_text es b (is_kept_back (asks_who s o) r)) u ∙ ap (final_text es false) k

  pub final_kept : (r : List ℕ) (es : List Entry) → (is_of Bind o && is_none (result_code r)) ≡ false → is_kept_back (asks_who s o) r ≡ true → told_at_final s o r es ≡ count_of (is_some (who_answer es) || list_any (loses o) es)
  final_kept r es u k = ap (λ b. final_text es b (is_kept_back (asks_who s o) r)) u ∙ ap (final_text es false) k

  final_lost : (r : List ℕ) (es : List Entry) → list_any (loses o) es ≡ true → 1 ≤ told_at_final s o r es
  final_lost r es h = by (is_of Bind o && is_none (result_code r)) (is_kept_back (asks_who s o) r)
    where
      by : (u k : Bool) → 1 ≤ final_text es u k
      by true k = one_or_more (count_of (list_any (loses o) es)) (ap count_of h)
      by false true = one_or_more (count_of (is_some (who_answer es) || list_any (loses o) es)) (ap count_of (or_right (is_some (who_answer es)) _ h))
      by false false = omega arith

module _ (s : Settings) (o : Operation) (x : Sending) where
  abbrev pub later_text : List Entry → Option (List ℕ) → ℕ
  later_text es a =
      elim a [
        | None ↦ told_by s o x es
        | Some r ↦ elim (is_final_for o.request r) [ true ↦ told_at_final s o r es | false ↦ suc (told_by s o x es) ]
      ]

  abbrev told_text : Entry → List Entry → Bool → Bool → Bool → ℕ
  told_text e es g d l =
      if g then count_of (list_any (loses o) es)
      else if d then 0
      else if l then 1
      else later_text es (answer_of o.request x.id e)

  -- at an entry that loses it
  pub told_lost : (e : Entry) (es : List Entry) → gives_id x.id e ≡ false → drops o x e ≡ false → loses o e ≡ true → told_by s o x (e ∷ es) ≡ 1
  told_lost e es g d l = ap (λ b. told_text e es b (drops o x e) (loses o e)) g ∙ ap (λ b. told_text e es false b (loses o e)) d ∙ ap (λ b. told_text e es false false b) l

  -- at one that doesn't
  pub told_on : (e : Entry) (es : List Entry) → gives_id x.id e ≡ false → drops o x e ≡ false → loses o e ≡ false → (a : Option (List ℕ)) → answer_of o.request x.id e ≡ a → told_by s o x (e ∷ es) ≡ later_text es a
  told_on e es g d l a h = ap (λ b. told_text e es b (drops o x e) (loses o e)) g ∙ ap (λ b. told_text e es false b (loses o e)) d ∙ ap (λ b. told_text e es false false b) l ∙ ap (later_text es) h

  -- an answer that isn't the last
  pub told_more : (e : Entry) (es : List Entry) (r : List ℕ) → told_by s o x (e ∷ es) ≡ later_text es (Some r) → is_final_for o.request r ≡ false → told_by s o x (e ∷ es) ≡ suc (told_by s o x es)
  told_more e es r h f = h ∙ ap (λ b. elim b [ true ↦ told_at_final s o r es | false ↦ suc (told_by s o x es) ]) f

  -- the last one
  pub told_last : (e : Entry) (es : List Entry) (r : List ℕ) → told_by s o x (e ∷ es) ≡ later_text es (Some r) → is_final_for o.request r ≡ true → told_by s o x (e ∷ es) ≡ told_at_final s o r es
  told_last e es r h f = h ∙ ap (λ b. elim b [ true ↦ told_at_final s o r es | false ↦ suc (told_by s o x es) ]) f

  -- Where the connection ends directly behind.

  end_told : (es : List Entry) → first_passes (is_down_by BadEnd) es ≡ true → 1 ≤ told_by s o x es
  end_told [] h = absurd (let bad : false ≡ true = h in cc)
  end_told (e ∷ es) h = by e.what refl h
    where
      by : (w : What) → e.what ≡ w → passes (same_why BadEnd) (down_why w) ≡ true → 1 ≤ told_by s o x (e ∷ es)
      by (what.Down why) k j = one_or_more (told_by s o x (e ∷ es)) (told_lost e es (ap (λ v. passes (λ given. given == x.id) (given_id v)) k) (drops_none o x e (ap own_message k)) (or_right (is_expired o.name e) _ (ap (λ v. passes (λ why. true) (down_why v)) k)))
      by _ k j = absurd (let bad : false ≡ true = j in cc)

  pub later_lost : (es : List Entry) (a : Option (List ℕ)) → first_passes (is_down_by BadEnd) es ≡ true → list_any (loses o) es ≡ true → 1 ≤ later_text es a
  later_lost es None h l = end_told es h
  later_lost es (Some r) h l = by (is_final_for o.request r)
    where
      by : (b : Bool) → 1 ≤ (elim b [ true ↦ told_at_final s o r es | false ↦ suc (told_by s o x es) ])
      by true = final_lost s o r es l
      by false = omega arith
