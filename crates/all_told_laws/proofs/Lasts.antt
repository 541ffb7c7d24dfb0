-- Where what a client got begins the answers and has a final one, it is all of them; and where it isn't a beginning of them, it
-- ends with an answer of the proxy's own.
use Rattle.std.proofs.Common.{◌≡◌, ◌⊎◌, inl, inr, ℕ, Bool, true, false, ◌&&◌, ◌||◌, not, if◌then◌else◌, List, [], ◌∷◌, ◌++◌, refl, ap, ◌∙◌, sym}
use Rattle.std.specs.Prelude.{Option, Some, None, cond, filter, is_some, map}
use Rattle.std.specs.List.{list_any, list_all}
use Rattle.std.specs.Option.{option_map}
use Rattle.std.specs.Str.{bytes_eq}
use Rattle.std.proofs.lemmas.List.{append-nil}
use Rattle.std.proofs.lemmas.List.Elements.{filter-append}
use Rattle.std.proofs.lemmas.Slice.Eq.{bytes_eq-Decides}
use Rattle.ldap_spec.specs.Bodies.{cancel_answer, refusal}
use Rattle.ldap_spec.specs.Kinds.{kind_of, same_kind}
use Rattle.ldap_spec.specs.Messages.{Message}
use Rattle.ldap_spec.specs.Requests.{is_cancel}
use Rattle.lload_names.specs.declared.names.CancelAnswer.{CancelAnswer}
use Rattle.lload_names.specs.declared.names.CancelAnswer.TheVariants.{C13}
use Rattle.lload_names.specs.declared.names.Entry.{Entry}
use Rattle.lload_names.specs.declared.names.OpKind.{OpKind}
use Rattle.lload_names.specs.declared.names.OpKind.TheVariants.{Bind}
use Rattle.lload_names.specs.declared.names.Refusal.{Refusal}
use Rattle.lload_spec.specs.Answers.{Final, answer_of, answers_under, final_under, gives_id, reign_of, with_later}
use Rattle.lload_spec.specs.Fifo.{cancel_answers, is_own_answer, is_prefix_and_own, own_answers, own_answers_of, refusals}
use Rattle.lload_spec.specs.Lists.{is_prefix, last_passes, passes}
use Rattle.lload_spec.specs.Operations.{is_final_for}
use Rattle.lload_spec.proofs.Growth.{both, left, right}
use Rattle.lload_laws.proofs.ListLaws.{any-map, any_imply, bytes_same}
use Rattle.part_laws.proofs.ListLaws.{any_split, or_elim, or_left, or_right}
use Rattle.open_laws.proofs.Among.{Such, among_passing, any_among}

bytes_back : (a b : List ℕ) → bytes_eq a b ≡ true → bytes_eq b a ≡ true
bytes_back a b h = ap (λ x. bytes_eq b x) ((bytes_eq-Decides a b).0 h) ∙ bytes_same b

module _ (req : Message) where
  same_last : (x r : List ℕ) → bytes_eq x r ≡ true → is_final_for req x ≡ true → is_final_for req r ≡ true
  same_last x r h k = ap (is_final_for req) (sym ((bytes_eq-Decides x r).0 h)) ∙ k

  -- a beginning with a final one is all
  pub all_told : (id : ℕ) (es : List Entry) (xs : List (List ℕ)) → is_prefix xs (answers_under req id es) ≡ true → list_any (is_final_for req) xs ≡ true → is_prefix (answers_under req id es) xs ≡ true
  all_told id [] xs h k = refl
  all_told id (e ∷ es) xs h k = by (answer_of req id e) xs (all_told id es) h k
    where
      by : (o : Option (List ℕ)) (ys : List (List ℕ)) → ((zs : List (List ℕ)) → is_prefix zs (answers_under req id es) ≡ true → list_any (is_final_for req) zs ≡ true → is_prefix (answers_under req id es) zs ≡ true) → is_prefix ys (with_later req o (answers_under req id es)) ≡ true → list_any (is_final_for req) ys ≡ true → is_prefix (with_later req o (answers_under req id es)) ys ≡ true
      by None ys ih i j = ih ys i j
      by (Some r) [] ih i j = absurd (let bad : false ≡ true = j in cc)
      by (Some r) (y ∷ ys) ih i j = both (bytes_eq r y) _ (bytes_back y r (left (bytes_eq y r) _ i)) (one (is_final_for req r) refl (right (bytes_eq y r) _ i))
        where
          one : (b : Bool) → is_final_for req r ≡ b → is_prefix ys (if b then [] else answers_under req id es) ≡ true → is_prefix (if b then [] else answers_under req id es) ys ≡ true
          one true e' m = refl
          one false e' m = ih ys m (or_elim (is_final_for req y) (list_any (is_final_for req) ys) (λ z. absurd (let bad : false ≡ true = sym e' ∙ same_last y r (left (bytes_eq y r) _ i) z in cc)) (λ z. z) j)

  -- what begins some is among them
  pub last_among : (xs ys : List (List ℕ)) → is_prefix xs ys ≡ true → list_any (is_final_for req) xs ≡ true → list_any (is_final_for req) ys ≡ true
  last_among [] ys h k = absurd (let bad : false ≡ true = k in cc)
  last_among (x ∷ xs) [] h k = absurd (let bad : false ≡ true = h in cc)
  last_among (x ∷ xs) (y ∷ ys) h k = or_elim (is_final_for req x) (list_any (is_final_for req) xs) (λ j. or_left (is_final_for req y) _ (same_last x y (left (bytes_eq x y) _ h) j)) (λ j. or_right (is_final_for req y) _ (last_among xs ys (right (bytes_eq x y) _ h) j)) k

  -- where one of the answers is final, there is a final answer
  pub final_there : (id : ℕ) (es : List Entry) → list_any (is_final_for req) (answers_under req id (reign_of id es)) ≡ true → is_some (final_under req id es) ≡ true
  final_there id [] h = absurd (let bad : false ≡ true = h in cc)
  final_there id (e ∷ es) h = by (gives_id id e) (answer_of req id e) refl h (final_there id es)
    where
      final_text : Bool → Option (List ℕ) → Option Final
      final_text b o = if b then None else if passes (is_final_for req) o then option_map (λ r. record { rest = r; behind = es }) o else final_under req id es

      by : (b : Bool) (o : Option (List ℕ)) → answer_of req id e ≡ o → list_any (is_final_for req) (answers_under req id (elim b [ true ↦ [] | false ↦ e ∷ reign_of id es ])) ≡ true → (list_any (is_final_for req) (answers_under req id (reign_of id es)) ≡ true → is_some (final_under req id es) ≡ true) → is_some (final_text b o) ≡ true
      by true o z k ih = absurd (let bad : false ≡ true = k in cc)
      by false o z k ih = of o (ap (λ q. list_any (is_final_for req) (with_later req q (answers_under req id (reign_of id es)))) (sym z) ∙ k)
        where
          of : (q : Option (List ℕ)) → list_any (is_final_for req) (with_later req q (answers_under req id (reign_of id es))) ≡ true → is_some (final_text false q) ≡ true
          of None j = ih j
          of (Some r) j = one (is_final_for req r) j
            where
              ended : Final
              ended = record { rest = r; behind = es }

              one : (c : Bool) → (c || list_any (is_final_for req) (if c then [] else answers_under req id (reign_of id es))) ≡ true → is_some (if c then Some ended else final_under req id es) ≡ true
              one true i = refl
              one false i = ih i

  -- all but the final one
  pub but_last : (xs : List (List ℕ)) (r : List ℕ) → list_all (λ x. not (is_final_for req x)) xs ≡ true → is_final_for req r ≡ true → filter (λ x. not (is_final_for req x)) (xs ++ r ∷ []) ≡ xs
  but_last xs r h k = filter-append (λ x. not (is_final_for req x)) xs (r ∷ []) ∙ ap (λ l. l ++ filter (λ x. not (is_final_for req x)) (r ∷ [])) (kept xs h) ∙ ap (λ b. xs ++ cond (not b) (r ∷ []) []) k ∙ append-nil xs
    where
      kept : (ys : List (List ℕ)) → list_all (λ x. not (is_final_for req x)) ys ≡ true → filter (λ x. not (is_final_for req x)) ys ≡ ys
      kept [] j = refl
      kept (y ∷ ys) j = ap (λ b. cond b (y ∷ filter (λ x. not (is_final_for req x)) ys) (filter (λ x. not (is_final_for req x)) ys)) (left (not (is_final_for req y)) _ j) ∙ ap (λ l. y ∷ l) (kept ys (right (not (is_final_for req y)) _ j))

-- what ends with an answer of the proxy's own
pub own_there : (request : List ℕ) (answers rs : List (List ℕ)) → is_prefix_and_own request answers rs ≡ true → list_any (λ own. last_passes (bytes_eq own) rs) (own_answers request) ≡ true
own_there request answers [] h = absurd (let bad : false ≡ true = h in cc)
own_there request answers (r ∷ []) h = any_imply (bytes_eq r) (λ own. bytes_eq own r) (own_answers request) (λ own k. bytes_back r own k) h
own_there request [] (r ∷ q ∷ rs) h = absurd (let bad : false ≡ true = h in cc)
own_there request (a ∷ as') (r ∷ q ∷ rs) h = own_there request as' (q ∷ rs) (right (bytes_eq r a && not _) _ h)

-- which answer of the proxy's own it is
abbrev pub IsRefusal : (List ℕ → Bool) → List ℕ → Type 0
IsRefusal t request = (which : Refusal) × (passes (λ kind. t (refusal kind which)) (kind_of request) ≡ true)

abbrev pub IsCancel : (List ℕ → Bool) → List ℕ → Type 0
IsCancel t request = (which : CancelAnswer) × (passes (λ kind. is_own_answer request (cancel_answer kind which) && t (cancel_answer kind which)) (kind_of request) ≡ true)

pub which_own : (t : List ℕ → Bool) (request : List ℕ) → list_any t (own_answers request) ≡ true → IsRefusal t request ⊎ IsCancel t request
which_own t request h = by (kind_of request) refl h
  where
    by : (o : Option OpKind) → kind_of request ≡ o → list_any t (elim o [ None ↦ [] | Some kind ↦ own_answers_of kind request ]) ≡ true → ((which : Refusal) × (passes (λ kind. t (refusal kind which)) o ≡ true)) ⊎ ((which : CancelAnswer) × (passes (λ kind. is_own_answer request (cancel_answer kind which) && t (cancel_answer kind which)) o ≡ true))
    by None e k = absurd (let bad : false ≡ true = k in cc)
    by (Some kind) e k =
        let one : Such (λ x. t x ≡ true) (own_answers_of kind request) = among_passing t (own_answers_of kind request) k in
        any_split u (map (refusal kind) refusals) (if_canceled ++ if_cancel)
        (λ j. let w : Such (λ x. u (refusal kind x) ≡ true) refusals = among_passing (λ x. u (refusal kind x)) refusals (sym (any-map u (refusal kind) refusals) ∙ j) in inl (w.it, right (is_own_answer request (refusal kind w.it)) _ w.so))
        (λ j. any_split u if_canceled if_cancel (λ i. canceled (same_kind Bind kind) i) (λ i. cancel (is_cancel request) i) j)
        (any_among u (own_answers_of kind request) one.it one.among (both (is_own_answer request one.it) (t one.it) (ap (λ o. list_any (bytes_eq one.it) (elim o [ None ↦ [] | Some x ↦ own_answers_of x request ])) e ∙ any_among (bytes_eq one.it) (own_answers_of kind request) one.it one.among (bytes_same one.it)) one.so))
      where
        u : List ℕ → Bool
        u x = is_own_answer request x && t x

        if_canceled : List (List ℕ)
        if_canceled = elim (same_kind Bind kind) [ true ↦ [] | false ↦ cancel_answer kind C13 ∷ [] ]

        if_cancel : List (List ℕ)
        if_cancel = elim (is_cancel request) [ true ↦ map (cancel_answer kind) cancel_answers | false ↦ [] ]

        Result : Type 0
        Result = ((which : Refusal) × (t (refusal kind which) ≡ true)) ⊎ ((which : CancelAnswer) × (u (cancel_answer kind which) ≡ true))

        canceled : (b : Bool) → list_any u (elim b [ true ↦ [] | false ↦ cancel_answer kind C13 ∷ [] ]) ≡ true → Result
        canceled true j = absurd (let bad : false ≡ true = j in cc)
        canceled false j = inr (C13, or_elim (u (cancel_answer kind C13)) false (λ i. i) (λ i. absurd (let bad : false ≡ true = i in cc)) j)

        cancel : (b : Bool) → list_any u (elim b [ true ↦ map (cancel_answer kind) cancel_answers | false ↦ [] ]) ≡ true → Result
        cancel true j = let w : Such (λ x. u (cancel_answer kind x) ≡ true) cancel_answers = among_passing (λ x. u (cancel_answer kind x)) cancel_answers (sym (any-map u (cancel_answer kind) cancel_answers) ∙ j) in inr (w.it, w.so)
        cancel false j = absurd (let bad : false ≡ true = j in cc)
