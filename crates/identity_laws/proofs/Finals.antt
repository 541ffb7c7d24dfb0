-- The last Bind of a client's list, and the final answers that its client got, behind an entry more.
use Rattle.std.proofs.Common.{◌≡◌, ℕ, suc, Bool, true, false, ◌==◌, ◌&&◌, ◌||◌, not, List, [], ◌∷◌, ◌++◌, length, refl, ap, ◌∙◌, sym, subst, append_assoc}
use Rattle.std.specs.Prelude.{Option, Some, None, map, filter, cond, is_none, option_map, if◌then◌else◌}
use Rattle.std.specs.List.{list_any, list_all}
use Rattle.std.proofs.lemmas.List.{append-nil}
use Rattle.std.proofs.lemmas.List.Elements.{filter-append}
use Rattle.std.proofs.lemmas.List.Folds.{list_any-append, list_all-append, list_all-map}
use Rattle.ldap_spec.specs.Messages.{Message}
use Rattle.lload_names.specs.declared.names.Entry.{Entry}
use Rattle.lload_names.specs.declared.names.OpKind.TheVariants.{Bind}
use Rattle.lload_spec.specs.Lists.{last, passes}
use Rattle.lload_spec.specs.Entries.{operation_message, out_message, is_gone}
use Rattle.std.proofs.Math.Bool.{or-false}
use Rattle.lload_spec.specs.Fifo.{is_out_before_end, is_ended_once}
use Rattle.lload_spec.specs.Operations.{Operation, Manner, Cancelled, Answered, Abandoned, Rebound, ClientGone, is_abandon_of, is_bind_in, operations, operation_made, takes_id, out_rest, outs_under, outs, manner_of, ending_or, ending_from, is_final_out, is_cancellation, is_final_for, is_request_of, is_of, is_live, last_bind, got_final}
use Rattle.lload_spec.proofs.Growth.{left, right, both, looks_back}
use Rattle.lload_laws.specs.ClientGrowth.{later_operation, new_operation}
use Rattle.lload_laws.proofs.ClientGrowth.{operations_none, operations_one, operations_grow}
use Rattle.lload_laws.proofs.ListLaws.{filter-map, all_both, all_imply}
use Rattle.part_laws.proofs.ListLaws.{last_push, none_of_both, all_kept}
use Rattle.client_laws.proofs.ClientOuts.{EndsOnce}

-- Lists.

pub last-map : {A B : Type 0} (f : A → B) (xs : List A) → last (map f xs) ≡ option_map f (last xs)
last-map f [] = refl
last-map f (x ∷ []) = refl
last-map f (x ∷ y ∷ xs) = last-map f (y ∷ xs)

end_all : {A : Type 0} (q : A → Bool) (xs : List A) (y : A) → list_all q xs ≡ true → last xs ≡ Some y → q y ≡ true
end_all q [] y h e = absurd (let bad : None ≡ Some y = e in cc)
end_all q (x ∷ []) y h e = let same : x ≡ y = cc in subst (λ v. q v ≡ true) same (left (q x) _ h)
end_all q (x ∷ z ∷ xs) y h e = end_all q (z ∷ xs) y (right (q x) _ h) e

-- what is so of each of these is so of the last that passes a test
pub last_all : {A : Type 0} (t q : A → Bool) (xs : List A) (y : A) → last (filter t xs) ≡ Some y → list_all q xs ≡ true → q y ≡ true
last_all t q xs y e h = end_all q (filter t xs) y (all_kept q t xs h) e

all_passed : {A : Type 0} (t : A → Bool) (xs : List A) → list_all t (filter t xs) ≡ true
all_passed t [] = refl
all_passed t (x ∷ xs) = by (t x) refl (all_passed t xs)
  where
    by : (b : Bool) → t x ≡ b → list_all t (filter t xs) ≡ true → list_all t (cond b (x ∷ filter t xs) (filter t xs)) ≡ true
    by true e k = both (t x) _ e k
    by false e k = k

-- the last that passes a test passes it
pub last_passes_it : {A : Type 0} (t : A → Bool) (xs : List A) (y : A) → last (filter t xs) ≡ Some y → t y ≡ true
last_passes_it t xs y e = end_all t (filter t xs) y (all_passed t xs) e

none_all : {A : Type 0} (t : A → Bool) (xs : List A) → list_any t xs ≡ false → list_all (λ x. not (t x)) xs ≡ true
none_all t [] h = refl
none_all t (x ∷ xs) h = by (t x) refl h (none_all t xs)
  where
    by : (b : Bool) → t x ≡ b → (b || list_any t xs) ≡ false → (list_any t xs ≡ false → list_all (λ y. not (t y)) xs ≡ true) → (not (t x) && list_all (λ y. not (t y)) xs) ≡ true
    by true e k ih = absurd (let bad : true ≡ false = k in cc)
    by false e k ih = both (not (t x)) _ (ap not e) (ih k)

-- the last that passes a test is one of them
pub last_any : {A : Type 0} (t q : A → Bool) (xs : List A) (y : A) → last (filter t xs) ≡ Some y → q y ≡ true → list_any (λ x. t x && q x) xs ≡ true
last_any t q xs y e h = by (list_any (λ x. t x && q x) xs) refl
  where
    by : (b : Bool) → list_any (λ x. t x && q x) xs ≡ b → list_any (λ x. t x && q x) xs ≡ true
    by true f = f
    by false f = absurd (let bad : false ≡ true = ap not (sym (both (t y) (q y) (last_passes_it t xs y e) h)) ∙ last_all t (λ x. not (t x && q x)) xs y e (none_all (λ x. t x && q x) xs f) in cc)

-- The last Bind.

binds_later : (e : Entry) (os : List Operation) → last (filter (is_of Bind) (map (later_operation e) os)) ≡ option_map (later_operation e) (last (filter (is_of Bind) os))
binds_later e os = ap last (filter-map (is_of Bind) (later_operation e) os) ∙ last-map (later_operation e) (filter (is_of Bind) os)

pub bind_stays : (c : ℕ) (L : List Entry) (e : Entry) → operation_message e.what ≡ None → last_bind c (L ++ e ∷ []) ≡ option_map (later_operation e) (last_bind c L)
bind_stays c L e h = ap (λ os. last (filter (is_of Bind) os)) (operations_none c L e h) ∙ binds_later e (operations c L)

pub bind_plain : (c : ℕ) (L : List Entry) (e : Entry) (m : Message) → operation_message e.what ≡ Some m → is_request_of Bind m ≡ false → last_bind c (L ++ e ∷ []) ≡ option_map (later_operation e) (last_bind c L)
bind_plain c L e m h n = ap (λ os. last (filter (is_of Bind) os)) (operations_one c L e m h) ∙ ap last (filter-append (is_of Bind) (map (later_operation e) (operations c L)) (new_operation c L e m ∷ []) ∙ ap (λ b. filter (is_of Bind) (map (later_operation e) (operations c L)) ++ cond b (new_operation c L e m ∷ []) []) n ∙ append-nil (filter (is_of Bind) (map (later_operation e) (operations c L)))) ∙ binds_later e (operations c L)

pub bind_new : (c : ℕ) (L : List Entry) (e : Entry) (m : Message) → operation_message e.what ≡ Some m → is_request_of Bind m ≡ true → last_bind c (L ++ e ∷ []) ≡ Some (new_operation c L e m)
bind_new c L e m h n = ap (λ os. last (filter (is_of Bind) os)) (operations_one c L e m h) ∙ ap last (filter-append (is_of Bind) (map (later_operation e) (operations c L)) (new_operation c L e m ∷ []) ∙ ap (λ b. filter (is_of Bind) (map (later_operation e) (operations c L)) ++ cond b (new_operation c L e m ∷ []) []) n) ∙ last_push (filter (is_of Bind) (map (later_operation e) (operations c L))) (new_operation c L e m)

-- Final answers.

-- a live operation got none
unanswered_from : (opened : Message) (since es : List Entry) → list_any (takes_id opened.id) since ≡ false → is_none (ending_from opened since es) ≡ true → list_any (is_final_for opened) (outs_under opened.id es) ≡ false
unanswered_from opened since [] u n = refl
unanswered_from opened since (e ∷ es) u n = by (takes_id opened.id e) refl (unanswered_from opened (since ++ e ∷ []) es)
  where
    manner_none : (o : Option Manner) → is_none (ending_or o e es (ending_from opened (since ++ e ∷ []) es)) ≡ true → is_none o ≡ true
    manner_none None k = refl
    manner_none (Some m) k = absurd (let bad : false ≡ true = k in cc)

    later_none : (o : Option Manner) → is_none (ending_or o e es (ending_from opened (since ++ e ∷ []) es)) ≡ true → is_none (ending_from opened (since ++ e ∷ []) es) ≡ true
    later_none None k = k
    later_none (Some m) k = absurd (let bad : false ≡ true = k in cc)

    not_final : is_final_out opened since e ≡ false
    not_final = at (is_final_out opened since e) (is_cancellation opened since e) refl refl
      where
        others : Option Manner
        others = if is_abandon_of opened e then Some Abandoned else if is_bind_in e then Some Rebound else if is_gone e then Some ClientGone else None

        manner_is : (f g : Bool) → is_final_out opened since e ≡ f → is_cancellation opened since e ≡ g → is_none (manner_of opened since e) ≡ is_none (if f && g then Some Cancelled else if f then Some Answered else if is_abandon_of opened e then Some Abandoned else if is_bind_in e then Some Rebound else if is_gone e then Some ClientGone else None)
        manner_is f g h k = ap (λ x. is_none (if x && is_cancellation opened since e then Some Cancelled else if x then Some Answered else others)) h ∙ ap (λ x. is_none (if f && x then Some Cancelled else if f then Some Answered else others)) k

        at : (f g : Bool) → is_final_out opened since e ≡ f → is_cancellation opened since e ≡ g → is_final_out opened since e ≡ false
        at true true h k = absurd (let bad : false ≡ true = sym (manner_is true true h k) ∙ manner_none (manner_of opened since e) n in cc)
        at true false h k = absurd (let bad : false ≡ true = sym (manner_is true false h k) ∙ manner_none (manner_of opened since e) n in cc)
        at false g h k = h

    by : (t : Bool) → takes_id opened.id e ≡ t → (list_any (takes_id opened.id) (since ++ e ∷ []) ≡ false → is_none (ending_from opened (since ++ e ∷ []) es) ≡ true → list_any (is_final_for opened) (outs_under opened.id es) ≡ false) → list_any (is_final_for opened) (elim t [ true ↦ [] | false ↦ out_rest opened.id (out_message e.what) ++ outs_under opened.id es ]) ≡ false
    by true h ih = refl
    by false h ih = none_of_both (is_final_for opened) (out_rest opened.id (out_message e.what)) (outs_under opened.id es) (here (out_message e.what) (sym (ap (λ b. passes (λ m. m.id == opened.id) (out_message e.what) && not b && passes (λ m. is_final_for opened m.rest) (out_message e.what)) u) ∙ not_final)) (ih (none_of_both (takes_id opened.id) since (e ∷ []) u (ap (λ b. b || false) h)) (later_none (manner_of opened since e) n))
      where
        here : (o : Option Message) → (passes (λ m. m.id == opened.id) o && true && passes (λ m. is_final_for opened m.rest) o) ≡ false → list_any (is_final_for opened) (out_rest opened.id o) ≡ false
        here None k = refl
        here (Some m) k = at (m.id == opened.id) k
          where
            at : (b : Bool) → (b && true && is_final_for opened m.rest) ≡ false → list_any (is_final_for opened) (if b then m.rest ∷ [] else []) ≡ false
            at true j = ap (λ x. x || false) j
            at false j = refl

pub live_unanswered : (o : Operation) → is_live o ≡ true → list_any (is_final_for o.request) (outs o) ≡ false
live_unanswered o h = unanswered_from o.request [] o.behind refl h

-- so no final answer that passes a test
pub none_got : (t : List ℕ → Bool) (o : Operation) → is_live o ≡ true → got_final t o ≡ false
none_got t o h = none (outs o) (live_unanswered o h)
  where
    none : (rs : List (List ℕ)) → list_any (is_final_for o.request) rs ≡ false → list_any (λ r. is_final_for o.request r && t r) rs ≡ false
    none [] k = refl
    none (r ∷ rs) k = at (is_final_for o.request r) k (none rs)
      where
        at : (b : Bool) → (b || list_any (is_final_for o.request) rs) ≡ false → (list_any (is_final_for o.request) rs ≡ false → list_any (λ x. is_final_for o.request x && t x) rs ≡ false) → ((b && t r) || list_any (λ x. is_final_for o.request x && t x) rs) ≡ false
        at true j ih = absurd (let bad : true ≡ false = j in cc)
        at false j ih = ih j

-- the final answers behind an Out
pub got_more : (t : List ℕ → Bool) (o p : Operation) (rest : List ℕ) → p.request ≡ o.request → outs p ≡ outs o ++ rest ∷ [] → got_final t p ≡ (got_final t o || (is_final_for o.request rest && t rest))
got_more t o p rest same told = ap (λ m. list_any (λ r. is_final_for m r && t r) (outs p)) same ∙ ap (list_any (λ r. is_final_for o.request r && t r)) told ∙ list_any-append (λ r. is_final_for o.request r && t r) (outs o) (rest ∷ []) ∙ ap (λ b. got_final t o || b) (or-false (is_final_for o.request rest && t rest))

-- Each Out stands before the end of its operation, in a list that has more entries; and no operation is under identifier 0.

abbrev pub is_timely : Entry → Operation → Bool
is_timely e o = is_out_before_end o.request o.behind e && not (o.request.id == 0)

abbrev pub Timely : ℕ → List Entry → List Entry → Type 0
Timely c place [] = Unit {0}
Timely c place (e ∷ es) = (list_all (is_timely e) (operations c place) ≡ true) × Timely c (place ++ e ∷ []) es

-- what holds of the operations of a longer list
record Once (c : ℕ) (place : List Entry) : Type 0 where
  once : list_all is_ended_once (operations c place) ≡ true
  above : list_all (λ o. not (o.request.id == 0)) (operations c place) ≡ true

older : (t : Operation → Bool) (c : ℕ) (L : List Entry) (e : Entry) → list_all t (operations c (L ++ e ∷ [])) ≡ true → list_all (λ o. t (later_operation e o)) (operations c L) ≡ true
older t c L e h = sym (list_all-map t (later_operation e) (operations c L)) ∙ left (list_all t (map (later_operation e) (operations c L))) _ (sym (list_all-append t (map (later_operation e) (operations c L)) (operation_made c (suc (length (operations c L))) L e [] (operation_message e.what))) ∙ sym (ap (list_all t) (operations_grow c L e)) ∙ h)

once_before : (c : ℕ) (place : List Entry) (e : Entry) → Once c (place ++ e ∷ []) → Once c place × (list_all (is_timely e) (operations c place) ≡ true)
once_before c place e h =
    let above : list_all (λ o. not (o.request.id == 0)) (operations c place) ≡ true = older (λ o. not (o.request.id == 0)) c place e h.above in
    let both_of : list_all (λ o. is_ended_once o && is_out_before_end o.request o.behind e) (operations c place) ≡ true = all_imply (λ o. is_ended_once (later_operation e o)) (λ o. is_ended_once o && is_out_before_end o.request o.behind e) (operations c place) (λ o k. sym (looks_back (is_out_before_end o.request) o.behind e) ∙ k) (older is_ended_once c place e h.once) in (
      record { once = all_imply (λ o. is_ended_once o && is_out_before_end o.request o.behind e) is_ended_once (operations c place) (λ o k. left (is_ended_once o) _ k) both_of; above = above },
      all_both (λ o. is_out_before_end o.request o.behind e) (λ o. not (o.request.id == 0)) (operations c place) (all_imply (λ o. is_ended_once o && is_out_before_end o.request o.behind e) (λ o. is_out_before_end o.request o.behind e) (operations c place) (λ o k. right (is_ended_once o) _ k) both_of) above,
    )

once_from : (c : ℕ) (place es : List Entry) → Once c (place ++ es) → Once c place × Timely c place es
once_from c place [] h = (subst (Once c) (append-nil place) h, tt)
once_from c place (e ∷ es) h =
    let next : Once c (place ++ e ∷ []) × Timely c (place ++ e ∷ []) es = once_from c (place ++ e ∷ []) es (subst (Once c) (sym (append_assoc place (e ∷ []) es)) h) in
    let here : Once c place × (list_all (is_timely e) (operations c place) ≡ true) = once_before c place e next.0 in
    (here.0, (here.1, next.1))

pub timely : (c : ℕ) (place es : List Entry) → EndsOnce c (place ++ es) → Timely c place es
timely c place es h = (once_from c place es (record { once = h.ended_once; above = h.no_zero })).1
