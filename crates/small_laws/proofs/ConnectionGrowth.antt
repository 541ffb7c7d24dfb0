-- What a connection's list gains from one entry more at its end.
use Rattle.std.proofs.Common.{◌≡◌, ℕ, ◌+◌, Bool, true, false, ◌||◌, List, [], ◌∷◌, ◌++◌, refl, ap, ◌∙◌, sym, length, append_assoc, arith}
use Rattle.std.specs.Prelude.{Option, Some, None, if◌then◌else◌, map, filter, cond, is_some}
use Rattle.std.specs.Option.{option_to_list}
use Rattle.std.specs.List.{list_any}
use Rattle.std.proofs.lemmas.List.{append-nil, map-append, length-append}
use Rattle.std.proofs.lemmas.List.Elements.{filter-append}
use Rattle.ldap_spec.specs.Messages.{Message}
use Rattle.lload_names.specs.declared.names.Entry.{Entry}
use Rattle.small_spec.specs.Entries.{Named, sent_message, given_id}
use Rattle.small_spec.specs.Operations.{is_final_for}
use Rattle.small_spec.specs.Answers.{Sending, sendings, sending_made, sendings_from, answer_of, with_later, answers_under}
use Rattle.small_laws.specs.ConnectionGrowth.{later_sending, new_sending, SendingsGrow, AnswersGrow, GivenCountGrows}

-- the Sent that an entry is, with one entry more behind it
made_later : (u : ℕ) (before : List Entry) (x : Entry) (L : List Entry) (e : Entry) (m : Option (Named Message)) → sending_made u before x (L ++ e ∷ []) m ≡ map (later_sending e) (sending_made u before x L m)
made_later u before x L e None = refl
made_later u before x L e (Some s) = refl

sendings_grow_from : (u : ℕ) (before L : List Entry) (e : Entry) → sendings_from u before (L ++ e ∷ []) ≡ map (later_sending e) (sendings_from u before L) ++ sending_made u (before ++ L) e [] (sent_message e.what)
sendings_grow_from u before [] e = append-nil (sending_made u before e [] (sent_message e.what)) ∙ ap (λ l. sending_made u l e [] (sent_message e.what)) (sym (append-nil before))
sendings_grow_from u before (x ∷ L) e = ap (λ l. l ++ sendings_from u (before ++ x ∷ []) (L ++ e ∷ [])) (made_later u before x L e (sent_message x.what)) ∙ ap (λ l. map (later_sending e) here ++ l) (sendings_grow_from u (before ++ x ∷ []) L e) ∙ sym (append_assoc (map (later_sending e) here) (map (later_sending e) rest) (last ((before ++ x ∷ []) ++ L))) ∙ ap (λ l. l ++ last ((before ++ x ∷ []) ++ L)) (sym (map-append (later_sending e) here rest)) ∙ ap (λ l. map (later_sending e) (here ++ rest) ++ last l) (append_assoc before (x ∷ []) L)
  where
    here : List Sending
    here = sending_made u before x L (sent_message x.what)

    rest : List Sending
    rest = sendings_from u (before ++ x ∷ []) L

    last : List Entry → List Sending
    last l = sending_made u l e [] (sent_message e.what)

pub sendings_grow : SendingsGrow
sendings_grow u L e = sendings_grow_from u [] L e

-- the Sent entries of the longer list, where the entry is known to be none or one
pub sendings_none : (u : ℕ) (L : List Entry) (e : Entry) → sent_message e.what ≡ None → sendings u (L ++ e ∷ []) ≡ map (later_sending e) (sendings u L)
sendings_none u L e h = sendings_grow u L e ∙ ap (λ m. map (later_sending e) (sendings u L) ++ sending_made u L e [] m) h ∙ append-nil (map (later_sending e) (sendings u L))

pub sendings_one : (u : ℕ) (L : List Entry) (e : Entry) (s : Named Message) → sent_message e.what ≡ Some s → sendings u (L ++ e ∷ []) ≡ map (later_sending e) (sendings u L) ++ new_sending u L e s ∷ []
sendings_one u L e s h = sendings_grow u L e ∙ ap (λ m. map (later_sending e) (sendings u L) ++ sending_made u L e [] m) h

-- the answers
one_answer : (m : Message) (r : List ℕ) (b : Bool) → (r ∷ (if b then [] else [])) ≡ r ∷ []
one_answer m r true = refl
one_answer m r false = refl

last_answer : (m : Message) (a : Option (List ℕ)) → with_later m a [] ≡ option_to_list a
last_answer m None = refl
last_answer m (Some r) = one_answer m r (is_final_for m r)

later_answers : (m : Message) (r : List ℕ) (b : Bool) (ys zs last : List (List ℕ)) → zs ≡ ys ++ (if list_any (is_final_for m) ys then [] else last) → (r ∷ (if b then [] else zs)) ≡ (r ∷ (if b then [] else ys)) ++ (if b || list_any (is_final_for m) (if b then [] else ys) then [] else last)
later_answers m r true ys zs last h = refl
later_answers m r false ys zs last h = ap (λ l. r ∷ l) h

answers_later : (m : Message) (a : Option (List ℕ)) (ys zs last : List (List ℕ)) → zs ≡ ys ++ (if list_any (is_final_for m) ys then [] else last) → with_later m a zs ≡ with_later m a ys ++ (if list_any (is_final_for m) (with_later m a ys) then [] else last)
answers_later m None ys zs last h = h
answers_later m (Some r) ys zs last h = later_answers m r (is_final_for m r) ys zs last h

pub answers_grow : AnswersGrow
answers_grow m id [] e = last_answer m (answer_of m id e)
answers_grow m id (x ∷ L) e = answers_later m (answer_of m id x) (answers_under m id L) (answers_under m id (L ++ e ∷ [])) (option_to_list (answer_of m id e)) (answers_grow m id L e)

-- the count of identifiers given
one_more : (b : Bool) (e : Entry) → length (cond b (e ∷ []) []) ≡ (if b then 1 else 0)
one_more true e = omega arith
one_more false e = refl

pub given_count_grows : GivenCountGrows
given_count_grows L e = ap length (filter-append (λ x. is_some (given_id x.what)) L (e ∷ [])) ∙ length-append (filter (λ x. is_some (given_id x.what)) L) (filter (λ x. is_some (given_id x.what)) (e ∷ [])) ∙ ap (λ n. length (filter (λ x. is_some (given_id x.what)) L) + n) (one_more (is_some (given_id e.what)) e)
