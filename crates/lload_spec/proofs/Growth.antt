-- What stays when a list grows at its end.
use Rattle.std.proofs.Common.{◌≡◌, ℕ, Bool, true, false, ◌&&◌, ◌||◌, not, List, [], ◌∷◌, ◌++◌, refl, ap, ◌∙◌, sym, subst}
use Rattle.std.specs.Prelude.{Option, Some, None, if◌then◌else◌, option_map}
use Rattle.std.specs.Str.{bytes_eq}
use Rattle.lload_names.specs.declared.names.Entry.{Entry}
use Rattle.lload_spec.specs.Lists.{each_split_from, is_prefix}
use Rattle.ldap_spec.specs.Messages.{Message}
use Rattle.lload_spec.specs.Operations.{Manner, Ending, ending_or, ending_from, manner_of, is_final_for, is_final_to}
use Rattle.lload_spec.specs.Answers.{answers_under, answer_of, with_later, gives_id, reign_of}
use Rattle.lload_spec.specs.Fifo.{allowed, is_prefix_and_own}
use Rattle.lload_spec.specs.Laws.{LooksBack, AnswersMayGrow, EndStays, extended}

and-assoc : (a b c : Bool) → (a && (b && c)) ≡ ((a && b) && c)
and-assoc true b c = refl
and-assoc false b c = refl

and-true : (a : Bool) → (a && true) ≡ a
and-true true = refl
and-true false = refl

pub append-nil : {A : Type 0} (xs : List A) → xs ++ [] ≡ xs
append-nil [] = refl
append-nil (x ∷ xs) = ap (λ l. x ∷ l) (append-nil xs)

pub append-assoc : {A : Type 0} (xs ys zs : List A) → (xs ++ ys) ++ zs ≡ xs ++ (ys ++ zs)
append-assoc [] ys zs = refl
append-assoc (x ∷ xs) ys zs = ap (λ l. x ∷ l) (append-assoc xs ys zs)

looks_back_from : (test : List Entry → Entry → Bool) (P L : List Entry) (e : Entry) → each_split_from (λ before x behind. test before x) P (L ++ e ∷ []) ≡ (each_split_from (λ before x behind. test before x) P L && test (P ++ L) e)
looks_back_from test P [] e = and-true (test P e) ∙ ap (λ l. test l e) (sym (append-nil P))
looks_back_from test P (x ∷ L) e = ap (λ b. test P x && b) (looks_back_from test (P ++ x ∷ []) L e ∙ ap (λ l. each_split_from (λ before y behind. test before y) (P ++ x ∷ []) L && test l e) (append-assoc P (x ∷ []) L)) ∙ and-assoc (test P x) (each_split_from (λ before y behind. test before y) (P ++ x ∷ []) L) (test (P ++ (x ∷ L)) e)

pub looks_back : LooksBack
looks_back test L e = looks_back_from test [] L e

-- a part of a conjunction, and of a disjunction
pub left : (a b : Bool) → (a && b) ≡ true → a ≡ true
left true b h = refl
left false b h = h

pub right : (a b : Bool) → (a && b) ≡ true → b ≡ true
right true b h = h
right false b h = cc

pub both : (a b : Bool) → a ≡ true → b ≡ true → (a && b) ≡ true
both true b h k = k
both false b h k = h

pub either : (a b c d : Bool) → (a ≡ true → c ≡ true) → (b ≡ true → d ≡ true) → (a || b) ≡ true → (c || d) ≡ true
either true b true d f g h = refl
either true b false d f g h = absurd (let bad : false ≡ true = f refl in cc)
either false b true d f g h = refl
either false b false d f g h = g h

-- a prefix stays one of a longer list
pub prefix_grows : (xs ys zs : List (List ℕ)) → is_prefix xs ys ≡ true → is_prefix xs (ys ++ zs) ≡ true
prefix_grows [] ys zs h = refl
prefix_grows (x ∷ xs) [] zs h = absurd (let bad : false ≡ true = h in cc)
prefix_grows (x ∷ xs) (y ∷ ys) zs h = both (bytes_eq x y) _ (left (bytes_eq x y) _ h) (prefix_grows xs ys zs (right (bytes_eq x y) _ h))

-- a prefix and a refusal stay so
refusal_grows : (kind : List ℕ) (ys xs zs : List (List ℕ)) → is_prefix_and_own kind ys xs ≡ true → is_prefix_and_own kind (ys ++ zs) xs ≡ true
refusal_grows _ ys [] zs h = absurd (let bad : false ≡ true = h in cc)
refusal_grows _ ys (r ∷ []) zs h = h
refusal_grows _ [] (r ∷ q ∷ rs) zs h = absurd (let bad : false ≡ true = h in cc)
refusal_grows kind (a ∷ ys) (r ∷ q ∷ rs) zs h = both (bytes_eq r a && not (is_final_to kind a)) _ (left (bytes_eq r a && not (is_final_to kind a)) _ h) (refusal_grows kind ys (q ∷ rs) zs (right (bytes_eq r a && not (is_final_to kind a)) _ h))

-- what is allowed stays so with more answers
pub allowed_grows : (kind : List ℕ) (ys xs zs : List (List ℕ)) → allowed kind ys xs ≡ true → allowed kind (ys ++ zs) xs ≡ true
allowed_grows kind ys xs zs h = either (is_prefix xs ys) (is_prefix_and_own kind ys xs) _ _ (prefix_grows xs ys zs) (refusal_grows kind ys xs zs) h

-- the answers of a longer list are those of the list, and more
grown_by : (b : Bool) (r : List ℕ) (ys zs : List (List ℕ)) → (more : List (List ℕ)) × (zs ≡ ys ++ more) → (more : List (List ℕ)) × (r ∷ (if b then [] else zs) ≡ (r ∷ (if b then [] else ys)) ++ more)
grown_by true r ys zs g = ([], refl)
grown_by false r ys zs g = (g.0, ap (λ l. r ∷ l) g.1)

grown_with : (o : Message) (a : Option (List ℕ)) (ys zs : List (List ℕ)) → (more : List (List ℕ)) × (zs ≡ ys ++ more) → (more : List (List ℕ)) × (with_later o a zs ≡ with_later o a ys ++ more)
grown_with o None ys zs g = g
grown_with o (Some r) ys zs g = grown_by (is_final_for o r) r ys zs g

grown : (o : Message) (id : ℕ) (L M : List Entry) → (more : List (List ℕ)) × (answers_under o id (L ++ M) ≡ answers_under o id L ++ more)
grown o id [] M = (answers_under o id M, refl)
grown o id (e ∷ L) M = grown_with o (answer_of o id e) (answers_under o id L) (answers_under o id (L ++ M)) (grown o id L M)

-- the reign of a longer list is that of the list, and more
reign_grows : (id : ℕ) (L M : List Entry) → (more : List Entry) × (reign_of id (L ++ M) ≡ reign_of id L ++ more)
reign_grows id [] M = (reign_of id M, refl)
reign_grows id (e ∷ L) M = by (gives_id id e) (reign_grows id L M)
  where
    by : (b : Bool) → (more : List Entry) × (reign_of id (L ++ M) ≡ reign_of id L ++ more) → (more : List Entry) × (elim b [ true ↦ [] | false ↦ e ∷ reign_of id (L ++ M) ] ≡ (elim b [ true ↦ [] | false ↦ e ∷ reign_of id L ]) ++ more)
    by true g = ([], refl)
    by false g = (g.0, ap (λ l. e ∷ l) g.1)

-- so are the answers in it
Answered : Message → ℕ → List Entry → List Entry → Type 0
Answered o id L M = (more : List (List ℕ)) × (answers_under o id (reign_of id (L ++ M)) ≡ answers_under o id (reign_of id L) ++ more)

answered_by : (o : Message) (id : ℕ) (L M : List Entry) → (more : List Entry) × (reign_of id (L ++ M) ≡ reign_of id L ++ more) → Answered o id L M
unfolding Answered
answered_by o id L M g = subst (λ l. (more : List (List ℕ)) × (answers_under o id l ≡ answers_under o id (reign_of id L) ++ more)) (sym g.1) (grown o id (reign_of id L) g.0)

allowed_by : (o : Message) (kind : List ℕ) (id : ℕ) (L M : List Entry) (outs : List (List ℕ)) → Answered o id L M → allowed kind (answers_under o id (reign_of id L)) outs ≡ true → allowed kind (answers_under o id (reign_of id (L ++ M))) outs ≡ true
unfolding Answered
allowed_by o kind id L M outs g h = subst (λ ys. allowed kind ys outs ≡ true) (sym g.1) (allowed_grows kind (answers_under o id (reign_of id L)) outs g.0 h)

pub answers_may_grow : AnswersMayGrow
answers_may_grow o kind sent M outs h =
    allowed_by o.request kind sent.id sent.behind M outs (answered_by o.request sent.id sent.behind M (reign_grows sent.id sent.behind M)) h

-- an end stays
end_or : (m : Option Manner) (x : Entry) (L M : List Entry) (later later' : Option Ending) (e : Ending) → (later ≡ Some e → later' ≡ Some (extended M e)) → ending_or m x L later ≡ Some e → ending_or m x (L ++ M) later' ≡ Some (extended M e)
end_or None x L M later later' e ih h = ih h
end_or (Some manner) x L M later later' e ih h = ap (option_map (extended M)) h

pub end_stays : EndStays
end_stays o since [] M e h = absurd (let bad : None ≡ Some e = h in cc)
end_stays o since (x ∷ L) M e h = end_or (manner_of o since x) x L M (ending_from o (since ++ x ∷ []) L) (ending_from o (since ++ x ∷ []) (L ++ M)) e (end_stays o (since ++ x ∷ []) L M e) h
