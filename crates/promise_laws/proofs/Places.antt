-- Where requests, Sents, answers and Outs stand in their lists.
use Rattle.std.proofs.Common.{◌≡◌, inl, inr, ℕ, Bool, true, false, ◌==◌, ◌&&◌, if◌then◌else◌, List, [], ◌∷◌, ◌++◌, suc, ◌+◌, Option, Some, None, arith, refl, ap, ◌∙◌, sym, subst, append_assoc}
use Rattle.std.specs.Prelude.{cond, find}
use Rattle.std.proofs.lemmas.Bool.Decides.{nat_tests}
use Rattle.ldap_spec.specs.Messages.{Message}
use Rattle.ldap_spec.specs.Kinds.{kind_of, fits}
use Rattle.lload_names.specs.declared.names.Entry.{Entry}
use Rattle.lload_names.specs.declared.names.What.{What}
use Rattle.lload_names.specs.declared.names.What.TheVariants as what
use Rattle.lload_spec.specs.Lists.{passes}
use Rattle.lload_spec.specs.Journal.{Family}
use Rattle.lload_spec.specs.Entries.{Named, out_message, got_message, sent_message, operation_message, made_by, makes_operation}
use Rattle.lload_spec.specs.Operations.{Operation, made, operation_made, operations_from, operations, takes_id, out_rest, outs_under, is_final_for}
use Rattle.lload_spec.specs.Answers.{Sending, sending_made, sendings_from, sendings, sendings_at, all_sendings, gives_id, reign_of, answer_of, with_later, answers_under}
use Rattle.lload_spec.proofs.Growth.{left}
use Rattle.promise_laws.specs.Headline.{StandsIn, InOrder, CameIn, WentUp}

pub same_number : (m n : ℕ) → (m == n) ≡ true → m ≡ n
same_number m n e = grind (arith, nat_tests)

-- Entries that say a message.

out_is : (w : What) (m : Message) → out_message w ≡ Some m → w ≡ what.Out m.id m.rest
out_is (what.Out id rest) m e = ap (λ (o : Option Message). elim o [ None ↦ what.Out id rest | Some x ↦ what.Out x.id x.rest ]) e
out_is _ m e = absurd (cc)

got_is : (w : What) (m : Message) → got_message w ≡ Some m → w ≡ what.Got m.id m.rest
got_is (what.Got id rest) m e = ap (λ (o : Option Message). elim o [ None ↦ what.Got id rest | Some x ↦ what.Got x.id x.rest ]) e
got_is _ m e = absurd (cc)

sent_is : (w : What) (n : Named Message) → sent_message w ≡ Some n → w ≡ what.Sent n.value.id n.op n.value.rest
sent_is (what.Sent id op rest) n e = ap (λ (o : Option (Named Message)). elim o [ None ↦ what.Sent id op rest | Some x ↦ what.Sent x.value.id x.op x.value.rest ]) e
sent_is _ n e = absurd (cc)

made_is : (m n : Message) → made_by m ≡ Some n → m ≡ n
made_is m n e = by (makes_operation m) e
  where
    by : (b : Bool) → (elim b as (λ _. Option Message) [ true ↦ Some m | false ↦ None ]) ≡ Some n → m ≡ n
    by true h = ap (λ (o : Option Message). elim o [ None ↦ m | Some x ↦ x ]) h
    by false h = absurd (cc)

operation_is : (w : What) (m : Message) → operation_message w ≡ Some m → w ≡ what.In m.id m.rest
operation_is (what.In id rest) m e = ap (λ (x : Message). what.In x.id x.rest) (made_is (record { id = id; rest = rest }) m e)
operation_is _ m e = absurd (cc)

-- In order, with more entries.

abbrev pub Kind : Type 1
Kind = List ℕ → What → Type 0

skip : (Says : Kind) (rs : List (List ℕ)) (e : Entry) (es : List Entry) → InOrder Says rs es → InOrder Says rs (e ∷ es)
skip Says [] e es h = tt
skip Says (r ∷ rs) e es h = inr h

-- What the client got.

outs_stand : (id : ℕ) (es : List Entry) → InOrder (λ rest w. w ≡ what.Out id rest) (outs_under id es) es
outs_stand id [] = tt
outs_stand id (e ∷ es) = by (takes_id id e) (out_message e.what) refl (outs_stand id es)
  where
    of_out : (m : Message) (b : Bool) → (m.id == id) ≡ b → out_message e.what ≡ Some m → InOrder (λ rest w. w ≡ what.Out id rest) (outs_under id es) es → InOrder (λ rest w. w ≡ what.Out id rest) ((if b then m.rest ∷ [] else []) ++ outs_under id es) (e ∷ es)
    of_out m true k o h = inl (out_is e.what m o ∙ ap (λ i. what.Out i m.rest) (same_number m.id id k), h)
    of_out m false k o h = skip (λ rest w. w ≡ what.Out id rest) (outs_under id es) e es h

    by : (t : Bool) (o : Option Message) → out_message e.what ≡ o → InOrder (λ rest w. w ≡ what.Out id rest) (outs_under id es) es → InOrder (λ rest w. w ≡ what.Out id rest) (elim t [ true ↦ [] | false ↦ out_rest id o ++ outs_under id es ]) (e ∷ es)
    by true o k h = tt
    by false None k h = skip (λ rest w. w ≡ what.Out id rest) (outs_under id es) e es h
    by false (Some m) k h = of_out m (m.id == id) refl k h

-- What the upstream answered.

answer_is : (request : Message) (id : ℕ) (e : Entry) (r : List ℕ) → answer_of request id e ≡ Some r → e.what ≡ what.Got id r
answer_is request id e r h = by (got_message e.what) refl h
  where
    rest_is : (m : Message) (b : Bool) → (if b then Some m.rest else None) ≡ Some r → b ≡ true → m.rest ≡ r
    rest_is m true h t = ap (λ (o : Option (List ℕ)). elim o [ None ↦ m.rest | Some x ↦ x ]) h
    rest_is m false h t = absurd (cc)

    of_got : (m : Message) (b : Bool) → (m.id == id && passes (λ kind. fits kind m.rest) (kind_of request.rest)) ≡ b → got_message e.what ≡ Some m → (if b then Some m.rest else None) ≡ Some r → e.what ≡ what.Got id r
    of_got m true k g t = got_is e.what m g ∙ ap (λ i. what.Got i m.rest) (same_number m.id id (left (m.id == id) _ k)) ∙ ap (what.Got id) (rest_is m true t refl)
    of_got m false k g t = absurd (let bad : None ≡ Some r = t in cc)

    by : (o : Option Message) → got_message e.what ≡ o → (elim o as (λ _. Option (List ℕ)) [ None ↦ None | Some m ↦ if m.id == id && passes (λ kind. fits kind m.rest) (kind_of request.rest) then Some m.rest else None ]) ≡ Some r → e.what ≡ what.Got id r
    by None k g = absurd (let bad : None ≡ Some r = g in cc)
    by (Some m) k g = of_got m (m.id == id && passes (λ kind. fits kind m.rest) (kind_of request.rest)) refl k g

answers_stand : (request : Message) (id : ℕ) (es : List Entry) → InOrder (λ rest w. w ≡ what.Got id rest) (answers_under request id es) es
answers_stand request id [] = tt
answers_stand request id (e ∷ es) = by (answer_of request id e) refl (answers_stand request id es)
  where
    later : (b : Bool) → InOrder (λ rest w. w ≡ what.Got id rest) (answers_under request id es) es → InOrder (λ rest w. w ≡ what.Got id rest) (if b then [] else answers_under request id es) es
    later true h = tt
    later false h = h

    by : (a : Option (List ℕ)) → answer_of request id e ≡ a → InOrder (λ rest w. w ≡ what.Got id rest) (answers_under request id es) es → InOrder (λ rest w. w ≡ what.Got id rest) (with_later request a (answers_under request id es)) (e ∷ es)
    by None k h = skip (λ rest w. w ≡ what.Got id rest) (answers_under request id es) e es h
    by (Some r) k h = inl (answer_is request id e r k, later (is_final_for request r) h)

further : (Says : Kind) (id : ℕ) (r : List ℕ) (rs : List (List ℕ)) (e : Entry) (es : List Entry) → (InOrder Says rs (reign_of id es) → InOrder Says rs es) → (InOrder Says (r ∷ rs) (reign_of id es) → InOrder Says (r ∷ rs) es) → InOrder Says (r ∷ rs) (e ∷ reign_of id es) → InOrder Says (r ∷ rs) (e ∷ es)
further Says id r rs e es f g (inl k) = inl (k.0, f k.1)
further Says id r rs e es f g (inr k) = inr (g k)

-- what stands in its reign stands behind the Sent
in_reign : (Says : Kind) (id : ℕ) (rs : List (List ℕ)) (es : List Entry) → InOrder Says rs (reign_of id es) → InOrder Says rs es
in_reign Says id rs [] h = h
in_reign Says id [] (e ∷ es) h = tt
in_reign Says id (r ∷ rs) (e ∷ es) h = by (gives_id id e) h (further Says id r rs e es (in_reign Says id rs es) (in_reign Says id (r ∷ rs) es))
  where
    by : (b : Bool) → InOrder Says (r ∷ rs) (elim b [ true ↦ [] | false ↦ e ∷ reign_of id es ]) → (InOrder Says (r ∷ rs) (e ∷ reign_of id es) → InOrder Says (r ∷ rs) (e ∷ es)) → InOrder Says (r ∷ rs) (e ∷ es)
    by true k more = absurd k
    by false k more = more k

pub got_stands : (o : Operation) → InOrder (λ rest w. w ≡ what.Out o.request.id rest) (outs_under o.request.id o.behind) o.behind
got_stands o = outs_stand o.request.id o.behind

pub answers_came : (o : Operation) (sent : Sending) → InOrder (λ rest w. w ≡ what.Got sent.id rest) (answers_under o.request sent.id (reign_of sent.id sent.behind)) sent.behind
answers_came o sent = in_reign (λ rest w. w ≡ what.Got sent.id rest) sent.id (answers_under o.request sent.id (reign_of sent.id sent.behind)) sent.behind (answers_stand o.request sent.id (reign_of sent.id sent.behind))

-- What is so of each element of a list.

abbrev pub Each : {A : Type 0} → (A → Type 0) → List A → Type 0
Each P [] = Unit {0}
Each P (x ∷ xs) = P x × Each P xs

each_more : {A : Type 0} (P : A → Type 0) (xs ys : List A) → Each P xs → Each P ys → Each P (xs ++ ys)
each_more P [] ys h k = k
each_more P (x ∷ xs) ys h k = (h.0, each_more P xs ys h.1 k)

each_behind : {A : Type 0} (P : A → Type 0) (xs ys : List A) → Each P (xs ++ ys) → Each P ys
each_behind P [] ys h = h
each_behind P (x ∷ xs) ys h = each_behind P xs ys h.1

of_each : {A : Type 0} (P : A → Type 0) (x : A) (xs : List A) → StandsIn x xs → Each P xs → P x
of_each P x xs h k = (each_behind P h.before (x ∷ h.behind) (subst (Each P) h.split k)).0

-- Where a request came in, and where a Sent went up.

one_further : (before : List Entry) (e : Entry) (es : List Entry) → before ++ e ∷ es ≡ (before ++ e ∷ []) ++ es
one_further before e es = sym (append_assoc before (e ∷ []) es)

operations_came : (list : List Entry) (c k : ℕ) (before es : List Entry) → list ≡ before ++ es → Each (CameIn list) (operations_from c k before es)
operations_came list c k before [] split = tt
operations_came list c k before (e ∷ es) split =
    each_more (CameIn list) (operation_made c (suc k) before e es (operation_message e.what)) _ (by (operation_message e.what) refl)
    (operations_came list c (k + made (operation_message e.what)) (before ++ e ∷ []) es (split ∙ one_further before e es))
  where
    by : (o : Option Message) → operation_message e.what ≡ o → Each (CameIn list) (operation_made c (suc k) before e es o)
    by None h = tt
    by (Some m) h = (record { entry = e; says = operation_is e.what m h; split = split }, tt)

sendings_went : (F : Family) (u : ℕ) (before es : List Entry) → F.connection u ≡ before ++ es → Each (λ sent. WentUp (F.connection sent.connection) sent) (sendings_from u before es)
sendings_went F u before [] split = tt
sendings_went F u before (e ∷ es) split =
    each_more (λ sent. WentUp (F.connection sent.connection) sent) (sending_made u before e es (sent_message e.what)) _ (by (sent_message e.what) refl)
    (sendings_went F u (before ++ e ∷ []) es (split ∙ one_further before e es))
  where
    by : (o : Option (Named Message)) → sent_message e.what ≡ o → Each (λ sent. WentUp (F.connection sent.connection) sent) (sending_made u before e es o)
    by None h = tt
    by (Some n) h = (record { entry = e; says = sent_is e.what n h; split = split }, tt)

all_went : (F : Family) (us : List ℕ) → Each (λ sent. WentUp (F.connection sent.connection) sent) (sendings_at F us)
all_went F [] = tt
all_went F (u ∷ us) = each_more (λ sent. WentUp (F.connection sent.connection) sent) (sendings u (F.connection u)) (sendings_at F us) (sendings_went F u [] (F.connection u) refl) (all_went F us)

pub went_up : (F : Family) (sent : Sending) → StandsIn sent (all_sendings F) → WentUp (F.connection sent.connection) sent
went_up F sent at = of_each (λ x. WentUp (F.connection x.connection) x) sent (all_sendings F) at (all_went F F.connections)

-- what is found stands in the list
found_stands : {A : Type 0} (test : A → Bool) (xs : List A) (y : A) → find test xs ≡ Some y → StandsIn y xs
found_stands test [] y h = absurd (let bad : None ≡ Some y = h in cc)
found_stands test (x ∷ xs) y h = more (test x) h (found_stands test xs y)
  where
    more : (b : Bool) → cond b (Some x) (find test xs) ≡ Some y → (find test xs ≡ Some y → StandsIn y xs) → StandsIn y (x ∷ xs)
    more true g rest = let same : x ≡ y = cc in record { before = []; behind = xs; split = ap (λ z. z ∷ xs) same }
    more false g rest = let k = rest g in record { before = x ∷ k.before; behind = k.behind; split = ap (λ l. x ∷ l) k.split }

pub came_in : (c : ℕ) (list : List Entry) (test : Operation → Bool) (o : Operation) → find test (operations c list) ≡ Some o → CameIn list o
came_in c list test o h = of_each (CameIn list) o (operations c list) (found_stands test (operations c list) o h) (operations_came list c 0 [] list refl)
