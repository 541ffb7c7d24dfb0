-- The choices of a client's list, and what an entry more at its end makes of them.
use Rattle.std.proofs.Common.{◌≡◌, ℕ, suc, ◌≤◌, Bool, true, false, ◌==◌, ◌&&◌, List, [], ◌∷◌, ◌++◌, refl, ap, ◌∙◌, sym, length, append_assoc, arith}
use Rattle.std.specs.Prelude.{Option, Some, None, map, filter, cond, option_map, nat_le, nat_lt}
use Rattle.std.specs.List.{list_all}
use Rattle.std.proofs.lemmas.List.{append-nil, map-append}
use Rattle.std.proofs.lemmas.List.Elements.{filter-append}
use Rattle.std.proofs.lemmas.List.Folds.{list_all-append}
use Rattle.std.proofs.lemmas.Bool.{leb-true, le-leb}
use Rattle.std.proofs.lemmas.Bool.Decides.{nat_tests}
use Rattle.ldap_spec.specs.Messages.{Message}
use Rattle.ldap_spec.specs.Kinds.{kind_of, same_kind}
use Rattle.lload_names.specs.declared.names.Entry.{Entry}
use Rattle.lload_names.specs.declared.names.OpName.{OpName}
use Rattle.lload_names.specs.declared.names.OpKind.TheVariants.{Bind}
use Rattle.lload_names.specs.declared.names.Answer.{Answer}
use Rattle.lload_names.specs.declared.names.Answer.TheVariants.{Go, Busy, Unavailable}
use Rattle.lload_spec.specs.Lists.{passes, last}
use Rattle.lload_spec.specs.Journal.{same_op}
use Rattle.lload_spec.specs.Entries.{Named, operation_message, chosen}
use Rattle.lload_spec.specs.Operations.{Operation, operations, operation_made, operation_in, is_of, is_live, is_live_at, is_bind_in, last_bind}
use Rattle.lload_spec.specs.Binding.{Choice, choice_of, choice_made, choices_from, choices, is_behind}
use Rattle.lload_spec.specs.ClientCalls.{new_choices}
use Rattle.lload_spec.proofs.Growth.{left, right, both}
use Rattle.lload_laws.specs.ClientGrowth.{later_operation, new_operation, is_named_within}
use Rattle.lload_laws.proofs.ListLaws.{filter-map, filter-ext, found_passes}
use Rattle.lload_laws.proofs.ClientGrowth.{operations_grow, own_names, old_operations, holds_of_named}
use Rattle.lload_laws.proofs.ClientSums.{later_choice, AllLive}

-- an operation that is found has the number that was looked for, which is at most their count
same_number : (a b : ℕ) → (a == b) ≡ true → a ≡ b
same_number a b e = grind (arith, nat_tests)

found_number : (c : ℕ) (L : List Entry) (op : OpName) (o : Operation) → operation_in c L op ≡ Some o → op.k ≡ o.name.k
found_number c L op o f = same_number op.k o.name.k (right (op.client == o.name.client) _ (found_passes (λ p. same_op op p.name) (operations c L) o f))

found_own : (c : ℕ) (L : List Entry) (op : OpName) (o : Operation) → operation_in c L op ≡ Some o → is_named_within c (length (operations c L)) o ≡ true
found_own c L op o f = holds_of_named (is_named_within c (length (operations c L))) c L op o f (own_names c L)

found_within : (c : ℕ) (L : List Entry) (op : OpName) (o : Operation) → operation_in c L op ≡ Some o → o.name.k ≤ length (operations c L)
found_within c L op o f = leb-true o.name.k (length (operations c L)) (right (o.name.client == c && nat_lt 0 o.name.k) _ (found_own c L op o f))

found_client : (c : ℕ) (L : List Entry) (op : OpName) (o : Operation) → operation_in c L op ≡ Some o → op.client ≡ c
found_client c L op o f = same_number op.client o.name.client (left (op.client == o.name.client) _ (found_passes (λ p. same_op op p.name) (operations c L) o f)) ∙ same_number o.name.client c (left (o.name.client == c) _ (left (o.name.client == c && nat_lt 0 o.name.k) _ (found_own c L op o f)))

later_found : (c : ℕ) (L : List Entry) (e : Entry) (op : OpName) (o : Operation) → operation_in c L op ≡ Some o → operation_in c (L ++ e ∷ []) op ≡ Some (later_operation e o)
later_found c L e op o f =
    let own : op ≡ record { client = c; k = op.k } = ap (λ d. record { client = d; k = op.k }) (found_client c L op o f) in
    ap (operation_in c (L ++ e ∷ [])) own ∙ old_operations c op.k L e (let n = found_number c L op o f in let m = found_within c L op o f in omega (arith, n, m)) ∙ ap (option_map (later_operation e)) (ap (operation_in c L) (sym own) ∙ f)

later_there : (c : ℕ) (before es : List Entry) (op : OpName) (o : Operation) → operation_in c before op ≡ Some o → (p : Operation) × (operation_in c (before ++ es) op ≡ Some p)
later_there c before [] op o f = (o, ap (λ l. operation_in c l op) (append-nil before) ∙ f)
later_there c before (e ∷ es) op o f = let p = later_there c (before ++ e ∷ []) es op (later_operation e o) (later_found c before e op o f) in (p.0, ap (λ l. operation_in c l op) (sym (append_assoc before (e ∷ []) es)) ∙ p.1)

-- what a live operation at a place is
live_there : (c : ℕ) (before : List Entry) (op : OpName) (r : Option Operation) → operation_in c before op ≡ r → passes is_live r ≡ true → (o : Operation) × (operation_in c before op ≡ Some o)
live_there c before op None h l = absurd (let bad : false ≡ true = l in cc)
live_there c before op (Some o) h l = (o, h)

choice_later : (e : Entry) (o : Operation) (a : Answer) → choice_of (later_operation e o) a ≡ map (later_choice e) (choice_of o a)
choice_later e o (Go n b) = refl
choice_later e o Busy = refl
choice_later e o Unavailable = refl

-- the choice that an entry marks, in a list with an entry more
made_later : (c : ℕ) (e : Entry) (L before es : List Entry) (q : Option (Named Answer)) → L ≡ before ++ es → choice_made c (L ++ e ∷ []) before q ≡ map (later_choice e) (choice_made c L before q)
made_later c e L before es None same = refl
made_later c e L before es (Some q) same = more (is_live_at c before q.op) refl
  where
    look : List Entry → List Choice
    look place = elim (operation_in c place q.op) [ None ↦ [] | Some o ↦ choice_of o q.value ]

    more : (b : Bool) → is_live_at c before q.op ≡ b → cond b (look (L ++ e ∷ [])) [] ≡ map (later_choice e) (cond b (look L) [])
    more false h = refl
    more true h =
        let was = live_there c before q.op (operation_in c before q.op) refl h in
        let there = later_there c before es q.op was.0 was.1 in
        let now : operation_in c L q.op ≡ Some there.0 = ap (λ l. operation_in c l q.op) same ∙ there.1 in
        let pick : Option Operation → List Choice = λ r. elim r [ None ↦ [] | Some o ↦ choice_of o q.value ] in
        ap pick (later_found c L e q.op there.0 now) ∙ choice_later e there.0 q.value ∙ sym (ap (λ r. map (later_choice e) (pick r)) now)

choices_later : (c : ℕ) (e : Entry) (L before es : List Entry) → L ≡ before ++ es → choices_from c (L ++ e ∷ []) before es ≡ map (later_choice e) (choices_from c L before es)
choices_later c e L before [] same = refl
choices_later c e L before (x ∷ es) same = ap (λ l. l ++ choices_from c (L ++ e ∷ []) (before ++ x ∷ []) es) (made_later c e L before (x ∷ es) (chosen x.what) same) ∙ ap (λ l. map (later_choice e) (choice_made c L before (chosen x.what)) ++ l) (choices_later c e L (before ++ x ∷ []) es (same ∙ sym (append_assoc before (x ∷ []) es))) ∙ sym (map-append (later_choice e) (choice_made c L before (chosen x.what)) (choices_from c L (before ++ x ∷ []) es))

choices_append : (c : ℕ) (place before es : List Entry) (e : Entry) → choices_from c place before (es ++ e ∷ []) ≡ choices_from c place before es ++ choice_made c place (before ++ es) (chosen e.what)
choices_append c place before [] e = append-nil (choice_made c place before (chosen e.what)) ∙ ap (λ l. choice_made c place l (chosen e.what)) (sym (append-nil before))
choices_append c place before (x ∷ es) e = ap (λ l. choice_made c place before (chosen x.what) ++ l) (choices_append c place (before ++ x ∷ []) es e ∙ ap (λ l. choices_from c place (before ++ x ∷ []) es ++ choice_made c place l (chosen e.what)) (append_assoc before (x ∷ []) es)) ∙ sym (append_assoc (choice_made c place before (chosen x.what)) (choices_from c place (before ++ x ∷ []) es) (choice_made c place (before ++ (x ∷ es)) (chosen e.what)))

-- all choices of the longer list, since whenever
abbrev marked : ℕ → List Entry → Entry → List Choice
marked c L e = choices_from c L [] L ++ choice_made c L L (chosen e.what)

all_later : (c : ℕ) (L : List Entry) (e : Entry) → choices_from c (L ++ e ∷ []) [] (L ++ e ∷ []) ≡ map (later_choice e) (marked c L e)
all_later c L e = choices_append c (L ++ e ∷ []) [] L e ∙ ap (λ l. l ++ choice_made c (L ++ e ∷ []) L (chosen e.what)) (choices_later c e L [] L refl) ∙ ap (λ l. map (later_choice e) (choices_from c L [] L) ++ l) (made_later c e L L [] (chosen e.what) (sym (append-nil L))) ∙ sym (map-append (later_choice e) (choices_from c L [] L) (choice_made c L L (chosen e.what)))

-- the last Bind of the longer list
last-map : (e : Entry) (xs : List Operation) → last (map (later_operation e) xs) ≡ option_map (later_operation e) (last xs)
last-map e [] = refl
last-map e (x ∷ []) = refl
last-map e (x ∷ y ∷ ys) = last-map e (y ∷ ys)

last-push : (xs : List Operation) (x : Operation) → last (xs ++ x ∷ []) ≡ Some x
last-push [] x = refl
last-push (y ∷ []) x = refl
last-push (y ∷ z ∷ zs) x = last-push (z ∷ zs) x

binds_grow : (c : ℕ) (L : List Entry) (e : Entry) → filter (is_of Bind) (operations c (L ++ e ∷ [])) ≡ map (later_operation e) (filter (is_of Bind) (operations c L)) ++ filter (is_of Bind) (operation_made c (suc (length (operations c L))) L e [] (operation_message e.what))
binds_grow c L e = ap (filter (is_of Bind)) (operations_grow c L e) ∙ filter-append (is_of Bind) (map (later_operation e) (operations c L)) (operation_made c (suc (length (operations c L))) L e [] (operation_message e.what)) ∙ ap (λ l. l ++ filter (is_of Bind) (operation_made c (suc (length (operations c L))) L e [] (operation_message e.what))) (filter-map (is_of Bind) (later_operation e) (operations c L))

no_bind_made : (c k : ℕ) (L : List Entry) (e : Entry) (m : Option Message) → passes (λ n. passes (same_kind Bind) (kind_of n.rest)) m ≡ false → filter (is_of Bind) (operation_made c k L e [] m) ≡ []
no_bind_made c k L e None h = refl
no_bind_made c k L e (Some m) h = ap (λ b. cond b (record { name = record { client = c; k = k }; at = e.at; request = m; before = L; behind = [] } ∷ []) []) h

same_bind : (c : ℕ) (L : List Entry) (e : Entry) → is_bind_in e ≡ false → last_bind c (L ++ e ∷ []) ≡ option_map (later_operation e) (last_bind c L)
same_bind c L e h = ap last (binds_grow c L e ∙ ap (λ l. map (later_operation e) (filter (is_of Bind) (operations c L)) ++ l) (no_bind_made c (suc (length (operations c L))) L e (operation_message e.what) h) ∙ append-nil (map (later_operation e) (filter (is_of Bind) (operations c L)))) ∙ last-map e (filter (is_of Bind) (operations c L))

behind_later : (e : Entry) (b : Option Operation) (x : Choice) → is_behind (option_map (later_operation e) b) (later_choice e x).operation ≡ is_behind b x.operation
behind_later e None x = refl
behind_later e (Some b) x = refl

-- an entry that is no Bind stands behind each choice, and may mark one more
pub choices_grow : (c : ℕ) (L : List Entry) (e : Entry) → is_bind_in e ≡ false → choices c (L ++ e ∷ []) ≡ map (later_choice e) (choices c L ++ new_choices c L e)
choices_grow c L e h = ap (λ b. filter (λ x. is_behind b x.operation) (choices_from c (L ++ e ∷ []) [] (L ++ e ∷ []))) (same_bind c L e h) ∙ ap (filter (λ x. is_behind (option_map (later_operation e) (last_bind c L)) x.operation)) (all_later c L e) ∙ filter-map (λ x. is_behind (option_map (later_operation e) (last_bind c L)) x.operation) (later_choice e) (marked c L e) ∙ ap (map (later_choice e)) (filter-ext (λ x. is_behind (option_map (later_operation e) (last_bind c L)) (later_choice e x).operation) (λ x. is_behind (last_bind c L) x.operation) (marked c L e) (behind_later e (last_bind c L)) ∙ filter-append (λ x. is_behind (last_bind c L) x.operation) (choices_from c L [] L) (choice_made c L L (chosen e.what)))

-- a Bind, behind which no choice stands
new_bind : (c : ℕ) (L : List Entry) (e : Entry) (m : Option Message) → operation_message e.what ≡ m → passes (λ n. passes (same_kind Bind) (kind_of n.rest)) m ≡ true → (o : Operation) × (last_bind c (L ++ e ∷ []) ≡ Some o) × (o.name.k ≡ suc (length (operations c L)))
new_bind c L e None same h = absurd (let bad : false ≡ true = h in cc)
new_bind c L e (Some m) same h = (new_operation c L e m, ap last (binds_grow c L e ∙ ap (λ l. map (later_operation e) (filter (is_of Bind) (operations c L)) ++ l) (ap (λ n. filter (is_of Bind) (operation_made c (suc (length (operations c L))) L e [] n)) same ∙ ap (λ b. cond b (new_operation c L e m ∷ []) []) h)) ∙ last-push (map (later_operation e) (filter (is_of Bind) (operations c L))) (new_operation c L e m), refl)

filter_none : (q t : Choice → Bool) (xs : List Choice) → ((x : Choice) → q x ≡ true → t x ≡ false) → list_all q xs ≡ true → filter t xs ≡ []
filter_none q t [] h k = refl
filter_none q t (x ∷ xs) h k = ap (λ b. cond b (x ∷ filter t xs) (filter t xs)) (h x (left (q x) _ k)) ∙ filter_none q t xs h (right (q x) _ k)

abbrev is_within_count : ℕ → Choice → Bool
is_within_count n x = nat_le x.operation.name.k n

within_made : (c : ℕ) (L before : List Entry) (q : Option (Named Answer)) → list_all (is_within_count (length (operations c L))) (choice_made c L before q) ≡ true
within_made c L before None = refl
within_made c L before (Some q) = more (is_live_at c before q.op) (operation_in c L q.op) refl
  where
    picked : (o : Operation) (a : Answer) → is_within_count (length (operations c L)) (record { operation = o; connection = 0 }) ≡ true → list_all (is_within_count (length (operations c L))) (choice_of o a) ≡ true
    picked o (Go n b) h = both _ _ h refl
    picked o Busy h = refl
    picked o Unavailable h = refl

    more : (b : Bool) (r : Option Operation) → operation_in c L q.op ≡ r → list_all (is_within_count (length (operations c L))) (cond b (elim r [ None ↦ [] | Some o ↦ choice_of o q.value ]) []) ≡ true
    more false r h = refl
    more true None h = refl
    more true (Some o) h = picked o q.value (le-leb o.name.k (length (operations c L)) (found_within c L q.op o h))

within_all : (c : ℕ) (L before es : List Entry) → list_all (is_within_count (length (operations c L))) (choices_from c L before es) ≡ true
within_all c L before [] = refl
within_all c L before (x ∷ es) = list_all-append (is_within_count (length (operations c L))) (choice_made c L before (chosen x.what)) (choices_from c L (before ++ x ∷ []) es) ∙ both _ _ (within_made c L before (chosen x.what)) (within_all c L (before ++ x ∷ []) es)

not_behind : (c n : ℕ) (b : Operation) (x : Choice) → b.name.k ≡ suc n → is_within_count n x ≡ true → nat_lt b.name.k x.operation.name.k ≡ false
not_behind c n b x e h = grind (arith, nat_tests, e, h)

pub bind_ends_choices : (c : ℕ) (L : List Entry) (e : Entry) → is_bind_in e ≡ true → choices c (L ++ e ∷ []) ≡ []
bind_ends_choices c L e h =
    let b = new_bind c L e (operation_message e.what) refl h in
    ap (λ o. filter (λ x. is_behind o x.operation) (choices_from c (L ++ e ∷ []) [] (L ++ e ∷ []))) b.1 ∙ ap (filter (λ x. is_behind (Some b.0) x.operation)) (all_later c L e) ∙ filter-map (λ x. is_behind (Some b.0) x.operation) (later_choice e) (marked c L e) ∙ ap (map (later_choice e)) (filter_none (is_within_count (length (operations c L))) (λ x. nat_lt b.0.name.k x.operation.name.k) (marked c L e) (λ x k. not_behind c (length (operations c L)) b.0 x b.2 k) (list_all-append (is_within_count (length (operations c L))) (choices_from c L [] L) (choice_made c L L (chosen e.what)) ∙ both _ _ (within_all c L [] L) (within_made c L L (chosen e.what))))

-- the operation of a new choice is live
new_live : (c : ℕ) (p : Choice → Bool) (L : List Entry) (q : Option (Named Answer)) → AllLive (filter p (choice_made c L L q))
new_live c p L None = tt
new_live c p L (Some q) = more (operation_in c L q.op) (passes is_live (operation_in c L q.op)) refl
  where
    kept : (o : Operation) (n : ℕ) (b : Bool) → is_live o ≡ true → AllLive (cond b (record { operation = o; connection = n } ∷ []) [])
    kept o n true l = (l, tt)
    kept o n false l = tt

    picked : (o : Operation) (a : Answer) → is_live o ≡ true → AllLive (filter p (choice_of o a))
    picked o (Go n b) l = kept o n (p (record { operation = o; connection = n })) l
    picked o Busy l = tt
    picked o Unavailable l = tt

    more : (r : Option Operation) (b : Bool) → passes is_live r ≡ b → AllLive (filter p (cond b (elim r [ None ↦ [] | Some o ↦ choice_of o q.value ]) []))
    more r false h = tt
    more None true h = tt
    more (Some o) true h = picked o q.value h

pub new_choices_live : (c : ℕ) (L : List Entry) (e : Entry) → AllLive (new_choices c L e)
new_choices_live c L e = new_live c (λ x. is_behind (last_bind c L) x.operation) L (chosen e.what)
