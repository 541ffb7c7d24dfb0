-- Operations of a client's list: each is the one of its name, and stays so as the list grows; the one that an entry makes;
-- and the last Bind.
use Rattle.std.proofs.Common.{◌≡◌, ℕ, suc, ◌≤◌, Bool, true, false, ◌==◌, ◌&&◌, not, List, [], ◌∷◌, ◌++◌, length, append_assoc, refl, ap, ◌∙◌, sym, subst}
use Rattle.std.specs.Prelude.{Option, Some, None, cond, find, filter, map, option_map, nat_lt}
use Rattle.std.specs.List.{list_any, list_all}
use Rattle.std.specs.Option.{option_or}
use Rattle.std.proofs.lemmas.Bool.{leb-true}
use Rattle.std.proofs.lemmas.List.{append-nil}
use Rattle.std.proofs.lemmas.List.Elements.{filter-append}
use Rattle.std.proofs.lemmas.List.Folds.{find-append}
use Rattle.ldap_spec.specs.Kinds.{kind_of, same_kind}
use Rattle.ldap_spec.specs.Messages.{Message}
use Rattle.ldap_spec.specs.Responses.{has_code}
use Rattle.ldap_spec.specs.Tags.{bind_in_progress}
use Rattle.lload_names.specs.declared.names.Entry.{Entry}
use Rattle.lload_names.specs.declared.names.OpKind.TheVariants.{Bind}
use Rattle.lload_spec.specs.Entries.{operation_message}
use Rattle.lload_spec.specs.Fifo.{is_in_progress}
use Rattle.lload_spec.specs.Journal.{same_op}
use Rattle.lload_spec.specs.Lists.{last, passes}
use Rattle.lload_spec.specs.Operations.{Operation, operations, operation_in, operation_made, is_of, is_bind_in, last_bind, outs_under, is_final_for}
use Rattle.lload_spec.proofs.Growth.{left, right}
use Rattle.lload_laws.specs.ClientGrowth.{later_operation, new_operation, is_named_within}
use Rattle.lload_laws.proofs.ClientGrowth.{operations_grow, operations_one, own_names, old_operations, holds_of_named, outs_grow}
use Rattle.lload_laws.proofs.ListLaws.{all-map, filter-map, none_found}
use Rattle.part_laws.proofs.ListLaws.{any_before, last_push, not_true, same_number, same_op_refl, same_op_sym}
use Rattle.client_share_laws.proofs.OperationNames.{are_apart, named_apart}
use Rattle.client_answer_laws.proofs.Each.{Each}
use Rattle.client_answer_laws.proofs.Waits.{fresh_number}

-- The one of a name.

abbrev is_own_in : List Operation → Operation → Type 0
is_own_in os o = find (λ q. same_op o.name q.name) os ≡ Some o

own_behind : (o : Operation) (os qs : List Operation) → list_all (λ q. not (same_op o.name q.name)) qs ≡ true → Each (is_own_in os) qs → Each (is_own_in (o ∷ os)) qs
own_behind o os [] h k = tt
own_behind o os (q ∷ qs) h k = (
  ap (λ b. cond b (Some o) (find (λ x. same_op q.name x.name) os)) (same_op_sym q.name o.name ∙ not_true (same_op o.name q.name) (left (not (same_op o.name q.name)) _ h)) ∙ k.0,
  own_behind o os qs (right (not (same_op o.name q.name)) _ h) k.1,
)

own_each : (os : List Operation) → are_apart os ≡ true → Each (is_own_in os) os
own_each [] h = tt
own_each (o ∷ os) h = (
  ap (λ b. cond b (Some o) (find (λ x. same_op o.name x.name) os)) (same_op_refl o.name),
  own_behind o os os (left (list_all (λ q. not (same_op o.name q.name)) os) _ h) (own_each os (right (list_all (λ q. not (same_op o.name q.name)) os) _ h)),
)

-- each operation is the one of its name
pub own_found : (c : ℕ) (place : List Entry) → Each (λ o. operation_in c place o.name ≡ Some o) (operations c place)
own_found c place = own_each (operations c place) (named_apart c 0 [] place)

-- so two of one name are one
pub one_of_name : (c : ℕ) (place : List Entry) (o q : Operation) → operation_in c place o.name ≡ Some o → operation_in c place q.name ≡ Some q → o.name ≡ q.name → o ≡ q
one_of_name c place o q h k e = let same : Some o ≡ Some q = sym h ∙ ap (operation_in c place) e ∙ k in cc

-- its number is among those of the list
pub number_within : (c k : ℕ) (place : List Entry) (o : Operation) → operation_in c place (record { client = c; k = k }) ≡ Some o → k ≤ length (operations c place)
number_within c k place o h =
    let named : (c == o.name.client && k == o.name.k) ≡ true = found_named (operations c place) h in
    let within : is_named_within c (length (operations c place)) o ≡ true = holds_of_named (is_named_within c (length (operations c place))) c place (record { client = c; k = k }) o h (own_names c place) in
    let top : o.name.k ≤ length (operations c place) = leb-true o.name.k (length (operations c place)) (right (o.name.client == c && nat_lt 0 o.name.k) _ within) in
    subst (λ n. n ≤ length (operations c place)) (sym (same_number k o.name.k (right (c == o.name.client) _ named))) top
  where
    found_named : (os : List Operation) → find (λ q. same_op (record { client = c; k = k }) q.name) os ≡ Some o → (c == o.name.client && k == o.name.k) ≡ true
    found_named [] e = absurd (let bad : None ≡ Some o = e in cc)
    found_named (q ∷ os) e = by (same_op (record { client = c; k = k }) q.name) refl e (found_named os)
      where
        by : (b : Bool) → same_op (record { client = c; k = k }) q.name ≡ b → cond b (Some q) (find (λ x. same_op (record { client = c; k = k }) x.name) os) ≡ Some o → (find (λ x. same_op (record { client = c; k = k }) x.name) os ≡ Some o → (c == o.name.client && k == o.name.k) ≡ true) → (c == o.name.client && k == o.name.k) ≡ true
        by true z j ih = let same : q ≡ o = cc in subst (λ (x : Operation). (c == x.name.client && k == x.name.k) ≡ true) same z
        by false z j ih = ih j

-- An operation of a longer list: with the same request and the same entries before it.
pub record LaterOperation (c k : ℕ) (place : List Entry) (o : Operation) : Type 0 where
  pub later : Operation
  pub found : operation_in c place (record { client = c; k = k }) ≡ Some later
  pub request : later.request ≡ o.request
  pub before : later.before ≡ o.before

pub operation_later : (c k : ℕ) (L M : List Entry) (o : Operation) → operation_in c L (record { client = c; k = k }) ≡ Some o → LaterOperation c k (L ++ M) o
operation_later c k L [] o h = subst (λ l. LaterOperation c k l o) (sym (append-nil L)) (record { later = o; found = h; request = refl; before = refl })
operation_later c k L (e ∷ M) o h =
    let next : LaterOperation c k ((L ++ e ∷ []) ++ M) (later_operation e o) = operation_later c k (L ++ e ∷ []) M (later_operation e o) (old_operations c k L e (number_within c k L o h) ∙ ap (option_map (later_operation e)) h) in
    subst (λ l. LaterOperation c k l o) (append_assoc L (e ∷ []) M) (record { later = next.later; found = next.found; request = next.request; before = next.before })

-- the operation that an entry makes
pub new_found : (c : ℕ) (L : List Entry) (e : Entry) (m : Message) → operation_message e.what ≡ Some m → operation_in c (L ++ e ∷ []) (record { client = c; k = suc (length (operations c L)) }) ≡ Some (new_operation c L e m)
new_found c L e m h =
    ap (find test) (operations_one c L e m h) ∙ find-append test (map (later_operation e) (operations c L)) (new_operation c L e m ∷ [])
    ∙ ap (λ o. option_or o (find test (new_operation c L e m ∷ []))) (none_found (is_named_within c (length (operations c L))) test (map (later_operation e) (operations c L)) other (all-map (is_named_within c (length (operations c L))) (is_named_within c (length (operations c L))) (later_operation e) (operations c L) (λ o k. k) (own_names c L)))
    ∙ ap (λ b. cond b (Some (new_operation c L e m)) None) (same_op_refl (record { client = c; k = suc (length (operations c L)) }))
  where
    test : Operation → Bool
    test o = same_op (record { client = c; k = suc (length (operations c L)) }) o.name

    and_false : (b d : Bool) → d ≡ false → (b && d) ≡ false
    and_false true d k = k
    and_false false d k = refl

    other : (o : Operation) → is_named_within c (length (operations c L)) o ≡ true → test o ≡ false
    other o k = and_false (c == o.name.client) (suc (length (operations c L)) == o.name.k) (fresh_number c L o k)

-- The last Bind.

pub each_last : {A : Type 0} (P : A → Type 0) (xs : List A) (y : A) → last xs ≡ Some y → Each P xs → P y
each_last P [] y e h = absurd (let bad : None ≡ Some y = e in cc)
each_last P (x ∷ []) y e h = let same : x ≡ y = cc in subst P same h.0
each_last P (x ∷ z ∷ zs) y e h = each_last P (z ∷ zs) y e h.1

last-map : (e : Entry) (xs : List Operation) → last (map (later_operation e) xs) ≡ option_map (later_operation e) (last xs)
last-map e [] = refl
last-map e (x ∷ []) = refl
last-map e (x ∷ y ∷ ys) = last-map e (y ∷ ys)

binds_grow : (c : ℕ) (L : List Entry) (e : Entry) → filter (is_of Bind) (operations c (L ++ e ∷ [])) ≡ map (later_operation e) (filter (is_of Bind) (operations c L)) ++ filter (is_of Bind) (operation_made c (suc (length (operations c L))) L e [] (operation_message e.what))
binds_grow c L e = ap (filter (is_of Bind)) (operations_grow c L e) ∙ filter-append (is_of Bind) (map (later_operation e) (operations c L)) (operation_made c (suc (length (operations c L))) L e [] (operation_message e.what)) ∙ ap (λ l. l ++ filter (is_of Bind) (operation_made c (suc (length (operations c L))) L e [] (operation_message e.what))) (filter-map (is_of Bind) (later_operation e) (operations c L))

none_made : (c k : ℕ) (L : List Entry) (e : Entry) (m : Option Message) → passes (λ n. passes (same_kind Bind) (kind_of n.rest)) m ≡ false → filter (is_of Bind) (operation_made c k L e [] m) ≡ []
none_made c k L e None h = refl
none_made c k L e (Some m) h = ap (λ b. cond b (record { name = record { client = c; k = k }; at = e.at; request = m; before = L; behind = [] } ∷ []) []) h

-- it stays so behind what isn't a Bind
pub last_later : (c : ℕ) (L : List Entry) (e : Entry) → is_bind_in e ≡ false → last_bind c (L ++ e ∷ []) ≡ option_map (later_operation e) (last_bind c L)
last_later c L e h = ap last (binds_grow c L e ∙ ap (λ l. map (later_operation e) (filter (is_of Bind) (operations c L)) ++ l) (none_made c (suc (length (operations c L))) L e (operation_message e.what) h) ∙ append-nil (map (later_operation e) (filter (is_of Bind) (operations c L)))) ∙ last-map e (filter (is_of Bind) (operations c L))

-- and is the new one behind a Bind
pub last_new : (c : ℕ) (L : List Entry) (e : Entry) (m : Message) → operation_message e.what ≡ Some m → passes (same_kind Bind) (kind_of m.rest) ≡ true → last_bind c (L ++ e ∷ []) ≡ Some (new_operation c L e m)
last_new c L e m h k = ap last (binds_grow c L e ∙ ap (λ l. map (later_operation e) (filter (is_of Bind) (operations c L)) ++ l) (ap (λ n. filter (is_of Bind) (operation_made c (suc (length (operations c L))) L e [] n)) h ∙ ap (λ b. cond b (new_operation c L e m ∷ []) []) k)) ∙ last_push (map (later_operation e) (filter (is_of Bind) (operations c L))) (new_operation c L e m)

-- its number, or 0
abbrev pub number_of : Option Operation → ℕ
number_of None = 0
number_of (Some b) = b.name.k

abbrev pub bind_number : ℕ → List Entry → ℕ
bind_number c place = number_of (last_bind c place)

pub number_later : (c : ℕ) (L : List Entry) (e : Entry) → is_bind_in e ≡ false → bind_number c (L ++ e ∷ []) ≡ bind_number c L
number_later c L e h = ap number_of (last_later c L e h) ∙ by (last_bind c L)
  where
    by : (o : Option Operation) → number_of (option_map (later_operation e) o) ≡ number_of o
    by None = refl
    by (Some b) = refl

-- an answer that its client got stays so
pub progress_later : (c : ℕ) (L : List Entry) (e : Entry) → is_bind_in e ≡ false → passes is_in_progress (last_bind c L) ≡ true → passes is_in_progress (last_bind c (L ++ e ∷ [])) ≡ true
progress_later c L e h k = ap (passes is_in_progress) (last_later c L e h) ∙ by (last_bind c L) k
  where
    by : (o : Option Operation) → passes is_in_progress o ≡ true → passes is_in_progress (option_map (later_operation e) o) ≡ true
    by None j = j
    by (Some b) j = ap (list_any (λ r. is_final_for b.request r && has_code bind_in_progress r)) (outs_grow b.request.id b.behind e) ∙ any_before (λ r. is_final_for b.request r && has_code bind_in_progress r) (outs_under b.request.id b.behind) _ j
