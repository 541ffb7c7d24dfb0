-- What a client's list gains from one entry more at its end. Tests are said as `≡ true`, which is IsTrue.
use Rattle.std.proofs.Common.{◌≡◌, ℕ, suc, ◌+◌, ◌≤◌, ◌<◌, ◌⊎◌, inl, inr, Bool, true, false, ◌==◌, ◌&&◌, ◌||◌, List, [], ◌∷◌, ◌++◌, refl, ap, ◌∙◌, sym, length, append_assoc, arith}
use Rattle.std.specs.Prelude.{Option, Some, None, if◌then◌else◌, map, find, cond, option_map, is_none, nat_le, nat_lt}
use Rattle.std.specs.List.{list_all, list_any}
use Rattle.std.specs.Option.{option_or}
use Rattle.std.proofs.lemmas.List.{append-nil, map-append, length-map, length-append}
use Rattle.std.proofs.lemmas.List.Folds.{list_all-append, list_any-append, find-append}
use Rattle.std.proofs.Math.Bool.{or_assoc, or-false}
use Rattle.std.proofs.lemmas.Bool.{cases_eq, eq-eqb, ne_eqb, lt-ltb, le-leb, leb-true}
use Rattle.ldap_spec.specs.Messages.{Message}
use Rattle.lload_names.specs.declared.names.Entry.{Entry}
use Rattle.lload_names.specs.declared.names.OpName.{OpName}
use Rattle.small_spec.specs.Lists.{some_split_from}
use Rattle.small_spec.specs.Journal.{same_op}
use Rattle.small_spec.specs.Entries.{operation_message, out_message}
use Rattle.small_spec.specs.Operations.{Operation, Manner, Ending, made, operations, operations_from, operation_made, operation_in, takes_id, out_rest, outs_under, manner_of, ending_from, ending_or}
use Rattle.small_spec.proofs.Growth.{right, both}
use Rattle.small_laws.specs.ClientGrowth.{later_operation, new_operation, is_named_within, OperationsGrow, OutsGrow, AnyGrows, EndingGrows, SomeEntryGrows, OwnNames, NoneBeyond, NewOperation, CountRises, CountStays, AllOperationsGrow, HoldsOfNamed, NamedIsThere}
use Rattle.small_laws.proofs.ListLaws.{find-map, found, none_found, all-map}

-- the operation that an entry makes, with one entry more behind it
made_later : (c k : ℕ) (before : List Entry) (x : Entry) (L : List Entry) (e : Entry) (m : Option Message) → operation_made c k before x (L ++ e ∷ []) m ≡ map (later_operation e) (operation_made c k before x L m)
made_later c k before x L e None = refl
made_later c k before x L e (Some m) = refl

made_count : (c k : ℕ) (before : List Entry) (x : Entry) (L : List Entry) (m : Option Message) → length (operation_made c k before x L m) ≡ made m
made_count c k before x L None = refl
made_count c k before x L (Some m) = refl

operations_grow_from : (c k : ℕ) (before L : List Entry) (e : Entry) → operations_from c k before (L ++ e ∷ []) ≡ map (later_operation e) (operations_from c k before L) ++ operation_made c (suc (k + length (operations_from c k before L))) (before ++ L) e [] (operation_message e.what)
operations_grow_from c k before [] e = append-nil (operation_made c (suc k) before e [] (operation_message e.what)) ∙ ap (λ n. operation_made c (suc n) before e [] (operation_message e.what)) count ∙ ap (λ l. operation_made c (suc (k + 0)) l e [] (operation_message e.what)) (sym (append-nil before))
  where
    count : k ≡ k + 0
    count = omega arith
operations_grow_from c k before (x ∷ L) e = ap (λ l. l ++ operations_from c (k + made mx) (before ++ x ∷ []) (L ++ e ∷ [])) (made_later c (suc k) before x L e mx) ∙ ap (λ l. map (later_operation e) here ++ l) (operations_grow_from c (k + made mx) (before ++ x ∷ []) L e) ∙ sym (append_assoc (map (later_operation e) here) (map (later_operation e) rest) _) ∙ ap (λ l. l ++ last ((k + made mx) + length rest) ((before ++ x ∷ []) ++ L)) (sym (map-append (later_operation e) here rest)) ∙ ap (λ n. map (later_operation e) (here ++ rest) ++ last n ((before ++ x ∷ []) ++ L)) count ∙ ap (λ l. map (later_operation e) (here ++ rest) ++ last (k + length (here ++ rest)) l) (append_assoc before (x ∷ []) L)
  where
    mx : Option Message
    mx = operation_message x.what

    here : List Operation
    here = operation_made c (suc k) before x L (operation_message x.what)

    rest : List Operation
    rest = operations_from c (k + made (operation_message x.what)) (before ++ x ∷ []) L

    last : ℕ → List Entry → List Operation
    last n l = operation_made c (suc n) l e [] (operation_message e.what)

    count : (k + made (operation_message x.what)) + length rest ≡ k + length (here ++ rest)
    count = omega (arith, length-append here rest, made_count c (suc k) before x L (operation_message x.what))

pub operations_grow : OperationsGrow
operations_grow c L e = operations_grow_from c 0 [] L e ∙ ap (λ n. map (later_operation e) (operations c L) ++ operation_made c (suc n) L e [] (operation_message e.what)) count
  where
    count : 0 + length (operations c L) ≡ length (operations c L)
    count = omega arith

-- the Outs
outs_last : (id : ℕ) (b : Bool) (r : List (List ℕ)) → elim b [ true ↦ [] | false ↦ r ++ [] ] ≡ (if b then [] else r)
outs_last id true r = refl
outs_last id false r = append-nil r

outs_later : (b any t : Bool) (o ys zs r : List (List ℕ)) → zs ≡ ys ++ (if any || t then [] else r) → elim b [ true ↦ [] | false ↦ o ++ zs ] ≡ elim b [ true ↦ [] | false ↦ o ++ ys ] ++ (if (b || any) || t then [] else r)
outs_later true any t o ys zs r h = refl
outs_later false any t o ys zs r h = ap (λ l. o ++ l) h ∙ sym (append_assoc o ys (if any || t then [] else r))

pub outs_grow : OutsGrow
outs_grow id [] e = outs_last id (takes_id id e) (out_rest id (out_message e.what))
outs_grow id (x ∷ L) e = outs_later (takes_id id x) (list_any (takes_id id) L) (takes_id id e) (out_rest id (out_message x.what)) (outs_under id L) (outs_under id (L ++ e ∷ [])) (out_rest id (out_message e.what)) (outs_grow id L e)

-- tests of some entry
pub any_grows : AnyGrows
any_grows test L e = list_any-append test L (e ∷ []) ∙ ap (λ b. list_any test L || b) (or-false (test e))

some_grows_from : (test : List Entry → Entry → Bool) (P L : List Entry) (e : Entry) → some_split_from (λ before x behind. test before x) P (L ++ e ∷ []) ≡ (some_split_from (λ before x behind. test before x) P L || test (P ++ L) e)
some_grows_from test P [] e = or-false (test P e) ∙ ap (λ l. test l e) (sym (append-nil P))
some_grows_from test P (x ∷ L) e = ap (λ b. test P x || b) (some_grows_from test (P ++ x ∷ []) L e ∙ ap (λ l. some_split_from (λ before y behind. test before y) (P ++ x ∷ []) L || test l e) (append_assoc P (x ∷ []) L)) ∙ sym (or_assoc (test P x) (some_split_from (λ before y behind. test before y) (P ++ x ∷ []) L) (test (P ++ (x ∷ L)) e))

pub some_entry_grows : SomeEntryGrows
some_entry_grows test L e = some_grows_from test [] L e

-- the end of an operation
end_last : (m : Option Manner) (e : Entry) → is_none (ending_or m e [] None) ≡ is_none m
end_last None e = refl
end_last (Some manner) e = refl

end_later : (m : Option Manner) (x : Entry) (L M : List Entry) (later later' : Option Ending) (b : Bool) → is_none later' ≡ (is_none later && b) → is_none (ending_or m x M later') ≡ (is_none (ending_or m x L later) && b)
end_later None x L M later later' b h = h
end_later (Some manner) x L M later later' b h = refl

ending_grows_from : (o : Message) (since L : List Entry) (e : Entry) → is_none (ending_from o since (L ++ e ∷ [])) ≡ (is_none (ending_from o since L) && is_none (manner_of o (since ++ L) e))
ending_grows_from o since [] e = end_last (manner_of o since e) e ∙ ap (λ l. is_none (manner_of o l e)) (sym (append-nil since))
ending_grows_from o since (x ∷ L) e = end_later (manner_of o since x) x L (L ++ e ∷ []) (ending_from o (since ++ x ∷ []) L) (ending_from o (since ++ x ∷ []) (L ++ e ∷ [])) (is_none (manner_of o (since ++ (x ∷ L)) e)) (ending_grows_from o (since ++ x ∷ []) L e ∙ ap (λ l. is_none (ending_from o (since ++ x ∷ []) L) && is_none (manner_of o l e)) (append_assoc since (x ∷ []) L))

pub ending_grows : EndingGrows
ending_grows o L e = ending_grows_from o [] L e

-- the names of operations
abbrev named : ℕ → ℕ → ℕ → Operation → Bool
named c j n o = o.name.client == c && nat_lt j o.name.k && nat_le o.name.k n

named_made : (c j n k : ℕ) (before : List Entry) (x : Entry) (L : List Entry) (m : Option Message) (more : List Operation) → j ≤ k → k + length (operation_made c (suc k) before x L m ++ more) ≤ n → (k + made m + length more ≤ n → list_all (named c j n) more ≡ true) → list_all (named c j n) (operation_made c (suc k) before x L m ++ more) ≡ true
named_made c j n k before x L None more low high ih = ih (omega arith)
named_made c j n k before x L (Some m) more low high ih = both _ _ (both _ _ (both (c == c) _ (eq-eqb c c refl) (lt-ltb j (suc k) (omega arith))) (le-leb (suc k) n (omega arith))) (ih (omega arith))

named_from : (c j n k : ℕ) (before L : List Entry) → j ≤ k → k + length (operations_from c k before L) ≤ n → list_all (named c j n) (operations_from c k before L) ≡ true
named_from c j n k before [] low high = refl
named_from c j n k before (x ∷ L) low high = named_made c j n k before x L (operation_message x.what) (operations_from c (k + made (operation_message x.what)) (before ++ x ∷ []) L) low high (named_from c j n (k + made (operation_message x.what)) (before ++ x ∷ []) L (omega arith))

pub own_names : OwnNames
own_names c L = named_from c 0 (length (operations c L)) 0 [] L (omega arith) (omega arith)

-- a name whose number isn't the operation's
other_number : (c k : ℕ) (o : Operation) → (k ≡ o.name.k → ⊥) → same_op (record { client = c; k = k }) o.name ≡ false
other_number c k o h = apart (c == o.name.client) (k == o.name.k) (ne_eqb k o.name.k h)
  where
    apart : (a b : Bool) → b ≡ false → (a && b) ≡ false
    apart true b e = e
    apart false b e = refl

beyond : (c k n : ℕ) (o : Operation) → n < k → is_named_within c n o ≡ true → same_op (record { client = c; k = k }) o.name ≡ false
beyond c k n o h t = let below : o.name.k ≤ n = leb-true o.name.k n (right (o.name.client == c && nat_lt 0 o.name.k) _ t) in other_number c k o (λ e. omega (arith, e))

pub none_beyond : NoneBeyond
none_beyond c k L h = none_found (is_named_within c (length (operations c L))) (λ o. same_op (record { client = c; k = k }) o.name) (operations c L) (λ o. beyond c k (length (operations c L)) o h) (own_names c L)

-- the operations of the longer list, where the entry is known to make one or none
pub operations_none : (c : ℕ) (L : List Entry) (e : Entry) → operation_message e.what ≡ None → operations c (L ++ e ∷ []) ≡ map (later_operation e) (operations c L)
operations_none c L e h = operations_grow c L e ∙ ap (λ m. map (later_operation e) (operations c L) ++ operation_made c (suc (length (operations c L))) L e [] m) h ∙ append-nil (map (later_operation e) (operations c L))

pub operations_one : (c : ℕ) (L : List Entry) (e : Entry) (m : Message) → operation_message e.what ≡ Some m → operations c (L ++ e ∷ []) ≡ map (later_operation e) (operations c L) ++ new_operation c L e m ∷ []
operations_one c L e m h = operations_grow c L e ∙ ap (λ m'. map (later_operation e) (operations c L) ++ operation_made c (suc (length (operations c L))) L e [] m') h

-- the operation of a name, among the old ones with the entry behind each
old_found : (L : List Entry) (e : Entry) (op : OpName) → find (λ o. same_op op o.name) (map (later_operation e) (operations op.client L)) ≡ option_map (later_operation e) (operation_in L op)
old_found L e op = find-map (λ o. same_op op o.name) (later_operation e) (operations op.client L)

pub new_operation_is_last : NewOperation
new_operation_is_last c L e m h = ap (find test) (operations_one c L e m h) ∙ find-append test (map (later_operation e) (operations c L)) (new_operation c L e m ∷ []) ∙ ap (λ o. option_or o (find test (new_operation c L e m ∷ []))) (old_found L e name ∙ ap (option_map (later_operation e)) (none_beyond c (suc (length (operations c L))) L (omega arith))) ∙ ap (λ b. cond b (Some (new_operation c L e m)) None) (both _ _ (eq-eqb c c refl) (eq-eqb (suc (length (operations c L))) (suc (length (operations c L))) refl))
  where
    name : OpName
    name = record { client = c; k = suc (length (operations c L)) }

    test : Operation → Bool
    test o = same_op (record { client = c; k = suc (length (operations c L)) }) o.name

    made_here : List Operation
    made_here = operation_made c (suc (length (operations c L))) L e [] (operation_message e.what)

pub count_rises : CountRises
count_rises c L e m h = omega (arith, ap length (operations_one c L e m h), length-append (map (later_operation e) (operations c L)) (new_operation c L e m ∷ []), length-map (operations c L) (later_operation e))

pub count_stays : CountStays
count_stays c L e h = ap length (operations_none c L e h) ∙ length-map (operations c L) (later_operation e)

-- tests of all operations
pub all_operations_grow : AllOperationsGrow
all_operations_grow test test' c L e h old new = ap (list_all test) (operations_grow c L e) ∙ list_all-append test (map (later_operation e) (operations c L)) (operation_made c (suc (length (operations c L))) L e [] (operation_message e.what)) ∙ both _ _ (all-map test' test (later_operation e) (operations c L) h old) new

pub holds_of_named : HoldsOfNamed
holds_of_named test L op o h all = found test (λ p. same_op op p.name) (operations op.client L) o h all

-- the operation of a number up to their count
abbrev There : ℕ → ℕ → List Operation → Type 0
There c k os = (o : Operation) × (find (λ p. same_op (record { client = c; k = k }) p.name) os ≡ Some o)

there_first : (c k : ℕ) (new : Operation) (more : List Operation) → new.name.client ≡ c → (k ≡ new.name.k) ⊎ (k ≡ new.name.k → ⊥) → ((k ≡ new.name.k → ⊥) → There c k more) → There c k (new ∷ more)
there_first c k new more own (inl e) later = (new, ap (λ b. cond b (Some new) (find (λ p. same_op (record { client = c; k = k }) p.name) more)) (both (c == new.name.client) (k == new.name.k) (eq-eqb c new.name.client (sym own)) (eq-eqb k new.name.k e)))
there_first c k new more own (inr d) later = let there : There c k more = later d in (there.0, ap (λ b. cond b (Some new) (find (λ p. same_op (record { client = c; k = k }) p.name) more)) (other_number c k new d) ∙ there.1)

there_made : (c n k : ℕ) (before : List Entry) (x : Entry) (L : List Entry) (m : Option Message) (more : List Operation) → n < k → k ≤ n + length (operation_made c (suc n) before x L m ++ more) → (n + made m < k → k ≤ (n + made m) + length more → There c k more) → There c k (operation_made c (suc n) before x L m ++ more)
there_made c n k before x L None more low high ih = ih (omega arith) (omega arith)
there_made c n k before x L (Some m) more low high ih = there_first c k (record { name = record { client = c; k = suc n }; at = x.at; request = m; before = before; behind = L }) more refl (cases_eq k (suc n)) (λ d. ih (omega (arith, d)) (omega arith))

there_from : (c n k : ℕ) (before L : List Entry) → n < k → k ≤ n + length (operations_from c n before L) → There c k (operations_from c n before L)
there_from c n k before [] low high = absurd (omega arith)
there_from c n k before (x ∷ L) low high = there_made c n k before x L (operation_message x.what) (operations_from c (n + made (operation_message x.what)) (before ++ x ∷ []) L) low high (there_from c (n + made (operation_message x.what)) k (before ++ x ∷ []) L)

pub named_is_there : NamedIsThere
named_is_there c k L low high = there_from c 0 k [] L low (omega arith)
