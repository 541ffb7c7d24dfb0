-- What a client's list gains from one entry more at its end.
use Rattle.std.specs.Prelude.{◌≡◌, ℕ, suc, ◌≤◌, ◌<◌, Bool, ◌==◌, ◌&&◌, ◌||◌, if◌then◌else◌, List, [], ◌∷◌, ◌++◌, length, map, nat_le, nat_lt, Some, None, IsTrue, is_none}
use Rattle.std.specs.List.{list_all, list_any}
use Rattle.ldap_spec.specs.Messages.{Message}
use Rattle.lload_names.specs.declared.names.Entry.{Entry}
use Rattle.lload_names.specs.declared.names.OpName.{OpName}
use Rattle.small_spec.specs.Lists.{some_entry}
use Rattle.small_spec.specs.Entries.{operation_message, out_message}
use Rattle.small_spec.specs.Operations.{Operation, operations, operation_made, operation_in, takes_id, out_rest, outs_under, manner_of, ending_from}

-- an operation with one entry more behind it
abbrev pub later_operation : Entry → Operation → Operation
later_operation e o = record o { behind = o.behind ++ e ∷ [] }

-- the operation that an entry with this message makes at the end of a client's list
abbrev pub new_operation : ℕ → List Entry → Entry → Message → Operation
new_operation c L e m = record { name = record { client = c; k = suc (length (operations c L)) }; at = e.at; request = m; before = L; behind = [] }

-- each operation stays, with the entry behind it, and then comes the one that the entry makes
abbrev pub OperationsGrow : Type 0
OperationsGrow = (c : ℕ) (L : List Entry) (e : Entry) → operations c (L ++ e ∷ []) ≡ map (later_operation e) (operations c L) ++ operation_made c (suc (length (operations c L))) L e [] (operation_message e.what)

-- the entry is the last Out of an identifier where no operation took it since, the entry's own included
abbrev pub OutsGrow : Type 0
OutsGrow = (id : ℕ) (L : List Entry) (e : Entry) → outs_under id (L ++ e ∷ []) ≡ outs_under id L ++ (if list_any (takes_id id) L || takes_id id e then [] else out_rest id (out_message e.what))

-- some entry of the longer list passes a test exactly where one did, or the new one does
abbrev pub AnyGrows : Type 0
AnyGrows = (test : Entry → Bool) (L : List Entry) (e : Entry) → list_any test (L ++ e ∷ []) ≡ (list_any test L || test e)

-- an operation has no end in the longer list exactly where it had none and the entry is none
abbrev pub EndingGrows : Type 0
EndingGrows = (request : Message) (L : List Entry) (e : Entry) → is_none (ending_from request [] (L ++ e ∷ [])) ≡ (is_none (ending_from request [] L) && is_none (manner_of request L e))

-- some entry passes a test that looks back exactly where one did, or the new one does
abbrev pub SomeEntryGrows : Type 0
SomeEntryGrows = (test : List Entry → Entry → Bool) (L : List Entry) (e : Entry) → some_entry test (L ++ e ∷ []) ≡ (some_entry test L || test L e)

-- whether an operation's name is of this client, with a number from 1 to n
abbrev pub is_named_within : ℕ → ℕ → Operation → Bool
is_named_within c n o = o.name.client == c && nat_lt 0 o.name.k && nat_le o.name.k n

-- the operations of a client's list are named by the client, with numbers from 1 to their count
abbrev pub OwnNames : Type 0
OwnNames = (c : ℕ) (L : List Entry) → IsTrue (list_all (is_named_within c (length (operations c L))) (operations c L))

-- there is no operation of a number beyond their count
abbrev pub NoneBeyond : Type 0
NoneBeyond = (c k : ℕ) (L : List Entry) → length (operations c L) < k → operation_in L (record { client = c; k = k }) ≡ None

-- an entry that makes an operation makes the one of the next number
abbrev pub NewOperation : Type 0
NewOperation = (c : ℕ) (L : List Entry) (e : Entry) (m : Message) → operation_message e.what ≡ Some m → operation_in (L ++ e ∷ []) (record { client = c; k = suc (length (operations c L)) }) ≡ Some (new_operation c L e m)

-- an entry that makes an operation adds one to their count
abbrev pub CountRises : Type 0
CountRises = (c : ℕ) (L : List Entry) (e : Entry) (m : Message) → operation_message e.what ≡ Some m → length (operations c (L ++ e ∷ [])) ≡ suc (length (operations c L))

-- an entry that makes none leaves their count
abbrev pub CountStays : Type 0
CountStays = (c : ℕ) (L : List Entry) (e : Entry) → operation_message e.what ≡ None → length (operations c (L ++ e ∷ [])) ≡ length (operations c L)

-- what held of each operation, and so holds of it with the entry behind it, holds of all where it holds of the new one
abbrev pub AllOperationsGrow : Type 0
AllOperationsGrow = (test test' : Operation → Bool) (c : ℕ) (L : List Entry) (e : Entry) → ((o : Operation) → IsTrue (test' o) → IsTrue (test (later_operation e o))) → IsTrue (list_all test' (operations c L)) → IsTrue (list_all test (operation_made c (suc (length (operations c L))) L e [] (operation_message e.what))) → IsTrue (list_all test (operations c (L ++ e ∷ [])))

-- what holds of each operation holds of the one with this name
abbrev pub HoldsOfNamed : Type 0
HoldsOfNamed = (test : Operation → Bool) (L : List Entry) (op : OpName) (o : Operation) → operation_in L op ≡ Some o → IsTrue (list_all test (operations op.client L)) → IsTrue (test o)

-- there is an operation of each number from 1 to their count
abbrev pub NamedIsThere : Type 0
NamedIsThere = (c k : ℕ) (L : List Entry) → 0 < k → k ≤ length (operations c L) → (o : Operation) × (operation_in L (record { client = c; k = k }) ≡ Some o)
