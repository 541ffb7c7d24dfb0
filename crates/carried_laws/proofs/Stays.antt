-- The operation of a name stays as a client's list grows, with more behind it.
use Rattle.std.proofs.Common.{◌≡◌, ℕ, suc, Bool, List, [], ◌∷◌, ◌++◌, refl, ap, ◌∙◌, sym, append_assoc}
use Rattle.std.specs.Prelude.{Some, find, map, option_map, length}
use Rattle.std.specs.Option.{option_or}
use Rattle.std.proofs.lemmas.List.{append-nil}
use Rattle.std.proofs.lemmas.List.Folds.{find-append}
use Rattle.lload_names.specs.declared.names.Entry.{Entry}
use Rattle.lload_names.specs.declared.names.OpName.{OpName}
use Rattle.lload_spec.specs.Journal.{same_op}
use Rattle.lload_spec.specs.Entries.{operation_message}
use Rattle.lload_spec.specs.Operations.{Operation, operations, operation_made, operation_in}
use Rattle.lload_laws.specs.ClientGrowth.{later_operation}
use Rattle.lload_laws.proofs.ClientGrowth.{operations_grow}
use Rattle.lload_laws.proofs.ListLaws.{find-map}

pub operation_stays : (c : ℕ) (L : List Entry) (e : Entry) (op : OpName) (o : Operation) → operation_in c L op ≡ Some o → operation_in c (L ++ e ∷ []) op ≡ Some (later_operation e o)
operation_stays c L e op o h = ap (find test) (operations_grow c L e) ∙ find-append test (map (later_operation e) (operations c L)) new ∙ ap (λ x. option_or x (find test new)) (find-map test (later_operation e) (operations c L) ∙ ap (option_map (later_operation e)) h)
  where
    test : Operation → Bool
    test x = same_op op x.name

    new : List Operation
    new = operation_made c (suc (length (operations c L))) L e [] (operation_message e.what)

-- an operation found in a longer list, with what stays of it
pub record Kept (c : ℕ) (list : List Entry) (op : OpName) (o : Operation) : Type 0 where
  pub later : Operation
  pub found : operation_in c list op ≡ Some later
  pub name : later.name ≡ o.name
  pub at : later.at ≡ o.at
  pub request : later.request ≡ o.request
  pub before : later.before ≡ o.before

pub operation_kept : (c : ℕ) (L M : List Entry) (op : OpName) (o : Operation) → operation_in c L op ≡ Some o → Kept c (L ++ M) op o
operation_kept c L [] op o h = record { later = o; found = ap (λ l. operation_in c l op) (append-nil L) ∙ h; name = refl; at = refl; request = refl; before = refl }
operation_kept c L (e ∷ M) op o h =
    let k : Kept c ((L ++ e ∷ []) ++ M) op (later_operation e o) = operation_kept c (L ++ e ∷ []) M op (later_operation e o) (operation_stays c L e op o h) in
    record { later = k.later; found = ap (λ l. operation_in c l op) (sym (append_assoc L (e ∷ []) M)) ∙ k.found; name = k.name; at = k.at; request = k.request; before = k.before }
