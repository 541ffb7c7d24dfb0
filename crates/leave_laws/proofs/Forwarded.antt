-- Each Forward that a connection took stands there as Sent or Missed.
use Rattle.std.proofs.Common.{◌≡◌, ℕ, Bool, true, false, ◌&&◌, ◌||◌, List, [], ◌∷◌, ◌++◌, refl, ap, ◌∙◌, subst, sym}
use Rattle.std.specs.Prelude.{Option, Some, None, filter}
use Rattle.std.specs.Str.{bytes_eq}
use Rattle.std.specs.List.{list_any, list_all}
use Rattle.std.proofs.lemmas.List.Folds.{list_all-append}
use Rattle.lload_names.specs.declared.names.Entry.{Entry}
use Rattle.lload_names.specs.declared.names.Letter.{Letter}
use Rattle.lload_names.specs.declared.names.Letter.TheVariants.{Forward}
use Rattle.lload_names.specs.declared.names.OpKind.{OpKind}
use Rattle.lload_names.specs.declared.names.OpName.{OpName}
use Rattle.lload_names.specs.declared.names.PartName.{PartName}
use Rattle.lload_names.specs.declared.names.What.{What}
use Rattle.lload_names.specs.declared.names.What.TheVariants as what
use Rattle.lload_spec.specs.Entries.{is_missed, is_sent, missed_op, sent_message}
use Rattle.lload_spec.specs.Journal.{Family, same_op, same_part}
use Rattle.lload_spec.specs.Lists.{last, passes}
use Rattle.lload_spec.specs.Operations.{Operation, operation}
use Rattle.lload_spec.specs.Owed.{was_forwarded}
use Rattle.lload_spec.proofs.Growth.{left, right, both}
use Rattle.lload_laws.proofs.ListLaws.{all_imply, any_imply}
use Rattle.part_laws.proofs.ListLaws.{any_before, any_behind, or_left, or_right, same_op_eq, same_op_sym}
use Rattle.part_spec.specs.ConnectionState.{ConnectionState}
use Rattle.part_spec.specs.Fit.{is_forward_of, is_taken_last, with_mark}
use Rattle.part_spec.specs.Marked.{Marked, Taken}
use Rattle.part_spec.specs.Marks.{has_connection_mark, marks_connection}
use Rattle.identity_laws.proofs.Finals.{last_any}
use Rattle.leave_laws.proofs.Lists.{any_among}
use Rattle.leave_laws.proofs.OwnRegular.{any_gives}

-- whether a Forward of this operation was taken
abbrev pub was_given : OpName → List Taken → Bool
was_given op taken = list_any (λ t. is_forward_of op t.letter) taken

-- what was taken stays so
pub mark_more : (mark : Option Taken) (taken : List Taken) (t : Taken → Bool) → list_any t taken ≡ true → list_any t (with_mark mark taken) ≡ true
mark_more None taken t k = k
mark_more (Some x) taken t k = any_before t taken (x ∷ []) k

-- what was taken last was taken
pub was_taken : (first second : Letter → Bool) (q : PartName) (taken : List Taken) → is_taken_last first second q taken ≡ true → list_any (λ t. first t.letter) taken ≡ true
was_taken first second q taken k = by (last (filter (λ y. same_part q y.sender && (first y.letter || second y.letter)) taken)) refl k
  where
    by : (o : Option Taken) → last (filter (λ y. same_part q y.sender && (first y.letter || second y.letter)) taken) ≡ o → passes (λ x. first x.letter) o ≡ true → list_any (λ t. first t.letter) taken ≡ true
    by None e j = absurd (let bad : false ≡ true = j in cc)
    by (Some x) e j = any_imply (λ y. (same_part q y.sender && (first y.letter || second y.letter)) && first y.letter) (λ y. first y.letter) taken (λ y i. right (same_part q y.sender && (first y.letter || second y.letter)) _ i) (last_any (λ y. same_part q y.sender && (first y.letter || second y.letter)) (λ y. first y.letter) taken x e j)

module _ (F : Family) (good : Operation → Bool) where
  -- whether a Forward that was taken stands there, and is of a good operation
  abbrev pub is_placed : List Entry → Letter → Bool
  is_placed place (Forward op sort rest ask holder) = was_forwarded op place && passes good (operation F op)
  is_placed place _ = true

  abbrev pub are_placed : List Entry → List Taken → Bool
  are_placed place taken = list_all (λ t. is_placed place t.letter) taken

  placed_later : (place : List Entry) (e : Entry) (x : Letter) → is_placed place x ≡ true → is_placed (place ++ e ∷ []) x ≡ true
  placed_later place e (Forward op sort rest ask holder) h = both (was_forwarded op (place ++ e ∷ [])) _ (any_before (λ y. is_sent op y || is_missed op y) place (e ∷ []) (left (was_forwarded op place) _ h)) (right (was_forwarded op place) _ h)
  placed_later place e _ h = refl

  module _ (place : List Entry) (p : ConnectionState) (taken : List Taken) (m : Marked) (marks : has_connection_mark p m ≡ true) (old : are_placed place taken ≡ true) (right_one : (t : Taken) (op holder : OpName) (sort : OpKind) (rest : List ℕ) (ask : Bool) → m.mark ≡ Some t → t.letter ≡ Forward op sort rest ask holder → passes good (operation F op) ≡ true) where
    -- a Forward that is taken
    new_placed : (t : Taken) (x : Letter) → m.mark ≡ Some t → t.letter ≡ x → marks_connection p m.entry.what x ≡ true → is_placed (place ++ m.entry ∷ []) x ≡ true
    new_placed t (Forward op sort rest ask holder) z i k = both (was_forwarded op (place ++ m.entry ∷ [])) _ (any_behind (λ y. is_sent op y || is_missed op y) place (m.entry ∷ []) (or_left (is_sent op m.entry || is_missed op m.entry) false (by m.entry.what refl k))) (right_one t op holder sort rest ask z i)
      where
        by : (w : What) → m.entry.what ≡ w → marks_connection p w (Forward op sort rest ask holder) ≡ true → (is_sent op m.entry || is_missed op m.entry) ≡ true
        by (what.Sent id o body) e j = or_left (is_sent op m.entry) _ (ap (λ w. passes (λ n. same_op op n.op) (sent_message w)) e ∙ same_op_sym op o ∙ left (same_op o op) _ (left (same_op o op && bytes_eq body rest) _ j))
        by (what.Missed o) e j = or_right (is_sent op m.entry) _ (ap (λ w. passes (same_op op) (missed_op w)) e ∙ same_op_sym op o ∙ left (same_op o op) _ j)
        by _ e j = absurd (let bad : false ≡ true = j in cc)
    new_placed t _ z i k = refl

    pub placed_next : are_placed (place ++ m.entry ∷ []) (with_mark m.mark taken) ≡ true
    placed_next = by m.mark refl marks
      where
        olds : are_placed (place ++ m.entry ∷ []) taken ≡ true
        olds = all_imply (λ t. is_placed place t.letter) (λ t. is_placed (place ++ m.entry ∷ []) t.letter) taken (λ t k. placed_later place m.entry t.letter k) old

        by : (o : Option Taken) → m.mark ≡ o → has_connection_mark p (record { entry = m.entry; mark = o }) ≡ true → are_placed (place ++ m.entry ∷ []) (with_mark o taken) ≡ true
        by None e k = olds
        by (Some t) e k = list_all-append (λ x. is_placed (place ++ m.entry ∷ []) x.letter) taken (t ∷ []) ∙ both (list_all (λ x. is_placed (place ++ m.entry ∷ []) x.letter) taken) _ olds (both (is_placed (place ++ m.entry ∷ []) t.letter) true (new_placed t t.letter e refl k) refl)

  -- an operation whose Forward was taken
  pub was_placed : (place : List Entry) (op : OpName) (taken : List Taken) → are_placed place taken ≡ true → was_given op taken ≡ true → (was_forwarded op place && passes good (operation F op)) ≡ true
  was_placed place op taken a k = any_gives (λ t. is_forward_of op t.letter && is_placed place t.letter) taken (λ t j. one t.letter j) (any_among (λ t. is_placed place t.letter) (λ t. is_forward_of op t.letter) (λ t. is_forward_of op t.letter && is_placed place t.letter) taken (λ t i j. both (is_forward_of op t.letter) _ j i) a k)
    where
      one : (x : Letter) → (is_forward_of op x && is_placed place x) ≡ true → (was_forwarded op place && passes good (operation F op)) ≡ true
      one (Forward o sort rest ask holder) j = subst (λ n. (was_forwarded n place && passes good (operation F n)) ≡ true) (sym (same_op_eq op o (left (same_op op o) _ j))) (right (same_op op o) _ j)
      one _ j = absurd (let bad : false ≡ true = j in cc)
