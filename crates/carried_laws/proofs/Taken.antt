-- Each Forward that was taken was given by its operation's client, so it says of it what the family says.
use Rattle.std.proofs.Common.{◌≡◌, ℕ, Bool, true, false, ◌==◌, ◌&&◌, ◌||◌, not, List, [], ◌∷◌, ◌++◌, refl, ap, ◌∙◌, sym, subst}
use Rattle.std.specs.Prelude.{Option, Some, None}
use Rattle.std.specs.List.{list_any}
use Rattle.lload_names.specs.declared.names.Letter.{Letter}
use Rattle.lload_names.specs.declared.names.Letter.TheVariants.{Forward}
use Rattle.lload_names.specs.declared.names.OpName.{OpName}
use Rattle.lload_names.specs.declared.names.PartName.{PartName}
use Rattle.lload_names.specs.declared.names.PartName.TheVariants.{Desk, Client, Up as Connection}
use Rattle.lload_names.specs.declared.names.Posted.{Posted}
use Rattle.lload_spec.specs.Journal.{Family, same_part}
use Rattle.lload_spec.specs.Lists.{passes, where_there}
use Rattle.lload_spec.specs.Operations.{operation, operation_in}
use Rattle.lload_spec.specs.Settings.{Settings}
use Rattle.lload_spec.proofs.Growth.{left, right, both}
use Rattle.part_laws.proofs.ListLaws.{eqb_sym, eqb_same, false_by, same_number, same_op_eq, same_op_refl}
use Rattle.client_answer_laws.proofs.Known.{or_false_left, or_false_right}
use Rattle.part_spec.specs.Fit.{ClientLedger, ConnectionLedger, DeskLedger, empty_client_ledger, empty_connection_ledger, empty_desk_ledger, step_client_ledger, step_connection_ledger, step_desk_ledger, fits_client, fits_connection, fits_desk, are_fit_from, is_unfit, is_forward_of, is_of_its_kind, is_free_for, is_held_for}
use Rattle.part_spec.specs.ConnectionState.{is_bind}
use Rattle.part_spec.specs.Gives.{gives}
use Rattle.part_spec.specs.Marked.{Marked, Taken, letters_to}
use Rattle.joined_laws.specs.Joined.{Joined}
use Rattle.joined_laws.proofs.Taken.{is_mark_from, was_given, is_fit_there}
use Rattle.carried_laws.specs.Laws.{ForwardsAreRight, says_rightly, is_forward_right, are_forwards_right}
use Rattle.carried_laws.proofs.Forwards.{is_right_at, are_right_at, client_gives_right}

-- whether a letter is a Forward of an operation of this client that says of it what the family doesn't
abbrev is_wrong : Settings → Family → ℕ → Letter → Bool
is_wrong s F c (Forward op kind rest ask holder) = op.client == c && not (is_forward_right s F (Forward op kind rest ask holder))
is_wrong s F c _ = false

of_client : (sender : PartName) (n : ℕ) → same_part sender (Client n) ≡ true → same_part (Client n) sender ≡ true
of_client (Client m) n h = eqb_sym n m ∙ h
of_client _ n h = absurd (let bad : false ≡ true = h in cc)

first_of : (a b c d e f : Bool) → (a && b && c && d && e && f) ≡ true → a ≡ true
first_of a b c d e f h = left a b (left (a && b) c (left (a && b && c) d (left (a && b && c && d) e (left (a && b && c && d && e) f h))))

-- none of what a client gives is wrong
none_wrong : (s : Settings) (F : Family) (c : ℕ) (q : PartName) (xs : List Posted) → are_right_at s c (F.client c) xs ≡ true → list_any (is_wrong s F c) (letters_to q xs) ≡ false
none_wrong s F c q [] h = refl
none_wrong s F c q (x ∷ xs) h = by (same_part q x.to) (none_wrong s F c q xs (right (is_right_at s c (F.client c) x.letter) _ h))
  where
    letter : (l : Letter) → is_right_at s c (F.client c) l ≡ true → is_wrong s F c l ≡ false
    letter (Forward op kind rest ask holder) k = own (op.client == c) refl
      where
        own : (b : Bool) → (op.client == c) ≡ b → (b && not (passes (says_rightly s ask kind) (operation F op))) ≡ false
        own true e = ap (λ n. not (passes (says_rightly s ask kind) (operation_in n (F.client n) op))) (same_number op.client c e) ∙ ap not k
        own false e = refl
    letter _ k = refl

    by : (b : Bool) → list_any (is_wrong s F c) (letters_to q xs) ≡ false → list_any (is_wrong s F c) ((elim b [ true ↦ x.letter ∷ [] | false ↦ [] ]) ++ letters_to q xs) ≡ false
    by true ih = ap (λ b. b || list_any (is_wrong s F c) (letters_to q xs)) (letter x.letter (left (is_right_at s c (F.client c) x.letter) _ h)) ∙ ih
    by false ih = ih

module _ (s : Settings) (F : Family) (marked : PartName → List Marked) (h : Joined s F marked) where
  given_right : (c : ℕ) → are_right_at s c (F.client c) (gives s (Client c) (marked (Client c))) ≡ true
  given_right c = subst (λ l. are_right_at s c l (gives s (Client c) (marked (Client c))) ≡ true) (h.shared.same_entries (Client c)) (client_gives_right s c (marked (Client c)))

  none_taken : (c : ℕ) (q : PartName) → list_any (λ m. is_mark_from (Client c) (is_wrong s F c) m.mark) (marked q) ≡ false
  none_taken c q = false_by (list_any (λ m. is_mark_from (Client c) (is_wrong s F c) m.mark) (marked q)) (λ k. sym (none_wrong s F c q (gives s (Client c) (marked (Client c))) (given_right c)) ∙ was_given s F marked h.linked (Client c) q (is_wrong s F c) k)

  -- a Forward of a client
  one_right : (q : PartName) (m : Marked) (sender : PartName) (l : Letter) → ((c : ℕ) → (same_part (Client c) sender && is_wrong s F c l) ≡ false) → ((op : OpName) → is_forward_of op l ≡ true → same_part sender (Client op.client) ≡ true) → is_forward_right s F l ≡ true
  one_right q m sender (Forward op kind rest ask holder) none from = by (is_forward_right s F (Forward op kind rest ask holder)) refl
    where
      by : (b : Bool) → is_forward_right s F (Forward op kind rest ask holder) ≡ b → b ≡ true
      by true e = refl
      by false e = absurd (let bad : true ≡ false = sym (both (same_part (Client op.client) sender) _ (of_client sender op.client (from op (same_op_refl op))) (both (op.client == op.client) _ (eqb_same op.client) (ap not e))) ∙ none op.client in cc)
  one_right q m sender _ none from = refl

  -- the Forwards that a connection took are fit
  from_client : (sender : PartName) (l : ConnectionLedger) (x : Letter) → fits_connection s l sender x ≡ true → (op : OpName) → is_forward_of op x ≡ true → same_part sender (Client op.client) ≡ true
  from_client sender l (Forward q kind rest ask holder) f op e = ap (λ o. same_part sender (Client o.client)) (same_op_eq op q e) ∙ first_of (same_part sender (Client q.client)) (same_part sender (Client holder.client)) (not (list_any (λ t. is_forward_of q t.letter) l.taken)) l.state.up (is_of_its_kind s l.state kind rest ask) (not (is_bind l.state) || is_free_for l.state holder && is_held_for l.state q holder) f
  from_client sender l _ f op e = absurd (let bad : false ≡ true = e in cc)

  -- the marks of a list, of which none is wrong
  abbrev NoneIn : List Marked → Type 0
  NoneIn ms = (c : ℕ) → list_any (λ m. is_mark_from (Client c) (is_wrong s F c) m.mark) ms ≡ false

  abbrev marks_right : Marked → Bool
  marks_right m = where_there (λ t. is_forward_right s F t.letter) m.mark

  mark_right : (q : PartName) (m : Marked) (from : (t : Taken) → m.mark ≡ Some t → (op : OpName) → is_forward_of op t.letter ≡ true → same_part t.sender (Client op.client) ≡ true) → ((c : ℕ) → is_mark_from (Client c) (is_wrong s F c) m.mark ≡ false) → marks_right m ≡ true
  mark_right q m from none = by m.mark refl none
    where
      by : (o : Option Taken) → m.mark ≡ o → ((c : ℕ) → is_mark_from (Client c) (is_wrong s F c) o ≡ false) → where_there (λ t. is_forward_right s F t.letter) o ≡ true
      by None e k = refl
      by (Some t) e k = one_right q m t.sender t.letter k (from t e)

  first_none : (m : Marked) (ms : List Marked) → NoneIn (m ∷ ms) → (c : ℕ) → is_mark_from (Client c) (is_wrong s F c) m.mark ≡ false
  first_none m ms n c = or_false_left (is_mark_from (Client c) (is_wrong s F c) m.mark) _ (n c)

  later_none : (m : Marked) (ms : List Marked) → NoneIn (m ∷ ms) → NoneIn ms
  later_none m ms n c = or_false_right (is_mark_from (Client c) (is_wrong s F c) m.mark) _ (n c)

  at_connection : (u : ℕ) (l : ConnectionLedger) (ms : List Marked) → NoneIn ms → are_fit_from (fits_connection s) (step_connection_ledger s) l ms ≡ true → are_forwards_right s F ms ≡ true
  at_connection u l [] n f = refl
  at_connection u l (m ∷ ms) n f =
      both (marks_right m) _ (mark_right (Connection u) m (λ t e op k. from_client t.sender l t.letter (is_fit_there (fits_connection s) l t (are_fit_from (fits_connection s) (step_connection_ledger s) (step_connection_ledger s l m) ms) (ap (λ o. not (is_unfit (fits_connection s) l o) && are_fit_from (fits_connection s) (step_connection_ledger s) (step_connection_ledger s l m) ms) (sym e) ∙ f)) op k) (first_none m ms n))
      (at_connection u (step_connection_ledger s l m) ms (later_none m ms n) (right (not (is_unfit (fits_connection s) l m.mark)) _ f))

  -- clients and the desk take none
  at_client : (c : ℕ) (l : ClientLedger) (ms : List Marked) → NoneIn ms → are_fit_from (fits_client s) (step_client_ledger s) l ms ≡ true → are_forwards_right s F ms ≡ true
  at_client c l [] n f = refl
  at_client c l (m ∷ ms) n f =
      both (marks_right m) _ (mark_right (Client c) m (λ t e op k. absurd (none t.sender t.letter op k (is_fit_there (fits_client s) l t (are_fit_from (fits_client s) (step_client_ledger s) (step_client_ledger s l m) ms) (ap (λ o. not (is_unfit (fits_client s) l o) && are_fit_from (fits_client s) (step_client_ledger s) (step_client_ledger s l m) ms) (sym e) ∙ f)))) (first_none m ms n))
      (at_client c (step_client_ledger s l m) ms (later_none m ms n) (right (not (is_unfit (fits_client s) l m.mark)) _ f))
    where
      none : (sender : PartName) (x : Letter) (op : OpName) → is_forward_of op x ≡ true → fits_client s l sender x ≡ true → ⊥
      none sender (Forward q kind rest ask holder) op k j = let bad : false ≡ true = j in cc
      none sender _ op k j = let bad : false ≡ true = k in cc

  at_desk : (l : DeskLedger) (ms : List Marked) → NoneIn ms → are_fit_from (fits_desk s) (step_desk_ledger s) l ms ≡ true → are_forwards_right s F ms ≡ true
  at_desk l [] n f = refl
  at_desk l (m ∷ ms) n f =
      both (marks_right m) _ (mark_right Desk m (λ t e op k. absurd (none t.sender t.letter op k (is_fit_there (fits_desk s) l t (are_fit_from (fits_desk s) (step_desk_ledger s) (step_desk_ledger s l m) ms) (ap (λ o. not (is_unfit (fits_desk s) l o) && are_fit_from (fits_desk s) (step_desk_ledger s) (step_desk_ledger s l m) ms) (sym e) ∙ f)))) (first_none m ms n))
      (at_desk (step_desk_ledger s l m) ms (later_none m ms n) (right (not (is_unfit (fits_desk s) l m.mark)) _ f))
    where
      none : (sender : PartName) (x : Letter) (op : OpName) → is_forward_of op x ≡ true → fits_desk s l sender x ≡ true → ⊥
      none sender (Forward q kind rest ask holder) op k j = let bad : false ≡ true = j in cc
      none sender _ op k j = let bad : false ≡ true = k in cc

pub forwards_right : ForwardsAreRight
forwards_right s F marked h Desk = at_desk s F marked h empty_desk_ledger (marked Desk) (λ c. none_taken s F marked h c Desk) (h.fit Desk)
forwards_right s F marked h (Client c) = at_client s F marked h c (empty_client_ledger c) (marked (Client c)) (λ n. none_taken s F marked h n (Client c)) (h.fit (Client c))
forwards_right s F marked h (Connection u) = at_connection s F marked h u (empty_connection_ledger s u) (marked (Connection u)) (λ n. none_taken s F marked h n (Connection u)) (h.fit (Connection u))
