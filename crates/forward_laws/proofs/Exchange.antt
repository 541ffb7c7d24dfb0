-- The exchange that a client is in. While its last Bind is live, what is expected for it comes from the connection that the
-- client holds; and once that Bind was answered with saslBindInProgress, the answer came from there.
use Rattle.std.proofs.Common.{◌≡◌, ℕ, Bool, true, false, ◌==◌, ◌&&◌, ◌||◌, not, if◌then◌else◌, List, [], ◌∷◌, ◌++◌, refl, ap, ◌∙◌, sym}
use Rattle.std.specs.Prelude.{Option, Some, None, filter, map, nat_le, unwrap_or}
use Rattle.std.specs.List.{list_any, list_all}
use Rattle.std.proofs.lemmas.List.Folds.{list_all-append}
use Rattle.lload_names.specs.declared.names.Entry.{Entry}
use Rattle.lload_names.specs.declared.names.OpName.{OpName}
use Rattle.lload_names.specs.declared.names.PartName.TheVariants.{Up as Connection}
use Rattle.lload_spec.specs.Fifo.{is_in_progress}
use Rattle.lload_spec.specs.Journal.{same_op}
use Rattle.lload_spec.specs.Lists.{passes, implies, agrees}
use Rattle.lload_spec.specs.Operations.{is_bind_in, last_bind}
use Rattle.lload_spec.proofs.Growth.{left, right, both}
use Rattle.lload_laws.proofs.ListLaws.{all_both, all_imply, any-map, any-ext, implies_by}
use Rattle.part_laws.proofs.ListLaws.{all_kept, any_before, any_filtered, any_split, eq_eqb, false_by, none_filtered, none_of_both, not_both, not_true, same_number, same_op_eq}
use Rattle.part_spec.specs.ClientState.{ClientRow, Held, AskedFor, is_bind_row, forwarded}
use Rattle.part_spec.specs.Fit.{Expected}
use Rattle.part_spec.specs.Marked.{Marked}
use Rattle.client_laws.proofs.ClientLives.{forwarded_all}
use Rattle.joined_laws.proofs.Taken.{is_mark_from}
use Rattle.fifo_laws.proofs.Quiet.{is_reply_of}
use Rattle.forward_laws.proofs.Ops.{progress_later}

-- whether an answer that is expected comes from the connection that is held
abbrev pub is_at_hold : Option Held → Expected → Bool
is_at_hold hold x = passes (λ h. h.connection == x.connection) hold

-- whether the operation of a row is the one of this number
abbrev pub is_numbered : ℕ → ClientRow → Bool
is_numbered n r = r.k == n

-- whether the desk is asked for what is expected
abbrev pub is_asked_too : List AskedFor → Expected → Bool
is_asked_too asked x = list_any (λ a. same_op x.op a.op) asked

-- whether what is expected, where it is for the operation of this number, comes from the connection that is held
abbrev pub is_held_there : ℕ → Option Held → Expected → Bool
is_held_there n hold x = implies (x.op.k == n) (is_at_hold hold x)

-- whether a row is of a Bind exactly where it is of this number
abbrev pub is_kind_right : ℕ → ClientRow → Bool
is_kind_right n r = agrees (is_bind_row r) (r.k == n)

-- the last Bind, of this number, was answered with saslBindInProgress from the connection that is held
pub record Going (c n : ℕ) (place : List Entry) (b : List Marked) (rows : List ClientRow) (hold : Option Held) : Type 0 where
  pub over : list_any (is_numbered n) rows ≡ false
  pub answered : passes is_in_progress (last_bind c place) ≡ true
  pub told : (h : Held) → hold ≡ Some h → list_any (λ m. is_mark_from (Connection h.connection) (is_reply_of (record { client = c; k = n })) m.mark) b ≡ true

pub record Exchange (c n : ℕ) (place : List Entry) (b : List Marked) (rows : List ClientRow) (hold : Option Held) (asked : List AskedFor) (in_exchange : Bool) (expected : List Expected) : Type 0 where
  pub kinds : list_all (is_kind_right n) rows ≡ true
  pub held : list_any (is_numbered n) rows ≡ true → list_all (is_held_there n hold) expected ≡ true
  pub unasked : list_all (λ x. not (is_asked_too asked x)) expected ≡ true
  pub going : in_exchange ≡ true → Going c n place b rows hold

-- whether what is expected is of this client, with a number up to n
abbrev pub is_known_up_to : ℕ → ℕ → Expected → Bool
is_known_up_to c n x = x.op.client == c && nat_le x.op.k n

module _ (c n : ℕ) (place : List Entry) (b : List Marked) (rows : List ClientRow) (hold : Option Held) (asked : List AskedFor) (in_exchange : Bool) (expected : List Expected) (h : Exchange c n place b rows hold asked in_exchange expected) where
  -- an entry that is no Bind stands behind
  pub place_more : (m : Marked) → is_bind_in m.entry ≡ false → Exchange c n (place ++ m.entry ∷ []) (b ++ m ∷ []) rows hold asked in_exchange expected
  place_more m e =
      record {
        kinds = h.kinds;
        held = h.held;
        unasked = h.unasked;
        going = λ k. record {
          over = (h.going k).over;
          answered = progress_later c place m.entry e (h.going k).answered;
          told = λ x j. any_before (λ y. is_mark_from (Connection x.connection) (is_reply_of (record { client = c; k = n })) y.mark) b (m ∷ []) ((h.going k).told x j);
        };
      }

  -- fewer rows
  pub rows_less : (t : ClientRow → Bool) → Exchange c n place b (filter t rows) hold asked in_exchange expected
  rows_less t =
      record {
        kinds = all_kept (is_kind_right n) t rows h.kinds;
        held = λ k. h.held (any_filtered (is_numbered n) t rows k);
        unasked = h.unasked;
        going = λ k. record { over = false_by (list_any (is_numbered n) (filter t rows)) (λ j. sym (h.going k).over ∙ any_filtered (is_numbered n) t rows j); answered = (h.going k).answered; told = (h.going k).told };
      }

  -- less is expected
  pub expected_less : (t : Expected → Bool) → Exchange c n place b rows hold asked in_exchange (filter t expected)
  expected_less t =
      record {
        kinds = h.kinds;
        held = λ k. all_kept (is_held_there n hold) t expected (h.held k);
        unasked = all_kept (λ x. not (is_asked_too asked x)) t expected h.unasked;
        going = h.going;
      }

  -- nothing is held any more, where the last Bind isn't live
  pub let_go : list_any (is_numbered n) rows ≡ false → Exchange c n place b rows None asked in_exchange expected
  let_go e =
      record {
        kinds = h.kinds;
        held = λ k. not_both (list_any (is_numbered n) rows) k e;
        unasked = h.unasked;
        going = λ k. record { over = (h.going k).over; answered = (h.going k).answered; told = λ x j. absurd (let bad : None ≡ Some x = j in cc) };
      }

  -- the client is gone
  pub ended : Exchange c n place b [] None asked in_exchange expected
  ended =
      record {
        kinds = refl;
        held = λ k. absurd (let bad : false ≡ true = k in cc);
        unasked = h.unasked;
        going = λ k. record { over = refl; answered = (h.going k).answered; told = λ x j. absurd (let bad : None ≡ Some x = j in cc) };
      }

  -- the desk is asked for one more, whose number is above all that is expected
  pub asked_more : (a : AskedFor) → list_all (λ x. not (x.op.k == a.op.k)) expected ≡ true → Exchange c n place b rows hold (asked ++ a ∷ []) in_exchange expected
  asked_more a e =
      record {
        kinds = h.kinds;
        held = h.held;
        unasked = all_imply (λ x. not (is_asked_too asked x) && not (x.op.k == a.op.k)) (λ x. not (is_asked_too (asked ++ a ∷ []) x)) expected (λ x k. ap not (none_of_both (λ y. same_op x.op y.op) asked (a ∷ []) (not_true (is_asked_too asked x) (left (not (is_asked_too asked x)) _ k)) (none x (not_true (x.op.k == a.op.k) (right (not (is_asked_too asked x)) _ k))))) (all_both (λ x. not (is_asked_too asked x)) (λ x. not (x.op.k == a.op.k)) expected h.unasked e);
        going = h.going;
      }
    where
      none : (x : Expected) → (x.op.k == a.op.k) ≡ false → (same_op x.op a.op || false) ≡ false
      none x j = by (x.op.client == a.op.client)
        where
          by : (d : Bool) → ((d && (x.op.k == a.op.k)) || false) ≡ false
          by true = ap (λ y. y || false) j
          by false = refl

  -- a request came that is no Bind
  pub row_more : (r : ClientRow) → is_bind_row r ≡ false → (r.k == n) ≡ false → Exchange c n place b (rows ++ r ∷ []) hold asked in_exchange expected
  row_more r e k =
      record {
        kinds = list_all-append (is_kind_right n) rows (r ∷ []) ∙ both (list_all (is_kind_right n) rows) _ h.kinds (both (is_kind_right n r) true (ap (λ x. agrees x (r.k == n)) e ∙ ap (agrees false) k) refl);
        held = λ j. h.held (any_split_last j);
        unasked = h.unasked;
        going = λ j. record { over = none_of_both (is_numbered n) rows (r ∷ []) (h.going j).over (ap (λ x. x || false) k); answered = (h.going j).answered; told = (h.going j).told };
      }
    where
      any_split_last : list_any (is_numbered n) (rows ++ r ∷ []) ≡ true → list_any (is_numbered n) rows ≡ true
      any_split_last j = any_split (is_numbered n) rows (r ∷ []) (λ i. i) (λ i. absurd (let bad : true ≡ false = sym i ∙ ap (λ x. x || false) k in cc)) j

  -- A choice was learned for the operation of a row, which goes to the connection.

  same_numbers : (q u : ℕ) → list_any (is_numbered n) (map (forwarded q u) rows) ≡ list_any (is_numbered n) rows
  same_numbers q u = any-map (is_numbered n) (forwarded q u) rows ∙ any-ext (λ r. is_numbered n (forwarded q u r)) (is_numbered n) rows one
    where
      one : (r : ClientRow) → is_numbered n (forwarded q u r) ≡ is_numbered n r
      one r = by (r.k == q)
        where
          by : (d : Bool) → is_numbered n (if d then record r { connection = Some (unwrap_or r.connection u) } else r) ≡ is_numbered n r
          by true = refl
          by false = refl

  same_kinds : (q u : ℕ) → list_all (is_kind_right n) (map (forwarded q u) rows) ≡ true
  same_kinds q u = forwarded_all (is_kind_right n) q u rows (λ r v. refl) ∙ h.kinds

  fewer : (op : OpName) → list_all (λ y. not (is_asked_too (filter (λ a. not (same_op op a.op)) asked) y)) expected ≡ true
  fewer op = all_imply (λ y. not (is_asked_too asked y)) (λ y. not (is_asked_too (filter (λ a. not (same_op op a.op)) asked) y)) expected (λ y k. ap not (false_by (is_asked_too (filter (λ a. not (same_op op a.op)) asked) y) (λ j. sym (not_true (is_asked_too asked y) k) ∙ any_filtered (λ a. same_op y.op a.op) (λ a. not (same_op op a.op)) asked j))) h.unasked

  chosen_unasked : (op : OpName) (x : Expected) → x.op ≡ op → list_all (λ y. not (is_asked_too (filter (λ a. not (same_op op a.op)) asked) y)) (expected ++ x ∷ []) ≡ true
  chosen_unasked op x e =
      list_all-append (λ y. not (is_asked_too (filter (λ a. not (same_op op a.op)) asked) y)) expected (x ∷ [])
      ∙ both (list_all (λ y. not (is_asked_too (filter (λ a. not (same_op op a.op)) asked) y)) expected) _ (fewer op)
      (both (not (is_asked_too (filter (λ a. not (same_op op a.op)) asked) x)) true (ap not (ap (λ o. list_any (λ a. same_op o a.op) (filter (λ a. not (same_op op a.op)) asked)) e ∙ none_filtered (λ a. same_op op a.op) (λ a. not (same_op op a.op)) asked (λ a k. ap not k))) refl)

  -- what the desk was asked for is chosen
  pub asked_less : (op : OpName) → Exchange c n place b rows hold (filter (λ a. not (same_op op a.op)) asked) in_exchange expected
  asked_less op = record { kinds = h.kinds; held = h.held; unasked = fewer op; going = h.going }

  -- the operation isn't the last Bind
  pub other_chosen : (op : OpName) (u q : ℕ) (x : Expected) → x.op ≡ op → (op.k == n) ≡ false → Exchange c n place b (map (forwarded q u) rows) hold (filter (λ a. not (same_op op a.op)) asked) in_exchange (expected ++ x ∷ [])
  other_chosen op u q x e k =
      record {
        kinds = same_kinds q u;
        held = λ j. list_all-append (is_held_there n hold) expected (x ∷ []) ∙ both (list_all (is_held_there n hold) expected) _ (h.held (sym (same_numbers q u) ∙ j)) (both (is_held_there n hold x) true (ap (λ d. implies d (is_at_hold hold x)) (ap (λ o. o.k == n) e ∙ k)) refl);
        unasked = chosen_unasked op x e;
        going = λ j. record { over = same_numbers q u ∙ (h.going j).over; answered = (h.going j).answered; told = (h.going j).told };
      }

  -- it is, and was asked for
  pub bind_chosen : (op : OpName) (u q : ℕ) (x : Expected) (held' : Held) → x.op ≡ op → x.connection ≡ held'.connection → (op.k == n) ≡ true → (op.client == c) ≡ true → list_any (is_numbered n) rows ≡ true → list_any (λ a. same_op op a.op) asked ≡ true → list_all (λ y. y.op.client == c) expected ≡ true → Exchange c n place b (map (forwarded q u) rows) (Some held') (filter (λ a. not (same_op op a.op)) asked) in_exchange (expected ++ x ∷ [])
  bind_chosen op u q x held' e at k own live was within =
      record {
        kinds = same_kinds q u;
        held = λ j. list_all-append (is_held_there n (Some held')) expected (x ∷ []) ∙ both (list_all (is_held_there n (Some held')) expected) _ (all_imply (λ y. not (is_asked_too asked y) && (y.op.client == c)) (is_held_there n (Some held')) expected (λ y i. implies_by (y.op.k == n) _ (λ z. absurd (other y i z))) (all_both (λ y. not (is_asked_too asked y)) (λ y. y.op.client == c) expected h.unasked within)) (both (is_held_there n (Some held') x) true (implies_by (x.op.k == n) _ (λ z. eq_eqb held'.connection x.connection (sym at))) refl);
        unasked = chosen_unasked op x e;
        going = λ j. not_both (list_any (is_numbered n) rows) live (h.going j).over;
      }
    where
      other : (y : Expected) → (not (is_asked_too asked y) && (y.op.client == c)) ≡ true → (y.op.k == n) ≡ true → ⊥
      other y i z =
          let same : same_op y.op op ≡ true = both (y.op.client == op.client) _ (eq_eqb y.op.client op.client (same_number y.op.client c (right (not (is_asked_too asked y)) _ i) ∙ sym (same_number op.client c own))) (eq_eqb y.op.k op.k (same_number y.op.k n z ∙ sym (same_number op.k n k))) in
          let wanted : is_asked_too asked y ≡ true = ap (λ o. list_any (λ a. same_op o a.op) asked) (same_op_eq y.op op same) ∙ was in
          let bad : false ≡ true = sym (not_true (is_asked_too asked y) (left (not (is_asked_too asked y)) _ i)) ∙ wanted in absurd (cc)
