-- What a message gives of answers to an operation whose row is open: the message is an answer to it, and told; or a success,
-- which is kept back; or is none to it.
use Rattle.std.proofs.Common.{◌≡◌, ◌⊎◌, inl, inr, ℕ, Bool, true, false, ◌==◌, ◌&&◌, ◌||◌, not, if◌then◌else◌, List, [], ◌∷◌, ◌++◌, refl, ap, arith, ◌∙◌, sym, subst}
use Rattle.std.specs.Prelude.{Option, Some, None, find, flat_map, is_none, is_some, map, nat_lt, option_map}
use Rattle.std.specs.List.{list_any, list_all}
use Rattle.std.specs.Str.{bytes_eq}
use Rattle.ldap_spec.specs.Kinds.{fits, is_final, is_intermediate, kind_of, same_kind, tag_of}
use Rattle.ldap_spec.specs.Messages.{Message}
use Rattle.ldap_spec.specs.Responses.{has_code, result_code}
use Rattle.ldap_spec.specs.Tags.{bind_in_progress, success}
use Rattle.lload_names.specs.declared.names.ConnKind.{ConnKind}
use Rattle.lload_names.specs.declared.names.ConnKind.TheVariants.{Regular, Bind as BindKind}
use Rattle.lload_names.specs.declared.names.EndWhy.TheVariants.{Bad as BadEnd}
use Rattle.lload_names.specs.declared.names.Entry.{Entry}
use Rattle.lload_names.specs.declared.names.OpKind.{OpKind}
use Rattle.lload_names.specs.declared.names.OpKind.TheVariants.{Bind}
use Rattle.lload_names.specs.declared.names.OpName.{OpName}
use Rattle.lload_spec.specs.BadMessages.{MessageFacts, OpenRequest, is_bad, is_bad_answer, is_bad_for, is_bad_own, is_bad_other, is_for_own, is_ignored}
use Rattle.lload_spec.specs.BadMessages as bad
use Rattle.lload_spec.specs.Journal.{same_op}
use Rattle.lload_spec.specs.Lists.{agrees, implies, passes, where_there}
use Rattle.lload_spec.specs.Operations.{is_final_for}
use Rattle.lload_spec.specs.Settings.{Settings, is_kind}
use Rattle.lload_spec.proofs.Growth.{left, right, both}
use Rattle.lload_laws.proofs.ListLaws.{all_both, all_imply, bytes_same, find-map, found, found_passes, implied, implies_by}
use Rattle.part_laws.proofs.ListLaws.{eq_eqb, false_by, not_both, not_true, same_number}
use Rattle.part_spec.specs.BindTurn.{answered as bind_answered, keep_back, row_answer as bind_row_answer, who_answer}
use Rattle.part_spec.specs.ConnectionState.{ConnectionState, UpRow, Kept, OwnWait, behind_answer, behind_final, behind_message, behind_who, is_bind, is_bind_row, is_under, is_under_own, is_under_who, keeps_back, message_facts, open_request, with_got}
use Rattle.part_spec.specs.ConnectionTurn.{ended, holder_ended, goes_down, latency}
use Rattle.part_spec.specs.Gives.{got_letters}
use Rattle.part_spec.specs.Inputs.{act, letters_alone, nothing, reply}
use Rattle.part_spec.specs.RegularTurn.{answered, own_answer, row_answer}
use Rattle.connection_laws.proofs.Apart.{is_taken, shrinks_message}
use Rattle.fifo_laws.proofs.Quiet.{own_quiet, row_quiet, bind_row_quiet, who_quiet, holder_quiet, keeps_quiet}
use Rattle.forward_laws.proofs.Causes.{kind_eq}
use Rattle.answer_laws.proofs.Ids.{Ids, is_given, is_own_apart}
use Rattle.answer_laws.proofs.Rests.{told, quiet_told, reply_told, of_mine, mine_flat, lone_found, other_found, none_found_mine, one_mine}

-- whether a row is of an operation of this kind under this identifier, and its answer isn't kept back
abbrev pub is_open : OpKind → ℕ → UpRow → Bool
is_open kind id r = is_none r.kept && same_kind kind r.kind && (r.id == id)

-- whether this answer is kept back
abbrev pub is_kept_as : List ℕ → UpRow → Bool
is_kept_as rest r = passes (λ k. bytes_eq k.rest rest) r.kept

-- the answer to a request that a message is
abbrev pub answer_by : Message → ℕ → Message → Option (List ℕ)
answer_by request id m = if m.id == id && passes (λ kind. fits kind m.rest) (kind_of request.rest) then Some m.rest else None

-- what the own Bind meets
pub own_is : (p : ConnectionState) (m : Message) → is_for_own (message_facts p) m ≡ is_under_own p m.id
own_is p m = by p.own_bind
  where
    by : (o : Option OwnWait) → passes (λ i. i == m.id) (elim o [ None ↦ None | Some own ↦ Some own.id ]) ≡ passes (λ own. own.id == m.id) o
    by None = refl
    by (Some own) = refl

-- a message that isn't bad, and answers a row, can answer it
pub answers_well : (p : ConnectionState) (m : Message) (q : UpRow) → is_bad (message_facts p) m ≡ false → is_under_own p m.id ≡ false → find (is_under m.id) p.rows ≡ Some q → nat_lt 0 q.id ≡ true → (q.id == m.id) ≡ true → is_bad_answer m (open_request q) ≡ false
answers_well p m q h own e above same = sym (seen (is_ignored m) (is_for_own (message_facts p) m) ignored (own_is p m ∙ own)) ∙ h
  where
    ignored : is_ignored m ≡ false
    ignored = ap (λ b. b && (tag_of m.rest == 0x78)) (false_by (m.id == 0) (λ k. ap (nat_lt 0) (sym (same_number q.id m.id same ∙ same_number m.id 0 k)) ∙ above))

    found_here : find (bad.is_under m.id) (map open_request p.rows) ≡ Some (open_request q)
    found_here = find-map (bad.is_under m.id) open_request p.rows ∙ ap (option_map open_request) e

    seen : (a b : Bool) → a ≡ false → b ≡ false → (if a then false else if b then is_bad_own m else is_bad_other (message_facts p) m) ≡ is_bad_answer m (open_request q)
    seen false false x y = ap (is_bad_for (message_facts p) m) found_here
    seen true b x y = absurd (let bad : true ≡ false = x in cc)
    seen false true x y = absurd (let bad : true ≡ false = y in cc)

pub not_or : (a b : Bool) → (not a || b) ≡ false → a ≡ true
not_or true b h = refl
not_or false b h = absurd (let bad : true ≡ false = h in cc)

pub or_second : (a b : Bool) → (a || b) ≡ false → b ≡ false
or_second true b h = absurd (let bad : true ≡ false = h in cc)
or_second false b h = h

module _ (s : Settings) (op : OpName) (kind : OpKind) (id : ℕ) (req : Message) (kind_req : kind_of req.rest ≡ Some kind) (place : List Entry) (p : ConnectionState) (ids : Ids place p) (at : ℕ) (m : Message) (open_rows : list_all (of_mine op (is_open kind id)) p.rows ≡ true) (there : list_any (λ r. same_op op r.op) p.rows ≡ true) (fine : is_bad (message_facts p) m ≡ false) where
  abbrev rows_behind : List UpRow
  rows_behind = flat_map (behind_message at m) p.rows

  abbrev OpenRows : List UpRow → Type 0
  OpenRows rows = list_all (of_mine op (is_open kind id)) rows ≡ true

  abbrev GoneRows : List UpRow → Type 0
  GoneRows rows = list_all (of_mine op (λ r. false)) rows ≡ true

  abbrev KeptRows : List UpRow → Type 0
  KeptRows rows = list_all (of_mine op (is_kept_as m.rest)) rows ≡ true

  -- it is none to the operation; it is one, and told; it is the last one, and told; or it is kept back
  abbrev Beside : List UpRow → List (List ℕ) → Type 0
  Beside rows xs = (xs ≡ []) × (answer_by req id m ≡ None) × OpenRows rows

  abbrev More : List UpRow → List (List ℕ) → Type 0
  More rows xs = (xs ≡ m.rest ∷ []) × (answer_by req id m ≡ Some m.rest) × (is_final_for req m.rest ≡ false) × OpenRows rows

  abbrev Last : List UpRow → List (List ℕ) → Type 0
  Last rows xs = (xs ≡ m.rest ∷ []) × (answer_by req id m ≡ Some m.rest) × (is_final_for req m.rest ≡ true) × GoneRows rows

  abbrev KeptBack : List UpRow → List (List ℕ) → Type 0
  KeptBack rows xs = (xs ≡ []) × (answer_by req id m ≡ Some m.rest) × (is_final_for req m.rest ≡ true) × KeptRows rows × (is_bind p ≡ true)

  abbrev Steps : List UpRow → List (List ℕ) → Type 0
  Steps rows xs = Beside rows xs ⊎ (More rows xs ⊎ (Last rows xs ⊎ KeptBack rows xs))

  final_is : is_final_for req m.rest ≡ is_final kind m.rest
  final_is = ap (passes (λ k. is_final k m.rest)) kind_req

  no_answer : (m.id == id) ≡ false → answer_by req id m ≡ None
  no_answer e = ap (λ b. if b && passes (λ k. fits k m.rest) (kind_of req.rest) then Some m.rest else None) e

  an_answer : (m.id == id) ≡ true → fits kind m.rest ≡ true → answer_by req id m ≡ Some m.rest
  an_answer e k = ap (λ b. if b && passes (λ x. fits x m.rest) (kind_of req.rest) then Some m.rest else None) e ∙ ap (λ o. if passes (λ x. fits x m.rest) o then Some m.rest else None) kind_req ∙ ap (λ b. if b then Some m.rest else None) k

  -- Where no row of the operation has the message's identifier.
  kept_alone : (r : UpRow) → is_none r.kept ≡ true → (r.id == m.id) ≡ false → behind_message at m r ≡ r ∷ []
  kept_alone r k e = ap (λ b. elim b [ true ↦ behind_answer at m.rest r | false ↦ elim (is_under_who m.id r) [ true ↦ behind_who at m.rest r | false ↦ r ∷ [] ] ]) (ap (λ b. b && not (is_some r.kept)) e) ∙ ap (λ b. elim b [ true ↦ behind_who at m.rest r | false ↦ r ∷ [] ]) (by r.kept k)
    where
      by : (o : Option Kept) → is_none o ≡ true → passes (λ who. who == m.id) (elim o [ None ↦ None | Some x ↦ x.who ]) ≡ false
      by None j = refl
      by (Some x) j = absurd (let bad : false ≡ true = j in cc)

  abbrev is_unlike : UpRow → Bool
  is_unlike r = not (r.id == m.id)

  unlike_rows : list_all (of_mine op is_unlike) p.rows ≡ true → OpenRows rows_behind
  unlike_rows h = mine_flat op (is_open kind id) (λ r. is_open kind id r && is_unlike r) (behind_message at m) p.rows (shrinks_message at m) one (all_imply (λ r. of_mine op (is_open kind id) r && of_mine op is_unlike r) (of_mine op (λ r. is_open kind id r && is_unlike r)) p.rows (λ r k. join (same_op op r.op) (is_open kind id r) (is_unlike r) k) (all_both (of_mine op (is_open kind id)) (of_mine op is_unlike) p.rows open_rows h))
    where
      join : (a b d : Bool) → (implies a b && implies a d) ≡ true → implies a (b && d) ≡ true
      join true b d k = k
      join false b d k = refl

      one : (r : UpRow) → (is_open kind id r && is_unlike r) ≡ true → list_all (of_mine op (is_open kind id)) (behind_message at m r) ≡ true
      one r k =
          let o : is_open kind id r ≡ true = left (is_open kind id r) _ k in
          ap (list_all (of_mine op (is_open kind id))) (kept_alone r (left (is_none r.kept) _ (left (is_none r.kept && same_kind kind r.kind) _ o)) (not_true (r.id == m.id) (right (is_open kind id r) _ k)))
          ∙ both (of_mine op (is_open kind id) r) true (implies_by (same_op op r.op) _ (λ j. o)) refl

  unlike_id : list_all (of_mine op is_unlike) p.rows ≡ true → (m.id == id) ≡ false
  unlike_id h = by (one_mine op is_unlike p.rows there h) (one_mine op (λ r. is_open kind id r && is_unlike r) p.rows there (all_imply (λ r. of_mine op (is_open kind id) r && of_mine op is_unlike r) (of_mine op (λ r. is_open kind id r && is_unlike r)) p.rows (λ r k. join (same_op op r.op) (is_open kind id r) (is_unlike r) k) (all_both (of_mine op (is_open kind id)) (of_mine op is_unlike) p.rows open_rows h)))
    where
      join : (a b d : Bool) → (implies a b && implies a d) ≡ true → implies a (b && d) ≡ true
      join true b d k = k
      join false b d k = refl

      by : (r : UpRow) × (is_unlike r ≡ true) → (r : UpRow) × ((is_open kind id r && is_unlike r) ≡ true) → (m.id == id) ≡ false
      by x y = false_by (m.id == id) (λ k. let same : (y.0.id == m.id) ≡ true = eq_eqb y.0.id m.id (same_number y.0.id id (right (is_none y.0.kept && same_kind kind y.0.kind) _ (left (is_open kind id y.0) _ y.1)) ∙ sym (same_number m.id id k)) in sym (ap not same) ∙ right (is_open kind id y.0) _ y.1)

  -- A row that the message answers.
  module _ (q : UpRow) (e : find (is_under m.id) p.rows ≡ Some q) where
    under : is_under m.id q ≡ true
    under = found_passes (is_under m.id) p.rows q e

    id_of : (q.id == m.id) ≡ true
    id_of = left (q.id == m.id) _ under

    given : is_given p.ids.next q.id ≡ true
    given = found (λ r. is_given p.ids.next r.id) (is_under m.id) p.rows q e ids.rows

    sort : agrees (is_bind_row q) (is_bind p) ≡ true
    sort = found (λ r. agrees (is_bind_row r) (is_bind p)) (is_under m.id) p.rows q e ids.kinds

    -- it is another operation's
    other_unlike : same_op op q.op ≡ false → list_all (of_mine op is_unlike) p.rows ≡ true
    other_unlike k = all_imply (of_mine op (λ x. not (x.id == q.id))) (of_mine op is_unlike) p.rows (λ x j. subst (λ n. implies (same_op op x.op) (not (x.id == n)) ≡ true) (same_number q.id m.id id_of) j) (other_found op (is_under m.id) p.rows q ids.apart e k)

    -- it is the operation's
    module _ (mine : same_op op q.op ≡ true) (own : is_under_own p m.id ≡ false) where
      open_q : is_open kind id q ≡ true
      open_q = implied (same_op op q.op) _ (found (of_mine op (is_open kind id)) (is_under m.id) p.rows q e open_rows) mine

      kind_is : kind ≡ q.kind
      kind_is = kind_eq kind q.kind (right (is_none q.kept) _ (left (is_none q.kept && same_kind kind q.kind) _ open_q))

      this_id : (m.id == id) ≡ true
      this_id = eq_eqb m.id id (sym (same_number q.id m.id id_of) ∙ same_number q.id id (right (is_none q.kept && same_kind kind q.kind) _ open_q))

      well : is_bad_answer m (open_request q) ≡ false
      well = answers_well p m q fine own e (left (nat_lt 0 q.id) _ given) id_of

      fitting : fits q.kind m.rest ≡ true
      fitting = not_or (fits q.kind m.rest) _ well

      readable : (same_kind Bind q.kind && is_final Bind m.rest && is_none (result_code m.rest)) ≡ false
      readable = or_second (not (fits q.kind m.rest)) _ well

      fit_kind : fits kind m.rest ≡ true
      fit_kind = ap (λ k. fits k m.rest) kind_is ∙ fitting

      behind_is : behind_message at m q ≡ elim (is_final q.kind m.rest) [ true ↦ behind_final at m.rest q | false ↦ record q { answered = at } ∷ [] ]
      behind_is = ap (λ b. elim b [ true ↦ behind_answer at m.rest q | false ↦ elim (is_under_who m.id q) [ true ↦ behind_who at m.rest q | false ↦ q ∷ [] ] ]) under ∙ ap (λ b. elim b [ false ↦ q ∷ [] | true ↦ elim (is_final q.kind m.rest) [ true ↦ behind_final at m.rest q | false ↦ record q { answered = at } ∷ [] ] ]) fitting

      -- what becomes of it is so of all rows of the operation
      rows_by : (t : UpRow → Bool) (rs : List UpRow) → behind_message at m q ≡ rs → list_all (of_mine op t) rs ≡ true → list_all (of_mine op t) rows_behind ≡ true
      rows_by t rs z k = mine_flat op t (λ x. list_all (of_mine op t) (behind_message at m x)) (behind_message at m) p.rows (shrinks_message at m) (λ r j. j) (lone_found op (λ x. list_all (of_mine op t) (behind_message at m x)) (is_under m.id) p.rows q ids.apart e mine (ap (list_all (of_mine op t)) z ∙ k))

      stays_open : is_final q.kind m.rest ≡ false → OpenRows rows_behind
      stays_open f = rows_by (is_open kind id) (record q { answered = at } ∷ []) (behind_is ∙ ap (λ b. elim b [ true ↦ behind_final at m.rest q | false ↦ record q { answered = at } ∷ [] ]) f) (both (of_mine op (is_open kind id) (record q { answered = at })) true (implies_by (same_op op q.op) _ (λ j. open_q)) refl)

      more : (xs : List (List ℕ)) → xs ≡ m.rest ∷ [] → is_final q.kind m.rest ≡ false → Steps rows_behind xs
      more xs z f = inr (inl (z, an_answer this_id fit_kind, final_is ∙ ap (λ k. is_final k m.rest) kind_is ∙ f, stays_open f))

      last : (xs : List (List ℕ)) → xs ≡ m.rest ∷ [] → is_final q.kind m.rest ≡ true → behind_final at m.rest q ≡ [] → Steps rows_behind xs
      last xs z f g = inr (inr (inl (z, an_answer this_id fit_kind, final_is ∙ ap (λ k. is_final k m.rest) kind_is ∙ f, rows_by (λ r. false) [] (behind_is ∙ ap (λ b. elim b [ true ↦ behind_final at m.rest q | false ↦ record q { answered = at } ∷ [] ]) f ∙ g) refl)))

      -- a regular connection's
      regular_row : is_bind p ≡ false → Steps rows_behind (told op (letters_alone (row_answer p at m q)))
      regular_row reg = by (is_final q.kind m.rest) refl
        where
          no_bind : is_bind_row q ≡ false
          no_bind = false_by (is_bind_row q) (λ j. let bad : agrees true false ≡ true = ap (λ b. agrees b false) (sym j) ∙ ap (agrees (is_bind_row q)) (sym reg) ∙ sort in cc)

          by : (b : Bool) → is_final q.kind m.rest ≡ b → Steps rows_behind (told op (letters_alone (elim b [ false ↦ act [] (reply q.op m.rest false None) | true ↦ act [] (reply q.op m.rest true None ++ ended p q.op (latency at q)) ])))
          by false f = more (told op (reply q.op m.rest false None)) (reply_told op q.op m.rest false None [] mine refl) f
          by true f = last (told op (reply q.op m.rest true None ++ ended p q.op (latency at q))) (reply_told op q.op m.rest true None (ended p q.op (latency at q)) mine refl) f (ap (λ b. elim b [ false ↦ [] | true ↦ elim (keeps_back q m.rest) [ true ↦ record q { answered = at; kept = Some (record { rest = m.rest; who = None }) } ∷ [] | false ↦ elim (is_none (result_code m.rest)) [ true ↦ record q { answered = at } ∷ [] | false ↦ [] ] ] ]) no_bind)

      -- a bind connection's
      bind_row : is_bind p ≡ true → Steps rows_behind (told op (letters_alone (bind_row_answer s p m.rest q)))
      bind_row bp = by (is_intermediate m.rest) (has_code bind_in_progress m.rest) (keeps_back q m.rest) refl refl refl
        where
          a_bind : is_bind_row q ≡ true
          a_bind = right_is (is_bind_row q) (is_bind p) sort bp
            where
              right_is : (a b : Bool) → agrees a b ≡ true → b ≡ true → a ≡ true
              right_is true b i j = refl
              right_is false true i j = i
              right_is false false i j = j

          bind_kind : Bind ≡ q.kind
          bind_kind = kind_eq Bind q.kind a_bind

          none_final : is_intermediate m.rest ≡ true → is_final q.kind m.rest ≡ false
          none_final i = ap (λ k. is_final k m.rest) (sym bind_kind) ∙ false_by (tag_of m.rest == 0x61) (λ j. let tag : 0x61 ≡ 0x79 = sym (same_number (tag_of m.rest) 0x61 j) ∙ same_number (tag_of m.rest) 0x79 i in absurd (grind (arith, tag)))

          is_last : is_intermediate m.rest ≡ false → is_final q.kind m.rest ≡ true
          is_last i = ap (λ k. is_final k m.rest) (sym bind_kind) ∙ only (is_final Bind m.rest) (is_intermediate m.rest) (ap (λ k. fits k m.rest) bind_kind ∙ fitting) i
            where
              only : (a b : Bool) → (a || b || false) ≡ true → b ≡ false → a ≡ true
              only true b j k = refl
              only false true j k = absurd (let bad : true ≡ false = k in cc)
              only false false j k = j

          with_code : is_intermediate m.rest ≡ false → is_none (result_code m.rest) ≡ false
          with_code i = third (same_kind Bind q.kind) (is_final Bind m.rest) (is_none (result_code m.rest)) readable a_bind (ap (λ k. is_final k m.rest) bind_kind ∙ is_last i)
            where
              third : (a b d : Bool) → (a && b && d) ≡ false → a ≡ true → b ≡ true → d ≡ false
              third true true d j k l = j
              third true false d j k l = absurd (let bad : false ≡ true = l in cc)
              third false b d j k l = absurd (let bad : false ≡ true = k in cc)

          settles : is_intermediate m.rest ≡ false → keeps_back q m.rest ≡ false → behind_final at m.rest q ≡ []
          settles i k = ap (λ b. elim b [ false ↦ [] | true ↦ elim (keeps_back q m.rest) [ true ↦ record q { answered = at; kept = Some (record { rest = m.rest; who = None }) } ∷ [] | false ↦ elim (is_none (result_code m.rest)) [ true ↦ record q { answered = at } ∷ [] | false ↦ [] ] ] ]) a_bind ∙ ap (λ b. elim b [ true ↦ record q { answered = at; kept = Some (record { rest = m.rest; who = None }) } ∷ [] | false ↦ elim (is_none (result_code m.rest)) [ true ↦ record q { answered = at } ∷ [] | false ↦ [] ] ]) k ∙ ap (λ b. elim b [ true ↦ record q { answered = at } ∷ [] | false ↦ [] ]) (with_code i)

          keeps : keeps_back q m.rest ≡ true → behind_final at m.rest q ≡ record q { answered = at; kept = Some (record { rest = m.rest; who = None }) } ∷ []
          keeps k = ap (λ b. elim b [ false ↦ [] | true ↦ elim (keeps_back q m.rest) [ true ↦ record q { answered = at; kept = Some (record { rest = m.rest; who = None }) } ∷ [] | false ↦ elim (is_none (result_code m.rest)) [ true ↦ record q { answered = at } ∷ [] | false ↦ [] ] ] ]) a_bind ∙ ap (λ b. elim b [ true ↦ record q { answered = at; kept = Some (record { rest = m.rest; who = None }) } ∷ [] | false ↦ elim (is_none (result_code m.rest)) [ true ↦ record q { answered = at } ∷ [] | false ↦ [] ] ]) k

          one_code : has_code bind_in_progress m.rest ≡ true → keeps_back q m.rest ≡ false
          one_code c = by_code (result_code m.rest) c q.ask_who
            where
              by_code : (o : Option ℕ) → (elim o [ None ↦ false | Some x ↦ x == bind_in_progress ]) ≡ true → (a : Bool) → (a && elim o [ None ↦ false | Some x ↦ x == success ]) ≡ false
              by_code None j a = absurd (let bad : false ≡ true = j in cc)
              by_code (Some x) j true = ap (λ n. n == success) (same_number x bind_in_progress j)
              by_code (Some x) j false = refl

          by : (i c k : Bool) → is_intermediate m.rest ≡ i → has_code bind_in_progress m.rest ≡ c → keeps_back q m.rest ≡ k → Steps rows_behind (told op (letters_alone (elim i [ true ↦ act [] (reply q.op m.rest false None) | false ↦ elim c [ true ↦ act [] (reply q.op m.rest true None) | false ↦ elim k [ true ↦ keep_back s p | false ↦ act [] (reply q.op m.rest true None ++ holder_ended p) ] ] ])))
          by true c k x y z = more (told op (reply q.op m.rest false None)) (reply_told op q.op m.rest false None [] mine refl) (none_final x)
          by false true k x y z = last (told op (reply q.op m.rest true None)) (reply_told op q.op m.rest true None [] mine refl) (is_last x) (settles x (one_code y))
          by false false false x y z = last (told op (reply q.op m.rest true None ++ holder_ended p)) (reply_told op q.op m.rest true None (holder_ended p) mine (holder_quiet op p)) (is_last x) (settles x z)
          by false false true x y z = inr (inr (inr (quiet_told op (letters_alone (keep_back s p)) (keeps_quiet op s p), an_answer this_id fit_kind, final_is ∙ ap (λ j. is_final j m.rest) kind_is ∙ is_last x, rows_by (is_kept_as m.rest) (record q { answered = at; kept = Some (record { rest = m.rest; who = None }) } ∷ []) (behind_is ∙ ap (λ b. elim b [ true ↦ behind_final at m.rest q | false ↦ record q { answered = at } ∷ [] ]) (is_last x) ∙ keeps z) (both (of_mine op (is_kept_as m.rest) (record q { answered = at; kept = Some (record { rest = m.rest; who = None }) })) true (implies_by (same_op op q.op) _ (λ j. bytes_same m.rest)) refl), bp)))

  -- The message.
  nothing_mine : (xs : List (List ℕ)) → xs ≡ [] → list_all (of_mine op is_unlike) p.rows ≡ true → Steps rows_behind xs
  nothing_mine xs e h = inl (e, no_answer (unlike_id h), unlike_rows h)

  no_row : find (is_under m.id) p.rows ≡ None → list_all (of_mine op is_unlike) p.rows ≡ true
  no_row e = all_imply (λ r. of_mine op (is_open kind id) r && of_mine op (λ x. not (is_under m.id x)) r) (of_mine op is_unlike) p.rows (λ r k. implies_by (same_op op r.op) _ (λ j. ap not (none r.id r.kept (left (is_none r.kept) _ (left (is_none r.kept && same_kind kind r.kind) _ (implied (same_op op r.op) _ (left (of_mine op (is_open kind id) r) _ k) j))) (not_true (is_under m.id r) (implied (same_op op r.op) _ (right (of_mine op (is_open kind id) r) _ k) j))))) (all_both (of_mine op (is_open kind id)) (of_mine op (λ x. not (is_under m.id x))) p.rows open_rows (none_found_mine op (is_under m.id) p.rows e))
    where
      none : (i : ℕ) (o : Option Kept) → is_none o ≡ true → ((i == m.id) && not (is_some o)) ≡ false → (i == m.id) ≡ false
      none i None j k = false_by (i == m.id) (λ z. sym k ∙ both (i == m.id) true z refl)
      none i (Some x) j k = absurd (let bad : false ≡ true = j in cc)

  -- the own Bind's identifier is no row's
  own_unlike : is_under_own p m.id ≡ true → list_all (of_mine op is_unlike) p.rows ≡ true
  own_unlike h = by p.own_bind ids.own h
    where
      others : (i : ℕ) (rows : List UpRow) → is_taken rows i ≡ false → list_all (of_mine op (λ r. not (r.id == i))) rows ≡ true
      others i [] k = refl
      others i (r ∷ rows) k = both (of_mine op (λ x. not (x.id == i)) r) _ (implies_by (same_op op r.op) _ (λ j. ap not (first (r.id == i) (is_taken rows i) k))) (others i rows (or_second (r.id == i) (is_taken rows i) k))
        where
          first : (a b : Bool) → (a || b) ≡ false → a ≡ false
          first true b j = j
          first false b j = refl

      by : (o : Option OwnWait) → where_there (is_own_apart p) o ≡ true → passes (λ own. own.id == m.id) o ≡ true → list_all (of_mine op is_unlike) p.rows ≡ true
      by None j k = absurd (let bad : false ≡ true = k in cc)
      by (Some own) j k = subst (λ n. list_all (of_mine op (λ r. not (r.id == n))) p.rows ≡ true) (same_number own.id m.id k) (others own.id p.rows (not_true (is_taken p.rows own.id) (right (nat_lt own.id p.ids.next) _ (left (nat_lt own.id p.ids.next && not (is_taken p.rows own.id)) _ j))))

  abbrev rows_by_own : Bool → List UpRow
  rows_by_own b = if b then p.rows else rows_behind

  regular_step : is_bind p ≡ false → Steps (rows_by_own (is_under_own p m.id)) (told op (letters_alone (answered p at m)))
  regular_step reg = by (is_under_own p m.id) refl
    where
      found_row : is_under_own p m.id ≡ false → (o : Option UpRow) → find (is_under m.id) p.rows ≡ o → Steps rows_behind (told op (letters_alone (elim o [ None ↦ nothing | Some r ↦ row_answer p at m r ])))
      found_row own None e = nothing_mine [] refl (no_row e)
      found_row own (Some q) e = on (same_op op q.op) refl
        where
          on : (b : Bool) → same_op op q.op ≡ b → Steps rows_behind (told op (letters_alone (row_answer p at m q)))
          on true k = regular_row q e k own reg
          on false k = nothing_mine (told op (letters_alone (row_answer p at m q))) (quiet_told op (letters_alone (row_answer p at m q)) (row_quiet op p at m q (ap not k))) (other_unlike q e k)

      by : (b : Bool) → is_under_own p m.id ≡ b → Steps (rows_by_own b) (told op (letters_alone (elim b [ true ↦ own_answer p m | false ↦ elim (find (is_under m.id) p.rows) [ None ↦ nothing | Some r ↦ row_answer p at m r ] ])))
      by true own = inl (quiet_told op (letters_alone (own_answer p m)) (own_quiet op p m), no_answer (unlike_id (own_unlike own)), open_rows)
      by false own = found_row own (find (is_under m.id) p.rows) refl

  bind_step : is_bind p ≡ true → is_under_own p m.id ≡ false → Steps rows_behind (told op (letters_alone (bind_answered s p m)))
  bind_step bp own = by (find (is_under m.id) p.rows) (find (is_under_who m.id) p.rows) refl refl
    where
      on : (q : UpRow) → find (is_under m.id) p.rows ≡ Some q → (b : Bool) → same_op op q.op ≡ b → Steps rows_behind (told op (letters_alone (bind_row_answer s p m.rest q)))
      on q e true k = bind_row q e k own bp
      on q e false k = nothing_mine (told op (letters_alone (bind_row_answer s p m.rest q))) (quiet_told op (letters_alone (bind_row_answer s p m.rest q)) (bind_row_quiet op s p m.rest q (ap not k))) (other_unlike q e k)

      -- a row whose answer is kept back is another operation's
      kept_other : (q : UpRow) → find (is_under_who m.id) p.rows ≡ Some q → not (same_op op q.op) ≡ true
      kept_other q e = ap not (false_by (same_op op q.op) (λ j. none q.kept (left (is_none q.kept) _ (left (is_none q.kept && same_kind kind q.kind) _ (implied (same_op op q.op) _ (found (of_mine op (is_open kind id)) (is_under_who m.id) p.rows q e open_rows) j))) (found_passes (is_under_who m.id) p.rows q e)))
        where
          none : (o : Option Kept) → is_none o ≡ true → passes (λ who. who == m.id) (elim o [ None ↦ None | Some x ↦ x.who ]) ≡ true → false ≡ true
          none None j k = k
          none (Some x) j k = j

      by : (a b : Option UpRow) → find (is_under m.id) p.rows ≡ a → find (is_under_who m.id) p.rows ≡ b → Steps rows_behind (told op (letters_alone (elim a [ Some r ↦ bind_row_answer s p m.rest r | None ↦ elim b [ Some r ↦ who_answer p m.rest r | None ↦ nothing ] ])))
      by (Some q) b e k = on q e (same_op op q.op) refl
      by None (Some q) e k = nothing_mine (told op (letters_alone (who_answer p m.rest q))) (quiet_told op (letters_alone (who_answer p m.rest q)) (who_quiet op p m.rest q (kept_other q k))) (no_row e)
      by None None e k = nothing_mine [] refl (no_row e)

  pub got_open : (is_bind p ≡ true → is_under_own p m.id ≡ false) → Steps (with_got at m p).rows (told op (got_letters s p at m))
  got_open bare = subst (λ b. Steps (with_got at m p).rows (told op (letters_alone (elim b [ true ↦ goes_down p BadEnd | false ↦ elim p.kind [ Regular ↦ answered p at m | BindKind ↦ bind_answered s p m ] ])))) (sym fine) (by p.kind refl)
    where
      on_bind : is_bind p ≡ true → (b : Bool) → is_under_own p m.id ≡ b → Steps (rows_by_own b) (told op (letters_alone (bind_answered s p m)))
      on_bind bp true own = not_both (is_under_own p m.id) own (bare bp)
      on_bind bp false own = bind_step bp own

      by : (k : ConnKind) → p.kind ≡ k → Steps (with_got at m p).rows (told op (letters_alone (elim k [ Regular ↦ answered p at m | BindKind ↦ bind_answered s p m ])))
      by Regular e = regular_step (ap (is_kind BindKind) e)
      by BindKind e = on_bind (ap (is_kind BindKind) e) (is_under_own p m.id) refl
