-- A client gives an operation to one connection at most: it forwards it where its exchange goes on, or where the choice of
-- a connection was learned, which the desk was asked for.
use Rattle.std.proofs.Common.{◌≡◌, ◌⊎◌, inl, inr, ℕ, suc, Bool, true, false, ◌==◌, ◌&&◌, ◌||◌, not, if◌then◌else◌, List, [], ◌∷◌, ◌++◌, length, arith, refl, ap, ◌∙◌, sym, subst}
use Rattle.std.specs.Prelude.{Option, Some, None, cond, find, filter, flat_map, nat_le, nat_lt}
use Rattle.std.specs.List.{list_any, list_all}
use Rattle.std.proofs.lemmas.Bool.Decides.{nat_tests}
use Rattle.std.proofs.lemmas.List.Folds.{list_all-append}
use Rattle.ldap_spec.specs.Kinds.{kind_of}
use Rattle.ldap_spec.specs.Messages.{Message}
use Rattle.lload_names.specs.declared.names.Answer.{Answer}
use Rattle.lload_names.specs.declared.names.Answer.TheVariants.{Go}
use Rattle.lload_names.specs.declared.names.Entry.{Entry}
use Rattle.lload_names.specs.declared.names.Letter.{Letter}
use Rattle.lload_names.specs.declared.names.Letter.TheVariants.{Choice, Forward, Drop, Leave}
use Rattle.lload_names.specs.declared.names.OpKind.{OpKind}
use Rattle.lload_names.specs.declared.names.OpKind.TheVariants.{Bind}
use Rattle.lload_names.specs.declared.names.OpName.{OpName}
use Rattle.lload_names.specs.declared.names.PartName.{PartName}
use Rattle.lload_names.specs.declared.names.PartName.TheVariants.{Desk, Up as Connection}
use Rattle.lload_names.specs.declared.names.Posted.{Posted}
use Rattle.lload_names.specs.declared.names.What.{What}
use Rattle.lload_names.specs.declared.names.What.TheVariants as what
use Rattle.lload_spec.specs.Answers.{wants_identity}
use Rattle.lload_spec.specs.Binding.{kind_wanted}
use Rattle.lload_spec.specs.Entries.{makes_operation, operation_message}
use Rattle.lload_spec.specs.FirstCheck.{Check, Ends, Unbinds, Abandons, Refuses, Answers, Cancels, GoesOn, lets_go_on, live_request, may_be_canceled}
use Rattle.lload_spec.specs.Journal.{same_op, same_part, same_answer}
use Rattle.lload_spec.specs.Lists.{passes, implies, rising_once}
use Rattle.lload_spec.specs.Operations.{operations, is_request_of}
use Rattle.lload_spec.specs.Pauses.{pause_letters, resume_letters, pauses_behind}
use Rattle.lload_spec.specs.Settings.{Settings}
use Rattle.lload_spec.proofs.Growth.{left, right, both}
use Rattle.lload_laws.proofs.ClientGrowth.{count_rises}
use Rattle.lload_laws.proofs.ListLaws.{all_imply, found_passes, implies_by}
use Rattle.part_laws.proofs.ListLaws.{eqb_same, false_by, any_filtered, none_filtered, none_of_both, same_op_eq, not_true}
use Rattle.part_spec.specs.ClientState.{ClientState, ClientRow, AskedFor, Held, empty_client, step_client, check_at, is_pinned, is_asked_for, asked_behind, new_row, next_name, name_of, row_named, abandons, is_bind_row, regular_connections}
use Rattle.part_spec.specs.ClientTurn.{drops, drop_of, leave, endings, forward, asks, pause_at, letters_for, resumes}
use Rattle.part_spec.specs.Fit.{ClientLedger, empty_client_ledger, step_client_ledger, fits_client, are_fit_from, is_unfit, is_forward_of, is_choice_for}
use Rattle.part_spec.specs.Gives.{client_letters, client_gives, message_letters}
use Rattle.part_spec.specs.Marked.{Marked, Taken}
use Rattle.part_spec.specs.Marks.{may_be_first, marks_client, must_mark_client}
use Rattle.client_laws.proofs.ClientClauses.{Says, says_more, nothing_kept}
use Rattle.client_laws.proofs.ClientTurns.{count_more}
use Rattle.client_answer_laws.proofs.Asks.{AsksKnown, asks_behind, asked_known, going_makes}
use Rattle.client_answer_laws.proofs.Waits.{more_operations}
use Rattle.joined_laws.proofs.Begun.{is_begun}
use Rattle.joined_laws.proofs.Taken.{is_fit_there}
use Rattle.joined_laws.proofs.Walks.{Begun}

-- whether none of these letters forwards this operation
abbrev pub is_bare : OpName → List Posted → Bool
is_bare op xs = list_all (λ x. not (is_forward_of op x.letter)) xs

-- whether those that forward it go to this connection
abbrev pub goes_only : OpName → ℕ → List Posted → Bool
goes_only op u xs = list_all (λ x. implies (is_forward_of op x.letter) (same_part (Connection u) x.to)) xs

found_any : {A : Type 0} (t u : A → Bool) (xs : List A) → passes t (find u xs) ≡ true → list_any u xs ≡ true
found_any t u [] h = absurd (let bad : false ≡ true = h in cc)
found_any t u (x ∷ xs) h = by (u x) h (found_any t u xs)
  where
    by : (b : Bool) → passes t (cond b (Some x) (find u xs)) ≡ true → (passes t (find u xs) ≡ true → list_any u xs ≡ true) → (b || list_any u xs) ≡ true
    by true k ih = refl
    by false k ih = ih k

module _ (s : Settings) (op : OpName) where
  pub bare_both : (xs ys : List Posted) → is_bare op xs ≡ true → is_bare op ys ≡ true → is_bare op (xs ++ ys) ≡ true
  bare_both xs ys h k = list_all-append (λ (x : Posted). not (is_forward_of op x.letter)) xs ys ∙ both (is_bare op xs) (is_bare op ys) h k

  only_both : (u : ℕ) (xs ys : List Posted) → goes_only op u xs ≡ true → goes_only op u ys ≡ true → goes_only op u (xs ++ ys) ≡ true
  only_both u xs ys h k = list_all-append (λ (x : Posted). implies (is_forward_of op x.letter) (same_part (Connection u) x.to)) xs ys ∙ both (goes_only op u xs) (goes_only op u ys) h k

  bare_only : (u : ℕ) (xs : List Posted) → is_bare op xs ≡ true → goes_only op u xs ≡ true
  bare_only u xs h = all_imply (λ (x : Posted). not (is_forward_of op x.letter)) (λ (x : Posted). implies (is_forward_of op x.letter) (same_part (Connection u) x.to)) xs (λ x k. ap (λ b. implies b (same_part (Connection u) x.to)) (not_true (is_forward_of op x.letter) k)) h

  bare_flat : {A : Type 0} (f : A → List Posted) (xs : List A) → ((x : A) → is_bare op (f x) ≡ true) → is_bare op (flat_map f xs) ≡ true
  bare_flat f [] h = refl
  bare_flat f (x ∷ xs) h = bare_both (f x) (flat_map f xs) (h x) (bare_flat f xs h)

  -- Letters of other sorts.

  drop_bare : (p : ClientState) (r : ClientRow) → is_bare op (drop_of p r) ≡ true
  drop_bare p r = by (is_bind_row r) r.connection
    where
      by : (b : Bool) (o : Option ℕ) → is_bare op (elim b [ true ↦ [] | false ↦ elim o [ None ↦ [] | Some u ↦ record { to = Connection u; letter = Drop (name_of p r) } ∷ [] ] ]) ≡ true
      by true o = refl
      by false None = refl
      by false (Some u) = refl

  pub drops_bare : (p : ClientState) → is_bare op (drops p) ≡ true
  drops_bare p = bare_flat (drop_of p) p.rows (drop_bare p)

  leave_bare : (p : ClientState) → is_bare op (leave p) ≡ true
  leave_bare p = by p.hold
    where
      by : (o : Option Held) → is_bare op (elim o [ None ↦ [] | Some x ↦ record { to = Connection x.connection; letter = Leave x.holder } ∷ [] ]) ≡ true
      by None = refl
      by (Some x) = refl

  pub endings_bare : (p : ClientState) → is_bare op (endings p) ≡ true
  endings_bare p = bare_both (drops p) (leave p) (drops_bare p) (leave_bare p)

  pub pauses_bare : (c : ℕ) (us : List ℕ) → is_bare op (pause_letters c us) ≡ true
  pauses_bare c [] = refl
  pauses_bare c (u ∷ us) = pauses_bare c us

  pub resumes_bare : (c : ℕ) (us : List ℕ) → is_bare op (resume_letters c us) ≡ true
  resumes_bare c [] = refl
  resumes_bare c (u ∷ us) = resumes_bare c us

  pub pause_bare : (p : ClientState) (r : ClientRow) (u : ℕ) → is_bare op (pause_at p r u) ≡ true
  pause_bare p r u = by (is_bind_row r) (pauses_behind p.pausing u)
    where
      by : (a b : Bool) → is_bare op (elim a [ true ↦ [] | false ↦ elim b [ true ↦ pause_letters p.number (u ∷ []) | false ↦ [] ] ]) ≡ true
      by true b = refl
      by false true = refl
      by false false = refl

  found_bare : (p : ClientState) (o : Option ClientRow) → is_bare op (elim o [ None ↦ [] | Some r ↦ drop_of p r ]) ≡ true
  found_bare p None = refl
  found_bare p (Some r) = drop_bare p r

  where_bare : (b : Bool) (xs : List Posted) → is_bare op xs ≡ true → is_bare op (elim b [ true ↦ xs | false ↦ [] ]) ≡ true
  where_bare true xs h = h
  where_bare false xs h = refl

  -- A Forward.

  forward_bare : (p : ClientState) (r : ClientRow) (holder : OpName) (u : ℕ) → same_op op (name_of p r) ≡ false → is_bare op (forward s p r holder u) ≡ true
  forward_bare p r holder u e = by (kind_of r.request.rest)
    where
      by : (k : Option OpKind) → is_bare op (elim k [ None ↦ [] | Some sort ↦ record { to = Connection u; letter = Forward (name_of p r) sort r.request.rest (wants_identity s r.request) holder } ∷ [] ]) ≡ true
      by None = refl
      by (Some sort) = both (not (same_op op (name_of p r))) true (ap not e) refl

  forward_only : (p : ClientState) (r : ClientRow) (holder : OpName) (u : ℕ) → goes_only op u (forward s p r holder u) ≡ true
  forward_only p r holder u = by (kind_of r.request.rest)
    where
      by : (k : Option OpKind) → goes_only op u (elim k [ None ↦ [] | Some sort ↦ record { to = Connection u; letter = Forward (name_of p r) sort r.request.rest (wants_identity s r.request) holder } ∷ [] ]) ≡ true
      by None = refl
      by (Some sort) = both (implies (same_op op (name_of p r)) (u == u)) true (implies_by (same_op op (name_of p r)) (u == u) (λ k. eqb_same u)) refl

  -- either none of the letters forwards it, or they do so to one connection, and this is known
  abbrev pub Either : List Posted → Type 0 → Type 0
  Either xs Known = (is_bare op xs ≡ true) ⊎ ((u : ℕ) × (goes_only op u xs ≡ true) × Known)

  abbrev pub GoesPinned : ClientState → Message → Check → Type 0
  GoesPinned p m k = (same_op op (next_name p) ≡ true) × (lets_go_on k ≡ true) × (is_pinned s p m ≡ true)

  pub in_case : (p : ClientState) (at : ℕ) (m : Message) (k : Check) → Either (message_letters s p at m k) (GoesPinned p m k)
  in_case p at m (Ends why) = inl (where_bare (makes_operation m && is_request_of Bind m) (drops p) (drops_bare p))
  in_case p at m Unbinds = inl refl
  in_case p at m (Abandons id) = inl (found_bare p (find (abandons m) p.rows))
  in_case p at m (Refuses which) = inl (where_bare (is_request_of Bind m) (endings p) (endings_bare p))
  in_case p at m (Answers which) = inl refl
  in_case p at m (Cancels id its_kind) = inl (found_bare p (find (λ r. may_be_canceled id (live_request r.request)) p.rows))
  in_case p at m GoesOn = by (is_request_of Bind m) (is_pinned s p m) refl (same_op op (next_name p)) refl p.hold
    where
      by : (b i : Bool) → is_pinned s p m ≡ i → (t : Bool) → same_op op (next_name p) ≡ t → (o : Option Held) → Either (elim b [ true ↦ drops p ++ elim i [ true ↦ elim o [ None ↦ [] | Some x ↦ forward s p (new_row s p m) x.holder x.connection ] | false ↦ asks s p at m ] | false ↦ asks s p at m ]) (GoesPinned p m GoesOn)
      by false i e t k o = inl refl
      by true false e t k o = inl (bare_both (drops p) (asks s p at m) (drops_bare p) refl)
      by true true e t k None = inl (bare_both (drops p) [] (drops_bare p) refl)
      by true true e false k (Some x) = inl (bare_both (drops p) (forward s p (new_row s p m) x.holder x.connection) (drops_bare p) (forward_bare p (new_row s p m) x.holder x.connection k))
      by true true e true k (Some x) = inr (x.connection, only_both x.connection (drops p) (forward s p (new_row s p m) x.holder x.connection) (bare_only x.connection (drops p) (drops_bare p)) (forward_only p (new_row s p m) x.holder x.connection), (k, refl, e))

  chosen_case : (p : ClientState) (o : OpName) (a : Answer) → Either (letters_for s p o (row_named p o) a) (same_op op o ≡ true)
  chosen_case p o a = by (row_named p o) refl a
    where
      on : (u : ℕ) (r : ClientRow) → row_named p o ≡ Some r → (b : Bool) → same_op op (name_of p r) ≡ b → Either (forward s p r o u ++ pause_at p r u) (same_op op o ≡ true)
      on u r e false k = inl (bare_both (forward s p r o u) (pause_at p r u) (forward_bare p r o u k) (pause_bare p r u))
      on u r e true k = inr (u, only_both u (forward s p r o u) (pause_at p r u) (forward_only p r o u) (bare_only u (pause_at p r u) (pause_bare p r u)), sym (ap (same_op op) (same_op_eq (name_of p r) o (found_passes (λ x. p.number == o.client && x.k == o.k) p.rows r e))) ∙ k)

      by : (q : Option ClientRow) → row_named p o ≡ q → (b : Answer) → Either (letters_for s p o q b) (same_op op o ≡ true)
      by (Some r) e (Go u n) = on u r e (same_op op (name_of p r)) refl
      by None e (Go u n) = inl refl
      by (Some r) e _ = inl refl
      by None e _ = inl refl

  -- What is known at a place.

  module _ (c : ℕ) where
    record At (place : List Entry) (p : ClientState) : Type 0 where
      says : Says c place p
      count : p.count ≡ length (operations c place)
      asks : AsksKnown c place p.asked

    -- each choice was asked for
    abbrev pub Asked : ClientState → What → Type 0
    Asked p w = (o : OpName) (a : Answer) → w ≡ what.Chosen o a → list_any (λ x. same_op o x.op) p.asked ≡ true

    pub was_asked : (l : ClientLedger) (e : Entry) (mark : Option Taken) (rest : Bool) → (is_begun e.what ≡ true → may_be_first l.state e mark ≡ true) → (not (is_unfit (fits_client s) l mark) && rest) ≡ true → Asked l.state e.what
    was_asked l e None rest g f o a z = absurd (let bad : false ≡ true = subst (λ w. is_begun w ≡ true → not (must_mark_client e w) ≡ true) z g refl in cc)
    was_asked l e (Some t) rest g f o a z = by t.sender t.letter (subst (λ w. is_begun w ≡ true → marks_client l.state w t.letter ≡ true) z g refl) (is_fit_there (fits_client s) l t rest f)
      where
        by : (sender : PartName) (x : Letter) → marks_client l.state (what.Chosen o a) x ≡ true → fits_client s l sender x ≡ true → list_any (λ y. same_op o y.op) l.state.asked ≡ true
        by sender (Choice q b) k j = subst (λ n. list_any (λ y. same_op n y.op) l.state.asked ≡ true) (sym (same_op_eq o q (left (same_op o q) (same_answer a b) k))) (found_any (λ y. is_choice_for s y.kind b) (λ y. same_op q y.op) l.state.asked (right (same_part sender Desk) _ j))
        by sender _ k j = absurd (let bad : false ≡ true = k in cc)

    at_more : (place : List Entry) (p : ClientState) (m : Marked) → Asked p m.entry.what → At place p → At (place ++ m.entry ∷ []) (step_client s p m)
    at_more place p m f h =
        record {
          says = says_more s c place p m h.says;
          count = count_more s c place m.entry m.mark p h.count;
          asks = asks_behind s c m.entry.at m.entry.part place p h.says.number h.count h.asks m.entry.what f;
        }

    -- the operation came in, and the desk isn't asked for it
    abbrev Done : List Entry → List AskedFor → Type 0
    Done place asked = (nat_le op.k (length (operations c place)) ≡ true) × (list_any (λ a. same_op op a.op) asked ≡ false)

    not_next : (place : List Entry) (p : ClientState) → At place p → nat_le op.k (length (operations c place)) ≡ true → same_op op (next_name p) ≡ false
    not_next place p h k = false_by (same_op op (next_name p)) (λ j. let same : (op.k == suc p.count) ≡ true = right (op.client == p.number) _ j in let here : p.count ≡ length (operations c place) = h.count in absurd (grind (arith, nat_tests, k, same, here)))

    done_more : (place : List Entry) (p : ClientState) (e : Entry) → At place p → Done place p.asked → Done (place ++ e ∷ []) (asked_behind s p e.what)
    done_more place p e h d = (more, by e.what)
      where
        more : nat_le op.k (length (operations c (place ++ e ∷ []))) ≡ true
        more = let grown = more_operations c place e in let old = d.0 in grind (arith, nat_tests, grown, old)

        in_by : (b : Bool) (x : AskedFor) → x.op ≡ next_name p → list_any (λ a. same_op op a.op) (if b then p.asked ++ x ∷ [] else p.asked) ≡ false
        in_by true x z = none_of_both (λ (a : AskedFor). same_op op a.op) p.asked (x ∷ []) d.1 (ap (λ b. b || false) (ap (same_op op) z ∙ not_next place p h d.0))
        in_by false x z = d.1

        by : (w : What) → list_any (λ a. same_op op a.op) (asked_behind s p w) ≡ false
        by (what.In id rest) = in_by (is_asked_for s p (record { id = id; rest = rest })) _ refl
        by (what.Chosen o a) = false_by (list_any (λ (x : AskedFor). same_op op x.op) (asked_behind s p (what.Chosen o a))) (λ j. sym d.1 ∙ any_filtered (λ (x : AskedFor). same_op op x.op) (λ (x : AskedFor). not (same_op o x.op)) p.asked j)
        by _ = d.1

    head_bare : (place : List Entry) (p : ClientState) (at : ℕ) (w : What) → At place p → Asked p w → Done place p.asked → is_bare op (client_letters s p at w) ≡ true
    head_bare place p at (what.In id rest) h f d = by (client_letters s p at (what.In id rest)) (check_at s p (record { id = id; rest = rest })) (in_case p at (record { id = id; rest = rest }) (check_at s p (record { id = id; rest = rest })))
      where
        by : (xs : List Posted) (k : Check) → Either xs (GoesPinned p (record { id = id; rest = rest }) k) → is_bare op xs ≡ true
        by xs k (inl b) = b
        by xs k (inr x) = absurd (let bad : false ≡ true = sym (not_next place p h d.0) ∙ x.2.0 in cc)
    head_bare place p at (what.Chosen o a) h f d = by (client_letters s p at (what.Chosen o a)) (chosen_case p o a)
      where
        by : (xs : List Posted) → Either xs (same_op op o ≡ true) → is_bare op xs ≡ true
        by xs (inl b) = b
        by xs (inr x) = absurd (let bad : false ≡ true = sym d.1 ∙ subst (λ n. list_any (λ y. same_op n y.op) p.asked ≡ true) (sym (same_op_eq op o x.2)) (f o a refl) in cc)
    head_bare place p at (what.Gone why) h f d = bare_both (endings p) (resumes p) (endings_bare p) (resumes_bare p.number p.pausing.paused)
    head_bare place p at what.Stalled h f d = pauses_bare p.number (rising_once (regular_connections p))
    head_bare place p at what.Flowing h f d = resumes_bare p.number p.pausing.paused
    head_bare place p at _ h f d = refl

    -- where it is forwarded, it has come in, and the desk isn't asked for it behind this
    head_case : (place : List Entry) (p : ClientState) (e : Entry) → At place p → Asked p e.what → Either (client_letters s p e.at e.what) (Done (place ++ e ∷ []) (asked_behind s p e.what))
    head_case place p e h f = by e.what refl f
      where
        put : Message → Bool → Option Message
        put m b = elim b [ true ↦ Some m | false ↦ None ]

        not_asked : nat_le op.k (length (operations c place)) ≡ false → list_any (λ a. same_op op a.op) p.asked ≡ false
        not_asked k = false_by (list_any (λ (a : AskedFor). same_op op a.op) p.asked) (λ j. sym k ∙ right (op.client == c && nat_lt 0 op.k) _ (asked_known c place p.asked op h.asks.each j).within)

        in_done : (m : Message) (k : Check) → check_at s p m ≡ k → operation_message e.what ≡ put m (makes_operation m) → GoesPinned p m k → Done (place ++ e ∷ []) (if is_asked_for s p m then p.asked ++ record { op = next_name p; kind = kind_wanted m } ∷ [] else p.asked)
        in_done m k at z g =
            let grown : length (operations c (place ++ e ∷ [])) ≡ suc (length (operations c place)) = count_rises c place e m (z ∙ ap (put m) (going_makes s p m (ap lets_go_on at ∙ g.1))) in
            let same : (op.k == suc p.count) ≡ true = right (op.client == p.number) _ g.0 in
            let here : p.count ≡ length (operations c place) = h.count in
            let above : nat_le op.k (length (operations c place)) ≡ false = grind (arith, nat_tests, same, here) in
            let quiet : is_asked_for s p m ≡ false = ap (λ b. lets_go_on (check_at s p m) && not b) g.2 ∙ and_false (lets_go_on (check_at s p m)) in
            (grind (arith, nat_tests, grown, same, here), ap (λ b. list_any (λ (a : AskedFor). same_op op a.op) (if b then p.asked ++ record { op = next_name p; kind = kind_wanted m } ∷ [] else p.asked)) quiet ∙ not_asked above)
          where
            and_false : (b : Bool) → (b && false) ≡ false
            and_false true = refl
            and_false false = refl

        of_in : (m : Message) (xs : List Posted) (k : Check) → check_at s p m ≡ k → operation_message e.what ≡ put m (makes_operation m) → Either xs (GoesPinned p m k) → Either xs (Done (place ++ e ∷ []) (if is_asked_for s p m then p.asked ++ record { op = next_name p; kind = kind_wanted m } ∷ [] else p.asked))
        of_in m xs k at z (inl b) = inl b
        of_in m xs k at z (inr x) = inr (x.0, x.1, in_done m k at z x.2)

        of_chosen : (o : OpName) (a : Answer) (xs : List Posted) → list_any (λ y. same_op o y.op) p.asked ≡ true → Either xs (same_op op o ≡ true) → Either xs (Done (place ++ e ∷ []) (filter (λ y. not (same_op o y.op)) p.asked))
        of_chosen o a xs j (inl b) = inl b
        of_chosen o a xs j (inr x) = inr (x.0, x.1, (within, ap (λ n. list_any (λ (y : AskedFor). same_op n y.op) (filter (λ y. not (same_op o y.op)) p.asked)) (same_op_eq op o x.2) ∙ none_filtered (λ (y : AskedFor). same_op o y.op) (λ (y : AskedFor). not (same_op o y.op)) p.asked (λ y i. ap not i)))
          where
            old : nat_le op.k (length (operations c place)) ≡ true
            old = ap (λ n. nat_le n.k (length (operations c place))) (same_op_eq op o x.2) ∙ right (o.client == c && nat_lt 0 o.k) _ (asked_known c place p.asked o h.asks.each j).within

            within : nat_le op.k (length (operations c (place ++ e ∷ []))) ≡ true
            within = let grown = more_operations c place e in let before = old in grind (arith, nat_tests, grown, before)

        by : (w : What) → e.what ≡ w → Asked p w → Either (client_letters s p e.at w) (Done (place ++ e ∷ []) (asked_behind s p w))
        by (what.In id rest) z g = of_in (record { id = id; rest = rest }) (client_letters s p e.at (what.In id rest)) (check_at s p (record { id = id; rest = rest })) refl (ap operation_message z) (in_case p e.at (record { id = id; rest = rest }) (check_at s p (record { id = id; rest = rest })))
        by (what.Chosen o a) z g = of_chosen o a (client_letters s p e.at (what.Chosen o a)) (g o a refl) (chosen_case p o a)
        by (what.Gone why) z g = inl (bare_both (endings p) (resumes p) (endings_bare p) (resumes_bare p.number p.pausing.paused))
        by what.Stalled z g = inl (pauses_bare p.number (rising_once (regular_connections p)))
        by what.Flowing z g = inl (resumes_bare p.number p.pausing.paused)
        by _ z g = inl refl

    -- The walks.

    walk_done : (place : List Entry) (l : ClientLedger) (ms : List Marked) → At place l.state → Done place l.state.asked → Begun s c place l.state ms → are_fit_from (fits_client s) (step_client_ledger s) l ms ≡ true → is_bare op (client_gives s l.state ms) ≡ true
    walk_done place l [] h d b f = refl
    walk_done place l (m ∷ ms) h d b f =
        let asked : Asked l.state m.entry.what = was_asked l m.entry m.mark _ (λ i. (b.0 i).marked) f in
        bare_both (client_letters s l.state m.entry.at m.entry.what) (client_gives s (step_client s l.state m) ms)
        (head_bare place l.state m.entry.at m.entry.what h asked d)
        (walk_done (place ++ m.entry ∷ []) (step_client_ledger s l m) ms (at_more place l.state m asked h) (done_more place l.state m.entry h d) b.1 (right (not (is_unfit (fits_client s) l m.mark)) _ f))

    walk : (place : List Entry) (l : ClientLedger) (ms : List Marked) → At place l.state → Begun s c place l.state ms → are_fit_from (fits_client s) (step_client_ledger s) l ms ≡ true → (u : ℕ) × (goes_only op u (client_gives s l.state ms) ≡ true)
    walk place l [] h b f = (0, refl)
    walk place l (m ∷ ms) h b f = by (head_case place l.state m.entry h asked) (walk (place ++ m.entry ∷ []) (step_client_ledger s l m) ms behind b.1 fit)
      where
        asked : Asked l.state m.entry.what
        asked = was_asked l m.entry m.mark (are_fit_from (fits_client s) (step_client_ledger s) (step_client_ledger s l m) ms) (λ i. (b.0 i).marked) f

        behind : At (place ++ m.entry ∷ []) (step_client s l.state m)
        behind = at_more place l.state m asked h

        fit : are_fit_from (fits_client s) (step_client_ledger s) (step_client_ledger s l m) ms ≡ true
        fit = right (not (is_unfit (fits_client s) l m.mark)) (are_fit_from (fits_client s) (step_client_ledger s) (step_client_ledger s l m) ms) f

        by : Either (client_letters s l.state m.entry.at m.entry.what) (Done (place ++ m.entry ∷ []) (asked_behind s l.state m.entry.what)) → (u : ℕ) × (goes_only op u (client_gives s (step_client s l.state m) ms) ≡ true) → (u : ℕ) × (goes_only op u (client_gives s l.state (m ∷ ms)) ≡ true)
        by (inl x) r = (r.0, only_both r.0 (client_letters s l.state m.entry.at m.entry.what) (client_gives s (step_client s l.state m) ms) (bare_only r.0 (client_letters s l.state m.entry.at m.entry.what) x) r.1)
        by (inr x) r = (x.0, only_both x.0 (client_letters s l.state m.entry.at m.entry.what) (client_gives s (step_client s l.state m) ms) x.1 (bare_only x.0 (client_gives s (step_client s l.state m) ms) (walk_done (place ++ m.entry ∷ []) (step_client_ledger s l m) ms behind x.2 b.1 fit)))

    pub gives_to_one : (ms : List Marked) → Begun s c [] (empty_client c) ms → are_fit_from (fits_client s) (step_client_ledger s) (empty_client_ledger c) ms ≡ true → (u : ℕ) × (goes_only op u (client_gives s (empty_client c) ms) ≡ true)
    gives_to_one ms b f =
        walk [] (empty_client_ledger c) ms
        (record { says = (nothing_kept s c).says; count = (nothing_kept s c).lives.count; asks = record { each = tt; choices = refl } }) b f
