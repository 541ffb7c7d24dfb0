-- An operation whose client was told behind a Cancel that it is canceled ended by that Cancel.
use Rattle.std.proofs.Common.{◌≡◌, ℕ, Bool, true, false, ◌==◌, ◌&&◌, ◌||◌, not, List, [], ◌∷◌, ◌++◌, append_assoc, length, refl, ap, ◌∙◌, sym, subst}
use Rattle.std.specs.Prelude.{Option, Some, None, is_none, take, if◌then◌else◌}
use Rattle.std.specs.List.{list_any}
use Rattle.std.proofs.lemmas.List.{append-nil}
use Rattle.ldap_spec.specs.Bodies.{cancel_answer}
use Rattle.ldap_spec.specs.Kinds.{kind_of, same_kind}
use Rattle.ldap_spec.specs.Messages.{Message}
use Rattle.ldap_spec.specs.Requests.{ExtendedRequest, Request, cancel_id, is_cancel, names_cancel, request}
use Rattle.lload_names.specs.declared.names.CancelAnswer.TheVariants.{C13}
use Rattle.lload_names.specs.declared.names.Entry.{Entry}
use Rattle.lload_names.specs.declared.names.OpKind.{OpKind}
use Rattle.lload_names.specs.declared.names.OpKind.TheVariants.{Bind}
use Rattle.lload_names.specs.declared.names.What.{What}
use Rattle.lload_names.specs.declared.names.What.TheVariants as what
use Rattle.lload_spec.specs.Caused.{cancels_id, is_canceled_by, is_cancel_answer_of}
use Rattle.lload_spec.specs.Entries.{is_this, makes_operation, out_message}
use Rattle.lload_spec.specs.FirstCheck.{Cancels, Check, ClientFacts, check}
use Rattle.lload_spec.specs.Journal.{same_op}
use Rattle.lload_spec.specs.Lists.{first_passes, implies, passes, some_split_from}
use Rattle.lload_spec.specs.Operations.{Abandoned, Answered, Cancelled, Ending, Manner, Operation, Rebound, abandons_id, ending, ending_from, ending_or, is_abandon_of, is_bind_in, is_by_cancel, is_cancel_naming, is_cancellation, is_final_out, is_live, is_request_of, manner_of, operation_in, operations, takes_id}
use Rattle.lload_spec.specs.Owed.{is_canceled}
use Rattle.lload_spec.specs.Settings.{Settings}
use Rattle.lload_spec.proofs.Growth.{left, right, both, end_stays}
use Rattle.lload_laws.specs.ClientGrowth.{later_operation}
use Rattle.lload_laws.proofs.ClientGrowth.{ending_grows}
use Rattle.lload_laws.proofs.ListLaws.{all-filter, found, implied}
use Rattle.part_laws.proofs.ListLaws.{eqb_sym, last_push, none_of_both, not_true, or_elim, same_number}
use Rattle.part_spec.specs.ClientState.{ClientState, client_of, facts_of, step_client}
use Rattle.part_spec.specs.Marked.{Marked, entries}
use Rattle.part_spec.specs.Share.{check_in}
use Rattle.client_laws.proofs.ClientCancels.{cancel_named}
use Rattle.client_laws.proofs.Matches.{is_untaken}
use Rattle.client_answer_laws.proofs.Owns.{cancel_no_bind, is_of_cancel, of_cancel}
use Rattle.forward_laws.proofs.Ops.{LaterOperation, operation_later}
use Rattle.joined_laws.proofs.Begun.{is_begun}
use Rattle.joined_laws.proofs.Walks.{Begins, Begun}
use Rattle.leave_laws.proofs.Cancels.{canceled_ending}
use Rattle.leave_laws.proofs.Manners.{found_later, is_clients}
use Rattle.told_laws.proofs.Cancels.{canceled_id}

-- The end by a Cancel.

ended_so : (r : Message) (since L : List Entry) (e : Entry) → is_none (ending_from r since L) ≡ true → manner_of r (since ++ L) e ≡ Some Cancelled → passes is_by_cancel (ending_from r since (L ++ e ∷ [])) ≡ true
ended_so r since [] e h k = ap (λ m. passes is_by_cancel (ending_or m e [] None)) (sym (ap (λ l. manner_of r l e) (append-nil since)) ∙ k)
ended_so r since (x ∷ L) e h k = by (manner_of r since x) h (λ i. ended_so r (since ++ x ∷ []) L e i (ap (λ l. manner_of r l e) (append_assoc since (x ∷ []) L) ∙ k))
  where
    by : (m : Option Manner) → is_none (ending_or m x L (ending_from r (since ++ x ∷ []) L)) ≡ true → (is_none (ending_from r (since ++ x ∷ []) L) ≡ true → passes is_by_cancel (ending_from r (since ++ x ∷ []) (L ++ e ∷ [])) ≡ true) → passes is_by_cancel (ending_or m x (L ++ e ∷ []) (ending_from r (since ++ x ∷ []) (L ++ e ∷ []))) ≡ true
    by None j ih = ih j
    by (Some m) j ih = absurd (let bad : false ≡ true = j in cc)

canceled_later : (e : Entry) (o : Operation) → is_canceled o ≡ true → is_canceled (later_operation e o) ≡ true
canceled_later e o h = by (ending o) refl h
  where
    by : (x : Option Ending) → ending o ≡ x → passes is_by_cancel x ≡ true → is_canceled (later_operation e o) ≡ true
    by None z k = absurd (let bad : false ≡ true = k in cc)
    by (Some x) z k = ap (passes is_by_cancel) (end_stays o.request [] o.behind (e ∷ []) x z) ∙ k

-- an Out that ends an operation by its client tells it that it is canceled
out_cancels : (r : Message) (since : List Entry) (id : ℕ) (kind : OpKind) (e : Entry) → is_cancel_answer_of C13 id (Some kind) e ≡ true → is_clients (manner_of r since e) ≡ true → manner_of r since e ≡ Some Cancelled
out_cancels r since id kind e h k = by e.what refl h
  where
    out_manner : Bool → Bool → Option Manner
    out_manner a b = if a && b then Some Cancelled else if a then Some Answered else None

    on : (a b : Bool) → is_clients (out_manner a b) ≡ true → out_manner a b ≡ Some Cancelled
    on true true j = refl
    on true false j = absurd (let bad : false ≡ true = j in cc)
    on false b j = absurd (let bad : false ≡ true = j in cc)

    by : (w : What) → e.what ≡ w → passes (is_this id (cancel_answer kind C13)) (out_message w) ≡ true → manner_of r since e ≡ Some Cancelled
    by (what.Out i rest) z j =
        subst (λ w. manner_of r since (record { part = e.part; at = e.at; what = w }) ≡ Some Cancelled) (sym z)
        (on (is_final_out r since (record { part = e.part; at = e.at; what = what.Out i rest })) (is_cancellation r since (record { part = e.part; at = e.at; what = what.Out i rest })) (subst (λ w. is_clients (manner_of r since (record { part = e.part; at = e.at; what = w })) ≡ true) z k))
    by _ z j = absurd (let bad : false ≡ true = j in cc)

-- The In of a Cancel ends nothing by itself.

no_abandon : (i : ℕ) (q : Option Request) → names_cancel q ≡ true → abandons_id i q ≡ false
no_abandon i (Some (ExtendedRequest name)) h = refl
no_abandon i _ h = absurd (let bad : false ≡ true = h in cc)

module _ (r : Message) (since : List Entry) (e : Entry) (id : ℕ) (rest : List ℕ) (says : e.what ≡ what.In id rest) (cancel : is_cancel rest ≡ true) where
  abbrev m : Message
  m = record { id = id; rest = rest }

  abbrev came : Entry
  came = record { part = e.part; at = e.at; what = what.In id rest }

  abbrev made_by : Bool → Option Message
  made_by b = elim b [ true ↦ Some (record { id = id; rest = rest }) | false ↦ None ]

  ends_none : is_none (manner_of r since e) ≡ true
  ends_none = subst (λ w. is_none (manner_of r since (record { part = e.part; at = e.at; what = w })) ≡ true) (sym says) (on (is_abandon_of r came) (is_bind_in came) no_end no_bind)
    where
      on : (a b : Bool) → a ≡ false → b ≡ false → is_none (if a then Some Abandoned else if b then Some Rebound else None) ≡ true
      on true b x y = absurd (let bad : true ≡ false = x in cc)
      on false true x y = absurd (let bad : true ≡ false = y in cc)
      on false false x y = refl

      and_none : (a b d : Bool) → b ≡ false → (a && b && d) ≡ false
      and_none true true d x = absurd (let bad : true ≡ false = x in cc)
      and_none true false d x = refl
      and_none false b d x = refl

      no_end : is_abandon_of r came ≡ false
      no_end = and_none (not (id == 0)) (abandons_id r.id (request rest)) (not (is_request_of Bind r)) (no_abandon r.id (request rest) cancel)

      no_bind : is_bind_in came ≡ false
      no_bind = by (makes_operation m)
        where
          by : (b : Bool) → passes (λ x. passes (same_kind Bind) (kind_of x.rest)) (made_by b) ≡ false
          by true = cancel_no_bind m cancel
          by false = refl

  takes_other : (id == r.id) ≡ false → takes_id r.id e ≡ false
  takes_other h = subst (λ w. takes_id r.id (record { part = e.part; at = e.at; what = w }) ≡ false) (sym says) (by (makes_operation m))
    where
      by : (b : Bool) → passes (λ x. x.id == r.id) (made_by b) ≡ false
      by true = h
      by false = refl

-- what a check that cancels this identifier says of its message
record CancelOf (id : ℕ) (m : Message) : Type 0 where
  cancel : is_cancel m.rest ≡ true
  naming : passes (λ i. i == id) (cancel_id m.rest) ≡ true
  other : (m.id == id) ≡ false

canceling : (s : Settings) (f : ClientFacts) (m : Message) (id : ℕ) → cancels_id id (check s f m) ≡ true → CancelOf id m
canceling s f m id h = by (check s f m) refl h
  where
    by : (k : Check) → check s f m ≡ k → cancels_id id k ≡ true → CancelOf id m
    by (Cancels named kind) e j =
        let same : named ≡ id = same_number named id j in
        record {
          cancel = of_cancel s f m (ap is_of_cancel e);
          naming = subst (λ i. passes (λ x. x == i) (cancel_id m.rest) ≡ true) same (canceled_id s f m named kind e);
          other = ap (λ i. m.id == i) (sym same) ∙ eqb_sym m.id named ∙ (cancel_named s f m named kind e).0.other;
        }
    by _ e j = absurd (let bad : false ≡ true = j in cc)

module _ (s : Settings) (list : List Marked) (o : Operation) where
  abbrev c : ℕ
  c = o.name.client

  abbrev HasCanceled : List Entry → Type 0
  HasCanceled place = passes is_canceled (operation_in o.name.client place o.name) ≡ true

  canceled_push : (place : List Entry) (e : Entry) → HasCanceled place → HasCanceled (place ++ e ∷ [])
  canceled_push place e h = by (operation_in c place o.name) refl h
    where
      by : (q : Option Operation) → operation_in c place o.name ≡ q → passes is_canceled q ≡ true → HasCanceled (place ++ e ∷ [])
      by None z j = absurd (let bad : false ≡ true = j in cc)
      by (Some q) z j = ap (passes is_canceled) (found_later c o.name.k place e q z) ∙ canceled_later e q j

  canceled_more : (L M : List Entry) → HasCanceled L → HasCanceled (L ++ M)
  canceled_more L [] h = subst HasCanceled (sym (append-nil L)) h
  canceled_more L (e ∷ M) h = subst HasCanceled (append_assoc L (e ∷ []) M) (canceled_more (L ++ e ∷ []) M (canceled_push L e h))

  abbrev answers : Entry → Bool
  answers e = is_cancel_answer_of C13 o.request.id (kind_of o.request.rest) e

  -- the answer behind the In of the Cancel
  module _ (place : List Entry) (p : ClientState) (m x : Marked) (begins : Begins c place p m) (id : ℕ) (rest : List ℕ) (says : m.entry.what ≡ what.In id rest) (it : CancelOf o.request.id (record { id = id; rest = rest })) (told : answers x.entry ≡ true) where
    of_live : (q : Operation) → operation_in c place o.name ≡ Some q → is_live q ≡ true → q.request ≡ o.request → HasCanceled ((place ++ m.entry ∷ []) ++ x.entry ∷ [])
    of_live q z live same =
        ap (passes is_canceled) (found_later c o.name.k (place ++ m.entry ∷ []) x.entry (later_operation m.entry q) (found_later c o.name.k place m.entry q z))
        ∙ of_kind (kind_of q.request.rest) refl (subst (λ (r : Message). is_cancel_answer_of C13 r.id (kind_of r.rest) x.entry ≡ true) (sym same) told)
      where
        untaken : is_untaken q ≡ true
        untaken = implied (is_live q) (is_untaken q) (found (λ y. implies (is_live y) (is_untaken y)) (λ y. same_op o.name y.name) (operations c place) q z (sym (all-filter is_untaken is_live (operations c place)) ∙ begins.lives.untaken)) live

        its : CancelOf q.request.id (record { id = id; rest = rest })
        its = subst (λ (r : Message). CancelOf r.id (record { id = id; rest = rest })) (sym same) it

        going : is_live (later_operation m.entry q) ≡ true
        going = ending_grows q.request q.behind m.entry ∙ both (is_live q) _ live (ends_none q.request q.behind m.entry id rest says it.cancel)

        free : list_any (takes_id q.request.id) (q.behind ++ m.entry ∷ []) ≡ false
        free = none_of_both (takes_id q.request.id) q.behind (m.entry ∷ []) (not_true (list_any (takes_id q.request.id) q.behind) untaken) (ap (λ b. b || false) (takes_other q.request q.behind m.entry id rest says it.cancel its.other))

        naming : is_cancel_naming q.request m.entry ≡ true
        naming = subst (λ w. is_cancel_naming q.request (record { part = m.entry.part; at = m.entry.at; what = w }) ≡ true) (sym says) (both (is_cancel rest) _ its.cancel its.naming)

        of_kind : (k : Option OpKind) → kind_of q.request.rest ≡ k → is_cancel_answer_of C13 q.request.id k x.entry ≡ true → is_canceled (later_operation x.entry (later_operation m.entry q)) ≡ true
        of_kind None e j = absurd (let bad : false ≡ true = j in cc)
        of_kind (Some kind) e j =
            ended_so q.request [] (q.behind ++ m.entry ∷ []) x.entry going
            (out_cancels q.request (q.behind ++ m.entry ∷ []) q.request.id kind x.entry j
            (canceled_ending q.request (q.behind ++ m.entry ∷ []) x.entry kind e free (ap (passes (is_cancel_naming q.request)) (last_push q.behind m.entry) ∙ naming) j))

  abbrev IsThere : List Entry → Type 0
  IsThere l = operation_in o.name.client l o.name ≡ Some o

  decided : (b d : Bool) → (elim b [ true ↦ d | false ↦ false ]) ≡ true → (b ≡ true) × (d ≡ true)
  decided true d h = (refl, h)
  decided false d h = absurd (let bad : false ≡ true = h in cc)

  here : (place : List Entry) (p : ClientState) (m : Marked) (ms : List Marked) → (is_begun m.entry.what ≡ true → Begins c place p m) → is_canceled_by (check_in s c list) o place m.entry (entries ms) ≡ true → IsThere (place ++ m.entry ∷ entries ms) → HasCanceled (place ++ m.entry ∷ entries ms)
  here place p m ms begins h there = by m.entry.what refl
    where
      -- its request is the operation's
      one : (q : Operation) → operation_in c place o.name ≡ Some q → q.request ≡ o.request
      one q z =
          let later : LaterOperation c o.name.k (place ++ m.entry ∷ entries ms) q = operation_later c o.name.k place (m.entry ∷ entries ms) q z in
          let same : Some later.later ≡ Some o = sym later.found ∙ there in
          let it : later.later ≡ o = cc in
          sym later.request ∙ ap (λ (y : Operation). y.request) it

      behind : (xs : List Marked) (id : ℕ) (rest : List ℕ) → m.entry.what ≡ what.In id rest → passes is_live (operation_in c place o.name) ≡ true → first_passes answers (entries xs) ≡ true → CancelOf o.request.id (record { id = id; rest = rest }) → HasCanceled (place ++ m.entry ∷ entries xs)
      behind [] id rest e live told it = absurd (let bad : false ≡ true = told in cc)
      behind (x ∷ xs) id rest e live told it =
          subst HasCanceled (append_assoc place (m.entry ∷ []) (x.entry ∷ entries xs))
          (subst HasCanceled (append_assoc (place ++ m.entry ∷ []) (x.entry ∷ []) (entries xs))
          (canceled_more ((place ++ m.entry ∷ []) ++ x.entry ∷ []) (entries xs) (on (operation_in c place o.name) refl live)))
        where
          on : (q : Option Operation) → operation_in c place o.name ≡ q → passes is_live q ≡ true → HasCanceled ((place ++ m.entry ∷ []) ++ x.entry ∷ [])
          on None z j = absurd (let bad : false ≡ true = j in cc)
          on (Some q) z j = of_live place p m x (begins (ap is_begun e)) id rest e it told q z j (one q z)

      by : (w : What) → m.entry.what ≡ w → HasCanceled (place ++ m.entry ∷ entries ms)
      by (what.In id rest) e =
          let at : is_canceled_by (check_in s c list) o place (record { part = m.entry.part; at = m.entry.at; what = what.In id rest }) (entries ms) ≡ true = subst (λ w. is_canceled_by (check_in s c list) o place (record { part = m.entry.part; at = m.entry.at; what = w }) (entries ms) ≡ true) e h in
          let parts = decided (passes is_live (operation_in c place o.name) && first_passes answers (entries ms)) (cancels_id o.request.id (check_in s c list place (record { id = id; rest = rest }))) at in
          behind ms id rest e (left (passes is_live (operation_in c place o.name)) _ parts.0) (right (passes is_live (operation_in c place o.name)) _ parts.0) (canceling s (facts_of (client_of s c (take (length place) list))) (record { id = id; rest = rest }) o.request.id parts.1)
      by _ e = absurd (let bad : false ≡ true = subst (λ w. is_canceled_by (check_in s c list) o place (record { part = m.entry.part; at = m.entry.at; what = w }) (entries ms) ≡ true) e h in cc)

  pub canceled_from : (place : List Entry) (p : ClientState) (ms : List Marked) → Begun s c place p ms → some_split_from (is_canceled_by (check_in s c list) o) place (entries ms) ≡ true → IsThere (place ++ entries ms) → HasCanceled (place ++ entries ms)
  canceled_from place p [] g h there = absurd (let bad : false ≡ true = h in cc)
  canceled_from place p (m ∷ ms) g h there =
      or_elim (is_canceled_by (check_in s c list) o place m.entry (entries ms)) (some_split_from (is_canceled_by (check_in s c list) o) (place ++ m.entry ∷ []) (entries ms))
      (λ j. here place p m ms g.0 j there)
      (λ j. subst HasCanceled (append_assoc place (m.entry ∷ []) (entries ms)) (canceled_from (place ++ m.entry ∷ []) (step_client s p m) ms g.1 j (subst IsThere (sym (append_assoc place (m.entry ∷ []) (entries ms))) there))) h
