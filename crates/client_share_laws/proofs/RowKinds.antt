-- Behind each turn of a client, each row is of a request that has a kind; and behind Gone there is no row.
use Rattle.std.proofs.Common.{◌≡◌, ℕ, Bool, true, false, ◌==◌, ◌&&◌, not, List, [], ◌∷◌, ◌++◌, refl, ap, ◌∙◌, sym, subst}
use Rattle.std.specs.Prelude.{Option, Some, None, is_some, filter, if◌then◌else◌}
use Rattle.std.specs.List.{list_all}
use Rattle.std.proofs.lemmas.List.Folds.{list_all-append}
use Rattle.ldap_spec.specs.Messages.{Message}
use Rattle.ldap_spec.specs.Kinds.{kind_of, is_abandon, is_unbind}
use Rattle.ldap_spec.specs.Bodies.{cancel_answer, protocol_error_notice}
use Rattle.ldap_spec.specs.Requests.{Request, BindRequest, UnbindRequest, AbandonRequest, ExtendedRequest, PlainRequest, request}
use Rattle.lload_names.specs.declared.names.OpName.{OpName}
use Rattle.lload_names.specs.declared.names.OpKind.TheVariants.{Bind}
use Rattle.lload_names.specs.declared.names.Answer.{Answer}
use Rattle.lload_names.specs.declared.names.Answer.TheVariants.{Go, Busy, Unavailable}
use Rattle.lload_names.specs.declared.names.CancelAnswer.TheVariants.{C13, S1}
use Rattle.lload_names.specs.declared.names.EndWhy.{EndWhy}
use Rattle.lload_names.specs.declared.names.EndWhy.TheVariants.{Left, ZeroId, IdInUse}
use Rattle.lload_names.specs.declared.names.PartName.TheVariants.{Client}
use Rattle.lload_names.specs.declared.names.Letter.TheVariants.{Choice, Reply, Failed}
use Rattle.lload_names.specs.declared.names.What.{What}
use Rattle.lload_names.specs.declared.names.What.TheVariants as what
use Rattle.lload_spec.specs.Settings.{Settings}
use Rattle.lload_spec.specs.Entries.{operation_message, makes_operation}
use Rattle.lload_spec.specs.Operations.{is_final_for, is_request_of, abandons_id}
use Rattle.lload_spec.specs.FirstCheck.{Check, Ends, Unbinds, Abandons, Refuses, Answers, Cancels, GoesOn, check_request, is_in_use}
use Rattle.part_spec.specs.Marked.{Marked, Taken}
use Rattle.part_spec.specs.Inputs.{entries_of}
use Rattle.part_spec.specs.ClientState.{ClientState, ClientRow, facts_of, step_client, client_behind, check_at, row_named, row_under, new_row, abandons, with_choice, with_connection}
use Rattle.part_spec.specs.ClientTurn.{refused, canceled, whats_by, whats_for}
use Rattle.part_spec.specs.Fit.{ledger_behind as behind}
use Rattle.lload_spec.proofs.Growth.{left, right, both}
use Rattle.part_laws.specs.Turns.{Event, made}
use Rattle.part_laws.proofs.ListLaws.{all_kept, not_true, eqb_same}
use Rattle.client_laws.specs.Turns.{client_event}
use Rattle.client_laws.proofs.KindsKept.{carried_kind}
use Rattle.client_laws.proofs.NamesNone.{request_names_none, is_unbind_request, request_is_no_unbind}
use Rattle.client_laws.proofs.ClientKinds.{is_operation, request_kind}
use Rattle.client_laws.proofs.Matches.{left_by}
use Rattle.client_laws.proofs.ClientLives.{forwarded_all}
use Rattle.client_laws.proofs.ClientEnds.{out_left}
use Rattle.client_laws.proofs.ClientGives.{in_state}
use Rattle.client_laws.proofs.ClientTurns.{client_turn_of, tail_none, is_end}
use Rattle.client_share_laws.proofs.Whats.{refused_all, canceled_all, choice_all}
use Rattle.client_share_laws.proofs.ClientCases.{Cases, taken, event_case}

-- a request that makes an operation, and that its check doesn't end, has a kind
operation_kind : (s : Settings) (p : ClientState) (m : Message) → makes_operation m ≡ true → is_end (check_at s p m) ≡ false → is_some (kind_of m.rest) ≡ true
operation_kind s p m makes h = by (m.id == 0) (makes_operation m && is_in_use (facts_of p) m.id) (request m.rest) refl h
  where
    by : (z b : Bool) (o : Option Request) → request m.rest ≡ o → is_end (if z then Ends ZeroId else if b then Ends IdInUse else check_request s (facts_of p) m o) ≡ false → is_some (kind_of m.rest) ≡ true
    by true b o e k = absurd (let bad : true ≡ false = k in cc)
    by false true o e k = absurd (let bad : true ≡ false = k in cc)
    by false false None e k = absurd (let bad : true ≡ false = k in cc)
    by false false (Some UnbindRequest) e k = absurd (let bad : true ≡ false = sym (ap is_unbind_request e) ∙ request_is_no_unbind m.rest (not_true (is_unbind m.rest) (right (not (m.id == 0)) _ (left (not (m.id == 0) && not (is_unbind m.rest)) _ makes))) in cc)
    by false false (Some (AbandonRequest i)) e k = absurd (let bad : true ≡ false = sym (eqb_same i) ∙ sym (ap (abandons_id i) e) ∙ request_names_none i m.rest (not_true (is_abandon m.rest) (right (not (m.id == 0) && not (is_unbind m.rest)) _ makes)) in cc)
    by false false (Some (BindRequest version name method)) e k = request_kind m.rest (ap is_operation e)
    by false false (Some (ExtendedRequest name)) e k = request_kind m.rest (ap is_operation e)
    by false false (Some (PlainRequest kind)) e k = request_kind m.rest (ap is_operation e)

abbrev pub has_kind : ClientRow → Bool
has_kind r = is_some (kind_of r.request.rest)

-- an entry that makes no operation without a kind
abbrev is_kinded : What → Bool
is_kinded w = elim (operation_message w) [ None ↦ true | Some m ↦ is_some (kind_of m.rest) ]

in_kinded : (m : Message) → (makes_operation m ≡ true → is_some (kind_of m.rest) ≡ true) → is_kinded (what.In m.id m.rest) ≡ true
in_kinded m f = by (makes_operation m) f
  where
    put : Bool → Option Message
    put b = elim b [ true ↦ Some (record { id = m.id; rest = m.rest }) | false ↦ None ]

    by : (b : Bool) → (b ≡ true → is_some (kind_of m.rest) ≡ true) → (elim (put b) [ None ↦ true | Some x ↦ is_some (kind_of x.rest) ]) ≡ true
    by true g = g refl
    by false g = refl

-- one entry
module _ (s : Settings) (at : ℕ) (mark : Option Taken) (p : ClientState) (h : list_all has_kind p.rows ≡ true) where
  kinds_in : (m : Message) (b d : Bool) → (b ≡ true → is_some (kind_of m.rest) ≡ true) → list_all has_kind (in_state s at p m b d).rows ≡ true
  kinds_in m b d f = by b d f
    where
      new : is_some (kind_of m.rest) ≡ true → has_kind (new_row s p m) ≡ true
      new k = ap is_some (carried_kind s m p.identity) ∙ k

      by : (x y : Bool) → (x ≡ true → is_some (kind_of m.rest) ≡ true) → list_all has_kind (in_state s at p m x y).rows ≡ true
      by false y g = all_kept has_kind (λ r. not (abandons m r)) p.rows h
      by true true g = both (has_kind (new_row s p m)) true (new (g refl)) refl
      by true false g = list_all-append has_kind p.rows (new_row s p m ∷ []) ∙ both (list_all has_kind p.rows) _ h (both (has_kind (new_row s p m)) true (new (g refl)) refl)

  kinds_left : (id : ℕ) (rest : List ℕ) (o : Option ClientRow) → list_all has_kind (left_by id (λ r. is_final_for r.request rest) o p.rows) ≡ true
  kinds_left id rest None = h
  kinds_left id rest (Some r) = by (is_final_for r.request rest)
    where
      by : (b : Bool) → list_all has_kind (elim b [ false ↦ p.rows | true ↦ filter (λ x. not (x.k == r.k)) p.rows ]) ≡ true
      by false = h
      by true = all_kept has_kind (λ x. not (x.k == r.k)) p.rows h

  kinds_chosen : (op : OpName) (a : Answer) → list_all has_kind (with_choice op a p).rows ≡ true
  kinds_chosen op (Go u b) = by (row_named p op)
    where
      state : Option ClientRow → ClientState
      state o = elim o [ None ↦ p | Some r ↦ with_connection u b p r ]

      by : (o : Option ClientRow) → list_all has_kind (state o).rows ≡ true
      by None = h
      by (Some r) = forwarded_all has_kind r.k u p.rows (λ x v. refl) ∙ h
  kinds_chosen op Busy = h
  kinds_chosen op Unavailable = h

  kinds_step : (w : What) → is_kinded w ≡ true → list_all has_kind (client_behind s at mark p w).rows ≡ true
  kinds_step (what.In id rest) k = kinds_in (record { id = id; rest = rest }) (makes_operation (record { id = id; rest = rest })) (is_request_of Bind (record { id = id; rest = rest })) (by (makes_operation (record { id = id; rest = rest })) k)
    where
      put : Bool → Option Message
      put b = elim b [ true ↦ Some (record { id = id; rest = rest }) | false ↦ None ]

      by : (b : Bool) → (elim (put b) [ None ↦ true | Some x ↦ is_some (kind_of x.rest) ]) ≡ true → b ≡ true → is_some (kind_of rest) ≡ true
      by true j e = j
      by false j e = absurd (let bad : false ≡ true = e in cc)
  kinds_step (what.Out id rest) k = ap (list_all has_kind) (out_left s at mark p rest id (row_under p id)) ∙ kinds_left id rest (row_under p id)
  kinds_step (what.Chosen op a) k = kinds_chosen op a
  kinds_step (what.Gone why) k = refl
  kinds_step _ k = h

-- a turn
kinds_through : (s : Settings) (u at : ℕ) (ws : List What) (mark : Option Taken) (p : ClientState) → list_all has_kind p.rows ≡ true → list_all is_kinded ws ≡ true → list_all has_kind (behind (step_client s) p (client_turn_of u at mark ws)).rows ≡ true
kinds_through s u at [] mark p h k = h
kinds_through s u at (w ∷ ws) mark p h k =
    let next : ClientState = step_client s p (record { entry = record { part = Client u; at = at; what = w }; mark = mark }) in
    subst (λ ms. list_all has_kind (behind (step_client s) next ms).rows ≡ true) (sym (tail_none (entries_of (Client u) at ws))) (kinds_through s u at ws None next (kinds_step s at mark p h w (left (is_kinded w) _ k)) (right (is_kinded w) _ k))

-- a turn that ends with Gone
pub rows_ended : (s : Settings) (u at : ℕ) (ws : List What) (why : EndWhy) (mark : Option Taken) (p : ClientState) → (behind (step_client s) p (client_turn_of u at mark (ws ++ what.Gone why ∷ []))).rows ≡ []
rows_ended s u at [] why mark p = refl
rows_ended s u at (w ∷ ws) why mark p =
    let next : ClientState = step_client s p (record { entry = record { part = Client u; at = at; what = w }; mark = mark }) in
    subst (λ ms. (behind (step_client s) next ms).rows ≡ []) (sym (tail_none (entries_of (Client u) at (ws ++ what.Gone why ∷ [])))) (rows_ended s u at ws why None next)

-- each turn
module _ (s : Settings) (p : ClientState) (h : list_all has_kind p.rows ≡ true) where
  abbrev Kinds : List Marked → Type 0
  Kinds ms = list_all has_kind (behind (step_client s) p ms).rows ≡ true

  by_its_check : (at : ℕ) (m : Message) (k : Check) → check_at s p m ≡ k → Kinds (client_turn_of p.number at None (what.In m.id m.rest ∷ whats_by m k))
  by_its_check at m k e = by k (λ f makes. operation_kind s p m makes (ap is_end e ∙ f))
    where
      Goal : Check → Type 0
      Goal c = Kinds (client_turn_of p.number at None (what.In m.id m.rest ∷ whats_by m c))

      kept : (ws : List What) → (makes_operation m ≡ true → is_some (kind_of m.rest) ≡ true) → list_all is_kinded ws ≡ true → Kinds (client_turn_of p.number at None (what.In m.id m.rest ∷ ws))
      kept ws f j = kinds_through s p.number at (what.In m.id m.rest ∷ ws) None p h (both (is_kinded (what.In m.id m.rest)) _ (in_kinded m f) j)

      by : (c : Check) → (is_end c ≡ false → makes_operation m ≡ true → is_some (kind_of m.rest) ≡ true) → Goal c
      by (Ends why) f = ap (list_all has_kind) (rows_ended s p.number at (what.In m.id m.rest ∷ what.Out 0 protocol_error_notice ∷ []) why None p)
      by Unbinds f = ap (list_all has_kind) (rows_ended s p.number at (what.In m.id m.rest ∷ []) Left None p)
      by (Abandons id) f = kept [] (f refl) refl
      by (Refuses which) f = kept (refused m which) (f refl) (refused_all is_kinded (λ id rest. refl) m which)
      by (Answers which) f = kept (canceled m.id (kind_of m.rest) which) (f refl) (canceled_all is_kinded (λ id rest. refl) m.id (kind_of m.rest) which)
      by (Cancels id kind) f = kept (what.Out id (cancel_answer kind C13) ∷ canceled m.id (kind_of m.rest) S1) (f refl) (canceled_all is_kinded (λ id rest. refl) m.id (kind_of m.rest) S1)
      by GoesOn f = kept [] (f refl) refl

  kinds_cases : Cases s p Kinds
  kinds_cases =
      record {
        none = h;
        arrives = λ at fresh. kinds_through s p.number at (what.Arrived ∷ []) None p h refl;
        checked = λ at m e f. by_its_check at m (check_at s p m) refl;
        chosen = λ at sender op a here. kinds_through s p.number at (what.Chosen op a ∷ whats_for (row_named p op) a) (taken sender (Choice op a)) p h (choice_all is_kinded (λ id rest. refl) (row_named p op) a);
        answered = λ at sender op rest is_last who r e here. kinds_through s p.number at (what.Out r.request.id rest ∷ []) (taken sender (Reply op rest is_last who)) p h refl;
        failed = λ at sender op which r e here. kinds_through s p.number at (refused r.request which) (taken sender (Failed op which)) p h (refused_all is_kinded (λ id rest. refl) r.request which);
        late = λ at mark op e here about. kinds_through s p.number at (what.Late op ∷ []) mark p h refl;
        breaks = λ at why there e n. ap (list_all has_kind) (rows_ended s p.number at (what.Out 0 protocol_error_notice ∷ []) why None p);
        severed = λ at why here e. ap (list_all has_kind) (rows_ended s p.number at [] why None p);
        stalls = λ at here. kinds_through s p.number at (what.Stalled ∷ []) None p h refl;
        flows = λ at here. kinds_through s p.number at (what.Flowing ∷ []) None p h refl;
      }

  pub event_kinds : (x : Event) → Kinds (made (client_event s) p x)
  event_kinds x = event_case s p Kinds kinds_cases x
