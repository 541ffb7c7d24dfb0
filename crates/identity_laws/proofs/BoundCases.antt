-- Behind each turn of a client, what the checks ask of the client is what the family says of it.
use Rattle.std.proofs.Common.{◌≡◌, ℕ, Bool, true, false, ◌==◌, ◌&&◌, List, [], ◌∷◌, ◌++◌, refl, ap, arith, ◌∙◌, sym, subst, append_assoc}
use Rattle.std.specs.Prelude.{Option, Some, None, is_none, map}
use Rattle.std.specs.List.{list_all}
use Rattle.std.proofs.lemmas.List.{append-nil, map-append}
use Rattle.std.proofs.lemmas.List.Folds.{list_all-append}
use Rattle.ldap_spec.specs.Bodies.{cancel_answer}
use Rattle.ldap_spec.specs.Kinds.{kind_of, same_kind}
use Rattle.ldap_spec.specs.Messages.{Message}
use Rattle.lload_names.specs.declared.names.CancelAnswer.TheVariants.{S1, C13}
use Rattle.lload_names.specs.declared.names.EndWhy.TheVariants.{Left}
use Rattle.lload_names.specs.declared.names.Entry.{Entry}
use Rattle.lload_names.specs.declared.names.Letter.TheVariants.{Choice, Reply, Failed}
use Rattle.lload_names.specs.declared.names.OpKind.{OpKind}
use Rattle.lload_names.specs.declared.names.OpKind.TheVariants.{Bind}
use Rattle.lload_names.specs.declared.names.OpName.{OpName}
use Rattle.lload_names.specs.declared.names.PartName.{PartName}
use Rattle.lload_names.specs.declared.names.PartName.TheVariants.{Client}
use Rattle.lload_names.specs.declared.names.What.{What}
use Rattle.lload_names.specs.declared.names.What.TheVariants as what
use Rattle.lload_spec.specs.Entries.{operation_message}
use Rattle.lload_spec.specs.FirstCheck.{Check, Ends, Unbinds, Abandons, Refuses, Answers, Cancels, GoesOn, is_between_steps, client_facts, live_request, may_be_canceled}
use Rattle.lload_spec.specs.Identity.{identity, identity_by}
use Rattle.lload_spec.specs.Fifo.{is_in_progress}
use Rattle.lload_spec.specs.Journal.{Family}
use Rattle.lload_spec.specs.Lists.{passes, where_there}
use Rattle.lload_spec.specs.Operations.{Operation, last_bind, live_operations}
use Rattle.lload_spec.specs.Settings.{Settings}
use Rattle.lload_spec.proofs.Growth.{left, right, both}
use Rattle.lload_laws.proofs.ListLaws.{found_passes}
use Rattle.part_laws.specs.Turns.{Event, made}
use Rattle.part_laws.proofs.ListLaws.{not_true}
use Rattle.part_spec.specs.ClientState.{ClientState, ClientRow, empty_client, step_client, client_of, facts_of, check_at, row_named}
use Rattle.part_spec.specs.ClientTurn.{canceled, refused, whats_by, whats_for}
use Rattle.part_spec.specs.Fit.{ledger_behind as behind}
use Rattle.part_spec.specs.Marked.{Marked, Taken, entries}
use Rattle.client_laws.specs.Turns.{client_event}
use Rattle.client_laws.proofs.ClientCancels.{Named, cancel_named}
use Rattle.client_laws.proofs.ClientClauses.{Keeps}
use Rattle.client_laws.proofs.ClientEnds.{event_once}
use Rattle.client_laws.proofs.ClientOuts.{EndsOnce}
use Rattle.client_laws.proofs.Matches.{Matches}
use Rattle.client_laws.proofs.ClientTurns.{client_turn_of, free_by, is_end, steps_are, behind_both}
use Rattle.client_share_laws.proofs.ClientCases.{Cases, event_case, taken}
use Rattle.client_share_laws.proofs.Whats.{refused_all, canceled_all, choice_all}
use Rattle.client_answer_laws.proofs.Owns.{of_cancel, is_of_cancel, cancel_no_bind}
use Rattle.carried_laws.specs.Laws.{is_identity_right, are_identities_right}
use Rattle.identity_laws.proofs.Finals.{Timely, timely}
use Rattle.identity_laws.proofs.Bound.{Bound, BindSays}
use Rattle.identity_laws.proofs.BoundOut.{WhoRight}
use Rattle.identity_laws.proofs.BoundTurns.{OutRight, frees_quiet, turn_bound, tame_turn, gone_turn, notice_turn, left_turn, ended_turn}
use Rattle.identity_laws.proofs.Letters.{answer_right}
use Rattle.identity_laws.proofs.Tame.{is_tame, refused_tame, canceled_tame, choice_tame}

abbrev is_quiet : What → Bool
is_quiet w = is_none (operation_message w)

module _ (s : Settings) (F : Family) (c : ℕ) (before : List Marked) (p : ClientState) (keeps : Keeps s c before p) (bound : Bound s F c (entries before) p) (rest_of : List Entry) (same : F.client c ≡ entries before ++ rest_of) where
  abbrev place : List Entry
  place = entries before

  abbrev Turn : List Marked → Type 0
  Turn ms = Timely c (entries before) (entries ms) → are_identities_right s F ms ≡ true → Bound s F c (entries before ++ entries ms) (behind (step_client s) p ms)

  tame : (at : ℕ) (mark : Option Taken) (ws : List What) → list_all is_quiet ws ≡ true → list_all is_tame ws ≡ true → Turn (client_turn_of p.number at mark ws)
  tame at mark ws q k t j = tame_turn s F c p.number at ws mark (entries before) p keeps.lives bound (frees_quiet s p.number at ws mark p q) t k

  -- A message.
  module _ (at : ℕ) (m : Message) where
    no_out : OutRight s F c p.number at (entries before) p None (what.In m.id m.rest)
    no_out id rest z = absurd (let bad : what.In m.id m.rest ≡ what.Out id rest = z in cc)

    goes_on : (ws : List What) → is_end (check_at s p m) ≡ false → list_all is_quiet ws ≡ true → list_all is_tame ws ≡ true → Turn (client_turn_of p.number at None (what.In m.id m.rest ∷ ws))
    goes_on ws e q k t j = turn_bound s F c p.number at (what.In m.id m.rest) ws None (entries before) p keeps.lives bound (free_by s p m e, frees_quiet s p.number at ws None (step_client s p (record { entry = record { part = Client p.number; at = at; what = what.In m.id m.rest }; mark = None })) q) t no_out k

    -- a Cancel is no Bind
    no_bind : is_of_cancel (check_at s p m) ≡ true → (kind : OpKind) → kind_of m.rest ≡ Some kind → same_kind Bind kind ≡ false
    no_bind e kind k = sym (ap (passes (same_kind Bind)) k) ∙ cancel_no_bind m (of_cancel s (facts_of p) m e)

    named_no_bind : (id : ℕ) (kind : OpKind) → check_at s p m ≡ Cancels id kind → same_kind Bind kind ≡ false
    named_no_bind id kind e =
        let it : Named (facts_of p) m id kind × ((m.id == 0) ≡ false) = cancel_named s (facts_of p) m id kind e in
        sym (ap (passes (same_kind Bind)) it.0.one.kind_is) ∙ not_true (passes (same_kind Bind) it.0.one.request.kind) (right (it.0.one.request.id == id) _ (found_passes (may_be_canceled id) (facts_of p).live it.0.one.request it.0.one.found))

    checked_turn : (k : Check) → check_at s p m ≡ k → Turn (client_turn_of p.number at None (what.In m.id m.rest ∷ whats_by m k))
    checked_turn (Ends why) e = λ t j. ended_turn s F c p.number at m why (entries before) p keeps.lives.count bound t
    checked_turn Unbinds e = λ t j. left_turn s F c p.number at m Left (entries before) p keeps.lives.count bound
    checked_turn (Abandons id) e = goes_on [] (ap is_end e) refl refl
    checked_turn (Refuses which) e = goes_on (refused m which) (ap is_end e) (refused_all is_quiet (λ id rest. refl) m which) (refused_tame m which)
    checked_turn (Answers which) e = goes_on (canceled m.id (kind_of m.rest) which) (ap is_end e) (canceled_all is_quiet (λ id rest. refl) m.id (kind_of m.rest) which) (canceled_tame m.id (kind_of m.rest) which (no_bind (ap is_of_cancel e)))
    checked_turn (Cancels id kind) e = goes_on (what.Out id (cancel_answer kind C13) ∷ canceled m.id (kind_of m.rest) S1) (ap is_end e) (canceled_all is_quiet (λ i rest. refl) m.id (kind_of m.rest) S1) (both (is_tame (what.Out id (cancel_answer kind C13))) _ (left (is_tame (what.Out id (cancel_answer kind C13))) true (canceled_tame id (Some kind) C13 (λ x z. let one : kind ≡ x = cc in ap (same_kind Bind) (sym one) ∙ named_no_bind id kind e))) (canceled_tame m.id (kind_of m.rest) S1 (no_bind (ap is_of_cancel e))))
    checked_turn GoesOn e = goes_on [] (ap is_end e) refl refl

  -- an answer
  answer_turn : (at : ℕ) (sender : PartName) (op : OpName) (rest : List ℕ) (is_last : Bool) (who : Option (List ℕ)) (r : ClientRow) → row_named p op ≡ Some r → Turn (client_turn_of p.number at (taken sender (Reply op rest is_last who)) (what.Out r.request.id rest ∷ []))
  answer_turn at sender op rest is_last who r e t j = turn_bound s F c p.number at (what.Out r.request.id rest) [] (taken sender (Reply op rest is_last who)) (entries before) p keeps.lives bound (refl, tt) t told refl
    where
      mark : Option Taken
      mark = taken sender (Reply op rest is_last who)

      told : OutRight s F c p.number at (entries before) p (taken sender (Reply op rest is_last who)) (what.Out r.request.id rest)
      told id out z =
          let one : r.request.id ≡ id = cc in
          let two : rest ≡ out = cc in
          subst (λ i. WhoRight s F c (entries before) p (Client p.number) at i out (taken sender (Reply op rest is_last who))) one
          (subst (λ o. WhoRight s F c (entries before) p (Client p.number) at r.request.id o (taken sender (Reply op rest is_last who))) two
          (answer_right s F c (entries before) rest_of same p keeps.says.number keeps.lives.apart (Client p.number) at sender op rest is_last who r e (left (is_identity_right s F (Reply op rest is_last who)) true j)))

  bound_cases : Cases s p Turn
  bound_cases =
      record {
        none = λ t j. subst (λ l. Bound s F c l p) (sym (append-nil (entries before))) bound;
        arrives = λ at fresh. tame at None (what.Arrived ∷ []) refl refl;
        checked = λ at m e h. checked_turn at m (check_at s p m) refl;
        chosen = λ at sender op a here. tame at (taken sender (Choice op a)) (what.Chosen op a ∷ whats_for (row_named p op) a) (choice_all is_quiet (λ id rest. refl) (row_named p op) a) (choice_tame (row_named p op) a);
        answered = λ at sender op rest is_last who r e here. answer_turn at sender op rest is_last who r e;
        failed = λ at sender op which r e here. tame at (taken sender (Failed op which)) (refused r.request which) (refused_all is_quiet (λ id rest. refl) r.request which) (refused_tame r.request which);
        late = λ at mark op e here about. tame at mark (what.Late op ∷ []) refl refl;
        breaks = λ at why there e n t j. notice_turn s F c p.number at why (entries before) p bound t;
        severed = λ at why here e t j. gone_turn s F c p.number at why (entries before) p bound;
        stalls = λ at here. tame at None (what.Stalled ∷ []) refl refl;
        flows = λ at here. tame at None (what.Flowing ∷ []) refl refl;
      }

  pub event_bound : (x : Event) → Turn (made (client_event s) p x)
  event_bound x = event_case s p Turn bound_cases x

-- What is kept behind each turn.
pub record Knows (s : Settings) (F : Family) (c : ℕ) (before : List Marked) (p : ClientState) : Type 0 where
  pub state : p ≡ behind (step_client s) (empty_client c) before
  pub once : EndsOnce c (entries before)
  pub bound : (rest_of : List Entry) → F.client c ≡ entries before ++ rest_of → are_identities_right s F before ≡ true → Bound s F c (entries before) p

pub knows_more : (s : Settings) (F : Family) (c : ℕ) (before : List Marked) (p : ClientState) (x : Event) → Keeps s c before p → Knows s F c before p → Knows s F c (before ++ made (client_event s) p x) (behind (step_client s) p (made (client_event s) p x))
knows_more s F c before p x keeps h =
    record {
      state = ap (λ q. behind (step_client s) q turn) h.state ∙ sym (behind_both s (empty_client c) before turn);
      once = subst (EndsOnce c) (sym grown) once;
      bound = λ rest_of same right_all.
          let older : F.client c ≡ entries before ++ (entries turn ++ rest_of) = same ∙ ap (λ l. l ++ rest_of) grown ∙ append_assoc (entries before) (entries turn) rest_of in
          let parts : (are_identities_right s F before && are_identities_right s F turn) ≡ true = sym (list_all-append (λ m. where_there (λ t. is_identity_right s F t.letter) m.mark) before turn) ∙ right_all in
          subst (λ l. Bound s F c l (behind (step_client s) p turn)) (sym grown)
          (event_bound s F c before p keeps (h.bound (entries turn ++ rest_of) older (left (are_identities_right s F before) _ parts)) (entries turn ++ rest_of) older x (timely c (entries before) (entries turn) once) (right (are_identities_right s F before) _ parts));
    }
  where
    turn : List Marked
    turn = made (client_event s) p x

    grown : entries (before ++ turn) ≡ entries before ++ entries turn
    grown = map-append (λ m. m.entry) before turn

    once : EndsOnce c (entries before ++ entries turn)
    once = event_once s c (entries before) p x keeps.lives h.once

pub nothing_known : (s : Settings) (F : Family) (c : ℕ) → Knows s F c [] (empty_client c)
nothing_known s F c = record { state = refl; once = record { one_last = λ n. omega arith; no_zero = refl; ended_once = refl }; bound = λ rest_of same k. record { says = (refl, refl, refl); untaken = tt } }

requests_same : (rs : List ClientRow) (os : List Operation) → Matches rs os → map (λ r. live_request r.request) rs ≡ map (λ o. live_request o.request) os
requests_same [] [] m = refl
requests_same (r ∷ rs) (o ∷ os) m = ap (λ x. x ∷ map (λ y. live_request y.request) rs) (λ i. record { id = m.0.id i; kind = m.0.kind i }) ∙ ap (λ l. live_request o.request ∷ l) (requests_same rs os m.1)
requests_same [] (o ∷ os) m = absurd m
requests_same (r ∷ rs) [] m = absurd m

-- what the state says to the checks is what the family says
pub facts_by : (s : Settings) (F : Family) (c : ℕ) (before : List Marked) (p : ClientState) → Keeps s c before p → Knows s F c before p → (rest_of : List Entry) → F.client c ≡ entries before ++ rest_of → are_identities_right s F before ≡ true → facts_of (client_of s c before) ≡ client_facts s F c (entries before)
facts_by s F c before p keeps h rest_of same k = ap facts_of (steps_are s (empty_client c) before ∙ sym h.state) ∙ (λ i. record { live = requests_same p.rows (live_operations c (entries before)) keeps.lives.rows i; identity = who i; in_exchange = steps i })
  where
    bound : Bound s F c (entries before) p
    bound = h.bound rest_of same k

    who : p.identity ≡ identity s F c (entries before)
    who = by (last_bind c (entries before)) bound.says
      where
        by : (o : Option Operation) → BindSays s F p o → p.identity ≡ (elim o [ None ↦ [] | Some b ↦ identity_by s F b ])
        by None j = j.0
        by (Some b) j = j.identity

    steps : p.in_exchange ≡ is_between_steps c (entries before)
    steps = by (last_bind c (entries before)) bound.says
      where
        by : (o : Option Operation) → BindSays s F p o → p.in_exchange ≡ passes is_in_progress o
        by None j = j.1
        by (Some b) j = j.exchange
