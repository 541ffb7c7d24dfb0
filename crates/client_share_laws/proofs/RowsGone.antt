-- A client that is gone has no row.
use Rattle.std.proofs.Common.{◌≡◌, ℕ, Bool, true, false, ◌==◌, ◌&&◌, ◌||◌, not, List, [], ◌∷◌, refl, ap, ◌∙◌, sym, subst}
use Rattle.std.specs.Prelude.{Option, Some, None, map, filter, find}
use Rattle.std.specs.List.{list_all}
use Rattle.lload_names.specs.declared.names.OpName.{OpName}
use Rattle.lload_names.specs.declared.names.Answer.{Answer}
use Rattle.lload_names.specs.declared.names.Answer.TheVariants.{Go, Busy, Unavailable}
use Rattle.lload_names.specs.declared.names.EndWhy.TheVariants.{Left}
use Rattle.lload_names.specs.declared.names.CancelAnswer.TheVariants.{S1}
use Rattle.lload_names.specs.declared.names.PartName.TheVariants.{Client}
use Rattle.lload_names.specs.declared.names.Letter.TheVariants.{Choice, Reply, Failed}
use Rattle.lload_names.specs.declared.names.What.{What}
use Rattle.lload_names.specs.declared.names.What.TheVariants as what
use Rattle.ldap_spec.specs.Messages.{Message}
use Rattle.ldap_spec.specs.Kinds.{kind_of}
use Rattle.ldap_spec.specs.Bodies.{protocol_error_notice}
use Rattle.lload_spec.specs.Settings.{Settings}
use Rattle.lload_spec.specs.Operations.{is_final_for}
use Rattle.lload_spec.specs.FirstCheck.{Check, Ends, Unbinds, Abandons, Refuses, Answers, Cancels, GoesOn}
use Rattle.part_spec.specs.Marked.{Marked, Taken}
use Rattle.part_spec.specs.Inputs.{entries_of}
use Rattle.part_spec.specs.ClientState.{ClientState, ClientRow, step_client, client_behind, check_at, is_present, row_named, row_under, forwarded, with_choice, with_connection}
use Rattle.part_spec.specs.ClientTurn.{refused, canceled, whats_by, whats_for}
use Rattle.part_spec.specs.Fit.{ledger_behind as behind}
use Rattle.lload_spec.proofs.Growth.{left, right}
use Rattle.part_laws.specs.Turns.{Event, made}
use Rattle.part_laws.proofs.ListLaws.{not_true}
use Rattle.std.proofs.Math.Bool.{or-false}
use Rattle.client_laws.specs.Turns.{client_event}
use Rattle.client_laws.proofs.Matches.{left_by}
use Rattle.client_laws.proofs.ClientEnds.{out_left}
use Rattle.client_laws.proofs.ClientTurns.{client_turn_of, tail_none}
use Rattle.client_laws.proofs.ClientClauses.{goes, gone_step}
use Rattle.client_share_laws.proofs.Whats.{refused_all, canceled_all, choice_all}
use Rattle.client_share_laws.proofs.ClientCases.{Cases, taken, event_case}
use Rattle.client_share_laws.proofs.RowKinds.{rows_ended}

-- where there is a row the client isn't gone
pub row_open : (p : ClientState) → (p.gone ≡ true → p.rows ≡ []) → (op : OpName) (r : ClientRow) → row_named p op ≡ Some r → p.gone ≡ false
row_open p empty op r e = by p.gone refl
  where
    by : (b : Bool) → p.gone ≡ b → b ≡ false
    by true k = absurd (let bad : None ≡ Some r = ap (find (λ x. p.number == op.client && x.k == op.k)) (sym (empty k)) ∙ e in cc)
    by false k = refl

-- an entry that is no end
abbrev is_stay : What → Bool
is_stay w = not (goes w)

-- and no request either
abbrev is_told : What → Bool
is_told (what.In id rest) = false
is_told (what.Gone why) = false
is_told _ = true

gone_through : (s : Settings) (u at : ℕ) (ws : List What) (mark : Option Taken) (p : ClientState) → list_all is_stay ws ≡ true → (behind (step_client s) p (client_turn_of u at mark ws)).gone ≡ p.gone
gone_through s u at [] mark p k = refl
gone_through s u at (w ∷ ws) mark p k =
    let next : ClientState = step_client s p (record { entry = record { part = Client u; at = at; what = w }; mark = mark }) in
    subst (λ ms. (behind (step_client s) next ms).gone ≡ p.gone) (sym (tail_none (entries_of (Client u) at ws))) (gone_through s u at ws None next (right (is_stay w) _ k) ∙ gone_step s at mark p w ∙ ap (λ b. p.gone || b) (not_true (goes w) (left (is_stay w) _ k)) ∙ or-false p.gone)

module _ (s : Settings) (at : ℕ) (mark : Option Taken) (p : ClientState) (h : p.rows ≡ []) where
  left_none : (id : ℕ) (rest : List ℕ) (o : Option ClientRow) → left_by id (λ r. is_final_for r.request rest) o [] ≡ []
  left_none id rest None = refl
  left_none id rest (Some r) = by (is_final_for r.request rest)
    where
      rows_left : Bool → List ClientRow
      rows_left b = elim b [ false ↦ [] | true ↦ filter (λ x. not (x.k == r.k)) [] ]

      by : (b : Bool) → rows_left b ≡ []
      by true = refl
      by false = refl

  chosen_none : (op : OpName) (a : Answer) → (with_choice op a p).rows ≡ []
  chosen_none op (Go u b) = by (row_named p op)
    where
      state : Option ClientRow → ClientState
      state o = elim o [ None ↦ p | Some r ↦ with_connection u b p r ]

      by : (o : Option ClientRow) → (state o).rows ≡ []
      by None = h
      by (Some r) = ap (map (forwarded r.k u)) h
  chosen_none op Busy = h
  chosen_none op Unavailable = h

  none_step : (w : What) → is_told w ≡ true → (client_behind s at mark p w).rows ≡ []
  none_step (what.In id rest) k = absurd (let bad : false ≡ true = k in cc)
  none_step (what.Gone why) k = refl
  none_step (what.Out id rest) k = out_left s at mark p rest id (row_under p id) ∙ ap (left_by id (λ r. is_final_for r.request rest) (row_under p id)) h ∙ left_none id rest (row_under p id)
  none_step (what.Chosen op a) k = chosen_none op a
  none_step _ k = h

none_through : (s : Settings) (u at : ℕ) (ws : List What) (mark : Option Taken) (p : ClientState) → p.rows ≡ [] → list_all is_told ws ≡ true → (behind (step_client s) p (client_turn_of u at mark ws)).rows ≡ []
none_through s u at [] mark p h k = h
none_through s u at (w ∷ ws) mark p h k =
    let next : ClientState = step_client s p (record { entry = record { part = Client u; at = at; what = w }; mark = mark }) in
    subst (λ ms. (behind (step_client s) next ms).rows ≡ []) (sym (tail_none (entries_of (Client u) at ws))) (none_through s u at ws None next (none_step s at mark p h w (left (is_told w) _ k)) (right (is_told w) _ k))

module _ (s : Settings) (p : ClientState) (h : p.gone ≡ true → p.rows ≡ []) where
  abbrev Gone : List Marked → Type 0
  Gone ms = (behind (step_client s) p ms).gone ≡ true → (behind (step_client s) p ms).rows ≡ []

  told : (at : ℕ) (mark : Option Taken) (ws : List What) → list_all is_told ws ≡ true → list_all is_stay ws ≡ true → Gone (client_turn_of p.number at mark ws)
  told at mark ws k j g = none_through s p.number at ws mark p (h (sym (gone_through s p.number at ws mark p j) ∙ g)) k

  there : is_present p ≡ true → (at : ℕ) (ws : List What) → list_all is_stay ws ≡ true → Gone (client_turn_of p.number at None ws)
  there e at ws j g = absurd (let bad : true ≡ false = sym g ∙ gone_through s p.number at ws None p j ∙ not_true p.gone (right p.arrived _ e) in cc)

  checked_gone : (at : ℕ) (m : Message) (k : Check) → is_present p ≡ true → Gone (client_turn_of p.number at None (what.In m.id m.rest ∷ whats_by m k))
  checked_gone at m (Ends why) e = λ g. rows_ended s p.number at (what.In m.id m.rest ∷ what.Out 0 protocol_error_notice ∷ []) why None p
  checked_gone at m Unbinds e = λ g. rows_ended s p.number at (what.In m.id m.rest ∷ []) Left None p
  checked_gone at m (Abandons id) e = there e at (what.In m.id m.rest ∷ []) refl
  checked_gone at m (Refuses which) e = there e at (what.In m.id m.rest ∷ refused m which) (refused_all is_stay (λ id rest. refl) m which)
  checked_gone at m (Answers which) e = there e at (what.In m.id m.rest ∷ canceled m.id (kind_of m.rest) which) (canceled_all is_stay (λ id rest. refl) m.id (kind_of m.rest) which)
  checked_gone at m (Cancels id kind) e = there e at (what.In m.id m.rest ∷ whats_by m (Cancels id kind)) (canceled_all is_stay (λ i rest. refl) m.id (kind_of m.rest) S1)
  checked_gone at m GoesOn e = there e at (what.In m.id m.rest ∷ []) refl

  gone_cases : Cases s p Gone
  gone_cases =
      record {
        none = h;
        arrives = λ at fresh. told at None (what.Arrived ∷ []) refl refl;
        checked = λ at m e f. checked_gone at m (check_at s p m) e;
        chosen = λ at sender op a here. told at (taken sender (Choice op a)) (what.Chosen op a ∷ whats_for (row_named p op) a) (choice_all is_told (λ id rest. refl) (row_named p op) a) (choice_all is_stay (λ id rest. refl) (row_named p op) a);
        answered = λ at sender op rest is_last who r e here. told at (taken sender (Reply op rest is_last who)) (what.Out r.request.id rest ∷ []) refl refl;
        failed = λ at sender op which r e here. told at (taken sender (Failed op which)) (refused r.request which) (refused_all is_told (λ id rest. refl) r.request which) (refused_all is_stay (λ id rest. refl) r.request which);
        late = λ at mark op e here about. told at mark (what.Late op ∷ []) refl refl;
        breaks = λ at why e f n g. rows_ended s p.number at (what.Out 0 protocol_error_notice ∷ []) why None p;
        severed = λ at why here e g. rows_ended s p.number at [] why None p;
        stalls = λ at here. told at None (what.Stalled ∷ []) refl refl;
        flows = λ at here. told at None (what.Flowing ∷ []) refl refl;
      }

  pub event_gone : (x : Event) → Gone (made (client_event s) p x)
  event_gone x = event_case s p Gone gone_cases x
