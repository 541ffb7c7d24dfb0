-- What stands behind the first entry of a client's turn: each Out may stand where it does.
use Rattle.std.proofs.Common.{◌≡◌, ◌⊎◌, inl, inr, ℕ, suc, Bool, true, false, ◌==◌, ◌&&◌, ◌||◌, not, List, [], ◌∷◌, ◌++◌, length, refl, ap, ◌∙◌, sym, subst}
use Rattle.std.specs.Prelude.{Option, Some, None, find, is_none, option_map}
use Rattle.std.specs.List.{list_all, list_any}
use Rattle.ldap_spec.specs.Bodies.{cancel_answer, refusal}
use Rattle.ldap_spec.specs.Kinds.{kind_of, same_kind}
use Rattle.ldap_spec.specs.Messages.{Message}
use Rattle.ldap_spec.specs.Requests.{cancel_id, is_cancel}
use Rattle.lload_names.specs.declared.names.CancelAnswer.TheVariants.{C13, S1}
use Rattle.lload_names.specs.declared.names.Entry.{Entry}
use Rattle.lload_names.specs.declared.names.OpKind.{OpKind}
use Rattle.lload_names.specs.declared.names.OpKind.TheVariants.{Bind}
use Rattle.lload_names.specs.declared.names.PartName.TheVariants.{Client}
use Rattle.lload_names.specs.declared.names.Refusal.{Refusal}
use Rattle.lload_names.specs.declared.names.What.{What}
use Rattle.lload_names.specs.declared.names.What.TheVariants as what
use Rattle.lload_spec.specs.Entries.{makes_operation, operation_message, out_message}
use Rattle.lload_spec.specs.FirstCheck.{Abandons, Answers, Cancels, Check, Ends, GoesOn, Refuses, Unbinds, asks_desk, client_facts, lets_go_on, live_request, may_be_canceled}
use Rattle.lload_spec.specs.Journal.{Family}
use Rattle.lload_spec.specs.Lists.{each_split_from, implies, last_passes, passes}
use Rattle.lload_spec.specs.Operations.{Operation, is_cancel_of, is_request_of, live_operations, operation_made, operations}
use Rattle.lload_spec.specs.Settings.{Settings}
use Rattle.lload_spec.specs.Strict.{is_choice_for, is_out_chosen, is_to_ask, may_be_told}
use Rattle.lload_spec.proofs.Growth.{left, right, both}
use Rattle.lload_laws.specs.ClientGrowth.{later_operation, new_operation}
use Rattle.lload_laws.proofs.ListLaws.{all_imply, find-map, implied, implies_by}
use Rattle.part_laws.proofs.ListLaws.{eqb_sym, last_push, not_true, or_left, or_right, same_number}
use Rattle.part_spec.specs.ClientState.{ClientRow, ClientState, check_at, facts_of, is_bind_row}
use Rattle.part_spec.specs.ClientTurn.{canceled, refused, whats_by}
use Rattle.part_spec.specs.Inputs.{entries_of}
use Rattle.client_laws.proofs.ClientCancels.{Named, cancel_named}
use Rattle.client_laws.proofs.ClientEnds.{checked_id, kind_makes}
use Rattle.client_laws.proofs.ClientTurns.{free_by, is_end}
use Rattle.client_laws.proofs.Matches.{ClientLives}
use Rattle.client_answer_laws.proofs.Owns.{is_of_cancel, of_cancel}
use Rattle.told_laws.proofs.Cancels.{canceled_id}
use Rattle.told_laws.proofs.Expecting.{ask_same}
use Rattle.told_laws.proofs.Lives.{grown_all, matched_all, none_under, one_no_bind, zero_told}

module _ (s : Settings) (F : Family) (c : ℕ) where
  -- whether an Out under an identifier may stand at a place
  abbrev pub may_go : List Entry → ℕ → Bool
  may_go place id = list_all (λ o. implies (o.request.id == id) (may_be_told s F place o)) (live_operations c place)

  -- whether each Out of these entries may stand where it does
  abbrev pub Outs : List Entry → List Entry → Type 0
  Outs place es = each_split_from (λ b e r. is_out_chosen s F c b e) place es ≡ true

  abbrev pub is_silent : What → Bool
  is_silent w = is_none (out_message w)

  pub silent : (u at : ℕ) (ws : List What) (place : List Entry) → list_all is_silent ws ≡ true → Outs place (entries_of (Client u) at ws)
  silent u at [] place h = refl
  silent u at (w ∷ ws) place h = both (is_out_chosen s F c place (record { part = Client u; at = at; what = w })) _ (by (out_message w) (left (is_silent w) _ h)) (silent u at ws (place ++ record { part = Client u; at = at; what = w } ∷ []) (right (is_silent w) _ h))
    where
      by : (o : Option Message) → is_none o ≡ true → (elim o [ None ↦ true | Some m ↦ list_all (λ q. implies (q.request.id == m.id) (may_be_told s F place q)) (live_operations c place) ]) ≡ true
      by None k = refl
      by (Some m) k = absurd (let bad : false ≡ true = k in cc)

  -- the notice
  pub zero_goes : (place : List Entry) → may_go place 0 ≡ true
  zero_goes place = zero_told (may_be_told s F place) c place

  -- a refusal
  pub refused_goes : (u at : ℕ) (place : List Entry) (m : Message) (which : Refusal) → ((kind : OpKind) → kind_of m.rest ≡ Some kind → may_go place m.id ≡ true) → Outs place (entries_of (Client u) at (refused m which))
  refused_goes u at place m which h = by (kind_of m.rest) refl
    where
      by : (o : Option OpKind) → kind_of m.rest ≡ o → Outs place (entries_of (Client u) at (elim o [ None ↦ [] | Some kind ↦ what.Out m.id (refusal kind which) ∷ [] ]))
      by None e = refl
      by (Some kind) e = both (may_go place m.id) true (h kind e) refl

  -- A message.
  module _ (u at : ℕ) (place : List Entry) (p : ClientState) (lives : ClientLives c place p) (number : p.number ≡ c) (m : Message) (facts : facts_of p ≡ client_facts s F c place) where
    abbrev came : Entry
    came = record { part = Client u; at = at; what = what.In m.id m.rest }

    abbrev is_unasked : Operation → Bool
    is_unasked o = implies (o.request.id == m.id) (not (is_to_ask s F o))

    abbrev put : Bool → Option Message
    put b = elim b [ true ↦ Some (record { id = m.id; rest = m.rest }) | false ↦ None ]

    -- a live operation under the message's identifier is its own, for which the desk isn't asked
    module _ (made : makes_operation m ≡ true) (ends : is_end (check_at s p m) ≡ false) where
      message : operation_message (what.In m.id m.rest) ≡ Some m
      message = ap put made

      olds : list_all (λ o. not (o.request.id == m.id)) (live_operations c place) ≡ true
      olds = none_under s F c place p lives number m.id (sym (ap (λ o. elim o [ None ↦ true | Some x ↦ not (list_any (λ r. r.request.id == x.id) p.rows) ]) message) ∙ free_by s p m ends)

      pub alone : lets_go_on (check_at s p m) ≡ false → list_all is_unasked (live_operations c (place ++ came ∷ [])) ≡ true
      alone goes =
          grown_all (λ o. not (o.request.id == m.id)) is_unasked c place came (λ o k. ap (λ b. implies b (not (is_to_ask s F (later_operation came o)))) (not_true (o.request.id == m.id) k)) olds
          (ap (λ x. list_all is_unasked (operation_made c (suc (length (operations c place))) place came [] x)) message
          ∙ both (is_unasked (new_operation c place came m)) true (implies_by (m.id == m.id) _ (λ j. ap not (ap (λ f. asks_desk s f m) (sym facts) ∙ ap (λ b. b && not (is_request_of Bind m && p.in_exchange && b)) goes))) refl)

    unasked_goes : (L : List Entry) → list_all is_unasked (live_operations c L) ≡ true → may_go L m.id ≡ true
    unasked_goes L h = all_imply is_unasked (λ o. implies (o.request.id == m.id) (may_be_told s F L o)) (live_operations c L) (λ o k. implies_by (o.request.id == m.id) _ (λ j. or_right (list_any (is_choice_for o.name) L || last_passes (is_cancel_of o.request) L) _ (implied (o.request.id == m.id) _ k j))) h

    own_goes : (kind : OpKind) → kind_of m.rest ≡ Some kind → is_end (check_at s p m) ≡ false → lets_go_on (check_at s p m) ≡ false → may_go (place ++ came ∷ []) m.id ≡ true
    own_goes kind k ends goes = unasked_goes (place ++ came ∷ []) (alone (kind_makes m kind k (checked_id s p m ends)) ends goes)

    -- a Cancel of a live operation
    module _ (id : ℕ) (kind : OpKind) (e : check_at s p m ≡ Cancels id kind) where
      it : Named (facts_of p) m id kind × ((m.id == 0) ≡ false)
      it = cancel_named s (facts_of p) m id kind e

      abbrev is_free : Operation → Bool
      is_free o = implies (o.request.id == id) (not (is_request_of Bind o.request))

      other : (m.id == id) ≡ false
      other = eqb_sym m.id id ∙ it.0.other

      -- the one that it names is no Bind
      no_bind : list_all is_free (live_operations c place) ≡ true
      no_bind = by (find (λ r. may_be_canceled id (live_request r.request)) p.rows) refl (sym (find-map (may_be_canceled id) (λ r. live_request r.request) p.rows) ∙ it.0.one.found)
        where
          by : (o : Option ClientRow) → find (λ r. may_be_canceled id (live_request r.request)) p.rows ≡ o → option_map (λ r. live_request r.request) o ≡ Some it.0.one.request → list_all is_free (live_operations c place) ≡ true
          by None f g = absurd (let bad : None ≡ Some it.0.one.request = g in cc)
          by (Some r) f g = matched_all (λ x. implies (x.request.id == id) (not (is_bind_row x))) is_free p.rows (live_operations c place) (λ x o q k. subst (λ n. implies (n == id) (not (passes (same_kind Bind) (kind_of o.request.rest))) ≡ true) q.id (subst (λ n. implies (x.request.id == id) (not (passes (same_kind Bind) n)) ≡ true) q.kind k)) lives.rows (one_no_bind s F c place p lives number id p.rows r lives.apart f)

      free_behind : list_all is_free (live_operations c (place ++ came ∷ [])) ≡ true
      free_behind = grown_all is_free is_free c place came (λ o k. k) no_bind (by (operation_message (what.In m.id m.rest)) (made_is (makes_operation m)))
        where
          made_is : (b : Bool) → (put b ≡ None) ⊎ (put b ≡ Some m)
          made_is true = inr refl
          made_is false = inl refl

          by : (x : Option Message) → (x ≡ None) ⊎ (x ≡ Some m) → list_all is_free (operation_made c (suc (length (operations c place))) place came [] x) ≡ true
          by x (inl z) = ap (λ y. list_all is_free (operation_made c (suc (length (operations c place))) place came [] y)) z
          by x (inr z) = ap (λ y. list_all is_free (operation_made c (suc (length (operations c place))) place came [] y)) z ∙ both (is_free (new_operation c place came m)) true (ap (λ b. implies b (not (is_request_of Bind m))) other) refl

      canceled_by : (o : Operation) → (o.request.id == id) ≡ true → not (is_request_of Bind o.request) ≡ true → is_cancel_of o.request came ≡ true
      canceled_by o j k =
          let same : o.request.id ≡ id = same_number o.request.id id j in
          both (is_cancel m.rest && passes (λ i. i == o.request.id) (cancel_id m.rest) && not (m.id == o.request.id)) _
          (both (is_cancel m.rest && passes (λ i. i == o.request.id) (cancel_id m.rest)) _
          (both (is_cancel m.rest) _ (of_cancel s (facts_of p) m (ap is_of_cancel e)) (subst (λ n. passes (λ i. i == n) (cancel_id m.rest) ≡ true) (sym same) (canceled_id s (facts_of p) m id kind e)))
          (ap (λ n. not (m.id == n)) same ∙ ap not other)) k

      cancel_goes : may_go (place ++ came ∷ []) id ≡ true
      cancel_goes = all_imply is_free (λ o. implies (o.request.id == id) (may_be_told s F (place ++ came ∷ []) o)) (live_operations c (place ++ came ∷ [])) (λ o k. implies_by (o.request.id == id) _ (λ j. or_left (list_any (is_choice_for o.name) (place ++ came ∷ []) || last_passes (is_cancel_of o.request) (place ++ came ∷ [])) _ (or_right (list_any (is_choice_for o.name) (place ++ came ∷ [])) _ (ap (passes (is_cancel_of o.request)) (last_push place came) ∙ canceled_by o j (implied (o.request.id == id) _ k j))))) free_behind

      abbrev told : Entry
      told = record { part = Client u; at = at; what = what.Out id (cancel_answer kind C13) }

      success_goes : (sort : OpKind) → kind_of m.rest ≡ Some sort → may_go ((place ++ came ∷ []) ++ told ∷ []) m.id ≡ true
      success_goes sort k = unasked_goes ((place ++ came ∷ []) ++ told ∷ []) (grown_all is_unasked is_unasked c (place ++ came ∷ []) told (λ o q. subst (λ b. implies (o.request.id == m.id) (not b) ≡ true) (sym (ask_same s F o (later_operation told o) refl refl refl)) q) (alone (kind_makes m sort k it.1) (ap is_end e) (ap lets_go_on e)) refl)

    -- what the first check wants behind a message
    pub checked_goes : (k : Check) → check_at s p m ≡ k → Outs (place ++ came ∷ []) (entries_of (Client u) at (whats_by m k))
    checked_goes (Ends why) e = both (may_go (place ++ came ∷ []) 0) true (zero_goes (place ++ came ∷ [])) refl
    checked_goes Unbinds e = refl
    checked_goes (Abandons id) e = refl
    checked_goes (Refuses which) e = refused_goes u at (place ++ came ∷ []) m which (λ kind k. own_goes kind k (ap is_end e) (ap lets_go_on e))
    checked_goes (Answers which) e = by (kind_of m.rest) refl
      where
        by : (o : Option OpKind) → kind_of m.rest ≡ o → Outs (place ++ came ∷ []) (entries_of (Client u) at (canceled m.id o which))
        by None z = refl
        by (Some kind) z = both (may_go (place ++ came ∷ []) m.id) true (own_goes kind z (ap is_end e) (ap lets_go_on e)) refl
    checked_goes (Cancels id kind) e = both (may_go (place ++ came ∷ []) id) _ (cancel_goes id kind e) (by (kind_of m.rest) refl)
      where
        by : (o : Option OpKind) → kind_of m.rest ≡ o → Outs ((place ++ came ∷ []) ++ told id kind e ∷ []) (entries_of (Client u) at (canceled m.id o S1))
        by None z = refl
        by (Some sort) z = both (may_go ((place ++ came ∷ []) ++ told id kind e ∷ []) m.id) true (success_goes id kind e sort z) refl
    checked_goes GoesOn e = refl
