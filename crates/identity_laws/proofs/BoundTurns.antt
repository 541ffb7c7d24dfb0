-- Who a client is behind each turn.
use Rattle.std.proofs.Common.{◌≡◌, ℕ, true, false, ◌==◌, not, List, [], ◌∷◌, ◌++◌, length, refl, ap, ◌∙◌, sym, subst, append_assoc}
use Rattle.std.specs.Prelude.{Option, Some, None, is_none}
use Rattle.std.specs.List.{list_all, list_any}
use Rattle.std.proofs.lemmas.List.{append-nil}
use Rattle.ldap_spec.specs.Bodies.{protocol_error_notice}
use Rattle.ldap_spec.specs.Kinds.{is_final, kind_of, same_kind}
use Rattle.ldap_spec.specs.Messages.{Message}
use Rattle.lload_names.specs.declared.names.EndWhy.{EndWhy}
use Rattle.lload_names.specs.declared.names.Entry.{Entry}
use Rattle.lload_names.specs.declared.names.OpKind.{OpKind}
use Rattle.lload_names.specs.declared.names.OpKind.TheVariants.{Bind}
use Rattle.lload_names.specs.declared.names.PartName.{PartName}
use Rattle.lload_names.specs.declared.names.PartName.TheVariants.{Client}
use Rattle.lload_names.specs.declared.names.What.{What}
use Rattle.lload_names.specs.declared.names.What.TheVariants as what
use Rattle.lload_spec.specs.Entries.{operation_message}
use Rattle.lload_spec.specs.Journal.{Family}
use Rattle.lload_spec.specs.Lists.{passes}
use Rattle.lload_spec.specs.Operations.{Operation, operations, is_of, last_bind}
use Rattle.lload_spec.specs.Settings.{Settings}
use Rattle.lload_spec.proofs.Growth.{left, right, both}
use Rattle.part_spec.specs.ClientState.{ClientState, client_behind, step_client}
use Rattle.part_spec.specs.Fit.{ledger_behind as behind}
use Rattle.part_spec.specs.Inputs.{entries_of}
use Rattle.part_spec.specs.Marked.{Marked, Taken, entries}
use Rattle.bind_laws.proofs.Meets.{bind_kind}
use Rattle.client_laws.proofs.Matches.{ClientLives}
use Rattle.client_laws.proofs.ClientLives.{is_free_id}
use Rattle.client_laws.proofs.ClientTurns.{Frees, client_turn_of, tail_none, lives_through}
use Rattle.identity_laws.proofs.Finals.{Timely, is_timely, bind_stays, last_passes_it}
use Rattle.identity_laws.proofs.Bound.{Bound, BindSays, IsUntaken, rows_same, says_later, got_same, plain, chosen_bound, gone_bound, in_says, in_bound}
use Rattle.identity_laws.proofs.BoundOut.{WhoRight, out_bound, notice_says}
use Rattle.identity_laws.proofs.Tame.{is_tame, is_tame_answer}

bind_request : (k : Option OpKind) → passes (same_kind Bind) k ≡ true → k ≡ Some Bind
bind_request None h = absurd (let no : false ≡ true = h in cc)
bind_request (Some k) h = ap Some (bind_kind k h)

pub frees_quiet : (s : Settings) (u at : ℕ) (ws : List What) (mark : Option Taken) (p : ClientState) → list_all (λ w. is_none (operation_message w)) ws ≡ true → Frees s u at p mark ws
frees_quiet s u at [] mark p h = tt
frees_quiet s u at (w ∷ ws) mark p h = (free (operation_message w) (left (is_none (operation_message w)) _ h), frees_quiet s u at ws None (step_client s p (record { entry = record { part = Client u; at = at; what = w }; mark = mark })) (right (is_none (operation_message w)) _ h))
  where
    free : (o : Option Message) → is_none o ≡ true → (elim o [ None ↦ true | Some m ↦ not (list_any (λ r. r.request.id == m.id) p.rows) ]) ≡ true
    free None k = refl
    free (Some m) k = absurd (let bad : false ≡ true = k in cc)

-- an answer of the proxy's own tells no identity
tame_right : (s : Settings) (F : Family) (c : ℕ) (place : List Entry) (p : ClientState) (part : PartName) (at id : ℕ) (rest : List ℕ) (mark : Option Taken) → is_tame_answer rest ≡ true → WhoRight s F c place p part at id rest mark
tame_right s F c place p part at id rest mark h b z r e k n f g =
    let kind : kind_of b.request.rest ≡ Some Bind = bind_request (kind_of b.request.rest) (last_passes_it (is_of Bind) (operations c place) b z) in
    absurd (let bad : false ≡ true = sym (ap not (both (is_final Bind rest) _ (sym (ap (passes (λ x. is_final x rest)) kind) ∙ f) g)) ∙ h in cc)

module _ (s : Settings) (F : Family) (c u at : ℕ) where
  abbrev marked : Option Taken → What → Marked
  marked mark w = record { entry = record { part = Client u; at = at; what = w }; mark = mark }

  abbrev entry : What → Entry
  entry w = record { part = Client u; at = at; what = w }

  -- what is known of the letter of an Out
  abbrev pub OutRight : List Entry → ClientState → Option Taken → What → Type 0
  OutRight place p mark w = (id : ℕ) (rest : List ℕ) → w ≡ what.Out id rest → WhoRight s F c place p (Client u) at id rest mark

  -- an entry
  one_bound : (place : List Entry) (p : ClientState) (mark : Option Taken) (w : What) → ClientLives c place p → Bound s F c place p → is_free_id p w ≡ true → list_all (is_timely (record { part = Client u; at = at; what = w })) (operations c place) ≡ true → OutRight place p mark w → Bound s F c (place ++ record { part = Client u; at = at; what = w } ∷ []) (step_client s p (record { entry = record { part = Client u; at = at; what = w }; mark = mark }))
  one_bound place p mark (what.In id rest) lives h free timely who = in_bound s F c place p h lives.count (Client u) at mark (record { id = id; rest = rest }) free
  one_bound place p mark (what.Out id rest) lives h free timely who = out_bound s F c place p (Client u) at id rest mark timely lives h (who id rest refl)
  one_bound place p mark (what.Chosen op a) lives h free timely who = chosen_bound s F c place p h lives.count (Client u) at mark op a
  one_bound place p mark (what.Gone why) lives h free timely who = gone_bound s F c place p h lives.count (Client u) at mark why
  one_bound place p mark what.Arrived lives h free timely who = plain s F c place p h lives.count (Client u) at mark what.Arrived refl refl refl refl (rows_same p (client_behind s at mark p what.Arrived) refl)
  one_bound place p mark w lives h free timely who = plain s F c place p h lives.count (Client u) at mark w refl refl refl refl (rows_same p (client_behind s at mark p w) refl)

  one_lives : (place : List Entry) (p : ClientState) (mark : Option Taken) (w : What) → ClientLives c place p → is_free_id p w ≡ true → ClientLives c (place ++ record { part = Client u; at = at; what = w } ∷ []) (step_client s p (record { entry = record { part = Client u; at = at; what = w }; mark = mark }))
  one_lives place p mark w h f = lives_through s c u at (w ∷ []) mark place p h (f, tt)

  -- The entries of a turn, the first and then the others.
  joined : (place : List Entry) (p : ClientState) (mark : Option Taken) (w : What) (ws : List What) → Bound s F c ((place ++ record { part = Client u; at = at; what = w } ∷ []) ++ entries (client_turn_of u at None ws)) (behind (step_client s) (step_client s p (record { entry = record { part = Client u; at = at; what = w }; mark = mark })) (client_turn_of u at None ws)) → Bound s F c (place ++ entries (client_turn_of u at mark (w ∷ ws))) (behind (step_client s) p (client_turn_of u at mark (w ∷ ws)))
  joined place p mark w ws h =
      let e : Entry = record { part = Client u; at = at; what = w } in
      let next : ClientState = step_client s p (record { entry = e; mark = mark }) in
      subst (λ ms. Bound s F c (place ++ e ∷ entries ms) (behind (step_client s) next ms)) (sym (tail_none (entries_of (Client u) at ws))) (subst (λ l. Bound s F c l (behind (step_client s) next (client_turn_of u at None ws))) (append_assoc place (e ∷ []) (entries (client_turn_of u at None ws))) h)

  timely_rest : (place : List Entry) (mark : Option Taken) (w : What) (ws : List What) → Timely c place (entries (client_turn_of u at mark (w ∷ ws))) → Timely c (place ++ record { part = Client u; at = at; what = w } ∷ []) (entries (client_turn_of u at None ws))
  timely_rest place mark w ws h = subst (λ ms. Timely c (place ++ record { part = Client u; at = at; what = w } ∷ []) (entries ms)) (tail_none (entries_of (Client u) at ws)) h.1

  tame_through : (ws : List What) (place : List Entry) (p : ClientState) → ClientLives c place p → Bound s F c place p → Frees s u at p None ws → Timely c place (entries (client_turn_of u at None ws)) → list_all is_tame ws ≡ true → Bound s F c (place ++ entries (client_turn_of u at None ws)) (behind (step_client s) p (client_turn_of u at None ws))
  tame_through [] place p lives h f t k = subst (λ l. Bound s F c l p) (sym (append-nil place)) h
  tame_through (w ∷ ws) place p lives h f t k =
      let e : Entry = record { part = Client u; at = at; what = w } in
      joined place p None w ws (tame_through ws (place ++ e ∷ []) (step_client s p (record { entry = e; mark = None })) (one_lives place p None w lives f.0) (one_bound place p None w lives h f.0 t.0 (λ id rest z. tame_right s F c place p (Client u) at id rest None (sym (ap is_tame z) ∙ left (is_tame w) _ k))) f.1 (timely_rest place None w ws t) (right (is_tame w) _ k))

  -- a turn whose later entries tell no Bind a success
  pub turn_bound : (w : What) (ws : List What) (mark : Option Taken) (place : List Entry) (p : ClientState) → ClientLives c place p → Bound s F c place p → Frees s u at p mark (w ∷ ws) → Timely c place (entries (client_turn_of u at mark (w ∷ ws))) → OutRight place p mark w → list_all is_tame ws ≡ true → Bound s F c (place ++ entries (client_turn_of u at mark (w ∷ ws))) (behind (step_client s) p (client_turn_of u at mark (w ∷ ws)))
  turn_bound w ws mark place p lives h f t who k =
      let e : Entry = record { part = Client u; at = at; what = w } in
      joined place p mark w ws (tame_through ws (place ++ e ∷ []) (step_client s p (record { entry = e; mark = mark })) (one_lives place p mark w lives f.0) (one_bound place p mark w lives h f.0 t.0 who) f.1 (timely_rest place mark w ws t) k)

  -- and so a turn of which no entry does
  pub tame_turn : (ws : List What) (mark : Option Taken) (place : List Entry) (p : ClientState) → ClientLives c place p → Bound s F c place p → Frees s u at p mark ws → Timely c place (entries (client_turn_of u at mark ws)) → list_all is_tame ws ≡ true → Bound s F c (place ++ entries (client_turn_of u at mark ws)) (behind (step_client s) p (client_turn_of u at mark ws))
  tame_turn [] mark place p lives h f t k = subst (λ l. Bound s F c l p) (sym (append-nil place)) h
  tame_turn (w ∷ ws) mark place p lives h f t k = turn_bound w ws mark place p lives h f t (λ id rest z. tame_right s F c place p (Client u) at id rest mark (sym (ap is_tame z) ∙ left (is_tame w) _ k)) (right (is_tame w) _ k)

  -- The end of a client.
  gone_says : (place : List Entry) (p : ClientState) (mark : Option Taken) (why : EndWhy) → BindSays s F p (last_bind c place) → Bound s F c (place ++ record { part = Client u; at = at; what = what.Gone why } ∷ []) (step_client s p (record { entry = record { part = Client u; at = at; what = what.Gone why }; mark = mark }))
  gone_says place p mark why h =
      let e : Entry = record { part = Client u; at = at; what = what.Gone why } in
      let next : ClientState = step_client s p (record { entry = record { part = Client u; at = at; what = what.Gone why }; mark = mark }) in
      record {
        says = subst (BindSays s F next) (sym (bind_stays c place e refl)) (says_later s F e p next (last_bind c place) refl refl (record { each = λ b k. tt; any = λ k. absurd (let bad : false ≡ true = k in cc) }) (λ b z. got_same e b refl) h);
        untaken = by (last_bind c (place ++ e ∷ []));
      }
    where
      by : (o : Option Operation) → IsUntaken (step_client s p (record { entry = record { part = Client u; at = at; what = what.Gone why }; mark = mark })) o
      by None = tt
      by (Some b) = λ k. absurd (let bad : false ≡ true = k in cc)

  -- the notice, and the end
  noticed_says : (place : List Entry) (p : ClientState) (why : EndWhy) (rest : List ℕ) → BindSays s F p (last_bind c place) → Timely c place (entry (what.Out 0 rest) ∷ entry (what.Gone why) ∷ []) → Bound s F c ((place ++ entry (what.Out 0 rest) ∷ []) ++ entry (what.Gone why) ∷ []) (step_client s (step_client s p (marked None (what.Out 0 rest))) (marked None (what.Gone why)))
  noticed_says place p why rest h t = gone_says (place ++ entry (what.Out 0 rest) ∷ []) (step_client s p (marked None (what.Out 0 rest))) None why (notice_says s F c place p (Client u) at 0 rest None t.0 refl h)

  pub gone_turn : (why : EndWhy) (place : List Entry) (p : ClientState) → Bound s F c place p → Bound s F c (place ++ entries (client_turn_of u at None (what.Gone why ∷ []))) (behind (step_client s) p (client_turn_of u at None (what.Gone why ∷ [])))
  gone_turn why place p h = gone_says place p None why h.says

  pub notice_turn : (why : EndWhy) (place : List Entry) (p : ClientState) → Bound s F c place p → Timely c place (entries (client_turn_of u at None (what.Out 0 protocol_error_notice ∷ what.Gone why ∷ []))) → Bound s F c (place ++ entries (client_turn_of u at None (what.Out 0 protocol_error_notice ∷ what.Gone why ∷ []))) (behind (step_client s) p (client_turn_of u at None (what.Out 0 protocol_error_notice ∷ what.Gone why ∷ [])))
  notice_turn why place p h t = subst (λ l. Bound s F c l (step_client s (step_client s p (marked None (what.Out 0 protocol_error_notice))) (marked None (what.Gone why)))) (append_assoc place (entry (what.Out 0 protocol_error_notice) ∷ []) (entry (what.Gone why) ∷ [])) (noticed_says place p why protocol_error_notice h.says t)

  -- a message that ends its client
  pub left_turn : (m : Message) (why : EndWhy) (place : List Entry) (p : ClientState) → p.count ≡ length (operations c place) → Bound s F c place p → Bound s F c (place ++ entries (client_turn_of u at None (what.In m.id m.rest ∷ what.Gone why ∷ []))) (behind (step_client s) p (client_turn_of u at None (what.In m.id m.rest ∷ what.Gone why ∷ [])))
  left_turn m why place p count h =
      let next : ClientState = step_client s p (marked None (what.In m.id m.rest)) in
      subst (λ l. Bound s F c l (step_client s next (marked None (what.Gone why)))) (append_assoc place (entry (what.In m.id m.rest) ∷ []) (entry (what.Gone why) ∷ [])) (gone_says (place ++ entry (what.In m.id m.rest) ∷ []) next None why (in_says s F c place p h count (Client u) at None m))

  pub ended_turn : (m : Message) (why : EndWhy) (place : List Entry) (p : ClientState) → p.count ≡ length (operations c place) → Bound s F c place p → Timely c place (entries (client_turn_of u at None (what.In m.id m.rest ∷ what.Out 0 protocol_error_notice ∷ what.Gone why ∷ []))) → Bound s F c (place ++ entries (client_turn_of u at None (what.In m.id m.rest ∷ what.Out 0 protocol_error_notice ∷ what.Gone why ∷ []))) (behind (step_client s) p (client_turn_of u at None (what.In m.id m.rest ∷ what.Out 0 protocol_error_notice ∷ what.Gone why ∷ [])))
  ended_turn m why place p count h t =
      let next : ClientState = step_client s p (marked None (what.In m.id m.rest)) in
      let last : ClientState = step_client s (step_client s next (marked None (what.Out 0 protocol_error_notice))) (marked None (what.Gone why)) in
      subst (λ l. Bound s F c l last) (append_assoc (place ++ entry (what.In m.id m.rest) ∷ []) (entry (what.Out 0 protocol_error_notice) ∷ []) (entry (what.Gone why) ∷ []) ∙ append_assoc place (entry (what.In m.id m.rest) ∷ []) (entry (what.Out 0 protocol_error_notice) ∷ entry (what.Gone why) ∷ [])) (noticed_says (place ++ entry (what.In m.id m.rest) ∷ []) next why protocol_error_notice (in_says s F c place p h count (Client u) at None m) t.1)
