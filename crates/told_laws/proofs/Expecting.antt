-- What a client expects letters for: operations that were chosen a connection, or for which the desk isn't asked.
use Rattle.std.proofs.Common.{◌≡◌, ℕ, suc, Bool, true, false, ◌&&◌, ◌||◌, not, List, [], ◌∷◌, ◌++◌, refl, ap, ◌∙◌, sym, subst, append_assoc}
use Rattle.std.specs.Prelude.{Option, Some, None, is_none, if◌then◌else◌}
use Rattle.std.specs.List.{list_any, list_all}
use Rattle.std.proofs.lemmas.List.{append-nil}
use Rattle.ldap_spec.specs.Messages.{Message}
use Rattle.lload_names.specs.declared.names.Entry.{Entry}
use Rattle.lload_names.specs.declared.names.OpName.{OpName}
use Rattle.lload_names.specs.declared.names.PartName.TheVariants.{Client}
use Rattle.lload_names.specs.declared.names.What.{What}
use Rattle.lload_names.specs.declared.names.What.TheVariants as what
use Rattle.lload_spec.specs.Entries.{in_message}
use Rattle.lload_spec.specs.FirstCheck.{asks_desk, client_facts, lets_go_on}
use Rattle.lload_spec.specs.Journal.{Family}
use Rattle.lload_spec.specs.Lists.{passes}
use Rattle.lload_spec.specs.Operations.{Operation, operation_in}
use Rattle.lload_spec.specs.Settings.{Settings}
use Rattle.lload_spec.specs.Strict.{is_choice_for, is_to_ask}
use Rattle.lload_spec.proofs.Growth.{left, right}
use Rattle.part_laws.proofs.ListLaws.{any_before, any_behind, or_elim, or_left, or_right, same_op_refl}
use Rattle.part_spec.specs.ClientState.{ClientRow, check_at, facts_of, held_connection, is_pinned, new_row, next_name, row_named}
use Rattle.part_spec.specs.Fit.{ClientLedger, Expected, expected_behind, going_to, is_last_by, step_client_ledger, with_forward, ledger_behind as behind}
use Rattle.part_spec.specs.Inputs.{entries_of}
use Rattle.part_spec.specs.Marked.{Taken, entries}
use Rattle.client_laws.proofs.ClientTurns.{client_turn_of, tail_none}
use Rattle.client_answer_laws.proofs.Asks.{going_makes}
use Rattle.client_answer_laws.proofs.Each.{Each, each_append, each_filter, each_imply}
use Rattle.client_answer_laws.proofs.Expects.{ExpectKnown, expected_known}
use Rattle.client_answer_laws.proofs.Known.{IsAsked, Known, is_unchosen, known_more, none_asked}
use Rattle.forward_laws.proofs.Ops.{new_found}
use Rattle.sent_laws.proofs.Walk.{passes_later}

-- an entry that is no choice and no message
abbrev pub is_plain : What → Bool
is_plain w = is_unchosen w && is_none (in_message w)

module _ (s : Settings) (F : Family) where
  -- whether the desk is asked for an operation goes by its name, its request and what stands before it
  pub ask_same : (o p : Operation) → p.name ≡ o.name → p.request ≡ o.request → p.before ≡ o.before → is_to_ask s F p ≡ is_to_ask s F o
  ask_same o p n r b = λ i. asks_desk s (client_facts s F (n i).client (b i)) (r i)

  module _ (c : ℕ) where
    -- whether an operation was chosen a connection, or the desk isn't asked for it
    abbrev pub may_expect : List Entry → OpName → Bool
    may_expect place op = list_any (is_choice_for op) place || passes (λ o. not (is_to_ask s F o)) (operation_in c place op)

    abbrev pub Expects : List Entry → Expected → Type 0
    Expects place x = may_expect place x.op ≡ true

    pub expects_later : (L M : List Entry) (op : OpName) → may_expect L op ≡ true → may_expect (L ++ M) op ≡ true
    expects_later L M op h =
        or_elim (list_any (is_choice_for op) L) (passes (λ o. not (is_to_ask s F o)) (operation_in c L op))
        (λ k. or_left (list_any (is_choice_for op) (L ++ M)) _ (any_before (is_choice_for op) L M k))
        (λ k. or_right (list_any (is_choice_for op) (L ++ M)) _ (passes_later (λ o. not (is_to_ask s F o)) (λ o p n r b. ap not (ask_same o p n r b)) c L M op k)) h

    -- what is known behind these entries
    pub record Told (place : List Entry) (l : ClientLedger) : Type 0 where
      pub known : Known s c place l.state
      pub expected : Each (ExpectKnown s c place) l.expected
      pub expects : Each (Expects place) l.expected

    -- Behind an entry.
    module _ (u at : ℕ) (place : List Entry) (l : ClientLedger) (h : Told place l) where
      abbrev entry : What → Entry
      entry w = record { part = Client u; at = at; what = w }

      olders : (w : What) → Each (Expects (place ++ entry w ∷ [])) l.expected
      olders w = each_imply (Expects place) (Expects (place ++ entry w ∷ [])) l.expected (λ x k. expects_later place (entry w ∷ []) x.op k) h.expects

      forwards : (w : What) (op : OpName) (m : Message) (to : Option ℕ) → may_expect (place ++ entry w ∷ []) op ≡ true → Each (Expects (place ++ entry w ∷ [])) (with_forward op m to l.expected)
      forwards w op m None k = olders w
      forwards w op m (Some v) k = each_append (Expects (place ++ entry w ∷ [])) l.expected (record { op = op; request = m; connection = v } ∷ []) (olders w) (k, tt)

      -- a Bind that goes on in its exchange
      goes_on : (m : Message) → facts_of l.state ≡ client_facts s F c place → lets_go_on (check_at s l.state m) ≡ true → is_pinned s l.state m ≡ true → may_expect (place ++ entry (what.In m.id m.rest) ∷ []) (next_name l.state) ≡ true
      goes_on m facts goes pinned =
          or_right (list_any (is_choice_for (next_name l.state)) (place ++ entry (what.In m.id m.rest) ∷ [])) _
          (ap (λ n. passes (λ o. not (is_to_ask s F o)) (operation_in c (place ++ entry (what.In m.id m.rest) ∷ []) n)) (λ i. record { client = h.known.says.number i; k = suc (h.known.count i) })
          ∙ ap (passes (λ o. not (is_to_ask s F o))) (new_found c place (entry (what.In m.id m.rest)) m (ap put (going_makes s l.state m goes)))
          ∙ ap (λ f. not (asks_desk s f m)) (sym facts) ∙ ap (λ b. not (lets_go_on (check_at s l.state m) && not b)) pinned ∙ none (lets_go_on (check_at s l.state m)))
        where
          put : Bool → Option Message
          put b = elim b [ true ↦ Some (record { id = m.id; rest = m.rest }) | false ↦ None ]

          none : (b : Bool) → not (b && false) ≡ true
          none true = refl
          none false = refl

      expects_behind : (w : What) → ((m : Message) → w ≡ what.In m.id m.rest → facts_of l.state ≡ client_facts s F c place) → Each (Expects (place ++ entry w ∷ [])) (expected_behind s l.state l.expected w)
      expects_behind (what.In id rest) f = by (lets_go_on (check_at s l.state m)) (is_pinned s l.state m) refl refl
        where
          m : Message
          m = record { id = id; rest = rest }

          by : (a b : Bool) → lets_go_on (check_at s l.state (record { id = id; rest = rest })) ≡ a → is_pinned s l.state (record { id = id; rest = rest }) ≡ b → Each (Expects (place ++ entry (what.In id rest) ∷ [])) (if a && b then with_forward (next_name l.state) (new_row s l.state (record { id = id; rest = rest })).request (held_connection l.state) l.expected else l.expected)
          by true true e k = forwards (what.In id rest) (next_name l.state) (new_row s l.state (record { id = id; rest = rest })).request (held_connection l.state) (goes_on (record { id = id; rest = rest }) (f (record { id = id; rest = rest }) refl) e k)
          by true false e k = olders (what.In id rest)
          by false b e k = olders (what.In id rest)
      expects_behind (what.Chosen op a) f = by (row_named l.state op)
        where
          by : (o : Option ClientRow) → Each (Expects (place ++ entry (what.Chosen op a) ∷ [])) (elim o [ None ↦ l.expected | Some r ↦ with_forward op r.request (going_to a) l.expected ])
          by None = olders (what.Chosen op a)
          by (Some r) = forwards (what.Chosen op a) op r.request (going_to a) (or_left (list_any (is_choice_for op) (place ++ entry (what.Chosen op a) ∷ [])) _ (any_behind (is_choice_for op) place (entry (what.Chosen op a) ∷ []) (or_left (is_choice_for op (entry (what.Chosen op a))) false (same_op_refl op))))
      expects_behind w f = olders w

      pub told_more : (mark : Option Taken) (w : What) → IsAsked l.state w → ((m : Message) → w ≡ what.In m.id m.rest → facts_of l.state ≡ client_facts s F c place) → Told (place ++ entry w ∷ []) (step_client_ledger s l (record { entry = entry w; mark = mark }))
      told_more mark w asked facts =
          record {
            known = known_more s c u at mark w place l.state h.known asked;
            expected = each_filter (ExpectKnown s c (place ++ entry w ∷ [])) (ExpectKnown s c (place ++ entry w ∷ [])) (λ x. not (is_last_by x.op mark)) (expected_behind s l.state l.expected w) (λ x e q. q) (expected_known s c at (Client u) place l.state h.known.says.number h.known.count h.known.rows l.expected h.expected w);
            expects = each_filter (Expects (place ++ entry w ∷ [])) (Expects (place ++ entry w ∷ [])) (λ x. not (is_last_by x.op mark)) (expected_behind s l.state l.expected w) (λ x e q. q) (expects_behind w facts);
          }

    no_message : (w : What) → is_plain w ≡ true → (P : Type 0) → (m : Message) → w ≡ what.In m.id m.rest → P
    no_message w h P m e = absurd (let bad : false ≡ true = sym (ap (λ v. is_none (in_message v)) e) ∙ right (is_unchosen w) _ h in cc)

    -- the first entry of a turn, and then the others
    joined : (u at : ℕ) (w : What) (ws : List What) (mark : Option Taken) (place : List Entry) (l : ClientLedger) → Told ((place ++ record { part = Client u; at = at; what = w } ∷ []) ++ entries (client_turn_of u at None ws)) (behind (step_client_ledger s) (step_client_ledger s l (record { entry = record { part = Client u; at = at; what = w }; mark = mark })) (client_turn_of u at None ws)) → Told (place ++ entries (client_turn_of u at mark (w ∷ ws))) (behind (step_client_ledger s) l (client_turn_of u at mark (w ∷ ws)))
    joined u at w ws mark place l h =
        let e : Entry = record { part = Client u; at = at; what = w } in
        let next : ClientLedger = step_client_ledger s l (record { entry = e; mark = mark }) in
        subst (λ ms. Told (place ++ e ∷ entries ms) (behind (step_client_ledger s) next ms)) (sym (tail_none (entries_of (Client u) at ws))) (subst (λ b. Told b (behind (step_client_ledger s) next (client_turn_of u at None ws))) (append_assoc place (e ∷ []) (entries (client_turn_of u at None ws))) h)

    told_through : (u at : ℕ) (ws : List What) (place : List Entry) (l : ClientLedger) → Told place l → list_all is_plain ws ≡ true → Told (place ++ entries (client_turn_of u at None ws)) (behind (step_client_ledger s) l (client_turn_of u at None ws))
    told_through u at [] place l h k = subst (λ b. Told b l) (sym (append-nil place)) h
    told_through u at (w ∷ ws) place l h k = joined u at w ws None place l (told_through u at ws (place ++ record { part = Client u; at = at; what = w } ∷ []) (step_client_ledger s l (record { entry = record { part = Client u; at = at; what = w }; mark = None })) (told_more u at place l h None w (none_asked l.state w (left (is_unchosen w) _ (left (is_plain w) _ k))) (λ m e. no_message w (left (is_plain w) _ k) _ m e)) (right (is_plain w) _ k))

    -- a turn
    pub told_turn : (u at : ℕ) (w : What) (ws : List What) (mark : Option Taken) (place : List Entry) (l : ClientLedger) → Told place l → IsAsked l.state w → ((m : Message) → w ≡ what.In m.id m.rest → facts_of l.state ≡ client_facts s F c place) → list_all is_plain ws ≡ true → Told (place ++ entries (client_turn_of u at mark (w ∷ ws))) (behind (step_client_ledger s) l (client_turn_of u at mark (w ∷ ws)))
    told_turn u at w ws mark place l h asked facts k = joined u at w ws mark place l (told_through u at ws (place ++ record { part = Client u; at = at; what = w } ∷ []) (step_client_ledger s l (record { entry = record { part = Client u; at = at; what = w }; mark = mark })) (told_more u at place l h mark w asked facts) k)

    -- one of which each entry is plain
    pub told_plain : (u at : ℕ) (ws : List What) (mark : Option Taken) (place : List Entry) (l : ClientLedger) → Told place l → list_all is_plain ws ≡ true → Told (place ++ entries (client_turn_of u at mark ws)) (behind (step_client_ledger s) l (client_turn_of u at mark ws))
    told_plain u at [] mark place l h k = subst (λ b. Told b l) (sym (append-nil place)) h
    told_plain u at (w ∷ ws) mark place l h k = told_turn u at w ws mark place l h (none_asked l.state w (left (is_unchosen w) _ (left (is_plain w) _ k))) (λ m e. no_message w (left (is_plain w) _ k) _ m e) (right (is_plain w) _ k)
