-- Each Out of a client's list is of an operation, or is the notice with Gone behind it, and none stands behind Gone, in
-- each list of its turns.
use Rattle.std.proofs.Common.{◌≡◌, ℕ, suc, Bool, true, false, ◌==◌, ◌&&◌, not, List, [], ◌∷◌, ◌++◌, length, refl, ap, ◌∙◌, sym}
use Rattle.std.specs.Prelude.{Option, Some, None, is_none, map, cond}
use Rattle.std.specs.List.{list_any, list_all}
use Rattle.std.proofs.lemmas.List.{map-append}
use Rattle.std.proofs.lemmas.List.Folds.{list_all-append}
use Rattle.ldap_spec.specs.Messages.{Message}
use Rattle.ldap_spec.specs.Kinds.{kind_of}
use Rattle.ldap_spec.specs.Bodies.{refusal, cancel_answer, protocol_error_notice}
use Rattle.lload_names.specs.declared.names.Entry.{Entry}
use Rattle.lload_names.specs.declared.names.OpName.{OpName}
use Rattle.lload_names.specs.declared.names.OpKind.{OpKind}
use Rattle.lload_names.specs.declared.names.Answer.{Answer}
use Rattle.lload_names.specs.declared.names.Answer.TheVariants.{Go, Busy, Unavailable}
use Rattle.lload_names.specs.declared.names.CancelAnswer.{CancelAnswer}
use Rattle.lload_names.specs.declared.names.CancelAnswer.TheVariants.{C13, S1}
use Rattle.lload_names.specs.declared.names.Refusal.{Refusal}
use Rattle.lload_names.specs.declared.names.Refusal.TheVariants.{C1, C3}
use Rattle.lload_names.specs.declared.names.PartName.TheVariants.{Client}
use Rattle.lload_names.specs.declared.names.Letter.TheVariants.{Choice, Reply, Failed}
use Rattle.lload_names.specs.declared.names.What.{What}
use Rattle.lload_names.specs.declared.names.What.TheVariants as what
use Rattle.lload_spec.specs.Lists.{passes, first_passes, implies, each_split_from}
use Rattle.lload_spec.specs.Settings.{Settings}
use Rattle.lload_spec.specs.Journal.{same_part, of_part}
use Rattle.lload_spec.specs.Entries.{operation_message, makes_operation, out_message, is_gone, is_notice}
use Rattle.lload_spec.specs.Operations.{Operation, operations, operation_made, live_operations, takes_id, is_live, is_out_for}
use Rattle.lload_spec.specs.Fifo.{is_out_entry, is_out_of_some, is_owned}
use Rattle.lload_spec.specs.FirstCheck.{Check, Ends, Unbinds, Abandons, Refuses, Answers, Cancels, GoesOn, live_request}
use Rattle.part_spec.specs.Marked.{Marked, Taken, entries}
use Rattle.part_spec.specs.Inputs.{entries_of}
use Rattle.part_spec.specs.ClientState.{ClientState, ClientRow, step_client, facts_of, check_at, is_present, row_named}
use Rattle.part_spec.specs.ClientTurn.{refused, canceled, noticed, whats_by, whats_for}
use Rattle.part_spec.specs.Fit.{ledger_behind as behind}
use Rattle.lload_spec.proofs.Growth.{left, right, both}
use Rattle.lload_laws.specs.ClientGrowth.{later_operation}
use Rattle.lload_laws.proofs.ClientGrowth.{operations_grow}
use Rattle.lload_laws.proofs.ListLaws.{any-map, any_imply}
use Rattle.part_laws.specs.Turns.{Event, made}
use Rattle.part_laws.proofs.ListLaws.{splits_grow, first_stays, implies_stays, or_elim, or_left, or_right, any_before, any_behind, any_filtered, none_of_both, not_true, eqb_same, eqb_sym, eq_eqb, same_number}
use Rattle.client_laws.specs.Turns.{client_event, client_list}
use Rattle.client_laws.proofs.ClientCancels.{cancel_named}
use Rattle.client_laws.proofs.Matches.{ClientLives}
use Rattle.client_laws.proofs.ClientOuts.{has_last, untaken_later, row_has_last}
use Rattle.client_laws.proofs.ClientEnds.{checked_id, kind_makes, row_owed}
use Rattle.client_laws.proofs.ClientTurns.{client_turn_of, is_end}
use Rattle.client_laws.proofs.ClientClauses.{Keeps, entries_marked}
use Rattle.client_share_laws.specs.Clauses.{ClientOutsOwned}
use Rattle.client_share_laws.proofs.ClientCases.{Cases, taken, any_case, event_case}
use Rattle.client_share_laws.proofs.RowsGone.{row_open, event_gone}
use Rattle.client_share_laws.proofs.ClientKept.{kept_always}

-- the entries of a client's list are its own
pub own_list : (c : ℕ) (es : List Entry) → list_all (λ e. same_part (Client c) e.part) es ≡ true → of_part (Client c) es ≡ es
own_list c [] h = refl
own_list c (e ∷ es) h = ap (λ b. cond b (e ∷ of_part (Client c) es) (of_part (Client c) es)) (left (same_part (Client c) e.part) _ h) ∙ ap (λ l. e ∷ l) (own_list c es (right (same_part (Client c) e.part) _ h))

pub own_entries : (c u at : ℕ) (ws : List What) → (c == u) ≡ true → list_all (λ e. same_part (Client c) e.part) (entries_of (Client u) at ws) ≡ true
own_entries c u at [] h = refl
own_entries c u at (w ∷ ws) h = both (c == u) _ h (own_entries c u at ws h)

-- with a turn more
pub event_own : (s : Settings) (c : ℕ) (before : List Marked) (p : ClientState) (x : Event) → p.number ≡ c → list_all (λ e. same_part (Client c) e.part) (entries before) ≡ true → list_all (λ e. same_part (Client c) e.part) (entries (before ++ made (client_event s) p x)) ≡ true
event_own s c before p x number h = ap (list_all (λ e. same_part (Client c) e.part)) (map-append (λ m. m.entry) before (made (client_event s) p x)) ∙ list_all-append (λ e. same_part (Client c) e.part) (entries before) (entries (made (client_event s) p x)) ∙ both (list_all (λ e. same_part (Client c) e.part) (entries before)) _ h (event_case s p (λ ms. list_all (λ e. same_part (Client c) e.part) (entries ms) ≡ true) (any_case s p (λ ms. list_all (λ e. same_part (Client c) e.part) (entries ms) ≡ true) (λ at mark ws. ap (list_all (λ e. same_part (Client c) e.part)) (entries_marked mark (entries_of (Client p.number) at ws)) ∙ own_entries c p.number at ws (eq_eqb c p.number (sym number)))) x)

-- an operation has an identifier last, in a longer list
abbrev Has : ℕ → List Entry → ℕ → Type 0
Has c place n = list_any (has_last n) (operations c place) ≡ true

has_more : (c n : ℕ) (place : List Entry) (e : Entry) → takes_id n e ≡ false → Has c place n → Has c (place ++ e ∷ []) n
has_more c n place e t h = ap (list_any (has_last n)) (operations_grow c place e) ∙ any_before (has_last n) (map (later_operation e) (operations c place)) _ (any-map (has_last n) (later_operation e) (operations c place) ∙ any_imply (has_last n) (λ o. has_last n (later_operation e o)) (operations c place) later h)
  where
    later : (o : Operation) → has_last n o ≡ true → has_last n (later_operation e o) ≡ true
    later o k =
        let same : o.request.id ≡ n = same_number o.request.id n (left (o.request.id == n) _ k) in
        both (o.request.id == n) _ (left (o.request.id == n) _ k) (untaken_later e o ∙ both (not (list_any (takes_id o.request.id) o.behind)) _ (right (o.request.id == n) _ k) (ap (λ i. not (takes_id i e)) same ∙ ap not t))

has_new : (c : ℕ) (place : List Entry) (e : Entry) (m : Message) → operation_message e.what ≡ Some m → Has c (place ++ e ∷ []) m.id
has_new c place e m h = ap (list_any (has_last m.id)) (operations_grow c place e) ∙ any_behind (has_last m.id) (map (later_operation e) (operations c place)) (operation_made c (suc (length (operations c place))) place e [] (operation_message e.what)) (ap (λ x. list_any (has_last m.id) (operation_made c (suc (length (operations c place))) place e [] x)) h ∙ or_left (has_last m.id (record { name = record { client = c; k = suc (length (operations c place)) }; at = e.at; request = m; before = place; behind = [] })) false (both (m.id == m.id) true (eqb_same m.id) refl))

has_row : (c n : ℕ) (place : List Entry) (p : ClientState) → ClientLives c place p → list_any (λ r. r.request.id == n) p.rows ≡ true → Has c place n
has_row c n place p h k = any_filtered (has_last n) is_live (operations c place) (row_has_last n p.rows (live_operations c place) h.rows h.untaken k)

module _ (c : ℕ) where
  abbrev is_right_out : List Entry → Entry → List Entry → Bool
  is_right_out place e es = implies (is_out_entry e) (is_owned c place e es && not (list_any is_gone place))

  abbrev Right : List Entry → List Entry → Type 0
  Right place es = each_split_from is_right_out place es ≡ true

  right_stays : (M place : List Entry) (e : Entry) (es : List Entry) → is_right_out place e es ≡ true → is_right_out place e (es ++ M) ≡ true
  right_stays M place e es h = implies_stays (is_out_entry e) (is_owned c place e es && not (list_any is_gone place)) (is_owned c place e (es ++ M) && not (list_any is_gone place)) (λ j. both (is_owned c place e (es ++ M)) _ (or_elim (is_out_of_some c place e) (is_notice e && first_passes is_gone es) (λ i. or_left (is_out_of_some c place e) _ i) (λ i. or_right (is_out_of_some c place e) _ (both (is_notice e) _ (left (is_notice e) _ i) (first_stays is_gone es M (right (is_notice e) _ i)))) (left (is_owned c place e es) _ j)) (right (is_owned c place e es) _ j)) h

  -- what is no Out
  abbrev is_outless : What → Bool
  is_outless w = is_none (out_message w)

  outless_right : (u at : ℕ) (ws : List What) (place : List Entry) → list_all is_outless ws ≡ true → Right place (entries_of (Client u) at ws)
  outless_right u at [] place h = refl
  outless_right u at (w ∷ ws) place h =
      let e : Entry = record { part = Client u; at = at; what = w } in
      both (is_right_out place e (entries_of (Client u) at ws)) _ (by (out_message w) (left (is_outless w) _ h)) (outless_right u at ws (place ++ e ∷ []) (right (is_outless w) _ h))
    where
      by : (o : Option Message) → is_none o ≡ true → implies (passes (λ _. true) o) (is_owned c place (record { part = Client u; at = at; what = w }) (entries_of (Client u) at ws) && not (list_any is_gone place)) ≡ true
      by None k = refl
      by (Some m) k = absurd (let bad : false ≡ true = k in cc)

  -- an Out of an operation
  out_right : (u at id : ℕ) (rest : List ℕ) (place es : List Entry) → Has c place id → list_any is_gone place ≡ false → is_right_out place (record { part = Client u; at = at; what = what.Out id rest }) es ≡ true
  out_right u at id rest place es h g = both (is_owned c place (record { part = Client u; at = at; what = what.Out id rest }) es) _ (or_left (is_out_of_some c place (record { part = Client u; at = at; what = what.Out id rest })) _ (any_imply (has_last id) (λ o. is_out_for o.request o.behind (record { part = Client u; at = at; what = what.Out id rest })) (operations c place) (λ o k. both (id == o.request.id) _ (eqb_sym id o.request.id ∙ left (o.request.id == id) _ k) (right (o.request.id == id) _ k)) h)) (ap not g)

  refused_right : (u at : ℕ) (m : Message) (which : Refusal) (place : List Entry) → ((kind : OpKind) → kind_of m.rest ≡ Some kind → Has c place m.id) → list_any is_gone place ≡ false → Right place (entries_of (Client u) at (refused m which))
  refused_right u at m which place f g = by (kind_of m.rest) f
    where
      outs_of : Option OpKind → List What
      outs_of o = elim o [ None ↦ [] | Some kind ↦ what.Out m.id (refusal kind which) ∷ [] ]

      by : (o : Option OpKind) → ((kind : OpKind) → o ≡ Some kind → Has c place m.id) → Right place (entries_of (Client u) at (outs_of o))
      by None k = refl
      by (Some kind) k = both (is_right_out place (record { part = Client u; at = at; what = what.Out m.id (refusal kind which) }) []) true (out_right u at m.id (refusal kind which) place [] (k kind refl) g) refl

  canceled_right : (u at id : ℕ) (o : Option OpKind) (which : CancelAnswer) (place : List Entry) → ((kind : OpKind) → o ≡ Some kind → Has c place id) → list_any is_gone place ≡ false → Right place (entries_of (Client u) at (canceled id o which))
  canceled_right u at id None which place f g = refl
  canceled_right u at id (Some kind) which place f g = both (is_right_out place (record { part = Client u; at = at; what = what.Out id (cancel_answer kind which) }) []) true (out_right u at id (cancel_answer kind which) place [] (f kind refl) g) refl

  module _ (s : Settings) (place : List Entry) (p : ClientState) (lives : ClientLives c place p) (gone : p.gone ≡ list_any is_gone place) (empty : p.gone ≡ true → p.rows ≡ []) where
    -- where there is a row the client isn't gone
    row_there : (op : OpName) (r : ClientRow) → row_named p op ≡ Some r → list_any is_gone place ≡ false
    row_there op r e = sym gone ∙ row_open p empty op r e

    row_has : (op : OpName) (r : ClientRow) → row_named p op ≡ Some r → Has c place r.request.id
    row_has op r e = has_row c r.request.id place p lives (row_owed p op r e)

    present : is_present p ≡ true → list_any is_gone place ≡ false
    present e = sym gone ∙ not_true p.gone (right p.arrived _ e)

    module _ (at : ℕ) (m : Message) (there : list_any is_gone place ≡ false) where
      abbrev came : Entry
      came = record { part = Client p.number; at = at; what = what.In m.id m.rest }

      still : list_any is_gone (place ++ came ∷ []) ≡ false
      still = none_of_both is_gone place (came ∷ []) there refl

      own_has : is_end (check_at s p m) ≡ false → (kind : OpKind) → kind_of m.rest ≡ Some kind → Has c (place ++ came ∷ []) m.id
      own_has e kind k = has_new c place came m (ap (λ b. elim b [ true ↦ Some (record { id = m.id; rest = m.rest }) | false ↦ None ]) (kind_makes m kind k (checked_id s p m e)))

      -- the one that a Cancel names
      named_has : (id : ℕ) (kind : OpKind) → check_at s p m ≡ Cancels id kind → Has c (place ++ came ∷ []) id
      named_has id kind e = has_more c id place came (by (makes_operation m)) (has_row c id place p lives (sym (any-map (λ x. x.id == id) (λ r. live_request r.request) p.rows) ∙ (cancel_named s (facts_of p) m id kind e).0.live))
        where
          put : Bool → Option Message
          put b = elim b [ true ↦ Some (record { id = m.id; rest = m.rest }) | false ↦ None ]

          by : (b : Bool) → passes (λ x. x.id == id) (put b) ≡ false
          by true = eqb_sym m.id id ∙ (cancel_named s (facts_of p) m id kind e).0.other
          by false = refl

      checked_right : (k : Check) → check_at s p m ≡ k → Right place (entries_of (Client p.number) at (what.In m.id m.rest ∷ whats_by m k))
      checked_right (Ends why) e = both (is_right_out (place ++ came ∷ []) (record { part = Client p.number; at = at; what = what.Out 0 protocol_error_notice }) (entries_of (Client p.number) at (what.Gone why ∷ []))) true (both (is_owned c (place ++ came ∷ []) (record { part = Client p.number; at = at; what = what.Out 0 protocol_error_notice }) (entries_of (Client p.number) at (what.Gone why ∷ []))) _ (or_right (is_out_of_some c (place ++ came ∷ []) (record { part = Client p.number; at = at; what = what.Out 0 protocol_error_notice })) true refl) (ap not still)) refl
      checked_right Unbinds e = refl
      checked_right (Abandons id) e = refl
      checked_right (Refuses which) e = refused_right p.number at m which (place ++ came ∷ []) (own_has (ap is_end e)) still
      checked_right (Answers which) e = canceled_right p.number at m.id (kind_of m.rest) which (place ++ came ∷ []) (own_has (ap is_end e)) still
      checked_right (Cancels id kind) e =
          let told : Entry = record { part = Client p.number; at = at; what = what.Out id (cancel_answer kind C13) } in
          both (is_right_out (place ++ came ∷ []) told (entries_of (Client p.number) at (canceled m.id (kind_of m.rest) S1))) _ (out_right p.number at id (cancel_answer kind C13) (place ++ came ∷ []) (entries_of (Client p.number) at (canceled m.id (kind_of m.rest) S1)) (named_has id kind e) still) (canceled_right p.number at m.id (kind_of m.rest) S1 ((place ++ came ∷ []) ++ told ∷ []) (λ sort q. has_more c m.id (place ++ came ∷ []) told refl (own_has (ap is_end e) sort q)) (none_of_both is_gone (place ++ came ∷ []) (told ∷ []) still refl))
      checked_right GoesOn e = refl

    choice_right : (at : ℕ) (op : OpName) (a : Answer) → Right place (entries_of (Client p.number) at (what.Chosen op a ∷ whats_for (row_named p op) a))
    choice_right at op a = by (row_named p op) a refl
      where
        learned : Answer → Entry
        learned x = record { part = Client p.number; at = at; what = what.Chosen op x }

        refused_by : (r : ClientRow) (x : Answer) (which : Refusal) → row_named p op ≡ Some r → Right (place ++ learned x ∷ []) (entries_of (Client p.number) at (refused r.request which))
        refused_by r x which e = refused_right p.number at r.request which (place ++ learned x ∷ []) (λ kind q. has_more c r.request.id place (learned x) refl (row_has op r e)) (none_of_both is_gone place (learned x ∷ []) (row_there op r e) refl)

        by : (o : Option ClientRow) (x : Answer) → row_named p op ≡ o → Right place (entries_of (Client p.number) at (what.Chosen op x ∷ whats_for o x))
        by (Some r) Busy e = refused_by r Busy C1 e
        by (Some r) Unavailable e = refused_by r Unavailable C3 e
        by (Some r) (Go u b) e = refl
        by None (Go u b) e = refl
        by None Busy e = refl
        by None Unavailable e = refl

    abbrev TurnRight : List Marked → Type 0
    TurnRight ms = Right place (entries ms)

    turn : (at : ℕ) (mark : Option Taken) (ws : List What) → Right place (entries_of (Client p.number) at ws) → TurnRight (client_turn_of p.number at mark ws)
    turn at mark ws h = ap (each_split_from is_right_out place) (entries_marked mark (entries_of (Client p.number) at ws)) ∙ h

    right_cases : Cases s p TurnRight
    right_cases =
        record {
          none = refl;
          arrives = λ at fresh. turn at None (what.Arrived ∷ []) refl;
          checked = λ at m e f. turn at None (what.In m.id m.rest ∷ whats_by m (check_at s p m)) (checked_right at m (present e) (check_at s p m) refl);
          chosen = λ at sender op a here. turn at (taken sender (Choice op a)) (what.Chosen op a ∷ whats_for (row_named p op) a) (choice_right at op a);
          answered = λ at sender op rest is_last who r e here. turn at (taken sender (Reply op rest is_last who)) (what.Out r.request.id rest ∷ []) (both (is_right_out place (record { part = Client p.number; at = at; what = what.Out r.request.id rest }) []) true (out_right p.number at r.request.id rest place [] (row_has op r e) (row_there op r e)) refl);
          failed = λ at sender op which r e here. turn at (taken sender (Failed op which)) (refused r.request which) (refused_right p.number at r.request which place (λ kind q. row_has op r e) (row_there op r e));
          late = λ at mark op e here about. turn at mark (what.Late op ∷ []) refl;
          breaks = λ at why e f n. turn at None (noticed why) (both (is_right_out place (record { part = Client p.number; at = at; what = what.Out 0 protocol_error_notice }) (entries_of (Client p.number) at (what.Gone why ∷ []))) true (both (is_owned c place (record { part = Client p.number; at = at; what = what.Out 0 protocol_error_notice }) (entries_of (Client p.number) at (what.Gone why ∷ []))) _ (or_right (is_out_of_some c place (record { part = Client p.number; at = at; what = what.Out 0 protocol_error_notice })) true refl) (ap not (present e))) refl);
          severed = λ at why here e. turn at None (what.Gone why ∷ []) refl;
          stalls = λ at here. turn at None (what.Stalled ∷ []) refl;
          flows = λ at here. turn at None (what.Flowing ∷ []) refl;
        }

  -- what is kept behind each turn
  record Kept (before : List Marked) (p : ClientState) : Type 0 where
    own : list_all (λ e. same_part (Client c) e.part) (entries before) ≡ true
    empty : p.gone ≡ true → p.rows ≡ []
    outs : Right [] (entries before)

  kept_more : (s : Settings) (before : List Marked) (p : ClientState) (x : Event) → Keeps s c before p → Kept before p → Kept (before ++ made (client_event s) p x) (behind (step_client s) p (made (client_event s) p x))
  kept_more s before p x h k =
      let grown : entries (before ++ made (client_event s) p x) ≡ entries before ++ entries (made (client_event s) p x) = map-append (λ m. m.entry) before (made (client_event s) p x) in
      record {
        own = event_own s c before p x h.says.number k.own;
        empty = event_gone s p k.empty x;
        outs = ap (each_split_from is_right_out []) grown ∙ splits_grow is_right_out [] (entries before) (entries (made (client_event s) p x)) (right_stays (entries (made (client_event s) p x))) k.outs (event_case s p (TurnRight s (entries before) p h.lives h.says.gone k.empty) (right_cases s (entries before) p h.lives h.says.gone k.empty) x);
      }

  list_right : (s : Settings) (xs : List Event) → each_split_from is_right_out [] (of_part (Client c) (entries (client_list s c xs))) ≡ true
  list_right s xs = kept_always s c Kept (λ ms. each_split_from is_right_out [] (of_part (Client c) (entries ms)) ≡ true) (λ before p q. ap (each_split_from is_right_out []) (own_list c (entries before) q.own) ∙ q.outs) (kept_more s) (record { own = refl; empty = λ g. refl; outs = refl }) xs

pub client_outs_owned : ClientOutsOwned
client_outs_owned s c xs = list_right c s xs
