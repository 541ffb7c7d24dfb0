-- A client's list begins with Arrived, which stands nowhere else, and has choices and late letters alone behind its end, whatever
-- came to the client.
use Rattle.std.proofs.Common.{◌≡◌, ℕ, Bool, true, false, ◌&&◌, ◌||◌, not, List, [], ◌∷◌, ◌++◌, refl, ap, ◌∙◌, sym}
use Rattle.std.specs.Prelude.{Option, Some, None}
use Rattle.std.specs.List.{list_any, list_all}
use Rattle.std.proofs.lemmas.List.{map-append}
use Rattle.ldap_spec.specs.Messages.{Message}
use Rattle.ldap_spec.specs.Kinds.{kind_of}
use Rattle.ldap_spec.specs.Bodies.{protocol_error_notice}
use Rattle.lload_names.specs.declared.names.Entry.{Entry}
use Rattle.lload_names.specs.declared.names.OpName.{OpName}
use Rattle.lload_names.specs.declared.names.Answer.{Answer}
use Rattle.lload_names.specs.declared.names.Answer.TheVariants.{Go, Busy, Unavailable}
use Rattle.lload_names.specs.declared.names.CancelAnswer.TheVariants.{S1}
use Rattle.lload_names.specs.declared.names.EndWhy.{EndWhy}
use Rattle.lload_names.specs.declared.names.EndWhy.TheVariants.{Left}
use Rattle.lload_names.specs.declared.names.Refusal.{Refusal}
use Rattle.lload_names.specs.declared.names.Refusal.TheVariants.{C1, C3}
use Rattle.lload_names.specs.declared.names.PartName.TheVariants.{Client}
use Rattle.lload_names.specs.declared.names.Letter.TheVariants.{Choice, Reply, Failed}
use Rattle.lload_names.specs.declared.names.What.{What}
use Rattle.lload_names.specs.declared.names.What.TheVariants as what
use Rattle.lload_spec.specs.Lists.{agrees, implies, each_split_from}
use Rattle.lload_spec.specs.Settings.{Settings}
use Rattle.lload_spec.specs.Entries.{is_arrived, is_gone, is_of_client}
use Rattle.lload_spec.specs.Strict.{is_empty, may_follow_gone, lives_as_client}
use Rattle.lload_spec.specs.FirstCheck.{Check, Ends, Unbinds, Abandons, Refuses, Answers, Cancels, GoesOn}
use Rattle.part_spec.specs.Marked.{Marked, Taken, entries}
use Rattle.part_spec.specs.Inputs.{entries_of}
use Rattle.part_spec.specs.ClientState.{ClientState, ClientRow, step_client, check_at, is_present, row_named}
use Rattle.part_spec.specs.ClientTurn.{refused, canceled, noticed, whats_by, whats_for}
use Rattle.part_spec.specs.Fit.{ledger_behind as behind}
use Rattle.lload_spec.proofs.Growth.{left, right, both}
use Rattle.part_laws.specs.Turns.{Event, made}
use Rattle.part_laws.proofs.ListLaws.{splits_grow, none_of_both, not_true}
use Rattle.client_laws.specs.Turns.{client_event}
use Rattle.client_laws.proofs.ClientTurns.{client_turn_of}
use Rattle.client_laws.proofs.ClientClauses.{Keeps, entries_marked}
use Rattle.client_share_laws.specs.Clauses.{ClientInOrder}
use Rattle.client_share_laws.proofs.Whats.{refused_all, canceled_all}
use Rattle.client_share_laws.proofs.ClientCases.{Cases, taken, event_case}
use Rattle.client_share_laws.proofs.RowsGone.{row_open, event_gone}
use Rattle.client_share_laws.proofs.ClientKept.{kept_always}

-- whether an entry is a client's, and stands where one may in its life
abbrev in_order : List Entry → Entry → Bool
in_order place e = is_of_client e.what && lives_as_client place e

abbrev Ordered : List Entry → List Entry → Type 0
Ordered place es = each_split_from (λ b e x. in_order b e) place es ≡ true

-- the list begins with Arrived
begins : (place : List Entry) → Ordered [] place → is_empty place ≡ not (list_any (λ e. is_arrived e.what) place)
begins [] h = refl
begins (e ∷ es) h = by (is_arrived e.what) (left (agrees (is_arrived e.what) true) _ (right (is_of_client e.what) _ (left (in_order [] e) _ h)))
  where
    by : (b : Bool) → agrees b true ≡ true → false ≡ not (b || list_any (λ x. is_arrived x.what) es)
    by true k = refl
    by false k = absurd (let bad : false ≡ true = k in cc)

-- what may stand behind Arrived and before Gone
abbrev is_plain : What → Bool
is_plain w = is_of_client w && not (is_arrived w)

empty_more : (place : List Entry) (e : Entry) → is_empty (place ++ e ∷ []) ≡ false
empty_more [] e = refl
empty_more (x ∷ place) e = refl

entry_ordered : (place : List Entry) (e : Entry) → is_plain e.what ≡ true → is_empty place ≡ false → implies (list_any is_gone place) (may_follow_gone e.what) ≡ true → in_order place e ≡ true
entry_ordered place e h n g = both (is_of_client e.what) _ (left (is_of_client e.what) _ h) (both (agrees (is_arrived e.what) (is_empty place)) _ (ap (λ b. agrees b (is_empty place)) (not_true (is_arrived e.what) (right (is_of_client e.what) _ h)) ∙ ap (agrees false) n) g)

before_gone : (place : List Entry) (w : What) → list_any is_gone place ≡ false → implies (list_any is_gone place) (may_follow_gone w) ≡ true
before_gone place w g = ap (λ b. implies b (may_follow_gone w)) g

module _ (u at : ℕ) where
  abbrev entry_of : What → Entry
  entry_of w = record { part = Client u; at = at; what = w }

  -- plain entries before Gone
  plain_ordered : (ws : List What) (place : List Entry) → is_empty place ≡ false → list_any is_gone place ≡ false → list_all (λ w. is_plain w && not (is_gone (entry_of w))) ws ≡ true → Ordered place (entries_of (Client u) at ws)
  plain_ordered [] place n g h = refl
  plain_ordered (w ∷ ws) place n g h =
      let first : (is_plain w && not (is_gone (entry_of w))) ≡ true = left (is_plain w && not (is_gone (entry_of w))) _ h in
      both (in_order place (entry_of w)) _ (entry_ordered place (entry_of w) (left (is_plain w) _ first) n (before_gone place w g)) (plain_ordered ws (place ++ entry_of w ∷ []) (empty_more place (entry_of w)) (none_of_both is_gone place (entry_of w ∷ []) g (ap (λ b. b || false) (not_true (is_gone (entry_of w)) (right (is_plain w) _ first)))) (right (is_plain w && not (is_gone (entry_of w))) _ h))

  gone_ordered : (why : EndWhy) (place : List Entry) → is_empty place ≡ false → list_any is_gone place ≡ false → Ordered place (entries_of (Client u) at (what.Gone why ∷ []))
  gone_ordered why place n g = both (in_order place (entry_of (what.Gone why))) true (entry_ordered place (entry_of (what.Gone why)) refl n (before_gone place (what.Gone why) g)) refl

  -- one before others
  first_ordered : (w : What) (ws : List What) (place : List Entry) → is_empty place ≡ false → list_any is_gone place ≡ false → is_plain w ≡ true → Ordered (place ++ entry_of w ∷ []) (entries_of (Client u) at ws) → Ordered place (entries_of (Client u) at (w ∷ ws))
  first_ordered w ws place n g h k = both (in_order place (entry_of w)) _ (entry_ordered place (entry_of w) h n (before_gone place w g)) k

module _ (s : Settings) (place : List Entry) (p : ClientState) (arrived : is_empty place ≡ not p.arrived) (gone : p.gone ≡ list_any is_gone place) (empty : p.gone ≡ true → p.rows ≡ []) where
  begun : p.arrived ≡ true → is_empty place ≡ false
  begun h = arrived ∙ ap not h

  open_there : is_present p ≡ true → list_any is_gone place ≡ false
  open_there h = sym gone ∙ not_true p.gone (right p.arrived _ h)

  open_row : (op : OpName) (r : ClientRow) → row_named p op ≡ Some r → list_any is_gone place ≡ false
  open_row op r e = sym gone ∙ row_open p empty op r e

  checked_ordered : (at : ℕ) (m : Message) (k : Check) → is_present p ≡ true → Ordered place (entries_of (Client p.number) at (what.In m.id m.rest ∷ whats_by m k))
  checked_ordered at m k h = by k
    where
      n : is_empty place ≡ false
      n = begun (left p.arrived _ h)

      still : list_any is_gone (place ++ record { part = Client p.number; at = at; what = what.In m.id m.rest } ∷ []) ≡ false
      still = none_of_both is_gone place (record { part = Client p.number; at = at; what = what.In m.id m.rest } ∷ []) (open_there h) refl

      begun_in : is_empty (place ++ record { part = Client p.number; at = at; what = what.In m.id m.rest } ∷ []) ≡ false
      begun_in = empty_more place (record { part = Client p.number; at = at; what = what.In m.id m.rest })

      first : (ws : List What) → Ordered (place ++ record { part = Client p.number; at = at; what = what.In m.id m.rest } ∷ []) (entries_of (Client p.number) at ws) → Ordered place (entries_of (Client p.number) at (what.In m.id m.rest ∷ ws))
      first ws k' = first_ordered p.number at (what.In m.id m.rest) ws place n (open_there h) refl k'

      plain : (ws : List What) → list_all (λ w. is_plain w && not (is_gone (record { part = Client p.number; at = at; what = w }))) ws ≡ true → Ordered place (entries_of (Client p.number) at (what.In m.id m.rest ∷ ws))
      plain ws j = first ws (plain_ordered p.number at ws (place ++ record { part = Client p.number; at = at; what = what.In m.id m.rest } ∷ []) begun_in still j)

      by : (c : Check) → Ordered place (entries_of (Client p.number) at (what.In m.id m.rest ∷ whats_by m c))
      by (Ends why) = first (noticed why) (first_ordered p.number at (what.Out 0 protocol_error_notice) (what.Gone why ∷ []) (place ++ record { part = Client p.number; at = at; what = what.In m.id m.rest } ∷ []) begun_in still refl (gone_ordered p.number at why ((place ++ record { part = Client p.number; at = at; what = what.In m.id m.rest } ∷ []) ++ record { part = Client p.number; at = at; what = what.Out 0 protocol_error_notice } ∷ []) (empty_more (place ++ record { part = Client p.number; at = at; what = what.In m.id m.rest } ∷ []) (record { part = Client p.number; at = at; what = what.Out 0 protocol_error_notice })) (none_of_both is_gone (place ++ record { part = Client p.number; at = at; what = what.In m.id m.rest } ∷ []) (record { part = Client p.number; at = at; what = what.Out 0 protocol_error_notice } ∷ []) still refl)))
      by Unbinds = first (whats_by m Unbinds) (gone_ordered p.number at Left (place ++ record { part = Client p.number; at = at; what = what.In m.id m.rest } ∷ []) begun_in still)
      by (Abandons id) = plain [] refl
      by (Refuses which) = plain (refused m which) (refused_all (λ w. is_plain w && not (is_gone (record { part = Client p.number; at = at; what = w }))) (λ id rest. refl) m which)
      by (Answers which) = plain (canceled m.id (kind_of m.rest) which) (canceled_all (λ w. is_plain w && not (is_gone (record { part = Client p.number; at = at; what = w }))) (λ id rest. refl) m.id (kind_of m.rest) which)
      by (Cancels id kind) = plain (whats_by m (Cancels id kind)) (canceled_all (λ w. is_plain w && not (is_gone (record { part = Client p.number; at = at; what = w }))) (λ i rest. refl) m.id (kind_of m.rest) S1)
      by GoesOn = plain [] refl

  choice_ordered : (at : ℕ) (op : OpName) (a : Answer) → p.arrived ≡ true → Ordered place (entries_of (Client p.number) at (what.Chosen op a ∷ whats_for (row_named p op) a))
  choice_ordered at op a here = both (in_order place (record { part = Client p.number; at = at; what = what.Chosen op a })) _ (entry_ordered place (record { part = Client p.number; at = at; what = what.Chosen op a }) refl (begun here) (follows (list_any is_gone place))) (by (row_named p op) a refl)
    where
      follows : (b : Bool) → implies b true ≡ true
      follows true = refl
      follows false = refl

      told : (r : ClientRow) (which : Refusal) → row_named p op ≡ Some r → Ordered (place ++ record { part = Client p.number; at = at; what = what.Chosen op a } ∷ []) (entries_of (Client p.number) at (refused r.request which))
      told r which e = plain_ordered p.number at (refused r.request which) (place ++ record { part = Client p.number; at = at; what = what.Chosen op a } ∷ []) (empty_more place (record { part = Client p.number; at = at; what = what.Chosen op a })) (none_of_both is_gone place (record { part = Client p.number; at = at; what = what.Chosen op a } ∷ []) (open_row op r e) refl) (refused_all (λ w. is_plain w && not (is_gone (record { part = Client p.number; at = at; what = w }))) (λ id rest. refl) r.request which)

      by : (o : Option ClientRow) (x : Answer) → row_named p op ≡ o → Ordered (place ++ record { part = Client p.number; at = at; what = what.Chosen op a } ∷ []) (entries_of (Client p.number) at (whats_for o x))
      by (Some r) Busy e = told r C1 e
      by (Some r) Unavailable e = told r C3 e
      by (Some r) (Go v b) e = refl
      by None (Go v b) e = refl
      by None Busy e = refl
      by None Unavailable e = refl

  abbrev TurnOrdered : List Marked → Type 0
  TurnOrdered ms = Ordered place (entries ms)

  turn : (at : ℕ) (mark : Option Taken) (ws : List What) → Ordered place (entries_of (Client p.number) at ws) → TurnOrdered (client_turn_of p.number at mark ws)
  turn at mark ws h = ap (each_split_from (λ b e x. in_order b e) place) (entries_marked mark (entries_of (Client p.number) at ws)) ∙ h

  arrived_first : (at : ℕ) → p.arrived ≡ false → p.gone ≡ false → Ordered place (entries_of (Client p.number) at (what.Arrived ∷ []))
  arrived_first at fresh g = both (in_order place (record { part = Client p.number; at = at; what = what.Arrived })) true (both (agrees true (is_empty place)) _ (ap (agrees true) (arrived ∙ ap not fresh)) (before_gone place what.Arrived (sym gone ∙ g))) refl

  ordered_cases : (p.arrived ≡ false → p.gone ≡ false) → Cases s p TurnOrdered
  ordered_cases ungone =
      record {
        none = refl;
        arrives = λ at fresh. turn at None (what.Arrived ∷ []) (arrived_first at fresh (ungone fresh));
        checked = λ at m e f. turn at None (what.In m.id m.rest ∷ whats_by m (check_at s p m)) (checked_ordered at m (check_at s p m) e);
        chosen = λ at sender op a here. turn at (taken sender (Choice op a)) (what.Chosen op a ∷ whats_for (row_named p op) a) (choice_ordered at op a here);
        answered = λ at sender op rest is_last who r e here. turn at (taken sender (Reply op rest is_last who)) (what.Out r.request.id rest ∷ []) (plain_ordered p.number at (what.Out r.request.id rest ∷ []) place (begun here) (open_row op r e) refl);
        failed = λ at sender op which r e here. turn at (taken sender (Failed op which)) (refused r.request which) (plain_ordered p.number at (refused r.request which) place (begun here) (open_row op r e) (refused_all (λ w. is_plain w && not (is_gone (record { part = Client p.number; at = at; what = w }))) (λ id rest. refl) r.request which));
        late = λ at mark op e here about. turn at mark (what.Late op ∷ []) (both (in_order place (record { part = Client p.number; at = at; what = what.Late op })) true (entry_ordered place (record { part = Client p.number; at = at; what = what.Late op }) refl (begun here) (always (list_any is_gone place))) refl);
        breaks = λ at why h e n. turn at None (noticed why) (first_ordered p.number at (what.Out 0 protocol_error_notice) (what.Gone why ∷ []) place (begun (left p.arrived _ h)) (open_there h) refl (gone_ordered p.number at why (place ++ record { part = Client p.number; at = at; what = what.Out 0 protocol_error_notice } ∷ []) (empty_more place (record { part = Client p.number; at = at; what = what.Out 0 protocol_error_notice })) (none_of_both is_gone place (record { part = Client p.number; at = at; what = what.Out 0 protocol_error_notice } ∷ []) (open_there h) refl)));
        severed = λ at why h e. turn at None (what.Gone why ∷ []) (gone_ordered p.number at why place (begun (left p.arrived _ h)) (open_there h));
        stalls = λ at h. turn at None (what.Stalled ∷ []) (plain_ordered p.number at (what.Stalled ∷ []) place (begun (left p.arrived _ h)) (open_there h) refl);
        flows = λ at h. turn at None (what.Flowing ∷ []) (plain_ordered p.number at (what.Flowing ∷ []) place (begun (left p.arrived _ h)) (open_there h) refl);
      }
    where
      always : (b : Bool) → implies b true ≡ true
      always true = refl
      always false = refl

-- a list in which nobody arrived is empty, so nobody went
none_gone : (place : List Entry) → is_empty place ≡ true → list_any is_gone place ≡ false
none_gone [] h = refl
none_gone (e ∷ es) h = absurd (let bad : false ≡ true = h in cc)

record Kept (before : List Marked) (p : ClientState) : Type 0 where
  empty : p.gone ≡ true → p.rows ≡ []
  ordered : Ordered [] (entries before)

kept_more : (s : Settings) (c : ℕ) (before : List Marked) (p : ClientState) (x : Event) → Keeps s c before p → Kept before p → Kept (before ++ made (client_event s) p x) (behind (step_client s) p (made (client_event s) p x))
kept_more s c before p x h k =
    let fresh : is_empty (entries before) ≡ not p.arrived = begins (entries before) k.ordered ∙ ap not (sym h.says.arrived) in
    record {
      empty = event_gone s p k.empty x;
      ordered = ap (each_split_from (λ b e r. in_order b e) []) (map-append (λ m. m.entry) before (made (client_event s) p x)) ∙ splits_grow (λ b e r. in_order b e) [] (entries before) (entries (made (client_event s) p x)) (λ b e r j. j) k.ordered (event_case s p (TurnOrdered s (entries before) p fresh h.says.gone k.empty) (ordered_cases s (entries before) p fresh h.says.gone k.empty (λ e. h.says.gone ∙ none_gone (entries before) (fresh ∙ ap not e))) x);
    }

pub client_in_order : ClientInOrder
client_in_order s c xs = kept_always s c Kept (λ ms. Ordered [] (entries ms)) (λ before p q. q.ordered) (kept_more s c) (record { empty = λ g. refl; ordered = refl }) xs
