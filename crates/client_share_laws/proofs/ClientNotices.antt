-- The protocol error notice stands only directly before an end that it is sent for, in each list of a client's turns.
use Rattle.std.proofs.Common.{◌≡◌, ℕ, Bool, true, false, ◌==◌, ◌&&◌, not, List, [], ◌∷◌, ◌++◌, refl, ap, ◌∙◌, sym}
use Rattle.std.specs.Prelude.{Option, Some, None}
use Rattle.std.specs.List.{list_any, list_all}
use Rattle.std.proofs.lemmas.List.{map-append}
use Rattle.std.specs.Str.{bytes_eq}
use Rattle.ldap_spec.specs.Messages.{Message}
use Rattle.ldap_spec.specs.Kinds.{kind_of}
use Rattle.ldap_spec.specs.Bodies.{refusal, protocol_error_notice}
use Rattle.lload_names.specs.declared.names.Entry.{Entry}
use Rattle.lload_names.specs.declared.names.OpName.{OpName}
use Rattle.lload_names.specs.declared.names.OpKind.{OpKind}
use Rattle.lload_names.specs.declared.names.Answer.{Answer}
use Rattle.lload_names.specs.declared.names.Answer.TheVariants.{Go, Busy, Unavailable}
use Rattle.lload_names.specs.declared.names.CancelAnswer.{CancelAnswer}
use Rattle.lload_names.specs.declared.names.CancelAnswer.TheVariants.{S1}
use Rattle.lload_names.specs.declared.names.EndWhy.{EndWhy}
use Rattle.lload_names.specs.declared.names.EndWhy.TheVariants.{ZeroId, IdInUse, Unreadable}
use Rattle.lload_names.specs.declared.names.Refusal.{Refusal}
use Rattle.lload_names.specs.declared.names.Refusal.TheVariants.{C1, C3}
use Rattle.lload_names.specs.declared.names.PartName.TheVariants.{Client}
use Rattle.lload_names.specs.declared.names.Letter.TheVariants.{Choice, Reply, Failed}
use Rattle.lload_names.specs.declared.names.What.{What}
use Rattle.lload_names.specs.declared.names.What.TheVariants as what
use Rattle.lload_spec.specs.Lists.{implies, first_passes, each_split_from}
use Rattle.lload_spec.specs.Settings.{Settings}
use Rattle.lload_spec.specs.Entries.{is_notice}
use Rattle.lload_spec.specs.Strict.{is_noticed, is_notice_placed}
use Rattle.lload_spec.specs.FirstCheck.{Check, Ends, Unbinds, Abandons, Refuses, Answers, Cancels, GoesOn, live_request}
use Rattle.part_spec.specs.Marked.{Marked, Taken, entries}
use Rattle.part_spec.specs.Inputs.{entries_of}
use Rattle.part_spec.specs.ClientState.{ClientState, ClientRow, step_client, facts_of, check_at, row_named}
use Rattle.part_spec.specs.ClientTurn.{refused, canceled, noticed, whats_by, whats_for}
use Rattle.part_spec.specs.Fit.{ledger_behind as behind}
use Rattle.lload_spec.proofs.Growth.{left, right, both}
use Rattle.lload_laws.proofs.ListLaws.{any-map, found}
use Rattle.part_laws.specs.Turns.{Event, made}
use Rattle.part_laws.proofs.ListLaws.{splits_grow, first_stays, implies_stays, or_elim, not_true, same_number}
use Rattle.client_laws.specs.Turns.{client_event}
use Rattle.client_laws.proofs.ClientCancels.{cancel_named}
use Rattle.client_laws.proofs.ClientEnds.{checked_id}
use Rattle.client_laws.proofs.ClientGives.{has_id, HaveIds, ids_kept}
use Rattle.client_laws.proofs.ClientTurns.{client_turn_of, is_end}
use Rattle.client_laws.proofs.ClientClauses.{Keeps, entries_marked}
use Rattle.client_share_laws.specs.Clauses.{ClientNotices}
use Rattle.client_share_laws.proofs.ClientCases.{Cases, taken, event_case, is_noticed_why}
use Rattle.client_share_laws.proofs.ClientGoes.{is_check_reason, ends_rightly, check_ends_rightly}
use Rattle.client_share_laws.proofs.ClientKept.{kept_always}

abbrev Placed : List Entry → List Entry → Type 0
Placed place es = each_split_from (λ b e x. is_notice_placed e x) place es ≡ true

-- what is no notice
abbrev is_unnoticed : What → Bool
is_unnoticed (what.Out id rest) = not (id == 0)
is_unnoticed _ = true

none_notice : (e : Entry) (w : What) → e.what ≡ w → is_unnoticed w ≡ true → is_notice e ≡ false
none_notice e (what.Out id rest) k h = ap (λ v. is_notice (record e { what = v })) k ∙ ap (λ b. b && bytes_eq rest protocol_error_notice) (not_true (id == 0) h)
none_notice e what.Arrived k h = ap (λ v. is_notice (record e { what = v })) k
none_notice e _ k h = ap (λ v. is_notice (record e { what = v })) k

unnoticed_placed : (u at : ℕ) (ws : List What) (place : List Entry) → list_all is_unnoticed ws ≡ true → Placed place (entries_of (Client u) at ws)
unnoticed_placed u at [] place h = refl
unnoticed_placed u at (w ∷ ws) place h =
    let e : Entry = record { part = Client u; at = at; what = w } in
    both (is_notice_placed e (entries_of (Client u) at ws)) _ (ap (λ b. implies b (first_passes is_noticed (entries_of (Client u) at ws))) (none_notice e w refl (left (is_unnoticed w) _ h))) (unnoticed_placed u at ws (place ++ e ∷ []) (right (is_unnoticed w) _ h))

refused_unnoticed : (m : Message) (which : Refusal) → (m.id == 0) ≡ false → list_all is_unnoticed (refused m which) ≡ true
refused_unnoticed m which z = by (kind_of m.rest)
  where
    outs_of : Option OpKind → List What
    outs_of o = elim o [ None ↦ [] | Some kind ↦ what.Out m.id (refusal kind which) ∷ [] ]

    by : (o : Option OpKind) → list_all is_unnoticed (outs_of o) ≡ true
    by None = refl
    by (Some kind) = both (not (m.id == 0)) true (ap not z) refl

canceled_unnoticed : (id : ℕ) (o : Option OpKind) (which : CancelAnswer) → (id == 0) ≡ false → list_all is_unnoticed (canceled id o which) ≡ true
canceled_unnoticed id None which z = refl
canceled_unnoticed id (Some kind) which z = both (not (id == 0)) true (ap not z) refl

check_noticed : (why : EndWhy) → is_check_reason why ≡ true → is_noticed_why why ≡ true
check_noticed ZeroId h = refl
check_noticed IdInUse h = refl
check_noticed Unreadable h = refl
check_noticed _ h = absurd (let bad : false ≡ true = h in cc)

module _ (s : Settings) (place : List Entry) (p : ClientState) (ids : HaveIds p) where
  named_id : (op : OpName) (r : ClientRow) → row_named p op ≡ Some r → (r.request.id == 0) ≡ false
  named_id op r e = not_true (r.request.id == 0) (found has_id (λ x. p.number == op.client && x.k == op.k) p.rows r e ids)

  live_id : (n : ℕ) (rows : List ClientRow) → list_all has_id rows ≡ true → list_any (λ r. r.request.id == n) rows ≡ true → (n == 0) ≡ false
  live_id n [] h k = absurd (let bad : false ≡ true = k in cc)
  live_id n (r ∷ rows) h k = or_elim (r.request.id == n) (list_any (λ x. x.request.id == n) rows) (λ j. ap (λ i. i == 0) (sym (same_number r.request.id n j)) ∙ not_true (r.request.id == 0) (left (has_id r) _ h)) (λ j. live_id n rows (right (has_id r) _ h) j) k

  checked_placed : (at : ℕ) (m : Message) (k : Check) → check_at s p m ≡ k → ends_rightly m k ≡ true → Placed place (entries_of (Client p.number) at (what.In m.id m.rest ∷ whats_by m k))
  checked_placed at m (Ends why) e h = both (is_noticed_why why) true (check_noticed why h) refl
  checked_placed at m Unbinds e h = refl
  checked_placed at m (Abandons id) e h = refl
  checked_placed at m (Refuses which) e h = unnoticed_placed p.number at (what.In m.id m.rest ∷ refused m which) place (refused_unnoticed m which (checked_id s p m (ap is_end e)))
  checked_placed at m (Answers which) e h = unnoticed_placed p.number at (what.In m.id m.rest ∷ canceled m.id (kind_of m.rest) which) place (canceled_unnoticed m.id (kind_of m.rest) which (checked_id s p m (ap is_end e)))
  checked_placed at m (Cancels id kind) e h = unnoticed_placed p.number at (what.In m.id m.rest ∷ whats_by m (Cancels id kind)) place (both (not (id == 0)) _ (ap not (live_id id p.rows ids (sym (any-map (λ x. x.id == id) (λ r. live_request r.request) p.rows) ∙ (cancel_named s (facts_of p) m id kind e).0.live))) (canceled_unnoticed m.id (kind_of m.rest) S1 (checked_id s p m (ap is_end e))))
  checked_placed at m GoesOn e h = refl

  choice_unnoticed : (op : OpName) (a : Answer) → list_all is_unnoticed (whats_for (row_named p op) a) ≡ true
  choice_unnoticed op a = by (row_named p op) a refl
    where
      by : (o : Option ClientRow) (x : Answer) → row_named p op ≡ o → list_all is_unnoticed (whats_for o x) ≡ true
      by (Some r) Busy e = refused_unnoticed r.request C1 (named_id op r e)
      by (Some r) Unavailable e = refused_unnoticed r.request C3 (named_id op r e)
      by (Some r) (Go u b) e = refl
      by None (Go u b) e = refl
      by None Busy e = refl
      by None Unavailable e = refl

  abbrev TurnPlaced : List Marked → Type 0
  TurnPlaced ms = Placed place (entries ms)

  turn : (at : ℕ) (mark : Option Taken) (ws : List What) → Placed place (entries_of (Client p.number) at ws) → TurnPlaced (client_turn_of p.number at mark ws)
  turn at mark ws h = ap (each_split_from (λ b e x. is_notice_placed e x) place) (entries_marked mark (entries_of (Client p.number) at ws)) ∙ h

  placed_cases : Cases s p TurnPlaced
  placed_cases =
      record {
        none = refl;
        arrives = λ at fresh. turn at None (what.Arrived ∷ []) refl;
        checked = λ at m e f. turn at None (what.In m.id m.rest ∷ whats_by m (check_at s p m)) (checked_placed at m (check_at s p m) refl (check_ends_rightly s p m));
        chosen = λ at sender op a here. turn at (taken sender (Choice op a)) (what.Chosen op a ∷ whats_for (row_named p op) a) (unnoticed_placed p.number at (what.Chosen op a ∷ whats_for (row_named p op) a) place (choice_unnoticed op a));
        answered = λ at sender op rest is_last who r e here. turn at (taken sender (Reply op rest is_last who)) (what.Out r.request.id rest ∷ []) (unnoticed_placed p.number at (what.Out r.request.id rest ∷ []) place (both (not (r.request.id == 0)) true (ap not (named_id op r e)) refl));
        failed = λ at sender op which r e here. turn at (taken sender (Failed op which)) (refused r.request which) (unnoticed_placed p.number at (refused r.request which) place (refused_unnoticed r.request which (named_id op r e)));
        late = λ at mark op e here about. turn at mark (what.Late op ∷ []) refl;
        breaks = λ at why h e n. turn at None (noticed why) (both (is_noticed_why why) true n refl);
        severed = λ at why h e. turn at None (what.Gone why ∷ []) refl;
        stalls = λ at h. turn at None (what.Stalled ∷ []) refl;
        flows = λ at h. turn at None (what.Flowing ∷ []) refl;
      }

ids_through : (s : Settings) (ms : List Marked) (p : ClientState) → HaveIds p → HaveIds (behind (step_client s) p ms)
ids_through s [] p h = h
ids_through s (m ∷ ms) p h = ids_through s ms (step_client s p m) (ids_kept s p m h)

placed_stays : (M b : List Entry) (e : Entry) (c : List Entry) → is_notice_placed e c ≡ true → is_notice_placed e (c ++ M) ≡ true
placed_stays M b e c h = implies_stays (is_notice e) (first_passes is_noticed c) (first_passes is_noticed (c ++ M)) (first_stays is_noticed c M) h

record Kept (before : List Marked) (p : ClientState) : Type 0 where
  ids : HaveIds p
  placed : Placed [] (entries before)

kept_more : (s : Settings) (c : ℕ) (before : List Marked) (p : ClientState) (x : Event) → Keeps s c before p → Kept before p → Kept (before ++ made (client_event s) p x) (behind (step_client s) p (made (client_event s) p x))
kept_more s c before p x h k =
    record {
      ids = ids_through s (made (client_event s) p x) p k.ids;
      placed = ap (each_split_from (λ b e r. is_notice_placed e r) []) (map-append (λ m. m.entry) before (made (client_event s) p x)) ∙ splits_grow (λ b e r. is_notice_placed e r) [] (entries before) (entries (made (client_event s) p x)) (placed_stays (entries (made (client_event s) p x))) k.placed (event_case s p (TurnPlaced s (entries before) p k.ids) (placed_cases s (entries before) p k.ids) x);
    }

pub client_notices : ClientNotices
client_notices s c xs = kept_always s c Kept (λ ms. Placed [] (entries ms)) (λ before p q. q.placed) (kept_more s c) (record { ids = refl; placed = refl }) xs
