-- Each Busy, and each Unavailable, for a live operation is told directly behind it, in each list of a client's turns.
use Rattle.std.proofs.Common.{◌≡◌, ℕ, Bool, true, false, ◌==◌, ◌&&◌, not, List, [], ◌∷◌, ◌++◌, length, refl, ap, ◌∙◌, sym}
use Rattle.std.specs.Prelude.{Option, Some, None, is_none, find, cond}
use Rattle.std.specs.List.{list_all}
use Rattle.std.proofs.lemmas.List.{map-append}
use Rattle.ldap_spec.specs.Messages.{Message}
use Rattle.ldap_spec.specs.Kinds.{kind_of}
use Rattle.lload_names.specs.declared.names.Entry.{Entry}
use Rattle.lload_names.specs.declared.names.OpName.{OpName}
use Rattle.lload_names.specs.declared.names.OpKind.{OpKind}
use Rattle.lload_names.specs.declared.names.Answer.{Answer}
use Rattle.lload_names.specs.declared.names.Answer.TheVariants.{Go, Busy, Unavailable}
use Rattle.lload_names.specs.declared.names.CancelAnswer.TheVariants.{S1}
use Rattle.lload_names.specs.declared.names.Refusal.{Refusal}
use Rattle.lload_names.specs.declared.names.Refusal.TheVariants.{C1, C3}
use Rattle.lload_names.specs.declared.names.PartName.TheVariants.{Client}
use Rattle.lload_names.specs.declared.names.Letter.TheVariants.{Choice, Reply, Failed}
use Rattle.lload_names.specs.declared.names.What.{What}
use Rattle.lload_names.specs.declared.names.What.TheVariants as what
use Rattle.lload_spec.specs.Lists.{passes, first_passes, implies, each_split_from}
use Rattle.lload_spec.specs.Settings.{Settings}
use Rattle.lload_spec.specs.Journal.{same_op, same_answer}
use Rattle.lload_spec.specs.Entries.{Named, chosen}
use Rattle.lload_spec.specs.Operations.{Operation, operations, live_operations, is_live, is_live_at}
use Rattle.lload_spec.specs.FirstCheck.{Check, Ends, Unbinds, Abandons, Refuses, Answers, Cancels, GoesOn}
use Rattle.lload_spec.specs.Caused.{is_refusal_of, is_live_choice, is_choice_told}
use Rattle.part_spec.specs.Marked.{Marked, Taken, entries}
use Rattle.part_spec.specs.Inputs.{entries_of}
use Rattle.part_spec.specs.ClientState.{ClientState, ClientRow, step_client, check_at, row_named}
use Rattle.part_spec.specs.ClientTurn.{refused, noticed, whats_by, whats_for}
use Rattle.part_spec.specs.Fit.{ledger_behind as behind}
use Rattle.lload_spec.proofs.Growth.{left, right, both}
use Rattle.lload_laws.specs.ClientGrowth.{is_named_within}
use Rattle.lload_laws.proofs.ClientGrowth.{own_names}
use Rattle.lload_laws.proofs.ListLaws.{implied, implies_by, all_imply, all_both, all_always, all-filter, found, found_passes}
use Rattle.part_laws.specs.Turns.{Event, made}
use Rattle.part_laws.proofs.ListLaws.{splits_grow, first_stays, implies_stays, same_op_sym, same_op_eq, same_number, eq_eqb, not_true, not_both}
use Rattle.client_laws.specs.Turns.{client_event, client_list}
use Rattle.client_laws.proofs.Matches.{Matches, ClientLives, is_apart, are_apart}
use Rattle.client_laws.proofs.ClientLate.{none_live}
use Rattle.client_laws.proofs.ClientChecks.{refusal_first}
use Rattle.client_laws.proofs.ClientTurns.{client_turn_of}
use Rattle.client_laws.proofs.ClientClauses.{Keeps, entries_marked}
use Rattle.client_share_laws.specs.Clauses.{ClientBusy, ClientUnavailable}
use Rattle.client_share_laws.proofs.Whats.{refused_all, canceled_all, choice_all}
use Rattle.client_share_laws.proofs.ClientCases.{Cases, taken, event_case}
use Rattle.client_share_laws.proofs.RowKinds.{has_kind, event_kinds}
use Rattle.client_share_laws.proofs.OperationNames.{live_by_name}
use Rattle.client_share_laws.proofs.ClientKept.{kept_always}

-- What holds of the row of a name holds of the live operations of this name: there is one.
module _ (F : ℕ → Option OpKind → Bool) (n : ℕ) (op : OpName) where
  abbrev so_named : Operation → Bool
  so_named o = implies (same_op op o.name) (F o.request.id (kind_of o.request.rest))

  others_named : (rows : List ClientRow) (os : List Operation) → Matches rows os → list_all (λ r. not (r.k == op.k)) rows ≡ true → list_all so_named os ≡ true
  others_named [] [] m h = refl
  others_named (r ∷ rows) (o ∷ os) m h = both (so_named o) _ (implies_by (same_op op o.name) _ (λ j. not_both (r.k == op.k) (eq_eqb r.k op.k (m.0.k ∙ sym (same_number op.k o.name.k (right (op.client == o.name.client) _ j)))) (not_true (r.k == op.k) (left (not (r.k == op.k)) _ h)))) (others_named rows os m.1 (right (not (r.k == op.k)) _ h))
  others_named [] (o ∷ os) m h = absurd m
  others_named (r ∷ rows) [] m h = absurd m

  abbrev is_it : ClientRow → Bool
  is_it r = n == op.client && r.k == op.k

  named_so : (rows : List ClientRow) (os : List Operation) (q : ClientRow) → (n == op.client) ≡ true → are_apart rows ≡ true → Matches rows os → find is_it rows ≡ Some q → F q.request.id (kind_of q.request.rest) ≡ true → list_all so_named os ≡ true
  named_so [] [] q c a m f h = refl
  named_so (r ∷ rows) (o ∷ os) q c a m f h = by (is_it r) refl f (λ g. named_so rows os q c (right (list_all (is_apart r) rows) _ a) m.1 g h)
    where
      by : (b : Bool) → is_it r ≡ b → cond b (Some r) (find is_it rows) ≡ Some q → (find is_it rows ≡ Some q → list_all so_named os ≡ true) → list_all so_named (o ∷ os) ≡ true
      by true e g ih =
          let same : r ≡ q = cc in
          let k : r.k ≡ op.k = same_number r.k op.k (right (n == op.client) _ e) in
          both (so_named o) _ (implies_by (same_op op o.name) _ (λ j. ap (λ i. F i (kind_of o.request.rest)) (sym m.0.id) ∙ ap (F r.request.id) (sym m.0.kind) ∙ ap (λ (x : ClientRow). F x.request.id (kind_of x.request.rest)) same ∙ h)) (others_named rows os m.1 (all_imply (is_apart r) (λ x. not (x.k == op.k)) rows (λ x j. ap not (by_number x.k (r.k == x.k) refl (not_true (r.k == x.k) (left (not (r.k == x.k)) _ j)) k)) (left (list_all (is_apart r) rows) _ a)))
        where
          by_number : (i : ℕ) (b : Bool) → (r.k == i) ≡ b → (r.k == i) ≡ false → r.k ≡ op.k → (i == op.k) ≡ false
          by_number i b e' other k = go (i == op.k) refl
            where
              go : (d : Bool) → (i == op.k) ≡ d → d ≡ false
              go true y = not_both (r.k == i) (eq_eqb r.k i (k ∙ sym (same_number i op.k y))) other
              go false y = refl
      by false e g ih = both (so_named o) _ (implies_by (same_op op o.name) _ (λ j. not_both (is_it r) (both (n == op.client) _ c (eq_eqb r.k op.k (m.0.k ∙ sym (same_number op.k o.name.k (right (op.client == o.name.client) _ j))))) e)) (ih g)
  named_so [] (o ∷ os) q c a m f h = absurd m
  named_so (r ∷ rows) [] q c a m f h = absurd m

-- entries that are no choice
abbrev is_unchosen : What → Bool
is_unchosen w = is_none (chosen w)

check_unchosen : (m : Message) (k : Check) → list_all is_unchosen (whats_by m k) ≡ true
check_unchosen m (Ends why) = refl
check_unchosen m Unbinds = refl
check_unchosen m (Abandons id) = refl
check_unchosen m (Refuses which) = refused_all is_unchosen (λ id rest. refl) m which
check_unchosen m (Answers which) = canceled_all is_unchosen (λ id rest. refl) m.id (kind_of m.rest) which
check_unchosen m (Cancels id kind) = canceled_all is_unchosen (λ id rest. refl) m.id (kind_of m.rest) S1
check_unchosen m GoesOn = refl

-- One answer, and the refusal that tells it.
module _ (c : ℕ) (answer : Answer) (which : Refusal) (tells : (r : ClientRow) (a : Answer) → same_answer answer a ≡ true → whats_for (Some r) a ≡ refused r.request which) where
  abbrev Told : List Entry → List Entry → Type 0
  Told place es = each_split_from (is_choice_told c answer which) place es ≡ true

  -- what is said stays with more behind
  told_stays : (M place : List Entry) (e : Entry) (es : List Entry) → is_choice_told c answer which place e es ≡ true → is_choice_told c answer which place e (es ++ M) ≡ true
  told_stays M place e es h = all_imply (λ o. implies (is_live_choice answer o place e) (first_passes (is_refusal_of which o.request.id (kind_of o.request.rest)) es)) (λ o. implies (is_live_choice answer o place e) (first_passes (is_refusal_of which o.request.id (kind_of o.request.rest)) (es ++ M))) (operations c place) (λ o j. implies_stays (is_live_choice answer o place e) _ _ (first_stays (is_refusal_of which o.request.id (kind_of o.request.rest)) es M) j) h

  none_told : (place : List Entry) (e : Entry) (es : List Entry) → is_unchosen e.what ≡ true → is_choice_told c answer which place e es ≡ true
  none_told place e es h = all_always (λ o. implies (is_live_choice answer o place e) (first_passes (is_refusal_of which o.request.id (kind_of o.request.rest)) es)) (operations c place) (λ o. by (chosen e.what) o h)
    where
      by : (x : Option (Named Answer)) (o : Operation) → is_none x ≡ true → implies (passes (λ y. same_op o.name y.op && same_answer answer y.value) x && is_live_at o.name.client place o.name) (first_passes (is_refusal_of which o.request.id (kind_of o.request.rest)) es) ≡ true
      by None o k = refl
      by (Some y) o k = absurd (let bad : false ≡ true = k in cc)

  told_none : (u at : ℕ) (ws : List What) (place : List Entry) → list_all is_unchosen ws ≡ true → Told place (entries_of (Client u) at ws)
  told_none u at [] place h = refl
  told_none u at (w ∷ ws) place h =
      let e : Entry = record { part = Client u; at = at; what = w } in
      both (is_choice_told c answer which place e (entries_of (Client u) at ws)) _ (none_told place e (entries_of (Client u) at ws) (left (is_unchosen w) _ h)) (told_none u at ws (place ++ e ∷ []) (right (is_unchosen w) _ h))

  module _ (s : Settings) (place : List Entry) (p : ClientState) (lives : ClientLives c place p) (number : p.number ≡ c) (kinds : list_all has_kind p.rows ≡ true) where
    -- of the operation of a name that is live, the client is told
    module _ (at : ℕ) (op : OpName) (a : Answer) where
      abbrev first : Entry
      first = record { part = Client p.number; at = at; what = what.Chosen op a }

      abbrev told_of : List Entry → Operation → Bool
      told_of es o = first_passes (is_refusal_of which o.request.id (kind_of o.request.rest)) es

      row_told : (r : ClientRow) → row_named p op ≡ Some r → list_all (λ o. implies (is_live o) (implies (same_op op o.name) (told_of (entries_of (Client p.number) at (refused r.request which)) o))) (operations c place) ≡ true
      row_told r e = sym (all-filter (λ o. implies (same_op op o.name) (told_of (entries_of (Client p.number) at (refused r.request which)) o)) is_live (operations c place)) ∙ named_so (λ id kind. first_passes (is_refusal_of which id kind) (entries_of (Client p.number) at (refused r.request which))) p.number op p.rows (live_operations c place) r (left (p.number == op.client) _ (found_passes (λ x. p.number == op.client && x.k == op.k) p.rows r e)) lives.apart lives.rows e (refusal_first p.number at r.request which (kind_of r.request.rest) (found has_kind (λ x. p.number == op.client && x.k == op.k) p.rows r e kinds))

      abbrev own : Operation → Bool
      own o = is_named_within c (length (operations c place)) o

      known : list_all (λ o. is_named_within c (length (operations c place)) o && implies (is_live_at c place o.name) (is_live o)) (operations c place) ≡ true
      known = all_both (is_named_within c (length (operations c place))) (λ o. implies (is_live_at c place o.name) (is_live o)) (operations c place) (own_names c place) (live_by_name c place)

      own_client : (o : Operation) → is_named_within c (length (operations c place)) o ≡ true → o.name.client ≡ c
      own_client o k = same_number o.name.client c (left (o.name.client == c) _ (left _ _ k))

      chosen_told : is_choice_told c answer which place first (entries_of (Client p.number) at (whats_for (row_named p op) a)) ≡ true
      chosen_told = by (row_named p op) refl
        where
          Goal : Option ClientRow → Type 0
          Goal x = list_all (λ o. implies (is_live_choice answer o place first) (told_of (entries_of (Client p.number) at (whats_for x a)) o)) (operations c place) ≡ true

          by : (x : Option ClientRow) → row_named p op ≡ x → Goal x
          by None e = all_imply (λ o. is_named_within c (length (operations c place)) o && implies (is_live_at c place o.name) (is_live o)) (λ o. implies (is_live_choice answer o place first) (told_of (entries_of (Client p.number) at (whats_for None a)) o)) (operations c place) (λ o j. implies_by (is_live_choice answer o place first) _ (λ k.
              let same : o.name ≡ op = same_op_eq o.name op (left (same_op o.name op) _ (left (same_op o.name op && same_answer answer a) _ k)) in
              let live : is_live_at c place op ≡ true = ap (λ n. is_live_at n place op) (sym (own_client o (left (own o) _ j))) ∙ ap (λ n. is_live_at o.name.client place n) (sym same) ∙ right (same_op o.name op && same_answer answer a) _ k in
              not_both (is_live_at c place op) live (none_live c place p op lives number e))) known
          by (Some r) e = all_imply (λ o. (is_named_within c (length (operations c place)) o && implies (is_live_at c place o.name) (is_live o)) && implies (is_live o) (implies (same_op op o.name) (told_of (entries_of (Client p.number) at (refused r.request which)) o))) (λ o. implies (is_live_choice answer o place first) (told_of (entries_of (Client p.number) at (whats_for (Some r) a)) o)) (operations c place) (λ o j. implies_by (is_live_choice answer o place first) _ (λ k.
              let facts : (own o && implies (is_live_at c place o.name) (is_live o)) ≡ true = left (own o && implies (is_live_at c place o.name) (is_live o)) _ j in
              let named : same_op o.name op ≡ true = left (same_op o.name op) _ (left (same_op o.name op && same_answer answer a) _ k) in
              let answers : same_answer answer a ≡ true = right (same_op o.name op) _ (left (same_op o.name op && same_answer answer a) _ k) in
              let live : is_live o ≡ true = implied (is_live_at c place o.name) (is_live o) (right (own o) _ facts) (ap (λ n. is_live_at n place o.name) (sym (own_client o (left (own o) _ facts))) ∙ right (same_op o.name op && same_answer answer a) _ k) in
              ap (λ ws. told_of (entries_of (Client p.number) at ws) o) (tells r a answers) ∙ implied (same_op op o.name) _ (implied (is_live o) _ (right (own o && implies (is_live_at c place o.name) (is_live o)) _ j) live) (same_op_sym op o.name ∙ named))) (all_both (λ o. is_named_within c (length (operations c place)) o && implies (is_live_at c place o.name) (is_live o)) (λ o. implies (is_live o) (implies (same_op op o.name) (told_of (entries_of (Client p.number) at (refused r.request which)) o))) (operations c place) known (row_told r e))

    -- a turn
    abbrev TurnTold : List Marked → Type 0
    TurnTold ms = Told place (entries ms)

    plain : (at : ℕ) (mark : Option Taken) (ws : List What) → list_all is_unchosen ws ≡ true → TurnTold (client_turn_of p.number at mark ws)
    plain at mark ws h = ap (each_split_from (is_choice_told c answer which) place) (entries_marked mark (entries_of (Client p.number) at ws)) ∙ told_none p.number at ws place h

    told_cases : Cases s p TurnTold
    told_cases =
        record {
          none = refl;
          arrives = λ at fresh. plain at None (what.Arrived ∷ []) refl;
          checked = λ at m e f. plain at None (what.In m.id m.rest ∷ whats_by m (check_at s p m)) (check_unchosen m (check_at s p m));
          chosen = λ at sender op a here. ap (each_split_from (is_choice_told c answer which) place) (entries_marked (taken sender (Choice op a)) (entries_of (Client p.number) at (what.Chosen op a ∷ whats_for (row_named p op) a))) ∙ both (is_choice_told c answer which place (record { part = Client p.number; at = at; what = what.Chosen op a }) (entries_of (Client p.number) at (whats_for (row_named p op) a))) _ (chosen_told at op a) (told_none p.number at (whats_for (row_named p op) a) (place ++ record { part = Client p.number; at = at; what = what.Chosen op a } ∷ []) (choice_all is_unchosen (λ id rest. refl) (row_named p op) a));
          answered = λ at sender op rest is_last who r e here. plain at (taken sender (Reply op rest is_last who)) (what.Out r.request.id rest ∷ []) refl;
          failed = λ at sender op why r e here. plain at (taken sender (Failed op why)) (refused r.request why) (refused_all is_unchosen (λ id rest. refl) r.request why);
          late = λ at mark op e here about. plain at mark (what.Late op ∷ []) refl;
          breaks = λ at why there e n. plain at None (noticed why) refl;
          severed = λ at why here e. plain at None (what.Gone why ∷ []) refl;
          stalls = λ at here. plain at None (what.Stalled ∷ []) refl;
          flows = λ at here. plain at None (what.Flowing ∷ []) refl;
        }

  -- what is kept behind each turn
  record Kept (before : List Marked) (p : ClientState) : Type 0 where
    kinds : list_all has_kind p.rows ≡ true
    told : Told [] (entries before)

  kept_more : (s : Settings) (before : List Marked) (p : ClientState) (x : Event) → Keeps s c before p → Kept before p → Kept (before ++ made (client_event s) p x) (behind (step_client s) p (made (client_event s) p x))
  kept_more s before p x h k =
      record {
        kinds = event_kinds s p k.kinds x;
        told = ap (each_split_from (is_choice_told c answer which) []) (map-append (λ m. m.entry) before (made (client_event s) p x)) ∙ splits_grow (is_choice_told c answer which) [] (entries before) (entries (made (client_event s) p x)) (told_stays (entries (made (client_event s) p x))) k.told (event_case s p (TurnTold s (entries before) p h.lives h.says.number k.kinds) (told_cases s (entries before) p h.lives h.says.number k.kinds) x);
      }

  list_told : (s : Settings) (xs : List Event) → Told [] (entries (client_list s c xs))
  list_told s xs = kept_always s c Kept (λ ms. Told [] (entries ms)) (λ before p q. q.told) (kept_more s) (record { kinds = refl; told = refl }) xs

busy_tells : (r : ClientRow) (a : Answer) → same_answer Busy a ≡ true → whats_for (Some r) a ≡ refused r.request C1
busy_tells r (Go u b) h = absurd (let bad : false ≡ true = h in cc)
busy_tells r Busy h = refl
busy_tells r Unavailable h = absurd (let bad : false ≡ true = h in cc)

unavailable_tells : (r : ClientRow) (a : Answer) → same_answer Unavailable a ≡ true → whats_for (Some r) a ≡ refused r.request C3
unavailable_tells r (Go u b) h = absurd (let bad : false ≡ true = h in cc)
unavailable_tells r Busy h = absurd (let bad : false ≡ true = h in cc)
unavailable_tells r Unavailable h = refl

pub client_busy : ClientBusy
client_busy s c xs = list_told c Busy C1 busy_tells s xs

pub client_unavailable : ClientUnavailable
client_unavailable s c xs = list_told c Unavailable C3 unavailable_tells s xs
