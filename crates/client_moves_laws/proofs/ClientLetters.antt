-- A client takes a letter: its choice, with the pause behind its Forward, or an answer.
use Rattle.std.proofs.Common.{◌≡◌, ℕ, suc, ◌<◌, Bool, true, false, ◌==◌, ◌&&◌, ◌||◌, not, if◌then◌else◌, List, [], ◌∷◌, ◌++◌, Option, Some, None, refl, ap, ◌∙◌, sym, subst, inl, inr, arith, append-nil}
use Rattle.std.specs.List.{list_any, list_all}
use Rattle.std.proofs.lemmas.Bool.{cases_lt, eqb-true}
use Rattle.ldap_spec.specs.Messages.{Message}
use Rattle.ldap_spec.specs.Bodies.{refusal}
use Rattle.ldap_spec.specs.Kinds.{kind_of}
use Rattle.lload_names.specs.declared.names.Answer.{Answer}
use Rattle.lload_names.specs.declared.names.Answer.TheVariants.{Go, Busy, Unavailable}
use Rattle.lload_names.specs.declared.names.OpKind.{OpKind}
use Rattle.lload_names.specs.declared.names.Refusal.{Refusal}
use Rattle.lload_names.specs.declared.names.Refusal.TheVariants.{C1, C3}
use Rattle.lload_names.specs.declared.names.PartName.TheVariants.{Client as ClientPart, Up as Connection}
use Rattle.lload_names.specs.declared.names.Posted.{Posted}
use Rattle.lload_names.specs.declared.names.What.TheVariants as what
use Rattle.lload_spec.specs.Lists.{put_number}
use Rattle.lload_spec.specs.Pauses.{Pausing, pauses_behind}
use Rattle.lload_spec.specs.Settings.{Settings}
use Rattle.part_spec.specs.Inputs.{act}
use Rattle.part_spec.specs.Marked.{Taken, letters_to}
use Rattle.part_spec.specs.ClientState.{ClientState, ClientRow, is_bind_row, row_named}
use Rattle.part_spec.specs.ClientTurn.{forward, letters_for, pause_at, refused, whats_for}
use Rattle.part_spec.specs.Fit.{ClientLedger, going_to, step_client_ledger}
use Rattle.move_laws.specs.World.{World, Kinds, Client, ToDesk, ToChooser, ToConn, ToClient, at, put, some_at}
use Rattle.move_laws.specs.World as machine
use Rattle.move_laws.specs.Clients.{choice_row}
use Rattle.move_laws.specs.Counts.{num}
use Rattle.move_laws.specs.AgreeBinds.{Holds}
use Rattle.move_laws.specs.Fit.{FitChoice}
use Rattle.move_laws.proofs.Fits.{num_false}
use Rattle.move_laws.proofs.Laws.{all_fit}
use Rattle.stands_laws.specs.Lists.{Pairs, Each}
use Rattle.stands_laws.specs.Books.{Book, is_bind_op, name}
use Rattle.stands_laws.specs.Letters.{OrderIs}
use Rattle.stands_laws.specs.ClientSides.{ClientSide, ClientMove, Choosing}
use Rattle.stands_laws.specs.ClientStands.{kinds_of, row_of, serves, ClientStands, ClientPauses, ClientIs}
use Rattle.stands_laws.specs.Follows.{ClientActs, client_behind, client_ledger_behind}
use Rattle.lload_spec.proofs.Growth.{both}
use Rattle.stands_laws.proofs.Tests.{same_self}
use Rattle.client_moves_laws.proofs.Lists.{among_put, rises_put}
use Rattle.client_moves_laws.proofs.Makes.{Makes, makes_more}
use Rattle.client_moves_laws.proofs.Signals.{signals, signal_letters, put_all, put_all_at, may_be, signals_row, signals_asks, signals_orders, no_signals}
use Rattle.client_moves_laws.proofs.ClientStays.{arrived_stays, pauses_none, pausing_stays}
use Rattle.client_moves_laws.proofs.ClientTakes.{Chosen, chosen_behind, chosen_ledger, chosen_mark, desk_choice, row_found}
use Rattle.client_moves_laws.proofs.ClientChoices.{choice_acts, choice_by, choosing}
use Rattle.client_moves_laws.proofs.ClientComes.{none_given}

-- what the invariant says of a choice that waits first
pub open_at : (kinds : Kinds) (w : World) (c k u : ℕ) → Holds kinds w → (w.clients c).given k ≡ None → (w.clients c).closed k u ≡ false
open_at kinds w c k u h none =
    let r = (h.routed c k u).routed in
    let one = r.one in
    let sent = r.sent in
    let told = r.told in
    let nothing : num (at ((w.clients c).given k) u) ≡ 0 = ap (λ (o : Option ℕ). num (at o u)) none in
    num_false ((w.clients c).closed k u) (omega arith)

pub chosen_of : (kinds : Kinds) (w : World) (c k : ℕ) (o : Option ℕ) (ls : List ToChooser) → Holds kinds w → w.choices c ≡ machine.Choice k o ∷ ls → Chosen (w.clients c) k × (k < (w.clients c).next)
chosen_of kinds w c k o ls h e =
    let f : FitChoice kinds c (w.clients c) (machine.Choice k o ∷ ls) = rw e at ((all_fit kinds w h).choice c) in
    let x = w.clients c in
    let a = h.asking c k in
    let asked : num (x.asked k) ≡ 1 = ap num f.0 in
    let chosen : num (x.chosen k) ≡ 0 = ap num f.1 in
    let late = a.late in
    let given : x.given k ≡ None = none_given (x.given k) (num_false (some_at (x.given k)) (omega arith)) in
    let below : k < x.next = elim (cases_lt k x.next) [ inl l ↦ l | inr l ↦ let z = a.fresh l in absurd (omega arith) ] in
    (record { asked = f.0; chosen = f.1; given = given; open_at = λ v. open_at kinds w c k v h given }, below)

-- the connection that a choice names is of the operation's kind
pub kind_of_choice : (s : Settings) (b : Book) (w : World) (c k u : ℕ) (o : Option ℕ) (ls : List ToChooser) → Holds (kinds_of s b) w → w.choices c ≡ machine.Choice k o ∷ ls → at o u ≡ true → serves s u ≡ is_bind_op b c k
kind_of_choice s b w c k u o ls h e i = let f : FitChoice (kinds_of s b) c (w.clients c) (machine.Choice k o ∷ ls) = rw e at ((all_fit (kinds_of s b) w h).choice c) in f.2 u i

-- The pause behind a Forward.
abbrev pub pause_moves : Bool → ℕ → ℕ → List ClientMove
pause_moves true k u = signals (λ _. k) (u ∷ [])
pause_moves false k u = []

abbrev pub pauses_for : ClientState → Option ClientRow → Answer → Bool
pauses_for p (Some r) (Go u n) = not (is_bind_row r) && pauses_behind p.pausing u
pauses_for p _ _ = false

-- which connection
abbrev pub pause_to : Answer → ℕ
pause_to (Go u n) = u
pause_to _ = 0

abbrev pub choosing_moves : ClientState → ℕ → Option ClientRow → Answer → List ClientMove
choosing_moves p k o answer = Choosing ∷ pause_moves (pauses_for p o answer) k (pause_to answer)

pause_letters_are : (p : ClientState) (r : ClientRow) (u : ℕ) → pause_at p r u ≡ (if not (is_bind_row r) && pauses_behind p.pausing u then signal_letters p.number true (u ∷ []) else [])
pause_letters_are p r u = go (is_bind_row r) (pauses_behind p.pausing u)
  where
    go : (d t : Bool) → (elim d [ true ↦ [] | false ↦ elim t [ true ↦ signal_letters p.number true (u ∷ []) | false ↦ [] ] ]) ≡ (if not d && t then signal_letters p.number true (u ∷ []) else [])
    go true t = refl
    go false true = refl
    go false false = refl

-- a stalled client pauses a connection that isn't paused yet
pauses_fresh : (q : Pausing) (u : ℕ) → pauses_behind q u ≡ true → (q.stalled ≡ true) × (list_any (λ n. n == u) q.paused ≡ false)
pauses_fresh q u e = go q.stalled (list_any (λ n. n == u) q.paused) refl refl e
  where
    go : (t r : Bool) → q.stalled ≡ t → list_any (λ n. n == u) q.paused ≡ r → (t && not r) ≡ true → (q.stalled ≡ true) × (list_any (λ n. n == u) q.paused ≡ false)
    go true false i j f = (i, j)
    go true true i j f = absurd (let bad : false ≡ true = f in cc)
    go false r i j f = absurd (let bad : false ≡ true = f in cc)

-- the pauses behind a choice
pauses_put : (s : Settings) (q : Pausing) (x z : Client) (u : ℕ) → ClientPauses s q x → serves s u ≡ false → q.stalled ≡ true → ((v : ℕ) → z.paused v ≡ (if (u == v) || false then true else x.paused v)) → ClientPauses s (record { stalled = q.stalled; paused = put_number u q.paused }) z
pauses_put s q x z u h plain stalled e = record {
  paused = λ v. among_put u v q.paused ∙ (ap (λ (t : Bool). (u == v) || t) (h.paused v) ∙ (or_if (u == v) (x.paused v) ∙ sym (e v)));
  plain = λ v p. at_one v (u == v) refl (sym (e v) ∙ p);
  once = rises_put u q.paused h.once;
  stalled = λ f. absurd (let bad : true ≡ false = sym stalled ∙ f in cc);
}
  where
    or_if : (t o : Bool) → (t || o) ≡ (if t || false then true else o)
    or_if true o = refl
    or_if false o = refl

    at_one : (v : ℕ) (t : Bool) → (u == v) ≡ t → (if (u == v) || false then true else x.paused v) ≡ true → serves s v ≡ false
    at_one v true i p = ap (serves s) (sym (eqb-true u v i)) ∙ plain
    at_one v false i p = h.plain v (sym (ap (λ (t : Bool). if t || false then true else x.paused v) i) ∙ p)

-- pauses that nothing changes
pub pauses_same : (s : Settings) (q : Pausing) (x z : Client) → z.paused ≡ x.paused → ClientPauses s q x → ClientPauses s q z
pauses_same s q x z e h = record {
  paused = λ u. h.paused u ∙ sym (ap (λ (f : ℕ → Bool). f u) e);
  plain = λ u p. h.plain u (sym (ap (λ (f : ℕ → Bool). f u) e) ∙ p);
  once = h.once;
  stalled = h.stalled;
}

-- A choice.
given_now : (s : Settings) (b : Book) (c k u : ℕ) (l : ClientLedger) (x : Client) → ClientStands s b c l x → x.live k ≡ true → at ((choice_row (x.live k) (is_bind_op b c k) k (Some u) x).given k) u ≡ true
given_now s b c k u l x h live = ap (λ (t : Bool). at ((choice_row t (is_bind_op b c k) k (Some u) x).given k) u) live ∙ (ap (λ (t : Bool). at (if t then Some u else x.given k) u) (same_self k) ∙ same_self u)

choice_asked : (t d : Bool) (k : ℕ) (o : Option ℕ) (x : Client) → ((choice_row t d k o x).asked ≡ x.asked) × ((choice_row t d k o x).paused ≡ x.paused)
choice_asked false d k o x = (refl, refl)
choice_asked true d k None x = (refl, refl)
choice_asked true d k (Some u) x = (refl, refl)

pub arrived_by : (s : Settings) (b : Book) (c k : ℕ) (l : ClientLedger) (x : Client) → ClientStands s b c l x → k < x.next → l.state.arrived ≡ true
arrived_by s b c k l x h below = go l.state.arrived refl
  where
    go : (t : Bool) → l.state.arrived ≡ t → t ≡ true
    go true e = refl
    go false e = let zero : x.next ≡ 0 = h.next ∙ ap (λ (q : Bool). if q then suc l.state.count else 0) e in absurd (omega arith)

refused_pauses : (m : Message) (which : Refusal) → list_all pauses_none (refused m which) ≡ true
refused_pauses m which = go (kind_of m.rest)
  where
    go : (o : Option OpKind) → list_all pauses_none (elim o [ None ↦ [] | Some kind ↦ what.Out m.id (refusal kind which) ∷ [] ]) ≡ true
    go None = refl
    go (Some kind) = refl

module _ (s : Settings) (b : Book) (c k now : ℕ) (l : ClientLedger) (x : Client) (qa : List ToDesk) (qo : ℕ → List ToConn) (qc : List ToChooser) (qr : ℕ → List ToClient) (h : ClientIs s b c l x) (f : Chosen x k) (below : k < x.next) where
  abbrev side : Answer → ClientSide
  side answer = choosing x qa qo k (going_to answer) qc qr

  abbrev Result : Answer → Option ClientRow → Type 0
  Result answer o = ClientActs s b c now (desk_choice (name c k) answer) l (act (what.Chosen (name c k) answer ∷ whats_for o answer) (letters_for s l.state (name c k) o answer)) (side answer) (choosing_moves l.state k o answer)

  abbrev Plain : Answer → Option ClientRow → Type 0
  Plain answer o = Makes s b c now (desk_choice (name c k) answer) l (choice_by s l.state (name c k) answer o) (side answer) (Choosing ∷ [])

  pin : b.pinned c k ≡ false
  pin = h.heads k f.asked

  plain_made : (answer : Answer) (o : Option ClientRow) → row_named l.state (name c k) ≡ o → Plain answer o
  plain_made answer o e = subst (Plain answer) e (choice_acts s b c k now answer l x qa qo qc qr h.stands f below pin)

  -- where pauses are as they were
  still : (answer : Answer) (o : Option ClientRow) (letters : List Posted) → Makes s b c now (desk_choice (name c k) answer) l (act (what.Chosen (name c k) answer ∷ whats_for o answer) letters) (side answer) (Choosing ∷ [])
      → (client_ledger_behind s now (desk_choice (name c k) answer) l (act (what.Chosen (name c k) answer ∷ whats_for o answer) letters)).state.pausing ≡ l.state.pausing
      → ClientActs s b c now (desk_choice (name c k) answer) l (act (what.Chosen (name c k) answer ∷ whats_for o answer) letters) (side answer) (Choosing ∷ [])
  still answer o letters m e =
      let row = choice_asked (x.live k) (is_bind_op b c k) k (going_to answer) x in
      record {
        is = record {
          stands = m.stands;
          heads = λ j q. h.heads j (sym (ap (λ (g : ℕ → Bool). g j) row.0) ∙ q);
          pauses = subst (λ (q : Pausing). ClientPauses s q (choice_row (x.live k) (is_bind_op b c k) k (going_to answer) x)) (sym e) (pauses_same s l.state.pausing x (choice_row (x.live k) (is_bind_op b c k) k (going_to answer) x) row.1 h.pauses);
          waits = λ q. absurd (let bad : true ≡ false = sym (arrived_stays s now (desk_choice (name c k) answer) l (what.Chosen (name c k) answer ∷ whats_for o answer) letters (arrived_by s b c k l x h.stands below)) ∙ q in cc);
        };
        asks = m.asks;
        orders = m.orders;
      }

  late : (answer : Answer) → row_named l.state (name c k) ≡ None → Result answer None
  late (Go u n) e = still (Go u n) None (letters_for s l.state (name c k) None (Go u n)) (plain_made (Go u n) None e) (ap (λ (z : ClientLedger). z.state.pausing) (chosen_behind s (ClientPart l.state.number) now (name c k) (Go u n) (desk_choice (name c k) (Go u n)) l None e))
  late Busy e = still Busy None [] (plain_made Busy None e) refl
  late Unavailable e = still Unavailable None [] (plain_made Unavailable None e) refl

  abbrev row : ClientRow
  row = row_of b c x k

  goes : (u n : ℕ) → x.live k ≡ true → row_named l.state (name c k) ≡ Some (row_of b c x k) → serves s u ≡ is_bind_op b c k → Result (Go u n) (Some (row_of b c x k))
  goes u n live e kind = by (is_bind_op b c k) (pauses_behind l.state.pausing u) refl refl
    where
      mark : Option Taken
      mark = desk_choice (name c k) (Go u n)

      first : List Posted
      first = forward s l.state (row_of b c x k) (name c k) u

      plain : Makes s b c now (desk_choice (name c k) (Go u n)) l (act (what.Chosen (name c k) (Go u n) ∷ []) (forward s l.state (row_of b c x k) (name c k) u)) (side (Go u n)) (Choosing ∷ [])
      plain = plain_made (Go u n) (Some (row_of b c x k)) e

      behind : step_client_ledger s l (chosen_mark (ClientPart l.state.number) now (name c k) (Go u n) (desk_choice (name c k) (Go u n))) ≡ chosen_ledger (Some (row_of b c x k)) now (name c k) (Go u n) (desk_choice (name c k) (Go u n)) l
      behind = chosen_behind s (ClientPart l.state.number) now (name c k) (Go u n) (desk_choice (name c k) (Go u n)) l (Some (row_of b c x k)) e

      pausing_by : Bool → Bool → Pausing
      pausing_by d t = elim d [ true ↦ l.state.pausing | false ↦ elim t [ true ↦ record l.state.pausing { paused = put_number u l.state.pausing.paused } | false ↦ l.state.pausing ] ]

      pausing_is : (d t : Bool) → is_bind_op b c k ≡ d → pauses_behind l.state.pausing u ≡ t → (step_client_ledger s l (chosen_mark (ClientPart l.state.number) now (name c k) (Go u n) (desk_choice (name c k) (Go u n)))).state.pausing ≡ pausing_by d t
      pausing_is d t i j = ap (λ (z : ClientLedger). z.state.pausing) behind ∙ (λ q. pausing_by (i q) (j q))

      letters_with : Bool → List Posted
      letters_with t = forward s l.state (row_of b c x k) (name c k) u ++ (if t then signal_letters l.state.number true (u ∷ []) else [])

      Made : Bool → List Posted → Type 0
      Made t letters = ClientActs s b c now (desk_choice (name c k) (Go u n)) l (act (what.Chosen (name c k) (Go u n) ∷ []) letters) (side (Go u n)) (Choosing ∷ pause_moves t k u)

      to_result : (d t : Bool) → is_bind_op b c k ≡ d → pauses_behind l.state.pausing u ≡ t → Made (not d && t) (letters_with (not d && t)) → Result (Go u n) (Some (row_of b c x k))
      to_result d t i j m =
          subst (λ (q : Bool). Made q (letters_for s l.state (name c k) (Some (row_of b c x k)) (Go u n))) (sym (λ q. not (i q) && j q))
          (subst (Made (not d && t)) (sym (ap (λ (r : List Posted). forward s l.state (row_of b c x k) (name c k) u ++ r) (pause_letters_are l.state (row_of b c x k) u ∙ (λ q. if not (i q) && j q then signal_letters l.state.number true (u ∷ []) else [])))) m)

      quiet : (step_client_ledger s l (chosen_mark (ClientPart l.state.number) now (name c k) (Go u n) (desk_choice (name c k) (Go u n)))).state.pausing ≡ l.state.pausing → Made false (letters_with false)
      quiet q = subst (Made false) (sym (append-nil (forward s l.state (row_of b c x k) (name c k) u))) (still (Go u n) (Some (row_of b c x k)) (forward s l.state (row_of b c x k) (name c k) u) plain q)

      y1 : ClientSide
      y1 = client_behind s b c (side (Go u n)) (Choosing ∷ [])

      signaled : is_bind_op b c k ≡ false → pauses_behind l.state.pausing u ≡ true → Made true (letters_with true)
      signaled i j =
          let fresh = pauses_fresh l.state.pausing u j in
          let row1 = choice_asked (x.live k) (is_bind_op b c k) k (Some u) x in
          let serve : serves s u ≡ false = kind ∙ i in
          let unpaused : y1.row.paused u ≡ false = ap (λ (g : ℕ → Bool). g u) row1.1 ∙ (sym (h.pauses.paused u) ∙ fresh.1) in
          let given : at (y1.row.given k) u ≡ true = given_now s b c k u l x h.stands live in
          let may : Each (λ v. may_be s (λ _. k) false y1.row v ≡ true) (u ∷ []) = ((λ q. not (serve q) && given q), tt) in
          let rows = signals_row s b c (λ _. k) false (u ∷ []) y1 (tt, tt) (unpaused, tt) may in
          let letters : signal_letters l.state.number true (u ∷ []) ≡ signal_letters c true (u ∷ []) = ap (λ (m : ℕ). signal_letters m true (u ∷ [])) h.stands.number in
          let made = makes_more s b c now mark l (what.Chosen (name c k) (Go u n) ∷ []) first (signal_letters l.state.number true (u ∷ [])) (side (Go u n)) (Choosing ∷ []) (signals (λ _. k) (u ∷ [])) (put_all (u ∷ []) true y1.row.paused) plain
          rows
          (signals_asks s b c (λ _. k) false (u ∷ []) y1)
          (no_signals l.state.number true (u ∷ []))
          (λ v q p. subst (λ (r : List Posted). Pairs (OrderIs s b c) (q ++ letters_to (Connection v) r) ((client_behind s b c y1 (signals (λ _. k) (u ∷ []))).orders v)) (sym letters) (signals_orders s b c (λ _. k) false (u ∷ []) y1 v q (tt, tt) (unpaused, tt) may p)) in
          record {
            is = record {
              stands = made.stands;
              heads = λ g q. h.heads g (sym (ap (λ (z : Client). z.asked g) rows ∙ ap (λ (z : ℕ → Bool). z g) row1.0) ∙ q);
              pauses = subst (λ (q : Pausing). ClientPauses s q (client_behind s b c y1 (signals (λ _. k) (u ∷ []))).row) (sym (pausing_is false true i j))
                  (pauses_put s l.state.pausing x (client_behind s b c y1 (signals (λ _. k) (u ∷ []))).row u h.pauses serve fresh.0
                  (λ v. ap (λ (z : Client). z.paused v) rows ∙ (put_all_at (u ∷ []) true y1.row.paused v ∙ ap (λ (g : ℕ → Bool). if (u == v) || false then true else g v) row1.1)));
              waits = λ q. absurd (let bad : true ≡ false = sym (arrived_stays s now mark l (what.Chosen (name c k) (Go u n) ∷ []) (letters_with true) (arrived_by s b c k l x h.stands below)) ∙ q in cc);
            };
            asks = made.asks;
            orders = made.orders;
          }

      by : (d t : Bool) → is_bind_op b c k ≡ d → pauses_behind l.state.pausing u ≡ t → Result (Go u n) (Some (row_of b c x k))
      by true t i j = to_result true t i j (quiet (pausing_is true t i j))
      by false false i j = to_result false false i j (quiet (pausing_is false false i j))
      by false true i j = to_result false true i j (signaled i j)

  refuses : (answer : Answer) (which : Refusal) → whats_for (Some (row_of b c x k)) answer ≡ refused (b.request c k) which → pauses_none (what.Chosen (name c k) answer) ≡ true → (letters : List Posted) → Makes s b c now (desk_choice (name c k) answer) l (act (what.Chosen (name c k) answer ∷ whats_for (Some (row_of b c x k)) answer) letters) (side answer) (Choosing ∷ [])
      → ClientActs s b c now (desk_choice (name c k) answer) l (act (what.Chosen (name c k) answer ∷ whats_for (Some (row_of b c x k)) answer) letters) (side answer) (Choosing ∷ [])
  refuses answer which e q letters m = still answer (Some (row_of b c x k)) letters m (pausing_stays s now (desk_choice (name c k) answer) l (what.Chosen (name c k) answer ∷ whats_for (Some (row_of b c x k)) answer) letters (both (pauses_none (what.Chosen (name c k) answer)) _ q (ap (list_all pauses_none) e ∙ refused_pauses (b.request c k) which)))

  live_choice : (answer : Answer) → x.live k ≡ true → ((u n : ℕ) → answer ≡ Go u n → serves s u ≡ is_bind_op b c k) → row_named l.state (name c k) ≡ Some (row_of b c x k) → Result answer (Some (row_of b c x k))
  live_choice (Go u n) live kind e = goes u n live e (kind u n refl)
  live_choice Busy live kind e = refuses Busy C1 refl refl [] (plain_made Busy (Some (row_of b c x k)) e)
  live_choice Unavailable live kind e = refuses Unavailable C3 refl refl [] (plain_made Unavailable (Some (row_of b c x k)) e)

  pub choice_made : (answer : Answer) → ((u n : ℕ) → answer ≡ Go u n → serves s u ≡ is_bind_op b c k) → Result answer (row_named l.state (name c k))
  choice_made answer kind = by (x.live k) refl
    where
      by : (t : Bool) → x.live k ≡ t → Result answer (row_named l.state (name c k))
      by true live = let e : row_named l.state (name c k) ≡ Some (row_of b c x k) = row_found s b c k l x h.stands below ∙ ap (λ (t : Bool). if t then Some (row_of b c x k) else None) live in subst (Result answer) (sym e) (live_choice answer live kind e)
      by false dead = let e : row_named l.state (name c k) ≡ None = row_found s b c k l x h.stands below ∙ ap (λ (t : Bool). if t then Some (row_of b c x k) else None) dead in subst (Result answer) (sym e) (late answer e)
