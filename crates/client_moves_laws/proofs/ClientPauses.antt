-- A client stalls and flows; and what else leaves its operations as they are.
use Rattle.std.proofs.Common.{◌≡◌, ℕ, Bool, true, false, ◌==◌, ◌&&◌, ◌||◌, not, if◌then◌else◌, List, [], ◌∷◌, ◌++◌, Option, Some, None, refl, ap, ◌∙◌, sym, subst, arith, append-nil}
use Rattle.std.specs.Prelude.{filter, find, flat_map}
use Rattle.std.specs.List.{list_any, list_all}
use Rattle.std.proofs.lemmas.Bool.{eqb-true}
use Rattle.std.proofs.lemmas.List.Folds.{list_any-append}
use Rattle.lload_names.specs.declared.names.Letter.{Letter}
use Rattle.lload_names.specs.declared.names.PartName.TheVariants.{Up as Connection}
use Rattle.lload_names.specs.declared.names.Posted.{Posted}
use Rattle.lload_names.specs.declared.names.What.{What}
use Rattle.lload_names.specs.declared.names.What.TheVariants as what
use Rattle.lload_spec.specs.Lists.{passes, rising_once}
use Rattle.lload_spec.specs.Pauses.{Pausing, no_pause, stalling}
use Rattle.lload_spec.specs.Settings.{Settings}
use Rattle.lload_spec.proofs.Growth.{left, right}
use Rattle.part_laws.proofs.ListLaws.{not_true}
use Rattle.part_spec.specs.Inputs.{act}
use Rattle.part_spec.specs.Marked.{Taken, letters_to}
use Rattle.part_spec.specs.ClientState.{ClientState, ClientRow, is_bind_row, regular_connections}
use Rattle.part_spec.specs.ClientTurn.{flows, resumes, stall_letters, stalls}
use Rattle.part_spec.specs.Fit.{Expected, ClientLedger}
use Rattle.move_laws.specs.World.{World, Client, at}
use Rattle.move_laws.specs.Counts.{num}
use Rattle.move_laws.specs.AgreeBinds.{Holds}
use Rattle.move_laws.proofs.Fits.{kinds_agree}
use Rattle.stands_laws.specs.Lists.{Pairs, Each}
use Rattle.stands_laws.specs.Books.{Book, is_bind_op}
use Rattle.stands_laws.specs.Letters.{AskIs, OrderIs}
use Rattle.stands_laws.specs.ClientSides.{ClientSide, ClientMove, client_side}
use Rattle.stands_laws.specs.ClientStands.{kinds_of, row_of, serves, ClientStands, ClientPauses, ClientIs}
use Rattle.stands_laws.specs.Follows.{ClientActs, client_behind, client_ledger_behind}
use Rattle.stands_laws.proofs.Tests.{find_kept, same_self}
use Rattle.client_moves_laws.proofs.Lists.{among_rising, each_among, each_imply, each_all, rises_once, find_each}
use Rattle.client_moves_laws.proofs.Makes.{Makes, makes_more}
use Rattle.client_moves_laws.proofs.Signals.{signals, signal_letters, put_all, put_all_at, may_be, signals_row, signals_asks, signals_orders, no_signals}
use Rattle.client_moves_laws.proofs.ClientStays.{arrived_stays, pauses_none, pausing_stays}
use Rattle.client_moves_laws.proofs.ClientRows.{IsRow, each_row}
use Rattle.client_moves_laws.proofs.ClientCloses.{resumed}
use Rattle.client_moves_laws.proofs.ClientLetters.{pauses_same}

-- what a client makes, where its pauses stay
pub acts_by : (s : Settings) (b : Book) (c at : ℕ) (mark : Option Taken) (l : ClientLedger) (whats : List What) (letters : List Posted) (y : ClientSide) (ms : List ClientMove) → ClientIs s b c l y.row → l.state.arrived ≡ true → list_all pauses_none whats ≡ true → Makes s b c at mark l (act whats letters) y ms
    → ((j : ℕ) → (client_behind s b c y ms).row.asked j ≡ true → b.pinned c j ≡ false) → (client_behind s b c y ms).row.paused ≡ y.row.paused
    → ClientActs s b c at mark l (act whats letters) y ms
acts_by s b c at mark l whats letters y ms h arrived quiet m heads paused = record {
  is = record {
    stands = m.stands;
    heads = heads;
    pauses = subst (λ (q : Pausing). ClientPauses s q (client_behind s b c y ms).row) (sym (pausing_stays s at mark l whats letters quiet)) (pauses_same s l.state.pausing y.row (client_behind s b c y ms).row paused h.pauses);
    waits = λ e. absurd (let bad : true ≡ false = sym (arrived_stays s at mark l whats letters arrived) ∙ e in cc);
  };
  asks = m.asks;
  orders = m.orders;
}

-- an entry that says nothing of operations
abbrev pub quiet_ledger : ℕ → Pausing → ClientLedger → ClientLedger
quiet_ledger at q l = record { state = record l.state { moment = at; pausing = q }; expected = filter (λ (y : Expected). true) l.expected }

quiet_stands : (s : Settings) (b : Book) (c at : ℕ) (q : Pausing) (l : ClientLedger) (x : Client) → ClientStands s b c l x → ClientStands s b c (quiet_ledger at q l) x
quiet_stands s b c at q l x h = record {
  number = h.number;
  next = h.next;
  gone = h.gone;
  rows = h.rows;
  hold = h.hold;
  exchange = h.exchange;
  left = h.left;
  dead = h.dead;
  quiet = h.quiet;
  bound = h.bound;
  busy = h.busy;
  one = h.one;
  below = h.below;
  ids = h.ids;
  kinds = h.kinds;
  asked = h.asked;
  expected = λ k u. find_kept _ (λ (y : Expected). true) l.expected (λ y _. refl) ∙ h.expected k u;
}

quiet_makes : (s : Settings) (b : Book) (c at : ℕ) (l : ClientLedger) (w : What) (y : ClientSide) → ClientStands s b c (client_ledger_behind s at None l (act (w ∷ []) [])) y.row → Makes s b c at None l (act (w ∷ []) []) y []
quiet_makes s b c at l w y h = record {
  stands = h;
  asks = λ q p. subst (λ (r : List Letter). Pairs (AskIs b c) r y.asks) (sym (append-nil q)) p;
  orders = λ u q p. subst (λ (r : List Letter). Pairs (OrderIs s b c) r (y.orders u)) (sym (append-nil q)) p;
}

-- The connections of its live operations other than Binds.

-- whether a row's operation is on this regular connection
abbrev pub goes_to : ℕ → ClientRow → Bool
goes_to u r = not (is_bind_row r) && passes (λ v. v == u) r.connection

among_rows : (u : ℕ) (rows : List ClientRow) → list_any (λ n. n == u) (flat_map (λ r. elim (is_bind_row r) [ true ↦ [] | false ↦ elim r.connection [ None ↦ [] | Some v ↦ v ∷ [] ] ]) rows) ≡ list_any (goes_to u) rows
among_rows u [] = refl
among_rows u (r ∷ rs) = list_any-append (λ n. n == u) (one (is_bind_row r) r.connection) _ ∙ (λ i. one_is (is_bind_row r) r.connection i || among_rows u rs i)
  where
    one : Bool → Option ℕ → List ℕ
    one d o = elim d [ true ↦ [] | false ↦ elim o [ None ↦ [] | Some v ↦ v ∷ [] ] ]

    or_none : (t : Bool) → (t || false) ≡ t
    or_none true = refl
    or_none false = refl

    one_is : (d : Bool) (o : Option ℕ) → list_any (λ n. n == u) (one d o) ≡ (not d && passes (λ v. v == u) o)
    one_is true o = refl
    one_is false None = refl
    one_is false (Some v) = or_none (v == u)

any_found : {A : Type 0} (t : A → Bool) (xs : List A) → list_any t xs ≡ true → (x : A) × (find t xs ≡ Some x)
any_found t [] e = absurd (cc)
any_found {A = A} t (x ∷ xs) e = go (t x) e (any_found t xs)
  where
    go : (q : Bool) → (q || list_any t xs) ≡ true → (list_any t xs ≡ true → (z : A) × (find t xs ≡ Some z)) → (z : A) × ((if q then Some x else find t xs) ≡ Some z)
    go true i ih = (x, refl)
    go false i ih = ih i

-- the operation on whose account a connection is paused
abbrev pub giver : ClientState → ℕ → ℕ
giver p u = elim (find (goes_to u) p.rows) [ None ↦ 0 | Some r ↦ r.k ]

pub record Gives (s : Settings) (b : Book) (c : ℕ) (p : ClientState) (x : Client) (u : ℕ) : Type 0 where
  pub given : at (x.given (giver p u)) u ≡ true
  pub plain : serves s u ≡ false

given_passes : (o : Option ℕ) (u : ℕ) → passes (λ v. v == u) o ≡ true → at o u ≡ true
given_passes None u e = absurd (cc)
given_passes (Some v) u e = ap (λ (i : ℕ). u == i) (eqb-true v u e) ∙ same_self u

gives : (s : Settings) (b : Book) (w : World) (c u : ℕ) (l : ClientLedger) → Holds (kinds_of s b) w → ClientStands s b c l (w.clients c) → list_any (λ n. n == u) (regular_connections l.state) ≡ true → Gives s b c l.state (w.clients c) u
gives s b w c u l holds h e =
    let x = w.clients c in
    let f = any_found (goes_to u) l.state.rows (sym (among_rows u l.state.rows) ∙ e) in
    let r = f.0 in
    let z = find_each (IsRow b c x) (goes_to u) l.state.rows r (each_row s b c l x h) f.1 in
    let k = z.0.k in
    let here : goes_to u (row_of b c x k) ≡ true = ap (goes_to u) (sym z.0.is) ∙ z.1 in
    let plain : is_bind_op b c k ≡ false = not_true (is_bind_op b c k) (left (not (is_bind_op b c k)) _ here) in
    let given : at (x.given k) u ≡ true = given_passes (x.given k) u (right (not (is_bind_op b c k)) _ here) in
    let one : num (at (x.given k) u) ≡ 1 = ap num given in
    let number : giver l.state u ≡ k = ap (λ (o : Option ClientRow). elim o [ None ↦ 0 | Some q ↦ q.k ]) f.1 ∙ ap (λ (q : ClientRow). q.k) z.0.is in
    record {
      given = ap (λ (j : ℕ). at (x.given j) u) number ∙ given;
      plain = kinds_agree (kinds_of s b) c k u x (w.choices c) (holds.fitting c k u) (omega arith) ∙ plain;
    }

-- It stalls.
pub stalls_acts : (s : Settings) (b : Book) (w : World) (c now : ℕ) (l : ClientLedger) → Holds (kinds_of s b) w → ClientIs s b c l (w.clients c) → l.state.arrived ≡ true → l.state.pausing.stalled ≡ false
    → ClientActs s b c now None l (stalls l.state) (client_side w c) (signals (giver l.state) (rising_once (regular_connections l.state)))
stalls_acts s b w c now l holds h arrived fresh =
    let y = client_side w c in
    let x = w.clients c in
    let us = rising_once (regular_connections l.state) in
    let g = giver l.state in
    let empty : l.state.pausing.paused ≡ [] = h.pauses.stalled fresh in
    let none : (u : ℕ) → x.paused u ≡ false = λ u. sym (h.pauses.paused u) ∙ ap (list_any (λ n. n == u)) empty in
    let among : (u : ℕ) → list_any (λ n. n == u) us ≡ true → Gives s b c l.state x u = λ u e. gives s b w c u l holds h.stands (sym (among_rising u (regular_connections l.state)) ∙ e) in
    let paused : Each (λ u. y.row.paused u ≡ false) us = each_all (λ u. y.row.paused u ≡ false) us none in
    let may : Each (λ u. may_be s g false y.row u ≡ true) us = each_imply (λ u. list_any (λ n. n == u) us ≡ true) (λ u. may_be s g false y.row u ≡ true) us (λ u e. let z = among u e in (λ i. not (z.plain i) && z.given i)) (each_among us) in
    let first = quiet_makes s b c now l what.Stalled y (quiet_stands s b c now (stalling (regular_connections l.state) l.state.pausing) l x h.stands) in
    let rows = signals_row s b c g false us y (rises_once (regular_connections l.state)) paused may in
    let letters : signal_letters l.state.number true us ≡ signal_letters c true us = ap (λ (m : ℕ). signal_letters m true us) h.stands.number in
    let made = makes_more s b c now None l (what.Stalled ∷ []) [] (stall_letters l.state) y [] (signals g us) (put_all us true x.paused) first rows (signals_asks s b c g false us y) (no_signals l.state.number true us)
    (λ v q p. subst (λ (r : List Posted). Pairs (OrderIs s b c) (q ++ letters_to (Connection v) r) ((client_behind s b c y (signals g us)).orders v)) (sym letters) (signals_orders s b c g false us y v q (rises_once (regular_connections l.state)) paused may p)) in
    let now_paused : (u : ℕ) → (client_behind s b c y (signals g us)).row.paused u ≡ list_any (λ n. n == u) us = λ u. ap (λ (z : Client). z.paused u) rows ∙ (put_all_at us true x.paused u ∙ if_any (list_any (λ n. n == u) us) (x.paused u) (none u)) in
    let grown : rising_once (regular_connections l.state ++ l.state.pausing.paused) ≡ us = ap rising_once (ap (λ (z : List ℕ). regular_connections l.state ++ z) empty ∙ append-nil (regular_connections l.state)) in
    record {
      is = record {
        stands = made.stands;
        heads = λ j q. h.heads j (sym (ap (λ (z : Client). z.asked j) rows) ∙ q);
        pauses = record {
          paused = λ u. ap (list_any (λ n. n == u)) grown ∙ sym (now_paused u);
          plain = λ u e. (among u (sym (now_paused u) ∙ e)).plain;
          once = rises_once (regular_connections l.state ++ l.state.pausing.paused);
          stalled = λ e. absurd (cc);
        };
        waits = λ e. absurd (let bad : true ≡ false = sym arrived ∙ e in cc);
      };
      asks = made.asks;
      orders = made.orders;
    }
  where
    if_any : (t o : Bool) → o ≡ false → (if t then true else o) ≡ t
    if_any true o e = refl
    if_any false o e = e

-- It reads again.
pub flows_acts : (s : Settings) (b : Book) (c now : ℕ) (l : ClientLedger) (y : ClientSide) → ClientIs s b c l y.row → l.state.arrived ≡ true
    → ClientActs s b c now None l (flows l.state) y (signals (λ _. 0) l.state.pausing.paused)
flows_acts s b c now l y h arrived =
    let us = l.state.pausing.paused in
    let paused : Each (λ u. y.row.paused u ≡ true) us = each_imply (λ u. list_any (λ n. n == u) us ≡ true) (λ u. y.row.paused u ≡ true) us (λ u e. sym (h.pauses.paused u) ∙ e) (each_among us) in
    let may : Each (λ u. may_be s (λ _. 0) true y.row u ≡ true) us = each_imply (λ u. y.row.paused u ≡ true) (λ u. may_be s (λ _. 0) true y.row u ≡ true) us (λ u e. ap (λ (t : Bool). not t && true) (h.pauses.plain u e)) paused in
    let first = quiet_makes s b c now l what.Flowing y (quiet_stands s b c now no_pause l y.row h.stands) in
    let rows = signals_row s b c (λ _. 0) true us y h.pauses.once paused may in
    let letters : signal_letters l.state.number false us ≡ signal_letters c false us = ap (λ (m : ℕ). signal_letters m false us) h.stands.number in
    let made = makes_more s b c now None l (what.Flowing ∷ []) [] (resumes l.state) y [] (signals (λ _. 0) us) (put_all us false y.row.paused) first rows (signals_asks s b c (λ _. 0) true us y) (no_signals l.state.number false us)
    (λ v q p. subst (λ (r : List Posted). Pairs (OrderIs s b c) (q ++ letters_to (Connection v) r) ((client_behind s b c y (signals (λ _. 0) us)).orders v)) (sym letters) (signals_orders s b c (λ _. 0) true us y v q h.pauses.once paused may p)) in
    let none : (u : ℕ) → (client_behind s b c y (signals (λ _. 0) us)).row.paused u ≡ false = λ u. ap (λ (z : Client). z.paused u) rows ∙ resumed s l.state.pausing y.row u h.pauses in
    record {
      is = record {
        stands = made.stands;
        heads = λ j q. h.heads j (sym (ap (λ (z : Client). z.asked j) rows) ∙ q);
        pauses = record {
          paused = λ u. sym (none u);
          plain = λ u e. absurd (let bad : false ≡ true = sym (none u) ∙ e in cc);
          once = tt;
          stalled = λ _. refl;
        };
        waits = λ e. absurd (let bad : true ≡ false = sym arrived ∙ e in cc);
      };
      asks = made.asks;
      orders = made.orders;
    }
