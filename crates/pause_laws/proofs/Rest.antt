-- Where nothing waits, a regular connection holds exactly where a client has paused it: what the client's last letter said.
use Rattle.std.proofs.Common.{◌≡◌, ℕ, Bool, true, false, ◌==◌, ◌&&◌, not, List, [], ◌∷◌, ◌++◌, refl, ap, ◌∙◌, sym}
use Rattle.std.specs.Prelude.{Option, Some, None}
use Rattle.std.specs.List.{list_any}
use Rattle.lload_names.specs.declared.names.Answer.{Answer}
use Rattle.lload_names.specs.declared.names.Answer.TheVariants.{Go, Busy, Unavailable}
use Rattle.lload_names.specs.declared.names.ConnKind.TheVariants.{Regular}
use Rattle.lload_names.specs.declared.names.Entry.{Entry}
use Rattle.lload_names.specs.declared.names.PartName.{PartName}
use Rattle.lload_names.specs.declared.names.PartName.TheVariants.{Client, Up as Connection}
use Rattle.lload_names.specs.declared.names.What.{What}
use Rattle.lload_names.specs.declared.names.What.TheVariants as what
use Rattle.lload_spec.specs.Entries.{is_down}
use Rattle.lload_spec.specs.Journal.{Family, IsWhole}
use Rattle.lload_spec.specs.Lists.{agrees, put_number}
use Rattle.lload_spec.specs.Operations.{Operation, is_live, is_of, operation_in}
use Rattle.lload_names.specs.declared.names.OpKind.TheVariants.{Bind}
use Rattle.lload_spec.specs.Owed.{has_paused}
use Rattle.lload_spec.specs.Pauses.{Pausing, forwarding, is_waiting, no_pause, pauses_behind, pausing_at, pausing_behind, pausing_from, waiting_clients, with_chosen}
use Rattle.lload_spec.specs.Settings.{Settings, is_of_kind}
use Rattle.lload_spec.specs.Settled.{is_pause_settled, is_paused_by}
use Rattle.lload_spec.proofs.Growth.{both, right}
use Rattle.lload_laws.proofs.ListLaws.{all_always, implies_by}
use Rattle.part_laws.proofs.ListLaws.{eqb_same, or_elim, or_left, or_right, same_number}
use Rattle.part_spec.specs.ClientState.{empty_client}
use Rattle.part_spec.specs.ConnectionState.{empty_connection}
use Rattle.part_spec.specs.Marked.{Marked}
use Rattle.part_spec.proofs.Joins.{connection-waits}
use Rattle.settled_laws.specs.Laws.{Rested}
use Rattle.pause_laws.specs.Laws.{PausesSettle}
use Rattle.pause_laws.proofs.Owed.{given_last, taken_of}
use Rattle.pause_laws.proofs.Said.{client_says}
use Rattle.pause_laws.proofs.Signals.{told}

-- A client that pauses a connection is stalled.
module _ (u : ℕ) where
  abbrev Stalls : Pausing → Type 0
  Stalls q = has_paused u q ≡ true → q.stalled ≡ true

  forwards_stalled : (v : ℕ) (q : Pausing) → q.stalled ≡ true → (forwarding v q).stalled ≡ true
  forwards_stalled v q k = by (pauses_behind q v)
    where
      state : Bool → Pausing
      state b = elim b [ true ↦ record q { paused = put_number v q.paused } | false ↦ q ]

      by : (b : Bool) → (state b).stalled ≡ true
      by true = k
      by false = k

  chosen_stalled : (o : Option Operation) (a : Answer) (q : Pausing) → q.stalled ≡ true → (with_chosen o a q).stalled ≡ true
  chosen_stalled (Some o) (Go v b) q k = by (is_live o && not (is_of Bind o))
    where
      state : Bool → Pausing
      state x = elim x [ true ↦ forwarding v q | false ↦ q ]

      by : (x : Bool) → (state x).stalled ≡ true
      by true = forwards_stalled v q k
      by false = k
  chosen_stalled None a q k = k
  chosen_stalled (Some o) Busy q k = k
  chosen_stalled (Some o) Unavailable q k = k

  stalls_one : (c : ℕ) (place : List Entry) (w : What) (q : Pausing) → Stalls q → Stalls (pausing_behind c place w q)
  stalls_one c place (what.Chosen op a) q h k = by q.stalled refl k
    where
      state : Bool → Pausing
      state b = elim b [ true ↦ with_chosen (operation_in c place op) a q | false ↦ q ]

      by : (b : Bool) → q.stalled ≡ b → Stalls (state b)
      by true e j = chosen_stalled (operation_in c place op) a q e
      by false e j = h j
  stalls_one c place what.Stalled q h k = refl
  stalls_one c place what.Flowing q h k = absurd (let bad : false ≡ true = k in cc)
  stalls_one c place (what.Gone why) q h k = absurd (let bad : false ≡ true = k in cc)
  stalls_one c place _ q h k = h k

  stalls_from : (c : ℕ) (q : Pausing) (before es : List Entry) → Stalls q → Stalls (pausing_from c q before es)
  stalls_from c q before [] h = h
  stalls_from c q before (e ∷ es) h = stalls_from c (pausing_behind c before e.what q) (before ++ e ∷ []) es (stalls_one c before e.what q h)

  stalls_at : (c : ℕ) (place : List Entry) → Stalls (pausing_at c place)
  stalls_at c place = stalls_from c no_pause [] place (λ k. absurd (let bad : false ≡ true = k in cc))

-- one that pauses for some client names one
waits_for : (ds : List ℕ) → is_waiting ds ≡ true → (d : ℕ) × (list_any (λ n. n == d) ds ≡ true)
waits_for [] h = absurd (let bad : false ≡ true = h in cc)
waits_for (d ∷ ds) h = (d, or_left (d == d) _ (eqb_same d))

waits_so : (ds : List ℕ) (d : ℕ) → list_any (λ n. n == d) ds ≡ true → is_waiting ds ≡ true
waits_so [] d h = h
waits_so (x ∷ ds) d h = refl

-- what passes a test and is among some is one of these that passes, and the other way
some_passes : (t : ℕ → Bool) (d : ℕ) (ns : List ℕ) → list_any (λ n. n == d) ns ≡ true → t d ≡ true → list_any t ns ≡ true
some_passes t d [] h k = h
some_passes t d (n ∷ ns) h k = or_elim (n == d) (list_any (λ m. m == d) ns) (λ e. or_left (t n) _ (ap t (same_number n d e) ∙ k)) (λ e. or_right (t n) _ (some_passes t d ns e k)) h

one_passes : (t : ℕ → Bool) (ns : List ℕ) → list_any t ns ≡ true → (d : ℕ) × (t d ≡ true)
one_passes t [] h = absurd (let bad : false ≡ true = h in cc)
one_passes t (n ∷ ns) h = or_elim (t n) (list_any t ns) (λ e. (n, e)) (λ e. one_passes t ns e) h

agree_by : (a b : Bool) → (a ≡ true → b ≡ true) → (b ≡ true → a ≡ true) → agrees a b ≡ true
agree_by true b f g = f refl
agree_by false true f g = absurd (let bad : false ≡ true = g refl in cc)
agree_by false false f g = refl

module _ (s : Settings) (F : Family) (marked : PartName → List Marked) (h : Rested s F marked) (whole : IsWhole F) (u : ℕ) where
  -- a connection pauses for a client where this says so
  same : (c : ℕ) → list_any (λ n. n == c) (waiting_clients (F.connection u)) ≡ has_paused u (pausing_at c (F.client c))
  same c =
      ap (λ l. list_any (λ n. n == c) (waiting_clients l)) (sym (h.joined.shared.same_entries (Connection u)))
      ∙ ap (list_any (λ n. n == c)) (sym (connection-waits s (empty_connection s u) (marked (Connection u))))
      ∙ sym (taken_of s F marked h.joined u c).last
      ∙ ap (told false) (h.all_taken (Client c) (Connection u))
      ∙ given_last s c u (empty_client c) (marked (Client c))
      ∙ ap (has_paused u) (client_says s F marked h.joined c)

  -- such a client is named
  there : (c : ℕ) → has_paused u (pausing_at c (F.client c)) ≡ true → list_any (λ n. n == c) F.clients ≡ true
  there c k = by (list_any (λ n. n == c) F.clients) refl
    where
      by : (b : Bool) → list_any (λ n. n == c) F.clients ≡ b → b ≡ true
      by true e = refl
      by false e = sym (ap (λ l. has_paused u (pausing_at c l)) (whole.clients_named c e)) ∙ k

  waits : is_waiting (waiting_clients (F.connection u)) ≡ true → list_any (is_paused_by F u) F.clients ≡ true
  waits k =
      let one = waits_for (waiting_clients (F.connection u)) k in
      let paused : has_paused u (pausing_at one.0 (F.client one.0)) ≡ true = sym (same one.0) ∙ one.1 in
      some_passes (is_paused_by F u) one.0 F.clients (there one.0 paused) (both (pausing_at one.0 (F.client one.0)).stalled _ (stalls_at u one.0 (F.client one.0) paused) paused)

  paused : list_any (is_paused_by F u) F.clients ≡ true → is_waiting (waiting_clients (F.connection u)) ≡ true
  paused k =
      let one = one_passes (is_paused_by F u) F.clients k in
      waits_so (waiting_clients (F.connection u)) one.0 (same one.0 ∙ right (pausing_at one.0 (F.client one.0)).stalled _ one.1)

  settled : is_pause_settled s F u ≡ true
  settled =
      implies_by (is_of_kind s Regular u && not (list_any is_down (F.connection u))) _
      (λ k. ap (λ b. agrees (b && is_waiting (waiting_clients (F.connection u))) (list_any (is_paused_by F u) F.clients)) k ∙ agree_by (is_waiting (waiting_clients (F.connection u))) (list_any (is_paused_by F u) F.clients) waits paused)

pub pauses_settle : PausesSettle
pauses_settle s F marked h whole = all_always (is_pause_settled s F) F.connections (settled s F marked h whole)
