-- What a client pauses is by its state what it is by its list, at each place.
use Rattle.std.proofs.Common.{◌≡◌, ℕ, Bool, true, false, ◌==◌, ◌&&◌, not, List, [], ◌∷◌, ◌++◌, length, refl, ap, ◌∙◌, sym, subst}
use Rattle.std.specs.Prelude.{Option, Some, None, cond, find}
use Rattle.std.specs.List.{list_any}
use Rattle.ldap_spec.specs.Kinds.{same_kind}
use Rattle.lload_names.specs.declared.names.Answer.{Answer}
use Rattle.lload_names.specs.declared.names.Answer.TheVariants.{Go, Busy, Unavailable}
use Rattle.lload_names.specs.declared.names.Entry.{Entry}
use Rattle.lload_names.specs.declared.names.OpKind.TheVariants.{Bind}
use Rattle.lload_names.specs.declared.names.OpName.{OpName}
use Rattle.lload_names.specs.declared.names.PartName.{PartName}
use Rattle.lload_names.specs.declared.names.PartName.TheVariants.{Client}
use Rattle.lload_names.specs.declared.names.What.{What}
use Rattle.lload_names.specs.declared.names.What.TheVariants as what
use Rattle.lload_spec.specs.Entries.{is_of_client}
use Rattle.lload_spec.specs.Journal.{Family}
use Rattle.lload_spec.specs.Lists.{each_split_from, passes, put_number}
use Rattle.lload_spec.specs.Operations.{Operation, is_live, is_of, live_operations, operation_in, operations}
use Rattle.lload_spec.specs.Pauses.{Pausing, forwarding, pausing_at, pausing_behind, pausing_from, stalling, with_chosen}
use Rattle.lload_spec.specs.Settings.{Settings}
use Rattle.lload_spec.specs.Strict.{has_place_in_client, is_chosen_once, is_in_unheld, lives_as_client}
use Rattle.lload_spec.proofs.Growth.{left, right}
use Rattle.lload_laws.specs.ClientGrowth.{is_named_within}
use Rattle.lload_laws.proofs.ListLaws.{found_passes}
use Rattle.part_laws.proofs.ListLaws.{same_number}
use Rattle.part_spec.specs.ClientState.{ClientState, ClientRow, client_behind, client_of, empty_client, is_bind_row, row_named, step_client, step_clients, with_connection}
use Rattle.part_spec.specs.Marked.{Marked, entries}
use Rattle.part_spec.specs.Share.{ClientShare}
use Rattle.client_laws.proofs.ClientClauses.{Says, nothing_kept, says_more}
use Rattle.client_laws.proofs.ClientLate.{none_live}
use Rattle.client_laws.proofs.ClientTurns.{count_more}
use Rattle.client_laws.proofs.Matches.{Match, Matches}
use Rattle.client_answer_laws.proofs.Each.{Each, each_both, each_filter, each_imply}
use Rattle.client_answer_laws.proofs.Waits.{named_each}
use Rattle.forward_laws.proofs.Ops.{own_found}
use Rattle.joined_laws.specs.Joined.{Joined}
use Rattle.joined_laws.proofs.Begun.{is_begun, own_client}
use Rattle.joined_laws.proofs.Walks.{Begins, Begun, begun}
use Rattle.client_moves_laws.proofs.ClientStays.{pausing_stays}
use Rattle.pause_laws.proofs.Goes.{Goes, goes_first, goes_more, regular_same}

-- the operation of a row that is found, of which this is known
of_row_so : (P : Operation → Type 0) (t : ClientRow → Bool) (rows : List ClientRow) (os : List Operation) (r : ClientRow) → Matches rows os → Each P os → find t rows ≡ Some r → (o : Operation) × (Match r o × P o)
of_row_so P t [] os r m h e = absurd (let bad : None ≡ Some r = e in cc)
of_row_so P t (x ∷ rows) [] r m h e = absurd m
of_row_so P t (x ∷ rows) (o ∷ os) r m h e = by (t x) e (λ k. of_row_so P t rows os r m.1 h.1 k)
  where
    by : (b : Bool) → cond b (Some x) (find t rows) ≡ Some r → (find t rows ≡ Some r → (q : Operation) × (Match r q × P q)) → (q : Operation) × (Match r q × P q)
    by true k ih = let same : x ≡ r = cc in (o, (subst (λ (y : ClientRow). Match y o) same m.0, h.0))
    by false k ih = ih k

clients_own : (c : ℕ) (place : List Entry) → Each (λ o. o.name.client ≡ c) (operations c place)
clients_own c place = each_imply (λ o. is_named_within c (length (operations c place)) o ≡ true) (λ o. o.name.client ≡ c) (operations c place) (own_client c (length (operations c place))) (named_each c place)

module _ (s : Settings) (c : ℕ) (place : List Entry) (p : ClientState) (m : Marked) (goes : Goes c place p) (begins : Begins c place p m) where
  abbrev Known : Operation → Type 0
  Known o = ((operation_in c place o.name ≡ Some o) × (o.name.client ≡ c)) × (is_live o ≡ true)

  known : Each Known (live_operations c place)
  known = each_filter (λ o. (operation_in c place o.name ≡ Some o) × (o.name.client ≡ c)) Known is_live (operations c place) (λ o live k. (k, live)) (each_both (λ o. operation_in c place o.name ≡ Some o) (λ o. o.name.client ≡ c) (operations c place) (own_found c place) (clients_own c place))

  -- where its operation goes to a connection
  abbrev chosen_so : Bool → Option Operation → ℕ → ℕ → Pausing
  chosen_so t o v b = elim t [ true ↦ with_chosen o (Go v b) p.pausing | false ↦ p.pausing ]

  idle : (o : Option Operation) (v b : ℕ) → passes is_live o ≡ false → with_chosen o (Go v b) p.pausing ≡ p.pausing
  idle None v b e = refl
  idle (Some o) v b e = ap (λ d. elim (d && not (is_of Bind o)) [ true ↦ forwarding v p.pausing | false ↦ p.pausing ]) e

  either : (t : Bool) (q : Pausing) → q ≡ p.pausing → (elim t [ true ↦ q | false ↦ p.pausing ]) ≡ p.pausing
  either true q e = e
  either false q e = refl

  abbrev by_row : ℕ → Bool → Pausing
  by_row v d = elim d [ true ↦ p.pausing | false ↦ forwarding v p.pausing ]

  abbrev by_list : ℕ → Bool → Bool → Pausing
  by_list v t d = elim t [ true ↦ elim d [ true ↦ forwarding v p.pausing | false ↦ p.pausing ] | false ↦ p.pausing ]

  forwards : (v : ℕ) (d e t : Bool) → d ≡ e → p.pausing.stalled ≡ t → by_row v d ≡ by_list v t (true && not e)
  forwards v true true true k j = refl
  forwards v true true false k j = refl
  forwards v false false true k j = refl
  forwards v false false false k j = ap (λ b. elim (b && not (list_any (λ n. n == v) p.pausing.paused)) [ true ↦ record p.pausing { paused = put_number v p.pausing.paused } | false ↦ p.pausing ]) j
  forwards v true false t k j = absurd (let bad : true ≡ false = k in cc)
  forwards v false true t k j = absurd (let bad : false ≡ true = k in cc)

  gone : (op : OpName) (v b : ℕ) (r : ClientRow) → row_named p op ≡ Some r → (with_connection v b p r).pausing ≡ chosen_so p.pausing.stalled (operation_in c place op) v b
  gone op v b r e =
      forwards v (is_bind_row r) (is_of Bind o) p.pausing.stalled (ap (passes (same_kind Bind)) one.1.0.kind) refl
      ∙ ap (λ d. elim p.pausing.stalled [ true ↦ elim (d && not (is_of Bind o)) [ true ↦ forwarding v p.pausing | false ↦ p.pausing ] | false ↦ p.pausing ]) (sym one.1.1.1)
      ∙ ap (λ x. chosen_so p.pausing.stalled x v b) (sym found_so)
    where
      one : (o : Operation) × (Match r o × Known o)
      one = of_row_so Known (λ x. p.number == op.client && x.k == op.k) p.rows (live_operations c place) r begins.lives.rows known e

      o : Operation
      o = one.0

      its : (p.number == op.client && r.k == op.k) ≡ true
      its = found_passes (λ x. p.number == op.client && x.k == op.k) p.rows r e

      name_is : one.0.name ≡ op
      name_is =
          let client : one.0.name.client ≡ op.client = one.1.1.0.1 ∙ sym begins.says.number ∙ same_number p.number op.client (left (p.number == op.client) _ its) in
          let k : one.0.name.k ≡ op.k = sym one.1.0.k ∙ same_number r.k op.k (right (p.number == op.client) _ its) in
          λ i. record { client = client i; k = k i }

      found_so : operation_in c place op ≡ Some one.0
      found_so = ap (operation_in c place) (sym name_is) ∙ one.1.1.0.0

  chosen_said : (op : OpName) (a : Answer) → (client_behind s m.entry.at m.mark p (what.Chosen op a)).pausing ≡ pausing_behind c place (what.Chosen op a) p.pausing
  chosen_said op (Go v b) = by (row_named p op) refl
    where
      state : Option ClientRow → ClientState
      state o = elim o [ None ↦ p | Some r ↦ with_connection v b p r ]

      by : (o : Option ClientRow) → row_named p op ≡ o → (state o).pausing ≡ chosen_so p.pausing.stalled (operation_in c place op) v b
      by None e = sym (either p.pausing.stalled (with_chosen (operation_in c place op) (Go v b) p.pausing) (idle (operation_in c place op) v b (none_live c place p op begins.lives begins.says.number e)))
      by (Some r) e = gone op v b r e
  chosen_said op Busy = sym (either p.pausing.stalled (with_chosen (operation_in c place op) Busy p.pausing) (by (operation_in c place op)))
    where
      by : (o : Option Operation) → with_chosen o Busy p.pausing ≡ p.pausing
      by None = refl
      by (Some o) = refl
  chosen_said op Unavailable = sym (either p.pausing.stalled (with_chosen (operation_in c place op) Unavailable p.pausing) (by (operation_in c place op)))
    where
      by : (o : Option Operation) → with_chosen o Unavailable p.pausing ≡ p.pausing
      by None = refl
      by (Some o) = refl

  stalls_said : (client_behind s m.entry.at m.mark p what.Stalled).pausing ≡ pausing_behind c place what.Stalled p.pausing
  stalls_said = ap (λ us. stalling us p.pausing) (regular_same c place p begins.lives goes (clients_own c place))

-- what an entry makes of the pauses, by the state and by the list
said_one : (s : Settings) (c : ℕ) (place : List Entry) (p : ClientState) (m : Marked) → Goes c place p → (w : What) → (is_begun w ≡ true → Begins c place p m) → (client_behind s m.entry.at m.mark p w).pausing ≡ pausing_behind c place w p.pausing
said_one s c place p m goes (what.Chosen op a) begins = chosen_said s c place p m goes (begins refl) op a
said_one s c place p m goes what.Stalled begins = stalls_said s c place p m goes (begins refl)
said_one s c place p m goes (what.In id rest) begins = pausing_stays s m.entry.at m.mark (record { state = p; expected = [] }) (what.In id rest ∷ []) [] refl
said_one s c place p m goes (what.Out id rest) begins = pausing_stays s m.entry.at m.mark (record { state = p; expected = [] }) (what.Out id rest ∷ []) [] refl
said_one s c place p m goes _ begins = refl

-- it is so at each of these entries
abbrev pub Said : Settings → ℕ → List Entry → ClientState → List Marked → Type 0
Said s c place p [] = Unit {0}
Said s c place p (m ∷ ms) = ((step_client s p m).pausing ≡ pausing_behind c place m.entry.what p.pausing) × Said s c (place ++ m.entry ∷ []) (step_client s p m) ms

module _ (s : Settings) (c : ℕ) where
  abbrev Placed : List Entry → List Marked → Type 0
  Placed place ms = each_split_from (λ b e r. is_of_client e.what && has_place_in_client s c b e r) place (entries ms) ≡ true

  walk : (place : List Entry) (p : ClientState) (ms : List Marked) → Says c place p → p.count ≡ length (operations c place) → Goes c place p → Begun s c place p ms → Placed place ms → Said s c place p ms
  walk place p [] says count goes begins placed = tt
  walk place p (m ∷ ms) says count goes begins placed =
      let here : has_place_in_client s c place m.entry (entries ms) ≡ true = right (is_of_client m.entry.what) _ (left (is_of_client m.entry.what && has_place_in_client s c place m.entry (entries ms)) _ placed) in
      let once : is_chosen_once c place m.entry ≡ true = right (lives_as_client place m.entry) _ (left (lives_as_client place m.entry && is_chosen_once c place m.entry) _ (left (lives_as_client place m.entry && is_chosen_once c place m.entry && is_in_unheld s c place m.entry) _ here)) in (
        said_one s c place p m goes m.entry.what begins.0,
        walk (place ++ m.entry ∷ []) (step_client s p m) ms (says_more s c place p m says) (count_more s c place m.entry m.mark p count) (goes_more s c place p says.number count goes m once) begins.1 (right (is_of_client m.entry.what && has_place_in_client s c place m.entry (entries ms)) _ placed),
      )

  pub said : (list : List Marked) → ClientShare s c list → Said s c [] (empty_client c) list
  said list h = walk [] (empty_client c) list (nothing_kept s c).says (nothing_kept s c).lives.count (goes_first c (empty_client c) refl) (begun s c list h) h.life

  pub said_last : (place : List Entry) (p : ClientState) (ms : List Marked) → Said s c place p ms → (step_clients s p ms).pausing ≡ pausing_from c p.pausing place (entries ms)
  said_last place p [] h = refl
  said_last place p (m ∷ ms) h = said_last (place ++ m.entry ∷ []) (step_client s p m) ms h.1 ∙ ap (λ q. pausing_from c q (place ++ m.entry ∷ []) (entries ms)) h.0

pub client_says : (s : Settings) (F : Family) (marked : PartName → List Marked) → Joined s F marked → (c : ℕ) → (client_of s c (marked (Client c))).pausing ≡ pausing_at c (F.client c)
client_says s F marked h c = said_last s c [] (empty_client c) (marked (Client c)) (said s c (marked (Client c)) (h.shared.shares (Client c))) ∙ ap (pausing_at c) (h.shared.same_entries (Client c))
