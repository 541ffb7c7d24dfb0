-- A request that isn't a Bind goes on, and the desk is asked; and an Abandon ends an operation.
use Rattle.std.proofs.Common.{◌≡◌, ℕ, ◌+◌, Bool, true, false, ◌==◌, ◌&&◌, not, if◌then◌else◌, List, [], ◌∷◌, ◌++◌, Option, Some, None, refl, ap, ◌∙◌, sym, subst, append-nil}
use Rattle.std.specs.Prelude.{filter, find}
use Rattle.std.specs.Option.{option_or}
use Rattle.std.proofs.lemmas.Bool.{eqb-true, eqb-false}
use Rattle.ldap_spec.specs.Messages.{Message}
use Rattle.lload_names.specs.declared.names.Bound.TheVariants.{Free}
use Rattle.lload_names.specs.declared.names.ConnKind.TheVariants.{Regular, Bind as BindKind}
use Rattle.lload_names.specs.declared.names.Letter.{Letter}
use Rattle.lload_names.specs.declared.names.Letter.TheVariants as real
use Rattle.lload_names.specs.declared.names.OpKind.TheVariants.{Bind}
use Rattle.lload_names.specs.declared.names.OpName.{OpName}
use Rattle.lload_names.specs.declared.names.PartName.TheVariants.{Client as ClientPart}
use Rattle.lload_names.specs.declared.names.Want.{Want}
use Rattle.lload_names.specs.declared.names.What.TheVariants as what
use Rattle.lload_spec.specs.Binding.{kind_wanted}
use Rattle.lload_spec.specs.FirstCheck.{lets_go_on}
use Rattle.lload_spec.specs.Journal.{same_op}
use Rattle.lload_spec.specs.Operations.{is_request_of, abandons_id}
use Rattle.lload_spec.specs.Settings.{Settings}
use Rattle.lload_spec.proofs.Growth.{left, right}
use Rattle.part_laws.proofs.ListLaws.{not_true}
use Rattle.part_spec.specs.Inputs.{act}
use Rattle.part_spec.specs.ClientState.{AskedFor, ClientState, ClientRow, abandons, check_at, is_pinned, next_name, target, want_for, without}
use Rattle.part_spec.specs.ClientTurn.{abandoned_drop, asks, drop_of}
use Rattle.part_spec.specs.Fit.{ClientLedger, is_last_by, step_client_ledger}
use Rattle.move_laws.specs.World.{Client, put}
use Rattle.move_laws.specs.Clients.{ask_letter, ask_row, end_row, may_ask, may_end}
use Rattle.stands_laws.specs.Lists.{Pairs}
use Rattle.stands_laws.specs.Books.{Book, is_bind_op, name}
use Rattle.stands_laws.specs.Letters.{AskIs, OrderIs}
use Rattle.stands_laws.specs.ClientSides.{ClientSide, ClientMove, Asking, Ending}
use Rattle.stands_laws.specs.ClientStands.{row_of, asked_for, ClientStands}
use Rattle.stands_laws.proofs.Pairs.{pairs_append}
use Rattle.stands_laws.proofs.Rows.{live_filter, live_same}
use Rattle.stands_laws.proofs.Tests.{same_self, find_kept, find_last}
use Rattle.client_moves_laws.proofs.Makes.{Makes}
use Rattle.client_moves_laws.proofs.Checks.{Abandoned}
use Rattle.client_moves_laws.proofs.ClientOuts.{client_closes}
use Rattle.client_moves_laws.proofs.ClientCloses.{came_mark}
use Rattle.client_moves_laws.proofs.ClientComes.{came_behind, coming, come_ledger, number_next}
use Rattle.client_moves_laws.proofs.ClientRefuses.{Comes, comes_row, comes_stands, ends_asks, ends_orders, may_end_here, not_pinned}
use Rattle.client_moves_laws.proofs.ClientRows.{found_row}

-- the search for an operation finds the new one under its number
pub asked_now : (t : ℕ → AskedFor → Bool) (v : AskedFor) (n k : ℕ) (a ch : ℕ → Bool) (old : Option AskedFor) (new : ℕ → AskedFor) → t k v ≡ (k == n) → v ≡ new n → a n ≡ false → ch n ≡ false → old ≡ (if a k && not (ch k) then Some (new k) else None)
    → option_or old (if t k v then Some v else None) ≡ (if put a n true k && not (ch k) then Some (new k) else None)
asked_now t v n k a ch old new e same z y h = rw e (go (k == n) refl)
  where
    here : (i j : Bool) → i ≡ false → j ≡ false → k ≡ n → option_or (if i && not j then Some (new k) else None) (Some v) ≡ (if not j then Some (new k) else None)
    here i j p q r = rw (p, q) (ap Some (same ∙ ap new (sym r)))

    there : (i : Bool) (o : Option AskedFor) → option_or (if i then Some (new k) else None) None ≡ (if i then Some (new k) else None)
    there true o = refl
    there false o = refl

    go : (b : Bool) → (k == n) ≡ b → option_or old (if b then Some v else None) ≡ (if (if b then true else a k) && not (ch k) then Some (new k) else None)
    go true i = let r = eqb-true k n i in rw h (here (a k) (ch k) (ap a r ∙ z) (ap ch r ∙ y) r)
    go false i = rw h (there (a k && not (ch k)) None)

-- the desk is asked for it
abbrev pub asking_ledger : OpName → Message → ClientLedger → ClientLedger
asking_ledger op m l = record { state = record l.state { asked = l.state.asked ++ record { op = op; kind = kind_wanted m } ∷ [] }; expected = l.expected }

pub asked_too : (s : Settings) (b : Book) (c n : ℕ) (op : OpName) (m : Message) (l : ClientLedger) (x : Client) → ClientStands s b c l x → x.asked n ≡ false → x.chosen n ≡ false → op ≡ name c n → kind_wanted m ≡ kind_wanted (b.request c n)
    → ClientStands s b c (asking_ledger op m l) (record x { asked = put x.asked n true })
asked_too s b c n op m l x h a ch e f = record {
  number = h.number;
  next = h.next;
  gone = h.gone;
  rows = h.rows;
  hold = h.hold;
  exchange = h.exchange;
  left = h.left;
  dead = h.dead;
  quiet = h.quiet;
  bound = h.bound;
  busy = h.busy;
  one = h.one;
  below = h.below;
  ids = h.ids;
  kinds = h.kinds;
  asked = λ k. find_last (λ z. same_op (name c k) z.op) l.state.asked _ _ (h.asked k)
      ∙ asked_now (λ i z. same_op (name c i) z.op) (record { op = op; kind = kind_wanted m }) n k x.asked x.chosen _ (asked_for b c) (ap (same_op (name c k)) e ∙ ap (λ (t : Bool). t && (k == n)) (same_self c)) (λ i. record { op = e i; kind = f i }) a ch refl;
  expected = h.expected;
}

ask_row_is : (x : Client) → x.busy ≡ false → record (coming x) { asked = put x.asked x.next true } ≡ ask_row true false x
ask_row_is x e = λ i. record x { next = x.next + 1; asked = put x.asked x.next true; live = put x.live x.next true; busy = e i }

pub wanted_same : (b : Book) (c n : ℕ) (m : Message) → is_bind_op b c n ≡ is_request_of Bind m → kind_wanted m ≡ kind_wanted (b.request c n)
wanted_same b c n m e = ap (λ (t : Bool). if t then BindKind else Regular) (sym e)

pub next_is : (s : Settings) (b : Book) (c : ℕ) (l : ClientLedger) (x : Client) → ClientStands s b c l x → l.state.arrived ≡ true → next_name l.state ≡ name c x.next
next_is s b c l x h arrived = let n = number_next l x.next h.next arrived in λ i. record { client = h.number i; k = sym n i }

pub wanted_kind : (s : Settings) (p : ClientState) (at : ℕ) (m : Message) → (want_for s p at m).kind ≡ kind_wanted m
wanted_kind s p at m = go (is_request_of Bind m)
  where
    go : (t : Bool) → Want.kind (elim t [ true ↦ record { kind = BindKind; bound = Free } | false ↦ record { kind = Regular; bound = target s p at } ]) ≡ (if t then BindKind else Regular)
    go true = refl
    go false = refl

pub may_ask_plain : (x : Client) (t : Bool) → x.gone ≡ false → x.busy ≡ false → t ≡ false → may_ask t x ≡ true
may_ask_plain x t g i e = rw (g, i, e) refl

pub asks_makes : (s : Settings) (b : Book) (c at id : ℕ) (rest : List ℕ) (l : ClientLedger) (y : ClientSide) → Comes s b c id rest l y.row → lets_go_on (check_at s l.state (record { id = id; rest = rest })) ≡ true
    → Makes s b c at None l (act (what.In id rest ∷ []) (asks s l.state at (record { id = id; rest = rest }))) y (Asking ∷ [])
asks_makes s b c at id rest l y h goes =
    let m : Message = record { id = id; rest = rest } in
    let x = y.row in
    let n = x.next in
    let plain : is_bind_op b c n ≡ false = h.booked.bind ∙ h.other in
    let may : may_ask (is_bind_op b c n) x ≡ true = may_ask_plain x (is_bind_op b c n) h.here h.idle plain in
    let named : next_name l.state ≡ name c n = next_is s b c l x h.stands h.arrived in
    let wanted : kind_wanted m ≡ kind_wanted (b.request c n) = wanted_same b c n m h.booked.bind in
    let unpinned = not_pinned s l.state m h.other in
    let behind : step_client_ledger s l (came_mark (ClientPart l.state.number) at id rest) ≡ asking_ledger (next_name l.state) m (come_ledger at (row_of b c x n) l) =
    came_behind s (ClientPart l.state.number) at id rest l true false true false h.makes h.other goes unpinned ∙ ap (λ (r : ClientRow). asking_ledger (next_name l.state) m (come_ledger at r l)) (comes_row s b c id rest l x h) in
    record {
      stands = subst (λ (t : Bool). ClientStands s b c (step_client_ledger s l (came_mark (ClientPart l.state.number) at id rest)) (ask_row t (is_bind_op b c n) x)) (sym may)
          (subst (λ (t : Bool). ClientStands s b c (step_client_ledger s l (came_mark (ClientPart l.state.number) at id rest)) (ask_row true t x)) (sym plain)
          (subst (λ (z : ClientLedger). ClientStands s b c z (ask_row true false x)) (sym behind)
          (subst (λ (z : Client). ClientStands s b c (asking_ledger (next_name l.state) m (come_ledger at (row_of b c x n) l)) z) (ask_row_is x h.idle)
          (asked_too s b c n (next_name l.state) m (come_ledger at (row_of b c x n) l) (coming x) (comes_stands s b c at id rest l x h) h.fresh.asked h.fresh.chosen named wanted))));
      asks = λ q p. subst (λ (t : Bool). Pairs (AskIs b c) (q ++ real.Ask (next_name l.state) (want_for s l.state at m) ∷ []) (y.asks ++ ask_letter t x)) (sym may)
          (pairs_append (AskIs b c) q y.asks _ _ p (record { want = want_for s l.state at m; is = ap (λ (o : OpName). real.Ask o (want_for s l.state at m)) named; kind = wanted_kind s l.state at m ∙ wanted }, tt));
      orders = λ u q p. subst (λ (r : List Letter). Pairs (OrderIs s b c) r (y.orders u)) (sym (append-nil q)) p;
    }

-- An Abandon.
abbrev pub abandon_state : Message → ℕ → ClientState → ClientState
abandon_state m at p = record (without (abandons m) at p) { moment = at; asked = p.asked }

abbrev pub abandon_ledger : Message → ℕ → ClientLedger → ClientLedger
abandon_ledger m at l = record { state = abandon_state m at l.state; expected = filter (λ x. not (is_last_by x.op None)) l.expected }

abandon_behind : (s : Settings) (at id n : ℕ) (rest : List ℕ) (l : ClientLedger) → Abandoned (record { id = id; rest = rest }) n → lets_go_on (check_at s l.state (record { id = id; rest = rest })) ≡ false
    → step_client_ledger s l (came_mark (ClientPart l.state.number) at id rest) ≡ abandon_ledger (record { id = id; rest = rest }) at l
abandon_behind s at id n rest l h e = came_behind s (ClientPart l.state.number) at id rest l false (is_request_of Bind (record { id = id; rest = rest })) false (is_pinned s l.state (record { id = id; rest = rest })) h.makes refl e refl

-- what it abandons is the operation of this identifier, which isn't a Bind
abandons_row : (b : Book) (c n k : ℕ) (m : Message) (x : Client) → Abandoned m n → abandons m (row_of b c x k) ≡ (not (is_bind_op b c k) && (n == (b.request c k).id))
abandons_row b c n k m x h = (λ i. not (h.here i) && not (is_bind_op b c k) && abandons_id (b.request c k).id (h.is i))

module _ (s : Settings) (b : Book) (c at id n : ℕ) (rest : List ℕ) (l : ClientLedger) (x : Client) (h : ClientStands s b c l x) (a : Abandoned (record { id = id; rest = rest }) n) where
  abbrev message : Message
  message = record { id = id; rest = rest }

  -- of the live operations, the one that is found is abandoned alone
  alone : (j k : ℕ) → x.live j ≡ true → abandons message (row_of b c x j) ≡ true → x.live k ≡ true → abandons message (row_of b c x k) ≡ (k == j)
  alone j k live e here = go (k == j) refl
    where
      under : (i : ℕ) → abandons message (row_of b c x i) ≡ true → n ≡ (b.request c i).id
      under i f = eqb-true n (b.request c i).id (right (not (is_bind_op b c i)) _ (sym (abandons_row b c n i message x a) ∙ f))

      go : (t : Bool) → (k == j) ≡ t → abandons message (row_of b c x k) ≡ t
      go true i = ap (λ (m : ℕ). abandons message (row_of b c x m)) (eqb-true k j i) ∙ e
      go false i = other (abandons message (row_of b c x k)) refl
        where
          other : (t : Bool) → abandons message (row_of b c x k) ≡ t → t ≡ false
          other true f = absurd (eqb-false k j i (h.ids k j here live (sym (under k f) ∙ under j e)))
          other false f = refl

  abandoned_rows : (j : ℕ) → x.live j ≡ true → abandons message (row_of b c x j) ≡ true → filter (λ r. not (abandons message r)) l.state.rows ≡ filter (λ r. not (r.k == j)) l.state.rows
  abandoned_rows j live e =
      ap (filter (λ r. not (abandons message r))) h.rows
      ∙ (live_filter (λ r. not (abandons message r)) x.live (row_of b c x) x.next
      ∙ (live_same (λ k. x.live k && not (abandons message (row_of b c x k))) (λ k. x.live k && not (k == j)) (row_of b c x) (row_of b c x) x.next (λ k _. same k (x.live k) refl) (λ _ _ _. refl)
      ∙ (sym (live_filter (λ r. not (r.k == j)) x.live (row_of b c x) x.next) ∙ ap (filter (λ (r : ClientRow). not (r.k == j))) (sym h.rows))))
    where
      same : (k : ℕ) (t : Bool) → x.live k ≡ t → (t && not (abandons message (row_of b c x k))) ≡ (t && not (k == j))
      same k true here = ap not (alone j k live e here)
      same k false here = refl

  abandon_ends : (j : ℕ) → x.live j ≡ true → abandons message (row_of b c x j) ≡ true → is_bind_op b c j ≡ false
      → ClientStands s b c (abandon_ledger message at l) (record x { live = put x.live j false })
  abandon_ends j live e plain =
      subst (λ (rows : List ClientRow). ClientStands s b c (record { state = record (abandon_state message at l.state) { rows = rows }; expected = filter (λ x. not (is_last_by x.op None)) l.expected }) (record x { live = put x.live j false })) (sym (abandoned_rows j live e))
      (client_closes s b c j at false false (abandon_state message at l.state).window l.state.identity l x (filter (λ x. not (is_last_by x.op None)) l.expected) x.closed h live plain (λ f. absurd (let bad : false ≡ true = f in cc)) (λ i u. find_kept _ _ l.expected (λ y _. refl) ∙ h.expected i u))

  none_abandoned : find (abandons message) l.state.rows ≡ None → filter (λ r. not (abandons message r)) l.state.rows ≡ l.state.rows
  none_abandoned e = kept l.state.rows e
    where
      kept : (rows : List ClientRow) → find (abandons message) rows ≡ None → filter (λ r. not (abandons message r)) rows ≡ rows
      kept [] f = refl
      kept (r ∷ rs) f = go (abandons message r) f (kept rs)
        where
          go : (t : Bool) → (if t then Some r else find (abandons message) rs) ≡ None → (find (abandons message) rs ≡ None → filter (λ r. not (abandons message r)) rs ≡ rs) → (if not t then r ∷ filter (λ r. not (abandons message r)) rs else filter (λ r. not (abandons message r)) rs) ≡ r ∷ rs
          go true i ih = absurd (cc)
          go false i ih = ap (λ (z : List ClientRow). r ∷ z) (ih i)

  abandon_idles : find (abandons message) l.state.rows ≡ None → ClientStands s b c (abandon_ledger message at l) x
  abandon_idles e = record {
    number = h.number;
    next = h.next;
    gone = h.gone;
    rows = none_abandoned e ∙ h.rows;
    hold = h.hold;
    exchange = h.exchange;
    left = h.left;
    dead = h.dead;
    quiet = h.quiet;
    bound = h.bound;
    busy = h.busy;
    one = h.one;
    below = h.below;
    ids = h.ids;
    kinds = h.kinds;
    asked = h.asked;
    expected = λ k u. find_kept _ _ l.expected (λ y _. refl) ∙ h.expected k u;
  }

-- the moves of an Abandon, by what it finds
abbrev pub abandoning : Option ClientRow → List ClientMove
abandoning None = []
abandoning (Some r) = Ending r.k ∷ []

pub abandon_makes : (s : Settings) (b : Book) (c at id n : ℕ) (rest : List ℕ) (l : ClientLedger) (y : ClientSide) → ClientStands s b c l y.row → Abandoned (record { id = id; rest = rest }) n → lets_go_on (check_at s l.state (record { id = id; rest = rest })) ≡ false
    → Makes s b c at None l (act (what.In id rest ∷ []) (abandoned_drop l.state (record { id = id; rest = rest }))) y (abandoning (find (abandons (record { id = id; rest = rest })) l.state.rows))
abandon_makes s b c at id n rest l y h a e = go (find (abandons m) l.state.rows) refl
  where
    m : Message
    m = record { id = id; rest = rest }

    behind : step_client_ledger s l (came_mark (ClientPart l.state.number) at id rest) ≡ abandon_ledger (record { id = id; rest = rest }) at l
    behind = abandon_behind s at id n rest l a e

    Made : Option ClientRow → Type 0
    Made o = Makes s b c at None l (act (what.In id rest ∷ []) (elim o [ None ↦ [] | Some r ↦ drop_of l.state r ])) y (abandoning o)

    go : (o : Option ClientRow) → find (abandons m) l.state.rows ≡ o → Made o
    go None f = record {
      stands = subst (λ (z : ClientLedger). ClientStands s b c z y.row) (sym behind) (abandon_idles s b c at id n rest l y.row h a f);
      asks = λ q p. subst (λ (r : List Letter). Pairs (AskIs b c) r y.asks) (sym (append-nil q)) p;
      orders = λ u q p. subst (λ (r : List Letter). Pairs (OrderIs s b c) r (y.orders u)) (sym (append-nil q)) p;
    }
    go (Some r) f =
        let z = found_row s b c l y.row (abandons m) r h f in
        let j = z.row.k in
        let there : abandons m (row_of b c y.row j) ≡ true = ap (abandons m) (sym z.row.is) ∙ z.passes in
        let plain : is_bind_op b c j ≡ false = not_true (is_bind_op b c j) (left (not (is_bind_op b c j)) _ (sym (abandons_row b c n j m y.row a) ∙ there)) in
        let may : may_end (is_bind_op b c j) j y.row ≡ true = may_end_here (is_bind_op b c j) (y.row.live j) z.row.live plain in
        subst (λ (w : ClientRow). Made (Some w)) (sym z.row.is) (record {
          stands = subst (λ (l2 : ClientLedger). ClientStands s b c l2 (end_row (may_end (is_bind_op b c j) j y.row) j y.row)) (sym behind)
              (subst (λ (t : Bool). ClientStands s b c (abandon_ledger m at l) (end_row t j y.row)) (sym may) (abandon_ends s b c at id n rest l y.row h a j z.row.live there plain));
          asks = λ q p. ends_asks s b c j l.state y.asks y.row q p;
          orders = λ u q p. ends_orders s b c j u l.state y.row q (y.orders u) h.number may plain p;
        })
