-- A Bind comes: it ends all other operations, and is refused, or asked for, or goes on in its exchange.
use Rattle.std.proofs.Common.{◌≡◌, ℕ, suc, ◌+◌, Bool, true, false, ◌==◌, ◌&&◌, not, if◌then◌else◌, List, [], ◌∷◌, ◌++◌, Some, None, refl, ap, ◌∙◌, sym, subst, arith, append-nil, append_assoc}
use Rattle.std.specs.Prelude.{filter, find, flat_map, is_some}
use Rattle.std.proofs.lemmas.Bool.{eqb-true, and_from}
use Rattle.ldap_spec.specs.Messages.{Message}
use Rattle.ldap_spec.specs.Kinds.{kind_of, is_final, same_kind}
use Rattle.ldap_spec.specs.Responses.{has_code}
use Rattle.lload_names.specs.declared.names.Letter.{Letter}
use Rattle.lload_names.specs.declared.names.Letter.TheVariants as real
use Rattle.lload_names.specs.declared.names.OpKind.TheVariants.{Bind}
use Rattle.lload_names.specs.declared.names.OpName.{OpName}
use Rattle.lload_names.specs.declared.names.PartName.{PartName}
use Rattle.lload_names.specs.declared.names.PartName.TheVariants.{Desk, Client as ClientPart, Up as Connection}
use Rattle.lload_names.specs.declared.names.Posted.{Posted}
use Rattle.lload_names.specs.declared.names.What.{What}
use Rattle.lload_names.specs.declared.names.What.TheVariants as what
use Rattle.lload_spec.specs.Binding.{kind_wanted}
use Rattle.lload_spec.specs.Entries.{makes_operation}
use Rattle.lload_spec.specs.FirstCheck.{lets_go_on}
use Rattle.lload_spec.specs.Journal.{same_op}
use Rattle.lload_spec.specs.Lists.{last, passes}
use Rattle.lload_spec.specs.Operations.{is_request_of}
use Rattle.lload_spec.specs.Settings.{Settings}
use Rattle.part_spec.specs.Inputs.{act}
use Rattle.part_spec.specs.Marked.{letters_to}
use Rattle.part_spec.specs.ClientState.{AskedFor, ClientState, ClientRow, check_at, is_pinned, new_row, next_name, want_for}
use Rattle.part_spec.specs.ClientTurn.{asks, drop_of, drops, endings as end_letters, leave}
use Rattle.part_spec.specs.Fit.{Expected, ClientLedger, is_last_by, step_client_ledger}
use Rattle.move_laws.specs.World.{Client, ToDesk, ToConn, Hold, at, conn_of, held, holder_of, put, put_at}
use Rattle.move_laws.specs.World as machine
use Rattle.move_laws.specs.Clients.{ask_letter, ask_row, leave_letter, leave_row, may_ask, refuse_row}
use Rattle.stands_laws.specs.Lists.{Pairs}
use Rattle.stands_laws.specs.Books.{Book, is_bind_op, name}
use Rattle.stands_laws.specs.Letters.{AskIs, OrderIs}
use Rattle.stands_laws.specs.ClientSides.{ClientSide, ClientMove, Asking, Leaving, Refusing, endings}
use Rattle.stands_laws.specs.ClientStands.{row_of, asked_for, live_upto, serves, ClientStands}
use Rattle.stands_laws.specs.Follows.{client_behind, client_ledger_behind}
use Rattle.stands_laws.proofs.Pairs.{pairs_append}
use Rattle.stands_laws.proofs.Rows.{live_none}
use Rattle.stands_laws.proofs.Tests.{same_self, put_here, find_kept, find_last}
use Rattle.link_laws.proofs.Links.{letters_more}
use Rattle.client_moves_laws.proofs.Makes.{Makes, moves_append}
use Rattle.client_moves_laws.proofs.ClientTakes.{busy_by}
use Rattle.client_moves_laws.proofs.ClientOuts.{answer_state, live_single, out_mark, out_behind}
use Rattle.client_moves_laws.proofs.ClientEnds.{ended_all, ended_asks, ended_live, ended_orders, ended_row, leave_pairs, no_drops, no_leave, row_left}
use Rattle.client_moves_laws.proofs.ClientCloses.{came_mark}
use Rattle.client_moves_laws.proofs.ClientComes.{Fresh, Booked, came, came_behind}
use Rattle.client_moves_laws.proofs.ClientRefuses.{new_connection}
use Rattle.client_moves_laws.proofs.ClientRequests.{asked_now, next_is, wanted_kind, wanted_same}
use Rattle.client_laws.proofs.KindsKept.{carried_kind}

pub record ComesBind (s : Settings) (b : Book) (c id : ℕ) (rest : List ℕ) (l : ClientLedger) (x : Client) : Type 0 where
  pub stands : ClientStands s b c l x
  pub fresh : Fresh x x.next
  pub booked : Booked s b c l.state (record { id = id; rest = rest }) x.next
  pub arrived : l.state.arrived ≡ true
  pub here : x.gone ≡ false
  pub idle : x.busy ≡ false
  pub makes : makes_operation (record { id = id; rest = rest }) ≡ true
  pub known : kind_of rest ≡ Some Bind
  pub bind : is_request_of Bind (record { id = id; rest = rest }) ≡ true

-- All its operations are ended first.
abbrev pub ended : Book → ℕ → Client → ℕ → Bool
ended b c x = ended_live (is_bind_op b c) x.next x.live

pub ended_dead : (s : Settings) (b : Book) (c k : ℕ) (l : ClientLedger) (x : Client) → ClientStands s b c l x → x.busy ≡ false → ended b c x k ≡ false
ended_dead s b c k l x h idle = ended_all s b c k l x h ∙ none (x.live k) (is_bind_op b c k) refl refl
  where
    none : (t d : Bool) → x.live k ≡ t → is_bind_op b c k ≡ d → (t && d) ≡ false
    none true true e f = absurd (let bad : true ≡ false = sym (busy_by s b c k l x h e f) ∙ idle in cc)
    none true false e f = refl
    none false d e f = refl

-- more moves behind these, with their letters
pub ends_first : (s : Settings) (b : Book) (c at : ℕ) (l : ClientLedger) (whats : List What) (second : List Posted) (y : ClientSide) (ms : List ClientMove) → ClientStands s b c l y.row
    → ClientStands s b c (client_ledger_behind s at None l (act whats [])) (client_behind s b c (client_behind s b c y (endings y.row.next)) ms).row
    → ((q : List Letter) → Pairs (AskIs b c) q (client_behind s b c y (endings y.row.next)).asks → Pairs (AskIs b c) (q ++ letters_to Desk second) (client_behind s b c (client_behind s b c y (endings y.row.next)) ms).asks)
    → ((u : ℕ) (q : List Letter) → Pairs (OrderIs s b c) q ((client_behind s b c y (endings y.row.next)).orders u) → Pairs (OrderIs s b c) (q ++ letters_to (Connection u) second) ((client_behind s b c (client_behind s b c y (endings y.row.next)) ms).orders u))
    → Makes s b c at None l (act whats (drops l.state ++ second)) y (endings y.row.next ++ ms)
ends_first s b c at l whats second y ms h stands asks orders =
    let append = moves_append (is_bind_op b c) (serves s) y (endings y.row.next) ms in
    record {
      stands = subst (λ (z : ClientSide). ClientStands s b c (client_ledger_behind s at None l (act whats [])) z.row) (sym append) stands;
      asks = λ q p. subst (λ (z : ClientSide). Pairs (AskIs b c) (q ++ letters_to Desk (drops l.state ++ second)) z.asks) (sym append)
          (subst (λ (r : List Letter). Pairs (AskIs b c) (q ++ r) (client_behind s b c (client_behind s b c y (endings y.row.next)) ms).asks) (sym (letters_more Desk (drops l.state) second ∙ ap (λ (r : List Letter). r ++ letters_to Desk second) (no_drops l.state l.state.rows)))
          (asks q (subst (λ (r : List ToDesk). Pairs (AskIs b c) q r) (sym (ended_asks (is_bind_op b c) (serves s) y y.row.next)) p)));
      orders = λ u q p. subst (λ (z : ClientSide). Pairs (OrderIs s b c) (q ++ letters_to (Connection u) (drops l.state ++ second)) (z.orders u)) (sym append)
          (subst (λ (r : List Letter). Pairs (OrderIs s b c) r ((client_behind s b c (client_behind s b c y (endings y.row.next)) ms).orders u)) (sym (split u q))
          (orders u (q ++ letters_to (Connection u) (flat_map (drop_of l.state) (live_upto y.row.live (row_of b c y.row) y.row.next))) (ended_orders s b c u l.state y y.row.next q h.number p)));
    }
  where
    split : (u : ℕ) (q : List Letter) → q ++ letters_to (Connection u) (drops l.state ++ second) ≡ (q ++ letters_to (Connection u) (flat_map (drop_of l.state) (live_upto y.row.live (row_of b c y.row) y.row.next))) ++ letters_to (Connection u) second
    split u q =
        ap (λ (r : List Letter). q ++ r) (letters_more (Connection u) (drops l.state) second)
        ∙ (sym (append_assoc q (letters_to (Connection u) (drops l.state)) (letters_to (Connection u) second))
        ∙ ap (λ (rows : List ClientRow). (q ++ letters_to (Connection u) (flat_map (drop_of l.state) rows)) ++ letters_to (Connection u) second) h.rows)

-- It is refused.
pub record Emptied (l m : ClientLedger) : Type 0 where
  pub number : m.state.number ≡ l.state.number
  pub arrived : m.state.arrived ≡ l.state.arrived
  pub count : m.state.count ≡ suc l.state.count
  pub gone : m.state.gone ≡ l.state.gone
  pub rows : m.state.rows ≡ []
  pub hold : m.state.hold ≡ None
  pub exchange : m.state.in_exchange ≡ false
  pub asked : m.state.asked ≡ l.state.asked
  pub expected : (test : Expected → Bool) → find test m.expected ≡ find test l.expected

abbrev pub emptied : Book → ℕ → Client → Client
emptied b c x = record x { next = x.next + 1; live = ended b c x; hold = None }

pub next_counted : (arrived : Bool) (n count : ℕ) → arrived ≡ true → n ≡ (if arrived then suc count else 0) → n + 1 ≡ (if arrived then suc (suc count) else 0)
next_counted arrived n count a e = rw a (let k : n ≡ suc count = e ∙ ap (λ (q : Bool). if q then suc count else 0) a in omega arith)

empty_stands : (s : Settings) (b : Book) (c : ℕ) (l m : ClientLedger) (x : Client) → ClientStands s b c l x → l.state.arrived ≡ true → x.busy ≡ false → Emptied l m → ClientStands s b c m (emptied b c x)
empty_stands s b c l m x h arrived idle k = record {
  number = k.number ∙ h.number;
  next = next_counted l.state.arrived x.next l.state.count arrived h.next ∙ (λ i. if sym k.arrived i then suc (sym k.count i) else 0);
  gone = h.gone ∙ sym k.gone;
  rows = k.rows ∙ sym (live_none (ended b c x) _ (x.next + 1) (λ k _. dead k));
  hold = k.hold;
  exchange = λ _ _. k.exchange;
  left = λ _. refl;
  dead = λ _. dead;
  quiet = λ _. k.exchange;
  bound = λ k e. absurd (let bad = sym e ∙ dead k in cc);
  busy = idle ∙ sym (ap (λ (t : Bool). t && is_bind_op b c x.current) (dead x.current));
  one = λ k e. absurd (let bad = sym e ∙ dead k in cc);
  below = λ k e. absurd (let bad = sym e ∙ dead k in cc);
  ids = λ j k e. absurd (let bad = sym e ∙ dead j in cc);
  kinds = λ k e. absurd (let bad = sym e ∙ dead k in cc);
  asked = λ i. ap (λ (z : List AskedFor). find (λ a. same_op (name c i) a.op) z) k.asked ∙ h.asked i;
  expected = λ i u. k.expected _ ∙ h.expected i u;
}
  where
    dead : (k : ℕ) → ended b c x k ≡ false
    dead k = ended_dead s b c k l x h idle

-- the ledger behind the refusal
new_kind : (s : Settings) (m : Message) (p : ClientState) → kind_of m.rest ≡ Some Bind → kind_of (new_row s p m).request.rest ≡ Some Bind
new_kind s m p e = carried_kind s m p.identity ∙ e

abbrev pub answer_ledger : (final bind stay : Bool) → Settings → ℕ → List ℕ → ClientRow → ClientLedger → ClientLedger
answer_ledger final bind stay s at answer r l = record {
  state = record (answer_state final bind stay s at None answer l.state r) { moment = at; asked = l.state.asked };
  expected = filter (λ y. not (is_last_by y.op None)) l.expected;
}

refused_behind : (s : Settings) (q : PartName) (at : ℕ) (m : Message) (answer : List ℕ) (pinned : Bool) (l : ClientLedger) → kind_of m.rest ≡ Some Bind → is_final Bind answer ≡ true → has_code 14 answer ≡ false
    → step_client_ledger s (came true true false pinned s at m l) (out_mark q at m.id answer None) ≡ answer_ledger true true false s at answer (new_row s l.state m) (came true true false pinned s at m l)
refused_behind s q at m answer pinned l e f code =
    let r = new_row s l.state m in
    let kinds = new_kind s m l.state e in
    out_behind s q at m.id answer None (came true true false pinned s at m l) (Some r) (ap (λ (t : Bool). last (if t then r ∷ [] else [])) (same_self m.id))
    ∙ (λ i. answer_ledger (((λ j. passes (λ k. is_final k answer) (kinds j)) ∙ f) i) (passes (same_kind Bind) (kinds i)) (code i) s at answer r (came true true false pinned s at m l))

emptied_by : (s : Settings) (at : ℕ) (m : Message) (answer : List ℕ) (pinned : Bool) (l : ClientLedger) → Emptied l (answer_ledger true true false s at answer (new_row s l.state m) (came true true false pinned s at m l))
emptied_by s at m answer pinned l = record {
  number = refl;
  arrived = refl;
  count = refl;
  gone = refl;
  rows = ap (λ (t : Bool). if not t then new_row s l.state m ∷ [] else []) (same_self (suc l.state.count));
  hold = refl;
  exchange = refl;
  asked = refl;
  expected = λ test. find_kept test (λ (y : Expected). true) _ (λ y _. refl) ∙ find_kept test (λ (y : Expected). true) l.expected (λ y _. refl);
}

pub bind_refused : (s : Settings) (b : Book) (c at id : ℕ) (rest answer : List ℕ) (l : ClientLedger) (x : Client) → ComesBind s b c id rest l x → lets_go_on (check_at s l.state (record { id = id; rest = rest })) ≡ false → is_final Bind answer ≡ true → has_code 14 answer ≡ false
    → ClientStands s b c (step_client_ledger s (step_client_ledger s l (came_mark (ClientPart l.state.number) at id rest)) (out_mark (ClientPart l.state.number) at id answer None)) (emptied b c x)
bind_refused s b c at id rest answer l x h e final code =
    let m : Message = record { id = id; rest = rest } in
    let q = ClientPart l.state.number in
    let pinned = is_pinned s l.state m in
    subst (λ (z : ClientLedger). ClientStands s b c (step_client_ledger s z (out_mark q at id answer None)) (emptied b c x)) (sym (came_behind s q at id rest l true true false pinned h.makes h.bind e refl))
    (subst (λ (z : ClientLedger). ClientStands s b c z (emptied b c x)) (sym (refused_behind s q at m answer pinned l h.known final code))
    (empty_stands s b c l (answer_ledger true true false s at answer (new_row s l.state m) (came true true false pinned s at m l)) x h.stands h.arrived h.idle (emptied_by s at m answer pinned l)))

pub refused_row : (s : Settings) (b : Book) (c : ℕ) (y : ClientSide) → y.row.busy ≡ false → (client_behind s b c (client_behind s b c y (endings y.row.next)) (Refusing ∷ Leaving ∷ [])).row ≡ emptied b c y.row
refused_row s b c y idle =
    ap (λ (x : Client). leave_row (held x.hold && not x.busy) (refuse_row x)) (ended_row (is_bind_op b c) (serves s) y y.row.next)
    ∙ row_left (refuse_row (record y.row { live = ended b c y.row })) y.row.hold idle refl

pub bind_refuses : (s : Settings) (b : Book) (c at id : ℕ) (rest answer : List ℕ) (l : ClientLedger) (y : ClientSide) → ComesBind s b c id rest l y.row → lets_go_on (check_at s l.state (record { id = id; rest = rest })) ≡ false → is_final Bind answer ≡ true → has_code 14 answer ≡ false
    → Makes s b c at None l (act (what.In id rest ∷ what.Out id answer ∷ []) (end_letters l.state)) y (endings y.row.next ++ Refusing ∷ Leaving ∷ [])
bind_refuses s b c at id rest answer l y h e final code =
    let z = client_behind s b c y (endings y.row.next) in
    let row = ended_row (is_bind_op b c) (serves s) y y.row.next in
    ends_first s b c at l (what.In id rest ∷ what.Out id answer ∷ []) (leave l.state) y (Refusing ∷ Leaving ∷ []) h.stands
    (subst (λ (x : Client). ClientStands s b c (step_client_ledger s (step_client_ledger s l (came_mark (ClientPart l.state.number) at id rest)) (out_mark (ClientPart l.state.number) at id answer None)) x) (sym (refused_row s b c y h.idle)) (bind_refused s b c at id rest answer l y.row h e final code))
    (λ q p. subst (λ (r : List Letter). Pairs (AskIs b c) r z.asks) (sym (ap (λ (r : List Letter). q ++ r) (no_leave l.state.hold) ∙ append-nil q)) p)
    (λ u q p. pairs_append (OrderIs s b c) q (z.orders u) (letters_to (Connection u) (leave l.state)) (leave_letter (held (refuse_row z.row).hold && not (refuse_row z.row).busy) (refuse_row z.row) u) p
    (leave_pairs s b c u l.state.hold (refuse_row z.row) y.row.hold (ap (λ (x : Client). x.hold) row) (ap (λ (x : Client). x.busy) row ∙ h.idle) h.stands.hold))

-- It is asked for, or goes on.
abbrev pub asking_row : Book → ℕ → Client → Client
asking_row b c x = record x { next = x.next + 1; asked = put x.asked x.next true; live = put (ended b c x) x.next true; current = x.next; busy = true }

abbrev pub binding_row : Book → ℕ → Client → Client
binding_row b c x = record x { next = x.next + 1; live = put (ended b c x) x.next true; given = put_at x.given x.next (conn_of x.hold); current = x.next; busy = true }

-- the new operation is live alone
pub alone_live : (s : Settings) (b : Book) (c k : ℕ) (l : ClientLedger) (x : Client) → ClientStands s b c l x → x.busy ≡ false → put (ended b c x) x.next true k ≡ (k == x.next)
alone_live s b c k l x h idle = go (k == x.next) refl
  where
    go : (t : Bool) → (k == x.next) ≡ t → (if t then true else ended b c x k) ≡ t
    go true e = refl
    go false e = ended_dead s b c k l x h idle

pub only : (s : Settings) (b : Book) (c k : ℕ) (l : ClientLedger) (x : Client) → ClientStands s b c l x → x.busy ≡ false → put (ended b c x) x.next true k ≡ true → k ≡ x.next
only s b c k l x h idle e = eqb-true k x.next (sym (alone_live s b c k l x h idle) ∙ e)

asks_stands : (s : Settings) (b : Book) (c at id : ℕ) (rest : List ℕ) (l : ClientLedger) (x : Client) → ComesBind s b c id rest l x → is_pinned s l.state (record { id = id; rest = rest }) ≡ false → x.hold ≡ None
    → ClientStands s b c (came true true true false s at (record { id = id; rest = rest }) l) (asking_row b c x)
asks_stands s b c at id rest l x h unpinned none = record {
  number = h.stands.number;
  next = next_counted l.state.arrived x.next l.state.count h.arrived h.stands.next;
  gone = h.stands.gone;
  rows = ap (λ (r : ClientRow). r ∷ []) (h.booked.row x (new_connection s l.state m (x.given x.next) unpinned h.fresh.given)) ∙ sym (live_single (put (ended b c x) x.next true) (row_of b c x) (x.next + 1) x.next (λ k _. alone_live s b c k l x h.stands h.idle) (omega arith));
  hold = h.stands.hold;
  exchange = λ _ e. absurd (cc);
  left = λ e. absurd (let bad = sym e ∙ h.here in cc);
  dead = λ e. absurd (let bad = sym e ∙ h.here in cc);
  quiet = λ _. refl;
  bound = λ k live bind. ap conn_of none ∙ (sym h.fresh.given ∙ ap x.given (sym (only s b c k l x h.stands h.idle live)));
  busy = sym (and_from (put (ended b c x) x.next true x.next) (is_bind_op b c x.next) (put_here (ended b c x) x.next true) (h.booked.bind ∙ h.bind));
  one = λ k live bind. only s b c k l x h.stands h.idle live;
  below = λ k live. let e = only s b c k l x h.stands h.idle live in omega arith;
  ids = λ j k p q e. only s b c j l x h.stands h.idle p ∙ sym (only s b c k l x h.stands h.idle q);
  kinds = λ k live. ap (λ (i : ℕ). is_some (kind_of (b.request c i).rest)) (only s b c k l x h.stands h.idle live) ∙ ap is_some (h.booked.kind ∙ h.known);
  asked = λ k. find_last (λ z. same_op (name c k) z.op) l.state.asked _ _ (h.stands.asked k)
      ∙ asked_now (λ i z. same_op (name c i) z.op) (record { op = next_name l.state; kind = kind_wanted m }) x.next k x.asked x.chosen _ (asked_for b c) (ap (same_op (name c k)) named ∙ ap (λ (t : Bool). t && (k == x.next)) (same_self c)) (λ i. record { op = named i; kind = wanted_same b c x.next m h.booked.bind i }) h.fresh.asked h.fresh.chosen refl;
  expected = λ k u. find_kept _ _ l.expected (λ y _. refl) ∙ h.stands.expected k u;
}
  where
    m : Message
    m = record { id = id; rest = rest }

    named : next_name l.state ≡ name c x.next
    named = next_is s b c l x h.stands h.arrived

pub asks_row : (s : Settings) (b : Book) (c : ℕ) (y : ClientSide) → y.row.gone ≡ false → y.row.busy ≡ false → y.row.hold ≡ None → is_bind_op b c y.row.next ≡ true → (client_behind s b c (client_behind s b c y (endings y.row.next)) (Asking ∷ [])).row ≡ asking_row b c y.row
asks_row s b c y here idle none bind =
    ap (λ (x : Client). ask_row (may_ask (is_bind_op b c x.next) x) (is_bind_op b c x.next) x) (ended_row (is_bind_op b c) (serves s) y y.row.next)
    ∙ (λ i. ask_row (not (here i) && not (idle i) && not (bind i && held (none i))) (bind i) (record y.row { live = ended b c y.row }))

pub bind_asks : (s : Settings) (b : Book) (c at id : ℕ) (rest : List ℕ) (l : ClientLedger) (y : ClientSide) → ComesBind s b c id rest l y.row → lets_go_on (check_at s l.state (record { id = id; rest = rest })) ≡ true → is_pinned s l.state (record { id = id; rest = rest }) ≡ false → y.row.hold ≡ None
    → Makes s b c at None l (act (what.In id rest ∷ []) (drops l.state ++ asks s l.state at (record { id = id; rest = rest }))) y (endings y.row.next ++ Asking ∷ [])
bind_asks s b c at id rest l y h goes unpinned none =
    let m : Message = record { id = id; rest = rest } in
    let x = y.row in
    let z = client_behind s b c y (endings x.next) in
    let row = ended_row (is_bind_op b c) (serves s) y x.next in
    let bind : is_bind_op b c x.next ≡ true = h.booked.bind ∙ h.bind in
    let named = next_is s b c l x h.stands h.arrived in
    let letter : ask_letter (may_ask (is_bind_op b c z.row.next) z.row) z.row ≡ machine.Ask x.next ∷ [] =
    ap (λ (x : Client). ask_letter (may_ask (is_bind_op b c x.next) x) x) row ∙ (λ i. ask_letter (not (h.here i) && not (h.idle i) && not (bind i && held (none i))) (record x { live = ended b c x })) in
    ends_first s b c at l (what.In id rest ∷ []) (asks s l.state at m) y (Asking ∷ []) h.stands
    (subst (λ (w : ClientLedger). ClientStands s b c w (client_behind s b c z (Asking ∷ [])).row) (sym (came_behind s (ClientPart l.state.number) at id rest l true true true false h.makes h.bind goes unpinned))
    (subst (λ (w : Client). ClientStands s b c (came true true true false s at m l) w) (sym (asks_row s b c y h.here h.idle none bind)) (asks_stands s b c at id rest l x h unpinned none)))
    (λ q p. subst (λ (r : List ToDesk). Pairs (AskIs b c) (q ++ real.Ask (next_name l.state) (want_for s l.state at m) ∷ []) (z.asks ++ r)) (sym letter)
    (pairs_append (AskIs b c) q z.asks _ _ p (record { want = want_for s l.state at m; is = ap (λ (o : OpName). real.Ask o (want_for s l.state at m)) named; kind = wanted_kind s l.state at m ∙ wanted_same b c x.next m h.booked.bind }, tt)))
    (λ u q p. subst (λ (r : List Letter). Pairs (OrderIs s b c) r (z.orders u)) (sym (append-nil q)) p)
