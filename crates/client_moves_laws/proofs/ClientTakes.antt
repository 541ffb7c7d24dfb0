-- A client takes a choice.
use Rattle.std.proofs.Common.{◌≡◌, ℕ, ◌<◌, Bool, true, false, ◌==◌, ◌&&◌, not, if◌then◌else◌, List, [], ◌∷◌, ◌++◌, Option, Some, None, refl, ap, ◌∙◌, sym}
use Rattle.std.specs.Prelude.{filter, find, map, unwrap_or}
use Rattle.std.specs.Option.{option_or}
use Rattle.std.proofs.lemmas.Bool.{eqb-true, ne_eqb, and_parts, and_from}
use Rattle.lload_names.specs.declared.names.OpName.{OpName}
use Rattle.lload_names.specs.declared.names.Answer.{Answer}
use Rattle.lload_names.specs.declared.names.Answer.TheVariants.{Go, Busy, Unavailable}
use Rattle.lload_names.specs.declared.names.PartName.{PartName}
use Rattle.lload_names.specs.declared.names.PartName.TheVariants.{Desk}
use Rattle.lload_names.specs.declared.names.Letter.TheVariants.{Choice}
use Rattle.lload_names.specs.declared.names.What.TheVariants as what
use Rattle.lload_spec.specs.Settings.{Settings}
use Rattle.lload_spec.specs.Journal.{same_op}
use Rattle.part_spec.specs.Marked.{Marked, Taken}
use Rattle.part_spec.specs.ClientState.{AskedFor, ClientState, ClientRow, row_named, with_connection, forwarded}
use Rattle.part_spec.specs.Fit.{Expected, ClientLedger, step_client_ledger, is_last_by, with_forward, going_to}
use Rattle.move_laws.specs.World.{Client, Hold, put, put_at, at, conn_of, held}
use Rattle.move_laws.specs.Clients.{choice_row}
use Rattle.stands_laws.specs.Books.{Book, is_bind_op, name}
use Rattle.stands_laws.specs.ClientStands.{row_of, hold_of, expected_at, ClientStands}
use Rattle.stands_laws.proofs.Tests.{same_self, same_name, if_same, eq_sym, find_kept, find_dropped, find_last}
use Rattle.stands_laws.proofs.Rows.{live_same, live_map, live_find}

-- the live operation of a name
pub row_found : (s : Settings) (b : Book) (c k : ℕ) (l : ClientLedger) (x : Client) → ClientStands s b c l x → k < x.next → row_named l.state (name c k) ≡ (if x.live k then Some (row_of b c x k) else None)
row_found s b c k l x h less = rw h.rows (live_find (λ r. l.state.number == c && r.k == k) x.live (row_of b c x) x.next k (λ i live. rw (h.number, same_self) refl) less)

-- the ledger behind Chosen, by what is found under the name
abbrev pub chosen_state : Option ClientRow → Answer → ClientState → ClientState
chosen_state o (Go u n) p = elim o [ None ↦ p | Some r ↦ with_connection u n p r ]
chosen_state o Busy p = p
chosen_state o Unavailable p = p

abbrev pub chosen_mark : PartName → ℕ → OpName → Answer → Option Taken → Marked
chosen_mark q at op answer mark = record { entry = record { part = q; at = at; what = what.Chosen op answer }; mark = mark }

abbrev pub chosen_ledger : Option ClientRow → ℕ → OpName → Answer → Option Taken → ClientLedger → ClientLedger
chosen_ledger o at op answer mark l = record {
  state = record (chosen_state o answer l.state) { moment = at; asked = filter (λ a. not (same_op op a.op)) l.state.asked };
  expected = filter (λ y. not (is_last_by y.op mark)) (elim o [ None ↦ l.expected | Some r ↦ with_forward op r.request (going_to answer) l.expected ]);
}

pub chosen_behind : (s : Settings) (q : PartName) (at : ℕ) (op : OpName) (answer : Answer) (mark : Option Taken) (l : ClientLedger) (o : Option ClientRow) → row_named l.state op ≡ o
    → step_client_ledger s l (chosen_mark q at op answer mark) ≡ chosen_ledger o at op answer mark l
chosen_behind s q at op (Go u n) mark l o e = ap (λ z. chosen_ledger z at op (Go u n) mark l) e
chosen_behind s q at op Busy mark l o e = ap (λ z. chosen_ledger z at op Busy mark l) e
chosen_behind s q at op Unavailable mark l o e = ap (λ z. chosen_ledger z at op Unavailable mark l) e

-- of what was asked for, the operation that was chosen for is there no longer
still_asked : (t : ℕ → AskedFor → Bool) (ys : List AskedFor) (j k : ℕ) (a ch : ℕ → Bool) (v : AskedFor) → ((i : ℕ) (y : AskedFor) → t i y ≡ true → t j y ≡ (i == j)) → find (t k) ys ≡ (if a k && not (ch k) then Some v else None)
    → find (t k) (filter (λ y. not (t j y)) ys) ≡ (if a k && not (put ch j true k) then Some v else None)
still_asked t ys j k a ch v e h = go (k == j) refl
  where
    none : (i : Bool) (v : AskedFor) → None ≡ (if i && false then Some v else None)
    none true v = refl
    none false v = refl

    go : (q : Bool) → (k == j) ≡ q → find (t k) (filter (λ y. not (t j y)) ys) ≡ (if a k && not (if q then true else ch k) then Some v else None)
    go true i = find_dropped (t k) (λ y. not (t j y)) ys (λ y f. ap not (e k y f ∙ i)) ∙ none (a k) v
    go false i = find_kept (t k) (λ y. not (t j y)) ys (λ y f. ap not (e k y f ∙ i)) ∙ h

named : (c : ℕ) (op : OpName) (i j : ℕ) → same_op (name c i) op ≡ true → same_op (name c j) op ≡ (i == j)
named c op i j e = let p = and_parts (c == op.client) (i == op.k) e in rw p.0 (let z : i ≡ op.k = eqb-true i op.k p.1 in rw z (eq_sym j op.k))

-- a choice without effect on its operation: it isn't live, or no connection was chosen
pub client_chosen : (s : Settings) (b : Book) (c k at : ℕ) (l : ClientLedger) (x : Client) (answer : Answer) (bind : Bool) (a : Option ℕ) → ClientStands s b c l x
    → ClientStands s b c (record { state = record l.state { moment = at; asked = filter (λ a. not (same_op (name c k) a.op)) l.state.asked }; expected = filter (λ y. true) l.expected }) (choice_row false bind k a x)
client_chosen s b c k at l x answer bind a h = record {
  number = h.number;
  next = h.next;
  gone = h.gone;
  rows = h.rows;
  hold = h.hold;
  exchange = h.exchange;
  left = h.left;
  dead = h.dead;
  quiet = h.quiet;
  bound = h.bound;
  busy = h.busy;
  one = h.one;
  below = h.below;
  ids = h.ids;
  kinds = h.kinds;
  asked = λ i. still_asked (λ i a. same_op (name c i) a.op) l.state.asked k i x.asked x.chosen _ (λ i y e. named c y.op i k e) (h.asked i);
  expected = λ i u. find_kept _ _ l.expected (λ y _. refl) ∙ h.expected i u;
}

-- the rows where the one of number k goes to a connection
forwarded_row : (b : Book) (c k u i : ℕ) (x y : Client) → x.given k ≡ None → y.given ≡ put_at x.given k (Some u) → forwarded k u (row_of b c x i) ≡ row_of b c y i
forwarded_row b c k u i x y fresh e = go (i == k) refl ∙ ap (λ (f : ℕ → Option ℕ). record { k = i; request = b.request c i; action = b.action c i; connection = f i }) (sym e)
  where
    go : (t : Bool) → (i == k) ≡ t → (if i == k then record { k = i; request = b.request c i; action = b.action c i; connection = Some (unwrap_or (x.given i) u) } else row_of b c x i) ≡ record { k = i; request = b.request c i; action = b.action c i; connection = if i == k then Some u else x.given i }
    go true t = rw t (ap (λ (o : Option ℕ). record { k = i; request = b.request c i; action = b.action c i; connection = Some (unwrap_or o u) }) (ap x.given (eqb-true i k t) ∙ fresh))
    go false t = rw t refl

held_by : (b : Book) (c k u : ℕ) (p : ClientState) (x : Client) (t : Bool) → p.number ≡ c → p.hold ≡ hold_of c x.hold → (if t then Some (record { connection = u; holder = record { client = p.number; k = k } }) else p.hold) ≡ hold_of c (if t then Some (record { conn = u; holder = k }) else x.hold)
held_by b c k u p x true n h = rw n refl
held_by b c k u p x false n h = h

-- what was expected, and one more
pub more_expected : (t : Bool) (w old : Option Expected) (g : Option ℕ) (u v : ℕ) (cl tk : Bool) (e : Expected) → t ≡ tk → (t ≡ true → g ≡ None) → (t ≡ true → cl ≡ false) → old ≡ (if at g v && not cl then Some e else None) → w ≡ (if t && (v == u) then Some e else None)
    → option_or old w ≡ (if at (if tk then Some u else g) v && not cl then Some e else None)
more_expected true w old g u v cl tk e i z y h n = rw (← i, h, n, z refl, y refl) (one (v == u))
  where
    one : (q : Bool) → (if q then Some e else None) ≡ (if q && true then Some e else None)
    one true = refl
    one false = refl
more_expected false w old g u v cl tk e i z y h n = rw (← i, n) (none old ∙ h)
  where
    none : (o : Option Expected) → option_or o None ≡ o
    none None = refl
    none (Some a) = refl

-- a live Bind is the current one, and makes its client busy
pub busy_by : (s : Settings) (b : Book) (c k : ℕ) (l : ClientLedger) (x : Client) → ClientStands s b c l x → x.live k ≡ true → is_bind_op b c k ≡ true → x.busy ≡ true
busy_by s b c k l x h live bind = let e = h.one k live bind in h.busy ∙ and_from (x.live x.current) (is_bind_op b c x.current) (ap x.live (sym e) ∙ live) (ap (is_bind_op b c) (sym e) ∙ bind)

same_exchange : (t busy : Bool) (q : Bool) (o : Option Hold) (v : Hold) → (t ≡ true → busy ≡ true) → busy ≡ false → q ≡ held o → q ≡ held (if t then Some v else o)
same_exchange true busy q o v e i h = absurd (let bad = e refl in cc)
same_exchange false busy q o v e i h = h

bound_by : (t : Bool) (g : ℕ → Option ℕ) (i k u : ℕ) (o : Option Hold) (v : Hold) → v.conn ≡ u → (t ≡ true → i ≡ k) → (t ≡ false → i ≡ k → ⊥) → conn_of o ≡ g i → conn_of (if t then Some v else o) ≡ put_at g k (Some u) i
bound_by true g i k u o v w e f h = rw (e refl, same_self) (ap Some w)
bound_by false g i k u o v w e f h = rw (ne_eqb i k (f refl)) h

-- a choice is of an operation that was asked for and has no connection
pub record Chosen (x : Client) (k : ℕ) : Type 0 where
  pub asked : x.asked k ≡ true
  pub chosen : x.chosen k ≡ false
  pub given : x.given k ≡ None
  pub open_at : (v : ℕ) → x.closed k v ≡ false

abbrev pub desk_choice : OpName → Answer → Option Taken
desk_choice op answer = Some (record { sender = Desk; letter = Choice op answer })

pub number_of : (c i k : ℕ) → same_op (name c i) (name c k) ≡ true → i ≡ k
number_of c i k e = eqb-true i k (sym (same_name c i k) ∙ e)

pub expected_same : (b : Book) (c i k v u : ℕ) → (same_op (name c i) (name c k) && v == u) ≡ true → expected_at b c k u ≡ expected_at b c i v
expected_same b c i k v u e = let p = and_parts (same_op (name c i) (name c k)) (v == u) e in let q = sym (number_of c i k p.0) in λ z. record { op = name c (q z); request = b.request c (q z); connection = sym (eqb-true v u p.1) z }

-- a live operation goes to the connection
pub client_goes : (s : Settings) (b : Book) (c k at u n : ℕ) (l : ClientLedger) (x : Client) → ClientStands s b c l x → Chosen x k → x.live k ≡ true → x.gone ≡ false
    → ClientStands s b c (chosen_ledger (Some (row_of b c x k)) at (name c k) (Go u n) (desk_choice (name c k) (Go u n)) l) (choice_row true (is_bind_op b c k) k (Some u) x)
client_goes s b c k at u n l x h f live here = record {
  number = h.number;
  next = h.next;
  gone = h.gone;
  rows = ap (map (forwarded k u)) h.rows ∙ (live_map (forwarded k u) x.live (row_of b c x) x.next ∙ live_same x.live x.live (λ i. forwarded k u (row_of b c x i)) (row_of b c (choice_row true (is_bind_op b c k) k (Some u) x)) x.next (λ _ _. refl) (λ i _ _. forwarded_row b c k u i x (choice_row true (is_bind_op b c k) k (Some u) x) f.given refl));
  hold = held_by b c k u l.state x (is_bind_op b c k) h.number h.hold;
  exchange = λ g idle. same_exchange (is_bind_op b c k) x.busy l.state.in_exchange x.hold (record { conn = u; holder = k }) (busy_by s b c k l x h live) idle (h.exchange g idle);
  left = λ e. absurd (let bad = sym e ∙ here in cc);
  dead = h.dead;
  quiet = h.quiet;
  bound = λ i alive bind. bound_by (is_bind_op b c k) x.given i k u x.hold (record { conn = u; holder = k }) refl (λ e. h.one i alive bind ∙ sym (h.one k live e)) (λ e z. absurd (let bad = sym bind ∙ (ap (is_bind_op b c) z ∙ e) in cc)) (h.bound i alive bind);
  busy = h.busy;
  one = h.one;
  below = h.below;
  ids = h.ids;
  kinds = h.kinds;
  asked = λ i. still_asked (λ i a. same_op (name c i) a.op) l.state.asked k i x.asked x.chosen _ (λ i y e. named c y.op i k e) (h.asked i);
  expected = λ i v. find_kept _ _ (l.expected ++ record { op = name c k; request = b.request c k; connection = u } ∷ []) (λ y _. refl) ∙ (find_last (λ y. same_op (name c i) y.op && v == y.connection) l.expected _ _ refl ∙ more_expected (same_op (name c i) (name c k)) (if same_op (name c i) (name c k) && v == u then Some (record { op = name c k; request = b.request c k; connection = u }) else None) (find (λ y. same_op (name c i) y.op && v == y.connection) l.expected) (x.given i) u v (x.closed i v) (i == k) (record { op = name c i; request = b.request c i; connection = v }) (same_name c i k) (λ e. ap x.given (number_of c i k e) ∙ f.given) (λ e. ap (λ j. x.closed j v) (number_of c i k e) ∙ f.open_at v) (h.expected i v) (if_same (same_op (name c i) (name c k) && v == u) _ _ (λ e. expected_same b c i k v u e)));
}
