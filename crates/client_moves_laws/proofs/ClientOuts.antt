-- A client's operation is answered, and ends.
use Rattle.std.proofs.Common.{◌≡◌, ℕ, zero, suc, ◌<◌, Bool, true, false, ◌==◌, ◌&&◌, not, if◌then◌else◌, List, [], ◌∷◌, ◌++◌, Option, Some, None, refl, ap, ◌∙◌, sym, subst, arith}
use Rattle.std.specs.Prelude.{filter, find}
use Rattle.std.proofs.lemmas.Bool.{eqb-true, eqb-false, eq-eqb, ne_eqb}
use Rattle.ldap_spec.specs.Requests.{request}
use Rattle.ldap_spec.specs.Responses.{has_code}
use Rattle.lload_names.specs.declared.names.PartName.{PartName}
use Rattle.lload_names.specs.declared.names.What.TheVariants as what
use Rattle.lload_spec.specs.Identity.{identity_of}
use Rattle.lload_spec.specs.Lists.{last}
use Rattle.lload_spec.specs.Operations.{is_final_for}
use Rattle.lload_spec.specs.Settings.{Settings}
use Rattle.lload_spec.specs.Journal.{same_op}
use Rattle.part_spec.specs.Marked.{Marked, Taken}
use Rattle.part_spec.specs.ClientState.{Held, Window, ClientState, ClientRow, row_under, with_answer, without, who_told}
use Rattle.part_spec.specs.Fit.{Expected, ClientLedger, step_client_ledger, is_last_by}
use Rattle.move_laws.specs.World.{Client, Hold, put, at, some_at, conn_of, held}
use Rattle.stands_laws.specs.Books.{Book, is_bind_op, name}
use Rattle.stands_laws.specs.ClientStands.{live_upto, row_of, hold_of, expected_at, ClientStands}
use Rattle.stands_laws.proofs.Tests.{same_self, same_both, before_last, put_out, put_without, put_dead}
use Rattle.stands_laws.proofs.Rows.{live_same, live_filter, live_none}
use Rattle.client_moves_laws.proofs.ClientTakes.{busy_by}

-- the ledger behind an Out, by what is found under its identifier
abbrev pub out_state : Option ClientRow → Settings → ℕ → Option Taken → List ℕ → ClientState → ClientState
out_state o s at mark rest p = elim o [ None ↦ p | Some r ↦ with_answer s at mark rest p r ]

abbrev pub out_mark : PartName → ℕ → ℕ → List ℕ → Option Taken → Marked
out_mark q at id rest mark = record { entry = record { part = q; at = at; what = what.Out id rest }; mark = mark }

abbrev pub out_ledger : Option ClientRow → Settings → ℕ → List ℕ → Option Taken → ClientLedger → ClientLedger
out_ledger o s at rest mark l = record {
  state = record (out_state o s at mark rest l.state) { moment = at; asked = l.state.asked };
  expected = filter (λ y. not (is_last_by y.op mark)) l.expected;
}

pub out_behind : (s : Settings) (q : PartName) (at id : ℕ) (rest : List ℕ) (mark : Option Taken) (l : ClientLedger) (o : Option ClientRow) → row_under l.state id ≡ o
    → step_client_ledger s l (out_mark q at id rest mark) ≡ out_ledger o s at rest mark l
out_behind s q at id rest mark l o e = ap (λ z. out_ledger z s at rest mark l) e

-- exactly one is live
pub live_single : {A : Type 0} (p : ℕ → Bool) (f : ℕ → A) (n j : ℕ) → ((k : ℕ) → k < n → p k ≡ (k == j)) → j < n → live_upto p f n ≡ f j ∷ []
live_single p f zero j e l = absurd (omega arith)
live_single p f (suc n) j e l = go (n == j) refl (live_single p f n j (λ k m. e k (omega arith)))
  where
    go : (t : Bool) → (n == j) ≡ t → (j < n → live_upto p f n ≡ f j ∷ []) → live_upto p f n ++ (if p n then f n ∷ [] else []) ≡ f j ∷ []
    go true i h = let z = eqb-true n j i in rw (e n (omega arith) ∙ i, live_none p f n (λ k m. e k (omega arith) ∙ ne_eqb k j (λ y. omega arith))) (ap (λ y. f y ∷ []) z)
    go false i h = let z = h (before_last j n l (eqb-false n j i)) in rw (e n (omega arith) ∙ i, z) refl

-- what is found under the identifier of a live operation is its row
pub under_found : (s : Settings) (b : Book) (c k : ℕ) (l : ClientLedger) (x : Client) → ClientStands s b c l x → x.live k ≡ true → row_under l.state (b.request c k).id ≡ Some (row_of b c x k)
under_found s b c k l x h live = ap (λ rows. last (filter (λ r. r.request.id == (b.request c k).id) rows)) h.rows ∙ ap last (live_filter (λ r. r.request.id == (b.request c k).id) x.live (row_of b c x) x.next ∙ live_single (λ i. x.live i && ((b.request c i).id == (b.request c k).id)) (row_of b c x) x.next k (λ i _. same_both (x.live i) ((b.request c i).id == (b.request c k).id) (i == k) (λ e. ap x.live (eqb-true i k e) ∙ live) (λ e. ap (λ j. (b.request c j).id == (b.request c k).id) (eqb-true i k e) ∙ same_self (b.request c k).id) (λ p q. eq-eqb i k (h.ids i k p live (eqb-true _ _ q)))) (h.below k live))

-- the state behind the end of a live operation, by whether it is a Bind and whether its exchange stays
abbrev pub closed_state : Bool → Bool → Window → List ℕ → ℕ → ClientState → ClientState
closed_state t stay w who k p = record p {
  rows = filter (λ r. not (r.k == k)) p.rows;
  window = w;
  hold = if t && not stay then None else p.hold;
  in_exchange = if t && stay then true else p.in_exchange;
  identity = who;
}

abbrev pub closed_row : Bool → Bool → ℕ → (ℕ → ℕ → Bool) → Client → Client
closed_row t stay k closed x = record x { live = put x.live k false; busy = if t then false else x.busy; hold = if t && not stay then None else x.hold; closed = closed }

no_hold : (c : ℕ) (t : Bool) (p : Option Held) (o : Option Hold) → p ≡ hold_of c o → (if t then None else p) ≡ hold_of c (if t then None else o)
no_hold c true p o h = refl
no_hold c false p o h = h

held_given : (o : Option Hold) → some_at (conn_of o) ≡ held o
held_given None = refl
held_given (Some v) = refl

exchange_left : (t stay busy q : Bool) (o : Option Hold) (g : Option ℕ) → (t ≡ true → conn_of o ≡ g) → (t ≡ true → stay ≡ true → some_at g ≡ true) → (t ≡ true → q ≡ false) → (busy ≡ false → q ≡ held o) → (if t then false else busy) ≡ false
    → (if t && stay then true else q) ≡ held (if t && not stay then None else o)
exchange_left true true busy q o g f i j h e = sym (i refl refl) ∙ (ap some_at (sym (f refl)) ∙ held_given o)
exchange_left true false busy q o g f i j h e = j refl
exchange_left false stay busy q o g f i j h e = h e

quiet_left : (t stay busy q : Bool) → (busy ≡ true → q ≡ false) → (if t then false else busy) ≡ true → (if t && stay then true else q) ≡ false
quiet_left true stay busy q h e = absurd (cc)
quiet_left false stay busy q h e = h e

busy_left : (t busy : Bool) (f : ℕ → Bool) (bind : ℕ → Bool) (k n : ℕ) → bind k ≡ t → (t ≡ true → n ≡ k) → busy ≡ (f n && bind n) → (if t then false else busy) ≡ (put f k false n && bind n)
busy_left true busy f bind k n e g h = rw (g refl, same_self) refl
busy_left false busy f bind k n e g h = go (n == k) refl
  where
    none : (v w : Bool) → w ≡ false → (v && w) ≡ false
    none v w i = rw i (both v)
      where
        both : (v : Bool) → (v && false) ≡ false
        both true = refl
        both false = refl

    go : (q : Bool) → (n == k) ≡ q → busy ≡ ((if q then false else f n) && bind n)
    go true i = h ∙ none (f n) (bind n) (ap bind (eqb-true n k i) ∙ e)
    go false i = h

pub client_closes : (s : Settings) (b : Book) (c k now : ℕ) (t stay : Bool) (w : Window) (who : List ℕ) (l : ClientLedger) (x : Client) (expected : List Expected) (closed : ℕ → ℕ → Bool) → ClientStands s b c l x → x.live k ≡ true → is_bind_op b c k ≡ t
    → (t ≡ true → stay ≡ true → some_at (x.given k) ≡ true) → ((i u : ℕ) → find (λ y. same_op (name c i) y.op && u == y.connection) expected ≡ (if at (x.given i) u && not (closed i u) then Some (expected_at b c i u) else None))
    → ClientStands s b c (record { state = record (closed_state t stay w who k l.state) { moment = now; asked = l.state.asked }; expected = expected }) (closed_row t stay k closed x)
client_closes s b c k now t stay w who l x expected closed h live kind sent told = record {
  number = h.number;
  next = h.next;
  gone = h.gone;
  rows = ap (filter (λ r. not (r.k == k))) h.rows ∙ (live_filter (λ r. not (r.k == k)) x.live (row_of b c x) x.next ∙ live_same (λ i. x.live i && not (i == k)) (put x.live k false) (row_of b c x) (row_of b c x) x.next (λ i _. put_without x.live k i) (λ _ _ _. refl));
  hold = no_hold c (t && not stay) l.state.hold x.hold h.hold;
  exchange = λ g. exchange_left t stay x.busy l.state.in_exchange x.hold (x.given k) (λ e. h.bound k live (kind ∙ e)) sent (λ e. h.quiet (busy_by s b c k l x h live (kind ∙ e))) (h.exchange g);
  left = λ e. none_left (t && not stay) (h.left e);
  dead = λ e i. put_dead x.live k i (h.dead e i);
  quiet = quiet_left t stay x.busy l.state.in_exchange h.quiet;
  bound = λ i p q. put_out x.live k i _ p (λ z was. bound_left i z was q);
  busy = busy_left t x.busy x.live (is_bind_op b c) k x.current kind (λ e. sym (h.one k live (kind ∙ e))) h.busy;
  one = λ i p q. put_out x.live k i _ p (λ z was. h.one i was q);
  below = λ i p. put_out x.live k i _ p (λ z was. h.below i was);
  ids = λ i j p q e. put_out x.live k i _ p (λ z was. put_out x.live k j _ q (λ y old. h.ids i j was old e));
  kinds = λ i p. put_out x.live k i _ p (λ z was. h.kinds i was);
  asked = h.asked;
  expected = told;
}
  where
    both_there : (t : Bool) (i : ℕ) (o : Option Hold) (g : Option ℕ) → (t ≡ true → ⊥) → conn_of o ≡ g → conn_of (if t && not stay then None else o) ≡ g
    both_there true i o g f e = absurd (f refl)
    both_there false i o g f e = e

    none_left : (t : Bool) → x.hold ≡ None → (if t then None else x.hold) ≡ None
    none_left true e = refl
    none_left false e = e

    bound_left : (i : ℕ) → (i ≡ k → ⊥) → x.live i ≡ true → is_bind_op b c i ≡ true → conn_of (if t && not stay then None else x.hold) ≡ x.given i
    bound_left i z was q = both_there t i x.hold (x.given i) (λ e. z (h.one i was q ∙ sym (h.one k live (kind ∙ e)))) (h.bound i was q)

-- a final answer, by whether it is of a Bind and goes on
abbrev pub answer_state : (final t stay : Bool) → Settings → ℕ → Option Taken → List ℕ → ClientState → ClientRow → ClientState
answer_state final t stay s now mark rest p r = elim final [
  | false ↦ p
  | true ↦ elim t [
    | true ↦ elim stay [
      | true ↦ record (without (λ z. z.k == r.k) now p) { in_exchange = true }
      | false ↦ record (without (λ z. z.k == r.k) now p) { hold = None; identity = if has_code 0 rest then identity_of s (who_told mark) (request r.request.rest) else [] }
    ]
    | false ↦ without (λ z. z.k == r.k) now p
  ]
]

pub client_answered : (s : Settings) (b : Book) (c k now : ℕ) (rest : List ℕ) (mark : Option Taken) (l : ClientLedger) (x : Client) (closed : ℕ → ℕ → Bool) → ClientStands s b c l x → x.live k ≡ true → is_final_for (b.request c k) rest ≡ true
    → (is_bind_op b c k ≡ true → has_code 14 rest ≡ true → some_at (x.given k) ≡ true) → ((i u : ℕ) → find (λ y. same_op (name c i) y.op && u == y.connection) (filter (λ y. not (is_last_by y.op mark)) l.expected) ≡ (if at (x.given i) u && not (closed i u) then Some (expected_at b c i u) else None))
    → ClientStands s b c (out_ledger (Some (row_of b c x k)) s now rest mark l) (closed_row (is_bind_op b c k) (has_code 14 rest) k closed x)
client_answered s b c k now rest mark l x closed h live final sent told =
    subst (λ (f : Bool). ClientStands s b c (ledger f (is_bind_op b c k) (has_code 14 rest)) (closed_row (is_bind_op b c k) (has_code 14 rest) k closed x)) (sym final) (go (is_bind_op b c k) (has_code 14 rest) refl sent)
  where
    ledger : (final t stay : Bool) → ClientLedger
    ledger f t stay = record { state = record (answer_state f t stay s now mark rest l.state (row_of b c x k)) { moment = now; asked = l.state.asked }; expected = filter (λ y. not (is_last_by y.op mark)) l.expected }

    go : (t stay : Bool) → is_bind_op b c k ≡ t → (t ≡ true → stay ≡ true → some_at (x.given k) ≡ true) → ClientStands s b c (ledger true t stay) (closed_row t stay k closed x)
    go true true e f = client_closes s b c k now true true _ _ l x _ closed h live e f told
    go true false e f = client_closes s b c k now true false _ _ l x _ closed h live e f told
    go false stay e f = client_closes s b c k now false stay _ _ l x _ closed h live e f told
