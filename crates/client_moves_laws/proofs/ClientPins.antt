-- A Bind goes on in its exchange: it goes to the connection that its client holds.
use Rattle.std.proofs.Common.{◌≡◌, ℕ, ◌+◌, Bool, true, false, ◌==◌, ◌&&◌, not, if◌then◌else◌, List, [], ◌∷◌, ◌++◌, Option, Some, None, refl, ap, ◌∙◌, sym, subst, arith, append-nil}
use Rattle.std.specs.Prelude.{find, is_some}
use Rattle.std.proofs.lemmas.Bool.{and_from}
use Rattle.ldap_spec.specs.Messages.{Message}
use Rattle.ldap_spec.specs.Kinds.{kind_of}
use Rattle.lload_names.specs.declared.names.Letter.{Letter}
use Rattle.lload_names.specs.declared.names.Letter.TheVariants.{Forward}
use Rattle.lload_names.specs.declared.names.OpKind.{OpKind}
use Rattle.lload_names.specs.declared.names.OpKind.TheVariants.{Bind}
use Rattle.lload_names.specs.declared.names.PartName.TheVariants.{Desk, Client as ClientPart, Up as Connection}
use Rattle.lload_names.specs.declared.names.Posted.{Posted}
use Rattle.lload_names.specs.declared.names.What.TheVariants as what
use Rattle.lload_spec.specs.Answers.{wants_identity}
use Rattle.lload_spec.specs.FirstCheck.{lets_go_on}
use Rattle.lload_spec.specs.Journal.{same_op}
use Rattle.lload_spec.specs.Settings.{Settings}
use Rattle.part_spec.specs.Inputs.{act}
use Rattle.part_spec.specs.Marked.{letters_to}
use Rattle.part_spec.specs.ClientState.{ClientRow, Held, check_at, held_connection, is_pinned, new_row, next_name}
use Rattle.part_spec.specs.ClientTurn.{drops, forward, goes_on}
use Rattle.part_spec.specs.Fit.{Expected, ClientLedger, with_forward}
use Rattle.move_laws.specs.World.{Client, ToDesk, ToConn, Hold, at, conn_of, held, holder_of, put, put_at}
use Rattle.move_laws.specs.World as machine
use Rattle.move_laws.specs.Clients.{bind_letter, bind_row, may_bind}
use Rattle.stands_laws.specs.Lists.{Pairs}
use Rattle.stands_laws.specs.Books.{Book, is_bind_op, name}
use Rattle.stands_laws.specs.Letters.{AskIs, OrderIs}
use Rattle.stands_laws.specs.ClientSides.{ClientSide, Binding, endings}
use Rattle.stands_laws.specs.ClientStands.{row_of, hold_of, expected_at, serves, ClientStands}
use Rattle.stands_laws.specs.Follows.{client_behind}
use Rattle.stands_laws.proofs.Tests.{same_self, same_name, if_same, put_here, find_kept, find_last}
use Rattle.client_moves_laws.proofs.Makes.{Makes}
use Rattle.client_moves_laws.proofs.ClientTakes.{expected_same, more_expected, number_of}
use Rattle.client_moves_laws.proofs.ClientOuts.{live_single}
use Rattle.client_moves_laws.proofs.ClientChoices.{forward_pairs}
use Rattle.client_moves_laws.proofs.ClientEnds.{ended_row}
use Rattle.client_moves_laws.proofs.ClientComes.{came, came_behind}
use Rattle.client_moves_laws.proofs.ClientRequests.{next_is}
use Rattle.client_moves_laws.proofs.ClientBinds.{ComesBind, alone_live, binding_row, ended, ends_first, next_counted, only}

-- the connection that it holds, and the operation that this was chosen for
pub record Pinned (s : Settings) (c id : ℕ) (rest : List ℕ) (l : ClientLedger) (x : Client) (h : Hold) : Type 0 where
  pub pinned : is_pinned s l.state (record { id = id; rest = rest }) ≡ true
  pub hold : x.hold ≡ Some h
  pub older : (h.holder == x.next) ≡ false
  pub open_at : (v : ℕ) → x.closed x.next v ≡ false

module _ (s : Settings) (b : Book) (c now id : ℕ) (rest : List ℕ) (l : ClientLedger) (x : Client) (g : Hold) (h : ComesBind s b c id rest l x) (p : Pinned s c id rest l x g) where
  abbrev message : Message
  message = record { id = id; rest = rest }

  held_here : held_connection l.state ≡ Some g.conn
  held_here = ap (λ (o : Option Held). elim o [ None ↦ None | Some z ↦ Some z.connection ]) (h.stands.hold ∙ ap (hold_of c) p.hold)

  given_here : (binding_row b c x).given x.next ≡ Some g.conn
  given_here = ap (λ (t : Bool). if t then conn_of x.hold else x.given x.next) (same_self x.next) ∙ ap conn_of p.hold

  new_connection : (new_row s l.state message).connection ≡ (binding_row b c x).given x.next
  new_connection = ap (λ (t : Bool). elim t [ true ↦ held_connection l.state | false ↦ None ]) p.pinned ∙ (held_here ∙ sym given_here)

  named : next_name l.state ≡ name c x.next
  named = next_is s b c l x h.stands h.arrived

  more : with_forward (next_name l.state) (new_row s l.state message).request (held_connection l.state) l.expected ≡ l.expected ++ expected_at b c x.next g.conn ∷ []
  more = λ i. with_forward (named i) (h.booked.request i) (held_here i) l.expected

  expected_now : (i v : ℕ) → find (λ y. same_op (name c i) y.op && v == y.connection) (l.expected ++ expected_at b c x.next g.conn ∷ []) ≡ (if at ((binding_row b c x).given i) v && not (x.closed i v) then Some (expected_at b c i v) else None)
  expected_now i v =
      let n = x.next in
      find_last (λ y. same_op (name c i) y.op && v == y.connection) l.expected (expected_at b c n g.conn) _ refl
      ∙ (more_expected (same_op (name c i) (name c n)) (if same_op (name c i) (name c n) && v == g.conn then Some (expected_at b c n g.conn) else None) (find (λ y. same_op (name c i) y.op && v == y.connection) l.expected) (x.given i) g.conn v (x.closed i v) (i == n) (expected_at b c i v) (same_name c i n)
      (λ e. ap x.given (number_of c i n e) ∙ h.fresh.given) (λ e. ap (λ j. x.closed j v) (number_of c i n e) ∙ p.open_at v) (h.stands.expected i v) (if_same (same_op (name c i) (name c n) && v == g.conn) _ _ (λ e. expected_same b c i n v g.conn e))
      ∙ ap (λ (o : Option ℕ). if at (if i == n then o else x.given i) v && not (x.closed i v) then Some (expected_at b c i v) else None) (sym (ap conn_of p.hold)))

  binds_stands : ClientStands s b c (came true true true true s now message l) (binding_row b c x)
  binds_stands = record {
    number = h.stands.number;
    next = next_counted l.state.arrived x.next l.state.count h.arrived h.stands.next;
    gone = h.stands.gone;
    rows = ap (λ (r : ClientRow). r ∷ []) (h.booked.row (binding_row b c x) new_connection) ∙ sym (live_single (put (ended b c x) x.next true) (row_of b c (binding_row b c x)) (x.next + 1) x.next (λ k _. alone_live s b c k l x h.stands h.idle) (omega arith));
    hold = h.stands.hold;
    exchange = λ _ e. absurd (cc);
    left = λ e. absurd (let bad = sym e ∙ h.here in cc);
    dead = λ e. absurd (let bad = sym e ∙ h.here in cc);
    quiet = λ _. refl;
    bound = λ k live bind. ap conn_of p.hold ∙ (sym given_here ∙ ap (binding_row b c x).given (sym (only s b c k l x h.stands h.idle live)));
    busy = sym (and_from (put (ended b c x) x.next true x.next) (is_bind_op b c x.next) (put_here (ended b c x) x.next true) (h.booked.bind ∙ h.bind));
    one = λ k live bind. only s b c k l x h.stands h.idle live;
    below = λ k live. let e = only s b c k l x h.stands h.idle live in omega arith;
    ids = λ j k q r e. only s b c j l x h.stands h.idle q ∙ sym (only s b c k l x h.stands h.idle r);
    kinds = λ k live. ap (λ (i : ℕ). is_some (kind_of (b.request c i).rest)) (only s b c k l x h.stands h.idle live) ∙ ap is_some (h.booked.kind ∙ h.known);
    asked = h.stands.asked;
    expected = λ i v. find_kept (λ y. same_op (name c i) y.op && v == y.connection) (λ (y : Expected). true) (with_forward (next_name l.state) (new_row s l.state message).request (held_connection l.state) l.expected) (λ y _. refl) ∙ (ap (find (λ y. same_op (name c i) y.op && v == y.connection)) more ∙ expected_now i v);
  }

pub binds_row : (s : Settings) (b : Book) (c : ℕ) (y : ClientSide) (g : Hold) → y.row.gone ≡ false → y.row.busy ≡ false → y.row.hold ≡ Some g → is_bind_op b c y.row.next ≡ true → (client_behind s b c (client_behind s b c y (endings y.row.next)) (Binding ∷ [])).row ≡ binding_row b c y.row
binds_row s b c y g here idle hold bind =
    ap (λ (x : Client). bind_row (may_bind (is_bind_op b c x.next) x) x) (ended_row (is_bind_op b c) (serves s) y y.row.next)
    ∙ (λ i. bind_row (not (here i) && not (idle i) && (bind i && held (hold i))) (record y.row { live = ended b c y.row }))

-- the letters that go on
goes_letters : (s : Settings) (b : Book) (c id : ℕ) (rest : List ℕ) (l : ClientLedger) (x : Client) (g : Hold) → ComesBind s b c id rest l x → Pinned s c id rest l x g
    → goes_on s l.state (record { id = id; rest = rest }) ≡ forward s l.state (new_row s l.state (record { id = id; rest = rest })) (name c g.holder) g.conn
goes_letters s b c id rest l x g h p = ap (λ (o : Option Held). elim o [ None ↦ [] | Some z ↦ forward s l.state (new_row s l.state (record { id = id; rest = rest })) z.holder z.connection ]) (h.stands.hold ∙ ap (hold_of c) p.hold)

no_forward : (u : ℕ) (f : OpKind → Letter) (o : Option OpKind) → letters_to Desk (elim o [ None ↦ [] | Some kind ↦ record { to = Connection u; letter = f kind } ∷ [] ]) ≡ []
no_forward u f None = refl
no_forward u f (Some kind) = refl

pub bind_goes_on : (s : Settings) (b : Book) (c at id : ℕ) (rest : List ℕ) (l : ClientLedger) (y : ClientSide) (g : Hold) → ComesBind s b c id rest l y.row → Pinned s c id rest l y.row g → lets_go_on (check_at s l.state (record { id = id; rest = rest })) ≡ true
    → Makes s b c at None l (act (what.In id rest ∷ []) (drops l.state ++ goes_on s l.state (record { id = id; rest = rest }))) y (endings y.row.next ++ Binding ∷ [])
bind_goes_on s b c at id rest l y g h p goes =
    let m : Message = record { id = id; rest = rest } in
    let x = y.row in
    let z = client_behind s b c y (endings x.next) in
    let row = ended_row (is_bind_op b c) (serves s) y x.next in
    let bind : is_bind_op b c x.next ≡ true = h.booked.bind ∙ h.bind in
    let r = new_row s l.state m in
    let letters = goes_letters s b c id rest l x g h p in
    let pin : b.pinned c x.next ≡ not (g.holder == x.next) = h.booked.pinned ∙ (p.pinned ∙ ap not (sym p.older)) in
    let known : kind_of r.request.rest ≡ Some Bind = ap (λ (q : Message). kind_of q.rest) h.booked.request ∙ (h.booked.kind ∙ h.known) in
    let order : (u : ℕ) → bind_letter (may_bind (is_bind_op b c z.row.next) z.row) z.row u ≡ (if u == g.conn then machine.Forward x.next g.holder ∷ [] else []) =
    λ u. ap (λ (x : Client). bind_letter (may_bind (is_bind_op b c x.next) x) x u) row ∙ (λ i. bind_letter (not (h.here i) && not (h.idle i) && (bind i && held (p.hold i))) (record x { live = ended b c x; hold = p.hold i }) u) in
    ends_first s b c at l (what.In id rest ∷ []) (goes_on s l.state m) y (Binding ∷ []) h.stands
    (subst (λ (w : ClientLedger). ClientStands s b c w (client_behind s b c z (Binding ∷ [])).row) (sym (came_behind s (ClientPart l.state.number) at id rest l true true true true h.makes h.bind goes p.pinned))
    (subst (λ (w : Client). ClientStands s b c (came true true true true s at m l) w) (sym (binds_row s b c y g h.here h.idle p.hold bind)) (binds_stands s b c at id rest l x g h p)))
    (λ q w. subst (λ (r : List Letter). Pairs (AskIs b c) r z.asks) (sym (ap (λ (r : List Letter). q ++ r) (ap (letters_to Desk) letters ∙ no_forward g.conn (λ kind. Forward (next_name l.state) kind r.request.rest (wants_identity s r.request) (name c g.holder)) (kind_of r.request.rest)) ∙ append-nil q)) w)
    (λ u q w. subst (λ (ls : List Posted). Pairs (OrderIs s b c) (q ++ letters_to (Connection u) ls) (z.orders u ++ bind_letter (may_bind (is_bind_op b c z.row.next) z.row) z.row u)) (sym letters)
    (subst (λ (os : List ToConn). Pairs (OrderIs s b c) (q ++ letters_to (Connection u) (forward s l.state r (name c g.holder) g.conn)) (z.orders u ++ os)) (sym (order u))
    (forward_pairs s b c x.next g.holder g.conn u (next_name l.state) (name c g.holder) r (kind_of r.request.rest) q (z.orders u) pin h.booked.request (next_is s b c l x h.stands h.arrived) refl refl (ap is_some known) w)))
