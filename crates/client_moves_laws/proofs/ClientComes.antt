-- A request comes, and its operation is there until it is answered: the machine knows it by its number alone.
use Rattle.std.proofs.Common.{◌≡◌, ℕ, suc, ◌+◌, ◌<◌, Bool, true, false, ◌==◌, ◌&&◌, ◌||◌, not, if◌then◌else◌, List, [], ◌∷◌, ◌++◌, Option, Some, None, refl, ap, ◌∙◌, sym, arith, add-one}
use Rattle.std.specs.Prelude.{filter, is_some, map}
use Rattle.std.specs.List.{list_any}
use Rattle.std.proofs.lemmas.Bool.{eq-eqb}
use Rattle.ldap_spec.specs.Messages.{Message}
use Rattle.ldap_spec.specs.Kinds.{kind_of, same_kind}
use Rattle.lload_names.specs.declared.names.OpKind.TheVariants.{Bind}
use Rattle.lload_names.specs.declared.names.PartName.{PartName}
use Rattle.lload_spec.specs.Binding.{kind_wanted}
use Rattle.lload_spec.specs.Entries.{makes_operation}
use Rattle.lload_spec.specs.FirstCheck.{live_request, is_in_use, lets_go_on}
use Rattle.lload_spec.specs.Lists.{passes}
use Rattle.lload_spec.specs.Operations.{is_request_of}
use Rattle.lload_spec.specs.Settings.{Settings}
use Rattle.part_spec.specs.ClientState.{ClientState, ClientRow, facts_of, check_at, is_pinned, new_row, next_name, held_connection}
use Rattle.part_spec.specs.Fit.{ClientLedger, step_client_ledger, is_last_by, with_forward}
use Rattle.move_laws.specs.World.{World, Kinds, Client, put, conn_of, some_at}
use Rattle.move_laws.specs.AgreeBinds.{Holds}
use Rattle.move_laws.proofs.Fits.{num_false}
use Rattle.stands_laws.specs.Books.{Book, HasMade, is_bind_op, made_by}
use Rattle.stands_laws.specs.ClientStands.{row_of, live_upto, ClientStands}
use Rattle.stands_laws.proofs.Rows.{live_same, live_any}
use Rattle.stands_laws.proofs.Tests.{put_here, put_below, put_cases, put_and, find_kept}
use Rattle.client_laws.proofs.KindsKept.{carried_kind}
use Rattle.client_moves_laws.proofs.ClientCloses.{came_mark, come_state}

-- nothing is said of an operation yet
pub record Fresh (x : Client) (n : ℕ) : Type 0 where
  pub asked : x.asked n ≡ false
  pub chosen : x.chosen n ≡ false
  pub live : x.live n ≡ false
  pub given : x.given n ≡ None

pub none_given : (o : Option ℕ) → some_at o ≡ false → o ≡ None
none_given None e = refl
none_given (Some u) e = absurd (cc)

pub fresh : (kinds : Kinds) (w : World) (c : ℕ) → Holds kinds w → Fresh (w.clients c) (w.clients c).next
fresh kinds w c h =
    let x = w.clients c in
    let n = x.next in
    let a = h.asking c n in
    let z = a.fresh (omega arith) in
    let one = a.one in
    let told = a.told in
    record {
      asked = num_false (x.asked n) (omega arith);
      chosen = num_false (x.chosen n) (omega arith);
      live = num_false (x.live n) (omega arith);
      given = none_given (x.given n) (num_false (some_at (x.given n)) (omega arith));
    }

-- what the book has of a new operation
pub record Booked (s : Settings) (b : Book) (c : ℕ) (p : ClientState) (m : Message) (n : ℕ) : Type 0 where
  pub bind : is_bind_op b c n ≡ is_request_of Bind m
  pub kind : kind_of (b.request c n).rest ≡ kind_of m.rest
  pub id : (b.request c n).id ≡ m.id
  pub request : (new_row s p m).request ≡ b.request c n
  pub pinned : b.pinned c n ≡ is_pinned s p m
  pub row : (x : Client) → (new_row s p m).connection ≡ x.given n → new_row s p m ≡ row_of b c x n

pub booked : (s : Settings) (b : Book) (c : ℕ) (p : ClientState) (m : Message) (n : ℕ) → n ≡ suc p.count → HasMade b (made_by s c p m) → Booked s b c p m n
booked s b c p m n e h =
    let request : b.request c n ≡ (new_row s p m).request = ap (b.request c) e ∙ h.request in
    let kinds : kind_of (b.request c n).rest ≡ kind_of m.rest = ap (λ (q : Message). kind_of q.rest) request ∙ carried_kind s m p.identity in
    record {
      bind = ap (passes (same_kind Bind)) kinds;
      kind = kinds;
      id = ap (λ (q : Message). q.id) request;
      request = sym request;
      pinned = ap (b.pinned c) e ∙ h.pinned;
      row = λ x g i. record { k = sym e i; request = sym request i; action = sym (ap (b.action c) e ∙ h.action) i; connection = g i };
    }

-- no live operation is under a free identifier
free_rows : (id : ℕ) (rows : List ClientRow) → list_any (λ x. x.id == id) (map (λ r. live_request r.request) rows) ≡ list_any (λ r. r.request.id == id) rows
free_rows id [] = refl
free_rows id (r ∷ rs) = ap (λ (t : Bool). (r.request.id == id) || t) (free_rows id rs)

pub free_id : (s : Settings) (b : Book) (c id k : ℕ) (l : ClientLedger) (x : Client) → ClientStands s b c l x → is_in_use (facts_of l.state) id ≡ false → x.live k ≡ true → (b.request c k).id ≡ id → ⊥
free_id s b c id k l x h free live e =
    let none : list_any (λ r. r.request.id == id) (live_upto x.live (row_of b c x) x.next) ≡ false = ap (list_any (λ (r : ClientRow). r.request.id == id)) (sym h.rows) ∙ (sym (free_rows id l.state.rows) ∙ free) in
    let bad : true ≡ false = sym (eq-eqb (b.request c k).id id e) ∙ live_any (λ r. r.request.id == id) x.live (row_of b c x) x.next k none (h.below k live) live in
    absurd (cc)

-- The ledger behind a message that makes an operation.
abbrev pub came : (made bind goes pinned : Bool) → Settings → ℕ → Message → ClientLedger → ClientLedger
came made bind goes pinned s at m l = record {
  state = record (come_state made bind s at m l.state) { moment = at; asked = if goes && not pinned then l.state.asked ++ record { op = next_name l.state; kind = kind_wanted m } ∷ [] else l.state.asked };
  expected = filter (λ x. not (is_last_by x.op None)) (if goes && pinned then with_forward (next_name l.state) (new_row s l.state m).request (held_connection l.state) l.expected else l.expected);
}

came_computed : (s : Settings) (q : PartName) (at id : ℕ) (rest : List ℕ) (l : ClientLedger)
    → step_client_ledger s l (came_mark q at id rest) ≡ came (makes_operation (record { id = id; rest = rest })) (is_request_of Bind (record { id = id; rest = rest })) (lets_go_on (check_at s l.state (record { id = id; rest = rest }))) (is_pinned s l.state (record { id = id; rest = rest })) s at (record { id = id; rest = rest }) l
came_computed s q at id rest l = refl

pub came_behind : (s : Settings) (q : PartName) (at id : ℕ) (rest : List ℕ) (l : ClientLedger) (a d g p : Bool) → makes_operation (record { id = id; rest = rest }) ≡ a → is_request_of Bind (record { id = id; rest = rest }) ≡ d → lets_go_on (check_at s l.state (record { id = id; rest = rest })) ≡ g → is_pinned s l.state (record { id = id; rest = rest }) ≡ p
    → step_client_ledger s l (came_mark q at id rest) ≡ came a d g p s at (record { id = id; rest = rest }) l
came_behind s q at id rest l a d g p e f h k = came_computed s q at id rest l ∙ (λ i. came (e i) (f i) (h i) (k i) s at (record { id = id; rest = rest }) l)

pub number_next : (l : ClientLedger) (n : ℕ) → n ≡ (if l.state.arrived then suc l.state.count else 0) → l.state.arrived ≡ true → n ≡ suc l.state.count
number_next l n e a = rw a at e

-- a request that isn't a Bind, which the desk isn't asked for yet
abbrev pub coming : Client → Client
coming x = record x { next = x.next + 1; live = put x.live x.next true }

abbrev pub come_ledger : ℕ → ClientRow → ClientLedger → ClientLedger
come_ledger at r l = record {
  state = record l.state { count = suc l.state.count; rows = l.state.rows ++ r ∷ []; moment = at };
  expected = filter (λ x. not (is_last_by x.op None)) l.expected;
}

pub comes : (s : Settings) (b : Book) (c at : ℕ) (l : ClientLedger) (x : Client) → ClientStands s b c l x → Fresh x x.next → l.state.arrived ≡ true → x.gone ≡ false → x.busy ≡ false → is_bind_op b c x.next ≡ false
    → ((k : ℕ) → x.live k ≡ true → (b.request c k).id ≡ (b.request c x.next).id → ⊥) → is_some (kind_of (b.request c x.next).rest) ≡ true
    → ClientStands s b c (come_ledger at (row_of b c x x.next) l) (coming x)
comes s b c at l x h f arrived here idle plain apart known =
    let n : x.next ≡ suc l.state.count = number_next l x.next h.next arrived in
    record {
      number = h.number;
      next = rw arrived (omega arith);
      gone = h.gone;
      rows = rw (h.rows, add-one, put_here) (ap (λ xs. xs ++ row_of b c x x.next ∷ []) (live_same x.live (put x.live x.next true) (row_of b c x) (row_of b c x) x.next (λ k less. sym (put_below x.live x.next k true less)) (λ k less _. refl)));
      hold = h.hold;
      exchange = λ g _. h.exchange g idle;
      left = h.left;
      dead = λ e. absurd (let bad = sym e ∙ here in cc);
      quiet = h.quiet;
      bound = λ k live bind. put_cases x.live x.next k (conn_of x.hold ≡ x.given k) live (λ e. absurd (let no = ap (is_bind_op b c) e ∙ plain in cc)) (λ old. h.bound k old bind);
      busy = idle ∙ sym (put_and x.live x.next x.current (is_bind_op b c x.current) (λ e. ap (is_bind_op b c) e ∙ plain) (sym h.busy ∙ idle));
      one = λ k live bind. put_cases x.live x.next k (k ≡ x.current) live (λ e. absurd (let no = ap (is_bind_op b c) e ∙ plain in cc)) (λ old. h.one k old bind);
      below = λ k live. put_cases x.live x.next k (k < x.next + 1) live (λ e. omega arith) (λ old. let m = h.below k old in omega arith);
      ids = λ j k p q e. put_cases x.live x.next j (j ≡ k) p
          (λ u. put_cases x.live x.next k (j ≡ k) q (λ v. u ∙ sym v) (λ old. absurd (apart k old (sym e ∙ ap (λ i. (b.request c i).id) u))))
          (λ was. put_cases x.live x.next k (j ≡ k) q (λ v. absurd (apart j was (e ∙ ap (λ i. (b.request c i).id) v))) (λ old. h.ids j k was old e));
      kinds = λ k live. put_cases x.live x.next k (is_some (kind_of (b.request c k).rest) ≡ true) live (λ e. ap (λ i. is_some (kind_of (b.request c i).rest)) e ∙ known) (h.kinds k);
      asked = h.asked;
      expected = λ k u. find_kept _ _ l.expected (λ y _. refl) ∙ h.expected k u;
    }
