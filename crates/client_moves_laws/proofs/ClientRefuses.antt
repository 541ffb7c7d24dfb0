-- A request that isn't a Bind is answered at once, and maybe another operation with it.
use Rattle.std.proofs.Common.{◌≡◌, ℕ, ◌+◌, Bool, true, false, ◌==◌, ◌&&◌, not, if◌then◌else◌, List, [], ◌∷◌, ◌++◌, Option, Some, None, refl, ap, ◌∙◌, sym, subst, append-nil}
use Rattle.std.specs.Prelude.{filter, find, is_some}
use Rattle.std.proofs.lemmas.Bool.{eqb-true, eqb-false, ne_eqb}
use Rattle.ldap_spec.specs.Messages.{Message}
use Rattle.ldap_spec.specs.Kinds.{kind_of, is_final}
use Rattle.ldap_spec.specs.Responses.{has_code}
use Rattle.lload_names.specs.declared.names.Letter.{Letter}
use Rattle.lload_names.specs.declared.names.OpKind.{OpKind}
use Rattle.lload_names.specs.declared.names.OpKind.TheVariants.{Bind}
use Rattle.lload_names.specs.declared.names.PartName.TheVariants.{Desk, Client as ClientPart, Up as Connection}
use Rattle.lload_names.specs.declared.names.What.TheVariants as what
use Rattle.lload_spec.specs.Entries.{makes_operation}
use Rattle.lload_spec.specs.FirstCheck.{lets_go_on}
use Rattle.lload_spec.specs.Journal.{same_op}
use Rattle.lload_spec.specs.Lists.{passes}
use Rattle.lload_spec.specs.Operations.{is_request_of, is_final_for}
use Rattle.lload_spec.specs.Settings.{Settings}
use Rattle.part_spec.specs.Inputs.{act}
use Rattle.part_spec.specs.Marked.{letters_to}
use Rattle.part_spec.specs.ClientState.{ClientState, ClientRow, check_at, held_connection, is_pinned, new_row, row_under}
use Rattle.part_spec.specs.ClientTurn.{drop_of}
use Rattle.part_spec.specs.Fit.{ClientLedger, step_client_ledger}
use Rattle.move_laws.specs.World.{Client, ToDesk, ToConn, at, put, some_at}
use Rattle.move_laws.specs.World as machine
use Rattle.move_laws.specs.Clients.{may_end, end_row, refuse_row, drop_letter}
use Rattle.stands_laws.specs.Lists.{Pairs}
use Rattle.stands_laws.specs.Books.{Book, is_bind_op, name}
use Rattle.stands_laws.specs.Letters.{AskIs, OrderIs}
use Rattle.stands_laws.specs.ClientSides.{ClientSide, Refusing, Ending}
use Rattle.stands_laws.specs.ClientStands.{row_of, expected_at, ClientStands}
use Rattle.stands_laws.proofs.Pairs.{pairs_append}
use Rattle.stands_laws.proofs.Tests.{put_here, find_kept}
use Rattle.client_moves_laws.proofs.Makes.{Makes}
use Rattle.client_moves_laws.proofs.ClientOuts.{out_mark, out_ledger, out_behind, under_found, client_answered, closed_row}
use Rattle.client_moves_laws.proofs.ClientEnds.{dropped_pairs, no_drop}
use Rattle.client_moves_laws.proofs.ClientCloses.{came_mark}
use Rattle.client_moves_laws.proofs.ClientComes.{Fresh, Booked, came_behind, coming, come_ledger, comes}

-- a request that isn't a Bind comes, and the desk isn't asked
pub record Comes (s : Settings) (b : Book) (c id : ℕ) (rest : List ℕ) (l : ClientLedger) (x : Client) : Type 0 where
  pub stands : ClientStands s b c l x
  pub fresh : Fresh x x.next
  pub booked : Booked s b c l.state (record { id = id; rest = rest }) x.next
  pub arrived : l.state.arrived ≡ true
  pub here : x.gone ≡ false
  pub idle : x.busy ≡ false
  pub apart : (k : ℕ) → x.live k ≡ true → (b.request c k).id ≡ id → ⊥
  pub makes : makes_operation (record { id = id; rest = rest }) ≡ true
  pub known : is_some (kind_of rest) ≡ true
  pub other : is_request_of Bind (record { id = id; rest = rest }) ≡ false

pub not_pinned : (s : Settings) (p : ClientState) (m : Message) → is_request_of Bind m ≡ false → is_pinned s p m ≡ false
not_pinned s p m e = ap (λ (t : Bool). t && p.in_exchange && lets_go_on (check_at s p m)) e

pub new_connection : (s : Settings) (p : ClientState) (m : Message) (o : Option ℕ) → is_pinned s p m ≡ false → o ≡ None → (new_row s p m).connection ≡ o
new_connection s p m o e n = ap (λ (t : Bool). elim t [ true ↦ held_connection p | false ↦ None ]) e ∙ sym n

pub comes_row : (s : Settings) (b : Book) (c id : ℕ) (rest : List ℕ) (l : ClientLedger) (x : Client) → Comes s b c id rest l x → new_row s l.state (record { id = id; rest = rest }) ≡ row_of b c x x.next
comes_row s b c id rest l x h = h.booked.row x (new_connection s l.state (record { id = id; rest = rest }) (x.given x.next) (not_pinned s l.state (record { id = id; rest = rest }) h.other) h.fresh.given)

pub comes_stands : (s : Settings) (b : Book) (c at id : ℕ) (rest : List ℕ) (l : ClientLedger) (x : Client) → Comes s b c id rest l x → ClientStands s b c (come_ledger at (row_of b c x x.next) l) (coming x)
comes_stands s b c at id rest l x h = comes s b c at l x h.stands h.fresh h.arrived h.here h.idle (h.booked.bind ∙ h.other) (λ k live e. h.apart k live (e ∙ h.booked.id)) (ap is_some h.booked.kind ∙ h.known)

-- the ledger behind the In
pub come_behind : (s : Settings) (b : Book) (c at id : ℕ) (rest : List ℕ) (l : ClientLedger) (x : Client) → Comes s b c id rest l x → lets_go_on (check_at s l.state (record { id = id; rest = rest })) ≡ false
    → step_client_ledger s l (came_mark (ClientPart l.state.number) at id rest) ≡ come_ledger at (row_of b c x x.next) l
come_behind s b c at id rest l x h e =
    came_behind s (ClientPart l.state.number) at id rest l true false false (is_pinned s l.state (record { id = id; rest = rest })) h.makes h.other e refl
    ∙ ap (λ (r : ClientRow). come_ledger at r l) (comes_row s b c id rest l x h)

-- the new operation is answered
put_back : (f : ℕ → Bool) (n k : ℕ) → f n ≡ false → put (put f n true) n false k ≡ f k
put_back f n k e = go (k == n) refl
  where
    go : (t : Bool) → (k == n) ≡ t → (if t then false else (if k == n then true else f k)) ≡ f k
    go true i = sym (ap f (eqb-true k n i) ∙ e)
    go false i = ap (λ (t : Bool). if t then true else f k) i

answered_row : (s : Settings) (b : Book) (c : ℕ) (stay : Bool) (x : Client) → is_bind_op b c x.next ≡ false → x.live x.next ≡ false → closed_row (is_bind_op b c x.next) stay x.next x.closed (coming x) ≡ refuse_row x
answered_row s b c stay x plain dead = λ i. record x {
  next = x.next + 1;
  live = λ k. put_back x.live x.next k dead i;
  busy = if plain i then false else x.busy;
  hold = if plain i && not stay then None else x.hold;
}

final_here : (b : Book) (c n : ℕ) (kind : OpKind) (rest : List ℕ) → kind_of (b.request c n).rest ≡ Some kind → is_final kind rest ≡ true → is_final_for (b.request c n) rest ≡ true
final_here b c n kind rest e f = ap (passes (λ k. is_final k rest)) e ∙ f

nothing_given : (s : Settings) (b : Book) (c : ℕ) (l : ClientLedger) (x : Client) → ClientStands s b c l x → (i u : ℕ) → find (λ y. same_op (name c i) y.op && u == y.connection) (filter (λ y. true) l.expected) ≡ (if at (x.given i) u && not (x.closed i u) then Some (expected_at b c i u) else None)
nothing_given s b c l x h i u = find_kept _ _ l.expected (λ y _. refl) ∙ h.expected i u

no_stay : (s : Settings) (b : Book) (c k : ℕ) (rest : List ℕ) (x : Client) → is_bind_op b c k ≡ false → is_bind_op b c k ≡ true → has_code 14 rest ≡ true → some_at (x.given k) ≡ true
no_stay s b c k rest x plain bind stay = absurd (let bad : false ≡ true = sym plain ∙ bind in cc)

pub refuses : (s : Settings) (b : Book) (c at id : ℕ) (rest answer : List ℕ) (kind : OpKind) (l : ClientLedger) (x : Client) → Comes s b c id rest l x → lets_go_on (check_at s l.state (record { id = id; rest = rest })) ≡ false → kind_of rest ≡ Some kind → is_final kind answer ≡ true
    → ClientStands s b c (step_client_ledger s (step_client_ledger s l (came_mark (ClientPart l.state.number) at id rest)) (out_mark (ClientPart l.state.number) at id answer None)) (refuse_row x)
refuses s b c at id rest answer kind l x h e k f =
    let n = x.next in
    let plain : is_bind_op b c n ≡ false = h.booked.bind ∙ h.other in
    let l1 : ClientLedger = come_ledger at (row_of b c x n) l in
    let h1 : ClientStands s b c l1 (coming x) = comes_stands s b c at id rest l x h in
    let live : (coming x).live n ≡ true = put_here x.live n true in
    let under : row_under l1.state id ≡ Some (row_of b c (coming x) n) = ap (row_under l1.state) (sym h.booked.id) ∙ under_found s b c n l1 (coming x) h1 live in
    subst (λ (z : ClientLedger). ClientStands s b c (step_client_ledger s z (out_mark (ClientPart l.state.number) at id answer None)) (refuse_row x)) (sym (come_behind s b c at id rest l x h e))
    (subst (λ (z : ClientLedger). ClientStands s b c z (refuse_row x)) (sym (out_behind s (ClientPart l.state.number) at id answer None l1 (Some (row_of b c (coming x) n)) under))
    (subst (λ (z : Client). ClientStands s b c (out_ledger (Some (row_of b c (coming x) n)) s at answer None l1) z) (answered_row s b c (has_code 14 answer) x plain h.fresh.live)
    (client_answered s b c n at answer None l1 (coming x) x.closed h1 live (final_here b c n kind answer (h.booked.kind ∙ k) f) (no_stay s b c n answer (coming x) plain) (nothing_given s b c l1 (coming x) h1))))

pub refuses_makes : (s : Settings) (b : Book) (c at id : ℕ) (rest answer : List ℕ) (kind : OpKind) (l : ClientLedger) (y : ClientSide) → Comes s b c id rest l y.row → lets_go_on (check_at s l.state (record { id = id; rest = rest })) ≡ false → kind_of rest ≡ Some kind → is_final kind answer ≡ true
    → Makes s b c at None l (act (what.In id rest ∷ what.Out id answer ∷ []) []) y (Refusing ∷ [])
refuses_makes s b c at id rest answer kind l y h e k f = record {
  stands = refuses s b c at id rest answer kind l y.row h e k f;
  asks = λ q p. subst (λ (r : List Letter). Pairs (AskIs b c) r y.asks) (sym (append-nil q)) p;
  orders = λ u q p. subst (λ (r : List Letter). Pairs (OrderIs s b c) r (y.orders u)) (sym (append-nil q)) p;
}

-- A Cancel: it ends a live operation, and is answered itself.
pub record CanceledRow (b : Book) (c id : ℕ) (kind : OpKind) (x : Client) (k : ℕ) : Type 0 where
  pub live : x.live k ≡ true
  pub under : (b.request c k).id ≡ id
  pub sort : kind_of (b.request c k).rest ≡ Some kind
  pub plain : is_bind_op b c k ≡ false

canceled_live : (f : ℕ → Bool) (n j k : ℕ) → f n ≡ false → put (put (put f n true) j false) n false k ≡ put f j false k
canceled_live f n j k e = go (k == n) (k == j) refl refl
  where
    go : (t q : Bool) → (k == n) ≡ t → (k == j) ≡ q → (if t then false else (if q then false else (if k == n then true else f k))) ≡ (if q then false else f k)
    go true true i o = refl
    go true false i o = sym (ap f (eqb-true k n i) ∙ e)
    go false true i o = refl
    go false false i o = ap (λ (t : Bool). if t then true else f k) i

canceled_row : (s : Settings) (b : Book) (c j : ℕ) (stay leave : Bool) (x : Client) → is_bind_op b c x.next ≡ false → is_bind_op b c j ≡ false → x.live x.next ≡ false
    → closed_row (is_bind_op b c x.next) stay x.next x.closed (closed_row (is_bind_op b c j) leave j x.closed (coming x)) ≡ record (refuse_row x) { live = put x.live j false }
canceled_row s b c j stay leave x plain other dead = λ i. record x {
  next = x.next + 1;
  live = λ k. canceled_live x.live x.next j k dead i;
  busy = if plain i then false else (if other i then false else x.busy);
  hold = if plain i && not stay then None else (if other i && not leave then None else x.hold);
}

pub cancels : (s : Settings) (b : Book) (c at id named j : ℕ) (rest first second : List ℕ) (kind own : OpKind) (l : ClientLedger) (x : Client) → Comes s b c id rest l x → lets_go_on (check_at s l.state (record { id = id; rest = rest })) ≡ false → kind_of rest ≡ Some own → is_final own second ≡ true → CanceledRow b c named kind x j → is_final kind first ≡ true
    → ClientStands s b c (step_client_ledger s (step_client_ledger s (step_client_ledger s l (came_mark (ClientPart l.state.number) at id rest)) (out_mark (ClientPart l.state.number) at named first None)) (out_mark (ClientPart l.state.number) at id second None)) (record (refuse_row x) { live = put x.live j false })
cancels s b c at id named j rest first second kind own l x h e k f r g =
    let n = x.next in
    let q = ClientPart l.state.number in
    let plain : is_bind_op b c n ≡ false = h.booked.bind ∙ h.other in
    let l1 : ClientLedger = come_ledger at (row_of b c x n) l in
    let x1 : Client = coming x in
    let h1 : ClientStands s b c l1 x1 = comes_stands s b c at id rest l x h in
    let apart : (j == n) ≡ false = ne_eqb j n (λ i. let bad : true ≡ false = sym r.live ∙ (ap x.live i ∙ h.fresh.live) in absurd (cc)) in
    let there : x1.live j ≡ true = ap (λ (t : Bool). if t then true else x.live j) apart ∙ r.live in
    let under : row_under l1.state named ≡ Some (row_of b c x1 j) = ap (row_under l1.state) (sym r.under) ∙ under_found s b c j l1 x1 h1 there in
    let l2 : ClientLedger = out_ledger (Some (row_of b c x1 j)) s at first None l1 in
    let x2 : Client = closed_row (is_bind_op b c j) (has_code 14 first) j x.closed x1 in
    let h2 : ClientStands s b c l2 x2 = client_answered s b c j at first None l1 x1 x.closed h1 there (final_here b c j kind first r.sort g) (no_stay s b c j first x1 r.plain) (nothing_given s b c l1 x1 h1) in
    let live : x2.live n ≡ true = ap (λ (t : Bool). if t then false else put x.live n true n) (ne_eqb n j (λ i. eqb-false j n apart (sym i))) ∙ put_here x.live n true in
    let own_under : row_under l2.state id ≡ Some (row_of b c x2 n) = ap (row_under l2.state) (sym h.booked.id) ∙ under_found s b c n l2 x2 h2 live in
    subst (λ (z : ClientLedger). ClientStands s b c (step_client_ledger s (step_client_ledger s z (out_mark q at named first None)) (out_mark q at id second None)) (record (refuse_row x) { live = put x.live j false })) (sym (come_behind s b c at id rest l x h e))
    (subst (λ (z : ClientLedger). ClientStands s b c (step_client_ledger s z (out_mark q at id second None)) (record (refuse_row x) { live = put x.live j false })) (sym (out_behind s q at named first None l1 (Some (row_of b c x1 j)) under))
    (subst (λ (z : ClientLedger). ClientStands s b c z (record (refuse_row x) { live = put x.live j false })) (sym (out_behind s q at id second None l2 (Some (row_of b c x2 n)) own_under))
    (subst (λ (z : Client). ClientStands s b c (out_ledger (Some (row_of b c x2 n)) s at second None l2) z) (canceled_row s b c j (has_code 14 second) (has_code 14 first) x plain r.plain h.fresh.live)
    (client_answered s b c n at second None l2 x2 x.closed h2 live (final_here b c n own second (h.booked.kind ∙ k) f) (no_stay s b c n second x2 plain) (nothing_given s b c l2 x2 h2)))))

-- one operation, which isn't a Bind, ends, and its Drop goes to its connection
pub may_end_here : (bind live : Bool) → live ≡ true → bind ≡ false → (live && not bind) ≡ true
may_end_here bind live e f = rw (e, f) refl

pub ends_asks : (s : Settings) (b : Book) (c k : ℕ) (p : ClientState) (asks : List ToDesk) (x : Client) (q : List Letter) → Pairs (AskIs b c) q asks → Pairs (AskIs b c) (q ++ letters_to Desk (drop_of p (row_of b c x k))) asks
ends_asks s b c k p asks x q h = subst (λ (z : List Letter). Pairs (AskIs b c) z asks) (sym (ap (λ (z : List Letter). q ++ z) (no_drop (record { client = p.number; k = k }) (is_bind_op b c k) (x.given k)) ∙ append-nil q)) h

pub ends_orders : (s : Settings) (b : Book) (c k u : ℕ) (p : ClientState) (x : Client) (q : List Letter) (z : List ToConn) → p.number ≡ c → may_end (is_bind_op b c k) k x ≡ true → is_bind_op b c k ≡ false → Pairs (OrderIs s b c) q z
    → Pairs (OrderIs s b c) (q ++ letters_to (Connection u) (drop_of p (row_of b c x k))) (z ++ drop_letter (may_end (is_bind_op b c k) k x) k x u)
ends_orders s b c k u p x q z e may plain h =
    pairs_append (OrderIs s b c) q z _ _ h
    (subst (λ (r : List ToConn). Pairs (OrderIs s b c) (letters_to (Connection u) (drop_of p (row_of b c x k))) r) (sym (ap (λ (t : Bool). drop_letter t k x u) may ∙ ap (λ (t : Bool). if true && not t then (if at (x.given k) u then machine.Drop k ∷ [] else []) else []) (sym plain)))
    (dropped_pairs s b c k u (record { client = p.number; k = k }) true (is_bind_op b c k) (x.given k) (λ i. record { client = e i; k = k })))

pub cancels_makes : (s : Settings) (b : Book) (c at id named j : ℕ) (rest first second : List ℕ) (kind own : OpKind) (l : ClientLedger) (y : ClientSide) → Comes s b c id rest l y.row → lets_go_on (check_at s l.state (record { id = id; rest = rest })) ≡ false → kind_of rest ≡ Some own → is_final own second ≡ true → CanceledRow b c named kind y.row j → is_final kind first ≡ true
    → Makes s b c at None l (act (what.In id rest ∷ what.Out named first ∷ what.Out id second ∷ []) (drop_of l.state (row_of b c y.row j))) y (Refusing ∷ Ending j ∷ [])
cancels_makes s b c at id named j rest first second kind own l y h e k f r g =
    let may : may_end (is_bind_op b c j) j (refuse_row y.row) ≡ true = may_end_here (is_bind_op b c j) (y.row.live j) r.live r.plain in
    record {
      stands = subst (λ (t : Bool). ClientStands s b c (step_client_ledger s (step_client_ledger s (step_client_ledger s l (came_mark (ClientPart l.state.number) at id rest)) (out_mark (ClientPart l.state.number) at named first None)) (out_mark (ClientPart l.state.number) at id second None)) (end_row t j (refuse_row y.row))) (sym may) (cancels s b c at id named j rest first second kind own l y.row h e k f r g);
      asks = λ q p. ends_asks s b c j l.state y.asks y.row q p;
      orders = λ u q p. ends_orders s b c j u l.state (refuse_row y.row) q (y.orders u) h.stands.number may r.plain p;
    }
