-- A client goes: by the end of its link, by a message, or with the protocol error notice.
use Rattle.std.proofs.Common.{◌≡◌, ℕ, zero, suc, ◌+◌, Bool, true, false, ◌==◌, ◌&&◌, not, if◌then◌else◌, List, [], ◌∷◌, ◌++◌, Option, Some, None, refl, ap, ◌∙◌, sym, subst, arith}
use Rattle.std.specs.Prelude.{find}
use Rattle.std.specs.List.{list_any}
use Rattle.ldap_spec.specs.Messages.{Message}
use Rattle.ldap_spec.specs.Responses.{has_code}
use Rattle.lload_names.specs.declared.names.EndWhy.{EndWhy}
use Rattle.lload_names.specs.declared.names.OpKind.TheVariants.{Bind}
use Rattle.lload_names.specs.declared.names.PartName.{PartName}
use Rattle.lload_names.specs.declared.names.PartName.TheVariants.{Desk, Client as ClientPart, Up as Connection}
use Rattle.lload_names.specs.declared.names.Posted.{Posted}
use Rattle.lload_names.specs.declared.names.What.{What}
use Rattle.lload_names.specs.declared.names.What.TheVariants as what
use Rattle.lload_spec.specs.Settings.{Settings}
use Rattle.lload_spec.specs.Binding.{kind_wanted}
use Rattle.lload_spec.specs.Journal.{same_op}
use Rattle.lload_spec.specs.Pauses.{Pausing}
use Rattle.lload_spec.specs.Entries.{makes_operation}
use Rattle.lload_spec.specs.Operations.{is_final_for, is_request_of}
use Rattle.lload_spec.specs.FirstCheck.{lets_go_on}
use Rattle.part_spec.specs.Inputs.{act}
use Rattle.part_spec.specs.Marked.{Marked, letters_to}
use Rattle.part_spec.specs.ClientState.{ClientState, ClientRow, AskedFor, check_at, is_pinned, next_name, new_row, held_connection, with_bind, with_request, without, abandons, row_under, is_bind_row}
use Rattle.part_spec.specs.ClientTurn.{endings as end_letters, closing, resumes}
use Rattle.part_spec.specs.Fit.{Expected, ClientLedger, step_client_ledger, with_forward}
use Rattle.move_laws.specs.World.{Client, ToDesk, ToConn}
use Rattle.stands_laws.specs.Lists.{Pairs, Each}
use Rattle.stands_laws.specs.Books.{Book, is_bind_op, name}
use Rattle.stands_laws.specs.Letters.{AskIs, OrderIs}
use Rattle.stands_laws.specs.ClientSides.{ClientSide, ClientMove, Ending, Going, Leaving, Refusing, endings}
use Rattle.stands_laws.specs.ClientStands.{serves, ClientStands, ClientPauses, ClientIs}
use Rattle.stands_laws.specs.Follows.{ClientActs, client_behind, client_ledger_behind}
use Rattle.stands_laws.proofs.Tests.{find_kept}
use Rattle.stands_laws.proofs.Rows.{live_none}
use Rattle.client_moves_laws.proofs.Lists.{each_imply, each_among}
use Rattle.client_moves_laws.proofs.Makes.{Makes, moves_append, makes_more}
use Rattle.client_moves_laws.proofs.Signals.{signals, signal_letters, put_all, put_all_at, may_be, signals_row, signals_asks, signals_orders, signals_choices, signals_answers, no_signals}
use Rattle.client_moves_laws.proofs.ClientOuts.{out_state, answer_state, out_mark}
use Rattle.client_moves_laws.proofs.ClientEnds.{gone_row, row_gone, gone_dead, gone_orders, gone_asks}

-- what entries before the end leave, by whether they make an operation
pub record Kept (t : Bool) (l m : ClientLedger) : Type 0 where
  pub number : m.state.number ≡ l.state.number
  pub arrived : m.state.arrived ≡ l.state.arrived
  pub count : m.state.count ≡ (if t then suc l.state.count else l.state.count)
  pub asked : m.state.asked ≡ l.state.asked
  pub expected : (test : Expected → Bool) → find test m.expected ≡ find test l.expected

pub kept_none : (l : ClientLedger) → Kept false l l
kept_none l = record { number = refl; arrived = refl; count = refl; asked = refl; expected = λ test. refl }

pub kept_then : (t : Bool) (l m n : ClientLedger) → Kept t l m → Kept false m n → Kept t l n
kept_then t l m n h k = record {
  number = k.number ∙ h.number;
  arrived = k.arrived ∙ h.arrived;
  count = k.count ∙ h.count;
  asked = k.asked ∙ h.asked;
  expected = λ test. k.expected test ∙ h.expected test;
}

-- a message that doesn't go on
abbrev pub came_mark : PartName → ℕ → ℕ → List ℕ → Marked
came_mark q at id rest = record { entry = record { part = q; at = at; what = what.In id rest }; mark = None }

abbrev pub come_state : (made bind : Bool) → Settings → ℕ → Message → ClientState → ClientState
come_state made bind s at m p = elim made [ false ↦ without (abandons m) at p | true ↦ elim bind [ true ↦ with_bind s m p | false ↦ with_request s m p ] ]

come_same : (made bind : Bool) (s : Settings) (at : ℕ) (m : Message) (p : ClientState) → ((come_state made bind s at m p).number ≡ p.number) × (((come_state made bind s at m p).arrived ≡ p.arrived) × ((come_state made bind s at m p).count ≡ (if made then suc p.count else p.count)))
come_same true true s at m p = (refl, (refl, refl))
come_same true false s at m p = (refl, (refl, refl))
come_same false bind s at m p = (refl, (refl, refl))

pub kept_in : (s : Settings) (q : PartName) (at id : ℕ) (rest : List ℕ) (l : ClientLedger) → lets_go_on (check_at s l.state (record { id = id; rest = rest })) ≡ false
    → Kept (makes_operation (record { id = id; rest = rest })) l (step_client_ledger s l (came_mark q at id rest))
kept_in s q at id rest l e =
    let m : Message = record { id = id; rest = rest } in
    let h = come_same (makes_operation m) (is_request_of Bind m) s at m l.state in
    record {
      number = h.0;
      arrived = h.1.0;
      count = h.1.1;
      asked = ap (λ (t : Bool). if t && not (is_pinned s l.state m) then l.state.asked ++ record { op = next_name l.state; kind = kind_wanted m } ∷ [] else l.state.asked) e;
      expected = λ test.
          find_kept test (λ (y : Expected). true) _ (λ y _. refl)
          ∙ ap (λ (t : Bool). find test (if t && is_pinned s l.state m then with_forward (next_name l.state) (new_row s l.state m).request (held_connection l.state) l.expected else l.expected)) e;
    }

-- an Out that takes no letter
answer_same : (final t stay : Bool) (s : Settings) (at : ℕ) (rest : List ℕ) (p : ClientState) (r : ClientRow) → ((answer_state final t stay s at None rest p r).number ≡ p.number) × (((answer_state final t stay s at None rest p r).arrived ≡ p.arrived) × ((answer_state final t stay s at None rest p r).count ≡ p.count))
answer_same false t stay s at rest p r = (refl, (refl, refl))
answer_same true true true s at rest p r = (refl, (refl, refl))
answer_same true true false s at rest p r = (refl, (refl, refl))
answer_same true false stay s at rest p r = (refl, (refl, refl))

out_same : (s : Settings) (at : ℕ) (rest : List ℕ) (p : ClientState) (o : Option ClientRow) → ((out_state o s at None rest p).number ≡ p.number) × (((out_state o s at None rest p).arrived ≡ p.arrived) × ((out_state o s at None rest p).count ≡ p.count))
out_same s at rest p None = (refl, (refl, refl))
out_same s at rest p (Some r) = answer_same (is_final_for r.request rest) (is_bind_row r) (has_code 14 rest) s at rest p r

pub kept_out : (s : Settings) (q : PartName) (at id : ℕ) (rest : List ℕ) (l : ClientLedger) → Kept false l (step_client_ledger s l (out_mark q at id rest None))
kept_out s q at id rest l =
    let h = out_same s at rest l.state (row_under l.state id) in
    record { number = h.0; arrived = h.1.0; count = h.1.1; asked = refl; expected = λ test. find_kept test (λ (y : Expected). true) l.expected (λ y _. refl) }

-- The end.
abbrev pub gone_mark : PartName → ℕ → EndWhy → Marked
gone_mark q at why = record { entry = record { part = q; at = at; what = what.Gone why }; mark = None }

abbrev pub refusing : Bool → List ClientMove
refusing true = Refusing ∷ []
refusing false = []

abbrev pub leavings : Bool → ℕ → List ClientMove
leavings t n = (endings n ++ Going ∷ Leaving ∷ []) ++ refusing t

abbrev pub counted : Bool → Client → Client
counted t x = record x { next = if t then x.next + 1 else x.next }

refusing_row : (s : Settings) (b : Book) (c : ℕ) (t : Bool) (y : ClientSide) → (client_behind s b c y (refusing t)).row ≡ counted t y.row
refusing_row s b c true y = refl
refusing_row s b c false y = refl

leavings_row : (s : Settings) (b : Book) (c : ℕ) (t : Bool) (y : ClientSide) → (client_behind s b c y (leavings t y.row.next)).row ≡ counted t (gone_row (is_bind_op b c) y.row)
leavings_row s b c t y =
    ap (λ (z : ClientSide). z.row) (moves_append (is_bind_op b c) (serves s) y (endings y.row.next ++ Going ∷ Leaving ∷ []) (refusing t))
    ∙ (refusing_row s b c t (client_behind s b c y (endings y.row.next ++ Going ∷ Leaving ∷ [])) ∙ ap (counted t) (row_gone (is_bind_op b c) (serves s) y))

pub numbered : (t arrived : Bool) (n count : ℕ) → arrived ≡ true → n ≡ (if arrived then suc count else 0) → (if t then n + 1 else n) ≡ (if arrived then suc (if t then suc count else count) else 0)
numbered true arrived n count a e = rw a (let k : n ≡ suc count = e ∙ ap (λ (q : Bool). if q then suc count else 0) a in omega arith)
numbered false arrived n count a e = e

gone_stands : (s : Settings) (b : Book) (c now : ℕ) (why : EndWhy) (t : Bool) (l m : ClientLedger) (q : PartName) (x : Client) → ClientStands s b c l x → l.state.arrived ≡ true → Kept t l m
    → ClientStands s b c (step_client_ledger s m (gone_mark q now why)) (counted t (gone_row (is_bind_op b c) x))
gone_stands s b c now why t l m q x h arrived k = record {
  number = k.number ∙ h.number;
  next = numbered t l.state.arrived x.next l.state.count arrived h.next ∙ (λ i. if sym k.arrived i then suc (sym k.count i) else 0);
  gone = refl;
  rows = sym (live_none _ _ (if t then x.next + 1 else x.next) (λ k _. dead k));
  hold = refl;
  exchange = λ e. absurd (cc);
  left = λ _. refl;
  dead = λ _. dead;
  quiet = λ e. absurd (cc);
  bound = λ k e. absurd (let bad = sym e ∙ dead k in cc);
  busy = sym (ap (λ (t : Bool). t && is_bind_op b c x.current) (dead x.current));
  one = λ k e. absurd (let bad = sym e ∙ dead k in cc);
  below = λ k e. absurd (let bad = sym e ∙ dead k in cc);
  ids = λ j k e. absurd (let bad = sym e ∙ dead j in cc);
  kinds = λ k e. absurd (let bad = sym e ∙ dead k in cc);
  asked = λ i. ap (λ (z : List AskedFor). find (λ a. same_op (name c i) a.op) z) k.asked ∙ h.asked i;
  expected = λ i u. find_kept _ (λ (y : Expected). true) m.expected (λ y _. refl) ∙ (k.expected _ ∙ h.expected i u);
}
  where
    dead : (k : ℕ) → (gone_row (is_bind_op b c) x).live k ≡ false
    dead k = gone_dead s b c k l x h

refusing_asks : (s : Settings) (b : Book) (c : ℕ) (t : Bool) (y : ClientSide) → (client_behind s b c y (refusing t)).asks ≡ y.asks
refusing_asks s b c true y = refl
refusing_asks s b c false y = refl

refusing_orders : (s : Settings) (b : Book) (c : ℕ) (t : Bool) (y : ClientSide) → (client_behind s b c y (refusing t)).orders ≡ y.orders
refusing_orders s b c true y = refl
refusing_orders s b c false y = refl

-- it ends its operations and its exchange
leaves : (s : Settings) (b : Book) (c now : ℕ) (t : Bool) (l : ClientLedger) (whats : List What) (y : ClientSide) → ClientStands s b c (client_ledger_behind s now None l (act whats (end_letters l.state))) (counted t (gone_row (is_bind_op b c) y.row)) → ClientStands s b c l y.row
    → Makes s b c now None l (act whats (end_letters l.state)) y (leavings t y.row.next)
leaves s b c now t l whats y stands h =
    let first = endings y.row.next ++ Going ∷ Leaving ∷ [] in
    let append = moves_append (is_bind_op b c) (serves s) y first (refusing t) in
    record {
      stands = subst (λ (x : Client). ClientStands s b c (client_ledger_behind s now None l (act whats (end_letters l.state))) x) (sym (leavings_row s b c t y)) stands;
      asks = λ q p. subst (λ (z : ClientSide). Pairs (AskIs b c) (q ++ letters_to Desk (end_letters l.state)) z.asks) (sym append)
          (subst (λ (z : List ToDesk). Pairs (AskIs b c) (q ++ letters_to Desk (end_letters l.state)) z) (sym (refusing_asks s b c t (client_behind s b c y first))) (gone_asks s b c l y q p));
      orders = λ u q p. subst (λ (z : ClientSide). Pairs (OrderIs s b c) (q ++ letters_to (Connection u) (end_letters l.state)) (z.orders u)) (sym append)
          (subst (λ (z : ℕ → List ToConn). Pairs (OrderIs s b c) (q ++ letters_to (Connection u) (end_letters l.state)) (z u)) (sym (refusing_orders s b c t (client_behind s b c y first))) (gone_orders s b c u l y q h p));
    }

-- and lets each connection that it pauses go on
abbrev pub closings : Bool → ℕ → List ℕ → List ClientMove
closings t n us = leavings t n ++ signals (λ _. 0) us

each_paused : (s : Settings) (q : Pausing) (x : Client) → ClientPauses s q x → Each (λ u. x.paused u ≡ true) q.paused
each_paused s q x h = each_imply _ _ q.paused (λ u e. sym (h.paused u) ∙ e) (each_among q.paused)

each_plain : (s : Settings) (q : Pausing) (x z : Client) → ClientPauses s q x → Each (λ u. may_be s (λ _. 0) true z u ≡ true) q.paused
each_plain s q x z h = each_imply (λ u. x.paused u ≡ true) (λ u. may_be s (λ _. 0) true z u ≡ true) q.paused (λ u e. ap (λ (t : Bool). not t && true) (h.plain u e)) (each_paused s q x h)

-- behind it none is paused
all_over : (t p : Bool) → t ≡ p → (if t then false else p) ≡ false
all_over true p e = refl
all_over false p e = sym e

pub resumed : (s : Settings) (q : Pausing) (x : Client) (u : ℕ) → ClientPauses s q x → put_all q.paused false x.paused u ≡ false
resumed s q x u h = put_all_at q.paused false x.paused u ∙ all_over (list_any (λ n. n == u) q.paused) (x.paused u) (h.paused u)

resume_letters_are : (s : Settings) (c : ℕ) (p : ClientState) → p.number ≡ c → resumes p ≡ signal_letters c false p.pausing.paused
resume_letters_are s c p e = ap (λ (n : ℕ). signal_letters n false p.pausing.paused) e

closing_makes : (s : Settings) (b : Book) (c now : ℕ) (t : Bool) (l : ClientLedger) (whats : List What) (y : ClientSide) → ClientIs s b c l y.row → Makes s b c now None l (act whats (end_letters l.state)) y (leavings t y.row.next)
    → Makes s b c now None l (act whats (closing l.state)) y (closings t y.row.next l.state.pausing.paused)
closing_makes s b c now t l whats y h k =
    let us = l.state.pausing.paused in
    let z = client_behind s b c y (leavings t y.row.next) in
    let row = leavings_row s b c t y in
    let paused : Each (λ u. z.row.paused u ≡ true) us = subst (λ (x : Client). Each (λ u. x.paused u ≡ true) us) (sym row) (each_paused s l.state.pausing y.row h.pauses) in
    let may = each_plain s l.state.pausing y.row z.row h.pauses in
    let letters = resume_letters_are s c l.state h.stands.number in
    makes_more s b c now None l whats (end_letters l.state) (resumes l.state) y (leavings t y.row.next) (signals (λ _. 0) us) (put_all us false z.row.paused) k
    (signals_row s b c (λ _. 0) true us z h.pauses.once paused may)
    (signals_asks s b c (λ _. 0) true us z)
    (ap (letters_to Desk) letters ∙ no_signals c false us)
    (λ u q p. subst (λ (r : List Posted). Pairs (OrderIs s b c) (q ++ letters_to (Connection u) r) ((client_behind s b c z (signals (λ _. 0) us)).orders u)) (sym letters) (signals_orders s b c (λ _. 0) true us z u q h.pauses.once paused may p))

closings_row : (s : Settings) (b : Book) (c : ℕ) (t : Bool) (l : ClientLedger) (y : ClientSide) → ClientIs s b c l y.row
    → (client_behind s b c y (closings t y.row.next l.state.pausing.paused)).row ≡ record (counted t (gone_row (is_bind_op b c) y.row)) { paused = put_all l.state.pausing.paused false y.row.paused }
closings_row s b c t l y h =
    let us = l.state.pausing.paused in
    let z = client_behind s b c y (leavings t y.row.next) in
    let row = leavings_row s b c t y in
    ap (λ (x : ClientSide). x.row) (moves_append (is_bind_op b c) (serves s) y (leavings t y.row.next) (signals (λ _. 0) us))
    ∙ (signals_row s b c (λ _. 0) true us z h.pauses.once (subst (λ (x : Client). Each (λ u. x.paused u ≡ true) us) (sym row) (each_paused s l.state.pausing y.row h.pauses)) (each_plain s l.state.pausing y.row z.row h.pauses)
    ∙ ap (λ (x : Client). record x { paused = put_all us false x.paused }) row)

pub closes : (s : Settings) (b : Book) (c now : ℕ) (why : EndWhy) (t : Bool) (l m : ClientLedger) (whats : List What) (y : ClientSide) → ClientIs s b c l y.row → l.state.arrived ≡ true → Kept t l m
    → client_ledger_behind s now None l (act whats []) ≡ step_client_ledger s m (gone_mark (ClientPart l.state.number) now why)
    → ClientActs s b c now None l (act whats (closing l.state)) y (closings t y.row.next l.state.pausing.paused)
closes s b c now why t l m whats y h arrived k behind =
    let gone = gone_stands s b c now why t l m (ClientPart l.state.number) y.row h.stands arrived k in
    let first = leaves s b c now t l whats y (subst (λ (z : ClientLedger). ClientStands s b c z (counted t (gone_row (is_bind_op b c) y.row))) (sym behind) gone) h.stands in
    let made = closing_makes s b c now t l whats y h first in
    let row = closings_row s b c t l y h in
    let none : (u : ℕ) → (client_behind s b c y (closings t y.row.next l.state.pausing.paused)).row.paused u ≡ false = λ u. ap (λ (x : Client). x.paused u) row ∙ resumed s l.state.pausing y.row u h.pauses in
    record {
      is = record {
        stands = made.stands;
        heads = λ j e. h.heads j (sym (ap (λ (x : Client). x.asked j) row) ∙ e);
        pauses = subst (λ (z : ClientLedger). ClientPauses s z.state.pausing (client_behind s b c y (closings t y.row.next l.state.pausing.paused)).row) (sym behind) (record {
          paused = λ u. sym (none u);
          plain = λ u e. absurd (let bad : false ≡ true = sym (none u) ∙ e in cc);
          once = tt;
          stalled = λ _. refl;
        });
        waits = subst (λ (z : ClientLedger). z.state.arrived ≡ false → z.state.count ≡ 0) (sym behind) (λ e. absurd (let bad : true ≡ false = sym arrived ∙ (sym k.arrived ∙ e) in cc));
      };
      asks = made.asks;
      orders = made.orders;
    }

-- its queues from others stay
pub leavings_quiet : (s : Settings) (b : Book) (c n : ℕ) (y : ClientSide) → ((client_behind s b c y (endings n)).choices ≡ y.choices) × ((client_behind s b c y (endings n)).answers ≡ y.answers)
leavings_quiet s b c zero y = (refl, refl)
leavings_quiet s b c (suc n) y =
    let append = moves_append (is_bind_op b c) (serves s) y (endings n) (Ending n ∷ []) in
    let h = leavings_quiet s b c n y in
    (ap (λ (z : ClientSide). z.choices) append ∙ h.0, ap (λ (z : ClientSide). z.answers) append ∙ h.1)

refusing_quiet : (s : Settings) (b : Book) (c : ℕ) (t : Bool) (y : ClientSide) → ((client_behind s b c y (refusing t)).choices ≡ y.choices) × ((client_behind s b c y (refusing t)).answers ≡ y.answers)
refusing_quiet s b c true y = (refl, refl)
refusing_quiet s b c false y = (refl, refl)

pub closings_quiet : (s : Settings) (b : Book) (c : ℕ) (t : Bool) (n : ℕ) (us : List ℕ) (y : ClientSide) → ((client_behind s b c y (closings t n us)).choices ≡ y.choices) × ((client_behind s b c y (closings t n us)).answers ≡ y.answers)
closings_quiet s b c t n us y =
    let all = moves_append (is_bind_op b c) (serves s) y (leavings t n) (signals (λ _. 0) us) in
    let more = moves_append (is_bind_op b c) (serves s) y (endings n ++ Going ∷ Leaving ∷ []) (refusing t) in
    let first = moves_append (is_bind_op b c) (serves s) y (endings n) (Going ∷ Leaving ∷ []) in
    let e = leavings_quiet s b c n y in
    let r = refusing_quiet s b c t (client_behind s b c y (endings n ++ Going ∷ Leaving ∷ [])) in
    let z = client_behind s b c y (leavings t n) in (
      ap (λ (x : ClientSide). x.choices) all ∙ (signals_choices s b c (λ _. 0) true us z ∙ (ap (λ (x : ClientSide). x.choices) more ∙ (r.0 ∙ (ap (λ (x : ClientSide). x.choices) first ∙ e.0)))),
      ap (λ (x : ClientSide). x.answers) all ∙ (signals_answers s b c (λ _. 0) true us z ∙ (ap (λ (x : ClientSide). x.answers) more ∙ (r.1 ∙ (ap (λ (x : ClientSide). x.answers) first ∙ e.1)))),
    )
