-- What the part stands for where a request goes on.
use Rattle.std.proofs.Common.{◌≡◌, ◌≤◌, ◌+◌, ℕ, suc, Bool, true, false, not, ◌==◌, ◌&&◌, ◌||◌, cond, if◌then◌else◌, List, [], ◌∷◌, ◌++◌, filter, length, map, Option, Some, None, arith, refl, ap, subst, sym, ◌∙◌, append-nil}
use Rattle.std.proofs.lemmas.Bool.Decides.{nat_tests}
use Rattle.std.specs.Prelude.{nat_le, is_some}
use Rattle.std.specs.List.{list_all}
use Rattle.ldap_spec.specs.Kinds.{kind_of}
use Rattle.ldap_spec.specs.Messages.{Message}
use Rattle.ldap_spec.specs.Requests.{request}
use Rattle.lload_names.specs.Same.{same_kind, same_op}
use Rattle.lload_names.specs.declared.names.Bound.{Bound}
use Rattle.lload_names.specs.declared.names.Bound.TheVariants.{Free}
use Rattle.lload_names.specs.declared.names.ConnKind.TheVariants.{Regular, Bind as BindConnections}
use Rattle.lload_names.specs.declared.names.Letter.TheVariants.{Ask}
use Rattle.lload_names.specs.declared.names.OpKind.{OpKind}
use Rattle.lload_names.specs.declared.names.OpKind.TheVariants.{Bind}
use Rattle.lload_names.specs.declared.names.OpName.{OpName}
use Rattle.lload_names.specs.declared.names.PartName.TheVariants.{Desk}
use Rattle.lload_names.specs.declared.names.Want.{Want}
use Rattle.lload_names.specs.declared.names.What.TheVariants as what
use Rattle.lload_spec.specs.Binding.{action, is_action, restricts, kind_wanted, want_by}
use Rattle.lload_spec.specs.FirstCheck.{GoesOn, lets_go_on}
use Rattle.lload_spec.specs.Identity.{carried_for}
use Rattle.lload_spec.specs.Lists.{passes}
use Rattle.lload_spec.specs.Operations.{is_request_of}
use Rattle.lload_spec.specs.Settings.{Settings, Write}
use Rattle.part_spec.specs.Inputs.{act, to, entries_of}
use Rattle.part_spec.specs.ClientState.{ClientRow, ClientState, AskedFor, is_written, without, with_bind, with_request, new_row, name_of, is_asked_for, is_pinned, held_connection, abandons, next_name, check_at, want_for, target, step_client}
use Rattle.part_spec.specs.ClientTurn.{asks}
use Rattle.outbox.specs.declared.outbox.Outbox.{Outbox}
use Rattle.client_laws.proofs.KindsKept.{carried_kind}
use Rattle.restrictions.specs.Actions.{action_view}
use Rattle.client_rows.specs.Rows.{Counted}
use Rattle.client_rows.specs.declared.row.Row.{Row}
use Rattle.client_session.specs.Did.{Did}
use Rattle.client_session.specs.GoesOn.{waiting_row}
use Rattle.client_session.specs.declared.part.ClientPart.{ClientPart}
use Rattle.client_session.specs.Stands.{Seen, seen, shown, simple_who, way_of, Asks, Live, Stands}
use Rattle.client_session.proofs.Asking.{own-more}
use Rattle.client_session.proofs.Passed.{kind-makes, filter-end, with_row}
use Rattle.client_session.proofs.Rules.{entry}
use Rattle.client_session.proofs.Sending.{binds-same}

-- the desk is asked for one more

all-end : {A : Type 0} (t : A → Bool) (xs : List A) (x : A) → list_all t xs ≡ true → t x ≡ true → list_all t (xs ++ x ∷ []) ≡ true
all-end t [] x e f = rw f refl
all-end t (y ∷ xs) x e f = by (t y) e (λ g. all-end t xs x g f)
  where
    by : (b : Bool) → (b && list_all t xs) ≡ true → (list_all t xs ≡ true → list_all t (xs ++ x ∷ []) ≡ true) → (b && list_all t (xs ++ x ∷ [])) ≡ true
    by true g ih = ih g
    by false g ih = absurd (let bad : false ≡ true = g in cc)

-- nothing of a higher number was asked for
none-higher : (n c : ℕ) (op : OpName) (asked : List AskedFor) → op.k ≡ suc c → list_all (λ a. a.op.client == n && nat_le a.op.k c) asked ≡ true → length (filter (λ a. same_op op a.op) asked) ≡ 0
none-higher n c op [] k e = refl
none-higher n c op (a ∷ asked) k e = by (a.op.client == n) (nat_le a.op.k c) refl (op.k == a.op.k) refl e (none-higher n c op asked k)
  where
    and-false : (b : Bool) → (b && false) ≡ false
    and-false true = refl
    and-false false = refl

    by : (b d : Bool) → nat_le a.op.k c ≡ d → (t : Bool) → (op.k == a.op.k) ≡ t → ((b && d) && list_all (λ a. a.op.client == n && nat_le a.op.k c) asked) ≡ true → (list_all (λ a. a.op.client == n && nat_le a.op.k c) asked ≡ true → length (filter (λ a. same_op op a.op) asked) ≡ 0) → length (cond (op.client == a.op.client && op.k == a.op.k) (a ∷ filter (λ a. same_op op a.op) asked) (filter (λ a. same_op op a.op) asked)) ≡ 0
    by true true f true g h ih = absurd (grind (arith, nat_tests, f, g, k))
    by true true f false g h ih = rw (g, and-false (op.client == a.op.client)) (ih h)
    by true false f t g h ih = absurd (let bad : false ≡ true = h in cc)
    by false d f t g h ih = absurd (let bad : false ≡ true = h in cc)

pub asks-one : (n c : ℕ) (asked : List AskedFor) (many : ℕ) (a : AskedFor) → a.op.client ≡ n → a.op.k ≡ suc c → Asks n c asked many → Asks n (suc c) (asked ++ a ∷ []) (many + 1)
asks-one n c asked many a client k h = record {
  many_are = length-end asked ∙ ap (λ x. x + 1) h.many_are;
  own = all-end (λ x. x.op.client == n && nat_le x.op.k (suc c)) asked a (own-more n c asked h.own) (let t : (a.op.client == n) ≡ true = grind (arith, nat_tests, client) in let u : nat_le a.op.k (suc c) ≡ true = grind (arith, nat_tests, k) in ap (λ b. b && nat_le a.op.k (suc c)) t ∙ u);
  once = λ op.
      let is = ap (length {A = AskedFor}) (filter-end (λ x. same_op op x.op) asked a) ∙ length-both (filter (λ x. same_op op x.op) asked) (filter (λ x. same_op op x.op) (a ∷ [])) in
      let was = h.once op in
      by op (op.k == a.op.k) refl (op.client == a.op.client) is was;
}
  where
    length-end : (xs : List AskedFor) → length (xs ++ a ∷ []) ≡ length xs + 1
    length-end [] = refl
    length-end (x ∷ xs) = let ih = length-end xs in omega (arith, ih)

    length-both : (xs ys : List AskedFor) → length (xs ++ ys) ≡ length xs + length ys
    length-both [] ys = omega arith
    length-both (x ∷ xs) ys = let ih = length-both xs ys in omega (arith, ih)

    by : (op : OpName) (t : Bool) → (op.k == a.op.k) ≡ t → (b : Bool) → length (filter (λ x. same_op op x.op) (asked ++ a ∷ [])) ≡ length (filter (λ x. same_op op x.op) asked) + length (cond (b && (op.k == a.op.k)) (a ∷ []) []) → length (filter (λ x. same_op op x.op) asked) ≤ 1 → length (filter (λ x. same_op op x.op) (asked ++ a ∷ [])) ≤ 1
    by op false e true is was = let short : length {A = AskedFor} (cond (true && (op.k == a.op.k)) (a ∷ []) []) ≡ 0 = ap (λ b. length {A = AskedFor} (cond b (a ∷ []) [])) e in omega (arith, is, was, short)
    by op t e false is was = omega (arith, is, was)
    by op true e true is was =
        let same : op.k ≡ suc c = let f : op.k ≡ a.op.k = grind (arith, nat_tests, e) in f ∙ k in
        let none = none-higher n c op asked same h.own in
        let short : length {A = AskedFor} (cond (true && (op.k == a.op.k)) (a ∷ []) []) ≡ 1 = ap (λ b. length {A = AskedFor} (cond b (a ∷ []) [])) e in
        omega (arith, is, none, short)

-- the row of a request that waits

pub waiting-shown : (s : Settings) (p : ClientState) (m : Message) (kind : OpKind) (row : Row) (sent : List ℕ) → kind_of m.rest ≡ Some kind → sent ≡ carried_for s m p.identity → row.k ≡ suc p.count → row.id ≡ m.id → row.kind ≡ kind → action_view row.action ≡ action s m.rest → row.restricts ≡ restricts s (action s m.rest) → row.who ≡ simple_who (request sent) → row.way ≡ way_of sent None → shown row ≡ seen s (waiting_row s p m)
waiting-shown s p m kind row sent its is k id kind_is action_is restricts_is who way =
    let kinds : Some row.kind ≡ kind_of (carried_for s m p.identity) = ap (λ x. Some x) kind_is ∙ sym (carried_kind s m p.identity ∙ its) in
    let whos = who ∙ ap (λ x. simple_who (request x)) is in
    let ways = way ∙ ap (λ x. way_of x None) is in
    λ i. record { k = k i; id = id i; kind = kinds i; action = action_is i; restricts = restricts_is i; who = whos i; way = ways i }

-- a request other than a Bind

abbrev pub next_asked : ClientState → Message → AskedFor
next_asked p m = record { op = next_name p; kind = kind_wanted m }

pub request-asks : (s : Settings) (p : ClientState) (at : ℕ) (m : Message) (kind : OpKind) → kind_of m.rest ≡ Some kind → same_kind Bind kind ≡ false → (m.id == 0) ≡ false → lets_go_on (check_at s p m) ≡ true → step_client s p (record { entry = entry p at (what.In m.id m.rest); mark = None }) ≡ record (with_row at (waiting_row s p m) p) { asked = p.asked ++ next_asked p m ∷ [] }
request-asks s p at m kind k b zero goes =
    let plain : is_request_of Bind m ≡ false = ap (passes (same_kind Bind)) k ∙ b in
    let pinned : is_pinned s p m ≡ false = ap (λ x. x && p.in_exchange && lets_go_on (check_at s p m)) plain in
    let make : Bool → Bool → Bool → ClientState = λ makes binds asks. record (elim makes [ false ↦ without (abandons m) at p | true ↦ elim binds [ true ↦ with_bind s m p | false ↦ with_request s m p ] ]) { moment = at; asked = if asks then p.asked ++ next_asked p m ∷ [] else p.asked } in
    let put : Option ℕ → ClientState = λ o. record (with_row at (record (waiting_row s p m) { connection = o }) p) { asked = p.asked ++ next_asked p m ∷ [] } in
    ap (λ x. make x (is_request_of Bind m) (is_asked_for s p m)) (kind-makes m kind k zero)
    ∙ ap (λ x. make true x (is_asked_for s p m)) plain
    ∙ ap (λ x. make true false (x && not (is_pinned s p m))) goes
    ∙ ap (λ x. make true false (not x)) pinned
    ∙ ap (λ x. put (elim x [ true ↦ held_connection p | false ↦ None ])) pinned

map-end : {A B : Type 0} (f : A → B) (xs : List A) (x : A) → map f (xs ++ x ∷ []) ≡ map f xs ++ f x ∷ []
map-end f [] x = refl
map-end f (y ∷ xs) x = ap (λ l. f y ∷ l) (map-end f xs x)

unwritten : (s : Settings) (p : ClientState) (m : Message) → is_written (waiting_row s p m) ≡ false
unwritten s p m = and-false (is_action Write (waiting_row s p m).action)
  where
    and-false : (b : Bool) → (b && false) ≡ false
    and-false true = refl
    and-false false = refl

pub asked-stands : (s : Settings) (p : ClientState) (d : ClientPart) (o : Counted) (row : Row) (at kept : ℕ) (m : Message) → shown row ≡ seen s (waiting_row s p m) → o ≡ record { count = d.operations.count + 1; rows = d.operations.rows ++ row ∷ [] } → length d.operations.rows + 1 + 1 + length d.paused.keys ≤ kept → Stands s p d → Stands s (record (with_row at (waiting_row s p m) p) { asked = p.asked ++ next_asked p m ∷ [] }) (record d { operations = o; asked = d.asked + 1; moment = at; kept = kept })
asked-stands s p d o row at kept m is ops room h =
    let new = waiting_row s p m in
    let same : length (filter is_written (p.rows ++ new ∷ [])) ≡ length (filter is_written p.rows) = ap (length {A = ClientRow}) (filter-end is_written p.rows new ∙ ap (λ b. filter is_written p.rows ++ cond b (new ∷ []) []) (unwritten s p m) ∙ append-nil (filter is_written p.rows)) in
    rw ops (record {
      settings = h.settings;
      number = h.number;
      moment = refl;
      arrived = h.arrived;
      gone = h.gone;
      live = record {
        count_is = omega (arith, h.live.count_is);
        rows_are = map-end (seen s) p.rows new ∙ ap (λ l. l ++ seen s new ∷ []) h.live.rows_are ∙ ap (λ v. map shown d.operations.rows ++ v ∷ []) (sym is) ∙ sym (map-end shown d.operations.rows row);
      };
      asks = asks-one p.number p.count p.asked d.asked (next_asked p m) refl refl h.asks;
      identity = h.identity;
      in_exchange = h.in_exchange;
      hold = h.hold;
      binds = λ there. binds-same s p.rows (p.rows ++ new ∷ []) p.window d.window d.window (h.binds there) same refl;
      stalled = h.stalled;
      paused = h.paused;
      idle = h.idle;
      room = λ there stays. let long = length-end d.operations.rows row in omega (arith, room, long);
    })
  where
    length-end : (xs : List Row) (x : Row) → length (xs ++ x ∷ []) ≡ length xs + 1
    length-end [] x = refl
    length-end (y ∷ xs) x = let ih = length-end xs x in omega (arith, ih)

pub did-ask : (s : Settings) (p : ClientState) (d : ClientPart) (o : Counted) (row : Row) (at kept : ℕ) (m : Message) (kind : OpKind) (bound : Bound) (old new : Outbox) → kind_of m.rest ≡ Some kind → same_kind Bind kind ≡ false → (m.id == 0) ≡ false → lets_go_on (check_at s p m) ≡ true → shown row ≡ seen s (waiting_row s p m) → o ≡ record { count = d.operations.count + 1; rows = d.operations.rows ++ row ∷ [] } → length d.operations.rows + 1 + 1 + length d.paused.keys ≤ kept → bound ≡ target s p at → Stands s p d → new.entries.items ≡ old.entries.items ++ entry p at (what.In m.id m.rest) ∷ [] → new.letters.items ≡ old.letters.items ++ to Desk (Ask (record { client = d.number; k = row.k }) (record { kind = Regular; bound = bound })) → Did s p at None (act (what.In m.id m.rest ∷ []) (asks s p at m)) old new (record d { operations = o; asked = d.asked + 1; moment = at; kept = kept })
did-ask s p d o row at kept m kind bound old new its plain zero goes is ops room to_where h entries letters =
    let no_bind : is_request_of Bind m ≡ false = ap (passes (same_kind Bind)) its ∙ plain in
    let number : row.k ≡ suc p.count = ap (λ v. v.k) is in
    let name : ◌≡◌ {A = OpName} (record { client = d.number; k = row.k }) (next_name p) = let n = sym h.number in λ i. record { client = n i; k = number i } in
    record {
      entries = entries;
      letters =
          letters
          ∙ ap (λ n. old.letters.items ++ to Desk (Ask n (record { kind = Regular; bound = bound }))) name
          ∙ ap (λ b. old.letters.items ++ to Desk (Ask (next_name p) (record { kind = Regular; bound = b }))) to_where
          ∙ ap (λ b. old.letters.items ++ to Desk (Ask (next_name p) (elim b [ true ↦ record { kind = BindConnections; bound = Free } | false ↦ record { kind = Regular; bound = target s p at } ]))) (sym no_bind);
      stands = subst (λ (q : ClientState). Stands s q (record d { operations = o; asked = d.asked + 1; moment = at; kept = kept })) (sym (request-asks s p at m kind its plain zero goes)) (asked-stands s p d o row at kept m is ops room h);
    }
