-- What a Bind makes that goes on.
use Rattle.std.proofs.Common.{◌≡◌, ◌≤◌, ◌+◌, ℕ, suc, Bool, true, false, not, ◌==◌, ◌&&◌, cond, if◌then◌else◌, List, [], ◌∷◌, ◌++◌, filter, length, map, Option, Some, None, arith, refl, ap, subst, sym, ◌∙◌, append_assoc, append-nil}
use Rattle.std.specs.Prelude.{is_some, is_none}
use Rattle.std.specs.Option.{option_map}
use Rattle.ldap_spec.specs.Kinds.{kind_of}
use Rattle.ldap_spec.specs.Messages.{Message}
use Rattle.ldap_spec.specs.Requests.{request}
use Rattle.lload_names.specs.Same.{same_kind}
use Rattle.lload_names.specs.declared.names.Bound.TheVariants.{Free}
use Rattle.lload_names.specs.declared.names.ConnKind.TheVariants.{Regular, Bind as BindConnections}
use Rattle.lload_names.specs.declared.names.Letter.TheVariants.{Ask, Forward}
use Rattle.lload_names.specs.declared.names.OpKind.TheVariants.{Bind}
use Rattle.lload_names.specs.declared.names.OpName.{OpName}
use Rattle.lload_names.specs.declared.names.PartName.TheVariants.{Desk, Up as Connection}
use Rattle.lload_names.specs.declared.names.Posted.{Posted}
use Rattle.lload_names.specs.declared.names.Want.{Want}
use Rattle.lload_names.specs.declared.names.What.TheVariants as what
use Rattle.lload_spec.specs.Answers.{wants_identity}
use Rattle.lload_spec.specs.Binding.{is_action, want_by}
use Rattle.lload_spec.specs.BindingCalls.{Call, Reset, standing}
use Rattle.lload_spec.specs.FirstCheck.{lets_go_on}
use Rattle.lload_spec.specs.Lists.{passes}
use Rattle.lload_spec.specs.Operations.{is_request_of}
use Rattle.lload_spec.specs.Settings.{Settings, Write}
use Rattle.lload_spec.specs.Window.{Standing}
use Rattle.part_spec.specs.Inputs.{act, to, entries_of}
use Rattle.part_spec.specs.ClientState.{ClientRow, ClientState, AskedFor, Held as HeldBy, is_written, new_row, name_of, is_asked_for, is_pinned, held_connection, check_at, target, want_for, step_client}
use Rattle.part_spec.specs.ClientTurn as turn
use Rattle.outbox.specs.declared.outbox.Outbox.{Outbox}
use Rattle.client_laws.proofs.KindsKept.{carried_kind}
use Rattle.client_rows.specs.Rows.{Counted, is_bind, sent_on, body_of}
use Rattle.client_rows.specs.declared.row.Row.{Row}
use Rattle.client_rows.specs.declared.row.Way.{Way}
use Rattle.client_rows.specs.declared.row.Way.TheVariants.{Waits, Went}
use Rattle.client_session.specs.Choices.{forward_of}
use Rattle.client_session.specs.Closing.{drops}
use Rattle.client_session.specs.Did.{Did}
use Rattle.client_session.specs.GoesOn.{waiting_row, sent_to, body_to, goes_of}
use Rattle.client_session.specs.declared.part.ClientPart.{ClientPart}
use Rattle.client_session.specs.declared.part.Held.{Held}
use Rattle.client_session.specs.Stands.{Seen, seen, shown, held, way_of, Asks, Stands}
use Rattle.client_session.proofs.Asking.{asks-more}
use Rattle.client_session.proofs.Begun.{bind-stands, bind-came, bound_anew}
use Rattle.client_session.proofs.Chosen.{asks-who}
use Rattle.client_session.proofs.Closings.{drops-shown}
use Rattle.client_session.proofs.Ignored.{binds-to-nothing}
use Rattle.client_session.proofs.Rules.{entry}
use Rattle.client_session.proofs.Went.{asks-one, next_asked}

-- no Bind is a write
bind-unwritten : (s : Settings) (p : ClientState) (m : Message) → kind_of m.rest ≡ Some Bind → is_written (new_row s p m) ≡ false
bind-unwritten s p m k = ap (λ a. is_action Write a && is_some (new_row s p m).connection) (binds-to-nothing s m.rest k)

-- the part behind a Bind
anew-stands : (s : Settings) (p : ClientState) (d : ClientPart) (o : Counted) (window : Standing) (at kept many : ℕ) (asked : List AskedFor) (new : ClientRow) (row : Row) → o ≡ record { count = d.operations.count + 1; rows = row ∷ [] } → shown row ≡ seen s new → is_written new ≡ false → ((calls : List Call) → d.window ≡ standing d.window.seconds calls → window ≡ standing d.window.seconds (calls ++ Reset ∷ [])) → 2 + length d.paused.keys ≤ kept → Asks p.number (suc p.count) asked many → Stands s p d → Stands s (record (bound_anew at new p) { asked = asked }) (record d { operations = o; identity = []; in_exchange = false; window = window; kept = kept; asked = many; moment = at })
anew-stands s p d o window at kept many asked new row ops is plain call room asks h =
    let rows : ◌≡◌ {A = List Row} o.rows (row ∷ []) = ap (λ c. c.rows) ops in
    let one : length o.rows ≡ 1 = ap (length {A = Row}) rows in
    let none : length (filter is_written (new ∷ [])) ≡ 0 = ap (λ b. length {A = ClientRow} (cond b (new ∷ []) [])) plain in
    let same : map (seen s) (new ∷ []) ≡ map shown o.rows = ap (λ v. v ∷ []) (sym is) ∙ sym (ap (map shown) rows) in
    let b = bind-stands s p d (new ∷ []) o window kept (ap (λ c. c.count) ops) same none call (λ there stays. omega (arith, room, one)) h in
    record {
      settings = b.settings;
      number = b.number;
      moment = refl;
      arrived = b.arrived;
      gone = b.gone;
      live = b.live;
      asks = asks;
      identity = b.identity;
      in_exchange = b.in_exchange;
      hold = b.hold;
      binds = b.binds;
      stalled = b.stalled;
      paused = b.paused;
      idle = b.idle;
      room = b.room;
    }

-- whether it goes on in its exchange
pinned-by : (s : Settings) (p : ClientState) (m : Message) (b : Bool) → kind_of m.rest ≡ Some Bind → lets_go_on (check_at s p m) ≡ true → p.in_exchange ≡ b → is_pinned s p m ≡ b
pinned-by s p m b k goes e =
    ap (λ x. x && p.in_exchange && lets_go_on (check_at s p m)) (ap (passes (same_kind Bind)) k)
    ∙ ap (λ x. x && lets_go_on (check_at s p m)) e ∙ ap (λ x. b && x) goes ∙ and-true b
  where
    and-true : (x : Bool) → (x && true) ≡ x
    and-true true = refl
    and-true false = refl

asked-by : (s : Settings) (p : ClientState) (m : Message) (b : Bool) → lets_go_on (check_at s p m) ≡ true → is_pinned s p m ≡ b → is_asked_for s p m ≡ not b
asked-by s p m b goes e = ap (λ x. x && not (is_pinned s p m)) goes ∙ ap not e

row-by : (s : Settings) (p : ClientState) (m : Message) (b : Bool) → is_pinned s p m ≡ b → new_row s p m ≡ record (waiting_row s p m) { connection = elim b [ true ↦ held_connection p | false ↦ None ] }
row-by s p m b e = ap (λ x. record (waiting_row s p m) { connection = elim x [ true ↦ held_connection p | false ↦ None ] }) e

module _ (s : Settings) (p : ClientState) (d : ClientPart) (o : Counted) (window : Standing) (at kept : ℕ) (m : Message) (row : Row) (old new : Outbox) (its : kind_of m.rest ≡ Some Bind) (zero : (m.id == 0) ≡ false) (goes : lets_go_on (check_at s p m) ≡ true) (call : (calls : List Call) → d.window ≡ standing d.window.seconds calls → window ≡ standing d.window.seconds (calls ++ Reset ∷ [])) (room : 2 + length d.paused.keys ≤ kept) (h : Stands s p d) (entries : new.entries.items ≡ old.entries.items ++ entry p at (what.In m.id m.rest) ∷ []) (is : shown row ≡ seen s (waiting_row s p m)) where
  drops-same : drops d.number d.operations.rows ≡ turn.drops p
  drops-same = sym (drops-shown s p d.operations.rows h.live.rows_are ∙ ap (λ n. drops n d.operations.rows) h.number)

  name-same : ◌≡◌ {A = OpName} (record { client = d.number; k = row.k }) (name_of p (new_row s p m))
  name-same = let n = sym h.number in let k = ap (λ v. v.k) is in λ i. record { client = n i; k = k i }

  -- the desk is asked
  pub did-bind-ask : p.in_exchange ≡ false → o ≡ record { count = d.operations.count + 1; rows = row ∷ [] } → new.letters.items ≡ (old.letters.items ++ drops d.number d.operations.rows) ++ to Desk (Ask (record { client = d.number; k = row.k }) (record { kind = BindConnections; bound = Free })) → Did s p at None (act (what.In m.id m.rest ∷ []) (turn.binds s p at m)) old new (record d { operations = o; identity = []; in_exchange = false; window = window; kept = kept; asked = d.asked + 1; moment = at })
  did-bind-ask outside ops letters =
      let pinned = pinned-by s p m false its goes outside in
      let new_is = row-by s p m false pinned in
      let want : ◌≡◌ {A = Want} (record { kind = BindConnections; bound = Free }) (want_for s p at m) = sym (ap (λ b. elim b [ true ↦ record { kind = BindConnections; bound = Free } | false ↦ record { kind = Regular; bound = target s p at } ]) (ap (passes (same_kind Bind)) its)) in
      record {
        entries = entries;
        letters =
            letters
            ∙ append_assoc old.letters.items (drops d.number d.operations.rows) _
            ∙ ap (λ l. old.letters.items ++ (l ++ to Desk (Ask (record { client = d.number; k = row.k }) (record { kind = BindConnections; bound = Free })))) drops-same
            ∙ ap (λ n. old.letters.items ++ (turn.drops p ++ to Desk (Ask n (record { kind = BindConnections; bound = Free })))) name-same
            ∙ ap (λ w. old.letters.items ++ (turn.drops p ++ to Desk (Ask (name_of p (new_row s p m)) w))) want
            ∙ ap (λ b. old.letters.items ++ (turn.drops p ++ elim b [ true ↦ turn.goes_on s p m | false ↦ turn.asks s p at m ])) (sym pinned);
        stands =
            subst (λ (q : ClientState). Stands s q (record d { operations = o; identity = []; in_exchange = false; window = window; kept = kept; asked = d.asked + 1; moment = at }))
            (sym (bind-came s p at m true its zero (asked-by s p m false goes pinned)))
            (anew-stands s p d o window at kept (d.asked + 1) (p.asked ++ next_asked p m ∷ []) (new_row s p m) row ops (is ∙ ap (seen s) (sym new_is)) (bind-unwritten s p m its) call room (asks-one p.number p.count p.asked d.asked (next_asked p m) refl refl h.asks) h);
      }

  -- its request goes to the connection that is held
  row-sent : is_pinned s p m ≡ true → shown (sent_to d.hold row) ≡ seen s (new_row s p m)
  row-sent pinned = by d.hold h.hold ∙ ap (seen s) (sym (row-by s p m true pinned))
    where
      by : (x : Option Held) → p.hold ≡ option_map held x → shown (sent_to x row) ≡ seen s (record (waiting_row s p m) { connection = held_connection p })
      by None e = is ∙ ap (λ (y : Option HeldBy). record (seen s (waiting_row s p m)) { way = way_of (waiting_row s p m).request.rest (elim y [ None ↦ None | Some z ↦ Some z.connection ]) }) (sym e)
      by (Some x) e = ap (λ (v : Seen). record v { way = sent_on x.conn v.way }) is ∙ ap (λ (y : Option HeldBy). record (seen s (waiting_row s p m)) { way = way_of (waiting_row s p m).request.rest (elim y [ None ↦ None | Some z ↦ Some z.connection ]) }) (sym e)

  goes-same : (ask_who : Bool) → ask_who ≡ wants_identity s (waiting_row s p m).request → goes_of (record { client = d.number; k = row.k }) d.hold (body_to d.hold row) ask_who ≡ turn.goes_on s p m
  goes-same ask_who asks = by d.hold h.hold
    where
      by : (x : Option Held) → p.hold ≡ option_map held x → goes_of (record { client = d.number; k = row.k }) x (body_to x row) ask_who ≡ turn.goes_on s p m
      by None e = sym (ap (λ y. elim y [ None ↦ [] | Some z ↦ turn.forward s p (new_row s p m) z.holder z.connection ]) e)
      by (Some x) e =
          let way : row.way ≡ Waits (waiting_row s p m).request.rest = ap (λ v. v.way) is in
          let kind = carried_kind s m p.identity ∙ its in
          ap (λ w. forward_of (record { client = d.number; k = row.k }) Bind (body_of w) ask_who x.holder x.conn) way
          ∙ ap (λ n. to (Connection x.conn) (Forward n Bind (waiting_row s p m).request.rest ask_who x.holder)) name-same
          ∙ ap (λ b. to (Connection x.conn) (Forward (name_of p (new_row s p m)) Bind (waiting_row s p m).request.rest b x.holder)) asks
          ∙ sym (ap (λ k. elim k [ None ↦ [] | Some its ↦ to (Connection x.conn) (Forward (name_of p (new_row s p m)) its (waiting_row s p m).request.rest (wants_identity s (waiting_row s p m).request) x.holder) ]) kind)
          ∙ sym (ap (λ y. elim y [ None ↦ [] | Some z ↦ turn.forward s p (new_row s p m) z.holder z.connection ]) e)

  pub did-bind-go : (ask_who : Bool) → p.in_exchange ≡ true → ask_who ≡ wants_identity s (waiting_row s p m).request → o ≡ record { count = d.operations.count + 1; rows = sent_to d.hold row ∷ [] } → new.letters.items ≡ (old.letters.items ++ drops d.number d.operations.rows) ++ goes_of (record { client = d.number; k = row.k }) d.hold (body_to d.hold row) ask_who → Did s p at None (act (what.In m.id m.rest ∷ []) (turn.binds s p at m)) old new (record d { operations = o; identity = []; in_exchange = false; window = window; kept = kept; moment = at })
  did-bind-go ask_who inside asks ops letters =
      let pinned = pinned-by s p m true its goes inside in
      record {
        entries = entries;
        letters =
            letters
            ∙ append_assoc old.letters.items (drops d.number d.operations.rows) _
            ∙ ap (λ l. old.letters.items ++ (l ++ goes_of (record { client = d.number; k = row.k }) d.hold (body_to d.hold row) ask_who)) drops-same
            ∙ ap (λ l. old.letters.items ++ (turn.drops p ++ l)) (goes-same ask_who asks)
            ∙ ap (λ b. old.letters.items ++ (turn.drops p ++ elim b [ true ↦ turn.goes_on s p m | false ↦ turn.asks s p at m ])) (sym pinned);
        stands =
            subst (λ (q : ClientState). Stands s q (record d { operations = o; identity = []; in_exchange = false; window = window; kept = kept; moment = at }))
            (sym (bind-came s p at m false its zero (asked-by s p m true goes pinned)))
            (anew-stands s p d o window at kept d.asked p.asked (new_row s p m) (sent_to d.hold row) ops (row-sent pinned) (bind-unwritten s p m its) call room (asks-more p.number p.count p.asked d.asked h.asks) h);
      }
