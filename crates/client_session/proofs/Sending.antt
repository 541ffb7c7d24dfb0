-- What the part stands for where an operation goes to a connection.
use Rattle.std.proofs.Common.{◌≡◌, ◌≤◌, ◌<◌, ◌+◌, ◌-◌, ℕ, ℤ, suc, Bool, true, false, not, ◌==◌, ◌&&◌, ◌||◌, cond, if◌then◌else◌, List, [], ◌∷◌, ◌++◌, filter, find, length, map, Option, Some, None, unwrap_or, arith, refl, ap, subst, sym, ◌∙◌}
use Rattle.std.proofs.lemmas.Bool.Decides.{nat_tests}
use Rattle.std.specs.Prelude.{is_some}
use Rattle.std.specs.Option.{option_map}
use Rattle.ldap_spec.specs.Kinds.{kind_of}
use Rattle.lload_names.specs.Same.{same_kind}
use Rattle.lload_names.specs.declared.names.OpKind.{OpKind}
use Rattle.lload_names.specs.declared.names.OpKind.TheVariants.{Bind}
use Rattle.lload_names.specs.declared.names.OpName.{OpName}
use Rattle.lload_names.specs.declared.names.Hold.{Hold}
use Rattle.lload_names.specs.declared.names.Hold.TheVariants as hold
use Rattle.lload_spec.specs.Lists.{passes}
use Rattle.lload_spec.specs.Binding.{is_action}
use Rattle.lload_spec.specs.BindingCalls.{Call, Chosen, standing}
use Rattle.lload_spec.specs.Settings.{Settings, Action as ActionSet, Write}
use Rattle.lload_spec.specs.Window.{Standing}
use Rattle.part_spec.specs.ClientState.{ClientRow, ClientState, Window as WindowBy, Held as HeldBy, is_written, row_named, name_of, is_bind_row, chosen_window, forwarded}
use Rattle.restrictions.specs.Actions.{action_view}
use Rattle.restrictions.specs.declared.action.Action.{Action}
use Rattle.restrictions.specs.declared.action.Action.TheVariants as kept
use Rattle.client_rows.specs.Rows.{Counted, has_number, sent, sent_on, went_to, waiting_body, IsNumbered, Rises, one}
use Rattle.client_rows.specs.declared.row.Row.{Row}
use Rattle.client_rows.specs.declared.row.Way.{Way}
use Rattle.client_rows.specs.declared.row.Way.TheVariants.{Waits, Went}
use Rattle.client_rows.proofs.Index.{none-sent}
use Rattle.client_session.specs.Choices.{hold_of, hold_by, with_sent}
use Rattle.client_session.specs.declared.part.ClientPart.{ClientPart}
use Rattle.client_session.specs.declared.part.Held.{Held}
use Rattle.client_session.specs.Stands.{Seen, seen, shown, held, way_of, written, standing_for, Binds, Stands}
use Rattle.client_session.proofs.Answered.{found-number}
use Rattle.client_session.proofs.Ends.{writes-shown}
use Rattle.client_session.proofs.Through.{find-through}
use Rattle.client_session.proofs.Windows.{standing-wrote, standing-backend, standing-connection}

-- an element that is found passes the test
module _ {A : Type 0} (t : A → Bool) where
  pub find-passes : (xs : List A) (x : A) → find t xs ≡ Some x → t x ≡ true
  find-passes [] x e = absurd (let bad : ◌≡◌ {A = Option A} None (Some x) = e in cc)
  find-passes (y ∷ xs) x e = by (t y) refl e (find-passes xs x)
    where
      by : (b : Bool) → t y ≡ b → cond b (Some y) (find t xs) ≡ Some x → (find t xs ≡ Some x → t x ≡ true) → t x ≡ true
      by true f g ih = let same : y ≡ x = cc in ap t (sym same) ∙ f
      by false f g ih = ih g

-- the live operation of a name has that name
pub named-client : (p : ClientState) (op : OpName) (r : ClientRow) → row_named p op ≡ Some r → p.number ≡ op.client
named-client p op r e = let f = find-passes (λ x. p.number == op.client && x.k == op.k) p.rows r e in by (p.number == op.client) refl (r.k == op.k) refl f
  where
    by : (b : Bool) → (p.number == op.client) ≡ b → (c : Bool) → (r.k == op.k) ≡ c → (b && c) ≡ true → p.number ≡ op.client
    by true f c g h = grind (arith, nat_tests, f)
    by false f c g h = absurd (let bad : false ≡ true = h in cc)

pub named-number : (p : ClientState) (op : OpName) (r : ClientRow) → row_named p op ≡ Some r → r.k ≡ op.k
named-number p op r e = let f = find-passes (λ x. p.number == op.client && x.k == op.k) p.rows r e in by (p.number == op.client) (r.k == op.k) refl f
  where
    by : (b c : Bool) → (r.k == op.k) ≡ c → (b && c) ≡ true → r.k ≡ op.k
    by true true g h = grind (arith, nat_tests, g)
    by true false g h = absurd (let bad : false ≡ true = h in cc)
    by false c g h = absurd (let bad : false ≡ true = h in cc)

pub named-name : (p : ClientState) (op : OpName) (r : ClientRow) → row_named p op ≡ Some r → name_of p r ≡ op
named-name p op r e = let a = named-client p op r e in let b = named-number p op r e in λ i. record { client = a i; k = b i }

-- and it is kept so
pub named-kept : (s : Settings) (p : ClientState) (d : ClientPart) (op : OpName) (r : ClientRow) → row_named p op ≡ Some r → Stands s p d → option_map shown (find (has_number op.k) d.operations.rows) ≡ Some (seen s r)
named-kept s p d op r e h =
    let own : (p.number == op.client) ≡ true = let a = named-client p op r e in grind (arith, nat_tests, a) in
    let by_number : row_named p op ≡ find (λ x. x.k == op.k) p.rows = ap (λ b. find (λ x. b && x.k == op.k) p.rows) own in
    sym (find-through (seen s) shown (λ v. v.k == op.k) p.rows d.operations.rows h.live.rows_are) ∙ ap (option_map (seen s)) (sym by_number ∙ e)

-- the rows

abbrev sent_seen : ℕ → ℕ → Seen → Seen
sent_seen k u v = if v.k == k then record v { way = sent_on u v.way } else v

seen-sent : (s : Settings) (k u : ℕ) (r : ClientRow) → seen s (forwarded k u r) ≡ sent_seen k u (seen s r)
seen-sent s k u r = by (r.k == k) r.connection refl
  where
    by : (b : Bool) (o : Option ℕ) → r.connection ≡ o → seen s (if b then record r { connection = Some (unwrap_or r.connection u) } else r) ≡ (if b then record (seen s r) { way = sent_on u (way_of r.request.rest r.connection) } else seen s r)
    by true None e = rw e refl
    by true (Some v) e = rw e refl
    by false o e = refl

shown-sent : (k u : ℕ) (r : Row) → shown (sent k u r) ≡ sent_seen k u (shown r)
shown-sent k u r = by (r.k == k)
  where
    by : (b : Bool) → shown (if b then record r { way = sent_on u r.way } else r) ≡ (if b then record (shown r) { way = sent_on u r.way } else shown r)
    by true = refl
    by false = refl

pub rows-sent : (s : Settings) (k u : ℕ) (xs : List ClientRow) (ys : List Row) → map (seen s) xs ≡ map shown ys → map (seen s) (map (forwarded k u) xs) ≡ map shown (map (sent k u) ys)
rows-sent s k u xs ys e = left xs ∙ ap (map (sent_seen k u)) e ∙ sym (right ys)
  where
    left : (xs : List ClientRow) → map (seen s) (map (forwarded k u) xs) ≡ map (sent_seen k u) (map (seen s) xs)
    left [] = refl
    left (x ∷ xs) = rw (seen-sent s k u x, left xs) refl

    right : (ys : List Row) → map shown (map (sent k u) ys) ≡ map (sent_seen k u) (map shown ys)
    right [] = refl
    right (y ∷ ys) = rw (shown-sent k u y, right ys) refl

pub length-sent : (k u : ℕ) (ys : List Row) → length (map (sent k u) ys) ≡ length ys
length-sent k u [] = refl
length-sent k u (y ∷ ys) = ap suc (length-sent k u ys)

-- how many writes are live then
one-sent : (u : ℕ) (x : Row) (rest : List ℕ) (rs : List Row) → x.way ≡ Waits rest → length (filter written (record x { way = sent_on u x.way } ∷ rs)) ≡ length (filter written (x ∷ rs)) + one (is_action Write (action_view x.action))
one-sent u x rest rs w = by (is_action Write (action_view x.action)) x.way w
  where
    by : (b : Bool) (v : Way) → v ≡ Waits rest → length (cond (b && is_some (went_to (sent_on u v))) (record x { way = sent_on u x.way } ∷ filter written rs) (filter written rs)) ≡ length (cond (b && is_some (went_to v)) (x ∷ filter written rs) (filter written rs)) + one b
    by true v e = rw e (omega arith)
    by false v e = omega arith

pub writes-sent : (k u low : ℕ) (rs : List Row) (next : ℕ) (r : Row) (rest : List ℕ) → Rises low rs next → find (has_number k) rs ≡ Some r → r.way ≡ Waits rest → length (filter written (map (sent k u) rs)) ≡ length (filter written rs) + one (is_action Write (action_view r.action))
writes-sent k u low [] next r rest h f w = absurd (let bad : ◌≡◌ {A = Option Row} None (Some r) = f in cc)
writes-sent k u low (x ∷ rs) next r rest h f w = by (x.k == k) refl f (λ e. writes-sent k u (x.k + 1) rs next r rest h.1 e w)
  where
    keep : (b : Bool) (n m : ℕ) (xs ys : List Row) → length xs ≡ length ys + n → length (cond b (x ∷ xs) xs) ≡ length (cond b (x ∷ ys) ys) + n
    keep true n m xs ys e = omega (arith, e)
    keep false n m xs ys e = e

    by : (b : Bool) → (x.k == k) ≡ b → cond b (Some x) (find (has_number k) rs) ≡ Some r → (find (has_number k) rs ≡ Some r → length (filter written (map (sent k u) rs)) ≡ length (filter written rs) + one (is_action Write (action_view r.action))) → length (filter written ((if b then record x { way = sent_on u x.way } else x) ∷ map (sent k u) rs)) ≡ length (filter written (x ∷ rs)) + one (is_action Write (action_view r.action))
    by true t e ih =
        let is : x.k ≡ k = grind (arith, nat_tests, t) in
        let same : x ≡ r = cc in
        rw (none-sent k u (x.k + 1) rs next (omega (arith, is)) h.1) (one-sent u x rest rs (ap (λ y. y.way) same ∙ w) ∙ ap (λ y. length (filter written (x ∷ rs)) + one (is_action Write (action_view y.action))) same)
    by false t e ih = keep (written x) (one (is_action Write (action_view r.action))) 0 _ _ (ih e)

-- the window

-- where the count of live writes is so, and a call came
module _ (s : Settings) (xs ys : List ClientRow) (w : WindowBy) (old new : Standing) (h : Binds s xs w old) where
  seconds-same : old.seconds ≡ s.write_coherence
  seconds-same = ap (λ x. x.seconds) h.kept_is

  pub binds-same : length (filter is_written ys) ≡ length (filter is_written xs) → new ≡ old → Binds s ys w new
  binds-same count same =
      let make : ℕ → Standing = λ live. record (standing_for s xs w) { live = live } in
      record { calls = h.calls; kept_is = same ∙ h.kept_is; says = ap make count ∙ h.says ∙ sym same }

  called : (c : Call) → ((calls : List Call) → old ≡ standing old.seconds calls → new ≡ standing old.seconds (calls ++ c ∷ [])) → new ≡ standing s.write_coherence (h.calls ++ c ∷ [])
  called c call =
      let Was : ℤ → Type 0 = λ z. old ≡ standing z h.calls in
      let Is : ℤ → Type 0 = λ z. new ≡ standing z (h.calls ++ c ∷ []) in
      subst Is seconds-same (call h.calls (subst Was (sym seconds-same) h.kept_is))

  pub binds-by : (c : Call) (change : Standing → Standing) (v : WindowBy) → ((calls : List Call) → old ≡ standing old.seconds calls → new ≡ standing old.seconds (calls ++ c ∷ [])) → standing s.write_coherence (h.calls ++ c ∷ []) ≡ change (standing s.write_coherence h.calls) → standing_for s ys v ≡ change (standing_for s xs w) → Binds s ys v new
  binds-by c change v call is by =
      record {
        calls = h.calls ++ c ∷ [];
        kept_is = called c call;
        says = by ∙ ap change (h.says ∙ h.kept_is) ∙ sym is ∙ sym (called c call);
      }

pub binds-sent : (s : Settings) (xs ys : List ClientRow) (w : WindowBy) (old new : Standing) (a : Action) (u b : ℕ) → ((calls : List Call) (hold : Hold) → hold_of a ≡ Some hold → old ≡ standing old.seconds calls → new ≡ standing old.seconds (calls ++ Chosen hold u b ∷ [])) → (hold_of a ≡ None → new ≡ old) → length (filter is_written ys) ≡ length (filter is_written xs) + one (is_action Write (action_view a)) → Binds s xs w old → Binds s ys (chosen_window (action_view a) u b w) new
binds-sent s xs ys w old new kept.Ignore u b call same count h = binds-same s xs ys w old new h (omega (arith, count)) (same refl)
binds-sent s xs ys w old new kept.Reject u b call same count h = binds-same s xs ys w old new h (omega (arith, count)) (same refl)
binds-sent s xs ys w old new kept.Write u b call same count h =
    let make : ℕ → Standing = λ live. record (standing_for s xs w) { live = live; write = Some b } in
    binds-by s xs ys w old new h (Chosen hold.Write u b) (λ x. record x { live = x.live + 1; write = Some b }) (record w { write = Some b }) (λ calls. call calls hold.Write refl) (standing-wrote s.write_coherence u b h.calls) (ap make count)
binds-sent s xs ys w old new kept.Backend u b call same count h =
    let fewer : length (filter is_written ys) ≡ length (filter is_written xs) = omega (arith, count) in
    let make : ℕ → Standing = λ live. record (standing_for s xs w) { live = live; backend = Some (unwrap_or w.backend b) } in
    binds-by s xs ys w old new h (Chosen hold.Backend u b) (λ x. record x { backend = Some (unwrap_or x.backend b) }) (record w { backend = Some (unwrap_or w.backend b) }) (λ calls. call calls hold.Backend refl) (standing-backend s.write_coherence u b h.calls) (ap make fewer)
binds-sent s xs ys w old new kept.Connection u b call same count h =
    let fewer : length (filter is_written ys) ≡ length (filter is_written xs) = omega (arith, count) in
    let make : ℕ → Standing = λ live. record (standing_for s xs w) { live = live; connection = Some (unwrap_or w.connection u) } in
    binds-by s xs ys w old new h (Chosen hold.Connection u b) (λ x. record x { connection = Some (unwrap_or x.connection u) }) (record w { connection = Some (unwrap_or w.connection u) }) (λ calls. call calls hold.Connection refl) (standing-connection s.write_coherence u b h.calls) (ap make fewer)

-- the part

pub kept-row : (s : Settings) (r : ClientRow) (o : Option Row) → option_map shown o ≡ Some (seen s r) → (row : Row) × (o ≡ Some row) × (shown row ≡ seen s r)
kept-row s r None e = absurd (let bad : ◌≡◌ {A = Option Seen} None (Some (seen s r)) = e in cc)
kept-row s r (Some row) e = (row, refl, cc)

pub sent-stands : (s : Settings) (p : ClientState) (d : ClientPart) (op : OpName) (kind : OpKind) (a : Action) (u b : ℕ) (r : ClientRow) (o : Counted) (window : Standing) (hold : Option Held) → IsNumbered d.operations → o ≡ record { count = d.operations.count; rows = map (sent op.k u) d.operations.rows } → ((calls : List Call) (h : Hold) → hold_of a ≡ Some h → d.window ≡ standing d.window.seconds calls → window ≡ standing d.window.seconds (calls ++ Chosen h u b ∷ [])) → (hold_of a ≡ None → window ≡ d.window) → hold ≡ hold_by kind u op d.hold → Stands s p d → row_named p op ≡ Some r → r.connection ≡ None → kind_of r.request.rest ≡ Some kind → action_view a ≡ r.action → Stands s (with_sent u b r p) (record d { operations = o; window = window; hold = hold })
sent-stands s p d op kind a u b r o window hold n is call same holds h named waits its act =
    let number = named-number p op r named in
    let name = named-name p op r named in
    let row = kept-row s r _ (named-kept s p d op r named h) in
    let way : row.0.way ≡ Waits r.request.rest = ap (λ v. v.way) row.2 ∙ ap (way_of r.request.rest) waits in
    let action : action_view row.0.action ≡ action_view a = ap (λ v. v.action) row.2 ∙ sym act in
    let rows : map (seen s) (map (forwarded r.k u) p.rows) ≡ map shown (map (sent op.k u) d.operations.rows) = ap (λ k. map (seen s) (map (forwarded k u) p.rows)) number ∙ rows-sent s op.k u p.rows d.operations.rows h.live.rows_are in
    let before = writes-shown s p.rows d.operations.rows h.live.rows_are in
    let after = writes-shown s (map (forwarded r.k u) p.rows) (map (sent op.k u) d.operations.rows) rows in
    let more = writes-sent op.k u 0 d.operations.rows (d.operations.count + 1) row.0 r.request.rest n row.1 way in
    let same_one : one (is_action Write (action_view row.0.action)) ≡ one (is_action Write (action_view a)) = ap (λ x. one (is_action Write x)) action in
    let count : length (filter is_written (map (forwarded r.k u) p.rows)) ≡ length (filter is_written p.rows) + one (is_action Write (action_view a)) = omega (arith, before, after, more, same_one) in
    let is_bind : is_bind_row r ≡ same_kind Bind kind = ap (passes (same_kind Bind)) its in
    rw is (record {
      settings = h.settings;
      number = h.number;
      moment = h.moment;
      arrived = h.arrived;
      gone = h.gone;
      live = record { count_is = h.live.count_is; rows_are = rows };
      asks = h.asks;
      identity = h.identity;
      in_exchange = h.in_exchange;
      hold = ap (λ t. if t then Some (record { connection = u; holder = name_of p r }) else p.hold) is_bind ∙ of-hold (same_kind Bind kind) name h.hold ∙ ap (option_map held) (sym holds);
      binds = λ there. subst (λ (x : ActionSet). Binds s (map (forwarded r.k u) p.rows) (chosen_window x u b p.window) window) act (binds-sent s p.rows (map (forwarded r.k u) p.rows) p.window d.window window a u b call same count (h.binds there));
      stalled = h.stalled;
      paused = h.paused;
      idle = h.idle;
      room = λ there stays. let old = h.room there stays in let long = length-sent op.k u d.operations.rows in omega (arith, old, long);
    })
  where
    of-hold : (t : Bool) → name_of p r ≡ op → p.hold ≡ option_map held d.hold → (if t then Some (record { connection = u; holder = name_of p r }) else p.hold) ≡ option_map held (if t then Some (record { conn = u; holder = op }) else d.hold)
    of-hold true e f = ap (λ n. Some (record { connection = u; holder = n })) e
    of-hold false e f = f
