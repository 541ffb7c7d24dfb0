-- Where no letter waits, no letter of the machine does, and so each operation that is live at its client has a row at the
-- connection that it was given.
use Rattle.std.proofs.Common.{◌≡◌, ℕ, Bool, true, false, ◌==◌, List, [], ◌∷◌, refl, ap, ◌∙◌, sym, subst, arith}
use Rattle.std.specs.Prelude.{Option, Some, None, filter, map}
use Rattle.std.specs.List.{list_any}
use Rattle.lload_names.specs.declared.names.PartName.{PartName}
use Rattle.lload_names.specs.declared.names.PartName.TheVariants.{Desk, Client, Up as Connection}
use Rattle.lload_spec.specs.Journal.{same_op}
use Rattle.lload_spec.specs.Settings.{Settings}
use Rattle.lload_spec.proofs.Growth.{left, right}
use Rattle.part_laws.proofs.ListLaws.{or_left, same_number, same_op_refl}
use Rattle.part_spec.specs.ConnectionState.{UpRow}
use Rattle.part_spec.specs.World.{World, Flight, is_between}
use Rattle.link_laws.specs.Moves.{waiting_between}
use Rattle.move_laws.specs.Counts.{asks, choices, forwards, lasts, num}
use Rattle.move_laws.specs.World as machine
use Rattle.move_laws.specs.World.{at, is, some_at}
use Rattle.move_laws.proofs.Appends.{num_le, num_true}
use Rattle.stands_laws.specs.Books.{Book, name}
use Rattle.stands_laws.specs.BindStands.{BindRows}
use Rattle.stands_laws.specs.Lists.{Pairs}
use Rattle.stands_laws.specs.Letters.{AnswerIs, AskIs, ChoiceIs, OrderIs}
use Rattle.stands_laws.specs.ClientStands.{serves}
use Rattle.stands_laws.specs.WorldStands.{connection_ledger_in, stands_by}
use Rattle.stands_laws.proofs.Tests.{same_self}
use Rattle.fitness_laws.proofs.WorldTurns.{Standing}

none_waits : (w : World) (p q : PartName) → w.letters ≡ [] → waiting_between w p q ≡ []
none_waits w p q e = ap (λ l. map (λ (f : Flight). f.posted.letter) (filter (is_between p q) l)) e

none_paired : {A B : Type 0} (R : A → B → Type 0) (q : List A) (z : List B) → q ≡ [] → Pairs R q z → z ≡ []
none_paired {A = A} {B = B} R q z e h = by z (subst (λ (l : List A). Pairs R l z) e h)
  where
    by : (z : List B) → Pairs R [] z → z ≡ []
    by [] k = refl
    by (y ∷ ys) k = absurd k

module _ (s : Settings) (b : Book) (w : World) (h : Standing s b w) (rest : w.letters ≡ []) where
  abbrev v : machine.World
  v = h.model

  no_asks : (c : ℕ) → h.model.to_desk c ≡ []
  no_asks c = none_paired (AskIs b c) (waiting_between w (Client c) Desk) (h.model.to_desk c) (none_waits w (Client c) Desk rest) (h.stands.asks c)

  no_choices : (c : ℕ) → h.model.choices c ≡ []
  no_choices c = none_paired (ChoiceIs s b c) (waiting_between w Desk (Client c)) (h.model.choices c) (none_waits w Desk (Client c) rest) (h.stands.choices c)

  no_orders : (c u : ℕ) → h.model.to_conn c u ≡ []
  no_orders c u = none_paired (OrderIs s b c) (waiting_between w (Client c) (Connection u)) (h.model.to_conn c u) (none_waits w (Client c) (Connection u) rest) (h.stands.orders c u)

  no_answers : (c u : ℕ) → h.model.to_client c u ≡ []
  no_answers c u = none_paired (AnswerIs s b c) (waiting_between w (Connection u) (Client c)) (h.model.to_client c u) (none_waits w (Connection u) (Client c) rest) (h.stands.answers c u)

  -- a live operation was given a connection
  sent_on : (c k : ℕ) → (h.model.clients c).live k ≡ true → some_at ((h.model.clients c).given k) ≡ true
  sent_on c k live =
      let asking = h.holds.asking c k in
      let one = asking.one in
      let told = asking.told in
      let goes = asking.goes in
      let alive = asking.alive in
      let lives : num ((h.model.clients c).live k) ≡ 1 = ap num live in
      let none_asked : asks k (h.model.to_desk c) ≡ 0 = ap (asks k) (no_asks c) in
      let none_chosen : choices k (h.model.choices c) ≡ 0 = ap (choices k) (no_choices c) in
      let below = num_le (some_at ((h.model.clients c).given k)) in
      num_true (some_at ((h.model.clients c).given k)) (omega (arith, one, told, goes, alive, lives, none_asked, none_chosen, below))

  -- and it has a row there
  row_at : (c k u : ℕ) → (h.model.clients c).live k ≡ true → at ((h.model.clients c).given k) u ≡ true → (h.model.conns u).rows c k ≡ true
  row_at c k u live given =
      let routed = (h.holds.routed c k u).routed in
      let sent = routed.sent in
      let told = routed.told in
      let ended = routed.ended in
      let left_over = routed.left in
      let has = routed.has in
      let lives : num ((h.model.clients c).live k) ≡ 1 = ap num live in
      let there : num (at ((h.model.clients c).given k) u) ≡ 1 = ap num given in
      let none_forwarded : forwards k (h.model.to_conn c u) ≡ 0 = ap (forwards k) (no_orders c u) in
      let none_last : lasts k (h.model.to_client c u) ≡ 0 = ap (lasts k) (no_answers c u) in
      let below = num_le ((h.model.conns u).rows c k) in
      num_true ((h.model.conns u).rows c k) (omega (arith, sent, told, ended, left_over, has, lives, there, none_forwarded, none_last, below))

  live_row : (c k : ℕ) → (h.model.clients c).live k ≡ true → (u : ℕ) × ((h.model.conns u).rows c k ≡ true)
  live_row c k live = by ((h.model.clients c).given k) refl (sent_on c k live)
    where
      by : (o : Option ℕ) → (h.model.clients c).given k ≡ o → some_at o ≡ true → (u : ℕ) × ((h.model.conns u).rows c k ≡ true)
      by None e j = absurd (let bad : false ≡ true = j in cc)
      by (Some u) e j = (u, row_at c k u live (ap (λ o. at o u) e ∙ same_self u))

  -- a row of the machine's is one of the connection's state
  row_stands : (c k u : ℕ) (t : Bool) → stands_by t s b u (connection_ledger_in s w u) (h.model.conns u) → (h.model.conns u).rows c k ≡ true → list_any (λ r. same_op (name c k) r.op) (connection_ledger_in s w u).state.rows ≡ true
  row_stands c k u true st there = by (h.model.conns u).now (connection_ledger_in s w u).state.rows st.rows (sym (st.live c k) ∙ there)
    where
      by : (o : Option machine.Op) (rows : List UpRow) → BindRows s b rows o → is o c k ≡ true → list_any (λ r. same_op (name c k) r.op) rows ≡ true
      by None rows i j = absurd (let bad : false ≡ true = j in cc)
      by (Some o) [] i j = absurd i
      by (Some o) (r ∷ rs) i j =
          let same : name c k ≡ name o.client o.k = (λ x. name (same_number c o.client (left (c == o.client) _ j) x) (same_number k o.k (right (c == o.client) _ j) x)) in
          or_left (same_op (name c k) r.op) _ (ap (same_op (name c k)) (i.0.op ∙ sym same) ∙ same_op_refl (name c k))
  row_stands c k u false st there = by (connection_ledger_in s w u).state.down refl
    where
      by : (d : Bool) → (connection_ledger_in s w u).state.down ≡ d → list_any (λ r. same_op (name c k) r.op) (connection_ledger_in s w u).state.rows ≡ true
      by true e = absurd (let bad : false ≡ true = sym ((st.stands.fallen e).ops c k) ∙ there in cc)
      by false e = (st.stands.stands e).ops c k ∙ there

  pub row_there : (c k : ℕ) → (h.model.clients c).live k ≡ true → (u : ℕ) × (list_any (λ r. same_op (name c k) r.op) (connection_ledger_in s w u).state.rows ≡ true)
  row_there c k live = let one = live_row c k live in (one.0, row_stands c k one.0 (serves s one.0) (h.stands.conns one.0) one.1)
