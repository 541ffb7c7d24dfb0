-- A bind connection takes a Forward, which is sent or missed, and a Leave.
use Rattle.std.proofs.Common.{◌≡◌, ℕ, Bool, true, false, ◌==◌, ◌&&◌, ◌||◌, not, if◌then◌else◌, List, [], ◌∷◌, ◌++◌, refl, ap, ◌∙◌, sym, subst, arith}
use Rattle.std.specs.Prelude.{Option, Some, None}
use Rattle.ldap_spec.specs.Kinds.{kind_of}
use Rattle.lload_names.specs.declared.names.ConnKind.TheVariants.{Bind as BindKind}
use Rattle.lload_names.specs.declared.names.EndWhy.TheVariants.{Unfinished}
use Rattle.lload_names.specs.declared.names.Letter.TheVariants as real
use Rattle.lload_names.specs.declared.names.OpKind.{OpKind}
use Rattle.lload_names.specs.declared.names.OpKind.TheVariants.{Bind}
use Rattle.lload_names.specs.declared.names.PartName.TheVariants.{Desk, Client}
use Rattle.lload_names.specs.declared.names.Posted.{Posted}
use Rattle.lload_names.specs.declared.names.Refusal.TheVariants.{C4}
use Rattle.lload_names.specs.declared.names.What.TheVariants as what
use Rattle.lload_spec.specs.Answers.{wants_identity}
use Rattle.lload_spec.specs.Identifiers.{id_for, with_sent_id}
use Rattle.lload_spec.specs.Journal.{same_op}
use Rattle.lload_spec.specs.Lists.{passes}
use Rattle.lload_spec.specs.Settings.{Settings, is_kind}
use Rattle.part_spec.specs.Inputs.{act, failed}
use Rattle.part_spec.specs.ConnectionState.{UpRow, is_stopped, put_row}
use Rattle.part_spec.specs.ConnectionTurn.{ended, goes_down}
use Rattle.part_spec.specs.BindTurn.{forwards, holds, leaves, was_lost}
use Rattle.part_spec.specs.Fit.{ConnectionLedger, is_forward_for, is_forward_of, is_leave_of, is_taken_last, step_connection_ledger}
use Rattle.part_spec.specs.Marked.{Taken, letters_to}
use Rattle.move_laws.specs.World.{Op, Conn, ToConn, Report, Forward, Leave, Failed, Ended, is, put2}
use Rattle.move_laws.specs.Conns.{forward_row, order_answer, order_report, stopped, take_order}
use Rattle.move_laws.specs.Fit.{Free}
use Rattle.stands_laws.specs.Books.{Book, name}
use Rattle.stands_laws.specs.Lists.{Pairs}
use Rattle.stands_laws.specs.Letters.{ReportIs}
use Rattle.stands_laws.specs.ConnectionSides.{ConnSide, Taking, conn_move, conn_moves}
use Rattle.stands_laws.specs.BindStands.{BindRows, BindStands, BindTaken, name_of}
use Rattle.stands_laws.proofs.Tests.{eq_sym, same_self}
use Rattle.lload_spec.proofs.Growth.{both}
use Rattle.part_laws.proofs.ListLaws.{eq_eqb, same_number}
use Rattle.connection_laws.proofs.Pieces.{marked_up}
use Rattle.bind_laws.proofs.Rules.{forward_act, leave_act}
use Rattle.stands_laws.proofs.ConnGives.{Gives, gives_more, its_client, one_client}
use Rattle.bind_moves_laws.proofs.Gives.{gives_silent, gives_taking}
use Rattle.stands_laws.proofs.TakenLetters.{taken_any, taken_push}
use Rattle.bind_moves_laws.proofs.Rules.{Rule}
use Rattle.bind_moves_laws.proofs.Steps.{above_filter, above_id, stands_with}
use Rattle.bind_moves_laws.proofs.Ends.{rule_down, rule_giving}

-- The letters that were taken.
abbrev pub forward_taken : Settings → Book → ℕ → ℕ → ℕ → OpKind → Taken
forward_taken s b c k h kind = record { sender = Client c; letter = real.Forward (name c k) kind (b.request c k).rest (wants_identity s (b.request c k)) (name c h) }

abbrev pub leave_taken : ℕ → ℕ → Taken
leave_taken c h = record { sender = Client c; letter = real.Leave (name c h) }

with_forward : (s : Settings) (b : Book) (c k h : ℕ) (kind : OpKind) (xs : List Taken) (v : Conn) → BindTaken b xs v → b.pinned c k ≡ not (h == k) → BindTaken b (xs ++ forward_taken s b c k h kind ∷ []) (record v { taken = put2 v.taken c k true })
with_forward s b c k h kind xs v t pinned = record {
  forwards = λ i j. taken_any (is_forward_of (name i j)) xs (forward_taken s b c k h kind) ∙ ap (λ (o : Bool). if (i == c) && (j == k) then true else o) (t.forwards i j);
  leaves = λ i j f e d. taken_push (is_forward_for (name i j)) (is_leave_of (name i j)) (Client i) xs (forward_taken s b c k h kind) ∙ go i j (i == c) (j == h) refl refl f e d;
}
  where
    was_taken : (i j : ℕ) (q : Bool) → (j == k) ≡ q → (i == c) ≡ true → (j == h) ≡ false → b.pinned i j ≡ false → (if true && q then true else v.taken i j) ≡ true → v.taken i j ≡ true
    was_taken i j false z x w f e = e
    was_taken i j true z x w f e = absurd (let other : (h == k) ≡ false = eq_sym h k ∙ (ap (λ n. n == h) (sym (same_number j k z)) ∙ w) in
        let bad : false ≡ true = sym f ∙ (ap (λ n. b.pinned n j) (same_number i c x) ∙ (ap (b.pinned c) (same_number j k z) ∙ (pinned ∙ ap not other))) in cc)

    go : (i j : ℕ) (p q : Bool) → (i == c) ≡ p → (j == h) ≡ q → b.pinned i j ≡ false → (if p && (j == k) then true else v.taken i j) ≡ true → v.left i j ≡ false → (if p && ((p && q) || false) then p && q else is_taken_last (is_forward_for (name i j)) (is_leave_of (name i j)) (Client i) xs) ≡ true
    go i j true true x w f e d = refl
    go i j true false x w f e d = t.leaves i j f (was_taken i j (j == k) refl x w f e) d
    go i j false q x w f e d = t.leaves i j f e d

with_leave : (b : Book) (c h : ℕ) (xs : List Taken) (v : Conn) → BindTaken b xs v → BindTaken b (xs ++ leave_taken c h ∷ []) (record v { left = put2 v.left c h true })
with_leave b c h xs v t = record {
  forwards = λ i j. taken_any (is_forward_of (name i j)) xs (leave_taken c h) ∙ t.forwards i j;
  leaves = λ i j f e d. taken_push (is_forward_for (name i j)) (is_leave_of (name i j)) (Client i) xs (leave_taken c h) ∙ go i j (i == c) (j == h) f e d;
}
  where
    go : (i j : ℕ) (p q : Bool) → b.pinned i j ≡ false → v.taken i j ≡ true → (if p && q then true else v.left i j) ≡ false → (if p && (false || (p && q)) then false else is_taken_last (is_forward_for (name i j)) (is_leave_of (name i j)) (Client i) xs) ≡ true
    go i j true true f e d = absurd (let bad : true ≡ false = d in cc)
    go i j true false f e d = t.leaves i j f e d
    go i j false q f e d = t.leaves i j f e d

-- A Forward that comes first, by what fitness and the machine's laws say of it.
pub record Comes (s : Settings) (b : Book) (c k h : ℕ) (kind : OpKind) (v : Conn) : Type 0 where
  pub sort : kind ≡ Bind
  pub known : kind_of (b.request c k).rest ≡ Some Bind
  pub pinned : b.pinned c k ≡ not (h == k)
  pub free : Free v c h
  pub lost : v.freed c h ≡ is v.lost c h

no_row : (s : Settings) (b : Book) (rows : List UpRow) (o : Option Op) → ((c k : ℕ) → is o c k ≡ false) → BindRows s b rows o → rows ≡ []
no_row s b [] o e h = refl
no_row s b (r ∷ rows) None e h = absurd h
no_row s b (r ∷ rows) (Some o) e h = absurd (let bad : true ≡ false = sym (both (o.client == o.client) (o.k == o.k) (same_self o.client) (same_self o.k)) ∙ e o.client o.k in cc)

-- no holder is left
vacated : (o : Option Op) (c h : ℕ) → ((a i : ℕ) → is o a i ≡ true → (a ≡ c) × (i ≡ h)) → (if is o c h then None else o) ≡ None
vacated None c h f = refl
vacated (Some o) c h f =
    let p = f o.client o.k (both (o.client == o.client) (o.k == o.k) (same_self o.client) (same_self o.k)) in
    ap (λ (t : Bool). if t then None else Some o) (both (c == o.client) (h == o.k) (eq_eqb c o.client (sym p.0)) (eq_eqb h o.k (sym p.1)))

passes_name : (o : Option Op) (c h : ℕ) → passes (same_op (name c h)) (name_of o) ≡ is o c h
passes_name None c h = refl
passes_name (Some o) c h = refl

module _ (s : Settings) (b : Book) (u moment c k h : ℕ) (kind : OpKind) (l : ConnectionLedger) (y : ConnSide) (qs : List ToConn) (st : BindStands s b u l y.row) (f : Comes s b c k h kind y.row) (e : y.orders c ≡ Forward k h ∷ qs) where
  abbrev mark : Option Taken
  mark = Some (forward_taken s b c k h kind)

  stopped_is : stopped y.row ≡ is_stopped l.state
  stopped_is = λ i. sym st.link.retired i || sym st.link.down i

  -- It is missed.
  missed : is_stopped l.state ≡ true → Rule s b u moment mark l (forward_act s l.state (name c k) (b.request c k).rest (name c h) true) y (conn_move true y (Taking c)).orders
  missed stop = record {
    made = Taking c ∷ [];
    stands = subst (BindStands s b u (step_connection_ledger s l (marked_up l.state.number moment mark (what.Missed (name c k))))) (sym row)
        (stands_with s b u moment l.state.ids l.state.rows None (l.taken ++ forward_taken s b c k h kind ∷ []) l y.row (forward_row true true c k h y.row) st refl refl refl refl (omega arith) st.free
        (let t = with_forward s b c k h kind l.taken y.row st.taken f.pinned in record { forwards = t.forwards; leaves = t.leaves })
        (ap name_of (sym (vacated y.row.holder c h f.free.mine))) st.rows st.live st.fallen);
    gives = gives_taking s b u c (failed (name c k) C4 ++ late (was_lost l.state (name c h))) y (Failed k ∷ []) (told (y.row.freed c h))
        (ap (λ q. order_answer q y.row) e ∙ ap (λ (t : Bool). if t then Failed k ∷ [] else []) (stopped_is ∙ stop))
        (ap (λ q. order_report true c q y.row) e ∙ ap (λ (t : Bool). if t then told (y.row.freed c h) else []) (stopped_is ∙ stop))
        (its_client s b c (real.Failed (name c k) C4) (Failed k) (late (was_lost l.state (name c h))) (silent c (was_lost l.state (name c h))) (record { which = C4; is = refl; loss = refl }))
        (λ i o. one_client c i (real.Failed (name c k) C4) (late (was_lost l.state (name c h))) o (silent i (was_lost l.state (name c h))))
        (subst (λ (t : Bool). Pairs (ReportIs u) (letters_to Desk (late (was_lost l.state (name c h)))) (told t)) (sym freed) (reports (was_lost l.state (name c h))));
    waits = λ d. refl;
  }
    where
      row : (conn_move true y (Taking c)).row ≡ forward_row true true c k h y.row
      row = ap (λ q. take_order true c q y.row) e ∙ ap (λ (t : Bool). forward_row t true c k h y.row) (stopped_is ∙ stop)

      late : Bool → List Posted
      late t = elim t [ true ↦ [] | false ↦ ended l.state (name c h) None ]

      told : Bool → List Report
      told t = if t then [] else Ended c h ∷ []

      freed : y.row.freed c h ≡ was_lost l.state (name c h)
      freed = f.lost ∙ (sym (passes_name y.row.lost c h) ∙ ap (passes (same_op (name c h))) (sym st.lost))

      silent : (i : ℕ) (t : Bool) → letters_to (Client i) (elim t [ true ↦ [] | false ↦ ended l.state (name c h) None ]) ≡ []
      silent i true = refl
      silent i false = refl

      reports : (t : Bool) → Pairs (ReportIs u) (letters_to Desk (elim t [ true ↦ [] | false ↦ ended l.state (name c h) None ])) (if t then [] else Ended c h ∷ [])
      reports true = tt
      reports false = (record { latency = None; is = ap (λ n. real.Ended (name c h) n None) st.link.number }, tt)

  -- It is sent.
  abbrev sent_row : UpRow
  sent_row = record { id = id_for l.state.ids; op = name c k; kind = kind; ask_who = wants_identity s (b.request c k); sent = moment; answered = moment; kept = None }

  abbrev sent_ledger : ConnectionLedger
  sent_ledger = record { state = record l.state { moment = moment; ids = with_sent_id (id_for l.state.ids) l.state.ids; rows = sent_row ∷ []; holder = Some (name c h) }; taken = l.taken ++ forward_taken s b c k h kind ∷ [] }

  sent_is : step_connection_ledger s l (marked_up l.state.number moment mark (what.Sent (id_for l.state.ids) (name c k) (b.request c k).rest)) ≡ sent_ledger
  sent_is = λ i. record {
    state = record l.state { moment = moment; ids = with_sent_id (id_for l.state.ids) l.state.ids; rows = put_row sent_row (none i); holder = if is_kind BindKind (st.kind i) then Some (name c h) else None };
    taken = l.taken ++ forward_taken s b c k h kind ∷ [];
  }
    where
      none : l.state.rows ≡ []
      none = no_row s b l.state.rows y.row.now (λ a i. sym (st.live a i) ∙ f.free.idle a i) st.rows

  sent : is_stopped l.state ≡ false → l.state.down ≡ false → Rule s b u moment mark l (act (what.Sent (id_for l.state.ids) (name c k) (b.request c k).rest ∷ []) []) y (conn_move true y (Taking c)).orders
  sent going there = record {
    made = Taking c ∷ [];
    stands = subst (λ (j : ConnectionLedger). BindStands s b u j (conn_move true y (Taking c)).row) (sym sent_is)
        (subst (BindStands s b u sent_ledger) (sym row)
        (stands_with s b u moment (with_sent_id (id_for l.state.ids) l.state.ids) (sent_row ∷ []) (Some (name c h)) (l.taken ++ forward_taken s b c k h kind ∷ []) l y.row (forward_row false true c k h y.row) st refl refl refl refl (omega arith)
        (above_filter (λ n. not (n == id_for l.state.ids)) l.state.ids.free st.free)
        (let t = with_forward s b c k h kind l.taken y.row st.taken f.pinned in record { forwards = t.forwards; leaves = t.leaves })
        refl
        (record { op = refl; kind = f.sort; known = f.known; ask_who = refl; above = above_id l.state.ids st.link.first st.free; kept = tt }, refl)
        (λ a i. alone a i ((a == c) && (i == k)))
        (λ down. absurd (let bad : true ≡ false = sym down ∙ there in cc))));
    gives = gives_silent s b u c y
        (ap (λ q. order_answer q y.row) e ∙ ap (λ (t : Bool). if t then Failed k ∷ [] else []) (stopped_is ∙ going))
        (ap (λ q. order_report true c q y.row) e ∙ ap (λ (t : Bool). if t then (if y.row.freed c h then [] else Ended c h ∷ []) else []) (stopped_is ∙ going));
    waits = λ d. refl;
  }
    where
      row : (conn_move true y (Taking c)).row ≡ forward_row false true c k h y.row
      row = ap (λ q. take_order true c q y.row) e ∙ ap (λ (t : Bool). forward_row t true c k h y.row) (stopped_is ∙ going)

      alone : (a i : ℕ) (t : Bool) → (if t then true else y.row.rows a i) ≡ t
      alone a i true = refl
      alone a i false = f.free.idle a i

  -- A Forward, by whether the connection has stopped.
  pub rule_forward : l.state.linked ≡ true → Rule s b u moment mark l (forwards s l.state (name c k) (b.request c k).rest (name c h)) y (conn_move true y (Taking c)).orders
  rule_forward linked = by (is_stopped l.state) refl
    where
      going : (a d : Bool) → (a || d) ≡ false → (a ≡ false) × (d ≡ false)
      going false false w = (refl, refl)
      going false true w = absurd (let bad : true ≡ false = w in cc)
      going true d w = absurd (let bad : true ≡ false = w in cc)

      by : (t : Bool) → is_stopped l.state ≡ t → Rule s b u moment mark l (forward_act s l.state (name c k) (b.request c k).rest (name c h) t) y (conn_move true y (Taking c)).orders
      by true w = missed w
      by false w =
          let g = going l.state.retired l.state.down w in
          rule_giving s b u moment (id_for l.state.ids) mark l (what.Sent (id_for l.state.ids) (name c k) (b.request c k).rest) y (conn_move true y (Taking c)).orders sent_ledger sent_is refl linked (λ _. g.0) g.1
          (λ same. let n : id_for l.state.ids ≡ s.id_limit = same_number (id_for l.state.ids) s.id_limit same in omega arith)
          (sent w g.1)

-- A Leave.
module _ (s : Settings) (b : Book) (u moment c h : ℕ) (l : ConnectionLedger) (y : ConnSide) (qs : List ToConn) (st : BindStands s b u l y.row) (e : y.orders c ≡ Leave h ∷ qs) where
  abbrev left_ledger : ConnectionLedger
  left_ledger = record { state = record l.state { moment = moment }; taken = l.taken ++ leave_taken c h ∷ [] }

  left_stands : BindStands s b u left_ledger (conn_move true y (Taking c)).row
  left_stands = subst (BindStands s b u left_ledger) (sym (ap (λ q. take_order true c q y.row) e))
      (stands_with s b u moment l.state.ids l.state.rows l.state.holder (l.taken ++ leave_taken c h ∷ []) l y.row (record y.row { left = put2 y.row.left c h true }) st refl refl refl refl (omega arith) st.free
      (with_leave b c h l.taken y.row st.taken) st.holder st.rows st.live st.fallen)

  left_gives : Gives s b u [] y (conn_move true y (Taking c))
  left_gives = gives_silent s b u c y (ap (λ q. order_answer q y.row) e) (ap (λ q. order_report true c q y.row) e)

  -- it ends nothing, or takes the connection down
  pub rule_leave : l.state.linked ≡ true → Rule s b u moment (Some (leave_taken c h)) l (leaves l.state (name c h)) y (conn_move true y (Taking c)).orders
  rule_leave linked = by (holds l.state (name c h)) l.state.down refl
    where
      down_by : l.state.down ≡ false → Rule s b u moment (Some (leave_taken c h)) l (goes_down l.state Unfinished) y (conn_move true y (Taking c)).orders
      down_by there = with_down (rule_down s b u moment Unfinished left_ledger (conn_move true y (Taking c)) left_stands linked there)
        where
          with_down : Rule s b u moment None left_ledger (goes_down l.state Unfinished) (conn_move true y (Taking c)) (conn_move true y (Taking c)).orders → Rule s b u moment (Some (leave_taken c h)) l (goes_down l.state Unfinished) y (conn_move true y (Taking c)).orders
          with_down r = record {
            made = Taking c ∷ r.made;
            stands = r.stands;
            gives = gives_more s b u [] (goes_down l.state Unfinished).letters y (conn_move true y (Taking c)) (conn_moves true (conn_move true y (Taking c)) r.made) left_gives r.gives;
            waits = r.waits;
          }

      idle : Rule s b u moment (Some (leave_taken c h)) l (act (what.Idle (name c h) ∷ []) []) y (conn_move true y (Taking c)).orders
      idle = record { made = Taking c ∷ []; stands = left_stands; gives = left_gives; waits = λ d. refl }

      by : (t down : Bool) → l.state.down ≡ down → Rule s b u moment (Some (leave_taken c h)) l (leave_act l.state (name c h) (t && not down)) y (conn_move true y (Taking c)).orders
      by true false there = down_by there
      by true true there = idle
      by false down there = idle
