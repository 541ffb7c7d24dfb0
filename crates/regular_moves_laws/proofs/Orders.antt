-- A regular connection takes an order: a Forward, a Drop, a Pause or a Resume.
use Rattle.std.proofs.Common.{◌≡◌, ℕ, ◌<◌, Bool, true, false, ◌==◌, ◌&&◌, ◌||◌, not, if◌then◌else◌, List, [], ◌∷◌, ◌++◌, refl, ap, arith, ◌∙◌, sym, subst}
use Rattle.std.specs.Prelude.{Option, Some, None, find, filter, is_some}
use Rattle.std.specs.List.{list_any}
use Rattle.std.proofs.lemmas.Bool.{or_parts}
use Rattle.ldap_spec.specs.Bodies.{abandon}
use Rattle.ldap_spec.specs.Kinds.{kind_of, same_kind}
use Rattle.lload_names.specs.declared.names.Letter.TheVariants as real
use Rattle.lload_names.specs.declared.names.OpKind.{OpKind}
use Rattle.lload_names.specs.declared.names.OpKind.TheVariants.{Bind}
use Rattle.lload_names.specs.declared.names.OpName.{OpName}
use Rattle.lload_names.specs.declared.names.PartName.TheVariants.{Desk}
use Rattle.lload_names.specs.declared.names.Posted.{Posted}
use Rattle.lload_names.specs.declared.names.Refusal.TheVariants.{C4}
use Rattle.lload_names.specs.declared.names.What.{What}
use Rattle.lload_names.specs.declared.names.What.TheVariants as what
use Rattle.lload_spec.specs.Identifiers.{id_for}
use Rattle.lload_spec.specs.Journal.{same_op}
use Rattle.lload_spec.specs.Settings.{Settings}
use Rattle.part_spec.specs.Inputs.{Act, act, to}
use Rattle.part_spec.specs.ConnectionState.{UpRow, is_stopped, is_bind, row_named}
use Rattle.part_spec.specs.ConnectionTurn.{giving, retires, ended}
use Rattle.part_spec.specs.RegularTurn.{missed_letters, forwards, abandons, drops, letter}
use Rattle.part_spec.specs.Fit.{ConnectionLedger, step_connection_ledger}
use Rattle.part_spec.specs.Marked.{Taken}
use Rattle.move_laws.specs.World.{Op, Conn, ToConn, Forward, Drop, Signal, Failed, Ended, put2, tail, is}
use Rattle.move_laws.specs.Conns.{forward_row, drop_row, take_order, order_answer, order_report, retire_row, stopped}
use Rattle.stands_laws.specs.Books.{Book, name}
use Rattle.stands_laws.specs.Lists.{Each}
use Rattle.stands_laws.specs.Letters.{signal_of}
use Rattle.stands_laws.specs.ConnectionSides.{ConnSide, ConnMove, Taking, Retiring, conn_move, conn_moves}
use Rattle.stands_laws.specs.RegularStands.{RegularTaken, RegularStands, is_row_of}
use Rattle.lload_spec.proofs.Growth.{left, right}
use Rattle.lload_laws.proofs.ListLaws.{found_passes}
use Rattle.part_laws.proofs.ListLaws.{same_number, same_op_eq}
use Rattle.connection_laws.proofs.Pieces.{marked_up}
use Rattle.regular_moves_laws.proofs.Rows.{RowsStand, rows_stand, rows_without, alike, Alike, each_imply, each_found}
use Rattle.regular_moves_laws.proofs.Gives.{gives_retired, gives_missed, gives_told_taking, gives_silent}
use Rattle.regular_moves_laws.proofs.Taken.{forward_taken, taken_forward, drop_taken, taken_drop, signal_taken, taken_signal}
use Rattle.regular_moves_laws.proofs.Steps.{is_linked, stands_retired, stands_missed, stands_idle, signal_what, stands_signal}
use Rattle.regular_moves_laws.proofs.Ends.{AreLive, all_live}
use Rattle.regular_moves_laws.proofs.Sends.{stands_sent, stands_abandon}
use Rattle.regular_moves_laws.proofs.Turns.{Rule, none_found}
use Rattle.stands_laws.proofs.ConnGives.{Gives, gives_more, gives_none, moves_more}

-- An entry gives an identifier, and the connection retires where this is the limit.
pub record GivesId (s : Settings) (b : Book) (u at id : ℕ) (e : What) (mark : Option Taken) (l : ConnectionLedger) (xs : List Posted) (y : ConnSide) (orders : ℕ → List ToConn) (ms : List ConnMove) : Type 0 where
  pub stands : RegularStands s b u (step_connection_ledger s l (marked_up l.state.number at mark e)) (conn_moves false y ms).row
  pub gives : Gives s b u xs y (conn_moves false y ms)
  pub waits : (c : ℕ) → (conn_moves false y ms).orders c ≡ orders c
  pub going : (id == s.id_limit) ≡ true → stopped (conn_moves false y ms).row ≡ false
  pub linked : (step_connection_ledger s l (marked_up l.state.number at mark e)).state.linked ≡ true
  pub given : (id == s.id_limit) ≡ true → s.id_limit < (step_connection_ledger s l (marked_up l.state.number at mark e)).state.ids.next

pub giving_rule : (s : Settings) (b : Book) (u at id : ℕ) (e : What) (mark : Option Taken) (l : ConnectionLedger) (xs : List Posted) (y : ConnSide) (orders : ℕ → List ToConn) (ms : List ConnMove) → l.state.number ≡ u → GivesId s b u at id e mark l xs y orders ms
    → Rule s b u at mark l (act (giving s id e) (xs ++ retires s l.state id)) y orders
giving_rule s b u at id e mark l xs y orders ms number h = go (id == s.id_limit) refl
  where
    next : ConnectionLedger
    next = step_connection_ledger s l (marked_up l.state.number at mark e)

    go : (t : Bool) → (id == s.id_limit) ≡ t → Rule s b u at mark l (act (elim t [ true ↦ e ∷ what.Retired ∷ [] | false ↦ e ∷ [] ]) (xs ++ (elim t [ true ↦ to Desk (real.IsRetired l.state.number) | false ↦ [] ]))) y orders
    go true i =
        let z : ConnSide = conn_moves false y ms in
        record {
          made = ms ++ Retiring ∷ [];
          stands = subst (λ (x : ConnSide). RegularStands s b u (step_connection_ledger s (step_connection_ledger s l (marked_up l.state.number at mark e)) (marked_up l.state.number at None what.Retired)) x.row) (sym (moves_more false y ms (Retiring ∷ [])))
              (subst (RegularStands s b u (step_connection_ledger s (step_connection_ledger s l (marked_up l.state.number at mark e)) (marked_up l.state.number at None what.Retired))) (ap (λ (t : Bool). retire_row (not t) (conn_moves false y ms).row) (sym (h.going i)))
              (stands_retired s b u l.state.number at (step_connection_ledger s l (marked_up l.state.number at mark e)) (conn_moves false y ms).row h.stands h.linked (h.given i)));
          gives = subst (Gives s b u (xs ++ to Desk (real.IsRetired l.state.number)) y) (sym (moves_more false y ms (Retiring ∷ [])))
              (gives_more s b u xs (to Desk (real.IsRetired l.state.number)) y (conn_moves false y ms) (conn_move false (conn_moves false y ms) Retiring) h.gives (gives_retired s b u l.state.number (conn_moves false y ms) number (h.going i)));
          waits = λ c. ap (λ (x : ConnSide). x.orders c) (moves_more false y ms (Retiring ∷ [])) ∙ h.waits c;
        }
    go false i = record {
      made = ms;
      stands = h.stands;
      gives = gives_more s b u xs [] y (conn_moves false y ms) (conn_moves false y ms) h.gives (gives_none s b u (conn_moves false y ms));
      waits = h.waits;
    }

-- the queues without the order
abbrev pub taken_orders : ℕ → ConnSide → ℕ → List ToConn
taken_orders c y a = if a == c then tail (y.orders a) else y.orders a

module _ (s : Settings) (b : Book) (u at c : ℕ) (l : ConnectionLedger) (y : ConnSide) (st : RegularStands s b u l y.row) (up : l.state.up ≡ true) (regular : is_bind l.state ≡ false) (qs : List ToConn) where
  stop_same : stopped y.row ≡ is_stopped l.state
  stop_same = λ i. (sym st.link.retired) i || (sym st.link.down) i

  linked : l.state.linked ≡ true
  linked = is_linked s u l.state y.row st.link up

  -- A Forward.
  module _ (k h : ℕ) (first : y.orders c ≡ Forward k h ∷ qs) (kind : OpKind) (rest : List ℕ) (ask : Bool) (holder : OpName) (new : y.row.taken c k ≡ false) (idle : y.row.rows c k ≡ false) (known : kind_of (b.request c k).rest ≡ Some kind) (plain : same_kind Bind kind ≡ false) where
    abbrev mark : Option Taken
    mark = Some (forward_taken c k kind rest ask holder)

    row_is : (t : Bool) → is_stopped l.state ≡ t → take_order false c (y.orders c) y.row ≡ forward_row t false c k h y.row
    row_is t e = ap (λ q. take_order false c q y.row) first ∙ ap (λ (t : Bool). forward_row t false c k h y.row) (stop_same ∙ e)

    answer_is : (t : Bool) → is_stopped l.state ≡ t → order_answer (y.orders c) y.row ≡ (if t then Failed k ∷ [] else [])
    answer_is t e = ap (λ q. order_answer q y.row) first ∙ ap (λ (t : Bool). if t then Failed k ∷ [] else []) (stop_same ∙ e)

    report_is : (t : Bool) → is_stopped l.state ≡ t → order_report false c (y.orders c) y.row ≡ (if t then Ended c k ∷ [] else [])
    report_is t e = ap (λ q. order_report false c q y.row) first ∙ ap (λ (t : Bool). if t then Ended c k ∷ [] else []) (stop_same ∙ e)

    taken_is : (w : Conn) → w.taken ≡ put2 y.row.taken c k true → w.dropped ≡ y.row.dropped → w.paused ≡ y.row.paused → RegularTaken (l.taken ++ forward_taken c k kind rest ask holder ∷ []) w
    taken_is w e f g =
        let t = taken_forward c k kind rest ask holder l.taken y.row st.taken in
        record {
          forwards = λ i j. t.forwards i j ∙ ap (λ (x : ℕ → ℕ → Bool). x i j) (sym e);
          drops = λ i j p q. t.drops i j (ap (λ (x : ℕ → ℕ → Bool). x i j) (sym e) ∙ p) (ap (λ (x : ℕ → ℕ → Bool). x i j) (sym f) ∙ q);
          pauses = λ i. t.pauses i ∙ ap (λ (x : ℕ → Bool). x i) (sym g);
        }

    missed : is_stopped l.state ≡ true → Rule s b u at mark l (act (what.Missed (name c k) ∷ []) (missed_letters l.state (name c k))) y (taken_orders c y)
    missed e = record {
      made = Taking c ∷ [];
      stands = subst (RegularStands s b u (step_connection_ledger s l (marked_up l.state.number at (Some (forward_taken c k kind rest ask holder)) (what.Missed (name c k))))) (sym (row_is true e))
          (stands_missed s b u l.state.number at (name c k) (forward_taken c k kind rest ask holder) l y.row (forward_row true false c k h y.row) st (taken_is (forward_row true false c k h y.row) refl refl refl) refl refl refl (nobody (is y.row.holder c h) y.row.holder st.nobody) st.now (λ i j. refl));
      gives = gives_missed s b u c (real.Failed (name c k) C4) (real.Ended (name c k) l.state.number None) (Failed k) (Ended c k) y (answer_is true e) (report_is true e) (record { which = C4; is = refl; loss = refl }) (record { latency = None; is = ap (λ n. real.Ended (name c k) n None) st.link.number });
      waits = λ a. refl;
    }
      where
        nobody : (t : Bool) (o : Option Op) → o ≡ None → (if t then None else o) ≡ None
        nobody true o e = refl
        nobody false o e = e

    sent : is_stopped l.state ≡ false → Rule s b u at mark l (act (giving s (id_for l.state.ids) (what.Sent (id_for l.state.ids) (name c k) rest)) (retires s l.state (id_for l.state.ids))) y (taken_orders c y)
    sent e =
        let parts = or_parts l.state.retired l.state.down e in
        giving_rule s b u at (id_for l.state.ids) (what.Sent (id_for l.state.ids) (name c k) rest) (Some (forward_taken c k kind rest ask holder)) l [] y (taken_orders c y) (Taking c ∷ []) st.link.number (record {
          stands = subst (RegularStands s b u (step_connection_ledger s l (marked_up l.state.number at (Some (forward_taken c k kind rest ask holder)) (what.Sent (id_for l.state.ids) (name c k) rest)))) (sym (row_is false e))
              (stands_sent s b u l.state.number at c k h kind rest ask holder l y.row (forward_row false false c k h y.row) st up parts.0 parts.1 regular idle known plain (taken_is (forward_row false false c k h y.row) refl refl refl) refl);
          gives = gives_silent s b u c y (answer_is false e) (report_is false e);
          waits = λ a. refl;
          going = λ i. ap stopped (row_is false e) ∙ (stop_same ∙ e);
          linked = linked;
          given = λ i. let same = same_number (id_for l.state.ids) s.id_limit i in omega arith;
        })

    pub forward_rule : Rule s b u at mark l (forwards s l.state (name c k) rest) y (taken_orders c y)
    forward_rule = go (is_stopped l.state) refl
      where
        go : (t : Bool) → is_stopped l.state ≡ t → Rule s b u at (Some (forward_taken c k kind rest ask holder)) l (elim t [ true ↦ act (what.Missed (name c k) ∷ []) (missed_letters l.state (name c k)) | false ↦ act (giving s (id_for l.state.ids) (what.Sent (id_for l.state.ids) (name c k) rest)) (retires s l.state (id_for l.state.ids)) ]) y (taken_orders c y)
        go true e = missed e
        go false e = sent e

  -- A Drop.
  module _ (k : ℕ) (first : y.orders c ≡ Drop k ∷ qs) where
    drop_is : take_order false c (y.orders c) y.row ≡ drop_row false c k y.row
    drop_is = ap (λ q. take_order false c q y.row) first

    told : (t : Bool) → y.row.rows c k ≡ t → order_report false c (y.orders c) y.row ≡ (if t then Ended c k ∷ [] else [])
    told t e = ap (λ q. order_report false c q y.row) first ∙ ap (λ (t : Bool). if t then Ended c k ∷ [] else []) e

    silent : order_answer (y.orders c) y.row ≡ []
    silent = ap (λ q. order_answer q y.row) first

    letters : RegularTaken (l.taken ++ drop_taken c k ∷ []) (drop_row false c k y.row)
    letters = let t = taken_drop c k l.taken y.row st.taken in record { forwards = t.forwards; drops = t.drops; pauses = t.pauses }

    -- whether it is live, by its row
    live_is : (o : Option UpRow) → row_named l.state (name c k) ≡ o → l.state.down ≡ false → y.row.rows c k ≡ is_some o
    live_is None e there = sym ((st.stands there).ops c k) ∙ none l.state.rows (none_found (is_row_of (name c k)) l.state.rows e)
      where
        none : (rs : List UpRow) → Each (λ r. is_row_of (name c k) r ≡ false) rs → list_any (is_row_of (name c k)) rs ≡ false
        none [] h = refl
        none (r ∷ rs) h = ap (λ t. t || list_any (is_row_of (name c k)) rs) h.0 ∙ none rs h.1
    live_is (Some r) e there =
        let same : name c k ≡ r.op = same_op_eq (name c k) r.op (found_passes (is_row_of (name c k)) l.state.rows r e) in
        ap (λ (n : OpName). y.row.rows n.client n.k) same ∙ each_found (AreLive y.row.rows) (is_row_of (name c k)) l.state.rows r e (all_live y.row.rows l.state.rows (rows_stand b l.state y.row (st.stands there)).ops)

    idles : y.row.rows c k ≡ false → Rule s b u at (Some (drop_taken c k)) l (act (what.Idle (name c k) ∷ []) []) y (taken_orders c y)
    idles e = record {
      made = Taking c ∷ [];
      stands = subst (RegularStands s b u (step_connection_ledger s l (marked_up l.state.number at (Some (drop_taken c k)) (what.Idle (name c k))))) (sym drop_is)
          (stands_idle s b u l.state.number at (name c k) (drop_taken c k) l y.row (drop_row false c k y.row) st letters refl refl refl st.nobody st.now (λ i j. same i j ((i == c) && (j == k)) refl));
      gives = gives_silent s b u c y silent (told false e);
      waits = λ a. refl;
    }
      where
        same : (i j : ℕ) (t : Bool) → ((i == c) && (j == k)) ≡ t → y.row.rows i j ≡ (if t then false else y.row.rows i j)
        same i j true w = ap (λ n. y.row.rows n j) (same_number i c (left (i == c) _ w)) ∙ (ap (y.row.rows c) (same_number j k (right (i == c) _ w)) ∙ e)
        same i j false w = refl

    abandoned : (r : UpRow) → row_named l.state (name c k) ≡ Some r → l.state.down ≡ false → Rule s b u at (Some (drop_taken c k)) l (abandons s l.state r) y (taken_orders c y)
    abandoned r found there =
        let rows = rows_stand b l.state y.row (st.stands there) in
        let same : name c k ≡ r.op = same_op_eq (name c k) r.op (found_passes (is_row_of (name c k)) l.state.rows r found) in
        let live : y.row.rows c k ≡ true = live_is (Some r) found there in
        giving_rule s b u at l.state.ids.next (what.Own l.state.ids.next (abandon r.id)) (Some (drop_taken c k)) l (ended l.state r.op None) y (taken_orders c y) (Taking c ∷ []) st.link.number (record {
          stands = subst (RegularStands s b u (step_connection_ledger s l (marked_up l.state.number at (Some (drop_taken c k)) (what.Own l.state.ids.next (abandon r.id))))) (sym drop_is)
              (stands_abandon s b u l.state.number at r.id (Some (drop_taken c k)) l y.row (drop_row false c k y.row) st there
              (subst (λ (n : OpName). RowsStand b l.state.ids (filter (λ q. not (q.id == r.id)) l.state.rows) (put2 y.row.rows n.client n.k false)) (sym same) (rows_without b l.state.ids l.state.rows y.row.rows (λ q. not (q.id == r.id)) r rows (each_imply (Alike r) (λ q. not (q.id == r.id) ≡ not (same_op r.op q.op)) l.state.rows (λ q a. ap not a.op) (alike (is_row_of (name c k)) l.state.rows r found rows.apart))))
              letters refl refl refl st.nobody st.now);
          gives = gives_told_taking s b u c (real.Ended r.op l.state.number None) (Ended c k) y silent (told true live) (record { latency = None; is = (λ i. real.Ended ((sym same) i) (st.link.number i) None) });
          waits = λ a. refl;
          going = λ i. ap stopped drop_is ∙ (stop_same ∙ (λ j. waits_limit (same_number l.state.ids.next s.id_limit i) l.state.retired refl j || there j));
          linked = linked;
          given = λ i. let same = same_number l.state.ids.next s.id_limit i in omega arith;
        })
      where
        waits_limit : l.state.ids.next ≡ s.id_limit → (t : Bool) → l.state.retired ≡ t → l.state.retired ≡ false
        waits_limit e true r = let m = st.link.limit r in absurd (omega arith)
        waits_limit e false r = r

    pub drop_rule : Rule s b u at (Some (drop_taken c k)) l (drops s l.state (name c k)) y (taken_orders c y)
    drop_rule = by l.state.down refl
      where
        go : (o : Option UpRow) → row_named l.state (name c k) ≡ o → l.state.down ≡ false → Rule s b u at (Some (drop_taken c k)) l (elim o [ None ↦ act (what.Idle (name c k) ∷ []) [] | Some r ↦ abandons s l.state r ]) y (taken_orders c y)
        go None e there = idles (live_is None e there)
        go (Some r) e there = abandoned r e there

        by : (t : Bool) → l.state.down ≡ t → Rule s b u at (Some (drop_taken c k)) l (drops s l.state (name c k)) y (taken_orders c y)
        by false e = go (row_named l.state (name c k)) refl e
        by true e = subst (λ (o : Option UpRow). Rule s b u at (Some (drop_taken c k)) l (elim o [ None ↦ act (what.Idle (name c k) ∷ []) [] | Some r ↦ abandons s l.state r ]) y (taken_orders c y)) (sym (ap (find (is_row_of (name c k))) (st.fallen e).rows)) (idles ((st.fallen e).ops c k))

  -- A Pause or a Resume.
  pub signal_rule : (pause : Bool) → y.orders c ≡ Signal pause ∷ qs → Rule s b u at (Some (signal_taken c pause)) l (letter s l.state (signal_of c pause)) y (taken_orders c y)
  signal_rule pause first = subst (λ (a : Act). Rule s b u at (Some (signal_taken c pause)) l a y (taken_orders c y)) (sym (letter_is pause)) (record {
    made = Taking c ∷ [];
    stands = subst (RegularStands s b u (step_connection_ledger s l (marked_up l.state.number at (Some (signal_taken c pause)) (signal_what c pause)))) (sym (ap (λ q. take_order false c q y.row) first))
        (stands_signal s b u l.state.number at c pause (signal_taken c pause) l y.row st (taken_signal c pause l.taken y.row st.taken));
    gives = gives_silent s b u c y (ap (λ q. order_answer q y.row) first) (ap (λ q. order_report false c q y.row) first);
    waits = λ a. refl;
  })
    where
      letter_is : (t : Bool) → letter s l.state (signal_of c t) ≡ act (signal_what c t ∷ []) []
      letter_is true = refl
      letter_is false = refl
