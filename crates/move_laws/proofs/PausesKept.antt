-- Each move keeps that pauses and their ends alternate, go to regular connections alone, and to such as have come up.
use Rattle.std.proofs.Common.{◌≡◌, ℕ, ◌+◌, Bool, true, false, ◌==◌, ◌&&◌, ◌||◌, not, if◌then◌else◌, List, [], ◌∷◌, ◌++◌, Option, Some, None, arith, refl, ap, ◌∙◌, sym, subst}
use Rattle.std.proofs.lemmas.Bool.{and_parts}
use Rattle.move_laws.specs.World.{Kinds, World, Client, Conn, ToChooser, Choice, ToConn, Forward, Drop, Leave, Signal, ToClient, Reply, Failed, Move, Asks, Refuses, Binds, Ends, Goes, Leaves, Signals, TakesChoice, TakesAnswer, TakesOrder, Answers, Finishes, ComesUp, Retires, Breaks, Decides, Hears, at, conn_of, holder_of, tail}
use Rattle.move_laws.specs.Clients.{refuse_row, may_ask, ask_row, may_bind, bind_row, bind_letter, may_end, end_row, drop_letter, go_row, may_leave, leave_row, leave_letter, may_signal, signal_row, signal_letter, choice_row, take_choice, forward_letter, take_answer}
use Rattle.move_laws.specs.Conns.{stopped, forward_row, drop_row, take_order, finish_row, may_come_up, up_row, retire_row, may_break, break_row}
use Rattle.move_laws.specs.Moves.{move, empty}
use Rattle.move_laws.specs.Counts.{num, signals, Alternates}
use Rattle.move_laws.specs.AgreePauses.{Begun, BegunAt, Pausing, PausingAt}
use Rattle.move_laws.proofs.Appends.{same_number, same_self}
use Rattle.move_laws.proofs.BegunKept.{up_decides, up_hears}

-- More orders.

signals_append : (xs ys : List ToConn) → signals (xs ++ ys) ≡ signals xs + signals ys
signals_append [] ys = omega arith
signals_append (Forward j h ∷ xs) ys = signals_append xs ys
signals_append (Drop j ∷ xs) ys = signals_append xs ys
signals_append (Leave j ∷ xs) ys = signals_append xs ys
signals_append (Signal b ∷ xs) ys = omega (arith, signals_append xs ys)

alternates_quiet : (here : Bool) (xs : List ToConn) (told : Bool) → signals xs ≡ 0 → here ≡ told → Alternates here xs told
alternates_quiet here [] told z e = e
alternates_quiet here (Forward j h ∷ xs) told z e = alternates_quiet here xs told z e
alternates_quiet here (Drop j ∷ xs) told z e = alternates_quiet here xs told z e
alternates_quiet here (Leave j ∷ xs) told z e = alternates_quiet here xs told z e
alternates_quiet here (Signal b ∷ xs) told z e = absurd (omega arith)

alternates_more : (here : Bool) (xs ys : List ToConn) (told : Bool) → signals ys ≡ 0 → Alternates here xs told → Alternates here (xs ++ ys) told
alternates_more here [] ys told z p = alternates_quiet here ys told z p
alternates_more here (Forward j h ∷ xs) ys told z p = alternates_more here xs ys told z p
alternates_more here (Drop j ∷ xs) ys told z p = alternates_more here xs ys told z p
alternates_more here (Leave j ∷ xs) ys told z p = alternates_more here xs ys told z p
alternates_more here (Signal b ∷ xs) ys told z p = (p.0, alternates_more b xs ys told z p.1)

turned_twice : (b : Bool) → b ≡ not (not b)
turned_twice true = refl
turned_twice false = refl

alternates_signal : (here : Bool) (xs : List ToConn) (told : Bool) → Alternates here xs told → Alternates here (xs ++ Signal (not told) ∷ []) (not told)
alternates_signal here [] told p = (p ∙ turned_twice told, refl)
alternates_signal here (Forward j h ∷ xs) told p = alternates_signal here xs told p
alternates_signal here (Drop j ∷ xs) told p = alternates_signal here xs told p
alternates_signal here (Leave j ∷ xs) told p = alternates_signal here xs told p
alternates_signal here (Signal b ∷ xs) told p = (p.0, alternates_signal b xs told p.1)

pausing_more : (serves up here : Bool) (q ys : List ToConn) (told : Bool) → signals ys ≡ 0 → Pausing serves up here q told → Pausing serves up here (q ++ ys) told
pausing_more serves up here q ys told z p = record {
  order = alternates_more here q ys told z p.order;
  plain = λ e. omega (arith, signals_append q ys, p.plain e);
  begun = λ l. p.begun (omega (arith, signals_append q ys));
}

-- A client's move that says nothing of pauses.

pausing_given : {before after : ℕ → Bool} (serves up here : Bool) (q : List ToConn) (u : ℕ) → after ≡ before → Pausing serves up here q (before u) → Pausing serves up here q (after u)
pausing_given serves up here q u e p = subst (λ (f : ℕ → Bool). Pausing serves up here q (f u)) (sym e) p

paused_asks : (b g bind : Bool) (x : Client) → (if b then ask_row g bind x else x).paused ≡ x.paused
paused_asks false g bind x = refl
paused_asks true false bind x = refl
paused_asks true true bind x = refl

paused_refuses : (b : Bool) (x : Client) → (if b then refuse_row x else x).paused ≡ x.paused
paused_refuses false x = refl
paused_refuses true x = refl

paused_binds : (b g : Bool) (x : Client) → (if b then bind_row g x else x).paused ≡ x.paused
paused_binds false g x = refl
paused_binds true false x = refl
paused_binds true true x = refl

paused_ends : (b g : Bool) (j : ℕ) (x : Client) → (if b then end_row g j x else x).paused ≡ x.paused
paused_ends false g j x = refl
paused_ends true false j x = refl
paused_ends true true j x = refl

paused_goes : (b : Bool) (x : Client) → (if b then go_row x else x).paused ≡ x.paused
paused_goes false x = refl
paused_goes true x = refl

paused_leaves : (b g : Bool) (x : Client) → (if b then leave_row g x else x).paused ≡ x.paused
paused_leaves false g x = refl
paused_leaves true false x = refl
paused_leaves true true x = refl

paused_choice : (b : Bool) (bind : ℕ → Bool) (ls : List ToChooser) (x : Client) → (if b then take_choice bind ls x else x).paused ≡ x.paused
paused_choice false bind ls x = refl
paused_choice true bind [] x = refl
paused_choice true bind (Choice k a ∷ ls) x = by (x.live k) (bind k) a
  where
    by : (lv bk : Bool) (o : Option ℕ) → (choice_row lv bk k o x).paused ≡ x.paused
    by false bk o = refl
    by true bk None = refl
    by true bk (Some u) = refl

paused_answer : (b : Bool) (bind : ℕ → Bool) (v : ℕ) (ls : List ToClient) (x : Client) → (if b then take_answer bind v ls x else x).paused ≡ x.paused
paused_answer false bind v ls x = refl
paused_answer true bind v [] x = refl
paused_answer true bind v (Reply j true stay ∷ ls) x = refl
paused_answer true bind v (Reply j false stay ∷ ls) x = refl
paused_answer true bind v (Failed j ∷ ls) x = refl

-- the letters of such moves

quiet_forward : (b : Bool) (j h : ℕ) → signals (if b then Forward j h ∷ [] else []) ≡ 0
quiet_forward true j h = refl
quiet_forward false j h = refl

quiet_binds : (g : Bool) (x : Client) (u : ℕ) → signals (bind_letter g x u) ≡ 0
quiet_binds false x u = refl
quiet_binds true x u = quiet_forward (at (conn_of x.hold) u) x.next (holder_of x.hold)

quiet_ends : (g : Bool) (j : ℕ) (x : Client) (u : ℕ) → signals (drop_letter g j x u) ≡ 0
quiet_ends false j x u = refl
quiet_ends true j x u = by (at (x.given j) u)
  where
    by : (t : Bool) → signals (if t then Drop j ∷ [] else []) ≡ 0
    by true = refl
    by false = refl

quiet_leaves : (g : Bool) (x : Client) (u : ℕ) → signals (leave_letter g x u) ≡ 0
quiet_leaves false x u = refl
quiet_leaves true x u = by (at (conn_of x.hold) u)
  where
    by : (t : Bool) → signals (if t then Leave (holder_of x.hold) ∷ [] else []) ≡ 0
    by true = refl
    by false = refl

quiet_choice : (ls : List ToChooser) (x : Client) (u : ℕ) → signals (forward_letter ls x u) ≡ 0
quiet_choice [] x u = refl
quiet_choice (Choice k a ∷ ls) x u = quiet_forward (x.live k && at a u) k k

pausing_if : (b serves up here : Bool) (q ys : List ToConn) (told : Bool) → signals ys ≡ 0 → Pausing serves up here q told → Pausing serves up here (if b then q ++ ys else q) told
pausing_if true serves up here q ys told z p = pausing_more serves up here q ys told z p
pausing_if false serves up here q ys told z p = p

-- A signal.

either_true : (a b : Bool) (P : Type 0) → (a || b) ≡ true → (a ≡ true → P) → (b ≡ true → P) → P
either_true true b P e f g = f refl
either_true false b P e f g = g e

signal_own : (serves up here : Bool) (k u : ℕ) (x : Client) (qc : List ToChooser) (q : List ToConn) → may_signal serves k u x ≡ true → Begun k u up x qc → Pausing serves up here q (x.paused u) → Pausing serves up here (q ++ Signal (not (x.paused u)) ∷ []) (not (x.paused u))
signal_own serves up here k u x qc q g h p =
    let parts = and_parts (not serves) (x.paused u || at (x.given k) u) g in
    record {
      order = alternates_signal here q (x.paused u) p.order;
      plain = λ e. absurd (let no : not serves ≡ true = parts.0 in cc);
      begun = λ l. either_true (x.paused u) (at (x.given k) u) (up ≡ true) parts.1 (λ e. p.begun (let one = ap num e in omega arith)) (λ e. h (let one = ap num e in omega arith));
    }

pausing_signal : (b g : Bool) (serves sv up here : Bool) (k v u : ℕ) (x : Client) (qc : List ToChooser) (q : List ToConn) → may_signal sv k v x ≡ g → (u ≡ v → sv ≡ serves) → Begun k u up x qc → Pausing serves up here q (x.paused u)
    → Pausing serves up here (if b then q ++ signal_letter g v x u else q) ((if b then signal_row g v x else x).paused u)
pausing_signal false g serves sv up here k v u x qc q m s h p = p
pausing_signal true false serves sv up here k v u x qc q m s h p = pausing_more serves up here q [] (x.paused u) refl p
pausing_signal true true serves sv up here k v u x qc q m s h p = by (u == v) refl
  where
    by : (t : Bool) → (u == v) ≡ t → Pausing serves up here (q ++ (if t then Signal (not (x.paused v)) ∷ [] else [])) (if t then not (x.paused v) else x.paused u)
    by true e =
        let same = same_number u v e in
        let may : may_signal serves k u x ≡ true = subst (λ (b : Bool). may_signal b k u x ≡ true) (s same) (subst (λ (n : ℕ). may_signal sv k n x ≡ true) (sym same) m) in
        subst (λ (n : ℕ). Pausing serves up here (q ++ Signal (not (x.paused n)) ∷ []) (not (x.paused n))) same (signal_own serves up here k u x qc q may h p)
    by false e = pausing_more serves up here q [] (x.paused u) refl p

-- An order is taken.

paused_forward : (b bind : Bool) (a k h : ℕ) (n : Conn) → (forward_row b bind a k h n).paused ≡ n.paused
paused_forward true bind a k h n = refl
paused_forward false bind a k h n = refl

paused_drop : (bind : Bool) (a k : ℕ) (n : Conn) → (drop_row bind a k n).paused ≡ n.paused
paused_drop true a k n = refl
paused_drop false a k n = refl

paused_other : (bind : Bool) (a c : ℕ) (q : List ToConn) (n : Conn) → (c == a) ≡ false → (take_order bind a q n).paused c ≡ n.paused c
paused_other bind a c [] n e = refl
paused_other bind a c (Forward k h ∷ q) n e = ap (λ (f : ℕ → Bool). f c) (paused_forward (stopped n) bind a k h n)
paused_other bind a c (Drop k ∷ q) n e = ap (λ (f : ℕ → Bool). f c) (paused_drop bind a k n)
paused_other bind a c (Leave h ∷ q) n e = refl
paused_other bind a c (Signal b ∷ q) n e = rw e refl

pausing_here : {before after : ℕ → Bool} (serves up : Bool) (c : ℕ) (q : List ToConn) (told : Bool) → after ≡ before → Pausing serves up (before c) q told → Pausing serves up (after c) q told
pausing_here serves up c q told e p = subst (λ (f : ℕ → Bool). Pausing serves up (f c) q told) (sym e) p

behind_first : (serves up here : Bool) (l : ToConn) (q : List ToConn) (told : Bool) → signals (l ∷ q) ≡ signals q → Alternates here q told → Pausing serves up here (l ∷ q) told → Pausing serves up here q told
behind_first serves up here l q told s o p = record { order = o; plain = λ e. sym s ∙ p.plain e; begun = λ h. p.begun (rw s h) }

pausing_own : (serves up bind : Bool) (a : ℕ) (q : List ToConn) (n : Conn) (told : Bool) → Pausing serves up (n.paused a) q told → Pausing serves up ((take_order bind a q n).paused a) (tail q) told
pausing_own serves up bind a [] n told p = p
pausing_own serves up bind a (Forward k h ∷ q) n told p = pausing_here serves up a q told (paused_forward (stopped n) bind a k h n) (behind_first serves up (n.paused a) (Forward k h) q told refl p.order p)
pausing_own serves up bind a (Drop k ∷ q) n told p = pausing_here serves up a q told (paused_drop bind a k n) (behind_first serves up (n.paused a) (Drop k) q told refl p.order p)
pausing_own serves up bind a (Leave h ∷ q) n told p = behind_first serves up (n.paused a) (Leave h) q told refl p.order p
pausing_own serves up bind a (Signal b ∷ q) n told p =
    let now : Pausing serves up b q told = record { order = p.order.1; plain = λ e. absurd (let z = p.plain e in omega arith); begun = λ l. p.begun (omega arith) } in
    subst (λ (t : Bool). Pausing serves up (if t then b else n.paused a) q told) (sym (same_self a)) now

pausing_order : (t r serves up bind : Bool) (a c : ℕ) (n : Conn) (orders : ℕ → List ToConn) (told : Bool) → (c == a) ≡ t → Pausing serves up (n.paused c) (orders c) told
    → Pausing serves up ((if r then take_order bind a (orders a) n else n).paused c) (if t && r then tail (orders c) else orders c) told
pausing_order true true serves up bind a c n orders told e p =
    let same = same_number c a e in
    subst (λ (i : ℕ). Pausing serves up ((take_order bind i (orders i) n).paused c) (tail (orders c)) told) same (pausing_own serves up bind c (orders c) n told p)
pausing_order true false serves up bind a c n orders told e p = p
pausing_order false true serves up bind a c n orders told e p = subst (λ (b : Bool). Pausing serves up b (orders c) told) (sym (paused_other bind a c (orders a) n e)) p
pausing_order false false serves up bind a c n orders told e p = p

-- A connection's move that says nothing of pauses.

paused_finish : (b g bind stay : Bool) (a k : ℕ) (n : Conn) → (if b then finish_row g bind stay a k n else n).paused ≡ n.paused
paused_finish false g bind stay a k n = refl
paused_finish true false bind stay a k n = refl
paused_finish true true false stay a k n = refl
paused_finish true true true true a k n = refl
paused_finish true true true false a k n = refl

paused_up : (b g : Bool) (n : Conn) → (if b then up_row g n else n).paused ≡ n.paused
paused_up false g n = refl
paused_up true false n = refl
paused_up true true n = refl

paused_retire : (b g : Bool) (n : Conn) → (if b then retire_row g n else n).paused ≡ n.paused
paused_retire false g n = refl
paused_retire true false n = refl
paused_retire true true n = refl

paused_break : (b g bind : Bool) (n : Conn) → (if b then break_row g bind n else n).paused ≡ n.paused
paused_break false g bind n = refl
paused_break true false bind n = refl
paused_break true true false n = refl
paused_break true true true n = refl

-- The desk hears more.

pausing_up : (serves up more here : Bool) (q : List ToConn) (told : Bool) → (up ≡ true → more ≡ true) → Pausing serves up here q told → Pausing serves more here q told
pausing_up serves up more here q told f p = record { order = p.order; plain = p.plain; begun = λ l. f (p.begun l) }

-- each move
pub pausing_move : (kinds : Kinds) (w : World) (m : Move) (c u : ℕ) → ((k : ℕ) → BegunAt w c k u) → PausingAt kinds w c u → PausingAt kinds (move kinds w m) c u
pausing_move kinds w (Asks a) c u h p = pausing_given (kinds.bind_conn u) (w.desk.up u) ((w.conns u).paused c) (w.to_conn c u) u (paused_asks (c == a) (may_ask (kinds.bind_op c (w.clients c).next) (w.clients c)) (kinds.bind_op c (w.clients c).next) (w.clients c)) p
pausing_move kinds w (Refuses a) c u h p = pausing_given (kinds.bind_conn u) (w.desk.up u) ((w.conns u).paused c) (w.to_conn c u) u (paused_refuses (c == a) (w.clients c)) p
pausing_move kinds w (Binds a) c u h p =
    let g = may_bind (kinds.bind_op c (w.clients c).next) (w.clients c) in
    pausing_given (kinds.bind_conn u) (w.desk.up u) ((w.conns u).paused c) _ u (paused_binds (c == a) g (w.clients c)) (pausing_if (c == a) (kinds.bind_conn u) (w.desk.up u) ((w.conns u).paused c) (w.to_conn c u) _ _ (quiet_binds g (w.clients c) u) p)
pausing_move kinds w (Ends a j) c u h p =
    let g = may_end (kinds.bind_op c j) j (w.clients c) in
    pausing_given (kinds.bind_conn u) (w.desk.up u) ((w.conns u).paused c) _ u (paused_ends (c == a) g j (w.clients c)) (pausing_if (c == a) (kinds.bind_conn u) (w.desk.up u) ((w.conns u).paused c) (w.to_conn c u) _ _ (quiet_ends g j (w.clients c) u) p)
pausing_move kinds w (Goes a) c u h p = pausing_given (kinds.bind_conn u) (w.desk.up u) ((w.conns u).paused c) (w.to_conn c u) u (paused_goes (c == a) (w.clients c)) p
pausing_move kinds w (Leaves a) c u h p =
    let g = may_leave (w.clients c) in
    pausing_given (kinds.bind_conn u) (w.desk.up u) ((w.conns u).paused c) _ u (paused_leaves (c == a) g (w.clients c)) (pausing_if (c == a) (kinds.bind_conn u) (w.desk.up u) ((w.conns u).paused c) (w.to_conn c u) _ _ (quiet_leaves g (w.clients c) u) p)
pausing_move kinds w (Signals a j v) c u h p =
    pausing_signal (c == a) (may_signal (kinds.bind_conn v) j v (w.clients c)) (kinds.bind_conn u) (kinds.bind_conn v) (w.desk.up u) ((w.conns u).paused c) j v u (w.clients c) (w.choices c) (w.to_conn c u) refl (λ e. ap kinds.bind_conn (sym e)) (h j) p
pausing_move kinds w (TakesChoice a) c u h p =
    pausing_given (kinds.bind_conn u) (w.desk.up u) ((w.conns u).paused c) _ u (paused_choice (c == a) (kinds.bind_op c) (w.choices c) (w.clients c)) (pausing_if (c == a) (kinds.bind_conn u) (w.desk.up u) ((w.conns u).paused c) (w.to_conn c u) _ _ (quiet_choice (w.choices c) (w.clients c) u) p)
pausing_move kinds w (TakesAnswer a v) c u h p = pausing_given (kinds.bind_conn u) (w.desk.up u) ((w.conns u).paused c) (w.to_conn c u) u (paused_answer (c == a) (kinds.bind_op c) v (w.to_client c v) (w.clients c)) p
pausing_move kinds w (TakesOrder v a) c u h p = pausing_order (c == a) (u == v) (kinds.bind_conn u) (w.desk.up u) (kinds.bind_conn u) a c (w.conns u) (λ i. w.to_conn i u) ((w.clients c).paused u) refl p
pausing_move kinds w (Answers v a j) c u h p = p
pausing_move kinds w (Finishes v a j failed stay) c u h p = pausing_here (kinds.bind_conn u) (w.desk.up u) c (w.to_conn c u) ((w.clients c).paused u) (paused_finish (u == v) ((w.conns u).rows a j) (kinds.bind_conn u) stay a j (w.conns u)) p
pausing_move kinds w (ComesUp v) c u h p = pausing_here (kinds.bind_conn u) (w.desk.up u) c (w.to_conn c u) ((w.clients c).paused u) (paused_up (u == v) (may_come_up (w.conns u)) (w.conns u)) p
pausing_move kinds w (Retires v) c u h p = pausing_here (kinds.bind_conn u) (w.desk.up u) c (w.to_conn c u) ((w.clients c).paused u) (paused_retire (u == v) (not (stopped (w.conns u))) (w.conns u)) p
pausing_move kinds w (Breaks v) c u h p = pausing_here (kinds.bind_conn u) (w.desk.up u) c (w.to_conn c u) ((w.clients c).paused u) (paused_break (u == v) (may_break (w.conns u)) (kinds.bind_conn u) (w.conns u)) p
pausing_move kinds w (Decides a ans) c u h p = pausing_up (kinds.bind_conn u) (w.desk.up u) _ ((w.conns u).paused c) (w.to_conn c u) ((w.clients c).paused u) (λ e. ap (λ (f : ℕ → Bool). f u) (up_decides kinds a (w.to_desk a) ans w.desk) ∙ e) p
pausing_move kinds w (Hears v) c u h p = pausing_up (kinds.bind_conn u) (w.desk.up u) _ ((w.conns u).paused c) (w.to_conn c u) ((w.clients c).paused u) (λ e. up_hears kinds v u (w.reports v) w.desk e) p

pub pausing_empty : (kinds : Kinds) (c u : ℕ) → PausingAt kinds empty c u
pausing_empty kinds c u = record { order = refl; plain = λ _. refl; begun = λ l. absurd (omega arith) }
