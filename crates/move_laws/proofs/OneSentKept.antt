-- Each move keeps that what waits for a bind connection is of the client's last Bind.
use Rattle.std.proofs.Common.{◌≡◌, ℕ, ◌+◌, ◌≤◌, Bool, true, false, ◌==◌, ◌&&◌, ◌||◌, if◌then◌else◌, List, [], ◌∷◌, ◌++◌, Option, Some, None, arith, refl, ap, ◌∙◌, sym, subst, add-zero}
use Rattle.move_laws.specs.World.{Kinds, World, Client, Conn, ToChooser, Choice, ToConn, Forward, Drop, Leave, Signal, ToClient, Reply, Failed, Move, Asks, Refuses, Binds, Ends, Goes, Leaves, Signals, TakesChoice, TakesAnswer, TakesOrder, Answers, Finishes, ComesUp, Retires, Breaks, Decides, Hears, at, conn_of, holder_of, tail}
use Rattle.move_laws.specs.Clients.{refuse_row, may_ask, ask_row, may_bind, bind_row, bind_letter, may_end, end_row, drop_letter, go_row, may_leave, leave_row, leave_letter, choice_row, take_choice, forward_letter, take_answer, may_signal, signal_letter}
use Rattle.move_laws.specs.Moves.{move}
use Rattle.move_laws.specs.Counts.{num, forwards, sends, lasts}
use Rattle.move_laws.specs.Agree.{Routed, RoutedOf, RoutedAt, FittingOf, FittingAt}
use Rattle.move_laws.specs.AgreeBinds.{Last, LastOf, LastAt, OneSent}
use Rattle.move_laws.proofs.Appends.{num_le, same_self, forwards_append}
use Rattle.move_laws.proofs.RoutedKept.{forwards_drop, forwards_leave}
use Rattle.move_laws.proofs.BindCounts.{sends_append, forwards_le}
use Rattle.move_laws.proofs.LastKept.{may_ask_idle, both_true, live_last}
use Rattle.move_laws.proofs.Fits.{kinds_agree}
use Rattle.move_laws.proofs.Signaled.{stays_signaled, sends_signal, forwards_signal}

-- of a Bind that isn't under way nothing waits
over : (g : Bool) (f t n a l ce m lv d dr ongoing now : ℕ) → t ≤ 1 → ongoing ≡ 0 → (g ≡ true → Last (num g) ce lv ongoing now) → Routed (num g) f t n a l ce m lv d dr → (f ≡ 0) × (l ≡ 0)
over true f t n a l ce m lv d dr ongoing now le z p h = let q = (p refl).going in (omega (arith, h, q), omega (arith, h, q))
over false f t n a l ce m lv d dr ongoing now le z p h = (omega (arith, h), omega (arith, h))

not_ongoing : (b y g : Bool) → y ≡ false → g ≡ false → num (b && (y || g)) ≡ 0
not_ongoing true y g p q = rw (p, q) refl
not_ongoing false y g p q = refl

-- a client that has no Bind under way has nothing of any operation of a bind connection that waits there
pub idle_none : (kinds : Kinds) (c k u : ℕ) (x : Client) (v : Conn) (q : List ToConn) (r : List ToClient) (qc : List ToChooser) → kinds.bind_conn u ≡ true → x.busy ≡ false → x.gone ≡ false
    → RoutedOf c k u x v q r → FittingOf kinds c k u x qc → (kinds.bind_op c k ≡ true → LastOf k u x) → (forwards k q ≡ 0) × (lasts k r ≡ 0)
idle_none kinds c k u x v q r qc t y g h f l =
    over (at (x.given k) u) _ _ _ _ _ _ _ _ _ _ _ _ (num_le (v.taken c k)) (not_ongoing (k == x.current) x.busy x.gone y g)
    (λ e. l (let one = ap num e in sym (kinds_agree kinds c k u x qc f (omega arith)) ∙ t)) h

sent_if : (b : Bool) (j h : ℕ) → sends (if b then Forward j h ∷ [] else []) ≡ num b
sent_if true j h = refl
sent_if false j h = refl

no_drop : (b : Bool) (j : ℕ) → sends (if b then Drop j ∷ [] else []) ≡ 0
no_drop true j = refl
no_drop false j = refl

no_leave : (b : Bool) (j : ℕ) → sends (if b then Leave j ∷ [] else []) ≡ 0
no_leave true j = refl
no_leave false j = refl

one_sent_asks : (b g bind : Bool) (x : Client) (q : List ToConn) → (g ≡ true → forwards x.current q ≡ 0) → sends q ≡ forwards x.current q → sends q ≡ forwards (if b then ask_row g bind x else x).current q
one_sent_asks false g bind x q z h = h
one_sent_asks true false bind x q z h = h
one_sent_asks true true true x q z h = let none = z refl in omega (arith, forwards_le x.next q)
one_sent_asks true true false x q z h = h

sole : (j h : ℕ) (b : Bool) → forwards j (if b then Forward j h ∷ [] else []) ≡ num b
sole j h true = rw (same_self j) refl
sole j h false = refl

one_sent_binds : (b g : Bool) (u : ℕ) (x : Client) (q : List ToConn) → (g ≡ true → forwards x.current q ≡ 0) → sends q ≡ forwards x.current q
    → sends (if b then q ++ bind_letter g x u else q) ≡ forwards (if b then bind_row g x else x).current (if b then q ++ bind_letter g x u else q)
one_sent_binds false g u x q z h = h
one_sent_binds true false u x q z h = simp (sends_append, forwards_append, add-zero) h
one_sent_binds true true u x q z h =
    let none = z refl in rw (sends_append, forwards_append, sent_if (at (conn_of x.hold) u) x.next (holder_of x.hold), sole x.next (holder_of x.hold) (at (conn_of x.hold) u)) (omega (arith, forwards_le x.next q))

one_sent_ends : (b g : Bool) (j u : ℕ) (x : Client) (q : List ToConn) → sends q ≡ forwards x.current q
    → sends (if b then q ++ drop_letter g j x u else q) ≡ forwards (if b then end_row g j x else x).current (if b then q ++ drop_letter g j x u else q)
one_sent_ends false g j u x q h = h
one_sent_ends true false j u x q h = simp (sends_append, forwards_append, add-zero) h
one_sent_ends true true j u x q h = rw (sends_append, forwards_append, no_drop (at (x.given j) u) j, forwards_drop (at (x.given j) u) x.current j) (ap (λ (n : ℕ). n + 0) h)

one_sent_leaves : (b g : Bool) (u : ℕ) (x : Client) (q : List ToConn) → sends q ≡ forwards x.current q
    → sends (if b then q ++ leave_letter g x u else q) ≡ forwards (if b then leave_row g x else x).current (if b then q ++ leave_letter g x u else q)
one_sent_leaves false g u x q h = h
one_sent_leaves true false u x q h = simp (sends_append, forwards_append, add-zero) h
one_sent_leaves true true u x q h = rw (sends_append, forwards_append, no_leave (at (conn_of x.hold) u) (holder_of x.hold), forwards_leave (at (conn_of x.hold) u) x.current (holder_of x.hold)) (ap (λ (n : ℕ). n + 0) h)

one_sent_goes : (b : Bool) (x : Client) (q : List ToConn) → sends q ≡ forwards x.current q → sends q ≡ forwards (if b then go_row x else x).current q
one_sent_goes false x q h = h
one_sent_goes true x q h = h

same_current : (l bind : Bool) (j : ℕ) (a : Option ℕ) (x : Client) → (choice_row l bind j a x).current ≡ x.current
same_current false bind j a x = refl
same_current true bind j None x = refl
same_current true bind j (Some u) x = refl

choice_sent : (s : Bool) (j u : ℕ) (x : Client) (q : List ToConn) → (s ≡ true → x.current ≡ j) → sends q ≡ forwards x.current q → sends (q ++ (if s then Forward j j ∷ [] else [])) ≡ forwards x.current (q ++ (if s then Forward j j ∷ [] else []))
choice_sent true j u x q e h = rw (sends_append, forwards_append) (let t = e refl in rw (t, same_self j) (let w = rw t at h in ap (λ (n : ℕ). n + 1) w))
choice_sent false j u x q e h = simp (sends_append, forwards_append, add-zero) h

one_sent_choice : (bind : ℕ → Bool) (u : ℕ) (ls : List ToChooser) (x : Client) (q : List ToConn) → ((j : ℕ) (a : Option ℕ) (rest : List ToChooser) → ls ≡ Choice j a ∷ rest → (x.live j && at a u) ≡ true → x.current ≡ j) → sends q ≡ forwards x.current q
    → sends (q ++ forward_letter ls x u) ≡ forwards (take_choice bind ls x).current (q ++ forward_letter ls x u)
one_sent_choice bind u [] x q e h = simp (sends_append, forwards_append, add-zero) h
one_sent_choice bind u (Choice j a ∷ ls) x q e h = rw (same_current (x.live j) (bind j) j a x) (choice_sent (x.live j && at a u) j u x q (e j a ls refl) h)

answer_current : (b : Bool) (bind : ℕ → Bool) (w : ℕ) (ls : List ToClient) (x : Client) → (if b then take_answer bind w ls x else x).current ≡ x.current
answer_current false bind w ls x = refl
answer_current true bind w [] x = refl
answer_current true bind w (Reply j true stay ∷ ls) x = refl
answer_current true bind w (Reply j false stay ∷ ls) x = refl
answer_current true bind w (Failed j ∷ ls) x = refl

one_sent_tail : (b : Bool) (k : ℕ) (q : List ToConn) → sends q ≡ forwards k q → sends (if b then tail q else q) ≡ forwards k (if b then tail q else q)
one_sent_tail false k q h = h
one_sent_tail true k [] h = h
one_sent_tail true k (Forward j g ∷ q) h = omega (arith, forwards_le k q, num_le (k == j))
one_sent_tail true k (Drop j ∷ q) h = h
one_sent_tail true k (Leave j ∷ q) h = h
one_sent_tail true k (Signal b ∷ q) h = h

if_both : (b : Bool) (x y : Client) (p q : List ToConn) → sends p ≡ forwards x.current p → sends q ≡ forwards y.current q → sends (if b then q else p) ≡ forwards (if b then y else x).current (if b then q else p)
if_both true x y p q g h = h
if_both false x y p q g h = g

-- the operation of a choice that is forwarded to a bind connection is the last Bind
chosen_last : (kinds : Kinds) (c u : ℕ) (x : Client) (ls : List ToChooser) → kinds.bind_conn u ≡ true → ((k : ℕ) → FittingOf kinds c k u x ls) → ((k : ℕ) → kinds.bind_op c k ≡ true → LastOf k u x)
    → (j : ℕ) (a : Option ℕ) (rest : List ToChooser) → ls ≡ Choice j a ∷ rest → (x.live j && at a u) ≡ true → x.current ≡ j
chosen_last kinds c u x ls t f l j a rest e s =
    let p = both_true (x.live j) (at a u) s in
    let g : FittingOf kinds c j u x (Choice j a ∷ rest) = subst (λ (z : List ToChooser). FittingOf kinds c j u x z) e (f j) in
    let b : kinds.bind_op c j ≡ true = sym (kinds_agree kinds c j u x (Choice j a ∷ rest) g (rw (same_self j, p.1) (omega arith))) ∙ t in
    (live_last j u x (l j b) p.0).0

one_sent_refuses : (b : Bool) (x : Client) (q : List ToConn) → sends q ≡ forwards x.current q → sends q ≡ forwards (if b then refuse_row x else x).current q
one_sent_refuses false x q h = h
one_sent_refuses true x q h = h

-- of a client and its orders
abbrev OneSentOf : Client → List ToConn → Type 0
OneSentOf x q = sends q ≡ forwards x.current q

-- each move, for a bind connection
pub one_sent_move : (kinds : Kinds) (w : World) (m : Move) (c u : ℕ) → kinds.bind_conn u ≡ true → ((k : ℕ) → RoutedAt w c k u) → ((k : ℕ) → FittingAt kinds w c k u) → ((k : ℕ) → kinds.bind_op c k ≡ true → LastAt w c k u) → OneSent w c u → OneSent (move kinds w m) c u
one_sent_move kinds w (Asks a) c u t r f l h =
    one_sent_asks (c == a) (may_ask (kinds.bind_op c (w.clients c).next) (w.clients c)) (kinds.bind_op c (w.clients c).next) (w.clients c) (w.to_conn c u)
    (λ e. let i = may_ask_idle (w.clients c).gone (w.clients c).busy _ e in let k = (w.clients c).current in (idle_none kinds c k u (w.clients c) (w.conns u) (w.to_conn c u) (w.to_client c u) (w.choices c) t i.0 i.1 (r k).routed (f k) (l k)).0) h
one_sent_move kinds w (Refuses a) c u t r f l h = one_sent_refuses (c == a) (w.clients c) (w.to_conn c u) h
one_sent_move kinds w (Binds a) c u t r f l h =
    one_sent_binds (c == a) (may_bind (kinds.bind_op c (w.clients c).next) (w.clients c)) u (w.clients c) (w.to_conn c u)
    (λ e. let i = may_ask_idle (w.clients c).gone (w.clients c).busy _ e in let k = (w.clients c).current in (idle_none kinds c k u (w.clients c) (w.conns u) (w.to_conn c u) (w.to_client c u) (w.choices c) t i.0 i.1 (r k).routed (f k) (l k)).0) h
one_sent_move kinds w (Ends a j) c u t r f l h = one_sent_ends (c == a) (may_end (kinds.bind_op c j) j (w.clients c)) j u (w.clients c) (w.to_conn c u) h
one_sent_move kinds w (Goes a) c u t r f l h = one_sent_goes (c == a) (w.clients c) (w.to_conn c u) h
one_sent_move kinds w (Leaves a) c u t r f l h = one_sent_leaves (c == a) (may_leave (w.clients c)) u (w.clients c) (w.to_conn c u) h
one_sent_move kinds w (Signals a j v) c u t r f l h =
    stays_signaled (λ y. OneSentOf y (if c == a then w.to_conn c u ++ signal_letter (may_signal (kinds.bind_conn v) j v (w.clients c)) v (w.clients c) u else w.to_conn c u)) (c == a) (may_signal (kinds.bind_conn v) j v (w.clients c)) v (w.clients c)
    (sends_signal (c == a) (may_signal (kinds.bind_conn v) j v (w.clients c)) v u (w.clients c) (w.to_conn c u) ∙ h ∙ sym (forwards_signal (w.clients c).current (c == a) (may_signal (kinds.bind_conn v) j v (w.clients c)) v u (w.clients c) (w.to_conn c u)))
one_sent_move kinds w (TakesChoice a) c u t r f l h =
    if_both (c == a) (w.clients c) (take_choice (kinds.bind_op c) (w.choices c) (w.clients c)) (w.to_conn c u) (w.to_conn c u ++ forward_letter (w.choices c) (w.clients c) u) h
    (one_sent_choice (kinds.bind_op c) u (w.choices c) (w.clients c) (w.to_conn c u) (chosen_last kinds c u (w.clients c) (w.choices c) t f l) h)
one_sent_move kinds w (TakesAnswer a v) c u t r f l h = rw (answer_current (c == a) (kinds.bind_op c) v (w.to_client c v) (w.clients c)) h
one_sent_move kinds w (TakesOrder v a) c u t r f l h = one_sent_tail ((c == a) && (u == v)) (w.clients c).current (w.to_conn c u) h
one_sent_move kinds w (Answers v a j) c u t r f l h = h
one_sent_move kinds w (Finishes v a j failed stay) c u t r f l h = h
one_sent_move kinds w (ComesUp v) c u t r f l h = h
one_sent_move kinds w (Retires v) c u t r f l h = h
one_sent_move kinds w (Breaks v) c u t r f l h = h
one_sent_move kinds w (Decides a ans) c u t r f l h = h
one_sent_move kinds w (Hears v) c u t r f l h = h
