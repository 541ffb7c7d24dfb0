-- Each move keeps what is said of a holder and of its bind connection.
use Rattle.std.proofs.Common.{◌≡◌, ℕ, ◌+◌, ◌≤◌, Bool, true, false, ◌==◌, ◌&&◌, not, if◌then◌else◌, List, [], ◌∷◌, ◌++◌, Option, Some, None, inl, inr, arith, refl, ap, ◌∙◌, sym, subst}
use Rattle.move_laws.specs.World.{Hold, Kinds, World, Client, Conn, ToChooser, Choice, ToConn, Forward, Drop, Leave, ToClient, Reply, Failed, Move, Asks, Refuses, Binds, Ends, Goes, Leaves, Signals, TakesChoice, TakesAnswer, TakesOrder, Answers, Finishes, ComesUp, Retires, Breaks, Decides, Hears, at, conn_of, holder_of, holds, held, tail}
use Rattle.move_laws.specs.Clients.{may_ask, may_bind, bind_letter, may_end, drop_letter, may_leave, leave_letter, forward_letter, may_signal, signal_letter}
use Rattle.move_laws.specs.Conns.{finish_letter, stopped, may_come_up, may_break}
use Rattle.move_laws.specs.Moves.{move}
use Rattle.move_laws.specs.Counts.{num, choices, forwards, unders, sends, leaves, lasts, finals, LeavesLast}
use Rattle.move_laws.specs.Agree.{AskingOf, AskingAt, RoutedOf, RoutedAt, FittingOf, FittingAt}
use Rattle.move_laws.specs.AgreeBinds.{Lost, LastOf, LastAt, OneSent, HoldingAt, StandsOf, HoldingOf}
use Rattle.move_laws.proofs.Appends.{num_le, num_true, same_number, same_self}
use Rattle.move_laws.proofs.RoutedMoves.{unsent_of, fresh_at, next_is}
use Rattle.move_laws.proofs.Fits.{num_false, kinds_agree}
use Rattle.move_laws.proofs.BindCounts.{finals_le, unders_le, leaves_last_append, leaves_last_tail}
use Rattle.move_laws.proofs.LastKept.{may_ask_idle, open_last}
use Rattle.move_laws.proofs.OneSentKept.{idle_none}
use Rattle.move_laws.proofs.BoundKept.{firsts_binds, pinned_other}
use Rattle.move_laws.proofs.HoldingKept.{ChoiceFirst, AnswerFirst, holding_asks, holding_refuses, holding_binds, holding_ends, holding_goes, holding_leaves, holding_choice, holding_answer}
use Rattle.move_laws.proofs.LostKept.{lost_not_down}
use Rattle.move_laws.proofs.HoldingTaken.{OrderFirst, holding_order, finals_more, holding_done, holding_breaks, holding_up, holding_retires}
use Rattle.move_laws.proofs.Signaled.{stays_signaled, leaves_last_signal, forwards_signal, firsts_signal, unders_signal, leaves_signal}

-- what is known before a move, of one client and one bind connection
pub record Known (kinds : Kinds) (w : World) (c u : ℕ) : Type 0 where
  pub bind : kinds.bind_conn u ≡ true
  pub asking : (k : ℕ) → AskingAt w c k
  pub routed : (k : ℕ) → RoutedAt w c k u
  pub fitting : (k : ℕ) → FittingAt kinds w c k u
  pub last : (k : ℕ) → kinds.bind_op c k ≡ true → LastAt w c k u
  pub one_sent : OneSent w c u
  pub orders : (a : ℕ) → OrderFirst a u (w.clients a) (w.conns u) (w.to_conn a u)
  pub stands : (a i : ℕ) → StandsOf a i (w.conns u)
  pub holding : (h : ℕ) → HoldingAt w c h u
  pub lost : Lost (w.conns u)

not_held : (o : Option Hold) (u h : ℕ) → held o ≡ false → num (holds o u h) ≡ 0
not_held None u h e = refl
not_held (Some y) u h e = absurd (cc)

ask_free : (a b h : Bool) → (not a && not b && not (true && h)) ≡ true → h ≡ false
ask_free true b h e = absurd (cc)
ask_free false true h e = absurd (cc)
ask_free false false true e = absurd (cc)
ask_free false false false e = refl

-- while no Bind is under way nothing waits
quiet : (kinds : Kinds) (w : World) (c u : ℕ) (h : ℕ) → (w.clients c).busy ≡ false → (w.clients c).gone ≡ false → Known kinds w c u → unders h (w.to_conn c u) + finals (w.clients c).current (w.to_client c u) ≡ 0
quiet kinds w c u h y g k =
    let n = (w.clients c).current in
    let z = idle_none kinds c n u (w.clients c) (w.conns u) (w.to_conn c u) (w.to_client c u) (w.choices c) k.bind y g (k.routed n).routed (k.fitting n) (k.last n) in
    let none = z.0 in
    let unanswered = z.1 in
    let s : sends (w.to_conn c u) ≡ forwards n (w.to_conn c u) = k.one_sent in
    omega (arith, unders_le h (w.to_conn c u), finals_le n (w.to_client c u))

fresh_all : (kinds : Kinds) (w : World) (c h u : ℕ) → Known kinds w c u → (h == (w.clients c).next) ≡ true → num (at ((w.clients c).given h) u) + forwards h (w.to_conn c u) + num ((w.conns u).taken c h) + num ((w.clients c).asked h) ≡ 0
fresh_all kinds w c h u k e =
    let l = next_is h (w.clients c).next e in
    let g = fresh_at w c h u (k.asking h) l in
    let s = (k.routed h).routed.sent in
    let a = (k.asking h).fresh l in
    omega arith

fresh_some : (g f t a : ℕ) → g + f + t + a ≡ 0 → g + f + t ≡ 0
fresh_some g f t a e = omega arith

ask_nothing : (kinds : Kinds) (w : World) (c h u : ℕ) (b : Bool) → Known kinds w c u → may_ask b (w.clients c) ≡ true → b ≡ true → num (holds (w.clients c).hold u h) + unders h (w.to_conn c u) ≡ 0
ask_nothing kinds w c h u false k g e = absurd (cc)
ask_nothing kinds w c h u true k g e =
    let i = may_ask_idle (w.clients c).gone (w.clients c).busy _ g in
    let q = quiet kinds w c u h i.0 i.1 k in
    let n = not_held (w.clients c).hold u h (ask_free (w.clients c).gone (w.clients c).busy (held (w.clients c).hold) g) in
    omega arith

choice_first : (kinds : Kinds) (c h u q t : ℕ) (x : Client) (ls : List ToChooser) → kinds.bind_conn u ≡ true → AskingOf h x q t (choices h ls) → ((k : ℕ) → FittingOf kinds c k u x ls) → ChoiceFirst (kinds.bind_op c) h u x ls
choice_first kinds c h u q t x [] b p f = tt
choice_first kinds c h u q t x (Choice j a ∷ ls) b p f = (
  unsent_of c h u q t x (Choice j a ∷ ls) p,
  λ e. let one = ap num e in omega (arith, num_le (x.asked h)),
  λ e. sym (kinds_agree kinds c j u x (Choice j a ∷ ls) (f j) (rw (same_self j, e) (omega arith))) ∙ b,
)

-- the operation of a last answer that waits is the last Bind, and none of it waits to be sent
answered_last : (kinds : Kinds) (c h u j : ℕ) (x : Client) (v : Conn) (q : List ToConn) (r : List ToClient) (qc : List ToChooser) → kinds.bind_conn u ≡ true → RoutedOf c j u x v q r → FittingOf kinds c j u x qc → (kinds.bind_op c j ≡ true → LastOf j u x) → sends q ≡ forwards x.current q → 1 ≤ lasts j r
    → (kinds.bind_op c j ≡ true) × (unders h q ≡ 0)
answered_last kinds c h u j x v q r qc b p f l s o =
    let given : num (at (x.given j) u) ≡ 1 = omega (arith, p, num_le (at (x.given j) u), num_le (v.taken c j)) in
    let bound : kinds.bind_op c j ≡ true = sym (kinds_agree kinds c j u x qc f (omega arith)) ∙ b in
    let same : x.current ≡ j = open_last j u x (l bound) (num_true (at (x.given j) u) given) (num_false (x.closed j u) (omega (arith, p, num_le (v.taken c j)))) in
    let mine : sends q ≡ forwards j q = rw same at s in
    (bound, omega (arith, p, unders_le h q, num_le (at (x.given j) u)))

answer_first : (kinds : Kinds) (c h u : ℕ) (x : Client) (v : Conn) (q : List ToConn) (r : List ToClient) (qc : List ToChooser) → kinds.bind_conn u ≡ true → ((k : ℕ) → RoutedOf c k u x v q r) → ((k : ℕ) → FittingOf kinds c k u x qc) → ((k : ℕ) → kinds.bind_op c k ≡ true → LastOf k u x) → sends q ≡ forwards x.current q
    → AnswerFirst (kinds.bind_op c) h q r
answer_first kinds c h u x v q [] qc b p f l s = tt
answer_first kinds c h u x v q (Reply j true stay ∷ r) qc b p f l s = let one = ap num (same_self j) in answered_last kinds c h u j x v q (Reply j true stay ∷ r) qc b (p j) (f j) (l j) s (omega arith)
answer_first kinds c h u x v q (Reply j false stay ∷ r) qc b p f l s = tt
answer_first kinds c h u x v q (Failed j ∷ r) qc b p f l s = let one = ap num (same_self j) in answered_last kinds c h u j x v q (Failed j ∷ r) qc b (p j) (f j) (l j) s (omega arith)

-- a live Bind at the connection is the client's last
row_last : (kinds : Kinds) (w : World) (c u j : ℕ) → Known kinds w c u → (w.conns u).rows c j ≡ true → (w.clients c).current ≡ j
row_last kinds w c u j k e =
    let p = (k.routed j).routed in
    let one = ap num e in
    let given : num (at ((w.clients c).given j) u) ≡ 1 = omega (arith, num_le (at ((w.clients c).given j) u), num_le ((w.conns u).taken c j)) in
    let bound : kinds.bind_op c j ≡ true = sym (kinds_agree kinds c j u (w.clients c) (w.choices c) (k.fitting j) (omega arith)) ∙ k.bind in
    open_last j u (w.clients c) (k.last j bound) (num_true (at ((w.clients c).given j) u) given) (num_false ((w.clients c).closed j u) (omega (arith, num_le ((w.conns u).taken c j))))

same_letters : (b bu yc ya failed so : Bool) (j : ℕ) (r : List ToClient) → (b ≡ true → yc ≡ ya) → (if b && bu then r ++ finish_letter yc failed j so else r) ≡ (if b && bu then r ++ finish_letter ya failed j so else r)
same_letters true true yc ya failed so j r e = rw (e refl) refl
same_letters true false yc ya failed so j r e = refl
same_letters false bu yc ya failed so j r e = refl

-- the order of Leaves
other_under : (h g j : ℕ) → (h == g) ≡ false → unders h (Forward j g ∷ []) ≡ 0
other_under h g j e = rw e refl

order_case : (b : Bool) (h g j : ℕ) (q : List ToConn) → (h == g) ≡ b → (b ≡ true → leaves h q ≡ 0) → LeavesLast h q → LeavesLast h (q ++ Forward j g ∷ [])
order_case true h g j q e z o = leaves_last_append h q (Forward j g ∷ []) (inr (z refl)) tt o
order_case false h g j q e z o = leaves_last_append h q (Forward j g ∷ []) (inl (other_under h g j e)) tt o

order_forward : (b : Bool) (h g j : ℕ) (q : List ToConn) → (b ≡ true → (h == g) ≡ true → leaves h q ≡ 0) → LeavesLast h q → LeavesLast h (q ++ (if b then Forward j g ∷ [] else []))
order_forward true h g j q z o = order_case (h == g) h g j q refl (z refl) o
order_forward false h g j q z o = leaves_last_append h q [] (inl refl) tt o

order_drop : (b : Bool) (h j : ℕ) (q : List ToConn) → LeavesLast h q → LeavesLast h (q ++ (if b then Drop j ∷ [] else []))
order_drop true h j q o = leaves_last_append h q (Drop j ∷ []) (inl refl) tt o
order_drop false h j q o = leaves_last_append h q [] (inl refl) tt o

order_leave : (b : Bool) (h j : ℕ) (q : List ToConn) → LeavesLast h q → LeavesLast h (q ++ (if b then Leave j ∷ [] else []))
order_leave true h j q o = leaves_last_append h q (Leave j ∷ []) (inl refl) (λ _. refl, tt) o
order_leave false h j q o = leaves_last_append h q [] (inl refl) tt o

order_binds : (b g : Bool) (h u : ℕ) (x : Client) (q : List ToConn) → (at (conn_of x.hold) u ≡ true → (h == holder_of x.hold) ≡ true → leaves h q ≡ 0) → LeavesLast h q → LeavesLast h (if b then q ++ bind_letter g x u else q)
order_binds false g h u x q z o = o
order_binds true false h u x q z o = leaves_last_append h q [] (inl refl) tt o
order_binds true true h u x q z o = order_forward (at (conn_of x.hold) u) h (holder_of x.hold) x.next q z o

order_ends : (b g : Bool) (j h u : ℕ) (x : Client) (q : List ToConn) → LeavesLast h q → LeavesLast h (if b then q ++ drop_letter g j x u else q)
order_ends false g j h u x q o = o
order_ends true false j h u x q o = leaves_last_append h q [] (inl refl) tt o
order_ends true true j h u x q o = order_drop (at (x.given j) u) h j q o

order_leaves : (b g : Bool) (h u : ℕ) (x : Client) (q : List ToConn) → LeavesLast h q → LeavesLast h (if b then q ++ leave_letter g x u else q)
order_leaves false g h u x q o = o
order_leaves true false h u x q o = leaves_last_append h q [] (inl refl) tt o
order_leaves true true h u x q o = order_leave (at (conn_of x.hold) u) h (holder_of x.hold) q o

order_choice : (b : Bool) (bind : ℕ → Bool) (h u : ℕ) (ls : List ToChooser) (x : Client) (q : List ToConn) → ChoiceFirst bind h u x ls → (num (at (x.given h) u) ≡ 0 → leaves h q ≡ 0) → LeavesLast h q → LeavesLast h (if b then q ++ forward_letter ls x u else q)
order_choice false bind h u ls x q k z o = o
order_choice true bind h u [] x q k z o = leaves_last_append h q [] (inl refl) tt o
order_choice true bind h u (Choice j a ∷ ls) x q k z o = order_forward (x.live j && at a u) h j j q (λ _ e. z (k.0 e)) o

order_tail : (b : Bool) (h : ℕ) (q : List ToConn) → LeavesLast h q → LeavesLast h (if b then tail q else q)
order_tail true h q o = leaves_last_tail h q o
order_tail false h q o = o

held_both : (o : Option Hold) (u h : ℕ) → at (conn_of o) u ≡ true → (h == holder_of o) ≡ true → num (holds o u h) ≡ 1
held_both None u h p q = absurd (cc)
held_both (Some y) u h p q = rw (p, q) refl

-- a signal is no order about a Bind
holding_signal : (b g : Bool) (v c h u : ℕ) (x : Client) (n : Conn) (q : List ToConn) (r : List ToClient) → HoldingOf c h u x n q r → HoldingOf c h u x n (if b then q ++ signal_letter g v x u else q) r
holding_signal b g v c h u x n q r p = rw (forwards_signal h b g v u x q, firsts_signal h b g v u x q, unders_signal h b g v u x q, leaves_signal h b g v u x q) p

-- each move, for a bind connection
pub holding_move : (kinds : Kinds) (w : World) (m : Move) (c h u : ℕ) → Known kinds w c u → HoldingAt (move kinds w m) c h u
holding_move kinds w (Asks a) c h u k = record {
  holding = holding_asks (c == a) (may_ask (kinds.bind_op c (w.clients c).next) (w.clients c)) (kinds.bind_op c (w.clients c).next) c h u (w.clients c) (w.conns u) (w.to_conn c u) (w.to_client c u)
      (λ e. fresh_some _ _ _ _ (fresh_all kinds w c h u k e)) (ask_nothing kinds w c h u (kinds.bind_op c (w.clients c).next) k) (k.holding h).holding;
  leaves_last = (k.holding h).leaves_last;
}
holding_move kinds w (Refuses a) c h u k = record { holding = holding_refuses (c == a) c h u (w.clients c) (w.conns u) (w.to_conn c u) (w.to_client c u) (k.holding h).holding; leaves_last = (k.holding h).leaves_last }
holding_move kinds w (Binds a) c h u k = record {
  holding = holding_binds (c == a) (may_bind (kinds.bind_op c (w.clients c).next) (w.clients c)) c h u (w.clients c) (w.conns u) (w.to_conn c u) (w.to_client c u)
      (fresh_all kinds w c h u k) (λ g. let i = may_ask_idle (w.clients c).gone (w.clients c).busy _ g in quiet kinds w c u h i.0 i.1 k) (k.fitting h).wanted
      (firsts_binds (c == a) (may_bind (kinds.bind_op c (w.clients c).next) (w.clients c)) h u (w.clients c) (w.to_conn c u) (pinned_other kinds w c u k.asking k.fitting)) (k.holding h).holding;
  leaves_last = order_binds (c == a) (may_bind (kinds.bind_op c (w.clients c).next) (w.clients c)) h u (w.clients c) (w.to_conn c u)
      (λ p q. let one = held_both (w.clients c).hold u h p q in let o = (k.holding h).holding.once in omega (arith, num_le (at ((w.clients c).given h) u))) (k.holding h).leaves_last;
}
holding_move kinds w (Ends a j) c h u k = record {
  holding = holding_ends (c == a) (may_end (kinds.bind_op c j) j (w.clients c)) j c h u (w.clients c) (w.conns u) (w.to_conn c u) (w.to_client c u) (k.holding h).holding;
  leaves_last = order_ends (c == a) (may_end (kinds.bind_op c j) j (w.clients c)) j h u (w.clients c) (w.to_conn c u) (k.holding h).leaves_last;
}
holding_move kinds w (Goes a) c h u k = record { holding = holding_goes (c == a) c h u (w.clients c) (w.conns u) (w.to_conn c u) (w.to_client c u) (k.holding h).holding; leaves_last = (k.holding h).leaves_last }
holding_move kinds w (Leaves a) c h u k = record {
  holding = holding_leaves (c == a) (may_leave (w.clients c)) c h u (w.clients c) (w.conns u) (w.to_conn c u) (w.to_client c u) (k.fitting h).wanted (k.holding h).holding;
  leaves_last = order_leaves (c == a) (may_leave (w.clients c)) h u (w.clients c) (w.to_conn c u) (k.holding h).leaves_last;
}
holding_move kinds w (Signals a j v) c h u k = record {
  holding = stays_signaled (λ y. HoldingOf c h u y (w.conns u) (if c == a then w.to_conn c u ++ signal_letter (may_signal (kinds.bind_conn v) j v (w.clients c)) v (w.clients c) u else w.to_conn c u) (w.to_client c u)) (c == a) (may_signal (kinds.bind_conn v) j v (w.clients c)) v (w.clients c)
      (holding_signal (c == a) (may_signal (kinds.bind_conn v) j v (w.clients c)) v c h u (w.clients c) (w.conns u) (w.to_conn c u) (w.to_client c u) (k.holding h).holding);
  leaves_last = leaves_last_signal h (c == a) (may_signal (kinds.bind_conn v) j v (w.clients c)) v u (w.clients c) (w.to_conn c u) (k.holding h).leaves_last;
}
holding_move kinds w (TakesChoice a) c h u k =
    let first = choice_first kinds c h u _ _ (w.clients c) (w.choices c) k.bind (k.asking h) k.fitting in
    record {
      holding = holding_choice (c == a) (kinds.bind_op c) c h u (w.choices c) (w.clients c) (w.conns u) (w.to_conn c u) (w.to_client c u) first (k.holding h).holding;
      leaves_last = order_choice (c == a) (kinds.bind_op c) h u (w.choices c) (w.clients c) (w.to_conn c u) first (λ e. let o = (k.holding h).holding.once in omega arith) (k.holding h).leaves_last;
    }
holding_move kinds w (TakesAnswer a v) c h u k = record {
  holding = holding_answer (c == a) (u == v) (kinds.bind_op c) c h u v (w.to_client c v) (w.to_client c u) (w.clients c) (w.conns u) (w.to_conn c u) (λ e. ap (w.to_client c) (sym (same_number u v e)))
      (answer_first kinds c h u (w.clients c) (w.conns u) (w.to_conn c u) (w.to_client c u) (w.choices c) k.bind (λ i. (k.routed i).routed) k.fitting k.last k.one_sent) (k.holding h).holding;
  leaves_last = (k.holding h).leaves_last;
}
holding_move kinds w (TakesOrder v a) c h u k = record {
  holding = rw k.bind (holding_order (c == a) (u == v) a c h u w.clients (w.conns u) (λ i. w.to_conn i u) (w.to_client c u) refl k.orders (k.holding h).holding);
  leaves_last = order_tail ((c == a) && (u == v)) h (w.to_conn c u) (k.holding h).leaves_last;
}
holding_move kinds w (Answers v a j) c h u k = record {
  holding = rw (finals_more ((c == a) && (u == v)) ((w.conns u).rows c j) (w.clients c).current j (w.to_client c u)) (k.holding h).holding;
  leaves_last = (k.holding h).leaves_last;
}
holding_move kinds w (Finishes v a j failed stay) c h u k = record {
  holding = rw (k.bind, same_letters (c == a) (u == v) ((w.conns u).rows c j) ((w.conns u).rows a j) failed stay j (w.to_client c u) (λ e. ap (λ (i : ℕ). (w.conns u).rows i j) (same_number c a e)))
      (holding_done (u == v) ((w.conns u).rows a j) stay failed a c h j u (w.clients c) (w.conns u) (w.to_conn c u) (w.to_client c u) refl (k.stands a j)
      (λ y e. row_last kinds w c u j k (subst (λ (i : ℕ). (w.conns u).rows i j ≡ true) (sym (same_number c a e)) y)) (k.holding h).holding);
  leaves_last = (k.holding h).leaves_last;
}
holding_move kinds w (ComesUp v) c h u k = record { holding = holding_up (u == v) (may_come_up (w.conns u)) c h u (w.clients c) (w.conns u) (w.to_conn c u) (w.to_client c u) (k.holding h).holding; leaves_last = (k.holding h).leaves_last }
holding_move kinds w (Retires v) c h u k = record { holding = holding_retires (u == v) (not (stopped (w.conns u))) c h u (w.clients c) (w.conns u) (w.to_conn c u) (w.to_client c u) (k.holding h).holding; leaves_last = (k.holding h).leaves_last }
holding_move kinds w (Breaks v) c h u k = record { holding = rw k.bind (holding_breaks (u == v) (may_break (w.conns u)) c h u (w.clients c) (w.conns u) (w.to_conn c u) (w.to_client c u) k.lost (lost_not_down (w.conns u) c h k.lost) (k.holding h).holding); leaves_last = (k.holding h).leaves_last }
holding_move kinds w (Decides a ans) c h u k = record { holding = (k.holding h).holding; leaves_last = (k.holding h).leaves_last }
holding_move kinds w (Hears v) c h u k = record { holding = (k.holding h).holding; leaves_last = (k.holding h).leaves_last }
