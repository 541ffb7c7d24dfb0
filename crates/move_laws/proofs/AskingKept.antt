-- Each move keeps what is said of the way of one operation to a connection.
use Rattle.std.proofs.Common.{◌≡◌, ℕ, ◌+◌, ◌≤◌, Bool, true, false, ◌==◌, ◌&&◌, not, if◌then◌else◌, List, [], ◌∷◌, ◌++◌, Option, Some, None, arith, refl, ap, ◌∙◌, sym, add-zero}
use Rattle.std.proofs.lemmas.Bool.Decides.{nat_tests}
use Rattle.move_laws.specs.World.{Hold, Kinds, World, Client, Desk, ToDesk, Ask, Returned, ToChooser, Choice, ToClient, Reply, Failed, Report, Ended, IsUp, IsRetired, IsDown, Move, Asks, Refuses, Binds, Ends, Goes, Leaves, Signals, TakesChoice, TakesAnswer, TakesOrder, Answers, Finishes, ComesUp, Retires, Breaks, Decides, Hears, some_at, conn_of, held, tail}
use Rattle.move_laws.specs.Clients.{refuse_row, may_ask, ask_row, ask_letter, may_bind, bind_row, may_end, end_row, go_row, may_leave, leave_row, choice_row, take_choice, return_to, return_letter, close_row, take_answer, may_signal}
use Rattle.move_laws.specs.Desks.{decide, choice_letter, chosen_for, choose, hear}
use Rattle.move_laws.specs.Moves.{move, empty}
use Rattle.move_laws.specs.Counts.{num, asks, choices}
use Rattle.move_laws.specs.Agree.{Asking, AskingOf, AskingAt}
use Rattle.move_laws.proofs.Appends.{num_le, same_number, asks_append, choices_append}
use Rattle.move_laws.proofs.Signaled.{stays_signaled}

-- a new operation
new_number : (k next q t ch ce s : ℕ) (a l b : Bool) → (k == next) ≡ b → Asking k next (num a) q t ch ce s (num l) → Asking k (next + 1) (num (if b then true else a)) (q + num b) t ch ce s (num (if b then true else l))
new_number k next q t ch ce s a l true e h = let same : k ≡ next = grind (arith, nat_tests) in let z = h.fresh (omega arith) in omega arith
new_number k next q t ch ce s a l false e h = grind (arith, nat_tests, h, e)

pub asking_asks : (b g bind : Bool) (k t ch : ℕ) (x : Client) (q : List ToDesk) → AskingOf k x (asks k q) t ch → AskingOf k (if b then ask_row g bind x else x) (asks k (if b then q ++ ask_letter g x else q)) t ch
asking_asks false g bind k t ch x q h = h
asking_asks true false bind k t ch x q h = simp (asks_append, add-zero) h
asking_asks true true bind k t ch x q h = simp (asks_append, add-zero) (new_number k x.next _ _ _ _ _ (x.asked k) (x.live k) (k == x.next) refl h)

given_number : (k next q t ch ce a : ℕ) (o v : Option ℕ) (l b : Bool) → (k == next) ≡ b → some_at v ≡ true → Asking k next a q t ch ce (num (some_at o)) (num l)
    → Asking k (next + 1) a q t ch ce (num (some_at (if b then v else o))) (num (if b then true else l))
given_number k next q t ch ce a o v l true e s h = let same : k ≡ next = grind (arith, nat_tests) in let z = h.fresh (omega arith) in let one = ap num s in omega arith
given_number k next q t ch ce a o v l false e s h = grind (arith, nat_tests, h, e)

held_conn : (o : Option Hold) → held o ≡ true → some_at (conn_of o) ≡ true
held_conn None e = e
held_conn (Some y) e = e

both : (a b c d : Bool) → (a && b && (c && d)) ≡ true → d ≡ true
both true true true d e = e
both true true false d e = absurd (cc)
both true false c d e = absurd (cc)
both false b c d e = absurd (cc)

pub asking_binds : (b g : Bool) (k q t ch : ℕ) (x : Client) → (g ≡ true → held x.hold ≡ true) → AskingOf k x q t ch → AskingOf k (if b then bind_row g x else x) q t ch
asking_binds false g k q t ch x e h = h
asking_binds true false k q t ch x e h = h
asking_binds true true k q t ch x e h = given_number k x.next q t ch _ _ (x.given k) (conn_of x.hold) (x.live k) (k == x.next) refl (held_conn x.hold (e refl)) h

-- it is live no longer
less : (k next q t ch ce a s : ℕ) (l b : Bool) → Asking k next a q t ch ce s (num l) → Asking k next a q t ch ce s (num (if b then false else l))
less k next q t ch ce a s l true h = grind (arith, h)
less k next q t ch ce a s l false h = h

pub asking_ends : (b g : Bool) (j k q t ch : ℕ) (x : Client) → AskingOf k x q t ch → AskingOf k (if b then end_row g j x else x) q t ch
asking_ends false g j k q t ch x h = h
asking_ends true false j k q t ch x h = h
asking_ends true true j k q t ch x h = less k x.next q t ch _ _ _ (x.live k) (k == j) h

less_if : (k q t ch : ℕ) (x : Client) (y : Bool) → AskingOf k x q t ch → Asking k x.next (num (x.asked k)) q t ch (num (x.chosen k)) (num (some_at (x.given k))) (num ((if y then (λ (i : ℕ). if i == x.current then false else x.live i) else x.live) k))
less_if k q t ch x true h = less k x.next q t ch _ _ _ (x.live k) (k == x.current) h
less_if k q t ch x false h = h

pub asking_goes : (b : Bool) (k q t ch : ℕ) (x : Client) → AskingOf k x q t ch → AskingOf k (if b then go_row x else x) q t ch
asking_goes false k q t ch x h = h
asking_goes true k q t ch x h = less_if k q t ch x x.busy h

pub asking_leaves : (b g : Bool) (k q t ch : ℕ) (x : Client) → AskingOf k x q t ch → AskingOf k (if b then leave_row g x else x) q t ch
asking_leaves false g k q t ch x h = h
asking_leaves true false k q t ch x h = h
asking_leaves true true k q t ch x h = h

pub asking_closes : (bind stay : Bool) (j u k q t ch : ℕ) (x : Client) → AskingOf k x q t ch → AskingOf k (close_row bind stay j u x) q t ch
asking_closes bind stay j u k q t ch x h = less k x.next q t ch _ _ _ (x.live k) (k == j) h

pub asking_answer : (b : Bool) (bind : ℕ → Bool) (u k q t ch : ℕ) (ls : List ToClient) (x : Client) → AskingOf k x q t ch → AskingOf k (if b then take_answer bind u ls x else x) q t ch
asking_answer false bind u k q t ch ls x h = h
asking_answer true bind u k q t ch [] x h = h
asking_answer true bind u k q t ch (Reply j true stay ∷ ls) x h = asking_closes (bind j) stay j u k q t ch x h
asking_answer true bind u k q t ch (Reply j false stay ∷ ls) x h = h
asking_answer true bind u k q t ch (Failed j ∷ ls) x h = asking_closes (bind j) false j u k q t ch x h

-- a choice is taken
chose_go : (k next q t ch : ℕ) (o : Option ℕ) (v : ℕ) (a ce l b : Bool) → (b ≡ true → l ≡ true) → Asking k next (num a) q t (num b + ch) (num ce) (num (some_at o)) (num l)
    → Asking k next (num a) q t ch (num (if b then true else ce)) (num (some_at (if b then Some v else o))) (num l)
chose_go k next q t ch o v true false true true e h = grind (arith, h)
chose_go k next q t ch o v a ce false true e h = absurd (let bad : false ≡ true = e refl in cc)
chose_go k next q t ch o v true true l true e h = absurd (omega arith)
chose_go k next q t ch o v false ce l true e h = absurd (omega arith)
chose_go k next q t ch o v a ce l false e h = grind (arith, h)

chose_none : (k next q t ch s : ℕ) (a ce l b : Bool) → Asking k next (num a) q t (num b + ch) (num ce) s (num l)
    → Asking k next (num a) q t ch (num (if b then true else ce)) s (num (if b then false else l))
chose_none k next q t ch s true false true true h = grind (arith, h)
chose_none k next q t ch s true false false true h = grind (arith, h)
chose_none k next q t ch s true true l true h = absurd (omega arith)
chose_none k next q t ch s false ce l true h = absurd (omega arith)
chose_none k next q t ch s a ce l false h = grind (arith, h)

chose_late : (k next q t ch s : ℕ) (a ce l b : Bool) → (b ≡ true → l ≡ false) → Asking k next (num a) q t (num b + ch) (num ce) s (num l)
    → Asking k next (num a) q t ch (num (if b then true else ce)) s (num l)
chose_late k next q t ch s true false false true e h = grind (arith, h)
chose_late k next q t ch s a ce true true e h = absurd (let bad : true ≡ false = e refl in cc)
chose_late k next q t ch s true true l true e h = absurd (omega arith)
chose_late k next q t ch s false ce l true e h = absurd (omega arith)
chose_late k next q t ch s a ce l false e h = grind (arith, h)

at_row : (f : ℕ → Bool) (j k : ℕ) (b : Bool) → f j ≡ b → (k == j) ≡ true → f k ≡ b
at_row f j k b h e = ap f (same_number k j e) ∙ h

asking_choice_row : (l bind : Bool) (j : ℕ) (a : Option ℕ) (k q t ch : ℕ) (x : Client) → x.live j ≡ l → AskingOf k x q t (num (k == j) + ch) → AskingOf k (choice_row l bind j a x) q t ch
asking_choice_row false bind j a k q t ch x e h = chose_late k x.next q t ch _ (x.asked k) (x.chosen k) (x.live k) (k == j) (at_row x.live j k false e) h
asking_choice_row true bind j None k q t ch x e h = chose_none k x.next q t ch _ (x.asked k) (x.chosen k) (x.live k) (k == j) h
asking_choice_row true bind j (Some v) k q t ch x e h = chose_go k x.next q t ch (x.given k) v (x.asked k) (x.chosen k) (x.live k) (k == j) (at_row x.live j k true e) h

asks_return : (l : Bool) (j k : ℕ) (a : Option ℕ) → asks k (return_to l j a) ≡ 0
asks_return true j k a = refl
asks_return false j k None = refl
asks_return false j k (Some u) = refl

pub asking_choice : (b : Bool) (bind : ℕ → Bool) (k t : ℕ) (ls : List ToChooser) (q : List ToDesk) (x : Client) → AskingOf k x (asks k q) t (choices k ls)
    → AskingOf k (if b then take_choice bind ls x else x) (asks k (if b then q ++ return_letter ls x else q)) t (choices k (if b then tail ls else ls))
asking_choice false bind k t ls q x h = h
asking_choice true bind k t [] q x h = simp (asks_append, add-zero) h
asking_choice true bind k t (Choice j a ∷ ls) q x h = simp (asks_append, asks_return, add-zero) (asking_choice_row (x.live j) (bind j) j a k (asks k q) t (choices k ls) x refl h)

-- the desk takes
decided : (k next q ch ce a s l : ℕ) (t b : Bool) → a ≤ 1 → Asking k next a (num b + q) (num t) ch ce s l → Asking k next a q (num (if b then true else t)) (ch + num b) ce s l
decided k next q ch ce a s l true true le h = absurd (omega arith)
decided k next q ch ce a s l false true le h = grind (arith, h)
decided k next q ch ce a s l t false le h = grind (arith, h)

took_choose : (bind : Bool) (a j c k : ℕ) (v : Option ℕ) (d : Desk) → (choose bind a j v d).took c k ≡ (if (c == a) && (k == j) then true else d.took c k)
took_choose bind a j c k None d = refl
took_choose bind a j c k (Some u) d = refl

decides_own : (kinds : Kinds) (a c k : ℕ) (ans : Option ℕ) (qd : List ToDesk) (qc : List ToChooser) (x : Client) (d : Desk) → (c == a) ≡ true
    → AskingOf k x (asks k qd) (num (d.took c k)) (choices k qc)
    → AskingOf k x (asks k (tail qd)) (num ((decide kinds a qd ans d).took c k)) (choices k (qc ++ choice_letter kinds c qd ans d))
decides_own kinds a c k ans [] qc x d e h = simp (choices_append, add-zero) h
decides_own kinds a c k ans (Ask j ∷ ls) qc x d e h =
    rw (took_choose (kinds.bind_op a j) a j c k (chosen_for kinds d a j ans) d, e) (simp (choices_append, add-zero) (decided k x.next (asks k ls) (choices k qc) _ (num (x.asked k)) _ _ (d.took c k) (k == j) (num_le (x.asked k)) h))
decides_own kinds a c k ans (Returned j u ∷ ls) qc x d e h = simp (choices_append, add-zero) h

pub asking_decides : (b : Bool) (kinds : Kinds) (a c k : ℕ) (ans : Option ℕ) (ls qd : List ToDesk) (qc : List ToChooser) (x : Client) (d : Desk) → (c == a) ≡ b → (b ≡ true → ls ≡ qd)
    → AskingOf k x (asks k qd) (num (d.took c k)) (choices k qc)
    → AskingOf k x (asks k (if b then tail qd else qd)) (num ((decide kinds a ls ans d).took c k)) (choices k (if b then qc ++ choice_letter kinds c qd ans d else qc))
asking_decides true kinds a c k ans ls qd qc x d e s h = rw (s refl) (decides_own kinds a c k ans qd qc x d e h)
asking_decides false kinds a c k ans [] qd qc x d e s h = h
asking_decides false kinds a c k ans (Ask j ∷ ls) qd qc x d e s h = rw (took_choose (kinds.bind_op a j) a j c k (chosen_for kinds d a j ans) d, e) h
asking_decides false kinds a c k ans (Returned j u ∷ ls) qd qc x d e s h = h

took_hear : (kinds : Kinds) (v c k : ℕ) (ls : List Report) (d : Desk) → (hear kinds v ls d).took c k ≡ d.took c k
took_hear kinds v c k [] d = refl
took_hear kinds v c k (Ended a j ∷ ls) d = refl
took_hear kinds v c k (IsUp ∷ ls) d = refl
took_hear kinds v c k (IsRetired ∷ ls) d = refl
took_hear kinds v c k (IsDown ∷ ls) d = refl

pub asking_refuses : (b : Bool) (k q t ch : ℕ) (x : Client) → AskingOf k x q t ch → AskingOf k (if b then refuse_row x else x) q t ch
asking_refuses false k q t ch x h = h
asking_refuses true k q t ch x h = grind (arith, h)

-- each move
pub asking_move : (kinds : Kinds) (w : World) (m : Move) (c k : ℕ) → AskingAt w c k → AskingAt (move kinds w m) c k
asking_move kinds w (Asks a) c k h = asking_asks (c == a) (may_ask (kinds.bind_op c (w.clients c).next) (w.clients c)) (kinds.bind_op c (w.clients c).next) k _ _ (w.clients c) (w.to_desk c) h
asking_move kinds w (Refuses a) c k h = asking_refuses (c == a) k _ _ _ (w.clients c) h
asking_move kinds w (Binds a) c k h = asking_binds (c == a) (may_bind (kinds.bind_op c (w.clients c).next) (w.clients c)) k _ _ _ (w.clients c) (both (not (w.clients c).gone) (not (w.clients c).busy) (kinds.bind_op c (w.clients c).next) (held (w.clients c).hold)) h
asking_move kinds w (Ends a j) c k h = asking_ends (c == a) (may_end (kinds.bind_op c j) j (w.clients c)) j k _ _ _ (w.clients c) h
asking_move kinds w (Goes a) c k h = asking_goes (c == a) k _ _ _ (w.clients c) h
asking_move kinds w (Leaves a) c k h = asking_leaves (c == a) (may_leave (w.clients c)) k _ _ _ (w.clients c) h
asking_move kinds w (Signals a j v) c k h = stays_signaled (λ y. AskingOf k y (asks k (w.to_desk c)) (num (w.desk.took c k)) (choices k (w.choices c))) (c == a) (may_signal (kinds.bind_conn v) j v (w.clients c)) v (w.clients c) h
asking_move kinds w (TakesChoice a) c k h = asking_choice (c == a) (kinds.bind_op c) k _ (w.choices c) (w.to_desk c) (w.clients c) h
asking_move kinds w (TakesAnswer a v) c k h = asking_answer (c == a) (kinds.bind_op c) v k _ _ _ (w.to_client c v) (w.clients c) h
asking_move kinds w (TakesOrder v a) c k h = h
asking_move kinds w (Answers v a j) c k h = h
asking_move kinds w (Finishes v a j failed stay) c k h = h
asking_move kinds w (ComesUp v) c k h = h
asking_move kinds w (Retires v) c k h = h
asking_move kinds w (Breaks v) c k h = h
asking_move kinds w (Decides a ans) c k h = asking_decides (c == a) kinds a c k ans (w.to_desk a) (w.to_desk c) (w.choices c) (w.clients c) w.desk refl (λ e. ap w.to_desk (sym (same_number c a e))) h
asking_move kinds w (Hears v) c k h = rw (took_hear kinds v c k (w.reports v) w.desk) h

pub asking_empty : (c k : ℕ) → AskingAt empty c k
asking_empty c k = record { one = refl; told = refl; fresh = λ _. refl; late = omega arith; goes = omega arith; alive = omega arith }
