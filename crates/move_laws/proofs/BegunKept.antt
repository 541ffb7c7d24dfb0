-- What was chosen, or is given an operation, has come up, as the desk heard.
use Rattle.std.proofs.Common.{◌≡◌, ℕ, zero, suc, ◌+◌, ◌≤◌, Bool, true, false, ◌==◌, ◌&&◌, not, if◌then◌else◌, List, [], ◌∷◌, ◌++◌, Option, Some, None, arith, refl, ap, ◌∙◌, subst}
use Rattle.std.proofs.lemmas.Bool.{and_parts}
use Rattle.move_laws.specs.World.{Hold, Kinds, World, Client, Desk, ToDesk, Ask, Returned, ToChooser, Choice, ToClient, Reply, Failed, Report, Ended, IsUp, IsRetired, IsDown, Move, Asks, Refuses, Binds, Ends, Goes, Leaves, Signals, TakesChoice, TakesAnswer, TakesOrder, Answers, Finishes, ComesUp, Retires, Breaks, Decides, Hears, at, conn_of, holder_of, holds, tail}
use Rattle.move_laws.specs.Clients.{refuse_row, may_ask, ask_row, may_bind, bind_row, may_end, end_row, go_row, may_leave, leave_row, choice_row, take_choice, take_answer, may_signal}
use Rattle.move_laws.specs.Desks.{decide, choice_letter, chosen_for, choose, hear, may_choose}
use Rattle.move_laws.specs.Moves.{move, empty}
use Rattle.move_laws.specs.Counts.{num, gos}
use Rattle.move_laws.specs.Agree.{FittingAt}
use Rattle.move_laws.specs.AgreePauses.{Begun, BegunAt}
use Rattle.move_laws.proofs.Appends.{same_number, same_self, gos_append}
use Rattle.move_laws.proofs.Signaled.{stays_signaled}

-- a client's move that gives no connection
same_given : (k u : ℕ) (up : Bool) (x y : Client) (q : List ToChooser) → y.given ≡ x.given → Begun k u up x q → Begun k u up y q
same_given k u up x y q e h l = h (subst (λ (g : ℕ → Option ℕ). 1 ≤ gos k u q + num (at (g k) u)) e l)

given_asks : (b g bind : Bool) (x : Client) → (if b then ask_row g bind x else x).given ≡ x.given
given_asks false g bind x = refl
given_asks true false bind x = refl
given_asks true true bind x = refl

given_refuses : (b : Bool) (x : Client) → (if b then refuse_row x else x).given ≡ x.given
given_refuses false x = refl
given_refuses true x = refl

given_ends : (b g : Bool) (j : ℕ) (x : Client) → (if b then end_row g j x else x).given ≡ x.given
given_ends false g j x = refl
given_ends true false j x = refl
given_ends true true j x = refl

given_goes : (b : Bool) (x : Client) → (if b then go_row x else x).given ≡ x.given
given_goes false x = refl
given_goes true x = refl

given_leaves : (b g : Bool) (x : Client) → (if b then leave_row g x else x).given ≡ x.given
given_leaves false g x = refl
given_leaves true false x = refl
given_leaves true true x = refl

given_answer : (b : Bool) (bind : ℕ → Bool) (v : ℕ) (ls : List ToClient) (x : Client) → (if b then take_answer bind v ls x else x).given ≡ x.given
given_answer false bind v ls x = refl
given_answer true bind v [] x = refl
given_answer true bind v (Reply j true stay ∷ ls) x = refl
given_answer true bind v (Reply j false stay ∷ ls) x = refl
given_answer true bind v (Failed j ∷ ls) x = refl

-- a pinned Bind goes where its holder went
held_there : (o : Option Hold) (u : ℕ) → at (conn_of o) u ≡ true → holds o u (holder_of o) ≡ true
held_there None u e = absurd (cc)
held_there (Some y) u e = rw (e, same_self y.holder) refl

begun_binds : (b g : Bool) (k u : ℕ) (up : Bool) (x : Client) (q : List ToChooser) → num (holds x.hold u (holder_of x.hold)) ≤ num (at (x.given (holder_of x.hold)) u) → ((i : ℕ) → Begun i u up x q) → Begun k u up (if b then bind_row g x else x) q
begun_binds false g k u up x q own h = h k
begun_binds true false k u up x q own h = h k
begun_binds true true k u up x q own h = new (k == x.next) (at (conn_of x.hold) u) refl
  where
    new : (t p : Bool) → at (conn_of x.hold) u ≡ p → 1 ≤ gos k u q + num (at (if t then conn_of x.hold else x.given k) u) → up ≡ true
    new true true e l = let one = ap num (held_there x.hold u e) in h (holder_of x.hold) (omega arith)
    new true false e l = let none = ap num e in h k (omega arith)
    new false p e l = h k l

begun_choice_row : (lv bind : Bool) (j : ℕ) (a : Option ℕ) (k u : ℕ) (up : Bool) (x : Client) (q : List ToChooser) → Begun k u up x (Choice j a ∷ q) → Begun k u up (choice_row lv bind j a x) q
begun_choice_row false bind j a k u up x q h = λ l. h (omega arith)
begun_choice_row true bind j None k u up x q h = λ l. h (omega arith)
begun_choice_row true bind j (Some v) k u up x q h = new (k == j) refl
  where
    new : (t : Bool) → (k == j) ≡ t → 1 ≤ gos k u q + num (at (if t then Some v else x.given k) u) → up ≡ true
    new true e l = h (rw e (omega arith))
    new false e l = h (omega arith)

begun_choice : (b : Bool) (bind : ℕ → Bool) (k u : ℕ) (up : Bool) (ls : List ToChooser) (x : Client) → Begun k u up x ls → Begun k u up (if b then take_choice bind ls x else x) (if b then tail ls else ls)
begun_choice false bind k u up ls x h = h
begun_choice true bind k u up [] x h = h
begun_choice true bind k u up (Choice j a ∷ ls) x h = begun_choice_row (x.live j) (bind j) j a k u up x ls h

-- the desk
pub up_decides : (kinds : Kinds) (a : ℕ) (ls : List ToDesk) (ans : Option ℕ) (d : Desk) → (decide kinds a ls ans d).up ≡ d.up
up_decides kinds a [] ans d = refl
up_decides kinds a (Ask j ∷ ls) ans d = one (chosen_for kinds d a j ans)
  where
    one : (v : Option ℕ) → (choose (kinds.bind_op a j) a j v d).up ≡ d.up
    one None = refl
    one (Some v) = refl
up_decides kinds a (Returned j v ∷ ls) ans d = refl

chosen_up : (kinds : Kinds) (d : Desk) (c j u : ℕ) (ans : Option ℕ) → at (chosen_for kinds d c j ans) u ≡ true → d.up u ≡ true
chosen_up kinds d c j u None e = absurd (cc)
chosen_up kinds d c j u (Some v) e = go (may_choose kinds d c j v) refl e
  where
    go : (t : Bool) → may_choose kinds d c j v ≡ t → at (if t then Some v else None) u ≡ true → d.up u ≡ true
    go true m e = let p = and_parts (d.up v && not (d.retired v) && not (d.down v)) _ m in let q = and_parts (d.up v && not (d.retired v)) (not (d.down v)) p.0 in let r = and_parts (d.up v) (not (d.retired v)) q.0 in ap d.up (same_number u v e) ∙ r.0
    go false m e = absurd (cc)

begun_letter : (kinds : Kinds) (c k u : ℕ) (ans : Option ℕ) (ls : List ToDesk) (d : Desk) → 1 ≤ gos k u (choice_letter kinds c ls ans d) → d.up u ≡ true
begun_letter kinds c k u ans [] d l = absurd (omega arith)
begun_letter kinds c k u ans (Ask j ∷ ls) d l = chosen_up kinds d c j u ans (last_one (k == j) (at (chosen_for kinds d c j ans) u) (omega arith))
  where
    last_one : (a b : Bool) → 1 ≤ num (a && b) → b ≡ true
    last_one true true l = refl
    last_one true false l = absurd (omega arith)
    last_one false b l = absurd (omega arith)
begun_letter kinds c k u ans (Returned j v ∷ ls) d l = absurd (omega arith)

begun_more : (b : Bool) (k u : ℕ) (up : Bool) (x : Client) (q ls : List ToChooser) → (1 ≤ gos k u ls → up ≡ true) → Begun k u up x q → Begun k u up x (if b then q ++ ls else q)
begun_more false k u up x q ls f h = h
begun_more true k u up x q ls f h = λ l. either (gos k u ls) refl l
  where
    either : (n : ℕ) → gos k u ls ≡ n → 1 ≤ gos k u (q ++ ls) + num (at (x.given k) u) → up ≡ true
    either zero e l = let z = gos_append k u q ls in h (omega arith)
    either (suc n) e l = f (omega arith)

pub up_hears : (kinds : Kinds) (v u : ℕ) (ls : List Report) (d : Desk) → d.up u ≡ true → (hear kinds v ls d).up u ≡ true
up_hears kinds v u [] d e = e
up_hears kinds v u (Ended a j ∷ ls) d e = e
up_hears kinds v u (IsUp ∷ ls) d e = one (u == v)
  where
    one : (t : Bool) → (if t then true else d.up u) ≡ true
    one true = refl
    one false = e
up_hears kinds v u (IsRetired ∷ ls) d e = e
up_hears kinds v u (IsDown ∷ ls) d e = e

pub begun_move : (kinds : Kinds) (w : World) (m : Move) (c k u : ℕ) → ((h : ℕ) → FittingAt kinds w c h u) → ((i : ℕ) → BegunAt w c i u) → BegunAt (move kinds w m) c k u
begun_move kinds w (Asks a) c k u f h = same_given k u (w.desk.up u) (w.clients c) ((move kinds w (Asks a)).clients c) (w.choices c) (given_asks (c == a) (may_ask (kinds.bind_op c (w.clients c).next) (w.clients c)) (kinds.bind_op c (w.clients c).next) (w.clients c)) (h k)
begun_move kinds w (Refuses a) c k u f h = same_given k u (w.desk.up u) (w.clients c) ((move kinds w (Refuses a)).clients c) (w.choices c) (given_refuses (c == a) (w.clients c)) (h k)
begun_move kinds w (Binds a) c k u f h = begun_binds (c == a) (may_bind (kinds.bind_op c (w.clients c).next) (w.clients c)) k u (w.desk.up u) (w.clients c) (w.choices c) (f (holder_of (w.clients c).hold)).own h
begun_move kinds w (Ends a j) c k u f h = same_given k u (w.desk.up u) (w.clients c) ((move kinds w (Ends a j)).clients c) (w.choices c) (given_ends (c == a) (may_end (kinds.bind_op c j) j (w.clients c)) j (w.clients c)) (h k)
begun_move kinds w (Goes a) c k u f h = same_given k u (w.desk.up u) (w.clients c) ((move kinds w (Goes a)).clients c) (w.choices c) (given_goes (c == a) (w.clients c)) (h k)
begun_move kinds w (Leaves a) c k u f h = same_given k u (w.desk.up u) (w.clients c) ((move kinds w (Leaves a)).clients c) (w.choices c) (given_leaves (c == a) (may_leave (w.clients c)) (w.clients c)) (h k)
begun_move kinds w (Signals a j v) c k u f h = stays_signaled (λ y. Begun k u (w.desk.up u) y (w.choices c)) (c == a) (may_signal (kinds.bind_conn v) j v (w.clients c)) v (w.clients c) (h k)
begun_move kinds w (TakesChoice a) c k u f h = begun_choice (c == a) (kinds.bind_op c) k u (w.desk.up u) (w.choices c) (w.clients c) (h k)
begun_move kinds w (TakesAnswer a v) c k u f h = same_given k u (w.desk.up u) (w.clients c) ((move kinds w (TakesAnswer a v)).clients c) (w.choices c) (given_answer (c == a) (kinds.bind_op c) v (w.to_client c v) (w.clients c)) (h k)
begun_move kinds w (TakesOrder v a) c k u f h = h k
begun_move kinds w (Answers v a j) c k u f h = h k
begun_move kinds w (Finishes v a j failed stay) c k u f h = h k
begun_move kinds w (ComesUp v) c k u f h = h k
begun_move kinds w (Retires v) c k u f h = h k
begun_move kinds w (Breaks v) c k u f h = h k
begun_move kinds w (Decides a ans) c k u f h = λ l. ap (λ (p : ℕ → Bool). p u) (up_decides kinds a (w.to_desk a) ans w.desk) ∙ begun_more (c == a) k u (w.desk.up u) (w.clients c) (w.choices c) (choice_letter kinds c (w.to_desk c) ans w.desk) (begun_letter kinds c k u ans (w.to_desk c) w.desk) (h k) l
begun_move kinds w (Hears v) c k u f h = λ l. up_hears kinds v u (w.reports v) w.desk (h k l)

pub begun_empty : (c k u : ℕ) → BegunAt empty c k u
begun_empty c k u = λ l. absurd (omega arith)
