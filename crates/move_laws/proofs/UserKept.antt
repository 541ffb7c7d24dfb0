-- Each move keeps that the desk knows who is pending on a bind connection.
use Rattle.std.proofs.Common.{◌≡◌, ℕ, ◌≤◌, Bool, true, false, ◌==◌, ◌&&◌, not, if◌then◌else◌, List, [], ◌∷◌, Option, Some, None, arith, refl, sym, subst}
use Rattle.move_laws.specs.World.{Op, Kinds, World, Desk, ToDesk, Ask, Returned, Report, Ended, IsUp, IsRetired, IsDown, Move, Asks, Refuses, Binds, Ends, Goes, Leaves, Signals, TakesChoice, TakesAnswer, TakesOrder, Answers, Finishes, ComesUp, Retires, Breaks, Decides, Hears, is, vacant}
use Rattle.move_laws.specs.Desks.{may_choose, chosen_for, choose, forget, decide, hear}
use Rattle.move_laws.specs.Moves.{move}
use Rattle.move_laws.specs.Counts.{num}
use Rattle.move_laws.specs.Fit.{FitAsk, FitReport}
use Rattle.move_laws.proofs.Appends.{same_number, same_self}
use Rattle.move_laws.proofs.BindCounts.{is_one}

abbrev pub UserOf : ℕ → ℕ → ℕ → Desk → Type 0
UserOf c k u d = num (d.pending c k u) ≤ num (is (d.user u) c k)

is_vacant : (o : Option Op) (c k : ℕ) → vacant o ≡ true → num (is o c k) ≡ 0
is_vacant None c k e = refl
is_vacant (Some o) c k e = absurd (cc)

chosen_user : (a b e p : Bool) (o : Option Op) (c k ca kj : ℕ) → (c == ca) ≡ a → (k == kj) ≡ b → (e ≡ true → vacant o ≡ true) → num p ≤ num (is o c k)
    → num (if a && (b && e) then true else p) ≤ num (is (if e then Some (record { client = ca; k = kj }) else o) c k)
chosen_user true true true p o c k ca kj s t z l = rw (s, t) (omega arith)
chosen_user true false true p o c k ca kj s t z l = let n = is_vacant o c k (z refl) in omega arith
chosen_user false b true p o c k ca kj s t z l = let n = is_vacant o c k (z refl) in omega arith
chosen_user true true false p o c k ca kj s t z l = l
chosen_user true false false p o c k ca kj s t z l = l
chosen_user false b false p o c k ca kj s t z l = l

may_user : (p q r bc bo y : Bool) → (p && q && r && (if bc then bo && y else not bo)) ≡ true → bc ≡ true → (bo ≡ true) × (y ≡ true)
may_user true true true true true true e t = (refl, refl)
may_user true true true true true false e t = absurd (cc)
may_user true true true true false y e t = absurd (cc)
may_user true true true false bo y e t = absurd (cc)
may_user true true false bc bo y e t = absurd (cc)
may_user true false r bc bo y e t = absurd (cc)
may_user false q r bc bo y e t = absurd (cc)

apart : (a b : Bool) → (a && (b && false)) ≡ false
apart true true = refl
apart true false = refl
apart false b = refl

chosen_elsewhere : (bind : Bool) (a c j k u w : ℕ) (d : Desk) → (u == w) ≡ false → UserOf c k u d → UserOf c k u (choose bind a j (Some w) d)
chosen_elsewhere true a c j k u w d s l = rw (s, apart (c == a) (k == j)) l
chosen_elsewhere false a c j k u w d s l = rw (s, apart (c == a) (k == j)) l

user_chooses : (kinds : Kinds) (a c j k u w : ℕ) (m e : Bool) (d : Desk) → (u == w) ≡ e → kinds.bind_conn u ≡ true → may_choose kinds d a j w ≡ m → UserOf c k u d → UserOf c k u (choose (kinds.bind_op a j) a j (if m then Some w else None) d)
user_chooses kinds a c j k u w false e d s t z l = l
user_chooses kinds a c j k u w true false d s t z l = chosen_elsewhere (kinds.bind_op a j) a c j k u w d s l
user_chooses kinds a c j k u w true true d s t z l =
    let same = same_number u w s in
    let p = may_user (d.up w) (not (d.retired w)) (not (d.down w)) (kinds.bind_conn w) (kinds.bind_op a j) (vacant (d.user w)) z (subst (λ (i : ℕ). kinds.bind_conn i ≡ true) same t) in
    rw (p.0, s) (chosen_user (c == a) (k == j) true (d.pending c k u) (d.user u) c k a j refl refl (λ e. subst (λ (i : ℕ). vacant (d.user i) ≡ true) (sym same) p.1) l)

fewer : (b p n : Bool) → num p ≤ num n → num (if b then false else p) ≤ num n
fewer true p n l = omega arith
fewer false p n l = l

user_true : (p n : Bool) → num p ≤ num n → p ≡ true → n ≡ true
user_true true true l e = refl
user_true true false l e = absurd (omega arith)
user_true false n l e = absurd (cc)

nobody_else : (a b p : Bool) (o : Option Op) (c k ca kj : ℕ) → (c == ca) ≡ a → (k == kj) ≡ b → is o ca kj ≡ true → num p ≤ num (is o c k) → num (if a && (b && true) then false else p) ≤ 0
nobody_else true true p o c k ca kj s t e l = omega arith
nobody_else a b false o c k ca kj s t e l = elim (a && (b && true)) as (λ (z : Bool). num (if z then false else false) ≤ 0) [ true ↦ omega arith | false ↦ omega arith ]
nobody_else false b true o c k ca kj s t e l = let i = is_one o ca c kj k e (user_true true (is o c k) l refl) in absurd (let z = rw (sym i.0, same_self ca) at s in cc)
nobody_else true false true o c k ca kj s t e l = let i = is_one o ca c kj k e (user_true true (is o c k) l refl) in absurd (let z = rw (sym i.1, same_self kj) at t in cc)

forgets : (bind e : Bool) (a c j k u w : ℕ) (d : Desk) → (u == w) ≡ e → d.pending a j w ≡ true → ((c k : ℕ) → UserOf c k u d) → UserOf c k u (forget bind a j w d)
forgets true false a c j k u w d s t l = rw (s, apart (c == a) (k == j)) (l c k)
forgets false false a c j k u w d s t l = rw (s, apart (c == a) (k == j)) (l c k)
forgets false true a c j k u w d s t l = fewer _ (d.pending c k u) (is (d.user u) c k) (l c k)
forgets true true a c j k u w d s t l =
    let same = same_number u w s in
    rw s (nobody_else (c == a) (k == j) (d.pending c k u) (d.user u) c k a j refl refl (user_true (d.pending a j u) (is (d.user u) a j) (l a j) (subst (λ (i : ℕ). d.pending a j i ≡ true) (sym same) t)) (l c k))

took_more : (kinds : Kinds) (a c j k u : ℕ) (o : Option ℕ) (d : Desk) → kinds.bind_conn u ≡ true → UserOf c k u d → UserOf c k u (choose (kinds.bind_op a j) a j (chosen_for kinds d a j o) d)
took_more kinds a c j k u None d t l = l
took_more kinds a c j k u (Some w) d t l = user_chooses kinds a c j k u w (may_choose kinds d a j w) (u == w) d refl t refl l

user_decides : (kinds : Kinds) (a c k u : ℕ) (ans : Option ℕ) (ls : List ToDesk) (d : Desk) → kinds.bind_conn u ≡ true → FitAsk a d ls → ((c k : ℕ) → UserOf c k u d) → UserOf c k u (decide kinds a ls ans d)
user_decides kinds a c k u ans [] d t f l = l c k
user_decides kinds a c k u ans (Ask j ∷ ls) d t f l = took_more kinds a c j k u ans d t (l c k)
user_decides kinds a c k u ans (Returned j w ∷ ls) d t f l = forgets (kinds.bind_op a j) (u == w) a c j k u w d refl f l

user_hears : (kinds : Kinds) (v c k u : ℕ) (ls : List Report) (d : Desk) → FitReport v d ls → ((c k : ℕ) → UserOf c k u d) → UserOf c k u (hear kinds v ls d)
user_hears kinds v c k u [] d f l = l c k
user_hears kinds v c k u (Ended a j ∷ ls) d f l = forgets (kinds.bind_op a j) (u == v) a c j k u v d refl f l
user_hears kinds v c k u (IsUp ∷ ls) d f l = l c k
user_hears kinds v c k u (IsRetired ∷ ls) d f l = l c k
user_hears kinds v c k u (IsDown ∷ ls) d f l = l c k

-- each move, for a bind connection
pub user_move : (kinds : Kinds) (w : World) (m : Move) (c k u : ℕ) → kinds.bind_conn u ≡ true → ((a : ℕ) → FitAsk a w.desk (w.to_desk a)) → ((v : ℕ) → FitReport v w.desk (w.reports v)) → ((c k : ℕ) → UserOf c k u w.desk) → UserOf c k u (move kinds w m).desk
user_move kinds w (Asks a) c k u t f g l = l c k
user_move kinds w (Refuses a) c k u t f g l = l c k
user_move kinds w (Binds a) c k u t f g l = l c k
user_move kinds w (Ends a j) c k u t f g l = l c k
user_move kinds w (Goes a) c k u t f g l = l c k
user_move kinds w (Leaves a) c k u t f g l = l c k
user_move kinds w (Signals a j v) c k u t f g l = l c k
user_move kinds w (TakesChoice a) c k u t f g l = l c k
user_move kinds w (TakesAnswer a v) c k u t f g l = l c k
user_move kinds w (TakesOrder v a) c k u t f g l = l c k
user_move kinds w (Answers v a j) c k u t f g l = l c k
user_move kinds w (Finishes v a j failed stay) c k u t f g l = l c k
user_move kinds w (ComesUp v) c k u t f g l = l c k
user_move kinds w (Retires v) c k u t f g l = l c k
user_move kinds w (Breaks v) c k u t f g l = l c k
user_move kinds w (Decides a ans) c k u t f g l = user_decides kinds a c k u ans (w.to_desk a) w.desk t (f a) l
user_move kinds w (Hears v) c k u t f g l = user_hears kinds v c k u (w.reports v) w.desk (g v) l
