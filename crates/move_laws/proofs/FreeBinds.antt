-- A Forward that comes first to a bind connection finds it free.
use Rattle.std.proofs.Common.{◌≡◌, ℕ, ◌+◌, ◌≤◌, Bool, true, false, ◌==◌, ◌&&◌, List, ◌∷◌, Option, Some, None, arith, refl, ap, ◌∙◌, sym, subst}
use Rattle.move_laws.specs.World.{Op, Kinds, Client, Conn, Desk, ToConn, Forward, ToClient, at, is, vacant}
use Rattle.move_laws.specs.Conns.{stopped}
use Rattle.move_laws.specs.Counts.{num, forwards, firsts, unders, sends, lasts, finals}
use Rattle.move_laws.specs.Agree.{RoutedOf}
use Rattle.move_laws.specs.AgreeBinds.{Lost, LastOf, client_is, StandsOf, HoldingOf}
use Rattle.move_laws.specs.Fit.{Held, Free}
use Rattle.move_laws.proofs.Appends.{num_le, num_true, same_number, same_self}
use Rattle.move_laws.proofs.BindCounts.{forwards_le, finals_le, firsts_le, unders_le, is_one}
use Rattle.move_laws.proofs.LastKept.{open_last}
use Rattle.move_laws.proofs.LostKept.{lost_not_held, lost_not_going}
use Rattle.move_laws.proofs.Fits.{num_false}

-- the first Forward that waits is of the last Bind
pub front_last : (k j h : ℕ) (q : List ToConn) → sends (Forward j h ∷ q) ≡ forwards k (Forward j h ∷ q) → k ≡ j
front_last k j h q e = same_number k j (num_true (k == j) (omega (arith, forwards_le k q, num_le (k == j))))

vacant_none : (o : Option Op) (a i : ℕ) → vacant o ≡ true → is o a i ≡ true → (a ≡ 0) × (a ≡ 1)
vacant_none None a i p q = absurd (cc)
vacant_none (Some o) a i p q = absurd (cc)

second : (a b : Bool) → (a && b) ≡ true → b ≡ true
second true b e = e
second false b e = absurd (cc)

mine_of : (holder user : Option Op) (c h a i f : ℕ) (st kept nob : Bool) → is holder c h ≡ kept → (st && vacant holder) ≡ nob → 1 ≤ num kept + f + num nob → (1 ≤ f → is user c h ≡ true) → (is holder a i ≡ true → is user a i ≡ true)
    → is holder a i ≡ true → (a ≡ c) × (i ≡ h)
mine_of holder user c h a i f st true nob p q l g k e = is_one holder a c i h e p
mine_of holder user c h a i f st false true p q l g k e = let n = vacant_none holder a i (second st (vacant holder) q) e in absurd (let bad : (0 ≡ 1) = sym n.0 ∙ n.1 in omega arith)
mine_of holder user c h a i f st false false p q l g k e = is_one user a c i h (k e) (g (omega arith))

-- what is pending is known to the desk
known : (p : Bool) (n : ℕ) (b : Bool) → num p ≤ num b → 1 ≤ n → num p ≡ n → b ≡ true
known p n true l o e = refl
known p n false l o e = absurd (omega arith)

-- who has a live Bind there has the holder
holder_at : (o : Option Op) (a : ℕ) → client_is o a ≡ true → (i : ℕ) × (is o a i ≡ true)
holder_at None a e = absurd (cc)
holder_at (Some o) a e = (o.k, rw (e, same_self o.k) refl)

-- the numbers behind it, where the first letter from client c is a Forward of j under h
pub record Front (kinds : Kinds) (c u j h : ℕ) (x : Client) (v : Conn) (d : Desk) (q : List ToConn) (r : List ToClient) : Type 0 where
  pub routed : (k : ℕ) → RoutedOf c k u x v (Forward j h ∷ q) r
  pub last : (k : ℕ) → at (x.given k) u ≡ true → LastOf k u x
  pub sent : x.current ≡ j
  pub lone : sends q ≡ 0
  pub stands : (a i : ℕ) → StandsOf a i v
  pub holding : HoldingOf c h u x v (Forward j h ∷ q) r
  pub first : 1 ≤ firsts h (Forward j h ∷ q) → is (d.user u) c h ≡ true
  pub held : (a i : ℕ) → is v.holder a i ≡ true → is (d.user u) a i ≡ true
  pub lost : Lost v

pub not_answered : (kinds : Kinds) (c u j h : ℕ) (x : Client) (v : Conn) (d : Desk) (q : List ToConn) (r : List ToClient) → Front kinds c u j h x v d q r → (v.taken c j ≡ false) × (finals x.current r ≡ 0)
not_answered kinds c u j h x v d q r f =
    let p = f.routed j in
    let one = ap num (same_self j) in
    let z : lasts j r ≡ 0 = omega (arith, num_le (at (x.given j) u)) in
    (num_false (v.taken c j) (omega (arith, num_le (at (x.given j) u))), rw f.sent (omega (arith, finals_le j r)))

pub mine : (kinds : Kinds) (c u j h : ℕ) (x : Client) (v : Conn) (d : Desk) (q : List ToConn) (r : List ToClient) → Front kinds c u j h x v d q r → (a i : ℕ) → is v.holder a i ≡ true → (a ≡ c) × (i ≡ h)
mine kinds c u j h x v d q r f a i e =
    let n = (not_answered kinds c u j h x v d q r f).1 in
    let one = ap num (same_self h) in
    let k = f.holding.kept (omega arith) in
    let w = lost_not_held v a i c h f.lost e in
    mine_of v.holder (d.user u) c h a i (firsts h (Forward j h ∷ q)) (stopped v) (is v.holder c h) (stopped v && vacant v.holder) refl refl (omega arith) f.first (f.held a i) e

none_live : (kinds : Kinds) (c u j h : ℕ) (x : Client) (v : Conn) (d : Desk) (q : List ToConn) (r : List ToClient) → Front kinds c u j h x v d q r → (i : ℕ) → v.rows c i ≡ true → v.taken c j ≡ true
none_live kinds c u j h x v d q r f i e =
    let p = f.routed i in
    let one = ap num e in
    let g : at (x.given i) u ≡ true = num_true (at (x.given i) u) (omega (arith, num_le (at (x.given i) u), num_le (v.taken c i))) in
    let same : x.current ≡ i = open_last i u x (f.last i g) g (num_false (x.closed i u) (omega (arith, num_le (v.taken c i)))) in
    let t : v.taken c i ≡ true = num_true (v.taken c i) (omega (arith, num_le (v.taken c i))) in
    subst (λ (n : ℕ). v.taken c n ≡ true) (sym same ∙ f.sent) t

idle_case : (kinds : Kinds) (c u j h : ℕ) (x : Client) (v : Conn) (d : Desk) (q : List ToConn) (r : List ToClient) → Front kinds c u j h x v d q r → (a i : ℕ) (b : Bool) → v.rows a i ≡ b → b ≡ false
idle_case kinds c u j h x v d q r f a i false e = refl
idle_case kinds c u j h x v d q r f a i true e =
    let s = f.stands a i in
    let one = ap num e in
    let o = holder_at v.holder a (num_true (client_is v.holder a) (omega (arith, num_le (client_is v.holder a)))) in
    let same : a ≡ c = (mine kinds c u j h x v d q r f a o.0 o.1).0 in
    let t = none_live kinds c u j h x v d q r f i (subst (λ (n : ℕ). v.rows n i ≡ true) same e) in
    let z = (not_answered kinds c u j h x v d q r f).0 in
    absurd (cc)

pub free : (kinds : Kinds) (c u j h : ℕ) (x : Client) (v : Conn) (d : Desk) (q : List ToConn) (r : List ToClient) → Front kinds c u j h x v d q r → Free v c h
free kinds c u j h x v d q r f = record { idle = λ a i. idle_case kinds c u j h x v d q r f a i (v.rows a i) refl; mine = mine kinds c u j h x v d q r f }

must_one : (a : Bool) (n : ℕ) → 1 ≤ n → (num a ≡ 0 → n ≡ 0) → num a ≡ 1
must_one true n l z = refl
must_one false n l z = let bad = z refl in absurd (omega arith)

pub both_same : (a : Bool) (h j : ℕ) → (h == j) ≡ a → num (a && (j == h)) ≡ num a
both_same true h j e = rw (same_number h j e, same_self j) refl
both_same false h j e = refl

-- the holder is on its way with this Forward, or stands there, or was freed
pub accounted : (kinds : Kinds) (c u j h : ℕ) (x : Client) (v : Conn) (d : Desk) (q : List ToConn) (r : List ToClient) → Front kinds c u j h x v d q r → num (h == j) + num (is v.holder c h) + num (v.freed c h) ≡ 1
accounted kinds c u j h x v d q r f =
    let p = f.holding in
    let one = ap num (same_self h) in
    let none = f.lone in
    let asked : num (x.asked h) ≡ 1 = must_one (x.asked h) _ (omega arith) (λ e. let z = p.pinned e in let t : unders h (Forward j h ∷ q) ≡ 0 = omega arith in t) in
    let given : num (at (x.given h) u) ≡ 1 = must_one (at (x.given h) u) (unders h (Forward j h ∷ q)) (omega arith) p.sound in
    let stood = p.stood asked in
    let routed = (f.routed h).sent in
    let few = forwards_le h q in
    omega arith

-- and where the connection hasn't stopped, it wasn't freed
pub accounted_there : (kinds : Kinds) (c u j h : ℕ) (x : Client) (v : Conn) (d : Desk) (q : List ToConn) (r : List ToClient) → stopped v ≡ false → Front kinds c u j h x v d q r → num (h == j) + num (is v.holder c h) ≡ 1
accounted_there kinds c u j h x v d q r s f =
    let all = accounted kinds c u j h x v d q r f in
    let n = (not_answered kinds c u j h x v d q r f).1 in
    let one = ap num (same_self h) in
    let none = f.lone in
    let k = f.holding.kept (omega arith) in
    let y = lost_not_going v c h f.lost s in
    let m = both_same (h == j) h j refl in
    let few = firsts_le h q in
    let few_under = unders_le h q in
    omega arith

-- where the connection has stopped, the holder of a Forward that comes first was freed exactly where the connection lost it
pub freed_lost : (kinds : Kinds) (c u j h : ℕ) (x : Client) (v : Conn) (d : Desk) (q : List ToConn) (r : List ToClient) → Front kinds c u j h x v d q r → num (v.freed c h) ≡ num (is v.lost c h)
freed_lost kinds c u j h x v d q r f =
    let all = accounted kinds c u j h x v d q r f in
    let n = (not_answered kinds c u j h x v d q r f).1 in
    let one = ap num (same_self h) in
    let none = f.lone in
    let k = f.holding.kept (omega arith) in
    let m = both_same (h == j) h j refl in
    let few = firsts_le h q in
    let few_under = unders_le h q in
    let sound = f.lost.freed c h in
    omega (arith, num_le (v.freed c h), num_le (is v.lost c h))

-- the holder of a Forward that comes first is its own operation, or stands there, or stood there when the connection went down
pub held : (kinds : Kinds) (c u j h : ℕ) (x : Client) (v : Conn) (d : Desk) (q : List ToConn) (r : List ToClient) → Front kinds c u j h x v d q r → Held v c j h
held kinds c u j h x v d q r f = let all = accounted kinds c u j h x v d q r f in let lost = freed_lost kinds c u j h x v d q r f in omega arith
