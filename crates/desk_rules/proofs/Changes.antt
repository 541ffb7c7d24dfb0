-- The tables after one connection, and what is kept of its backend, changed.
use Rattle.std.proofs.Common.{◌≡◌, ◌≢◌, ℕ, zero, suc, ◌+◌, ◌≤◌, true, false, ◌==◌, ◌&&◌, List, [], ◌∷◌, length, filter, map, slice_get, slice_set, Option, Some, None, ⊎_elim, refl, sym, ap, ◌∙◌, arith}
use Rattle.std.proofs.lemmas.Bool.{cases_eq}
use Rattle.std.proofs.lemmas.Bool.Decides.{nat_tests}
use Rattle.lload_names.specs.declared.names.ConnKind.{ConnKind}
use Rattle.lload_names.specs.declared.plans.TierPlan.{TierPlan}
use Rattle.lload_names.specs.declared.plans.BackendPlan.{BackendPlan}
use Rattle.lload_names.specs.Plans.{backends_of, NumberedFrom}
use Rattle.lload_spec.specs.Settings.{Settings, is_of_backend}
use Rattle.lload_spec.specs.Choice.{DeskFacts, viable_of, pending_on, pending_at}
use Rattle.ready_set.specs.Keys.{most_conn, is_in}
use Rattle.ready_set.specs.Readies.{has}
use Rattle.desk_tables.specs.Rows.{row_of}
use Rattle.desk_tables.specs.Turns.{Turn}
use Rattle.desk_tables.specs.declared.conns.Conn.{Conn}
use Rattle.desk_tables.specs.declared.servers.Server.{Server}
use Rattle.desk_choice.specs.Tells.{RowIs, ServerTells, ServerIs, RoundIs, ready_at, Tells}
use Rattle.desk_choice.specs.declared.tables.Tables.{Tables}
use Rattle.desk_choice.proofs.Eligible.{server-plan}
use Rattle.desk_rules.proofs.Lists.{count_of}

-- the facts with other connections that are viable, and other pending operations
abbrev pub now_with : DeskFacts → List ℕ → List ℕ → DeskFacts
now_with f vs ps = record f { viable = vs; pending = ps }

-- a row of another connection stays
pub row-stays : (s : Settings) (f : DeskFacts) (vs ps : List ℕ) (n : ℕ) (o : Option Conn) → is_in n vs ≡ is_in n f.viable → pending_on (now_with f vs ps) n ≡ pending_on f n → RowIs s f n o → RowIs s (now_with f vs ps) n o
row-stays s f vs ps n None v p h = record { viable_is = v ∙ h.viable_is; pending_is = λ c. p ∙ h.pending_is c }
row-stays s f vs ps n (Some r) v p h = record { place = h.place; viable_is = v ∙ h.viable_is; pending_is = p ∙ h.pending_is; in_plan = h.in_plan }

-- so does a tier
pub round-stays : (f : DeskFacts) (vs ps : List ℕ) (i : ℕ) (q : Option TierPlan) (o : Option Turn) → RoundIs f i q o → RoundIs (now_with f vs ps) i q o
round-stays f vs ps i (Some t) (Some x) h =
    let k = h.tells in
    record { tells = record { calls = k.calls; stands = k.stands; first = k.first; numbered = k.numbered; last_is = k.last_is; means_are = k.means_are }; first_is = h.first_is; few = h.few }
round-stays f vs ps i None None h = h
round-stays f vs ps i (Some t) None h = h
round-stays f vs ps i None (Some x) h = h

-- so does another backend
pub server-stays : (s : Settings) (f : DeskFacts) (vs ps : List ℕ) (v : Server) → pending_at s (now_with f vs ps) v.plan.number ≡ pending_at s f v.plan.number → ((k : ConnKind) → length (filter (is_of_backend s v.plan.number) (viable_of s (now_with f vs ps) k)) ≡ length (filter (is_of_backend s v.plan.number) (viable_of s f k))) → ServerTells s f v → ServerTells s (now_with f vs ps) v
server-stays s f vs ps v p c h = record {
  pending_is = p ∙ h.pending_is;
  lanes = λ k. let l = h.lanes k in record { forward = l.forward; places = l.places; viable_is = c k ∙ l.viable_is; last_is = l.last_is; within = l.within };
}

-- one element of a list in place of another
pub set-here : {A : Type 0} (xs : List A) (i : ℕ) (x y : A) → slice_get xs i ≡ Some x → slice_get (slice_set xs i y) i ≡ Some y
set-here [] i x y e = absurd (cc)
set-here (z ∷ xs) zero x y e = refl
set-here (z ∷ xs) (suc i) x y e = set-here xs i x y e

pub set-apart : {A : Type 0} (xs : List A) (i j : ℕ) (y : A) → j ≢ i → slice_get (slice_set xs i y) j ≡ slice_get xs j
set-apart [] i j y ne = refl
set-apart (x ∷ xs) zero zero y ne = absurd (ne refl)
set-apart (x ∷ xs) zero (suc j) y ne = refl
set-apart (x ∷ xs) (suc i) zero y ne = refl
set-apart (x ∷ xs) (suc i) (suc j) y ne = set-apart xs i j y (λ e. ne (ap suc e))

pub set-map : {A B : Type 0} (g : A → B) (xs : List A) (i : ℕ) (x y : A) → slice_get xs i ≡ Some x → g y ≡ g x → map g (slice_set xs i y) ≡ map g xs
set-map g [] i x y e h = refl
set-map g (z ∷ xs) zero x y e h = let same : z ≡ x = cc in ap (λ b. b ∷ map g xs) (h ∙ ap g (sym same))
set-map g (z ∷ xs) (suc i) x y e h = ap (λ bs. g z ∷ bs) (set-map g xs i x y e h)

-- backends at two places have two numbers
pub number-at : (first j : ℕ) (bs : List BackendPlan) (b : BackendPlan) → NumberedFrom first bs → slice_get bs j ≡ Some b → b.number ≡ first + j
number-at first j [] b h e = absurd (cc)
number-at first zero (c ∷ bs) b h e = let same : c ≡ b = cc in let is : b.number ≡ c.number = ap (λ (x : BackendPlan). x.number) (sym same) in omega (arith, is, h.0)
number-at first (suc j) (c ∷ bs) b h e = let is = number-at (suc first) j bs b h.1 e in omega (arith, is)

pub two-numbers : (s : Settings) (f : DeskFacts) (d : Tables) (i j : ℕ) (v w : Server) → Tells s f d → slice_get d.servers.items i ≡ Some v → slice_get d.servers.items j ≡ Some w → j ≢ i → w.plan.number ≢ v.plan.number
two-numbers s f d i j v w k e h ne = λ same.
    let here = number-at k.first i (backends_of f.tiers) v.plan k.numbered (server-plan s f d i v k e) in
    let there = number-at k.first j (backends_of f.tiers) w.plan k.numbered (server-plan s f d j w k h) in
    ne (omega (arith, here, there, same))

-- one backend changes
pub servers-behind : (s : Settings) (f g : DeskFacts) (d : Tables) (i : ℕ) (v w : Server) → Tells s f d → slice_get d.servers.items i ≡ Some v → ServerTells s g w → ((x : Server) → x.plan.number ≢ v.plan.number → ServerTells s f x → ServerTells s g x) → (j : ℕ) → ServerIs s g (slice_get (slice_set d.servers.items i w) j)
servers-behind s f g d i v w k e h others j =
    ⊎_elim
    (λ (is : j ≡ i). rw is (rw (set-here d.servers.items i v w e) h))
    (λ (ne : j ≢ i). rw (set-apart d.servers.items i j w ne) (other ne (slice_get d.servers.items j) refl (k.servers j)))
    (cases_eq j i)
  where
    other : j ≢ i → (o : Option Server) → slice_get d.servers.items j ≡ o → ServerIs s f o → ServerIs s g o
    other ne None g t = t
    other ne (Some x) g t = others x (two-numbers s f d i j v x k e g ne) t

-- what a change at one connection and its backend owes
pub record Changes (s : Settings) (f : DeskFacts) (vs ps : List ℕ) (u i : ℕ) (v w : Server) (d e : Tables) : Type 0 where
  pub other_viable : (n : ℕ) → n ≢ u → is_in n vs ≡ is_in n f.viable
  pub other_pending : (n : ℕ) → n ≢ u → pending_on (now_with f vs ps) n ≡ pending_on f n
  pub once : (n : ℕ) → count_of n vs ≤ 1
  pub small : (n : ℕ) → is_in n vs ≡ true → n ≤ most_conn
  pub row : RowIs s (now_with f vs ps) u (row_of e.conns u)
  pub other_rows : (n : ℕ) → n ≢ u → row_of e.conns n ≡ row_of d.conns n
  pub ready : (j n : ℕ) → n ≤ most_conn → has e.ready j n ≡ ready_at (row_of e.conns n) j
  pub rounds : e.rounds.items ≡ d.rounds.items
  pub before : slice_get d.servers.items i ≡ Some v
  pub behind : e.servers.items ≡ slice_set d.servers.items i w
  pub plan : w.plan ≡ v.plan
  pub server : ServerTells s (now_with f vs ps) w
  pub other_servers : (x : Server) → x.plan.number ≢ v.plan.number → ServerTells s f x → ServerTells s (now_with f vs ps) x

pub changed : (s : Settings) (f : DeskFacts) (vs ps : List ℕ) (u i : ℕ) (v w : Server) (d e : Tables) → Tells s f d → Changes s f vs ps u i v w d e → Tells s (now_with f vs ps) e
changed s f vs ps u i v w d e k c = record {
  backends_are = ap (map (λ v. v.plan)) c.behind ∙ set-map (λ v. v.plan) d.servers.items i v w c.before c.plan ∙ k.backends_are;
  first = k.first;
  numbered = k.numbered;
  rounds = λ j. rw c.rounds (round-stays f vs ps j (slice_get f.tiers j) (slice_get d.rounds.items j) (k.rounds j));
  servers = λ j. rw c.behind (servers-behind s f (now_with f vs ps) d i v w k c.before c.server c.other_servers j);
  rows = λ n. ⊎_elim
      (λ (is : n ≡ u). rw is c.row)
      (λ (ne : n ≢ u). rw (c.other_rows n ne) (row-stays s f vs ps n (row_of d.conns n) (c.other_viable n ne) (c.other_pending n ne) (k.rows n)))
      (cases_eq n u);
  once = c.once;
  small = c.small;
  ready = c.ready;
}

-- what is ready, after a row changed that keeps its place
pub ready-behind : (d e : Tables) (u i : ℕ) → ((j n : ℕ) → n ≤ most_conn → has d.ready j n ≡ ready_at (row_of d.conns n) j) → ((n : ℕ) → n ≢ u → row_of e.conns n ≡ row_of d.conns n) → ((j n : ℕ) → n ≤ most_conn → (j == i && n == u) ≡ false → has e.ready j n ≡ has d.ready j n) → has e.ready i u ≡ ready_at (row_of e.conns u) i → ((j : ℕ) → j ≢ i → ready_at (row_of d.conns u) j ≡ ready_at (row_of e.conns u) j) → (j n : ℕ) → n ≤ most_conn → has e.ready j n ≡ ready_at (row_of e.conns n) j
ready-behind d e u i k rows others here elsewhere j n l =
    ⊎_elim
    (λ (is : n ≡ u). ⊎_elim
    (λ (at : j ≡ i). rw (is, at) here)
    (λ (ne : j ≢ i). rw is (others j u (rw (sym is) l) (apart-place j u ne) ∙ k j u (rw (sym is) l) ∙ elsewhere j ne))
    (cases_eq j i))
    (λ (ne : n ≢ u). others j n l (apart-conn j n ne) ∙ k j n l ∙ ap (λ o. ready_at o j) (sym (rows n ne)))
    (cases_eq n u)
  where
    apart-place : (j n : ℕ) → j ≢ i → (j == i && n == u) ≡ false
    apart-place j n ne = grind (arith, nat_tests)

    apart-conn : (j n : ℕ) → n ≢ u → (j == i && n == u) ≡ false
    apart-conn j n ne = grind (arith, nat_tests)
