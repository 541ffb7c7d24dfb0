-- The answer for one backend, and for one connection.
use Rattle.std.proofs.Common.{◌≡◌, ◌≢◌, ℕ, Bool, true, false, ◌==◌, ◌&&◌, ◌||◌, List, [], ◌∷◌, filter, slice_get, Option, Some, None, refl, sym, ap, ◌∙◌, arith}
use Rattle.std.proofs.lemmas.Bool.{false_from_ne_true, and_parts}
use Rattle.std.proofs.lemmas.Bool.Decides.{nat_tests}
use Rattle.std.specs.List.{list_any}
use Rattle.std.specs.Option.{ForSome, option_map}
use Rattle.lload_names.specs.declared.names.ConnKind.{ConnKind}
use Rattle.lload_names.specs.declared.names.Answer.{Answer}
use Rattle.lload_names.specs.declared.names.Answer.TheVariants.{Go, Busy, Unavailable}
use Rattle.lload_names.specs.declared.plans.BackendPlan.{BackendPlan}
use Rattle.lload_names.specs.Same.{is_kind}
use Rattle.lload_names.specs.Plans.{backends_of}
use Rattle.lload_spec.specs.Lists.{first}
use Rattle.lload_spec.specs.Settings.{Settings, is_of_kind, is_of_backend, backend_of}
use Rattle.lload_spec.specs.Choice.{DeskFacts, candidates, or_busy, viable_of, is_viable, is_within_limit, most_on, eligible, is_eligible, pending_at, backends_numbered, pick_of_backend, pick_of_connection}
use Rattle.ready_set.specs.Keys.{is_in}
use Rattle.ready_set.proofs.Members.{in-filter}
use Rattle.desk_tables.specs.Lanes.{has_viable}
use Rattle.desk_tables.specs.Rows.{row_of, is_ready, is_usable}
use Rattle.desk_tables.specs.declared.conns.Conn.{Conn}
use Rattle.desk_tables.specs.declared.servers.Server.{Server}
use Rattle.desk_choice.specs.Tells.{InPlan, RowTells, RowIs, Tells}
use Rattle.desk_choice.specs.declared.tables.Tables.{Tables}
use Rattle.desk_choice.proofs.Flat.{get-map, one-numbered}
use Rattle.desk_choice.proofs.Eligible.{in-eligible, same-kind, server-knows, server-plan}
use Rattle.desk_choice.proofs.Tiers.{viable-count}

in-head : (x : ℕ) (xs : List ℕ) → is_in x (x ∷ xs) ≡ true
in-head x xs = grind (arith, nat_tests)

in-tail : (n x : ℕ) (xs : List ℕ) → is_in n xs ≡ true → is_in n (x ∷ xs) ≡ true
in-tail n x xs e = grind (arith, nat_tests, e)

any-none : (test : ℕ → Bool) (xs : List ℕ) → ((n : ℕ) → is_in n xs ≡ true → test n ≡ false) → list_any test xs ≡ false
any-none test [] none = refl
any-none test (x ∷ xs) none = grind (arith, none x (in-head x xs), any-none test xs (λ n e. none n (in-tail n x xs e)))

-- a connection that is viable has a row
pub viable-row : (s : Settings) (f : DeskFacts) (n : ℕ) (o : Option Conn) → RowIs s f n o → is_in n f.viable ≡ true → (r : Conn) × (o ≡ Some r) × RowTells s f n r × InPlan f.tiers r
viable-row s f n None h e = absurd (let bad : false ≡ true = sym h.viable_is ∙ e in cc)
viable-row s f n (Some r) h e = (r, refl, h, h.in_plan)

-- no backend has the number, so none of its connections is viable
pub no-backend : (s : Settings) (f : DeskFacts) (d : Tables) (kd : ConnKind) (number : ℕ) → Tells s f d → ((j : ℕ) → ForSome (slice_get d.servers.items j) (λ v. v.plan.number ≢ number)) → is_viable s f kd number ≡ false
no-backend s f d kd number k none = any-none (is_of_backend s number) (viable_of s f kd) (λ n e. false_from_ne_true (is_of_backend s number n) (λ t. there n (and_parts (is_of_kind s kd n) (is_in n f.viable) (sym (in-filter (is_of_kind s kd) n f.viable) ∙ e)).1 t))
  where
    at-server : (j : ℕ) (b : BackendPlan) (o : Option Server) → slice_get d.servers.items j ≡ o → slice_get (backends_of f.tiers) j ≡ Some b → b.number ≡ number → ⊥
    at-server j b None e g is = absurd (let both : ◌≡◌ {A = Option BackendPlan} None (Some b) = ap (option_map (λ v. v.plan)) (sym e) ∙ sym (get-map (λ v. v.plan) d.servers.items j) ∙ ap (λ bs. slice_get bs j) k.backends_are ∙ g in cc)
    at-server j b (Some v) e g is =
        let both : Some v.plan ≡ Some b = ap (option_map (λ v. v.plan)) (sym e) ∙ sym (get-map (λ v. v.plan) d.servers.items j) ∙ ap (λ bs. slice_get bs j) k.backends_are ∙ g in
        let same : v.plan ≡ b = cc in
        none j v e (ap (λ (x : BackendPlan). x.number) same ∙ is)

    there : (n : ℕ) → is_in n f.viable ≡ true → is_of_backend s number n ≡ true → ⊥
    there n e t =
        let r = viable-row s f n (row_of d.conns n) (k.rows n) e in
        let at : (r.0.place.backend == number) ≡ true = sym (ap (λ o. elim o [ None ↦ false | Some p ↦ p.backend == number ]) r.2.place) ∙ t in
        let is : r.3.backend.number ≡ number = r.3.number ∙ grind (arith, nat_tests, at) in
        at-server r.0.spot.server r.3.backend (slice_get d.servers.items r.0.spot.server) refl r.3.at is

pub not-viable : (s : Settings) (f : DeskFacts) (kd : ConnKind) (number : ℕ) → is_viable s f kd number ≡ false → Unavailable ≡ pick_of_backend s f kd number
not-viable s f kd number e = sym (ap (λ b. elim b [ true ↦ or_busy (first (candidates s f kd (backends_numbered f number))) | false ↦ Unavailable ]) e)

pub one-backend : (s : Settings) (f : DeskFacts) (d : Tables) (kd : ConnKind) (number j : ℕ) (v : Server) (a : Answer) → Tells s f d → slice_get d.servers.items j ≡ Some v → v.plan.number ≡ number → has_viable kd v ≡ true → a ≡ or_busy (first (candidates s f kd (v.plan ∷ []))) → a ≡ pick_of_backend s f kd number
one-backend s f d kd number j v a k e is viable g =
    let up : is_viable s f kd number ≡ true = ap (is_viable s f kd) (sym is) ∙ viable-count s f d kd j v k e ∙ viable in
    let alone : backends_numbered f number ≡ v.plan ∷ [] = ap (backends_numbered f) (sym is) ∙ one-numbered k.first (backends_of f.tiers) j v.plan k.numbered (server-plan s f d j v k e) in
    g ∙ ap (λ bs. or_busy (first (candidates s f kd bs))) (sym alone) ∙ sym (ap (λ b. elim b [ true ↦ or_busy (first (candidates s f kd (backends_numbered f number))) | false ↦ Unavailable ]) up)

pub one-not-viable : (s : Settings) (f : DeskFacts) (d : Tables) (kd : ConnKind) (number j : ℕ) (v : Server) → Tells s f d → slice_get d.servers.items j ≡ Some v → v.plan.number ≡ number → has_viable kd v ≡ false → Unavailable ≡ pick_of_backend s f kd number
one-not-viable s f d kd number j v k e is viable = not-viable s f kd number (ap (is_viable s f kd) (sym is) ∙ viable-count s f d kd j v k e ∙ viable)
