-- The answer for one connection.
use Rattle.std.proofs.Common.{◌≡◌, ℕ, Bool, true, false, ◌==◌, ◌&&◌, ◌||◌, List, [], ◌∷◌, filter, slice_get, Option, Some, None, refl, sym, ap, ◌∙◌, arith}
use Rattle.std.proofs.lemmas.Bool.Decides.{nat_tests}
use Rattle.std.proofs.lemmas.Bool.{and_parts}
use Rattle.std.specs.List.{list_any}
use Rattle.std.specs.Option.{option_map}
use Rattle.lload_names.specs.declared.names.ConnKind.{ConnKind}
use Rattle.lload_names.specs.declared.names.Answer.TheVariants.{Go, Busy, Unavailable}
use Rattle.lload_names.specs.declared.plans.BackendPlan.{BackendPlan}
use Rattle.lload_names.specs.Same.{is_kind}
use Rattle.lload_names.specs.Plans.{backends_of}
use Rattle.lload_spec.specs.Settings.{Settings, is_of_kind, is_of_backend, backend_of}
use Rattle.lload_spec.specs.Choice.{DeskFacts, viable_of, pending_on, pending_at, is_within_limit, most_on, has_room, eligible, is_eligible, pick_of_connection}
use Rattle.ready_set.specs.Keys.{is_in}
use Rattle.ready_set.proofs.Members.{in-filter}
use Rattle.desk_tables.specs.Rows.{row_of, is_ready, is_usable}
use Rattle.desk_tables.specs.declared.conns.Conn.{Conn}
use Rattle.desk_tables.specs.declared.servers.Server.{Server}
use Rattle.desk_choice.specs.Tells.{InPlan, RowTells, RowIs, Tells}
use Rattle.desk_choice.specs.declared.tables.Tables.{Tables}
use Rattle.desk_choice.proofs.Flat.{get-map, one-numbered}
use Rattle.desk_choice.proofs.Eligible.{in-eligible, same-kind, server-knows, server-plan}

pub known : (s : Settings) (f : DeskFacts) (n : ℕ) (o : Option Conn) (r : Conn) → o ≡ Some r → RowIs s f n o → RowTells s f n r
known s f n o r e h = rw e at h

unknown : (s : Settings) (f : DeskFacts) (n : ℕ) (o : Option Conn) → o ≡ None → RowIs s f n o → is_in n f.viable ≡ false
unknown s f n o e h = (let none : RowIs s f n None = rw e at h in none).viable_is

not-here : (s : Settings) (f : DeskFacts) (kd : ConnKind) (n : ℕ) → (is_of_kind s kd n && is_in n f.viable) ≡ false → Unavailable ≡ pick_of_connection s f kd n
not-here s f kd n e = sym (ap (λ b. elim b [ false ↦ Unavailable | true ↦ elim (is_eligible s f kd n) [ true ↦ Go n (backend_of s n) | false ↦ Busy ] ]) (in-filter (is_of_kind s kd) n f.viable ∙ e))

and-false : (a : Bool) → (a && false) ≡ false
and-false a = grind arith

pub no-row : (s : Settings) (f : DeskFacts) (d : Tables) (kd : ConnKind) (n : ℕ) → Tells s f d → row_of d.conns n ≡ None → Unavailable ≡ pick_of_connection s f kd n
no-row s f d kd n k e = not-here s f kd n (ap (λ v. is_of_kind s kd n && v) (unknown s f n (row_of d.conns n) e (k.rows n)) ∙ and-false (is_of_kind s kd n))

usable-is : (s : Settings) (f : DeskFacts) (kd : ConnKind) (n : ℕ) (r : Conn) → RowTells s f n r → (is_of_kind s kd n && is_in n f.viable) ≡ is_usable kd r
usable-is s f kd n r h =
    ap (λ o. (elim o [ None ↦ false | Some p ↦ is_kind kd p.kind ]) && is_in n f.viable) h.place
    ∙ ap (λ v. is_kind kd r.place.kind && v) h.viable_is ∙ and-swap (is_kind kd r.place.kind) r.viable
  where
    and-swap : (a b : Bool) → (a && b) ≡ (b && a)
    and-swap a b = grind arith

pub not-usable : (s : Settings) (f : DeskFacts) (d : Tables) (kd : ConnKind) (n : ℕ) (r : Conn) → Tells s f d → row_of d.conns n ≡ Some r → is_usable kd r ≡ false → Unavailable ≡ pick_of_connection s f kd n
not-usable s f d kd n r k e u = not-here s f kd n (usable-is s f kd n r (known s f n (row_of d.conns n) r e (k.rows n)) ∙ u)

in-plan : (s : Settings) (f : DeskFacts) (d : Tables) (kd : ConnKind) (n : ℕ) (r : Conn) → Tells s f d → row_of d.conns n ≡ Some r → is_usable kd r ≡ true → InPlan f.tiers r
in-plan s f d kd n r k e u = (known s f n (row_of d.conns n) r e (k.rows n)).in_plan

pub no-server : (s : Settings) (f : DeskFacts) (d : Tables) (kd : ConnKind) (n : ℕ) (r : Conn) → Tells s f d → row_of d.conns n ≡ Some r → is_usable kd r ≡ true → slice_get d.servers.items r.spot.server ≡ None → true ≡ false
no-server s f d kd n r k e u g =
    let h = in-plan s f d kd n r k e u in
    let both : ◌≡◌ {A = Option BackendPlan} None (Some h.backend) = ap (option_map (λ v. v.plan)) (sym g) ∙ sym (get-map (λ v. v.plan) d.servers.items r.spot.server) ∙ ap (λ bs. slice_get bs r.spot.server) k.backends_are ∙ h.at in cc

any-filter : (test q : BackendPlan → Bool) (bs : List BackendPlan) → ((b : BackendPlan) → q b ≡ false → test b ≡ false) → list_any test bs ≡ list_any test (filter q bs)
any-filter test q [] none = refl
any-filter test q (b ∷ bs) none = step (q b) refl (any-filter test q bs none)
  where
    step : (t : Bool) → q b ≡ t → list_any test bs ≡ list_any test (filter q bs) → list_any test (b ∷ bs) ≡ list_any test (filter q (b ∷ bs))
    step true e h = rw e (ap (λ t. test b || t) h)
    step false e h = rw (e, none b e) h

-- whether a connection is eligible at a backend, by its row
row-tests : (s : Settings) (f : DeskFacts) (kd : ConnKind) (b : BackendPlan) (n : ℕ) (r : Conn) → RowTells s f n r → is_in n (eligible s f kd b) ≡ ((r.place.backend == b.number && (is_within_limit (most_on b kd) r.pending && is_within_limit b.max_pending (pending_at s f b.number))) && (is_of_kind s kd n && is_in n f.viable))
row-tests s f kd b n r h =
    in-eligible s f kd b n
    ∙ ap (λ o. ((elim o [ None ↦ false | Some p ↦ p.backend == b.number ]) && has_room s f b kd n) && (is_of_kind s kd n && is_in n f.viable)) h.place
    ∙ ap (λ m. (r.place.backend == b.number && (is_within_limit (most_on b kd) m && is_within_limit b.max_pending (pending_at s f b.number))) && (is_of_kind s kd n && is_in n f.viable)) h.pending_is

elsewhere : (s : Settings) (f : DeskFacts) (kd : ConnKind) (n : ℕ) (r : Conn) (c b : BackendPlan) → RowTells s f n r → c.number ≡ r.place.backend → (b.number == c.number) ≡ false → is_in n (eligible s f kd b) ≡ false
elsewhere s f kd n r c b h is e =
    let other : (r.place.backend == b.number) ≡ false = grind (arith, nat_tests, e, is) in
    row-tests s f kd b n r h ∙ ap (λ t. (t && (is_within_limit (most_on b kd) r.pending && is_within_limit b.max_pending (pending_at s f b.number))) && (is_of_kind s kd n && is_in n f.viable)) other

or-false : (a : Bool) → (a || false) ≡ a
or-false a = grind arith

-- one that is usable is eligible where it and its backend have room
eligible-is : (s : Settings) (f : DeskFacts) (d : Tables) (kd : ConnKind) (n : ℕ) (r : Conn) (v : Server) → Tells s f d → row_of d.conns n ≡ Some r → is_usable kd r ≡ true → slice_get d.servers.items r.spot.server ≡ Some v → is_eligible s f kd n ≡ (is_within_limit v.plan.max_pending v.pending && is_ready r)
eligible-is s f d kd n r v k e u g =
    let row = known s f n (row_of d.conns n) r e (k.rows n) in
    let h = in-plan s f d kd n r k e u in
    let parts = and_parts r.viable (is_kind kd r.place.kind) u in
    let plan : v.plan ≡ h.backend = (let both : Some v.plan ≡ Some h.backend = sym (server-plan s f d r.spot.server v k g) ∙ h.at in cc) in
    let number : v.plan.number ≡ r.place.backend = ap (λ (b : BackendPlan). b.number) plan ∙ h.number in
    let alone = one-numbered k.first (backends_of f.tiers) r.spot.server v.plan k.numbered (server-plan s f d r.spot.server v k g) in
    let most : most_on v.plan kd ≡ r.most = ap (most_on v.plan) (same-kind kd r.place.kind parts.1) ∙ sym (h.most r.spot.server v.plan (server-plan s f d r.spot.server v k g) number) in
    let self : (r.place.backend == v.plan.number) ≡ true = grind (arith, nat_tests, number) in
    any-filter (λ b. is_in n (eligible s f kd b)) (λ b. b.number == v.plan.number) (backends_of f.tiers) (λ b t. elsewhere s f kd n r v.plan b row number t)
    ∙ ap (list_any (λ b. is_in n (eligible s f kd b))) alone
    ∙ or-false (is_in n (eligible s f kd v.plan))
    ∙ row-tests s f kd v.plan n r row
    ∙ ap (λ t. (r.place.backend == v.plan.number && (is_within_limit (most_on v.plan kd) r.pending && is_within_limit v.plan.max_pending (pending_at s f v.plan.number))) && t) (usable-is s f kd n r row ∙ u)
    ∙ ap (λ t. (t && (is_within_limit (most_on v.plan kd) r.pending && is_within_limit v.plan.max_pending (pending_at s f v.plan.number))) && true) self
    ∙ ap (λ m. (true && (is_within_limit m r.pending && is_within_limit v.plan.max_pending (pending_at s f v.plan.number))) && true) most
    ∙ ap (λ m. (true && (is_within_limit r.most r.pending && is_within_limit v.plan.max_pending m)) && true) (server-knows s f d r.spot.server v k g).pending_is
    ∙ together (is_within_limit r.most r.pending) (is_within_limit v.plan.max_pending v.pending) r.viable parts.0
  where
    together : (a b c : Bool) → c ≡ true → ((true && (a && b)) && true) ≡ (b && (c && a))
    together a b c e = grind (arith, e)

pub one-connection : (s : Settings) (f : DeskFacts) (d : Tables) (kd : ConnKind) (n : ℕ) (r : Conn) (v : Server) (b : Bool) → Tells s f d → row_of d.conns n ≡ Some r → is_usable kd r ≡ true → slice_get d.servers.items r.spot.server ≡ Some v → (is_within_limit v.plan.max_pending v.pending && is_ready r) ≡ b → (elim b [ true ↦ Go n r.place.backend | false ↦ Busy ]) ≡ pick_of_connection s f kd n
one-connection s f d kd n r v b k e u g t =
    let row = known s f n (row_of d.conns n) r e (k.rows n) in
    let viable : is_in n (viable_of s f kd) ≡ true = in-filter (is_of_kind s kd) n f.viable ∙ usable-is s f kd n r row ∙ u in
    sym (ap (λ b. elim b [ false ↦ Unavailable | true ↦ elim (is_eligible s f kd n) [ true ↦ Go n (backend_of s n) | false ↦ Busy ] ]) viable
    ∙ ap (λ b. elim b [ true ↦ Go n (backend_of s n) | false ↦ Busy ]) (eligible-is s f d kd n r v k e u g ∙ t)
    ∙ ap (λ o. elim b [ true ↦ Go n (elim o [ None ↦ 0 | Some p ↦ p.backend ]) | false ↦ Busy ]) row.place)
