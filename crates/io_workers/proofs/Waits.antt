-- How long the places of a configuration wait.
use Rattle.std.proofs.Common.{◌≡◌, ℕ, ◌+◌, List, [], ◌∷◌, ◌++◌, length, get_or, take, drop, ◌-◌, ◌<◌, ◌≤◌, replicate, length-append, refl, ap, sym, ◌∙◌, append_assoc, arith}
use Rattle.std.proofs.lemmas.List.{append-nil, at_drop_more, drop_all, flat_map_more, length-replicate, take_all, take_more}
use Rattle.std.proofs.lemmas.List.Concat.{flat_map-append}
use Rattle.std.specs.List.{flat_map}
use Rattle.lload_names.specs.Plans.{backends_of, rooms_of, rooms_of_backend}
use Rattle.lload_names.specs.declared.plans.BackendPlan.{BackendPlan}
use Rattle.lload_names.specs.declared.plans.TierPlan.{TierPlan}
use Rattle.lload_conf.specs.declared.config.Host.{Host}
use Rattle.io_workers.specs.Configured.{retries_of}

length-one : (hosts : List Host) (b : BackendPlan) → length (retries_of hosts b) ≡ length (rooms_of_backend b)
length-one hosts b = simp (length-append, length-replicate)

-- there is a wait for each place
pub length-retries : (hosts : List Host) (bs : List BackendPlan) → length (flat_map (retries_of hosts) bs) ≡ length (rooms_of bs)
length-retries hosts [] = refl
length-retries hosts (b ∷ bs) =
    let one = length-one hosts b in
    let rest = length-retries hosts bs in
    let sum = length-append (retries_of hosts b) (flat_map (retries_of hosts) bs) in
    let rooms = length-append (rooms_of_backend b) (rooms_of bs) in
    omega (arith, one, rest, sum, rooms)

-- those of a tier, and those of the tiers behind it
pub retries-tier : (hosts : List Host) (waits : List ℕ) (t : TierPlan) (ts : List TierPlan) → waits ++ flat_map (retries_of hosts) (backends_of (t ∷ ts)) ≡ (waits ++ flat_map (retries_of hosts) t.backends) ++ flat_map (retries_of hosts) (backends_of ts)
retries-tier hosts waits t ts =
    ap (λ l. waits ++ l) (flat_map-append (retries_of hosts) t.backends (backends_of ts))
    ∙ sym (append_assoc waits (flat_map (retries_of hosts) t.backends) (flat_map (retries_of hosts) (backends_of ts)))

-- what stands behind some waits once they are stretched
pub stretched : (waits : List ℕ) (n count retry : ℕ) → n ≡ length waits → take (n + count) waits ++ replicate (n + count - n) retry ≡ waits ++ replicate count retry
stretched waits n count retry e =
    let all = take_all (n + count) waits (omega (arith, e)) in
    let more : n + count - n ≡ count = omega arith in
    rw (all, more) refl

-- a backend more
pub retries-more : (hosts : List Host) (waits : List ℕ) (bs : List BackendPlan) (i : ℕ) (b : BackendPlan) → i < length bs → b ≡ get_or bs i b → (waits ++ flat_map (retries_of hosts) (take i bs)) ++ retries_of hosts b ≡ waits ++ flat_map (retries_of hosts) (take (i + 1) bs)
retries-more hosts waits bs i b l e =
    flat_map_more (retries_of hosts) waits (take i bs) b
    ∙ ap (λ (xs : List BackendPlan). waits ++ flat_map (retries_of hosts) xs) (ap (λ (x : BackendPlan). take i bs ++ x ∷ []) e ∙ sym (take_more bs i b l))

-- a tier more, and no more tiers
pub retries-tier_more : (hosts : List Host) (waits new all : List ℕ) (ts : List TierPlan) (i : ℕ) (t : TierPlan) → i < length ts → t ≡ get_or ts i t → new ≡ waits ++ flat_map (retries_of hosts) t.backends → waits ++ flat_map (retries_of hosts) (backends_of (drop i ts)) ≡ all → new ++ flat_map (retries_of hosts) (backends_of (drop (i + 1) ts)) ≡ all
retries-tier_more hosts waits new all ts i t l e n h =
    let rest : drop i ts ≡ t ∷ drop (i + 1) ts = at_drop_more (λ (xs : List TierPlan). xs) ts i t l ∙ ap (λ (x : TierPlan). x ∷ drop (i + 1) ts) (sym e) in
    ap (λ (xs : List ℕ). xs ++ flat_map (retries_of hosts) (backends_of (drop (i + 1) ts))) n
    ∙ sym (retries-tier hosts waits t (drop (i + 1) ts))
    ∙ ap (λ (xs : List TierPlan). waits ++ flat_map (retries_of hosts) (backends_of xs)) (sym rest)
    ∙ h

pub retries-tier_end : (hosts : List Host) (waits all : List ℕ) (ts : List TierPlan) (i : ℕ) → length ts ≤ i → waits ++ flat_map (retries_of hosts) (backends_of (drop i ts)) ≡ all → waits ≡ all
retries-tier_end hosts waits all ts i l h =
    sym (append-nil waits)
    ∙ ap (λ (xs : List TierPlan). waits ++ flat_map (retries_of hosts) (backends_of xs)) (sym (drop_all i ts l))
    ∙ h
