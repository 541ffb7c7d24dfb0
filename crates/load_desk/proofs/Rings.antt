-- What is kept of latencies, behind one more.
use Rattle.std.proofs.Common.{◌≡◌, ℕ, Bool, true, false, ◌==◌, List, [], ◌∷◌, ◌++◌, Option, Some, None, refl, ap, sym, ◌∙◌, arith}
use Rattle.std.proofs.Math.Path.{fun_ext}
use Rattle.std.proofs.lemmas.Bool.Decides.{nat_tests}
use Rattle.std.specs.Prelude.{find}
use Rattle.lload_names.specs.declared.plans.Place.{Place}
use Rattle.lload_spec.specs.Picks.{last_of, mean}
use Rattle.lload_spec.specs.Settings.{Settings, place_at, is_of_backend}
use Rattle.part_spec.specs.DeskState.{DeskState, Ring, facts_of, mean_latency, with_latency, with_told}
use Rattle.desk_rules.specs.Latencies.{with_means}
use Rattle.load_desk.specs.Part.{ring_of}
use Rattle.load_desk.specs.States.{IsToldOf}

ring-more : (b l c : ℕ) (rings : List Ring) → ring_of (with_latency b l rings) c ≡ (elim (b == c) [ true ↦ last_of 16 (ring_of rings c ++ l ∷ []) | false ↦ ring_of rings c ])
ring-more b l c [] = by (b == c) refl
  where
    by : (t : Bool) → (b == c) ≡ t → ring_of (record { backend = b; latencies = l ∷ [] } ∷ []) c ≡ (elim t [ true ↦ last_of 16 (l ∷ []) | false ↦ [] ])
    by true e = grind (arith, e)
    by false e = grind (arith, e)
ring-more b l c (r ∷ rs) = by (r.backend == b) refl (b == c) refl (r.backend == c) refl (ring-more b l c rs)
  where
    own : (x : Bool) → (r.backend == c) ≡ x → (q : Ring) → q.backend ≡ r.backend → ring_of (q ∷ rs) c ≡ (elim x [ true ↦ q.latencies | false ↦ ring_of rs c ])
    own true e q h = grind (arith, e, h)
    own false e q h = grind (arith, e, h)

    by : (t : Bool) → (r.backend == b) ≡ t → (u : Bool) → (b == c) ≡ u → (v : Bool) → (r.backend == c) ≡ v → ring_of (with_latency b l rs) c ≡ (elim (b == c) [ true ↦ last_of 16 (ring_of rs c ++ l ∷ []) | false ↦ ring_of rs c ]) → ring_of (elim t [ true ↦ record r { latencies = last_of 16 (r.latencies ++ l ∷ []) } ∷ rs | false ↦ r ∷ with_latency b l rs ]) c ≡ (elim u [ true ↦ last_of 16 (ring_of (r ∷ rs) c ++ l ∷ []) | false ↦ ring_of (r ∷ rs) c ])
    by true e true f true g ih = own true g (record r { latencies = last_of 16 (r.latencies ++ l ∷ []) }) refl ∙ sym (ap (λ ls. last_of 16 (ls ++ l ∷ [])) (own true g r refl))
    by true e false f false g ih = own false g (record r { latencies = last_of 16 (r.latencies ++ l ∷ []) }) refl ∙ sym (own false g r refl)
    by true e true f false g ih = absurd (let bad : false ≡ true = grind (arith, nat_tests, e, f, g) in cc)
    by true e false f true g ih = absurd (let bad : false ≡ true = grind (arith, nat_tests, e, f, g) in cc)
    by false e true f true g ih = absurd (let bad : false ≡ true = grind (arith, nat_tests, e, f, g) in cc)
    by false e true f false g ih = grind (arith, g, f, ih)
    by false e false f true g ih = grind (arith, g)
    by false e false f false g ih = grind (arith, g, f, ih)

abbrev more_of : ℕ → List ℕ → Bool → List ℕ
more_of l ls b = elim b [ true ↦ last_of 16 (ls ++ l ∷ []) | false ↦ ls ]

abbrev is_at : ℕ → Option Place → Bool
is_at b o = elim o [ None ↦ false | Some p ↦ p.backend == b ]

told-more : (s : Settings) (u l b : ℕ) (rings : List Ring) → ring_of (with_told s u (Some l) rings) b ≡ more_of l (ring_of rings b) (is_of_backend s b u)
told-more s u l b rings = by (place_at s u)
  where
    by : (o : Option Place) → ring_of (elim o [ None ↦ rings | Some place ↦ with_latency place.backend l rings ]) b ≡ more_of l (ring_of rings b) (is_at b o)
    by None = refl
    by (Some p) = ring-more p.backend l b rings

pub told-is : (s : Settings) (u : ℕ) (latency : Option ℕ) (rings : List Ring) → IsToldOf s u latency (ring_of rings) (ring_of (with_told s u latency rings))
told-is s u None rings = λ b. refl
told-is s u (Some l) rings = λ b. told-more s u l b rings

-- the mean of what is kept
mean-of : (rings : List Ring) (b : ℕ) → (elim (find (λ r. r.backend == b) rings) [ None ↦ 0 | Some r ↦ mean r.latencies ]) ≡ mean (ring_of rings b)
mean-of rings b = by (find (λ r. r.backend == b) rings)
  where
    by : (o : Option Ring) → (elim o [ None ↦ 0 | Some r ↦ mean r.latencies ]) ≡ mean (elim o [ None ↦ [] | Some r ↦ r.latencies ])
    by None = refl
    by (Some r) = refl

pub means-of : (s : Settings) (p : DeskState) → facts_of s p ≡ with_means (facts_of s p) (ring_of p.rings)
means-of s p = ap (λ (m : ℕ → ℕ). record (facts_of s p) { mean = m }) (fun_ext (mean-of p.rings))
