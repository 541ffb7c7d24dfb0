-- The rows by identifier, where one comes, goes or is written to at its place.
use Rattle.std.proofs.Common.{◌≡◌, ◌≢◌, ℕ, suc, Bool, true, false, cond, List, [], ◌∷◌, length, Option, Some, None, inl, inr, refl, ap, subst, ◌∙◌, sym}
use Rattle.std.proofs.lemmas.Bool.{cases_eq}
use Rattle.std.specs.Prelude.{IsSome, IfNone, IfSome, slice_get}
use Rattle.std.specs.BTreeMap.{insert_entry, is_at}
use Rattle.std.specs.List.{AllByRecursion}
use Rattle.std.specs.Map.{lookup, remove_entry, set_value}
use Rattle.std.specs.Option.{option_and_then}
use Rattle.std.specs.Ordering.{nat_cmp, match_ordering}
use Rattle.std.specs.declared.cmp.Ordering.{Ordering}
use Rattle.std.specs.declared.cmp.Ordering.TheVariants.{Less, Equal, Greater}
use Rattle.slab.specs.Slab.{Slab, get, with_value}
use Rattle.slab.proofs.SlabLemmas.{Updates-with_value}
use Rattle.id_table.specs.Places.{entries_at, ArePlaces, first_key, with_found, changed_entry}
use Rattle.id_table.specs.declared.row.Row.{Row}

-- a row at a place, before others
abbrev onto : ℕ → Option Row → List (ℕ × Row) → List (ℕ × Row)
onto id o es = elim o [ None ↦ es | Some r ↦ (id, r) ∷ es ]

-- two slabs have the same at each place but one
abbrev pub SameBut : ℕ → Slab Row → Slab Row → Type 0
SameBut place s t = (other : ℕ) → other ≢ place → get t other ≡ get s other

same-entry : (id : ℕ) (a b : Option Row) (es fs : List (ℕ × Row)) → a ≡ b → es ≡ fs → onto id a es ≡ onto id b fs
same-entry id a b es fs e f = ap (λ o. onto id o es) e ∙ ap (onto id b) f

-- at other places nothing changes
pub entries-same : (place : ℕ) (s t : Slab Row) (ps : List (ℕ × ℕ)) → SameBut place s t → AllByRecursion (λ q. q.1 ≢ place) ps → entries_at t ps ≡ entries_at s ps
entries-same place s t [] same h = refl
entries-same place s t (p ∷ ps) same h = same-entry p.0 _ _ _ _ (same p.1 h.0) (entries-same place s t ps same h.1)

places-same : (place : ℕ) (s t : Slab Row) (ps : List (ℕ × ℕ)) → SameBut place s t → AllByRecursion (λ q. q.1 ≢ place) ps → ArePlaces s ps → ArePlaces t ps
places-same place s t [] same h a = tt
places-same place s t (p ∷ ps) same h a = (rw (same p.1 h.0) a.0, a.1, places-same place s t ps same h.1 a.2)

length-step : (id : ℕ) (o : Option Row) (es : List (ℕ × Row)) (n : ℕ) → IsSome o → length es ≡ n → length (onto id o es) ≡ suc n
length-step id None es n h e = absurd (cc)
length-step id (Some r) es n h e = ap suc e

pub length-entries : (s : Slab Row) (ps : List (ℕ × ℕ)) → ArePlaces s ps → length (entries_at s ps) ≡ length ps
length-entries s [] a = refl
length-entries s (p ∷ ps) a = length-step p.0 (get s p.1) _ _ a.0 (length-entries s ps a.2)

lookup-step : (test : ℕ → Bool) (s : Slab Row) (id place : ℕ) (o : Option Row) (es : List (ℕ × Row)) (k : Option ℕ) (b : Bool) → test id ≡ b → get s place ≡ o → IsSome o → lookup test es ≡ option_and_then (get s) k → lookup test (onto id o es) ≡ option_and_then (get s) (cond b (Some place) k)
lookup-step test s id place None es k b t g h e = absurd (cc)
lookup-step test s id place (Some r) es k true t g h e = rw (t, g) refl
lookup-step test s id place (Some r) es k false t g h e = rw t e

-- the row of an identifier is at its place
pub lookup-entries : (test : ℕ → Bool) (s : Slab Row) (ps : List (ℕ × ℕ)) → ArePlaces s ps → lookup test (entries_at s ps) ≡ option_and_then (get s) (lookup test ps)
lookup-entries test s [] a = refl
lookup-entries test s (p ∷ ps) a = lookup-step test s p.0 p.1 (get s p.1) _ _ (test p.0) refl refl a.0 (lookup-entries test s ps a.2)

-- a place that is looked up is one of these
other-place : (test : ℕ → Bool) (place k : ℕ) (ps : List (ℕ × ℕ)) → AllByRecursion (λ q. q.1 ≢ place) ps → lookup test ps ≡ Some k → place ≢ k
other-place test place k [] h f = absurd (cc)
other-place test place k (p ∷ ps) h f = by (test p.0) f (λ g. other-place test place k ps h.1 g)
  where
    by : (b : Bool) → cond b (Some p.1) (lookup test ps) ≡ Some k → (lookup test ps ≡ Some k → place ≢ k) → place ≢ k
    by true g later e = h.0 (let same : p.1 ≡ k = cc in same ∙ sym e)
    by false g later e = later g e

some-none : (o : Option Row) → o ≡ None → IsSome o → ⊥
some-none None e h = cc
some-none (Some x) e h = cc

-- Where one goes.

all-remove : (test : ℕ → Bool) (place : ℕ) (ps : List (ℕ × ℕ)) → AllByRecursion (λ q. q.1 ≢ place) ps → AllByRecursion (λ q. q.1 ≢ place) (remove_entry test ps)
all-remove test place [] h = tt
all-remove test place (p ∷ ps) h = by (test p.0) (all-remove test place ps h.1)
  where
    by : (b : Bool) → AllByRecursion (λ q. q.1 ≢ place) (remove_entry test ps) → AllByRecursion (λ q. q.1 ≢ place) (cond b ps (p ∷ remove_entry test ps))
    by true g = h.1
    by false g = (h.0, g)

pub places-remove : (test : ℕ → Bool) (place : ℕ) (s t : Slab Row) (ps : List (ℕ × ℕ)) → SameBut place s t → lookup test ps ≡ Some place → ArePlaces s ps → ArePlaces t (remove_entry test ps)
places-remove test place s t [] same f a = tt
places-remove test place s t (p ∷ ps) same f a = by (test p.0) f (λ g. places-remove test place s t ps same g a.2)
  where
    by : (b : Bool) → cond b (Some p.1) (lookup test ps) ≡ Some place → (lookup test ps ≡ Some place → ArePlaces t (remove_entry test ps)) → ArePlaces t (cond b ps (p ∷ remove_entry test ps))
    by true g later = let here : p.1 ≡ place = cc in places-same place s t ps same (subst (λ (k : ℕ). AllByRecursion (λ q. q.1 ≢ k) ps) here a.1) a.2
    by false g later = (rw (same p.1 (other-place test p.1 place ps a.1 g)) a.0, all-remove test p.1 ps a.1, later g)

removed-step : (test : ℕ → Bool) (id : ℕ) (o : Option Row) (es : List (ℕ × Row)) (b : Bool) → test id ≡ b → IsSome o → remove_entry test (onto id o es) ≡ cond b es (onto id o (remove_entry test es))
removed-step test id None es b t h = absurd (cc)
removed-step test id (Some r) es true t h = rw t refl
removed-step test id (Some r) es false t h = rw t refl

pub entries-remove : (test : ℕ → Bool) (place : ℕ) (s t : Slab Row) (ps : List (ℕ × ℕ)) → SameBut place s t → lookup test ps ≡ Some place → ArePlaces s ps → entries_at t (remove_entry test ps) ≡ remove_entry test (entries_at s ps)
entries-remove test place s t [] same f a = refl
entries-remove test place s t (p ∷ ps) same f a = by (test p.0) refl f (λ g. entries-remove test place s t ps same g a.2) ∙ sym (removed-step test p.0 (get s p.1) (entries_at s ps) (test p.0) refl a.0)
  where
    by : (b : Bool) → test p.0 ≡ b → cond b (Some p.1) (lookup test ps) ≡ Some place → (lookup test ps ≡ Some place → entries_at t (remove_entry test ps) ≡ remove_entry test (entries_at s ps)) → entries_at t (cond b ps (p ∷ remove_entry test ps)) ≡ cond b (entries_at s ps) (onto p.0 (get s p.1) (remove_entry test (entries_at s ps)))
    by true e g later = let here : p.1 ≡ place = cc in entries-same place s t ps same (subst (λ (k : ℕ). AllByRecursion (λ q. q.1 ≢ k) ps) here a.1)
    by false e g later = same-entry p.0 _ _ _ _ (same p.1 (other-place test p.1 place ps a.1 g)) (later g)

-- Where one comes.

pub vacant-apart : (place : ℕ) (s : Slab Row) (ps : List (ℕ × ℕ)) → get s place ≡ None → ArePlaces s ps → AllByRecursion (λ q. q.1 ≢ place) ps
vacant-apart place s [] h a = tt
vacant-apart place s (p ∷ ps) h a = ((λ e. some-none (get s p.1) (ap (get s) e ∙ h) a.0), vacant-apart place s ps h a.2)

came-step : (id place : ℕ) (r x : Row) (p : ℕ × ℕ) (t : Slab Row) (ps ins : List (ℕ × ℕ)) (es fs : List (ℕ × Row)) (o : Ordering) → get t place ≡ Some r → get t p.1 ≡ Some x → entries_at t ps ≡ es → entries_at t ins ≡ fs → entries_at t (match_ordering o ((id, place) ∷ p ∷ ps) ((p.0, place) ∷ ps) (p ∷ ins)) ≡ match_ordering o ((id, r) ∷ (p.0, x) ∷ es) ((p.0, r) ∷ es) ((p.0, x) ∷ fs)
came-step id place r x p t ps ins es fs Less g h e f = same-entry id _ (Some r) _ _ g (same-entry p.0 _ (Some x) _ _ h e)
came-step id place r x p t ps ins es fs Equal g h e f = same-entry p.0 _ (Some r) _ _ g e
came-step id place r x p t ps ins es fs Greater g h e f = same-entry p.0 _ (Some x) _ _ h f

pub entries-insert : (id place : ℕ) (r : Row) (s t : Slab Row) (ps : List (ℕ × ℕ)) → SameBut place s t → get s place ≡ None → get t place ≡ Some r → ArePlaces s ps → entries_at t (insert_entry nat_cmp ps id place) ≡ insert_entry nat_cmp (entries_at s ps) id r
entries-insert id place r s t [] same h g a = same-entry id _ (Some r) [] [] g refl
entries-insert id place r s t (p ∷ ps) same h g a =
    let far = vacant-apart place s (p ∷ ps) h a in
    by (get s p.1) (same p.1 far.0) a.0 (entries-same place s t ps same far.1) (entries-insert id place r s t ps same h g a.2)
  where
    by : (o : Option Row) → get t p.1 ≡ o → IsSome o → entries_at t ps ≡ entries_at s ps → entries_at t (insert_entry nat_cmp ps id place) ≡ insert_entry nat_cmp (entries_at s ps) id r → entries_at t (insert_entry nat_cmp (p ∷ ps) id place) ≡ insert_entry nat_cmp (onto p.0 o (entries_at s ps)) id r
    by None e i f k = absurd (cc)
    by (Some x) e i f k = came-step id place r x p t ps _ _ _ (nat_cmp id p.0) g e f k

all-insert : (id place far : ℕ) (ps : List (ℕ × ℕ)) → place ≢ far → AllByRecursion (λ q. q.1 ≢ far) ps → AllByRecursion (λ q. q.1 ≢ far) (insert_entry nat_cmp ps id place)
all-insert id place far [] n h = (n, tt)
all-insert id place far (p ∷ ps) n h = by (nat_cmp id p.0) (all-insert id place far ps n h.1)
  where
    by : (o : Ordering) → AllByRecursion (λ q. q.1 ≢ far) (insert_entry nat_cmp ps id place) → AllByRecursion (λ q. q.1 ≢ far) (match_ordering o ((id, place) ∷ p ∷ ps) ((p.0, place) ∷ ps) (p ∷ insert_entry nat_cmp ps id place))
    by Less g = (n, h)
    by Equal g = (n, h.1)
    by Greater g = (h.0, g)

pub places-insert : (id place : ℕ) (r : Row) (s t : Slab Row) (ps : List (ℕ × ℕ)) → SameBut place s t → get s place ≡ None → get t place ≡ Some r → ArePlaces s ps → ArePlaces t (insert_entry nat_cmp ps id place)
places-insert id place r s t [] same h g a = (rw g refl, tt, tt)
places-insert id place r s t (p ∷ ps) same h g a = by (nat_cmp id p.0) (places-insert id place r s t ps same h g a.2)
  where
    by : (o : Ordering) → ArePlaces t (insert_entry nat_cmp ps id place) → ArePlaces t (match_ordering o ((id, place) ∷ p ∷ ps) ((p.0, place) ∷ ps) (p ∷ insert_entry nat_cmp ps id place))
    by Less k = (rw g refl, vacant-apart place s (p ∷ ps) h a, places-same place s t (p ∷ ps) same (vacant-apart place s (p ∷ ps) h a) a)
    by Equal k = let far = vacant-apart place s (p ∷ ps) h a in (rw g refl, far.1, places-same place s t ps same far.1 a.2)
    by Greater k = let far = vacant-apart place s (p ∷ ps) h a in (rw (same p.1 far.0) a.0, all-insert id place p.1 ps (λ e. far.0 (sym e)) a.1, k)

-- Where one is written to.

still-there : (place k : ℕ) (r : Row) (s t : Slab Row) → SameBut place s t → get t place ≡ Some r → IsSome (get s k) → IsSome (get t k)
still-there place k r s t same g h =
    elim (cases_eq k place) [
      | inl e ↦ subst (λ (n : ℕ). IsSome (get t n)) (sym e) (rw g refl)
      | inr n ↦ rw (same k n) h
    ]

pub places-write : (place : ℕ) (r : Row) (s t : Slab Row) (ps : List (ℕ × ℕ)) → SameBut place s t → get t place ≡ Some r → ArePlaces s ps → ArePlaces t ps
places-write place r s t [] same g a = tt
places-write place r s t (p ∷ ps) same g a = (still-there place p.1 r s t same g a.0, a.1, places-write place r s t ps same g a.2)

written-step : (test : ℕ → Bool) (id : ℕ) (r : Row) (o : Option Row) (es : List (ℕ × Row)) (b : Bool) → test id ≡ b → IsSome o → set_value test (onto id o es) r ≡ cond b ((id, r) ∷ es) (onto id o (set_value test es r))
written-step test id r None es b t h = absurd (cc)
written-step test id r (Some x) es true t h = rw t refl
written-step test id r (Some x) es false t h = rw t refl

pub entries-write : (test : ℕ → Bool) (place : ℕ) (r : Row) (s t : Slab Row) (ps : List (ℕ × ℕ)) → SameBut place s t → get t place ≡ Some r → lookup test ps ≡ Some place → ArePlaces s ps → entries_at t ps ≡ set_value test (entries_at s ps) r
entries-write test place r s t [] same g f a = refl
entries-write test place r s t (p ∷ ps) same g f a = by (test p.0) f (λ k. entries-write test place r s t ps same g k a.2) ∙ sym (written-step test p.0 r (get s p.1) (entries_at s ps) (test p.0) refl a.0)
  where
    by : (b : Bool) → cond b (Some p.1) (lookup test ps) ≡ Some place → (lookup test ps ≡ Some place → entries_at t ps ≡ set_value test (entries_at s ps) r) → entries_at t (p ∷ ps) ≡ cond b ((p.0, r) ∷ entries_at s ps) (onto p.0 (get s p.1) (set_value test (entries_at s ps) r))
    by true k later = let here : p.1 ≡ place = cc in same-entry p.0 _ _ _ _ (ap (get t) here ∙ g) (entries-same place s t ps same (subst (λ (n : ℕ). AllByRecursion (λ q. q.1 ≢ n) ps) here a.1))
    by false k later = same-entry p.0 _ _ _ _ (same p.1 (other-place test p.1 place ps a.1 k)) (later k)

-- A change of the row of an identifier.

pub change-missed : (change : Row → Row) (id : ℕ) (s : Slab Row) (ps : List (ℕ × ℕ)) → ArePlaces s ps → option_and_then (get s) (lookup (is_at (nat_cmp id)) ps) ≡ None → changed_entry change id (entries_at s ps) ≡ entries_at s ps
change-missed change id s ps a f = ap (with_found change id (entries_at s ps)) (lookup-entries (is_at (nat_cmp id)) s ps a ∙ f)

pub change-made : (change : Row → Row) (id place : ℕ) (r : Row) (s : Slab Row) (ps : List (ℕ × ℕ)) → ArePlaces s ps → lookup (is_at (nat_cmp id)) ps ≡ Some place → get s place ≡ Some r → ArePlaces (with_value s place (change r)) ps × (entries_at (with_value s place (change r)) ps ≡ changed_entry change id (entries_at s ps))
change-made change id place r s ps a f g =
    let found : lookup (is_at (nat_cmp id)) (entries_at s ps) ≡ Some r = lookup-entries (is_at (nat_cmp id)) s ps a ∙ ap (option_and_then (get s)) f ∙ g in
    let t = with_value s place (change r) in
    let up = Updates-with_value s place (change r) (rw g refl) in
    (places-write place (change r) s t ps up.others up.changed a, entries-write (is_at (nat_cmp id)) place (change r) s t ps up.others up.changed f a ∙ sym (ap (with_found change id (entries_at s ps)) found))

-- Where each place holds the same.

pub places-kept : (s t : Slab Row) (ps : List (ℕ × ℕ)) → ((k : ℕ) → get t k ≡ get s k) → ArePlaces s ps → ArePlaces t ps
places-kept s t [] e a = tt
places-kept s t (p ∷ ps) e a = (rw (e p.1) a.0, a.1, places-kept s t ps e a.2)

pub entries-kept : (s t : Slab Row) (ps : List (ℕ × ℕ)) → ((k : ℕ) → get t k ≡ get s k) → entries_at t ps ≡ entries_at s ps
entries-kept s t [] e = refl
entries-kept s t (p ∷ ps) e = same-entry p.0 _ _ _ _ (e p.1) (entries-kept s t ps e)

-- what isn't there isn't taken out
pub remove-absent : {X : Type 0} (test : ℕ → Bool) (es : List (ℕ × X)) → lookup test es ≡ None → remove_entry test es ≡ es
remove-absent test [] h = refl
remove-absent test (e ∷ es) h = by (test e.0) h (remove-absent test es)
  where
    by : (b : Bool) → cond b (Some e.1) (lookup test es) ≡ None → (lookup test es ≡ None → remove_entry test es ≡ es) → cond b es (e ∷ remove_entry test es) ≡ e ∷ es
    by true g later = absurd (cc)
    by false g later = ap (λ l. e ∷ l) (later g)

-- the key of the first entry is that of the first place
pub first-of : (s : Slab Row) (ps : List (ℕ × ℕ)) (o : Option ℕ) → ArePlaces s ps → IfNone o (ps ≡ []) → IfSome o (λ id. (place : ℕ) × (slice_get ps 0 ≡ Some (id, place))) → o ≡ first_key (entries_at s ps)
first-of s [] None h none some = refl
first-of s [] (Some id) h none some = absurd (let bad : ◌≡◌ {A = Option (ℕ × ℕ)} None (Some (id, some.0)) = some.1 in cc)
first-of s (p ∷ ps) None h none some = absurd (let bad : p ∷ ps ≡ [] = none in cc)
first-of s (p ∷ ps) (Some id) h none some = by (get s p.1) h.0
  where
    by : (o : Option Row) → IsSome o → Some id ≡ first_key (elim o [ None ↦ entries_at s ps | Some r ↦ (p.0, r) ∷ entries_at s ps ])
    by None g = absurd (let bad : false ≡ true = g in cc)
    by (Some r) g = let e : p ≡ (id, some.0) = let e = some.1 in cc in ap (λ (q : ℕ × ℕ). Some q.0) (sym e)
