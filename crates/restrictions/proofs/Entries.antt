-- The entries of the map, and the restrictions that they stand for.
use Rattle.std.proofs.Common.{◌≡◌, ℕ, Bool, true, false, cond, List, [], ◌∷◌, Option, Some, None, is_some, is_none, not, IsSome, refl, ap, ◌∙◌, sym, ◌&&◌, eqb, arith}
use Rattle.std.proofs.lemmas.Bool.Decides.{nat_tests}
use Rattle.std.proofs.lemmas.Map.Text.{is_eq-slice_cmp}
use Rattle.std.specs.BTreeMap.{insert_entry, is_at}
use Rattle.std.specs.Cmp.Lexicographic.{slice_cmp}
use Rattle.std.specs.List.{AllZip}
use Rattle.std.specs.Map.{lookup}
use Rattle.std.specs.Option.{option_map_or}
use Rattle.std.specs.Ordering.{match_ordering, nat_cmp}
use Rattle.std.specs.Str.{bytes_eq}
use Rattle.std.specs.declared.cmp.Ordering.{Ordering}
use Rattle.std.specs.declared.cmp.Ordering.TheVariants.{Less, Equal, Greater}
use Rattle.std.specs.declared.vec.Vec.{Vec}
use Rattle.lload_spec.specs.Binding.{action_or}
use Rattle.lload_spec.specs.Settings.{Action as ActionSet, Restriction}
use Rattle.restrictions.specs.Actions.{action_view, restriction, restrictions_of, restriction_of, put}
use Rattle.restrictions.specs.declared.action.Action.{Action}

same_number : (m n : ℕ) → eqb m n ≡ eqb n m
same_number m n = grind (arith, nat_tests)

bytes_same : (xs ys : List ℕ) → bytes_eq xs ys ≡ bytes_eq ys xs
bytes_same [] [] = refl
bytes_same [] (y ∷ ys) = refl
bytes_same (x ∷ xs) [] = refl
bytes_same (x ∷ xs) (y ∷ ys) = ap (λ (b : Bool). b && bytes_eq xs ys) (same_number x y) ∙ ap (λ (b : Bool). eqb y x && b) (bytes_same xs ys)

two : {A B C : Type 0} (f : A → B → C) (a b : A) (c d : B) → a ≡ b → c ≡ d → f a c ≡ f b d
two f a b c d h k = ap (λ x. f x c) h ∙ ap (f b) k

none_not : {A : Type 0} (o : Option A) → is_none o ≡ not (is_some o)
none_not None = refl
none_not (Some x) = refl

pub never : {A : Type 0} (o : Option A) → is_none o ≡ true → IsSome o → ⊥
never None h s = absurd (cc)
never (Some x) h s = absurd (cc)

-- clones of bytes are the same bytes
pub bytes_cloned : (xs ys : List ℕ) → AllZip (λ x y. y ≡ x) xs ys → ys ≡ xs
bytes_cloned [] [] h = refl
bytes_cloned [] (y ∷ ys) h = absurd h
bytes_cloned (x ∷ xs) [] h = absurd h
bytes_cloned (x ∷ xs) (y ∷ ys) h = two (λ (x : ℕ) (xs : List ℕ). x ∷ xs) _ _ _ _ h.0 (bytes_cloned xs ys h.1)

module _ {Z : Type 0} where
  -- the order of the keys, and a look-up among them
  abbrev key_cmp : Vec ℕ Z → Vec ℕ Z → Ordering
  key_cmp x y = slice_cmp nat_cmp x.items y.items

  abbrev is_key : List ℕ → Vec ℕ Z → Bool
  is_key oid k = is_at (λ (k : Vec ℕ Z). slice_cmp nat_cmp oid k.items) k

  key_same : (oid : List ℕ) (k : Vec ℕ Z) → is_key oid k ≡ bytes_eq k.items oid
  key_same oid k = is_eq-slice_cmp oid k.items ∙ bytes_same oid k.items

  found_step : (a b : Bool) (e : Vec ℕ Z × Action) (d : ActionSet) (found : Option Action) (rest : Option Restriction) → a ≡ b → action_or d rest ≡ option_map_or action_view found d →
      action_or d (cond a (Some (restriction e.0.items (action_view e.1))) rest) ≡ option_map_or action_view (cond b (Some e.1) found) d
  found_step true true e d found rest h same = refl
  found_step false false e d found rest h same = same
  found_step true false e d found rest h same = absurd (cc)
  found_step false true e d found rest h same = absurd (cc)

  -- an OID has the action that the map has under it
  pub action_found : (oid : List ℕ) (d : ActionSet) (es : List (Vec ℕ Z × Action)) → action_or d (restriction_of oid (restrictions_of es)) ≡ option_map_or action_view (lookup (is_key oid) es) d
  action_found oid d [] = refl
  action_found oid d (e ∷ es) = found_step (bytes_eq e.0.items oid) (is_key oid e.0) e d (lookup (is_key oid) es) _ (sym (key_same oid e.0)) (action_found oid d es)

  there_step : (a b : Bool) (e : Vec ℕ Z × Action) (found : Option Action) (rest : Option Restriction) → a ≡ b → is_some rest ≡ is_some found →
      is_some (cond a (Some (restriction e.0.items (action_view e.1))) rest) ≡ is_some (cond b (Some e.1) found)
  there_step true true e found rest h same = refl
  there_step false false e found rest h same = same
  there_step true false e found rest h same = absurd (cc)
  there_step false true e found rest h same = absurd (cc)

  -- it has one exactly where the map has one
  pub there : (oid : List ℕ) (es : List (Vec ℕ Z × Action)) → is_some (restriction_of oid (restrictions_of es)) ≡ is_some (lookup (is_key oid) es)
  there oid [] = refl
  there oid (e ∷ es) = there_step (bytes_eq e.0.items oid) (is_key oid e.0) e (lookup (is_key oid) es) _ (sym (key_same oid e.0)) (there oid es)

  -- the same, by the test's answer
  pub has_none : (oid : List ℕ) (es : List (Vec ℕ Z × Action)) (rs : List Restriction) (b : Bool) → restrictions_of es ≡ rs → is_some (lookup (is_key oid) es) ≡ b → is_none (restriction_of oid rs) ≡ not b
  has_none oid es rs b h t = none_not (restriction_of oid rs) ∙ ap not (ap (λ (rs : List Restriction). is_some (restriction_of oid rs)) (sym h) ∙ (there oid es ∙ t))

  placed : (o : Ordering) (xs ys zs : List (Vec ℕ Z × Action)) (ws : List Restriction) → restrictions_of zs ≡ ws → restrictions_of (match_ordering o xs ys zs) ≡ match_ordering o (restrictions_of xs) (restrictions_of ys) ws
  placed Less xs ys zs ws h = refl
  placed Equal xs ys zs ws h = refl
  placed Greater xs ys zs ws h = h

  -- an entry that is inserted is put at its place
  pub inserted : (k : Vec ℕ Z) (a : Action) (es : List (Vec ℕ Z × Action)) → restrictions_of (insert_entry key_cmp es k a) ≡ put k.items (action_view a) (restrictions_of es)
  inserted k a [] = refl
  inserted k a (e ∷ es) = placed (key_cmp k e.0) _ _ _ _ (ap (λ (rs : List Restriction). restriction e.0.items (action_view e.1) ∷ rs) (inserted k a es))

  copied_entry : (d e : Vec ℕ Z × Action) → e.0.items ≡ d.0.items → e.1 ≡ d.1 → restriction e.0.items (action_view e.1) ≡ restriction d.0.items (action_view d.1)
  copied_entry d e p q = two restriction _ _ _ _ p (ap action_view q)

  -- clones stand for the same restrictions
  pub cloned : (C : Vec ℕ Z → Vec ℕ Z → Type 0) (D : Action → Action → Type 0) → ((x y : Vec ℕ Z) → C x y → y.items ≡ x.items) → ((x y : Action) → D x y → y ≡ x) →
      (es fs : List (Vec ℕ Z × Action)) → AllZip (λ p q. C p.0 q.0 × D p.1 q.1) es fs → restrictions_of fs ≡ restrictions_of es
  cloned C D c d [] [] h = refl
  cloned C D c d [] (f ∷ fs) h = absurd h
  cloned C D c d (e ∷ es) [] h = absurd h
  cloned C D c d (e ∷ es) (f ∷ fs) h = two (λ (r : Restriction) (rs : List Restriction). r ∷ rs) _ _ _ _ (copied_entry e f (c e.0 f.0 h.0.0) (d e.1 f.1 h.0.1)) (cloned C D c d es fs h.1)
