-- The kind of a request stays where the client's identity is put into it.
use Rattle.std.proofs.Common.{◌≡◌, ℕ, suc, ◌+◌, Bool, true, false, ◌||◌, not, List, [], ◌∷◌, ◌++◌, length, take, drop, refl, ap, arith}
use Rattle.std.specs.Prelude.{Option, Some, None, nat_le, if◌then◌else◌}
use Rattle.ldap_spec.specs.Messages.{Message}
use Rattle.ldap_spec.specs.Kinds.{kind_of, kind_of_tag, tag_of}
use Rattle.ldap_spec.specs.Elements.{Element, whole_element, length_of, is_tag, length_size}
use Rattle.ldap_spec.specs.Controls.{Control, with_first, list_with_first}
use Rattle.lload_names.specs.declared.names.OpKind.TheVariants.{Bind}
use Rattle.lload_spec.specs.Settings.{Settings, is_privileged}
use Rattle.lload_spec.specs.Operations.{is_request_of}
use Rattle.lload_spec.specs.Identity.{proxied, carried_for, identity_control}

pub tag_taken : (n t : ℕ) (xs : List ℕ) (ys : List ℕ) → tag_of (take (suc n) (t ∷ xs) ++ ys) ≡ t
tag_taken n t xs ys = refl

pub tag_more : (a b t : ℕ) (xs ys : List ℕ) → tag_of (take (suc a + b) (t ∷ xs) ++ ys) ≡ t
tag_more a b t xs ys = ap (λ n. tag_of (take n (t ∷ xs) ++ ys)) (let e : suc a + b ≡ suc (a + b) = omega arith in e)

pub kind_first : (c : Control) (rest : List ℕ) → kind_of (with_first c rest) ≡ kind_of rest
kind_first c [] = refl
kind_first c (t ∷ []) = refl
kind_first c (t ∷ n ∷ xs) = by (is_tag t) (length_of (take (length_size n) (n ∷ xs)))
  where
    put : Option Element → List ℕ
    put o = elim o [ None ↦ t ∷ n ∷ xs | Some op ↦ op.octets ++ list_with_first c op.behind ]

    whole : (size : ℕ) (b : Bool) → kind_of (put (if b then Some (record { tag = t; contents = take size (drop (suc (length_size n)) (t ∷ n ∷ xs)); octets = take (suc (length_size n) + size) (t ∷ n ∷ xs); behind = drop (suc (length_size n) + size) (t ∷ n ∷ xs) }) else None)) ≡ kind_of (t ∷ n ∷ xs)
    whole size true = ap kind_of_tag (tag_more (length_size n) size t (n ∷ xs) (list_with_first c (drop (suc (length_size n) + size) (t ∷ n ∷ xs))))
    whole size false = refl

    by : (b : Bool) (o : Option ℕ) → kind_of (put (if b then whole_element t (suc (length_size n)) (t ∷ n ∷ xs) o else None)) ≡ kind_of (t ∷ n ∷ xs)
    by true None = refl
    by true (Some size) = whole size (nat_le (suc (length_size n) + size) (length (t ∷ n ∷ xs)))
    by false o = refl

kind_kept : (s : Settings) (rest who : List ℕ) → kind_of (proxied s rest who) ≡ kind_of rest
kind_kept s rest who = by (not s.proxies_authorization || is_privileged s who)
  where
    by : (b : Bool) → kind_of (if b then rest else with_first (identity_control who) rest) ≡ kind_of rest
    by true = refl
    by false = kind_first (identity_control who) rest

pub carried_kind : (s : Settings) (m : Message) (who : List ℕ) → kind_of (carried_for s m who) ≡ kind_of m.rest
carried_kind s m who = by (is_request_of Bind m)
  where
    by : (b : Bool) → kind_of (if b then m.rest else proxied s m.rest who) ≡ kind_of m.rest
    by true = refl
    by false = kind_kept s m.rest who
