-- A Bind binds its client to nothing.
use Rattle.std.proofs.Common.{◌≡◌, ℕ, suc, ◌+◌, Bool, true, false, ◌==◌, List, [], ◌∷◌, length, take, drop, Option, Some, None, refl, ap, ◌∙◌, sym}
use Rattle.std.specs.Prelude.{nat_le, if◌then◌else◌}
use Rattle.ldap_spec.specs.Controls.{Control, controls}
use Rattle.ldap_spec.specs.Elements.{Element, whole_element, first_element, length_of, is_tag, length_size, first_tagged, integer_of}
use Rattle.ldap_spec.specs.Kinds.{kind_of, kind_of_tag}
use Rattle.ldap_spec.specs.Requests.{Request, Method, BindRequest, UnbindRequest, request, request_of, method_of, bind_of, bind_fields, abandon_fields, extended_fields, plain_fields}
use Rattle.lload_names.specs.declared.names.OpKind.{OpKind}
use Rattle.lload_names.specs.declared.names.OpKind.TheVariants.{Bind, Search, Modify, Add, Delete, ModifyDn, Compare, Extended}
use Rattle.lload_spec.specs.Binding.{action, action_by}
use Rattle.lload_spec.specs.Settings.{Settings, Action, Ignore}

bind-tag : (t : ℕ) → kind_of_tag t ≡ Some Bind → (t == 0x60) ≡ true
bind-tag t e = by (t == 0x60) (t == 0x63) (t == 0x66) (t == 0x68) (t == 0x4A) (t == 0x6C) (t == 0x6E) (t == 0x77) e
  where
    by : (a b c d f g h i : Bool) → (if a then Some Bind else if b then Some Search else if c then Some Modify else if d then Some Add else if f then Some Delete else if g then Some ModifyDn else if h then Some Compare else if i then Some Extended else None) ≡ Some Bind → a ≡ true
    by true b c d f g h i k = refl
    by false true c d f g h i k = absurd (let bad : ◌≡◌ {A = Option OpKind} (Some Search) (Some Bind) = k in cc)
    by false false true d f g h i k = absurd (let bad : ◌≡◌ {A = Option OpKind} (Some Modify) (Some Bind) = k in cc)
    by false false false true f g h i k = absurd (let bad : ◌≡◌ {A = Option OpKind} (Some Add) (Some Bind) = k in cc)
    by false false false false true g h i k = absurd (let bad : ◌≡◌ {A = Option OpKind} (Some Delete) (Some Bind) = k in cc)
    by false false false false false true h i k = absurd (let bad : ◌≡◌ {A = Option OpKind} (Some ModifyDn) (Some Bind) = k in cc)
    by false false false false false false true i k = absurd (let bad : ◌≡◌ {A = Option OpKind} (Some Compare) (Some Bind) = k in cc)
    by false false false false false false false true k = absurd (let bad : ◌≡◌ {A = Option OpKind} (Some Extended) (Some Bind) = k in cc)
    by false false false false false false false false k = absurd (let bad : ◌≡◌ {A = Option OpKind} None (Some Bind) = k in cc)

module _ (s : Settings) where
  none-ignored : (cs : Option (List Control)) → action_by s cs None ≡ Ignore
  none-ignored None = refl
  none-ignored (Some cs) = refl

  bind-ignored : (cs : Option (List Control)) (v : ℕ) (name : List ℕ) (m : Method) → action_by s cs (Some (BindRequest v name m)) ≡ Ignore
  bind-ignored None v name m = refl
  bind-ignored (Some cs) v name m = refl

  fields-ignored : (cs : Option (List Control)) (contents : List ℕ) → action_by s cs (bind_fields contents) ≡ Ignore
  fields-ignored cs contents = first (first_tagged 0x02 contents)
    where
      method : (version : ℕ) (name : List ℕ) (o : Option Method) → action_by s cs (elim o [ None ↦ None | Some m ↦ Some (BindRequest version name m) ]) ≡ Ignore
      method version name None = none-ignored cs
      method version name (Some m) = bind-ignored cs version name m

      bind : (v : Option ℕ) (name : List ℕ) (o : Option Element) → action_by s cs (bind_of v name o) ≡ Ignore
      bind None name o = none-ignored cs
      bind (Some version) name None = none-ignored cs
      bind (Some version) name (Some e) = method version name (method_of e)

      second : (v : Element) (o : Option Element) → action_by s cs (elim o [ None ↦ None | Some n ↦ bind_of (integer_of v.contents) n.contents (first_element n.behind) ]) ≡ Ignore
      second v None = none-ignored cs
      second v (Some n) = bind (integer_of v.contents) n.contents (first_element n.behind)

      first : (o : Option Element) → action_by s cs (elim o [ None ↦ None | Some v ↦ elim (first_tagged 0x04 v.behind) [ None ↦ None | Some n ↦ bind_of (integer_of v.contents) n.contents (first_element n.behind) ] ]) ≡ Ignore
      first None = none-ignored cs
      first (Some v) = second v (first_tagged 0x04 v.behind)

  by-tag : (cs : Option (List Control)) (rest : List ℕ) → kind_of rest ≡ Some Bind → action_by s cs (request rest) ≡ Ignore
  by-tag cs [] e = absurd (let bad : ◌≡◌ {A = Option OpKind} None (Some Bind) = e in cc)
  by-tag cs (t ∷ []) e = none-ignored cs
  by-tag cs (t ∷ n ∷ xs) e = by (is_tag t) (length_of (take (length_size n) (n ∷ xs)))
    where
      put : Option Element → Option Request
      put o = elim o [ None ↦ None | Some e ↦ request_of e ]

      element : (x : Element) → (x.tag == 0x60) ≡ true → action_by s cs (request_of x) ≡ Ignore
      element x f = ap (λ b. action_by s cs (if b then bind_fields x.contents else if x.tag == 0x42 then Some UnbindRequest else if x.tag == 0x50 then abandon_fields (integer_of x.contents) else if x.tag == 0x77 then extended_fields x.contents else plain_fields (kind_of_tag x.tag))) f ∙ fields-ignored cs x.contents

      whole : (size : ℕ) (b : Bool) → action_by s cs (put (if b then Some (record { tag = t; contents = take size (drop (suc (length_size n)) (t ∷ n ∷ xs)); octets = take (suc (length_size n) + size) (t ∷ n ∷ xs); behind = drop (suc (length_size n) + size) (t ∷ n ∷ xs) }) else None)) ≡ Ignore
      whole size true = element (record { tag = t; contents = take size (drop (suc (length_size n)) (t ∷ n ∷ xs)); octets = take (suc (length_size n) + size) (t ∷ n ∷ xs); behind = drop (suc (length_size n) + size) (t ∷ n ∷ xs) }) (bind-tag t e)
      whole size false = none-ignored cs

      by : (b : Bool) (o : Option ℕ) → action_by s cs (put (if b then whole_element t (suc (length_size n)) (t ∷ n ∷ xs) o else None)) ≡ Ignore
      by true None = none-ignored cs
      by true (Some size) = whole size (nat_le (suc (length_size n) + size) (length (t ∷ n ∷ xs)))
      by false o = none-ignored cs

  pub binds-to-nothing : (rest : List ℕ) → kind_of rest ≡ Some Bind → action s rest ≡ Ignore
  binds-to-nothing rest e = by-tag (controls rest) rest e
