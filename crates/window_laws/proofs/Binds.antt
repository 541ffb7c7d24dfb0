-- The action of a Bind binds its client to nothing.
use Rattle.std.proofs.Common.{◌≡◌, ℕ, suc, ◌+◌, Bool, true, false, ◌==◌, List, [], ◌∷◌, length, take, drop, refl, ap, ◌∙◌}
use Rattle.std.specs.Prelude.{Option, Some, None, nat_le, if◌then◌else◌}
use Rattle.ldap_spec.specs.Controls.{Control, controls}
use Rattle.ldap_spec.specs.Elements.{Element, first_element, first_tagged, integer_of, length_of, length_size, whole_element}
use Rattle.ldap_spec.specs.Kinds.{kind_of, kind_of_tag, same_kind}
use Rattle.ldap_spec.specs.Requests.{Method, BindRequest, bind_fields, bind_of, method_of, request_of}
use Rattle.ldap_spec.specs.Tags.{add_request, bind_request, compare_request, delete_request, extended_request, modify_dn_request, modify_request, search_request}
use Rattle.lload_names.specs.declared.names.OpKind.{OpKind}
use Rattle.lload_names.specs.declared.names.OpKind.TheVariants.{Bind, Search, Modify, Add, Delete, ModifyDn, Compare, Extended}
use Rattle.lload_spec.specs.Binding.{action, action_by}
use Rattle.lload_spec.specs.Lists.{passes}
use Rattle.lload_spec.specs.Settings.{Settings, Ignore}
use Rattle.part_laws.proofs.ListLaws.{same_number}

-- the tag of a Bind
bind_tag : (t : ℕ) → passes (same_kind Bind) (kind_of_tag t) ≡ true → t ≡ bind_request
bind_tag t h = by (t == bind_request) refl (t == search_request) (t == modify_request) (t == add_request) (t == delete_request) (t == modify_dn_request) (t == compare_request) (t == extended_request) h
  where
    kind : Bool → Bool → Bool → Bool → Bool → Bool → Bool → Bool → Option OpKind
    kind a b c d e f g i =
        if a then Some Bind
        else if b then Some Search
        else if c then Some Modify
        else if d then Some Add
        else if e then Some Delete
        else if f then Some ModifyDn
        else if g then Some Compare
        else if i then Some Extended
        else None

    no : false ≡ true → t ≡ bind_request
    no k = absurd (let bad : false ≡ true = k in cc)

    by : (a : Bool) → (t == bind_request) ≡ a → (b c d e f g i : Bool) → passes (same_kind Bind) (kind a b c d e f g i) ≡ true → t ≡ bind_request
    by true q b c d e f g i k = same_number t bind_request q
    by false q true c d e f g i k = no k
    by false q false true d e f g i k = no k
    by false q false false true e f g i k = no k
    by false q false false false true f g i k = no k
    by false q false false false false true g i k = no k
    by false q false false false false false true i k = no k
    by false q false false false false false false true k = no k
    by false q false false false false false false false k = no k

-- The action by a Bind's fields, whatever they are.
module _ (s : Settings) (cs : Option (List Control)) where
  ignored : (o : Option (List Control)) (version : ℕ) (name : List ℕ) (m : Method) → action_by s o (Some (BindRequest version name m)) ≡ Ignore
  ignored None version name m = refl
  ignored (Some xs) version name m = refl

  unread : (o : Option (List Control)) → action_by s o None ≡ Ignore
  unread None = refl
  unread (Some xs) = refl

  by_fields : (contents : List ℕ) → action_by s cs (bind_fields contents) ≡ Ignore
  by_fields contents = first (first_tagged 0x02 contents)
    where
      method : (version : ℕ) (name : List ℕ) (o : Option Method) → action_by s cs (elim o [ None ↦ None | Some m ↦ Some (BindRequest version name m) ]) ≡ Ignore
      method version name None = unread cs
      method version name (Some m) = ignored cs version name m

      fields : (v : Option ℕ) (name : List ℕ) (o : Option Element) → action_by s cs (bind_of v name o) ≡ Ignore
      fields None name o = unread cs
      fields (Some version) name None = unread cs
      fields (Some version) name (Some e) = method version name (method_of e)

      second : (v : Element) (o : Option Element) → action_by s cs (elim o [ None ↦ None | Some n ↦ bind_of (integer_of v.contents) n.contents (first_element n.behind) ]) ≡ Ignore
      second v None = unread cs
      second v (Some n) = fields (integer_of v.contents) n.contents (first_element n.behind)

      first : (o : Option Element) → action_by s cs (elim o [ None ↦ None | Some v ↦ elim (first_tagged 0x04 v.behind) [ None ↦ None | Some n ↦ bind_of (integer_of v.contents) n.contents (first_element n.behind) ] ]) ≡ Ignore
      first None = unread cs
      first (Some v) = second v (first_tagged 0x04 v.behind)

  by_element : (bytes : List ℕ) (before : ℕ) (o : Option ℕ) → action_by s cs (elim (whole_element bind_request before bytes o) [ None ↦ None | Some e ↦ request_of e ]) ≡ Ignore
  by_element bytes before None = unread cs
  by_element bytes before (Some n) = whole (nat_le (before + n) (length bytes))
    where
      whole : (b : Bool) → action_by s cs (elim (if b then Some (record { tag = bind_request; contents = take n (drop before bytes); octets = take (before + n) bytes; behind = drop (before + n) bytes }) else None) [ None ↦ None | Some e ↦ request_of e ]) ≡ Ignore
      whole true = by_fields (take n (drop before bytes))
      whole false = unread cs

pub bind_ignored : (s : Settings) (rest : List ℕ) → passes (same_kind Bind) (kind_of rest) ≡ true → action s rest ≡ Ignore
bind_ignored s [] h = unread s (controls []) (controls [])
bind_ignored s (t ∷ []) h = unread s (controls (t ∷ [])) (controls (t ∷ []))
bind_ignored s (t ∷ n ∷ xs) h = ap (λ x. action s (x ∷ n ∷ xs)) (bind_tag t h) ∙ by_element s (controls (bind_request ∷ n ∷ xs)) (bind_request ∷ n ∷ xs) (suc (length_size n)) (length_of (take (length_size n) (n ∷ xs)))
