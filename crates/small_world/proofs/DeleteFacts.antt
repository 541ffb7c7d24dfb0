-- What is known of a Delete, of its answer, and of its refusal.
use Rattle.std.specs.Prelude.{◌≡◌, ℕ, suc, ◌+◌, Bool, true, false, ◌==◌, ◌&&◌, ◌||◌, not, nat_le, if◌then◌else◌, List, [], ◌∷◌, length, take, drop, Option, Some, None}
use Rattle.std.proofs.Common.{refl, ap, ◌∙◌, sym}
use Rattle.std.proofs.lemmas.Bool.{eqb-true, and_from, and_left, and_right, or_left}
use Rattle.ldap_spec.specs.Elements.{Element, first_element, whole_element, is_tag, length_size, length_of}
use Rattle.ldap_spec.specs.Kinds.{tag_of, kind_of, kind_of_tag, is_unbind, is_abandon, is_final, fits, same_kind, is_intermediate}
use Rattle.ldap_spec.specs.Messages.{Message}
use Rattle.ldap_spec.specs.Requests.{PlainRequest, request, request_of}
use Rattle.lload_names.specs.declared.names.Entry.{Entry}
use Rattle.lload_names.specs.declared.names.OpKind.TheVariants.{Bind, Delete}
use Rattle.lload_names.specs.declared.names.What.TheVariants.{In}
use Rattle.small_spec.specs.Lists.{passes}
use Rattle.small_spec.specs.Entries.{operation_message, in_message}
use Rattle.small_spec.specs.Operations.{is_bind_in, is_abandon_of, abandons_id, is_request_of}
use Rattle.small_spec.specs.Standing.{is_one_element}

-- the element that is there, with its tag
abbrev Tagged : ℕ → Option Element → Type 0
Tagged tag o = (e : Element) × (o ≡ Some e) × (e.tag ≡ tag)

tagged_if : (tag : ℕ) (e : Element) (b : Bool) → (e.tag == tag) ≡ b → passes (λ x. length x.behind == 0) (if b then Some e else None) ≡ true → Tagged tag (Some e)
tagged_if tag e true h k = (e, refl, eqb-true e.tag tag h)
tagged_if tag e false h k = absurd (let bad : false ≡ true = k in cc)

tagged : (tag : ℕ) (o : Option Element) → passes (λ x. length x.behind == 0) (elim o [ None ↦ None | Some e ↦ if e.tag == tag then Some e else None ]) ≡ true → Tagged tag o
tagged tag None h = absurd (let bad : false ≡ true = h in cc)
tagged tag (Some e) h = tagged_if tag e (e.tag == tag) refl h

-- the first element's tag is the first octet
tag_if : (tag : ℕ) (x e : Element) (b : Bool) → x.tag ≡ tag → (if b then Some x else None) ≡ Some e → tag ≡ e.tag
tag_if tag x e true k h = let same : x ≡ e = cc in sym k ∙ ap (λ y. y.tag) same
tag_if tag x e false k h = absurd (let bad : None ≡ Some e = h in cc)

tag_whole : (tag before : ℕ) (bytes : List ℕ) (o : Option ℕ) (e : Element) → whole_element tag before bytes o ≡ Some e → tag ≡ e.tag
tag_whole tag before bytes None e h = absurd (let bad : None ≡ Some e = h in cc)
tag_whole tag before bytes (Some n) e h = tag_if tag (record { tag = tag; contents = take n (drop before bytes); octets = take (before + n) bytes; behind = drop (before + n) bytes }) e (nat_le (before + n) (length bytes)) refl h

tag_unless : (tag : ℕ) (o : Option Element) (e : Element) (b : Bool) → (o ≡ Some e → tag ≡ e.tag) → (if b then o else None) ≡ Some e → tag ≡ e.tag
tag_unless tag o e true k h = k h
tag_unless tag o e false k h = absurd (let bad : None ≡ Some e = h in cc)

tag_first : (bytes : List ℕ) (e : Element) → first_element bytes ≡ Some e → tag_of bytes ≡ e.tag
tag_first [] e h = absurd (let bad : None ≡ Some e = h in cc)
tag_first (t ∷ []) e h = absurd (let bad : None ≡ Some e = h in cc)
tag_first (t ∷ n ∷ xs) e h = tag_unless t (whole_element t (suc (length_size n)) (t ∷ n ∷ xs) (length_of (take (length_size n) (n ∷ xs)))) e (is_tag t) (tag_whole t (suc (length_size n)) (t ∷ n ∷ xs) (length_of (take (length_size n) (n ∷ xs))) e) h

pub one_element_tag : (tag : ℕ) (rest : List ℕ) → is_one_element tag rest ≡ true → tag_of rest ≡ tag
one_element_tag tag rest h = let it : Tagged tag (first_element rest) = tagged tag (first_element rest) h in tag_first rest it.0 it.1 ∙ it.2

-- a Delete
pub delete_kind : (rest : List ℕ) → is_one_element 0x4A rest ≡ true → kind_of rest ≡ Some Delete
delete_kind rest h = ap kind_of_tag (one_element_tag 0x4A rest h)

pub delete_no_unbind : (rest : List ℕ) → is_one_element 0x4A rest ≡ true → is_unbind rest ≡ false
delete_no_unbind rest h = ap (λ t. t == 0x42) (one_element_tag 0x4A rest h)

pub delete_no_abandon : (rest : List ℕ) → is_one_element 0x4A rest ≡ true → is_abandon rest ≡ false
delete_no_abandon rest h = ap (λ t. t == 0x50) (one_element_tag 0x4A rest h)

pub delete_request : (rest : List ℕ) → is_one_element 0x4A rest ≡ true → request rest ≡ Some (PlainRequest Delete)
delete_request rest h = let it : Tagged 0x4A (first_element rest) = tagged 0x4A (first_element rest) h in ap (λ o. elim o [ None ↦ None | Some e ↦ request_of e ]) it.1 ∙ ap request_of (ap (λ t. record it.0 { tag = t }) it.2)

pub delete_is_of : (id : ℕ) (rest : List ℕ) → is_one_element 0x4A rest ≡ true → is_request_of Delete (record { id = id; rest = rest }) ≡ true
delete_is_of id rest h = ap (passes (same_kind Delete)) (delete_kind rest h)

pub delete_makes : (id : ℕ) (rest : List ℕ) → (id == 0) ≡ false → is_one_element 0x4A rest ≡ true → operation_message (In id rest) ≡ Some (record { id = id; rest = rest })
delete_makes id rest k h = ap (λ b. elim b [ true ↦ Some (record { id = id; rest = rest }) | false ↦ None ]) (and_from (not (id == 0) && not (is_unbind rest)) (not (is_abandon rest)) (and_from (not (id == 0)) (not (is_unbind rest)) (ap not k) (ap not (delete_no_unbind rest h))) (ap not (delete_no_abandon rest h)))

pub delete_no_bind_in : (e : Entry) (id : ℕ) (rest : List ℕ) → operation_message e.what ≡ Some (record { id = id; rest = rest }) → is_one_element 0x4A rest ≡ true → is_bind_in e ≡ false
delete_no_bind_in e id rest m h = ap (passes (λ n. passes (same_kind Bind) (kind_of n.rest))) m ∙ ap (passes (same_kind Bind)) (delete_kind rest h)

pub delete_no_abandon_of : (opened : Message) (e : Entry) (id : ℕ) (rest : List ℕ) → in_message e.what ≡ Some (record { id = id; rest = rest }) → is_one_element 0x4A rest ≡ true → is_abandon_of opened e ≡ false
delete_no_abandon_of opened e id rest m h = ap (passes (λ n. not (n.id == 0) && abandons_id opened.id (request n.rest) && not (is_request_of Bind opened))) m ∙ and_left (not (id == 0) && abandons_id opened.id (request rest)) _ (and_right (not (id == 0)) (abandons_id opened.id (request rest)) (ap (abandons_id opened.id) (delete_request rest h)))

-- the answer to a Delete
pub deleted_is_final : (rest : List ℕ) → is_one_element 0x6B rest ≡ true → is_final Delete rest ≡ true
deleted_is_final rest h = ap (λ t. t == 0x6B) (one_element_tag 0x6B rest h)

pub deleted_fits : (rest : List ℕ) → is_one_element 0x6B rest ≡ true → fits Delete rest ≡ true
deleted_fits rest h = or_left (is_final Delete rest || is_intermediate rest) _ (or_left (is_final Delete rest) (is_intermediate rest) (deleted_is_final rest h))
