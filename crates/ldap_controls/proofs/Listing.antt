-- Controls, one at a time.
use Rattle.std.proofs.Common.{◌≡◌, ℕ, ◌<◌, Bool, true, false, eqb, cond, List, [], ◌∷◌, length, Option, Some, None, is_some, unwrap_or, refl, ap, ◌∙◌, sym, arith}
use Rattle.ldap_spec.specs.Tags.{octet_string, sequence}
use Rattle.ldap_spec.specs.Elements.{Element, elements, first_element, first_tagged}
use Rattle.ldap_spec.specs.Controls.{Control, control_from, control_of, controls_of, listed_controls}
use Rattle.ldap_spec.proofs.Cases.{yes, number_same}
use Rattle.ldap_spec.proofs.ElementLists.{shorter, elements_first, elements_none}
use Rattle.ldap_spec.proofs.Spelled.{tagged_apart}
use Rattle.ldap_controls.specs.Lists.{listed, nothing_listed, with_control, BeginsWith}

abbrev controls_from : Option (List Element) → Option (List Control)
controls_from o = elim o [ None ↦ None | Some es ↦ controls_of es ]

abbrev put : Element → Option (List Element) → Option (List Element)
put e o = elim o [ None ↦ None | Some es ↦ Some (e ∷ es) ]

abbrev control_put : Option Control → Option (List Control) → Option (List Control)
control_put o cs = elim o [ None ↦ None | Some c ↦ with_control c cs ]

-- the controls of elements, by the first's own
controls_put : (e : Element) (o : Option (List Element)) → (cs : Option Control) → control_of e ≡ cs → controls_from (put e o) ≡ control_put cs (controls_from o)
controls_put e None None h = refl
controls_put e None (Some c) h = refl
controls_put e (Some es) cs h = ap (λ (o : Option Control). control_put o (controls_of es)) h

-- contents that begin with an element: its control stands before those behind it, or none can be read
behind_first : (contents : List ℕ) (e : Element) (cs : Option Control) → first_element contents ≡ Some e → control_of e ≡ cs → listed_controls contents ≡ control_put cs (listed_controls e.behind)
behind_first contents e cs f h = ap controls_from (elements_first contents e f) ∙ controls_put e (elements e.behind) cs h

abbrev control_by_oid : Option Element → Option Control
control_by_oid o = elim o [ None ↦ None | Some oid ↦ Some (control_from oid.contents oid.behind) ]

-- the control that a sequence is, by the element of its OID
of_sequence : (e : Element) (o : Option Element) → e.tag ≡ sequence → first_tagged octet_string e.contents ≡ o → control_of e ≡ control_by_oid o
of_sequence e o t h = yes (eqb e.tag sequence) _ None (number_same e.tag sequence t) ∙ ap control_by_oid h

-- contents that begin with a control
pub begins : (contents : List ℕ) (e oid : Element) → first_tagged sequence contents ≡ Some e → first_tagged octet_string e.contents ≡ Some oid →
    BeginsWith contents (control_from oid.contents oid.behind) e.behind
begins contents e oid h o =
    let a = tagged_apart sequence contents e h in
    let s = shorter contents e a.0 in
    record {
      is = behind_first contents e (Some (control_from oid.contents oid.behind)) a.0 (of_sequence e (Some oid) a.1 o);
      shorter = omega (arith, s.0, s.1);
    }

-- contents that begin with a sequence, which has no OID
pub no_oid : (contents : List ℕ) (e : Element) → first_tagged sequence contents ≡ Some e → first_tagged octet_string e.contents ≡ None → listed_controls contents ≡ nothing_listed contents
no_oid [] e h o = absurd (cc)
no_oid (x ∷ xs) e h o =
    let a = tagged_apart sequence (x ∷ xs) e h in
    behind_first (x ∷ xs) e None a.0 (of_sequence e None a.1 o)

other_control : (e : Element) (b : Bool) → eqb e.tag sequence ≡ b → b ≡ false → control_of e ≡ None
other_control e true t f = absurd (cc)
other_control e false t f = ap (λ (c : Bool). cond c (control_by_oid (first_tagged octet_string e.contents)) None) t

untagged : (contents : List ℕ) (e : Element) (b : Bool) → eqb e.tag sequence ≡ b → first_element contents ≡ Some e → first_tagged sequence contents ≡ None → control_of e ≡ None
untagged contents e true t f h =
    absurd (cc (f, t, h))
untagged contents e false t f h = other_control e false t refl

nothing_behind : (x : ℕ) (xs : List ℕ) (o : Option Element) → first_element (x ∷ xs) ≡ o → first_tagged sequence (x ∷ xs) ≡ None → listed_controls (x ∷ xs) ≡ None
nothing_behind x xs None f h = ap controls_from (elements_none (x ∷ xs) (omega arith) f)
nothing_behind x xs (Some e) f h = behind_first (x ∷ xs) e None f (untagged (x ∷ xs) e (eqb e.tag sequence) refl f h)

-- contents that begin with no sequence
pub no_sequence : (contents : List ℕ) → first_tagged sequence contents ≡ None → listed_controls contents ≡ nothing_listed contents
no_sequence [] h = refl
no_sequence (x ∷ xs) h = nothing_behind x xs (first_element (x ∷ xs)) refl h

-- contents that can be read and begin with a control
pub record Begun (contents : List ℕ) (c : Control) (behind : List ℕ) : Type 0 where
  pub read : listed_controls behind ≡ Some (listed behind)
  pub is : listed contents ≡ c ∷ listed behind

begun_by : (c : Control) (contents behind : List ℕ) (o : Option (List Control)) → listed_controls behind ≡ o → listed_controls contents ≡ with_control c o → is_some (listed_controls contents) ≡ true → Begun contents c behind
begun_by c contents behind None b h s = absurd (cc)
begun_by c contents behind (Some cs) b h s =
    let same : listed behind ≡ cs = ap (λ (o : Option (List Control)). unwrap_or o []) b in
    record { read = b ∙ ap Some (sym same); is = ap (λ (o : Option (List Control)). unwrap_or o []) h ∙ ap (λ (xs : List Control). c ∷ xs) (sym same) }

pub begun : (contents : List ℕ) (c : Control) (behind : List ℕ) → listed_controls contents ≡ Some (listed contents) → BeginsWith contents c behind → Begun contents c behind
begun contents c behind h b = begun_by c contents behind (listed_controls behind) refl b.is (ap is_some h)

read_put : (c : Control) (o : Option (List Control)) → is_some (with_control c o) ≡ is_some o
read_put c None = refl
read_put c (Some cs) = refl

-- contents that begin with a control can be read exactly where what stands behind it can
pub read_behind : (contents : List ℕ) (c : Control) (behind : List ℕ) → BeginsWith contents c behind → is_some (listed_controls contents) ≡ is_some (listed_controls behind)
read_behind contents c behind b = ap is_some b.is ∙ read_put c (listed_controls behind)

unread_by : (contents : List ℕ) (o : Option (List Control)) → listed_controls contents ≡ o → is_some o ≡ false → listed_controls contents ≡ None
unread_by contents None h s = h
unread_by contents (Some cs) h s = absurd (cc)

-- contents that can't be read, since they begin with no control further on
pub unread : (contents left : List ℕ) → 0 < length left → listed_controls left ≡ nothing_listed left → is_some (listed_controls left) ≡ is_some (listed_controls contents) → listed_controls contents ≡ None
unread contents [] l h s = absurd (omega arith)
unread contents (x ∷ xs) l h s = unread_by contents (listed_controls contents) refl (sym s ∙ ap is_some h)
