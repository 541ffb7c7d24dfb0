-- What a Cancel that ends a live operation says, and the end that it makes.
use Rattle.std.proofs.Common.{◌≡◌, ℕ, Bool, true, false, ◌==◌, ◌&&◌, not, if◌then◌else◌, List, [], refl, ap, ◌∙◌, sym, subst}
use Rattle.std.specs.Prelude.{Option, Some, None, find, is_none}
use Rattle.std.specs.List.{list_any}
use Rattle.std.specs.Str.{bytes_eq}
use Rattle.std.proofs.lemmas.Slice.Eq.{bytes_eq-Decides}
use Rattle.ldap_spec.specs.Bodies.{cancel_answer}
use Rattle.ldap_spec.specs.Controls.{cancel_name, controls, start_tls}
use Rattle.ldap_spec.specs.Kinds.{is_final, kind_of}
use Rattle.ldap_spec.specs.Messages.{Message}
use Rattle.ldap_spec.specs.Requests.{Request, AbandonRequest, BindRequest, ExtendedRequest, PlainRequest, UnbindRequest, cancel_id, is_cancel, names_cancel, request}
use Rattle.lload_names.specs.declared.names.CancelAnswer.TheVariants.{C13, C14, C15, C16}
use Rattle.lload_names.specs.declared.names.EndWhy.TheVariants.{IdInUse, Unreadable, ZeroId}
use Rattle.lload_names.specs.declared.names.Entry.{Entry}
use Rattle.lload_names.specs.declared.names.OpKind.{OpKind}
use Rattle.lload_names.specs.declared.names.OpKind.TheVariants.{Add, Bind, Compare, Delete, Extended, Modify, ModifyDn, Search}
use Rattle.lload_names.specs.declared.names.Refusal.TheVariants.{C2, C6, C7, C8, C10, C11}
use Rattle.lload_names.specs.declared.names.What.{What}
use Rattle.lload_names.specs.declared.names.What.TheVariants as what
use Rattle.lload_spec.specs.Binding.{action, is_action}
use Rattle.lload_spec.specs.Caused.{is_cancel_answer_of}
use Rattle.lload_spec.specs.Entries.{is_this, makes_operation, out_message}
use Rattle.lload_spec.specs.FirstCheck.{Check, Abandons, Answers, Cancels, ClientFacts, Ends, GoesOn, LiveRequest, Refuses, Unbinds, cancels, check, check_cancel, check_named, check_request, check_restrictions, is_full, is_in_use, is_proxied_already, may_be_canceled}
use Rattle.lload_spec.specs.Lists.{last_passes, passes}
use Rattle.lload_spec.specs.Operations.{Answered, Cancelled, Manner, is_cancel_naming, manner_of, takes_id}
use Rattle.lload_spec.specs.Settings.{Reject, Settings}
use Rattle.lload_spec.proofs.Growth.{left, right, both}
use Rattle.lload_laws.proofs.ListLaws.{bytes_same, found_passes}
use Rattle.part_laws.proofs.ListLaws.{eqb_same, same_number}
use Rattle.leave_laws.proofs.Manners.{is_clients}

-- A check that cancels is of a Cancel that names this identifier.

abbrev names_it : ℕ → Check → Message → Bool
names_it id (Cancels n sort) m = n == id
names_it id _ m = false

other : {C : Type 0} (k : Check) (id : ℕ) (sort : OpKind) (m : Message) → names_it id k m ≡ false → k ≡ Cancels id sort → C
other k id sort m h e = absurd (let bad : false ≡ true = sym h ∙ ap (λ x. names_it id x m) e ∙ eqb_same id in cc)

module _ (s : Settings) (f : ClientFacts) (m : Message) (id : ℕ) (kind : OpKind) where
  of_value : (o : Option ℕ) → check_cancel f m.id o ≡ Cancels id kind → passes (λ n. n == id) o ≡ true
  of_value None h = other (Answers C16) id kind m refl h
  of_value (Some named) h = by (named == m.id) h
    where
      of_live : (o : Option LiveRequest) → find (may_be_canceled named) f.live ≡ o → cancels o ≡ Cancels id kind → (named == id) ≡ true
      of_live None e k = other (Answers C14) id kind m refl k
      of_live (Some x) e k = by_kind x.kind k
        where
          by_kind : (q : Option OpKind) → (elim q [ None ↦ Answers C14 | Some c ↦ Cancels x.id c ]) ≡ Cancels id kind → (named == id) ≡ true
          by_kind None j = other (Answers C14) id kind m refl j
          by_kind (Some c) j =
              let same : x.id ≡ id = cc in
              let name : x.id ≡ named = same_number x.id named (left (x.id == named) _ (found_passes (may_be_canceled named) f.live x e)) in
              ap (λ n. named == n) (sym same ∙ name) ∙ eqb_same named

      by : (b : Bool) → (elim b [ true ↦ Answers C15 | false ↦ cancels (find (may_be_canceled named) f.live) ]) ≡ Cancels id kind → (named == id) ≡ true
      by true k = other (Answers C15) id kind m refl k
      by false k = of_live (find (may_be_canceled named) f.live) refl k

  of_name : (name : List ℕ) → check_named s f m name ≡ Cancels id kind → (bytes_eq name cancel_name && passes (λ n. n == id) (cancel_id m.rest)) ≡ true
  of_name name h = by (is_none (controls m.rest)) f.in_exchange (bytes_eq name start_tls) (bytes_eq name cancel_name) h
    where
      restricted : (a b c : Bool) → (if a then Refuses C8 else if b then Refuses C6 else if c then Refuses C2 else GoesOn) ≡ Cancels id kind → (false && passes (λ n. n == id) (cancel_id m.rest)) ≡ true
      restricted true b c k = other (Refuses C8) id kind m refl k
      restricted false true c k = other (Refuses C6) id kind m refl k
      restricted false false true k = other (Refuses C2) id kind m refl k
      restricted false false false k = other GoesOn id kind m refl k

      by : (a b c d : Bool) → (if a then Ends Unreadable else if b then Refuses C7 else if c then Refuses C10 else if d then check_cancel f m.id (cancel_id m.rest) else check_restrictions s f m.rest) ≡ Cancels id kind → (d && passes (λ n. n == id) (cancel_id m.rest)) ≡ true
      by true b c d k = other (Ends Unreadable) id kind m refl k
      by false true c d k = other (Refuses C7) id kind m refl k
      by false false true d k = other (Refuses C10) id kind m refl k
      by false false false true k = of_value (cancel_id m.rest) k
      by false false false false k = restricted (is_proxied_already s f m.rest) (is_action Reject (action s m.rest)) (is_full s f) k

  of_request : (r : Option Request) → check_request s f m r ≡ Cancels id kind → (names_cancel r && passes (λ n. n == id) (cancel_id m.rest)) ≡ true
  of_request None k = other (Ends Unreadable) id kind m refl k
  of_request (Some (BindRequest version name method)) k = by (version == 3) k
    where
      by : (b : Bool) → (if b then GoesOn else Refuses C11) ≡ Cancels id kind → (false && passes (λ n. n == id) (cancel_id m.rest)) ≡ true
      by true j = other GoesOn id kind m refl j
      by false j = other (Refuses C11) id kind m refl j
  of_request (Some UnbindRequest) k = other Unbinds id kind m refl k
  of_request (Some (AbandonRequest n)) k = other (Abandons n) id kind m refl k
  of_request (Some (ExtendedRequest name)) k = of_name name k
  of_request (Some (PlainRequest sort)) k = absurd (let bad : false ≡ true = of_name [] k in cc)

  pub cancel_says : check s f m ≡ Cancels id kind → (is_cancel m.rest && passes (λ n. n == id) (cancel_id m.rest)) ≡ true
  cancel_says h = by (m.id == 0) (makes_operation m && is_in_use f m.id) h
    where
      by : (z b : Bool) → (if z then Ends ZeroId else if b then Ends IdInUse else check_request s f m (request m.rest)) ≡ Cancels id kind → (is_cancel m.rest && passes (λ n. n == id) (cancel_id m.rest)) ≡ true
      by true b k = other (Ends ZeroId) id kind m refl k
      by false true k = other (Ends IdInUse) id kind m refl k
      by false false k = of_request (request m.rest) k

-- The end that it makes.

cancel_final : (kind : OpKind) → is_final kind (cancel_answer kind C13) ≡ true
cancel_final Bind = refl
cancel_final Search = refl
cancel_final Modify = refl
cancel_final Add = refl
cancel_final Delete = refl
cancel_final ModifyDn = refl
cancel_final Compare = refl
cancel_final Extended = refl

pub canceled_ending : (r : Message) (since : List Entry) (e : Entry) (kind : OpKind) → kind_of r.rest ≡ Some kind → list_any (takes_id r.id) since ≡ false → last_passes (is_cancel_naming r) since ≡ true → is_cancel_answer_of C13 r.id (Some kind) e ≡ true → is_clients (manner_of r since e) ≡ true
canceled_ending r since e kind sort untaken named h = by e.what refl h
  where
    final_text : Bool → Bool → Option OpKind → List ℕ → Bool
    final_text same taken k rest = (same && not taken) && passes (λ q. is_final q rest) k

    by : (w : What) → e.what ≡ w → passes (is_this r.id (cancel_answer kind C13)) (out_message w) ≡ true → is_clients (manner_of r since e) ≡ true
    by (what.Out id rest) z k =
        let text : rest ≡ cancel_answer kind C13 = (bytes_eq-Decides rest (cancel_answer kind C13)).0 (right (id == r.id) _ k) in
        let final : final_text (id == r.id) (list_any (takes_id r.id) since) (kind_of r.rest) rest ≡ true =
        both (id == r.id && not (list_any (takes_id r.id) since)) _ (both (id == r.id) _ (left (id == r.id) _ k) (ap not untaken)) (ap (λ q. passes (λ v. is_final v rest) q) sort ∙ ap (λ v. is_final kind v) text ∙ cancel_final kind) in
        let told : (passes (λ q. bytes_eq rest (cancel_answer q C13)) (kind_of r.rest) && last_passes (is_cancel_naming r) since) ≡ true =
        both (passes (λ q. bytes_eq rest (cancel_answer q C13)) (kind_of r.rest)) _ (ap (passes (λ q. bytes_eq rest (cancel_answer q C13))) sort ∙ ap (λ v. bytes_eq v (cancel_answer kind C13)) text ∙ bytes_same (cancel_answer kind C13)) named in
        subst (λ w. is_clients (manner_of r since (record { part = e.part; at = e.at; what = w })) ≡ true) (sym z)
        (ap (λ a. is_clients (out_manner a (passes (λ q. bytes_eq rest (cancel_answer q C13)) (kind_of r.rest) && last_passes (is_cancel_naming r) since))) final ∙ ap (λ b. is_clients (out_manner true b)) told)
      where
        out_manner : Bool → Bool → Option Manner
        out_manner a b = if a && b then Some Cancelled else if a then Some Answered else None
    by _ z k = absurd (let bad : false ≡ true = k in cc)
