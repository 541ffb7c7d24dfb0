-- An answer that tells the identity rightly gives its client the identity that the family says.
use Rattle.std.proofs.Common.{◌≡◌, ℕ, Bool, true, false, ◌==◌, ◌&&◌, not, List, [], ◌∷◌, ◌++◌, length, refl, ap, ◌∙◌, sym}
use Rattle.std.specs.Prelude.{Option, Some, None, cond, find, filter, unwrap_or, if◌then◌else◌}
use Rattle.std.specs.List.{list_all}
use Rattle.std.proofs.lemmas.Slice.Eq.{bytes_eq-Decides}
use Rattle.ldap_spec.specs.Messages.{Message}
use Rattle.ldap_spec.specs.Requests.{Request, BindRequest, Simple, request}
use Rattle.ldap_spec.specs.Responses.{has_code}
use Rattle.ldap_spec.specs.Tags.{success}
use Rattle.lload_names.specs.Same.{same_who}
use Rattle.lload_names.specs.declared.names.Entry.{Entry}
use Rattle.lload_names.specs.declared.names.Letter.TheVariants.{Reply}
use Rattle.lload_names.specs.declared.names.OpKind.TheVariants.{Bind}
use Rattle.lload_names.specs.declared.names.OpName.{OpName}
use Rattle.lload_names.specs.declared.names.PartName.{PartName}
use Rattle.lload_spec.specs.Answers.{closing, wants_identity}
use Rattle.lload_spec.specs.Identity.{identity_of, who_by}
use Rattle.lload_spec.specs.Journal.{Family, same_op}
use Rattle.lload_spec.specs.Lists.{passes, implies}
use Rattle.lload_spec.specs.Operations.{Operation, operation, operation_in, operations, is_of, is_final_for, is_request_of, is_simple_bind, last_bind}
use Rattle.lload_spec.specs.Settings.{Settings}
use Rattle.lload_spec.proofs.Growth.{left, right, both}
use Rattle.lload_laws.specs.ClientGrowth.{is_named_within}
use Rattle.lload_laws.proofs.ClientGrowth.{own_names}
use Rattle.lload_laws.proofs.ListLaws.{found, found_passes, implied}
use Rattle.part_laws.proofs.ListLaws.{eqb_sym, eq_eqb, not_both, not_true, same_number, same_op_refl, same_op_sym, same_op_eq}
use Rattle.part_spec.specs.ClientState.{ClientState, ClientRow, row_named, row_under}
use Rattle.client_laws.proofs.Matches.{is_apart, are_apart}
use Rattle.client_share_laws.proofs.ClientCases.{taken}
use Rattle.client_share_laws.proofs.OperationNames.{are_apart as names_apart, named_apart}
use Rattle.client_answer_laws.proofs.Each.{Each, each_filter}
use Rattle.carried_laws.proofs.Stays.{Kept, operation_kept}
use Rattle.carried_laws.specs.Laws.{is_identity_right}
use Rattle.identity_laws.proofs.Finals.{last_all, last_passes_it}
use Rattle.identity_laws.proofs.BoundOut.{each_end, WhoRight}

pub each_of : {A : Type 0} (P : A → Type 0) (t : A → Bool) (xs : List A) → ((x : A) → t x ≡ true → P x) → list_all t xs ≡ true → Each P xs
each_of P t [] f h = tt
each_of P t (x ∷ xs) f h = (f x (left (t x) _ h), each_of P t xs f (right (t x) _ h))

-- The row of an operation is the one under its identifier.

alone : (t : ClientRow → Bool) (rows : List ClientRow) (r : ClientRow) → are_apart rows ≡ true → find t rows ≡ Some r → Each (λ x. (x.request.id == r.request.id) ≡ true → x ≡ r) rows
alone t [] r a e = absurd (let bad : None ≡ Some r = e in cc)
alone t (x ∷ rows) r a e = by (t x) e (alone t rows r (right (list_all (is_apart x) rows) _ a))
  where
    others : list_all (is_apart x) rows ≡ true
    others = left (list_all (is_apart x) rows) _ a

    by : (b : Bool) → cond b (Some x) (find t rows) ≡ Some r → (find t rows ≡ Some r → Each (λ y. (y.request.id == r.request.id) ≡ true → y ≡ r) rows) → Each (λ y. (y.request.id == r.request.id) ≡ true → y ≡ r) (x ∷ rows)
    by true k ih =
        let same : x ≡ r = cc in
        (λ j. same, each_of (λ y. (y.request.id == r.request.id) ≡ true → y ≡ r) (is_apart x) rows (λ y m j. not_both (x.request.id == y.request.id) (eqb_sym x.request.id y.request.id ∙ ap (λ (z : ClientRow). y.request.id == z.request.id) same ∙ j) (not_true (x.request.id == y.request.id) (right (not (x.k == y.k)) _ m))) others)
    by false k ih = (λ j. not_both (x.request.id == r.request.id) j (not_true (x.request.id == r.request.id) (right (not (x.k == r.k)) _ (found (is_apart x) t rows r k others))), ih k)

row_is : (p : ClientState) (op : OpName) (r q : ClientRow) → are_apart p.rows ≡ true → row_named p op ≡ Some r → row_under p r.request.id ≡ Some q → q ≡ r
row_is p op r q a e f = each_end (λ x. x ≡ r) (filter (λ x. x.request.id == r.request.id) p.rows) q f (each_filter (λ x. (x.request.id == r.request.id) ≡ true → x ≡ r) (λ x. x ≡ r) (λ x. x.request.id == r.request.id) p.rows (λ x k g. g k) (alone (λ x. p.number == op.client && x.k == op.k) p.rows r a e))

-- The operation of a name is itself.

each_named : (os : List Operation) → names_apart os ≡ true → Each (λ o. find (λ q. same_op o.name q.name) os ≡ Some o) os
each_named [] h = tt
each_named (o ∷ os) h = (ap (λ b. cond b (Some o) (find (λ q. same_op o.name q.name) os)) (same_op_refl o.name), rest os (each_of (λ q. same_op o.name q.name ≡ false) (λ q. not (same_op o.name q.name)) os (λ q k. not_true (same_op o.name q.name) k) (left (list_all (λ q. not (same_op o.name q.name)) os) _ h)) (each_named os (right (list_all (λ q. not (same_op o.name q.name)) os) _ h)))
  where
    rest : (ps : List Operation) → Each (λ q. same_op o.name q.name ≡ false) ps → Each (λ q. find (λ x. same_op q.name x.name) os ≡ Some q) ps → Each (λ q. find (λ x. same_op q.name x.name) (o ∷ os) ≡ Some q) ps
    rest [] a b = tt
    rest (q ∷ ps) a b = (ap (λ x. cond x (Some o) (find (λ y. same_op q.name y.name) os)) (same_op_sym q.name o.name ∙ a.0) ∙ b.0, rest ps a.1 b.1)

pub bind_named : (c : ℕ) (place : List Entry) (b : Operation) → last_bind c place ≡ Some b → operation_in c place b.name ≡ Some b
bind_named c place b h = each_end (λ o. operation_in c place o.name ≡ Some o) (filter (is_of Bind) (operations c place)) b h (each_filter (λ o. operation_in c place o.name ≡ Some o) (λ o. operation_in c place o.name ≡ Some o) (is_of Bind) (operations c place) (λ o k g. g) (each_named (operations c place) (named_apart c 0 [] place)))

pub bind_client : (c : ℕ) (place : List Entry) (b : Operation) → last_bind c place ≡ Some b → b.name.client ≡ c
bind_client c place b h = same_number b.name.client c (left (b.name.client == c) _ (left _ _ (last_all (is_of Bind) (is_named_within c (length (operations c place))) (operations c place) b h (own_names c place))))

-- What an answer tells.

same_told : (a b : Option (List ℕ)) → same_who a b ≡ true → a ≡ b
same_told None None h = refl
same_told (Some x) (Some y) h = ap Some ((bytes_eq-Decides x y).0 h)
same_told None (Some y) h = absurd (let bad : false ≡ true = h in cc)
same_told (Some x) None h = absurd (let bad : false ≡ true = h in cc)

-- the identity of a Bind looks at what is told only where it is asked for
identity_same : (s : Settings) (a b : Option (List ℕ)) (m : Message) → is_request_of Bind m ≡ true → (wants_identity s m ≡ true → a ≡ b) → identity_of s a (request m.rest) ≡ identity_of s b (request m.rest)
identity_same s a b m bind h = by s.proxies_authorization (request m.rest) refl (λ e. h (ap (λ x. s.proxies_authorization && x && not (passes is_simple_bind (request m.rest))) bind ∙ e))
  where
    text : Bool → Option (List ℕ) → List ℕ
    text p who = if p then unwrap_or who [] else []

    told : (p : Bool) → ((p && true && true) ≡ true → a ≡ b) → (if p then unwrap_or a [] else []) ≡ (if p then unwrap_or b [] else [])
    told true f = ap (λ w. unwrap_or w []) (f refl)
    told false f = refl

    by : (p : Bool) (o : Option Request) → s.proxies_authorization ≡ p → ((s.proxies_authorization && true && not (passes is_simple_bind o)) ≡ true → a ≡ b) → identity_of s a o ≡ identity_of s b o
    by p (Some (BindRequest version name (Simple password))) e f = refl
    by p (Some (BindRequest version name _)) e f = told s.proxies_authorization f
    by p (Some _) e f = told s.proxies_authorization f
    by p None e f = told s.proxies_authorization f

module _ (s : Settings) (F : Family) (c : ℕ) (place rest_of : List Entry) (same : F.client c ≡ place ++ rest_of) (p : ClientState) (number : p.number ≡ c) (apart : are_apart p.rows ≡ true) where
  abbrev says : List ℕ → Option (List ℕ) → OpName → Message → Bool
  says rest who n m = implies (wants_identity s m && (is_final_for m rest && has_code success rest)) (same_who who (who_by (closing s F (record { name = n; at = 0; request = m; before = []; behind = [] }))))

  pub answer_right : (part : PartName) (at : ℕ) (sender : PartName) (op : OpName) (rest : List ℕ) (is_last : Bool) (who : Option (List ℕ)) (r : ClientRow) → row_named p op ≡ Some r → is_identity_right s F (Reply op rest is_last who) ≡ true → WhoRight s F c place p part at r.request.id rest (taken sender (Reply op rest is_last who))
  answer_right part at sender op rest is_last who r e right_one b z q f bind k final code =
      identity_same s who (who_by (closing s F b)) b.request (last_passes_it (is_of Bind) (operations c place) b z) (λ wants. same_told who (who_by (closing s F b)) (implied (wants_identity s b.request && (is_final_for b.request rest && has_code 0 rest)) _ known (both (wants_identity s b.request) _ wants (both (is_final_for b.request rest) _ final code))))
    where
      named : (p.number == op.client && r.k == op.k) ≡ true
      named = found_passes (λ x. p.number == op.client && x.k == op.k) p.rows r e

      name : op ≡ b.name
      name = sym (same_op_eq b.name op (both (b.name.client == op.client) _ (eq_eqb b.name.client op.client (bind_client c place b z ∙ sym number ∙ same_number p.number op.client (left (p.number == op.client) _ named))) (eq_eqb b.name.k op.k (sym k ∙ ap (λ (x : ClientRow). x.k) (row_is p op r q apart e f) ∙ same_number r.k op.k (right (p.number == op.client) _ named)))))

      later : Kept c (place ++ rest_of) b.name b
      later = operation_kept c place rest_of b.name b (bind_named c place b z)

      there : operation F op ≡ Some later.later
      there = ap (operation F) name ∙ ap (λ n. operation_in n (F.client n) b.name) (bind_client c place b z) ∙ ap (λ l. operation_in c l b.name) same ∙ later.found

      known : says rest who b.name b.request ≡ true
      known = ap (λ n. says rest who n b.request) (sym later.name) ∙ ap (says rest who later.later.name) (sym later.request) ∙ sym (ap (passes (λ o. says rest who o.name o.request)) there) ∙ right_one
