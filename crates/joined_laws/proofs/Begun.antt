-- Where a turn of a client begins: each entry of its list but a Gone, and an Out that may be the proxy's own, is the first of
-- a turn, so that its mark is the letter that the turn took. There the client's rows are its live operations. It follows
-- from what the share says of checks and choices, whatever made the list.
use Rattle.std.proofs.Common.{◌≡◌, ℕ, Bool, true, false, ◌==◌, ◌&&◌, not, List, [], ◌∷◌, length, refl, ap, ◌∙◌, subst}
use Rattle.std.specs.Prelude.{Option, Some, None, cond, find, filter}
use Rattle.std.specs.List.{list_all}
use Rattle.std.proofs.lemmas.Slice.Eq.{bytes_eq-Decides}
use Rattle.ldap_spec.specs.Bodies.{refusal, cancel_answer, protocol_error_notice}
use Rattle.ldap_spec.specs.Kinds.{kind_of}
use Rattle.ldap_spec.specs.Messages.{Message}
use Rattle.ldap_spec.specs.Responses.{has_code}
use Rattle.ldap_spec.specs.Tags.{bind_in_progress}
use Rattle.lload_names.specs.declared.names.CancelAnswer.{CancelAnswer}
use Rattle.lload_names.specs.declared.names.CancelAnswer.TheVariants.{S1, C13}
use Rattle.lload_names.specs.declared.names.EndWhy.{EndWhy}
use Rattle.lload_names.specs.declared.names.EndWhy.TheVariants.{Left}
use Rattle.lload_names.specs.declared.names.Entry.{Entry}
use Rattle.lload_names.specs.declared.names.OpKind.{OpKind}
use Rattle.lload_names.specs.declared.names.Refusal.{Refusal}
use Rattle.lload_names.specs.declared.names.What.{What}
use Rattle.lload_names.specs.declared.names.What.TheVariants as what
use Rattle.lload_spec.specs.Lists.{passes, first_passes, implies}
use Rattle.lload_spec.specs.Journal.{same_op}
use Rattle.lload_spec.specs.Entries.{out_message, gone_why, is_gone_by, is_notice, is_out, is_this}
use Rattle.lload_spec.specs.Operations.{Operation, operations, live_operations, is_live, is_live_at}
use Rattle.lload_spec.specs.FirstCheck.{Check, Ends, Unbinds, Abandons, Refuses, Answers, Cancels, GoesOn}
use Rattle.lload_spec.specs.Caused.{is_followed_up, is_refusal_of, is_cancel_answer_of}
use Rattle.lload_spec.proofs.Growth.{left, right, both}
use Rattle.lload_laws.specs.ClientGrowth.{is_named_within}
use Rattle.lload_laws.proofs.ClientGrowth.{own_names}
use Rattle.lload_laws.proofs.ListLaws.{all_both, all_imply, implied}
use Rattle.part_laws.proofs.ListLaws.{all_kept, not_true, same_number, same_op_refl, same_op_sym}
use Rattle.part_spec.specs.ClientState.{ClientState, ClientRow}
use Rattle.part_spec.specs.ClientTurn.{whats_by, canceled}
use Rattle.part_spec.specs.Marked.{Marked, entries}
use Rattle.client_laws.proofs.Matches.{Match, Matches}
use Rattle.client_laws.proofs.ClientLives.{is_free_id}
use Rattle.client_share_laws.proofs.OperationNames.{are_apart, named_apart}
use Rattle.joined_laws.proofs.OwnCodes.{notice_ends, refusal_ends, canceled_ends}

-- What is due behind the first entry of a turn: Outs, and a Gone at its end.

-- an Out that may be the proxy's own: no saslBindInProgress
abbrev pub is_own_rest : List ℕ → Bool
is_own_rest rest = not (has_code bind_in_progress rest)

abbrev pub is_out_what : What → Bool
is_out_what w = passes (λ m. is_own_rest m.rest) (out_message w)

abbrev pub is_gone_what : What → Bool
is_gone_what w = passes (λ _. true) (gone_why w)

-- whether an entry that says this is always the first of a turn
abbrev pub is_begun : What → Bool
is_begun w = not (is_gone_what w) && not (is_out_what w)

abbrev pub is_sort : What → What → Bool
is_sort due w = elim (is_gone_what due) [ true ↦ is_gone_what w | false ↦ is_out_what w ]

abbrev pub follows : List What → List Marked → Bool
follows [] ms = true
follows (x ∷ xs) [] = false
follows (x ∷ xs) (m ∷ ms) = is_sort x m.entry.what && follows xs ms

abbrev pub ends_in_gone : List What → Bool
ends_in_gone [] = false
ends_in_gone (x ∷ []) = is_gone_what x
ends_in_gone (x ∷ y ∷ ys) = ends_in_gone (y ∷ ys)

pub gone_is : (w : What) → is_gone_what w ≡ true → (why : EndWhy) × (w ≡ what.Gone why)
gone_is (what.Gone why) h = (why, refl)
gone_is _ h = absurd (let bad : false ≡ true = h in cc)

passes_some : {A : Type 0} (t : A → Bool) (o : Option A) → passes t o ≡ true → passes (λ _. true) o ≡ true
passes_some t None h = h
passes_some t (Some x) h = refl

pub sort_begun : (x w : What) → is_sort x w ≡ true → is_begun w ≡ false
sort_begun x w h = by (is_gone_what x) h
  where
    out : (g o : Bool) → o ≡ true → (not g && not o) ≡ false
    out true o e = refl
    out false o e = ap not e

    by : (b : Bool) → (elim b [ true ↦ is_gone_what w | false ↦ is_out_what w ]) ≡ true → is_begun w ≡ false
    by true e = ap (λ g. not g && not (is_out_what w)) e
    by false e = out (is_gone_what w) (is_out_what w) e

is_own_out : (id : ℕ) (answer : List ℕ) (e : Entry) → has_code bind_in_progress answer ≡ false → is_out id answer e ≡ true → is_out_what e.what ≡ true
is_own_out id answer e h k = by (out_message e.what) k
  where
    by : (o : Option Message) → passes (is_this id answer) o ≡ true → passes (λ m. is_own_rest m.rest) o ≡ true
    by None j = absurd (let bad : false ≡ true = j in cc)
    by (Some m) j = ap (λ r. is_own_rest r) ((bytes_eq-Decides m.rest answer).0 (right (m.id == id) _ j)) ∙ ap not h

own_refusal : (which : Refusal) (id : ℕ) (k : Option OpKind) (e : Entry) → is_refusal_of which id k e ≡ true → is_out_what e.what ≡ true
own_refusal which id None e h = absurd (let bad : false ≡ true = h in cc)
own_refusal which id (Some kind) e h = is_own_out id (refusal kind which) e (refusal_ends kind which) h

own_canceled : (which : CancelAnswer) (id : ℕ) (k : Option OpKind) (e : Entry) → is_cancel_answer_of which id k e ≡ true → is_out_what e.what ≡ true
own_canceled which id None e h = absurd (let bad : false ≡ true = h in cc)
own_canceled which id (Some kind) e h = is_own_out id (cancel_answer kind which) e (canceled_ends kind which) h

pub sort_free : (p : ClientState) (x w : What) → is_sort x w ≡ true → is_free_id p w ≡ true
sort_free p x w h = by (is_gone_what x) h
  where
    gone : (v : What) → is_gone_what v ≡ true → is_free_id p v ≡ true
    gone (what.Gone why) e = refl
    gone _ e = absurd (let bad : false ≡ true = e in cc)

    out : (v : What) → is_out_what v ≡ true → is_free_id p v ≡ true
    out (what.Out id rest) e = refl
    out _ e = absurd (let bad : false ≡ true = e in cc)

    by : (b : Bool) → (elim b [ true ↦ is_gone_what w | false ↦ is_out_what w ]) ≡ true → is_free_id p w ≡ true
    by true e = gone w e
    by false e = out w e

-- What a check wants, and a choice without a connection, stands behind.

first_follows : (x : What) (t : Entry → Bool) (ms : List Marked) → ((e : Entry) → t e ≡ true → is_sort x e.what ≡ true) → first_passes t (entries ms) ≡ true → follows (x ∷ []) ms ≡ true
first_follows x t [] f h = absurd (let bad : false ≡ true = h in cc)
first_follows x t (m ∷ ms) f h = both (is_sort x m.entry.what) true (f m.entry h) refl

pub refusal_follows : (i j : ℕ) (which : Refusal) (k : Option OpKind) (ms : List Marked) → first_passes (is_refusal_of which j k) (entries ms) ≡ true → follows (elim k [ None ↦ [] | Some kind ↦ what.Out i (refusal kind which) ∷ [] ]) ms ≡ true
refusal_follows i j which None ms h = refl
refusal_follows i j which (Some kind) ms h = first_follows (what.Out i (refusal kind which)) (is_refusal_of which j (Some kind)) ms (λ e k. own_refusal which j (Some kind) e k) h

pub followed : (m : Message) (k : Check) (ms : List Marked) → is_followed_up m (entries ms) k ≡ true → follows (whats_by m k) ms ≡ true
followed m (Ends why) [] h = absurd (let bad : false ≡ true = h in cc)
followed m (Ends why) (x ∷ ms) h =
    both (is_out_what x.entry.what) (follows (what.Gone why ∷ []) ms) (is_own_out 0 protocol_error_notice x.entry notice_ends (left (is_notice x.entry) _ h))
    (first_follows (what.Gone why) (is_gone_by why) ms (λ e k. passes_some _ (gone_why e.what) k) (right (is_notice x.entry) _ h))
followed m Unbinds ms h = first_follows (what.Gone Left) (is_gone_by Left) ms (λ e k. passes_some _ (gone_why e.what) k) h
followed m (Abandons id) ms h = refl
followed m (Refuses which) ms h = refusal_follows m.id m.id which (kind_of m.rest) ms h
followed m (Answers which) ms h = by (kind_of m.rest) h
  where
    by : (k : Option OpKind) → first_passes (is_cancel_answer_of which m.id k) (entries ms) ≡ true → follows (canceled m.id k which) ms ≡ true
    by None j = refl
    by (Some kind) j = first_follows (what.Out m.id (cancel_answer kind which)) (is_cancel_answer_of which m.id (Some kind)) ms (λ e k. own_canceled which m.id (Some kind) e k) j
followed m (Cancels id its_kind) [] h = absurd (let bad : false ≡ true = h in cc)
followed m (Cancels id its_kind) (x ∷ ms) h =
    both (is_out_what x.entry.what) (follows (canceled m.id (kind_of m.rest) S1) ms) (own_canceled C13 id (Some its_kind) x.entry (left (is_cancel_answer_of C13 id (Some its_kind) x.entry) _ h))
    (by (kind_of m.rest) (right (is_cancel_answer_of C13 id (Some its_kind) x.entry) _ h))
  where
    by : (k : Option OpKind) → first_passes (is_cancel_answer_of S1 m.id k) (entries ms) ≡ true → follows (canceled m.id k S1) ms ≡ true
    by None j = refl
    by (Some sort) j = first_follows (what.Out m.id (cancel_answer sort S1)) (is_cancel_answer_of S1 m.id (Some sort)) ms (λ e k. own_canceled S1 m.id (Some sort) e k) j
followed m GoesOn ms h = refl

-- The operation of a row.

abbrev is_found : List Operation → Operation → Bool
is_found os o = implies (is_live o) (passes is_live (find (λ q. same_op o.name q.name) os))

implies_same : (b : Bool) → implies b b ≡ true
implies_same true = refl
implies_same false = refl

-- one that is live is the one of its name
each_found : (os : List Operation) → are_apart os ≡ true → list_all (is_found os) os ≡ true
each_found [] h = refl
each_found (o ∷ os) h = both (is_found (o ∷ os) o) _ first (rest (each_found os (right (list_all (λ q. not (same_op o.name q.name)) os) _ h)))
  where
    first : is_found (o ∷ os) o ≡ true
    first = ap (λ b. implies (is_live o) (passes is_live (cond b (Some o) (find (λ q. same_op o.name q.name) os)))) (same_op_refl o.name) ∙ implies_same (is_live o)

    later : (q : Operation) → (not (same_op o.name q.name) && is_found os q) ≡ true → is_found (o ∷ os) q ≡ true
    later q j = ap (λ b. implies (is_live q) (passes is_live (cond b (Some o) (find (λ x. same_op q.name x.name) os)))) (same_op_sym q.name o.name ∙ not_true (same_op o.name q.name) (left (not (same_op o.name q.name)) _ j)) ∙ right (not (same_op o.name q.name)) _ j

    rest : list_all (is_found os) os ≡ true → list_all (is_found (o ∷ os)) os ≡ true
    rest k = all_imply (λ q. not (same_op o.name q.name) && is_found os q) (is_found (o ∷ os)) os later (all_both (λ q. not (same_op o.name q.name)) (is_found os) os (left (list_all (λ q. not (same_op o.name q.name)) os) _ h) k)

-- what holds of each live operation holds of that of a row
pub of_row : (t : ClientRow → Bool) (q : Operation → Bool) (rows : List ClientRow) (os : List Operation) (r : ClientRow) → Matches rows os → list_all q os ≡ true → find t rows ≡ Some r → (o : Operation) × (Match r o × (q o ≡ true))
of_row t q [] os r m h e = absurd (let bad : None ≡ Some r = e in cc)
of_row t q (x ∷ rows) [] r m h e = absurd m
of_row t q (x ∷ rows) (o ∷ os) r m h e = by (t x) e (λ k. of_row t q rows os r m.1 (right (q o) _ h) k)
  where
    by : (b : Bool) → cond b (Some x) (find t rows) ≡ Some r → (find t rows ≡ Some r → (o : Operation) × (Match r o × (q o ≡ true))) → (o : Operation) × (Match r o × (q o ≡ true))
    by true k ih = let same : x ≡ r = cc in (o, (subst (λ (y : ClientRow). Match y o) same m.0, left (q o) _ h))
    by false k ih = ih k

-- the operations of a client's list are its own
pub own_client : (c n : ℕ) (o : Operation) → is_named_within c n o ≡ true → o.name.client ≡ c
own_client c n o k = same_number o.name.client c (left (o.name.client == c) _ (left _ _ k))

-- a row of a name is of a live operation of that name
abbrev pub is_live_named : ℕ → List Entry → Operation → Bool
is_live_named c place o = is_named_within c (length (operations c place)) o && is_live_at c place o.name

pub live_named : (c : ℕ) (place : List Entry) → list_all (is_live_named c place) (live_operations c place) ≡ true
live_named c place = all_imply (λ o. is_live o && (is_named_within c (length (operations c place)) o && is_found (operations c place) o)) (is_live_named c place) (live_operations c place) (λ o k. named o k) (all_both is_live (λ o. is_named_within c (length (operations c place)) o && is_found (operations c place) o) (live_operations c place) (each_live (operations c place)) (all_kept (λ o. is_named_within c (length (operations c place)) o && is_found (operations c place) o) is_live (operations c place) (all_both (is_named_within c (length (operations c place))) (is_found (operations c place)) (operations c place) (own_names c place) (each_found (operations c place) (named_apart c 0 [] place)))))
  where
    named : (o : Operation) → (is_live o && (is_named_within c (length (operations c place)) o && is_found (operations c place) o)) ≡ true → is_live_named c place o ≡ true
    named o k =
        let both_of = right (is_live o) _ k in
        both (is_named_within c (length (operations c place)) o) _ (left (is_named_within c (length (operations c place)) o) _ both_of) (implied (is_live o) _ (right (is_named_within c (length (operations c place)) o) _ both_of) (left (is_live o) _ k))

    each_live : (os : List Operation) → list_all is_live (filter is_live os) ≡ true
    each_live [] = refl
    each_live (o ∷ os) = by (is_live o) refl (each_live os)
      where
        by : (b : Bool) → is_live o ≡ b → list_all is_live (filter is_live os) ≡ true → list_all is_live (cond b (o ∷ filter is_live os) (filter is_live os)) ≡ true
        by true e k = both (is_live o) _ e k
        by false e k = k
