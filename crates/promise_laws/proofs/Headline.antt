-- The headline of one operation, from the six promises.
use Rattle.std.proofs.Common.{◌≡◌, ◌⊎◌, inl, inr, ℕ, Bool, true, false, ◌==◌, ◌&&◌, ◌||◌, not, List, [], ◌∷◌, ◌++◌, length, map, Option, Some, None, refl, ap, ◌∙◌, sym, subst}
use Rattle.std.specs.Prelude.{nat_le, is_none}
use Rattle.std.specs.List.{list_all, list_any}
use Rattle.std.specs.Str.{bytes_eq}
use Rattle.std.proofs.lemmas.Bool.{leb-true}
use Rattle.std.proofs.lemmas.Slice.Eq.{bytes_eq-Decides}
use Rattle.std.proofs.lemmas.List.Folds.{list_all-append}
use Rattle.ldap_spec.specs.Kinds.{kind_of, same_kind}
use Rattle.ldap_spec.specs.Bodies.{refusal, cancel_answer}
use Rattle.ldap_spec.specs.Requests.{is_cancel}
use Rattle.lload_names.specs.declared.names.OpKind.{OpKind}
use Rattle.lload_names.specs.declared.names.OpKind.TheVariants.{Bind}
use Rattle.lload_names.specs.declared.names.OpName.{OpName}
use Rattle.lload_names.specs.declared.names.Refusal.{Refusal}
use Rattle.lload_names.specs.declared.names.Refusal.TheVariants.{C1, C2, C3, C4, C5, C6, C7, C8, C9, C10, C11}
use Rattle.lload_names.specs.declared.names.CancelAnswer.{CancelAnswer}
use Rattle.lload_names.specs.declared.names.CancelAnswer.TheVariants.{C13}
use Rattle.lload_spec.specs.Lists.{passes, implies, is_prefix, each_split_from}
use Rattle.lload_spec.specs.Journal.{Family, IsWhole, same_op}
use Rattle.lload_spec.specs.Operations.{Operation, operations, operations_of, all_operations, operation, is_final_to, is_out_for, outs, ending_from}
use Rattle.lload_spec.specs.Answers.{Sending, all_sendings, sendings_of, answers}
use Rattle.lload_spec.specs.Fifo.{refusals, cancel_answers, own_answers_of, is_own_answer, is_prefix_and_own, allowed, is_refused_with, is_sent_once, is_answered_by, is_unanswered, is_out_before_end, is_ended_once}
use Rattle.lload_spec.specs.Identity.{carried, has_own_identity}
use Rattle.lload_spec.specs.Caused.{has_cause, has_cancel_cause, is_canceled_with, has_causes}
use Rattle.lload_spec.proofs.Growth.{append-nil, append-assoc, left, right, both}
use Rattle.lload_laws.proofs.ListLaws.{found, found_passes}
use Rattle.part_laws.proofs.ListLaws.{same_op_eq}
use Rattle.promise_laws.proofs.Places.{same_number, came_in, got_stands, answers_came, went_up}
use Rattle.promise_laws.specs.Headline.{StandsIn, BeginsWith, IsRefusal, IsCancelAnswer, EndsWithOwn, GotOf, HeadlineLaw}

-- Texts and tests.

bytes_same : (xs ys : List ℕ) → bytes_eq xs ys ≡ true → xs ≡ ys
bytes_same xs ys e = (bytes_eq-Decides xs ys).0 e

not_true : (b : Bool) → not b ≡ true → b ≡ false
not_true false e = refl
not_true true e = absurd (cc)

is_nothing : {A : Type 0} (o : Option A) → is_none o ≡ true → o ≡ None
is_nothing None e = refl
is_nothing (Some x) e = absurd (cc)

follows : (a b : Bool) → implies a b ≡ true → a ≡ true → b ≡ true
follows true b h e = h
follows false b h e = absurd (cc)

-- What passes the test among these is there.

-- what is promised of all is so of one that stands among them
of_one : {A : Type 0} (test : A → Bool) (x : A) (xs : List A) → StandsIn x xs → list_all test xs ≡ true → test x ≡ true
of_one test x xs h all =
    let there : list_all test (h.before ++ x ∷ h.behind) ≡ true = subst (λ l. list_all test l ≡ true) h.split all in
    left (test x) (list_all test h.behind) (right (list_all test h.before) (list_all test (x ∷ h.behind)) (sym (list_all-append test h.before (x ∷ h.behind)) ∙ there))

-- what a test says at each split it says at one
at_split : {A : Type 0} (test : List A → A → List A → Bool) (before xs : List A) (x : A) (ys : List A) → each_split_from test before (xs ++ x ∷ ys) ≡ true → test (before ++ xs) x ys ≡ true
at_split test before [] x ys h = subst (λ l. test l x ys ≡ true) (sym (append-nil before)) (left (test before x ys) _ h)
at_split test before (z ∷ xs) x ys h =
    subst (λ l. test l x ys ≡ true) (append-assoc before (z ∷ []) xs) (at_split test (before ++ z ∷ []) xs x ys (right (test before z (xs ++ x ∷ ys)) _ h))

-- Own answers.

refused_by : (rest : List ℕ) (kind : OpKind) (ws : List Refusal) → list_any (bytes_eq rest) (map (refusal kind) ws) ≡ true → (which : Refusal) × (rest ≡ refusal kind which)
refused_by rest kind [] h = absurd (let bad : false ≡ true = h in cc)
refused_by rest kind (w ∷ ws) h = by (bytes_eq rest (refusal kind w)) refl h (refused_by rest kind ws)
  where
    by : (b : Bool) → bytes_eq rest (refusal kind w) ≡ b → (b || list_any (bytes_eq rest) (map (refusal kind) ws)) ≡ true → (list_any (bytes_eq rest) (map (refusal kind) ws) ≡ true → (which : Refusal) × (rest ≡ refusal kind which)) → (which : Refusal) × (rest ≡ refusal kind which)
    by true e g more = (w, bytes_same rest (refusal kind w) e)
    by false e g more = more g

canceled_by : (rest : List ℕ) (kind : OpKind) (ws : List CancelAnswer) → list_any (bytes_eq rest) (map (cancel_answer kind) ws) ≡ true → (which : CancelAnswer) × (rest ≡ cancel_answer kind which)
canceled_by rest kind [] h = absurd (let bad : false ≡ true = h in cc)
canceled_by rest kind (w ∷ ws) h = by (bytes_eq rest (cancel_answer kind w)) refl h (canceled_by rest kind ws)
  where
    by : (b : Bool) → bytes_eq rest (cancel_answer kind w) ≡ b → (b || list_any (bytes_eq rest) (map (cancel_answer kind) ws)) ≡ true → (list_any (bytes_eq rest) (map (cancel_answer kind) ws) ≡ true → (which : CancelAnswer) × (rest ≡ cancel_answer kind which)) → (which : CancelAnswer) × (rest ≡ cancel_answer kind which)
    by true e g more = (w, bytes_same rest (cancel_answer kind w) e)
    by false e g more = more g

-- among two lists: in the first or in the second
in_either : {A : Type 0} (test : A → Bool) (xs ys : List A) → list_any test (xs ++ ys) ≡ true → (list_any test xs ≡ true) ⊎ (list_any test ys ≡ true)
in_either test [] ys h = inr h
in_either test (x ∷ xs) ys h = by (test x) h (in_either test xs ys)
  where
    by : (b : Bool) → (b || list_any test (xs ++ ys)) ≡ true → (list_any test (xs ++ ys) ≡ true → (list_any test xs ≡ true) ⊎ (list_any test ys ≡ true)) → ((b || list_any test xs) ≡ true) ⊎ (list_any test ys ≡ true)
    by true g more = inl refl
    by false g more = more g

-- the answers of the proxy's own that aren't refusals are answers to a Cancel
cancel_lists : (rest : List ℕ) (kind : OpKind) (bind cancels : Bool) → list_any (bytes_eq rest) ((elim bind [ true ↦ [] | false ↦ cancel_answer kind C13 ∷ [] ]) ++ (elim cancels [ true ↦ map (cancel_answer kind) cancel_answers | false ↦ [] ])) ≡ true → (which : CancelAnswer) × (rest ≡ cancel_answer kind which)
cancel_lists rest kind true true h = canceled_by rest kind cancel_answers h
cancel_lists rest kind true false h = absurd (let bad : false ≡ true = h in cc)
cancel_lists rest kind false true h = canceled_by rest kind (C13 ∷ cancel_answers) h
cancel_lists rest kind false false h = canceled_by rest kind (C13 ∷ []) h

own_of_kind : (request rest : List ℕ) (kind : OpKind) → kind_of request ≡ Some kind → list_any (bytes_eq rest) (own_answers_of kind request) ≡ true → IsRefusal request rest ⊎ IsCancelAnswer request rest
own_of_kind request rest kind k h = by (in_either (bytes_eq rest) (map (refusal kind) refusals) _ h)
  where
    by : (list_any (bytes_eq rest) (map (refusal kind) refusals) ≡ true) ⊎ (list_any (bytes_eq rest) ((elim (same_kind Bind kind) [ true ↦ [] | false ↦ cancel_answer kind C13 ∷ [] ]) ++ (elim (is_cancel request) [ true ↦ map (cancel_answer kind) cancel_answers | false ↦ [] ])) ≡ true) → IsRefusal request rest ⊎ IsCancelAnswer request rest
    by (inl g) = let f = refused_by rest kind refusals g in inl (record { kind = kind; which = f.0; of_kind = k; text = f.1 })
    by (inr g) = let f = cancel_lists rest kind (same_kind Bind kind) (is_cancel request) g in inr (record { kind = kind; which = f.0; of_kind = k; text = f.1 })

own_answer : (request rest : List ℕ) → is_own_answer request rest ≡ true → IsRefusal request rest ⊎ IsCancelAnswer request rest
own_answer request rest h = by (kind_of request) refl h
  where
    by : (k : Option OpKind) → kind_of request ≡ k → list_any (bytes_eq rest) (elim k [ None ↦ [] | Some kind ↦ own_answers_of kind request ]) ≡ true → IsRefusal request rest ⊎ IsCancelAnswer request rest
    by None e g = absurd (let bad : false ≡ true = g in cc)
    by (Some kind) e g = own_of_kind request rest kind e g

-- What a client may get.

prefix_begins : (xs ys : List (List ℕ)) → is_prefix xs ys ≡ true → BeginsWith ys xs
prefix_begins [] ys h = record { rest = ys; joined = refl }
prefix_begins (x ∷ xs) [] h = absurd (let bad : false ≡ true = h in cc)
prefix_begins (x ∷ xs) (y ∷ ys) h =
    let more = prefix_begins xs ys (right (bytes_eq x y) (is_prefix xs ys) h) in
    let same = bytes_same x y (left (bytes_eq x y) (is_prefix xs ys) h) in
    record { rest = more.rest; joined = ap (λ z. z ∷ ys) (sym same) ∙ ap (λ l. x ∷ l) more.joined }

prefix_and_own : (request : List ℕ) (as' got : List (List ℕ)) → is_prefix_and_own request as' got ≡ true → EndsWithOwn request as' got
prefix_and_own request as' [] h = absurd (let bad : false ≡ true = h in cc)
prefix_and_own request as' (r ∷ []) h = record { passed_on = []; own = r; both = refl; in_order = record { rest = as'; joined = refl }; not_final = refl; named = own_answer request r h }
prefix_and_own request [] (r ∷ q ∷ rs) h = absurd (let bad : false ≡ true = h in cc)
prefix_and_own request (a ∷ as') (r ∷ q ∷ rs) h =
    let tests : (bytes_eq r a && not (is_final_to request a)) ≡ true = left (bytes_eq r a && not (is_final_to request a)) (is_prefix_and_own request as' (q ∷ rs)) h in
    let more = prefix_and_own request as' (q ∷ rs) (right (bytes_eq r a && not (is_final_to request a)) (is_prefix_and_own request as' (q ∷ rs)) h) in
    let same = bytes_same r a (left (bytes_eq r a) (not (is_final_to request a)) tests) in
    let unfinished : not (is_final_to request r) ≡ true = ap (λ z. not (is_final_to request z)) same ∙ right (bytes_eq r a) (not (is_final_to request a)) tests in
    record {
      passed_on = r ∷ more.passed_on;
      own = more.own;
      both = ap (λ l. r ∷ l) more.both;
      in_order = record { rest = more.in_order.rest; joined = ap (λ z. z ∷ as') (sym same) ∙ ap (λ l. r ∷ l) more.in_order.joined };
      not_final = both (not (is_final_to request r)) (list_all (λ x. not (is_final_to request x)) more.passed_on) unfinished more.not_final;
      named = more.named;
    }

got_of : (request : List ℕ) (as' got : List (List ℕ)) → allowed request as' got ≡ true → GotOf request as' got
got_of request as' got h = by (is_prefix got as') refl h
  where
    by : (b : Bool) → is_prefix got as' ≡ b → (b || is_prefix_and_own request as' got) ≡ true → GotOf request as' got
    by true e g = inl (prefix_begins got as' e)
    by false e g = inr (prefix_and_own request as' got g)

-- One operation among all.

of_client : (F : Family) (test : Operation → Bool) (c : ℕ) (cs : List ℕ) → list_all test (operations_of F cs) ≡ true → list_any (λ n. n == c) cs ≡ true → list_all test (operations c (F.client c)) ≡ true
of_client F test c [] all named = absurd (let bad : false ≡ true = named in cc)
of_client F test c (n ∷ ns) all named =
    let parts : (list_all test (operations n (F.client n)) && list_all test (operations_of F ns)) ≡ true = sym (list_all-append test (operations n (F.client n)) (operations_of F ns)) ∙ all in
    by (n == c) refl named parts (of_client F test c ns)
  where
    by : (b : Bool) → (n == c) ≡ b → (b || list_any (λ m. m == c) ns) ≡ true → (list_all test (operations n (F.client n)) && list_all test (operations_of F ns)) ≡ true
        → (list_all test (operations_of F ns) ≡ true → list_any (λ m. m == c) ns ≡ true → list_all test (operations c (F.client c)) ≡ true) → list_all test (operations c (F.client c)) ≡ true
    by true e g p more = subst (λ i. list_all test (operations i (F.client i)) ≡ true) (same_number n c e) (left (list_all test (operations n (F.client n))) _ p)
    by false e g p more = more (right (list_all test (operations n (F.client n))) _ p) g

-- what is so of all operations is so of one that there is
of_operation_found : (F : Family) (test : Operation → Bool) (op : OpName) (o : Operation) → IsWhole F → operation F op ≡ Some o → list_all test (all_operations F) ≡ true → test o ≡ true
of_operation_found F test op o whole there all = found test (λ x. same_op op x.name) (operations op.client (F.client op.client)) o there (by (list_any (λ n. n == op.client) F.clients) refl)
  where
    by : (b : Bool) → list_any (λ n. n == op.client) F.clients ≡ b → list_all test (operations op.client (F.client op.client)) ≡ true
    by true e = of_client F test op.client F.clients all e
    by false e = subst (λ l. list_all test (operations op.client l) ≡ true) (sym (whole.clients_named op.client e)) refl

-- a test of the operation of a Sent
of_sent : (F : Family) (test : Operation → Bool) (op : OpName) (o : Operation) (sent : Sending) → operation F op ≡ Some o → sent.op ≡ op → passes test (operation F sent.op) ≡ true → test o ≡ true
of_sent F test op o sent there same h = sym (ap (passes test) (ap (operation F) same ∙ there)) ∙ h

-- each refusal is among them
of_refusal : (test : Refusal → Bool) (which : Refusal) → list_all test refusals ≡ true → test which ≡ true
of_refusal test which h = of_one test which refusals (by which) h
  where
    by : (w : Refusal) → StandsIn w refusals
    by C1 = record { before = []; behind = C2 ∷ C3 ∷ C4 ∷ C5 ∷ C6 ∷ C7 ∷ C8 ∷ C9 ∷ C10 ∷ C11 ∷ []; split = refl }
    by C2 = record { before = C1 ∷ []; behind = C3 ∷ C4 ∷ C5 ∷ C6 ∷ C7 ∷ C8 ∷ C9 ∷ C10 ∷ C11 ∷ []; split = refl }
    by C3 = record { before = C1 ∷ C2 ∷ []; behind = C4 ∷ C5 ∷ C6 ∷ C7 ∷ C8 ∷ C9 ∷ C10 ∷ C11 ∷ []; split = refl }
    by C4 = record { before = C1 ∷ C2 ∷ C3 ∷ []; behind = C5 ∷ C6 ∷ C7 ∷ C8 ∷ C9 ∷ C10 ∷ C11 ∷ []; split = refl }
    by C5 = record { before = C1 ∷ C2 ∷ C3 ∷ C4 ∷ []; behind = C6 ∷ C7 ∷ C8 ∷ C9 ∷ C10 ∷ C11 ∷ []; split = refl }
    by C6 = record { before = C1 ∷ C2 ∷ C3 ∷ C4 ∷ C5 ∷ []; behind = C7 ∷ C8 ∷ C9 ∷ C10 ∷ C11 ∷ []; split = refl }
    by C7 = record { before = C1 ∷ C2 ∷ C3 ∷ C4 ∷ C5 ∷ C6 ∷ []; behind = C8 ∷ C9 ∷ C10 ∷ C11 ∷ []; split = refl }
    by C8 = record { before = C1 ∷ C2 ∷ C3 ∷ C4 ∷ C5 ∷ C6 ∷ C7 ∷ []; behind = C9 ∷ C10 ∷ C11 ∷ []; split = refl }
    by C9 = record { before = C1 ∷ C2 ∷ C3 ∷ C4 ∷ C5 ∷ C6 ∷ C7 ∷ C8 ∷ []; behind = C10 ∷ C11 ∷ []; split = refl }
    by C10 = record { before = C1 ∷ C2 ∷ C3 ∷ C4 ∷ C5 ∷ C6 ∷ C7 ∷ C8 ∷ C9 ∷ []; behind = C11 ∷ []; split = refl }
    by C11 = record { before = C1 ∷ C2 ∷ C3 ∷ C4 ∷ C5 ∷ C6 ∷ C7 ∷ C8 ∷ C9 ∷ C10 ∷ []; behind = []; split = refl }

no_sendings : (F : Family) (op : OpName) → sendings_of F op ≡ [] → (length (sendings_of F op) == 0) ≡ true
no_sendings F op e = ap (λ (l : List Sending). length l == 0) e

pub headline : HeadlineLaw
headline s F op o whole good there =
    let name : op ≡ o.name = same_op_eq op o.name (found_passes (λ x. same_op op x.name) (operations op.client (F.client op.client)) o there) in
    record {
      sent_once = leb-true (length (sendings_of F op)) 1 (ap (λ q. nat_le (length (sendings_of F q)) 1) name ∙ of_operation_found F (is_sent_once F) op o whole there good.fifo.sent_once);
      came_in = came_in op.client (F.client op.client) (λ x. same_op op x.name) o there;
      got = got_stands o;
      answered = λ sent at same. record {
        went_up = went_up F sent at;
        came_back = answers_came o sent;
        got = got_of o.request.rest (answers o sent) (outs o) (of_sent F (λ x. allowed x.request.rest (answers x sent) (outs x)) op o sent there same (of_one (is_answered_by F) sent (all_sendings F) at good.fifo.answered));
      };
      unanswered = λ none. got_of o.request.rest [] (outs o) (follows (length (sendings_of F o.name) == 0) (allowed o.request.rest [] (outs o)) (of_operation_found F (is_unanswered F) op o whole there good.fifo.unanswered) (no_sendings F o.name (ap (sendings_of F) (sym name) ∙ none)));
      carries = λ sent at same. bytes_same sent.rest (carried s F o) (of_sent F (λ x. bytes_eq sent.rest (carried s F x)) op o sent there same (of_one (has_own_identity s F) sent (all_sendings F) at good.identity));
      ended = λ since e later split out. is_nothing (ending_from o.request [] since) (follows (is_out_for o.request since e) (is_none (ending_from o.request [] since)) (at_split (λ b x r. is_out_before_end o.request b x) [] since e later (subst (λ l. each_split_from (λ b x r. is_out_before_end o.request b x) [] l ≡ true) split (of_operation_found F is_ended_once op o whole there good.fifo.ended_once))) out);
      caused = λ which refused. follows (is_refused_with F which o) (has_cause s F o which) (of_refusal (λ w. implies (is_refused_with F w o) (has_cause s F o w)) which (left (list_all (λ w. implies (is_refused_with F w o) (has_cause s F o w)) refusals) (list_all (λ w. implies (is_canceled_with F w o) (has_cancel_cause s F o w)) (C13 ∷ cancel_answers)) (of_operation_found F (has_causes s F) op o whole there good.caused.refusals))) refused;
    }
