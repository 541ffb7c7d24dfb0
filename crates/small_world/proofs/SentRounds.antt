-- How each Sent stays as it should be when the lists grow: chosen for its connection, with a client that got what the
-- answers allow.
use Rattle.std.proofs.Common.{◌≡◌, ℕ, suc, Bool, true, false, ◌&&◌, ◌||◌, ◌==◌, not, List, [], ◌∷◌, ◌++◌, length, refl, ap, ◌∙◌, sym, eq-eqb}
use Rattle.std.specs.Prelude.{Option, Some, None, cond, if◌then◌else◌, map, find, option_map}
use Rattle.std.specs.List.{list_all, list_any}
use Rattle.std.specs.Option.{option_or, option_to_list}
use Rattle.std.proofs.lemmas.List.{append-nil}
use Rattle.std.proofs.lemmas.List.Folds.{find-append}
use Rattle.ldap_spec.specs.Messages.{Message}
use Rattle.ldap_spec.specs.Kinds.{kind_of}
use Rattle.lload_names.specs.declared.names.Entry.{Entry}
use Rattle.lload_names.specs.declared.names.OpName.{OpName}
use Rattle.lload_names.specs.declared.names.OpKind.{OpKind}
use Rattle.lload_names.specs.declared.names.PartName.TheVariants.{Client, Up as Connection}
use Rattle.lload_names.specs.declared.names.Answer.TheVariants.{Go}
use Rattle.lload_names.specs.declared.names.What.TheVariants.{In, Chosen, Sent}
use Rattle.small_spec.specs.Lists.{passes, implies}
use Rattle.small_spec.specs.Journal.{same_op}
use Rattle.small_spec.specs.Entries.{is_choice_of, out_message, operation_message}
use Rattle.small_spec.specs.Operations.{Operation, operations, operation_made, operation_in, is_live, is_live_at, outs, outs_under, out_rest, takes_id}
use Rattle.small_spec.specs.Answers.{Sending, answers, answers_under, answer_of}
use Rattle.small_spec.specs.Fifo.{allowed}
use Rattle.small_spec.proofs.Growth.{left, right, both}
use Rattle.small_laws.specs.ClientGrowth.{later_operation, new_operation}
use Rattle.small_laws.specs.ConnectionGrowth.{later_sending, new_sending}
use Rattle.small_laws.proofs.ListLaws.{find-map, all_always}
use Rattle.small_laws.proofs.ClientGrowth.{operations_grow, outs_grow, some_entry_grows, new_operation_is_last}
use Rattle.small_laws.proofs.ConnectionGrowth.{answers_grow}
use Rattle.small_world.specs.declared.world.Forwarded.{Forwarded}
use Rattle.small_world.specs.Stands.{is_chosen, is_answered_as, is_sent_rightly, row_of}
use Rattle.small_world.proofs.Rows.{passed, row_stays}

-- an operation that is there stays, with the entry behind it
pub op_stays : (L : List Entry) (e : Entry) (op : OpName) (o : Operation) → operation_in L op ≡ Some o → operation_in (L ++ e ∷ []) op ≡ Some (later_operation e o)
op_stays L e op o h = ap (find test) (operations_grow op.client L e) ∙ find-append test (map (later_operation e) (operations op.client L)) made ∙ ap (λ x. option_or x (find test made)) (find-map test (later_operation e) (operations op.client L) ∙ ap (option_map (later_operation e)) h)
  where
    test : Operation → Bool
    test x = same_op op x.name

    made : List Operation
    made = operation_made op.client (suc (length (operations op.client L))) L e [] (operation_message e.what)

-- nothing is added, whatever the test says
nothing : (b : Bool) (xs : List (List ℕ)) → xs ++ (if b then [] else []) ≡ xs
nothing true xs = append-nil xs
nothing false xs = append-nil xs

-- an entry that is no Out leaves what a client got
pub outs_silent : (id : ℕ) (L : List Entry) (e : Entry) → out_message e.what ≡ None → outs_under id (L ++ e ∷ []) ≡ outs_under id L
outs_silent id L e none = outs_grow id L e ∙ ap (λ m. outs_under id L ++ (if list_any (takes_id id) L || takes_id id e then [] else out_rest id m)) none ∙ nothing (list_any (takes_id id) L || takes_id id e) (outs_under id L)

-- a choice that the client learned stays learned
pub chosen_stays : (L : List Entry) (e : Entry) (op : OpName) → is_chosen L op ≡ true → is_chosen (L ++ e ∷ []) op ≡ true
chosen_stays L e op h = some_entry_grows _ L e ∙ ap (λ b. b || (is_choice_of op 1 e && is_live_at L op)) h

-- a Sent that is as it should be, taken apart
pub record IsRight (rows : List Forwarded) (C : List Entry) (s : Sending) : Type 0 where
  pub chosen : is_chosen C s.op ≡ true
  pub op : Operation
  pub found : operation_in C s.op ≡ Some op
  pub permitted : allowed (kind_of op.request.rest) (answers op s) (outs op) ≡ true
  pub quiet : passes (λ f. implies (not f.answered) (length (answers op s) == 0)) (row_of s.op.k rows) ≡ true

pub apart : (rows : List Forwarded) (C : List Entry) (s : Sending) → is_sent_rightly rows C s ≡ true → IsRight rows C s
apart rows C s h = let there = passed (is_answered_as rows s) (operation_in C s.op) (right (is_chosen C s.op) _ h) in record {
  chosen = left (is_chosen C s.op) _ h;
  op = there.0;
  found = there.1;
  permitted = left (allowed (kind_of (there.0).request.rest) (answers there.0 s) (outs there.0)) _ there.2;
  quiet = right (allowed (kind_of (there.0).request.rest) (answers there.0 s) (outs there.0)) _ there.2;
}

pub together : (rows : List Forwarded) (C : List Entry) (s : Sending) → IsRight rows C s → is_sent_rightly rows C s ≡ true
together rows C s h = both (is_chosen C s.op) (passes (is_answered_as rows s) (operation_in C s.op)) h.chosen (ap (passes (is_answered_as rows s)) h.found ∙ both (allowed (kind_of h.op.request.rest) (answers h.op s) (outs h.op)) _ h.permitted h.quiet)

-- an entry of the client that leaves what it got for the operation keeps it so
abbrev pub by_client : (rows : List Forwarded) (C : List Entry) (e : Entry) (s : Sending) (h : IsRight rows C s) → outs (later_operation e h.op) ≡ outs h.op → IsRight rows (C ++ e ∷ []) s
by_client rows C e s h same = record {
  chosen = chosen_stays C e s.op h.chosen;
  op = later_operation e h.op;
  found = op_stays C e s.op h.op h.found;
  permitted = ap (allowed (kind_of h.op.request.rest) (answers h.op s)) same ∙ h.permitted;
  quiet = h.quiet;
}

-- so does one that is no Out
abbrev pub by_silent : (rows : List Forwarded) (C : List Entry) (e : Entry) → out_message e.what ≡ None → (s : Sending) → IsRight rows C s → IsRight rows (C ++ e ∷ []) s
by_silent rows C e none s h = by_client rows C e s h (outs_silent h.op.request.id h.op.behind e none)

-- so does one more row
abbrev pub by_row : (rows : List Forwarded) (f : Forwarded) (C : List Entry) (s : Sending) → IsRight rows C s → IsRight (rows ++ f ∷ []) C s
by_row rows f C s h = record {
  chosen = h.chosen;
  op = h.op;
  found = h.found;
  permitted = h.permitted;
  quiet = row_stays (λ g. implies (not g.answered) (length (answers h.op s) == 0)) s.op.k rows f h.quiet;
}

-- and an entry of the connection that leaves the answers
abbrev pub by_connection : (rows : List Forwarded) (C : List Entry) (e : Entry) (s : Sending) (h : IsRight rows C s) → answers h.op (later_sending e s) ≡ answers h.op s → IsRight rows C (later_sending e s)
by_connection rows C e s h same = record {
  chosen = h.chosen;
  op = h.op;
  found = h.found;
  permitted = ap (λ a. allowed (kind_of h.op.request.rest) a (outs h.op)) same ∙ h.permitted;
  quiet = ap (λ a. passes (λ f. implies (not f.answered) (length a == 0)) (row_of s.op.k rows)) same ∙ h.quiet;
}

nothing_more : (b : Bool) (xs : List (List ℕ)) (o : Option (List ℕ)) → o ≡ None → xs ++ (if b then [] else option_to_list o) ≡ xs
nothing_more b xs None h = nothing b xs
nothing_more b xs (Some r) h = absurd (let bad : Some r ≡ None = h in cc)

-- an entry that answers nothing under an identifier leaves the answers
pub answers_silent : (m : Message) (id : ℕ) (L : List Entry) (e : Entry) → answer_of m id e ≡ None → answers_under m id (L ++ e ∷ []) ≡ answers_under m id L
answers_silent m id L e none = answers_grow m id L e ∙ nothing_more (list_any _ (answers_under m id L)) (answers_under m id L) (answer_of m id e) none

-- each Sent of the list is as it should be behind a change, where a further test passes of each
pub keep_all : (rows rows' : List Forwarded) (C C' : List Entry) (change : Sending → Sending) (test : Sending → Bool) → ((s : Sending) → test s ≡ true → IsRight rows C s → IsRight rows' C' (change s)) → (ss : List Sending) → list_all test ss ≡ true → list_all (is_sent_rightly rows C) ss ≡ true → list_all (is_sent_rightly rows' C') (map change ss) ≡ true
keep_all rows rows' C C' change test keep [] t h = refl
keep_all rows rows' C C' change test keep (s ∷ ss) t h = both (is_sent_rightly rows' C' (change s)) (list_all (is_sent_rightly rows' C') (map change ss)) (together rows' C' (change s) (keep s (left (test s) _ t) (apart rows C s (left (is_sent_rightly rows C s) _ h)))) (keep_all rows rows' C C' change test keep ss (right (test s) _ t) (right (is_sent_rightly rows C s) _ h))

map_same : (ss : List Sending) → map (λ s. s) ss ≡ ss
map_same [] = refl
map_same (s ∷ ss) = ap (λ l. s ∷ l) (map_same ss)

-- the same where the list itself doesn't change
pub keep_each : (rows : List Forwarded) (C C' : List Entry) → ((s : Sending) → IsRight rows C s → IsRight rows C' s) → (ss : List Sending) → list_all (is_sent_rightly rows C) ss ≡ true → list_all (is_sent_rightly rows C') ss ≡ true
keep_each rows C C' keep ss h = ap (list_all (is_sent_rightly rows C')) (sym (map_same ss)) ∙ keep_all rows rows C C' (λ s. s) (λ s. true) (λ s t k. keep s k) ss (all_always (λ s. true) ss (λ s. refl)) h

-- what no answers allow: nothing
nothing_allowed : (o : Option OpKind) → allowed o [] [] ≡ true
nothing_allowed None = refl
nothing_allowed (Some k) = refl

-- nothing is asked of a row where there are no answers
no_answers : (b : Bool) → implies b true ≡ true
no_answers true = refl
no_answers false = refl

-- a number that no row has is found at the end
pub row_last : (rows : List Forwarded) (f : Forwarded) (t : Forwarded → Bool) → passes t (Some f) ≡ true → ((g : Forwarded) → t g ≡ true) → passes t (row_of f.k (rows ++ f ∷ [])) ≡ true
row_last [] f t h k = ap (λ b. passes t (cond b (Some f) None)) (eq-eqb f.k f.k refl) ∙ k f
row_last (g ∷ rows) f t h k = here (g.k == f.k) (row_last rows f t h k)
  where
    here : (b : Bool) → passes t (row_of f.k (rows ++ f ∷ [])) ≡ true → passes t (cond b (Some g) (row_of f.k (rows ++ f ∷ []))) ≡ true
    here true later = k g
    here false later = later

-- a Sent of a further row under a choice that the client learned just before, of a Delete that came in before that
pub new_right : (rows : List Forwarded) (f : Forwarded) (C U : List Entry) (id backend n : ℕ) (rest : List ℕ) → f.k ≡ suc (length (operations 1 C)) → operation_message (In id rest) ≡ Some (record { id = id; rest = rest }) → is_sent_rightly (rows ++ f ∷ []) ((C ++ record { part = Client 1; at = 0; what = In id rest } ∷ []) ++ record { part = Client 1; at = 0; what = Chosen (record { client = 1; k = f.k }) (Go 1 backend) } ∷ []) (new_sending 1 U (record { part = Connection 1; at = 0; what = Sent n (record { client = 1; k = f.k }) rest }) (record { op = record { client = 1; k = f.k }; value = record { id = n; rest = rest } })) ≡ true
new_right rows f C U id backend n rest named makes = both (is_chosen C' op) (passes (is_answered_as (rows ++ f ∷ []) sent) (operation_in C' op)) (some_entry_grows (λ place e. is_choice_of op 1 e && is_live_at place op) (C ++ came ∷ []) chosen ∙ ap (λ b. is_chosen (C ++ came ∷ []) op || b) learned ∙ or_true (is_chosen (C ++ came ∷ []) op)) (ap (passes (is_answered_as (rows ++ f ∷ []) sent)) (op_stays (C ++ came ∷ []) chosen op made there) ∙ both (allowed (kind_of rest) (answers made' sent) (outs made')) _ (ap (λ o. allowed (kind_of rest) [] o) (outs_silent id [] chosen refl) ∙ nothing_allowed (kind_of rest)) (row_last rows f (λ g. implies (not g.answered) true) (no_answers (not f.answered)) (λ g. no_answers (not g.answered))))
  where
    op : OpName
    op = record { client = 1; k = f.k }

    came : Entry
    came = record { part = Client 1; at = 0; what = In id rest }

    chosen : Entry
    chosen = record { part = Client 1; at = 0; what = Chosen (record { client = 1; k = f.k }) (Go 1 backend) }

    C' : List Entry
    C' = (C ++ record { part = Client 1; at = 0; what = In id rest } ∷ []) ++ record { part = Client 1; at = 0; what = Chosen (record { client = 1; k = f.k }) (Go 1 backend) } ∷ []

    sent : Sending
    sent = new_sending 1 U (record { part = Connection 1; at = 0; what = Sent n (record { client = 1; k = f.k }) rest }) (record { op = record { client = 1; k = f.k }; value = record { id = n; rest = rest } })

    made : Operation
    made = new_operation 1 C (record { part = Client 1; at = 0; what = In id rest }) (record { id = id; rest = rest })

    made' : Operation
    made' = later_operation (record { part = Client 1; at = 0; what = Chosen (record { client = 1; k = f.k }) (Go 1 backend) }) (new_operation 1 C (record { part = Client 1; at = 0; what = In id rest }) (record { id = id; rest = rest }))

    there : operation_in (C ++ came ∷ []) op ≡ Some made
    there = ap (λ k. operation_in (C ++ came ∷ []) (record { client = 1; k = k })) named ∙ new_operation_is_last 1 C came (record { id = id; rest = rest }) makes

    learned : (is_choice_of op 1 chosen && is_live_at (C ++ came ∷ []) op) ≡ true
    learned = both (is_choice_of op 1 chosen) (is_live_at (C ++ came ∷ []) op) (both (same_op op op) true (eq-eqb f.k f.k refl) refl) (ap (passes is_live) there)

    or_true : (b : Bool) → (b || true) ≡ true
    or_true true = refl
    or_true false = refl
