-- What each round leaves of the Sent entries: a request that is forwarded, one that is refused, the answer to a live
-- operation, and a later answer.
use Rattle.std.proofs.Common.{◌≡◌, ℕ, zero, suc, ◌+◌, Bool, true, false, ◌&&◌, ◌||◌, ◌==◌, not, List, [], ◌∷◌, ◌++◌, length, refl, ap, ◌∙◌, sym, arith, eq-eqb}
use Rattle.std.specs.Prelude.{Option, Some, None, if◌then◌else◌, map, slice_get, slice_set}
use Rattle.std.specs.List.{list_all, list_any}
use Rattle.std.specs.Option.{option_to_list}
use Rattle.std.proofs.lemmas.List.{append-nil}
use Rattle.std.proofs.lemmas.Bool.{eqb-true, eqb-false}
use Rattle.std.proofs.lemmas.List.Folds.{list_all-append}
use Rattle.ldap_spec.specs.Messages.{Message}
use Rattle.ldap_spec.specs.Kinds.{kind_of, fits, same_kind}
use Rattle.lload_names.specs.declared.names.Entry.{Entry}
use Rattle.lload_names.specs.declared.names.OpName.{OpName}
use Rattle.lload_names.specs.declared.names.OpKind.{OpKind}
use Rattle.lload_names.specs.declared.names.OpKind.TheVariants.{Delete}
use Rattle.lload_names.specs.declared.names.Answer.{Answer}
use Rattle.lload_names.specs.declared.names.Answer.TheVariants.{Go}
use Rattle.lload_names.specs.declared.names.PartName.TheVariants.{Client, Up as Connection}
use Rattle.lload_names.specs.declared.names.What.TheVariants.{In, Chosen, Out, Sent, Got}
use Rattle.small_spec.specs.Lists.{passes, implies, agrees}
use Rattle.small_spec.specs.Journal.{same_op}
use Rattle.small_spec.specs.Entries.{Named, operation_message, out_message, sent_message}
use Rattle.small_spec.specs.Operations.{Operation, operations, operation_in, is_of, is_live, outs, outs_under, out_rest, takes_id, is_final_for}
use Rattle.small_spec.specs.Answers.{Sending, sendings, answers, answer_of}
use Rattle.small_spec.specs.Fifo.{allowed, is_ended_once, is_prefix_and_refusal}
use Rattle.small_spec.proofs.Growth.{left, right, both, answers_may_grow}
use Rattle.small_laws.specs.ClientGrowth.{later_operation}
use Rattle.small_laws.specs.ConnectionGrowth.{later_sending, new_sending}
use Rattle.small_laws.proofs.ListLaws.{prefix_same, all_always, implied, found_passes}
use Rattle.small_laws.proofs.ClientGrowth.{outs_grow, any_grows, holds_of_named}
use Rattle.small_laws.proofs.ConnectionGrowth.{sendings_none, sendings_one, answers_grow}
use Rattle.small_world.specs.declared.world.Forwarded.{Forwarded}
use Rattle.small_world.specs.States.{answered}
use Rattle.small_world.specs.Stands.{is_refused, ClientList, ConnectionList, is_sent_rightly, is_told, is_forwarded_as, is_latest, is_latest_of, row_of, sent_name, are_rising}
use Rattle.small_world.proofs.RowLaws.{rising_row, row_of_answered, row_of_other}
use Rattle.small_world.proofs.Rows.{ties, each_tied}
use Rattle.small_world.proofs.SentRounds.{IsRight, by_client, by_silent, by_row, by_connection, chosen_stays, op_stays, outs_silent, answers_silent, keep_all, keep_each, new_right}

-- a request is forwarded: each earlier Sent stays right, and the new one is right
pub each_forwarded : (rows : List Forwarded) (f : Forwarded) (C U : List Entry) (id backend n : ℕ) (rest : List ℕ) → f.k ≡ suc (length (operations 1 C)) → operation_message (In id rest) ≡ Some (record { id = id; rest = rest }) → list_all (is_sent_rightly rows C) (sendings 1 U) ≡ true → list_all (is_sent_rightly (rows ++ f ∷ []) ((C ++ record { part = Client 1; at = 0; what = In id rest } ∷ []) ++ record { part = Client 1; at = 0; what = Chosen (record { client = 1; k = f.k }) (Go 1 backend) } ∷ [])) (sendings 1 (U ++ record { part = Connection 1; at = 0; what = Sent n (record { client = 1; k = f.k }) rest } ∷ [])) ≡ true
each_forwarded rows f C U id backend n rest named makes h = ap (list_all test) (sendings_one 1 U sent named_message refl) ∙ list_all-append test (map (later_sending sent) (sendings 1 U)) (new_sending 1 U sent named_message ∷ []) ∙ both (list_all test (map (later_sending sent) (sendings 1 U))) (test (new_sending 1 U sent named_message) && true) (keep_all rows (rows ++ f ∷ []) C C' (later_sending sent) (λ s. true) (λ s t k. by_connection (rows ++ f ∷ []) C' sent s (keep s k) (answers_silent (keep s k).op.request s.id s.behind sent refl)) (sendings 1 U) (all_always (λ s. true) (sendings 1 U) (λ s. refl)) h) (both (test (new_sending 1 U sent named_message)) true (new_right rows f C U id backend n rest named makes) refl)
  where
    came : Entry
    came = record { part = Client 1; at = 0; what = In id rest }

    chosen : Entry
    chosen = record { part = Client 1; at = 0; what = Chosen (record { client = 1; k = f.k }) (Go 1 backend) }

    C' : List Entry
    C' = (C ++ record { part = Client 1; at = 0; what = In id rest } ∷ []) ++ record { part = Client 1; at = 0; what = Chosen (record { client = 1; k = f.k }) (Go 1 backend) } ∷ []

    sent : Entry
    sent = record { part = Connection 1; at = 0; what = Sent n (record { client = 1; k = f.k }) rest }

    named_message : Named Message
    named_message = record { op = record { client = 1; k = f.k }; value = record { id = n; rest = rest } }

    test : Sending → Bool
    test s = is_sent_rightly (rows ++ f ∷ []) ((C ++ record { part = Client 1; at = 0; what = In id rest } ∷ []) ++ record { part = Client 1; at = 0; what = Chosen (record { client = 1; k = f.k }) (Go 1 backend) } ∷ []) s

    keep : (s : Sending) → IsRight rows C s → IsRight (rows ++ f ∷ []) C' s
    keep s k = by_silent (rows ++ f ∷ []) (C ++ came ∷ []) chosen refl s (by_silent (rows ++ f ∷ []) C came refl s (by_row rows f C s k))

-- an Out of an identifier that an In took before it is for no earlier operation
not_for_earlier : (xs : List (List ℕ)) (r : List ℕ) (a t : Bool) → xs ++ (if ((a || t) || false) || false then [] else (if t then r ∷ [] else [])) ≡ xs
not_for_earlier xs r true t = append-nil xs
not_for_earlier xs r false true = append-nil xs
not_for_earlier xs r false false = append-nil xs

-- an entry of a client and then another that takes no identifier
takes_later : (id : ℕ) (L : List Entry) (e d : Entry) → takes_id id d ≡ false → list_any (takes_id id) ((L ++ e ∷ []) ++ d ∷ []) ≡ ((list_any (takes_id id) L || takes_id id e) || false)
takes_later id L e d none = any_grows (takes_id id) (L ++ e ∷ []) d ∙ ap (λ b. list_any (takes_id id) (L ++ e ∷ []) || b) none ∙ ap (λ b. b || false) (any_grows (takes_id id) L e)

-- a request is refused: what the clients of earlier operations got stays
outs_refused : (id' : ℕ) (L : List Entry) (came chosen out : Entry) (m r : Message) → operation_message came.what ≡ Some m → out_message came.what ≡ None → operation_message chosen.what ≡ None → out_message chosen.what ≡ None → operation_message out.what ≡ None → out_message out.what ≡ Some r → r.id ≡ m.id → outs_under id' (((L ++ came ∷ []) ++ chosen ∷ []) ++ out ∷ []) ≡ outs_under id' L
outs_refused id' L came chosen out m r makes silent unmade unsaid unmade' says same = outs_grow id' ((L ++ came ∷ []) ++ chosen ∷ []) out ∙ ap (λ xs. xs ++ (if list_any (takes_id id') ((L ++ came ∷ []) ++ chosen ∷ []) || takes_id id' out then [] else out_rest id' (out_message out.what))) (outs_silent id' (L ++ came ∷ []) chosen unsaid ∙ outs_silent id' L came silent) ∙ ap (λ b. outs_under id' L ++ (if b || takes_id id' out then [] else out_rest id' (out_message out.what))) (takes_later id' L came chosen (ap (passes (λ x. x.id == id')) unmade) ∙ ap (λ b. (list_any (takes_id id') L || b) || false) (ap (passes (λ x. x.id == id')) makes)) ∙ ap (λ b. outs_under id' L ++ (if ((list_any (takes_id id') L || m.id == id') || false) || b then [] else out_rest id' (out_message out.what))) (ap (passes (λ x. x.id == id')) unmade') ∙ ap (λ o. outs_under id' L ++ (if ((list_any (takes_id id') L || m.id == id') || false) || false then [] else out_rest id' o)) says ∙ ap (λ i. outs_under id' L ++ (if ((list_any (takes_id id') L || m.id == id') || false) || false then [] else (if i == id' then r.rest ∷ [] else []))) same ∙ not_for_earlier (outs_under id' L) r.rest (list_any (takes_id id') L) (m.id == id')

pub each_refused : (rows : List Forwarded) (C U : List Entry) (id k : ℕ) (answer : Answer) (rest refused : List ℕ) → operation_message (In id rest) ≡ Some (record { id = id; rest = rest }) → list_all (is_sent_rightly rows C) (sendings 1 U) ≡ true → list_all (is_sent_rightly rows (((C ++ record { part = Client 1; at = 0; what = In id rest } ∷ []) ++ record { part = Client 1; at = 0; what = Chosen (record { client = 1; k = k }) answer } ∷ []) ++ record { part = Client 1; at = 0; what = Out id refused } ∷ [])) (sendings 1 U) ≡ true
each_refused rows C U id k answer rest refused makes h = keep_each rows C (((C ++ came ∷ []) ++ chosen ∷ []) ++ out ∷ []) keep (sendings 1 U) h
  where
    came : Entry
    came = record { part = Client 1; at = 0; what = In id rest }

    chosen : Entry
    chosen = record { part = Client 1; at = 0; what = Chosen (record { client = 1; k = k }) answer }

    out : Entry
    out = record { part = Client 1; at = 0; what = Out id refused }

    keep : (s : Sending) → IsRight rows C s → IsRight rows (((C ++ record { part = Client 1; at = 0; what = In id rest } ∷ []) ++ record { part = Client 1; at = 0; what = Chosen (record { client = 1; k = k }) answer } ∷ []) ++ record { part = Client 1; at = 0; what = Out id refused } ∷ []) s
    keep s g = let g1 = by_silent rows C came refl s g in let g2 = by_silent rows (C ++ came ∷ []) chosen refl s g1 in by_client rows ((C ++ came ∷ []) ++ chosen ∷ []) out s g2 (outs_refused g.op.request.id g.op.behind came chosen out (record { id = id; rest = rest }) (record { id = id; rest = refused }) makes refl refl refl refl refl refl ∙ sym (outs_silent g.op.request.id (g.op.behind ++ came ∷ []) chosen refl ∙ outs_silent g.op.request.id g.op.behind came refl))

-- what two tests say that agree
agree_false : (a : Bool) → agrees a false ≡ true → a ≡ false
agree_false true h = absurd (let bad : false ≡ true = h in cc)
agree_false false h = refl

agree_true : (a : Bool) → agrees a true ≡ true → a ≡ true
agree_true true h = refl
agree_true false h = absurd (let bad : false ≡ true = h in cc)

-- a comparison the other way round
turned : (a b : ℕ) (c : Bool) → (b == a) ≡ c → (a == b) ≡ false → (b == a) ≡ false
turned a b true h n = absurd (let yes : (a == b) ≡ true = eq-eqb a b (sym (eqb-true b a h)) in let bad : true ≡ false = sym yes ∙ n in cc)
turned a b false h n = h

other_way : (a b : ℕ) → (a == b) ≡ false → (b == a) ≡ false
other_way a b h = turned a b (b == a) refl h

-- a Got under another identifier answers nothing
no_answer : (m : Message) (id s_id : ℕ) (rest : List ℕ) → (s_id == id) ≡ false → answer_of m s_id (record { part = Connection 1; at = 0; what = Got id rest }) ≡ None
no_answer m id s_id rest h = ap (λ b. if b && passes (λ kind. fits kind rest) (kind_of m.rest) then Some rest else None) (other_way s_id id h)

-- a Sent of another row, behind a Got under this row's identifier
elsewhere : (rows : List Forwarded) (C : List Entry) (id : ℕ) (f : Forwarded) (rest : List ℕ) (s : Sending) → ties id f (sent_name s) ≡ true → (s.op.k == f.k) ≡ false → (k : IsRight rows C s) → answers k.op (later_sending (record { part = Connection 1; at = 0; what = Got id rest }) s) ≡ answers k.op s
elsewhere rows C id f rest s t n k = answers_silent k.op.request s.id s.behind (record { part = Connection 1; at = 0; what = Got id rest }) (no_answer k.op.request id s.id rest (agree_false (s.id == id) (ap (agrees (s.id == id)) (sym n) ∙ right (s.op.client == 1) _ t)))

-- the ties of all Sent entries to a row
all_tied : (rows : List Forwarded) (most i id : ℕ) (f : Forwarded) (U : List Entry) → ConnectionList rows U → are_rising 0 most rows ≡ true → slice_get rows i ≡ Some f → id ≡ 1 + i → list_all (λ s. ties id f (sent_name s)) (sendings 1 U) ≡ true
all_tied rows most i id f U u r there is = ap (λ n. list_all (λ s. ties n f (sent_name s)) (sendings 1 U)) is ∙ each_tied most rows i f (sendings 1 U) u.names r there

-- the row of the operation that a Sent of the same number is of
own_row : (rows : List Forwarded) (most i : ℕ) (f : Forwarded) (s : Sending) → are_rising 0 most rows ≡ true → slice_get rows i ≡ Some f → (s.op.k == f.k) ≡ true → row_of s.op.k rows ≡ Some f
own_row rows most i f s r there h = ap (λ k. row_of k rows) (eqb-true s.op.k f.k h) ∙ (rising_row 0 most rows i f r there).2

-- a later answer to an operation that has one
again_right : (rows : List Forwarded) (most i id : ℕ) (f : Forwarded) (C : List Entry) (rest : List ℕ) (s : Sending) → are_rising 0 most rows ≡ true → slice_get rows i ≡ Some f → f.answered ≡ true → ties id f (sent_name s) ≡ true → (b : Bool) → (s.op.k == f.k) ≡ b → IsRight rows C s → IsRight rows C (later_sending (record { part = Connection 1; at = 0; what = Got id rest }) s)
again_right rows most i id f C rest s r there done t true h k = record {
  chosen = k.chosen;
  op = k.op;
  found = k.found;
  permitted = answers_may_grow k.op.request (kind_of k.op.request.rest) s.id s.behind (record { part = Connection 1; at = 0; what = Got id rest } ∷ []) (outs k.op) k.permitted;
  quiet = ap (passes (λ g. implies (not g.answered) (length (answers k.op (later_sending (record { part = Connection 1; at = 0; what = Got id rest }) s)) == 0))) (own_row rows most i f s r there h) ∙ ap (λ b. implies (not b) (length (answers k.op (later_sending (record { part = Connection 1; at = 0; what = Got id rest }) s)) == 0)) done;
}
again_right rows most i id f C rest s r there done t false h k = by_connection rows C (record { part = Connection 1; at = 0; what = Got id rest }) s k (elsewhere rows C id f rest s t h k)

pub each_again : (rows : List Forwarded) (most i id : ℕ) (f : Forwarded) (C U : List Entry) (rest : List ℕ) → ConnectionList rows U → are_rising 0 most rows ≡ true → slice_get rows i ≡ Some f → f.answered ≡ true → id ≡ 1 + i → list_all (is_sent_rightly rows C) (sendings 1 U) ≡ true → list_all (is_sent_rightly rows C) (sendings 1 (U ++ record { part = Connection 1; at = 0; what = Got id rest } ∷ [])) ≡ true
each_again rows most i id f C U rest u r there done is h = ap (list_all (is_sent_rightly rows C)) (sendings_none 1 U (record { part = Connection 1; at = 0; what = Got id rest }) refl) ∙ keep_all rows rows C C (later_sending (record { part = Connection 1; at = 0; what = Got id rest })) (λ s. ties id f (sent_name s)) (λ s t k. again_right rows most i id f C rest s r there done t (s.op.k == f.k) refl k) (sendings 1 U) (all_tied rows most i id f U u r there is) h

-- what the row says of its operation's place among those with its identifier, of each operation
each_latest_at : (os : List Operation) (rows : List Forwarded) (i : ℕ) (f : Forwarded) → slice_get rows i ≡ Some f → f.answered ≡ false → list_all (is_latest_of os) rows ≡ true → list_all (is_latest f) os ≡ true
each_latest_at os [] i f h n l = absurd (let bad : None ≡ Some f = h in cc)
each_latest_at os (g ∷ rows) zero f h n l = let same : g ≡ f = cc in implied true (list_all (is_latest f) os) (ap (λ b. implies (not b) (list_all (is_latest f) os)) (sym n) ∙ ap (is_latest_of os) (sym same) ∙ left (is_latest_of os g) _ l) refl
each_latest_at os (g ∷ rows) (suc i) f h n l = each_latest_at os rows i f h n (right (is_latest_of os g) _ l)

-- an Out that is for another operation
passed_over : (id' fid : ℕ) (L : List Entry) (rest : List ℕ) (c : Bool) → (id' == fid) ≡ c → implies c (agrees (list_any (takes_id fid) L) true) ≡ true → outs_under id' (L ++ record { part = Client 1; at = 0; what = Out fid rest } ∷ []) ≡ outs_under id' L
passed_over id' fid L rest true h t = outs_grow id' L (record { part = Client 1; at = 0; what = Out fid rest }) ∙ ap (λ b. outs_under id' L ++ (if b || false then [] else (if fid == id' then rest ∷ [] else []))) (ap (λ n. list_any (takes_id n) L) (eqb-true id' fid h) ∙ agree_true (list_any (takes_id fid) L) t) ∙ append-nil (outs_under id' L)
passed_over id' fid L rest false h t = outs_grow id' L (record { part = Client 1; at = 0; what = Out fid rest }) ∙ ap (λ b. outs_under id' L ++ (if list_any (takes_id id') L || false then [] else (if b then rest ∷ [] else []))) (other_way id' fid h) ∙ either_way (list_any (takes_id id') L || false)
  where
    either_way : (b : Bool) → outs_under id' L ++ (if b then [] else []) ≡ outs_under id' L
    either_way true = append-nil (outs_under id' L)
    either_way false = append-nil (outs_under id' L)

-- an Out that is for the operation itself
gone_through : (id' : ℕ) (L : List Entry) (rest : List ℕ) → list_any (takes_id id') L ≡ false → outs_under id' (L ++ record { part = Client 1; at = 0; what = Out id' rest } ∷ []) ≡ outs_under id' L ++ rest ∷ []
gone_through id' L rest h = outs_grow id' L (record { part = Client 1; at = 0; what = Out id' rest }) ∙ ap (λ b. outs_under id' L ++ (if b || false then [] else (if id' == id' then rest ∷ [] else []))) h ∙ ap (λ b. outs_under id' L ++ (if b then rest ∷ [] else [])) (eq-eqb id' id' refl)

-- the kind of an operation that is a Delete
the_kind : (o : Option OpKind) → passes (same_kind Delete) o ≡ true → o ≡ Some Delete
the_kind None h = absurd (let bad : false ≡ true = h in cc)
the_kind (Some Delete) h = refl
the_kind (Some _) h = absurd (let bad : false ≡ true = h in cc)

empty_list : (xs : List (List ℕ)) → (length xs == 0) ≡ true → xs ≡ []
empty_list [] h = refl
empty_list (x ∷ xs) h = absurd (let bad : suc (length xs) ≡ 0 = eqb-true (suc (length xs)) 0 h in omega (arith, bad))

-- what answers and Outs a live operation has, once it gets its answer: both are that answer alone
pub record IsWaiting (rows : List Forwarded) (C : List Entry) (f : Forwarded) (s : Sending) (o : Operation) : Type 0 where
  pub delete : kind_of o.request.rest ≡ Some Delete
  pub same_id : f.id ≡ o.request.id
  pub no_outs : outs o ≡ []
  pub latest : list_any (takes_id o.request.id) o.behind ≡ false

-- a client's list of one client: its operations are those of client 1
of_client : (t : Operation → Bool) (C : List Entry) (op : OpName) (o : Operation) → op.client ≡ 1 → operation_in C op ≡ Some o → list_all t (operations 1 C) ≡ true → t o ≡ true
of_client t C op o one found h = holds_of_named t C op o found (ap (λ c. list_all t (operations c C)) one ∙ h)

-- the number of the operation that a Sent is of
same_k : (C : List Entry) (op : OpName) (o : Operation) → operation_in C op ≡ Some o → op.k ≡ o.name.k
same_k C op o found = eqb-true op.k o.name.k (right (op.client == o.name.client) _ (found_passes (λ x. same_op op x.name) (operations op.client C) o found))

waiting : (rows : List Forwarded) (made most i : ℕ) (f : Forwarded) (C : List Entry) (s : Sending) (o : Operation) → ClientList rows made C → are_rising 0 most rows ≡ true → slice_get rows i ≡ Some f → f.answered ≡ false → s.op.client ≡ 1 → (s.op.k == f.k) ≡ true → operation_in C s.op ≡ Some o → IsWaiting rows C f s o
waiting rows made most i f C s o c r there live one h found = record {
  delete = the_kind (kind_of o.request.rest) (left (is_of Delete o) _ (left (is_of Delete o && _) _ told));
  same_id = eqb-true f.id o.request.id (left (f.id == o.request.id) _ (left (f.id == o.request.id && _) _ as_row));
  no_outs = empty_list (outs o) (implied true (length (outs o) == 0) (ap (λ b. implies (not b) (length (outs o) == 0)) (sym live) ∙ right (f.id == o.request.id && agrees (is_live o) (not f.answered)) _ as_row) refl);
  latest = ap (λ n. list_any (takes_id n) o.behind) (sym same) ∙ agree_false (list_any (takes_id f.id) o.behind) (ap (λ b. agrees (list_any (takes_id f.id) o.behind) (not b)) (sym number) ∙ implied (o.request.id == f.id) _ last (eq-eqb o.request.id f.id (sym same)));
}
  where
    told : is_told rows o ≡ true
    told = of_client (is_told rows) C s.op o one found c.each_told

    last : is_latest f o ≡ true
    last = of_client (is_latest f) C s.op o one found (each_latest_at (operations 1 C) rows i f there live c.each_latest)

    number : (o.name.k == f.k) ≡ true
    number = ap (λ k. k == f.k) (sym (same_k C s.op o found)) ∙ h

    row : row_of o.name.k rows ≡ Some f
    row = ap (λ k. row_of k rows) (sym (same_k C s.op o found)) ∙ own_row rows most i f s r there h

    as_row : is_forwarded_as f o ≡ true
    as_row = ap (λ x. elim x as (λ _. Bool) [ None ↦ is_refused o | Some g ↦ is_forwarded_as g o ]) (sym row) ∙ right (is_of Delete o && is_ended_once o) _ told

    same : f.id ≡ o.request.id
    same = eqb-true f.id o.request.id (left (f.id == o.request.id) _ (left (f.id == o.request.id && _) _ as_row))

-- the answer to a live operation: what it got is the answer alone, and so is what its client got
answered_here : (rows : List Forwarded) (made i id : ℕ) (f : Forwarded) (C : List Entry) (rest : List ℕ) (s : Sending) → are_rising 0 made rows ≡ true → slice_get rows i ≡ Some f → f.answered ≡ false → fits Delete rest ≡ true → ties id f (sent_name s) ≡ true → (s.op.k == f.k) ≡ true → (k : IsRight rows C s) → IsWaiting rows C f s k.op → IsRight (slice_set rows i (answered f)) (C ++ record { part = Client 1; at = 0; what = Out f.id rest } ∷ []) (later_sending (record { part = Connection 1; at = 0; what = Got id rest }) s)
answered_here rows made i id f C rest s r there live fit t h k w = record {
  chosen = chosen_stays C out s.op k.chosen;
  op = later_operation out k.op;
  found = op_stays C out s.op k.op k.found;
  permitted = ap (λ a. allowed (kind_of k.op.request.rest) a (outs (later_operation out k.op))) answers_now ∙ ap (allowed (kind_of k.op.request.rest) (rest ∷ [])) outs_now ∙ ap (λ o. allowed o (rest ∷ []) (rest ∷ [])) w.delete ∙ ap (λ b. b || is_prefix_and_refusal Delete (rest ∷ []) (rest ∷ [])) (prefix_same (rest ∷ []));
  quiet = ap (λ o. passes (λ g. implies (not g.answered) (length (answers (later_operation out k.op) (later_sending got s)) == 0)) o) (ap (λ n. row_of n (slice_set rows i (answered f))) (eqb-true s.op.k f.k h) ∙ row_of_answered 0 made rows i f r there);
}
  where
    out : Entry
    out = record { part = Client 1; at = 0; what = Out f.id rest }

    got : Entry
    got = record { part = Connection 1; at = 0; what = Got id rest }

    row : row_of s.op.k rows ≡ Some f
    row = own_row rows made i f s r there h

    none_yet : answers k.op s ≡ []
    none_yet = empty_list (answers k.op s) (implied true (length (answers k.op s) == 0) (ap (λ b. implies (not b) (length (answers k.op s) == 0)) (sym live) ∙ ap (passes (λ g. implies (not g.answered) (length (answers k.op s) == 0))) (sym row) ∙ k.quiet) refl)

    under : (id == s.id) ≡ true
    under = eq-eqb id s.id (sym (eqb-true s.id id (agree_true (s.id == id) (ap (agrees (s.id == id)) (sym h) ∙ right (s.op.client == 1) _ t))))

    answer : answer_of k.op.request s.id got ≡ Some rest
    answer = ap (λ b. if b && passes (λ kind. fits kind rest) (kind_of k.op.request.rest) then Some rest else None) under ∙ ap (λ o. if passes (λ kind. fits kind rest) o then Some rest else None) w.delete ∙ ap (λ b. if b then Some rest else None) fit

    answers_now : answers (later_operation out k.op) (later_sending got s) ≡ rest ∷ []
    answers_now = answers_grow k.op.request s.id s.behind got ∙ ap (λ xs. xs ++ (if list_any (is_final_for k.op.request) xs then [] else option_to_list (answer_of k.op.request s.id got))) none_yet ∙ ap option_to_list answer

    outs_now : outs (later_operation out k.op) ≡ rest ∷ []
    outs_now = ap (λ n. outs_under k.op.request.id (k.op.behind ++ record { part = Client 1; at = 0; what = Out n rest } ∷ [])) w.same_id ∙ gone_through k.op.request.id k.op.behind rest w.latest ∙ ap (λ xs. xs ++ rest ∷ []) w.no_outs

answered_elsewhere : (rows : List Forwarded) (made i id : ℕ) (f : Forwarded) (C : List Entry) (rest : List ℕ) (s : Sending) → ClientList rows made C → slice_get rows i ≡ Some f → f.answered ≡ false → ties id f (sent_name s) ≡ true → (s.op.k == f.k) ≡ false → IsRight rows C s → IsRight (slice_set rows i (answered f)) (C ++ record { part = Client 1; at = 0; what = Out f.id rest } ∷ []) (later_sending (record { part = Connection 1; at = 0; what = Got id rest }) s)
answered_elsewhere rows made i id f C rest s c there live t h k = record {
  chosen = moved.chosen;
  op = moved.op;
  found = moved.found;
  permitted = moved.permitted;
  quiet = ap (passes (λ g. implies (not g.answered) (length (answers k.op (later_sending got s)) == 0))) (row_of_other rows i f s.op.k there (eqb-false f.k s.op.k (other_way s.op.k f.k h))) ∙ moved.quiet;
}
  where
    out : Entry
    out = record { part = Client 1; at = 0; what = Out f.id rest }

    got : Entry
    got = record { part = Connection 1; at = 0; what = Got id rest }

    stays : IsRight rows C (later_sending got s)
    stays = by_connection rows C got s k (elsewhere rows C id f rest s t h k)

    one : s.op.client ≡ 1
    one = eqb-true s.op.client 1 (left (s.op.client == 1) _ t)

    last : is_latest f k.op ≡ true
    last = of_client (is_latest f) C s.op k.op one k.found (each_latest_at (operations 1 C) rows i f there live c.each_latest)

    other : (k.op.name.k == f.k) ≡ false
    other = ap (λ n. n == f.k) (sym (same_k C s.op k.op k.found)) ∙ h

    moved : IsRight rows (C ++ record { part = Client 1; at = 0; what = Out f.id rest } ∷ []) (later_sending (record { part = Connection 1; at = 0; what = Got id rest }) s)
    moved = by_client rows C out (later_sending got s) stays (passed_over k.op.request.id f.id k.op.behind rest (k.op.request.id == f.id) refl (ap (λ b. implies (k.op.request.id == f.id) (agrees (list_any (takes_id f.id) k.op.behind) (not b))) (sym other) ∙ last))

answered_right : (rows : List Forwarded) (made i id : ℕ) (f : Forwarded) (C : List Entry) (rest : List ℕ) (s : Sending) → ClientList rows made C → are_rising 0 made rows ≡ true → slice_get rows i ≡ Some f → f.answered ≡ false → fits Delete rest ≡ true → ties id f (sent_name s) ≡ true → (b : Bool) → (s.op.k == f.k) ≡ b → IsRight rows C s → IsRight (slice_set rows i (answered f)) (C ++ record { part = Client 1; at = 0; what = Out f.id rest } ∷ []) (later_sending (record { part = Connection 1; at = 0; what = Got id rest }) s)
answered_right rows made i id f C rest s c r there live fit t true h k = answered_here rows made i id f C rest s r there live fit t h k (waiting rows made made i f C s k.op c r there live (eqb-true s.op.client 1 (left (s.op.client == 1) _ t)) h k.found)
answered_right rows made i id f C rest s c r there live fit t false h k = answered_elsewhere rows made i id f C rest s c there live t h k

pub each_answered : (rows : List Forwarded) (made i id : ℕ) (f : Forwarded) (C U : List Entry) (rest : List ℕ) → ClientList rows made C → ConnectionList rows U → are_rising 0 made rows ≡ true → slice_get rows i ≡ Some f → f.answered ≡ false → id ≡ 1 + i → fits Delete rest ≡ true → list_all (is_sent_rightly rows C) (sendings 1 U) ≡ true → list_all (is_sent_rightly (slice_set rows i (answered f)) (C ++ record { part = Client 1; at = 0; what = Out f.id rest } ∷ [])) (sendings 1 (U ++ record { part = Connection 1; at = 0; what = Got id rest } ∷ [])) ≡ true
each_answered rows made i id f C U rest c u r there live is fit h = ap (list_all (is_sent_rightly (slice_set rows i (answered f)) (C ++ record { part = Client 1; at = 0; what = Out f.id rest } ∷ []))) (sendings_none 1 U (record { part = Connection 1; at = 0; what = Got id rest }) refl) ∙ keep_all rows (slice_set rows i (answered f)) C (C ++ record { part = Client 1; at = 0; what = Out f.id rest } ∷ []) (later_sending (record { part = Connection 1; at = 0; what = Got id rest })) (λ s. ties id f (sent_name s)) (λ s t k. answered_right rows made i id f C rest s c r there live fit t (s.op.k == f.k) refl k) (sendings 1 U) (all_tied rows made i id f U u r there is) h

-- what neither changes the client's Outs nor answers anything: a client arrives, or the connection comes up
pub each_arrived : (rows : List Forwarded) (C U : List Entry) (e : Entry) → out_message e.what ≡ None → list_all (is_sent_rightly rows C) (sendings 1 U) ≡ true → list_all (is_sent_rightly rows (C ++ e ∷ [])) (sendings 1 U) ≡ true
each_arrived rows C U e none h = keep_each rows C (C ++ e ∷ []) (λ s k. by_silent rows C e none s k) (sendings 1 U) h

pub each_quiet : (rows : List Forwarded) (C U : List Entry) (e : Entry) → sent_message e.what ≡ None → ((m : Message) (id : ℕ) → answer_of m id e ≡ None) → list_all (is_sent_rightly rows C) (sendings 1 U) ≡ true → list_all (is_sent_rightly rows C) (sendings 1 (U ++ e ∷ [])) ≡ true
each_quiet rows C U e unsent silent h = ap (list_all (is_sent_rightly rows C)) (sendings_none 1 U e unsent) ∙ keep_all rows rows C C (later_sending e) (λ s. true) (λ s t k. by_connection rows C e s k (answers_silent k.op.request s.id s.behind e (silent k.op.request s.id))) (sendings 1 U) (all_always (λ s. true) (sendings 1 U) (λ s. refl)) h
