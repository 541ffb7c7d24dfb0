-- What a message makes: a round as the script's rules say it, of that message alone, with entries that can be written,
-- behind which the world stands.
use Rattle.std.proofs.Common.{◌≡◌, ℕ, zero, suc, ◌+◌, ◌-◌, ◌<◌, ◌≤◌, ◌^◌, Bool, true, false, ◌&&◌, ◌||◌, ◌==◌, not, List, [], ◌∷◌, ◌++◌, length, refl, ap, ◌∙◌, sym, subst, arith, eq-eqb, get_or, lit<}
use Rattle.std.specs.Prelude.{IfOk, cond, Result, Ok, Err, OnOk, Some, None, if◌then◌else◌, nat_lt, slice_get, slice_set}
use Rattle.std.proofs.lemmas.Bool.{lt-ltb, leb-true, eqb-true, eqb-false, not-true, or_right}
use Rattle.std.proofs.lemmas.Option.{slice_get_read}
use Rattle.std.proofs.lemmas.List.Folds.{list_all-append}
use Rattle.ldap_spec.specs.Bodies.{refusal}
use Rattle.lload_names.specs.declared.names.Entry.{Entry}
use Rattle.lload_names.specs.declared.names.OpKind.TheVariants.{Delete}
use Rattle.lload_names.specs.declared.names.Refusal.TheVariants.{C3}
use Rattle.lload_names.specs.declared.names.ConnKind.TheVariants.{Regular}
use Rattle.lload_names.specs.declared.names.Bound.TheVariants.{Free}
use Rattle.lload_names.specs.declared.names.Answer.TheVariants.{Go, Unavailable}
use Rattle.lload_names.specs.declared.names.PartName.{PartName}
use Rattle.lload_names.specs.declared.names.PartName.TheVariants.{Desk, Client, Up as Connection}
use Rattle.lload_names.specs.declared.names.What.TheVariants.{Arrived, Linked, Up, Asked, Chose, Chosen, Sent}
use Rattle.small_spec.specs.Journal.{of_part, same_op}
use Rattle.small_spec.specs.History.{in_messages, got_messages}
use Rattle.std.specs.List.{list_any}
use Rattle.small_spec.specs.Operations.{operations}
use Rattle.small_spec.specs.Answers.{sendings}
use Rattle.small_laws.proofs.ListLaws.{any-map}
use Rattle.small_spec.specs.Standing.{is_one_element}
use Rattle.small_spec.specs.Follows.{IsRequestRound, IsAnswerRound, next_operation, is_sent_as}
use Rattle.lload_spec.specs.Writable.{can_be_spelled, each_can_be_written}
use Rattle.small_spec.proofs.Growth.{left, right, both}
use Rattle.small_world.specs.declared.world.Forwarded.{Forwarded}
use Rattle.small_world.specs.declared.world.Link.TheVariants.{Unheard}
use Rattle.small_world.specs.States.{WorldState, may_begin, begun, is_linked_state, IsRequestFor, IsAnswerFor, is_heard_state, gave, are_in_range, after_request, after_answer, answered}
use Rattle.small_world.specs.Stands.{StandsFor, numbered, sent_name}
use Rattle.small_world.proofs.Numbers.{sent_any}
use Rattle.small_world.proofs.RowLaws.{all_at, all_set}
use Rattle.small_world.specs.Rounds.{Takes, beginning}
use Rattle.small_world.specs.Pieces.{came, learned, sent, out, got, told_ended, forwarding, refusing, answering, request_piece, answer_piece}
use Rattle.small_world.proofs.DeleteFacts.{delete_kind}
use Rattle.small_world.proofs.Standing.{forwarded_stands, refused_stands, answered_stands, again_stands, arrived_stands, linked_stands}

-- there is a row below their count
row_below : (rows : List Forwarded) (i : ℕ) → i < length rows → (f : Forwarded) × (slice_get rows i ≡ Some f)
row_below [] i h = absurd (omega arith)
row_below (f ∷ rows) zero h = (f, refl)
row_below (f ∷ rows) (suc i) h = row_below rows i (omega arith)

-- an identifier that was given is above 0 and at most the count of the rows
given_within : (w : WorldState) (id : ℕ) → gave w id ≡ true → (0 < id) × (id ≤ length w.forwarded)
given_within w id h = let some : id ≡ 0 → ⊥ = eqb-false id 0 (not-true (id == 0) (left (not (id == 0)) _ h)) in let low : 0 < id = omega arith in (low, leb-true id (length w.forwarded) (right (not (id == 0)) _ h))

-- the row that an answer is under
pub row_under : (w : WorldState) (id : ℕ) → gave w id ≡ true → (f : Forwarded) × (slice_get w.forwarded (id - 1) ≡ Some f)
row_under w id h = let within = given_within w id h in row_below w.forwarded (id - 1) (omega (arith, within.0, within.1))

-- and it is the one that was read there
pub row_read : (w : WorldState) (rows : List Forwarded) (id : ℕ) (f : Forwarded) → rows ≡ w.forwarded → gave w id ≡ true → f ≡ get_or rows (id - 1) f → slice_get w.forwarded (id - 1) ≡ Some f
row_read w rows id f same h read = let within = given_within w id h in let below : id - 1 < length rows = omega (arith, within.0, within.1, ap length same) in ap (λ r. slice_get r (id - 1)) (sym same) ∙ slice_get_read rows (length rows) (id - 1) f refl below read

-- a place has one row
pub one_row : (rows : List Forwarded) (i : ℕ) (f g : Forwarded) → slice_get rows i ≡ Some f → slice_get rows i ≡ Some g → f ≡ g
one_row rows i f g h k = let same : Some f ≡ Some g = sym h ∙ k in cc

-- what follows, whatever a call answered
pub on_ok : {A E : Type 0} (r : Result A E) (P : Type 0) → P → OnOk r P
on_ok (Ok x) P h = h
on_ok (Err e) P h = tt

-- what an answer under a row's identifier makes, and what it leaves
pub again_piece : (w : WorldState) (id : ℕ) (f : Forwarded) (rest : List ℕ) → slice_get w.forwarded (id - 1) ≡ Some f → f.answered ≡ true → answer_piece w id rest ≡ got id rest ∷ []
again_piece w id f rest there done = ap (λ o. elim o as (λ _. List Entry) [ None ↦ [] | Some f ↦ if f.answered then got id rest ∷ [] else answering f.k id f.id rest ]) there ∙ ap (λ b. if b then got id rest ∷ [] else answering f.k id f.id rest) done

pub again_state : (w : WorldState) (id : ℕ) (f : Forwarded) → slice_get w.forwarded (id - 1) ≡ Some f → f.answered ≡ true → after_answer w id ≡ w
again_state w id f there done = ap (λ o. elim o as (λ _. WorldState) [ None ↦ w | Some f ↦ if f.answered then w else record w { forwarded = slice_set w.forwarded (id - 1) (answered f) } ]) there ∙ ap (λ b. if b then w else record w { forwarded = slice_set w.forwarded (id - 1) (answered f) }) done

pub first_piece : (w : WorldState) (id : ℕ) (f : Forwarded) (rest : List ℕ) → slice_get w.forwarded (id - 1) ≡ Some f → f.answered ≡ false → answer_piece w id rest ≡ answering f.k id f.id rest
first_piece w id f rest there live = ap (λ o. elim o as (λ _. List Entry) [ None ↦ [] | Some f ↦ if f.answered then got id rest ∷ [] else answering f.k id f.id rest ]) there ∙ ap (λ b. if b then got id rest ∷ [] else answering f.k id f.id rest) live

pub first_state : (w : WorldState) (id : ℕ) (f : Forwarded) → slice_get w.forwarded (id - 1) ≡ Some f → f.answered ≡ false → after_answer w id ≡ record w { forwarded = slice_set w.forwarded (id - 1) (answered f) }
first_state w id f there live = ap (λ o. elim o as (λ _. WorldState) [ None ↦ w | Some f ↦ if f.answered then w else record w { forwarded = slice_set w.forwarded (id - 1) (answered f) } ]) there ∙ ap (λ b. if b then w else record w { forwarded = slice_set w.forwarded (id - 1) (answered f) }) live

-- the world stands behind a request
request_stands_if : (w : WorldState) (J : List Entry) (id : ℕ) (rest : List ℕ) → IsRequestFor w id rest → StandsFor w J → (b : Bool) → is_heard_state w.link ≡ b → StandsFor (after_request w id) (J ++ request_piece w id rest)
request_stands_if w J id rest r h true up = subst (λ b. StandsFor (record w { made = w.made + 1; forwarded = if b then w.forwarded ++ record { k = w.made + 1; id = id; answered = false } ∷ [] else w.forwarded }) (J ++ (if b then forwarding (w.made + 1) (suc (length w.forwarded)) id rest else refusing (w.made + 1) id rest))) (sym up) (forwarded_stands w J id rest h r.arrived up r.id_free r.id_some r.is_delete)
request_stands_if w J id rest r h false up = subst (λ b. StandsFor (record w { made = w.made + 1; forwarded = if b then w.forwarded ++ record { k = w.made + 1; id = id; answered = false } ∷ [] else w.forwarded }) (J ++ (if b then forwarding (w.made + 1) (suc (length w.forwarded)) id rest else refusing (w.made + 1) id rest))) (sym up) (refused_stands w J id rest h r.arrived r.id_free r.id_some r.is_delete)

pub request_stands : (w : WorldState) (J : List Entry) (id : ℕ) (rest : List ℕ) → IsRequestFor w id rest → StandsFor w J → StandsFor (after_request w id) (J ++ request_piece w id rest)
request_stands w J id rest r h = request_stands_if w J id rest r h (is_heard_state w.link) refl

-- and behind an answer
answer_stands_at : (w : WorldState) (J : List Entry) (id : ℕ) (rest : List ℕ) (f : Forwarded) → IsAnswerFor w id rest → StandsFor w J → slice_get w.forwarded (id - 1) ≡ Some f → (b : Bool) → f.answered ≡ b → StandsFor (after_answer w id) (J ++ answer_piece w id rest)
answer_stands_at w J id rest f a h there true done = let above = given_within w id a.id_given in let is : id ≡ 1 + (id - 1) = omega (arith, above.0) in subst (λ x. StandsFor x (J ++ answer_piece w id rest)) (sym (again_state w id f there done)) (subst (λ K. StandsFor w (J ++ K)) (sym (again_piece w id f rest there done)) (again_stands w J (id - 1) id f rest h there done is))
answer_stands_at w J id rest f a h there false live = let above = given_within w id a.id_given in let is : id ≡ 1 + (id - 1) = omega (arith, above.0) in subst (λ x. StandsFor x (J ++ answer_piece w id rest)) (sym (first_state w id f there live)) (subst (λ K. StandsFor (record w { forwarded = slice_set w.forwarded (id - 1) (answered f) }) (J ++ K)) (sym (first_piece w id f rest there live)) (answered_stands w J (id - 1) id f rest h there live is a.is_deleted))

pub answer_stands : (w : WorldState) (J : List Entry) (id : ℕ) (rest : List ℕ) → IsAnswerFor w id rest → StandsFor w J → StandsFor (after_answer w id) (J ++ answer_piece w id rest)
answer_stands w J id rest a h = let row = row_under w id a.id_given in answer_stands_at w J id rest row.0 a h row.1 (row.0).answered refl

-- the operation that a request makes has the next number
named_next : (w : WorldState) (J : List Entry) → StandsFor w J → record { client = 1; k = w.made + 1 } ≡ next_operation 1 J
named_next w J h = let next : w.made + 1 ≡ suc (length (operations 1 (of_part (Client 1) J))) = omega (arith, h.client.count) in ap (λ k. record { client = 1; k = k }) next

-- a request's round, by the operation's name
forwarding_round : (J : List Entry) (k n id : ℕ) (rest : List ℕ) → record { client = 1; k = k } ≡ next_operation 1 J → IsRequestRound 0 0 J (forwarding k n id rest)
forwarding_round J k n id rest named = record {
  client = 1;
  request = record { id = id; rest = rest };
  want = record { kind = Regular; bound = Free };
  answer = Go 1 1;
  last = record { part = Connection 1; at = 0; what = Sent n (next_operation 1 J) rest };
  entries = ap (λ op. came id rest ∷ record { part = Desk; at = 0; what = Asked op (record { kind = Regular; bound = Free }) } ∷ record { part = Desk; at = 0; what = Chose op (Go 1 1) 0 } ∷ record { part = Client 1; at = 0; what = Chosen op (Go 1 1) } ∷ record { part = Connection 1; at = 0; what = Sent n op rest } ∷ []) named;
  follows = (n, refl);
}

refusing_round : (J : List Entry) (k id : ℕ) (rest : List ℕ) → is_one_element 0x4A rest ≡ true → record { client = 1; k = k } ≡ next_operation 1 J → IsRequestRound 0 0 J (refusing k id rest)
refusing_round J k id rest delete named = record {
  client = 1;
  request = record { id = id; rest = rest };
  want = record { kind = Regular; bound = Free };
  answer = Unavailable;
  last = out id (refusal Delete C3);
  entries = ap (λ op. came id rest ∷ record { part = Desk; at = 0; what = Asked op (record { kind = Regular; bound = Free }) } ∷ record { part = Desk; at = 0; what = Chose op Unavailable 0 } ∷ record { part = Client 1; at = 0; what = Chosen op Unavailable } ∷ out id (refusal Delete C3) ∷ []) named;
  follows = (Delete, delete_kind rest delete, refl);
}

pub request_made : (w : WorldState) (J : List Entry) (id : ℕ) (rest : List ℕ) → IsRequestFor w id rest → StandsFor w J → IsRequestRound 0 0 J (request_piece w id rest)
request_made w J id rest r h = by_link (is_heard_state w.link)
  where
    by_link : (b : Bool) → IsRequestRound 0 0 J (if b then forwarding (w.made + 1) (suc (length w.forwarded)) id rest else refusing (w.made + 1) id rest)
    by_link true = forwarding_round J (w.made + 1) (suc (length w.forwarded)) id rest (named_next w J h)
    by_link false = refusing_round J (w.made + 1) id rest r.is_delete (named_next w J h)

-- what a request's round takes in: that request alone
request_taken_by : (b : Bool) (k n id : ℕ) (rest : List ℕ) → Takes (Client 1) (record { id = id; rest = rest }) (if b then forwarding k n id rest else refusing k id rest)
request_taken_by true k n id rest = record { clients = λ c. of_client (c == 1); connections = λ u. of_connection (u == 1) }
  where
    of_client : (b : Bool) → in_messages (cond b (came id rest ∷ cond b (learned k (Go 1 1) ∷ []) []) (cond b (learned k (Go 1 1) ∷ []) [])) ≡ (if b then record { id = id; rest = rest } ∷ [] else [])
    of_client true = refl
    of_client false = refl

    of_connection : (b : Bool) → got_messages (cond b (sent n k rest ∷ []) []) ≡ []
    of_connection true = refl
    of_connection false = refl
request_taken_by false k n id rest = record { clients = λ c. of_client (c == 1); connections = λ u. refl }
  where
    said : Entry
    said = out id (refusal Delete C3)

    of_client : (b : Bool) → in_messages (cond b (came id rest ∷ cond b (learned k Unavailable ∷ cond b (said ∷ []) []) (cond b (said ∷ []) [])) (cond b (learned k Unavailable ∷ cond b (said ∷ []) []) (cond b (said ∷ []) []))) ≡ (if b then record { id = id; rest = rest } ∷ [] else [])
    of_client true = refl
    of_client false = refl

pub request_taken : (w : WorldState) (id : ℕ) (rest : List ℕ) → Takes (Client 1) (record { id = id; rest = rest }) (request_piece w id rest)
request_taken w id rest = request_taken_by (is_heard_state w.link) (w.made + 1) (suc (length w.forwarded)) id rest

-- a message in range can be written
spelled : (id : ℕ) (rest : List ℕ) → id < 2 ^ 31 → length rest < 2 ^ 30 → can_be_spelled id rest ≡ true
spelled id rest h k = both (nat_lt id (2 ^ 31)) (nat_lt (length rest) (2 ^ 30)) (lt-ltb id (2 ^ 31) h) (lt-ltb (length rest) (2 ^ 30) k)

request_writable_by : (b : Bool) (k n id : ℕ) (rest : List ℕ) → can_be_spelled id rest ≡ true → can_be_spelled n rest ≡ true → can_be_spelled id (refusal Delete C3) ≡ true → each_can_be_written (if b then forwarding k n id rest else refusing k id rest) ≡ true
request_writable_by true k n id rest h j r = both (can_be_spelled id rest) _ h (both (can_be_spelled n rest) true j refl)
request_writable_by false k n id rest h j r = both (can_be_spelled id rest) _ h (both (can_be_spelled id (refusal Delete C3)) true r refl)

pub request_writable : (w : WorldState) (id : ℕ) (rest : List ℕ) → IsRequestFor w id rest → length w.forwarded < 2 ^ 30 → each_can_be_written (request_piece w id rest) ≡ true
request_writable w id rest r few = request_writable_by (is_heard_state w.link) (w.made + 1) (suc (length w.forwarded)) id rest (spelled id rest r.id_in_range r.rest_in_range) (spelled (suc (length w.forwarded)) rest (omega arith) r.rest_in_range) (spelled id (refusal Delete C3) r.id_in_range (lit< tt))

-- what an answer makes, by whether its row is answered
by_row : (P : List Entry → Type 0) (w : WorldState) (id : ℕ) (f : Forwarded) (rest : List ℕ) → slice_get w.forwarded (id - 1) ≡ Some f → P (got id rest ∷ []) → P (answering f.k id f.id rest) → (b : Bool) → f.answered ≡ b → P (answer_piece w id rest)
by_row P w id f rest there again first true h = subst P (sym (again_piece w id f rest there h)) again
by_row P w id f rest there again first false h = subst P (sym (first_piece w id f rest there h)) first

-- an answer takes in that answer alone
again_taken : (id : ℕ) (rest : List ℕ) → Takes (Connection 1) (record { id = id; rest = rest }) (got id rest ∷ [])
again_taken id rest = record { clients = λ c. refl; connections = λ u. of_connection (u == 1) }
  where
    of_connection : (b : Bool) → got_messages (cond b (got id rest ∷ []) []) ≡ (if b then record { id = id; rest = rest } ∷ [] else [])
    of_connection true = refl
    of_connection false = refl

first_taken : (k id to : ℕ) (rest : List ℕ) → Takes (Connection 1) (record { id = id; rest = rest }) (answering k id to rest)
first_taken k id to rest = record { clients = λ c. of_client (c == 1); connections = λ u. of_connection (u == 1) }
  where
    of_client : (b : Bool) → in_messages (cond b (out to rest ∷ []) []) ≡ []
    of_client true = refl
    of_client false = refl

    of_connection : (b : Bool) → got_messages (cond b (got id rest ∷ []) []) ≡ (if b then record { id = id; rest = rest } ∷ [] else [])
    of_connection true = refl
    of_connection false = refl

pub answer_taken : (w : WorldState) (id : ℕ) (rest : List ℕ) → gave w id ≡ true → Takes (Connection 1) (record { id = id; rest = rest }) (answer_piece w id rest)
answer_taken w id rest g = let row = row_under w id g in by_row (λ p. Takes (Connection 1) (record { id = id; rest = rest }) p) w id row.0 rest row.1 (again_taken id rest) (first_taken (row.0).k id (row.0).id rest) (row.0).answered refl

-- an answer can be written, where each row's identifier at its client is in range
pub answer_writable : (w : WorldState) (id : ℕ) (rest : List ℕ) → IsAnswerFor w id rest → are_in_range w.forwarded ≡ true → each_can_be_written (answer_piece w id rest) ≡ true
answer_writable w id rest a ids = let row = row_under w id a.id_given in by_row (λ p. each_can_be_written p ≡ true) w id row.0 rest row.1 (both (can_be_spelled id rest) true (spelled id rest a.id_in_range a.rest_in_range) refl) (both (can_be_spelled id rest) _ (spelled id rest a.id_in_range a.rest_in_range) (both (can_be_spelled (row.0).id rest) true (both (nat_lt (row.0).id (2 ^ 31)) (nat_lt (length rest) (2 ^ 30)) (all_at (λ f. nat_lt f.id (2 ^ 31)) w.forwarded (id - 1) row.0 row.1 ids) (lt-ltb (length rest) (2 ^ 30) a.rest_in_range)) refl)) (row.0).answered refl

-- a row's operation was sent under its identifier
numbered_has : (start : ℕ) (rows : List Forwarded) (i : ℕ) (f : Forwarded) → slice_get rows i ≡ Some f → list_any (λ n. same_op (record { client = 1; k = f.k }) n.op && n.value == start + i) (numbered start rows) ≡ true
numbered_has start [] i f h = absurd (let bad : None ≡ Some f = h in cc)
numbered_has start (g ∷ rows) zero f h = let same : g ≡ f = cc in ap (λ b. b || list_any (λ n. same_op (record { client = 1; k = f.k }) n.op && n.value == start + 0) (numbered (suc start) rows)) (both (same_op (record { client = 1; k = f.k }) (record { client = 1; k = g.k })) (start == start + 0) (eq-eqb f.k g.k (sym (ap (λ x. x.k) same))) (eq-eqb start (start + 0) (omega arith)))
numbered_has start (g ∷ rows) (suc i) f h = let next : suc start + i ≡ start + suc i = omega arith in or_right (same_op (record { client = 1; k = f.k }) (record { client = 1; k = g.k }) && start == start + suc i) (list_any (λ n. same_op (record { client = 1; k = f.k }) n.op && n.value == start + suc i) (numbered (suc start) rows)) (ap (λ v. list_any (λ n. same_op (record { client = 1; k = f.k }) n.op && n.value == v) (numbered (suc start) rows)) (sym next) ∙ numbered_has (suc start) rows i f h)

pub sent_as_row : (w : WorldState) (J : List Entry) (i id : ℕ) (f : Forwarded) → StandsFor w J → slice_get w.forwarded i ≡ Some f → id ≡ 1 + i → is_sent_as 1 id (record { client = 1; k = f.k }) J ≡ true
sent_as_row w J i id f h there is = sent_any (λ op n. same_op (record { client = 1; k = f.k }) op && n == id) 1 (of_part (Connection 1) J) ∙ sym (any-map (λ n. same_op (record { client = 1; k = f.k }) n.op && n.value == id) sent_name (sendings 1 (of_part (Connection 1) J))) ∙ ap (list_any (λ n. same_op (record { client = 1; k = f.k }) n.op && n.value == id)) h.connection.names ∙ ap (λ v. list_any (λ n. same_op (record { client = 1; k = f.k }) n.op && n.value == v) (numbered 1 w.forwarded)) is ∙ numbered_has 1 w.forwarded i f there

pub answer_made : (w : WorldState) (J : List Entry) (id : ℕ) (rest : List ℕ) → gave w id ≡ true → StandsFor w J → IsAnswerRound 0 J (answer_piece w id rest)
answer_made w J id rest g h = let row = row_under w id g in let above = given_within w id g in let is : id ≡ 1 + (id - 1) = omega (arith, above.0) in by_row (λ p. IsAnswerRound 0 J p) w id row.0 rest row.1 (record { connection = 1; answer = record { id = id; rest = rest }; behind = []; entries = refl; follows = tt }) (record { connection = 1; answer = record { id = id; rest = rest }; behind = told_ended (row.0).k ∷ out (row.0).id rest ∷ []; entries = refl; follows = (record { client = 1; k = (row.0).k }, Some 0, (row.0).id, sent_as_row w J (id - 1) id row.0 h row.1 is, refl, refl) }) (row.0).answered refl

-- the identifiers stay in range behind a request and behind an answer
pub more_in_range : (rows : List Forwarded) (f : Forwarded) → are_in_range rows ≡ true → f.id < 2 ^ 31 → are_in_range (rows ++ f ∷ []) ≡ true
more_in_range rows f h k = list_all-append (λ g. nat_lt g.id (2 ^ 31)) rows (f ∷ []) ∙ both (are_in_range rows) (nat_lt f.id (2 ^ 31) && true) h (both (nat_lt f.id (2 ^ 31)) true (lt-ltb f.id (2 ^ 31) k) refl)

pub answered_in_range : (rows : List Forwarded) (i : ℕ) (f g : Forwarded) → slice_get rows i ≡ Some f → g.id ≡ f.id → are_in_range rows ≡ true → are_in_range (slice_set rows i g) ≡ true
answered_in_range rows i f g there same h = all_set (λ x. nat_lt x.id (2 ^ 31)) rows i g (ap (λ n. nat_lt n (2 ^ 31)) same ∙ all_at (λ x. nat_lt x.id (2 ^ 31)) rows i f there h) h

-- what follows for a value that a call answered, from what the call ensures of it
pub if_ok : {A E : Type 0} (r : Result A E) (P Q : A → Type 0) → ((x : A) → P x → Q x) → IfOk r P → IfOk r Q
if_ok (Ok x) P Q f h = f x h
if_ok (Err e) P Q f h = tt

pub if_ok_on : {A E : Type 0} (r : Result A E) (P Q : A → Type 0) (S : Type 0) → ((x : A) → P x → S → Q x) → IfOk r P → OnOk r S → IfOk r Q
if_ok_on (Ok x) P Q S f h s = f x h s
if_ok_on (Err e) P Q S f h s = tt

-- the world stands behind the beginning of a part
begun_client : (w : WorldState) (n : ℕ) (J : List Entry) → may_begin w (Client n) ≡ true → StandsFor w J → StandsFor (begun w (Client n)) (J ++ beginning (Client n))
begun_client w n J m h = subst (λ c. StandsFor (record w { arrived = true }) (J ++ record { part = Client c; at = 0; what = Arrived } ∷ [])) (sym (eqb-true n 1 (left (n == 1) _ m))) (arrived_stands w J h (not-true w.arrived (right (n == 1) _ m)))

begun_connection : (w : WorldState) (n : ℕ) (J : List Entry) → may_begin w (Connection n) ≡ true → StandsFor w J → StandsFor (begun w (Connection n)) (J ++ beginning (Connection n))
begun_connection w n J m h = subst (λ u. StandsFor (record w { link = Unheard }) (J ++ record { part = Connection u; at = 0; what = Linked } ∷ record { part = Connection u; at = 0; what = Up } ∷ [])) (sym (eqb-true n 1 (left (n == 1) _ m))) (linked_stands w J h (not-true (is_linked_state w.link) (right (n == 1) _ m)))

pub begun_stands : (w : WorldState) (part : PartName) (J : List Entry) → may_begin w part ≡ true → StandsFor w J → StandsFor (begun w part) (J ++ beginning part)
begun_stands w Desk J m h = absurd (let bad : false ≡ true = m in cc)
begun_stands w (Client n) J m h = begun_client w n J m h
begun_stands w (Connection n) J m h = begun_connection w n J m h

-- what the piece of a call and the state behind it give, where the piece and the state are known
pub stands_by : {E : Type 0} (r : Result (List Entry) E) (old new after : WorldState) (piece : List Entry) → ((J : List Entry) → StandsFor old J → StandsFor after (J ++ piece)) → IfOk r (λ p. p ≡ piece) → OnOk r (new ≡ after) → IfOk r (λ p. (J : List Entry) → StandsFor old J → StandsFor new (J ++ p))
stands_by r old new after piece f made state = if_ok_on r (λ p. p ≡ piece) (λ p. (J : List Entry) → StandsFor old J → StandsFor new (J ++ p)) (new ≡ after) (λ p is same J h. subst (λ w. StandsFor w (J ++ p)) (sym same) (subst (λ q. StandsFor after (J ++ q)) (sym is) (f J h))) made state

-- a message of a part of number 1
pub request_takes : (w : WorldState) (n id : ℕ) (rest : List ℕ) → n ≡ 1 → Takes (Client n) (record { id = id; rest = rest }) (request_piece w id rest)
request_takes w n id rest one = subst (λ c. Takes (Client c) (record { id = id; rest = rest }) (request_piece w id rest)) (sym one) (request_taken w id rest)

pub answer_takes : (w : WorldState) (n id : ℕ) (rest : List ℕ) → n ≡ 1 → gave w id ≡ true → Takes (Connection n) (record { id = id; rest = rest }) (answer_piece w id rest)
answer_takes w n id rest one g = subst (λ u. Takes (Connection u) (record { id = id; rest = rest }) (answer_piece w id rest)) (sym one) (answer_taken w id rest g)
