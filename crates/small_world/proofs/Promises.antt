-- What the journal of a world keeps.
use Rattle.std.proofs.Common.{◌≡◌, ℕ, suc, Bool, true, false, ◌==◌, ◌&&◌, ◌||◌, not, List, [], ◌∷◌, ◌++◌, refl, ap, ◌∙◌, sym, length, arith}
use Rattle.std.specs.Prelude.{Option, Some, None, filter, nat_le, nat_lt, if◌then◌else◌}
use Rattle.std.specs.List.{list_all, list_any}
use Rattle.std.proofs.lemmas.List.{append-nil}
use Rattle.std.proofs.Math.Bool.{or-false}
use Rattle.std.proofs.lemmas.Bool.{eq-eqb, eqb-true, not-true, or_left, both_ways}
use Rattle.lload_names.specs.declared.names.Entry.{Entry}
use Rattle.lload_names.specs.declared.names.OpName.{OpName}
use Rattle.lload_names.specs.declared.names.OpKind.TheVariants.{Delete}
use Rattle.lload_names.specs.declared.names.PartName.TheVariants.{Client, Up as Connection}
use Rattle.ldap_spec.specs.Kinds.{kind_of}
use Rattle.small_spec.specs.Lists.{passes, implies, agrees, each_split_from, some_entry, first_passes}
use Rattle.small_spec.specs.Journal.{Family, family, of_part, same_op}
use Rattle.small_spec.specs.Entries.{is_choice_of, is_gone, is_notice}
use Rattle.small_spec.specs.Operations.{Operation, operations, operations_of, operation_in, operation, all_operations, outs, is_of, is_live, is_live_at}
use Rattle.small_spec.specs.Answers.{Sending, sendings, sendings_at, all_sendings, sendings_of, answers}
use Rattle.small_spec.specs.Fifo.{allowed, is_sent_once, is_answered_by, is_unanswered, is_ended_once, is_out_of_some, has_own_outs, is_chosen_for, is_pinned_to, has_choice, is_out_entry, is_sent_entry, has_outs_and_sents_in_place, each_sent_once, each_answered, each_unanswered, each_ended_once, each_out_owned, each_sent_chosen}
use Rattle.small_spec.specs.Identifiers.{has_ids_in_order}
use Rattle.small_spec.proofs.Growth.{left, right, both}
use Rattle.small_laws.specs.ClientGrowth.{is_named_within}
use Rattle.small_laws.proofs.ClientGrowth.{own_names}
use Rattle.small_laws.proofs.ListLaws.{implies_by, all_imply, all_both, all_always, any-filter, found, found_passes, passes_imply}
use Rattle.small_world.specs.declared.world.Link.{Link}
use Rattle.small_world.specs.declared.world.Link.TheVariants.{NotLinked, Unheard, Heard}
use Rattle.small_world.specs.declared.world.Forwarded.{Forwarded}
use Rattle.small_world.specs.States.{WorldState, is_linked_state, is_heard_state, is_unheard, is_live_with, uses}
use Rattle.small_world.specs.Stands.{StandsFor, row_of, is_refused, is_forwarded_as, is_told, is_owned, is_chosen, is_answered_as, is_sent_rightly, one_if}
use Rattle.small_world.specs.Laws.{StandingIsFifo, StandingIdsRise, KnowsArrival, KnowsFirstArrival, KnowsLinking, KnowsNews, KnowsUse, KnowsGiven}
use Rattle.small_world.proofs.RowNames.{sent_at_most_once, unsent_has_no_row, sent_of_one, none_sent_without, PassingRow, passing_row, given_by_rows}
use Rattle.small_world.proofs.Numbers.{any_found, Passing, passing, Found, named_is_there, of_connection, sent_any}

-- the operations of client 1, and the Sent entries of connection 1
abbrev made_in : List Entry → List Operation
made_in J = operations 1 (of_part (Client 1) J)

abbrev sent_in : List Entry → List Sending
sent_in J = sendings 1 (of_part (Connection 1) J)

-- client 1 and connection 1
pub knows_arrival : KnowsArrival
knows_arrival w J h = h.arrived

first_if : (b : Bool) (n : ℕ) → n ≡ (if b then 1 else 0) → (1 == suc n) ≡ not b
first_if true n e = ap (λ m. 1 == suc m) e
first_if false n e = ap (λ m. 1 == suc m) e

pub knows_first_arrival : KnowsFirstArrival
knows_first_arrival w J h = first_if w.arrived _ h.arrivals

pub knows_linking : KnowsLinking
knows_linking w J h = h.linked

news_of : (link : Link) → (is_linked_state link && not (is_heard_state link)) ≡ is_unheard link
news_of NotLinked = refl
news_of Unheard = refl
news_of Heard = refl

news_by : (link : Link) (up told : Bool) → up ≡ is_linked_state link → told ≡ is_heard_state link → (up && not told) ≡ is_unheard link
news_by link up told e f = ap (λ b. b && not told) e ∙ ap (λ b. is_linked_state link && not b) f ∙ news_of link

pub knows_news : KnowsNews
knows_news w J h = news_by w.link _ _ h.up h.heard

-- an identifier was given where it is among the numbers of the rows
pub knows_given : KnowsGiven
knows_given w J id h = sent_any (λ op n. n == id) 1 (of_part (Connection 1) J) ∙ given_by_rows id w.forwarded (sent_in J) h.connection.names

-- two tests that imply one another
same_tests : (a b : Bool) → (a ≡ true → b ≡ true) → (b ≡ true → a ≡ true) → a ≡ b
same_tests true b f g = sym (f refl)
same_tests false true f g = g refl
same_tests false false f g = refl

-- what a live operation, or one with a row, has been told
agreed : (a b : Bool) → agrees a b ≡ true → a ≡ b
agreed true b h = sym h
agreed false true h = h
agreed false false h = refl

same_id : (f : Forwarded) (o : Operation) → is_forwarded_as f o ≡ true → f.id ≡ o.request.id
same_id f o h = eqb-true f.id o.request.id (left (f.id == o.request.id) _ (left (f.id == o.request.id && agrees (is_live o) (not f.answered)) _ h))

lives_as : (f : Forwarded) (o : Operation) → is_forwarded_as f o ≡ true → is_live o ≡ not f.answered
lives_as f o h = agreed (is_live o) (not f.answered) (right (f.id == o.request.id) _ (left (f.id == o.request.id && agrees (is_live o) (not f.answered)) _ h))

-- what an operation has been told, where its row is known
abbrev told_as : Operation → Option Forwarded → Bool
told_as o row = elim row [ None ↦ is_refused o | Some f ↦ is_forwarded_as f o ]

told_by_row : (rows : List Forwarded) (o : Operation) (row : Option Forwarded) → row_of o.name.k rows ≡ row → is_told rows o ≡ true → told_as o row ≡ true
told_by_row rows o row e h = ap (told_as o) (sym e) ∙ right (is_of Delete o && is_ended_once o) _ h

-- whether an operation is live and has this identifier
abbrev is_using : ℕ → Operation → Bool
is_using id o = is_live o && o.request.id == id

live_has_row : (id : ℕ) (rows : List Forwarded) (o : Operation) (row : Option Forwarded) → row_of o.name.k rows ≡ row → told_as o row ≡ true → is_using id o ≡ true → list_any (is_live_with id) rows ≡ true
live_has_row id rows o None e told using = absurd (both_ways (is_live o) (not-true (is_live o) (left (not (is_live o)) _ told)) (left (is_live o) _ using))
live_has_row id rows o (Some f) e told using = any_found (λ g. g.k == o.name.k) (is_live_with id) rows f e (both (not f.answered) (f.id == id) (sym (lives_as f o told) ∙ left (is_live o) _ using) (eq-eqb f.id id (same_id f o told ∙ eqb-true o.request.id id (right (is_live o) _ using))))

row_is_live : (id : ℕ) (f : Forwarded) (o : Operation) → is_forwarded_as f o ≡ true → is_live_with id f ≡ true → is_using id o ≡ true
row_is_live id f o told live = both (is_live o) (o.request.id == id) (lives_as f o told ∙ left (not f.answered) _ live) (eq-eqb o.request.id id (sym (same_id f o told) ∙ eqb-true f.id id (right (not f.answered) _ live)))

-- a live operation has a row
use_has_row : (w : WorldState) (J : List Entry) (id : ℕ) → StandsFor w J → list_any (is_using id) (made_in J) ≡ true → uses w id ≡ true
use_has_row w J id h g = by (passing (is_using id) (is_told w.forwarded) (made_in J) g h.client.each_told)
  where
    by : Passing Operation (is_using id) (is_told w.forwarded) → uses w id ≡ true
    by p = live_has_row id w.forwarded p.element (row_of p.element.name.k w.forwarded) refl (told_by_row w.forwarded p.element (row_of p.element.name.k w.forwarded) refl p.holds) p.passes

-- a row that isn't answered is of a live operation
row_has_use : (w : WorldState) (J : List Entry) (id : ℕ) → StandsFor w J → uses w id ≡ true → list_any (is_using id) (made_in J) ≡ true
row_has_use w J id h g = by (passing_row (is_live_with id) 0 w.made w.forwarded h.rising g)
  where
    named : (p : PassingRow (is_live_with id) 0 w.made w.forwarded) → Found 1 p.row.k (made_in J) → list_any (is_using id) (made_in J) ≡ true
    named p n = any_found (λ o. same_op (record { client = 1; k = p.row.k }) o.name) (is_using id) (made_in J) n.operation n.is_found (row_is_live id p.row n.operation (told_by_row w.forwarded n.operation (Some p.row) (ap (λ k. row_of k w.forwarded) (sym number) ∙ p.is_row) (found (is_told w.forwarded) (λ o. same_op (record { client = 1; k = p.row.k }) o.name) (made_in J) n.operation n.is_found h.client.each_told)) p.passes)
      where
        number : p.row.k ≡ n.operation.name.k
        number = eqb-true p.row.k n.operation.name.k (right (1 == n.operation.name.client) _ (found_passes (λ o. same_op (record { client = 1; k = p.row.k }) o.name) (made_in J) n.operation n.is_found))

    by : PassingRow (is_live_with id) 0 w.made w.forwarded → list_any (is_using id) (made_in J) ≡ true
    by p = named p (named_is_there 1 p.row.k (of_part (Client 1) J) p.above (omega (arith, p.within, h.client.count)))

pub knows_use : KnowsUse
knows_use w J id h = any-filter (λ o. o.request.id == id) is_live (made_in J) ∙ same_tests _ _ (use_has_row w J id h) (row_has_use w J id h)

-- the operations and the Sent entries of a family of client 1 and connection 1
all_of_client : (test : Operation → Bool) (F : Family) (b : Bool) → F.clients ≡ one_if b → list_all test (operations 1 (F.client 1)) ≡ true → list_all test (all_operations F) ≡ true
all_of_client test F b e h = ap (λ cs. list_all test (operations_of F cs)) e ∙ one b
  where
    one : (b : Bool) → list_all test (operations_of F (one_if b)) ≡ true
    one true = ap (list_all test) (append-nil (operations 1 (F.client 1))) ∙ h
    one false = refl

sent_at_one : (F : Family) (b : Bool) → F.connections ≡ one_if b → (b ≡ false → sendings 1 (F.connection 1) ≡ []) → all_sendings F ≡ sendings 1 (F.connection 1)
sent_at_one F b e h = ap (λ us. sendings_at F us) e ∙ one b h
  where
    one : (b : Bool) → (b ≡ false → sendings 1 (F.connection 1) ≡ []) → sendings_at F (one_if b) ≡ sendings 1 (F.connection 1)
    one true g = append-nil (sendings 1 (F.connection 1))
    one false g = sym (g refl)

sent_there : (w : WorldState) (J : List Entry) → StandsFor w J → all_sendings (family J) ≡ sent_in J
sent_there w J h = sent_at_one (family J) (is_linked_state w.link) h.connections (none_sent_without (is_linked_state w.link) w.forwarded (sent_in J) h.connection.names h.behind_link)

-- at most one Sent of each operation
keeps_sent_once : (w : WorldState) (J : List Entry) → StandsFor w J → each_sent_once (family J) ≡ true
keeps_sent_once w J h = all_of_client (is_sent_once (family J)) (family J) w.arrived h.clients (all_always (is_sent_once (family J)) (made_in J) (λ o. ap (λ S. nat_le (length (filter (λ s. same_op o.name s.op) S)) 1) (sent_there w J h) ∙ sent_at_most_once o.name w.made w.forwarded (sent_in J) h.connection.names h.rising))

-- the operation of a Sent of client 1, in the family and in the client's list
its_operation : (J : List Entry) (op : OpName) → op.client ≡ 1 → operation (family J) op ≡ operation_in (of_part (Client 1) J) op
its_operation J op e = ap (λ c. operation_in (of_part (Client c) J) op) e

-- a Sent of client 1 on connection 1
abbrev is_own : Sending → Bool
is_own s = s.op.client == 1 && s.connection == 1

all_own : (w : WorldState) (J : List Entry) → StandsFor w J → list_all (λ s. is_sent_rightly w.forwarded (of_part (Client 1) J) s && is_own s) (sent_in J) ≡ true
all_own w J h = all_both (is_sent_rightly w.forwarded (of_part (Client 1) J)) is_own (sent_in J) h.each_sent (all_both (λ s. s.op.client == 1) (λ s. s.connection == 1) (sent_in J) (sent_of_one w.forwarded (sent_in J) h.connection.names) (of_connection 1 (of_part (Connection 1) J)))

all_sent : (test : Sending → Bool) (w : WorldState) (J : List Entry) → StandsFor w J → ((s : Sending) → is_sent_rightly w.forwarded (of_part (Client 1) J) s ≡ true → s.op.client ≡ 1 → s.connection ≡ 1 → test s ≡ true) → list_all test (all_sendings (family J)) ≡ true
all_sent test w J h f = ap (list_all test) (sent_there w J h) ∙ all_imply (λ s. is_sent_rightly w.forwarded (of_part (Client 1) J) s && is_own s) test (sent_in J) (λ s g. f s (left (is_sent_rightly w.forwarded (of_part (Client 1) J) s) _ g) (eqb-true s.op.client 1 (left (s.op.client == 1) _ (right (is_sent_rightly w.forwarded (of_part (Client 1) J) s) _ g))) (eqb-true s.connection 1 (right (s.op.client == 1) _ (right (is_sent_rightly w.forwarded (of_part (Client 1) J) s) _ g)))) (all_own w J h)

-- what the client got is allowed by the answers
answered_at : (rows : List Forwarded) (J : List Entry) (s : Sending) → is_sent_rightly rows (of_part (Client 1) J) s ≡ true → s.op.client ≡ 1 → is_answered_by (family J) s ≡ true
answered_at rows J s h e = ap (passes (λ o. allowed (kind_of o.request.rest) (answers o s) (outs o))) (its_operation J s.op e) ∙ passes_imply (is_answered_as rows s) (λ o. allowed (kind_of o.request.rest) (answers o s) (outs o)) (operation_in (of_part (Client 1) J) s.op) (λ o g. left (allowed (kind_of o.request.rest) (answers o s) (outs o)) _ g) (right (is_chosen (of_part (Client 1) J) s.op) _ h)

keeps_answered : (w : WorldState) (J : List Entry) → StandsFor w J → each_answered (family J) ≡ true
keeps_answered w J h = all_sent (is_answered_by (family J)) w J h (λ s g own at. answered_at w.forwarded J s g own)

-- what wasn't sent got nothing or one refusal
unanswered_at : (w : WorldState) (J : List Entry) → StandsFor w J → (o : Operation) → is_told w.forwarded o ≡ true → o.name.client ≡ 1 → is_unanswered (family J) o ≡ true
unanswered_at w J h o told own = implies_by (length (sendings_of (family J) o.name) == 0) (allowed (kind_of o.request.rest) [] (outs o)) (λ none. right (not (is_live o)) _ (told_by_row w.forwarded o None (unsent_has_no_row o.name w.forwarded (sent_in J) h.connection.names own (ap (λ S. length (filter (λ s. same_op o.name s.op) S) == 0) (sym (sent_there w J h)) ∙ none)) told))

all_named : (w : WorldState) (J : List Entry) → StandsFor w J → list_all (λ o. is_told w.forwarded o && is_named_within 1 (length (made_in J)) o) (made_in J) ≡ true
all_named w J h = all_both (is_told w.forwarded) (is_named_within 1 (length (made_in J))) (made_in J) h.client.each_told (own_names 1 (of_part (Client 1) J))

keeps_unanswered : (w : WorldState) (J : List Entry) → StandsFor w J → each_unanswered (family J) ≡ true
keeps_unanswered w J h = all_of_client (is_unanswered (family J)) (family J) w.arrived h.clients (all_imply (λ o. is_told w.forwarded o && is_named_within 1 (length (made_in J)) o) (is_unanswered (family J)) (made_in J) (λ o g. unanswered_at w J h o (left (is_told w.forwarded o) _ g) (eqb-true o.name.client 1 (left (o.name.client == 1) _ (left (o.name.client == 1 && nat_lt 0 o.name.k) _ (right (is_told w.forwarded o) _ g))))) (all_named w J h))

-- nothing behind an end
keeps_ended_once : (w : WorldState) (J : List Entry) → StandsFor w J → each_ended_once (family J) ≡ true
keeps_ended_once w J h = all_of_client is_ended_once (family J) w.arrived h.clients (all_imply (is_told w.forwarded) is_ended_once (made_in J) (λ o g. right (is_of Delete o) _ (left (is_of Delete o && is_ended_once o) _ g)) h.client.each_told)

-- a test of each client, or of each connection, is one of client 1 or of connection 1
all_one : (test : ℕ → Bool) (ns : List ℕ) (b : Bool) → ns ≡ one_if b → test 1 ≡ true → list_all test ns ≡ true
all_one test ns b e h = ap (list_all test) e ∙ one b
  where
    one : (b : Bool) → list_all test (one_if b) ≡ true
    one true = both (test 1) true h refl
    one false = refl

none_of_one : (test : ℕ → Bool) (ns : List ℕ) (b : Bool) → ns ≡ one_if b → test 1 ≡ false → list_any test ns ≡ false
none_of_one test ns b e h = ap (list_any test) e ∙ one b
  where
    one : (b : Bool) → list_any test (one_if b) ≡ false
    one true = or-false (test 1) ∙ h
    one false = refl

-- each Out is of an operation
each_split_imply : (t t' : List Entry → Entry → List Entry → Bool) (P L : List Entry) → ((place : List Entry) (e : Entry) (behind : List Entry) → t place e behind ≡ true → t' place e behind ≡ true) → each_split_from t P L ≡ true → each_split_from t' P L ≡ true
each_split_imply t t' P [] f h = refl
each_split_imply t t' P (e ∷ L) f h = both (t' P e L) _ (f P e L (left (t P e L) _ h)) (each_split_imply t t' (P ++ e ∷ []) L f (right (t P e L) _ h))

owned : (out some notice gone : Bool) → implies out (some && not gone) ≡ true → implies out ((some || notice) && not gone) ≡ true
owned true true notice gone h = h
owned true false notice gone h = absurd (let bad : false ≡ true = h in cc)
owned false some notice gone h = refl

keeps_outs_owned : (w : WorldState) (J : List Entry) → StandsFor w J → each_out_owned (family J) ≡ true
keeps_outs_owned w J h = all_one (has_own_outs (family J)) (family J).clients w.arrived h.clients (each_split_imply (λ place e behind. is_owned place e) (λ place e behind. implies (is_out_entry e) ((is_out_of_some 1 place e || is_notice e && first_passes is_gone behind) && not (list_any is_gone place))) [] (of_part (Client 1) J) (λ place e behind g. owned (is_out_entry e) (is_out_of_some 1 place e) (is_notice e && first_passes is_gone behind) (list_any is_gone place) g) h.client.each_owned)

-- each Sent has its choice
same_name : (a b : OpName) → same_op a b ≡ true → a ≡ b
same_name a b h = ap (λ c. named c a.k) (eqb-true a.client b.client (left (a.client == b.client) _ h)) ∙ ap (λ k. named b.client k) (eqb-true a.k b.k (right (a.client == b.client) _ h))
  where
    named : ℕ → ℕ → OpName
    named c k = record { client = c; k = k }

chosen_for : (J : List Entry) (o : Operation) (s : Sending) → s.op ≡ o.name → s.op.client ≡ 1 → s.connection ≡ 1 → is_chosen (of_part (Client 1) J) s.op ≡ true → is_chosen_for (family J) o s.connection ≡ true
chosen_for J o s e own at h = ap (λ op. some_entry (λ place x. is_choice_of op s.connection x && is_live_at place op) (of_part (Client op.client) J)) (sym e) ∙ ap (λ u. some_entry (λ place x. is_choice_of s.op u x && is_live_at place s.op) (of_part (Client s.op.client) J)) at ∙ ap (λ c. some_entry (λ place x. is_choice_of s.op 1 x && is_live_at place s.op) (of_part (Client c) J)) own ∙ h

choice_of : (J : List Entry) (rows : List Forwarded) (s : Sending) (o : Option Operation) → operation_in (of_part (Client 1) J) s.op ≡ o → s.op.client ≡ 1 → s.connection ≡ 1 → is_chosen (of_part (Client 1) J) s.op ≡ true → passes (is_answered_as rows s) o ≡ true → passes (λ p. is_chosen_for (family J) p s.connection || is_pinned_to (family J) p s.connection) o ≡ true
choice_of J rows s None e own at h g = g
choice_of J rows s (Some o) e own at h g = or_left (is_chosen_for (family J) o s.connection) _ (chosen_for J o s (same_name s.op o.name (found_passes (λ p. same_op s.op p.name) (operations s.op.client (of_part (Client 1) J)) o e)) own at h)

chosen_at : (rows : List Forwarded) (J : List Entry) (s : Sending) → is_sent_rightly rows (of_part (Client 1) J) s ≡ true → s.op.client ≡ 1 → s.connection ≡ 1 → has_choice (family J) s ≡ true
chosen_at rows J s h own at = ap (passes (λ p. is_chosen_for (family J) p s.connection || is_pinned_to (family J) p s.connection)) (its_operation J s.op own) ∙ choice_of J rows s (operation_in (of_part (Client 1) J) s.op) refl own at (left (is_chosen (of_part (Client 1) J) s.op) _ h) (right (is_chosen (of_part (Client 1) J) s.op) _ h)

keeps_sent_chosen : (w : WorldState) (J : List Entry) → StandsFor w J → each_sent_chosen (family J) ≡ true
keeps_sent_chosen w J h = all_sent (has_choice (family J)) w J h (λ s g own at. chosen_at w.forwarded J s g own at)

-- Outs and Sent entries stand in their places
three_not : (a b c : Bool) → a ≡ false → b ≡ false → c ≡ false → (not a && not b && not c) ≡ true
three_not true b c e f g = absurd (let bad : true ≡ false = e in cc)
three_not false true c e f g = absurd (let bad : true ≡ false = f in cc)
three_not false false true e f g = absurd (let bad : true ≡ false = g in cc)
three_not false false false e f g = refl

keeps_in_place : (w : WorldState) (J : List Entry) → StandsFor w J → has_outs_and_sents_in_place (family J) ≡ true
keeps_in_place w J h = three_not _ _ _ h.desk (none_of_one (λ c. list_any is_sent_entry (of_part (Client c) J)) (family J).clients w.arrived h.clients h.client.none_sent) (none_of_one (λ u. list_any is_out_entry (of_part (Connection u) J)) (family J).connections (is_linked_state w.link) h.connections h.connection.none_out)

-- the first promise
pub standing_is_fifo : StandingIsFifo
standing_is_fifo w J h = record { sent_once = keeps_sent_once w J h; answered = keeps_answered w J h; unanswered = keeps_unanswered w J h; ended_once = keeps_ended_once w J h; outs_owned = keeps_outs_owned w J h; sent_chosen = keeps_sent_chosen w J h; in_place = keeps_in_place w J h }

-- the identifiers rise
pub standing_ids_rise : StandingIdsRise
standing_ids_rise w J h = all_one (has_ids_in_order (family J)) (family J).connections (is_linked_state w.link) h.connections h.connection.ids_rise
