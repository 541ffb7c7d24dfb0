-- A client's state has a row exactly for each live operation, behind each of its turns.
use Rattle.std.proofs.Common.{◌≡◌, ℕ, suc, Bool, true, false, ◌==◌, ◌&&◌, not, List, [], ◌∷◌, ◌++◌, length, refl, ap, ◌∙◌, sym, subst, append_assoc}
use Rattle.std.specs.Prelude.{Option, Some, None, map, filter, cond, max, nat_le, if◌then◌else◌}
use Rattle.std.specs.List.{list_any, list_all}
use Rattle.std.proofs.lemmas.List.{append-nil, map-append}
use Rattle.ldap_spec.specs.Messages.{Message}
use Rattle.ldap_spec.specs.Bodies.{refusal, cancel_answer, protocol_error_notice}
use Rattle.ldap_spec.specs.Kinds.{kind_of}
use Rattle.ldap_spec.specs.Requests.{request}
use Rattle.lload_names.specs.declared.names.Entry.{Entry}
use Rattle.lload_names.specs.declared.names.OpName.{OpName}
use Rattle.lload_names.specs.declared.names.OpKind.{OpKind}
use Rattle.lload_names.specs.declared.names.Answer.{Answer}
use Rattle.lload_names.specs.declared.names.Answer.TheVariants.{Go, Busy, Unavailable}
use Rattle.lload_names.specs.declared.names.EndWhy.{EndWhy}
use Rattle.lload_names.specs.declared.names.EndWhy.TheVariants.{Left, Bad, TooBig, ZeroId, IdInUse}
use Rattle.lload_names.specs.declared.names.Refusal.{Refusal}
use Rattle.lload_names.specs.declared.names.Refusal.TheVariants.{C1, C3}
use Rattle.lload_names.specs.declared.names.PartName.TheVariants.{Client}
use Rattle.lload_names.specs.declared.names.Letter.{Letter}
use Rattle.lload_names.specs.declared.names.Letter.TheVariants.{Choice, Reply, Failed}
use Rattle.lload_names.specs.declared.names.What.{What}
use Rattle.lload_names.specs.declared.names.What.TheVariants as what
use Rattle.lload_spec.specs.Settings.{Settings}
use Rattle.lload_spec.specs.Entries.{operation_message, makes_operation, is_link_reason}
use Rattle.lload_spec.specs.Operations.{Operation, operations, operation_made, live_operations, is_request_of}
use Rattle.lload_spec.specs.FirstCheck.{Check, Ends, Unbinds, Abandons, Refuses, Answers, Cancels, GoesOn, live_request, check_request}
use Rattle.lload_names.specs.declared.names.CancelAnswer.{CancelAnswer}
use Rattle.lload_names.specs.declared.names.CancelAnswer.TheVariants.{C13, S1}
use Rattle.lload_laws.proofs.ListLaws.{any-map}
use Rattle.part_spec.specs.Marked.{Marked, Taken}
use Rattle.lload_names.specs.declared.inputs.Input.{Input}
use Rattle.lload_names.specs.declared.inputs.Input.TheVariants.{Arrive, LinkUp, Message as MessageIn, LetterFrom, Tick, LinkGone, Stall, Flow, Reload}
use Rattle.lload_names.specs.declared.inputs.Effects.{Effects}
use Rattle.part_spec.specs.Inputs.{moment_for, letter_of, nothing, Act, act, entries_of, marked_by}
use Rattle.part_spec.specs.ClientState.{ClientState, ClientRow, AskedFor, asked_behind, step_client, step_clients, client_behind, empty_client, facts_of, check_at, is_holding, is_present, row_named, row_under, without, abandons, with_bind, with_request, with_choice, with_connection}
use Rattle.part_spec.specs.ClientTurn.{closing, whats_for, client_sever, refused, canceled, stalls, flows, by_check, message, choice, answer, failure, letter, link_gone, where_so, client_act}
use Rattle.part_spec.specs.Marked.{entries}
use Rattle.part_laws.specs.Turns.{Event, Comes, Severed, made, list_from}
use Rattle.part_spec.specs.Fit.{ledger_behind as behind}
use Rattle.client_laws.specs.Turns.{client_event, client_list, ClientRows, ClientLiveFacts}
use Rattle.client_laws.proofs.ClientLives.{out_count, is_free_id, lives_more}
use Rattle.client_laws.proofs.Matches.{ClientLives, Matches, is_untaken, are_apart, ends_not, live_grow}
use Rattle.lload_laws.specs.ClientGrowth.{later_operation}
use Rattle.lload_laws.proofs.ClientGrowth.{count_stays, count_rises}
use Rattle.lload_names.specs.declared.names.OpKind.TheVariants.{Bind}

-- what is made of each entry in turn, where each request is under a free identifier
abbrev pub Frees : Settings → ℕ → ℕ → ClientState → Option Taken → List What → Type 0
Frees s u at p mark [] = Unit {0}
Frees s u at p mark (w ∷ ws) = (is_free_id p w ≡ true) × Frees s u at (step_client s p (record { entry = record { part = Client u; at = at; what = w }; mark = mark })) None ws

with_moment : (c at : ℕ) (asked : List AskedFor) (place : List Entry) (p : ClientState) → ClientLives c place p → ClientLives c place (record p { moment = at; asked = asked })
with_moment c at asked place p h = record { count = h.count; rows = h.rows; untaken = h.untaken; apart = h.apart; within = h.within }

-- the entries of a turn
abbrev pub client_turn_of : ℕ → ℕ → Option Taken → List What → List Marked
client_turn_of u at mark ws = marked_by mark (entries_of (Client u) at ws)

pub tail_none : (es : List Entry) → map (λ x. record { entry = x; mark = None }) es ≡ marked_by None es
tail_none [] = refl
tail_none (e ∷ es) = refl

-- a turn of such entries
pub lives_through : (s : Settings) (c u at : ℕ) (ws : List What) (mark : Option Taken) (place : List Entry) (p : ClientState) → ClientLives c place p → Frees s u at p mark ws → ClientLives c (place ++ entries (client_turn_of u at mark ws)) (behind (step_client s) p (client_turn_of u at mark ws))
lives_through s c u at [] mark place p h f = subst (λ l. ClientLives c l p) (sym (append-nil place)) h
lives_through s c u at (w ∷ ws) mark place p h f =
    let first : Marked = record { entry = record { part = Client u; at = at; what = w }; mark = mark } in
    let next : ClientState = step_client s p first in
    let one : ClientLives c (place ++ first.entry ∷ []) next = with_moment c at (asked_behind s p w) (place ++ first.entry ∷ []) (client_behind s at mark p w) (lives_more s c place (Client u) at mark p h w f.0) in
    let rest : ClientLives c ((place ++ first.entry ∷ []) ++ entries (client_turn_of u at None ws)) (behind (step_client s) next (client_turn_of u at None ws)) = lives_through s c u at ws None (place ++ first.entry ∷ []) next one f.1 in
    subst (λ ms. ClientLives c (place ++ first.entry ∷ entries ms) (behind (step_client s) next ms)) (sym (tail_none (entries_of (Client u) at ws))) (subst (λ l. ClientLives c l (behind (step_client s) next (client_turn_of u at None ws))) (append_assoc place (first.entry ∷ []) (entries (client_turn_of u at None ws))) rest)

-- Behind its end a client has no row, and its list no live operation, whatever came before.

-- how many operations came, by the state
pub count_more : (s : Settings) (c : ℕ) (place : List Entry) (e : Entry) (mark : Option Taken) (p : ClientState) → p.count ≡ length (operations c place) → (step_client s p (record { entry = e; mark = mark })).count ≡ length (operations c (place ++ e ∷ []))
count_more s c place e mark p h = by e.what refl
  where
    none : operation_message e.what ≡ None → p.count ≡ length (operations c (place ++ e ∷ []))
    none k = h ∙ sym (count_stays c place e k)

    request_state : Message → Bool → Bool → ClientState
    request_state m b d = elim b [ false ↦ without (abandons m) e.at p | true ↦ elim d [ true ↦ with_bind s m p | false ↦ with_request s m p ] ]

    if_made : Message → Bool → Option Message
    if_made m b = elim b [ true ↦ Some m | false ↦ None ]

    request : (m : Message) (b d : Bool) → operation_message e.what ≡ if_made m b → (request_state m b d).count ≡ length (operations c (place ++ e ∷ []))
    request m false d k = none k
    request m true true k = ap suc h ∙ sym (count_rises c place e m k)
    request m true false k = ap suc h ∙ sym (count_rises c place e m k)

    chosen : (op : OpName) (answer : Answer) → (with_choice op answer p).count ≡ p.count
    chosen op (Go u b) = one (row_named p op)
      where
        state : Option ClientRow → ClientState
        state o = elim o [ None ↦ p | Some r ↦ with_connection u b p r ]

        one : (o : Option ClientRow) → (state o).count ≡ p.count
        one None = refl
        one (Some r) = refl
    chosen op Busy = refl
    chosen op Unavailable = refl

    by : (w : What) → e.what ≡ w → (client_behind s e.at mark p w).count ≡ length (operations c (place ++ e ∷ []))
    by (what.In id rest) k = request (record { id = id; rest = rest }) (makes_operation (record { id = id; rest = rest })) (is_request_of Bind (record { id = id; rest = rest })) (ap operation_message k)
    by (what.Out id rest) k = out_count s e.at mark p rest (row_under p id) ∙ none (ap operation_message k)
    by (what.Chosen op answer) k = chosen op answer ∙ none (ap operation_message k)
    by (what.Arrived) k = none (ap operation_message k)
    by (what.Late op) k = none (ap operation_message k)
    by (what.Gone why) k = none (ap operation_message k)
    by (what.Linked) k = none (ap operation_message k)
    by (what.Up) k = none (ap operation_message k)
    by (what.Retired) k = none (ap operation_message k)
    by (what.Sent id op rest) k = none (ap operation_message k)
    by (what.Own id rest) k = none (ap operation_message k)
    by (what.Got id rest) k = none (ap operation_message k)
    by (what.Expired op) k = none (ap operation_message k)
    by (what.Missed op) k = none (ap operation_message k)
    by (what.Idle op) k = none (ap operation_message k)
    by (what.Down why) k = none (ap operation_message k)
    by (what.Asked op want) k = none (ap operation_message k)
    by (what.Chose op answer word) k = none (ap operation_message k)
    by (what.Heard x) k = none (ap operation_message k)
    by (what.Stalled) k = none (ap operation_message k)
    by (what.Flowing) k = none (ap operation_message k)
    by (what.Paused client) k = none (ap operation_message k)
    by (what.Resumed client) k = none (ap operation_message k)
    by (what.Replanned number base) k = none (ap operation_message k)

-- the end
pub lives_ended : (s : Settings) (c : ℕ) (place : List Entry) (e : Entry) (why : EndWhy) (mark : Option Taken) (p : ClientState) → e.what ≡ what.Gone why → p.count ≡ length (operations c place) → ClientLives c (place ++ e ∷ []) (step_client s p (record { entry = e; mark = mark }))
lives_ended s c place e why mark p k h =
    record {
      count = count_more s c place e mark p h;
      rows = subst (λ rs. Matches rs (live_operations c (place ++ e ∷ []))) (sym rows_none) (subst (Matches []) (sym ended) tt);
      untaken = ap (list_all is_untaken) ended;
      apart = ap are_apart rows_none;
      within = ap (list_all (λ r. nat_le r.k (step_client s p (record { entry = e; mark = mark })).count)) rows_none;
    }
  where
    rows_none : (step_client s p (record { entry = e; mark = mark })).rows ≡ []
    rows_none = ap (λ w. (client_behind s e.at mark p w).rows) k

    ends : (o : Operation) → ends_not e o ≡ false
    ends o = ap (λ w. ends_not (record { part = e.part; at = e.at; what = w }) o) k

    none : (os : List Operation) → filter (ends_not e) os ≡ []
    none [] = refl
    none (o ∷ os) = ap (λ b. cond b (o ∷ filter (ends_not e) os) (filter (ends_not e) os)) (ends o) ∙ none os

    ended : live_operations c (place ++ e ∷ []) ≡ []
    ended = live_grow c place e ∙ ap (λ l. map (later_operation e) l ++ operation_made c (suc (length (operations c place))) place e [] (operation_message e.what)) (none (live_operations c place)) ∙ ap (λ w. operation_made c (suc (length (operations c place))) place e [] (operation_message w)) k

-- a turn that ends with Gone
pub ends_through : (s : Settings) (c u at : ℕ) (vs : List What) (why : EndWhy) (mark : Option Taken) (place : List Entry) (p : ClientState) → p.count ≡ length (operations c place) → ClientLives c (place ++ entries (client_turn_of u at mark (vs ++ what.Gone why ∷ []))) (behind (step_client s) p (client_turn_of u at mark (vs ++ what.Gone why ∷ [])))
ends_through s c u at [] why mark place p h = lives_ended s c place (record { part = Client u; at = at; what = what.Gone why }) why mark p refl h
ends_through s c u at (w ∷ vs) why mark place p h =
    let first : Marked = record { entry = record { part = Client u; at = at; what = w }; mark = mark } in
    let next : ClientState = step_client s p first in
    let rest : ClientLives c ((place ++ first.entry ∷ []) ++ entries (client_turn_of u at None (vs ++ what.Gone why ∷ []))) (behind (step_client s) next (client_turn_of u at None (vs ++ what.Gone why ∷ []))) = ends_through s c u at vs why None (place ++ first.entry ∷ []) next (count_more s c place first.entry mark p h) in
    subst (λ ms. ClientLives c (place ++ first.entry ∷ entries ms) (behind (step_client s) next ms)) (sym (tail_none (entries_of (Client u) at (vs ++ what.Gone why ∷ [])))) (subst (λ l. ClientLives c l (behind (step_client s) next (client_turn_of u at None (vs ++ what.Gone why ∷ [])))) (append_assoc place (first.entry ∷ []) (entries (client_turn_of u at None (vs ++ what.Gone why ∷ [])))) rest)

-- a request that its check doesn't end is under a free identifier
abbrev pub is_end : Check → Bool
is_end (Ends why) = true
is_end _ = false

pub free_by : (s : Settings) (p : ClientState) (m : Message) → is_end (check_at s p m) ≡ false → is_free_id p (what.In m.id m.rest) ≡ true
free_by s p m h = by (makes_operation m) (list_any (λ r. r.request.id == m.id) p.rows) (m.id == 0) refl refl (sym (ap (λ b. is_end (checked (m.id == 0) (makes_operation m && b))) (any-map (λ x. x.id == m.id) (λ r. live_request r.request) p.rows)) ∙ h)
  where
    checked : Bool → Bool → Check
    checked z b = if z then Ends ZeroId else if b then Ends IdInUse else check_request s (facts_of p) m (request m.rest)

    if_made : Bool → Option Message
    if_made b = elim b [ true ↦ Some (record { id = m.id; rest = m.rest }) | false ↦ None ]

    by : (a b z : Bool) → makes_operation m ≡ a → list_any (λ r. r.request.id == m.id) p.rows ≡ b → is_end (checked z (makes_operation m && list_any (λ r. r.request.id == m.id) p.rows)) ≡ false → (elim (if_made (makes_operation m)) [ None ↦ true | Some x ↦ not (list_any (λ r. r.request.id == x.id) p.rows) ]) ≡ true
    by false b z e f k = ap (λ x. elim (if_made x) [ None ↦ true | Some y ↦ not (list_any (λ r. r.request.id == y.id) p.rows) ]) e
    by true false z e f k = ap (λ x. elim (if_made x) [ None ↦ true | Some y ↦ not (list_any (λ r. r.request.id == y.id) p.rows) ]) e ∙ ap not f
    by true true true e f k = absurd (let bad : true ≡ false = k in cc)
    by true true false e f k = absurd (let bad : true ≡ false = sym (ap (λ x. is_end (checked false (x && list_any (λ r. r.request.id == m.id) p.rows))) e ∙ ap (λ x. is_end (checked false x)) f) ∙ k in cc)

-- refusals are Outs
pub refused_free : (s : Settings) (u at : ℕ) (p : ClientState) (mark : Option Taken) (m : Message) (which : Refusal) → Frees s u at p mark (refused m which)
refused_free s u at p mark m which = by (kind_of m.rest)
  where
    outs_of : Option OpKind → List What
    outs_of o = elim o [ None ↦ [] | Some kind ↦ what.Out m.id (refusal kind which) ∷ [] ]

    by : (o : Option OpKind) → Frees s u at p mark (outs_of o)
    by None = tt
    by (Some sort) = (refl, tt)

-- and so are answers to a Cancel
pub canceled_free : (s : Settings) (u at : ℕ) (p : ClientState) (mark : Option Taken) (id : ℕ) (o : Option OpKind) (which : CancelAnswer) → Frees s u at p mark (canceled id o which)
canceled_free s u at p mark id None which = tt
canceled_free s u at p mark id (Some kind) which = (refl, tt)

-- Each turn.
module _ (s : Settings) (c u at : ℕ) (place : List Entry) (p : ClientState) (h : ClientLives c place p) where
  abbrev Kept : Option Taken → List What → Type 0
  Kept mark ws = ClientLives c (place ++ entries (client_turn_of u at mark ws)) (behind (step_client s) p (client_turn_of u at mark ws))

  kept : (mark : Option Taken) (ws : List What) → Frees s u at p mark ws → Kept mark ws
  kept mark ws f = lives_through s c u at ws mark place p h f

  ended : (mark : Option Taken) (vs : List What) (why : EndWhy) → Kept mark (vs ++ what.Gone why ∷ [])
  ended mark vs why = ends_through s c u at vs why mark place p h.count

  so : (b : Bool) (a : Act) (mark : Option Taken) → Kept mark a.whats → Kept mark (where_so b a).whats
  so true a mark k = k
  so false a mark k = kept mark [] tt

  by_its_check : (m : Message) (k : Check) → check_at s p m ≡ k → Kept None (by_check s p at m k).whats
  by_its_check m (Ends why) e = ended None (what.In m.id m.rest ∷ what.Out 0 protocol_error_notice ∷ []) why
  by_its_check m Unbinds e = ended None (what.In m.id m.rest ∷ []) Left
  by_its_check m (Abandons id) e = kept None (what.In m.id m.rest ∷ []) (free_by s p m (ap is_end e), tt)
  by_its_check m (Refuses which) e = kept None (what.In m.id m.rest ∷ refused m which) (free_by s p m (ap is_end e), refused_free s u at (step_client s p (record { entry = record { part = Client u; at = at; what = what.In m.id m.rest }; mark = None })) None m which)
  by_its_check m (Answers which) e = kept None (what.In m.id m.rest ∷ canceled m.id (kind_of m.rest) which) (free_by s p m (ap is_end e), canceled_free s u at (step_client s p (record { entry = record { part = Client u; at = at; what = what.In m.id m.rest }; mark = None })) None m.id (kind_of m.rest) which)
  by_its_check m (Cancels id its_kind) e = kept None (what.In m.id m.rest ∷ what.Out id (cancel_answer its_kind C13) ∷ canceled m.id (kind_of m.rest) S1) (free_by s p m (ap is_end e), (refl, canceled_free s u at (step_client s (step_client s p (record { entry = record { part = Client u; at = at; what = what.In m.id m.rest }; mark = None })) (record { entry = record { part = Client u; at = at; what = what.Out id (cancel_answer its_kind C13) }; mark = None })) None m.id (kind_of m.rest) S1))
  by_its_check m GoesOn e = kept None (what.In m.id m.rest ∷ []) (free_by s p m (ap is_end e), tt)

  message_kept : (m : Message) → Kept None (message s p at m).whats
  message_kept m = by (is_present p && not (is_holding s p))
    where
      state : Bool → Act
      state b = elim b [ false ↦ nothing | true ↦ by_check s p at m (check_at s p m) ]

      by : (b : Bool) → Kept None (state b).whats
      by true = by_its_check m (check_at s p m) refl
      by false = kept None [] tt

  choice_kept : (mark : Option Taken) (op : OpName) (a : Answer) → Kept mark (choice s p op a).whats
  choice_kept mark op a = by (row_named p op) a
    where
      state : Option ClientRow → Answer → List What
      state o x = what.Chosen op x ∷ whats_for o x

      by : (o : Option ClientRow) (x : Answer) → Kept mark (state o x)
      by None (Go n b) = kept mark (what.Chosen op (Go n b) ∷ []) (refl, tt)
      by None Busy = kept mark (what.Chosen op Busy ∷ []) (refl, tt)
      by None Unavailable = kept mark (what.Chosen op Unavailable ∷ []) (refl, tt)
      by (Some r) (Go n b) = kept mark (what.Chosen op (Go n b) ∷ []) (refl, tt)
      by (Some r) Busy = kept mark (what.Chosen op Busy ∷ refused r.request C1) (refl, refused_free s u at (step_client s p (record { entry = record { part = Client u; at = at; what = what.Chosen op Busy }; mark = mark })) None r.request C1)
      by (Some r) Unavailable = kept mark (what.Chosen op Unavailable ∷ refused r.request C3) (refl, refused_free s u at (step_client s p (record { entry = record { part = Client u; at = at; what = what.Chosen op Unavailable }; mark = mark })) None r.request C3)

  answer_kept : (mark : Option Taken) (op : OpName) (rest : List ℕ) → Kept mark (answer p op rest).whats
  answer_kept mark op rest = by (row_named p op)
    where
      state : Option ClientRow → Act
      state o = elim o [ None ↦ act (what.Late op ∷ []) [] | Some r ↦ act (what.Out r.request.id rest ∷ []) [] ]

      by : (o : Option ClientRow) → Kept mark (state o).whats
      by None = kept mark (what.Late op ∷ []) (refl, tt)
      by (Some r) = kept mark (what.Out r.request.id rest ∷ []) (refl, tt)

  failure_kept : (mark : Option Taken) (op : OpName) (which : Refusal) → Kept mark (failure p op which).whats
  failure_kept mark op which = by (row_named p op)
    where
      state : Option ClientRow → Act
      state o = elim o [ None ↦ act (what.Late op ∷ []) [] | Some r ↦ act (refused r.request which) [] ]

      by : (o : Option ClientRow) → Kept mark (state o).whats
      by None = kept mark (what.Late op ∷ []) (refl, tt)
      by (Some r) = kept mark (refused r.request which) (refused_free s u at p mark r.request which)

  letter_kept : (mark : Option Taken) (l : Letter) → Kept mark (letter s p l).whats
  letter_kept mark (Choice op a) = choice_kept mark op a
  letter_kept mark (Reply op rest is_last who) = answer_kept mark op rest
  letter_kept mark (Failed op which) = failure_kept mark op which
  letter_kept mark _ = kept mark [] tt

  link_kept : (why : EndWhy) → Kept None (link_gone p why).whats
  link_kept Bad = ended None (what.Out 0 protocol_error_notice ∷ []) Bad
  link_kept TooBig = ended None (what.Out 0 protocol_error_notice ∷ []) TooBig
  link_kept _ = kept None [] tt

  pub input_kept : (input : Input) → Kept (letter_of input) (client_act s p at input).whats
  input_kept (Arrive now) = so (not p.arrived) (act (what.Arrived ∷ []) []) None (kept None (what.Arrived ∷ []) (refl, tt))
  input_kept (MessageIn now id rest) = message_kept (record { id = id; rest = rest })
  input_kept (Stall now) = so (is_present p && not p.pausing.stalled) (stalls p) None (kept None (what.Stalled ∷ []) (refl, tt))
  input_kept (Flow now) = so (is_present p && p.pausing.stalled) (flows p) None (kept None (what.Flowing ∷ []) (refl, tt))
  input_kept (Reload now plan base) = kept None [] tt
  input_kept (LetterFrom now word sender l) = so p.arrived (letter s p l) (Some (record { sender = sender; letter = l })) (letter_kept (Some (record { sender = sender; letter = l })) l)
  input_kept (LinkGone now why) = so (is_present p) (link_gone p why) None (link_kept why)
  input_kept (LinkUp now) = kept None [] tt
  input_kept (Tick now) = kept None [] tt

  pub sever_kept : (why : EndWhy) → Kept None (where_so (is_present p) (act (what.Gone why ∷ []) (closing p))).whats
  sever_kept why = so (is_present p) (act (what.Gone why ∷ []) (closing p)) None (ended None [] why)

-- each event, and each list of events
pub event_lives : (s : Settings) (c : ℕ) (place : List Entry) (p : ClientState) (x : Event) → ClientLives c place p → ClientLives c (place ++ entries (made (client_event s) p x)) (behind (step_client s) p (made (client_event s) p x))
event_lives s c place p (Comes input) h = input_kept s c p.number (moment_for p.moment input) place p h input
event_lives s c place p (Severed now why) h = by (is_link_reason why)
  where
    state : Bool → Effects
    state b = elim b [ true ↦ client_sever p now why | false ↦ record { entries = []; letters = [] } ]

    by : (b : Bool) → ClientLives c (place ++ entries (marked_by None (state b).entries)) (behind (step_client s) p (marked_by None (state b).entries))
    by true = sever_kept s c p.number (max p.moment now) place p h why
    by false = subst (λ l. ClientLives c l p) (sym (append-nil place)) h

pub behind_both : (s : Settings) (p : ClientState) (a b : List Marked) → behind (step_client s) p (a ++ b) ≡ behind (step_client s) (behind (step_client s) p a) b
behind_both s p [] b = refl
behind_both s p (x ∷ a) b = behind_both s (step_client s p x) a b

list_lives : (s : Settings) (c : ℕ) (xs : List Event) (place : List Entry) (p : ClientState) → ClientLives c place p → ClientLives c (place ++ entries (list_from (step_client s) (client_event s) p xs)) (behind (step_client s) p (list_from (step_client s) (client_event s) p xs))
list_lives s c [] place p h = subst (λ l. ClientLives c l p) (sym (append-nil place)) h
list_lives s c (x ∷ xs) place p h =
    let turn : List Marked = made (client_event s) p x in
    let next : ClientState = behind (step_client s) p turn in
    let rest : List Marked = list_from (step_client s) (client_event s) next xs in
    let more : ClientLives c ((place ++ entries turn) ++ entries rest) (behind (step_client s) next rest) = list_lives s c xs (place ++ entries turn) next (event_lives s c place p x h) in
    subst (λ q. ClientLives c (place ++ entries (turn ++ rest)) q) (sym (behind_both s p turn rest)) (subst (λ l. ClientLives c l (behind (step_client s) next rest)) (append_assoc place (entries turn) (entries rest) ∙ ap (λ l. place ++ l) (sym (map-append (λ m. m.entry) turn rest))) more)

numbers_same : (rs : List ClientRow) (os : List Operation) → Matches rs os → map (λ r. r.k) rs ≡ map (λ o. o.name.k) os
numbers_same [] [] m = refl
numbers_same (r ∷ rs) (o ∷ os) m = ap (λ k. k ∷ map (λ x. x.k) rs) m.0.k ∙ ap (λ l. o.name.k ∷ l) (numbers_same rs os m.1)
numbers_same [] (o ∷ os) m = absurd m
numbers_same (r ∷ rs) [] m = absurd m

-- the state that a list says
pub steps_are : (s : Settings) (p : ClientState) (ms : List Marked) → step_clients s p ms ≡ behind (step_client s) p ms
steps_are s p [] = refl
steps_are s p (m ∷ ms) = steps_are s (step_client s p m) ms

pub client_rows : ClientRows
client_rows s c xs = ap (λ p. map (λ r. r.k) p.rows) (steps_are s (empty_client c) (client_list s c xs)) ∙ numbers_same (behind (step_client s) (empty_client c) (client_list s c xs)).rows (live_operations c (entries (client_list s c xs))) (list_lives s c xs [] (empty_client c) (record { count = refl; rows = tt; untaken = refl; apart = refl; within = refl })).rows

-- what the checks ask of the live operations
live_same : (rs : List ClientRow) (os : List Operation) → Matches rs os → map (λ r. live_request r.request) rs ≡ map (λ o. live_request o.request) os
live_same [] [] m = refl
live_same (r ∷ rs) (o ∷ os) m = ap (λ x. x ∷ map (λ y. live_request y.request) rs) (λ i. record { id = m.0.id i; kind = m.0.kind i }) ∙ ap (λ l. live_request o.request ∷ l) (live_same rs os m.1)
live_same [] (o ∷ os) m = absurd m
live_same (r ∷ rs) [] m = absurd m

pub client_live : ClientLiveFacts
client_live s c xs = ap (λ p. (facts_of p).live) (steps_are s (empty_client c) (client_list s c xs)) ∙ live_same (behind (step_client s) (empty_client c) (client_list s c xs)).rows (live_operations c (entries (client_list s c xs))) (list_lives s c xs [] (empty_client c) (record { count = refl; rows = tt; untaken = refl; apart = refl; within = refl })).rows
