-- Clauses of a client's share that hold of each list of its turns: its moments never fall, it stalls and flows in turn
-- while it is there, and a late letter is of an operation that isn't live.
use Rattle.std.proofs.Common.{◌≡◌, ℕ, max, Bool, true, false, ◌==◌, ◌&&◌, ◌||◌, not, List, [], ◌∷◌, ◌++◌, refl, ap, ◌∙◌, sym, subst, append_assoc}
use Rattle.std.specs.Prelude.{Option, Some, None, map, nat_le, if◌then◌else◌}
use Rattle.std.specs.List.{list_any, list_all}
use Rattle.std.proofs.lemmas.List.{append-nil, map-append}
use Rattle.std.proofs.lemmas.List.Folds.{list_any-append}
use Rattle.std.proofs.Math.Bool.{or-false}
use Rattle.ldap_spec.specs.Messages.{Message}
use Rattle.ldap_spec.specs.Kinds.{kind_of}
use Rattle.ldap_spec.specs.Responses.{has_code}
use Rattle.ldap_spec.specs.Bodies.{refusal}
use Rattle.ldap_spec.specs.Requests.{request}
use Rattle.lload_names.specs.declared.names.Entry.{Entry}
use Rattle.lload_names.specs.declared.names.OpName.{OpName}
use Rattle.lload_names.specs.declared.names.OpKind.{OpKind}
use Rattle.lload_names.specs.declared.names.OpKind.TheVariants.{Bind}
use Rattle.lload_names.specs.declared.names.Answer.{Answer}
use Rattle.lload_names.specs.declared.names.Answer.TheVariants.{Go, Busy, Unavailable}
use Rattle.lload_names.specs.declared.names.CancelAnswer.{CancelAnswer}
use Rattle.lload_names.specs.declared.names.CancelAnswer.TheVariants.{S1}
use Rattle.lload_names.specs.declared.names.EndWhy.{EndWhy}
use Rattle.lload_names.specs.declared.names.EndWhy.TheVariants.{Bad, TooBig}
use Rattle.lload_names.specs.declared.names.Refusal.{Refusal}
use Rattle.lload_names.specs.declared.names.Refusal.TheVariants.{C1, C3}
use Rattle.lload_names.specs.declared.names.PartName.TheVariants.{Client}
use Rattle.lload_names.specs.declared.names.Letter.{Letter}
use Rattle.lload_names.specs.declared.names.Letter.TheVariants.{Choice, Reply, Failed}
use Rattle.lload_names.specs.declared.names.What.{What}
use Rattle.lload_names.specs.declared.names.What.TheVariants as what
use Rattle.lload_names.specs.declared.inputs.Input.{Input}
use Rattle.lload_names.specs.declared.inputs.Input.TheVariants.{Arrive, Message as MessageIn, LetterFrom, LinkGone, Stall, Flow}
use Rattle.lload_names.specs.declared.inputs.Effects.{Effects}
use Rattle.lload_spec.specs.Lists.{last, each_split_from}
use Rattle.lload_spec.specs.Settings.{Settings}
use Rattle.lload_spec.specs.Entries.{makes_operation, is_link_reason, is_arrived, is_gone}
use Rattle.lload_spec.specs.Operations.{is_request_of, is_final_for, is_live_at}
use Rattle.lload_spec.specs.Identity.{identity_of}
use Rattle.lload_spec.specs.FirstCheck.{Check, Ends, Unbinds, Abandons, Refuses, Answers, Cancels, GoesOn}
use Rattle.lload_spec.specs.Caused.{is_later, is_late_caused, is_stall_caused, is_there}
use Rattle.lload_spec.specs.Pauses.{pausing_at}
use Rattle.part_spec.specs.Marked.{Marked, Taken, entries}
use Rattle.part_spec.specs.Inputs.{Act, act, nothing, entries_of, marked_by, letter_of, moment_for, moment_of}
use Rattle.part_spec.specs.ClientState.{ClientState, ClientRow, empty_client, step_client, client_behind, check_at, is_present, is_holding, is_bind_row, row_named, row_under, without, abandons, with_bind, with_request, with_connection, with_choice, who_told}
use Rattle.part_spec.specs.ClientTurn.{closing, refused, canceled, noticed, whats_by, whats_for, by_check, message, choice, answer, failure, letter, link_gone, stalls, flows, where_so, client_act, client_sever}
use Rattle.part_spec.specs.Fit.{ledger_behind as behind}
use Rattle.lload_spec.proofs.Growth.{left, right, both}
use Rattle.part_laws.specs.Turns.{Event, Comes, Severed, made, list_from, no_effects}
use Rattle.part_laws.proofs.ListLaws.{splits_grow, last_push, last_moment, le_max, le_same, or_true}
use Rattle.client_laws.specs.Turns.{client_event, client_list, ClientMoments, ClientStallsInTurn, ClientLate}
use Rattle.client_laws.proofs.Matches.{ClientLives}
use Rattle.client_laws.proofs.ClientLives.{out_state_of}
use Rattle.client_laws.proofs.ClientLate.{none_live}
use Rattle.client_laws.proofs.ClientTurns.{client_turn_of, steps_are, behind_both, event_lives}
use Rattle.client_laws.proofs.ClientStalls.{client_stalls}

-- What an entry leaves of who the client is, and of whether it is there.
record Same (q p : ClientState) : Type 0 where
  number : q.number ≡ p.number
  arrived : q.arrived ≡ p.arrived
  gone : q.gone ≡ p.gone

same_in : (s : Settings) (at : ℕ) (p : ClientState) (m : Message) (b d : Bool) → Same (elim b [ false ↦ without (abandons m) at p | true ↦ elim d [ true ↦ with_bind s m p | false ↦ with_request s m p ] ]) p
same_in s at p m false d = record { number = refl; arrived = refl; gone = refl }
same_in s at p m true true = record { number = refl; arrived = refl; gone = refl }
same_in s at p m true false = record { number = refl; arrived = refl; gone = refl }

same_out : (s : Settings) (at : ℕ) (mark : Option Taken) (p : ClientState) (rest : List ℕ) (o : Option ClientRow) → Same (out_state_of s at mark p rest o) p
same_out s at mark p rest None = record { number = refl; arrived = refl; gone = refl }
same_out s at mark p rest (Some r) = by (is_final_for r.request rest) (is_bind_row r) (has_code 14 rest)
  where
    ended : ClientState
    ended = without (λ x. x.k == r.k) at p

    answered : Bool → ClientState
    answered b = elim b [ true ↦ record ended { in_exchange = true } | false ↦ record ended { hold = None; identity = if has_code 0 rest then identity_of s (who_told mark) (request r.request.rest) else [] } ]

    state : Bool → Bool → Bool → ClientState
    state f b x = elim f [ false ↦ p | true ↦ elim b [ true ↦ answered x | false ↦ ended ] ]

    by : (f b x : Bool) → Same (state f b x) p
    by false b x = record { number = refl; arrived = refl; gone = refl }
    by true true true = record { number = refl; arrived = refl; gone = refl }
    by true true false = record { number = refl; arrived = refl; gone = refl }
    by true false x = record { number = refl; arrived = refl; gone = refl }

same_chosen : (op : OpName) (a : Answer) (p : ClientState) → Same (with_choice op a p) p
same_chosen op (Go u b) p = by (row_named p op)
  where
    by : (o : Option ClientRow) → Same (elim o [ None ↦ p | Some r ↦ with_connection u b p r ]) p
    by None = record { number = refl; arrived = refl; gone = refl }
    by (Some r) = record { number = refl; arrived = refl; gone = refl }
same_chosen op Busy p = record { number = refl; arrived = refl; gone = refl }
same_chosen op Unavailable p = record { number = refl; arrived = refl; gone = refl }

number_step : (s : Settings) (at : ℕ) (mark : Option Taken) (p : ClientState) (w : What) → (client_behind s at mark p w).number ≡ p.number
number_step s at mark p (what.In id rest) = (same_in s at p (record { id = id; rest = rest }) (makes_operation (record { id = id; rest = rest })) (is_request_of Bind (record { id = id; rest = rest }))).number
number_step s at mark p (what.Out id rest) = (same_out s at mark p rest (row_under p id)).number
number_step s at mark p (what.Chosen op a) = (same_chosen op a p).number
number_step s at mark p _ = refl

arrived_step : (s : Settings) (at : ℕ) (mark : Option Taken) (p : ClientState) (w : What) → (client_behind s at mark p w).arrived ≡ (p.arrived || is_arrived w)
arrived_step s at mark p what.Arrived = sym (or_true p.arrived)
arrived_step s at mark p (what.In id rest) = (same_in s at p (record { id = id; rest = rest }) (makes_operation (record { id = id; rest = rest })) (is_request_of Bind (record { id = id; rest = rest }))).arrived ∙ sym (or-false p.arrived)
arrived_step s at mark p (what.Out id rest) = (same_out s at mark p rest (row_under p id)).arrived ∙ sym (or-false p.arrived)
arrived_step s at mark p (what.Chosen op a) = (same_chosen op a p).arrived ∙ sym (or-false p.arrived)
arrived_step s at mark p _ = sym (or-false p.arrived)

abbrev pub goes : What → Bool
goes (what.Gone why) = true
goes _ = false

goes_entry : (e : Entry) (w : What) → e.what ≡ w → is_gone e ≡ goes w
goes_entry e (what.Gone why) k = ap (λ v. is_gone (record e { what = v })) k
goes_entry e what.Arrived k = ap (λ v. is_gone (record e { what = v })) k
goes_entry e _ k = ap (λ v. is_gone (record e { what = v })) k

pub gone_step : (s : Settings) (at : ℕ) (mark : Option Taken) (p : ClientState) (w : What) → (client_behind s at mark p w).gone ≡ (p.gone || goes w)
gone_step s at mark p (what.Gone why) = sym (or_true p.gone)
gone_step s at mark p (what.In id rest) = (same_in s at p (record { id = id; rest = rest }) (makes_operation (record { id = id; rest = rest })) (is_request_of Bind (record { id = id; rest = rest }))).gone ∙ sym (or-false p.gone)
gone_step s at mark p (what.Out id rest) = (same_out s at mark p rest (row_under p id)).gone ∙ sym (or-false p.gone)
gone_step s at mark p (what.Chosen op a) = (same_chosen op a p).gone ∙ sym (or-false p.gone)
gone_step s at mark p _ = sym (or-false p.gone)

-- What the state says of each list.
pub record Says (c : ℕ) (place : List Entry) (p : ClientState) : Type 0 where
  pub number : p.number ≡ c
  moment : p.moment ≡ last_moment place
  pub arrived : p.arrived ≡ list_any (λ e. is_arrived e.what) place
  pub gone : p.gone ≡ list_any is_gone place

some_push : (t : Entry → Bool) (place : List Entry) (e : Entry) (b : Bool) → b ≡ list_any t place → (b || t e) ≡ list_any t (place ++ e ∷ [])
some_push t place e b h = ap (λ x. x || t e) h ∙ ap (λ x. list_any t place || x) (sym (or-false (t e))) ∙ sym (list_any-append t place (e ∷ []))

pub says_more : (s : Settings) (c : ℕ) (place : List Entry) (p : ClientState) (m : Marked) → Says c place p → Says c (place ++ m.entry ∷ []) (step_client s p m)
says_more s c place p m h =
    record {
      number = number_step s m.entry.at m.mark p m.entry.what ∙ h.number;
      moment = ap (λ o. elim o [ None ↦ 0 | Some e ↦ e.at ]) (sym (last_push place m.entry));
      arrived = arrived_step s m.entry.at m.mark p m.entry.what ∙ some_push (λ e. is_arrived e.what) place m.entry p.arrived h.arrived;
      gone = gone_step s m.entry.at m.mark p m.entry.what ∙ ap (λ b. p.gone || b) (sym (goes_entry m.entry m.entry.what refl)) ∙ some_push is_gone place m.entry p.gone h.gone;
    }

says_through : (s : Settings) (c : ℕ) (ms : List Marked) (place : List Entry) (p : ClientState) → Says c place p → Says c (place ++ entries ms) (behind (step_client s) p ms)
says_through s c [] place p h = subst (λ l. Says c l p) (sym (append-nil place)) h
says_through s c (m ∷ ms) place p h = subst (λ l. Says c l (behind (step_client s) (step_client s p m) ms)) (append_assoc place (m.entry ∷ []) (entries ms)) (says_through s c ms (place ++ m.entry ∷ []) (step_client s p m) (says_more s c place p m h))

-- whether an entry that stalls or flows, and a late one, has its cause
abbrev is_caused : ℕ → List Entry → Entry → Bool
is_caused c place e = is_stall_caused c place e && is_late_caused c place e

-- What is kept behind each turn.
pub record Keeps (s : Settings) (c : ℕ) (before : List Marked) (p : ClientState) : Type 0 where
  pub state : p ≡ behind (step_client s) (empty_client c) before
  pub says : Says c (entries before) p
  moments : each_split_from (λ place e later. is_later place e) [] (entries before) ≡ true
  pub lives : ClientLives c (entries before) p
  caused : each_split_from (λ place e later. is_caused c place e) [] (entries before) ≡ true

-- the entries of a turn
pub unmarked_entries : (es : List Entry) → entries (map (λ x. record { entry = x; mark = None }) es) ≡ es
unmarked_entries [] = refl
unmarked_entries (e ∷ es) = ap (λ l. e ∷ l) (unmarked_entries es)

pub entries_marked : (mark : Option Taken) (es : List Entry) → entries (marked_by mark es) ≡ es
entries_marked mark [] = refl
entries_marked mark (e ∷ es) = ap (λ l. e ∷ l) (unmarked_entries es)

-- the moments
later_by : (place : List Entry) (e : Entry) → nat_le (last_moment place) e.at ≡ true → is_later place e ≡ true
later_by place e h = by (last place) h
  where
    by : (o : Option Entry) → nat_le (elim o [ None ↦ 0 | Some x ↦ x.at ]) e.at ≡ true → (elim o [ None ↦ true | Some x ↦ nat_le x.at e.at ]) ≡ true
    by None k = refl
    by (Some x) k = k

moments_from : (u at : ℕ) (ws : List What) (place : List Entry) → nat_le (last_moment place) at ≡ true → each_split_from (λ b e x. is_later b e) place (entries_of (Client u) at ws) ≡ true
moments_from u at [] place h = refl
moments_from u at (w ∷ ws) place h =
    let e : Entry = record { part = Client u; at = at; what = w } in
    both (is_later place e) _ (later_by place e h) (moments_from u at ws (place ++ e ∷ []) (ap (λ o. nat_le (elim o [ None ↦ 0 | Some x ↦ x.at ]) at) (last_push place e) ∙ le_same at))

-- what neither stalls nor flows, nor is late
abbrev is_plain : What → Bool
is_plain what.Stalled = false
is_plain what.Flowing = false
is_plain (what.Late op) = false
is_plain _ = true

stall_plain : (c : ℕ) (place : List Entry) (e : Entry) (w : What) → e.what ≡ w → is_plain w ≡ true → is_caused c place e ≡ true
stall_plain c place e what.Stalled k h = absurd (let bad : false ≡ true = h in cc)
stall_plain c place e what.Flowing k h = absurd (let bad : false ≡ true = h in cc)
stall_plain c place e (what.Late op) k h = absurd (let bad : false ≡ true = h in cc)
stall_plain c place e _ k h = ap (λ v. is_caused c place (record e { what = v })) k

stalls_from : (c u at : ℕ) (ws : List What) (place : List Entry) → list_all is_plain ws ≡ true → each_split_from (λ b e x. is_caused c b e) place (entries_of (Client u) at ws) ≡ true
stalls_from c u at [] place h = refl
stalls_from c u at (w ∷ ws) place h =
    let e : Entry = record { part = Client u; at = at; what = w } in
    both (is_caused c place e) _ (stall_plain c place e w refl (left (is_plain w) _ h)) (stalls_from c u at ws (place ++ e ∷ []) (right (is_plain w) _ h))

-- what turns are made of
refused_plain : (m : Message) (which : Refusal) → list_all is_plain (refused m which) ≡ true
refused_plain m which = by (kind_of m.rest)
  where
    outs_of : Option OpKind → List What
    outs_of o = elim o [ None ↦ [] | Some kind ↦ what.Out m.id (refusal kind which) ∷ [] ]

    by : (o : Option OpKind) → list_all is_plain (outs_of o) ≡ true
    by None = refl
    by (Some kind) = refl

canceled_plain : (id : ℕ) (o : Option OpKind) (which : CancelAnswer) → list_all is_plain (canceled id o which) ≡ true
canceled_plain id None which = refl
canceled_plain id (Some kind) which = refl

checked_plain : (m : Message) (k : Check) → list_all is_plain (whats_by m k) ≡ true
checked_plain m (Ends why) = refl
checked_plain m Unbinds = refl
checked_plain m (Abandons id) = refl
checked_plain m (Refuses which) = refused_plain m which
checked_plain m (Answers which) = canceled_plain m.id (kind_of m.rest) which
checked_plain m (Cancels id kind) = canceled_plain m.id (kind_of m.rest) S1
checked_plain m GoesOn = refl

module _ (s : Settings) (c at : ℕ) (before : List Marked) (p : ClientState) (h : Keeps s c before p) where
  abbrev Stalls : List What → Type 0
  Stalls ws = each_split_from (λ b e x. is_caused c b e) (entries before) (entries_of (Client p.number) at ws) ≡ true

  plain : (ws : List What) → list_all is_plain ws ≡ true → Stalls ws
  plain ws k = stalls_from c p.number at ws (entries before) k

  so : (b : Bool) (a : Act) → (b ≡ true → Stalls a.whats) → Stalls (where_so b a).whats
  so true a f = f refl
  so false a f = refl

  -- the client is there by the list as by the state, and so is it stalled
  there : is_present p ≡ is_there (entries before)
  there = ap (λ b. b && not p.gone) h.says.arrived ∙ ap (λ b. list_any (λ e. is_arrived e.what) (entries before) && not b) h.says.gone

  stalled : p.pausing.stalled ≡ (pausing_at c (entries before)).stalled
  stalled = ap (λ q. q.pausing.stalled) (h.state ∙ sym (steps_are s (empty_client c) before)) ∙ client_stalls s c before

  -- a late entry, where there is no row
  late : (op : OpName) → row_named p op ≡ None → Stalls (what.Late op ∷ [])
  late op e = both (not (is_live_at c (entries before) op)) true (ap not (none_live c (entries before) p op h.lives h.says.number e)) refl

  message_stalls : (m : Message) → Stalls (message s p at m).whats
  message_stalls m = by (is_present p && not (is_holding s p))
    where
      state : Bool → Act
      state b = elim b [ false ↦ nothing | true ↦ by_check s p at m (check_at s p m) ]

      by : (b : Bool) → Stalls (state b).whats
      by true = plain (what.In m.id m.rest ∷ whats_by m (check_at s p m)) (checked_plain m (check_at s p m))
      by false = refl

  answer_stalls : (op : OpName) (rest : List ℕ) → Stalls (answer p op rest).whats
  answer_stalls op rest = by (row_named p op) refl
    where
      state : Option ClientRow → Act
      state o = elim o [ None ↦ act (what.Late op ∷ []) [] | Some r ↦ act (what.Out r.request.id rest ∷ []) [] ]

      by : (o : Option ClientRow) → row_named p op ≡ o → Stalls (state o).whats
      by None e = late op e
      by (Some r) e = plain (what.Out r.request.id rest ∷ []) refl

  failure_stalls : (op : OpName) (which : Refusal) → Stalls (failure p op which).whats
  failure_stalls op which = by (row_named p op) refl
    where
      state : Option ClientRow → Act
      state o = elim o [ None ↦ act (what.Late op ∷ []) [] | Some r ↦ act (refused r.request which) [] ]

      by : (o : Option ClientRow) → row_named p op ≡ o → Stalls (state o).whats
      by None e = late op e
      by (Some r) e = plain (refused r.request which) (refused_plain r.request which)

  choice_stalls : (op : OpName) (a : Answer) → Stalls (choice s p op a).whats
  choice_stalls op a = plain (what.Chosen op a ∷ whats_for (row_named p op) a) (by (row_named p op) a)
    where
      by : (o : Option ClientRow) (x : Answer) → list_all is_plain (whats_for o x) ≡ true
      by (Some r) Busy = refused_plain r.request C1
      by (Some r) Unavailable = refused_plain r.request C3
      by (Some r) (Go u b) = refl
      by None (Go u b) = refl
      by None Busy = refl
      by None Unavailable = refl

  letter_stalls : (x : Letter) → Stalls (letter s p x).whats
  letter_stalls (Choice op a) = choice_stalls op a
  letter_stalls (Reply op rest is_last who) = answer_stalls op rest
  letter_stalls (Failed op which) = failure_stalls op which
  letter_stalls _ = refl

  link_stalls : (why : EndWhy) → Stalls (link_gone p why).whats
  link_stalls Bad = plain (noticed Bad) refl
  link_stalls TooBig = plain (noticed TooBig) refl
  link_stalls _ = refl

  input_stalls : (input : Input) → Stalls (client_act s p at input).whats
  input_stalls (Arrive now) = so (not p.arrived) (act (what.Arrived ∷ []) []) (λ e. plain (what.Arrived ∷ []) refl)
  input_stalls (MessageIn now id rest) = message_stalls (record { id = id; rest = rest })
  input_stalls (LetterFrom now word sender x) = so p.arrived (letter s p x) (λ e. letter_stalls x)
  input_stalls (LinkGone now why) = so (is_present p) (link_gone p why) (λ e. link_stalls why)
  input_stalls (Stall now) = so (is_present p && not p.pausing.stalled) (stalls p) (λ e. both ((is_there (entries before) && not (pausing_at c (entries before)).stalled) && true) true (both (is_there (entries before) && not (pausing_at c (entries before)).stalled) true (ap (λ b. b && not (pausing_at c (entries before)).stalled) (sym there) ∙ ap (λ b. is_present p && not b) (sym stalled) ∙ e) refl) refl)
  input_stalls (Flow now) = so (is_present p && p.pausing.stalled) (flows p) (λ e. both ((is_there (entries before) && (pausing_at c (entries before)).stalled) && true) true (both (is_there (entries before) && (pausing_at c (entries before)).stalled) true (ap (λ b. b && (pausing_at c (entries before)).stalled) (sym there) ∙ ap (λ b. is_present p && b) (sym stalled) ∙ e) refl) refl)
  input_stalls _ = refl

  -- a turn
  keeps_turn : (mark : Option Taken) (ws : List What) → nat_le p.moment at ≡ true → ClientLives c (entries before ++ entries (client_turn_of p.number at mark ws)) (behind (step_client s) p (client_turn_of p.number at mark ws)) → Stalls ws → Keeps s c (before ++ client_turn_of p.number at mark ws) (behind (step_client s) p (client_turn_of p.number at mark ws))
  keeps_turn mark ws later lives k =
      let turn : List Marked = client_turn_of p.number at mark ws in
      let same : entries turn ≡ entries_of (Client p.number) at ws = entries_marked mark (entries_of (Client p.number) at ws) in
      let grown : entries (before ++ turn) ≡ entries before ++ entries_of (Client p.number) at ws = map-append (λ x. x.entry) before turn ∙ ap (λ l. entries before ++ l) same in
      record {
        state = ap (λ q. behind (step_client s) q turn) h.state ∙ sym (behind_both s (empty_client c) before turn);
        says = subst (λ l. Says c l (behind (step_client s) p turn)) (sym (map-append (λ x. x.entry) before turn)) (says_through s c turn (entries before) p h.says);
        moments = ap (each_split_from (λ b e x. is_later b e) []) grown ∙ splits_grow (λ b e x. is_later b e) [] (entries before) (entries_of (Client p.number) at ws) (λ b e x j. j) h.moments (moments_from p.number at ws (entries before) (ap (λ n. nat_le n at) (sym h.says.moment) ∙ later));
        lives = subst (λ l. ClientLives c l (behind (step_client s) p turn)) (sym (map-append (λ x. x.entry) before turn)) lives;
        caused = ap (each_split_from (λ b e x. is_caused c b e) []) grown ∙ splits_grow (λ b e x. is_caused c b e) [] (entries before) (entries_of (Client p.number) at ws) (λ b e x j. j) h.caused k;
      }

pub event_keeps : (s : Settings) (c : ℕ) (before : List Marked) (p : ClientState) (x : Event) → Keeps s c before p → Keeps s c (before ++ made (client_event s) p x) (behind (step_client s) p (made (client_event s) p x))
event_keeps s c before p (Comes input) h = keeps_turn s c (moment_for p.moment input) before p h (letter_of input) (client_act s p (moment_for p.moment input) input).whats (le_max p.moment (moment_of input)) (event_lives s c (entries before) p (Comes input) h.lives) (input_stalls s c (moment_for p.moment input) before p h input)
event_keeps s c before p (Severed now why) h = by (is_link_reason why) (event_lives s c (entries before) p (Severed now why) h.lives)
  where
    state : Bool → Effects
    state b = elim b [ true ↦ client_sever p now why | false ↦ no_effects ]

    by : (b : Bool) → ClientLives c (entries before ++ entries (marked_by None (state b).entries)) (behind (step_client s) p (marked_by None (state b).entries)) → Keeps s c (before ++ marked_by None (state b).entries) (behind (step_client s) p (marked_by None (state b).entries))
    by true k = keeps_turn s c (max p.moment now) before p h None (where_so (is_present p) (act (what.Gone why ∷ []) (closing p))).whats (le_max p.moment now) k (so s c (max p.moment now) before p h (is_present p) (act (what.Gone why ∷ []) (closing p)) (λ e. plain s c (max p.moment now) before p h (what.Gone why ∷ []) refl))
    by false k = subst (λ b. Keeps s c b p) (sym (append-nil before)) h

list_keeps : (s : Settings) (c : ℕ) (xs : List Event) (before : List Marked) (p : ClientState) → Keeps s c before p → Keeps s c (before ++ list_from (step_client s) (client_event s) p xs) (behind (step_client s) p (list_from (step_client s) (client_event s) p xs))
list_keeps s c [] before p h = subst (λ b. Keeps s c b p) (sym (append-nil before)) h
list_keeps s c (x ∷ xs) before p h =
    let turn : List Marked = made (client_event s) p x in
    let next : ClientState = behind (step_client s) p turn in
    let rest : List Marked = list_from (step_client s) (client_event s) next xs in
    let more : Keeps s c ((before ++ turn) ++ rest) (behind (step_client s) next rest) = list_keeps s c xs (before ++ turn) next (event_keeps s c before p x h) in
    subst (λ q. Keeps s c (before ++ (turn ++ rest)) q) (sym (behind_both s p turn rest)) (subst (λ b. Keeps s c b (behind (step_client s) next rest)) (append_assoc before turn rest) more)

pub nothing_kept : (s : Settings) (c : ℕ) → Keeps s c [] (empty_client c)
nothing_kept s c = record { state = refl; says = record { number = refl; moment = refl; arrived = refl; gone = refl }; moments = refl; lives = record { count = refl; rows = tt; untaken = refl; apart = refl; within = refl }; caused = refl }

pub client_moments : ClientMoments
client_moments s c xs = (list_keeps s c xs [] (empty_client c) (nothing_kept s c)).moments

-- each of two tests of each split
splits_left : (t q : List Entry → Entry → Bool) (place es : List Entry) → each_split_from (λ b e x. t b e && q b e) place es ≡ true → each_split_from (λ b e x. t b e) place es ≡ true
splits_left t q place [] h = refl
splits_left t q place (e ∷ es) h = both (t place e) _ (left (t place e) _ (left (t place e && q place e) _ h)) (splits_left t q (place ++ e ∷ []) es (right (t place e && q place e) _ h))

splits_right : (t q : List Entry → Entry → Bool) (place es : List Entry) → each_split_from (λ b e x. t b e && q b e) place es ≡ true → each_split_from (λ b e x. q b e) place es ≡ true
splits_right t q place [] h = refl
splits_right t q place (e ∷ es) h = both (q place e) _ (right (t place e) _ (left (t place e && q place e) _ h)) (splits_right t q (place ++ e ∷ []) es (right (t place e && q place e) _ h))

pub client_stalls_so : ClientStallsInTurn
client_stalls_so s c xs = splits_left (is_stall_caused c) (is_late_caused c) [] (entries (client_list s c xs)) (list_keeps s c xs [] (empty_client c) (nothing_kept s c)).caused

pub client_late : ClientLate
client_late s c xs = splits_right (is_stall_caused c) (is_late_caused c) [] (entries (client_list s c xs)) (list_keeps s c xs [] (empty_client c) (nothing_kept s c)).caused
