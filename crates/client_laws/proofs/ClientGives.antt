-- What a client's list gives is what its turns gave.
use Rattle.std.proofs.Common.{◌≡◌, ℕ, max, Bool, true, false, ◌==◌, ◌&&◌, not, List, [], ◌∷◌, ◌++◌, refl, ap, ◌∙◌, sym, append_assoc}
use Rattle.std.specs.Prelude.{Option, Some, None, map, filter, cond, if◌then◌else◌}
use Rattle.std.specs.List.{list_all}
use Rattle.std.proofs.lemmas.List.{append-nil}
use Rattle.std.proofs.lemmas.List.Folds.{list_all-append}
use Rattle.ldap_spec.specs.Messages.{Message}
use Rattle.ldap_spec.specs.Kinds.{kind_of, is_unbind, same_kind}
use Rattle.ldap_spec.specs.Bodies.{refusal, cancel_answer, protocol_error_notice}
use Rattle.ldap_spec.specs.Requests.{Request, BindRequest, UnbindRequest, AbandonRequest, ExtendedRequest, PlainRequest, request}
use Rattle.lload_names.specs.declared.names.OpName.{OpName}
use Rattle.lload_names.specs.declared.names.OpKind.{OpKind}
use Rattle.lload_names.specs.declared.names.OpKind.TheVariants.{Bind}
use Rattle.lload_names.specs.declared.names.Answer.{Answer}
use Rattle.lload_names.specs.declared.names.Answer.TheVariants.{Go, Busy, Unavailable}
use Rattle.lload_names.specs.declared.names.CancelAnswer.{CancelAnswer}
use Rattle.lload_names.specs.declared.names.CancelAnswer.TheVariants.{S1, C13}
use Rattle.lload_names.specs.declared.names.EndWhy.{EndWhy}
use Rattle.lload_names.specs.declared.names.EndWhy.TheVariants.{Bad, TooBig, ZeroId, IdInUse}
use Rattle.lload_names.specs.declared.names.Refusal.{Refusal}
use Rattle.lload_names.specs.declared.names.Refusal.TheVariants.{C1, C3}
use Rattle.lload_names.specs.declared.names.PartName.TheVariants.{Client, Up as Connection}
use Rattle.lload_names.specs.declared.names.Posted.{Posted}
use Rattle.lload_names.specs.declared.names.Letter.{Letter}
use Rattle.lload_names.specs.declared.names.Letter.TheVariants.{Choice, Reply, Failed, Drop}
use Rattle.lload_names.specs.declared.names.What.{What}
use Rattle.lload_names.specs.declared.names.What.TheVariants as what
use Rattle.lload_names.specs.declared.inputs.Input.{Input}
use Rattle.lload_names.specs.declared.inputs.Input.TheVariants.{Arrive, Message as MessageIn, LetterFrom, LinkGone, Stall, Flow}
use Rattle.lload_names.specs.declared.inputs.Effects.{Effects}
use Rattle.lload_spec.specs.Lists.{passes, last}
use Rattle.std.proofs.lemmas.Grind.{flat_map-append}
use Rattle.lload_spec.specs.Settings.{Settings}
use Rattle.lload_spec.specs.Entries.{makes_operation, is_link_reason}
use Rattle.lload_spec.specs.Operations.{is_request_of, is_final_for, abandons_id}
use Rattle.lload_spec.specs.FirstCheck.{Check, Ends, Unbinds, Abandons, Refuses, Answers, Cancels, GoesOn, check_request, lets_go_on, is_in_use}
use Rattle.part_spec.specs.Marked.{Marked, Taken}
use Rattle.part_spec.specs.Inputs.{Act, act, nothing, entries_of, marked_by, letter_of, moment_for, to}
use Rattle.part_spec.specs.ClientState.{ClientState, ClientRow, empty_client, step_client, client_behind, facts_of, check_at, is_present, is_holding, is_pinned, is_bind_row, row_named, row_under, held_connection, name_of, new_row, without, abandons, with_bind, with_request, with_connection}
use Rattle.part_spec.specs.ClientTurn.{drop_of, drops, leave, closing, resumes, stall_letters, refused, canceled, noticed, letters_by, whats_for, letters_for, by_check, message, choice, answer, failure, letter, link_gone, stalls, flows, where_so, client_act, client_sever}
use Rattle.part_spec.specs.Gives.{client_gives, client_letters, message_letters, ending_letters}
use Rattle.lload_spec.proofs.Growth.{left, right, both}
use Rattle.part_laws.specs.Turns.{Event, Comes, Severed, made, no_effects}
use Rattle.part_laws.proofs.Giving.{turns_give}
use Rattle.part_laws.proofs.ListLaws.{all_kept, filter-all, not_true}
use Rattle.client_laws.specs.Turns.{client_event, ClientGives}
use Rattle.client_laws.proofs.CheckTests.{check_passes}
use Rattle.client_laws.proofs.KindsKept.{carried_kind}
use Rattle.client_laws.proofs.Matches.{left_by}
use Rattle.client_laws.proofs.ClientLives.{forwarded_all, out_state_of}
use Rattle.client_laws.proofs.ClientTurns.{client_turn_of}
use Rattle.client_laws.proofs.ClientEnds.{out_left}

-- No row is under identifier 0, whatever the list is.
abbrev pub has_id : ClientRow → Bool
has_id r = not (r.request.id == 0)

abbrev pub HaveIds : ClientState → Type 0
HaveIds p = list_all has_id p.rows ≡ true

-- the state behind a message, by its tests
abbrev pub in_state : Settings → ℕ → ClientState → Message → Bool → Bool → ClientState
in_state s at p m makes bind = elim makes [ false ↦ without (abandons m) at p | true ↦ elim bind [ true ↦ with_bind s m p | false ↦ with_request s m p ] ]

ids_behind : (s : Settings) (at : ℕ) (mark : Option Taken) (p : ClientState) (w : What) → HaveIds p → HaveIds (client_behind s at mark p w)
ids_behind s at mark p (what.In id rest) h = by (makes_operation m) (is_request_of Bind m) refl
  where
    m : Message
    m = record { id = id; rest = rest }

    new : makes_operation (record { id = id; rest = rest }) ≡ true → has_id (new_row s p (record { id = id; rest = rest })) ≡ true
    new e = left (not (id == 0)) _ (left (not (id == 0) && not (is_unbind rest)) _ e)

    by : (b d : Bool) → makes_operation (record { id = id; rest = rest }) ≡ b → HaveIds (in_state s at p (record { id = id; rest = rest }) b d)
    by false d e = all_kept has_id (λ r. not (abandons m r)) p.rows h
    by true true e = both (has_id (new_row s p m)) true (new e) refl
    by true false e = list_all-append has_id p.rows (new_row s p m ∷ []) ∙ both (list_all has_id p.rows) _ h (both (has_id (new_row s p m)) true (new e) refl)
ids_behind s at mark p (what.Out id rest) h = ap (list_all has_id) (out_left s at mark p rest id (row_under p id)) ∙ by (row_under p id)
  where
    cut : (q : ClientRow) (b : Bool) → list_all has_id (elim b [ false ↦ p.rows | true ↦ filter (λ r. not (r.k == q.k)) p.rows ]) ≡ true
    cut q false = h
    cut q true = all_kept has_id (λ r. not (r.k == q.k)) p.rows h

    by : (o : Option ClientRow) → list_all has_id (left_by id (λ r. is_final_for r.request rest) o p.rows) ≡ true
    by None = h
    by (Some q) = cut q (is_final_for q.request rest)
ids_behind s at mark p (what.Chosen op (Go u b)) h = by (row_named p op)
  where
    by : (o : Option ClientRow) → HaveIds (elim o [ None ↦ p | Some r ↦ with_connection u b p r ])
    by None = h
    by (Some r) = forwarded_all has_id r.k u p.rows (λ x v. refl) ∙ h
ids_behind s at mark p (what.Chosen op Busy) h = h
ids_behind s at mark p (what.Chosen op Unavailable) h = h
ids_behind s at mark p (what.Gone why) h = refl
ids_behind s at mark p _ h = h

pub ids_kept : (s : Settings) (p : ClientState) (m : Marked) → HaveIds p → HaveIds (step_client s p m)
ids_kept s p m h = ids_behind s m.entry.at m.mark p m.entry.what h

-- An Out under identifier 0 changes nothing of what the end gives.
none_under : (rows : List ClientRow) → list_all has_id rows ≡ true → filter (λ r. r.request.id == 0) rows ≡ []
none_under [] h = refl
none_under (r ∷ rows) h = ap (λ b. cond b (r ∷ filter (λ q. q.request.id == 0) rows) (filter (λ q. q.request.id == 0) rows)) (not_true (r.request.id == 0) (left (has_id r) _ h)) ∙ none_under rows (right (has_id r) _ h)

out_closing : (s : Settings) (at : ℕ) (p : ClientState) (rest : List ℕ) → HaveIds p → closing (record (client_behind s at None p (what.Out 0 rest)) { moment = at }) ≡ closing p
out_closing s at p rest h = ap (λ rows. closing (record (out_state_of s at None p rest (last rows)) { moment = at })) (none_under p.rows h)

-- what the end gives, by what it looks at
closing_same : (q p : ClientState) → q.number ≡ p.number → q.rows ≡ p.rows → q.hold ≡ p.hold → q.pausing ≡ p.pausing → closing q ≡ closing p
closing_same q p n r h k = λ i. closing (record q { number = n i; rows = r i; hold = h i; pausing = k i })

-- A message that no check calls an Abandon abandons no row, where it makes no operation.
abbrev is_abandoning : Check → Bool
is_abandoning (Abandons id) = true
is_abandoning _ = false

abbrev is_unbinding : Check → Bool
is_unbinding Unbinds = true
is_unbinding _ = false

and_false : (a b : Bool) → (a && b && false) ≡ false
and_false true true = refl
and_false true false = refl
and_false false b = refl

module _ (s : Settings) (p : ClientState) (m : Message) where
  abbrev checked : Bool → Bool → Option Request → Check
  checked z b o = if z then Ends ZeroId else if b && is_in_use (facts_of p) m.id then Ends IdInUse else check_request s (facts_of p) m o

  abandons_none : makes_operation m ≡ false → is_abandoning (check_at s p m) ≡ false → (r : ClientRow) → abandons m r ≡ false
  abandons_none makes k r = by (m.id == 0) (request m.rest) refl refl
    where
      by : (z : Bool) (o : Option Request) → (m.id == 0) ≡ z → request m.rest ≡ o → abandons m r ≡ false
      by true o e f = ap (λ z. not z && not (is_bind_row r) && abandons_id r.request.id (request m.rest)) e
      by false (Some (AbandonRequest i)) e f = absurd (let bad : true ≡ false = sym (ap (λ z. is_abandoning (checked z (makes_operation m) (request m.rest))) e ∙ ap (λ b. is_abandoning (checked false b (request m.rest))) makes ∙ ap (λ o. is_abandoning (checked false false o)) f) ∙ k in cc)
      by false None e f = ap (λ o. not (m.id == 0) && not (is_bind_row r) && abandons_id r.request.id o) f ∙ and_false (not (m.id == 0)) (not (is_bind_row r))
      by false (Some (BindRequest version name method)) e f = ap (λ o. not (m.id == 0) && not (is_bind_row r) && abandons_id r.request.id o) f ∙ and_false (not (m.id == 0)) (not (is_bind_row r))
      by false (Some UnbindRequest) e f = ap (λ o. not (m.id == 0) && not (is_bind_row r) && abandons_id r.request.id o) f ∙ and_false (not (m.id == 0)) (not (is_bind_row r))
      by false (Some (ExtendedRequest name)) e f = ap (λ o. not (m.id == 0) && not (is_bind_row r) && abandons_id r.request.id o) f ∙ and_false (not (m.id == 0)) (not (is_bind_row r))
      by false (Some (PlainRequest kind)) e f = ap (λ o. not (m.id == 0) && not (is_bind_row r) && abandons_id r.request.id o) f ∙ and_false (not (m.id == 0)) (not (is_bind_row r))

  rows_left : (rows : List ClientRow) → makes_operation m ≡ false → is_abandoning (check_at s p m) ≡ false → filter (λ r. not (abandons m r)) rows ≡ rows
  rows_left rows makes k = filter-all (λ r. not (abandons m r)) rows (λ r. ap not (abandons_none makes k r))

-- a row that goes to no connection has no Drop
drop_none : (p : ClientState) (r : ClientRow) → r.connection ≡ None → drop_of p r ≡ []
drop_none p r e = ap (λ o. elim (is_bind_row r) [ true ↦ [] | false ↦ elim o [ None ↦ [] | Some u ↦ to (Connection u) (Drop (name_of p r)) ] ]) e ∙ by (is_bind_row r)
  where
    none_by : Bool → List Posted
    none_by b = elim b [ true ↦ [] | false ↦ [] ]

    by : (b : Bool) → none_by b ≡ []
    by true = refl
    by false = refl

-- No check but Unbind's unbinds.
unbinds_none : (s : Settings) (p : ClientState) (m : Message) → makes_operation m ≡ true → is_unbinding (check_at s p m) ≡ false
unbinds_none s p m e = not_true (is_unbinding (check_at s p m)) (check_passes s (facts_of p) m (λ k. not (is_unbinding k)) (record {
  zero = refl;
  in_use = refl;
  unreadable = refl;
  unbinds = λ z u. absurd (let bad : true ≡ false = sym u ∙ not_true (is_unbind m.rest) (right (not (m.id == 0)) _ (left (not (m.id == 0) && not (is_unbind m.rest)) _ e)) in cc);
  abandons = λ i. refl;
  refuses = λ which. refl;
  answers = λ which. refl;
  cancels = λ i kind. refl;
  goes_on = refl;
}))

-- The end by a message.
module _ (s : Settings) (at : ℕ) (p : ClientState) (m : Message) where
  unpinned : lets_go_on (check_at s p m) ≡ false → is_pinned s p m ≡ false
  unpinned k = ap (λ b. is_request_of Bind m && (facts_of p).in_exchange && b) k ∙ and_false (is_request_of Bind m) (facts_of p).in_exchange

  -- the row of the message has no Drop
  no_drop : lets_go_on (check_at s p m) ≡ false → drop_of (with_request s m p) (new_row s p m) ≡ []
  no_drop k = drop_none (with_request s m p) (new_row s p m) (ap (λ b. elim b [ true ↦ held_connection p | false ↦ None ]) (unpinned k))

  new_bind : is_request_of Bind m ≡ true → is_bind_row (new_row s p m) ≡ true
  new_bind e = ap (λ k. passes (same_kind Bind) k) (carried_kind s m p.identity) ∙ e

  -- what the In gives of a message that ends its client, and what the end gives behind it
  in_closing : is_abandoning (check_at s p m) ≡ false → lets_go_on (check_at s p m) ≡ false → (b d : Bool) → makes_operation m ≡ b → is_request_of Bind m ≡ d → (elim (b && d) [ true ↦ drops p | false ↦ [] ]) ++ closing (in_state s at p m b d) ≡ closing p
  in_closing a g false d e f = closing_same (without (abandons m) at p) p refl (rows_left s p m p.rows e a) refl refl
  in_closing a g true true e f = ap (λ l. drops p ++ ((l ++ leave p) ++ resumes p)) (ap (λ l. l ++ []) (ap (λ b. elim b [ true ↦ [] | false ↦ elim (new_row s p m).connection [ None ↦ [] | Some u ↦ to (Connection u) (Drop (name_of p (new_row s p m))) ] ]) (new_bind f))) ∙ sym (append_assoc (drops p) (leave p) (resumes p))
  in_closing a g true false e f = ap (λ l. (l ++ leave p) ++ resumes p) (flat_map-append (drop_of (with_request s m p)) p.rows (new_row s p m ∷ []) ∙ ap (λ l. drops p ++ (l ++ [])) (no_drop g) ∙ append-nil (drops p))

-- What each turn gives.
module _ (s : Settings) (u at : ℕ) where
  refused_gives : (p : ClientState) (m : Message) (which : Refusal) → client_gives s p (map (λ x. record { entry = x; mark = None }) (entries_of (Client u) at (refused m which))) ≡ []
  refused_gives p m which = by (kind_of m.rest)
    where
      outs_of : Option OpKind → List What
      outs_of o = elim o [ None ↦ [] | Some kind ↦ what.Out m.id (refusal kind which) ∷ [] ]

      by : (o : Option OpKind) → client_gives s p (map (λ x. record { entry = x; mark = None }) (entries_of (Client u) at (outs_of o))) ≡ []
      by None = refl
      by (Some kind) = refl

  canceled_gives : (p : ClientState) (id : ℕ) (o : Option OpKind) (which : CancelAnswer) → client_gives s p (map (λ x. record { entry = x; mark = None }) (entries_of (Client u) at (canceled id o which))) ≡ []
  canceled_gives p id None which = refl
  canceled_gives p id (Some kind) which = refl

  module _ (p : ClientState) (h : HaveIds p) where
    abbrev Gives : Option Taken → List What → List Posted → Type 0
    Gives mark ws letters = client_gives s p (client_turn_of u at mark ws) ≡ letters

    -- the notice, and then the end
    notice_gives : (why : EndWhy) → Gives None (noticed why) (closing p)
    notice_gives why = append-nil (closing (step_client s p (record { entry = record { part = Client u; at = at; what = what.Out 0 protocol_error_notice }; mark = None }))) ∙ out_closing s at p protocol_error_notice h

    module _ (id : ℕ) (rest : List ℕ) where
      abbrev m : Message
      m = record { id = id; rest = rest }

      abbrev behind_in : ClientState
      behind_in = step_client s p (record { entry = record { part = Client u; at = at; what = what.In id rest }; mark = None })

      -- a message that only its In gives letters for
      alone : (k : Check) (ws : List What) → check_at s p (record { id = id; rest = rest }) ≡ k → client_gives s behind_in (map (λ x. record { entry = x; mark = None }) (entries_of (Client u) at ws)) ≡ [] → Gives None (what.In id rest ∷ ws) (message_letters s p at (record { id = id; rest = rest }) k)
      alone k ws e f = ap (λ c. message_letters s p at m c ++ client_gives s behind_in (map (λ x. record { entry = x; mark = None }) (entries_of (Client u) at ws))) e ∙ ap (λ l. message_letters s p at m k ++ l) f ∙ append-nil (message_letters s p at m k)

      end_closing : is_abandoning (check_at s p (record { id = id; rest = rest })) ≡ false → lets_go_on (check_at s p (record { id = id; rest = rest })) ≡ false → ending_letters p (record { id = id; rest = rest }) ++ closing behind_in ≡ closing p
      end_closing a g = by (makes_operation m) (is_request_of Bind m) (in_closing s at p m a g (makes_operation m) (is_request_of Bind m) refl refl)
        where
          by : (b d : Bool) → (elim (b && d) [ true ↦ drops p | false ↦ [] ]) ++ closing (in_state s at p m b d) ≡ closing p → (elim (b && d) [ true ↦ drops p | false ↦ [] ]) ++ closing (record (in_state s at p m b d) { moment = at }) ≡ closing p
          by b d k = k

      check_gives : (k : Check) → check_at s p (record { id = id; rest = rest }) ≡ k → Gives None (by_check s p at (record { id = id; rest = rest }) k).whats (letters_by s p at (record { id = id; rest = rest }) k)
      check_gives (Ends why) e = ap (λ c. message_letters s p at m c ++ client_gives s behind_in (map (λ x. record { entry = x; mark = None }) (entries_of (Client u) at (noticed why)))) e ∙ ap (λ l. ending_letters p m ++ l) (append-nil (closing (step_client s behind_in (record { entry = record { part = Client u; at = at; what = what.Out 0 protocol_error_notice }; mark = None }))) ∙ out_closing s at behind_in protocol_error_notice (ids_kept s p (record { entry = record { part = Client u; at = at; what = what.In id rest }; mark = None }) h)) ∙ end_closing (ap is_abandoning e) (ap lets_go_on e)
      check_gives Unbinds e = ap (λ c. message_letters s p at m c ++ (closing behind_in ++ [])) e ∙ append-nil (closing behind_in) ∙ unbound (makes_operation m) refl
        where
          unbound : (b : Bool) → makes_operation m ≡ b → closing behind_in ≡ closing p
          unbound true k = absurd (let bad : false ≡ true = sym (unbinds_none s p m k) ∙ ap is_unbinding e in cc)
          unbound false k = ap (λ b. (elim (b && is_request_of Bind m) [ true ↦ drops p | false ↦ [] ]) ++ closing behind_in) (sym k) ∙ end_closing (ap is_abandoning e) (ap lets_go_on e)
      check_gives (Abandons named) e = alone (Abandons named) [] e refl
      check_gives (Refuses which) e = alone (Refuses which) (refused m which) e (refused_gives behind_in m which)
      check_gives (Answers which) e = alone (Answers which) (canceled id (kind_of rest) which) e (canceled_gives behind_in id (kind_of rest) which)
      check_gives (Cancels named kind) e = alone (Cancels named kind) (what.Out named (cancel_answer kind C13) ∷ canceled id (kind_of rest) S1) e (canceled_gives (step_client s behind_in (record { entry = record { part = Client u; at = at; what = what.Out named (cancel_answer kind C13) }; mark = None })) id (kind_of rest) S1)
      check_gives GoesOn e = alone GoesOn [] e refl

      message_gives : Gives None (message s p at (record { id = id; rest = rest })).whats (message s p at (record { id = id; rest = rest })).letters
      message_gives = by (is_present p && not (is_holding s p))
        where
          state : Bool → Act
          state b = elim b [ false ↦ nothing | true ↦ by_check s p at (record { id = id; rest = rest }) (check_at s p (record { id = id; rest = rest })) ]

          by : (b : Bool) → Gives None (state b).whats (state b).letters
          by true = check_gives (check_at s p m) refl
          by false = refl

    choice_gives : (mark : Option Taken) (op : OpName) (a : Answer) → Gives mark (choice s p op a).whats (choice s p op a).letters
    choice_gives mark op a = ap (λ l. letters_for s p op (row_named p op) a ++ l) (tail (row_named p op) a) ∙ append-nil (letters_for s p op (row_named p op) a)
      where
        next : ClientState
        next = step_client s p (record { entry = record { part = Client u; at = at; what = what.Chosen op a }; mark = mark })

        tail : (o : Option ClientRow) (x : Answer) → client_gives s next (map (λ e. record { entry = e; mark = None }) (entries_of (Client u) at (whats_for o x))) ≡ []
        tail (Some r) Busy = refused_gives next r.request C1
        tail (Some r) Unavailable = refused_gives next r.request C3
        tail (Some r) (Go n b) = refl
        tail None (Go n b) = refl
        tail None Busy = refl
        tail None Unavailable = refl

    answer_gives : (mark : Option Taken) (op : OpName) (rest : List ℕ) → Gives mark (answer p op rest).whats (answer p op rest).letters
    answer_gives mark op rest = by (row_named p op)
      where
        state : Option ClientRow → Act
        state o = elim o [ None ↦ act (what.Late op ∷ []) [] | Some r ↦ act (what.Out r.request.id rest ∷ []) [] ]

        by : (o : Option ClientRow) → Gives mark (state o).whats (state o).letters
        by None = refl
        by (Some r) = refl

    failure_gives : (mark : Option Taken) (op : OpName) (which : Refusal) → Gives mark (failure p op which).whats (failure p op which).letters
    failure_gives mark op which = by (row_named p op)
      where
        state : Option ClientRow → Act
        state o = elim o [ None ↦ act (what.Late op ∷ []) [] | Some r ↦ act (refused r.request which) [] ]

        outs_of : ClientRow → Option OpKind → List What
        outs_of r o = elim o [ None ↦ [] | Some kind ↦ what.Out r.request.id (refusal kind which) ∷ [] ]

        refusals : (r : ClientRow) (o : Option OpKind) → Gives mark (outs_of r o) []
        refusals r None = refl
        refusals r (Some kind) = refl

        by : (o : Option ClientRow) → Gives mark (state o).whats (state o).letters
        by None = refl
        by (Some r) = refusals r (kind_of r.request.rest)

    letter_gives : (mark : Option Taken) (l : Letter) → Gives mark (letter s p l).whats (letter s p l).letters
    letter_gives mark (Choice op a) = choice_gives mark op a
    letter_gives mark (Reply op rest is_last who) = answer_gives mark op rest
    letter_gives mark (Failed op which) = failure_gives mark op which
    letter_gives mark _ = refl

    link_gives : (why : EndWhy) → Gives None (link_gone p why).whats (link_gone p why).letters
    link_gives Bad = notice_gives Bad
    link_gives TooBig = notice_gives TooBig
    link_gives _ = refl

    so : (b : Bool) (a : Act) (mark : Option Taken) → Gives mark a.whats a.letters → Gives mark (where_so b a).whats (where_so b a).letters
    so true a mark k = k
    so false a mark k = refl

    input_gives : (input : Input) → Gives (letter_of input) (client_act s p at input).whats (client_act s p at input).letters
    input_gives (Arrive now) = so (not p.arrived) (act (what.Arrived ∷ []) []) None refl
    input_gives (MessageIn now id rest) = message_gives id rest
    input_gives (LetterFrom now word sender l) = so p.arrived (letter s p l) (Some (record { sender = sender; letter = l })) (letter_gives (Some (record { sender = sender; letter = l })) l)
    input_gives (LinkGone now why) = so (is_present p) (link_gone p why) None (link_gives why)
    input_gives (Stall now) = so (is_present p && not p.pausing.stalled) (stalls p) None (append-nil (stall_letters p))
    input_gives (Flow now) = so (is_present p && p.pausing.stalled) (flows p) None (append-nil (resumes p))
    input_gives _ = refl

    sever_gives : (why : EndWhy) → Gives None (where_so (is_present p) (act (what.Gone why ∷ []) (closing p))).whats (where_so (is_present p) (act (what.Gone why ∷ []) (closing p))).letters
    sever_gives why = so (is_present p) (act (what.Gone why ∷ []) (closing p)) None (append-nil (closing p))

event_gives : (s : Settings) (p : ClientState) (x : Event) → HaveIds p → client_gives s p (made (client_event s) p x) ≡ (client_event s p x).letters
event_gives s p (Comes input) h = input_gives s p.number (moment_for p.moment input) p h input
event_gives s p (Severed now why) h = by (is_link_reason why)
  where
    state : Bool → Effects
    state b = elim b [ true ↦ client_sever p now why | false ↦ no_effects ]

    by : (b : Bool) → client_gives s p (marked_by None (state b).entries) ≡ (state b).letters
    by true = sever_gives s p.number (max p.moment now) p h why
    by false = refl

pub client_gives_so : ClientGives
client_gives_so s c xs = turns_give (step_client s) (λ q m. client_letters s q m.entry.at m.entry.what) HaveIds (ids_kept s) (client_event s) (event_gives s) xs (empty_client c) refl
