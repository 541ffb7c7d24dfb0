-- Each In of a client's list has directly behind it what its first check wants, whatever the list is.
use Rattle.std.proofs.Common.{◌≡◌, ℕ, max, Bool, true, false, ◌==◌, ◌&&◌, not, List, [], ◌∷◌, ◌++◌, refl, ap, ◌∙◌}
use Rattle.std.specs.Prelude.{Option, Some, None, is_some, map}
use Rattle.std.specs.List.{list_all}
use Rattle.std.proofs.lemmas.List.{map-append}
use Rattle.ldap_spec.specs.Messages.{Message}
use Rattle.ldap_spec.specs.Kinds.{kind_of}
use Rattle.ldap_spec.specs.Bodies.{refusal, cancel_answer}
use Rattle.lload_names.specs.Same.{why_number}
use Rattle.lload_names.specs.declared.names.Entry.{Entry}
use Rattle.lload_names.specs.declared.names.OpName.{OpName}
use Rattle.lload_names.specs.declared.names.OpKind.{OpKind}
use Rattle.lload_names.specs.declared.names.Answer.{Answer}
use Rattle.lload_names.specs.declared.names.Answer.TheVariants.{Go, Busy, Unavailable}
use Rattle.lload_names.specs.declared.names.CancelAnswer.{CancelAnswer}
use Rattle.lload_names.specs.declared.names.CancelAnswer.TheVariants.{C13, S1}
use Rattle.lload_names.specs.declared.names.EndWhy.{EndWhy}
use Rattle.lload_names.specs.declared.names.EndWhy.TheVariants.{Left, Bad, TooBig}
use Rattle.lload_names.specs.declared.names.Refusal.{Refusal}
use Rattle.lload_names.specs.declared.names.Refusal.TheVariants.{C1, C3}
use Rattle.lload_names.specs.declared.names.PartName.TheVariants.{Client}
use Rattle.lload_names.specs.declared.names.Letter.{Letter}
use Rattle.lload_names.specs.declared.names.Letter.TheVariants.{Choice, Reply, Failed}
use Rattle.lload_names.specs.declared.names.What.{What}
use Rattle.lload_names.specs.declared.names.What.TheVariants as what
use Rattle.lload_names.specs.declared.inputs.Input.{Input}
use Rattle.lload_names.specs.declared.inputs.Input.TheVariants.{Arrive, Message as MessageIn, LetterFrom, LinkGone, Stall, Flow}
use Rattle.lload_names.specs.declared.inputs.Effects.{Effects}
use Rattle.lload_spec.specs.Lists.{first_passes}
use Rattle.lload_spec.specs.Settings.{Settings}
use Rattle.lload_spec.specs.Entries.{in_message, is_notice, is_gone_by, is_link_reason}
use Rattle.lload_spec.specs.FirstCheck.{Check, Ends, Unbinds, Abandons, Refuses, Answers, Cancels, GoesOn}
use Rattle.lload_spec.specs.Caused.{is_followed_up, is_refusal_of, is_cancel_answer_of}
use Rattle.part_spec.specs.Marked.{Marked, Taken, entries}
use Rattle.part_spec.specs.Inputs.{Act, act, nothing, entries_of, marked_by, letter_of, moment_for}
use Rattle.part_spec.specs.ClientState.{ClientState, ClientRow, empty_client, step_client, check_at, is_present, is_holding, row_named}
use Rattle.part_spec.specs.ClientTurn.{closing, refused, canceled, noticed, whats_by, whats_for, by_check, message, answer, failure, letter, link_gone, stalls, flows, where_so, client_act, client_sever}
use Rattle.part_spec.specs.Share.{is_checked, each_place}
use Rattle.part_spec.specs.Fit.{ledger_behind as behind}
use Rattle.lload_spec.proofs.Growth.{left, right, both}
use Rattle.lload_laws.proofs.ListLaws.{bytes_same}
use Rattle.part_laws.specs.Turns.{Event, Comes, Severed, made, list_from, no_effects}
use Rattle.part_laws.proofs.ListLaws.{places_grow, first_stays, eqb_same}
use Rattle.client_laws.specs.Turns.{client_event, ClientChecks}
use Rattle.client_laws.proofs.ClientTurns.{client_turn_of}
use Rattle.client_laws.proofs.ClientClauses.{unmarked_entries}
use Rattle.client_laws.proofs.ClientKinds.{has_its_kind, answered_kind}

-- what stands behind an In is what its check wants
module _ (u at : ℕ) (m : Message) where
  pub refusal_first : (which : Refusal) (o : Option OpKind) → is_some o ≡ true → first_passes (is_refusal_of which m.id o) (entries_of (Client u) at (elim o [ None ↦ [] | Some kind ↦ what.Out m.id (refusal kind which) ∷ [] ])) ≡ true
  refusal_first which None h = absurd (let bad : false ≡ true = h in cc)
  refusal_first which (Some kind) h = both (m.id == m.id) _ (eqb_same m.id) (bytes_same (refusal kind which))

  answer_first : (which : CancelAnswer) (o : Option OpKind) → is_some o ≡ true → first_passes (is_cancel_answer_of which m.id o) (entries_of (Client u) at (canceled m.id o which)) ≡ true
  answer_first which None h = absurd (let bad : false ≡ true = h in cc)
  answer_first which (Some kind) h = both (m.id == m.id) _ (eqb_same m.id) (bytes_same (cancel_answer kind which))

  followed : (k : Check) → (has_its_kind k ≡ true → is_some (kind_of m.rest) ≡ true) → is_followed_up m (entries_of (Client u) at (whats_by m k)) k ≡ true
  followed (Ends why) f = eqb_same (why_number why)
  followed Unbinds f = refl
  followed (Abandons id) f = refl
  followed (Refuses which) f = refusal_first which (kind_of m.rest) (f refl)
  followed (Answers which) f = answer_first which (kind_of m.rest) (f refl)
  followed (Cancels id kind) f = both (is_cancel_answer_of C13 id (Some kind) (record { part = Client u; at = at; what = what.Out id (cancel_answer kind C13) })) _ (both (id == id) _ (eqb_same id) (bytes_same (cancel_answer kind C13))) (answer_first S1 (kind_of m.rest) (f refl))
  followed GoesOn f = refl

-- and stays so with more behind
pub followed_stays : (m : Message) (k : Check) (c d : List Entry) → is_followed_up m c k ≡ true → is_followed_up m (c ++ d) k ≡ true
followed_stays m (Ends why) [] d h = absurd (let bad : false ≡ true = h in cc)
followed_stays m (Ends why) (e ∷ c) d h = both (is_notice e) _ (left (is_notice e) _ h) (first_stays (is_gone_by why) c d (right (is_notice e) _ h))
followed_stays m Unbinds c d h = first_stays (is_gone_by Left) c d h
followed_stays m (Abandons id) c d h = refl
followed_stays m (Refuses which) c d h = first_stays (is_refusal_of which m.id (kind_of m.rest)) c d h
followed_stays m (Answers which) c d h = first_stays (is_cancel_answer_of which m.id (kind_of m.rest)) c d h
followed_stays m (Cancels id kind) [] d h = absurd (let bad : false ≡ true = h in cc)
followed_stays m (Cancels id kind) (e ∷ c) d h = both (is_cancel_answer_of C13 id (Some kind) e) _ (left (is_cancel_answer_of C13 id (Some kind) e) _ h) (first_stays (is_cancel_answer_of S1 m.id (kind_of m.rest)) c d (right (is_cancel_answer_of C13 id (Some kind) e) _ h))
followed_stays m GoesOn c d h = refl

checked_stays : (s : Settings) (M : List Marked) (q : ClientState) (b : List Marked) (x : Marked) (d : List Marked) → is_checked s q x d ≡ true → is_checked s q x (d ++ M) ≡ true
checked_stays s M q b x d h = by (in_message x.entry.what) h
  where
    by : (o : Option Message) → (elim o [ None ↦ true | Some m ↦ is_followed_up m (entries d) (check_at s q m) ]) ≡ true → (elim o [ None ↦ true | Some m ↦ is_followed_up m (entries (d ++ M)) (check_at s q m) ]) ≡ true
    by None k = refl
    by (Some m) k = ap (λ l. is_followed_up m l (check_at s q m)) (map-append (λ y. y.entry) d M) ∙ followed_stays m (check_at s q m) (entries d) (entries M) k

-- a refusal by a letter, by the row of its operation
abbrev failure_act : OpName → Refusal → Option ClientRow → Act
failure_act op which o = elim o [ None ↦ act (what.Late op ∷ []) [] | Some r ↦ act (refused r.request which) [] ]

abbrev answer_act : OpName → List ℕ → Option ClientRow → Act
answer_act op rest o = elim o [ None ↦ act (what.Late op ∷ []) [] | Some r ↦ act (what.Out r.request.id rest ∷ []) [] ]

-- entries that are no In
abbrev is_other : What → Bool
is_other (what.In id rest) = false
is_other _ = true

other_checked : (s : Settings) (q : ClientState) (m : Marked) (d : List Marked) (w : What) → m.entry.what ≡ w → is_other w ≡ true → is_checked s q m d ≡ true
other_checked s q m d (what.In id rest) e h = absurd (let bad : false ≡ true = h in cc)
other_checked s q m d what.Arrived e h = ap (λ v. elim (in_message v) [ None ↦ true | Some x ↦ is_followed_up x (entries d) (check_at s q x) ]) e
other_checked s q m d _ e h = ap (λ v. elim (in_message v) [ None ↦ true | Some x ↦ is_followed_up x (entries d) (check_at s q x) ]) e

module _ (s : Settings) (u at : ℕ) where
  abbrev Checked : ClientState → List Marked → List Marked → Type 0
  Checked q before ms = each_place (step_client s) (λ p b m d. is_checked s p m d) q before ms ≡ true

  others : (ws : List What) (q : ClientState) (before : List Marked) → list_all is_other ws ≡ true → Checked q before (map (λ x. record { entry = x; mark = None }) (entries_of (Client u) at ws))
  others [] q before h = refl
  others (w ∷ ws) q before h =
      let m : Marked = record { entry = record { part = Client u; at = at; what = w }; mark = None } in
      both (is_checked s q m (map (λ x. record { entry = x; mark = None }) (entries_of (Client u) at ws))) _ (other_checked s q m (map (λ x. record { entry = x; mark = None }) (entries_of (Client u) at ws)) w refl (left (is_other w) _ h)) (others ws (step_client s q m) (before ++ m ∷ []) (right (is_other w) _ h))

  turn_others : (mark : Option Taken) (ws : List What) (q : ClientState) (before : List Marked) → list_all is_other ws ≡ true → Checked q before (client_turn_of u at mark ws)
  turn_others mark [] q before h = refl
  turn_others mark (w ∷ ws) q before h =
      let m : Marked = record { entry = record { part = Client u; at = at; what = w }; mark = mark } in
      both (is_checked s q m (map (λ x. record { entry = x; mark = None }) (entries_of (Client u) at ws))) _ (other_checked s q m (map (λ x. record { entry = x; mark = None }) (entries_of (Client u) at ws)) w refl (left (is_other w) _ h)) (others ws (step_client s q m) (before ++ m ∷ []) (right (is_other w) _ h))

  refused_other : (m : Message) (which : Refusal) → list_all is_other (refused m which) ≡ true
  refused_other m which = by (kind_of m.rest)
    where
      outs_of : Option OpKind → List What
      outs_of o = elim o [ None ↦ [] | Some kind ↦ what.Out m.id (refusal kind which) ∷ [] ]

      by : (o : Option OpKind) → list_all is_other (outs_of o) ≡ true
      by None = refl
      by (Some kind) = refl

  canceled_other : (id : ℕ) (o : Option OpKind) (which : CancelAnswer) → list_all is_other (canceled id o which) ≡ true
  canceled_other id None which = refl
  canceled_other id (Some kind) which = refl

  check_other : (m : Message) (k : Check) → list_all is_other (whats_by m k) ≡ true
  check_other m (Ends why) = refl
  check_other m Unbinds = refl
  check_other m (Abandons id) = refl
  check_other m (Refuses which) = refused_other m which
  check_other m (Answers which) = canceled_other m.id (kind_of m.rest) which
  check_other m (Cancels id kind) = canceled_other m.id (kind_of m.rest) S1
  check_other m GoesOn = refl

  module _ (p : ClientState) (before : List Marked) where
    message_checked : (id : ℕ) (rest : List ℕ) → Checked p before (client_turn_of u at None (message s p at (record { id = id; rest = rest })).whats)
    message_checked id rest = by (is_present p && not (is_holding s p))
      where
        m : Message
        m = record { id = id; rest = rest }

        state : Bool → Act
        state b = elim b [ false ↦ nothing | true ↦ by_check s p at (record { id = id; rest = rest }) (check_at s p (record { id = id; rest = rest })) ]

        first : Marked
        first = record { entry = record { part = Client u; at = at; what = what.In id rest }; mark = None }

        tail : List What
        tail = whats_by (record { id = id; rest = rest }) (check_at s p (record { id = id; rest = rest }))

        by : (b : Bool) → Checked p before (client_turn_of u at None (state b).whats)
        by true = both (is_checked s p first (map (λ x. record { entry = x; mark = None }) (entries_of (Client u) at tail))) _ (ap (λ l. is_followed_up m l (check_at s p m)) (unmarked_entries (entries_of (Client u) at tail)) ∙ followed u at m (check_at s p m) (answered_kind s p m)) (others tail (step_client s p first) (before ++ first ∷ []) (check_other m (check_at s p m)))
        by false = refl

    other : (mark : Option Taken) (ws : List What) → list_all is_other ws ≡ true → Checked p before (client_turn_of u at mark ws)
    other mark ws h = turn_others mark ws p before h

    so : (b : Bool) (a : Act) (mark : Option Taken) → Checked p before (client_turn_of u at mark a.whats) → Checked p before (client_turn_of u at mark (where_so b a).whats)
    so true a mark k = k
    so false a mark k = refl

    choice_other : (o : Option ClientRow) (a : Answer) → list_all is_other (whats_for o a) ≡ true
    choice_other (Some r) Busy = refused_other r.request C1
    choice_other (Some r) Unavailable = refused_other r.request C3
    choice_other (Some r) (Go n b) = refl
    choice_other None (Go n b) = refl
    choice_other None Busy = refl
    choice_other None Unavailable = refl

    answer_other : (op : OpName) (rest : List ℕ) (o : Option ClientRow) → list_all is_other (answer_act op rest o).whats ≡ true
    answer_other op rest None = refl
    answer_other op rest (Some r) = refl

    failure_other : (op : OpName) (which : Refusal) (o : Option ClientRow) → list_all is_other (failure_act op which o).whats ≡ true
    failure_other op which None = refl
    failure_other op which (Some r) = refused_other r.request which

    letter_checked : (mark : Option Taken) (x : Letter) → Checked p before (client_turn_of u at mark (letter s p x).whats)
    letter_checked mark (Choice op a) = other mark (what.Chosen op a ∷ whats_for (row_named p op) a) (choice_other (row_named p op) a)
    letter_checked mark (Reply op rest is_last who) = other mark (answer p op rest).whats (answer_other op rest (row_named p op))
    letter_checked mark (Failed op which) = other mark (failure p op which).whats (failure_other op which (row_named p op))
    letter_checked mark _ = refl

    link_checked : (why : EndWhy) → Checked p before (client_turn_of u at None (link_gone p why).whats)
    link_checked Bad = other None (noticed Bad) refl
    link_checked TooBig = other None (noticed TooBig) refl
    link_checked _ = refl

    input_checked : (input : Input) → Checked p before (client_turn_of u at (letter_of input) (client_act s p at input).whats)
    input_checked (Arrive now) = so (not p.arrived) (act (what.Arrived ∷ []) []) None (other None (what.Arrived ∷ []) refl)
    input_checked (MessageIn now id rest) = message_checked id rest
    input_checked (LetterFrom now word sender x) = so p.arrived (letter s p x) (Some (record { sender = sender; letter = x })) (letter_checked (Some (record { sender = sender; letter = x })) x)
    input_checked (LinkGone now why) = so (is_present p) (link_gone p why) None (link_checked why)
    input_checked (Stall now) = so (is_present p && not p.pausing.stalled) (stalls p) None (other None (what.Stalled ∷ []) refl)
    input_checked (Flow now) = so (is_present p && p.pausing.stalled) (flows p) None (other None (what.Flowing ∷ []) refl)
    input_checked _ = refl

event_checked : (s : Settings) (p : ClientState) (before : List Marked) (x : Event) → each_place (step_client s) (λ q b m d. is_checked s q m d) p before (made (client_event s) p x) ≡ true
event_checked s p before (Comes input) = input_checked s p.number (moment_for p.moment input) p before input
event_checked s p before (Severed now why) = by (is_link_reason why)
  where
    state : Bool → Effects
    state b = elim b [ true ↦ client_sever p now why | false ↦ no_effects ]

    by : (b : Bool) → each_place (step_client s) (λ q c m d. is_checked s q m d) p before (marked_by None (state b).entries) ≡ true
    by true = so s p.number (max p.moment now) p before (is_present p) (act (what.Gone why ∷ []) (closing p)) None (other s p.number (max p.moment now) p before None (what.Gone why ∷ []) refl)
    by false = refl

list_checked : (s : Settings) (xs : List Event) (p : ClientState) (before : List Marked) → each_place (step_client s) (λ q b m d. is_checked s q m d) p before (list_from (step_client s) (client_event s) p xs) ≡ true
list_checked s [] p before = refl
list_checked s (x ∷ xs) p before =
    let turn : List Marked = made (client_event s) p x in
    let rest : List Marked = list_from (step_client s) (client_event s) (behind (step_client s) p turn) xs in
    places_grow (step_client s) (λ q b m d. is_checked s q m d) p before turn rest (checked_stays s rest) (event_checked s p before x) (list_checked s xs (behind (step_client s) p turn) (before ++ turn))

pub client_checks : ClientChecks
client_checks s c xs = list_checked s xs (empty_client c) []
