-- Each turn of a client, and the end of its link.
use Rattle.std.proofs.Common.{◌≡◌, ℕ, suc, ◌+◌, ◌<◌, Bool, true, false, ◌==◌, ◌&&◌, ◌||◌, not, if◌then◌else◌, List, [], ◌∷◌, Option, Some, None, refl, ap, ◌∙◌, sym, subst, inl, inr, arith, append-nil}
use Rattle.std.specs.Prelude.{filter, max}
use Rattle.std.specs.List.{list_all}
use Rattle.std.proofs.lemmas.Bool.{eqb-true, and_parts, cases_lt}
use Rattle.ldap_spec.specs.Bodies.{protocol_error_notice, refusal}
use Rattle.ldap_spec.specs.Kinds.{kind_of}
use Rattle.lload_names.specs.declared.inputs.Input.{Input}
use Rattle.lload_names.specs.declared.inputs.Input.TheVariants as input
use Rattle.lload_names.specs.declared.names.Answer.TheVariants.{Go}
use Rattle.lload_names.specs.declared.names.EndWhy.{EndWhy}
use Rattle.lload_names.specs.declared.names.EndWhy.TheVariants.{Bad, TooBig}
use Rattle.lload_names.specs.declared.names.Letter.{Letter}
use Rattle.lload_names.specs.declared.names.Letter.TheVariants as real
use Rattle.lload_names.specs.declared.names.OpKind.{OpKind}
use Rattle.lload_names.specs.declared.names.OpName.{OpName}
use Rattle.lload_names.specs.declared.names.PartName.TheVariants.{Desk, Client as ClientPart, Up as Connection}
use Rattle.lload_names.specs.declared.names.Refusal.{Refusal}
use Rattle.lload_names.specs.declared.names.What.TheVariants as what
use Rattle.lload_spec.specs.Entries.{makes_operation}
use Rattle.lload_spec.specs.Lists.{rising_once}
use Rattle.lload_spec.specs.Settings.{Settings}
use Rattle.lload_spec.proofs.Growth.{both, left, right}
use Rattle.part_laws.proofs.ListLaws.{not_true}
use Rattle.part_spec.specs.Inputs.{Act, act, letter_of, moment_for, nothing, where_so}
use Rattle.part_spec.specs.Marked.{Taken}
use Rattle.part_spec.specs.ClientState.{ClientState, ClientRow, check_at, is_holding, is_present, regular_connections, row_named}
use Rattle.part_spec.specs.ClientTurn.{answer, by_check, choice, client_act, closing, failure, flows, letter as client_letter, link_gone, message, noticed, refused, stalls}
use Rattle.part_spec.specs.Fit.{ClientLedger, Expected, going_to, step_client_ledger}
use Rattle.move_laws.specs.World.{World, Kinds, Client, ToChooser, ToClient, at, some_at, tail}
use Rattle.move_laws.specs.World as machine
use Rattle.move_laws.specs.Clients.{close_row, take_answer}
use Rattle.move_laws.specs.Counts.{num}
use Rattle.move_laws.specs.AgreeBinds.{Holds}
use Rattle.move_laws.specs.Fit.{FitAnswer}
use Rattle.move_laws.proofs.Appends.{num_le, num_true}
use Rattle.move_laws.proofs.Laws.{all_fit}
use Rattle.stands_laws.specs.Lists.{FirstIs, Pairs}
use Rattle.stands_laws.specs.Books.{Book, Has, HasMade, is_bind_op, made_by, made_from, made_where, name}
use Rattle.stands_laws.specs.Letters.{AnswerIs, AskIs, OrderIs, ChoiceIs, IsChoice, IsFailed, IsReply}
use Rattle.stands_laws.specs.ClientSides.{ClientSide, ClientMove, Answering, Choosing, Refusing, client_side}
use Rattle.stands_laws.specs.ClientStands.{kinds_of, live_upto, row_of, serves, ClientStands, ClientIs}
use Rattle.stands_laws.specs.Follows.{ClientActs, ClientEndsLaw, behind_connection, behind_desk, ClientFollows, ClientFollowsLaw, client_behind}
use Rattle.stands_laws.proofs.Rows.{live_none}
use Rattle.stands_laws.proofs.Tests.{find_kept, same_self}
use Rattle.client_moves_laws.proofs.Makes.{Makes}
use Rattle.client_moves_laws.proofs.Signals.{signals, signals_answers, signals_choices}
use Rattle.client_moves_laws.proofs.ClientAnswers.{Awaited, answer_row, failed_acts, failed_mark, reply_acts, reply_mark, some_there, taken_failed, taken_reply}
use Rattle.client_moves_laws.proofs.ClientCloses.{closes, closings, closings_quiet, kept_none, kept_out}
use Rattle.client_moves_laws.proofs.ClientLetters.{arrived_by, pauses_same, choice_made, chosen_of, choosing_moves, kind_of_choice, pause_moves, pause_to, pauses_for}
use Rattle.client_moves_laws.proofs.ClientMessages.{Moved, checked, idle}
use Rattle.client_moves_laws.proofs.ClientOuts.{out_mark}
use Rattle.client_moves_laws.proofs.ClientPauses.{acts_by, flows_acts, giver, stalls_acts}
use Rattle.client_moves_laws.proofs.ClientStays.{pauses_none}

-- Nothing.
nothing_acts : (s : Settings) (b : Book) (c at : ℕ) (mark : Option Taken) (l : ClientLedger) (y : ClientSide) → ClientIs s b c l y.row → ClientActs s b c at mark l nothing y []
nothing_acts s b c at mark l y h = record {
  is = h;
  asks = λ q p. subst (λ (r : List Letter). Pairs (AskIs b c) r y.asks) (sym (append-nil q)) p;
  orders = λ u q p. subst (λ (r : List Letter). Pairs (OrderIs s b c) r (y.orders u)) (sym (append-nil q)) p;
}

no_move : (s : Settings) (b : Book) (c at : ℕ) (l : ClientLedger) (y : ClientSide) → ClientIs s b c l y.row → Moved s b c at l nothing y
no_move s b c at l y h = record { made = []; acts = nothing_acts s b c at None l y h; choices = refl; answers = refl }

-- a rule, where it holds
so_moved : (s : Settings) (b : Book) (c at : ℕ) (l : ClientLedger) (a : Act) (y : ClientSide) (t : Bool) → ClientIs s b c l y.row → (t ≡ true → Moved s b c at l a y) → Moved s b c at l (where_so t a) y
so_moved s b c at l a y true h f = f refl
so_moved s b c at l a y false h f = no_move s b c at l y h

-- It arrives.
arrives_stands : (s : Settings) (b : Book) (c at : ℕ) (l : ClientLedger) (x : Client) → ClientStands s b c l x → l.state.arrived ≡ false → l.state.count ≡ 0
    → ClientStands s b c (record { state = record l.state { moment = at; arrived = true }; expected = filter (λ (y : Expected). true) l.expected }) (record x { next = x.next + 1 })
arrives_stands s b c at l x h away none =
    let zero : x.next ≡ 0 = h.next ∙ ap (λ (t : Bool). if t then suc l.state.count else 0) away in
    record {
      number = h.number;
      next = (let one : x.next + 1 ≡ 1 = omega arith in one) ∙ ap suc (sym none);
      gone = h.gone;
      rows = h.rows ∙ (ap (live_upto x.live (row_of b c x)) zero ∙ sym (live_none x.live (row_of b c x) (x.next + 1) (λ k _. dead zero k)));
      hold = h.hold;
      exchange = h.exchange;
      left = h.left;
      dead = h.dead;
      quiet = h.quiet;
      bound = h.bound;
      busy = h.busy;
      one = h.one;
      below = λ k live. absurd (let bad : true ≡ false = sym live ∙ dead zero k in cc);
      ids = h.ids;
      kinds = h.kinds;
      asked = h.asked;
      expected = λ k u. find_kept _ (λ (y : Expected). true) l.expected (λ y _. refl) ∙ h.expected k u;
    }
  where
    dead : x.next ≡ 0 → (k : ℕ) → x.live k ≡ false
    dead z k = go (x.live k) refl
      where
        go : (t : Bool) → x.live k ≡ t → t ≡ false
        go false e = refl
        go true e = let l = h.below k e in absurd (omega arith)

arrives : (s : Settings) (b : Book) (c at : ℕ) (l : ClientLedger) (y : ClientSide) → ClientIs s b c l y.row → not l.state.arrived ≡ true → Moved s b c at l (act (what.Arrived ∷ []) []) y
arrives s b c at l y h away =
    let absent = not_true l.state.arrived away in
    record {
      made = Refusing ∷ [];
      acts = record {
        is = record {
          stands = arrives_stands s b c at l y.row h.stands absent (h.waits absent);
          heads = h.heads;
          pauses = pauses_same s l.state.pausing y.row (record y.row { next = y.row.next + 1 }) refl h.pauses;
          waits = λ e. absurd (cc);
        };
        asks = λ q p. subst (λ (r : List Letter). Pairs (AskIs b c) r y.asks) (sym (append-nil q)) p;
        orders = λ u q p. subst (λ (r : List Letter). Pairs (OrderIs s b c) r (y.orders u)) (sym (append-nil q)) p;
      };
      choices = refl;
      answers = refl;
    }

-- The end.
present : (p : ClientState) → is_present p ≡ true → (p.arrived ≡ true) × (p.gone ≡ false)
present p e = let q = and_parts p.arrived (not p.gone) e in (q.0, not_true p.gone q.1)

gone_by : (s : Settings) (b : Book) (c at : ℕ) (why : EndWhy) (l : ClientLedger) (y : ClientSide) → ClientIs s b c l y.row → l.state.arrived ≡ true → Moved s b c at l (act (what.Gone why ∷ []) (closing l.state)) y
gone_by s b c at why l y h arrived = record {
  made = closings false y.row.next l.state.pausing.paused;
  acts = closes s b c at why false l l (what.Gone why ∷ []) y h arrived (kept_none l) refl;
  choices = (closings_quiet s b c false y.row.next l.state.pausing.paused y).0;
  answers = (closings_quiet s b c false y.row.next l.state.pausing.paused y).1;
}

noticed_by : (s : Settings) (b : Book) (c at : ℕ) (why : EndWhy) (l : ClientLedger) (y : ClientSide) → ClientIs s b c l y.row → l.state.arrived ≡ true → Moved s b c at l (act (noticed why) (closing l.state)) y
noticed_by s b c at why l y h arrived = record {
  made = closings false y.row.next l.state.pausing.paused;
  acts = closes s b c at why false l (step_client_ledger s l (out_mark (ClientPart l.state.number) at 0 protocol_error_notice None)) (noticed why) y h arrived (kept_out s (ClientPart l.state.number) at 0 protocol_error_notice l) refl;
  choices = (closings_quiet s b c false y.row.next l.state.pausing.paused y).0;
  answers = (closings_quiet s b c false y.row.next l.state.pausing.paused y).1;
}

link_ends : (s : Settings) (b : Book) (c at : ℕ) (why : EndWhy) (l : ClientLedger) (y : ClientSide) → ClientIs s b c l y.row → l.state.arrived ≡ true → Moved s b c at l (link_gone l.state why) y
link_ends s b c at Bad l y h arrived = noticed_by s b c at Bad l y h arrived
link_ends s b c at TooBig l y h arrived = noticed_by s b c at TooBig l y h arrived
link_ends s b c at _ l y h arrived = no_move s b c at l y h

-- A message.
takes_message : (s : Settings) (b : Book) (w : World) (c at now id : ℕ) (rest : List ℕ) (l : ClientLedger) → Holds (kinds_of s b) w → ClientIs s b c l (w.clients c) → Has b (made_from s c l.state (input.Message now id rest)) → Moved s b c at l (message s l.state at (record { id = id; rest = rest })) (client_side w c)
takes_message s b w c at now id rest l holds h has = go (is_present l.state && not (is_holding s l.state)) refl
  where
    act_by : Bool → Act
    act_by t = elim t [ false ↦ nothing | true ↦ by_check s l.state at (record { id = id; rest = rest }) (check_at s l.state (record { id = id; rest = rest })) ]

    made : (is_present l.state && not (is_holding s l.state)) ≡ true → makes_operation (record { id = id; rest = rest }) ≡ true → HasMade b (made_by s c l.state (record { id = id; rest = rest }))
    made e f = subst (λ (t : Bool). Has b (made_where t (made_by s c l.state (record { id = id; rest = rest })))) (both (is_present l.state && not (is_holding s l.state)) (makes_operation (record { id = id; rest = rest })) e f) has

    go : (t : Bool) → (is_present l.state && not (is_holding s l.state)) ≡ t → Moved s b c at l (message s l.state at (record { id = id; rest = rest })) (client_side w c)
    go false e = subst (λ (a : Act). Moved s b c at l a (client_side w c)) (sym (ap act_by e)) (no_move s b c at l (client_side w c) h)
    go true e =
        let p = present l.state (left (is_present l.state) _ e) in
        let here : (w.clients c).gone ≡ false = h.stands.gone ∙ p.1 in
        let rests = idle s b c l (w.clients c) h.stands (not_true (is_holding s l.state) (right (is_present l.state) _ e)) in
        subst (λ (a : Act). Moved s b c at l a (client_side w c)) (sym (ap act_by e)) (checked s b w c at id rest l holds h p.0 here rests (made e) (check_at s l.state (record { id = id; rest = rest })) refl)

-- An answer.
pub awaited : (s : Settings) (b : Book) (w : World) (c k u : ℕ) (l : ClientLedger) → Holds (kinds_of s b) w → ClientStands s b c l (w.clients c) → at ((w.clients c).given k) u ≡ true → (w.clients c).closed k u ≡ false → Awaited b c k u (w.clients c)
awaited s b w c k u l holds h given closed =
    let x = w.clients c in
    let a = holds.asking c k in
    let sent : num (some_at (x.given k)) ≡ 1 = ap num (some_there (x.given k) u given) in
    let below : k < x.next = elim (cases_lt k x.next) [ inl l ↦ l | inr l ↦ let z = a.fresh l in absurd (omega arith) ] in
    record { given = given; closed = closed; below = below; idle = λ bind dead. idle_by bind dead }
  where
    idle_by : is_bind_op b c k ≡ true → (w.clients c).live k ≡ false → ((w.clients c).busy ≡ false) × ((w.clients c).hold ≡ None)
    idle_by bind dead =
        let last = holds.last c k u bind in
        let going = last.going in
        let one : num (at ((w.clients c).given k) u) ≡ 1 = ap num given in
        let none : num ((w.clients c).closed k u) ≡ 0 = ap num closed in
        let on : ((k == (w.clients c).current) && ((w.clients c).busy || (w.clients c).gone)) ≡ true = num_true _ (omega (arith, num_le ((k == (w.clients c).current) && ((w.clients c).busy || (w.clients c).gone)))) in
        let p = and_parts (k == (w.clients c).current) ((w.clients c).busy || (w.clients c).gone) on in
        let current : k ≡ (w.clients c).current = eqb-true k (w.clients c).current p.0 in
        let quiet : (w.clients c).busy ≡ false = h.busy ∙ ap (λ (t : Bool). t && is_bind_op b c (w.clients c).current) (ap (w.clients c).live (sym current) ∙ dead) in
        (quiet, h.left (sym (ap (λ (t : Bool). t || (w.clients c).gone) quiet) ∙ p.1))

answer_same : (last t stay : Bool) (k u : ℕ) (x : Client) → ((answer_row last t stay k u x).asked ≡ x.asked) × ((answer_row last t stay k u x).paused ≡ x.paused)
answer_same true t stay k u x = (refl, refl)
answer_same false t stay k u x = (refl, refl)

answer_quiet : (p : ClientState) (op : OpName) (rest : List ℕ) → list_all pauses_none (answer p op rest).whats ≡ true
answer_quiet p op rest = go (row_named p op)
  where
    go : (o : Option ClientRow) → list_all pauses_none (Act.whats (elim o [ None ↦ act (what.Late op ∷ []) [] | Some r ↦ act (what.Out r.request.id rest ∷ []) [] ])) ≡ true
    go None = refl
    go (Some r) = refl

failure_quiet : (p : ClientState) (op : OpName) (which : Refusal) → list_all pauses_none (failure p op which).whats ≡ true
failure_quiet p op which = go (row_named p op)
  where
    kinds : (r : ClientRow) (o : Option OpKind) → list_all pauses_none (elim o [ None ↦ [] | Some k ↦ what.Out r.request.id (refusal k which) ∷ [] ]) ≡ true
    kinds r None = refl
    kinds r (Some k) = refl

    go : (o : Option ClientRow) → list_all pauses_none (Act.whats (elim o [ None ↦ act (what.Late op ∷ []) [] | Some r ↦ act (refused r.request which) [] ])) ≡ true
    go None = refl
    go (Some r) = kinds r (kind_of r.request.rest)

silent_answer : (p : ClientState) (op : OpName) (rest : List ℕ) → answer p op rest ≡ act (answer p op rest).whats []
silent_answer p op rest = go (row_named p op)
  where
    by : Option ClientRow → Act
    by o = elim o [ None ↦ act (what.Late op ∷ []) [] | Some r ↦ act (what.Out r.request.id rest ∷ []) [] ]

    go : (o : Option ClientRow) → by o ≡ act (by o).whats []
    go None = refl
    go (Some r) = refl

silent_failure : (p : ClientState) (op : OpName) (which : Refusal) → failure p op which ≡ act (failure p op which).whats []
silent_failure p op which = go (row_named p op)
  where
    by : Option ClientRow → Act
    by o = elim o [ None ↦ act (what.Late op ∷ []) [] | Some r ↦ act (refused r.request which) [] ]

    go : (o : Option ClientRow) → by o ≡ act (by o).whats []
    go None = refl
    go (Some r) = refl

-- what a client takes from a connection
module _ (s : Settings) (b : Book) (w : World) (c u : ℕ) (l : ClientLedger) (holds : Holds (kinds_of s b) w) (h : ClientIs s b c l (w.clients c)) where
  abbrev Answered : ℕ → Letter → Type 0
  Answered now letter = ClientActs s b c now (Some (record { sender = Connection u; letter = letter })) l (client_letter s l.state letter) (client_side w c) (Answering u ∷ [])

  reply_taken : (now k : ℕ) (last stay : Bool) (ls : List ToClient) (letter : Letter) → w.to_client c u ≡ machine.Reply k last stay ∷ ls → IsReply s b c k last stay letter → Answered now letter
  reply_taken now k last stay ls letter e i =
      let f : FitAnswer u (w.clients c) (machine.Reply k last stay ∷ ls) = subst (FitAnswer u (w.clients c)) e ((all_fit (kinds_of s b) w holds).answer c u) in
      let a = awaited s b w c k u l holds h.stands f.0 f.1 in
      let row : take_answer (is_bind_op b c) u (w.to_client c u) (w.clients c) ≡ answer_row last (is_bind_op b c k) stay k u (w.clients c) = taken_reply (is_bind_op b c) k u last stay (w.clients c) (w.to_client c u) ls e in
      let same = answer_same last (is_bind_op b c k) stay k u (w.clients c) in
      subst (Answered now) (sym i.is)
      (subst (λ (z : Act). ClientActs s b c now (reply_mark u c k i.rest last i.who) l z (client_side w c) (Answering u ∷ [])) (sym (silent_answer l.state (name c k) i.rest)) (acts_by s b c now (reply_mark u c k i.rest last i.who) l (answer l.state (name c k) i.rest).whats [] (client_side w c) (Answering u ∷ []) h (arrived_by s b c k l (w.clients c) h.stands a.below) (answer_quiet l.state (name c k) i.rest)
      (subst (λ (z : Act). Makes s b c now (reply_mark u c k i.rest last i.who) l z (client_side w c) (Answering u ∷ [])) (silent_answer l.state (name c k) i.rest)
      (reply_acts s b c k u now i.rest last stay i.who l (w.clients c) (w.to_desk c) (λ v. w.to_conn c v) (w.choices c) (λ v. w.to_client c v) ls h.stands a e i.answers i.stays))
      (λ j q. h.heads j (sym (ap (λ (z : Client). z.asked j) row ∙ ap (λ (g : ℕ → Bool). g j) same.0) ∙ q)) (ap (λ (z : Client). z.paused) row ∙ same.1)))

  failed_taken : (now k : ℕ) (ls : List ToClient) (letter : Letter) → w.to_client c u ≡ machine.Failed k ∷ ls → IsFailed s b c k letter → Answered now letter
  failed_taken now k ls letter e i =
      let f : FitAnswer u (w.clients c) (machine.Failed k ∷ ls) = subst (FitAnswer u (w.clients c)) e ((all_fit (kinds_of s b) w holds).answer c u) in
      let a = awaited s b w c k u l holds h.stands f.0 f.1 in
      let row : take_answer (is_bind_op b c) u (w.to_client c u) (w.clients c) ≡ close_row (is_bind_op b c k) false k u (w.clients c) = taken_failed (is_bind_op b c) k u (w.clients c) (w.to_client c u) ls e in
      subst (Answered now) (sym i.is)
      (subst (λ (z : Act). ClientActs s b c now (failed_mark u c k i.which) l z (client_side w c) (Answering u ∷ [])) (sym (silent_failure l.state (name c k) i.which)) (acts_by s b c now (failed_mark u c k i.which) l (failure l.state (name c k) i.which).whats [] (client_side w c) (Answering u ∷ []) h (arrived_by s b c k l (w.clients c) h.stands a.below) (failure_quiet l.state (name c k) i.which)
      (subst (λ (z : Act). Makes s b c now (failed_mark u c k i.which) l z (client_side w c) (Answering u ∷ [])) (silent_failure l.state (name c k) i.which)
      (failed_acts s b c k u now i.which l (w.clients c) (w.to_desk c) (λ v. w.to_conn c v) (w.choices c) (λ v. w.to_client c v) ls h.stands a e))
      (λ j q. h.heads j (sym (ap (λ (z : Client). z.asked j) row) ∙ q)) (ap (λ (z : Client). z.paused) row)))

  answer_taken : (now : ℕ) (letter : Letter) (q : List ToClient) → w.to_client c u ≡ q → FirstIs (AnswerIs s b c) letter q → Answered now letter
  answer_taken now letter [] e i = absurd i
  answer_taken now letter (machine.Reply k last stay ∷ ls) e i = reply_taken now k last stay ls letter e i
  answer_taken now letter (machine.Failed k ∷ ls) e i = failed_taken now k ls letter e i

-- A choice.
choice_taken : (s : Settings) (b : Book) (w : World) (c now k : ℕ) (o : Option ℕ) (ls : List ToChooser) (l : ClientLedger) (letter : Letter) → Holds (kinds_of s b) w → ClientIs s b c l (w.clients c) → w.choices c ≡ machine.Choice k o ∷ ls → (i : IsChoice s b c k o letter)
    → ClientActs s b c now (Some (record { sender = Desk; letter = letter })) l (client_letter s l.state letter) (client_side w c) (choosing_moves l.state k (row_named l.state (name c k)) i.answer)
choice_taken s b w c now k o ls l letter holds h e i =
    let f = chosen_of (kinds_of s b) w c k o ls holds e in
    let to : w.choices c ≡ machine.Choice k (going_to i.answer) ∷ ls = e ∙ ap (λ (q : Option ℕ). machine.Choice k q ∷ ls) (sym i.going) in
    let kind : (u n : ℕ) → i.answer ≡ Go u n → serves s u ≡ is_bind_op b c k = λ u n g. kind_of_choice s b w c k u o ls holds e (ap (λ (q : Option ℕ). at q u) (sym i.going ∙ ap going_to g) ∙ same_self u) in
    subst (λ (z : Letter). ClientActs s b c now (Some (record { sender = Desk; letter = z })) l (client_letter s l.state z) (client_side w c) (choosing_moves l.state k (row_named l.state (name c k)) i.answer)) (sym i.is)
    (subst (λ (q : List ToChooser). ClientActs s b c now (Some (record { sender = Desk; letter = real.Choice (name c k) i.answer })) l (choice s l.state (name c k) i.answer) (record { row = w.clients c; asks = w.to_desk c; orders = λ u. w.to_conn c u; choices = q; answers = λ u. w.to_client c u }) (choosing_moves l.state k (row_named l.state (name c k)) i.answer)) (sym to)
    (choice_made s b c k now l (w.clients c) (w.to_desk c) (λ u. w.to_conn c u) ls (λ u. w.to_client c u) h f.0 f.1 i.answer kind))

choosing_quiet : (s : Settings) (b : Book) (c k u : ℕ) (t : Bool) (y : ClientSide) → ((client_behind s b c y (Choosing ∷ pause_moves t k u)).choices ≡ tail y.choices) × ((client_behind s b c y (Choosing ∷ pause_moves t k u)).answers ≡ y.answers)
choosing_quiet s b c k u true y = (refl, refl)
choosing_quiet s b c k u false y = (refl, refl)

-- Each input.
at_part : (s : Settings) (b : Book) (c : ℕ) (i : Input) (l : ClientLedger) (y : ClientSide) → letter_of i ≡ None → behind_desk i y.choices ≡ y.choices → ((u : ℕ) → behind_connection u i (y.answers u) ≡ y.answers u) → Moved s b c (moment_for l.state.moment i) l (client_act s l.state (moment_for l.state.moment i) i) y → ClientFollows s b c i l y
at_part s b c i l y none desk conn m = record {
  made = m.made;
  acts = subst (λ (mark : Option Taken). ClientActs s b c (moment_for l.state.moment i) mark l (client_act s l.state (moment_for l.state.moment i) i) y m.made) (sym none) m.acts;
  choices = m.choices ∙ sym desk;
  answers = λ u. ap (λ (f : ℕ → List ToClient). f u) m.answers ∙ sym (conn u);
}

letter_so : (s : Settings) (b : Book) (c at : ℕ) (mark : Option Taken) (l : ClientLedger) (a : Act) (y : ClientSide) (ms : List ClientMove) → l.state.arrived ≡ true → ClientActs s b c at mark l a y ms → ClientActs s b c at mark l (where_so l.state.arrived a) y ms
letter_so s b c at mark l a y ms e h = subst (λ (t : Bool). ClientActs s b c at mark l (where_so t a) y ms) (sym e) h

takes_choice : (s : Settings) (b : Book) (w : World) (c now word : ℕ) (letter : Letter) (l : ClientLedger) → Holds (kinds_of s b) w → ClientIs s b c l (w.clients c) → (q : List ToChooser) → w.choices c ≡ q → FirstIs (ChoiceIs s b c) letter q → ClientFollows s b c (input.LetterFrom now word Desk letter) l (client_side w c)
takes_choice s b w c now word letter l holds h [] e i = absurd i
takes_choice s b w c now word letter l holds h (machine.Choice k o ∷ ls) e i =
    let t = pauses_for l.state (row_named l.state (name c k)) i.answer in
    let u = pause_to i.answer in
    let quiet = choosing_quiet s b c k u t (client_side w c) in
    let f = chosen_of (kinds_of s b) w c k o ls holds e in
    record {
      made = choosing_moves l.state k (row_named l.state (name c k)) i.answer;
      acts = letter_so s b c (max l.state.moment now) (Some (record { sender = Desk; letter = letter })) l (client_letter s l.state letter) (client_side w c) (choosing_moves l.state k (row_named l.state (name c k)) i.answer) (arrived_by s b c k l (w.clients c) h.stands f.1) (choice_taken s b w c (max l.state.moment now) k o ls l letter holds h e i);
      choices = quiet.0;
      answers = λ v. ap (λ (g : ℕ → List ToClient). g v) quiet.1;
    }

takes_answer : (s : Settings) (b : Book) (w : World) (c now word u : ℕ) (letter : Letter) (l : ClientLedger) → Holds (kinds_of s b) w → ClientIs s b c l (w.clients c) → FirstIs (AnswerIs s b c) letter (w.to_client c u) → ClientFollows s b c (input.LetterFrom now word (Connection u) letter) l (client_side w c)
takes_answer s b w c now word u letter l holds h i = record {
  made = Answering u ∷ [];
  acts = letter_so s b c (max l.state.moment now) (Some (record { sender = Connection u; letter = letter })) l (client_letter s l.state letter) (client_side w c) (Answering u ∷ []) (there (w.to_client c u) refl i) (answer_taken s b w c u l holds h (max l.state.moment now) letter (w.to_client c u) refl i);
  choices = refl;
  answers = λ v. refl;
}
  where
    by : (k : ℕ) → at ((w.clients c).given k) u ≡ true → (w.clients c).closed k u ≡ false → l.state.arrived ≡ true
    by k g d = arrived_by s b c k l (w.clients c) h.stands (awaited s b w c k u l holds h.stands g d).below

    there : (q : List ToClient) → w.to_client c u ≡ q → FirstIs (AnswerIs s b c) letter q → l.state.arrived ≡ true
    there [] e i = absurd i
    there (machine.Reply k last stay ∷ ls) e i = let f : FitAnswer u (w.clients c) (machine.Reply k last stay ∷ ls) = subst (FitAnswer u (w.clients c)) e ((all_fit (kinds_of s b) w holds).answer c u) in by k f.0 f.1
    there (machine.Failed k ∷ ls) e i = let f : FitAnswer u (w.clients c) (machine.Failed k ∷ ls) = subst (FitAnswer u (w.clients c)) e ((all_fit (kinds_of s b) w holds).answer c u) in by k f.0 f.1

stalled : (s : Settings) (b : Book) (w : World) (c at : ℕ) (l : ClientLedger) → Holds (kinds_of s b) w → ClientIs s b c l (w.clients c) → (is_present l.state && not l.state.pausing.stalled) ≡ true → Moved s b c at l (stalls l.state) (client_side w c)
stalled s b w c at l holds h e =
    let p = and_parts (is_present l.state) (not l.state.pausing.stalled) e in
    let us = rising_once (regular_connections l.state) in
    record {
      made = signals (giver l.state) us;
      acts = stalls_acts s b w c at l holds h (present l.state p.0).0 (not_true l.state.pausing.stalled p.1);
      choices = signals_choices s b c (giver l.state) false us (client_side w c);
      answers = signals_answers s b c (giver l.state) false us (client_side w c);
    }

flowing : (s : Settings) (b : Book) (c at : ℕ) (l : ClientLedger) (y : ClientSide) → ClientIs s b c l y.row → (is_present l.state && l.state.pausing.stalled) ≡ true → Moved s b c at l (flows l.state) y
flowing s b c at l y h e =
    let us = l.state.pausing.paused in
    record {
      made = signals (λ _. 0) us;
      acts = flows_acts s b c at l y h (present l.state (left (is_present l.state) _ e)).0;
      choices = signals_choices s b c (λ _. 0) true us y;
      answers = signals_answers s b c (λ _. 0) true us y;
    }

pub client_follows : ClientFollowsLaw
client_follows s b w c l (input.Arrive now) holds h has i = at_part s b c (input.Arrive now) l (client_side w c) refl refl (λ u. refl) (so_moved s b c (max l.state.moment now) l (act (what.Arrived ∷ []) []) (client_side w c) (not l.state.arrived) h (arrives s b c (max l.state.moment now) l (client_side w c) h))
client_follows s b w c l (input.LinkUp now) holds h has i = at_part s b c (input.LinkUp now) l (client_side w c) refl refl (λ u. refl) (no_move s b c (max l.state.moment now) l (client_side w c) h)
client_follows s b w c l (input.Message now id rest) holds h has i = at_part s b c (input.Message now id rest) l (client_side w c) refl refl (λ u. refl) (takes_message s b w c (max l.state.moment now) now id rest l holds h has)
client_follows s b w c l (input.LetterFrom now word Desk letter) holds h has i = takes_choice s b w c now word letter l holds h (w.choices c) refl i
client_follows s b w c l (input.LetterFrom now word (ClientPart a) letter) holds h has i = absurd i
client_follows s b w c l (input.LetterFrom now word (Connection u) letter) holds h has i = takes_answer s b w c now word u letter l holds h i
client_follows s b w c l (input.Tick now) holds h has i = at_part s b c (input.Tick now) l (client_side w c) refl refl (λ u. refl) (no_move s b c (max l.state.moment now) l (client_side w c) h)
client_follows s b w c l (input.LinkGone now why) holds h has i = at_part s b c (input.LinkGone now why) l (client_side w c) refl refl (λ u. refl) (so_moved s b c (max l.state.moment now) l (link_gone l.state why) (client_side w c) (is_present l.state) h (λ e. link_ends s b c (max l.state.moment now) why l (client_side w c) h (present l.state e).0))
client_follows s b w c l (input.Stall now) holds h has i = at_part s b c (input.Stall now) l (client_side w c) refl refl (λ u. refl) (so_moved s b c (max l.state.moment now) l (stalls l.state) (client_side w c) (is_present l.state && not l.state.pausing.stalled) h (stalled s b w c (max l.state.moment now) l holds h))
client_follows s b w c l (input.Flow now) holds h has i = at_part s b c (input.Flow now) l (client_side w c) refl refl (λ u. refl) (so_moved s b c (max l.state.moment now) l (flows l.state) (client_side w c) (is_present l.state && l.state.pausing.stalled) h (flowing s b c (max l.state.moment now) l (client_side w c) h))
client_follows s b w c l (input.Reload now plan base) holds h has i = at_part s b c (input.Reload now plan base) l (client_side w c) refl refl (λ u. refl) (no_move s b c (max l.state.moment now) l (client_side w c) h)

pub client_ends : ClientEndsLaw
client_ends s b w c now why l holds h =
    let m = so_moved s b c (max l.state.moment now) l (act (what.Gone why ∷ []) (closing l.state)) (client_side w c) (is_present l.state) h (λ e. gone_by s b c (max l.state.moment now) why l (client_side w c) h (present l.state e).0) in
    record { made = m.made; acts = m.acts; choices = m.choices; answers = λ u. ap (λ (f : ℕ → List ToClient). f u) m.answers }
