-- Each entry of a client's list is the mark of the letter that its turn took, and of no other, whatever the list is.
use Rattle.std.proofs.Common.{◌≡◌, ℕ, max, Bool, true, false, ◌==◌, ◌&&◌, not, List, [], ◌∷◌, refl, ap, ◌∙◌, sym, subst}
use Rattle.std.specs.Prelude.{Option, Some, None, is_none, map}
use Rattle.std.specs.Str.{bytes_eq}
use Rattle.ldap_spec.specs.Kinds.{kind_of}
use Rattle.ldap_spec.specs.Bodies.{refusal}
use Rattle.lload_names.specs.declared.names.OpName.{OpName}
use Rattle.lload_names.specs.declared.names.OpKind.{OpKind}
use Rattle.lload_names.specs.declared.names.Answer.{Answer}
use Rattle.lload_names.specs.declared.names.EndWhy.{EndWhy}
use Rattle.lload_names.specs.declared.names.EndWhy.TheVariants.{Bad, TooBig}
use Rattle.lload_names.specs.declared.names.Refusal.{Refusal}
use Rattle.lload_names.specs.declared.names.PartName.{PartName}
use Rattle.lload_names.specs.declared.names.PartName.TheVariants.{Client}
use Rattle.lload_names.specs.declared.names.Letter.{Letter}
use Rattle.lload_names.specs.declared.names.Letter.TheVariants.{Choice, Reply, Failed}
use Rattle.lload_names.specs.declared.names.What.{What}
use Rattle.lload_names.specs.declared.names.What.TheVariants as what
use Rattle.lload_names.specs.declared.inputs.Input.{Input}
use Rattle.lload_names.specs.declared.inputs.Input.TheVariants.{Arrive, Message as MessageIn, LetterFrom, LinkGone, Stall, Flow}
use Rattle.lload_names.specs.declared.inputs.Effects.{Effects}
use Rattle.lload_spec.specs.Lists.{passes}
use Rattle.lload_spec.specs.Settings.{Settings}
use Rattle.lload_spec.specs.Journal.{same_op, same_answer}
use Rattle.lload_spec.specs.Entries.{is_link_reason}
use Rattle.part_spec.specs.Marked.{Marked, Taken}
use Rattle.part_spec.specs.Inputs.{Act, act, nothing, entries_of, marked_by, letter_of, moment_for}
use Rattle.part_spec.specs.ClientState.{ClientState, ClientRow, empty_client, step_client, check_at, is_present, is_holding, row_named}
use Rattle.part_spec.specs.ClientTurn.{closing, refused, whats_by, whats_for, by_check, message, choice, answer, failure, letter, link_gone, stalls, flows, where_so, client_act, client_sever}
use Rattle.part_spec.specs.Marks.{UnderWay, step_under_way, has_client_mark, is_answer_to, is_refusal_of, each_from}
use Rattle.part_spec.specs.Fit.{ledger_behind as behind}
use Rattle.lload_spec.proofs.Growth.{both}
use Rattle.lload_laws.proofs.ListLaws.{bytes_same}
use Rattle.part_laws.specs.Turns.{Event, Comes, Severed, made, list_from, no_effects}
use Rattle.part_laws.proofs.ListLaws.{froms_grow, same_op_refl, eqb_same}
use Rattle.part_laws.proofs.Same.{same_answer_refl}
use Rattle.client_laws.specs.Turns.{client_event, ClientMarks}
use Rattle.client_laws.proofs.ClientTurns.{client_turn_of}

-- a client's state between turns: nothing is due
abbrev idle : ClientState → UnderWay
idle p = record { state = p; due = [] }

-- a list whose entries have right marks, and behind which nothing is due
record Marks (s : Settings) (u : UnderWay) (ms : List Marked) : Type 0 where
  right : each_from (step_under_way s) has_client_mark u ms ≡ true
  rest : behind (step_under_way s) u ms ≡ idle (behind (step_client s) u.state ms)

module _ (s : Settings) (u at : ℕ) where
  -- what is due, and comes without a mark
  due_marked : (p : ClientState) (ws : List What) → Marks s (record { state = p; due = ws }) (map (λ x. record { entry = x; mark = None }) (entries_of (Client u) at ws))
  due_marked p [] = record { right = refl; rest = refl }
  due_marked p (w ∷ ws) =
      let more = due_marked (step_client s p (record { entry = record { part = Client u; at = at; what = w }; mark = None })) ws in
      record { right = more.right; rest = more.rest }

  module _ (p : ClientState) where
    abbrev MarksOf : Option Taken → List What → Type 0
    MarksOf mark ws = Marks s (idle p) (client_turn_of u at mark ws)

    nothing_marked : (mark : Option Taken) → MarksOf mark []
    nothing_marked mark = record { right = refl; rest = refl }

    so : (b : Bool) (a : Act) (mark : Option Taken) → MarksOf mark a.whats → MarksOf mark (where_so b a).whats
    so true a mark k = k
    so false a mark k = nothing_marked mark

    message_marked : (id : ℕ) (rest : List ℕ) → MarksOf None (message s p at (record { id = id; rest = rest })).whats
    message_marked id rest = by (is_present p && not (is_holding s p))
      where
        state : Bool → Act
        state b = elim b [ false ↦ nothing | true ↦ by_check s p at (record { id = id; rest = rest }) (check_at s p (record { id = id; rest = rest })) ]

        by : (b : Bool) → MarksOf None (state b).whats
        by true =
            let due = due_marked (step_client s p (record { entry = record { part = Client u; at = at; what = what.In id rest }; mark = None })) (whats_by (record { id = id; rest = rest }) (check_at s p (record { id = id; rest = rest }))) in
            record { right = due.right; rest = due.rest }
        by false = nothing_marked None

    choice_marked : (sender : PartName) (op : OpName) (a : Answer) → MarksOf (Some (record { sender = sender; letter = Choice op a })) (choice s p op a).whats
    choice_marked sender op a =
        let mark : Option Taken = Some (record { sender = sender; letter = Choice op a }) in
        let due = due_marked (step_client s p (record { entry = record { part = Client u; at = at; what = what.Chosen op a }; mark = mark })) (whats_for (row_named p op) a) in
        record { right = both (same_op op op && same_answer a a) _ (both (same_op op op) _ (same_op_refl op) (same_answer_refl a)) due.right; rest = due.rest }

    answer_marked : (sender : PartName) (op : OpName) (rest : List ℕ) (is_last : Bool) (who : Option (List ℕ)) → MarksOf (Some (record { sender = sender; letter = Reply op rest is_last who })) (answer p op rest).whats
    answer_marked sender op rest is_last who = by (row_named p op) refl
      where
        mark : Option Taken
        mark = Some (record { sender = sender; letter = Reply op rest is_last who })

        state : Option ClientRow → Act
        state o = elim o [ None ↦ act (what.Late op ∷ []) [] | Some r ↦ act (what.Out r.request.id rest ∷ []) [] ]

        by : (o : Option ClientRow) → row_named p op ≡ o → MarksOf (Some (record { sender = sender; letter = Reply op rest is_last who })) (state o).whats
        by None e = record { right = both (same_op op op && is_none (row_named p op)) true (both (same_op op op) _ (same_op_refl op) (ap is_none e)) refl; rest = refl }
        by (Some r) e = record { right = both (passes (is_answer_to r.request.id rest rest) (row_named p op)) true (ap (passes (is_answer_to r.request.id rest rest)) e ∙ both (r.request.id == r.request.id) _ (eqb_same r.request.id) (bytes_same rest)) refl; rest = refl }

    failure_marked : (sender : PartName) (op : OpName) (which : Refusal) → MarksOf (Some (record { sender = sender; letter = Failed op which })) (failure p op which).whats
    failure_marked sender op which = by (row_named p op) refl
      where
        state : Option ClientRow → Act
        state o = elim o [ None ↦ act (what.Late op ∷ []) [] | Some r ↦ act (refused r.request which) [] ]

        outs_of : ClientRow → Option OpKind → List What
        outs_of r o = elim o [ None ↦ [] | Some kind ↦ what.Out r.request.id (refusal kind which) ∷ [] ]

        refusals : (r : ClientRow) (o : Option OpKind) → row_named p op ≡ Some r → kind_of r.request.rest ≡ o → MarksOf (Some (record { sender = sender; letter = Failed op which })) (outs_of r o)
        refusals r None e f = record { right = refl; rest = refl }
        refusals r (Some kind) e f = record { right = both (passes (is_refusal_of r.request.id (refusal kind which) which) (row_named p op)) true (ap (passes (is_refusal_of r.request.id (refusal kind which) which)) e ∙ both (r.request.id == r.request.id) _ (eqb_same r.request.id) (ap (passes (λ k. bytes_eq (refusal kind which) (refusal k which))) f ∙ bytes_same (refusal kind which))) refl; rest = refl }

        by : (o : Option ClientRow) → row_named p op ≡ o → MarksOf (Some (record { sender = sender; letter = Failed op which })) (state o).whats
        by None e = record { right = both (same_op op op && is_none (row_named p op)) true (both (same_op op op) _ (same_op_refl op) (ap is_none e)) refl; rest = refl }
        by (Some r) e = refusals r (kind_of r.request.rest) e refl

    letter_marked : (sender : PartName) (l : Letter) → MarksOf (Some (record { sender = sender; letter = l })) (letter s p l).whats
    letter_marked sender (Choice op a) = choice_marked sender op a
    letter_marked sender (Reply op rest is_last who) = answer_marked sender op rest is_last who
    letter_marked sender (Failed op which) = failure_marked sender op which
    letter_marked sender _ = record { right = refl; rest = refl }

    link_marked : (why : EndWhy) → MarksOf None (link_gone p why).whats
    link_marked Bad = record { right = refl; rest = refl }
    link_marked TooBig = record { right = refl; rest = refl }
    link_marked _ = record { right = refl; rest = refl }

    input_marked : (input : Input) → MarksOf (letter_of input) (client_act s p at input).whats
    input_marked (Arrive now) = so (not p.arrived) (act (what.Arrived ∷ []) []) None (record { right = refl; rest = refl })
    input_marked (MessageIn now id rest) = message_marked id rest
    input_marked (LetterFrom now word sender l) = so p.arrived (letter s p l) (Some (record { sender = sender; letter = l })) (letter_marked sender l)
    input_marked (LinkGone now why) = so (is_present p) (link_gone p why) None (link_marked why)
    input_marked (Stall now) = so (is_present p && not p.pausing.stalled) (stalls p) None (record { right = refl; rest = refl })
    input_marked (Flow now) = so (is_present p && p.pausing.stalled) (flows p) None (record { right = refl; rest = refl })
    input_marked _ = record { right = refl; rest = refl }

    sever_marked : (why : EndWhy) → MarksOf None (where_so (is_present p) (act (what.Gone why ∷ []) (closing p))).whats
    sever_marked why = so (is_present p) (act (what.Gone why ∷ []) (closing p)) None (record { right = refl; rest = refl })

event_marked : (s : Settings) (p : ClientState) (x : Event) → Marks s (idle p) (made (client_event s) p x)
event_marked s p (Comes input) = input_marked s p.number (moment_for p.moment input) p input
event_marked s p (Severed now why) = by (is_link_reason why)
  where
    state : Bool → Effects
    state b = elim b [ true ↦ client_sever p now why | false ↦ no_effects ]

    by : (b : Bool) → Marks s (idle p) (marked_by None (state b).entries)
    by true = sever_marked s p.number (max p.moment now) p why
    by false = record { right = refl; rest = refl }

list_marked : (s : Settings) (xs : List Event) (p : ClientState) → each_from (step_under_way s) has_client_mark (idle p) (list_from (step_client s) (client_event s) p xs) ≡ true
list_marked s [] p = refl
list_marked s (x ∷ xs) p =
    let turn : List Marked = made (client_event s) p x in
    let one : Marks s (idle p) turn = event_marked s p x in
    froms_grow (step_under_way s) has_client_mark (idle p) turn (list_from (step_client s) (client_event s) (behind (step_client s) p turn) xs) one.right (subst (λ u. each_from (step_under_way s) has_client_mark u (list_from (step_client s) (client_event s) (behind (step_client s) p turn) xs) ≡ true) (sym one.rest) (list_marked s xs (behind (step_client s) p turn)))

pub client_marks : ClientMarks
client_marks s c xs = list_marked s xs (empty_client c)
