-- What a client's operations got, behind each turn that took a fit letter.
use Rattle.std.proofs.Common.{◌≡◌, ℕ, Bool, true, false, ◌&&◌, List, [], ◌∷◌, ◌++◌, length, refl, ap, ◌∙◌, sym, subst, arith}
use Rattle.std.specs.Prelude.{Option, Some, None}
use Rattle.std.specs.List.{list_any, list_all}
use Rattle.std.proofs.lemmas.List.{append-nil, map-append}
use Rattle.ldap_spec.specs.Messages.{Message}
use Rattle.ldap_spec.specs.Kinds.{kind_of}
use Rattle.lload_names.specs.declared.names.CancelAnswer.TheVariants.{S1}
use Rattle.lload_names.specs.declared.names.OpName.{OpName}
use Rattle.lload_names.specs.declared.names.PartName.TheVariants.{Client, Up as Connection}
use Rattle.lload_names.specs.declared.names.Letter.{Letter}
use Rattle.lload_names.specs.declared.names.Letter.TheVariants.{Choice, Reply, Failed}
use Rattle.lload_names.specs.declared.names.What.{What}
use Rattle.lload_names.specs.declared.names.What.TheVariants as what
use Rattle.lload_spec.specs.Lists.{passes}
use Rattle.lload_spec.specs.Settings.{Settings}
use Rattle.lload_spec.specs.Journal.{same_op, same_part}
use Rattle.lload_spec.specs.Operations.{Operation, operations}
use Rattle.lload_spec.specs.FirstCheck.{Check, Ends, Unbinds, Abandons, Refuses, Answers, Cancels, GoesOn}
use Rattle.part_spec.specs.Marked.{Marked, Taken, entries}
use Rattle.part_spec.specs.ClientState.{check_at, row_named}
use Rattle.part_spec.specs.ClientTurn.{refused, noticed, whats_by, whats_for}
use Rattle.part_spec.specs.Share.{is_answered_by, is_success_known, has_causes}
use Rattle.part_spec.specs.Fit.{ClientLedger, Expected, fits_client, is_unfit, expected_from, answers, is_known, step_client_ledger, empty_client_ledger, ledger_behind as behind}
use Rattle.lload_spec.proofs.Growth.{left, right, both}
use Rattle.lload_laws.proofs.ListLaws.{found_passes}
use Rattle.part_laws.specs.Turns.{Event, made}
use Rattle.part_laws.proofs.ListLaws.{same_op_eq}
use Rattle.client_laws.specs.Turns.{client_event}
use Rattle.client_laws.proofs.ClientOuts.{EndsOnce}
use Rattle.client_laws.proofs.ClientEnds.{event_once}
use Rattle.client_laws.proofs.ClientTurns.{client_turn_of}
use Rattle.client_laws.proofs.ClientClauses.{Keeps}
use Rattle.client_share_laws.proofs.Whats.{refused_all, canceled_all, choice_all}
use Rattle.client_share_laws.proofs.ClientCases.{Cases, taken, event_case}
use Rattle.client_share_laws.proofs.ClientOwns.{event_own}
use Rattle.client_answer_laws.specs.Clauses.{ClientAnswered, ClientRefusals, ClientSuccesses}
use Rattle.client_answer_laws.proofs.Each.{Each, each_found}
use Rattle.client_answer_laws.proofs.Waits.{is_within}
use Rattle.client_answer_laws.proofs.Known.{IsAsked, is_unchosen, none_asked}
use Rattle.client_answer_laws.proofs.Life.{FirstFits, not_false, fit_asked}
use Rattle.client_answer_laws.proofs.LifeKept.{life_begins}
use Rattle.client_answer_laws.proofs.FitTurns.{fit_turns}
use Rattle.client_answer_laws.proofs.Expects.{ExpectKnown}
use Rattle.client_answer_laws.proofs.Causes.{causes_hold}
use Rattle.client_answer_laws.proofs.Told.{OpSays}
use Rattle.client_answer_laws.proofs.Tells.{Ops, Tells, is_reply_within, is_told_within, tells_turn}
use Rattle.client_answer_laws.proofs.ToldTurns.{told_cases}

-- an answer that is fit is to an operation of the client's own
fit_within : (s : Settings) (c : ℕ) (ms : List Marked) (l : ClientLedger) → Each (ExpectKnown s c (entries ms)) l.expected → (mark : Option Taken) → is_unfit (fits_client s) l mark ≡ false → is_reply_within c (length (operations c (entries ms))) mark ≡ true
fit_within s c ms l h None u = refl
fit_within s c ms l h (Some t) u = of_letter t.letter (not_false (fits_client s l t.sender t.letter) u)
  where
    found : (op : OpName) (test : Expected → Bool) (o : Option Expected) → expected_from l t.sender op ≡ o → passes test o ≡ true → is_within c (length (operations c (entries ms))) op ≡ true
    found op test None e k = absurd (let bad : false ≡ true = k in cc)
    found op test (Some x) e k =
        let same : op ≡ x.op = same_op_eq op x.op (left (same_op op x.op) _ (found_passes (λ y. same_op op y.op && same_part t.sender (Connection y.connection)) l.expected x e)) in
        ap (is_within c (length (operations c (entries ms)))) same ∙ (each_found (ExpectKnown s c (entries ms)) (λ y. same_op op y.op && same_part t.sender (Connection y.connection)) l.expected x e h).within

    of_letter : (x : Letter) → fits_client s l t.sender x ≡ true → is_told_within c (length (operations c (entries ms))) x ≡ true
    of_letter (Reply op rest is_last who) k = found op (λ x. answers x.request rest is_last && is_known s x.request rest who) (expected_from l t.sender op) refl k
    of_letter _ k = refl

check_unchosen : (m : Message) (k : Check) → list_all is_unchosen (whats_by m k) ≡ true
check_unchosen m (Ends why) = refl
check_unchosen m Unbinds = refl
check_unchosen m (Abandons id) = refl
check_unchosen m (Refuses which) = refused_all is_unchosen (λ id rest. refl) m which
check_unchosen m (Answers which) = canceled_all is_unchosen (λ id rest. refl) m.id (kind_of m.rest) which
check_unchosen m (Cancels id kind) = canceled_all is_unchosen (λ i rest. refl) m.id (kind_of m.rest) S1
check_unchosen m GoesOn = refl

-- what is known of the ledger, behind each turn
module _ (s : Settings) (c : ℕ) (ms : List Marked) (l : ClientLedger) (h : Tells s c ms l) where
  abbrev Turn : List Marked → Type 0
  Turn xs = FirstFits s l xs → Tells s c (ms ++ xs) (behind (step_client_ledger s) l xs)

  first : (at : ℕ) (mark : Option Taken) (w : What) (ws : List What) → (is_unfit (fits_client s) l mark ≡ false → IsAsked l.state w) → list_all is_unchosen ws ≡ true → Turn (client_turn_of l.state.number at mark (w ∷ ws))
  first at mark w ws f k u = tells_turn s c l.state.number at w ws mark ms l h (f u) (fit_within s c ms l h.expected mark u) k

  quiet : (at : ℕ) (mark : Option Taken) (ws : List What) → list_all is_unchosen ws ≡ true → Turn (client_turn_of l.state.number at mark ws)
  quiet at mark [] k = λ u. subst (λ b. Tells s c b l) (sym (append-nil ms)) h
  quiet at mark (w ∷ ws) k = first at mark w ws (λ u. none_asked l.state w (left (is_unchosen w) _ k)) (right (is_unchosen w) _ k)

  tells_cases : Cases s l.state Turn
  tells_cases =
      record {
        none = λ u. subst (λ b. Tells s c b l) (sym (append-nil ms)) h;
        arrives = λ at fresh. quiet at None (what.Arrived ∷ []) refl;
        checked = λ at m e f. quiet at None (what.In m.id m.rest ∷ whats_by m (check_at s l.state m)) (check_unchosen m (check_at s l.state m));
        chosen = λ at sender op a here. first at (taken sender (Choice op a)) (what.Chosen op a) (whats_for (row_named l.state op) a) (λ u o b e. let same : op ≡ o = cc in subst (λ x. list_any (λ y. same_op x y.op) l.state.asked ≡ true) same (fit_asked s l sender op a u)) (choice_all is_unchosen (λ id rest. refl) (row_named l.state op) a);
        answered = λ at sender op rest is_last who r e here. quiet at (taken sender (Reply op rest is_last who)) (what.Out r.request.id rest ∷ []) refl;
        failed = λ at sender op which r e here. quiet at (taken sender (Failed op which)) (refused r.request which) (refused_all is_unchosen (λ id rest. refl) r.request which);
        late = λ at mark op e here about. quiet at mark (what.Late op ∷ []) refl;
        breaks = λ at why there e n. quiet at None (noticed why) refl;
        severed = λ at why here e. quiet at None (what.Gone why ∷ []) refl;
        stalls = λ at here. quiet at None (what.Stalled ∷ []) refl;
        flows = λ at here. quiet at None (what.Flowing ∷ []) refl;
      }

-- What is kept behind each turn.
pub record ToldKept (s : Settings) (c : ℕ) (before : List Marked) (l : ClientLedger) : Type 0 where
  pub tells : Tells s c before l
  pub once : EndsOnce c (entries before)
  pub own : list_all (λ e. same_part (Client c) e.part) (entries before) ≡ true
  pub ops : Ops s c before

pub told_more : (s : Settings) (c : ℕ) (before : List Marked) (l : ClientLedger) (x : Event) → Keeps s c before l.state → ToldKept s c before l → FirstFits s l (made (client_event s) l.state x) → ToldKept s c (before ++ made (client_event s) l.state x) (behind (step_client_ledger s) l (made (client_event s) l.state x))
told_more s c before l x keeps h fit =
    record {
      tells = event_case s l.state (λ ms. FirstFits s l ms → Tells s c (before ++ ms) (behind (step_client_ledger s) l ms)) (tells_cases s c before l h.tells) x fit;
      once = subst (EndsOnce c) (sym (map-append (λ m. m.entry) before (made (client_event s) l.state x))) (event_once s c (entries before) l.state x keeps.lives h.once);
      own = event_own s c before l.state x keeps.says.number h.own;
      ops = event_case s l.state (λ ms. FirstFits s l ms → Ops s c (before ++ ms)) (told_cases s c before l keeps.state keeps.lives h.once h.own h.tells h.ops) x fit;
    }

pub told_begins : (s : Settings) (c : ℕ) → ToldKept s c [] (empty_client_ledger c)
told_begins s c = record { tells = record { known = (life_begins s c).known; expected = tt; replies = refl }; once = record { one_last = λ n. omega arith; no_zero = refl; ended_once = refl }; own = refl; ops = tt }

-- what each operation keeps
pub all_of : (P : Operation → Type 0) (t : Operation → Bool) (os : List Operation) → ((o : Operation) → P o → t o ≡ true) → Each P os → list_all t os ≡ true
all_of P t [] f h = refl
all_of P t (o ∷ os) f h = both (t o) _ (f o h.0) (all_of P t os f h.1)

pub client_answered : ClientAnswered
client_answered s c xs = fit_turns s c (ToldKept s c) (told_more s c) (λ b. list_all (is_answered_by b) (operations c (entries b)) ≡ true) (λ before l keeps turns h. all_of (OpSays s before) (is_answered_by before) (operations c (entries before)) (λ o q. q.answered) h.ops) (told_begins s c) xs

pub client_successes : ClientSuccesses
client_successes s c xs = fit_turns s c (ToldKept s c) (told_more s c) (λ b. list_all (is_success_known s b) (operations c (entries b)) ≡ true) (λ before l keeps turns h. all_of (OpSays s before) (is_success_known s before) (operations c (entries before)) (λ o q. q.known) h.ops) (told_begins s c) xs

pub client_refusals : ClientRefusals
client_refusals s c xs = fit_turns s c (ToldKept s c) (told_more s c) (λ b. list_all (has_causes s b) (operations c (entries b)) ≡ true) (λ before l keeps turns h. all_of (OpSays s before) (has_causes s before) (operations c (entries before)) (λ o q. causes_hold s before o q.ends) h.ops) (told_begins s c) xs
