-- What is known of a client's ledger behind each entry: of its state, of what it waits for, and of the answers it took.
use Rattle.std.proofs.Common.{◌≡◌, ℕ, suc, ◌≤◌, Bool, true, ◌==◌, ◌&&◌, not, List, [], ◌∷◌, ◌++◌, length, refl, ap, arith, ◌∙◌, sym, subst, append_assoc}
use Rattle.std.specs.Prelude.{Option, Some, None, filter, nat_le, nat_lt, if◌then◌else◌}
use Rattle.std.specs.List.{list_all}
use Rattle.std.proofs.lemmas.List.{append-nil, map-append}
use Rattle.std.proofs.lemmas.List.Folds.{list_all-append}
use Rattle.std.proofs.lemmas.Bool.Decides.{nat_tests}
use Rattle.ldap_spec.specs.Messages.{Message}
use Rattle.lload_names.specs.declared.names.PartName.TheVariants.{Client}
use Rattle.lload_names.specs.declared.names.Letter.{Letter}
use Rattle.lload_names.specs.declared.names.Letter.TheVariants.{Reply}
use Rattle.lload_names.specs.declared.names.What.{What}
use Rattle.lload_spec.specs.Lists.{where_there}
use Rattle.lload_spec.specs.Settings.{Settings}
use Rattle.lload_spec.specs.Journal.{same_op}
use Rattle.lload_spec.specs.Entries.{operation_message}
use Rattle.lload_spec.specs.Operations.{Operation, operations}
use Rattle.part_spec.specs.Marked.{Marked, Taken, entries}
use Rattle.part_spec.specs.Inputs.{entries_of}
use Rattle.part_spec.specs.ClientState.{step_client}
use Rattle.part_spec.specs.Fit.{ClientLedger, step_client_ledger, expected_behind, is_last_by, ledger_behind as behind}
use Rattle.part_spec.specs.Share.{replies, reply_rest}
use Rattle.lload_spec.proofs.Growth.{left, right, both}
use Rattle.lload_laws.specs.ClientGrowth.{later_operation, new_operation}
use Rattle.lload_laws.proofs.ListLaws.{all_imply}
use Rattle.part_laws.proofs.ListLaws.{false_by}
use Rattle.client_laws.proofs.ClientTurns.{client_turn_of, tail_none}
use Rattle.client_answer_laws.proofs.Each.{Each, each_filter}
use Rattle.client_answer_laws.proofs.Waits.{is_within, within_more, more_operations, each_grows}
use Rattle.client_answer_laws.proofs.Known.{Known, IsAsked, known_more, is_unchosen, none_asked}
use Rattle.client_answer_laws.proofs.Expects.{ExpectKnown, expected_known}
use Rattle.client_answer_laws.proofs.Told.{OpSays, Effect, op_more}

-- whether an answer that was taken is to an operation of this client, with a number up to n
abbrev pub is_told_within : ℕ → ℕ → Letter → Bool
is_told_within c n (Reply op rest is_last who) = is_within c n op
is_told_within c n _ = true

abbrev pub is_reply_within : ℕ → ℕ → Option Taken → Bool
is_reply_within c n mark = where_there (λ t. is_told_within c n t.letter) mark

pub record Tells (s : Settings) (c : ℕ) (ms : List Marked) (l : ClientLedger) : Type 0 where
  pub known : Known s c (entries ms) l.state
  pub expected : Each (ExpectKnown s c (entries ms)) l.expected
  pub replies : list_all (λ m. is_reply_within c (length (operations c (entries ms))) m.mark) ms ≡ true

reply_more : (c n k : ℕ) (mark : Option Taken) → n ≤ k → is_reply_within c n mark ≡ true → is_reply_within c k mark ≡ true
reply_more c n k None l h = refl
reply_more c n k (Some t) l h = by t.letter h
  where
    by : (x : Letter) → is_told_within c n x ≡ true → is_told_within c k x ≡ true
    by (Reply op rest is_last who) j = within_more c n k op l j
    by _ j = refl

pub replies_within : (c : ℕ) (ms : List Marked) (m : Marked) → list_all (λ x. is_reply_within c (length (operations c (entries ms))) x.mark) ms ≡ true → is_reply_within c (length (operations c (entries ms))) m.mark ≡ true → list_all (λ x. is_reply_within c (length (operations c (entries (ms ++ m ∷ [])))) x.mark) (ms ++ m ∷ []) ≡ true
replies_within c ms m h k = ap (λ b. list_all (λ x. is_reply_within c (length (operations c b)) x.mark) (ms ++ m ∷ [])) (map-append (λ x. x.entry) ms (m ∷ [])) ∙ list_all-append (λ x. is_reply_within c (length (operations c (entries ms ++ m.entry ∷ []))) x.mark) ms (m ∷ []) ∙ both (list_all (λ x. is_reply_within c (length (operations c (entries ms ++ m.entry ∷ []))) x.mark) ms) _ (all_imply (λ x. is_reply_within c (length (operations c (entries ms))) x.mark) (λ x. is_reply_within c (length (operations c (entries ms ++ m.entry ∷ []))) x.mark) ms (λ x j. reply_more c (length (operations c (entries ms))) (length (operations c (entries ms ++ m.entry ∷ []))) x.mark (more_operations c (entries ms) m.entry) j) h) (both (is_reply_within c (length (operations c (entries ms ++ m.entry ∷ []))) m.mark) true (reply_more c (length (operations c (entries ms))) (length (operations c (entries ms ++ m.entry ∷ []))) m.mark (more_operations c (entries ms) m.entry) k) refl)

pub tells_more : (s : Settings) (c u at : ℕ) (mark : Option Taken) (w : What) (ms : List Marked) (l : ClientLedger) → Tells s c ms l → IsAsked l.state w → is_reply_within c (length (operations c (entries ms))) mark ≡ true → Tells s c (ms ++ record { entry = record { part = Client u; at = at; what = w }; mark = mark } ∷ []) (step_client_ledger s l (record { entry = record { part = Client u; at = at; what = w }; mark = mark }))
tells_more s c u at mark w ms l h f k =
    record {
      known = subst (λ b. Known s c b (step_client s l.state m)) (sym grown) (known_more s c u at mark w (entries ms) l.state h.known f);
      expected = subst (λ b. Each (ExpectKnown s c b) (filter (λ x. not (is_last_by x.op mark)) (expected_behind s l.state l.expected w))) (sym grown) (each_filter (ExpectKnown s c (entries ms ++ record { part = Client u; at = at; what = w } ∷ [])) (ExpectKnown s c (entries ms ++ record { part = Client u; at = at; what = w } ∷ [])) (λ x. not (is_last_by x.op mark)) (expected_behind s l.state l.expected w) (λ x e q. q) (expected_known s c at (Client u) (entries ms) l.state h.known.says.number h.known.count h.known.rows l.expected h.expected w));
      replies = replies_within c ms m h.replies k;
    }
  where
    m : Marked
    m = record { entry = record { part = Client u; at = at; what = w }; mark = mark }

    grown : entries (ms ++ record { entry = record { part = Client u; at = at; what = w }; mark = mark } ∷ []) ≡ entries ms ++ record { part = Client u; at = at; what = w } ∷ []
    grown = map-append (λ x. x.entry) ms (record { entry = record { part = Client u; at = at; what = w }; mark = mark } ∷ [])

-- the first entry of a turn, and then the others
joined : (s : Settings) (c u at : ℕ) (w : What) (ws : List What) (mark : Option Taken) (ms : List Marked) (l : ClientLedger) → Tells s c ((ms ++ record { entry = record { part = Client u; at = at; what = w }; mark = mark } ∷ []) ++ client_turn_of u at None ws) (behind (step_client_ledger s) (step_client_ledger s l (record { entry = record { part = Client u; at = at; what = w }; mark = mark })) (client_turn_of u at None ws)) → Tells s c (ms ++ client_turn_of u at mark (w ∷ ws)) (behind (step_client_ledger s) l (client_turn_of u at mark (w ∷ ws)))
joined s c u at w ws mark ms l h =
    let m : Marked = record { entry = record { part = Client u; at = at; what = w }; mark = mark } in
    let next : ClientLedger = step_client_ledger s l m in
    subst (λ xs. Tells s c (ms ++ m ∷ xs) (behind (step_client_ledger s) next xs)) (sym (tail_none (entries_of (Client u) at ws))) (subst (λ b. Tells s c b (behind (step_client_ledger s) next (client_turn_of u at None ws))) (append_assoc ms (m ∷ []) (client_turn_of u at None ws)) h)

tells_through : (s : Settings) (c u at : ℕ) (ws : List What) (mark : Option Taken) (ms : List Marked) (l : ClientLedger) → Tells s c ms l → list_all is_unchosen ws ≡ true → is_reply_within c (length (operations c (entries ms))) mark ≡ true → Tells s c (ms ++ client_turn_of u at mark ws) (behind (step_client_ledger s) l (client_turn_of u at mark ws))
tells_through s c u at [] mark ms l h k j = subst (λ b. Tells s c b l) (sym (append-nil ms)) h
tells_through s c u at (w ∷ ws) mark ms l h k j = joined s c u at w ws mark ms l (tells_through s c u at ws None (ms ++ record { entry = record { part = Client u; at = at; what = w }; mark = mark } ∷ []) (step_client_ledger s l (record { entry = record { part = Client u; at = at; what = w }; mark = mark })) (tells_more s c u at mark w ms l h (none_asked l.state w (left (is_unchosen w) _ k)) j) (right (is_unchosen w) _ k) refl)

pub tells_turn : (s : Settings) (c u at : ℕ) (w : What) (ws : List What) (mark : Option Taken) (ms : List Marked) (l : ClientLedger) → Tells s c ms l → IsAsked l.state w → is_reply_within c (length (operations c (entries ms))) mark ≡ true → list_all is_unchosen ws ≡ true → Tells s c (ms ++ client_turn_of u at mark (w ∷ ws)) (behind (step_client_ledger s) l (client_turn_of u at mark (w ∷ ws)))
tells_turn s c u at w ws mark ms l h f j k = joined s c u at w ws mark ms l (tells_through s c u at ws None (ms ++ record { entry = record { part = Client u; at = at; what = w }; mark = mark } ∷ []) (step_client_ledger s l (record { entry = record { part = Client u; at = at; what = w }; mark = mark })) (tells_more s c u at mark w ms l h f j) k refl)

-- no answer to an operation that comes was taken
pub none_replied : (c n : ℕ) (ms : List Marked) → list_all (λ m. is_reply_within c n m.mark) ms ≡ true → replies ms (record { client = c; k = suc n }) ≡ []
none_replied c n [] h = refl
none_replied c n (m ∷ ms) h = ap (λ l. l ++ replies ms (record { client = c; k = suc n })) (by m.mark (left (is_reply_within c n m.mark) _ h)) ∙ none_replied c n ms (right (is_reply_within c n m.mark) _ h)
  where
    by : (mark : Option Taken) → is_reply_within c n mark ≡ true → reply_rest (record { client = c; k = suc n }) mark ≡ []
    by None k = refl
    by (Some t) k = of_letter t.letter k
      where
        of_letter : (x : Letter) → is_told_within c n x ≡ true → reply_rest (record { client = c; k = suc n }) (Some (record { sender = t.sender; letter = x })) ≡ []
        of_letter (Reply op rest is_last who) j = ap (λ b. if b then rest ∷ [] else []) (false_by (same_op (record { client = c; k = suc n }) op) (λ i. let top : nat_le op.k n ≡ true = right (op.client == c && nat_lt 0 op.k) _ j in let same : (suc n == op.k) ≡ true = right (c == op.client) _ i in absurd (grind (arith, nat_tests, top, same))))
        of_letter _ j = refl

-- What the operations got, with an entry more.
abbrev pub Ops : Settings → ℕ → List Marked → Type 0
Ops s c ms = Each (OpSays s ms) (operations c (entries ms))

pub ops_more : (s : Settings) (c : ℕ) (ms : List Marked) (m : Marked) → Ops s c ms → Each (Effect s ms m) (operations c (entries ms)) → ((x : Message) → operation_message m.entry.what ≡ Some x → OpSays s (ms ++ m ∷ []) (new_operation c (entries ms) m.entry x)) → Ops s c (ms ++ m ∷ [])
ops_more s c ms m h k f = subst (λ b. Each (OpSays s (ms ++ m ∷ [])) (operations c b)) (sym (map-append (λ x. x.entry) ms (m ∷ []))) (each_grows (OpSays s (ms ++ m ∷ [])) c (entries ms) m.entry (both_so (operations c (entries ms)) h k) f)
  where
    both_so : (os : List Operation) → Each (OpSays s ms) os → Each (Effect s ms m) os → Each (λ o. OpSays s (ms ++ m ∷ []) (later_operation m.entry o)) os
    both_so [] a b = tt
    both_so (o ∷ os) a b = (op_more s ms m o a.0 b.0, both_so os a.1 b.1)
