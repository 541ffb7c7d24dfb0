-- A regular connection answers no Bind, so its answers tell no identity where one is asked for; and a Forward to a bind
-- connection is of a Bind.
use Rattle.std.proofs.Common.{◌≡◌, ℕ, Bool, true, false, ◌&&◌, not, List, [], ◌∷◌, ◌++◌, refl, ap, ◌∙◌, sym, subst}
use Rattle.std.specs.Prelude.{Option, Some, None, find, flat_map, if◌then◌else◌}
use Rattle.std.specs.List.{list_any, list_all}
use Rattle.std.proofs.lemmas.List.Folds.{list_all-append}
use Rattle.ldap_spec.specs.Kinds.{is_final, kind_of, same_kind}
use Rattle.ldap_spec.specs.Messages.{Message}
use Rattle.ldap_spec.specs.Requests.{request}
use Rattle.ldap_spec.specs.Responses.{has_code}
use Rattle.ldap_spec.specs.Tags.{success}
use Rattle.lload_names.specs.declared.names.ConnKind.{ConnKind}
use Rattle.lload_names.specs.declared.names.ConnKind.TheVariants.{Regular, Bind as BindKind}
use Rattle.lload_names.specs.declared.names.EndWhy.TheVariants.{Bad, OwnBind as OwnBindFailed}
use Rattle.lload_names.specs.declared.names.Entry.{Entry}
use Rattle.lload_names.specs.declared.names.Letter.{Letter}
use Rattle.lload_names.specs.declared.names.Letter.TheVariants.{Forward, Reply}
use Rattle.lload_names.specs.declared.names.OpKind.{OpKind}
use Rattle.lload_names.specs.declared.names.OpKind.TheVariants.{Bind, Search, Modify, Add, Delete, ModifyDn, Compare, Extended}
use Rattle.lload_names.specs.declared.names.OpName.{OpName}
use Rattle.lload_names.specs.declared.names.PartName.{PartName}
use Rattle.lload_names.specs.declared.names.PartName.TheVariants.{Client}
use Rattle.lload_names.specs.declared.names.Posted.{Posted}
use Rattle.lload_names.specs.declared.names.What.{What}
use Rattle.lload_names.specs.declared.names.What.TheVariants as what
use Rattle.lload_spec.specs.Answers.{Sending, asks_who}
use Rattle.lload_spec.specs.BadMessages.{is_bad}
use Rattle.lload_spec.specs.Journal.{Family, same_op, same_part}
use Rattle.lload_spec.specs.Lists.{agrees, implies, passes, where_there}
use Rattle.lload_spec.specs.Operations.{Operation, operation, is_final_for, is_of, is_simple_bind}
use Rattle.lload_spec.specs.Settings.{Settings, is_kind}
use Rattle.lload_spec.proofs.Growth.{left, right, both}
use Rattle.lload_laws.proofs.ListLaws.{found, passes_imply}
use Rattle.part_laws.proofs.ListLaws.{not_true}
use Rattle.part_spec.specs.BindTurn.{answered as bind_answered}
use Rattle.part_spec.specs.ConnectionState.{ConnectionState, UpRow, step_connection, connection_behind, is_bind, is_under, is_under_own, behind_message, behind_own, message_facts, rows_sent}
use Rattle.part_spec.specs.ConnectionTurn.{comes_up, ended, goes_down, latency}
use Rattle.part_spec.specs.Fit.{ConnectionLedger, step_connection_ledger, fits_connection, are_fit_from, is_unfit, is_forward_of, is_of_its_kind}
use Rattle.part_spec.specs.Gives.{connection_gives, connection_letters, got_letters}
use Rattle.part_spec.specs.Inputs.{act, letters_alone, nothing, reply}
use Rattle.part_spec.specs.Marked.{Marked, Taken}
use Rattle.part_spec.specs.RegularTurn.{answered, own_answer, row_answer}
use Rattle.bind_laws.specs.Turns.{are_told_rightly, is_told_rightly}
use Rattle.connection_laws.proofs.Apart.{Shrinks, shrinks_message, shrinks_own}
use Rattle.connection_laws.proofs.ConnectionSays.{kind_step}
use Rattle.connection_laws.proofs.Rows.{all_put, all_flat, all_filter}
use Rattle.joined_laws.proofs.Taken.{is_fit_there}
use Rattle.carried_laws.specs.Laws.{are_forwards_right, is_forward_right, is_reply_right, is_settled_so, says_rightly, tells_rightly}
use Rattle.carried_laws.proofs.BindReplies.{are_replies_right}
use Rattle.carried_laws.proofs.Replies.{other_right}

-- the kind of a request that is this
pub same_kind_eq : (a b : OpKind) → same_kind a b ≡ true → a ≡ b
same_kind_eq Bind Bind h = refl
same_kind_eq Search Search h = refl
same_kind_eq Modify Modify h = refl
same_kind_eq Add Add h = refl
same_kind_eq Delete Delete h = refl
same_kind_eq ModifyDn ModifyDn h = refl
same_kind_eq Compare Compare h = refl
same_kind_eq Extended Extended h = refl
same_kind_eq _ _ h = absurd (let bad : false ≡ true = h in cc)

-- what is known of the kind of a fit Forward's operation
module _ (s : Settings) (F : Family) (l : ConnectionLedger) where
  pub kind_serves : (sender : PartName) (op holder : OpName) (kind : OpKind) (rest : List ℕ) (ask : Bool) → fits_connection s l sender (Forward op kind rest ask holder) ≡ true → agrees (same_kind Bind kind) (is_bind l.state) ≡ true
  kind_serves sender op holder kind rest ask f =
      right (passes (same_kind kind) (kind_of rest)) (agrees (same_kind Bind kind) (is_bind l.state))
      (left (passes (same_kind kind) (kind_of rest) && agrees (same_kind Bind kind) (is_bind l.state)) _
      (right (same_part sender (Client op.client) && same_part sender (Client holder.client) && not (list_any (λ t. is_forward_of op t.letter) l.taken) && l.state.up) (is_of_its_kind s l.state kind rest ask)
      (left (same_part sender (Client op.client) && same_part sender (Client holder.client) && not (list_any (λ t. is_forward_of op t.letter) l.taken) && l.state.up && is_of_its_kind s l.state kind rest ask) _ f)))

  -- whether its operation is a Bind
  pub bind_by : (b : Bool) → is_bind l.state ≡ b → (sender : PartName) (op holder : OpName) (kind : OpKind) (rest : List ℕ) (ask : Bool) → fits_connection s l sender (Forward op kind rest ask holder) ≡ true → (o : Operation) → says_rightly s ask kind o ≡ true → is_of Bind o ≡ b
  bind_by b e sender op holder kind rest ask f o says = by (kind_of o.request.rest) (left (passes (same_kind kind) (kind_of o.request.rest)) _ says)
    where
      same : (a d : Bool) → agrees a d ≡ true → a ≡ d
      same true true h = refl
      same false false h = refl
      same true false h = absurd (let bad : false ≡ true = h in cc)
      same false true h = absurd (let bad : false ≡ true = h in cc)

      by : (k : Option OpKind) → passes (same_kind kind) k ≡ true → passes (same_kind Bind) k ≡ b
      by None h = absurd (let bad : false ≡ true = h in cc)
      by (Some k) h = ap (same_kind Bind) (sym (same_kind_eq kind k h)) ∙ same (same_kind Bind kind) (is_bind l.state) (kind_serves sender op holder kind rest ask f) ∙ e

-- At a bind connection.
told_letter : (s : Settings) (F : Family) (l : ConnectionLedger) → is_bind l.state ≡ true → (sender : PartName) (x : Letter) → fits_connection s l sender x ≡ true → is_forward_right s F x ≡ true → is_told_rightly s F x ≡ true
told_letter s F l bind sender (Forward op kind rest ask holder) f h = passes_imply (says_rightly s ask kind) (λ o. is_of Bind o && agrees ask (asks_who s o)) (operation F op) (λ o k. both (is_of Bind o) _ (bind_by s F l true bind sender op holder kind rest ask f o k) (right (passes (same_kind kind) (kind_of o.request.rest)) _ k)) h
told_letter s F l bind sender _ f h = refl

pub told_from : (s : Settings) (F : Family) (l : ConnectionLedger) (ms : List Marked) → l.state.kind ≡ BindKind → are_forwards_right s F ms ≡ true → are_fit_from (fits_connection s) (step_connection_ledger s) l ms ≡ true → are_told_rightly s F ms ≡ true
told_from s F l [] kind h f = refl
told_from s F l (m ∷ ms) kind h f = both (where_there (λ t. is_told_rightly s F t.letter) m.mark) _ (by m.mark refl (left (where_there (λ t. is_forward_right s F t.letter) m.mark) _ h)) (told_from s F (step_connection_ledger s l m) ms (kind_step s m.entry m.mark l.state m.entry.what ∙ kind) (right (where_there (λ t. is_forward_right s F t.letter) m.mark) _ h) (right (not (is_unfit (fits_connection s) l m.mark)) _ f))
  where
    by : (o : Option Taken) → m.mark ≡ o → where_there (λ t. is_forward_right s F t.letter) o ≡ true → where_there (λ t. is_told_rightly s F t.letter) o ≡ true
    by None e k = refl
    by (Some t) e k = told_letter s F l (ap (is_kind BindKind) kind) t.sender t.letter (is_fit_there (fits_connection s) l t (are_fit_from (fits_connection s) (step_connection_ledger s) (step_connection_ledger s l m) ms) (ap (λ q. not (is_unfit (fits_connection s) l q) && are_fit_from (fits_connection s) (step_connection_ledger s) (step_connection_ledger s l m) ms) (sym e) ∙ f)) k

-- At a regular connection.

-- whether a row is of an operation that is no Bind
abbrev is_plain : Family → UpRow → Bool
is_plain F r = passes (λ o. not (is_of Bind o)) (operation F r.op)

module _ (s : Settings) (F : Family) (sents : List Sending) where
  abbrev Right : List Posted → Type 0
  Right xs = are_replies_right s F sents xs ≡ true

  plain_reply : (op : OpName) (rest : List ℕ) (is_last : Bool) → passes (λ o. not (is_of Bind o)) (operation F op) ≡ true → is_reply_right s F sents (Reply op rest is_last None) ≡ true
  plain_reply op rest is_last h = passes_imply (λ o. not (is_of Bind o)) (tells_rightly s op rest None sents) (operation F op) (λ o k. by o (not_true (is_of Bind o) k)) h
    where
      by : (o : Operation) → is_of Bind o ≡ false → tells_rightly s op rest None sents o ≡ true
      by o e = ap (λ b. implies (b && (is_final_for o.request rest && has_code success rest)) (list_any (is_settled_so s op None o) sents)) (ap (λ b. s.proxies_authorization && b && not (passes is_simple_bind (request o.request.rest))) e ∙ never s.proxies_authorization (not (passes is_simple_bind (request o.request.rest))))
        where
          never : (a b : Bool) → (a && false && b) ≡ false
          never true b = refl
          never false b = refl

  module _ (p : ConnectionState) (kind : p.kind ≡ Regular) (rows : list_all (is_plain F) p.rows ≡ true) where
    row_right : (at : ℕ) (m : Message) (r : UpRow) → is_plain F r ≡ true → Right (letters_alone (row_answer p at m r))
    row_right at m r h = by (is_final r.kind m.rest)
      where
        by : (b : Bool) → Right (letters_alone (elim b [ false ↦ act [] (reply r.op m.rest false None) | true ↦ act [] (reply r.op m.rest true None ++ ended p r.op (latency at r)) ]))
        by false = both (is_reply_right s F sents (Reply r.op m.rest false None)) true (plain_reply r.op m.rest false h) refl
        by true = both (is_reply_right s F sents (Reply r.op m.rest true None)) true (plain_reply r.op m.rest true h) refl

    own_right : (m : Message) → Right (letters_alone (own_answer p m))
    own_right m = by (has_code success m.rest)
      where
        by : (b : Bool) → Right (letters_alone (elim b [ true ↦ comes_up p | false ↦ goes_down p OwnBindFailed ]))
        by true = refl
        by false = refl

    answered_right : (at : ℕ) (m : Message) → Right (letters_alone (answered p at m))
    answered_right at m = by (is_under_own p m.id) (find (is_under m.id) p.rows) refl
      where
        by : (b : Bool) (o : Option UpRow) → find (is_under m.id) p.rows ≡ o → Right (letters_alone (elim b [ true ↦ own_answer p m | false ↦ elim o [ None ↦ nothing | Some r ↦ row_answer p at m r ] ]))
        by true o e = own_right m
        by false None e = refl
        by false (Some r) e = row_right at m r (found (is_plain F) (is_under m.id) p.rows r e rows)

    got_right : (at : ℕ) (m : Message) → Right (got_letters s p at m)
    got_right at m = by (is_bad (message_facts p) m)
      where
        text : Bool → ConnKind → List Posted
        text b k = letters_alone (elim b [ true ↦ goes_down p Bad | false ↦ elim k [ Regular ↦ answered p at m | BindKind ↦ bind_answered s p m ] ])

        by : (b : Bool) → Right (text b p.kind)
        by true = refl
        by false = subst (λ k. Right (text false k)) (sym kind) (answered_right at m)

    letters_right : (at : ℕ) (mark : Option Taken) (w : What) → Right (connection_letters s p at mark w)
    letters_right at mark (what.Got id rest) = got_right at (record { id = id; rest = rest })
    letters_right at mark w = other_right s F sents p at mark w refl

  plain_shrinks : (r : UpRow) (rs : List UpRow) → Shrinks r rs → is_plain F r ≡ true → list_all (is_plain F) rs ≡ true
  plain_shrinks r [] h k = refl
  plain_shrinks r (q ∷ []) h k = both (is_plain F q) true (ap (λ o. passes (λ x. not (is_of Bind x)) (operation F o)) (sym h.1) ∙ k) refl
  plain_shrinks r (q ∷ x ∷ xs) h k = absurd h

  -- the rows behind an entry
  plain_step : (l : ConnectionLedger) (e : Entry) (mark : Option Taken) (w : What) → l.state.kind ≡ Regular → list_all (is_plain F) l.state.rows ≡ true → where_there (λ t. is_forward_right s F t.letter) mark ≡ true → ((t : Taken) → mark ≡ Some t → fits_connection s l t.sender t.letter ≡ true) → list_all (is_plain F) (connection_behind s e mark l.state w).rows ≡ true
  plain_step l e mark (what.Got id rest) kind h told fits = by (is_under_own l.state id)
    where
      by : (b : Bool) → list_all (is_plain F) (if b then l.state.rows else flat_map (behind_message e.at (record { id = id; rest = rest })) l.state.rows) ≡ true
      by true = h
      by false = all_flat (is_plain F) (behind_message e.at (record { id = id; rest = rest })) l.state.rows (λ r k. plain_shrinks r (behind_message e.at (record { id = id; rest = rest }) r) (shrinks_message e.at (record { id = id; rest = rest }) r) k) h
  plain_step l e mark (what.Own id rest) kind h told fits = all_flat (is_plain F) (behind_own (record { id = id; rest = rest })) l.state.rows (λ r k. plain_shrinks r (behind_own (record { id = id; rest = rest }) r) (shrinks_own (record { id = id; rest = rest }) r) k) h
  plain_step l e None (what.Sent id op rest) kind h told fits = h
  plain_step l e (Some t) (what.Sent id op rest) kind h told fits = by t.letter told (fits t refl)
    where
      by : (x : Letter) → is_forward_right s F x ≡ true → fits_connection s l t.sender x ≡ true → list_all (is_plain F) (rows_sent e.at id l.state.rows x) ≡ true
      by (Forward q sort body ask holder) k f = all_put (is_plain F) (record { id = id; op = q; kind = sort; ask_who = ask; sent = e.at; answered = e.at; kept = None }) l.state.rows (passes_imply (says_rightly s ask sort) (λ o. not (is_of Bind o)) (operation F q) (λ o j. ap not (bind_by s F l false (ap (is_kind BindKind) kind) t.sender q holder sort body ask f o j)) k) h
      by _ k f = h
  plain_step l e mark (what.Expired o) kind h told fits = all_filter (is_plain F) (λ r. not (same_op o r.op)) l.state.rows h
  plain_step l e mark (what.Down why) kind h told fits = refl
  plain_step l e mark _ kind h told fits = h

  -- the answers that a regular connection's list gives
  pub regular_from : (l : ConnectionLedger) (ms : List Marked) → l.state.kind ≡ Regular → list_all (is_plain F) l.state.rows ≡ true → are_forwards_right s F ms ≡ true → are_fit_from (fits_connection s) (step_connection_ledger s) l ms ≡ true → are_replies_right s F sents (connection_gives s l.state ms) ≡ true
  regular_from l [] kind rows told fit = refl
  regular_from l (m ∷ ms) kind rows told fit =
      list_all-append (λ (x : Posted). is_reply_right s F sents x.letter) (connection_letters s l.state m.entry.at m.mark m.entry.what) (connection_gives s (step_connection s l.state m) ms)
      ∙ both (are_replies_right s F sents (connection_letters s l.state m.entry.at m.mark m.entry.what)) _ (letters_right l.state kind rows m.entry.at m.mark m.entry.what)
      (regular_from (step_connection_ledger s l m) ms (kind_step s m.entry m.mark l.state m.entry.what ∙ kind) (plain_step l m.entry m.mark m.entry.what kind rows (left (where_there (λ t. is_forward_right s F t.letter) m.mark) _ told) fits) (right (where_there (λ t. is_forward_right s F t.letter) m.mark) _ told) (right (not (is_unfit (fits_connection s) l m.mark)) _ fit))
    where
      fits : (t : Taken) → m.mark ≡ Some t → fits_connection s l t.sender t.letter ≡ true
      fits t e = is_fit_there (fits_connection s) l t (are_fit_from (fits_connection s) (step_connection_ledger s) (step_connection_ledger s l m) ms) (ap (λ q. not (is_unfit (fits_connection s) l q) && are_fit_from (fits_connection s) (step_connection_ledger s) (step_connection_ledger s l m) ms) (sym e) ∙ fit)
