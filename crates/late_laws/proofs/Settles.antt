-- Each answer of success that a connection gives to a Bind whose identity is asked for is settled there by an answer that tells
-- an identity.
use Rattle.std.proofs.Common.{◌≡◌, ◌⊎◌, inl, inr, ℕ, Bool, true, false, ◌==◌, ◌&&◌, ◌||◌, not, List, [], ◌∷◌, ◌++◌, append_assoc, refl, ap, ◌∙◌, sym, subst}
use Rattle.std.specs.Prelude.{Option, Some, None, find, map, if◌then◌else◌, option_map}
use Rattle.std.specs.List.{list_any}
use Rattle.std.proofs.lemmas.List.{append-nil}
use Rattle.std.proofs.lemmas.List.Folds.{list_all-append}
use Rattle.ldap_spec.specs.Kinds.{is_final, is_intermediate, same_kind, tag_of}
use Rattle.ldap_spec.specs.Messages.{Message}
use Rattle.ldap_spec.specs.Requests.{request}
use Rattle.ldap_spec.specs.Responses.{has_code, tells_who, who_value}
use Rattle.ldap_spec.specs.Tags.{bind_in_progress, extended_response, success}
use Rattle.lload_names.specs.declared.names.ConnKind.TheVariants.{Bind as BindKind, Regular}
use Rattle.lload_names.specs.declared.names.Entry.{Entry}
use Rattle.lload_names.specs.declared.names.Letter.{Letter}
use Rattle.lload_names.specs.declared.names.Letter.TheVariants.{Reply}
use Rattle.lload_names.specs.declared.names.OpKind.TheVariants.{Bind}
use Rattle.lload_names.specs.declared.names.OpName.{OpName}
use Rattle.lload_names.specs.declared.names.PartName.{PartName}
use Rattle.lload_names.specs.declared.names.Posted.{Posted}
use Rattle.lload_names.specs.declared.names.What.{What}
use Rattle.lload_names.specs.declared.names.What.TheVariants as what
use Rattle.lload_spec.specs.Answers.{Sending, asks_who, closing_at, sending_made, sendings}
use Rattle.lload_spec.specs.BadMessages.{is_bad, is_bad_for, is_bad_other, is_bad_own, is_bad_stray, is_bad_who, is_ignored}
use Rattle.lload_spec.specs.BadMessages as bad
use Rattle.lload_spec.specs.Entries.{is_down, is_linked, sent_message}
use Rattle.lload_spec.specs.Journal.{Family, same_op}
use Rattle.lload_spec.specs.Lists.{agrees, each_split_from, implies, passes}
use Rattle.lload_spec.specs.Operations.{Operation, is_final_for, is_simple_bind, operation}
use Rattle.lload_spec.specs.Settings.{Settings, is_of_kind}
use Rattle.lload_spec.specs.Strict.{is_empty, lives_as_connection, may_follow_down}
use Rattle.lload_spec.proofs.Growth.{left, right, both}
use Rattle.lload_laws.specs.ConnectionGrowth.{later_sending}
use Rattle.lload_laws.proofs.ConnectionGrowth.{sendings_grow}
use Rattle.lload_laws.proofs.ListLaws.{all_always, any-map, any_imply, find-map, found, found_passes}
use Rattle.part_laws.proofs.ListLaws.{any_before, any_behind, not_true, or_left, same_number, same_op_refl}
use Rattle.part_spec.specs.BindTurn.{kept_rest}
use Rattle.part_spec.specs.ConnectionState.{ConnectionState, Kept, UpRow, is_bind_row, is_under, is_under_who, keeps_back, message_facts, open_request, step_connection}
use Rattle.part_spec.specs.Fit.{ConnectionLedger, step_connection_ledger}
use Rattle.part_spec.specs.Gives.{connection_gives, connection_letters}
use Rattle.part_spec.specs.Marked.{Marked, Taken, entries}
use Rattle.connection_laws.proofs.Permits.{push_entry}
use Rattle.connection_laws.proofs.Rows.{is_sound}
use Rattle.bind_laws.proofs.BindShare.{begins_alone}
use Rattle.bind_laws.proofs.Lone.{no_own}
use Rattle.bind_laws.proofs.Meets.{code_apart}
use Rattle.bind_laws.proofs.Sents.{IsLive}
use Rattle.bind_laws.proofs.Tells.{RowsAre, SentsAre}
use Rattle.client_answer_laws.proofs.Each.{each_found}
use Rattle.carried_laws.proofs.BindReplies.{closes}
use Rattle.carried_laws.proofs.Replies.{closing_stays}
use Rattle.carried_laws.proofs.TurnHeads.{is_no_message}
use Rattle.rows_laws.proofs.Known.{AtEach, Known}
use Rattle.rows_laws.proofs.Live.{Live}
use Rattle.rows_laws.proofs.Somewhere.{OneIn}
use Rattle.upstream_laws.proofs.Heads.{AtHeads, Head, Tail}
use Rattle.told_laws.proofs.Given.{all_pass, letters_pass}

-- whether a Sent of this operation is settled by an answer that tells an identity
abbrev pub is_settled_known : Settings → OpName → Operation → Sending → Bool
is_settled_known s op o sent = same_op op sent.op && passes tells_who (closing_at s o sent)

-- whether an answer is a success to a Bind whose identity is asked for
abbrev pub is_kept_success : Settings → List ℕ → Operation → Bool
is_kept_success s rest o = asks_who s o && (is_final_for o.request rest && has_code success rest)

abbrev pub is_known_success : Settings → OpName → List ℕ → List Sending → Operation → Bool
is_known_success s op rest sents o = implies (is_kept_success s rest o) (list_any (is_settled_known s op o) sents)

-- whether a letter, where it is such an answer, is of an operation that one of these Sents settles so
abbrev pub is_success_settled : Settings → Family → List Sending → Letter → Bool
is_success_settled s F sents (Reply op rest is_last who) = passes (is_known_success s op rest sents) (operation F op)
is_success_settled s F sents _ = true

-- what settles a Sent so stays as its list grows
module _ (s : Settings) (u : ℕ) (op : OpName) (o : Operation) where
  known_later : (e : Entry) (sent : Sending) → is_settled_known s op o sent ≡ true → is_settled_known s op o (later_sending e sent) ≡ true
  known_later e sent h = both (same_op op sent.op) _ (left (same_op op sent.op) _ h) (by (closing_at s o sent) refl (right (same_op op sent.op) _ h))
    where
      by : (q : Option (List ℕ)) → closing_at s o sent ≡ q → passes tells_who q ≡ true → passes tells_who (closing_at s o (later_sending e sent)) ≡ true
      by None k j = absurd (let bad : false ≡ true = j in cc)
      by (Some a) k j = ap (passes tells_who) (closing_stays s o sent e a k) ∙ j

  known_push : (L : List Entry) (e : Entry) → list_any (λ x. is_settled_known s op o (later_sending e x)) (sendings u L) ≡ true → list_any (is_settled_known s op o) (sendings u (L ++ e ∷ [])) ≡ true
  known_push L e h = ap (list_any (is_settled_known s op o)) (sendings_grow u L e) ∙ any_before (is_settled_known s op o) (map (later_sending e) (sendings u L)) (sending_made u L e [] (sent_message e.what)) (any-map (is_settled_known s op o) (later_sending e) (sendings u L) ∙ h)

  known_grows : (L M : List Entry) → list_any (is_settled_known s op o) (sendings u L) ≡ true → list_any (is_settled_known s op o) (sendings u (L ++ M)) ≡ true
  known_grows L [] h = subst (λ l. list_any (is_settled_known s op o) (sendings u l) ≡ true) (sym (append-nil L)) h
  known_grows L (e ∷ M) h = subst (λ l. list_any (is_settled_known s op o) (sendings u l) ≡ true) (append_assoc L (e ∷ []) M) (known_grows (L ++ e ∷ []) M (known_push L e (any_imply (is_settled_known s op o) (λ x. is_settled_known s op o (later_sending e x)) (sendings u L) (known_later e) h)))

-- the row that is found is the one row, of the one live Sent
one_row : {C : Type 0} (s : Settings) (F : Family) (n : ℕ) (rows : List UpRow) (live : List Sending) → RowsAre s F n rows live [] → (t : UpRow → Bool) (r : UpRow) → find t rows ≡ Some r → ((x : Sending) → live ≡ x ∷ [] → rows ≡ r ∷ [] → IsLive s F n r x [] → C) → C
one_row s F n [] live h t r e f = absurd (let bad : None ≡ Some r = e in cc)
one_row s F n (q ∷ []) [] h t r e f = absurd h
one_row {C} s F n (q ∷ []) (x ∷ []) h t r e f = by (t q) e
  where
    by : (b : Bool) → (if b then Some q else None) ≡ Some r → C
    by true k = let same : q ≡ r = cc in f x refl (ap (λ y. y ∷ []) same) (subst (λ (y : UpRow). IsLive s F n y x []) same h)
    by false k = absurd (let bad : None ≡ Some r = k in cc)
one_row s F n (q ∷ []) (x ∷ y ∷ xs) h t r e f = absurd h
one_row s F n (q ∷ y ∷ rows) live h t r e f = absurd h

-- what answers a Who Am I and isn't bad is an extended response, or an intermediate one
answers_who : (p : ConnectionState) (m : Message) (r : UpRow) → p.own_bind ≡ None → p.rows ≡ r ∷ [] → find (is_under m.id) p.rows ≡ None → is_under_who m.id r ≡ true → is_bad (message_facts p) m ≡ false → is_intermediate m.rest ≡ false → (tag_of m.rest == extended_response) ≡ true
answers_who p m r own only none under good i = by (m.id == 0) (tag_of m.rest == extended_response) (is_intermediate m.rest) i (sym bad_is ∙ good)
  where
    bad_is : is_bad (message_facts p) m ≡ (if is_ignored m then false else is_bad_who m)
    bad_is =
        ap (λ o. if is_ignored m then false else if passes (λ id. id == m.id) (elim o [ None ↦ None | Some own ↦ Some own.id ]) then is_bad_own m else is_bad_other (message_facts p) m) own
        ∙ ap (λ q. if is_ignored m then false else is_bad_for (message_facts p) m q) (find-map (bad.is_under m.id) open_request p.rows ∙ ap (option_map open_request) none)
        ∙ ap (λ b. if is_ignored m then false else if b then is_bad_who m else is_bad_stray (message_facts p) m) (any-map (bad.is_under_who m.id) open_request p.rows ∙ ap (list_any (is_under_who m.id)) only ∙ ap (λ b. b || false) under)

    by : (z t k : Bool) → k ≡ false → (if z && t then false else not (k || t)) ≡ false → t ≡ true
    by z true k e h = refl
    by z false true e h = absurd (let bad : true ≡ false = e in cc)
    by true false false e h = absurd (let bad : true ≡ false = h in cc)
    by false false false e h = absurd (let bad : true ≡ false = h in cc)

module _ (s : Settings) (F : Family) where
  -- an answer to a Bind that isn't kept back
  plain_settled : (sents : List Sending) (n : ℕ) (r : UpRow) (x : Sending) → IsLive s F n r x [] → (rest : List ℕ) → (is_intermediate rest || has_code bind_in_progress rest || not (keeps_back r rest)) ≡ true → (is_last : Bool) → is_success_settled s F sents (Reply r.op rest is_last None) ≡ true
  plain_settled sents n r x h rest k is_last = ap (passes (is_known_success s r.op rest sents)) (ap (operation F) (sym h.op) ∙ h.found) ∙ ap (λ b. implies b (list_any (is_settled_known s r.op h.o) sents)) not_kept
    where
      by : (a i c f z : Bool) → (i ≡ true → f ≡ false) → (c ≡ true → z ≡ false) → (i || c || not (a && z)) ≡ true → (a && (f && z)) ≡ false
      by false i c f z g h j = refl
      by true i c false z g h j = refl
      by true i c true false g h j = refl
      by true true c true true g h j = g refl
      by true false true true true g h j = h refl
      by true false false true true g h j = absurd (let bad : false ≡ true = j in cc)

      not_kept : is_kept_success s rest h.o ≡ false
      not_kept = ap (λ kind. asks_who s h.o && (passes (λ y. is_final y rest) kind && has_code success rest)) h.kind ∙ ap (λ a. a && (is_final Bind rest && has_code success rest)) h.asks ∙ by r.ask_who (is_intermediate rest) (has_code bind_in_progress rest) (is_final Bind rest) (has_code success rest) (λ e. ap (λ t. t == 0x61) (same_number (tag_of rest) 0x79 e)) (code_apart rest) k

  -- the identity that the answer to Who Am I tells
  module _ (u : ℕ) (place : List Entry) (p : ConnectionState) (part : PartName) (at : ℕ) (m : Message) (more : List Entry) where
    abbrev got : Entry
    got = record { part = part; at = at; what = what.Got m.id m.rest }

    abbrev sents : List Sending
    sents = sendings u ((place ++ record { part = part; at = at; what = what.Got m.id m.rest } ∷ []) ++ more)

    told_settled : (n : ℕ) (r : UpRow) (x : Sending) → IsLive s F n r x [] → (done : List Sending) → sendings u place ≡ done ++ x ∷ [] → is_under_who m.id r ≡ true → (tag_of m.rest == extended_response) ≡ true → tells_who m.rest ≡ true → is_success_settled s F sents (Reply r.op (kept_rest r) true (who_value m.rest)) ≡ true
    told_settled n r x h done split under tag tells = ap (passes (is_known_success s r.op (kept_rest r) sents)) (ap (operation F) (sym h.op) ∙ h.found) ∙ implied_by (is_kept_success s (kept_rest r) h.o) (waiting r.kept refl under)
      where
        implied_by : (b : Bool) → list_any (is_settled_known s r.op h.o) sents ≡ true → implies b (list_any (is_settled_known s r.op h.o) sents) ≡ true
        implied_by true j = j
        implied_by false j = refl

        settled : (kept : Kept) (w : ℕ) → r.kept ≡ Some kept → kept.who ≡ Some w → (w == m.id) ≡ true → list_any (is_settled_known s r.op h.o) sents ≡ true
        settled kept w k asked same =
            known_grows s u r.op h.o (place ++ got ∷ []) more (known_push s u r.op h.o place got (ap (list_any (λ y. is_settled_known s r.op h.o (later_sending got y))) split ∙ any_behind (λ y. is_settled_known s r.op h.o (later_sending got y)) done (x ∷ []) (or_left (is_settled_known s r.op h.o (later_sending got x)) false (both (same_op r.op x.op) _ (ap (same_op r.op) h.op ∙ same_op_refl r.op) (ap (passes tells_who) (closes s F u place p part at m n r x h kept w k asked same tag) ∙ tells)))))

        waiting : (o : Option Kept) → r.kept ≡ o → passes (λ w. w == m.id) (elim o [ None ↦ None | Some k ↦ k.who ]) ≡ true → list_any (is_settled_known s r.op h.o) sents ≡ true
        waiting None e j = absurd (let bad : false ≡ true = j in cc)
        waiting (Some k) e j = on k.who refl j
          where
            on : (o : Option ℕ) → k.who ≡ o → passes (λ w. w == m.id) o ≡ true → list_any (is_settled_known s r.op h.o) sents ≡ true
            on None f i = absurd (let bad : false ≡ true = i in cc)
            on (Some w) f i = settled k w e f i

  -- A bind connection.
  module _ (u : ℕ) (kind : is_of_kind s BindKind u ≡ true) where
    head_settled : (before : List Marked) (l : ConnectionLedger) (part : PartName) (at : ℕ) (mark : Option Taken) (w : What) (more : List Entry) → Head s F u before l → lives_as_connection (entries before) (record { part = part; at = at; what = w }) ≡ true → all_pass (is_success_settled s F (sendings u ((entries before ++ record { part = part; at = at; what = w } ∷ []) ++ more))) s l.state (connection_letters s l.state at mark w) ≡ true
    head_settled before l part at mark w more h life =
        letters_pass (is_success_settled s F (sents_by w)) s l.state at mark w (record {
          ended = λ o v late. refl;
          up = λ v. refl;
          retired = λ v. refl;
          down = λ v. refl;
          replied = λ id rest e fine r f back is_last. one_row s F l.state.ids.next l.state.rows (known id rest e).live (known id rest e).are (is_under id) r f (λ x alone only live. plain_settled (sents_by w) l.state.ids.next r x live rest (back is_bind) is_last);
          told = λ id rest e fine sort r none f i tells. one_row s F l.state.ids.next l.state.rows (known id rest e).live (known id rest e).are (is_under_who id) r f (λ x alone only live. subst (λ v. is_success_settled s F (sents_by v) (Reply r.op (kept_rest r) true (who_value rest)) ≡ true) (sym e) (told_settled u (entries before) l.state part at (record { id = id; rest = rest }) more l.state.ids.next r x live (known id rest e).done ((known id rest e).split ∙ ap (λ xs. (known id rest e).done ++ xs) alone) (found_passes (is_under_who id) l.state.rows r f) (answers_who l.state (record { id = id; rest = rest }) r own only none (found_passes (is_under_who id) l.state.rows r f) fine i) tells));
          unknown = λ id rest e fine sort r f g i t. refl;
          expired = λ o e. refl;
          missed = λ o e. refl;
          lost = λ why e. all_always (λ (r : UpRow). true) l.state.rows (λ r. refl);
        })
      where
        sents_by : What → List Sending
        sents_by v = sendings u ((entries before ++ record { part = part; at = at; what = v } ∷ []) ++ more)

        is_bind : l.state.kind ≡ BindKind
        is_bind = h.knows.keeps.stands.kind

        own : l.state.own_bind ≡ None
        own = no_own s u (entries before) l.state (begins_alone s u kind) h.knows.keeps.keeps.stands.own

        not_down : (id : ℕ) (rest : List ℕ) → w ≡ what.Got id rest → l.state.down ≡ false
        not_down id rest e = h.knows.keeps.keeps.stands.says.down ∙ by (list_any is_down (entries before)) (may_follow_down w) (right (agrees (is_linked w) (is_empty (entries before))) _ (left (agrees (is_linked w) (is_empty (entries before)) && implies (list_any is_down (entries before)) (may_follow_down w)) _ life)) (ap may_follow_down e)
          where
            by : (a b : Bool) → implies a b ≡ true → b ≡ false → a ≡ false
            by false b k j = refl
            by true b k j = absurd (let bad : false ≡ true = sym j ∙ k in cc)

        known : (id : ℕ) (rest : List ℕ) → w ≡ what.Got id rest → SentsAre s F u (entries before) l.state.ids.next l.state.rows []
        known id rest e = (h.knows.tells h.told).sents (not_down id rest e) refl

    tail_settled : (sents : List Sending) (p : ConnectionState) (m : Marked) → Tail m → all_pass (is_success_settled s F sents) s p (connection_letters s p m.entry.at m.mark m.entry.what) ≡ true
    tail_settled sents p m t =
        letters_pass (is_success_settled s F sents) s p m.entry.at m.mark m.entry.what (record {
          ended = λ o v late. refl;
          up = λ v. refl;
          retired = λ v. refl;
          down = λ v. refl;
          replied = λ id rest e fine r f back is_last. absurd (let bad : false ≡ true = ap is_no_message (sym e) ∙ t.quiet in cc);
          told = λ id rest e fine sort r none f i tells. absurd (let bad : false ≡ true = ap is_no_message (sym e) ∙ t.quiet in cc);
          unknown = λ id rest e fine sort r f g i tells. refl;
          expired = λ o e. refl;
          missed = λ o e. refl;
          lost = λ why e. all_always (λ (r : UpRow). true) p.rows (λ r. refl);
        })

    pub bind_settled : (whole : List Entry) (ms before : List Marked) (l : ConnectionLedger) → entries before ++ entries ms ≡ whole → AtHeads s F u before l ms → each_split_from (λ place (e : Entry) behind. lives_as_connection place e) (entries before) (entries ms) ≡ true → all_pass (is_success_settled s F (sendings u whole)) s l.state (connection_gives s l.state ms) ≡ true
    bind_settled whole [] before l is h life = refl
    bind_settled whole (m ∷ ms) before l is h life =
        list_all-append (λ (x : Posted). is_success_settled s F (sendings u whole) x.letter) (connection_letters s l.state m.entry.at m.mark m.entry.what) (connection_gives s (step_connection s l.state m) ms)
        ∙ both (all_pass (is_success_settled s F (sendings u whole)) s l.state (connection_letters s l.state m.entry.at m.mark m.entry.what)) _ (here h.0)
        (bind_settled whole ms (before ++ m ∷ []) (step_connection_ledger s l m) (ap (λ b. b ++ entries ms) (push_entry before m) ∙ grown) h.1 (subst (λ place. each_split_from (λ b (e : Entry) behind. lives_as_connection b e) place (entries ms) ≡ true) (sym (push_entry before m)) (right (lives_as_connection (entries before) m.entry) _ life)))
      where
        grown : (entries before ++ m.entry ∷ []) ++ entries ms ≡ whole
        grown = append_assoc (entries before) (m.entry ∷ []) (entries ms) ∙ is

        here : Head s F u before l ⊎ Tail m → all_pass (is_success_settled s F (sendings u whole)) s l.state (connection_letters s l.state m.entry.at m.mark m.entry.what) ≡ true
        here (inl a) = subst (λ es. all_pass (is_success_settled s F (sendings u es)) s l.state (connection_letters s l.state m.entry.at m.mark m.entry.what) ≡ true) grown (head_settled before l m.entry.part m.entry.at m.mark m.entry.what (entries ms) a (left (lives_as_connection (entries before) m.entry) _ life))
        here (inr a) = tail_settled (sendings u whole) l.state m a

  -- A regular connection answers no Bind.
  module _ (u : ℕ) (sents : List Sending) where
    from_one : {C : Type 0} (P : Sending → Type 0) (xs : List Sending) → OneIn P xs → ((x : Sending) → P x → C) → C
    from_one P [] h f = absurd h
    from_one P (x ∷ xs) (inl h) f = f x h
    from_one P (x ∷ xs) (inr h) f = from_one P xs h f

    row_settled : (place : List Entry) (r : UpRow) (x : Sending) → is_sound u place r ≡ true → Live s F r x → (rest : List ℕ) (is_last : Bool) → is_success_settled s F sents (Reply r.op rest is_last None) ≡ true
    row_settled place r x sound live rest is_last = ap (passes (is_known_success s r.op rest sents)) (ap (operation F) (sym live.op) ∙ live.found) ∙ ap (λ b. implies (s.proxies_authorization && b && not (passes is_simple_bind (request live.o.request.rest)) && (is_final_for live.o.request rest && has_code success rest)) (list_any (is_settled_known s r.op live.o) sents)) (ap (passes (same_kind Bind)) live.kind ∙ not_true (is_bind_row r) (left (not (is_bind_row r)) _ (left (not (is_bind_row r) && _) _ sound))) ∙ never s.proxies_authorization
      where
        never : (a : Bool) → implies (a && false && not (passes is_simple_bind (request live.o.request.rest)) && (is_final_for live.o.request rest && has_code success rest)) (list_any (is_settled_known s r.op live.o) sents) ≡ true
        never true = refl
        never false = refl

    pub regular_settled : (ms before : List Marked) (l : ConnectionLedger) → AtEach s (Known s F u) before l ms → all_pass (is_success_settled s F sents) s l.state (connection_gives s l.state ms) ≡ true
    regular_settled [] before l h = refl
    regular_settled (m ∷ ms) before l h =
        list_all-append (λ (x : Posted). is_success_settled s F sents x.letter) (connection_letters s l.state m.entry.at m.mark m.entry.what) (connection_gives s (step_connection s l.state m) ms)
        ∙ both (all_pass (is_success_settled s F sents) s l.state (connection_letters s l.state m.entry.at m.mark m.entry.what)) _
        (letters_pass (is_success_settled s F sents) s l.state m.entry.at m.mark m.entry.what (record {
          ended = λ o v late. refl;
          up = λ v. refl;
          retired = λ v. refl;
          down = λ v. refl;
          replied = λ id rest e fine r f back is_last. from_one (λ x. Live s F r x) (sendings u (entries before)) (each_found (λ q. OneIn (λ x. Live s F q x) (sendings u (entries before))) (is_under id) l.state.rows r f h.0.lives.of_rows) (λ x live. row_settled (entries before) r x (found (is_sound u (entries before)) (is_under id) l.state.rows r f h.0.sound) live rest is_last);
          told = λ id rest e fine sort r none f i tells. absurd (let bad : Regular ≡ BindKind = sym h.0.kind ∙ sort in cc);
          unknown = λ id rest e fine sort r f g i tells. refl;
          expired = λ o e. refl;
          missed = λ o e. refl;
          lost = λ why e. all_always (λ (r : UpRow). true) l.state.rows (λ r. refl);
        }))
        (regular_settled ms (before ++ m ∷ []) (step_connection_ledger s l m) h.1)
