-- What answers and settles an operation at a connection, in a list that grows by an entry.
use Rattle.std.proofs.Common.{◌≡◌, ℕ, Bool, true, false, ◌&&◌, ◌||◌, not, List, [], ◌∷◌, ◌++◌, refl, ap, ◌∙◌, sym, append_assoc}
use Rattle.std.specs.Prelude.{Option, Some, None, flat_map, is_some, is_none, if◌then◌else◌, map}
use Rattle.std.specs.List.{list_any, list_all}
use Rattle.std.specs.Option.{option_and_then, option_map, option_or}
use Rattle.std.proofs.lemmas.List.{append-nil}
use Rattle.std.proofs.lemmas.List.Folds.{list_all-append}
use Rattle.ldap_spec.specs.Messages.{Message}
use Rattle.ldap_spec.specs.Responses.{result_code}
use Rattle.lload_names.specs.declared.names.Entry.{Entry}
use Rattle.lload_names.specs.declared.names.OpKind.TheVariants.{Bind}
use Rattle.lload_spec.specs.Lists.{passes}
use Rattle.lload_spec.specs.Settings.{Settings}
use Rattle.lload_spec.specs.Journal.{Family}
use Rattle.lload_spec.specs.Entries.{got_message, Named, sent_message, is_down, is_expired}
use Rattle.lload_spec.specs.Operations.{Operation, operation, is_of, is_final_for}
use Rattle.lload_spec.specs.Answers.{Sending, Final, gives_id, answer_of, final_under, final_answer, extended_rest, extended_under, who_id, who_answer, closing_by, closing_at, asks_who, is_kept_back, sendings_from, sending_made, is_open, is_abandoned_at}
use Rattle.lload_spec.specs.Identifiers.{Ids, freed_id, frees, ids_behind, ids_from, ids_at, is_given_up, no_ids}
use Rattle.lload_spec.specs.BadMessages.{OpenRequest}
use Rattle.lload_spec.specs.CausedUp.{open_request}
use Rattle.lload_laws.specs.ConnectionGrowth.{later_sending}
use Rattle.lload_spec.proofs.Growth.{left, right, both}
use Rattle.lload_laws.proofs.ListLaws.{any_imply}
use Rattle.part_laws.proofs.ListLaws.{any_before, any_behind, or_left, or_right}
use Rattle.connection_laws.proofs.Apart.{or_false_right}

-- a final answer stays, with the entry behind it
abbrev later_final : Entry → Final → Final
later_final e f = record { rest = f.rest; behind = f.behind ++ e ∷ [] }

pub final_more : (request : Message) (id : ℕ) (es : List Entry) (e : Entry) (f : Final) → final_under request id es ≡ Some f → final_under request id (es ++ e ∷ []) ≡ Some (record { rest = f.rest; behind = f.behind ++ e ∷ [] })
final_more request id [] e f h = absurd (let no : None ≡ Some f = h in cc)
final_more request id (x ∷ es) e f h = by (gives_id id x) (answer_of request id x) h (final_more request id es e f)
  where
    text : Bool → Option (List ℕ) → List Entry → Option Final → Option Final
    text g a behind later = if g then None else if passes (is_final_for request) a then option_map (λ r. record { rest = r; behind = behind }) a else later

    by : (g : Bool) (a : Option (List ℕ)) → text g a es (final_under request id es) ≡ Some f → (final_under request id es ≡ Some f → final_under request id (es ++ e ∷ []) ≡ Some (record { rest = f.rest; behind = f.behind ++ e ∷ [] })) → text g a (es ++ e ∷ []) (final_under request id (es ++ e ∷ [])) ≡ Some (record { rest = f.rest; behind = f.behind ++ e ∷ [] })
    by true a k more = absurd (let no : None ≡ Some f = k in cc)
    by false None k more = more k
    by false (Some r) k more = final (is_final_for request r) k
      where
        final : (b : Bool) → (if b then Some (record { rest = r; behind = es }) else final_under request id es) ≡ Some f → (if b then Some (record { rest = r; behind = es ++ e ∷ [] }) else final_under request id (es ++ e ∷ [])) ≡ Some (record { rest = f.rest; behind = f.behind ++ e ∷ [] })
        final true j = let same : record { rest = r; behind = es } ≡ f = cc in ap (λ q. Some (record { rest = q.rest; behind = q.behind ++ e ∷ [] })) same
        final false j = more j

-- where there is none yet, and the identifier isn't given again, the entry alone says it
pub final_push : (request : Message) (id : ℕ) (es : List Entry) (e : Entry) → final_under request id es ≡ None → list_any (gives_id id) es ≡ false → final_under request id (es ++ e ∷ []) ≡ final_under request id (e ∷ [])
final_push request id [] e h k = refl
final_push request id (x ∷ es) e h k = by (gives_id id x) (answer_of request id x) h k (final_push request id es e)
  where
    text : Bool → Option (List ℕ) → List Entry → Option Final → Option Final
    text g a behind later = if g then None else if passes (is_final_for request) a then option_map (λ r. record { rest = r; behind = behind }) a else later

    by : (g : Bool) (a : Option (List ℕ)) → text g a es (final_under request id es) ≡ None → (g || list_any (gives_id id) es) ≡ false → (final_under request id es ≡ None → list_any (gives_id id) es ≡ false → final_under request id (es ++ e ∷ []) ≡ final_under request id (e ∷ [])) → text g a (es ++ e ∷ []) (final_under request id (es ++ e ∷ [])) ≡ final_under request id (e ∷ [])
    by true a j i more = absurd (let no : true ≡ false = i in cc)
    by false None j i more = more j i
    by false (Some r) j i more = final (is_final_for request r) j
      where
        final : (b : Bool) → (if b then Some (record { rest = r; behind = es }) else final_under request id es) ≡ None → (if b then Some (record { rest = r; behind = es ++ e ∷ [] }) else final_under request id (es ++ e ∷ [])) ≡ final_under request id (e ∷ [])
        final true q = absurd (let no : Some (record { rest = r; behind = es }) ≡ None = q in cc)
        final false q = more q i

-- the Who Am I that a list begins with, and its answer
pub who_more : (es : List Entry) (e : Entry) (w : ℕ) → who_id es ≡ Some w → who_id (es ++ e ∷ []) ≡ Some w
who_more [] e w h = absurd (let no : None ≡ Some w = h in cc)
who_more (x ∷ es) e w h = h

pub extended_push : (w : ℕ) (es : List Entry) (e : Entry) → extended_under w (es ++ e ∷ []) ≡ option_or (extended_under w es) (extended_under w (e ∷ []))
extended_push w [] e = refl
extended_push w (x ∷ es) e = by (option_and_then (extended_rest w) (got_message x.what)) (extended_push w es e)
  where
    by : (o : Option (List ℕ)) → extended_under w (es ++ e ∷ []) ≡ option_or (extended_under w es) (extended_under w (e ∷ [])) → option_or o (extended_under w (es ++ e ∷ [])) ≡ option_or (option_or o (extended_under w es)) (extended_under w (e ∷ []))
    by None k = k
    by (Some r) k = refl

who_answer_stays : (es : List Entry) (e : Entry) → is_some (who_answer es) ≡ true → is_some (who_answer (es ++ e ∷ [])) ≡ true
who_answer_stays [] e h = absurd (let no : false ≡ true = h in cc)
who_answer_stays (x ∷ es) e h = by (who_id (x ∷ es)) h
  where
    some : (o q : Option (List ℕ)) → is_some o ≡ true → is_some (option_or o q) ≡ true
    some None q j = absurd (let no : false ≡ true = j in cc)
    some (Some r) q j = refl

    by : (o : Option ℕ) → is_some (elim o [ None ↦ None | Some id ↦ extended_under id (x ∷ es) ]) ≡ true → is_some (elim o [ None ↦ None | Some id ↦ extended_under id ((x ∷ es) ++ e ∷ []) ]) ≡ true
    by None j = absurd (let no : false ≡ true = j in cc)
    by (Some w) j = ap is_some (extended_push w (x ∷ es) e) ∙ some (extended_under w (x ∷ es)) (extended_under w (e ∷ [])) j

-- what settles an operation settles it in a longer list
pub closing_stays : (s : Settings) (o : Operation) (sent : Sending) (e : Entry) → is_some (closing_at s o sent) ≡ true → is_some (closing_at s o (later_sending e sent)) ≡ true
closing_stays s o sent e h = by (final_answer o sent) refl h
  where
    closing_of : Option Final → Option (List ℕ)
    closing_of q = elim q [ None ↦ None | Some f ↦ closing_by s o f ]

    closes : (a b : Bool) (r : List ℕ) (es : List Entry) → is_some (if a then None else if b then who_answer es else Some r) ≡ true → is_some (if a then None else if b then who_answer (es ++ e ∷ []) else Some r) ≡ true
    closes true b r es k = k
    closes false true r es k = who_answer_stays es e k
    closes false false r es k = k

    by : (q : Option Final) → final_answer o sent ≡ q → is_some (elim q [ None ↦ None | Some f ↦ closing_by s o f ]) ≡ true → is_some (closing_at s o (later_sending e sent)) ≡ true
    by None g k = absurd (let no : false ≡ true = k in cc)
    by (Some f) g k = ap (λ q. is_some (closing_of q)) (final_more o.request sent.id sent.behind e f g) ∙ closes (is_of Bind o && is_none (result_code f.rest)) (is_kept_back (asks_who s o) f.rest) f.rest f.behind k

-- Sent entries of settled operations: they stay settled, and their identifiers are freed no more.
abbrev pub is_closed : Settings → Family → Sending → Bool
is_closed s F sent = passes (λ o. is_some (closing_at s o sent)) (operation F sent.op)

pub closed_stay : (s : Settings) (F : Family) (e : Entry) (sents : List Sending) → list_all (is_closed s F) sents ≡ true → list_all (is_closed s F) (map (later_sending e) sents) ≡ true
closed_stay s F e [] h = refl
closed_stay s F e (sent ∷ sents) h = both (is_closed s F (later_sending e sent)) _ (by (operation F sent.op) (left (is_closed s F sent) _ h)) (closed_stay s F e sents (right (is_closed s F sent) _ h))
  where
    by : (q : Option Operation) → passes (λ o. is_some (closing_at s o sent)) q ≡ true → passes (λ o. is_some (closing_at s o (later_sending e sent))) q ≡ true
    by None k = k
    by (Some o) k = closing_stays s o sent e k

pub closed_free_none : (s : Settings) (F : Family) (e : Entry) (sents : List Sending) → list_all (is_closed s F) sents ≡ true → flat_map (freed_id s F e) sents ≡ []
closed_free_none s F e [] h = refl
closed_free_none s F e (sent ∷ sents) h = ap (λ l. l ++ flat_map (freed_id s F e) sents) (ap (λ b. if b then sent.id ∷ [] else []) (by (operation F sent.op) (left (is_closed s F sent) _ h))) ∙ closed_free_none s F e sents (right (is_closed s F sent) _ h)
  where
    none : (a : Bool) (c : Option (List ℕ)) (d : Bool) → is_some c ≡ true → (a && (is_none c && d)) ≡ false
    none a None d k = absurd (let no : false ≡ true = k in cc)
    none true (Some r) d k = refl
    none false (Some r) d k = refl

    by : (q : Option Operation) → passes (λ o. is_some (closing_at s o sent)) q ≡ true → passes (λ o. frees s e o sent) q ≡ false
    by None k = absurd (let no : false ≡ true = k in cc)
    by (Some o) k = none (not (is_given_up o sent)) (closing_at s o sent) (is_some (closing_at s o (later_sending e sent))) k

-- the identifiers behind an entry more
pub ids_push : (s : Settings) (F : Family) (u : ℕ) (place : List Entry) (e : Entry) → ids_at s F u (place ++ e ∷ []) ≡ ids_behind s F u place e (ids_at s F u place)
ids_push s F u place e = from no_ids [] place
  where
    from : (i : Ids) (before es : List Entry) → ids_from s F u i before (es ++ e ∷ []) ≡ ids_behind s F u (before ++ es) e (ids_from s F u i before es)
    from i before [] = ap (λ b. ids_behind s F u b e i) (sym (append-nil before))
    from i before (x ∷ es) = from (ids_behind s F u before x i) (before ++ x ∷ []) es ∙ ap (λ b. ids_behind s F u b e (ids_from s F u (ids_behind s F u before x i) (before ++ x ∷ []) es)) (append_assoc before (x ∷ []) es)

-- What stands behind a Sent stands in the list.
pub none_behind : (u : ℕ) (t : Entry → Bool) (before es : List Entry) → list_any t es ≡ false → list_all (λ sent. not (list_any t sent.behind)) (sendings_from u before es) ≡ true
none_behind u t before [] h = refl
none_behind u t before (e ∷ es) h = list_all-append (λ sent. not (list_any t sent.behind)) (sending_made u before e es (sent_message e.what)) (sendings_from u (before ++ e ∷ []) es) ∙ both (list_all (λ sent. not (list_any t sent.behind)) (sending_made u before e es (sent_message e.what))) _ (made (sent_message e.what)) (none_behind u t (before ++ e ∷ []) es (or_false_right (t e) _ h))
  where
    made : (o : Option (Named Message)) → list_all (λ sent. not (list_any t sent.behind)) (sending_made u before e es o) ≡ true
    made None = refl
    made (Some y) = both (not (list_any t es)) true (ap not (or_false_right (t e) _ h)) refl

-- behind the end of a connection each Sent has the end behind it
abbrev pub is_lost : Sending → Bool
is_lost sent = list_any is_down sent.behind

pub lost_stay : (e : Entry) (sents : List Sending) → list_all is_lost sents ≡ true → list_all is_lost (map (later_sending e) sents) ≡ true
lost_stay e [] h = refl
lost_stay e (sent ∷ sents) h = both (is_lost (later_sending e sent)) _ (any_before is_down sent.behind (e ∷ []) (left (is_lost sent) _ h)) (lost_stay e sents (right (is_lost sent) _ h))

pub all_lost : (e : Entry) (sents : List Sending) → is_down e ≡ true → list_all is_lost (map (later_sending e) sents) ≡ true
all_lost e [] h = refl
all_lost e (sent ∷ sents) h = both (is_lost (later_sending e sent)) _ (any_behind is_down sent.behind (e ∷ []) (or_left (is_down e) false h)) (all_lost e sents h)

-- what is open of the operation of a Sent
abbrev pub opens_of : Settings → Sending → Option Operation → List OpenRequest
opens_of s sent q = elim q [ None ↦ [] | Some o ↦ elim (is_open s o sent) [ true ↦ open_request s o sent ∷ [] | false ↦ [] ] ]

abbrev pub opens : Settings → Family → Sending → List OpenRequest
opens s F sent = opens_of s sent (operation F sent.op)

-- nothing where it isn't open
pub not_open : (s : Settings) (F : Family) (sents : List Sending) (t : Sending → Bool) → ((sent : Sending) (o : Operation) → operation F sent.op ≡ Some o → t sent ≡ true → is_open s o sent ≡ false) → list_all t sents ≡ true → flat_map (opens s F) sents ≡ []
not_open s F [] t f h = refl
not_open s F (sent ∷ sents) t f h = ap (λ l. l ++ flat_map (opens s F) sents) (by (operation F sent.op) refl) ∙ not_open s F sents t f (right (t sent) _ h)
  where
    by : (q : Option Operation) → operation F sent.op ≡ q → opens_of s sent q ≡ []
    by None e = refl
    by (Some o) e = ap (λ b. elim b [ true ↦ open_request s o sent ∷ [] | false ↦ [] ]) (f sent o e (left (t sent) _ h))

-- a Sent that is settled isn't open, nor is one behind which the connection ended
pub closed_not_open : (s : Settings) (F : Family) (sents : List Sending) → list_all (is_closed s F) sents ≡ true → flat_map (opens s F) sents ≡ []
closed_not_open s F sents h = not_open s F sents (is_closed s F) (λ sent o e k. by (closing_at s o sent) (not (list_any (λ x. is_expired o.name x || is_down x) sent.behind)) (not (is_abandoned_at o sent)) (sym (ap (passes (λ q. is_some (closing_at s q sent))) e) ∙ k)) h
  where
    by : (c : Option (List ℕ)) (a b : Bool) → is_some c ≡ true → (is_none c && a && b) ≡ false
    by None a b k = absurd (let no : false ≡ true = k in cc)
    by (Some r) a b k = refl

pub lost_not_open : (s : Settings) (F : Family) (sents : List Sending) → list_all is_lost sents ≡ true → flat_map (opens s F) sents ≡ []
lost_not_open s F sents h = not_open s F sents is_lost (λ sent o e k. by (is_none (closing_at s o sent)) (list_any (λ x. is_expired o.name x || is_down x) sent.behind) (not (is_abandoned_at o sent)) (any_imply is_down (λ x. is_expired o.name x || is_down x) sent.behind (λ x j. or_right (is_expired o.name x) (is_down x) j) k)) h
  where
    by : (c a b : Bool) → a ≡ true → (c && not a && b) ≡ false
    by c false b k = absurd (let no : false ≡ true = k in cc)
    by true true b k = refl
    by false true b k = refl
