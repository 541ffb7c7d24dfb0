-- What a regular connection tells the desk of an operation's end: the operation is over there, and its latency is right.
use Rattle.std.proofs.Common.{◌≡◌, ◌⊎◌, inl, inr, ℕ, Bool, true, false, ◌==◌, ◌&&◌, ◌||◌, not, List, [], ◌∷◌, ◌++◌, refl, ap, ◌∙◌, sym, subst, append_assoc}
use Rattle.std.proofs.lemmas.List.{append-nil}
use Rattle.std.specs.Prelude.{Option, Some, None, find, flat_map, is_some, map, nat_lt, option_map, if◌then◌else◌}
use Rattle.std.specs.List.{list_any}
use Rattle.std.specs.Str.{bytes_eq}
use Rattle.ldap_spec.specs.Bodies.{abandon}
use Rattle.ldap_spec.specs.Kinds.{fits, is_final, is_intermediate, kind_of, same_kind}
use Rattle.ldap_spec.specs.Messages.{Message}
use Rattle.ldap_spec.specs.Responses.{has_code}
use Rattle.ldap_spec.specs.Tags.{success}
use Rattle.lload_names.specs.declared.names.ConnKind.{ConnKind}
use Rattle.lload_names.specs.declared.names.ConnKind.TheVariants.{Bind as BindKind, Regular}
use Rattle.lload_names.specs.declared.names.EndWhy.{EndWhy}
use Rattle.lload_names.specs.declared.names.EndWhy.TheVariants.{Bad, OwnBind as OwnBindFailed}
use Rattle.lload_names.specs.declared.names.Entry.{Entry}
use Rattle.lload_names.specs.declared.names.Letter.{Letter}
use Rattle.lload_names.specs.declared.names.Letter.TheVariants.{Forward, IsDown}
use Rattle.lload_names.specs.declared.names.OpKind.{OpKind}
use Rattle.lload_names.specs.declared.names.OpKind.TheVariants.{Bind}
use Rattle.lload_names.specs.declared.names.OpName.{OpName}
use Rattle.lload_names.specs.declared.names.PartName.{PartName}
use Rattle.lload_names.specs.declared.names.PartName.TheVariants.{Client, Desk}
use Rattle.lload_names.specs.declared.names.Refusal.TheVariants.{C4, C5}
use Rattle.lload_names.specs.declared.names.What.{What}
use Rattle.lload_names.specs.declared.names.What.TheVariants as what
use Rattle.lload_spec.specs.Answers.{Sending, answer_of, final_answer, gives_id, reign, sendings, sending_made}
use Rattle.lload_spec.specs.BadMessages.{is_bad}
use Rattle.lload_spec.specs.CausedUp.{is_missed_caused, is_stopped as is_stopped_at}
use Rattle.lload_spec.specs.Entries.{Named, is_down, is_expired, is_missed, is_own, is_retired, is_sent, missed_op, sent_message}
use Rattle.lload_spec.specs.Identifiers.{has_right_id}
use Rattle.lload_spec.specs.Journal.{Family, same_op, same_part}
use Rattle.lload_spec.specs.Lists.{each_split_from, implies, passes}
use Rattle.lload_spec.specs.Operations.{Operation, is_final_for, is_of, operation}
use Rattle.lload_spec.specs.Owed.{drops, latency_between, latency_by, loses}
use Rattle.lload_spec.specs.Settings.{Settings, is_kind}
use Rattle.lload_spec.proofs.Growth.{left, right, both}
use Rattle.lload_laws.specs.ConnectionGrowth.{later_sending}
use Rattle.lload_laws.proofs.ConnectionGrowth.{sendings_grow}
use Rattle.lload_laws.proofs.ListLaws.{any_imply, found_passes}
use Rattle.part_laws.proofs.ListLaws.{any_before, any_behind, eqb_sym, false_by, none_of_both, not_true, or_elim, or_left, or_right, same_number, same_op_eq, same_op_refl, same_op_sym}
use Rattle.part_spec.specs.ConnectionState.{UpRow, is_abandoned_by, is_bind, is_bind_row, is_stopped, is_under, is_under_own, message_facts, row_named}
use Rattle.part_spec.specs.ConnectionTurn.{comes_up, ended, goes_down, holder_ended, is_due, latency, loss, row_ended}
use Rattle.part_spec.specs.Fit.{ConnectionLedger, fits_connection, is_forward_of, is_of_its_kind}
use Rattle.part_spec.specs.Gives.{abandoned_ended, connection_letters, missed_by, missed_of}
use Rattle.part_spec.specs.Inputs.{act, failed, letters_alone, nothing, reply, to}
use Rattle.part_spec.specs.Marked.{Marked, Taken, entries}
use Rattle.part_spec.specs.Marks.{has_connection_mark, marks_connection}
use Rattle.part_spec.specs.RegularTurn.{answered, missed_letters, own_answer, row_answer}
use Rattle.part_spec.specs.BindTurn.{answered as bind_answered, missed_letters as missed_bind_letters}
use Rattle.part_spec.specs.Share.{is_expired_due, is_expiry_told}
use Rattle.connection_laws.proofs.Closings.{final_push}
use Rattle.connection_laws.proofs.Rows.{is_sound, no_bind, not_kept}
use Rattle.client_answer_laws.proofs.Each.{Each, each_append, each_both, each_found}
use Rattle.rows_laws.proofs.Known.{Known}
use Rattle.rows_laws.proofs.Live.{Live, is_end, opened_before}
use Rattle.rows_laws.proofs.Lives.{Moves, down_shut, is_open_in}
use Rattle.rows_laws.proofs.OwnApart.{below_apart}
use Rattle.rows_laws.proofs.Somewhere.{OneIn, each_flat, one_before, one_map}
use Rattle.rows_laws.proofs.Steps.{expired_shut, got_moves, op_named, own_moves}
use Rattle.rows_laws.proofs.Walk.{Row, each_row}
use Rattle.open_laws.proofs.Among.{Among, Such, among_one}
use Rattle.ended_laws.proofs.Letters.{Ends, OfEnd}
use Rattle.ended_laws.proofs.Reigns.{closes, ended_more, ends, latency_more, latency_now}

-- An operation that was sent, and is over.
pub record OverAt (s : Settings) (F : Family) (u : ℕ) (place : List Entry) (op : OpName) (told : Option ℕ) : Type 0 where
  pub sent : Sending
  pub among : Among sent (sendings u place)
  pub name : same_op op sent.op ≡ true
  pub o : Operation
  pub found : operation F sent.op ≡ Some o
  pub shut : is_open_in s F sent ≡ false
  pub ended : list_any (ends o sent) (reign sent) ≡ true
  pub latency : latency_by o sent (reign sent) ≡ told

-- One that was missed, and so isn't sent.
pub record MissedAt (place : List Entry) (op : OpName) (told : Option ℕ) : Type 0 where
  pub none : told ≡ None
  pub missed : list_any (is_missed op) place ≡ true
  pub unsent : list_any (is_sent op) place ≡ false
  pub stopped : is_stopped_at place ≡ true

abbrev pub Told : Settings → Family → ℕ → List Entry → OpName → Option ℕ → Type 0
Told s F u place op told = OverAt s F u place op told ⊎ MissedAt place op told

-- the Sents of a list stand in a longer one
pub among_more : (u : ℕ) (place : List Entry) (e : Entry) (x : Sending) → Among x (sendings u place) → Among (later_sending e x) (sendings u (place ++ e ∷ []))
among_more u place e x a = subst (Among (later_sending e x)) (sym (sendings_grow u place e)) (one_before (λ y. y ≡ later_sending e x) (map (later_sending e) (sendings u place)) (sending_made u place e [] (sent_message e.what)) (one_map (λ y. y ≡ x) (λ y. y ≡ later_sending e x) (later_sending e) (sendings u place) (λ y k. ap (later_sending e) k) a))

shut_more : (s : Settings) (F : Family) (e : Entry) (x : Sending) → is_open_in s F x ≡ false → is_open_in s F (later_sending e x) ≡ false
shut_more s F e x h = false_by (is_open_in s F (later_sending e x)) (λ k. sym h ∙ opened_before s F e x k)

-- where a connection is stopped, no operation is sent
pub stopped_unsent : (place : List Entry) (e : Entry) → is_missed_caused place e ≡ true → is_stopped_at place ≡ true → sent_message e.what ≡ None
stopped_unsent place e h k = by (sent_message e.what) (right (implies (is_some (missed_op e.what)) (is_stopped_at place)) _ h)
  where
    none : (b : Bool) → b ≡ true → not b ≡ true → false ≡ true
    none true i j = j
    none false i j = i

    by : (q : Option (Named Message)) → implies (is_some q) (not (is_stopped_at place)) ≡ true → q ≡ None
    by None j = refl
    by (Some y) j = absurd (let bad : false ≡ true = none (is_stopped_at place) k j in cc)

pub missed_more : (place : List Entry) (e : Entry) (op : OpName) (told : Option ℕ) → is_missed_caused place e ≡ true → MissedAt place op told → MissedAt (place ++ e ∷ []) op told
missed_more place e op told k h = record { none = h.none; missed = any_before (is_missed op) place (e ∷ []) h.missed; unsent = none_of_both (is_sent op) place (e ∷ []) h.unsent (ap (λ b. b || false) (ap (passes (λ y. same_op op y.op)) (stopped_unsent place e k h.stopped))); stopped = any_before (λ y. is_retired y.what || is_down y) place (e ∷ []) h.stopped }

pub told_more : (s : Settings) (F : Family) (u : ℕ) (op : OpName) (told : Option ℕ) (place : List Entry) (e : Entry) → is_missed_caused place e ≡ true → Told s F u place op told → Told s F u (place ++ e ∷ []) op told
told_more s F u op told place e k (inl h) = inl (record { sent = later_sending e h.sent; among = among_more u place e h.sent h.among; name = h.name; o = h.o; found = h.found; shut = shut_more s F e h.sent h.shut; ended = ended_more h.o h.sent e h.ended; latency = latency_more h.o h.sent e h.ended ∙ h.latency })
told_more s F u op told place e k (inr h) = inr (missed_more place e op told k h)

-- what stays with an entry more stays with all
pub stays_all : (P : List Entry → Type 0) → ((place : List Entry) (e : Entry) → is_missed_caused place e ≡ true → P place → P (place ++ e ∷ [])) → (place es : List Entry) → each_split_from (λ b e behind. is_missed_caused b e) place es ≡ true → P place → P (place ++ es)
stays_all P more place [] k h = subst P (sym (append-nil place)) h
stays_all P more place (e ∷ es) k h = subst P (append_assoc place (e ∷ []) es) (stays_all P more (place ++ e ∷ []) es (right (is_missed_caused place e) _ k) (more place e (left (is_missed_caused place e) _ k) h))

-- a Forward that is fit is the first of its operation
pub forward_new : (s : Settings) (l : ConnectionLedger) (sender : PartName) (op : OpName) (sort : OpKind) (rest : List ℕ) (ask : Bool) (holder : OpName) → fits_connection s l sender (Forward op sort rest ask holder) ≡ true → list_any (λ t. is_forward_of op t.letter) l.taken ≡ false
forward_new s l sender op sort rest ask holder h =
    let from_both : Bool = same_part sender (Client op.client) && same_part sender (Client holder.client) in
    let new : Bool = not (list_any (λ t. is_forward_of op t.letter) l.taken) in
    not_true (list_any (λ t. is_forward_of op t.letter) l.taken) (right from_both _ (left (from_both && new) _ (left (from_both && new && l.state.up) _ (left (from_both && new && l.state.up && is_of_its_kind s l.state sort rest ask) _ h))))

-- What is given at an entry.
module _ (s : Settings) (F : Family) (u : ℕ) (before : List Marked) (l : ConnectionLedger) (h : Known s F u before l) (free : l.state.holder ≡ None) (part : PartName) (at : ℕ) (mark : Option Taken) where
  abbrev entry : What → Entry
  entry w = record { part = part; at = at; what = w }

  abbrev sents : List Sending
  sents = sendings u (entries before)

  abbrev So : What → OpName → Option ℕ → Type 0
  So w op told = Told s F u (entries before ++ entry w ∷ []) op told

  abbrev After : What → Type 0
  After w = Ends (So w) (connection_letters s l.state at mark w)

  regular : is_bind l.state ≡ false
  regular = ap (is_kind BindKind) h.kind

  -- the Sent of a row
  abbrev Sent : UpRow → Type 0
  Sent r = (Row (is_sound u (entries before)) r × (nat_lt r.id l.state.ids.next ≡ true)) × OneIn (λ x. Live s F r x) sents

  rows_sent : Each Sent l.state.rows
  rows_sent = each_both (λ r. Row (is_sound u (entries before)) r × (nat_lt r.id l.state.ids.next ≡ true)) (λ r. OneIn (λ x. Live s F r x) sents) l.state.rows (each_both (Row (is_sound u (entries before))) (Row (λ r. nat_lt r.id l.state.ids.next)) l.state.rows (each_row (is_sound u (entries before)) l.state.rows h.sound) (each_row (λ r. nat_lt r.id l.state.ids.next) l.state.rows h.apart.below)) h.lives.of_rows

  -- what ends it, by a Sent that was live
  lost_of : (r : UpRow) (x : Sending) → (k : Live s F r x) → list_any (λ y. drops k.o x y || loses k.o y) x.behind ≡ false
  lost_of r x k = false_by (list_any (λ y. drops k.o x y || loses k.o y) x.behind) (λ j. sym k.going ∙ any_imply (λ y. drops k.o x y || loses k.o y) (is_end k.o x) x.behind (λ y i. wide (not (is_of Bind k.o)) (is_own (abandon x.id) y) (is_expired k.o.name y) (is_down y) i) j)
    where
      wide : (a b c d : Bool) → ((a && b) || (c || d)) ≡ true → (c || b || d) ≡ true
      wide a true true d i = refl
      wide a true false d i = refl
      wide true false true d i = refl
      wide true false false true i = refl
      wide true false false false i = absurd (let bad : false ≡ true = i in cc)
      wide false false true d i = refl
      wide false false false true i = refl
      wide false false false false i = absurd (let bad : false ≡ true = i in cc)

  over : (w : What) (r : UpRow) (x : Sending) (told : Option ℕ) → (k : Live s F r x) → Among x sents → gives_id x.id (entry w) ≡ false → is_open_in s F (later_sending (entry w) x) ≡ false → ends k.o x (entry w) ≡ true → latency_by k.o x (entry w ∷ []) ≡ told → So w r.op told
  over w r x told k a other shut ended same =
      let now : (reign (later_sending (entry w) x) ≡ x.behind ++ entry w ∷ []) × (latency_by k.o x (reign (later_sending (entry w) x)) ≡ latency_by k.o x (entry w ∷ [])) = latency_now k.o x (entry w) k.unanswered k.reigns (lost_of r x k) other in
      inl (record { sent = later_sending (entry w) x; among = among_more u (entries before) (entry w) x a; name = ap (same_op r.op) k.op ∙ same_op_refl r.op; o = k.o; found = k.found; shut = shut; ended = ap (list_any (ends k.o x)) now.0 ∙ any_behind (ends k.o x) x.behind (entry w ∷ []) (or_left (ends k.o x (entry w)) false ended); latency = now.1 ∙ same })

  -- an end that tells no latency
  lost_now : (w : What) (r : UpRow) (x : Sending) → (k : Live s F r x) → Among x sents → gives_id x.id (entry w) ≡ false → is_open_in s F (later_sending (entry w) x) ≡ false → (drops k.o x (entry w) || loses k.o (entry w)) ≡ true → So w r.op None
  lost_now w r x k a other shut lost = over w r x None k a other shut (or_left (drops k.o x (entry w) || loses k.o (entry w)) (closes k.o x (entry w)) lost) (ap (λ b. if b then None else if closes k.o x (entry w) then Some (latency_between x.at at) else None) lost)

  -- A message.
  module _ (id : ℕ) (rest : List ℕ) where
    abbrev m : Message
    m = record { id = id; rest = rest }

    abbrev got : Entry
    got = entry (what.Got id rest)

    answered_now : (r : UpRow) (x : Sending) → Live s F r x → Among x sents → Row (is_sound u (entries before)) r → is_under id r ≡ true → is_final r.kind rest ≡ true → So (what.Got id rest) r.op (latency at r)
    answered_now r x k a sound under final = over (what.Got id rest) r x (latency at r) k a refl shut ends_it tells
      where
        same_id : (id == x.id) ≡ true
        same_id = ap (λ i. id == i) k.id ∙ eqb_sym id r.id ∙ left (r.id == id) _ under

        fitting : fits r.kind rest ≡ true
        fitting = or_left (is_final r.kind rest || is_intermediate rest) _ (or_left (is_final r.kind rest) _ final)

        some : answer_of k.o.request x.id got ≡ Some rest
        some = ap (λ b. if b && passes (λ kind. fits kind rest) (kind_of k.o.request.rest) then Some rest else None) same_id ∙ ap (λ q. if passes (λ kind. fits kind rest) q then Some rest else None) k.kind ∙ ap (λ b. if b then Some rest else None) fitting

        final_so : is_final_for k.o.request rest ≡ true
        final_so = ap (passes (λ kind. is_final kind rest)) k.kind ∙ final

        closed : closes k.o x got ≡ true
        closed = ap (passes (is_final_for k.o.request)) some ∙ final_so

        came : final_answer k.o (later_sending got x) ≡ Some (record { rest = rest; behind = [] })
        came = final_push k.o.request x.id x.behind got k.unanswered k.reigns ∙ ap (λ q. if passes (is_final_for k.o.request) q then option_map (λ v. record { rest = v; behind = [] }) q else None) some ∙ ap (λ b. if b then Some (record { rest = rest; behind = [] }) else None) final_so

        shut : is_open_in s F (later_sending got x) ≡ false
        shut = by (got_moves s F r x k (no_bind u (entries before) r sound) (not_kept u (entries before) r sound) part at id rest)
          where
            by : {rows : List UpRow} → Moves s F rows (later_sending got x) → is_open_in s F (later_sending got x) ≡ false
            by (inl j) = j.1
            by (inr j) = absurd (let same : Some j.live.o ≡ Some k.o = sym j.live.found ∙ k.found in let it : j.live.o ≡ k.o = cc in let bad : None ≡ Some (record { rest = rest; behind = [] }) = sym j.live.unanswered ∙ ap (λ o. final_answer o (later_sending got x)) it ∙ came in cc)

        no_loss : (drops k.o x got || loses k.o got) ≡ false
        no_loss = by (not (is_of Bind k.o))
          where
            by : (b : Bool) → ((b && false) || (false || false)) ≡ false
            by true = refl
            by false = refl

        ends_it : ends k.o x got ≡ true
        ends_it = or_right (drops k.o x got || loses k.o got) (closes k.o x got) closed

        tells : latency_by k.o x (got ∷ []) ≡ latency at r
        tells = ap (λ b. if b then None else if closes k.o x got then Some (latency_between x.at at) else None) no_loss ∙ ap (λ b. if b then Some (latency_between x.at at) else None) closed ∙ ap (λ n. Some (latency_between n at)) k.sent

    -- what the message gives
    own_gives : Ends (So (what.Got id rest)) (letters_alone (own_answer l.state m))
    own_gives = by (has_code success rest)
      where
        by : (b : Bool) → Ends (So (what.Got id rest)) (letters_alone (elim b [ true ↦ comes_up l.state | false ↦ goes_down l.state OwnBindFailed ]))
        by true = tt
        by false = tt

    row_gives : (r : UpRow) → find (is_under id) l.state.rows ≡ Some r → Ends (So (what.Got id rest)) (letters_alone (row_answer l.state at m r))
    row_gives r e = by (is_final r.kind rest) refl
      where
        known : Sent r
        known = each_found Sent (is_under id) l.state.rows r e rows_sent

        one : Such (λ x. Live s F r x) sents
        one = among_one (λ x. Live s F r x) sents known.1

        by : (b : Bool) → is_final r.kind rest ≡ b → Ends (So (what.Got id rest)) (letters_alone (elim b [ false ↦ act [] (reply r.op rest false None) | true ↦ act [] (reply r.op rest true None ++ ended l.state r.op (latency at r)) ]))
        by false j = (tt, tt)
        by true j = (tt, (answered_now r one.it one.so one.among known.0.0 (found_passes (is_under id) l.state.rows r e) j, tt))

    answered_gives : Ends (So (what.Got id rest)) (letters_alone (answered l.state at m))
    answered_gives = by (is_under_own l.state id)
      where
        among : (o : Option UpRow) → find (is_under id) l.state.rows ≡ o → Ends (So (what.Got id rest)) (letters_alone (elim o [ None ↦ nothing | Some r ↦ row_answer l.state at m r ]))
        among None e = tt
        among (Some r) e = row_gives r e

        by : (b : Bool) → Ends (So (what.Got id rest)) (letters_alone (elim b [ true ↦ own_answer l.state m | false ↦ elim (find (is_under id) l.state.rows) [ None ↦ nothing | Some r ↦ row_answer l.state at m r ] ]))
        by true = own_gives
        by false = among (find (is_under id) l.state.rows) refl

    got_gives : After (what.Got id rest)
    got_gives = by (is_bad (message_facts l.state) m)
      where
        by_kind : (k : ConnKind) → k ≡ Regular → Ends (So (what.Got id rest)) (letters_alone (elim k [ Regular ↦ answered l.state at m | BindKind ↦ bind_answered s l.state m ]))
        by_kind Regular e = answered_gives
        by_kind BindKind e = absurd (let bad : BindKind ≡ Regular = e in cc)

        by : (b : Bool) → Ends (So (what.Got id rest)) (letters_alone (elim b [ true ↦ goes_down l.state Bad | false ↦ elim l.state.kind [ Regular ↦ answered l.state at m | BindKind ↦ bind_answered s l.state m ] ]))
        by true = tt
        by false = by_kind l.state.kind h.kind

  -- An entry that ends it, of what a live Sent says.
  shut_by : (w : What) (r : UpRow) (x : Sending) (rows : List UpRow) → (k : Live s F r x) → is_end k.o x (entry w) ≡ true → Moves s F rows (later_sending (entry w) x) → is_open_in s F (later_sending (entry w) x) ≡ false
  shut_by w r x rows k e (inl j) = j.1
  shut_by w r x rows k e (inr j) = absurd (let same : Some j.live.o ≡ Some k.o = sym j.live.found ∙ k.found in let it : j.live.o ≡ k.o = cc in let bad : false ≡ true = sym j.live.going ∙ any_behind (is_end j.live.o x) x.behind (entry w ∷ []) (or_left (is_end j.live.o x (entry w)) false (ap (λ o. is_end o x (entry w)) it ∙ e)) in cc)

  row_gives_end : (w : What) (r : UpRow) → So w r.op None → Ends (So w) (row_ended l.state r None)
  row_gives_end w r so = by (is_bind l.state) regular
    where
      by : (b : Bool) → b ≡ false → Ends (So w) (elim b [ true ↦ [] | false ↦ ended l.state r.op None ])
      by true e = absurd (let bad : true ≡ false = e in cc)
      by false e = (so, tt)

  -- An own message abandons a live operation.
  owns_give : (id : ℕ) (rest : List ℕ) → (id == l.state.ids.next) ≡ true → After (what.Own id rest)
  owns_give id rest next = each_flat Sent (λ y. OfEnd (So (what.Own id rest)) y.letter) (abandoned_ended l.state rest) l.state.rows (λ r k. by r k (is_abandoned_by rest r) refl) rows_sent
    where
      abandoned : (r : UpRow) → Sent r → is_abandoned_by rest r ≡ true → So (what.Own id rest) r.op None
      abandoned r k e =
          let one : Such (λ x. Live s F r x) sents = among_one (λ x. Live s F r x) sents k.1 in
          let other : (id == r.id) ≡ false = ap (λ n. n == r.id) (same_number id l.state.ids.next next) ∙ below_apart r.id l.state.ids.next k.0.1 in
          let named : is_own (abandon one.it.id) (entry (what.Own id rest)) ≡ true = ap (λ n. bytes_eq rest (abandon n)) one.so.id ∙ right (not (is_bind_row r)) _ e in
          lost_now (what.Own id rest) r one.it one.so one.among (ap (λ n. id == n) one.so.id ∙ other)
          (shut_by (what.Own id rest) r one.it _ one.so (or_left (is_expired one.so.o.name (entry (what.Own id rest)) || is_own (abandon one.it.id) (entry (what.Own id rest))) _ (or_right (is_expired one.so.o.name (entry (what.Own id rest))) _ named)) (own_moves s F r one.it one.so (no_bind u (entries before) r k.0.0) (not_kept u (entries before) r k.0.0) part at id rest other))
          (or_left (drops one.so.o one.it (entry (what.Own id rest))) _ (both (not (is_of Bind one.so.o)) _ (ap (λ q. not (passes (same_kind Bind) q)) one.so.kind ∙ left (not (is_bind_row r)) _ e) named))

      by : (r : UpRow) → Sent r → (b : Bool) → is_abandoned_by rest r ≡ b → Ends (So (what.Own id rest)) (elim b [ true ↦ row_ended l.state r None | false ↦ [] ])
      by r k true e = row_gives_end (what.Own id rest) r (abandoned r k e)
      by r k false e = tt

  -- What expires.
  expired_gives : (op : OpName) (ms : List Marked) → is_expired_due s l.state (record { entry = entry (what.Expired op); mark = mark }) ms ≡ true → After (what.Expired op)
  expired_gives op ms due = by_kind l.state.kind h.kind
    where
      row : (o : Option UpRow) → row_named l.state op ≡ o → passes (λ r. is_due s at r && is_expiry_told (entries ms) r) o ≡ true → So (what.Expired op) op None
      row None e j = absurd (let bad : false ≡ true = j in cc)
      row (Some r) e j =
          let known : Sent r = each_found Sent (λ q. same_op op q.op) l.state.rows r e rows_sent in
          let one : Such (λ x. Live s F r x) sents = among_one (λ x. Live s F r x) sents known.1 in
          let same : same_op op r.op ≡ true = found_passes (λ q. same_op op q.op) l.state.rows r e in
          let name : is_expired one.so.o.name (entry (what.Expired op)) ≡ true = ap (λ n. same_op n op) (sym (op_named F one.it.op one.so.o one.so.found) ∙ one.so.op) ∙ same_op_sym r.op op ∙ same in
          subst (λ n. So (what.Expired op) n None) (sym (same_op_eq op r.op same)) (lost_now (what.Expired op) r one.it one.so one.among refl
          (expired_shut s F (later_sending (entry (what.Expired op)) one.it) one.so.o one.so.found (any_behind (λ y. is_expired one.so.o.name y || is_down y) one.it.behind (entry (what.Expired op) ∷ []) (or_left (is_expired one.so.o.name (entry (what.Expired op)) || is_down (entry (what.Expired op))) false (or_left (is_expired one.so.o.name (entry (what.Expired op))) _ name))))
          (or_right (drops one.so.o one.it (entry (what.Expired op))) _ (or_left (is_expired one.so.o.name (entry (what.Expired op))) _ name)))

      by_kind : (k : ConnKind) → k ≡ Regular → Ends (So (what.Expired op)) (failed op C5 ++ elim k [ Regular ↦ ended l.state op None | BindKind ↦ [] ])
      by_kind Regular e = (tt, (row (row_named l.state op) refl due, tt))
      by_kind BindKind e = (tt, tt)

  -- What is missed.
  missed_gives : (op : OpName) → has_connection_mark l.state (record { entry = entry (what.Missed op); mark = mark }) ≡ true → ((t : Taken) → mark ≡ Some t → fits_connection s l t.sender t.letter ≡ true) → After (what.Missed op)
  missed_gives op marks fit = by mark refl marks
    where
      unsent : (t : Taken) (o : OpName) → same_op op o ≡ true → list_any (λ q. is_forward_of o q.letter) l.taken ≡ false → list_any (is_sent op) (entries before) ≡ false
      unsent t o e n = false_by (list_any (is_sent op) (entries before)) (λ j. sym n ∙ ap (λ v. list_any (λ q. is_forward_of v q.letter) l.taken) (sym (same_op_eq op o e)) ∙ h.stands.sent op j)

      stopped : is_stopped l.state ≡ true → is_stopped_at (entries before) ≡ true
      stopped j = or_elim l.state.retired l.state.down
          (λ i. any_imply (λ y. is_retired y.what) (λ y. is_retired y.what || is_down y) (entries before) (λ y n. or_left (is_retired y.what) _ n) (sym h.stands.says.retired ∙ i))
          (λ i. any_imply is_down (λ y. is_retired y.what || is_down y) (entries before) (λ y n. or_right (is_retired y.what) _ n) (sym h.stands.says.down ∙ i)) j

      missed_now : (t : Taken) (o : OpName) → (same_op op o && is_stopped l.state) ≡ true → list_any (λ q. is_forward_of o q.letter) l.taken ≡ false → So (what.Missed op) op None
      missed_now t o e n = inr (record { none = refl; missed = any_behind (is_missed op) (entries before) (entry (what.Missed op) ∷ []) (or_left (same_op op op) false (same_op_refl op)); unsent = none_of_both (is_sent op) (entries before) (entry (what.Missed op) ∷ []) (unsent t o (left (same_op op o) _ e) n) refl; stopped = any_before (λ y. is_retired y.what || is_down y) (entries before) (entry (what.Missed op) ∷ []) (stopped (right (same_op op o) _ e)) })

      letter : (t : Taken) (y : Letter) → marks_connection l.state (what.Missed op) y ≡ true → fits_connection s l t.sender y ≡ true → Ends (So (what.Missed op)) (missed_of l.state op y)
      letter t (Forward o sort rest ask holder) e f = by_kind l.state.kind h.kind
        where
          fresh : list_any (λ q. is_forward_of o q.letter) l.taken ≡ false
          fresh = forward_new s l t.sender o sort rest ask holder f

          by_kind : (k : ConnKind) → k ≡ Regular → Ends (So (what.Missed op)) (elim k [ Regular ↦ missed_letters l.state op | BindKind ↦ missed_bind_letters l.state op holder ])
          by_kind Regular i = (tt, (missed_now t o e fresh, tt))
          by_kind BindKind i = absurd (let bad : BindKind ≡ Regular = i in cc)
      letter t _ e f = absurd (let bad : false ≡ true = e in cc)

      by : (o : Option Taken) → mark ≡ o → has_connection_mark l.state (record { entry = entry (what.Missed op); mark = o }) ≡ true → Ends (So (what.Missed op)) (missed_by l.state op o)
      by None e j = tt
      by (Some t) e j = letter t t.letter j (fit t e)

  -- The connection's end.
  down_gives : (why : EndWhy) → After (what.Down why)
  down_gives why = each_append (λ y. OfEnd (So (what.Down why)) y.letter) (flat_map (loss l.state) l.state.rows) (holder_ended l.state ++ to Desk (IsDown l.state.number)) (each_flat Sent (λ y. OfEnd (So (what.Down why)) y.letter) (loss l.state) l.state.rows (λ r k. each_append (λ y. OfEnd (So (what.Down why)) y.letter) (failed r.op C4) (row_ended l.state r None) (tt, tt) (row_gives_end (what.Down why) r (lost_with r k))) rows_sent) (each_append (λ y. OfEnd (So (what.Down why)) y.letter) (holder_ended l.state) (to Desk (IsDown l.state.number)) (subst (λ o. Ends (So (what.Down why)) (elim o [ None ↦ [] | Some n ↦ ended l.state n None ])) (sym free) tt) (tt, tt))
    where
      lost_with : (r : UpRow) → Sent r → So (what.Down why) r.op None
      lost_with r k =
          let one : Such (λ x. Live s F r x) sents = among_one (λ x. Live s F r x) sents k.1 in
          lost_now (what.Down why) r one.it one.so one.among refl (false_by (is_open_in s F (later_sending (entry (what.Down why)) one.it)) (λ j. down_shut s F (entry (what.Down why)) refl one.it j)) (or_right (drops one.so.o one.it (entry (what.Down why))) _ (or_right (is_expired one.so.o.name (entry (what.Down why))) _ refl))

  pub gives_ends : (w : What) (ms : List Marked) → has_connection_mark l.state (record { entry = entry w; mark = mark }) ≡ true → has_right_id l.state.ids w ≡ true → is_expired_due s l.state (record { entry = entry w; mark = mark }) ms ≡ true → ((t : Taken) → mark ≡ Some t → fits_connection s l t.sender t.letter ≡ true) → After w
  gives_ends (what.Got id rest) ms marks next due fit = got_gives id rest
  gives_ends (what.Own id rest) ms marks next due fit = owns_give id rest next
  gives_ends (what.Expired op) ms marks next due fit = expired_gives op ms due
  gives_ends (what.Missed op) ms marks next due fit = missed_gives op marks fit
  gives_ends (what.Down why) ms marks next due fit = down_gives why
  gives_ends what.Up ms marks next due fit = (tt, tt)
  gives_ends what.Retired ms marks next due fit = (tt, tt)
  gives_ends what.Linked ms marks next due fit = tt
  gives_ends w ms marks next due fit = tt
