-- A Sent of a bind connection and its row: what the list says of its answer, and what an entry leaves of it.
use Rattle.std.proofs.Common.{◌≡◌, ℕ, Bool, true, false, ◌==◌, ◌&&◌, ◌||◌, not, List, [], ◌∷◌, ◌++◌, refl, ap, ◌∙◌, sym}
use Rattle.std.specs.Prelude.{Option, Some, None, is_none, nat_lt, if◌then◌else◌}
use Rattle.std.specs.List.{list_any}
use Rattle.std.specs.Option.{option_or, option_and_then, option_map}
use Rattle.std.specs.Str.{bytes_eq}
use Rattle.std.proofs.lemmas.List.Folds.{list_any-append}
use Rattle.ldap_spec.specs.Messages.{Message}
use Rattle.ldap_spec.specs.Kinds.{kind_of, fits, same_kind}
use Rattle.ldap_spec.specs.Responses.{result_code}
use Rattle.ldap_spec.specs.Bodies.{who_am_i, abandon}
use Rattle.lload_names.specs.declared.names.Entry.{Entry}
use Rattle.lload_names.specs.declared.names.OpKind.TheVariants.{Bind}
use Rattle.lload_spec.specs.Lists.{passes, first_passes}
use Rattle.lload_spec.specs.Settings.{Settings}
use Rattle.lload_spec.specs.Journal.{Family}
use Rattle.lload_spec.specs.Entries.{got_message, own_message, is_own, is_expired}
use Rattle.lload_spec.specs.Operations.{Operation, operation, is_of, is_final_for}
use Rattle.lload_spec.specs.Answers.{Sending, Final, gives_id, answer_of, final_answer, extended_under, who_id, who_answer, asks_who, is_kept_back, extended_rest}
use Rattle.part_spec.specs.ConnectionState.{UpRow, Kept, is_bind_row, behind_own, is_abandoned_by}
use Rattle.lload_laws.specs.ConnectionGrowth.{later_sending}
use Rattle.connection_laws.proofs.Closings.{final_more, final_push, who_more, extended_push}

-- What the list says of the answer that is kept back: none came yet; or it came, and the Who Am I stands directly behind it, or
-- is the next entry, and isn't answered.
abbrev pub IsAsked : Option ℕ → List Entry → List Entry → Type 0
IsAsked None es ms = (es ≡ []) × (first_passes (is_own who_am_i) ms ≡ true)
IsAsked (Some w) es ms = (who_id es ≡ Some w) × (extended_under w es ≡ None)

pub record IsKept (s : Settings) (o : Operation) (sent : Sending) (k : Kept) (ms : List Entry) : Type 0 where
  pub es : List Entry
  pub final : final_answer o sent ≡ Some (record { rest = k.rest; behind = es })
  pub code : is_none (result_code k.rest) ≡ false
  pub back : is_kept_back (asks_who s o) k.rest ≡ true
  pub asked : IsAsked k.who es ms

abbrev pub IsAnswered : Settings → Operation → Sending → Option Kept → List Entry → Type 0
IsAnswered s o sent None ms = final_answer o sent ≡ None
IsAnswered s o sent (Some k) ms = IsKept s o sent k ms

-- The Sent of a row, in a list behind which these entries stand.
pub record IsLive (s : Settings) (F : Family) (next : ℕ) (r : UpRow) (sent : Sending) (ms : List Entry) : Type 0 where
  pub o : Operation
  pub found : operation F sent.op ≡ Some o
  pub kind : kind_of o.request.rest ≡ Some Bind
  pub asks : asks_who s o ≡ r.ask_who
  pub id : sent.id ≡ r.id
  pub op : sent.op ≡ r.op
  pub below : nat_lt r.id next ≡ true
  pub reigns : list_any (gives_id sent.id) sent.behind ≡ false
  pub going : list_any (λ x. is_expired o.name x || is_own (abandon sent.id) x) sent.behind ≡ false
  pub answer : IsAnswered s o sent r.kept ms

-- What became of a row that stays: the one row, with the same Sent.
pub record Goes (s : Settings) (F : Family) (next : ℕ) (rows : List UpRow) (sent : Sending) (ms : List Entry) : Type 0 where
  pub row : UpRow
  pub is : rows ≡ row ∷ []
  pub live : IsLive s F next row sent ms

-- a row behind an own message, by whether it is a Who Am I that it waits for
abbrev behind_own_by : Message → UpRow → Bool → List UpRow
behind_own_by m r b =
    elim b [
      | true ↦ record r { kept = elim r.kept [ None ↦ None | Some k ↦ Some (record k { who = Some m.id }) ] } ∷ []
      | false ↦ elim (is_abandoned_by m.rest r) [ true ↦ [] | false ↦ r ∷ [] ]
    ]

-- at the end of a list any entries may come
pub any_next : (s : Settings) (F : Family) (next : ℕ) (r : UpRow) (sent : Sending) (ms : List Entry) → IsLive s F next r sent [] → IsLive s F next r sent ms
any_next s F next r sent ms h = record { o = h.o; found = h.found; kind = h.kind; asks = h.asks; id = h.id; op = h.op; below = h.below; reigns = h.reigns; going = h.going; answer = by r.kept h.answer }
  where
    asked : (w : Option ℕ) (es : List Entry) → IsAsked w es [] → IsAsked w es ms
    asked None es a = absurd (let no : false ≡ true = a.1 in cc)
    asked (Some w) es a = a

    by : (k : Option Kept) → IsAnswered s h.o sent k [] → IsAnswered s h.o sent k ms
    by None a = a
    by (Some k) a = record { es = a.es; final = a.final; code = a.code; back = a.back; asked = asked k.who a.es a.asked }

-- a test of none of a list, with one entry more
none_push : (t : Entry → Bool) (es : List Entry) (e : Entry) → list_any t es ≡ false → t e ≡ false → list_any t (es ++ e ∷ []) ≡ false
none_push t es e h k = list_any-append t es (e ∷ []) ∙ ap (λ b. b || (t e || false)) h ∙ ap (λ b. b || false) k

-- The live Sent, with an entry more.
module _ (s : Settings) (F : Family) (next : ℕ) (r : UpRow) (sent : Sending) (e : Entry) (ms : List Entry) (h : IsLive s F next r sent (e ∷ ms)) where
  abbrev o : Operation
  o = h.o

  of_bind : is_of Bind o ≡ true
  of_bind = ap (λ k. passes (same_kind Bind) k) h.kind

  -- what settles it, by the final answer
  abbrev closing_of : Bool → Bool → List Entry → List ℕ → Option (List ℕ)
  closing_of n b es rest = if n then None else if b then who_answer es else Some rest

  -- what is said of the answer, behind an entry that is no message
  none_more : got_message e.what ≡ None → gives_id sent.id e ≡ false → final_answer o sent ≡ None → final_answer o (later_sending e sent) ≡ None
  none_more none other a = final_push o.request sent.id sent.behind e a h.reigns ∙ ap (λ b. if b then None else final_here (answer_of o.request sent.id e)) other ∙ ap (λ g. final_here (answer_in g)) none
    where
      final_here : Option (List ℕ) → Option Final
      final_here a = if passes (is_final_for o.request) a then option_map (λ q. record { rest = q; behind = [] }) a else None

      answer_in : Option Message → Option (List ℕ)
      answer_in g = elim g [ None ↦ None | Some m ↦ if m.id == sent.id && passes (λ kind. fits kind m.rest) (kind_of o.request.rest) then Some m.rest else None ]

  pub kept_more : (rest : List ℕ) (w : Option ℕ) (es : List Entry) → final_answer o sent ≡ Some (record { rest = rest; behind = es }) → is_none (result_code rest) ≡ false → is_kept_back (asks_who s o) rest ≡ true → IsAsked w (es ++ e ∷ []) ms → IsKept s o (later_sending e sent) (record { rest = rest; who = w }) ms
  kept_more rest w es final code back asked = record { es = es ++ e ∷ []; final = final_more o.request sent.id sent.behind e (record { rest = rest; behind = es }) final; code = code; back = back; asked = asked }

  asked_more : (w : ℕ) (es : List Entry) → got_message e.what ≡ None → IsAsked (Some w) es (e ∷ ms) → IsAsked (Some w) (es ++ e ∷ []) ms
  asked_more w es none a = (who_more es e w a.0, extended_push w es e ∙ ap (λ x. option_or x (extended_under w (e ∷ []))) a.1 ∙ ap (λ g. option_or (option_and_then (extended_rest w) g) None) none)

  -- the live Sent of a row that the row became
  pub becomes : gives_id sent.id e ≡ false → (is_expired o.name e || is_own (abandon sent.id) e) ≡ false → (n : ℕ) (q : UpRow) → nat_lt q.id n ≡ true → q.ask_who ≡ r.ask_who → q.id ≡ r.id → q.op ≡ r.op → IsAnswered s o (later_sending e sent) q.kept ms → IsLive s F n q (later_sending e sent) ms
  becomes other quiet n q below a b c answer = record { o = o; found = h.found; kind = h.kind; asks = h.asks ∙ sym a; id = h.id ∙ sym b; op = h.op ∙ sym c; below = below; reigns = none_push (gives_id sent.id) sent.behind e h.reigns other; going = none_push (λ x. is_expired o.name x || is_own (abandon sent.id) x) sent.behind e h.going quiet; answer = answer }

  -- an entry that is no message
  pub live_idle : got_message e.what ≡ None → gives_id sent.id e ≡ false → (is_expired o.name e || is_own (abandon sent.id) e) ≡ false → own_message e.what ≡ None → IsLive s F next r (later_sending e sent) ms
  live_idle none other quiet own = becomes other quiet next r h.below refl refl refl (by r.kept h.answer)
    where
      asked : (w : Option ℕ) (es : List Entry) → IsAsked w es (e ∷ ms) → IsAsked w (es ++ e ∷ []) ms
      asked None es a = absurd (let no : false ≡ true = sym (ap (passes (λ m. bytes_eq m.rest who_am_i)) own) ∙ a.1 in cc)
      asked (Some w) es a = asked_more w es none a

      by : (k : Option Kept) → IsAnswered s o sent k (e ∷ ms) → IsAnswered s o (later_sending e sent) k ms
      by None a = none_more none other a
      by (Some k) a = kept_more k.rest k.who a.es a.final a.code a.back (asked k.who a.es a.asked)

  -- an own message, which asks for the identity where the answer is kept back
  pub live_own : (n : ℕ) (m : Message) → nat_lt r.id n ≡ true → own_message e.what ≡ Some m → got_message e.what ≡ None → gives_id sent.id e ≡ false → (is_expired o.name e || is_own (abandon sent.id) e) ≡ false → is_bind_row r ≡ true → Goes s F n (behind_own m r) (later_sending e sent) ms
  live_own n m below own none other quiet bind = by r.kept h.answer
    where
      stays : (k : Option Kept) (b : Bool) → behind_own_by m (record r { kept = k }) (b && false) ≡ record r { kept = k } ∷ []
      stays k true = ap (λ c. elim (not c && bytes_eq m.rest (abandon r.id)) [ true ↦ [] | false ↦ record r { kept = k } ∷ [] ]) bind
      stays k false = ap (λ c. elim (not c && bytes_eq m.rest (abandon r.id)) [ true ↦ [] | false ↦ record r { kept = k } ∷ [] ]) bind

      by : (k : Option Kept) → IsAnswered s o sent k (e ∷ ms) → Goes s F n (behind_own m (record r { kept = k })) (later_sending e sent) ms
      by None a = record { row = record r { kept = None }; is = stays None (bytes_eq m.rest who_am_i); live = becomes other quiet n (record r { kept = None }) below refl refl refl (none_more none other a) }
      by (Some k) a = who k.who a.asked
        where
          who : (w : Option ℕ) → IsAsked w a.es (e ∷ ms) → Goes s F n (behind_own m (record r { kept = Some (record { rest = k.rest; who = w }) })) (later_sending e sent) ms
          who (Some w) b = record { row = record r { kept = Some (record { rest = k.rest; who = Some w }) }; is = stays (Some (record { rest = k.rest; who = Some w })) (bytes_eq m.rest who_am_i); live = becomes other quiet n (record r { kept = Some (record { rest = k.rest; who = Some w }) }) below refl refl refl (kept_more k.rest (Some w) a.es a.final a.code a.back (asked_more w a.es none b)) }
          who None b =
              let asks : bytes_eq m.rest who_am_i ≡ true = sym (ap (passes (λ x. bytes_eq x.rest who_am_i)) own) ∙ b.1 in
              let row : UpRow = record r { kept = Some (record { rest = k.rest; who = Some m.id }) } in
              record { row = record r { kept = Some (record { rest = k.rest; who = Some m.id }) }; is = ap (λ c. behind_own_by m (record r { kept = Some (record { rest = k.rest; who = None }) }) (c && true)) asks; live = becomes other quiet n (record r { kept = Some (record { rest = k.rest; who = Some m.id }) }) below refl refl refl (kept_more k.rest (Some m.id) a.es a.final a.code a.back (here asks, none_asked)) }
            where
              here : bytes_eq m.rest who_am_i ≡ true → who_id (a.es ++ e ∷ []) ≡ Some m.id
              here asks = ap (λ es. who_id (es ++ e ∷ [])) b.0 ∙ ap (λ g. elim g [ None ↦ None | Some x ↦ if bytes_eq x.rest who_am_i then Some x.id else None ]) own ∙ ap (λ c. if c then Some m.id else None) asks

              none_asked : extended_under m.id (a.es ++ e ∷ []) ≡ None
              none_asked = ap (λ es. extended_under m.id (es ++ e ∷ [])) b.0 ∙ ap (λ g. option_or (option_and_then (extended_rest m.id) g) None) none
