-- What a bind connection's Sent waits for: its final answer; or behind one that is kept back, the answer to Who Am I.
use Rattle.std.proofs.Common.{◌≡◌, ◌⊎◌, inl, inr, ℕ, Bool, true, false, ◌==◌, ◌&&◌, ◌||◌, List, [], ◌∷◌, ◌++◌, refl, ap, ◌∙◌}
use Rattle.std.specs.Prelude.{Option, Some, None, is_none, if◌then◌else◌}
use Rattle.std.specs.List.{list_all, list_any}
use Rattle.std.specs.Option.{option_and_then, option_map, option_or}
use Rattle.std.proofs.lemmas.List.Folds.{list_all-append}
use Rattle.ldap_spec.specs.Bodies.{abandon}
use Rattle.ldap_spec.specs.Kinds.{fits, kind_of, same_kind}
use Rattle.ldap_spec.specs.Messages.{Message}
use Rattle.ldap_spec.specs.Responses.{result_code}
use Rattle.lload_names.specs.declared.names.Entry.{Entry}
use Rattle.lload_names.specs.declared.names.OpKind.TheVariants.{Bind}
use Rattle.lload_spec.specs.Answers.{Final, Sending, answer_of, asks_who, closing_at, closing_by, extended_rest, extended_under, final_answer, final_under, gives_id, is_kept_back, who_answer, who_id}
use Rattle.lload_spec.specs.Entries.{got_message, is_expired, is_own}
use Rattle.lload_spec.specs.Journal.{Family}
use Rattle.lload_spec.specs.Lists.{passes}
use Rattle.lload_spec.specs.Operations.{Operation, operation, is_final_for, is_of}
use Rattle.lload_spec.specs.Settings.{Settings}
use Rattle.lload_spec.proofs.Growth.{left, right, both}
use Rattle.lload_laws.specs.ConnectionGrowth.{later_sending}
use Rattle.part_laws.proofs.ListLaws.{none_of_both, or_left}
use Rattle.part_spec.specs.ConnectionState.{Kept, UpRow}
use Rattle.connection_laws.proofs.Closings.{extended_push, final_more, who_more}
use Rattle.bind_laws.proofs.Sents.{IsAnswered, IsAsked, IsLive}
use Rattle.rows_laws.proofs.Live.{none_imply}

abbrev pub no_got : List Entry → Bool
no_got es = list_all (λ e. is_none (got_message e.what)) es

pub record WhoWaits (es : List Entry) : Type 0 where
  pub w : ℕ
  pub asked : who_id es ≡ Some w
  pub untold : extended_under w es ≡ None

abbrev pub NotTold : List Entry → Type 0
NotTold es = (no_got es ≡ true) ⊎ WhoWaits es

abbrev pub Still : Settings → Operation → List ℕ → List Entry → Type 0
Still s o rest es = (is_none (result_code rest) ≡ true) ⊎ ((is_kept_back (asks_who s o) rest ≡ true) × NotTold es)

pub record Asked (s : Settings) (o : Operation) (x : Sending) : Type 0 where
  pub rest : List ℕ
  pub es : List Entry
  pub final : final_answer o x ≡ Some (record { rest = rest; behind = es })
  pub still : Still s o rest es

abbrev pub Waits : Settings → Operation → Sending → Type 0
Waits s o x = (final_answer o x ≡ None) ⊎ Asked s o x

no_extended : (w : ℕ) (es : List Entry) → no_got es ≡ true → extended_under w es ≡ None
no_extended w [] h = refl
no_extended w (e ∷ es) h = by (got_message e.what) (left (is_none (got_message e.what)) _ h) (no_extended w es (right (is_none (got_message e.what)) _ h))
  where
    by : (g : Option Message) → is_none g ≡ true → extended_under w es ≡ None → option_or (option_and_then (extended_rest w) g) (extended_under w es) ≡ None
    by None k ih = ih
    by (Some m) k ih = absurd (let bad : false ≡ true = k in cc)

abbrev pub who_text : List Entry → Option ℕ → Option (List ℕ)
who_text es q = elim q [ None ↦ None | Some id ↦ extended_under id es ]

untold_so : (es : List Entry) → NotTold es → who_answer es ≡ None
untold_so es (inl n) = by (who_id es)
  where
    by : (o : Option ℕ) → who_text es o ≡ None
    by None = refl
    by (Some w) = no_extended w es n
untold_so es (inr w) = ap (who_text es) w.asked ∙ w.untold

module _ (s : Settings) (o : Operation) (x : Sending) where
  abbrev closing_text : Option Final → Option (List ℕ)
  closing_text q = elim q [ None ↦ None | Some f ↦ closing_by s o f ]

  -- so it isn't settled
  pub unclosed : is_of Bind o ≡ true → Waits s o x → closing_at s o x ≡ None
  unclosed bind (inl e) = ap closing_text e
  unclosed bind (inr a) = ap closing_text a.final ∙ by a.still
    where
      pick : (c : Bool) (q : Option (List ℕ)) → q ≡ None → (if c then None else q) ≡ None
      pick true q k = refl
      pick false q k = k

      by : Still s o a.rest a.es → (if is_of Bind o && is_none (result_code a.rest) then None else if is_kept_back (asks_who s o) a.rest then who_answer a.es else Some a.rest) ≡ None
      by (inl n) = ap (λ b. if b then None else if is_kept_back (asks_who s o) a.rest then who_answer a.es else Some a.rest) (both (is_of Bind o) _ bind n)
      by (inr k) = pick (is_of Bind o && is_none (result_code a.rest)) (if is_kept_back (asks_who s o) a.rest then who_answer a.es else Some a.rest) (ap (λ b. if b then who_answer a.es else Some a.rest) k.0 ∙ untold_so a.es k.1)

abbrev ending_text : Message → Bool → Option (List ℕ) → List Entry → Option Final → Option Final
ending_text request c a behind later = if c then None else if passes (is_final_for request) a then option_map (λ r. record { rest = r; behind = behind }) a else later

-- an entry that is no message is no final answer
final_none : (request : Message) (id : ℕ) (es : List Entry) (e : Entry) → got_message e.what ≡ None → final_under request id es ≡ None → final_under request id (es ++ e ∷ []) ≡ None
final_none request id [] e none h = last (gives_id id e) (answer_of request id e) (ap (λ g. elim g [ None ↦ None | Some m ↦ if m.id == id && passes (λ kind. fits kind m.rest) (kind_of request.rest) then Some m.rest else None ]) none)
  where
    last : (c : Bool) (a : Option (List ℕ)) → a ≡ None → ending_text request c a [] None ≡ None
    last true a k = refl
    last false None k = refl
    last false (Some r) k = absurd (let bad : Some r ≡ None = k in cc)
final_none request id (y ∷ es) e none h = by (gives_id id y) (answer_of request id y) h (final_none request id es e none)
  where
    by : (c : Bool) (a : Option (List ℕ)) → ending_text request c a es (final_under request id es) ≡ None → (final_under request id es ≡ None → final_under request id (es ++ e ∷ []) ≡ None) → ending_text request c a (es ++ e ∷ []) (final_under request id (es ++ e ∷ [])) ≡ None
    by true a k more = refl
    by false None k more = more k
    by false (Some r) k more = one (is_final_for request r) k
      where
        ended : List Entry → Final
        ended es = record { rest = r; behind = es }

        one : (b : Bool) → (if b then Some (ended es) else final_under request id es) ≡ None → (if b then Some (ended (es ++ e ∷ [])) else final_under request id (es ++ e ∷ [])) ≡ None
        one true j = absurd (let bad : Some (ended es) ≡ None = j in cc)
        one false j = more j

-- it waits still with an entry more that is no message
module _ (s : Settings) (o : Operation) (x : Sending) (e : Entry) (none : got_message e.what ≡ None) where
  told_more : (es : List Entry) → NotTold es → NotTold (es ++ e ∷ [])
  told_more es (inl n) = inl (list_all-append (λ (y : Entry). is_none (got_message y.what)) es (e ∷ []) ∙ both (no_got es) _ n (both (is_none (got_message e.what)) true (ap is_none none) refl))
  told_more es (inr w) = inr (record { w = w.w; asked = who_more es e w.w w.asked; untold = extended_push w.w es e ∙ ap (λ q. option_or q (extended_under w.w (e ∷ []))) w.untold ∙ ap (λ g. option_or (option_and_then (extended_rest w.w) g) None) none })

  still_more : (rest : List ℕ) (es : List Entry) → Still s o rest es → Still s o rest (es ++ e ∷ [])
  still_more rest es (inl n) = inl n
  still_more rest es (inr k) = inr (k.0, told_more es k.1)

  pub waits_more : Waits s o x → Waits s o (later_sending e x)
  waits_more (inl f) = inl (final_none o.request x.id x.behind e none f)
  waits_more (inr a) = inr (record { rest = a.rest; es = a.es ++ e ∷ []; final = final_more o.request x.id x.behind e (record { rest = a.rest; behind = a.es }) a.final; still = still_more a.rest a.es a.still })

-- the Sent of a row that is live
pub waits_of : (s : Settings) (F : Family) (n : ℕ) (r : UpRow) (x : Sending) (ms : List Entry) (h : IsLive s F n r x ms) → Waits s h.o x
waits_of s F n r x ms h = by r.kept h.answer
  where
    told : (w : Option ℕ) (es : List Entry) → IsAsked w es ms → NotTold es
    told None es a = inl (ap no_got a.0)
    told (Some w) es a = inr (record { w = w; asked = a.0; untold = a.1 })

    by : (k : Option Kept) → IsAnswered s h.o x k ms → Waits s h.o x
    by None a = inl a
    by (Some k) a = inr (record { rest = k.rest; es = a.es; final = a.final; still = inr (a.back, told k.who a.es a.asked) })

-- A row of a Bind whose Sent waits.
pub record OpenBind (s : Settings) (F : Family) (r : UpRow) (x : Sending) : Type 0 where
  pub o : Operation
  pub found : operation F x.op ≡ Some o
  pub bind : is_of Bind o ≡ true
  pub op : x.op ≡ r.op
  pub unexpired : list_any (is_expired o.name) x.behind ≡ false
  pub waits : Waits s o x

-- with an entry more
pub open_more : (s : Settings) (F : Family) (r q : UpRow) (x : Sending) (e : Entry) (h : OpenBind s F r x) → got_message e.what ≡ None → is_expired h.o.name e ≡ false → r.op ≡ q.op → OpenBind s F q (later_sending e x)
open_more s F r q x e h none quiet same =
    record { o = h.o; found = h.found; bind = h.bind; op = h.op ∙ same; unexpired = none_of_both (is_expired h.o.name) x.behind (e ∷ []) h.unexpired (ap (λ b. b || false) quiet); waits = waits_more s h.o x e none h.waits }

pub open_live : (s : Settings) (F : Family) (n : ℕ) (r : UpRow) (x : Sending) (ms : List Entry) → IsLive s F n r x ms → OpenBind s F r x
open_live s F n r x ms h =
    record { o = h.o; found = h.found; bind = ap (passes (same_kind Bind)) h.kind; op = h.op; unexpired = none_imply (is_expired h.o.name) (λ e. is_expired h.o.name e || is_own (abandon x.id) e) x.behind (λ y k. or_left (is_expired h.o.name y) _ k) h.going; waits = waits_of s F n r x ms h }
