-- The live Sent of a bind connection behind a message: settled exactly where its row is.
use Rattle.std.proofs.Common.{◌≡◌, ℕ, ◌⊎◌, inl, inr, Bool, true, false, ◌==◌, ◌&&◌, ◌||◌, List, [], ◌∷◌, ◌++◌, refl, ap, ◌∙◌, sym, subst}
use Rattle.std.specs.Prelude.{Option, Some, None, is_some, is_none, if◌then◌else◌, nat_lt}
use Rattle.std.specs.Option.{option_and_then, option_map, option_or}
use Rattle.std.specs.Str.{bytes_eq}
use Rattle.ldap_spec.specs.Messages.{Message}
use Rattle.ldap_spec.specs.Kinds.{kind_of, same_kind, fits, is_final, tag_of}
use Rattle.ldap_spec.specs.Responses.{result_code}
use Rattle.ldap_spec.specs.Bodies.{who_am_i, abandon}
use Rattle.lload_names.specs.declared.names.Entry.{Entry}
use Rattle.lload_names.specs.declared.names.OpKind.TheVariants.{Bind}
use Rattle.lload_spec.specs.Lists.{passes, first_passes}
use Rattle.lload_spec.specs.Settings.{Settings}
use Rattle.lload_spec.specs.Journal.{Family}
use Rattle.lload_spec.specs.Entries.{got_message, own_message, is_own, is_expired, is_down}
use Rattle.lload_spec.specs.Operations.{Operation, is_of, is_final_for}
use Rattle.lload_spec.specs.Answers.{Sending, Final, gives_id, answer_of, final_answer, extended_rest, extended_under, who_answer, closing_at, asks_who, is_kept_back}
use Rattle.part_spec.specs.ConnectionState.{UpRow, Kept, is_bind_row, keeps_back, behind_message, behind_answer}
use Rattle.part_spec.specs.Share.{succeeds}
use Rattle.lload_laws.specs.ConnectionGrowth.{later_sending}
use Rattle.lload_spec.proofs.Growth.{right}
use Rattle.part_laws.proofs.ListLaws.{eqb_sym}
use Rattle.connection_laws.proofs.Closings.{final_more, final_push, who_more, extended_push}
use Rattle.bind_laws.proofs.Meets.{bind_kind, code_there}
use Rattle.bind_laws.proofs.Sents.{IsLive, IsAnswered, IsAsked, becomes, kept_more}

-- a row that stays, with the same Sent, which isn't settled; unless the connection goes down
pub record StaysOpen (s : Settings) (F : Family) (next : ℕ) (o : Operation) (rows : List UpRow) (sent : Sending) (ms : List Entry) : Type 0 where
  pub row : UpRow
  pub is : rows ≡ row ∷ []
  pub unsettled : is_some (closing_at s o sent) ≡ false
  pub live : first_passes is_down ms ≡ false → IsLive s F next row sent ms

abbrev pub Comes : Settings → Family → ℕ → Operation → List UpRow → Sending → List Entry → Type 0
Comes s F next o rows sent ms = ((rows ≡ []) × (is_some (closing_at s o sent) ≡ true)) ⊎ StaysOpen s F next o rows sent ms

module _ (s : Settings) (F : Family) (next : ℕ) (r : UpRow) (sent : Sending) (e : Entry) (ms : List Entry) (h : IsLive s F next r sent (e ∷ ms)) (bind : is_bind_row r ≡ true) (at : ℕ) (m : Message) (got : got_message e.what ≡ Some m) (own : own_message e.what ≡ None) (other : gives_id sent.id e ≡ false) (quiet : (is_expired h.o.name e || is_own (abandon sent.id) e) ≡ false) where
  abbrev o : Operation
  o = h.o

  -- what settles it, by the final answer
  abbrev closing_text : Bool → Option Final → Option (List ℕ)
  closing_text b q = elim q [ None ↦ None | Some f ↦ if b && is_none (result_code f.rest) then None else if is_kept_back (asks_who s o) f.rest then who_answer f.behind else Some f.rest ]

  closing_is : (q : Option Final) → final_answer o (later_sending e sent) ≡ q → closing_at s o (later_sending e sent) ≡ closing_text true q
  closing_is q f = ap (closing_text (is_of Bind o)) f ∙ ap (λ b. closing_text b q) (ap (passes (same_kind Bind)) h.kind)

  -- the final answer, where there was none
  abbrev final_text : Bool → Bool → Option Final
  final_text a g = if a then (if g then Some (record { rest = m.rest; behind = [] }) else None) else None

  final_is : (a f g : Bool) → (r.id == m.id) ≡ a → fits Bind m.rest ≡ f → is_final Bind m.rest ≡ g → final_answer o sent ≡ None → final_answer o (later_sending e sent) ≡ final_text (a && f) g
  final_is a f g x y z none = final_push o.request sent.id sent.behind e none h.reigns ∙ ap (λ b. if b then None else final_by (answer_of o.request sent.id e)) other ∙ ap (λ q. final_by (answer_in q)) got ∙ ap (λ i. final_by (if i && passes (λ kind. fits kind m.rest) (kind_of o.request.rest) then Some m.rest else None)) (ap (λ i. m.id == i) h.id ∙ eqb_sym m.id r.id ∙ x) ∙ ap (λ k. final_by (if a && passes (λ kind. fits kind m.rest) k then Some m.rest else None)) h.kind ∙ ap (λ b. final_by (if a && b then Some m.rest else None)) y ∙ by (a && f)
    where
      final_by : Option (List ℕ) → Option Final
      final_by a = if passes (is_final_for o.request) a then option_map (λ q. record { rest = q; behind = [] }) a else None

      answer_in : Option Message → Option (List ℕ)
      answer_in g = elim g [ None ↦ None | Some x ↦ if x.id == sent.id && passes (λ kind. fits kind x.rest) (kind_of o.request.rest) then Some x.rest else None ]

      by : (b : Bool) → final_by (if b then Some m.rest else None) ≡ (if b then (if g then Some (record { rest = m.rest; behind = [] }) else None) else None)
      by true = ap (λ k. if passes (λ kind. is_final kind m.rest) k then Some (record { rest = m.rest; behind = [] }) else None) h.kind ∙ ap (λ b. if b then Some (record { rest = m.rest; behind = [] }) else None) z
      by false = refl

  kind : r.kind ≡ Bind
  kind = bind_kind r.kind bind

  -- a row that stays as it was, but for the moment of its answer
  stays : (q : UpRow) (rows : List UpRow) → rows ≡ q ∷ [] → q.ask_who ≡ r.ask_who → q.id ≡ r.id → q.op ≡ r.op → is_some (closing_at s o (later_sending e sent)) ≡ false → (first_passes is_down ms ≡ false → IsAnswered s o (later_sending e sent) q.kept ms) → Comes s F next o rows (later_sending e sent) ms
  stays q rows is a b c unclosed answer = inr (record { row = q; is = is; unsettled = unclosed; live = λ d. becomes s F next r sent e ms h other quiet next q (ap (λ i. nat_lt i next) b ∙ h.below) a b c (answer d) })

  -- where nothing was kept back
  fresh : IsAnswered s o sent None (e ∷ ms) → (succeeds m (record r { kept = None }) ≡ true → first_passes (is_own who_am_i) ms ≡ true) → ((r.id == m.id) ≡ true → is_final Bind m.rest ≡ true → is_none (result_code m.rest) ≡ true → first_passes is_down ms ≡ true) → Comes s F next o (behind_message at m (record r { kept = None })) (later_sending e sent) ms
  fresh none who bad = by (r.id == m.id) (fits r.kind m.rest) (is_final r.kind m.rest) (is_bind_row r) (keeps_back r m.rest) (is_none (result_code m.rest)) refl (ap (λ k. fits k m.rest) (sym kind)) (ap (λ k. is_final k m.rest) (sym kind)) bind refl refl who
    where
      rows : Bool → Bool → Bool → Bool → Bool → Bool → List UpRow
      rows a f g b k n = elim (a && true) [ true ↦ elim f [ false ↦ record r { kept = None } ∷ [] | true ↦ elim g [ true ↦ elim b [ false ↦ [] | true ↦ elim k [ true ↦ record r { answered = at; kept = Some (record { rest = m.rest; who = None }) } ∷ [] | false ↦ elim n [ true ↦ record r { answered = at; kept = None } ∷ [] | false ↦ [] ] ] ] | false ↦ record r { answered = at; kept = None } ∷ [] ] ] | false ↦ record r { kept = None } ∷ [] ]

      closes : (a f g : Bool) → (r.id == m.id) ≡ a → fits Bind m.rest ≡ f → is_final Bind m.rest ≡ g → closing_at s o (later_sending e sent) ≡ closing_text true (final_text (a && f) g)
      closes a f g x y z = closing_is (final_text (a && f) g) (final_is a f g x y z none)

      last : Bool → Bool → Option (List ℕ)
      last n k = if n then None else if k then None else Some m.rest

      final_closes : (k n : Bool) → keeps_back r m.rest ≡ k → is_none (result_code m.rest) ≡ n → closing_text true (Some (record { rest = m.rest; behind = [] })) ≡ last n k
      final_closes k n y z = ap (λ c. last (is_none (result_code m.rest)) (is_kept_back c m.rest)) h.asks ∙ ap (λ c. last (is_none (result_code m.rest)) c) y ∙ ap (λ c. last c k) z

      code : keeps_back r m.rest ≡ true → is_none (result_code m.rest) ≡ false
      code y = code_there 0 (result_code m.rest) (right r.ask_who _ y)

      by : (a f g b k n : Bool) → (r.id == m.id) ≡ a → fits Bind m.rest ≡ f → is_final Bind m.rest ≡ g → b ≡ true → keeps_back r m.rest ≡ k → is_none (result_code m.rest) ≡ n → (((a && true) && (g && (b && k))) ≡ true → first_passes (is_own who_am_i) ms ≡ true) → Comes s F next o (rows a f g b k n) (later_sending e sent) ms
      by a f g false k n x y z d i j q = absurd (let no : false ≡ true = d in cc)
      by false f g true k n x y z d i j q = stays (record r { kept = None }) (rows false f g true k n) refl refl refl refl (ap is_some (closes false f g x y z)) (λ u. final_is false f g x y z none)
      by true false g true k n x y z d i j q = stays (record r { kept = None }) (rows true false g true k n) refl refl refl refl (ap is_some (closes true false g x y z)) (λ u. final_is true false g x y z none)
      by true true false true k n x y z d i j q = stays (record r { answered = at; kept = None }) (rows true true false true k n) refl refl refl refl (ap is_some (closes true true false x y z)) (λ u. final_is true true false x y z none)
      by true true true true true n x y z d i j q = stays (record r { answered = at; kept = Some (record { rest = m.rest; who = None }) }) (rows true true true true true n) refl refl refl refl (ap is_some (closes true true true x y z ∙ final_closes true false i (code i))) (λ u. record { es = []; final = final_is true true true x y z none; code = code i; back = ap (λ c. is_kept_back c m.rest) h.asks ∙ i; asked = (refl, q refl) })
      by true true true true false true x y z d i j q = stays (record r { answered = at; kept = None }) (rows true true true true false true) refl refl refl refl (ap is_some (closes true true true x y z ∙ final_closes false true i j)) (λ u. absurd (let no : true ≡ false = sym (bad x z j) ∙ u in cc))
      by true true true true false false x y z d i j q = inl (refl, ap is_some (closes true true true x y z ∙ final_closes false false i j))

  -- where the answer is kept back, and Who Am I was asked
  kept : (k : Kept) → IsAnswered s o sent (Some k) (e ∷ ms) → Comes s F next o (behind_message at m (record r { kept = Some k })) (later_sending e sent) ms
  kept k a = who k.who a.asked
    where
      final : final_answer o (later_sending e sent) ≡ Some (record { rest = k.rest; behind = a.es ++ e ∷ [] })
      final = final_more o.request sent.id sent.behind e (record { rest = k.rest; behind = a.es }) a.final

      closing : closing_at s o (later_sending e sent) ≡ who_answer (a.es ++ e ∷ [])
      closing = closing_is (Some (record { rest = k.rest; behind = a.es ++ e ∷ [] })) final ∙ ap (λ n. if n then None else if is_kept_back (asks_who s o) k.rest then who_answer (a.es ++ e ∷ []) else Some k.rest) a.code ∙ ap (λ b. if b then who_answer (a.es ++ e ∷ []) else Some k.rest) a.back

      who : (w : Option ℕ) → IsAsked w a.es (e ∷ ms) → Comes s F next o (behind_message at m (record r { kept = Some (record { rest = k.rest; who = w }) })) (later_sending e sent) ms
      who None b = absurd (let no : false ≡ true = sym (ap (passes (λ x. bytes_eq x.rest who_am_i)) own) ∙ b.1 in cc)
      who (Some w) b = by (r.id == m.id) (w == m.id) (tag_of m.rest == 0x78) refl refl
        where
          row : UpRow
          row = record r { kept = Some (record { rest = k.rest; who = Some w }) }

          rows : Bool → Bool → Bool → List UpRow
          rows i x t = elim (i && false) [ true ↦ behind_answer at m.rest (record r { kept = Some (record { rest = k.rest; who = Some w }) }) | false ↦ elim x [ true ↦ elim t [ true ↦ [] | false ↦ record r { answered = at; kept = Some (record { rest = k.rest; who = Some w }) } ∷ [] ] | false ↦ record r { kept = Some (record { rest = k.rest; who = Some w }) } ∷ [] ] ]

          not_under : (i x t : Bool) → rows i x t ≡ rows false x t
          not_under true x t = refl
          not_under false x t = refl

          heard : (x t : Bool) → (w == m.id) ≡ x → (tag_of m.rest == 0x78) ≡ t → extended_under w (a.es ++ e ∷ []) ≡ (if x && t then Some m.rest else None)
          heard x t y z = extended_push w a.es e ∙ ap (λ q. option_or q (extended_under w (e ∷ []))) b.1 ∙ ap (λ g. option_or (option_and_then (extended_rest w) g) None) got ∙ ap (λ c. option_or (if c && tag_of m.rest == 0x78 then Some m.rest else None) None) (eqb_sym m.id w ∙ y) ∙ ap (λ c. option_or (if x && c then Some m.rest else None) None) z ∙ alone (x && t)
            where
              alone : (c : Bool) → option_or (if c then Some m.rest else None) None ≡ (if c then Some m.rest else None)
              alone true = refl
              alone false = refl

          told : (x t : Bool) → (w == m.id) ≡ x → (tag_of m.rest == 0x78) ≡ t → closing_at s o (later_sending e sent) ≡ (if x && t then Some m.rest else None)
          told x t y z = closing ∙ ap (λ q. elim q [ None ↦ None | Some i ↦ extended_under i (a.es ++ e ∷ []) ]) (who_more a.es e w b.0) ∙ heard x t y z

          still : (x t : Bool) → (w == m.id) ≡ x → (tag_of m.rest == 0x78) ≡ t → (x && t) ≡ false → IsAsked (Some w) (a.es ++ e ∷ []) ms
          still x t y z n = (who_more a.es e w b.0, heard x t y z ∙ ap (λ c. if c then Some m.rest else None) n)

          more : (x t : Bool) → (w == m.id) ≡ x → (tag_of m.rest == 0x78) ≡ t → (x && t) ≡ false → (q : UpRow) (rs : List UpRow) → rs ≡ q ∷ [] → q.ask_who ≡ r.ask_who → q.id ≡ r.id → q.op ≡ r.op → q.kept ≡ Some (record { rest = k.rest; who = Some w }) → Comes s F next o rs (later_sending e sent) ms
          more x t y z n q rs is c d f g = stays q rs is c d f (ap is_some (told x t y z ∙ ap (λ v. if v then Some m.rest else None) n)) (λ u. subst (λ v. IsAnswered s o (later_sending e sent) v ms) (sym g) (kept_more s F next r sent e ms h k.rest (Some w) a.es a.final a.code a.back (still x t y z n)))

          by : (i x t : Bool) → (w == m.id) ≡ x → (tag_of m.rest == 0x78) ≡ t → Comes s F next o (rows i x t) (later_sending e sent) ms
          by i false t y z = more false t y z refl (record r { kept = Some (record { rest = k.rest; who = Some w }) }) (rows i false t) (not_under i false t) refl refl refl refl
          by i true false y z = more true false y z refl (record r { answered = at; kept = Some (record { rest = k.rest; who = Some w }) }) (rows i true false) (not_under i true false) refl refl refl refl
          by i true true y z = inl (not_under i true true, ap is_some (told true true y z))

  -- a message
  pub live_got : (succeeds m r ≡ true → first_passes (is_own who_am_i) ms ≡ true) → ((r.id == m.id) ≡ true → is_final Bind m.rest ≡ true → is_none (result_code m.rest) ≡ true → is_none r.kept ≡ true → first_passes is_down ms ≡ true) → Comes s F next o (behind_message at m r) (later_sending e sent) ms
  live_got who bad = by r.kept h.answer who bad
    where
      by : (k : Option Kept) → IsAnswered s o sent k (e ∷ ms) → (succeeds m (record r { kept = k }) ≡ true → first_passes (is_own who_am_i) ms ≡ true) → ((r.id == m.id) ≡ true → is_final Bind m.rest ≡ true → is_none (result_code m.rest) ≡ true → is_none k ≡ true → first_passes is_down ms ≡ true) → Comes s F next o (behind_message at m (record r { kept = k })) (later_sending e sent) ms
      by None a f g = fresh a f (λ x y z. g x y z refl)
      by (Some k) a f g = kept k a
