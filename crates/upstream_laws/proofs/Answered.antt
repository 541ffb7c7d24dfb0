-- The row of a bind connection says when the last answer to its Bind came: from entry to entry.
use Rattle.std.proofs.Common.{◌≡◌, ℕ, Bool, true, false, ◌==◌, ◌&&◌, not, List, [], ◌∷◌, ◌++◌, refl, ap, ◌∙◌, sym, subst}
use Rattle.std.specs.Prelude.{Option, Some, None, map, is_none, is_some, if◌then◌else◌, option_map}
use Rattle.std.specs.Str.{bytes_eq}
use Rattle.std.proofs.lemmas.List.{append-nil}
use Rattle.ldap_spec.specs.Bodies.{who_am_i}
use Rattle.ldap_spec.specs.Kinds.{fits, is_final, kind_of, same_kind, tag_of}
use Rattle.ldap_spec.specs.Messages.{Message}
use Rattle.ldap_spec.specs.Responses.{result_code}
use Rattle.lload_names.specs.declared.names.Entry.{Entry}
use Rattle.lload_names.specs.declared.names.OpKind.TheVariants.{Bind}
use Rattle.lload_names.specs.declared.names.PartName.{PartName}
use Rattle.lload_names.specs.declared.names.What.TheVariants as what
use Rattle.lload_spec.specs.Answers.{Final, Sending, answer_of, final_answer, sending_made, sendings}
use Rattle.lload_spec.specs.CausedUp.{last_answer}
use Rattle.lload_spec.specs.Entries.{got_message, sent_message}
use Rattle.lload_spec.specs.Journal.{Family}
use Rattle.lload_spec.specs.Lists.{last, passes}
use Rattle.lload_spec.specs.Operations.{Operation, is_of, operation}
use Rattle.lload_spec.specs.Settings.{Settings}
use Rattle.lload_laws.specs.ConnectionGrowth.{later_sending}
use Rattle.lload_laws.proofs.ConnectionGrowth.{sendings_grow}
use Rattle.part_laws.proofs.ListLaws.{eqb_sym}
use Rattle.part_spec.specs.ConnectionState.{Kept, UpRow, behind_message, behind_own, is_abandoned_by, is_bind_row, is_under_who, keeps_back}
use Rattle.bind_laws.proofs.Meets.{bind_kind}
use Rattle.bind_laws.proofs.Sents.{IsAnswered, IsAsked, IsLive}
use Rattle.lload_spec.specs.Answers.{who_id}
use Rattle.client_answer_laws.proofs.Each.{Each, each_imply}
use Rattle.identity_laws.proofs.Finals.{last-map}
use Rattle.rows_laws.proofs.Live.{answer_push}
use Rattle.upstream_laws.proofs.LastAnswers.{quiet_answer, who_push}

-- a row says of the last Sent when its last answer came
pub record OfLast (F : Family) (r : UpRow) (x : Sending) : Type 0 where
  pub o : Operation
  pub found : operation F x.op ≡ Some o
  pub op : x.op ≡ r.op
  pub bind : is_of Bind o ≡ true
  pub answered : last_answer o x.id x.at x.behind ≡ r.answered

abbrev pub LastOf : Family → Option Sending → UpRow → Type 0
LastOf F None r = ⊥
LastOf F (Some x) r = OfLast F r x

abbrev pub Said : Family → List UpRow → Option Sending → Type 0
Said F rows o = Each (LastOf F o) rows

-- the last Sent behind an entry that is none
pub last_stays : (u : ℕ) (place : List Entry) (e : Entry) → sent_message e.what ≡ None → last (sendings u (place ++ e ∷ [])) ≡ option_map (later_sending e) (last (sendings u place))
last_stays u place e h = ap last (sendings_grow u place e ∙ ap (λ o. map (later_sending e) (sendings u place) ++ sending_made u place e [] o) h ∙ append-nil (map (later_sending e) (sendings u place))) ∙ last-map (later_sending e) (sendings u place)

-- a row behind an own message says the same
pub own_same : (m : Message) (r : UpRow) → Each (λ q. (q.op ≡ r.op) × (q.answered ≡ r.answered)) (behind_own m r)
own_same m r = by (bytes_eq m.rest who_am_i && passes (λ k. is_none k.who) r.kept) (is_abandoned_by m.rest r)
  where
    by : (a b : Bool) → Each (λ q. (q.op ≡ r.op) × (q.answered ≡ r.answered)) (elim a [ true ↦ record r { kept = elim r.kept [ None ↦ None | Some k ↦ Some (record k { who = Some m.id }) ] } ∷ [] | false ↦ elim b [ true ↦ [] | false ↦ r ∷ [] ] ])
    by true b = ((refl, refl), tt)
    by false true = tt
    by false false = ((refl, refl), tt)

-- with an entry more that is no message
pub said_later : (F : Family) (e : Entry) (o : Option Sending) (r q : UpRow) → got_message e.what ≡ None → q.op ≡ r.op → q.answered ≡ r.answered → LastOf F o r → LastOf F (option_map (later_sending e) o) q
said_later F e None r q n a b h = absurd h
said_later F e (Some x) r q n a b h = record { o = h.o; found = h.found; op = h.op ∙ sym a; bind = h.bind; answered = quiet_answer h.o x.id x.at x.behind e n ∙ h.answered ∙ sym b }

-- A message, where its turn begins.
module _ (s : Settings) (F : Family) (n : ℕ) (r : UpRow) (x : Sending) (l : IsLive s F n r x []) (bind : is_bind_row r ≡ true) (h : OfLast F r x) (part : PartName) (at id : ℕ) (rest : List ℕ) where
  abbrev got : Entry
  got = record { part = part; at = at; what = what.Got id rest }

  abbrev m : Message
  m = record { id = id; rest = rest }

  abbrev now : ℕ
  now = last_answer l.o x.id x.at (x.behind ++ got ∷ [])

  same_o : h.o ≡ l.o
  same_o = let both : Some h.o ≡ Some l.o = sym h.found ∙ l.found in cc

  before : last_answer l.o x.id x.at x.behind ≡ r.answered
  before = ap (λ o. last_answer o x.id x.at x.behind) (sym same_o) ∙ h.answered

  -- the rows by the tests
  abbrev text : Option Kept → Bool → Bool → Bool → Bool → Bool → Bool → Bool → Bool → List UpRow
  text k under f g b back none who ext =
      elim under [
        | true ↦ elim f [ false ↦ record r { kept = k } ∷ [] | true ↦ elim g [ true ↦ elim b [ false ↦ [] | true ↦ elim back [ true ↦ record r { answered = at; kept = Some (record { rest = rest; who = None }) } ∷ [] | false ↦ elim none [ true ↦ record r { answered = at; kept = k } ∷ [] | false ↦ [] ] ] ] | false ↦ record r { answered = at; kept = k } ∷ [] ] ]
        | false ↦ elim who [ true ↦ elim ext [ true ↦ [] | false ↦ record r { answered = at; kept = k } ∷ [] ] | false ↦ record r { kept = k } ∷ [] ]
      ]

  -- all that stays says so
  all_at : (k : Option Kept) (f g b back none : Bool) → f ≡ true → now ≡ at → Each (λ q. (q.op ≡ r.op) × (now ≡ q.answered)) (text k true f g b back none false false)
  all_at k false g b back none i e = absurd (let bad : false ≡ true = i in cc)
  all_at k true false b back none i e = ((refl, e), tt)
  all_at k true true false back none i e = tt
  all_at k true true true true none i e = ((refl, e), tt)
  all_at k true true true false true i e = ((refl, e), tt)
  all_at k true true true false false i e = tt

  answer_is : answer_of l.o.request x.id got ≡ (if (r.id == id) && fits r.kind rest then Some rest else None)
  answer_is = ap (λ c. if c && passes (λ k. fits k rest) (kind_of l.o.request.rest) then Some rest else None) (eqb_sym id x.id ∙ ap (λ i. i == id) l.id) ∙ ap (λ q. if (r.id == id) && passes (λ k. fits k rest) q then Some rest else None) (l.kind ∙ ap Some (sym (bind_kind r.kind bind)))

  fresh : final_answer l.o x ≡ None → (k : Option Kept) → k ≡ None → Each (λ q. (q.op ≡ r.op) × (now ≡ q.answered)) (behind_message at m (record r { kept = k }))
  fresh none k e = by (r.id == id) (fits r.kind rest) refl refl
    where
      pushed : now ≡ (if is_none (answer_of l.o.request x.id got) then r.answered else at)
      pushed = answer_push l.o x.id x.at x.behind got none l.reigns refl ∙ ap (λ v. if is_none (answer_of l.o.request x.id got) then v else at) before

      and_true : (b : Bool) → (b && true) ≡ b
      and_true true = refl
      and_true false = refl

      under : (b : Bool) → (r.id == id) ≡ b → ((r.id == id) && not (is_some k)) ≡ b
      under b i = ap (λ q. (r.id == id) && not (is_some q)) e ∙ and_true (r.id == id) ∙ i

      no_who : is_under_who id (record r { kept = k }) ≡ false
      no_who = ap (λ q. passes (λ w. w == id) (elim q [ None ↦ None | Some y ↦ y.who ])) e

      whole : Bool → Bool → List UpRow
      whole u w = text k u (fits r.kind rest) (is_final r.kind rest) (is_bind_row r) (keeps_back r rest) (is_none (result_code rest)) w (tag_of rest == 0x78)

      by : (a b : Bool) → (r.id == id) ≡ a → fits r.kind rest ≡ b → Each (λ q. (q.op ≡ r.op) × (now ≡ q.answered)) (whole ((r.id == id) && not (is_some k)) (is_under_who id (record r { kept = k })))
      by false b i j = subst (λ u. Each (λ q. (q.op ≡ r.op) × (now ≡ q.answered)) (whole u (is_under_who id (record r { kept = k })))) (sym (under false i)) (subst (λ w. Each (λ q. (q.op ≡ r.op) × (now ≡ q.answered)) (whole false w)) (sym no_who) ((refl, pushed ∙ ap (λ v. if is_none v then r.answered else at) (answer_is ∙ ap (λ c. if c && fits r.kind rest then Some rest else None) i)), tt))
      by true true i j = subst (λ u. Each (λ q. (q.op ≡ r.op) × (now ≡ q.answered)) (whole u (is_under_who id (record r { kept = k })))) (sym (under true i)) (all_at k (fits r.kind rest) (is_final r.kind rest) (is_bind_row r) (keeps_back r rest) (is_none (result_code rest)) j (pushed ∙ ap (λ v. if is_none v then r.answered else at) (answer_is ∙ ap (λ c. if c && fits r.kind rest then Some rest else None) i ∙ ap (λ c. if c then Some rest else None) j)))
      by true false i j = subst (λ u. Each (λ q. (q.op ≡ r.op) × (now ≡ q.answered)) (whole u (is_under_who id (record r { kept = k })))) (sym (under true i)) (subst (λ f. Each (λ q. (q.op ≡ r.op) × (now ≡ q.answered)) (text k true f (is_final r.kind rest) (is_bind_row r) (keeps_back r rest) (is_none (result_code rest)) (is_under_who id (record r { kept = k })) (tag_of rest == 0x78))) (sym j) ((refl, pushed ∙ ap (λ v. if is_none v then r.answered else at) (answer_is ∙ ap (λ c. if c && fits r.kind rest then Some rest else None) i ∙ ap (λ c. if c then Some rest else None) j)), tt))

  asked : (k : Kept) (w : ℕ) → k.who ≡ Some w → (f : Final) → final_answer l.o x ≡ Some f → who_id f.behind ≡ Some w → Each (λ q. (q.op ≡ r.op) × (now ≡ q.answered)) (behind_message at m (record r { kept = Some k }))
  asked k w e f final who = by (w == id) refl
    where
      pushed : now ≡ (if id == w then at else r.answered)
      pushed = who_push l.o x.id x.at w x.behind got f final l.reigns who ∙ ap (λ v. if id == w then at else v) before

      not_under : ((r.id == id) && false) ≡ false
      not_under = none (r.id == id)
        where
          none : (b : Bool) → (b && false) ≡ false
          none true = refl
          none false = refl

      whole : Bool → Bool → Bool → List UpRow
      whole u v ext = text (Some k) u (fits r.kind rest) (is_final r.kind rest) (is_bind_row r) (keeps_back r rest) (is_none (result_code rest)) v ext

      ends : (ext : Bool) → now ≡ at → Each (λ q. (q.op ≡ r.op) × (now ≡ q.answered)) (whole false true ext)
      ends true j = tt
      ends false j = ((refl, j), tt)

      by : (b : Bool) → (w == id) ≡ b → Each (λ q. (q.op ≡ r.op) × (now ≡ q.answered)) (whole ((r.id == id) && false) (passes (λ v. v == id) k.who) (tag_of rest == 0x78))
      by b i = subst (λ u. Each (λ q. (q.op ≡ r.op) × (now ≡ q.answered)) (whole u (passes (λ v. v == id) k.who) (tag_of rest == 0x78))) (sym not_under) (subst (λ v. Each (λ q. (q.op ≡ r.op) × (now ≡ q.answered)) (whole false v (tag_of rest == 0x78))) (sym (ap (passes (λ v. v == id)) e ∙ i)) (here b i))
        where
          here : (c : Bool) → (w == id) ≡ c → Each (λ q. (q.op ≡ r.op) × (now ≡ q.answered)) (whole false c (tag_of rest == 0x78))
          here true j = ends (tag_of rest == 0x78) (pushed ∙ ap (λ c. if c then at else r.answered) (eqb_sym id w ∙ j))
          here false j = ((refl, pushed ∙ ap (λ c. if c then at else r.answered) (eqb_sym id w ∙ j)), tt)

  pub got_said : Each (λ q. OfLast F q (later_sending got x)) (behind_message at m r)
  got_said = each_imply (λ q. (q.op ≡ r.op) × (now ≡ q.answered)) (λ q. OfLast F q (later_sending got x)) (behind_message at m r) (λ q k. record { o = l.o; found = l.found; op = l.op ∙ sym k.0; bind = ap (passes (same_kind Bind)) l.kind; answered = k.1 }) (by r.kept refl l.answer)
    where
      by : (k : Option Kept) → r.kept ≡ k → IsAnswered s l.o x k [] → Each (λ q. (q.op ≡ r.op) × (now ≡ q.answered)) (behind_message at m (record r { kept = k }))
      by None e a = fresh a None refl
      by (Some k) e a = who k.who refl a.asked
        where
          who : (w : Option ℕ) → k.who ≡ w → IsAsked w a.es [] → Each (λ q. (q.op ≡ r.op) × (now ≡ q.answered)) (behind_message at m (record r { kept = Some k }))
          who None i b = absurd (let bad : false ≡ true = b.1 in cc)
          who (Some w) i b = asked k w i (record { rest = k.rest; behind = a.es }) a.final b.0
