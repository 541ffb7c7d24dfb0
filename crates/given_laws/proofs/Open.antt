-- From the Sent of an operation on its connection gives no more letters for it than are told.
use Rattle.std.proofs.Common.{◌≡◌, ◌⊎◌, inl, inr, ℕ, suc, ◌+◌, ◌≤◌, Bool, true, false, ◌==◌, ◌&&◌, ◌||◌, not, if◌then◌else◌, List, [], ◌∷◌, ◌++◌, length, arith, refl, ap, ◌∙◌, sym}
use Rattle.std.specs.Prelude.{Option, Some, None, flat_map, is_none}
use Rattle.std.specs.List.{list_any, list_all}
use Rattle.std.specs.Str.{bytes_eq}
use Rattle.ldap_spec.specs.Bodies.{abandon, who_am_i}
use Rattle.ldap_spec.specs.Kinds.{fits, is_final, kind_of, same_kind, tag_of}
use Rattle.ldap_spec.specs.Messages.{Message}
use Rattle.ldap_spec.specs.Responses.{result_code}
use Rattle.lload_names.specs.declared.names.EndWhy.TheVariants.{Bad as BadEnd}
use Rattle.lload_names.specs.declared.names.OpKind.{OpKind}
use Rattle.lload_names.specs.declared.names.OpKind.TheVariants.{Bind}
use Rattle.lload_names.specs.declared.names.OpName.{OpName}
use Rattle.lload_names.specs.declared.names.PartName.{PartName}
use Rattle.lload_names.specs.declared.names.What.{What}
use Rattle.lload_names.specs.declared.names.What.TheVariants as what
use Rattle.lload_spec.specs.Answers.{Sending, asks_who, gives_id}
use Rattle.lload_spec.specs.BadMessages.{is_bad}
use Rattle.lload_spec.specs.Entries.{down_why, expired_op, got_message, is_down, is_down_by, is_expired, is_missed, is_sent, own_message}
use Rattle.lload_spec.specs.Identifiers.{has_right_id}
use Rattle.lload_spec.specs.Journal.{same_op}
use Rattle.lload_spec.specs.Lists.{agrees, first_passes, passes}
use Rattle.lload_spec.specs.Operations.{Operation, is_final_for, is_of}
use Rattle.lload_spec.specs.Owed.{drops, loses, told_at_final, told_by}
use Rattle.lload_spec.specs.Settings.{Settings}
use Rattle.lload_spec.proofs.Growth.{left, right, both}
use Rattle.lload_laws.proofs.ListLaws.{found, found_passes, implied, implies_by}
use Rattle.part_laws.proofs.ListLaws.{false_by, not_true, or_left, or_right, same_number}
use Rattle.part_spec.specs.ConnectionState.{ConnectionState, Kept, UpRow, behind_message, behind_own, is_abandoned_by, is_bind, is_bind_row, is_under, is_under_own, is_under_who, keeps_back, message_facts, step_connection}
use Rattle.part_spec.specs.Gives.{got_letters}
use Rattle.part_spec.specs.Marked.{Marked, Taken, entries}
use Rattle.connection_laws.proofs.Apart.{shrinks_message, shrinks_own}
use Rattle.forward_laws.proofs.Causes.{kind_eq}
use Rattle.answer_laws.proofs.Gots.{answer_by, got_open, is_kept_as, is_open}
use Rattle.answer_laws.proofs.Keeps.{open_stays, others_stay}
use Rattle.answer_laws.proofs.Opens.{other_id}
use Rattle.answer_laws.proofs.Places.{At}
use Rattle.answer_laws.proofs.Rests.{gone_mine, mine_flat, none_mine, of_mine, told}
use Rattle.answer_laws.proofs.Told.{bad_ends, marked_so, next_at}
use Rattle.told_laws.proofs.Given.{letters_pass}
use Rattle.told_laws.proofs.Sources.{is_forwarded}
use Rattle.told_laws.proofs.Troubles.{neither}
use Rattle.given_laws.proofs.Behind.{Fine, bad_given, calm_silent, down_given, expired_given, fine_behind, first_lost, gave, gave_both, given_at, marked_as, nothing_given}
use Rattle.given_laws.proofs.Counts.{count, count_answers, is_refusal}
use Rattle.given_laws.proofs.Final.{asks_rightly, final_given}
use Rattle.given_laws.proofs.Told.{drops_none, later_lost, later_text, told_last, told_lost, told_more, told_on}

-- What a row says of the identity stays.

module _ (s : Settings) (o : Operation) where
  stays_one : (r q : UpRow) → r.op ≡ q.op → r.ask_who ≡ q.ask_who → asks_rightly s o r ≡ true → list_all (of_mine o.name (asks_rightly s o)) (q ∷ []) ≡ true
  stays_one r q same asks h = both (of_mine o.name (asks_rightly s o) q) true (implies_by (same_op o.name q.op) _ (λ j. ap (λ b. agrees b (asks_who s o)) (sym asks) ∙ h)) refl

  asks_message : (at : ℕ) (m : Message) (r : UpRow) → asks_rightly s o r ≡ true → list_all (of_mine o.name (asks_rightly s o)) (behind_message at m r) ≡ true
  asks_message at m r h = by (is_under m.id r) (fits r.kind m.rest) (is_final r.kind m.rest) (is_bind_row r) (keeps_back r m.rest) (is_none (result_code m.rest)) (is_under_who m.id r) (tag_of m.rest == 0x78)
    where
      answered : list_all (of_mine o.name (asks_rightly s o)) (record r { answered = at } ∷ []) ≡ true
      answered = stays_one r (record r { answered = at }) refl refl h

      by : (a b c d e f g t : Bool) → list_all (of_mine o.name (asks_rightly s o)) (elim a [ true ↦ elim b [ false ↦ r ∷ [] | true ↦ elim c [ true ↦ elim d [ false ↦ [] | true ↦ elim e [ true ↦ record r { answered = at; kept = Some (record { rest = m.rest; who = None }) } ∷ [] | false ↦ elim f [ true ↦ record r { answered = at } ∷ [] | false ↦ [] ] ] ] | false ↦ record r { answered = at } ∷ [] ] ] | false ↦ elim g [ true ↦ elim t [ true ↦ [] | false ↦ record r { answered = at } ∷ [] ] | false ↦ r ∷ [] ] ]) ≡ true
      by true false c d e f g t = stays_one r r refl refl h
      by true true true false e f g t = refl
      by true true true true true f g t = stays_one r (record r { answered = at; kept = Some (record { rest = m.rest; who = None }) }) refl refl h
      by true true true true false true g t = answered
      by true true true true false false g t = refl
      by true true false d e f g t = answered
      by false b c d e f true true = refl
      by false b c d e f true false = answered
      by false b c d e f false t = stays_one r r refl refl h

  asks_own : (m : Message) (r : UpRow) → asks_rightly s o r ≡ true → list_all (of_mine o.name (asks_rightly s o)) (behind_own m r) ≡ true
  asks_own m r h = by (bytes_eq m.rest who_am_i && passes (λ k. is_none k.who) r.kept) (is_abandoned_by m.rest r)
    where
      by : (a b : Bool) → list_all (of_mine o.name (asks_rightly s o)) (elim a [ true ↦ record r { kept = elim r.kept [ None ↦ None | Some k ↦ Some (record k { who = Some m.id }) ] } ∷ [] | false ↦ elim b [ true ↦ [] | false ↦ r ∷ [] ] ]) ≡ true
      by true b = stays_one r (record r { kept = elim r.kept [ None ↦ None | Some k ↦ Some (record k { who = Some m.id }) ] }) refl refl h
      by false true = refl
      by false false = stays_one r r refl refl h

module _ (s : Settings) (u : ℕ) (o : Operation) (x : Sending) (kind : OpKind) (kind_req : kind_of o.request.rest ≡ Some kind) where
  abbrev op : OpName
  op = o.name

  abbrev OpenRows : ConnectionState → Type 0
  OpenRows p = list_all (of_mine op (is_open kind x.id)) p.rows ≡ true

  abbrev AskRows : ConnectionState → Type 0
  AskRows p = list_all (of_mine op (asks_rightly s o)) p.rows ≡ true

  bind_is : is_of Bind o ≡ same_kind Bind kind
  bind_is = ap (passes (same_kind Bind)) kind_req

  module _ (b : List Marked) (p : ConnectionState) (ms : List Marked) (part : PartName) (at : ℕ) (mark : Option Taken) (a : At s u (entries b) p) (opened : OpenRows p) (asks : AskRows p) (there : list_any (λ r. same_op op r.op) p.rows ≡ true) where
    abbrev marked : What → Marked
    marked v = marked_as s u op part at mark v

    abbrev next : What → ConnectionState
    next v = step_connection s p (marked v)

    abbrev Goal : What → Type 0
    Goal v = gave s u op p (marked v ∷ ms) ≤ told_by s o x (entries (marked v ∷ ms))

    abbrev Next : What → Type 0
    Next v = OpenRows (next v) → AskRows (next v) → gave s u op (next v) ms ≤ told_by s o x (entries ms)

    -- no entry gives its identifier
    unnamed : (v : What) → has_right_id p.ids v ≡ true → gives_id x.id (marked v).entry ≡ false
    unnamed v k = other_id s op kind x.id (entries b) p a.ids opened there v k

    -- an entry that gives nothing, and answers nothing
    calm : (v : What) → Fine s u op b p (marked v ∷ ms) → got_message v ≡ None → passes (same_op op) (expired_op v) ≡ false → down_why v ≡ None → drops o x (marked v).entry ≡ false → Next v → Goal v
    calm v h g e d dropped behind =
        let apart = neither (is_sent op (marked v).entry) (is_missed op (marked v).entry) (not_true (is_forwarded op (marked v).entry) (left (not (is_forwarded op (marked v).entry)) _ h.unforwarded)) in
        let all : gave s u op p (marked v ∷ ms) ≡ given_at s u op p (marked v) + gave s u op (next v) ms = gave_both s u op p (marked v) ms in
        let none : given_at s u op p (marked v) ≡ 0 = calm_silent s u op p at mark v g e apart.1 d in
        let later : gave s u op (next v) ms ≤ told_by s o x (entries ms) = behind (others_stay op (is_open kind x.id) (open_stays op kind x.id) s (marked v).entry mark p v (ap is_none g) (ap not apart.0) (marked_so s u op p (marked v) h.rights.0.marked) opened) (others_stay op (asks_rightly s o) (asks_own s o) s (marked v).entry mark p v (ap is_none g) (ap not apart.0) (marked_so s u op p (marked v) h.rights.0.marked) asks) in
        let told_is : told_by s o x (entries (marked v ∷ ms)) ≡ told_by s o x (entries ms) = told_on s o x (marked v).entry (entries ms) (unnamed v h.rights.0.id_right) dropped (lost e d) None (ap (λ c. answer_text c) g) in
        omega (arith, all, none, later, told_is)
      where
        answer_text : Option Message → Option (List ℕ)
        answer_text c = elim c [ None ↦ None | Some m ↦ if m.id == x.id && passes (λ k. fits k m.rest) (kind_of o.request.rest) then Some m.rest else None ]

        lost : passes (same_op op) (expired_op v) ≡ false → down_why v ≡ None → loses o (marked v).entry ≡ false
        lost i j = ap (λ c. c || is_down (marked v).entry) i ∙ ap (passes (λ why. true)) j

    -- one that loses it
    lost : (v : What) → Fine s u op b p (marked v ∷ ms) → own_message v ≡ None → loses o (marked v).entry ≡ true → gave s u op p (marked v ∷ ms) ≤ 1 → Goal v
    lost v h g l few =
        let one : told_by s o x (entries (marked v ∷ ms)) ≡ 1 = told_lost s o x (marked v).entry (entries ms) (unnamed v h.rights.0.id_right) (drops_none o x (marked v).entry g) l in
        omega (arith, few, one)

    expired : (q : OpName) → Fine s u op b p (marked (what.Expired q) ∷ ms) → Next (what.Expired q) → Goal (what.Expired q)
    expired q h behind = by (same_op op q) refl
      where
        by : (c : Bool) → same_op op q ≡ c → Goal (what.Expired q)
        by true e = lost (what.Expired q) h refl (or_left (is_expired op (marked (what.Expired q)).entry) _ e) (expired_given s u o q part at mark b p ms h e)
        by false e = calm (what.Expired q) h refl e refl (drops_none o x (marked (what.Expired q)).entry refl) behind

    -- its Drop
    dropped : (i : ℕ) (rest : List ℕ) → Fine s u op b p (marked (what.Own i rest) ∷ ms) → drops o x (marked (what.Own i rest)).entry ≡ true → Goal (what.Own i rest)
    dropped i rest h d =
        let all : gave s u op p (marked (what.Own i rest) ∷ ms) ≡ given_at s u op p (marked (what.Own i rest)) + gave s u op (next (what.Own i rest)) ms = gave_both s u op p (marked (what.Own i rest)) ms in
        let none : given_at s u op p (marked (what.Own i rest)) ≡ 0 = calm_silent s u op p at mark (what.Own i rest) refl refl refl refl in
        let later : gave s u op (next (what.Own i rest)) ms ≡ 0 = nothing_given s u op (b ++ marked (what.Own i rest) ∷ []) (next (what.Own i rest)) ms (fine_behind s u op b p (marked (what.Own i rest)) ms h) (gone_mine op (next (what.Own i rest)).rows gone) in
        omega (arith, all, none, later)
      where
        plain : same_kind Bind kind ≡ false
        plain = sym bind_is ∙ not_true (is_of Bind o) (left (not (is_of Bind o)) _ d)

        gone_one : (r : UpRow) → is_open kind x.id r ≡ true → list_all (of_mine op (λ y. false)) (behind_own (record { id = i; rest = rest }) r) ≡ true
        gone_one r k = by r.kept (left (is_none r.kept) _ (left (is_none r.kept && same_kind kind r.kind) _ k)) (bytes_eq rest who_am_i) ∙ ap (λ c. list_all (of_mine op (λ y. false)) (elim c [ true ↦ [] | false ↦ r ∷ [] ])) (both (not (is_bind_row r)) _ (ap not (ap (same_kind Bind) (sym (kind_eq kind r.kind (right (is_none r.kept) _ (left (is_none r.kept && same_kind kind r.kind) _ k)))) ∙ plain)) (ap (λ n. bytes_eq rest (abandon n)) (same_number r.id x.id (right (is_none r.kept && same_kind kind r.kind) _ k)) ∙ right (not (is_of Bind o)) _ d))
          where
            by : (kept : Option Kept) → is_none kept ≡ true → (c : Bool) → list_all (of_mine op (λ y. false)) (elim (c && passes (λ y. is_none y.who) kept) [ true ↦ record r { kept = elim r.kept [ None ↦ None | Some y ↦ Some (record y { who = Some i }) ] } ∷ [] | false ↦ elim (is_abandoned_by rest r) [ true ↦ [] | false ↦ r ∷ [] ] ]) ≡ list_all (of_mine op (λ y. false)) (elim (is_abandoned_by rest r) [ true ↦ [] | false ↦ r ∷ [] ])
            by None j true = refl
            by None j false = refl
            by (Some y) j c = absurd (let bad : false ≡ true = j in cc)

        gone : list_all (of_mine op (λ y. false)) (flat_map (behind_own (record { id = i; rest = rest })) p.rows) ≡ true
        gone = mine_flat op (λ y. false) (is_open kind x.id) (behind_own (record { id = i; rest = rest })) p.rows (shrinks_own (record { id = i; rest = rest })) gone_one opened

    own : (i : ℕ) (rest : List ℕ) → Fine s u op b p (marked (what.Own i rest) ∷ ms) → Next (what.Own i rest) → Goal (what.Own i rest)
    own i rest h behind = by (drops o x (marked (what.Own i rest)).entry) refl
      where
        by : (c : Bool) → drops o x (marked (what.Own i rest)).entry ≡ c → Goal (what.Own i rest)
        by true e = dropped i rest h e
        by false e = calm (what.Own i rest) h refl refl refl e behind

    -- A message.
    module _ (i : ℕ) (rest : List ℕ) (h : Fine s u op b p (marked (what.Got i rest) ∷ ms)) where
      abbrev m : Message
      m = record { id = i; rest = rest }

      abbrev got : Marked
      got = marked (what.Got i rest)

      on : (c : Option (List ℕ)) → answer_by o.request x.id m ≡ c → told_by s o x (entries (got ∷ ms)) ≡ later_text s o x (entries ms) c
      on c e = told_on s o x got.entry (entries ms) refl (drops_none o x got.entry refl) refl c e

      bad : is_bad (message_facts p) m ≡ true → Goal (what.Got i rest)
      bad e =
          let few : gave s u op p (got ∷ ms) ≤ 1 = bad_given s u op part at mark b p ms i rest a h e in
          let ends : first_passes (is_down_by BadEnd) (entries ms) ≡ true = bad_ends s u op b p got ms i rest a h.rights.0 refl e in
          let least : 1 ≤ later_text s o x (entries ms) (answer_by o.request x.id m) = later_lost s o x (entries ms) (answer_by o.request x.id m) ends (first_lost s u o ms ends) in
          let told_is : told_by s o x (entries (got ∷ ms)) ≡ later_text s o x (entries ms) (answer_by o.request x.id m) = on (answer_by o.request x.id m) refl in
          omega (arith, few, least, told_is)

      own_id : is_bind p ≡ true → is_under_own p i ≡ false
      own_id bp = ap (passes (λ own. own.id == i)) (a.bare bp)

      -- no refusal stands here: only of what is kept back
      answers_alone : is_bad (message_facts p) m ≡ false → count op (got_letters s p at m) ≡ length (told op (got_letters s p at m))
      answers_alone fine =
          count_answers op (got_letters s p at m)
          (letters_pass (λ y. not (is_refusal op y)) s p at None (what.Got i rest) (record {
            ended = λ q v late. refl;
            up = λ v. refl;
            retired = λ v. refl;
            down = λ v. refl;
            replied = λ id r e f q k back is_last. refl;
            told = λ id r e f sort q k g n t. refl;
            unknown = λ id r e f sort q k g n t. ap not (false_by (same_op op q.op) (λ j. kept_open id q (left (is_none q.kept) _ (left (is_none q.kept && same_kind kind q.kind) _ (implied (same_op op q.op) _ (found (of_mine op (is_open kind x.id)) (is_under_who id) p.rows q g opened) j))) (found_passes (is_under_who id) p.rows q g)));
            expired = λ q e. absurd (cc);
            missed = λ q e. absurd (cc);
            lost = λ why e. absurd (cc);
          }))
        where
          kept_open : (id : ℕ) (q : UpRow) → is_none q.kept ≡ true → is_under_who id q ≡ true → false ≡ true
          kept_open id q n k = by q.kept n k
            where
              by : (y : Option Kept) → is_none y ≡ true → passes (λ who. who == id) (elim y [ None ↦ None | Some z ↦ z.who ]) ≡ true → false ≡ true
              by None n' k' = k'
              by (Some z) n' k' = n'

      asks_behind : AskRows (next (what.Got i rest))
      asks_behind = by (is_under_own p i)
        where
          by : (c : Bool) → list_all (of_mine op (asks_rightly s o)) (if c then p.rows else flat_map (behind_message at m) p.rows) ≡ true
          by true = asks
          by false = mine_flat op (asks_rightly s o) (asks_rightly s o) (behind_message at m) p.rows (shrinks_message at m) (asks_message s o at m) asks

      -- the last answer
      at_last : is_bad (message_facts p) m ≡ false → answer_by o.request x.id m ≡ Some rest → is_final_for o.request rest ≡ true → Goal (what.Got i rest)
      at_last fine e f =
          let few : gave s u op p (got ∷ ms) ≤ told_at_final s o rest (entries ms) = final_given s u o x.id kind kind_req b p ms part at mark i rest a h there opened asks fine (same (i == x.id) refl e) (ap (passes (λ k. is_final k rest)) (sym kind_req) ∙ f) in
          let told_is : told_by s o x (entries (got ∷ ms)) ≡ told_at_final s o rest (entries ms) = told_last s o x got.entry (entries ms) rest (on (Some rest) e) f in
          omega (arith, few, told_is)
        where
          same : (c : Bool) → (i == x.id) ≡ c → ◌≡◌ {A = Option (List ℕ)} (if c && passes (λ k. fits k rest) (kind_of o.request.rest) then Some rest else None) (Some rest) → c ≡ true
          same true j k = refl
          same false j k = absurd (let bad' : ◌≡◌ {A = Option (List ℕ)} None (Some rest) = k in cc)

      abbrev Steps : Type 0
      Steps = ((told op (got_letters s p at m) ≡ []) × (answer_by o.request x.id m ≡ None) × OpenRows (next (what.Got i rest))) ⊎ (((told op (got_letters s p at m) ≡ rest ∷ []) × (answer_by o.request x.id m ≡ Some rest) × (is_final_for o.request rest ≡ false) × OpenRows (next (what.Got i rest))) ⊎ (((told op (got_letters s p at m) ≡ rest ∷ []) × (answer_by o.request x.id m ≡ Some rest) × (is_final_for o.request rest ≡ true) × (list_all (of_mine op (λ r. false)) (next (what.Got i rest)).rows ≡ true)) ⊎ ((told op (got_letters s p at m) ≡ []) × (answer_by o.request x.id m ≡ Some rest) × (is_final_for o.request rest ≡ true) × (list_all (of_mine op (is_kept_as rest)) (next (what.Got i rest)).rows ≡ true) × (is_bind p ≡ true))))

      -- an answer that isn't the last one, or none
      told_few : is_bad (message_facts p) m ≡ false → Next (what.Got i rest) → Steps → Goal (what.Got i rest)
      told_few fine behind (inl z) =
          let all : gave s u op p (got ∷ ms) ≡ given_at s u op p got + gave s u op (next (what.Got i rest)) ms = gave_both s u op p got ms in
          let none : given_at s u op p got ≡ 0 = answers_alone fine ∙ ap length z.0 in
          let later : gave s u op (next (what.Got i rest)) ms ≤ told_by s o x (entries ms) = behind z.2 asks_behind in
          let told_is : told_by s o x (entries (got ∷ ms)) ≡ told_by s o x (entries ms) = on None z.1 in
          omega (arith, all, none, later, told_is)
      told_few fine behind (inr (inl z)) =
          let all : gave s u op p (got ∷ ms) ≡ given_at s u op p got + gave s u op (next (what.Got i rest)) ms = gave_both s u op p got ms in
          let one : given_at s u op p got ≡ 1 = answers_alone fine ∙ ap length z.0 in
          let later : gave s u op (next (what.Got i rest)) ms ≤ told_by s o x (entries ms) = behind z.3 asks_behind in
          let told_is : told_by s o x (entries (got ∷ ms)) ≡ suc (told_by s o x (entries ms)) = told_more s o x got.entry (entries ms) rest (on (Some rest) z.1) z.2 in
          omega (arith, all, one, later, told_is)
      told_few fine behind (inr (inr (inl z))) = at_last fine z.1 z.2
      told_few fine behind (inr (inr (inr z))) = at_last fine z.1 z.2

      message : Next (what.Got i rest) → Goal (what.Got i rest)
      message behind = by (is_bad (message_facts p) m) refl
        where
          by : (c : Bool) → is_bad (message_facts p) m ≡ c → Goal (what.Got i rest)
          by true e = bad e
          by false e = told_few e behind (got_open s op kind x.id o.request kind_req (entries b) p a.ids at m opened there e own_id)

    entry_step : (v : What) → Fine s u op b p (marked v ∷ ms) → Next v → Goal v
    entry_step (what.Got i rest) h behind = message i rest h behind
    entry_step (what.Own i rest) h behind = own i rest h behind
    entry_step (what.Expired q) h behind = expired q h behind
    entry_step (what.Down why) h behind = lost (what.Down why) h refl (or_right (is_expired op (marked (what.Down why)).entry) _ refl) (down_given s u op part at mark b p ms why a h)
    entry_step v h behind = calm v h refl refl refl (drops_none o x (marked v).entry refl) behind

  open_behind : (b : List Marked) (p : ConnectionState) (m : Marked) (ms : List Marked) → At s u (entries b) p → Fine s u op b p (m ∷ ms) → OpenRows p → AskRows p → (OpenRows (step_connection s p m) → AskRows (step_connection s p m) → gave s u op (step_connection s p m) ms ≤ told_by s o x (entries ms)) → gave s u op p (m ∷ ms) ≤ told_by s o x (entries (m ∷ ms))
  open_behind b p m ms a h opened asks behind = there (list_any (λ r. same_op op r.op) p.rows) refl
    where
      there : (c : Bool) → list_any (λ r. same_op op r.op) p.rows ≡ c → gave s u op p (m ∷ ms) ≤ told_by s o x (entries (m ∷ ms))
      there true e = entry_step b p ms m.entry.part m.entry.at m.mark a opened asks e m.entry.what h behind
      there false e = let none : gave s u op p (m ∷ ms) ≡ 0 = nothing_given s u op b p (m ∷ ms) h (none_mine op p.rows e) in omega (arith, none)

  pub walk_open : (b : List Marked) (p : ConnectionState) (ms : List Marked) → At s u (entries b) p → Fine s u op b p ms → list_all (of_mine op (is_open kind x.id)) p.rows ≡ true → list_all (of_mine op (asks_rightly s o)) p.rows ≡ true → gave s u op p ms ≤ told_by s o x (entries ms)
  walk_open b p [] a h opened asks = omega arith
  walk_open b p (m ∷ ms) a h opened asks = open_behind b p m ms a h opened asks (λ k j. walk_open (b ++ m ∷ []) (step_connection s p m) ms (next_at s u op b p m ms a h.rights.0) (fine_behind s u op b p m ms h) k j)
