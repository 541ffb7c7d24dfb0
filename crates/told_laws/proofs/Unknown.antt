-- A refusal for want of an identity: what was answered to Who Am I told none.
use Rattle.std.proofs.Common.{◌≡◌, inl, inr, ◌⊎◌, ℕ, Bool, true, false, ◌==◌, ◌&&◌, ◌||◌, not, List, [], ◌∷◌, ◌++◌, append_assoc, refl, ap, ◌∙◌, sym, subst}
use Rattle.std.specs.Prelude.{Option, Some, None, cond, find, map, if◌then◌else◌}
use Rattle.std.specs.List.{list_all, list_any}
use Rattle.std.proofs.lemmas.List.{append-nil}
use Rattle.std.proofs.lemmas.List.Folds.{list_all-append}
use Rattle.ldap_spec.specs.Kinds.{is_intermediate, tag_of}
use Rattle.ldap_spec.specs.Messages.{Message}
use Rattle.ldap_spec.specs.Responses.{tells_who}
use Rattle.ldap_spec.specs.Tags.{extended_response}
use Rattle.lload_names.specs.declared.names.ConnKind.TheVariants.{Bind as BindKind, Regular}
use Rattle.lload_names.specs.declared.names.Entry.{Entry}
use Rattle.lload_names.specs.declared.names.Letter.TheVariants.{Failed}
use Rattle.lload_names.specs.declared.names.PartName.{PartName}
use Rattle.lload_names.specs.declared.names.Posted.{Posted}
use Rattle.lload_names.specs.declared.names.Refusal.TheVariants.{C4, C9}
use Rattle.lload_names.specs.declared.names.What.TheVariants as what
use Rattle.lload_spec.specs.Answers.{Sending, closing_at, sending_made, sendings}
use Rattle.lload_spec.specs.BadMessages.{MessageFacts, is_bad, is_bad_for, is_bad_other, is_bad_own, is_bad_stray, is_bad_who, is_ignored}
use Rattle.lload_spec.specs.Caused.{tells_no_identity}
use Rattle.lload_spec.specs.Entries.{is_down, sent_message}
use Rattle.lload_spec.specs.Journal.{Family, same_op}
use Rattle.lload_spec.specs.Lists.{implies, passes}
use Rattle.lload_spec.specs.Operations.{Operation, operation}
use Rattle.lload_spec.specs.Settings.{Settings, is_of_kind}
use Rattle.lload_spec.specs.Strict.{may_follow_down}
use Rattle.lload_spec.proofs.Growth.{left, right, both}
use Rattle.lload_laws.specs.ConnectionGrowth.{later_sending}
use Rattle.lload_laws.proofs.ConnectionGrowth.{sendings_grow}
use Rattle.lload_laws.proofs.ListLaws.{any-map, any_imply, found_passes}
use Rattle.part_laws.proofs.ListLaws.{any_before, any_behind, or_left, same_op_eq}
use Rattle.part_spec.specs.ConnectionState.{ConnectionState, Kept, UpRow, is_under, is_under_who, message_facts, open_request, step_connection}
use Rattle.part_spec.specs.Fit.{ConnectionLedger, step_connection_ledger}
use Rattle.part_spec.specs.Gives.{connection_gives, connection_letters}
use Rattle.part_spec.specs.Marked.{Marked, entries}
use Rattle.connection_laws.proofs.Permits.{push_entry}
use Rattle.bind_laws.proofs.BindShare.{begins_alone}
use Rattle.bind_laws.proofs.Lone.{no_own}
use Rattle.bind_laws.proofs.Sents.{IsLive}
use Rattle.bind_laws.proofs.Tells.{RowsAre, SentsAre}
use Rattle.carried_laws.proofs.BindReplies.{closes}
use Rattle.carried_laws.proofs.Replies.{closing_stays}
use Rattle.carried_laws.proofs.TurnHeads.{is_no_message}
use Rattle.rows_laws.proofs.Known.{AtEach, Known}
use Rattle.upstream_laws.proofs.Heads.{Head, Tail}
use Rattle.told_laws.proofs.Given.{all_pass, letters_pass}
use Rattle.told_laws.proofs.Lost.{AtBind}
use Rattle.told_laws.proofs.Troubles.{is_else, never}

-- the one row, and its Sent
record OneLive (s : Settings) (F : Family) (n : ℕ) (rows : List UpRow) (live : List Sending) (r : UpRow) : Type 0 where
  sent : Sending
  alone : live ≡ sent ∷ []
  only : rows ≡ r ∷ []
  is_live : IsLive s F n r sent []

one_live : (s : Settings) (F : Family) (n : ℕ) (rows : List UpRow) (live : List Sending) → RowsAre s F n rows live [] → (t : UpRow → Bool) (r : UpRow) → find t rows ≡ Some r → OneLive s F n rows live r
one_live s F n [] live h t r e = absurd (let bad : None ≡ Some r = e in cc)
one_live s F n (q ∷ []) [] h t r e = absurd h
one_live s F n (q ∷ []) (x ∷ []) h t r e = by (t q) e
  where
    by : (b : Bool) → cond b (Some q) None ≡ Some r → OneLive s F n (q ∷ []) (x ∷ []) r
    by true k = let same : q ≡ r = cc in record { sent = x; alone = refl; only = ap (λ y. y ∷ []) same; is_live = subst (λ (y : UpRow). IsLive s F n y x []) same h }
    by false k = absurd (let bad : None ≡ Some r = k in cc)
one_live s F n (q ∷ []) (x ∷ y ∷ xs) h t r e = absurd h
one_live s F n (q ∷ y ∷ rows) live h t r e = absurd h

-- A message under the identifier of a Who Am I that isn't bad answers it.
module _ (p : ConnectionState) (m : Message) (own : p.own_bind ≡ None) (r : UpRow) (only : p.rows ≡ r ∷ []) (none : find (is_under m.id) p.rows ≡ None) (under : is_under_who m.id r ≡ true) where
  abbrev facts_by : List UpRow → MessageFacts
  facts_by rows = record (message_facts p) { requests = map open_request rows }

  other : is_under m.id r ≡ false
  other = at_one (is_under m.id r) (sym (ap (find (is_under m.id)) only) ∙ none)
    where
      at_one : (b : Bool) → cond b (Some r) None ≡ None → b ≡ false
      at_one true e = absurd (let bad : Some r ≡ None = e in cc)
      at_one false e = refl

  bad_is : is_bad (message_facts p) m ≡ (if is_ignored m then false else is_bad_who m)
  bad_is = ap (λ o. if is_ignored m then false else if passes (λ i. i == m.id) (elim o [ None ↦ None | Some x ↦ Some x.id ]) then is_bad_own m else is_bad_other (message_facts p) m) own ∙ ap (λ rows. if is_ignored m then false else is_bad_other (facts_by rows) m) only ∙ ap (λ b. if is_ignored m then false else is_bad_for (facts_by (r ∷ [])) m (cond b (Some (open_request r)) None)) other ∙ ap (λ b. if is_ignored m then false else if b || false then is_bad_who m else is_bad_stray (facts_by (r ∷ [])) m) under

  pub extended : is_bad (message_facts p) m ≡ false → is_intermediate m.rest ≡ false → (tag_of m.rest == extended_response) ≡ true
  extended good e = by (m.id == 0) (tag_of m.rest == extended_response) (sym (ap (λ b. if m.id == 0 && tag_of m.rest == extended_response then false else not (b || tag_of m.rest == extended_response)) e) ∙ sym bad_is ∙ good)
    where
      by : (z t : Bool) → (if z && t then false else not (false || t)) ≡ false → t ≡ true
      by z true h = refl
      by true false h = absurd (let bad : true ≡ false = h in cc)
      by false false h = absurd (let bad : true ≡ false = h in cc)

module _ (s : Settings) (F : Family) (o : Operation) (there : operation F o.name ≡ Some o) where
  abbrev pub tells_none : Sending → Bool
  tells_none x = same_op o.name x.op && passes tells_no_identity (closing_at s o x)

  -- it told none still, behind more entries
  none_later : (e : Entry) (x : Sending) → tells_none x ≡ true → tells_none (later_sending e x) ≡ true
  none_later e x h = both (same_op o.name x.op) _ (left (same_op o.name x.op) _ h) (by (closing_at s o x) refl (right (same_op o.name x.op) _ h))
    where
      by : (q : Option (List ℕ)) → closing_at s o x ≡ q → passes tells_no_identity q ≡ true → passes tells_no_identity (closing_at s o (later_sending e x)) ≡ true
      by None k j = absurd (let bad : false ≡ true = j in cc)
      by (Some a) k j = ap (passes tells_no_identity) (closing_stays s o x e a k) ∙ j

  none_grows : (u : ℕ) (L : List Entry) (e : Entry) → list_any tells_none (sendings u L) ≡ true → list_any tells_none (sendings u (L ++ e ∷ [])) ≡ true
  none_grows u L e h = ap (list_any tells_none) (sendings_grow u L e) ∙ any_before tells_none (map (later_sending e) (sendings u L)) (sending_made u L e [] (sent_message e.what)) (any-map tells_none (later_sending e) (sendings u L) ∙ any_imply tells_none (λ x. tells_none (later_sending e x)) (sendings u L) (none_later e) h)

  none_to_end : (u : ℕ) (L M : List Entry) → list_any tells_none (sendings u L) ≡ true → list_any tells_none (sendings u (L ++ M)) ≡ true
  none_to_end u L [] h = subst (λ l. list_any tells_none (sendings u l) ≡ true) (sym (append-nil L)) h
  none_to_end u L (e ∷ M) h = subst (λ l. list_any tells_none (sendings u l) ≡ true) (append_assoc L (e ∷ []) M) (none_to_end u (L ++ e ∷ []) M (none_grows u L e h))

  -- a message that refuses it so
  module _ (u : ℕ) (kind : is_of_kind s BindKind u ≡ true) (before : List Marked) (l : ConnectionLedger) (a : Head s F u before l) (up : l.state.down ≡ false) (part : PartName) (at id : ℕ) (rest : List ℕ) where
    abbrev m : Message
    m = record { id = id; rest = rest }

    abbrev got : Entry
    got = record { part = part; at = at; what = what.Got id rest }

    own : l.state.own_bind ≡ None
    own = no_own s u (entries before) l.state (begins_alone s u kind) a.knows.keeps.keeps.stands.own

    sents : SentsAre s F u (entries before) l.state.ids.next l.state.rows []
    sents = (a.knows.tells a.told).sents up refl

    waiting : (q : Option Kept) → passes (λ w. w == id) (elim q [ None ↦ None | Some k ↦ k.who ]) ≡ true → (kept : Kept) × (w : ℕ) × (q ≡ Some kept) × (kept.who ≡ Some w) × ((w == id) ≡ true)
    waiting None j = absurd (let bad : false ≡ true = j in cc)
    waiting (Some k) j = asked k.who refl j
      where
        asked : (q : Option ℕ) → k.who ≡ q → passes (λ w. w == id) q ≡ true → (kept : Kept) × (w : ℕ) × (Some k ≡ Some kept) × (kept.who ≡ Some w) × ((w == id) ≡ true)
        asked None f i = absurd (let bad : false ≡ true = i in cc)
        asked (Some w) f i = (k, w, refl, f, i)

    settled : (r : UpRow) (x : Sending) (h : IsLive s F l.state.ids.next r x []) → same_op o.name r.op ≡ true → (tag_of rest == extended_response) ≡ true → tells_who rest ≡ false → (kept : Kept) × (w : ℕ) × (r.kept ≡ Some kept) × (kept.who ≡ Some w) × ((w == id) ≡ true) → tells_none (later_sending got x) ≡ true
    settled r x h same tag t it =
        let named : o.name ≡ r.op = same_op_eq o.name r.op same in
        let found : Some h.o ≡ Some o = sym h.found ∙ ap (operation F) (h.op ∙ sym named) ∙ there in
        let its : h.o ≡ o = cc in
        both (same_op o.name x.op) _ (ap (same_op o.name) h.op ∙ same)
        (ap (passes tells_no_identity) (subst (λ q. closing_at s q (later_sending got x) ≡ Some rest) its (closes s F u (entries before) l.state part at m l.state.ids.next r x h it.0 it.1 it.2 it.3 it.4 tag))
        ∙ both (tag_of rest == extended_response) _ tag (ap not t))

    pub unknown_there : is_bad (message_facts l.state) (record { id = id; rest = rest }) ≡ false → (r : UpRow) → find (is_under id) l.state.rows ≡ None → find (is_under_who id) l.state.rows ≡ Some r → is_intermediate rest ≡ false → tells_who rest ≡ false → same_op o.name r.op ≡ true → list_any tells_none (sendings u (entries before ++ record { part = part; at = at; what = what.Got id rest } ∷ [])) ≡ true
    unknown_there good r f g i t same =
        let one : OneLive s F l.state.ids.next l.state.rows sents.live r = one_live s F l.state.ids.next l.state.rows sents.live sents.are (is_under_who id) r g in
        let under : is_under_who id r ≡ true = found_passes (is_under_who id) l.state.rows r g in
        let tag : (tag_of rest == extended_response) ≡ true = extended l.state m own r one.only f under good i in
        ap (list_any tells_none) (sendings_grow u (entries before) got)
        ∙ any_before tells_none (map (later_sending got) (sendings u (entries before))) [] (any-map tells_none (later_sending got) (sendings u (entries before)) ∙ ap (list_any (λ x. tells_none (later_sending got x))) (sents.split ∙ ap (λ xs. sents.done ++ xs) one.alone) ∙ any_behind (λ x. tells_none (later_sending got x)) sents.done (one.sent ∷ []) (or_left (tells_none (later_sending got one.sent)) false (settled r one.sent one.is_live same tag t (waiting r.kept under))))

  -- the letters at an entry that doesn't refuse it so
  entry_else : (l : ConnectionLedger) (m : Marked) → ((id : ℕ) (rest : List ℕ) → m.entry.what ≡ what.Got id rest → is_bad (message_facts l.state) (record { id = id; rest = rest }) ≡ false → l.state.kind ≡ BindKind → (r : UpRow) → find (is_under id) l.state.rows ≡ None → find (is_under_who id) l.state.rows ≡ Some r → is_intermediate rest ≡ false → tells_who rest ≡ false → same_op o.name r.op ≡ true → false ≡ true) → all_pass (is_else o.name s C9) s l.state (connection_letters s l.state m.entry.at m.mark m.entry.what) ≡ true
  entry_else l m absent =
      letters_pass (is_else o.name s C9) s l.state m.entry.at m.mark m.entry.what (record {
        ended = λ q v late. refl;
        up = λ v. refl;
        retired = λ v. refl;
        down = λ v. refl;
        replied = λ id rest e fine r f back is_last. refl;
        told = λ id rest e fine sort r f g i t. refl;
        unknown = λ id rest e fine sort r f g i t. one (same_op o.name r.op) (absent id rest e fine sort r f g i t);
        expired = λ q e. never (same_op o.name q);
        missed = λ q e. never (same_op o.name q);
        lost = λ why e. all_else l.state.rows;
      })
    where
      one : (b : Bool) → (b ≡ true → false ≡ true) → not (b && true) ≡ true
      one false f = refl
      one true f = f refl

      all_else : (rows : List UpRow) → list_all (λ r. is_else o.name s C9 (Failed r.op C4)) rows ≡ true
      all_else [] = refl
      all_else (r ∷ rows) = both (is_else o.name s C9 (Failed r.op C4)) _ (never (same_op o.name r.op)) (all_else rows)

  -- of a regular connection, which asks for none
  pub regular_unknown : (u : ℕ) (ms before : List Marked) (l : ConnectionLedger) → AtEach s (Known s F u) before l ms → all_pass (is_else o.name s C9) s l.state (connection_gives s l.state ms) ≡ true
  regular_unknown u [] before l h = refl
  regular_unknown u (m ∷ ms) before l h =
      list_all-append (λ (x : Posted). is_else o.name s C9 x.letter) (connection_letters s l.state m.entry.at m.mark m.entry.what) (connection_gives s (step_connection s l.state m) ms)
      ∙ both (all_pass (is_else o.name s C9) s l.state (connection_letters s l.state m.entry.at m.mark m.entry.what)) _
      (entry_else l m (λ id rest e fine sort r f g i t same. absurd (let bad : Regular ≡ BindKind = sym h.0.kind ∙ sort in cc)))
      (regular_unknown u ms (before ++ m ∷ []) (step_connection_ledger s l m) h.1)

  -- of a bind connection, where no Sent of it is answered so
  pub bind_unknown : (u : ℕ) (kind : is_of_kind s BindKind u ≡ true) (ms before : List Marked) (l : ConnectionLedger) → AtBind s F u kind before l ms → list_any tells_none (sendings u (entries before ++ entries ms)) ≡ false → all_pass (is_else o.name s C9) s l.state (connection_gives s l.state ms) ≡ true
  bind_unknown u kind [] before l a n = refl
  bind_unknown u kind (m ∷ ms) before l a n =
      list_all-append (λ (x : Posted). is_else o.name s C9 x.letter) (connection_letters s l.state m.entry.at m.mark m.entry.what) (connection_gives s (step_connection s l.state m) ms)
      ∙ both (all_pass (is_else o.name s C9) s l.state (connection_letters s l.state m.entry.at m.mark m.entry.what)) _
      (entry_else l m (λ id rest e fine sort r f g i t same. here id rest e a.0.comes.begun (subst (λ w. implies (list_any is_down (entries before)) (may_follow_down w) ≡ true) e a.0.comes.alive) fine r f g i t same))
      (bind_unknown u kind ms (before ++ m ∷ []) (step_connection_ledger s l m) a.1 (ap (λ place. list_any tells_none (sendings u (place ++ entries ms))) (push_entry before m) ∙ ap (λ place. list_any tells_none (sendings u place)) (append_assoc (entries before) (m.entry ∷ []) (entries ms)) ∙ n))
    where
      here : (id : ℕ) (rest : List ℕ) → m.entry.what ≡ what.Got id rest → Head s F u before l ⊎ Tail m → implies (list_any is_down (entries before)) false ≡ true → is_bad (message_facts l.state) (record { id = id; rest = rest }) ≡ false → (r : UpRow) → find (is_under id) l.state.rows ≡ None → find (is_under_who id) l.state.rows ≡ Some r → is_intermediate rest ≡ false → tells_who rest ≡ false → same_op o.name r.op ≡ true → false ≡ true
      here id rest e (inr b) alive good r f g i t same = ap is_no_message (sym e) ∙ b.quiet
      here id rest e (inl b) alive good r f g i t same =
          let whole : entries before ++ m.entry ∷ entries ms ≡ (entries before ++ m.entry ∷ []) ++ entries ms = sym (append_assoc (entries before) (m.entry ∷ []) (entries ms)) in
          let up : l.state.down ≡ false = a.0.here.says.down ∙ not_yet (list_any is_down (entries before)) alive in
          sym n ∙ ap (λ place. list_any tells_none (sendings u place)) whole
          ∙ none_to_end u (entries before ++ m.entry ∷ []) (entries ms) (subst (λ w. list_any tells_none (sendings u (entries before ++ record { part = m.entry.part; at = m.entry.at; what = w } ∷ [])) ≡ true) (sym e) (unknown_there u kind before l b up m.entry.part m.entry.at id rest good r f g i t same))
        where
          not_yet : (d : Bool) → implies d false ≡ true → d ≡ false
          not_yet true j = absurd (let bad : false ≡ true = j in cc)
          not_yet false j = refl
