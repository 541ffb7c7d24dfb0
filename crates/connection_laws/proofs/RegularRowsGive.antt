-- What the rows of a regular connection give: at an own message, at a message that takes it down, and at its end.
use Rattle.std.proofs.Common.{◌≡◌, ℕ, Bool, true, false, ◌==◌, ◌&&◌, ◌||◌, not, List, [], ◌∷◌, ◌++◌, flat_map, refl, ap, ◌∙◌, sym}
use Rattle.std.specs.Prelude.{Option, Some, None, map, find, cond, is_some, is_none, if◌then◌else◌}
use Rattle.std.specs.List.{list_all, list_any}
use Rattle.std.proofs.lemmas.List.{append-nil}
use Rattle.ldap_spec.specs.Messages.{Message}
use Rattle.ldap_spec.specs.Bodies.{abandon}
use Rattle.ldap_spec.specs.Kinds.{fits, is_final, tag_of}
use Rattle.ldap_spec.specs.Responses.{result_code}
use Rattle.lload_names.specs.declared.names.Entry.{Entry}
use Rattle.lload_names.specs.declared.names.OpName.{OpName}
use Rattle.lload_names.specs.declared.names.OpKind.TheVariants.{Bind}
use Rattle.lload_spec.specs.Lists.{passes}
use Rattle.lload_spec.specs.Journal.{same_op}
use Rattle.lload_spec.specs.BadMessages.{OpenRequest, is_bad, is_bad_answer, is_bad_other, is_ignored}
use Rattle.lload_spec.specs.BadMessages as bad
use Rattle.part_spec.specs.ConnectionState.{ConnectionState, UpRow, Kept, OwnWait, is_bind_row, is_kept, is_under, is_under_who, is_under_own, is_abandoned_by, behind_answer, behind_who, behind_final, behind_message, open_request, message_facts}
use Rattle.part_spec.specs.ConnectionTurn.{row_ended, down_letters}
use Rattle.part_spec.specs.Gives.{abandoned_ended}
use Rattle.lload_spec.proofs.Growth.{left, right, both}
use Rattle.lload_laws.proofs.ListLaws.{all_imply, found, bytes_same}
use Rattle.part_laws.proofs.ListLaws.{not_true, eqb_sym, same_number}
use Rattle.connection_laws.proofs.Rows.{is_sound, no_bind, not_kept}
use Rattle.connection_laws.proofs.Apart.{is_apart, are_apart, or_false_left, or_false_right}
use Rattle.connection_laws.proofs.RegularTicks.{other_row}

-- an own message that abandons no row gives nothing
pub abandoned_none : (p : ConnectionState) (rest : List ℕ) (rows : List UpRow) → list_any (is_abandoned_by rest) rows ≡ false → flat_map (abandoned_ended p rest) rows ≡ []
abandoned_none p rest [] h = refl
abandoned_none p rest (r ∷ rows) h = ap (λ b. (elim b [ true ↦ row_ended p r None | false ↦ [] ]) ++ flat_map (abandoned_ended p rest) rows) (or_false_left (is_abandoned_by rest r) (list_any (is_abandoned_by rest) rows) h) ∙ abandoned_none p rest rows (or_false_right (is_abandoned_by rest r) (list_any (is_abandoned_by rest) rows) h)

others_none : (p : ConnectionState) (i : ℕ) (rows : List UpRow) → list_all (λ q. not (i == q.id)) rows ≡ true → list_any (is_abandoned_by (abandon i)) rows ≡ false
others_none p i [] h = refl
others_none p i (q ∷ rows) h = ap (λ b. b || list_any (is_abandoned_by (abandon i)) rows) (other_row i q (left (not (i == q.id)) _ h)) ∙ others_none p i rows (right (not (i == q.id)) _ h)

-- one that abandons a row among rows apart ends its operation
pub one_abandoned : (p : ConnectionState) (op : OpName) (r : UpRow) (rows : List UpRow) → are_apart rows ≡ true → find (λ q. same_op op q.op) rows ≡ Some r → not (is_bind_row r) ≡ true → flat_map (abandoned_ended p (abandon r.id)) rows ≡ row_ended p r None
one_abandoned p op r [] a f n = absurd (let bad : None ≡ Some r = f in cc)
one_abandoned p op r (x ∷ rows) a f n = by (same_op op x.op) f (λ g. one_abandoned p op r rows (right (list_all (is_apart x) rows) _ a) g n)
  where
    by : (b : Bool) → cond b (Some x) (find (λ q. same_op op q.op) rows) ≡ Some r → (find (λ q. same_op op q.op) rows ≡ Some r → flat_map (abandoned_ended p (abandon r.id)) rows ≡ row_ended p r None) → flat_map (abandoned_ended p (abandon r.id)) (x ∷ rows) ≡ row_ended p r None
    by true g more =
        let same : x ≡ r = cc in
        let mine : is_abandoned_by (abandon r.id) x ≡ true = ap (is_abandoned_by (abandon r.id)) same ∙ both (not (is_bind_row r)) _ n (bytes_same (abandon r.id)) in
        let apart : list_all (λ q. not (r.id == q.id)) rows ≡ true = ap (λ y. list_all (λ q. not (y.id == q.id)) rows) (sym same) ∙ all_imply (is_apart x) (λ q. not (x.id == q.id)) rows (λ q j. right (not (same_op x.op q.op)) _ j) (left (list_all (is_apart x) rows) _ a) in
        ap (λ b. (elim b [ true ↦ row_ended p x None | false ↦ [] ]) ++ flat_map (abandoned_ended p (abandon r.id)) rows) mine ∙ ap (λ l. row_ended p x None ++ l) (abandoned_none p (abandon r.id) rows (others_none p r.id rows apart)) ∙ append-nil (row_ended p x None) ∙ ap (λ y. row_ended p y None) same
    by false g more =
        let apart : is_apart x r ≡ true = found (is_apart x) (λ q. same_op op q.op) rows r g (left (list_all (is_apart x) rows) _ a) in
        ap (λ b. (elim b [ true ↦ row_ended p x None | false ↦ [] ]) ++ flat_map (abandoned_ended p (abandon r.id)) rows) (other_row r.id x (ap not (eqb_sym r.id x.id) ∙ right (not (same_op x.op r.op)) _ apart)) ∙ more g

-- A message that takes the connection down leaves its rows.
none_is : (o : Option Kept) → is_none o ≡ true → is_some o ≡ false
none_is None j = refl
none_is (Some x) j = absurd (let bad : false ≡ true = j in cc)

not_awaited : (id : ℕ) (o : Option Kept) → is_none o ≡ true → passes (λ who. who == id) (elim o [ None ↦ None | Some k ↦ k.who ]) ≡ false
not_awaited id None j = refl
not_awaited id (Some k) j = absurd (let bad : false ≡ true = j in cc)

module _ (at : ℕ) (m : Message) where
  abbrev message_by : UpRow → Bool → Bool → List UpRow
  message_by r a c = elim a [ true ↦ behind_answer at m.rest r | false ↦ elim c [ true ↦ behind_who at m.rest r | false ↦ r ∷ [] ] ]

  other_stays : (r : UpRow) → is_none r.kept ≡ true → (r.id == m.id) ≡ false → behind_message at m r ≡ r ∷ []
  other_stays r k e = ap (λ b. message_by r (b && not (is_kept r)) (is_under_who m.id r)) e ∙ ap (message_by r false) (not_awaited m.id r.kept k)

  others_stay : (u : ℕ) (place : List Entry) (rows : List UpRow) → list_all (is_sound u place) rows ≡ true → list_all (λ q. not (q.id == m.id)) rows ≡ true → flat_map (behind_message at m) rows ≡ rows
  others_stay u place [] h k = refl
  others_stay u place (r ∷ rows) h k = ap (λ l. l ++ flat_map (behind_message at m) rows) (other_stays r (not_kept u place r (left (is_sound u place r) _ h)) (not_true (r.id == m.id) (left (not (r.id == m.id)) _ k))) ∙ ap (λ l. r ∷ l) (others_stay u place rows (right (is_sound u place r) _ h) (right (not (r.id == m.id)) _ k))

  -- a row whose answer doesn't fit
  unfitting : (a b c d : Bool) → b ≡ false → (not a || b && c && d) ≡ true → a ≡ false
  unfitting false b c d h k = refl
  unfitting true false c d h k = absurd (let bad : false ≡ true = k in cc)
  unfitting true true c d h k = absurd (let bad : true ≡ false = h in cc)

  bad_stays : (r : UpRow) → is_bind_row r ≡ false → is_none r.kept ≡ true → (r.id == m.id) ≡ true → is_bad_answer m (open_request r) ≡ true → behind_message at m r ≡ r ∷ []
  bad_stays r n k e b =
      let fit : fits r.kind m.rest ≡ false = unfitting (fits r.kind m.rest) (is_bind_row r) (is_final Bind m.rest) (is_none (result_code m.rest)) n b in
      let under : is_under m.id r ≡ true = both (r.id == m.id) _ e (ap not (none_is r.kept k)) in
      ap (λ a. message_by r a (is_under_who m.id r)) under ∙ ap (λ f. elim f [ false ↦ r ∷ [] | true ↦ elim (is_final r.kind m.rest) [ true ↦ behind_final at m.rest r | false ↦ record r { answered = at } ∷ [] ] ]) fit

  pub bad_rows : (u : ℕ) (place : List Entry) (rows : List UpRow) → are_apart rows ≡ true → list_all (is_sound u place) rows ≡ true → ((x : OpenRequest) → find (bad.is_under m.id) (map open_request rows) ≡ Some x → is_bad_answer m x ≡ true) → flat_map (behind_message at m) rows ≡ rows
  bad_rows u place [] a h f = refl
  bad_rows u place (r ∷ rows) a h f = by (r.id == m.id) refl (λ g. bad_rows u place rows (right (list_all (is_apart r) rows) _ a) (right (is_sound u place r) _ h) g)
    where
      sound : is_sound u place r ≡ true
      sound = left (is_sound u place r) _ h

      kept : is_none r.kept ≡ true
      kept = not_kept u place r sound

      unkept_row : is_kept r ≡ false
      unkept_row = none_is r.kept kept

      by : (b : Bool) → (r.id == m.id) ≡ b → (((x : OpenRequest) → find (bad.is_under m.id) (map open_request rows) ≡ Some x → is_bad_answer m x ≡ true) → flat_map (behind_message at m) rows ≡ rows) → flat_map (behind_message at m) (r ∷ rows) ≡ r ∷ rows
      by true e more =
          let under : bad.is_under m.id (open_request r) ≡ true = both (r.id == m.id) _ e (ap not unkept_row) in
          let here : find (bad.is_under m.id) (map open_request (r ∷ rows)) ≡ Some (open_request r) = ap (λ b. cond b (Some (open_request r)) (find (bad.is_under m.id) (map open_request rows))) under in
          let others : list_all (λ q. not (q.id == m.id)) rows ≡ true = all_imply (is_apart r) (λ q. not (q.id == m.id)) rows (λ q j. ap not (eqb_sym q.id m.id ∙ ap (λ i. i == q.id) (sym (same_number r.id m.id e))) ∙ right (not (same_op r.op q.op)) _ j) (left (list_all (is_apart r) rows) _ a) in
          ap (λ l. l ++ flat_map (behind_message at m) rows) (bad_stays r (not_true (is_bind_row r) (no_bind u place r sound)) kept e (f (open_request r) here)) ∙ ap (λ l. r ∷ l) (others_stay u place rows (right (is_sound u place r) _ h) others)
      by false e more =
          let skip : find (bad.is_under m.id) (map open_request (r ∷ rows)) ≡ find (bad.is_under m.id) (map open_request rows) = ap (λ b. cond (b && not (is_kept r)) (Some (open_request r)) (find (bad.is_under m.id) (map open_request rows))) e in
          ap (λ l. l ++ flat_map (behind_message at m) rows) (other_stays r kept e) ∙ ap (λ l. r ∷ l) (more (λ x g. f x (skip ∙ g)))

-- a bad message that isn't under the own Bind
pub bad_other : (p : ConnectionState) (m : Message) → is_under_own p m.id ≡ false → is_bad (message_facts p) m ≡ true → is_bad_other (message_facts p) m ≡ true
bad_other p m under h = by (is_ignored m) refl
  where
    own_same : (o : Option OwnWait) → passes (λ id. id == m.id) (elim o [ None ↦ None | Some own ↦ Some own.id ]) ≡ passes (λ own. own.id == m.id) o
    own_same None = refl
    own_same (Some own) = refl

    text_of : Bool → Bool
    text_of i = if i then false else (if passes (λ id. id == m.id) (message_facts p).own then not (tag_of m.rest == 0x61) else is_bad_other (message_facts p) m)

    by : (i : Bool) → is_ignored m ≡ i → is_bad_other (message_facts p) m ≡ true
    by true e = absurd (let no : false ≡ true = sym (ap (λ i. text_of i) e) ∙ h in cc)
    by false e = sym (ap (λ w. if w then not (tag_of m.rest == 0x61) else is_bad_other (message_facts p) m) (own_same p.own_bind ∙ under)) ∙ sym (ap (λ i. text_of i) e) ∙ h

-- what the end gives, by what it looks at
pub down_same : (q p : ConnectionState) → q.number ≡ p.number → q.kind ≡ p.kind → q.rows ≡ p.rows → q.holder ≡ p.holder → down_letters q ≡ down_letters p
down_same q p n k r h = λ i. down_letters (record q { number = n i; kind = k i; rows = r i; holder = h i })
