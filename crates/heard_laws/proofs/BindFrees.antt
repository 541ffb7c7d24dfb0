-- Where a message lets the holder of a bind connection go, the desk is told the holder's end.
use Rattle.std.proofs.Common.{◌≡◌, ℕ, Bool, true, false, ◌==◌, ◌&&◌, ◌||◌, not, List, [], ◌∷◌, ◌++◌, refl, ap, ◌∙◌}
use Rattle.std.specs.Prelude.{Option, Some, None, cond, find, flat_map, is_none, is_some, map, if◌then◌else◌}
use Rattle.std.specs.List.{list_any}
use Rattle.ldap_spec.specs.Kinds.{fits, is_final, is_intermediate, is_search_result, same_kind, tag_of}
use Rattle.ldap_spec.specs.Messages.{Message}
use Rattle.ldap_spec.specs.Responses.{has_code, result_code}
use Rattle.ldap_spec.specs.Tags.{bind_in_progress}
use Rattle.lload_names.specs.declared.names.ConnKind.{ConnKind}
use Rattle.lload_names.specs.declared.names.ConnKind.TheVariants.{Bind as BindKind, Regular}
use Rattle.lload_names.specs.declared.names.EndWhy.{EndWhy}
use Rattle.lload_names.specs.declared.names.EndWhy.TheVariants.{Bad}
use Rattle.lload_names.specs.declared.names.Letter.TheVariants.{IsDown}
use Rattle.lload_names.specs.declared.names.OpKind.TheVariants.{Bind, Search}
use Rattle.lload_names.specs.declared.names.OpName.{OpName}
use Rattle.lload_names.specs.declared.names.PartName.TheVariants.{Desk}
use Rattle.lload_names.specs.declared.names.Posted.{Posted}
use Rattle.lload_names.specs.declared.names.What.TheVariants as what
use Rattle.lload_spec.specs.BadMessages.{is_bad, is_bad_answer, is_bad_for, is_bad_stray, is_bad_who, is_ignored}
use Rattle.lload_spec.specs.BadMessages as bad
use Rattle.lload_spec.specs.Journal.{same_op}
use Rattle.lload_spec.specs.Lists.{passes}
use Rattle.lload_spec.specs.News.{tells_ended}
use Rattle.lload_spec.specs.Settings.{Settings}
use Rattle.lload_spec.proofs.Growth.{left, right}
use Rattle.part_laws.proofs.ListLaws.{not_true, or_elim, or_left, same_number, same_op_refl}
use Rattle.part_spec.specs.BindTurn.{answered, identity_letters, keep_back, row_answer, who_answer}
use Rattle.part_spec.specs.ConnectionState.{ConnectionState, Kept, UpRow, frees_holder, is_bind_row, is_under, is_under_own, is_under_who, keeps_back, lets_go, message_facts, open_request}
use Rattle.part_spec.specs.ConnectionTurn.{ended, goes_down, holder_ended, loss}
use Rattle.part_spec.specs.Gives.{connection_letters}
use Rattle.part_spec.specs.Inputs.{act, letters_alone, nothing, reply, to}
use Rattle.part_spec.specs.Marked.{Taken, letters_to}
use Rattle.part_spec.specs.RegularTurn.{answered as regular_answered}
use Rattle.bind_laws.proofs.Lone.{is_lone}
use Rattle.bind_laws.proofs.Meets.{bad_is, bind_kind, not_ignored}
use Rattle.heard_laws.proofs.Gone.{any_before_posts, any_behind_posts}

-- the answers of two kinds are apart
apart_tags : (n a b : ℕ) → (a == b) ≡ false → (n == a) ≡ true → (n == b) ≡ false
apart_tags n a b h k = ap (λ m. m == b) (same_number n a k) ∙ h

module _ (s : Settings) (p : ConnectionState) (kind : p.kind ≡ BindKind) (op : OpName) (held : p.holder ≡ Some op) (at : ℕ) (mark : Option Taken) where
  abbrev Tells : List Posted → Type 0
  Tells xs = list_any (tells_ended op) (letters_to Desk xs) ≡ true

  pub holder_told : Tells (holder_ended p)
  holder_told = ap (λ o. list_any (tells_ended op) (letters_to Desk (elim o [ None ↦ [] | Some h ↦ ended p h None ]))) held ∙ or_left (same_op op op) false (same_op_refl op)

  pub down_told : (why : EndWhy) → Tells (connection_letters s p at mark (what.Down why))
  down_told why = any_behind_posts (tells_ended op) (flat_map (loss p) p.rows) (holder_ended p ++ to Desk (IsDown p.number)) (any_before_posts (tells_ended op) (holder_ended p) (to Desk (IsDown p.number)) holder_told)

  module _ (own : p.own_bind ≡ None) (m : Message) (r : UpRow) (one : p.rows ≡ r ∷ []) (bind : is_bind_row r ≡ true) (above : not (r.id == 0) ≡ true) where
    abbrev bad_by : List UpRow → Bool
    bad_by rows = is_bad_for (message_facts p) m (find (bad.is_under m.id) (map open_request rows))

    abbrev bad_under : Bool → Bool
    bad_under c = is_bad_for (message_facts p) m (cond c (Some (open_request r)) None)

    abbrev taken : Bool → ConnKind → List Posted
    taken b k = letters_alone (elim b [ true ↦ goes_down p Bad | false ↦ elim k [ Regular ↦ regular_answered p at m | BindKind ↦ answered s p m ] ])

    abbrev answers_by : Option UpRow → Option UpRow → List Posted
    answers_by o q = letters_alone (elim o [ Some x ↦ row_answer s p m.rest x | None ↦ elim q [ Some x ↦ who_answer p m.rest x | None ↦ nothing ] ])

    good_letters : is_bad (message_facts p) m ≡ false → connection_letters s p at mark (what.Got m.id m.rest) ≡ answers_by (cond (is_under m.id r) (Some r) None) (cond (is_under_who m.id r) (Some r) None)
    good_letters good = ap (λ b. taken b p.kind) good ∙ ap (taken false) kind ∙ ap (λ rows. answers_by (find (is_under m.id) rows) (find (is_under_who m.id) rows)) one

    -- a final answer
    module _ (under : is_under m.id r ≡ true) (final : is_final Bind m.rest ≡ true) (coded : is_some (result_code m.rest) ≡ true) (over : has_code bind_in_progress m.rest ≡ false) (kept : keeps_back r m.rest ≡ false) where
      is_kind_bind : r.kind ≡ Bind
      is_kind_bind = bind_kind r.kind bind

      whole : is_intermediate m.rest ≡ false
      whole = apart_tags (tag_of m.rest) 0x61 0x79 refl final

      not_none : (o : Option ℕ) → is_some o ≡ true → is_none o ≡ false
      not_none None k = absurd (let no : false ≡ true = k in cc)
      not_none (Some c) k = refl

      fitting : is_bad_answer m (open_request r) ≡ false
      fitting = ap (λ k. not (fits k m.rest) || (same_kind Bind k && is_final Bind m.rest && is_none (result_code m.rest))) is_kind_bind ∙ ap (λ b. not (b || is_intermediate m.rest || (same_kind Bind Search && is_search_result m.rest)) || (b && is_none (result_code m.rest))) final ∙ not_none (result_code m.rest) coded

      good : is_bad (message_facts p) m ≡ false
      good = bad_is p own m false (not_ignored s p m r bind above under) ∙ ap bad_by one ∙ ap bad_under under ∙ fitting

      abbrev row_by : Bool → Bool → Bool → List Posted
      row_by i c k = letters_alone (elim i [ true ↦ act [] (reply r.op m.rest false None) | false ↦ elim c [ true ↦ act [] (reply r.op m.rest true None) | false ↦ elim k [ true ↦ keep_back s p | false ↦ act [] (reply r.op m.rest true None ++ holder_ended p) ] ] ])

      answer_told : Tells (connection_letters s p at mark (what.Got m.id m.rest))
      answer_told = ap (λ xs. list_any (tells_ended op) (letters_to Desk xs)) (good_letters good ∙ ap (λ c. answers_by (cond c (Some r) None) (cond (is_under_who m.id r) (Some r) None)) under ∙ ap (λ i. row_by i (has_code bind_in_progress m.rest) (keeps_back r m.rest)) whole ∙ ap (λ c. row_by false c (keeps_back r m.rest)) over ∙ ap (row_by false false) kept) ∙ any_behind_posts (tells_ended op) (reply r.op m.rest true None) (holder_ended p) holder_told

    -- an answer to Who Am I
    module _ (under : is_under_who m.id r ≡ true) (tag : (tag_of m.rest == 0x78) ≡ true) where
      not_under : is_under m.id r ≡ false
      not_under = by r.kept under
        where
          none : (b : Bool) → (b && false) ≡ false
          none true = refl
          none false = refl

          by : (o : Option Kept) → passes (λ w. w == m.id) (elim o [ None ↦ None | Some k ↦ k.who ]) ≡ true → ((r.id == m.id) && not (is_some o)) ≡ false
          by None k = absurd (let no : false ≡ true = k in cc)
          by (Some q) k = none (r.id == m.id)

      entire : is_intermediate m.rest ≡ false
      entire = apart_tags (tag_of m.rest) 0x78 0x79 refl tag

      asked : list_any (bad.is_under_who m.id) (map open_request p.rows) ≡ true
      asked = ap (λ rows. list_any (bad.is_under_who m.id) (map open_request rows)) one ∙ or_left (is_under_who m.id r) false under

      fair : is_bad (message_facts p) m ≡ false
      fair = by (is_ignored m) refl
        where
          by : (i : Bool) → is_ignored m ≡ i → is_bad (message_facts p) m ≡ false
          by true e = bad_is p own m true e
          by false e = bad_is p own m false e ∙ ap bad_by one ∙ ap bad_under not_under ∙ ap (λ b. if b then is_bad_who m else is_bad_stray (message_facts p) m) asked ∙ ap (λ b. not (b || (tag_of m.rest == 0x78))) entire ∙ ap not tag

      abbrev who_by : Bool → List Posted
      who_by i = letters_alone (elim i [ true ↦ nothing | false ↦ act [] (identity_letters r m.rest ++ holder_ended p) ])

      who_told : Tells (connection_letters s p at mark (what.Got m.id m.rest))
      who_told = ap (λ xs. list_any (tells_ended op) (letters_to Desk xs)) (good_letters fair ∙ ap (λ c. answers_by (cond c (Some r) None) (cond (is_under_who m.id r) (Some r) None)) not_under ∙ ap (λ c. answers_by None (cond c (Some r) None)) under ∙ ap who_by entire) ∙ any_behind_posts (tells_ended op) (identity_letters r m.rest) (holder_ended p) holder_told

    lets_told : lets_go m r ≡ true → Tells (connection_letters s p at mark (what.Got m.id m.rest))
    lets_told lets = or_elim (is_under m.id r && (is_final Bind m.rest && is_some (result_code m.rest) && not (has_code 14 m.rest) && not (keeps_back r m.rest))) (is_under_who m.id r && tag_of m.rest == 0x78) answer who (right (is_bind_row r) _ lets)
      where
        answer : (is_under m.id r && (is_final Bind m.rest && is_some (result_code m.rest) && not (has_code 14 m.rest) && not (keeps_back r m.rest))) ≡ true → Tells (connection_letters s p at mark (what.Got m.id m.rest))
        answer k =
            let tests : (is_final Bind m.rest && is_some (result_code m.rest) && not (has_code 14 m.rest) && not (keeps_back r m.rest)) ≡ true = right (is_under m.id r) _ k in
            let three : (is_final Bind m.rest && is_some (result_code m.rest) && not (has_code 14 m.rest)) ≡ true = left (is_final Bind m.rest && is_some (result_code m.rest) && not (has_code 14 m.rest)) _ tests in
            let two : (is_final Bind m.rest && is_some (result_code m.rest)) ≡ true = left (is_final Bind m.rest && is_some (result_code m.rest)) _ three in
            answer_told (left (is_under m.id r) _ k) (left (is_final Bind m.rest) _ two) (right (is_final Bind m.rest) _ two) (not_true (has_code 14 m.rest) (right (is_final Bind m.rest && is_some (result_code m.rest)) _ three)) (not_true (keeps_back r m.rest) (right (is_final Bind m.rest && is_some (result_code m.rest) && not (has_code 14 m.rest)) _ tests))

        who : (is_under_who m.id r && tag_of m.rest == 0x78) ≡ true → Tells (connection_letters s p at mark (what.Got m.id m.rest))
        who k = who_told (left (is_under_who m.id r) _ k) (right (is_under_who m.id r) _ k)

  pub frees_told : p.own_bind ≡ None → is_lone p.rows ≡ true → (m : Message) → frees_holder p m ≡ true → Tells (connection_letters s p at mark (what.Got m.id m.rest))
  frees_told own lone m frees = by p.rows refl lone (right (not (is_under_own p m.id)) _ frees)
    where
      by : (rows : List UpRow) → p.rows ≡ rows → is_lone rows ≡ true → list_any (lets_go m) rows ≡ true → Tells (connection_letters s p at mark (what.Got m.id m.rest))
      by [] e b k = absurd (let no : false ≡ true = k in cc)
      by (r ∷ []) e b k = lets_told own m r e (left (is_bind_row r) _ b) (right (is_bind_row r) _ b) (or_elim (lets_go m r) false (λ j. j) (λ j. absurd (let no : false ≡ true = j in cc)) k)
      by (r ∷ q ∷ rows) e b k = absurd (let no : false ≡ true = b in cc)
