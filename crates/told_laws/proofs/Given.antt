-- What is so of each letter that a connection gives at an entry, where it is so of its answers, its refusals and its news.
use Rattle.std.proofs.Common.{◌≡◌, ℕ, Bool, true, false, ◌==◌, ◌&&◌, ◌||◌, not, List, [], ◌∷◌, ◌++◌, refl, ap, ◌∙◌, sym}
use Rattle.std.specs.Prelude.{Option, Some, None, find, flat_map}
use Rattle.std.specs.List.{list_all}
use Rattle.std.proofs.lemmas.List.Folds.{list_all-append}
use Rattle.ldap_spec.specs.Bodies.{who_am_i}
use Rattle.ldap_spec.specs.Kinds.{is_final, is_intermediate}
use Rattle.ldap_spec.specs.Messages.{Message}
use Rattle.ldap_spec.specs.Responses.{has_code, tells_who, who_value}
use Rattle.ldap_spec.specs.Tags.{bind_in_progress, success}
use Rattle.lload_names.specs.declared.names.ConnKind.{ConnKind}
use Rattle.lload_names.specs.declared.names.ConnKind.TheVariants.{Bind as BindKind, Regular}
use Rattle.lload_names.specs.declared.names.EndWhy.{EndWhy}
use Rattle.lload_names.specs.declared.names.EndWhy.TheVariants.{Bad, OwnBind as OwnBindFailed}
use Rattle.lload_names.specs.declared.names.Letter.{Letter}
use Rattle.lload_names.specs.declared.names.Letter.TheVariants.{Ended, Failed, Forward, IsDown, IsRetired, IsUp, Reply}
use Rattle.lload_names.specs.declared.names.OpName.{OpName}
use Rattle.lload_names.specs.declared.names.PartName.TheVariants.{Desk}
use Rattle.lload_names.specs.declared.names.Posted.{Posted}
use Rattle.lload_names.specs.declared.names.Refusal.TheVariants.{C4, C5, C9}
use Rattle.lload_names.specs.declared.names.What.{What}
use Rattle.lload_names.specs.declared.names.What.TheVariants as what
use Rattle.lload_spec.specs.BadMessages.{is_bad}
use Rattle.lload_spec.specs.Settings.{Settings}
use Rattle.lload_spec.proofs.Growth.{left, right, both}
use Rattle.part_spec.specs.BindTurn.{answered as bind_answered, keep_back, kept_rest, row_answer as bind_row_answer, was_lost, who_answer}
use Rattle.part_spec.specs.ConnectionState.{ConnectionState, UpRow, is_abandoned_by, is_bind, is_under, is_under_own, is_under_who, keeps_back, message_facts}
use Rattle.part_spec.specs.ConnectionTurn.{comes_up, ended, goes_down, holder_ended, latency, loss, retires}
use Rattle.part_spec.specs.Gives.{abandoned_ended, connection_letters, got_letters, missed_of}
use Rattle.part_spec.specs.Inputs.{act, failed, letters_alone, nothing, reply, to}
use Rattle.part_spec.specs.Marked.{Taken}
use Rattle.part_spec.specs.RegularTurn.{answered, own_answer, row_answer}

-- A test that passes all that a connection in this state may give at what happens to it: its news to the desk; an answer to the
-- row that a message is under; what a Who Am I tells; and the refusal of what expires, is missed, or is lost with it.
pub record Passes (q : Letter → Bool) (p : ConnectionState) (w : What) : Type 0 where
  pub ended : (op : OpName) (u : ℕ) (late : Option ℕ) → q (Ended op u late) ≡ true
  pub up : (u : ℕ) → q (IsUp u) ≡ true
  pub retired : (u : ℕ) → q (IsRetired u) ≡ true
  pub down : (u : ℕ) → q (IsDown u) ≡ true
  pub replied : (id : ℕ) (rest : List ℕ) → w ≡ what.Got id rest → is_bad (message_facts p) (record { id = id; rest = rest }) ≡ false → (r : UpRow) → find (is_under id) p.rows ≡ Some r → (p.kind ≡ BindKind → (is_intermediate rest || has_code bind_in_progress rest || not (keeps_back r rest)) ≡ true) → (is_last : Bool) → q (Reply r.op rest is_last None) ≡ true
  pub told : (id : ℕ) (rest : List ℕ) → w ≡ what.Got id rest → is_bad (message_facts p) (record { id = id; rest = rest }) ≡ false → p.kind ≡ BindKind → (r : UpRow) → find (is_under id) p.rows ≡ None → find (is_under_who id) p.rows ≡ Some r → is_intermediate rest ≡ false → tells_who rest ≡ true → q (Reply r.op (kept_rest r) true (who_value rest)) ≡ true
  pub unknown : (id : ℕ) (rest : List ℕ) → w ≡ what.Got id rest → is_bad (message_facts p) (record { id = id; rest = rest }) ≡ false → p.kind ≡ BindKind → (r : UpRow) → find (is_under id) p.rows ≡ None → find (is_under_who id) p.rows ≡ Some r → is_intermediate rest ≡ false → tells_who rest ≡ false → q (Failed r.op C9) ≡ true
  pub expired : (op : OpName) → w ≡ what.Expired op → q (Failed op C5) ≡ true
  pub missed : (op : OpName) → w ≡ what.Missed op → q (Failed op C4) ≡ true
  pub lost : (why : EndWhy) → w ≡ what.Down why → list_all (λ r. q (Failed r.op C4)) p.rows ≡ true

module _ (q : Letter → Bool) (s : Settings) (p : ConnectionState) where
  abbrev pub all_pass : List Posted → Bool
  all_pass xs = list_all (λ x. q x.letter) xs

  pass_both : (xs ys : List Posted) → all_pass xs ≡ true → all_pass ys ≡ true → all_pass (xs ++ ys) ≡ true
  pass_both xs ys h k = list_all-append (λ (x : Posted). q x.letter) xs ys ∙ both (all_pass xs) (all_pass ys) h k

  one : (b : Bool) → b ≡ true → (b && true) ≡ true
  one b h = both b true h refl

  module _ (w : What) (h : Passes q p w) where
    holder_passes : all_pass (holder_ended p) ≡ true
    holder_passes = by p.holder
      where
        by : (o : Option OpName) → all_pass (elim o [ None ↦ [] | Some x ↦ ended p x None ]) ≡ true
        by None = refl
        by (Some x) = one _ (h.ended x p.number None)

    retires_passes : (id : ℕ) → all_pass (retires s p id) ≡ true
    retires_passes id = by (id == s.id_limit)
      where
        by : (b : Bool) → all_pass (elim b [ true ↦ to Desk (IsRetired p.number) | false ↦ [] ]) ≡ true
        by true = one _ (h.retired p.number)
        by false = refl

    own_passes : (m : Message) → all_pass (letters_alone (own_answer p m)) ≡ true
    own_passes m = by (has_code success m.rest)
      where
        by : (b : Bool) → all_pass (letters_alone (elim b [ true ↦ comes_up p | false ↦ goes_down p OwnBindFailed ])) ≡ true
        by true = refl
        by false = refl

    -- A message.
    module _ (at id : ℕ) (rest : List ℕ) (e : w ≡ what.Got id rest) where
      abbrev m : Message
      m = record { id = id; rest = rest }

      regular_passes : is_bad (message_facts p) m ≡ false → (p.kind ≡ BindKind → false ≡ true) → all_pass (letters_alone (answered p at m)) ≡ true
      regular_passes fine sort = by (is_under_own p id) (find (is_under id) p.rows) refl
        where
          row : (r : UpRow) → find (is_under id) p.rows ≡ Some r → (b : Bool) → all_pass (letters_alone (elim b [ false ↦ act [] (reply r.op rest false None) | true ↦ act [] (reply r.op rest true None ++ ended p r.op (latency at r)) ])) ≡ true
          row r k false = one _ (h.replied id rest e fine r k (λ z. absurd (let bad : false ≡ true = sort z in cc)) false)
          row r k true = both (q (Reply r.op rest true None)) _ (h.replied id rest e fine r k (λ z. absurd (let bad : false ≡ true = sort z in cc)) true) (one _ (h.ended r.op p.number (latency at r)))

          by : (b : Bool) (o : Option UpRow) → find (is_under id) p.rows ≡ o → all_pass (letters_alone (elim b [ true ↦ own_answer p m | false ↦ elim o [ None ↦ nothing | Some r ↦ row_answer p at m r ] ])) ≡ true
          by true o k = own_passes m
          by false None k = refl
          by false (Some r) k = row r k (is_final r.kind rest)

      keeps_passes : all_pass (letters_alone (keep_back s p)) ≡ true
      keeps_passes = by (p.ids.next == s.id_limit)
        where
          by : (b : Bool) → all_pass (letters_alone (act (elim b [ true ↦ what.Own p.ids.next who_am_i ∷ what.Retired ∷ [] | false ↦ what.Own p.ids.next who_am_i ∷ [] ]) (retires s p p.ids.next))) ≡ true
          by true = refl
          by false = refl

      bind_passes : is_bad (message_facts p) m ≡ false → p.kind ≡ BindKind → all_pass (letters_alone (bind_answered s p m)) ≡ true
      bind_passes fine sort = by (find (is_under id) p.rows) (find (is_under_who id) p.rows) refl refl
        where
          plain : (r : UpRow) → find (is_under id) p.rows ≡ Some r → (a b k : Bool) → is_intermediate rest ≡ a → has_code bind_in_progress rest ≡ b → keeps_back r rest ≡ k → (a || b || not k) ≡ true → (is_last : Bool) → q (Reply r.op rest is_last None) ≡ true
          plain r f a b k x y z t is_last = h.replied id rest e fine r f (λ i. ap (λ c. c || has_code bind_in_progress rest || not (keeps_back r rest)) x ∙ ap (λ c. a || c || not (keeps_back r rest)) y ∙ ap (λ c. a || b || not c) z ∙ t) is_last

          row : (r : UpRow) → find (is_under id) p.rows ≡ Some r → (a b k : Bool) → is_intermediate rest ≡ a → has_code bind_in_progress rest ≡ b → keeps_back r rest ≡ k → all_pass (letters_alone (elim a [ true ↦ act [] (reply r.op rest false None) | false ↦ elim b [ true ↦ act [] (reply r.op rest true None) | false ↦ elim k [ true ↦ keep_back s p | false ↦ act [] (reply r.op rest true None ++ holder_ended p) ] ] ])) ≡ true
          row r f true b k x y z = one _ (plain r f true b k x y z refl false)
          row r f false true k x y z = one _ (plain r f false true k x y z refl true)
          row r f false false true x y z = keeps_passes
          row r f false false false x y z = both (q (Reply r.op rest true None)) _ (plain r f false false false x y z refl true) holder_passes

          who : (r : UpRow) → find (is_under id) p.rows ≡ None → find (is_under_who id) p.rows ≡ Some r → (a b : Bool) → is_intermediate rest ≡ a → tells_who rest ≡ b → all_pass (letters_alone (elim a [ true ↦ nothing | false ↦ act [] ((elim b [ true ↦ reply r.op (kept_rest r) true (who_value rest) | false ↦ failed r.op C9 ]) ++ holder_ended p) ])) ≡ true
          who r f g true b x y = refl
          who r f g false true x y = both (q (Reply r.op (kept_rest r) true (who_value rest))) _ (h.told id rest e fine sort r f g x y) holder_passes
          who r f g false false x y = both (q (Failed r.op C9)) _ (h.unknown id rest e fine sort r f g x y) holder_passes

          by : (a b : Option UpRow) → find (is_under id) p.rows ≡ a → find (is_under_who id) p.rows ≡ b → all_pass (letters_alone (elim a [ Some r ↦ bind_row_answer s p rest r | None ↦ elim b [ Some r ↦ who_answer p rest r | None ↦ nothing ] ])) ≡ true
          by (Some r) b f g = row r f (is_intermediate rest) (has_code bind_in_progress rest) (keeps_back r rest) refl refl refl
          by None (Some r) f g = who r f g (is_intermediate rest) (tells_who rest) refl refl
          by None None f g = refl

      got_passes : all_pass (got_letters s p at m) ≡ true
      got_passes = by (is_bad (message_facts p) m) p.kind refl refl
        where
          by : (b : Bool) (k : ConnKind) → is_bad (message_facts p) m ≡ b → p.kind ≡ k → all_pass (letters_alone (elim b [ true ↦ goes_down p Bad | false ↦ elim k [ Regular ↦ answered p at m | BindKind ↦ bind_answered s p m ] ])) ≡ true
          by true k f g = refl
          by false Regular f g = regular_passes f (λ z. absurd (let bad : Regular ≡ BindKind = sym g ∙ z in cc))
          by false BindKind f g = bind_passes f g

    abandoned_passes : (rest : List ℕ) (rows : List UpRow) → all_pass (flat_map (abandoned_ended p rest) rows) ≡ true
    abandoned_passes rest [] = refl
    abandoned_passes rest (r ∷ rows) = pass_both (abandoned_ended p rest r) (flat_map (abandoned_ended p rest) rows) (by (is_abandoned_by rest r) (is_bind p)) (abandoned_passes rest rows)
      where
        by : (a b : Bool) → all_pass (elim a [ true ↦ elim b [ true ↦ [] | false ↦ ended p r.op None ] | false ↦ [] ]) ≡ true
        by true true = refl
        by true false = one _ (h.ended r.op p.number None)
        by false b = refl

    lost_passes : (rows : List UpRow) → list_all (λ r. q (Failed r.op C4)) rows ≡ true → all_pass (flat_map (loss p) rows) ≡ true
    lost_passes [] k = refl
    lost_passes (r ∷ rows) k = pass_both (loss p r) (flat_map (loss p) rows) (by (is_bind p)) (lost_passes rows (right (q (Failed r.op C4)) _ k))
      where
        by : (b : Bool) → all_pass (failed r.op C4 ++ elim b [ true ↦ [] | false ↦ ended p r.op None ]) ≡ true
        by true = one _ (left (q (Failed r.op C4)) _ k)
        by false = both (q (Failed r.op C4)) _ (left (q (Failed r.op C4)) _ k) (one _ (h.ended r.op p.number None))

    missed_passes : (op : OpName) → w ≡ what.Missed op → (x : Letter) → all_pass (missed_of p op x) ≡ true
    missed_passes op e (Forward o sort rest ask holder) = by p.kind (was_lost p holder)
      where
        by : (k : ConnKind) (b : Bool) → all_pass (elim k [ Regular ↦ failed op C4 ++ ended p op None | BindKind ↦ failed op C4 ++ elim b [ true ↦ [] | false ↦ ended p holder None ] ]) ≡ true
        by Regular b = both (q (Failed op C4)) _ (h.missed op e) (one _ (h.ended op p.number None))
        by BindKind true = one _ (h.missed op e)
        by BindKind false = both (q (Failed op C4)) _ (h.missed op e) (one _ (h.ended holder p.number None))
    missed_passes op e _ = refl

    expired_passes : (op : OpName) → w ≡ what.Expired op → (k : ConnKind) → all_pass (failed op C5 ++ elim k [ Regular ↦ ended p op None | BindKind ↦ [] ]) ≡ true
    expired_passes op e Regular = both (q (Failed op C5)) _ (h.expired op e) (one _ (h.ended op p.number None))
    expired_passes op e BindKind = one _ (h.expired op e)

    letters_by : (at : ℕ) (mark : Option Taken) (v : What) → w ≡ v → all_pass (connection_letters s p at mark v) ≡ true
    letters_by at mark (what.Got id rest) e = got_passes at id rest e
    letters_by at mark (what.Own id rest) e = abandoned_passes rest p.rows
    letters_by at mark (what.Expired op) e = expired_passes op e p.kind
    letters_by at None (what.Missed op) e = refl
    letters_by at (Some t) (what.Missed op) e = missed_passes op e t.letter
    letters_by at mark (what.Down why) e = pass_both (flat_map (loss p) p.rows) (holder_ended p ++ to Desk (IsDown p.number)) (lost_passes p.rows (h.lost why e)) (pass_both (holder_ended p) (to Desk (IsDown p.number)) holder_passes (one _ (h.down p.number)))
    letters_by at mark what.Up e = one _ (h.up p.number)
    letters_by at mark what.Retired e = one _ (h.retired p.number)
    letters_by at mark _ e = refl

  -- each letter at an entry
  pub letters_pass : (at : ℕ) (mark : Option Taken) (w : What) → Passes q p w → all_pass (connection_letters s p at mark w) ≡ true
  letters_pass at mark w h = letters_by w h at mark w refl
