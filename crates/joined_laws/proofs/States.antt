-- Which letters of a connection tell the desk no state of it: all but those that it gives where it is up, retires or ends.
use Rattle.std.proofs.Common.{◌≡◌, ℕ, Bool, true, false, ◌==◌, ◌||◌, List, [], ◌∷◌, ◌++◌, refl, ap, ◌∙◌}
use Rattle.std.specs.Prelude.{Option, Some, None, find, flat_map}
use Rattle.std.specs.List.{list_any}
use Rattle.ldap_spec.specs.Bodies.{who_am_i}
use Rattle.ldap_spec.specs.Kinds.{is_final, is_intermediate}
use Rattle.ldap_spec.specs.Messages.{Message}
use Rattle.ldap_spec.specs.Responses.{has_code, tells_who, who_value}
use Rattle.lload_names.specs.declared.names.ConnKind.{ConnKind}
use Rattle.lload_names.specs.declared.names.ConnKind.TheVariants.{Regular, Bind as BindKind}
use Rattle.lload_names.specs.declared.names.EndWhy.TheVariants.{Bad, OwnBind as OwnBindFailed}
use Rattle.lload_names.specs.declared.names.Letter.{Letter}
use Rattle.lload_names.specs.declared.names.Letter.TheVariants.{Forward, Ended, IsDown}
use Rattle.lload_names.specs.declared.names.OpName.{OpName}
use Rattle.lload_names.specs.declared.names.PartName.TheVariants.{Desk}
use Rattle.lload_names.specs.declared.names.Posted.{Posted}
use Rattle.lload_names.specs.declared.names.Refusal.TheVariants.{C4, C5, C9}
use Rattle.lload_names.specs.declared.names.What.TheVariants as what
use Rattle.lload_spec.specs.Settings.{Settings}
use Rattle.part_laws.proofs.ListLaws.{none_of_both}
use Rattle.part_spec.specs.BindTurn.{answered as bind_answered, bind_answer, identity_letters, keep_back, kept_rest, missed_ended, missed_letters as missed_bind_letters, row_answer as bind_row_answer, was_lost, who_answer}
use Rattle.part_spec.specs.ConnectionState.{ConnectionState, UpRow, is_under, is_under_own, is_under_who, is_abandoned_by, is_bind, keeps_back, message_facts}
use Rattle.lload_spec.specs.BadMessages.{is_bad}
use Rattle.part_spec.specs.ConnectionTurn.{down_letters, comes_up, retires, ended, row_ended, holder_ended, loss, latency, goes_down}
use Rattle.part_spec.specs.Gives.{got_letters, abandoned_ended, expired_letters, missed_by, missed_of}
use Rattle.part_spec.specs.Inputs.{to, act, nothing, letters_alone, failed, reply}
use Rattle.part_spec.specs.Marked.{Taken, letters_to}
use Rattle.part_spec.specs.RegularTurn.{answered, missed_letters, own_answer, row_answer}
use Rattle.joined_laws.proofs.Taken.{letters_to_both}

-- Letters to the desk that tell no state of a connection: the test is of letters that tell a state.
module _ (test : Letter → Bool) (quiet : (op : OpName) (u : ℕ) (latency : Option ℕ) → test (Ended op u latency) ≡ false) where
  abbrev pub Quiet : List Posted → Type 0
  Quiet xs = list_any test (letters_to Desk xs) ≡ false

  one_after : (xs ys : List Posted) → Quiet xs → Quiet ys → Quiet (xs ++ ys)
  one_after xs ys h k = ap (list_any test) (letters_to_both Desk xs ys) ∙ none_of_both test (letters_to Desk xs) (letters_to Desk ys) h k

  of_each : {A : Type 0} (f : A → List Posted) (rs : List A) → ((r : A) → Quiet (f r)) → Quiet (flat_map f rs)
  of_each f [] h = refl
  of_each f (r ∷ rs) h = one_after (f r) (flat_map f rs) (h r) (of_each f rs h)

  ended_quiet : (p : ConnectionState) (op : OpName) (l : Option ℕ) → Quiet (ended p op l)
  ended_quiet p op l = ap (λ b. b || false) (quiet op p.number l)

  row_quiet : (p : ConnectionState) (r : UpRow) (l : Option ℕ) → Quiet (row_ended p r l)
  row_quiet p r l = by (is_bind p)
    where
      by : (b : Bool) → Quiet (elim b [ true ↦ [] | false ↦ ended p r.op l ])
      by true = refl
      by false = ended_quiet p r.op l

  pub holder_quiet : (p : ConnectionState) → Quiet (holder_ended p)
  holder_quiet p = by p.holder
    where
      by : (o : Option OpName) → Quiet (elim o [ None ↦ [] | Some h ↦ ended p h None ])
      by None = refl
      by (Some h) = ended_quiet p h None

  pub losses_quiet : (p : ConnectionState) (rows : List UpRow) → Quiet (flat_map (loss p) rows)
  losses_quiet p rows = of_each (loss p) rows (λ r. one_after (failed r.op C4) (row_ended p r None) refl (row_quiet p r None))

  pub owns_quiet : (p : ConnectionState) (rest : List ℕ) (rows : List UpRow) → Quiet (flat_map (abandoned_ended p rest) rows)
  owns_quiet p rest rows = of_each (abandoned_ended p rest) rows (λ r. by r (is_abandoned_by rest r))
    where
      by : (r : UpRow) (b : Bool) → Quiet (elim b [ true ↦ row_ended p r None | false ↦ [] ])
      by r true = row_quiet p r None
      by r false = refl

  pub expired_quiet : (p : ConnectionState) (op : OpName) → Quiet (expired_letters p op)
  expired_quiet p op = one_after (failed op C5) (elim p.kind [ Regular ↦ ended p op None | BindKind ↦ [] ]) refl (by p.kind)
    where
      by : (k : ConnKind) → Quiet (elim k [ Regular ↦ ended p op None | BindKind ↦ [] ])
      by Regular = ended_quiet p op None
      by BindKind = refl

  pub missed_quiet : (p : ConnectionState) (op : OpName) (mark : Option Taken) → Quiet (missed_by p op mark)
  missed_quiet p op None = refl
  missed_quiet p op (Some t) = of_letter t.letter
    where
      held : (holder : OpName) (b : Bool) → Quiet (elim b [ true ↦ [] | false ↦ ended p holder None ])
      held holder true = refl
      held holder false = ended_quiet p holder None

      by : (k : ConnKind) (holder : OpName) → Quiet (elim k [ Regular ↦ missed_letters p op | BindKind ↦ missed_bind_letters p op holder ])
      by Regular holder = one_after (failed op C4) (ended p op None) refl (ended_quiet p op None)
      by BindKind holder = one_after (failed op C4) (missed_ended p holder) refl (held holder (was_lost p holder))

      of_letter : (x : Letter) → Quiet (missed_of p op x)
      of_letter (Forward o sort rest ask holder) = by p.kind holder
      of_letter _ = refl

  -- what a message gives
  own_alone : (p : ConnectionState) (m : Message) → letters_alone (own_answer p m) ≡ []
  own_alone p m = by (has_code 0 m.rest)
    where
      by : (b : Bool) → letters_alone (elim b [ true ↦ comes_up p | false ↦ goes_down p OwnBindFailed ]) ≡ []
      by true = refl
      by false = refl

  pub regular_quiet : (p : ConnectionState) (at : ℕ) (m : Message) → Quiet (letters_alone (answered p at m))
  regular_quiet p at m = by (is_under_own p m.id)
    where
      row : (r : UpRow) (b : Bool) → Quiet (letters_alone (elim b [ false ↦ act [] (reply r.op m.rest false None) | true ↦ act [] (reply r.op m.rest true None ++ ended p r.op (latency at r)) ]))
      row r false = refl
      row r true = one_after (reply r.op m.rest true None) (ended p r.op (latency at r)) refl (ended_quiet p r.op (latency at r))

      found : (o : Option UpRow) → Quiet (letters_alone (elim o [ None ↦ nothing | Some r ↦ row_answer p at m r ]))
      found None = refl
      found (Some r) = row r (is_final r.kind m.rest)

      by : (b : Bool) → Quiet (letters_alone (elim b [ true ↦ own_answer p m | false ↦ elim (find (is_under m.id) p.rows) [ None ↦ nothing | Some r ↦ row_answer p at m r ] ]))
      by true = ap (λ l. list_any test (letters_to Desk l)) (own_alone p m)
      by false = found (find (is_under m.id) p.rows)

  kept_alone : (s : Settings) (p : ConnectionState) → letters_alone (keep_back s p) ≡ []
  kept_alone s p = by (p.ids.next == s.id_limit)
    where
      by : (b : Bool) → letters_alone (act (elim b [ true ↦ what.Own p.ids.next who_am_i ∷ what.Retired ∷ [] | false ↦ what.Own p.ids.next who_am_i ∷ [] ]) (retires s p p.ids.next)) ≡ []
      by true = refl
      by false = refl

  pub bind_quiet : (s : Settings) (p : ConnectionState) (m : Message) → Quiet (letters_alone (bind_answered s p m))
  bind_quiet s p m = found (find (is_under m.id) p.rows)
    where
      kept : (r : UpRow) (b : Bool) → Quiet (letters_alone (elim b [ true ↦ keep_back s p | false ↦ act [] (reply r.op m.rest true None ++ holder_ended p) ]))
      kept r true = ap (λ l. list_any test (letters_to Desk l)) (kept_alone s p)
      kept r false = one_after (reply r.op m.rest true None) (holder_ended p) refl (holder_quiet p)

      final : (r : UpRow) (b : Bool) → Quiet (letters_alone (elim b [ true ↦ act [] (reply r.op m.rest true None) | false ↦ elim (keeps_back r m.rest) [ true ↦ keep_back s p | false ↦ act [] (reply r.op m.rest true None ++ holder_ended p) ] ]))
      final r true = refl
      final r false = kept r (keeps_back r m.rest)

      row : (r : UpRow) (b : Bool) → Quiet (letters_alone (elim b [ true ↦ act [] (reply r.op m.rest false None) | false ↦ bind_answer s p m.rest r ]))
      row r true = refl
      row r false = final r (has_code 14 m.rest)

      told : (r : UpRow) (b : Bool) → Quiet (elim b [ true ↦ reply r.op (kept_rest r) true (who_value m.rest) | false ↦ failed r.op C9 ])
      told r true = refl
      told r false = refl

      who : (r : UpRow) (b : Bool) → Quiet (letters_alone (elim b [ true ↦ nothing | false ↦ act [] (identity_letters r m.rest ++ holder_ended p) ]))
      who r true = refl
      who r false = one_after (identity_letters r m.rest) (holder_ended p) (told r (tells_who m.rest)) (holder_quiet p)

      others : (o : Option UpRow) → Quiet (letters_alone (elim o [ Some r ↦ who_answer p m.rest r | None ↦ nothing ]))
      others None = refl
      others (Some r) = who r (is_intermediate m.rest)

      found : (o : Option UpRow) → Quiet (letters_alone (elim o [ Some r ↦ bind_row_answer s p m.rest r | None ↦ elim (find (is_under_who m.id) p.rows) [ Some r ↦ who_answer p m.rest r | None ↦ nothing ] ]))
      found (Some r) = row r (is_intermediate m.rest)
      found None = others (find (is_under_who m.id) p.rows)

  pub got_quiet : (s : Settings) (p : ConnectionState) (at : ℕ) (m : Message) → Quiet (got_letters s p at m)
  got_quiet s p at m = by (is_bad (message_facts p) m)
    where
      kinds : (k : ConnKind) → Quiet (letters_alone (elim k [ Regular ↦ answered p at m | BindKind ↦ bind_answered s p m ]))
      kinds Regular = regular_quiet p at m
      kinds BindKind = bind_quiet s p m

      by : (b : Bool) → Quiet (letters_alone (elim b [ true ↦ goes_down p Bad | false ↦ elim p.kind [ Regular ↦ answered p at m | BindKind ↦ bind_answered s p m ] ]))
      by true = refl
      by false = kinds p.kind

  pub down_quiet : (p : ConnectionState) → test (IsDown p.number) ≡ false → Quiet (down_letters p)
  down_quiet p h = one_after (flat_map (loss p) p.rows) (holder_ended p ++ to Desk (IsDown p.number)) (losses_quiet p p.rows) (one_after (holder_ended p) (to Desk (IsDown p.number)) (holder_quiet p) (ap (λ b. b || false) h))
