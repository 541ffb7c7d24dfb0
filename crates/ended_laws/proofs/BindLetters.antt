-- The ends of operations that a bind connection gives the desk: that of its holder, with no latency.
use Rattle.std.proofs.Common.{◌≡◌, ◌⊎◌, inl, inr, ℕ, Bool, true, false, ◌==◌, List, [], ◌∷◌, ◌++◌, refl, ap, ◌∙◌, sym}
use Rattle.std.specs.Prelude.{Option, Some, None, find, flat_map}
use Rattle.std.specs.List.{list_any}
use Rattle.ldap_spec.specs.Bodies.{who_am_i}
use Rattle.ldap_spec.specs.Kinds.{is_intermediate}
use Rattle.ldap_spec.specs.Messages.{Message}
use Rattle.ldap_spec.specs.Responses.{has_code, tells_who, who_value}
use Rattle.ldap_spec.specs.Tags.{bind_in_progress}
use Rattle.lload_names.specs.Same.{same_letter}
use Rattle.lload_names.specs.declared.names.ConnKind.{ConnKind}
use Rattle.lload_names.specs.declared.names.ConnKind.TheVariants.{Bind as BindKind, Regular}
use Rattle.lload_names.specs.declared.names.EndWhy.{EndWhy}
use Rattle.lload_names.specs.declared.names.EndWhy.TheVariants.{Bad}
use Rattle.lload_names.specs.declared.names.Letter.{Letter}
use Rattle.lload_names.specs.declared.names.Letter.TheVariants.{Ended, Forward, IsDown}
use Rattle.lload_names.specs.declared.names.OpName.{OpName}
use Rattle.lload_names.specs.declared.names.PartName.TheVariants.{Desk}
use Rattle.lload_names.specs.declared.names.Refusal.TheVariants.{C4, C5, C9}
use Rattle.lload_names.specs.declared.names.What.{What}
use Rattle.lload_names.specs.declared.names.What.TheVariants as what
use Rattle.lload_spec.specs.BadMessages.{is_bad}
use Rattle.lload_spec.specs.Settings.{Settings, is_kind}
use Rattle.part_laws.proofs.ListLaws.{any_split}
use Rattle.part_spec.specs.BindTurn.{answered, bind_answer, identity_letters, keep_back, kept_rest, missed_letters, row_answer, was_lost, who_answer}
use Rattle.part_spec.specs.ConnectionState.{ConnectionState, UpRow, is_abandoned_by, is_bind, is_under, is_under_who, keeps_back, message_facts, step_connection}
use Rattle.part_spec.specs.ConnectionTurn.{ended, goes_down, holder_ended, loss, retires, row_ended}
use Rattle.part_spec.specs.Gives.{abandoned_ended, connection_gives, connection_letters, missed_by, missed_of}
use Rattle.part_spec.specs.Inputs.{act, failed, letters_alone, nothing, reply, to}
use Rattle.part_spec.specs.Marked.{Marked, Taken, letters_to}
use Rattle.part_spec.specs.RegularTurn.{answered as regular_answered, missed_letters as missed_regular_letters}
use Rattle.connection_laws.proofs.ConnectionSays.{kind_step}
use Rattle.client_answer_laws.proofs.Each.{each_always, each_append}
use Rattle.joined_laws.proofs.Taken.{letters_to_both}
use Rattle.rows_laws.proofs.Somewhere.{each_flat}
use Rattle.ended_laws.proofs.Letters.{Ends, OfEnd, told_end}

-- a message that settles the live Bind by itself, so that its holder lets go
pub record Answers (p : ConnectionState) (m : Message) : Type 0 where
  pub row : UpRow
  pub under : find (is_under m.id) p.rows ≡ Some row
  pub last : is_intermediate m.rest ≡ false
  pub over : has_code bind_in_progress m.rest ≡ false
  pub kept : keeps_back row m.rest ≡ false

-- and one that tells the identity behind an answer that is kept back
pub record Identifies (p : ConnectionState) (m : Message) : Type 0 where
  pub row : UpRow
  pub apart : find (is_under m.id) p.rows ≡ None
  pub under : find (is_under_who m.id) p.rows ≡ Some row
  pub last : is_intermediate m.rest ≡ false

-- the holder that a Forward says
abbrev pub holds_by : Letter → Option OpName
holds_by (Forward op _ rest ask_who holder) = Some holder
holds_by _ = None

-- What is owed where a holder lets go: by a message, by a Forward that is missed, and at the connection's end.
pub record Owes (p : ConnectionState) (mark : Option Taken) (w : What) (P : OpName → Option ℕ → Type 0) : Type 0 where
  pub got : (id : ℕ) (rest : List ℕ) → w ≡ what.Got id rest → is_bad (message_facts p) (record { id = id; rest = rest }) ≡ false → Answers p (record { id = id; rest = rest }) ⊎ Identifies p (record { id = id; rest = rest }) → (h : OpName) → p.holder ≡ Some h → P h None
  pub missed : (op : OpName) → w ≡ what.Missed op → (t : Taken) → mark ≡ Some t → (x : Letter) (holder : OpName) → t.letter ≡ x → holds_by x ≡ Some holder → was_lost p holder ≡ false → P holder None
  pub down : (why : EndWhy) → w ≡ what.Down why → (h : OpName) → p.holder ≡ Some h → P h None

module _ (s : Settings) (p : ConnectionState) (kind : p.kind ≡ BindKind) (P : OpName → Option ℕ → Type 0) where
  holder_so : ((h : OpName) → p.holder ≡ Some h → P h None) → Ends P (holder_ended p)
  holder_so f = by p.holder refl
    where
      by : (o : Option OpName) → p.holder ≡ o → Ends P (elim o [ None ↦ [] | Some h ↦ ended p h None ])
      by None e = tt
      by (Some h) e = (f h e, tt)

  no_row : (r : UpRow) → Ends P (row_ended p r None)
  no_row r = by (is_bind p) (ap (is_kind BindKind) kind)
    where
      by : (b : Bool) → b ≡ true → Ends P (elim b [ true ↦ [] | false ↦ ended p r.op None ])
      by true e = tt
      by false e = absurd (let bad : false ≡ true = e in cc)

  -- A message.
  module _ (m : Message) (owed : Answers p m ⊎ Identifies p m → (h : OpName) → p.holder ≡ Some h → P h None) where
    kept_so : Ends P (letters_alone (keep_back s p))
    kept_so = by (p.ids.next == s.id_limit)
      where
        by : (b : Bool) → Ends P (letters_alone (act (elim b [ true ↦ what.Own p.ids.next who_am_i ∷ what.Retired ∷ [] | false ↦ what.Own p.ids.next who_am_i ∷ [] ]) (retires s p p.ids.next)))
        by true = tt
        by false = tt

    answer_so : (r : UpRow) → find (is_under m.id) p.rows ≡ Some r → is_intermediate m.rest ≡ false → Ends P (letters_alone (bind_answer s p m.rest r))
    answer_so r e last = by (has_code bind_in_progress m.rest) (keeps_back r m.rest) refl refl
      where
        by : (a b : Bool) → has_code bind_in_progress m.rest ≡ a → keeps_back r m.rest ≡ b → Ends P (letters_alone (elim a [ true ↦ act [] (reply r.op m.rest true None) | false ↦ elim b [ true ↦ keep_back s p | false ↦ act [] (reply r.op m.rest true None ++ holder_ended p) ] ]))
        by true b i j = (tt, tt)
        by false true i j = kept_so
        by false false i j = (tt, holder_so (owed (inl (record { row = r; under = e; last = last; over = i; kept = j }))))

    row_so : (r : UpRow) → find (is_under m.id) p.rows ≡ Some r → Ends P (letters_alone (row_answer s p m.rest r))
    row_so r e = by (is_intermediate m.rest) refl
      where
        by : (a : Bool) → is_intermediate m.rest ≡ a → Ends P (letters_alone (elim a [ true ↦ act [] (reply r.op m.rest false None) | false ↦ bind_answer s p m.rest r ]))
        by true i = (tt, tt)
        by false i = answer_so r e i

    who_so : (r : UpRow) → find (is_under m.id) p.rows ≡ None → find (is_under_who m.id) p.rows ≡ Some r → Ends P (letters_alone (who_answer p m.rest r))
    who_so r none e = by (is_intermediate m.rest) refl
      where
        told : (b : Bool) → Ends P (elim b [ true ↦ reply r.op (kept_rest r) true (who_value m.rest) | false ↦ failed r.op C9 ])
        told true = (tt, tt)
        told false = (tt, tt)

        by : (a : Bool) → is_intermediate m.rest ≡ a → Ends P (letters_alone (elim a [ true ↦ nothing | false ↦ act [] (identity_letters r m.rest ++ holder_ended p) ]))
        by true i = tt
        by false i = each_append (λ y. OfEnd P y.letter) (identity_letters r m.rest) (holder_ended p) (told (tells_who m.rest)) (holder_so (owed (inr (record { row = r; apart = none; under = e; last = i }))))

    answered_so : Ends P (letters_alone (answered s p m))
    answered_so = by (find (is_under m.id) p.rows) refl
      where
        others : find (is_under m.id) p.rows ≡ None → (o : Option UpRow) → find (is_under_who m.id) p.rows ≡ o → Ends P (letters_alone (elim o [ Some r ↦ who_answer p m.rest r | None ↦ nothing ]))
        others none None e = tt
        others none (Some r) e = who_so r none e

        by : (o : Option UpRow) → find (is_under m.id) p.rows ≡ o → Ends P (letters_alone (elim o [ Some r ↦ row_answer s p m.rest r | None ↦ elim (find (is_under_who m.id) p.rows) [ Some r ↦ who_answer p m.rest r | None ↦ nothing ] ]))
        by (Some r) e = row_so r e
        by None e = others e (find (is_under_who m.id) p.rows) refl

  abbrev none_of : UpRow → Type 0
  none_of r = Unit {0}

  losses_so : (rows : List UpRow) → Ends P (flat_map (loss p) rows)
  losses_so rows = each_flat none_of (λ y. OfEnd P y.letter) (loss p) rows (λ r k. each_append (λ y. OfEnd P y.letter) (failed r.op C4) (row_ended p r None) (tt, tt) (no_row r)) (each_always none_of rows (λ r. tt))

  owns_so : (rest : List ℕ) (rows : List UpRow) → Ends P (flat_map (abandoned_ended p rest) rows)
  owns_so rest rows = each_flat none_of (λ y. OfEnd P y.letter) (abandoned_ended p rest) rows (λ r k. by r (is_abandoned_by rest r)) (each_always none_of rows (λ r. tt))
    where
      by : (r : UpRow) (b : Bool) → Ends P (elim b [ true ↦ row_ended p r None | false ↦ [] ])
      by r true = no_row r
      by r false = tt

  pub bind_ends : (at : ℕ) (mark : Option Taken) (w : What) → Owes p mark w P → Ends P (connection_letters s p at mark w)
  bind_ends at mark (what.Got id rest) o = by (is_bad (message_facts p) m) refl
    where
      m : Message
      m = record { id = id; rest = rest }

      by_kind : (k : ConnKind) → k ≡ BindKind → is_bad (message_facts p) m ≡ false → Ends P (letters_alone (elim k [ Regular ↦ regular_answered p at m | BindKind ↦ answered s p m ]))
      by_kind Regular e good = absurd (let bad : Regular ≡ BindKind = e in cc)
      by_kind BindKind e good = answered_so m (λ a h i. o.got id rest refl good a h i)

      by : (b : Bool) → is_bad (message_facts p) m ≡ b → Ends P (letters_alone (elim b [ true ↦ goes_down p Bad | false ↦ elim p.kind [ Regular ↦ regular_answered p at m | BindKind ↦ answered s p m ] ]))
      by true e = tt
      by false e = by_kind p.kind kind e
  bind_ends at mark (what.Own id rest) o = owns_so rest p.rows
  bind_ends at mark (what.Expired op) o = by_kind p.kind kind
    where
      by_kind : (k : ConnKind) → k ≡ BindKind → Ends P (failed op C5 ++ elim k [ Regular ↦ ended p op None | BindKind ↦ [] ])
      by_kind Regular e = absurd (let bad : Regular ≡ BindKind = e in cc)
      by_kind BindKind e = (tt, tt)
  bind_ends at mark (what.Missed op) o = by mark refl
    where
      lost : (t : Taken) (x : Letter) (holder : OpName) → mark ≡ Some t → t.letter ≡ x → holds_by x ≡ Some holder → (b : Bool) → was_lost p holder ≡ b → Ends P (elim b [ true ↦ [] | false ↦ ended p holder None ])
      lost t x holder e f g true i = tt
      lost t x holder e f g false i = (o.missed op refl t e x holder f g i, tt)

      letter : (t : Taken) (x : Letter) → mark ≡ Some t → t.letter ≡ x → Ends P (missed_of p op x)
      letter t (Forward q sort rest ask holder) e f = by_kind p.kind kind
        where
          by_kind : (k : ConnKind) → k ≡ BindKind → Ends P (elim k [ Regular ↦ missed_regular_letters p op | BindKind ↦ missed_letters p op holder ])
          by_kind Regular i = absurd (let bad : Regular ≡ BindKind = i in cc)
          by_kind BindKind i = (tt, lost t (Forward q sort rest ask holder) holder e f refl (was_lost p holder) refl)
      letter t _ e f = tt

      by : (q : Option Taken) → mark ≡ q → Ends P (missed_by p op q)
      by None e = tt
      by (Some t) e = letter t t.letter e refl
  bind_ends at mark (what.Down why) o = each_append (λ y. OfEnd P y.letter) (flat_map (loss p) p.rows) (holder_ended p ++ to Desk (IsDown p.number)) (losses_so p.rows) (each_append (λ y. OfEnd P y.letter) (holder_ended p) (to Desk (IsDown p.number)) (holder_so (λ h e. o.down why refl h e)) (tt, tt))
  bind_ends at mark what.Up o = (tt, tt)
  bind_ends at mark what.Retired o = (tt, tt)
  bind_ends at mark what.Linked o = tt
  bind_ends at mark w o = tt

-- so it tells no latency
pub bind_tells_none : (s : Settings) (op : OpName) (u : ℕ) (told : Option ℕ) (ms : List Marked) (p : ConnectionState) → p.kind ≡ BindKind → list_any (same_letter (Ended op u told)) (letters_to Desk (connection_gives s p ms)) ≡ true → told ≡ None
bind_tells_none s op u told [] p kind k = absurd (let bad : false ≡ true = k in cc)
bind_tells_none s op u told (m ∷ ms) p kind k =
    any_split (same_letter (Ended op u told)) (letters_to Desk (connection_letters s p m.entry.at m.mark m.entry.what)) (letters_to Desk (connection_gives s (step_connection s p m) ms))
    (λ j. told_end (λ o t. t ≡ None) op u told (connection_letters s p m.entry.at m.mark m.entry.what) (bind_ends s p kind (λ o t. t ≡ None) m.entry.at m.mark m.entry.what (record { got = λ id rest e f a h i. refl; missed = λ q e t i x holder f g n. refl; down = λ why e h i. refl })) j)
    (λ j. bind_tells_none s op u told ms (step_connection s p m) (kind_step s m.entry m.mark p m.entry.what ∙ kind) j)
    (sym (ap (list_any (same_letter (Ended op u told))) (letters_to_both Desk (connection_letters s p m.entry.at m.mark m.entry.what) (connection_gives s (step_connection s p m) ms))) ∙ k)
