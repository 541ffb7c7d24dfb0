-- From where the identity of a success that is kept back was asked for: its connection gives no letter for the operation but one,
-- where the Who Am I is answered or the operation is lost.
use Rattle.std.proofs.Common.{◌≡◌, ◌⊎◌, inl, inr, ℕ, ◌+◌, ◌≤◌, Bool, true, false, ◌==◌, ◌&&◌, ◌||◌, not, List, [], ◌∷◌, ◌++◌, arith, refl, ap, ◌∙◌}
use Rattle.std.specs.Prelude.{Option, Some, None, is_none, is_some}
use Rattle.std.specs.List.{list_any, list_all}
use Rattle.std.specs.Option.{option_and_then, option_or}
use Rattle.std.specs.Str.{bytes_eq}
use Rattle.ldap_spec.specs.Bodies.{who_am_i}
use Rattle.ldap_spec.specs.Messages.{Message}
use Rattle.lload_names.specs.declared.names.Entry.{Entry}
use Rattle.lload_names.specs.declared.names.OpName.{OpName}
use Rattle.lload_names.specs.declared.names.PartName.{PartName}
use Rattle.lload_names.specs.declared.names.What.{What}
use Rattle.lload_names.specs.declared.names.What.TheVariants as what
use Rattle.lload_spec.specs.Answers.{extended_rest, extended_under}
use Rattle.lload_spec.specs.BadMessages.{is_bad}
use Rattle.lload_spec.specs.Entries.{down_why, expired_op, got_message, is_expired, is_missed, is_sent}
use Rattle.lload_spec.specs.Journal.{same_op}
use Rattle.lload_spec.specs.Lists.{passes}
use Rattle.lload_spec.specs.Operations.{Operation}
use Rattle.lload_spec.specs.Owed.{count_of, loses}
use Rattle.lload_spec.specs.Settings.{Settings}
use Rattle.lload_spec.proofs.Growth.{left, both}
use Rattle.lload_laws.proofs.ListLaws.{implies_by}
use Rattle.part_laws.proofs.ListLaws.{not_true, or_left, or_right}
use Rattle.part_spec.specs.ConnectionState.{ConnectionState, Kept, UpRow, behind_own, is_abandoned_by, is_bind, is_under_who, message_facts, step_connection, with_got}
use Rattle.part_spec.specs.Gives.{got_letters}
use Rattle.part_spec.specs.Marked.{Marked, Taken, entries}
use Rattle.answer_laws.proofs.Keeps.{others_stay}
use Rattle.answer_laws.proofs.Places.{At}
use Rattle.answer_laws.proofs.Rests.{gone_mine, of_mine}
use Rattle.answer_laws.proofs.Told.{bad_ends, bind_stays, marked_so, next_at}
use Rattle.told_laws.proofs.Troubles.{neither}
use Rattle.told_laws.proofs.Sources.{is_forwarded}
use Rattle.given_laws.proofs.Behind.{Fine, bad_given, calm_silent, down_given, expired_given, fine_behind, first_lost, gave, gave_both, given_at, nothing_given}
use Rattle.given_laws.proofs.Counts.{count}
use Rattle.given_laws.proofs.Kept.{got_asked}

-- a count of more
pub counts_more : (a b : Bool) → (a ≡ true → b ≡ true) → count_of a ≤ count_of b
counts_more true b f = sub (count_of b) (ap count_of (f refl))
  where
    sub : (n : ℕ) → n ≡ 1 → 1 ≤ n
    sub n e = omega (arith, e)
counts_more false true f = omega arith
counts_more false false f = omega arith

pub counts_one : (n : ℕ) (b : Bool) → n ≤ 1 → b ≡ true → n ≤ count_of b
counts_one n b h e = sub (count_of b) (ap count_of e)
  where
    sub : (k : ℕ) → k ≡ 1 → n ≤ k
    sub k z = omega (arith, z, h)

-- a row that is asked stays behind an own message, or goes
own_asked : (op : OpName) (w : ℕ) (m : Message) (r : UpRow) → is_under_who w r ≡ true → list_all (of_mine op (is_under_who w)) (behind_own m r) ≡ true
own_asked op w m r h = by r.kept h (bytes_eq m.rest who_am_i) (is_abandoned_by m.rest r)
  where
    stays : list_all (of_mine op (is_under_who w)) (r ∷ []) ≡ true
    stays = both (of_mine op (is_under_who w) r) true (implies_by (same_op op r.op) _ (λ i. h)) refl

    asked : Option ℕ → UpRow
    asked who = record r { kept = elim r.kept [ None ↦ None | Some k ↦ Some (record k { who = Some m.id }) ] }

    known : (a : Bool) (who : Option ℕ) → passes (λ i. i == w) who ≡ true → (a && is_none who) ≡ false
    known true None j = absurd (let bad : false ≡ true = j in cc)
    known true (Some i) j = refl
    known false who j = refl

    by : (o : Option Kept) → passes (λ i. i == w) (elim o [ None ↦ None | Some k ↦ k.who ]) ≡ true → (a b : Bool) → list_all (of_mine op (is_under_who w)) (elim (a && passes (λ k. is_none k.who) o) [ true ↦ record r { kept = elim r.kept [ None ↦ None | Some k ↦ Some (record k { who = Some m.id }) ] } ∷ [] | false ↦ elim b [ true ↦ [] | false ↦ r ∷ [] ] ]) ≡ true
    by None j a b = absurd (let bad : false ≡ true = j in cc)
    by (Some k) j a b = ap (λ c. list_all (of_mine op (is_under_who w)) (elim c [ true ↦ asked None ∷ [] | false ↦ elim b [ true ↦ [] | false ↦ r ∷ [] ] ])) (known a k.who j) ∙ rest b
      where
        rest : (b : Bool) → list_all (of_mine op (is_under_who w)) (elim b [ true ↦ [] | false ↦ r ∷ [] ]) ≡ true
        rest true = refl
        rest false = stays

module _ (s : Settings) (u : ℕ) (o : Operation) (w : ℕ) where
  abbrev op : OpName
  op = o.name

  abbrev AskedRows : ConnectionState → Type 0
  AskedRows p = list_all (of_mine op (is_under_who w)) p.rows ≡ true

  -- how many letters such a list owes
  abbrev pub owes : List Entry → ℕ
  owes es = count_of (is_some (extended_under w es) || list_any (loses o) es)

  lost_owes : (e : Entry) (es : List Entry) → loses o e ≡ true → (is_some (extended_under w (e ∷ es)) || list_any (loses o) (e ∷ es)) ≡ true
  lost_owes e es h = or_right (is_some (extended_under w (e ∷ es))) _ (or_left (loses o e) _ h)

  lost_later : (e : Entry) (es : List Entry) → list_any (loses o) es ≡ true → (is_some (extended_under w (e ∷ es)) || list_any (loses o) (e ∷ es)) ≡ true
  lost_later e es h = or_right (is_some (extended_under w (e ∷ es))) _ (or_right (loses o e) _ h)

  -- what is owed later is owed
  some_later : (x y : Option (List ℕ)) → is_some y ≡ true → is_some (option_or x y) ≡ true
  some_later None y h = h
  some_later (Some r) y h = refl

  owed_later : (e : Entry) (es : List Entry) → owes es ≤ owes (e ∷ es)
  owed_later e es = counts_more (is_some (extended_under w es) || list_any (loses o) es) (is_some (extended_under w (e ∷ es)) || list_any (loses o) (e ∷ es)) (by (is_some (extended_under w es)) (list_any (loses o) es) refl refl)
    where
      by : (a b : Bool) → is_some (extended_under w es) ≡ a → list_any (loses o) es ≡ b → (a || b) ≡ true → (is_some (extended_under w (e ∷ es)) || list_any (loses o) (e ∷ es)) ≡ true
      by true b x y h = or_left (is_some (extended_under w (e ∷ es))) _ (some_later (option_and_then (extended_rest w) (got_message e.what)) (extended_under w es) x)
      by false true x y h = lost_later e es y
      by false false x y h = absurd (let bad : false ≡ true = h in cc)

  module _ (b : List Marked) (p : ConnectionState) (ms : List Marked) (part : PartName) (at : ℕ) (mark : Option Taken) where
    abbrev marked : What → Marked
    marked v = record { entry = record { part = part; at = at; what = v }; mark = mark }

    abbrev next : What → ConnectionState
    next v = step_connection s p (marked v)

    abbrev Goal : What → Type 0
    Goal v = gave s u op p (marked v ∷ ms) ≤ owes (entries (marked v ∷ ms))

    module _ (a : At s u (entries b) p) (rows : AskedRows p) where
      -- an entry that gives nothing
      later : (v : What) → given_at s u op p (marked v) ≡ 0 → gave s u op (next v) ms ≤ owes (entries ms) → Goal v
      later v none behind =
          let all : gave s u op p (marked v ∷ ms) ≡ given_at s u op p (marked v) + gave s u op (next v) ms = gave_both s u op p (marked v) ms in
          let more : owes (entries ms) ≤ owes (entries (marked v ∷ ms)) = owed_later (marked v).entry (entries ms) in
          omega (arith, all, none, behind, more)

      idle : (v : What) → Fine s u op b p (marked v ∷ ms) → got_message v ≡ None → passes (same_op op) (expired_op v) ≡ false → down_why v ≡ None → (AskedRows (next v) → gave s u op (next v) ms ≤ owes (entries ms)) → Goal v
      idle v h g x d behind =
          let apart = neither (is_sent op (marked v).entry) (is_missed op (marked v).entry) (not_true (is_forwarded op (marked v).entry) (left (not (is_forwarded op (marked v).entry)) _ h.unforwarded)) in
          later v (calm_silent s u op p at mark v g x apart.1 d) (behind (others_stay op (is_under_who w) (own_asked op w) s (marked v).entry mark p v (ap is_none g) (ap not apart.0) (marked_so s u op p (marked v) h.rights.0.marked) rows))

      expired : (q : OpName) → Fine s u op b p (marked (what.Expired q) ∷ ms) → (AskedRows (next (what.Expired q)) → gave s u op (next (what.Expired q)) ms ≤ owes (entries ms)) → Goal (what.Expired q)
      expired q h behind = by (same_op op q) refl
        where
          by : (c : Bool) → same_op op q ≡ c → Goal (what.Expired q)
          by true e = counts_one (gave s u op p (marked (what.Expired q) ∷ ms)) (is_some (extended_under w (entries (marked (what.Expired q) ∷ ms))) || list_any (loses o) (entries (marked (what.Expired q) ∷ ms))) (expired_given s u o q part at mark b p ms h e) (lost_owes (marked (what.Expired q)).entry (entries ms) (or_left (is_expired op (marked (what.Expired q)).entry) _ e))
          by false e = idle (what.Expired q) h refl e refl behind

      message : (id : ℕ) (rest : List ℕ) → Fine s u op b p (marked (what.Got id rest) ∷ ms) → is_bind p ≡ true → (AskedRows (next (what.Got id rest)) → gave s u op (next (what.Got id rest)) ms ≤ owes (entries ms)) → Goal (what.Got id rest)
      message id rest h bp behind = by (is_bad (message_facts p) (record { id = id; rest = rest })) refl
        where
          some_now : (x : Option (List ℕ)) → is_some x ≡ true → is_some (option_or x (extended_under w (entries ms))) ≡ true
          some_now None k = absurd (let bad : false ≡ true = k in cc)
          some_now (Some r) k = refl

          on : ((count op (got_letters s p at (record { id = id; rest = rest })) ≡ 0) × (list_all (of_mine op (is_under_who w)) (with_got at (record { id = id; rest = rest }) p).rows ≡ true)) ⊎ ((count op (got_letters s p at (record { id = id; rest = rest })) ≤ 1) × (list_all (of_mine op (λ r. false)) (with_got at (record { id = id; rest = rest }) p).rows ≡ true) × (is_some (extended_rest w (record { id = id; rest = rest })) ≡ true)) → Goal (what.Got id rest)
          on (inl x) = later (what.Got id rest) x.0 (behind x.1)
          on (inr x) =
              let all : gave s u op p (marked (what.Got id rest) ∷ ms) ≡ given_at s u op p (marked (what.Got id rest)) + gave s u op (next (what.Got id rest)) ms = gave_both s u op p (marked (what.Got id rest)) ms in
              let few : given_at s u op p (marked (what.Got id rest)) ≤ 1 = x.0 in
              let none : gave s u op (next (what.Got id rest)) ms ≡ 0 = nothing_given s u op (b ++ marked (what.Got id rest) ∷ []) (next (what.Got id rest)) ms (fine_behind s u op b p (marked (what.Got id rest)) ms h) (gone_mine op (next (what.Got id rest)).rows x.1) in
              counts_one (gave s u op p (marked (what.Got id rest) ∷ ms)) (is_some (extended_under w (entries (marked (what.Got id rest) ∷ ms))) || list_any (loses o) (entries (marked (what.Got id rest) ∷ ms))) (omega (arith, all, few, none)) (or_left (is_some (extended_under w (entries (marked (what.Got id rest) ∷ ms)))) _ (some_now (extended_rest w (record { id = id; rest = rest })) x.2))

          by : (c : Bool) → is_bad (message_facts p) (record { id = id; rest = rest }) ≡ c → Goal (what.Got id rest)
          by true e = counts_one (gave s u op p (marked (what.Got id rest) ∷ ms)) (is_some (extended_under w (entries (marked (what.Got id rest) ∷ ms))) || list_any (loses o) (entries (marked (what.Got id rest) ∷ ms))) (bad_given s u op part at mark b p ms id rest a h e) (lost_later (marked (what.Got id rest)).entry (entries ms) (first_lost s u o ms (bad_ends s u op b p (marked (what.Got id rest)) ms id rest a h.rights.0 refl e)))
          by false e = on (got_asked s op w p a.ids.apart at (record { id = id; rest = rest }) rows e (ap (passes (λ own. own.id == id)) (a.bare bp)) bp)

      entry_step : (v : What) → Fine s u op b p (marked v ∷ ms) → is_bind p ≡ true → (AskedRows (next v) → gave s u op (next v) ms ≤ owes (entries ms)) → Goal v
      entry_step (what.Got id rest) h bp behind = message id rest h bp behind
      entry_step (what.Expired q) h bp behind = expired q h behind
      entry_step (what.Down why) h bp behind = counts_one (gave s u op p (marked (what.Down why) ∷ ms)) (is_some (extended_under w (entries (marked (what.Down why) ∷ ms))) || list_any (loses o) (entries (marked (what.Down why) ∷ ms))) (down_given s u op part at mark b p ms why a h) (lost_owes (marked (what.Down why)).entry (entries ms) (or_right (is_expired op (marked (what.Down why)).entry) _ refl))
      entry_step v h bp behind = idle v h refl refl refl behind

  pub walk_asked : (b : List Marked) (p : ConnectionState) (ms : List Marked) → At s u (entries b) p → Fine s u op b p ms → is_bind p ≡ true → list_all (of_mine op (is_under_who w)) p.rows ≡ true → gave s u op p ms ≤ owes (entries ms)
  walk_asked b p [] a h bp rows = omega arith
  walk_asked b p (m ∷ ms) a h bp rows = entry_step b p ms m.entry.part m.entry.at m.mark a rows m.entry.what h bp (λ k. walk_asked (b ++ m ∷ []) (step_connection s p m) ms (next_at s u op b p m ms a h.rights.0) (fine_behind s u op b p m ms h) (bind_stays s u op p m bp) k)
