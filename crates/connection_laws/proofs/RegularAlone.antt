-- While the own Bind waits, a regular connection isn't up and no operation is live on it.
use Rattle.std.proofs.Common.{◌≡◌, ℕ, ◌⊎◌, inl, inr, Bool, true, false, ◌||◌, not, List, [], ◌∷◌, ◌++◌, flat_map, refl, ap, ◌∙◌, sym}
use Rattle.std.specs.Prelude.{Option, Some, None, filter, is_none, if◌then◌else◌}
use Rattle.std.specs.List.{list_all, list_any}
use Rattle.lload_names.specs.declared.names.Entry.{Entry}
use Rattle.lload_names.specs.declared.names.OpName.{OpName}
use Rattle.lload_names.specs.declared.names.PartName.{PartName}
use Rattle.lload_names.specs.declared.names.What.{What}
use Rattle.lload_names.specs.declared.names.What.TheVariants as what
use Rattle.lload_spec.specs.Settings.{Settings}
use Rattle.lload_spec.specs.Journal.{same_op}
use Rattle.lload_spec.specs.Entries.{is_linked, is_up}
use Rattle.part_spec.specs.Marked.{Marked, Taken, entries}
use Rattle.part_spec.specs.ConnectionState.{ConnectionState, UpRow, OwnWait, step_connection, is_first_bind, is_under_own, behind_message, behind_own}
use Rattle.part_spec.specs.Fit.{ConnectionLedger, step_connection_ledger, ledger_behind as behind}
use Rattle.lload_spec.proofs.Growth.{left, right}
use Rattle.connection_laws.proofs.OwnBinds.{is_single, is_second_bind}
use Rattle.connection_laws.proofs.Permits.{Permit, Chain, UpStands, up_stands_more, push_entry}
use Rattle.connection_laws.proofs.Rows.{is_sound, is_sent_as, sent_here, sent_as, marks_no_bind, rows_more}

abbrev pub Alone : ConnectionState → Type 0
Alone p = (p.own_bind ≡ None) ⊎ ((p.up ≡ false) × (p.rows ≡ []))

none_is : (o : Option OwnWait) → is_none o ≡ true → o ≡ None
none_is None h = refl
none_is (Some w) h = absurd (let bad : false ≡ true = h in cc)

-- nothing was sent, and nothing is up, behind Linked alone
no_sent : (id : ℕ) (op : OpName) (w : What) → is_linked w ≡ true → (x : Entry) → x.what ≡ w → sent_here id op x ≡ false
no_sent id op what.Linked h x e = ap (λ v. sent_here id op (record x { what = v })) e
no_sent id op _ h x e = absurd (let bad : false ≡ true = h in cc)

no_up : (w : What) → is_linked w ≡ true → is_up w ≡ false
no_up what.Linked h = refl
no_up _ h = absurd (let bad : false ≡ true = h in cc)

only_linked : (u : ℕ) (place : List Entry) (rows : List UpRow) → is_single place ≡ true → ((e : Entry) (es : List Entry) → place ≡ e ∷ es → is_linked e.what ≡ true) → list_all (is_sound u place) rows ≡ true → (list_any (λ e. is_up e.what) place ≡ false) × (rows ≡ [])
only_linked u [] rows a f h = absurd (let bad : false ≡ true = a in cc)
only_linked u (x ∷ []) [] a f h = (ap (λ b. b || false) (no_up x.what (f x [] refl)), refl)
only_linked u (x ∷ []) (r ∷ rows) a f h = absurd (let sent : is_sent_as u (x ∷ []) r.id r.op ≡ true = right _ _ (left (is_sound u (x ∷ []) r) _ h) in let here : (sent_here r.id r.op x || false) ≡ true = sym (sent_as u (x ∷ []) r.id r.op) ∙ sent in let bad : false ≡ true = sym (ap (λ b. b || false) (no_sent r.id r.op x.what (f x [] refl) x refl)) ∙ here in cc)
only_linked u (x ∷ y ∷ place) rows a f h = absurd (let bad : false ≡ true = a in cc)

module _ (s : Settings) (u : ℕ) (before : List Marked) (l : ConnectionLedger) (h : UpStands s u before l) (sound : list_all (is_sound u (entries before)) l.state.rows ≡ true) where
  p : ConnectionState
  p = l.state

  abbrev marked : PartName → ℕ → Option Taken → What → Marked
  marked part at mark w = record { entry = record { part = part; at = at; what = w }; mark = mark }

  alone_step : (part : PartName) (at : ℕ) (mark : Option Taken) (w : What) (ms : List Marked) → Permit s before l (marked part at mark w) ms → Alone l.state → Alone (step_connection s l.state (marked part at mark w))
  alone_step part at mark (what.Sent id op rest) ms k (inl o) = inl o
  alone_step part at mark (what.Sent id op rest) ms k (inr a) = absurd (let bad : false ≡ true = sym a.0 ∙ k.up in cc)
  alone_step part at mark (what.Own id rest) ms k a = by (is_first_bind s l.state (record { part = part; at = at; what = what.Own id rest })) refl a
    where
      by : (b : Bool) → is_first_bind s l.state (record { part = part; at = at; what = what.Own id rest }) ≡ b → Alone l.state → ((if b then Some (record { id = id; at = at }) else l.state.own_bind) ≡ None) ⊎ ((l.state.up ≡ false) × (flat_map (behind_own (record { id = id; rest = rest })) l.state.rows ≡ []))
      by true e c =
          let second : is_second_bind s l.state.number (entries before) (record { part = part; at = at; what = what.Own id rest }) ≡ true = sym k.first ∙ e in
          let only = only_linked u (entries before) l.state.rows (right _ _ (left _ _ second)) h.head sound in
          inr (h.says.up ∙ only.0, ap (flat_map (behind_own (record { id = id; rest = rest }))) only.1)
      by false e (inl o) = inl o
      by false e (inr c) = inr (c.0, ap (flat_map (behind_own (record { id = id; rest = rest }))) c.1)
  alone_step part at mark (what.Got id rest) ms k a = by (is_under_own l.state id) a
    where
      by : (b : Bool) → Alone l.state → ((if b then None else l.state.own_bind) ≡ None) ⊎ ((l.state.up ≡ false) × ((if b then l.state.rows else flat_map (behind_message at (record { id = id; rest = rest })) l.state.rows) ≡ []))
      by true c = inl refl
      by false (inl o) = inl o
      by false (inr c) = inr (c.0, ap (flat_map (behind_message at (record { id = id; rest = rest }))) c.1)
  alone_step part at mark what.Up ms k a = inl (none_is l.state.own_bind k.waits)
  alone_step part at mark (what.Expired op) ms k (inl o) = inl o
  alone_step part at mark (what.Expired op) ms k (inr a) = inr (a.0, ap (filter (λ r. not (same_op op r.op))) a.1)
  alone_step part at mark (what.Down why) ms k (inl o) = inl o
  alone_step part at mark (what.Down why) ms k (inr a) = inr (a.0, refl)
  alone_step part at mark _ ms k a = a

-- through a turn
pub alone_through : (s : Settings) (u : ℕ) (ms : List Marked) (before : List Marked) (l : ConnectionLedger) → UpStands s u before l → Chain s before l ms → list_all (λ m. marks_no_bind m.mark) ms ≡ true → list_all (is_sound u (entries before)) l.state.rows ≡ true → Alone l.state → Alone (behind (step_connection_ledger s) l ms).state
alone_through s u [] before l h k n sound a = a
alone_through s u (m ∷ ms) before l h k n sound a = alone_through s u ms (before ++ m ∷ []) (step_connection_ledger s l m) (up_stands_more s u before l m ms h k.0) k.1 (right (marks_no_bind m.mark) _ n) (ap (λ place. list_all (is_sound u place) (step_connection s l.state m).rows) (push_entry before m) ∙ rows_more s u (entries before) m.entry.part m.entry.at m.mark l.state m.entry.what k.0.fitting (left (marks_no_bind m.mark) _ n) sound) (alone_step s u before l h sound m.entry.part m.entry.at m.mark m.entry.what ms k.0 a)
