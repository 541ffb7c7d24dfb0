-- What stays through a turn of a connection of either kind, and the end where nothing is left to do.
use Rattle.std.proofs.Common.{◌≡◌, ℕ, Bool, true, false, ◌==◌, ◌&&◌, not, List, [], ◌∷◌, ◌++◌, length, refl, ap, ◌∙◌, sym, subst, arith}
use Rattle.std.specs.Prelude.{Option, None, map, nat_le}
use Rattle.std.specs.List.{list_any}
use Rattle.std.proofs.lemmas.List.{map-append}
use Rattle.std.proofs.lemmas.Bool.Decides.{nat_tests}
use Rattle.lload_names.specs.declared.names.Entry.{Entry}
use Rattle.lload_names.specs.declared.names.EndWhy.TheVariants.{Drained}
use Rattle.lload_names.specs.declared.names.PartName.TheVariants.{Desk, Up as Connection}
use Rattle.lload_names.specs.declared.names.Posted.{Posted}
use Rattle.lload_names.specs.declared.names.Letter.TheVariants.{IsDown}
use Rattle.lload_names.specs.declared.names.What.{What}
use Rattle.lload_names.specs.declared.names.What.TheVariants as what
use Rattle.lload_spec.specs.Lists.{implies}
use Rattle.lload_spec.specs.Settings.{Settings}
use Rattle.lload_spec.specs.Entries.{is_retired}
use Rattle.lload_spec.specs.Strict.{is_empty, may_follow_down}
use Rattle.part_spec.specs.Marked.{Marked, Taken, entries}
use Rattle.part_spec.specs.Inputs.{Act, act, also, entries_of, to}
use Rattle.part_spec.specs.ConnectionState.{ConnectionState, step_connection, step_connections, connection_behind, UpRow}
use Rattle.part_spec.specs.ConnectionTurn.{is_drained, with_drained, behind_act}
use Rattle.part_spec.specs.Fit.{ConnectionLedger, step_connection_ledger, ledger_behind as behind}
use Rattle.lload_spec.proofs.Growth.{left, right}
use Rattle.part_laws.proofs.ListLaws.{not_true, le_same}
use Rattle.connection_laws.proofs.ConnectionSays.{number_step, kind_step}
use Rattle.connection_laws.proofs.Permits.{Chain, UpStands, stands_through, state_through}
use Rattle.connection_laws.proofs.Pieces.{up_entry, marked_up, chain_append, permit_down}
use Rattle.connection_laws.proofs.Makes.{Makes, turn_of}

-- What stays through a turn.

pub later_through : (s : Settings) (u at : ℕ) (mark : Option Taken) (w : What) (ws : List What) (l : ConnectionLedger) → (behind (step_connection_ledger s) l (turn_of u at mark (w ∷ ws))).state.moment ≡ at
later_through s u at mark w ws l = rest ws (step_connection_ledger s l (marked_up u at mark w)) refl
  where
    rest : (vs : List What) (k : ConnectionLedger) → k.state.moment ≡ at → (behind (step_connection_ledger s) k (map (λ x. record { entry = x; mark = None }) (entries_of (Connection u) at vs))).state.moment ≡ at
    rest [] k h = h
    rest (v ∷ vs) k h = rest vs (step_connection_ledger s k (marked_up u at None v)) refl

pub number_through : (s : Settings) (ms : List Marked) (l : ConnectionLedger) → (behind (step_connection_ledger s) l ms).state.number ≡ l.state.number
number_through s [] l = refl
number_through s (m ∷ ms) l = number_through s ms (step_connection_ledger s l m) ∙ number_step s m.entry m.mark l.state m.entry.what

pub kind_through : (s : Settings) (ms : List Marked) (l : ConnectionLedger) → (behind (step_connection_ledger s) l ms).state.kind ≡ l.state.kind
kind_through s [] l = refl
kind_through s (m ∷ ms) l = kind_through s ms (step_connection_ledger s l m) ∙ kind_step s m.entry m.mark l.state m.entry.what

-- behind its end a connection has no row
gone_step : (s : Settings) (e : Entry) (mark : Option Taken) (p : ConnectionState) (w : What) → implies p.down (may_follow_down w) ≡ true → (p.down ≡ true → p.rows ≡ []) → (connection_behind s e mark p w).down ≡ true → (connection_behind s e mark p w).rows ≡ []
gone_step s e mark p (what.Down why) a h k = refl
gone_step s e mark p (what.Missed op) a h k = h k
gone_step s e mark p (what.Idle op) a h k = h k
gone_step s e mark p (what.Sent id op rest) a h k = absurd (let bad : true ≡ false = sym a ∙ ap (λ b. implies b false) k in cc)
gone_step s e mark p (what.Own id rest) a h k = absurd (let bad : true ≡ false = sym a ∙ ap (λ b. implies b false) k in cc)
gone_step s e mark p (what.Got id rest) a h k = absurd (let bad : true ≡ false = sym a ∙ ap (λ b. implies b false) k in cc)
gone_step s e mark p (what.Expired op) a h k = absurd (let bad : true ≡ false = sym a ∙ ap (λ b. implies b false) k in cc)
gone_step s e mark p what.Linked a h k = h k
gone_step s e mark p _ a h k = h k

pub gone_through : (s : Settings) (ms : List Marked) (before : List Marked) (l : ConnectionLedger) → Chain s before l ms → (l.state.down ≡ true → l.state.rows ≡ []) → (behind (step_connection_ledger s) l ms).state.down ≡ true → (behind (step_connection_ledger s) l ms).state.rows ≡ []
gone_through s [] before l k h = h
gone_through s (m ∷ ms) before l k h = gone_through s ms (before ++ m ∷ []) (step_connection_ledger s l m) k.1 (gone_step s m.entry m.mark l.state m.entry.what k.0.alive h)

-- Where a turn leaves nothing to do, the connection goes down.
abbrev drained_act : Bool → ℕ → Act → Act
drained_act b number a = elim b [ true ↦ also a (act (what.Down Drained ∷ []) (to Desk (IsDown number))) | false ↦ a ]

pub drained_linked : (s : Settings) (u : ℕ) (before : List Marked) (l : ConnectionLedger) → UpStands s u before l → is_drained l.state ≡ true → l.state.linked ≡ true
drained_linked s u before l h d = by (entries before) l.state.linked h.begins (sym h.says.retired ∙ left l.state.retired _ (left (l.state.retired && not l.state.down) _ (left (l.state.retired && not l.state.down && length l.state.rows == 0) _ d)))
  where
    by : (es : List Entry) (b : Bool) → is_empty es ≡ not b → list_any (λ e. is_retired e.what) es ≡ true → b ≡ true
    by [] b j k = absurd (let bad : false ≡ true = k in cc)
    by (e ∷ es) true j k = refl
    by (e ∷ es) false j k = absurd (let bad : false ≡ true = j in cc)

drained_there : (p : ConnectionState) → is_drained p ≡ true → p.down ≡ false
drained_there p d = not_true p.down (right p.retired (not p.down) (left (p.retired && not p.down) _ (left (p.retired && not p.down && length p.rows == 0) _ d)))

pub no_rows : (rows : List UpRow) → (length rows == 0) ≡ true → rows ≡ []
no_rows [] e = refl
no_rows (r ∷ rows) e = absurd (grind (arith, nat_tests, e))

pub steps_are : (s : Settings) (p : ConnectionState) (ms : List Marked) → step_connections s p ms ≡ behind (step_connection s) p ms
steps_are s p [] = refl
steps_are s p (m ∷ ms) = steps_are s (step_connection s p m) ms

pub turn_more : (u at : ℕ) (mark : Option Taken) (w : What) (ws vs : List What) → turn_of u at mark (w ∷ (ws ++ vs)) ≡ turn_of u at mark (w ∷ ws) ++ map (λ x. record { entry = x; mark = None }) (entries_of (Connection u) at vs)
turn_more u at mark w ws vs = ap (λ ms. marked_up u at mark w ∷ ms) (ap (map (λ x. record { entry = x; mark = None })) (map-append (λ v. up_entry u at v) ws vs) ∙ map-append (λ x. record { entry = x; mark = None }) (entries_of (Connection u) at ws) (entries_of (Connection u) at vs))

module _ (s : Settings) (u : ℕ) (before : List Marked) (l : ConnectionLedger) (at : ℕ) (later : nat_le l.state.moment at ≡ true) (h : UpStands s u before l) (mark : Option Taken) where
  -- a rule that makes something, and then the end where nothing is left to do
  drained_some : (w : What) (ws : List What) (letters : List Posted) (b : Bool) → is_drained (behind_act s at mark l.state (act (w ∷ ws) letters)) ≡ b → Makes s before l at mark (w ∷ ws) → Makes s before l at mark (drained_act b l.state.number (act (w ∷ ws) letters)).whats
  drained_some w ws letters false e k = k
  drained_some w ws letters true e k = (subst (Chain s before l) (sym (turn_more l.state.number at mark w ws (what.Down Drained ∷ []))) (chain_append s (turn_of l.state.number at mark (w ∷ ws)) (marked_up l.state.number at None (what.Down Drained) ∷ []) before l (refl, refl, refl) k.0 (permit_down s l.state.number (before ++ turn_of l.state.number at mark (w ∷ ws)) led at (ap (λ n. nat_le n at) (later_through s l.state.number at mark w ws l) ∙ le_same at) (drained_linked s u (before ++ turn_of l.state.number at mark (w ∷ ws)) led (stands_through s u (turn_of l.state.number at mark (w ∷ ws)) before l h k.0) drained) Drained refl (drained_there led.state drained) drained, tt)), k.1)
    where
      led : ConnectionLedger
      led = behind (step_connection_ledger s) l (turn_of l.state.number at mark (w ∷ ws))

      drained : is_drained (behind (step_connection_ledger s) l (turn_of l.state.number at mark (w ∷ ws))).state ≡ true
      drained = ap is_drained (state_through s (turn_of l.state.number at mark (w ∷ ws)) l ∙ sym (steps_are s l.state (turn_of l.state.number at mark (w ∷ ws)))) ∙ e

  drained_none : (letters : List Posted) (b : Bool) → is_drained l.state ≡ b → (is_drained l.state ≡ true → mark ≡ None) → Makes s before l at mark (drained_act b l.state.number (act [] letters)).whats
  drained_none letters false e n = (tt, (refl, refl, refl))
  drained_none letters true e n = subst (λ k. Makes s before l at k (what.Down Drained ∷ [])) (sym (n e)) ((permit_down s l.state.number before l at later (drained_linked s u before l h e) Drained refl (drained_there l.state e) e, tt), (refl, refl, refl))

  -- what a rule makes, and the end where nothing is left to do
  pub makes_drained : (a : Act) → (a.whats ≡ [] → is_drained l.state ≡ true → mark ≡ None) → Makes s before l at mark a.whats → Makes s before l at mark (with_drained s at mark l.state a).whats
  makes_drained a n k = by a.whats a.letters n k
    where
      by : (ws : List What) (letters : List Posted) → (ws ≡ [] → is_drained l.state ≡ true → mark ≡ None) → Makes s before l at mark ws → Makes s before l at mark (with_drained s at mark l.state (act ws letters)).whats
      by [] letters q j = drained_none letters (is_drained l.state) refl (q refl)
      by (w ∷ ws) letters q j = drained_some w ws letters (is_drained (behind_act s at mark l.state (act (w ∷ ws) letters))) refl j
