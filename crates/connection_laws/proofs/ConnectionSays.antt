-- What a connection's state says is what its list says, entry by entry, for every list: the moment, and whether it is
-- linked, up, retired and down. And what each entry leaves of the state.
use Rattle.std.proofs.Common.{◌≡◌, ℕ, suc, Bool, true, false, ◌||◌, List, [], ◌∷◌, ◌++◌, refl, ap, ◌∙◌, sym, arith}
use Rattle.std.specs.Prelude.{Option, Some, None, flat_map, max, nat_lt, if◌then◌else◌}
use Rattle.std.specs.List.{list_any}
use Rattle.std.proofs.lemmas.Bool.{ltb-true, lt-ltb}
use Rattle.std.proofs.lemmas.List.Folds.{list_any-append}
use Rattle.std.proofs.Math.Bool.{or-false}
use Rattle.lload_names.specs.declared.names.Entry.{Entry}
use Rattle.lload_names.specs.declared.names.What.{What}
use Rattle.lload_names.specs.declared.names.What.TheVariants as what
use Rattle.lload_spec.specs.Settings.{Settings}
use Rattle.lload_spec.specs.Entries.{is_linked, is_up, is_retired, is_down, down_why}
use Rattle.lload_spec.specs.Identifiers.{with_freed}
use Rattle.lload_spec.specs.Pauses.{waiting_behind}
use Rattle.part_spec.specs.Marked.{Marked, Taken}
use Rattle.part_spec.specs.ConnectionState.{ConnectionState, empty_connection, step_connection, connection_behind, is_under_own, freed_id}
use Rattle.part_laws.proofs.ListLaws.{last_push, or_true, last_moment}
use Rattle.lload_spec.specs.Lists.{passes}

-- What a state says of a list.
pub record UpSays (place : List Entry) (p : ConnectionState) : Type 0 where
  pub moment : p.moment ≡ last_moment place
  pub linked : p.linked ≡ list_any (λ e. is_linked e.what) place
  pub up : p.up ≡ list_any (λ e. is_up e.what) place
  pub retired : p.retired ≡ list_any (λ e. is_retired e.what) place
  pub down : p.down ≡ list_any is_down place

-- what an entry changes
pub linked_step : (s : Settings) (e : Entry) (mark : Option Taken) (p : ConnectionState) (w : What) → (connection_behind s e mark p w).linked ≡ (p.linked || is_linked w)
linked_step s e mark p what.Linked = sym (or_true p.linked)
linked_step s e mark p _ = sym (or-false p.linked)

up_step : (s : Settings) (e : Entry) (mark : Option Taken) (p : ConnectionState) (w : What) → (connection_behind s e mark p w).up ≡ (p.up || is_up w)
up_step s e mark p what.Up = sym (or_true p.up)
up_step s e mark p _ = sym (or-false p.up)

retired_step : (s : Settings) (e : Entry) (mark : Option Taken) (p : ConnectionState) (w : What) → (connection_behind s e mark p w).retired ≡ (p.retired || is_retired w)
retired_step s e mark p what.Retired = sym (or_true p.retired)
retired_step s e mark p _ = sym (or-false p.retired)

down_step : (s : Settings) (e : Entry) (mark : Option Taken) (p : ConnectionState) (w : What) → (connection_behind s e mark p w).down ≡ (p.down || passes (λ x. true) (down_why w))
down_step s e mark p (what.Down why) = sym (or_true p.down)
down_step s e mark p _ = sym (or-false p.down)

pub number_step : (s : Settings) (e : Entry) (mark : Option Taken) (p : ConnectionState) (w : What) → (connection_behind s e mark p w).number ≡ p.number
number_step s e mark p what.Linked = refl
number_step s e mark p _ = refl

pub kind_step : (s : Settings) (e : Entry) (mark : Option Taken) (p : ConnectionState) (w : What) → (connection_behind s e mark p w).kind ≡ p.kind
kind_step s e mark p what.Linked = refl
kind_step s e mark p _ = refl

pub waiting_step : (s : Settings) (e : Entry) (mark : Option Taken) (p : ConnectionState) (w : What) → (connection_behind s e mark p w).waiting ≡ waiting_behind p.waiting w
waiting_step s e mark p what.Linked = refl
waiting_step s e mark p _ = refl

-- what is below the next identifier stays so
lt_max : (i n k : ℕ) → nat_lt i n ≡ true → nat_lt i (max n k) ≡ true
lt_max i n k h = lt-ltb i (max n k) (let below = ltb-true i n h in omega (arith, below))

-- the next identifier behind a message
pub got_next : (p : ConnectionState) (b : Bool) (ids : List ℕ) → (if b then p.ids else with_freed ids p.ids).next ≡ p.ids.next
got_next p true ids = refl
got_next p false ids = refl

pub below_step : (s : Settings) (e : Entry) (mark : Option Taken) (p : ConnectionState) (w : What) (i : ℕ) → nat_lt i p.ids.next ≡ true → nat_lt i (connection_behind s e mark p w).ids.next ≡ true
below_step s e mark p (what.Sent id op rest) i h = lt_max i p.ids.next (suc id) h
below_step s e mark p (what.Own id rest) i h = lt_max i p.ids.next (suc id) h
below_step s e mark p (what.Got id rest) i h = ap (nat_lt i) (got_next p (is_under_own p id) (flat_map (freed_id e.at (record { id = id; rest = rest })) p.rows)) ∙ h
below_step s e mark p _ i h = h

-- a test of some entry, with one more
some_push : (t : Entry → Bool) (place : List Entry) (e : Entry) (b : Bool) → b ≡ list_any t place → (b || t e) ≡ list_any t (place ++ e ∷ [])
some_push t place e b h = ap (λ x. x || t e) h ∙ ap (λ x. list_any t place || x) (sym (or-false (t e))) ∙ sym (list_any-append t place (e ∷ []))

pub up_says_nothing : (s : Settings) (u : ℕ) → UpSays [] (empty_connection s u)
up_says_nothing s u = record { moment = refl; linked = refl; up = refl; retired = refl; down = refl }

pub up_says_more : (s : Settings) (place : List Entry) (p : ConnectionState) (m : Marked) → UpSays place p → UpSays (place ++ m.entry ∷ []) (step_connection s p m)
up_says_more s place p m h =
    record {
      moment = ap (λ o. elim o [ None ↦ 0 | Some e ↦ e.at ]) (sym (last_push place m.entry));
      linked = linked_step s m.entry m.mark p m.entry.what ∙ some_push (λ e. is_linked e.what) place m.entry p.linked h.linked;
      up = up_step s m.entry m.mark p m.entry.what ∙ some_push (λ e. is_up e.what) place m.entry p.up h.up;
      retired = retired_step s m.entry m.mark p m.entry.what ∙ some_push (λ e. is_retired e.what) place m.entry p.retired h.retired;
      down = down_step s m.entry m.mark p m.entry.what ∙ some_push is_down place m.entry p.down h.down;
    }
