-- The end of a connection, as the state has it.
use Rattle.std.proofs.Common.{◌≡◌, ℕ, max, Bool, true, false, List, [], ◌∷◌, ◌++◌, map, Option, Some, None, refl, ap, ◌∙◌, sym}
use Rattle.std.specs.Prelude.{flat_map}
use Rattle.lload_names.specs.declared.names.ConnKind.{ConnKind}
use Rattle.lload_names.specs.declared.names.ConnKind.TheVariants.{Regular, Bind as BindKind}
use Rattle.lload_names.specs.declared.names.EndWhy.{EndWhy}
use Rattle.lload_names.specs.declared.names.OpName.{OpName}
use Rattle.lload_names.specs.declared.names.Posted.{Posted}
use Rattle.lload_names.specs.declared.names.PartName.TheVariants.{Desk, Up as Connection}
use Rattle.lload_names.specs.declared.names.Letter.TheVariants.{Ended, IsDown}
use Rattle.lload_names.specs.declared.names.Refusal.TheVariants.{C4}
use Rattle.lload_names.specs.declared.names.What.TheVariants as what
use Rattle.lload_names.specs.declared.inputs.Effects.{Effects}
use Rattle.lload_names.specs.Same.{is_kind}
use Rattle.id_table.specs.declared.row.Row.{Row}
use Rattle.part_spec.specs.Inputs.{to, failed, effects_of, where_so}
use Rattle.part_spec.specs.ConnectionState.{ConnectionState, OwnWait, is_there}
use Rattle.part_spec.specs.ConnectionTurn.{loss, down_letters, holder_ended, goes_down}
use Rattle.part_spec.specs.Turn.{connection_sever}
use Rattle.conn_core.specs.Conn.{Conn, state_of}
use Rattle.conn_core.specs.Kept.{up_row}
use Rattle.conn_core.specs.Closing.{lost_letters, holder_letters, closing_letters}

module _ (c : Conn) (own : Option OwnWait) (lost : Option OpName) (waiting : List ℕ) where
  losses-are : (h : Option OpName) (rows : List Row) → flat_map (loss (state_of c own h lost waiting)) (map up_row rows) ≡ lost_letters c.number c.kind rows
  losses-are h [] = refl
  losses-are h (r ∷ rs) = ap (λ l. l ++ flat_map (loss (state_of c own h lost waiting)) (map up_row rs)) (one c.kind) ∙ ap (λ l. lost_letters c.number c.kind (r ∷ []) ++ l) (losses-are h rs) ∙ whole c.kind
    where
      one : (k : ConnKind) → (failed r.op C4 ++ (let l : List Posted = elim (is_kind BindKind k) [ true ↦ [] | false ↦ to Desk (Ended r.op c.number None) ] in l)) ≡ lost_letters c.number k (r ∷ [])
      one Regular = refl
      one BindKind = refl

      whole : (k : ConnKind) → lost_letters c.number k (r ∷ []) ++ lost_letters c.number k rs ≡ lost_letters c.number k (r ∷ rs)
      whole Regular = refl
      whole BindKind = refl

  -- the letter of its holder's end
  pub holder-is : (h : Option OpName) → holder_ended (state_of c own h lost waiting) ≡ holder_letters c.number h
  holder-is None = refl
  holder-is (Some h) = refl

  -- the letters of its end
  pub closing-is : (h : Option OpName) → closing_letters c.number c.kind c.table.rows h ≡ down_letters (state_of c own h lost waiting)
  closing-is h =
      ap (λ l. l ++ (holder_letters c.number h ++ to Desk (IsDown c.number))) (sym (losses-are h c.table.rows))
      ∙ ap (λ l. flat_map (loss (state_of c own h lost waiting)) (map up_row c.table.rows) ++ (l ++ to Desk (IsDown c.number))) (sym (holder-is h))

-- what the end of its link gives
pub nothing-severed : (p : ConnectionState) (now : ℕ) (why : EndWhy) → is_there p ≡ false → connection_sever p now why ≡ record { entries = []; letters = [] }
nothing-severed p now why gone = ap (λ (b : Bool). effects_of (Connection p.number) (max p.moment now) (where_so b (goes_down p why))) gone

pub severed-is : (p : ConnectionState) (at now : ℕ) (why : EndWhy) → is_there p ≡ true → at ≡ max p.moment now → connection_sever p now why ≡ record { entries = record { part = Connection p.number; at = at; what = what.Down why } ∷ []; letters = down_letters p }
severed-is p at now why there is =
    ap (λ (b : Bool). effects_of (Connection p.number) (max p.moment now) (where_so b (goes_down p why))) there
    ∙ sym (ap (λ (t : ℕ). effects_of (Connection p.number) t (goes_down p why)) is)
