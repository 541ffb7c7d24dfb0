-- The entries of a turn are its part's, and stand in its list alone.
use Rattle.std.proofs.Common.{◌≡◌, ℕ, Bool, true, false, List, [], ◌∷◌, ◌++◌, refl, ap, ◌∙◌, sym, subst}
use Rattle.std.specs.Prelude.{Option, Some, None, cond, filter, map, max}
use Rattle.std.proofs.lemmas.Bool.{eqb-true}
use Rattle.std.proofs.lemmas.List.Elements.{filter-append}
use Rattle.lload_names.specs.declared.inputs.Effects.{Effects}
use Rattle.lload_names.specs.declared.names.Entry.{Entry}
use Rattle.lload_names.specs.declared.names.PartName.{PartName}
use Rattle.lload_names.specs.declared.names.PartName.TheVariants.{Desk, Client, Up as Connection}
use Rattle.lload_names.specs.declared.names.What.{What}
use Rattle.lload_names.specs.declared.names.What.TheVariants as what
use Rattle.lload_spec.specs.Settings.{Settings, place_at}
use Rattle.lload_spec.specs.Journal.{same_part}
use Rattle.part_spec.specs.Inputs.{Act, act, nothing, effects_of, entries_of, marked_by, moment_for, where_so}
use Rattle.part_spec.specs.ClientState.{ClientState, is_present}
use Rattle.part_spec.specs.ClientTurn.{client_act, closing}
use Rattle.part_spec.specs.ConnectionState.{ConnectionState, is_there}
use Rattle.part_spec.specs.ConnectionTurn.{goes_down}
use Rattle.part_spec.specs.DeskTurn.{desk_act}
use Rattle.part_spec.specs.Turn.{connection_act}
use Rattle.part_spec.specs.Marked.{Marked, Taken}
use Rattle.part_spec.specs.Merge.{Intake, Takes, Severed}
use Rattle.part_spec.specs.World.{World, behind, flights, turn_made, client_in, connection_in, list_in}
use Rattle.lload_laws.proofs.ListLaws.{filter-map}
use Rattle.link_laws.specs.Laws.{EntriesLaw}
use Rattle.link_laws.specs.Moves.{effects_in}
use Rattle.link_laws.proofs.Numbers.{client_here, connection_here}

-- Names of parts.

pub same_part_is : (p q : PartName) → same_part p q ≡ true → p ≡ q
same_part_is Desk Desk e = refl
same_part_is (Client a) (Client b) e = ap Client (eqb-true a b e)
same_part_is (Connection a) (Connection b) e = ap Connection (eqb-true a b e)
same_part_is Desk (Client b) e = absurd (cc)
same_part_is Desk (Connection b) e = absurd (cc)
same_part_is (Client a) Desk e = absurd (cc)
same_part_is (Client a) (Connection b) e = absurd (cc)
same_part_is (Connection a) Desk e = absurd (cc)
same_part_is (Connection a) (Client b) e = absurd (cc)

-- The entries of one part.

module _ (q p : PartName) (at : ℕ) where
  plain_own : (b : Bool) → same_part q p ≡ b → (ws : List What) → filter (λ (m : Marked). same_part q m.entry.part) (map (λ e. record { entry = e; mark = None }) (entries_of p at ws)) ≡ cond b (map (λ e. record { entry = e; mark = None }) (entries_of p at ws)) []
  plain_own true e [] = refl
  plain_own false e [] = refl
  plain_own true e (w ∷ ws) =
      let first : Marked = record { entry = record { part = p; at = at; what = w }; mark = None } in
      let rest : List Marked = filter (λ (m : Marked). same_part q m.entry.part) (map (λ x. record { entry = x; mark = None }) (entries_of p at ws)) in
      ap (λ t. cond t (first ∷ rest) rest) e ∙ ap (λ l. first ∷ l) (plain_own true e ws)
  plain_own false e (w ∷ ws) =
      let first : Marked = record { entry = record { part = p; at = at; what = w }; mark = None } in
      let rest : List Marked = filter (λ (m : Marked). same_part q m.entry.part) (map (λ x. record { entry = x; mark = None }) (entries_of p at ws)) in
      ap (λ t. cond t (first ∷ rest) rest) e ∙ plain_own false e ws

  marked_own : (mark : Option Taken) (b : Bool) → same_part q p ≡ b → (ws : List What) → filter (λ (m : Marked). same_part q m.entry.part) (marked_by mark (entries_of p at ws)) ≡ cond b (marked_by mark (entries_of p at ws)) []
  marked_own mark true e [] = refl
  marked_own mark false e [] = refl
  marked_own mark true e (w ∷ ws) =
      let first : Marked = record { entry = record { part = p; at = at; what = w }; mark = mark } in
      let rest : List Marked = filter (λ (m : Marked). same_part q m.entry.part) (map (λ x. record { entry = x; mark = None }) (entries_of p at ws)) in
      ap (λ t. cond t (first ∷ rest) rest) e ∙ ap (λ l. first ∷ l) (plain_own true e ws)
  marked_own mark false e (w ∷ ws) =
      let first : Marked = record { entry = record { part = p; at = at; what = w }; mark = mark } in
      let rest : List Marked = filter (λ (m : Marked). same_part q m.entry.part) (map (λ x. record { entry = x; mark = None }) (entries_of p at ws)) in
      ap (λ t. cond t (first ∷ rest) rest) e ∙ plain_own false e ws

-- entries of this part, made at one moment
pub record AreOf (p : PartName) (es : List Entry) : Type 0 where
  pub at : ℕ
  pub whats : List What
  pub same : es ≡ entries_of p at whats

-- those of a part by its number
owned : (part : ℕ → PartName) (n m at : ℕ) (a : Act) → n ≡ m → AreOf (part m) (effects_of (part n) at a).entries
owned part n m at a e = record { at = at; whats = a.whats; same = ap (λ k. entries_of (part k) at a.whats) e }

pub effects_own : (s : Settings) (w : World) (p : PartName) (x : Intake) → AreOf p (effects_in s w p x).entries
effects_own s w Desk (Takes i) = record { at = moment_for w.desk.moment i; whats = (desk_act s w.desk i).whats; same = refl }
effects_own s w Desk (Severed now why) = record { at = 0; whats = []; same = refl }
effects_own s w (Client c) (Takes i) =
    let p : ClientState = client_in w c in
    owned Client p.number c (moment_for p.moment i) (client_act s p (moment_for p.moment i) i) (client_here w c)
effects_own s w (Client c) (Severed now why) =
    let p : ClientState = client_in w c in
    owned Client p.number c (max p.moment now) (where_so (is_present p) (act (what.Gone why ∷ []) (closing p))) (client_here w c)
effects_own s w (Connection u) (Takes i) =
    let p : ConnectionState = connection_in s w u in
    owned Connection p.number u (moment_for p.moment i) (elim (place_at s p.number) [ None ↦ nothing | Some place ↦ connection_act s p (moment_for p.moment i) i ]) (connection_here s w u)
effects_own s w (Connection u) (Severed now why) =
    let p : ConnectionState = connection_in s w u in
    owned Connection p.number u (max p.moment now) (where_so (is_there p) (goes_down p why)) (connection_here s w u)

-- What a turn changes.

pub journal_behind : (s : Settings) (p : PartName) (mark : Option Taken) (e : Effects) (w : World) → (behind s p mark e w).journal ≡ w.journal ++ marked_by mark e.entries
journal_behind s Desk mark e w = refl
journal_behind s (Client c) mark e w = refl
journal_behind s (Connection u) mark e w = refl

pub letters_behind : (s : Settings) (p : PartName) (mark : Option Taken) (e : Effects) (w : World) → (behind s p mark e w).letters ≡ w.letters ++ flights p e.letters
letters_behind s Desk mark e w = refl
letters_behind s (Client c) mark e w = refl
letters_behind s (Connection u) mark e w = refl

pub given_behind : (s : Settings) (p : PartName) (mark : Option Taken) (e : Effects) (w : World) → (behind s p mark e w).given ≡ w.given ++ flights p e.letters
given_behind s Desk mark e w = refl
given_behind s (Client c) mark e w = refl
given_behind s (Connection u) mark e w = refl

pub turns_behind : (s : Settings) (p : PartName) (mark : Option Taken) (e : Effects) (w : World) → (behind s p mark e w).turns ≡ w.turns ++ turn_made p mark e w ∷ []
turns_behind s Desk mark e w = refl
turns_behind s (Client c) mark e w = refl
turns_behind s (Connection u) mark e w = refl

-- the list of each part behind it
pub list_behind : (s : Settings) (p : PartName) (mark : Option Taken) (e : Effects) (w : World) (q : PartName) → AreOf p e.entries → list_in (behind s p mark e w) q ≡ list_in w q ++ cond (same_part q p) (marked_by mark e.entries) []
list_behind s p mark e w q own =
    let new : filter (λ (m : Marked). same_part q m.entry.part) (marked_by mark e.entries) ≡ cond (same_part q p) (marked_by mark e.entries) [] = subst (λ es. filter (λ (m : Marked). same_part q m.entry.part) (marked_by mark es) ≡ cond (same_part q p) (marked_by mark es) []) (sym own.same) (marked_own q p own.at mark (same_part q p) refl own.whats) in
    ap (filter (λ (m : Marked). same_part q m.entry.part)) (journal_behind s p mark e w) ∙ filter-append (λ (m : Marked). same_part q m.entry.part) w.journal (marked_by mark e.entries) ∙ ap (λ l. list_in w q ++ l) new

-- its entries are those of the part in the journal
pub entries_in : EntriesLaw
entries_in w Desk = sym (filter-map (λ (e : Entry). same_part Desk e.part) (λ (m : Marked). m.entry) w.journal)
entries_in w (Client c) = sym (filter-map (λ (e : Entry). same_part (Client c) e.part) (λ (m : Marked). m.entry) w.journal)
entries_in w (Connection u) = sym (filter-map (λ (e : Entry). same_part (Connection u) e.part) (λ (m : Marked). m.entry) w.journal)
