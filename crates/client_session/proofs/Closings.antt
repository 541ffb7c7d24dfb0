-- The letters at an end, and the regular connections, are the same of the state and of the part.
use Rattle.std.proofs.Common.{◌≡◌, ◌≤◌, ◌+◌, ℕ, Bool, true, false, cond, List, [], ◌∷◌, ◌++◌, length, map, Option, Some, None, arith, refl, ap, subst, sym, ◌∙◌}
use Rattle.std.specs.Prelude.{flat_map}
use Rattle.std.specs.Option.{option_map}
use Rattle.lload_names.specs.Same.{same_kind}
use Rattle.lload_names.specs.declared.names.OpKind.TheVariants.{Bind}
use Rattle.lload_names.specs.declared.names.Posted.{Posted}
use Rattle.lload_names.specs.declared.names.Letter.TheVariants.{Drop, Leave}
use Rattle.lload_names.specs.declared.names.PartName.TheVariants.{Up as Connection}
use Rattle.lload_spec.specs.Lists.{passes}
use Rattle.lload_spec.specs.Pauses.{resume_letters}
use Rattle.lload_spec.specs.Settings.{Settings}
use Rattle.part_spec.specs.Inputs.{to}
use Rattle.part_spec.specs.ClientState.{ClientRow, ClientState, is_bind_row, regular_connections, Held as HeldBy}
use Rattle.part_spec.specs.ClientTurn as turn
use Rattle.client_rows.specs.Rows.{went_to, is_bind}
use Rattle.client_rows.specs.declared.row.Row.{Row}
use Rattle.client_session.specs.Closing.{drop_of, drops, leave, endings, closing}
use Rattle.client_session.specs.Flow.{connection_of, connections}
use Rattle.client_session.specs.declared.part.Held.{Held}
use Rattle.client_session.specs.declared.part.ClientPart.{ClientPart}
use Rattle.client_session.specs.Stands.{Seen, seen, shown, held, way_of, Stands}

flat-same : {A B : Type 0} (f g : A → List B) (xs : List A) → ((x : A) → f x ≡ g x) → flat_map f xs ≡ flat_map g xs
flat-same f g [] e = refl
flat-same f g (x ∷ xs) e = rw (e x, flat-same f g xs e) refl

flat-map : {A B C : Type 0} (f : A → C) (g : C → List B) (xs : List A) → flat_map (λ x. g (f x)) xs ≡ flat_map g (map f xs)
flat-map f g [] = refl
flat-map f g (x ∷ xs) = ap (λ l. g (f x) ++ l) (flat-map f g xs)

went : (rest : List ℕ) (o : Option ℕ) → went_to (way_of rest o) ≡ o
went rest None = refl
went rest (Some u) = refl

abbrev drop_seen : ℕ → Seen → List Posted
drop_seen n v =
    elim (passes (same_kind Bind) v.kind) [
      | true ↦ []
      | false ↦ elim (went_to v.way) [ None ↦ [] | Some u ↦ to (Connection u) (Drop (record { client = n; k = v.k })) ]
    ]

drop-seen : (s : Settings) (p : ClientState) (r : ClientRow) → turn.drop_of p r ≡ drop_seen p.number (seen s r)
drop-seen s p r = ap (λ o. elim (is_bind_row r) [ true ↦ [] | false ↦ elim o [ None ↦ [] | Some u ↦ to (Connection u) (Drop (record { client = p.number; k = r.k })) ] ]) (sym (went r.request.rest r.connection))

pub drops-shown : (s : Settings) (p : ClientState) (rows : List Row) → map (seen s) p.rows ≡ map shown rows → turn.drops p ≡ drops p.number rows
drops-shown s p rows e =
    flat-same (turn.drop_of p) (λ r. drop_seen p.number (seen s r)) p.rows (drop-seen s p)
    ∙ flat-map (seen s) (drop_seen p.number) p.rows
    ∙ ap (flat_map (drop_seen p.number)) e
    ∙ sym (flat-map shown (drop_seen p.number) rows)

-- the Drop of one that is kept
pub drop-shown : (s : Settings) (p : ClientState) (r : ClientRow) (row : Row) → shown row ≡ seen s r → turn.drop_of p r ≡ drop_of p.number row
drop-shown s p r row e = drop-seen s p r ∙ ap (drop_seen p.number) (sym e)

leave-shown : (o : Option HeldBy) (h : Option Held) → o ≡ option_map held h → elim o [ None ↦ [] | Some x ↦ to (Connection x.connection) (Leave x.holder) ] ≡ leave h
leave-shown o None e = ap (λ x. elim x [ None ↦ [] | Some y ↦ to (Connection y.connection) (Leave y.holder) ]) e
leave-shown o (Some h) e = ap (λ x. elim x [ None ↦ [] | Some y ↦ to (Connection y.connection) (Leave y.holder) ]) e

pub endings-shown : (s : Settings) (p : ClientState) (d : ClientPart) → Stands s p d → turn.endings p ≡ endings d
endings-shown s p d h =
    ap (λ l. l ++ turn.leave p) (drops-shown s p d.operations.rows h.live.rows_are ∙ ap (λ n. drops n d.operations.rows) h.number)
    ∙ ap (λ l. drops d.number d.operations.rows ++ l) (leave-shown p.hold d.hold h.hold)

pub resumes-shown : (s : Settings) (p : ClientState) (d : ClientPart) → Stands s p d → turn.resumes p ≡ resume_letters d.number d.paused.keys
resumes-shown s p d h = ap (λ n. resume_letters n p.pausing.paused) h.number ∙ ap (resume_letters d.number) h.paused

pub closing-shown : (s : Settings) (p : ClientState) (d : ClientPart) → Stands s p d → turn.closing p ≡ closing d
closing-shown s p d h = ap (λ l. l ++ turn.resumes p) (endings-shown s p d h) ∙ ap (λ l. endings d ++ l) (resumes-shown s p d h)

-- the regular connections

abbrev connection_seen : Seen → List ℕ
connection_seen v = elim (passes (same_kind Bind) v.kind) [ true ↦ [] | false ↦ elim (went_to v.way) [ None ↦ [] | Some u ↦ u ∷ [] ] ]

pub connections-shown : (s : Settings) (p : ClientState) (rows : List Row) → map (seen s) p.rows ≡ map shown rows → regular_connections p ≡ connections rows
connections-shown s p rows e =
    flat-same _ (λ r. connection_seen (seen s r)) p.rows (λ r. ap (λ o. elim (is_bind_row r) [ true ↦ [] | false ↦ elim o [ None ↦ [] | Some u ↦ u ∷ [] ] ]) (sym (went r.request.rest r.connection)))
    ∙ flat-map (seen s) connection_seen p.rows
    ∙ ap (flat_map connection_seen) e
    ∙ sym (flat-map shown connection_seen rows)

-- as many letters as operations at most
one-drop : (n : ℕ) (r : Row) → length (drop_of n r) ≤ 1
one-drop n r = by (is_bind r) (went_to r.way)
  where
    by : (b : Bool) (o : Option ℕ) → length {A = Posted} (elim b [ true ↦ [] | false ↦ elim o [ None ↦ [] | Some u ↦ to (Connection u) (Drop (record { client = n; k = r.k })) ] ]) ≤ 1
    by true o = omega arith
    by false None = omega arith
    by false (Some u) = omega arith
