-- What is asked of the operations of a state is asked of those of the part.
use Rattle.std.proofs.Common.{◌≡◌, ℕ, Bool, true, false, not, ◌==◌, ◌&&◌, ◌||◌, cond, List, [], ◌∷◌, filter, find, length, map, Option, Some, None, refl, ap, sym, ◌∙◌}
use Rattle.std.specs.Prelude.{is_some, is_none}
use Rattle.std.specs.List.{list_any}
use Rattle.std.specs.Option.{option_map}
use Rattle.lload_names.specs.declared.names.OpKind.TheVariants.{Bind}
use Rattle.lload_names.specs.Same.{same_kind}
use Rattle.lload_spec.specs.Lists.{passes}
use Rattle.lload_spec.specs.Settings.{Settings}
use Rattle.lload_spec.specs.FirstCheck.{LiveRequest, live_request}
use Rattle.client_session.specs.Checks.{facts, live_row}
use Rattle.client_session.specs.declared.part.ClientPart.{ClientPart}
use Rattle.part_spec.specs.ClientState.{ClientState, facts_of, ClientRow, lets_wait as row_waits}
use Rattle.client_rows.specs.Rows.{lets_wait, went_to}
use Rattle.client_rows.specs.declared.row.Row.{Row}
use Rattle.client_rows.specs.declared.row.Way.{Way}
use Rattle.client_rows.specs.declared.row.Way.TheVariants.{Waits, Went}
use Rattle.client_session.specs.Stands.{Seen, seen, shown, way_of, Stands}
use Rattle.client_session.proofs.Through.{any-through}

abbrev waits_seen : Seen → Bool
waits_seen v = passes (same_kind Bind) v.kind || v.restricts && is_none (went_to v.way)

way-went : (rest : List ℕ) (o : Option ℕ) → not (is_some o) ≡ is_none (went_to (way_of rest o))
way-went rest None = refl
way-went rest (Some u) = refl

pub any-same : {A : Type 0} (p q : A → Bool) (xs : List A) → ((x : A) → p x ≡ q x) → list_any p xs ≡ list_any q xs
any-same p q [] e = refl
any-same p q (x ∷ xs) e = rw (e x, any-same p q xs e) refl

pub waits-shown : (s : Settings) (rows : List ClientRow) (kept : List Row) → map (seen s) rows ≡ map shown kept → list_any (row_waits s) rows ≡ list_any lets_wait kept
waits-shown s rows kept e =
    any-same (row_waits s) (λ r. waits_seen (seen s r)) rows (λ r. ap (λ b. passes (same_kind Bind) (seen s r).kind || (seen s r).restricts && b) (way-went r.request.rest r.connection))
    ∙ any-through (seen s) shown waits_seen rows kept e

-- what the checks ask of the client is the same of the state and of the part

abbrev live_seen : Seen → LiveRequest
live_seen v = record { id = v.id; kind = v.kind }

map-map : {A B C : Type 0} (f : A → B) (g : B → C) (xs : List A) → map g (map f xs) ≡ map (λ x. g (f x)) xs
map-map f g [] = refl
map-map f g (x ∷ xs) = ap (λ l. g (f x) ∷ l) (map-map f g xs)

pub facts-shown : (s : Settings) (p : ClientState) (d : ClientPart) → Stands s p d → facts_of p ≡ facts d
facts-shown s p d h =
    let live : map (λ r. live_request r.request) p.rows ≡ map live_row d.operations.rows = sym (map-map (seen s) live_seen p.rows) ∙ ap (map live_seen) h.live.rows_are ∙ map-map shown live_seen d.operations.rows in
    rw (live, h.identity, h.in_exchange) refl
