-- Entries that give an identifier, by the settings and by the limit.
use Rattle.std.proofs.Common.{◌≡◌, ℕ, suc, max, ◌≤◌, arith, Bool, true, false, ◌==◌, if◌then◌else◌, [], ◌∷◌, refl, ap, ◌∙◌}
use Rattle.std.proofs.lemmas.Bool.Decides.{nat_tests}
use Rattle.std.specs.Prelude.{nat_lt}
use Rattle.lload_names.specs.declared.names.PartName.TheVariants.{Desk}
use Rattle.lload_names.specs.declared.names.Letter.TheVariants.{IsRetired}
use Rattle.lload_names.specs.declared.names.What.{What}
use Rattle.lload_names.specs.declared.names.What.TheVariants as what
use Rattle.lload_spec.specs.Settings.{Settings}
use Rattle.id_table.specs.Table.{Table, used_up, passes_limit}
use Rattle.part_spec.specs.Inputs.{to}
use Rattle.part_spec.specs.ConnectionState.{ConnectionState}
use Rattle.part_spec.specs.ConnectionTurn.{giving, retires}
use Rattle.conn_core.specs.Closing.{given_whats, retired_letters}

pub giving-is : (s : Settings) (id limit : ℕ) (w : What) → s.id_limit ≡ limit → giving s id w ≡ given_whats (id == limit) w
giving-is s id limit w e = by (id == s.id_limit) ∙ ap (λ n. given_whats (id == n) w) e
  where
    by : (b : Bool) → (elim b [ true ↦ w ∷ what.Retired ∷ [] | false ↦ w ∷ [] ]) ≡ given_whats b w
    by true = refl
    by false = refl

pub retires-is : (s : Settings) (p : ConnectionState) (id limit : ℕ) → s.id_limit ≡ limit → retires s p id ≡ retired_letters p.number (id == limit)
retires-is s p id limit e = by (id == s.id_limit) ∙ ap (λ n. retired_letters p.number (id == n)) e
  where
    by : (b : Bool) → (elim b [ true ↦ to Desk (IsRetired p.number) | false ↦ [] ]) ≡ retired_letters p.number b
    by true = refl
    by false = refl

-- whether the limit was given, behind an identifier more
pub passes-given : (limit next id : ℕ) → id ≤ next → nat_lt limit (max next (suc id)) ≡ (if id == limit then true else nat_lt limit next)
passes-given limit next id l = grind (arith, nat_tests, l)

-- and behind an own identifier
pub used-passes : (t : Table) → passes_limit (used_up t) ≡ (if t.ids.next == t.limit then true else passes_limit t)
used-passes t = passes-given t.limit t.ids.next t.ids.next (omega arith)
