use Rattle.std.specs.Prelude.{ℕ, suc, List, [], ◌∷◌, map}
use Rattle.tier_select.specs.declared.draws.Member.{Member}

abbrev pub weight : Member → ℕ
weight m = m.weight

abbrev pub place : Member → ℕ
place m = m.place

-- the places of some backends, in order
abbrev pub places : List Member → List ℕ
places ms = map place ms

-- the backends from a place on with these weights
abbrev pub members_from : ℕ → List ℕ → List Member
members_from i [] = []
members_from i (w ∷ ws) = record { place = i; weight = w } ∷ members_from (suc i) ws
