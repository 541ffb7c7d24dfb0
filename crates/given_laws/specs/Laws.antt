-- How many letters a connection gives an operation's client.
use Rattle.std.specs.Prelude.{◌≡◌, ℕ, Bool, false, List, length, filter, Some, IsTrue, nat_le}
use Rattle.lload_names.specs.declared.names.Letter.{Letter}
use Rattle.lload_names.specs.declared.names.Letter.TheVariants.{Failed, Reply}
use Rattle.lload_names.specs.declared.names.OpName.{OpName}
use Rattle.lload_names.specs.declared.names.PartName.{PartName}
use Rattle.lload_names.specs.declared.names.PartName.TheVariants.{Client, Up as Connection}
use Rattle.lload_spec.specs.Journal.{Family, IsWhole, same_op}
use Rattle.lload_spec.specs.Operations.{Operation, operation}
use Rattle.lload_spec.specs.Owed.{told_to}
use Rattle.lload_spec.specs.Settings.{Settings}
use Rattle.part_spec.specs.Gives.{gives}
use Rattle.part_spec.specs.Marked.{Marked, letters_to}
use Rattle.joined_laws.specs.Joined.{Joined}

-- whether a letter answers or refuses this operation
abbrev pub is_letter_for : OpName → Letter → Bool
is_letter_for op (Reply o rest is_last who) = same_op op o
is_letter_for op (Failed o which) = same_op op o
is_letter_for op _ = false

-- how many such letters a connection gave the operation's client
abbrev pub count_given : Settings → (PartName → List Marked) → OpName → ℕ → ℕ
count_given s marked op u =
    length (filter (is_letter_for op) (letters_to (Client op.client) (gives s (Connection u) (marked (Connection u)))))

-- no connection gives more letters for an operation than the lists say that its client was given
abbrev pub GivenAsTold : Type 0
GivenAsTold =
    (s : Settings) (F : Family) (marked : PartName → List Marked) → Joined s F marked → IsWhole F → (o : Operation)
    → operation F o.name ≡ Some o → (u : ℕ) → IsTrue (nat_le (count_given s marked o.name u) (told_to s F o))
