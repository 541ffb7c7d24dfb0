-- What a part takes in, and what it makes of it: entries of its list, and letters to other parts.
use Rattle.std.specs.Prelude.{ℕ, true, max, false, Bool, List, [], ◌∷◌, ◌++◌, map, Option, Some, None}
use Rattle.lload_names.specs.declared.names.Entry.{Entry}
use Rattle.lload_names.specs.declared.inputs.Input.{Input}
use Rattle.lload_names.specs.declared.inputs.Input.TheVariants.{Arrive, LinkUp, Message, LetterFrom, Tick, LinkGone, Stall, Flow, Reload}
use Rattle.lload_names.specs.declared.inputs.Effects.{Effects}
use Rattle.lload_names.specs.declared.names.OpName.{OpName}
use Rattle.lload_names.specs.declared.names.Refusal.{Refusal}
use Rattle.lload_names.specs.declared.names.Letter.{Letter}
use Rattle.lload_names.specs.declared.names.Letter.TheVariants.{Reply, Failed}
use Rattle.lload_names.specs.declared.names.PartName.{PartName}
use Rattle.lload_names.specs.declared.names.PartName.TheVariants.{Client}
use Rattle.lload_names.specs.declared.names.Posted.{Posted}
use Rattle.lload_names.specs.declared.names.What.{What}
use Rattle.part_spec.specs.Marked.{Marked, Taken}

-- what a rule makes: what happened to the part, and the letters that it gives, each in order
pub record Act : Type 0 where
  pub whats : List What
  pub letters : List Posted

abbrev pub act : List What → List Posted → Act
act whats letters = record { whats = whats; letters = letters }

-- no rule
abbrev pub nothing : Act
nothing = act [] []

-- one after the other
abbrev pub also : Act → Act → Act
also a b = act (a.whats ++ b.whats) (a.letters ++ b.letters)

-- the letters of a rule that makes nothing happen; what happens gives its own letters
abbrev pub letters_alone : Act → List Posted
letters_alone a = elim a.whats [ [] ↦ a.letters | x ∷ xs ↦ [] ]

-- a rule, where it holds, else nothing
abbrev pub where_so : Bool → Act → Act
where_so true a = a
where_so false a = nothing

-- a letter to a receiver
abbrev pub to : PartName → Letter → List Posted
to receiver letter = record { to = receiver; letter = letter } ∷ []

-- a Reply, and a Failed, to the client of an operation
abbrev pub reply : OpName → List ℕ → Bool → Option (List ℕ) → List Posted
reply op rest is_last who = to (Client op.client) (Reply op rest is_last who)

abbrev pub failed : OpName → Refusal → List Posted
failed op which = to (Client op.client) (Failed op which)

-- what happened to a part at a moment, as entries of its list
abbrev pub entries_of : PartName → ℕ → List What → List Entry
entries_of p at whats = map (λ what. record { part = p; at = at; what = what }) whats

abbrev pub effects_of : PartName → ℕ → Act → Effects
effects_of p at a = record { entries = entries_of p at a.whats; letters = a.letters }

-- the moment of an input, as a part takes it: a moment before that of its last entry counts as that one
abbrev pub moment_of : Input → ℕ
moment_of (Arrive now) = now
moment_of (LinkUp now) = now
moment_of (Message now id rest) = now
moment_of (LetterFrom now word sender letter) = now
moment_of (Tick now) = now
moment_of (LinkGone now why) = now
moment_of (Stall now) = now
moment_of (Flow now) = now
moment_of (Reload now plan base) = now

abbrev pub moment_for : ℕ → Input → ℕ
moment_for last input = max last (moment_of input)

-- the letter of an input, with its sender
abbrev pub letter_of : Input → Option Taken
letter_of (LetterFrom now word sender letter) = Some (record { sender = sender; letter = letter })
letter_of _ = None

-- the entries of a turn with the letter that it took, of which the first one is the mark
abbrev pub marked_by : Option Taken → List Entry → List Marked
marked_by mark [] = []
marked_by mark (e ∷ es) = record { entry = e; mark = mark } ∷ map (λ x. record { entry = x; mark = None }) es
