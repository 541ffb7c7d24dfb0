-- A history: the lines of a script, each with the entries that it made.
use Rattle.std.specs.Prelude.{ℕ, ◌+◌, if◌then◌else◌, List, [], ◌∷◌, ◌++◌, Option, Some, None}
use Rattle.ldap_spec.specs.Messages.{Message}
use Rattle.lload_names.specs.declared.names.Entry.{Entry}
use Rattle.lload_names.specs.declared.names.PartName.{PartName}
use Rattle.lload_names.specs.declared.names.PartName.TheVariants.{Client, Up as Connection}
use Rattle.lload_names.specs.declared.command.Command.{Command}
use Rattle.lload_names.specs.declared.command.Command.TheVariants.{ClientBytes, UpBytes, Tick, SetWord}
use Rattle.small_spec.specs.Journal.{same_part}
use Rattle.small_spec.specs.Entries.{in_message, got_message}

-- a line of a script: its command, and the entries that it made
pub record Line : Type 0 where
  pub command : Command
  pub piece : List Entry

-- the commands of a history
abbrev pub commands : List Line → List Command
commands [] = []
commands (l ∷ ls) = l.command ∷ commands ls

-- the journal that a history made
abbrev pub journal : List Line → List Entry
journal [] = []
journal (l ∷ ls) = l.piece ++ journal ls

-- the entries of these rounds, in order
abbrev pub joined : List (List Entry) → List Entry
joined [] = []
joined (r ∷ rs) = r ++ joined rs

-- each element obeys a rule where it stands, behind those before it
abbrev pub EachFrom : {A : Type 0} → (List A → A → Type 0) → List A → List A → Type 0
EachFrom Rule before [] = Unit {0}
EachFrom Rule before (x ∷ xs) = Rule before x × EachFrom Rule (before ++ x ∷ []) xs

abbrev pub Each : {A : Type 0} → (List A → A → Type 0) → List A → Type 0
Each Rule xs = EachFrom Rule [] xs

-- the bytes that a command feeds to a part
abbrev pub fed_by : PartName → Command → List ℕ
fed_by p (ClientBytes n bytes) = if same_part p (Client n) then bytes else []
fed_by p (UpBytes n bytes) = if same_part p (Connection n) then bytes else []
fed_by p _ = []

-- the bytes that these commands feed to a part, in order
abbrev pub fed : PartName → List Command → List ℕ
fed p [] = []
fed p (c ∷ cs) = fed_by p c ++ fed p cs

-- the milliseconds by which a command moves the clock
abbrev pub ticked_by : Command → ℕ
ticked_by (Tick ms) = ms
ticked_by _ = 0

-- the moment behind these commands: the sum of the ticks
abbrev pub moment : List Command → ℕ
moment [] = 0
moment (c ∷ cs) = ticked_by c + moment cs

-- the random word behind a command, where this one stood before it
abbrev pub word_by : Command → ℕ → ℕ
word_by (SetWord w) before = w
word_by _ before = before

-- the random word behind these commands, where this one stood before them
abbrev pub word_behind : ℕ → List Command → ℕ
word_behind w [] = w
word_behind w (c ∷ cs) = word_behind (word_by c w) cs

-- the random word behind these commands: the last one set, or 0
abbrev pub word : List Command → ℕ
word cs = word_behind 0 cs

-- an element, if there is one, before others
abbrev pub with_first_of : {A : Type 0} → Option A → List A → List A
with_first_of None xs = xs
with_first_of (Some x) xs = x ∷ xs

-- the messages that a client's list took in, in order
abbrev pub in_messages : List Entry → List Message
in_messages [] = []
in_messages (e ∷ es) = with_first_of (in_message e.what) (in_messages es)

-- the messages that a connection's list got, in order
abbrev pub got_messages : List Entry → List Message
got_messages [] = []
got_messages (e ∷ es) = with_first_of (got_message e.what) (got_messages es)
