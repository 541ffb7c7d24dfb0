-- What is proved of the lists that the turns of a bind connection make.
use Rattle.std.specs.Prelude.{◌≡◌, ℕ, Bool, true, ◌&&◌, List, IsTrue}
use Rattle.std.specs.List.{list_all}
use Rattle.lload_names.specs.declared.names.ConnKind.TheVariants.{Bind as BindKind}
use Rattle.lload_names.specs.declared.names.PartName.TheVariants.{Up as Connection}
use Rattle.lload_names.specs.declared.names.OpKind.TheVariants.{Bind}
use Rattle.lload_names.specs.declared.names.Letter.{Letter}
use Rattle.lload_names.specs.declared.names.Letter.TheVariants.{Forward}
use Rattle.lload_spec.specs.Settings.{Settings, is_of_kind}
use Rattle.lload_spec.specs.Lists.{passes, agrees, where_there}
use Rattle.lload_spec.specs.Journal.{Family}
use Rattle.lload_spec.specs.Operations.{operation, is_of}
use Rattle.lload_spec.specs.Answers.{asks_who}
use Rattle.lload_spec.specs.CausedUp.{message_facts as facts_by_list}
use Rattle.part_spec.specs.ConnectionState.{empty_connection, step_connection, connection_of, message_facts}
use Rattle.part_spec.specs.Fit.{is_all_fit, fit_beginning}
use Rattle.part_spec.specs.Gives.{gives}
use Rattle.part_spec.specs.Share.{Share}
use Rattle.part_spec.specs.Marked.{Marked, entries}
use Rattle.part_spec.specs.Says.{ConnectionSays}
use Rattle.part_laws.specs.Turns.{Event, letters_given}
use Rattle.connection_laws.specs.Turns.{connection_event, connection_list}

-- a bind connection's list keeps its share
abbrev pub BindShares : Type 0
BindShares =
    (s : Settings) (u : ℕ) → is_of_kind s BindKind u ≡ true → (xs : List Event)
    → Share s (Connection u) (connection_list s u xs)

-- where each letter of a bind connection's list was fit, the letters that the list stands for are those that its turns
-- gave
abbrev pub BindGives : Type 0
BindGives =
    (s : Settings) (u : ℕ) → is_of_kind s BindKind u ≡ true → (xs : List Event)
    → IsTrue (is_all_fit s (Connection u) (connection_list s u xs))
    → gives s (Connection u) (connection_list s u xs)
    ≡ letters_given (step_connection s) (connection_event s) (empty_connection s u) xs

-- whether a Forward says of its operation what a family says: that it is a Bind, and whether its identity is asked for
abbrev pub is_told_rightly : Settings → Family → Letter → Bool
is_told_rightly s F (Forward op _ rest ask_who holder) =
    passes (λ o. is_of Bind o && agrees ask_who (asks_who s o)) (operation F op)
is_told_rightly s F _ = true

-- whether each that was taken does
abbrev pub are_told_rightly : Settings → Family → List Marked → Bool
are_told_rightly s F list = list_all (λ m. where_there (λ t. is_told_rightly s F t.letter) m.mark) list

-- where they do, what a bind connection's state says behind its list, up to the first letter that isn't fit, is what the
-- list says
abbrev pub BindSays : Type 0
BindSays =
    (s : Settings) (u : ℕ) → is_of_kind s BindKind u ≡ true → (F : Family) (xs : List Event)
    → IsTrue (are_told_rightly s F (fit_beginning s (Connection u) (connection_list s u xs)))
    → ConnectionSays s F u (fit_beginning s (Connection u) (connection_list s u xs))

-- and what a message meets, by the state, is what it meets by the list: which request is open, and which identifiers were
-- given
abbrev pub BindMeets : Type 0
BindMeets =
    (s : Settings) (u : ℕ) → is_of_kind s BindKind u ≡ true → (F : Family) (xs : List Event)
    → IsTrue (are_told_rightly s F (fit_beginning s (Connection u) (connection_list s u xs)))
    → message_facts (connection_of s u (fit_beginning s (Connection u) (connection_list s u xs)))
    ≡ facts_by_list s F u (entries (fit_beginning s (Connection u) (connection_list s u xs)))
