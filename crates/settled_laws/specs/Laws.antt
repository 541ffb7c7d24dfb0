-- What is promised of rest: where nothing waits, what was given was taken, and so it was heard.
use Rattle.std.specs.Prelude.{◌≡◌, Bool, ◌&&◌, List, IsTrue, ℕ}
use Rattle.std.specs.List.{list_all}
use Rattle.lload_names.specs.declared.names.PartName.{PartName}
use Rattle.lload_spec.specs.Settings.{Settings}
use Rattle.lload_spec.specs.Journal.{Family}
use Rattle.lload_spec.specs.Entries.{is_up, is_retired, is_down}
use Rattle.lload_spec.specs.News.{tells_up, tells_retired, tells_down}
use Rattle.lload_spec.specs.Settled.{is_state_heard, each_return_heard}
use Rattle.part_spec.specs.Gives.{gives}
use Rattle.part_spec.specs.Marked.{Marked, taken_from, letters_to}
use Rattle.joined_laws.specs.Joined.{Joined}

-- the lists of a family are joined, and what each part took of another is all that this one gave it
pub record Rested (s : Settings) (F : Family) (marked : PartName → List Marked) : Type 0 where
  pub joined : Joined s F marked
  pub all_taken : (p q : PartName) → taken_from p (marked q) ≡ letters_to q (gives s p (marked p))

-- the desk heard that this connection is up, retired and down, where it is
abbrev pub are_states_heard : Family → ℕ → Bool
are_states_heard F u =
    is_state_heard F u (λ e. is_up e.what) tells_up && is_state_heard F u (λ e. is_retired e.what) tells_retired
    && is_state_heard F u is_down tells_down

-- the desk heard each state of each connection, and that each choice which came too late was returned
pub record OfRest (F : Family) : Type 0 where
  pub states : IsTrue (list_all (are_states_heard F) F.connections)
  pub returns : IsTrue (each_return_heard F)

abbrev pub RestLaw : Type 0
RestLaw = (s : Settings) (F : Family) (marked : PartName → List Marked) → Rested s F marked → OfRest F
