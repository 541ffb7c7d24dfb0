-- The world of all parts: the state of each, and the letters in flight, first in first out from each sender to each
-- receiver. It goes on by events, each of which is one turn of a part, and makes its journal by the turns alone.
use Rattle.std.specs.Prelude.{ℕ, zero, suc, ◌-◌, Bool, true, false, ◌==◌, ◌&&◌, ◌||◌, not, nat_lt, max, List, [], ◌∷◌, ◌++◌, length, filter, find, map, Option, Some, None}
use Rattle.std.specs.List.{list_any}
use Rattle.lload_names.specs.declared.inputs.Input.{Input}
use Rattle.lload_names.specs.declared.inputs.Input.TheVariants as input
use Rattle.lload_names.specs.declared.inputs.Event.{Event}
use Rattle.lload_names.specs.declared.inputs.Event.TheVariants as event
use Rattle.lload_names.specs.declared.inputs.Effects.{Effects}
use Rattle.lload_names.specs.declared.names.Entry.{Entry}
use Rattle.lload_names.specs.declared.names.EndWhy.{EndWhy}
use Rattle.lload_names.specs.declared.names.PartName.{PartName}
use Rattle.lload_names.specs.declared.names.PartName.TheVariants.{Desk, Client, Up as Connection}
use Rattle.lload_names.specs.declared.names.Posted.{Posted}
use Rattle.lload_names.specs.declared.plans.Place.{Place}
use Rattle.lload_names.specs.Plans.{place_count, place_of}
use Rattle.lload_spec.specs.Settings.{Settings, plan_in_force}
use Rattle.lload_spec.specs.Journal.{same_part}
use Rattle.part_spec.specs.Marked.{Marked, Taken}
use Rattle.part_spec.specs.Inputs.{letter_of, marked_by}
use Rattle.part_spec.specs.ClientState.{ClientState, empty_client, step_clients, is_present, is_holding}
use Rattle.part_spec.specs.ClientTurn.{client_turn, client_sever}
use Rattle.part_spec.specs.ConnectionState.{ConnectionState, empty_connection, step_connections, is_there, is_holding as is_paused}
use Rattle.part_spec.specs.DeskState.{DeskState, empty_desk, step_desks}
use Rattle.part_spec.specs.DeskTurn.{desk_turn}
use Rattle.part_spec.specs.Turn.{connection_turn, connection_sever}
use Rattle.part_spec.specs.Stamps.{Turn}

-- a letter in flight
pub record Flight : Type 0 where
  pub from : PartName
  pub posted : Posted

-- a turn of a part
pub record PartTurn : Type 0 where
  pub part : PartName
  pub turn : Turn

-- each part's state, the letters in flight and all that were given, the journal with its letters, and the turns, whose
-- stamps are their numbers
pub record World : Type 0 where
  pub clients : List ClientState
  pub connections : List ConnectionState
  pub desk : DeskState
  pub letters : List Flight
  pub given : List Flight
  pub journal : List Marked
  pub turns : List PartTurn

abbrev pub empty_world : World
empty_world =
    record { clients = []; connections = []; desk = empty_desk; letters = []; given = []; journal = []; turns = [] }

-- the state of a client and of a connection, where the empty one stands for a part that isn't there yet
abbrev pub client_in : World → ℕ → ClientState
client_in w c = elim (find (λ p. p.number == c) w.clients) [ None ↦ empty_client c | Some p ↦ p ]

abbrev pub connection_in : Settings → World → ℕ → ConnectionState
connection_in s w u = elim (find (λ p. p.number == u) w.connections) [ None ↦ empty_connection s u | Some p ↦ p ]

-- the states with a new one in place of the part's old one
abbrev pub put_client : ClientState → List ClientState → List ClientState
put_client p [] = p ∷ []
put_client p (q ∷ qs) = elim (q.number == p.number) [ true ↦ p ∷ qs | false ↦ q ∷ put_client p qs ]

abbrev pub put_connection : ConnectionState → List ConnectionState → List ConnectionState
put_connection p [] = p ∷ []
put_connection p (q ∷ qs) = elim (q.number == p.number) [ true ↦ p ∷ qs | false ↦ q ∷ put_connection p qs ]

-- the letters of a part, as they are in flight
abbrev pub flights : PartName → List Posted → List Flight
flights p letters = map (λ x. record { from = p; posted = x }) letters

-- the world behind these marked entries of a part, but for its letters
abbrev pub behind_entries : Settings → PartName → List Marked → World → World
behind_entries s Desk ms w = record w { desk = step_desks s w.desk ms; journal = w.journal ++ ms }
behind_entries s (Client c) ms w =
    record w { clients = put_client (step_clients s (client_in w c) ms) w.clients; journal = w.journal ++ ms }
behind_entries s (Connection u) ms w =
    record w {
      connections = put_connection (step_connections s (connection_in s w u) ms) w.connections;
      journal = w.journal ++ ms;
    }

-- the turn of the next number
abbrev pub turn_made : PartName → Option Taken → Effects → World → PartTurn
turn_made p mark e w =
    record {
      part = p;
      turn = record { stamp = suc (length w.turns); entries = marked_by mark e.entries; letters = e.letters };
    }

-- the world behind a turn of a part, by the letter that it took and what it gave
abbrev pub behind : Settings → PartName → Option Taken → Effects → World → World
behind s p mark e w =
    behind_entries s p (marked_by mark e.entries) (record w {
      letters = w.letters ++ flights p e.letters;
      given = w.given ++ flights p e.letters;
      turns = w.turns ++ turn_made p mark e w ∷ [];
    })

-- the turn of a part
abbrev pub turn_of : Settings → World → PartName → Input → Effects
turn_of s w Desk input = desk_turn s w.desk input
turn_of s w (Client c) input = client_turn s (client_in w c) input
turn_of s w (Connection u) input = connection_turn s (connection_in s w u) input

abbrev pub takes : Settings → PartName → Input → World → World
takes s p input w = behind s p (letter_of input) (turn_of s w p input) w

-- the end of a part's link
abbrev pub sever_of : Settings → World → PartName → ℕ → EndWhy → Effects
sever_of s w Desk now why = record { entries = []; letters = [] }
sever_of s w (Client c) now why = client_sever (client_in w c) now why
sever_of s w (Connection u) now why = connection_sever (connection_in s w u) now why

abbrev pub severs : Settings → PartName → ℕ → EndWhy → World → World
severs s p now why w = behind s p None (sever_of s w p now why) w

-- the order of parts: the desk, then clients, then connections, by number
abbrev pub is_below : PartName → PartName → Bool
is_below Desk Desk = false
is_below Desk (Client b) = true
is_below Desk (Connection b) = true
is_below (Client a) Desk = false
is_below (Client a) (Client b) = nat_lt a b
is_below (Client a) (Connection b) = true
is_below (Connection a) Desk = false
is_below (Connection a) (Client b) = false
is_below (Connection a) (Connection b) = nat_lt a b

abbrev pub lower : PartName → Option PartName → PartName
lower p None = p
lower p (Some q) = elim (is_below q p) [ true ↦ q | false ↦ p ]

abbrev pub lowest : List PartName → Option PartName
lowest [] = None
lowest (p ∷ ps) = Some (lower p (lowest ps))

-- whether a letter goes to this part, and from this sender to it
abbrev pub is_to : PartName → Flight → Bool
is_to p f = same_part p f.posted.to

abbrev pub is_between : PartName → PartName → Flight → Bool
is_between sender receiver f = same_part sender f.from && same_part receiver f.posted.to

-- these without the first that passes
abbrev pub without_first : (Flight → Bool) → List Flight → List Flight
without_first test [] = []
without_first test (f ∷ fs) = elim (test f) [ true ↦ fs | false ↦ f ∷ without_first test fs ]

-- the lowest part for which a letter waits, and the lowest sender of one to a part
abbrev pub lowest_waiting : World → Option PartName
lowest_waiting w = lowest (map (λ f. f.posted.to) w.letters)

abbrev pub waiting : World → PartName → Option PartName
waiting w p = lowest (map (λ f. f.from) (filter (is_to p) w.letters))

-- a part takes the first letter of a sender, where one waits
abbrev pub takes_from : Settings → PartName → ℕ → ℕ → PartName → World → World
takes_from s p now word sender w =
    elim (find (is_between sender p) w.letters) [
      | None ↦ w
      | Some f ↦ takes s p (input.LetterFrom now word sender f.posted.letter)
          (record w { letters = without_first (is_between sender p) w.letters })
    ]

-- an event of a part
abbrev pub happens : Settings → PartName → Event → World → World
happens s p (event.Arrive now) w = takes s p (input.Arrive now) w
happens s p (event.LinkUp now) w = takes s p (input.LinkUp now) w
happens s p (event.Message now id rest) w = takes s p (input.Message now id rest) w
happens s p (event.Letter now word sender) w = takes_from s p now word sender w
happens s p (event.Tick now) w = takes s p (input.Tick now) w
happens s p (event.LinkGone now why) w = takes s p (input.LinkGone now why) w
happens s p (event.Stall now) w = takes s p (input.Stall now) w
happens s p (event.Flow now) w = takes s p (input.Flow now) w
happens s p (event.Reload now plan base) w = takes s p (input.Reload now plan base) w

-- whether a part is there: the desk always, a client that arrived and isn't gone, a connection that is linked and not
-- down
abbrev pub is_standing : Settings → World → PartName → Bool
is_standing s w Desk = true
is_standing s w (Client c) = is_present (client_in w c)
is_standing s w (Connection u) = is_there (connection_in s w u)

-- whether a part holds, so that no message is handed to it
abbrev pub holds : Settings → World → PartName → Bool
holds s w Desk = false
holds s w (Client c) = is_holding s (client_in w c)
holds s w (Connection u) = is_paused (connection_in s w u)

-- whether a connection was linked, and is down
abbrev pub was_linked : World → ℕ → Bool
was_linked w u = list_any (λ p. p.number == u && p.linked) w.connections

abbrev pub is_down_in : World → ℕ → Bool
is_down_in w u = list_any (λ p. p.number == u && p.down) w.connections

-- the greatest connection that was linked, or 0
abbrev pub greatest_in : List ConnectionState → ℕ
greatest_in [] = 0
greatest_in (p ∷ ps) = elim p.linked [ true ↦ max p.number (greatest_in ps) | false ↦ greatest_in ps ]

abbrev pub greatest_linked : World → ℕ
greatest_linked w = greatest_in w.connections

-- whether a connection of this place, one of so many of its plan, may be linked: it is the first of its place, or the
-- one before it is down
abbrev pub is_next_at : World → ℕ → ℕ → Option Place → Bool
is_next_at w n count None = false
is_next_at w n count (Some p) = p.generation == 0 || is_down_in w (n - count)

-- whether a connection may be linked: it is above the base of the plan in force and was never linked
abbrev pub may_link : Settings → World → ℕ → Bool
may_link s w n =
    elim (nat_lt (plan_in_force s w.desk.plan).base n && not (was_linked w n)) [
      | false ↦ false
      | true ↦ is_next_at w n (place_count (plan_in_force s w.desk.plan).plan)
          (place_of (plan_in_force s w.desk.plan).plan (n - (plan_in_force s w.desk.plan).base))
    ]

-- letters are taken, each from the lowest sender to the lowest part that has one, until none waits, at most so often
abbrev pub settles_letters : Settings → ℕ → ℕ → ℕ → World → World
settles_letters s now word zero w = w
settles_letters s now word (suc k) w =
    elim (lowest_waiting w) [
      | None ↦ w
      | Some p ↦ elim (waiting w p) [
        | None ↦ w
        | Some sender ↦ settles_letters s now word k (takes_from s p now word sender w)
      ]
    ]

-- its journal, and the list of a part with the letters that it took
abbrev pub journal_of : World → List Entry
journal_of w = map (λ m. m.entry) w.journal

abbrev pub list_in : World → PartName → List Marked
list_in w p = filter (λ m. same_part p m.entry.part) w.journal

-- the letters that a part gave
abbrev pub given_in : World → PartName → List Posted
given_in w p = map (λ f. f.posted) (filter (λ f. same_part p f.from) w.given)

-- the turns of a part
abbrev pub turns_in : World → PartName → List Turn
turns_in w p = map (λ t. t.turn) (filter (λ t. same_part p t.part) w.turns)
