-- A script's journal, as a function of the settings and the commands (this project's own): which line stands where it
-- is, and what it does to the world of all parts, the bytes that came for each part, the moment and the desk's word.
use Rattle.std.specs.Prelude.{◌≡◌, ℕ, zero, suc, ◌+◌, ◌*◌, Bool, true, false, ◌==◌, ◌&&◌, not, max, if◌then◌else◌, List, [], ◌∷◌, ◌++◌, length, filter, find, map, sum, Option, Some, None, is_some, is_none, IsTrue}
use Rattle.std.specs.Option.{option_map, option_or}
use Rattle.ldap_spec.specs.Streams.{Reading, Whole, Short, Bad, TooBig, read}
use Rattle.lload_names.specs.declared.inputs.Event.TheVariants.{Arrive, LinkUp, Message, Letter, Tick, LinkGone, Stall, Flow, Reload as ReloadBy}
use Rattle.lload_names.specs.declared.names.Entry.{Entry}
use Rattle.lload_names.specs.declared.names.EndWhy.{EndWhy}
use Rattle.lload_names.specs.declared.names.EndWhy.TheVariants as why
use Rattle.lload_names.specs.declared.names.PartName.{PartName}
use Rattle.lload_names.specs.declared.names.PartName.TheVariants.{Desk, Client, Up as Connection}
use Rattle.lload_names.specs.declared.command.Command.{Command}
use Rattle.lload_names.specs.declared.command.Command.TheVariants.{ClientArrives, ClientBytes, ClientLeaves, ClientStalls, ClientFlows, UpReady, UpBytes, UpLost, Tick as TickBy, SetWord, Step, StepMessage, StepFrom, StepTick, Reload, Settle}
use Rattle.lload_names.specs.declared.plans.TierPlan.{TierPlan}
use Rattle.lload_names.specs.declared.plans.Planned.{Planned}
use Rattle.lload_names.specs.Plans.{has_numbers_for}
use Rattle.lload_spec.specs.Settings.{Settings, numbered_plan}
use Rattle.lload_spec.specs.Journal.{same_part}
use Rattle.part_spec.specs.World.{World, empty_world, client_in, happens, severs, lowest, lowest_waiting, waiting, is_standing, holds, was_linked, may_link, greatest_linked, journal_of}

-- bytes that came for a part and weren't taken yet
pub record Fed : Type 0 where
  pub part : PartName
  pub bytes : List ℕ

-- a script that is played: the world, the bytes that wait, the moment and the word, and whether a `reload` stood
pub record Playing : Type 0 where
  pub world : World
  pub fed : List Fed
  pub moment : ℕ
  pub word : ℕ
  pub reloaded : Bool

abbrev pub beginning : Playing
beginning = record { world = empty_world; fed = []; moment = 0; word = 0; reloaded = false }

-- the bytes that wait at a part
abbrev pub bytes_at : Playing → PartName → List ℕ
bytes_at g p = elim (find (λ f. same_part p f.part) g.fed) [ None ↦ [] | Some f ↦ f.bytes ]

abbrev pub put_bytes : PartName → List ℕ → List Fed → List Fed
put_bytes p bytes [] = record { part = p; bytes = bytes } ∷ []
put_bytes p bytes (f ∷ fs) =
    elim (same_part p f.part) [ true ↦ record f { bytes = bytes } ∷ fs | false ↦ f ∷ put_bytes p bytes fs ]

-- bytes come for a part; those for a part that has ended are dropped
abbrev pub feeds : Settings → PartName → List ℕ → Playing → Playing
feeds s p bytes g =
    if is_standing s g.world p then record g { fed = put_bytes p (bytes_at g p ++ bytes) g.fed } else g

-- whether a part may take a message: it is there and doesn't hold
abbrev pub may_take : Settings → World → PartName → Bool
may_take s w Desk = false
may_take s w p = is_standing s w p && not (holds s w p)

-- how many octets a message may have
abbrev pub limit_of : Settings → PartName → ℕ
limit_of s (Client c) = s.max_incoming_client
limit_of s _ = s.max_incoming_upstream

-- what waits at a part
abbrev pub reading : Settings → Playing → PartName → Reading
reading s g p = read (limit_of s p) (bytes_at g p)

-- bytes that can't be read end a part: for a client they are an event of its link
abbrev pub ends_by : Settings → PartName → ℕ → EndWhy → World → World
ends_by s (Client c) now why w = happens s (Client c) (LinkGone now why) w
ends_by s p now why w = severs s p now why w

-- a part takes what was read
abbrev pub takes_read : Settings → PartName → Playing → Reading → Playing
takes_read s p g (Whole m more) =
    record g { world = happens s p (Message g.moment m.id m.rest) g.world; fed = put_bytes p more g.fed }
takes_read s p g (Short needed) = g
takes_read s p g (Bad place) = record g { world = ends_by s p g.moment why.Bad g.world }
takes_read s p g (TooBig size) = record g { world = ends_by s p g.moment why.TooBig g.world }

-- a part takes its next message, where it may
abbrev pub takes_message : Settings → PartName → Playing → Playing
takes_message s p g = if may_take s g.world p then takes_read s p g (reading s g p) else g

-- whether there is one to take
abbrev pub is_short : Reading → Bool
is_short (Short needed) = true
is_short _ = false

abbrev pub has_message : Settings → Playing → PartName → Bool
has_message s g p = may_take s g.world p && not (is_short (reading s g p))

-- the lowest part with a message to take
abbrev pub lowest_messaged : Settings → Playing → Option PartName
lowest_messaged s g = lowest (filter (has_message s g) (map (λ f. f.part) g.fed))

-- a letter of this sender is taken
abbrev pub takes_letter : Settings → PartName → PartName → Playing → Playing
takes_letter s p sender g = record g { world = happens s p (Letter g.moment g.word sender) g.world }

-- a letter of the lowest sender, else a message
abbrev pub steps : Settings → PartName → Playing → Playing
steps s p g = elim (waiting g.world p) [ Some sender ↦ takes_letter s p sender g | None ↦ takes_message s p g ]

-- the part that a settle steps next: the lowest for which a letter waits, else the lowest with a message to take
abbrev pub next_part : Settings → Playing → Option PartName
next_part s g = option_or (lowest_waiting g.world) (lowest_messaged s g)

-- whether nothing is left to be taken
abbrev pub is_at_rest : Settings → Playing → Bool
is_at_rest s g = is_none (next_part s g)

-- a settle: the next part is stepped until there is none, at most so often
abbrev pub settles_within : Settings → ℕ → Playing → Playing
settles_within s zero g = g
settles_within s (suc k) g = elim (next_part s g) [ None ↦ g | Some p ↦ settles_within s k (steps s p g) ]

-- what a settle may come upon: letters and octets that wait, parts, live operations, and paused connections
abbrev pub octets_left : Playing → ℕ
octets_left g = sum (map (λ f. length f.bytes) g.fed)

abbrev pub clients_left : Playing → ℕ
clients_left g = sum (map (λ p. 1 + length p.rows + length p.pausing.paused) g.world.clients)

abbrev pub connections_left : Playing → ℕ
connections_left g = sum (map (λ p. 1 + length p.rows) g.world.connections)

abbrev pub left_at : Playing → ℕ
left_at g = length g.world.letters + octets_left g + clients_left g + connections_left g

-- no settle takes more turns: each of these makes at most twelve turns, itself and all that follows from it
abbrev pub turns_each : ℕ
turns_each = 12

abbrev pub settles : Settings → Playing → Playing
settles s g = settles_within s (turns_each * left_at g) g

-- the plan that the settings have next
abbrev pub next_plan : Settings → World → List TierPlan
next_plan s w = (numbered_plan s.plans (suc w.desk.plan)).plan

-- a turn of a part with an input at the moment, or the end of its link
abbrev pub with_world : (World → World) → Playing → Playing
with_world f g = record g { world = f g.world }

-- another plan comes: the next of the settings, with the greatest connection that was linked as its base
abbrev pub takes_next_plan : Settings → Playing → Playing
takes_next_plan s g = with_world (happens s Desk (ReloadBy g.moment (next_plan s g.world) (greatest_linked g.world))) g

-- what a command does
abbrev pub does : Settings → Playing → Command → Playing
does s g (ClientArrives n) = with_world (happens s (Client n) (Arrive g.moment)) g
does s g (ClientBytes n bytes) = feeds s (Client n) bytes g
does s g (ClientLeaves n) = with_world (severs s (Client n) g.moment why.Lost) g
does s g (ClientStalls n) = with_world (happens s (Client n) (Stall g.moment)) g
does s g (ClientFlows n) = with_world (happens s (Client n) (Flow g.moment)) g
does s g (UpReady n) = with_world (happens s (Connection n) (LinkUp g.moment)) g
does s g (UpBytes n bytes) = feeds s (Connection n) bytes g
does s g (UpLost n) = with_world (severs s (Connection n) g.moment why.Lost) g
does s g (TickBy ms) = record g { moment = g.moment + ms }
does s g (SetWord word) = record g { word = word }
does s g (Step p) = steps s p g
does s g (StepMessage p) = takes_message s p g
does s g (StepFrom p sender) = takes_letter s p sender g
does s g (StepTick n) = with_world (happens s (Connection n) (Tick g.moment)) g
does s g Reload = takes_next_plan s (record g { reloaded = true })
does s g Settle = settles s g

-- Which lines stand.

-- how many clients have arrived
abbrev pub arrivals : Playing → ℕ
arrivals g = length (filter (λ p. p.arrived) g.world.clients)

-- whether a part has begun, also where it has ended: the desk always, a client that arrived, a connection that was
-- linked
abbrev pub has_begun : World → PartName → Bool
has_begun w Desk = true
has_begun w (Client c) = (client_in w c).arrived
has_begun w (Connection u) = was_linked w u

-- whether a part is the desk, to which no message comes
abbrev pub is_desk : PartName → Bool
is_desk Desk = true
is_desk _ = false

-- whether a line stands where it is, in a run with another configuration or without one
abbrev pub stands : Settings → Bool → Playing → Command → Bool
stands s has_next g (ClientArrives n) = n == suc (arrivals g)
stands s has_next g (ClientBytes n bytes) = has_begun g.world (Client n)
stands s has_next g (ClientLeaves n) = has_begun g.world (Client n)
stands s has_next g (ClientStalls n) = has_begun g.world (Client n)
stands s has_next g (ClientFlows n) = has_begun g.world (Client n)
stands s has_next g (UpReady n) = may_link s g.world n
stands s has_next g (UpBytes n bytes) = has_begun g.world (Connection n)
stands s has_next g (UpLost n) = has_begun g.world (Connection n)
stands s has_next g (TickBy ms) = true
stands s has_next g (SetWord word) = true
stands s has_next g (Step p) = has_begun g.world p
stands s has_next g (StepMessage p) = not (is_desk p) && has_begun g.world p
stands s has_next g (StepFrom p sender) = has_begun g.world p
stands s has_next g (StepTick n) = has_begun g.world (Connection n)
stands s has_next g Reload = has_next && not g.reloaded
stands s has_next g Settle = true

-- behind a script of which each line stands
abbrev pub plays : Settings → Bool → Playing → List Command → Option Playing
plays s has_next g [] = Some g
plays s has_next g (c ∷ cs) = if stands s has_next g c then plays s has_next (does s g c) cs else None

-- behind each script a settle ends where nothing is left to be taken
abbrev pub SettlesEnd : Type 0
SettlesEnd =
    (s : Settings) (has_next : Bool) (script : List Command) (g : Playing) → plays s has_next beginning script ≡ Some g
    → IsTrue (is_at_rest s (settles s g))

-- The settings of the whole run.

-- the greatest connection that is made ready before the reload, if there is one, from this one on
abbrev pub base_from : ℕ → List Command → Option ℕ
base_from n [] = None
base_from n (Reload ∷ cs) = Some n
base_from n (UpReady u ∷ cs) = base_from (max n u) cs
base_from n (c ∷ cs) = base_from n cs

-- the settings with one plan more, where its numbers stay within 32 bits
abbrev pub with_later_plan : Settings → Planned → Settings
with_later_plan s p = if has_numbers_for s.plans p then record s { plans = s.plans ++ p ∷ [] } else s

-- the settings of the run of a script: with the next configuration's plan, if there is one and a line takes it, for the
-- connections above the greatest that was linked before
abbrev pub settings_of_run : Settings → Option (List TierPlan) → List Command → Settings
settings_of_run s None script = s
settings_of_run s (Some plan) script =
    elim (base_from 0 script) [ None ↦ s | Some base ↦ with_later_plan s (record { plan = plan; base = base }) ]

-- a script's journal, under the settings of a configuration and with the plan of the next one, if there is one; none
-- where a line doesn't stand
abbrev pub script_journal : Settings → Option (List TierPlan) → List Command → Option (List Entry)
script_journal s next script =
    option_map (λ g. journal_of g.world) (plays (settings_of_run s next script) (is_some next) beginning script)

-- a journal is what the commands make
abbrev pub Follows : Settings → Option (List TierPlan) → List Command → List Entry → Type 0
Follows s next commands J = script_journal s next commands ≡ Some J

-- the world behind a script, under the settings of the whole run; the empty one where a line doesn't stand
abbrev pub played : Settings → List Command → World
played s script = elim (plays s true beginning script) [ None ↦ empty_world | Some g ↦ g.world ]
