-- Turns that give nothing, and inputs that no link and no plan comes with.
use Rattle.std.proofs.Common.{◌≡◌, ℕ, true, false, [], ◌++◌, Option, Some, None, refl, ap, ◌∙◌}
use Rattle.lload_names.specs.declared.inputs.Input.{Input}
use Rattle.lload_names.specs.declared.inputs.Input.TheVariants.{Arrive, LinkUp, Message, LetterFrom, Tick, LinkGone, Stall, Flow, Reload}
use Rattle.lload_names.specs.declared.names.Answer.{Answer}
use Rattle.lload_names.specs.declared.names.Answer.TheVariants.{Go, Busy, Unavailable}
use Rattle.lload_names.specs.declared.names.ConnKind.{ConnKind}
use Rattle.lload_names.specs.declared.names.ConnKind.TheVariants.{Regular, Bind}
use Rattle.lload_names.specs.declared.names.Letter.{Letter}
use Rattle.lload_names.specs.declared.names.Letter.TheVariants.{Ask, Choice, Returned, Forward, Reply, Failed, Drop, Leave, Ended, IsUp, IsRetired, IsDown, Pause, Resume}
use Rattle.lload_names.specs.declared.names.OpName.{OpName}
use Rattle.lload_names.specs.declared.plans.Place.{Place}
use Rattle.lload_names.specs.Same.{is_kind}
use Rattle.lload_spec.specs.Settings.{Settings, place_at, is_of_kind}
use Rattle.part_spec.specs.ConnectionState.{ConnectionState}
use Rattle.part_spec.specs.DeskState.{DeskState, step_desks, with_choice}
use Rattle.part_spec.specs.DeskTurn.{desk_turn, answer_to}
use Rattle.part_spec.specs.Inputs.{effects_of, letter_of, marked_by, moment_for, nothing}
use Rattle.part_spec.specs.Turn.{connection_turn, connection_act}
use Rattle.lload_names.specs.declared.inputs.Effects.{Effects}
use Rattle.lload_names.specs.declared.names.PartName.{PartName}
use Rattle.lload_names.specs.declared.names.PartName.TheVariants.{Desk, Client, Up as Connection}
use Rattle.std.proofs.lemmas.List.{append-nil}
use Rattle.part_spec.specs.Marked.{Taken}
use Rattle.part_spec.specs.World.{World, behind as behind_turn}
use Rattle.letter_queues.specs.Queues.{Carries}
use Rattle.proxy_core.specs.declared.world.World.{World as Here}
use Rattle.proxy_core.proofs.Moves.{desk-moved, client-moved, connection-moved}
use Rattle.load_desk.specs.Part.{HasPlan}
use Rattle.proxy_parts.specs.Connections.{IsUnplaced}
use Rattle.proxy_parts.specs.declared.connection.Connection.{Connection as Part}
use Rattle.proxy_core.specs.States.{Is, is_plain}

-- nothing was made
abbrev pub no_effects : Effects
no_effects = record { entries = []; letters = [] }

-- a connection without a place gives nothing
pub unplaced-turn : (s : Settings) (p : ConnectionState) (input : Input) → place_at s p.number ≡ None → connection_turn s p input ≡ no_effects
unplaced-turn s p input h = ap (λ (o : Option Place). effects_of (Connection p.number) (moment_for p.moment input) (elim o [ None ↦ nothing | Some place ↦ connection_act s p (moment_for p.moment input) input ])) h

-- a connection is of the kind of its place
same-kind : (k : ConnKind) → is_kind k k ≡ true
same-kind Regular = refl
same-kind Bind = refl

pub of-its-kind : (s : Settings) (n : ℕ) (place : Place) → place_at s n ≡ Some place → is_of_kind s place.kind n ≡ true
of-its-kind s n place h = ap (λ (o : Option Place). elim o [ None ↦ false | Some p ↦ is_kind place.kind p.kind ]) h ∙ same-kind place.kind

-- a plain input isn't that a link comes up, nor a plan

pub plain-unplaced : (s : Settings) (u : ℕ) (input : Input) (o : Option Part) → is_plain input ≡ true → IsUnplaced s u input o
plain-unplaced s u (LinkUp now) o h = absurd (let bad : false ≡ true = h in cc)
plain-unplaced s u (Arrive now) o h = tt
plain-unplaced s u (Message now id rest) o h = tt
plain-unplaced s u (LetterFrom now word sender letter) o h = tt
plain-unplaced s u (Tick now) o h = tt
plain-unplaced s u (LinkGone now why) o h = tt
plain-unplaced s u (Stall now) o h = tt
plain-unplaced s u (Flow now) o h = tt
plain-unplaced s u (Reload now plan base) o h = tt

pub plain-plan : (input : Input) → is_plain input ≡ true → HasPlan input
plain-plan (Reload now plan base) h = absurd (let bad : false ≡ true = h in cc)
plain-plan (Arrive now) h = tt
plain-plan (LinkUp now) h = tt
plain-plan (Message now id rest) h = tt
plain-plan (LetterFrom now word sender letter) h = tt
plain-plan (Tick now) h = tt
plain-plan (LinkGone now why) h = tt
plain-plan (Stall now) h = tt
plain-plan (Flow now) h = tt

-- and by it the desk's plan stays in force

choice-plan : (s : Settings) (op : OpName) (a : Answer) (p : DeskState) → (with_choice s op a p).plan ≡ p.plan
choice-plan s op (Go n b) p = refl
choice-plan s op Busy p = refl
choice-plan s op Unavailable p = refl

abbrev behind : Settings → DeskState → Input → DeskState
behind s p input = step_desks s p (marked_by (letter_of input) (desk_turn s p input).entries)

letter-plan : (s : Settings) (p : DeskState) (now word : ℕ) (sender : PartName) (l : Letter) → (behind s p (LetterFrom now word sender l)).plan ≡ p.plan
letter-plan s p now word sender (Ask op want) = choice-plan s op (answer_to s p word want) _
letter-plan s p now word sender (Returned op u) = refl
letter-plan s p now word sender (Ended op u latency) = refl
letter-plan s p now word sender (IsUp u) = refl
letter-plan s p now word sender (IsRetired u) = refl
letter-plan s p now word sender (IsDown u) = refl
letter-plan s p now word sender (Choice op answer) = refl
letter-plan s p now word sender (Forward op which rest ask_who holder) = refl
letter-plan s p now word sender (Reply op rest is_last who) = refl
letter-plan s p now word sender (Failed op which) = refl
letter-plan s p now word sender (Drop op) = refl
letter-plan s p now word sender (Leave holder) = refl
letter-plan s p now word sender (Pause client) = refl
letter-plan s p now word sender (Resume client) = refl

pub plan-stays : (s : Settings) (p : DeskState) (input : Input) → is_plain input ≡ true → (behind s p input).plan ≡ p.plan
plan-stays s p (LetterFrom now word sender l) h = letter-plan s p now word sender l
plan-stays s p (Reload now plan base) h = absurd (let bad : false ≡ true = h in cc)
plan-stays s p (Arrive now) h = refl
plan-stays s p (LinkUp now) h = refl
plan-stays s p (Message now id rest) h = refl
plan-stays s p (Tick now) h = refl
plan-stays s p (LinkGone now why) h = refl
plan-stays s p (Stall now) h = refl
plan-stays s p (Flow now) h = refl

-- no letters go in flight
nothing-more : {s : Settings} (v : World) (w : Here) → Is s v w → Carries (v.letters ++ []) w.letters
nothing-more v w h = rw (append-nil v.letters) h.letters

-- a turn that gives nothing leaves the world that a world stands for
pub quiet : (s : Settings) (v : World) (p : PartName) (mark : Option Taken) (w : Here) → Is s v w → Is s (behind_turn s p mark no_effects v) w
quiet s v Desk mark w h =
    desk-moved s v mark no_effects w w h h.agrees refl refl refl h.number h.desk (nothing-more v w h)
quiet s v (Client c) mark w h =
    client-moved s v c mark no_effects w w h (record { clients = refl; connections = refl; plans = refl; greatest = refl }) refl refl
    (λ n k. record { part = refl; ending = refl }) (h.clients c) (nothing-more v w h)
quiet s v (Connection u) mark w h =
    connection-moved s v u mark no_effects w w h h.agrees refl refl refl (λ n k. record { part = refl; ending = refl }) (h.connections u)
    (nothing-more v w h) h.known
