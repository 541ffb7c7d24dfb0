-- A turn that makes no entry gives no letter.
use Rattle.std.proofs.Common.{◌≡◌, ℕ, Bool, true, false, ◌&&◌, not, List, [], ◌∷◌, ◌++◌, refl}
use Rattle.std.specs.Prelude.{◌==◌, Option, Some, None, filter, find}
use Rattle.ldap_spec.specs.Messages.{Message}
use Rattle.lload_names.specs.declared.inputs.Input.{Input}
use Rattle.lload_names.specs.declared.inputs.Input.TheVariants.{Arrive, LinkUp, Message as MessageIn, LetterFrom, Tick, LinkGone, Stall, Flow, Reload}
use Rattle.lload_names.specs.declared.names.EndWhy.{EndWhy}
use Rattle.lload_names.specs.declared.names.EndWhy.TheVariants.{Bad, TooBig, TimedOut, Drained}
use Rattle.lload_names.specs.declared.names.Letter.{Letter}
use Rattle.lload_names.specs.declared.names.Letter.TheVariants.{Ask, Returned, Ended, IsUp, IsRetired, IsDown, Choice, Forward, Reply, Failed, Drop, Leave, Pause, Resume}
use Rattle.lload_names.specs.declared.names.PartName.{PartName}
use Rattle.lload_names.specs.declared.names.PartName.TheVariants.{Desk, Client, Up as Connection}
use Rattle.lload_names.specs.declared.names.ConnKind.{ConnKind}
use Rattle.lload_names.specs.declared.names.ConnKind.TheVariants.{Regular, Bind}
use Rattle.lload_names.specs.declared.names.What.{What}
use Rattle.lload_names.specs.declared.names.What.TheVariants as what
use Rattle.lload_names.specs.declared.plans.Place.{Place}
use Rattle.lload_spec.specs.Settings.{Settings, place_at}
use Rattle.part_spec.specs.Inputs.{Act, act, nothing, also, where_so, entries_of, letter_of, to}
use Rattle.part_spec.specs.Marked.{Marked, Taken}
use Rattle.part_spec.specs.ClientState.{ClientState, client_of, is_present, is_holding as is_waiting, check_at, row_named as row_of}
use Rattle.part_spec.specs.ClientTurn.{client_act, by_check, letter as client_letter, link_gone, stalls, flows, closing}
use Rattle.part_spec.specs.ConnectionState.{ConnectionState, UpRow, connection_of, is_there, is_holding, is_stopped, row_named}
use Rattle.part_spec.specs.ConnectionTurn.{giving, goes_down, behind_act, is_drained, with_drained, is_due}
use Rattle.part_spec.specs.RegularTurn.{regular_act, regular_rule, expire}
use Rattle.part_spec.specs.BindTurn.{bind_act, bind_rule}
use Rattle.part_spec.specs.DeskState.{DeskState, desk_of}
use Rattle.part_spec.specs.DeskTurn.{desk_act, letter as desk_letter, is_taken}
use Rattle.part_spec.specs.Turn.{connection_act}
use Rattle.part_spec.specs.Merge.{Intake, Takes, Severed, turn_behind}
use Rattle.part_spec.specs.RegularTurn as regular
use Rattle.part_spec.specs.BindTurn as bind

-- a rule that makes nothing happen gives no letter
abbrev IsQuiet : Act → Type 0
IsQuiet a = a.whats ≡ [] → a.letters ≡ []

-- what makes something happen is so
loud : {A : Type 0} (w : What) (ws : List What) → w ∷ ws ≡ [] → A
loud w ws h = absurd (let bad : w ∷ ws ≡ [] = h in cc)

silent : IsQuiet nothing
silent h = refl

quiet_if : (b : Bool) (x y : Act) → IsQuiet x → IsQuiet y → IsQuiet (elim b [ true ↦ x | false ↦ y ])
quiet_if true x y h k = h
quiet_if false x y h k = k

quiet_some : {A : Type 0} (o : Option A) (x : Act) (f : A → Act) → IsQuiet x → ((a : A) → IsQuiet (f a)) → IsQuiet (elim o [ None ↦ x | Some a ↦ f a ])
quiet_some None x f h k = h
quiet_some (Some a) x f h k = k a

where_quiet : (b : Bool) (a : Act) → IsQuiet a → IsQuiet (where_so b a)
where_quiet true a h = h
where_quiet false a h = silent

-- an identifier that is given makes something happen
abbrev AreNone : List What → Type 0
AreNone ws = ws ≡ []

given : {A : Type 0} (s : Settings) (id : ℕ) (w : What) → AreNone (giving s id w) → A
given s id w = by (id == s.id_limit)
  where
    by : {A : Type 0} (b : Bool) → AreNone (elim b [ true ↦ w ∷ what.Retired ∷ [] | false ↦ w ∷ [] ]) → A
    by true h = loud w (what.Retired ∷ []) h
    by false h = loud w [] h

-- The desk.

desk_quiet : (s : Settings) (p : DeskState) (i : Input) → IsQuiet (desk_act s p i)
desk_quiet s p (LetterFrom now word sender l) = of_letter l
  where
    of_letter : (l : Letter) → IsQuiet (desk_letter s p word l)
    of_letter (Ask op want) h = loud _ _ h
    of_letter (Returned op u) h = refl
    of_letter (Ended op u latency) h = refl
    of_letter (IsUp u) h = refl
    of_letter (IsRetired u) h = refl
    of_letter (IsDown u) h = refl
    of_letter _ h = refl
desk_quiet s p (Reload now plan base) = quiet_if (is_taken s p plan base) _ _ (λ h. refl) silent
desk_quiet s p _ = silent

-- A client.

client_letter_quiet : (s : Settings) (p : ClientState) (l : Letter) → IsQuiet (client_letter s p l)
client_letter_quiet s p (Choice op a) = λ h. loud _ _ h
client_letter_quiet s p (Reply op rest is_last who) = quiet_some (row_of p op) _ _ (λ h. refl) (λ r h. refl)
client_letter_quiet s p (Failed op which) = quiet_some (row_of p op) _ _ (λ h. refl) (λ r h. refl)
client_letter_quiet s p _ = silent

link_quiet : (p : ClientState) (why : EndWhy) → IsQuiet (link_gone p why)
link_quiet p Bad h = loud _ _ h
link_quiet p TooBig h = loud _ _ h
link_quiet p _ h = refl

client_quiet : (s : Settings) (p : ClientState) (at : ℕ) (i : Input) → IsQuiet (client_act s p at i)
client_quiet s p at (Arrive now) = where_quiet (not p.arrived) _ (λ h. refl)
client_quiet s p at (MessageIn now id rest) = by (is_present p && not (is_waiting s p))
  where
    m : Message
    m = record { id = id; rest = rest }

    by : (b : Bool) → IsQuiet (elim b [ false ↦ nothing | true ↦ by_check s p at m (check_at s p m) ])
    by true h = loud _ _ h
    by false h = refl
client_quiet s p at (LetterFrom now word sender l) = where_quiet p.arrived _ (client_letter_quiet s p l)
client_quiet s p at (LinkGone now why) = where_quiet (is_present p) _ (link_quiet p why)
client_quiet s p at (Stall now) = where_quiet (is_present p && not p.pausing.stalled) (stalls p) (λ h. loud _ _ h)
client_quiet s p at (Flow now) = where_quiet (is_present p && p.pausing.stalled) (flows p) (λ h. loud _ _ h)
client_quiet s p at _ = silent

-- A connection.

drained_quiet : (s : Settings) (at : ℕ) (mark : Option Taken) (p : ConnectionState) (a : Act) → IsQuiet a → IsQuiet (with_drained s at mark p a)
drained_quiet s at mark p a q = by (is_drained (behind_act s at mark p a))
  where
    ends : {A : Type 0} (ws : List What) (w : What) → AreNone (ws ++ w ∷ []) → A
    ends [] w h = loud w [] h
    ends (v ∷ ws) w h = loud v (ws ++ w ∷ []) h

    by : (b : Bool) → IsQuiet (elim b [ true ↦ also a (act (what.Down Drained ∷ []) (to Desk (IsDown p.number))) | false ↦ a ])
    by true h = ends a.whats (what.Down Drained) h
    by false h = q h

down_quiet : (p : ConnectionState) (why : EndWhy) → IsQuiet (goes_down p why)
down_quiet p why h = loud _ _ h

regular_letter_quiet : (s : Settings) (p : ConnectionState) (l : Letter) → IsQuiet (regular.letter s p l)
regular_letter_quiet s p (Forward op _ rest ask holder) = quiet_if (is_stopped p) _ _ (λ h. loud _ _ h) (λ h. given s _ _ h)
regular_letter_quiet s p (Drop op) = quiet_some (row_named p op) _ _ (λ h. refl) (λ r h. given s _ _ h)
regular_letter_quiet s p (Pause client) = λ h. refl
regular_letter_quiet s p (Resume client) = λ h. refl
regular_letter_quiet s p _ = silent

regular_ticks_quiet : (s : Settings) (p : ConnectionState) (at : ℕ) → IsQuiet (regular.ticks s p at)
regular_ticks_quiet s p at = by (filter (is_due s at) p.rows)
  where
    by : (rs : List UpRow) → IsQuiet (also (expire s p p.ids.next rs) (where_so (regular.is_own_due s p at) (goes_down p TimedOut)))
    by [] = where_quiet (regular.is_own_due s p at) (goes_down p TimedOut) (down_quiet p TimedOut)
    by (r ∷ rs) = λ h. loud _ _ h

regular_quiet : (s : Settings) (p : ConnectionState) (at : ℕ) (i : Input) → IsQuiet (regular_rule s p at i)
regular_quiet s p at (LinkUp now) = where_quiet (not p.linked) (regular.link_up s p) (λ h. loud _ _ h)
regular_quiet s p at (MessageIn now id rest) = where_quiet (is_there p && not (is_holding p)) _ (λ h. loud _ _ h)
regular_quiet s p at (LetterFrom now word sender l) = where_quiet p.linked _ (regular_letter_quiet s p l)
regular_quiet s p at (Tick now) = where_quiet (is_there p) _ (regular_ticks_quiet s p at)
regular_quiet s p at _ = silent

bind_letter_quiet : (s : Settings) (p : ConnectionState) (l : Letter) → IsQuiet (bind.letter s p l)
bind_letter_quiet s p (Forward op _ rest ask holder) = quiet_if (is_stopped p) _ _ (λ h. loud _ _ h) (λ h. given s _ _ h)
bind_letter_quiet s p (Drop op) = λ h. refl
bind_letter_quiet s p (Leave holder) = quiet_if (bind.holds p holder && not p.down) _ _ (λ h. loud _ _ h) (λ h. refl)
bind_letter_quiet s p _ = silent

bind_quiet : (s : Settings) (p : ConnectionState) (at : ℕ) (i : Input) → IsQuiet (bind_rule s p at i)
bind_quiet s p at (LinkUp now) = where_quiet (not p.linked) (bind.link_up p) (λ h. loud _ _ h)
bind_quiet s p at (MessageIn now id rest) = where_quiet (is_there p) _ (λ h. loud _ _ h)
bind_quiet s p at (LetterFrom now word sender l) = where_quiet p.linked _ (bind_letter_quiet s p l)
bind_quiet s p at (Tick now) = where_quiet (is_there p) (bind.ticks s p at) (quiet_some (find (is_due s at) p.rows) _ _ silent (λ r h. loud _ _ h))
bind_quiet s p at _ = silent

connection_quiet : (s : Settings) (p : ConnectionState) (at : ℕ) (i : Input) → IsQuiet (connection_act s p at i)
connection_quiet s p at i = by p.kind
  where
    by : (k : ConnKind) → IsQuiet (elim k [ Regular ↦ regular_act s p at i | Bind ↦ bind_act s p at i ])
    by Regular = drained_quiet s at (letter_of i) p (regular_rule s p at i) (regular_quiet s p at i)
    by Bind = drained_quiet s at (letter_of i) p (bind_rule s p at i) (bind_quiet s p at i)

-- or nothing where it has no place
placed_quiet : (s : Settings) (p : ConnectionState) (at : ℕ) (i : Input) (o : Option Place) → IsQuiet (elim o [ None ↦ nothing | Some place ↦ connection_act s p at i ])
placed_quiet s p at i None = silent
placed_quiet s p at i (Some place) = connection_quiet s p at i

-- The turns.

whats_none : (p : PartName) (at : ℕ) (ws : List What) → entries_of p at ws ≡ [] → ws ≡ []
whats_none p at [] h = refl
whats_none p at (w ∷ ws) h = absurd (let bad : entries_of p at (w ∷ ws) ≡ [] = h in cc)

pub turn_quiet : (s : Settings) (p : PartName) (list : List Marked) (x : Intake) → (turn_behind s p list x).entries ≡ [] → (turn_behind s p list x).letters ≡ []
turn_quiet s Desk list (Takes i) h = desk_quiet s (desk_of s list) i (whats_none _ _ _ h)
turn_quiet s Desk list (Severed now why) h = refl
turn_quiet s (Client c) list (Takes i) h = client_quiet s (client_of s c list) _ i (whats_none _ _ _ h)
turn_quiet s (Client c) list (Severed now why) h = where_quiet (is_present (client_of s c list)) (act (what.Gone why ∷ []) (closing (client_of s c list))) (λ k. loud _ _ k) (whats_none _ _ _ h)
turn_quiet s (Connection u) list (Takes i) h = placed_quiet s (connection_of s u list) _ i (place_at s (connection_of s u list).number) (whats_none _ _ _ h)
turn_quiet s (Connection u) list (Severed now why) h = where_quiet (is_there (connection_of s u list)) (goes_down (connection_of s u list) why) (down_quiet (connection_of s u list) why) (whats_none _ _ _ h)
