-- The letter that waits first may be taken, and what is left of a world where it was taken.
use Rattle.std.proofs.Common.{◌≡◌, ◌≢◌, ◌≤◌, ℕ, Bool, true, false, List, [], ◌∷◌, drop, length, Option, Some, None, refl, ap, ◌∙◌, sym, subst, arith}
use Rattle.std.specs.Prelude.{find, if◌then◌else◌}
use Rattle.std.specs.Option.{option_map}
use Rattle.lload_names.specs.declared.inputs.Input.{Input}
use Rattle.lload_names.specs.declared.inputs.Input.TheVariants.{LetterFrom}
use Rattle.lload_names.specs.declared.names.ConnKind.{ConnKind}
use Rattle.lload_names.specs.declared.names.ConnKind.TheVariants.{Regular, Bind}
use Rattle.lload_names.specs.declared.names.Letter.{Letter}
use Rattle.lload_names.specs.declared.names.Letter.TheVariants.{Ask, Choice, Returned, Forward, Reply, Failed, Drop, Leave, Ended, IsUp, IsRetired, IsDown, Pause, Resume}
use Rattle.lload_names.specs.declared.names.PartName.{PartName}
use Rattle.lload_names.specs.declared.names.PartName.TheVariants.{Desk, Client, Up as Connection}
use Rattle.lload_names.specs.declared.plans.Planned.{Planned}
use Rattle.lload_reload.specs.Bases.{AreNotBelow}
use Rattle.lload_spec.specs.Settings.{Settings}
use Rattle.part_spec.specs.ConnectionState.{ConnectionState}
use Rattle.part_spec.specs.Merge.{PartMove, world_of}
use Rattle.part_spec.specs.World as run
use Rattle.letter_queues.specs.Queues.{Carries}
use Rattle.load_desk.specs.Part as desk
use Rattle.taken_laws.specs.Runs.{WaitsFirst, FirstsForRegular, FirstsForBind, FirstsForDesk, FirstsForClient, FirstUpsAreLinked}
use Rattle.taken_laws.specs.Taking.{DeskMayTake}
use Rattle.proxy_parts.specs.States.{KindMayTake}
use Rattle.proxy_parts.specs.Connections.{IsConnection, connection_part}
use Rattle.proxy_parts.specs.declared.connection.Connection.{Connection as Part}
use Rattle.proxy_core.specs.States.{Is, MayTake}
use Rattle.proxy_core.specs.Turned.{KeepsParts}
use Rattle.proxy_core.specs.declared.world.World.{World}
use Rattle.proxy_core.proofs.Moves.{agrees-same}

not-below : (m n : ℕ) (ps : List Planned) → m ≤ n → AreNotBelow n ps → AreNotBelow m ps
not-below m n [] l h = tt
not-below m n (p ∷ ps) l h = (let below = h.0 in omega (arith, l, below), not-below m n ps l h.1)

-- a connection that was linked has a part, so it is at most the greatest
linked-known : (s : Settings) (v : run.World) (w : World) (u : ℕ) → Is s v w → (run.connection_in s v u).linked ≡ true → u ≤ w.greatest
linked-known s v w u h linked = h.known u (has (connection_part w.connections u) ((h.connections u).part))
  where
    has : (o : Option Part) → IsConnection s u (run.connection_in s v u) o → o ≢ None
    has None e = λ none. let bad : true ≡ false = sym linked ∙ ap (λ (p : ConnectionState). p.linked) e in cc
    has (Some c) e = λ none. let bad : ◌≡◌ {A = Option Part} (Some c) None = none in cc

-- the desk
for-desk : (s : Settings) (ms : List PartMove) (sender : PartName) (f : run.Flight) (w : World) → FirstUpsAreLinked → Is s (world_of s ms) w → WaitsFirst (world_of s ms) sender Desk f
    → (l : Letter) → f.posted.letter ≡ l → DeskMayTake s (world_of s ms).desk l → desk.IsTakenLetter s (world_of s ms).desk l
for-desk s ms sender f w ups h first (Ask op want) e m = m.unknown
for-desk s ms sender f w ups h first (Returned op u) e m = m.pending
for-desk s ms sender f w ups h first (Ended op u latency) e m = m.pending
for-desk s ms sender f w ups h first (IsUp u) e m = (
  m.unknown,
  m.placed,
  subst (λ k. AreNotBelow u (drop k s.plans)) (sym h.number) (not-below u w.greatest (drop (length w.plans) s.plans) (linked-known s (world_of s ms) w u h (ups s ms sender f u first e)) h.agrees.above),
)
for-desk s ms sender f w ups h first (IsRetired u) e m = tt
for-desk s ms sender f w ups h first (IsDown u) e m = tt
for-desk s ms sender f w ups h first (Choice op answer) e m = tt
for-desk s ms sender f w ups h first (Forward op which rest ask_who holder) e m = tt
for-desk s ms sender f w ups h first (Reply op rest is_last who) e m = tt
for-desk s ms sender f w ups h first (Failed op which) e m = tt
for-desk s ms sender f w ups h first (Drop op) e m = tt
for-desk s ms sender f w ups h first (Leave holder) e m = tt
for-desk s ms sender f w ups h first (Pause client) e m = tt
for-desk s ms sender f w ups h first (Resume client) e m = tt

-- a connection of either kind
for-connection : (s : Settings) (ms : List PartMove) (u : ℕ) (sender : PartName) (f : run.Flight) → FirstsForRegular → FirstsForBind → WaitsFirst (world_of s ms) sender (Connection u) f
    → (k : ConnKind) → (run.connection_in s (world_of s ms) u).kind ≡ k → KindMayTake k (run.connection_in s (world_of s ms) u) f.posted.letter
for-connection s ms u sender f regular bind first Regular e = regular s ms u sender f e first
for-connection s ms u sender f regular bind first Bind e = bind s ms u sender f e first

-- the laws on letters that wait first
pub record Firsts : Type 0 where
  pub regular : FirstsForRegular
  pub bind : FirstsForBind
  pub desk : FirstsForDesk
  pub client : FirstsForClient
  pub ups : FirstUpsAreLinked

pub may-take : (s : Settings) (ms : List PartMove) (p sender : PartName) (f : run.Flight) (now word : ℕ) (w : World) → Firsts → Is s (world_of s ms) w → WaitsFirst (world_of s ms) sender p f
    → MayTake s (world_of s ms) p (LetterFrom now word sender f.posted.letter)
may-take s ms Desk sender f now word w laws h first = for-desk s ms sender f w laws.ups h first f.posted.letter refl (laws.desk s ms sender f first)
may-take s ms (Client c) sender f now word w laws h first = laws.client s ms c sender f first
may-take s ms (Connection u) sender f now word w laws h first = for-connection s ms u sender f laws.regular laws.bind first (run.connection_in s (world_of s ms) u).kind refl

-- other letters are in flight, and the parts are the same
pub letters-changed : (s : Settings) (v : run.World) (letters : List run.Flight) (old new : World) → Is s v old → KeepsParts old new → Carries letters new.letters → Is s (record v { letters = letters }) new
letters-changed s v letters old new h parts carries =
    record {
      agrees =
          agrees-same s old new
          (record {
            clients = ap (λ c. c.settings) parts.clients;
            connections = ap (λ c. c.settings) parts.connections;
            plans = parts.plans;
            greatest = parts.greatest;
          }) h.agrees;
      number = rw (parts.plans) h.number;
      desk = rw (parts.desk) h.desk;
      clients = λ c. rw (parts.clients) (h.clients c);
      connections = λ u. rw (parts.connections) (h.connections u);
      letters = carries;
      known = λ u k. rw (parts.greatest) (h.known u (λ j. k (rw (parts.connections) j)));
    }

-- a part may take the same whatever letters are in flight
pub may-take-same : (s : Settings) (v : run.World) (letters : List run.Flight) (p : PartName) (input : Input) → MayTake s v p input → MayTake s (record v { letters = letters }) p input
may-take-same s v letters Desk input h = h
may-take-same s v letters (Client c) input h = h
may-take-same s v letters (Connection u) input h = h

-- the flight of a letter that was found, and that none was
pub record Found (o : Option run.Flight) (letter : Letter) : Type 0 where
  pub flight : run.Flight
  pub is : o ≡ Some flight
  pub letter_is : flight.posted.letter ≡ letter

pub found-some : (o : Option run.Flight) (letter : Letter) → option_map (λ f. f.posted.letter) o ≡ Some letter → Found o letter
found-some None letter e = absurd (let bad : ◌≡◌ {A = Option Letter} None (Some letter) = e in cc)
found-some (Some f) letter e = record { flight = f; is = refl; letter_is = cc }

pub found-none : (o : Option run.Flight) → ◌≡◌ {A = Option Letter} (option_map (λ f. f.posted.letter) o) None → o ≡ None
found-none None e = refl
found-none (Some f) e = absurd (let bad : ◌≡◌ {A = Option Letter} (Some f.posted.letter) None = e in cc)

pub none-left-out : (test : run.Flight → Bool) (fs : List run.Flight) → find test fs ≡ None → run.without_first test fs ≡ fs
none-left-out test [] e = refl
none-left-out test (f ∷ fs) e = by (test f) refl e (none-left-out test fs)
  where
    by : (b : Bool) → test f ≡ b → (if b then Some f else find test fs) ≡ None → (find test fs ≡ None → run.without_first test fs ≡ fs) → (elim b [ true ↦ fs | false ↦ f ∷ run.without_first test fs ]) ≡ f ∷ fs
    by true t k ih = absurd (let bad : ◌≡◌ {A = Option run.Flight} (Some f) None = k in cc)
    by false t k ih = ap (λ l. f ∷ l) (ih k)

-- a world that stands for one stands for another that is the same
pub stands-same : (s : Settings) (v u : run.World) (w : World) → u ≡ v → Is s v w → Is s u w
stands-same s v u w e h = subst (λ x. Is s x w) (sym e) h
