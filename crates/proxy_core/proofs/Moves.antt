-- What a turn of a part makes of the world that a world stands for.
use Rattle.std.proofs.Common.{◌≡◌, ◌≢◌, ◌≤◌, ◌==◌, ℕ, Bool, true, false, ◌++◌, length, Option, None, Result, Ok, Err, OnErr, refl, ap, ◌∙◌, sym, subst}
use Rattle.std.proofs.lemmas.Bool.{eqb-true, eqb-false}
use Rattle.proxy_core.proofs.Letters.{same}
use Rattle.proxy_core.specs.Turned.{KeepsParts, KeepsLetters}
use Rattle.lload_names.specs.declared.inputs.Effects.{Effects}
use Rattle.lload_names.specs.declared.names.PartName.TheVariants.{Desk, Client, Up as Connection}
use Rattle.lload_spec.specs.Settings.{Settings}
use Rattle.part_spec.specs.Inputs.{marked_by}
use Rattle.part_spec.specs.Marked.{Taken}
use Rattle.part_spec.specs.ClientState.{step_clients}
use Rattle.part_spec.specs.ConnectionState.{step_connections}
use Rattle.part_spec.specs.DeskState.{step_desks}
use Rattle.part_spec.specs.World as run
use Rattle.letter_queues.specs.Queues.{Carries}
use Rattle.load_desk.specs.Part as desk
use Rattle.proxy_parts.specs.Clients.{ClientIs, IsSameClient}
use Rattle.proxy_parts.specs.Connections.{ConnectionIs, IsSameConnection, connection_part}
use Rattle.proxy_parts.specs.declared.connections.Connections.{Connections}
use Rattle.proxy_core.specs.States.{Agrees, Is}
use Rattle.proxy_core.specs.declared.world.World.{World}
use Rattle.proxy_core.proofs.Each.{each-client, each-connection}

-- two worlds have the same settings and plans
pub record SameSettings (old new : World) : Type 0 where
  pub clients : new.clients.settings ≡ old.clients.settings
  pub connections : new.connections.settings ≡ old.connections.settings
  pub plans : new.plans ≡ old.plans
  pub greatest : new.greatest ≡ old.greatest

pub agrees-same : (s : Settings) (old new : World) → SameSettings old new → Agrees s old → Agrees s new
agrees-same s old new e h =
    record {
      clients = rw (e.clients) h.clients;
      connections = rw (e.connections) h.connections;
      plans = h.plans;
      so_far = rw (e.plans) h.so_far;
      above = rw (e.plans) (rw (e.greatest) h.above);
    }

-- a client is the same in two tables
same-client : (s : Settings) (n : ℕ) (old new : World) (v : run.World) → IsSameClient n old.clients new.clients → ClientIs s n (run.client_in v n) old.clients → ClientIs s n (run.client_in v n) new.clients
same-client s n old new v e h = record { part = rw (e.part) h.part; ending = λ k g. e.ending ∙ h.ending (λ j. k (e.part ∙ j)) g }

pub same-connection : (s : Settings) (n : ℕ) (old new : Connections) (v : run.World) → IsSameConnection n old new → ConnectionIs s n (run.connection_in s v n) old → ConnectionIs s n (run.connection_in s v n) new
same-connection s n old new v e h = record { part = rw (e.part) h.part; ending = λ k g. e.ending ∙ h.ending (λ j. k (e.part ∙ j)) g }

-- a client moved
pub client-moved : (s : Settings) (v : run.World) (c : ℕ) (mark : Option Taken) (e : Effects) (old new : World)
    → Is s v old → SameSettings old new → new.desk ≡ old.desk → new.connections ≡ old.connections
    → ((n : ℕ) → n ≢ c → IsSameClient n old.clients new.clients)
    → ClientIs s c (step_clients s (run.client_in v c) (marked_by mark e.entries)) new.clients
    → Carries (v.letters ++ run.flights (Client c) e.letters) new.letters
    → Is s (run.behind s (Client c) mark e v) new
client-moved s v c mark e old new h same desk connections others here letters =
    record {
      agrees = agrees-same s old new same h.agrees;
      number = rw (same.plans) h.number;
      desk = rw desk h.desk;
      clients = each-client (λ n p. ClientIs s n p new.clients) s c mark e v here (λ n k. same-client s n old new v (others n k) (h.clients n));
      connections = λ u. rw connections (h.connections u);
      letters = letters;
      known = λ u k. rw (same.greatest) (h.known u (λ j. k (rw connections j)));
    }

-- a connection moved; it may be the greatest from now on
pub connection-moved : (s : Settings) (v : run.World) (u : ℕ) (mark : Option Taken) (e : Effects) (old new : World)
    → Is s v old → Agrees s new → new.plans ≡ old.plans → new.desk ≡ old.desk → new.clients ≡ old.clients
    → ((n : ℕ) → n ≢ u → IsSameConnection n old.connections new.connections)
    → ConnectionIs s u (step_connections s (run.connection_in s v u) (marked_by mark e.entries)) new.connections
    → Carries (v.letters ++ run.flights (Connection u) e.letters) new.letters
    → ((n : ℕ) → connection_part new.connections n ≢ None → n ≤ new.greatest)
    → Is s (run.behind s (Connection u) mark e v) new
connection-moved s v u mark e old new h agrees plans desk clients others here letters known =
    record {
      agrees = agrees;
      number = rw plans h.number;
      desk = rw desk h.desk;
      clients = λ c. rw clients (h.clients c);
      connections = each-connection (λ n p. ConnectionIs s n p new.connections) s u mark e v here (λ n k. same-connection s n old.connections new.connections v (others n k) (h.connections n));
      letters = letters;
      known = known;
    }

-- the desk moved
pub desk-moved : (s : Settings) (v : run.World) (mark : Option Taken) (e : Effects) (old new : World)
    → Is s v old → Agrees s new → new.clients ≡ old.clients → new.connections ≡ old.connections → new.greatest ≡ old.greatest
    → (step_desks s v.desk (marked_by mark e.entries)).plan ≡ length new.plans
    → desk.Stands s (step_desks s v.desk (marked_by mark e.entries)) new.desk
    → Carries (v.letters ++ run.flights Desk e.letters) new.letters
    → Is s (run.behind s Desk mark e v) new
desk-moved s v mark e old new h agrees clients connections greatest number stands letters =
    record {
      agrees = agrees;
      number = number;
      desk = stands;
      clients = λ c. rw clients (h.clients c);
      connections = λ u. rw connections (h.connections u);
      letters = letters;
      known = λ u k. rw greatest (h.known u (λ j. k (rw connections j)));
    }

-- room was made: no part and no queue is another one
pub room-made : (s : Settings) (v : run.World) (old new : World) → KeepsParts old new → KeepsLetters old new → Is s v old → Is s v new
room-made s v old new parts letters h =
    record {
      agrees =
          agrees-same s old new
          (record {
            clients = ap (λ c. c.settings) parts.clients;
            connections = ap (λ c. c.settings) parts.connections;
            plans = parts.plans;
            greatest = parts.greatest;
          }) h.agrees;
      number = rw (parts.plans) h.number;
      desk = rw (parts.desk) h.desk;
      clients = λ c. rw (parts.clients) (h.clients c);
      connections = λ u. rw (parts.connections) (h.connections u);
      letters = same v.letters old.letters new.letters h.letters letters.queues;
      known = λ u k. rw (parts.greatest) (h.known u (λ j. k (rw (parts.connections) j)));
    }

-- a client's table changed, and stands for what it stood for
pub client-stays : (s : Settings) (v : run.World) (c : ℕ) (old new : World)
    → Is s v old → SameSettings old new → new.desk ≡ old.desk → new.connections ≡ old.connections → new.letters ≡ old.letters
    → ((n : ℕ) → n ≢ c → IsSameClient n old.clients new.clients)
    → ClientIs s c (run.client_in v c) new.clients
    → Is s v new
client-stays s v c old new h settings desk connections letters others here =
    record {
      agrees = agrees-same s old new settings h.agrees;
      number = rw (settings.plans) h.number;
      desk = rw desk h.desk;
      clients = λ n. by n (n == c) refl;
      connections = λ u. rw connections (h.connections u);
      letters = rw letters h.letters;
      known = λ u k. rw (settings.greatest) (h.known u (λ j. k (rw connections j)));
    }
  where
    by : (n : ℕ) (b : Bool) → (n == c) ≡ b → ClientIs s n (run.client_in v n) new.clients
    by n true e = subst (λ m. ClientIs s m (run.client_in v m) new.clients) (sym (eqb-true n c e)) here
    by n false e = same-client s n old new v (others n (eqb-false n c e)) (h.clients n)

-- what is said of an error, where it holds anyway
pub said-of-error : {T E X : Type 0} (r : Result T E) → X → OnErr r X
said-of-error (Ok t) x = tt
said-of-error (Err e) x = x

-- the connections' table changed, and each is the same
pub connection-stays : (s : Settings) (v : run.World) (old new : World)
    → Is s v old → SameSettings old new → new.desk ≡ old.desk → new.clients ≡ old.clients → new.letters ≡ old.letters
    → ((n : ℕ) → ConnectionIs s n (run.connection_in s v n) new.connections)
    → ((n : ℕ) → connection_part new.connections n ≢ None → connection_part old.connections n ≢ None)
    → Is s v new
connection-stays s v old new h settings desk clients letters each had =
    record {
      agrees = agrees-same s old new settings h.agrees;
      number = rw (settings.plans) h.number;
      desk = rw desk h.desk;
      clients = λ c. rw clients (h.clients c);
      connections = each;
      letters = rw letters h.letters;
      known = λ u k. rw (settings.greatest) (h.known u (had u k));
    }

-- a connection other than one is the same, and that one stands for its state: so each does
pub each-stands : (s : Settings) (v : run.World) (u : ℕ) (old new : Connections)
    → ((n : ℕ) → ConnectionIs s n (run.connection_in s v n) old)
    → ((n : ℕ) → n ≢ u → IsSameConnection n old new)
    → ConnectionIs s u (run.connection_in s v u) new
    → (n : ℕ) → ConnectionIs s n (run.connection_in s v n) new
each-stands s v u old new each others here n = by (n == u) refl
  where
    by : (b : Bool) → (n == u) ≡ b → ConnectionIs s n (run.connection_in s v n) new
    by true e = subst (λ m. ConnectionIs s m (run.connection_in s v m) new) (sym (eqb-true n u e)) here
    by false e = same-connection s n old new v (others n (eqb-false n u e)) (each n)

-- a part that is there was there, where each other is the same and that one didn't come
pub was-there : (u : ℕ) (old new : Connections)
    → ((n : ℕ) → n ≢ u → IsSameConnection n old new)
    → (connection_part old u ≡ None → connection_part new u ≡ None)
    → (n : ℕ) → connection_part new n ≢ None → connection_part old n ≢ None
was-there u old new others here n = by (n == u) refl
  where
    by : (b : Bool) → (n == u) ≡ b → connection_part new n ≢ None → connection_part old n ≢ None
    by true e = subst (λ m. connection_part new m ≢ None → connection_part old m ≢ None) (sym (eqb-true n u e)) (λ k j. k (here j))
    by false e = λ k j. k ((others n (eqb-false n u e)).part ∙ j)

-- a part that is there was there, where each is the same
pub part-had : (u : ℕ) (old new : Connections)
    → ((n : ℕ) → n ≢ u → IsSameConnection n old new)
    → connection_part new u ≡ connection_part old u
    → (n : ℕ) → connection_part new n ≢ None → connection_part old n ≢ None
part-had u old new others here = was-there u old new others (λ none. here ∙ none)

-- the desk changed, and stands for what it stood for
pub desk-stays : (s : Settings) (v : run.World) (old new : World)
    → Is s v old → new.clients ≡ old.clients → new.connections ≡ old.connections → new.letters ≡ old.letters → new.plans ≡ old.plans
    → new.greatest ≡ old.greatest → desk.Stands s v.desk new.desk → Is s v new
desk-stays s v old new h clients connections letters plans greatest stands =
    record {
      agrees =
          agrees-same s old new
          (record { clients = ap (λ c. c.settings) clients; connections = ap (λ c. c.settings) connections; plans = plans; greatest = greatest })
          h.agrees;
      number = rw plans h.number;
      desk = stands;
      clients = λ c. rw clients (h.clients c);
      connections = λ u. rw connections (h.connections u);
      letters = rw letters h.letters;
      known = λ u k. rw greatest (h.known u (λ j. k (rw connections j)));
    }
