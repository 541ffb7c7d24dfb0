-- For which states of the definitions a client's part stands.
use Rattle.std.specs.Prelude.{◌≡◌, ◌≤◌, ◌+◌, ℕ, Bool, true, false, ◌==◌, ◌&&◌, nat_le, List, [], ◌∷◌, filter, find, length, map, Option, Some, None, is_some, unwrap_or, if◌then◌else◌}
use Rattle.std.specs.List.{list_all}
use Rattle.std.specs.Option.{option_map}
use Rattle.lload_names.specs.declared.names.OpKind.{OpKind}
use Rattle.lload_names.specs.declared.names.OpName.{OpName}
use Rattle.lload_names.specs.Same.{same_op}
use Rattle.ldap_spec.specs.Kinds.{kind_of}
use Rattle.ldap_spec.specs.Requests.{Request, BindRequest, Simple, request}
use Rattle.lload_spec.specs.Settings.{Settings, Action, Write}
use Rattle.lload_spec.specs.Binding.{is_action, restricts}
use Rattle.lload_spec.specs.BindingCalls.{Call, standing}
use Rattle.lload_spec.specs.Identity.{simple_identity}
use Rattle.lload_spec.specs.Window.{Standing}
use Rattle.restrictions.specs.Actions.{action_view}
use Rattle.lload_names.specs.declared.names.What.{What}
use Rattle.lload_names.specs.declared.names.What.TheVariants.{Out, Late}
use Rattle.lload_names.specs.declared.inputs.Input.{Input}
use Rattle.part_spec.specs.Inputs.{letter_of, marked_by}
use Rattle.part_spec.specs.ClientTurn.{client_turn}
use Rattle.part_spec.specs.ClientState.{step_clients, ClientRow, ClientState, Held as HeldBy, Window as WindowBy, AskedFor, is_written}
use Rattle.client_rows.specs.Rows.{Counted, connection_of}
use Rattle.client_rows.specs.declared.row.Row.{Row}
use Rattle.client_rows.specs.declared.row.Way.{Way}
use Rattle.client_rows.specs.declared.row.Way.TheVariants.{Waits, Went}
use Rattle.client_session.specs.Checks.{Agrees}
use Rattle.client_session.specs.declared.part.Held.{Held}
use Rattle.client_session.specs.declared.part.ClientPart.{ClientPart}

-- what is kept of a live operation: once it was forwarded, its request is no longer wanted
pub record Seen : Type 0 where
  pub k : ℕ
  pub id : ℕ
  pub kind : Option OpKind
  pub action : Action
  pub restricts : Bool
  pub who : Option (List ℕ)
  pub way : Way

-- the identity that a simple Bind gives
abbrev pub simple_who : Option Request → Option (List ℕ)
simple_who (Some (BindRequest version name (Simple password))) = Some (simple_identity name password)
simple_who _ = None

-- how far an operation is on its way
abbrev pub way_of : List ℕ → Option ℕ → Way
way_of rest None = Waits rest
way_of rest (Some u) = Went u

-- what the state has of it, and what the part has
abbrev pub seen : Settings → ClientRow → Seen
seen s r =
    record {
      k = r.k;
      id = r.request.id;
      kind = kind_of r.request.rest;
      action = r.action;
      restricts = restricts s r.action;
      who = simple_who (request r.request.rest);
      way = way_of r.request.rest r.connection;
    }

abbrev pub shown : Row → Seen
shown r =
    record {
      k = r.k;
      id = r.id;
      kind = Some r.kind;
      action = action_view r.action;
      restricts = r.restricts;
      who = r.who;
      way = r.way;
    }

abbrev pub held : Held → HeldBy
held h = record { connection = h.conn; holder = h.holder }

-- the operations
pub record Live (s : Settings) (count : ℕ) (rows : List ClientRow) (o : Counted) : Type 0 where
  pub count_is : count ≡ o.count
  pub rows_are : map (seen s) rows ≡ map shown o.rows

-- what the desk was asked for: operations of this client that came, none twice
pub record Asks (number : ℕ) (count : ℕ) (asked : List AskedFor) (many : ℕ) : Type 0 where
  pub many_are : length asked ≡ many
  pub own : list_all (λ a. a.op.client == number && nat_le a.op.k count) asked ≡ true
  pub once : (op : OpName) → length (filter (λ a. same_op op a.op) asked) ≤ 1

-- what its window says, with these operations
abbrev pub standing_for : Settings → List ClientRow → WindowBy → Standing
standing_for s rows w =
    record {
      seconds = s.write_coherence;
      connection = w.connection;
      backend = w.backend;
      write = w.write;
      live = length (filter is_written rows);
      ended = w.write_ended;
    }

-- what binds it
pub record Binds (s : Settings) (rows : List ClientRow) (w : WindowBy) (kept : Standing) : Type 0 where
  pub calls : List Call
  pub kept_is : kept ≡ standing s.write_coherence calls
  pub says : standing_for s rows w ≡ kept

-- the part stands for a state
pub record Stands (s : Settings) (p : ClientState) (d : ClientPart) : Type 0 where
  pub settings : Agrees s d.settings
  pub number : p.number ≡ d.number
  pub moment : p.moment ≡ d.moment
  pub arrived : p.arrived ≡ d.arrived
  pub gone : p.gone ≡ d.gone
  pub live : Live s p.count p.rows d.operations
  pub asks : Asks p.number p.count p.asked d.asked
  pub identity : p.identity ≡ d.identity
  pub in_exchange : p.in_exchange ≡ d.in_exchange
  pub hold : p.hold ≡ option_map held d.hold
  pub binds : p.gone ≡ false → Binds s p.rows p.window d.window
  pub stalled : p.pausing.stalled ≡ d.stalled
  pub paused : p.pausing.paused ≡ d.paused.keys
  pub idle : p.pausing.stalled ≡ false → p.pausing.paused ≡ []
  pub room : p.arrived ≡ true → p.gone ≡ false → length d.operations.rows + 1 + length d.paused.keys ≤ d.kept

-- the state behind an input
abbrev pub behind : Settings → ClientState → Input → ClientState
behind s p input = step_clients s p (marked_by (letter_of input) (client_turn s p input).entries)

-- whether nothing is left
abbrev pub is_empty : {A : Type 0} → List A → Bool
is_empty [] = true
is_empty (x ∷ xs) = false

-- whether an operation is a write that was forwarded
abbrev pub written : Row → Bool
written r = is_action Write (action_view r.action) && is_some (connection_of r)

-- the identity that a Bind gives, by its own name and by what was told
abbrev pub identity_by : Bool → Option (List ℕ) → Option (List ℕ) → List ℕ
identity_by proxies (Some own) who = own
identity_by proxies None who = if proxies then unwrap_or who [] else []

-- an entry of what a client is told, which asks the desk for nothing
abbrev pub IsToldOnly : What → Type 0
IsToldOnly (Out id rest) = Unit {0}
IsToldOnly (Late op) = Unit {0}
IsToldOnly _ = false ≡ true
