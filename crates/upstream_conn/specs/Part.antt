-- For which states a regular connection's part stands.
use Rattle.std.specs.Prelude.{◌≡◌, ◌≤◌, ◌==◌, ℕ, Bool, true, false, List, [], Option, Some, None, ⊤}
use Rattle.ldap_spec.specs.Bodies.{simple_bind}
use Rattle.ldap_spec.specs.Kinds.{same_kind}
use Rattle.lload_names.specs.declared.names.OpKind.TheVariants.{Bind}
use Rattle.lload_names.specs.declared.names.ConnKind.TheVariants.{Regular}
use Rattle.lload_names.specs.declared.names.Letter.{Letter}
use Rattle.lload_names.specs.declared.names.Letter.TheVariants.{Forward}
use Rattle.lload_names.specs.declared.inputs.Input.{Input}
use Rattle.lload_names.specs.declared.inputs.Input.TheVariants.{LetterFrom}
use Rattle.lload_spec.specs.Settings.{Settings, is_of_kind}
use Rattle.id_table.specs.Rows.{id_of}
use Rattle.part_spec.specs.ConnectionState.{ConnectionState, OwnWait as UpWait}
use Rattle.part_spec.specs.ConnectionTurn.{is_drained}
use Rattle.conn_core.specs.Kept.{ArePlain}
use Rattle.conn_core.specs.declared.settings.OwnBindBytes.{OwnBindBytes}
use Rattle.conn_core.specs.declared.settings.UpSettings.{UpSettings}
use Rattle.conn_core.specs.Conn.{Conn, state_of, Agrees, IsSound}
use Rattle.upstream_conn.specs.declared.part.OwnWait.{OwnWait}
use Rattle.upstream_conn.specs.declared.part.UpstreamPart.{UpstreamPart}

-- the own Bind that waits
abbrev pub up_wait : Option OwnWait → Option UpWait
up_wait None = None
up_wait (Some w) = Some (record { id = w.id; at = w.at })

-- the state of its list: a regular connection has no holder
abbrev pub state : UpstreamPart → ConnectionState
state u = state_of u.core (up_wait u.own) None None u.waiting

-- the own Bind's request, where one is configured
abbrev pub own_request : Settings → Option (List ℕ)
own_request s = elim s.own_bind [ None ↦ None | Some own ↦ Some (simple_bind own.dn own.credentials) ]

-- it was made by these settings
pub record Fits (s : Settings) (u : UpstreamPart) : Type 0 where
  pub agrees : Agrees s u.core
  pub placed : is_of_kind s Regular u.core.number ≡ true
  pub request : u.core.linked ≡ false → own_request s ≡ u.own_bind

-- the request of an own Bind, where there is one
abbrev pub request_of : Option OwnBindBytes → Option (List ℕ)
request_of own = elim own [ None ↦ None | Some b ↦ Some b.rest ]

-- the settings say what a part of this number is to be made of
pub record IsMade (s : Settings) (number : ℕ) (u : UpSettings) : Type 0 where
  pub limit : s.id_limit ≡ u.id_limit
  pub timeout : s.timeout ≡ u.timeout
  pub placed : is_of_kind s Regular number ≡ true
  pub request : own_request s ≡ request_of u.own_bind

-- the own Bind's identifier was given, and nothing is live and the connection isn't up while it waits
abbrev pub OwnIsGiven : Conn → Option OwnWait → Type 0
OwnIsGiven c None = ⊤
OwnIsGiven c (Some w) = (1 ≤ w.id) × (c.up ≡ false)

-- what stands of it whatever it took
pub record IsSteady (u : UpstreamPart) : Type 0 where
  pub kind : u.core.kind ≡ Regular
  pub sound : IsSound u.core
  pub plain : ArePlain u.core.table.rows
  pub own : OwnIsGiven u.core u.own
  pub fresh : u.core.linked ≡ false → u.own ≡ None
  pub unlinked : u.core.linked ≡ false → u.core.up ≡ false
  pub idle : u.core.up ≡ false → u.core.table.rows ≡ []

-- it is of these settings, and steady
pub record Knows (s : Settings) (u : UpstreamPart) : Type 0 where
  pub fits : Fits s u
  pub steady : IsSteady u

-- it stands for a state
pub record Stands (s : Settings) (p : ConnectionState) (u : UpstreamPart) : Type 0 where
  pub is : p ≡ state u
  pub knows : Knows s u
  pub undrained : is_drained p ≡ false

-- which letters may be taken: of a Forward, one of an operation that isn't live and no Bind, where the connection is up;
-- each other one
abbrev pub IsTakenLetter : UpstreamPart → Letter → Type 0
IsTakenLetter u (Forward op kind rest ask_who holder) =
    (u.core.up ≡ true) × (same_kind Bind kind ≡ false) × (id_of op u.core.table.rows ≡ None)
IsTakenLetter u _ = ⊤

abbrev pub IsTaken : UpstreamPart → Input → Type 0
IsTaken u (LetterFrom now word sender letter) = IsTakenLetter u letter
IsTaken u _ = ⊤

-- the part behind the connection's end
abbrev pub closed : UpstreamPart → ℕ → Option OwnWait → UpstreamPart → Type 0
closed u at own v =
    (v.core ≡ record u.core { moment = at; down = true; table = record u.core.table { rows = [] } })
    × (v.own ≡ own)
    × (v.waiting ≡ u.waiting)

-- whether an identifier is that of the own Bind that waits
abbrev pub under_own : ℕ → Option OwnWait → Bool
under_own id None = false
under_own id (Some w) = w.id == id
