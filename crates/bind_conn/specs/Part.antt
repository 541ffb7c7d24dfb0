-- For which states a bind connection's part stands.
use Rattle.std.specs.Prelude.{◌≡◌, ◌||◌, ℕ, Bool, true, false, List, [], ◌∷◌, None, ⊤}
use Rattle.std.specs.List.{list_any}
use Rattle.ldap_spec.specs.Messages.{Message}
use Rattle.lload_names.specs.declared.names.OpKind.TheVariants.{Bind}
use Rattle.lload_names.specs.declared.names.ConnKind.TheVariants.{Bind as BindKind}
use Rattle.lload_names.specs.declared.names.Letter.{Letter}
use Rattle.lload_names.specs.declared.names.Letter.TheVariants.{Forward}
use Rattle.lload_names.specs.declared.inputs.Input.{Input}
use Rattle.lload_names.specs.declared.inputs.Input.TheVariants.{LetterFrom}
use Rattle.lload_spec.specs.Settings.{Settings, is_of_kind}
use Rattle.lload_spec.specs.BadMessages.{is_bad}
use Rattle.id_table.specs.declared.row.Row.{Row}
use Rattle.op_deadlines.specs.Due.{is_due}
use Rattle.part_spec.specs.ConnectionTurn.{is_drained}
use Rattle.part_spec.specs.ConnectionState.{ConnectionState, UpRow, is_under, is_under_who, message_facts, with_got}
use Rattle.conn_core.specs.declared.settings.UpSettings.{UpSettings}
use Rattle.conn_core.specs.Conn.{state_of, Agrees, IsSound}
use Rattle.conn_core.specs.Kept.{up_row}
use Rattle.bind_conn.specs.declared.part.BindPart.{BindPart}

-- the state of its list: a bind connection has no own Bind, and pauses for nobody
abbrev pub state : BindPart → ConnectionState
state b = state_of b.core None b.holder b.lost []

-- the settings say what a part of this number is to be made of
pub record IsMade (s : Settings) (number : ℕ) (u : UpSettings) : Type 0 where
  pub limit : s.id_limit ≡ u.id_limit
  pub timeout : s.timeout ≡ u.timeout
  pub placed : is_of_kind s BindKind number ≡ true

-- at most one operation is live, a Bind
abbrev pub IsOneBind : List Row → Type 0
IsOneBind [] = ⊤
IsOneBind (r ∷ rs) = (r.kind ≡ Bind) × (rs ≡ [])

-- what stands of it whatever it took
pub record IsSteady (b : BindPart) : Type 0 where
  pub kind : b.core.kind ≡ BindKind
  pub sound : IsSound b.core
  pub one : IsOneBind b.core.table.rows

-- it is of these settings, and steady
pub record Knows (s : Settings) (b : BindPart) : Type 0 where
  pub agrees : Agrees s b.core
  pub placed : is_of_kind s BindKind b.core.number ≡ true
  pub steady : IsSteady b

-- whether a message under an identifier answers a live Bind, or its Who Am I
abbrev pub is_met : ℕ → List Row → Bool
is_met id rows = list_any (λ r. is_under id (up_row r) || is_under_who id (up_row r)) rows

-- a message takes the connection down: it is bad, and settles nothing
pub record Fells (b : BindPart) (at : ℕ) (m : Message) : Type 0 where
  pub rows : List UpRow
  pub fells : is_bad (message_facts (state b)) m ≡ true
  pub got : with_got at m (state b) ≡ record (state b) { rows = rows }

-- nothing that is live is due
abbrev pub IsEarly : ℕ → ℕ → List Row → Type 0
IsEarly timeout at [] = ⊤
IsEarly timeout at (r ∷ rs) = is_due timeout at r.last ≡ false

-- it stands for a state
pub record Stands (s : Settings) (p : ConnectionState) (b : BindPart) : Type 0 where
  pub is : p ≡ state b
  pub knows : Knows s b
  pub undrained : is_drained p ≡ false

-- which letters may be taken: of a Forward, a Bind where none is live; each other one
abbrev pub IsTakenLetter : BindPart → Letter → Type 0
IsTakenLetter b (Forward op kind rest ask_who holder) = (kind ≡ Bind) × (b.core.table.rows ≡ [])
IsTakenLetter b _ = ⊤

abbrev pub IsTaken : BindPart → Input → Type 0
IsTaken b (LetterFrom now word sender letter) = IsTakenLetter b letter
IsTaken b _ = ⊤
