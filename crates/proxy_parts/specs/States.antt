-- For which states a connection's part of either kind stands, what it is made of, and what it may take.
use Rattle.std.specs.Prelude.{◌≡◌, ℕ, true, ⊤}
use Rattle.lload_names.specs.declared.names.ConnKind.{ConnKind}
use Rattle.lload_names.specs.declared.names.ConnKind.TheVariants.{Regular, Bind}
use Rattle.lload_names.specs.declared.names.Letter.{Letter}
use Rattle.lload_names.specs.declared.inputs.Input.{Input}
use Rattle.lload_names.specs.declared.inputs.Input.TheVariants.{LetterFrom}
use Rattle.lload_spec.specs.Settings.{Settings, is_of_kind}
use Rattle.part_spec.specs.ConnectionState.{ConnectionState}
use Rattle.conn_core.specs.declared.settings.UpSettings.{UpSettings}
use Rattle.upstream_conn.specs.Part as regular
use Rattle.bind_conn.specs.Part as bind
use Rattle.taken_laws.specs.Taking.{RegularMayTake, BindMayTake}
use Rattle.proxy_parts.specs.declared.connection.Connection.{Connection}
use Rattle.proxy_parts.specs.declared.connection.Connection.TheVariants as part

-- it stands for a state
abbrev pub Stands : Settings → ConnectionState → Connection → Type 0
Stands s p (part.Regular u) = regular.Stands s p u
Stands s p (part.Bind b) = bind.Stands s p b

-- the settings have what connections are made of
pub record IsSetTo (s : Settings) (u : UpSettings) : Type 0 where
  pub limit : s.id_limit ≡ u.id_limit
  pub timeout : s.timeout ≡ u.timeout
  pub request : regular.own_request s ≡ regular.request_of u.own_bind

-- and say that a connection of this number is of a kind
pub record IsMade (s : Settings) (number : ℕ) (kind : ConnKind) (u : UpSettings) : Type 0 where
  pub set : IsSetTo s u
  pub placed : is_of_kind s kind number ≡ true

-- which letters a connection of a kind may take
abbrev pub KindMayTake : ConnKind → ConnectionState → Letter → Type 0
KindMayTake Regular p letter = RegularMayTake p letter
KindMayTake Bind p letter = BindMayTake p letter

abbrev pub MayTake : ConnectionState → Input → Type 0
MayTake p (LetterFrom now word sender letter) = KindMayTake p.kind p letter
MayTake p _ = ⊤
