-- A world of the parts, and a world of the machine that stands for it.
use Rattle.std.specs.Prelude.{◌≡◌, ℕ, Bool, true, false, []}
use Rattle.lload_names.specs.declared.names.PartName.TheVariants.{Desk, Client, Up as Connection}
use Rattle.lload_spec.specs.Settings.{Settings}
use Rattle.part_spec.specs.Fit.{ClientLedger, client_ledger, ConnectionLedger, connection_ledger, DeskLedger, desk_ledger}
use Rattle.part_spec.specs.World.{World, list_in}
use Rattle.link_laws.specs.Moves.{waiting_between}
use Rattle.move_laws.specs.World as machine
use Rattle.stands_laws.specs.Books.{Book}
use Rattle.stands_laws.specs.Lists.{Pairs}
use Rattle.stands_laws.specs.Letters.{AskIs, ChoiceIs, OrderIs, AnswerIs, ReportIs}
use Rattle.stands_laws.specs.ClientStands.{ClientIs, serves}
use Rattle.stands_laws.specs.DeskStands.{DeskStands}
use Rattle.stands_laws.specs.RegularStands.{RegularIs}
use Rattle.stands_laws.specs.BindStands.{BindStands}

-- the ledgers of a world
abbrev pub client_ledger_in : Settings → World → ℕ → ClientLedger
client_ledger_in s w c = client_ledger s c (list_in w (Client c))

abbrev pub connection_ledger_in : Settings → World → ℕ → ConnectionLedger
connection_ledger_in s w u = connection_ledger s u (list_in w (Connection u))

abbrev pub desk_ledger_in : Settings → World → DeskLedger
desk_ledger_in s w = desk_ledger s (list_in w Desk)

-- what is said of a connection, by whether it serves Binds
abbrev pub stands_by : Bool → Settings → Book → ℕ → ConnectionLedger → machine.Conn → Type 0
stands_by true s b u l v = BindStands s b u l v
stands_by false s b u l v = RegularIs s b u l v

abbrev pub ConnStands : Settings → Book → ℕ → ConnectionLedger → machine.Conn → Type 0
ConnStands s b u l v = stands_by (serves s u) s b u l v

-- nothing waits between two parts that write no letters to each other
pub record NoStrangers (w : World) : Type 0 where
  pub clients : (a c : ℕ) → waiting_between w (Client a) (Client c) ≡ []
  pub connections : (u v : ℕ) → waiting_between w (Connection u) (Connection v) ≡ []
  pub desk : waiting_between w Desk Desk ≡ []
  pub orders : (u : ℕ) → waiting_between w Desk (Connection u) ≡ []

-- each part, and each queue
pub record WorldStands (s : Settings) (b : Book) (w : World) (v : machine.World) : Type 0 where
  pub clients : (c : ℕ) → ClientIs s b c (client_ledger_in s w c) (v.clients c)
  pub conns : (u : ℕ) → ConnStands s b u (connection_ledger_in s w u) (v.conns u)
  pub desk : DeskStands b (desk_ledger_in s w) v.desk
  pub asks : (c : ℕ) → Pairs (AskIs b c) (waiting_between w (Client c) Desk) (v.to_desk c)
  pub choices : (c : ℕ) → Pairs (ChoiceIs s b c) (waiting_between w Desk (Client c)) (v.choices c)
  pub orders : (c u : ℕ) → Pairs (OrderIs s b c) (waiting_between w (Client c) (Connection u)) (v.to_conn c u)
  pub answers : (c u : ℕ) → Pairs (AnswerIs s b c) (waiting_between w (Connection u) (Client c)) (v.to_client c u)
  pub reports : (u : ℕ) → Pairs (ReportIs u) (waiting_between w (Connection u) Desk) (v.reports u)
  pub strangers : NoStrangers w
