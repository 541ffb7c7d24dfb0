-- What a turn of a part makes is what moves of the machine make: stated of a part's ledger and of the machine's part with
-- the queues that touch it.
use Rattle.std.specs.Prelude.{◌≡◌, ℕ, max, true, false, ◌==◌, if◌then◌else◌, List, [], ◌∷◌, ◌++◌, Option, None, is_some}
use Rattle.lload_names.specs.declared.inputs.Input.{Input}
use Rattle.lload_names.specs.declared.inputs.Input.TheVariants as input
use Rattle.lload_names.specs.declared.names.EndWhy.{EndWhy}
use Rattle.lload_names.specs.declared.names.Letter.{Letter}
use Rattle.lload_names.specs.declared.names.PartName.{PartName}
use Rattle.lload_names.specs.declared.names.PartName.TheVariants.{Desk, Client, Up as Connection}
use Rattle.lload_spec.specs.Settings.{Settings, place_at}
use Rattle.lload_names.specs.declared.names.What.TheVariants as what
use Rattle.part_spec.specs.Inputs.{Act, act, entries_of, letter_of, marked_by, moment_for, where_so}
use Rattle.part_spec.specs.ClientState.{ClientState, is_present}
use Rattle.part_spec.specs.ClientTurn.{client_act, closing}
use Rattle.part_spec.specs.ConnectionState.{ConnectionState, is_there}
use Rattle.part_spec.specs.ConnectionTurn.{goes_down}
use Rattle.part_spec.specs.RegularTurn.{regular_act}
use Rattle.part_spec.specs.BindTurn.{bind_act}
use Rattle.part_spec.specs.DeskTurn.{desk_act}
use Rattle.part_spec.specs.Fit.{ClientLedger, step_client_ledger, ConnectionLedger, step_connection_ledger, DeskLedger, step_desk_ledger, ledger_behind}
use Rattle.part_spec.specs.Marked.{Marked, Taken, letters_to}
use Rattle.move_laws.specs.World.{World, tail}
use Rattle.move_laws.specs.AgreeBinds.{Holds}
use Rattle.stands_laws.specs.Books.{Book, Has, is_bind_op, made_from}
use Rattle.stands_laws.specs.Lists.{Pairs, FirstIs}
use Rattle.stands_laws.specs.Letters.{AskIs, ChoiceIs, OrderIs, AnswerIs, ReportIs}
use Rattle.stands_laws.specs.ClientSides.{ClientSide, ClientMove, client_side, client_moves}
use Rattle.stands_laws.specs.ConnectionSides.{ConnSide, ConnMove, conn_side, conn_moves}
use Rattle.stands_laws.specs.DeskSides.{DeskSide, DeskMove, desk_side, desk_moves}
use Rattle.stands_laws.specs.ClientStands.{ClientIs, kinds_of, serves}
use Rattle.stands_laws.specs.DeskStands.{DeskStands}
use Rattle.stands_laws.specs.RegularStands.{RegularIs}
use Rattle.stands_laws.specs.BindStands.{BindStands}

-- the entries of what a part made, with the letter that it took
abbrev pub marked_act : PartName → ℕ → Option Taken → Act → List Marked
marked_act p at mark a = marked_by mark (entries_of p at a.whats)

-- A queue behind an input of its receiver: without its first letter, where the input is a letter of this sender.
abbrev pub behind_desk : {A : Type 0} → Input → List A → List A
behind_desk (input.LetterFrom now word Desk letter) q = tail q
behind_desk _ q = q

abbrev pub behind_client : {A : Type 0} → ℕ → Input → List A → List A
behind_client c (input.LetterFrom now word (Client a) letter) q = if c == a then tail q else q
behind_client c _ q = q

abbrev pub behind_connection : {A : Type 0} → ℕ → Input → List A → List A
behind_connection u (input.LetterFrom now word (Connection v) letter) q = if u == v then tail q else q
behind_connection u _ q = q

-- A client.

-- the client with its queues, behind these moves
abbrev pub client_behind : Settings → Book → ℕ → ClientSide → List ClientMove → ClientSide
client_behind s b c y ms = client_moves (is_bind_op b c) (serves s) y ms

-- a client's ledger behind what it made
abbrev pub client_ledger_behind : Settings → ℕ → Option Taken → ClientLedger → Act → ClientLedger
client_ledger_behind s at mark l a =
    ledger_behind (step_client_ledger s) l (marked_act (Client l.state.number) at mark a)

-- what a client makes at a moment is what these moves make
pub record ClientActs (s : Settings) (b : Book) (c at : ℕ) (mark : Option Taken) (l : ClientLedger) (a : Act) (y : ClientSide) (ms : List ClientMove)
    : Type 0 where
  pub is : ClientIs s b c (client_ledger_behind s at mark l a) (client_behind s b c y ms).row
  pub asks : (q : List Letter) → Pairs (AskIs b c) q y.asks
      → Pairs (AskIs b c) (q ++ letters_to Desk a.letters) (client_behind s b c y ms).asks
  pub orders : (u : ℕ) (q : List Letter) → Pairs (OrderIs s b c) q (y.orders u)
      → Pairs (OrderIs s b c) (q ++ letters_to (Connection u) a.letters) ((client_behind s b c y ms).orders u)

-- the letter of an input waits first for the client
abbrev pub ClientComes : Settings → Book → ℕ → ClientSide → Input → Type 0
ClientComes s b c y (input.LetterFrom now word Desk letter) = FirstIs (ChoiceIs s b c) letter y.choices
ClientComes s b c y (input.LetterFrom now word (Connection u) letter) = FirstIs (AnswerIs s b c) letter (y.answers u)
ClientComes s b c y (input.LetterFrom now word (Client a) letter) = ⊥
ClientComes s b c y _ = Unit {0}

-- some moves make what an input of a client makes, and take its letter
pub record ClientFollows (s : Settings) (b : Book) (c : ℕ) (i : Input) (l : ClientLedger) (y : ClientSide) : Type 0 where
  pub made : List ClientMove
  pub acts : ClientActs s b c (moment_for l.state.moment i) (letter_of i) l
      (client_act s l.state (moment_for l.state.moment i) i) y made
  pub choices : (client_behind s b c y made).choices ≡ behind_desk i y.choices
  pub answers : (u : ℕ) → (client_behind s b c y made).answers u ≡ behind_connection u i (y.answers u)

abbrev pub ClientFollowsLaw : Type 0
ClientFollowsLaw =
    (s : Settings) (b : Book) (w : World) (c : ℕ) (l : ClientLedger) (i : Input) → Holds (kinds_of s b) w
    → ClientIs s b c l (w.clients c) → Has b (made_from s c l.state i) → ClientComes s b c (client_side w c) i
    → ClientFollows s b c i l (client_side w c)

-- what the end of a client's link makes
abbrev pub client_end : ClientState → EndWhy → Act
client_end p why = where_so (is_present p) (act (what.Gone why ∷ []) (closing p))

pub record ClientEnds (s : Settings) (b : Book) (c now : ℕ) (why : EndWhy) (l : ClientLedger) (y : ClientSide) : Type 0 where
  pub made : List ClientMove
  pub acts : ClientActs s b c (max l.state.moment now) None l (client_end l.state why) y made
  pub choices : (client_behind s b c y made).choices ≡ y.choices
  pub answers : (u : ℕ) → (client_behind s b c y made).answers u ≡ y.answers u

abbrev pub ClientEndsLaw : Type 0
ClientEndsLaw =
    (s : Settings) (b : Book) (w : World) (c now : ℕ) (why : EndWhy) (l : ClientLedger) → Holds (kinds_of s b) w
    → ClientIs s b c l (w.clients c) → ClientEnds s b c now why l (client_side w c)

-- A connection of either kind.

-- a connection's ledger behind what it made
abbrev pub connection_ledger_behind : Settings → ℕ → Option Taken → ConnectionLedger → Act → ConnectionLedger
connection_ledger_behind s at mark l a =
    ledger_behind (step_connection_ledger s) l (marked_act (Connection l.state.number) at mark a)

-- the letter of an input waits first for the connection
abbrev pub ConnComes : Settings → Book → ConnSide → Input → Type 0
ConnComes s b y (input.LetterFrom now word (Client a) letter) = FirstIs (OrderIs s b a) letter (y.orders a)
ConnComes s b y (input.LetterFrom now word Desk letter) = ⊥
ConnComes s b y (input.LetterFrom now word (Connection u) letter) = ⊥
ConnComes s b y _ = Unit {0}

-- what it makes at a moment is what these moves make, in what it gives
pub record ConnGives (s : Settings) (b : Book) (u : ℕ) (a : Act) (y : ConnSide) (z : ConnSide) : Type 0 where
  pub answers : (c : ℕ) (q : List Letter) → Pairs (AnswerIs s b c) q (y.answers c)
      → Pairs (AnswerIs s b c) (q ++ letters_to (Client c) a.letters) (z.answers c)
  pub reports : (q : List Letter) → Pairs (ReportIs u) q y.reports
      → Pairs (ReportIs u) (q ++ letters_to Desk a.letters) z.reports

-- what the end of a connection's link makes
abbrev pub connection_end : ConnectionState → EndWhy → Act
connection_end p why = where_so (is_there p) (goes_down p why)

-- A regular connection.
pub record RegularActs (s : Settings) (b : Book) (u at : ℕ) (mark : Option Taken) (l : ConnectionLedger) (a : Act) (y : ConnSide) (ms : List ConnMove)
    : Type 0 where
  pub is : RegularIs s b u (connection_ledger_behind s at mark l a) (conn_moves false y ms).row
  pub gives : ConnGives s b u a y (conn_moves false y ms)

pub record RegularFollows (s : Settings) (b : Book) (u : ℕ) (i : Input) (l : ConnectionLedger) (y : ConnSide)
    : Type 0 where
  pub made : List ConnMove
  pub acts : RegularActs s b u (moment_for l.state.moment i) (letter_of i) l
      (regular_act s l.state (moment_for l.state.moment i) i) y made
  pub orders : (c : ℕ) → (conn_moves false y made).orders c ≡ behind_client c i (y.orders c)

abbrev pub RegularFollowsLaw : Type 0
RegularFollowsLaw =
    (s : Settings) (b : Book) (w : World) (u : ℕ) (l : ConnectionLedger) (i : Input) → Holds (kinds_of s b) w
    → serves s u ≡ false → is_some (place_at s u) ≡ true → RegularIs s b u l (w.conns u)
    → ConnComes s b (conn_side w u) i → RegularFollows s b u i l (conn_side w u)

pub record RegularEnds (s : Settings) (b : Book) (u now : ℕ) (why : EndWhy) (l : ConnectionLedger) (y : ConnSide)
    : Type 0 where
  pub made : List ConnMove
  pub acts : RegularActs s b u (max l.state.moment now) None l (connection_end l.state why) y made
  pub orders : (c : ℕ) → (conn_moves false y made).orders c ≡ y.orders c

abbrev pub RegularEndsLaw : Type 0
RegularEndsLaw =
    (s : Settings) (b : Book) (u now : ℕ) (why : EndWhy) (l : ConnectionLedger) (y : ConnSide)
    → serves s u ≡ false → RegularIs s b u l y.row → RegularEnds s b u now why l y

-- A bind connection.
pub record BindActs (s : Settings) (b : Book) (u at : ℕ) (mark : Option Taken) (l : ConnectionLedger) (a : Act) (y : ConnSide) (ms : List ConnMove)
    : Type 0 where
  pub stands : BindStands s b u (connection_ledger_behind s at mark l a) (conn_moves true y ms).row
  pub gives : ConnGives s b u a y (conn_moves true y ms)

pub record BindFollows (s : Settings) (b : Book) (u : ℕ) (i : Input) (l : ConnectionLedger) (y : ConnSide)
    : Type 0 where
  pub made : List ConnMove
  pub acts : BindActs s b u (moment_for l.state.moment i) (letter_of i) l
      (bind_act s l.state (moment_for l.state.moment i) i) y made
  pub orders : (c : ℕ) → (conn_moves true y made).orders c ≡ behind_client c i (y.orders c)

abbrev pub BindFollowsLaw : Type 0
BindFollowsLaw =
    (s : Settings) (b : Book) (w : World) (u : ℕ) (l : ConnectionLedger) (i : Input) → Holds (kinds_of s b) w
    → serves s u ≡ true → is_some (place_at s u) ≡ true → BindStands s b u l (w.conns u)
    → ConnComes s b (conn_side w u) i → BindFollows s b u i l (conn_side w u)

pub record BindEnds (s : Settings) (b : Book) (u now : ℕ) (why : EndWhy) (l : ConnectionLedger) (y : ConnSide)
    : Type 0 where
  pub made : List ConnMove
  pub acts : BindActs s b u (max l.state.moment now) None l (connection_end l.state why) y made
  pub orders : (c : ℕ) → (conn_moves true y made).orders c ≡ y.orders c

abbrev pub BindEndsLaw : Type 0
BindEndsLaw =
    (s : Settings) (b : Book) (u now : ℕ) (why : EndWhy) (l : ConnectionLedger) (y : ConnSide)
    → BindStands s b u l y.row → BindEnds s b u now why l y

-- The desk.

-- the desk's ledger behind what it made
abbrev pub desk_ledger_behind : Settings → ℕ → Option Taken → DeskLedger → Act → DeskLedger
desk_ledger_behind s at mark l a = ledger_behind (step_desk_ledger s) l (marked_act Desk at mark a)

-- the letter of an input waits first for the desk
abbrev pub DeskComes : Book → DeskSide → Input → Type 0
DeskComes b y (input.LetterFrom now word (Client a) letter) = FirstIs (AskIs b a) letter (y.asks a)
DeskComes b y (input.LetterFrom now word (Connection u) letter) = FirstIs (ReportIs u) letter (y.reports u)
DeskComes b y (input.LetterFrom now word Desk letter) = ⊥
DeskComes b y _ = Unit {0}

pub record DeskFollows (s : Settings) (b : Book) (i : Input) (l : DeskLedger) (y : DeskSide) : Type 0 where
  pub made : List DeskMove
  pub stands : DeskStands b
      (desk_ledger_behind s (moment_for l.state.moment i) (letter_of i) l (desk_act s l.state i))
      (desk_moves (kinds_of s b) y made).row
  pub choices : (c : ℕ) (q : List Letter) → Pairs (ChoiceIs s b c) q (y.choices c)
      → Pairs (ChoiceIs s b c) (q ++ letters_to (Client c) (desk_act s l.state i).letters)
      ((desk_moves (kinds_of s b) y made).choices c)
  pub asks : (c : ℕ) → (desk_moves (kinds_of s b) y made).asks c ≡ behind_client c i (y.asks c)
  pub reports : (u : ℕ) → (desk_moves (kinds_of s b) y made).reports u ≡ behind_connection u i (y.reports u)

abbrev pub DeskFollowsLaw : Type 0
DeskFollowsLaw =
    (s : Settings) (b : Book) (w : World) (l : DeskLedger) (i : Input) → Holds (kinds_of s b) w
    → DeskStands b l w.desk → DeskComes b (desk_side w) i → DeskFollows s b i l (desk_side w)
