-- Laws of the folds, as statements.
use Rattle.std.specs.Prelude.{◌≡◌, ◌↔◌, ℕ, List, ◌++◌, IsTrue}
use Rattle.lload_names.specs.declared.names.PartName.{PartName}
use Rattle.lload_spec.specs.Settings.{Settings}
use Rattle.part_spec.specs.Marked.{Marked, entries}
use Rattle.lload_spec.specs.Order.{plan_behind}
use Rattle.lload_spec.specs.Pauses.{waiting_from}
use Rattle.part_spec.specs.ClientState.{ClientState, step_clients}
use Rattle.part_spec.specs.ConnectionState.{ConnectionState, step_connections}
use Rattle.part_spec.specs.DeskState.{DeskState, step_desks}
use Rattle.part_spec.specs.Fit.{is_all_fit, fit_beginning}
use Rattle.part_spec.specs.Share.{ClientShare, ConnectionShare, DeskShare, Share, keeps_client_share, keeps_connection_share, keeps_desk_share, keeps_share}
use Rattle.part_spec.specs.Gives.{client_gives, connection_gives, desk_gives}

-- the state behind a list and more entries is the state behind these from the state behind the list
abbrev pub ClientsFold : Type 0
ClientsFold =
    (s : Settings) (p : ClientState) (list more : List Marked) → step_clients s p (list ++ more) ≡ step_clients s
    (step_clients s p list) more

abbrev pub ConnectionsFold : Type 0
ConnectionsFold =
    (s : Settings) (p : ConnectionState) (list more : List Marked) → step_connections s p
    (list ++ more) ≡ step_connections s (step_connections s p list) more

abbrev pub DesksFold : Type 0
DesksFold =
    (s : Settings) (p : DeskState) (list more : List Marked) → step_desks s p (list ++ more) ≡ step_desks s
    (step_desks s p list) more

-- what a list and more entries give is what the list gives, and then what these give from the state behind it
abbrev pub ClientsGive : Type 0
ClientsGive =
    (s : Settings) (p : ClientState) (list more : List Marked) → client_gives s p (list ++ more) ≡
    client_gives s p list ++ client_gives s (step_clients s p list) more

abbrev pub ConnectionsGive : Type 0
ConnectionsGive =
    (s : Settings) (p : ConnectionState) (list more : List Marked) → connection_gives s p (list ++ more) ≡
    connection_gives s p list ++ connection_gives s (step_connections s p list) more

abbrev pub DesksGive : Type 0
DesksGive =
    (s : Settings) (p : DeskState) (list more : List Marked) → desk_gives s p (list ++ more) ≡
    desk_gives s p list ++ desk_gives s (step_desks s p list) more

-- the desk's state has the number of the plan that its list took last
abbrev pub DeskPlans : Type 0
DeskPlans =
    (s : Settings) (p : DeskState) (list : List Marked) → (step_desks s p list).plan ≡ plan_behind p.plan (entries list)

-- a connection's state has the clients for which its list pauses
abbrev pub ConnectionWaits : Type 0
ConnectionWaits =
    (s : Settings) (p : ConnectionState) (list : List Marked)
    → (step_connections s p list).waiting ≡ waiting_from p.waiting (entries list)

-- where each letter of a part's list was fit, its fit beginning is the whole list
abbrev pub FitIsWhole : Type 0
FitIsWhole =
    (s : Settings) (p : PartName) (list : List Marked) → IsTrue (is_all_fit s p list) → fit_beginning s p list ≡ list

-- each share is a record with a fact in each field, and one computed test; the two say the same
abbrev pub ClientTested : Type 0
ClientTested = (s : Settings) (c : ℕ) (list : List Marked) → ClientShare s c list ↔ IsTrue (keeps_client_share s c list)

abbrev pub ConnectionTested : Type 0
ConnectionTested =
    (s : Settings) (u : ℕ) (list : List Marked) → ConnectionShare s u list ↔ IsTrue (keeps_connection_share s u list)

abbrev pub DeskTested : Type 0
DeskTested = (s : Settings) (list : List Marked) → DeskShare s list ↔ IsTrue (keeps_desk_share s list)

abbrev pub ShareTested : Type 0
ShareTested = (s : Settings) (p : PartName) (list : List Marked) → Share s p list ↔ IsTrue (keeps_share s p list)
