-- The desk of the machine with the queues that touch it, and its moves on these alone.
use Rattle.std.specs.Prelude.{ℕ, ◌==◌, if◌then◌else◌, List, [], ◌∷◌, ◌++◌, Option}
use Rattle.move_laws.specs.World.{Kinds, World, Desk, ToDesk, ToChooser, Report, Move, Decides, Hears, tail}
use Rattle.move_laws.specs.Desks.{decide, choice_letter, hear}

pub record DeskSide : Type 0 where
  pub row : Desk
  pub asks : ℕ → List ToDesk
  pub choices : ℕ → List ToChooser
  pub reports : ℕ → List Report

abbrev pub desk_side : World → DeskSide
desk_side w =
    record {
      row = w.desk;
      asks = λ c. w.to_desk c;
      choices = λ c. w.choices c;
      reports = λ u. w.reports u;
    }

pub data DeskMove : Type 0 where
  Deciding : ℕ → Option ℕ → DeskMove
  Hearing : ℕ → DeskMove

abbrev pub desk_move_of : DeskMove → Move
desk_move_of (Deciding a ans) = Decides a ans
desk_move_of (Hearing v) = Hears v

abbrev pub desk_move : Kinds → DeskSide → DeskMove → DeskSide
desk_move kinds y (Deciding a ans) = record y {
  row = decide kinds a (y.asks a) ans y.row;
  asks = λ c. if c == a then tail (y.asks c) else y.asks c;
  choices = λ c. if c == a then y.choices c ++ choice_letter kinds c (y.asks c) ans y.row else y.choices c;
}
desk_move kinds y (Hearing v) = record y {
  row = hear kinds v (y.reports v) y.row;
  reports = λ u. if u == v then tail (y.reports u) else y.reports u;
}

abbrev pub desk_moves : Kinds → DeskSide → List DeskMove → DeskSide
desk_moves kinds y [] = y
desk_moves kinds y (m ∷ ms) = desk_moves kinds (desk_move kinds y m) ms
