-- What the desk does.
use Rattle.std.specs.Prelude.{ℕ, Bool, true, false, ◌==◌, ◌&&◌, if◌then◌else◌, not, List, [], ◌∷◌, Option, Some, None}
use Rattle.move_laws.specs.World.{Op, Kinds, ToDesk, Ask, Returned, ToChooser, Choice, Report, Ended, IsUp, IsRetired, IsDown, Desk, vacant, put, put2}

-- it may choose a connection of the kind that has come up, and a bind connection only where nobody is pending
abbrev pub may_choose : Kinds → Desk → ℕ → ℕ → ℕ → Bool
may_choose kinds d c k u =
    d.up u && not (d.retired u) && not (d.down u)
    && (if kinds.bind_conn u then kinds.bind_op c k && vacant (d.user u) else not (kinds.bind_op c k))

-- what it chooses, where it may
abbrev pub chosen_for : Kinds → Desk → ℕ → ℕ → Option ℕ → Option ℕ
chosen_for kinds d c k None = None
chosen_for kinds d c k (Some u) = if may_choose kinds d c k u then Some u else None

abbrev pub put3 : (ℕ → ℕ → ℕ → Bool) → ℕ → ℕ → ℕ → Bool → ℕ → ℕ → ℕ → Bool
put3 f a b v p c k u = if (c == a) && ((k == b) && (u == v)) then p else f c k u

abbrev pub put_user : (ℕ → Option Op) → ℕ → Option Op → ℕ → Option Op
put_user f v o u = if u == v then o else f u

abbrev pub choose : Bool → ℕ → ℕ → Option ℕ → Desk → Desk
choose bind c k None d = record d { took = put2 d.took c k true }
choose bind c k (Some u) d = record d {
  took = put2 d.took c k true;
  pending = put3 d.pending c k u true;
  user = if bind then put_user d.user u (Some (record { client = c; k = k })) else d.user;
}

-- a pair is pending no longer
abbrev pub forget : Bool → ℕ → ℕ → ℕ → Desk → Desk
forget bind c k u d = record d {
  pending = put3 d.pending c k u false;
  user = if bind then put_user d.user u None else d.user;
}

abbrev pub decide : Kinds → ℕ → List ToDesk → Option ℕ → Desk → Desk
decide kinds c [] a d = d
decide kinds c (Ask k ∷ ls) a d = choose (kinds.bind_op c k) c k (chosen_for kinds d c k a) d
decide kinds c (Returned k u ∷ ls) a d = forget (kinds.bind_op c k) c k u d

abbrev pub choice_letter : Kinds → ℕ → List ToDesk → Option ℕ → Desk → List ToChooser
choice_letter kinds c [] a d = []
choice_letter kinds c (Ask k ∷ ls) a d = Choice k (chosen_for kinds d c k a) ∷ []
choice_letter kinds c (Returned k u ∷ ls) a d = []

abbrev pub hear : Kinds → ℕ → List Report → Desk → Desk
hear kinds u [] d = d
hear kinds u (Ended c k ∷ ls) d = forget (kinds.bind_op c k) c k u d
hear kinds u (IsUp ∷ ls) d = record d { up = put d.up u true }
hear kinds u (IsRetired ∷ ls) d = record d { retired = put d.retired u true }
hear kinds u (IsDown ∷ ls) d = record d { down = put d.down u true }
