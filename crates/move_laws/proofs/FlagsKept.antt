-- Each move keeps what a connection and the desk say of its state.
use Rattle.std.proofs.Common.{◌≡◌, ℕ, ◌+◌, ◌≤◌, Bool, true, false, ◌==◌, ◌&&◌, ◌||◌, not, if◌then◌else◌, List, [], ◌∷◌, ◌++◌, Option, Some, None, ◌⊎◌, inl, inr, arith, refl, ap, subst, add-zero}
use Rattle.move_laws.specs.World.{Op, Kinds, World, Conn, Desk, ToDesk, Ask, Returned, ToConn, Forward, Drop, Leave, Signal, Report, Ended, IsUp, IsRetired, IsDown, Move, Asks, Refuses, Binds, Ends, Goes, Leaves, Signals, TakesChoice, TakesAnswer, TakesOrder, Answers, Finishes, ComesUp, Retires, Breaks, Decides, Hears, tail}
use Rattle.move_laws.specs.Conns.{take_order, order_report, forward_row, missed_report, finish_row, finish_report, holder_report, up_row, retire_row, break_row, one_report, break_report, stopped, may_come_up, may_break}
use Rattle.move_laws.specs.Desks.{choose, chosen_for, decide, hear}
use Rattle.move_laws.specs.Moves.{move, empty}
use Rattle.move_laws.specs.Counts.{num, ups, retireds, downs, FlagsOrdered}
use Rattle.move_laws.specs.Agree.{Flagged, FlaggedOf, FlaggedAt}
use Rattle.move_laws.proofs.Appends.{num_le, same_number, same_self}

ups_append : (xs ys : List Report) → ups (xs ++ ys) ≡ ups xs + ups ys
ups_append [] ys = omega arith
ups_append (Ended a j ∷ xs) ys = ups_append xs ys
ups_append (IsUp ∷ xs) ys = omega (arith, ups_append xs ys)
ups_append (IsRetired ∷ xs) ys = ups_append xs ys
ups_append (IsDown ∷ xs) ys = ups_append xs ys

retireds_append : (xs ys : List Report) → retireds (xs ++ ys) ≡ retireds xs + retireds ys
retireds_append [] ys = omega arith
retireds_append (Ended a j ∷ xs) ys = retireds_append xs ys
retireds_append (IsUp ∷ xs) ys = retireds_append xs ys
retireds_append (IsRetired ∷ xs) ys = omega (arith, retireds_append xs ys)
retireds_append (IsDown ∷ xs) ys = retireds_append xs ys

downs_append : (xs ys : List Report) → downs (xs ++ ys) ≡ downs xs + downs ys
downs_append [] ys = omega arith
downs_append (Ended a j ∷ xs) ys = downs_append xs ys
downs_append (IsUp ∷ xs) ys = downs_append xs ys
downs_append (IsRetired ∷ xs) ys = downs_append xs ys
downs_append (IsDown ∷ xs) ys = omega (arith, downs_append xs ys)

ordered_append : (xs ys : List Report) → (ups ys ≡ 0 ⊎ retireds xs + downs xs ≡ 0) → (retireds ys ≡ 0 ⊎ downs xs ≡ 0) → FlagsOrdered ys → FlagsOrdered xs → FlagsOrdered (xs ++ ys)
ordered_append [] ys p q o h = o
ordered_append (Ended a j ∷ xs) ys p q o h = ordered_append xs ys p q o h
ordered_append (IsUp ∷ xs) ys p q o h = ordered_append xs ys p q o h
ordered_append (IsRetired ∷ xs) ys (inl z) q o h = (omega (arith, ups_append xs ys, h.0), ordered_append xs ys (inl z) q o h.1)
ordered_append (IsRetired ∷ xs) ys (inr z) q o h = absurd (omega arith)
ordered_append (IsDown ∷ xs) ys (inr z) q o h = absurd (omega arith)
ordered_append (IsDown ∷ xs) ys (inl z) (inr y) o h = absurd (omega arith)
ordered_append (IsDown ∷ xs) ys (inl z) (inl y) o h = (omega (arith, ups_append xs ys, retireds_append xs ys, h.0), ordered_append xs ys (inl z) (inl y) o h.1)

ordered_tail : (xs : List Report) → FlagsOrdered xs → FlagsOrdered (tail xs)
ordered_tail [] h = tt
ordered_tail (Ended a j ∷ xs) h = h
ordered_tail (IsUp ∷ xs) h = h
ordered_tail (IsRetired ∷ xs) h = h.1
ordered_tail (IsDown ∷ xs) h = h.1

-- nothing of the state is said
pub record Quiet (ys : List Report) : Type 0 where
  pub no_up : ups ys ≡ 0
  pub no_retired : retireds ys ≡ 0
  pub no_down : downs ys ≡ 0
  pub calm : FlagsOrdered ys

none : Quiet []
none = record { no_up = refl; no_retired = refl; no_down = refl; calm = tt }

an_end : (a j : ℕ) → Quiet (Ended a j ∷ [])
an_end a j = record { no_up = refl; no_retired = refl; no_down = refl; calm = tt }

end_if : (b : Bool) (a j : ℕ) → Quiet (if b then Ended a j ∷ [] else [])
end_if true a j = an_end a j
end_if false a j = none

end_unless : (b : Bool) (a j : ℕ) → Quiet (if b then [] else Ended a j ∷ [])
end_unless true a j = none
end_unless false a j = an_end a j

missed_quiet : (bind : Bool) (a j h : ℕ) (v : Conn) → Quiet (missed_report bind a j h v)
missed_quiet true a j h v = end_unless (v.freed a h) a h
missed_quiet false a j h v = an_end a j

quiet_if : (b : Bool) (ys : List Report) → Quiet ys → Quiet (if b then ys else [])
quiet_if true ys q = q
quiet_if false ys q = none

order_quiet : (bind : Bool) (a : ℕ) (ls : List ToConn) (v : Conn) → Quiet (order_report bind a ls v)
order_quiet bind a [] v = none
order_quiet bind a (Forward j h ∷ ls) v = quiet_if (stopped v) (missed_report bind a j h v) (missed_quiet bind a j h v)
order_quiet true a (Drop j ∷ ls) v = none
order_quiet false a (Drop j ∷ ls) v = end_if (v.rows a j) a j
order_quiet bind a (Leave j ∷ ls) v = none
order_quiet bind a (Signal b ∷ ls) v = none

holder_quiet : (o : Option Op) → Quiet (holder_report o)
holder_quiet None = none
holder_quiet (Some o) = an_end o.client o.k

finish_quiet : (y bind stay : Bool) (a j : ℕ) (v : Conn) → Quiet (finish_report y bind stay a j v)
finish_quiet false bind stay a j v = none
finish_quiet true false stay a j v = an_end a j
finish_quiet true true true a j v = none
finish_quiet true true false a j v = holder_quiet v.holder

quiet_ordered : (rs ys : List Report) → Quiet ys → FlagsOrdered rs → FlagsOrdered (rs ++ ys)
quiet_ordered rs ys q o = ordered_append rs ys (inl q.no_up) (inl q.no_retired) q.calm o

quiet_ordered_if : (b : Bool) (rs ys : List Report) → Quiet ys → FlagsOrdered rs → FlagsOrdered (if b then rs ++ ys else rs)
quiet_ordered_if true rs ys q o = quiet_ordered rs ys q o
quiet_ordered_if false rs ys q o = o

quiet_flagged : (u : ℕ) (v : Conn) (d : Desk) (rs ys : List Report) → Quiet ys → FlaggedOf u v d rs → FlaggedOf u v d (rs ++ ys)
quiet_flagged u v d rs ys q h = rw (ups_append rs ys, retireds_append rs ys, downs_append rs ys, q.no_up, q.no_retired, q.no_down) (simp add-zero h)

-- what an order or an end does to the flags of a connection: nothing
forward_flags : (st bind : Bool) (a j h u : ℕ) (v : Conn) (d : Desk) (rs : List Report) → FlaggedOf u v d rs → FlaggedOf u (forward_row st bind a j h v) d rs
forward_flags true bind a j h u v d rs f = f
forward_flags false bind a j h u v d rs f = f

flags_order : (b bind : Bool) (a u : ℕ) (ls : List ToConn) (v : Conn) (d : Desk) (rs : List Report) → FlaggedOf u v d rs → FlaggedOf u (if b then take_order bind a ls v else v) d (if b then rs ++ order_report bind a ls v else rs)
flags_order false bind a u ls v d rs f = f
flags_order true bind a u [] v d rs f = quiet_flagged u v d rs [] none f
flags_order true bind a u (Forward j h ∷ ls) v d rs f = forward_flags (stopped v) bind a j h u v d (rs ++ order_report bind a (Forward j h ∷ ls) v) (quiet_flagged u v d rs _ (order_quiet bind a (Forward j h ∷ ls) v) f)
flags_order true true a u (Drop j ∷ ls) v d rs f = quiet_flagged u v d rs [] none f
flags_order true false a u (Drop j ∷ ls) v d rs f = quiet_flagged u v d rs _ (end_if (v.rows a j) a j) f
flags_order true bind a u (Leave j ∷ ls) v d rs f = quiet_flagged u v d rs _ (order_quiet bind a (Leave j ∷ ls) v) f
flags_order true bind a u (Signal b ∷ ls) v d rs f = quiet_flagged u v d rs _ (order_quiet bind a (Signal b ∷ ls) v) f

flags_done : (b y bind stay : Bool) (a j u : ℕ) (v : Conn) (d : Desk) (rs : List Report) → FlaggedOf u v d rs → FlaggedOf u (if b then finish_row y bind stay a j v else v) d (if b then rs ++ finish_report y bind stay a j v else rs)
flags_done false y bind stay a j u v d rs f = f
flags_done true false bind stay a j u v d rs f = quiet_flagged u v d rs [] none f
flags_done true true false stay a j u v d rs f = quiet_flagged u v d rs _ (an_end a j) f
flags_done true true true true a j u v d rs f = quiet_flagged u v d rs [] none f
flags_done true true true false a j u v d rs f = quiet_flagged u v d rs _ (holder_quiet v.holder) f

-- it comes up, retires, goes down
ups_one : (u : ℕ) (v : Conn) (d : Desk) (a b c : Bool) → v.up ≡ a → v.retired ≡ b → v.down ≡ c → (rs : List Report) → (not a && not (b || c)) ≡ true → FlaggedOf u v d rs → FlaggedOf u (record v { up = true }) d (rs ++ IsUp ∷ [])
ups_one u v d false false false p q r rs e f = rw (ups_append, retireds_append, downs_append) (let x = rw (p, q, r) at f in rw (q, r) (grind (arith, x)))
ups_one u v d true b c p q r rs e f = absurd (cc)
ups_one u v d false true c p q r rs e f = absurd (cc)
ups_one u v d false false true p q r rs e f = absurd (cc)

not_first : (a b : Bool) → (not a && b) ≡ true → a ≡ false
not_first true b e = absurd (cc)
not_first false b e = refl

retires_one : (u : ℕ) (v : Conn) (d : Desk) (b c : Bool) → v.retired ≡ b → v.down ≡ c → (rs : List Report) → not (b || c) ≡ true → FlaggedOf u v d rs → FlaggedOf u (record v { retired = true }) d (rs ++ IsRetired ∷ [])
retires_one u v d false false q r rs e f = rw (ups_append, retireds_append, downs_append) (let x = rw (q, r) at f in rw r (grind (arith, x)))
retires_one u v d true c q r rs e f = absurd (cc)
retires_one u v d false true q r rs e f = absurd (cc)

down_letters : (o : Option Op) → (ups (holder_report o ++ IsDown ∷ []) ≡ 0) × (retireds (holder_report o ++ IsDown ∷ []) ≡ 0) × (downs (holder_report o ++ IsDown ∷ []) ≡ 1) × FlagsOrdered (holder_report o ++ IsDown ∷ [])
down_letters None = (refl, refl, refl, (refl, tt))
down_letters (Some o) = (refl, refl, refl, (refl, tt))

broke : (up ret us rs ds hu hr hd x y z : ℕ) (c : Bool) → c ≡ false → x ≡ 0 → y ≡ 0 → z ≡ 1 → Flagged up ret (num c) us rs ds hu hr hd → Flagged up ret 1 (us + x) (rs + y) (ds + z) hu hr hd
broke up ret us rs ds hu hr hd x y z true e p q r f = absurd (cc)
broke up ret us rs ds hu hr hd x y z false e p q r f = grind (arith, f)

breaks_one : (u : ℕ) (v : Conn) (d : Desk) (rs ys : List Report) (y : Bool) → (not v.down && y) ≡ true → ups ys ≡ 0 → retireds ys ≡ 0 → downs ys ≡ 1 → FlaggedOf u v d rs
    → Flagged (num v.up) (num v.retired) 1 (ups (rs ++ ys)) (retireds (rs ++ ys)) (downs (rs ++ ys)) (num (d.up u)) (num (d.retired u)) (num (d.down u))
breaks_one u v d rs ys y e p q r f = rw (ups_append rs ys, retireds_append rs ys, downs_append rs ys) (broke _ _ (ups rs) (retireds rs) (downs rs) _ _ _ _ _ _ v.down (not_first v.down y e) p q r f)

flags_up : (b y : Bool) (u : ℕ) (v : Conn) (d : Desk) (rs : List Report) → may_come_up v ≡ y → FlaggedOf u v d rs → FlaggedOf u (if b then up_row y v else v) d (if b then rs ++ one_report y IsUp else rs)
flags_up false y u v d rs e f = f
flags_up true false u v d rs e f = quiet_flagged u v d rs [] none f
flags_up true true u v d rs e f = ups_one u v d v.up v.retired v.down refl refl refl rs e f

flags_retires : (b y : Bool) (u : ℕ) (v : Conn) (d : Desk) (rs : List Report) → not (stopped v) ≡ y → FlaggedOf u v d rs → FlaggedOf u (if b then retire_row y v else v) d (if b then rs ++ one_report y IsRetired else rs)
flags_retires false y u v d rs e f = f
flags_retires true false u v d rs e f = quiet_flagged u v d rs [] none f
flags_retires true true u v d rs e f = retires_one u v d v.retired v.down refl refl rs e f

flags_breaks : (b y bind : Bool) (u : ℕ) (v : Conn) (d : Desk) (rs : List Report) → may_break v ≡ y → FlaggedOf u v d rs → FlaggedOf u (if b then break_row y bind v else v) d (if b then rs ++ break_report y bind v else rs)
flags_breaks false y bind u v d rs e f = f
flags_breaks true false bind u v d rs e f = quiet_flagged u v d rs [] none f
flags_breaks true true false u v d rs e f = breaks_one u v d rs (IsDown ∷ []) _ e refl refl refl f
flags_breaks true true true u v d rs e f = let n = down_letters v.holder in breaks_one u v d rs (holder_report v.holder ++ IsDown ∷ []) _ e n.0 n.1 n.2 f

neither_of : (a b : Bool) → not (a || b) ≡ true → (a ≡ false) × (b ≡ false)
neither_of true b e = absurd (cc)
neither_of false true e = absurd (cc)
neither_of false false e = (refl, refl)

not_second : (a b : Bool) → not (a || b) ≡ true → b ≡ false
not_second a b e = (neither_of a b e).1

second : (a b : Bool) → (a && b) ≡ true → b ≡ true
second true b e = e
second false b e = absurd (cc)

idle : (v : Conn) → may_come_up v ≡ true → (v.retired ≡ false) × (v.down ≡ false)
idle v e = neither_of v.retired v.down (second (not v.up) (not (stopped v)) e)

-- the order of the flags that wait
order_up : (b y : Bool) (u : ℕ) (v : Conn) (d : Desk) (rs : List Report) → may_come_up v ≡ y → FlaggedOf u v d rs → FlagsOrdered rs → FlagsOrdered (if b then rs ++ one_report y IsUp else rs)
order_up false y u v d rs e f o = o
order_up true false u v d rs e f o = quiet_ordered rs [] none o
order_up true true u v d rs e f o = let n = idle v e in ordered_append rs (IsUp ∷ []) (inr (omega (arith, f, ap num n.0, ap num n.1))) (inl refl) tt o

order_retires : (b y : Bool) (u : ℕ) (v : Conn) (d : Desk) (rs : List Report) → not (stopped v) ≡ y → FlaggedOf u v d rs → FlagsOrdered rs → FlagsOrdered (if b then rs ++ one_report y IsRetired else rs)
order_retires false y u v d rs e f o = o
order_retires true false u v d rs e f o = quiet_ordered rs [] none o
order_retires true true u v d rs e f o = ordered_append rs (IsRetired ∷ []) (inl refl) (inr (omega (arith, f, ap num (not_second v.retired v.down e)))) (refl, tt) o

order_breaks : (b y bind : Bool) (v : Conn) (rs : List Report) → FlagsOrdered rs → FlagsOrdered (if b then rs ++ break_report y bind v else rs)
order_breaks false y bind v rs o = o
order_breaks true false bind v rs o = quiet_ordered rs [] none o
order_breaks true true false v rs o = ordered_append rs (IsDown ∷ []) (inl refl) (inl refl) (refl, tt) o
order_breaks true true true v rs o = let n = down_letters v.holder in ordered_append rs (holder_report v.holder ++ IsDown ∷ []) (inl n.0) (inl n.1) n.3 o

-- the desk: a decision changes no flag, and a report that is heard changes its own
choose_flags : (bind : Bool) (a j u : ℕ) (o : Option ℕ) (v : Conn) (d : Desk) (rs : List Report) → FlaggedOf u v d rs → FlaggedOf u v (choose bind a j o d) rs
choose_flags bind a j u None v d rs f = f
choose_flags bind a j u (Some w) v d rs f = f

flags_decides : (kinds : Kinds) (a u : ℕ) (ls : List ToDesk) (ans : Option ℕ) (v : Conn) (d : Desk) (rs : List Report) → FlaggedOf u v d rs → FlaggedOf u v (decide kinds a ls ans d) rs
flags_decides kinds a u [] ans v d rs f = f
flags_decides kinds a u (Ask j ∷ ls) ans v d rs f = choose_flags (kinds.bind_op a j) a j u (chosen_for kinds d a j ans) v d rs f
flags_decides kinds a u (Returned j w ∷ ls) ans v d rs f = f

hears_up : (up ret down us rs ds hr hd : ℕ) (h : Bool) → up ≤ 1 → Flagged up ret down (1 + us) rs ds (num h) hr hd → Flagged up ret down us rs ds 1 hr hd
hears_up up ret down us rs ds hr hd true le f = absurd (omega arith)
hears_up up ret down us rs ds hr hd false le f = grind (arith, f)

hears_retired : (up ret down us rs ds hu hd : ℕ) (h : Bool) → ret ≤ 1 → us ≡ 0 → Flagged up ret down us (1 + rs) ds hu (num h) hd → Flagged up ret down us rs ds hu 1 hd
hears_retired up ret down us rs ds hu hd true le z f = absurd (omega arith)
hears_retired up ret down us rs ds hu hd false le z f = grind (arith, f)

hears_down : (up ret down us rs ds hu hr : ℕ) (h : Bool) → down ≤ 1 → us + rs ≡ 0 → Flagged up ret down us rs (1 + ds) hu hr (num h) → Flagged up ret down us rs ds hu hr 1
hears_down up ret down us rs ds hu hr true le z f = absurd (omega arith)
hears_down up ret down us rs ds hu hr false le z f = grind (arith, f)

hears_own : (kinds : Kinds) (u : ℕ) (v : Conn) (d : Desk) (rs : List Report) → FlagsOrdered rs → FlaggedOf u v d rs → FlaggedOf u v (hear kinds u rs d) (tail rs)
hears_own kinds u v d [] o f = f
hears_own kinds u v d (Ended a j ∷ rs) o f = f
hears_own kinds u v d (IsUp ∷ rs) o f = rw (same_self u) (hears_up _ _ _ (ups rs) _ _ _ _ (d.up u) (num_le v.up) f)
hears_own kinds u v d (IsRetired ∷ rs) o f = rw (same_self u) (hears_retired _ _ _ _ (retireds rs) _ _ _ (d.retired u) (num_le v.retired) o.0 f)
hears_own kinds u v d (IsDown ∷ rs) o f = rw (same_self u) (hears_down _ _ _ _ _ (downs rs) _ _ (d.down u) (num_le v.down) o.0 f)

hears_other : (kinds : Kinds) (w u : ℕ) (v : Conn) (d : Desk) (ls rs : List Report) → (u == w) ≡ false → FlaggedOf u v d rs → FlaggedOf u v (hear kinds w ls d) rs
hears_other kinds w u v d [] rs e f = f
hears_other kinds w u v d (Ended a j ∷ ls) rs e f = f
hears_other kinds w u v d (IsUp ∷ ls) rs e f = rw e f
hears_other kinds w u v d (IsRetired ∷ ls) rs e f = rw e f
hears_other kinds w u v d (IsDown ∷ ls) rs e f = rw e f

flags_hears : (b : Bool) (kinds : Kinds) (w u : ℕ) (v : Conn) (d : Desk) (reports : ℕ → List Report) → (u == w) ≡ b → FlagsOrdered (reports u) → FlaggedOf u v d (reports u) → FlaggedOf u v (hear kinds w (reports w) d) (if b then tail (reports u) else reports u)
flags_hears true kinds w u v d reports e o f = subst (λ (i : ℕ). FlaggedOf u v (hear kinds i (reports i) d) (tail (reports u))) (same_number u w e) (hears_own kinds u v d (reports u) o f)
flags_hears false kinds w u v d reports e o f = hears_other kinds w u v d (reports w) (reports u) e f

order_hears : (b : Bool) (rs : List Report) → FlagsOrdered rs → FlagsOrdered (if b then tail rs else rs)
order_hears true rs o = ordered_tail rs o
order_hears false rs o = o

-- each move
pub flags_move : (kinds : Kinds) (w : World) (m : Move) (u : ℕ) → FlaggedAt w u → FlaggedAt (move kinds w m) u
flags_move kinds w (Asks a) u h = record { flagged = h.flagged; flags_ordered = h.flags_ordered }
flags_move kinds w (Refuses a) u h = record { flagged = h.flagged; flags_ordered = h.flags_ordered }
flags_move kinds w (Binds a) u h = record { flagged = h.flagged; flags_ordered = h.flags_ordered }
flags_move kinds w (Ends a j) u h = record { flagged = h.flagged; flags_ordered = h.flags_ordered }
flags_move kinds w (Goes a) u h = record { flagged = h.flagged; flags_ordered = h.flags_ordered }
flags_move kinds w (Leaves a) u h = record { flagged = h.flagged; flags_ordered = h.flags_ordered }
flags_move kinds w (Signals a j v) u h = record { flagged = h.flagged; flags_ordered = h.flags_ordered }
flags_move kinds w (TakesChoice a) u h = record { flagged = h.flagged; flags_ordered = h.flags_ordered }
flags_move kinds w (TakesAnswer a v) u h = record { flagged = h.flagged; flags_ordered = h.flags_ordered }
flags_move kinds w (TakesOrder v a) u h = record {
  flagged = flags_order (u == v) (kinds.bind_conn u) a u (w.to_conn a u) (w.conns u) w.desk (w.reports u) h.flagged;
  flags_ordered = quiet_ordered_if (u == v) (w.reports u) (order_report (kinds.bind_conn u) a (w.to_conn a u) (w.conns u)) (order_quiet (kinds.bind_conn u) a (w.to_conn a u) (w.conns u)) h.flags_ordered;
}
flags_move kinds w (Answers v a j) u h = record { flagged = h.flagged; flags_ordered = h.flags_ordered }
flags_move kinds w (Finishes v a j failed stay) u h = record {
  flagged = flags_done (u == v) ((w.conns u).rows a j) (kinds.bind_conn u) stay a j u (w.conns u) w.desk (w.reports u) h.flagged;
  flags_ordered = quiet_ordered_if (u == v) (w.reports u) (finish_report ((w.conns u).rows a j) (kinds.bind_conn u) stay a j (w.conns u)) (finish_quiet ((w.conns u).rows a j) (kinds.bind_conn u) stay a j (w.conns u)) h.flags_ordered;
}
flags_move kinds w (ComesUp v) u h = record {
  flagged = flags_up (u == v) (may_come_up (w.conns u)) u (w.conns u) w.desk (w.reports u) refl h.flagged;
  flags_ordered = order_up (u == v) (may_come_up (w.conns u)) u (w.conns u) w.desk (w.reports u) refl h.flagged h.flags_ordered;
}
flags_move kinds w (Retires v) u h = record {
  flagged = flags_retires (u == v) (not (stopped (w.conns u))) u (w.conns u) w.desk (w.reports u) refl h.flagged;
  flags_ordered = order_retires (u == v) (not (stopped (w.conns u))) u (w.conns u) w.desk (w.reports u) refl h.flagged h.flags_ordered;
}
flags_move kinds w (Breaks v) u h = record {
  flagged = flags_breaks (u == v) (may_break (w.conns u)) (kinds.bind_conn u) u (w.conns u) w.desk (w.reports u) refl h.flagged;
  flags_ordered = order_breaks (u == v) (may_break (w.conns u)) (kinds.bind_conn u) (w.conns u) (w.reports u) h.flags_ordered;
}
flags_move kinds w (Decides a ans) u h = record { flagged = flags_decides kinds a u (w.to_desk a) ans (w.conns u) w.desk (w.reports u) h.flagged; flags_ordered = h.flags_ordered }
flags_move kinds w (Hears v) u h = record {
  flagged = flags_hears (u == v) kinds v u (w.conns u) w.desk w.reports refl h.flags_ordered h.flagged;
  flags_ordered = order_hears (u == v) (w.reports u) h.flags_ordered;
}

pub flags_empty : (u : ℕ) → FlaggedAt empty u
flags_empty u = record { flagged = record { come = refl; tired = refl; broken = refl; up_first = λ _. refl; down_last = λ _. refl }; flags_ordered = tt }
