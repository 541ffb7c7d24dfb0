-- What the moves of a regular connection give.
use Rattle.std.proofs.Common.{◌≡◌, ℕ, Bool, true, false, ◌==◌, not, if◌then◌else◌, List, [], ◌∷◌, ◌++◌, refl, ap, ◌∙◌, sym, append-nil}
use Rattle.std.specs.Prelude.{Option}
use Rattle.lload_names.specs.declared.names.Letter.{Letter}
use Rattle.lload_names.specs.declared.names.Letter.TheVariants as real
use Rattle.lload_names.specs.declared.names.PartName.TheVariants.{Desk, Client}
use Rattle.lload_names.specs.declared.names.Posted.{Posted}
use Rattle.lload_spec.specs.Settings.{Settings}
use Rattle.part_spec.specs.Inputs.{to}
use Rattle.part_spec.specs.Marked.{letters_to}
use Rattle.move_laws.specs.World.{ToClient, Reply, Failed, Report, Ended, IsUp, IsRetired, IsDown}
use Rattle.move_laws.specs.Conns.{order_answer, order_report, finish_letter, finish_report, may_come_up, may_break, one_report, break_report, stopped}
use Rattle.stands_laws.specs.Books.{Book, name}
use Rattle.stands_laws.specs.Lists.{Pairs}
use Rattle.stands_laws.specs.Letters.{AnswerIs, ReportIs}
use Rattle.stands_laws.specs.ConnectionSides.{ConnSide, Taking, Replying, Finishing, Rising, Retiring, Breaking, conn_move}
use Rattle.part_laws.proofs.ListLaws.{same_number}
use Rattle.stands_laws.proofs.ConnGives.{Gives, gives_at, gives_told, its_client, one_client}

-- An answer that isn't the last.
pub gives_reply : (s : Settings) (b : Book) (u c k : ℕ) (l : Letter) (y : ConnSide) → y.row.rows c k ≡ true → AnswerIs s b c l (Reply k false false) → Gives s b u (to (Client c) l) y (conn_move false y (Replying c k))
gives_reply s b u c k l y live a =
    gives_at s b u c (to (Client c) l) y (conn_move false y (Replying c k)) (Reply k false false ∷ []) []
    (λ i e. ap (λ (t : Bool). if t then y.answers i ++ (if y.row.rows i k then Reply k false false ∷ [] else []) else y.answers i) e ∙ ap (λ (t : Bool). y.answers i ++ (if t then Reply k false false ∷ [] else [])) (ap (λ n. y.row.rows n k) (same_number i c e) ∙ live))
    (λ i e. ap (λ (t : Bool). if t then y.answers i ++ (if y.row.rows i k then Reply k false false ∷ [] else []) else y.answers i) e)
    (sym (append-nil y.reports))
    (its_client s b c l (Reply k false false) [] refl a)
    (λ i e. one_client c i l [] e refl)
    (let nothing : letters_to Desk (to (Client c) l) ≡ [] = refl in tt)

-- An operation is finished, by its last answer or by a refusal.
abbrev pub last_answer : Bool → ℕ → ToClient
last_answer true k = Failed k
last_answer false k = Reply k true false

pub gives_finish : (s : Settings) (b : Book) (u c k n : ℕ) (failed : Bool) (l : Letter) (latency : Option ℕ) (y : ConnSide) → n ≡ u → y.row.rows c k ≡ true → AnswerIs s b c l (last_answer failed k) → Gives s b u (to (Client c) l ++ to Desk (real.Ended (name c k) n latency)) y (conn_move false y (Finishing c k failed false))
gives_finish s b u c k n failed l latency y number live a =
    gives_at s b u c (to (Client c) l ++ to Desk (real.Ended (name c k) n latency)) y (conn_move false y (Finishing c k failed false)) (last_answer failed k ∷ []) (Ended c k ∷ [])
    (λ i e. ap (λ (t : Bool). if t then y.answers i ++ finish_letter (y.row.rows i k) failed k false else y.answers i) e ∙ (ap (λ (t : Bool). y.answers i ++ finish_letter t failed k false) (ap (λ n. y.row.rows n k) (same_number i c e) ∙ live) ∙ ap (λ ls. y.answers i ++ ls) (letter failed)))
    (λ i e. ap (λ (t : Bool). if t then y.answers i ++ finish_letter (y.row.rows i k) failed k false else y.answers i) e)
    (ap (λ (t : Bool). y.reports ++ finish_report t false false c k y.row) live)
    (its_client s b c l (last_answer failed k) (to Desk (real.Ended (name c k) n latency)) refl a)
    (λ i e. one_client c i l (to Desk (real.Ended (name c k) n latency)) e refl)
    (record { latency = latency; is = ap (λ m. real.Ended (name c k) m latency) number }, tt)
  where
    letter : (t : Bool) → finish_letter true t k false ≡ last_answer t k ∷ []
    letter true = refl
    letter false = refl

-- It comes up, retires, goes down.
pub gives_up : (s : Settings) (b : Book) (u n : ℕ) (y : ConnSide) → n ≡ u → may_come_up y.row ≡ true → Gives s b u (to Desk (real.IsUp n)) y (conn_move false y Rising)
gives_up s b u n y number may = gives_told s b u (to Desk (real.IsUp n)) y (conn_move false y Rising) (IsUp ∷ []) (λ i. refl) (ap (λ (t : Bool). y.reports ++ one_report t IsUp) may) (λ i. refl) (ap (λ m. real.IsUp m) number, tt)

pub gives_retired : (s : Settings) (b : Book) (u n : ℕ) (y : ConnSide) → n ≡ u → stopped y.row ≡ false → Gives s b u (to Desk (real.IsRetired n)) y (conn_move false y Retiring)
gives_retired s b u n y number going = gives_told s b u (to Desk (real.IsRetired n)) y (conn_move false y Retiring) (IsRetired ∷ []) (λ i. refl) (ap (λ (t : Bool). y.reports ++ one_report (not t) IsRetired) going) (λ i. refl) (ap (λ m. real.IsRetired m) number, tt)

pub gives_down : (s : Settings) (b : Book) (u n : ℕ) (y : ConnSide) → n ≡ u → may_break y.row ≡ true → Gives s b u (to Desk (real.IsDown n)) y (conn_move false y Breaking)
gives_down s b u n y number may = gives_told s b u (to Desk (real.IsDown n)) y (conn_move false y Breaking) (IsDown ∷ []) (λ i. refl) (ap (λ (t : Bool). y.reports ++ break_report t false y.row) may) (λ i. refl) (ap (λ m. real.IsDown m) number, tt)

-- An order is taken.
pub gives_taking : (s : Settings) (b : Book) (u c : ℕ) (xs : List Posted) (y : ConnSide) (zs : List ToClient) (rs : List Report) → order_answer (y.orders c) y.row ≡ zs → order_report false c (y.orders c) y.row ≡ rs → Pairs (AnswerIs s b c) (letters_to (Client c) xs) zs → ((i : ℕ) → (i == c) ≡ false → letters_to (Client i) xs ≡ []) → Pairs (ReportIs u) (letters_to Desk xs) rs → Gives s b u xs y (conn_move false y (Taking c))
gives_taking s b u c xs y zs rs answer report h none k =
    gives_at s b u c xs y (conn_move false y (Taking c)) zs rs
    (λ i e. ap (λ (t : Bool). if t then y.answers i ++ order_answer (y.orders i) y.row else y.answers i) e ∙ ap (λ ls. y.answers i ++ ls) (ap (λ n. order_answer (y.orders n) y.row) (same_number i c e) ∙ answer))
    (λ i e. ap (λ (t : Bool). if t then y.answers i ++ order_answer (y.orders i) y.row else y.answers i) e)
    (ap (λ ls. y.reports ++ ls) report)
    h none k

-- it gives an answer to its client and tells the desk
pub gives_missed : (s : Settings) (b : Book) (u c : ℕ) (l r : Letter) (m : ToClient) (t : Report) (y : ConnSide) → order_answer (y.orders c) y.row ≡ m ∷ [] → order_report false c (y.orders c) y.row ≡ t ∷ [] → AnswerIs s b c l m → ReportIs u r t → Gives s b u (to (Client c) l ++ to Desk r) y (conn_move false y (Taking c))
gives_missed s b u c l r m t y answer report a k = gives_taking s b u c (to (Client c) l ++ to Desk r) y (m ∷ []) (t ∷ []) answer report (its_client s b c l m (to Desk r) refl a) (λ i e. one_client c i l (to Desk r) e refl) (k, tt)

-- it tells the desk, or nothing
pub gives_told_taking : (s : Settings) (b : Book) (u c : ℕ) (r : Letter) (t : Report) (y : ConnSide) → order_answer (y.orders c) y.row ≡ [] → order_report false c (y.orders c) y.row ≡ t ∷ [] → ReportIs u r t → Gives s b u (to Desk r) y (conn_move false y (Taking c))
gives_told_taking s b u c r t y answer report k = gives_taking s b u c (to Desk r) y [] (t ∷ []) answer report tt (λ i e. refl) (k, tt)

pub gives_silent : (s : Settings) (b : Book) (u c : ℕ) (y : ConnSide) → order_answer (y.orders c) y.row ≡ [] → order_report false c (y.orders c) y.row ≡ [] → Gives s b u [] y (conn_move false y (Taking c))
gives_silent s b u c y answer report = gives_taking s b u c [] y [] [] answer report tt (λ i e. refl) tt
