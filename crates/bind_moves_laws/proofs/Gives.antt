-- What the moves of a bind connection give.
use Rattle.std.proofs.Common.{◌≡◌, ℕ, Bool, true, false, ◌==◌, if◌then◌else◌, List, [], ◌∷◌, ◌++◌, refl, ap, ◌∙◌, sym, append-nil}
use Rattle.std.specs.Prelude.{Option, Some, None, not, ◌&&◌}
use Rattle.lload_names.specs.declared.names.Letter.{Letter}
use Rattle.lload_names.specs.declared.names.Letter.TheVariants as real
use Rattle.lload_names.specs.declared.names.PartName.TheVariants.{Desk, Client}
use Rattle.lload_names.specs.declared.names.Posted.{Posted}
use Rattle.lload_spec.specs.Settings.{Settings}
use Rattle.part_spec.specs.Inputs.{to}
use Rattle.part_spec.specs.Marked.{letters_to}
use Rattle.move_laws.specs.World.{Op, ToClient, Reply, Failed, Report, IsUp, IsRetired, IsDown}
use Rattle.move_laws.specs.Conns.{order_answer, order_report, finish_letter, finish_report, holder_report, may_come_up, may_break, one_report, break_report, stopped}
use Rattle.stands_laws.specs.Books.{Book, name}
use Rattle.stands_laws.specs.Lists.{Pairs}
use Rattle.stands_laws.specs.Letters.{AnswerIs, ReportIs}
use Rattle.stands_laws.specs.ConnectionSides.{ConnSide, Taking, Replying, Finishing, Rising, Retiring, Breaking, conn_move}
use Rattle.part_laws.proofs.ListLaws.{same_number}
use Rattle.stands_laws.proofs.ConnGives.{Gives, gives_at, gives_told, its_client, one_client}

-- the end of a holder, as the desk hears it
abbrev pub held_letters : ℕ → Option Op → List Posted
held_letters n None = []
held_letters n (Some h) = to Desk (real.Ended (name h.client h.k) n None)

-- where it stays, it hears of none
abbrev pub freed_letters : ℕ → Bool → Option Op → List Posted
freed_letters n true h = []
freed_letters n false h = held_letters n h

abbrev pub freed_reports : Bool → Option Op → List Report
freed_reports true h = []
freed_reports false h = holder_report h

pub held_pairs : (u n : ℕ) (h : Option Op) → n ≡ u → Pairs (ReportIs u) (letters_to Desk (held_letters n h)) (holder_report h)
held_pairs u n None number = tt
held_pairs u n (Some h) number = (record { latency = None; is = ap (λ m. real.Ended (name h.client h.k) m None) number }, tt)

pub held_silent : (i n : ℕ) (h : Option Op) → letters_to (Client i) (held_letters n h) ≡ []
held_silent i n None = refl
held_silent i n (Some h) = refl

freed_pairs : (u n : ℕ) (stay : Bool) (h : Option Op) → n ≡ u → Pairs (ReportIs u) (letters_to Desk (freed_letters n stay h)) (freed_reports stay h)
freed_pairs u n true h number = tt
freed_pairs u n false h number = held_pairs u n h number

freed_silent : (i n : ℕ) (stay : Bool) (h : Option Op) → letters_to (Client i) (freed_letters n stay h) ≡ []
freed_silent i n true h = refl
freed_silent i n false h = held_silent i n h

-- An answer that isn't the last.
pub gives_reply : (s : Settings) (b : Book) (u c k : ℕ) (l : Letter) (y : ConnSide) → y.row.rows c k ≡ true → AnswerIs s b c l (Reply k false false) → Gives s b u (to (Client c) l) y (conn_move true y (Replying c k))
gives_reply s b u c k l y live a =
    gives_at s b u c (to (Client c) l) y (conn_move true y (Replying c k)) (Reply k false false ∷ []) []
    (λ i e. ap (λ (t : Bool). if t then y.answers i ++ (if y.row.rows i k then Reply k false false ∷ [] else []) else y.answers i) e ∙ ap (λ (t : Bool). y.answers i ++ (if t then Reply k false false ∷ [] else [])) (ap (λ n. y.row.rows n k) (same_number i c e) ∙ live))
    (λ i e. ap (λ (t : Bool). if t then y.answers i ++ (if y.row.rows i k then Reply k false false ∷ [] else []) else y.answers i) e)
    (sym (append-nil y.reports))
    (its_client s b c l (Reply k false false) [] refl a)
    (λ i e. one_client c i l [] e refl)
    (let nothing : letters_to Desk (to (Client c) l) ≡ [] = refl in tt)

-- The live Bind is finished, by its last answer or by a refusal.
abbrev pub last_answer : Bool → Bool → ℕ → ToClient
last_answer true stay k = Failed k
last_answer false stay k = Reply k true stay

pub gives_finish : (s : Settings) (b : Book) (u c k n : ℕ) (failed stay : Bool) (l : Letter) (y : ConnSide) → n ≡ u → y.row.rows c k ≡ true → AnswerIs s b c l (last_answer failed stay k) → Gives s b u (to (Client c) l ++ freed_letters n stay y.row.holder) y (conn_move true y (Finishing c k failed stay))
gives_finish s b u c k n failed stay l y number live a =
    gives_at s b u c (to (Client c) l ++ freed_letters n stay y.row.holder) y (conn_move true y (Finishing c k failed stay)) (last_answer failed stay k ∷ []) (freed_reports stay y.row.holder)
    (λ i e. ap (λ (t : Bool). if t then y.answers i ++ finish_letter (y.row.rows i k) failed k (true && stay) else y.answers i) e ∙ (ap (λ (t : Bool). y.answers i ++ finish_letter t failed k (true && stay)) (ap (λ n. y.row.rows n k) (same_number i c e) ∙ live) ∙ ap (λ ls. y.answers i ++ ls) (letter failed)))
    (λ i e. ap (λ (t : Bool). if t then y.answers i ++ finish_letter (y.row.rows i k) failed k (true && stay) else y.answers i) e)
    (ap (λ (t : Bool). y.reports ++ finish_report t true stay c k y.row) live ∙ ap (λ rs. y.reports ++ rs) (told stay))
    (its_client s b c l (last_answer failed stay k) (freed_letters n stay y.row.holder) (freed_silent c n stay y.row.holder) a)
    (λ i e. one_client c i l (freed_letters n stay y.row.holder) e (freed_silent i n stay y.row.holder))
    (freed_pairs u n stay y.row.holder number)
  where
    letter : (t : Bool) → finish_letter true t k (true && stay) ≡ last_answer t stay k ∷ []
    letter true = refl
    letter false = refl

    told : (t : Bool) → finish_report true true t c k y.row ≡ freed_reports t y.row.holder
    told true = refl
    told false = refl

-- It comes up, retires, goes down.
pub gives_up : (s : Settings) (b : Book) (u n : ℕ) (y : ConnSide) → n ≡ u → may_come_up y.row ≡ true → Gives s b u (to Desk (real.IsUp n)) y (conn_move true y Rising)
gives_up s b u n y number may = gives_told s b u (to Desk (real.IsUp n)) y (conn_move true y Rising) (IsUp ∷ []) (λ i. refl) (ap (λ (t : Bool). y.reports ++ one_report t IsUp) may) (λ i. refl) (ap (λ m. real.IsUp m) number, tt)

pub gives_retired : (s : Settings) (b : Book) (u n : ℕ) (y : ConnSide) → n ≡ u → stopped y.row ≡ false → Gives s b u (to Desk (real.IsRetired n)) y (conn_move true y Retiring)
gives_retired s b u n y number going = gives_told s b u (to Desk (real.IsRetired n)) y (conn_move true y Retiring) (IsRetired ∷ []) (λ i. refl) (ap (λ (t : Bool). y.reports ++ one_report (not t) IsRetired) going) (λ i. refl) (ap (λ m. real.IsRetired m) number, tt)

pub gives_down : (s : Settings) (b : Book) (u n : ℕ) (y : ConnSide) → n ≡ u → may_break y.row ≡ true → Gives s b u (held_letters n y.row.holder ++ to Desk (real.IsDown n)) y (conn_move true y Breaking)
gives_down s b u n y number may = gives_told s b u (held_letters n y.row.holder ++ to Desk (real.IsDown n)) y (conn_move true y Breaking) (holder_report y.row.holder ++ IsDown ∷ []) (λ i. refl) (ap (λ (t : Bool). y.reports ++ break_report t true y.row) may) (λ i. silent i y.row.holder) (pairs y.row.holder)
  where
    silent : (i : ℕ) (h : Option Op) → letters_to (Client i) (held_letters n h ++ to Desk (real.IsDown n)) ≡ []
    silent i None = refl
    silent i (Some h) = refl

    pairs : (h : Option Op) → Pairs (ReportIs u) (letters_to Desk (held_letters n h ++ to Desk (real.IsDown n))) (holder_report h ++ IsDown ∷ [])
    pairs None = (ap (λ m. real.IsDown m) number, tt)
    pairs (Some h) = (record { latency = None; is = ap (λ m. real.Ended (name h.client h.k) m None) number }, (ap (λ m. real.IsDown m) number, tt))

-- An order is taken.
pub gives_taking : (s : Settings) (b : Book) (u c : ℕ) (xs : List Posted) (y : ConnSide) (zs : List ToClient) (rs : List Report) → order_answer (y.orders c) y.row ≡ zs → order_report true c (y.orders c) y.row ≡ rs → Pairs (AnswerIs s b c) (letters_to (Client c) xs) zs → ((i : ℕ) → (i == c) ≡ false → letters_to (Client i) xs ≡ []) → Pairs (ReportIs u) (letters_to Desk xs) rs → Gives s b u xs y (conn_move true y (Taking c))
gives_taking s b u c xs y zs rs answer report h none k =
    gives_at s b u c xs y (conn_move true y (Taking c)) zs rs
    (λ i e. ap (λ (t : Bool). if t then y.answers i ++ order_answer (y.orders i) y.row else y.answers i) e ∙ ap (λ ls. y.answers i ++ ls) (ap (λ n. order_answer (y.orders n) y.row) (same_number i c e) ∙ answer))
    (λ i e. ap (λ (t : Bool). if t then y.answers i ++ order_answer (y.orders i) y.row else y.answers i) e)
    (ap (λ ls. y.reports ++ ls) report)
    h none k

pub gives_silent : (s : Settings) (b : Book) (u c : ℕ) (y : ConnSide) → order_answer (y.orders c) y.row ≡ [] → order_report true c (y.orders c) y.row ≡ [] → Gives s b u [] y (conn_move true y (Taking c))
gives_silent s b u c y answer report = gives_taking s b u c [] y [] [] answer report tt (λ i e. refl) tt
