-- What the moves of a connection of either kind give.
use Rattle.std.proofs.Common.{◌≡◌, ℕ, Bool, true, false, ◌==◌, List, [], ◌∷◌, ◌++◌, refl, ap, ◌∙◌, sym, subst, append-nil, append_assoc}
use Rattle.lload_names.specs.declared.names.Letter.{Letter}
use Rattle.lload_names.specs.declared.names.PartName.{PartName}
use Rattle.lload_names.specs.declared.names.PartName.TheVariants.{Desk, Client}
use Rattle.lload_names.specs.declared.names.Posted.{Posted}
use Rattle.lload_spec.specs.Settings.{Settings}
use Rattle.part_spec.specs.Inputs.{act, to}
use Rattle.part_spec.specs.Marked.{letters_to}
use Rattle.move_laws.specs.World.{ToClient, Report}
use Rattle.stands_laws.specs.Books.{Book}
use Rattle.stands_laws.specs.Lists.{Pairs}
use Rattle.stands_laws.specs.Letters.{AnswerIs, ReportIs}
use Rattle.stands_laws.specs.ConnectionSides.{ConnSide, ConnMove, conn_move, conn_moves}
use Rattle.stands_laws.specs.Follows.{ConnGives}
use Rattle.stands_laws.proofs.Pairs.{pairs_append}
use Rattle.link_laws.proofs.Links.{letters_more}
use Rattle.part_laws.proofs.ListLaws.{same_number, eqb_same}

pub moves_more : (bind : Bool) (y : ConnSide) (ms ns : List ConnMove) → conn_moves bind y (ms ++ ns) ≡ conn_moves bind (conn_moves bind y ms) ns
moves_more bind y [] ns = refl
moves_more bind y (m ∷ ms) ns = moves_more bind (conn_move bind y m) ms ns

-- these letters are what was added to the queues
abbrev pub Gives : Settings → Book → ℕ → List Posted → ConnSide → ConnSide → Type 0
Gives s b u xs y z = ConnGives s b u (act [] xs) y z

pub no_more : {A B : Type 0} (R : A → B → Type 0) (q : List A) (z : List B) → Pairs R q z → Pairs R (q ++ []) z
no_more R q z p = subst (λ r. Pairs R r z) (sym (append-nil q)) p

pub gives_none : (s : Settings) (b : Book) (u : ℕ) (y : ConnSide) → Gives s b u [] y y
gives_none s b u y = record {
  answers = λ c q p. no_more (AnswerIs s b c) q (y.answers c) p;
  reports = λ q p. no_more (ReportIs u) q y.reports p;
}

pub gives_more : (s : Settings) (b : Book) (u : ℕ) (xs ys : List Posted) (x y z : ConnSide) → Gives s b u xs x y → Gives s b u ys y z → Gives s b u (xs ++ ys) x z
gives_more s b u xs ys x y z h k = record {
  answers = λ c q p. subst (λ r. Pairs (AnswerIs s b c) r (z.answers c)) (whole (Client c) q) (k.answers c (q ++ letters_to (Client c) xs) (h.answers c q p));
  reports = λ q p. subst (λ r. Pairs (ReportIs u) r z.reports) (whole Desk q) (k.reports (q ++ letters_to Desk xs) (h.reports q p));
}
  where
    whole : (a : PartName) (q : List Letter) → (q ++ letters_to a xs) ++ letters_to a ys ≡ q ++ letters_to a (xs ++ ys)
    whole a q = append_assoc q (letters_to a xs) (letters_to a ys) ∙ ap (λ l. q ++ l) (sym (letters_more a xs ys))

-- to one client and to the desk
pub gives_at : (s : Settings) (b : Book) (u c : ℕ) (xs : List Posted) (y z : ConnSide) (zs : List ToClient) (rs : List Report) → ((i : ℕ) → (i == c) ≡ true → z.answers i ≡ y.answers i ++ zs) → ((i : ℕ) → (i == c) ≡ false → z.answers i ≡ y.answers i) → z.reports ≡ y.reports ++ rs
    → Pairs (AnswerIs s b c) (letters_to (Client c) xs) zs → ((i : ℕ) → (i == c) ≡ false → letters_to (Client i) xs ≡ []) → Pairs (ReportIs u) (letters_to Desk xs) rs → Gives s b u xs y z
gives_at s b u c xs y z zs rs here there told h none k = record {
  answers = λ i q p. go i (i == c) refl q p;
  reports = λ q p. subst (Pairs (ReportIs u) (q ++ letters_to Desk xs)) (sym told) (pairs_append (ReportIs u) q y.reports (letters_to Desk xs) rs p k);
}
  where
    go : (i : ℕ) (t : Bool) → (i == c) ≡ t → (q : List Letter) → Pairs (AnswerIs s b i) q (y.answers i) → Pairs (AnswerIs s b i) (q ++ letters_to (Client i) xs) (z.answers i)
    go i true e q p = subst (Pairs (AnswerIs s b i) (q ++ letters_to (Client i) xs)) (sym (here i e)) (pairs_append (AnswerIs s b i) q (y.answers i) (letters_to (Client i) xs) zs p (subst (λ a. Pairs (AnswerIs s b a) (letters_to (Client a) xs) zs) (sym (same_number i c e)) h))
    go i false e q p = subst (Pairs (AnswerIs s b i) (q ++ letters_to (Client i) xs)) (sym (there i e)) (subst (λ l. Pairs (AnswerIs s b i) (q ++ l) (y.answers i)) (sym (none i e)) (no_more (AnswerIs s b i) q (y.answers i) p))

-- to the desk alone
pub gives_told : (s : Settings) (b : Book) (u : ℕ) (xs : List Posted) (y z : ConnSide) (rs : List Report) → ((i : ℕ) → z.answers i ≡ y.answers i) → z.reports ≡ y.reports ++ rs → ((i : ℕ) → letters_to (Client i) xs ≡ []) → Pairs (ReportIs u) (letters_to Desk xs) rs → Gives s b u xs y z
gives_told s b u xs y z rs same told none k = record {
  answers = λ i q p. subst (Pairs (AnswerIs s b i) (q ++ letters_to (Client i) xs)) (sym (same i)) (subst (λ l. Pairs (AnswerIs s b i) (q ++ l) (y.answers i)) (sym (none i)) (no_more (AnswerIs s b i) q (y.answers i) p));
  reports = λ q p. subst (Pairs (ReportIs u) (q ++ letters_to Desk xs)) (sym told) (pairs_append (ReportIs u) q y.reports (letters_to Desk xs) rs p k);
}

-- letters to one client
pub one_client : (c i : ℕ) (l : Letter) (xs : List Posted) → (i == c) ≡ false → letters_to (Client i) xs ≡ [] → letters_to (Client i) (to (Client c) l ++ xs) ≡ []
one_client c i l xs e n = ap (λ (t : Bool). (elim t [ true ↦ l ∷ [] | false ↦ [] ]) ++ letters_to (Client i) xs) e ∙ n

pub its_client : (s : Settings) (b : Book) (c : ℕ) (l : Letter) (m : ToClient) (xs : List Posted) → letters_to (Client c) xs ≡ [] → AnswerIs s b c l m → Pairs (AnswerIs s b c) (letters_to (Client c) (to (Client c) l ++ xs)) (m ∷ [])
its_client s b c l m xs n a = subst (λ ls. Pairs (AnswerIs s b c) ls (m ∷ [])) (sym (ap (λ (t : Bool). (elim t [ true ↦ l ∷ [] | false ↦ [] ]) ++ letters_to (Client c) xs) (eqb_same c) ∙ ap (λ r. l ∷ r) n)) (a, tt)
