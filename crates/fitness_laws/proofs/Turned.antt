-- What a turn of a part changes in a world: its own list, the queue of the letter that it took, and the queues that it
-- writes to.
use Rattle.std.proofs.Common.{◌≡◌, ℕ, Bool, true, false, ◌==◌, ◌&&◌, if◌then◌else◌, List, [], ◌∷◌, ◌++◌, refl, ap, ◌∙◌, sym, subst}
use Rattle.std.specs.Prelude.{Option, Some, None, cond, find}
use Rattle.std.proofs.lemmas.Bool.{eqb-true}
use Rattle.std.proofs.lemmas.List.{append-nil}
use Rattle.lload_names.specs.declared.inputs.Effects.{Effects}
use Rattle.lload_names.specs.declared.inputs.Input.{Input}
use Rattle.lload_names.specs.declared.inputs.Input.TheVariants.{LetterFrom}
use Rattle.lload_names.specs.declared.names.Letter.{Letter}
use Rattle.lload_names.specs.declared.names.PartName.{PartName}
use Rattle.lload_names.specs.declared.names.PartName.TheVariants.{Desk, Client, Up as Connection}
use Rattle.lload_spec.specs.Journal.{same_part}
use Rattle.lload_spec.specs.Settings.{Settings}
use Rattle.part_spec.specs.Inputs.{letter_of, marked_by}
use Rattle.part_spec.specs.Marked.{Taken, letters_to}
use Rattle.part_spec.specs.World.{World, Flight, behind, is_between, list_in}
use Rattle.link_laws.specs.Moves.{waiting_between}
use Rattle.link_laws.proofs.Entries.{AreOf, list_behind, same_part_is}
use Rattle.link_laws.proofs.Kept.{letter_out}
use Rattle.link_laws.proofs.Links.{first_out, waiting_more}
use Rattle.move_laws.specs.World as machine
use Rattle.move_laws.specs.World.{tail}
use Rattle.stands_laws.specs.Books.{Book}
use Rattle.stands_laws.specs.Follows.{behind_client, behind_connection, behind_desk}
use Rattle.stands_laws.specs.Lists.{Pairs}
use Rattle.stands_laws.specs.Letters.{AnswerIs, AskIs, ChoiceIs, OrderIs, ReportIs}
use Rattle.stands_laws.specs.ClientStands.{ClientIs, serves}
use Rattle.stands_laws.specs.DeskStands.{DeskStands}
use Rattle.stands_laws.specs.WorldStands.{NoStrangers, WorldStands, stands_by}
use Rattle.part_spec.specs.Fit.{client_ledger, connection_ledger, desk_ledger}

-- the letters of a sender behind an input of their receiver
abbrev pub without : Input → PartName → List Letter → List Letter
without i Desk q = behind_desk i q
without i (Client c) q = behind_client c i q
without i (Connection u) q = behind_connection u i q

pub record Turned (w w1 : World) (p : PartName) (i : Input) (mark : Option Taken) (e : Effects) : Type 0 where
  pub lists : (q : PartName) → list_in w1 q ≡ list_in w q ++ cond (same_part q p) (marked_by mark e.entries) []
  pub queues : (x y : PartName) → waiting_between w1 x y ≡ cond (same_part y p) (without i x (waiting_between w x y)) (waiting_between w x y) ++ cond (same_part x p) (letters_to y e.letters) []

pub cond_same : {A : Type 0} (t : Bool) (x y : A) → x ≡ y → cond t x y ≡ y
cond_same true x y e = e
cond_same false x y e = refl

-- A turn without a letter.
pub without_plain : (i : Input) → letter_of i ≡ None → (x : PartName) (q : List Letter) → without i x q ≡ q
without_plain (LetterFrom now word sender l) e x q = absurd (cc)
without_plain _ e Desk q = refl
without_plain _ e (Client c) q = refl
without_plain _ e (Connection u) q = refl

pub plain_turned : (s : Settings) (w : World) (p : PartName) (i : Input) (e : Effects) → AreOf p e.entries → letter_of i ≡ None → Turned w (behind s p None e w) p i None e
plain_turned s w p i e own plain = record {
  lists = λ q. list_behind s p None e w q own;
  queues = λ x y. waiting_more s p None e w x y
      ∙ ap (λ l. l ++ cond (same_part x p) (letters_to y e.letters) []) (sym (cond_same (same_part y p) (without i x (waiting_between w x y)) (waiting_between w x y) (without_plain i plain x (waiting_between w x y))));
}

-- A turn with a letter.
without_letter : (now word : ℕ) (sender : PartName) (l : Letter) (x : PartName) (q : List Letter) → without (LetterFrom now word sender l) x q ≡ cond (same_part x sender) (tail q) q
without_letter now word Desk l Desk q = refl
without_letter now word (Client a) l Desk q = refl
without_letter now word (Connection u) l Desk q = refl
without_letter now word Desk l (Client c) q = refl
without_letter now word (Client a) l (Client c) q = refl
without_letter now word (Connection u) l (Client c) q = refl
without_letter now word Desk l (Connection n) q = refl
without_letter now word (Client a) l (Connection n) q = refl
without_letter now word (Connection u) l (Connection n) q = refl

popped : (t r : Bool) (l : Letter) (q rest : List Letter) → q ≡ cond (t && r) (l ∷ []) [] ++ rest → rest ≡ cond r (cond t (tail q) q) q
popped true true l q rest e = sym (ap tail e)
popped true false l q rest e = sym e
popped false true l q rest e = sym e
popped false false l q rest e = sym e

pub letter_turned : (s : Settings) (w : World) (p : PartName) (now word : ℕ) (sender : PartName) (f : Flight) (e : Effects) → AreOf p e.entries → find (is_between sender p) w.letters ≡ Some f → Turned w (behind s p (Some (record { sender = sender; letter = f.posted.letter })) e (letter_out sender p w)) p (LetterFrom now word sender f.posted.letter) (Some (record { sender = sender; letter = f.posted.letter })) e
letter_turned s w p now word sender f e own found = record {
  lists = λ q. list_behind s p (Some (record { sender = sender; letter = f.posted.letter })) e (letter_out sender p w) q own;
  queues = λ x y. waiting_more s p (Some (record { sender = sender; letter = f.posted.letter })) e (letter_out sender p w) x y
      ∙ ap (λ l. l ++ cond (same_part x p) (letters_to y e.letters) []) (popped (same_part x sender) (same_part y p) f.posted.letter (waiting_between w x y) (waiting_between (letter_out sender p w) x y) (first_out sender p f x y w.letters found)
      ∙ ap (λ l. cond (same_part y p) l (waiting_between w x y)) (sym (without_letter now word sender f.posted.letter x (waiting_between w x y))));
}

-- Two queues, letter by letter, behind an input.
pairs_tail : {A B : Type 0} (R : A → B → Type 0) (q : List A) (z : List B) → Pairs R q z → Pairs R (tail q) (tail z)
pairs_tail R [] [] h = tt
pairs_tail R [] (y ∷ ys) h = absurd h
pairs_tail R (x ∷ xs) [] h = absurd h
pairs_tail R (x ∷ xs) (y ∷ ys) h = h.1

pairs_where : {A B : Type 0} (R : A → B → Type 0) (t : Bool) (q : List A) (z : List B) → Pairs R q z → Pairs R (if t then tail q else q) (if t then tail z else z)
pairs_where R true q z h = pairs_tail R q z h
pairs_where R false q z h = h

pub pairs_desk : {A B : Type 0} (R : A → B → Type 0) (i : Input) (q : List A) (z : List B) → Pairs R q z → Pairs R (behind_desk i q) (behind_desk i z)
pairs_desk R (LetterFrom now word Desk l) q z h = pairs_tail R q z h
pairs_desk R _ q z h = h

pub pairs_client : {A B : Type 0} (R : A → B → Type 0) (c : ℕ) (i : Input) (q : List A) (z : List B) → Pairs R q z → Pairs R (behind_client c i q) (behind_client c i z)
pairs_client R c (LetterFrom now word (Client a) l) q z h = pairs_where R (c == a) q z h
pairs_client R c _ q z h = h

pub pairs_connection : {A B : Type 0} (R : A → B → Type 0) (u : ℕ) (i : Input) (q : List A) (z : List B) → Pairs R q z → Pairs R (behind_connection u i q) (behind_connection u i z)
pairs_connection R u (LetterFrom now word (Connection v) l) q z h = pairs_where R (u == v) q z h
pairs_connection R u _ q z h = h

pub pairs_nil : {A B : Type 0} (R : A → B → Type 0) (q : List A) (z : List B) → Pairs R q z → Pairs R (q ++ []) z
pairs_nil R q z h = subst (λ r. Pairs R r z) (sym (append-nil q)) h

-- what holds of one number, and of each other
pub by_number : (a c : ℕ) (P : ℕ → Bool → Type 0) → P a true → ((c == a) ≡ false → P c false) → P c (c == a)
by_number a c P here there = go (c == a) refl
  where
    go : (t : Bool) → (c == a) ≡ t → P c t
    go true e = subst (λ n. P n true) (sym (eqb-true c a e)) here
    go false e = there e

-- Parts that write no letters to each other.
abbrev pub AreStrangers : PartName → PartName → Type 0
AreStrangers Desk Desk = Unit {0}
AreStrangers Desk (Connection u) = Unit {0}
AreStrangers (Client a) (Client c) = Unit {0}
AreStrangers (Connection u) (Connection v) = Unit {0}
AreStrangers _ _ = ⊥

without_none : (i : Input) (x : PartName) → without i x [] ≡ []
without_none i Desk = go i
  where
    go : (i : Input) → ◌≡◌ {A = List Letter} (behind_desk i []) []
    go (LetterFrom now word Desk l) = refl
    go _ = refl
without_none i (Client c) = go i
  where
    none : (t : Bool) → ◌≡◌ {A = List Letter} (if t then [] else []) []
    none true = refl
    none false = refl

    go : (i : Input) → ◌≡◌ {A = List Letter} (behind_client c i []) []
    go (LetterFrom now word (Client a) l) = none (c == a)
    go _ = refl
without_none i (Connection u) = go i
  where
    none : (t : Bool) → ◌≡◌ {A = List Letter} (if t then [] else []) []
    none true = refl
    none false = refl

    go : (i : Input) → ◌≡◌ {A = List Letter} (behind_connection u i []) []
    go (LetterFrom now word (Connection v) l) = none (u == v)
    go _ = refl

module _ (w w1 : World) (p : PartName) (i : Input) (mark : Option Taken) (e : Effects) (t : Turned w w1 p i mark e) (none : (y : PartName) → AreStrangers p y → letters_to y e.letters ≡ []) where
  stays_empty : (x y : PartName) → AreStrangers x y → waiting_between w x y ≡ [] → waiting_between w1 x y ≡ []
  stays_empty x y st k = t.queues x y ∙ ap (λ q. cond (same_part y p) (without i x q) q ++ cond (same_part x p) (letters_to y e.letters) []) k ∙ ap (λ q. q ++ cond (same_part x p) (letters_to y e.letters) []) (cond_same (same_part y p) (without i x []) [] (without_none i x)) ∙ written (same_part x p) refl
    where
      written : (r : Bool) → same_part x p ≡ r → cond r (letters_to y e.letters) [] ≡ []
      written true z = none y (subst (λ n. AreStrangers n y) (same_part_is x p z) st)
      written false z = refl

  pub strangers_stay : NoStrangers w → NoStrangers w1
  strangers_stay h = record {
    clients = λ a c. stays_empty (Client a) (Client c) tt (h.clients a c);
    connections = λ u v. stays_empty (Connection u) (Connection v) tt (h.connections u v);
    desk = stays_empty Desk Desk tt h.desk;
    orders = λ u. stays_empty Desk (Connection u) tt (h.orders u);
  }

-- A world with the same lists and the same queues.
pub same_world : (s : Settings) (b : Book) (w w1 : World) (v : machine.World) → ((q : PartName) → list_in w1 q ≡ list_in w q) → ((x y : PartName) → waiting_between w1 x y ≡ waiting_between w x y) → WorldStands s b w v → WorldStands s b w1 v
same_world s b w w1 v lists queues h = record {
  clients = λ c. subst (λ l. ClientIs s b c (client_ledger s c l) (v.clients c)) (sym (lists (Client c))) (h.clients c);
  conns = λ u. subst (λ l. stands_by (serves s u) s b u (connection_ledger s u l) (v.conns u)) (sym (lists (Connection u))) (h.conns u);
  desk = subst (λ l. DeskStands b (desk_ledger s l) v.desk) (sym (lists Desk)) h.desk;
  asks = λ c. subst (λ q. Pairs (AskIs b c) q (v.to_desk c)) (sym (queues (Client c) Desk)) (h.asks c);
  choices = λ c. subst (λ q. Pairs (ChoiceIs s b c) q (v.choices c)) (sym (queues Desk (Client c))) (h.choices c);
  orders = λ c u. subst (λ q. Pairs (OrderIs s b c) q (v.to_conn c u)) (sym (queues (Client c) (Connection u))) (h.orders c u);
  answers = λ c u. subst (λ q. Pairs (AnswerIs s b c) q (v.to_client c u)) (sym (queues (Connection u) (Client c))) (h.answers c u);
  reports = λ u. subst (λ q. Pairs (ReportIs u) q (v.reports u)) (sym (queues (Connection u) Desk)) (h.reports u);
  strangers = record {
    clients = λ a c. queues (Client a) (Client c) ∙ h.strangers.clients a c;
    connections = λ u n. queues (Connection u) (Connection n) ∙ h.strangers.connections u n;
    desk = queues Desk Desk ∙ h.strangers.desk;
    orders = λ u. queues Desk (Connection u) ∙ h.strangers.orders u;
  };
}
