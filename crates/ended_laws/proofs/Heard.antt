-- What the desk heard of an operation was given: by the connection that it ended at, or by its client, where the choice of
-- that connection was made before.
use Rattle.std.proofs.Common.{◌≡◌, ℕ, Bool, true, false, ◌==◌, ◌&&◌, not, List, [], ◌∷◌, ◌++◌, refl, ap, ◌∙◌, sym, subst, append_assoc}
use Rattle.std.specs.Prelude.{Option, Some, None}
use Rattle.std.specs.List.{list_all, list_any}
use Rattle.std.proofs.lemmas.List.{map-append}
use Rattle.lload_names.specs.Same.{same_letter}
use Rattle.lload_names.specs.declared.names.Answer.{Answer}
use Rattle.lload_names.specs.declared.names.Answer.TheVariants.{Go}
use Rattle.lload_names.specs.declared.names.Entry.{Entry}
use Rattle.lload_names.specs.declared.names.Letter.{Letter}
use Rattle.lload_names.specs.declared.names.Letter.TheVariants.{Ask, Choice, Drop, Ended, Failed, Forward, IsDown, IsRetired, IsUp, Leave, Pause, Reply, Resume, Returned}
use Rattle.lload_names.specs.declared.names.OpName.{OpName}
use Rattle.lload_names.specs.declared.names.PartName.{PartName}
use Rattle.lload_names.specs.declared.names.PartName.TheVariants.{Client, Desk, Up as Connection}
use Rattle.lload_names.specs.declared.names.What.{What}
use Rattle.lload_names.specs.declared.names.What.TheVariants as what
use Rattle.lload_spec.specs.Entries.{Named, heard, is_news}
use Rattle.lload_spec.specs.Journal.{Family, same_op, same_part}
use Rattle.lload_spec.specs.Lists.{each_split_from, where_there}
use Rattle.lload_spec.specs.Settings.{Settings}
use Rattle.lload_spec.specs.Strict.{is_go_of}
use Rattle.lload_spec.proofs.Growth.{left, right, both}
use Rattle.part_laws.proofs.ListLaws.{any_before, any_behind, any_filtered, any_split, eq_eqb, or_elim, or_left, same_number, same_op_eq}
use Rattle.part_spec.specs.DeskState.{DeskState, desk_behind, step_desk, with_choice, with_heard}
use Rattle.part_spec.specs.Fit.{DeskLedger, are_fit_from, empty_desk_ledger, fits_desk, is_pending, is_unfit, step_desk_ledger}
use Rattle.part_spec.specs.Gives.{gives}
use Rattle.part_spec.specs.Marked.{Marked, Taken, entries, letters_to}
use Rattle.part_spec.specs.Marks.{has_desk_mark, marks_desk, must_mark_desk}
use Rattle.joined_laws.specs.Joined.{Joined}
use Rattle.joined_laws.proofs.Taken.{is_fit_there, is_mark_from, was_given}

-- The sender of such a letter.

from_connection : (sender : PartName) (u v : ℕ) → (u == v) ≡ true → same_part sender (Connection v) ≡ true → same_part (Connection u) sender ≡ true
from_connection (Connection n) u v h k = eq_eqb u n (same_number u v h ∙ sym (same_number n v k))
from_connection _ u v h k = absurd (let bad : false ≡ true = k in cc)

from_client : (sender : PartName) (c d : ℕ) → c ≡ d → same_part sender (Client d) ≡ true → same_part (Client c) sender ≡ true
from_client (Client n) c d h k = eq_eqb c n (h ∙ sym (same_number n d k))
from_client _ c d h k = absurd (let bad : false ≡ true = k in cc)

-- whether a letter of an operation's end, or of its return, was taken from where it comes from
abbrev from_so : Letter → Option Taken → Bool
from_so (Ended op u told) mark = is_mark_from (Connection u) (same_letter (Ended op u told)) mark
from_so (Returned op u) mark = is_mark_from (Client op.client) (same_letter (Returned op u)) mark
from_so _ mark = true

-- and whether the desk chose the connection before; what it heard otherwise is the state of a connection
abbrev pub gone_to : List Entry → Letter → Bool
gone_to place (Ended op u told) = list_any (is_go_of op u) place
gone_to place (Returned op u) = list_any (is_go_of op u) place
gone_to place x = is_news x

-- whether it was given
abbrev pub given_so : Settings → (PartName → List Marked) → Letter → Bool
given_so s marked (Ended op u told) = list_any (same_letter (Ended op u told)) (letters_to Desk (gives s (Connection u) (marked (Connection u))))
given_so s marked (Returned op u) = list_any (same_letter (Returned op u)) (letters_to Desk (gives s (Client op.client) (marked (Client op.client))))
given_so s marked _ = true

-- what is pending was chosen
abbrev Pends : List Entry → DeskState → Type 0
Pends place p = (op : OpName) (u : ℕ) → is_pending p op u ≡ true → list_any (is_go_of op u) place ≡ true

-- what is the same as news is news
same_news : (x y : Letter) → (is_news y && same_letter x y) ≡ true → is_news x ≡ true
same_news (Returned op u) y h = refl
same_news (Ended op u told) y h = refl
same_news (IsUp u) y h = refl
same_news (IsRetired u) y h = refl
same_news (IsDown u) y h = refl
same_news (Ask op want) (Ask o w) h = h
same_news (Choice op a) (Choice o b) h = h
same_news (Forward op k rest ask holder) (Forward o j body asks keeper) h = h
same_news (Reply op rest last who) (Reply o body end is) h = h
same_news (Failed op which) (Failed o other) h = h
same_news (Drop op) (Drop o) h = h
same_news (Leave op) (Leave o) h = h
same_news (Pause c) (Pause d) h = h
same_news (Resume c) (Resume d) h = h
same_news x y h = absurd (let bad : false ≡ true = h in cc)

module _ (s : Settings) where
  news_from : (place : List Entry) (l : DeskLedger) (x : Letter) (t : Taken) → Pends place l.state → (is_news t.letter && same_letter x t.letter) ≡ true → fits_desk s l t.sender t.letter ≡ true → (from_so x (Some t) && gone_to place x) ≡ true
  news_from place l x t pends h k = by x t.sender t.letter h k
    where
      by : (x : Letter) (sender : PartName) (y : Letter) → (is_news y && same_letter x y) ≡ true → fits_desk s l sender y ≡ true → (from_so x (Some (record { sender = sender; letter = y })) && gone_to place x) ≡ true
      by (Ended op u told) sender (Ended o v q) h k =
          let name : op ≡ o = same_op_eq op o (left (same_op op o) (u == v) (left (same_op op o && u == v) _ h)) in
          let number : (u == v) ≡ true = right (same_op op o) (u == v) (left (same_op op o && u == v) _ h) in
          both (from_so (Ended op u told) (Some (record { sender = sender; letter = Ended o v q }))) _ (both (same_part (Connection u) sender) _ (from_connection sender u v number (left (same_part sender (Connection v)) _ k)) h)
          (pends op u (ap (λ n. is_pending l.state n u) name ∙ ap (is_pending l.state o) (same_number u v number) ∙ right (same_part sender (Connection v)) _ k))
      by (Returned op u) sender (Returned o v) h k =
          let name : op ≡ o = same_op_eq op o (left (same_op op o) (u == v) h) in
          let number : (u == v) ≡ true = right (same_op op o) (u == v) h in
          both (from_so (Returned op u) (Some (record { sender = sender; letter = Returned o v }))) _ (both (same_part (Client op.client) sender) _ (from_client sender op.client o.client (ap (λ n. n.client) name) (left (same_part sender (Client o.client)) _ k)) h)
          (pends op u (ap (λ n. is_pending l.state n u) name ∙ ap (is_pending l.state o) (same_number u v number) ∙ right (same_part sender (Client o.client)) _ k))
      by (Ended op u told) sender _ h k = absurd (let bad : false ≡ true = h in cc)
      by (Returned op u) sender _ h k = absurd (let bad : false ≡ true = h in cc)
      by (IsUp u) sender y h k = refl
      by (IsRetired u) sender y h k = refl
      by (IsDown u) sender y h k = refl
      by (Ask op want) sender y h k = same_news (Ask op want) y h
      by (Choice op a) sender y h k = same_news (Choice op a) y h
      by (Forward op sort rest ask holder) sender y h k = same_news (Forward op sort rest ask holder) y h
      by (Reply op rest last who) sender y h k = same_news (Reply op rest last who) y h
      by (Failed op which) sender y h k = same_news (Failed op which) y h
      by (Drop op) sender y h k = same_news (Drop op) y h
      by (Leave op) sender y h k = same_news (Leave op) y h
      by (Pause c) sender y h k = same_news (Pause c) y h
      by (Resume c) sender y h k = same_news (Resume c) y h

  heard_from : (place : List Entry) (l : DeskLedger) (w : What) (mark : Option Taken) (rest : Bool) → Pends place l.state → (elim mark [ None ↦ not (must_mark_desk w) | Some t ↦ marks_desk w t.letter ]) ≡ true → (not (is_unfit (fits_desk s) l mark) && rest) ≡ true → where_there (λ x. from_so x mark && gone_to place x) (heard w) ≡ true
  heard_from place l (what.Heard x) None rest pends h k = absurd (let bad : false ≡ true = h in cc)
  heard_from place l (what.Heard x) (Some t) rest pends h k = news_from place l x t pends h (is_fit_there (fits_desk s) l t rest k)
  heard_from place l _ mark rest pends h k = refl

  -- what is pending behind an entry more
  pends_step : (place : List Entry) (e : Entry) (p : DeskState) → Pends place p → Pends (place ++ e ∷ []) (desk_behind s p e.what)
  pends_step place e p h op u = by e.what refl
    where
      old : is_pending p op u ≡ true → list_any (is_go_of op u) (place ++ e ∷ []) ≡ true
      old k = any_before (is_go_of op u) place (e ∷ []) (h op u k)

      chosen : (q : OpName) (a : Answer) (word : ℕ) → e.what ≡ what.Chose q a word → is_pending (with_choice s q a p) op u ≡ true → list_any (is_go_of op u) (place ++ e ∷ []) ≡ true
      chosen q (Go n b) word i k = any_split (λ (x : Named ℕ). same_op op x.op && x.value == u) p.pending (record { op = q; value = n } ∷ []) old (λ j. any_behind (is_go_of op u) place (e ∷ []) (or_left (is_go_of op u e) false (ap (λ w. is_go_of op u (record e { what = w })) i ∙ or_elim (same_op op q && n == u) false (λ v. v) (λ v. absurd (let bad : false ≡ true = v in cc)) j))) k
      chosen q _ word i k = old k

      told : (x : Letter) → is_pending (with_heard s x p) op u ≡ true → list_any (is_go_of op u) (place ++ e ∷ []) ≡ true
      told (Returned o v) k = old (any_filtered (λ (x : Named ℕ). same_op op x.op && x.value == u) (λ x. not (same_op o x.op)) p.pending k)
      told (Ended o v q) k = old (any_filtered (λ (x : Named ℕ). same_op op x.op && x.value == u) (λ x. not (same_op o x.op)) p.pending k)
      told _ k = old k

      by : (w : What) → e.what ≡ w → is_pending (desk_behind s p w) op u ≡ true → list_any (is_go_of op u) (place ++ e ∷ []) ≡ true
      by (what.Chose q a word) i k = chosen q a word i k
      by (what.Heard x) i k = told x k
      by (what.Replanned k base) i j = old j
      by _ i k = old k

module _ (s : Settings) (F : Family) (marked : PartName → List Marked) (h : Joined s F marked) (T : List Entry → Entry → Bool) (so : (place : List Entry) (e : Entry) → ((x : Letter) → heard e.what ≡ Some x → (given_so s marked x ≡ true) × (gone_to place x ≡ true)) → T place e ≡ true) where
  -- what a mark took was given
  given_by : (before ms : List Marked) (m : Marked) (x : Letter) → marked Desk ≡ before ++ m ∷ ms → from_so x m.mark ≡ true → given_so s marked x ≡ true
  given_by before ms m (Ended op u told) same k = was_given s F marked h.linked (Connection u) Desk (same_letter (Ended op u told)) (subst (λ l. list_any (λ n. is_mark_from (Connection u) (same_letter (Ended op u told)) n.mark) l ≡ true) (sym same) (any_behind (λ n. is_mark_from (Connection u) (same_letter (Ended op u told)) n.mark) before (m ∷ ms) (or_left (is_mark_from (Connection u) (same_letter (Ended op u told)) m.mark) _ k)))
  given_by before ms m (Returned op u) same k = was_given s F marked h.linked (Client op.client) Desk (same_letter (Returned op u)) (subst (λ l. list_any (λ n. is_mark_from (Client op.client) (same_letter (Returned op u)) n.mark) l ≡ true) (sym same) (any_behind (λ n. is_mark_from (Client op.client) (same_letter (Returned op u)) n.mark) before (m ∷ ms) (or_left (is_mark_from (Client op.client) (same_letter (Returned op u)) m.mark) _ k)))
  given_by before ms m _ same k = refl

  walk : (ms before : List Marked) (l : DeskLedger) → marked Desk ≡ before ++ ms → Pends (entries before) l.state → list_all has_desk_mark ms ≡ true → are_fit_from (fits_desk s) (step_desk_ledger s) l ms ≡ true → each_split_from (λ b e behind. T b e) (entries before) (entries ms) ≡ true
  walk [] before l same pends marks fit = refl
  walk (m ∷ ms) before l same pends marks fit =
      let push : entries (before ++ m ∷ []) ≡ entries before ++ m.entry ∷ [] = map-append (λ (n : Marked). n.entry) before (m ∷ []) in
      both (T (entries before) m.entry) _ (so (entries before) m.entry here)
      (subst (λ place. each_split_from (λ b e behind. T b e) place (entries ms) ≡ true) push (walk ms (before ++ m ∷ []) (step_desk_ledger s l m) (same ∙ sym (append_assoc before (m ∷ []) ms)) (subst (λ place. Pends place (step_desk s l.state m)) (sym push) (pends_step s (entries before) m.entry l.state pends)) (right (has_desk_mark m) _ marks) (right (not (is_unfit (fits_desk s) l m.mark)) _ fit)))
    where
      here : (x : Letter) → heard m.entry.what ≡ Some x → (given_so s marked x ≡ true) × (gone_to (entries before) x ≡ true)
      here x e =
          let it : (from_so x m.mark && gone_to (entries before) x) ≡ true = sym (ap (where_there (λ y. from_so y m.mark && gone_to (entries before) y)) e) ∙ heard_from s (entries before) l m.entry.what m.mark (are_fit_from (fits_desk s) (step_desk_ledger s) (step_desk_ledger s l m) ms) pends (left (has_desk_mark m) _ marks) fit in
          (given_by before ms m x same (left (from_so x m.mark) _ it), right (from_so x m.mark) _ it)

  -- what is so of each entry, where what it says was heard was given
  pub each_heard : each_split_from (λ b e behind. T b e) [] F.desk ≡ true
  each_heard = subst (λ es. each_split_from (λ b e behind. T b e) [] es ≡ true) (h.linked.same_entries Desk) (walk (marked Desk) [] empty_desk_ledger refl (λ op u k. absurd (let bad : false ≡ true = k in cc)) (h.linked.marks Desk) (h.fit Desk))
