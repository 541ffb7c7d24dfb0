-- Which identifiers a connection of either kind gave, by its state and by its list: those from 1 up to the next. Those of its
-- rows and the free ones are among them.
use Rattle.std.proofs.Common.{◌≡◌, ℕ, suc, Bool, true, false, ◌==◌, ◌&&◌, ◌||◌, not, List, [], ◌∷◌, ◌++◌, flat_map, refl, ap, arith, ◌∙◌, sym, subst, append_assoc}
use Rattle.std.specs.Prelude.{Option, Some, None, max, nat_lt, if◌then◌else◌}
use Rattle.std.specs.List.{list_any, list_all}
use Rattle.std.proofs.lemmas.Bool.{ltb-true}
use Rattle.std.proofs.lemmas.Bool.Decides.{nat_tests}
use Rattle.std.proofs.lemmas.List.{append-nil}
use Rattle.std.proofs.lemmas.List.Folds.{list_any-append, list_all-append}
use Rattle.std.proofs.Math.Bool.{or-false}
use Rattle.lload_names.specs.declared.names.Entry.{Entry}
use Rattle.lload_names.specs.declared.names.PartName.{PartName}
use Rattle.lload_names.specs.declared.names.Letter.{Letter}
use Rattle.lload_names.specs.declared.names.Letter.TheVariants.{Forward}
use Rattle.lload_names.specs.declared.names.What.{What}
use Rattle.lload_names.specs.declared.names.What.TheVariants as what
use Rattle.lload_spec.specs.Settings.{Settings}
use Rattle.lload_spec.specs.Journal.{same_op}
use Rattle.lload_spec.specs.Answers.{gives_id}
use Rattle.lload_spec.specs.Identifiers.{id_for, has_right_id, with_freed}
use Rattle.part_spec.specs.Marked.{Marked, Taken, entries}
use Rattle.part_spec.specs.ConnectionState.{ConnectionState, UpRow, is_under_own, step_connection, connection_behind, behind_message, behind_own, freed_id, rows_sent, empty_connection}
use Rattle.part_spec.specs.Fit.{ConnectionLedger, step_connection_ledger, ledger_behind as behind}
use Rattle.lload_spec.proofs.Growth.{left, right, both}
use Rattle.lload_laws.proofs.ListLaws.{all_imply}
use Rattle.part_laws.proofs.ListLaws.{any_before, any_behind, or_left, all_kept, same_number, eqb_same}
use Rattle.connection_laws.proofs.ConnectionSays.{got_next}
use Rattle.connection_laws.proofs.Permits.{Chain, UpStands, up_stands_more, push_entry}
use Rattle.connection_laws.proofs.Rows.{all_put, all_filter}
use Rattle.connection_laws.proofs.Apart.{Shrinks, shrinks_message, shrinks_own, all_flat_by, freed_all}

-- whether the list says that an identifier was given
abbrev pub is_given : List Entry → ℕ → Bool
is_given place i = list_any (gives_id i) place

pub record Given (place : List Entry) (p : ConnectionState) : Type 0 where
  pub ids : (i : ℕ) → is_given place i ≡ (nat_lt 0 i && nat_lt i p.ids.next)
  pub rows : list_all (λ r. is_given place r.id) p.rows ≡ true
  pub free : list_all (is_given place) p.ids.free ≡ true

-- the next identifier is given, and one that was given before
below_next : (i n : ℕ) → nat_lt i (max n (suc n)) ≡ (nat_lt i n || (n == i))
below_next i n = ap (nat_lt i) (next n) ∙ by (nat_lt i (suc n)) (nat_lt i n) (n == i) refl refl refl
  where
    next : (k : ℕ) → max k (suc k) ≡ suc k
    next k = omega arith

    by : (a b c : Bool) → nat_lt i (suc n) ≡ a → nat_lt i n ≡ b → (n == i) ≡ c → a ≡ (b || c)
    by true true c x y z = refl
    by true false true x y z = refl
    by true false false x y z = absurd (grind (arith, nat_tests, x, y, z))
    by false true c x y z = absurd (grind (arith, nat_tests, x, y, z))
    by false false true x y z = absurd (grind (arith, nat_tests, x, y, z))
    by false false false x y z = refl

gives_next : (i n : ℕ) → nat_lt 0 n ≡ true → ((nat_lt 0 i && nat_lt i n) || ((n == i) || false)) ≡ (nat_lt 0 i && nat_lt i (max n (suc n)))
gives_next i n h = by (nat_lt 0 i) (nat_lt i n) (n == i) refl refl ∙ ap (λ b. nat_lt 0 i && b) (sym (below_next i n))
  where
    by : (a b c : Bool) → nat_lt 0 i ≡ a → (n == i) ≡ c → ((a && b) || (c || false)) ≡ (a && (b || c))
    by true true c x z = refl
    by true false c x z = or-false c
    by false b true x z = absurd (let same : n ≡ i = same_number n i z in let no : false ≡ true = sym x ∙ ap (nat_lt 0) (sym same) ∙ h in cc)
    by false b false x z = refl

gives_again : (i k n : ℕ) → (nat_lt 0 k && nat_lt k n) ≡ true → ((nat_lt 0 i && nat_lt i n) || ((k == i) || false)) ≡ (nat_lt 0 i && nat_lt i (max n (suc k)))
gives_again i k n h = by (k == i) refl ∙ ap (λ m. nat_lt 0 i && nat_lt i m) (sym (no_more (right (nat_lt 0 k) _ h)))
  where
    no_more : nat_lt k n ≡ true → max n (suc k) ≡ n
    no_more j = let below = ltb-true k n j in omega (arith, below)

    by : (c : Bool) → (k == i) ≡ c → ((nat_lt 0 i && nat_lt i n) || (c || false)) ≡ (nat_lt 0 i && nat_lt i n)
    by true z = ap (λ b. b || true) (ap (λ j. nat_lt 0 j && nat_lt j n) (sym (same_number k i z)) ∙ h) ∙ sym (ap (λ j. nat_lt 0 j && nat_lt j n) (sym (same_number k i z)) ∙ h)
    by false z = or-false (nat_lt 0 i && nat_lt i n)

-- Behind an entry.
module _ (s : Settings) (place : List Entry) (part : PartName) (at : ℕ) (p : ConnectionState) (above : nat_lt 0 p.ids.next ≡ true) (h : Given place p) where
  abbrev entry : What → Entry
  entry w = record { part = part; at = at; what = w }

  push : (w : What) (i : ℕ) → is_given (place ++ entry w ∷ []) i ≡ ((nat_lt 0 i && nat_lt i p.ids.next) || (gives_id i (entry w) || false))
  push w i = list_any-append (gives_id i) place (entry w ∷ []) ∙ ap (λ b. b || (gives_id i (entry w) || false)) (h.ids i)

  sent_ids : (id : ℕ) → (id == id_for p.ids) ≡ true → (i : ℕ) → ((nat_lt 0 i && nat_lt i p.ids.next) || ((id == i) || false)) ≡ (nat_lt 0 i && nat_lt i (max p.ids.next (suc id)))
  sent_ids id r i = subst (λ n. ((nat_lt 0 i && nat_lt i p.ids.next) || ((n == i) || false)) ≡ (nat_lt 0 i && nat_lt i (max p.ids.next (suc n)))) (sym (same_number id (id_for p.ids) r)) (by p.ids.free h.free)
    where
      first : List ℕ → ℕ
      first ns = elim ns [ [] ↦ p.ids.next | n ∷ xs ↦ n ]

      by : (ns : List ℕ) → list_all (is_given place) ns ≡ true → ((nat_lt 0 i && nat_lt i p.ids.next) || ((first ns == i) || false)) ≡ (nat_lt 0 i && nat_lt i (max p.ids.next (suc (first ns))))
      by [] k = gives_next i p.ids.next above
      by (n ∷ ns) k = gives_again i n p.ids.next (sym (h.ids n) ∙ left (is_given place n) _ k)

  own_ids : (id : ℕ) → (id == p.ids.next) ≡ true → (i : ℕ) → ((nat_lt 0 i && nat_lt i p.ids.next) || ((id == i) || false)) ≡ (nat_lt 0 i && nat_lt i (max p.ids.next (suc id)))
  own_ids id r i = subst (λ n. ((nat_lt 0 i && nat_lt i p.ids.next) || ((n == i) || false)) ≡ (nat_lt 0 i && nat_lt i (max p.ids.next (suc n)))) (sym (same_number id p.ids.next r)) (gives_next i p.ids.next above)

  ids_step : (mark : Option Taken) (w : What) → has_right_id p.ids w ≡ true → (i : ℕ) → is_given (place ++ entry w ∷ []) i ≡ (nat_lt 0 i && nat_lt i (connection_behind s (entry w) mark p w).ids.next)
  ids_step mark (what.Sent id op rest) r i = push (what.Sent id op rest) i ∙ sent_ids id r i
  ids_step mark (what.Own id rest) r i = push (what.Own id rest) i ∙ own_ids id r i
  ids_step mark (what.Got id rest) r i = push (what.Got id rest) i ∙ or-false (nat_lt 0 i && nat_lt i p.ids.next) ∙ ap (λ n. nat_lt 0 i && nat_lt i n) (sym (got_next p (is_under_own p id) (flat_map (freed_id at (record { id = id; rest = rest })) p.rows)))
  ids_step mark what.Linked r i = push what.Linked i ∙ or-false (nat_lt 0 i && nat_lt i p.ids.next)
  ids_step mark w r i = push w i ∙ or-false (nat_lt 0 i && nat_lt i p.ids.next)

  -- what was given stays so
  stays : (w : What) (i : ℕ) → is_given place i ≡ true → is_given (place ++ entry w ∷ []) i ≡ true
  stays w i k = any_before (gives_id i) place (entry w ∷ []) k

  row_stays : (w : What) (r : UpRow) (rs : List UpRow) → Shrinks r rs → is_given place r.id ≡ true → list_all (λ q. is_given (place ++ entry w ∷ []) q.id) rs ≡ true
  row_stays w r [] k j = refl
  row_stays w r (q ∷ []) k j = both (is_given (place ++ entry w ∷ []) q.id) true (ap (is_given (place ++ entry w ∷ [])) (sym k.0) ∙ stays w r.id j) refl
  row_stays w r (q ∷ x ∷ xs) k j = absurd k

  rows_stay : (w : What) → list_all (λ r. is_given (place ++ entry w ∷ []) r.id) p.rows ≡ true
  rows_stay w = all_imply (λ r. is_given place r.id) (λ r. is_given (place ++ entry w ∷ []) r.id) p.rows (λ r k. stays w r.id k) h.rows

  rows_step : (mark : Option Taken) (w : What) → list_all (λ r. is_given (place ++ entry w ∷ []) r.id) (connection_behind s (entry w) mark p w).rows ≡ true
  rows_step None (what.Sent id op rest) = rows_stay (what.Sent id op rest)
  rows_step (Some t) (what.Sent id op rest) = by t.letter
    where
      by : (x : Letter) → list_all (λ r. is_given (place ++ entry (what.Sent id op rest) ∷ []) r.id) (rows_sent at id p.rows x) ≡ true
      by (Forward o sort body ask holder) = all_put (λ r. is_given (place ++ entry (what.Sent id op rest) ∷ []) r.id) (record { id = id; op = o; kind = sort; ask_who = ask; sent = at; answered = at; kept = None }) p.rows (any_behind (gives_id id) place (entry (what.Sent id op rest) ∷ []) (or_left (id == id) false (eqb_same id))) (rows_stay (what.Sent id op rest))
      by _ = rows_stay (what.Sent id op rest)
  rows_step mark (what.Own id rest) = all_flat_by (λ r. is_given place r.id) (λ r. is_given (place ++ entry (what.Own id rest) ∷ []) r.id) (behind_own (record { id = id; rest = rest })) p.rows (λ r k. row_stays (what.Own id rest) r (behind_own (record { id = id; rest = rest }) r) (shrinks_own (record { id = id; rest = rest }) r) k) h.rows
  rows_step mark (what.Got id rest) = by (is_under_own p id)
    where
      by : (b : Bool) → list_all (λ r. is_given (place ++ entry (what.Got id rest) ∷ []) r.id) (if b then p.rows else flat_map (behind_message at (record { id = id; rest = rest })) p.rows) ≡ true
      by true = rows_stay (what.Got id rest)
      by false = all_flat_by (λ r. is_given place r.id) (λ r. is_given (place ++ entry (what.Got id rest) ∷ []) r.id) (behind_message at (record { id = id; rest = rest })) p.rows (λ r k. row_stays (what.Got id rest) r (behind_message at (record { id = id; rest = rest }) r) (shrinks_message at (record { id = id; rest = rest }) r) k) h.rows
  rows_step mark (what.Expired op) = all_filter (λ r. is_given (place ++ entry (what.Expired op) ∷ []) r.id) (λ r. not (same_op op r.op)) p.rows (rows_stay (what.Expired op))
  rows_step mark (what.Down why) = refl
  rows_step mark what.Linked = rows_stay what.Linked
  rows_step mark w = rows_stay w

  free_stay : (w : What) → list_all (is_given (place ++ entry w ∷ [])) p.ids.free ≡ true
  free_stay w = all_imply (is_given place) (is_given (place ++ entry w ∷ [])) p.ids.free (λ n k. stays w n k) h.free

  free_step : (mark : Option Taken) (w : What) → list_all (is_given (place ++ entry w ∷ [])) (connection_behind s (entry w) mark p w).ids.free ≡ true
  free_step mark (what.Sent id op rest) = all_kept (is_given (place ++ entry (what.Sent id op rest) ∷ [])) (λ n. not (n == id)) p.ids.free (free_stay (what.Sent id op rest))
  free_step mark (what.Got id rest) = by (is_under_own p id)
    where
      by : (b : Bool) → list_all (is_given (place ++ entry (what.Got id rest) ∷ [])) (if b then p.ids else with_freed (flat_map (freed_id at (record { id = id; rest = rest })) p.rows) p.ids).free ≡ true
      by true = free_stay (what.Got id rest)
      by false = list_all-append (is_given (place ++ entry (what.Got id rest) ∷ [])) p.ids.free (flat_map (freed_id at (record { id = id; rest = rest })) p.rows) ∙ both (list_all (is_given (place ++ entry (what.Got id rest) ∷ [])) p.ids.free) _ (free_stay (what.Got id rest)) (freed_all (is_given (place ++ entry (what.Got id rest) ∷ [])) at (record { id = id; rest = rest }) p.rows (rows_stay (what.Got id rest)))
  free_step mark what.Linked = free_stay what.Linked
  free_step mark w = free_stay w

  pub given_step : (mark : Option Taken) (w : What) → has_right_id p.ids w ≡ true → Given (place ++ entry w ∷ []) (step_connection s p (record { entry = entry w; mark = mark }))
  given_step mark w r = record { ids = ids_step mark w r; rows = rows_step mark w; free = free_step mark w }

-- Behind a turn.
pub given_through : (s : Settings) (u : ℕ) (ms : List Marked) (before : List Marked) (l : ConnectionLedger) → UpStands s u before l → Chain s before l ms → Given (entries before) l.state → Given (entries (before ++ ms)) (behind (step_connection_ledger s) l ms).state
given_through s u [] before l g k h = subst (λ b. Given (entries b) l.state) (sym (append-nil before)) h
given_through s u (m ∷ ms) before l g k h = subst (λ b. Given (entries b) (behind (step_connection_ledger s) (step_connection_ledger s l m) ms).state) (append_assoc before (m ∷ []) ms) (given_through s u ms (before ++ m ∷ []) (step_connection_ledger s l m) (up_stands_more s u before l m ms g k.0) k.1 (subst (λ place. Given place (step_connection s l.state m)) (sym (push_entry before m)) (given_step s (entries before) m.entry.part m.entry.at l.state g.above h m.mark m.entry.what k.0.id_right)))

pub none_given : (s : Settings) (u : ℕ) → Given [] (empty_connection s u)
none_given s u = record { ids = λ i. none i; rows = refl; free = refl }
  where
    none : (i : ℕ) → false ≡ (nat_lt 0 i && nat_lt i 1)
    none i = by (nat_lt 0 i) (nat_lt i 1) refl refl
      where
        by : (a b : Bool) → nat_lt 0 i ≡ a → nat_lt i 1 ≡ b → false ≡ (a && b)
        by true true x y = absurd (grind (arith, nat_tests, x, y))
        by true false x y = refl
        by false b x y = refl
