-- Rows and Sents: each row is that of a live Sent, and each open Sent has one. What they become with an entry more.
use Rattle.std.proofs.Common.{◌≡◌, ◌⊎◌, inl, inr, Bool, true, false, ◌&&◌, ◌||◌, not, List, [], ◌∷◌, ◌++◌, ◌∙◌, sym, subst, ap, refl}
use Rattle.std.specs.Prelude.{Option, Some, None, map, flat_map, is_none}
use Rattle.std.specs.List.{list_any}
use Rattle.lload_names.specs.declared.names.Entry.{Entry}
use Rattle.lload_spec.specs.Answers.{Sending, closing_at, is_abandoned_at, is_open, of_operation}
use Rattle.lload_spec.specs.Entries.{is_down, is_expired}
use Rattle.lload_spec.specs.Journal.{Family}
use Rattle.lload_spec.specs.Lists.{passes}
use Rattle.lload_spec.specs.Operations.{Operation, operation}
use Rattle.lload_spec.specs.Settings.{Settings}
use Rattle.lload_laws.specs.ConnectionGrowth.{later_sending}
use Rattle.part_laws.proofs.ListLaws.{any_behind, false_by, or_left, or_right}
use Rattle.part_spec.specs.ConnectionState.{UpRow, put_row}
use Rattle.client_answer_laws.proofs.Each.{Each, each_append, each_both, each_imply, each_map}
use Rattle.rows_laws.proofs.Live.{Live, opened_before}
use Rattle.rows_laws.proofs.Somewhere.{OneIn, each_flat, each_put, one_before, one_behind, one_flat, one_imply, one_new, one_put}

abbrev pub is_open_in : Settings → Family → Sending → Bool
is_open_in s F x = of_operation F (is_open s) x

pub record Lives (s : Settings) (F : Family) (rows : List UpRow) (sents : List Sending) : Type 0 where
  pub of_rows : Each (λ r. OneIn (λ x. Live s F r x) sents) rows
  pub of_sents : Each (λ x. is_open_in s F x ≡ true → OneIn (λ r. Live s F r x) rows) sents

-- What became of a row and its Sent: there is none any more, and the Sent isn't open; or it stays with its Sent.
pub record Stays (s : Settings) (F : Family) (rows : List UpRow) (x : Sending) : Type 0 where
  pub row : UpRow
  pub is : rows ≡ row ∷ []
  pub live : Live s F row x

abbrev pub Moves : Settings → Family → List UpRow → Sending → Type 0
Moves s F rows x = ((rows ≡ []) × (is_open_in s F x ≡ false)) ⊎ Stays s F rows x

module _ (s : Settings) (F : Family) (e : Entry) where
  -- the rows of one row, among all Sents
  moved : (rows : List UpRow) (sents : List Sending) → OneIn (λ x. Moves s F rows (later_sending e x)) sents → Each (λ q. OneIn (λ x. Live s F q x) (map (later_sending e) sents)) rows
  moved rows [] h = absurd h
  moved rows (x ∷ sents) (inl (inl gone)) = subst (Each (λ q. OneIn (λ y. Live s F q y) (map (later_sending e) (x ∷ sents)))) (sym gone.0) tt
  moved rows (x ∷ sents) (inl (inr stay)) = subst (Each (λ q. OneIn (λ y. Live s F q y) (map (later_sending e) (x ∷ sents)))) (sym stay.is) (inl stay.live, tt)
  moved rows (x ∷ sents) (inr h) = each_imply (λ q. OneIn (λ y. Live s F q y) (map (later_sending e) sents)) (λ q. OneIn (λ y. Live s F q y) (map (later_sending e) (x ∷ sents))) rows (λ q k. inr k) (moved rows sents h)

  -- the row of a Sent that is open still
  kept : (rows : List UpRow) (x : Sending) → is_open_in s F (later_sending e x) ≡ true → Moves s F rows (later_sending e x) → OneIn (λ q. Live s F q (later_sending e x)) rows
  kept rows x o (inl gone) = absurd (let bad : false ≡ true = sym gone.1 ∙ o in cc)
  kept rows x o (inr stay) = subst (OneIn (λ q. Live s F q (later_sending e x))) (sym stay.is) (inl stay.live)

  -- where each row becomes some
  pub lives_move : (Ok : UpRow → Type 0) (f : UpRow → List UpRow) (rows : List UpRow) (sents : List Sending) → Each Ok rows → ((r : UpRow) → Ok r → (x : Sending) → Live s F r x → Moves s F (f r) (later_sending e x)) → Lives s F rows sents → Lives s F (flat_map f rows) (map (later_sending e) sents)
  lives_move Ok f rows sents ok go h =
      record {
        of_rows = each_flat (λ r. Ok r × OneIn (λ x. Live s F r x) sents) (λ q. OneIn (λ x. Live s F q x) (map (later_sending e) sents)) f rows (λ r k. moved (f r) sents (one_imply (λ x. Live s F r x) (λ x. Moves s F (f r) (later_sending e x)) sents (go r k.0) k.1)) (each_both Ok (λ r. OneIn (λ x. Live s F r x) sents) rows ok h.of_rows);
        of_sents = each_map (λ x. is_open_in s F x ≡ true → OneIn (λ r. Live s F r x) (flat_map f rows)) (later_sending e) sents (each_imply (λ x. is_open_in s F x ≡ true → OneIn (λ r. Live s F r x) rows) (λ x. is_open_in s F (later_sending e x) ≡ true → OneIn (λ r. Live s F r (later_sending e x)) (flat_map f rows)) sents (λ x k o. one_flat (λ r. Live s F r x) Ok (λ q. Live s F q (later_sending e x)) f rows ok (λ r a l. kept (f r) x o (go r a x l)) (k (opened_before s F e x o))) h.of_sents);
      }

  -- where each stays as it is
  pub lives_stay : (Ok : UpRow → Type 0) (rows : List UpRow) (sents : List Sending) → Each Ok rows → ((r : UpRow) → Ok r → (x : Sending) → Live s F r x → Live s F r (later_sending e x)) → Lives s F rows sents → Lives s F rows (map (later_sending e) sents)
  lives_stay Ok rows sents ok go h =
      record {
        of_rows = each_imply (λ r. Ok r × OneIn (λ x. Live s F r x) sents) (λ r. OneIn (λ x. Live s F r x) (map (later_sending e) sents)) rows (λ r k. there r sents k.0 k.1) (each_both Ok (λ r. OneIn (λ x. Live s F r x) sents) rows ok h.of_rows);
        of_sents = each_map (λ x. is_open_in s F x ≡ true → OneIn (λ r. Live s F r x) rows) (later_sending e) sents (each_imply (λ x. is_open_in s F x ≡ true → OneIn (λ r. Live s F r x) rows) (λ x. is_open_in s F (later_sending e x) ≡ true → OneIn (λ r. Live s F r (later_sending e x)) rows) sents (λ x k o. here x rows ok (k (opened_before s F e x o))) h.of_sents);
      }
    where
      there : (r : UpRow) (xs : List Sending) → Ok r → OneIn (λ x. Live s F r x) xs → OneIn (λ x. Live s F r x) (map (later_sending e) xs)
      there r [] a k = absurd k
      there r (x ∷ xs) a (inl l) = inl (go r a x l)
      there r (x ∷ xs) a (inr k) = inr (there r xs a k)

      here : (x : Sending) (rs : List UpRow) → Each Ok rs → OneIn (λ r. Live s F r x) rs → OneIn (λ r. Live s F r (later_sending e x)) rs
      here x [] a k = absurd k
      here x (r ∷ rs) a (inl l) = inl (go r a.0 x l)
      here x (r ∷ rs) a (inr k) = inr (here x rs a.1 k)

  -- behind the end of the connection nothing is open
  pub down_shut : is_down e ≡ true → (x : Sending) → is_open_in s F (later_sending e x) ≡ true → false ≡ true
  down_shut d x o = by (operation F x.op) o
    where
      shut : (a : Bool) (b c : Bool) → b ≡ true → (a && not b && c) ≡ true → false ≡ true
      shut a false c k j = k
      shut true true c k j = j
      shut false true c k j = j

      by : (q : Option Operation) → passes (λ o. is_open s o (later_sending e x)) q ≡ true → false ≡ true
      by None k = k
      by (Some q) k = shut (is_none (closing_at s q (later_sending e x))) (list_any (λ y. is_expired q.name y || is_down y) (x.behind ++ e ∷ [])) (not (is_abandoned_at q (later_sending e x))) (any_behind (λ y. is_expired q.name y || is_down y) x.behind (e ∷ []) (or_left (is_expired q.name e || is_down e) false (or_right (is_expired q.name e) (is_down e) d))) k

  pub lives_down : is_down e ≡ true → (rows : List UpRow) (sents : List Sending) → Lives s F rows sents → Lives s F [] (map (later_sending e) sents)
  lives_down d rows sents h = record { of_rows = tt; of_sents = each_map (λ x. is_open_in s F x ≡ true → ⊥) (later_sending e) sents (each_imply (λ x. is_open_in s F x ≡ true → OneIn (λ r. Live s F r x) rows) (λ x. is_open_in s F (later_sending e x) ≡ true → ⊥) sents (λ x k o. absurd (let bad : false ≡ true = down_shut d x o in cc)) h.of_sents) }

-- a row and a Sent more
pub lives_put : (s : Settings) (F : Family) (r : UpRow) (x : Sending) (rows : List UpRow) (sents : List Sending) → Live s F r x → Lives s F rows sents → Lives s F (put_row r rows) (sents ++ x ∷ [])
lives_put s F r x rows sents l h =
    record {
      of_rows = each_put (λ q. OneIn (λ y. Live s F q y) (sents ++ x ∷ [])) r rows (one_behind (λ y. Live s F r y) sents (x ∷ []) (inl l)) (each_imply (λ q. OneIn (λ y. Live s F q y) sents) (λ q. OneIn (λ y. Live s F q y) (sents ++ x ∷ [])) rows (λ q k. one_before (λ y. Live s F q y) sents (x ∷ []) k) h.of_rows);
      of_sents = each_append (λ y. is_open_in s F y ≡ true → OneIn (λ q. Live s F q y) (put_row r rows)) sents (x ∷ []) (each_imply (λ y. is_open_in s F y ≡ true → OneIn (λ q. Live s F q y) rows) (λ y. is_open_in s F y ≡ true → OneIn (λ q. Live s F q y) (put_row r rows)) sents (λ y k o. one_put (λ q. Live s F q y) r rows (k o)) h.of_sents) (λ o. one_new (λ q. Live s F q x) r rows l, tt);
    }

-- where none is open, no test finds one
pub none_open : (s : Settings) (F : Family) (sents : List Sending) → Each (λ x. is_open_in s F x ≡ true → ⊥) sents → list_any (of_operation F (is_open s)) sents ≡ false
none_open s F [] h = refl
none_open s F (x ∷ sents) h = ap (λ b. b || list_any (of_operation F (is_open s)) sents) (false_by (is_open_in s F x) (λ k. absurd (h.0 k))) ∙ none_open s F sents h.1
