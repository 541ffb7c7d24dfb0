-- What binds a client, behind the choice of a connection that it asked for.
use Rattle.std.proofs.Common.{◌≡◌, ℕ, suc, ◌+◌, Bool, true, false, ◌==◌, ◌&&◌, ◌||◌, not, List, [], ◌∷◌, ◌++◌, length, refl, ap, ◌∙◌, sym, subst, arith}
use Rattle.std.specs.Prelude.{Option, Some, None, cond, filter, find, is_some, map, nat_lt, unwrap_or, if◌then◌else◌}
use Rattle.std.specs.List.{list_all}
use Rattle.std.proofs.lemmas.List.{append-nil}
use Rattle.ldap_spec.specs.Kinds.{same_kind}
use Rattle.lload_names.specs.declared.names.Answer.TheVariants.{Go}
use Rattle.lload_names.specs.declared.names.Entry.{Entry}
use Rattle.lload_names.specs.declared.names.OpKind.TheVariants.{Bind}
use Rattle.lload_names.specs.declared.names.OpName.{OpName}
use Rattle.lload_names.specs.declared.names.PartName.{PartName}
use Rattle.lload_names.specs.declared.names.What.TheVariants as what
use Rattle.lload_spec.specs.Binding.{Choice, action, choices, choice_of, is_action, is_behind, standing_by}
use Rattle.lload_spec.specs.ClientCalls.{new_choices}
use Rattle.lload_spec.specs.Lists.{passes}
use Rattle.lload_spec.specs.Operations.{Operation, is_live, last_bind, operation_in}
use Rattle.lload_spec.specs.Settings.{Settings, Ignore, Write, backend_of}
use Rattle.lload_spec.proofs.Growth.{left, right}
use Rattle.lload_laws.proofs.ClientChoices.{choices_grow}
use Rattle.lload_laws.proofs.ClientSums.{later_choice}
use Rattle.lload_laws.proofs.ListLaws.{all_imply, found, found_passes}
use Rattle.part_laws.proofs.ListLaws.{eqb_same, eqb_sym, not_true, same_number}
use Rattle.part_spec.specs.ClientState.{ClientRow, ClientState, chosen_window, forwarded, is_bind_row, is_written, row_named, with_connection}
use Rattle.client_laws.proofs.ClientLives.{entry_of, forwarded_all}
use Rattle.client_laws.proofs.Matches.{ClientLives, Match, are_apart, is_apart}
use Rattle.forward_laws.proofs.Ops.{bind_number, number_later, number_of}
use Rattle.window_laws.proofs.Binds.{bind_ignored}
use Rattle.window_laws.proofs.Counts.{bump}
use Rattle.window_laws.proofs.Entries.{Bound, is_behind_bind, written_rows}
use Rattle.window_laws.proofs.Windows.{live_writes, window_of, window_push, window_stays, writes_push, writes_stay}

-- The rows, of which the one that is found is forwarded.
module _ (n u : ℕ) (op : OpName) (test : ℕ → Bool) where
  abbrev is_it : ClientRow → Bool
  is_it r = n == op.client && r.k == op.k

  abbrev goes : ℕ → ClientRow → ClientRow
  goes k r = forwarded k u r

  -- no other row is
  others_stay : (k : ℕ) (rows : List ClientRow) → list_all (λ r. not (k == r.k)) rows ≡ true → written_rows test (map (forwarded k u) rows) ≡ written_rows test rows
  others_stay k [] h = refl
  others_stay k (r ∷ rows) h =
      ap (λ (x : ClientRow). written_rows test (x ∷ map (forwarded k u) rows)) (ap (λ b. if b then record r { connection = Some (unwrap_or r.connection u) } else r) (eqb_sym r.k k ∙ not_true (k == r.k) (left (not (k == r.k)) _ h)))
      ∙ one (is_written r && test r.k) (others_stay k rows (right (not (k == r.k)) _ h))
    where
      rest : Bool → List ClientRow → List ClientRow
      rest b l = cond b (r ∷ filter (λ x. is_written x && test x.k) l) (filter (λ x. is_written x && test x.k) l)

      one : (b : Bool) → written_rows test (map (forwarded k u) rows) ≡ written_rows test rows → length (rest b (map (forwarded k u) rows)) ≡ length (rest b rows)
      one true e = ap suc e
      one false e = e

  -- the one that is found is one more, where it writes
  pub one_written : (rows : List ClientRow) (r : ClientRow) → are_apart rows ≡ true → find is_it rows ≡ Some r → r.k ≡ op.k → (is_action Write r.action ≡ true → r.connection ≡ None) → written_rows test (map (forwarded r.k u) rows) ≡ written_rows test rows + bump (is_action Write r.action && test r.k)
  one_written [] r h e k c = absurd (let bad : None ≡ Some r = e in cc)
  one_written (x ∷ rows) r h e k c = by (is_it x) refl e (λ j. one_written rows r (right (list_all (is_apart x) rows) _ h) j k c)
    where
      apart : list_all (λ y. not (x.k == y.k)) rows ≡ true
      apart = all_imply (is_apart x) (λ y. not (x.k == y.k)) rows (λ y j. left (not (x.k == y.k)) _ j) (left (list_all (is_apart x) rows) _ h)

      more : (d b : Bool) (l m : List ClientRow) (i : ℕ) → length l ≡ length m + i → length (cond b (x ∷ l) l) ≡ length (cond b (x ∷ m) m) + i
      more d true l m i j = omega (arith, j)
      more d false l m i j = j

      by : (b : Bool) → is_it x ≡ b → cond b (Some x) (find is_it rows) ≡ Some r → (find is_it rows ≡ Some r → written_rows test (map (forwarded r.k u) rows) ≡ written_rows test rows + bump (is_action Write r.action && test r.k)) → written_rows test (map (forwarded r.k u) (x ∷ rows)) ≡ written_rows test (x ∷ rows) + bump (is_action Write r.action && test r.k)
      by true i j ih = let same : x ≡ r = cc in subst (λ (y : ClientRow). (is_action Write y.action ≡ true → y.connection ≡ None) → written_rows test (map (forwarded y.k u) (x ∷ rows)) ≡ written_rows test (x ∷ rows) + bump (is_action Write y.action && test y.k)) same here c
        where
          here : (is_action Write x.action ≡ true → x.connection ≡ None) → written_rows test (map (forwarded x.k u) (x ∷ rows)) ≡ written_rows test (x ∷ rows) + bump (is_action Write x.action && test x.k)
          here free =
              ap (λ (y : ClientRow). written_rows test (y ∷ map (forwarded x.k u) rows)) (ap (λ b. if b then record x { connection = Some (unwrap_or x.connection u) } else x) (eqb_same x.k))
              ∙ first (is_action Write x.action) x.connection (test x.k) free (others_stay x.k rows apart)
            where
              count : Bool → List ClientRow → ℕ
              count b l = length (cond b (x ∷ filter (λ y. is_written y && test y.k) l) (filter (λ y. is_written y && test y.k) l))

              first : (a : Bool) (o : Option ℕ) (t : Bool) → (a ≡ true → o ≡ None) → written_rows test (map (forwarded x.k u) rows) ≡ written_rows test rows → length (cond ((a && true) && t) (record x { connection = Some (unwrap_or x.connection u) } ∷ filter (λ y. is_written y && test y.k) (map (forwarded x.k u) rows)) (filter (λ y. is_written y && test y.k) (map (forwarded x.k u) rows))) ≡ count ((a && is_some o) && t) rows + bump (a && t)
              first true None true f j = omega (arith, j)
              first true None false f j = omega (arith, j)
              first true (Some v) t f j = absurd (let bad : Some v ≡ None = f refl in cc)
              first false o t f j = omega (arith, j)
      by false i j ih = ap (λ (y : ClientRow). written_rows test (y ∷ map (forwarded r.k u) rows)) (ap (λ b. if b then record x { connection = Some (unwrap_or x.connection u) } else x) other) ∙ more true (is_written x && test x.k) (filter (λ y. is_written y && test y.k) (map (forwarded r.k u) rows)) (filter (λ y. is_written y && test y.k) rows) (bump (is_action Write r.action && test r.k)) (ih j)
        where
          client : (n == op.client) ≡ true
          client = left (n == op.client) _ (found_passes is_it rows r j)

          other : (x.k == r.k) ≡ false
          other = ap (λ m. x.k == m) k ∙ second (n == op.client) (x.k == op.k) client i
            where
              second : (a b : Bool) → a ≡ true → (a && b) ≡ false → b ≡ false
              second true b p q = q
              second false b p q = absurd (let bad : false ≡ true = p in cc)

-- The choice of a connection for an operation that is live, has the row and was chosen none before.
module _ (s : Settings) (c : ℕ) (place : List Entry) (p : ClientState) (lives : ClientLives c place p) (h : Bound s c place p) (part : PartName) (at : ℕ) (op : OpName) (u b : ℕ) (r : ClientRow) (o : Operation) (named : row_named p op ≡ Some r) (stands : operation_in c place op ≡ Some o) (live : is_live o ≡ true) (match : Match r o) (acts : r.action ≡ action s o.request.rest) (backend : backend_of s u ≡ b) (free : is_bind_row r ≡ false → r.connection ≡ None) where
  abbrev e : Entry
  e = entry_of part at (what.Chosen op (Go u b))

  abbrev next : ClientState
  next = with_connection u b p r

  abbrev choice : Choice
  choice = record { operation = o; connection = u }

  number_is : r.k ≡ op.k
  number_is = same_number r.k op.k (right (p.number == op.client) _ (found_passes (λ x. p.number == op.client && x.k == op.k) p.rows r named))

  ignored : is_bind_row r ≡ true → r.action ≡ Ignore
  ignored k = acts ∙ bind_ignored s o.request.rest (ap (passes (same_kind Bind)) (sym match.kind) ∙ k)

  unforwarded : is_action Write r.action ≡ true → r.connection ≡ None
  unforwarded k = by (is_bind_row r) refl
    where
      by : (d : Bool) → is_bind_row r ≡ d → r.connection ≡ None
      by true j = absurd (let bad : false ≡ true = sym (ap (is_action Write) (ignored j)) ∙ k in cc)
      by false j = free j

  -- what is chosen
  new : (d : Bool) → is_behind (last_bind c place) o ≡ d → new_choices c place e ≡ cond d (choice ∷ []) []
  new d j = ap (λ x. filter (λ y. is_behind (last_bind c place) y.operation) (cond (passes is_live x) (elim x [ None ↦ [] | Some y ↦ choice_of y (Go u b) ]) [])) stands ∙ ap (λ x. filter (λ y. is_behind (last_bind c place) y.operation) (cond x (choice ∷ []) [])) live ∙ ap (λ x. cond x (choice ∷ []) []) j

  grown : (d : Bool) → is_behind (last_bind c place) o ≡ d → choices c (place ++ e ∷ []) ≡ map (later_choice e) (choices c place ++ cond d (choice ∷ []) [])
  grown d j = choices_grow c place e refl ∙ ap (λ l. map (later_choice e) (choices c place ++ l)) (new d j)

  -- behind the last Bind
  bound_choice : is_behind (last_bind c place) o ≡ true → Bound s c (place ++ e ∷ []) next
  bound_choice j =
      record {
        window = ap (chosen_window r.action u b) h.window ∙ ap (λ a. chosen_window a u b (window_of (standing_by s (choices c place)))) acts ∙ ap (λ n. chosen_window (action s o.request.rest) u n (window_of (standing_by s (choices c place)))) (sym backend) ∙ sym (ap (λ l. window_of (standing_by s l)) (grown true j) ∙ window_stays s e (λ x. refl) (choices c place ++ choice ∷ []) ∙ window_push s (choices c place) choice (action s o.request.rest) refl live);
        writes = λ test.
            one_written p.number u op test p.rows r lives.apart named number_is unforwarded
            ∙ ap (λ n. n + bump (is_action Write r.action && test r.k)) (h.writes test)
            ∙ ap (λ a. live_writes s test (choices c place) + bump (is_action Write a && test r.k)) acts
            ∙ ap (λ k. live_writes s test (choices c place) + bump (is_action Write (action s o.request.rest) && test k)) match.k
            ∙ sym (ap (live_writes s test) (grown true j) ∙ writes_stay s e (λ x. refl) (choices c place ++ choice ∷ []) test ∙ writes_push s (choices c place) choice (action s o.request.rest) refl live test);
        behind = still;
      }
    where
      still : list_all (is_behind_bind (bind_number c (place ++ e ∷ []))) next.rows ≡ true
      still = ap (λ n. list_all (is_behind_bind n) next.rows) (number_later c place e refl) ∙ forwarded_all (is_behind_bind (bind_number c place)) r.k u p.rows (λ x v. refl) ∙ h.behind

  -- of the last Bind itself, which binds to nothing
  bound_bind : is_behind (last_bind c place) o ≡ false → r.action ≡ Ignore → Bound s c (place ++ e ∷ []) next
  bound_bind j none =
      record {
        window = ap (λ a. chosen_window a u b p.window) none ∙ h.window ∙ sym (ap (λ l. window_of (standing_by s l)) same ∙ window_stays s e (λ x. refl) (choices c place));
        writes = λ test.
            one_written p.number u op test p.rows r lives.apart named number_is unforwarded
            ∙ ap (λ a. written_rows test p.rows + bump (is_action Write a && test r.k)) none ∙ plus_zero (written_rows test p.rows) ∙ h.writes test
            ∙ sym (ap (live_writes s test) same ∙ writes_stay s e (λ x. refl) (choices c place) test);
        behind = ap (λ n. list_all (is_behind_bind n) next.rows) (number_later c place e refl) ∙ forwarded_all (is_behind_bind (bind_number c place)) r.k u p.rows (λ x v. refl) ∙ h.behind;
      }
    where
      plus_zero : (n : ℕ) → n + 0 ≡ n
      plus_zero n = omega arith

      same : choices c (place ++ e ∷ []) ≡ map (later_choice e) (choices c place)
      same = grown false j ∙ ap (map (later_choice e)) (append-nil (choices c place))

  pub chosen_bound : Bound s c (place ++ e ∷ []) next
  chosen_bound = by (is_behind (last_bind c place) o) refl (is_bind_row r) refl
    where
      row_behind : (is_bind_row r || nat_lt (bind_number c place) r.k) ≡ true
      row_behind = found (is_behind_bind (bind_number c place)) (λ x. p.number == op.client && x.k == op.k) p.rows r named h.behind

      behind_so : is_bind_row r ≡ false → is_behind (last_bind c place) o ≡ true
      behind_so k = ordered (last_bind c place) (ap (nat_lt (bind_number c place)) (sym match.k) ∙ sym (ap (λ d. d || nat_lt (bind_number c place) r.k) k) ∙ row_behind)
        where
          ordered : (x : Option Operation) → nat_lt (number_of x) o.name.k ≡ true → is_behind x o ≡ true
          ordered None i = refl
          ordered (Some y) i = i

      by : (d : Bool) → is_behind (last_bind c place) o ≡ d → (f : Bool) → is_bind_row r ≡ f → Bound s c (place ++ e ∷ []) next
      by true j f k = bound_choice j
      by false j true k = bound_bind j (ignored k)
      by false j false k = absurd (let bad : true ≡ false = sym (behind_so k) ∙ j in cc)
