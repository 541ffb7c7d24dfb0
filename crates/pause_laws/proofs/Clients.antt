-- What a client's list tells a connection of pauses, by the client's states.
use Rattle.std.proofs.Common.{◌≡◌, ℕ, Bool, true, false, ◌==◌, ◌&&◌, ◌||◌, not, List, [], ◌∷◌, ◌++◌, refl, ap, ◌∙◌, sym, subst}
use Rattle.std.specs.Prelude.{Option, Some, None}
use Rattle.std.specs.List.{list_any}
use Rattle.std.proofs.lemmas.List.{append-nil}
use Rattle.std.proofs.lemmas.List.Folds.{list_any-append}
use Rattle.lload_names.specs.declared.names.Answer.{Answer}
use Rattle.lload_names.specs.declared.names.Answer.TheVariants.{Go, Busy, Unavailable}
use Rattle.lload_names.specs.declared.names.OpName.{OpName}
use Rattle.lload_names.specs.declared.names.PartName.TheVariants.{Up as Connection}
use Rattle.lload_names.specs.declared.names.Posted.{Posted}
use Rattle.lload_names.specs.declared.names.What.{What}
use Rattle.lload_names.specs.declared.names.What.TheVariants as what
use Rattle.lload_spec.specs.Lists.{put_number, rising_once}
use Rattle.lload_spec.specs.Owed.{has_paused}
use Rattle.lload_spec.specs.Pauses.{Pausing, forwarding, pause_letters, pauses_behind}
use Rattle.lload_spec.specs.Settings.{Settings}
use Rattle.part_spec.specs.ClientState.{ClientState, ClientRow, check_at, client_behind, is_bind_row, regular_connections, row_named, with_connection}
use Rattle.part_spec.specs.ClientTurn.{endings, forward, letters_for, pause_at, resumes}
use Rattle.part_spec.specs.Gives.{client_letters}
use Rattle.part_spec.specs.Marked.{Taken, letters_to}
use Rattle.joined_laws.proofs.Taken.{letters_to_both}
use Rattle.client_moves_laws.proofs.ClientStays.{pausing_stays}
use Rattle.client_moves_laws.proofs.Lists.{among_put, among_rising}
use Rattle.pause_laws.proofs.Signals.{Leads, leads_nowhere, leads_to_pause, leads_to_resume, quiet_before}
use Rattle.pause_laws.proofs.Silent.{endings_silent, forward_silent, is_silent, message_silent, silent_to}

module _ (s : Settings) (u at : ℕ) (mark : Option Taken) (p : ClientState) where
  -- letters that lead from what the client pauses to this
  abbrev pub LeadsTo : Pausing → List Posted → Type 0
  LeadsTo q xs = Leads (has_paused u p.pausing) (has_paused u q) (letters_to (Connection u) xs)

  -- none of them is a pause, and the pauses stay
  stays : (q : Pausing) (xs : List Posted) → q ≡ p.pausing → is_silent xs ≡ true → LeadsTo q xs
  stays q xs same h =
      subst (λ (z : Pausing). LeadsTo z xs) (sym same)
      (subst (Leads (has_paused u p.pausing) (has_paused u p.pausing)) (append-nil (letters_to (Connection u) xs))
      (quiet_before (has_paused u p.pausing) (has_paused u p.pausing) (letters_to (Connection u) xs) [] (silent_to (Connection u) xs h) (leads_nowhere (has_paused u p.pausing))))

  -- behind others that are none
  behind : (q : Pausing) (xs ys : List Posted) → is_silent xs ≡ true → LeadsTo q ys → LeadsTo q (xs ++ ys)
  behind q xs ys h k =
      subst (Leads (has_paused u p.pausing) (has_paused u q)) (sym (letters_to_both (Connection u) xs ys))
      (quiet_before (has_paused u p.pausing) (has_paused u q) (letters_to (Connection u) xs) (letters_to (Connection u) ys) (silent_to (Connection u) xs h) k)

  -- each pause ends
  not_and : (b : Bool) → (not b && b) ≡ false
  not_and true = refl
  not_and false = refl

  ends : LeadsTo (record { stalled = false; paused = [] }) (resumes p)
  ends = subst (λ b. Leads (has_paused u p.pausing) b (letters_to (Connection u) (resumes p))) (not_and (has_paused u p.pausing)) (leads_to_resume p.number u p.pausing.paused (has_paused u p.pausing))

  -- it stalls
  or_swap : (a b : Bool) → a ≡ b → (c : Bool) → (a || c) ≡ (b || c)
  or_swap a b e c = ap (λ x. x || c) e

  begins : LeadsTo (record { stalled = true; paused = rising_once (regular_connections p ++ p.pausing.paused) }) (pause_letters p.number (rising_once (regular_connections p)))
  begins =
      subst (λ b. Leads (has_paused u p.pausing) b (letters_to (Connection u) (pause_letters p.number (rising_once (regular_connections p)))))
      (or_swap (list_any (λ n. n == u) (rising_once (regular_connections p))) (list_any (λ n. n == u) (regular_connections p)) (among_rising u (regular_connections p)) (has_paused u p.pausing)
      ∙ sym (among_rising u (regular_connections p ++ p.pausing.paused) ∙ list_any-append (λ n. n == u) (regular_connections p) p.pausing.paused))
      (leads_to_pause p.number u (rising_once (regular_connections p)) (has_paused u p.pausing))

  -- an operation goes to a connection
  pauses : (v : ℕ) (b : Bool) → LeadsTo (elim b [ true ↦ record p.pausing { paused = put_number v p.pausing.paused } | false ↦ p.pausing ]) (elim b [ true ↦ pause_letters p.number (v ∷ []) | false ↦ [] ])
  pauses v true =
      subst (λ b. Leads (has_paused u p.pausing) b (letters_to (Connection u) (pause_letters p.number (v ∷ []))))
      (or_swap ((v == u) || false) (v == u) (or_none (v == u)) (has_paused u p.pausing) ∙ sym (among_put v u p.pausing.paused))
      (leads_to_pause p.number u (v ∷ []) (has_paused u p.pausing))
    where
      or_none : (b : Bool) → (b || false) ≡ b
      or_none true = refl
      or_none false = refl
  pauses v false = leads_nowhere (has_paused u p.pausing)

  goes : (v b : ℕ) (op : OpName) (r : ClientRow) → LeadsTo (with_connection v b p r).pausing (forward s p r op v ++ pause_at p r v)
  goes v b op r = behind (with_connection v b p r).pausing (forward s p r op v) (pause_at p r v) (forward_silent s p r op v) (by (is_bind_row r))
    where
      by : (d : Bool) → LeadsTo (elim d [ true ↦ p.pausing | false ↦ forwarding v p.pausing ]) (elim d [ true ↦ [] | false ↦ elim (pauses_behind p.pausing v) [ true ↦ pause_letters p.number (v ∷ []) | false ↦ [] ] ])
      by true = leads_nowhere (has_paused u p.pausing)
      by false = pauses v (pauses_behind p.pausing v)

  chosen : (op : OpName) (a : Answer) → LeadsTo (client_behind s at mark p (what.Chosen op a)).pausing (letters_for s p op (row_named p op) a)
  chosen op (Go v b) = by (row_named p op)
    where
      state : Option ClientRow → ClientState
      state o = elim o [ None ↦ p | Some r ↦ with_connection v b p r ]

      by : (o : Option ClientRow) → LeadsTo (state o).pausing (letters_for s p op o (Go v b))
      by None = leads_nowhere (has_paused u p.pausing)
      by (Some r) = goes v b op r
  chosen op Busy = by (row_named p op)
    where
      by : (o : Option ClientRow) → LeadsTo p.pausing (letters_for s p op o Busy)
      by None = leads_nowhere (has_paused u p.pausing)
      by (Some r) = leads_nowhere (has_paused u p.pausing)
  chosen op Unavailable = by (row_named p op)
    where
      by : (o : Option ClientRow) → LeadsTo p.pausing (letters_for s p op o Unavailable)
      by None = leads_nowhere (has_paused u p.pausing)
      by (Some r) = leads_nowhere (has_paused u p.pausing)

  -- what happens to a client leads from what it paused to what it pauses
  pub leads : (w : What) → LeadsTo (client_behind s at mark p w).pausing (client_letters s p at w)
  leads (what.In id rest) = stays (client_behind s at mark p (what.In id rest)).pausing (client_letters s p at (what.In id rest)) (pausing_stays s at mark (record { state = p; expected = [] }) (what.In id rest ∷ []) [] refl) (message_silent s p at (record { id = id; rest = rest }) (check_at s p (record { id = id; rest = rest })))
  leads (what.Out id rest) = stays (client_behind s at mark p (what.Out id rest)).pausing [] (pausing_stays s at mark (record { state = p; expected = [] }) (what.Out id rest ∷ []) [] refl) refl
  leads (what.Chosen op a) = chosen op a
  leads (what.Gone why) = behind (record { stalled = false; paused = [] }) (endings p) (resumes p) (endings_silent p) ends
  leads what.Stalled = begins
  leads what.Flowing = ends
  leads _ = leads_nowhere (has_paused u p.pausing)
