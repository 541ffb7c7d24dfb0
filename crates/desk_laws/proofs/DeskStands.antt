-- What stands of the desk's list and of the letters that it took, where each was fit: an operation is asked for once, and
-- a letter is heard once, since of each the desk took one.
use Rattle.std.proofs.Common.{◌≡◌, ℕ, Bool, true, false, ◌==◌, ◌&&◌, ◌||◌, not, List, [], ◌∷◌, ◌++◌, refl, ap, ◌∙◌, sym, append_assoc}
use Rattle.std.specs.Prelude.{Option, Some, None, map, filter, cond}
use Rattle.std.specs.List.{list_any}
use Rattle.std.proofs.lemmas.List.{append-nil, map-append}
use Rattle.std.proofs.lemmas.List.Elements.{filter-append}
use Rattle.std.proofs.lemmas.List.Folds.{list_any-append}
use Rattle.std.proofs.Math.Bool.{or-false}
use Rattle.lload_names.specs.declared.names.Entry.{Entry}
use Rattle.lload_names.specs.declared.names.OpName.{OpName}
use Rattle.lload_names.specs.declared.names.Answer.{Answer}
use Rattle.lload_names.specs.declared.names.Answer.TheVariants.{Go, Busy, Unavailable}
use Rattle.lload_names.specs.declared.names.Want.{Want}
use Rattle.lload_names.specs.declared.names.PartName.{PartName}
use Rattle.lload_names.specs.declared.names.PartName.TheVariants.{Desk}
use Rattle.lload_names.specs.declared.names.Letter.{Letter}
use Rattle.lload_names.specs.declared.names.Letter.TheVariants.{Ask, IsUp, IsRetired, IsDown}
use Rattle.lload_names.specs.declared.names.What.{What}
use Rattle.lload_names.specs.declared.names.What.TheVariants as what
use Rattle.lload_spec.specs.Lists.{passes}
use Rattle.lload_spec.specs.Settings.{Settings}
use Rattle.lload_spec.specs.Journal.{same_op}
use Rattle.lload_spec.specs.Entries.{Named, asked, heard}
use Rattle.lload_spec.specs.News.{tells_stopped}
use Rattle.lload_spec.specs.Order.{ups_heard, up_told}
use Rattle.lload_spec.specs.Strict.{is_asked_for}
use Rattle.part_spec.specs.Marked.{Marked, Taken}
use Rattle.part_spec.specs.DeskState.{DeskState, desk_behind, step_desk}
use Rattle.part_spec.specs.Fit.{DeskLedger, step_desk_ledger, is_none_taken, is_ask_of}
use Rattle.lload_laws.proofs.ListLaws.{filter-ext, any-map}
use Rattle.part_laws.proofs.ListLaws.{filter-filter, filter-all, same_op_eq, eqb_sym, false_by, not_true, or_elim, or_left, any_before, any_behind, any_split, none_of_both, any_filtered, none_filtered, not_both}
use Rattle.desk_laws.proofs.DeskSays.{StateSays, ends, named_go, pending_step, says_more}
use Rattle.desk_laws.proofs.DeskFacts.{viable_at, is_lost}

-- The connections that are viable.

-- the connection that an entry says is up
abbrev pub ups_of : What → List ℕ
ups_of w = elim (heard w) [ None ↦ [] | Some l ↦ up_told l ]

-- whether an entry says that a connection is lost
abbrev pub loses : What → ℕ → Bool
loses w n = passes (tells_stopped n) (heard w)

ups_push : (L : List Entry) (e : Entry) → ups_heard (L ++ e ∷ []) ≡ ups_heard L ++ ups_of e.what
ups_push [] e = append-nil (ups_of e.what)
ups_push (x ∷ L) e = ap (λ l. ups_of x.what ++ l) (ups_push L e) ∙ sym (append_assoc (ups_of x.what) (ups_heard L) (ups_of e.what))

lost_push : (L : List Entry) (e : Entry) (n : ℕ) → is_lost (L ++ e ∷ []) n ≡ (is_lost L n || loses e.what n)
lost_push L e n = list_any-append (λ x. passes (tells_stopped n) (heard x.what)) L (e ∷ []) ∙ ap (λ b. is_lost L n || b) (or-false (loses e.what n))

not_or : (a b : Bool) → not (a || b) ≡ (not b && not a)
not_or true true = refl
not_or true false = refl
not_or false true = refl
not_or false false = refl

pub viable_push : (L : List Entry) (e : Entry) → viable_at (L ++ e ∷ []) ≡ filter (λ n. not (loses e.what n)) (viable_at L) ++ filter (λ n. not (is_lost (L ++ e ∷ []) n)) (ups_of e.what)
viable_push L e = ap (filter (λ n. not (is_lost (L ++ e ∷ []) n))) (ups_push L e) ∙ filter-append (λ n. not (is_lost (L ++ e ∷ []) n)) (ups_heard L) (ups_of e.what) ∙ ap (λ l. l ++ filter (λ n. not (is_lost (L ++ e ∷ []) n)) (ups_of e.what)) (filter-ext (λ n. not (is_lost (L ++ e ∷ []) n)) (λ n. not (loses e.what n) && not (is_lost L n)) (ups_heard L) (λ n. ap not (lost_push L e n) ∙ not_or (is_lost L n) (loses e.what n)) ∙ sym (filter-filter (λ n. not (loses e.what n)) (λ n. not (is_lost L n)) (ups_heard L)))

-- the state's connections behind an entry
pub viable_kept : (xs : List ℕ) → xs ≡ filter (λ n. true) xs ++ []
viable_kept xs = sym (append-nil (filter (λ n. true) xs) ∙ filter-all (λ n. true) xs (λ n. refl))

viable_chosen : (op : OpName) (a : Answer) (s : Settings) (p : DeskState) (word : ℕ) → (desk_behind s p (what.Chose op a word)).viable ≡ p.viable
viable_chosen op (Go n b) s p word = refl
viable_chosen op Busy s p word = refl
viable_chosen op Unavailable s p word = refl

viable_step : (s : Settings) (p : DeskState) (w : What) → (desk_behind s p w).viable ≡ filter (λ n. not (loses w n)) p.viable ++ ups_of w
viable_step s p (what.Heard (IsUp u)) = ap (λ l. l ++ u ∷ []) (sym (filter-all (λ n. true) p.viable (λ n. refl)))
viable_step s p (what.Heard (IsRetired u)) = filter-ext (λ n. not (n == u)) (λ n. not (u == n || false)) p.viable (λ n. ap not (eqb_sym n u ∙ sym (or-false (u == n)))) ∙ sym (append-nil (filter (λ n. not (u == n || false)) p.viable))
viable_step s p (what.Heard (IsDown u)) = filter-ext (λ n. not (n == u)) (λ n. not (u == n)) p.viable (λ n. ap not (eqb_sym n u)) ∙ sym (append-nil (filter (λ n. not (u == n)) p.viable))
viable_step s p (what.Chose op a word) = viable_chosen op a s p word ∙ viable_kept p.viable
viable_step s p _ = viable_kept p.viable

-- What was told: the letters that the list's entries are of.

abbrev pub told_of : What → List Letter
told_of (what.Asked op want) = Ask op want ∷ []
told_of (what.Heard l) = l ∷ []
told_of _ = []

abbrev pub told_letters : List Entry → List Letter
told_letters [] = []
told_letters (e ∷ es) = told_of e.what ++ told_letters es

told_push : (L : List Entry) (e : Entry) → told_letters (L ++ e ∷ []) ≡ told_letters L ++ told_of e.what
told_push [] e = append-nil (told_of e.what)
told_push (x ∷ L) e = ap (λ l. told_of x.what ++ l) (told_push L e) ∙ sym (append_assoc (told_of x.what) (told_letters L) (told_of e.what))

some_told : (test : Entry → Bool) (q : Letter → Bool) → ((e : Entry) → test e ≡ true → list_any q (told_of e.what) ≡ true) → (L : List Entry) → list_any test L ≡ true → list_any q (told_letters L) ≡ true
some_told test q f [] h = h
some_told test q f (e ∷ L) h = or_elim (test e) (list_any test L) (λ k. any_before q (told_of e.what) (told_letters L) (f e k)) (λ k. any_behind q (told_of e.what) (told_letters L) (some_told test q f L k)) h

-- where no such letter was taken, no entry is of one
none_before : (test : Entry → Bool) (q : Letter → Bool) → ((e : Entry) → test e ≡ true → list_any q (told_of e.what) ≡ true) → (L : List Entry) (taken : List Taken) → told_letters L ≡ map (λ t. t.letter) taken → is_none_taken q taken ≡ true → list_any test L ≡ false
none_before test q f L taken same h = false_by (list_any test L) (λ k. sym (not_true (list_any (λ t. q t.letter) taken) h) ∙ sym (any-map q (λ t. t.letter) taken) ∙ ap (list_any q) (sym same) ∙ some_told test q f L k)

-- What stands behind each turn.
pub record DeskStands (s : Settings) (place : List Entry) (l : DeskLedger) : Type 0 where
  pub says : StateSays s place l.state
  pub viable : l.state.viable ≡ viable_at place
  pub told : told_letters place ≡ map (λ t. t.letter) l.taken
  pub pending_asked : (op : OpName) → list_any (λ x. same_op op x.op) l.state.pending ≡ true → list_any (is_asked_for op) place ≡ true
  pub ended_asked : (op : OpName) → list_any (λ e. ends e.what op) place ≡ true → list_any (is_asked_for op) place ≡ true
  pub ended_gone : (op : OpName) → list_any (λ e. ends e.what op) place ≡ true → list_any (λ x. same_op op x.op) l.state.pending ≡ false

-- no such letter was taken before a fit one: of an Ask, of the state of a connection
pub fresh_ask : (s : Settings) (place : List Entry) (l : DeskLedger) → DeskStands s place l → (op : OpName) → is_none_taken (is_ask_of op) l.taken ≡ true → list_any (is_asked_for op) place ≡ false
fresh_ask s place l h op n = none_before (is_asked_for op) (is_ask_of op) (λ e. by e.what) place l.taken h.told n
  where
    by : (w : What) → passes (λ a. same_op op a.op) (asked w) ≡ true → list_any (is_ask_of op) (told_of w) ≡ true
    by (what.Asked o want) k = or_left (same_op op o) false k
    by _ k = absurd (let bad : false ≡ true = k in cc)

-- what a heard letter says
by_heard : (test q : Letter → Bool) → ((x : Letter) → test x ≡ true → q x ≡ true) → (w : What) → passes test (heard w) ≡ true → list_any q (told_of w) ≡ true
by_heard test q f (what.Heard x) k = or_left (q x) false (f x k)
by_heard test q f _ k = absurd (let bad : false ≡ true = k in cc)

pub fresh_news : (s : Settings) (place : List Entry) (l : DeskLedger) → DeskStands s place l → (test q : Letter → Bool) → ((x : Letter) → test x ≡ true → q x ≡ true) → is_none_taken q l.taken ≡ true → list_any (λ e. passes test (heard e.what)) place ≡ false
fresh_news s place l h test q f n = none_before (λ e. passes test (heard e.what)) q (λ e. by_heard test q f e.what) place l.taken h.told n

-- an end that is fit is the first of its operation
pub fresh_end : (s : Settings) (place : List Entry) (l : DeskLedger) → DeskStands s place l → (op : OpName) → list_any (λ x. same_op op x.op) l.state.pending ≡ true → list_any (λ e. ends e.what op) place ≡ false
fresh_end s place l h op n = false_by (list_any (λ e. ends e.what op) place) (λ k. not_both (list_any (λ x. same_op op x.op) l.state.pending) n (h.ended_gone op k))

-- the entries of a turn
abbrev pub entry_at : ℕ → What → Entry
entry_at at w = record { part = Desk; at = at; what = w }

abbrev pub ledger_at : Settings → DeskLedger → ℕ → Option Taken → What → DeskLedger
ledger_at s l at mark w = step_desk_ledger s l (record { entry = entry_at at w; mark = mark })

module _ (s : Settings) (place : List Entry) (l : DeskLedger) (h : DeskStands s place l) (at : ℕ) where
  ups_fresh : (x : Letter) → ((n : ℕ) → up_told x ≡ n ∷ [] → is_lost place n ≡ false) → filter (λ n. not (is_lost (place ++ entry_at at (what.Heard x) ∷ []) n)) (up_told x) ≡ up_told x
  ups_fresh (IsUp u) f = ap (λ b. cond (not b) (u ∷ []) []) (lost_push place (entry_at at (what.Heard (IsUp u))) u ∙ ap (λ b. b || false) (f u refl))
  ups_fresh _ f = refl

  -- behind a letter that is heard
  pub hears : (sender : PartName) (x : Letter) → ((n : ℕ) → up_told x ≡ n ∷ [] → is_lost place n ≡ false) → ((op : OpName) → ends (what.Heard x) op ≡ true → list_any (λ y. same_op op y.op) l.state.pending ≡ true) → DeskStands s (place ++ entry_at at (what.Heard x) ∷ []) (ledger_at s l at (Some (record { sender = sender; letter = x })) (what.Heard x))
  hears sender x up end =
      record {
        says = says_more s place l.state m h.says;
        viable = viable_step s l.state (what.Heard x) ∙ ap (λ v. filter (λ n. not (loses (what.Heard x) n)) v ++ up_told x) h.viable ∙ ap (λ u. filter (λ n. not (loses (what.Heard x) n)) (viable_at place) ++ u) (sym (ups_fresh x up)) ∙ sym (viable_push place e);
        told = told_push place e ∙ ap (λ q. q ++ x ∷ []) h.told ∙ sym (map-append (λ t. t.letter) l.taken (record { sender = sender; letter = x } ∷ []));
        pending_asked = λ op k. any_before (is_asked_for op) place (e ∷ []) (h.pending_asked op (kept op (ap (list_any (λ y. same_op op y.op)) (sym left_over) ∙ k)));
        ended_asked = λ op k. any_before (is_asked_for op) place (e ∷ []) (any_split (λ y. ends y.what op) place (e ∷ []) (h.ended_asked op) (λ j. h.pending_asked op (end op (sym (or-false (ends (what.Heard x) op)) ∙ j))) k);
        ended_gone = λ op k. ap (list_any (λ y. same_op op y.op)) left_over ∙ any_split (λ y. ends y.what op) place (e ∷ []) (λ j. false_by (list_any (λ y. same_op op y.op) rest) (λ i. not_both (list_any (λ y. same_op op y.op) l.state.pending) (kept op i) (h.ended_gone op j))) (λ j. gone op (sym (or-false (ends (what.Heard x) op)) ∙ j)) k;
      }
    where
      e : Entry
      e = entry_at at (what.Heard x)

      m : Marked
      m = record { entry = entry_at at (what.Heard x); mark = Some (record { sender = sender; letter = x }) }

      rest : List (Named ℕ)
      rest = filter (λ y. not (ends (what.Heard x) y.op)) l.state.pending

      left_over : (desk_behind s l.state (what.Heard x)).pending ≡ filter (λ y. not (ends (what.Heard x) y.op)) l.state.pending
      left_over = pending_step s l.state (what.Heard x) ∙ append-nil (filter (λ y. not (ends (what.Heard x) y.op)) l.state.pending)

      kept : (op : OpName) → list_any (λ y. same_op op y.op) (filter (λ y. not (ends (what.Heard x) y.op)) l.state.pending) ≡ true → list_any (λ y. same_op op y.op) l.state.pending ≡ true
      kept op k = any_filtered (λ y. same_op op y.op) (λ y. not (ends (what.Heard x) y.op)) l.state.pending k

      gone : (op : OpName) → ends (what.Heard x) op ≡ true → list_any (λ y. same_op op y.op) (filter (λ y. not (ends (what.Heard x) y.op)) l.state.pending) ≡ false
      gone op k = none_filtered (λ y. same_op op y.op) (λ y. not (ends (what.Heard x) y.op)) l.state.pending (λ y j. ap (λ q. not (ends (what.Heard x) q)) (sym (same_op_eq op y.op j)) ∙ ap not k)

  -- the state behind a choice has the choice among the pending operations
  pending_chosen : (p : DeskState) (op : OpName) (a : Answer) (word : ℕ) → (desk_behind s p (what.Chose op a word)).pending ≡ p.pending ++ named_go op a
  pending_chosen p op a word = pending_step s p (what.Chose op a word) ∙ ap (λ q. q ++ named_go op a) (filter-all (λ x. true) p.pending (λ x. refl))

  named_only : (o op : OpName) (a : Answer) → list_any (λ x. same_op o x.op) (named_go op a) ≡ true → same_op o op ≡ true
  named_only o op (Go n b) k = sym (or-false (same_op o op)) ∙ k
  named_only o op Busy k = absurd (let bad : false ≡ true = k in cc)
  named_only o op Unavailable k = absurd (let bad : false ≡ true = k in cc)

  -- behind an Ask and its choice
  pub asks : (sender : PartName) (op : OpName) (want : Want) (a : Answer) (word : ℕ) → list_any (is_asked_for op) place ≡ false → DeskStands s ((place ++ entry_at at (what.Asked op want) ∷ []) ++ entry_at at (what.Chose op a word) ∷ []) (ledger_at s (ledger_at s l at (Some (record { sender = sender; letter = Ask op want })) (what.Asked op want)) at None (what.Chose op a word))
  asks sender op want a word new =
      record {
        says = says_more s (place ++ e1 ∷ []) (step_desk s l.state m1) m2 (says_more s place l.state m1 h.says);
        viable = viable_chosen op a s (step_desk s l.state m1) word ∙ h.viable ∙ viable_kept (viable_at place) ∙ sym (viable_push place e1) ∙ viable_kept (viable_at (place ++ e1 ∷ [])) ∙ sym (viable_push (place ++ e1 ∷ []) e2);
        told = told_push (place ++ e1 ∷ []) e2 ∙ append-nil (told_letters (place ++ e1 ∷ [])) ∙ told_push place e1 ∙ ap (λ q. q ++ Ask op want ∷ []) h.told ∙ sym (map-append (λ t. t.letter) l.taken (record { sender = sender; letter = Ask op want } ∷ []));
        pending_asked = λ o k. pending_before o (sym (ap (list_any (λ x. same_op o x.op)) now) ∙ k);
        ended_asked = λ o k. later o (h.ended_asked o (ended_before o k));
        ended_gone = λ o k. ap (list_any (λ x. same_op o x.op)) now ∙ none_of_both (λ x. same_op o x.op) l.state.pending (named_go op a) (h.ended_gone o (ended_before o k)) (false_by (list_any (λ x. same_op o x.op) (named_go op a)) (λ j. not_both (list_any (is_asked_for o) place) (h.ended_asked o (ended_before o k)) (ap (λ q. list_any (is_asked_for q) place) (same_op_eq o op (named_only o op a j)) ∙ new)));
      }
    where
      e1 : Entry
      e1 = entry_at at (what.Asked op want)

      e2 : Entry
      e2 = entry_at at (what.Chose op a word)

      m1 : Marked
      m1 = record { entry = entry_at at (what.Asked op want); mark = Some (record { sender = sender; letter = Ask op want }) }

      m2 : Marked
      m2 = record { entry = entry_at at (what.Chose op a word); mark = None }

      now : (desk_behind s (step_desk s l.state (record { entry = entry_at at (what.Asked op want); mark = Some (record { sender = sender; letter = Ask op want }) })) (what.Chose op a word)).pending ≡ l.state.pending ++ named_go op a
      now = pending_chosen (step_desk s l.state (record { entry = entry_at at (what.Asked op want); mark = Some (record { sender = sender; letter = Ask op want }) })) op a word

      later : (o : OpName) → list_any (is_asked_for o) place ≡ true → list_any (is_asked_for o) ((place ++ entry_at at (what.Asked op want) ∷ []) ++ entry_at at (what.Chose op a word) ∷ []) ≡ true
      later o k = any_before (is_asked_for o) (place ++ entry_at at (what.Asked op want) ∷ []) (entry_at at (what.Chose op a word) ∷ []) (any_before (is_asked_for o) place (entry_at at (what.Asked op want) ∷ []) k)

      pending_before : (o : OpName) → list_any (λ x. same_op o x.op) (l.state.pending ++ named_go op a) ≡ true → list_any (is_asked_for o) ((place ++ entry_at at (what.Asked op want) ∷ []) ++ entry_at at (what.Chose op a word) ∷ []) ≡ true
      pending_before o k = any_split (λ x. same_op o x.op) l.state.pending (named_go op a) (λ j. any_before (is_asked_for o) (place ++ entry_at at (what.Asked op want) ∷ []) (entry_at at (what.Chose op a word) ∷ []) (any_before (is_asked_for o) place (entry_at at (what.Asked op want) ∷ []) (h.pending_asked o j))) (λ j. any_before (is_asked_for o) (place ++ entry_at at (what.Asked op want) ∷ []) (entry_at at (what.Chose op a word) ∷ []) (any_behind (is_asked_for o) place (entry_at at (what.Asked op want) ∷ []) (or_left (same_op o op) false (named_only o op a j)))) k

      ended_before : (o : OpName) → list_any (λ e. ends e.what o) ((place ++ entry_at at (what.Asked op want) ∷ []) ++ entry_at at (what.Chose op a word) ∷ []) ≡ true → list_any (λ e. ends e.what o) place ≡ true
      ended_before o k = any_split (λ e. ends e.what o) (place ++ entry_at at (what.Asked op want) ∷ []) (entry_at at (what.Chose op a word) ∷ []) (λ j. any_split (λ e. ends e.what o) place (entry_at at (what.Asked op want) ∷ []) (λ i. i) (λ i. absurd (let bad : false ≡ true = i in cc)) j) (λ j. absurd (let bad : false ≡ true = j in cc)) k

  -- behind another plan
  pub replans : (k base : ℕ) → DeskStands s (place ++ entry_at at (what.Replanned k base) ∷ []) (ledger_at s l at None (what.Replanned k base))
  replans k base =
      record {
        says = says_more s place l.state m h.says;
        viable = h.viable ∙ viable_kept (viable_at place) ∙ sym (viable_push place e);
        told = told_push place e ∙ append-nil (told_letters place) ∙ h.told;
        pending_asked = λ op j. any_before (is_asked_for op) place (e ∷ []) (h.pending_asked op j);
        ended_asked = λ op j. any_before (is_asked_for op) place (e ∷ []) (h.ended_asked op (ended_before op j));
        ended_gone = λ op j. h.ended_gone op (ended_before op j);
      }
    where
      e : Entry
      e = entry_at at (what.Replanned k base)

      m : Marked
      m = record { entry = entry_at at (what.Replanned k base); mark = None }

      ended_before : (op : OpName) → list_any (λ y. ends y.what op) (place ++ entry_at at (what.Replanned k base) ∷ []) ≡ true → list_any (λ y. ends y.what op) place ≡ true
      ended_before op j = any_split (λ y. ends y.what op) place (entry_at at (what.Replanned k base) ∷ []) (λ i. i) (λ i. absurd (let bad : false ≡ true = i in cc)) j
