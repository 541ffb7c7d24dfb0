-- What binds a client behind each turn that leaves it there.
use Rattle.std.proofs.Common.{◌≡◌, ℕ, Bool, true, false, ◌==◌, ◌&&◌, ◌||◌, not, List, [], ◌∷◌, ◌++◌, length, refl, ap, ◌∙◌, sym, subst, append_assoc, inl, inr, ◌⊎◌}
use Rattle.std.specs.Prelude.{Option, Some, None, cond, filter, find, is_none, is_some}
use Rattle.std.specs.List.{list_any, list_all}
use Rattle.std.proofs.lemmas.List.{append-nil}
use Rattle.ldap_spec.specs.Kinds.{kind_of}
use Rattle.ldap_spec.specs.Messages.{Message}
use Rattle.lload_names.specs.declared.names.Answer.{Answer}
use Rattle.lload_names.specs.declared.names.Answer.TheVariants.{Go, Busy, Unavailable}
use Rattle.lload_names.specs.declared.names.CancelAnswer.TheVariants.{C13, S1}
use Rattle.lload_names.specs.declared.names.EndWhy.{EndWhy}
use Rattle.lload_names.specs.declared.names.EndWhy.TheVariants.{Left}
use Rattle.lload_names.specs.declared.names.Entry.{Entry}
use Rattle.lload_names.specs.declared.names.Letter.TheVariants.{Choice, Reply, Failed}
use Rattle.lload_names.specs.declared.names.OpName.{OpName}
use Rattle.lload_names.specs.declared.names.PartName.{PartName}
use Rattle.lload_names.specs.declared.names.PartName.TheVariants.{Client, Desk}
use Rattle.lload_names.specs.declared.names.What.{What}
use Rattle.lload_names.specs.declared.names.What.TheVariants as what
use Rattle.ldap_spec.specs.Bodies.{cancel_answer, protocol_error_notice}
use Rattle.lload_names.specs.declared.names.ConnKind.{ConnKind}
use Rattle.lload_names.specs.declared.plans.Place.{Place}
use Rattle.lload_spec.specs.Binding.{Choice as Chosen, action, choice_of, is_behind, kind_wanted}
use Rattle.lload_spec.specs.ClientCalls.{new_choices}
use Rattle.lload_spec.specs.Entries.{operation_message}
use Rattle.lload_spec.specs.FirstCheck.{Check, Ends, Unbinds, Abandons, Refuses, Answers, Cancels, GoesOn}
use Rattle.lload_spec.specs.Journal.{same_op, same_part}
use Rattle.lload_spec.specs.Lists.{implies, passes}
use Rattle.lload_spec.specs.Operations.{Operation, is_live_at, last_bind, operation_in, operations}
use Rattle.lload_spec.specs.Settings.{Settings, backend_of, is_of_kind, place_at}
use Rattle.lload_spec.specs.Strict.{is_choice_for}
use Rattle.lload_spec.proofs.Growth.{left, right}
use Rattle.lload_laws.proofs.ListLaws.{found_passes}
use Rattle.part_laws.proofs.ListLaws.{eq_eqb, or_true, same_number}
use Rattle.part_spec.specs.ClientState.{AskedFor, ClientRow, ClientState, check_at, client_behind, is_bind_row, row_named, step_client, with_choice, with_connection}
use Rattle.part_spec.specs.ClientTurn.{canceled, noticed, refused, whats_by, whats_for}
use Rattle.part_spec.specs.Fit.{ClientLedger, fits_client, is_choice_for as is_right_choice, ledger_behind as behind}
use Rattle.part_spec.specs.Inputs.{entries_of}
use Rattle.part_spec.specs.Marked.{Marked, Taken, entries}
use Rattle.client_laws.proofs.ClientClauses.{Keeps, goes, gone_step}
use Rattle.client_laws.proofs.ClientLate.{none_live}
use Rattle.client_laws.proofs.ClientLives.{is_free_id, lives_more}
use Rattle.client_laws.proofs.ClientOuts.{EndsOnce}
use Rattle.client_laws.proofs.ClientTurns.{Frees, canceled_free, client_turn_of, free_by, is_end, lives_through, refused_free, tail_none}
use Rattle.client_laws.proofs.Matches.{ClientLives}
use Rattle.client_share_laws.proofs.ClientCases.{Cases, taken}
use Rattle.client_share_laws.proofs.Whats.{canceled_all, choice_all, refused_all}
use Rattle.client_answer_laws.proofs.Asks.{AskKnown, asked_known}
use Rattle.client_answer_laws.proofs.Each.{each_found}
use Rattle.client_answer_laws.proofs.Known.{Known, within_there}
use Rattle.client_answer_laws.proofs.Life.{FirstFits, fit_asked, not_false}
use Rattle.client_answer_laws.proofs.Only.{OneOrOther, TheOne, each_one_or_other}
use Rattle.client_answer_laws.proofs.ToldKept.{ToldKept}
use Rattle.client_answer_laws.proofs.Waits.{IsOf, RowKnown, is_within}
use Rattle.identity_laws.proofs.BoundTurns.{frees_quiet}
use Rattle.window_laws.proofs.Chosen.{chosen_bound}
use Rattle.window_laws.proofs.Entries.{Bound, bound_by, in_bound, out_bound, quiet, unchosen}

-- entries that are neither a choice nor the end
abbrev pub is_plain : What → Bool
is_plain (what.Chosen op a) = false
is_plain (what.Gone why) = false
is_plain _ = true

-- entries that make no operation
abbrev is_quiet : What → Bool
is_quiet w = is_none (operation_message w)

-- A client that is gone stays so.
stays_gone : (s : Settings) (p : ClientState) (ms : List Marked) → p.gone ≡ true → (behind (step_client s) p ms).gone ≡ true
stays_gone s p [] h = h
stays_gone s p (m ∷ ms) h = stays_gone s (step_client s p m) ms (gone_step s m.entry.at m.mark p m.entry.what ∙ ap (λ b. b || goes m.entry.what) h)

there_before : (s : Settings) (p : ClientState) (ms : List Marked) → (behind (step_client s) p ms).gone ≡ false → p.gone ≡ false
there_before s p ms h = by p.gone refl
  where
    by : (b : Bool) → p.gone ≡ b → b ≡ false
    by true e = absurd (let bad : true ≡ false = sym (stays_gone s p ms e) ∙ h in cc)
    by false e = refl

module _ (s : Settings) (c u at : ℕ) where
  abbrev entry : What → Entry
  entry w = record { part = Client u; at = at; what = w }

  abbrev marked : Option Taken → What → Marked
  marked mark w = record { entry = record { part = Client u; at = at; what = w }; mark = mark }

  one_lives : (place : List Entry) (p : ClientState) (mark : Option Taken) (w : What) → ClientLives c place p → is_free_id p w ≡ true → ClientLives c (place ++ record { part = Client u; at = at; what = w } ∷ []) (step_client s p (record { entry = record { part = Client u; at = at; what = w }; mark = mark }))
  one_lives place p mark w h f = lives_through s c u at (w ∷ []) mark place p h (f, tt)

  -- behind an entry, whatever its moment
  stepped : (place : List Entry) (p : ClientState) (mark : Option Taken) (w : What) → Bound s c (place ++ record { part = Client u; at = at; what = w } ∷ []) (client_behind s at mark p w) → Bound s c (place ++ record { part = Client u; at = at; what = w } ∷ []) (step_client s p (record { entry = record { part = Client u; at = at; what = w }; mark = mark }))
  stepped place p mark w h = bound_by s c (place ++ record { part = Client u; at = at; what = w } ∷ []) (client_behind s at mark p w) (step_client s p (record { entry = record { part = Client u; at = at; what = w }; mark = mark })) refl refl h

  one_bound : (place : List Entry) (p : ClientState) (mark : Option Taken) (w : What) → ClientLives c place p → Bound s c place p → is_free_id p w ≡ true → is_plain w ≡ true → Bound s c (place ++ record { part = Client u; at = at; what = w } ∷ []) (client_behind s at mark p w)
  one_bound place p mark (what.In id rest) lives h free plain = in_bound s c place p lives h (Client u) at mark (record { id = id; rest = rest }) (lives_more s c place (Client u) at mark p lives (what.In id rest) free)
  one_bound place p mark (what.Out id rest) lives h free plain = out_bound s c place p lives h (Client u) at mark id rest (lives_more s c place (Client u) at mark p lives (what.Out id rest) free)
  one_bound place p mark (what.Chosen op a) lives h free plain = absurd (let bad : false ≡ true = plain in cc)
  one_bound place p mark (what.Gone why) lives h free plain = absurd (let bad : false ≡ true = plain in cc)
  one_bound place p mark w lives h free plain = quiet s c place p lives h (entry w) refl (unchosen s c place p lives h (entry w) refl) (client_behind s at mark p w) refl refl (lives_more s c place (Client u) at mark p lives w free)

  -- the first entry of a turn, and then the others
  joined : (place : List Entry) (p : ClientState) (mark : Option Taken) (w : What) (ws : List What) → Bound s c ((place ++ record { part = Client u; at = at; what = w } ∷ []) ++ entries (client_turn_of u at None ws)) (behind (step_client s) (step_client s p (record { entry = record { part = Client u; at = at; what = w }; mark = mark })) (client_turn_of u at None ws)) → Bound s c (place ++ entries (client_turn_of u at mark (w ∷ ws))) (behind (step_client s) p (client_turn_of u at mark (w ∷ ws)))
  joined place p mark w ws h =
      let e : Entry = record { part = Client u; at = at; what = w } in
      let next : ClientState = step_client s p (record { entry = e; mark = mark }) in
      subst (λ ms. Bound s c (place ++ e ∷ entries ms) (behind (step_client s) next ms)) (sym (tail_none (entries_of (Client u) at ws))) (subst (λ l. Bound s c l (behind (step_client s) next (client_turn_of u at None ws))) (append_assoc place (e ∷ []) (entries (client_turn_of u at None ws))) h)

  plain_through : (ws : List What) (mark : Option Taken) (place : List Entry) (p : ClientState) → ClientLives c place p → Bound s c place p → Frees s u at p mark ws → list_all is_plain ws ≡ true → Bound s c (place ++ entries (client_turn_of u at mark ws)) (behind (step_client s) p (client_turn_of u at mark ws))
  plain_through [] mark place p lives h f k = subst (λ l. Bound s c l p) (sym (append-nil place)) h
  plain_through (w ∷ ws) mark place p lives h f k =
      joined place p mark w ws (plain_through ws None (place ++ entry w ∷ []) (step_client s p (marked mark w)) (one_lives place p mark w lives f.0) (stepped place p mark w (one_bound place p mark w lives h f.0 (left (is_plain w) _ k))) f.1 (right (is_plain w) _ k))

  -- behind the end nothing is said
  gone_last : (p : ClientState) (mark : Option Taken) (why : EndWhy) → (step_client s p (marked mark (what.Gone why))).gone ≡ true
  gone_last p mark why = gone_step s at mark p (what.Gone why) ∙ or_true p.gone

-- A choice that its client asked for.
module _ (s : Settings) (c : ℕ) (place : List Entry) (p : ClientState) (lives : ClientLives c place p) (once : EndsOnce c place) (known : Known s c place p) (h : Bound s c place p) (u at : ℕ) (mark : Option Taken) (op : OpName) where
  abbrev is_its : ClientRow → Bool
  is_its r = p.number == op.client && r.k == op.k

  abbrev came : Answer → Entry
  came a = record { part = Client u; at = at; what = what.Chosen op a }

  -- of an operation that isn't live, or of none
  nothing : (a : Answer) → (is_live_at c place op ≡ false) ⊎ ((o : Operation) → choice_of o a ≡ []) → new_choices c place (came a) ≡ []
  nothing a (inl k) = ap (λ b. filter (λ x. is_behind (last_bind c place) x.operation) (cond {A = List Chosen} b (elim (operation_in c place op) [ None ↦ [] | Some o ↦ choice_of o a ]) [])) k
  nothing a (inr k) = ap (filter (λ (x : Chosen). is_behind (last_bind c place) x.operation)) (by (is_live_at c place op) (operation_in c place op))
    where
      by : (b : Bool) (o : Option Operation) → cond {A = List Chosen} b (elim o [ None ↦ [] | Some x ↦ choice_of x a ]) [] ≡ []
      by false o = refl
      by true None = refl
      by true (Some o) = k o

  idle : (a : Answer) (q : ClientState) → new_choices c place (came a) ≡ [] → q.rows ≡ p.rows → q.window ≡ p.window → ClientLives c (place ++ came a ∷ []) q → Bound s c (place ++ came a ∷ []) q
  idle a q none rows window next = quiet s c place p lives h (came a) refl none q rows window next

  -- of a connection, for a row
  module _ (v b : ℕ) (within : is_within c (length (operations c place)) op ≡ true) (fresh : list_any (is_choice_for op) place ≡ false) (backend : backend_of s v ≡ b) (r : ClientRow) (named : row_named p op ≡ Some r) where
    row : RowKnown s c place r
    row = each_found (RowKnown s c place) (λ x. p.number == op.client && x.k == op.k) p.rows r named known.rows

    its : (p.number == op.client && r.k == op.k) ≡ true
    its = found_passes (λ x. p.number == op.client && x.k == op.k) p.rows r named

    name_is : record { client = c; k = r.k } ≡ op
    name_is =
        let client : c ≡ op.client = sym known.says.number ∙ same_number p.number op.client (left (p.number == op.client) _ its) in
        let k : r.k ≡ op.k = same_number r.k op.k (right (p.number == op.client) _ its) in
        λ i. record { client = client i; k = k i }

    free : is_bind_row r ≡ false → r.connection ≡ None
    free k = by r.connection (sym (ap (λ d. implies (not d && is_some r.connection) (list_any (is_choice_for (record { client = c; k = r.k })) place)) k) ∙ row.chosen)
      where
        by : (o : Option ℕ) → implies (is_some o) (list_any (is_choice_for (record { client = c; k = r.k })) place) ≡ true → o ≡ None
        by None j = refl
        by (Some n) j = absurd (let bad : false ≡ true = sym fresh ∙ ap (λ n. list_any (is_choice_for n) place) (sym name_is) ∙ j in cc)

    of_one : (o : Operation) → operation_in c place op ≡ Some o → TheOne c r o → Bound s c (place ++ came (Go v b) ∷ []) (with_choice op (Go v b) p)
    of_one o stands one = subst (Bound s c (place ++ came (Go v b) ∷ [])) (sym (ap (λ x. elim x [ None ↦ p | Some y ↦ with_connection v b p y ]) named)) (chosen_bound s c place p lives h (Client u) at op v b r o named stands one.live one.match acts backend free)
      where
        acts : r.action ≡ action s o.request.rest
        acts = (each_found (λ x. (r.k == x.name.k) ≡ true → IsOf s r x) (λ x. same_op op x.name) (operations c place) o stands row.same (eq_eqb r.k o.name.k one.match.k)).action

    of_operation : (o : Operation) → operation_in c place op ≡ Some o → Bound s c (place ++ came (Go v b) ∷ []) (with_choice op (Go v b) p)
    of_operation o stands = by (each_found (OneOrOther c r) (λ x. same_op op x.name) (operations c place) o stands (each_one_or_other c place p lives once (λ x. p.number == op.client && x.k == op.k) r named))
      where
        by : OneOrOther c r o → Bound s c (place ++ came (Go v b) ∷ []) (with_choice op (Go v b) p)
        by (inl one) = of_one o stands one
        by (inr another) = absurd (let bad : false ≡ true = sym another.unnamed ∙ ap (λ n. same_op n o.name) name_is ∙ found_passes (λ x. same_op op x.name) (operations c place) o stands in cc)

    of_row : Bound s c (place ++ came (Go v b) ∷ []) (with_choice op (Go v b) p)
    of_row = by (operation_in c place op) refl (within_there c place op within)
      where
        by : (o : Option Operation) → operation_in c place op ≡ o → is_some o ≡ true → Bound s c (place ++ came (Go v b) ∷ []) (with_choice op (Go v b) p)
        by None e k = absurd (let bad : false ≡ true = k in cc)
        by (Some o) e k = of_operation o e

  -- the backend of a choice that is fit is the connection's
  its_backend : (kind : ConnKind) (v b : ℕ) → is_right_choice s kind (Go v b) ≡ true → backend_of s v ≡ b
  its_backend kind v b k = by (place_at s v) (right (is_of_kind s kind v) _ k)
    where
      by : (o : Option Place) → (elim o [ None ↦ false | Some x ↦ x.backend == b ]) ≡ true → (elim o [ None ↦ 0 | Some x ↦ x.backend ]) ≡ b
      by None j = absurd (let bad : false ≡ true = j in cc)
      by (Some x) j = same_number x.backend b j

  pub choice_bound : (a : Answer) → AskKnown c place (record { op = op; kind = kind_wanted (record { id = 0; rest = [] }) }) → ((v b : ℕ) → a ≡ Go v b → backend_of s v ≡ b) → Bound s c (place ++ came a ∷ []) (with_choice op a p)
  choice_bound a asked backend = by a refl (row_named p op) refl
    where
      lives_on : (x : Answer) → ClientLives c (place ++ came x ∷ []) (with_choice op x p)
      lives_on x = lives_more s c place (Client u) at mark p lives (what.Chosen op x) refl

      state : ℕ → ℕ → Option ClientRow → ClientState
      state v b n = elim n [ None ↦ p | Some y ↦ with_connection v b p y ]

      by : (x : Answer) → a ≡ x → (o : Option ClientRow) → row_named p op ≡ o → Bound s c (place ++ came x ∷ []) (with_choice op x p)
      by (Go v b) e (Some r) f = of_row v b asked.within asked.unchosen (backend v b e) r f
      by (Go v b) e None f = idle (Go v b) (with_choice op (Go v b) p) (nothing (Go v b) (inl (none_live c place p op lives known.says.number f))) (ap (λ (n : Option ClientRow). (state v b n).rows) f) (ap (λ (n : Option ClientRow). (state v b n).window) f) (lives_on (Go v b))
      by Busy e o f = idle Busy p (nothing Busy (inr (λ x. refl))) refl refl (lives_on Busy)
      by Unavailable e o f = idle Unavailable p (nothing Unavailable (inr (λ x. refl))) refl refl (lives_on Unavailable)

-- A turn, of a client that isn't gone behind it.
module _ (s : Settings) (c : ℕ) (before : List Marked) (l : ClientLedger) (keeps : Keeps s c before l.state) (told : ToldKept s c before l) where
  abbrev pub Turn : List Marked → Type 0
  Turn xs = FirstFits s l xs → (l.state.gone ≡ false → Bound s c (entries before) l.state) → (behind (step_client s) l.state xs).gone ≡ false → Bound s c (entries before ++ entries xs) (behind (step_client s) l.state xs)

  abbrev turn_of : ℕ → Option Taken → List What → List Marked
  turn_of at mark ws = client_turn_of l.state.number at mark ws

  plain : (at : ℕ) (mark : Option Taken) (ws : List What) → Frees s l.state.number at l.state mark ws → list_all is_plain ws ≡ true → Turn (client_turn_of l.state.number at mark ws)
  plain at mark ws f k fit h there = plain_through s c l.state.number at ws mark (entries before) l.state keeps.lives (h (there_before s l.state (turn_of at mark ws) there)) f k

  ends : (at : ℕ) (mark : Option Taken) (ws : List What) → (behind (step_client s) l.state (client_turn_of l.state.number at mark ws)).gone ≡ true → Turn (client_turn_of l.state.number at mark ws)
  ends at mark ws k fit h there = absurd (let bad : true ≡ false = sym k ∙ there in cc)

  abbrev behind_in : ℕ → Message → ClientState
  behind_in at m = step_client s l.state (record { entry = record { part = Client l.state.number; at = at; what = what.In m.id m.rest }; mark = None })

  checked : (at : ℕ) (m : Message) (x : Check) → check_at s l.state m ≡ x → Turn (client_turn_of l.state.number at None (what.In m.id m.rest ∷ whats_by m x))
  checked at m (Ends why) e = ends at None (what.In m.id m.rest ∷ what.Out 0 protocol_error_notice ∷ what.Gone why ∷ []) (gone_last s c l.state.number at (step_client s (behind_in at m) (record { entry = record { part = Client l.state.number; at = at; what = what.Out 0 protocol_error_notice }; mark = None })) None why)
  checked at m Unbinds e = ends at None (what.In m.id m.rest ∷ what.Gone Left ∷ []) (gone_last s c l.state.number at (behind_in at m) None Left)
  checked at m (Abandons id) e = plain at None (what.In m.id m.rest ∷ []) (free_by s l.state m (ap is_end e), tt) refl
  checked at m (Refuses which) e = plain at None (what.In m.id m.rest ∷ refused m which) (free_by s l.state m (ap is_end e), refused_free s l.state.number at (behind_in at m) None m which) (refused_all is_plain (λ id rest. refl) m which)
  checked at m (Answers which) e = plain at None (what.In m.id m.rest ∷ canceled m.id (kind_of m.rest) which) (free_by s l.state m (ap is_end e), canceled_free s l.state.number at (behind_in at m) None m.id (kind_of m.rest) which) (canceled_all is_plain (λ id rest. refl) m.id (kind_of m.rest) which)
  checked at m (Cancels id kind) e = plain at None (what.In m.id m.rest ∷ what.Out id (cancel_answer kind C13) ∷ canceled m.id (kind_of m.rest) S1) (free_by s l.state m (ap is_end e), (refl, canceled_free s l.state.number at (step_client s (behind_in at m) (record { entry = record { part = Client l.state.number; at = at; what = what.Out id (cancel_answer kind C13) }; mark = None })) None m.id (kind_of m.rest) S1)) (canceled_all is_plain (λ i rest. refl) m.id (kind_of m.rest) S1)
  checked at m GoesOn e = plain at None (what.In m.id m.rest ∷ []) (free_by s l.state m (ap is_end e), tt) refl

  -- the choice that is fit is of what was asked for, and says its connection's backend
  chosen : (at : ℕ) (sender : PartName) (op : OpName) (a : Answer) → Turn (client_turn_of l.state.number at (taken sender (Choice op a)) (what.Chosen op a ∷ whats_for (row_named l.state op) a))
  chosen at sender op a fit h there =
      joined s c l.state.number at (entries before) l.state mark (what.Chosen op a) told_so
      (plain_through s c l.state.number at told_so None (entries before ++ entry s c l.state.number at (what.Chosen op a) ∷ []) next
      (one_lives s c l.state.number at (entries before) l.state mark (what.Chosen op a) keeps.lives refl)
      (stepped s c l.state.number at (entries before) l.state mark (what.Chosen op a) (choice_bound s c (entries before) l.state keeps.lives told.once told.tells.known here l.state.number at mark op a (asked_known c (entries before) l.state.asked op told.tells.known.asks.each (fit_asked s l sender op a fit)) backend))
      (frees_quiet s l.state.number at told_so None next (choice_all is_quiet (λ id rest. refl) (row_named l.state op) a))
      (choice_all is_plain (λ id rest. refl) (row_named l.state op) a))
    where
      mark : Option Taken
      mark = taken sender (Choice op a)

      told_so : List What
      told_so = whats_for (row_named l.state op) a

      next : ClientState
      next = step_client s l.state (record { entry = record { part = Client l.state.number; at = at; what = what.Chosen op a }; mark = taken sender (Choice op a) })

      here : Bound s c (entries before) l.state
      here = h (there_before s l.state (turn_of at mark (what.Chosen op a ∷ whats_for (row_named l.state op) a)) there)

      backend : (v b : ℕ) → a ≡ Go v b → backend_of s v ≡ b
      backend v b e = by (find (λ x. same_op op x.op) l.state.asked) (right (same_part sender Desk) _ (not_false (fits_client s l sender (Choice op a)) fit))
        where
          by : (o : Option AskedFor) → passes (λ x. is_right_choice s x.kind a) o ≡ true → backend_of s v ≡ b
          by None k = absurd (let bad : false ≡ true = k in cc)
          by (Some x) k = its_backend s c (entries before) l.state keeps.lives told.once told.tells.known here l.state.number at mark op x.kind v b (sym (ap (is_right_choice s x.kind) e) ∙ k)

  pub bound_cases : Cases s l.state Turn
  bound_cases =
      record {
        none = λ fit h there. subst (λ b. Bound s c b l.state) (sym (append-nil (entries before))) (h there);
        arrives = λ at fresh. plain at None (what.Arrived ∷ []) (refl, tt) refl;
        checked = λ at m e h. checked at m (check_at s l.state m) refl;
        chosen = λ at sender op a here. chosen at sender op a;
        answered = λ at sender op rest is_last who r e here. plain at (taken sender (Reply op rest is_last who)) (what.Out r.request.id rest ∷ []) (refl, tt) refl;
        failed = λ at sender op which r e here. plain at (taken sender (Failed op which)) (refused r.request which) (refused_free s l.state.number at l.state (taken sender (Failed op which)) r.request which) (refused_all is_plain (λ id rest. refl) r.request which);
        late = λ at mark op e here about. plain at mark (what.Late op ∷ []) (refl, tt) refl;
        breaks = λ at why there e n. ends at None (noticed why) (gone_last s c l.state.number at (step_client s l.state (record { entry = record { part = Client l.state.number; at = at; what = what.Out 0 protocol_error_notice }; mark = None })) None why);
        severed = λ at why here e. ends at None (what.Gone why ∷ []) (gone_last s c l.state.number at l.state None why);
        stalls = λ at here. plain at None (what.Stalled ∷ []) (refl, tt) refl;
        flows = λ at here. plain at None (what.Flowing ∷ []) (refl, tt) refl;
      }
