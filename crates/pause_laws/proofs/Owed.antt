-- A connection pauses for a client, and goes on, at most as often as the client told it.
use Rattle.std.proofs.Common.{◌≡◌, ℕ, ◌+◌, true, false, ◌&&◌, not, List, [], ◌∷◌, ◌++◌, refl, ap, ◌∙◌, arith}
use Rattle.std.specs.Prelude.{Option, Some, None, nat_le}
use Rattle.std.specs.List.{list_all}
use Rattle.std.proofs.lemmas.Bool.{le-leb}
use Rattle.lload_names.specs.declared.names.Entry.{Entry}
use Rattle.lload_names.specs.declared.names.Letter.{Letter}
use Rattle.lload_names.specs.declared.names.PartName.{PartName}
use Rattle.lload_names.specs.declared.names.PartName.TheVariants.{Client, Up as Connection}
use Rattle.lload_spec.specs.Entries.{paused_client, resumed_client}
use Rattle.lload_spec.specs.Journal.{Family}
use Rattle.lload_spec.specs.Lists.{where_there}
use Rattle.lload_spec.specs.Owed.{count_of, count_paused, count_resumed, has_paused, is_pause_owed, is_resume_owed, pauses_by, resumes_by}
use Rattle.lload_spec.specs.Pauses.{no_pause}
use Rattle.lload_spec.specs.Settings.{Settings}
use Rattle.lload_spec.proofs.Growth.{both}
use Rattle.lload_laws.proofs.ListLaws.{all_always}
use Rattle.part_spec.specs.ClientState.{ClientState, empty_client, step_client, step_clients}
use Rattle.part_spec.specs.ConnectionState.{connection_of, empty_connection}
use Rattle.part_spec.specs.Fit.{empty_connection_ledger}
use Rattle.part_spec.specs.Gives.{client_gives, client_letters, gives}
use Rattle.part_spec.specs.Marked.{Marked, entries, letters_to, taken_from}
use Rattle.part_spec.specs.Share.{ConnectionShare}
use Rattle.joined_laws.specs.Joined.{Joined}
use Rattle.joined_laws.proofs.Taken.{letters_to_both}
use Rattle.pause_laws.specs.Laws.{PausesAreOwed}
use Rattle.pause_laws.proofs.Clients.{leads}
use Rattle.pause_laws.proofs.Connections.{Took, took}
use Rattle.pause_laws.proofs.Said.{Said, said}
use Rattle.pause_laws.proofs.Signals.{Leads, begun_both, begun_in, ended_both, ended_in, told, told_both}

-- What a client's list gives a connection.
module _ (s : Settings) (c u : ℕ) where
  abbrev given : ClientState → List Marked → List Letter
  given p ms = letters_to (Connection u) (client_gives s p ms)

  abbrev first : ClientState → Marked → List Letter
  first p m = letters_to (Connection u) (client_letters s p m.entry.at m.entry.what)

  given_more : (p : ClientState) (m : Marked) (ms : List Marked) → letters_to (Connection u) (client_gives s p (m ∷ ms)) ≡ first p m ++ given (step_client s p m) ms
  given_more p m ms = letters_to_both (Connection u) (client_letters s p m.entry.at m.entry.what) (client_gives s (step_client s p m) ms)

  step : (p : ClientState) (m : Marked) → Leads (has_paused u p.pausing) (has_paused u (step_client s p m).pausing) (letters_to (Connection u) (client_letters s p m.entry.at m.entry.what))
  step p m = leads s u m.entry.at m.mark p m.entry.what

  -- the last says whether the client pauses the connection
  pub given_last : (p : ClientState) (ms : List Marked) → told (has_paused u p.pausing) (letters_to (Connection u) (client_gives s p ms)) ≡ has_paused u (step_clients s p ms).pausing
  given_last p [] = refl
  given_last p (m ∷ ms) =
      ap (told (has_paused u p.pausing)) (given_more p m ms)
      ∙ told_both (has_paused u p.pausing) (first p m) (given (step_client s p m) ms)
      ∙ ap (λ b. told b (given (step_client s p m) ms)) (step p m).last
      ∙ given_last (step_client s p m) ms

  -- a pause begins as often as the list says
  given_begun : (place : List Entry) (p : ClientState) (ms : List Marked) → Said s c place p ms → begun_in (has_paused u p.pausing) (letters_to (Connection u) (client_gives s p ms)) ≡ pauses_by c u p.pausing place (entries ms)
  given_begun place p [] h = refl
  given_begun place p (m ∷ ms) h =
      ap (begun_in (has_paused u p.pausing)) (given_more p m ms)
      ∙ begun_both (has_paused u p.pausing) (first p m) (given (step_client s p m) ms)
      ∙ ap (λ b. begun_in (has_paused u p.pausing) (first p m) + begun_in b (given (step_client s p m) ms)) (step p m).last
      ∙ ap (λ n. n + begun_in (has_paused u (step_client s p m).pausing) (given (step_client s p m) ms)) (step p m).begun
      ∙ ap (λ n. count_of (not (has_paused u p.pausing) && has_paused u (step_client s p m).pausing) + n) (given_begun (place ++ m.entry ∷ []) (step_client s p m) ms h.1)
      ∙ ap (λ q. count_of (not (has_paused u p.pausing) && has_paused u q) + pauses_by c u q (place ++ m.entry ∷ []) (entries ms)) h.0

  -- and ends as often
  given_ended : (place : List Entry) (p : ClientState) (ms : List Marked) → Said s c place p ms → ended_in (has_paused u p.pausing) (letters_to (Connection u) (client_gives s p ms)) ≡ resumes_by c u p.pausing place (entries ms)
  given_ended place p [] h = refl
  given_ended place p (m ∷ ms) h =
      ap (ended_in (has_paused u p.pausing)) (given_more p m ms)
      ∙ ended_both (has_paused u p.pausing) (first p m) (given (step_client s p m) ms)
      ∙ ap (λ b. ended_in (has_paused u p.pausing) (first p m) + ended_in b (given (step_client s p m) ms)) (step p m).last
      ∙ ap (λ n. n + ended_in (has_paused u (step_client s p m).pausing) (given (step_client s p m) ms)) (step p m).ended
      ∙ ap (λ n. count_of (has_paused u p.pausing && not (has_paused u (step_client s p m).pausing)) + n) (given_ended (place ++ m.entry ∷ []) (step_client s p m) ms h.1)
      ∙ ap (λ q. count_of (has_paused u p.pausing && not (has_paused u q)) + resumes_by c u q (place ++ m.entry ∷ []) (entries ms)) h.0

-- What a connection took of it.
module _ (s : Settings) (F : Family) (marked : PartName → List Marked) (h : Joined s F marked) (u : ℕ) where
  connection : ConnectionShare s u (marked (Connection u))
  connection = h.shared.shares (Connection u)

  abbrev given_by : ℕ → List Letter
  given_by c = letters_to (Connection u) (gives s (Client c) (marked (Client c)))

  pub taken_of : (c : ℕ) → Took c (empty_connection s u) (connection_of s u (marked (Connection u))) (taken_from (Client c) (marked (Connection u))) (entries (marked (Connection u)))
  taken_of c = took c s (empty_connection_ledger s u) [] (marked (Connection u)) connection.marks (h.fit (Connection u)) connection.passed

  begun_said : (c : ℕ) → begun_in false (letters_to (Connection u) (gives s (Client c) (marked (Client c)))) ≡ pauses_by c u no_pause [] (F.client c)
  begun_said c = given_begun s c u [] (empty_client c) (marked (Client c)) (said s c (marked (Client c)) (h.shared.shares (Client c))) ∙ ap (pauses_by c u no_pause []) (h.shared.same_entries (Client c))

  ended_said : (c : ℕ) → ended_in false (letters_to (Connection u) (gives s (Client c) (marked (Client c)))) ≡ resumes_by c u no_pause [] (F.client c)
  ended_said c = given_ended s c u [] (empty_client c) (marked (Client c)) (said s c (marked (Client c)) (h.shared.shares (Client c))) ∙ ap (resumes_by c u no_pause []) (h.shared.same_entries (Client c))

  pauses_owed : (c : ℕ) → nat_le (count_paused c (F.connection u)) (pauses_by c u no_pause [] (F.client c)) ≡ true
  pauses_owed c =
      let begun = h.linked.in_order (Client c) (Connection u) in
      let all : begun_in false (given_by c) ≡ begun_in false (taken_from (Client c) (marked (Connection u))) + begun_in (told false (taken_from (Client c) (marked (Connection u)))) begun.0 = ap (begun_in false) begun.1 ∙ begun_both false (taken_from (Client c) (marked (Connection u))) begun.0 in
      let took : begun_in false (taken_from (Client c) (marked (Connection u))) ≡ count_paused c (F.connection u) = (taken_of c).begun ∙ ap (count_paused c) (h.shared.same_entries (Connection u)) in
      let owed = begun_said c in
      le-leb (count_paused c (F.connection u)) (pauses_by c u no_pause [] (F.client c)) (omega (arith, all, took, owed))

  resumes_owed : (c : ℕ) → nat_le (count_resumed c (F.connection u)) (resumes_by c u no_pause [] (F.client c)) ≡ true
  resumes_owed c =
      let begun = h.linked.in_order (Client c) (Connection u) in
      let all : ended_in false (given_by c) ≡ ended_in false (taken_from (Client c) (marked (Connection u))) + ended_in (told false (taken_from (Client c) (marked (Connection u)))) begun.0 = ap (ended_in false) begun.1 ∙ ended_both false (taken_from (Client c) (marked (Connection u))) begun.0 in
      let took : ended_in false (taken_from (Client c) (marked (Connection u))) ≡ count_resumed c (F.connection u) = (taken_of c).ended ∙ ap (count_resumed c) (h.shared.same_entries (Connection u)) in
      let owed = ended_said c in
      le-leb (count_resumed c (F.connection u)) (resumes_by c u no_pause [] (F.client c)) (omega (arith, all, took, owed))

  at_entry : (e : Entry) → (is_pause_owed F u e && is_resume_owed F u e) ≡ true
  at_entry e = both (is_pause_owed F u e) (is_resume_owed F u e) (by_pause (paused_client e.what)) (by_resume (resumed_client e.what))
    where
      by_pause : (o : Option ℕ) → where_there (λ c. nat_le (count_paused c (F.connection u)) (pauses_by c u no_pause [] (F.client c))) o ≡ true
      by_pause None = refl
      by_pause (Some c) = pauses_owed c

      by_resume : (o : Option ℕ) → where_there (λ c. nat_le (count_resumed c (F.connection u)) (resumes_by c u no_pause [] (F.client c))) o ≡ true
      by_resume None = refl
      by_resume (Some c) = resumes_owed c

pub pauses_are_owed : PausesAreOwed
pauses_are_owed s F marked h = all_always (λ u. list_all (λ e. is_pause_owed F u e && is_resume_owed F u e) (F.connection u)) F.connections (λ u. all_always (λ e. is_pause_owed F u e && is_resume_owed F u e) (F.connection u) (at_entry s F marked h u))
