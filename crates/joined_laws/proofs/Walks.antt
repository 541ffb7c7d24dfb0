-- A client's list from turn to turn: what is known at each entry with which a turn begins.
use Rattle.std.proofs.Common.{◌≡◌, ◌⊎◌, inl, inr, ℕ, Bool, true, false, ◌==◌, ◌&&◌, List, [], ◌∷◌, ◌++◌, length, refl, ap, ◌∙◌, sym, subst}
use Rattle.std.specs.Prelude.{Option, Some, None}
use Rattle.std.specs.List.{list_all}
use Rattle.ldap_spec.specs.Bodies.{refusal}
use Rattle.ldap_spec.specs.Kinds.{kind_of}
use Rattle.ldap_spec.specs.Messages.{Message}
use Rattle.lload_names.specs.declared.names.Answer.{Answer}
use Rattle.lload_names.specs.declared.names.Answer.TheVariants.{Go, Busy, Unavailable}
use Rattle.lload_names.specs.declared.names.Entry.{Entry}
use Rattle.lload_names.specs.declared.names.OpName.{OpName}
use Rattle.lload_names.specs.declared.names.Refusal.{Refusal}
use Rattle.lload_names.specs.declared.names.Refusal.TheVariants.{C1, C3}
use Rattle.lload_names.specs.declared.names.What.{What}
use Rattle.lload_names.specs.declared.names.What.TheVariants as what
use Rattle.lload_spec.specs.Lists.{passes, first_passes, each_split_from, implies}
use Rattle.lload_spec.specs.Settings.{Settings}
use Rattle.lload_spec.specs.Journal.{same_op, same_answer}
use Rattle.lload_spec.specs.Entries.{chosen, in_message}
use Rattle.lload_spec.specs.Operations.{Operation, operations, live_operations, is_live, is_live_at}
use Rattle.lload_spec.specs.FirstCheck.{Check, Ends, Unbinds, Abandons, Refuses, Answers, Cancels, GoesOn}
use Rattle.lload_spec.specs.Caused.{is_followed_up, is_refusal_of, is_choice_told}
use Rattle.lload_spec.proofs.Growth.{left, right, both}
use Rattle.lload_laws.proofs.ListLaws.{all_both, implied, found_passes}
use Rattle.part_laws.proofs.ListLaws.{all_kept, not_both}
use Rattle.part_laws.proofs.Same.{same_answer_refl}
use Rattle.part_spec.specs.ClientState.{ClientState, ClientRow, empty_client, step_client, client_behind, check_at, row_named}
use Rattle.part_spec.specs.ClientTurn.{whats_by, whats_for, refused}
use Rattle.part_spec.specs.Marked.{Marked, entries}
use Rattle.part_spec.specs.Marks.{behind_first, step_under_way, has_client_mark, may_be_first, each_from}
use Rattle.part_spec.specs.Share.{ClientShare, each_place, is_checked}
use Rattle.client_laws.proofs.Matches.{Match, ClientLives}
use Rattle.client_laws.proofs.ClientLives.{is_free_id, lives_more}
use Rattle.client_laws.proofs.ClientTurns.{count_more, lives_ended, free_by, is_end}
use Rattle.client_laws.proofs.ClientClauses.{Says, says_more, nothing_kept}
use Rattle.joined_laws.proofs.Begun.{is_begun, is_gone_what, is_out_what, is_sort, follows, ends_in_gone, gone_is, sort_begun, sort_free, refusal_follows, followed, of_row, own_client, is_live_named, live_named}

-- what is known where a turn begins: the rows are the live operations, and the entry may be the first of a turn
pub record Begins (c : ℕ) (place : List Entry) (p : ClientState) (m : Marked) : Type 0 where
  pub lives : ClientLives c place p
  pub says : Says c place p
  pub marked : may_be_first p m.entry m.mark ≡ true

-- it is so at each of these entries that is none but the first of a turn
abbrev pub Begun : Settings → ℕ → List Entry → ClientState → List Marked → Type 0
Begun s c place p [] = Unit {0}
Begun s c place p (m ∷ ms) = (is_begun m.entry.what ≡ true → Begins c place p m) × Begun s c (place ++ m.entry ∷ []) (step_client s p m) ms

module _ (s : Settings) (c : ℕ) where
  lives_one : (place : List Entry) (p : ClientState) (m : Marked) → ClientLives c place p → is_free_id p m.entry.what ≡ true → ClientLives c (place ++ m.entry ∷ []) (step_client s p m)
  lives_one place p m h f =
      let more : ClientLives c (place ++ m.entry ∷ []) (client_behind s m.entry.at m.mark p m.entry.what) = lives_more s c place m.entry.part m.entry.at m.mark p h m.entry.what f in
      record { count = more.count; rows = more.rows; untaken = more.untaken; apart = more.apart; within = more.within }

  -- at the first entry of a turn
  module _ (place : List Entry) (p : ClientState) (ms : List Marked) (lives : ClientLives c place p) (number : p.number ≡ c) where
    abbrev told : Answer → Refusal → What → Bool
    told answer which w =
        list_all
        (λ o.
        implies (passes (λ x. same_op o.name x.op && same_answer answer x.value) (chosen w) && is_live_at o.name.client place o.name)
        (first_passes (is_refusal_of which o.request.id (kind_of o.request.rest)) (entries ms)))
        (operations c place)

    refused_so : (op : OpName) (answer : Answer) (which : Refusal) (r : ClientRow) → row_named p op ≡ Some r → told answer which (what.Chosen op answer) ≡ true → follows (refused r.request which) ms ≡ true
    refused_so op answer which r e h =
        let one = of_row (λ x. p.number == op.client && x.k == op.k) wanted p.rows (live_operations c place) r lives.rows (all_both (is_live_named c place) test (live_operations c place) (live_named c place) (all_kept test is_live (operations c place) h)) e in
        let o : Operation = one.0 in
        let match : Match r o = one.1.0 in
        let known : is_live_named c place o ≡ true = left (is_live_named c place o) _ one.1.1 in
        let names = found_passes (λ x. p.number == op.client && x.k == op.k) p.rows r e in
        let client : o.name.client ≡ c = own_client c (length (operations c place)) o (left _ (is_live_at c place o.name) known) in
        let named : same_op o.name op ≡ true = both (o.name.client == op.client) _ (ap (λ n. n == op.client) (client ∙ sym number) ∙ left (p.number == op.client) _ names) (ap (λ n. n == op.k) (sym match.k) ∙ right (p.number == op.client) _ names) in
        let live : is_live_at o.name.client place o.name ≡ true = ap (λ n. is_live_at n place o.name) client ∙ right _ (is_live_at c place o.name) known in
        subst (λ k. follows (elim k [ None ↦ [] | Some kind ↦ what.Out r.request.id (refusal kind which) ∷ [] ]) ms ≡ true) (sym match.kind)
        (refusal_follows r.request.id o.request.id which (kind_of o.request.rest) ms
        (implied (same_op o.name op && same_answer answer answer && is_live_at o.name.client place o.name) _ (right (is_live_named c place o) (test o) one.1.1)
        (both (same_op o.name op && same_answer answer answer) _ (both (same_op o.name op) _ named (same_answer_refl answer)) live)))
      where
        test : Operation → Bool
        test o =
            implies (same_op o.name op && same_answer answer answer && is_live_at o.name.client place o.name)
            (first_passes (is_refusal_of which o.request.id (kind_of o.request.rest)) (entries ms))

        wanted : Operation → Bool
        wanted o = is_live_named c place o && test o

    chosen_so : (op : OpName) (a : Answer) (o : Option ClientRow) → row_named p op ≡ o → told Busy C1 (what.Chosen op a) ≡ true → told Unavailable C3 (what.Chosen op a) ≡ true → follows (whats_for o a) ms ≡ true
    chosen_so op a None e b u = refl
    chosen_so op (Go n k) (Some r) e b u = refl
    chosen_so op Busy (Some r) e b u = refused_so op Busy C1 r e b
    chosen_so op Unavailable (Some r) e b u = refused_so op Unavailable C3 r e u

    ends_or_not : (m : Message) (k : Check) → (is_end k ≡ false) ⊎ (ends_in_gone (whats_by m k) ≡ true)
    ends_or_not m (Ends why) = inr refl
    ends_or_not m Unbinds = inl refl
    ends_or_not m (Abandons id) = inl refl
    ends_or_not m (Refuses which) = inl refl
    ends_or_not m (Answers which) = inl refl
    ends_or_not m (Cancels id its_kind) = inl refl
    ends_or_not m GoesOn = inl refl

    -- either the rows are the live operations behind it too, or the turn ends the client
    abbrev Next : What → Type 0
    Next w = ((is_free_id p w ≡ true) ⊎ (ends_in_gone (behind_first s p w) ≡ true)) × (follows (behind_first s p w) ms ≡ true)

    head_step : (w : What) → (elim (in_message w) [ None ↦ true | Some x ↦ is_followed_up x (entries ms) (check_at s p x) ]) ≡ true → told Busy C1 w ≡ true → told Unavailable C3 w ≡ true → Next w
    head_step (what.In id rest) h b u = (either_way (ends_or_not m (check_at s p m)), followed m (check_at s p m) ms h)
      where
        m : Message
        m = record { id = id; rest = rest }

        either_way : ((is_end (check_at s p m) ≡ false) ⊎ (ends_in_gone (whats_by m (check_at s p m)) ≡ true)) → (is_free_id p (what.In id rest) ≡ true) ⊎ (ends_in_gone (whats_by m (check_at s p m)) ≡ true)
        either_way (inl e) = inl (free_by s p m e)
        either_way (inr e) = inr e
    head_step (what.Chosen op a) h b u = (inl refl, chosen_so op a (row_named p op) refl b u)
    head_step _ h b u = (inl refl, refl)

  -- The walk.
  abbrev Place : List Entry → ClientState → List What → Type 0
  Place place p due = ClientLives c place p ⊎ ((p.count ≡ length (operations c place)) × (ends_in_gone due ≡ true))

  next_head : (place : List Entry) (p : ClientState) (m : Marked) (due : List What) → ClientLives c place p → (is_free_id p m.entry.what ≡ true) ⊎ (ends_in_gone due ≡ true) → Place (place ++ m.entry ∷ []) (step_client s p m) due
  next_head place p m due h (inl f) = inl (lives_one place p m h f)
  next_head place p m due h (inr g) = inr (count_more s c place m.entry m.mark p h.count, g)

  next_due : (place : List Entry) (p : ClientState) (m : Marked) (x : What) (xs : List What) → Place place p (x ∷ xs) → is_sort x m.entry.what ≡ true → Place (place ++ m.entry ∷ []) (step_client s p m) xs
  next_due place p m x xs (inl h) e = inl (lives_one place p m h (sort_free p x m.entry.what e))
  next_due place p m x [] (inr h) e =
      let gone : is_gone_what m.entry.what ≡ true = ap (λ b. elim b [ true ↦ is_gone_what m.entry.what | false ↦ is_out_what m.entry.what ]) (sym h.1) ∙ e in
      let why = gone_is m.entry.what gone in
      inl (lives_ended s c place m.entry why.0 m.mark p why.1 h.0)
  next_due place p m x (y ∷ ys) (inr h) e = inr (count_more s c place m.entry m.mark p h.0, h.1)

  walk : (place : List Entry) (b : List Marked) (p : ClientState) (due : List What) (ms : List Marked) → Place place p due → Says c place p → follows due ms ≡ true
      → each_from (step_under_way s) has_client_mark (record { state = p; due = due }) ms ≡ true
      → each_place (step_client s) (λ q before m behind. is_checked s q m behind) p b ms ≡ true
      → each_split_from (is_choice_told c Busy C1) place (entries ms) ≡ true
      → each_split_from (is_choice_told c Unavailable C3) place (entries ms) ≡ true
      → Begun s c place p ms
  walk place b p due [] at says f mk ck bu un = tt
  walk place b p [] (m ∷ ms) (inl lives) says f mk ck bu un =
      let now : Next place p ms lives says.number m.entry.what = head_step place p ms lives says.number m.entry.what (left (is_checked s p m ms) _ ck) (left (is_choice_told c Busy C1 place m.entry (entries ms)) _ bu) (left (is_choice_told c Unavailable C3 place m.entry (entries ms)) _ un) in (
        λ i. record { lives = lives; says = says; marked = left (may_be_first p m.entry m.mark) _ mk },
        walk (place ++ m.entry ∷ []) (b ++ m ∷ []) (step_client s p m) (behind_first s p m.entry.what) ms (next_head place p m (behind_first s p m.entry.what) lives now.0) (says_more s c place p m says) now.1 (right (may_be_first p m.entry m.mark) _ mk) (right (is_checked s p m ms) _ ck) (right (is_choice_told c Busy C1 place m.entry (entries ms)) _ bu) (right (is_choice_told c Unavailable C3 place m.entry (entries ms)) _ un),
      )
  walk place b p [] (m ∷ ms) (inr k) says f mk ck bu un = absurd (let bad : false ≡ true = k.1 in cc)
  walk place b p (x ∷ xs) (m ∷ ms) at says f mk ck bu un =
      let sort : is_sort x m.entry.what ≡ true = left (is_sort x m.entry.what) _ f in (
        λ i. not_both (is_begun m.entry.what) i (sort_begun x m.entry.what sort),
        walk (place ++ m.entry ∷ []) (b ++ m ∷ []) (step_client s p m) xs ms (next_due place p m x xs at sort) (says_more s c place p m says) (right (is_sort x m.entry.what) _ f) (right (has_client_mark (record { state = p; due = x ∷ xs }) m) _ mk) (right (is_checked s p m ms) _ ck) (right (is_choice_told c Busy C1 place m.entry (entries ms)) _ bu) (right (is_choice_told c Unavailable C3 place m.entry (entries ms)) _ un),
      )

  pub begun : (list : List Marked) → ClientShare s c list → Begun s c [] (empty_client c) list
  begun list h = walk [] [] (empty_client c) [] list (inl (nothing_kept s c).lives) (nothing_kept s c).says refl h.marks h.checks h.busy h.unavailable
