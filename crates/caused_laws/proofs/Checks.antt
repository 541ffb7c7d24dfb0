-- What a client's share says of checks and of the client's end, by its state, holds by the family.
use Rattle.std.proofs.Common.{◌≡◌, ℕ, Bool, true, ◌==◌, ◌&&◌, ◌||◌, List, [], ◌∷◌, ◌++◌, length, refl, ap, ◌∙◌, sym, subst, append_assoc}
use Rattle.std.specs.Prelude.{Option, Some, None, is_some, take}
use Rattle.std.proofs.lemmas.List.{map-append}
use Rattle.ldap_spec.specs.Messages.{Message}
use Rattle.lload_names.specs.declared.names.EndWhy.{EndWhy}
use Rattle.lload_names.specs.declared.names.Entry.{Entry}
use Rattle.lload_names.specs.declared.names.PartName.{PartName}
use Rattle.lload_names.specs.declared.names.PartName.TheVariants.{Client}
use Rattle.lload_spec.specs.Caused.{ends_for, is_checked, is_ended_by_check, is_followed_up, is_gone_cause, is_gone_caused}
use Rattle.lload_spec.specs.Entries.{gone_why, in_message, is_notice}
use Rattle.lload_spec.specs.FirstCheck.{Check, check, first_check}
use Rattle.lload_spec.specs.Journal.{Family}
use Rattle.lload_spec.specs.Lists.{each_split_from, first_passes, passes, some_split_from, where_there}
use Rattle.lload_spec.specs.Settings.{Settings}
use Rattle.lload_spec.proofs.Growth.{left, right, both}
use Rattle.lload_laws.proofs.ListLaws.{all_always}
use Rattle.part_spec.specs.ClientState.{ClientState, empty_client, step_client, client_of, check_at}
use Rattle.part_spec.specs.Marked.{Marked, entries}
use Rattle.part_spec.specs.Share.{ClientShare, check_in, each_place, is_checked as is_checked_by_list, is_gone_caused as is_gone_by_list}
use Rattle.carried_laws.specs.Laws.{Played}
use Rattle.identity_laws.proofs.Ins.{steps_push}
use Rattle.identity_laws.specs.Laws.{ClientsAreKnown}
use Rattle.identity_laws.proofs.Checks.{take_before}
use Rattle.caused_laws.specs.Laws.{CausedByChecks}

module _ (known : ClientsAreKnown) (s : Settings) (F : Family) (marked : PartName → List Marked) (h : Played s F marked) (c : ℕ) where
  share : ClientShare s c (marked (Client c))
  share = h.joined.shared.shares (Client c)

  push_entry : (before : List Marked) (m : Marked) → entries (before ++ m ∷ []) ≡ entries before ++ m.entry ∷ []
  push_entry before m = map-append (λ (x : Marked). x.entry) before (m ∷ [])

  -- the check of a message at a place, by the state and by the family
  check_so : (before : List Marked) (m : Marked) (ms : List Marked) → marked (Client c) ≡ before ++ m ∷ ms → is_some (in_message m.entry.what) ≡ true → (x : Message) → check_at s (client_of s c before) x ≡ first_check s F c (entries before) x
  check_so before m ms e k x = ap (λ f. check s f x) (known s F marked h c before m ms e k)

  -- Checks.

  one_checked : (before : List Marked) (m : Marked) (ms : List Marked) → marked (Client c) ≡ before ++ m ∷ ms → is_checked_by_list s (client_of s c before) m ms ≡ true → is_checked s F c (entries before) m.entry (entries ms) ≡ true
  one_checked before m ms e k = by (in_message m.entry.what) refl k
    where
      by : (o : Option Message) → in_message m.entry.what ≡ o → (elim o [ None ↦ true | Some x ↦ is_followed_up x (entries ms) (check_at s (client_of s c before) x) ]) ≡ true → where_there (λ x. is_followed_up x (entries ms) (first_check s F c (entries before) x)) o ≡ true
      by None z j = refl
      by (Some x) z j = ap (is_followed_up x (entries ms)) (sym (check_so before m ms e (ap is_some z) x)) ∙ j

  checked_from : (before ms : List Marked) → marked (Client c) ≡ before ++ ms → each_place (step_client s) (λ p b m behind. is_checked_by_list s p m behind) (client_of s c before) before ms ≡ true → each_split_from (is_checked s F c) (entries before) (entries ms) ≡ true
  checked_from before [] e k = refl
  checked_from before (m ∷ ms) e k =
      both (is_checked s F c (entries before) m.entry (entries ms)) _ (one_checked before m ms e (left (is_checked_by_list s (client_of s c before) m ms) _ k))
      (subst (λ l. each_split_from (is_checked s F c) l (entries ms) ≡ true) (push_entry before m)
      (checked_from (before ++ m ∷ []) ms (e ∙ sym (append_assoc before (m ∷ []) ms))
      (subst (λ p. each_place (step_client s) (λ q b x behind. is_checked_by_list s q x behind) p (before ++ m ∷ []) ms ≡ true) (sym (steps_push s (empty_client c) before m)) (right (is_checked_by_list s (client_of s c before) m ms) _ k))))

  -- The end of a client.

  abbrev ends_at : EndWhy → (List Entry → Message → Check) → List Entry → Entry → List Entry → Bool
  ends_at why found place e behind = passes (λ m. ends_for why (found place m)) (in_message e.what) && (length behind == 1 && first_passes is_notice behind)

  -- the checks before a place
  ended_from : (why : EndWhy) (before b ms more : List Marked) → before ≡ b ++ ms → marked (Client c) ≡ before ++ more → some_split_from (ends_at why (check_in s c before)) (entries b) (entries ms) ≡ some_split_from (ends_at why (first_check s F c)) (entries b) (entries ms)
  ended_from why before b [] more z e = refl
  ended_from why before b (m ∷ ms) more z e =
      ap (λ t. t && (length (entries ms) == 1 && first_passes is_notice (entries ms)) || some_split_from (ends_at why (check_in s c before)) (entries b ++ m.entry ∷ []) (entries ms)) (by (in_message m.entry.what) refl)
      ∙ ap (λ t. ends_at why (first_check s F c) (entries b) m.entry (entries ms) || t) (subst (λ l. some_split_from (ends_at why (check_in s c before)) l (entries ms) ≡ some_split_from (ends_at why (first_check s F c)) l (entries ms)) (push_entry b m) (ended_from why before (b ++ m ∷ []) ms more (z ∙ sym (append_assoc b (m ∷ []) ms)) e))
    where
      there : marked (Client c) ≡ b ++ m ∷ (ms ++ more)
      there = e ∙ ap (λ l. l ++ more) z ∙ append_assoc b (m ∷ ms) more

      by : (o : Option Message) → in_message m.entry.what ≡ o → passes (λ x. ends_for why (check_in s c before (entries b) x)) o ≡ passes (λ x. ends_for why (first_check s F c (entries b) x)) o
      by None k = refl
      by (Some x) k = ap (λ l. ends_for why (check_at s (client_of s c (take (length (entries b)) l)) x)) z ∙ ap (λ l. ends_for why (check_at s (client_of s c l) x)) (take_before b (m ∷ ms)) ∙ ap (ends_for why) (check_so b m (ms ++ more) there (ap is_some k) x)

  one_gone : (before : List Marked) (m : Marked) (ms : List Marked) → marked (Client c) ≡ before ++ m ∷ ms → is_gone_by_list s c before m ≡ true → is_gone_caused s F c (entries before) m.entry ≡ true
  one_gone before m ms e k = by (gone_why m.entry.what) k
    where
      by : (o : Option EndWhy) → (elim o [ None ↦ true | Some why ↦ is_gone_cause (is_ended_by_check (check_in s c before) (entries before)) (entries before) why ]) ≡ true → where_there (λ why. is_gone_cause (is_ended_by_check (first_check s F c) (entries before)) (entries before) why) o ≡ true
      by None j = refl
      by (Some why) j = sym (ap (λ (f : EndWhy → Bool). is_gone_cause f (entries before) why) (λ i w. ended_from w before [] before (m ∷ ms) refl e i)) ∙ j

  gone_from : (before ms : List Marked) → marked (Client c) ≡ before ++ ms → each_split_from (λ b x behind. is_gone_by_list s c b x) before ms ≡ true → each_split_from (λ b x behind. is_gone_caused s F c b x) (entries before) (entries ms) ≡ true
  gone_from before [] e k = refl
  gone_from before (m ∷ ms) e k =
      both (is_gone_caused s F c (entries before) m.entry) _ (one_gone before m ms e (left (is_gone_by_list s c before m) _ k))
      (subst (λ l. each_split_from (λ b x behind. is_gone_caused s F c b x) l (entries ms) ≡ true) (push_entry before m)
      (gone_from (before ++ m ∷ []) ms (e ∙ sym (append_assoc before (m ∷ []) ms)) (right (is_gone_by_list s c before m) _ k)))

  checked : each_split_from (is_checked s F c) [] (F.client c) ≡ true
  checked = subst (λ l. each_split_from (is_checked s F c) [] l ≡ true) (h.joined.shared.same_entries (Client c)) (checked_from [] (marked (Client c)) refl share.checks)

  gone : each_split_from (λ b x behind. is_gone_caused s F c b x) [] (F.client c) ≡ true
  gone = subst (λ l. each_split_from (λ b x behind. is_gone_caused s F c b x) [] l ≡ true) (h.joined.shared.same_entries (Client c)) (gone_from [] (marked (Client c)) refl share.gone)

pub caused_by_checks : ClientsAreKnown → CausedByChecks
caused_by_checks known s F marked h =
    record {
      checks = all_always (λ c. each_split_from (is_checked s F c) [] (F.client c)) F.clients (checked known s F marked h);
      gone = all_always (λ c. each_split_from (λ b x behind. is_gone_caused s F c b x) [] (F.client c)) F.clients (gone known s F marked h);
    }
