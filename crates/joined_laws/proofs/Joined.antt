-- Each clause, put together from the shares of the parts, the links between them, and that each letter was fit.
use Rattle.std.proofs.Common.{◌≡◌, ℕ, Bool, true, false, ◌&&◌, ◌||◌, not, List, [], ◌∷◌, refl, ap, ◌∙◌, subst}
use Rattle.std.specs.List.{list_any, list_all}
use Rattle.lload_names.specs.declared.names.Entry.{Entry}
use Rattle.lload_names.specs.declared.names.PartName.{PartName}
use Rattle.lload_names.specs.declared.names.PartName.TheVariants.{Desk, Client, Up as Connection}
use Rattle.lload_names.specs.declared.names.What.{What}
use Rattle.lload_names.specs.declared.names.What.TheVariants as what
use Rattle.lload_spec.specs.Lists.{passes, each_entry, each_split}
use Rattle.lload_spec.specs.Settings.{Settings}
use Rattle.lload_spec.specs.Journal.{Family}
use Rattle.lload_spec.specs.Entries.{is_of_client, is_of_desk, is_of_connection, out_message, sent_message}
use Rattle.lload_spec.specs.Fifo.{is_out_entry, is_sent_entry, has_outs_and_sents_in_place}
use Rattle.lload_spec.specs.Caused.{each_entry_placed}
use Rattle.lload_spec.specs.Strict.{is_missed_once, has_place_in_client, is_chosen_by_desk}
use Rattle.lload_spec.proofs.Growth.{left, right, both}
use Rattle.lload_laws.proofs.ListLaws.{all_always}
use Rattle.part_spec.specs.ClientState.{empty_client}
use Rattle.part_spec.specs.Fit.{empty_client_ledger}
use Rattle.part_spec.specs.Marked.{Marked, entries}
use Rattle.part_spec.specs.Share.{ClientShare, ConnectionShare, DeskShare}
use Rattle.part_spec.specs.Marks.{has_desk_mark}
use Rattle.joined_laws.proofs.Heard.{states_told}
use Rattle.promise_laws.specs.OneList.{OneListLaw}
use Rattle.joined_laws.specs.Joined.{Joined, JoinedLaw}
use Rattle.joined_laws.proofs.Choices.{choices_marked, choices_given, split_right}
use Rattle.joined_laws.proofs.Walks.{Begun, begun}
use Rattle.joined_laws.proofs.Missed.{missed_once}

module _ (s : Settings) (F : Family) (marked : PartName → List Marked) (h : Joined s F marked) where
  connection : (u : ℕ) → ConnectionShare s u (marked (Connection u))
  connection u = h.shared.shares (Connection u)

  missed_so : (u : ℕ) → each_entry is_missed_once (F.connection u) ≡ true
  missed_so u = subst (λ l. each_entry is_missed_once l ≡ true) (h.shared.same_entries (Connection u)) (missed_once s u (marked (Connection u)) (connection u).marks (h.fit (Connection u)))

  client : (c : ℕ) → ClientShare s c (marked (Client c))
  client c = h.shared.shares (Client c)

  desk_marks : list_all has_desk_mark (marked Desk) ≡ true
  desk_marks = desk.marks
    where
      desk : DeskShare s (marked Desk)
      desk = h.shared.shares Desk

  begun_so : (c : ℕ) → Begun s c [] (empty_client c) (marked (Client c))
  begun_so c = begun s c (marked (Client c)) (client c)

  lives_so : (c : ℕ) → (each_split (has_place_in_client s c) (F.client c) && list_all (is_chosen_by_desk F) (F.client c)) ≡ true
  lives_so c =
      subst (λ l. (each_split (has_place_in_client s c) l && list_all (is_chosen_by_desk F) l) ≡ true) (h.shared.same_entries (Client c))
      (both (each_split (has_place_in_client s c) (entries (marked (Client c)))) _
      (split_right (λ place (e : Entry) behind. is_of_client e.what) (has_place_in_client s c) [] (entries (marked (Client c))) (client c).life)
      (choices_given s F marked c h.linked (h.shared.same_entries Desk) (choices_marked s c [] (empty_client_ledger c) (marked (Client c)) (begun_so c) (h.fit (Client c)))))

-- Outs and Sents stand in lists of their sort.

none_of : {A : Type 0} (q t : A → Bool) (xs : List A) → ((x : A) → q x ≡ true → t x ≡ false) → list_all q xs ≡ true → list_any t xs ≡ false
none_of q t [] f h = refl
none_of q t (x ∷ xs) f h = ap (λ b. b || list_any t xs) (f x (left (q x) _ h)) ∙ none_of q t xs f (right (q x) _ h)

desk_quiet : (w : What) → is_of_desk w ≡ true → (passes (λ _. true) (out_message w) || passes (λ _. true) (sent_message w)) ≡ false
desk_quiet (what.Out id rest) h = absurd (let bad : false ≡ true = h in cc)
desk_quiet (what.Sent id op rest) h = absurd (let bad : false ≡ true = h in cc)
desk_quiet _ h = refl

client_quiet : (w : What) → is_of_client w ≡ true → passes (λ _. true) (sent_message w) ≡ false
client_quiet (what.Sent id op rest) h = absurd (let bad : false ≡ true = h in cc)
client_quiet _ h = refl

connection_quiet : (w : What) → is_of_connection w ≡ true → passes (λ _. true) (out_message w) ≡ false
connection_quiet (what.Out id rest) h = absurd (let bad : false ≡ true = h in cc)
connection_quiet _ h = refl

in_place_so : (F : Family) → each_entry_placed F ≡ true → has_outs_and_sents_in_place F ≡ true
in_place_so F h =
    let first : (list_all (λ (e : Entry). is_of_desk e.what) F.desk && list_all (λ c. list_all (λ (e : Entry). is_of_client e.what) (F.client c)) F.clients) ≡ true = left (list_all (λ (e : Entry). is_of_desk e.what) F.desk && list_all (λ c. list_all (λ (e : Entry). is_of_client e.what) (F.client c)) F.clients) _ h in
    both (not (list_any (λ (e : Entry). is_out_entry e || is_sent_entry e) F.desk) && not (list_any (λ c. list_any is_sent_entry (F.client c)) F.clients)) (not (list_any (λ u. list_any is_out_entry (F.connection u)) F.connections))
    (both (not (list_any (λ (e : Entry). is_out_entry e || is_sent_entry e) F.desk)) (not (list_any (λ c. list_any is_sent_entry (F.client c)) F.clients))
    (ap not (none_of (λ (e : Entry). is_of_desk e.what) (λ (e : Entry). is_out_entry e || is_sent_entry e) F.desk (λ e k. desk_quiet e.what k) (left (list_all (λ (e : Entry). is_of_desk e.what) F.desk) _ first)))
    (ap not (none_of (λ c. list_all (λ (e : Entry). is_of_client e.what) (F.client c)) (λ c. list_any is_sent_entry (F.client c)) F.clients (λ c k. none_of (λ (e : Entry). is_of_client e.what) is_sent_entry (F.client c) (λ e j. client_quiet e.what j) k) (right (list_all (λ (e : Entry). is_of_desk e.what) F.desk) _ first))))
    (ap not (none_of (λ u. list_all (λ (e : Entry). is_of_connection e.what) (F.connection u)) (λ u. list_any is_out_entry (F.connection u)) F.connections (λ u k. none_of (λ (e : Entry). is_of_connection e.what) is_out_entry (F.connection u) (λ e j. connection_quiet e.what j) k) (right (list_all (λ (e : Entry). is_of_desk e.what) F.desk && list_all (λ c. list_all (λ (e : Entry). is_of_client e.what) (F.client c)) F.clients) _ h)))

pub joined : OneListLaw → JoinedLaw
joined one_list s F marked h =
    record {
      in_place = in_place_so F (one_list s F marked h.shared).entries_placed;
      clients_live = all_always (λ c. each_split (has_place_in_client s c) (F.client c) && list_all (is_chosen_by_desk F) (F.client c)) F.clients (lives_so s F marked h);
      missed_once = all_always (λ u. each_entry is_missed_once (F.connection u)) F.connections (missed_so s F marked h);
      states_told = states_told s F marked h.linked (desk_marks s F marked h) (h.fit Desk);
    }
