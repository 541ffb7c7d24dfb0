-- What the desk hears was told: of a connection its state, and of an operation that it ended there, or was returned.
use Rattle.std.proofs.Common.{◌≡◌, ◌⊎◌, inl, inr, ℕ, Bool, true, false, ◌&&◌, not, List, [], ◌∷◌, ◌++◌, refl, subst}
use Rattle.std.specs.Prelude.{Option, Some, None}
use Rattle.std.specs.List.{list_any}
use Rattle.lload_names.specs.declared.names.ConnKind.TheVariants.{Bind as BindKind}
use Rattle.lload_names.specs.declared.names.Entry.{Entry}
use Rattle.lload_names.specs.declared.names.Letter.{Letter}
use Rattle.lload_names.specs.declared.names.Letter.TheVariants.{Ended, IsDown, IsRetired, IsUp, Returned}
use Rattle.lload_names.specs.declared.names.OpName.{OpName}
use Rattle.lload_names.specs.declared.names.PartName.{PartName}
use Rattle.lload_names.specs.declared.names.PartName.TheVariants.{Client, Desk, Up as Connection}
use Rattle.lload_spec.specs.Answers.{sendings}
use Rattle.lload_spec.specs.Entries.{heard, is_of_desk}
use Rattle.lload_spec.specs.Journal.{Family}
use Rattle.lload_spec.specs.Lists.{each_split_from, implies, some_entry, some_split_from, where_there}
use Rattle.lload_spec.specs.Over.{from_sent, is_over_at}
use Rattle.lload_spec.specs.Settings.{Settings, is_of_kind}
use Rattle.lload_spec.specs.Strict.{has_place_in_desk, is_ask_due, is_go_of, is_heard_told, is_late_choice, is_told}
use Rattle.lload_spec.proofs.Growth.{left, right, both}
use Rattle.part_laws.proofs.ListLaws.{splits_both}
use Rattle.part_spec.specs.ClientState.{empty_client}
use Rattle.part_spec.specs.ConnectionState.{empty_connection}
use Rattle.part_spec.specs.Fit.{empty_connection_ledger}
use Rattle.part_spec.specs.Laws.{FitIsWhole}
use Rattle.part_spec.specs.Marked.{Marked, entries}
use Rattle.part_spec.specs.Share.{DeskShare}
use Rattle.joined_laws.specs.Joined.{JoinedLaw, is_state_told, tells_state}
use Rattle.joined_laws.proofs.Choices.{split_right}
use Rattle.joined_laws.proofs.Walks.{begun}
use Rattle.carried_laws.specs.Laws.{ForwardsAreRight, Played}
use Rattle.caused_laws.specs.Laws.{BindConnectionsSay}
use Rattle.window_laws.specs.Laws.{AsksRightly}
use Rattle.upstream_laws.proofs.Ends.{nothing_here}
use Rattle.upstream_laws.proofs.Heads.{bind_heads}
use Rattle.upstream_laws.proofs.Places.{by_kind}
use Rattle.open_laws.proofs.Passed.{at_splits}
use Rattle.ended_laws.specs.Laws.{DeskLives}
use Rattle.ended_laws.proofs.BindOver.{BindTold, bind_over}
use Rattle.ended_laws.proofs.BindTold.{bind_told}
use Rattle.ended_laws.proofs.ClientReturns.{client_returned}
use Rattle.ended_laws.proofs.Heard.{each_heard, given_so, gone_to}
use Rattle.ended_laws.proofs.Latencies.{none_given, once, regular_so, share}
use Rattle.ended_laws.proofs.RegularTold.{told_over}

-- what passes one test at each split passes another, where this follows
splits_follow : (t q : List Entry → Entry → List Entry → Bool) (before es : List Entry) → ((b : List Entry) (e : Entry) (r : List Entry) → t b e r ≡ true → q b e r ≡ true) → each_split_from t before es ≡ true → each_split_from q before es ≡ true
splits_follow t q before [] f h = refl
splits_follow t q before (e ∷ es) f h = both (q before e es) _ (f before e es (left (t before e es) _ h)) (splits_follow t q (before ++ e ∷ []) es f (right (t before e es) _ h))

-- whether what an entry says was heard of an operation was told
abbrev is_end_told : Settings → Family → List Entry → Entry → Bool
is_end_told s F place e = where_there (λ x. implies (not (tells_state x)) (is_told s F place x)) (heard e.what)

both_told : (s : Settings) (F : Family) (place : List Entry) (e : Entry) → (is_state_told s F place e && is_end_told s F place e) ≡ true → is_heard_told s F place e ≡ true
both_told s F place e h = by (heard e.what) (left (is_state_told s F place e) _ h) (right (is_state_told s F place e) _ h)
  where
    one : (a b : Bool) → implies a b ≡ true → implies (not a) b ≡ true → b ≡ true
    one true b i j = i
    one false b i j = j

    by : (o : Option Letter) → where_there (λ x. implies (tells_state x) (is_told s F place x)) o ≡ true → where_there (λ x. implies (not (tells_state x)) (is_told s F place x)) o ≡ true → where_there (is_told s F place) o ≡ true
    by None i j = refl
    by (Some x) i j = one (tells_state x) (is_told s F place x) i j

module _ (rightly : ForwardsAreRight) (whole : FitIsWhole) (says : BindConnectionsSay) (s : Settings) (F : Family) (marked : PartName → List Marked) (h : Played s F marked) where
  -- what ended at a bind connection is over there
  bind_so : (op : OpName) (u : ℕ) (told : Option ℕ) → (kind : is_of_kind s BindKind u ≡ true) → given_so s marked (Ended op u told) ≡ true → BindTold s F u (F.connection u) op told
  bind_so op u told kind k = subst (λ es. BindTold s F u es op told) (h.joined.shared.same_entries (Connection u)) (bind_told s F u kind op told (marked (Connection u)) [] (empty_connection_ledger s u) (bind_heads says s F marked h u kind) (nothing_here s F u kind) (λ n e. absurd (none_held n e)) (h.joined.fit (Connection u)) (share s F marked h u).marks (share s F marked h u).sent_once (share s F marked h u).life (says s F marked h u kind).told (share s F marked h u).expired (share s F marked h u).missed k)
    where
      none_held : (n : OpName) → ((empty_connection s u).holder ≡ Some n) ⊎ ((empty_connection s u).lost ≡ Some n) → ⊥
      none_held n (inl e) = absurd (let bad : None ≡ Some n = e in cc)
      none_held n (inr e) = absurd (let bad : None ≡ Some n = e in cc)

  ended_over : (op : OpName) (u : ℕ) (told : Option ℕ) → given_so s marked (Ended op u told) ≡ true → is_over_at s F op u (from_sent op (sendings u (F.connection u))) ≡ true
  ended_over op u told k = by_kind s u
      (λ kind. told_over s F u kind op told (once s F marked h u) (regular_so s F marked h rightly whole op u told kind k))
      (λ kind. bind_over s F u kind op (bind_so op u told kind k).over)
      (λ e. absurd (let bad : false ≡ true = none_given s F marked h op u told e k in cc))

  returned_late : (op : OpName) (u : ℕ) → given_so s marked (Returned op u) ≡ true → some_entry (is_late_choice op u) (F.client op.client) ≡ true
  returned_late op u k = subst (λ es. some_split_from (λ b e behind. is_late_choice op u b e) [] es ≡ true) (h.joined.shared.same_entries (Client op.client)) (client_returned s op u [] (empty_client op.client) (marked (Client op.client)) (begun s op.client (marked (Client op.client)) (h.joined.shared.shares (Client op.client))) k)

  -- a letter that was given, where the connection was chosen before
  letter_told : (place : List Entry) (x : Letter) → given_so s marked x ≡ true → gone_to place x ≡ true → implies (not (tells_state x)) (is_told s F place x) ≡ true
  letter_told place (Ended op u told) k g = both (list_any (is_go_of op u) place) _ g (ended_over op u told k)
  letter_told place (Returned op u) k g = both (list_any (is_go_of op u) place) _ g (returned_late op u k)
  letter_told place (IsUp u) k g = refl
  letter_told place (IsRetired u) k g = refl
  letter_told place (IsDown u) k g = refl
  letter_told place _ k g = absurd (let bad : false ≡ true = g in cc)

  entry_told : (place : List Entry) (e : Entry) → ((x : Letter) → heard e.what ≡ Some x → (given_so s marked x ≡ true) × (gone_to place x ≡ true)) → is_end_told s F place e ≡ true
  entry_told place e f = by (heard e.what) refl
    where
      by : (o : Option Letter) → heard e.what ≡ o → where_there (λ x. implies (not (tells_state x)) (is_told s F place x)) o ≡ true
      by None i = refl
      by (Some x) i = letter_told place x (f x i).0 (f x i).1

  module _ (joined : JoinedLaw) (asks : AsksRightly) where
    share_desk : DeskShare s (marked Desk)
    share_desk = h.joined.shared.shares Desk

    placed : each_split_from (λ b (e : Entry) behind. has_place_in_desk b e) [] F.desk ≡ true
    placed = subst (λ es. each_split_from (λ b (e : Entry) behind. has_place_in_desk b e) [] es ≡ true) (h.joined.shared.same_entries Desk) (split_right (λ b (e : Entry) behind. is_of_desk e.what) (λ b (e : Entry) behind. has_place_in_desk b e) [] (entries (marked Desk)) share_desk.life)

    due : each_split_from (λ b (e : Entry) behind. is_ask_due s F e) [] F.desk ≡ true
    due = at_splits (is_ask_due s F) [] F.desk (asks s F marked h).due

    told : each_split_from (λ b (e : Entry) behind. is_heard_told s F b e) [] F.desk ≡ true
    told = splits_follow (λ b e behind. is_state_told s F b e && is_end_told s F b e) (λ b e behind. is_heard_told s F b e) [] F.desk (λ b e r k. both_told s F b e k) (splits_both (λ b e behind. is_state_told s F b e) (λ b e behind. is_end_told s F b e) [] F.desk (joined s F marked h.joined).states_told (each_heard s F marked h.joined (is_end_told s F) entry_told))

    desk_lives_so : each_split_from (λ b (e : Entry) behind. has_place_in_desk b e && is_ask_due s F e && is_heard_told s F b e) [] F.desk ≡ true
    desk_lives_so = splits_both (λ b (e : Entry) behind. has_place_in_desk b e && is_ask_due s F e) (λ b (e : Entry) behind. is_heard_told s F b e) [] F.desk (splits_both (λ b (e : Entry) behind. has_place_in_desk b e) (λ b (e : Entry) behind. is_ask_due s F e) [] F.desk placed due) told

pub desk_lives : ForwardsAreRight → FitIsWhole → BindConnectionsSay → JoinedLaw → AsksRightly → DeskLives
desk_lives rightly whole says joined asks s F marked h = desk_lives_so rightly whole says s F marked h joined asks
