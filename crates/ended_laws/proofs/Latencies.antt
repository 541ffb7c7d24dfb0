-- The desk hears the right latencies.
use Rattle.std.proofs.Common.{◌≡◌, ℕ, Bool, true, false, List, [], ◌∷◌, ◌++◌, refl, ap, ◌∙◌, sym, subst}
use Rattle.std.specs.Prelude.{Option, Some, None, if◌then◌else◌}
use Rattle.std.specs.List.{list_all, list_any}
use Rattle.lload_names.specs.Same.{same_latency, same_letter}
use Rattle.lload_names.specs.declared.names.ConnKind.TheVariants.{Bind as BindKind, Regular}
use Rattle.lload_names.specs.declared.names.Entry.{Entry}
use Rattle.lload_names.specs.declared.names.Letter.{Letter}
use Rattle.lload_names.specs.declared.names.Letter.TheVariants.{Ended}
use Rattle.lload_names.specs.declared.names.OpName.{OpName}
use Rattle.lload_names.specs.declared.names.PartName.{PartName}
use Rattle.lload_names.specs.declared.names.PartName.TheVariants.{Desk, Up as Connection}
use Rattle.lload_spec.specs.Answers.{sendings}
use Rattle.lload_spec.specs.Entries.{heard}
use Rattle.lload_spec.specs.Journal.{Family}
use Rattle.lload_spec.specs.Lists.{each_split_from, where_there}
use Rattle.lload_spec.specs.Over.{from_sent}
use Rattle.lload_spec.specs.Owed.{latency_at, latency_since}
use Rattle.lload_spec.specs.Settings.{Settings, is_kind, is_of_kind, place_at}
use Rattle.lload_spec.specs.Strict.{has_right_latency, is_latency_right}
use Rattle.lload_spec.proofs.Growth.{left, right, both}
use Rattle.part_spec.specs.ConnectionState.{empty_connection}
use Rattle.part_spec.specs.Fit.{empty_connection_ledger}
use Rattle.part_spec.specs.Gives.{gives}
use Rattle.part_spec.specs.Laws.{FitIsWhole}
use Rattle.part_spec.specs.Marked.{Marked, letters_to}
use Rattle.part_spec.specs.Share.{ConnectionShare}
use Rattle.carried_laws.specs.Laws.{ForwardsAreRight, Played}
use Rattle.rows_laws.proofs.Regular.{known_at_each}
use Rattle.upstream_laws.proofs.Places.{by_kind, placeless, regular_alone}
use Rattle.open_laws.proofs.Alone.{Once}
use Rattle.ended_laws.specs.Laws.{LatenciesAreRight}
use Rattle.ended_laws.proofs.BindLetters.{bind_tells_none}
use Rattle.ended_laws.proofs.Heard.{each_heard, given_so}
use Rattle.ended_laws.proofs.RegularEnds.{Told}
use Rattle.ended_laws.proofs.RegularTold.{once_whole, regular_told, told_latency}

-- a test of each entry alone
splits_all : (t : Entry → Bool) (before es : List Entry) → each_split_from (λ b e behind. t e) before es ≡ true → list_all t es ≡ true
splits_all t before [] h = refl
splits_all t before (e ∷ es) h = both (t e) _ (left (t e) _ h) (splits_all t (before ++ e ∷ []) es (right (t e) _ h))

module _ (s : Settings) (F : Family) (marked : PartName → List Marked) (h : Played s F marked) where
  pub share : (u : ℕ) → ConnectionShare s u (marked (Connection u))
  share u = h.joined.shared.shares (Connection u)

  pub once : (u : ℕ) → Once u (F.connection u)
  once u = subst (Once u) (h.joined.shared.same_entries (Connection u)) (once_whole s u (marked (Connection u)) [] (empty_connection s u) (share u).sent_once tt)

  abbrev Given : OpName → ℕ → Option ℕ → Type 0
  Given op u told = list_any (same_letter (Ended op u told)) (letters_to Desk (gives s (Connection u) (marked (Connection u)))) ≡ true

  pub regular_so : ForwardsAreRight → FitIsWhole → (op : OpName) (u : ℕ) (told : Option ℕ) → is_of_kind s Regular u ≡ true → Given op u told → Told s F u (F.connection u) op told
  regular_so rightly whole op u told kind k = subst (λ es. Told s F u es op told) (h.joined.shared.same_entries (Connection u)) (regular_told s F u op told (marked (Connection u)) [] (empty_connection_ledger s u) (known_at_each rightly whole s F marked h u kind) (ap (λ b. is_kind BindKind (if b then BindKind else Regular)) (regular_alone s u kind)) refl (share u).marks (share u).ids_right (share u).expired (h.joined.fit (Connection u)) (share u).missed k)

  -- a connection without a place gives nothing
  pub none_given : (op : OpName) (u : ℕ) (told : Option ℕ) → place_at s u ≡ None → Given op u told → false ≡ true
  none_given op u told e k = subst (λ l. list_any (same_letter (Ended op u told)) (letters_to Desk (gives s (Connection u) l)) ≡ true) (sym (h.connections u).same ∙ placeless s u e (h.connections u).events) k

  module _ (rightly : ForwardsAreRight) (whole : FitIsWhole) where
    ended_right : (op : OpName) (u : ℕ) (told : Option ℕ) → Given op u told → same_latency told (latency_at s F u op) ≡ true
    ended_right op u told k = by_kind s u
        (λ kind. told_latency s F u kind op told (once u) (regular_so rightly whole op u told kind k))
        (λ kind. ap (λ b. same_latency told (text b)) kind ∙ ap (λ t. same_latency t None) (bind_tells_none s op u told (marked (Connection u)) (empty_connection s u) (ap (λ b. if b then BindKind else Regular) kind) k))
        (λ e. absurd (let bad : false ≡ true = none_given op u told e k in cc))
      where
        text : Bool → Option ℕ
        text b = elim b [ true ↦ None | false ↦ latency_since F (from_sent op (sendings u (F.connection u))) ]

    letter_right : (x : Letter) → given_so s marked x ≡ true → has_right_latency s F x ≡ true
    letter_right (Ended op u told) k = ended_right op u told k
    letter_right _ k = refl

    entry_right : (e : Entry) → ((x : Letter) → heard e.what ≡ Some x → given_so s marked x ≡ true) → is_latency_right s F e ≡ true
    entry_right e f = by (heard e.what) refl
      where
        by : (o : Option Letter) → heard e.what ≡ o → where_there (λ x. has_right_latency s F x) o ≡ true
        by None i = refl
        by (Some x) i = letter_right x (f x i)

    all_right : list_all (is_latency_right s F) F.desk ≡ true
    all_right = splits_all (is_latency_right s F) [] F.desk (each_heard s F marked h.joined (λ b e. is_latency_right s F e) (λ place e f. entry_right e (λ x i. (f x i).0)))

pub latencies_right : ForwardsAreRight → FitIsWhole → LatenciesAreRight
latencies_right rightly whole s F marked h = all_right s F marked h rightly whole
