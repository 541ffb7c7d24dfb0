-- In a connection's list Up stands before Retired and Down, and Retired before Down: so what tells them was given in this order.
use Rattle.std.proofs.Common.{◌≡◌, ℕ, Bool, true, false, ◌&&◌, ◌||◌, not, List, [], ◌∷◌, ◌++◌, refl, ap, ◌∙◌, sym, subst, append_assoc}
use Rattle.std.specs.Prelude.{Option}
use Rattle.std.specs.List.{list_any}
use Rattle.std.proofs.lemmas.List.{append-nil, map-append}
use Rattle.lload_names.specs.declared.names.Entry.{Entry}
use Rattle.lload_names.specs.declared.names.Letter.{Letter}
use Rattle.lload_names.specs.declared.names.Letter.TheVariants.{Ended}
use Rattle.lload_names.specs.declared.names.OpName.{OpName}
use Rattle.lload_names.specs.declared.names.PartName.TheVariants.{Desk}
use Rattle.lload_names.specs.declared.names.What.{What}
use Rattle.lload_names.specs.declared.names.What.TheVariants as what
use Rattle.lload_spec.specs.Entries.{down_why, is_down, is_linked, is_of_connection, is_retired, is_up}
use Rattle.lload_spec.specs.Lists.{agrees, each_entry, each_split_from, implies, passes}
use Rattle.lload_spec.specs.News.{tells_down, tells_retired, tells_up}
use Rattle.lload_spec.specs.Settings.{Settings}
use Rattle.lload_spec.specs.Strict.{is_empty, lives_as_connection, may_follow_down}
use Rattle.lload_spec.proofs.Growth.{left, right}
use Rattle.lload_laws.proofs.ListLaws.{any-map, any_imply, implied}
use Rattle.part_laws.proofs.ListLaws.{any_behind, any_before, any_split, eqb_same, false_by, not_both, or_elim, or_left}
use Rattle.part_spec.specs.ConnectionState.{empty_connection}
use Rattle.part_spec.specs.Gives.{connection_gives}
use Rattle.part_spec.specs.Marked.{Marked, entries, letters_to}
use Rattle.order_laws.specs.Laws.{is_up_in_time}
use Rattle.news_laws.proofs.Gives.{GivenAt, gives_tell, letters_tell, tells_so}

-- behind an entry of one sort no entry of another stands, where each entry says so
none_behind : (test : List Entry → Entry → Bool) (bar sort : Entry → Bool) → ((place : List Entry) (e : Entry) → test place e ≡ true → list_any bar place ≡ true → sort e ≡ false) → (place es : List Entry) → each_split_from (λ b e d. test b e) place es ≡ true → list_any bar place ≡ true → list_any sort es ≡ false
none_behind test bar sort f place [] h k = refl
none_behind test bar sort f place (e ∷ es) h k = ap (λ b. b || list_any sort es) (f place e (left (test place e) _ h) k) ∙ none_behind test bar sort f (place ++ e ∷ []) es (right (test place e) _ h) (any_before bar place (e ∷ []) k)

-- what each entry says behind those of a beginning
behind_all : (test : List Entry → Entry → Bool) (place L es : List Entry) → each_split_from (λ b e d. test b e) place (L ++ es) ≡ true → each_split_from (λ b e d. test b e) (place ++ L) es ≡ true
behind_all test place [] es h = subst (λ p. each_split_from (λ b e d. test b e) p es ≡ true) (sym (append-nil place)) h
behind_all test place (x ∷ L) es h = subst (λ p. each_split_from (λ b e d. test b e) p es ≡ true) (append_assoc place (x ∷ []) L) (behind_all test (place ++ x ∷ []) L es (right (test place x) _ h))

-- whether an entry is one of a connection's life
abbrev pub is_lived : List Entry → Entry → Bool
is_lived place e = is_of_connection e.what && lives_as_connection place e

follows_down : (place : List Entry) (e : Entry) → is_lived place e ≡ true → list_any is_down place ≡ true → may_follow_down e.what ≡ true
follows_down place e h k = implied (list_any is_down place) (may_follow_down e.what) (right (agrees (is_linked e.what) (is_empty place)) _ (left (agrees (is_linked e.what) (is_empty place) && implies (list_any is_down place) (may_follow_down e.what)) _ (right (is_of_connection e.what) _ h))) k

-- Sorts of entries.
abbrev pub is_up_entry : Entry → Bool
is_up_entry e = is_up e.what

abbrev pub is_retired_entry : Entry → Bool
is_retired_entry e = is_retired e.what

up_follows_not : (e : Entry) → may_follow_down e.what ≡ true → is_up_entry e ≡ false
up_follows_not e h = by e.what h
  where
    by : (w : What) → may_follow_down w ≡ true → is_up w ≡ false
    by what.Up k = absurd (let bad : false ≡ true = k in cc)
    by _ k = refl

retired_follows_not : (e : Entry) → may_follow_down e.what ≡ true → is_retired_entry e ≡ false
retired_follows_not e h = by e.what h
  where
    by : (w : What) → may_follow_down w ≡ true → is_retired w ≡ false
    by what.Retired k = absurd (let bad : false ≡ true = k in cc)
    by _ k = refl

module _ (s : Settings) (u : ℕ) (list : List Marked) (life : each_entry is_lived (entries list) ≡ true) (ups : each_entry is_up_in_time (entries list) ≡ true) where
  -- An entry of the list, with those before and behind it.
  module _ (before : List Marked) (m : Marked) (behind : List Marked) (same : list ≡ before ++ m ∷ behind) where
    split : entries list ≡ (entries before ++ m.entry ∷ []) ++ entries behind
    split = ap entries same ∙ map-append (λ (x : Marked). x.entry) before (m ∷ behind) ∙ sym (append_assoc (entries before) (m.entry ∷ []) (entries behind))

    parted : (test : List Entry → Entry → Bool) → each_entry test (entries list) ≡ true → each_split_from (λ b e d. test b e) (entries before ++ m.entry ∷ []) (entries behind) ≡ true
    parted test h = behind_all test [] (entries before ++ m.entry ∷ []) (entries behind) (subst (λ l. each_entry test l ≡ true) split h)

    -- behind Down neither Up nor Retired stands
    pub behind_down : (sort : Entry → Bool) → ((e : Entry) → may_follow_down e.what ≡ true → sort e ≡ false) → is_down m.entry ≡ true → list_any sort (entries behind) ≡ false
    behind_down sort f down = none_behind is_lived is_down sort (λ place e h k. f e (follows_down place e h k)) (entries before ++ m.entry ∷ []) (entries behind) (parted is_lived life) (any_behind is_down (entries before) (m.entry ∷ []) (or_left (is_down m.entry) false down))

    -- and behind Retired no Up
    pub behind_retired : is_retired_entry m.entry ≡ true → list_any is_up_entry (entries behind) ≡ false
    behind_retired retired = none_behind is_up_in_time is_retired_entry is_up_entry (λ place e h k. false_by (is_up_entry e) (λ j. sym (ap not k) ∙ implied (is_up_entry e) _ h j)) (entries before ++ m.entry ∷ []) (entries behind) (parted is_up_in_time ups) (any_behind is_retired_entry (entries before) (m.entry ∷ []) (or_left (is_retired_entry m.entry) false retired))

    -- so what stands in the list stands before
    stands_before : (sort : Entry → Bool) → sort m.entry ≡ false → list_any sort (entries behind) ≡ false → list_any sort (entries list) ≡ true → list_any sort (entries before) ≡ true
    stands_before sort here later h =
        any_split sort (entries before ++ m.entry ∷ []) (entries behind)
        (λ k. any_split sort (entries before) (m.entry ∷ []) (λ j. j) (λ j. or_elim (sort m.entry) false (λ i. not_both (sort m.entry) i here) (λ i. absurd (let bad : false ≡ true = i in cc)) j) k)
        (λ k. not_both (list_any sort (entries behind)) k later) (sym (ap (list_any sort) split) ∙ h)

  -- What was given before a letter.
  module _ (given : List Letter) (x : Letter) (g : GivenAt s u (empty_connection s u) list given x) where
    -- what the entry that gave it tells
    told : (test : Letter → Bool) → ((op : OpName) (v : ℕ) (latency : Option ℕ) → test (Ended op v latency) ≡ false) → test x ≡ true → tells_so test u g.entry.entry.what ≡ true
    told test quiet h = ap (λ n. tells_so test n g.entry.entry.what) (sym g.number) ∙ sym (letters_tell s test quiet g.state g.entry.entry.at g.entry.mark g.entry.entry.what) ∙ ap (list_any test) g.letters ∙ any_behind test g.head (x ∷ g.tail) (or_left (test x) _ h)

    was_given : (test : Letter → Bool) → ((op : OpName) (v : ℕ) (latency : Option ℕ) → test (Ended op v latency) ≡ false) → (sort : Entry → Bool) → ((e : Entry) → sort e ≡ true → tells_so test u e.what ≡ true) → list_any sort (entries g.before) ≡ true → list_any test given ≡ true
    was_given test quiet sort says h = ap (list_any test) g.given_is ∙ any_before test (letters_to Desk (connection_gives s (empty_connection s u) g.before)) g.head (gives_tell s test quiet u (empty_connection s u) g.before refl ∙ any_imply (λ m. sort m.entry) (λ m. tells_so test u m.entry.what) g.before (λ m k. says m.entry k) (sym (any-map sort (λ (m : Marked). m.entry) g.before) ∙ h))

    up_says : (e : Entry) → is_up_entry e ≡ true → tells_so (tells_up u) u e.what ≡ true
    up_says e h = by e.what h
      where
        by : (w : What) → is_up w ≡ true → tells_so (tells_up u) u w ≡ true
        by what.Up k = eqb_same u
        by _ k = absurd (let bad : false ≡ true = k in cc)

    retired_says : (e : Entry) → is_retired_entry e ≡ true → tells_so (tells_retired u) u e.what ≡ true
    retired_says e h = by e.what h
      where
        by : (w : What) → is_retired w ≡ true → tells_so (tells_retired u) u w ≡ true
        by what.Retired k = eqb_same u
        by _ k = absurd (let bad : false ≡ true = k in cc)

    -- the entry that gave a letter of a state is that of the state
    retires_here : tells_retired u x ≡ true → is_retired_entry g.entry.entry ≡ true
    retires_here h = by g.entry.entry.what (told (tells_retired u) (λ op v l. refl) h)
      where
        by : (w : What) → tells_so (tells_retired u) u w ≡ true → is_retired w ≡ true
        by what.Retired k = refl
        by _ k = absurd (let bad : false ≡ true = k in cc)

    downs_here : tells_down u x ≡ true → is_down g.entry.entry ≡ true
    downs_here h = by g.entry.entry.what (told (tells_down u) (λ op v l. refl) h)
      where
        by : (w : What) → tells_so (tells_down u) u w ≡ true → passes (λ _. true) (down_why w) ≡ true
        by (what.Down why) k = refl
        by _ k = absurd (let bad : false ≡ true = k in cc)

    retired_is_no_up : (e : Entry) → is_retired_entry e ≡ true → is_up_entry e ≡ false
    retired_is_no_up e h = by e.what h
      where
        by : (w : What) → is_retired w ≡ true → is_up w ≡ false
        by what.Retired k = refl
        by _ k = absurd (let bad : false ≡ true = k in cc)

    down_is_neither : (e : Entry) → is_down e ≡ true → (is_up_entry e ≡ false) × (is_retired_entry e ≡ false)
    down_is_neither e h = by e.what h
      where
        by : (w : What) → passes (λ _. true) (down_why w) ≡ true → (is_up w ≡ false) × (is_retired w ≡ false)
        by (what.Down why) k = (refl, refl)
        by _ k = absurd (let bad : false ≡ true = k in cc)

    -- before its retirement its Up was given, where it came up
    pub up_before_retired : tells_retired u x ≡ true → list_any is_up_entry (entries list) ≡ true → list_any (tells_up u) given ≡ true
    up_before_retired h k =
        let here : is_retired_entry g.entry.entry ≡ true = retires_here h in
        was_given (tells_up u) (λ op v l. refl) is_up_entry up_says (stands_before g.before g.entry g.behind g.same is_up_entry (retired_is_no_up g.entry.entry here) (behind_retired g.before g.entry g.behind g.same here) k)

    -- and before its end both
    pub up_before_down : tells_down u x ≡ true → list_any is_up_entry (entries list) ≡ true → list_any (tells_up u) given ≡ true
    up_before_down h k =
        let here : is_down g.entry.entry ≡ true = downs_here h in
        was_given (tells_up u) (λ op v l. refl) is_up_entry up_says (stands_before g.before g.entry g.behind g.same is_up_entry (down_is_neither g.entry.entry here).0 (behind_down g.before g.entry g.behind g.same is_up_entry up_follows_not here) k)

    pub retired_before_down : tells_down u x ≡ true → list_any is_retired_entry (entries list) ≡ true → list_any (tells_retired u) given ≡ true
    retired_before_down h k =
        let here : is_down g.entry.entry ≡ true = downs_here h in
        was_given (tells_retired u) (λ op v l. refl) is_retired_entry retired_says (stands_before g.before g.entry g.behind g.same is_retired_entry (down_is_neither g.entry.entry here).1 (behind_down g.before g.entry g.behind g.same is_retired_entry retired_follows_not here) k)
