-- The own Bind that waits, by a connection's list that grows.
use Rattle.std.proofs.Common.{◌≡◌, ℕ, Bool, true, false, ◌==◌, ◌&&◌, ◌||◌, List, [], ◌∷◌, ◌++◌, refl, ap, ◌∙◌}
use Rattle.std.specs.Prelude.{Option, Some, None, if◌then◌else◌}
use Rattle.std.proofs.lemmas.List.Folds.{list_any-append}
use Rattle.std.proofs.Math.Bool.{or-false}
use Rattle.ldap_spec.specs.Messages.{Message}
use Rattle.lload_names.specs.declared.names.Entry.{Entry}
use Rattle.lload_names.specs.declared.names.PartName.{PartName}
use Rattle.lload_names.specs.declared.names.What.{What}
use Rattle.lload_names.specs.declared.names.What.TheVariants as what
use Rattle.lload_spec.specs.Lists.{passes}
use Rattle.lload_spec.specs.Settings.{Settings, OwnBind}
use Rattle.lload_spec.specs.Entries.{given_id, got_message, is_linked}
use Rattle.lload_spec.specs.OneEach.{begins_with_bind, is_own_bind}
use Rattle.lload_spec.specs.CausedUp.{own_bind_id, own_bind_at, has_got}
use Rattle.lload_spec.specs.Strict.{is_empty}
use Rattle.part_spec.specs.ConnectionState.{OwnWait}
use Rattle.part_laws.proofs.ListLaws.{eqb_sym}

-- whether an entry is the own Bind, directly behind the list's first entry
abbrev pub is_single : List Entry → Bool
is_single [] = false
is_single (e ∷ []) = true
is_single (e ∷ f ∷ es) = false

abbrev pub is_second_bind : Settings → ℕ → List Entry → Entry → Bool
is_second_bind s u place e = begins_with_bind s u && is_single place && is_own_bind s e

-- the own Bind that waits, by the identifier and moment of the own Bind, and whether it was answered
abbrev pub waiting_of : Option ℕ → ℕ → (ℕ → Bool) → Option OwnWait
waiting_of None at got = None
waiting_of (Some id) at got = if got id then None else Some (record { id = id; at = at })

abbrev pub own_of : Settings → ℕ → List Entry → Option OwnWait
own_of s u place = waiting_of (own_bind_id s u place) (own_bind_at place) (λ id. has_got id place)

-- what an entry makes of it
abbrev pub own_after : Settings → ℕ → List Entry → Entry → Option OwnWait → What → Option OwnWait
own_after s u place e o (what.Own id rest) = if is_second_bind s u place e then Some (record { id = id; at = e.at }) else o
own_after s u place e o (what.Got id rest) = if passes (λ own. own.id == id) o then None else o
own_after s u place e o _ = o

abbrev entry_of : PartName → ℕ → What → Entry
entry_of part at w = record { part = part; at = at; what = w }

linked_no_got : (t : Message → Bool) (w : What) → is_linked w ≡ true → passes t (got_message w) ≡ false
linked_no_got t what.Linked h = refl
linked_no_got t _ h = absurd (let bad : false ≡ true = h in cc)

none_own : (o : Option OwnBind) → passes (λ own. false) o ≡ false
none_own None = refl
none_own (Some own) = refl

-- the second entry
second_own : (b o : Bool) (id at : ℕ) (got : ℕ → Bool) → got id ≡ false → waiting_of (if (b && true) && o then Some id else None) at got ≡ (if (b && true) && o then Some (record { id = id; at = at }) else None)
second_own true true id at got h = ap (λ g. if g then None else Some (record { id = id; at = at })) h
second_own true false id at got h = refl
second_own false o id at got h = refl

second_other : (b o : Bool) (id : Option ℕ) (at : ℕ) (got : ℕ → Bool) → o ≡ false → waiting_of (if b && o then id else None) at got ≡ None
second_other b true id at got h = absurd (let bad : true ≡ false = h in cc)
second_other true false id at got h = refl
second_other false false id at got h = refl

second : (s : Settings) (u : ℕ) (a : Entry) (part : PartName) (at : ℕ) (w : What) → is_linked a.what ≡ true → own_of s u (a ∷ entry_of part at w ∷ []) ≡ own_after s u (a ∷ []) (entry_of part at w) None w
second s u a part at (what.Own id rest) h = ap (λ l. waiting_of (if (begins_with_bind s u && l) && is_own_bind s (entry_of part at (what.Own id rest)) then Some id else None) at (λ i. has_got i (a ∷ entry_of part at (what.Own id rest) ∷ []))) h ∙ second_own (begins_with_bind s u) (is_own_bind s (entry_of part at (what.Own id rest))) id at (λ i. has_got i (a ∷ entry_of part at (what.Own id rest) ∷ [])) (ap (λ x. x || (false || false)) (linked_no_got (λ m. m.id == id) a.what h))
second s u a part at (what.Got id rest) h = second_other (begins_with_bind s u && is_linked a.what) (is_own_bind s (entry_of part at (what.Got id rest))) None at (λ i. has_got i (a ∷ entry_of part at (what.Got id rest) ∷ [])) (none_own s.own_bind)
second s u a part at (what.Arrived) h = second_other (begins_with_bind s u && is_linked a.what) (is_own_bind s (entry_of part at (what.Arrived))) (given_id (what.Arrived)) at (λ i. has_got i (a ∷ entry_of part at (what.Arrived) ∷ [])) (none_own s.own_bind)
second s u a part at (what.In id rest) h = second_other (begins_with_bind s u && is_linked a.what) (is_own_bind s (entry_of part at (what.In id rest))) (given_id (what.In id rest)) at (λ i. has_got i (a ∷ entry_of part at (what.In id rest) ∷ [])) (none_own s.own_bind)
second s u a part at (what.Chosen op answer) h = second_other (begins_with_bind s u && is_linked a.what) (is_own_bind s (entry_of part at (what.Chosen op answer))) (given_id (what.Chosen op answer)) at (λ i. has_got i (a ∷ entry_of part at (what.Chosen op answer) ∷ [])) (none_own s.own_bind)
second s u a part at (what.Out id rest) h = second_other (begins_with_bind s u && is_linked a.what) (is_own_bind s (entry_of part at (what.Out id rest))) (given_id (what.Out id rest)) at (λ i. has_got i (a ∷ entry_of part at (what.Out id rest) ∷ [])) (none_own s.own_bind)
second s u a part at (what.Late op) h = second_other (begins_with_bind s u && is_linked a.what) (is_own_bind s (entry_of part at (what.Late op))) (given_id (what.Late op)) at (λ i. has_got i (a ∷ entry_of part at (what.Late op) ∷ [])) (none_own s.own_bind)
second s u a part at (what.Gone why) h = second_other (begins_with_bind s u && is_linked a.what) (is_own_bind s (entry_of part at (what.Gone why))) (given_id (what.Gone why)) at (λ i. has_got i (a ∷ entry_of part at (what.Gone why) ∷ [])) (none_own s.own_bind)
second s u a part at (what.Linked) h = second_other (begins_with_bind s u && is_linked a.what) (is_own_bind s (entry_of part at (what.Linked))) (given_id (what.Linked)) at (λ i. has_got i (a ∷ entry_of part at (what.Linked) ∷ [])) (none_own s.own_bind)
second s u a part at (what.Up) h = second_other (begins_with_bind s u && is_linked a.what) (is_own_bind s (entry_of part at (what.Up))) (given_id (what.Up)) at (λ i. has_got i (a ∷ entry_of part at (what.Up) ∷ [])) (none_own s.own_bind)
second s u a part at (what.Retired) h = second_other (begins_with_bind s u && is_linked a.what) (is_own_bind s (entry_of part at (what.Retired))) (given_id (what.Retired)) at (λ i. has_got i (a ∷ entry_of part at (what.Retired) ∷ [])) (none_own s.own_bind)
second s u a part at (what.Sent id op rest) h = second_other (begins_with_bind s u && is_linked a.what) (is_own_bind s (entry_of part at (what.Sent id op rest))) (given_id (what.Sent id op rest)) at (λ i. has_got i (a ∷ entry_of part at (what.Sent id op rest) ∷ [])) (none_own s.own_bind)
second s u a part at (what.Expired op) h = second_other (begins_with_bind s u && is_linked a.what) (is_own_bind s (entry_of part at (what.Expired op))) (given_id (what.Expired op)) at (λ i. has_got i (a ∷ entry_of part at (what.Expired op) ∷ [])) (none_own s.own_bind)
second s u a part at (what.Missed op) h = second_other (begins_with_bind s u && is_linked a.what) (is_own_bind s (entry_of part at (what.Missed op))) (given_id (what.Missed op)) at (λ i. has_got i (a ∷ entry_of part at (what.Missed op) ∷ [])) (none_own s.own_bind)
second s u a part at (what.Idle op) h = second_other (begins_with_bind s u && is_linked a.what) (is_own_bind s (entry_of part at (what.Idle op))) (given_id (what.Idle op)) at (λ i. has_got i (a ∷ entry_of part at (what.Idle op) ∷ [])) (none_own s.own_bind)
second s u a part at (what.Down why) h = second_other (begins_with_bind s u && is_linked a.what) (is_own_bind s (entry_of part at (what.Down why))) (given_id (what.Down why)) at (λ i. has_got i (a ∷ entry_of part at (what.Down why) ∷ [])) (none_own s.own_bind)
second s u a part at (what.Asked op want) h = second_other (begins_with_bind s u && is_linked a.what) (is_own_bind s (entry_of part at (what.Asked op want))) (given_id (what.Asked op want)) at (λ i. has_got i (a ∷ entry_of part at (what.Asked op want) ∷ [])) (none_own s.own_bind)
second s u a part at (what.Chose op answer word) h = second_other (begins_with_bind s u && is_linked a.what) (is_own_bind s (entry_of part at (what.Chose op answer word))) (given_id (what.Chose op answer word)) at (λ i. has_got i (a ∷ entry_of part at (what.Chose op answer word) ∷ [])) (none_own s.own_bind)
second s u a part at (what.Heard x) h = second_other (begins_with_bind s u && is_linked a.what) (is_own_bind s (entry_of part at (what.Heard x))) (given_id (what.Heard x)) at (λ i. has_got i (a ∷ entry_of part at (what.Heard x) ∷ [])) (none_own s.own_bind)
second s u a part at (what.Stalled) h = second_other (begins_with_bind s u && is_linked a.what) (is_own_bind s (entry_of part at (what.Stalled))) (given_id (what.Stalled)) at (λ i. has_got i (a ∷ entry_of part at (what.Stalled) ∷ [])) (none_own s.own_bind)
second s u a part at (what.Flowing) h = second_other (begins_with_bind s u && is_linked a.what) (is_own_bind s (entry_of part at (what.Flowing))) (given_id (what.Flowing)) at (λ i. has_got i (a ∷ entry_of part at (what.Flowing) ∷ [])) (none_own s.own_bind)
second s u a part at (what.Paused client) h = second_other (begins_with_bind s u && is_linked a.what) (is_own_bind s (entry_of part at (what.Paused client))) (given_id (what.Paused client)) at (λ i. has_got i (a ∷ entry_of part at (what.Paused client) ∷ [])) (none_own s.own_bind)
second s u a part at (what.Resumed client) h = second_other (begins_with_bind s u && is_linked a.what) (is_own_bind s (entry_of part at (what.Resumed client))) (given_id (what.Resumed client)) at (λ i. has_got i (a ∷ entry_of part at (what.Resumed client) ∷ [])) (none_own s.own_bind)
second s u a part at (what.Replanned number base) h = second_other (begins_with_bind s u && is_linked a.what) (is_own_bind s (entry_of part at (what.Replanned number base))) (given_id (what.Replanned number base)) at (λ i. has_got i (a ∷ entry_of part at (what.Replanned number base) ∷ [])) (none_own s.own_bind)

-- a later entry
later_own : (b o : Bool) (x y : Option OwnWait) → y ≡ (if (b && false) && o then x else y)
later_own true o x y = refl
later_own false o x y = refl

abbrev unless : Bool → OwnWait → Option OwnWait
unless b own = if b then None else Some own

later_got : (X : Option ℕ) (at id : ℕ) (got got' : ℕ → Bool) → ((i : ℕ) → got' i ≡ (got i || (id == i || false))) → waiting_of X at got' ≡ (if passes (λ own. own.id == id) (waiting_of X at got) then None else waiting_of X at got)
later_got None at id got got' h = refl
later_got (Some i) at id got got' h = ap (λ g. unless g (record { id = i; at = at })) (h i) ∙ by (got i)
  where
    done : (c d : Bool) → c ≡ d → unless (c || false) (record { id = i; at = at }) ≡ (if d then None else Some (record { id = i; at = at }))
    done true true e = refl
    done true false e = absurd (let bad : true ≡ false = e in cc)
    done false true e = absurd (let bad : false ≡ true = e in cc)
    done false false e = refl

    by : (g : Bool) → unless (g || (id == i || false)) (record { id = i; at = at }) ≡ (if passes (λ own. own.id == id) (unless g (record { id = i; at = at })) then None else unless g (record { id = i; at = at }))
    by true = refl
    by false = done (id == i) (i == id) (eqb_sym id i)

later_same : (X : Option ℕ) (at : ℕ) (got got' : ℕ → Bool) → ((i : ℕ) → got' i ≡ (got i || false)) → waiting_of X at got' ≡ waiting_of X at got
later_same None at got got' h = refl
later_same (Some i) at got got' h = ap (λ g. if g then None else Some (record { id = i; at = at })) (h i ∙ or-false (got i))

got_push : (i : ℕ) (place : List Entry) (e : Entry) → has_got i (place ++ e ∷ []) ≡ (has_got i place || (passes (λ m. m.id == i) (got_message e.what) || false))
got_push i place e = list_any-append (λ x. passes (λ m. m.id == i) (got_message x.what)) place (e ∷ [])

later : (s : Settings) (u : ℕ) (a b : Entry) (es : List Entry) (part : PartName) (at : ℕ) (w : What) → own_of s u (a ∷ b ∷ (es ++ entry_of part at w ∷ [])) ≡ own_after s u (a ∷ b ∷ es) (entry_of part at w) (own_of s u (a ∷ b ∷ es)) w
later s u a b es part at (what.Got id rest) = later_got (own_bind_id s u (a ∷ b ∷ es)) b.at id (λ i. has_got i (a ∷ b ∷ es)) (λ i. has_got i (a ∷ b ∷ (es ++ entry_of part at (what.Got id rest) ∷ []))) (λ i. got_push i (a ∷ b ∷ es) (entry_of part at (what.Got id rest)))
later s u a b es part at (what.Own id rest) = later_same (own_bind_id s u (a ∷ b ∷ es)) b.at (λ i. has_got i (a ∷ b ∷ es)) (λ i. has_got i (a ∷ b ∷ (es ++ entry_of part at (what.Own id rest) ∷ []))) (λ i. got_push i (a ∷ b ∷ es) (entry_of part at (what.Own id rest))) ∙ later_own (begins_with_bind s u) (is_own_bind s (entry_of part at (what.Own id rest))) (Some (record { id = id; at = at })) (own_of s u (a ∷ b ∷ es))
later s u a b es part at (what.Arrived) = later_same (own_bind_id s u (a ∷ b ∷ es)) b.at (λ i. has_got i (a ∷ b ∷ es)) (λ i. has_got i (a ∷ b ∷ (es ++ entry_of part at (what.Arrived) ∷ []))) (λ i. got_push i (a ∷ b ∷ es) (entry_of part at (what.Arrived)))
later s u a b es part at (what.In id rest) = later_same (own_bind_id s u (a ∷ b ∷ es)) b.at (λ i. has_got i (a ∷ b ∷ es)) (λ i. has_got i (a ∷ b ∷ (es ++ entry_of part at (what.In id rest) ∷ []))) (λ i. got_push i (a ∷ b ∷ es) (entry_of part at (what.In id rest)))
later s u a b es part at (what.Chosen op answer) = later_same (own_bind_id s u (a ∷ b ∷ es)) b.at (λ i. has_got i (a ∷ b ∷ es)) (λ i. has_got i (a ∷ b ∷ (es ++ entry_of part at (what.Chosen op answer) ∷ []))) (λ i. got_push i (a ∷ b ∷ es) (entry_of part at (what.Chosen op answer)))
later s u a b es part at (what.Out id rest) = later_same (own_bind_id s u (a ∷ b ∷ es)) b.at (λ i. has_got i (a ∷ b ∷ es)) (λ i. has_got i (a ∷ b ∷ (es ++ entry_of part at (what.Out id rest) ∷ []))) (λ i. got_push i (a ∷ b ∷ es) (entry_of part at (what.Out id rest)))
later s u a b es part at (what.Late op) = later_same (own_bind_id s u (a ∷ b ∷ es)) b.at (λ i. has_got i (a ∷ b ∷ es)) (λ i. has_got i (a ∷ b ∷ (es ++ entry_of part at (what.Late op) ∷ []))) (λ i. got_push i (a ∷ b ∷ es) (entry_of part at (what.Late op)))
later s u a b es part at (what.Gone why) = later_same (own_bind_id s u (a ∷ b ∷ es)) b.at (λ i. has_got i (a ∷ b ∷ es)) (λ i. has_got i (a ∷ b ∷ (es ++ entry_of part at (what.Gone why) ∷ []))) (λ i. got_push i (a ∷ b ∷ es) (entry_of part at (what.Gone why)))
later s u a b es part at (what.Linked) = later_same (own_bind_id s u (a ∷ b ∷ es)) b.at (λ i. has_got i (a ∷ b ∷ es)) (λ i. has_got i (a ∷ b ∷ (es ++ entry_of part at (what.Linked) ∷ []))) (λ i. got_push i (a ∷ b ∷ es) (entry_of part at (what.Linked)))
later s u a b es part at (what.Up) = later_same (own_bind_id s u (a ∷ b ∷ es)) b.at (λ i. has_got i (a ∷ b ∷ es)) (λ i. has_got i (a ∷ b ∷ (es ++ entry_of part at (what.Up) ∷ []))) (λ i. got_push i (a ∷ b ∷ es) (entry_of part at (what.Up)))
later s u a b es part at (what.Retired) = later_same (own_bind_id s u (a ∷ b ∷ es)) b.at (λ i. has_got i (a ∷ b ∷ es)) (λ i. has_got i (a ∷ b ∷ (es ++ entry_of part at (what.Retired) ∷ []))) (λ i. got_push i (a ∷ b ∷ es) (entry_of part at (what.Retired)))
later s u a b es part at (what.Sent id op rest) = later_same (own_bind_id s u (a ∷ b ∷ es)) b.at (λ i. has_got i (a ∷ b ∷ es)) (λ i. has_got i (a ∷ b ∷ (es ++ entry_of part at (what.Sent id op rest) ∷ []))) (λ i. got_push i (a ∷ b ∷ es) (entry_of part at (what.Sent id op rest)))
later s u a b es part at (what.Expired op) = later_same (own_bind_id s u (a ∷ b ∷ es)) b.at (λ i. has_got i (a ∷ b ∷ es)) (λ i. has_got i (a ∷ b ∷ (es ++ entry_of part at (what.Expired op) ∷ []))) (λ i. got_push i (a ∷ b ∷ es) (entry_of part at (what.Expired op)))
later s u a b es part at (what.Missed op) = later_same (own_bind_id s u (a ∷ b ∷ es)) b.at (λ i. has_got i (a ∷ b ∷ es)) (λ i. has_got i (a ∷ b ∷ (es ++ entry_of part at (what.Missed op) ∷ []))) (λ i. got_push i (a ∷ b ∷ es) (entry_of part at (what.Missed op)))
later s u a b es part at (what.Idle op) = later_same (own_bind_id s u (a ∷ b ∷ es)) b.at (λ i. has_got i (a ∷ b ∷ es)) (λ i. has_got i (a ∷ b ∷ (es ++ entry_of part at (what.Idle op) ∷ []))) (λ i. got_push i (a ∷ b ∷ es) (entry_of part at (what.Idle op)))
later s u a b es part at (what.Down why) = later_same (own_bind_id s u (a ∷ b ∷ es)) b.at (λ i. has_got i (a ∷ b ∷ es)) (λ i. has_got i (a ∷ b ∷ (es ++ entry_of part at (what.Down why) ∷ []))) (λ i. got_push i (a ∷ b ∷ es) (entry_of part at (what.Down why)))
later s u a b es part at (what.Asked op want) = later_same (own_bind_id s u (a ∷ b ∷ es)) b.at (λ i. has_got i (a ∷ b ∷ es)) (λ i. has_got i (a ∷ b ∷ (es ++ entry_of part at (what.Asked op want) ∷ []))) (λ i. got_push i (a ∷ b ∷ es) (entry_of part at (what.Asked op want)))
later s u a b es part at (what.Chose op answer word) = later_same (own_bind_id s u (a ∷ b ∷ es)) b.at (λ i. has_got i (a ∷ b ∷ es)) (λ i. has_got i (a ∷ b ∷ (es ++ entry_of part at (what.Chose op answer word) ∷ []))) (λ i. got_push i (a ∷ b ∷ es) (entry_of part at (what.Chose op answer word)))
later s u a b es part at (what.Heard x) = later_same (own_bind_id s u (a ∷ b ∷ es)) b.at (λ i. has_got i (a ∷ b ∷ es)) (λ i. has_got i (a ∷ b ∷ (es ++ entry_of part at (what.Heard x) ∷ []))) (λ i. got_push i (a ∷ b ∷ es) (entry_of part at (what.Heard x)))
later s u a b es part at (what.Stalled) = later_same (own_bind_id s u (a ∷ b ∷ es)) b.at (λ i. has_got i (a ∷ b ∷ es)) (λ i. has_got i (a ∷ b ∷ (es ++ entry_of part at (what.Stalled) ∷ []))) (λ i. got_push i (a ∷ b ∷ es) (entry_of part at (what.Stalled)))
later s u a b es part at (what.Flowing) = later_same (own_bind_id s u (a ∷ b ∷ es)) b.at (λ i. has_got i (a ∷ b ∷ es)) (λ i. has_got i (a ∷ b ∷ (es ++ entry_of part at (what.Flowing) ∷ []))) (λ i. got_push i (a ∷ b ∷ es) (entry_of part at (what.Flowing)))
later s u a b es part at (what.Paused client) = later_same (own_bind_id s u (a ∷ b ∷ es)) b.at (λ i. has_got i (a ∷ b ∷ es)) (λ i. has_got i (a ∷ b ∷ (es ++ entry_of part at (what.Paused client) ∷ []))) (λ i. got_push i (a ∷ b ∷ es) (entry_of part at (what.Paused client)))
later s u a b es part at (what.Resumed client) = later_same (own_bind_id s u (a ∷ b ∷ es)) b.at (λ i. has_got i (a ∷ b ∷ es)) (λ i. has_got i (a ∷ b ∷ (es ++ entry_of part at (what.Resumed client) ∷ []))) (λ i. got_push i (a ∷ b ∷ es) (entry_of part at (what.Resumed client)))
later s u a b es part at (what.Replanned number base) = later_same (own_bind_id s u (a ∷ b ∷ es)) b.at (λ i. has_got i (a ∷ b ∷ es)) (λ i. has_got i (a ∷ b ∷ (es ++ entry_of part at (what.Replanned number base) ∷ []))) (λ i. got_push i (a ∷ b ∷ es) (entry_of part at (what.Replanned number base)))

pub own_push : (s : Settings) (u : ℕ) (place : List Entry) (part : PartName) (at : ℕ) (w : What) → (is_empty place ≡ true → is_linked w ≡ true) → ((e : Entry) (es : List Entry) → place ≡ e ∷ es → is_linked e.what ≡ true) → own_of s u (place ++ entry_of part at w ∷ []) ≡ own_after s u place (entry_of part at w) (own_of s u place) w
own_push s u [] part at w h k = first w (h refl)
  where
    first : (x : What) → is_linked x ≡ true → None ≡ own_after s u [] (entry_of part at x) None x
    first what.Linked j = refl
    first _ j = absurd (let bad : false ≡ true = j in cc)
own_push s u (a ∷ []) part at w h k = second s u a part at w (k a [] refl)
own_push s u (a ∷ b ∷ es) part at w h k = later s u a b es part at w
