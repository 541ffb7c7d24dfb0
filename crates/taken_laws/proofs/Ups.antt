-- A connection that gave the desk that it is up was linked: before its link a turn gives no such letter, but for the one that
-- links it.
use Rattle.std.proofs.Common.{◌≡◌, ◌⊎◌, ℕ, Bool, true, false, ◌&&◌, ◌||◌, not, List, [], ◌∷◌, ◌++◌, refl, ap, append_assoc, ◌∙◌, sym, subst, inl, inr}
use Rattle.std.specs.Prelude.{Option, Some, None, cond, filter, find, map}
use Rattle.std.specs.List.{list_any}
use Rattle.std.proofs.lemmas.List.{append-nil}
use Rattle.lload_names.specs.declared.inputs.Input.{Input}
use Rattle.lload_names.specs.declared.inputs.Input.TheVariants.{LinkUp, LetterFrom, Message as MessageIn, Tick}
use Rattle.lload_names.specs.declared.names.ConnKind.{ConnKind}
use Rattle.lload_names.specs.declared.names.ConnKind.TheVariants.{Regular, Bind as BindKind}
use Rattle.lload_names.specs.declared.names.EndWhy.{EndWhy}
use Rattle.lload_names.specs.declared.names.EndWhy.TheVariants.{Drained}
use Rattle.lload_names.specs.declared.names.Letter.{Letter}
use Rattle.lload_names.specs.declared.names.Letter.TheVariants.{IsDown}
use Rattle.lload_names.specs.declared.names.PartName.{PartName}
use Rattle.lload_names.specs.declared.names.PartName.TheVariants.{Desk, Up as Connection}
use Rattle.lload_names.specs.declared.names.Posted.{Posted}
use Rattle.lload_names.specs.declared.names.What.{What}
use Rattle.lload_names.specs.declared.names.What.TheVariants as what
use Rattle.lload_names.specs.declared.plans.Place.{Place}
use Rattle.lload_spec.specs.Entries.{is_linked}
use Rattle.lload_spec.specs.Journal.{same_part}
use Rattle.lload_spec.specs.News.{tells_up}
use Rattle.lload_spec.specs.Settings.{Settings, place_at}
use Rattle.part_spec.specs.BindTurn as bind
use Rattle.part_spec.specs.ConnectionState.{ConnectionState, connection_of, empty_connection, is_holding, step_connection, step_connections}
use Rattle.part_spec.specs.ConnectionTurn.{goes_down, is_drained, behind_act}
use Rattle.part_spec.specs.Inputs.{Act, act, also, entries_of, letter_of, marked_by, moment_for, nothing, to, where_so}
use Rattle.part_spec.specs.Marked.{Marked, Taken, letters_to}
use Rattle.part_spec.specs.Merge.{AreTurns, AreTurnsFrom, Intake, IsEmptyTurn, IsTurnOf, Severed, Takes, letter_in, turn_behind}
use Rattle.part_spec.specs.RegularTurn as regular
use Rattle.part_spec.specs.Stamps.{Turn, letters_of, list_of_turns}
use Rattle.part_spec.specs.Turn.{connection_act, connection_sever, connection_turn}
use Rattle.part_spec.specs.World.{Flight}
use Rattle.part_spec.proofs.Folds.{connections-fold}
use Rattle.part_laws.proofs.ListLaws.{any_split, or_elim, or_left, or_right}
use Rattle.connection_laws.proofs.ConnectionSays.{linked_step}

-- whether one of these letters tells that a connection is up
abbrev pub has_up : ℕ → List Posted → Bool
has_up u xs = list_any (λ x. tells_up u x.letter) xs

-- What is linked stays so.
linked_stays : (s : Settings) (p : ConnectionState) (ms : List Marked) → p.linked ≡ true → (step_connections s p ms).linked ≡ true
linked_stays s p [] h = h
linked_stays s p (m ∷ ms) h = linked_stays s (step_connection s p m) ms (linked_step s m.entry m.mark p m.entry.what ∙ or_left p.linked (is_linked m.entry.what) h)

-- Before its link a connection has no rule, but for the link.
record BeginsWithLinked (a : Act) : Type 0 where
  rest : List What
  is : a.whats ≡ what.Linked ∷ rest

module _ (s : Settings) (p : ConnectionState) (at : ℕ) (unlinked : p.linked ≡ false) where
  abbrev Unlinked : Act → Type 0
  Unlinked a = (a ≡ nothing) ⊎ BeginsWithLinked a

  regular_unlinked : (i : Input) → Unlinked (regular.regular_rule s p at i)
  regular_unlinked (LinkUp now) = inr (subst (λ (b : Bool). BeginsWithLinked (where_so (not b) (regular.link_up s p))) (sym unlinked) (record { rest = _; is = refl }))
  regular_unlinked (MessageIn now id rest) = inl (ap (λ b. where_so (b && not p.down && not (is_holding p)) (regular.message p at (record { id = id; rest = rest }))) unlinked)
  regular_unlinked (LetterFrom now word sender l) = inl (ap (λ b. where_so b (regular.letter s p l)) unlinked)
  regular_unlinked (Tick now) = inl (ap (λ b. where_so (b && not p.down) (regular.ticks s p at)) unlinked)
  regular_unlinked _ = inl refl

  bind_unlinked : (i : Input) → Unlinked (bind.bind_rule s p at i)
  bind_unlinked (LinkUp now) = inr (subst (λ (b : Bool). BeginsWithLinked (where_so (not b) (bind.link_up p))) (sym unlinked) (record { rest = _; is = refl }))
  bind_unlinked (MessageIn now id rest) = inl (ap (λ b. where_so (b && not p.down) (bind.message s p (record { id = id; rest = rest }))) unlinked)
  bind_unlinked (LetterFrom now word sender l) = inl (ap (λ b. where_so b (bind.letter s p l)) unlinked)
  bind_unlinked (Tick now) = inl (ap (λ b. where_so (b && not p.down) (bind.ticks s p at)) unlinked)
  bind_unlinked _ = inl refl

  -- what gives that it is up begins with the link
  abbrev LinksFirst : ℕ → Act → Type 0
  LinksFirst u a = has_up u a.letters ≡ true → BeginsWithLinked a

  drained_by : (u : ℕ) (b : Bool) (a : Act) → Unlinked a → LinksFirst u (elim b [ true ↦ also a (act (what.Down Drained ∷ []) (to Desk (IsDown p.number))) | false ↦ a ])
  drained_by u true a (inl e) up = absurd (let bad : false ≡ true = sym (ap (λ (x : Act). has_up u (x.letters ++ to Desk (IsDown p.number))) e) ∙ up in cc)
  drained_by u false a (inl e) up = absurd (let bad : false ≡ true = sym (ap (λ (x : Act). has_up u x.letters) e) ∙ up in cc)
  drained_by u true a (inr h) up = record { rest = h.rest ++ what.Down Drained ∷ []; is = ap (λ l. l ++ what.Down Drained ∷ []) h.is }
  drained_by u false a (inr h) up = h

  act_unlinked : (u : ℕ) (i : Input) → LinksFirst u (connection_act s p at i)
  act_unlinked u i = by p.kind
    where
      by : (k : ConnKind) → LinksFirst u (elim k [ Regular ↦ regular.regular_act s p at i | BindKind ↦ bind.bind_act s p at i ])
      by Regular = drained_by u (is_drained (behind_act s at (letter_of i) p (regular.regular_rule s p at i))) (regular.regular_rule s p at i) (regular_unlinked i)
      by BindKind = drained_by u (is_drained (behind_act s at (letter_of i) p (bind.bind_rule s p at i))) (bind.bind_rule s p at i) (bind_unlinked i)

  placed_unlinked : (u : ℕ) (i : Input) (o : Option Place) → LinksFirst u (elim o [ None ↦ nothing | Some place ↦ connection_act s p at i ])
  placed_unlinked u i None up = absurd (let bad : false ≡ true = up in cc)
  placed_unlinked u i (Some place) up = act_unlinked u i up

  -- behind it the connection is linked
  links : (mark : Option Taken) (q : PartName) (a : Act) → BeginsWithLinked a → (step_connections s p (marked_by mark (entries_of q at a.whats))).linked ≡ true
  links mark q a h = subst (λ (l : List What). (step_connections s p (marked_by mark (entries_of q at l))).linked ≡ true) (sym h.is) (linked_stays s (step_connection s p (record { entry = record { part = q; at = at; what = what.Linked }; mark = mark })) (map (λ e. record { entry = e; mark = None }) (entries_of q at h.rest)) refl)

-- A turn.
module _ (s : Settings) (u : ℕ) (p : ConnectionState) where
  taken_up : (i : Input) → has_up u (connection_turn s p i).letters ≡ true → (step_connections s p (marked_by (letter_of i) (connection_turn s p i).entries)).linked ≡ true
  taken_up i up = by p.linked refl
    where
      by : (b : Bool) → p.linked ≡ b → (step_connections s p (marked_by (letter_of i) (connection_turn s p i).entries)).linked ≡ true
      by true e = linked_stays s p (marked_by (letter_of i) (connection_turn s p i).entries) e
      by false e = links s p (moment_for p.moment i) e (letter_of i) (Connection p.number) _ (placed_unlinked s p (moment_for p.moment i) e u i (place_at s p.number) up)

  -- an end of the link gives it never
  severed_up : (now : ℕ) (why : EndWhy) → has_up u (connection_sever p now why).letters ≡ true → (step_connections s p (marked_by None (connection_sever p now why).entries)).linked ≡ true
  severed_up now why up = by p.linked refl
    where
      by : (b : Bool) → p.linked ≡ b → (step_connections s p (marked_by None (connection_sever p now why).entries)).linked ≡ true
      by true e = linked_stays s p (marked_by None (connection_sever p now why).entries) e
      by false e = absurd (let bad : false ≡ true = sym (ap (λ b. has_up u (where_so (b && not p.down) (goes_down p why)).letters) e) ∙ up in cc)

-- The turns of a list.
module _ (s : Settings) (n u : ℕ) where
  abbrev is_linked_behind : List Marked → Bool
  is_linked_behind list = (connection_of s n list).linked

  linked_more : (before es : List Marked) → is_linked_behind before ≡ true → is_linked_behind (before ++ es) ≡ true
  linked_more before es h = ap (λ (q : ConnectionState). q.linked) (connections-fold s (empty_connection s n) before es) ∙ linked_stays s (connection_of s n before) es h

  intake_up : (before : List Marked) (x : Intake) → has_up u (turn_behind s (Connection n) before x).letters ≡ true → (step_connections s (connection_of s n before) (marked_by (letter_in x) (turn_behind s (Connection n) before x).entries)).linked ≡ true
  intake_up before (Takes i) up = taken_up s u (connection_of s n before) i up
  intake_up before (Severed now why) up = severed_up s u (connection_of s n before) now why up

  turn_up : (before : List Marked) (t : Turn) → IsEmptyTurn t ⊎ IsTurnOf s (Connection n) before t → has_up u t.letters ≡ true → is_linked_behind (before ++ t.entries) ≡ true
  turn_up before t (inl k) up = absurd (let bad : false ≡ true = sym (ap (has_up u) k.no_letters) ∙ up in cc)
  turn_up before t (inr k) up =
      ap (λ (q : ConnectionState). q.linked) (connections-fold s (empty_connection s n) before t.entries)
      ∙ subst (λ (es : List Marked). (step_connections s (connection_of s n before) es).linked ≡ true) (sym k.entries) (intake_up before k.intake (sym (ap (has_up u) k.letters) ∙ up))

  turns_up : (before : List Marked) (ts : List Turn) → AreTurnsFrom s (Connection n) before ts → (is_linked_behind before || has_up u (letters_of ts)) ≡ true → is_linked_behind (before ++ list_of_turns ts) ≡ true
  turns_up before [] are h = or_elim (is_linked_behind before) false (λ k. ap is_linked_behind (append-nil before) ∙ k) (λ k. absurd (let bad : false ≡ true = k in cc)) h
  turns_up before (t ∷ ts) are h =
      let rest : Bool = has_up u (letters_of ts) in
      let next : (is_linked_behind (before ++ t.entries) || rest) ≡ true = or_elim (is_linked_behind before) (has_up u (t.letters ++ letters_of ts)) (λ k. or_left (is_linked_behind (before ++ t.entries)) rest (linked_more before t.entries k)) (λ k. any_split (λ x. tells_up u x.letter) t.letters (letters_of ts) (λ j. or_left (is_linked_behind (before ++ t.entries)) rest (turn_up before t are.0 j)) (λ j. or_right (is_linked_behind (before ++ t.entries)) rest j) k) h in
      ap is_linked_behind (sym (append_assoc before t.entries (list_of_turns ts))) ∙ turns_up (before ++ t.entries) ts are.1 next

-- a connection whose turns gave that one is up is linked
pub gave_up : (s : Settings) (n u : ℕ) (ts : List Turn) → AreTurns s (Connection n) ts → has_up u (letters_of ts) ≡ true → (connection_of s n (list_of_turns ts)).linked ≡ true
gave_up s n u ts are up = turns_up s n u [] ts are (or_right (is_linked_behind s n u []) (has_up u (letters_of ts)) up)

-- Letters between two parts.
pub to_some : (u : ℕ) (q : PartName) (xs : List Posted) → list_any (tells_up u) (letters_to q xs) ≡ true → has_up u xs ≡ true
to_some u q [] h = h
to_some u q (x ∷ xs) h = by (same_part q x.to) h (to_some u q xs)
  where
    by : (b : Bool) → list_any (tells_up u) ((elim b [ true ↦ x.letter ∷ [] | false ↦ [] ]) ++ letters_to q xs) ≡ true → (list_any (tells_up u) (letters_to q xs) ≡ true → has_up u xs ≡ true) → has_up u (x ∷ xs) ≡ true
    by true k more = or_elim (tells_up u x.letter) (list_any (tells_up u) (letters_to q xs)) (λ j. or_left (tells_up u x.letter) (has_up u xs) j) (λ j. or_right (tells_up u x.letter) (has_up u xs) (more j)) k
    by false k more = or_right (tells_up u x.letter) (has_up u xs) (more k)

pub first_waits : (q : Letter → Bool) (test : Flight → Bool) (fs : List Flight) (f : Flight) → find test fs ≡ Some f → q f.posted.letter ≡ true → list_any q (map (λ (x : Flight). x.posted.letter) (filter test fs)) ≡ true
first_waits q test [] f e h = absurd (let bad : None ≡ Some f = e in cc)
first_waits q test (x ∷ fs) f e h = by (test x) e (λ k. first_waits q test fs f k h)
  where
    by : (b : Bool) → cond b (Some x) (find test fs) ≡ Some f → (find test fs ≡ Some f → list_any q (map (λ (y : Flight). y.posted.letter) (filter test fs)) ≡ true) → list_any q (map (λ (y : Flight). y.posted.letter) (cond b (x ∷ filter test fs) (filter test fs))) ≡ true
    by true k more = let same : x ≡ f = cc in or_left (q x.posted.letter) _ (ap (λ (y : Flight). q y.posted.letter) same ∙ h)
    by false k more = more k
