-- What is known at each place of a connection's list, by its share and by fit letters.
use Rattle.std.proofs.Common.{◌≡◌, ℕ, Bool, true, false, ◌==◌, ◌&&◌, ◌||◌, not, if◌then◌else◌, List, [], ◌∷◌, ◌++◌, refl, ap, ◌∙◌, sym, subst}
use Rattle.std.specs.Prelude.{Option, Some, None, is_some}
use Rattle.std.specs.List.{list_any}
use Rattle.std.proofs.Math.Bool.{or-false}
use Rattle.ldap_spec.specs.Kinds.{kind_of, same_kind}
use Rattle.lload_names.specs.declared.names.ConnKind.{ConnKind}
use Rattle.lload_names.specs.declared.names.ConnKind.TheVariants.{Regular, Bind as BindKind}
use Rattle.lload_names.specs.declared.names.Entry.{Entry}
use Rattle.lload_names.specs.declared.names.Letter.{Letter}
use Rattle.lload_names.specs.declared.names.Letter.TheVariants.{Forward}
use Rattle.lload_names.specs.declared.names.OpKind.TheVariants.{Bind}
use Rattle.lload_names.specs.declared.names.PartName.{PartName}
use Rattle.lload_names.specs.declared.names.PartName.TheVariants.{Client}
use Rattle.lload_names.specs.declared.names.What.{What}
use Rattle.lload_names.specs.declared.names.What.TheVariants as what
use Rattle.lload_names.specs.declared.plans.Place.{Place}
use Rattle.lload_spec.specs.Entries.{is_linked, is_of_connection}
use Rattle.lload_spec.specs.Identifiers.{has_right_id}
use Rattle.lload_spec.specs.Lists.{agrees, each_split_from, passes}
use Rattle.lload_spec.specs.OneEach.{begins_with_bind, is_own_bind}
use Rattle.lload_spec.specs.Journal.{same_part}
use Rattle.lload_spec.specs.Settings.{Settings, is_kind, place_at}
use Rattle.lload_spec.specs.Strict.{is_empty, lives_as_connection, may_pass}
use Rattle.lload_spec.proofs.Growth.{left, right, both}
use Rattle.part_laws.proofs.ListLaws.{or_true}
use Rattle.part_spec.specs.ConnectionState.{ConnectionState, connection_behind, empty_connection, is_bind, is_under_own, kind_at, step_connection}
use Rattle.part_spec.specs.Fit.{ConnectionLedger, empty_connection_ledger, step_connection_ledger, fits_connection, are_fit_from, is_free_for, is_held_for, is_forward_of, is_of_its_kind, is_unfit}
use Rattle.part_spec.specs.Marked.{Marked, Taken, entries}
use Rattle.part_spec.specs.Marks.{each_from, has_connection_mark}
use Rattle.part_spec.specs.Share.{ConnectionShare, each_place, is_bad_told, is_sent_once}
use Rattle.connection_laws.proofs.ConnectionSays.{UpSays, up_says_more, kind_step, linked_step, number_step}
use Rattle.connection_laws.proofs.Permits.{push_entry}
use Rattle.joined_laws.proofs.Taken.{is_fit_there}
use Rattle.fifo_laws.proofs.SentOnce.{first_of, of_client}
use Rattle.answer_laws.proofs.Ids.{Ids, ids_more, is_of_its_sort}

-- what the state and the list say at a place
pub record At (s : Settings) (u : ℕ) (place : List Entry) (p : ConnectionState) : Type 0 where
  pub ids : Ids place p
  pub says : UpSays place p
  pub begins : is_empty place ≡ not p.linked
  pub number : p.number ≡ u
  pub kind : p.kind ≡ kind_at s u
  pub bare : is_bind p ≡ true → p.own_bind ≡ None

-- whether a Forward comes from the client of its operation
abbrev pub is_of_its_client : PartName → Letter → Bool
is_of_its_client sender (Forward op sort rest ask holder) = same_part (Client op.client) sender
is_of_its_client sender _ = true

-- what the share says of an entry, by the state before it
pub record Right (s : Settings) (u : ℕ) (b : List Marked) (p : ConnectionState) (m : Marked) (ms : List Marked) : Type 0 where
  pub marked : has_connection_mark p m ≡ true
  pub id_right : has_right_id p.ids m.entry.what ≡ true
  pub passed : may_pass (is_kind Regular p.kind) p.waiting m.entry.what ≡ true
  pub once : is_sent_once p (entries b) m ≡ true
  pub bad : is_bad_told p m ms ≡ true
  pub life : lives_as_connection (entries b) m.entry ≡ true
  pub fit : (t : Taken) → m.mark ≡ Some t → is_of_its_sort p t.letter ≡ true
  pub sender : (t : Taken) → m.mark ≡ Some t → is_of_its_client t.sender t.letter ≡ true

abbrev pub Rights : Settings → ℕ → List Marked → ConnectionState → List Marked → Type 0
Rights s u b p [] = Unit {0}
Rights s u b p (m ∷ ms) = Right s u b p m ms × Rights s u (b ++ m ∷ []) (step_connection s p m) ms

pub marks_of : (s : Settings) (u : ℕ) (b : List Marked) (p : ConnectionState) (ms : List Marked) → Rights s u b p ms → each_from (step_connection s) has_connection_mark p ms ≡ true
marks_of s u b p [] h = refl
marks_of s u b p (m ∷ ms) h = both (has_connection_mark p m) _ h.0.marked (marks_of s u (b ++ m ∷ []) (step_connection s p m) ms h.1)

-- a bind connection has no own Bind
one_kind : (s : Settings) (u : ℕ) → is_kind BindKind (kind_at s u) ≡ true → begins_with_bind s u ≡ false
one_kind s u h = by (place_at s u) h
  where
    kind_by : Option Place → ConnKind
    kind_by o = if elim o [ None ↦ false | Some x ↦ is_kind BindKind x.kind ] then BindKind else Regular

    sort : (k : ConnKind) → is_kind BindKind (if is_kind BindKind k then BindKind else Regular) ≡ true → (is_kind Regular k && is_some s.own_bind) ≡ false
    sort Regular j = absurd (let bad : false ≡ true = j in cc)
    sort BindKind j = refl

    by : (o : Option Place) → is_kind BindKind (kind_by o) ≡ true → ((elim o [ None ↦ false | Some x ↦ is_kind Regular x.kind ]) && is_some s.own_bind) ≡ false
    by None j = refl
    by (Some x) j = sort x.kind j

module _ (s : Settings) (u : ℕ) (b : List Marked) (p : ConnectionState) (m : Marked) (ms : List Marked) (at : At s u (entries b) p) (r : Right s u b p m ms) where
  linked_more : is_empty (entries b ++ m.entry ∷ []) ≡ not (step_connection s p m).linked
  linked_more = not_empty (entries b) ∙ by (is_linked m.entry.what) (is_empty (entries b)) (left (agrees (is_linked m.entry.what) (is_empty (entries b))) _ (left (agrees (is_linked m.entry.what) (is_empty (entries b)) && _) _ r.life)) at.begins (linked_step s m.entry m.mark p m.entry.what)
    where
      not_empty : (xs : List Entry) → is_empty (xs ++ m.entry ∷ []) ≡ false
      not_empty [] = refl
      not_empty (x ∷ xs) = refl

      by : (x y : Bool) → agrees x y ≡ true → y ≡ not p.linked → (step_connection s p m).linked ≡ (p.linked || x) → false ≡ not (step_connection s p m).linked
      by true true i j k = sym (ap not (k ∙ or_true p.linked))
      by false false i j k = sym (ap not (k ∙ or-false p.linked ∙ linked_now p.linked j))
        where
          linked_now : (z : Bool) → false ≡ not z → z ≡ true
          linked_now true e = refl
          linked_now false e = absurd (let bad : false ≡ true = e in cc)
      by true false i j k = absurd (let bad : false ≡ true = i in cc)
      by false true i j k = absurd (let bad : false ≡ true = i in cc)

  bare_more : is_bind (step_connection s p m) ≡ true → (step_connection s p m).own_bind ≡ None
  bare_more h = by m.entry.what refl
    where
      before : is_bind p ≡ true
      before = ap (is_kind BindKind) (sym (kind_step s m.entry m.mark p m.entry.what)) ∙ h

      none : p.own_bind ≡ None
      none = at.bare before

      no_first : begins_with_bind s p.number ≡ false
      no_first = ap (begins_with_bind s) at.number ∙ one_kind s u (ap (is_kind BindKind) (sym at.kind) ∙ before)

      by : (w : What) → m.entry.what ≡ w → (connection_behind s m.entry m.mark p w).own_bind ≡ None
      by (what.Own id rest) e = ap (λ x. if x && (p.ids.next == 1) && is_own_bind s m.entry then Some (record { id = id; at = m.entry.at }) else p.own_bind) no_first ∙ none
      by (what.Got id rest) e = on (is_under_own p id)
        where
          on : (x : Bool) → (if x then None else p.own_bind) ≡ None
          on true = refl
          on false = none
      by what.Linked e = none
      by _ e = none

  pub at_more : At s u (entries b ++ m.entry ∷ []) (step_connection s p m)
  at_more =
      record {
        ids = ids_more s (entries b) p m at.ids r.marked r.id_right r.once r.fit;
        says = up_says_more s (entries b) p m at.says;
        begins = linked_more;
        number = number_step s m.entry m.mark p m.entry.what ∙ at.number;
        kind = kind_step s m.entry m.mark p m.entry.what ∙ at.kind;
        bare = bare_more;
      }

pub nothing_at : (s : Settings) (u : ℕ) → At s u [] (empty_connection s u)
nothing_at s u =
    record {
      ids = record { apart = refl; rows = refl; free = refl; free_apart = refl; above = refl; sent = refl; own = refl; kinds = refl };
      says = record { moment = refl; linked = refl; up = refl; retired = refl; down = refl };
      begins = refl;
      number = refl;
      kind = refl;
      bare = λ h. refl;
    }

-- The share and the fit letters, entry by entry.
fifth : (a b c d e f : Bool) → (a && b && c && d && e && f) ≡ true → e ≡ true
fifth a b c d e f h = right (a && b && c && d) e (left (a && b && c && d && e) f h)

sort_fits : (s : Settings) (l : ConnectionLedger) (sender : PartName) (x : Letter) → fits_connection s l sender x ≡ true → is_of_its_sort l.state x ≡ true
sort_fits s l sender (Forward op kind rest ask holder) h =
    right (passes (same_kind kind) (kind_of rest)) (agrees (same_kind Bind kind) (is_bind l.state)) (left (passes (same_kind kind) (kind_of rest) && agrees (same_kind Bind kind) (is_bind l.state)) _
    (fifth (same_part sender (Client op.client)) (same_part sender (Client holder.client)) (not (list_any (λ t. is_forward_of op t.letter) l.taken)) l.state.up (is_of_its_kind s l.state kind rest ask) (not (is_bind l.state) || is_free_for l.state holder && is_held_for l.state op holder) h))
sort_fits s l sender _ h = refl

client_fits : (s : Settings) (l : ConnectionLedger) (sender : PartName) (x : Letter) → fits_connection s l sender x ≡ true → is_of_its_client sender x ≡ true
client_fits s l sender (Forward op kind rest ask holder) h =
    of_client sender op.client (first_of (same_part sender (Client op.client)) (same_part sender (Client holder.client)) (not (list_any (λ t. is_forward_of op t.letter) l.taken)) l.state.up (is_of_its_kind s l.state kind rest ask) (not (is_bind l.state) || is_free_for l.state holder && is_held_for l.state op holder) h)
client_fits s l sender _ h = refl

pub rights : (s : Settings) (u : ℕ) (b : List Marked) (l : ConnectionLedger) (ms : List Marked)
    → each_from (step_connection s) has_connection_mark l.state ms ≡ true
    → each_place (step_connection s) (λ p c m d. has_right_id p.ids m.entry.what) l.state b ms ≡ true
    → each_place (step_connection s) (λ p c m d. may_pass (is_kind Regular p.kind) p.waiting m.entry.what) l.state b ms ≡ true
    → each_place (step_connection s) (λ p c m d. is_sent_once p (entries c) m) l.state b ms ≡ true
    → each_place (step_connection s) (λ p c m d. is_bad_told p m d) l.state b ms ≡ true
    → each_split_from (λ place e d. is_of_connection e.what && lives_as_connection place e) (entries b) (entries ms) ≡ true
    → are_fit_from (fits_connection s) (step_connection_ledger s) l ms ≡ true
    → Rights s u b l.state ms
rights s u b l [] mk id pa on ba li f = tt
rights s u b l (m ∷ ms) mk id pa on ba li f = (
  record {
    marked = left (has_connection_mark l.state m) _ mk;
    id_right = left (has_right_id l.state.ids m.entry.what) _ id;
    passed = left (may_pass (is_kind Regular l.state.kind) l.state.waiting m.entry.what) _ pa;
    once = left (is_sent_once l.state (entries b) m) _ on;
    bad = left (is_bad_told l.state m ms) _ ba;
    life = right (is_of_connection m.entry.what) _ (left (is_of_connection m.entry.what && lives_as_connection (entries b) m.entry) _ li);
    fit = λ t e. sort_fits s l t.sender t.letter (there t e);
    sender = λ t e. client_fits s l t.sender t.letter (there t e);
  },
  rights s u (b ++ m ∷ []) (step_connection_ledger s l m) ms (right (has_connection_mark l.state m) _ mk) (right (has_right_id l.state.ids m.entry.what) _ id) (right (may_pass (is_kind Regular l.state.kind) l.state.waiting m.entry.what) _ pa) (right (is_sent_once l.state (entries b) m) _ on) (right (is_bad_told l.state m ms) _ ba)
      (subst (λ place. each_split_from (λ x e d. is_of_connection e.what && lives_as_connection x e) place (entries ms) ≡ true) (sym (push_entry b m)) (right (is_of_connection m.entry.what && lives_as_connection (entries b) m.entry) _ li))
      (right (not (is_unfit (fits_connection s) l m.mark)) _ f),
)
  where
    there : (t : Taken) → m.mark ≡ Some t → fits_connection s l t.sender t.letter ≡ true
    there t e = is_fit_there (fits_connection s) l t (are_fit_from (fits_connection s) (step_connection_ledger s) (step_connection_ledger s l m) ms) (subst (λ mark. (not (is_unfit (fits_connection s) l mark) && are_fit_from (fits_connection s) (step_connection_ledger s) (step_connection_ledger s l m) ms) ≡ true) e f)

pub rights_of : (s : Settings) (u : ℕ) (list : List Marked) → ConnectionShare s u list → are_fit_from (fits_connection s) (step_connection_ledger s) (empty_connection_ledger s u) list ≡ true → Rights s u [] (empty_connection s u) list
rights_of s u list h f = rights s u [] (empty_connection_ledger s u) list h.marks h.ids_right h.passed h.sent_once h.bad_messages h.life f
