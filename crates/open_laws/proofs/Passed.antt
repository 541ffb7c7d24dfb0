-- What a connection's share says of pauses by its state, and of each entry, the promise says by the list.
use Rattle.std.proofs.Common.{◌≡◌, ℕ, Bool, true, List, [], ◌∷◌, ◌++◌, refl, ap, ◌∙◌, sym, subst}
use Rattle.std.specs.Prelude.{if◌then◌else◌}
use Rattle.std.specs.List.{list_all}
use Rattle.lload_names.specs.declared.names.ConnKind.{ConnKind}
use Rattle.lload_names.specs.declared.names.ConnKind.TheVariants.{Bind as BindKind, Regular}
use Rattle.lload_names.specs.declared.names.Entry.{Entry}
use Rattle.lload_spec.specs.Lists.{each_split_from}
use Rattle.lload_spec.specs.Pauses.{waiting_behind, waiting_clients, waiting_from}
use Rattle.lload_spec.specs.Settings.{Settings, is_kind, is_of_kind}
use Rattle.lload_spec.specs.Strict.{is_passed, may_pass}
use Rattle.lload_spec.proofs.Growth.{left, right, both}
use Rattle.part_spec.specs.ConnectionState.{ConnectionState, kind_at, step_connection}
use Rattle.part_spec.specs.Marked.{Marked, entries}
use Rattle.part_spec.specs.Share.{each_place}
use Rattle.connection_laws.proofs.ConnectionSays.{kind_step, waiting_step}
use Rattle.connection_laws.proofs.Permits.{push_entry}
use Rattle.upstream_laws.proofs.Places.{bind_alone, regular_alone}

-- the clients for which a connection pauses, behind an entry more
waits_push : (cs : List ℕ) (place : List Entry) (e : Entry) → waiting_from cs (place ++ e ∷ []) ≡ waiting_behind (waiting_from cs place) e.what
waits_push cs [] e = refl
waits_push cs (x ∷ place) e = waits_push (waiting_behind cs x.what) place e

-- the kind of a connection that has a place
pub regular_kind : (s : Settings) (u : ℕ) → is_of_kind s Regular u ≡ true → is_kind Regular (kind_at s u) ≡ is_of_kind s Regular u
regular_kind s u h = ap (λ b. is_kind Regular (if b then BindKind else Regular)) (regular_alone s u h) ∙ sym h

pub bind_kind : (s : Settings) (u : ℕ) → is_of_kind s BindKind u ≡ true → is_kind Regular (kind_at s u) ≡ is_of_kind s Regular u
bind_kind s u h = ap (λ b. is_kind Regular (if b then BindKind else Regular)) h ∙ sym (bind_alone s u h)

abbrev passes_so : ConnectionState → List Marked → Marked → List Marked → Bool
passes_so p place m behind = may_pass (is_kind Regular p.kind) p.waiting m.entry.what

pub passed : (s : Settings) (u : ℕ) (sort : ConnKind) → is_kind Regular sort ≡ is_of_kind s Regular u → (ms before : List Marked) (p : ConnectionState) → p.kind ≡ sort → p.waiting ≡ waiting_clients (entries before) → each_place (step_connection s) passes_so p before ms ≡ true → each_split_from (λ place e behind. is_passed s u place e) (entries before) (entries ms) ≡ true
passed s u sort same [] before p k w h = refl
passed s u sort same (m ∷ ms) before p k w h = both (is_passed s u (entries before) m.entry) _ (ap (λ b. may_pass b (waiting_clients (entries before)) m.entry.what) (sym (ap (is_kind Regular) k ∙ same)) ∙ ap (λ cs. may_pass (is_kind Regular p.kind) cs m.entry.what) (sym w) ∙ left (passes_so p before m ms) _ h) (subst (λ place. each_split_from (λ pl e behind. is_passed s u pl e) place (entries ms) ≡ true) (push_entry before m) (passed s u sort same ms (before ++ m ∷ []) (step_connection s p m) (kind_step s m.entry m.mark p m.entry.what ∙ k) (waiting_step s m.entry m.mark p m.entry.what ∙ ap (λ cs. waiting_behind cs m.entry.what) w ∙ sym (waits_push [] (entries before) m.entry) ∙ ap waiting_clients (sym (push_entry before m))) (right (passes_so p before m ms) _ h)))

-- a test of each entry alone, at each split
pub at_splits : (t : Entry → Bool) (before es : List Entry) → list_all t es ≡ true → each_split_from (λ place e behind. t e) before es ≡ true
at_splits t before [] h = refl
at_splits t before (e ∷ es) h = both (t e) _ (left (t e) _ h) (at_splits t (before ++ e ∷ []) es (right (t e) _ h))
