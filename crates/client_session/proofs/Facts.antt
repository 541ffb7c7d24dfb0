-- What the first check asks of the live operations, by the one under an identifier.
use Rattle.std.proofs.Common.{◌≡◌, ℕ, Bool, true, false, not, ◌==◌, ◌&&◌, ◌||◌, cond, List, [], ◌∷◌, filter, find, map, Option, Some, None, Bor, refl, ap, sym, ◌∙◌}
use Rattle.std.specs.Prelude.{is_some}
use Rattle.std.specs.List.{list_any}
use Rattle.std.specs.Option.{option_to_list, option_copied}
use Rattle.lload_names.specs.declared.names.CancelAnswer.TheVariants.{C15}
use Rattle.lload_spec.specs.FirstCheck.{LiveRequest, ClientFacts, Check as CheckRead, may_be_canceled, cancels, check_cancel}
use Rattle.lload_spec.specs.FirstCheck as read
use Rattle.client_rows.specs.Rows.{has_id, is_bind}
use Rattle.client_rows.specs.declared.row.Row.{Row}
use Rattle.client_session.specs.Checks.{live_row}

any-filter : (id : ℕ) (rs : List Row) → list_any (λ x. x.id == id) (map live_row rs) ≡ list_any (λ r. true) (filter (has_id id) rs)
any-filter id [] = refl
any-filter id (r ∷ rs) = by (r.id == id) (any-filter id rs)
  where
    by : (b : Bool) → list_any (λ x. x.id == id) (map live_row rs) ≡ list_any (λ r. true) (filter (has_id id) rs) → (b || list_any (λ x. x.id == id) (map live_row rs)) ≡ list_any (λ r. true) (cond b (r ∷ filter (has_id id) rs) (filter (has_id id) rs))
    by true ih = refl
    by false ih = ih

any-option : (o : Option Row) → list_any (λ r. true) (option_to_list o) ≡ is_some o
any-option None = refl
any-option (Some r) = refl

-- an identifier is in use where an operation stands under it
pub in-use : (id : ℕ) (rs : List Row) (o : Option Row) → filter (has_id id) rs ≡ option_to_list o → list_any (λ x. x.id == id) (map live_row rs) ≡ is_some o
in-use id rs o e = any-filter id rs ∙ ap (list_any (λ r. true)) e ∙ any-option o

-- the first one that may be canceled, of those under an identifier
abbrev pub first_not_bind : List Row → Option LiveRequest
first_not_bind [] = None
first_not_bind (r ∷ rs) = cond (not (is_bind r)) (Some (live_row r)) (first_not_bind rs)

find-filter : (id : ℕ) (rs : List Row) → find (may_be_canceled id) (map live_row rs) ≡ first_not_bind (filter (has_id id) rs)
find-filter id [] = refl
find-filter id (r ∷ rs) = by (r.id == id) (find-filter id rs)
  where
    by : (b : Bool) → find (may_be_canceled id) (map live_row rs) ≡ first_not_bind (filter (has_id id) rs) → cond (b && not (is_bind r)) (Some (live_row r)) (find (may_be_canceled id) (map live_row rs)) ≡ first_not_bind (cond b (r ∷ filter (has_id id) rs) (filter (has_id id) rs))
    by true ih = ap (cond (not (is_bind r)) (Some (live_row r))) ih
    by false ih = ih

pub cancels-one : (id : ℕ) (rs : List Row) (r : Row) → filter (has_id id) rs ≡ option_to_list (Some r) → is_bind r ≡ false → cancels (find (may_be_canceled id) (map live_row rs)) ≡ read.Cancels r.id r.kind
cancels-one id rs r e b = ap cancels (find-filter id rs ∙ ap first_not_bind e ∙ ap (λ t. cond (not t) (Some (live_row r)) None) b)

pub cancels-bind : (id : ℕ) (rs : List Row) (r : Row) → filter (has_id id) rs ≡ option_to_list (Some r) → is_bind r ≡ true → cancels (find (may_be_canceled id) (map live_row rs)) ≡ cancels None
cancels-bind id rs r e b = ap cancels (find-filter id rs ∙ ap first_not_bind e ∙ ap (λ t. cond (not t) (Some (live_row r)) None) b)

pub cancels-none : (id : ℕ) (rs : List Row) → filter (has_id id) rs ≡ [] → cancels (find (may_be_canceled id) (map live_row rs)) ≡ cancels None
cancels-none id rs e = ap cancels (find-filter id rs ∙ ap first_not_bind e)

-- a Cancel that names another
pub names-another : (f : ClientFacts) (id named : ℕ) (x : CheckRead) → (named == id) ≡ false → cancels (find (may_be_canceled named) f.live) ≡ x → check_cancel f id (Some named) ≡ x
names-another f id named x e h = ap (λ b. elim b [ true ↦ read.Answers C15 | false ↦ cancels (find (may_be_canceled named) f.live) ]) e ∙ h

pub in-use-by : (id : ℕ) (rs : List Row) (o : Option (Bor Row)) → filter (has_id id) rs ≡ option_to_list (option_copied o) → is_some o ≡ list_any (λ x. x.id == id) (map live_row rs)
in-use-by id rs None e = sym (in-use id rs None e)
in-use-by id rs (Some r) e = sym (in-use id rs (Some r.now) e)
