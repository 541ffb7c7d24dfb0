use Rattle.std.proofs.Common.{◌≡◌, ℕ, ap, subst, sym, ◌∙◌}
use Rattle.std.specs.BTreeMap.{insert_entry}
use Rattle.std.specs.Ordering.{nat_cmp}
use Rattle.slab.specs.Slab.{get}
use Rattle.id_table.specs.Places.{entries_at, ArePlaces}
use Rattle.id_table.proofs.Places.{entries-insert, places-insert, entries-kept, places-kept}
use Rattle.id_table.proofs.filed.FiledRows.insert.Goals as goal

pub invariant_of-self : goal.invariant_of-self
invariant_of-self c = places-kept c.self.inside.rows c.reserve.new.self c.self.inside.places.entries (λ k. ap (λ s. get s k) c.reserve.ensures.rest_kept) c.self.invariant

pub invariant_of-self-in_err-insert : goal.invariant_of-self-in_err-insert
invariant_of-self-in_err-insert c =
    let kept = places-kept c.self.inside.rows c.reserve.new.self c.self.inside.places.entries (λ k. ap (λ s. get s k) c.reserve.ensures.rest_kept) c.self.invariant in
    subst (ArePlaces c.reserve.new.self) (sym c.in_err-insert.ensures.err) kept

pub invariant_of-self-2 : goal.invariant_of-self-2
invariant_of-self-2 c =
    let kept = places-kept c.self.inside.rows c.reserve.new.self c.self.inside.places.entries (λ k. ap (λ s. get s k) c.reserve.ensures.rest_kept) c.self.invariant in
    let key : c.insert_reserved.result ≡ c.vacant_key.result = c.insert_reserved.ensures.key ∙ sym c.vacant_key.ensures.value in
    let places = c.in_ok-insert.ensures.entries ∙ ap (insert_entry nat_cmp c.self.inside.places.entries c.args.id) (sym key) in
    let up = c.insert_reserved.ensures.updates in
    subst (ArePlaces c.insert_reserved.new.self) (sym places) (places-insert c.args.id c.insert_reserved.result c.args.row c.reserve.new.self c.insert_reserved.new.self c.self.inside.places.entries up.others c.insert_reserved.ensures.was_vacant up.changed kept)

pub returns-clause-ok : goal.returns-clause-ok
returns-clause-ok c =
    let same : (k : ℕ) → get c.reserve.new.self k ≡ get c.self.inside.rows k = λ k. ap (λ s. get s k) c.reserve.ensures.rest_kept in
    let kept = places-kept c.self.inside.rows c.reserve.new.self c.self.inside.places.entries same c.self.invariant in
    let key : c.insert_reserved.result ≡ c.vacant_key.result = c.insert_reserved.ensures.key ∙ sym c.vacant_key.ensures.value in
    let places = c.in_ok-insert.ensures.entries ∙ ap (insert_entry nat_cmp c.self.inside.places.entries c.args.id) (sym key) in
    let up = c.insert_reserved.ensures.updates in
    ap (entries_at c.insert_reserved.new.self) places
    ∙ entries-insert c.args.id c.insert_reserved.result c.args.row c.reserve.new.self c.insert_reserved.new.self c.self.inside.places.entries up.others c.insert_reserved.ensures.was_vacant up.changed kept
    ∙ ap (λ es. insert_entry nat_cmp es c.args.id c.args.row) (entries-kept c.self.inside.rows c.reserve.new.self c.self.inside.places.entries same ∙ c.self.view_is)
