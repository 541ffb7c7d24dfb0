-- The actions of OIDs, as they are kept and as the definitions have them.
use Rattle.std.specs.Prelude.{ℕ, List, [], ◌∷◌, Option, find}
use Rattle.std.specs.Cmp.Lexicographic.{slice_cmp}
use Rattle.std.specs.Ordering.{match_ordering, nat_cmp}
use Rattle.std.specs.Str.{bytes_eq}
use Rattle.std.specs.declared.vec.Vec.{Vec}
use Rattle.lload_spec.specs.Settings.{Action as ActionSet, Ignore, Write, BindBackend, BindConnection, Reject, Restriction}
use Rattle.restrictions.specs.declared.action.Action.{Action}
use Rattle.restrictions.specs.declared.action.Action.TheVariants as kept

-- the action that is kept
abbrev pub action_view : Action → ActionSet
action_view kept.Ignore = Ignore
action_view kept.Write = Write
action_view kept.Backend = BindBackend
action_view kept.Connection = BindConnection
action_view kept.Reject = Reject

-- an OID with its action
abbrev pub restriction : List ℕ → ActionSet → Restriction
restriction oid a = record { oid = oid; action = a }

-- the restrictions of the entries of a map
abbrev pub restrictions_of : {Z : Type 0} → List (Vec ℕ Z × Action) → List Restriction
restrictions_of [] = []
restrictions_of (e ∷ es) = restriction e.0.items (action_view e.1) ∷ restrictions_of es

-- the restriction of an OID
abbrev pub restriction_of : List ℕ → List Restriction → Option Restriction
restriction_of oid rs = find (λ r. bytes_eq r.oid oid) rs

-- restrictions with one more, at its place in the order of the OIDs' bytes
abbrev pub put : List ℕ → ActionSet → List Restriction → List Restriction
put oid a [] = restriction oid a ∷ []
put oid a (r ∷ rs) =
    match_ordering (slice_cmp nat_cmp oid r.oid) (restriction oid a ∷ r ∷ rs) (restriction r.oid a ∷ rs) (r ∷ put oid a rs)
