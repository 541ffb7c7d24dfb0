-- Whether a chosen operation is over at its connection.
use Rattle.std.specs.Prelude.{ℕ, Bool, true, false, ◌==◌, ◌&&◌, not, if◌then◌else◌, List, [], ◌∷◌}
use Rattle.std.specs.List.{list_any}
use Rattle.lload_names.specs.declared.names.OpName.{OpName}
use Rattle.lload_names.specs.declared.names.ConnKind.TheVariants.{Bind as BindKind}
use Rattle.lload_spec.specs.Settings.{Settings, is_of_kind}
use Rattle.lload_spec.specs.Journal.{Family, same_op}
use Rattle.lload_spec.specs.Entries.{is_missed}
use Rattle.lload_spec.specs.Answers.{Sending, of_operation, is_left_in_progress, is_open}
use Rattle.lload_spec.specs.CausedUp.{is_holding}

-- whether the holder of a bind connection since these Sent entries is still the one of the first: each but the last was
-- answered with saslBindInProgress, and the last still holds
abbrev pub is_held_since : Settings → Family → List Sending → Bool
is_held_since s F [] = false
is_held_since s F (q ∷ []) = of_operation F (is_holding s) q
is_held_since s F (q ∷ r ∷ qs) =
    of_operation F is_left_in_progress q && q.op.client == r.op.client && is_held_since s F (r ∷ qs)

-- the Sent entries from the first of this operation on
abbrev pub from_sent : OpName → List Sending → List Sending
from_sent op [] = []
from_sent op (q ∷ qs) = elim (same_op op q.op) [ true ↦ q ∷ qs | false ↦ from_sent op qs ]

-- whether a chosen operation is over at its connection: it was missed there, or was Sent and is no longer open or no
-- longer holds
abbrev pub is_over_at : Settings → Family → OpName → ℕ → List Sending → Bool
is_over_at s F op u [] = list_any (is_missed op) (F.connection u)
is_over_at s F op u (q ∷ qs) =
    not (if is_of_kind s BindKind u then is_held_since s F (q ∷ qs) else of_operation F (is_open s) q)
