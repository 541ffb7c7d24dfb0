-- The identifiers of each upstream connection: an operation gets the one that was freed first, else the next; an own
-- message gets the next.
use Rattle.std.specs.Prelude.{ℕ, suc, Bool, true, ◌==◌, ◌&&◌, ◌||◌, not, max, if◌then◌else◌, List, [], ◌∷◌, ◌++◌, filter, flat_map, is_some, is_none}
use Rattle.std.specs.List.{list_any, list_all}
use Rattle.ldap_spec.specs.Bodies.{abandon}
use Rattle.lload_names.specs.declared.names.Entry.{Entry}
use Rattle.lload_names.specs.declared.names.What.{What}
use Rattle.lload_names.specs.declared.names.What.TheVariants.{Sent, Own, Got}
use Rattle.lload_spec.specs.Settings.{Settings}
use Rattle.lload_spec.specs.Journal.{Family}
use Rattle.lload_spec.specs.Operations.{Operation}
use Rattle.lload_spec.specs.Entries.{is_own, is_expired}
use Rattle.lload_spec.specs.Answers.{Sending, sendings, of_operation, closing_at}

-- the next identifier of a connection, and the free ones, in the order in which they were freed
pub record Ids : Type 0 where
  pub next : ℕ
  pub free : List ℕ

-- where none was given
abbrev pub no_ids : Ids
no_ids = record { next = 1; free = [] }

-- the identifier that an operation gets
abbrev pub id_for : Ids → ℕ
id_for i = elim i.free [ [] ↦ i.next | n ∷ ns ↦ n ]

-- behind a Sent and behind an own message with this identifier, and behind one at which these were freed
abbrev pub with_sent_id : ℕ → Ids → Ids
with_sent_id id i = record { next = max i.next (suc id); free = filter (λ n. not (n == id)) i.free }

abbrev pub with_own_id : ℕ → Ids → Ids
with_own_id id i = record i { next = max i.next (suc id) }

abbrev pub with_freed : List ℕ → Ids → Ids
with_freed ids i = record i { free = i.free ++ ids }

-- whether what happened gives the right identifier, if it gives one
abbrev pub has_right_id : Ids → What → Bool
has_right_id i (Sent id op rest) = id == id_for i
has_right_id i (Own id rest) = id == i.next
has_right_id i _ = true

-- whether the operation of a Sent expired, or an Abandon named its identifier
abbrev pub is_given_up : Operation → Sending → Bool
is_given_up o sent = list_any (λ x. is_expired o.name x || is_own (abandon sent.id) x) sent.behind

-- whether an entry settles the operation of a Sent
abbrev pub is_settled_by : Settings → Entry → Operation → Sending → Bool
is_settled_by s e o sent =
    is_none (closing_at s o sent) && is_some (closing_at s o (record sent { behind = sent.behind ++ e ∷ [] }))

-- whether an entry frees the identifier of a Sent: it settles the operation, which wasn't given up before
abbrev pub frees : Settings → Entry → Operation → Sending → Bool
frees s e o sent = not (is_given_up o sent) && is_settled_by s e o sent

-- the identifier of a Sent, where an entry frees it
abbrev pub freed_id : Settings → Family → Entry → Sending → List ℕ
freed_id s F e sent = if of_operation F (frees s e) sent then sent.id ∷ [] else []

abbrev pub freed_by : Settings → Family → ℕ → List Entry → Entry → List ℕ
freed_by s F u place e = flat_map (freed_id s F e) (sendings u place)

-- the identifiers behind what happened, where these were freed
abbrev pub ids_with : What → List ℕ → Ids → Ids
ids_with (Sent id op rest) freed i = with_sent_id id i
ids_with (Own id rest) freed i = with_own_id id i
ids_with (Got id rest) freed i = with_freed freed i
ids_with _ freed i = i

-- the identifiers behind an entry, which stands behind these
abbrev pub ids_behind : Settings → Family → ℕ → List Entry → Entry → Ids → Ids
ids_behind s F u place e i = ids_with e.what (freed_by s F u place e) i

-- the identifiers behind these entries, which stand behind those before
abbrev pub ids_from : Settings → Family → ℕ → Ids → List Entry → List Entry → Ids
ids_from s F u i before [] = i
ids_from s F u i before (e ∷ es) = ids_from s F u (ids_behind s F u before e i) (before ++ e ∷ []) es

-- at a place of a connection's list
abbrev pub ids_at : Settings → Family → ℕ → List Entry → Ids
ids_at s F u place = ids_from s F u no_ids [] place

-- whether each entry of these that gives an identifier gives the right one, behind those before
abbrev pub has_right_ids_from : Settings → Family → ℕ → Ids → List Entry → List Entry → Bool
has_right_ids_from s F u i before [] = true
has_right_ids_from s F u i before (e ∷ es) =
    has_right_id i e.what && has_right_ids_from s F u (ids_behind s F u before e i) (before ++ e ∷ []) es

-- whether those of a connection do
abbrev pub has_right_ids : Settings → Family → ℕ → Bool
has_right_ids s F u = has_right_ids_from s F u no_ids [] (F.connection u)

-- whether those of each connection do
abbrev pub each_id_right : Settings → Family → Bool
each_id_right s F = list_all (has_right_ids s F) F.connections
