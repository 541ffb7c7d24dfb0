-- What a Forward says of its operation.
use Rattle.std.specs.Prelude.{◌≡◌, ℕ, Bool, true, ◌&&◌, List, Option, IsTrue}
use Rattle.std.specs.List.{list_all, list_any}
use Rattle.ldap_spec.specs.Kinds.{kind_of, same_kind}
use Rattle.ldap_spec.specs.Responses.{has_code, who_value}
use Rattle.ldap_spec.specs.Tags.{success}
use Rattle.lload_names.specs.Same.{same_who}
use Rattle.lload_names.specs.declared.names.Letter.{Letter}
use Rattle.lload_names.specs.declared.names.Letter.TheVariants.{Forward, Reply}
use Rattle.lload_names.specs.declared.names.OpKind.{OpKind}
use Rattle.lload_names.specs.declared.names.OpName.{OpName}
use Rattle.lload_names.specs.declared.names.PartName.{PartName}
use Rattle.lload_names.specs.declared.names.PartName.TheVariants.{Client, Up as Connection}
use Rattle.lload_spec.specs.Answers.{Sending, asks_who, closing, closing_at}
use Rattle.lload_spec.specs.Identity.{who_by}
use Rattle.lload_spec.specs.Journal.{Family, IsWhole, same_op}
use Rattle.lload_spec.specs.Lists.{agrees, implies, passes, where_there}
use Rattle.lload_spec.specs.Operations.{Operation, operation, is_final_for}
use Rattle.lload_spec.specs.Settings.{Settings}
use Rattle.part_spec.specs.Marked.{Marked}
use Rattle.part_laws.specs.Turns.{Event}
use Rattle.client_laws.specs.Turns.{client_list}
use Rattle.connection_laws.specs.Turns.{connection_list}
use Rattle.joined_laws.specs.Joined.{Joined}

-- whether a Forward says rightly of what kind its operation is, and whether its identity is asked for
abbrev pub says_rightly : Settings → Bool → OpKind → Operation → Bool
says_rightly s ask_who kind o = passes (same_kind kind) (kind_of o.request.rest) && agrees ask_who (asks_who s o)

-- whether a letter, where it is a Forward, says of its operation what the family says
abbrev pub is_forward_right : Settings → Family → Letter → Bool
is_forward_right s F (Forward op kind _ ask_who holder) = passes (says_rightly s ask_who kind) (operation F op)
is_forward_right s F _ = true

-- whether each letter that a list took does
abbrev pub are_forwards_right : Settings → Family → List Marked → Bool
are_forwards_right s F list = list_all (λ m. where_there (λ t. is_forward_right s F t.letter) m.mark) list

-- each Forward that a part took says of its operation what the family says
abbrev pub ForwardsAreRight : Type 0
ForwardsAreRight =
    (s : Settings) (F : Family) (marked : PartName → List Marked) → Joined s F marked → (p : PartName)
    → IsTrue (are_forwards_right s F (marked p))

-- whether a Sent of this operation is settled by an answer that tells this identity
abbrev pub is_settled_so : Settings → OpName → Option (List ℕ) → Operation → Sending → Bool
is_settled_so s op who o sent =
    same_op op sent.op && passes (λ answer. same_who who (who_value answer)) (closing_at s o sent)

-- whether an answer tells the identity that the family says: where it is a success of a Bind whose identity is asked
-- for, that of the answer which settles the Bind at its connection
abbrev pub tells_rightly : Settings → OpName → List ℕ → Option (List ℕ) → List Sending → Operation → Bool
tells_rightly s op rest who sents o =
    implies (asks_who s o && (is_final_for o.request rest && has_code success rest))
    (list_any (is_settled_so s op who o) sents)

abbrev pub is_reply_right : Settings → Family → List Sending → Letter → Bool
is_reply_right s F sents (Reply op rest is_last who) = passes (tells_rightly s op rest who sents) (operation F op)
is_reply_right s F sents _ = true

-- whether a letter, where it is an answer of success to a Bind whose identity is asked for, tells the identity that the
-- answer which settles the Bind tells
abbrev pub is_identity_right : Settings → Family → Letter → Bool
is_identity_right s F (Reply op rest is_last who) =
    passes
    (λ o.
    implies (asks_who s o && (is_final_for o.request rest && has_code success rest))
    (same_who who (who_by (closing s F o))))
    (operation F op)
is_identity_right s F _ = true

-- whether each letter that a list took does
abbrev pub are_identities_right : Settings → Family → List Marked → Bool
are_identities_right s F list = list_all (λ m. where_there (λ t. is_identity_right s F t.letter) m.mark) list

-- a list is one that turns make
pub record IsMade (make : List Event → List Marked) (list : List Marked) : Type 0 where
  pub events : List Event
  pub same : make events ≡ list

-- the lists of a family are joined, and those of its clients and connections are made by turns of these
pub record Played (s : Settings) (F : Family) (marked : PartName → List Marked) : Type 0 where
  pub joined : Joined s F marked
  pub whole : IsWhole F
  pub clients : (c : ℕ) → IsMade (client_list s c) (marked (Client c))
  pub connections : (u : ℕ) → IsMade (connection_list s u) (marked (Connection u))

-- each answer that a client took tells the identity that the family says
abbrev pub IdentitiesAreRight : Type 0
IdentitiesAreRight =
    (s : Settings) (F : Family) (marked : PartName → List Marked) → Played s F marked → (c : ℕ)
    → IsTrue (are_identities_right s F (marked (Client c)))
