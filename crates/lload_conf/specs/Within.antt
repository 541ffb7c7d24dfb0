-- What the reader's draft keeps to: the limits of the proxy.
use Rattle.std.specs.Prelude.{◌≡◌, ◌≤◌, length, IfSome, None}
use Rattle.lload_names.specs.Plans.{NumberedFrom, backends_of, rooms_of}
use Rattle.lload_conf.specs.Answers.{IsLimit, IsOwnBind}
use Rattle.lload_conf.specs.Draft.{whole_plan}
use Rattle.lload_conf.specs.declared.draft.Draft.{Draft}

-- a draft is within the limits
pub record IsWithin (draft : Draft) : Type 0 where
  pub tiers : length (whole_plan draft.earlier draft.last) ≡ draft.tiers
  pub few_tiers : draft.tiers ≤ 64
  pub backends : length (backends_of (whole_plan draft.earlier draft.last)) ≡ length draft.hosts
  pub few_backends : length draft.hosts ≤ 64
  pub places : length (rooms_of (backends_of (whole_plan draft.earlier draft.last))) ≡ draft.places
  pub few_places : draft.places ≤ 512
  pub in_order : NumberedFrom 1 (backends_of (whole_plan draft.earlier draft.last))
  pub first : draft.last ≡ None → draft.tiers ≡ 0
  pub own_bind : IfSome draft.bind (λ bind. IfSome bind.own_bind IsOwnBind)
  pub client : IfSome draft.client_limit IsLimit
  pub upstream : IfSome draft.upstream_limit IsLimit
