-- What a bind connection's state says is what its list says by the family: each Forward that it took is of a Bind, and says
-- rightly whether the identity is asked for.
use Rattle.std.proofs.Common.{◌≡◌, ℕ, true, List, ap, ◌∙◌, sym, subst}
use Rattle.std.specs.Prelude.{cond}
use Rattle.lload_names.specs.declared.names.ConnKind.TheVariants.{Regular, Bind as BindKind}
use Rattle.lload_names.specs.declared.names.PartName.{PartName}
use Rattle.lload_names.specs.declared.names.PartName.TheVariants.{Up as Connection}
use Rattle.lload_spec.specs.CausedUp.{message_facts as facts_by_list}
use Rattle.lload_spec.specs.Journal.{Family}
use Rattle.lload_spec.specs.Settings.{Settings, is_of_kind}
use Rattle.part_spec.specs.ConnectionState.{connection_of, message_facts}
use Rattle.part_spec.specs.Fit.{empty_connection_ledger, fit_beginning}
use Rattle.part_spec.specs.Laws.{FitIsWhole}
use Rattle.part_spec.specs.Marked.{Marked, entries}
use Rattle.part_spec.specs.Says.{ConnectionSays}
use Rattle.bind_laws.specs.Turns.{BindMeets, BindSays, are_told_rightly}
use Rattle.connection_laws.specs.Turns.{connection_list}
use Rattle.carried_laws.specs.Laws.{ForwardsAreRight, IsMade, Played}
use Rattle.carried_laws.proofs.RegularReplies.{told_from}
use Rattle.caused_laws.specs.Laws.{BindConnectionsSay, BindSaid}

module _ (rightly : ForwardsAreRight) (whole : FitIsWhole) (says : BindSays) (meets : BindMeets) (s : Settings) (F : Family) (marked : PartName → List Marked) (h : Played s F marked) (u : ℕ) (kind : is_of_kind s BindKind u ≡ true) where
  told : are_told_rightly s F (marked (Connection u)) ≡ true
  told = told_from s F (empty_connection_ledger s u) (marked (Connection u)) (ap (λ b. cond b BindKind Regular) kind) (rightly s F marked h.joined (Connection u)) (h.joined.fit (Connection u))

  is_made : IsMade (connection_list s u) (marked (Connection u))
  is_made = h.connections u

  same : fit_beginning s (Connection u) (connection_list s u is_made.events) ≡ marked (Connection u)
  same = ap (fit_beginning s (Connection u)) is_made.same ∙ whole s (Connection u) (marked (Connection u)) (h.joined.fit (Connection u))

  told_made : are_told_rightly s F (fit_beginning s (Connection u) (connection_list s u is_made.events)) ≡ true
  told_made = subst (λ l. are_told_rightly s F l ≡ true) (sym same) told

  said : BindSaid s F u (marked (Connection u))
  said =
      record {
        told = told;
        says = subst (ConnectionSays s F u) same (says s u kind F is_made.events told_made);
        meets = subst (λ l. message_facts (connection_of s u l) ≡ facts_by_list s F u (entries l)) same (meets s u kind F is_made.events told_made);
      }

pub connections_say : ForwardsAreRight → FitIsWhole → BindSays → BindMeets → BindConnectionsSay
connections_say rightly whole says meets s F marked h u kind = said rightly whole says meets s F marked h u kind
