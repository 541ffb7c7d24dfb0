-- A part that has ended, and one whose client is told so.
use Rattle.std.specs.Prelude.{◌≡◌, ℕ, Bool, true, false, not, ◌&&◌, suc, if◌then◌else◌, List, [], Option, None}
use Rattle.ldap_spec.specs.Messages.{Message}
use Rattle.lload_names.specs.declared.names.EndWhy.{EndWhy}
use Rattle.lload_names.specs.declared.names.EndWhy.TheVariants.{Bad, TooBig}
use Rattle.lload_names.specs.declared.names.OpKind.TheVariants.{Bind}
use Rattle.lload_spec.specs.Entries.{makes_operation}
use Rattle.lload_spec.specs.Operations.{is_request_of}
use Rattle.part_spec.specs.ClientState.{ClientState, with_end}
use Rattle.client_session.specs.declared.part.ClientPart.{ClientPart}

-- nothing is live then, and nothing is held or paused; all else is as it was
pub record IsEnded (at : ℕ) (old new : ClientPart) : Type 0 where
  pub settings : new.settings ≡ old.settings
  pub number : new.number ≡ old.number
  pub moment : new.moment ≡ at
  pub arrived : new.arrived ≡ old.arrived
  pub gone : new.gone ≡ true
  pub operations : new.operations ≡ record { count = old.operations.count; rows = [] }
  pub asked : new.asked ≡ old.asked
  pub identity : new.identity ≡ old.identity
  pub in_exchange : new.in_exchange ≡ old.in_exchange
  pub hold : new.hold ≡ None
  pub stalled : new.stalled ≡ false
  pub paused : new.paused.keys ≡ []

-- whether the bytes of a link are the reason: they are no message, or one that is too big
abbrev pub is_of_bytes : EndWhy → Bool
is_of_bytes Bad = true
is_of_bytes TooBig = true
is_of_bytes _ = false

-- a client that is gone
abbrev pub ended : ℕ → ClientState → ClientState
ended at p = record (with_end p) { moment = at }

-- a message came that makes an operation, or none: a Bind empties the identity
abbrev pub counted : Message → ClientState → ClientState
counted m p =
    elim (makes_operation m) [
      | false ↦ p
      | true ↦ elim (is_request_of Bind m) [
        | true ↦ record p { count = suc p.count; identity = []; in_exchange = false }
        | false ↦ record p { count = suc p.count }
      ]
    ]
