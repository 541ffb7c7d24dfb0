-- The messages that are fed and wait for the next settle, as the play has them.
use Rattle.ldap_spec.specs.Messages.{Message}
use Rattle.small_play.specs.declared.fed.Fed.{Fed}
use Rattle.small_play.specs.declared.messages.Lent.{Lent}

-- the message of the bytes that are fed
abbrev pub lent : Lent → Message
lent m = record { id = m.id; rest = m.rest.now }

-- the message that was fed
abbrev pub message : Fed → Message
message fed = record { id = fed.id; rest = fed.rest }
