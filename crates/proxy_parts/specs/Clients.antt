-- The parts of all clients, by number, and what a step of one makes.
use Rattle.std.specs.Prelude.{◌≡◌, ◌≢◌, ◌++◌, ℕ, Bool, true, false, Option, Some, None, ⊤}
use Rattle.std.specs.Ordering.{nat_cmp}
use Rattle.std.specs.BTreeMap.{get}
use Rattle.std.specs.BTreeSet.{btree_set_len, contains}
use Rattle.lload_names.specs.declared.inputs.Input.{Input}
use Rattle.lload_names.specs.declared.inputs.Input.TheVariants.{LetterFrom}
use Rattle.lload_spec.specs.Settings.{Settings}
use Rattle.part_spec.specs.ClientState.{ClientState, empty_client}
use Rattle.part_spec.specs.ClientTurn.{client_turn}
use Rattle.outbox.specs.declared.outbox.Outbox.{Outbox}
use Rattle.client_session.specs.declared.part.ClientPart.{ClientPart}
use Rattle.client_session.specs.Stands.{Stands, behind}
use Rattle.taken_laws.specs.Taking.{ClientMayTake}
use Rattle.proxy_parts.specs.declared.clients.Clients.{Clients}

-- the part of a client, where it came
abbrev pub client_part : Clients → ℕ → Option ClientPart
client_part t c = get nat_cmp t.parts c

-- whether the end of a client's link may still give something, and of how many it may
abbrev pub may_end : Clients → ℕ → Bool
may_end t c = contains nat_cmp t.standing c

abbrev pub ends_left : Clients → ℕ
ends_left t = btree_set_len t.standing

-- a part stands for a state; where there is none, for that of a client that never came
abbrev pub IsClient : Settings → ℕ → ClientState → Option ClientPart → Type 0
IsClient s c p None = p ≡ empty_client c
IsClient s c p (Some d) = Stands s p d

-- a client stands for a state in a table: its part does, and its end may give something where it isn't gone
pub record ClientIs (s : Settings) (c : ℕ) (p : ClientState) (t : Clients) : Type 0 where
  pub part : IsClient s c p (client_part t c)
  pub ending : client_part t c ≢ None → p.gone ≡ false → may_end t c ≡ true

-- a client is the same in two tables
pub record IsSameClient (c : ℕ) (t u : Clients) : Type 0 where
  pub part : client_part u c ≡ client_part t c
  pub ending : may_end u c ≡ may_end t c

-- which inputs a client may take
abbrev pub MayTake : ClientState → Input → Type 0
MayTake p (LetterFrom now word sender letter) = ClientMayTake p letter
MayTake p _ = ⊤

-- what was appended is the turn of an input, and the client stands for the state behind it
pub record Took (s : Settings) (c : ℕ) (p : ClientState) (input : Input) (old new : Outbox) (t : Clients) : Type 0 where
  pub entries : new.entries.items ≡ old.entries.items ++ (client_turn s p input).entries
  pub letters : new.letters.items ≡ old.letters.items ++ (client_turn s p input).letters
  pub stands : ClientIs s c (behind s p input) t
