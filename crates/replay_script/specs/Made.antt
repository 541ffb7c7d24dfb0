-- The script that is made from a seed (this project's own): eight clients send Deletes and Searches over the regular
-- connections of the configuration `bench`, one in each round, and each is answered in its round.
use Rattle.std.specs.Prelude.{ℕ, zero, suc, ◌+◌, ◌-◌, ◌/◌, ◌%◌, ◌==◌, Bool, if◌then◌else◌, List, [], ◌∷◌, ◌++◌, map, slice_index_or}
use Rattle.ldap_spec.specs.Messages.{canonical}
use Rattle.lload_names.specs.declared.command.Command.{Command}
use Rattle.lload_names.specs.declared.command.Command.TheVariants.{ClientArrives, ClientBytes, UpReady, UpBytes, Settle}
use Rattle.rand_core.specs.Pcg32Seed.{pcg32_seed}
use Rattle.rand_pcg.specs.Lcg.{Lcg}
use Rattle.rand_pcg.specs.Pcg.{pcg32, pcg32_of_seed}

-- a Delete of o=a, and its success (RFC 4511, 4.8)
abbrev pub delete_body : List ℕ
delete_body = 0x4A ∷ 0x03 ∷ 0x6F ∷ 0x3D ∷ 0x61 ∷ []

abbrev pub delete_done : List ℕ
delete_done = 0x6B ∷ 0x07 ∷ 0x0A ∷ 0x01 ∷ 0x00 ∷ 0x04 ∷ 0x00 ∷ 0x04 ∷ 0x00 ∷ []

-- a Search for the presence of objectClass, an entry, and its success (4.5)
abbrev pub search_body : List ℕ
search_body = 0x63 ∷ 0x20 ∷ 0x04 ∷ 0x00 ∷ 0x0A ∷ 0x01 ∷ 0x00 ∷ 0x0A ∷ 0x01 ∷ 0x00 ∷ 0x02 ∷ 0x01 ∷ 0x00 ∷ 0x02 ∷ 0x01
    ∷ 0x00 ∷ 0x01 ∷ 0x01 ∷ 0x00 ∷ 0x87 ∷ 0x0B ∷ 0x6F ∷ 0x62 ∷ 0x6A ∷ 0x65 ∷ 0x63 ∷ 0x74 ∷ 0x43 ∷ 0x6C ∷ 0x61 ∷ 0x73
    ∷ 0x73 ∷ 0x30 ∷ 0x00 ∷ []

abbrev pub search_entry : List ℕ
search_entry = 0x64 ∷ 0x07 ∷ 0x04 ∷ 0x03 ∷ 0x6F ∷ 0x3D ∷ 0x61 ∷ 0x30 ∷ 0x00 ∷ []

abbrev pub search_done : List ℕ
search_done = 0x65 ∷ 0x07 ∷ 0x0A ∷ 0x01 ∷ 0x00 ∷ 0x04 ∷ 0x00 ∷ 0x04 ∷ 0x00 ∷ []

-- the regular connections, in the order in which they come to answer, and the clients
abbrev pub connections : List ℕ
connections = 1 ∷ 4 ∷ 2 ∷ 5 ∷ []

abbrev pub clients : List ℕ
clients = 1 ∷ 2 ∷ 3 ∷ 4 ∷ 5 ∷ 6 ∷ 7 ∷ 8 ∷ []

-- the regular connections are made ready, and the clients arrive
abbrev pub opening : List Command
opening =
    UpReady 1 ∷ UpReady 2 ∷ UpReady 4 ∷ UpReady 5
    ∷ map (λ n. ClientArrives n) clients ++ (Settle ∷ [])

-- the client of a round, whether it searches, and the connection that answers
abbrev pub client_of : ℕ → ℕ
client_of r = 1 + r % 8

abbrev pub searches : ℕ → Bool
searches r = r / 8 % 4 == 0

abbrev pub connection_of : ℕ → ℕ
connection_of j = slice_index_or connections ((j - 1) % 4) 0

-- a message in its canonical spelling
abbrev pub spelled : ℕ → List ℕ → List ℕ
spelled id rest = canonical (record { id = id; rest = rest })

-- a request of a client with this identifier, and its answers by a connection, under identifier 1, which is free again
-- in each round
abbrev pub search_round : ℕ → ℕ → ℕ → List Command
search_round id client conn =
    ClientBytes client (spelled id search_body) ∷ Settle
    ∷ UpBytes conn (spelled 1 search_entry) ∷ UpBytes conn (spelled 1 search_done) ∷ Settle ∷ []

abbrev pub delete_round : ℕ → ℕ → ℕ → List Command
delete_round id client conn =
    ClientBytes client (spelled id delete_body) ∷ Settle ∷ UpBytes conn (spelled 1 delete_done) ∷ Settle ∷ []

-- the commands of round j, from 1 on, with a random word: its identifier is the round's number
abbrev pub round : ℕ → ℕ → List Command
round j r =
    if searches r then search_round j (client_of r) (connection_of j)
    else delete_round j (client_of r) (connection_of j)

-- so many rounds from round j on, by the words of a generator
abbrev pub rounds_from : ℕ → ℕ → Lcg → List Command
rounds_from zero j words = []
rounds_from (suc left) j words = round j (pcg32 words).0 ++ rounds_from left (j + 1) (pcg32 words).1

-- the script of so many rounds and a seed
abbrev pub made : ℕ → ℕ → List Command
made rounds seed = opening ++ rounds_from rounds 1 (pcg32_of_seed (pcg32_seed 16 seed))
