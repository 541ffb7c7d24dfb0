-- The directives and keys of lloadd.conf(5), as this project takes them: the arguments, ranges, defaults and effects are
-- its own. Names are compared without regard to ASCII case.
use Rattle.std.specs.Prelude.{ℕ, Bool, List, [], ◌∷◌, take, codes, find, Option, Some, None, option_map, if◌then◌else◌}
use Rattle.std.specs.Borrow.{Bor}
use Rattle.std.specs.Option.{option_or}
use Rattle.std.specs.Str.{str_eq_ignore_ascii_case}
use Rattle.lload_conf.specs.declared.table.Arguments.{Arguments}
use Rattle.lload_conf.specs.declared.table.Arguments.TheVariants.{One, Each, Pairs, Restriction, Unread}
use Rattle.lload_conf.specs.declared.table.Directive.{Directive}
use Rattle.lload_conf.specs.declared.table.Directive.TheVariants as directive
use Rattle.lload_conf.specs.declared.table.Keys.{Keys}
use Rattle.lload_conf.specs.declared.table.Keys.TheVariants.{Bind, Backend}
use Rattle.lload_conf.specs.declared.table.Number.{Number}
use Rattle.lload_conf.specs.declared.table.Takes.{Takes}
use Rattle.lload_conf.specs.declared.table.Takes.TheVariants as takes

-- the numbers from `low` to `high`, of which `default` stands where none is given
abbrev pub numbers : ℕ → ℕ → ℕ → Number
numbers low high default = record { low = low; high = high; default = default }

-- all numbers of 32 bits
abbrev pub any_number : ℕ → Number
any_number default = numbers 0 4294967295 default

abbrev pub client_max_pending : Number
client_max_pending = any_number 0

abbrev pub client_max_unsent : Number
client_max_unsent = any_number 0

abbrev pub write_coherence : Number
write_coherence = numbers 0 2147483647 0

-- what stands behind the sign of a negative one
abbrev pub negative_coherence : Number
negative_coherence = numbers 0 2147483648 0

abbrev pub client_limit : Number
client_limit = numbers 1 268435455 262143

abbrev pub upstream_limit : Number
upstream_limit = numbers 1 268435455 4194303

abbrev pub iotimeout : Number
iotimeout = any_number 10000

abbrev pub io_threads : Number
io_threads = numbers 1 16 1

abbrev pub timeout : Number
timeout = any_number 0

abbrev pub numconns : Number
numconns = numbers 1 512 10

abbrev pub bindconns : Number
bindconns = numbers 0 512 10

abbrev pub retry : Number
retry = any_number 5000

abbrev pub max_pending_ops : Number
max_pending_ops = any_number 0

abbrev pub conn_max_pending : Number
conn_max_pending = any_number 0

abbrev pub weight : Number
weight = any_number 1

-- the port of LDAP where none is given (RFC 4516)
abbrev pub port : Number
port = numbers 1 65535 389

-- a number of an IPv4 address
abbrev pub octet : Number
octet = numbers 0 255 0

-- a directive and what its arguments are
abbrev pub Entry : Type 0
Entry = Directive × Arguments

abbrev pub left_out : Entry
left_out = (directive.LeftOut, Unread)

abbrev pub noted : Entry
noted = (directive.Noted, Each takes.Noted)

-- the directives; those that are left out, and those that begin with `TLS`, are known by name alone
abbrev pub directives : List (List ℕ × Entry)
directives =
    (codes "bindconf", (directive.BindConf, Pairs Bind))
    ∷ (codes "tier", (directive.Tier, One takes.Kind))
    ∷ (codes "backend-server", (directive.BackendServer, Pairs Backend))
    ∷ (codes "client_max_pending", (directive.ClientMaxPending, One (takes.Number client_max_pending)))
    ∷ (codes "client_max_unsent", (directive.ClientMaxUnsent, One (takes.Number client_max_unsent)))
    ∷ (codes "sockbuf_max_incoming_client", (directive.ClientLimit, One (takes.Number client_limit)))
    ∷ (codes "sockbuf_max_incoming_upstream", (directive.UpstreamLimit, One (takes.Number upstream_limit)))
    ∷ (codes "iotimeout", (directive.IoTimeout, One (takes.Number iotimeout)))
    ∷ (codes "io-threads", (directive.IoThreads, One (takes.Number io_threads)))
    ∷ (codes "feature", (directive.Feature, Each takes.Feature))
    ∷ (codes "write_coherence", (directive.WriteCoherence, One takes.Seconds))
    ∷ (codes "restrict_exop", (directive.RestrictExop, Restriction))
    ∷ (codes "restrict_control", (directive.RestrictControl, Restriction))
    ∷ (codes "loglevel", noted)
    ∷ (codes "pidfile", noted)
    ∷ (codes "argsfile", noted)
    ∷ (codes "threads", noted)
    ∷ (codes "concurrency", noted)
    ∷ (codes "max_pdus_per_cycle", noted)
    ∷ (codes "include", left_out)
    ∷ (codes "listen", left_out)
    ∷ (codes "moduleload", left_out)
    ∷ (codes "modulepath", left_out)
    ∷ (codes "database", left_out)
    ∷ (codes "backend", left_out)
    ∷ []

-- the keys that are known and left out; so are those that begin with `tls`
abbrev pub left_out_keys : List (List ℕ × Takes)
left_out_keys =
    (codes "starttls", takes.LeftOut)
    ∷ (codes "saslmech", takes.LeftOut)
    ∷ (codes "authcid", takes.LeftOut)
    ∷ (codes "authzid", takes.LeftOut)
    ∷ (codes "realm", takes.LeftOut)
    ∷ (codes "secprops", takes.LeftOut)
    ∷ []

-- the keys of `bindconf` and of `backend-server`
abbrev pub keys_of : Keys → List (List ℕ × Takes)
keys_of Bind =
    (codes "bindmethod", takes.Method)
    ∷ (codes "binddn", takes.Text)
    ∷ (codes "credentials", takes.Text)
    ∷ (codes "timeout", takes.Number timeout)
    ∷ (codes "keepalive", takes.Noted)
    ∷ (codes "network-timeout", takes.Noted)
    ∷ (codes "tcp-user-timeout", takes.Noted)
    ∷ left_out_keys
keys_of Backend =
    (codes "uri", takes.Uri)
    ∷ (codes "numconns", takes.Number numconns)
    ∷ (codes "bindconns", takes.Number bindconns)
    ∷ (codes "retry", takes.Number retry)
    ∷ (codes "max-pending-ops", takes.Number max_pending_ops)
    ∷ (codes "conn-max-pending", takes.Number conn_max_pending)
    ∷ (codes "weight", takes.Number weight)
    ∷ left_out_keys

-- what stands in a table under a name
abbrev pub named : {A : Type 0} → List (List ℕ × A) → List ℕ → Option A
named table name = option_map (λ row. row.1) (find (λ row. str_eq_ignore_ascii_case row.0 name) table)

-- the rows of a table that lends its names
abbrev pub rows_of : {A : Type 0} → List (Bor (List ℕ) × A) → List (List ℕ × A)
rows_of [] = []
rows_of (row ∷ rows) = (row.0.now, row.1) ∷ rows_of rows

-- whether a name begins with `tls`
abbrev pub begins_with_tls : List ℕ → Bool
begins_with_tls name = str_eq_ignore_ascii_case (take 3 name) (codes "tls")

-- the directive of a name and what its arguments are
abbrev pub directive_named : List ℕ → Option Entry
directive_named name = option_or (named directives name) (if begins_with_tls name then Some left_out else None)

-- what the value of a key may be
abbrev pub key_named : Keys → List ℕ → Option Takes
key_named keys name = option_or (named (keys_of keys) name) (if begins_with_tls name then Some takes.LeftOut else None)
