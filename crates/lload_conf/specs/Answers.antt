-- What the calls promise of their answers.
use Rattle.std.specs.Prelude.{◌≡◌, ℕ, ◌≤◌, length, IfSome, Result, Ok, Err}
use Rattle.lload_names.specs.Plans.{IsPlan, backends_of}
use Rattle.lload_conf.specs.Configuration.{Fault}
use Rattle.lload_conf.specs.declared.config.Config.{Config}
use Rattle.lload_conf.specs.declared.config.OwnBind.{OwnBind}
use Rattle.lload_conf.specs.declared.reading.ConfFault.{ConfFault}
use Rattle.lload_conf.specs.declared.reading.ConfFault.TheVariants.{Line, NoMemory}

-- a call answers with this configuration or this fault; for want of memory it answers so whatever they are
abbrev pub Answers : Result Config ConfFault → Result Config Fault → Type 0
Answers (Ok config) answer = answer ≡ Ok config
Answers (Err (Line line kind)) answer = answer ≡ Err (record { line = line; kind = kind })
Answers (Err NoMemory) answer = Unit {0}

-- the name and the password of a bind of the proxy's own are within the limits
pub record IsOwnBind (bind : OwnBind) : Type 0 where
  pub short_dn : length bind.dn ≤ 1048576
  pub short_credentials : length bind.credentials ≤ 1048576

-- the limit of a message is within the limits
pub record IsLimit (limit : ℕ) : Type 0 where
  pub some : 1 ≤ limit
  pub few : limit ≤ 268435455

-- a configuration is within the limits of the proxy (this project's own)
pub record IsConfig (config : Config) : Type 0 where
  pub plan : IsPlan config.plan
  pub hosts : length config.hosts ≡ length (backends_of config.plan)
  pub own_bind : IfSome config.own_bind IsOwnBind
  pub client_limit : IsLimit config.client_limit
  pub upstream_limit : IsLimit config.upstream_limit
