-- The settings that a world of a configuration stands for.
use Rattle.std.specs.Prelude.{◌≡◌, ℕ}
use Rattle.lload_spec.specs.Settings.{Settings}
use Rattle.lload_conf.specs.RunSettings.{first_plan, settings_of}
use Rattle.lload_conf.specs.declared.config.Config.{Config}
use Rattle.load_desk.specs.Part.{BeginsWith}

-- the settings of a run of a configuration, whose connections retire at this identifier: the configuration's own, but
-- with the plans of the whole run, which begin with the configuration's
pub record AreOf (s : Settings) (limit : ℕ) (config : Config) : Type 0 where
  pub own : record s { plans = first_plan config.plan } ≡ settings_of limit config
  pub plans : BeginsWith s config.plan
