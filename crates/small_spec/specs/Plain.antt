-- The limits of the configuration `plain`: the defaults of lloadd.conf(5).
use Rattle.small_spec.specs.Settings.{Settings}

-- the settings
abbrev pub plain : Settings
plain = record { max_incoming_client = 262143; max_incoming_upstream = 4194303 }
