-- The settings of the built-in configurations.
use Rattle.std.specs.Prelude.{◌≡◌, Result, Ok, Err}
use Rattle.std.proofs.Common.{refl, ap, sym, ◌∙◌}
use Rattle.std.specs.Str.{chars, is_utf8}
use lib.Utf8.{encode}
use Rattle.lload_spec.specs.Settings.{Settings, usual_limit}
use Rattle.lload_spec.specs.Plain.{plain}
use Rattle.lload_spec.specs.Bench.{bench}
use Rattle.lload_conf.specs.Configuration.{Fault, configuration, plain_text, bench_text}
use Rattle.lload_conf.specs.RunSettings.{settings_of}
use Rattle.lload_conf.specs.declared.config.Config.{Config}

-- the settings of what a text comes to; those of `plain` where it has a fault
abbrev settings_in : Result Config Fault → Settings
settings_in answer = elim answer [ Ok config ↦ settings_of usual_limit config | Err fault ↦ plain ]

plain_in : settings_in (configuration plain_text) ≡ plain
unfolding chars is_utf8 encode
plain_in = refl

bench_in : settings_in (configuration bench_text) ≡ bench
unfolding chars is_utf8 encode
bench_in = refl

pub plain_settings : (config : Config) → configuration plain_text ≡ Ok config → settings_of usual_limit config ≡ plain
plain_settings config e = ap settings_in (sym e) ∙ plain_in

pub bench_settings : (config : Config) → configuration bench_text ≡ Ok config → settings_of usual_limit config ≡ bench
bench_settings config e = ap settings_in (sym e) ∙ bench_in
