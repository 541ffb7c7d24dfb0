-- What a request carries, by the name of the proxy's own Bind.
use Rattle.std.specs.Prelude.{◌≡◌, ℕ, true, List, Option, option_map}
use Rattle.lload_spec.specs.Identity.{proxied}
use Rattle.lload_spec.specs.Settings.{Settings}

-- the name that the proxy binds as, where it does
abbrev pub own_name : Settings → Option (List ℕ)
own_name s = option_map (λ own. own.dn) s.own_bind

-- a body is the rest with the identity that it has to carry, by all settings with proxied authorization on and with this
-- name of the proxy's own
abbrev pub Carries : Option (List ℕ) → List ℕ → List ℕ → List ℕ → Type 0
Carries own rest who body =
    (s : Settings) → s.proxies_authorization ≡ true → own_name s ≡ own → body ≡ proxied s rest who
