use Rattle.std.proofs.Common.{◌≡◌, ℕ, Bool, true, false, ◌||◌, not, cond, List, Option, IfOk, Result, Ok, Err, refl, ap, ◌∙◌, sym}
use Rattle.std.specs.Option.{option_copied}
use Rattle.ldap_spec.specs.Controls.{Control, with_first}
use Rattle.lload_spec.specs.Identity.{identity_control}
use Rattle.lload_spec.specs.Settings.{Settings, is_privileged}
use Rattle.proxy_authz.specs.Carrying.{own_name, Carries}
use Rattle.proxy_authz.proofs.carrying.proxied.Goals as goal

added : (on own : Bool) (rest more : List ℕ) → on ≡ true → own ≡ false → cond (not on || own) rest more ≡ more
added true true rest more h k = absurd (cc)
added true false rest more h k = refl
added false own rest more h k = absurd (cc)

carries : {E : Type 0} (r : Result (List ℕ) E) (own : Option (List ℕ)) (rest who : List ℕ) (control : Control) → ((s : Settings) → own_name s ≡ own → is_privileged s who ≡ false) → control ≡ identity_control who →
    IfOk r (λ body. body ≡ with_first control rest) → IfOk r (Carries own rest who)
carries (Ok body) own rest who control p same h =
    λ s on named. h ∙ (ap (λ (c : Control). with_first c rest) same ∙ sym (added s.proxies_authorization (is_privileged s who) rest _ on (p s named)))
carries (Err e) own rest who control p same h = h

pub returns : goal.returns
returns c =
    let who = c.args.who.now in
    let not_own : (s : Settings) → own_name s ≡ option_copied c.args.binddn → is_privileged s who ≡ false = λ s named. sym (c.privileged.ensures s named) ∙ c.if-privileged.false in
    carries _ (option_copied c.args.binddn) c.args.rest.now who _ not_own c.identity_control.ensures c.with_first.ensures
