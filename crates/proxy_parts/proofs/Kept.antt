-- What is gone or down stays so.
use Rattle.std.proofs.Common.{◌≡◌, Option, Bool, true, false, ◌||◌, List, [], ◌∷◌, refl, ap, ◌∙◌, sym}
use Rattle.lload_names.specs.declared.names.Entry.{Entry}
use Rattle.lload_names.specs.declared.names.What.{What}
use Rattle.lload_names.specs.declared.names.What.TheVariants as what
use Rattle.lload_spec.specs.Settings.{Settings}
use Rattle.part_spec.specs.Marked.{Marked, Taken}
use Rattle.part_spec.specs.ClientState.{ClientState, step_client, step_clients}
use Rattle.part_spec.specs.ConnectionState.{ConnectionState, connection_behind, step_connection, step_connections}
use Rattle.client_laws.proofs.ClientClauses.{gone_step, goes}

down_step : (s : Settings) (e : Entry) (mark : Option Taken) (p : ConnectionState) (w : What) → p.down ≡ true → (connection_behind s e mark p w).down ≡ true
down_step s e mark p (what.Down why) h = refl
down_step s e mark p what.Linked h = h
down_step s e mark p _ h = h

down_stays : (s : Settings) (ms : List Marked) (p : ConnectionState) → p.down ≡ true → (step_connections s p ms).down ≡ true
down_stays s [] p h = h
down_stays s (m ∷ ms) p h = down_stays s ms (step_connection s p m) (down_step s m.entry m.mark p m.entry.what h)

gone_stays : (s : Settings) (ms : List Marked) (p : ClientState) → p.gone ≡ true → (step_clients s p ms).gone ≡ true
gone_stays s [] p h = h
gone_stays s (m ∷ ms) p h = gone_stays s ms (step_client s p m) (gone_step s m.entry.at m.mark p m.entry.what ∙ ap (λ b. b || goes m.entry.what) h)

-- so what isn't behind some entries wasn't before

pub was_up : (s : Settings) (ms : List Marked) (p : ConnectionState) → (step_connections s p ms).down ≡ false → p.down ≡ false
was_up s ms p h = by p.down refl
  where
    by : (b : Bool) → p.down ≡ b → b ≡ false
    by false e = refl
    by true e = absurd (let bad : true ≡ false = sym (down_stays s ms p e) ∙ h in cc)

pub was_present : (s : Settings) (ms : List Marked) (p : ClientState) → (step_clients s p ms).gone ≡ false → p.gone ≡ false
was_present s ms p h = by p.gone refl
  where
    by : (b : Bool) → p.gone ≡ b → b ≡ false
    by false e = refl
    by true e = absurd (let bad : true ≡ false = sym (gone_stays s ms p e) ∙ h in cc)
