-- A world before anything happened stands for the empty run.
use Rattle.std.proofs.Common.{◌≡◌, ℕ, List, [], ◌∷◌, length, take, drop, slice_get, Some, None, refl, ap, sym, arith}
use Rattle.lload_names.specs.declared.plans.Planned.{Planned}
use Rattle.lload_reload.specs.Bases.{AreNotBelow}
use Rattle.lload_spec.specs.Settings.{Settings}
use Rattle.lload_conf.specs.RunSettings.{first_plan}
use Rattle.lload_conf.specs.declared.config.Config.{Config}
use Rattle.part_spec.specs.DeskState.{empty_desk}
use Rattle.client_session.specs.Checks as client
use Rattle.load_desk.specs.Part.{BeginsWith}
use Rattle.load_desk.specs.Part as desk
use Rattle.proxy_parts.specs.States.{IsSetTo}
use Rattle.proxy_parts.specs.Clients.{client_part}
use Rattle.proxy_parts.specs.Connections.{connection_part}
use Rattle.proxy_core.specs.Runs.{Stands}
use Rattle.proxy_core.specs.declared.world.World.{World}

-- the first of these plans
first-taken : (ps : List Planned) (p : Planned) → slice_get ps 0 ≡ Some p → take 1 ps ≡ p ∷ []
first-taken [] p e = absurd (cc)
first-taken (q ∷ qs) p e = let same : q ≡ p = cc in ap (λ (x : Planned). x ∷ []) same

-- no base is below 0
none-below : (ps : List Planned) → AreNotBelow 0 ps
none-below [] = tt
none-below (p ∷ ps) = (omega arith, none-below ps)

-- a world without clients, connections and letters, whose desk took nothing, and that has one plan
pub record IsFresh (s : Settings) (config : Config) (w : World) : Type 0 where
  pub desk : desk.Stands s empty_desk w.desk
  pub clients : (c : ℕ) → client_part w.clients c ≡ None
  pub connections : (u : ℕ) → connection_part w.connections u ≡ None
  pub letters : w.letters.letters ≡ []
  pub plans : w.plans ≡ first_plan config.plan
  pub greatest : w.greatest ≡ 0

-- it stands for the empty run, by settings that begin with its plan and have what its parts are made of
pub begins : (s : Settings) (config : Config) (w : World)
    → BeginsWith s config.plan → client.Agrees s w.clients.settings → IsSetTo s w.connections.settings
    → IsFresh s config w → Stands s [] w
begins s config w h clients connections fresh =
    record {
      is = record {
        agrees = record {
          clients = clients;
          connections = connections;
          plans = h.plans;
          so_far = rw (fresh.plans) (first-taken s.plans _ h.first);
          above = rw (fresh.greatest) (none-below (drop (length w.plans) s.plans));
        };
        number = sym (ap length fresh.plans);
        desk = fresh.desk;
        clients = λ c. record {
          part = rw (fresh.clients c) refl;
          ending = λ k. absurd (k (fresh.clients c));
        };
        connections = λ u. record {
          part = rw (fresh.connections u) refl;
          ending = λ k. absurd (k (fresh.connections u));
        };
        letters = λ sender receiver. rw (fresh.letters) refl;
        known = λ u k. absurd (k (fresh.connections u));
      };
      ends = refl;
    }
