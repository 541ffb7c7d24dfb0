-- What the part stands for where a connection is paused, and where all are, or none any more.
use Rattle.std.proofs.Common.{◌≡◌, ◌≤◌, ◌+◌, ◌==◌, ℕ, Bool, true, false, not, ◌&&◌, if◌then◌else◌, List, [], ◌∷◌, ◌++◌, length, map, Option, Some, None, arith, refl, ap, subst, sym, ◌∙◌, append-nil}
use Rattle.std.specs.List.{list_any}
use Rattle.lload_names.specs.Same.{same_kind}
use Rattle.lload_names.specs.declared.names.OpKind.{OpKind}
use Rattle.lload_names.specs.declared.names.OpKind.TheVariants.{Bind}
use Rattle.lload_names.specs.declared.names.PartName.TheVariants.{Client}
use Rattle.lload_names.specs.declared.names.What.TheVariants as what
use Rattle.lload_spec.specs.Lists.{put_number, rising_once}
use Rattle.lload_spec.specs.Pauses.{Pausing, pauses_behind, pause_letters}
use Rattle.lload_spec.specs.Settings.{Settings}
use Rattle.part_spec.specs.Inputs.{entries_of}
use Rattle.part_spec.specs.ClientState.{ClientState, regular_connections}
use Rattle.part_spec.specs.ClientTurn.{stalls}
use Rattle.outbox.specs.declared.outbox.Outbox.{Outbox}
use Rattle.client_session.specs.Choices.{pauses_by, pausing_by}
use Rattle.client_session.specs.Did.{Did}
use Rattle.client_session.specs.Flow.{connections}
use Rattle.client_session.specs.declared.part.ClientPart.{ClientPart}
use Rattle.client_session.specs.Stands.{Stands}
use Rattle.client_session.proofs.Closings.{connections-shown}
use Rattle.client_session.proofs.Flows.{length-put}
use Rattle.client_session.proofs.Rules.{entry}

-- where it isn't paused
pub pausing-none : (kind : OpKind) (u : ℕ) (q : Pausing) → pauses_by kind u q ≡ false → pausing_by kind u q ≡ q
pausing-none kind u q e = by (same_kind Bind kind) (pauses_behind q u) e
  where
    by : (b c : Bool) → (not b && c) ≡ false → elim b [ true ↦ q | false ↦ elim c [ true ↦ record q { paused = put_number u q.paused } | false ↦ q ] ] ≡ q
    by true c f = refl
    by false true f = absurd (let bad : true ≡ false = f in cc)
    by false false f = refl

pub unpaused-stands : (s : Settings) (p : ClientState) (d : ClientPart) (kind : OpKind) (u : ℕ) → pauses_by kind u p.pausing ≡ false → Stands s p d → Stands s (record p { pausing = pausing_by kind u p.pausing }) d
unpaused-stands s p d kind u e h = subst (λ (q : Pausing). Stands s (record p { pausing = q }) d) (sym (pausing-none kind u p.pausing e)) h

-- where it is
pausing-put : (kind : OpKind) (u : ℕ) (q : Pausing) → pauses_by kind u q ≡ true → (pausing_by kind u q ≡ record q { paused = put_number u q.paused }) × (q.stalled ≡ true)
pausing-put kind u q e = by (same_kind Bind kind) q.stalled (not (list_any (λ n. n == u) q.paused)) e
  where
    by : (b c t : Bool) → (not b && (c && t)) ≡ true → (elim b [ true ↦ q | false ↦ elim (c && t) [ true ↦ record q { paused = put_number u q.paused } | false ↦ q ] ] ≡ record q { paused = put_number u q.paused }) × (c ≡ true)
    by true c t f = absurd (let bad : false ≡ true = f in cc)
    by false true true f = (refl, refl)
    by false true false f = absurd (let bad : false ≡ true = f in cc)
    by false false t f = absurd (let bad : false ≡ true = f in cc)

pub paused-stands : (s : Settings) (p : ClientState) (d e : ClientPart) (kind : OpKind) (u : ℕ) → pauses_by kind u p.pausing ≡ true → e.paused.keys ≡ put_number u d.paused.keys → length d.operations.rows + 1 + 1 + length d.paused.keys ≤ e.kept → Stands s p d → Stands s (record p { pausing = pausing_by kind u p.pausing }) (record d { paused = e.paused; kept = e.kept })
paused-stands s p d e kind u pauses keys room h =
    let put = pausing-put kind u p.pausing pauses in
    subst (λ (q : Pausing). Stands s (record p { pausing = q }) (record d { paused = e.paused; kept = e.kept })) (sym put.0)
    (record {
      settings = h.settings;
      number = h.number;
      moment = h.moment;
      arrived = h.arrived;
      gone = h.gone;
      live = h.live;
      asks = h.asks;
      identity = h.identity;
      in_exchange = h.in_exchange;
      hold = h.hold;
      binds = h.binds;
      stalled = h.stalled;
      paused = ap (put_number u) h.paused ∙ sym keys;
      idle = λ still. absurd (let bad : true ≡ false = sym put.1 ∙ still in cc);
      room = λ there stays. let more = length-put u d.paused.keys in let long : length e.paused.keys ≡ length (put_number u d.paused.keys) = ap (length {A = ℕ}) keys in omega (arith, more, long, room);
    })

-- it stalls
pub stalled-keys : (s : Settings) (p : ClientState) (d : ClientPart) → p.pausing.stalled ≡ false → Stands s p d → rising_once (regular_connections p ++ p.pausing.paused) ≡ rising_once (connections d.operations.rows)
stalled-keys s p d still h = ap (λ l. rising_once (regular_connections p ++ l)) (h.idle still) ∙ ap rising_once (append-nil (regular_connections p) ∙ connections-shown s p d.operations.rows h.live.rows_are)

stalled-letters : (s : Settings) (p : ClientState) (d : ClientPart) → Stands s p d → rising_once (regular_connections p) ≡ rising_once (connections d.operations.rows)
stalled-letters s p d h = ap rising_once (connections-shown s p d.operations.rows h.live.rows_are)

pub did-stall : (s : Settings) (p : ClientState) (d e : ClientPart) (at : ℕ) (old new : Outbox) → Stands s p d → p.pausing.stalled ≡ false → e.paused.keys ≡ rising_once (connections d.operations.rows) → length d.operations.rows + 1 + length e.paused.keys ≤ e.kept → new.entries.items ≡ old.entries.items ++ record { part = Client d.number; at = at; what = what.Stalled } ∷ [] → new.letters.items ≡ old.letters.items ++ pause_letters d.number e.paused.keys → Did s p at None (stalls p) old new (record d { paused = e.paused; stalled = true; moment = at; kept = e.kept })
did-stall s p d e at old new h still keys room entries letters = record {
  entries = entries ∙ ap (λ n. old.entries.items ++ entries_of (Client n) at (what.Stalled ∷ [])) (sym h.number);
  letters = letters ∙ ap (λ n. old.letters.items ++ pause_letters n e.paused.keys) (sym h.number) ∙ ap (λ l. old.letters.items ++ pause_letters p.number l) (keys ∙ sym (stalled-letters s p d h));
  stands = record {
    settings = h.settings;
    number = h.number;
    moment = refl;
    arrived = h.arrived;
    gone = h.gone;
    live = h.live;
    asks = h.asks;
    identity = h.identity;
    in_exchange = h.in_exchange;
    hold = h.hold;
    binds = h.binds;
    stalled = refl;
    paused = stalled-keys s p d still h ∙ sym keys;
    idle = λ never. absurd (let bad : true ≡ false = never in cc);
    room = λ there stays. room;
  };
}
