-- What the part stands for where its client is gone.
use Rattle.std.proofs.Common.{◌≡◌, ◌≤◌, ◌+◌, ℕ, suc, max, Bool, true, false, not, ◌==◌, ◌&&◌, if◌then◌else◌, List, [], ◌∷◌, ◌++◌, length, map, Option, Some, None, arith, refl, ap, subst, sym, ◌∙◌, append_assoc}
use Rattle.std.specs.Option.{option_map}
use Rattle.ldap_spec.specs.Bodies.{protocol_error_notice}
use Rattle.ldap_spec.specs.Kinds.{kind_of, is_final}
use Rattle.ldap_spec.specs.Messages.{Message}
use Rattle.lload_names.specs.Same.{same_kind}
use Rattle.lload_names.specs.declared.names.EndWhy.{EndWhy}
use Rattle.lload_names.specs.declared.names.EndWhy.TheVariants.{Bad, TooBig, Left}
use Rattle.lload_names.specs.declared.names.OpKind.{OpKind}
use Rattle.lload_names.specs.declared.names.OpKind.TheVariants as kinds
use Rattle.lload_names.specs.declared.names.PartName.TheVariants.{Client}
use Rattle.lload_names.specs.declared.names.Posted.{Posted}
use Rattle.lload_names.specs.declared.names.What.{What}
use Rattle.lload_names.specs.declared.names.What.TheVariants as what
use Rattle.lload_spec.specs.Lists.{passes}
use Rattle.lload_spec.specs.Operations.{is_final_for}
use Rattle.lload_spec.specs.Settings.{Settings}
use Rattle.part_spec.specs.Marked.{Taken}
use Rattle.part_spec.specs.Inputs.{act, nothing, entries_of}
use Rattle.part_spec.specs.ClientState.{ClientState, ClientRow, Window as WindowBy, AskedFor, with_end, with_answer, is_bind_row, row_under, without, with_bind_answer, step_client}
use Rattle.part_spec.specs.ClientTurn as turn
use Rattle.outbox.specs.declared.outbox.Outbox.{Outbox}
use Rattle.client_session.specs.Checks.{Agrees}
use Rattle.client_session.specs.Closing.{closing}
use Rattle.client_session.specs.Did.{Did, behind_act}
use Rattle.client_session.specs.Ended.{IsEnded, ended, is_of_bytes}
use Rattle.client_session.specs.declared.part.ClientPart.{ClientPart}
use Rattle.client_session.specs.declared.settings.ClientSettings.{ClientSettings}
use Rattle.client_session.specs.Stands.{Asks, Stands, shown, held}
use Rattle.client_session.proofs.Closings.{closing-shown}
use Rattle.client_session.proofs.Rules.{entry}

-- a part that stood for a state and has ended stands for that state's end, whatever its window says
pub ended-stands : (s : Settings) (at : ℕ) (p : ClientState) (w : WindowBy) (d e : ClientPart) → IsEnded at d e → Stands s p d → Stands s (record (ended at p) { window = w }) e
ended-stands s at p w d e i h = record {
  settings = subst (λ (c : ClientSettings). Agrees s c) (sym i.settings) h.settings;
  number = h.number ∙ sym i.number;
  moment = sym i.moment;
  arrived = h.arrived ∙ sym i.arrived;
  gone = sym i.gone;
  live = record {
    count_is = h.live.count_is ∙ sym (ap (λ o. o.count) i.operations);
    rows_are = ap (λ o. map shown o.rows) (sym i.operations);
  };
  asks = subst (λ (n : ℕ). Asks p.number p.count p.asked n) (sym i.asked) h.asks;
  identity = h.identity ∙ sym i.identity;
  in_exchange = h.in_exchange ∙ sym i.in_exchange;
  hold = ap (option_map held) (sym i.hold);
  binds = λ there. absurd (let bad : true ≡ false = there in cc);
  stalled = sym i.stalled;
  paused = sym i.paused;
  idle = λ still. refl;
  room = λ there stays. absurd (let bad : true ≡ false = stays in cc);
}

-- the end of the link
pub sever-gives : (s : Settings) (p : ClientState) (d : ClientPart) (at : ℕ) (why : EndWhy) (before after : Outbox) → Stands s p d → before.entries.items ≡ [] → before.letters.items ≡ [] → after.entries.items ≡ before.entries.items ++ record { part = Client d.number; at = at; what = what.Gone why } ∷ [] → after.letters.items ≡ before.letters.items ++ closing d → (after.entries.items ≡ entries_of (Client p.number) at (what.Gone why ∷ [])) × (after.letters.items ≡ turn.closing p)
sever-gives s p d at why before after h none empty entries letters = (
  entries ∙ ap (λ l. l ++ record { part = Client d.number; at = at; what = what.Gone why } ∷ []) none ∙ ap (λ n. record { part = Client n; at = at; what = what.Gone why } ∷ []) (sym h.number),
  letters ∙ ap (λ l. l ++ closing d) empty ∙ sym (closing-shown s p d h),
)

-- the notice ends no Bind
notice-no-bind : (k : OpKind) → same_kind kinds.Bind k ≡ true → is_final k protocol_error_notice ≡ false
notice-no-bind kinds.Bind e = refl
notice-no-bind kinds.Search e = refl
notice-no-bind kinds.Modify e = refl
notice-no-bind kinds.Add e = refl
notice-no-bind kinds.Delete e = refl
notice-no-bind kinds.ModifyDn e = refl
notice-no-bind kinds.Compare e = refl
notice-no-bind kinds.Extended e = absurd (let bad : false ≡ true = e in cc)

notice-binds : (o : Option OpKind) → passes (same_kind kinds.Bind) o ≡ true → passes (λ k. is_final k protocol_error_notice) o ≡ false
notice-binds None e = refl
notice-binds (Some k) e = notice-no-bind k e

-- so the end behind it is the end before it
noticed-row : (s : Settings) (at : ℕ) (mark : Option Taken) (p : ClientState) (w : WindowBy) (r : ClientRow) → record (ended at (with_answer s at mark protocol_error_notice p r)) { window = w } ≡ record (ended at p) { window = w }
noticed-row s at mark p w r = by (is_final_for r.request protocol_error_notice) refl (is_bind_row r) refl
  where
    by : (f : Bool) → is_final_for r.request protocol_error_notice ≡ f → (b : Bool) → is_bind_row r ≡ b → record (ended at (elim f [ false ↦ p | true ↦ elim b [ true ↦ with_bind_answer s mark r.request protocol_error_notice (without (λ x. x.k == r.k) at p) | false ↦ without (λ x. x.k == r.k) at p ] ])) { window = w } ≡ record (ended at p) { window = w }
    by false e b g = refl
    by true e false g = refl
    by true e true g = absurd (let bad : true ≡ false = sym e ∙ notice-binds (kind_of r.request.rest) g in cc)

pub noticed-end : (s : Settings) (at : ℕ) (mark : Option Taken) (p : ClientState) (w : WindowBy) → record (ended at (step_client s p (record { entry = entry p at (what.Out 0 protocol_error_notice); mark = mark }))) { window = w; asked = p.asked } ≡ record (ended at p) { window = w }
noticed-end s at mark p w = by (row_under p 0)
  where
    by : (o : Option ClientRow) → record (ended at (elim o [ None ↦ p | Some r ↦ with_answer s at mark protocol_error_notice p r ])) { window = w; asked = p.asked } ≡ record (ended at p) { window = w }
    by None = refl
    by (Some r) = ap (λ (q : ClientState). record q { asked = p.asked }) (noticed-row s at mark p w r)

-- an end of the link has a rule where its bytes are the reason
pub link-gone : (p : ClientState) (why : EndWhy) → is_of_bytes why ≡ true → turn.link_gone p why ≡ act (turn.noticed why) (turn.closing p)
link-gone p Bad e = refl
link-gone p TooBig e = refl
link-gone p _ e = absurd (let bad : false ≡ true = e in cc)

pub link-stays : (p : ClientState) (why : EndWhy) → is_of_bytes why ≡ false → turn.link_gone p why ≡ nothing
link-stays p Bad e = absurd (let bad : true ≡ false = e in cc)
link-stays p TooBig e = absurd (let bad : true ≡ false = e in cc)
link-stays p _ e = refl

-- a client that is told of a protocol error, and ends
pub did-notice : (s : Settings) (p : ClientState) (d e : ClientPart) (at : ℕ) (why : EndWhy) (old told new : Outbox) → Stands s p d → IsEnded at d e → told.entries.items ≡ old.entries.items ++ record { part = Client d.number; at = at; what = what.Out 0 protocol_error_notice } ∷ [] → told.letters.items ≡ old.letters.items → new.entries.items ≡ told.entries.items ++ record { part = Client d.number; at = at; what = what.Gone why } ∷ [] → new.letters.items ≡ told.letters.items ++ closing d → Did s p at None (act (turn.noticed why) (turn.closing p)) old new e
did-notice s p d e at why old told new h i first same last letters = record {
  entries =
      last
      ∙ ap (λ l. l ++ record { part = Client d.number; at = at; what = what.Gone why } ∷ []) first
      ∙ append_assoc old.entries.items (record { part = Client d.number; at = at; what = what.Out 0 protocol_error_notice } ∷ []) (record { part = Client d.number; at = at; what = what.Gone why } ∷ [])
      ∙ ap (λ n. old.entries.items ++ entries_of (Client n) at (turn.noticed why)) (sym h.number);
  letters = letters ∙ ap (λ l. l ++ closing d) same ∙ ap (λ l. old.letters.items ++ l) (sym (closing-shown s p d h));
  stands =
      let behind = step_client s p (record { entry = entry p at (what.Out 0 protocol_error_notice); mark = None }) in
      subst (λ (q : ClientState). Stands s q e) (sym (noticed-end s at None p behind.window)) (ended-stands s at p behind.window d e i h);
}
