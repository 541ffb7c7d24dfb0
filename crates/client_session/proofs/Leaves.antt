-- What a message makes that ends its client.
use Rattle.std.proofs.Common.{◌≡◌, ℕ, suc, Bool, true, false, not, ◌&&◌, if◌then◌else◌, List, [], ◌∷◌, ◌++◌, Option, Some, None, refl, ap, subst, sym, ◌∙◌, append_assoc}
use Rattle.ldap_spec.specs.Bodies.{protocol_error_notice}
use Rattle.ldap_spec.specs.Messages.{Message}
use Rattle.lload_names.specs.declared.names.EndWhy.{EndWhy}
use Rattle.lload_names.specs.declared.names.EndWhy.TheVariants.{Left}
use Rattle.lload_names.specs.declared.names.Entry.{Entry}
use Rattle.lload_names.specs.declared.names.OpKind.TheVariants.{Bind}
use Rattle.lload_names.specs.declared.names.PartName.TheVariants.{Client}
use Rattle.lload_names.specs.declared.names.What.TheVariants as what
use Rattle.lload_spec.specs.Binding.{kind_wanted}
use Rattle.lload_spec.specs.Entries.{makes_operation}
use Rattle.lload_spec.specs.FirstCheck.{Check, Ends, Unbinds, lets_go_on}
use Rattle.lload_spec.specs.Operations.{is_request_of}
use Rattle.lload_spec.specs.Settings.{Settings}
use Rattle.part_spec.specs.ClientState.{ClientState, Window as WindowBy, check_at, is_pinned, is_asked_for, abandons, without, with_bind, with_request, next_name, step_client}
use Rattle.part_spec.specs.ClientTurn.{by_check}
use Rattle.outbox.specs.declared.outbox.Outbox.{Outbox}
use Rattle.client_session.specs.Closing.{closing}
use Rattle.client_session.specs.Did.{Did}
use Rattle.client_session.specs.Ended.{IsEnded, ended, counted}
use Rattle.client_session.specs.declared.part.ClientPart.{ClientPart}
use Rattle.client_session.specs.Stands.{Stands}
use Rattle.client_session.proofs.Closings.{closing-shown}
use Rattle.client_session.proofs.Ended.{ended-stands, noticed-end}
use Rattle.client_session.proofs.Rules.{entry}

-- the entries that were put one after the other
pub two-entries : (xs ys zs : List Entry) (a b : Entry) → ys ≡ xs ++ a ∷ [] → zs ≡ ys ++ b ∷ [] → zs ≡ xs ++ a ∷ b ∷ []
two-entries xs ys zs a b e f = f ∙ ap (λ l. l ++ b ∷ []) e ∙ append_assoc xs (a ∷ []) (b ∷ [])

pub three-entries : (xs ys zs ws : List Entry) (a b d : Entry) → ys ≡ xs ++ a ∷ [] → zs ≡ ys ++ b ∷ [] → ws ≡ zs ++ d ∷ [] → ws ≡ xs ++ a ∷ b ∷ d ∷ []
three-entries xs ys zs ws a b d e f g = g ∙ ap (λ l. l ++ d ∷ []) (two-entries xs ys zs a b e f) ∙ append_assoc xs (a ∷ b ∷ []) (d ∷ [])

-- the desk isn't asked for a message that its check stops
pub stopped : (s : Settings) (p : ClientState) (m : Message) (found : Check) → check_at s p m ≡ found → lets_go_on found ≡ false → is_asked_for s p m ≡ false
stopped s p m found e stays = ap (λ k. lets_go_on k && not (is_pinned s p m)) e ∙ ap (λ b. b && not (is_pinned s p m)) stays

-- the end behind the message is the end of a state that counts it
came-end : (s : Settings) (p : ClientState) (at : ℕ) (m : Message) (w : WindowBy) → is_asked_for s p m ≡ false → record (ended at (step_client s p (record { entry = entry p at (what.In m.id m.rest); mark = None }))) { window = w } ≡ record (ended at (counted m p)) { window = w }
came-end s p at m w none = by (makes_operation m) (is_request_of Bind m) (is_asked_for s p m) none
  where
    by : (makes binds asks : Bool) → asks ≡ false → record (ended at (record (elim makes [ false ↦ without (abandons m) at p | true ↦ elim binds [ true ↦ with_bind s m p | false ↦ with_request s m p ] ]) { moment = at; asked = if asks then p.asked ++ record { op = next_name p; kind = kind_wanted m } ∷ [] else p.asked })) { window = w } ≡ record (ended at (elim makes [ false ↦ p | true ↦ elim binds [ true ↦ record p { count = suc p.count; identity = []; in_exchange = false } | false ↦ record p { count = suc p.count } ] ])) { window = w }
    by makes binds true e = absurd (let bad : true ≡ false = e in cc)
    by false binds false e = refl
    by true true false e = refl
    by true false false e = refl

module _ (s : Settings) (p : ClientState) (at : ℕ) (m : Message) (d e f : ClientPart) (h : Stands s p d) (k : Stands s (counted m p) e) (i : IsEnded at e f) (same : closing e ≡ closing d) where
  abbrev behind : ClientState
  behind = step_client s p (record { entry = entry p at (what.In m.id m.rest); mark = None })

  -- it is told of a protocol error
  pub did-end : (why : EndWhy) (old new : Outbox) (xs ys : List Entry) → check_at s p m ≡ Ends why → xs ≡ old.entries.items ++ entry p at (what.In m.id m.rest) ∷ [] → ys ≡ xs ++ entry p at (what.Out 0 protocol_error_notice) ∷ [] → new.entries.items ≡ ys ++ entry p at (what.Gone why) ∷ [] → new.letters.items ≡ old.letters.items ++ closing e → Did s p at None (by_check s p at m (Ends why)) old new f
  did-end why old new xs ys found first second third letters = record {
    entries = three-entries _ _ _ _ _ _ _ first second third;
    letters = letters ∙ ap (λ l. old.letters.items ++ l) (same ∙ sym (closing-shown s p d h));
    stands =
        let told = step_client s behind (record { entry = entry behind at (what.Out 0 protocol_error_notice); mark = None }) in
        subst (λ (q : ClientState). Stands s q f)
        (sym (noticed-end s at None behind told.window ∙ came-end s p at m told.window (stopped s p m (Ends why) found refl)))
        (ended-stands s at (counted m p) told.window e f i k);
  }

  -- it leaves
  pub did-leave : (old new : Outbox) (xs : List Entry) → check_at s p m ≡ Unbinds → xs ≡ old.entries.items ++ entry p at (what.In m.id m.rest) ∷ [] → new.entries.items ≡ xs ++ entry p at (what.Gone Left) ∷ [] → new.letters.items ≡ old.letters.items ++ closing e → Did s p at None (by_check s p at m Unbinds) old new f
  did-leave old new xs found first second letters = record {
    entries = two-entries _ _ _ _ _ first second;
    letters = letters ∙ ap (λ l. old.letters.items ++ l) (same ∙ sym (closing-shown s p d h));
    stands = subst (λ (q : ClientState). Stands s q f) (sym (came-end s p at m behind.window (stopped s p m Unbinds found refl))) (ended-stands s at (counted m p) behind.window e f i k);
  }
