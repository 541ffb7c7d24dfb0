-- A Cancel whose check ends a live operation names that one's identifier.
use Rattle.std.proofs.Common.{◌≡◌, ℕ, Bool, true, false, ◌==◌, ◌&&◌, [], refl, ap, ◌∙◌, sym}
use Rattle.std.specs.Prelude.{Option, Some, None, find, is_none, if◌then◌else◌}
use Rattle.std.specs.Str.{bytes_eq}
use Rattle.ldap_spec.specs.Controls.{cancel_name, controls, start_tls}
use Rattle.ldap_spec.specs.Messages.{Message}
use Rattle.ldap_spec.specs.Requests.{Request, AbandonRequest, BindRequest, ExtendedRequest, PlainRequest, UnbindRequest, cancel_id, request}
use Rattle.lload_names.specs.declared.names.CancelAnswer.TheVariants.{C14, C15}
use Rattle.lload_names.specs.declared.names.EndWhy.TheVariants.{IdInUse, Unreadable, ZeroId}
use Rattle.lload_names.specs.declared.names.OpKind.{OpKind}
use Rattle.lload_names.specs.declared.names.Refusal.TheVariants.{C10, C11, C2, C6, C7, C8}
use Rattle.lload_spec.specs.Binding.{action, is_action}
use Rattle.lload_spec.specs.Entries.{makes_operation}
use Rattle.lload_spec.specs.FirstCheck.{Answers, Cancels, Check, ClientFacts, Ends, GoesOn, LiveRequest, Refuses, cancels, check, check_cancel, check_request, check_restrictions, is_full, is_in_use, is_proxied_already, may_be_canceled}
use Rattle.lload_spec.specs.Lists.{passes}
use Rattle.lload_spec.specs.Settings.{Reject, Settings}
use Rattle.lload_spec.proofs.Growth.{left}
use Rattle.lload_laws.proofs.ListLaws.{found_passes}
use Rattle.part_laws.proofs.ListLaws.{eq_eqb, same_number}

-- whether a check, where it ends a live operation, ends that which the message names
abbrev names_rightly : Message → Check → Bool
names_rightly m (Cancels id kind) = passes (λ i. i == id) (cancel_id m.rest)
names_rightly m _ = true

named_check : (s : Settings) (f : ClientFacts) (m : Message) → names_rightly m (check s f m) ≡ true
named_check s f m = by (m.id == 0) (makes_operation m && is_in_use f m.id) (request m.rest)
  where
    restricted : (a b c : Bool) → names_rightly m (if a then Refuses C8 else if b then Refuses C6 else if c then Refuses C2 else GoesOn) ≡ true
    restricted true b c = refl
    restricted false true c = refl
    restricted false false true = refl
    restricted false false false = refl

    version_is : (b : Bool) → names_rightly m (if b then GoesOn else Refuses C11) ≡ true
    version_is true = refl
    version_is false = refl

    canceled : (o : Option ℕ) → cancel_id m.rest ≡ o → names_rightly m (check_cancel f m.id o) ≡ true
    canceled None e = refl
    canceled (Some id) e = other (id == m.id)
      where
        of_kind : (x : LiveRequest) (k : Option OpKind) → (x.id == id) ≡ true → names_rightly m (elim k [ None ↦ Answers C14 | Some kind ↦ Cancels x.id kind ]) ≡ true
        of_kind x None z = refl
        of_kind x (Some kind) z = ap (passes (λ i. i == x.id)) e ∙ eq_eqb id x.id (sym (same_number x.id id z))

        ended : (o : Option LiveRequest) → find (may_be_canceled id) f.live ≡ o → names_rightly m (cancels o) ≡ true
        ended None z = refl
        ended (Some x) z = of_kind x x.kind (left (x.id == id) _ (found_passes (may_be_canceled id) f.live x z))

        other : (b : Bool) → names_rightly m (elim b [ true ↦ Answers C15 | false ↦ cancels (find (may_be_canceled id) f.live) ]) ≡ true
        other true = refl
        other false = ended (find (may_be_canceled id) f.live) refl

    named : (a b c d : Bool) → names_rightly m (if a then Ends Unreadable else if b then Refuses C7 else if c then Refuses C10 else if d then check_cancel f m.id (cancel_id m.rest) else check_restrictions s f m.rest) ≡ true
    named true b c d = refl
    named false true c d = refl
    named false false true d = refl
    named false false false true = canceled (cancel_id m.rest) refl
    named false false false false = restricted (is_proxied_already s f m.rest) (is_action Reject (action s m.rest)) (is_full s f)

    by : (z b : Bool) (o : Option Request) → names_rightly m (if z then Ends ZeroId else if b then Ends IdInUse else check_request s f m o) ≡ true
    by true b o = refl
    by false true o = refl
    by false false None = refl
    by false false (Some UnbindRequest) = refl
    by false false (Some (AbandonRequest id)) = refl
    by false false (Some (BindRequest version name method)) = version_is (version == 3)
    by false false (Some (ExtendedRequest name)) = named (is_none (controls m.rest)) f.in_exchange (bytes_eq name start_tls) (bytes_eq name cancel_name)
    by false false (Some (PlainRequest kind)) = named (is_none (controls m.rest)) f.in_exchange (bytes_eq [] start_tls) (bytes_eq [] cancel_name)

pub canceled_id : (s : Settings) (f : ClientFacts) (m : Message) (id : ℕ) (kind : OpKind) → check s f m ≡ Cancels id kind → passes (λ i. i == id) (cancel_id m.rest) ≡ true
canceled_id s f m id kind e = sym (ap (names_rightly m) e) ∙ named_check s f m
