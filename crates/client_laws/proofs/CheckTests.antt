-- A test of the first check of a message holds where it holds of each check that there may be.
use Rattle.std.proofs.Common.{◌≡◌, ℕ, Bool, true, false, ◌==◌, ◌&&◌, List, [], refl, ap, ◌∙◌, sym}
use Rattle.std.specs.Prelude.{Option, Some, None, find, is_none, if◌then◌else◌}
use Rattle.std.specs.Str.{bytes_eq}
use Rattle.ldap_spec.specs.Messages.{Message}
use Rattle.ldap_spec.specs.Kinds.{is_unbind}
use Rattle.ldap_spec.specs.Controls.{controls, start_tls, cancel_name}
use Rattle.ldap_spec.specs.Requests.{Request, BindRequest, UnbindRequest, AbandonRequest, ExtendedRequest, PlainRequest, request, cancel_id}
use Rattle.lload_names.specs.declared.names.OpKind.{OpKind}
use Rattle.lload_names.specs.declared.names.EndWhy.TheVariants.{ZeroId, IdInUse, Unreadable}
use Rattle.lload_names.specs.declared.names.Refusal.{Refusal}
use Rattle.lload_names.specs.declared.names.Refusal.TheVariants.{C2, C6, C7, C8, C10, C11}
use Rattle.lload_names.specs.declared.names.CancelAnswer.{CancelAnswer}
use Rattle.lload_names.specs.declared.names.CancelAnswer.TheVariants.{C14, C15, C16}
use Rattle.lload_spec.specs.Settings.{Settings, Reject}
use Rattle.lload_spec.specs.Entries.{makes_operation}
use Rattle.lload_spec.specs.Binding.{action, is_action}
use Rattle.lload_spec.specs.FirstCheck.{Check, Ends, Unbinds, Abandons, Refuses, Answers, Cancels, GoesOn, ClientFacts, LiveRequest, is_in_use, is_proxied_already, is_full, may_be_canceled, cancels, check_cancel, check_restrictions, check_named, check_request, check}
use Rattle.client_laws.proofs.NamesNone.{is_unbind_request, request_is_no_unbind}

-- the checks that there may be of a message
pub record CheckCases (m : Message) (q : Check → Bool) : Type 0 where
  pub zero : q (Ends ZeroId) ≡ true
  pub in_use : q (Ends IdInUse) ≡ true
  pub unreadable : q (Ends Unreadable) ≡ true
  pub unbinds : (m.id == 0) ≡ false → is_unbind m.rest ≡ true → q Unbinds ≡ true
  pub abandons : (i : ℕ) → q (Abandons i) ≡ true
  pub refuses : (which : Refusal) → q (Refuses which) ≡ true
  pub answers : (which : CancelAnswer) → q (Answers which) ≡ true
  pub cancels : (i : ℕ) (kind : OpKind) → q (Cancels i kind) ≡ true
  pub goes_on : q GoesOn ≡ true

module _ (s : Settings) (f : ClientFacts) (m : Message) (q : Check → Bool) (k : CheckCases m q) where
  cancel_passes : (o : Option ℕ) → q (check_cancel f m.id o) ≡ true
  cancel_passes None = k.answers C16
  cancel_passes (Some named) = by (named == m.id)
    where
      kinds : (x : LiveRequest) (o : Option OpKind) → q (elim o [ None ↦ Answers C14 | Some kind ↦ Cancels x.id kind ]) ≡ true
      kinds x None = k.answers C14
      kinds x (Some kind) = k.cancels x.id kind

      found : (o : Option LiveRequest) → q (cancels o) ≡ true
      found None = k.answers C14
      found (Some x) = kinds x x.kind

      by : (b : Bool) → q (elim b [ true ↦ Answers C15 | false ↦ cancels (find (may_be_canceled named) f.live) ]) ≡ true
      by true = k.answers C15
      by false = found (find (may_be_canceled named) f.live)

  named_passes : (name : List ℕ) → q (check_named s f m name) ≡ true
  named_passes name = by (is_none (controls m.rest)) f.in_exchange (bytes_eq name start_tls) (bytes_eq name cancel_name)
    where
      limits : (a b c : Bool) → q (if a then Refuses C8 else if b then Refuses C6 else if c then Refuses C2 else GoesOn) ≡ true
      limits true b c = k.refuses C8
      limits false true c = k.refuses C6
      limits false false true = k.refuses C2
      limits false false false = k.goes_on

      by : (a b c d : Bool) → q (if a then Ends Unreadable else if b then Refuses C7 else if c then Refuses C10 else if d then check_cancel f m.id (cancel_id m.rest) else check_restrictions s f m.rest) ≡ true
      by true b c d = k.unreadable
      by false true c d = k.refuses C7
      by false false true d = k.refuses C10
      by false false false true = cancel_passes (cancel_id m.rest)
      by false false false false = limits (is_proxied_already s f m.rest) (is_action Reject (action s m.rest)) (is_full s f)

  unbinds_passes : (m.id == 0) ≡ false → request m.rest ≡ Some UnbindRequest → q Unbinds ≡ true
  unbinds_passes z e = by (is_unbind m.rest) refl
    where
      by : (b : Bool) → is_unbind m.rest ≡ b → q Unbinds ≡ true
      by true h = k.unbinds z h
      by false h = absurd (let bad : true ≡ false = sym (ap is_unbind_request e) ∙ request_is_no_unbind m.rest h in cc)

  pub check_passes : q (check s f m) ≡ true
  check_passes = by (m.id == 0) (makes_operation m && is_in_use f m.id) refl
    where
      version : (b : Bool) → q (if b then GoesOn else Refuses C11) ≡ true
      version true = k.goes_on
      version false = k.refuses C11

      asked : (o : Option Request) → (m.id == 0) ≡ false → request m.rest ≡ o → q (check_request s f m o) ≡ true
      asked None z e = k.unreadable
      asked (Some (BindRequest v name method)) z e = version (v == 3)
      asked (Some UnbindRequest) z e = unbinds_passes z e
      asked (Some (AbandonRequest i)) z e = k.abandons i
      asked (Some (ExtendedRequest name)) z e = named_passes name
      asked (Some (PlainRequest kind)) z e = named_passes []

      by : (z b : Bool) → (m.id == 0) ≡ z → q (if z then Ends ZeroId else if b then Ends IdInUse else check_request s f m (request m.rest)) ≡ true
      by true b e = k.zero
      by false true e = k.in_use
      by false false e = asked (request m.rest) e refl
