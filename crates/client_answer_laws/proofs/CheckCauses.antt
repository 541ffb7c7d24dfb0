-- What a check may refuse and answer by itself: no refusal that has another cause, and not that an operation is canceled.
use Rattle.std.proofs.Common.{◌≡◌, ℕ, Bool, true, false, ◌==◌, ◌&&◌, List, [], refl}
use Rattle.std.specs.Prelude.{Option, Some, None, is_none, find, if◌then◌else◌}
use Rattle.std.specs.Str.{bytes_eq}
use Rattle.ldap_spec.specs.Messages.{Message}
use Rattle.ldap_spec.specs.Controls.{controls, cancel_name, start_tls}
use Rattle.ldap_spec.specs.Requests.{Request, BindRequest, UnbindRequest, AbandonRequest, ExtendedRequest, PlainRequest, request, cancel_id}
use Rattle.lload_names.specs.declared.names.OpKind.{OpKind}
use Rattle.lload_names.specs.declared.names.EndWhy.TheVariants.{ZeroId, IdInUse, Unreadable}
use Rattle.lload_names.specs.declared.names.Refusal.{Refusal}
use Rattle.lload_names.specs.declared.names.Refusal.TheVariants.{C1, C2, C3, C4, C5, C6, C7, C8, C9, C10, C11}
use Rattle.lload_names.specs.declared.names.CancelAnswer.{CancelAnswer}
use Rattle.lload_names.specs.declared.names.CancelAnswer.TheVariants.{S1, C13, C14, C15, C16}
use Rattle.lload_spec.specs.Settings.{Settings, Reject}
use Rattle.lload_spec.specs.Entries.{makes_operation}
use Rattle.lload_spec.specs.Operations.{Operation}
use Rattle.lload_spec.specs.Binding.{action, is_action}
use Rattle.lload_spec.specs.FirstCheck.{Check, Ends, Refuses, Answers, Cancels, GoesOn, ClientFacts, LiveRequest, check, check_request, check_cancel, check_restrictions, cancels, may_be_canceled, is_in_use, is_proxied_already, is_full}
use Rattle.lload_spec.specs.Caused.{refuses_with, answers_with, is_checked_so}
use Rattle.part_spec.specs.Marked.{Marked}
use Rattle.part_spec.specs.Share.{check_of, has_cause, has_cancel_cause}

abbrev refuses_itself : Refusal → Bool
refuses_itself C1 = false
refuses_itself C3 = false
refuses_itself C4 = false
refuses_itself C5 = false
refuses_itself C9 = false
refuses_itself _ = true

abbrev answers_itself : CancelAnswer → Bool
answers_itself C13 = false
answers_itself _ = true

abbrev pub is_own_check : Check → Bool
is_own_check (Refuses which) = refuses_itself which
is_own_check (Answers which) = answers_itself which
is_own_check _ = true

pub own_check : (s : Settings) (f : ClientFacts) (m : Message) → is_own_check (check s f m) ≡ true
own_check s f m = by (m.id == 0) (makes_operation m && is_in_use f m.id) (request m.rest)
  where
    restricted : (a b c : Bool) → is_own_check (if a then Refuses C8 else if b then Refuses C6 else if c then Refuses C2 else GoesOn) ≡ true
    restricted true b c = refl
    restricted false true c = refl
    restricted false false true = refl
    restricted false false false = refl

    version_is : (b : Bool) → is_own_check (if b then GoesOn else Refuses C11) ≡ true
    version_is true = refl
    version_is false = refl

    ends_it : (o : Option OpKind) (id : ℕ) → is_own_check (elim o [ None ↦ Answers C14 | Some kind ↦ Cancels id kind ]) ≡ true
    ends_it None id = refl
    ends_it (Some kind) id = refl

    ended : (o : Option LiveRequest) → is_own_check (cancels o) ≡ true
    ended None = refl
    ended (Some x) = ends_it x.kind x.id

    canceled : (o : Option ℕ) → is_own_check (check_cancel f m.id o) ≡ true
    canceled None = refl
    canceled (Some id) = other (id == m.id)
      where
        other : (b : Bool) → is_own_check (elim b [ true ↦ Answers C15 | false ↦ cancels (find (may_be_canceled id) f.live) ]) ≡ true
        other true = refl
        other false = ended (find (may_be_canceled id) f.live)

    named : (a b c d : Bool) → is_own_check (if a then Ends Unreadable else if b then Refuses C7 else if c then Refuses C10 else if d then check_cancel f m.id (cancel_id m.rest) else check_restrictions s f m.rest) ≡ true
    named true b c d = refl
    named false true c d = refl
    named false false true d = refl
    named false false false true = canceled (cancel_id m.rest)
    named false false false false = restricted (is_proxied_already s f m.rest) (is_action Reject (action s m.rest)) (is_full s f)

    by : (z b : Bool) (o : Option Request) → is_own_check (if z then Ends ZeroId else if b then Ends IdInUse else check_request s f m o) ≡ true
    by true b o = refl
    by false true o = refl
    by false false None = refl
    by false false (Some UnbindRequest) = refl
    by false false (Some (AbandonRequest id)) = refl
    by false false (Some (BindRequest version name method)) = version_is (version == 3)
    by false false (Some (ExtendedRequest name)) = named (is_none (controls m.rest)) f.in_exchange (bytes_eq name start_tls) (bytes_eq name cancel_name)
    by false false (Some (PlainRequest kind)) = named (is_none (controls m.rest)) f.in_exchange (bytes_eq [] start_tls) (bytes_eq [] cancel_name)

-- so the check at its In is the cause of such a refusal, and of such an answer
pub refused_by_check : (s : Settings) (ms : List Marked) (o : Operation) (which : Refusal) → is_own_check (Refuses which) ≡ true → is_checked_so (check_of s ms o) (refuses_with which) o ≡ true → has_cause s ms o which ≡ true
refused_by_check s ms o C1 h k = absurd (let bad : false ≡ true = h in cc)
refused_by_check s ms o C2 h k = k
refused_by_check s ms o C3 h k = absurd (let bad : false ≡ true = h in cc)
refused_by_check s ms o C4 h k = absurd (let bad : false ≡ true = h in cc)
refused_by_check s ms o C5 h k = absurd (let bad : false ≡ true = h in cc)
refused_by_check s ms o C6 h k = k
refused_by_check s ms o C7 h k = k
refused_by_check s ms o C8 h k = k
refused_by_check s ms o C9 h k = absurd (let bad : false ≡ true = h in cc)
refused_by_check s ms o C10 h k = k
refused_by_check s ms o C11 h k = k

pub answered_by_check : (s : Settings) (ms : List Marked) (o : Operation) (which : CancelAnswer) → is_own_check (Answers which) ≡ true → is_checked_so (check_of s ms o) (answers_with which) o ≡ true → has_cancel_cause s ms o which ≡ true
answered_by_check s ms o S1 h k = k
answered_by_check s ms o C13 h k = absurd (let bad : false ≡ true = h in cc)
answered_by_check s ms o C14 h k = k
answered_by_check s ms o C15 h k = k
answered_by_check s ms o C16 h k = k
