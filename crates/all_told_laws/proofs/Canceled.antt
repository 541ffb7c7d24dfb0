-- An operation that is told that it was canceled was ended by its client, or by no answer.
use Rattle.std.proofs.Common.{◌≡◌, ℕ, Bool, true, false, ◌==◌, ◌&&◌, ◌||◌, not, if◌then◌else◌, List, [], ◌∷◌, ◌++◌, append_assoc, refl, ap, ◌∙◌, sym, subst}
use Rattle.std.specs.Prelude.{Option, Some, None, is_none}
use Rattle.std.specs.List.{list_any}
use Rattle.std.proofs.lemmas.List.{append-nil}
use Rattle.ldap_spec.specs.Kinds.{kind_of}
use Rattle.ldap_spec.specs.Messages.{Message}
use Rattle.ldap_spec.specs.Requests.{cancel_id, is_cancel}
use Rattle.lload_names.specs.declared.names.CancelAnswer.TheVariants.{C13}
use Rattle.lload_names.specs.declared.names.Entry.{Entry}
use Rattle.lload_names.specs.declared.names.OpKind.{OpKind}
use Rattle.lload_names.specs.declared.names.What.{What}
use Rattle.lload_names.specs.declared.names.What.TheVariants as what
use Rattle.lload_spec.specs.Caused.{cancels_id, is_canceled_by, is_cancel_answer_of}
use Rattle.lload_spec.specs.Entries.{in_message, is_gone, out_message}
use Rattle.lload_spec.specs.FirstCheck.{Cancels, Check, ClientFacts, check, client_facts, first_check}
use Rattle.lload_spec.specs.Journal.{Family}
use Rattle.lload_spec.specs.Lists.{first_passes, passes, some_split_from}
use Rattle.lload_spec.specs.Operations.{Abandoned, Answered, Cancelled, ClientGone, Ending, Manner, Operation, Rebound, ending, ending_from, is_abandon_of, is_bind_in, is_cancel_naming, is_cancellation, is_ended_by_client, is_final_for, is_final_out, is_live, is_live_at, manner_of, operation_in, takes_id}
use Rattle.lload_spec.specs.Settings.{Settings}
use Rattle.lload_spec.proofs.Growth.{left, right}
use Rattle.lload_laws.specs.ClientGrowth.{later_operation}
use Rattle.lload_laws.proofs.ClientGrowth.{ending_grows}
use Rattle.part_laws.proofs.ListLaws.{last_push, or_elim, or_left, same_number}
use Rattle.leave_laws.proofs.Cancels.{cancel_says, canceled_ending}
use Rattle.leave_laws.proofs.Manners.{ended_more, found_later, has_ended, is_clients, is_ours, ours_ended, ours_stay}
use Rattle.rest_laws.proofs.Got.{none_answers}
use Rattle.all_told_laws.proofs.Ended.{ending_past}

-- an entry that is no final Out ends an operation by its client, if it does
in_ends : (opened : Message) (since : List Entry) (e : Entry) → is_final_out opened since e ≡ false → (is_none (manner_of opened since e) || is_clients (manner_of opened since e)) ≡ true
in_ends opened since e h = by (is_final_out opened since e) (is_cancellation opened since e) (is_abandon_of opened e) (is_bind_in e) (is_gone e) h
  where
    manner_text : Bool → Bool → Bool → Bool → Bool → Option Manner
    manner_text f g a b d = if f && g then Some Cancelled else if f then Some Answered else if a then Some Abandoned else if b then Some Rebound else if d then Some ClientGone else None

    by : (f g a b d : Bool) → f ≡ false → (is_none (manner_text f g a b d) || is_clients (manner_text f g a b d)) ≡ true
    by true g a b d k = absurd (let bad : true ≡ false = k in cc)
    by false g true b d k = refl
    by false g false true d k = refl
    by false g false false true k = refl
    by false g false false false k = refl

-- a message that comes is no Out
in_no_out : (opened : Message) (since : List Entry) (e : Entry) (m : Message) → in_message e.what ≡ Some m → is_final_out opened since e ≡ false
in_no_out opened since e m h = by e.what h
  where
    by : (w : What) → in_message w ≡ Some m → (passes (λ x. x.id == opened.id) (out_message w) && not (list_any (takes_id opened.id) since) && passes (λ x. is_final_for opened x.rest) (out_message w)) ≡ false
    by (what.In id rest) k = refl
    by _ k = absurd (let bad : None ≡ Some m = k in cc)

-- what the operation of a name is behind more entries
later_found : (c k : ℕ) (L M : List Entry) (o : Operation) → operation_in c L (record { client = c; k = k }) ≡ Some o → operation_in c (L ++ M) (record { client = c; k = k }) ≡ Some (record o { behind = o.behind ++ M })
later_found c k L [] o h = subst (λ l. operation_in c l (record { client = c; k = k }) ≡ Some (record o { behind = o.behind ++ [] })) (sym (append-nil L)) (h ∙ ap (λ b. Some (record o { behind = b })) (sym (append-nil o.behind)))
later_found c k L (e ∷ M) o h =
    subst (λ l. operation_in c l (record { client = c; k = k }) ≡ Some (record o { behind = o.behind ++ e ∷ M })) (append_assoc L (e ∷ []) M)
    (later_found c k (L ++ e ∷ []) M (later_operation e o) (found_later c k L e o h) ∙ ap (λ b. Some (record o { behind = b })) (append_assoc o.behind (e ∷ []) M))

module _ (s : Settings) (F : Family) (o : Operation) (there : operation_in o.name.client (F.client o.name.client) o.name ≡ Some o) (x : Ending) (ended : ending o ≡ Some x) (answered : x.manner ≡ Answered) where
  abbrev c : ℕ
  c = o.name.client

  abbrev k : ℕ
  k = o.name.k

  -- a check that cancels what has this identifier
  cancels_so : (f : ClientFacts) (m : Message) (q : Check) → check s f m ≡ q → cancels_id o.request.id q ≡ true → (is_cancel m.rest && passes (λ n. n == o.request.id) (cancel_id m.rest)) ≡ true
  cancels_so f m (Cancels id kind) e h = subst (λ n. (is_cancel m.rest && passes (λ i. i == n) (cancel_id m.rest)) ≡ true) (same_number id o.request.id h) (cancel_says s f m id kind e)
  cancels_so f m _ e h = absurd (let bad : false ≡ true = h in cc)

  -- where it is told so
  module _ (place : List Entry) (e : Entry) (es : List Entry) (all : place ++ e ∷ es ≡ F.client o.name.client) where
    by_client : has_ended o.name.client o.name.k (place ++ e ∷ es) ≡ true → is_ended_by_client o ≡ true
    by_client h = sym (ap (passes is_ended_by_client) there) ∙ ap (λ l. has_ended c k l) (sym all) ∙ h

    module _ (m : Message) (came : in_message e.what ≡ Some m) (live : is_live_at o.name.client place o.name ≡ true) (told : first_passes (is_cancel_answer_of C13 o.request.id (kind_of o.request.rest)) es ≡ true) (cancels : cancels_id o.request.id (first_check s F o.name.client place m) ≡ true) where
      named : is_cancel_naming o.request e ≡ true
      named = ap (passes (λ y. is_cancel y.rest && passes (λ id. id == o.request.id) (cancel_id y.rest))) came ∙ cancels_so (client_facts s F c place) m (first_check s F c place m) refl cancels

      -- the operation at that place
      module _ (q : Operation) (found : operation_in o.name.client place o.name ≡ Some q) (still : is_live q ≡ true) where
        later : record q { behind = q.behind ++ e ∷ es } ≡ o
        later = let same : Some (record q { behind = q.behind ++ e ∷ es }) ≡ Some o = sym (later_found c k place (e ∷ es) q found) ∙ ap (λ l. operation_in c l o.name) all ∙ there in cc

        request : q.request ≡ o.request
        request = ap (λ (z : Operation). z.request) later

        ours : is_ours o.name.client o.name.k place ≡ true
        ours = ap (passes (λ z. is_live z || is_ended_by_client z)) found ∙ or_left (is_live q) _ still

        ours_behind : is_ours o.name.client o.name.k (place ++ e ∷ []) ≡ true
        ours_behind = ours_stay c k place e (λ z f. in_ends z.request z.behind e (in_no_out z.request z.behind e m came)) ours

        since_end : is_none (manner_of q.request q.behind e) ≡ true → ending_from q.request [] (q.behind ++ e ∷ es) ≡ ending_from q.request (q.behind ++ e ∷ []) es
        since_end n = ap (ending_from q.request []) (sym (append_assoc q.behind (e ∷ []) es)) ∙ ending_past q.request [] (q.behind ++ e ∷ []) es (ending_grows q.request q.behind e ∙ ap (λ b. b && is_none (manner_of q.request q.behind e)) still ∙ n)

        its_end : ending_from q.request [] (q.behind ++ e ∷ es) ≡ Some x
        its_end = ap ending later ∙ ended

        -- the entry that tells it
        tells : (f : Entry) (more : List Entry) (kind : OpKind) → es ≡ f ∷ more → kind_of o.request.rest ≡ Some kind → is_cancel_answer_of C13 o.request.id (Some kind) f ≡ true → is_none (manner_of q.request q.behind e) ≡ true → is_ended_by_client o ≡ true
        tells f more kind is sort h n = by (list_any (takes_id q.request.id) (q.behind ++ e ∷ [])) refl
          where
            by : (b : Bool) → list_any (takes_id q.request.id) (q.behind ++ e ∷ []) ≡ b → is_ended_by_client o ≡ true
            by true t = absurd (none_answers q.request (q.behind ++ e ∷ []) es x t (sym (since_end n) ∙ its_end) answered)
            by false t =
                by_client
                (subst (λ l. has_ended c k l ≡ true) (append_assoc place (e ∷ []) es)
                (subst (λ l. has_ended c k ((place ++ e ∷ []) ++ l) ≡ true) (sym is)
                (subst (λ l. has_ended c k l ≡ true) (append_assoc (place ++ e ∷ []) (f ∷ []) more)
                (ended_more c k ((place ++ e ∷ []) ++ f ∷ []) more (ours_ended c k (place ++ e ∷ []) f ending_so ours_behind)))))
              where
                ending_so : (z : Operation) → operation_in c (place ++ e ∷ []) (record { client = c; k = k }) ≡ Some z → is_clients (manner_of z.request z.behind f) ≡ true
                ending_so z g =
                    let same : z ≡ later_operation e q = (let eq : Some z ≡ Some (later_operation e q) = sym g ∙ found_later c k place e q found in cc) in
                    subst (λ (y : Operation). is_clients (manner_of y.request y.behind f) ≡ true) (sym same)
                    (canceled_ending q.request (q.behind ++ e ∷ []) f kind (ap (λ (y : Message). kind_of y.rest) request ∙ sort) t (ap (passes (is_cancel_naming q.request)) (last_push q.behind e) ∙ ap (λ y. is_cancel_naming y e) request ∙ named) (ap (λ (y : Message). is_cancel_answer_of C13 y.id (Some kind) f) request ∙ h))

        ends_so : is_ended_by_client o ≡ true
        ends_so = or_elim (is_none (manner_of q.request q.behind e)) (is_clients (manner_of q.request q.behind e)) (by es (kind_of o.request.rest) refl refl told) (λ h. by_client (subst (λ l. has_ended c k l ≡ true) (append_assoc place (e ∷ []) es) (ended_more c k (place ++ e ∷ []) es (ours_ended c k place e (λ z g. let same : z ≡ q = (let eq : Some z ≡ Some q = sym g ∙ found in cc) in subst (λ (y : Operation). is_clients (manner_of y.request y.behind e) ≡ true) (sym same) h) ours)))) (in_ends q.request q.behind e (in_no_out q.request q.behind e m came))
          where
            by : (l : List Entry) (y : Option OpKind) → es ≡ l → kind_of o.request.rest ≡ y → first_passes (is_cancel_answer_of C13 o.request.id y) l ≡ true → is_none (manner_of q.request q.behind e) ≡ true → is_ended_by_client o ≡ true
            by [] y a b h n = absurd (let bad : false ≡ true = h in cc)
            by (f ∷ more) None a b h n = absurd (let bad : false ≡ true = h in cc)
            by (f ∷ more) (Some kind) a b h n = tells f more kind a b h n

      there_so : is_ended_by_client o ≡ true
      there_so = by (operation_in o.name.client place o.name) refl live
        where
          by : (z : Option Operation) → operation_in o.name.client place o.name ≡ z → passes is_live z ≡ true → is_ended_by_client o ≡ true
          by None f h = absurd (let bad : false ≡ true = h in cc)
          by (Some q) f h = ends_so q f h

    here_so : is_canceled_by (first_check s F o.name.client) o place e es ≡ true → is_ended_by_client o ≡ true
    here_so h = by (in_message e.what) refl h
      where
        both_of : (m : Message) (b : Bool) → (is_live_at o.name.client place o.name && first_passes (is_cancel_answer_of C13 o.request.id (kind_of o.request.rest)) es) ≡ b → in_message e.what ≡ Some m → (elim b [ true ↦ cancels_id o.request.id (first_check s F o.name.client place m) | false ↦ false ]) ≡ true → is_ended_by_client o ≡ true
        both_of m true a f g = there_so m f (left (is_live_at o.name.client place o.name) _ a) (right (is_live_at o.name.client place o.name) _ a) g
        both_of m false a f g = absurd (let bad : false ≡ true = g in cc)

        by : (y : Option Message) → in_message e.what ≡ y → (elim y [ None ↦ false | Some m ↦ elim (is_live_at o.name.client place o.name && first_passes (is_cancel_answer_of C13 o.request.id (kind_of o.request.rest)) es) [ true ↦ cancels_id o.request.id (first_check s F o.name.client place m) | false ↦ false ] ]) ≡ true → is_ended_by_client o ≡ true
        by None f g = absurd (let bad : false ≡ true = g in cc)
        by (Some m) f g = both_of m (is_live_at o.name.client place o.name && first_passes (is_cancel_answer_of C13 o.request.id (kind_of o.request.rest)) es) refl f g

  canceled_from : (place es : List Entry) → place ++ es ≡ F.client o.name.client → some_split_from (is_canceled_by (first_check s F o.name.client) o) place es ≡ true → is_ended_by_client o ≡ true
  canceled_from place [] all h = absurd (let bad : false ≡ true = h in cc)
  canceled_from place (e ∷ es) all h = or_elim (is_canceled_by (first_check s F o.name.client) o place e es) (some_split_from (is_canceled_by (first_check s F o.name.client) o) (place ++ e ∷ []) es) (here_so place e es all) (canceled_from (place ++ e ∷ []) es (append_assoc place (e ∷ []) es ∙ all)) h

  pub canceled_so : some_split_from (is_canceled_by (first_check s F o.name.client) o) [] (F.client o.name.client) ≡ true → is_ended_by_client o ≡ true
  canceled_so h = canceled_from [] (F.client c) refl h
