-- Each Gone of a client has its cause, in each list of its turns.
use Rattle.std.proofs.Common.{◌≡◌, ℕ, Bool, true, false, ◌==◌, ◌&&◌, not, List, [], ◌∷◌, ◌++◌, length, refl, ap, ◌∙◌, sym, subst, append_assoc}
use Rattle.std.specs.Prelude.{Option, Some, None, is_none}
use Rattle.std.specs.List.{list_all}
use Rattle.std.proofs.lemmas.List.{append-nil, map-append, length-map, take_at}
use Rattle.ldap_spec.specs.Messages.{Message}
use Rattle.ldap_spec.specs.Kinds.{kind_of, is_unbind}
use Rattle.ldap_spec.specs.Bodies.{protocol_error_notice}
use Rattle.lload_names.specs.Same.{why_number}
use Rattle.lload_names.specs.declared.names.CancelAnswer.TheVariants.{S1}
use Rattle.lload_names.specs.declared.names.Entry.{Entry}
use Rattle.lload_names.specs.declared.names.EndWhy.{EndWhy}
use Rattle.lload_names.specs.declared.names.EndWhy.TheVariants.{Left, ZeroId, IdInUse, Unreadable}
use Rattle.lload_names.specs.declared.names.PartName.TheVariants.{Client}
use Rattle.lload_names.specs.declared.names.Letter.TheVariants.{Choice, Failed}
use Rattle.lload_names.specs.declared.names.What.{What}
use Rattle.lload_names.specs.declared.names.What.TheVariants as what
use Rattle.lload_spec.specs.Lists.{passes, first_passes, each_split_from, some_split_from}
use Rattle.lload_spec.specs.Settings.{Settings}
use Rattle.lload_spec.specs.Entries.{in_message, gone_why, is_link_reason, is_notice}
use Rattle.lload_spec.specs.FirstCheck.{Check, Ends, Unbinds, Abandons, Refuses, Answers, Cancels, GoesOn}
use Rattle.lload_spec.specs.Caused.{is_unbound, ends_for, is_ended_by_check}
use Rattle.part_spec.specs.Marked.{Marked, Taken, entries}
use Rattle.part_spec.specs.Inputs.{entries_of}
use Rattle.part_spec.specs.ClientState.{ClientState, empty_client, step_client, client_of, facts_of, check_at, row_named}
use Rattle.part_spec.specs.ClientTurn.{refused, canceled, whats_by, whats_for}
use Rattle.part_spec.specs.Share.{check_in, has_gone_cause, is_gone_caused}
use Rattle.part_spec.specs.Fit.{ledger_behind as behind}
use Rattle.lload_spec.proofs.Growth.{left, right, both}
use Rattle.part_laws.specs.Turns.{Event, made}
use Rattle.part_laws.proofs.ListLaws.{splits_grow, last_push, eqb_same, or_left, or_right}
use Rattle.client_laws.specs.Turns.{client_event}
use Rattle.client_laws.proofs.CheckTests.{check_passes}
use Rattle.client_laws.proofs.ClientTurns.{client_turn_of, tail_none, steps_are}
use Rattle.client_laws.proofs.ClientClauses.{Keeps}
use Rattle.client_share_laws.specs.Clauses.{ClientGone}
use Rattle.client_share_laws.proofs.Whats.{refused_all, canceled_all, choice_all}
use Rattle.client_share_laws.proofs.ClientCases.{Cases, taken, event_case}
use Rattle.client_share_laws.proofs.ClientKept.{kept_always}

-- some split of a list that is put together around an element
some_at : {A : Type 0} (t : List A → A → List A → Bool) (b L : List A) (x : A) (c : List A) → t (b ++ L) x c ≡ true → some_split_from t b (L ++ x ∷ c) ≡ true
some_at t b [] x c h = or_left (t b x c) _ (subst (λ l. t l x c ≡ true) (append-nil b) h)
some_at t b (y ∷ L) x c h = or_right (t b y (L ++ x ∷ c)) _ (some_at t (b ++ y ∷ []) L x c (subst (λ l. t l x c ≡ true) (sym (append_assoc b (y ∷ []) L)) h))

-- what a check that ends a client says of the message
abbrev pub is_check_reason : EndWhy → Bool
is_check_reason ZeroId = true
is_check_reason IdInUse = true
is_check_reason Unreadable = true
is_check_reason _ = false

abbrev pub ends_rightly : Message → Check → Bool
ends_rightly m (Ends why) = is_check_reason why
ends_rightly m Unbinds = not (m.id == 0) && is_unbind m.rest
ends_rightly m _ = true

pub check_ends_rightly : (s : Settings) (p : ClientState) (m : Message) → ends_rightly m (check_at s p m) ≡ true
check_ends_rightly s p m = check_passes s (facts_of p) m (ends_rightly m) (record {
  zero = refl;
  in_use = refl;
  unreadable = refl;
  unbinds = λ z u. both (not (m.id == 0)) _ (ap not z) u;
  abandons = λ i. refl;
  refuses = λ which. refl;
  answers = λ which. refl;
  cancels = λ i kind. refl;
  goes_on = refl;
})

-- entries that end no client
abbrev is_ungone : What → Bool
is_ungone w = is_none (gone_why w)

module _ (s : Settings) (c : ℕ) where
  abbrev Caused : List Marked → List Marked → Type 0
  Caused before ms = each_split_from (λ b m x. is_gone_caused s c b m) before ms ≡ true

  ungone_caused : (before : List Marked) (m : Marked) → is_ungone m.entry.what ≡ true → is_gone_caused s c before m ≡ true
  ungone_caused before m h = by (gone_why m.entry.what) h
    where
      by : (o : Option EndWhy) → is_none o ≡ true → (elim o [ None ↦ true | Some why ↦ has_gone_cause s c before why ]) ≡ true
      by None k = refl
      by (Some why) k = absurd (let bad : false ≡ true = k in cc)

  caused_none : (u at : ℕ) (ws : List What) (mark : Option Taken) (before : List Marked) → list_all is_ungone ws ≡ true → Caused before (client_turn_of u at mark ws)
  caused_none u at [] mark before h = refl
  caused_none u at (w ∷ ws) mark before h =
      let first : Marked = record { entry = record { part = Client u; at = at; what = w }; mark = mark } in
      subst (λ ms. Caused before (first ∷ ms)) (sym (tail_none (entries_of (Client u) at ws))) (both (is_gone_caused s c before first) _ (ungone_caused before first (left (is_ungone w) _ h)) (caused_none u at ws None (before ++ first ∷ []) (right (is_ungone w) _ h)))

  -- the end of the link
  link_causes : (before : List Marked) (why : EndWhy) → is_link_reason why ≡ true → has_gone_cause s c before why ≡ true
  link_causes before ZeroId h = absurd (let bad : false ≡ true = h in cc)
  link_causes before IdInUse h = absurd (let bad : false ≡ true = h in cc)
  link_causes before Unreadable h = absurd (let bad : false ≡ true = h in cc)
  link_causes before Left h = absurd (let bad : false ≡ true = h in cc)
  link_causes before _ h = h

  module _ (before : List Marked) (p : ClientState) (state : p ≡ behind (step_client s) (empty_client c) before) where
    module _ (at : ℕ) (m : Message) where
      abbrev came : Marked
      came = record { entry = record { part = Client p.number; at = at; what = what.In m.id m.rest }; mark = None }

      abbrev notice : Marked
      notice = record { entry = record { part = Client p.number; at = at; what = what.Out 0 protocol_error_notice }; mark = None }

      -- the list up to the notice, with what the check says at its places
      abbrev ending : List Marked
      ending = before ++ came ∷ notice ∷ []

      abbrev ends_here : EndWhy → List Entry → Entry → List Entry → Bool
      ends_here why place e r = passes (λ x. ends_for why (check_in s c ending place x)) (in_message e.what) && (length r == 1 && first_passes is_notice r)

      check_is : check_in s c ending (entries before) m ≡ check_at s p m
      check_is = ap (λ b. check_at s (client_of s c b) m) (take_at before (came ∷ notice ∷ []) (length (entries before)) (sym (length-map before (λ x. x.entry)))) ∙ ap (λ q. check_at s q m) (steps_are s (empty_client c) before ∙ sym state)

      -- the end by the check
      ended_by : (why : EndWhy) → check_at s p m ≡ Ends why → is_ended_by_check (check_in s c ((before ++ came ∷ []) ++ notice ∷ [])) (entries ((before ++ came ∷ []) ++ notice ∷ [])) why ≡ true
      ended_by why e = ap (λ l. is_ended_by_check (check_in s c l) (entries l) why) (append_assoc before (came ∷ []) (notice ∷ [])) ∙ ap (some_split_from (ends_here why) []) (map-append (λ x. x.entry) before (came ∷ notice ∷ [])) ∙ some_at (ends_here why) [] (entries before) came.entry (notice.entry ∷ []) (both (ends_for why (check_in s c ending (entries before) m)) _ (ap (ends_for why) (check_is ∙ e) ∙ eqb_same (why_number why)) refl)

      check_causes : (why : EndWhy) → check_at s p m ≡ Ends why → is_check_reason why ≡ true → has_gone_cause s c ((before ++ came ∷ []) ++ notice ∷ []) why ≡ true
      check_causes ZeroId e h = ended_by ZeroId e
      check_causes IdInUse e h = ended_by IdInUse e
      check_causes Unreadable e h = ended_by Unreadable e
      check_causes _ e h = absurd (let bad : false ≡ true = h in cc)

      unbound : (not (m.id == 0) && is_unbind m.rest) ≡ true → is_unbound (entries (before ++ came ∷ [])) ≡ true
      unbound h = ap is_unbound (map-append (λ x. x.entry) before (came ∷ [])) ∙ ap (λ o. passes (λ x. passes (λ y. not (y.id == 0) && is_unbind y.rest) (in_message x.what)) o) (last_push (entries before) came.entry) ∙ h

      checked_caused : (k : Check) → check_at s p m ≡ k → ends_rightly m k ≡ true → Caused before (client_turn_of p.number at None (what.In m.id m.rest ∷ whats_by m k))
      checked_caused (Ends why) e h = both (has_gone_cause s c ((before ++ came ∷ []) ++ notice ∷ []) why) true (check_causes why e h) refl
      checked_caused Unbinds e h = both (is_unbound (entries (before ++ came ∷ []))) true (unbound h) refl
      checked_caused (Abandons id) e h = refl
      checked_caused (Refuses which) e h = caused_none p.number at (what.In m.id m.rest ∷ refused m which) None before (refused_all is_ungone (λ id rest. refl) m which)
      checked_caused (Answers which) e h = caused_none p.number at (what.In m.id m.rest ∷ canceled m.id (kind_of m.rest) which) None before (canceled_all is_ungone (λ id rest. refl) m.id (kind_of m.rest) which)
      checked_caused (Cancels id kind) e h = caused_none p.number at (what.In m.id m.rest ∷ whats_by m (Cancels id kind)) None before (canceled_all is_ungone (λ id rest. refl) m.id (kind_of m.rest) S1)
      checked_caused GoesOn e h = refl

    caused_cases : Cases s p (Caused before)
    caused_cases =
        record {
          none = refl;
          arrives = λ at fresh. refl;
          checked = λ at m e f. checked_caused at m (check_at s p m) refl (check_ends_rightly s p m);
          chosen = λ at sender op a here. caused_none p.number at (what.Chosen op a ∷ whats_for (row_named p op) a) (taken sender (Choice op a)) before (choice_all is_ungone (λ id rest. refl) (row_named p op) a);
          answered = λ at sender op rest is_last who r e here. refl;
          failed = λ at sender op which r e here. caused_none p.number at (refused r.request which) (taken sender (Failed op which)) before (refused_all is_ungone (λ id rest. refl) r.request which);
          late = λ at mark op e here about. refl;
          breaks = λ at why there e n. both (has_gone_cause s c (before ++ record { entry = record { part = Client p.number; at = at; what = what.Out 0 protocol_error_notice }; mark = None } ∷ []) why) true (link_causes (before ++ record { entry = record { part = Client p.number; at = at; what = what.Out 0 protocol_error_notice }; mark = None } ∷ []) why e) refl;
          severed = λ at why here e. both (has_gone_cause s c before why) true (link_causes before why e) refl;
          stalls = λ at here. refl;
          flows = λ at here. refl;
        }

  caused_more : (before : List Marked) (p : ClientState) (x : Event) → Keeps s c before p → Caused [] before → Caused [] (before ++ made (client_event s) p x)
  caused_more before p x h k = splits_grow (λ b m r. is_gone_caused s c b m) [] before (made (client_event s) p x) (λ b m r j. j) k (event_case s p (Caused before) (caused_cases before p h.state) x)

pub client_gone : ClientGone
client_gone s c xs = kept_always s c (λ before p. Caused s c [] before) (λ ms. Caused s c [] ms) (λ before p q. q) (λ before p x h k. caused_more s c before p x h k) refl xs
