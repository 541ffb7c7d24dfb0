-- Where a message comes, a turn of its client begins; there the client's state says what the family says.
use Rattle.std.proofs.Common.{◌≡◌, ℕ, Bool, true, false, List, [], ◌∷◌, ◌++◌, refl, ap, ◌∙◌, sym, subst, append_assoc}
use Rattle.std.specs.Prelude.{Option, Some, None, is_none, is_some, map}
use Rattle.std.specs.List.{list_all}
use Rattle.std.proofs.lemmas.List.{append-nil, map-append}
use Rattle.std.proofs.lemmas.List.Folds.{list_all-append}
use Rattle.ldap_spec.specs.Kinds.{kind_of}
use Rattle.ldap_spec.specs.Messages.{Message}
use Rattle.lload_names.specs.declared.names.CancelAnswer.TheVariants.{S1}
use Rattle.lload_names.specs.declared.names.Entry.{Entry}
use Rattle.lload_names.specs.declared.names.Letter.TheVariants.{Choice, Reply, Failed}
use Rattle.lload_names.specs.declared.names.PartName.TheVariants.{Client}
use Rattle.lload_names.specs.declared.names.What.{What}
use Rattle.lload_names.specs.declared.names.What.TheVariants as what
use Rattle.lload_spec.specs.Entries.{in_message}
use Rattle.lload_spec.specs.FirstCheck.{Check, Ends, Unbinds, Abandons, Refuses, Answers, Cancels, GoesOn, client_facts}
use Rattle.lload_spec.specs.Journal.{Family}
use Rattle.lload_spec.specs.Lists.{where_there}
use Rattle.lload_spec.specs.Settings.{Settings}
use Rattle.lload_spec.proofs.Growth.{left, right}
use Rattle.part_laws.specs.Turns.{Event, made}
use Rattle.part_spec.specs.ClientState.{ClientState, step_client, step_clients, client_of, facts_of, check_at, is_present, row_named}
use Rattle.part_spec.specs.ClientTurn.{whats_by, whats_for, noticed, refused}
use Rattle.part_spec.specs.Fit.{ledger_behind as behind}
use Rattle.part_spec.specs.Inputs.{entries_of}
use Rattle.part_spec.specs.Marked.{Marked, Taken, entries}
use Rattle.client_laws.specs.Turns.{client_event, client_list}
use Rattle.client_laws.proofs.ClientClauses.{Keeps}
use Rattle.client_laws.proofs.ClientTurns.{client_turn_of}
use Rattle.client_share_laws.proofs.ClientCases.{Cases, event_case, taken}
use Rattle.client_share_laws.proofs.ClientKept.{kept_always}
use Rattle.client_share_laws.proofs.Whats.{refused_all, canceled_all, choice_all}
use Rattle.carried_laws.specs.Laws.{are_identities_right, is_identity_right}
use Rattle.identity_laws.proofs.BoundCases.{Knows, knows_more, nothing_known, facts_by}

-- the state behind an entry more
pub steps_push : (s : Settings) (p : ClientState) (ms : List Marked) (m : Marked) → step_clients s p (ms ++ m ∷ []) ≡ step_client s (step_clients s p ms) m
steps_push s p [] m = refl
steps_push s p (x ∷ ms) m = steps_push s (step_client s p x) ms m

-- what is known where a message comes
abbrev pub Ins : (List Marked → Type 0) → List Marked → List Marked → Type 0
Ins P before [] = Unit {0}
Ins P before (m ∷ ms) = (is_some (in_message m.entry.what) ≡ true → P before) × Ins P (before ++ m ∷ []) ms

pub ins_both : (P : List Marked → Type 0) (before L M : List Marked) → Ins P before L → Ins P (before ++ L) M → Ins P before (L ++ M)
ins_both P before [] M h k = subst (λ b. Ins P b M) (append-nil before) k
ins_both P before (m ∷ L) M h k = (h.0, ins_both P (before ++ m ∷ []) L M h.1 (subst (λ b. Ins P b M) (sym (append_assoc before (m ∷ []) L)) k))

-- by the split
pub ins_at : (P : List Marked → Type 0) (b before : List Marked) (m : Marked) (ms : List Marked) → Ins P b (before ++ m ∷ ms) → is_some (in_message m.entry.what) ≡ true → P (b ++ before)
ins_at P b [] m ms h k = subst P (sym (append-nil b)) (h.0 k)
ins_at P b (x ∷ before) m ms h k = subst P (append_assoc b (x ∷ []) before) (ins_at P (b ++ x ∷ []) before m ms h.1 k)

abbrev is_quiet : What → Bool
is_quiet w = is_none (in_message w)

check_quiet : (m : Message) (k : Check) → list_all is_quiet (whats_by m k) ≡ true
check_quiet m (Ends why) = refl
check_quiet m Unbinds = refl
check_quiet m (Abandons id) = refl
check_quiet m (Refuses which) = refused_all is_quiet (λ id rest. refl) m which
check_quiet m (Answers which) = canceled_all is_quiet (λ id rest. refl) m.id (kind_of m.rest) which
check_quiet m (Cancels id kind) = canceled_all is_quiet (λ i rest. refl) m.id (kind_of m.rest) S1
check_quiet m GoesOn = refl

-- a turn: a message comes only as its first entry, and only while the client is there
module _ (s : Settings) (p : ClientState) (P : List Marked → Type 0) (before : List Marked) (here : is_present p ≡ true → P before) where
  none_in : (w : What) → is_quiet w ≡ true → is_some (in_message w) ≡ true → (b : List Marked) → P b
  none_in w h k = none (in_message w) h k
    where
      none : (o : Option Message) → is_none o ≡ true → is_some o ≡ true → (b : List Marked) → P b
      none None i j = absurd (let bad : false ≡ true = j in cc)
      none (Some m) i j = absurd (let bad : false ≡ true = i in cc)

  quiet_ins : (at : ℕ) (ws : List What) (b : List Marked) → list_all is_quiet ws ≡ true → Ins P b (map (λ x. record { entry = x; mark = None }) (entries_of (Client p.number) at ws))
  quiet_ins at [] b h = tt
  quiet_ins at (w ∷ ws) b h = ((λ k. none_in w (left (is_quiet w) _ h) k b), quiet_ins at ws (b ++ record { entry = record { part = Client p.number; at = at; what = w }; mark = None } ∷ []) (right (is_quiet w) _ h))

  turn : (at : ℕ) (mark : Option Taken) (w : What) (ws : List What) → (is_some (in_message w) ≡ true → P before) → list_all is_quiet ws ≡ true → Ins P before (client_turn_of p.number at mark (w ∷ ws))
  turn at mark w ws f h = (f, quiet_ins at ws (before ++ record { entry = record { part = Client p.number; at = at; what = w }; mark = mark } ∷ []) h)

  quiet : (at : ℕ) (mark : Option Taken) (ws : List What) → list_all is_quiet ws ≡ true → Ins P before (client_turn_of p.number at mark ws)
  quiet at mark [] h = tt
  quiet at mark (w ∷ ws) h = turn at mark w ws (λ k. none_in w (left (is_quiet w) _ h) k before) (right (is_quiet w) _ h)

  pub ins_cases : Cases s p (Ins P before)
  ins_cases =
      record {
        none = tt;
        arrives = λ at fresh. quiet at None (what.Arrived ∷ []) refl;
        checked = λ at m e h. turn at None (what.In m.id m.rest) (whats_by m (check_at s p m)) (λ k. here e) (check_quiet m (check_at s p m));
        chosen = λ at sender op a h. quiet at (taken sender (Choice op a)) (what.Chosen op a ∷ whats_for (row_named p op) a) (choice_all is_quiet (λ id rest. refl) (row_named p op) a);
        answered = λ at sender op rest is_last who r e h. quiet at (taken sender (Reply op rest is_last who)) (what.Out r.request.id rest ∷ []) refl;
        failed = λ at sender op which r e h. quiet at (taken sender (Failed op which)) (refused r.request which) (refused_all is_quiet (λ id rest. refl) r.request which);
        late = λ at mark op e h about. quiet at mark (what.Late op ∷ []) refl;
        breaks = λ at why there e n. quiet at None (noticed why) refl;
        severed = λ at why h e. quiet at None (what.Gone why ∷ []) refl;
        stalls = λ at h. quiet at None (what.Stalled ∷ []) refl;
        flows = λ at h. quiet at None (what.Flowing ∷ []) refl;
      }

-- What the state says where a turn begins.
abbrev pub FactsAt : Settings → Family → ℕ → List Marked → Type 0
FactsAt s F c before = (rest_of : List Entry) → F.client c ≡ entries before ++ rest_of → are_identities_right s F before ≡ true → facts_of (client_of s c before) ≡ client_facts s F c (entries before)

record Kept (s : Settings) (F : Family) (c : ℕ) (before : List Marked) (p : ClientState) : Type 0 where
  knows : Knows s F c before p
  ins : Ins (FactsAt s F c) [] before

kept_more : (s : Settings) (F : Family) (c : ℕ) (before : List Marked) (p : ClientState) (x : Event) → Keeps s c before p → Kept s F c before p → Kept s F c (before ++ made (client_event s) p x) (behind (step_client s) p (made (client_event s) p x))
kept_more s F c before p x keeps h =
    record {
      knows = knows_more s F c before p x keeps h.knows;
      ins = ins_both (FactsAt s F c) [] before (made (client_event s) p x) h.ins (event_case s p (Ins (FactsAt s F c) before) (ins_cases s p (FactsAt s F c) before (λ present. facts_by s F c before p keeps h.knows)) x);
    }

list_ins : (s : Settings) (F : Family) (c : ℕ) (xs : List Event) → Ins (FactsAt s F c) [] (client_list s c xs)
list_ins s F c xs = kept_always s c (Kept s F c) (Ins (FactsAt s F c) []) (λ before p h. h.ins) (kept_more s F c) (record { knows = nothing_known s F c; ins = tt }) xs

-- Where a message comes in a whole list.
abbrev pub Known : Settings → Family → ℕ → List Marked → List Marked → Type 0
Known s F c before ms = Ins (λ b. facts_of (client_of s c b) ≡ client_facts s F c (entries b)) before ms

known_from : (s : Settings) (F : Family) (c : ℕ) (before ms : List Marked) → F.client c ≡ entries (before ++ ms) → are_identities_right s F (before ++ ms) ≡ true → Ins (FactsAt s F c) before ms → Known s F c before ms
known_from s F c before [] same told h = tt
known_from s F c before (m ∷ ms) same told h = (
  (λ k. h.0 k (m.entry ∷ entries ms) (same ∙ map-append (λ (x : Marked). x.entry) before (m ∷ ms)) (left (are_identities_right s F before) _ (sym (list_all-append (λ x. where_there (λ t. is_identity_right s F t.letter) x.mark) before (m ∷ ms)) ∙ told))),
  known_from s F c (before ++ m ∷ []) ms (same ∙ ap entries (sym (append_assoc before (m ∷ []) ms))) (ap (are_identities_right s F) (append_assoc before (m ∷ []) ms) ∙ told) h.1,
)

pub client_known : (s : Settings) (F : Family) (c : ℕ) (list : List Marked) (xs : List Event) → client_list s c xs ≡ list → entries list ≡ F.client c → are_identities_right s F list ≡ true → Known s F c [] list
client_known s F c list xs same entries_are told = known_from s F c [] list (sym entries_are) told (subst (Ins (FactsAt s F c) []) same (list_ins s F c xs))

-- by the split
pub known_at : (s : Settings) (F : Family) (c : ℕ) (b before : List Marked) (m : Marked) (ms : List Marked) → Known s F c b (before ++ m ∷ ms) → is_some (in_message m.entry.what) ≡ true → facts_of (client_of s c (b ++ before)) ≡ client_facts s F c (entries (b ++ before))
known_at s F c b before m ms h k = ins_at (λ l. facts_of (client_of s c l) ≡ client_facts s F c (entries l)) b before m ms h k
