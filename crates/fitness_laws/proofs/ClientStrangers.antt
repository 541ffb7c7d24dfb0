-- A client writes to no client.
use Rattle.std.proofs.Common.{ℕ, true, false, List, [], ◌∷◌, ◌++◌, Option, Some, None, refl}
use Rattle.std.specs.Prelude.{◌&&◌, find, not}
use Rattle.ldap_spec.specs.Messages.{Message}
use Rattle.ldap_spec.specs.Kinds.{kind_of}
use Rattle.lload_names.specs.declared.inputs.Input.{Input}
use Rattle.lload_names.specs.declared.inputs.Input.TheVariants as input
use Rattle.lload_names.specs.declared.names.Answer.{Answer}
use Rattle.lload_names.specs.declared.names.Answer.TheVariants.{Go, Busy, Unavailable}
use Rattle.lload_names.specs.declared.names.EndWhy.{EndWhy}
use Rattle.lload_names.specs.declared.names.EndWhy.TheVariants.{Bad, TooBig}
use Rattle.lload_names.specs.declared.names.Letter.{Letter}
use Rattle.lload_names.specs.declared.names.Letter.TheVariants as real
use Rattle.lload_names.specs.declared.names.OpKind.TheVariants.{Bind}
use Rattle.lload_names.specs.declared.names.OpName.{OpName}
use Rattle.lload_names.specs.declared.names.PartName.TheVariants.{Client, Up as Connection}
use Rattle.lload_names.specs.declared.names.What.TheVariants as what
use Rattle.lload_spec.specs.Answers.{wants_identity}
use Rattle.lload_spec.specs.FirstCheck.{Check, Ends, Unbinds, Abandons, Refuses, Answers, Cancels, GoesOn, live_request, may_be_canceled}
use Rattle.lload_spec.specs.Lists.{rising_once}
use Rattle.lload_spec.specs.Operations.{is_request_of}
use Rattle.lload_spec.specs.Pauses.{pause_letters, pauses_behind, resume_letters}
use Rattle.lload_spec.specs.Settings.{Settings}
use Rattle.part_spec.specs.ClientState.{ClientState, ClientRow, abandons, check_at, is_bind_row, is_holding, is_pinned, is_present, name_of, new_row, regular_connections, row_named}
use Rattle.part_spec.specs.ClientTurn.{asks, by_check, client_act, closing, drop_of, drops, endings, flows, forward, goes_on, leave, letter, letters_by, letters_for, link_gone, message, pause_at, refused, resumes, stalls}
use Rattle.part_spec.specs.Inputs.{act, nothing, to}
use Rattle.stands_laws.specs.Follows.{client_end}
use Rattle.fitness_laws.proofs.Strangers.{NoneTo, WritesNone, none_act, none_each, none_either, none_found, none_maybe, none_more, none_so}

module _ (n : ℕ) where
  no_drop : (p : ClientState) (r : ClientRow) → NoneTo (Client n) (drop_of p r)
  no_drop p r = none_either (Client n) (is_bind_row r) [] (elim r.connection [ None ↦ [] | Some u ↦ to (Connection u) (real.Drop (name_of p r)) ]) refl (none_maybe (Client n) r.connection (λ u. to (Connection u) (real.Drop (name_of p r))) (λ u. refl))

  no_drops : (p : ClientState) → NoneTo (Client n) (drops p)
  no_drops p = none_each (Client n) (drop_of p) p.rows (no_drop p)

  no_leave : (p : ClientState) → NoneTo (Client n) (leave p)
  no_leave p = none_maybe (Client n) p.hold (λ h. to (Connection h.connection) (real.Leave h.holder)) (λ h. refl)

  no_endings : (p : ClientState) → NoneTo (Client n) (endings p)
  no_endings p = none_more (Client n) (drops p) (leave p) (no_drops p) (no_leave p)

  no_pauses : (c : ℕ) (us : List ℕ) → NoneTo (Client n) (pause_letters c us)
  no_pauses c [] = refl
  no_pauses c (u ∷ us) = no_pauses c us

  no_resumes : (c : ℕ) (us : List ℕ) → NoneTo (Client n) (resume_letters c us)
  no_resumes c [] = refl
  no_resumes c (u ∷ us) = no_resumes c us

  no_closing : (p : ClientState) → NoneTo (Client n) (closing p)
  no_closing p = none_more (Client n) (endings p) (resumes p) (no_endings p) (no_resumes p.number p.pausing.paused)

  no_forward : (s : Settings) (p : ClientState) (r : ClientRow) (holder : OpName) (u : ℕ) → NoneTo (Client n) (forward s p r holder u)
  no_forward s p r holder u = none_maybe (Client n) (kind_of r.request.rest) (λ kind. to (Connection u) (real.Forward (name_of p r) kind r.request.rest (wants_identity s r.request) holder)) (λ k. refl)

  no_bind : (s : Settings) (p : ClientState) (at : ℕ) (m : Message) → NoneTo (Client n) (elim (is_pinned s p m) [ true ↦ goes_on s p m | false ↦ asks s p at m ])
  no_bind s p at m = none_either (Client n) (is_pinned s p m) (goes_on s p m) (asks s p at m) (none_maybe (Client n) p.hold (λ h. forward s p (new_row s p m) h.holder h.connection) (λ h. no_forward s p (new_row s p m) h.holder h.connection)) refl

  no_letters : (s : Settings) (p : ClientState) (at : ℕ) (m : Message) (found : Check) → NoneTo (Client n) (letters_by s p at m found)
  no_letters s p at m (Ends why) = no_closing p
  no_letters s p at m Unbinds = no_closing p
  no_letters s p at m (Abandons id) = none_maybe (Client n) (find (abandons m) p.rows) (drop_of p) (no_drop p)
  no_letters s p at m (Refuses which) = none_either (Client n) (is_request_of Bind m) (endings p) [] (no_endings p) refl
  no_letters s p at m (Answers which) = refl
  no_letters s p at m (Cancels id its_kind) = none_maybe (Client n) (find (λ r. may_be_canceled id (live_request r.request)) p.rows) (drop_of p) (no_drop p)
  no_letters s p at m GoesOn =
      none_either (Client n) (is_request_of Bind m) (drops p ++ elim (is_pinned s p m) [ true ↦ goes_on s p m | false ↦ asks s p at m ]) (asks s p at m)
      (none_more (Client n) (drops p) (elim (is_pinned s p m) [ true ↦ goes_on s p m | false ↦ asks s p at m ]) (no_drops p) (no_bind s p at m)) refl

  no_message : (s : Settings) (p : ClientState) (at : ℕ) (m : Message) → WritesNone (Client n) (message s p at m)
  no_message s p at m = none_act (Client n) (is_present p && not (is_holding s p)) (by_check s p at m (check_at s p m)) nothing (no_letters s p at m (check_at s p m)) refl

  no_pause : (p : ClientState) (r : ClientRow) (u : ℕ) → NoneTo (Client n) (pause_at p r u)
  no_pause p r u = none_either (Client n) (is_bind_row r) [] (elim (pauses_behind p.pausing u) [ true ↦ pause_letters p.number (u ∷ []) | false ↦ [] ]) refl (none_either (Client n) (pauses_behind p.pausing u) (pause_letters p.number (u ∷ [])) [] refl refl)

  no_choice : (s : Settings) (p : ClientState) (op : OpName) (o : Option ClientRow) (a : Answer) → NoneTo (Client n) (letters_for s p op o a)
  no_choice s p op None (Go u b) = refl
  no_choice s p op (Some r) (Go u b) = none_more (Client n) (forward s p r op u) (pause_at p r u) (no_forward s p r op u) (no_pause p r u)
  no_choice s p op None Busy = refl
  no_choice s p op (Some r) Busy = refl
  no_choice s p op None Unavailable = refl
  no_choice s p op (Some r) Unavailable = refl

  no_letter : (s : Settings) (p : ClientState) (l : Letter) → WritesNone (Client n) (letter s p l)
  no_letter s p (real.Choice op a) = no_choice s p op (row_named p op) a
  no_letter s p (real.Reply op rest is_last who) = none_found (Client n) (row_named p op) (act (what.Late op ∷ []) []) (λ r. act (what.Out r.request.id rest ∷ []) []) refl (λ r. refl)
  no_letter s p (real.Failed op which) = none_found (Client n) (row_named p op) (act (what.Late op ∷ []) []) (λ r. act (refused r.request which) []) refl (λ r. refl)
  no_letter s p _ = refl

  no_link_gone : (p : ClientState) (why : EndWhy) → WritesNone (Client n) (link_gone p why)
  no_link_gone p Bad = no_closing p
  no_link_gone p TooBig = no_closing p
  no_link_gone p _ = refl

  pub client_writes_none : (s : Settings) (p : ClientState) (at : ℕ) (i : Input) → WritesNone (Client n) (client_act s p at i)
  client_writes_none s p at (input.Arrive now) = none_so (Client n) (not p.arrived) (act (what.Arrived ∷ []) []) refl
  client_writes_none s p at (input.Message now id rest) = no_message s p at (record { id = id; rest = rest })
  client_writes_none s p at (input.LetterFrom now word sender l) = none_so (Client n) p.arrived (letter s p l) (no_letter s p l)
  client_writes_none s p at (input.LinkGone now why) = none_so (Client n) (is_present p) (link_gone p why) (no_link_gone p why)
  client_writes_none s p at (input.Stall now) = none_so (Client n) (is_present p && not p.pausing.stalled) (stalls p) (no_pauses p.number (rising_once (regular_connections p)))
  client_writes_none s p at (input.Flow now) = none_so (Client n) (is_present p && p.pausing.stalled) (flows p) (no_resumes p.number p.pausing.paused)
  client_writes_none s p at _ = refl

  pub client_ends_none : (p : ClientState) (why : EndWhy) → WritesNone (Client n) (client_end p why)
  client_ends_none p why = none_so (Client n) (is_present p) (act (what.Gone why ∷ []) (closing p)) (no_closing p)
