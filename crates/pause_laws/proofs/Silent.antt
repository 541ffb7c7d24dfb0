-- Letters of a client that are no pauses: those of its messages, Forwards, and the ends of what it does.
use Rattle.std.proofs.Common.{◌≡◌, ℕ, Bool, true, false, ◌&&◌, List, [], ◌∷◌, ◌++◌, refl, sym, subst}
use Rattle.std.specs.Prelude.{Option, Some, None, find, flat_map}
use Rattle.std.specs.List.{list_all}
use Rattle.std.proofs.lemmas.List.Folds.{list_all-append}
use Rattle.ldap_spec.specs.Kinds.{kind_of}
use Rattle.ldap_spec.specs.Messages.{Message}
use Rattle.lload_names.specs.declared.names.Letter.TheVariants.{Drop, Forward, Leave}
use Rattle.lload_names.specs.declared.names.OpKind.{OpKind}
use Rattle.lload_names.specs.declared.names.OpKind.TheVariants.{Bind}
use Rattle.lload_names.specs.declared.names.OpName.{OpName}
use Rattle.lload_names.specs.declared.names.PartName.{PartName}
use Rattle.lload_names.specs.declared.names.PartName.TheVariants.{Up as Connection}
use Rattle.lload_names.specs.declared.names.Posted.{Posted}
use Rattle.lload_spec.specs.Answers.{wants_identity}
use Rattle.lload_spec.specs.Entries.{makes_operation}
use Rattle.lload_spec.specs.FirstCheck.{Check, Ends, Unbinds, Abandons, Refuses, Answers, Cancels, GoesOn, live_request, may_be_canceled}
use Rattle.lload_spec.specs.Journal.{same_part}
use Rattle.lload_spec.specs.Operations.{is_request_of}
use Rattle.lload_spec.specs.Settings.{Settings}
use Rattle.lload_spec.proofs.Growth.{left, right, both}
use Rattle.part_spec.specs.ClientState.{ClientState, ClientRow, Held, abandons, is_bind_row, is_pinned, name_of, new_row}
use Rattle.part_spec.specs.ClientTurn.{asks, drop_of, drops, endings, forward, leave}
use Rattle.part_spec.specs.Gives.{message_letters}
use Rattle.part_spec.specs.Marked.{letters_to}
use Rattle.pause_laws.proofs.Signals.{is_quiet}

-- whether none of these letters is a pause or its end
abbrev pub is_silent : List Posted → Bool
is_silent xs = list_all (λ x. is_quiet x.letter) xs

pub silent_to : (q : PartName) (xs : List Posted) → is_silent xs ≡ true → list_all is_quiet (letters_to q xs) ≡ true
silent_to q [] h = refl
silent_to q (x ∷ xs) h = by (same_part q x.to) (silent_to q xs (right (is_quiet x.letter) _ h))
  where
    by : (b : Bool) → list_all is_quiet (letters_to q xs) ≡ true → list_all is_quiet ((elim b [ true ↦ x.letter ∷ [] | false ↦ [] ]) ++ letters_to q xs) ≡ true
    by true ih = both (is_quiet x.letter) _ (left (is_quiet x.letter) _ h) ih
    by false ih = ih

silent_both : (xs ys : List Posted) → is_silent xs ≡ true → is_silent ys ≡ true → is_silent (xs ++ ys) ≡ true
silent_both xs ys h k = subst (λ b. b ≡ true) (sym (list_all-append (λ (x : Posted). is_quiet x.letter) xs ys)) (both (is_silent xs) (is_silent ys) h k)

module _ (p : ClientState) where
  drop_silent : (r : ClientRow) → is_silent (drop_of p r) ≡ true
  drop_silent r = by (is_bind_row r) r.connection
    where
      by : (b : Bool) (o : Option ℕ) → is_silent (elim b [ true ↦ [] | false ↦ elim o [ None ↦ [] | Some u ↦ record { to = Connection u; letter = Drop (name_of p r) } ∷ [] ] ]) ≡ true
      by true o = refl
      by false None = refl
      by false (Some u) = refl

  rows_silent : (rows : List ClientRow) → is_silent (flat_map (drop_of p) rows) ≡ true
  rows_silent [] = refl
  rows_silent (r ∷ rows) = silent_both (drop_of p r) (flat_map (drop_of p) rows) (drop_silent r) (rows_silent rows)

  found_silent : (o : Option ClientRow) → is_silent (elim o [ None ↦ [] | Some r ↦ drop_of p r ]) ≡ true
  found_silent None = refl
  found_silent (Some r) = drop_silent r

  leave_silent : is_silent (leave p) ≡ true
  leave_silent = by p.hold
    where
      by : (o : Option Held) → is_silent (elim o [ None ↦ [] | Some x ↦ record { to = Connection x.connection; letter = Leave x.holder } ∷ [] ]) ≡ true
      by None = refl
      by (Some x) = refl

  pub endings_silent : is_silent (endings p) ≡ true
  endings_silent = silent_both (drops p) (leave p) (rows_silent p.rows) leave_silent

where_silent : (b : Bool) (xs : List Posted) → is_silent xs ≡ true → is_silent (elim b [ true ↦ xs | false ↦ [] ]) ≡ true
where_silent true xs h = h
where_silent false xs h = refl

pub forward_silent : (s : Settings) (p : ClientState) (r : ClientRow) (holder : OpName) (u : ℕ) → is_silent (forward s p r holder u) ≡ true
forward_silent s p r holder u = by (kind_of r.request.rest)
  where
    by : (k : Option OpKind) → is_silent (elim k [ None ↦ [] | Some sort ↦ record { to = Connection u; letter = Forward (name_of p r) sort r.request.rest (wants_identity s r.request) holder } ∷ [] ]) ≡ true
    by None = refl
    by (Some sort) = refl

-- those of a message, by the first check that holds of it
pub message_silent : (s : Settings) (p : ClientState) (at : ℕ) (m : Message) (k : Check) → is_silent (message_letters s p at m k) ≡ true
message_silent s p at m (Ends why) = where_silent (makes_operation m && is_request_of Bind m) (drops p) (rows_silent p p.rows)
message_silent s p at m Unbinds = refl
message_silent s p at m (Abandons id) = found_silent p (find (abandons m) p.rows)
message_silent s p at m (Refuses which) = where_silent (is_request_of Bind m) (endings p) (endings_silent p)
message_silent s p at m (Answers which) = refl
message_silent s p at m (Cancels id its_kind) = found_silent p (find (λ r. may_be_canceled id (live_request r.request)) p.rows)
message_silent s p at m GoesOn = by (is_request_of Bind m) (is_pinned s p m) p.hold
  where
    by : (b i : Bool) (o : Option Held) → is_silent (elim b [ true ↦ drops p ++ elim i [ true ↦ elim o [ None ↦ [] | Some x ↦ forward s p (new_row s p m) x.holder x.connection ] | false ↦ asks s p at m ] | false ↦ asks s p at m ]) ≡ true
    by false i o = refl
    by true false o = silent_both (drops p) (asks s p at m) (rows_silent p p.rows) refl
    by true true None = silent_both (drops p) [] (rows_silent p p.rows) refl
    by true true (Some x) = silent_both (drops p) (forward s p (new_row s p m) x.holder x.connection) (rows_silent p p.rows) (forward_silent s p (new_row s p m) x.holder x.connection)
