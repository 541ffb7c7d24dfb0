-- Each Drop that a connection took was given by the client of its operation, which ended it.
use Rattle.std.proofs.Common.{◌≡◌, Bool, true, false, ◌&&◌, ◌||◌, not, List, [], ◌∷◌, refl, ap, ◌∙◌, sym, subst}
use Rattle.std.specs.Prelude.{Option, Some, None, filter}
use Rattle.std.specs.List.{list_any, list_all}
use Rattle.std.proofs.lemmas.List.Folds.{list_all-append}
use Rattle.lload_names.specs.declared.names.Letter.{Letter}
use Rattle.lload_names.specs.declared.names.Letter.TheVariants.{Drop, Forward}
use Rattle.lload_names.specs.declared.names.OpName.{OpName}
use Rattle.lload_names.specs.declared.names.PartName.{PartName}
use Rattle.lload_names.specs.declared.names.PartName.TheVariants.{Client, Up as Connection}
use Rattle.lload_spec.specs.Journal.{same_part}
use Rattle.lload_spec.specs.Lists.{last, passes}
use Rattle.lload_spec.specs.Settings.{Settings}
use Rattle.lload_spec.proofs.Growth.{left, right, both}
use Rattle.lload_laws.proofs.ListLaws.{any_imply}
use Rattle.part_laws.proofs.ListLaws.{or_elim, or_left, or_right, same_op_eq}
use Rattle.part_spec.specs.ConnectionState.{is_bind}
use Rattle.part_spec.specs.Fit.{ConnectionLedger, are_fit_from, empty_connection_ledger, fits_connection, is_drop_of, is_forward_of, is_of_its_kind, is_unfit, step_connection_ledger, with_mark}
use Rattle.part_spec.specs.Gives.{gives}
use Rattle.part_spec.specs.Marked.{Marked, Taken}
use Rattle.part_spec.specs.Share.{ClientShare, drops, has_letter}
use Rattle.connection_laws.proofs.Pausings.{client_is}
use Rattle.forward_laws.proofs.Sendings.{given_to}
use Rattle.identity_laws.proofs.Finals.{last_all, last_passes_it}
use Rattle.joined_laws.proofs.Taken.{is_fit_there, is_mark_from, was_given}
use Rattle.leave_laws.specs.Laws.{DropsAreOfEnded}
use Rattle.leave_laws.proofs.Along.{along}
use Rattle.leave_laws.proofs.Drops.{gave_drop}
use Rattle.leave_laws.proofs.Manners.{has_ended}
use Rattle.leave_laws.proofs.Unfinished.{same_sender}

-- whether a letter that was taken, where it is a Forward, is of its operation's client
abbrev pub is_own_forward : PartName → Letter → Bool
is_own_forward sender (Forward op sort rest ask holder) = same_part sender (Client op.client)
is_own_forward sender _ = true

abbrev pub are_own : List Taken → Bool
are_own taken = list_all (λ t. is_own_forward t.sender t.letter) taken

own_sender : (sender : PartName) (op : OpName) (x : Letter) → is_own_forward sender x ≡ true → is_forward_of op x ≡ true → sender ≡ Client op.client
own_sender sender op (Forward o sort rest ask holder) e k = client_is sender o.client e ∙ ap (λ (q : OpName). Client q.client) (sym (same_op_eq op o k))
own_sender sender op _ e k = absurd (let bad : false ≡ true = k in cc)

module _ (s : Settings) where
  pub own_next : (l : ConnectionLedger) (mark : Option Taken) → ((t : Taken) → mark ≡ Some t → fits_connection s l t.sender t.letter ≡ true) → are_own l.taken ≡ true → are_own (with_mark mark l.taken) ≡ true
  own_next l None fit h = h
  own_next l (Some t) fit h = list_all-append (λ x. is_own_forward x.sender x.letter) l.taken (t ∷ []) ∙ both (are_own l.taken) _ h (both (is_own_forward t.sender t.letter) true (one t.letter (fit t refl)) refl)
    where
      one : (x : Letter) → fits_connection s l t.sender x ≡ true → is_own_forward t.sender x ≡ true
      one (Forward op sort rest ask holder) f =
          left (same_part t.sender (Client op.client)) _
          (left (same_part t.sender (Client op.client) && same_part t.sender (Client holder.client)) _
          (left (same_part t.sender (Client op.client) && same_part t.sender (Client holder.client) && not (list_any (λ y. is_forward_of op y.letter) l.taken)) _
          (left (same_part t.sender (Client op.client) && same_part t.sender (Client holder.client) && not (list_any (λ y. is_forward_of op y.letter) l.taken) && l.state.up) _
          (left (same_part t.sender (Client op.client) && same_part t.sender (Client holder.client) && not (list_any (λ y. is_forward_of op y.letter) l.taken) && l.state.up && is_of_its_kind s l.state sort rest ask) _ f))))
      one _ f = refl

  -- a Drop comes from its operation's client
  pub drop_sender : (l : ConnectionLedger) (t : Taken) (op : OpName) → are_own l.taken ≡ true → fits_connection s l t.sender (Drop op) ≡ true → same_part (Client op.client) t.sender ≡ true
  drop_sender l t op h f = by (last (filter (λ y. same_part t.sender y.sender && (is_forward_of op y.letter || is_drop_of op y.letter)) l.taken)) refl (right (not (is_bind l.state)) _ f)
    where
      by : (o : Option Taken) → last (filter (λ y. same_part t.sender y.sender && (is_forward_of op y.letter || is_drop_of op y.letter)) l.taken) ≡ o → passes (λ x. is_forward_of op x.letter) o ≡ true → same_part (Client op.client) t.sender ≡ true
      by None e k = absurd (let bad : false ≡ true = k in cc)
      by (Some x) e k = same_sender t.sender x.sender op.client (left (same_part t.sender x.sender) _ (last_passes_it (λ y. same_part t.sender y.sender && (is_forward_of op y.letter || is_drop_of op y.letter)) l.taken x e)) (own_sender x.sender op x.letter (last_all (λ y. same_part t.sender y.sender && (is_forward_of op y.letter || is_drop_of op y.letter)) (λ y. is_own_forward y.sender y.letter) l.taken x e h) k)

  dropped : (op : OpName) (l : ConnectionLedger) (ms : List Marked) → are_own l.taken ≡ true → are_fit_from (fits_connection s) (step_connection_ledger s) l ms ≡ true → list_any (has_letter (drops op)) ms ≡ true → list_any (λ m. is_mark_from (Client op.client) (is_drop_of op) m.mark) ms ≡ true
  dropped op l [] h f k = absurd (let bad : false ≡ true = k in cc)
  dropped op l (m ∷ ms) h f k =
      or_elim (has_letter (drops op) m) (list_any (has_letter (drops op)) ms)
      (λ j. or_left (is_mark_from (Client op.client) (is_drop_of op) m.mark) _ (here m.mark refl j))
      (λ j. or_right (is_mark_from (Client op.client) (is_drop_of op) m.mark) _ (dropped op (step_connection_ledger s l m) ms (own_next l m.mark fit h) (right (not (is_unfit (fits_connection s) l m.mark)) _ f) j)) k
    where
      fit : (t : Taken) → m.mark ≡ Some t → fits_connection s l t.sender t.letter ≡ true
      fit t e = is_fit_there (fits_connection s) l t (are_fit_from (fits_connection s) (step_connection_ledger s) (step_connection_ledger s l m) ms) (ap (λ q. not (is_unfit (fits_connection s) l q) && are_fit_from (fits_connection s) (step_connection_ledger s) (step_connection_ledger s l m) ms) (sym e) ∙ f)

      of_drop : (t : Taken) (x : Letter) → fits_connection s l t.sender x ≡ true → drops op x ≡ true → (same_part (Client op.client) t.sender && is_drop_of op x) ≡ true
      of_drop t (Drop o) g j = both (same_part (Client op.client) t.sender) _ (drop_sender l t op h (subst (λ q. fits_connection s l t.sender (Drop q) ≡ true) (sym (same_op_eq op o j)) g)) j
      of_drop t _ g j = absurd (let bad : false ≡ true = j in cc)

      here : (o : Option Taken) → m.mark ≡ o → passes (λ t. drops op t.letter) o ≡ true → is_mark_from (Client op.client) (is_drop_of op) o ≡ true
      here None e j = absurd (let bad : false ≡ true = j in cc)
      here (Some t) e j = of_drop t t.letter (fit t e) j

pub drops_of_ended : DropsAreOfEnded
drops_of_ended s F marked h u op k = subst (λ list. has_ended op.client op.k list ≡ true) (h.joined.shared.same_entries (Client op.client)) (gave_drop s op.client op.k (marked (Client op.client)) (along s op.client (marked (Client op.client)) share (h.joined.fit (Client op.client))) (any_imply (λ x. same_part (Connection u) x.to && is_drop_of op x.letter) (λ x. is_drop_of op x.letter) (gives s (Client op.client) (marked (Client op.client))) (λ x j. right (same_part (Connection u) x.to) _ j) (given_to (Connection u) (is_drop_of op) (gives s (Client op.client) (marked (Client op.client))) (was_given s F marked h.joined.linked (Client op.client) (Connection u) (is_drop_of op) (dropped s op (empty_connection_ledger s u) (marked (Connection u)) refl (h.joined.fit (Connection u)) k)))))
  where
    share : ClientShare s op.client (marked (Client op.client))
    share = h.joined.shared.shares (Client op.client)
