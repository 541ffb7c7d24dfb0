-- A client gives a Leave of a holder once: behind it the client holds nothing, and no operation is chosen twice.
use Rattle.std.proofs.Common.{◌≡◌, ℕ, Bool, true, false, ◌==◌, ◌&&◌, not, List, [], ◌∷◌, ◌++◌, refl, ap, ◌∙◌, sym, subst, Option, Some, None, is_some}
use Rattle.std.specs.List.{list_any}
use Rattle.lload_names.specs.declared.names.EndWhy.{EndWhy}
use Rattle.lload_names.specs.declared.names.Entry.{Entry}
use Rattle.lload_names.specs.declared.names.Letter.TheVariants.{Leave}
use Rattle.lload_names.specs.declared.names.OpKind.TheVariants.{Bind}
use Rattle.lload_names.specs.declared.names.OpKind.{OpKind}
use Rattle.lload_names.specs.declared.names.OpName.{OpName}
use Rattle.lload_names.specs.declared.names.PartName.TheVariants.{Client, Up as Connection}
use Rattle.lload_names.specs.declared.names.Refusal.{Refusal}
use Rattle.lload_names.specs.declared.names.What.TheVariants as what
use Rattle.lload_names.specs.declared.names.What.{What}
use Rattle.ldap_spec.specs.Kinds.{kind_of}
use Rattle.ldap_spec.specs.Messages.{Message}
use Rattle.lload_spec.specs.Caused.{is_followed_up, is_refusal_of}
use Rattle.lload_spec.specs.Entries.{chosen, goes_to, in_message, is_of_client, makes_operation}
use Rattle.lload_spec.specs.FirstCheck.{Refuses}
use Rattle.lload_spec.specs.Journal.{same_op}
use Rattle.lload_spec.specs.Lists.{each_split_from, first_passes, implies, passes, some_entry, some_split_from, where_there}
use Rattle.lload_spec.specs.Operations.{is_request_of, operation_in}
use Rattle.lload_spec.specs.Settings.{Settings}
use Rattle.lload_spec.specs.Strict.{has_place_in_client, is_choice_for, is_chosen_once, is_in_unheld, lives_as_client}
use Rattle.lload_spec.proofs.Growth.{left, right}
use Rattle.part_spec.specs.ClientState.{ClientState, Held, check_at, client_behind, name_of, step_client}
use Rattle.part_spec.specs.ClientTurn.{drop_of, drops, endings, leave, resumes}
use Rattle.part_spec.specs.Fit.{ClientLedger, empty_client_ledger, is_leave_of, step_client_ledger}
use Rattle.part_spec.specs.Gives.{client_gives, client_letters, gives, message_letters}
use Rattle.part_spec.specs.Marked.{Marked, entries}
use Rattle.part_spec.specs.Share.{ClientShare}
use Rattle.lload_laws.proofs.ListLaws.{found_passes, passes_imply}
use Rattle.part_laws.proofs.ListLaws.{any_before, false_by, none_of_both, not_both, not_true, or_elim, or_left, or_right, same_op_eq, same_op_refl}
use Rattle.forward_laws.proofs.Causes.{is_live_choice}
use Rattle.leave_laws.proofs.Along.{Along, Here, along}
use Rattle.leave_laws.proofs.Letters.{Holds, drop_fails, is_left_there, left_at, resumes_fail}
use Rattle.leave_laws.proofs.Lists.{none_flat}
use Rattle.leave_laws.proofs.Refused.{refused_makes}
use Rattle.idle_laws.specs.Laws.{LeavesAreGivenOnce, is_once}
use Rattle.idle_laws.proofs.Held.{Freed, HoldNext, Learned, Same, hold_next, refused_freed}
use Rattle.idle_laws.proofs.Once.{none_once, once_both, once_to}

module _ (s : Settings) (c u : ℕ) (h : OpName) where
  -- The letters at one entry.
  dropless : (p : ClientState) → list_any (is_left_there h u) (drops p) ≡ false
  dropless p = none_flat (is_left_there h u) (drop_of p) p.rows (drop_fails (is_left_there h u) (λ v o. refl) p)

  resumeless : (p : ClientState) → list_any (is_left_there h u) (resumes p) ≡ false
  resumeless p = resumes_fail (is_left_there h u) (λ v n. refl) p.number p.pausing.paused

  leave_once : (p : ClientState) → is_once (is_left_there h u) (leave p) ≡ true
  leave_once p = by p.hold
    where
      alone : (b : Bool) → (implies b true && true) ≡ true
      alone true = refl
      alone false = refl

      by : (o : Option Held) → is_once (is_left_there h u) (elim o [ None ↦ [] | Some x ↦ record { to = Connection x.connection; letter = Leave x.holder } ∷ [] ]) ≡ true
      by None = refl
      by (Some x) = alone (same_op h x.holder && (u == x.connection))

  endings_once : (p : ClientState) → is_once (is_left_there h u) (endings p) ≡ true
  endings_once p = once_both (is_left_there h u) (drops p) (leave p) (none_once (is_left_there h u) (drops p) (dropless p)) (leave_once p) (λ k. not_both (list_any (is_left_there h u) (drops p)) k (dropless p))

  letters_once : (p : ClientState) (at : ℕ) (w : What) → is_once (is_left_there h u) (client_letters s p at w) ≡ true
  letters_once p at w = by (list_any (is_left_there h u) (client_letters s p at w)) refl
    where
      at_end : (why : EndWhy) → is_once (is_left_there h u) (client_letters s p at (what.Gone why)) ≡ true
      at_end why = once_both (is_left_there h u) (endings p) (resumes p) (endings_once p) (none_once (is_left_there h u) (resumes p) (resumeless p)) (λ k. resumeless p)

      at_refusal : (id : ℕ) (body : List ℕ) (which : Refusal) → check_at s p (record { id = id; rest = body }) ≡ Refuses which → is_request_of Bind (record { id = id; rest = body }) ≡ true → is_once (is_left_there h u) (client_letters s p at (what.In id body)) ≡ true
      at_refusal id body which e b =
          ap (λ k. is_once (is_left_there h u) (message_letters s p at (record { id = id; rest = body }) k)) e
          ∙ ap (λ d. is_once (is_left_there h u) (elim d [ true ↦ endings p | false ↦ [] ])) b ∙ endings_once p

      by : (b : Bool) → list_any (is_left_there h u) (client_letters s p at w) ≡ b → is_once (is_left_there h u) (client_letters s p at w) ≡ true
      by false e = none_once (is_left_there h u) (client_letters s p at w) e
      by true e = left_at s h u p at w e (λ why i k. subst (λ v. is_once (is_left_there h u) (client_letters s p at v) ≡ true) (sym i) (at_end why)) (λ id body which i e b k. subst (λ v. is_once (is_left_there h u) (client_letters s p at v) ≡ true) (sym i) (at_refusal id body which e b))

  -- Behind the Leave.

  -- the holder was chosen, and nothing is held for it any more
  record Left (place : List Entry) (p : ClientState) : Type 0 where
    chosen : list_any (is_choice_for h) place ≡ true
    other : passes (λ x. same_op h x.holder) p.hold ≡ false

  abbrev lives_so : List Entry → Entry → List Entry → Bool
  lives_so place e behind = is_of_client e.what && has_place_in_client s c place e behind

  once_here : (place : List Entry) (e : Entry) (behind : List Entry) → lives_so place e behind ≡ true → is_chosen_once c place e ≡ true
  once_here place e behind k = right (lives_as_client place e) _ (left (lives_as_client place e && is_chosen_once c place e) _ (left (lives_as_client place e && is_chosen_once c place e && is_in_unheld s c place e) _ (right (is_of_client e.what) _ k)))

  left_more : (place : List Entry) (p : ClientState) (m : Marked) → is_chosen_once c place m.entry ≡ true → Left place p → Left (place ++ m.entry ∷ []) (step_client s p m)
  left_more place p m once k = record { chosen = any_before (is_choice_for h) place (m.entry ∷ []) k.chosen; other = by (hold_next s m.entry.at m.mark p m.entry.what) }
    where
      by : HoldNext p (client_behind s m.entry.at m.mark p m.entry.what).hold m.entry.what → passes (λ x. same_op h x.holder) (client_behind s m.entry.at m.mark p m.entry.what).hold ≡ false
      by (Same e) = ap (passes (λ (x : Held). same_op h x.holder)) e ∙ k.other
      by (Freed e) = ap (passes (λ (x : Held). same_op h x.holder)) e
      by (Learned op v n r w z b e) =
          let named : name_of p r ≡ op = same_op_eq (name_of p r) op (found_passes (λ x. p.number == op.client && x.k == op.k) p.rows r z) in
          ap (passes (λ (x : Held). same_op h x.holder)) e ∙ ap (same_op h) named
          ∙ false_by (same_op h op) (λ j. sym (not_true (list_any (is_choice_for op) place) (right (op.client == c && is_some (operation_in c place op)) _ (sym (ap (λ v. where_there (λ x. x.op.client == c && is_some (operation_in c place x.op) && not (list_any (is_choice_for x.op) place)) (chosen v)) w) ∙ once))) ∙ subst (λ o. list_any (is_choice_for o) place ≡ true) (same_op_eq h op j) k.chosen)

  none_left : (place : List Entry) (p : ClientState) (ms : List Marked) → each_split_from lives_so place (entries ms) ≡ true → Left place p → list_any (is_left_there h u) (client_gives s p ms) ≡ false
  none_left place p [] life k = refl
  none_left place p (m ∷ ms) life k =
      none_of_both (is_left_there h u) (client_letters s p m.entry.at m.entry.what) (client_gives s (step_client s p m) ms)
      (false_by (list_any (is_left_there h u) (client_letters s p m.entry.at m.entry.what)) (λ j. left_at s h u p m.entry.at m.entry.what j (λ why i g. no g) (λ id body which i e b g. no g)))
      (none_left (place ++ m.entry ∷ []) (step_client s p m) ms (right (lives_so place m.entry (entries ms)) _ life) (left_more place p m (once_here place m.entry (entries ms) (left (lives_so place m.entry (entries ms)) _ life)) k))
    where
      no : Holds p h u → false ≡ true
      no g = sym k.other ∙ ap (passes (λ (x : Held). same_op h x.holder)) g.holds ∙ ap (same_op h) g.name ∙ same_op_refl h

  -- the connection that is held was chosen for its holder
  was_chosen : (before L : List Entry) → some_split_from (λ b x d. is_live_choice c h u b x) before L ≡ true → list_any (is_choice_for h) L ≡ true
  was_chosen before [] k = absurd (let bad : false ≡ true = k in cc)
  was_chosen before (x ∷ L) k = or_elim (is_live_choice c h u before x) (some_split_from (λ b y d. is_live_choice c h u b y) (before ++ x ∷ []) L) (λ j. or_left (is_choice_for h x) _ (passes_imply (λ y. same_op h y.op && goes_to u y.value) (λ y. same_op h y.op) (chosen x.what) (λ y i. left (same_op h y.op) _ i) (left (passes (λ y. same_op h y.op && goes_to u y.value) (chosen x.what)) _ j))) (λ j. or_right (is_choice_for h x) _ (was_chosen (before ++ x ∷ []) L j)) k

  module _ (place : List Entry) (b : List Marked) (l : ClientLedger) (m : Marked) (ms : List Marked) (here : Here s c place b l m ms) (life : each_split_from lives_so place (entries (m ∷ ms)) ≡ true) where
    chosen_here : Holds l.state h u → list_any (is_choice_for h) place ≡ true
    chosen_here g = was_chosen [] place (subst (λ v. some_entry (is_live_choice c v u) place ≡ true) g.name (subst (λ v. some_entry (is_live_choice c g.held.holder v) place ≡ true) g.there (here.stands.chosen g.held g.holds)))

    free : (p : ClientState) → p.hold ≡ None → passes (λ x. same_op h x.holder) p.hold ≡ false
    free p e = ap (passes (λ (x : Held). same_op h x.holder)) e

    behind_refusal : (x : Message) (which : Refusal) → m.entry.what ≡ what.In x.id x.rest → check_at s l.state x ≡ Refuses which → is_request_of Bind x ≡ true → Holds l.state h u → list_any (is_left_there h u) (client_gives s (step_client s l.state m) ms) ≡ false
    behind_refusal x which i e bind g = by ms (ap (is_followed_up x (entries ms)) (sym e) ∙ followed) (right (lives_so place m.entry (entries ms)) _ life)
      where
        followed : is_followed_up x (entries ms) (check_at s l.state x) ≡ true
        followed = sym (ap (λ w. elim (in_message w) [ None ↦ true | Some y ↦ is_followed_up y (entries ms) (check_at s l.state y) ]) i) ∙ here.checked

        by : (ns : List Marked) → first_passes (is_refusal_of which x.id (kind_of x.rest)) (entries ns) ≡ true → each_split_from lives_so (place ++ m.entry ∷ []) (entries ns) ≡ true → list_any (is_left_there h u) (client_gives s (step_client s l.state m) ns) ≡ false
        by [] f q = absurd (let bad : false ≡ true = f in cc)
        by (next ∷ ns) f q =
            let makes : makes_operation x ≡ true = refused_makes s l.state x which e bind in
            none_of_both (is_left_there h u) (client_letters s (step_client s l.state m) next.entry.at next.entry.what) (client_gives s (step_client s (step_client s l.state m) next) ns)
            (quiet next.entry.what f)
            (none_left ((place ++ m.entry ∷ []) ++ next.entry ∷ []) (step_client s (step_client s l.state m) next) ns (right (lives_so (place ++ m.entry ∷ []) next.entry (entries ns)) _ q)
            (record {
              chosen = any_before (is_choice_for h) (place ++ m.entry ∷ []) (next.entry ∷ []) (any_before (is_choice_for h) place (m.entry ∷ []) (chosen_here g));
              other = free (step_client s (step_client s l.state m) next) (refused_freed s l.state m next x which i makes bind f);
            }))
          where
            quiet : (w : What) → is_refusal_of which x.id (kind_of x.rest) (record { part = next.entry.part; at = next.entry.at; what = w }) ≡ true → list_any (is_left_there h u) (client_letters s (step_client s l.state m) next.entry.at w) ≡ false
            quiet w j = on (kind_of x.rest) w j
              where
                on : (k : Option OpKind) (v : What) → is_refusal_of which x.id k (record { part = next.entry.part; at = next.entry.at; what = v }) ≡ true → list_any (is_left_there h u) (client_letters s (step_client s l.state m) next.entry.at v) ≡ false
                on None v n = absurd (let bad : false ≡ true = n in cc)
                on (Some sort) (what.Out id body) n = refl
                on (Some sort) _ n = absurd (let bad : false ≡ true = n in cc)

    behind_leave : list_any (is_left_there h u) (client_letters s l.state m.entry.at m.entry.what) ≡ true → list_any (is_left_there h u) (client_gives s (step_client s l.state m) ms) ≡ false
    behind_leave k = left_at s h u l.state m.entry.at m.entry.what k gone (λ id body which i e bind g. behind_refusal (record { id = id; rest = body }) which i e bind g)
      where
        gone : (why : EndWhy) → m.entry.what ≡ what.Gone why → Holds l.state h u → list_any (is_left_there h u) (client_gives s (step_client s l.state m) ms) ≡ false
        gone why i g = none_left (place ++ m.entry ∷ []) (step_client s l.state m) ms (right (lives_so place m.entry (entries ms)) _ life) (record { chosen = any_before (is_choice_for h) place (m.entry ∷ []) (chosen_here g); other = free (step_client s l.state m) (ap (λ w. (client_behind s m.entry.at m.mark l.state w).hold) i) })

  walk : (place : List Entry) (b : List Marked) (l : ClientLedger) (ms : List Marked) → Along s c place b l ms → each_split_from lives_so place (entries ms) ≡ true → is_once (is_left_there h u) (client_gives s l.state ms) ≡ true
  walk place b l [] a life = refl
  walk place b l (m ∷ ms) a life = once_both (is_left_there h u) (client_letters s l.state m.entry.at m.entry.what) (client_gives s (step_client s l.state m) ms) (letters_once l.state m.entry.at m.entry.what) (walk (place ++ m.entry ∷ []) (b ++ m ∷ []) (step_client_ledger s l m) ms a.1 (right (lives_so place m.entry (entries ms)) _ life)) (behind_leave place b l m ms a.0 life)

pub leaves_once : LeavesAreGivenOnce
leaves_once s F marked h u holder = once_to (Connection u) (is_leave_of holder) (gives s (Client holder.client) (marked (Client holder.client))) (walk s holder.client u holder [] [] (empty_client_ledger holder.client) (marked (Client holder.client)) (along s holder.client (marked (Client holder.client)) share (h.joined.fit (Client holder.client))) share.life)
  where
    share : ClientShare s holder.client (marked (Client holder.client))
    share = h.joined.shared.shares (Client holder.client)
