-- An end of a bind connection for an unfinished exchange has its cause: the holder's client left it there.
use Rattle.std.proofs.Common.{◌≡◌, ◌⊎◌, inl, inr, ℕ, Bool, true, false, ◌&&◌, ◌||◌, not, if◌then◌else◌, List, [], ◌∷◌, ◌++◌, refl, ap, ◌∙◌, sym, subst}
use Rattle.std.specs.Prelude.{Option, Some, None, filter}
use Rattle.std.specs.List.{list_any, list_all}
use Rattle.std.specs.Str.{bytes_eq}
use Rattle.std.proofs.lemmas.List.Folds.{list_all-append}
use Rattle.lload_names.specs.declared.names.ConnKind.TheVariants.{Bind as BindKind}
use Rattle.lload_names.specs.declared.names.EndWhy.TheVariants.{Unfinished}
use Rattle.lload_names.specs.declared.names.Entry.{Entry}
use Rattle.lload_names.specs.declared.names.Letter.{Letter}
use Rattle.lload_names.specs.declared.names.Letter.TheVariants.{Forward, Leave}
use Rattle.lload_names.specs.declared.names.OpKind.{OpKind}
use Rattle.lload_names.specs.declared.names.OpKind.TheVariants.{Bind}
use Rattle.lload_names.specs.declared.names.OpName.{OpName}
use Rattle.lload_names.specs.declared.names.PartName.{PartName}
use Rattle.lload_names.specs.declared.names.PartName.TheVariants.{Client}
use Rattle.lload_names.specs.declared.names.What.{What}
use Rattle.lload_names.specs.declared.names.What.TheVariants as what
use Rattle.lload_spec.specs.Answers.{Sending, asks_who, of_operation, sendings}
use Rattle.lload_spec.specs.CausedUp.{holder, is_holding, is_left_by, is_unfinished}
use Rattle.lload_spec.specs.Entries.{down_why, is_down, same_why}
use Rattle.lload_spec.specs.Journal.{Family, same_op, same_part}
use Rattle.lload_spec.specs.Lists.{agrees, implies, last, passes, where_there}
use Rattle.lload_spec.specs.Operations.{is_of, operation}
use Rattle.lload_spec.specs.Settings.{Settings, is_kind, is_of_kind}
use Rattle.lload_spec.proofs.Growth.{left, right, both}
use Rattle.part_laws.proofs.ListLaws.{eq_eqb, same_number, same_op_eq, same_op_refl}
use Rattle.part_spec.specs.ConnectionState.{connection_behind, frees_holder, is_bind, step_connection}
use Rattle.part_spec.specs.Fit.{ConnectionLedger, fits_connection, is_forward_for, is_forward_of, is_leave_of, is_of_its_kind, step_connection_ledger, with_mark}
use Rattle.part_spec.specs.Marked.{Marked, Taken, entries}
use Rattle.part_spec.specs.Marks.{has_connection_mark, marks_connection}
use Rattle.connection_laws.proofs.ConnectionSays.{kind_step}
use Rattle.connection_laws.proofs.Pausings.{client_is}
use Rattle.connection_laws.proofs.Permits.{push_entry}
use Rattle.bind_laws.specs.Turns.{is_told_rightly}
use Rattle.bind_laws.proofs.BindShare.{begins_alone}
use Rattle.bind_laws.proofs.Lone.{no_own}
use Rattle.bind_laws.proofs.Tells.{SentsAre}
use Rattle.identity_laws.proofs.Finals.{last_all, last_passes_it}
use Rattle.joined_laws.proofs.Taken.{is_mark_from}
use Rattle.upstream_laws.proofs.BindEnds.{Comes}
use Rattle.upstream_laws.proofs.Heads.{Head, Tail}
use Rattle.leave_laws.proofs.Holders.{LastHolding, holding_got, holding_quiet, holding_sent}

-- whether a letter that was taken, where it is a Forward, is of its holder's client
abbrev is_own_forward : PartName → Letter → Bool
is_own_forward sender (Forward op _ rest ask holder) = same_part sender (Client holder.client)
is_own_forward sender _ = true

abbrev are_own : List Taken → Bool
are_own taken = list_all (λ t. is_own_forward t.sender t.letter) taken

own_sender : (sender : PartName) (h : OpName) (x : Letter) → is_own_forward sender x ≡ true → is_forward_for h x ≡ true → sender ≡ Client h.client
own_sender sender h (Forward op sort rest ask holder) e k = client_is sender holder.client e ∙ ap (λ (o : OpName). Client o.client) (sym (same_op_eq h holder k))
own_sender sender h _ e k = absurd (let bad : false ≡ true = k in cc)

pub same_sender : (sender x : PartName) (c : ℕ) → same_part sender x ≡ true → x ≡ Client c → same_part (Client c) sender ≡ true
same_sender sender x c h e = by sender (subst (λ q. same_part sender q ≡ true) e h)
  where
    by : (q : PartName) → same_part q (Client c) ≡ true → same_part (Client c) q ≡ true
    by (Client n) k = eq_eqb c n (sym (same_number n c k))
    by _ k = absurd (let bad : false ≡ true = k in cc)

module _ (s : Settings) (F : Family) (u : ℕ) (place : is_of_kind s BindKind u ≡ true) where
  -- what is known at each place
  pub record Place (before : List Marked) (l : ConnectionLedger) : Type 0 where
    pub holding : LastHolding s F l.state.holder (last (sendings u (entries before)))
    pub is_bind_one : l.state.kind ≡ BindKind
    pub own : are_own l.taken ≡ true

  module _ (before : List Marked) (l : ConnectionLedger) (h : Place before l) (part : PartName) (at : ℕ) (mark : Option Taken) where
    abbrev entry : What → Entry
    entry w = record { part = part; at = at; what = w }

    abbrev marked : What → Marked
    marked w = record { entry = entry w; mark = mark }

    bind : is_bind l.state ≡ true
    bind = ap (is_kind BindKind) h.is_bind_one

    known : Head s F u before l → implies (list_any is_down (entries before)) false ≡ true → SentsAre s F u (entries before) l.state.ids.next l.state.rows []
    known a d = (a.knows.tells a.told).sents (a.knows.keeps.keeps.stands.says.down ∙ by (list_any is_down (entries before)) d) refl
      where
        by : (b : Bool) → implies b false ≡ true → b ≡ false
        by true k = absurd (let bad : false ≡ true = k in cc)
        by false k = refl

    -- the sender of a Forward
    of_forward : (sender : PartName) (op holder : OpName) (kind : OpKind) (rest : List ℕ) (ask : Bool) → fits_connection s l sender (Forward op kind rest ask holder) ≡ true → (same_part sender (Client op.client) && same_part sender (Client holder.client)) ≡ true
    of_forward sender op holder kind rest ask f =
        left (same_part sender (Client op.client) && same_part sender (Client holder.client)) _
        (left (same_part sender (Client op.client) && same_part sender (Client holder.client) && not (list_any (λ t. is_forward_of op t.letter) l.taken)) _
        (left (same_part sender (Client op.client) && same_part sender (Client holder.client) && not (list_any (λ t. is_forward_of op t.letter) l.taken) && l.state.up) _
        (left (same_part sender (Client op.client) && same_part sender (Client holder.client) && not (list_any (λ t. is_forward_of op t.letter) l.taken) && l.state.up && is_of_its_kind s l.state kind rest ask) _ f)))

    one_client : (sender : PartName) (op holder : OpName) → (same_part sender (Client op.client) && same_part sender (Client holder.client)) ≡ true → op.client ≡ holder.client
    one_client sender op holder k =
        let both_are : Client op.client ≡ Client holder.client = sym (client_is sender op.client (left (same_part sender (Client op.client)) _ k)) ∙ client_is sender holder.client (right (same_part sender (Client op.client)) _ k) in cc

    holding_next : (w : What) → Comes s F u place before l (marked w) → LastHolding s F (connection_behind s (entry w) mark l.state w).holder (last (sendings u (entries before ++ entry w ∷ [])))
    holding_next (what.Got id rest) c = by c.begun
      where
        message : Head s F u before l → (b : Bool) → frees_holder l.state (record { id = id; rest = rest }) ≡ b → LastHolding s F (if b then None else l.state.holder) (last (sendings u (entries before ++ entry (what.Got id rest) ∷ [])))
        message a true e = tt
        message a false e = holding_got s F u (entries before) l.state (no_own s u (entries before) l.state (begins_alone s u place) a.knows.keeps.keeps.stands.own) a.knows.keeps.stands.lone (known a c.alive) part at id rest l.state.holder e h.holding

        by : Head s F u before l ⊎ Tail (marked (what.Got id rest)) → LastHolding s F (if frees_holder l.state (record { id = id; rest = rest }) then None else l.state.holder) (last (sendings u (entries before ++ entry (what.Got id rest) ∷ [])))
        by (inl a) = message a (frees_holder l.state (record { id = id; rest = rest })) refl
        by (inr a) = absurd (let bad : false ≡ true = a.quiet in cc)
    holding_next (what.Sent id op rest) c = by mark c.marked c.told c.fit
      where
        sent : (t : Taken) (x : Letter) → marks_connection l.state (what.Sent id op rest) x ≡ true → is_told_rightly s F x ≡ true → fits_connection s l t.sender x ≡ true → LastHolding s F (connection_behind s (entry (what.Sent id op rest)) (Some (record { sender = t.sender; letter = x })) l.state (what.Sent id op rest)).holder (last (sendings u (entries before ++ entry (what.Sent id op rest) ∷ [])))
        sent t (Forward q kind body ask n) k told f =
            let name : op ≡ q = same_op_eq op q (left (same_op op q) _ (left (same_op op q && bytes_eq rest body) _ k)) in
            subst (λ b. LastHolding s F (if b then Some n else None) (last (sendings u (entries before ++ entry (what.Sent id op rest) ∷ [])))) (sym bind)
            (holding_sent s F u (entries before) part at id op rest n (λ o. is_of Bind o && agrees ask (asks_who s o)) (ap (λ v. passes (λ o. is_of Bind o && agrees ask (asks_who s o)) (operation F v)) name ∙ told) (ap (λ (v : OpName). v.client) name ∙ one_client t.sender q n (of_forward t.sender q n kind body ask f)))
        sent t _ k told f = absurd (let bad : false ≡ true = k in cc)

        by : (o : Option Taken) → has_connection_mark l.state (record { entry = entry (what.Sent id op rest); mark = o }) ≡ true → where_there (λ t. is_told_rightly s F t.letter) o ≡ true → ((t : Taken) → o ≡ Some t → fits_connection s l t.sender t.letter ≡ true) → LastHolding s F (connection_behind s (entry (what.Sent id op rest)) o l.state (what.Sent id op rest)).holder (last (sendings u (entries before ++ entry (what.Sent id op rest) ∷ [])))
        by None k told f = absurd (let bad : false ≡ true = k in cc)
        by (Some t) k told f = sent t t.letter k told (f t refl)
    holding_next (what.Missed op) c = tt
    holding_next (what.Down why) c = tt
    holding_next what.Linked c = holding_quiet s F u (entries before) (entry what.Linked) l.state.holder refl refl refl h.holding
    holding_next w c = holding_quiet s F u (entries before) (entry w) l.state.holder refl refl refl h.holding

    own_next : ((t : Taken) → mark ≡ Some t → fits_connection s l t.sender t.letter ≡ true) → are_own (with_mark mark l.taken) ≡ true
    own_next fit = by mark fit
      where
        one : (t : Taken) (x : Letter) → fits_connection s l t.sender x ≡ true → is_own_forward t.sender x ≡ true
        one t (Forward op kind rest ask holder) f = right (same_part t.sender (Client op.client)) _ (of_forward t.sender op holder kind rest ask f)
        one t _ f = refl

        by : (o : Option Taken) → ((t : Taken) → o ≡ Some t → fits_connection s l t.sender t.letter ≡ true) → are_own (with_mark o l.taken) ≡ true
        by None f = h.own
        by (Some t) f = list_all-append (λ x. is_own_forward x.sender x.letter) l.taken (t ∷ []) ∙ both (are_own l.taken) _ h.own (both (is_own_forward t.sender t.letter) true (one t t.letter (f t refl)) refl)

    pub place_next : (w : What) → Comes s F u place before l (marked w) → Place (before ++ marked w ∷ []) (step_connection_ledger s l (marked w))
    place_next w c =
        record {
          holding = subst (λ p. LastHolding s F (step_connection s l.state (marked w)).holder (last (sendings u p))) (sym (push_entry before (marked w))) (holding_next w c);
          is_bind_one = kind_step s (entry w) mark l.state w ∙ h.is_bind_one;
          own = own_next c.fit;
        }

    -- The end for an unfinished exchange: its holder's Leave came.
    pub sent_leave : (t : Taken) (n : OpName) → fits_connection s l t.sender (Leave n) ≡ true → same_part (Client n.client) t.sender ≡ true
    sent_leave t n f = by (last (filter (λ y. same_part t.sender y.sender && (is_forward_for n y.letter || is_leave_of n y.letter)) l.taken)) refl (right (is_bind l.state) _ f)
      where
        by : (o : Option Taken) → last (filter (λ y. same_part t.sender y.sender && (is_forward_for n y.letter || is_leave_of n y.letter)) l.taken) ≡ o → passes (λ x. is_forward_for n x.letter) o ≡ true → same_part (Client n.client) t.sender ≡ true
        by None e k = absurd (let bad : false ≡ true = k in cc)
        by (Some x) e k = same_sender t.sender x.sender n.client (left (same_part t.sender x.sender) _ (last_passes_it (λ y. same_part t.sender y.sender && (is_forward_for n y.letter || is_leave_of n y.letter)) l.taken x e)) (own_sender x.sender n x.letter (last_all (λ y. same_part t.sender y.sender && (is_forward_for n y.letter || is_leave_of n y.letter)) (λ y. is_own_forward y.sender y.letter) l.taken x e h.own) k)

    pub ends_left : Comes s F u place before l (marked (what.Down Unfinished)) → ((n : OpName) → is_mark_from (Client n.client) (is_leave_of n) mark ≡ true → is_left_by F u n.client ≡ true) → is_unfinished s F u (entries before) ≡ true
    ends_left c f = by mark c.marked c.fit f
      where
        holder_by : Bool → Option Sending → Option ℕ
        holder_by b o = elim o [ None ↦ None | Some x ↦ if b && of_operation F (is_holding s) x then Some x.op.client else None ]

        held : (n : OpName) → l.state.holder ≡ Some n → is_left_by F u n.client ≡ true → is_unfinished s F u (entries before) ≡ true
        held n e k = ap (λ b. passes (is_left_by F u) (holder_by b (last (sendings u (entries before))))) place ∙ one (last (sendings u (entries before))) (subst (λ o. LastHolding s F o (last (sendings u (entries before)))) e h.holding)
          where
            one : (o : Option Sending) → LastHolding s F (Some n) o → passes (is_left_by F u) (holder_by true o) ≡ true
            one None j = absurd j
            one (Some x) j = ap (λ b. passes (is_left_by F u) (if b then Some x.op.client else None)) (ap (passes (λ o. is_holding s o x)) j.found ∙ j.holds) ∙ ap (is_left_by F u) j.client ∙ k

        holds : (n : OpName) (o : Option OpName) → l.state.holder ≡ o → passes (same_op n) o ≡ true → is_left_by F u n.client ≡ true → is_unfinished s F u (entries before) ≡ true
        holds n None e k j = absurd (let bad : false ≡ true = k in cc)
        holds n (Some q) e k j = held n (e ∙ ap Some (sym (same_op_eq n q k))) j

        leave : (t : Taken) (x : Letter) → marks_connection l.state (what.Down Unfinished) x ≡ true → fits_connection s l t.sender x ≡ true → ((n : OpName) → (same_part (Client n.client) t.sender && is_leave_of n x) ≡ true → is_left_by F u n.client ≡ true) → is_unfinished s F u (entries before) ≡ true
        leave t (Leave n) k fit g =
            holds n l.state.holder refl (right (is_bind l.state) _ (left (is_bind l.state && passes (same_op n) l.state.holder) _ k))
            (g n (both (same_part (Client n.client) t.sender) _ (sent_leave t n fit) (same_op_refl n)))
        leave t _ k fit g = absurd (let bad : false ≡ true = k in cc)

        by : (o : Option Taken) → has_connection_mark l.state (record { entry = entry (what.Down Unfinished); mark = o }) ≡ true → ((t : Taken) → o ≡ Some t → fits_connection s l t.sender t.letter ≡ true) → ((n : OpName) → is_mark_from (Client n.client) (is_leave_of n) o ≡ true → is_left_by F u n.client ≡ true) → is_unfinished s F u (entries before) ≡ true
        by None k fit g = absurd (let bad : false ≡ true = k in cc)
        by (Some t) k fit g = leave t t.letter k (fit t refl) g

-- whether an end for an unfinished exchange has its cause
abbrev pub is_unfinished_so : Settings → Family → ℕ → List Entry → Entry → Bool
is_unfinished_so s F u place e = where_there (λ why. implies (same_why why Unfinished) (is_unfinished s F u place)) (down_why e.what)
