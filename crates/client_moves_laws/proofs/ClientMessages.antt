-- A client's turn at a message, by its first check.
use Rattle.std.proofs.Common.{◌≡◌, ℕ, suc, Bool, true, false, ◌==◌, ◌&&◌, ◌||◌, not, List, [], ◌∷◌, ◌++◌, Option, Some, None, refl, ap, ◌∙◌, sym, subst, arith}
use Rattle.std.specs.Prelude.{find, is_some}
use Rattle.std.specs.List.{list_any}
use Rattle.std.proofs.lemmas.Bool.{eqb-true, and_parts, and_from}
use Rattle.ldap_spec.specs.Bodies.{cancel_answer, protocol_error_notice, refusal}
use Rattle.ldap_spec.specs.Kinds.{kind_of, is_final, response_tag}
use Rattle.ldap_spec.specs.Messages.{Message}
use Rattle.lload_names.specs.declared.names.CancelAnswer.{CancelAnswer}
use Rattle.lload_names.specs.declared.names.CancelAnswer.TheVariants.{S1, C13}
use Rattle.lload_names.specs.declared.names.EndWhy.{EndWhy}
use Rattle.lload_names.specs.declared.names.EndWhy.TheVariants.{Left}
use Rattle.lload_names.specs.declared.names.OpKind.{OpKind}
use Rattle.lload_names.specs.declared.names.OpKind.TheVariants.{Bind}
use Rattle.lload_names.specs.declared.names.PartName.TheVariants.{Client as ClientPart}
use Rattle.lload_names.specs.declared.names.Refusal.{Refusal}
use Rattle.lload_names.specs.declared.names.What.TheVariants as what
use Rattle.lload_spec.specs.Entries.{makes_operation}
use Rattle.lload_spec.specs.FirstCheck.{Check, LiveRequest, Ends, Unbinds, Abandons, Refuses, Answers, Cancels, GoesOn, live_request, lets_go_on, may_be_canceled}
use Rattle.lload_spec.specs.Operations.{is_request_of}
use Rattle.lload_spec.specs.Settings.{Settings}
use Rattle.lload_spec.specs.Binding.{restricts}
use Rattle.lload_spec.proofs.Growth.{left, right}
use Rattle.part_laws.proofs.ListLaws.{not_true}
use Rattle.part_spec.specs.Inputs.{Act, act}
use Rattle.part_spec.specs.ClientState.{ClientState, ClientRow, abandons, check_at, facts_of, is_bind_row, is_holding, is_pinned, lets_wait}
use Rattle.part_spec.specs.ClientTurn.{asks, binds, by_check, canceled, canceled_drop, drop_of, drops, goes_on, letters_by, noticed, refused, whats_by}
use Rattle.part_spec.specs.ClientTurn as turn
use Rattle.part_spec.specs.Fit.{ClientLedger, step_client_ledger}
use Rattle.move_laws.specs.World.{World, Client, Hold, at, held, holds}
use Rattle.move_laws.specs.Clients.{ask_row, end_row, may_ask, may_end, refuse_row}
use Rattle.move_laws.specs.Counts.{num}
use Rattle.move_laws.specs.AgreeBinds.{Holds}
use Rattle.stands_laws.specs.Books.{Book, HasMade, is_bind_op, made_by}
use Rattle.stands_laws.specs.ClientSides.{ClientSide, ClientMove, Asking, Binding, Ending, Leaving, Refusing, client_side, endings}
use Rattle.stands_laws.specs.ClientStands.{kinds_of, row_of, live_upto, serves, ClientStands, ClientIs}
use Rattle.stands_laws.specs.Follows.{ClientActs, client_behind}
use Rattle.stands_laws.proofs.Rows.{live_any}
use Rattle.stands_laws.proofs.Tests.{put_cases, same_self}
use Rattle.client_moves_laws.proofs.Makes.{moves_append}
use Rattle.client_moves_laws.proofs.Checks.{Operates, abandoned, answers_ext, ext_plain, finds, is_answering, is_operating, operates}
use Rattle.client_moves_laws.proofs.ClientChoices.{bind_kind, kind_is, refusal_ends}
use Rattle.client_moves_laws.proofs.ClientCloses.{closes, closings, closings_quiet, came_mark, kept_in, kept_out, kept_then, leavings_quiet}
use Rattle.client_moves_laws.proofs.ClientComes.{Fresh, booked, free_id, fresh, number_next}
use Rattle.client_moves_laws.proofs.ClientLetters.{open_at}
use Rattle.client_moves_laws.proofs.ClientOuts.{out_mark}
use Rattle.client_moves_laws.proofs.ClientRefuses.{CanceledRow, Comes, cancels_makes, not_pinned, refuses_makes}
use Rattle.client_moves_laws.proofs.ClientRequests.{abandon_makes, abandoning, asks_makes, may_ask_plain}
use Rattle.client_moves_laws.proofs.ClientBinds.{ComesBind, asking_row, asks_row, bind_asks, bind_refuses, binding_row, emptied, refused_row}
use Rattle.client_moves_laws.proofs.ClientPins.{Pinned, bind_goes_on, binds_row}
use Rattle.client_moves_laws.proofs.ClientPauses.{acts_by}
use Rattle.client_moves_laws.proofs.ClientRows.{find_live, found_row}
use Rattle.client_laws.proofs.ClientCancels.{cancel_named}

-- moves that make what a turn without a letter makes
pub record Moved (s : Settings) (b : Book) (c at : ℕ) (l : ClientLedger) (a : Act) (y : ClientSide) : Type 0 where
  pub made : List ClientMove
  pub acts : ClientActs s b c at None l a y made
  pub choices : (client_behind s b c y made).choices ≡ y.choices
  pub answers : (client_behind s b c y made).answers ≡ y.answers

end_same : (t : Bool) (k : ℕ) (x : Client) → ((end_row t k x).asked ≡ x.asked) × ((end_row t k x).paused ≡ x.paused)
end_same true k x = (refl, refl)
end_same false k x = (refl, refl)

unpinned : (d t g : Bool) → d ≡ true → g ≡ true → (d && t && g) ≡ false → t ≡ false
unpinned true true true i j e = absurd (let bad : true ≡ false = e in cc)
unpinned true true false i j e = absurd (let bad : false ≡ true = j in cc)
unpinned true false g i j e = refl
unpinned false t g i j e = absurd (let bad : false ≡ true = i in cc)

unheld : (o : Option Hold) → held o ≡ false → o ≡ None
unheld None e = refl
unheld (Some g) e = absurd (let bad : true ≡ false = e in cc)

held_some : (o : Option Hold) → held o ≡ true → (g : Hold) × (o ≡ Some g)
held_some None e = absurd (let bad : false ≡ true = e in cc)
held_some (Some g) e = (g, refl)

bind_waits : (s : Settings) (r : ClientRow) → is_bind_row r ≡ true → lets_wait s r ≡ true
bind_waits s r i = ap (λ (t : Bool). t || (restricts s r.action && not (is_some r.connection))) i

-- a client that takes messages has no live Bind
pub idle : (s : Settings) (b : Book) (c : ℕ) (l : ClientLedger) (x : Client) → ClientStands s b c l x → is_holding s l.state ≡ false → x.busy ≡ false
idle s b c l x h e = go x.busy refl
  where
    none : (t q : Bool) → (t || q) ≡ false → t ≡ false
    none true q i = i
    none false q i = refl

    waits : list_any (lets_wait s) (live_upto x.live (row_of b c x) x.next) ≡ false
    waits = ap (list_any (lets_wait s)) (sym h.rows) ∙ none (list_any (lets_wait s) l.state.rows) _ e

    go : (t : Bool) → x.busy ≡ t → x.busy ≡ false
    go false i = i
    go true i =
        let p = and_parts (x.live x.current) (is_bind_op b c x.current) (sym h.busy ∙ i) in
        let quiet : lets_wait s (row_of b c x x.current) ≡ false = live_any (lets_wait s) x.live (row_of b c x) x.next x.current waits (h.below x.current p.0) p.0 in
        let bad : true ≡ false = sym (bind_waits s (row_of b c x x.current) p.1) ∙ quiet in absurd (cc)

module _ (s : Settings) (b : Book) (w : World) (c now id : ℕ) (rest : List ℕ) (l : ClientLedger) (holds_all : Holds (kinds_of s b) w) (h : ClientIs s b c l (w.clients c)) (arrived : l.state.arrived ≡ true) (here : (w.clients c).gone ≡ false) (resting : (w.clients c).busy ≡ false) (has : makes_operation (record { id = id; rest = rest }) ≡ true → HasMade b (made_by s c l.state (record { id = id; rest = rest }))) where
  abbrev x : Client
  x = w.clients c

  abbrev y : ClientSide
  y = client_side w c

  abbrev m : Message
  m = record { id = id; rest = rest }

  abbrev p : ClientState
  p = l.state

  abbrev By : Check → Type 0
  By k = Moved s b c now l (by_check s p now m k) y

  new : Fresh x x.next
  new = fresh (kinds_of s b) w c holds_all

  number : x.next ≡ suc p.count
  number = number_next l x.next h.stands.next arrived

  plain_comes : Operates (facts_of p) m → is_request_of Bind m ≡ false → Comes s b c id rest l x
  plain_comes o e = record {
    stands = h.stands;
    fresh = new;
    booked = booked s b c p m x.next number (has o.makes);
    arrived = arrived;
    here = here;
    idle = resting;
    apart = λ k live i. free_id s b c id k l x h.stands o.free live i;
    makes = o.makes;
    known = o.kind;
    other = e;
  }

  bind_comes : Operates (facts_of p) m → is_request_of Bind m ≡ true → ComesBind s b c id rest l x
  bind_comes o e = record {
    stands = h.stands;
    fresh = new;
    booked = booked s b c p m x.next number (has o.makes);
    arrived = arrived;
    here = here;
    idle = resting;
    makes = o.makes;
    known = let kind = kind_is (kind_of rest) o.kind in kind.1 ∙ ap Some (bind_kind m kind.0 kind.1 e);
    bind = e;
  }

  final : (kind : OpKind) → (response_tag kind == response_tag kind) ≡ true
  final kind = same_self (response_tag kind)

  -- the operations that were asked for, where none is asked for now
  same_heads : (ms : List ClientMove) → (client_behind s b c y ms).row.asked ≡ x.asked → (j : ℕ) → (client_behind s b c y ms).row.asked j ≡ true → b.pinned c j ≡ false
  same_heads ms e j q = h.heads j (sym (ap (λ (f : ℕ → Bool). f j) e) ∙ q)

  ends : (why : EndWhy) → check_at s p m ≡ Ends why → By (Ends why)
  ends why e = record {
    made = closings (makes_operation m) x.next p.pausing.paused;
    acts = closes s b c now why (makes_operation m) l (step_client_ledger s (step_client_ledger s l (came_mark (ClientPart p.number) now id rest)) (out_mark (ClientPart p.number) now 0 protocol_error_notice None)) (what.In id rest ∷ noticed why) y h arrived
        (kept_then (makes_operation m) l (step_client_ledger s l (came_mark (ClientPart p.number) now id rest)) _ (kept_in s (ClientPart p.number) now id rest l (ap lets_go_on e)) (kept_out s (ClientPart p.number) now 0 protocol_error_notice (step_client_ledger s l (came_mark (ClientPart p.number) now id rest)))) refl;
    choices = (closings_quiet s b c (makes_operation m) x.next p.pausing.paused y).0;
    answers = (closings_quiet s b c (makes_operation m) x.next p.pausing.paused y).1;
  }

  unbinds : check_at s p m ≡ Unbinds → By Unbinds
  unbinds e = record {
    made = closings (makes_operation m) x.next p.pausing.paused;
    acts = closes s b c now Left (makes_operation m) l (step_client_ledger s l (came_mark (ClientPart p.number) now id rest)) (what.In id rest ∷ what.Gone Left ∷ []) y h arrived (kept_in s (ClientPart p.number) now id rest l (ap lets_go_on e)) refl;
    choices = (closings_quiet s b c (makes_operation m) x.next p.pausing.paused y).0;
    answers = (closings_quiet s b c (makes_operation m) x.next p.pausing.paused y).1;
  }

  abandoned_by : (n : ℕ) → check_at s p m ≡ Abandons n → By (Abandons n)
  abandoned_by n e = record {
    made = abandoning (find (abandons m) p.rows);
    acts = acts_by s b c now None l (what.In id rest ∷ []) (letters_by s p now m (Abandons n)) y (abandoning (find (abandons m) p.rows)) h arrived refl (abandon_makes s b c now id n rest l y h.stands (abandoned s (facts_of p) m n e) (ap lets_go_on e)) (same_heads (abandoning (find (abandons m) p.rows)) (same (find (abandons m) p.rows)).0) (same (find (abandons m) p.rows)).1;
    choices = (quiet (find (abandons m) p.rows)).0;
    answers = (quiet (find (abandons m) p.rows)).1;
  }
    where
      same : (o : Option ClientRow) → ((client_behind s b c (client_side w c) (abandoning o)).row.asked ≡ (w.clients c).asked) × ((client_behind s b c (client_side w c) (abandoning o)).row.paused ≡ (w.clients c).paused)
      same None = (refl, refl)
      same (Some r) = end_same (may_end (is_bind_op b c r.k) r.k (w.clients c)) r.k (w.clients c)

      quiet : (o : Option ClientRow) → ((client_behind s b c (client_side w c) (abandoning o)).choices ≡ (client_side w c).choices) × ((client_behind s b c (client_side w c) (abandoning o)).answers ≡ (client_side w c).answers)
      quiet None = (refl, refl)
      quiet (Some r) = (refl, refl)

  -- an answer at once to a request that isn't a Bind
  answered : Operates (facts_of p) m → is_request_of Bind m ≡ false → lets_go_on (check_at s p m) ≡ false → (kind : OpKind) (answer : List ℕ) → kind_of rest ≡ Some kind → is_final kind answer ≡ true → Moved s b c now l (act (what.In id rest ∷ what.Out id answer ∷ []) []) y
  answered o e g kind answer k f = record {
    made = Refusing ∷ [];
    acts = acts_by s b c now None l (what.In id rest ∷ what.Out id answer ∷ []) [] y (Refusing ∷ []) h arrived refl (refuses_makes s b c now id rest answer kind l y (plain_comes o e) g k f) h.heads refl;
    choices = refl;
    answers = refl;
  }

  -- the same to a Bind, which ends all that its client does
  bind_answered : Operates (facts_of p) m → is_request_of Bind m ≡ true → lets_go_on (check_at s p m) ≡ false → (which : Refusal) → Moved s b c now l (act (what.In id rest ∷ what.Out id (refusal Bind which) ∷ []) (turn.endings p)) y
  bind_answered o e g which =
      let ms = endings x.next ++ Refusing ∷ Leaving ∷ [] in
      let append = moves_append (is_bind_op b c) (serves s) y (endings x.next) (Refusing ∷ Leaving ∷ []) in
      let row : (client_behind s b c y ms).row ≡ emptied b c x = ap (λ (z : ClientSide). z.row) append ∙ refused_row s b c y resting in
      let quiet = leavings_quiet s b c x.next y in
      record {
        made = ms;
        acts = acts_by s b c now None l (what.In id rest ∷ what.Out id (refusal Bind which) ∷ []) (turn.endings p) y ms h arrived refl (bind_refuses s b c now id rest (refusal Bind which) l y (bind_comes o e) g refl (refusal_ends which)) (same_heads ms (ap (λ (z : Client). z.asked) row)) (ap (λ (z : Client). z.paused) row);
        choices = ap (λ (z : ClientSide). z.choices) append ∙ quiet.0;
        answers = ap (λ (z : ClientSide). z.answers) append ∙ quiet.1;
      }

  refuses : (which : Refusal) → check_at s p m ≡ Refuses which → By (Refuses which)
  refuses which e = by (is_request_of Bind m) refl
    where
      o : Operates (facts_of l.state) (record { id = id; rest = rest })
      o = operates s (facts_of l.state) (record { id = id; rest = rest }) (ap is_operating e)

      kind : (kind : OpKind) × (kind_of rest ≡ Some kind)
      kind = kind_is (kind_of rest) o.kind

      abbrev_act : Bool → Option OpKind → Act
      abbrev_act d q = act (what.In id rest ∷ elim q [ None ↦ [] | Some k ↦ what.Out id (refusal k which) ∷ [] ]) (elim d [ true ↦ turn.endings l.state | false ↦ [] ])

      by : (d : Bool) → is_request_of Bind (record { id = id; rest = rest }) ≡ d → Moved s b c now l (by_check s l.state now (record { id = id; rest = rest }) (Refuses which)) (client_side w c)
      by false i = subst (λ (a : Act). Moved s b c now l a (client_side w c)) (sym (λ j. abbrev_act (i j) (kind.1 j))) (answered o i (ap lets_go_on e) kind.0 (refusal kind.0 which) kind.1 (final kind.0))
      by true i = subst (λ (a : Act). Moved s b c now l a (client_side w c)) (sym (λ j. abbrev_act (i j) ((kind.1 ∙ ap Some (bind_kind (record { id = id; rest = rest }) kind.0 kind.1 i)) j))) (bind_answered o i (ap lets_go_on e) which)

  answers : (which : CancelAnswer) → check_at s p m ≡ Answers which → By (Answers which)
  answers which e =
      let o = operates s (facts_of p) m (ap is_operating e) in
      let kind = kind_is (kind_of rest) o.kind in
      subst (λ (q : Option OpKind). Moved s b c now l (act (what.In id rest ∷ canceled id q which) []) y) (sym kind.1)
      (answered o (ext_plain m (answers_ext s (facts_of p) m (ap is_answering e))) (ap lets_go_on e) kind.0 (cancel_answer kind.0 which) kind.1 (final kind.0))

  cancels : (named : ℕ) (its_kind : OpKind) → check_at s p m ≡ Cancels named its_kind → By (Cancels named its_kind)
  cancels named its_kind e =
      let o = operates s (facts_of p) m (ap is_operating e) in
      let own = kind_is (kind_of rest) o.kind in
      let ext = (cancel_named s (facts_of p) m named its_kind e).0.ext in
      let f = finds s (facts_of p) m named its_kind e in
      let r = find_live (may_be_canceled named) p.rows f.live f.is in
      let z = found_row s b c l x (λ q. may_be_canceled named (live_request q.request)) r.0 h.stands r.1.0 in
      let j = z.row.k in
      let there : may_be_canceled named (live_request (b.request c j)) ≡ true = ap (λ (q : ClientRow). may_be_canceled named (live_request q.request)) (sym z.row.is) ∙ z.passes in
      let row : CanceledRow b c named its_kind x j = record {
        live = z.row.live;
        under = eqb-true (b.request c j).id named (left ((b.request c j).id == named) _ there);
        sort = ap (λ (q : ClientRow). kind_of q.request.rest) (sym z.row.is) ∙ (ap (λ (q : LiveRequest). q.kind) r.1.1 ∙ f.sort);
        plain = not_true (is_bind_op b c j) (right ((b.request c j).id == named) _ there);
      } in
      let made = cancels_makes s b c now id named j rest (cancel_answer its_kind C13) (cancel_answer own.0 S1) its_kind own.0 l y (plain_comes o (ext_plain m ext)) (ap lets_go_on e) own.1 (final own.0) row (final its_kind) in
      let drop : canceled_drop p named ≡ drop_of p (row_of b c x j) = ap (λ (q : Option ClientRow). elim q [ None ↦ [] | Some k ↦ drop_of p k ]) (r.1.0 ∙ ap Some z.row.is) in
      subst (λ (a : Act). Moved s b c now l a y) (sym (λ i. act (what.In id rest ∷ what.Out named (cancel_answer its_kind C13) ∷ canceled id (own.1 i) S1) (drop i)))
      (record {
        made = Refusing ∷ Ending j ∷ [];
        acts = acts_by s b c now None l (what.In id rest ∷ what.Out named (cancel_answer its_kind C13) ∷ what.Out id (cancel_answer own.0 S1) ∷ []) (drop_of p (row_of b c x j)) y (Refusing ∷ Ending j ∷ []) h arrived refl made
            (same_heads (Refusing ∷ Ending j ∷ []) (end_same (may_end (is_bind_op b c j) j (refuse_row x)) j (refuse_row x)).0) (end_same (may_end (is_bind_op b c j) j (refuse_row x)) j (refuse_row x)).1;
        choices = refl;
        answers = refl;
      })

  -- it goes on
  plain_goes : Operates (facts_of p) m → check_at s p m ≡ GoesOn → is_request_of Bind m ≡ false → Moved s b c now l (act (what.In id rest ∷ []) (asks s p now m)) y
  plain_goes o e i =
      let k = plain_comes o i in
      let plain : is_bind_op b c x.next ≡ false = k.booked.bind ∙ i in
      let may : may_ask (is_bind_op b c x.next) x ≡ true = may_ask_plain x (is_bind_op b c x.next) here resting plain in
      let row : (client_behind s b c y (Asking ∷ [])).row ≡ ask_row true (is_bind_op b c x.next) x = ap (λ (t : Bool). ask_row t (is_bind_op b c x.next) x) may in
      record {
        made = Asking ∷ [];
        acts = acts_by s b c now None l (what.In id rest ∷ []) (asks s p now m) y (Asking ∷ []) h arrived refl (asks_makes s b c now id rest l y k (ap lets_go_on e))
            (λ j q. put_cases x.asked x.next j (b.pinned c j ≡ false) (sym (ap (λ (z : Client). z.asked j) row) ∙ q) (λ u. ap (b.pinned c) u ∙ (k.booked.pinned ∙ not_pinned s p m i)) (h.heads j)) (ap (λ (z : Client). z.paused) row);
        choices = refl;
        answers = refl;
      }

  bind_goes : Operates (facts_of p) m → check_at s p m ≡ GoesOn → is_request_of Bind m ≡ true → (t : Bool) → is_pinned s p m ≡ t → Moved s b c now l (act (what.In id rest ∷ []) (drops p ++ elim t [ true ↦ goes_on s p m | false ↦ asks s p now m ])) y
  bind_goes o e i false u =
      let k = bind_comes o i in
      let ms = endings x.next ++ Asking ∷ [] in
      let append = moves_append (is_bind_op b c) (serves s) y (endings x.next) (Asking ∷ []) in
      let free : p.in_exchange ≡ false = unpinned (is_request_of Bind m) p.in_exchange (lets_go_on (check_at s p m)) i (ap lets_go_on e) u in
      let none : x.hold ≡ None = unheld x.hold (sym (h.stands.exchange here resting) ∙ free) in
      let row : (client_behind s b c y ms).row ≡ asking_row b c x = ap (λ (z : ClientSide). z.row) append ∙ asks_row s b c y here resting none (k.booked.bind ∙ i) in
      let quiet = leavings_quiet s b c x.next y in
      record {
        made = ms;
        acts = acts_by s b c now None l (what.In id rest ∷ []) (drops p ++ asks s p now m) y ms h arrived refl (bind_asks s b c now id rest l y k (ap lets_go_on e) u none)
            (λ j q. put_cases x.asked x.next j (b.pinned c j ≡ false) (sym (ap (λ (z : Client). z.asked j) row) ∙ q) (λ v. ap (b.pinned c) v ∙ (k.booked.pinned ∙ u)) (h.heads j)) (ap (λ (z : Client). z.paused) row);
        choices = ap (λ (z : ClientSide). z.choices) append ∙ quiet.0;
        answers = ap (λ (z : ClientSide). z.answers) append ∙ quiet.1;
      }
  bind_goes o e i true u =
      let k = bind_comes o i in
      let ms = endings x.next ++ Binding ∷ [] in
      let append = moves_append (is_bind_op b c) (serves s) y (endings x.next) (Binding ∷ []) in
      let pinned : p.in_exchange ≡ true = right (is_request_of Bind m) _ (left (is_request_of Bind m && p.in_exchange) _ u) in
      let hold = held_some x.hold (sym (h.stands.exchange here resting) ∙ pinned) in
      let g : Hold = hold.0 in
      let pin : Pinned s c id rest l x g = record { pinned = u; hold = hold.1; older = older g hold.1; open_at = λ v. open_at (kinds_of s b) w c x.next v holds_all new.given } in
      let row : (client_behind s b c y ms).row ≡ binding_row b c x = ap (λ (z : ClientSide). z.row) append ∙ binds_row s b c y g here resting hold.1 (k.booked.bind ∙ i) in
      let quiet = leavings_quiet s b c x.next y in
      record {
        made = ms;
        acts = acts_by s b c now None l (what.In id rest ∷ []) (drops p ++ goes_on s p m) y ms h arrived refl (bind_goes_on s b c now id rest l y g k pin (ap lets_go_on e)) (same_heads ms (ap (λ (z : Client). z.asked) row)) (ap (λ (z : Client). z.paused) row);
        choices = ap (λ (z : ClientSide). z.choices) append ∙ quiet.0;
        answers = ap (λ (z : ClientSide). z.answers) append ∙ quiet.1;
      }
    where
      older : (g : Hold) → (w.clients c).hold ≡ Some g → (g.holder == (w.clients c).next) ≡ false
      older g e = go (g.holder == (w.clients c).next) refl
        where
          go : (t : Bool) → (g.holder == (w.clients c).next) ≡ t → t ≡ false
          go false q = refl
          go true q =
              let own = (holds_all.fitting c g.holder g.conn).own in
              let one : num (holds (w.clients c).hold g.conn g.holder) ≡ 1 = ap num (ap (λ (o : Option Hold). holds o g.conn g.holder) e ∙ and_from (g.conn == g.conn) (g.holder == g.holder) (same_self g.conn) (same_self g.holder)) in
              let none : num (at ((w.clients c).given g.holder) g.conn) ≡ 0 = ap (λ (k : ℕ). num (at ((w.clients c).given k) g.conn)) (eqb-true g.holder (w.clients c).next q) ∙ ap (λ (o : Option ℕ). num (at o g.conn)) (fresh (kinds_of s b) w c holds_all).given in
              absurd (omega arith)

  goes : check_at s p m ≡ GoesOn → By GoesOn
  goes e = by (is_request_of Bind m) refl
    where
      o : Operates (facts_of l.state) (record { id = id; rest = rest })
      o = operates s (facts_of l.state) (record { id = id; rest = rest }) (ap is_operating e)

      act_by : Bool → Act
      act_by d = act (what.In id rest ∷ []) (elim d [ true ↦ binds s l.state now (record { id = id; rest = rest }) | false ↦ asks s l.state now (record { id = id; rest = rest }) ])

      by : (d : Bool) → is_request_of Bind (record { id = id; rest = rest }) ≡ d → Moved s b c now l (by_check s l.state now (record { id = id; rest = rest }) GoesOn) (client_side w c)
      by false i = subst (λ (a : Act). Moved s b c now l a (client_side w c)) (sym (ap act_by i)) (plain_goes o e i)
      by true i = subst (λ (a : Act). Moved s b c now l a (client_side w c)) (sym (ap act_by i)) (bind_goes o e i (is_pinned s l.state (record { id = id; rest = rest })) refl)

  pub checked : (k : Check) → check_at s p m ≡ k → By k
  checked (Ends why) e = ends why e
  checked Unbinds e = unbinds e
  checked (Abandons n) e = abandoned_by n e
  checked (Refuses which) e = refuses which e
  checked (Answers which) e = answers which e
  checked (Cancels named its_kind) e = cancels named its_kind e
  checked GoesOn e = goes e
