-- A message comes to a regular connection that is there.
use Rattle.std.proofs.Common.{◌≡◌, ℕ, Bool, true, false, ◌==◌, ◌&&◌, ◌||◌, not, if◌then◌else◌, List, [], ◌∷◌, ◌++◌, refl, ap, arith, ◌∙◌, sym, subst}
use Rattle.std.specs.Prelude.{Option, Some, None, find, option_map}
use Rattle.ldap_spec.specs.Messages.{Message}
use Rattle.ldap_spec.specs.Kinds.{fits, is_final, kind_of, same_kind}
use Rattle.ldap_spec.specs.Responses.{has_code}
use Rattle.ldap_spec.specs.Tags.{success}
use Rattle.lload_names.specs.declared.names.EndWhy.{EndWhy}
use Rattle.lload_names.specs.declared.names.EndWhy.TheVariants.{Bad, OwnBind as OwnBindFailed}
use Rattle.lload_names.specs.declared.names.Letter.TheVariants as real
use Rattle.lload_names.specs.declared.names.OpKind.{OpKind}
use Rattle.lload_names.specs.declared.names.OpKind.TheVariants.{Bind}
use Rattle.lload_names.specs.declared.names.What.TheVariants as what
use Rattle.lload_spec.specs.Lists.{passes, agrees, implies}
use Rattle.lload_spec.specs.BadMessages.{is_bad, is_bad_other, is_bad_for, is_bad_own, is_ignored, is_for_own}
use Rattle.lload_spec.specs.BadMessages as bad
use Rattle.ldap_spec.specs.Requests.{request}
use Rattle.lload_spec.specs.Operations.{is_final_for, is_simple_bind}
use Rattle.lload_spec.specs.Settings.{Settings}
use Rattle.part_spec.specs.Inputs.{Act, act, also, nothing, reply}
use Rattle.part_spec.specs.ConnectionState.{ConnectionState, UpRow, OwnWait, is_bind, is_under, is_under_own, open_request, message_facts, frees_holder}
use Rattle.part_spec.specs.ConnectionTurn.{is_drained, goes_down, comes_up, ended, latency}
use Rattle.part_spec.specs.RegularTurn.{own_answer, row_answer, answered, message}
use Rattle.part_spec.specs.Fit.{ConnectionLedger}
use Rattle.move_laws.specs.World.{ToConn, put2}
use Rattle.move_laws.specs.Conns.{may_come_up, up_row}
use Rattle.stands_laws.specs.Books.{Book, is_bind_op}
use Rattle.stands_laws.specs.Lists.{Each}
use Rattle.stands_laws.specs.Letters.{IsReply}
use Rattle.stands_laws.specs.ConnectionSides.{ConnSide, Replying, Finishing, Rising}
use Rattle.stands_laws.specs.RegularStands.{RowIs, RegularStands}
use Rattle.lload_spec.proofs.Growth.{left, both}
use Rattle.lload_laws.proofs.ListLaws.{find-map, found_passes}
use Rattle.part_laws.proofs.ListLaws.{same_number, false_by}
use Rattle.regular_moves_laws.proofs.Rows.{RowsStand, rows_stand, alike, Alike, each_imply, each_both, each_found}
use Rattle.regular_moves_laws.proofs.Gives.{gives_reply, gives_finish, gives_up}
use Rattle.regular_moves_laws.proofs.Steps.{stands_up}
use Rattle.regular_moves_laws.proofs.Ends.{AreLive, all_live, finish_is, down_moves, down_gives, down_stands, down_waits}
use Rattle.regular_moves_laws.proofs.Messages.{under_row, EndsNone, rows_none, rows_final, got_by, got_link, stands_got, stands_got_own}
use Rattle.regular_moves_laws.proofs.Turns.{Rule, passes_some, none_found, not_retired}
use Rattle.stands_laws.proofs.ConnGives.{gives_none}

-- A message that isn't bad answers the open operation that it is under.
own_same : (id : ℕ) (o : Option OwnWait) → passes (λ n. n == id) (elim o [ None ↦ None | Some own ↦ Some own.id ]) ≡ passes (λ own. own.id == id) o
own_same id None = refl
own_same id (Some own) = refl

abbrev bad_by : ConnectionState → Message → Bool → Bool → Bool
bad_by p m ignored own = if ignored then false else (if own then is_bad_own m else is_bad_other (message_facts p) m)

pub good_fits : (p : ConnectionState) (m : Message) (r : UpRow) → is_bad (message_facts p) m ≡ false → is_under_own p m.id ≡ false → (m.id == 0) ≡ false → find (is_under m.id) p.rows ≡ Some r → fits r.kind m.rest ≡ true
good_fits p m r good own some found = turned (fits r.kind m.rest) _ (sym answer ∙ good)
  where
    ignored : is_ignored m ≡ false
    ignored = false_by (is_ignored m) (λ k. sym some ∙ left (m.id == 0) _ k)

    answer : is_bad (message_facts p) m ≡ bad.is_bad_answer m (open_request r)
    answer = ap (λ t. bad_by p m t (is_for_own (message_facts p) m)) ignored ∙ (ap (bad_by p m false) (own_same m.id p.own_bind ∙ own) ∙ ap (is_bad_for (message_facts p) m) (find-map (bad.is_under m.id) open_request p.rows ∙ ap (option_map open_request) found))

    turned : (t o : Bool) → (not t || o) ≡ false → t ≡ true
    turned true o e = refl
    turned false o e = absurd (let bad : true ≡ false = e in cc)

-- the request of a row isn't a Bind
not_bind : (b : Book) (next : ℕ) (r : UpRow) → RowIs b next r → is_bind_op b r.op.client r.op.k ≡ false
not_bind b next r h = ap (passes (same_kind Bind)) h.kind ∙ h.plain

is_reply : (s : Settings) (b : Book) (next : ℕ) (rest : List ℕ) (last : Bool) (r : UpRow) → RowIs b next r → fits r.kind rest ≡ true → is_final r.kind rest ≡ last → IsReply s b r.op.client r.op.k last false (real.Reply r.op rest last None)
is_reply s b next rest last r h fit final = record {
  rest = rest;
  who = None;
  is = refl;
  answers = both (passes (λ (k : OpKind). fits k rest) (kind_of (b.request r.op.client r.op.k).rest)) _ (ap (passes (λ (k : OpKind). fits k rest)) h.kind ∙ fit) (ap (agrees last) (ap (passes (λ (k : OpKind). is_final k rest)) h.kind ∙ final) ∙ agree last);
  known = ap (λ (t : Bool). implies (s.proxies_authorization && t && not (passes is_simple_bind (request (b.request r.op.client r.op.k).rest)) && has_code 0 rest && is_final_for (b.request r.op.client r.op.k) rest) true) (not_bind b next r h) ∙ unknown s.proxies_authorization (not (passes is_simple_bind (request (b.request r.op.client r.op.k).rest))) (has_code 0 rest) (is_final_for (b.request r.op.client r.op.k) rest);
  stays = λ e. absurd (let bad : true ≡ false = sym e ∙ not_bind b next r h in cc);
}
  where
    agree : (t : Bool) → agrees t t ≡ true
    agree true = refl
    agree false = refl

    unknown : (t o p q : Bool) → implies (t && false && o && p && q) true ≡ true
    unknown true o p q = refl
    unknown false o p q = refl

module _ (s : Settings) (b : Book) (u at : ℕ) (l : ConnectionLedger) (y : ConnSide) (h : RegularStands s b u l y.row) (linked : l.state.linked ≡ true) (there : l.state.down ≡ false) (regular : is_bind l.state ≡ false) (undrained : is_drained l.state ≡ false) (m : Message) where
  -- what comes behind a Got
  abbrev Behind : Act → Type 0
  Behind a = Rule s b u at None l (also (act (what.Got m.id m.rest ∷ []) []) a) y y.orders

  down : (why : EndWhy) → Behind (goes_down l.state why)
  down why = record {
    made = down_moves l.state.rows;
    stands = down_stands s b u l y h there regular l.state.number at why (got_by (is_under_own l.state m.id) (frees_holder l.state m) at m l) (got_link s u (is_under_own l.state m.id) (frees_holder l.state m) at m l y.row h.link) h.taken linked;
    gives = down_gives s b u l y h there regular;
    waits = λ c. ap (λ (f : ℕ → List ToConn). f c) (down_waits l.state.rows y);
  }

  rows_are : RowsStand b l.state.ids l.state.rows y.row.rows
  rows_are = rows_stand b l.state y.row (h.stands there)

  -- the answer to the own Bind
  up : is_under_own l.state m.id ≡ true → Behind (comes_up l.state)
  up own =
      let fresh : l.state.up ≡ false = (h.stands there).waits (passes_some (λ (w : OwnWait). w.id == m.id) l.state.own_bind own) in
      let going : l.state.retired ≡ false = not_retired l.state undrained there ((h.stands there).unused fresh) h.holder in
      let may : may_come_up y.row ≡ true = λ i. not ((sym h.link.up ∙ fresh) i) && not ((sym h.link.retired ∙ going) i || (sym h.link.down ∙ there) i) in
      record {
        made = Rising ∷ [];
        stands = subst (RegularStands s b u _) (ap (λ (t : Bool). up_row t y.row) (sym may)) (stands_up s b u l.state.number at (got_by (is_under_own l.state m.id) (frees_holder l.state m) at m l) y.row (subst (λ (t : Bool). RegularStands s b u (got_by t (frees_holder l.state m) at m l) y.row) (sym own) (stands_got_own s b u (frees_holder l.state m) at m l y.row h there)) linked (ap (λ (t : Bool). if t then None else l.state.own_bind) own));
        gives = gives_up s b u l.state.number y h.link.number may;
        waits = λ c. refl;
      }

  owns : (c : Bool) → is_under_own l.state m.id ≡ true → Behind (elim c [ true ↦ comes_up l.state | false ↦ goes_down l.state OwnBindFailed ])
  owns true own = up own
  owns false own = down OwnBindFailed

  -- it ends no operation
  stands_none : is_under_own l.state m.id ≡ false → Each (EndsNone m) l.state.rows → RegularStands s b u (got_by (is_under_own l.state m.id) (frees_holder l.state m) at m l) y.row
  stands_none own none = subst (λ (t : Bool). RegularStands s b u (got_by t (frees_holder l.state m) at m l) y.row) (sym own) (stands_got s b u (frees_holder l.state m) at m l y.row y.row.rows y.row.answered h there (rows_none b l.state.ids l.state.rows y.row.rows at m rows_are none))

  stray : is_under_own l.state m.id ≡ false → find (is_under m.id) l.state.rows ≡ None → Behind nothing
  stray own none = record {
    made = [];
    stands = stands_none own (each_imply (λ r. RowIs b l.state.ids.next r × (is_under m.id r ≡ false)) (EndsNone m) l.state.rows (λ r k. record { none = λ e. absurd (let bad : true ≡ false = sym e ∙ sym (under_row b l.state.ids.next m.id r k.0) ∙ k.1 in cc) }) (each_both (RowIs b l.state.ids.next) (λ r. is_under m.id r ≡ false) l.state.rows rows_are.each (none_found (is_under m.id) l.state.rows none)));
    gives = gives_none s b u y;
    waits = λ c. refl;
  }

  module _ (r : UpRow) (own : is_under_own l.state m.id ≡ false) (found : find (is_under m.id) l.state.rows ≡ Some r) (fit : fits r.kind m.rest ≡ true) where
    row_is : RowIs b l.state.ids.next r
    row_is = each_found (RowIs b l.state.ids.next) (is_under m.id) l.state.rows r found rows_are.each

    live : y.row.rows r.op.client r.op.k ≡ true
    live = each_found (AreLive y.row.rows) (is_under m.id) l.state.rows r found (all_live y.row.rows l.state.rows rows_are.ops)

    its : r.id ≡ m.id
    its = same_number r.id m.id (left (r.id == m.id) _ (found_passes (is_under m.id) l.state.rows r found))

    part : is_final r.kind m.rest ≡ false → Behind (act [] (reply r.op m.rest false None))
    part more = record {
      made = Replying r.op.client r.op.k ∷ [];
      stands = stands_none own (each_imply (Alike r) (EndsNone m) l.state.rows (λ q a. record { none = λ e _. ap (λ (x : UpRow). is_final x.kind m.rest) (a.same (ap (λ n. q.id == n) its ∙ e)) ∙ more }) (alike (is_under m.id) l.state.rows r found rows_are.apart));
      gives = gives_reply s b u r.op.client r.op.k (real.Reply r.op m.rest false None) y live (is_reply s b l.state.ids.next m.rest false r row_is fit more);
      waits = λ c. refl;
    }

    final : is_final r.kind m.rest ≡ true → Behind (act [] (reply r.op m.rest true None ++ ended l.state r.op (latency at r)))
    final last = record {
      made = Finishing r.op.client r.op.k false false ∷ [];
      stands = subst (RegularStands s b u (got_by (is_under_own l.state m.id) (frees_holder l.state m) at m l)) (sym (finish_is y r.op.client r.op.k false live))
          (subst (λ (t : Bool). RegularStands s b u (got_by t (frees_holder l.state m) at m l) (record y.row { rows = put2 y.row.rows r.op.client r.op.k false; answered = put2 y.row.answered r.op.client r.op.k true })) (sym own)
          (stands_got s b u (frees_holder l.state m) at m l y.row (put2 y.row.rows r.op.client r.op.k false) (put2 y.row.answered r.op.client r.op.k true) h there (rows_final b l.state.ids l.state.rows y.row.rows at m r rows_are found fit last)));
      gives = gives_finish s b u r.op.client r.op.k l.state.number false (real.Reply r.op m.rest true None) (latency at r) y h.link.number live (is_reply s b l.state.ids.next m.rest true r row_is fit last);
      waits = λ c. refl;
    }

    row_by : (t : Bool) → is_final r.kind m.rest ≡ t → Behind (elim t [ false ↦ act [] (reply r.op m.rest false None) | true ↦ act [] (reply r.op m.rest true None ++ ended l.state r.op (latency at r)) ])
    row_by true e = final e
    row_by false e = part e

  -- an operation's answer, or nothing
  rows_by : (o : Option UpRow) → is_bad (message_facts l.state) m ≡ false → is_under_own l.state m.id ≡ false → find (is_under m.id) l.state.rows ≡ o → Behind (elim o [ None ↦ nothing | Some r ↦ row_answer l.state at m r ])
  rows_by None good own none = stray own none
  rows_by (Some r) good own found =
      let row : RowIs b l.state.ids.next r = each_found (RowIs b l.state.ids.next) (is_under m.id) l.state.rows r found rows_are.each in
      row_by r own found (good_fits l.state m r good own (some (m.id == 0) refl row (left (r.id == m.id) _ (found_passes (is_under m.id) l.state.rows r found))) found) (is_final r.kind m.rest) refl
    where
      some : (t : Bool) → (m.id == 0) ≡ t → RowIs b l.state.ids.next r → (r.id == m.id) ≡ true → (m.id == 0) ≡ false
      some false e row under = e
      some true e row under = let zero = same_number m.id 0 e in let same = same_number r.id m.id under in let above = row.above in absurd (omega arith)

  own_by : (own : Bool) → is_bad (message_facts l.state) m ≡ false → is_under_own l.state m.id ≡ own → Behind (elim own [ true ↦ own_answer l.state m | false ↦ elim (find (is_under m.id) l.state.rows) [ None ↦ nothing | Some r ↦ row_answer l.state at m r ] ])
  own_by true good own = owns (has_code success m.rest) own
  own_by false good own = rows_by (find (is_under m.id) l.state.rows) good own refl

  bad_by_test : (t : Bool) → is_bad (message_facts l.state) m ≡ t → Behind (elim t [ true ↦ goes_down l.state Bad | false ↦ answered l.state at m ])
  bad_by_test true e = down Bad
  bad_by_test false e = own_by (is_under_own l.state m.id) e refl

  pub message_rule : Rule s b u at None l (message l.state at m) y y.orders
  message_rule = bad_by_test (is_bad (message_facts l.state) m) refl
