-- Each turn of a regular connection is what some moves of the machine make.
use Rattle.std.proofs.Common.{◌≡◌, ℕ, ◌≤◌, ◌+◌, Bool, true, false, ◌&&◌, not, List, [], ◌∷◌, refl, ap, arith, ◌∙◌, sym, subst}
use Rattle.std.specs.Prelude.{Some, None, is_some, max}
use Rattle.ldap_spec.specs.Kinds.{same_kind}
use Rattle.lload_names.specs.declared.inputs.Input.{Input}
use Rattle.lload_names.specs.declared.inputs.Input.TheVariants as input
use Rattle.lload_names.specs.declared.names.ConnKind.{ConnKind}
use Rattle.lload_names.specs.declared.names.ConnKind.TheVariants.{Bind as BindKind}
use Rattle.lload_names.specs.declared.names.Letter.{Letter}
use Rattle.lload_names.specs.declared.names.OpKind.TheVariants.{Bind}
use Rattle.lload_names.specs.declared.names.PartName.TheVariants.{Desk, Client, Up as Connection}
use Rattle.lload_spec.specs.Answers.{wants_identity}
use Rattle.lload_spec.specs.Lists.{passes}
use Rattle.lload_spec.specs.Settings.{Settings, is_kind, place_at}
use Rattle.part_spec.specs.Inputs.{nothing, moment_for, letter_of, where_so}
use Rattle.part_spec.specs.ConnectionState.{is_there, is_holding, is_bind}
use Rattle.part_spec.specs.ConnectionTurn.{goes_down}
use Rattle.part_spec.specs.RegularTurn.{link_up, message, letter, ticks, regular_rule}
use Rattle.part_spec.specs.Fit.{ConnectionLedger}
use Rattle.move_laws.specs.World.{World, Conn, ToConn, Forward, Drop, Leave, Signal}
use Rattle.move_laws.specs.Counts.{num}
use Rattle.move_laws.specs.AgreeBinds.{Holds}
use Rattle.move_laws.specs.Fit.{AllFit, FitOrder, Begins}
use Rattle.move_laws.proofs.Laws.{all_fit}
use Rattle.stands_laws.specs.Books.{Book, name}
use Rattle.stands_laws.specs.Lists.{FirstIs}
use Rattle.stands_laws.specs.Letters.{OrderIs}
use Rattle.stands_laws.specs.ClientStands.{kinds_of, serves}
use Rattle.stands_laws.specs.ConnectionSides.{ConnSide, conn_side}
use Rattle.stands_laws.specs.Follows.{ConnComes, RegularFollowsLaw, RegularEndsLaw, behind_client, connection_ledger_behind}
use Rattle.stands_laws.specs.RegularStands.{RegularStands, RegularIs}
use Rattle.lload_spec.proofs.Growth.{left, right}
use Rattle.part_laws.proofs.ListLaws.{not_true}
use Rattle.regular_moves_laws.proofs.Begins.{link_rule}
use Rattle.regular_moves_laws.proofs.Drained.{Turned, turned, turned_rule, down_undrained}
use Rattle.regular_moves_laws.proofs.Ends.{down_moves, down_gives, down_stands, down_waits}
use Rattle.regular_moves_laws.proofs.MessageTurns.{message_rule}
use Rattle.regular_moves_laws.proofs.Orders.{taken_orders, forward_rule, drop_rule, signal_rule}
use Rattle.regular_moves_laws.proofs.Steps.{is_linked}
use Rattle.regular_moves_laws.proofs.Ticks.{tick_rule}
use Rattle.regular_moves_laws.proofs.Turns.{Rule, rule_nothing}

-- it serves no Binds
no_bind : (s : Settings) (b : Book) (u : ℕ) (l : ConnectionLedger) (v : Conn) → serves s u ≡ false → RegularStands s b u l v → is_bind l.state ≡ false
no_bind s b u l v plain h = ap (λ (k : ConnKind). is_kind BindKind k) h.link.kind ∙ plain

-- what stands on a connection was taken
not_live : (t r : Bool) (n : ℕ) → t ≡ false → num r + n ≤ num t → r ≡ false
not_live true r n e l = absurd (let bad : true ≡ false = e in cc)
not_live false true n e l = absurd (omega arith)
not_live false false n e l = refl

module _ (s : Settings) (b : Book) (w : World) (u at : ℕ) (l : ConnectionLedger) (holds : Holds (kinds_of s b) w) (plain : serves s u ≡ false) (placed : is_some (place_at s u) ≡ true) (is : RegularIs s b u l (w.conns u)) where
  abbrev here : ConnSide
  here = conn_side w u

  st : RegularStands s b u l (w.conns u)
  st = is.stands

  regular : is_bind l.state ≡ false
  regular = no_bind s b u l (w.conns u) plain st

  fit : AllFit (kinds_of s b) w
  fit = all_fit (kinds_of s b) w holds

  -- an order
  order_rule : (a : ℕ) (m : Letter) (qs : List ToConn) → w.to_conn a u ≡ qs → FirstIs (OrderIs s b a) m qs → (w.conns u).up ≡ true → Rule s b u at (Some (record { sender = Client a; letter = m })) l (letter s l.state m) (conn_side w u) (taken_orders a (conn_side w u))
  order_rule a m [] e f up = absurd f
  order_rule a m (Forward k h ∷ qs) e f up =
      let fits = subst (FitOrder (kinds_of s b) a u (w.conns u)) e (fit.order a u) in
      subst (λ (x : Letter). Rule s b u at (Some (record { sender = Client a; letter = x })) l (letter s l.state x) (conn_side w u) (taken_orders a (conn_side w u))) (sym f.is)
      (forward_rule s b u at a l (conn_side w u) st (st.link.up ∙ up) regular qs k h e f.kind (b.request a k).rest (wants_identity s (b.request a k)) (name a h) fits.0 (not_live ((w.conns u).taken a k) ((w.conns u).rows a k) (num ((w.conns u).answered a k)) fits.0 (holds.routed a k u).routed.one) f.known (sym (ap (passes (same_kind Bind)) f.known) ∙ (sym fits.1 ∙ plain)))
  order_rule a m (Drop k ∷ qs) e f up =
      subst (λ (x : Letter). Rule s b u at (Some (record { sender = Client a; letter = x })) l (letter s l.state x) (conn_side w u) (taken_orders a (conn_side w u))) (sym f)
      (drop_rule s b u at a l (conn_side w u) st (st.link.up ∙ up) regular qs k e)
  order_rule a m (Leave h ∷ qs) e f up =
      let fits = subst (FitOrder (kinds_of s b) a u (w.conns u)) e (fit.order a u) in
      absurd (let bad : true ≡ false = sym fits.2 ∙ plain in cc)
  order_rule a m (Signal pause ∷ qs) e f up =
      subst (λ (x : Letter). Rule s b u at (Some (record { sender = Client a; letter = x })) l (letter s l.state x) (conn_side w u) (taken_orders a (conn_side w u))) (sym f)
      (signal_rule s b u at a l (conn_side w u) st (st.link.up ∙ up) regular qs pause e)

  -- one to which an order goes has come up
  come_up : (a : ℕ) (m : Letter) (qs : List ToConn) → w.to_conn a u ≡ qs → FirstIs (OrderIs s b a) m qs → (w.conns u).up ≡ true
  come_up a m [] e f = absurd f
  come_up a m (q ∷ qs) e f = subst (Begins (w.conns u)) e (fit.begins a u)

  rule_of : (i : Input) → ConnComes s b (conn_side w u) i → Rule s b u at (letter_of i) l (regular_rule s l.state at i) (conn_side w u) (λ c. behind_client c i (w.to_conn c u))
  rule_of (input.LinkUp now) f = go l.state.linked refl
    where
      go : (t : Bool) → l.state.linked ≡ t → Rule s b u at None l (where_so (not t) (link_up s l.state)) (conn_side w u) (λ c. w.to_conn c u)
      go true e = rule_nothing s b u at None l (conn_side w u) st
      go false e = link_rule s b u at l (conn_side w u) st e placed
  rule_of (input.Message now id rest) f = go (is_there l.state && not (is_holding l.state)) refl
    where
      go : (t : Bool) → (is_there l.state && not (is_holding l.state)) ≡ t → Rule s b u at None l (where_so t (message l.state at (record { id = id; rest = rest }))) (conn_side w u) (λ c. w.to_conn c u)
      go true e =
          let there : is_there l.state ≡ true = left (is_there l.state) _ e in
          message_rule s b u at l (conn_side w u) st (left l.state.linked _ there) (not_true l.state.down (right l.state.linked _ there)) regular is.undrained (record { id = id; rest = rest })
      go false e = rule_nothing s b u at None l (conn_side w u) st
  rule_of (input.LetterFrom now word Desk m) f = absurd f
  rule_of (input.LetterFrom now word (Connection v) m) f = absurd f
  rule_of (input.LetterFrom now word (Client a) m) f =
      let up : (w.conns u).up ≡ true = come_up a m (w.to_conn a u) refl f in
      subst (λ (t : Bool). Rule s b u at (Some (record { sender = Client a; letter = m })) l (where_so t (letter s l.state m)) (conn_side w u) (taken_orders a (conn_side w u))) (sym (is_linked s u l.state (w.conns u) st.link (st.link.up ∙ up)))
      (order_rule a m (w.to_conn a u) refl f up)
  rule_of (input.Tick now) f = go (is_there l.state) refl
    where
      go : (t : Bool) → is_there l.state ≡ t → Rule s b u at None l (where_so t (ticks s l.state at)) (conn_side w u) (λ c. w.to_conn c u)
      go true e = tick_rule s b u at l (conn_side w u) st (left l.state.linked _ e) (not_true l.state.down (right l.state.linked _ e)) regular
      go false e = rule_nothing s b u at None l (conn_side w u) st
  rule_of (input.Arrive now) f = rule_nothing s b u at None l (conn_side w u) st
  rule_of (input.LinkGone now why) f = rule_nothing s b u at None l (conn_side w u) st
  rule_of (input.Stall now) f = rule_nothing s b u at None l (conn_side w u) st
  rule_of (input.Flow now) f = rule_nothing s b u at None l (conn_side w u) st
  rule_of (input.Reload now plan base) f = rule_nothing s b u at None l (conn_side w u) st

pub regular_follows : RegularFollowsLaw
regular_follows s b w u l i holds plain placed is comes =
    let at : ℕ = moment_for l.state.moment i in
    let t : Turned s b u at (letter_of i) l _ (conn_side w u) (λ c. behind_client c i (w.to_conn c u)) = turned s b u at (letter_of i) l (regular_rule s l.state at i) (conn_side w u) (λ c. behind_client c i (w.to_conn c u)) is.stands.link.number is.undrained (rule_of s b w u at l holds plain placed is i comes) in
    record { made = t.made; acts = t.acts; orders = t.waits }

-- the end of its link
pub regular_ends : RegularEndsLaw
regular_ends s b u now why l y plain is = let t = ends (is_there l.state) refl in record { made = t.made; acts = t.acts; orders = t.waits }
  where
    ends : (t : Bool) → is_there l.state ≡ t → Turned s b u (max l.state.moment now) None l (where_so t (goes_down l.state why)) y y.orders
    ends true e =
        let linked : l.state.linked ≡ true = left l.state.linked _ e in
        let there : l.state.down ≡ false = not_true l.state.down (right l.state.linked _ e) in
        let regular : is_bind l.state ≡ false = no_bind s b u l y.row plain is.stands in
        turned_rule s b u (max l.state.moment now) None l (goes_down l.state why) y y.orders (record {
          made = down_moves l.state.rows;
          stands = down_stands s b u l y is.stands there regular l.state.number (max l.state.moment now) why l is.stands.link is.stands.taken linked;
          gives = down_gives s b u l y is.stands there regular;
          waits = λ c. ap (λ (f : ℕ → List ToConn). f c) (down_waits l.state.rows y);
        }) (down_undrained (connection_ledger_behind s (max l.state.moment now) None l (goes_down l.state why)).state refl)
    ends false e = turned_rule s b u (max l.state.moment now) None l nothing y y.orders (rule_nothing s b u (max l.state.moment now) None l y is.stands) is.undrained
