-- Each turn of a bind connection.
use Rattle.std.proofs.Common.{◌≡◌, ℕ, Bool, true, false, ◌==◌, ◌&&◌, ◌||◌, not, List, [], ◌∷◌, refl, ap, ◌∙◌, sym, subst, arith}
use Rattle.std.specs.Prelude.{Option, Some, None, max}
use Rattle.lload_names.specs.declared.inputs.Input.{Input}
use Rattle.lload_names.specs.declared.inputs.Input.TheVariants as input
use Rattle.lload_names.specs.declared.names.EndWhy.{EndWhy}
use Rattle.lload_names.specs.declared.names.Letter.{Letter}
use Rattle.lload_names.specs.declared.names.Letter.TheVariants as real
use Rattle.lload_names.specs.declared.names.OpKind.TheVariants.{Bind}
use Rattle.lload_names.specs.declared.names.OpName.{OpName}
use Rattle.lload_names.specs.declared.names.PartName.TheVariants.{Desk, Client, Up as Connection}
use Rattle.lload_names.specs.declared.names.What.TheVariants as what
use Rattle.ldap_spec.specs.Kinds.{same_kind}
use Rattle.lload_spec.specs.Answers.{wants_identity}
use Rattle.lload_spec.specs.Identifiers.{id_for}
use Rattle.lload_spec.specs.Lists.{passes}
use Rattle.lload_spec.specs.Settings.{Settings}
use Rattle.part_spec.specs.Inputs.{Act, letter_of, moment_for, nothing, where_so}
use Rattle.part_spec.specs.ConnectionState.{is_stopped, is_there}
use Rattle.part_spec.specs.ConnectionTurn.{goes_down, is_drained, with_drained}
use Rattle.part_spec.specs.BindTurn.{bind_act, bind_rule, forwards, holds, leaves, link_up}
use Rattle.part_spec.specs.BindTurn as turns
use Rattle.part_spec.specs.Fit.{ConnectionLedger}
use Rattle.part_spec.specs.Marked.{Taken}
use Rattle.move_laws.specs.World.{World, ToConn, Forward, Drop, Leave, Signal, is}
use Rattle.move_laws.specs.AgreeBinds.{Holds}
use Rattle.move_laws.specs.Counts.{num}
use Rattle.move_laws.specs.Fit.{Begins, FitOrder}
use Rattle.move_laws.proofs.FreeBinds.{freed_lost}
use Rattle.move_laws.proofs.Fitness.{front}
use Rattle.move_laws.proofs.Laws.{all_fit}
use Rattle.stands_laws.specs.Lists.{FirstIs}
use Rattle.stands_laws.specs.Books.{Book, name}
use Rattle.stands_laws.specs.Letters.{IsForward, OrderIs}
use Rattle.stands_laws.specs.ClientStands.{kinds_of, serves}
use Rattle.stands_laws.specs.ConnectionSides.{ConnSide, Taking, conn_move, conn_side}
use Rattle.stands_laws.specs.BindStands.{BindStands}
use Rattle.stands_laws.specs.Follows.{BindActs, BindEndsLaw, BindFollows, BindFollowsLaw, behind_client}
use Rattle.lload_spec.proofs.Growth.{left, right}
use Rattle.part_laws.proofs.ListLaws.{not_true}
use Rattle.connection_laws.proofs.Rules.{gives_some}
use Rattle.bind_laws.proofs.Meets.{bind_kind}
use Rattle.bind_laws.proofs.Rules.{forward_act, leave_act}
use Rattle.bind_moves_laws.proofs.Rules.{Rule, rule_drained, rule_nothing}
use Rattle.bind_moves_laws.proofs.Steps.{linked_by}
use Rattle.bind_moves_laws.proofs.Ends.{rule_down, rule_drains, rule_linked}
use Rattle.bind_moves_laws.proofs.Orders.{Comes, rule_forward, rule_leave}
use Rattle.bind_moves_laws.proofs.Turns.{rule_message, rule_tick}

acts_by : (s : Settings) (b : Book) (u moment : ℕ) (mark : Option Taken) (l : ConnectionLedger) (a : Act) (y : ConnSide) (orders : ℕ → List ToConn) → (r : Rule s b u moment mark l a y orders) → BindActs s b u moment mark l a y r.made
acts_by s b u moment mark l a y orders r = record { stands = r.stands; gives = record { answers = r.gives.answers; reports = r.gives.reports } }

-- a rule that there is only where it holds
rule_so : (s : Settings) (b : Book) (u moment : ℕ) (l : ConnectionLedger) (a : Act) (y : ConnSide) (t : Bool) → BindStands s b u l y.row → (t ≡ true → Rule s b u moment None l a y y.orders) → Rule s b u moment None l (where_so t a) y y.orders
rule_so s b u moment l a y true st f = f refl
rule_so s b u moment l a y false st f = rule_nothing s b u moment None l y st

module _ (s : Settings) (b : Book) (u : ℕ) (l : ConnectionLedger) (y : ConnSide) (st : BindStands s b u l y.row) where
  -- the end where nothing is left to do
  ended : (moment : ℕ) (mark : Option Taken) (a : Act) (orders : ℕ → List ToConn) → (a.whats ≡ [] → is_drained l.state ≡ true → mark ≡ None) → Rule s b u moment mark l a y orders → Rule s b u moment mark l (with_drained s moment mark l.state a) y orders
  ended moment mark a orders n r = rule_drained s b u moment mark l a y orders n (λ k z h d e. rule_drains s b u moment l.state.number k z h d e) r

  -- an input that brings no letter
  followed : (i : Input) → letter_of i ≡ None → Rule s b u (moment_for l.state.moment i) None l (bind_rule s l.state (moment_for l.state.moment i) i) y y.orders
      → ((c : ℕ) → y.orders c ≡ behind_client c i (y.orders c)) → BindFollows s b u i l y
  followed i none r same = with_rule (subst (λ (o : Option Taken). Rule s b u (moment_for l.state.moment i) o l (with_drained s (moment_for l.state.moment i) o l.state (bind_rule s l.state (moment_for l.state.moment i) i)) y y.orders) (sym none)
      (ended (moment_for l.state.moment i) None (bind_rule s l.state (moment_for l.state.moment i) i) y.orders (λ w d. refl) r))
    where
      with_rule : Rule s b u (moment_for l.state.moment i) (letter_of i) l (bind_act s l.state (moment_for l.state.moment i) i) y y.orders → BindFollows s b u i l y
      with_rule g = record { made = g.made; acts = acts_by s b u (moment_for l.state.moment i) (letter_of i) l (bind_act s l.state (moment_for l.state.moment i) i) y y.orders g; orders = λ c. g.waits c ∙ same c }

  -- one that brings one
  took : (now word a : ℕ) (x : Letter) → l.state.linked ≡ true → ((turns.letter s l.state x).whats ≡ [] → false ≡ true) → Rule s b u (moment_for l.state.moment (input.LetterFrom now word (Client a) x)) (Some (record { sender = Client a; letter = x })) l (turns.letter s l.state x) y (conn_move true y (Taking a)).orders
      → BindFollows s b u (input.LetterFrom now word (Client a) x) l y
  took now word a x linked some r = with_rule (ended (max l.state.moment now) (Some (record { sender = Client a; letter = x })) (where_so l.state.linked (turns.letter s l.state x)) (conn_move true y (Taking a)).orders
      (λ w d. absurd (let bad : false ≡ true = some (ap (λ (t : Bool). (where_so t (turns.letter s l.state x)).whats) (sym linked) ∙ w) in cc))
      (subst (λ (t : Bool). Rule s b u (max l.state.moment now) (Some (record { sender = Client a; letter = x })) l (where_so t (turns.letter s l.state x)) y (conn_move true y (Taking a)).orders) (sym linked) r))
    where
      with_rule : Rule s b u (max l.state.moment now) (Some (record { sender = Client a; letter = x })) l (bind_act s l.state (max l.state.moment now) (input.LetterFrom now word (Client a) x)) y (conn_move true y (Taking a)).orders → BindFollows s b u (input.LetterFrom now word (Client a) x) l y
      with_rule g = record { made = g.made; acts = acts_by s b u (max l.state.moment now) (Some (record { sender = Client a; letter = x })) l (bind_act s l.state (max l.state.moment now) (input.LetterFrom now word (Client a) x)) y (conn_move true y (Taking a)).orders g; orders = g.waits }

  -- the end of its link
  ends : (now : ℕ) (why : EndWhy) → Rule s b u (max l.state.moment now) None l (where_so (is_there l.state) (goes_down l.state why)) y y.orders
  ends now why = rule_so s b u (max l.state.moment now) l (goes_down l.state why) y (is_there l.state) st (λ t. rule_down s b u (max l.state.moment now) why l y st (left l.state.linked (not l.state.down) t) (not_true l.state.down (right l.state.linked (not l.state.down) t)))

pub bind_ends : BindEndsLaw
bind_ends s b u now why l y st = record { made = (ends s b u l y st now why).made; acts = acts_by s b u (max l.state.moment now) None l (where_so (is_there l.state) (goes_down l.state why)) y y.orders (ends s b u l y st now why); orders = (ends s b u l y st now why).waits }

-- The letters.
num_same : (a b : Bool) → num a ≡ num b → a ≡ b
num_same true true e = refl
num_same true false e = absurd (omega arith)
num_same false true e = absurd (omega arith)
num_same false false e = refl

module _ (s : Settings) (b : Book) (w : World) (u : ℕ) (l : ConnectionLedger) (hold : Holds (kinds_of s b) w) (serve : serves s u ≡ true) (st : BindStands s b u l (w.conns u)) where
  linked_here : (a : ℕ) (q : ToConn) (qs : List ToConn) → w.to_conn a u ≡ q ∷ qs → l.state.linked ≡ true
  linked_here a q qs e =
      let up : (w.conns u).up ≡ true = subst (Begins (w.conns u)) e ((all_fit (kinds_of s b) w hold).begins a u) in
      linked_by s u l.state (w.conns u) st.link (ap (λ (t : Bool). t || (l.state.retired || l.state.down)) (st.link.up ∙ up))

  forward_comes : (a k h : ℕ) (qs : List ToConn) (x : Letter) → w.to_conn a u ≡ Forward k h ∷ qs → (i : IsForward s b a k h x) → Comes s b a k h i.kind (w.conns u)
  forward_comes a k h qs x e i = by (subst (FitOrder (kinds_of s b) a u (w.conns u)) e ((all_fit (kinds_of s b) w hold).order a u))
    where
      by : FitOrder (kinds_of s b) a u (w.conns u) (Forward k h ∷ qs) → Comes s b a k h i.kind (w.conns u)
      by f =
          let sort : i.kind ≡ Bind = bind_kind i.kind (sym (ap (passes (same_kind Bind)) i.known) ∙ (sym f.1 ∙ serve)) in
          record {
            sort = sort;
            known = i.known ∙ ap Some sort;
            pinned = i.pinned;
            free = (f.2 serve).0;
            lost = num_same ((w.conns u).freed a h) (is (w.conns u).lost a h) (freed_lost (kinds_of s b) a u k h _ _ _ _ _ (front (kinds_of s b) w a u k h qs hold serve e));
          }

  forwards_some : (op holder : OpName) (rest : List ℕ) → (forwards s l.state op rest holder).whats ≡ [] → false ≡ true
  forwards_some op holder rest = by (is_stopped l.state)
    where
      by : (t : Bool) → (forward_act s l.state op rest holder t).whats ≡ [] → false ≡ true
      by true e = absurd (let bad : what.Missed op ∷ [] ≡ [] = e in cc)
      by false e = gives_some (id_for l.state.ids == s.id_limit) (what.Sent (id_for l.state.ids) op rest) e

  leaves_some : (holder : OpName) → (leaves l.state holder).whats ≡ [] → false ≡ true
  leaves_some holder = by (holds l.state holder && not l.state.down)
    where
      by : (t : Bool) → (leave_act l.state holder t).whats ≡ [] → false ≡ true
      by true e = absurd (cc)
      by false e = absurd (cc)

  letter_comes : (now word a : ℕ) (x : Letter) (q : List ToConn) → w.to_conn a u ≡ q → FirstIs (OrderIs s b a) x q → BindFollows s b u (input.LetterFrom now word (Client a) x) l (conn_side w u)
  letter_comes now word a x [] e i = absurd i
  letter_comes now word a x (Forward k h ∷ qs) e i =
      subst (λ (z : Letter). BindFollows s b u (input.LetterFrom now word (Client a) z) l (conn_side w u)) (sym i.is)
      (took s b u l (conn_side w u) st now word a (real.Forward (name a k) i.kind (b.request a k).rest (wants_identity s (b.request a k)) (name a h)) (linked_here a (Forward k h) qs e) (forwards_some (name a k) (name a h) (b.request a k).rest)
      (rule_forward s b u (max l.state.moment now) a k h i.kind l (conn_side w u) qs st (forward_comes a k h qs x e i) e (linked_here a (Forward k h) qs e)))
  letter_comes now word a x (Drop k ∷ qs) e i = absurd (let f = subst (FitOrder (kinds_of s b) a u (w.conns u)) e ((all_fit (kinds_of s b) w hold).order a u) in let bad : true ≡ false = sym serve ∙ f.2 in cc)
  letter_comes now word a x (Leave h ∷ qs) e i =
      subst (λ (z : Letter). BindFollows s b u (input.LetterFrom now word (Client a) z) l (conn_side w u)) (sym i)
      (took s b u l (conn_side w u) st now word a (real.Leave (name a h)) (linked_here a (Leave h) qs e) (leaves_some (name a h))
      (rule_leave s b u (max l.state.moment now) a h l (conn_side w u) qs st e (linked_here a (Leave h) qs e)))
  letter_comes now word a x (Signal p ∷ qs) e i = absurd (let f = subst (FitOrder (kinds_of s b) a u (w.conns u)) e ((all_fit (kinds_of s b) w hold).order a u) in let bad : true ≡ false = sym serve ∙ f.1 in cc)

-- an input that has no rule
unruled : (s : Settings) (b : Book) (u : ℕ) (l : ConnectionLedger) (y : ConnSide) → BindStands s b u l y.row → (i : Input) → letter_of i ≡ None → bind_rule s l.state (moment_for l.state.moment i) i ≡ nothing → ((c : ℕ) → y.orders c ≡ behind_client c i (y.orders c)) → BindFollows s b u i l y
unruled s b u l y st i none e same = followed s b u l y st i none (subst (λ (a : Act). Rule s b u (moment_for l.state.moment i) None l a y y.orders) (sym e) (rule_nothing s b u (moment_for l.state.moment i) None l y st)) same

-- One input.
pub bind_follows : BindFollowsLaw
bind_follows s b w u l (input.Arrive now) hold serve place st comes = unruled s b u l (conn_side w u) st (input.Arrive now) refl refl (λ c. refl)
bind_follows s b w u l (input.LinkUp now) hold serve place st comes =
    followed s b u l (conn_side w u) st (input.LinkUp now) refl (rule_so s b u (max l.state.moment now) l (link_up l.state) (conn_side w u) (not l.state.linked) st (λ t. rule_linked s b u (max l.state.moment now) l (conn_side w u) st place (not_true l.state.linked t))) (λ c. refl)
bind_follows s b w u l (input.Message now id rest) hold serve place st comes =
    followed s b u l (conn_side w u) st (input.Message now id rest) refl (rule_so s b u (max l.state.moment now) l (turns.message s l.state (record { id = id; rest = rest })) (conn_side w u) (is_there l.state) st
    (λ t. rule_message s b u (max l.state.moment now) l (conn_side w u) st (left l.state.linked (not l.state.down) t) (not_true l.state.down (right l.state.linked (not l.state.down) t)) (record { id = id; rest = rest }))) (λ c. refl)
bind_follows s b w u l (input.LetterFrom now word Desk x) hold serve place st comes = absurd comes
bind_follows s b w u l (input.LetterFrom now word (Client a) x) hold serve place st comes = letter_comes s b w u l hold serve st now word a x (w.to_conn a u) refl comes
bind_follows s b w u l (input.LetterFrom now word (Connection v) x) hold serve place st comes = absurd comes
bind_follows s b w u l (input.Tick now) hold serve place st comes =
    followed s b u l (conn_side w u) st (input.Tick now) refl (rule_so s b u (max l.state.moment now) l (turns.ticks s l.state (max l.state.moment now)) (conn_side w u) (is_there l.state) st
    (λ t. rule_tick s b u (max l.state.moment now) l (conn_side w u) st (left l.state.linked (not l.state.down) t) (not_true l.state.down (right l.state.linked (not l.state.down) t)))) (λ c. refl)
bind_follows s b w u l (input.LinkGone now why) hold serve place st comes = unruled s b u l (conn_side w u) st (input.LinkGone now why) refl refl (λ c. refl)
bind_follows s b w u l (input.Stall now) hold serve place st comes = unruled s b u l (conn_side w u) st (input.Stall now) refl refl (λ c. refl)
bind_follows s b w u l (input.Flow now) hold serve place st comes = unruled s b u l (conn_side w u) st (input.Flow now) refl refl (λ c. refl)
bind_follows s b w u l (input.Reload now plan base) hold serve place st comes = unruled s b u l (conn_side w u) st (input.Reload now plan base) refl refl (λ c. refl)
