-- A message that comes to a bind connection with a live Bind.
use Rattle.std.proofs.Common.{◌≡◌, ℕ, Bool, true, false, ◌==◌, ◌&&◌, ◌||◌, not, if◌then◌else◌, List, [], ◌∷◌, ◌++◌, refl, ap, ◌∙◌, sym, subst, arith}
use Rattle.std.specs.Prelude.{Option, Some, None, cond, find, flat_map, is_none}
use Rattle.std.specs.List.{list_any}
use Rattle.ldap_spec.specs.Bodies.{who_am_i}
use Rattle.ldap_spec.specs.Messages.{Message}
use Rattle.ldap_spec.specs.Kinds.{is_final, is_intermediate, tag_of}
use Rattle.ldap_spec.specs.Responses.{has_code, is_readable_who, result_code, tells_who, who_value}
use Rattle.lload_names.specs.declared.names.EndWhy.TheVariants.{Bad}
use Rattle.lload_names.specs.declared.names.Letter.{Letter}
use Rattle.lload_names.specs.declared.names.Letter.TheVariants as real
use Rattle.lload_names.specs.declared.names.OpKind.TheVariants.{Bind}
use Rattle.lload_names.specs.declared.names.OpName.{OpName}
use Rattle.lload_names.specs.declared.names.PartName.TheVariants.{Client}
use Rattle.lload_names.specs.declared.names.Posted.{Posted}
use Rattle.lload_names.specs.declared.names.Refusal.TheVariants.{C9}
use Rattle.lload_names.specs.declared.names.What.TheVariants as what
use Rattle.lload_spec.specs.Answers.{wants_identity}
use Rattle.lload_spec.specs.BadMessages.{is_bad, is_ignored}
use Rattle.lload_spec.specs.Identifiers.{with_own_id}
use Rattle.lload_spec.specs.Lists.{agrees, implies, passes}
use Rattle.lload_spec.specs.OneEach.{begins_with_bind, is_own_bind}
use Rattle.lload_spec.specs.Operations.{is_final_for}
use Rattle.lload_spec.specs.Settings.{Settings}
use Rattle.part_spec.specs.Inputs.{Act, act, also, failed, nothing, reply, to}
use Rattle.part_spec.specs.ConnectionState.{ConnectionState, UpRow, Kept, behind_message, behind_own, is_under, is_under_who, keeps_back, lets_go, message_facts}
use Rattle.part_spec.specs.ConnectionTurn.{giving, goes_down, holder_ended, retires}
use Rattle.part_spec.specs.BindTurn.{identity_letters, keep_back, message, row_answer, who_answer}
use Rattle.part_spec.specs.Fit.{ConnectionLedger, step_connection_ledger}
use Rattle.move_laws.specs.World.{Op, Reply}
use Rattle.move_laws.specs.Conns.{finish_row}
use Rattle.stands_laws.specs.Books.{Book, name}
use Rattle.stands_laws.specs.Letters.{AnswerIs}
use Rattle.stands_laws.specs.ConnectionSides.{ConnSide, Finishing, Replying}
use Rattle.stands_laws.specs.BindStands.{BindRow, BindRows, BindStands, IsKept, KeptIs}
use Rattle.lload_laws.proofs.ListLaws.{bytes_same}
use Rattle.lload_spec.proofs.Growth.{left, right}
use Rattle.part_laws.proofs.ListLaws.{false_by, same_number}
use Rattle.connection_laws.proofs.Pieces.{implies_true, marked_up}
use Rattle.bind_laws.proofs.Meets.{code_apart, code_there}
use Rattle.stands_laws.proofs.ConnGives.{gives_none}
use Rattle.bind_moves_laws.proofs.Gives.{freed_letters, gives_finish, gives_reply, last_answer}
use Rattle.bind_moves_laws.proofs.Rules.{Rule, rule_then}
use Rattle.bind_moves_laws.proofs.Steps.{got_is, next_stays, no_own_bind, stands_got, stands_with}
use Rattle.bind_moves_laws.proofs.Ends.{holder_is, letters_down, live_there, none_live, rule_down, rule_giving}
use Rattle.bind_moves_laws.proofs.RowAnswers.{above_zero, bad_asked, bad_under, behind_asked, behind_other, behind_under, bind_answers, goes_asked, goes_other, goes_under, not_extended, not_final}

-- Who Am I is asked.
module _ (s : Settings) (b : Book) (u moment : ℕ) (l : ConnectionLedger) (y : ConnSide) (r : UpRow) (rest : List ℕ) (o : Op) (st : BindStands s b u l y.row) (e : y.row.now ≡ Some o)
    (rows : l.state.rows ≡ record r { kept = Some (record { rest = rest; who = None }) } ∷ []) (row : BindRow s b (record r { kept = Some (record { rest = rest; who = None }) }) o) where
  abbrev asked_row : UpRow
  asked_row = record r { kept = Some (record { rest = rest; who = Some l.state.ids.next }) }

  abbrev asked_ledger : ConnectionLedger
  asked_ledger = record { state = record l.state { moment = moment; ids = with_own_id l.state.ids.next l.state.ids; rows = asked_row ∷ [] }; taken = l.taken }

  own_is : step_connection_ledger s l (marked_up l.state.number moment None (what.Own l.state.ids.next who_am_i)) ≡ asked_ledger
  own_is = λ i. record {
    state = record l.state {
      moment = moment;
      ids = with_own_id l.state.ids.next l.state.ids;
      rows = behind i;
      own_bind = if begins i && l.state.ids.next == 1 && is_own_bind s (marked_up l.state.number moment None (what.Own l.state.ids.next who_am_i)).entry then Some (record { id = l.state.ids.next; at = moment }) else l.state.own_bind;
    };
    taken = l.taken;
  }
    where
      begins : begins_with_bind s l.state.number ≡ false
      begins = ap (begins_with_bind s) st.link.number ∙ no_own_bind s b u l y.row st

      behind : flat_map (behind_own (record { id = l.state.ids.next; rest = who_am_i })) l.state.rows ≡ asked_row ∷ []
      behind = ap (flat_map (behind_own (record { id = l.state.ids.next; rest = who_am_i }))) rows
          ∙ ap (λ (t : Bool). (elim (t && true) [ true ↦ asked_row ∷ [] | false ↦ record r { kept = Some (record { rest = rest; who = None }) } ∷ [] ]) ++ []) (bytes_same who_am_i)

  pub rule_asks : l.state.linked ≡ true → l.state.down ≡ false → Rule s b u moment None l (keep_back s l.state) y y.orders
  rule_asks linked there = rule_giving s b u moment l.state.ids.next None l (what.Own l.state.ids.next who_am_i) y y.orders asked_ledger own_is refl linked fresh there
      (λ same. let n : l.state.ids.next ≡ s.id_limit = same_number l.state.ids.next s.id_limit same in omega arith)
      (record {
        made = [];
        stands = subst (λ (j : ConnectionLedger). BindStands s b u j y.row) (sym own_is)
            (stands_with s b u moment (with_own_id l.state.ids.next l.state.ids) (asked_row ∷ []) l.state.holder l.taken l y.row y.row st refl refl refl refl (omega arith) st.free st.taken st.holder
            (subst (BindRows s b (asked_row ∷ [])) (sym e) (record { op = row.op; kind = row.kind; known = row.known; ask_who = row.ask_who; above = row.above; kept = kept }, refl)) st.live st.fallen);
        gives = gives_none s b u y;
        waits = λ c. refl;
      })
    where
      kept : IsKept s b o.client o.k (record { rest = rest; who = Some l.state.ids.next })
      kept = record { answers = row.kept.answers; success = row.kept.success; wants = row.kept.wants; who = above_zero l.state.ids.next st.link.first }

      fresh : (l.state.ids.next == s.id_limit) ≡ true → l.state.retired ≡ false
      fresh same = go l.state.retired refl
        where
          go : (t : Bool) → l.state.retired ≡ t → l.state.retired ≡ false
          go false w = w
          go true w = let n : l.state.ids.next ≡ s.id_limit = same_number l.state.ids.next s.id_limit same in let k = st.link.limit w in absurd (omega arith)

-- The live Bind.
module _ (s : Settings) (b : Book) (u moment : ℕ) (m : Message) (l : ConnectionLedger) (y : ConnSide) (r : UpRow) (o : Op) (st : BindStands s b u l y.row) (e : y.row.now ≡ Some o) (rows : l.state.rows ≡ r ∷ []) (row : BindRow s b r o) (linked : l.state.linked ≡ true) (there : l.state.down ≡ false) where
  abbrev got_ledger : ConnectionLedger
  got_ledger = step_connection_ledger s l (marked_up l.state.number moment None (what.Got m.id m.rest))

  -- it stays, and nothing is given
  abbrev Stays : UpRow → Type 0
  Stays q = (behind_message moment m r ≡ q ∷ []) × (lets_go m r ≡ false) × BindRow s b q o

  row_stays : (q : UpRow) → Stays q → BindStands s b u got_ledger y.row
  row_stays q f = stands_got s b u moment m (q ∷ []) false l y.row y.row st (ap (flat_map (behind_message moment m)) rows ∙ ap (λ (qs : List UpRow). qs ++ []) f.0) (ap (list_any (lets_go m)) rows ∙ ap (λ (t : Bool). t || false) f.1) refl refl refl refl st.taken st.holder
      (subst (BindRows s b (q ∷ [])) (sym e) (f.2, refl)) st.live st.fallen

  quiet : (q : UpRow) → Stays q → Rule s b u moment None l (act (what.Got m.id m.rest ∷ []) []) y y.orders
  quiet q f = record { made = []; stands = row_stays q f; gives = gives_none s b u y; waits = λ c. refl }

  -- and then more
  got_then : (q : UpRow) → Stays q → (d : Act) → Rule s b u moment None got_ledger d y y.orders → Rule s b u moment None l (also (act (what.Got m.id m.rest ∷ []) []) d) y y.orders
  got_then q f d g = rule_then s b u moment None l (act (what.Got m.id m.rest ∷ []) []) d y y.orders (record { made = []; stands = row_stays q f; gives = gives_none s b u y; waits = λ c. refl }) (λ w. refl) g

  -- and then the connection goes down
  then_down : (q : UpRow) → Stays q → Rule s b u moment None l (also (act (what.Got m.id m.rest ∷ []) []) (goes_down l.state Bad)) y y.orders
  then_down q f = got_then q f (goes_down l.state Bad)
      (subst (λ (xs : List Posted). Rule s b u moment None got_ledger (act (what.Down Bad ∷ []) xs) y y.orders)
      (letters_down s b u got_ledger y.row (row_stays q f) ∙ sym (letters_down s b u l y.row st))
      (rule_down s b u moment Bad got_ledger y (row_stays q f) linked there))

  -- an answer that isn't the last goes to its client
  part : (q : UpRow) → Stays q → AnswerIs s b o.client (real.Reply (name o.client o.k) m.rest false None) (Reply o.k false false) → Rule s b u moment None l (act (what.Got m.id m.rest ∷ []) (reply r.op m.rest false None)) y y.orders
  part q f a = subst (λ (n : OpName). Rule s b u moment None l (act (what.Got m.id m.rest ∷ []) (reply n m.rest false None)) y y.orders) (sym row.op) (record {
    made = Replying o.client o.k ∷ [];
    stands = row_stays q f;
    gives = gives_reply s b u o.client o.k (real.Reply (name o.client o.k) m.rest false None) y (live_there s b u l y.row o st e) a;
    waits = λ c. refl;
  })

  -- it is over, and its holder stays or is let go
  row_over : (stay : Bool) → behind_message moment m r ≡ [] → lets_go m r ≡ not stay → BindStands s b u got_ledger (finish_row true true stay o.client o.k y.row)
  row_over true f g = stands_got s b u moment m [] false l y.row (finish_row true true true o.client o.k y.row) st (ap (flat_map (behind_message moment m)) rows ∙ ap (λ (qs : List UpRow). qs ++ []) f) (ap (list_any (lets_go m)) rows ∙ ap (λ (t : Bool). t || false) g) refl refl refl refl
      (record { forwards = st.taken.forwards; leaves = st.taken.leaves }) st.holder tt (none_live s b u l y.row o st e) (λ _. refl)
  row_over false f g = stands_got s b u moment m [] true l y.row (finish_row true true false o.client o.k y.row) st (ap (flat_map (behind_message moment m)) rows ∙ ap (λ (qs : List UpRow). qs ++ []) f) (ap (list_any (lets_go m)) rows ∙ ap (λ (t : Bool). t || false) g) refl refl refl refl
      (record { forwards = st.taken.forwards; leaves = st.taken.leaves }) refl tt (none_live s b u l y.row o st e) (λ _. refl)

  over : (gone stay : Bool) (x : Letter) → behind_message moment m r ≡ [] → lets_go m r ≡ not stay → AnswerIs s b o.client x (last_answer gone stay o.k) → Rule s b u moment None l (act (what.Got m.id m.rest ∷ []) (to (Client o.client) x ++ freed_letters l.state.number stay y.row.holder)) y y.orders
  over gone stay x f g a = record {
    made = Finishing o.client o.k gone stay ∷ [];
    stands = subst (BindStands s b u got_ledger) (sym (ap (λ (t : Bool). finish_row t true stay o.client o.k y.row) (live_there s b u l y.row o st e))) (row_over stay f g);
    gives = gives_finish s b u o.client o.k l.state.number gone stay x y st.link.number (live_there s b u l y.row o st e) a;
    waits = λ c. refl;
  }

  -- An answer to the Bind.
  answered_is : BindRow s b (record r { answered = moment }) o
  answered_is = record { op = row.op; kind = row.kind; known = row.known; ask_who = row.ask_who; above = row.above; kept = row.kept }

  module _ (under : is_under m.id r ≡ true) where
    stays_bad : (g i k n c : Bool) → is_final Bind m.rest ≡ g → is_intermediate m.rest ≡ i → keeps_back r m.rest ≡ k → is_none (result_code m.rest) ≡ n → has_code 14 m.rest ≡ c → (n ≡ true → k ≡ false) → (i ≡ true → g ≡ false) → (not (g || i || false) || (g && n)) ≡ true
        → (q : UpRow) × Stays q
    stays_bad false false k n c p1 p2 p3 p4 p5 x z h = (r, (behind_under moment m r row.kind false false k n under p1 p2 p3 p4, goes_under moment m r row.kind false k n c under p1 p3 p4 p5, row))
    stays_bad false true k n c p1 p2 p3 p4 p5 x z h = absurd (let no : false ≡ true = h in cc)
    stays_bad true i false true c p1 p2 p3 p4 p5 x z h = (record r { answered = moment }, (behind_under moment m r row.kind true i false true under p1 p2 p3 p4, goes_under moment m r row.kind true false true c under p1 p3 p4 p5, answered_is))
    stays_bad true i true true c p1 p2 p3 p4 p5 x z h = absurd (let no : true ≡ false = x refl in cc)
    stays_bad true i k false c p1 p2 p3 p4 p5 x z h = absurd (let no : false ≡ true = h in cc)

    -- its content
    reply_is : (g i last stay c : Bool) → is_final Bind m.rest ≡ g → is_intermediate m.rest ≡ i → ((g || i || false) && agrees last g) ≡ true → has_code 14 m.rest ≡ c → (last ≡ true → c ≡ stay) → AnswerIs s b o.client (real.Reply (name o.client o.k) m.rest last None) (Reply o.k last stay)
    reply_is g i last stay c p1 p2 h p5 same = record {
      rest = m.rest;
      who = None;
      is = refl;
      answers = bind_answers (b.request o.client o.k) m.rest last g i row.known p1 p2 ∙ h;
      known = implies_true (wants_identity s (b.request o.client o.k) && has_code 0 m.rest && is_final_for (b.request o.client o.k) m.rest);
      stays = λ _ z. p5 ∙ same z;
    }

    abbrev answer_by : Bool → Bool → Bool → Act
    answer_by i c k = elim i [ true ↦ act [] (reply r.op m.rest false None) | false ↦ elim c [ true ↦ act [] (reply r.op m.rest true None) | false ↦ elim k [ true ↦ keep_back s l.state | false ↦ act [] (reply r.op m.rest true None ++ holder_ended l.state) ] ] ]

    -- a last answer
    last_over : (stay : Bool) → behind_message moment m r ≡ [] → lets_go m r ≡ not stay → AnswerIs s b o.client (real.Reply (name o.client o.k) m.rest true None) (Reply o.k true stay) → Rule s b u moment None l (act (what.Got m.id m.rest ∷ []) (reply r.op m.rest true None ++ freed_letters l.state.number stay y.row.holder)) y y.orders
    last_over stay f g a = subst (λ (n : OpName). Rule s b u moment None l (act (what.Got m.id m.rest ∷ []) (reply n m.rest true None ++ freed_letters l.state.number stay y.row.holder)) y y.orders) (sym row.op) (over false stay (real.Reply (name o.client o.k) m.rest true None) f g a)

    kept_is : has_code 0 m.rest ≡ true → r.ask_who ≡ true → is_final Bind m.rest ≡ true → BindRow s b (record r { answered = moment; kept = Some (record { rest = m.rest; who = None }) }) o
    kept_is success wants final = record {
      op = row.op;
      kind = row.kind;
      known = row.known;
      ask_who = row.ask_who;
      above = row.above;
      kept = record { answers = bind_answers (b.request o.client o.k) m.rest true true (is_intermediate m.rest) row.known final refl; success = success; wants = sym row.ask_who ∙ wants; who = refl };
    }

    good : (g i k n c : Bool) → is_final Bind m.rest ≡ g → is_intermediate m.rest ≡ i → keeps_back r m.rest ≡ k → is_none (result_code m.rest) ≡ n → has_code 14 m.rest ≡ c → (c ≡ true → k ≡ false) → (i ≡ true → g ≡ false) → (not (g || i || false) || (g && n)) ≡ false
        → Rule s b u moment None l (also (act (what.Got m.id m.rest ∷ []) []) (answer_by i c k)) y y.orders
    good true true k n c p1 p2 p3 p4 p5 x z h = absurd (let no : true ≡ false = z refl in cc)
    good false false k n c p1 p2 p3 p4 p5 x z h = absurd (let no : true ≡ false = h in cc)
    good false true k n c p1 p2 p3 p4 p5 x z h = part (record r { answered = moment }) (behind_under moment m r row.kind false true k n under p1 p2 p3 p4, goes_under moment m r row.kind false k n c under p1 p3 p4 p5, answered_is) (reply_is false true false false c p1 p2 refl p5 (λ w. absurd (let no : false ≡ true = w in cc)))
    good true false k true c p1 p2 p3 p4 p5 x z h = absurd (let no : true ≡ false = h in cc)
    good true false true false true p1 p2 p3 p4 p5 x z h = absurd (let no : true ≡ false = x refl in cc)
    good true false false false true p1 p2 p3 p4 p5 x z h = last_over true (behind_under moment m r row.kind true false false false under p1 p2 p3 p4) (goes_under moment m r row.kind true false false true under p1 p3 p4 p5) (reply_is true false true true true p1 p2 refl p5 (λ _. refl))
    good true false false false false p1 p2 p3 p4 p5 x z h =
        subst (λ (xs : List Posted). Rule s b u moment None l (act (what.Got m.id m.rest ∷ []) (reply r.op m.rest true None ++ xs)) y y.orders) (sym (holder_is l.state y.row.holder st.holder))
        (last_over false (behind_under moment m r row.kind true false false false under p1 p2 p3 p4) (goes_under moment m r row.kind true false false false under p1 p3 p4 p5) (reply_is true false true false false p1 p2 refl p5 (λ _. refl)))
    good true false true false false p1 p2 p3 p4 p5 x z h = asks
      where
        q : UpRow
        q = record r { answered = moment; kept = Some (record { rest = m.rest; who = None }) }

        are : Stays (record r { answered = moment; kept = Some (record { rest = m.rest; who = None }) })
        are = (behind_under moment m r row.kind true false true false under p1 p2 p3 p4, goes_under moment m r row.kind true true false false under p1 p3 p4 p5, kept_is (right r.ask_who (has_code 0 m.rest) p3) (left r.ask_who (has_code 0 m.rest) p3) p1)

        rows_are : (step_connection_ledger s l (marked_up l.state.number moment None (what.Got m.id m.rest))).state.rows ≡ record r { answered = moment; kept = Some (record { rest = m.rest; who = None }) } ∷ []
        rows_are = ap (λ (p : ConnectionState). p.rows) (got_is s l.state.number moment m (record r { answered = moment; kept = Some (record { rest = m.rest; who = None }) } ∷ []) false l.state st.own (ap (flat_map (behind_message moment m)) rows ∙ ap (λ (qs : List UpRow). qs ++ []) are.0) (ap (list_any (lets_go m)) rows ∙ ap (λ (t : Bool). t || false) are.1))

        asks : Rule s b u moment None l (also (act (what.Got m.id m.rest ∷ []) []) (keep_back s l.state)) y y.orders
        asks = got_then q are (keep_back s l.state)
            (subst (λ (n : ℕ). Rule s b u moment None (step_connection_ledger s l (marked_up l.state.number moment None (what.Got m.id m.rest))) (act (giving s n (what.Own n who_am_i)) (retires s l.state n)) y y.orders) (next_stays s l.state.number moment m l.state)
            (rule_asks s b u moment (step_connection_ledger s l (marked_up l.state.number moment None (what.Got m.id m.rest))) y (record r { answered = moment }) m.rest o (row_stays q are) e rows_are are.2 linked there))

    -- an answer, bad or good
    pub rule_under : Rule s b u moment None l (also (act (what.Got m.id m.rest ∷ []) []) (elim (is_bad (message_facts l.state) m) [ true ↦ goes_down l.state Bad | false ↦ row_answer s l.state m.rest r ])) y y.orders
    rule_under = by (is_bad (message_facts l.state) m) refl
      where
        bad_is : is_bad (message_facts l.state) m ≡ (not (is_final Bind m.rest || is_intermediate m.rest || false) || (is_final Bind m.rest && is_none (result_code m.rest)))
        bad_is = bad_under moment m r row.kind s l.state st.own rows row.above (is_final Bind m.rest) (is_intermediate m.rest) (is_none (result_code m.rest)) under refl refl refl

        none_kept : is_none (result_code m.rest) ≡ true → keeps_back r m.rest ≡ false
        none_kept n = false_by (keeps_back r m.rest) (λ k. sym (code_there 0 (result_code m.rest) (right r.ask_who (has_code 0 m.rest) k)) ∙ n)

        not_kept : has_code 14 m.rest ≡ true → keeps_back r m.rest ≡ false
        not_kept c = go r.ask_who
          where
            go : (t : Bool) → (t && has_code 0 m.rest) ≡ false
            go true = code_apart m.rest c
            go false = refl

        by_bad : (q : UpRow) × Stays q → Rule s b u moment None l (also (act (what.Got m.id m.rest ∷ []) []) (goes_down l.state Bad)) y y.orders
        by_bad d = then_down d.0 d.1

        by : (t : Bool) → is_bad (message_facts l.state) m ≡ t → Rule s b u moment None l (also (act (what.Got m.id m.rest ∷ []) []) (elim t [ true ↦ goes_down l.state Bad | false ↦ row_answer s l.state m.rest r ])) y y.orders
        by true h = by_bad (stays_bad (is_final Bind m.rest) (is_intermediate m.rest) (keeps_back r m.rest) (is_none (result_code m.rest)) (has_code 14 m.rest) refl refl refl refl refl none_kept (not_final m.rest) (sym bad_is ∙ h))
        by false h = good (is_final Bind m.rest) (is_intermediate m.rest) (keeps_back r m.rest) (is_none (result_code m.rest)) (has_code 14 m.rest) refl refl refl refl refl not_kept (not_final m.rest) (sym bad_is ∙ h)

  -- An answer to its Who Am I.
  module _ (under : is_under m.id r ≡ false) (asked : is_under_who m.id r ≡ true) where
    -- its success was kept back
    kept_row : (k : Kept) × (r.kept ≡ Some k) × IsKept s b o.client o.k k × (passes (λ who. who == m.id) k.who ≡ true)
    kept_row = by r.kept refl row.kept asked
      where
        by : (q : Option Kept) → r.kept ≡ q → KeptIs s b o.client o.k q → passes (λ who. who == m.id) (elim q [ None ↦ None | Some k ↦ k.who ]) ≡ true → (k : Kept) × (r.kept ≡ Some k) × IsKept s b o.client o.k k × (passes (λ who. who == m.id) k.who ≡ true)
        by None w i h = absurd (let no : false ≡ true = h in cc)
        by (Some k) w i h = (k, w, i, h)

    heard : is_ignored m ≡ false
    heard = false_by (is_ignored m) (λ z. let zero : m.id ≡ 0 = same_number m.id 0 (left (m.id == 0) _ z) in sym (kept_row.2.who) ∙ (ap (λ n. passes (λ who. who == n) kept_row.0.who) (sym zero) ∙ kept_row.3))

    abbrev waiting_row : UpRow
    waiting_row = record r { answered = moment }

    waits_on : (tag_of m.rest == 0x78) ≡ false → Stays waiting_row
    waits_on e = (behind_asked moment m r row.kind false under asked e, goes_asked moment m r row.kind false under asked e, answered_is)

    -- the kept answer goes to its client, or the Bind is refused
    told : (k : Kept) (t : Bool) → r.kept ≡ Some k → IsKept s b o.client o.k k → (tag_of m.rest == 0x78) ≡ true → tells_who m.rest ≡ t
        → Rule s b u moment None l (act (what.Got m.id m.rest ∷ []) ((elim t [ true ↦ reply r.op (elim r.kept [ None ↦ [] | Some q ↦ q.rest ]) true (who_value m.rest) | false ↦ failed r.op C9 ]) ++ holder_ended l.state)) y y.orders
    told k true w i e h =
        subst (λ (xs : List Posted). Rule s b u moment None l (act (what.Got m.id m.rest ∷ []) xs) y y.orders)
        (λ j. reply (sym row.op j) (elim (sym w j) [ None ↦ [] | Some q ↦ q.rest ]) true (who_value m.rest) ++ sym (holder_is l.state y.row.holder st.holder) j)
        (over false false (real.Reply (name o.client o.k) k.rest true (who_value m.rest)) (behind_asked moment m r row.kind true under asked e) (goes_asked moment m r row.kind true under asked e) (record {
          rest = k.rest;
          who = who_value m.rest;
          is = refl;
          answers = i.answers;
          known = ap (implies (wants_identity s (b.request o.client o.k) && has_code 0 k.rest && is_final_for (b.request o.client o.k) k.rest)) (right (has_code 0 m.rest) (is_readable_who (who_value m.rest)) h) ∙ implies_true (wants_identity s (b.request o.client o.k) && has_code 0 k.rest && is_final_for (b.request o.client o.k) k.rest);
          stays = λ _ _. false_by (has_code 14 k.rest) (λ z. sym (code_apart k.rest z) ∙ i.success);
        }))
    told k false w i e h =
        subst (λ (xs : List Posted). Rule s b u moment None l (act (what.Got m.id m.rest ∷ []) xs) y y.orders)
        (λ j. failed (sym row.op j) C9 ++ sym (holder_is l.state y.row.holder st.holder) j)
        (over true false (real.Failed (name o.client o.k) C9) (behind_asked moment m r row.kind true under asked e) (goes_asked moment m r row.kind true under asked e) (record { which = C9; is = refl; loss = i.wants }))

    -- an answer, bad or good
    pub rule_asked : Rule s b u moment None l (also (act (what.Got m.id m.rest ∷ []) []) (elim (is_bad (message_facts l.state) m) [ true ↦ goes_down l.state Bad | false ↦ who_answer l.state m.rest r ])) y y.orders
    rule_asked = by (is_bad (message_facts l.state) m) (is_intermediate m.rest) (tag_of m.rest == 0x78) refl refl refl
      where
        bad_is : is_bad (message_facts l.state) m ≡ not (is_intermediate m.rest || tag_of m.rest == 0x78)
        bad_is = bad_asked moment m r row.kind s l.state st.own rows row.above under asked heard

        by : (t i e : Bool) → is_bad (message_facts l.state) m ≡ t → is_intermediate m.rest ≡ i → (tag_of m.rest == 0x78) ≡ e
            → Rule s b u moment None l (also (act (what.Got m.id m.rest ∷ []) []) (elim t [ true ↦ goes_down l.state Bad | false ↦ elim i [ true ↦ nothing | false ↦ act [] (identity_letters r m.rest ++ holder_ended l.state) ] ])) y y.orders
        by true i true z p q = absurd (let no : true ≡ false = sym z ∙ (bad_is ∙ ((λ j. not (p j || q j)) ∙ none i)) in cc)
          where
            none : (t : Bool) → not (t || true) ≡ false
            none true = refl
            none false = refl
        by true i false z p q = then_down waiting_row (waits_on q)
        by false true e z p q = quiet waiting_row (waits_on (not_extended m.rest p))
        by false false true z p q = told kept_row.0 (tells_who m.rest) kept_row.1 kept_row.2 q refl
        by false false false z p q = absurd (let no : true ≡ false = sym (bad_is ∙ (λ j. not (p j || q j))) ∙ z in cc)

  -- Neither.
  pub rule_beside : is_under m.id r ≡ false → is_under_who m.id r ≡ false → Rule s b u moment None l (also (act (what.Got m.id m.rest ∷ []) []) (elim (is_bad (message_facts l.state) m) [ true ↦ goes_down l.state Bad | false ↦ nothing ])) y y.orders
  rule_beside under asked = by (is_bad (message_facts l.state) m)
    where
      same : Stays r
      same = (behind_other moment m r row.kind under asked, goes_other moment m r row.kind under asked, row)

      by : (t : Bool) → Rule s b u moment None l (also (act (what.Got m.id m.rest ∷ []) []) (elim t [ true ↦ goes_down l.state Bad | false ↦ nothing ])) y y.orders
      by true = then_down r same
      by false = quiet r same

  -- A message that comes while a Bind is live.
  abbrev Given : Bool → Bool → Type 0
  Given a w =
      Rule s b u moment None l (also (act (what.Got m.id m.rest ∷ []) []) (elim (is_bad (message_facts l.state) m) [
        | true ↦ goes_down l.state Bad
        | false ↦ elim (cond a (Some r) None) [ Some q ↦ row_answer s l.state m.rest q | None ↦ elim (cond w (Some r) None) [ Some q ↦ who_answer l.state m.rest q | None ↦ nothing ] ]
      ])) y y.orders

  pub rule_live : Rule s b u moment None l (message s l.state m) y y.orders
  rule_live = subst (λ (qs : List UpRow). Rule s b u moment None l (also (act (what.Got m.id m.rest ∷ []) []) (elim (is_bad (message_facts l.state) m) [
    | true ↦ goes_down l.state Bad
    | false ↦ elim (find (is_under m.id) qs) [ Some q ↦ row_answer s l.state m.rest q | None ↦ elim (find (is_under_who m.id) qs) [ Some q ↦ who_answer l.state m.rest q | None ↦ nothing ] ]
  ])) y y.orders) (sym rows) (by (is_under m.id r) (is_under_who m.id r) refl refl)
    where
      by : (a w : Bool) → is_under m.id r ≡ a → is_under_who m.id r ≡ w → Given a w
      by true w i j = rule_under i
      by false true i j = rule_asked i j
      by false false i j = rule_beside i j
