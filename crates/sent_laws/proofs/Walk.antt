-- What a client asked the desk for is what its first check let go on, of the kind that is wanted; and so is what it was chosen.
use Rattle.std.proofs.Common.{◌≡◌, ℕ, suc, Bool, true, false, ◌==◌, ◌&&◌, not, List, [], ◌∷◌, ◌++◌, length, refl, ap, ◌∙◌, sym, subst}
use Rattle.std.specs.Prelude.{Option, Some, None, filter, find, if◌then◌else◌}
use Rattle.std.specs.List.{list_all}
use Rattle.std.proofs.lemmas.List.Folds.{list_all-append}
use Rattle.ldap_spec.specs.Kinds.{same_kind}
use Rattle.ldap_spec.specs.Messages.{Message}
use Rattle.ldap_spec.specs.Requests.{request}
use Rattle.ldap_spec.specs.Responses.{has_code}
use Rattle.lload_names.specs.declared.names.Answer.{Answer}
use Rattle.lload_names.specs.declared.names.Answer.TheVariants.{Go, Busy, Unavailable}
use Rattle.lload_names.specs.declared.names.ConnKind.{ConnKind}
use Rattle.lload_names.specs.declared.names.ConnKind.TheVariants.{Regular, Bind as BindKind}
use Rattle.lload_names.specs.declared.names.Entry.{Entry}
use Rattle.lload_names.specs.declared.names.Letter.{Letter}
use Rattle.lload_names.specs.declared.names.Letter.TheVariants.{Choice}
use Rattle.lload_names.specs.declared.names.OpKind.TheVariants.{Bind}
use Rattle.lload_names.specs.declared.names.OpName.{OpName}
use Rattle.lload_names.specs.declared.names.PartName.{PartName}
use Rattle.lload_names.specs.declared.names.PartName.TheVariants.{Desk}
use Rattle.lload_names.specs.declared.names.What.{What}
use Rattle.lload_names.specs.declared.names.What.TheVariants as what
use Rattle.lload_spec.specs.Binding.{kind_wanted}
use Rattle.lload_spec.specs.Entries.{makes_operation, operation_message}
use Rattle.lload_spec.specs.FirstCheck.{asks_desk, client_facts, lets_go_on}
use Rattle.lload_spec.specs.Identity.{identity_of}
use Rattle.lload_spec.specs.Journal.{Family, same_answer, same_op, same_part}
use Rattle.lload_spec.specs.Lists.{passes}
use Rattle.lload_spec.specs.Operations.{Operation, is_final_for, is_request_of, operation_in, operations}
use Rattle.lload_spec.specs.Settings.{Settings, is_kind, is_of_kind}
use Rattle.lload_spec.specs.Strict.{is_to_ask}
use Rattle.lload_spec.proofs.Growth.{left, right, both}
use Rattle.lload_laws.proofs.ListLaws.{all_imply, found, found_passes}
use Rattle.part_laws.proofs.ListLaws.{all_kept, eq_eqb, same_number, same_op_eq}
use Rattle.part_laws.proofs.Same.{same_kind_refl}
use Rattle.part_spec.specs.ClientState.{AskedFor, ClientRow, ClientState, Held, asked_behind, check_at, client_behind, facts_of, is_asked_for, is_bind_row, name_of, next_name, row_named, row_under, step_client, who_told, with_choice, with_connection, without}
use Rattle.part_spec.specs.Fit.{ClientLedger, fits_client, is_choice_for as is_right_choice, is_unfit}
use Rattle.part_spec.specs.Marked.{Marked, Taken}
use Rattle.part_spec.specs.Marks.{marks_client, may_be_first, must_mark_client}
use Rattle.client_laws.proofs.ClientClauses.{Says, says_more}
use Rattle.client_laws.proofs.ClientGives.{in_state}
use Rattle.client_laws.proofs.ClientLives.{out_state_of}
use Rattle.client_laws.proofs.ClientTurns.{count_more}
use Rattle.client_answer_laws.proofs.Asks.{going_makes}
use Rattle.client_answer_laws.proofs.Each.{Each, each_found}
use Rattle.client_answer_laws.proofs.Waits.{IsOf, RowKnown, rows_known}
use Rattle.joined_laws.proofs.Taken.{is_fit_there}
use Rattle.joined_laws.proofs.Begun.{is_begun}
use Rattle.forward_laws.proofs.Ops.{new_found}
use Rattle.carried_laws.proofs.Stays.{Kept, operation_kept}

-- what is so of an operation by its name, its request and what stands before it stays so as the list grows
pub passes_later : (t : Operation → Bool) → ((o p : Operation) → p.name ≡ o.name → p.request ≡ o.request → p.before ≡ o.before → t p ≡ t o) → (c : ℕ) (L M : List Entry) (op : OpName) → passes t (operation_in c L op) ≡ true → passes t (operation_in c (L ++ M) op) ≡ true
passes_later t same c L M op h = by (operation_in c L op) refl h
  where
    by : (o : Option Operation) → operation_in c L op ≡ o → passes t o ≡ true → passes t (operation_in c (L ++ M) op) ≡ true
    by None e k = absurd (let bad : false ≡ true = k in cc)
    by (Some o) e k = let kept : Kept c (L ++ M) op o = operation_kept c L M op o e in ap (passes t) kept.found ∙ same o kept.later kept.name kept.request kept.before ∙ k

kind_eq : (a b : ConnKind) → is_kind a b ≡ true → a ≡ b
kind_eq Regular Regular h = refl
kind_eq BindKind BindKind h = refl
kind_eq Regular BindKind h = absurd (let bad : false ≡ true = h in cc)
kind_eq BindKind Regular h = absurd (let bad : false ≡ true = h in cc)

module _ (s : Settings) (F : Family) where
  -- whether an operation is to ask the desk for a connection of this kind
  abbrev pub is_to_ask_for : ConnKind → Operation → Bool
  is_to_ask_for kind o = is_to_ask s F o && is_kind kind (kind_wanted o.request)

  pub to_ask_later : (kind : ConnKind) (o p : Operation) → p.name ≡ o.name → p.request ≡ o.request → p.before ≡ o.before → is_to_ask_for kind p ≡ is_to_ask_for kind o
  to_ask_later kind o p n r b = λ i. asks_desk s (client_facts s F (n i).client (b i)) (r i) && is_kind kind (kind_wanted (r i))

  abbrev pub is_asked_so : ℕ → List Entry → AskedFor → Bool
  is_asked_so c place a = passes (is_to_ask_for a.kind) (operation_in c place a.op)

  -- What is known of a client behind each list.
  pub record At (c : ℕ) (place : List Entry) (p : ClientState) : Type 0 where
    pub says : Says c place p
    pub count : p.count ≡ length (operations c place)
    pub rows : Each (RowKnown s c place) p.rows
    pub asked : list_all (is_asked_so c place) p.asked ≡ true
    pub held : (x : Held) → p.hold ≡ Some x → is_of_kind s BindKind x.connection ≡ true

  -- An operation that was chosen a connection: the desk was to be asked for it, and the connection is of the wanted kind.
  pub record ChosenSo (c : ℕ) (place : List Entry) (op : OpName) (v : ℕ) : Type 0 where
    pub operation : Operation
    pub stands : operation_in c place op ≡ Some operation
    pub to_ask : is_to_ask s F operation ≡ true
    pub of_kind : is_of_kind s (kind_wanted operation.request) v ≡ true

  -- the letter of a choice is fit
  right_choice : (l : ClientLedger) (e : Entry) (mark : Option Taken) (rest : Bool) → (is_begun e.what ≡ true → may_be_first l.state e mark ≡ true) → (not (is_unfit (fits_client s) l mark) && rest) ≡ true → (op : OpName) (a : Answer) → e.what ≡ what.Chosen op a → passes (λ x. is_right_choice s x.kind a) (find (λ x. same_op op x.op) l.state.asked) ≡ true
  right_choice l e None rest g f op a z = absurd (let bad : false ≡ true = subst (λ w. is_begun w ≡ true → not (must_mark_client e w) ≡ true) z g refl in cc)
  right_choice l e (Some t) rest g f op a z = by t.sender t.letter (subst (λ w. is_begun w ≡ true → marks_client l.state w t.letter ≡ true) z g refl) (is_fit_there (fits_client s) l t rest f)
    where
      by : (sender : PartName) (x : Letter) → marks_client l.state (what.Chosen op a) x ≡ true → fits_client s l sender x ≡ true → passes (λ y. is_right_choice s y.kind a) (find (λ y. same_op op y.op) l.state.asked) ≡ true
      by sender (Choice q b) k j =
          subst (λ n. passes (λ y. is_right_choice s y.kind a) (find (λ y. same_op n y.op) l.state.asked) ≡ true) (sym (same_op_eq op q (left (same_op op q) _ k)))
          (subst (λ x. passes (λ y. is_right_choice s y.kind x) (find (λ y. same_op q y.op) l.state.asked) ≡ true) (sym (answer_eq a b (right (same_op op q) _ k))) (right (same_part sender Desk) _ j))
        where
          answer_eq : (x y : Answer) → same_answer x y ≡ true → x ≡ y
          answer_eq (Go u m) (Go v n) i = let one : u ≡ v = same_number u v (left (u == v) _ i) in let two : m ≡ n = same_number m n (right (u == v) _ i) in λ d. Go (one d) (two d)
          answer_eq Busy Busy i = refl
          answer_eq Unavailable Unavailable i = refl
          answer_eq (Go u m) Busy i = absurd (let bad : false ≡ true = i in cc)
          answer_eq (Go u m) Unavailable i = absurd (let bad : false ≡ true = i in cc)
          answer_eq Busy (Go v n) i = absurd (let bad : false ≡ true = i in cc)
          answer_eq Busy Unavailable i = absurd (let bad : false ≡ true = i in cc)
          answer_eq Unavailable (Go v n) i = absurd (let bad : false ≡ true = i in cc)
          answer_eq Unavailable Busy i = absurd (let bad : false ≡ true = i in cc)
      by sender _ k j = absurd (let bad : false ≡ true = k in cc)

  module _ (c : ℕ) (place : List Entry) (l : ClientLedger) (m : Marked) (h : At c place l.state) (rest : Bool) (first : is_begun m.entry.what ≡ true → may_be_first l.state m.entry m.mark ≡ true) (fit : (not (is_unfit (fits_client s) l m.mark) && rest) ≡ true) where
    -- what a choice is for was asked for
    pub was_to_ask : (op : OpName) (a : Answer) → m.entry.what ≡ what.Chosen op a → (x : AskedFor) × (is_right_choice s x.kind a ≡ true) × (passes (is_to_ask_for x.kind) (operation_in c place op) ≡ true)
    was_to_ask op a z = by (find (λ x. same_op op x.op) l.state.asked) refl (right_choice l m.entry m.mark rest first fit op a z)
      where
        by : (o : Option AskedFor) → find (λ x. same_op op x.op) l.state.asked ≡ o → passes (λ x. is_right_choice s x.kind a) o ≡ true → (x : AskedFor) × (is_right_choice s x.kind a ≡ true) × (passes (is_to_ask_for x.kind) (operation_in c place op) ≡ true)
        by None e k = absurd (let bad : false ≡ true = k in cc)
        by (Some x) e k = (x, k, ap (λ n. passes (is_to_ask_for x.kind) (operation_in c place n)) (same_op_eq op x.op (found_passes (λ y. same_op op y.op) l.state.asked x e)) ∙ found (is_asked_so c place) (λ y. same_op op y.op) l.state.asked x e h.asked)

    pub chosen_so : (op : OpName) (v b : ℕ) → m.entry.what ≡ what.Chosen op (Go v b) → ChosenSo c place op v
    chosen_so op v b z = let x = was_to_ask op (Go v b) z in by x.0 x.1 (operation_in c place op) refl x.2
      where
        by : (x : AskedFor) → is_right_choice s x.kind (Go v b) ≡ true → (o : Option Operation) → operation_in c place op ≡ o → passes (is_to_ask_for x.kind) o ≡ true → ChosenSo c place op v
        by x k None e j = absurd (let bad : false ≡ true = j in cc)
        by x k (Some o) e j = record { operation = o; stands = e; to_ask = left (is_to_ask s F o) _ j; of_kind = ap (λ n. is_of_kind s n v) (sym (kind_eq x.kind (kind_wanted o.request) (right (is_to_ask s F o) _ j))) ∙ left (is_of_kind s x.kind v) _ k }

    -- The state behind the entry.
    abbrev later : List Entry
    later = place ++ m.entry ∷ []

    asked_stay : (xs : List AskedFor) → list_all (is_asked_so c place) xs ≡ true → list_all (is_asked_so c later) xs ≡ true
    asked_stay xs k = all_imply (is_asked_so c place) (is_asked_so c later) xs (λ x j. passes_later (is_to_ask_for x.kind) (to_ask_later x.kind) c place (m.entry ∷ []) x.op j) k

    new_asked : (x : Message) → m.entry.what ≡ what.In x.id x.rest → asks_desk s (facts_of l.state) x ≡ true → facts_of l.state ≡ client_facts s F c place → is_asked_so c later (record { op = next_name l.state; kind = kind_wanted x }) ≡ true
    new_asked x e asks known =
        ap (λ n. passes (is_to_ask_for (kind_wanted x)) (operation_in c later n)) (λ i. record { client = h.says.number i; k = suc (h.count i) })
        ∙ ap (passes (is_to_ask_for (kind_wanted x))) (new_found c place m.entry x (ap operation_message e ∙ ap (λ b. elim b [ true ↦ Some (record { id = x.id; rest = x.rest }) | false ↦ None ]) (going_makes s l.state x (left (lets_go_on (check_at s l.state x)) _ asks))))
        ∙ both (asks_desk s (client_facts s F c place) x) _ (ap (λ f. asks_desk s f x) (sym known) ∙ asks) (same_kind_refl (kind_wanted x))

    asked_more : ((x : Message) → m.entry.what ≡ what.In x.id x.rest → facts_of l.state ≡ client_facts s F c place) → list_all (is_asked_so c later) (asked_behind s l.state m.entry.what) ≡ true
    asked_more known = by m.entry.what refl
      where
        of_message : (x : Message) → m.entry.what ≡ what.In x.id x.rest → (b : Bool) → asks_desk s (facts_of l.state) x ≡ b → list_all (is_asked_so c later) (if b then l.state.asked ++ record { op = next_name l.state; kind = kind_wanted x } ∷ [] else l.state.asked) ≡ true
        of_message x e true k = list_all-append (is_asked_so c later) l.state.asked (record { op = next_name l.state; kind = kind_wanted x } ∷ []) ∙ both (list_all (is_asked_so c later) l.state.asked) _ (asked_stay l.state.asked h.asked) (both (is_asked_so c later (record { op = next_name l.state; kind = kind_wanted x })) true (new_asked x e k (known x e)) refl)
        of_message x e false k = asked_stay l.state.asked h.asked

        by : (w : What) → m.entry.what ≡ w → list_all (is_asked_so c later) (asked_behind s l.state w) ≡ true
        by (what.In id rest) e = of_message (record { id = id; rest = rest }) e (is_asked_for s l.state (record { id = id; rest = rest })) refl
        by (what.Chosen op a) e = asked_stay (filter (λ x. not (same_op op x.op)) l.state.asked) (all_kept (is_asked_so c place) (λ x. not (same_op op x.op)) l.state.asked h.asked)
        by _ e = asked_stay l.state.asked h.asked

    abbrev HeldSo : ClientState → Type 0
    HeldSo q = (x : Held) → q.hold ≡ Some x → is_of_kind s BindKind x.connection ≡ true

    held_by : (q : ClientState) → q.hold ≡ l.state.hold → HeldSo q
    held_by q same x e = h.held x (sym same ∙ e)

    held_none : (q : ClientState) → q.hold ≡ None → HeldSo q
    held_none q none x e = absurd (let bad : None ≡ Some x = sym none ∙ e in cc)

    -- a connection that was chosen for a Bind
    held_chosen : (op : OpName) (v b : ℕ) (r : ClientRow) → m.entry.what ≡ what.Chosen op (Go v b) → row_named l.state op ≡ Some r → is_bind_row r ≡ true → is_of_kind s BindKind v ≡ true
    held_chosen op v b r z named bind = ap (λ k. is_of_kind s k v) (sym wanted) ∙ so.of_kind
      where
        so : ChosenSo c place op v
        so = chosen_so op v b z

        row : RowKnown s c place r
        row = each_found (RowKnown s c place) (λ x. l.state.number == op.client && x.k == op.k) l.state.rows r named h.rows

        number : (r.k == so.operation.name.k) ≡ true
        number =
            let k : r.k ≡ op.k = same_number r.k op.k (right (l.state.number == op.client) _ (found_passes (λ x. l.state.number == op.client && x.k == op.k) l.state.rows r named)) in
            let n : op.k ≡ so.operation.name.k = ap (λ o. o.k) (same_op_eq op so.operation.name (found_passes (λ x. same_op op x.name) (operations c place) so.operation so.stands)) in
            eq_eqb r.k so.operation.name.k (k ∙ n)

        is_of : IsOf s r so.operation
        is_of = each_found (λ x. (r.k == x.name.k) ≡ true → IsOf s r x) (λ x. same_op op x.name) (operations c place) so.operation so.stands row.same number

        wanted : kind_wanted so.operation.request ≡ BindKind
        wanted = ap (λ k. if passes (same_kind Bind) k then BindKind else Regular) (sym is_of.carries.kind) ∙ ap (λ d. if d then BindKind else Regular) bind

    held_more : HeldSo (client_behind s m.entry.at m.mark l.state m.entry.what)
    held_more = by m.entry.what refl
      where
        p : ClientState
        p = l.state

        in_held : (x : Message) (b d : Bool) → (in_state s m.entry.at l.state x b d).hold ≡ l.state.hold
        in_held x false d = refl
        in_held x true true = refl
        in_held x true false = refl

        out_held : (rest : List ℕ) (o : Option ClientRow) → HeldSo (out_state_of s m.entry.at m.mark l.state rest o)
        out_held rest None = h.held
        out_held rest (Some r) = of_row (is_final_for r.request rest) (is_bind_row r) (has_code 14 rest)
          where
            ended : ClientState
            ended = without (λ x. x.k == r.k) m.entry.at l.state

            answered : Bool → ClientState
            answered b = elim b [ true ↦ record ended { in_exchange = true } | false ↦ record ended { hold = None; identity = if has_code 0 rest then identity_of s (who_told m.mark) (request r.request.rest) else [] } ]

            state : Bool → Bool → Bool → ClientState
            state f b x = elim f [ false ↦ l.state | true ↦ elim b [ true ↦ answered x | false ↦ ended ] ]

            of_row : (f b x : Bool) → HeldSo (state f b x)
            of_row false b x = h.held
            of_row true true true = held_by (state true true true) refl
            of_row true true false = held_none (state true true false) refl
            of_row true false x = held_by (state true false x) refl

        chosen_held : (op : OpName) (a : Answer) → m.entry.what ≡ what.Chosen op a → HeldSo (with_choice op a l.state)
        chosen_held op (Go v b) e = of_row (row_named l.state op) refl
          where
            of_row : (o : Option ClientRow) → row_named l.state op ≡ o → HeldSo (elim o [ None ↦ l.state | Some r ↦ with_connection v b l.state r ])
            of_row None f = h.held
            of_row (Some r) f = of_kind (is_bind_row r) refl
              where
                of_kind : (d : Bool) → is_bind_row r ≡ d → (x : Held) → (if d then Some (record { connection = v; holder = name_of l.state r }) else l.state.hold) ≡ Some x → is_of_kind s BindKind x.connection ≡ true
                of_kind true k x g = let same : record { connection = v; holder = name_of l.state r } ≡ x = cc in subst (λ (y : Held). is_of_kind s BindKind y.connection ≡ true) same (held_chosen op v b r e f k)
                of_kind false k x g = h.held x g
        chosen_held op Busy e = h.held
        chosen_held op Unavailable e = h.held

        by : (w : What) → m.entry.what ≡ w → HeldSo (client_behind s m.entry.at m.mark l.state w)
        by (what.In id rest) e = held_by (in_state s m.entry.at l.state (record { id = id; rest = rest }) (makes_operation (record { id = id; rest = rest })) (is_request_of Bind (record { id = id; rest = rest }))) (in_held (record { id = id; rest = rest }) (makes_operation (record { id = id; rest = rest })) (is_request_of Bind (record { id = id; rest = rest })))
        by (what.Out id rest) e = out_held rest (row_under l.state id)
        by (what.Chosen op a) e = chosen_held op a e
        by (what.Gone why) e = λ x k. absurd (let bad : None ≡ Some x = k in cc)
        by _ e = h.held

    pub at_more : ((x : Message) → m.entry.what ≡ what.In x.id x.rest → facts_of l.state ≡ client_facts s F c place) → At c later (step_client s l.state m)
    at_more known =
        record {
          says = says_more s c place l.state m h.says;
          count = count_more s c place m.entry m.mark l.state h.count;
          rows = rows_known s c m.entry.at m.entry.part m.mark place l.state h.says.number h.count m.entry.what h.rows;
          asked = asked_more known;
          held = held_more;
        }
