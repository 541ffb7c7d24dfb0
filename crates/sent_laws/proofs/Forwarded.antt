-- What a client forwards is what its first check let go on, to a connection of the kind that is wanted.
use Rattle.std.proofs.Common.{◌≡◌, ℕ, suc, Bool, true, false, ◌==◌, ◌&&◌, not, List, [], ◌∷◌, ◌++◌, length, refl, ap, ◌∙◌, sym, subst, append_assoc}
use Rattle.std.specs.Prelude.{Option, Some, None, is_some, if◌then◌else◌}
use Rattle.std.specs.List.{list_any, list_all}
use Rattle.std.proofs.lemmas.List.{map-append}
use Rattle.ldap_spec.specs.Messages.{Message}
use Rattle.lload_names.specs.declared.names.Answer.{Answer}
use Rattle.lload_names.specs.declared.names.ConnKind.TheVariants.{Regular, Bind as BindKind}
use Rattle.lload_names.specs.declared.names.Entry.{Entry}
use Rattle.lload_names.specs.declared.names.OpKind.{OpKind}
use Rattle.lload_names.specs.declared.names.OpKind.TheVariants.{Bind}
use Rattle.lload_names.specs.declared.names.OpName.{OpName}
use Rattle.lload_names.specs.declared.names.What.{What}
use Rattle.lload_names.specs.declared.names.What.TheVariants as what
use Rattle.lload_spec.specs.Binding.{kind_wanted}
use Rattle.lload_spec.specs.Caused.{check_of}
use Rattle.lload_spec.specs.Entries.{Named, chosen, in_message, operation_message}
use Rattle.lload_spec.specs.FirstCheck.{check, client_facts, lets_go_on}
use Rattle.lload_spec.specs.Journal.{Family}
use Rattle.lload_spec.specs.Lists.{passes, where_there}
use Rattle.lload_spec.specs.Operations.{Operation, is_request_of, operation_in, operations}
use Rattle.lload_spec.specs.Settings.{Settings, is_of_kind}
use Rattle.lload_spec.specs.Strict.{is_to_ask}
use Rattle.lload_spec.proofs.Growth.{left, right, both}
use Rattle.lload_laws.proofs.ListLaws.{found_passes, passes_imply}
use Rattle.part_laws.proofs.ListLaws.{any_split, same_number, same_op_eq}
use Rattle.part_spec.specs.ClientState.{ClientState, check_at, client_of, empty_client, facts_of, name_of, step_client}
use Rattle.part_spec.specs.Fit.{ClientLedger, are_fit_from, empty_client_ledger, fits_client, is_unfit, step_client_ledger}
use Rattle.part_spec.specs.Gives.{client_gives, client_letters}
use Rattle.part_spec.specs.Marked.{Marked, entries}
use Rattle.part_spec.specs.Marks.{may_be_first}
use Rattle.client_laws.proofs.ClientClauses.{nothing_kept}
use Rattle.client_answer_laws.proofs.Asks.{going_makes}
use Rattle.joined_laws.proofs.Begun.{is_begun}
use Rattle.joined_laws.proofs.Walks.{Begun}
use Rattle.forward_laws.proofs.Causes.{Pinned, WasChosen, is_sent_there, letters_hit}
use Rattle.forward_laws.proofs.Ops.{new_found}
use Rattle.identity_laws.proofs.Ins.{steps_push}
use Rattle.sent_laws.proofs.Walk.{At, ChosenSo, at_more, chosen_so, is_to_ask_for, passes_later, was_to_ask}

grown : (before : List Marked) (m : Marked) → entries (before ++ m ∷ []) ≡ entries before ++ m.entry ∷ []
grown before m = map-append (λ (x : Marked). x.entry) before (m ∷ [])

module _ (s : Settings) (F : Family) (c : ℕ) where
  -- What is known at an entry.
  record Here (before : List Marked) (l : ClientLedger) (m : Marked) : Type 0 where
    at : At s F c (entries before) l.state
    first : is_begun m.entry.what ≡ true → may_be_first l.state m.entry m.mark ≡ true
    fit : not (is_unfit (fits_client s) l m.mark) ≡ true
    known : (x : Message) → m.entry.what ≡ what.In x.id x.rest → facts_of l.state ≡ client_facts s F c (entries before)

  abbrev Along : List Marked → ClientLedger → List Marked → Type 0
  Along before l [] = Unit {0}
  Along before l (m ∷ ms) = Here before l m × Along (before ++ m ∷ []) (step_client_ledger s l m) ms

  fits : (b : Bool) → b ≡ true → (b && true) ≡ true
  fits b k = both b true k refl

  along : (list : List Marked) → ((before : List Marked) (m : Marked) (behind : List Marked) → list ≡ before ++ m ∷ behind → is_some (in_message m.entry.what) ≡ true → facts_of (client_of s c before) ≡ client_facts s F c (entries before)) → (before ms : List Marked) (l : ClientLedger) → list ≡ before ++ ms → client_of s c before ≡ l.state → At s F c (entries before) l.state → Begun s c (entries before) l.state ms → are_fit_from (fits_client s) (step_client_ledger s) l ms ≡ true → Along before l ms
  along list known before [] l same state h begun fit = tt
  along list known before (m ∷ ms) l same state h begun fit = (here, along list known (before ++ m ∷ []) ms (step_client_ledger s l m) (same ∙ sym (append_assoc before (m ∷ []) ms)) (steps_push s (empty_client c) before m ∙ ap (λ q. step_client s q m) state) (subst (λ es. At s F c es (step_client s l.state m)) (sym (grown before m)) (at_more s F c (entries before) l m h true here.first (fits _ here.fit) here.known)) (subst (λ es. Begun s c es (step_client s l.state m) ms) (sym (grown before m)) begun.1) (right (not (is_unfit (fits_client s) l m.mark)) _ fit))
    where
      here : Here before l m
      here =
          record {
            at = h;
            first = λ k. (begun.0 k).marked;
            fit = left (not (is_unfit (fits_client s) l m.mark)) _ fit;
            known = λ x e. ap facts_of (sym state) ∙ known before m ms same (ap (λ w. is_some (in_message w)) e);
          }

  -- where the walk begins
  nothing_yet : At s F c [] (empty_client c)
  nothing_yet = record { says = (nothing_kept s c).says; count = refl; rows = tt; asked = refl; held = λ x e. absurd (let bad : None ≡ Some x = e in cc) }

  -- Each choice is of what the desk was to be asked for.
  abbrev pub is_choice_due : List Entry → Entry → Bool
  is_choice_due place e = where_there (λ x. passes (is_to_ask s F) (operation_in c place x.op)) (chosen e.what)

  to_ask_stays : (o p : Operation) → p.name ≡ o.name → p.request ≡ o.request → p.before ≡ o.before → is_to_ask s F p ≡ is_to_ask s F o
  to_ask_stays o p n r b = λ i. is_to_ask s F (record o { name = n i; request = r i; before = b i })

  choice_due : (before : List Marked) (l : ClientLedger) (m : Marked) → Here before l m → is_choice_due (entries before) m.entry ≡ true
  choice_due before l m h = by m.entry.what refl
    where
      of_choice : (op : OpName) (a : Answer) → m.entry.what ≡ what.Chosen op a → passes (is_to_ask s F) (operation_in c (entries before) op) ≡ true
      of_choice op a e = let x = was_to_ask s F c (entries before) l m h.at true h.first (fits _ h.fit) op a e in passes_imply (is_to_ask_for s F x.0.kind) (is_to_ask s F) (operation_in c (entries before) op) (λ o k. left (is_to_ask s F o) _ k) x.2

      by : (w : What) → m.entry.what ≡ w → where_there (λ x. passes (is_to_ask s F) (operation_in c (entries before) x.op)) (chosen w) ≡ true
      by (what.Chosen op a) e = of_choice op a e
      by _ e = refl

  choice_later : (L M : List Entry) (e : Entry) → is_choice_due L e ≡ true → is_choice_due (L ++ M) e ≡ true
  choice_later L M e h = by (chosen e.what) h
    where
      by : (o : Option (Named Answer)) → where_there (λ x. passes (is_to_ask s F) (operation_in c L x.op)) o ≡ true → where_there (λ x. passes (is_to_ask s F) (operation_in c (L ++ M) x.op)) o ≡ true
      by None k = refl
      by (Some x) k = passes_later (is_to_ask s F) to_ask_stays c L M x.op k

  choices_due : (before ms : List Marked) (l : ClientLedger) → Along before l ms → list_all (λ m. is_choice_due (entries before ++ entries ms) m.entry) ms ≡ true
  choices_due before [] l h = refl
  choices_due before (m ∷ ms) l h = both (is_choice_due (entries before ++ m.entry ∷ entries ms) m.entry) _ (choice_later (entries before) (m.entry ∷ entries ms) m.entry (choice_due before l m h.0)) (subst (λ es. list_all (λ x. is_choice_due es x.entry) ms ≡ true) (ap (λ es. es ++ entries ms) (grown before m) ∙ append_assoc (entries before) (m.entry ∷ []) (entries ms)) (choices_due (before ++ m ∷ []) ms (step_client_ledger s l m) h.1))

  -- Each Forward is of what the first check let go on, to a connection of its kind.
  abbrev pub goes_rightly : ℕ → Operation → Bool
  goes_rightly u o = lets_go_on (check_of s F o) && is_of_kind s (kind_wanted o.request) u

  goes_stays : (u : ℕ) (o p : Operation) → p.name ≡ o.name → p.request ≡ o.request → p.before ≡ o.before → goes_rightly u p ≡ goes_rightly u o
  goes_stays u o p n r b = λ i. goes_rightly u (record o { name = n i; request = r i; before = b i })

  module _ (op : OpName) (kind : OpKind) (u : ℕ) where
    abbrev GoesAt : List Entry → Type 0
    GoesAt place = passes (goes_rightly u) (operation_in c place op) ≡ true

    module _ (before : List Marked) (l : ClientLedger) (m : Marked) (h : Here before l m) where
      abbrev place : List Entry
      place = entries before

      of_pinned : (id : ℕ) (rest : List ℕ) → m.entry.what ≡ what.In id rest → Pinned s op kind u l.state (record { id = id; rest = rest }) → GoesAt (entries before ++ m.entry ∷ [])
      of_pinned id rest e f =
          ap (λ n. passes (goes_rightly u) (operation_in c (place ++ m.entry ∷ []) n)) name_is
          ∙ ap (passes (goes_rightly u)) (new_found c place m.entry msg (ap operation_message e ∙ ap (λ b. elim b [ true ↦ Some (record { id = id; rest = rest }) | false ↦ None ]) (going_makes s l.state msg goes)))
          ∙ both (lets_go_on (check s (client_facts s F c place) msg)) _ (ap (λ x. lets_go_on (check s x msg)) (sym (h.known msg e)) ∙ goes) (ap (λ d. is_of_kind s (if d then BindKind else Regular) u) bind ∙ ap (is_of_kind s BindKind) (sym (same_number f.held.connection u f.hit.there)) ∙ h.at.held f.held f.holds)
        where
          msg : Message
          msg = record { id = id; rest = rest }

          goes : lets_go_on (check_at s l.state (record { id = id; rest = rest })) ≡ true
          goes = right (is_request_of Bind (record { id = id; rest = rest }) && l.state.in_exchange) _ f.pinned

          bind : is_request_of Bind (record { id = id; rest = rest }) ≡ true
          bind = left (is_request_of Bind (record { id = id; rest = rest })) _ (left (is_request_of Bind (record { id = id; rest = rest }) && l.state.in_exchange) _ f.pinned)

          name_is : op ≡ record { client = c; k = suc (length (operations c (entries before))) }
          name_is = same_op_eq op (record { client = l.state.number; k = suc l.state.count }) f.hit.named ∙ (λ i. record { client = h.at.says.number i; k = suc (h.at.count i) })

      of_chosen : (o : OpName) (a : Answer) → m.entry.what ≡ what.Chosen o a → WasChosen s op kind u l.state o a → GoesAt (entries before ++ m.entry ∷ [])
      of_chosen o a e f = passes_later (goes_rightly u) (goes_stays u) c place (m.entry ∷ []) op (ap (λ n. passes (goes_rightly u) (operation_in c place n)) same ∙ ap (passes (goes_rightly u)) so.stands ∙ both (lets_go_on (check_of s F so.operation)) _ (left (lets_go_on (check_of s F so.operation)) _ so.to_ask) (ap (is_of_kind s (kind_wanted so.operation.request)) (sym (same_number f.connection u f.hit.there)) ∙ so.of_kind))
        where
          so : ChosenSo s F c (entries before) o f.connection
          so = chosen_so s F c (entries before) l m h.at true h.first (fits _ h.fit) o f.connection f.backend (e ∙ ap (what.Chosen o) f.answer_is)

          named : (l.state.number == o.client && f.row.k == o.k) ≡ true
          named = found_passes (λ x. l.state.number == o.client && x.k == o.k) l.state.rows f.row f.row_is

          same : op ≡ o
          same = same_op_eq op (name_of l.state f.row) f.hit.named ∙ (let client : l.state.number ≡ o.client = same_number l.state.number o.client (left (l.state.number == o.client) _ named) in let k : f.row.k ≡ o.k = same_number f.row.k o.k (right (l.state.number == o.client) _ named) in λ i. record { client = client i; k = k i })

      head_goes : list_any (is_sent_there op kind u) (client_letters s l.state m.entry.at m.entry.what) ≡ true → GoesAt (entries before ++ m.entry ∷ [])
      head_goes k = letters_hit s op kind u l.state m.entry.at m.entry.what k of_pinned of_chosen

    forwards_go : (before ms : List Marked) (l : ClientLedger) → Along before l ms → list_any (is_sent_there op kind u) (client_gives s l.state ms) ≡ true → GoesAt (entries before ++ entries ms)
    forwards_go before [] l h k = absurd (let bad : false ≡ true = k in cc)
    forwards_go before (m ∷ ms) l h k =
        any_split (is_sent_there op kind u) (client_letters s l.state m.entry.at m.entry.what) (client_gives s (step_client s l.state m) ms)
        (λ j. subst GoesAt (append_assoc (entries before) (m.entry ∷ []) (entries ms)) (passes_later (goes_rightly u) (goes_stays u) c (entries before ++ m.entry ∷ []) (entries ms) op (head_goes before l m h.0 j)))
        (λ j. subst GoesAt (ap (λ es. es ++ entries ms) (grown before m) ∙ append_assoc (entries before) (m.entry ∷ []) (entries ms)) (forwards_go (before ++ m ∷ []) ms (step_client_ledger s l m) h.1 j)) k

  -- Of a whole list.
  module _ (list : List Marked) (known : (before : List Marked) (m : Marked) (behind : List Marked) → list ≡ before ++ m ∷ behind → is_some (in_message m.entry.what) ≡ true → facts_of (client_of s c before) ≡ client_facts s F c (entries before)) (begun : Begun s c [] (empty_client c) list) (fit : are_fit_from (fits_client s) (step_client_ledger s) (empty_client_ledger c) list ≡ true) where
    whole : Along [] (empty_client_ledger c) list
    whole = along list known [] list (empty_client_ledger c) refl refl nothing_yet begun fit

    pub all_choices_due : list_all (λ m. is_choice_due (entries list) m.entry) list ≡ true
    all_choices_due = choices_due [] list (empty_client_ledger c) whole

    pub all_forwards_go : (op : OpName) (kind : OpKind) (u : ℕ) → list_any (is_sent_there op kind u) (client_gives s (empty_client c) list) ≡ true → passes (goes_rightly u) (operation_in c (entries list) op) ≡ true
    all_forwards_go op kind u k = forwards_go op kind u [] list (empty_client_ledger c) whole k
