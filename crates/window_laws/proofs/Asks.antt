-- The desk is asked for each request that goes on to it, for what binds its client where the request came.
use Rattle.std.proofs.Common.{◌≡◌, ℕ, suc, Bool, true, false, ◌==◌, ◌&&◌, ◌||◌, not, List, [], ◌∷◌, ◌++◌, length, refl, ap, ◌∙◌, sym, subst, append_assoc}
use Rattle.std.specs.Prelude.{Option, Some, None, is_some}
use Rattle.std.specs.List.{list_any, list_all}
use Rattle.std.proofs.lemmas.List.{map-append}
use Rattle.std.proofs.lemmas.List.Folds.{list_all-append}
use Rattle.ldap_spec.specs.Messages.{Message}
use Rattle.lload_names.specs.declared.names.Bound.{Bound}
use Rattle.lload_names.specs.declared.names.Bound.TheVariants.{Free, Backend as ToBackend, Conn as ToConnection}
use Rattle.lload_names.specs.declared.names.ConnKind.{ConnKind}
use Rattle.lload_names.specs.declared.names.ConnKind.TheVariants.{Regular, Bind as BindKind}
use Rattle.lload_names.specs.declared.names.Entry.{Entry}
use Rattle.lload_names.specs.declared.names.Letter.{Letter}
use Rattle.lload_names.specs.declared.names.Letter.TheVariants.{Ask}
use Rattle.lload_names.specs.declared.names.OpName.{OpName}
use Rattle.lload_names.specs.declared.names.PartName.{PartName}
use Rattle.lload_names.specs.declared.names.PartName.TheVariants.{Client, Desk}
use Rattle.lload_names.specs.declared.names.Posted.{Posted}
use Rattle.lload_names.specs.declared.names.Want.{Want}
use Rattle.lload_names.specs.declared.names.What.{What}
use Rattle.lload_names.specs.declared.names.What.TheVariants as what
use Rattle.lload_spec.specs.Binding.{binding, is_rightly_asked, same_bound, same_want, want_by, want_of}
use Rattle.lload_spec.specs.Entries.{Named, asked, in_message, operation_message}
use Rattle.lload_spec.specs.Journal.{Family, same_op, same_part}
use Rattle.lload_spec.specs.Lists.{passes, where_there}
use Rattle.lload_spec.specs.Operations.{Operation, operation, operation_in, operations}
use Rattle.lload_spec.specs.FirstCheck.{asks_desk, client_facts, lets_go_on}
use Rattle.lload_spec.specs.Settings.{Settings, is_kind}
use Rattle.lload_spec.specs.Strict.{is_ask_due, is_to_ask}
use Rattle.lload_spec.specs.Window.{binding_of}
use Rattle.lload_spec.proofs.Growth.{left, right, both}
use Rattle.lload_laws.specs.ClientGrowth.{new_operation}
use Rattle.lload_laws.proofs.ListLaws.{all_imply, passes_imply}
use Rattle.part_laws.proofs.ListLaws.{eq_eqb, same_number, same_op_eq}
use Rattle.part_laws.proofs.Same.{same_want_refl}
use Rattle.part_spec.specs.ClientState.{ClientState, check_at, client_of, empty_client, facts_of, name_of, new_row, step_client, want_for}
use Rattle.part_spec.specs.Fit.{DeskLedger, are_fit_from, empty_desk_ledger, fits_desk, is_unfit, step_desk_ledger}
use Rattle.part_spec.specs.Gives.{client_gives, client_letters, gives}
use Rattle.part_spec.specs.Laws.{FitIsWhole}
use Rattle.part_spec.specs.Marked.{Marked, Taken, entries, letters_to}
use Rattle.part_spec.specs.Marks.{has_desk_mark, marks_desk, must_mark_desk}
use Rattle.client_laws.proofs.ClientClauses.{Says, nothing_kept, says_more}
use Rattle.client_laws.proofs.ClientTurns.{count_more}
use Rattle.client_answer_laws.proofs.Asks.{going_makes}
use Rattle.joined_laws.proofs.Choices.{all_entries, all_in}
use Rattle.joined_laws.proofs.Taken.{is_fit_there, is_mark_from, was_given}
use Rattle.forward_laws.proofs.Ops.{new_found}
use Rattle.carried_laws.specs.Laws.{Played}
use Rattle.carried_laws.proofs.Letters.{PassesOthers, letters_pass}
use Rattle.carried_laws.proofs.Stays.{Kept, operation_kept}
use Rattle.identity_laws.proofs.Ins.{Ins, steps_push}
use Rattle.identity_laws.specs.Laws.{ClientsAreKnown}
use Rattle.window_laws.specs.Laws.{AsksRightly, OfAsks}
use Rattle.window_laws.proofs.Standing.{StandsAt, ins_stand}

-- whether a letter, where it asks for a connection, asks for an operation that should ask, and for what it should, by its
-- client's list
abbrev is_ask_right : Settings → Family → ℕ → List Entry → Letter → Bool
is_ask_right s F c place (Ask op want) =
    passes (λ o. same_want want (want_of s o) && is_to_ask s F o) (operation_in c place op)
is_ask_right s F c place _ = true

others_right : (s : Settings) (F : Family) (c : ℕ) (place : List Entry) → PassesOthers (is_ask_right s F c place)
others_right s F c place = record { returned = λ op u. refl; drop = λ op. refl; leave = λ op. refl; pause = λ n. refl; resume = λ n. refl }

-- What is known of a client behind each list, fit or not.
record At (c : ℕ) (place : List Entry) (p : ClientState) : Type 0 where
  says : Says c place p
  count : p.count ≡ length (operations c place)

-- The letter that a message asks with.
module _ (s : Settings) (F : Family) (c : ℕ) (before : List Marked) (m : Marked) (ms : List Marked) (h : At c (entries before) (client_of s c before)) (x : Message) (came : m.entry.what ≡ what.In x.id x.rest) (asks : asks_desk s (facts_of (client_of s c before)) x ≡ true) (stands : StandsAt s c before) (known : facts_of (client_of s c before) ≡ client_facts s F c (entries before)) where
  abbrev p : ClientState
  p = client_of s c before

  abbrev place : List Entry
  place = entries before ++ m.entry ∷ entries ms

  abbrev first : Operation
  first = new_operation c (entries before) m.entry x

  abbrev name : OpName
  name = record { client = c; k = suc (length (operations c (entries before))) }

  found : operation_in c (entries before ++ m.entry ∷ []) name ≡ Some first
  found = new_found c (entries before) m.entry x (ap operation_message came ∙ ap (λ b. elim b [ true ↦ Some (record { id = x.id; rest = x.rest }) | false ↦ None ]) (going_makes s p x (left (lets_go_on (check_at s p x)) _ asks)))

  named : name_of p (new_row s p x) ≡ name
  named = λ i. record { client = h.says.number i; k = suc (h.count i) }

  wanted : (o : Operation) → o.name ≡ first.name → o.request ≡ x → o.before ≡ entries before → o.at ≡ m.entry.at → want_of s o ≡ want_for s p m.entry.at x
  wanted o n r b t = (λ i. want_by (r i) (binding s (n i).client (b i) (t i))) ∙ ap (λ w. want_by x (binding_of w m.entry.at)) (sym stands)

  due : (o : Operation) → o.name ≡ first.name → o.request ≡ x → o.before ≡ entries before → is_to_ask s F o ≡ true
  due o n r b = (λ i. asks_desk s (client_facts s F (n i).client (b i)) (r i)) ∙ ap (λ f. asks_desk s f x) (sym known) ∙ asks

  abbrev is_right : Operation → Bool
  is_right o = same_want (want_for s p m.entry.at x) (want_of s o) && is_to_ask s F o

  ask_right : is_ask_right s F c (entries before ++ m.entry ∷ entries ms) (Ask (name_of p (new_row s p x)) (want_for s p m.entry.at x)) ≡ true
  ask_right =
      let kept : Kept c ((entries before ++ m.entry ∷ []) ++ entries ms) name first = operation_kept c (entries before ++ m.entry ∷ []) (entries ms) name first found in
      ap (λ n. passes is_right (operation_in c place n)) named
      ∙ ap (λ l. passes is_right (operation_in c l name)) (sym (append_assoc (entries before) (m.entry ∷ []) (entries ms)))
      ∙ ap (passes is_right) kept.found
      ∙ both (same_want (want_for s p m.entry.at x) (want_of s kept.later)) _ (ap (same_want (want_for s p m.entry.at x)) (wanted kept.later kept.name kept.request kept.before kept.at) ∙ same_want_refl (want_for s p m.entry.at x)) (due kept.later kept.name kept.request kept.before)

-- The walk over a client's list.
module _ (s : Settings) (F : Family) (c : ℕ) (list : List Marked) (known : (before : List Marked) (m : Marked) (behind : List Marked) → list ≡ before ++ m ∷ behind → is_some (in_message m.entry.what) ≡ true → facts_of (client_of s c before) ≡ client_facts s F c (entries before)) where
  abbrev all_right : List Posted → Bool
  all_right xs = list_all (λ (x : Posted). is_ask_right s F c (entries list) x.letter) xs

  asks_right : (before ms : List Marked) → list ≡ before ++ ms → At c (entries before) (client_of s c before) → Ins (StandsAt s c) before ms → all_right (client_gives s (client_of s c before) ms) ≡ true
  asks_right before [] same h ins = refl
  asks_right before (m ∷ ms) same h ins =
      list_all-append (λ (x : Posted). is_ask_right s F c (entries list) x.letter) (client_letters s p m.entry.at m.entry.what) (client_gives s (step_client s p m) ms)
      ∙ both (all_right (client_letters s p m.entry.at m.entry.what)) _
      (letters_pass s (is_ask_right s F c (entries list)) (others_right s F c (entries list)) p (λ r. Unit {0}) (λ r kind holder k e. refl) m.entry.at m.entry.what (λ op a r e k. tt) (λ x e goes. tt) (λ x e asks. one x e asks (ins.0 (came x e)) (known before m ms same (came x e))))
      (subst (λ (q : ClientState). all_right (client_gives s q ms) ≡ true) next (asks_right (before ++ m ∷ []) ms (same ∙ sym (append_assoc before (m ∷ []) ms)) (subst (λ (q : ClientState). At c (entries (before ++ m ∷ [])) q) (sym next) (subst (λ es. At c es (step_client s p m)) (sym grown) (record { says = says_more s c (entries before) p m h.says; count = count_more s c (entries before) m.entry m.mark p h.count }))) ins.1))
    where
      p : ClientState
      p = client_of s c before

      next : client_of s c (before ++ m ∷ []) ≡ step_client s (client_of s c before) m
      next = steps_push s (empty_client c) before m

      grown : entries (before ++ m ∷ []) ≡ entries before ++ m.entry ∷ []
      grown = map-append (λ (y : Marked). y.entry) before (m ∷ [])

      whole : entries list ≡ entries before ++ m.entry ∷ entries ms
      whole = ap entries same ∙ map-append (λ (y : Marked). y.entry) before (m ∷ ms)

      came : (x : Message) → m.entry.what ≡ what.In x.id x.rest → is_some (in_message m.entry.what) ≡ true
      came x e = ap (λ w. is_some (in_message w)) e

      one : (x : Message) → m.entry.what ≡ what.In x.id x.rest → asks_desk s (facts_of (client_of s c before)) x ≡ true → StandsAt s c before → facts_of (client_of s c before) ≡ client_facts s F c (entries before) → is_ask_right s F c (entries list) (Ask (name_of (client_of s c before) (new_row s (client_of s c before) x)) (want_for s (client_of s c before) m.entry.at x)) ≡ true
      one x e asks stands facts = subst (λ l. is_ask_right s F c l (Ask (name_of (client_of s c before) (new_row s (client_of s c before) x)) (want_for s (client_of s c before) m.entry.at x)) ≡ true) (sym whole) (ask_right s F c before m ms h x e asks stands facts)

-- Wants that are the same.
same_kind_eq : (a b : ConnKind) → is_kind a b ≡ true → a ≡ b
same_kind_eq Regular Regular h = refl
same_kind_eq BindKind BindKind h = refl
same_kind_eq Regular BindKind h = absurd (let bad : false ≡ true = h in cc)
same_kind_eq BindKind Regular h = absurd (let bad : false ≡ true = h in cc)

same_bound_eq : (a b : Bound) → same_bound a b ≡ true → a ≡ b
same_bound_eq Free Free h = refl
same_bound_eq (ToBackend m) (ToBackend n) h = ap ToBackend (same_number m n h)
same_bound_eq (ToConnection m) (ToConnection n) h = ap ToConnection (same_number m n h)
same_bound_eq Free (ToBackend n) h = absurd (let bad : false ≡ true = h in cc)
same_bound_eq Free (ToConnection n) h = absurd (let bad : false ≡ true = h in cc)
same_bound_eq (ToBackend m) Free h = absurd (let bad : false ≡ true = h in cc)
same_bound_eq (ToBackend m) (ToConnection n) h = absurd (let bad : false ≡ true = h in cc)
same_bound_eq (ToConnection m) Free h = absurd (let bad : false ≡ true = h in cc)
same_bound_eq (ToConnection m) (ToBackend n) h = absurd (let bad : false ≡ true = h in cc)

same_want_eq : (a b : Want) → same_want a b ≡ true → a ≡ b
same_want_eq a b h =
    let kind : a.kind ≡ b.kind = same_kind_eq a.kind b.kind (left (is_kind a.kind b.kind) _ h) in
    let bound : a.bound ≡ b.bound = same_bound_eq a.bound b.bound (right (is_kind a.kind b.kind) _ h) in
    λ i. record { kind = kind i; bound = bound i }

-- none of what is right is wrong
none_wrong : (t : Letter → Bool) (q : PartName) (xs : List Posted) → list_all (λ (x : Posted). t x.letter) xs ≡ true → list_any (λ l. not (t l)) (letters_to q xs) ≡ false
none_wrong t q [] h = refl
none_wrong t q (x ∷ xs) h = by (same_part q x.to) (none_wrong t q xs (right (t x.letter) _ h))
  where
    by : (b : Bool) → list_any (λ l. not (t l)) (letters_to q xs) ≡ false → list_any (λ l. not (t l)) ((elim b [ true ↦ x.letter ∷ [] | false ↦ [] ]) ++ letters_to q xs) ≡ false
    by true e = ap (λ b. not b || list_any (λ l. not (t l)) (letters_to q xs)) (left (t x.letter) _ h) ∙ e
    by false e = e

-- The marks of the desk.
abbrev is_ask_as : Named Want → Letter → Bool
is_ask_as a (Ask op want) = same_op a.op op && same_want a.value want
is_ask_as a _ = false

abbrev is_marked_so : Option Taken → Named Want → Bool
is_marked_so mark a = is_mark_from (Client a.op.client) (is_ask_as a) mark

module _ (s : Settings) where
  ask_marked : (l : DeskLedger) (op : OpName) (want : Want) (t : Taken) → marks_desk (what.Asked op want) t.letter ≡ true → fits_desk s l t.sender t.letter ≡ true → is_marked_so (Some t) (record { op = op; value = want }) ≡ true
  ask_marked l op want t h k = by t.sender t.letter h k
    where
      of_sender : (sender : PartName) (o : OpName) → same_part sender (Client o.client) ≡ true → same_op op o ≡ true → same_part (Client op.client) sender ≡ true
      of_sender (Client n) o i j = eq_eqb op.client n (same_number op.client o.client (left (op.client == o.client) _ j) ∙ sym (same_number n o.client i))
      of_sender _ o i j = absurd (let bad : false ≡ true = i in cc)

      by : (sender : PartName) (x : Letter) → marks_desk (what.Asked op want) x ≡ true → fits_desk s l sender x ≡ true → is_marked_so (Some (record { sender = sender; letter = x })) (record { op = op; value = want }) ≡ true
      by sender (Ask o w) i j = both (same_part (Client op.client) sender) _ (of_sender sender o (left (same_part sender (Client o.client)) _ j) (left (same_op op o) _ i)) i
      by sender _ i j = absurd (let bad : false ≡ true = i in cc)

  asked_marked : (l : DeskLedger) (w : What) (mark : Option Taken) (rest : Bool) → (elim mark [ None ↦ not (must_mark_desk w) | Some t ↦ marks_desk w t.letter ]) ≡ true → (not (is_unfit (fits_desk s) l mark) && rest) ≡ true → where_there (is_marked_so mark) (asked w) ≡ true
  asked_marked l (what.Asked op want) None rest h k = absurd (let bad : false ≡ true = h in cc)
  asked_marked l (what.Asked op want) (Some t) rest h k = ask_marked l op want t h (is_fit_there (fits_desk s) l t rest k)
  asked_marked l _ mark rest h k = refl

  all_marked : (l : DeskLedger) (ms : List Marked) → list_all has_desk_mark ms ≡ true → are_fit_from (fits_desk s) (step_desk_ledger s) l ms ≡ true → list_all (λ m. where_there (is_marked_so m.mark) (asked m.entry.what)) ms ≡ true
  all_marked l [] h k = refl
  all_marked l (m ∷ ms) h k = both (where_there (is_marked_so m.mark) (asked m.entry.what)) _ (asked_marked l m.entry.what m.mark _ (left (has_desk_mark m) _ h) k) (all_marked (step_desk_ledger s l m) ms (right (has_desk_mark m) _ h) (right (not (is_unfit (fits_desk s) l m.mark)) _ k))

module _ (whole : FitIsWhole) (are_known : ClientsAreKnown) (s : Settings) (F : Family) (marked : PartName → List Marked) (h : Played s F marked) where
  abbrev is_wrong : ℕ → Letter → Bool
  is_wrong c x = not (is_ask_right s F c (F.client c) x)

  given_right : (c : ℕ) → list_all (λ (x : Posted). is_ask_right s F c (F.client c) x.letter) (gives s (Client c) (marked (Client c))) ≡ true
  given_right c = subst (λ l. list_all (λ (x : Posted). is_ask_right s F c l x.letter) (gives s (Client c) (marked (Client c))) ≡ true) (h.joined.shared.same_entries (Client c)) (asks_right s F c (marked (Client c)) (are_known s F marked h c) [] (marked (Client c)) refl (record { says = (nothing_kept s c).says; count = refl }) (ins_stand whole s F marked h c))

  none_taken : (c : ℕ) → list_any (λ m. is_mark_from (Client c) (is_wrong c) m.mark) (marked Desk) ≡ true → false ≡ true
  none_taken c k = sym (none_wrong (is_ask_right s F c (F.client c)) Desk (gives s (Client c) (marked (Client c))) (given_right c)) ∙ was_given s F marked h.joined.linked (Client c) Desk (is_wrong c) k

  abbrev is_so : Want → Operation → Bool
  is_so want o = same_want want (want_of s o) && is_to_ask s F o

  right_so : (m : Marked) (a : Named Want) → is_marked_so m.mark a ≡ true → ((u : Marked → Bool) → u m ≡ true → list_any u (marked Desk) ≡ true) → passes (is_so a.value) (operation F a.op) ≡ true
  right_so m a k there = by m.mark refl k
    where
      c : ℕ
      c = a.op.client

      of_letter : (t : Taken) (x : Letter) → m.mark ≡ Some t → t.letter ≡ x → same_part (Client a.op.client) t.sender ≡ true → is_ask_as a x ≡ true → passes (is_so a.value) (operation F a.op) ≡ true
      of_letter t (Ask op want) e f i j = by_right (is_ask_right s F c (F.client c) (Ask op want)) refl
        where
          op_is : a.op ≡ op
          op_is = same_op_eq a.op op (left (same_op a.op op) _ j)

          want_is : a.value ≡ want
          want_is = same_want_eq a.value want (right (same_op a.op op) _ j)

          by_right : (b : Bool) → is_ask_right s F c (F.client c) (Ask op want) ≡ b → passes (is_so a.value) (operation F a.op) ≡ true
          by_right true r = ap (λ w. passes (is_so w) (operation F a.op)) want_is ∙ ap (λ n. passes (is_so want) (operation_in c (F.client c) n)) op_is ∙ r
          by_right false r = absurd (let bad : false ≡ true = none_taken c (there (λ y. is_mark_from (Client c) (is_wrong c) y.mark) (ap (passes (λ y. same_part (Client c) y.sender && is_wrong c y.letter)) e ∙ both (same_part (Client c) t.sender) _ i (ap (is_wrong c) f ∙ ap not r))) in cc)
      of_letter t _ e f i j = absurd (let bad : false ≡ true = j in cc)

      by : (o : Option Taken) → m.mark ≡ o → is_marked_so o a ≡ true → passes (is_so a.value) (operation F a.op) ≡ true
      by None e j = absurd (let bad : false ≡ true = j in cc)
      by (Some t) e j = of_letter t t.letter e refl (left (same_part (Client a.op.client) t.sender) _ j) (right (same_part (Client a.op.client) t.sender) _ j)

  abbrev is_entry_right : Entry → Bool
  is_entry_right e = where_there (λ a. passes (is_so a.value) (operation F a.op)) (asked e.what)

  one_right : (m : Marked) → where_there (is_marked_so m.mark) (asked m.entry.what) ≡ true → ((u : Marked → Bool) → u m ≡ true → list_any u (marked Desk) ≡ true) → is_entry_right m.entry ≡ true
  one_right m k there = by (asked m.entry.what) k
    where
      by : (o : Option (Named Want)) → where_there (is_marked_so m.mark) o ≡ true → where_there (λ a. passes (is_so a.value) (operation F a.op)) o ≡ true
      by None j = refl
      by (Some a) j = right_so m a j there

  all_right_so : list_all is_entry_right F.desk ≡ true
  all_right_so = subst (λ es. list_all is_entry_right es ≡ true) (h.joined.linked.same_entries Desk) (all_entries is_entry_right (marked Desk) (all_in (λ m. where_there (is_marked_so m.mark) (asked m.entry.what)) (λ m. is_entry_right m.entry) (marked Desk) one_right (all_marked s empty_desk_ledger (marked Desk) (h.joined.linked.marks Desk) (h.joined.fit Desk))))

  -- the two halves
  part_of : (t q : Want → Operation → Bool) → ((w : Want) (o : Operation) → t w o ≡ true → q w o ≡ true) → (e : Entry) → where_there (λ (a : Named Want). passes (t a.value) (operation F a.op)) (asked e.what) ≡ true → where_there (λ (a : Named Want). passes (q a.value) (operation F a.op)) (asked e.what) ≡ true
  part_of t q f e k = by (asked e.what) k
    where
      by : (o : Option (Named Want)) → where_there (λ (a : Named Want). passes (t a.value) (operation F a.op)) o ≡ true → where_there (λ (a : Named Want). passes (q a.value) (operation F a.op)) o ≡ true
      by None j = refl
      by (Some a) j = passes_imply (t a.value) (q a.value) (operation F a.op) (f a.value) j

  pub of_asks : OfAsks s F
  of_asks =
      record {
        rightly = all_imply is_entry_right (is_rightly_asked s F) F.desk (part_of is_so (λ w o. same_want w (want_of s o)) (λ w o k. left (same_want w (want_of s o)) _ k)) all_right_so;
        due = all_imply is_entry_right (is_ask_due s F) F.desk (part_of is_so (λ w o. is_to_ask s F o) (λ w o k. right (same_want w (want_of s o)) _ k)) all_right_so;
      }

pub asked_rightly : FitIsWhole → ClientsAreKnown → AsksRightly
asked_rightly whole are_known s F marked h = of_asks whole are_known s F marked h
