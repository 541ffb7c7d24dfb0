-- Where each letter was fit, a regular connection gives what its turns gave.
use Rattle.std.proofs.Common.{◌≡◌, ℕ, suc, inl, inr, Bool, true, false, ◌==◌, ◌&&◌, not, List, [], ◌∷◌, ◌++◌, refl, ap, ◌∙◌, sym, subst, append_assoc}
use Rattle.std.specs.Prelude.{Option, Some, None, filter, nat_le}
use Rattle.std.specs.List.{list_all}
use Rattle.std.proofs.lemmas.List.{append-nil}
use Rattle.ldap_spec.specs.Bodies.{abandon}
use Rattle.lload_names.specs.declared.names.EndWhy.TheVariants.{TimedOut}
use Rattle.lload_names.specs.declared.names.ConnKind.{ConnKind}
use Rattle.lload_names.specs.declared.names.ConnKind.TheVariants.{Regular, Bind as BindKind}
use Rattle.lload_names.specs.declared.names.Refusal.TheVariants.{C5}
use Rattle.lload_names.specs.declared.names.PartName.{PartName}
use Rattle.lload_names.specs.declared.names.PartName.TheVariants.{Desk, Up as Connection}
use Rattle.lload_names.specs.declared.names.Posted.{Posted}
use Rattle.lload_names.specs.declared.names.Letter.{Letter}
use Rattle.lload_names.specs.declared.names.Letter.TheVariants.{Forward, Drop, Pause, Resume, Ended, IsRetired}
use Rattle.lload_names.specs.declared.names.What.{What}
use Rattle.lload_names.specs.declared.names.What.TheVariants as what
use Rattle.lload_names.specs.declared.inputs.Input.{Input}
use Rattle.lload_names.specs.declared.inputs.Input.TheVariants.{LinkUp, Message as MessageIn, LetterFrom, Tick}
use Rattle.lload_spec.specs.Lists.{passes}
use Rattle.lload_spec.specs.Settings.{Settings, is_kind, is_of_kind}
use Rattle.lload_spec.specs.Journal.{same_op}
use Rattle.lload_spec.specs.Identifiers.{id_for}
use Rattle.lload_spec.specs.CausedUp.{is_past}
use Rattle.part_spec.specs.Marked.{Marked, Taken, entries}
use Rattle.part_spec.specs.Inputs.{Act, also, entries_of, letter_of, to, failed}
use Rattle.part_spec.specs.ConnectionState.{ConnectionState, UpRow, step_connection, is_stopped, is_there, is_holding, row_named}
use Rattle.part_spec.specs.ConnectionTurn.{ended, is_due, giving, goes_down, down_letters, where_so}
use Rattle.part_spec.specs.RegularTurn.{regular_act, regular_rule, link_up, message, letter, drops, expires, expire, ticks, is_own_due}
use Rattle.part_spec.specs.Gives.{connection_gives, connection_letters}
use Rattle.part_spec.specs.Fit.{ConnectionLedger, empty_connection_ledger, step_connection_ledger, fits_connection, ledger_behind as behind}
use Rattle.lload_spec.proofs.Growth.{left, right}
use Rattle.part_laws.proofs.Giving.{gives_more}
use Rattle.part_laws.proofs.FitGiving.{fit_turns_give}
use Rattle.connection_laws.specs.Turns.{connection_event, RegularGives}
use Rattle.connection_laws.proofs.Permits.{state_through}
use Rattle.connection_laws.proofs.Rows.{all_filter, is_sound}
use Rattle.connection_laws.proofs.Apart.{are_apart, is_apart, apart_filter}
use Rattle.connection_laws.proofs.Pieces.{marked_up}
use Rattle.connection_laws.proofs.RegularTicks.{Stays, NamedDue, unmarked, unmarked_more, due_whats, expire_is, named_left, names_none, other_ids, left_rows, left_next, expires_stays, all_due_named}
use Rattle.connection_laws.proofs.RegularAlone.{Alone}
use Rattle.connection_laws.proofs.RegularRowsGive.{abandoned_none}
use Rattle.connection_laws.proofs.RegularGives.{link_gives, message_gives, forward_gives, drop_gives}
use Rattle.connection_laws.proofs.RegularShare.{RegularKeeps, regular_act_is, forward_act, drop_act, stays, nothing_kept, event_keeps}
use Rattle.connection_laws.proofs.Makes.{turn_of, tail_none}
use Rattle.connection_laws.proofs.Through.{number_through}
use Rattle.connection_laws.proofs.Rules.{gives_some}
use Rattle.connection_laws.proofs.Giving.{GivesTurn, giving_gives, drained_gives, so_gives, event_gives, Quiet, quiet_so, quiet_some, quiet_drained, event_quiet}

-- The rows that expire.

-- what these give, with identifiers from this one on
abbrev given_by : Settings → ℕ → ℕ → List UpRow → List Posted
given_by s n id [] = []
given_by s n id (r ∷ rs) = (failed r.op C5 ++ (to Desk (Ended r.op n None) ++ (elim (id == s.id_limit) [ true ↦ to Desk (IsRetired n) | false ↦ [] ]))) ++ given_by s n (suc id) rs

expire_letters : (s : Settings) (p : ConnectionState) (id : ℕ) (rs : List UpRow) → (expire s p id rs).letters ≡ given_by s p.number id rs
expire_letters s p id [] = refl
expire_letters s p id (r ∷ rs) = ap (λ l. (expires s p id r).letters ++ l) (expire_letters s p (suc id) rs)

regular_is : (k : ConnKind) → is_kind BindKind k ≡ false → k ≡ Regular
regular_is Regular h = refl
regular_is BindKind h = absurd (let bad : true ≡ false = h in cc)

-- one row
row_gives : (s : Settings) (u at : ℕ) (before : List Marked) (l : ConnectionLedger) → Stays s u at before l → (r : UpRow) → row_named l.state r.op ≡ Some r → connection_gives s l.state (unmarked l.state.number at (what.Expired r.op ∷ giving s l.state.ids.next (what.Own l.state.ids.next (abandon r.id)))) ≡ (expires s l.state l.state.ids.next r).letters
row_gives s u at before l h r named =
    let next : ConnectionState = step_connection s l.state (marked_up l.state.number at None (what.Expired r.op)) in
    let left_over : List UpRow = filter (λ q. not (same_op r.op q.op)) l.state.rows in
    let tail : connection_gives s next (unmarked l.state.number at (giving s l.state.ids.next (what.Own l.state.ids.next (abandon r.id)))) ≡ (elim (l.state.ids.next == s.id_limit) [ true ↦ to Desk (IsRetired l.state.number) | false ↦ [] ]) = ap (connection_gives s next) (tail_none (entries_of (Connection l.state.number) at (giving s l.state.ids.next (what.Own l.state.ids.next (abandon r.id))))) ∙ giving_gives s l.state.number at next None (what.Own l.state.ids.next (abandon r.id)) l.state.ids.next [] (abandoned_none next (abandon r.id) left_over (names_none u (entries before) r.id left_over (all_filter (is_sound u (entries before)) (λ q. not (same_op r.op q.op)) l.state.rows h.sound) (other_ids r l.state.rows h.apart.apart named))) in
    ap (λ k. (failed r.op C5 ++ elim k [ Regular ↦ ended l.state r.op None | BindKind ↦ [] ]) ++ connection_gives s next (unmarked l.state.number at (giving s l.state.ids.next (what.Own l.state.ids.next (abandon r.id))))) (regular_is l.state.kind h.regular) ∙ ap (λ t. (failed r.op C5 ++ ended l.state r.op None) ++ t) tail ∙ append_assoc (failed r.op C5) (ended l.state r.op None) (elim (l.state.ids.next == s.id_limit) [ true ↦ to Desk (IsRetired l.state.number) | false ↦ [] ])

-- each row in turn
expire_gives : (s : Settings) (u at : ℕ) (rs : List UpRow) (vs : List What) (given : List Posted) (n id : ℕ) (before : List Marked) (l : ConnectionLedger) → Stays s u at before l → l.state.number ≡ n → l.state.ids.next ≡ id → NamedDue s at l.state.rows rs → are_apart rs ≡ true → ((b : List Marked) (k : ConnectionLedger) → Stays s u at b k → k.state.number ≡ n → connection_gives s k.state (unmarked n at vs) ≡ given) → connection_gives s l.state (unmarked n at (due_whats s id rs vs)) ≡ given_by s n id rs ++ given
expire_gives s u at [] vs given n id before l h m i k a end = end before l h m
expire_gives s u at (r ∷ rs) vs given n id before l h m i k a end =
    let w : ℕ = l.state.number in
    let made : List What = giving s l.state.ids.next (what.Own l.state.ids.next (abandon r.id)) in
    let turn : List Marked = unmarked l.state.number at (what.Expired r.op ∷ made) in
    let next : ConnectionLedger = behind (step_connection_ledger s) l turn in
    let due : List Marked = unmarked l.state.number at (due_whats s (suc l.state.ids.next) rs vs) in
    let named : NamedDue s at next.state.rows rs = subst (λ rows. NamedDue s at rows rs) (sym (left_rows s u at before l h r k.0 k.1 (l.state.ids.next == s.id_limit))) (named_left s at r l.state.rows rs (left (list_all (is_apart r) rs) _ a) k.2) in
    let rest : connection_gives s next.state due ≡ given_by s l.state.number (suc l.state.ids.next) rs ++ given = expire_gives s u at rs vs given l.state.number (suc l.state.ids.next) (before ++ turn) next (expires_stays s u at before l h r k.0 k.1) (number_through s turn l) (left_next s u at before l h r k.0 k.1 (l.state.ids.next == s.id_limit)) named (right (list_all (is_apart r) rs) _ a) (λ b q st num. subst (λ v. connection_gives s q.state (unmarked v at vs) ≡ given) (sym m) (end b q st (num ∙ m))) in
    let whole : connection_gives s l.state (unmarked l.state.number at (due_whats s l.state.ids.next (r ∷ rs) vs)) ≡ given_by s l.state.number l.state.ids.next (r ∷ rs) ++ given = ap (connection_gives s l.state) (unmarked_more l.state.number at (what.Expired r.op ∷ made) (due_whats s (suc l.state.ids.next) rs vs)) ∙ gives_more (step_connection s) (λ q x. connection_letters s q x.entry.at x.mark x.entry.what) l.state turn due ∙ ap (λ g. g ++ connection_gives s (behind (step_connection s) l.state turn) due) (row_gives s u at before l h r k.0) ∙ ap (λ q. (expires s l.state l.state.ids.next r).letters ++ connection_gives s q due) (sym (state_through s turn l)) ∙ ap (λ g. (expires s l.state l.state.ids.next r).letters ++ g) rest ∙ sym (append_assoc (expires s l.state l.state.ids.next r).letters (given_by s l.state.number (suc l.state.ids.next) rs) given) in
    subst (λ j. connection_gives s l.state (unmarked n at (due_whats s j (r ∷ rs) vs)) ≡ given_by s n j (r ∷ rs) ++ given) i (subst (λ v. connection_gives s l.state (unmarked v at (due_whats s l.state.ids.next (r ∷ rs) vs)) ≡ given_by s v l.state.ids.next (r ∷ rs) ++ given) m whole)

-- a clock step
tick_gives : (s : Settings) (u at : ℕ) (before : List Marked) (l : ConnectionLedger) → Stays s u at before l → Alone l.state → GivesTurn s l.state l.state.number at None (ticks s l.state at).whats (ticks s l.state at).letters
tick_gives s u at before l h (inl own) =
    let due : List UpRow = filter (is_due s at) l.state.rows in
    let end : Act = goes_down l.state TimedOut in
    let expired : Act = expire s l.state l.state.ids.next due in
    let none : is_own_due s l.state at ≡ false = ap (passes (λ o. is_past s.timeout o.at at)) own in
    let rows : connection_gives s l.state (unmarked l.state.number at (due_whats s l.state.ids.next due [])) ≡ given_by s l.state.number l.state.ids.next due ++ [] = expire_gives s u at due [] [] l.state.number l.state.ids.next before l h refl refl (all_due_named s at l.state.rows h.apart.apart) (apart_filter (is_due s at) l.state.rows h.apart.apart) (λ b k st num. refl) in
    subst (λ b. GivesTurn s l.state l.state.number at None (expired.whats ++ (where_so b end).whats) (expired.letters ++ (where_so b end).letters)) (sym none) (ap (λ ws. connection_gives s l.state (turn_of l.state.number at None ws)) (expire_is s l.state l.state.ids.next due []) ∙ ap (connection_gives s l.state) (sym (tail_none (entries_of (Connection l.state.number) at (due_whats s l.state.ids.next due [])))) ∙ rows ∙ ap (λ g. g ++ []) (sym (expire_letters s l.state l.state.ids.next due)))
tick_gives s u at before l h (inr a) = subst (λ rows. GivesTurn s l.state l.state.number at None ((expire s l.state l.state.ids.next (filter (is_due s at) rows)).whats ++ (where_so (is_own_due s l.state at) (goes_down l.state TimedOut)).whats) ((expire s l.state l.state.ids.next (filter (is_due s at) rows)).letters ++ (where_so (is_own_due s l.state at) (goes_down l.state TimedOut)).letters)) (sym a.1) (by (is_own_due s l.state at))
  where
    by : (b : Bool) → GivesTurn s l.state l.state.number at None (where_so b (goes_down l.state TimedOut)).whats (where_so b (goes_down l.state TimedOut)).letters
    by true = append-nil (down_letters l.state)
    by false = refl

-- The rules by input.
module _ (s : Settings) (u : ℕ) (before : List Marked) (l : ConnectionLedger) (h : RegularKeeps s u before l) (place : is_of_kind s Regular u ≡ true) (at : ℕ) (later : nat_le l.state.moment at ≡ true) where
  abbrev Gives : Option Taken → Act → Type 0
  Gives mark a = GivesTurn s l.state l.state.number at mark a.whats a.letters

  as_number : (mark : Option Taken) (a : Act) → GivesTurn s l.state u at mark a.whats a.letters → GivesTurn s l.state l.state.number at mark a.whats a.letters
  as_number mark a k = subst (λ n. GivesTurn s l.state n at mark a.whats a.letters) (sym h.keeps.stands.number) k

  letter_gives : (sender : PartName) (x : Letter) → Gives (Some (record { sender = sender; letter = x })) (letter s l.state x)
  letter_gives sender (Forward op sort rest ask_who holder) = forward_gives s l.state.number at l.state h.kind sender op holder sort rest ask_who
  letter_gives sender (Drop op) = as_number (Some (record { sender = sender; letter = Drop op })) (drops s l.state op) (drop_gives s u at l.state h.kind (Some (record { sender = sender; letter = Drop op })) op (entries before) h.sound h.apart.apart)
  letter_gives sender (Pause c) = refl
  letter_gives sender (Resume c) = refl
  letter_gives sender _ = refl

  rule_gives : (input : Input) → Gives (letter_of input) (regular_rule s l.state at input)
  rule_gives (LinkUp now) = so_gives s l.state at (not l.state.linked) (link_up s l.state) None (λ e. link_gives s l.state.number at l.state)
  rule_gives (MessageIn now id rest) = so_gives s l.state at (is_there l.state && not (is_holding l.state)) (message l.state at (record { id = id; rest = rest })) None (λ e. as_number None (message l.state at (record { id = id; rest = rest })) (message_gives s u at l.state h.kind (entries before) h.sound h.apart.apart id rest))
  rule_gives (LetterFrom now word sender x) = so_gives s l.state at l.state.linked (letter s l.state x) (Some (record { sender = sender; letter = x })) (λ e. letter_gives sender x)
  rule_gives (Tick now) = so_gives s l.state at (is_there l.state) (ticks s l.state at) None (λ e. tick_gives s u at before l (stays s u before l h place at later e) h.alone)
  rule_gives _ = refl

  input_gives : (input : Input) → Gives (letter_of input) (regular_act s l.state at input)
  input_gives input = drained_gives s l.state at (letter_of input) (regular_rule s l.state at input) (rule_gives input)

-- A turn without entries gives nothing.
no_gift : {C : Type 0} → false ≡ true → C
no_gift h = absurd (let bad : false ≡ true = h in cc)

quiet_letter : (s : Settings) (p : ConnectionState) (x : Letter) → Quiet (letter s p x)
quiet_letter s p (Forward op sort rest ask_who holder) = by (is_stopped p)
  where
    by : (b : Bool) → Quiet (forward_act s p op rest b)
    by true = quiet_some (what.Missed op) [] (forward_act s p op rest true).letters
    by false = λ e. no_gift (gives_some (id_for p.ids == s.id_limit) (what.Sent (id_for p.ids) op rest) e)
quiet_letter s p (Drop op) = by (row_named p op)
  where
    by : (o : Option UpRow) → Quiet (drop_act s p op o)
    by None = quiet_some (what.Idle op) [] []
    by (Some r) = λ e. no_gift (gives_some (p.ids.next == s.id_limit) (what.Own p.ids.next (abandon r.id)) e)
quiet_letter s p (Pause c) = quiet_some (what.Paused c) [] []
quiet_letter s p (Resume c) = quiet_some (what.Resumed c) [] []
quiet_letter s p _ = λ e. refl

quiet_ticks : (s : Settings) (p : ConnectionState) (at : ℕ) → Quiet (ticks s p at)
quiet_ticks s p at = by (filter (is_due s at) p.rows) (is_own_due s p at)
  where
    by : (rs : List UpRow) (b : Bool) → Quiet (also (expire s p p.ids.next rs) (where_so b (goes_down p TimedOut)))
    by [] true = quiet_some (what.Down TimedOut) [] (down_letters p)
    by [] false = λ e. refl
    by (r ∷ rs) b = quiet_some (what.Expired r.op) ((giving s p.ids.next (what.Own p.ids.next (abandon r.id)) ++ (expire s p (suc p.ids.next) rs).whats) ++ (where_so b (goes_down p TimedOut)).whats) (also (expire s p p.ids.next (r ∷ rs)) (where_so b (goes_down p TimedOut))).letters

quiet_rule : (s : Settings) (p : ConnectionState) (at : ℕ) (input : Input) → Quiet (regular_rule s p at input)
quiet_rule s p at (LinkUp now) = quiet_so (not p.linked) (link_up s p) (λ e. absurd (let bad : (link_up s p).whats ≡ [] = e in cc))
quiet_rule s p at (MessageIn now id rest) = quiet_so (is_there p && not (is_holding p)) (message p at (record { id = id; rest = rest })) (λ e. absurd (let bad : (message p at (record { id = id; rest = rest })).whats ≡ [] = e in cc))
quiet_rule s p at (LetterFrom now word sender x) = quiet_so p.linked (letter s p x) (quiet_letter s p x)
quiet_rule s p at (Tick now) = quiet_so (is_there p) (ticks s p at) (quiet_ticks s p at)
quiet_rule s p at _ = λ e. refl

pub regular_gives : RegularGives
regular_gives s u place xs fit = fit_turns_give (fits_connection s) (step_connection_ledger s) (step_connection s) (λ l. l.state) (λ l m. refl) (λ q m. connection_letters s q m.entry.at m.mark m.entry.what) (connection_event s) (RegularKeeps s u) (λ before l x h. event_quiet s l.state (λ at input. regular_act_is Quiet s l.state at input h.kind (quiet_drained s at (letter_of input) l.state (regular_rule s l.state at input) (quiet_rule s l.state at input))) x) (λ before l x h f. event_keeps s u place before l h x f) (λ before l x h f. event_gives s l.state (λ at later input. regular_act_is (λ a. GivesTurn s l.state l.state.number at (letter_of input) a.whats a.letters) s l.state at input h.kind (input_gives s u before l h place at later input)) x) xs [] (empty_connection_ledger s u) (nothing_kept s u place) fit
