-- What the desk's state says is what its list says, entry by entry, for every list.
use Rattle.std.proofs.Common.{◌≡◌, ℕ, ◌+◌, ◌-◌, Bool, true, false, ◌==◌, ◌&&◌, ◌||◌, not, List, [], ◌∷◌, ◌++◌, length, drop, refl, ap, ◌∙◌, sym, subst, append_assoc, arith}
use Rattle.std.specs.Prelude.{Option, Some, None, map, filter, find, cond, if◌then◌else◌}
use Rattle.std.specs.List.{list_any}
use Rattle.std.proofs.lemmas.List.{append-nil, map-append, length-append, length-drop, drop-drop, drop-append-le}
use Rattle.std.proofs.lemmas.Bool.{eq-eqb}
use Rattle.std.proofs.lemmas.List.Elements.{filter-append}
use Rattle.std.proofs.lemmas.List.Folds.{list_any-append}
use Rattle.std.proofs.Math.Bool.{or-false}
use Rattle.lload_names.specs.declared.names.Entry.{Entry}
use Rattle.lload_names.specs.declared.names.OpName.{OpName}
use Rattle.lload_names.specs.declared.names.Answer.{Answer}
use Rattle.lload_names.specs.declared.names.Answer.TheVariants.{Go, Busy, Unavailable}
use Rattle.lload_names.specs.declared.names.Want.{Want}
use Rattle.lload_names.specs.declared.names.Letter.{Letter}
use Rattle.lload_names.specs.declared.names.Letter.TheVariants.{Returned, Ended, IsUp, IsRetired, IsDown}
use Rattle.lload_names.specs.declared.names.What.{What}
use Rattle.lload_names.specs.declared.names.What.TheVariants as what
use Rattle.lload_names.specs.declared.plans.Place.{Place}
use Rattle.lload_spec.specs.Lists.{passes, last}
use Rattle.lload_names.specs.declared.names.ConnKind.{ConnKind}
use Rattle.lload_names.specs.declared.names.ConnKind.TheVariants.{Regular, Bind}
use Rattle.lload_spec.specs.Settings.{Settings, is_kind, is_of_kind, is_of_backend, place_at}
use Rattle.lload_spec.specs.Journal.{same_op}
use Rattle.lload_spec.specs.Entries.{Named, Replan, asked, chose, heard, replanned}
use Rattle.lload_spec.specs.Picks.{last_of}
use Rattle.lload_spec.specs.Order.{goes, go_connection, go_backend, free_goes, free_goes_behind, free_go, is_free, latencies, latency_told, plan_behind, plan_number, behind_plan, since_plan, pending, pending_choice}
use Rattle.lload_spec.specs.News.{tells_over}
use Rattle.part_spec.specs.Marked.{Marked, entries}
use Rattle.part_spec.specs.DeskState.{DeskState, Ring, empty_desk, step_desk, step_desks, desk_behind, in_place_of, share_wheel, with_heard, with_latency, asks_freely}
use Rattle.lload_laws.proofs.ListLaws.{filter-ext}
use Rattle.lload_spec.proofs.Growth.{left, right, both}
use Rattle.part_laws.proofs.ListLaws.{filter-filter, filter-all, last_push, same_number, same_op_sym, eq_eqb, last_moment, end_passes, end_fails, last_more}

-- a list without those that a new one takes the place of, and then that one, has the same last that passes a test as
-- the list with it at its end, where no other one that passes has its place taken
last_kept : (t : ℕ → Bool) (shares : ℕ → Bool) (n : ℕ) (ns : List ℕ) → ((m : ℕ) → shares m ≡ true → t m ≡ true → t n ≡ true) → last (filter t (in_place_of shares n ns)) ≡ last (filter t (ns ++ n ∷ []))
last_kept t shares n ns alike = more (t n) refl
  where
    apart : (b c : Bool) (m : ℕ) → t n ≡ false → t m ≡ b → shares m ≡ c → (b && not c) ≡ b
    apart true true m h k e = absurd (let bad : false ≡ true = sym h ∙ alike m e k in cc)
    apart true false m h k e = refl
    apart false c m h k e = refl

    more : (b : Bool) → t n ≡ b → last (filter t (filter (λ m. not (shares m)) ns ++ n ∷ [])) ≡ last (filter t (ns ++ n ∷ []))
    more true h = end_passes t n (filter (λ m. not (shares m)) ns) h ∙ sym (end_passes t n ns h)
    more false h = ap last (end_fails t n (filter (λ m. not (shares m)) ns) h ∙ filter-filter t (λ m. not (shares m)) ns ∙ filter-ext (λ m. t m && not (shares m)) t ns (λ m. apart (t m) (shares m) m h refl refl) ∙ sym (end_fails t n ns h))

-- whether a connection is of a backend and a kind
abbrev pub is_on_wheel : Settings → ℕ → ConnKind → ℕ → Bool
is_on_wheel s b kind n = is_of_kind s kind n && is_of_backend s b n

-- connections that share a wheel are of the same backend and kind
wheel_alike : (s : Settings) (b : ℕ) (kind : ConnKind) (n m : ℕ) → share_wheel s n m ≡ true → is_on_wheel s b kind m ≡ true → is_on_wheel s b kind n ≡ true
wheel_alike s b kind n m h k = by (place_at s n) (place_at s m) kind h k
  where
    kinds : (k a c : ConnKind) → (is_kind Regular a && is_kind Regular c || is_kind Bind a && is_kind Bind c) ≡ true → is_kind k c ≡ true → is_kind k a ≡ true
    kinds Regular Regular c h k = refl
    kinds Bind Bind c h k = refl
    kinds Regular Bind Regular h k = absurd (let bad : false ≡ true = h in cc)
    kinds Regular Bind Bind h k = absurd (let bad : false ≡ true = k in cc)
    kinds Bind Regular Regular h k = absurd (let bad : false ≡ true = k in cc)
    kinds Bind Regular Bind h k = absurd (let bad : false ≡ true = h in cc)

    backends : (x y : ℕ) → (y == x) ≡ true → (y == b) ≡ true → (x == b) ≡ true
    backends x y h k = eq_eqb x b (sym (same_number y x h) ∙ same_number y b k)

    by : (p q : Option Place) (kind : ConnKind) → ((elim q [ None ↦ false | Some y ↦ y.backend == (elim p [ None ↦ 0 | Some x ↦ x.backend ]) ]) && ((elim p [ None ↦ false | Some x ↦ is_kind Regular x.kind ]) && (elim q [ None ↦ false | Some x ↦ is_kind Regular x.kind ]) || (elim p [ None ↦ false | Some x ↦ is_kind Bind x.kind ]) && (elim q [ None ↦ false | Some x ↦ is_kind Bind x.kind ]))) ≡ true → ((elim q [ None ↦ false | Some x ↦ is_kind kind x.kind ]) && (elim q [ None ↦ false | Some x ↦ x.backend == b ])) ≡ true → ((elim p [ None ↦ false | Some x ↦ is_kind kind x.kind ]) && (elim p [ None ↦ false | Some x ↦ x.backend == b ])) ≡ true
    by None None kind h k = absurd (let bad : false ≡ true = h in cc)
    by (Some x) None kind h k = absurd (let bad : false ≡ true = h in cc)
    by None (Some y) kind h k = absurd (let bad : false ≡ true = right (y.backend == 0) false h in cc)
    by (Some x) (Some y) kind h k = both (is_kind kind x.kind) _ (kinds kind x.kind y.kind (right (y.backend == x.backend) _ h) (left (is_kind kind y.kind) _ k)) (backends x.backend y.backend (left (y.backend == x.backend) _ h) (right (is_kind kind y.kind) _ k))

-- What grows at the end of the desk's list.

-- what was asked before a place, where this was asked before the list
abbrev pub asked_behind : Option (Named Want) → List Entry → Option (Named Want)
asked_behind before [] = before
asked_behind before (x ∷ L) = asked_behind (asked x.what) L

asked_behind_push : (before : Option (Named Want)) (L : List Entry) (e : Entry) → asked_behind before (L ++ e ∷ []) ≡ asked e.what
asked_behind_push before [] e = refl
asked_behind_push before (x ∷ L) e = asked_behind_push (asked x.what) L e

free_goes_grow : (before : Option (Named Want)) (L : List Entry) (e : Entry) → free_goes_behind before (L ++ e ∷ []) ≡ free_goes_behind before L ++ free_go (asked_behind before L) (chose e.what)
free_goes_grow before [] e = append-nil (free_go before (chose e.what))
free_goes_grow before (x ∷ L) e = ap (λ l. free_go before (chose x.what) ++ l) (free_goes_grow (asked x.what) L e) ∙ sym (append_assoc (free_go before (chose x.what)) (free_goes_behind (asked x.what) L) (free_go (asked_behind (asked x.what) L) (chose e.what)))

-- the connection that an entry chooses
abbrev pub went : What → List ℕ
went w = elim (chose w) [ None ↦ [] | Some c ↦ go_connection c.value ]

goes_grow : (L : List Entry) (e : Entry) → goes (L ++ e ∷ []) ≡ goes L ++ went e.what
goes_grow [] e = append-nil (elim (chose e.what) [ None ↦ [] | Some c ↦ go_connection c.value ])
goes_grow (x ∷ L) e = ap (λ l. went x.what ++ l) (goes_grow L e) ∙ sym (append_assoc (went x.what) (goes L) (went e.what))

abbrev pub told : Settings → ℕ → What → List ℕ
told s b w = elim (heard w) [ None ↦ [] | Some l ↦ latency_told s b l ]

latencies_grow : (s : Settings) (b : ℕ) (L : List Entry) (e : Entry) → latencies s b (L ++ e ∷ []) ≡ latencies s b L ++ told s b e.what
latencies_grow s b [] e = append-nil (elim (heard e.what) [ None ↦ [] | Some l ↦ latency_told s b l ])
latencies_grow s b (x ∷ L) e = ap (λ l. told s b x.what ++ l) (latencies_grow s b L e) ∙ sym (append_assoc (told s b x.what) (latencies s b L) (told s b e.what))

-- the choices that are pending, with their operations
abbrev pub named_go : OpName → Answer → List (Named ℕ)
named_go op (Go n b) = record { op = op; value = n } ∷ []
named_go op _ = []

abbrev pub left_over : Option (Named Answer) → List Entry → List (Named ℕ)
left_over None later = []
left_over (Some c) later = if list_any (λ e. passes (tells_over c.op) (heard e.what)) later then [] else named_go c.op c.value

abbrev pub pendings : List Entry → List (Named ℕ)
pendings [] = []
pendings (e ∷ es) = left_over (chose e.what) es ++ pendings es

-- whether an entry says that an operation ended
abbrev pub ends : What → OpName → Bool
ends w op = passes (tells_over op) (heard w)

-- the choice that an entry makes
abbrev pub newly : Option (Named Answer) → List (Named ℕ)
newly None = []
newly (Some c) = named_go c.op c.value

named_values : (op : OpName) (a : Answer) → go_connection a ≡ map (λ x. x.value) (named_go op a)
named_values op (Go n b) = refl
named_values op Busy = refl
named_values op Unavailable = refl

pub pending_values : (L : List Entry) → pending L ≡ map (λ x. x.value) (pendings L)
pending_values [] = refl
pending_values (e ∷ es) = ap (λ l. l ++ pending es) (value_of (chose e.what)) ∙ ap (λ l. map (λ x. x.value) (left_over (chose e.what) es) ++ l) (pending_values es) ∙ sym (map-append (λ x. x.value) (left_over (chose e.what) es) (pendings es))
  where
    by : (b : Bool) (c : Named Answer) → cond b [] (go_connection c.value) ≡ map (λ x. x.value) (cond b [] (named_go c.op c.value))
    by true c = refl
    by false c = named_values c.op c.value

    value_of : (c : Option (Named Answer)) → pending_choice c es ≡ map (λ x. x.value) (left_over c es)
    value_of None = refl
    value_of (Some c) = by (list_any (λ x. passes (tells_over c.op) (heard x.what)) es) c

named_filtered : (w : What) (op : OpName) (a : Answer) (b : Bool) → ends w op ≡ b → filter (λ x. not (ends w x.op)) (named_go op a) ≡ cond b [] (named_go op a)
named_filtered w op (Go n k) true h = ap (λ b. cond (not b) (record { op = op; value = n } ∷ []) []) h
named_filtered w op (Go n k) false h = ap (λ b. cond (not b) (record { op = op; value = n } ∷ []) []) h
named_filtered w op Busy true h = refl
named_filtered w op Busy false h = refl
named_filtered w op Unavailable true h = refl
named_filtered w op Unavailable false h = refl

left_grows : (c : Option (Named Answer)) (es : List Entry) (e : Entry) → left_over c (es ++ e ∷ []) ≡ filter (λ x. not (ends e.what x.op)) (left_over c es)
left_grows None es e = refl
left_grows (Some c) es e = ap (λ b. cond b [] (named_go c.op c.value)) (list_any-append (λ x. passes (tells_over c.op) (heard x.what)) es (e ∷ [])) ∙ by (list_any (λ x. passes (tells_over c.op) (heard x.what)) es) (ends e.what c.op) refl
  where
    by : (a b : Bool) → ends e.what c.op ≡ b → cond (a || (ends e.what c.op || false)) [] (named_go c.op c.value) ≡ filter (λ x. not (ends e.what x.op)) (cond a [] (named_go c.op c.value))
    by true b h = refl
    by false b h = ap (λ x. cond x [] (named_go c.op c.value)) (or-false (ends e.what c.op) ∙ h) ∙ sym (named_filtered e.what c.op c.value b h)

pendings_grow : (L : List Entry) (e : Entry) → pendings (L ++ e ∷ []) ≡ filter (λ x. not (ends e.what x.op)) (pendings L) ++ newly (chose e.what)
pendings_grow [] e = append-nil (left_over (chose e.what) []) ∙ first (chose e.what)
  where
    first : (c : Option (Named Answer)) → left_over c [] ≡ newly c
    first None = refl
    first (Some c) = refl
pendings_grow (x ∷ L) e = ap (λ l. l ++ pendings (L ++ e ∷ [])) (left_grows (chose x.what) L e) ∙ ap (λ l. filter (λ y. not (ends e.what y.op)) (left_over (chose x.what) L) ++ l) (pendings_grow L e) ∙ sym (append_assoc (filter (λ y. not (ends e.what y.op)) (left_over (chose x.what) L)) (filter (λ y. not (ends e.what y.op)) (pendings L)) (newly (chose e.what))) ∙ ap (λ l. l ++ newly (chose e.what)) (sym (filter-append (λ y. not (ends e.what y.op)) (left_over (chose x.what) L) (pendings L)))

-- What the state gains at an entry.

pub pending_step : (s : Settings) (p : DeskState) (w : What) → (desk_behind s p w).pending ≡ filter (λ x. not (ends w x.op)) p.pending ++ newly (chose w)
pending_step s p (what.Chose op (Go n b) word) = ap (λ l. l ++ record { op = op; value = n } ∷ []) (sym (filter-all (λ x. true) p.pending (λ x. refl)))
pending_step s p (what.Heard (Ended op u latency)) = filter-ext (λ x. not (same_op op x.op)) (λ x. not (same_op x.op op || false)) p.pending (λ x. ap not (same_op_sym op x.op ∙ sym (or-false (same_op x.op op)))) ∙ sym (append-nil (filter (λ x. not (same_op x.op op || false)) p.pending))
pending_step s p (what.Heard (Returned op u)) = filter-ext (λ x. not (same_op op x.op)) (λ x. not (same_op x.op op)) p.pending (λ x. ap not (same_op_sym op x.op)) ∙ sym (append-nil (filter (λ x. not (same_op x.op op)) p.pending))
pending_step s p _ = sym (append-nil (filter (λ x. true) p.pending) ∙ filter-all (λ x. true) p.pending (λ x. refl))

-- what chooses no connection is no free choice
none_free : (a : Option (Named Want)) (c : Option (Named Answer)) → newly c ≡ [] → free_go a c ≡ []
none_free None c h = refl
none_free (Some a) None h = refl
none_free (Some a) (Some c) h = by c.value h (same_op a.op c.op && is_free a.value.bound)
  where
    by : (v : Answer) → named_go c.op v ≡ [] → (b : Bool) → cond b (go_backend v) [] ≡ []
    by (Go n k) h b = absurd (let bad : record { op = c.op; value = n } ∷ [] ≡ [] = h in cc)
    by Busy h true = refl
    by Busy h false = refl
    by Unavailable h true = refl
    by Unavailable h false = refl

same_more : (t : ℕ → Bool) (xs got more : List ℕ) → more ≡ [] → last (filter t xs) ≡ last (filter t got) → last (filter t xs) ≡ last (filter t (got ++ more))
same_more t xs got more e h = h ∙ ap (λ l. last (filter t l)) (sym (append-nil got) ∙ ap (λ l. got ++ l) (sym e))

-- a letter changes no pick
heard_backends : (s : Settings) (l : Letter) (p : DeskState) → (with_heard s l p).last_backends ≡ p.last_backends
heard_backends s (IsUp u) p = refl
heard_backends s _ p = refl

heard_connections : (s : Settings) (l : Letter) (p : DeskState) → (with_heard s l p).last_connections ≡ p.last_connections
heard_connections s (IsUp u) p = refl
heard_connections s _ p = refl

-- What an entry says that takes no other plan.

backends_step : (s : Settings) (p : DeskState) (w : What) (t : ℕ → Bool) (got : List ℕ) → replanned w ≡ None → last (filter t p.last_backends) ≡ last (filter t got) → last (filter t (desk_behind s p w).last_backends) ≡ last (filter t (got ++ free_go p.asked (chose w)))
backends_step s p (what.Replanned k base) t got stay h = absurd (let bad : Some (record { number = k; base = base }) ≡ None = stay in cc)
backends_step s p (what.Chose op (Go n b) word) t got stay h = by p.asked
  where
    freely : (c : Bool) → last (filter t (cond c (in_place_of (λ m. m == b) b p.last_backends) p.last_backends)) ≡ last (filter t (got ++ cond c (b ∷ []) []))
    freely true = last_kept t (λ m. m == b) b p.last_backends (λ m e k. ap t (sym (same_number m b e)) ∙ k) ∙ last_more t b p.last_backends got h
    freely false = h ∙ ap (λ l. last (filter t l)) (sym (append-nil got))

    by : (a : Option (Named Want)) → last (filter t (cond (asks_freely op a) (in_place_of (λ m. m == b) b p.last_backends) p.last_backends)) ≡ last (filter t (got ++ free_go a (Some (record { op = op; value = Go n b }))))
    by None = freely false
    by (Some a) = freely (same_op a.op op && is_free a.value.bound)
backends_step s p (what.Heard l) t got stay h = ap (λ xs. last (filter t xs)) (heard_backends s l p) ∙ same_more t p.last_backends got (free_go p.asked None) (none_free p.asked None refl) h
backends_step s p (what.Chose op Busy word) t got stay h = same_more t p.last_backends got (free_go p.asked (Some (record { op = op; value = Busy }))) (none_free p.asked (Some (record { op = op; value = Busy })) refl) h
backends_step s p (what.Chose op Unavailable word) t got stay h = same_more t p.last_backends got (free_go p.asked (Some (record { op = op; value = Unavailable }))) (none_free p.asked (Some (record { op = op; value = Unavailable })) refl) h
backends_step s p _ t got stay h = same_more t p.last_backends got (free_go p.asked None) (none_free p.asked None refl) h

connections_step : (s : Settings) (p : DeskState) (w : What) (b : ℕ) (kind : ConnKind) (got : List ℕ) → replanned w ≡ None → last (filter (is_on_wheel s b kind) p.last_connections) ≡ last (filter (is_on_wheel s b kind) got) → last (filter (is_on_wheel s b kind) (desk_behind s p w).last_connections) ≡ last (filter (is_on_wheel s b kind) (got ++ went w))
connections_step s p (what.Replanned k base) b kind got stay h = absurd (let bad : Some (record { number = k; base = base }) ≡ None = stay in cc)
connections_step s p (what.Chose op (Go n c) word) b kind got stay h = last_kept (is_on_wheel s b kind) (share_wheel s n) n p.last_connections (λ m e k. wheel_alike s b kind n m e k) ∙ last_more (is_on_wheel s b kind) n p.last_connections got h
connections_step s p (what.Heard l) b kind got stay h = ap (λ xs. last (filter (is_on_wheel s b kind) xs)) (heard_connections s l p) ∙ same_more (is_on_wheel s b kind) p.last_connections got [] refl h
connections_step s p _ b kind got stay h = same_more (is_on_wheel s b kind) p.last_connections got [] refl h

-- The latencies of a backend.

-- the latencies that the rings have of a backend
abbrev pub latencies_in : Option Ring → List ℕ
latencies_in None = []
latencies_in (Some r) = r.latencies

abbrev pub ring_of : ℕ → List Ring → List ℕ
ring_of b rings = latencies_in (find (λ r. r.backend == b) rings)

-- the last of the last and one more
last_again : (xs : List ℕ) (x : ℕ) → last_of 16 (last_of 16 xs ++ x ∷ []) ≡ last_of 16 (xs ++ x ∷ [])
last_again xs x =
    let k : ℕ = length xs - 16 in
    let short : length (drop k xs) ≡ length xs - k = length-drop k xs in
    let inner : drop k xs ++ x ∷ [] ≡ drop k (xs ++ x ∷ []) = sym (drop-append-le k xs (x ∷ []) (omega arith)) in
    let one : length (drop k xs ++ x ∷ []) ≡ length (drop k xs) + 1 = length-append (drop k xs) (x ∷ []) in
    let all : length (xs ++ x ∷ []) ≡ length xs + 1 = length-append xs (x ∷ []) in
    let count : k + (length (drop k xs ++ x ∷ []) - 16) ≡ length (xs ++ x ∷ []) - 16 = omega arith in
    ap (λ l. drop (length (drop k xs ++ x ∷ []) - 16) l) inner ∙ drop-drop (length (drop k xs ++ x ∷ []) - 16) k (xs ++ x ∷ []) ∙ ap (λ n. drop n (xs ++ x ∷ [])) count

with_latency_step : (b c x : ℕ) (rings : List Ring) → ring_of b (with_latency c x rings) ≡ (if c == b then last_of 16 (ring_of b rings ++ x ∷ []) else ring_of b rings)
with_latency_step b c x [] = more (c == b)
  where
    more : (d : Bool) → latencies_in (if d then Some (record { backend = c; latencies = x ∷ [] }) else None) ≡ (if d then last_of 16 (x ∷ []) else [])
    more true = refl
    more false = refl
with_latency_step b c x (r ∷ rs) = more (r.backend == c) (r.backend == b) (c == b) refl refl refl (with_latency_step b c x rs)
  where
    longer : Ring
    longer = record r { latencies = last_of 16 (r.latencies ++ x ∷ []) }

    more : (d e f : Bool) → (r.backend == c) ≡ d → (r.backend == b) ≡ e → (c == b) ≡ f → ring_of b (with_latency c x rs) ≡ (if f then last_of 16 (ring_of b rs ++ x ∷ []) else ring_of b rs) → ring_of b (elim d [ true ↦ longer ∷ rs | false ↦ r ∷ with_latency c x rs ]) ≡ (if f then last_of 16 (latencies_in (if e then Some r else find (λ q. q.backend == b) rs) ++ x ∷ []) else latencies_in (if e then Some r else find (λ q. q.backend == b) rs))
    more true true true h k l ih = ap (λ y. latencies_in (if y then Some longer else find (λ q. q.backend == b) rs)) k
    more true false false h k l ih = ap (λ y. latencies_in (if y then Some longer else find (λ q. q.backend == b) rs)) k
    more true true false h k l ih = let same : r.backend ≡ c = same_number r.backend c h in absurd (let bad : true ≡ false = sym k ∙ ap (λ n. n == b) same ∙ l in cc)
    more true false true h k l ih = let same : r.backend ≡ c = same_number r.backend c h in absurd (let bad : false ≡ true = sym k ∙ ap (λ n. n == b) same ∙ l in cc)
    more false true true h k l ih = let same : r.backend ≡ b = same_number r.backend b k in let one : c ≡ b = same_number c b l in absurd (let bad : false ≡ true = sym h ∙ eq-eqb r.backend c (same ∙ sym one) in cc)
    more false true false h k l ih = ap (λ y. latencies_in (if y then Some r else find (λ q. q.backend == b) (with_latency c x rs))) k
    more false false f h k l ih = ap (λ y. latencies_in (if y then Some r else find (λ q. q.backend == b) (with_latency c x rs))) k ∙ ih

-- a latency that the desk hears
abbrev told_by : Option Place → Option ℕ → List Ring → List Ring
told_by place None rings = rings
told_by place (Some latency) rings = elim place [ None ↦ rings | Some q ↦ with_latency q.backend latency rings ]

told_step : (b : ℕ) (place : Option Place) (latency : Option ℕ) (rings : List Ring) (before told : List ℕ) → told ≡ (elim latency [ None ↦ [] | Some x ↦ if elim place [ None ↦ false | Some q ↦ q.backend == b ] then x ∷ [] else [] ]) → ring_of b rings ≡ last_of 16 before → ring_of b (told_by place latency rings) ≡ last_of 16 (before ++ told)
told_step b None None rings before told e h = h ∙ ap (last_of 16) (sym (append-nil before) ∙ ap (λ l. before ++ l) (sym e))
told_step b None (Some x) rings before told e h = h ∙ ap (last_of 16) (sym (append-nil before) ∙ ap (λ l. before ++ l) (sym e))
told_step b (Some q) None rings before told e h = h ∙ ap (last_of 16) (sym (append-nil before) ∙ ap (λ l. before ++ l) (sym e))
told_step b (Some q) (Some x) rings before told e h = with_latency_step b q.backend x rings ∙ more (q.backend == b) e
  where
    more : (d : Bool) → told ≡ (if d then x ∷ [] else []) → (if d then last_of 16 (ring_of b rings ++ x ∷ []) else ring_of b rings) ≡ last_of 16 (before ++ told)
    more true k = ap (λ l. last_of 16 (l ++ x ∷ [])) h ∙ last_again before x ∙ ap (λ l. last_of 16 (before ++ l)) (sym k)
    more false k = h ∙ ap (last_of 16) (sym (append-nil before) ∙ ap (λ l. before ++ l) (sym k))

untold : (b : ℕ) (rings : List Ring) (before told : List ℕ) → told ≡ [] → ring_of b rings ≡ last_of 16 before → ring_of b rings ≡ last_of 16 (before ++ told)
untold b rings before told e h = h ∙ ap (last_of 16) (sym (append-nil before) ∙ ap (λ l. before ++ l) (sym e))

rings_step : (s : Settings) (p : DeskState) (w : What) (b : ℕ) (before : List ℕ) → replanned w ≡ None → ring_of b p.rings ≡ last_of 16 before → ring_of b (desk_behind s p w).rings ≡ last_of 16 (before ++ told s b w)
rings_step s p (what.Replanned k base) b before stay h = absurd (let bad : Some (record { number = k; base = base }) ≡ None = stay in cc)
rings_step s p (what.Heard (Ended op u None)) b before stay h = told_step b (place_at s u) None p.rings before [] refl h
rings_step s p (what.Heard (Ended op u (Some x))) b before stay h = told_step b (place_at s u) (Some x) p.rings before (latency_told s b (Ended op u (Some x))) refl h
rings_step s p (what.Chose op (Go n k) word) b before stay h = untold b p.rings before [] refl h
rings_step s p (what.Heard (IsUp u)) b before stay h = untold b p.rings before [] refl h
rings_step s p _ b before stay h = untold b p.rings before [] refl h

-- What an entry says that takes another plan.

abbrev after_plan : What → ℕ → ℕ
after_plan w k = elim (replanned w) [ None ↦ k | Some r ↦ r.number ]

plan_step : (s : Settings) (p : DeskState) (w : What) → (desk_behind s p w).plan ≡ after_plan w p.plan
plan_step s p (what.Chose op (Go n b) word) = refl
plan_step s p (what.Heard (IsUp u)) = refl
plan_step s p (what.Heard (IsRetired u)) = refl
plan_step s p (what.Heard (IsDown u)) = refl
plan_step s p (what.Heard (Returned op u)) = refl
plan_step s p (what.Heard (Ended op u latency)) = refl
plan_step s p _ = refl

plan_push : (k : ℕ) (L : List Entry) (e : Entry) → plan_behind k (L ++ e ∷ []) ≡ after_plan e.what (plan_behind k L)
plan_push k [] e = refl
plan_push k (x ∷ L) e = plan_push (after_plan x.what k) L e

abbrev after_since : Entry → List Entry → List Entry
after_since e S = elim (replanned e.what) [ None ↦ S ++ e ∷ [] | Some r ↦ [] ]

since_push : (before L : List Entry) (e : Entry) → behind_plan before (L ++ e ∷ []) ≡ after_since e (behind_plan before L)
since_push before [] e = refl
since_push before (x ∷ L) e = since_push (after_since x before) L e

-- nothing that was chosen or heard of latencies before counts behind it
record Cleared (p : DeskState) : Type 0 where
  backends : p.last_backends ≡ []
  connections : p.last_connections ≡ []
  rings : p.rings ≡ []

cleared : (s : Settings) (p : DeskState) (w : What) (r : Replan) → replanned w ≡ Some r → Cleared (desk_behind s p w)
cleared s p (what.Replanned k base) r e = record { backends = refl; connections = refl; rings = refl }
cleared s p _ r e = absurd (let bad : None ≡ Some r = e in cc)

asked_replan : (w : What) (r : Replan) → replanned w ≡ Some r → asked w ≡ None
asked_replan (what.Replanned k base) r e = refl
asked_replan (what.Asked op want) r e = absurd (let bad : None ≡ Some r = e in cc)
asked_replan _ r e = refl

-- What a state says of a list: the plan, what is asked, what is pending, what was picked, the latencies of each backend, the
-- moment.
pub record StateSays (s : Settings) (place : List Entry) (p : DeskState) : Type 0 where
  pub moment : p.moment ≡ last_moment place
  pub plan : p.plan ≡ plan_number place
  pub asked : p.asked ≡ asked_behind None (since_plan place)
  pub pending : p.pending ≡ pendings place
  pub backends : (t : ℕ → Bool) → last (filter t p.last_backends) ≡ last (filter t (free_goes (since_plan place)))
  pub connections : (b : ℕ) (kind : ConnKind) → last (filter (is_on_wheel s b kind) p.last_connections) ≡ last (filter (is_on_wheel s b kind) (goes (since_plan place)))
  pub rings : (b : ℕ) → ring_of b p.rings ≡ last_of 16 (latencies s b (since_plan place))

pub says_nothing : (s : Settings) → StateSays s [] empty_desk
says_nothing s = record { moment = refl; plan = refl; asked = refl; pending = refl; backends = λ t. refl; connections = λ b kind. refl; rings = λ b. refl }

-- behind an entry
pub says_more : (s : Settings) (place : List Entry) (p : DeskState) (m : Marked) → StateSays s place p → StateSays s (place ++ m.entry ∷ []) (step_desk s p m)
says_more s place p m h = more (replanned m.entry.what) refl
  where
    moment_of_it : m.entry.at ≡ last_moment (place ++ m.entry ∷ [])
    moment_of_it = ap (λ o. elim o [ None ↦ 0 | Some e ↦ e.at ]) (sym (last_push place m.entry))

    plan_of_it : (desk_behind s p m.entry.what).plan ≡ plan_number (place ++ m.entry ∷ [])
    plan_of_it = plan_step s p m.entry.what ∙ ap (after_plan m.entry.what) h.plan ∙ sym (plan_push 1 place m.entry)

    pending_of_it : (desk_behind s p m.entry.what).pending ≡ pendings (place ++ m.entry ∷ [])
    pending_of_it = pending_step s p m.entry.what ∙ ap (λ l. filter (λ x. not (ends m.entry.what x.op)) l ++ newly (chose m.entry.what)) h.pending ∙ sym (pendings_grow place m.entry)

    more : (r : Option Replan) → replanned m.entry.what ≡ r → StateSays s (place ++ m.entry ∷ []) (step_desk s p m)
    more None k =
        let since : since_plan (place ++ m.entry ∷ []) ≡ since_plan place ++ m.entry ∷ [] = since_push [] place m.entry ∙ ap (λ r. elim r [ None ↦ since_plan place ++ m.entry ∷ [] | Some x ↦ [] ]) k in
        record {
          moment = moment_of_it;
          plan = plan_of_it;
          asked = sym (asked_behind_push None (since_plan place) m.entry) ∙ ap (asked_behind None) (sym since);
          pending = pending_of_it;
          backends = λ t. backends_step s p m.entry.what t (free_goes (since_plan place)) k (h.backends t) ∙ ap (λ a. last (filter t (free_goes (since_plan place) ++ free_go a (chose m.entry.what)))) h.asked ∙ ap (λ l. last (filter t l)) (sym (free_goes_grow None (since_plan place) m.entry)) ∙ ap (λ l. last (filter t (free_goes l))) (sym since);
          connections = λ b kind. connections_step s p m.entry.what b kind (goes (since_plan place)) k (h.connections b kind) ∙ ap (λ l. last (filter (is_on_wheel s b kind) l)) (sym (goes_grow (since_plan place) m.entry)) ∙ ap (λ l. last (filter (is_on_wheel s b kind) (goes l))) (sym since);
          rings = λ b. rings_step s p m.entry.what b (latencies s b (since_plan place)) k (h.rings b) ∙ ap (last_of 16) (sym (latencies_grow s b (since_plan place) m.entry)) ∙ ap (λ l. last_of 16 (latencies s b l)) (sym since);
        }
    more (Some r) k =
        let since : since_plan (place ++ m.entry ∷ []) ≡ [] = since_push [] place m.entry ∙ ap (λ r. elim r [ None ↦ since_plan place ++ m.entry ∷ [] | Some x ↦ [] ]) k in
        let clear : Cleared (desk_behind s p m.entry.what) = cleared s p m.entry.what r k in
        record {
          moment = moment_of_it;
          plan = plan_of_it;
          asked = asked_replan m.entry.what r k ∙ ap (asked_behind None) (sym since);
          pending = pending_of_it;
          backends = λ t. ap (λ l. last (filter t l)) clear.backends ∙ ap (λ l. last (filter t (free_goes l))) (sym since);
          connections = λ b kind. ap (λ l. last (filter (is_on_wheel s b kind) l)) clear.connections ∙ ap (λ l. last (filter (is_on_wheel s b kind) (goes l))) (sym since);
          rings = λ b. ap (ring_of b) clear.rings ∙ ap (λ l. last_of 16 (latencies s b l)) (sym since);
        }

-- behind some entries
pub says_all : (s : Settings) (ms : List Marked) (place : List Entry) (p : DeskState) → StateSays s place p → StateSays s (place ++ entries ms) (step_desks s p ms)
says_all s [] place p h = subst (λ l. StateSays s l p) (sym (append-nil place)) h
says_all s (m ∷ ms) place p h = subst (λ l. StateSays s l (step_desks s (step_desk s p m) ms)) (append_assoc place (m.entry ∷ []) (entries ms)) (says_all s ms (place ++ m.entry ∷ []) (step_desk s p m) (says_more s place p m h))
