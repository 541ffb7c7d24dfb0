-- What some choices come to, and what one more choice or an entry behind them makes of it.
use Rattle.std.proofs.Common.{◌≡◌, ℕ, zero, suc, subst, ◌+◌, ◌-◌, max, Bool, true, false, ◌&&◌, not, List, [], ◌∷◌, ◌++◌, refl, ap, ◌∙◌, sym, length, append_assoc, arith}
use Rattle.std.specs.Prelude.{⊤, Option, Some, None, map, filter, cond, is_none}
use Rattle.std.specs.Option.{option_or}
use Rattle.std.proofs.lemmas.List.{append-nil, length-append}
use Rattle.std.proofs.lemmas.List.Elements.{filter-append}
use Rattle.ldap_spec.specs.Messages.{Message}
use Rattle.lload_names.specs.declared.names.Entry.{Entry}
use Rattle.lload_spec.specs.Lists.{first, last}
use Rattle.lload_spec.specs.Settings.{Settings, Action, Ignore, Write, BindBackend, BindConnection, Reject, backend_of}
use Rattle.lload_spec.specs.Operations.{Operation, Manner, Ending, ending, ending_from, ending_or, manner_of, is_live}
use Rattle.lload_spec.specs.Binding.{Choice, action, is_action, with_action, latest_end, connection_of, backend_by, live_count, standing_by}
use Rattle.lload_spec.specs.BindingCalls.{Call, WriteEnded, Standing}
use Rattle.lload_spec.specs.ClientCalls.{hold_of, call_by, call_of, calls_for, end_calls, is_ended_by}
use Rattle.lload_spec.specs.Laws.{extended}
use Rattle.lload_spec.proofs.Growth.{end_stays}
use Rattle.lload_spec.proofs.Pushed.{after}
use Rattle.lload_laws.proofs.ListLaws.{filter-map}

-- what some calls make of what the calls before them come to
abbrev pub after_all : List Call → Standing → Standing
after_all [] w = w
after_all (c ∷ cs) w = after_all cs (after c w)

pub after_append : (cs ds : List Call) (w : Standing) → after_all (cs ++ ds) w ≡ after_all ds (after_all cs w)
after_append [] ds w = refl
after_append (c ∷ cs) ds w = after_append cs ds (after c w)

-- what the choices that bind to connections, that bind to backends, and that write say of the window
abbrev standing_with : Settings → List Choice → List Choice → List Choice → Standing
standing_with s cs bs ws = record { seconds = s.write_coherence; connection = connection_of (first cs); backend = backend_by s (first bs); write = backend_by s (last ws); live = live_count ws; ended = latest_end 0 ws }

-- one more choice
with-push : (s : Settings) (a : Action) (xs : List Choice) (x : Choice) (b : Bool) → is_action a (action s x.operation.request.rest) ≡ b → with_action s a (xs ++ x ∷ []) ≡ with_action s a xs ++ cond b (x ∷ []) []
with-push s a xs x b e = filter-append (λ y. is_action a (action s y.operation.request.rest)) xs (x ∷ []) ∙ ap (λ c. with_action s a xs ++ cond c (x ∷ []) []) e

with-same : (s : Settings) (a : Action) (xs : List Choice) (x : Choice) → is_action a (action s x.operation.request.rest) ≡ false → with_action s a (xs ++ x ∷ []) ≡ with_action s a xs
with-same s a xs x e = with-push s a xs x false e ∙ append-nil (with_action s a xs)

connection-push : (xs : List Choice) (x : Choice) → connection_of (first (xs ++ x ∷ [])) ≡ option_or (connection_of (first xs)) (Some x.connection)
connection-push [] x = refl
connection-push (y ∷ ys) x = refl

backend-push : (s : Settings) (xs : List Choice) (x : Choice) → backend_by s (first (xs ++ x ∷ [])) ≡ option_or (backend_by s (first xs)) (Some (backend_of s x.connection))
backend-push s [] x = refl
backend-push s (y ∷ ys) x = refl

last-push : (s : Settings) (xs : List Choice) (x : Choice) → backend_by s (last (xs ++ x ∷ [])) ≡ Some (backend_of s x.connection)
last-push s [] x = refl
last-push s (y ∷ []) x = refl
last-push s (y ∷ z ∷ zs) x = last-push s (z ∷ zs) x

abbrev live_of : List Choice → List Choice
live_of xs = filter (λ x. is_live x.operation) xs

live-push : (xs : List Choice) (x : Choice) → is_live x.operation ≡ true → live_count (xs ++ x ∷ []) ≡ live_count xs + 1
live-push xs x l = ap length (filter-append (λ y. is_live y.operation) xs (x ∷ []) ∙ ap (λ b. live_of xs ++ cond b (x ∷ []) []) l) ∙ length-append (live_of xs) (x ∷ [])

none-of : {A : Type 0} (o : Option A) → is_none o ≡ true → o ≡ None
none-of None h = refl
none-of (Some x) h = absurd (let bad : false ≡ true = h in cc)

-- the latest moment, behind one more choice
abbrev later_than : ℕ → Option Ending → ℕ
later_than at o = elim o [ None ↦ at | Some e ↦ max at e.at ]

end-push : (at : ℕ) (xs : List Choice) (x : Choice) → ending x.operation ≡ None → latest_end at (xs ++ x ∷ []) ≡ latest_end at xs
end-push at [] x e = ap (later_than at) e
end-push at (y ∷ ys) x e = end-push (later_than at (ending y.operation)) ys x e

-- one more choice whose operation is live is one more call, where its action binds
pub sum-push : (s : Settings) (xs : List Choice) (x : Choice) (a : Action) → action s x.operation.request.rest ≡ a → is_live x.operation ≡ true → standing_by s (xs ++ x ∷ []) ≡ after_all (call_by x.connection (backend_of s x.connection) (hold_of a)) (standing_by s xs)
sum-push s xs x Ignore e l =
    let c = with-same s BindConnection xs x (ap (is_action BindConnection) e) in
    let b = with-same s BindBackend xs x (ap (is_action BindBackend) e) in
    let w = with-same s Write xs x (ap (is_action Write) e) in
    λ i. standing_with s (c i) (b i) (w i)
sum-push s xs x Reject e l =
    let c = with-same s BindConnection xs x (ap (is_action BindConnection) e) in
    let b = with-same s BindBackend xs x (ap (is_action BindBackend) e) in
    let w = with-same s Write xs x (ap (is_action Write) e) in
    λ i. standing_with s (c i) (b i) (w i)
sum-push s xs x BindBackend e l =
    let c = with-same s BindConnection xs x (ap (is_action BindConnection) e) in
    let b = ap (λ ys. backend_by s (first ys)) (with-push s BindBackend xs x true (ap (is_action BindBackend) e)) ∙ backend-push s (with_action s BindBackend xs) x in
    let w = with-same s Write xs x (ap (is_action Write) e) in
    λ i. record { seconds = s.write_coherence; connection = connection_of (first (c i)); backend = b i; write = backend_by s (last (w i)); live = live_count (w i); ended = latest_end 0 (w i) }
sum-push s xs x BindConnection e l =
    let c = ap (λ ys. connection_of (first ys)) (with-push s BindConnection xs x true (ap (is_action BindConnection) e)) ∙ connection-push (with_action s BindConnection xs) x in
    let b = with-same s BindBackend xs x (ap (is_action BindBackend) e) in
    let w = with-same s Write xs x (ap (is_action Write) e) in
    λ i. record { seconds = s.write_coherence; connection = c i; backend = backend_by s (first (b i)); write = backend_by s (last (w i)); live = live_count (w i); ended = latest_end 0 (w i) }
sum-push s xs x Write e l =
    let c = with-same s BindConnection xs x (ap (is_action BindConnection) e) in
    let b = with-same s BindBackend xs x (ap (is_action BindBackend) e) in
    let p = with-push s Write xs x true (ap (is_action Write) e) in
    let ws = with_action s Write xs in
    let w = ap (λ ys. backend_by s (last ys)) p ∙ last-push s ws x in
    let n = ap live_count p ∙ live-push ws x l in
    let m = ap (latest_end 0) p ∙ end-push 0 ws x (none-of (ending x.operation) l) in
    λ i. record { seconds = s.write_coherence; connection = connection_of (first (c i)); backend = backend_by s (first (b i)); write = w i; live = n i; ended = m i }

-- several
abbrev pub AllLive : List Choice → Type 0
AllLive [] = ⊤
AllLive (x ∷ xs) = (is_live x.operation ≡ true) × AllLive xs

pub sum-more : (s : Settings) (xs ys : List Choice) → AllLive ys → standing_by s (xs ++ ys) ≡ after_all (calls_for s ys) (standing_by s xs)
sum-more s xs [] l = ap (standing_by s) (append-nil xs)
sum-more s xs (y ∷ ys) l = ap (standing_by s) (sym (append_assoc xs (y ∷ []) ys)) ∙ sum-more s (xs ++ y ∷ []) ys l.1 ∙ ap (after_all (calls_for s ys)) (sum-push s xs y (action s y.operation.request.rest) refl l.0) ∙ sym (after_append (call_of s y) (calls_for s ys) (standing_by s xs))

-- an entry behind some choices
abbrev pub later_choice : Entry → Choice → Choice
later_choice e x = record x { operation = record x.operation { behind = x.operation.behind ++ e ∷ [] } }

with-later : (s : Settings) (e : Entry) (a : Action) (xs : List Choice) → with_action s a (map (later_choice e) xs) ≡ map (later_choice e) (with_action s a xs)
with-later s e a xs = filter-map (λ y. is_action a (action s y.operation.request.rest)) (later_choice e) xs

connections-later : (e : Entry) (xs : List Choice) → connection_of (first (map (later_choice e) xs)) ≡ connection_of (first xs)
connections-later e [] = refl
connections-later e (x ∷ xs) = refl

backends-later : (s : Settings) (e : Entry) (xs : List Choice) → backend_by s (first (map (later_choice e) xs)) ≡ backend_by s (first xs)
backends-later s e [] = refl
backends-later s e (x ∷ xs) = refl

writes-later : (s : Settings) (e : Entry) (xs : List Choice) → backend_by s (last (map (later_choice e) xs)) ≡ backend_by s (last xs)
writes-later s e [] = refl
writes-later s e (x ∷ []) = refl
writes-later s e (x ∷ y ∷ ys) = writes-later s e (y ∷ ys)

-- what so many ends at a moment make of the latest
abbrev raised : ℕ → ℕ → ℕ → ℕ
raised zero m at = m
raised (suc n) m at = max m at

raised-more : (n m at : ℕ) → raised n (max m at) at ≡ max m at
raised-more zero m at = refl
raised-more (suc n) m at = omega arith

ended-sum : (at : ℕ) (zs : List Choice) (w : Standing) → after_all (map (λ x. WriteEnded at) zs) w ≡ record w { live = w.live - length zs; ended = raised (length zs) w.ended at }
ended-sum at [] w = let e : w.live ≡ w.live - 0 = omega arith in λ i. record w { live = e i }
ended-sum at (z ∷ zs) w = ended-sum at zs (record w { live = w.live - 1; ended = max w.ended at }) ∙ (let e : (w.live - 1) - length zs ≡ w.live - suc (length zs) = omega arith in let m = raised-more (length zs) w.ended at in λ i. record w { live = e i; ended = m i })

-- the end of an operation, with an entry behind it
none-later : (r : Message) (since L : List Entry) (e : Entry) → ending_from r since L ≡ None → ending_from r since (L ++ e ∷ []) ≡ ending_or (manner_of r (since ++ L) e) e [] None
none-later r since [] e h = ap (λ l. ending_or (manner_of r l e) e [] None) (sym (append-nil since))
none-later r since (x ∷ L) e h = more (manner_of r since x) h (none-later r (since ++ x ∷ []) L e)
  where
    more : (m : Option Manner) → ending_or m x L (ending_from r (since ++ x ∷ []) L) ≡ None → (ending_from r (since ++ x ∷ []) L ≡ None → ending_from r (since ++ x ∷ []) (L ++ e ∷ []) ≡ ending_or (manner_of r ((since ++ x ∷ []) ++ L) e) e [] None) → ending_or m x (L ++ e ∷ []) (ending_from r (since ++ x ∷ []) (L ++ e ∷ [])) ≡ ending_or (manner_of r (since ++ (x ∷ L)) e) e [] None
    more None h ih = ih h ∙ ap (λ l. ending_or (manner_of r l e) e [] None) (append_assoc since (x ∷ []) L)
    more (Some m) h ih = absurd (let bad : Some (record { manner = m; at = x.at; behind = L }) ≡ None = h in cc)

-- an operation that ended, or didn't, with an entry behind it
data After (e : Entry) (o : Operation) : Type 0 where
  Before : (x : Ending) → ending o ≡ Some x → ending (record o { behind = o.behind ++ e ∷ [] }) ≡ Some (extended (e ∷ []) x) → After e o
  Here : (x : Ending) → x.at ≡ e.at → ending o ≡ None → ending (record o { behind = o.behind ++ e ∷ [] }) ≡ Some x → After e o
  Never : ending o ≡ None → ending (record o { behind = o.behind ++ e ∷ [] }) ≡ None → After e o

after_cases : (e : Entry) (o : Operation) → After e o
after_cases e o = by_end (ending o) refl
  where
    by_manner : (m : Option Manner) → ending o ≡ None → ending (record o { behind = o.behind ++ e ∷ [] }) ≡ ending_or m e [] None → After e o
    by_manner None h g = Never h g
    by_manner (Some m) h g = Here (record { manner = m; at = e.at; behind = [] }) refl h g

    by_end : (x : Option Ending) → ending o ≡ x → After e o
    by_end (Some x) h = Before x h (end_stays o.request [] o.behind (e ∷ []) x h)
    by_end None h = by_manner (manner_of o.request o.behind e) h (none-later o.request [] o.behind e h)

-- the choices whose operation the entry ends
abbrev ended_by : Entry → List Choice → List Choice
ended_by e xs = filter (λ x. is_ended_by e x.operation) xs

count-step : (l m : Bool) (x y : Choice) (ns zs ks : List Choice) → (m ≡ true → l ≡ true) → length ns + length zs ≡ length ks → length (cond m (y ∷ ns) ns) + length (cond (l && not m) (x ∷ zs) zs) ≡ length (cond l (x ∷ ks) ks)
count-step true true x y ns zs ks h e = omega (arith, e)
count-step true false x y ns zs ks h e = omega (arith, e)
count-step false false x y ns zs ks h e = e
count-step false true x y ns zs ks h e = absurd (let bad : false ≡ true = h refl in cc)

live-before : (e : Entry) (o : Operation) → After e o → is_live (record o { behind = o.behind ++ e ∷ [] }) ≡ true → is_live o ≡ true
live-before e o (Before y h g) t = absurd (let bad : false ≡ true = sym (ap is_none g) ∙ t in cc)
live-before e o (Here y a h g) t = ap is_none h
live-before e o (Never h g) t = ap is_none h

live-later : (e : Entry) (xs : List Choice) → live_count (map (later_choice e) xs) + length (ended_by e xs) ≡ live_count xs
live-later e [] = refl
live-later e (x ∷ xs) = count-step (is_live x.operation) (is_live (later_choice e x).operation) x (later_choice e x) (live_of (map (later_choice e) xs)) (ended_by e xs) (live_of xs) (live-before e x.operation (after_cases e x.operation)) (live-later e xs)

latest-max : (a b : ℕ) (xs : List Choice) → latest_end (max a b) xs ≡ max (latest_end a xs) b
latest-max a b [] = refl
latest-max a b (x ∷ xs) = more (ending x.operation) (λ m n. latest-max m n xs)
  where
    more : (o : Option Ending) → ((m n : ℕ) → latest_end (max m n) xs ≡ max (latest_end m xs) n) → latest_end (later_than (max a b) o) xs ≡ max (latest_end (later_than a o) xs) b
    more None ih = ih a b
    more (Some y) ih = let e : max (max a b) y.at ≡ max (max a y.at) b = omega arith in ap (λ m. latest_end m xs) e ∙ ih (max a y.at) b

ends-later : (e : Entry) (at : ℕ) (xs : List Choice) → latest_end at (map (later_choice e) xs) ≡ raised (length (ended_by e xs)) (latest_end at xs) e.at
ends-later e at [] = refl
ends-later e at (x ∷ xs) = more (after_cases e x.operation) (λ m. ends-later e m xs)
  where
    zs : List Choice
    zs = ended_by e xs

    goal-of : Bool → Option Ending → Option Ending → Type 0
    goal-of b now then' = latest_end (later_than at then') (map (later_choice e) xs) ≡ raised (length (cond b (x ∷ zs) zs)) (latest_end (later_than at now) xs) e.at

    settled : (now then' : Option Ending) → ending x.operation ≡ now → ending (later_choice e x).operation ≡ then' → goal-of (is_none now && not (is_none then')) now then' → goal-of (is_ended_by e x.operation) (ending x.operation) (ending (later_choice e x).operation)
    settled now then' h g k = subst (λ (o : Option Ending). goal-of (is_none o && not (is_none (ending (later_choice e x).operation))) o (ending (later_choice e x).operation)) (sym h) (subst (λ (o : Option Ending). goal-of (is_none now && not (is_none o)) now o) (sym g) k)

    more : After e x.operation → ((m : ℕ) → latest_end m (map (later_choice e) xs) ≡ raised (length zs) (latest_end m xs) e.at) → goal-of (is_ended_by e x.operation) (ending x.operation) (ending (later_choice e x).operation)
    more (Before y h g) ih = settled (Some y) (Some (extended (e ∷ []) y)) h g (ih (max at y.at))
    more (Never h g) ih = settled None None h g (ih at)
    more (Here y a h g) ih = settled None (Some y) h g (ap (λ m. latest_end (max at m) (map (later_choice e) xs)) a ∙ ih (max at e.at) ∙ ap (λ m. raised (length zs) m e.at) (latest-max at e.at xs) ∙ raised-more (length zs) (latest_end at xs) e.at)

-- an entry behind some choices is a call for each write that it ends
pub sum-later : (s : Settings) (e : Entry) (xs : List Choice) → standing_by s (map (later_choice e) xs) ≡ after_all (end_calls s e xs) (standing_by s xs)
sum-later s e xs =
    let cs = with_action s BindConnection xs in
    let bs = with_action s BindBackend xs in
    let ws = with_action s Write xs in
    let c = ap (λ l. connection_of (first l)) (with-later s e BindConnection xs) ∙ connections-later e cs in
    let b = ap (λ l. backend_by s (first l)) (with-later s e BindBackend xs) ∙ backends-later s e bs in
    let w = ap (λ l. backend_by s (last l)) (with-later s e Write xs) ∙ writes-later s e ws in
    let count = live-later e ws in
    let fewer : live_count (map (later_choice e) ws) ≡ live_count ws - length (ended_by e ws) = omega (arith, count) in
    let n = ap live_count (with-later s e Write xs) ∙ fewer in
    let m = ap (latest_end 0) (with-later s e Write xs) ∙ ends-later e 0 ws in
    let path : standing_by s (map (later_choice e) xs) ≡ record (standing_by s xs) { live = live_count ws - length (ended_by e ws); ended = raised (length (ended_by e ws)) (latest_end 0 ws) e.at } = λ i. record { seconds = s.write_coherence; connection = c i; backend = b i; write = w i; live = n i; ended = m i } in
    path ∙ sym (ended-sum e.at (ended_by e ws) (standing_by s xs))
