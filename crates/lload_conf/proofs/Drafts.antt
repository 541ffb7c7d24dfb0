-- The reader's draft stands for the lines so far.
use Rattle.std.proofs.Common.{◌≡◌, ℕ, ◌+◌, ◌==◌, ◌&&◌, ◌||◌, not, Bool, true, false, cond, List, [], ◌∷◌, ◌++◌, length, refl, ap, sym, ◌∙◌, arith, find, sum_by, append_assoc, subst, append-nil, length-append}
use Rattle.std.specs.Prelude.{Option, Some, None, is_some, unwrap_or, option_map, codes, pos}
use Rattle.std.specs.List.{list_any}
use Rattle.std.specs.Option.{option_or, option_map_or, option_and_then}
use Rattle.std.proofs.lemmas.List.Folds.{find-append, list_any-append}
use Rattle.std.proofs.lemmas.List.Sums.{fold-append, sum_by-append}
use Rattle.std.proofs.lemmas.List.Concat.{flat_map-append}
use Rattle.lload_names.specs.Plans.{backends_of}
use Rattle.lload_names.specs.declared.plans.BackendPlan.{BackendPlan}
use Rattle.lload_names.specs.declared.plans.TierPlan.{TierPlan}
use Rattle.restrictions.specs.Table.{with_exop, with_control}
use Rattle.restrictions.specs.declared.table.Restrictions.{Restrictions}
use Rattle.lload_conf.specs.Configuration.{before_of, count_under, is_restricted, line_fault, places_here}
use Rattle.lload_conf.specs.Draft.{before_draft, bind_of, draft_fault, finished, is, stood_in, whole_plan, with_backend, with_entry, with_words, empty_draft}
use Rattle.lload_conf.specs.Faults.{entry_fault, lacks_tier, may_stand_again, passes_limit, places_of}
use Rattle.lload_conf.specs.Line.{Words, argument_of, arguments_of, arguments_under, entry_of, is_of, rank, number_of}
use Rattle.lload_conf.specs.Settings.{action_of, oid_of, restricted_by, seconds_under, unrestricted, with_restriction, backend_of, config_of, host_of, hosts_here, hosts_of, in_last, kind_of, number_under, own_bind_of, tiers_of, with_line}
use Rattle.lload_conf.specs.Table.{Entry, client_max_pending, client_max_unsent, write_coherence, client_limit, upstream_limit, iotimeout, io_threads, timeout}
use Rattle.lload_conf.specs.Values.{number_or_default, seconds_or_default}
use Rattle.lload_conf.specs.declared.config.Host.{Host}
use Rattle.lload_conf.specs.declared.draft.Draft.{Draft}
use Rattle.lload_conf.specs.declared.line.Before.{Before}
use Rattle.lload_conf.specs.declared.table.Directive.{Directive}
use Rattle.lload_conf.specs.declared.table.Directive.TheVariants.{BindConf, Tier, BackendServer, ClientMaxPending, ClientLimit, UpstreamLimit, IoTimeout, IoThreads, Feature, WriteCoherence, RestrictExop, RestrictControl, ClientMaxUnsent, Noted, LeftOut}

-- the draft of some lines
pub record Drafted (lines : List Words) (draft : Draft) : Type 0 where
  pub proxyauthz : draft.proxyauthz ≡ list_any (is_of Feature) lines
  pub bind : draft.bind ≡ option_map bind_of (arguments_under BindConf lines)
  pub client_max_pending : draft.client_max_pending ≡ number_under ClientMaxPending client_max_pending lines
  pub client_max_unsent : draft.client_max_unsent ≡ number_under ClientMaxUnsent client_max_unsent lines
  pub client_limit : draft.client_limit ≡ number_under ClientLimit client_limit lines
  pub upstream_limit : draft.upstream_limit ≡ number_under UpstreamLimit upstream_limit lines
  pub iotimeout : draft.iotimeout ≡ number_under IoTimeout iotimeout lines
  pub write_coherence : draft.write_coherence ≡ seconds_under lines
  pub restrictions : draft.restrictions ≡ restricted_by lines
  pub io_threads : draft.io_threads ≡ number_under IoThreads io_threads lines
  pub plan : whole_plan draft.earlier draft.last ≡ tiers_of lines
  pub first : draft.last ≡ None → (draft.earlier ≡ []) × (draft.tiers ≡ 0)
  pub numbered : length (backends_of (tiers_of lines)) ≡ length draft.hosts
  pub hosts : draft.hosts ≡ hosts_of lines
  pub tiers : draft.tiers ≡ count_under Tier lines
  pub backends : length draft.hosts ≡ count_under BackendServer lines
  pub places : draft.places ≡ sum_by places_here lines

-- whether an option that is made of another is there
is_some-map : {A B : Type 0} (f : A → B) (o : Option A) (x : Option B) → x ≡ option_map f o → is_some x ≡ (is_some o && true)
is_some-map f None x e = rw e refl
is_some-map f (Some a) x e = rw e refl

and-false : (b : Bool) → false ≡ (b && false)
and-false true = refl
and-false false = refl

-- what stood is what the lines say
stood-same : (lines : List Words) (draft : Draft) → Drafted lines draft → (d : Directive) → stood_in draft d ≡ (is_some (arguments_under d lines) && not (may_stand_again d))
stood-same lines draft h BindConf = is_some-map bind_of (arguments_under BindConf lines) draft.bind h.bind
stood-same lines draft h ClientMaxPending = is_some-map (λ words. number_or_default client_max_pending (argument_of words)) (arguments_under ClientMaxPending lines) draft.client_max_pending h.client_max_pending
stood-same lines draft h ClientLimit = is_some-map (λ words. number_or_default client_limit (argument_of words)) (arguments_under ClientLimit lines) draft.client_limit h.client_limit
stood-same lines draft h UpstreamLimit = is_some-map (λ words. number_or_default upstream_limit (argument_of words)) (arguments_under UpstreamLimit lines) draft.upstream_limit h.upstream_limit
stood-same lines draft h IoTimeout = is_some-map (λ words. number_or_default iotimeout (argument_of words)) (arguments_under IoTimeout lines) draft.iotimeout h.iotimeout
stood-same lines draft h IoThreads = is_some-map (λ words. number_or_default io_threads (argument_of words)) (arguments_under IoThreads lines) draft.io_threads h.io_threads
stood-same lines draft h WriteCoherence = is_some-map (λ words. seconds_or_default (argument_of words)) (arguments_under WriteCoherence lines) draft.write_coherence h.write_coherence
stood-same lines draft h ClientMaxUnsent = is_some-map (λ words. number_or_default client_max_unsent (argument_of words)) (arguments_under ClientMaxUnsent lines) draft.client_max_unsent h.client_max_unsent
stood-same lines draft h RestrictExop = and-false (is_some (arguments_under RestrictExop lines))
stood-same lines draft h RestrictControl = and-false (is_some (arguments_under RestrictControl lines))
stood-same lines draft h Tier = and-false (is_some (arguments_under Tier lines))
stood-same lines draft h BackendServer = and-false (is_some (arguments_under BackendServer lines))
stood-same lines draft h Feature = and-false (is_some (arguments_under Feature lines))
stood-same lines draft h Noted = and-false (is_some (arguments_under Noted lines))
stood-same lines draft h LeftOut = and-false (is_some (arguments_under LeftOut lines))

before-same : (lines : List Words) (draft : Draft) → Drafted lines draft → (d : Directive) (words : Words) → before_draft draft d words ≡ before_of lines d words
before-same lines draft h d words = λ i. record { stood = stood-same lines draft h d i || is_restricted d words (h.restrictions i); tiers = h.tiers i; backends = h.backends i; places = h.places i }

-- one answer of an option, by two functions that agree
agree : {A B : Type 0} (f g : A → B) (o : Option A) (x : B) → ((a : A) → f a ≡ g a) → option_map_or f o x ≡ option_map_or g o x
agree f g None x same = refl
agree f g (Some a) x same = same a

-- a line's fault by the draft is its fault behind the lines
pub fault-same : (lines : List Words) (draft : Draft) (line : Words) → Drafted lines draft → draft_fault draft line ≡ line_fault lines line
fault-same lines draft line h = agree (λ entry. entry_fault (before_draft draft entry.0 (arguments_of line)) entry (arguments_of line)) (λ entry. entry_fault (before_of lines entry.0 (arguments_of line)) entry (arguments_of line)) (entry_of line) (Some 3) (λ entry. ap (λ before. entry_fault before entry (arguments_of line)) (before-same lines draft h entry.0 (arguments_of line)))

-- a line of another directive
under-other : (e : Directive) (lines : List Words) (line : Words) → is_of e line ≡ false → arguments_under e (lines ++ line ∷ []) ≡ arguments_under e lines
under-other e lines line other = ap (option_map arguments_of) (find-append (is_of e) lines (line ∷ []) ∙ last (find (is_of e) lines) (is_of e line) other)
  where
    last : (o : Option Words) (b : Bool) → b ≡ false → option_or o (cond b (Some line) None) ≡ o
    last None b f = rw f refl
    last (Some l) b f = refl

-- the first line of a directive
under-same : (e : Directive) (lines : List Words) (line : Words) → is_of e line ≡ true → is_some (arguments_under e lines) ≡ false → arguments_under e (lines ++ line ∷ []) ≡ Some (arguments_of line)
under-same e lines line same none = ap (option_map arguments_of) (find-append (is_of e) lines (line ∷ []) ∙ last (find (is_of e) lines) (is_of e line) same none)
  where
    last : (o : Option Words) (b : Bool) → b ≡ true → is_some (option_map arguments_of o) ≡ false → option_or o (cond b (Some line) None) ≡ Some line
    last None b t n = rw t refl
    last (Some l) b t n = cc

-- a setting that one line may set
once : {A : Type 0} (e : Directive) (f : Words → A) (lines : List Words) (line : Words) (x : Option A) (b : Bool) → is_of e line ≡ b → x ≡ option_map f (arguments_under e lines) → (b ≡ true → is_some x ≡ false) → cond b (Some (f (arguments_of line))) x ≡ option_map f (arguments_under e (lines ++ line ∷ []))
once e f lines line x false other is clear = is ∙ sym (ap (option_map f) (under-other e lines line other))
once e f lines line x true same is clear = sym (ap (option_map f) (under-same e lines line same (none (arguments_under e lines) is (clear refl))))
  where
    none : (o : Option Words) → x ≡ option_map f o → is_some x ≡ false → is_some o ≡ false
    none None is' n = refl
    none (Some words) is' n = sym (ap is_some is') ∙ n

-- tiers and backends behind a plan
in_last-append : (backend : BackendPlan) (earlier : List TierPlan) (tier : TierPlan) → in_last backend (earlier ++ tier ∷ []) ≡ earlier ++ record { kind = tier.kind; backends = tier.backends ++ backend ∷ [] } ∷ []
in_last-append backend [] tier = refl
in_last-append backend (t ∷ []) tier = refl
in_last-append backend (t ∷ (u ∷ us)) tier = ap (λ ts. t ∷ ts) (in_last-append backend (u ∷ us) tier)

with_backend-plan : (backend : BackendPlan) (earlier : List TierPlan) (last : Option TierPlan) → (last ≡ None → earlier ≡ []) → whole_plan earlier (with_backend backend last) ≡ in_last backend (whole_plan earlier last)
with_backend-plan backend earlier None first = first refl ∙ sym (ap (in_last backend) (first refl))
with_backend-plan backend earlier (Some tier) first = sym (in_last-append backend earlier tier)

-- the plan with one line more
plan-more : (lines : List Words) (line : Words) (draft : Draft) (t b : Bool) → Drafted lines draft → is_of Tier line ≡ t → is_of BackendServer line ≡ b → whole_plan (cond t (whole_plan draft.earlier draft.last) draft.earlier) (cond t (Some (record { kind = kind_of (arguments_of line); backends = [] })) (cond b (with_backend (backend_of (length draft.hosts + 1) (arguments_of line)) draft.last) draft.last)) ≡ tiers_of (lines ++ line ∷ [])
plan-more lines line draft t b h is-tier is-backend = with-flags t b ∙ sym (fold-append with_line [] lines (line ∷ []) ∙ flags)
  where
    made : Bool → Bool → List TierPlan
    made t' b' = cond t' (tiers_of lines ++ record { kind = kind_of (arguments_of line); backends = [] } ∷ []) (cond b' (in_last (backend_of (length (backends_of (tiers_of lines)) + 1) (arguments_of line)) (tiers_of lines)) (tiers_of lines))

    flags : with_line (tiers_of lines) line ≡ made t b
    flags = ap (λ t'. made t' (is_of BackendServer line)) is-tier ∙ ap (made t) is-backend

    with-flags : (t' b' : Bool) → whole_plan (cond t' (whole_plan draft.earlier draft.last) draft.earlier) (cond t' (Some (record { kind = kind_of (arguments_of line); backends = [] })) (cond b' (with_backend (backend_of (length draft.hosts + 1) (arguments_of line)) draft.last) draft.last)) ≡ made t' b'
    with-flags true b' = ap (λ ts. ts ++ record { kind = kind_of (arguments_of line); backends = [] } ∷ []) h.plan
    with-flags false true = with_backend-plan (backend_of (length draft.hosts + 1) (arguments_of line)) draft.earlier draft.last (λ e. (h.first e).0) ∙ (ap (in_last (backend_of (length draft.hosts + 1) (arguments_of line))) h.plan ∙ ap (λ n. in_last (backend_of (n + 1) (arguments_of line)) (tiers_of lines)) (sym h.numbered))
    with-flags false false = h.plan

-- the kinds that a line without a fault hasn't
no-fault : (b : Bool) (k : ℕ) (rest : Option ℕ) → cond b (Some k) rest ≡ None → (b ≡ false) × (rest ≡ None)
no-fault true k rest none = cc
no-fault false k rest none = (refl, none)

pub record Clear (before : Before) (d : Directive) (words : Words) : Type 0 where
  pub stood : before.stood ≡ false
  pub tier : lacks_tier before d ≡ false
  pub limit : passes_limit before d words ≡ false

neither : (a b : Bool) → (a || b) ≡ false → b ≡ false
neither true b h = cc
neither false b h = h

nor_first : (a b : Bool) → (a || b) ≡ false → a ≡ false
nor_first true b h = cc
nor_first false b h = refl

-- neither its directive stood, nor a restriction of its OID
pub stood-not : (draft : Draft) (d : Directive) (words : Words) → Clear (before_draft draft d words) d words → stood_in draft d ≡ false
stood-not draft d words free = nor_first (stood_in draft d) (is_restricted d words draft.restrictions) free.stood

pub restricted-not : (draft : Draft) (d : Directive) (words : Words) → Clear (before_draft draft d words) d words → is_restricted d words draft.restrictions ≡ false
restricted-not draft d words free = neither (stood_in draft d) (is_restricted d words draft.restrictions) free.stood

pub clear : (before : Before) (entry : Entry) (words : Words) → entry_fault before entry words ≡ None → Clear before entry.0 words
clear before entry words none =
    let five = no-fault _ 4 _ none in
    let six = no-fault _ 5 _ five.1 in
    let seven = no-fault _ 6 _ six.1 in
    let eight = no-fault _ 7 _ seven.1 in
    let nine = no-fault _ 8 _ eight.1 in
    let eleven = no-fault _ 9 _ nine.1 in
    let twelve = no-fault _ 11 _ eleven.1 in
    let end = no-fault _ 12 _ twelve.1 in
    record { stood = neither _ _ eight.0; tier = eleven.0; limit = end.0 }

-- an option that was tested
pub none-there : {A : Type 0} (o : Option A) (none : Bool) → is_some o ≡ not none → none ≡ true → o ≡ None
none-there None none is' held = refl
none-there (Some a) true is' held = cc
none-there (Some a) false is' held = cc

-- what stood of each directive
clear-bind : (draft : Draft) (d : Directive) → stood_in draft d ≡ false → is d BindConf ≡ true → is_some draft.bind ≡ false
clear-bind draft BindConf stood same = stood
clear-bind draft _ stood same = cc

clear-pending : (draft : Draft) (d : Directive) → stood_in draft d ≡ false → is d ClientMaxPending ≡ true → is_some draft.client_max_pending ≡ false
clear-pending draft ClientMaxPending stood same = stood
clear-pending draft _ stood same = cc

clear-client : (draft : Draft) (d : Directive) → stood_in draft d ≡ false → is d ClientLimit ≡ true → is_some draft.client_limit ≡ false
clear-client draft ClientLimit stood same = stood
clear-client draft _ stood same = cc

clear-upstream : (draft : Draft) (d : Directive) → stood_in draft d ≡ false → is d UpstreamLimit ≡ true → is_some draft.upstream_limit ≡ false
clear-upstream draft UpstreamLimit stood same = stood
clear-upstream draft _ stood same = cc

clear-iotimeout : (draft : Draft) (d : Directive) → stood_in draft d ≡ false → is d IoTimeout ≡ true → is_some draft.iotimeout ≡ false
clear-iotimeout draft IoTimeout stood same = stood
clear-iotimeout draft _ stood same = cc

clear-threads : (draft : Draft) (d : Directive) → stood_in draft d ≡ false → is d IoThreads ≡ true → is_some draft.io_threads ≡ false
clear-threads draft IoThreads stood same = stood
clear-threads draft _ stood same = cc

clear-coherence : (draft : Draft) (d : Directive) → stood_in draft d ≡ false → is d WriteCoherence ≡ true → is_some draft.write_coherence ≡ false
clear-coherence draft WriteCoherence stood same = stood
clear-coherence draft _ stood same = cc

clear-unsent : (draft : Draft) (d : Directive) → stood_in draft d ≡ false → is d ClientMaxUnsent ≡ true → is_some draft.client_max_unsent ≡ false
clear-unsent draft ClientMaxUnsent stood same = stood
clear-unsent draft _ stood same = cc

-- a backend has a tier
clear-tier : (before : Before) (d : Directive) → lacks_tier before d ≡ false → is d BackendServer ≡ true → (before.tiers == 0) ≡ false
clear-tier before BackendServer clear' same = clear'
clear-tier before _ clear' same = cc

-- a tier is no backend
tier-alone : (d : Directive) → is d Tier ≡ true → is d BackendServer ≡ false
tier-alone Tier same = refl
tier-alone _ same = cc

-- the last tier, if there is one, behind a line
first-more : (draft : Draft) (tier : TierPlan) (backend : BackendPlan) (t b : Bool) → (draft.last ≡ None → (draft.earlier ≡ []) × (draft.tiers ≡ 0)) → cond t (Some tier) (cond b (with_backend backend draft.last) draft.last) ≡ None → (cond t (whole_plan draft.earlier draft.last) draft.earlier ≡ []) × (cond t (draft.tiers + 1) draft.tiers ≡ 0)
first-more draft tier backend true b first none = cc
first-more draft tier backend false true first none = first (without draft.last none)
  where
    without : (o : Option TierPlan) → with_backend backend o ≡ None → o ≡ None
    without None e = refl
    without (Some u) e = cc
first-more draft tier backend false false first none = first none

-- the backends of tiers behind each other
backends_of-append : (ts us : List TierPlan) → backends_of (ts ++ us) ≡ backends_of ts ++ backends_of us
backends_of-append [] us = refl
backends_of-append (t ∷ ts) us = ap (λ bs. t.backends ++ bs) (backends_of-append ts us) ∙ sym (append_assoc t.backends (backends_of ts) (backends_of us))

-- a tier without backends adds none
pub backends-tier : (plan : List TierPlan) (tier : TierPlan) → tier.backends ≡ [] → backends_of (plan ++ tier ∷ []) ≡ backends_of plan
backends-tier plan tier none = backends_of-append plan (tier ∷ []) ∙ (ap (λ bs. backends_of plan ++ (bs ++ [])) none ∙ append-nil (backends_of plan))

-- none isn't some
zero-fails : (n : ℕ) → n ≡ 0 → (n == 0) ≡ false → ⊥
zero-fails n zero some = cc

-- a backend in the last tier is behind all others
backends-last : (backend : BackendPlan) (earlier : List TierPlan) (tier : TierPlan) → backends_of (earlier ++ record { kind = tier.kind; backends = tier.backends ++ backend ∷ [] } ∷ []) ≡ backends_of (earlier ++ tier ∷ []) ++ backend ∷ []
backends-last backend [] tier = append_assoc tier.backends (backend ∷ []) [] ∙ ap (λ bs. bs ++ backend ∷ []) (sym (append-nil tier.backends))
backends-last backend (t ∷ ts) tier = ap (λ bs. t.backends ++ bs) (backends-last backend ts tier) ∙ sym (append_assoc t.backends (backends_of (ts ++ tier ∷ [])) (backend ∷ []))

-- the same of a plan
pub backends-more : (backend : BackendPlan) (draft : Draft) → (draft.last ≡ None → draft.tiers ≡ 0) → (draft.tiers == 0) ≡ false → backends_of (whole_plan draft.earlier (with_backend backend draft.last)) ≡ backends_of (whole_plan draft.earlier draft.last) ++ backend ∷ []
backends-more backend draft first some = by-last draft.last first
  where
    by-last : (last : Option TierPlan) → (last ≡ None → draft.tiers ≡ 0) → backends_of (whole_plan draft.earlier (with_backend backend last)) ≡ backends_of (whole_plan draft.earlier last) ++ backend ∷ []
    by-last None none = absurd (zero-fails draft.tiers (none refl) some)
    by-last (Some tier) none = backends-last backend draft.earlier tier

-- how many backends the plan has, with one line more
numbered-more : (draft : Draft) (tier : TierPlan) (backend : BackendPlan) (host : Host) (t b : Bool) → tier.backends ≡ [] → (draft.last ≡ None → draft.tiers ≡ 0) → (t ≡ true → b ≡ false) → (b ≡ true → (draft.tiers == 0) ≡ false) → length (backends_of (whole_plan draft.earlier draft.last)) ≡ length draft.hosts → length (backends_of (whole_plan (cond t (whole_plan draft.earlier draft.last) draft.earlier) (cond t (Some tier) (cond b (with_backend backend draft.last) draft.last)))) ≡ length (cond b (draft.hosts ++ host ∷ []) draft.hosts)
numbered-more draft tier backend host true true none first alone some same = absurd (cc (alone refl))
numbered-more draft tier backend host true false none first alone some same = (ap length (backends-tier (whole_plan draft.earlier draft.last) tier none) ∙ same)
numbered-more draft tier backend host false true none first alone some same = ap length (backends-more backend draft first (some refl)) ∙ (length-append (backends_of (whole_plan draft.earlier draft.last)) (backend ∷ []) ∙ (ap (λ n. n + 1) same ∙ sym (length-append draft.hosts (host ∷ []))))
numbered-more draft tier backend host false false none first alone some same = same

-- hosts, counts and places with one line more
hosts-more : (lines : List Words) (line : Words) (hosts : List Host) (b : Bool) → is_of BackendServer line ≡ b → hosts ≡ hosts_of lines → cond b (hosts ++ host_of (arguments_of line) ∷ []) hosts ≡ hosts_of (lines ++ line ∷ [])
hosts-more lines line hosts b is' same = flagged b ∙ sym (flat_map-append hosts_here lines (line ∷ []) ∙ ap (λ t. hosts_of lines ++ (cond t (host_of (arguments_of line) ∷ []) [] ++ [])) is')
  where
    flagged : (t : Bool) → cond t (hosts ++ host_of (arguments_of line) ∷ []) hosts ≡ hosts_of lines ++ (cond t (host_of (arguments_of line) ∷ []) [] ++ [])
    flagged true = ap (λ hs. hs ++ host_of (arguments_of line) ∷ []) same
    flagged false = same ∙ sym (append-nil (hosts_of lines))

count-more : (e : Directive) (lines : List Words) (line : Words) (n : ℕ) (b : Bool) → is_of e line ≡ b → n ≡ count_under e lines → cond b (n + 1) n ≡ count_under e (lines ++ line ∷ [])
count-more e lines line n b is' same = flagged b ∙ sym (sum_by-append (λ l. cond (is_of e l) 1 0) lines (line ∷ []) ∙ ap (λ t. count_under e lines + (0 + cond t 1 0)) is')
  where
    flagged : (t : Bool) → cond t (n + 1) n ≡ count_under e lines + (0 + cond t 1 0)
    flagged true = omega (arith, same)
    flagged false = omega (arith, same)

length-more : (hosts : List Host) (host : Host) (b : Bool) → length (cond b (hosts ++ host ∷ []) hosts) ≡ cond b (length hosts + 1) (length hosts)
length-more hosts host true = length-append hosts (host ∷ [])
length-more hosts host false = refl

places-more : (lines : List Words) (line : Words) (n : ℕ) (b : Bool) → is_of BackendServer line ≡ b → n ≡ sum_by places_here lines → cond b (n + places_of (arguments_of line)) n ≡ sum_by places_here (lines ++ line ∷ [])
places-more lines line n b is' same = flagged b ∙ sym (sum_by-append places_here lines (line ∷ []) ∙ ap (λ t. sum_by places_here lines + (0 + cond t (places_of (arguments_of line)) 0)) is')
  where
    flagged : (t : Bool) → cond t (n + places_of (arguments_of line)) n ≡ sum_by places_here lines + (0 + cond t (places_of (arguments_of line)) 0)
    flagged true = omega (arith, same)
    flagged false = omega (arith, same)

-- a feature, and restrictions, with one line more
feature-more : (lines : List Words) (line : Words) (on b : Bool) → is_of Feature line ≡ b → on ≡ list_any (is_of Feature) lines → cond b true on ≡ list_any (is_of Feature) (lines ++ line ∷ [])
feature-more lines line on b is' same = flagged b (list_any (is_of Feature) lines) same ∙ sym (list_any-append (is_of Feature) lines (line ∷ []) ∙ ap (λ t. list_any (is_of Feature) lines || (t || false)) is')
  where
    flagged : (t any : Bool) → on ≡ any → cond t true on ≡ (any || (t || false))
    flagged true true e = refl
    flagged true false e = refl
    flagged false true e = e
    flagged false false e = e

restrictions-more : (lines : List Words) (line : Words) (table : Restrictions) (a b : Bool) → is_of RestrictExop line ≡ a → is_of RestrictControl line ≡ b → table ≡ restricted_by lines →
    cond a (with_exop (oid_of (arguments_of line)) (action_of (arguments_of line)) table) (cond b (with_control (oid_of (arguments_of line)) (action_of (arguments_of line)) table) table) ≡ restricted_by (lines ++ line ∷ [])
restrictions-more lines line table a b is-exop is-control same = ap (made a b) same ∙ sym (fold-append with_restriction unrestricted lines (line ∷ []) ∙ (ap (λ a'. made a' (is_of RestrictControl line) (restricted_by lines)) is-exop ∙ ap (λ b'. made a b' (restricted_by lines)) is-control))
  where
    made : Bool → Bool → Restrictions → Restrictions
    made a' b' t = cond a' (with_exop (oid_of (arguments_of line)) (action_of (arguments_of line)) t) (cond b' (with_control (oid_of (arguments_of line)) (action_of (arguments_of line)) t) t)

-- a line without a fault
drafted-more : (lines : List Words) (draft : Draft) (line : Words) (entry : Entry) → entry_of line ≡ Some entry → entry_fault (before_draft draft entry.0 (arguments_of line)) entry (arguments_of line) ≡ None → Drafted lines draft → Drafted (lines ++ line ∷ []) (with_entry draft entry.0 (arguments_of line))
drafted-more lines draft line entry known none h =
    let d = entry.0 in
    let words = arguments_of line in
    let at : (e : Directive) → is_of e line ≡ is d e = λ e. ap (λ (o : Option Entry). option_map_or (λ en. rank en.0 == rank e) o false) known in
    let no = clear (before_draft draft d words) entry words none in
    let stood = stood-not draft d words no in
    let backend : BackendPlan = backend_of (length draft.hosts + 1) words in
    let tier : TierPlan = record { kind = kind_of words; backends = [] } in
    let plan = plan-more lines line draft (is d Tier) (is d BackendServer) h (at Tier) (at BackendServer) in
    record {
      proxyauthz = feature-more lines line draft.proxyauthz (is d Feature) (at Feature) h.proxyauthz;
      bind = once BindConf bind_of lines line draft.bind (is d BindConf) (at BindConf) h.bind (clear-bind draft d stood);
      client_max_pending = once ClientMaxPending (λ ws. number_or_default client_max_pending (argument_of ws)) lines line draft.client_max_pending (is d ClientMaxPending) (at ClientMaxPending) h.client_max_pending (clear-pending draft d stood);
      client_max_unsent = once ClientMaxUnsent (λ ws. number_or_default client_max_unsent (argument_of ws)) lines line draft.client_max_unsent (is d ClientMaxUnsent) (at ClientMaxUnsent) h.client_max_unsent (clear-unsent draft d stood);
      client_limit = once ClientLimit (λ ws. number_or_default client_limit (argument_of ws)) lines line draft.client_limit (is d ClientLimit) (at ClientLimit) h.client_limit (clear-client draft d stood);
      upstream_limit = once UpstreamLimit (λ ws. number_or_default upstream_limit (argument_of ws)) lines line draft.upstream_limit (is d UpstreamLimit) (at UpstreamLimit) h.upstream_limit (clear-upstream draft d stood);
      iotimeout = once IoTimeout (λ ws. number_or_default iotimeout (argument_of ws)) lines line draft.iotimeout (is d IoTimeout) (at IoTimeout) h.iotimeout (clear-iotimeout draft d stood);
      write_coherence = once WriteCoherence (λ ws. seconds_or_default (argument_of ws)) lines line draft.write_coherence (is d WriteCoherence) (at WriteCoherence) h.write_coherence (clear-coherence draft d stood);
      restrictions = restrictions-more lines line draft.restrictions (is d RestrictExop) (is d RestrictControl) (at RestrictExop) (at RestrictControl) h.restrictions;
      io_threads = once IoThreads (λ ws. number_or_default io_threads (argument_of ws)) lines line draft.io_threads (is d IoThreads) (at IoThreads) h.io_threads (clear-threads draft d stood);
      plan = plan;
      first = first-more draft tier backend (is d Tier) (is d BackendServer) h.first;
      numbered = ap (λ ts. length (backends_of ts)) (sym plan) ∙ numbered-more draft tier backend (host_of words) (is d Tier) (is d BackendServer) refl (λ e. (h.first e).1) (tier-alone d) (clear-tier (before_draft draft d words) d no.tier) (ap (λ ts. length (backends_of ts)) h.plan ∙ h.numbered);
      hosts = hosts-more lines line draft.hosts (is d BackendServer) (at BackendServer) h.hosts;
      tiers = count-more Tier lines line draft.tiers (is d Tier) (at Tier) h.tiers;
      backends = length-more draft.hosts (host_of words) (is d BackendServer) ∙ count-more BackendServer lines line (length draft.hosts) (is d BackendServer) (at BackendServer) h.backends;
      places = places-more lines line draft.places (is d BackendServer) (at BackendServer) h.places;
    }

-- a line that was taken
pub taken-more : (lines : List Words) (draft after : Draft) (line : Words) → Drafted lines draft → draft_fault draft line ≡ None → after ≡ with_words draft line → Drafted (lines ++ line ∷ []) after
taken-more lines draft after line h none is' = subst (Drafted (lines ++ line ∷ [])) (sym is') (by-entry (entry_of line) refl none)
  where
    by-entry : (o : Option Entry) → entry_of line ≡ o → option_map_or (λ entry. entry_fault (before_draft draft entry.0 (arguments_of line)) entry (arguments_of line)) o (Some 3) ≡ None → Drafted (lines ++ line ∷ []) (option_map_or (λ entry. with_entry draft entry.0 (arguments_of line)) o draft)
    by-entry None known none' = cc
    by-entry (Some entry) known none' = drafted-more lines draft line entry known none' h

-- no lines
pub drafted-none : Drafted [] empty_draft
drafted-none = record { proxyauthz = refl; bind = refl; client_max_pending = refl; client_max_unsent = refl; client_limit = refl; upstream_limit = refl; iotimeout = refl; write_coherence = refl; restrictions = refl; io_threads = refl; plan = refl; first = λ e. (refl, refl); numbered = refl; hosts = refl; tiers = refl; backends = refl; places = refl }

-- the configuration of the draft is that of the lines
own_bind-same : (o : Option Words) → option_and_then (λ bind. bind.own_bind) (option_map bind_of o) ≡ option_and_then own_bind_of o
own_bind-same None = refl
own_bind-same (Some words) = refl

timeout-same : (o : Option Words) → option_map_or (λ bind. bind.timeout) (option_map bind_of o) timeout.default ≡ option_map_or (number_of (codes "timeout") timeout) o timeout.default
timeout-same None = refl
timeout-same (Some words) = refl

pub finished-same : (lines : List Words) (draft : Draft) → Drafted lines draft → finished draft ≡ config_of lines
finished-same lines draft h = λ i. record {
  proxyauthz = h.proxyauthz i;
  own_bind = (ap (option_and_then (λ bind. bind.own_bind)) h.bind ∙ own_bind-same (arguments_under BindConf lines)) i;
  timeout = (ap (λ o. option_map_or (λ bind. bind.timeout) o timeout.default) h.bind ∙ timeout-same (arguments_under BindConf lines)) i;
  plan = h.plan i;
  hosts = h.hosts i;
  client_max_pending = unwrap_or (h.client_max_pending i) client_max_pending.default;
  client_max_unsent = unwrap_or (h.client_max_unsent i) client_max_unsent.default;
  client_limit = unwrap_or (h.client_limit i) client_limit.default;
  upstream_limit = unwrap_or (h.upstream_limit i) upstream_limit.default;
  iotimeout = unwrap_or (h.iotimeout i) iotimeout.default;
  write_coherence = unwrap_or (h.write_coherence i) (pos write_coherence.default);
  restrictions = h.restrictions i;
  io_threads = unwrap_or (h.io_threads i) io_threads.default;
}
