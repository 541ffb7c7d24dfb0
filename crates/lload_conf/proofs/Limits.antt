-- The reader's draft is within the limits of the proxy.
use Rattle.std.proofs.Common.{◌≡◌, ℕ, suc, ◌+◌, ◌≤◌, ◌&&◌, ◌||◌, Bool, true, false, cond, nat_le, nat_lt, List, [], ◌∷◌, ◌++◌, length, length-append, add-zero, refl, ap, sym, subst, ◌∙◌, arith}
use Rattle.std.specs.Prelude.{Option, Some, None, IfSome, unwrap_or}
use Rattle.std.specs.Option.{option_and_then, option_map_or}
use Rattle.std.specs.Str.Parse.{digits_value}
use Rattle.std.proofs.lemmas.Bool.Decides.{nat_tests}
use Rattle.lload_names.specs.Plans.{NumberedFrom, backends_of, rooms_of}
use Rattle.lload_names.specs.declared.plans.BackendPlan.{BackendPlan}
use Rattle.lload_names.specs.declared.plans.TierPlan.{TierPlan}
use Rattle.lload_names.proofs.Places.{length-rooms_of_backend, rooms_of-append}
use Rattle.lload_conf.specs.Answers.{IsConfig, IsLimit, IsOwnBind}
use Rattle.lload_conf.specs.Faults.{entry_fault}
use Rattle.lload_conf.specs.declared.config.Config.{Config}
use Rattle.lload_conf.specs.Draft.{before_draft, draft_fault, empty_draft, finished, with_words, whole_plan, with_backend, with_entry}
use Rattle.lload_conf.specs.Line.{Words, argument_of, arguments_of, entry_of}
use Rattle.lload_conf.specs.Settings.{backend_of, host_of, kind_of}
use Rattle.lload_conf.specs.Table.{Entry, client_limit, upstream_limit}
use Rattle.lload_conf.specs.Values.{is_decimal, number, number_or_default}
use Rattle.lload_conf.specs.Within.{IsWithin}
use Rattle.lload_conf.specs.declared.draft.BindLine.{BindLine}
use Rattle.lload_conf.specs.declared.draft.Draft.{Draft}
use Rattle.lload_conf.specs.declared.table.Directive.{Directive}
use Rattle.lload_conf.specs.declared.table.Directive.TheVariants.{BindConf, Tier, BackendServer, ClientLimit, UpstreamLimit}
use Rattle.lload_conf.specs.declared.table.Number.{Number}
use Rattle.lload_conf.proofs.Lengths.{HasShortWords, arguments-short, bind-short}
use Rattle.lload_conf.proofs.Drafts.{Clear, clear, backends-more, backends-tier}

-- a number is in its range
number-range : (range : Number) (text : List ℕ) (n : ℕ) → number range text ≡ Some n → (range.low ≤ n) × (n ≤ range.high)
number-range range text n is = checked (is_decimal text) (nat_le range.low (digits_value 10 text)) (nat_le (digits_value 10 text) range.high) refl refl is
  where
    checked : (a b c : Bool) → nat_le range.low (digits_value 10 text) ≡ b → nat_le (digits_value 10 text) range.high ≡ c → cond ((a && b) && c) (Some (digits_value 10 text)) None ≡ Some n → (range.low ≤ n) × (n ≤ range.high)
    checked true true true low high e = let same : digits_value 10 text ≡ n = cc in (grind (arith, nat_tests, low, same), grind (arith, nat_tests, high, same))
    checked true true false low high e = cc
    checked true false c low high e = cc
    checked false b c low high e = cc

-- and so is the default
in-range : (range : Number) (o : Option ℕ) → range.low ≤ range.default → range.default ≤ range.high → ((n : ℕ) → o ≡ Some n → (range.low ≤ n) × (n ≤ range.high)) → (range.low ≤ unwrap_or o range.default) × (unwrap_or o range.default ≤ range.high)
in-range range None low high there = (low, high)
in-range range (Some n) low high there = there n refl

pub setting-range : (range : Number) (text : Option (List ℕ)) → range.low ≤ range.default → range.default ≤ range.high → (range.low ≤ number_or_default range text) × (number_or_default range text ≤ range.high)
setting-range range None low high = (low, high)
setting-range range (Some text) low high = in-range range (number range text) low high (λ n is. number-range range text n is)

client-within : (text : Option (List ℕ)) → IsLimit (number_or_default client_limit text)
client-within text = let within = setting-range client_limit text (omega arith) (omega arith) in record { some = within.0; few = within.1 }

upstream-within : (text : Option (List ℕ)) → IsLimit (number_or_default upstream_limit text)
upstream-within text = let within = setting-range upstream_limit text (omega arith) (omega arith) in record { some = within.0; few = within.1 }

-- backends in order and the next
numbered-append : (n : ℕ) (bs : List BackendPlan) (b : BackendPlan) → NumberedFrom n bs → b.number ≡ n + length bs → NumberedFrom n (bs ++ b ∷ [])
numbered-append n [] b in-order next = (omega (arith, next), tt)
numbered-append n (c ∷ cs) b in-order next = (in-order.0, numbered-append (suc n) cs b in-order.1 (omega (arith, next)))

-- the number of the next backend
next-number : (hosts backends : ℕ) → backends ≡ hosts → hosts + 1 ≡ 1 + backends
next-number hosts backends same = omega (arith, same)

-- the places of one more backend
places-append : (bs : List BackendPlan) (b : BackendPlan) → length (rooms_of (bs ++ b ∷ [])) ≡ length (rooms_of bs) + (b.numconns + b.bindconns)
places-append bs b = ap length (rooms_of-append bs (b ∷ [])) ∙ (length-append (rooms_of bs) (rooms_of (b ∷ [])) ∙ ap (λ n. length (rooms_of bs) + n) (alone b))
  where
    alone : (b : BackendPlan) → length (rooms_of (b ∷ [])) ≡ b.numconns + b.bindconns
    alone b = length-append _ [] ∙ (add-zero _ ∙ length-rooms_of_backend b)

-- a backend in the last tier leaves the count of tiers
with_backend-length : (backend : BackendPlan) (earlier : List TierPlan) (last : Option TierPlan) → length (whole_plan earlier (with_backend backend last)) ≡ length (whole_plan earlier last)
with_backend-length backend earlier None = refl
with_backend-length backend earlier (Some tier) = length-append earlier _ ∙ sym (length-append earlier (tier ∷ []))

with_backend-none : (backend : BackendPlan) (last : Option TierPlan) → with_backend backend last ≡ None → last ≡ None
with_backend-none backend None e = refl
with_backend-none backend (Some tier) e = cc

-- limits that aren't passed
neither : (a b : Bool) → (a || b) ≡ false → (a ≡ false) × (b ≡ false)
neither true b h = cc
neither false b h = (refl, h)

below : (n : ℕ) → nat_le 64 n ≡ false → n + 1 ≤ 64
below n h = grind (arith, nat_tests, h)

fits : (n : ℕ) → nat_lt 512 n ≡ false → n ≤ 512
fits n h = grind (arith, nat_tests, h)

-- a line without a fault leaves the draft within the limits
pub within-more : (draft : Draft) (d : Directive) (words : Words) → IsWithin draft → HasShortWords 1048576 words → Clear (before_draft draft d words) d words → IsWithin (with_entry draft d words)
within-more draft Tier words w short free =
    let tier : TierPlan = record { kind = kind_of words; backends = [] } in
    let plan = whole_plan draft.earlier draft.last in
    let same = backends-tier plan tier refl in
    record {
      tiers = length-append plan (tier ∷ []) ∙ ap (λ n. n + 1) w.tiers;
      few_tiers = below draft.tiers free.limit;
      backends = ap length same ∙ w.backends;
      few_backends = w.few_backends;
      places = ap (λ bs. length (rooms_of bs)) same ∙ w.places;
      few_places = w.few_places;
      in_order = subst (NumberedFrom 1) (sym same) w.in_order;
      first = λ e. cc;
      own_bind = w.own_bind;
      client = w.client;
      upstream = w.upstream;
    }
within-more draft BackendServer words w short free =
    let backend : BackendPlan = backend_of (length draft.hosts + 1) words in
    let plan = whole_plan draft.earlier draft.last in
    let more = backends-more backend draft w.first free.tier in
    let limit = neither (nat_le 64 (length draft.hosts)) _ free.limit in
    record {
      tiers = with_backend-length backend draft.earlier draft.last ∙ w.tiers;
      few_tiers = w.few_tiers;
      backends = ap length more ∙ (length-append (backends_of plan) (backend ∷ []) ∙ (ap (λ n. n + 1) w.backends ∙ sym (length-append draft.hosts (host_of words ∷ []))));
      few_backends = subst (λ n. n ≤ 64) (sym (length-append draft.hosts (host_of words ∷ []))) (below (length draft.hosts) limit.0);
      places = ap (λ bs. length (rooms_of bs)) more ∙ (places-append (backends_of plan) backend ∙ ap (λ n. n + (backend.numconns + backend.bindconns)) w.places);
      few_places = fits _ limit.1;
      in_order = subst (NumberedFrom 1) (sym more) (numbered-append 1 (backends_of plan) backend w.in_order (next-number (length draft.hosts) (length (backends_of plan)) w.backends));
      first = λ e. w.first (with_backend-none backend draft.last e);
      own_bind = w.own_bind;
      client = w.client;
      upstream = w.upstream;
    }
within-more draft BindConf words w short free = record { tiers = w.tiers; few_tiers = w.few_tiers; backends = w.backends; few_backends = w.few_backends; places = w.places; few_places = w.few_places; in_order = w.in_order; first = w.first; own_bind = bind-short words short; client = w.client; upstream = w.upstream }
within-more draft ClientLimit words w short free = record { tiers = w.tiers; few_tiers = w.few_tiers; backends = w.backends; few_backends = w.few_backends; places = w.places; few_places = w.few_places; in_order = w.in_order; first = w.first; own_bind = w.own_bind; client = client-within (argument_of words); upstream = w.upstream }
within-more draft UpstreamLimit words w short free = record { tiers = w.tiers; few_tiers = w.few_tiers; backends = w.backends; few_backends = w.few_backends; places = w.places; few_places = w.few_places; in_order = w.in_order; first = w.first; own_bind = w.own_bind; client = w.client; upstream = upstream-within (argument_of words) }
within-more draft _ words w short free = record { tiers = w.tiers; few_tiers = w.few_tiers; backends = w.backends; few_backends = w.few_backends; places = w.places; few_places = w.few_places; in_order = w.in_order; first = w.first; own_bind = w.own_bind; client = w.client; upstream = w.upstream }

pub within-none : IsWithin empty_draft
within-none = record { tiers = refl; few_tiers = omega arith; backends = refl; few_backends = omega arith; places = refl; few_places = omega arith; in_order = tt; first = λ e. refl; own_bind = tt; client = tt; upstream = tt }

-- a line that was taken leaves the draft within the limits
pub within-taken : (draft after : Draft) (line : Words) → IsWithin draft → HasShortWords 1048576 line → draft_fault draft line ≡ None → after ≡ with_words draft line → IsWithin after
within-taken draft after line w short none is' = subst IsWithin (sym is') (by-entry (entry_of line) none)
  where
    by-entry : (o : Option Entry) → option_map_or (λ entry. entry_fault (before_draft draft entry.0 (arguments_of line)) entry (arguments_of line)) o (Some 3) ≡ None → IsWithin (option_map_or (λ entry. with_entry draft entry.0 (arguments_of line)) o draft)
    by-entry None none' = cc
    by-entry (Some entry) none' = within-more draft entry.0 (arguments_of line) w (arguments-short 1048576 line short) (clear (before_draft draft entry.0 (arguments_of line)) entry (arguments_of line) none')

-- a limit that is set or is the default
limit-there : (o : Option ℕ) (default : ℕ) → IsLimit default → IfSome o IsLimit → IsLimit (unwrap_or o default)
limit-there None default is-limit there = is-limit
limit-there (Some n) default is-limit there = there

-- a bind of the proxy's own
own_bind-there : (o : Option BindLine) → IfSome o (λ bind. IfSome bind.own_bind IsOwnBind) → IfSome (option_and_then (λ bind. bind.own_bind) o) IsOwnBind
own_bind-there None there = tt
own_bind-there (Some bind) there = there

-- the configuration of such a draft is within the limits
pub within-config : (draft : Draft) → IsWithin draft → IsConfig (finished draft)
within-config draft w = record {
  plan = record {
    few_tiers = subst (λ n. n ≤ 64) (sym w.tiers) w.few_tiers;
    few_backends = subst (λ n. n ≤ 64) (sym w.backends) w.few_backends;
    few_places = subst (λ n. n ≤ 512) (sym w.places) w.few_places;
    in_order = w.in_order;
  };
  hosts = sym w.backends;
  own_bind = own_bind-there draft.bind w.own_bind;
  client_limit = limit-there draft.client_limit client_limit.default (record { some = omega arith; few = omega arith }) w.client;
  upstream_limit = limit-there draft.upstream_limit upstream_limit.default (record { some = omega arith; few = omega arith }) w.upstream;
}

-- and so is one that is equal
pub within-equal : (draft : Draft) (config : Config) → IsWithin draft → config ≡ finished draft → IsConfig config
within-equal draft config w same = subst IsConfig (sym same) (within-config draft w)
