-- What the part stands for where an operation ended.
use Rattle.std.proofs.Common.{◌≡◌, ◌≤◌, ◌<◌, ◌+◌, ◌-◌, ℕ, ℤ, Bool, true, false, not, ◌==◌, ◌&&◌, ◌||◌, max, cond, if◌then◌else◌, List, [], ◌∷◌, ◌++◌, filter, find, length, map, Option, Some, None, suc, arith, refl, ap, subst, sym, ◌∙◌}
use Rattle.std.proofs.lemmas.Bool.Decides.{nat_tests}
use Rattle.std.specs.Prelude.{is_some}
use Rattle.std.specs.List.{list_any}
use Rattle.lload_spec.specs.Binding.{is_action}
use Rattle.lload_spec.specs.BindingCalls.{Call, WriteEnded, standing}
use Rattle.lload_spec.specs.Settings.{Settings, Write}
use Rattle.lload_spec.specs.Window.{Standing}
use Rattle.part_spec.specs.ClientState.{ClientRow, ClientState, Window as WindowBy, is_written, without}
use Rattle.client_rows.specs.Rows.{Counted, has_number, went_to, IsNumbered, Rises, one}
use Rattle.client_rows.specs.Rows as rows
use Rattle.client_rows.specs.declared.row.Row.{Row}
use Rattle.client_rows.proofs.Index.{count-without}
use Rattle.client_session.specs.declared.part.ClientPart.{ClientPart}
use Rattle.client_session.specs.Stands.{Seen, seen, shown, way_of, written, standing_for, Live, Binds, Stands}
use Rattle.client_session.proofs.Through.{any-through, filter-through, count-through}
use Rattle.client_session.proofs.Views.{any-same}
use Rattle.client_session.proofs.Windows.{standing-ended}

abbrev written_seen : Seen → Bool
written_seen v = is_action Write v.action && is_some (went_to v.way)

went-some : (rest : List ℕ) (o : Option ℕ) → is_some o ≡ is_some (went_to (way_of rest o))
went-some rest None = refl
went-some rest (Some u) = refl

written-seen : (s : Settings) (r : ClientRow) → is_written r ≡ written_seen (seen s r)
written-seen s r = ap (λ b. is_action Write r.action && b) (went-some r.request.rest r.connection)

count-same : {A : Type 0} (p q : A → Bool) (xs : List A) → ((x : A) → p x ≡ q x) → length (filter p xs) ≡ length (filter q xs)
count-same p q [] e = refl
count-same p q (x ∷ xs) e = by (q x) (e x) (count-same p q xs e)
  where
    by : (b : Bool) → p x ≡ b → length (filter p xs) ≡ length (filter q xs) → length (filter p (x ∷ xs)) ≡ length (cond b (x ∷ filter q xs) (filter q xs))
    by true h ih = rw h (ap suc ih)
    by false h ih = rw h ih

-- as many writes are live in the state as in the part
pub writes-shown : (s : Settings) (xs : List ClientRow) (ys : List Row) → map (seen s) xs ≡ map shown ys → length (filter is_written xs) ≡ length (filter written ys)
writes-shown s xs ys e = count-same is_written (λ r. written_seen (seen s r)) xs (written-seen s) ∙ count-through (seen s) shown written_seen xs ys e

-- no operation has a lower number
none-low : (p : Row → Bool) (k low : ℕ) (rs : List Row) (next : ℕ) → k < low → Rises low rs next → list_any (λ r. has_number k r && p r) rs ≡ false
none-low p k low [] next l h = refl
none-low p k low (r ∷ rs) next l h =
    let other : has_number k r ≡ false = grind (arith, nat_tests, l, h.0) in
    rw other (none-low p k (r.k + 1) rs next (omega (arith, l, h.0)) h.1)

any-number : (p : Row → Bool) (k low : ℕ) (rs : List Row) (next : ℕ) (r : Row) → Rises low rs next → find (has_number k) rs ≡ Some r → list_any (λ x. has_number k x && p x) rs ≡ p r
any-number p k low [] next r h f = absurd (let bad : ◌≡◌ {A = Option Row} None (Some r) = f in cc)
any-number p k low (x ∷ rs) next r h f = by (has_number k x) refl f (any-number p k (x.k + 1) rs next r h.1)
  where
    or-none : (b : Bool) → (b || false) ≡ b
    or-none true = refl
    or-none false = refl

    by : (b : Bool) → has_number k x ≡ b → cond b (Some x) (find (has_number k) rs) ≡ Some r → (find (has_number k) rs ≡ Some r → list_any (λ x. has_number k x && p x) rs ≡ p r) → (b && p x || list_any (λ x. has_number k x && p x) rs) ≡ p r
    by true t e ih =
        let is : x.k ≡ k = grind (arith, nat_tests, t) in
        let same : x ≡ r = cc in
        rw (none-low p k (x.k + 1) rs next (omega (arith, is)) h.1) (or-none (p x) ∙ ap p same)
    by false t e ih = ih e

-- whether a write with this number ended
pub write-ended : (s : Settings) (k : ℕ) (xs : List ClientRow) (o : Counted) (r : Row) → IsNumbered o → map (seen s) xs ≡ map shown o.rows → find (has_number k) o.rows ≡ Some r → list_any (λ x. x.k == k && is_written x) xs ≡ written r
write-ended s k xs o r n e f =
    any-same (λ x. x.k == k && is_written x) (λ x. (seen s x).k == k && written_seen (seen s x)) xs (λ x. ap (λ b. x.k == k && b) (written-seen s x))
    ∙ any-through (seen s) shown (λ v. v.k == k && written_seen v) xs o.rows e
    ∙ any-number written k 0 o.rows (o.count + 1) r n f

binds-ended : (s : Settings) (k at : ℕ) (xs : List ClientRow) (o : Counted) (r : Row) (w : WindowBy) (old new : Standing) (b : Bool) → written r ≡ b → IsNumbered o → map (seen s) xs ≡ map shown o.rows → find (has_number k) o.rows ≡ Some r → ((calls : List Call) → b ≡ true → 0 < old.live → old ≡ standing old.seconds calls → new ≡ standing old.seconds (calls ++ WriteEnded at ∷ [])) → (b ≡ false → new ≡ old) → Binds s xs w old → Binds s (filter (λ x. not (x.k == k)) xs) (record w { write_ended = if b then max at w.write_ended else w.write_ended }) new
binds-ended s k at xs o r w old new true t n e f ended same h =
    let left = filter (λ x. not (x.k == k)) xs in
    let total : length (filter is_written xs) ≡ old.live = ap (λ x. x.live) h.says in
    let fewer : length (filter is_written left) ≡ length (filter written (rows.without k o.rows)) = writes-shown s left (rows.without k o.rows) (filter-through (seen s) shown (λ v. not (v.k == k)) xs o.rows e) in
    let all : length (filter is_written xs) ≡ length (filter written o.rows) = writes-shown s xs o.rows e in
    let count : length (filter written (rows.without k o.rows)) + one true ≡ length (filter written o.rows) = rw t at (count-without written k 0 o.rows (o.count + 1) r n f) in
    let seconds : old.seconds ≡ s.write_coherence = ap (λ x. x.seconds) h.kept_is in
    let Was : ℤ → Type 0 = λ z. old ≡ standing z h.calls in
    let Is : ℤ → Type 0 = λ z. new ≡ standing z (h.calls ++ WriteEnded at ∷ []) in
    let is : new ≡ standing s.write_coherence (h.calls ++ WriteEnded at ∷ []) = subst Is seconds (ended h.calls refl (omega (arith, total, all, count)) (subst Was (sym seconds) h.kept_is)) in
    let less : length (filter is_written left) ≡ old.live - 1 = omega (arith, total, fewer, all, count) in
    let change : Standing → Standing = λ x. record x { live = x.live - 1; ended = max at x.ended } in
    let make : ℕ → Standing = λ live. record (standing_for s xs w) { live = live; ended = max at w.write_ended } in
    record {
      calls = h.calls ++ WriteEnded at ∷ [];
      kept_is = is;
      says = ap make (less ∙ ap (λ x. x.live - 1) (sym h.says)) ∙ ap change h.says ∙ ap change h.kept_is ∙ sym (standing-ended s.write_coherence at h.calls) ∙ sym is;
    }
binds-ended s k at xs o r w old new false t n e f ended same h =
    let left = filter (λ x. not (x.k == k)) xs in
    let fewer : length (filter is_written left) ≡ length (filter written (rows.without k o.rows)) = writes-shown s left (rows.without k o.rows) (filter-through (seen s) shown (λ v. not (v.k == k)) xs o.rows e) in
    let all : length (filter is_written xs) ≡ length (filter written o.rows) = writes-shown s xs o.rows e in
    let count : length (filter written (rows.without k o.rows)) + one false ≡ length (filter written o.rows) = rw t at (count-without written k 0 o.rows (o.count + 1) r n f) in
    let same_count : length (filter is_written left) ≡ length (filter is_written xs) = omega (arith, fewer, all, count) in
    let make : ℕ → Standing = λ live. record (standing_for s xs w) { live = live } in
    record { calls = h.calls; kept_is = same refl ∙ h.kept_is; says = ap make same_count ∙ h.says ∙ sym (same refl) }

shorter : (t : Row → Bool) (rs : List Row) → length (filter t rs) ≤ length rs
shorter t [] = omega arith
shorter t (r ∷ rs) = grind (arith, shorter t rs)

-- an operation of the part ended
pub one-ended : (s : Settings) (k at : ℕ) (p : ClientState) (d : ClientPart) (o : Counted) (r : Row) (new : Standing) → IsNumbered d.operations → find (has_number k) d.operations.rows ≡ Some r → o ≡ record { count = d.operations.count; rows = rows.without k d.operations.rows } → ((calls : List Call) → written r ≡ true → 0 < d.window.live → d.window ≡ standing d.window.seconds calls → new ≡ standing d.window.seconds (calls ++ WriteEnded at ∷ [])) → (written r ≡ false → new ≡ d.window) → Stands s p d → Stands s (without (λ x. x.k == k) at p) (record d { operations = o; window = new })
one-ended s k at p d o r new n f is ended same h =
    let wrote = write-ended s k p.rows d.operations r n h.live.rows_are f in
    let left = filter-through (seen s) shown (λ v. not (v.k == k)) p.rows d.operations.rows h.live.rows_are in
    rw is (record {
      settings = h.settings;
      number = h.number;
      moment = h.moment;
      arrived = h.arrived;
      gone = h.gone;
      live = record { count_is = h.live.count_is; rows_are = left };
      asks = h.asks;
      identity = h.identity;
      in_exchange = h.in_exchange;
      hold = h.hold;
      binds = λ there. rw wrote (binds-ended s k at p.rows d.operations r p.window d.window new (written r) refl n h.live.rows_are f ended same (h.binds there));
      stalled = h.stalled;
      paused = h.paused;
      idle = h.idle;
      room = λ there stays. let old = h.room there stays in let less = shorter (λ r. not (has_number k r)) d.operations.rows in omega (arith, old, less);
    })
