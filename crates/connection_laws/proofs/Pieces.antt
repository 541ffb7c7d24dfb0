-- The entries that the turns of connections of both kinds are made of, each permitted where its rule makes it.
use Rattle.std.proofs.Common.{◌≡◌, ℕ, Bool, true, false, ◌&&◌, not, List, [], ◌∷◌, ◌++◌, refl, ap, ◌∙◌, sym, subst, append_assoc}
use Rattle.std.specs.Prelude.{Option, None, is_none, nat_le}
use Rattle.std.proofs.lemmas.List.{append-nil, map-append}
use Rattle.ldap_spec.specs.Responses.{has_code}
use Rattle.lload_names.specs.declared.names.Entry.{Entry}
use Rattle.lload_names.specs.declared.names.OpName.{OpName}
use Rattle.lload_names.specs.declared.names.EndWhy.{EndWhy}
use Rattle.lload_names.specs.declared.names.EndWhy.TheVariants.{OwnBind, Unfinished}
use Rattle.lload_names.specs.declared.names.PartName.TheVariants.{Up as Connection}
use Rattle.lload_names.specs.declared.names.What.{What}
use Rattle.lload_names.specs.declared.names.What.TheVariants as what
use Rattle.lload_spec.specs.Lists.{first_passes, agrees, implies}
use Rattle.lload_spec.specs.Settings.{Settings}
use Rattle.lload_spec.specs.Entries.{is_up, is_retired, is_down_by, same_why}
use Rattle.lload_spec.specs.OneEach.{begins_with_bind, is_own_bind}
use Rattle.part_spec.specs.Marks.{has_connection_mark}
use Rattle.part_spec.specs.ConnectionState.{is_stopped}
use Rattle.part_spec.specs.Fit.{ConnectionLedger, step_connection_ledger, ledger_behind as behind}
use Rattle.part_spec.specs.Marked.{Marked, Taken, entries}
use Rattle.lload_spec.proofs.Growth.{both}
use Rattle.part_laws.proofs.ListLaws.{first_same}
use Rattle.connection_laws.proofs.Permits.{Permit, Chain, is_own_answer, brings_up, gives_limit, ends_for}
use Rattle.connection_laws.proofs.Pausings.{comes_rightly}
use Rattle.connection_laws.proofs.Clauses.{Opens, due_stays, expired_stays, bad_stays}
use Rattle.part_spec.specs.Share.{is_idle_caused}

-- tests with a part that is known
pub not_due : (b c : Bool) → implies (b && false) c ≡ true
not_due true c = refl
not_due false c = refl

pub where_taken : (a b c d : Bool) → implies a d ≡ true → implies (a && b && c) d ≡ true
where_taken true true true d h = h
where_taken true true false d h = refl
where_taken true false c d h = refl
where_taken false b c d h = refl

pub not_held : (b c : Bool) → b ≡ false → (true && implies b c) ≡ true
not_held true c h = absurd (let bad : true ≡ false = h in cc)
not_held false c h = refl

pub agrees_same : (b : Bool) → agrees b b ≡ true
agrees_same true = refl
agrees_same false = refl

pub implies_true : (b : Bool) → implies b true ≡ true
implies_true true = refl
implies_true false = refl

-- what is no Abandon
pub no_name : {C : Type 0} → false ≡ true → C
no_name h = absurd (let bad : false ≡ true = h in cc)

-- the entry of a connection
abbrev pub up_entry : ℕ → ℕ → What → Entry
up_entry u at w = record { part = Connection u; at = at; what = w }

abbrev pub marked_up : ℕ → ℕ → Option Taken → What → Marked
marked_up u at mark w = record { entry = up_entry u at w; mark = mark }

-- an entry stays permitted with more behind its turn
pub permit_more : (s : Settings) (before : List Marked) (l : ConnectionLedger) (m : Marked) (d M : List Marked) → Opens M → Permit s before l m d → Permit s before l m (d ++ M)
permit_more s before l m d M o k =
    record {
      later = k.later;
      fitting = k.fitting;
      of_connection = k.of_connection;
      begun = k.begun;
      alive = k.alive;
      up = k.up;
      id_right = k.id_right;
      passed = k.passed;
      paused = k.paused;
      waits = k.waits;
      stopped = k.stopped;
      fresh = k.fresh;
      free = k.free;
      first = k.first;
      idle = k.idle;
      expired = expired_stays s M l.state m d k.expired;
      bad = bad_stays M l.state m d k.bad;
      due = due_stays s M l.state m d k.due;
      ups = ap (agrees (brings_up s l.state m.entry.what)) (same (λ e. is_up e.what) o.0) ∙ k.ups;
      retires = ap (agrees (gives_limit s m.entry.what)) (same (λ e. is_retired e.what) o.1) ∙ k.retires;
      own_ends = ap (agrees (is_own_answer l.state (λ r. not (has_code 0 r)) m.entry.what)) (same (is_down_by OwnBind) o.2) ∙ k.own_ends;
      reason = k.reason;
      named = k.named;
      down = k.down;
    }
  where
    same : (t : Entry → Bool) → first_passes t (entries M) ≡ false → first_passes t (entries (d ++ M)) ≡ first_passes t (entries d)
    same t q = ap (first_passes t) (map-append (λ x. x.entry) d M) ∙ first_same t (entries d) (entries M) q

-- a turn of two pieces
pub chain_append : (s : Settings) (A M : List Marked) (before : List Marked) (l : ConnectionLedger) → Opens M → Chain s before l A → Chain s (before ++ A) (behind (step_connection_ledger s) l A) M → Chain s before l (A ++ M)
chain_append s [] M before l o k j = subst (λ b. Chain s b l M) (append-nil before) j
chain_append s (m ∷ A) M before l o k j = (permit_more s before l m A M o k.0, chain_append s A M (before ++ m ∷ []) (step_connection_ledger s l m) o k.1 (subst (λ b. Chain s b (behind (step_connection_ledger s) (step_connection_ledger s l m) A) M) (sym (append_assoc before (m ∷ []) A)) j))

-- Entries, each alone. The connection is linked; what is said of one that isn't down says so.
module _ (s : Settings) (u : ℕ) (before : List Marked) (l : ConnectionLedger) (at : ℕ) (later : nat_le l.state.moment at ≡ true) (linked : l.state.linked ≡ true) where
  pub goes_on : agrees false (not l.state.linked) ≡ true
  goes_on = ap (λ b. agrees false (not b)) linked

  pub no_message_due : (d : List Marked) → (implies (begins_with_bind s l.state.number && false) (first_passes (is_own_bind s) (entries d)) && true) ≡ true
  no_message_due d = both (implies (begins_with_bind s l.state.number && false) (first_passes (is_own_bind s) (entries d))) true (not_due (begins_with_bind s l.state.number) (first_passes (is_own_bind s) (entries d))) refl

  pub permit_end : (mark : Option Taken) (why : EndWhy) → has_connection_mark l.state (marked_up u at mark (what.Down why)) ≡ true → comes_rightly mark ≡ true → l.state.down ≡ false → ends_for s l.state (entries before) (marked_up u at mark (what.Down why)) why ≡ true → Permit s before l (marked_up u at mark (what.Down why)) []
  permit_end mark why fitting fair there cause =
      record {
        later = later;
        fitting = fitting;
        of_connection = refl;
        begun = goes_on;
        alive = ap (λ b. implies b false) there;
        up = refl;
        id_right = refl;
        passed = refl;
        paused = fair;
        waits = refl;
        stopped = refl;
        fresh = refl;
        free = refl;
        first = refl;
        idle = refl;
        expired = refl;
        bad = refl;
        due = no_message_due [];
        ups = refl;
        retires = refl;
        own_ends = refl;
        reason = refl;
        named = λ i j. no_name j;
        down = cause;
      }

  -- an end that no letter brings
  pub permit_down : (why : EndWhy) → same_why why Unfinished ≡ false → l.state.down ≡ false → ends_for s l.state (entries before) (marked_up u at None (what.Down why)) why ≡ true → Permit s before l (marked_up u at None (what.Down why)) []
  permit_down why own there cause = permit_end None why (ap not own) refl there cause

  pub permit_up : l.state.own_bind ≡ None → l.state.down ≡ false → Permit s before l (marked_up u at None what.Up) []
  permit_up own there =
      record {
        later = later;
        fitting = refl;
        of_connection = refl;
        begun = goes_on;
        alive = ap (λ b. implies b false) there;
        up = refl;
        id_right = refl;
        passed = refl;
        paused = refl;
        waits = ap is_none own;
        stopped = refl;
        fresh = refl;
        free = refl;
        first = refl;
        idle = refl;
        expired = refl;
        bad = refl;
        due = no_message_due [];
        ups = refl;
        retires = refl;
        own_ends = refl;
        reason = refl;
        named = λ i j. no_name j;
        down = refl;
      }

  pub permit_retired : l.state.down ≡ false → Permit s before l (marked_up u at None what.Retired) []
  permit_retired there =
      record {
        later = later;
        fitting = refl;
        of_connection = refl;
        begun = goes_on;
        alive = ap (λ b. implies b false) there;
        up = refl;
        id_right = refl;
        passed = refl;
        paused = refl;
        waits = refl;
        stopped = refl;
        fresh = refl;
        free = refl;
        first = refl;
        idle = refl;
        expired = refl;
        bad = refl;
        due = no_message_due [];
        ups = refl;
        retires = refl;
        own_ends = refl;
        reason = refl;
        named = λ i j. no_name j;
        down = refl;
      }

  pub permit_idle : (mark : Option Taken) (op : OpName) → has_connection_mark l.state (marked_up u at mark (what.Idle op)) ≡ true → comes_rightly mark ≡ true → is_idle_caused l.state (marked_up u at mark (what.Idle op)) ≡ true → Permit s before l (marked_up u at mark (what.Idle op)) []
  permit_idle mark op fitting fair idle =
      record {
        later = later;
        fitting = fitting;
        of_connection = refl;
        begun = goes_on;
        alive = implies_true l.state.down;
        up = refl;
        id_right = refl;
        passed = refl;
        paused = fair;
        waits = refl;
        stopped = refl;
        fresh = refl;
        free = refl;
        first = refl;
        idle = idle;
        expired = refl;
        bad = refl;
        due = no_message_due [];
        ups = refl;
        retires = refl;
        own_ends = refl;
        reason = refl;
        named = λ i j. no_name j;
        down = refl;
      }

  pub permit_missed : (mark : Option Taken) (op : OpName) → has_connection_mark l.state (marked_up u at mark (what.Missed op)) ≡ true → comes_rightly mark ≡ true → is_stopped l.state ≡ true → Permit s before l (marked_up u at mark (what.Missed op)) []
  permit_missed mark op fitting fair stop =
      record {
        later = later;
        fitting = fitting;
        of_connection = refl;
        begun = goes_on;
        alive = implies_true l.state.down;
        up = refl;
        id_right = refl;
        passed = refl;
        paused = fair;
        waits = refl;
        stopped = both (is_stopped l.state) true stop refl;
        fresh = refl;
        free = refl;
        first = refl;
        idle = refl;
        expired = refl;
        bad = refl;
        due = no_message_due [];
        ups = refl;
        retires = refl;
        own_ends = refl;
        reason = refl;
        named = λ i j. no_name j;
        down = refl;
      }
