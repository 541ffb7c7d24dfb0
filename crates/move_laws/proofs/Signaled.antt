-- A signal changes nothing but which connections its client pauses, and no count of what waits but its own.
use Rattle.std.proofs.Common.{◌≡◌, ℕ, Bool, true, false, ◌==◌, not, inl, if◌then◌else◌, List, [], ◌∷◌, ◌++◌, arith, refl, ◌∙◌, sym, subst}
use Rattle.std.proofs.lemmas.List.{append-nil}
use Rattle.move_laws.specs.World.{Client, ToConn, Signal}
use Rattle.move_laws.specs.Clients.{signal_row, signal_letter}
use Rattle.move_laws.specs.Counts.{forwards, drops, firsts, sends, unders, leaves, DropsLast, LeavesLast}
use Rattle.move_laws.proofs.Appends.{forwards_append, drops_append, drops_last_append}
use Rattle.move_laws.proofs.BindCounts.{firsts_append, sends_append, unders_append, leaves_append, leaves_last_append}

signaled : (b g : Bool) (v : ℕ) (x : Client) → (if b then signal_row g v x else x) ≡ record x { paused = (if b then signal_row g v x else x).paused }
signaled false g v x = refl
signaled true false v x = refl
signaled true true v x = refl

-- what doesn't speak of pauses stays of a client
pub stays_signaled : (P : Client → Type 0) (b g : Bool) (v : ℕ) (x : Client) → P (record x { paused = (if b then signal_row g v x else x).paused }) → P (if b then signal_row g v x else x)
stays_signaled P b g v x h = subst P (sym (signaled b g v x)) h

-- what another signal behind them doesn't change stays of its orders
pub stays_with_signal : (P : List ToConn → Type 0) → ((t : Bool) (q : List ToConn) → P q → P (q ++ Signal t ∷ [])) → (b g : Bool) (v u : ℕ) (x : Client) (q : List ToConn) → P q → P (if b then q ++ signal_letter g v x u else q)
stays_with_signal P more false g v u x q h = h
stays_with_signal P more true false v u x q h = subst P (sym (append-nil q)) h
stays_with_signal P more true true v u x q h = by (u == v)
  where
    by : (t : Bool) → P (q ++ (if t then Signal (not (x.paused v)) ∷ [] else []))
    by true = more (not (x.paused v)) q h
    by false = subst P (sym (append-nil q)) h

-- a count to which signals add nothing
same_count : (count : List ToConn → ℕ) → ((t : Bool) (q : List ToConn) → count (q ++ Signal t ∷ []) ≡ count q) → (b g : Bool) (v u : ℕ) (x : Client) (q : List ToConn) → count (if b then q ++ signal_letter g v x u else q) ≡ count q
same_count count none b g v u x q = stays_with_signal (λ p. count p ≡ count q) (λ t p h. none t p ∙ h) b g v u x q refl

pub forwards_signal : (k : ℕ) (b g : Bool) (v u : ℕ) (x : Client) (q : List ToConn) → forwards k (if b then q ++ signal_letter g v x u else q) ≡ forwards k q
forwards_signal k = same_count (forwards k) (λ t q. omega (arith, forwards_append k q (Signal t ∷ [])))

pub drops_signal : (k : ℕ) (b g : Bool) (v u : ℕ) (x : Client) (q : List ToConn) → drops k (if b then q ++ signal_letter g v x u else q) ≡ drops k q
drops_signal k = same_count (drops k) (λ t q. omega (arith, drops_append k q (Signal t ∷ [])))

pub firsts_signal : (k : ℕ) (b g : Bool) (v u : ℕ) (x : Client) (q : List ToConn) → firsts k (if b then q ++ signal_letter g v x u else q) ≡ firsts k q
firsts_signal k = same_count (firsts k) (λ t q. omega (arith, firsts_append k q (Signal t ∷ [])))

pub sends_signal : (b g : Bool) (v u : ℕ) (x : Client) (q : List ToConn) → sends (if b then q ++ signal_letter g v x u else q) ≡ sends q
sends_signal = same_count sends (λ t q. omega (arith, sends_append q (Signal t ∷ [])))

pub unders_signal : (k : ℕ) (b g : Bool) (v u : ℕ) (x : Client) (q : List ToConn) → unders k (if b then q ++ signal_letter g v x u else q) ≡ unders k q
unders_signal k = same_count (unders k) (λ t q. omega (arith, unders_append k q (Signal t ∷ [])))

pub leaves_signal : (k : ℕ) (b g : Bool) (v u : ℕ) (x : Client) (q : List ToConn) → leaves k (if b then q ++ signal_letter g v x u else q) ≡ leaves k q
leaves_signal k = same_count (leaves k) (λ t q. omega (arith, leaves_append k q (Signal t ∷ [])))

pub drops_last_signal : (k : ℕ) (b g : Bool) (v u : ℕ) (x : Client) (q : List ToConn) → DropsLast k q → DropsLast k (if b then q ++ signal_letter g v x u else q)
drops_last_signal k = stays_with_signal (DropsLast k) (λ t q h. drops_last_append k q (Signal t ∷ []) (inl refl) tt h)

pub leaves_last_signal : (k : ℕ) (b g : Bool) (v u : ℕ) (x : Client) (q : List ToConn) → LeavesLast k q → LeavesLast k (if b then q ++ signal_letter g v x u else q)
leaves_last_signal k = stays_with_signal (LeavesLast k) (λ t q h. leaves_last_append k q (Signal t ∷ []) (inl refl) tt h)
