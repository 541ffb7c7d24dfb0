-- A row of a client is of a live operation.
use Rattle.std.proofs.Common.{◌≡◌, ℕ, zero, suc, Bool, true, false, if◌then◌else◌, List, [], ◌∷◌, Some, refl, sym, subst}
use Rattle.std.specs.Prelude.{find, map}
use Rattle.lload_spec.specs.FirstCheck.{LiveRequest, live_request}
use Rattle.part_spec.specs.ClientState.{ClientRow}
use Rattle.part_spec.specs.Fit.{ClientLedger}
use Rattle.lload_spec.specs.Settings.{Settings}
use Rattle.move_laws.specs.World.{Client}
use Rattle.stands_laws.specs.Lists.{Each}
use Rattle.stands_laws.specs.Books.{Book}
use Rattle.stands_laws.specs.ClientStands.{row_of, live_upto, ClientStands}
use Rattle.client_moves_laws.proofs.Lists.{each_append, find_each}

-- the live operation of a row
pub record IsRow (b : Book) (c : ℕ) (x : Client) (r : ClientRow) : Type 0 where
  pub k : ℕ
  pub is : r ≡ row_of b c x k
  pub live : x.live k ≡ true

each_live : (b : Book) (c : ℕ) (x : Client) (n : ℕ) → Each (IsRow b c x) (live_upto x.live (row_of b c x) n)
each_live b c x zero = tt
each_live b c x (suc n) = each_append (IsRow b c x) (live_upto x.live (row_of b c x) n) (if x.live n then row_of b c x n ∷ [] else []) (each_live b c x n) (go (x.live n) refl)
  where
    go : (t : Bool) → x.live n ≡ t → Each (IsRow b c x) (if t then row_of b c x n ∷ [] else [])
    go true e = (record { k = n; is = refl; live = e }, tt)
    go false e = tt

pub each_row : (s : Settings) (b : Book) (c : ℕ) (l : ClientLedger) (x : Client) → ClientStands s b c l x → Each (IsRow b c x) l.state.rows
each_row s b c l x h = subst (Each (IsRow b c x)) (sym h.rows) (each_live b c x x.next)

-- a row that is found
pub record FoundRow (b : Book) (c : ℕ) (x : Client) (t : ClientRow → Bool) (r : ClientRow) : Type 0 where
  pub row : IsRow b c x r
  pub passes : t r ≡ true

pub found_row : (s : Settings) (b : Book) (c : ℕ) (l : ClientLedger) (x : Client) (t : ClientRow → Bool) (r : ClientRow) → ClientStands s b c l x → find t l.state.rows ≡ Some r → FoundRow b c x t r
found_row s b c l x t r h e = let p = find_each (IsRow b c x) t l.state.rows r (each_row s b c l x h) e in record { row = p.0; passes = p.1 }

-- what is found among the live requests is found among the rows
pub find_live : (t : LiveRequest → Bool) (rows : List ClientRow) (y : LiveRequest) → find t (map (λ r. live_request r.request) rows) ≡ Some y → (r : ClientRow) × ((find (λ q. t (live_request q.request)) rows ≡ Some r) × (live_request r.request ≡ y))
find_live t [] y e = absurd (cc)
find_live t (r ∷ rs) y e = go (t (live_request r.request)) e (find_live t rs y)
  where
    go : (q : Bool) → (if q then Some (live_request r.request) else find t (map (λ r. live_request r.request) rs)) ≡ Some y → (find t (map (λ r. live_request r.request) rs) ≡ Some y → (z : ClientRow) × ((find (λ q. t (live_request q.request)) rs ≡ Some z) × (live_request z.request ≡ y))) → (z : ClientRow) × (((if q then Some r else find (λ q. t (live_request q.request)) rs) ≡ Some z) × (live_request z.request ≡ y))
    go true i ih = (r, (refl, cc))
    go false i ih = ih i
