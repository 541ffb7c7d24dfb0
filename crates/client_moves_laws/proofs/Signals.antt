-- Pauses, and their ends: one signal to each of some connections.
use Rattle.std.proofs.Common.{◌≡◌, ℕ, ◌<◌, Bool, true, false, ◌==◌, ◌&&◌, ◌||◌, not, if◌then◌else◌, List, [], ◌∷◌, ◌++◌, refl, ap, ◌∙◌, sym, subst, arith, append-nil, append_assoc}
use Rattle.std.specs.Prelude.{map}
use Rattle.std.specs.List.{list_any}
use Rattle.std.proofs.lemmas.Bool.{eqb-true, ne_eqb}
use Rattle.lload_names.specs.declared.names.Letter.{Letter}
use Rattle.lload_names.specs.declared.names.PartName.TheVariants.{Desk, Up as Connection}
use Rattle.lload_names.specs.declared.names.Posted.{Posted}
use Rattle.lload_spec.specs.Settings.{Settings}
use Rattle.part_spec.specs.Marked.{letters_to}
use Rattle.move_laws.specs.World.{Client, ToConn, Signal, at, put}
use Rattle.move_laws.specs.Clients.{may_signal, signal_row, signal_letter}
use Rattle.stands_laws.specs.Lists.{Pairs, Each, EachTwo}
use Rattle.stands_laws.specs.Books.{Book, is_bind_op}
use Rattle.stands_laws.specs.Letters.{OrderIs, signal_of}
use Rattle.stands_laws.specs.ClientSides.{ClientSide, ClientMove, Signaling, client_move}
use Rattle.stands_laws.specs.ClientStands.{serves}
use Rattle.stands_laws.specs.Follows.{client_behind}
use Rattle.stands_laws.proofs.Pairs.{pairs_append}
use Rattle.stands_laws.proofs.Tests.{same_self}

-- to each of these connections, on account of this operation
abbrev pub signals : (ℕ → ℕ) → List ℕ → List ClientMove
signals g [] = []
signals g (u ∷ us) = Signaling (g u) u ∷ signals g us

abbrev pub signal_letters : ℕ → Bool → List ℕ → List Posted
signal_letters c t us = map (λ u. record { to = Connection u; letter = signal_of c t }) us

-- who is paused behind them
abbrev pub put_all : List ℕ → Bool → (ℕ → Bool) → ℕ → Bool
put_all [] t f = f
put_all (u ∷ us) t f = put_all us t (put f u t)

put_one : (t : Bool) (f : ℕ → Bool) (u v : ℕ) → put f u t v ≡ (if (u == v) || false then t else f v)
put_one t f u v = go (u == v) refl
  where
    go : (q : Bool) → (u == v) ≡ q → put f u t v ≡ (if q || false then t else f v)
    go true e = ap (λ (i : ℕ). if v == i then t else f v) (eqb-true u v e) ∙ ap (λ (z : Bool). if z then t else f v) (same_self v)
    go false e = ap (λ (z : Bool). if z then t else f v) (ne_eqb v u (λ i. let bad : false ≡ true = sym e ∙ (ap (λ (n : ℕ). u == n) i ∙ same_self u) in absurd (cc)))

put_before : (us : List ℕ) (t : Bool) (f : ℕ → Bool) (u v : ℕ) → put_all us t (put f u t) v ≡ (if (u == v) || list_any (λ n. n == v) us then t else f v)
put_before [] t f u v = put_one t f u v
put_before (w ∷ us) t f u v = put_before us t (put f u t) w v ∙ go (w == v) (list_any (λ n. n == v) us) (put_one t f u v)
  where
    go : (q r : Bool) → put f u t v ≡ (if (u == v) || false then t else f v) → (if q || r then t else put f u t v) ≡ (if (u == v) || (q || r) then t else f v)
    go true r e = here (u == v)
      where
        here : (z : Bool) → t ≡ (if z || true then t else f v)
        here true = refl
        here false = refl
    go false true e = here (u == v)
      where
        here : (z : Bool) → t ≡ (if z || true then t else f v)
        here true = refl
        here false = refl
    go false false e = e

pub put_all_at : (us : List ℕ) (t : Bool) (f : ℕ → Bool) (v : ℕ) → put_all us t f v ≡ (if list_any (λ n. n == v) us then t else f v)
put_all_at [] t f v = refl
put_all_at (u ∷ us) t f v = put_before us t f u v

-- one signal
signal_one : (s : Settings) (b : Book) (c k u : ℕ) (t : Bool) (y : ClientSide) → may_signal (serves s u) k u y.row ≡ true → y.row.paused u ≡ t
    → client_move (is_bind_op b c) (serves s) y (Signaling k u) ≡ record y { row = record y.row { paused = put y.row.paused u (not t) }; orders = λ v. y.orders v ++ (if v == u then Signal (not t) ∷ [] else []) }
signal_one s b c k u t y may e = λ i. record y {
  row = (ap (λ (q : Bool). signal_row q u y.row) may ∙ ap (λ (q : Bool). record y.row { paused = put y.row.paused u (not q) }) e) i;
  orders = λ v. y.orders v ++ (ap (λ (q : Bool). signal_letter q u y.row v) may ∙ ap (λ (q : Bool). if v == u then Signal (not q) ∷ [] else []) e) i;
}

-- whether a client may signal a connection whose state is this
abbrev pub may_be : Settings → (ℕ → ℕ) → Bool → Client → ℕ → Bool
may_be s g t x u = not (serves s u) && (t || at (x.given (g u)) u)

-- what is said of later connections stays
later : (t : Bool) (f : ℕ → Bool) (u : ℕ) (us : List ℕ) → Each (λ v. u < v) us → Each (λ v. f v ≡ t) us → Each (λ v. put f u (not t) v ≡ t) us
later t f u [] a h = tt
later t f u (v ∷ us) a h = (ap (λ (z : Bool). if z then not t else f v) (ne_eqb v u (λ e. omega (arith, a.0, e))) ∙ h.0, later t f u us a.1 h.1)

module _ (s : Settings) (b : Book) (c : ℕ) (g : ℕ → ℕ) (t : Bool) where
  abbrev signaled : ClientSide → ℕ → ClientSide
  signaled y u = record y { row = record y.row { paused = put y.row.paused u (not t) }; orders = λ v. y.orders v ++ (if v == u then Signal (not t) ∷ [] else []) }

  may_here : (x : Client) (u : ℕ) → may_be s g t x u ≡ true → x.paused u ≡ t → may_signal (serves s u) (g u) u x ≡ true
  may_here x u m e = ap (λ (q : Bool). not (serves s u) && (q || at (x.given (g u)) u)) e ∙ m

  pub signals_row : (us : List ℕ) (y : ClientSide) → EachTwo (λ u v. u < v) us → Each (λ u. y.row.paused u ≡ t) us → Each (λ u. may_be s g t y.row u ≡ true) us
      → (client_behind s b c y (signals g us)).row ≡ record y.row { paused = put_all us (not t) y.row.paused }
  signals_row [] y a h m = refl
  signals_row (u ∷ us) y a h m =
      ap (λ (z : ClientSide). (client_behind s b c z (signals g us)).row) (signal_one s b c (g u) u t y (may_here y.row u m.0 h.0) h.0)
      ∙ signals_row us (signaled y u) a.1 (later t y.row.paused u us a.0 h.1) m.1

  pub signals_asks : (us : List ℕ) (y : ClientSide) → (client_behind s b c y (signals g us)).asks ≡ y.asks
  signals_asks [] y = refl
  signals_asks (u ∷ us) y = signals_asks us (client_move (is_bind_op b c) (serves s) y (Signaling (g u) u))

  pub signals_choices : (us : List ℕ) (y : ClientSide) → (client_behind s b c y (signals g us)).choices ≡ y.choices
  signals_choices [] y = refl
  signals_choices (u ∷ us) y = signals_choices us (client_move (is_bind_op b c) (serves s) y (Signaling (g u) u))

  pub signals_answers : (us : List ℕ) (y : ClientSide) → (client_behind s b c y (signals g us)).answers ≡ y.answers
  signals_answers [] y = refl
  signals_answers (u ∷ us) y = signals_answers us (client_move (is_bind_op b c) (serves s) y (Signaling (g u) u))

  one_order : (u v : ℕ) (q : List Letter) (z : List ToConn) → Pairs (OrderIs s b c) q z → Pairs (OrderIs s b c) (q ++ (elim (v == u) [ true ↦ signal_of c (not t) ∷ [] | false ↦ [] ])) (z ++ (if v == u then Signal (not t) ∷ [] else []))
  one_order u v q z p = pairs_append (OrderIs s b c) q z _ _ p (go (v == u))
    where
      go : (r : Bool) → Pairs (OrderIs s b c) (elim r [ true ↦ signal_of c (not t) ∷ [] | false ↦ [] ]) (if r then Signal (not t) ∷ [] else [])
      go true = (refl, tt)
      go false = tt

  pub signals_orders : (us : List ℕ) (y : ClientSide) (v : ℕ) (q : List Letter) → EachTwo (λ u v. u < v) us → Each (λ u. y.row.paused u ≡ t) us → Each (λ u. may_be s g t y.row u ≡ true) us → Pairs (OrderIs s b c) q (y.orders v)
      → Pairs (OrderIs s b c) (q ++ letters_to (Connection v) (signal_letters c (not t) us)) ((client_behind s b c y (signals g us)).orders v)
  signals_orders [] y v q a h m p = subst (λ (z : List Letter). Pairs (OrderIs s b c) z (y.orders v)) (sym (append-nil q)) p
  signals_orders (u ∷ us) y v q a h m p =
      subst (λ (z : ClientSide). Pairs (OrderIs s b c) (q ++ letters_to (Connection v) (signal_letters c (not t) (u ∷ us))) ((client_behind s b c z (signals g us)).orders v)) (sym (signal_one s b c (g u) u t y (may_here y.row u m.0 h.0) h.0))
      (subst (λ (z : List Letter). Pairs (OrderIs s b c) z ((client_behind s b c (signaled y u) (signals g us)).orders v)) (append_assoc q (elim (v == u) [ true ↦ signal_of c (not t) ∷ [] | false ↦ [] ]) (letters_to (Connection v) (signal_letters c (not t) us)))
      (signals_orders us (signaled y u) v (q ++ (elim (v == u) [ true ↦ signal_of c (not t) ∷ [] | false ↦ [] ])) a.1 (later t y.row.paused u us a.0 h.1) m.1 (one_order u v q (y.orders v) p)))

-- no signal is for the desk
pub no_signals : (c : ℕ) (t : Bool) (us : List ℕ) → letters_to Desk (signal_letters c t us) ≡ []
no_signals c t [] = refl
no_signals c t (u ∷ us) = no_signals c t us
