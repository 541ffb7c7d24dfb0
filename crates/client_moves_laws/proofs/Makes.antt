-- What a client makes, but for its pauses and for what is said of each operation's book.
use Rattle.std.proofs.Common.{◌≡◌, ℕ, Bool, List, [], ◌∷◌, ◌++◌, Option, refl, ap, ◌∙◌, sym, subst, append-nil, append_assoc}
use Rattle.lload_names.specs.declared.names.Letter.{Letter}
use Rattle.lload_names.specs.declared.names.PartName.TheVariants.{Desk, Up as Connection}
use Rattle.lload_names.specs.declared.names.Posted.{Posted}
use Rattle.lload_names.specs.declared.names.What.{What}
use Rattle.lload_spec.specs.Settings.{Settings}
use Rattle.part_spec.specs.Inputs.{Act, act}
use Rattle.part_spec.specs.Fit.{ClientLedger}
use Rattle.part_spec.specs.Marked.{Taken, letters_to}
use Rattle.move_laws.specs.World.{Client}
use Rattle.stands_laws.specs.Lists.{Pairs}
use Rattle.stands_laws.specs.Books.{Book, is_bind_op}
use Rattle.stands_laws.specs.Letters.{AskIs, OrderIs}
use Rattle.stands_laws.specs.ClientSides.{ClientSide, ClientMove, client_move, client_moves}
use Rattle.stands_laws.specs.ClientStands.{ClientStands, serves}
use Rattle.stands_laws.specs.Follows.{client_behind, client_ledger_behind}
use Rattle.link_laws.proofs.Links.{letters_more}

pub record Makes (s : Settings) (b : Book) (c at : ℕ) (mark : Option Taken) (l : ClientLedger) (a : Act) (y : ClientSide) (ms : List ClientMove) : Type 0 where
  pub stands : ClientStands s b c (client_ledger_behind s at mark l a) (client_behind s b c y ms).row
  pub asks : (q : List Letter) → Pairs (AskIs b c) q y.asks → Pairs (AskIs b c) (q ++ letters_to Desk a.letters) (client_behind s b c y ms).asks
  pub orders : (u : ℕ) (q : List Letter) → Pairs (OrderIs s b c) q (y.orders u) → Pairs (OrderIs s b c) (q ++ letters_to (Connection u) a.letters) ((client_behind s b c y ms).orders u)

pub moves_append : (bind serve : ℕ → Bool) (y : ClientSide) (ms ns : List ClientMove) → client_moves bind serve y (ms ++ ns) ≡ client_moves bind serve (client_moves bind serve y ms) ns
moves_append bind serve y [] ns = refl
moves_append bind serve y (m ∷ ms) ns = moves_append bind serve (client_move bind serve y m) ms ns

-- nothing is said of pauses
pub stands_paused : (s : Settings) (b : Book) (c : ℕ) (l : ClientLedger) (x : Client) (f : ℕ → Bool) → ClientStands s b c l x → ClientStands s b c l (record x { paused = f })
stands_paused s b c l x f h = record {
  number = h.number;
  next = h.next;
  gone = h.gone;
  rows = h.rows;
  hold = h.hold;
  exchange = h.exchange;
  left = h.left;
  dead = h.dead;
  quiet = h.quiet;
  bound = h.bound;
  busy = h.busy;
  one = h.one;
  below = h.below;
  ids = h.ids;
  kinds = h.kinds;
  asked = h.asked;
  expected = h.expected;
}

-- moves that change only pauses, and their letters, behind others
pub makes_more : (s : Settings) (b : Book) (c at : ℕ) (mark : Option Taken) (l : ClientLedger) (whats : List What) (first second : List Posted) (y : ClientSide) (ms ns : List ClientMove) (f : ℕ → Bool)
    → Makes s b c at mark l (act whats first) y ms → (client_behind s b c (client_behind s b c y ms) ns).row ≡ record (client_behind s b c y ms).row { paused = f }
    → (client_behind s b c (client_behind s b c y ms) ns).asks ≡ (client_behind s b c y ms).asks → letters_to Desk second ≡ []
    → ((u : ℕ) (q : List Letter) → Pairs (OrderIs s b c) q ((client_behind s b c y ms).orders u) → Pairs (OrderIs s b c) (q ++ letters_to (Connection u) second) ((client_behind s b c (client_behind s b c y ms) ns).orders u))
    → Makes s b c at mark l (act whats (first ++ second)) y (ms ++ ns)
makes_more s b c at mark l whats first second y ms ns f h row asks none orders =
    let append = moves_append (is_bind_op b c) (serves s) y ms ns in
    record {
      stands = subst (λ (z : ClientSide). ClientStands s b c (client_ledger_behind s at mark l (act whats first)) z.row) (sym append)
          (subst (λ (x : Client). ClientStands s b c (client_ledger_behind s at mark l (act whats first)) x) (sym row) (stands_paused s b c _ _ f h.stands));
      asks = λ q p. subst (λ (z : ClientSide). Pairs (AskIs b c) (q ++ letters_to Desk (first ++ second)) z.asks) (sym append)
          (subst (λ z. Pairs (AskIs b c) (q ++ letters_to Desk (first ++ second)) z) (sym asks)
          (subst (λ (z : List Letter). Pairs (AskIs b c) (q ++ z) (client_behind s b c y ms).asks) (sym (letters_more Desk first second ∙ ap (λ (z : List Letter). letters_to Desk first ++ z) none ∙ append-nil (letters_to Desk first))) (h.asks q p)));
      orders = λ u q p. subst (λ (z : ClientSide). Pairs (OrderIs s b c) (q ++ letters_to (Connection u) (first ++ second)) (z.orders u)) (sym append)
          (subst (λ (z : List Letter). Pairs (OrderIs s b c) z ((client_behind s b c (client_behind s b c y ms) ns).orders u)) (sym (grown u q)) (orders u (q ++ letters_to (Connection u) first) (h.orders u q p)));
    }
  where
    grown : (u : ℕ) (q : List Letter) → q ++ letters_to (Connection u) (first ++ second) ≡ (q ++ letters_to (Connection u) first) ++ letters_to (Connection u) second
    grown u q = ap (λ (z : List Letter). q ++ z) (letters_more (Connection u) first second) ∙ sym (append_assoc q (letters_to (Connection u) first) (letters_to (Connection u) second))
