-- What the desk's state, with the letters that it took, says of the machine's desk.
use Rattle.std.specs.Prelude.{◌≡◌, ℕ, true, ◌==◌, ◌&&◌, not}
use Rattle.std.specs.List.{list_any}
use Rattle.lload_spec.specs.News.{tells_up, tells_retired, tells_down}
use Rattle.part_spec.specs.Fit.{DeskLedger, is_ask_of, is_pending}
use Rattle.move_laws.specs.World.{Desk, is}
use Rattle.stands_laws.specs.Books.{Book, name, is_bind_op}

pub record DeskStands (b : Book) (l : DeskLedger) (d : Desk) : Type 0 where
  pub took : (c k : ℕ) → list_any (λ t. is_ask_of (name c k) t.letter) l.taken ≡ d.took c k
  pub pending : (c k u : ℕ) → is_pending l.state (name c k) u ≡ d.pending c k u
  pub single : (c k u v : ℕ) → d.pending c k u ≡ true → d.pending c k v ≡ true → u ≡ v
  pub used : (u c k : ℕ) → is (d.user u) c k ≡ true → (d.pending c k u ≡ true) × (is_bind_op b c k ≡ true)
  pub viable : (u : ℕ)
      → list_any (λ n. n == u) l.state.viable ≡ (d.up u && not (d.retired u) && not (d.down u))
  pub ups : (u : ℕ) → list_any (λ t. tells_up u t.letter) l.taken ≡ d.up u
  pub retireds : (u : ℕ) → list_any (λ t. tells_retired u t.letter) l.taken ≡ d.retired u
  pub downs : (u : ℕ) → list_any (λ t. tells_down u t.letter) l.taken ≡ d.down u
