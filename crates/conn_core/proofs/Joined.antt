-- Two acts, one behind the other.
use Rattle.std.proofs.Common.{◌≡◌, ℕ, List, [], ◌∷◌, ◌++◌, map, Option, None, refl, ap, ◌∙◌, sym, append_assoc}
use Rattle.std.proofs.lemmas.List.{append-nil}
use Rattle.lload_names.specs.declared.names.Entry.{Entry}
use Rattle.lload_names.specs.declared.names.PartName.{PartName}
use Rattle.lload_names.specs.declared.names.PartName.TheVariants.{Up as Connection}
use Rattle.lload_names.specs.declared.names.What.{What}
use Rattle.lload_spec.specs.Settings.{Settings}
use Rattle.part_spec.specs.Marked.{Marked, Taken}
use Rattle.part_spec.specs.Inputs.{Act, also, nothing, entries_of, marked_by}
use Rattle.part_spec.specs.ConnectionState.{ConnectionState, step_connection, step_connections}
use Rattle.part_spec.specs.ConnectionTurn.{behind_act}
use Rattle.outbox.specs.declared.outbox.Outbox.{Outbox}
use Rattle.conn_core.specs.Did.{Did}

pub entries-append : (part : PartName) (at : ℕ) (ws vs : List What) → entries_of part at (ws ++ vs) ≡ entries_of part at ws ++ entries_of part at vs
entries-append part at [] vs = refl
entries-append part at (w ∷ ws) vs = ap (λ l. record { part = part; at = at; what = w } ∷ l) (entries-append part at ws vs)

pub steps-append : (s : Settings) (p : ConnectionState) (ms ns : List Marked) → step_connections s p (ms ++ ns) ≡ step_connections s (step_connections s p ms) ns
steps-append s p [] ns = refl
steps-append s p (m ∷ ms) ns = steps-append s (step_connection s p m) ms ns

unmarked-append : (es fs : List Entry) → map (λ x. let m : Marked = record { entry = x; mark = None } in m) (es ++ fs) ≡ map (λ x. let m : Marked = record { entry = x; mark = None } in m) es ++ marked_by None fs
unmarked-append [] [] = refl
unmarked-append [] (f ∷ fs) = refl
unmarked-append (e ∷ es) fs = ap (λ (l : List Marked). record { entry = e; mark = None } ∷ l) (unmarked-append es fs)

-- an act that makes something happen, and one behind it
pub did-also : (s : Settings) (p q r : ConnectionState) (at : ℕ) (mark : Option Taken) (w : What) (ws : List What) (a b : Act) (x y z : Outbox) → a.whats ≡ w ∷ ws → q.number ≡ p.number → Did s p at mark a x y q → Did s q at None b y z r → Did s p at mark (also a b) x z r
did-also s p q r at mark w ws a b x y z some same d e =
    let n : PartName = Connection p.number in
    record {
      entries =
          e.entries
          ∙ ap (λ l. l ++ entries_of (Connection q.number) at b.whats) d.entries
          ∙ ap (λ i. (x.entries.items ++ entries_of n at a.whats) ++ entries_of (Connection i) at b.whats) same
          ∙ append_assoc x.entries.items (entries_of n at a.whats) (entries_of n at b.whats)
          ∙ ap (λ l. x.entries.items ++ l) (sym (entries-append n at a.whats b.whats));
      letters = e.letters ∙ ap (λ l. l ++ b.letters) d.letters ∙ append_assoc x.letters.items a.letters b.letters;
      behind =
          e.behind
          ∙ ap (λ (v : ConnectionState). step_connections s v (marked_by None (entries_of (Connection q.number) at b.whats))) d.behind
          ∙ ap (λ i. step_connections s (behind_act s at mark p a) (marked_by None (entries_of (Connection i) at b.whats))) same
          ∙ ap (λ (l : List What). step_connections s (step_connections s p (marked_by mark (entries_of n at l))) (marked_by None (entries_of n at b.whats))) some
          ∙ sym (steps-append s p (marked_by mark (entries_of n at (w ∷ ws))) (marked_by None (entries_of n at b.whats)))
          ∙ ap (λ (l : List Marked). step_connections s p (record { entry = record { part = n; at = at; what = w }; mark = mark } ∷ l)) (sym (unmarked-append (entries_of n at ws) (entries_of n at b.whats)))
          ∙ ap (λ (l : List Entry). step_connections s p (marked_by mark (record { part = n; at = at; what = w } ∷ l))) (sym (entries-append n at ws b.whats))
          ∙ ap (λ (l : List What). step_connections s p (marked_by mark (entries_of n at (l ++ b.whats)))) (sym some);
    }

-- nothing happens
pub did-nothing : (s : Settings) (p : ConnectionState) (at : ℕ) (mark : Option Taken) (x : Outbox) → Did s p at mark nothing x x p
did-nothing s p at mark x = record { entries = sym (append-nil x.entries.items); letters = sym (append-nil x.letters.items); behind = refl }
