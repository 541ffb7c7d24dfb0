-- What a bind connection's state says of its Sent entries and identifiers, in a list behind which some entries stand: its row is
-- of its last Sent, and each Sent before that is settled.
use Rattle.std.proofs.Common.{◌≡◌, ℕ, Bool, true, false, ◌&&◌, List, [], ◌∷◌, ◌++◌, refl, ap, ◌∙◌}
use Rattle.std.specs.Prelude.{Option, Some, None, is_some, if◌then◌else◌}
use Rattle.std.specs.List.{list_all}
use Rattle.lload_names.specs.declared.names.Entry.{Entry}
use Rattle.lload_names.specs.declared.names.OpKind.TheVariants.{Bind}
use Rattle.lload_spec.specs.Lists.{first_passes, last_passes}
use Rattle.lload_spec.specs.Settings.{Settings}
use Rattle.lload_spec.specs.Journal.{Family}
use Rattle.lload_spec.specs.Entries.{expired_op, is_down}
use Rattle.lload_spec.specs.Operations.{is_of}
use Rattle.lload_spec.specs.Answers.{Sending, Final, sendings, closing_at, closing_by, extended_under, who_answer, asks_who, is_kept_back}
use Rattle.lload_spec.specs.Identifiers.{ids_at}
use Rattle.part_spec.specs.ConnectionState.{ConnectionState, UpRow, Kept}
use Rattle.connection_laws.proofs.Closings.{is_closed}
use Rattle.bind_laws.proofs.Sents.{IsLive, IsAnswered, IsAsked, any_next}

-- The rows and the Sent entries that aren't settled: one of each at most.
abbrev pub RowsAre : Settings → Family → ℕ → List UpRow → List Sending → List Entry → Type 0
RowsAre s F n [] [] ms = Unit {0}
RowsAre s F n [] (x ∷ xs) ms = ⊥
RowsAre s F n (r ∷ []) [] ms = ⊥
RowsAre s F n (r ∷ []) (x ∷ []) ms = IsLive s F n r x ms
RowsAre s F n (r ∷ []) (x ∷ y ∷ xs) ms = ⊥
RowsAre s F n (r ∷ q ∷ rows) xs ms = ⊥

pub record SentsAre (s : Settings) (F : Family) (u : ℕ) (place : List Entry) (n : ℕ) (rows : List UpRow) (ms : List Entry) : Type 0 where
  pub done : List Sending
  pub live : List Sending
  pub split : sendings u place ≡ done ++ live
  pub closed : list_all (is_closed s F) done ≡ true
  pub are : RowsAre s F n rows live ms

-- What the state says, in a list behind which these entries stand.
pub record Tells (s : Settings) (F : Family) (u : ℕ) (place : List Entry) (p : ConnectionState) (ms : List Entry) : Type 0 where
  pub ids : p.ids ≡ ids_at s F u place
  pub told : last_passes (λ e. is_some (expired_op e.what)) place ≡ true → first_passes is_down ms ≡ true
  pub sents : p.down ≡ false → first_passes is_down ms ≡ false → SentsAre s F u place p.ids.next p.rows ms

-- at the end of a turn any entries may come
pub tells_any : (s : Settings) (F : Family) (u : ℕ) (place : List Entry) (p : ConnectionState) (ms : List Entry) → Tells s F u place p [] → Tells s F u place p ms
tells_any s F u place p ms h = record { ids = h.ids; told = λ k. absurd (let no : false ≡ true = h.told k in cc); sents = λ d e. more (h.sents d refl) }
  where
    rows : (rs : List UpRow) (xs : List Sending) → RowsAre s F p.ids.next rs xs [] → RowsAre s F p.ids.next rs xs ms
    rows [] [] a = tt
    rows [] (x ∷ xs) a = absurd a
    rows (r ∷ []) [] a = absurd a
    rows (r ∷ []) (x ∷ []) a = any_next s F p.ids.next r x ms a
    rows (r ∷ []) (x ∷ y ∷ xs) a = absurd a
    rows (r ∷ q ∷ rs) xs a = absurd a

    more : SentsAre s F u place p.ids.next p.rows [] → SentsAre s F u place p.ids.next p.rows ms
    more a = record { done = a.done; live = a.live; split = a.split; closed = a.closed; are = rows p.rows a.live a.are }

-- an operation that is live isn't settled
pub open_now : (s : Settings) (F : Family) (n : ℕ) (r : UpRow) (sent : Sending) (ms : List Entry) (h : IsLive s F n r sent ms) → closing_at s h.o sent ≡ None
open_now s F n r sent ms h = by r.kept h.answer
  where
    closing_text : Bool → Option Final → Option (List ℕ)
    closing_text b q = elim q [ None ↦ None | Some f ↦ closing_by s h.o f ]

    none : (w : Option ℕ) (es : List Entry) → IsAsked w es ms → who_answer es ≡ None
    none None es a = ap who_answer a.0
    none (Some w) es a = ap (λ q. elim q [ None ↦ None | Some id ↦ extended_under id es ]) a.0 ∙ a.1

    by : (k : Option Kept) → IsAnswered s h.o sent k ms → closing_at s h.o sent ≡ None
    by None a = ap (closing_text true) a
    by (Some k) a = ap (closing_text true) a.final ∙ ap (λ c. if is_of Bind h.o && c then None else if is_kept_back (asks_who s h.o) k.rest then who_answer a.es else Some k.rest) a.code ∙ ap (λ c. if c then None else if is_kept_back (asks_who s h.o) k.rest then who_answer a.es else Some k.rest) (none_left (is_of Bind h.o)) ∙ ap (λ c. if c then who_answer a.es else Some k.rest) a.back ∙ none k.who a.es a.asked
      where
        none_left : (b : Bool) → (b && false) ≡ false
        none_left true = refl
        none_left false = refl
