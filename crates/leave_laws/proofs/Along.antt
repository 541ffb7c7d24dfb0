-- What is known at each entry of a client's list.
use Rattle.std.proofs.Common.{◌≡◌, ℕ, Bool, true, false, ◌==◌, ◌&&◌, not, List, [], ◌∷◌, ◌++◌, length, refl, arith, subst}
use Rattle.std.specs.Prelude.{Option, Some, None, nat_le, nat_lt}
use Rattle.std.specs.List.{list_any}
use Rattle.std.proofs.lemmas.Bool.{le-leb}
use Rattle.lload_names.specs.declared.names.Answer.{Answer}
use Rattle.lload_names.specs.declared.names.Entry.{Entry}
use Rattle.lload_names.specs.declared.names.OpKind.TheVariants.{Bind}
use Rattle.lload_names.specs.declared.names.OpName.{OpName}
use Rattle.lload_names.specs.declared.names.What.TheVariants as what
use Rattle.lload_spec.specs.Entries.{is_of_client}
use Rattle.lload_spec.specs.Journal.{same_op}
use Rattle.lload_spec.specs.Lists.{each_split_from}
use Rattle.lload_spec.specs.Operations.{Operation, is_of, last_bind, operations}
use Rattle.lload_spec.specs.Settings.{Settings}
use Rattle.lload_spec.specs.Strict.{has_place_in_client, is_chosen_once, is_in_unheld, is_notice_placed, lives_as_client}
use Rattle.lload_spec.proofs.Growth.{left, right}
use Rattle.lload_laws.specs.ClientGrowth.{is_named_within}
use Rattle.lload_laws.proofs.ClientGrowth.{own_names}
use Rattle.part_spec.specs.ClientState.{ClientState, step_client}
use Rattle.part_spec.specs.Fit.{ClientLedger, are_fit_from, empty_client_ledger, expected_behind, fits_client, is_last_by, is_unfit, step_client_ledger}
use Rattle.part_spec.specs.Marked.{Marked, Taken, entries}
use Rattle.part_spec.specs.Share.{ClientShare, each_place, is_checked}
use Rattle.client_laws.proofs.ClientClauses.{Says, nothing_kept, says_more}
use Rattle.client_laws.proofs.ClientTurns.{count_more}
use Rattle.client_answer_laws.proofs.Asks.{AsksKnown, asks_behind}
use Rattle.client_answer_laws.proofs.Each.{Each, each_filter}
use Rattle.client_answer_laws.proofs.Expects.{ExpectKnown, expected_known}
use Rattle.client_answer_laws.proofs.Waits.{RowKnown, rows_known}
use Rattle.joined_laws.proofs.Begun.{is_begun}
use Rattle.joined_laws.proofs.Taken.{is_fit_there}
use Rattle.joined_laws.proofs.Walks.{Begins, Begun, begun}
use Rattle.fifo_laws.proofs.Givings.{was_asked}
use Rattle.forward_laws.proofs.Binds.{ExchangeAt}
use Rattle.forward_laws.proofs.Ops.{bind_number, number_of}
use Rattle.forward_laws.proofs.Steps.{exchange_more}
use Rattle.identity_laws.proofs.Finals.{last_all}
use Rattle.leave_laws.proofs.Chosen.{IsChosen, chosen_next, none_held}
use Rattle.leave_laws.proofs.Pends.{is_pending, pending_more}

-- at a place of the list
pub record Stands (s : Settings) (c : ℕ) (place : List Entry) (b : List Marked) (l : ClientLedger) : Type 0 where
  pub says : Says c place l.state
  pub count : l.state.count ≡ length (operations c place)
  pub asks : AsksKnown c place l.state.asked
  pub rows : Each (RowKnown s c place) l.state.rows
  pub expected : Each (ExpectKnown s c place) l.expected
  pub exchange : ExchangeAt c place b l
  pub pending : is_pending l.state ≡ true
  pub chosen : IsChosen c place l.state.hold

-- and of the entry that stands there
pub record Here (s : Settings) (c : ℕ) (place : List Entry) (b : List Marked) (l : ClientLedger) (m : Marked) (ms : List Marked) : Type 0 where
  pub stands : Stands s c place b l
  pub begins : is_begun m.entry.what ≡ true → Begins c place l.state m
  pub checked : is_checked s l.state m ms ≡ true
  pub unheld : is_in_unheld s c place m.entry ≡ true

abbrev pub Along : Settings → ℕ → List Entry → List Marked → ClientLedger → List Marked → Type 0
Along s c place b l [] = Unit {0}
Along s c place b l (m ∷ ms) = Here s c place b l m ms × Along s c (place ++ m.entry ∷ []) (b ++ m ∷ []) (step_client_ledger s l m) ms

module _ (s : Settings) (c : ℕ) where
  -- the number of the last Bind is one of the operations'
  last_within : (place : List Entry) → nat_le (bind_number c place) (length (operations c place)) ≡ true
  last_within place = by (last_bind c place) refl
    where
      by : (o : Option Operation) → last_bind c place ≡ o → nat_le (number_of o) (length (operations c place)) ≡ true
      by None e = le-leb 0 (length (operations c place)) (omega arith)
      by (Some q) e = right (q.name.client == c && nat_lt 0 q.name.k) _ (last_all (is_of Bind) (is_named_within c (length (operations c place))) (operations c place) q e (own_names c place))

  -- an entry stands behind
  stands_more : (place : List Entry) (b : List Marked) (l : ClientLedger) (m : Marked) → Stands s c place b l → ((op : OpName) (a : Answer) → m.entry.what ≡ what.Chosen op a → list_any (λ x. same_op op x.op) l.state.asked ≡ true) → (is_begun m.entry.what ≡ true → Begins c place l.state m) → ((t : Taken) → m.mark ≡ Some t → fits_client s l t.sender t.letter ≡ true) → Stands s c (place ++ m.entry ∷ []) (b ++ m ∷ []) (step_client_ledger s l m)
  stands_more place b l m h asked begins fit =
      record {
        says = says_more s c place l.state m h.says;
        count = count_more s c place m.entry m.mark l.state h.count;
        asks = asks_behind s c m.entry.at m.entry.part place l.state h.says.number h.count h.asks m.entry.what asked;
        rows = rows_known s c m.entry.at m.entry.part m.mark place l.state h.says.number h.count m.entry.what h.rows;
        expected = each_filter (ExpectKnown s c (place ++ m.entry ∷ [])) (ExpectKnown s c (place ++ m.entry ∷ [])) (λ x. not (is_last_by x.op m.mark)) (expected_behind s l.state l.expected m.entry.what) (λ x e q. q) (expected_known s c m.entry.at m.entry.part place l.state h.says.number h.count h.rows l.expected h.expected m.entry.what);
        exchange = exchange_more s c place b l m h.says.number h.count h.asks h.rows h.expected (last_within place) h.exchange asked begins fit;
        pending = pending_more s m.entry.at m.mark (bind_number c place) l.state h.exchange.kinds h.pending m.entry.what;
        chosen = chosen_next s c place m l.state h.chosen begins m.entry.what refl;
      }

  abbrev lives : List Entry → Entry → List Entry → Bool
  lives place e behind = is_of_client e.what && has_place_in_client s c place e behind

  abbrev checks : ClientState → List Marked → Marked → List Marked → Bool
  checks p before m behind = is_checked s p m behind

  walk : (place : List Entry) (b : List Marked) (l : ClientLedger) (ms : List Marked) → Stands s c place b l → Begun s c place l.state ms → are_fit_from (fits_client s) (step_client_ledger s) l ms ≡ true → each_place (step_client s) checks l.state b ms ≡ true → each_split_from lives place (entries ms) ≡ true → Along s c place b l ms
  walk place b l [] h g f k life = tt
  walk place b l (m ∷ ms) h g f k life = (
    record {
      stands = h;
      begins = g.0;
      checked = left (is_checked s l.state m ms) _ k;
      unheld = right (lives_as_client place m.entry && is_chosen_once c place m.entry) _ (left (lives_as_client place m.entry && is_chosen_once c place m.entry && is_in_unheld s c place m.entry) (is_notice_placed m.entry (entries ms)) (right (is_of_client m.entry.what) _ (left (lives place m.entry (entries ms)) _ life)));
    },
    walk (place ++ m.entry ∷ []) (b ++ m ∷ []) (step_client_ledger s l m) ms behind g.1 (right (not (is_unfit (fits_client s) l m.mark)) _ f) (right (is_checked s l.state m ms) _ k) (right (lives place m.entry (entries ms)) _ life),
  )
    where
      behind : Stands s c (place ++ m.entry ∷ []) (b ++ m ∷ []) (step_client_ledger s l m)
      behind = stands_more place b l m h (was_asked s (record { client = c; k = 0 }) c l m.entry m.mark (are_fit_from (fits_client s) (step_client_ledger s) (step_client_ledger s l m) ms) (λ i. (g.0 i).marked) f) g.0 (λ t z. is_fit_there (fits_client s) l t (are_fit_from (fits_client s) (step_client_ledger s) (step_client_ledger s l m) ms) (subst (λ mark. (not (is_unfit (fits_client s) l mark) && are_fit_from (fits_client s) (step_client_ledger s) (step_client_ledger s l m) ms) ≡ true) z f))

  pub along : (ms : List Marked) → ClientShare s c ms → are_fit_from (fits_client s) (step_client_ledger s) (empty_client_ledger c) ms ≡ true → Along s c [] [] (empty_client_ledger c) ms
  along ms share fit = walk [] [] (empty_client_ledger c) ms nothing_yet (begun s c ms share) fit share.checks share.life
    where
      nothing_yet : Stands s c [] [] (empty_client_ledger c)
      nothing_yet =
          record {
            says = (nothing_kept s c).says;
            count = (nothing_kept s c).lives.count;
            asks = record { each = tt; choices = refl };
            rows = tt;
            expected = tt;
            exchange = record { kinds = refl; held = λ k. refl; unasked = refl; going = λ k. absurd (let bad : false ≡ true = k in cc) };
            pending = refl;
            chosen = none_held c [];
          }
