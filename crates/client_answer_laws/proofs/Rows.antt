-- The rows of a client behind an entry: those before, but those that it ends, and the new one.
use Rattle.std.proofs.Common.{◌≡◌, ℕ, Bool, true, false, ◌==◌, not, List, [], ◌∷◌, refl, ap, sym, subst}
use Rattle.std.specs.Prelude.{Option, Some, None, filter}
use Rattle.ldap_spec.specs.Messages.{Message}
use Rattle.lload_names.specs.declared.names.OpName.{OpName}
use Rattle.lload_names.specs.declared.names.OpKind.TheVariants.{Bind}
use Rattle.lload_names.specs.declared.names.Answer.{Answer}
use Rattle.lload_names.specs.declared.names.Answer.TheVariants.{Go, Busy, Unavailable}
use Rattle.lload_names.specs.declared.names.What.{What}
use Rattle.lload_names.specs.declared.names.What.TheVariants as what
use Rattle.lload_spec.specs.Settings.{Settings}
use Rattle.lload_spec.specs.Entries.{makes_operation}
use Rattle.lload_spec.specs.Operations.{is_final_for, is_request_of}
use Rattle.part_spec.specs.Marked.{Taken}
use Rattle.part_spec.specs.ClientState.{ClientState, ClientRow, client_behind, row_named, row_under, new_row, abandons, with_choice, with_connection, forwarded}
use Rattle.client_laws.proofs.Matches.{left_by}
use Rattle.client_laws.proofs.ClientEnds.{out_left}
use Rattle.client_laws.proofs.ClientGives.{in_state}
use Rattle.client_answer_laws.proofs.Each.{Each, each_append, each_filter, each_map, each_imply}

-- what holds of the rows before, of a new row, and of a row that is forwarded holds of the rows behind
module _ (s : Settings) (at : ℕ) (mark : Option Taken) (p : ClientState) (Q : ClientRow → Type 0) (h : Each Q p.rows) where
  kept : (t : ClientRow → Bool) → Each Q (filter t p.rows)
  kept t = each_filter Q Q t p.rows (λ r e q. q) h

  rows_in : (m : Message) (b d : Bool) → (b ≡ true → Q (new_row s p m)) → Each Q (in_state s at p m b d).rows
  rows_in m false d f = kept (λ r. not (abandons m r))
  rows_in m true true f = (f refl, tt)
  rows_in m true false f = each_append Q p.rows (new_row s p m ∷ []) h (f refl, tt)

  rows_out : (id : ℕ) (rest : List ℕ) (o : Option ClientRow) → Each Q (left_by id (λ r. is_final_for r.request rest) o p.rows)
  rows_out id rest None = h
  rows_out id rest (Some r) = by (is_final_for r.request rest)
    where
      by : (b : Bool) → Each Q (elim b [ false ↦ p.rows | true ↦ filter (λ x. not (x.k == r.k)) p.rows ])
      by false = h
      by true = kept (λ x. not (x.k == r.k))

  rows_chosen : (op : OpName) (a : Answer) → ((u b : ℕ) (q r : ClientRow) → a ≡ Go u b → row_named p op ≡ Some q → Q r → Q (forwarded q.k u r)) → Each Q (with_choice op a p).rows
  rows_chosen op (Go u b) f = by (row_named p op) refl
    where
      state : Option ClientRow → ClientState
      state o = elim o [ None ↦ p | Some r ↦ with_connection u b p r ]

      by : (o : Option ClientRow) → row_named p op ≡ o → Each Q (state o).rows
      by None e = h
      by (Some q) e = each_map Q (forwarded q.k u) p.rows (each_imply Q (λ r. Q (forwarded q.k u r)) p.rows (λ r j. f u b q r refl e j) h)
  rows_chosen op Busy f = h
  rows_chosen op Unavailable f = h

  pub rows_behind : (w : What) → ((m : Message) → w ≡ what.In m.id m.rest → makes_operation m ≡ true → Q (new_row s p m)) → ((op : OpName) (u b : ℕ) (q r : ClientRow) → w ≡ what.Chosen op (Go u b) → row_named p op ≡ Some q → Q r → Q (forwarded q.k u r)) → Each Q (client_behind s at mark p w).rows
  rows_behind (what.In id rest) f g = rows_in (record { id = id; rest = rest }) (makes_operation (record { id = id; rest = rest })) (is_request_of Bind (record { id = id; rest = rest })) (f (record { id = id; rest = rest }) refl)
  rows_behind (what.Out id rest) f g = subst (Each Q) (sym (out_left s at mark p rest id (row_under p id))) (rows_out id rest (row_under p id))
  rows_behind (what.Chosen op a) f g = rows_chosen op a (λ u b q r e n j. g op u b q r (ap (what.Chosen op) e) n j)
  rows_behind (what.Gone why) f g = tt
  rows_behind _ f g = h
