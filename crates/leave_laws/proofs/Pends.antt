-- A client that holds a bind connection waits for an answer to its Bind, or is between the steps of an exchange.
use Rattle.std.proofs.Common.{◌≡◌, ℕ, Bool, true, false, ◌==◌, ◌&&◌, ◌||◌, not, if◌then◌else◌, List, [], ◌∷◌, ◌++◌, refl, ap, ◌∙◌, sym}
use Rattle.std.specs.Prelude.{Option, Some, None, filter, is_some, map, unwrap_or}
use Rattle.std.specs.List.{list_any, list_all}
use Rattle.ldap_spec.specs.Kinds.{same_kind}
use Rattle.ldap_spec.specs.Messages.{Message}
use Rattle.ldap_spec.specs.Requests.{request}
use Rattle.ldap_spec.specs.Responses.{has_code}
use Rattle.lload_names.specs.declared.names.Answer.{Answer}
use Rattle.lload_names.specs.declared.names.Answer.TheVariants.{Go, Busy, Unavailable}
use Rattle.lload_names.specs.declared.names.OpKind.TheVariants.{Bind}
use Rattle.lload_names.specs.declared.names.OpName.{OpName}
use Rattle.lload_names.specs.declared.names.What.{What}
use Rattle.lload_names.specs.declared.names.What.TheVariants as what
use Rattle.lload_spec.specs.Entries.{makes_operation}
use Rattle.lload_spec.specs.Identity.{identity_of}
use Rattle.lload_spec.specs.Lists.{agrees, implies, passes}
use Rattle.lload_spec.specs.Operations.{abandons_id, is_final_for, is_request_of}
use Rattle.lload_spec.specs.Settings.{Settings}
use Rattle.lload_laws.proofs.ListLaws.{any-ext, any-map, implies_by}
use Rattle.part_laws.proofs.ListLaws.{any_before, false_by, or_left, or_right, same_number}
use Rattle.part_spec.specs.ClientState.{ClientRow, ClientState, Held, abandons, client_behind, forwarded, is_bind_row, name_of, new_row, row_named, row_under, who_told, with_choice, with_connection, without}
use Rattle.part_spec.specs.Marked.{Taken}
use Rattle.client_laws.proofs.ClientGives.{in_state}
use Rattle.client_laws.proofs.ClientLives.{out_state_of}
use Rattle.client_laws.proofs.KindsKept.{carried_kind}
use Rattle.forward_laws.proofs.Exchange.{is_kind_right}
use Rattle.identity_laws.proofs.Finals.{last_all}
use Rattle.leave_laws.proofs.Lists.{any_found, any_kept}

-- whether a client that holds a connection does so for a live Bind, or for an exchange
abbrev pub is_pending : ClientState → Bool
is_pending p = implies (is_some p.hold) (p.in_exchange || list_any is_bind_row p.rows)

agreed : (a d : Bool) → agrees a d ≡ true → a ≡ d
agreed true true h = refl
agreed false false h = refl
agreed true false h = absurd (let bad : false ≡ true = h in cc)
agreed false true h = absurd (let bad : false ≡ true = h in cc)

-- where Binds stay live, it stays so
fewer : (hold : Option Held) (ex : Bool) (rows later : List ClientRow) → (list_any is_bind_row rows ≡ true → list_any is_bind_row later ≡ true) → implies (is_some hold) (ex || list_any is_bind_row rows) ≡ true → implies (is_some hold) (ex || list_any is_bind_row later) ≡ true
fewer None ex rows later f h = refl
fewer (Some x) true rows later f h = refl
fewer (Some x) false rows later f h = f h

module _ (s : Settings) (at : ℕ) (mark : Option Taken) (n : ℕ) (p : ClientState) (kinds : list_all (is_kind_right n) p.rows ≡ true) (h : is_pending p ≡ true) where
  -- a message
  in_pending : (m : Message) (x d : Bool) → (d ≡ true → is_request_of Bind m ≡ true) → is_pending (in_state s at p m x d) ≡ true
  in_pending m false d f = fewer p.hold p.in_exchange p.rows (filter (λ r. not (abandons m r)) p.rows) (λ k. any_kept (is_kind_right n) is_bind_row (λ r. not (abandons m r)) p.rows (λ r i j. stays (not (m.id == 0)) (is_bind_row r) (abandons_id r.request.id (request m.rest)) j) kinds k) h
    where
      stays : (a b d : Bool) → b ≡ true → not (a && not b && d) ≡ true
      stays true true d e = refl
      stays false true d e = refl
      stays a false d e = absurd (let bad : false ≡ true = e in cc)
  in_pending m true true f = implies_by (is_some p.hold) (is_bind_row (new_row s p m) || false) (λ k. or_left (is_bind_row (new_row s p m)) false (ap (passes (same_kind Bind)) (carried_kind s m p.identity) ∙ f refl))
  in_pending m true false f = fewer p.hold p.in_exchange p.rows (p.rows ++ new_row s p m ∷ []) (any_before is_bind_row p.rows (new_row s p m ∷ [])) h

  -- an answer
  out_pending : (rest : List ℕ) (o : Option ClientRow) → ((r : ClientRow) → o ≡ Some r → is_kind_right n r ≡ true) → is_pending (out_state_of s at mark p rest o) ≡ true
  out_pending rest None f = h
  out_pending rest (Some r) f = by (is_final_for r.request rest) (is_bind_row r) refl (has_code 14 rest)
    where
      ended : ClientState
      ended = without (λ x. x.k == r.k) at p

      answered : Bool → ClientState
      answered x = elim x [ true ↦ record ended { in_exchange = true } | false ↦ record ended { hold = None; identity = if has_code 0 rest then identity_of s (who_told mark) (request r.request.rest) else [] } ]

      state : Bool → Bool → Bool → ClientState
      state g b x = elim g [ false ↦ p | true ↦ elim b [ true ↦ answered x | false ↦ ended ] ]

      -- a Bind is of another number
      apart : is_bind_row r ≡ false → (q : ClientRow) → is_kind_right n q ≡ true → is_bind_row q ≡ true → not (q.k == r.k) ≡ true
      apart e q i j = ap not (false_by (q.k == r.k) (λ z. let same : q.k ≡ r.k = same_number q.k r.k z in let mine : (r.k == n) ≡ false = sym (agreed (is_bind_row r) (r.k == n) (f r refl)) ∙ e in sym mine ∙ ap (λ k. k == n) (sym same) ∙ sym (agreed (is_bind_row q) (q.k == n) i) ∙ j))

      by : (g b : Bool) → is_bind_row r ≡ b → (x : Bool) → is_pending (state g b x) ≡ true
      by false b e x = h
      by true true e true = implies_by (is_some p.hold) true (λ k. refl)
      by true true e false = refl
      by true false e x = fewer p.hold p.in_exchange p.rows (filter (λ q. not (q.k == r.k)) p.rows) (any_kept (is_kind_right n) is_bind_row (λ q. not (q.k == r.k)) p.rows (apart e) kinds) h

  -- a choice
  forwarded_same : (k u : ℕ) → list_any is_bind_row (map (forwarded k u) p.rows) ≡ list_any is_bind_row p.rows
  forwarded_same k u = any-map is_bind_row (forwarded k u) p.rows ∙ any-ext (λ r. is_bind_row (forwarded k u r)) is_bind_row p.rows one
    where
      one : (r : ClientRow) → is_bind_row (forwarded k u r) ≡ is_bind_row r
      one r = by (r.k == k)
        where
          by : (b : Bool) → is_bind_row (if b then record r { connection = Some (unwrap_or r.connection u) } else r) ≡ is_bind_row r
          by true = refl
          by false = refl

  chosen_pending : (op : OpName) (a : Answer) → is_pending (with_choice op a p) ≡ true
  chosen_pending op (Go u b) = of_row (row_named p op) refl
    where
      of_row : (o : Option ClientRow) → row_named p op ≡ o → is_pending (elim o [ None ↦ p | Some r ↦ with_connection u b p r ]) ≡ true
      of_row None e = h
      of_row (Some r) e = of_kind (is_bind_row r) refl
        where
          of_kind : (d : Bool) → is_bind_row r ≡ d → implies (is_some (if d then Some (record { connection = u; holder = name_of p r }) else p.hold)) (p.in_exchange || list_any is_bind_row (map (forwarded r.k u) p.rows)) ≡ true
          of_kind true k = or_right p.in_exchange _ (forwarded_same r.k u ∙ any_found (λ q. p.number == op.client && q.k == op.k) is_bind_row p.rows r e k)
          of_kind false k = fewer p.hold p.in_exchange p.rows (map (forwarded r.k u) p.rows) (λ j. forwarded_same r.k u ∙ j) h
  chosen_pending op Busy = h
  chosen_pending op Unavailable = h

  pub pending_more : (w : What) → is_pending (client_behind s at mark p w) ≡ true
  pending_more (what.In id rest) = in_pending (record { id = id; rest = rest }) (makes_operation (record { id = id; rest = rest })) (is_request_of Bind (record { id = id; rest = rest })) (λ k. k)
  pending_more (what.Out id rest) = out_pending rest (row_under p id) (λ r e. last_all (λ x. x.request.id == id) (is_kind_right n) p.rows r e kinds)
  pending_more (what.Chosen op a) = chosen_pending op a
  pending_more (what.Gone why) = refl
  pending_more _ = h
