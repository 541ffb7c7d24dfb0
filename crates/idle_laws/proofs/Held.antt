-- What a client holds behind an entry, and behind the refusal of a Bind.
use Rattle.std.proofs.Common.{◌≡◌, ℕ, Bool, true, false, ◌==◌, if◌then◌else◌, cond, List, [], ◌∷◌, refl, ap, ◌∙◌, sym, Option, Some, None}
use Rattle.std.proofs.lemmas.Slice.Eq.{bytes_eq-Decides}
use Rattle.lload_names.specs.declared.names.Answer.TheVariants.{Busy, Go, Unavailable}
use Rattle.lload_names.specs.declared.names.OpKind.TheVariants.{Bind}
use Rattle.lload_names.specs.declared.names.OpName.{OpName}
use Rattle.lload_names.specs.declared.names.Refusal.{Refusal}
use Rattle.lload_names.specs.declared.names.What.TheVariants as what
use Rattle.lload_names.specs.declared.names.What.{What}
use Rattle.ldap_spec.specs.Bodies.{refusal}
use Rattle.ldap_spec.specs.Kinds.{is_final, kind_of, same_kind}
use Rattle.ldap_spec.specs.Messages.{Message}
use Rattle.ldap_spec.specs.Requests.{request}
use Rattle.ldap_spec.specs.Responses.{has_code}
use Rattle.lload_spec.specs.Caused.{is_refusal_of}
use Rattle.lload_spec.specs.Entries.{is_this, makes_operation, out_message}
use Rattle.lload_spec.specs.Identity.{identity_of}
use Rattle.lload_spec.specs.Lists.{last, passes}
use Rattle.lload_spec.specs.Operations.{is_final_for, is_request_of}
use Rattle.lload_spec.specs.Settings.{Settings}
use Rattle.lload_spec.proofs.Growth.{left, right}
use Rattle.part_spec.specs.ClientState.{ClientRow, ClientState, Held, asked_behind, client_behind, is_bind_row, name_of, new_row, row_named, row_under, step_client, who_told, with_connection, without}
use Rattle.part_spec.specs.Marked.{Marked, Taken}
use Rattle.part_laws.proofs.ListLaws.{eqb_sym}
use Rattle.client_laws.proofs.ClientGives.{in_state}
use Rattle.client_laws.proofs.ClientLives.{out_state_of}
use Rattle.client_laws.proofs.KindsKept.{carried_kind}
use Rattle.joined_laws.proofs.OwnCodes.{refusal_ends}
use Rattle.leave_laws.proofs.Refused.{bind_request}

-- what a client holds behind an entry: the same, or nothing, or the connection that was chosen for a live Bind
pub data HoldNext (p : ClientState) (hold : Option Held) (w : What) : Type 0 where
  Same : hold ≡ p.hold → HoldNext p hold w
  Freed : hold ≡ None → HoldNext p hold w
  Learned : (op : OpName) (u n : ℕ) (r : ClientRow) → w ≡ what.Chosen op (Go u n) → row_named p op ≡ Some r → is_bind_row r ≡ true → hold ≡ Some (record { connection = u; holder = name_of p r }) → HoldNext p hold w

module _ (s : Settings) (at : ℕ) (mark : Option Taken) (p : ClientState) where
  in_hold : (m : Message) (b d : Bool) (w : What) → HoldNext p (in_state s at p m b d).hold w
  in_hold m false d w = Same refl
  in_hold m true true w = Same refl
  in_hold m true false w = Same refl

  out_hold : (body : List ℕ) (o : Option ClientRow) (w : What) → HoldNext p (out_state_of s at mark p body o).hold w
  out_hold body None w = Same refl
  out_hold body (Some r) w = by (is_final_for r.request body) (is_bind_row r) (has_code 14 body)
    where
      less : ClientState
      less = without (λ x. x.k == r.k) at p

      answered : Bool → ClientState
      answered x = elim x [ true ↦ record less { in_exchange = true } | false ↦ record less { hold = None; identity = if has_code 0 body then identity_of s (who_told mark) (request r.request.rest) else [] } ]

      state : Bool → Bool → Bool → ClientState
      state g b x = elim g [ false ↦ p | true ↦ elim b [ true ↦ answered x | false ↦ less ] ]

      by : (g b x : Bool) → HoldNext p (state g b x).hold w
      by false b x = Same refl
      by true true true = Same refl
      by true true false = Freed refl
      by true false x = Same refl

  pub hold_next : (w : What) → HoldNext p (client_behind s at mark p w).hold w
  hold_next (what.In id body) = in_hold (record { id = id; rest = body }) (makes_operation (record { id = id; rest = body })) (is_request_of Bind (record { id = id; rest = body })) (what.In id body)
  hold_next (what.Out id body) = out_hold body (row_under p id) (what.Out id body)
  hold_next (what.Chosen op (Go u n)) = by (row_named p op) refl
    where
      of_kind : (r : ClientRow) → row_named p op ≡ Some r → (d : Bool) → is_bind_row r ≡ d → HoldNext p (if d then Some (record { connection = u; holder = name_of p r }) else p.hold) (what.Chosen op (Go u n))
      of_kind r z true e = Learned op u n r refl z e refl
      of_kind r z false e = Same refl

      state : Option ClientRow → ClientState
      state o = elim o [ None ↦ p | Some r ↦ with_connection u n p r ]

      by : (o : Option ClientRow) → row_named p op ≡ o → HoldNext p (state o).hold (what.Chosen op (Go u n))
      by None z = Same refl
      by (Some r) z = of_kind r z (is_bind_row r) refl
  hold_next (what.Chosen op Busy) = Same refl
  hold_next (what.Chosen op Unavailable) = Same refl
  hold_next (what.Gone why) = Freed refl
  hold_next what.Arrived = Same refl
  hold_next w = Same refl

-- the row of a Bind that is refused lets go of what is held
module _ (s : Settings) (p : ClientState) (m next : Marked) (x : Message) (which : Refusal) (is_in : m.entry.what ≡ what.In x.id x.rest) (makes : makes_operation x ≡ true) (bind : is_request_of Bind x ≡ true) where
  abbrev came : Bool → Bool → ClientState
  came b d = record (in_state s m.entry.at p x b d) { moment = m.entry.at; asked = asked_behind s p (what.In x.id x.rest) }

  came_is : step_client s p m ≡ came true true
  came_is =
      ap (λ w. record (client_behind s m.entry.at m.mark p w) { moment = m.entry.at; asked = asked_behind s p w }) is_in
      ∙ ap (λ b. came b (is_request_of Bind x)) makes ∙ ap (came true) bind

  kind_is : kind_of x.rest ≡ Some Bind
  kind_is = bind_request (kind_of x.rest) bind

  out_freed : (id : ℕ) (body : List ℕ) → next.entry.what ≡ what.Out id body → (id == x.id) ≡ true → body ≡ refusal Bind which → (step_client s (came true true) next).hold ≡ None
  out_freed id body e same text =
      ap (λ w. (client_behind s next.entry.at next.mark (came true true) w).hold) e
      ∙ ap (λ o. (out_state_of s next.entry.at next.mark (came true true) body o).hold) found
      ∙ ap (λ g. (state g (is_bind_row row) (has_code 14 body)).hold) final
      ∙ ap (λ b. (state true b (has_code 14 body)).hold) is_bind
      ∙ ap (λ d. (state true true d).hold) (ap (has_code 14) text ∙ refusal_ends Bind which)
    where
      row : ClientRow
      row = new_row s p x

      row_kind : kind_of row.request.rest ≡ Some Bind
      row_kind = carried_kind s x p.identity ∙ kind_is

      found : row_under (came true true) id ≡ Some (new_row s p x)
      found = ap (λ b. last (cond b (new_row s p x ∷ []) [])) (eqb_sym x.id id ∙ same)

      final : is_final_for row.request body ≡ true
      final = ap (passes (λ k. is_final k body)) row_kind ∙ ap (is_final Bind) text

      is_bind : is_bind_row row ≡ true
      is_bind = ap (passes (same_kind Bind)) row_kind

      less : ClientState
      less = without (λ y. y.k == row.k) next.entry.at (came true true)

      answered : Bool → ClientState
      answered d = elim d [ true ↦ record less { in_exchange = true } | false ↦ record less { hold = None; identity = if has_code 0 body then identity_of s (who_told next.mark) (request row.request.rest) else [] } ]

      state : Bool → Bool → Bool → ClientState
      state g b d = elim g [ false ↦ came true true | true ↦ elim b [ true ↦ answered d | false ↦ less ] ]

  pub refused_freed : is_refusal_of which x.id (kind_of x.rest) next.entry ≡ true → (step_client s (step_client s p m) next).hold ≡ None
  refused_freed h = ap (λ q. (step_client s q next).hold) came_is ∙ by next.entry.what refl (sym (ap (λ k. is_refusal_of which x.id k next.entry) kind_is) ∙ h)
    where
      by : (w : What) → next.entry.what ≡ w → passes (is_this x.id (refusal Bind which)) (out_message w) ≡ true → (step_client s (came true true) next).hold ≡ None
      by (what.Out id body) e k = out_freed id body e (left (id == x.id) _ k) ((bytes_eq-Decides body (refusal Bind which)).0 (right (id == x.id) _ k))
      by _ e k = absurd (let bad : false ≡ true = k in cc)
