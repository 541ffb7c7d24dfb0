-- A connection that a client holds was chosen for its holder, which was live.
use Rattle.std.proofs.Common.{◌≡◌, ℕ, Bool, true, false, ◌==◌, ◌&&◌, if◌then◌else◌, List, [], ◌∷◌, ◌++◌, refl, ap, ◌∙◌, sym, subst, length}
use Rattle.std.specs.Prelude.{Option, Some, None}
use Rattle.ldap_spec.specs.Messages.{Message}
use Rattle.ldap_spec.specs.Requests.{request}
use Rattle.ldap_spec.specs.Responses.{has_code}
use Rattle.lload_names.specs.declared.names.Answer.TheVariants.{Go, Busy, Unavailable}
use Rattle.lload_names.specs.declared.names.Entry.{Entry}
use Rattle.lload_names.specs.declared.names.OpKind.TheVariants.{Bind}
use Rattle.lload_names.specs.declared.names.OpName.{OpName}
use Rattle.lload_names.specs.declared.names.What.{What}
use Rattle.lload_names.specs.declared.names.What.TheVariants as what
use Rattle.lload_spec.specs.Entries.{chosen, goes_to, is_choice_of, makes_operation}
use Rattle.lload_spec.specs.Identity.{identity_of}
use Rattle.lload_spec.specs.Journal.{same_op}
use Rattle.lload_spec.specs.Lists.{passes, some_entry, some_split_from}
use Rattle.lload_spec.specs.Operations.{Operation, is_final_for, is_live_at, is_request_of, live_operations, operations}
use Rattle.lload_spec.specs.Settings.{Settings}
use Rattle.lload_spec.proofs.Growth.{left, right, both}
use Rattle.lload_laws.proofs.ListLaws.{found_passes}
use Rattle.part_laws.proofs.ListLaws.{eq_eqb, eqb_same, or_elim, or_left, or_right, same_op_eq, same_op_refl}
use Rattle.part_spec.specs.ClientState.{ClientRow, ClientState, Held, client_behind, is_bind_row, name_of, row_named, row_under, who_told, with_connection, without}
use Rattle.part_spec.specs.Marked.{Marked}
use Rattle.client_laws.proofs.ClientGives.{in_state}
use Rattle.client_laws.proofs.ClientLives.{out_state_of}
use Rattle.client_laws.proofs.Matches.{Match}
use Rattle.joined_laws.proofs.Begun.{is_begun, is_live_named, live_named, of_row, own_client}
use Rattle.joined_laws.proofs.Walks.{Begins}
use Rattle.forward_laws.proofs.Causes.{is_live_choice, some_last}

-- some entry of a longer list, by what stands before it
pub some_kept : (test : List Entry → Entry → Bool) (before L M : List Entry) → some_split_from (λ b x d. test b x) before L ≡ true → some_split_from (λ b x d. test b x) before (L ++ M) ≡ true
some_kept test before [] M h = absurd (let bad : false ≡ true = h in cc)
some_kept test before (x ∷ L) M h = or_elim (test before x) (some_split_from (λ b y d. test b y) (before ++ x ∷ []) L) (λ k. or_left (test before x) _ k) (λ k. or_right (test before x) _ (some_kept test (before ++ x ∷ []) L M k)) h

-- a connection that is held was chosen for its holder
abbrev pub IsChosen : ℕ → List Entry → Option Held → Type 0
IsChosen c place hold = (x : Held) → hold ≡ Some x → some_entry (is_live_choice c x.holder x.connection) place ≡ true

pub none_held : (c : ℕ) (place : List Entry) → IsChosen c place None
none_held c place x e = absurd (let bad : None ≡ Some x = e in cc)

module _ (s : Settings) (c : ℕ) (place : List Entry) (m : Marked) (p : ClientState) (h : IsChosen c place p.hold) where
  kept : IsChosen c (place ++ m.entry ∷ []) p.hold
  kept x e = some_kept (is_live_choice c x.holder x.connection) [] place (m.entry ∷ []) (h x e)

  -- a message
  in_chosen : (msg : Message) (b d : Bool) → IsChosen c (place ++ m.entry ∷ []) (in_state s m.entry.at p msg b d).hold
  in_chosen msg false d = kept
  in_chosen msg true true = kept
  in_chosen msg true false = kept

  -- an answer
  out_chosen : (rest : List ℕ) (o : Option ClientRow) → IsChosen c (place ++ m.entry ∷ []) (out_state_of s m.entry.at m.mark p rest o).hold
  out_chosen rest None = kept
  out_chosen rest (Some r) = by (is_final_for r.request rest) (is_bind_row r) (has_code 14 rest)
    where
      ended : ClientState
      ended = without (λ x. x.k == r.k) m.entry.at p

      answered : Bool → ClientState
      answered x = elim x [ true ↦ record ended { in_exchange = true } | false ↦ record ended { hold = None; identity = if has_code 0 rest then identity_of s (who_told m.mark) (request r.request.rest) else [] } ]

      state : Bool → Bool → Bool → ClientState
      state g b x = elim g [ false ↦ p | true ↦ elim b [ true ↦ answered x | false ↦ ended ] ]

      by : (g b x : Bool) → IsChosen c (place ++ m.entry ∷ []) (state g b x).hold
      by false b x = kept
      by true true true = kept
      by true true false = none_held c (place ++ m.entry ∷ [])
      by true false x = kept

  -- a choice
  module _ (op : OpName) (u n : ℕ) (is_one : m.entry.what ≡ what.Chosen op (Go u n)) (begins : Begins c place p m) (r : ClientRow) (row_is : row_named p op ≡ Some r) where
    name : name_of p r ≡ op
    name =
        let named : (p.number == op.client && r.k == op.k) ≡ true = found_passes (λ x. p.number == op.client && x.k == op.k) p.rows r row_is in
        same_op_eq (name_of p r) op named

    live : is_live_at c place (name_of p r) ≡ true
    live =
        let one = of_row (λ x. p.number == op.client && x.k == op.k) (is_live_named c place) p.rows (live_operations c place) r begins.lives.rows (live_named c place) row_is in
        let q : Operation = one.0 in
        let match : Match r q = one.1.0 in
        let same : q.name ≡ name_of p r = same_op_eq q.name (name_of p r) (both (q.name.client == p.number) _ (eq_eqb q.name.client p.number (own_client c (length (operations c place)) q (left _ _ one.1.1) ∙ sym begins.says.number)) (eq_eqb q.name.k r.k (sym match.k))) in
        subst (λ v. is_live_at c place v ≡ true) same (right _ _ one.1.1)

    new_chosen : some_entry (is_live_choice c (name_of p r) u) (place ++ m.entry ∷ []) ≡ true
    new_chosen = some_last (is_live_choice c (name_of p r) u) [] place m.entry (both (is_choice_of (name_of p r) u m.entry) _ (ap (λ w. passes (λ x. same_op (name_of p r) x.op && goes_to u x.value) (chosen w)) is_one ∙ both (same_op (name_of p r) op) _ (ap (λ v. same_op v op) name ∙ same_op_refl op) (eqb_same u)) live)

    held : (d : Bool) → IsChosen c (place ++ m.entry ∷ []) (if d then Some (record { connection = u; holder = name_of p r }) else p.hold)
    held false x e = kept x e
    held true x e = let same : record { connection = u; holder = name_of p r } ≡ x = cc in subst (λ (y : Held). some_entry (is_live_choice c y.holder y.connection) (place ++ m.entry ∷ []) ≡ true) same new_chosen

  pub chosen_next : (is_begun m.entry.what ≡ true → Begins c place p m) → (w : What) → m.entry.what ≡ w → IsChosen c (place ++ m.entry ∷ []) (client_behind s m.entry.at m.mark p w).hold
  chosen_next begins (what.In id rest) e = in_chosen (record { id = id; rest = rest }) (makes_operation (record { id = id; rest = rest })) (is_request_of Bind (record { id = id; rest = rest }))
  chosen_next begins (what.Out id rest) e = out_chosen rest (row_under p id)
  chosen_next begins (what.Chosen op (Go u n)) e = by (row_named p op) refl
    where
      state : Option ClientRow → ClientState
      state o = elim o [ None ↦ p | Some r ↦ with_connection u n p r ]

      by : (o : Option ClientRow) → row_named p op ≡ o → IsChosen c (place ++ m.entry ∷ []) (state o).hold
      by None z = kept
      by (Some r) z = held op u n e (begins (ap is_begun e)) r z (is_bind_row r)
  chosen_next begins (what.Chosen op Busy) e = kept
  chosen_next begins (what.Chosen op Unavailable) e = kept
  chosen_next begins (what.Gone why) e = none_held c (place ++ m.entry ∷ [])
  chosen_next begins _ e = kept
