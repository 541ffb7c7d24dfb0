-- The states of a world have the numbers of their parts.
use Rattle.std.proofs.Common.{◌≡◌, ℕ, Bool, true, false, ◌==◌, List, [], ◌∷◌, refl, ap, ◌∙◌, sym}
use Rattle.std.specs.Prelude.{Option, Some, None, cond, find, if◌then◌else◌}
use Rattle.std.proofs.lemmas.Bool.{eqb-true, eqb-false, eq-eqb, ne_eqb}
use Rattle.ldap_spec.specs.Messages.{Message}
use Rattle.ldap_spec.specs.Responses.{has_code}
use Rattle.lload_names.specs.declared.names.Answer.{Answer}
use Rattle.lload_names.specs.declared.names.Answer.TheVariants.{Go, Busy, Unavailable}
use Rattle.lload_names.specs.declared.names.OpName.{OpName}
use Rattle.lload_names.specs.declared.names.What.{What}
use Rattle.lload_names.specs.declared.names.What.TheVariants as what
use Rattle.lload_spec.specs.Settings.{Settings}
use Rattle.ldap_spec.specs.Requests.{request}
use Rattle.lload_spec.specs.Entries.{makes_operation}
use Rattle.lload_spec.specs.Identity.{identity_of}
use Rattle.lload_spec.specs.Operations.{is_request_of, is_final_for}
use Rattle.lload_names.specs.declared.names.OpKind.TheVariants.{Bind}
use Rattle.part_spec.specs.Marked.{Marked, Taken}
use Rattle.part_spec.specs.ClientState.{ClientState, ClientRow, empty_client, step_client, step_clients, client_behind, with_message, with_choice, with_connection, with_answer, with_bind_answer, with_bind, with_request, without, abandons, row_named, row_under, is_bind_row, who_told}
use Rattle.part_spec.specs.ConnectionState.{ConnectionState, empty_connection, step_connection, step_connections}
use Rattle.part_spec.specs.World.{World, client_in, connection_in, put_client, put_connection}
use Rattle.connection_laws.proofs.ConnectionSays.{number_step}

-- A client's number stays.

message_number : (s : Settings) (at : ℕ) (m : Message) (p : ClientState) → (with_message s at m p).number ≡ p.number
message_number s at m p = by (makes_operation m) (is_request_of Bind m)
  where
    after : Bool → Bool → ClientState
    after a b = elim a [ false ↦ without (abandons m) at p | true ↦ elim b [ true ↦ with_bind s m p | false ↦ with_request s m p ] ]

    by : (a b : Bool) → (after a b).number ≡ p.number
    by false b = refl
    by true true = refl
    by true false = refl

choice_number : (op : OpName) (answer : Answer) (p : ClientState) → (with_choice op answer p).number ≡ p.number
choice_number op (Go u b) p = by (row_named p op)
  where
    after : Option ClientRow → ClientState
    after r = elim r [ None ↦ p | Some x ↦ with_connection u b p x ]

    by : (r : Option ClientRow) → (after r).number ≡ p.number
    by None = refl
    by (Some x) = refl
choice_number op Busy p = refl
choice_number op Unavailable p = refl

bind_number : (s : Settings) (mark : Option Taken) (bind : Message) (rest : List ℕ) (p : ClientState) → (with_bind_answer s mark bind rest p).number ≡ p.number
bind_number s mark bind rest p = by (has_code 14 rest)
  where
    after : Bool → ClientState
    after b = elim b [ true ↦ record p { in_exchange = true } | false ↦ record p { hold = None; identity = if has_code 0 rest then identity_of s (who_told mark) (request bind.rest) else [] } ]

    by : (b : Bool) → (after b).number ≡ p.number
    by true = refl
    by false = refl

answer_number : (s : Settings) (at : ℕ) (mark : Option Taken) (rest : List ℕ) (p : ClientState) (r : ClientRow) → (with_answer s at mark rest p r).number ≡ p.number
answer_number s at mark rest p r = by (is_final_for r.request rest) (is_bind_row r)
  where
    after : Bool → Bool → ClientState
    after a b = elim a [ false ↦ p | true ↦ elim b [ true ↦ with_bind_answer s mark r.request rest (without (λ x. x.k == r.k) at p) | false ↦ without (λ x. x.k == r.k) at p ] ]

    by : (a b : Bool) → (after a b).number ≡ p.number
    by false b = refl
    by true true = bind_number s mark r.request rest (without (λ x. x.k == r.k) at p)
    by true false = refl

client_number : (s : Settings) (at : ℕ) (mark : Option Taken) (p : ClientState) (w : What) → (client_behind s at mark p w).number ≡ p.number
client_number s at mark p (what.In id rest) = message_number s at (record { id = id; rest = rest }) p
client_number s at mark p (what.Chosen op answer) = choice_number op answer p
client_number s at mark p (what.Out id rest) = by (row_under p id)
  where
    after : Option ClientRow → ClientState
    after r = elim r [ None ↦ p | Some x ↦ with_answer s at mark rest p x ]

    by : (r : Option ClientRow) → (after r).number ≡ p.number
    by None = refl
    by (Some x) = answer_number s at mark rest p x
client_number s at mark p _ = refl

pub clients_number : (s : Settings) (p : ClientState) (ms : List Marked) → (step_clients s p ms).number ≡ p.number
clients_number s p [] = refl
clients_number s p (m ∷ ms) = clients_number s (step_client s p m) ms ∙ client_number s m.entry.at m.mark p m.entry.what

pub connections_number : (s : Settings) (p : ConnectionState) (ms : List Marked) → (step_connections s p ms).number ≡ p.number
connections_number s p [] = refl
connections_number s p (m ∷ ms) = connections_number s (step_connection s p m) ms ∙ number_step s m.entry m.mark p m.entry.what

-- Where a state stands among others.

pub eqb_turn : (a b : ℕ) → (a == b) ≡ (b == a)
eqb_turn a b = by (a == b) refl
  where
    by : (t : Bool) → (a == b) ≡ t → t ≡ (b == a)
    by true e = sym (eq-eqb b a (sym (eqb-true a b e)))
    by false e = sym (ne_eqb b a (λ z. eqb-false a b e (sym z)))

module _ {S : Type 0} (number : S → ℕ) where
  -- the state of this number, or another one
  abbrev pub state_at : S → List S → ℕ → S
  state_at fresh ps n = elim (find (λ p. number p == n) ps) [ None ↦ fresh | Some p ↦ p ]

  abbrev put : S → List S → List S
  put p [] = p ∷ []
  put p (q ∷ qs) = elim (number q == number p) [ true ↦ p ∷ qs | false ↦ q ∷ put p qs ]

  pub number_at : (fresh : S) (ps : List S) (n : ℕ) → number fresh ≡ n → number (state_at fresh ps n) ≡ n
  number_at fresh [] n e = e
  number_at fresh (p ∷ ps) n e = by (number p == n) refl (number_at fresh ps n e)
    where
      by : (t : Bool) → (number p == n) ≡ t → number (state_at fresh ps n) ≡ n → number (elim (cond t (Some p) (find (λ q. number q == n) ps)) [ None ↦ fresh | Some q ↦ q ]) ≡ n
      by true h ih = eqb-true (number p) n h
      by false h ih = ih

  first : (fresh p : S) (ps : List S) (n : ℕ) → state_at fresh (p ∷ ps) n ≡ cond (number p == n) p (state_at fresh ps n)
  first fresh p ps n = by (number p == n)
    where
      by : (t : Bool) → (elim (cond t (Some p) (find (λ q. number q == n) ps)) [ None ↦ fresh | Some q ↦ q ]) ≡ cond t p (state_at fresh ps n)
      by true = refl
      by false = refl

  pub put_at : (fresh p : S) (ps : List S) (n : ℕ) → state_at fresh (put p ps) n ≡ cond (number p == n) p (state_at fresh ps n)
  put_at fresh p [] n = first fresh p [] n
  put_at fresh p (q ∷ qs) n = by (number q == number p) refl (put_at fresh p qs n)
    where
      apart : (t u : Bool) → (number p == n) ≡ t → (number q == n) ≡ u → (number q == number p) ≡ false → cond u q (cond t p (state_at fresh qs n)) ≡ cond t p (cond u q (state_at fresh qs n))
      apart true true d e h = absurd (eqb-false (number q) (number p) h (eqb-true (number q) n e ∙ sym (eqb-true (number p) n d)))
      apart true false d e h = refl
      apart false true d e h = refl
      apart false false d e h = refl

      same : (t : Bool) → (number p == n) ≡ t → (number q == number p) ≡ true → cond t p (state_at fresh qs n) ≡ cond t p (state_at fresh (q ∷ qs) n)
      same true d h = refl
      same false d h = sym (first fresh q qs n ∙ ap (λ b. cond b q (state_at fresh qs n)) (ap (λ k. k == n) (eqb-true (number q) (number p) h) ∙ d))

      by : (t : Bool) → (number q == number p) ≡ t → state_at fresh (put p qs) n ≡ cond (number p == n) p (state_at fresh qs n) → state_at fresh (elim t [ true ↦ p ∷ qs | false ↦ q ∷ put p qs ]) n ≡ cond (number p == n) p (state_at fresh (q ∷ qs) n)
      by true h ih = first fresh p qs n ∙ same (number p == n) refl h
      by false h ih = first fresh q (put p qs) n ∙ ap (cond (number q == n) q) ih ∙ apart (number p == n) (number q == n) refl refl h ∙ ap (cond (number p == n) p) (sym (first fresh q qs n))

clients_put : (p : ClientState) (ps : List ClientState) → put_client p ps ≡ put (λ x. x.number) p ps
clients_put p [] = refl
clients_put p (q ∷ qs) = ap (λ l. elim (q.number == p.number) [ true ↦ p ∷ qs | false ↦ q ∷ l ]) (clients_put p qs)

connections_put : (p : ConnectionState) (ps : List ConnectionState) → put_connection p ps ≡ put (λ x. x.number) p ps
connections_put p [] = refl
connections_put p (q ∷ qs) = ap (λ l. elim (q.number == p.number) [ true ↦ p ∷ qs | false ↦ q ∷ l ]) (connections_put p qs)

-- In a world.

pub client_here : (w : World) (c : ℕ) → (client_in w c).number ≡ c
client_here w c = number_at (λ x. x.number) (empty_client c) w.clients c refl

pub connection_here : (s : Settings) (w : World) (u : ℕ) → (connection_in s w u).number ≡ u
connection_here s w u = number_at (λ x. x.number) (empty_connection s u) w.connections u refl

-- a part's new state stands for it, and the others stay
pub client_put : (w : World) (p : ClientState) (n : ℕ) → client_in (record w { clients = put_client p w.clients }) n ≡ cond (p.number == n) p (client_in w n)
client_put w p n = ap (λ l. state_at (λ x. x.number) (empty_client n) l n) (clients_put p w.clients) ∙ put_at (λ x. x.number) (empty_client n) p w.clients n

pub connection_put : (s : Settings) (w : World) (p : ConnectionState) (n : ℕ) → connection_in s (record w { connections = put_connection p w.connections }) n ≡ cond (p.number == n) p (connection_in s w n)
connection_put s w p n = ap (λ l. state_at (λ x. x.number) (empty_connection s n) l n) (connections_put p w.connections) ∙ put_at (λ x. x.number) (empty_connection s n) p w.connections n
