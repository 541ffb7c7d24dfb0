-- Each run has a book: the numbers of a client's operations only rise.
use Rattle.std.proofs.Common.{◌≡◌, ℕ, suc, ◌+◌, ◌≤◌, Bool, true, false, ◌==◌, ◌&&◌, not, if◌then◌else◌, List, [], ◌∷◌, Option, Some, None, refl, ap, ◌∙◌, sym, subst, arith}
use Rattle.std.specs.Prelude.{cond, map, max}
use Rattle.std.proofs.lemmas.Bool.{eqb-true, and_parts, and_from}
use Rattle.ldap_spec.specs.Messages.{Message}
use Rattle.ldap_spec.specs.Responses.{has_code}
use Rattle.lload_names.specs.declared.inputs.Effects.{Effects}
use Rattle.lload_names.specs.declared.inputs.Event.TheVariants as event
use Rattle.lload_names.specs.declared.inputs.Input.TheVariants as input
use Rattle.lload_names.specs.declared.names.Answer.{Answer}
use Rattle.lload_names.specs.declared.names.Answer.TheVariants.{Go, Busy, Unavailable}
use Rattle.lload_names.specs.declared.names.OpKind.TheVariants.{Bind}
use Rattle.lload_names.specs.declared.names.PartName.{PartName}
use Rattle.lload_names.specs.declared.names.PartName.TheVariants.{Desk, Client, Up as Connection}
use Rattle.lload_names.specs.declared.names.What.{What}
use Rattle.lload_names.specs.declared.names.What.TheVariants as what
use Rattle.lload_spec.specs.Entries.{makes_operation}
use Rattle.lload_spec.specs.Operations.{is_request_of, is_final_for}
use Rattle.lload_spec.specs.Settings.{Settings}
use Rattle.part_spec.specs.ClientState.{ClientState, ClientRow, check_at, client_behind, is_bind_row, is_holding, is_present, row_named, row_under, step_client, step_clients}
use Rattle.part_spec.specs.ClientTurn.{by_check, client_turn, message}
use Rattle.part_spec.specs.Inputs.{Act, entries_of, marked_by, nothing}
use Rattle.part_spec.specs.Marked.{Marked, Taken}
use Rattle.part_spec.specs.Merge.{Move, Happens, Severs, PartMove, letter_in, moved}
use Rattle.part_spec.specs.World.{World, behind, client_in}
use Rattle.link_laws.specs.Moves.{effects_in}
use Rattle.link_laws.proofs.Kept.{moves_keep}
use Rattle.link_laws.proofs.Numbers.{client_here, client_put, clients_number}
use Rattle.stands_laws.specs.Books.{Book, Has, HasMade, Keeps, Made, book_of, made_at, made_by, made_where, with_made}
use Rattle.stands_laws.specs.Laws.{BookLaw}
use Rattle.stands_laws.proofs.Tests.{same_self}
use Rattle.client_moves_laws.proofs.ClientTakes.{chosen_state}
use Rattle.client_moves_laws.proofs.ClientOuts.{answer_state, out_state}
use Rattle.client_moves_laws.proofs.ClientCloses.{come_state}

-- No entry takes operations away.
come_count : (s : Settings) (at : ℕ) (p : ClientState) (m : Message) (t bind : Bool) → p.count + (if t then 1 else 0) ≤ (come_state t bind s at m p).count
come_count s at p m true true = omega arith
come_count s at p m true false = omega arith
come_count s at p m false bind = omega arith

choice_count : (o : Option ClientRow) (answer : Answer) (p : ClientState) → p.count ≤ (chosen_state o answer p).count
choice_count None (Go u n) p = omega arith
choice_count (Some r) (Go u n) p = omega arith
choice_count o Busy p = omega arith
choice_count o Unavailable p = omega arith

answer_count : (final t stay : Bool) (s : Settings) (at : ℕ) (mark : Option Taken) (rest : List ℕ) (p : ClientState) (r : ClientRow) → p.count ≤ (answer_state final t stay s at mark rest p r).count
answer_count false t stay s at mark rest p r = omega arith
answer_count true true true s at mark rest p r = omega arith
answer_count true true false s at mark rest p r = omega arith
answer_count true false stay s at mark rest p r = omega arith

out_count : (s : Settings) (at : ℕ) (mark : Option Taken) (rest : List ℕ) (p : ClientState) (o : Option ClientRow) → p.count ≤ (out_state o s at mark rest p).count
out_count s at mark rest p None = omega arith
out_count s at mark rest p (Some r) = answer_count (is_final_for r.request rest) (is_bind_row r) (has_code 14 rest) s at mark rest p r

same_count : (m n : ℕ) → m ≡ n → m ≤ n
same_count m n e = omega (arith, e)

count_behind : (s : Settings) (at : ℕ) (mark : Option Taken) (p : ClientState) (w : What) → p.count ≤ (client_behind s at mark p w).count
count_behind s at mark p (what.In id rest) = let l = come_count s at p (record { id = id; rest = rest }) (makes_operation (record { id = id; rest = rest })) (is_request_of Bind (record { id = id; rest = rest })) in omega arith
count_behind s at mark p (what.Chosen op (Go u n)) = choice_count (row_named p op) (Go u n) p
count_behind s at mark p (what.Chosen op Busy) = same_count p.count p.count refl
count_behind s at mark p (what.Chosen op Unavailable) = same_count p.count p.count refl
count_behind s at mark p (what.Out id rest) = out_count s at mark rest p (row_under p id)
count_behind s at mark p _ = same_count p.count p.count refl

counts : (s : Settings) (p : ClientState) (ms : List Marked) → p.count ≤ (step_clients s p ms).count
counts s p [] = omega arith
counts s p (m ∷ ms) = let one = count_behind s m.entry.at m.mark p m.entry.what in let rest = counts s (step_client s p m) ms in omega arith

-- A client's state behind a turn of a part.
client_after : (s : Settings) (a c : ℕ) (mark : Option Taken) (e : Effects) (w : World) → client_in (behind s (Client a) mark e w) c ≡ cond (a == c) (step_clients s (client_in w a) (marked_by mark e.entries)) (client_in w c)
client_after s a c mark e w =
    let new : ClientState = step_clients s (client_in w a) (marked_by mark e.entries) in
    client_put w new c ∙ ap (λ (n : ℕ). cond (n == c) new (client_in w c)) (clients_number s (client_in w a) (marked_by mark e.entries) ∙ client_here w a)

turn_count : (s : Settings) (c n : ℕ) (p : PartName) (mark : Option Taken) (e : Effects) (w : World) → n ≤ (client_in w c).count → n ≤ (client_in (behind s p mark e w) c).count
turn_count s c n Desk mark e w h = h
turn_count s c n (Connection u) mark e w h = h
turn_count s c n (Client a) mark e w h = let same = ap (λ (p : ClientState). p.count) (client_after s a c mark e w) in let more = by (a == c) refl in omega (arith, same, more)
  where
    by : (t : Bool) → (a == c) ≡ t → n ≤ (cond (a == c) (step_clients s (client_in w a) (marked_by mark e.entries)) (client_in w c)).count
    by true i = let same : a ≡ c = eqb-true a c i in subst (λ (t : Bool). n ≤ (cond t (step_clients s (client_in w a) (marked_by mark e.entries)) (client_in w c)).count) (sym i) (let l = counts s (client_in w a) (marked_by mark e.entries) in let k = ap (λ (m : ℕ). (client_in w m).count) same in omega (arith, h, l, k))
    by false i = subst (λ (t : Bool). n ≤ (cond t (step_clients s (client_in w a) (marked_by mark e.entries)) (client_in w c)).count) (sym i) h

move_count : (s : Settings) (c n : ℕ) (w : World) (m : PartMove) → n ≤ (client_in w c).count → n ≤ (client_in (moved s m.part m.move w) c).count
move_count s c n w m h = moves_keep s (λ w. n ≤ (client_in w c).count) (λ sender p w k. k) (λ p x w k. turn_count s c n p (letter_in x) (effects_in s w p x) w k) w (m ∷ []) h

-- What is added to a book changes nothing that is made later.

-- another operation than this one
abbrev pub OtherThan : Made → Option Made → Type 0
OtherThan o None = Unit {0}
OtherThan o (Some n) = ((n.client == o.client) && (n.k == o.k)) ≡ false

has_other : (b : Book) (o : Made) (n : Option Made) → Has b n → OtherThan o n → Has (with_made (Some o) b) n
has_other b o None h z = tt
has_other b o (Some n) h z = record { request = ap (λ (t : Bool). if t then o.request else b.request n.client n.k) z ∙ h.request; action = ap (λ (t : Bool). if t then o.action else b.action n.client n.k) z ∙ h.action; pinned = ap (λ (t : Bool). if t then o.pinned else b.pinned n.client n.k) z ∙ h.pinned }

message_later : (s : Settings) (o : Made) (w : World) (c : ℕ) (t : Bool) (m : Message) → o.k ≤ (client_in w o.client).count → OtherThan o (made_where t (made_by s c (client_in w c) m))
message_later s o w c false m l = tt
message_later s o w c true m l = apart ((c == o.client) && (suc (client_in w c).count == o.k)) refl
  where
    apart : (t : Bool) → ((c == o.client) && (suc (client_in w c).count == o.k)) ≡ t → t ≡ false
    apart false e = refl
    apart true e =
        let q = and_parts (c == o.client) (suc (client_in w c).count == o.k) e in
        let same = ap (λ (i : ℕ). (client_in w i).count) (eqb-true c o.client q.0) in
        let number = eqb-true (suc (client_in w c).count) o.k q.1 in
        absurd (omega (arith, l, same, number))

made_later : (s : Settings) (o : Made) (w : World) (p : PartName) (move : Move) → o.k ≤ (client_in w o.client).count → OtherThan o (made_at s w p move)
made_later s o w (Client c) (Happens (event.Message now id rest)) l = message_later s o w c (is_present (client_in w c) && not (is_holding s (client_in w c)) && makes_operation (record { id = id; rest = rest })) (record { id = id; rest = rest }) l
made_later s o w (Client c) (Happens (event.Arrive now)) l = tt
made_later s o w (Client c) (Happens (event.LinkUp now)) l = tt
made_later s o w (Client c) (Happens (event.Letter now word sender)) l = tt
made_later s o w (Client c) (Happens (event.Tick now)) l = tt
made_later s o w (Client c) (Happens (event.LinkGone now why)) l = tt
made_later s o w (Client c) (Happens (event.Stall now)) l = tt
made_later s o w (Client c) (Happens (event.Flow now)) l = tt
made_later s o w (Client c) (Happens (event.Reload now plan base)) l = tt
made_later s o w (Client c) (Severs now why) l = tt
made_later s o w Desk move l = tt
made_later s o w (Connection u) move l = tt

keeps_other : (s : Settings) (b : Book) (o : Made) (w : World) (ms : List PartMove) → o.k ≤ (client_in w o.client).count → Keeps s b w ms → Keeps s (with_made (Some o) b) w ms
keeps_other s b o w [] l h = tt
keeps_other s b o w (m ∷ ms) l h = (has_other b o (made_at s w m.part m.move) h.0 (made_later s o w m.part m.move l), keeps_other s b o (moved s m.part m.move w) ms (move_count s o.client o.k w m l) h.1)

has_itself : (b : Book) (o : Made) → HasMade (with_made (Some o) b) o
has_itself b o =
    let z : ((o.client == o.client) && (o.k == o.k)) ≡ true = and_from (o.client == o.client) (o.k == o.k) (same_self o.client) (same_self o.k) in
    record { request = ap (λ (t : Bool). if t then o.request else b.request o.client o.k) z; action = ap (λ (t : Bool). if t then o.action else b.action o.client o.k) z; pinned = ap (λ (t : Bool). if t then o.pinned else b.pinned o.client o.k) z }

-- What a message makes is counted behind it.
pub record BeginsWithIn (m : Message) (whats : List What) : Type 0 where
  pub rest : List What
  pub is : whats ≡ what.In m.id m.rest ∷ rest

in_counts : (s : Settings) (p : ClientState) (q : PartName) (at : ℕ) (m : Message) (whats : List What) → makes_operation m ≡ true → BeginsWithIn m whats → suc p.count ≤ (step_clients s p (marked_by None (entries_of q at whats))).count
in_counts s p q at m whats made h =
    let first : Marked = record { entry = record { part = q; at = at; what = what.In m.id m.rest }; mark = None } in
    let more = counts s (step_client s p first) (map (λ x. record { entry = x; mark = None }) (entries_of q at h.rest)) in
    let one = come_count s at p m (makes_operation m) (is_request_of Bind m) in
    let e : ◌≡◌ {A = ℕ} (if makes_operation m then 1 else 0) 1 = ap (λ (t : Bool). if t then 1 else 0) made in
    let start : suc p.count ≤ (step_client s p first).count = omega (arith, one, e) in
    let all : suc p.count ≤ (step_clients s (step_client s p first) (map (λ x. record { entry = x; mark = None }) (entries_of q at h.rest))).count = omega (arith, start, more) in
    rw h.is all

message_counts : (s : Settings) (p : ClientState) (q : PartName) (at : ℕ) (m : Message) → (is_present p && not (is_holding s p)) ≡ true → makes_operation m ≡ true → suc p.count ≤ (step_clients s p (marked_by None (entries_of q at (message s p at m).whats))).count
message_counts s p q at m takes made =
    subst (λ (t : Bool). suc p.count ≤ (step_clients s p (marked_by None (entries_of q at (message_act t).whats))).count) (sym takes) (in_counts s p q at m (by_check s p at m (check_at s p m)).whats made (record { rest = _; is = refl }))
  where
    message_act : Bool → Act
    message_act t = elim t [ false ↦ nothing | true ↦ by_check s p at m (check_at s p m) ]

abbrev pub IsCounted : World → Option Made → Type 0
IsCounted w None = Unit {0}
IsCounted w (Some o) = o.k ≤ (client_in w o.client).count

message_counted : (s : Settings) (w : World) (c now id : ℕ) (rest : List ℕ) (t : Bool) → (is_present (client_in w c) && not (is_holding s (client_in w c)) && makes_operation (record { id = id; rest = rest })) ≡ t
    → IsCounted (moved s (Client c) (Happens (event.Message now id rest)) w) (made_where t (made_by s c (client_in w c) (record { id = id; rest = rest })))
message_counted s w c now id rest false e = tt
message_counted s w c now id rest true e =
    let p = client_in w c in
    let m : Message = record { id = id; rest = rest } in
    let q = and_parts (is_present p && not (is_holding s p)) (makes_operation m) e in
    let turn = client_turn s p (input.Message now id rest) in
    let after : client_in (behind s (Client c) None turn w) c ≡ step_clients s p (marked_by None turn.entries) = client_after s c c None turn w ∙ ap (λ (t : Bool). cond t (step_clients s p (marked_by None turn.entries)) p) (same_self c) in
    let counted = message_counts s p (Client p.number) (max p.moment now) m q.0 q.1 in
    let same = ap (λ (z : ClientState). z.count) after in
    omega (arith, counted, same)

counted : (s : Settings) (w : World) (p : PartName) (move : Move) → IsCounted (moved s p move w) (made_at s w p move)
counted s w (Client c) (Happens (event.Message now id rest)) = message_counted s w c now id rest (is_present (client_in w c) && not (is_holding s (client_in w c)) && makes_operation (record { id = id; rest = rest })) refl
counted s w (Client c) (Happens (event.Arrive now)) = tt
counted s w (Client c) (Happens (event.LinkUp now)) = tt
counted s w (Client c) (Happens (event.Letter now word sender)) = tt
counted s w (Client c) (Happens (event.Tick now)) = tt
counted s w (Client c) (Happens (event.LinkGone now why)) = tt
counted s w (Client c) (Happens (event.Stall now)) = tt
counted s w (Client c) (Happens (event.Flow now)) = tt
counted s w (Client c) (Happens (event.Reload now plan base)) = tt
counted s w (Client c) (Severs now why) = tt
counted s w Desk move = tt
counted s w (Connection u) move = tt

one_more : (s : Settings) (w : World) (ms : List PartMove) (b : Book) (o : Option Made) → IsCounted w o → Keeps s b w ms → Has (with_made o b) o × Keeps s (with_made o b) w ms
one_more s w ms b None m h = (tt, h)
one_more s w ms b (Some o) m h = (has_itself b o, keeps_other s b o w ms m h)

pub books : BookLaw
books s w [] = tt
books s w (m ∷ ms) = one_more s (moved s m.part m.move w) ms (book_of s (moved s m.part m.move w) ms) (made_at s w m.part m.move) (counted s w m.part m.move) (books s (moved s m.part m.move w) ms)
