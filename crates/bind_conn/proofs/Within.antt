-- A turn gives no more than its state allows.
use Rattle.std.proofs.Common.{◌≡◌, ◌≤◌, ◌+◌, ◌*◌, ℕ, Bool, true, false, ◌&&◌, not, List, [], ◌∷◌, ◌++◌, length, filter, Option, Some, None, arith, refl, ap, subst, sym, ◌∙◌}
use Rattle.std.proofs.lemmas.List.{length-append, length-map}
use Rattle.std.specs.Prelude.{find}
use Rattle.ldap_spec.specs.Messages.{Message}
use Rattle.ldap_spec.specs.Tags.{bind_in_progress}
use Rattle.ldap_spec.specs.Kinds.{is_intermediate}
use Rattle.ldap_spec.specs.Responses.{has_code, tells_who, who_value}
use Rattle.ldap_spec.specs.Bodies.{who_am_i}
use Rattle.lload_names.specs.declared.names.ConnKind.TheVariants.{Bind as BindKind}
use Rattle.lload_names.specs.declared.names.EndWhy.{EndWhy}
use Rattle.lload_names.specs.declared.names.EndWhy.TheVariants.{Bad as BadEnd, TimedOut, Unfinished}
use Rattle.lload_names.specs.declared.names.Letter.{Letter}
use Rattle.lload_names.specs.declared.names.Letter.TheVariants.{Forward, Drop, Leave}
use Rattle.lload_names.specs.declared.names.OpName.{OpName}
use Rattle.lload_names.specs.declared.names.Posted.{Posted}
use Rattle.lload_names.specs.declared.names.Refusal.TheVariants.{C5, C9}
use Rattle.lload_names.specs.declared.names.What.TheVariants as what
use Rattle.lload_names.specs.Same.{same_op}
use Rattle.lload_names.specs.declared.inputs.Input.{Input}
use Rattle.lload_names.specs.declared.inputs.Input.TheVariants.{LinkUp, Message as MessageIn, LetterFrom, Tick}
use Rattle.lload_spec.specs.Settings.{Settings}
use Rattle.lload_spec.specs.Identifiers.{id_for}
use Rattle.lload_spec.specs.BadMessages.{is_bad}
use Rattle.part_spec.specs.Inputs.{Act, act, nothing, failed, reply, moment_for}
use Rattle.part_spec.specs.ConnectionState.{ConnectionState, UpRow, is_stopped, is_under, is_under_who, keeps_back, message_facts}
use Rattle.part_spec.specs.ConnectionTurn.{ended, holder_ended, is_due, giving, retires, goes_down, takes_down}
use Rattle.part_spec.specs.BindTurn.{link_up, keep_back, bind_answer, row_answer, kept_rest, identity_letters, who_answer, answered, message, holds, was_lost, missed_ended, missed_letters, forwards, leaves, letter, expires, ticks, bind_rule}
use Rattle.part_spec.specs.Turn.{connection_turn, connection_sever}
use Rattle.conn_core.specs.Kept.{up_row}
use Rattle.conn_core.specs.Most.{IsWithin}
use Rattle.conn_core.specs.Turned.{behind}
use Rattle.conn_core.proofs.Grows.{filter-less}
use Rattle.conn_core.proofs.Small.{Small, more, both, none, so, holder-small, goes-small, gives-small, turn-within, turn-grows}
use Rattle.conn_core.proofs.Small as small
use Rattle.conn_core.proofs.Turns.{bind-act}
use Rattle.bind_conn.specs.Part.{Stands, state}
use Rattle.bind_conn.specs.Most.{most_of}
use Rattle.bind_conn.specs.declared.part.BindPart.{BindPart}

-- The rules.
link-small : (p : ConnectionState) → Small 3 0 (link_up p)
link-small p = record { whats = omega arith; letters = omega arith; sends = omega arith }

bind-small : (s : Settings) (p : ConnectionState) (rest : List ℕ) (r : UpRow) → Small 2 0 (bind_answer s p rest r)
bind-small s p rest r = by (has_code bind_in_progress rest) (keeps_back r rest)
  where
    by : (b c : Bool) → Small 2 0 (let a : Act = elim b [ true ↦ act [] (reply r.op rest true None) | false ↦ elim c [ true ↦ keep_back s p | false ↦ act [] (reply r.op rest true None ++ holder_ended p) ] ] in a)
    by true c = record { whats = omega arith; letters = omega arith; sends = omega arith }
    by false true = gives-small s p p.ids.next (what.Own p.ids.next who_am_i)
    by false false = let h = holder-small p in record { whats = omega arith; letters = omega (arith, h); sends = omega arith }

row-small : (s : Settings) (p : ConnectionState) (rest : List ℕ) (r : UpRow) → Small 2 0 (row_answer s p rest r)
row-small s p rest r = by (is_intermediate rest)
  where
    by : (b : Bool) → Small 2 0 (let a : Act = elim b [ true ↦ act [] (reply r.op rest false None) | false ↦ bind_answer s p rest r ] in a)
    by true = record { whats = omega arith; letters = omega arith; sends = omega arith }
    by false = bind-small s p rest r

identity-small : (r : UpRow) (rest : List ℕ) → length (identity_letters r rest) ≤ 1
identity-small r rest = by (tells_who rest)
  where
    by : (b : Bool) → length (let l : List Posted = elim b [ true ↦ reply r.op (kept_rest r) true (who_value rest) | false ↦ failed r.op C9 ] in l) ≤ 1
    by true = omega arith
    by false = omega arith

who-small : (p : ConnectionState) (rest : List ℕ) (r : UpRow) → Small 2 0 (who_answer p rest r)
who-small p rest r = by (is_intermediate rest)
  where
    by : (b : Bool) → Small 2 0 (let a : Act = elim b [ true ↦ nothing | false ↦ act [] (identity_letters r rest ++ holder_ended p) ] in a)
    by true = none 2 0
    by false =
        let i = identity-small r rest in
        let h = holder-small p in
        let all = length-append (identity_letters r rest) (holder_ended p) in
        record { whats = omega arith; letters = omega (arith, i, h, all); sends = omega arith }

answered-small : (s : Settings) (p : ConnectionState) (m : Message) → Small 2 0 (answered s p m)
answered-small s p m = by (find (is_under m.id) p.rows) (find (is_under_who m.id) p.rows)
  where
    by : (o q : Option UpRow) → Small 2 0 (let a : Act = elim o [ Some r ↦ row_answer s p m.rest r | None ↦ elim q [ Some r ↦ who_answer p m.rest r | None ↦ nothing ] ] in a)
    by (Some r) q = row-small s p m.rest r
    by None (Some r) = who-small p m.rest r
    by None None = none 2 0

message-small : (s : Settings) (p : ConnectionState) (m : Message) → Small (1 + (2 * length p.rows + 2)) 0 (message s p m)
message-small s p m = both 1 (2 * length p.rows + 2) 0 0 (act (what.Got m.id m.rest ∷ []) []) (takes_down p m (answered s p m)) (record { whats = omega arith; letters = omega arith; sends = omega arith }) (by (is_bad (message_facts p) m))
  where
    by : (b : Bool) → Small (2 * length p.rows + 2) 0 (let a : Act = elim b [ true ↦ goes_down p BadEnd | false ↦ answered s p m ] in a)
    by true = goes-small p BadEnd
    by false = more 2 (2 * length p.rows + 2) 0 0 (answered s p m) (omega arith) (omega arith) (answered-small s p m)

missed-small : (p : ConnectionState) (holder : OpName) → length (missed_ended p holder) ≤ 1
missed-small p holder = by (was_lost p holder)
  where
    by : (b : Bool) → length (let l : List Posted = elim b [ true ↦ [] | false ↦ ended p holder None ] in l) ≤ 1
    by true = omega arith
    by false = omega arith

forwards-small : (s : Settings) (p : ConnectionState) (op : OpName) (rest : List ℕ) (holder : OpName) → Small 3 1 (forwards s p op rest holder)
forwards-small s p op rest holder = by (is_stopped p)
  where
    by : (b : Bool) → Small 3 1 (let a : Act = elim b [ true ↦ act (what.Missed op ∷ []) (missed_letters p op holder) | false ↦ act (giving s (id_for p.ids) (what.Sent (id_for p.ids) op rest)) (retires s p (id_for p.ids)) ] in a)
    by true = let m = missed-small p holder in record { whats = omega arith; letters = omega (arith, m); sends = omega arith }
    by false = more 2 3 1 1 (act (giving s (id_for p.ids) (what.Sent (id_for p.ids) op rest)) (retires s p (id_for p.ids))) (omega arith) (omega arith) (gives-small s p (id_for p.ids) (what.Sent (id_for p.ids) op rest))

leaves-small : (p : ConnectionState) (holder : OpName) → Small (2 * length p.rows + 2) 0 (leaves p holder)
leaves-small p holder = by (holds p holder && not p.down)
  where
    by : (b : Bool) → Small (2 * length p.rows + 2) 0 (let a : Act = elim b [ true ↦ goes_down p Unfinished | false ↦ act (what.Idle holder ∷ []) [] ] in a)
    by true = goes-small p Unfinished
    by false = record { whats = omega arith; letters = omega arith; sends = omega arith }

letter-small : (s : Settings) (p : ConnectionState) (l : Letter) → Small (2 * length p.rows + 3) 1 (letter s p l)
letter-small s p (Forward op _ rest _ holder) = more 3 (2 * length p.rows + 3) 1 1 (forwards s p op rest holder) (omega arith) (omega arith) (forwards-small s p op rest holder)
letter-small s p (Drop op) = record { whats = omega arith; letters = omega arith; sends = omega arith }
letter-small s p (Leave holder) = more (2 * length p.rows + 2) (2 * length p.rows + 3) 0 1 (leaves p holder) (omega arith) (omega arith) (leaves-small p holder)
letter-small s p _ = none (2 * length p.rows + 3) 1

expires-small : (p : ConnectionState) (r : UpRow) → Small (2 * length p.rows + 3) 0 (expires p r)
expires-small p r =
    let few = filter-less (λ x. not (same_op r.op x.op)) p.rows in
    let q : ConnectionState = record p { rows = filter (λ x. not (same_op r.op x.op)) p.rows } in
    more (1 + (2 * length q.rows + 2)) (2 * length p.rows + 3) 0 0 (expires p r) (omega (arith, few)) (omega arith) (both 1 (2 * length q.rows + 2) 0 0 (act (what.Expired r.op ∷ []) (failed r.op C5)) (goes_down q TimedOut) (record { whats = omega arith; letters = omega arith; sends = omega arith }) (goes-small q TimedOut))

ticks-small : (s : Settings) (p : ConnectionState) (at : ℕ) → Small (2 * length p.rows + 3) 0 (ticks s p at)
ticks-small s p at = by (find (is_due s at) p.rows)
  where
    by : (o : Option UpRow) → Small (2 * length p.rows + 3) 0 (let a : Act = elim o [ None ↦ nothing | Some r ↦ expires p r ] in a)
    by None = none (2 * length p.rows + 3) 0
    by (Some r) = expires-small p r

rule-small : (s : Settings) (p : ConnectionState) (at : ℕ) (input : Input) → Small (2 * length p.rows + 3) 1 (bind_rule s p at input)
rule-small s p at (LinkUp now) = so _ _ _ (link_up p) (more 3 (2 * length p.rows + 3) 0 1 (link_up p) (omega arith) (omega arith) (link-small p))
rule-small s p at (MessageIn now id rest) = so _ _ _ (message s p (record { id = id; rest = rest })) (more (1 + (2 * length p.rows + 2)) (2 * length p.rows + 3) 0 1 (message s p (record { id = id; rest = rest })) (omega arith) (omega arith) (message-small s p (record { id = id; rest = rest })))
rule-small s p at (LetterFrom now word sender l) = so _ _ _ (letter s p l) (letter-small s p l)
rule-small s p at (Tick now) = so _ _ _ (ticks s p at) (more (2 * length p.rows + 3) (2 * length p.rows + 3) 0 1 (ticks s p at) (omega arith) (omega arith) (ticks-small s p at))
rule-small s p at _ = none (2 * length p.rows + 3) 1

pub most-is : (s : Settings) (p : ConnectionState) (b : BindPart) → Stands s p b → 2 * length b.core.table.rows + 4 ≡ most_of p
most-is s p b h =
    let many : length p.rows ≡ length b.core.table.rows = ap (λ (q : ConnectionState). length q.rows) h.is ∙ length-map b.core.table.rows up_row in
    omega (arith, many)

module _ (s : Settings) (p : ConnectionState) (b : BindPart) (input : Input) (h : Stands s p b) where
  abbrev at : ℕ
  at = moment_for b.core.moment input

  -- what a step gives
  pub step-within : IsWithin (most_of p) (connection_turn s p input)
  step-within =
      let whole : 2 * length (state b).rows + 3 + 1 ≡ most_of (state b) = omega arith in
      subst (λ (q : ConnectionState). IsWithin (most_of q) (connection_turn s q input)) (sym h.is)
      (subst (λ (n : ℕ). IsWithin n (connection_turn s (state b) input)) whole
      (turn-within s BindKind (state b) input (2 * length (state b).rows + 3) 1 (bind_rule s (state b) at input) h.knows.placed (bind-act s (state b) at input (bind_rule s (state b) at input) h.knows.steady.kind refl) (rule-small s (state b) at input)))

  -- and how much one gives behind it
  pub step-doubles : most_of (behind s p input) ≤ 2 * most_of p
  step-doubles =
      let grown = turn-grows s BindKind (state b) input (2 * length (state b).rows + 3) 1 (bind_rule s (state b) at input) h.knows.placed (bind-act s (state b) at input (bind_rule s (state b) at input) h.knows.steady.kind refl) (rule-small s (state b) at input) in
      let l : most_of (behind s (state b) input) ≤ 2 * most_of (state b) = omega (arith, grown) in
      subst (λ (q : ConnectionState). most_of (behind s q input) ≤ 2 * most_of q) (sym h.is) l

-- and what the end of the link does
pub sever-within : (p : ConnectionState) (now : ℕ) (why : EndWhy) → IsWithin (most_of p) (connection_sever p now why)
sever-within p now why = small.sever-within p now why (most_of p) (omega arith)
