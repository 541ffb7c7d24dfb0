-- A turn gives no more than its state allows.
use Rattle.std.proofs.Common.{◌≡◌, ◌≤◌, ◌+◌, ◌*◌, ℕ, suc, Bool, true, false, List, [], ◌∷◌, ◌++◌, length, filter, Option, Some, None, arith, refl, ap, subst, sym, ◌∙◌}
use Rattle.std.proofs.lemmas.List.{length-map}
use Rattle.std.specs.Prelude.{find}
use Rattle.ldap_spec.specs.Messages.{Message}
use Rattle.ldap_spec.specs.Tags.{success}
use Rattle.ldap_spec.specs.Kinds.{is_final}
use Rattle.ldap_spec.specs.Responses.{has_code}
use Rattle.ldap_spec.specs.Bodies.{abandon, simple_bind}
use Rattle.lload_names.specs.declared.names.ConnKind.TheVariants.{Regular}
use Rattle.lload_names.specs.declared.names.EndWhy.{EndWhy}
use Rattle.lload_names.specs.declared.names.EndWhy.TheVariants.{OwnBind as OwnBindFailed, Bad as BadEnd, TimedOut}
use Rattle.lload_names.specs.declared.names.Letter.{Letter}
use Rattle.lload_names.specs.declared.names.Letter.TheVariants.{Forward, Drop, Pause, Resume}
use Rattle.lload_names.specs.declared.names.OpName.{OpName}
use Rattle.lload_names.specs.declared.names.Refusal.TheVariants.{C4}
use Rattle.lload_names.specs.declared.names.What.TheVariants as what
use Rattle.lload_names.specs.declared.inputs.Input.{Input}
use Rattle.lload_names.specs.declared.inputs.Input.TheVariants.{LinkUp, Message as MessageIn, LetterFrom, Tick}
use Rattle.lload_spec.specs.Settings.{Settings, OwnBind}
use Rattle.lload_spec.specs.Identifiers.{id_for}
use Rattle.lload_spec.specs.BadMessages.{is_bad}
use Rattle.part_spec.specs.Inputs.{Act, act, also, nothing, failed, reply, moment_for}
use Rattle.part_spec.specs.ConnectionState.{ConnectionState, UpRow, is_stopped, is_under, is_under_own, message_facts, row_named}
use Rattle.part_spec.specs.ConnectionTurn.{ended, latency, is_due, giving, retires, goes_down, comes_up, takes_down}
use Rattle.part_spec.specs.RegularTurn.{link_up, own_answer, row_answer, answered, message, forwards, abandons, drops, letter, expires, expire, ticks, is_own_due, regular_rule}
use Rattle.part_spec.specs.Turn.{connection_turn, connection_sever}
use Rattle.conn_core.specs.Kept.{up_row}
use Rattle.conn_core.specs.Most.{IsWithin}
use Rattle.conn_core.specs.Turned.{behind}
use Rattle.conn_core.proofs.Grows.{filter-less}
use Rattle.conn_core.proofs.Small.{Small, more, both, none, so, goes-small, giving-small, giving-sends, retires-small, gives-small, turn-within, turn-grows}
use Rattle.conn_core.proofs.Small as small
use Rattle.conn_core.proofs.Turns.{regular-act}
use Rattle.upstream_conn.specs.Part.{Knows, Stands, state}
use Rattle.upstream_conn.specs.Most.{most_of}
use Rattle.upstream_conn.specs.declared.part.UpstreamPart.{UpstreamPart}
use Rattle.upstream_conn.proofs.Expiries.{time-out-is, due-is}

-- The rules.
link-small : (s : Settings) (p : ConnectionState) → Small 3 0 (link_up s p)
link-small s p = by s.own_bind
  where
    by : (o : Option OwnBind) → Small 3 0 (also (act (what.Linked ∷ []) []) (let a : Act = elim o [ None ↦ comes_up p | Some own ↦ act (giving s p.ids.next (what.Own p.ids.next (simple_bind own.dn own.credentials))) (retires s p p.ids.next) ] in a))
    by None = record { whats = omega arith; letters = omega arith; sends = omega arith }
    by (Some own) = both 1 2 0 0 (act (what.Linked ∷ []) []) (act (giving s p.ids.next (what.Own p.ids.next (simple_bind own.dn own.credentials))) (retires s p p.ids.next)) (record { whats = omega arith; letters = omega arith; sends = omega arith }) (gives-small s p p.ids.next (what.Own p.ids.next (simple_bind own.dn own.credentials)))

own-small : (p : ConnectionState) (m : Message) → Small (2 * length p.rows + 2) 0 (own_answer p m)
own-small p m = by (has_code success m.rest)
  where
    by : (b : Bool) → Small (2 * length p.rows + 2) 0 (let a : Act = elim b [ true ↦ comes_up p | false ↦ goes_down p OwnBindFailed ] in a)
    by true = record { whats = omega arith; letters = omega arith; sends = omega arith }
    by false = goes-small p OwnBindFailed

row-small : (p : ConnectionState) (at : ℕ) (m : Message) (r : UpRow) → Small 2 0 (row_answer p at m r)
row-small p at m r = by (is_final r.kind m.rest)
  where
    by : (b : Bool) → Small 2 0 (let a : Act = elim b [ false ↦ act [] (reply r.op m.rest false None) | true ↦ act [] (reply r.op m.rest true None ++ ended p r.op (latency at r)) ] in a)
    by true = record { whats = omega arith; letters = omega arith; sends = omega arith }
    by false = record { whats = omega arith; letters = omega arith; sends = omega arith }

answered-small : (p : ConnectionState) (at : ℕ) (m : Message) → Small (2 * length p.rows + 2) 0 (answered p at m)
answered-small p at m = by (is_under_own p m.id) (find (is_under m.id) p.rows)
  where
    by : (b : Bool) (o : Option UpRow) → Small (2 * length p.rows + 2) 0 (let a : Act = elim b [ true ↦ own_answer p m | false ↦ elim o [ None ↦ nothing | Some r ↦ row_answer p at m r ] ] in a)
    by true o = own-small p m
    by false None = none (2 * length p.rows + 2) 0
    by false (Some r) = more 2 (2 * length p.rows + 2) 0 0 (row_answer p at m r) (omega arith) (omega arith) (row-small p at m r)

message-small : (p : ConnectionState) (at : ℕ) (m : Message) → Small (1 + (2 * length p.rows + 2)) 0 (message p at m)
message-small p at m = both 1 (2 * length p.rows + 2) 0 0 (act (what.Got m.id m.rest ∷ []) []) (takes_down p m (answered p at m)) (record { whats = omega arith; letters = omega arith; sends = omega arith }) (by (is_bad (message_facts p) m))
  where
    by : (b : Bool) → Small (2 * length p.rows + 2) 0 (let a : Act = elim b [ true ↦ goes_down p BadEnd | false ↦ answered p at m ] in a)
    by true = goes-small p BadEnd
    by false = answered-small p at m

forwards-small : (s : Settings) (p : ConnectionState) (op : OpName) (rest : List ℕ) → Small 3 1 (forwards s p op rest)
forwards-small s p op rest = by (is_stopped p)
  where
    by : (b : Bool) → Small 3 1 (let a : Act = elim b [ true ↦ act (what.Missed op ∷ []) (failed op C4 ++ ended p op None) | false ↦ act (giving s (id_for p.ids) (what.Sent (id_for p.ids) op rest)) (retires s p (id_for p.ids)) ] in a)
    by true = record { whats = omega arith; letters = omega arith; sends = omega arith }
    by false = more 2 3 1 1 (act (giving s (id_for p.ids) (what.Sent (id_for p.ids) op rest)) (retires s p (id_for p.ids))) (omega arith) (omega arith) (gives-small s p (id_for p.ids) (what.Sent (id_for p.ids) op rest))

drops-small : (s : Settings) (p : ConnectionState) (op : OpName) → Small 3 0 (drops s p op)
drops-small s p op = by (row_named p op)
  where
    by : (o : Option UpRow) → Small 3 0 (let a : Act = elim o [ None ↦ act (what.Idle op ∷ []) [] | Some r ↦ abandons s p r ] in a)
    by None = record { whats = omega arith; letters = omega arith; sends = omega arith }
    by (Some r) =
        let w = what.Own p.ids.next (abandon r.id) in
        let g = giving-small s p.ids.next w in
        let x = giving-sends s p.ids.next w in
        let t = retires-small s p p.ids.next in
        record { whats = omega (arith, g); letters = omega (arith, t); sends = omega (arith, x) }

letter-small : (s : Settings) (p : ConnectionState) (l : Letter) → Small 3 1 (letter s p l)
letter-small s p (Forward op _ rest _ _) = forwards-small s p op rest
letter-small s p (Drop op) = more 3 3 0 1 (drops s p op) (omega arith) (omega arith) (drops-small s p op)
letter-small s p (Pause client) = record { whats = omega arith; letters = omega arith; sends = omega arith }
letter-small s p (Resume client) = record { whats = omega arith; letters = omega arith; sends = omega arith }
letter-small s p _ = none 3 1

expire-small : (s : Settings) (p : ConnectionState) (id : ℕ) (rs : List UpRow) → Small (3 * length rs) 0 (expire s p id rs)
expire-small s p id [] = none 0 0
expire-small s p id (r ∷ rs) =
    let w = what.Own id (abandon r.id) in
    let g = giving-small s id w in
    let x = giving-sends s id w in
    let t = retires-small s p id in
    more (3 + 3 * length rs) (3 * length (r ∷ rs)) 0 0 (expire s p id (r ∷ rs)) (omega arith) (omega arith)
    (both 3 (3 * length rs) 0 0 (expires s p id r) (expire s p (suc id) rs) (record { whats = omega (arith, g); letters = omega (arith, t); sends = omega (arith, x) }) (expire-small s p (suc id) rs))

ticks-small : (s : Settings) (u : UpstreamPart) (at : ℕ) → Knows s u → Small (3 * length (state u).rows + 3) 0 (ticks s (state u) at)
ticks-small s u at k = by (is_own_due s (state u) at) refl
  where
    by : (b : Bool) → is_own_due s (state u) at ≡ b → Small (3 * length (state u).rows + 3) 0 (ticks s (state u) at)
    by true e = subst (Small (3 * length (state u).rows + 3) 0) (sym (time-out-is s u at k e)) (more (2 * length (state u).rows + 2) (3 * length (state u).rows + 3) 0 0 (goes_down (state u) TimedOut) (omega arith) (omega arith) (goes-small (state u) TimedOut))
    by false e =
        let few = filter-less (is_due s at) (state u).rows in
        let due : List UpRow = filter (is_due s at) (state u).rows in
        let rest : Act = expire s (state u) u.core.table.ids.next due in
        subst (Small (3 * length (state u).rows + 3) 0) (sym (due-is s u at k e))
        (more (3 * length due + 0) (3 * length (state u).rows + 3) 0 0 (also rest nothing) (omega (arith, few)) (omega arith) (both (3 * length due) 0 0 0 rest nothing (expire-small s (state u) u.core.table.ids.next due) (none 0 0)))

rule-small : (s : Settings) (u : UpstreamPart) (at : ℕ) (input : Input) → Knows s u → Small (3 * length (state u).rows + 3) 1 (regular_rule s (state u) at input)
rule-small s u at (LinkUp now) k = so _ _ _ (link_up s (state u)) (more 3 (3 * length (state u).rows + 3) 0 1 (link_up s (state u)) (omega arith) (omega arith) (link-small s (state u)))
rule-small s u at (MessageIn now id rest) k = so _ _ _ (message (state u) at (record { id = id; rest = rest })) (more (1 + (2 * length (state u).rows + 2)) (3 * length (state u).rows + 3) 0 1 (message (state u) at (record { id = id; rest = rest })) (omega arith) (omega arith) (message-small (state u) at (record { id = id; rest = rest })))
rule-small s u at (LetterFrom now word sender l) k = so _ _ _ (letter s (state u) l) (more 3 (3 * length (state u).rows + 3) 1 1 (letter s (state u) l) (omega arith) (omega arith) (letter-small s (state u) l))
rule-small s u at (Tick now) k = so _ _ _ (ticks s (state u) at) (more (3 * length (state u).rows + 3) (3 * length (state u).rows + 3) 0 1 (ticks s (state u) at) (omega arith) (omega arith) (ticks-small s u at k))
rule-small s u at _ k = none (3 * length (state u).rows + 3) 1

pub most-is : (s : Settings) (p : ConnectionState) (u : UpstreamPart) → Stands s p u → 3 * length u.core.table.rows + 4 ≡ most_of p
most-is s p u h =
    let many : length p.rows ≡ length u.core.table.rows = ap (λ (q : ConnectionState). length q.rows) h.is ∙ length-map u.core.table.rows up_row in
    omega (arith, many)

module _ (s : Settings) (p : ConnectionState) (u : UpstreamPart) (input : Input) (h : Stands s p u) where
  abbrev at : ℕ
  at = moment_for u.core.moment input

  -- what a step gives
  pub step-within : IsWithin (most_of p) (connection_turn s p input)
  step-within =
      let whole : 3 * length (state u).rows + 3 + 1 ≡ most_of (state u) = omega arith in
      subst (λ (q : ConnectionState). IsWithin (most_of q) (connection_turn s q input)) (sym h.is)
      (subst (λ (n : ℕ). IsWithin n (connection_turn s (state u) input)) whole
      (turn-within s Regular (state u) input (3 * length (state u).rows + 3) 1 (regular_rule s (state u) at input) h.knows.fits.placed (regular-act s (state u) at input (regular_rule s (state u) at input) h.knows.steady.kind refl) (rule-small s u at input h.knows)))

  -- and how much one gives behind it
  pub step-doubles : most_of (behind s p input) ≤ 2 * most_of p
  step-doubles =
      let grown = turn-grows s Regular (state u) input (3 * length (state u).rows + 3) 1 (regular_rule s (state u) at input) h.knows.fits.placed (regular-act s (state u) at input (regular_rule s (state u) at input) h.knows.steady.kind refl) (rule-small s u at input h.knows) in
      let l : most_of (behind s (state u) input) ≤ 2 * most_of (state u) = omega (arith, grown) in
      subst (λ (q : ConnectionState). most_of (behind s q input) ≤ 2 * most_of q) (sym h.is) l

-- and what the end of the link does
pub sever-within : (p : ConnectionState) (now : ℕ) (why : EndWhy) → IsWithin (most_of p) (connection_sever p now why)
sever-within p now why = small.sever-within p now why (most_of p) (omega arith)
