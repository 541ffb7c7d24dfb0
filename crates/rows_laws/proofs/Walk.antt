-- A regular connection's list, from entry to entry: its rows are its open Sents.
use Rattle.std.proofs.Common.{◌≡◌, ℕ, Bool, true, false, ◌==◌, ◌&&◌, ◌||◌, not, List, [], ◌∷◌, ◌++◌, refl, ap, ◌∙◌, sym, subst}
use Rattle.std.specs.Prelude.{Option, Some, None, map, flat_map, filter, cond, nat_lt, if◌then◌else◌}
use Rattle.std.specs.List.{list_all}
use Rattle.std.proofs.lemmas.List.{append-nil}
use Rattle.ldap_spec.specs.Kinds.{fits, kind_of, same_kind}
use Rattle.lload_names.specs.declared.names.Entry.{Entry}
use Rattle.lload_names.specs.declared.names.Letter.{Letter}
use Rattle.lload_names.specs.declared.names.Letter.TheVariants.{Forward}
use Rattle.lload_names.specs.declared.names.OpKind.{OpKind}
use Rattle.lload_names.specs.declared.names.OpName.{OpName}
use Rattle.lload_names.specs.declared.names.PartName.{PartName}
use Rattle.lload_names.specs.declared.names.What.{What}
use Rattle.lload_names.specs.declared.names.What.TheVariants as what
use Rattle.lload_spec.specs.Answers.{Sending, answer_of, asks_who, gives_id, sending_made, sendings}
use Rattle.lload_spec.specs.Entries.{sent_message}
use Rattle.lload_spec.specs.Identifiers.{Ids, has_right_id, id_for}
use Rattle.lload_spec.specs.Journal.{Family, same_op}
use Rattle.lload_spec.specs.Lists.{agrees, passes, where_there}
use Rattle.lload_spec.specs.Operations.{Operation, operation}
use Rattle.lload_spec.specs.Settings.{Settings}
use Rattle.lload_spec.proofs.Growth.{left, right}
use Rattle.lload_laws.specs.ConnectionGrowth.{later_sending}
use Rattle.lload_laws.proofs.ConnectionGrowth.{sendings_grow}
use Rattle.part_laws.proofs.ListLaws.{eqb_sym, not_true, same_number, same_op_eq}
use Rattle.part_spec.specs.ConnectionState.{ConnectionState, OwnWait, UpRow, behind_message, behind_own, connection_behind, is_under_own, rows_sent}
use Rattle.part_spec.specs.Marked.{Taken}
use Rattle.part_spec.specs.Marks.{has_connection_mark, marks_connection}
use Rattle.connection_laws.proofs.Apart.{RowsApart, is_taken, or_false_left, or_false_right}
use Rattle.connection_laws.proofs.Rows.{is_sound, no_bind, not_kept}
use Rattle.client_answer_laws.proofs.Each.{Each, each_both}
use Rattle.carried_laws.specs.Laws.{is_forward_right, says_rightly}
use Rattle.carried_laws.proofs.RegularReplies.{same_kind_eq}
use Rattle.rows_laws.proofs.Live.{Live, is_end, live_idle}
use Rattle.rows_laws.proofs.Lives.{Lives, lives_down, lives_move, lives_put, lives_stay}
use Rattle.rows_laws.proofs.OwnApart.{OwnApart, below_apart}
use Rattle.rows_laws.proofs.Somewhere.{filter_flat}
use Rattle.rows_laws.proofs.Steps.{expired_moves, got_moves, own_moves}

agrees_is : (a b : Bool) → agrees a b ≡ true → b ≡ a
agrees_is true true h = refl
agrees_is false false h = refl
agrees_is true false h = absurd (let bad : false ≡ true = h in cc)
agrees_is false true h = absurd (let bad : false ≡ true = h in cc)

-- what a Boolean says of each row, as a type
abbrev pub Row : (UpRow → Bool) → UpRow → Type 0
Row t r = t r ≡ true

pub each_row : (t : UpRow → Bool) (rows : List UpRow) → list_all t rows ≡ true → Each (Row t) rows
each_row t [] h = tt
each_row t (r ∷ rows) h = (left (t r) _ h, each_row t rows (right (t r) _ h))

pub each_other : (n : ℕ) (rows : List UpRow) → is_taken rows n ≡ false → Each (λ r. (r.id == n) ≡ false) rows
each_other n [] h = tt
each_other n (r ∷ rows) h = (or_false_left (r.id == n) _ h, each_other n rows (or_false_right (r.id == n) _ h))

kind_is : (k : Option OpKind) (sort : OpKind) → passes (same_kind sort) k ≡ true → k ≡ Some sort
kind_is None sort h = absurd (let bad : false ≡ true = h in cc)
kind_is (Some k) sort h = ap Some (sym (same_kind_eq sort k h))

-- the identifier that an operation gets is no row's
id_untaken : (rows : List UpRow) (ids : Ids) → list_all (λ r. nat_lt r.id ids.next) rows ≡ true → list_all (λ n. not (is_taken rows n)) ids.free ≡ true → is_taken rows (id_for ids) ≡ false
id_untaken rows ids below free = by ids.free free
  where
    next : (rs : List UpRow) → list_all (λ r. nat_lt r.id ids.next) rs ≡ true → is_taken rs ids.next ≡ false
    next [] h = refl
    next (r ∷ rs) h = ap (λ b. b || is_taken rs ids.next) (eqb_sym r.id ids.next ∙ below_apart r.id ids.next (left (nat_lt r.id ids.next) _ h)) ∙ next rs (right (nat_lt r.id ids.next) _ h)

    by : (ns : List ℕ) → list_all (λ n. not (is_taken rows n)) ns ≡ true → is_taken rows (elim ns [ [] ↦ ids.next | n ∷ xs ↦ n ]) ≡ false
    by [] k = next rows below
    by (n ∷ ns) k = not_true (is_taken rows n) (left (not (is_taken rows n)) _ k)

module _ (s : Settings) (F : Family) (u : ℕ) (place : List Entry) (p : ConnectionState) (sound : list_all (is_sound u place) p.rows ≡ true) (apart : RowsApart place p) (own : (v : OwnWait) → p.own_bind ≡ Some v → OwnApart p.rows p.ids v) (part : PartName) (at : ℕ) (h : Lives s F p.rows (sendings u place)) where
  abbrev entry : What → Entry
  entry w = record { part = part; at = at; what = w }

  abbrev after : What → List UpRow → Type 0
  after w rows = Lives s F rows (sendings u (place ++ entry w ∷ []))

  -- the Sents behind an entry that is none
  unsent : (w : What) (rows : List UpRow) → sent_message w ≡ None → Lives s F rows (map (later_sending (entry w)) (sendings u place)) → after w rows
  unsent w rows none k = subst (Lives s F rows) (sym (sendings_grow u place (entry w) ∙ ap (λ o. map (later_sending (entry w)) (sendings u place) ++ sending_made u place (entry w) [] o) none ∙ append-nil (map (later_sending (entry w)) (sendings u place)))) k

  sounds : Each (Row (is_sound u place)) p.rows
  sounds = each_row (is_sound u place) p.rows sound

  -- an entry that is neither a message nor a Sent, nor ends anything
  idle : (w : What) → sent_message w ≡ None → ((i : ℕ) → gives_id i (entry w) ≡ false) → ((o : Operation) (x : Sending) → is_end o x (entry w) ≡ false) → ((o : Operation) (i : ℕ) → answer_of o.request i (entry w) ≡ None) → after w p.rows
  idle w none gives ends answers = unsent w p.rows none (lives_stay s F (entry w) (Row (is_sound u place)) p.rows (sendings u place) sounds (λ r k x l. live_idle s F r x l (entry w) (gives x.id) (ends l.o x) (answers l.o x.id)) h)

  -- a message under the own Bind's identifier
  own_got : (id : ℕ) (rest : List ℕ) (o : Option OwnWait) → p.own_bind ≡ o → passes (λ v. v.id == id) o ≡ true → after (what.Got id rest) p.rows
  own_got id rest None e k = absurd (let bad : false ≡ true = k in cc)
  own_got id rest (Some v) e k = unsent (what.Got id rest) p.rows refl (lives_stay s F (entry (what.Got id rest)) (λ r. (r.id == v.id) ≡ false) p.rows (sendings u place) (each_other v.id p.rows (own v e).row) (λ r j x l. live_idle s F r x l (entry (what.Got id rest)) refl refl (ap (λ b. if b && passes (λ n. fits n rest) (kind_of l.o.request.rest) then Some rest else None) (other r j x l))) h)
    where
      other : (r : UpRow) → (r.id == v.id) ≡ false → (x : Sending) → Live s F r x → (id == x.id) ≡ false
      other r j x l = ap (λ n. n == x.id) (sym (same_number v.id id k)) ∙ ap (λ n. v.id == n) l.id ∙ eqb_sym v.id r.id ∙ j

  got : (id : ℕ) (rest : List ℕ) → after (what.Got id rest) (if is_under_own p id then p.rows else flat_map (behind_message at (record { id = id; rest = rest })) p.rows)
  got id rest = by (is_under_own p id) refl
    where
      by : (b : Bool) → is_under_own p id ≡ b → after (what.Got id rest) (if b then p.rows else flat_map (behind_message at (record { id = id; rest = rest })) p.rows)
      by true e = own_got id rest p.own_bind refl e
      by false e = unsent (what.Got id rest) (flat_map (behind_message at (record { id = id; rest = rest })) p.rows) refl (lives_move s F (entry (what.Got id rest)) (Row (is_sound u place)) (behind_message at (record { id = id; rest = rest })) p.rows (sendings u place) sounds (λ r k x l. got_moves s F r x l (no_bind u place r k) (not_kept u place r k) part at id rest) h)

  owns : (id : ℕ) (rest : List ℕ) → (id == p.ids.next) ≡ true → after (what.Own id rest) (flat_map (behind_own (record { id = id; rest = rest })) p.rows)
  owns id rest next = unsent (what.Own id rest) (flat_map (behind_own (record { id = id; rest = rest })) p.rows) refl (lives_move s F (entry (what.Own id rest)) (λ r. (is_sound u place r ≡ true) × (nat_lt r.id p.ids.next ≡ true)) (behind_own (record { id = id; rest = rest })) p.rows (sendings u place) (each_both (Row (is_sound u place)) (Row (λ r. nat_lt r.id p.ids.next)) p.rows sounds (each_row (λ r. nat_lt r.id p.ids.next) p.rows apart.below)) (λ r k x l. own_moves s F r x l (no_bind u place r k.0) (not_kept u place r k.0) part at id rest (ap (λ n. n == r.id) (same_number id p.ids.next next) ∙ below_apart r.id p.ids.next k.1)) h)

  expires : (op : OpName) → after (what.Expired op) (filter (λ r. not (same_op op r.op)) p.rows)
  expires op = unsent (what.Expired op) (filter (λ r. not (same_op op r.op)) p.rows) refl (subst (λ rows. Lives s F rows (map (later_sending (entry (what.Expired op))) (sendings u place))) (filter_flat (λ r. not (same_op op r.op)) p.rows) (lives_move s F (entry (what.Expired op)) (Row (is_sound u place)) (λ r. cond (not (same_op op r.op)) (r ∷ []) []) p.rows (sendings u place) sounds (λ r k x l. expired_moves s F r x l (no_bind u place r k) (not_kept u place r k) part at op) h))

  -- A Sent.
  abbrev new : ℕ → OpName → List ℕ → Sending
  new id op rest = record { connection = u; op = op; id = id; at = at; rest = rest; before = place; behind = [] }

  new_live : (id : ℕ) (op : OpName) (rest : List ℕ) (q holder : OpName) (sort : OpKind) (body : List ℕ) (ask : Bool) → op ≡ q → is_forward_right s F (Forward q sort body ask holder) ≡ true → Live s F (record { id = id; op = q; kind = sort; ask_who = ask; sent = at; answered = at; kept = None }) (new id op rest)
  new_live id op rest q holder sort body ask same told = by (operation F op) refl (ap (λ n. passes (says_rightly s ask sort) (operation F n)) same ∙ told)
    where
      by : (o : Option Operation) → operation F op ≡ o → passes (says_rightly s ask sort) o ≡ true → Live s F (record { id = id; op = q; kind = sort; ask_who = ask; sent = at; answered = at; kept = None }) (new id op rest)
      by None e k = absurd (let bad : false ≡ true = k in cc)
      by (Some o) e k = record { o = o; found = e; kind = kind_is (kind_of o.request.rest) sort (left (passes (same_kind sort) (kind_of o.request.rest)) _ k); asks = agrees_is ask (asks_who s o) (right (passes (same_kind sort) (kind_of o.request.rest)) _ k); id = refl; op = same; sent = refl; answered = refl; unanswered = refl; reigns = refl; going = refl }

  sends : (id : ℕ) (op : OpName) (rest : List ℕ) (x : Letter) → marks_connection p (what.Sent id op rest) x ≡ true → is_taken p.rows id ≡ false → is_forward_right s F x ≡ true → after (what.Sent id op rest) (rows_sent at id p.rows x)
  sends id op rest (Forward q sort body ask holder) mark free told = subst (Lives s F (rows_sent at id p.rows (Forward q sort body ask holder))) (sym (sendings_grow u place (entry (what.Sent id op rest)))) (lives_put s F (record { id = id; op = q; kind = sort; ask_who = ask; sent = at; answered = at; kept = None }) (new id op rest) p.rows (map (later_sending (entry (what.Sent id op rest))) (sendings u place)) (new_live id op rest q holder sort body ask (same_op_eq op q (left (same_op op q) _ (left _ _ mark))) told) (lives_stay s F (entry (what.Sent id op rest)) (λ r. (r.id == id) ≡ false) p.rows (sendings u place) (each_other id p.rows free) (λ r k y l. live_idle s F r y l (entry (what.Sent id op rest)) (ap (λ n. id == n) l.id ∙ eqb_sym id r.id ∙ k) refl refl) h))
  sends id op rest _ mark free told = absurd (let bad : false ≡ true = mark in cc)

  pub lives_step : (mark : Option Taken) (w : What) → has_connection_mark p (record { entry = entry w; mark = mark }) ≡ true → has_right_id p.ids w ≡ true → where_there (λ t. is_forward_right s F t.letter) mark ≡ true → after w (connection_behind s (entry w) mark p w).rows
  lives_step mark (what.Got id rest) fit next told = got id rest
  lives_step mark (what.Own id rest) fit next told = owns id rest next
  lives_step mark (what.Expired op) fit next told = expires op
  lives_step mark (what.Down why) fit next told = unsent (what.Down why) [] refl (lives_down s F (entry (what.Down why)) refl p.rows (sendings u place) h)
  lives_step None (what.Sent id op rest) fit next told = absurd (let bad : false ≡ true = fit in cc)
  lives_step (Some t) (what.Sent id op rest) fit next told = sends id op rest t.letter fit (ap (is_taken p.rows) (same_number id (id_for p.ids) next) ∙ id_untaken p.rows p.ids apart.below apart.free_apart) told
  lives_step mark what.Linked fit next told = idle what.Linked refl (λ i. refl) (λ o x. refl) (λ o i. refl)
  lives_step mark w fit next told = idle w refl (λ i. refl) (λ o x. refl) (λ o i. refl)
