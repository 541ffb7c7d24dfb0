-- Answers to the Who Am I of the live Bind.
use Rattle.std.proofs.Common.{◌≡◌, ℕ, arith, Bool, true, false, ◌==◌, ◌&&◌, ◌||◌, not, if◌then◌else◌, List, [], ◌∷◌, ◌++◌, map, Option, Some, None, refl, ap, ◌∙◌, sym, subst}
use Rattle.std.proofs.lemmas.Bool.Decides.{nat_tests}
use Rattle.std.proofs.lemmas.List.{append-nil}
use Rattle.std.specs.Prelude.{is_some}
use Rattle.ldap_spec.specs.Messages.{Message}
use Rattle.ldap_spec.specs.Tags.{extended_response}
use Rattle.ldap_spec.specs.Kinds.{is_intermediate, same_kind, tag_of}
use Rattle.ldap_spec.specs.Responses.{tells_who, who_value}
use Rattle.lload_names.specs.declared.names.OpName.{OpName}
use Rattle.lload_names.specs.declared.names.OpKind.TheVariants.{Bind}
use Rattle.lload_names.specs.declared.names.Refusal.TheVariants.{C9}
use Rattle.lload_names.specs.declared.names.Posted.{Posted}
use Rattle.lload_names.specs.declared.names.PartName.TheVariants.{Up as Connection}
use Rattle.lload_names.specs.declared.names.What.TheVariants as what
use Rattle.lload_spec.specs.Lists.{passes}
use Rattle.lload_spec.specs.Settings.{Settings}
use Rattle.lload_spec.specs.BadMessages as bad
use Rattle.lload_spec.specs.BadMessages.{OpenRequest}
use Rattle.id_table.specs.declared.row.Row.{Row}
use Rattle.id_table.specs.declared.row.Kept.{Kept}
use Rattle.id_table.specs.Rows.{row_of, answered as answered_row}
use Rattle.id_table.specs.Table.{Table, touched_at, finished_at}
use Rattle.part_spec.specs.Marked.{Taken}
use Rattle.part_spec.specs.Inputs.{Act, act, nothing, also, reply, failed, entries_of}
use Rattle.part_spec.specs.ConnectionState.{ConnectionState, UpRow, is_under, is_under_who, behind_message, behind_answer, behind_who, lets_go, message_facts, open_request}
use Rattle.part_spec.specs.ConnectionTurn.{holder_ended}
use Rattle.part_spec.specs.BindTurn.{message, answered, row_answer, who_answer, identity_letters, kept_rest}
use Rattle.outbox.specs.declared.outbox.Outbox.{Outbox}
use Rattle.conn_core.specs.Kept.{up_row, up_kept}
use Rattle.conn_core.specs.Closing.{holder_letters}
use Rattle.conn_core.specs.Did.{Did}
use Rattle.conn_core.proofs.Ends.{holder-is}
use Rattle.bind_conn.specs.Part.{Knows, state}
use Rattle.bind_conn.specs.Told.{who_told}
use Rattle.bind_conn.specs.declared.part.BindPart.{BindPart}
use Rattle.bind_conn.specs.declared.told.WhoTold.TheVariants as who
use Rattle.bind_conn.proofs.Tells.{who-more-is, who-tells-is, who-refuses-is}
use Rattle.bind_conn.proofs.Meets.{alone, bad-is, got-stays, got-goes}
use Rattle.bind_conn.proofs.Gots.{good-by, message-good, answered-is}
use Rattle.bind_conn.proofs.Settles.{changed-is, finished-is}

-- the answer that waits for its identity
pub asked-of : (o : Option Kept) (id : ℕ) → passes (λ x. x.who == id) o ≡ true → (x : Kept) × (o ≡ Some x) × ((x.who == id) ≡ true)
asked-of None id h = absurd (let bad : false ≡ true = h in cc)
asked-of (Some x) id h = (x, refl, h)

pub no-under : (a : Bool) → (a && false) ≡ false
no-under true = refl
no-under false = refl

who-go : (b u w f e : Bool) → b ≡ true → u ≡ false → w ≡ true → (b && (u && f || w && e)) ≡ e
who-go true false true f e g i j = refl
who-go false u w f e g i j = absurd (let bad : false ≡ true = g in cc)
who-go true true w f e g i j = absurd (let bad : true ≡ false = i in cc)
who-go true false false f e g i j = absurd (let bad : false ≡ true = j in cc)

stray-no : (a b : Bool) → (a || b) ≡ true → not (a || b) ≡ false
stray-no a b h = ap not h

either : (a b : Bool) → b ≡ true → (a || b) ≡ true
either true b h = refl
either false b h = h

module _ (s : Settings) (b : BindPart) (o q : Outbox) (at id first : ℕ) (rest : List ℕ) (r : Row) (x : Kept) (mark : Option Taken) (k : Knows s b) (found : row_of first b.core.table.rows ≡ Some r) (keeps : r.kept ≡ Some x) (asked : (x.who == id) ≡ true) where
  abbrev p : ConnectionState
  p = state b

  abbrev m : Message
  m = record { id = id; rest = rest }

  abbrev part : Bool
  part = is_intermediate rest

  abbrev extended : Bool
  extended = tag_of rest == extended_response

  pub only : (b.core.table.rows ≡ r ∷ []) × (r.kind ≡ Bind) × ((r.id == first) ≡ true)
  only = alone first b.core.table.rows r k.steady.one found

  not-under : is_under id (up_row r) ≡ false
  not-under = ap (λ (y : Option Kept). r.id == id && not (is_some (up_kept y))) keeps ∙ no-under (r.id == id)

  under-who : is_under_who id (up_row r) ≡ true
  under-who = ap (λ (y : Option Kept). is_under_who id (record (up_row r) { kept = up_kept y })) keeps ∙ asked

  behind-is : behind_message at m (up_row r) ≡ behind_who at rest (up_row r)
  behind-is =
      ap (λ (t : Bool). let l : List UpRow = elim t [ true ↦ behind_answer at rest (up_row r) | false ↦ elim (is_under_who id (up_row r)) [ true ↦ behind_who at rest (up_row r) | false ↦ up_row r ∷ [] ] ] in l) not-under
      ∙ ap (λ (t : Bool). let l : List UpRow = elim t [ true ↦ behind_who at rest (up_row r) | false ↦ up_row r ∷ [] ] in l) under-who

  pub stays-row : extended ≡ false → behind_message at m (up_row r) ≡ up_row (answered_row at r) ∷ []
  stays-row h = behind-is ∙ ap (λ (t : Bool). let l : List UpRow = elim t [ true ↦ [] | false ↦ up_row (answered_row at r) ∷ [] ] in l) h

  goes-row : extended ≡ true → behind_message at m (up_row r) ≡ []
  goes-row h = behind-is ∙ ap (λ (t : Bool). let l : List UpRow = elim t [ true ↦ [] | false ↦ up_row (answered_row at r) ∷ [] ] in l) h

  pub go-is : lets_go m (up_row r) ≡ extended
  go-is = who-go (same_kind Bind r.kind) (is_under id (up_row r)) (is_under_who id (up_row r)) _ extended (ap (same_kind Bind) only.1) not-under under-who

  pub bad-who : bad.is_bad (message_facts p) m ≡ (if bad.is_ignored m then false else not (part || extended))
  bad-who =
      bad-is b.core b.holder b.lost at m r only.0
      ∙ ap (λ (t : Bool). if bad.is_ignored m then false else bad.is_bad_for (message_facts (record p { rows = up_row r ∷ [] })) m (if t then Some (open_request (up_row r)) else None)) not-under
      ∙ ap (λ (t : Bool). if bad.is_ignored m then false else if t || false then not (part || extended) else bad.is_bad_stray (message_facts (record p { rows = up_row r ∷ [] })) m) under-who

  who-answered : answered s p m ≡ who_answer p rest (up_row r)
  who-answered =
      answered-is s b.core b.holder b.lost m r only.0
      ∙ ap (λ (t : Bool). let a : Act = elim (if t then Some (up_row r) else None) [ Some y ↦ row_answer s p rest y | None ↦ elim (if is_under_who id (up_row r) then Some (up_row r) else None) [ Some y ↦ who_answer p rest y | None ↦ nothing ] ] in a) not-under
      ∙ ap (λ (t : Bool). let a : Act = elim (if t then Some (up_row r) else None) [ Some y ↦ who_answer p rest y | None ↦ nothing ] in a) under-who

  apart : part ≡ true → extended ≡ false
  apart h = grind (arith, nat_tests, h)

  -- an intermediate response
  pub who-more-did : who_told rest ≡ who.More → q.entries.items ≡ o.entries.items ++ entries_of (Connection b.core.number) at (what.Got id rest ∷ []) → q.letters.items ≡ o.letters.items → Did s p at mark (message s p m) o q (state (record b { core = record b.core { moment = at; table = touched_at first at b.core.table } }))
  who-more-did told entries letters =
      let i : part ≡ true = who-more-is part extended (tells_who rest) told in
      let is : message s p m ≡ also (act (what.Got id rest ∷ []) []) nothing = message-good s b.core b.holder b.lost m r only.0 nothing (bad-who ∙ good-by (bad.is_ignored m) (not (part || extended)) (ap (λ (t : Bool). not (t || extended)) i)) (who-answered ∙ ap (λ (t : Bool). let a : Act = elim t [ true ↦ nothing | false ↦ act [] (identity_letters (up_row r) rest ++ holder_ended p) ] in a) i) in
      subst (λ (a : Act). Did s p at mark a o q (state (record b { core = record b.core { moment = at; table = touched_at first at b.core.table } }))) (sym is) (record {
        entries = entries;
        letters = letters ∙ sym (append-nil o.letters.items);
        behind =
            ap (λ (l : List Row). record p { moment = at; rows = map up_row l }) (changed-is (answered_row at) first b.core.table.rows r only.0 only.2)
            ∙ sym (ap (λ (z : ConnectionState). record z { moment = at }) (got-stays b.core b.holder b.lost at m r only.0 (up_row (answered_row at r)) (stays-row (apart i)) (go-is ∙ apart i)));
      })

  -- the last one, which tells the identity or doesn't
  module _ (settled : extended ≡ true) (whole : part ≡ false) where
    abbrev letters_by : Bool → List Posted
    letters_by t = elim t [ true ↦ reply r.op (kept_rest (up_row r)) true (who_value rest) | false ↦ failed r.op C9 ]

    settled-is : (t : Bool) → tells_who rest ≡ t → message s p m ≡ also (act (what.Got id rest ∷ []) []) (act [] (letters_by t ++ holder_ended p))
    settled-is t e = message-good s b.core b.holder b.lost m r only.0 (act [] (letters_by t ++ holder_ended p)) (bad-who ∙ good-by (bad.is_ignored m) (not (part || extended)) (ap not (either part extended settled))) (who-answered ∙ ap (λ (y : Bool). let a : Act = elim y [ true ↦ nothing | false ↦ act [] (identity_letters (up_row r) rest ++ holder_ended p) ] in a) whole ∙ ap (λ (y : Bool). act [] (letters_by y ++ holder_ended p)) e)

    settled-did : (ls : List Posted) (t : Bool) → tells_who rest ≡ t → letters_by t ≡ ls → q.entries.items ≡ o.entries.items ++ entries_of (Connection b.core.number) at (what.Got id rest ∷ []) → q.letters.items ≡ o.letters.items ++ (ls ++ holder_letters b.core.number b.holder) → Did s p at mark (message s p m) o q (state (record b { core = record b.core { moment = at; table = finished_at first b.core.table }; holder = None }))
    settled-did ls t e g entries letters =
        subst (λ (a : Act). Did s p at mark a o q (state (record b { core = record b.core { moment = at; table = finished_at first b.core.table }; holder = None }))) (sym (settled-is t e)) (record {
          entries = entries;
          letters = letters ∙ sym (ap (λ y. o.letters.items ++ (ls ++ y)) (holder-is b.core None b.lost [] b.holder)) ∙ sym (ap (λ y. o.letters.items ++ (y ++ holder_ended p)) g);
          behind =
              ap (λ (y : Table). state (record b { core = record b.core { moment = at; table = y }; holder = None })) (finished-is first b.core.table r found only.0 only.2)
              ∙ sym (ap (λ (z : ConnectionState). record z { moment = at }) (got-goes b.core b.holder b.lost at m r only.0 true (goes-row settled) (go-is ∙ settled)));
        })

  pub tells-did : (op : OpName) → r.op ≡ op → who_told rest ≡ who.Tells → q.entries.items ≡ o.entries.items ++ entries_of (Connection b.core.number) at (what.Got id rest ∷ []) → q.letters.items ≡ o.letters.items ++ (reply op x.rest true (who_value rest) ++ holder_letters b.core.number b.holder) → Did s p at mark (message s p m) o q (state (record b { core = record b.core { moment = at; table = finished_at first b.core.table }; holder = None }))
  tells-did op named told entries letters =
      let t = who-tells-is part extended (tells_who rest) told in
      settled-did t.1 t.0 (reply op x.rest true (who_value rest)) true t.2 (ap (λ (y : Option Kept). reply r.op (kept_rest (record (up_row r) { kept = up_kept y })) true (who_value rest)) keeps ∙ ap (λ (n : OpName). reply n x.rest true (who_value rest)) named) entries letters

  pub refuses-did : (op : OpName) → r.op ≡ op → who_told rest ≡ who.Refuses → q.entries.items ≡ o.entries.items ++ entries_of (Connection b.core.number) at (what.Got id rest ∷ []) → q.letters.items ≡ o.letters.items ++ (failed op C9 ++ holder_letters b.core.number b.holder) → Did s p at mark (message s p m) o q (state (record b { core = record b.core { moment = at; table = finished_at first b.core.table }; holder = None }))
  refuses-did op named told entries letters =
      let t = who-refuses-is part extended (tells_who rest) told in
      settled-did t.1 t.0 (failed op C9) false t.2 (ap (λ (n : OpName). failed n C9) named) entries letters
