-- What a rule for a message under the live Bind makes.
use Rattle.std.proofs.Common.{◌≡◌, ℕ, arith, Bool, true, false, ◌==◌, ◌&&◌, ◌||◌, not, if◌then◌else◌, List, [], ◌∷◌, ◌++◌, map, Option, Some, None, refl, ap, ◌∙◌}
use Rattle.std.proofs.lemmas.Bool.Decides.{nat_tests}
use Rattle.std.specs.Prelude.{find, is_none, IsSome}
use Rattle.std.specs.Option.{ForSome}
use Rattle.ldap_spec.specs.Messages.{Message}
use Rattle.ldap_spec.specs.Kinds.{is_final, is_intermediate, same_kind, fits}
use Rattle.ldap_spec.specs.Responses.{result_code, has_code}
use Rattle.lload_names.specs.declared.names.OpName.{OpName}
use Rattle.lload_names.specs.declared.names.OpKind.{OpKind}
use Rattle.lload_names.specs.declared.names.OpKind.TheVariants.{Bind}
use Rattle.lload_names.specs.declared.names.EndWhy.TheVariants.{Bad as BadEnd}
use Rattle.lload_names.specs.declared.names.What.TheVariants as what
use Rattle.lload_spec.specs.Settings.{Settings}
use Rattle.lload_spec.specs.BadMessages as bad
use Rattle.lload_spec.specs.BadMessages.{OpenRequest}
use Rattle.id_table.specs.declared.row.Row.{Row}
use Rattle.part_spec.specs.Inputs.{Act, act, nothing, also, reply}
use Rattle.part_spec.specs.ConnectionState.{ConnectionState, is_under, is_under_who, message_facts, open_request, keeps_back}
use Rattle.part_spec.specs.ConnectionTurn.{goes_down, holder_ended}
use Rattle.part_spec.specs.BindTurn.{message, answered, row_answer, who_answer, keep_back}
use Rattle.conn_core.specs.Conn.{Conn, state_of}
use Rattle.conn_core.specs.Kept.{up_row}
use Rattle.bind_conn.proofs.Meets.{under, bad-is}

-- a row that is there
pub there : (o : Option Row) (P : Row → Type 0) → ForSome o P → IsSome o → (r : Row) × (o ≡ Some r) × P r
there None P f h = absurd (cc)
there (Some r) P f h = (r, refl, f r refl)

pub good-by : (ign w : Bool) → w ≡ false → (if ign then false else w) ≡ false
good-by true w h = refl
good-by false w h = h

read-good : (k : OpKind) (f i n b : Bool) → same_kind Bind k ≡ b → (f || i || false) ≡ true → (f && n) ≡ false → (not (f || i || false) || b && f && n) ≡ false
read-good k f i n b e g h = grind (arith, nat_tests, g, h)

module _ (s : Settings) (c : Conn) (h l : Option OpName) (m : Message) (r : Row) (rows : c.table.rows ≡ r ∷ []) where
  abbrev p : ConnectionState
  p = state_of c None h l []

  -- a message that isn't bad, and one that is
  pub message-good : (a : Act) → bad.is_bad (message_facts p) m ≡ false → answered s p m ≡ a → message s p m ≡ also (act (what.Got m.id m.rest ∷ []) []) a
  message-good a good e =
      ap (λ (b : Bool). let x : Act = elim b [ true ↦ goes_down p BadEnd | false ↦ answered s p m ] in also (act (what.Got m.id m.rest ∷ []) []) x) good
      ∙ ap (λ (x : Act). also (act (what.Got m.id m.rest ∷ []) []) x) e

  pub message-bad : bad.is_bad (message_facts p) m ≡ true → message s p m ≡ also (act (what.Got m.id m.rest ∷ []) []) (goes_down p BadEnd)
  message-bad b = ap (λ (b : Bool). let x : Act = elim b [ true ↦ goes_down p BadEnd | false ↦ answered s p m ] in also (act (what.Got m.id m.rest ∷ []) []) x) b

  pub answered-is : answered s p m ≡ (let a : Act = elim (if is_under m.id (up_row r) then Some (up_row r) else None) [ Some x ↦ row_answer s p m.rest x | None ↦ elim (if is_under_who m.id (up_row r) then Some (up_row r) else None) [ Some x ↦ who_answer p m.rest x | None ↦ nothing ] ] in a)
  answered-is = ap (λ (ys : List Row). let a : Act = elim (find (is_under m.id) (map up_row ys)) [ Some x ↦ row_answer s p m.rest x | None ↦ elim (find (is_under_who m.id) (map up_row ys)) [ Some x ↦ who_answer p m.rest x | None ↦ nothing ] ] in a) rows

  module _ (at : ℕ) (bind : r.kind ≡ Bind) (waits : r.kept ≡ None) (here : (r.id == m.id) ≡ true) where
    abbrev i : Bool
    i = is_intermediate m.rest

    abbrev f : Bool
    f = is_final Bind m.rest

    abbrev code : Option ℕ
    code = result_code m.rest

    pub row-answered : answered s p m ≡ row_answer s p m.rest (up_row r)
    row-answered = answered-is ∙ ap (λ (b : Bool). let a : Act = elim (if b then Some (up_row r) else None) [ Some x ↦ row_answer s p m.rest x | None ↦ elim (if is_under_who m.id (up_row r) then Some (up_row r) else None) [ Some x ↦ who_answer p m.rest x | None ↦ nothing ] ] in a) (under at m r bind waits here)

    pub row-bad : bad.is_bad (message_facts p) m ≡ (if bad.is_ignored m then false else not (f || i || false) || true && f && is_none code)
    row-bad =
        bad-is c h l at m r rows
        ∙ ap (λ (b : Bool). if bad.is_ignored m then false else bad.is_bad_for (message_facts (record p { rows = up_row r ∷ [] })) m (if b then Some (open_request (up_row r)) else None)) (under at m r bind waits here)
        ∙ ap (λ (k : OpKind). if bad.is_ignored m then false else not (fits k m.rest) || same_kind Bind k && f && is_none code) bind

    pub row-good : (f || i || false) ≡ true → (f && is_none code) ≡ false → bad.is_bad (message_facts p) m ≡ false
    row-good fit read = row-bad ∙ good-by (bad.is_ignored m) (not (f || i || false) || true && f && is_none code) (read-good Bind f i (is_none code) true refl fit read)

    abbrev pub answer_act : Bool → Bool → Bool → Act
    answer_act x y z =
        elim x [
          | true ↦ act [] (reply r.op m.rest false None)
          | false ↦ elim y [
            | true ↦ act [] (reply r.op m.rest true None)
            | false ↦ elim z [
              | true ↦ keep_back s p
              | false ↦ act [] (reply r.op m.rest true None ++ holder_ended p)
            ]
          ]
        ]

    pub answer-is : row_answer s p m.rest (up_row r) ≡ answer_act i (has_code 14 m.rest) (keeps_back (up_row r) m.rest)
    answer-is = refl
