-- What a message is to the live Bind of a bind connection: its answer, the answer to its Who Am I, or neither.
use Rattle.std.proofs.Common.{◌≡◌, ℕ, ◌<◌, Bool, true, false, ◌==◌, ◌&&◌, ◌||◌, not, if◌then◌else◌, List, [], ◌∷◌, refl, ap, ◌∙◌, sym, arith}
use Rattle.std.specs.Prelude.{Option, Some, None, cond, find, map, is_none, is_some}
use Rattle.std.specs.List.{list_any}
use Rattle.ldap_spec.specs.Messages.{Message}
use Rattle.ldap_spec.specs.Kinds.{fits, is_final, is_intermediate, kind_of, same_kind, tag_of}
use Rattle.ldap_spec.specs.Responses.{has_code, result_code}
use Rattle.lload_names.specs.declared.names.OpKind.{OpKind}
use Rattle.lload_names.specs.declared.names.OpKind.TheVariants.{Bind}
use Rattle.lload_spec.specs.BadMessages.{is_bad, is_bad_answer, is_bad_for, is_bad_stray, is_bad_who, is_ignored}
use Rattle.lload_spec.specs.BadMessages as bad
use Rattle.lload_spec.specs.Lists.{agrees, passes}
use Rattle.lload_spec.specs.Settings.{Settings}
use Rattle.part_spec.specs.ConnectionState.{ConnectionState, UpRow, Kept, behind_answer, behind_message, behind_who, is_under, is_under_who, keeps_back, lets_go, message_facts, open_request}
use Rattle.part_spec.specs.Fit.{answers}
use Rattle.part_laws.proofs.ListLaws.{false_by, same_number}
use Rattle.bind_laws.proofs.Meets.{bad_is, not_ignored}

-- no code is read where there is none
some_none : {A : Type 0} (o : Option A) → is_some o ≡ not (is_none o)
some_none None = refl
some_none (Some x) = refl

pub above_zero : (n : ℕ) → 0 < n → (n == 0) ≡ false
above_zero n h = false_by (n == 0) (λ k. let zero : n ≡ 0 = same_number n 0 k in absurd (omega arith))

-- no final answer is intermediate, nor is one to Who Am I
pub not_final : (rest : List ℕ) → is_intermediate rest ≡ true → is_final Bind rest ≡ false
not_final rest h = false_by (tag_of rest == 0x61) (λ k. sym (ap (λ n. n == 0x61) (same_number (tag_of rest) 0x79 h)) ∙ k)

pub not_extended : (rest : List ℕ) → is_intermediate rest ≡ true → (tag_of rest == 0x78) ≡ false
not_extended rest h = false_by (tag_of rest == 0x78) (λ k. sym (ap (λ n. n == 0x78) (same_number (tag_of rest) 0x79 h)) ∙ k)

-- whether a rest answers a Bind, by whether it is final
pub bind_answers : (m : Message) (rest : List ℕ) (last g i : Bool) → kind_of m.rest ≡ Some Bind → is_final Bind rest ≡ g → is_intermediate rest ≡ i → answers m rest last ≡ ((g || i || false) && agrees last g)
bind_answers m rest last g i known final part =
    ap (λ (q : Option OpKind). passes (λ kind. fits kind rest) q && agrees last (passes (λ kind. is_final kind rest) q)) known
    ∙ (λ j. (final j || part j || false) && agrees last (final j))

module _ (moment : ℕ) (m : Message) (r : UpRow) (kind : r.kind ≡ Bind) where
  abbrev pub answered_row : UpRow
  answered_row = record r { answered = moment }

  abbrev pub kept_row : UpRow
  kept_row = record r { answered = moment; kept = Some (record { rest = m.rest; who = None }) }

  abbrev behind_by : Bool → Bool → Bool → Bool → List UpRow
  behind_by f g k n =
      elim f [
        | false ↦ r ∷ []
        | true ↦ elim g [
          | true ↦ elim k [ true ↦ kept_row ∷ [] | false ↦ elim n [ true ↦ answered_row ∷ [] | false ↦ [] ] ]
          | false ↦ answered_row ∷ []
        ]
      ]

  -- an answer to the Bind
  pub behind_under : (g i k n : Bool) → is_under m.id r ≡ true → is_final Bind m.rest ≡ g → is_intermediate m.rest ≡ i → keeps_back r m.rest ≡ k → is_none (result_code m.rest) ≡ n → behind_message moment m r ≡ behind_by (g || i || false) g k n
  behind_under g i k n under final part keeps none =
      (λ j. elim (under j) [
        | true ↦ elim (fits (kind j) m.rest) [
          | false ↦ r ∷ []
          | true ↦ elim (is_final (kind j) m.rest) [
            | true ↦ elim (same_kind Bind (kind j)) [
              | false ↦ []
              | true ↦ elim (keeps_back r m.rest) [ true ↦ kept_row ∷ [] | false ↦ elim (is_none (result_code m.rest)) [ true ↦ answered_row ∷ [] | false ↦ [] ] ]
            ]
            | false ↦ answered_row ∷ []
          ]
        ]
        | false ↦ elim (is_under_who m.id r) [ true ↦ behind_who moment m.rest r | false ↦ r ∷ [] ]
      ])
      ∙ (λ j. behind_by (final j || part j || false) (final j) (keeps j) (none j))

  -- no answer to the Bind is one to its Who Am I
  who_apart : is_under m.id r ≡ true → is_under_who m.id r ≡ false
  who_apart under = by r.kept (r.id == m.id) under
    where
      by : (o : Option Kept) (t : Bool) → (t && not (is_some o)) ≡ true → passes (λ who. who == m.id) (elim o [ None ↦ None | Some q ↦ q.who ]) ≡ false
      by None t e = refl
      by (Some q) true e = absurd (let no : false ≡ true = e in cc)
      by (Some q) false e = absurd (let no : false ≡ true = e in cc)

  pub goes_under : (g k n c : Bool) → is_under m.id r ≡ true → is_final Bind m.rest ≡ g → keeps_back r m.rest ≡ k → is_none (result_code m.rest) ≡ n → has_code 14 m.rest ≡ c → lets_go m r ≡ ((g && not n && not c && not k) || false)
  goes_under g k n c under final keeps none code =
      (λ j. same_kind Bind (kind j) && (under j && (final j && (some_none (result_code m.rest) ∙ ap not none) j && not (code j) && not (keeps j)) || who_apart under j && tag_of m.rest == 0x78))

  -- an answer to Who Am I
  pub behind_asked : (t : Bool) → is_under m.id r ≡ false → is_under_who m.id r ≡ true → (tag_of m.rest == 0x78) ≡ t → behind_message moment m r ≡ elim t [ true ↦ [] | false ↦ answered_row ∷ [] ]
  behind_asked t under who ext = (λ j. elim (under j) [ true ↦ behind_answer moment m.rest r | false ↦ elim (who j) [ true ↦ elim (ext j) [ true ↦ [] | false ↦ answered_row ∷ [] ] | false ↦ r ∷ [] ] ])

  pub goes_asked : (t : Bool) → is_under m.id r ≡ false → is_under_who m.id r ≡ true → (tag_of m.rest == 0x78) ≡ t → lets_go m r ≡ t
  goes_asked t under who ext = (λ j. same_kind Bind (kind j) && (under j && (is_final Bind m.rest && is_some (result_code m.rest) && not (has_code 14 m.rest) && not (keeps_back r m.rest)) || who j && ext j))

  -- neither
  pub behind_other : is_under m.id r ≡ false → is_under_who m.id r ≡ false → behind_message moment m r ≡ r ∷ []
  behind_other under who = (λ j. elim (under j) [ true ↦ behind_answer moment m.rest r | false ↦ elim (who j) [ true ↦ behind_who moment m.rest r | false ↦ r ∷ [] ] ])

  pub goes_other : is_under m.id r ≡ false → is_under_who m.id r ≡ false → lets_go m r ≡ false
  goes_other under who = (λ j. same_kind Bind (kind j) && (under j && (is_final Bind m.rest && is_some (result_code m.rest) && not (has_code 14 m.rest) && not (keeps_back r m.rest)) || who j && tag_of m.rest == 0x78))

  -- Whether it is bad.
  module _ (s : Settings) (p : ConnectionState) (own : p.own_bind ≡ None) (rows : p.rows ≡ r ∷ []) (above : 0 < r.id) where
    pub bad_under : (g i n : Bool) → is_under m.id r ≡ true → is_final Bind m.rest ≡ g → is_intermediate m.rest ≡ i → is_none (result_code m.rest) ≡ n → is_bad (message_facts p) m ≡ (not (g || i || false) || (g && n))
    bad_under g i n under final part none =
        bad_is p own m false (not_ignored s p m r (ap (same_kind Bind) kind) (ap not (above_zero r.id above)) under)
        ∙ ap (λ (qs : List UpRow). is_bad_for (message_facts p) m (find (bad.is_under m.id) (map open_request qs))) rows
        ∙ ap (λ (t : Bool). is_bad_for (message_facts p) m (cond t (Some (open_request r)) None)) under
        ∙ (λ j. not (fits (kind j) m.rest) || same_kind Bind (kind j) && is_final Bind m.rest && is_none (result_code m.rest))
        ∙ (λ j. not (final j || part j || false) || (final j && none j))

    pub bad_asked : is_under m.id r ≡ false → is_under_who m.id r ≡ true → is_ignored m ≡ false → is_bad (message_facts p) m ≡ is_bad_who m
    bad_asked under who heard =
        bad_is p own m false heard
        ∙ ap (λ (qs : List UpRow). is_bad_for (message_facts p) m (find (bad.is_under m.id) (map open_request qs))) rows
        ∙ ap (λ (t : Bool). is_bad_for (message_facts p) m (cond t (Some (open_request r)) None)) under
        ∙ ap (λ (qs : List UpRow). if list_any (bad.is_under_who m.id) (map open_request qs) then is_bad_who m else is_bad_stray (message_facts p) m) rows
        ∙ ap (λ (t : Bool). if t || false then is_bad_who m else is_bad_stray (message_facts p) m) who
