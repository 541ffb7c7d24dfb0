-- The moment of an operation's last answer, with an entry more.
use Rattle.std.proofs.Common.{◌≡◌, ℕ, Bool, true, false, ◌==◌, ◌&&◌, ◌||◌, List, [], ◌∷◌, ◌++◌, refl, ap, ◌∙◌, sym}
use Rattle.std.specs.Prelude.{Option, Some, None, is_none, if◌then◌else◌, option_map}
use Rattle.std.specs.List.{list_any}
use Rattle.ldap_spec.specs.Kinds.{fits, kind_of}
use Rattle.ldap_spec.specs.Messages.{Message}
use Rattle.lload_names.specs.declared.names.Entry.{Entry}
use Rattle.lload_spec.specs.Answers.{Final, answer_of, final_under, gives_id, who_id}
use Rattle.lload_spec.specs.CausedUp.{last_answer, last_of_who, last_under}
use Rattle.lload_spec.specs.Entries.{got_message}
use Rattle.lload_spec.specs.Lists.{passes}
use Rattle.lload_spec.specs.Operations.{Operation, is_final_for}
use Rattle.connection_laws.proofs.Closings.{who_more}

-- the last message under an identifier
under_push : (w at : ℕ) (es : List Entry) (e : Entry) → last_under at w (es ++ e ∷ []) ≡ (if passes (λ m. m.id == w) (got_message e.what) then e.at else last_under at w es)
under_push w at [] e = refl
under_push w at (x ∷ es) e = under_push w (if passes (λ m. m.id == w) (got_message x.what) then x.at else at) es e

who_quiet : (at : ℕ) (es : List Entry) (e : Entry) → got_message e.what ≡ None → last_of_who at (who_id (es ++ e ∷ [])) (es ++ e ∷ []) ≡ last_of_who at (who_id es) es
who_quiet at [] e h = by (who_id (e ∷ []))
  where
    by : (o : Option ℕ) → last_of_who at o (e ∷ []) ≡ at
    by None = refl
    by (Some w) = ap (λ g. if passes (λ m. m.id == w) g then e.at else at) h
who_quiet at (x ∷ es) e h = by (who_id (x ∷ es))
  where
    by : (o : Option ℕ) → last_of_who at o ((x ∷ es) ++ e ∷ []) ≡ last_of_who at o (x ∷ es)
    by None = refl
    by (Some w) = under_push w at (x ∷ es) e ∙ ap (λ g. if passes (λ m. m.id == w) g then e.at else last_under at w (x ∷ es)) h

abbrev answered_by : Operation → ℕ → Entry → Bool → Option (List ℕ) → ℕ → ℕ → ℕ → ℕ
answered_by o at x c a who here later = if c then at else if is_none a then here else if passes (is_final_for o.request) a then who else later

-- an entry that is no message leaves it
pub quiet_answer : (o : Operation) (id at : ℕ) (es : List Entry) (e : Entry) → got_message e.what ≡ None → last_answer o id at (es ++ e ∷ []) ≡ last_answer o id at es
quiet_answer o id at [] e h = ap (λ g. answered_by o at e (gives_id id e) (answer_in g) e.at at e.at) h ∙ by (gives_id id e)
  where
    answer_in : Option Message → Option (List ℕ)
    answer_in g = elim g [ None ↦ None | Some m ↦ if m.id == id && passes (λ k. fits k m.rest) (kind_of o.request.rest) then Some m.rest else None ]

    by : (c : Bool) → (if c then at else at) ≡ at
    by true = refl
    by false = refl
quiet_answer o id at (x ∷ es) e h = by (gives_id id x) (answer_of o.request id x) (λ n. quiet_answer o id n es e h)
  where
    by : (c : Bool) (a : Option (List ℕ)) → ((n : ℕ) → last_answer o id n (es ++ e ∷ []) ≡ last_answer o id n es) → answered_by o at x c a (last_of_who x.at (who_id (es ++ e ∷ [])) (es ++ e ∷ [])) (last_answer o id at (es ++ e ∷ [])) (last_answer o id x.at (es ++ e ∷ [])) ≡ answered_by o at x c a (last_of_who x.at (who_id es) es) (last_answer o id at es) (last_answer o id x.at es)
    by true a more = refl
    by false None more = more at
    by false (Some r) more = ap (λ n. if is_final_for o.request r then n else last_answer o id x.at (es ++ e ∷ [])) (who_quiet x.at es e h) ∙ ap (λ n. if is_final_for o.request r then last_of_who x.at (who_id es) es else n) (more x.at)

-- behind a final answer, a message under the identifier of its Who Am I is the last answer
pub who_push : (o : Operation) (id at w : ℕ) (es : List Entry) (e : Entry) (f : Final) → final_under o.request id es ≡ Some f → list_any (gives_id id) es ≡ false → who_id f.behind ≡ Some w → last_answer o id at (es ++ e ∷ []) ≡ (if passes (λ m. m.id == w) (got_message e.what) then e.at else last_answer o id at es)
who_push o id at w [] e f h k asked = absurd (let bad : None ≡ Some f = h in cc)
who_push o id at w (x ∷ es) e f h k asked = by (gives_id id x) (answer_of o.request id x) h k (λ n i j. who_push o id n w es e f i j asked)
  where
    final : Bool → Option (List ℕ) → Option Final
    final c a = if c then None else if passes (is_final_for o.request) a then option_map (λ r. record { rest = r; behind = es }) a else final_under o.request id es

    unless_asked : ℕ → ℕ
    unless_asked n = if passes (λ m. m.id == w) (got_message e.what) then e.at else n

    by : (c : Bool) (a : Option (List ℕ)) → final c a ≡ Some f → (c || list_any (gives_id id) es) ≡ false → ((n : ℕ) → final_under o.request id es ≡ Some f → list_any (gives_id id) es ≡ false → last_answer o id n (es ++ e ∷ []) ≡ unless_asked (last_answer o id n es)) → answered_by o at x c a (last_of_who x.at (who_id (es ++ e ∷ [])) (es ++ e ∷ [])) (last_answer o id at (es ++ e ∷ [])) (last_answer o id x.at (es ++ e ∷ [])) ≡ unless_asked (answered_by o at x c a (last_of_who x.at (who_id es) es) (last_answer o id at es) (last_answer o id x.at es))
    by true a i j more = absurd (let bad : true ≡ false = j in cc)
    by false None i j more = more at i j
    by false (Some r) i j more = one (is_final_for o.request r) i
      where
        asks : record { rest = r; behind = es } ≡ f → who_id es ≡ Some w
        asks same = ap (λ (q : Final). who_id q.behind) same ∙ asked

        one : (b : Bool) → (if b then Some (record { rest = r; behind = es }) else final_under o.request id es) ≡ Some f → (if b then last_of_who x.at (who_id (es ++ e ∷ [])) (es ++ e ∷ []) else last_answer o id x.at (es ++ e ∷ [])) ≡ unless_asked (if b then last_of_who x.at (who_id es) es else last_answer o id x.at es)
        one true q =
            let same : record { rest = r; behind = es } ≡ f = cc in
            ap (λ n. last_of_who x.at n (es ++ e ∷ [])) (who_more es e w (asks same)) ∙ under_push w x.at es e ∙ ap (λ n. unless_asked (last_of_who x.at n es)) (sym (asks same))
        one false q = more x.at q j
