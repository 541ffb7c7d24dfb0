-- What ends an operation in the reign of its Sent, and the latency that is told then.
use Rattle.std.proofs.Common.{◌≡◌, ℕ, Bool, true, false, ◌||◌, List, [], ◌∷◌, ◌++◌, refl, ap, ◌∙◌}
use Rattle.std.specs.Prelude.{Option, Some, None, option_map, if◌then◌else◌}
use Rattle.std.specs.List.{list_any}
use Rattle.lload_names.specs.declared.names.Entry.{Entry}
use Rattle.lload_spec.specs.Answers.{Final, Sending, answer_of, final_under, gives_id, reign, reign_of}
use Rattle.lload_spec.specs.Lists.{passes}
use Rattle.lload_spec.specs.Operations.{Operation, is_final_for}
use Rattle.lload_spec.specs.Owed.{drops, latency_between, latency_by, loses}
use Rattle.lload_laws.specs.ConnectionGrowth.{later_sending}
use Rattle.part_laws.proofs.ListLaws.{any_before, none_of_both}

-- whether an entry answers for good
abbrev pub closes : Operation → Sending → Entry → Bool
closes o x e = passes (is_final_for o.request) (answer_of o.request x.id e)

-- whether an entry ends the operation of a Sent: it is abandoned, or lost, or answered for good
abbrev pub ends : Operation → Sending → Entry → Bool
ends o x e = (drops o x e || loses o e) || closes o x e

-- The reign with an entry more: where it ended before, it stays.
pub reign_push : (id : ℕ) (es : List Entry) (e : Entry) → reign_of id (es ++ e ∷ []) ≡ reign_of id es ++ (if list_any (gives_id id) es then [] else reign_of id (e ∷ []))
reign_push id [] e = refl
reign_push id (x ∷ es) e = by (gives_id id x) (reign_push id es e)
  where
    by : (b : Bool) → reign_of id (es ++ e ∷ []) ≡ reign_of id es ++ (if list_any (gives_id id) es then [] else reign_of id (e ∷ [])) → (elim b [ true ↦ [] | false ↦ x ∷ reign_of id (es ++ e ∷ []) ]) ≡ (elim b [ true ↦ [] | false ↦ x ∷ reign_of id es ]) ++ (if b || list_any (gives_id id) es then [] else reign_of id (e ∷ []))
    by true more = refl
    by false more = ap (λ l. x ∷ l) more

-- while the identifier isn't given again, all that stands behind is of the reign
pub reign_all : (id : ℕ) (es : List Entry) → list_any (gives_id id) es ≡ false → reign_of id es ≡ es
reign_all id [] h = refl
reign_all id (x ∷ es) h = by (gives_id id x) h (reign_all id es)
  where
    by : (b : Bool) → (b || list_any (gives_id id) es) ≡ false → (list_any (gives_id id) es ≡ false → reign_of id es ≡ es) → (elim b [ true ↦ [] | false ↦ x ∷ reign_of id es ]) ≡ x ∷ es
    by true k more = absurd (let bad : true ≡ false = k in cc)
    by false k more = ap (λ l. x ∷ l) (more k)

module _ (o : Operation) (x : Sending) where
  -- what was told stays so with more behind
  pub latency_stays : (es fs : List Entry) → list_any (ends o x) es ≡ true → latency_by o x (es ++ fs) ≡ latency_by o x es
  latency_stays [] fs h = absurd (let bad : false ≡ true = h in cc)
  latency_stays (e ∷ es) fs h = by (drops o x e || loses o e) (closes o x e) h (latency_stays es fs)
    where
      by : (a b : Bool) → ((a || b) || list_any (ends o x) es) ≡ true → (list_any (ends o x) es ≡ true → latency_by o x (es ++ fs) ≡ latency_by o x es) → (if a then None else if b then Some (latency_between x.at e.at) else latency_by o x (es ++ fs)) ≡ (if a then None else if b then Some (latency_between x.at e.at) else latency_by o x es)
      by true b k more = refl
      by false true k more = refl
      by false false k more = more k

  -- what nothing ended before
  pub latency_skips : (es fs : List Entry) → list_any (ends o x) es ≡ false → latency_by o x (es ++ fs) ≡ latency_by o x fs
  latency_skips [] fs h = refl
  latency_skips (e ∷ es) fs h = by (drops o x e || loses o e) (closes o x e) h (latency_skips es fs)
    where
      by : (a b : Bool) → ((a || b) || list_any (ends o x) es) ≡ false → (list_any (ends o x) es ≡ false → latency_by o x (es ++ fs) ≡ latency_by o x fs) → (if a then None else if b then Some (latency_between x.at e.at) else latency_by o x (es ++ fs)) ≡ latency_by o x fs
      by true b k more = absurd (let bad : true ≡ false = k in cc)
      by false true k more = absurd (let bad : true ≡ false = k in cc)
      by false false k more = more k

  -- the latency in the reign, with an entry more
  pub ended_more : (e : Entry) → list_any (ends o x) (reign x) ≡ true → list_any (ends o x) (reign (later_sending e x)) ≡ true
  ended_more e h = ap (list_any (ends o x)) (reign_push x.id x.behind e) ∙ any_before (ends o x) (reign x) (if list_any (gives_id x.id) x.behind then [] else reign_of x.id (e ∷ [])) h

  pub latency_more : (e : Entry) → list_any (ends o x) (reign x) ≡ true → latency_by o x (reign (later_sending e x)) ≡ latency_by o x (reign x)
  latency_more e h = ap (latency_by o x) (reign_push x.id x.behind e) ∙ latency_stays (reign x) (if list_any (gives_id x.id) x.behind then [] else reign_of x.id (e ∷ [])) h

  -- no final answer came, so none of the entries is one
  unclosed : (es : List Entry) → final_under o.request x.id es ≡ None → list_any (gives_id x.id) es ≡ false → list_any (closes o x) es ≡ false
  unclosed [] h k = refl
  unclosed (e ∷ es) h k = by (gives_id x.id e) (answer_of o.request x.id e) h k (unclosed es)
    where
      text : Bool → Option (List ℕ) → Option Final
      text g a = if g then None else if passes (is_final_for o.request) a then option_map (λ r. record { rest = r; behind = es }) a else final_under o.request x.id es

      by : (g : Bool) (a : Option (List ℕ)) → text g a ≡ None → (g || list_any (gives_id x.id) es) ≡ false → (final_under o.request x.id es ≡ None → list_any (gives_id x.id) es ≡ false → list_any (closes o x) es ≡ false) → (passes (is_final_for o.request) a || list_any (closes o x) es) ≡ false
      by true a i j more = absurd (let bad : true ≡ false = j in cc)
      by false None i j more = more i j
      by false (Some r) i j more = final (is_final_for o.request r) i
        where
          final : (b : Bool) → (if b then Some (record { rest = r; behind = es }) else final_under o.request x.id es) ≡ None → (b || list_any (closes o x) es) ≡ false
          final true q = absurd (let bad : Some (record { rest = r; behind = es }) ≡ None = q in cc)
          final false q = more q j

  pub none_ends : (es : List Entry) → list_any (λ e. drops o x e || loses o e) es ≡ false → list_any (closes o x) es ≡ false → list_any (ends o x) es ≡ false
  none_ends [] h k = refl
  none_ends (e ∷ es) h k = by (drops o x e || loses o e) (closes o x e) h k (none_ends es)
    where
      by : (a b : Bool) → (a || list_any (λ y. drops o x y || loses o y) es) ≡ false → (b || list_any (closes o x) es) ≡ false → (list_any (λ y. drops o x y || loses o y) es ≡ false → list_any (closes o x) es ≡ false → list_any (ends o x) es ≡ false) → ((a || b) || list_any (ends o x) es) ≡ false
      by true b i j more = absurd (let bad : true ≡ false = i in cc)
      by false true i j more = absurd (let bad : true ≡ false = j in cc)
      by false false i j more = more i j

  -- where nothing ended it, an entry that is of its reign tells the latency
  pub latency_now : (e : Entry) → final_under o.request x.id x.behind ≡ None → list_any (gives_id x.id) x.behind ≡ false → list_any (λ y. drops o x y || loses o y) x.behind ≡ false → gives_id x.id e ≡ false → (reign (later_sending e x) ≡ x.behind ++ e ∷ []) × (latency_by o x (reign (later_sending e x)) ≡ latency_by o x (e ∷ []))
  latency_now e none reigns going other =
      let whole : reign (later_sending e x) ≡ x.behind ++ e ∷ [] = reign_all x.id (x.behind ++ e ∷ []) (none_of_both (gives_id x.id) x.behind (e ∷ []) reigns (ap (λ b. b || false) other)) in
      (whole, ap (latency_by o x) whole ∙ latency_skips x.behind (e ∷ []) (none_ends x.behind going (unclosed x.behind none reigns)))
