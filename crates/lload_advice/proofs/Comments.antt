-- The loop that puts leads before pieces: what was taken and what is left is the text, and what was made is what was taken,
-- with leads.
use Rattle.std.proofs.Common.{◌≡◌, ℕ, ◌<◌, ◌⊎◌, ⊎_elim, List, [], ◌∷◌, ◌++◌, length, inl, inr, refl, ap, sym, subst, ◌∙◌, append_assoc, append-nil, codes, arith}
use Rattle.lload_advice.specs.Converting.{EndsLine, IsCommented, Nothing, Behind, IsLead, IsPiece}

-- of the text these bytes were taken, and those are left
pub record IsUnderWay (text taken rest out : List ℕ) : Type 0 where
  pub whole : text ≡ taken ++ rest
  pub line : (rest ≡ []) ⊎ ((taken ≡ []) ⊎ EndsLine taken)
  pub commented : IsCommented taken out

-- at the beginning nothing was
pub way-begins : (text out : List ℕ) → out ≡ [] → IsUnderWay text [] text out
way-begins text out none = record {
  whole = refl;
  line = inr (inl refl);
  commented = subst (IsCommented []) (sym none) Nothing;
}

-- a text with a line behind it ends a line
ends-behind : (front piece : List ℕ) → EndsLine piece → EndsLine (front ++ piece)
ends-behind front piece ends = (front ++ ends.0, ap (λ p. front ++ p) ends.1 ∙ sym (append_assoc front ends.0 (10 ∷ [])))

-- where something is left, a line begins
begins-line : (taken rest : List ℕ) (n : ℕ) → (rest ≡ []) ⊎ ((taken ≡ []) ⊎ EndsLine taken) → n < length rest → (taken ≡ []) ⊎ EndsLine taken
begins-line taken rest n line some =
    ⊎_elim (λ none. let e : length rest ≡ 0 = ap length none in absurd (omega (arith, e, some))) (λ begins. begins) line

-- a piece is taken behind a lead
pub way-next : (text taken rest out lead led piece later new : List ℕ) → IsUnderWay text taken rest out → IsPiece rest piece later → IsLead lead → led ≡ out ++ lead → new ≡ led ++ piece → IsUnderWay text (taken ++ piece) later new
way-next text taken rest out lead led piece later new way cut is_lead grown more = record {
  whole = way.whole ∙ (ap (λ r. taken ++ r) cut.whole ∙ sym (append_assoc taken piece later));
  line = ⊎_elim (λ none. inl none) (λ ends. inr (inr (ends-behind taken piece ends))) cut.line;
  commented =
      subst (IsCommented (taken ++ piece)) (sym (more ∙ (ap (λ l. l ++ piece) grown ∙ append_assoc out lead piece)))
      (Behind taken out lead piece (begins-line taken rest (length later) way.line cut.some) is_lead way.commented);
}

-- nothing is left
pub way-ends : (text taken rest out : List ℕ) → IsUnderWay text taken rest out → rest ≡ [] → IsCommented text out
way-ends text taken rest out way none =
    subst (λ t. IsCommented t out) (sym (way.whole ∙ (ap (λ r. taken ++ r) none ∙ append-nil taken))) way.commented

-- a text is itself, with no lead
pub commented-same : (text : List ℕ) → IsCommented text text
commented-same text = Behind [] [] [] text (inl refl) (inl refl) Nothing

-- a mark, what is said, and a mark on the next line
pub lead-said : (mark said kind first second third fourth : List ℕ) → mark ≡ codes "# " → first ≡ mark → second ≡ first ++ said → third ≡ second ++ kind → fourth ≡ third ++ codes "\n# " → IsLead fourth
lead-said mark said kind first second third fourth is begun more all ends =
    inr
    (inr (
      said ++ kind,
      ends
          ∙ (ap (λ t. t ++ codes "\n# ") (all ∙ ap (λ t. t ++ kind) (more ∙ ap (λ t. t ++ said) (begun ∙ is)))
          ∙ (ap (λ t. t ++ codes "\n# ") (append_assoc (codes "# ") said kind) ∙ append_assoc (codes "# ") (said ++ kind) (codes "\n# "))),
    ))
