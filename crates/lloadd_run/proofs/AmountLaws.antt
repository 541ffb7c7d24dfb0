-- What several writes and reads in a row amount to.
use Rattle.std.proofs.Common.{◌≡◌, ◌≤◌, ℕ, ◌+◌, List, [], ◌++◌, take, drop, append_assoc, sym, ap, ◌∙◌, subst, refl, arith, inl, inr}
use Rattle.std.specs.Prelude.{Option, Some, None}
use Rattle.std.proofs.Math.Seq.{take-add}
use Rattle.std.proofs.lemmas.List.{append-nil, take-append-drop}
use Rattle.lload_outside.specs.Causes.{Rose}
use Rattle.lload_outside.specs.Told.{Appended, Moved}
use Rattle.lloadd_run.specs.Amounts.{Took, WroteAll, WrotePart}

-- a count that rose after it rose or stayed
pub rose_later : (first was now : ℕ) → first ≤ was → Rose was now → Rose first now
rose_later first was now h r = elim r as (λ r. Rose first now) [ inl less ↦ inl (omega arith) | inr full ↦ inr full ]

pub wrote_none : (w : Option (List ℕ)) → WroteAll w w []
wrote_none None = refl
wrote_none (Some xs) = ap Some (sym (append-nil xs))

pub wrote_then : (first was now : Option (List ℕ)) (x y : List ℕ) → WroteAll first was x → WroteAll was now y → WroteAll first now (x ++ y)
wrote_then None was now x y h k = subst (λ w. WroteAll w now y) h k
wrote_then (Some xs) was now x y h k = subst (λ w. WroteAll w now y) h k ∙ ap Some (append_assoc xs x y)

pub wrote_piece : (first was now : Option (List ℕ)) (text : List ℕ) (at n : ℕ) → WroteAll first was (take at text) → Appended n (drop at text) was now → WroteAll first now (take (at + n) text)
wrote_piece None was now text at n h a = subst (λ w. Appended n (drop at text) w now) h a
wrote_piece (Some xs) was now text at n h a =
    subst (λ w. Appended n (drop at text) w now) h a ∙ ap Some (append_assoc xs (take at text) (take n (drop at text)) ∙ ap (λ l. xs ++ l) (sym (take-add at n text)))

pub all_is_part : (first now : Option (List ℕ)) (x y : List ℕ) → WroteAll first now x → WrotePart first now (x ++ y)
all_is_part None now x y h = h
all_is_part (Some xs) now x y h = (x, y, refl, h)

pub part_then : (first was now : Option (List ℕ)) (x y : List ℕ) → WroteAll first was x → WrotePart was now y → WrotePart first now (x ++ y)
part_then None was now x y h k = subst (λ w. WrotePart w now y) h k
part_then (Some xs) was now x y h k =
    let k' = subst (λ w. WrotePart w now y) h k in
    (x ++ k'.0, k'.1, ap (λ l. x ++ l) k'.2 ∙ sym (append_assoc x k'.0 k'.1), k'.3 ∙ ap Some (append_assoc xs x k'.0))

pub part_longer : (first now : Option (List ℕ)) (x y : List ℕ) → WrotePart first now x → WrotePart first now (x ++ y)
part_longer None now x y h = h
part_longer (Some xs) now x y h = (h.0, h.1 ++ y, ap (λ l. l ++ y) h.2 ∙ append_assoc h.0 h.1 y, h.3)

pub part_none : (w : Option (List ℕ)) (x : List ℕ) → WrotePart w w x
part_none w x = all_is_part w w [] x (wrote_none w)

pub took_none : (w : Option (List ℕ)) → Took w w []
took_none None = refl
took_none (Some xs) = (xs, refl, refl)

pub took_more : (left was now : Option (List ℕ)) (taken buf : List ℕ) (n : ℕ) → Took left was taken → Moved n buf was now → Took left now (taken ++ take n buf)
took_more None was now taken buf n h m = subst (λ o. Moved n buf o now) h m
took_more (Some xs) was now taken buf n h m =
    let moved = subst (λ o. Moved n buf o now) h.2 m in (
      drop n h.0,
      h.1 ∙ (ap (λ l. taken ++ l) (sym (take-append-drop n h.0)) ∙ (sym (append_assoc taken (take n h.0) (drop n h.0)) ∙ ap (λ l. (taken ++ l) ++ drop n h.0) (sym moved.1))),
      moved.2,
    )

-- a write that stopped behind the first bytes of a text
pub part_stopped : (first was now : Option (List ℕ)) (text : List ℕ) (at : ℕ) → WroteAll first was (take at text) → now ≡ was → WrotePart first now text
part_stopped first was now text at h same =
    subst (λ w. WrotePart first w text) (sym same) (subst (WrotePart first was) (take-append-drop at text) (all_is_part first was (take at text) (drop at text) h))
