-- The text of entries that are written one by one.
use Rattle.std.proofs.Common.{◌≡◌, ◌<◌, ℕ, suc, ◌+◌, List, [], ◌∷◌, ◌++◌, length, take, drop, get_or, sym, ap, ◌∙◌, subst}
use Rattle.std.specs.Prelude.{Option}
use Rattle.std.proofs.Math.Seq.{drop-cons}
use Rattle.std.proofs.lemmas.List.{append-nil, take-append-drop, take_more}
use Rattle.lload_names.specs.declared.names.Entry.{Entry}
use Rattle.lload_spec.specs.Transcript.{entry_text, journal_text}
use Rattle.lload_spec.proofs.Texts.{journal_text-append}
use Rattle.lloadd_run.specs.Amounts.{WroteAll, WrotePart}
use Rattle.lloadd_run.proofs.AmountLaws.{wrote_then, part_then, part_longer, all_is_part}

text-split : (es : List Entry) (i : ℕ) → journal_text (take i es) ++ journal_text (drop i es) ≡ journal_text es
text-split es i = sym (journal_text-append (take i es) (drop i es)) ∙ ap journal_text (take-append-drop i es)

text-more : (es : List Entry) (i : ℕ) (e : Entry) → i < length es → e ≡ get_or es i e → journal_text (take (i + 1) es) ≡ journal_text (take i es) ++ entry_text e
text-more es i e within is =
    ap journal_text (take_more es i e within) ∙ (journal_text-append (take i es) (get_or es i e ∷ []) ∙ (ap (λ text. journal_text (take i es) ++ text) (append-nil (entry_text (get_or es i e))) ∙ ap (λ d. journal_text (take i es) ++ entry_text d) (sym is)))

pub entries_part : (first now : Option (List ℕ)) (es : List Entry) (i : ℕ) → WroteAll first now (journal_text (take i es)) → WrotePart first now (journal_text es)
entries_part first now es i h = subst (WrotePart first now) (text-split es i) (all_is_part first now (journal_text (take i es)) (journal_text (drop i es)) h)

pub entry_part : (first was now : Option (List ℕ)) (es : List Entry) (i : ℕ) (e : Entry) (text : List ℕ) → i < length es → e ≡ get_or es i e → text ≡ entry_text e → WroteAll first was (journal_text (take i es)) → WrotePart was now text → WrotePart first now (journal_text es)
entry_part first was now es i e text within is line h k =
    let front = part_then first was now (journal_text (take i es)) (entry_text e) h (subst (WrotePart was now) line k) in
    let more = part_longer first now (journal_text (take i es) ++ entry_text e) (journal_text (drop (i + 1) es)) front in
    subst (WrotePart first now) (ap (λ text. text ++ journal_text (drop (i + 1) es)) (sym (text-more es i e within is)) ∙ text-split es (i + 1)) more

pub entry_wrote : (first was now : Option (List ℕ)) (es : List Entry) (i : ℕ) (e : Entry) (text : List ℕ) → i < length es → e ≡ get_or es i e → text ≡ entry_text e → WroteAll first was (journal_text (take i es)) → WroteAll was now text → WroteAll first now (journal_text (take (i + 1) es))
entry_wrote first was now es i e text within is line h k =
    subst (WroteAll first now) (sym (text-more es i e within is)) (wrote_then first was now (journal_text (take i es)) (entry_text e) h (subst (WroteAll was now) line k))

-- the bytes before one, it, and those behind it
pub split_at : (bytes : List ℕ) (i : ℕ) → i < length bytes → take i bytes ++ get_or bytes i 0 ∷ drop (suc i) bytes ≡ bytes
split_at bytes i within = ap (λ l. take i bytes ++ l) (sym (drop-cons bytes i 0 within)) ∙ take-append-drop i bytes
