-- The lines of a text that grows.
use Rattle.std.proofs.Common.{◌≡◌, ℕ, List, [], ◌∷◌, ◌++◌, append_assoc, sym, ap, ◌∙◌, refl, arith}
use Rattle.std.proofs.lemmas.Bool.Decides.{nat_tests}
use Rattle.std.specs.Prelude.{◌==◌, Bool, true, false, ◌||◌, if◌then◌else◌}
use Rattle.std.proofs.lemmas.List.{append-nil}
use Rattle.lloadd_run.specs.Scripts.{onto_line, whole_lines, has_end, unfinished}

-- A text without an end of a line has no whole line, and is unfinished.
pub record Endless (cs : List ℕ) : Type 0 where
  pub no_line : whole_lines cs ≡ []
  pub all : unfinished cs ≡ cs

-- A text with one has a whole line.
pub record Ended (cs : List ℕ) : Type 0 where
  pub line : List ℕ
  pub lines : List (List ℕ)
  pub some_line : whole_lines cs ≡ line ∷ lines

endless-cons : (c : ℕ) (cs : List ℕ) (b e : Bool) → (c == 10) ≡ b → has_end cs ≡ e → (b || e) ≡ false → (e ≡ false → Endless cs) → Endless (c ∷ cs)
endless-cons c cs true e hb he k ih = cc
endless-cons c cs false true hb he k ih = cc
endless-cons c cs false false hb he k ih = record {
  no_line = rw hb (ap (onto_line c) (ih refl).no_line);
  all = simp (hb, he);
}

pub endless : (cs : List ℕ) → has_end cs ≡ false → Endless cs
endless [] h = record { no_line = refl; all = refl }
endless (c ∷ cs) h = endless-cons c cs (c == 10) (has_end cs) refl refl h (endless cs)

ended-cons : (c : ℕ) (cs : List ℕ) (b e : Bool) → (c == 10) ≡ b → has_end cs ≡ e → (b || e) ≡ true → (e ≡ true → Ended cs) → Ended (c ∷ cs)
ended-cons c cs true e hb he k ih = record { line = []; lines = whole_lines cs; some_line = simp hb }
ended-cons c cs false true hb he k ih =
    let more = ih refl in
    record { line = c ∷ more.line; lines = more.lines; some_line = rw hb (ap (onto_line c) more.some_line) }
ended-cons c cs false false hb he k ih = cc

pub ended : (cs : List ℕ) → has_end cs ≡ true → Ended cs
ended [] h = cc
ended (c ∷ cs) h = ended-cons c cs (c == 10) (has_end cs) refl refl h (ended cs)

-- A line behind others, under a byte in front.
onto_last : (c : ℕ) (cs : List ℕ) (e : Bool) → has_end cs ≡ e → onto_line c (whole_lines cs ++ unfinished cs ∷ []) ≡ onto_line c (whole_lines cs) ++ (if e then unfinished cs else c ∷ cs) ∷ []
onto_last c cs true he =
    let found = ended cs he in
    rw found.some_line
onto_last c cs false he =
    let none = endless cs he in
    rw (none.no_line, none.all)

whole_lines-end-cons : (c : ℕ) (cs : List ℕ) (b : Bool) → (c == 10) ≡ b → whole_lines (cs ++ 10 ∷ []) ≡ whole_lines cs ++ unfinished cs ∷ [] → whole_lines ((c ∷ cs) ++ 10 ∷ []) ≡ whole_lines (c ∷ cs) ++ unfinished (c ∷ cs) ∷ []
whole_lines-end-cons c cs true hb ih = simp hb (ap (λ ls. [] ∷ ls) ih)
whole_lines-end-cons c cs false hb ih = simp hb (ap (onto_line c) ih ∙ onto_last c cs (has_end cs) refl)

-- The end of a line makes what was unfinished a whole line.
pub whole_lines-end : (cs : List ℕ) → whole_lines (cs ++ 10 ∷ []) ≡ whole_lines cs ++ unfinished cs ∷ []
whole_lines-end [] = refl
whole_lines-end (c ∷ cs) = whole_lines-end-cons c cs (c == 10) refl (whole_lines-end cs)

-- Another byte makes no whole line.
pub whole_lines-byte : (cs : List ℕ) (d : ℕ) → (d == 10) ≡ false → whole_lines (cs ++ d ∷ []) ≡ whole_lines cs
whole_lines-byte [] d h = simp h
whole_lines-byte (c ∷ cs) d h = ap (λ ls. if c == 10 then [] ∷ ls else onto_line c ls) (whole_lines-byte cs d h)

has_end-end : (cs : List ℕ) → has_end (cs ++ 10 ∷ []) ≡ true
has_end-end [] = refl
has_end-end (c ∷ cs) = has_end-end-cons (c == 10) (has_end (cs ++ 10 ∷ [])) (has_end-end cs) where
  has_end-end-cons : (b e : Bool) → e ≡ true → (b || e) ≡ true
  has_end-end-cons true e h = refl
  has_end-end-cons false e h = h

has_end-byte : (cs : List ℕ) (d : ℕ) → (d == 10) ≡ false → has_end (cs ++ d ∷ []) ≡ has_end cs
has_end-byte [] d h = simp h
has_end-byte (c ∷ cs) d h = ap (λ e. (c == 10) || e) (has_end-byte cs d h)

-- Behind the end of a line nothing is unfinished.
pub unfinished-end : (cs : List ℕ) → unfinished (cs ++ 10 ∷ []) ≡ []
unfinished-end [] = refl
unfinished-end (c ∷ cs) = simp (has_end-end (c ∷ cs)) (unfinished-end cs)

choose : (e : Bool) (xs ys zs : List ℕ) (d : ℕ) → xs ≡ ys ++ d ∷ [] → (if e then xs else zs ++ d ∷ []) ≡ (if e then ys else zs) ++ d ∷ []
choose true xs ys zs d h = h
choose false xs ys zs d h = refl

-- Another byte stands behind what was unfinished.
pub unfinished-byte : (cs : List ℕ) (d : ℕ) → (d == 10) ≡ false → unfinished (cs ++ d ∷ []) ≡ unfinished cs ++ d ∷ []
unfinished-byte [] d h = simp h
unfinished-byte (c ∷ cs) d h =
    ap (λ e. if e then unfinished (cs ++ d ∷ []) else c ∷ (cs ++ d ∷ [])) (has_end-byte (c ∷ cs) d h) ∙ choose (has_end (c ∷ cs)) (unfinished (cs ++ d ∷ [])) (unfinished cs) (c ∷ cs) d (unfinished-byte cs d h)

-- The whole lines of a longer text begin with those of the text.
pub record LinesGrow (cs ds : List ℕ) : Type 0 where
  pub behind : List (List ℕ)
  pub lines : whole_lines (cs ++ ds) ≡ whole_lines cs ++ behind

lines_grow-byte : (cs : List ℕ) (d : ℕ) (b : Bool) → (d == 10) ≡ b → LinesGrow cs (d ∷ [])
lines_grow-byte cs d true h = record { behind = unfinished cs ∷ []; lines = let is_end : d ≡ 10 = grind (arith, nat_tests) in rw is_end (whole_lines-end cs) }
lines_grow-byte cs d false h = record { behind = []; lines = whole_lines-byte cs d h ∙ sym (append-nil (whole_lines cs)) }

pub lines_grow : (cs ds : List ℕ) → LinesGrow cs ds
lines_grow cs [] = record { behind = []; lines = ap whole_lines (append-nil cs) ∙ sym (append-nil (whole_lines cs)) }
lines_grow cs (d ∷ ds) =
    let one = lines_grow-byte cs d (d == 10) refl in
    let more = lines_grow (cs ++ d ∷ []) ds in record {
      behind = one.behind ++ more.behind;
      lines = ap whole_lines (sym (append_assoc cs (d ∷ []) ds)) ∙ (more.lines ∙ (ap (λ ls. ls ++ more.behind) one.lines ∙ append_assoc (whole_lines cs) one.behind more.behind));
    }
