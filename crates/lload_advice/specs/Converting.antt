-- A text in which lines are comments.
use Rattle.std.specs.Prelude.{◌≡◌, ◌≤◌, ◌<◌, ℕ, ◌⊎◌, List, [], ◌∷◌, ◌++◌, length, codes, IsOk}
use Rattle.lload_conf.specs.Configuration.{configuration}

-- a text is one that has a configuration, and isn't too long to be read
pub record IsTaken (text : List ℕ) : Type 0 where
  pub short : length text ≤ 1048576
  pub whole : IsOk (configuration text)

-- a text ends with a line feed
abbrev pub EndsLine : List ℕ → Type 0
EndsLine text = (front : List ℕ) × (text ≡ front ++ 10 ∷ [])

-- a piece in front of a text is a physical line with its end: some bytes, which end with a line feed where others stand
-- behind them
pub record IsPiece (text piece later : List ℕ) : Type 0 where
  pub whole : text ≡ piece ++ later
  pub some : length later < length text
  pub line : (later ≡ []) ⊎ EndsLine piece

-- what stands before a physical line: nothing; or what makes it a comment; or a comment and then that
abbrev pub IsLead : List ℕ → Type 0
IsLead lead = (lead ≡ []) ⊎ ((lead ≡ codes "# ") ⊎ ((said : List ℕ) × (lead ≡ codes "# " ++ (said ++ codes "\n# "))))

-- a text, and that text with leads before some of its pieces: each lead stands where a physical line begins
pub data IsCommented : List ℕ → List ℕ → Type 0 where
  Nothing : IsCommented [] []
  Behind : (before after lead piece : List ℕ) → (before ≡ []) ⊎ EndsLine before → IsLead lead → IsCommented before after → IsCommented (before ++ piece) (after ++ (lead ++ piece))
