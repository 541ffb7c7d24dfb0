-- The fields of an entry are read of their texts, whatever stands behind them.
use Rattle.std.proofs.Common.{◌≡◌, ℕ, ◌^◌, ◌<◌, Bool, true, false, subst, List, [], ◌∷◌, ◌++◌, refl, ap, ◌∙◌, arith, append_assoc, append-nil}
use Rattle.std.specs.Prelude.{Option, Some, None, codes}
use Rattle.std.specs.Fmt.{decimal}
use Rattle.std.specs.Option.{option_map}
use Rattle.std.specs.Str.{bytes_eq}
use Rattle.std.proofs.lemmas.Slice.Eq.{bytes_eq-Decides}
use Rattle.lload_names.specs.declared.names.OpName.{OpName}
use Rattle.lload_names.specs.declared.names.PartName.{PartName}
use Rattle.lload_names.specs.declared.names.PartName.TheVariants.{Desk, Client, Up as Connection}
use Rattle.lload_names.specs.declared.names.Answer.{Answer}
use Rattle.lload_names.specs.declared.names.Answer.TheVariants.{Go, Busy, Unavailable}
use Rattle.lload_names.specs.declared.names.ConnKind.{ConnKind}
use Rattle.lload_names.specs.declared.names.ConnKind.TheVariants.{Regular, Bind}
use Rattle.lload_names.specs.declared.names.Bound.{Bound}
use Rattle.lload_names.specs.declared.names.Bound.TheVariants.{Free, Backend, Conn}
use Rattle.lload_names.specs.declared.names.Want.{Want}
use Rattle.lload_names.specs.declared.names.EndWhy.{EndWhy}
use Rattle.lload_names.specs.declared.names.EndWhy.TheVariants.{Left, Lost, Bad, TooBig, ZeroId, IdInUse, Unreadable, IoTimeout, Memory, Stopped, OwnBind, TimedOut, Unfinished, Drained}
use Rattle.lload_spec.specs.Script.{words}
use Rattle.lload_spec.specs.Transcript.{answer_text, bound_text, kind_text, latency_text, op_text, part_text, why_text}
use Rattle.replay_script.specs.EntryFields.{next_by, first_by, short_of, long_of, next_short, next_part, op_of, next_op, next_answer, kind_of, bound_of, want_of, why_of, latency_of}
use Rattle.replay_script.specs.EntryLines.{HoldsAnswer, HoldsBound, HoldsLatency, HoldsOp, HoldsPart}
use Rattle.replay_script.proofs.NumberTexts.{are_digits, decimal_digits, decimal_without, is_without, is_without-cons, number_of-decimal}
use Rattle.replay_script.proofs.WordTexts.{words-more, words-only, is_without-append, position-dot, take-text, drop-text}

-- what stands behind a word: nothing, or a space and more; and the words behind it
pub record Follows (end : List ℕ) (ws : List (List ℕ)) : Type 0 where
  pub behind : (text : List ℕ) → is_without 32 text ≡ true → words (text ++ end) ≡ text ∷ ws

pub at_end : Follows [] []
at_end = record { behind = λ text plain. rw append-nil (words-only text plain) }

pub before_more : (more : List ℕ) → Follows (32 ∷ more) (words more)
before_more more = record { behind = λ text plain. words-more text more plain }

-- a word is read
pub next_by-text : {A : Type 0} (read : List ℕ → Option A) (a : A) (text end : List ℕ) (ws : List (List ℕ)) → Follows end ws → is_without 32 text ≡ true → read text ≡ Some a → next_by read (words (text ++ end)) ≡ Some (a, ws)
next_by-text {A} read a text end ws follows plain is = ap (next_by read) (follows.behind text plain) ∙ ap (option_map (λ (x : A). (x, ws))) is

pub first_by-text : {A : Type 0} (read : List ℕ → Option A) (a : A) (text end : List ℕ) (ws : List (List ℕ)) → Follows end ws → is_without 32 text ≡ true → read text ≡ Some a → first_by read (words (text ++ end)) ≡ Some a
first_by-text read a text end ws follows plain is = ap (first_by read) (follows.behind text plain) ∙ is

-- numbers
pub short-text : (n : ℕ) (end : List ℕ) (ws : List (List ℕ)) → Follows end ws → n < 2 ^ 32 → next_short (words (decimal n ++ end)) ≡ Some (n, ws)
short-text n end ws follows small = next_by-text short_of n (decimal n) end ws follows (decimal_without 32 n (omega arith) (omega arith)) (number_of-decimal (2 ^ 32) n small (omega arith))

pub next_long-text : (n : ℕ) (end : List ℕ) (ws : List (List ℕ)) → Follows end ws → n < 2 ^ 64 → next_by long_of (words (decimal n ++ end)) ≡ Some (n, ws)
next_long-text n end ws follows small = next_by-text long_of n (decimal n) end ws follows (decimal_without 32 n (omega arith) small) (number_of-decimal (2 ^ 64) n small (omega arith))

pub first_long-text : (n : ℕ) (end : List ℕ) (ws : List (List ℕ)) → Follows end ws → n < 2 ^ 64 → first_by long_of (words (decimal n ++ end)) ≡ Some n
first_long-text n end ws follows small = first_by-text long_of n (decimal n) end ws follows (decimal_without 32 n (omega arith) small) (number_of-decimal (2 ^ 64) n small (omega arith))

-- operations
op_without_space : (op : OpName) → HoldsOp op → is_without 32 (op_text op) ≡ true
op_without_space op holds = is_without-append 32 (decimal op.client) (46 ∷ decimal op.k) (decimal_without 32 op.client (omega arith) (omega (arith, holds.0))) (is_without-cons 32 46 (decimal op.k) refl (decimal_without 32 op.k (omega arith) holds.1))

op_of-text : (op : OpName) → HoldsOp op → op_of (op_text op) ≡ Some op
op_of-text op holds =
    let dot = position-dot (decimal op.client) (decimal op.k) (decimal_without 46 op.client (omega arith) (omega (arith, holds.0))) in
    let front = take-text (decimal op.client) (46 ∷ decimal op.k) in
    let back = drop-text (decimal op.client) (decimal op.k) 46 in
    let client = number_of-decimal (2 ^ 32) op.client holds.0 (omega arith) in
    let k = number_of-decimal (2 ^ 64) op.k holds.1 (omega arith) in
    rw (dot, front, back, client, k) refl

pub op-text : (op : OpName) (end : List ℕ) (ws : List (List ℕ)) → Follows end ws → HoldsOp op → next_op (words (op_text op ++ end)) ≡ Some (op, ws)
op-text op end ws follows holds = next_by-text op_of op (op_text op) end ws follows (op_without_space op holds) (op_of-text op holds)

-- parts
pub part-text : (part : PartName) (end : List ℕ) (ws : List (List ℕ)) → Follows end ws → HoldsPart part → next_part (words (part_text part ++ end)) ≡ Some (part, ws)
part-text Desk end ws follows holds = rw (follows.behind (codes "desk") refl) refl
part-text (Client n) end ws follows holds = rw (short-text n end ws follows holds) refl
part-text (Connection n) end ws follows holds = rw (short-text n end ws follows holds) refl

-- the desk's answer
go-text : (conn backend : ℕ) (end : List ℕ) (ws : List (List ℕ)) → Follows end ws → conn < 2 ^ 32 → backend < 2 ^ 32 → next_answer (words (codes "up " ++ (decimal conn ++ (codes " of " ++ (decimal backend ++ end))))) ≡ Some (Go conn backend, ws)
go-text conn backend end ws follows one two = rw (short-text conn (32 ∷ 111 ∷ 102 ∷ 32 ∷ (decimal backend ++ end)) (codes "of" ∷ words (decimal backend ++ end)) (before_more (111 ∷ 102 ∷ 32 ∷ (decimal backend ++ end))) one, short-text backend end ws follows two) refl

pub answer-text : (answer : Answer) (end : List ℕ) (ws : List (List ℕ)) → Follows end ws → HoldsAnswer answer → next_answer (words (answer_text answer ++ end)) ≡ Some (answer, ws)
answer-text (Go conn backend) end ws follows holds =
    let grouped = append_assoc (decimal conn) (codes " of " ++ decimal backend) end in
    ap (λ (l : List ℕ). next_answer (words (codes "up " ++ l))) grouped ∙ go-text conn backend end ws follows holds.0 holds.1
answer-text Busy end ws follows holds = rw (follows.behind (codes "busy") refl) refl
answer-text Unavailable end ws follows holds = rw (follows.behind (codes "unavailable") refl) refl

-- what is wanted
kind-text : (kind : ConnKind) (end : List ℕ) (ws : List (List ℕ)) → Follows end ws → next_by kind_of (words (kind_text kind ++ end)) ≡ Some (kind, ws)
kind-text Regular end ws follows = next_by-text kind_of Regular (codes "regular") end ws follows refl refl
kind-text Bind end ws follows = next_by-text kind_of Bind (codes "bind") end ws follows refl refl

bound-text : (bound : Bound) → HoldsBound bound → bound_of (words (bound_text bound ++ [])) ≡ Some bound
bound-text Free holds = refl
bound-text (Backend b) holds = rw (short-text b [] [] at_end holds) refl
bound-text (Conn n) holds = rw (short-text n [] [] at_end holds) refl

pub want-text : (want : Want) → HoldsBound want.bound → want_of (words (kind_text want.kind ++ (32 ∷ (bound_text want.bound ++ [])))) ≡ Some want
want-text want holds = rw (kind-text want.kind (32 ∷ (bound_text want.bound ++ [])) (words (bound_text want.bound ++ [])) (before_more (bound_text want.bound ++ [])), bound-text want.bound holds) refl

-- the reason of an end
pub why-text : (why : EndWhy) → first_by why_of (words (why_text why ++ [])) ≡ Some why
why-text Left = refl
why-text Lost = refl
why-text Bad = refl
why-text TooBig = refl
why-text ZeroId = refl
why-text IdInUse = refl
why-text Unreadable = refl
why-text IoTimeout = refl
why-text Memory = refl
why-text Stopped = refl
why-text OwnBind = refl
why-text TimedOut = refl
why-text Unfinished = refl
why-text Drained = refl

-- a latency: a number isn't `none`
number_is_no_word : (n : ℕ) → n < 2 ^ 32 → latency_of (decimal n) ≡ Some (Some n)
number_is_no_word n small = at (bytes_eq (decimal n) (codes "none")) refl where
  at : (t : Bool) → bytes_eq (decimal n) (codes "none") ≡ t → latency_of (decimal n) ≡ Some (Some n)
  at true is = let same = (bytes_eq-Decides (decimal n) (codes "none")).0 is in absurd (cc (subst (λ (text : List ℕ). are_digits text ≡ true) same (decimal_digits n (omega arith))))
  at false is = rw (is, number_of-decimal (2 ^ 32) n small (omega arith)) refl

pub latency-text : (latency : Option ℕ) → HoldsLatency latency → first_by latency_of (words (latency_text latency ++ [])) ≡ Some latency
latency-text None holds = refl
latency-text (Some n) holds = first_by-text latency_of (Some n) (decimal n) [] [] at_end (decimal_without 32 n (omega arith) (omega arith)) (number_is_no_word n holds)
