-- Parts of some bytes.
use Rattle.std.proofs.Common.{ℕ, ◌-◌, ◌≤◌, List, [], ◌++◌, take, drop, ap, ◌∙◌, sym, append_assoc, append-nil, take-append-drop}
use Rattle.ldap_messages.specs.Parts.{IsPart}
use Rattle.ldap_messages.specs.Requests.{MethodLends}
use Rattle.ldap_messages.specs.declared.requests.Method.{Method}
use Rattle.ldap_messages.specs.declared.requests.Method.TheVariants.{Simple, Sasl, Other}

-- a part of a part is a part
pub part_of_part : (bytes part inner : List ℕ) → IsPart bytes part → IsPart part inner → IsPart bytes inner
part_of_part bytes part inner p q = record {
  before = p.before ++ q.before;
  after = q.after ++ p.after;
  is = p.is ∙ (ap (λ (xs : List ℕ). p.before ++ (xs ++ p.after)) q.is
      ∙ (ap (λ (xs : List ℕ). p.before ++ xs) (append_assoc q.before (inner ++ q.after) p.after ∙ ap (λ (xs : List ℕ). q.before ++ xs) (append_assoc inner q.after p.after))
      ∙ sym (append_assoc p.before q.before (inner ++ (q.after ++ p.after)))));
}

-- the bytes between two places, and those behind a place
pub between : (bytes : List ℕ) (from to : ℕ) → from ≤ to → IsPart bytes (take (to - from) (drop from bytes))
between bytes from to h = record {
  before = take from bytes;
  after = drop (to - from) (drop from bytes);
  is = sym (ap (λ (xs : List ℕ). take from bytes ++ xs) (take-append-drop (to - from) (drop from bytes)) ∙ take-append-drop from bytes);
}

pub whole : (bytes : List ℕ) → IsPart bytes bytes
whole bytes = record { before = []; after = []; is = sym (append-nil bytes) }

-- what a method lends of a part, it lends of the whole
pub method_through : (bytes part : List ℕ) (m : Method) → IsPart bytes part → MethodLends part m → MethodLends bytes m
method_through bytes part (Simple password) p h = part_of_part bytes part password.now p h
method_through bytes part (Sasl mechanism) p h = part_of_part bytes part mechanism.now p h
method_through bytes part (Other tag) p h = tt
