-- Sents of a list that are alone: the last under an identifier, and the one of an operation.
use Rattle.std.proofs.Common.{◌≡◌, inl, inr, ℕ, Bool, true, false, ◌==◌, ◌&&◌, ◌||◌, not, List, [], ◌∷◌, ◌++◌, refl, ap, ◌∙◌, sym, subst}
use Rattle.std.specs.Prelude.{Option, Some, None, map}
use Rattle.std.specs.List.{list_any}
use Rattle.lload_names.specs.declared.names.Entry.{Entry}
use Rattle.lload_names.specs.declared.names.OpName.{OpName}
use Rattle.lload_names.specs.declared.names.What.{What}
use Rattle.lload_names.specs.declared.names.What.TheVariants as what
use Rattle.lload_spec.specs.Answers.{Sending, gives_id, is_sent_under, sending_made, sendings, sendings_from}
use Rattle.lload_spec.specs.Entries.{Named, given_id, is_sent, sent_message}
use Rattle.lload_spec.specs.Journal.{same_op}
use Rattle.lload_spec.specs.Lists.{implies, passes}
use Rattle.ldap_spec.specs.Messages.{Message}
use Rattle.lload_spec.proofs.Growth.{left}
use Rattle.lload_laws.specs.ConnectionGrowth.{later_sending}
use Rattle.lload_laws.proofs.ConnectionGrowth.{sendings_grow}
use Rattle.lload_laws.proofs.ListLaws.{any_imply}
use Rattle.part_laws.proofs.ListLaws.{false_by, none_of_both, not_true, or_left, or_right, same_op_eq, same_op_sym}
use Rattle.part_spec.specs.ConnectionState.{ConnectionState, is_bind}
use Rattle.part_spec.specs.Marked.{Marked}
use Rattle.part_spec.specs.Share.{has_letter, is_free_by, is_sent_once}
use Rattle.client_answer_laws.proofs.Each.{Each, each_append, each_both, each_imply, each_map}
use Rattle.open_laws.proofs.Among.{Among, of_each}

-- what the entry of a Sent says, and whether an entry is a Sent of which this test passes
abbrev pub named : Sending → Named Message
named x = record { op = x.op; value = record { id = x.id; rest = x.rest } }

abbrev pub sends : (Named Message → Bool) → Entry → Bool
sends k e = passes k (sent_message e.what)

module _ (k : Named Message → Bool) (u : ℕ) where
  -- the entry of a Sent stands in the list
  pub own_stands : (before es : List Entry) → Each (λ x. k (named x) ≡ true → list_any (sends k) es ≡ true) (sendings_from u before es)
  own_stands before [] = tt
  own_stands before (e ∷ es) = each_append (λ x. k (named x) ≡ true → list_any (sends k) (e ∷ es) ≡ true) (sending_made u before e es (sent_message e.what)) (sendings_from u (before ++ e ∷ []) es) (here (sent_message e.what) refl) (each_imply (λ x. k (named x) ≡ true → list_any (sends k) es ≡ true) (λ x. k (named x) ≡ true → list_any (sends k) (e ∷ es) ≡ true) (sendings_from u (before ++ e ∷ []) es) (λ x f j. or_right (sends k e) _ (f j)) (own_stands (before ++ e ∷ []) es))
    where
      here : (o : Option (Named Message)) → sent_message e.what ≡ o → Each (λ x. k (named x) ≡ true → list_any (sends k) (e ∷ es) ≡ true) (sending_made u before e es o)
      here None i = tt
      here (Some q) i = ((λ j. or_left (sends k e) _ (ap (passes k) i ∙ j)), tt)

  -- of the Sents that pass, one at most has none that passes behind it
  pub single_out : (before es : List Entry) (z : Sending) → Among z (sendings_from u before es) → k (named z) ≡ true → list_any (sends k) z.behind ≡ false → Each (λ x. k (named x) ≡ true → list_any (sends k) x.behind ≡ false → x ≡ z) (sendings_from u before es)
  single_out before [] z a h n = absurd a
  single_out before (e ∷ es) z a h n = by (sent_message e.what) a (λ b. single_out (before ++ e ∷ []) es z b h n)
    where
      by : (o : Option (Named Message)) → Among z (sending_made u before e es o ++ sendings_from u (before ++ e ∷ []) es) → (Among z (sendings_from u (before ++ e ∷ []) es) → Each (λ x. k (named x) ≡ true → list_any (sends k) x.behind ≡ false → x ≡ z) (sendings_from u (before ++ e ∷ []) es)) → Each (λ x. k (named x) ≡ true → list_any (sends k) x.behind ≡ false → x ≡ z) (sending_made u before e es o ++ sendings_from u (before ++ e ∷ []) es)
      by None b more = more b
      by (Some q) (inl same) more = ((λ i j. same), each_imply (λ x. k (named x) ≡ true → list_any (sends k) es ≡ true) (λ x. k (named x) ≡ true → list_any (sends k) x.behind ≡ false → x ≡ z) (sendings_from u (before ++ e ∷ []) es) (λ x f i j. absurd (let bad : false ≡ true = sym n ∙ sym (ap (λ y. list_any (sends k) y.behind) same) ∙ f i in cc)) (own_stands (before ++ e ∷ []) es))
      by (Some q) (inr b) more = ((λ i j. absurd (let bad : false ≡ true = sym j ∙ of_each (λ x. k (named x) ≡ true → list_any (sends k) es ≡ true) (sendings_from u (before ++ e ∷ []) es) z (own_stands (before ++ e ∷ []) es) b h in cc)), more b)

-- The Sents of one identifier.

sent_gives : (id : ℕ) (w : What) → passes (λ q. q.value.id == id) (sent_message w) ≡ true → passes (λ n. n == id) (given_id w) ≡ true
sent_gives id (what.Sent n op rest) h = h
sent_gives id _ h = absurd (let bad : false ≡ true = h in cc)

-- while a Sent reigns, none is sent under its identifier
pub reigns_last : (id : ℕ) (es : List Entry) → list_any (gives_id id) es ≡ false → list_any (is_sent_under id) es ≡ false
reigns_last id es h = false_by (list_any (is_sent_under id) es) (λ k. sym h ∙ any_imply (is_sent_under id) (gives_id id) es (λ e j. sent_gives id e.what j) k)

-- The Sents of one operation: one at most.

abbrev pub Once : ℕ → List Entry → Type 0
Once u place = Each (λ x. list_any (is_sent x.op) x.behind ≡ false) (sendings u place)

-- a Sent is the first of its operation
abbrev pub IsNew : List Entry → Entry → Type 0
IsNew place e = (q : Named Message) → sent_message e.what ≡ Some q → list_any (is_sent q.op) place ≡ false

pub new_by : (p : ConnectionState) (place : List Entry) (m : Marked) → is_sent_once p place m ≡ true → IsNew place m.entry
new_by p place m h q e = not_true (list_any (is_sent q.op) place) (by (sent_message m.entry.what) e h)
  where
    by : (o : Option (Named Message)) → o ≡ Some q → (elim o [ None ↦ true | Some x ↦ not (list_any (is_sent x.op) place) && implies (is_bind p) (has_letter (is_free_by p) m) ]) ≡ true → not (list_any (is_sent q.op) place) ≡ true
    by None i k = absurd (let bad : None ≡ Some q = i in cc)
    by (Some x) i k = let same : x ≡ q = cc in ap (λ y. not (list_any (is_sent y.op) place)) (sym same) ∙ left (not (list_any (is_sent x.op) place)) _ k

pub once_more : (u : ℕ) (place : List Entry) (e : Entry) → IsNew place e → Once u place → Once u (place ++ e ∷ [])
once_more u place e new h = subst (Each (λ x. list_any (is_sent x.op) x.behind ≡ false)) (sym (sendings_grow u place e)) (each_append (λ x. list_any (is_sent x.op) x.behind ≡ false) (map (later_sending e) (sendings u place)) (sending_made u place e [] (sent_message e.what)) (each_map (λ x. list_any (is_sent x.op) x.behind ≡ false) (later_sending e) (sendings u place) (olds (sent_message e.what) refl)) (fresh (sent_message e.what)))
  where
    fresh : (o : Option (Named Message)) → Each (λ x. list_any (is_sent x.op) x.behind ≡ false) (sending_made u place e [] o)
    fresh None = tt
    fresh (Some q) = (refl, tt)

    with_one : (x : Sending) → list_any (is_sent x.op) x.behind ≡ false → is_sent x.op e ≡ false → list_any (is_sent x.op) (x.behind ++ e ∷ []) ≡ false
    with_one x i j = none_of_both (is_sent x.op) x.behind (e ∷ []) i (ap (λ b. b || false) j)

    olds : (o : Option (Named Message)) → sent_message e.what ≡ o → Each (λ x. list_any (is_sent x.op) (x.behind ++ e ∷ []) ≡ false) (sendings u place)
    olds None i = each_imply (λ x. list_any (is_sent x.op) x.behind ≡ false) (λ x. list_any (is_sent x.op) (x.behind ++ e ∷ []) ≡ false) (sendings u place) (λ x k. with_one x k (ap (passes (λ y. same_op x.op y.op)) i)) h
    olds (Some q) i = each_imply (λ x. (list_any (is_sent x.op) x.behind ≡ false) × (same_op q.op x.op ≡ true → list_any (is_sent q.op) place ≡ true)) (λ x. list_any (is_sent x.op) (x.behind ++ e ∷ []) ≡ false) (sendings u place) (λ x k. with_one x k.0 (ap (passes (λ y. same_op x.op y.op)) i ∙ false_by (same_op x.op q.op) (λ j. sym (new q i) ∙ k.1 (same_op_sym q.op x.op ∙ j)))) (each_both (λ x. list_any (is_sent x.op) x.behind ≡ false) (λ x. same_op q.op x.op ≡ true → list_any (is_sent q.op) place ≡ true) (sendings u place) h (own_stands (λ y. same_op q.op y.op) u [] place))

-- so of an operation there is one Sent
pub one_of : (u : ℕ) (place : List Entry) (op : OpName) (z : Sending) → Once u place → Among z (sendings u place) → same_op op z.op ≡ true → Each (λ x. same_op op x.op ≡ true → x ≡ z) (sendings u place)
one_of u place op z h a same = each_imply (λ x. (list_any (is_sent x.op) x.behind ≡ false) × (same_op op x.op ≡ true → list_any (is_sent op) x.behind ≡ false → x ≡ z)) (λ x. same_op op x.op ≡ true → x ≡ z) (sendings u place) (λ x k j. k.1 j (ap (λ n. list_any (is_sent n) x.behind) (same_op_eq op x.op j) ∙ k.0)) (each_both (λ x. list_any (is_sent x.op) x.behind ≡ false) (λ x. same_op op x.op ≡ true → list_any (is_sent op) x.behind ≡ false → x ≡ z) (sendings u place) h (single_out (λ y. same_op op y.op) u [] place z a same (ap (λ n. list_any (is_sent n) z.behind) (same_op_eq op z.op same) ∙ of_each (λ x. list_any (is_sent x.op) x.behind ≡ false) (sendings u place) z h a)))
