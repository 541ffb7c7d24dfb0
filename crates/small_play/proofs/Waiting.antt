-- The messages that wait may be taken one after another.
use Rattle.std.specs.Prelude.{◌≡◌, ℕ, ◌-◌, ◌^◌, ◌<◌, Bool, true, false, ◌==◌, ◌&&◌, ◌||◌, not, nat_lt, if◌then◌else◌, ◌+◌, ◌≤◌, List, [], ◌∷◌, ◌++◌, length, map, slice_get, slice_set, Option, Some, None, refl}
use Rattle.std.specs.List.{list_any, list_all}
use Rattle.std.proofs.Math.Bool.{or-true}
use Rattle.std.proofs.Common.{ap, ◌∙◌, sym, subst, arith}
use Rattle.std.proofs.lemmas.Bool.{lt-ltb, ltb-true, leb-true, le-leb, or_right, or_from, eqb-false, ne_eqb, not-true, or_parts}
use Rattle.std.proofs.lemmas.List.{map-append, length-append, length-set}
use Rattle.std.proofs.lemmas.List.Folds.{list_any-append, list_all-append}
use Rattle.ldap_spec.specs.Messages.{Message, SpellsWithin}
use Rattle.lload_names.specs.declared.names.PartName.{PartName}
use Rattle.lload_names.specs.declared.names.PartName.TheVariants.{Desk, Client, Up as Connection}
use Rattle.small_spec.specs.Lists.{are_distinct}
use Rattle.small_spec.specs.Standing.{is_one_element}
use Rattle.small_spec.proofs.Growth.{left, right, both}
use Rattle.small_laws.proofs.ListLaws.{all_imply, all_both, any-map}
use Rattle.small_world.specs.declared.world.Link.{Link}
use Rattle.small_world.specs.declared.world.Link.TheVariants.{NotLinked, Unheard, Heard}
use Rattle.small_world.specs.declared.world.Forwarded.{Forwarded}
use Rattle.small_world.specs.States.{WorldState, IsRequestFor, IsAnswerFor, is_unheard, is_linked_state, is_heard_state, is_live_with, uses, gave, begun, heard_link, after_request, after_answer, answered}
use Rattle.small_play.specs.PlayState.{PlayState}
use Rattle.small_play.specs.Waiting.{waits, may_request, may_answer, are_none, MayWait}
use Rattle.small_play.specs.Feeding.{limit_of, may_be_fed, fed_with}
use Rattle.small_play.proofs.FedBytes.{rest_within, limit_small}
use Rattle.small_play.specs.Settling.{MayTakeEach, after_each}

-- the parts of five tests, and of four
five : (a b c d e : Bool) → (a && b && c && d && e) ≡ true → (a ≡ true) × (b ≡ true) × (c ≡ true) × (d ≡ true) × (e ≡ true)
five true true true true true h = (refl, refl, refl, refl, refl)
five true true true true false h = absurd (let bad : false ≡ true = h in cc)
five true true true false e h = absurd (let bad : false ≡ true = h in cc)
five true true false d e h = absurd (let bad : false ≡ true = h in cc)
five true false c d e h = absurd (let bad : false ≡ true = h in cc)
five false b c d e h = absurd (let bad : false ≡ true = h in cc)

four : (a b c d : Bool) → (a && b && c && d) ≡ true → (a ≡ true) × (b ≡ true) × (c ≡ true) × (d ≡ true)
four a b c d h = let k : (a ≡ true) × (b ≡ true) × (c ≡ true) × (d ≡ true) × (true ≡ true) = five a b c d true (with_true (a && b && c && d) h) in (k.0, k.1, k.2, k.3)
  where
    with_true : (x : Bool) → x ≡ true → (x && true) ≡ true
    with_true true e = refl
    with_true false e = e

-- a request that waits may be taken
request_may : (w : WorldState) (m : Message) → w.arrived ≡ true → is_unheard w.link ≡ false → may_request w m ≡ true → IsRequestFor w m.id m.rest
request_may w m arrived heard h = record {
  arrived = arrived;
  heard = heard;
  id_in_range = ltb-true m.id (2 ^ 31) parts.0;
  id_some = not-true (m.id == 0) parts.1;
  id_free = not-true (uses w m.id) parts.2;
  is_delete = parts.3;
  rest_in_range = ltb-true (length m.rest) (2 ^ 30) parts.4;
}
  where
    parts : (nat_lt m.id (2 ^ 31) ≡ true) × (not (m.id == 0) ≡ true) × (not (uses w m.id) ≡ true) × (is_one_element 0x4A m.rest ≡ true) × (nat_lt (length m.rest) (2 ^ 30) ≡ true)
    parts = five _ _ _ _ _ h

-- behind a request, others with another identifier may still be taken
uses_behind : (w : WorldState) (id other : ℕ) → (id == other) ≡ false → uses w other ≡ false → uses (after_request w id) other ≡ false
uses_behind w id other apart free = more (is_heard_state w.link)
  where
    more : (b : Bool) → list_any (is_live_with other) (if b then w.forwarded ++ record { k = w.made + 1; id = id; answered = false } ∷ [] else w.forwarded) ≡ false
    more true = list_any-append (is_live_with other) w.forwarded (record { k = w.made + 1; id = id; answered = false } ∷ []) ∙ or_from _ _ free (or_from (id == other) false apart refl)
    more false = free

request_behind : (w : WorldState) (id : ℕ) (m : Message) → may_request w m ≡ true → (m.id == id) ≡ false → may_request (after_request w id) m ≡ true
request_behind w id m h apart = ap (λ b. nat_lt m.id (2 ^ 31) && not (m.id == 0) && not b && is_one_element 0x4A m.rest && nat_lt (length m.rest) (2 ^ 30)) same ∙ h
  where
    parts : (nat_lt m.id (2 ^ 31) ≡ true) × (not (m.id == 0) ≡ true) × (not (uses w m.id) ≡ true) × (is_one_element 0x4A m.rest ≡ true) × (nat_lt (length m.rest) (2 ^ 30) ≡ true)
    parts = five _ _ _ _ _ h

    free : uses w m.id ≡ false
    free = not-true (uses w m.id) parts.2

    same : uses (after_request w id) m.id ≡ uses w m.id
    same = uses_behind w id m.id (ne_eqb id m.id (λ e. eqb-false m.id id apart (sym e))) free ∙ sym free

-- none passes, and so each fails
each_fails : {A : Type 0} (t : A → Bool) (xs : List A) → list_any t xs ≡ false → list_all (λ x. not (t x)) xs ≡ true
each_fails t [] h = refl
each_fails t (x ∷ xs) h = both (not (t x)) _ (ap not (or_parts (t x) (list_any t xs) h).0) (each_fails t xs (or_parts (t x) (list_any t xs) h).1)

-- the first of distinct numbers, and the rest
distinct_test : (b c : Bool) → (elim b [ true ↦ false | false ↦ c ]) ≡ true → (b ≡ false) × (c ≡ true)
distinct_test true c h = absurd (let bad : false ≡ true = h in cc)
distinct_test false c h = (refl, h)

distinct_parts : (n : ℕ) (ns : List ℕ) → are_distinct (n ∷ ns) ≡ true → (list_any (λ m. m == n) ns ≡ false) × (are_distinct ns ≡ true)
distinct_parts n ns h = distinct_test (list_any (λ m. m == n) ns) (are_distinct ns) h

distinct_from : (b c : Bool) → b ≡ false → c ≡ true → (elim b [ true ↦ false | false ↦ c ]) ≡ true
distinct_from true c h k = absurd (let bad : true ≡ false = h in cc)
distinct_from false c h k = k

pub distinct_more : (ns : List ℕ) (n : ℕ) → are_distinct ns ≡ true → list_any (λ m. m == n) ns ≡ false → are_distinct (ns ++ n ∷ []) ≡ true
distinct_more [] n h k = refl
distinct_more (m ∷ ns) n h k = distinct_from (list_any (λ x. x == m) (ns ++ n ∷ [])) (are_distinct (ns ++ n ∷ [])) none (distinct_more ns n (distinct_parts m ns h).1 (or_parts (m == n) _ k).1)
  where
    apart : (n == m) ≡ false
    apart = ne_eqb n m (λ e. eqb-false m n (or_parts (m == n) _ k).0 (sym e))

    none : list_any (λ x. x == m) (ns ++ n ∷ []) ≡ false
    none = list_any-append (λ x. x == m) ns (n ∷ []) ∙ or_from _ _ (distinct_parts m ns h).0 (or_from (n == m) false apart refl)

pub requests_may : (w : WorldState) (ms : List Message) → (are_none ms || w.arrived) ≡ true → is_unheard w.link ≡ false → list_all (may_request w) ms ≡ true → are_distinct (map (λ m. m.id) ms) ≡ true → MayTakeEach w (Client 1) ms
requests_may w [] arrived heard h distinct = tt
requests_may w (m ∷ ms) arrived heard h distinct = ((refl, request_may w m arrived heard (left (may_request w m) _ h)), requests_may (after_request w m.id) ms (or_right (are_none ms) w.arrived arrived) heard rest (distinct_parts m.id (map (λ x. x.id) ms) distinct).1)
  where
    others : list_any (λ x. x.id == m.id) ms ≡ false
    others = sym (any-map (λ n. n == m.id) (λ x. x.id) ms) ∙ (distinct_parts m.id (map (λ x. x.id) ms) distinct).0

    rest : list_all (may_request (after_request w m.id)) ms ≡ true
    rest = all_imply (λ x. may_request w x && not (x.id == m.id)) (may_request (after_request w m.id)) ms (λ x t. request_behind w m.id x (left (may_request w x) _ t) (not-true (x.id == m.id) (right (may_request w x) _ t))) (all_both (may_request w) (λ x. not (x.id == m.id)) ms (right (may_request w m) _ h) (each_fails (λ x. x.id == m.id) ms others))

-- an answer that waits may be taken
answer_may : (w : WorldState) (m : Message) → is_linked_state w.link ≡ true → is_unheard w.link ≡ false → may_answer w m ≡ true → IsAnswerFor w m.id m.rest
answer_may w m linked heard h = record {
  linked = linked;
  heard = heard;
  id_in_range = ltb-true m.id (2 ^ 31) parts.0;
  id_given = parts.1;
  is_deleted = parts.2;
  rest_in_range = ltb-true (length m.rest) (2 ^ 30) parts.3;
}
  where
    parts : (nat_lt m.id (2 ^ 31) ≡ true) × (gave w m.id ≡ true) × (is_one_element 0x6B m.rest ≡ true) × (nat_lt (length m.rest) (2 ^ 30) ≡ true)
    parts = four _ _ _ _ h

-- what an answer leaves
record SameLink (w v : WorldState) : Type 0 where
  link : v.link ≡ w.link
  given : length v.forwarded ≡ length w.forwarded

answered_row : (w : WorldState) (i : ℕ) (f : Forwarded) (b : Bool) → SameLink w (if b then w else record w { forwarded = slice_set w.forwarded i (answered f) })
answered_row w i f true = record { link = refl; given = refl }
answered_row w i f false = record { link = refl; given = length-set w.forwarded i (answered f) }

answered_world : (w : WorldState) (i : ℕ) (o : Option Forwarded) → SameLink w (elim o [ None ↦ w | Some f ↦ if f.answered then w else record w { forwarded = slice_set w.forwarded i (answered f) } ])
answered_world w i None = record { link = refl; given = refl }
answered_world w i (Some f) = answered_row w i f f.answered

-- answers that may be taken still may where the link is the same and as many were given, or more
gave_more : (w v : WorldState) (id : ℕ) → length w.forwarded ≤ length v.forwarded → gave w id ≡ true → gave v id ≡ true
gave_more w v id more h = both (not (id == 0)) _ (left (not (id == 0)) _ h) (let within : id ≤ length w.forwarded = leb-true id (length w.forwarded) (right (not (id == 0)) _ h) in le-leb id (length v.forwarded) (omega arith))

answer_behind : (w v : WorldState) (m : Message) → length w.forwarded ≤ length v.forwarded → may_answer w m ≡ true → may_answer v m ≡ true
answer_behind w v m more h = both _ _ (both _ _ (both _ _ parts.0 (gave_more w v m.id more parts.1)) parts.2) parts.3
  where
    parts : (nat_lt m.id (2 ^ 31) ≡ true) × (gave w m.id ≡ true) × (is_one_element 0x6B m.rest ≡ true) × (nat_lt (length m.rest) (2 ^ 30) ≡ true)
    parts = four _ _ _ _ h

pub answers_behind : (w v : WorldState) (ms : List Message) → length w.forwarded ≤ length v.forwarded → list_all (may_answer w) ms ≡ true → list_all (may_answer v) ms ≡ true
answers_behind w v ms more h = all_imply (may_answer w) (may_answer v) ms (λ m. answer_behind w v m more) h

pub answers_may : (w : WorldState) (ms : List Message) → (are_none ms || is_linked_state w.link) ≡ true → is_unheard w.link ≡ false → list_all (may_answer w) ms ≡ true → MayTakeEach w (Connection 1) ms
answers_may w [] linked heard h = tt
answers_may w (m ∷ ms) linked heard h = ((refl, answer_may w m linked heard (left (may_answer w m) _ h)), answers_may (after_answer w m.id) ms (or_right (are_none ms) _ (ap is_linked_state same.link ∙ linked)) (ap is_unheard same.link ∙ heard) (answers_behind w (after_answer w m.id) ms (omega (arith, same.given)) (right (may_answer w m) _ h)))
  where
    same : SameLink w (after_answer w m.id)
    same = answered_world w (m.id - 1) (slice_get w.forwarded (m.id - 1))

-- what requests leave: the link, and at least as many identifiers that were given
pub requests_link : (w : WorldState) (ms : List Message) → (after_each w (Client 1) ms).link ≡ w.link
requests_link w [] = refl
requests_link w (m ∷ ms) = requests_link (after_request w m.id) ms

forwarded_more : (b : Bool) (rows : List Forwarded) (f : Forwarded) → length rows ≤ length (if b then rows ++ f ∷ [] else rows)
forwarded_more true rows f = omega (arith, length-append rows (f ∷ []))
forwarded_more false rows f = omega arith

pub requests_given : (w : WorldState) (ms : List Message) → length w.forwarded ≤ length (after_each w (Client 1) ms).forwarded
requests_given w [] = omega arith
requests_given w (m ∷ ms) = let one : length w.forwarded ≤ length (after_request w m.id).forwarded = forwarded_more (is_heard_state w.link) w.forwarded (record { k = w.made + 1; id = m.id; answered = false }) in let more : length (after_request w m.id).forwarded ≤ length (after_each (after_request w m.id) (Client 1) ms).forwarded = requests_given (after_request w m.id) ms in omega arith

-- a message that was fed may be taken
rest_small : (part : PartName) (bytes : List ℕ) (m : Message) → SpellsWithin (limit_of part) bytes m → nat_lt (length m.rest) (2 ^ 30) ≡ true
rest_small part bytes m s = lt-ltb (length m.rest) (2 ^ 30) (let small : limit_of part < 2 ^ 30 = limit_small part in let within : length m.rest ≤ limit_of part = rest_within (limit_of part) bytes m s in omega arith)

fed_request : (p : PlayState) (n : ℕ) (bytes : List ℕ) (m : Message) → SpellsWithin (limit_of (Client n)) bytes m → (not (m.id == 0) && is_one_element 0x4A m.rest && not (uses p.world m.id)) ≡ true → may_request p.world m ≡ true
fed_request p n bytes m s h = both _ _ (both _ _ (both _ _ (both _ _ (lt-ltb m.id (2 ^ 31) s.spelling.is_message.id_in_range) (left (not (m.id == 0)) (is_one_element 0x4A m.rest) (left _ _ h))) (right _ _ h)) (right (not (m.id == 0)) _ (left _ _ h))) (rest_small (Client n) bytes m s)

fed_answer : (p : PlayState) (n : ℕ) (bytes : List ℕ) (m : Message) → SpellsWithin (limit_of (Connection n)) bytes m → (is_one_element 0x6B m.rest && gave p.world m.id) ≡ true → may_answer p.world m ≡ true
fed_answer p n bytes m s h = both _ _ (both _ _ (both _ _ (lt-ltb m.id (2 ^ 31) s.spelling.is_message.id_in_range) (right _ _ h)) (left _ _ h)) (rest_small (Connection n) bytes m s)

-- one more of each
all_more : (test : Message → Bool) (ms : List Message) (m : Message) → list_all test ms ≡ true → test m ≡ true → list_all test (ms ++ m ∷ []) ≡ true
all_more test ms m h k = list_all-append test ms (m ∷ []) ∙ both _ _ h (both (test m) true k refl)

ids_more : (ms : List Message) (m : Message) → are_distinct (map (λ k. k.id) ms) ≡ true → waits ms m.id ≡ false → are_distinct (map (λ k. k.id) (ms ++ m ∷ [])) ≡ true
ids_more ms m h free = ap are_distinct (map-append (λ k. k.id) ms (m ∷ [])) ∙ distinct_more (map (λ k. k.id) ms) m.id h (any-map (λ n. n == m.id) (λ k. k.id) ms ∙ free)

request_waits : (p : PlayState) (n : ℕ) (bytes : List ℕ) (m : Message) → MayWait p → SpellsWithin (limit_of (Client n)) bytes m → may_be_fed p (Client n) m ≡ true → MayWait (fed_with p (Client n) m)
request_waits p n bytes m h s may = record {
  arrived = ap (λ b. are_none (p.requests ++ m ∷ []) || b) (right (n == 1) p.world.arrived (left _ _ may)) ∙ or-true (are_none (p.requests ++ m ∷ []));
  linked = h.linked;
  requests = all_more (may_request p.world) p.requests m h.requests (fed_request p n bytes m s (left _ _ fits));
  distinct = ids_more p.requests m h.distinct (not-true (waits p.requests m.id) (right _ _ fits));
  answers = h.answers;
}
  where
    fits : (not (m.id == 0) && is_one_element 0x4A m.rest && not (uses p.world m.id) && not (waits p.requests m.id)) ≡ true
    fits = right (n == 1 && p.world.arrived) _ may

answer_waits : (p : PlayState) (n : ℕ) (bytes : List ℕ) (m : Message) → MayWait p → SpellsWithin (limit_of (Connection n)) bytes m → may_be_fed p (Connection n) m ≡ true → MayWait (fed_with p (Connection n) m)
answer_waits p n bytes m h s may = record {
  arrived = h.arrived;
  linked = ap (λ b. are_none (p.answers ++ m ∷ []) || b) (right (n == 1) (is_linked_state p.world.link) (left _ _ may)) ∙ or-true (are_none (p.answers ++ m ∷ []));
  requests = h.requests;
  distinct = h.distinct;
  answers = all_more (may_answer p.world) p.answers m h.answers (fed_answer p n bytes m s (right (n == 1 && is_linked_state p.world.link) _ may));
}

pub fed_waits : (p : PlayState) (part : PartName) (bytes : List ℕ) (m : Message) → MayWait p → SpellsWithin (limit_of part) bytes m → may_be_fed p part m ≡ true → MayWait (fed_with p part m)
fed_waits p Desk bytes m h s may = h
fed_waits p (Client n) bytes m h s may = request_waits p n bytes m h s may
fed_waits p (Connection n) bytes m h s may = answer_waits p n bytes m h s may

-- nothing else changes where a part begins, and nothing may wait in any world
pub begun_waits : (p : PlayState) (part : PartName) → MayWait p → MayWait (record p { world = begun p.world part })
begun_waits p Desk h = h
begun_waits p (Client n) h = record { arrived = or-true (are_none p.requests); linked = h.linked; requests = h.requests; distinct = h.distinct; answers = h.answers }
begun_waits p (Connection n) h = record { arrived = h.arrived; linked = or-true (are_none p.answers); requests = h.requests; distinct = h.distinct; answers = h.answers }

pub none_waits : (w : WorldState) → MayWait (record { world = w; requests = []; answers = [] })
none_waits w = record { arrived = refl; linked = refl; requests = refl; distinct = refl; answers = refl }

-- when the desk has heard what is news, the requests that wait may be taken, and then the answers
heard_all : (l : Link) → is_unheard (heard_link l) ≡ false
heard_all NotLinked = refl
heard_all Unheard = refl
heard_all Heard = refl

linked_still : (l : Link) → is_linked_state (heard_link l) ≡ is_linked_state l
linked_still NotLinked = refl
linked_still Unheard = refl
linked_still Heard = refl

pub heard_may : (p : PlayState) (v : WorldState) → MayWait p → v ≡ record p.world { link = heard_link p.world.link } → MayTakeEach v (Client 1) p.requests
heard_may p v h e = subst (λ x. MayTakeEach x (Client 1) p.requests) (sym e) (requests_may (record p.world { link = heard_link p.world.link }) p.requests h.arrived (heard_all p.world.link) h.requests h.distinct)

answers_follow : (p : PlayState) → MayWait p → let v : WorldState = record p.world { link = heard_link p.world.link } in MayTakeEach (after_each v (Client 1) p.requests) (Connection 1) p.answers
answers_follow p h = answers_may (after_each v (Client 1) p.requests) p.answers (ap (λ l. are_none p.answers || is_linked_state l) link ∙ ap (λ b. are_none p.answers || b) (linked_still p.world.link) ∙ h.linked) (ap is_unheard link ∙ heard_all p.world.link) (answers_behind p.world (after_each v (Client 1) p.requests) p.answers (requests_given v p.requests) h.answers)
  where
    v : WorldState
    v = record p.world { link = heard_link p.world.link }

    link : (after_each v (Client 1) p.requests).link ≡ heard_link p.world.link
    link = requests_link v p.requests

pub taken_may : (p : PlayState) (v w : WorldState) → MayWait p → v ≡ record p.world { link = heard_link p.world.link } → w ≡ after_each v (Client 1) p.requests → MayTakeEach w (Connection 1) p.answers
taken_may p v w h e f = subst (λ x. MayTakeEach x (Connection 1) p.answers) (sym (f ∙ ap (λ x. after_each x (Client 1) p.requests) e)) (answers_follow p h)
