-- A success that was kept back goes out only with a readable identity, by the family.
use Rattle.std.proofs.Common.{◌≡◌, ℕ, Bool, true, false, ◌==◌, ◌&&◌, ◌||◌, not, List, [], ◌∷◌, ◌++◌, length, arith, refl, ap, ◌∙◌, sym, subst}
use Rattle.std.specs.Prelude.{Option, Some, None, map, nat_le, if◌then◌else◌}
use Rattle.std.specs.List.{list_any, list_all}
use Rattle.std.specs.Str.{bytes_eq}
use Rattle.std.proofs.lemmas.Bool.Decides.{nat_tests}
use Rattle.std.proofs.lemmas.List.Folds.{list_all-append}
use Rattle.std.proofs.lemmas.Slice.Eq.{bytes_eq-Decides}
use Rattle.ldap_spec.specs.Bodies.{cancel_answer, refusal}
use Rattle.ldap_spec.specs.Kinds.{kind_of, same_kind}
use Rattle.ldap_spec.specs.Requests.{is_cancel}
use Rattle.ldap_spec.specs.Responses.{has_code, tells_who}
use Rattle.ldap_spec.specs.Tags.{success}
use Rattle.lload_names.specs.declared.names.ConnKind.{ConnKind}
use Rattle.lload_names.specs.declared.names.ConnKind.TheVariants.{Bind as BindKind, Regular}
use Rattle.lload_names.specs.declared.names.Entry.{Entry}
use Rattle.lload_names.specs.declared.names.Letter.{Letter}
use Rattle.lload_names.specs.declared.names.Letter.TheVariants.{Reply}
use Rattle.lload_names.specs.declared.names.OpKind.{OpKind}
use Rattle.lload_names.specs.declared.names.OpKind.TheVariants.{Bind}
use Rattle.lload_names.specs.declared.names.PartName.{PartName}
use Rattle.lload_names.specs.declared.names.PartName.TheVariants.{Client, Up as Connection}
use Rattle.lload_names.specs.declared.names.Posted.{Posted}
use Rattle.lload_names.specs.declared.names.Refusal.{Refusal}
use Rattle.lload_names.specs.declared.plans.Place.{Place}
use Rattle.lload_spec.specs.Answers.{Sending, all_sendings, asks_who, closing, closing_at, sendings, sendings_at, sendings_of}
use Rattle.lload_spec.specs.Entries.{is_of_connection}
use Rattle.lload_spec.specs.Fifo.{allowed, cancel_answers, is_own_answer, is_prefix_and_own, is_sent_once, own_answers_of, refusals}
use Rattle.lload_spec.specs.Journal.{Family, IsWhole, same_op, same_part}
use Rattle.lload_spec.specs.Lists.{first, implies, is_prefix, passes}
use Rattle.lload_spec.specs.Operations.{Operation, all_operations, is_final_for, is_final_to, is_request_of, is_simple_bind, operation, operations, outs}
use Rattle.ldap_spec.specs.Requests.{request}
use Rattle.lload_spec.specs.Settings.{Settings, is_kind, is_of_kind, place_at}
use Rattle.lload_spec.specs.Strict.{got_kept_success, is_success_known, is_unknown_rightly, lives_as_connection}
use Rattle.lload_spec.proofs.Growth.{left, right, both}
use Rattle.lload_laws.proofs.ListLaws.{all_both, all_imply, any-filter, any-map, any_imply, found, implied, implies_by}
use Rattle.part_laws.proofs.ListLaws.{all_kept, any_before, any_behind, any_split, false_by, or_elim, or_left, or_right, same_number, same_op_eq}
use Rattle.part_spec.specs.Fit.{empty_connection_ledger}
use Rattle.part_spec.specs.Gives.{gives}
use Rattle.part_spec.specs.Laws.{FitIsWhole}
use Rattle.part_spec.specs.Marked.{Marked, entries, letters_to}
use Rattle.part_spec.specs.Share.{ClientShare, ConnectionShare, is_answered_by, replies}
use Rattle.client_answer_laws.proofs.Owns.{cancel_no_bind, refusal_own}
use Rattle.joined_laws.proofs.Choices.{split_right}
use Rattle.fifo_laws.specs.Laws.{FifoSentOnce}
use Rattle.answer_laws.proofs.Rests.{rests}
use Rattle.carried_laws.specs.Laws.{ForwardsAreRight, Played}
use Rattle.carried_laws.proofs.RegularReplies.{same_kind_eq}
use Rattle.caused_laws.specs.Laws.{BindConnectionsSay}
use Rattle.rows_laws.proofs.Regular.{known_at_each}
use Rattle.upstream_laws.proofs.Heads.{bind_heads}
use Rattle.upstream_laws.proofs.Places.{placeless}
use Rattle.told_laws.specs.Laws.{OwnAnswersAreCaused}
use Rattle.told_laws.proofs.Letters.{letters_for, of_operation, replies_are}
use Rattle.told_laws.proofs.Refusals.{each_operation}
use Rattle.told_laws.proofs.Sources.{home, letters_begin}
use Rattle.late_laws.specs.Laws.{SuccessesAreKnown}
use Rattle.late_laws.proofs.Settles.{bind_settled, is_known_success, is_settled_known, is_success_settled, regular_settled}

-- what is so of all letters is so of those to a part
pub all_to : (t : Letter → Bool) (p : PartName) (xs : List Posted) → list_all (λ x. t x.letter) xs ≡ true → list_all t (letters_to p xs) ≡ true
all_to t p [] h = refl
all_to t p (x ∷ xs) h = by (same_part p x.to) (left (t x.letter) _ h) (all_to t p xs (right (t x.letter) _ h))
  where
    by : (b : Bool) → t x.letter ≡ true → list_all t (letters_to p xs) ≡ true → list_all t ((elim b [ true ↦ x.letter ∷ [] | false ↦ [] ]) ++ letters_to p xs) ≡ true
    by true k ih = both (t x.letter) _ k ih
    by false k ih = ih

-- Where some Out passes a test that no answer of the proxy's own passes, some answer does.
module _ (t : List ℕ → Bool) where
  prefix_any : (rs as' : List (List ℕ)) → is_prefix rs as' ≡ true → list_any t rs ≡ true → list_any t as' ≡ true
  prefix_any [] as' p h = absurd (let bad : false ≡ true = h in cc)
  prefix_any (r ∷ rs) [] p h = absurd (let bad : false ≡ true = p in cc)
  prefix_any (r ∷ rs) (a ∷ as') p h = or_elim (t r) (list_any t rs) (λ k. or_left (t a) _ (subst (λ v. t v ≡ true) ((bytes_eq-Decides r a).0 (left (bytes_eq r a) _ p)) k)) (λ k. or_right (t a) _ (prefix_any rs as' (right (bytes_eq r a) _ p) k)) h

  module _ (request : List ℕ) (own : (r : List ℕ) → is_own_answer request r ≡ true → t r ≡ false) where
    own_any : (rs as' : List (List ℕ)) → is_prefix_and_own request as' rs ≡ true → list_any t rs ≡ true → list_any t as' ≡ true
    own_any [] as' p h = absurd (let bad : false ≡ true = p in cc)
    own_any (r ∷ []) as' p h = absurd (let bad : false ≡ true = sym (ap (λ b. b || false) (own r p)) ∙ h in cc)
    own_any (r ∷ q ∷ rs) [] p h = absurd (let bad : false ≡ true = p in cc)
    own_any (r ∷ q ∷ rs) (a ∷ as') p h = or_elim (t r) (list_any t (q ∷ rs)) (λ k. or_left (t a) _ (subst (λ v. t v ≡ true) ((bytes_eq-Decides r a).0 (left (bytes_eq r a) _ (left (bytes_eq r a && not (is_final_to request a)) _ p))) k)) (λ k. or_right (t a) _ (own_any (q ∷ rs) as' (right (bytes_eq r a && not (is_final_to request a)) _ p) k)) h

    pub answered_any : (rs as' : List (List ℕ)) → allowed request as' rs ≡ true → list_any t rs ≡ true → list_any t as' ≡ true
    answered_any rs as' p h = or_elim (is_prefix rs as') (is_prefix_and_own request as' rs) (λ k. prefix_any rs as' k h) (λ k. own_any rs as' k h) p

-- No answer of the proxy's own to a Bind is a success.
module _ (s : Settings) (o : Operation) (asks : asks_who s o ≡ true) where
  is_bind : is_request_of Bind o.request ≡ true
  is_bind = right s.proxies_authorization _ (left (s.proxies_authorization && is_request_of Bind o.request) (not (passes is_simple_bind (request o.request.rest))) asks)

  kind_is : kind_of o.request.rest ≡ Some Bind
  kind_is = by (kind_of o.request.rest) is_bind
    where
      by : (k : Option OpKind) → passes (same_kind Bind) k ≡ true → k ≡ Some Bind
      by None h = absurd (let bad : false ≡ true = h in cc)
      by (Some k) h = ap Some (sym (same_kind_eq Bind k h))

  no_cancel : is_cancel o.request.rest ≡ false
  no_cancel = false_by (is_cancel o.request.rest) (λ k. sym (cancel_no_bind o.request k) ∙ is_bind)

  refused : (which : Refusal) → has_code success (refusal Bind which) ≡ false
  refused which = sym (ap (λ b. b && has_code success (refusal Bind which)) asks) ∙ (refusal_own s o.request Bind which kind_is).unknown

  no_code : (r : List ℕ) (ws : List Refusal) → list_any (λ w. bytes_eq r (refusal Bind w)) ws ≡ true → has_code success r ≡ false
  no_code r [] h = absurd (let bad : false ≡ true = h in cc)
  no_code r (w ∷ ws) h = or_elim (bytes_eq r (refusal Bind w)) (list_any (λ v. bytes_eq r (refusal Bind v)) ws) (λ k. ap (has_code success) ((bytes_eq-Decides r (refusal Bind w)).0 k) ∙ refused w) (no_code r ws) h

  own_unknown : (r : List ℕ) → is_own_answer o.request.rest r ≡ true → (is_final_for o.request r && has_code success r) ≡ false
  own_unknown r h = ap (λ b. is_final_for o.request r && b) (any_split (bytes_eq r) (map (refusal Bind) refusals) [] (λ k. no_code r refusals (sym (any-map (bytes_eq r) (refusal Bind) refusals) ∙ k)) (λ k. absurd (let bad : false ≡ true = k in cc)) (sym among ∙ h)) ∙ never (is_final_for o.request r)
    where
      among : is_own_answer o.request.rest r ≡ list_any (bytes_eq r) (map (refusal Bind) refusals ++ [])
      among = ap (λ k. list_any (bytes_eq r) (elim k [ None ↦ [] | Some kind' ↦ own_answers_of kind' o.request.rest ])) kind_is ∙ ap (λ b. list_any (bytes_eq r) (map (refusal Bind) refusals ++ ([] ++ (elim b [ true ↦ map (cancel_answer Bind) cancel_answers | false ↦ [] ])))) no_cancel

      never : (b : Bool) → (b && false) ≡ false
      never true = refl
      never false = refl

-- of one at most, the one that passes is the first
pub first_of_one : (t : Sending → Bool) (xs : List Sending) → nat_le (length xs) 1 ≡ true → list_any t xs ≡ true → passes t (first xs) ≡ true
first_of_one t [] h k = k
first_of_one t (x ∷ []) h k = or_elim (t x) false (λ j. j) (λ j. absurd (let bad : false ≡ true = j in cc)) k
first_of_one t (x ∷ y ∷ xs) h k = absurd (grind (arith, nat_tests, h))

-- a Sent of a connection is among all
pub sent_among : (F : Family) → IsWhole F → (t : Sending → Bool) (u : ℕ) → list_any t (sendings u (F.connection u)) ≡ true → list_any t (all_sendings F) ≡ true
sent_among F whole t u h = by (list_any (λ n. n == u) F.connections) refl
  where
    at : (us : List ℕ) → list_any (λ n. n == u) us ≡ true → list_any t (sendings_at F us) ≡ true
    at [] k = absurd (let bad : false ≡ true = k in cc)
    at (n ∷ us) k = or_elim (n == u) (list_any (λ m. m == u) us) (λ j. any_before t (sendings n (F.connection n)) (sendings_at F us) (subst (λ v. list_any t (sendings v (F.connection v)) ≡ true) (sym (same_number n u j)) h)) (λ j. any_behind t (sendings n (F.connection n)) (sendings_at F us) (at us j)) k

    by : (b : Bool) → list_any (λ n. n == u) F.connections ≡ b → list_any t (all_sendings F) ≡ true
    by true k = at F.connections k
    by false k = absurd (let bad : false ≡ true = sym (ap (λ l. list_any t (sendings u l)) (whole.connections_named u k)) ∙ h in cc)

-- a connection of neither kind has no place
no_place : (s : Settings) (u : ℕ) → is_of_kind s BindKind u ≡ false → is_of_kind s Regular u ≡ false → place_at s u ≡ None
no_place s u a b = by (place_at s u) a b
  where
    by : (q : Option Place) → (elim q [ None ↦ false | Some x ↦ is_kind BindKind x.kind ]) ≡ false → (elim q [ None ↦ false | Some x ↦ is_kind Regular x.kind ]) ≡ false → q ≡ None
    by None h k = refl
    by (Some q) h k = absurd (sort q.kind h k)
      where
        sort : (c : ConnKind) → is_kind BindKind c ≡ false → is_kind Regular c ≡ false → ⊥
        sort BindKind i j = let bad : true ≡ false = i in cc
        sort Regular i j = let bad : true ≡ false = j in cc

module _ (rightly : ForwardsAreRight) (fits : FitIsWhole) (says : BindConnectionsSay) (s : Settings) (F : Family) (marked : PartName → List Marked) (h : Played s F marked) where
  connection : (u : ℕ) → ConnectionShare s u (marked (Connection u))
  connection u = h.joined.shared.shares (Connection u)

  -- what a connection gives
  given_settled : (u : ℕ) → list_all (λ x. is_success_settled s F (sendings u (F.connection u)) x.letter) (gives s (Connection u) (marked (Connection u))) ≡ true
  given_settled u = by (is_of_kind s BindKind u) (is_of_kind s Regular u) refl refl
    where
      by : (a b : Bool) → is_of_kind s BindKind u ≡ a → is_of_kind s Regular u ≡ b → list_all (λ x. is_success_settled s F (sendings u (F.connection u)) x.letter) (gives s (Connection u) (marked (Connection u))) ≡ true
      by true b i j = bind_settled s F u i (F.connection u) (marked (Connection u)) [] (empty_connection_ledger s u) (h.joined.shared.same_entries (Connection u)) (bind_heads says s F marked h u i) (split_right (λ place (x : Entry) behind. is_of_connection x.what) (λ place (x : Entry) behind. lives_as_connection place x) [] (entries (marked (Connection u))) (connection u).life)
      by false true i j = regular_settled s F u (sendings u (F.connection u)) (marked (Connection u)) [] (empty_connection_ledger s u) (known_at_each rightly fits s F marked h u j)
      by false false i j = subst (λ l. list_all (λ x. is_success_settled s F (sendings u (F.connection u)) x.letter) (gives s (Connection u) l) ≡ true) (sym (placeless s u (no_place s u i j) (h.connections u).events) ∙ (h.connections u).same) refl

  module _ (o : Operation) (there : operation F o.name ≡ Some o) where
    abbrev list : List Marked
    list = marked (Client o.name.client)

    abbrev at : ℕ
    at = home s F marked h.joined o.name

    abbrev sents : List Sending
    sents = sendings (home s F marked h.joined o.name) (F.connection (home s F marked h.joined o.name))

    client : ClientShare s o.name.client list
    client = h.joined.shared.shares (Client o.name.client)

    answered : allowed o.request.rest (replies list o.name) (outs o) ≡ true
    answered = found (is_answered_by list) (λ q. same_op o.name q.name) (operations o.name.client (F.client o.name.client)) o there (subst (λ l. list_all (is_answered_by list) (operations o.name.client l) ≡ true) (h.joined.shared.same_entries (Client o.name.client)) client.answered)

    taken_settled : list_all (is_success_settled s F sents) (letters_for o.name list) ≡ true
    taken_settled =
        let begun = letters_begin s F marked h.joined o.name in
        left (list_all (is_success_settled s F sents) (letters_for o.name list)) _ (sym (list_all-append (is_success_settled s F sents) (letters_for o.name list) begun.0) ∙ sym (ap (list_all (is_success_settled s F sents)) begun.1) ∙ all_kept (is_success_settled s F sents) (of_operation o.name) (letters_to (Client o.name.client) (gives s (Connection at) (marked (Connection at)))) (all_to (is_success_settled s F sents) (Client o.name.client) (gives s (Connection at) (marked (Connection at))) (given_settled at)))

    abbrev kept : List ℕ → Bool
    kept r = is_final_for o.request r && has_code success r

    -- a success among answers
    one_settled : (asks : asks_who s o ≡ true) (xs : List Letter) → list_all (is_success_settled s F sents) xs ≡ true → list_any kept (rests o.name xs) ≡ true → list_any (is_settled_known s o.name o) sents ≡ true
    one_settled asks [] k j = absurd (let bad : false ≡ true = j in cc)
    one_settled asks (Reply q rest is_last who ∷ xs) k j = by (same_op o.name q) refl j (one_settled asks xs (right (passes (is_known_success s q rest sents) (operation F q)) _ k))
      where
        here : same_op o.name q ≡ true → kept rest ≡ true → list_any (is_settled_known s o.name o) sents ≡ true
        here e i = implied (asks_who s o && kept rest) (list_any (is_settled_known s o.name o) sents) (sym (ap (passes (is_known_success s o.name rest sents)) there) ∙ subst (λ n. passes (is_known_success s n rest sents) (operation F n) ≡ true) (sym (same_op_eq o.name q e)) (left (passes (is_known_success s q rest sents) (operation F q)) _ k)) (both (asks_who s o) _ asks i)

        by : (b : Bool) → same_op o.name q ≡ b → list_any kept ((if b then rest ∷ [] else []) ++ rests o.name xs) ≡ true → (list_any kept (rests o.name xs) ≡ true → list_any (is_settled_known s o.name o) sents ≡ true) → list_any (is_settled_known s o.name o) sents ≡ true
        by true e i ih = or_elim (kept rest) (list_any kept (rests o.name xs)) (here e) ih i
        by false e i ih = ih i
    one_settled asks (_ ∷ xs) k j = one_settled asks xs k j

    -- what settles it tells an identity
    tells : asks_who s o ≡ true → list_any kept (outs o) ≡ true → nat_le (length (sendings_of F o.name)) 1 ≡ true → passes tells_who (closing s F o) ≡ true
    tells asks got few =
        let taken : list_any kept (rests o.name (letters_for o.name list)) ≡ true = sym (ap (list_any kept) (replies_are o.name list)) ∙ answered_any kept o.request.rest (own_unknown s o asks) (outs o) (replies list o.name) answered got in
        let among : list_any (is_settled_known s o.name o) (all_sendings F) ≡ true = sent_among F h.whole (is_settled_known s o.name o) at (one_settled asks (letters_for o.name list) taken_settled taken) in
        let own : list_any (is_settled_known s o.name o) (sendings_of F o.name) ≡ true = any-filter (is_settled_known s o.name o) (λ x. same_op o.name x.op) (all_sendings F) ∙ any_imply (is_settled_known s o.name o) (λ x. same_op o.name x.op && is_settled_known s o.name o x) (all_sendings F) (λ x k. both (same_op o.name x.op) _ (left (same_op o.name x.op) _ k) k) among in
        by (first (sendings_of F o.name)) (first_of_one (is_settled_known s o.name o) (sendings_of F o.name) few own)
      where
        by : (q : Option Sending) → passes (is_settled_known s o.name o) q ≡ true → passes tells_who (elim q [ None ↦ None | Some sent ↦ closing_at s o sent ]) ≡ true
        by None k = k
        by (Some sent) k = right (same_op o.name sent.op) _ k

    pub known_once : implies (is_sent_once F o) (is_success_known s F o) ≡ true
    known_once = implies_by (is_sent_once F o) _ (λ few. implies_by (got_kept_success s o) _ (λ got. tells (left (asks_who s o) _ got) (right (asks_who s o) _ got) few))

pub successes_known : FifoSentOnce → ForwardsAreRight → FitIsWhole → BindConnectionsSay → OwnAnswersAreCaused → SuccessesAreKnown
successes_known once rightly fits says caused s F marked h =
    all_both (is_success_known s F) (is_unknown_rightly s F) (all_operations F)
    (all_imply (λ o. implies (is_sent_once F o) (is_success_known s F o) && is_sent_once F o) (is_success_known s F) (all_operations F) (λ o k. implied (is_sent_once F o) (is_success_known s F o) (left (implies (is_sent_once F o) (is_success_known s F o)) _ k) (right (implies (is_sent_once F o) (is_success_known s F o)) _ k))
    (all_both (λ o. implies (is_sent_once F o) (is_success_known s F o)) (is_sent_once F) (all_operations F) (each_operation F (λ o. implies (is_sent_once F o) (is_success_known s F o)) (known_once rightly fits says s F marked h) F.clients) (once s F marked h.whole h.joined)))
    (caused s F marked h).asked
