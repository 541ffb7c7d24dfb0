-- The Bind that holds its connection, behind an entry more: it holds still, where the entry doesn't settle it.
use Rattle.std.proofs.Common.{◌≡◌, inl, inr, ℕ, Bool, true, false, ◌==◌, ◌&&◌, ◌||◌, not, List, [], ◌∷◌, ◌++◌, refl, ap, ◌∙◌, sym, subst}
use Rattle.std.specs.Prelude.{Option, Some, None, if◌then◌else◌, is_none, is_some}
use Rattle.std.specs.List.{list_any}
use Rattle.std.specs.Option.{option_and_then, option_map, option_or}
use Rattle.ldap_spec.specs.Bodies.{who_am_i}
use Rattle.ldap_spec.specs.Kinds.{fits, is_final, is_intermediate, is_search_result, kind_of, same_kind, tag_of}
use Rattle.ldap_spec.specs.Messages.{Message}
use Rattle.ldap_spec.specs.Responses.{has_code, result_code}
use Rattle.lload_names.specs.declared.names.EndWhy.TheVariants.{Bad}
use Rattle.lload_names.specs.declared.names.Entry.{Entry}
use Rattle.lload_names.specs.declared.names.OpKind.TheVariants.{Bind, Search}
use Rattle.lload_names.specs.declared.names.PartName.{PartName}
use Rattle.lload_names.specs.declared.names.What.TheVariants as what
use Rattle.lload_spec.specs.Answers.{Final, Sending, answer_of, asks_who, closing_at, closing_by, extended_rest, extended_under, final_answer, final_under, gives_id, is_kept_back, is_left_in_progress, who_answer, who_id}
use Rattle.lload_spec.specs.CausedUp.{is_holding}
use Rattle.lload_spec.specs.Entries.{got_message, is_down, is_own}
use Rattle.lload_spec.specs.Journal.{Family}
use Rattle.lload_spec.specs.Lists.{first_passes, passes}
use Rattle.lload_spec.specs.Operations.{Operation, is_final_for, is_of}
use Rattle.lload_spec.specs.Settings.{Settings}
use Rattle.lload_spec.proofs.Growth.{left, right, both}
use Rattle.lload_laws.specs.ConnectionGrowth.{later_sending}
use Rattle.lload_laws.proofs.ListLaws.{bytes_same}
use Rattle.part_laws.proofs.ListLaws.{eqb_sym, none_of_both, not_true, or_elim, or_left, or_right}
use Rattle.part_spec.specs.ConnectionState.{Kept, UpRow, behind_message, is_bind_row, is_under, is_under_who, keeps_back, lets_go}
use Rattle.part_spec.specs.Share.{succeeds}
use Rattle.connection_laws.proofs.Closings.{extended_push, final_more, final_push}
use Rattle.bind_laws.proofs.Gots.{Comes, live_got}
use Rattle.bind_laws.proofs.Meets.{bind_kind}
use Rattle.bind_laws.proofs.Sents.{IsAnswered, IsLive, any_next}
use Rattle.upstream_laws.proofs.Held.{is_letting}

-- Without a message nothing is settled.

final_quiet : (request : Message) (id : ℕ) (es : List Entry) (e : Entry) → got_message e.what ≡ None → final_under request id es ≡ None → final_under request id (es ++ e ∷ []) ≡ None
final_quiet request id [] e none h = by (gives_id id e)
  where
    text : Bool → Option (List ℕ) → Option Final
    text b a = if b then None else if passes (is_final_for request) a then option_map (λ r. record { rest = r; behind = [] }) a else None

    answered : Option Message → Option (List ℕ)
    answered g = elim g [ None ↦ None | Some m ↦ if m.id == id && passes (λ kind. fits kind m.rest) (kind_of request.rest) then Some m.rest else None ]

    by : (b : Bool) → text b (answer_of request id e) ≡ None
    by true = refl
    by false = ap (λ g. text false (answered g)) none
final_quiet request id (x ∷ es) e none h = by (gives_id id x) (passes (is_final_for request) (answer_of request id x)) (answer_of request id x) h (final_quiet request id es e none)
  where
    text : Bool → Bool → Option (List ℕ) → List Entry → Option Final → Option Final
    text b f a behind later = if b then None else if f then option_map (λ r. record { rest = r; behind = behind }) a else later

    by : (b f : Bool) (a : Option (List ℕ)) → text b f a es (final_under request id es) ≡ None → (final_under request id es ≡ None → final_under request id (es ++ e ∷ []) ≡ None) → text b f a (es ++ e ∷ []) (final_under request id (es ++ e ∷ [])) ≡ None
    by true f a k ih = refl
    by false true None k ih = refl
    by false true (Some r) k ih = absurd (let bad : Some (record { rest = r; behind = es }) ≡ None = k in cc)
    by false false a k ih = ih k

abbrev Untold : Option (List ℕ) → Type 0
Untold o = o ≡ None

who_quiet : (es : List Entry) (e : Entry) → got_message e.what ≡ None → who_answer es ≡ None → who_answer (es ++ e ∷ []) ≡ None
who_quiet [] e none h = by (who_id (e ∷ []))
  where
    by : (o : Option ℕ) → Untold (elim o [ None ↦ None | Some id ↦ extended_under id (e ∷ []) ])
    by None = refl
    by (Some id) = ap (λ g. option_or (option_and_then (extended_rest id) g) None) none
who_quiet (x ∷ es) e none h = by (who_id (x ∷ es)) h
  where
    by : (o : Option ℕ) → Untold (elim o [ None ↦ None | Some id ↦ extended_under id (x ∷ es) ]) → Untold (elim o [ None ↦ None | Some id ↦ extended_under id ((x ∷ es) ++ e ∷ []) ])
    by None k = refl
    by (Some id) k = extended_push id (x ∷ es) e ∙ ap (λ o. option_or o (extended_under id (e ∷ []))) k ∙ ap (λ g. option_or (option_and_then (extended_rest id) g) None) none

none_is : {A : Type 0} (o : Option A) → is_none o ≡ true → o ≡ None
none_is None h = refl
none_is (Some x) h = absurd (let bad : false ≡ true = h in cc)

module _ (s : Settings) (o : Operation) (x : Sending) (e : Entry) where
  abbrev held : Sending → Bool
  held y = is_none (closing_at s o y) || is_left_in_progress o y

  -- an answer of saslBindInProgress stays
  progress_stays : is_left_in_progress o x ≡ true → is_left_in_progress o (later_sending e x) ≡ true
  progress_stays h = by (final_answer o x) refl h
    where
      by : (f : Option Final) → final_answer o x ≡ f → passes (λ q. has_code 14 q.rest) f ≡ true → is_left_in_progress o (later_sending e x) ≡ true
      by None z k = absurd (let bad : false ≡ true = k in cc)
      by (Some f) z k = ap (passes (λ q. has_code 14 q.rest)) (final_more o.request x.id x.behind e f z) ∙ k

  closing_quiet : got_message e.what ≡ None → closing_at s o x ≡ None → closing_at s o (later_sending e x) ≡ None
  closing_quiet none h = by (final_answer o x) refl h
    where
      closing_of : Option Final → Option (List ℕ)
      closing_of f = elim f [ None ↦ None | Some q ↦ closing_by s o q ]

      settles : (a b : Bool) (rest : List ℕ) (es : List Entry) → (if a then None else if b then who_answer es else Some rest) ≡ None → (if a then None else if b then who_answer (es ++ e ∷ []) else Some rest) ≡ None
      settles true b rest es k = refl
      settles false true rest es k = who_quiet es e none k
      settles false false rest es k = absurd (let bad : Some rest ≡ None = k in cc)

      by : (f : Option Final) → final_answer o x ≡ f → closing_of f ≡ None → closing_at s o (later_sending e x) ≡ None
      by None z k = ap closing_of (final_quiet o.request x.id x.behind e none z)
      by (Some f) z k = ap closing_of (final_more o.request x.id x.behind e f z) ∙ settles (is_of Bind o && is_none (result_code f.rest)) (is_kept_back (asks_who s o) f.rest) f.rest f.behind k

  -- where the entry lets no holder go, it holds as long as it isn't settled
  holds_by : is_letting e ≡ false → is_holding s o x ≡ true → held (later_sending e x) ≡ true → is_holding s o (later_sending e x) ≡ true
  holds_by stays h k = both (not (list_any is_letting (x.behind ++ e ∷ []))) _ (ap not (none_of_both is_letting x.behind (e ∷ []) (not_true (list_any is_letting x.behind) (left (not (list_any is_letting x.behind)) _ h)) (ap (λ b. b || false) stays))) k

  pub holds_quiet : got_message e.what ≡ None → is_letting e ≡ false → is_holding s o x ≡ true → is_holding s o (later_sending e x) ≡ true
  holds_quiet none stays h =
      holds_by stays h
      (or_elim (is_none (closing_at s o x)) (is_left_in_progress o x)
      (λ k. or_left (is_none (closing_at s o (later_sending e x))) _ (ap is_none (closing_quiet none (none_is (closing_at s o x) k))))
      (λ k. or_right (is_none (closing_at s o (later_sending e x))) _ (progress_stays k))
      (right (not (list_any is_letting x.behind)) _ h))

  -- one that is settled, and holds, was answered with saslBindInProgress
  pub holds_settled : is_letting e ≡ false → is_some (closing_at s o x) ≡ true → is_holding s o x ≡ true → is_holding s o (later_sending e x) ≡ true
  holds_settled stays closed h =
      holds_by stays h
      (or_right (is_none (closing_at s o (later_sending e x))) _
      (progress_stays (by (closing_at s o x) closed (right (not (list_any is_letting x.behind)) _ h))))
    where
      by : (q : Option (List ℕ)) → is_some q ≡ true → (is_none q || is_left_in_progress o x) ≡ true → is_left_in_progress o x ≡ true
      by None k j = absurd (let bad : false ≡ true = k in cc)
      by (Some r) k j = j

-- A message that doesn't let the holder go.
module _ (s : Settings) (F : Family) (n : ℕ) (r : UpRow) (x : Sending) (l : IsLive s F n r x []) (bind : is_bind_row r ≡ true) (part : PartName) (at : ℕ) (m : Message) (stays : lets_go m r ≡ false) where
  abbrev got : Entry
  got = record { part = part; at = at; what = what.Got m.id m.rest }

  sort : r.kind ≡ Bind
  sort = bind_kind r.kind bind

  -- where its row is gone, the answer is saslBindInProgress
  record Gone : Type 0 where
    under : is_under m.id r ≡ true
    final : is_final Bind m.rest ≡ true
    code : has_code 14 m.rest ≡ true

  gone : behind_message at m r ≡ [] → Gone
  gone none = by (is_under m.id r) (fits r.kind m.rest) (is_final r.kind m.rest) (is_bind_row r) (keeps_back r m.rest) (result_code m.rest) (is_under_who m.id r) (tag_of m.rest == 0x78) (has_code 14 m.rest) refl refl bind refl none (ap (λ k. lets (is_bind_row r) (is_under m.id r) (is_final k m.rest) (result_code m.rest) (has_code 14 m.rest) (keeps_back r m.rest) (is_under_who m.id r) (tag_of m.rest == 0x78)) sort ∙ stays)
    where
      rows : Bool → Bool → Bool → Bool → Bool → Option ℕ → Bool → Bool → List UpRow
      rows under f g b back code who ext =
          elim under [
            | true ↦ elim f [ false ↦ r ∷ [] | true ↦ elim g [ true ↦ elim b [ false ↦ [] | true ↦ elim back [ true ↦ record r { answered = at; kept = Some (record { rest = m.rest; who = None }) } ∷ [] | false ↦ elim (is_none code) [ true ↦ record r { answered = at } ∷ [] | false ↦ [] ] ] ] | false ↦ record r { answered = at } ∷ [] ] ]
            | false ↦ elim who [ true ↦ elim ext [ true ↦ [] | false ↦ record r { answered = at } ∷ [] ] | false ↦ r ∷ [] ]
          ]

      lets : Bool → Bool → Bool → Option ℕ → Bool → Bool → Bool → Bool → Bool
      lets b under g code c back who ext = b && (under && (g && is_some code && not c && not back) || who && ext)

      empty : {C : Type 0} (q : UpRow) → q ∷ [] ≡ [] → C
      empty q e = absurd (let bad : q ∷ [] ≡ [] = e in cc)

      by : (under f g b back : Bool) (code : Option ℕ) (who ext c : Bool) → is_under m.id r ≡ under → is_final r.kind m.rest ≡ g → b ≡ true → has_code 14 m.rest ≡ c → rows under f g b back code who ext ≡ [] → lets b under g code c back who ext ≡ false → Gone
      by under f g false back code who ext c x y z w e k = absurd (let bad : false ≡ true = z in cc)
      by false f g true back code false ext c x y z w e k = empty r e
      by false f g true back code true true c x y z w e k = absurd (let bad : true ≡ false = k in cc)
      by false f g true back code true false c x y z w e k = empty (record r { answered = at }) e
      by true false g true back code who ext c x y z w e k = empty r e
      by true true false true back code who ext c x y z w e k = empty (record r { answered = at }) e
      by true true true true true code who ext c x y z w e k = empty (record r { answered = at; kept = Some (record { rest = m.rest; who = None }) }) e
      by true true true true false None who ext c x y z w e k = empty (record r { answered = at }) e
      by true true true true false (Some v) who ext true x y z w e k = record { under = x; final = sym (ap (λ k. is_final k m.rest) sort) ∙ y; code = w }
      by true true true true false (Some v) who ext false x y z w e k = absurd (let bad : true ≡ false = k in cc)

  in_progress : Gone → is_left_in_progress l.o (later_sending got x) ≡ true
  in_progress g = by r.kept l.answer (right (r.id == m.id) _ g.under)
    where
      same : (m.id == x.id) ≡ true
      same = ap (λ i. m.id == i) l.id ∙ eqb_sym m.id r.id ∙ left (r.id == m.id) _ g.under

      final_by : Option (List ℕ) → Option Final
      final_by a = if passes (is_final_for l.o.request) a then option_map (λ q. record { rest = q; behind = [] }) a else None

      by : (k : Option Kept) → IsAnswered s l.o x k [] → not (is_some k) ≡ true → is_left_in_progress l.o (later_sending got x) ≡ true
      by (Some k) a i = absurd (let bad : false ≡ true = i in cc)
      by None a i =
          ap (passes (λ (f : Final). has_code 14 f.rest))
          (final_push l.o.request x.id x.behind got a l.reigns ∙ ap (λ b. final_by (if b && passes (λ kind. fits kind m.rest) (kind_of l.o.request.rest) then Some m.rest else None)) same
          ∙ ap (λ k. final_by (if passes (λ kind. fits kind m.rest) k then Some m.rest else None)) l.kind
          ∙ ap (λ b. final_by (if b || is_intermediate m.rest || same_kind Bind Search && is_search_result m.rest then Some m.rest else None)) g.final
          ∙ ap (λ k. if passes (λ kind. is_final kind m.rest) k then Some (record { rest = m.rest; behind = [] }) else None) l.kind
          ∙ ap (λ b. if b then Some (record { rest = m.rest; behind = [] }) else None) g.final) ∙ g.code

  -- so it holds still
  pub holds_got : is_holding s l.o x ≡ true → is_holding s l.o (later_sending got x) ≡ true
  holds_got h = holds_by s l.o x got refl h (by (succeeds m r) refl)
    where
      comes : (ms : List Entry) → (succeeds m r ≡ true → first_passes (is_own who_am_i) ms ≡ true) → ((r.id == m.id) ≡ true → is_final Bind m.rest ≡ true → is_none (result_code m.rest) ≡ true → is_none r.kept ≡ true → first_passes is_down ms ≡ true) → Comes s F n l.o (behind_message at m r) (later_sending got x) ms
      comes ms f k =
          let later : IsLive s F n r x (got ∷ ms) = any_next s F n r x (got ∷ ms) l in
          let same : later.o ≡ l.o = (let found : Some later.o ≡ Some l.o = sym later.found ∙ l.found in cc) in
          subst (λ o. Comes s F n o (behind_message at m r) (later_sending got x) ms) same (live_got s F n r x got ms later bind at m refl refl refl refl f k)

      none_of : (q : Option (List ℕ)) → is_some q ≡ false → is_none q ≡ true
      none_of None k = refl
      none_of (Some c) k = absurd (let bad : true ≡ false = k in cc)

      done : (ms : List Entry) → Comes s F n l.o (behind_message at m r) (later_sending got x) ms → held s l.o x got (later_sending got x) ≡ true
      done ms (inl k) = or_right (is_none (closing_at s l.o (later_sending got x))) _ (in_progress (gone k.0))
      done ms (inr k) = or_left (is_none (closing_at s l.o (later_sending got x))) _ (none_of (closing_at s l.o (later_sending got x)) k.unsettled)

      coded : (o : Option ℕ) → passes (λ c. c == 0) o ≡ true → is_none o ≡ true → false ≡ true
      coded None j k = j
      coded (Some c) j k = k

      by : (b : Bool) → succeeds m r ≡ b → held s l.o x got (later_sending got x) ≡ true
      by true e =
          let who : Entry = record { part = part; at = at; what = what.Own 0 who_am_i } in
          done (who ∷ []) (comes (who ∷ []) (λ j. bytes_same who_am_i) (λ a b c d. absurd (let bad : false ≡ true = coded (result_code m.rest) (right r.ask_who _ (right (is_bind_row r) _ (right (is_final r.kind m.rest) _ (right (is_under m.id r) _ e)))) c in cc)))
      by false e =
          let down : Entry = record { part = part; at = at; what = what.Down Bad } in
          done (down ∷ []) (comes (down ∷ []) (λ j. absurd (let bad : false ≡ true = sym e ∙ j in cc)) (λ a b c d. refl))
