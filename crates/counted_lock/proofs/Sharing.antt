-- The beginning meets the rule, and the steps that make and take in a seat keep it.
use Rattle.std.proofs.Common.{◌≡◌, ℕ, zero, suc, ◌+◌, ◌^◌, ◌<◌, ⊎_elim, true, false, List, [], ◌∷◌, ◌++◌, length, length-append, set, length-set, sym, refl, ap, ◌∙◌, subst, arith}
use Rattle.std.specs.Prelude.{Option, Some, Contains}
use mathlib.Core.Option.{some}
use mathlib.Core.Logic.{dite}
use native.Mathlib.Decide.{ℕ_discrete}
use lib.ListN.{get_elem?}
use Rattle.atomic_table.specs.Table.{State, Joins, Splits, opening}
use Rattle.atomic_table.proofs.Lists.{at_longer, at_last, set_here, set_else}
use Rattle.counted_lock.specs.declared.known.View.{View}
use Rattle.counted_lock.specs.declared.known.Stage.TheVariants.{Idle, Holding}
use Rattle.counted_lock.specs.Turns.{turns_by, joined_seat, WasJoined}
use Rattle.counted_lock.specs.Views.{tickets, HasTicket, first_view, left_of, right_of, longer, both_of, spent_view}
use Rattle.counted_lock.specs.Rule.{spent_ones, At, Kept, HostKnows}
use Rattle.counted_lock.proofs.Marks.{some_inside, some_contained, turns_by-none, turns_by-between, longer_starts, longer_both, longer_left, longer_right}
use Rattle.counted_lock.proofs.Listed.{at_end, nowhere, one_at, waiting_set, waiting_snoc, spent_set, spent_snoc, live_zero, each_after, Known, living, one_seat_after, ticket_after, few_after, made_after, held_after, still_held, all_seen_after, ended_after, ended_longer, ended_snoc, WasJoined-snoc, WasJoined-last, each_spent_after, differ_snoc, Tagged-longer}
use Rattle.counted_lock.proofs.Ticketing.{known}

module _ {T Q : Type 0} (stands : List Q → T → Type 0) (tag : Q → ℕ) where
  abbrev St : Type 0
  St = State (Option T) (View Q)

  one_tag : (t j k : ℕ) → get_elem? (t ∷ []) j ≡ some k → j ≡ 0
  one_tag t zero k e = refl
  one_tag t (suc j) k e = absurd (nowhere j k e)

  pub opens : (t : ℕ) (x : T) → stands [] x → Kept stands tag (opening (0 ∷ 0 ∷ []) (Some x ∷ []) (first_view t))
  opens t x good =
      let w : View Q = first_view t in
      let only : (j : ℕ) (v : View Q) → get_elem? (w ∷ []) j ≡ some v → (j ≡ 0) × (w ≡ v) = λ j v e. ⊎_elim (λ (p : get_elem? [] j ≡ some v). absurd (nowhere j v p)) (λ p. p) (at_end [] w v j e) in
      let each : (j : ℕ) (v : View Q) → get_elem? (w ∷ []) j ≡ some v → Known [] 0 0 (t ∷ []) j v = λ j v e. let p = only j v e in subst (λ (z : ℕ × View Q). Known [] 0 0 (t ∷ []) z.0 z.1) (λ i. (sym p.0 i, p.1 i))
      (living [] 0 0 (t ∷ []) 0 w refl record { ticket = tt; number = refl; tag = refl; seen = ([], refl); own = refl; own_seen = refl }) in record {
        log = [];
        drawn = 0;
        holder = 0;
        tags = t ∷ [];
        words = refl;
        home = (x, refl, good);
        held = λ j e. absurd (omega arith);
        count = omega arith;
        ticket = λ j u e l. ((each j u e).lives l).ticket;
        some_seat = λ n low high. absurd (omega arith);
        one_seat = λ j k n a b ja kb ta tb. absurd (subst (λ (u : View Q). HasTicket n u.stage) (sym (only j a ja).1) ta);
        number = λ j u e l. ((each j u e).lives l).number;
        few = omega arith;
        made = λ j le. refl;
        each_tag = λ j u e l. ((each j u e).lives l).tag;
        tag_count = refl;
        tags_differ = λ j k n a b. one_tag t j n a ∙ sym (one_tag t k n b);
        tagged = tt;
        seen = λ j u e l. ((each j u e).lives l).seen;
        own = λ j u e l. ((each j u e).lives l).own;
        own_seen = λ j u e l. ((each j u e).lives l).own_seen;
        all_seen = (0, w, refl, refl, refl);
        host = λ j v e h. let p = only j v e in subst (λ (u : View Q). HostKnows [] (t ∷ []) (w ∷ []) j u) p.1 record {
          first = p.0;
          made = refl;
          tags_are = refl;
          joined = refl;
          gone = tt;
          each_spent = λ k u f is. absurd (let b : false ≡ true = ap (λ (z : View Q). z.spent) (only k u f).1 ∙ is in cc);
          had = ([], refl);
          brought = ([], refl);
        };
        spent = λ j u e. (each j u e).rests;
      }

  -- a seat with a tag of its own is made
  pub splits : (t id : ℕ) (v : View Q) → v.host ≡ true → v.spent ≡ false → v.made < 2 ^ 63 → (Contains v.tags t → ⊥) → Splits (Kept stands tag) id v (left_of t v) (right_of t v)
  splits t id v host live room new s r at =
      let w : View Q = left_of t v in
      let u : View Q = right_of t v in
      let vs : List (View Q) = set s.views id w in
      let us : List (View Q) = vs ++ u ∷ [] in
      let life = (known stands tag s r id v at).lives live in
      let mine = r.host id v at host in
      let keeps_tags = r.tag_count in
      let made_one = mine.made in
      let width : length vs ≡ length s.views = length-set s.views id w in
      let same : spent_ones us ≡ spent_ones s.views = omega (arith, spent_snoc vs u, spent_set s.views id v w at) in
      let long : length us ≡ length s.views + 1 = omega (arith, length-append vs (u ∷ []), width) in
      let fresh : (k : ℕ) → get_elem? r.tags k ≡ some t → ⊥ = λ k e. new (some_contained v.tags k t (ap (λ ts. get_elem? ts k) mine.tags_are ∙ e)) in
      let more : (j : ℕ) (z : View Q) → Known r.log r.drawn r.holder r.tags j z → Known r.log r.drawn r.holder (r.tags ++ t ∷ []) j z = λ j z k. record {
        lives = λ l. let x = k.lives l in record { ticket = x.ticket; number = x.number; tag = at_longer r.tags (t ∷ []) j z.tag x.tag; seen = x.seen; own = x.own; own_seen = x.own_seen };
        rests = k.rests;
      } in
      let old = each_after (Known r.log r.drawn r.holder (r.tags ++ t ∷ [])) s.views id w
      (living r.log r.drawn r.holder (r.tags ++ t ∷ []) id w live record { ticket = life.ticket; number = life.number; tag = at_longer r.tags (t ∷ []) id v.tag life.tag; seen = life.seen; own = life.own; own_seen = life.own_seen })
      (λ j z _ e. more j z (known stands tag s r j z e)) in
      let none : turns_by (length vs) r.log ≡ [] = r.made (length vs) (omega arith) in
      let newcomer : Known r.log r.drawn r.holder (r.tags ++ t ∷ []) (length vs) u = living r.log r.drawn r.holder (r.tags ++ t ∷ []) (length vs) u refl record {
        ticket = tt;
        number = omega arith;
        tag = at_last r.tags t (length vs) (keeps_tags ∙ sym width);
        seen = life.seen;
        own = none;
        own_seen = turns_by-none (length vs) r.log v.seen life.seen none;
      } in
      let each : (j : ℕ) (z : View Q) → get_elem? us j ≡ some z → Known r.log r.drawn r.holder (r.tags ++ t ∷ []) j z = λ j z e. ⊎_elim
      (λ (p : get_elem? vs j ≡ some z). old j z p)
      (λ (p : (j ≡ length vs) × (u ≡ z)). subst (λ (y : ℕ × View Q). Known r.log r.drawn r.holder (r.tags ++ t ∷ []) y.0 y.1) (λ i. (sym p.0 i, p.1 i)) newcomer)
      (at_end vs u z j e) in
      let one_seat = one_seat_after s.views id w r.one_seat (λ k n x ne e ours theirs. ne (r.one_seat k id n x v e at theirs ours)) in
      let seen = all_seen_after r.log s.views id v w at live (λ e. e) r.all_seen in
      let spent_old = each_spent_after s.views id w v.gone live mine.each_spent in record {
        log = r.log;
        drawn = r.drawn;
        holder = r.holder;
        tags = r.tags ++ t ∷ [];
        words = r.words;
        home = r.home;
        held = λ j e. let h = still_held s.views id v w r.log at refl j (r.held j e) in (h.0, at_longer vs (u ∷ []) j h.0 h.1, h.2);
        count = let c = waiting_set s.views id v w at in let c' = r.count in omega (arith, waiting_snoc vs u);
        ticket = λ j z e l. ((each j z e).lives l).ticket;
        some_seat = λ n low high. let h = ticket_after s.views id v w n at (λ x. x) (r.some_seat n low high) in (h.0, h.1, at_longer vs (u ∷ []) h.0 h.1 h.2, h.3);
        one_seat = λ j k n a b ja kb ta tb. ⊎_elim
            (λ (p : get_elem? vs j ≡ some a). ⊎_elim
            (λ (q : get_elem? vs k ≡ some b). one_seat j k n a b p q ta tb)
            (λ (q : (k ≡ length vs) × (u ≡ b)). absurd (subst (λ (z : View Q). HasTicket n z.stage) (sym q.1) tb))
            (at_end vs u b k kb))
            (λ (p : (j ≡ length vs) × (u ≡ a)). absurd (subst (λ (z : View Q). HasTicket n z.stage) (sym p.1) ta))
            (at_end vs u a j ja);
        number = λ j z e l. ((each j z e).lives l).number;
        few = omega arith;
        made = λ j le. r.made j (omega arith);
        each_tag = λ j z e l. ((each j z e).lives l).tag;
        tag_count = omega (arith, length-append r.tags (t ∷ []));
        tags_differ = differ_snoc r.tags t r.tags_differ fresh;
        tagged = Tagged-longer tag r.tags t r.log r.tagged;
        seen = λ j z e l. ((each j z e).lives l).seen;
        own = λ j z e l. ((each j z e).lives l).own;
        own_seen = λ j z e l. ((each j z e).lives l).own_seen;
        all_seen = (seen.0, seen.1, at_longer vs (u ∷ []) seen.0 seen.1 seen.2, seen.3, seen.4);
        host = λ j z e h. ⊎_elim
            (λ (p : get_elem? vs j ≡ some z). each_after (λ k y. y.host ≡ true → HostKnows r.log (r.tags ++ t ∷ []) us k y) s.views id w
            (λ _. record {
              first = mine.first;
              made = omega arith;
              tags_are = ap (λ ts. ts ++ t ∷ []) mine.tags_are;
              joined = mine.joined ∙ sym same;
              gone = ended_longer r.log vs u v.gone (ended_after r.log r.log s.views id v w at live (λ n ne. refl) v.gone mine.gone);
              each_spent = λ k y f is. ⊎_elim
                  (λ (q : get_elem? vs k ≡ some y). spent_old k y q is)
                  (λ (q : (k ≡ length vs) × (u ≡ y)). absurd (let b : false ≡ true = ap (λ (x : View Q). x.spent) q.1 ∙ is in cc))
                  (at_end vs u y k f);
              had = mine.had;
              brought = mine.brought;
            })
            (λ k y ne f g. absurd (let o = r.host k y f g in ne (o.first ∙ sym mine.first))) j z p h)
            (λ (p : (j ≡ length vs) × (u ≡ z)). absurd (let b : false ≡ true = ap (λ (x : View Q). x.host) p.1 ∙ h in cc))
            (at_end vs u z j e);
        spent = λ j z e. (each j z e).rests;
      }

  -- a seat is taken in, and spent
  pub joins : (id : ℕ) (v : View Q) (other : ℕ) (w : View Q) → v.host ≡ true → v.spent ≡ false → v.stage ≡ Idle → w.spent ≡ false → w.stage ≡ Idle
      → Joins (Kept stands tag) id v other w (both_of v w) spent_view
  joins id v other w host live idle alive rest s r at apart there =
      let b : View Q = both_of v w in
      let g : View Q = spent_view in
      let vs : List (View Q) = set s.views id b in
      let ws : List (View Q) = set vs other g in
      let before : get_elem? s.views other ≡ some w = sym (set_else s.views id other b apart) ∙ there in
      let mine = (known stands tag s r id v at).lives live in
      let theirs = (known stands tag s r other w before).lives alive in
      let own = r.host id v at host in
      let made_one = own.made in
      let all_joined = own.joined in
      let both = longer_both r.log v.seen w.seen mine.seen theirs.seen in
      let long : length ws ≡ length s.views = omega (arith, length-set vs other g, length-set s.views id b) in
      let more : spent_ones ws ≡ spent_ones s.views + 1 = omega (arith, spent_set s.views id v b at, spent_set vs other w g there, live_zero w alive) in
      let kept1 = ended_after r.log r.log s.views id v b at live (λ n ne. refl) v.gone own.gone in
      let kept2 = ended_after r.log r.log vs other w g there alive (λ n ne. refl) v.gone kept1 in
      let seat : get_elem? ws other ≡ some g = set_here vs other g (some_inside vs other w there) in
      let here : get_elem? ws id ≡ some b = set_else vs other id g (λ t. apart (sym t)) ∙ set_here s.views id b (some_inside s.views id v at) in
      let kept = ended_snoc r.log ws v.gone (joined_seat w.number w.own) (subst (λ n. turns_by n r.log ≡ w.own) (sym theirs.number) theirs.own) (g, subst (λ n. get_elem? ws n ≡ some g) (sym theirs.number) seat, refl) kept2 in
      let whole = longer_starts r.log v.seen w.seen mine.seen theirs.seen in
      let each = each_after (Known r.log r.drawn r.holder r.tags) vs other g
      record { lives = λ e. absurd (cc); rests = λ _. (refl, refl) }
      (λ j u _ e. each_after (Known r.log r.drawn r.holder r.tags) s.views id b
      (living r.log r.drawn r.holder r.tags id b live record {
        ticket = subst (At r.log r.drawn r.holder id (longer v.seen w.seen)) (sym idle) tt;
        number = mine.number;
        tag = mine.tag;
        seen = whole;
        own = mine.own;
        own_seen = turns_by-between id r.log (longer v.seen w.seen) v.seen v.own whole both.0 mine.own mine.own_seen;
      })
      (λ k x _ f. known stands tag s r k x f) j u e) in record {
        log = r.log;
        drawn = r.drawn;
        holder = r.holder;
        tags = r.tags;
        words = r.words;
        home = r.home;
        held = λ j e. held_after vs other w g r.log there (λ t. let c : Idle ≡ Holding (length r.log) = sym rest ∙ t in cc) j
            (held_after s.views id v b r.log at (λ t. let c : Idle ≡ Holding (length r.log) = sym idle ∙ t in cc) j (r.held j e));
        count = let c = waiting_set s.views id v b at in let d = waiting_set vs other w g there in let e = ap tickets rest in let f = r.count in omega arith;
        ticket = λ j u e l. ((each j u e).lives l).ticket;
        some_seat = λ n low high. ticket_after vs other w g n there (λ t. absurd (subst (HasTicket n) rest t)) (ticket_after s.views id v b n at (λ t. t) (r.some_seat n low high));
        one_seat = one_seat_after vs other g (one_seat_after s.views id b r.one_seat (λ k n u ne e ours _. subst (HasTicket n) idle ours)) (λ k n u ne e ours _. ours);
        number = λ j u e l. ((each j u e).lives l).number;
        few = few_after vs other g (few_after s.views id b r.few);
        made = made_after vs other g (λ j. turns_by j r.log ≡ []) (made_after s.views id b (λ j. turns_by j r.log ≡ []) r.made);
        each_tag = λ j u e l. ((each j u e).lives l).tag;
        tag_count = r.tag_count ∙ sym long;
        tags_differ = r.tags_differ;
        tagged = r.tagged;
        seen = λ j u e l. ((each j u e).lives l).seen;
        own = λ j u e l. ((each j u e).lives l).own;
        own_seen = λ j u e l. ((each j u e).lives l).own_seen;
        all_seen =
            let h = r.all_seen in
            dite (ℕ_discrete h.0 id)
            (λ e. (id, b, here, live, longer_left r.log v.seen w.seen (ap (λ (z : View Q). z.seen) (one_at s.views id h.0 v h.1 at h.2 e) ∙ h.4) theirs.seen))
            (λ ne. dite (ℕ_discrete h.0 other)
            (λ e. (id, b, here, live, longer_right r.log v.seen w.seen (ap (λ (z : View Q). z.seen) (one_at s.views other h.0 w h.1 before h.2 e) ∙ h.4) mine.seen))
            (λ ne2. (h.0, h.1, set_else vs other h.0 g ne2 ∙ (set_else s.views id h.0 b ne ∙ h.2), h.3, h.4)));
        host = each_after (λ j u. u.host ≡ true → HostKnows r.log r.tags ws j u) vs other g
            (λ h. absurd (cc))
            (λ j u _ e. each_after (λ k x. x.host ≡ true → HostKnows r.log r.tags ws k x) s.views id b
            (λ _. record {
              first = own.first;
              made = own.made ∙ sym long;
              tags_are = own.tags_are;
              joined = omega arith;
              gone = kept;
              each_spent = each_after (λ k x. x.spent ≡ true → WasJoined k b.gone) vs other g
                  (λ _. WasJoined-last other v.gone (joined_seat w.number w.own) theirs.number)
                  (λ k x _ f is. each_after (λ i y. y.spent ≡ true → WasJoined i b.gone) s.views id b
                  (λ is'. absurd (let c : false ≡ true = sym live ∙ is' in cc))
                  (λ i y _ f' is'. WasJoined-snoc i v.gone (joined_seat w.number w.own) (own.each_spent i y f' is')) k x f is);
              had = both.0;
              brought = both.1;
            })
            (λ k x ne f h. absurd (let o = r.host k x f h in ne (o.first ∙ sym own.first))) j u e);
        spent = λ j u e. (each j u e).rests;
      }
