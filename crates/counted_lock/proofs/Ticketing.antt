-- The steps of a turn keep the rule: draw, look and take, publish.
use Rattle.std.proofs.Common.{◌≡◌, ◌≢◌, ℕ, zero, suc, ◌+◌, ◌%◌, ◌^◌, ◌<◌, ◌≤◌, false, List, [], ◌∷◌, ◌++◌, length, length-append, get_or, set, length-set, sym, refl, ap, ◌∙◌, subst, arith}
use Rattle.std.specs.Prelude.{Option, Some}
use mathlib.Core.Option.{none, some}
use mathlib.Core.Logic.{dite}
use mathlib.Core.List.{append-nil}
use native.Mathlib.Decide.{ℕ_discrete}
use lib.ListN.{get_elem?}
use lib.Seq.{set-get_or}
use Rattle.atomic_table.specs.Table.{State, Me, Act, Valid, carried_after, step, keeps, takes, gives, put_back, rest, stepped, Allows}
use Rattle.atomic_table.proofs.Lists.{set_again, one_turn, set_here}
use Rattle.counted_lock.specs.declared.known.Mark.{Mark}
use Rattle.counted_lock.specs.declared.known.View.{View}
use Rattle.counted_lock.specs.declared.known.Joined.{Joined}
use Rattle.counted_lock.specs.declared.known.Stage.{Stage}
use Rattle.counted_lock.specs.declared.known.Stage.TheVariants.{Idle, Waiting, Holding}
use Rattle.counted_lock.specs.Turns.{turns_of, turns_by, mark, StartsWith, Tagged}
use Rattle.counted_lock.specs.Views.{tickets, HasTicket, at_stage, after_turn}
use Rattle.counted_lock.specs.Rule.{waiting, At, Ended, Home, Kept}
use Rattle.counted_lock.specs.Told.{Sees, Begun, drew, Took, looked, published, confirmed}
use Rattle.counted_lock.proofs.Marks.{some_inside, turns_of-snoc, turns_by-snoc, turns_by-snoc_other, turns_by-first, turns_with-is_by, starts_more, starts_through, Tagged-snoc, Tagged-starts}
use Rattle.counted_lock.proofs.Listed.{one_at, waiting_le, waiting_set, each_after, Known, living, at_of, one_seat_after, ticket_after, few_after, made_after, held_after, all_seen_after, all_seen_here, host_after}

mod_suc : (a : ℕ) → (a % 2 ^ 64 + 1) % 2 ^ 64 ≡ (a + 1) % 2 ^ 64
mod_suc a = omega arith

words_drawn : (ws : List ℕ) (a b : ℕ) → ws ≡ a % 2 ^ 64 ∷ b ∷ [] → set ws 0 ((get_or ws 0 0 + 1) % 2 ^ 64) ≡ (a + 1) % 2 ^ 64 ∷ b ∷ []
words_drawn ws a b e = rw e (ap (λ (n : ℕ). n ∷ b ∷ []) (mod_suc a))

words_published : (ws : List ℕ) (a b : ℕ) → ws ≡ a ∷ b % 2 ^ 64 ∷ [] → set ws 1 ((get_or ws 1 0 + 1) % 2 ^ 64) ≡ a ∷ (b + 1) % 2 ^ 64 ∷ []
words_published ws a b e = rw e (ap (λ (n : ℕ). a ∷ n ∷ []) (mod_suc b))

module _ {T Q : Type 0} (stands : List Q → T → Type 0) (tag : Q → ℕ) where
  abbrev St : Type 0
  St = State (Option T) (View Q)

  abbrev M : Type 0
  M = Me (Option T) (View Q)

  -- what the rule says of one seat
  pub known : (s : St) (r : Kept stands tag s) (j : ℕ) (v : View Q) → get_elem? s.views j ≡ some v → Known r.log r.drawn r.holder r.tags j v
  known s r j v at = record {
    lives = λ l. record {
      ticket = r.ticket j v at l;
      number = r.number j v at l;
      tag = r.each_tag j v at l;
      seen = r.seen j v at l;
      own = r.own j v at l;
      own_seen = r.own_seen j v at l;
    };
    rests = r.spent j v at;
  }

  -- what a seat sees, where its own turns there are all that it made
  pub sees : (s : St) (r : Kept stands tag s) (j : ℕ) (v : View Q) → get_elem? s.views j ≡ some v → v.spent ≡ false → (seen : List (Mark Q)) → StartsWith r.log seen → turns_by j seen ≡ v.own → Sees tag v seen
  sees s r j v at live seen h own =
      let marked = Tagged-starts tag r.tags r.log seen h r.tagged in record {
        by_number = subst (λ n. turns_by n seen ≡ v.own) (sym (r.number j v at live)) own;
        by_tag = turns_with-is_by tag r.tags j v.tag r.tags_differ (r.each_tag j v at live) seen marked ∙ own;
        tagged = λ is. subst (λ ts. Tagged tag ts seen) (sym (r.host j v at is).tags_are) marked;
      }

  -- what a seat knows stays so, where another draws a ticket
  still_drawn : (log : List (Mark Q)) (drawn holder j : ℕ) (seen : List (Mark Q)) (st : Stage) → At log drawn holder j seen st → At log (drawn + 1) holder j seen st
  still_drawn log drawn holder j seen Idle h = tt
  still_drawn log drawn holder j seen (Waiting n) h = (h.0, omega arith)
  still_drawn log drawn holder j seen (Holding n) h = (h.0, omega arith, h.2, h.3)

  drawn_more : (log : List (Mark Q)) (drawn holder : ℕ) (tags : List ℕ) (j : ℕ) (v : View Q) → Known log drawn holder tags j v → Known log (drawn + 1) holder tags j v
  drawn_more log drawn holder tags j v k = record {
    lives = λ e. let l = k.lives e in record { ticket = still_drawn log drawn holder j v.seen v.stage l.ticket; number = l.number; tag = l.tag; seen = l.seen; own = l.own; own_seen = l.own_seen };
    rests = k.rests;
  }

  -- no ticket is as great as the count of the drawn ones
  below_drawn : (log : List (Mark Q)) (drawn holder j : ℕ) (seen : List (Mark Q)) (st : Stage) → At log drawn holder j seen st → HasTicket drawn st → ⊥
  below_drawn log drawn holder j seen Idle h t = t
  below_drawn log drawn holder j seen (Waiting n) h t = omega (arith, h.1)
  below_drawn log drawn holder j seen (Holding n) h t = omega (arith, h.1)

  pub draws : (slots id : ℕ) (me : M) → me.0.stage ≡ Idle → me.0.spent ≡ false → Allows (Kept stands tag) slots id me 0 (λ n. (n + 1) % 2 ^ 64) (drew (step slots 0 1 0 none) me)
  draws slots id me idle live s r _ at _ =
      let v : View Q = me.0 in
      let w : View Q = at_stage v v.seen (Waiting r.drawn) in
      let mine = (known s r id v at).lives live in
      let sum = r.count in
      let each = each_after (Known r.log (r.drawn + 1) r.holder r.tags) s.views id w
      (living r.log (r.drawn + 1) r.holder r.tags id w live record { ticket = (omega arith, omega arith); number = mine.number; tag = mine.tag; seen = mine.seen; own = mine.own; own_seen = mine.own_seen })
      (λ j u _ e. drawn_more r.log r.drawn r.holder r.tags j u (known s r j u e)) in (
        w,
        keeps,
        tt,
        record {
          log = r.log;
          drawn = r.drawn + 1;
          holder = r.holder;
          tags = r.tags;
          words = words_drawn s.words r.drawn (length r.log % 2 ^ 64) r.words;
          home = r.home;
          held = λ j is. held_after s.views id v w r.log at (λ e. let bad : Idle ≡ Holding (length r.log) = sym idle ∙ e in cc) j (r.held j is);
          count = let c = waiting_set s.views id v w at in let z = ap tickets idle in omega arith;
          ticket = λ j u e l. ((each j u e).lives l).ticket;
          some_seat = λ n low high. dite (ℕ_discrete n r.drawn)
              (λ (e : n ≡ r.drawn). (id, w, set_here s.views id w (some_inside s.views id v at), sym e))
              (λ ne. ticket_after s.views id v w n at (λ t. absurd (subst (HasTicket n) idle t)) (r.some_seat n low (omega arith)));
          one_seat = one_seat_after s.views id w r.one_seat (λ k n u _ e ours theirs. below_drawn r.log r.drawn r.holder k u.seen u.stage (at_of r.log r.drawn r.holder r.tags k u u.spent refl (known s r k u e)) (subst (λ (z : ℕ). HasTicket z u.stage) (sym ours) theirs));
          number = λ j u e l. ((each j u e).lives l).number;
          few = few_after s.views id w r.few;
          made = made_after s.views id w (λ j. turns_by j r.log ≡ []) r.made;
          each_tag = λ j u e l. ((each j u e).lives l).tag;
          tag_count = r.tag_count ∙ sym (length-set s.views id w);
          tags_differ = r.tags_differ;
          tagged = r.tagged;
          seen = λ j u e l. ((each j u e).lives l).seen;
          own = λ j u e l. ((each j u e).lives l).own;
          own_seen = λ j u e l. ((each j u e).lives l).own_seen;
          all_seen = all_seen_after r.log s.views id v w at live (λ e. e) r.all_seen;
          host = host_after r.log r.log r.tags s.views id v w at live live (λ n ne. refl) (refl, refl, refl, refl, refl) (λ h. h) (λ h. h) r.host;
          spent = λ j u e. (each j u e).rests;
        },
        (r.drawn, (let e = ap (λ (ws : List ℕ). get_or ws 0 0) r.words in sym e), refl, refl),
      )

  -- what another seat knows stays so, while a seat takes the value
  still_taken : (log : List (Mark Q)) (drawn id j : ℕ) (seen : List (Mark Q)) (st : Stage) → At log drawn 0 j seen st → At log drawn (suc id) j seen st
  still_taken log drawn id j seen Idle h = tt
  still_taken log drawn id j seen (Waiting n) h = h
  still_taken log drawn id j seen (Holding n) h = absurd (let z = h.3 in omega arith)

  -- the ticket that is shown is the seat's own
  my_turn : (log : List (Mark Q)) (drawn n w : ℕ) → w + length log ≡ drawn → w ≤ 2 ^ 63 + 1 → length log ≤ n → n < drawn → length log % 2 ^ 64 ≡ n % 2 ^ 64 → n ≡ length log
  my_turn log drawn n w sum few low high e = sym (one_turn (length log) n (2 ^ 64) low (omega arith) e)

  my_ticket : (s : St) (r : Kept stands tag s) (id : ℕ) (v : View Q) → get_elem? s.views id ≡ some v → (n : ℕ) → v.stage ≡ Waiting n → get_or s.words 1 0 ≡ n % 2 ^ 64 → n ≡ length r.log
  my_ticket s r id v at n is hit =
      let h = subst (At r.log r.drawn r.holder id v.seen) is (at_of r.log r.drawn r.holder r.tags id v v.spent refl (known s r id v at)) in
      let now : get_or s.words 1 0 ≡ length r.log % 2 ^ 64 = ap (λ (ws : List ℕ). get_or ws 1 0) r.words in
      my_turn r.log r.drawn n (waiting s.views) r.count (let few = r.few in omega (arith, waiting_le s.views)) h.0 h.1 (sym now ∙ hit)

  not_held : (s : St) (r : Kept stands tag s) (id : ℕ) (v : View Q) → get_elem? s.views id ≡ some v → (n : ℕ) → v.stage ≡ Waiting n → n ≡ length r.log
      → (i : ℕ) → (u : View Q) × (get_elem? s.views i ≡ some u) × (u.stage ≡ Holding (length r.log)) → ⊥
  not_held s r id v at n is mine i h =
      let same : id ≡ i = r.one_seat id i (length r.log) v h.0 at h.1 (subst (HasTicket (length r.log)) (sym is) mine) (subst (HasTicket (length r.log)) (sym h.2) refl) in
      let one : v ≡ h.0 = one_at s.views id i v h.0 at h.1 (sym same) in
      let stages : Waiting n ≡ Holding (length r.log) = sym is ∙ (ap (λ (u : View Q). u.stage) one ∙ h.2) in
      cc

  taken : (slots : ℕ) (s : St) (r : Kept stands tag s) (id : ℕ) (me : M) → get_elem? s.views id ≡ some me.0 → me.0.spent ≡ false → me.1 ≡ [] → (n : ℕ) → me.0.stage ≡ Waiting n → get_or s.words 1 0 ≡ n % 2 ^ 64 → (h : ℕ) → r.holder ≡ h
      → (w : View Q) × (a : Act (Option T)) × Valid s.homes me.1 a × Kept stands tag (stepped s 1 (get_or s.words 1 0) id me.1 w a)
      × looked stands tag (step slots 1 0 0 none) me (get_or s.words 1 0) (w, carried_after me.1 a)
  taken slots s r id me at live empty n is hit (suc i) has = absurd (not_held s r id me.0 at n is (my_ticket s r id me.0 at n is hit) i (r.held i has))
  taken slots s r id me at live empty n is hit zero has =
      let v : View Q = me.0 in
      let mine : n ≡ length r.log = my_ticket s r id v at n is hit in
      let life = (known s r id v at).lives live in
      let h = subst (At r.log r.drawn r.holder id v.seen) is life.ticket in
      let home = subst (λ (k : ℕ). Home stands k r.log s.homes) has r.home in
      let x : T = home.0 in
      let between : List (Mark Q) = life.seen.0 in
      let all : r.log ≡ v.seen ++ between = life.seen.1 in
      let w : View Q = at_stage v (v.seen ++ between) (Holding n) in
      let whole : StartsWith r.log (v.seen ++ between) = ([], all ∙ sym (append-nil (v.seen ++ between))) in
      let own_all : turns_by id (v.seen ++ between) ≡ v.own = subst (λ l. turns_by id l ≡ v.own) all life.own in
      let grown : StartsWith (v.seen ++ between) v.seen = (between, refl) in
      let each = each_after (Known r.log r.drawn (suc id) r.tags) s.views id w
      (living r.log r.drawn (suc id) r.tags id w live record { ticket = (mine, h.1, sym all, refl); number = life.number; tag = life.tag; seen = whole; own = life.own; own_seen = own_all })
      (λ j u _ e. record {
        lives = λ l. let k = (known s r j u e).lives l in record {
          ticket = still_taken r.log r.drawn id j u.seen u.stage (subst (λ (z : ℕ). At r.log r.drawn z j u.seen u.stage) has k.ticket);
          number = k.number;
          tag = k.tag;
          seen = k.seen;
          own = k.own;
          own_seen = k.own_seen;
        };
        rests = r.spent j u e;
      }) in (
        w,
        takes 0 (Some x),
        ap (λ hs. get_elem? hs 0) home.1,
        record {
          log = r.log;
          drawn = r.drawn;
          holder = suc id;
          tags = r.tags;
          words = set-get_or s.words 1 0 ∙ r.words;
          home = ap (λ hs. set hs 0 none) home.1;
          held = λ j e. let one : id ≡ j = omega arith in (w, subst (λ (z : ℕ). get_elem? (set s.views id w) z ≡ some w) one (set_here s.views id w (some_inside s.views id v at)), ap Holding mine);
          count = let c = waiting_set s.views id v w at in let z = ap tickets is in let c' = r.count in omega arith;
          ticket = λ j u e l. ((each j u e).lives l).ticket;
          some_seat = λ k low high. ticket_after s.views id v w k at (λ t. subst (HasTicket k) is t) (r.some_seat k low high);
          one_seat = one_seat_after s.views id w r.one_seat (λ k m u ne e ours theirs. ne (r.one_seat k id m u v e at theirs (subst (HasTicket m) (sym is) ours)));
          number = λ j u e l. ((each j u e).lives l).number;
          few = few_after s.views id w r.few;
          made = made_after s.views id w (λ j. turns_by j r.log ≡ []) r.made;
          each_tag = λ j u e l. ((each j u e).lives l).tag;
          tag_count = r.tag_count ∙ sym (length-set s.views id w);
          tags_differ = r.tags_differ;
          tagged = r.tagged;
          seen = λ j u e l. ((each j u e).lives l).seen;
          own = λ j u e l. ((each j u e).lives l).own;
          own_seen = λ j u e l. ((each j u e).lives l).own_seen;
          all_seen = all_seen_here r.log s.views id v w at live (sym all);
          host = host_after r.log r.log r.tags s.views id v w at live live (λ k ne. refl) (refl, refl, refl, refl, refl) (starts_through w.seen v.seen v.had grown) (starts_through w.seen v.seen v.brought grown) r.host;
          spent = λ j u e. (each j u e).rests;
        },
        λ n' is'. let same : n ≡ n' = cc in (
          λ _. subst (λ (z : ℕ). Took stands tag z v (get_or s.words 1 0) (w, carried_after me.1 (takes 0 (Some x)))) same record {
            between = between;
            value = x;
            view = refl;
            slot = ap (λ c. (0, Some x) ∷ c) empty;
            stood = subst (λ l. stands (turns_of l) x) all home.2;
            sees = sees s r id v at live (v.seen ++ between) whole own_all;
            placed = ap (λ l. length l % 2 ^ 64) (sym all) ∙ sym (ap (λ (ws : List ℕ). get_or ws 1 0) r.words);
          },
          λ ne. absurd (ne (hit ∙ ap (λ (z : ℕ). z % 2 ^ 64) same)),
        ),
      )

  abbrev ticket_of : Stage → ℕ
  ticket_of Idle = 0
  ticket_of (Waiting n) = n
  ticket_of (Holding n) = n

  -- a load that changes no view
  unmoved : (s : St) (word : ℕ) (r : Kept stands tag s) (id : ℕ) (me : M) → get_elem? s.views id ≡ some me.0 → Kept stands tag (stepped s word (get_or s.words word 0) id me.1 me.0 keeps)
  unmoved s word r id me at =
      subst (λ ws. Kept stands tag record { words = ws; homes = s.homes; views = set s.views id me.0 }) (sym (set-get_or s.words word 0))
      (subst (λ vs. Kept stands tag record { words = s.words; homes = s.homes; views = vs }) (sym (set_again s.views id me.0 at)) r)

  shown : (slots : ℕ) (s : St) (r : Kept stands tag s) (id : ℕ) (me : M) → get_elem? s.views id ≡ some me.0 → me.0.spent ≡ false → me.1 ≡ [] → get_or s.words 1 0 ≡ ticket_of me.0.stage % 2 ^ 64 → (st : Stage) → me.0.stage ≡ st
      → (w : View Q) × (a : Act (Option T)) × Valid s.homes me.1 a × Kept stands tag (stepped s 1 (get_or s.words 1 0) id me.1 w a)
      × looked stands tag (step slots 1 0 0 none) me (get_or s.words 1 0) (w, carried_after me.1 a)
  shown slots s r id me at live empty hit Idle is = (me.0, keeps, tt, unmoved s 1 r id me at, λ n is'. absurd (let bad : Idle ≡ Waiting n = sym is ∙ is' in cc))
  shown slots s r id me at live empty hit (Holding m) is = (me.0, keeps, tt, unmoved s 1 r id me at, λ n is'. absurd (let bad : Holding m ≡ Waiting n = sym is ∙ is' in cc))
  shown slots s r id me at live empty hit (Waiting n) is = taken slots s r id me at live empty n is (hit ∙ ap (λ (st : Stage). ticket_of st % 2 ^ 64) is) r.holder refl

  pub looks : (slots id : ℕ) (me : M) → me.1 ≡ [] → me.0.spent ≡ false → Allows (Kept stands tag) slots id me 1 (λ n. n) (looked stands tag (step slots 1 0 0 none) me)
  looks slots id me empty live s r _ at _ = dite (ℕ_discrete (get_or s.words 1 0) (ticket_of me.0.stage % 2 ^ 64))
      (λ hit. shown slots s r id me at live empty hit me.0.stage refl)
      (λ miss. (me.0, keeps, tt, unmoved s 1 r id me at, λ n is. ((λ hit. absurd (miss (rw is hit))), λ _. refl)))

  begun : (log seen : List (Mark Q)) (views : List (View Q)) (gs : List (Joined Q)) → StartsWith log seen → Ended log views gs → Begun seen gs
  begun log seen views [] h e = tt
  begun log seen views (g ∷ gs) h e = (turns_by-first g.number log seen g.own h e.0, begun log seen views gs h e.2)

  -- the host sees what a join brought
  pub confirms : (slots id : ℕ) (me : M) → me.0.spent ≡ false → Allows (Kept stands tag) slots id me 0 (λ n. n) (confirmed {T = T} tag (step slots 0 0 0 none) me)
  confirms slots id me live s r _ at _ =
      let life = (known s r id me.0 at).lives live in (
        me.0,
        keeps,
        tt,
        unmoved s 0 r id me at,
        (
          refl,
          record {
            sees = sees s r id me.0 at live me.0.seen life.seen life.own_seen;
            had = λ is. (r.host id me.0 at is).had;
            brought = λ is. (r.host id me.0 at is).brought;
            begun = λ is. begun r.log me.0.seen s.views me.0.gone life.seen (r.host id me.0 at is).gone;
          },
        ),
      )

  not_shown : (log : List (Mark Q)) (drawn holder id j : ℕ) (seen : List (Mark Q)) (st : Stage) (q : Mark Q) → holder ≡ suc id → j ≢ id → (HasTicket (length log) st → ⊥) → At log drawn holder j seen st → At (log ++ q ∷ []) drawn 0 j seen st
  not_shown log drawn holder id j seen Idle q is ne not h = tt
  not_shown log drawn holder id j seen (Waiting n) q is ne not h = let le = h.0 in let other : n ≢ length log = not in (omega (arith, length-append log (q ∷ [])), h.1)
  not_shown log drawn holder id j seen (Holding n) q is ne not h = absurd (not h.0)

  known_more : (log : List (Mark Q)) (drawn holder : ℕ) (tags : List ℕ) (id j : ℕ) (m : Mark Q) (v : View Q) → holder ≡ suc id → j ≢ id → m.by ≡ id → (HasTicket (length log) v.stage → ⊥) → Known log drawn holder tags j v
      → Known (log ++ m ∷ []) drawn 0 tags j v
  known_more log drawn holder tags id j m v is ne own not k = record {
    lives = λ e. let l = k.lives e in record {
      ticket = not_shown log drawn holder id j v.seen v.stage m is ne not l.ticket;
      number = l.number;
      tag = l.tag;
      seen = starts_more log (m ∷ []) v.seen l.seen;
      own = turns_by-snoc_other j log m (λ t. ne (t ∙ own)) ∙ l.own;
      own_seen = l.own_seen;
    };
    rests = k.rests;
  }

  pub publishes : (slots id : ℕ) (me : M) (n : ℕ) (x : T) (q : Q) → me.0.stage ≡ Holding n → me.1 ≡ (0, Some x) ∷ [] → stands (turns_of me.0.seen ++ q ∷ []) x → me.0.spent ≡ false → tag q ≡ me.0.tag
      → Allows (Kept stands tag) slots id me 1 (λ n. (n + 1) % 2 ^ 64) (published (Some q) (step slots 1 1 0 none) me)
  publishes slots id me n x q is has good live its_tag s r _ at _ =
      let v : View Q = me.0 in
      let life = (known s r id v at).lives live in
      let h = subst (At r.log r.drawn r.holder id v.seen) is life.ticket in
      let m : Mark Q = mark v.number q in
      let w : View Q = after_turn v q in
      let away = subst (λ (k : ℕ). Home stands k r.log s.homes) h.3 r.home in
      let longer : length (r.log ++ m ∷ []) ≡ length r.log + 1 = length-append r.log (m ∷ []) in
      let same : v.seen ++ m ∷ [] ≡ r.log ++ m ∷ [] = ap (λ l. l ++ m ∷ []) h.2 in
      let grown : StartsWith (v.seen ++ m ∷ []) v.seen = (m ∷ [], refl) in
      let own_all : turns_by id (r.log ++ m ∷ []) ≡ v.own ++ q ∷ [] = turns_by-snoc id r.log m (sym life.number) ∙ ap (λ l. l ++ q ∷ []) life.own in
      let each = each_after (Known (r.log ++ m ∷ []) r.drawn 0 r.tags) s.views id w
      (living (r.log ++ m ∷ []) r.drawn 0 r.tags id w live record { ticket = tt; number = life.number; tag = life.tag; seen = ([], sym same ∙ sym (append-nil (v.seen ++ m ∷ []))); own = own_all; own_seen = ap (turns_by id) same ∙ own_all })
      (λ j u ne e. known_more r.log r.drawn r.holder r.tags id j m u h.3 ne life.number
      (λ t. ne (r.one_seat j id (length r.log) u v e at t (subst (HasTicket (length r.log)) (sym is) h.0))) (known s r j u e)) in (
        w,
        gives,
        tt,
        record {
          log = r.log ++ m ∷ [];
          drawn = r.drawn;
          holder = 0;
          tags = r.tags;
          words = words_published s.words (r.drawn % 2 ^ 64) (length r.log) r.words ∙ ap (λ (k : ℕ). r.drawn % 2 ^ 64 ∷ k % 2 ^ 64 ∷ []) (sym longer);
          home = (x, ap (λ c. put_back s.homes c) has ∙ ap (λ hs. set hs 0 (some (Some x))) away, subst (λ l. stands l x) (sym (turns_of-snoc r.log m)) (subst (λ l. stands (turns_of l ++ q ∷ []) x) h.2 good));
          held = λ j e. absurd (omega arith);
          count = let c = waiting_set s.views id v w at in let z = ap tickets is in let c' = r.count in omega arith;
          ticket = λ j u e l. ((each j u e).lives l).ticket;
          some_seat = λ k low high. ticket_after s.views id v w k at (λ t. absurd (let mine : n ≡ k = subst (HasTicket k) is t in let z = h.0 in omega arith)) (r.some_seat k (omega arith) high);
          one_seat = one_seat_after s.views id w r.one_seat (λ k i u ne e ours theirs. ours);
          number = λ j u e l. ((each j u e).lives l).number;
          few = few_after s.views id w r.few;
          made = made_after s.views id w (λ j. turns_by j (r.log ++ m ∷ []) ≡ []) (λ j le. turns_by-snoc_other j r.log m (λ e. let i = some_inside s.views id v at in let k = life.number in omega arith) ∙ r.made j le);
          each_tag = λ j u e l. ((each j u e).lives l).tag;
          tag_count = r.tag_count ∙ sym (length-set s.views id w);
          tags_differ = r.tags_differ;
          tagged = Tagged-snoc tag r.tags r.log m r.tagged (ap (λ k. get_elem? r.tags k) life.number ∙ (life.tag ∙ ap some (sym its_tag)));
          seen = λ j u e l. ((each j u e).lives l).seen;
          own = λ j u e l. ((each j u e).lives l).own;
          own_seen = λ j u e l. ((each j u e).lives l).own_seen;
          all_seen = all_seen_here (r.log ++ m ∷ []) s.views id v w at live same;
          host = host_after r.log (r.log ++ m ∷ []) r.tags s.views id v w at live live (λ k ne. turns_by-snoc_other k r.log m (λ e. ne (e ∙ life.number))) (refl, refl, refl, refl, refl) (starts_through w.seen v.seen v.had grown) (starts_through w.seen v.seen v.brought grown) r.host;
          spent = λ j u e. (each j u e).rests;
        },
        (refl, ap (λ c. rest c) has),
      )
