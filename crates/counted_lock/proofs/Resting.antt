-- What is true of a seat between two calls: after it made a turn, was split or was joined.
use Rattle.std.proofs.Common.{◌≡◌, ℕ, ◌+◌, true, List, [], ◌∷◌, ◌++◌, length-append, sym, refl, ap, ◌∙◌, subst, arith}
use Rattle.std.specs.Prelude.{Option, Contains}
use mathlib.Core.Option.{some}
use Rattle.atomic_table.specs.Table.{Me}
use Rattle.atomic_table.proofs.Lists.{at_longer}
use Rattle.counted_lock.specs.declared.known.Mark.{Mark}
use Rattle.counted_lock.specs.declared.known.View.{View}
use Rattle.counted_lock.specs.declared.known.Joined.{Joined}
use Rattle.counted_lock.specs.declared.known.Stage.TheVariants.{Waiting, Holding}
use Rattle.counted_lock.specs.Turns.{mark, turns_of, turns_by, StartsWith, joined_seat}
use Rattle.counted_lock.specs.Views.{at_stage, after_turn, left_of, right_of, longer, both_of}
use Rattle.counted_lock.specs.Told.{Sees, Begun, Brought, Took}
use Rattle.counted_lock.specs.Held.{AtRest}
use Rattle.counted_lock.proofs.Marks.{squeezed, turns_of-snoc, turns_by-append, turns_by-snoc, turns_with-snoc, Tagged-snoc, Tagged-none, Tagged-fresh}
use Rattle.counted_lock.proofs.Listed.{Tagged-longer}

module _ {Q : Type 0} where
  pub Begun-last : (seen : List (Mark Q)) (gs : List (Joined Q)) (g : Joined Q) → Begun seen (gs ++ g ∷ []) → (rest : List Q) × (g.own ≡ turns_by g.number seen ++ rest)
  Begun-last seen [] g h = h.0
  Begun-last seen (x ∷ xs) g h = Begun-last seen xs g h.1

  -- what begins with all turns of a seat, and has no more than these, has just these
  pub turns_by-whole : (n : ℕ) (seen first : List (Mark Q)) (own : List Q) → StartsWith seen first → turns_by n first ≡ own → (rest : List Q) × (own ≡ turns_by n seen ++ rest) → turns_by n seen ≡ own
  turns_by-whole n seen first own h some_own most =
      let here : turns_by n seen ≡ own ++ turns_by n h.0 = ap (turns_by n) h.1 ∙ (turns_by-append n first h.0 ∙ ap (λ l. l ++ turns_by n h.0) some_own) in
      here ∙ squeezed own (turns_by n h.0) most.0 (ap (λ l. l ++ most.0) (sym here) ∙ sym most.1)

  -- what the host sees of a seat that it has just joined
  pub joined_turns : (tag : Q → ℕ) (v w b : View Q) → b ≡ both_of v w → v.host ≡ true → Brought tag b → turns_by w.number w.seen ≡ w.own → turns_by w.number b.seen ≡ w.own
  joined_turns tag v w b e host brought own =
      let r : Brought tag (both_of v w) = subst (Brought tag) e brought in
      ap (λ z. turns_by w.number z.seen) e ∙ turns_by-whole w.number (longer v.seen w.seen) w.seen w.own (r.brought host) own (Begun-last (longer v.seen w.seen) v.gone (joined_seat w.number w.own) (r.begun host))

module _ {T Q : Type 0} (tag : Q → ℕ) where
  pub left_rests : (t : ℕ) (me : Me (Option T) (View Q)) → AtRest tag me → AtRest tag (left_of t me.0, me.1)
  left_rests t me h = record {
    no_slot = h.no_slot;
    no_ticket = h.no_ticket;
    live = h.live;
    sees = record { by_number = h.sees.by_number; by_tag = h.sees.by_tag; tagged = λ is. Tagged-longer tag me.0.tags t me.0.seen (h.sees.tagged is) };
    tag_count = λ is. let c = h.tag_count is in omega (arith, length-append me.0.tags (t ∷ []));
    tag_kept = λ is. at_longer me.0.tags (t ∷ []) me.0.number me.0.tag (h.tag_kept is);
  }

  pub right_rests : (t : ℕ) (me : Me (Option T) (View Q)) → me.0.host ≡ true → (Contains me.0.tags t → ⊥) → AtRest tag me → AtRest {T = T} tag (right_of t me.0, [])
  right_rests t me host new h = record {
    no_slot = refl;
    no_ticket = refl;
    live = refl;
    sees = record {
      by_number = Tagged-none tag me.0.tags (me.0.made + 1) (let c = h.tag_count host in omega arith) me.0.seen (h.sees.tagged host);
      by_tag = Tagged-fresh tag me.0.tags t new me.0.seen (h.sees.tagged host);
      tagged = λ is. absurd (cc);
    };
    tag_count = λ is. absurd (cc);
    tag_kept = λ is. absurd (cc);
  }

  -- a seat that drew, took and published
  pub turn_rests : (stands : List Q → T → Type 0) (m0 m1 m2 m4 m5 : Me (Option T) (View Q)) (k n r : ℕ) (q : Q) → AtRest tag m0 → m1.0 ≡ at_stage m0.0 m0.0.seen (Waiting k) → Took stands tag n m1.0 r m2
      → m4.0 ≡ m2.0 → m5 ≡ (after_turn m4.0 q, []) → tag q ≡ m0.0.tag → AtRest tag m5
  turn_rests stands m0 m1 m2 m4 m5 k n r q h e1 t e4 e5 its_tag =
      let v : View Q = m0.0 in
      let xs : List (Mark Q) = v.seen ++ t.between in
      let m : Mark Q = mark v.number q in
      let s = subst (λ (z : View Q). Sees tag z (z.seen ++ t.between)) e1 t.sees in
      let last = e5 ∙ ap (λ (z : View Q). (after_turn z q, [])) (e4 ∙ (t.view ∙ ap (λ (z : View Q). at_stage z (z.seen ++ t.between) (Holding n)) e1)) in
      subst (AtRest tag) (sym last) record {
        no_slot = refl;
        no_ticket = refl;
        live = h.live;
        sees = record {
          by_number = turns_by-snoc v.number xs m refl ∙ ap (λ l. l ++ q ∷ []) s.by_number;
          by_tag = turns_with-snoc tag v.tag xs m (sym its_tag) ∙ ap (λ l. l ++ q ∷ []) s.by_tag;
          tagged = λ is. Tagged-snoc tag v.tags xs m (s.tagged is) (h.tag_kept is ∙ ap some (sym its_tag));
        };
        tag_count = h.tag_count;
        tag_kept = h.tag_kept;
      }

  -- the value that the work left stands for all turns and this one
  pub work_stood : (stands : List Q → T → Type 0) (m1 m2 m4 : Me (Option T) (View Q)) (n r : ℕ) (q : Q) (x y : T) (t : Took stands tag n m1.0 r m2) → m4.0 ≡ m2.0 → x ≡ t.value
      → ((js : List Q) → stands js x → stands (js ++ q ∷ []) y) → stands (turns_of m4.0.seen ++ q ∷ []) y
  work_stood stands m1 m2 m4 n r q x y t e4 was works =
      subst (λ l. stands (turns_of l ++ q ∷ []) y) (sym (ap (λ (v : View Q). v.seen) (e4 ∙ t.view)))
      (works (turns_of (m1.0.seen ++ t.between)) (subst (λ z. stands (turns_of (m1.0.seen ++ t.between)) z) (sym was) t.stood))

  -- so it does once the turn was published
  pub turn_stood : (stands : List Q → T → Type 0) (m4 m5 : Me (Option T) (View Q)) (q : Q) (y : T) → stands (turns_of m4.0.seen ++ q ∷ []) y → m5 ≡ (after_turn m4.0 q, []) → stands (turns_of m5.0.seen) y
  turn_stood stands m4 m5 q y good e5 =
      subst (λ l. stands l y) (sym (ap (λ m. turns_of m.0.seen) e5 ∙ turns_of-snoc m4.0.seen (mark m4.0.number q))) good
