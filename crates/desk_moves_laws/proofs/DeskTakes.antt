-- What the desk takes.
use Rattle.std.proofs.Common.{◌≡◌, ℕ, Bool, true, false, ◌==◌, ◌&&◌, not, if◌then◌else◌, List, [], ◌∷◌, ◌++◌, Option, Some, None, refl, ap, ◌∙◌, sym}
use Rattle.std.specs.Prelude.{◌||◌}
use Rattle.std.specs.List.{list_any}
use Rattle.std.proofs.lemmas.Bool.{and_parts, eqb-true, eqb-false}
use Rattle.std.proofs.lemmas.List.Folds.{list_any-append}
use Rattle.std.proofs.lemmas.Map.Views.{any-filter_same}
use Rattle.lload_names.specs.declared.names.OpName.{OpName}
use Rattle.lload_names.specs.declared.names.Answer.{Answer}
use Rattle.lload_names.specs.declared.names.Answer.TheVariants.{Go, Busy, Unavailable}
use Rattle.lload_names.specs.declared.names.Want.{Want}
use Rattle.lload_names.specs.declared.names.Letter.{Letter}
use Rattle.lload_names.specs.declared.names.Letter.TheVariants as real
use Rattle.lload_names.specs.declared.names.PartName.{PartName}
use Rattle.lload_names.specs.declared.names.PartName.TheVariants.{Desk as DeskPart}
use Rattle.lload_names.specs.declared.names.What.TheVariants as what
use Rattle.lload_spec.specs.Settings.{Settings}
use Rattle.lload_spec.specs.Journal.{same_op}
use Rattle.lload_spec.specs.News.{tells_down, tells_retired, tells_up}
use Rattle.part_spec.specs.Marked.{Marked, Taken}
use Rattle.part_spec.specs.DeskState.{Ring, without_op}
use Rattle.part_spec.specs.Fit.{DeskLedger, going_to, is_ask_of, step_desk_ledger, with_mark}
use Rattle.move_laws.specs.World.{Desk, is}
use Rattle.move_laws.specs.Desks.{choose, forget, put3, put_user}
use Rattle.stands_laws.specs.Books.{Book, is_bind_op, name}
use Rattle.stands_laws.specs.DeskStands.{DeskStands}
use Rattle.stands_laws.proofs.Tests.{same_self, eq_sym}

-- one more letter
pub any_push : {A : Type 0} (t : A → Bool) (xs : List A) (x : A) (o : Bool) → list_any t xs ≡ o → list_any t (xs ++ x ∷ []) ≡ (o || t x)
any_push t xs x o e = list_any-append t xs (x ∷ []) ∙ (ap (λ (z : Bool). z || (t x || false)) e ∙ off o (t x))
  where
    off : (o q : Bool) → (o || (q || false)) ≡ (o || q)
    off true q = refl
    off false true = refl
    off false false = refl

or_off : (o : Bool) → (o || false) ≡ o
or_off true = refl
or_off false = refl

if_or : (t o : Bool) → (o || t) ≡ (if t then true else o)
if_or true true = refl
if_or true false = refl
if_or false o = or_off o

pub any_same : {A : Type 0} (t : A → Bool) (xs : List A) (x : A) (o : Bool) → t x ≡ false → list_any t xs ≡ o → list_any t (xs ++ x ∷ []) ≡ o
any_same t xs x o z e = any_push t xs x o e ∙ (ap (λ q. o || q) z ∙ or_off o)

abbrev pub desk_mark : PartName → ℕ → Letter → Option Taken
desk_mark q now l = Some (record { sender = q; letter = l })

abbrev pub asked_mark : ℕ → OpName → Want → Option Taken → Marked
asked_mark now op want mark = record { entry = record { part = DeskPart; at = now; what = what.Asked op want }; mark = mark }

abbrev pub chose_mark : ℕ → OpName → Answer → ℕ → Marked
chose_mark now op answer word = record { entry = record { part = DeskPart; at = now; what = what.Chose op answer word }; mark = None }

abbrev pub heard_mark : ℕ → Letter → PartName → Marked
heard_mark now l q = record { entry = record { part = DeskPart; at = now; what = what.Heard l }; mark = Some (record { sender = q; letter = l }) }

-- a set pair
pair_now : (a b e t o : Bool) → t ≡ (a && b && e) → (o || t) ≡ (if a && (b && e) then true else o)
pair_now true true e t o h = if_or t o ∙ ap (λ q. if q then true else o) h
pair_now true false e t o h = rw h (or_off o)
pair_now false b e t o h = rw h (or_off o)

put3-cases : (f : ℕ → ℕ → ℕ → Bool) (a b v c k u : ℕ) (P : Type 0) → put3 f a b v true c k u ≡ true → (c ≡ a → k ≡ b → u ≡ v → P) → (f c k u ≡ true → P) → P
put3-cases f a b v c k u P h y z = go ((c == a) && ((k == b) && (u == v))) refl h
  where
    go : (t : Bool) → ((c == a) && ((k == b) && (u == v))) ≡ t → (if t then true else f c k u) ≡ true → P
    go true e i = let p = and_parts (c == a) ((k == b) && (u == v)) e in let q = and_parts (k == b) (u == v) p.1 in y (eqb-true c a p.0) (eqb-true k b q.0) (eqb-true u v q.1)
    go false e i = z i

put3-here : (f : ℕ → ℕ → ℕ → Bool) (a b v : ℕ) (p : Bool) → put3 f a b v p a b v ≡ p
put3-here f a b v p = rw (same_self a, same_self b, same_self v) refl

put3-stays : (f : ℕ → ℕ → ℕ → Bool) (a b v c k u : ℕ) → f c k u ≡ true → put3 f a b v true c k u ≡ true
put3-stays f a b v c k u h = go ((c == a) && ((k == b) && (u == v)))
  where
    go : (t : Bool) → (if t then true else f c k u) ≡ true
    go true = refl
    go false = h

is_op : (c k a b : ℕ) → is (Some (record { client = a; k = b })) c k ≡ true → (c ≡ a) × (k ≡ b)
is_op c k a b e = let p = and_parts (c == a) (k == b) e in (eqb-true c a p.0, eqb-true k b p.1)

-- the first Ask of an operation, by what is chosen
pub desk_goes : (s : Settings) (b : Book) (c k n m now word : ℕ) (want : Want) (sender : PartName) (l : DeskLedger) (d : Desk) → DeskStands b l d → ((u : ℕ) → d.pending c k u ≡ false)
    → DeskStands b (step_desk_ledger s (step_desk_ledger s l (asked_mark now (name c k) want (Some (record { sender = sender; letter = real.Ask (name c k) want })))) (chose_mark now (name c k) (Go n m) word)) (choose (is_bind_op b c k) c k (Some n) d)
desk_goes s b c k n m now word want sender l d h none = record {
  took = λ i j. any_push (λ t. is_ask_of (name i j) t.letter) l.taken _ (d.took i j) (h.took i j) ∙ if_or ((i == c) && (j == k)) (d.took i j);
  pending = λ i j u. any_push (λ x. same_op (name i j) x.op && x.value == u) l.state.pending _ (d.pending i j u) (h.pending i j u) ∙ pair_now (i == c) (j == k) (u == n) _ (d.pending i j u) (ap (λ q. (i == c) && (j == k) && q) (eq_sym n u));
  single = λ i j u v p q. put3-cases d.pending c k n i j u (u ≡ v) p
      (λ x y z. put3-cases d.pending c k n i j v (u ≡ v) q (λ _ _ w. z ∙ sym w) (λ old. absurd (let bad = sym old ∙ (ap (λ r. d.pending r j v) x ∙ (ap (λ r. d.pending c r v) y ∙ none v)) in cc)))
      (λ was. put3-cases d.pending c k n i j v (u ≡ v) q (λ x y w. absurd (let bad = sym was ∙ (ap (λ r. d.pending r j u) x ∙ (ap (λ r. d.pending c r u) y ∙ none u)) in cc)) (λ old. h.single i j u v was old));
  used = λ u i j e. users (is_bind_op b c k) refl u i j e;
  viable = h.viable;
  ups = λ u. any_same (λ t. tells_up u t.letter) l.taken _ (d.up u) refl (h.ups u);
  retireds = λ u. any_same (λ t. tells_retired u t.letter) l.taken _ (d.retired u) refl (h.retireds u);
  downs = λ u. any_same (λ t. tells_down u t.letter) l.taken _ (d.down u) refl (h.downs u);
}
  where
    at_user : (q : Bool) (u i j : ℕ) → (u == n) ≡ q → is_bind_op b c k ≡ true → is (if q then Some (record { client = c; k = k }) else d.user u) i j ≡ true → (put3 d.pending c k n true i j u ≡ true) × (is_bind_op b i j ≡ true)
    at_user true u i j e bind w = let p = is_op i j c k w in (rw (p.0, p.1, eqb-true u n e) (put3-here d.pending c k n true), ap (λ r. is_bind_op b r j) p.0 ∙ (ap (is_bind_op b c) p.1 ∙ bind))
    at_user false u i j e bind w = let old = h.used u i j w in (put3-stays d.pending c k n i j u old.0, old.1)

    users : (t : Bool) → is_bind_op b c k ≡ t → (u i j : ℕ) → is ((if t then put_user d.user n (Some (record { client = c; k = k })) else d.user) u) i j ≡ true → (put3 d.pending c k n true i j u ≡ true) × (is_bind_op b i j ≡ true)
    users true bind u i j w = at_user (u == n) u i j refl bind w
    users false bind u i j w = let old = h.used u i j w in (put3-stays d.pending c k n i j u old.0, old.1)

-- no connection is chosen
pub desk_none : (s : Settings) (b : Book) (c k now word : ℕ) (want : Want) (answer : Answer) (sender : PartName) (l : DeskLedger) (d : Desk) → going_to answer ≡ None → DeskStands b l d
    → DeskStands b (step_desk_ledger s (step_desk_ledger s l (asked_mark now (name c k) want (Some (record { sender = sender; letter = real.Ask (name c k) want })))) (chose_mark now (name c k) answer word)) (choose (is_bind_op b c k) c k None d)
desk_none s b c k now word want answer sender l d e h = by_answer answer e
  where
    by_answer : (answer : Answer) → going_to answer ≡ None → DeskStands b (step_desk_ledger s (step_desk_ledger s l (asked_mark now (name c k) want (Some (record { sender = sender; letter = real.Ask (name c k) want })))) (chose_mark now (name c k) answer word)) (choose (is_bind_op b c k) c k None d)
    by_answer (Go n m) i = absurd (cc)
    by_answer Busy i = record {
      took = λ i j. any_push (λ t. is_ask_of (name i j) t.letter) l.taken _ (d.took i j) (h.took i j) ∙ if_or ((i == c) && (j == k)) (d.took i j);
      pending = h.pending;
      single = h.single;
      used = h.used;
      viable = h.viable;
      ups = λ u. any_same (λ t. tells_up u t.letter) l.taken _ (d.up u) refl (h.ups u);
      retireds = λ u. any_same (λ t. tells_retired u t.letter) l.taken _ (d.retired u) refl (h.retireds u);
      downs = λ u. any_same (λ t. tells_down u t.letter) l.taken _ (d.down u) refl (h.downs u);
    }
    by_answer Unavailable i = record {
      took = λ i j. any_push (λ t. is_ask_of (name i j) t.letter) l.taken _ (d.took i j) (h.took i j) ∙ if_or ((i == c) && (j == k)) (d.took i j);
      pending = h.pending;
      single = h.single;
      used = h.used;
      viable = h.viable;
      ups = λ u. any_same (λ t. tells_up u t.letter) l.taken _ (d.up u) refl (h.ups u);
      retireds = λ u. any_same (λ t. tells_retired u t.letter) l.taken _ (d.retired u) refl (h.retireds u);
      downs = λ u. any_same (λ t. tells_down u t.letter) l.taken _ (d.down u) refl (h.downs u);
    }

-- a pair that is pending no longer: it was the only one of its operation
unpaired : (f : ℕ → ℕ → ℕ → Bool) (c k u i j v : ℕ) → (i ≡ c → j ≡ k → f i j v ≡ true → v ≡ u) → (not ((i == c) && (j == k)) && f i j v) ≡ put3 f c k u false i j v
unpaired f c k u i j v e = go (i == c) (j == k) (v == u) (f i j v) refl refl refl refl
  where
    go : (p q r o : Bool) → (i == c) ≡ p → (j == k) ≡ q → (v == u) ≡ r → f i j v ≡ o → (not (p && q) && f i j v) ≡ (if p && (q && r) then false else f i j v)
    go true true true o x y z w = refl
    go true true false true x y z w = absurd (eqb-false v u z (e (eqb-true i c x) (eqb-true j k y) w))
    go true true false false x y z w = sym w
    go true false r o x y z w = refl
    go false q r o x y z w = refl

put3-off : (f : ℕ → ℕ → ℕ → Bool) (a b v c k u : ℕ) (P : Type 0) → put3 f a b v false c k u ≡ true → (f c k u ≡ true → P) → P
put3-off f a b v c k u P h z = go ((c == a) && ((k == b) && (u == v))) h
  where
    go : (t : Bool) → (if t then false else f c k u) ≡ true → P
    go true i = absurd (cc)
    go false i = z i

put3-kept : (f : ℕ → ℕ → ℕ → Bool) (a b v c k u : ℕ) → (c ≡ a → k ≡ b → u ≡ v → ⊥) → put3 f a b v false c k u ≡ f c k u
put3-kept f a b v c k u z = go ((c == a) && ((k == b) && (u == v))) refl
  where
    go : (t : Bool) → ((c == a) && ((k == b) && (u == v))) ≡ t → (if t then false else f c k u) ≡ f c k u
    go true e = let p = and_parts (c == a) ((k == b) && (u == v)) e in let q = and_parts (k == b) (u == v) p.1 in absurd (z (eqb-true c a p.0) (eqb-true k b q.0) (eqb-true u v q.1))
    go false e = refl

same_op_swap : (c k : ℕ) (op : OpName) (i j : ℕ) → same_op (name i j) op ≡ true → same_op (name c k) op ≡ ((i == c) && (j == k))
same_op_swap c k op i j e = let p = and_parts (i == op.client) (j == op.k) e in ap (λ z. (c == z) && (k == op.k)) (sym (eqb-true i op.client p.0)) ∙ (ap (λ z. (c == i) && (k == z)) (sym (eqb-true j op.k p.1)) ∙ (ap (λ z. z && (k == j)) (eq_sym c i) ∙ ap (λ z. (i == c) && z) (eq_sym k j)))

-- the ledger behind what tells that an operation is pending no longer
abbrev pub forgot_ledger : ℕ → OpName → List Ring → Option Taken → DeskLedger → DeskLedger
forgot_ledger now op rings mark l = record { state = record l.state { moment = now; asked = None; pending = without_op op l.state.pending; rings = rings }; taken = with_mark mark l.taken }

pub desk_forgets : (b : Book) (c k u now : ℕ) (rings : List Ring) (t : Taken) (l : DeskLedger) (d : Desk) → DeskStands b l d → d.pending c k u ≡ true
    → ((o : OpName) → is_ask_of o t.letter ≡ false) → ((v : ℕ) → tells_up v t.letter ≡ false) → ((v : ℕ) → tells_retired v t.letter ≡ false) → ((v : ℕ) → tells_down v t.letter ≡ false)
    → DeskStands b (forgot_ledger now (name c k) rings (Some t) l) (forget (is_bind_op b c k) c k u d)
desk_forgets b c k u now rings t l d h fit na nu nr nd = record {
  took = λ i j. any_same (λ t. is_ask_of (name i j) t.letter) l.taken t (d.took i j) (na (name i j)) (h.took i j);
  pending = λ i j v. any-filter_same (λ x. same_op (name i j) x.op && x.value == v) (λ x. not (same_op (name c k) x.op)) (not ((i == c) && (j == k))) (λ x e. let p = and_parts (same_op (name i j) x.op) (x.value == v) e in ap not (same_op_swap c k x.op i j p.0)) l.state.pending
      ∙ (ap (λ o. not ((i == c) && (j == k)) && o) (h.pending i j v) ∙ unpaired d.pending c k u i j v (λ x y w. h.single c k v u (ap (λ r. d.pending r k v) (sym x) ∙ (ap (λ r. d.pending i r v) (sym y) ∙ w)) fit));
  single = λ i j v w p q. put3-off d.pending c k u i j v (v ≡ w) p (λ was. put3-off d.pending c k u i j w (v ≡ w) q (λ old. h.single i j v w was old));
  used = λ v i j e. users (is_bind_op b c k) refl v i j e;
  viable = h.viable;
  ups = λ v. any_same (λ t. tells_up v t.letter) l.taken t (d.up v) (nu v) (h.ups v);
  retireds = λ v. any_same (λ t. tells_retired v t.letter) l.taken t (d.retired v) (nr v) (h.retireds v);
  downs = λ v. any_same (λ t. tells_down v t.letter) l.taken t (d.down v) (nd v) (h.downs v);
}
  where
    at_user : (q : Bool) (v i j : ℕ) → (v == u) ≡ q → is (if q then None else d.user v) i j ≡ true → (put3 d.pending c k u false i j v ≡ true) × (is_bind_op b i j ≡ true)
    at_user true v i j e w = absurd (cc)
    at_user false v i j e w = let old = h.used v i j w in (put3-kept d.pending c k u i j v (λ _ _ z. eqb-false v u e z) ∙ old.0, old.1)

    users : (t : Bool) → is_bind_op b c k ≡ t → (v i j : ℕ) → is ((if t then put_user d.user u None else d.user) v) i j ≡ true → (put3 d.pending c k u false i j v ≡ true) × (is_bind_op b i j ≡ true)
    users true bind v i j w = at_user (v == u) v i j refl w
    users false plain v i j w = let old = h.used v i j w in (put3-kept d.pending c k u i j v (λ x y _. let bad = sym old.1 ∙ (ap (λ r. is_bind_op b r j) x ∙ (ap (is_bind_op b c) y ∙ plain)) in absurd (cc)) ∙ old.0, old.1)
