-- The binding of a client's list is that of the calls that the list comes to.
use Rattle.std.proofs.Common.{◌≡◌, Bool, true, false, ◌&&◌, not, List, [], ◌∷◌, ◌++◌, refl, ap, ◌∙◌, sym, append_assoc, ℤ}
use Rattle.std.specs.Prelude.{Option, Some, None, ℕ, if◌then◌else◌, map, filter, cond, is_none}
use Rattle.std.proofs.lemmas.List.{append-nil}
use Rattle.ldap_spec.specs.Messages.{Message}
use Rattle.lload_names.specs.declared.names.Entry.{Entry}
use Rattle.lload_names.specs.declared.names.Answer.{Answer}
use Rattle.lload_names.specs.declared.names.What.{What}
use Rattle.lload_names.specs.declared.names.What.TheVariants as what
use Rattle.lload_spec.specs.Settings.{Settings, Write}
use Rattle.lload_spec.specs.Entries.{Named, chosen}
use Rattle.lload_spec.specs.Operations.{Operation, Manner, manner_of, is_bind_in, is_live, last_bind}
use Rattle.lload_spec.specs.Binding.{Choice, choices, choice_made, is_behind, with_action, standing_by}
use Rattle.lload_spec.specs.BindingCalls.{Call, WriteEnded, Reset, standing, binding_of}
use Rattle.lload_spec.specs.ClientCalls.{calls_for, end_calls, is_ended_by, new_choices, calls_at, calls_from}
use Rattle.lload_spec.proofs.Pushed.{standing-push}
use Rattle.lload_laws.specs.ClientBinding.{BoundByCalls}
use Rattle.lload_laws.proofs.ClientGrowth.{ending_grows}
use Rattle.lload_laws.proofs.ClientSums.{after_all, sum-more, sum-later}
use Rattle.lload_laws.proofs.ClientChoices.{choices_grow, bind_ends_choices, new_choices_live}

-- what a choice is learned by ends nothing
quiet : (r : Message) (since : List Entry) (e : Entry) (w : What) (q : Named Answer) → e.what ≡ w → chosen w ≡ Some q → manner_of r since e ≡ None
quiet r since e what.Arrived q h k = absurd (let bad : ◌≡◌ {A = Option (Named Answer)} None (Some q) = k in cc)
quiet r since e (what.In x y) q h k = absurd (let bad : ◌≡◌ {A = Option (Named Answer)} None (Some q) = k in cc)
quiet r since e (what.Chosen op a) q h k = ap (λ w. manner_of r since (record e { what = w })) h
quiet r since e (what.Out x y) q h k = absurd (let bad : ◌≡◌ {A = Option (Named Answer)} None (Some q) = k in cc)
quiet r since e (what.Late x) q h k = absurd (let bad : ◌≡◌ {A = Option (Named Answer)} None (Some q) = k in cc)
quiet r since e (what.Gone x) q h k = absurd (let bad : ◌≡◌ {A = Option (Named Answer)} None (Some q) = k in cc)
quiet r since e what.Linked q h k = absurd (let bad : ◌≡◌ {A = Option (Named Answer)} None (Some q) = k in cc)
quiet r since e what.Up q h k = absurd (let bad : ◌≡◌ {A = Option (Named Answer)} None (Some q) = k in cc)
quiet r since e what.Retired q h k = absurd (let bad : ◌≡◌ {A = Option (Named Answer)} None (Some q) = k in cc)
quiet r since e (what.Sent x y z) q h k = absurd (let bad : ◌≡◌ {A = Option (Named Answer)} None (Some q) = k in cc)
quiet r since e (what.Own x y) q h k = absurd (let bad : ◌≡◌ {A = Option (Named Answer)} None (Some q) = k in cc)
quiet r since e (what.Got x y) q h k = absurd (let bad : ◌≡◌ {A = Option (Named Answer)} None (Some q) = k in cc)
quiet r since e (what.Expired x) q h k = absurd (let bad : ◌≡◌ {A = Option (Named Answer)} None (Some q) = k in cc)
quiet r since e (what.Missed x) q h k = absurd (let bad : ◌≡◌ {A = Option (Named Answer)} None (Some q) = k in cc)
quiet r since e (what.Idle x) q h k = absurd (let bad : ◌≡◌ {A = Option (Named Answer)} None (Some q) = k in cc)
quiet r since e (what.Down x) q h k = absurd (let bad : ◌≡◌ {A = Option (Named Answer)} None (Some q) = k in cc)
quiet r since e (what.Asked x y) q h k = absurd (let bad : ◌≡◌ {A = Option (Named Answer)} None (Some q) = k in cc)
quiet r since e (what.Chose x y z) q h k = absurd (let bad : ◌≡◌ {A = Option (Named Answer)} None (Some q) = k in cc)
quiet r since e (what.Heard x) q h k = absurd (let bad : ◌≡◌ {A = Option (Named Answer)} None (Some q) = k in cc)
quiet r since e what.Stalled q h k = absurd (let bad : ◌≡◌ {A = Option (Named Answer)} None (Some q) = k in cc)
quiet r since e what.Flowing q h k = absurd (let bad : ◌≡◌ {A = Option (Named Answer)} None (Some q) = k in cc)
quiet r since e (what.Paused x) q h k = absurd (let bad : ◌≡◌ {A = Option (Named Answer)} None (Some q) = k in cc)
quiet r since e (what.Resumed x) q h k = absurd (let bad : ◌≡◌ {A = Option (Named Answer)} None (Some q) = k in cc)
quiet r since e (what.Replanned x y) q h k = absurd (let bad : ◌≡◌ {A = Option (Named Answer)} None (Some q) = k in cc)

ends_nothing : (e : Entry) (o : Operation) (m : Option Manner) → manner_of o.request o.behind e ≡ None → is_ended_by e o ≡ false
ends_nothing e o m h = settled (is_live o) _ (ending_grows o.request o.behind e ∙ ap (λ n. is_live o && is_none n) h)
  where
    settled : (l k : Bool) → k ≡ (l && true) → (l && not k) ≡ false
    settled true k h = ap not h
    settled false k h = refl

filter_false : (t : Choice → Bool) (xs : List Choice) → ((x : Choice) → t x ≡ false) → filter t xs ≡ []
filter_false t [] h = refl
filter_false t (x ∷ xs) h = ap (λ b. cond b (x ∷ filter t xs) (filter t xs)) (h x) ∙ filter_false t xs h

no_end_calls : (s : Settings) (e : Entry) (q : Named Answer) (xs : List Choice) → chosen e.what ≡ Some q → end_calls s e xs ≡ []
no_end_calls s e q xs h = ap (map (λ x. WriteEnded e.at)) (filter_false (λ x. is_ended_by e x.operation) (with_action s Write xs) (λ x. ends_nothing e x.operation None (quiet x.operation.request x.operation.behind e e.what q refl h)))

-- one entry more
grown : (s : Settings) (c : ℕ) (L : List Entry) (e : Entry) (q : Option (Named Answer)) → chosen e.what ≡ q → after_all (end_calls s e (choices c L ++ new_choices c L e)) (standing_by s (choices c L ++ new_choices c L e)) ≡ after_all (end_calls s e (choices c L) ++ calls_for s (new_choices c L e)) (standing_by s (choices c L))
grown s c L e None h =
    let none : new_choices c L e ≡ [] = ap (λ q. filter (λ x. is_behind (last_bind c L) x.operation) (choice_made c L L q)) h in
    ap (λ n. after_all (end_calls s e (choices c L ++ n)) (standing_by s (choices c L ++ n))) none ∙ ap (λ xs. after_all (end_calls s e xs) (standing_by s xs)) (append-nil (choices c L)) ∙ sym (ap (λ n. after_all (end_calls s e (choices c L) ++ calls_for s n) (standing_by s (choices c L))) none ∙ ap (λ cs. after_all cs (standing_by s (choices c L))) (append-nil (end_calls s e (choices c L))))
grown s c L e (Some q) h = ap (λ cs. after_all cs (standing_by s (choices c L ++ new_choices c L e))) (no_end_calls s e q (choices c L ++ new_choices c L e) h) ∙ sum-more s (choices c L) (new_choices c L e) (new_choices_live c L e) ∙ sym (ap (λ cs. after_all (cs ++ calls_for s (new_choices c L e)) (standing_by s (choices c L))) (no_end_calls s e q (choices c L) h))

step : (s : Settings) (c : ℕ) (L : List Entry) (e : Entry) → standing_by s (choices c (L ++ e ∷ [])) ≡ after_all (calls_at s c L e) (standing_by s (choices c L))
step s c L e = by_bind (is_bind_in e) refl
  where
    by_bind : (b : Bool) → is_bind_in e ≡ b → standing_by s (choices c (L ++ e ∷ [])) ≡ after_all (if b then Reset ∷ [] else end_calls s e (choices c L) ++ calls_for s (new_choices c L e)) (standing_by s (choices c L))
    by_bind true h = ap (standing_by s) (bind_ends_choices c L e h)
    by_bind false h = ap (standing_by s) (choices_grow c L e h) ∙ sum-later s e (choices c L ++ new_choices c L e) ∙ grown s c L e (chosen e.what) refl

standing_after : (n : ℤ) (calls cs : List Call) → standing n (calls ++ cs) ≡ after_all cs (standing n calls)
standing_after n calls [] = ap (standing n) (append-nil calls)
standing_after n calls (d ∷ cs) = ap (standing n) (sym (append_assoc calls (d ∷ []) cs)) ∙ standing_after n (calls ++ d ∷ []) cs ∙ ap (after_all cs) (standing-push n calls d)

all_entries : (s : Settings) (c : ℕ) (calls : List Call) (before es : List Entry) → standing s.write_coherence calls ≡ standing_by s (choices c before) → standing s.write_coherence (calls ++ calls_from s c before es) ≡ standing_by s (choices c (before ++ es))
all_entries s c calls before [] h = ap (standing s.write_coherence) (append-nil calls) ∙ h ∙ ap (λ l. standing_by s (choices c l)) (sym (append-nil before))
all_entries s c calls before (e ∷ es) h = ap (standing s.write_coherence) (sym (append_assoc calls (calls_at s c before e) (calls_from s c (before ++ e ∷ []) es))) ∙ all_entries s c (calls ++ calls_at s c before e) (before ++ e ∷ []) es (standing_after s.write_coherence calls (calls_at s c before e) ∙ ap (after_all (calls_at s c before e)) h ∙ sym (step s c before e)) ∙ ap (λ l. standing_by s (choices c l)) (append_assoc before (e ∷ []) es)

pub bound_by_calls : BoundByCalls
bound_by_calls s c L t = ap (λ w. binding_of w t) (sym (all_entries s c [] [] L refl))
