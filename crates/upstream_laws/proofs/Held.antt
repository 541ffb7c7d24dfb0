-- When the Bind of a Sent no longer holds its connection: with an entry more, and behind a message.
use Rattle.std.proofs.Common.{◌≡◌, inl, inr, ℕ, Bool, true, false, ◌==◌, ◌&&◌, ◌||◌, not, List, [], ◌∷◌, ◌++◌, refl, ap, ◌∙◌, sym, subst}
use Rattle.std.specs.Prelude.{Option, Some, None, is_none, is_some}
use Rattle.std.specs.List.{list_any}
use Rattle.ldap_spec.specs.Bodies.{who_am_i}
use Rattle.ldap_spec.specs.Kinds.{is_final}
use Rattle.ldap_spec.specs.Messages.{Message}
use Rattle.ldap_spec.specs.Responses.{has_code, result_code}
use Rattle.lload_names.specs.declared.names.EndWhy.TheVariants.{Bad}
use Rattle.lload_names.specs.declared.names.Entry.{Entry}
use Rattle.lload_names.specs.declared.names.OpKind.TheVariants.{Bind}
use Rattle.lload_names.specs.declared.names.PartName.{PartName}
use Rattle.lload_names.specs.declared.names.What.TheVariants as what
use Rattle.lload_spec.specs.Answers.{Final, Sending, closing_at, closing_by, final_answer, is_left_in_progress, of_operation}
use Rattle.lload_spec.specs.CausedUp.{is_holding}
use Rattle.lload_spec.specs.Entries.{is_down, is_own, missed_op}
use Rattle.lload_spec.specs.Journal.{Family}
use Rattle.lload_spec.specs.Lists.{first_passes, passes}
use Rattle.lload_spec.specs.Operations.{Operation, operation}
use Rattle.lload_spec.specs.Settings.{Settings}
use Rattle.lload_spec.proofs.Growth.{left, right, both}
use Rattle.lload_laws.specs.ConnectionGrowth.{later_sending}
use Rattle.lload_laws.proofs.ListLaws.{bytes_same}
use Rattle.part_laws.proofs.ListLaws.{any_before, false_by, or_elim, or_left, or_right}
use Rattle.part_spec.specs.ConnectionState.{UpRow, behind_message, is_bind_row, is_under}
use Rattle.part_spec.specs.Share.{succeeds}
use Rattle.connection_laws.proofs.Closings.{closing_stays, final_more}
use Rattle.bind_laws.proofs.Gots.{Comes, live_got}
use Rattle.bind_laws.proofs.Sents.{IsLive, any_next}

-- whether an entry lets any holder go
abbrev pub is_letting : Entry → Bool
is_letting e = is_some (missed_op e.what) || is_down e

-- what holds with an entry more held before it
pub held_before : (s : Settings) (o : Operation) (e : Entry) (x : Sending) → is_holding s o (later_sending e x) ≡ true → is_holding s o x ≡ true
held_before s o e x h = both (not (list_any is_letting x.behind)) _ (fewer (list_any is_letting x.behind) (list_any is_letting (x.behind ++ e ∷ [])) (any_before is_letting x.behind (e ∷ [])) (left (not (list_any is_letting (x.behind ++ e ∷ []))) _ h)) (or_elim (is_none (closing_at s o (later_sending e x))) (is_left_in_progress o (later_sending e x)) (λ k. or_left (is_none (closing_at s o x)) _ (none_before (closing_at s o x) (closing_at s o (later_sending e x)) (closing_stays s o x e) k)) (by (final_answer o x) refl) (right (not (list_any is_letting (x.behind ++ e ∷ []))) _ h))
  where
    fewer : (a b : Bool) → (a ≡ true → b ≡ true) → not b ≡ true → not a ≡ true
    fewer false b f k = refl
    fewer true b f k = absurd (let bad : false ≡ true = sym (ap not (f refl)) ∙ k in cc)

    none_before : (a b : Option (List ℕ)) → (is_some a ≡ true → is_some b ≡ true) → is_none b ≡ true → is_none a ≡ true
    none_before None b f k = refl
    none_before (Some r) None f k = absurd (let bad : false ≡ true = f refl in cc)
    none_before (Some r) (Some q) f k = k

    by : (q : Option Final) → final_answer o x ≡ q → is_left_in_progress o (later_sending e x) ≡ true → (is_none (closing_at s o x) || is_left_in_progress o x) ≡ true
    by None f k = or_left (is_none (closing_at s o x)) _ (ap (λ z. is_none (elim z [ None ↦ None | Some g ↦ closing_by s o g ])) f)
    by (Some g) f k = or_right (is_none (closing_at s o x)) _ (ap (passes (λ z. has_code 14 z.rest)) f ∙ sym (ap (passes (λ z. has_code 14 z.rest)) (final_more o.request x.id x.behind e g f)) ∙ k)

pub unheld_later : (s : Settings) (F : Family) (e : Entry) (x : Sending) → of_operation F (is_holding s) x ≡ false → of_operation F (is_holding s) (later_sending e x) ≡ false
unheld_later s F e x h = by (operation F x.op) h
  where
    by : (q : Option Operation) → passes (λ o. is_holding s o x) q ≡ false → passes (λ o. is_holding s o (later_sending e x)) q ≡ false
    by None k = k
    by (Some o) k = false_by (is_holding s o (later_sending e x)) (λ j. sym k ∙ held_before s o e x j)

-- behind an entry that lets it go
pub let_go : (s : Settings) (F : Family) (x : Sending) → list_any is_letting x.behind ≡ true → of_operation F (is_holding s) x ≡ false
let_go s F x h = by (operation F x.op)
  where
    by : (q : Option Operation) → passes (λ o. is_holding s o x) q ≡ false
    by None = refl
    by (Some o) = ap (λ b. not b && (is_none (closing_at s o x) || is_left_in_progress o x)) h

-- where it is settled, and not left in progress
pub settled_unheld : (s : Settings) (F : Family) (x : Sending) (o : Operation) → operation F x.op ≡ Some o → is_some (closing_at s o x) ≡ true → is_left_in_progress o x ≡ false → of_operation F (is_holding s) x ≡ false
settled_unheld s F x o found closed over = ap (passes (λ q. is_holding s q x)) found ∙ ap (λ b. not (list_any is_letting x.behind) && (is_none (closing_at s o x) || b)) over ∙ by (not (list_any is_letting x.behind)) (closing_at s o x) closed
  where
    by : (a : Bool) (c : Option (List ℕ)) → is_some c ≡ true → (a && (is_none c || false)) ≡ false
    by a None k = absurd (let bad : false ≡ true = k in cc)
    by true (Some r) k = refl
    by false (Some r) k = refl

-- a message behind which the row is gone settles the Bind
module _ (s : Settings) (F : Family) (n : ℕ) (r : UpRow) (x : Sending) (l : IsLive s F n r x []) (bind : is_bind_row r ≡ true) (part : PartName) (at : ℕ) (m : Message) where
  abbrev got : Entry
  got = record { part = part; at = at; what = what.Got m.id m.rest }

  abbrev down : Entry
  down = record { part = part; at = at; what = what.Down Bad }

  abbrev who : Entry
  who = record { part = part; at = at; what = what.Own 0 who_am_i }

  -- what it comes to, whatever stands behind
  comes : (ms : List Entry) → (succeeds m r ≡ true → first_passes (is_own who_am_i) ms ≡ true) → ((r.id == m.id) ≡ true → is_final Bind m.rest ≡ true → is_none (result_code m.rest) ≡ true → is_none r.kept ≡ true → first_passes is_down ms ≡ true) → Comes s F n l.o (behind_message at m r) (later_sending got x) ms
  comes ms f g =
      let later : IsLive s F n r x (got ∷ ms) = any_next s F n r x (got ∷ ms) l in
      let same : later.o ≡ l.o = (let found : Some later.o ≡ Some l.o = sym later.found ∙ l.found in cc) in
      subst (λ o. Comes s F n o (behind_message at m r) (later_sending got x) ms) same (live_got s F n r x got ms later bind at m refl refl refl refl f g)

  pub gone_closed : behind_message at m r ≡ [] → is_some (closing_at s l.o (later_sending got x)) ≡ true
  gone_closed none = by (succeeds m r) refl
    where
      coded : (o : Option ℕ) → passes (λ c. c == 0) o ≡ true → is_none o ≡ true → false ≡ true
      coded None j k = j
      coded (Some c) j k = k

      done : (ms : List Entry) → Comes s F n l.o (behind_message at m r) (later_sending got x) ms → is_some (closing_at s l.o (later_sending got x)) ≡ true
      done ms (inl k) = k.1
      done ms (inr k) = absurd (let bad : k.row ∷ [] ≡ [] = sym k.is ∙ none in cc)

      by : (b : Bool) → succeeds m r ≡ b → is_some (closing_at s l.o (later_sending got x)) ≡ true
      by true e = done (who ∷ []) (comes (who ∷ []) (λ j. bytes_same who_am_i) (λ a b c d. absurd (let bad : false ≡ true = coded (result_code m.rest) (right r.ask_who _ (right (is_bind_row r) _ (right (is_final r.kind m.rest) _ (right (is_under m.id r) _ e)))) c in cc)))
      by false e = done (down ∷ []) (comes (down ∷ []) (λ j. absurd (let bad : false ≡ true = sym e ∙ j in cc)) (λ a b c d. refl))
