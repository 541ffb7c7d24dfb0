-- Each answer that a bind connection gives tells the identity that settles its operation, by the connection's whole list.
use Rattle.std.proofs.Common.{◌≡◌, ℕ, Bool, true, false, ◌&&◌, List, [], ◌∷◌, ◌++◌, refl, ap, ◌∙◌, sym, subst, append_assoc}
use Rattle.std.specs.Prelude.{Option, Some, None, flat_map, map, is_none, if◌then◌else◌}
use Rattle.std.specs.List.{list_any}
use Rattle.std.specs.Option.{option_or}
use Rattle.std.proofs.lemmas.List.{append-nil}
use Rattle.std.proofs.lemmas.List.Folds.{list_all-append}
use Rattle.ldap_spec.specs.Responses.{has_code, result_code, who_value}
use Rattle.ldap_spec.specs.Tags.{success}
use Rattle.lload_names.specs.Same.{same_who}
use Rattle.lload_names.specs.declared.names.ConnKind.{ConnKind}
use Rattle.lload_names.specs.declared.names.ConnKind.TheVariants.{Regular, Bind as BindKind}
use Rattle.lload_names.specs.declared.names.Entry.{Entry}
use Rattle.lload_names.specs.declared.names.Letter.{Letter}
use Rattle.lload_names.specs.declared.names.Letter.TheVariants.{Forward, Reply, IsDown}
use Rattle.lload_names.specs.declared.names.OpKind.TheVariants.{Bind}
use Rattle.lload_names.specs.declared.names.OpName.{OpName}
use Rattle.lload_names.specs.declared.names.PartName.TheVariants.{Desk}
use Rattle.lload_names.specs.declared.names.Posted.{Posted}
use Rattle.lload_names.specs.declared.names.Refusal.TheVariants.{C4}
use Rattle.lload_names.specs.declared.names.What.{What}
use Rattle.lload_names.specs.declared.names.What.TheVariants as what
use Rattle.lload_spec.specs.Answers.{Sending, Final, sendings, sending_made, asks_who, closing_at, closing_by, final_answer, is_kept_back, who_answer, who_id, extended_under}
use Rattle.lload_spec.specs.Entries.{got_message, sent_message}
use Rattle.lload_spec.specs.Journal.{Family, same_op}
use Rattle.lload_spec.specs.Lists.{passes}
use Rattle.lload_spec.specs.Operations.{Operation, operation, is_final_for, is_of}
use Rattle.lload_spec.specs.Settings.{Settings}
use Rattle.lload_spec.proofs.Growth.{left, right, both}
use Rattle.lload_laws.specs.ConnectionGrowth.{later_sending}
use Rattle.lload_laws.proofs.ConnectionGrowth.{sendings_grow}
use Rattle.lload_laws.proofs.ListLaws.{all_imply, any-map, any_imply, passes_imply}
use Rattle.part_laws.proofs.ListLaws.{any_before, implies_stays}
use Rattle.part_spec.specs.BindTurn.{was_lost}
use Rattle.part_spec.specs.ConnectionState.{ConnectionState, UpRow, is_abandoned_by, is_bind}
use Rattle.part_spec.specs.ConnectionTurn.{ended, holder_ended, loss}
use Rattle.part_spec.specs.Gives.{connection_letters, abandoned_ended, missed_of}
use Rattle.part_spec.specs.Inputs.{failed, to}
use Rattle.part_spec.specs.Marked.{Taken}
use Rattle.connection_laws.proofs.Closings.{final_more, who_more, extended_push}
use Rattle.carried_laws.specs.Laws.{is_reply_right, is_settled_so, tells_rightly}
use Rattle.carried_laws.proofs.BindReplies.{are_replies_right}

-- What settles a Sent stays as its list grows.

closing_text : Settings → Operation → Option Final → Option (List ℕ)
closing_text s o q = elim q [ None ↦ None | Some f ↦ closing_by s o f ]

who_stays : (es : List Entry) (e : Entry) (a : List ℕ) → who_answer es ≡ Some a → who_answer (es ++ e ∷ []) ≡ Some a
who_stays es e a h = by (who_id es) refl h
  where
    by : (o : Option ℕ) → who_id es ≡ o → (elim o [ None ↦ None | Some id ↦ extended_under id es ]) ≡ Some a → who_answer (es ++ e ∷ []) ≡ Some a
    by None k j = absurd (let bad : None ≡ Some a = j in cc)
    by (Some w) k j = ap (λ o. elim o [ None ↦ None | Some id ↦ extended_under id (es ++ e ∷ []) ]) (who_more es e w k) ∙ extended_push w es e ∙ ap (λ o. option_or o (extended_under w (e ∷ []))) j

pub closing_stays : (s : Settings) (o : Operation) (sent : Sending) (e : Entry) (a : List ℕ) → closing_at s o sent ≡ Some a → closing_at s o (later_sending e sent) ≡ Some a
closing_stays s o sent e a h = by (final_answer o sent) refl h
  where
    settles : (f : Final) (b c : Bool) → (if b then None else if c then who_answer f.behind else Some f.rest) ≡ Some a → (if b then None else if c then who_answer (f.behind ++ e ∷ []) else Some f.rest) ≡ Some a
    settles f true c k = k
    settles f false true k = who_stays f.behind e a k
    settles f false false k = k

    by : (q : Option Final) → final_answer o sent ≡ q → (elim q [ None ↦ None | Some f ↦ closing_by s o f ]) ≡ Some a → closing_at s o (later_sending e sent) ≡ Some a
    by None k j = absurd (let bad : None ≡ Some a = j in cc)
    by (Some f) k j = ap (λ q. elim q [ None ↦ None | Some g ↦ closing_by s o g ]) (final_more o.request sent.id sent.behind e f k) ∙ settles f (is_of Bind o && is_none (result_code f.rest)) (is_kept_back (asks_who s o) f.rest) j

settled_later : (s : Settings) (op : OpName) (who : Option (List ℕ)) (o : Operation) (e : Entry) (sent : Sending) → is_settled_so s op who o sent ≡ true → is_settled_so s op who o (later_sending e sent) ≡ true
settled_later s op who o e sent h = both (same_op op sent.op) _ (left (same_op op sent.op) _ h) (by (closing_at s o sent) refl (right (same_op op sent.op) _ h))
  where
    by : (q : Option (List ℕ)) → closing_at s o sent ≡ q → passes (λ a. same_who who (who_value a)) q ≡ true → passes (λ a. same_who who (who_value a)) (closing_at s o (later_sending e sent)) ≡ true
    by None k j = absurd (let bad : false ≡ true = j in cc)
    by (Some a) k j = ap (passes (λ x. same_who who (who_value x))) (closing_stays s o sent e a k) ∙ j

settled_grows : (s : Settings) (op : OpName) (who : Option (List ℕ)) (o : Operation) (u : ℕ) (L : List Entry) (e : Entry) → list_any (is_settled_so s op who o) (sendings u L) ≡ true → list_any (is_settled_so s op who o) (sendings u (L ++ e ∷ [])) ≡ true
settled_grows s op who o u L e h = ap (list_any (is_settled_so s op who o)) (sendings_grow u L e) ∙ any_before (is_settled_so s op who o) (map (later_sending e) (sendings u L)) (sending_made u L e [] (sent_message e.what)) (any-map (is_settled_so s op who o) (later_sending e) (sendings u L) ∙ any_imply (is_settled_so s op who o) (λ x. is_settled_so s op who o (later_sending e x)) (sendings u L) (settled_later s op who o e) h)

reply_grows : (s : Settings) (F : Family) (u : ℕ) (L : List Entry) (e : Entry) (x : Letter) → is_reply_right s F (sendings u L) x ≡ true → is_reply_right s F (sendings u (L ++ e ∷ [])) x ≡ true
reply_grows s F u L e (Reply op rest is_last who) h = passes_imply (tells_rightly s op rest who (sendings u L)) (tells_rightly s op rest who (sendings u (L ++ e ∷ []))) (operation F op) (λ o k. implies_stays (asks_who s o && (is_final_for o.request rest && has_code success rest)) (list_any (is_settled_so s op who o) (sendings u L)) (list_any (is_settled_so s op who o) (sendings u (L ++ e ∷ []))) (settled_grows s op who o u L e) k) h
reply_grows s F u L e _ h = refl

pub reply_later : (s : Settings) (F : Family) (u : ℕ) (L M : List Entry) (x : Letter) → is_reply_right s F (sendings u L) x ≡ true → is_reply_right s F (sendings u (L ++ M)) x ≡ true
reply_later s F u L [] x h = subst (λ l. is_reply_right s F (sendings u l) x ≡ true) (sym (append-nil L)) h
reply_later s F u L (e ∷ M) x h = subst (λ l. is_reply_right s F (sendings u l) x ≡ true) (append_assoc L (e ∷ []) M) (reply_later s F u (L ++ e ∷ []) M x (reply_grows s F u L e x h))

pub replies_later : (s : Settings) (F : Family) (u : ℕ) (L M : List Entry) (xs : List Posted) → are_replies_right s F (sendings u L) xs ≡ true → are_replies_right s F (sendings u (L ++ M)) xs ≡ true
replies_later s F u L M xs h = all_imply (λ x. is_reply_right s F (sendings u L) x.letter) (λ x. is_reply_right s F (sendings u (L ++ M)) x.letter) xs (λ x k. reply_later s F u L M x.letter k) h

-- What isn't a message gives no answer.
module _ (s : Settings) (F : Family) (sents : List Sending) (p : ConnectionState) where
  abbrev Right : List Posted → Type 0
  Right xs = are_replies_right s F sents xs ≡ true

  both_right : (xs ys : List Posted) → Right xs → Right ys → Right (xs ++ ys)
  both_right xs ys h k = list_all-append (λ (x : Posted). is_reply_right s F sents x.letter) xs ys ∙ both (are_replies_right s F sents xs) _ h k

  flat_right : (f : UpRow → List Posted) (rows : List UpRow) → ((r : UpRow) → Right (f r)) → Right (flat_map f rows)
  flat_right f [] h = refl
  flat_right f (r ∷ rows) h = both_right (f r) (flat_map f rows) (h r) (flat_right f rows h)

  holder_right : Right (holder_ended p)
  holder_right = by p.holder
    where
      by : (o : Option OpName) → Right (elim o [ None ↦ [] | Some x ↦ ended p x None ])
      by None = refl
      by (Some x) = refl

  own_ends : (rest : List ℕ) (r : UpRow) → Right (abandoned_ended p rest r)
  own_ends rest r = by (is_abandoned_by rest r) (is_bind p)
    where
      by : (a b : Bool) → Right (elim a [ true ↦ elim b [ true ↦ [] | false ↦ ended p r.op None ] | false ↦ [] ])
      by true true = refl
      by true false = refl
      by false b = refl

  expired_right : (o : OpName) (k : ConnKind) → Right (elim k [ Regular ↦ ended p o None | BindKind ↦ [] ])
  expired_right o Regular = refl
  expired_right o BindKind = refl

  missed_right : (o : OpName) (x : Letter) → Right (missed_of p o x)
  missed_right o (Forward q sort rest ask holder) = by p.kind (was_lost p holder)
    where
      by : (k : ConnKind) (b : Bool) → Right (elim k [ Regular ↦ failed o C4 ++ ended p o None | BindKind ↦ failed o C4 ++ elim b [ true ↦ [] | false ↦ ended p holder None ] ])
      by Regular b = refl
      by BindKind true = refl
      by BindKind false = refl
  missed_right o _ = refl

  loss_right : (r : UpRow) → Right (loss p r)
  loss_right r = by (is_bind p)
    where
      by : (b : Bool) → Right (failed r.op C4 ++ elim b [ true ↦ [] | false ↦ ended p r.op None ])
      by true = refl
      by false = refl

  pub other_right : (at : ℕ) (mark : Option Taken) (w : What) → is_none (got_message w) ≡ true → Right (connection_letters s p at mark w)
  other_right at mark (what.Got id rest) h = absurd (let bad : false ≡ true = h in cc)
  other_right at mark (what.Own id rest) h = flat_right (abandoned_ended p rest) p.rows (own_ends rest)
  other_right at mark (what.Expired o) h = expired_right o p.kind
  other_right at None (what.Missed o) h = refl
  other_right at (Some t) (what.Missed o) h = missed_right o t.letter
  other_right at mark (what.Down why) h = both_right (flat_map (loss p) p.rows) (holder_ended p ++ to Desk (IsDown p.number)) (flat_right (loss p) p.rows loss_right) (both_right (holder_ended p) (to Desk (IsDown p.number)) holder_right refl)
  other_right at mark _ h = refl
