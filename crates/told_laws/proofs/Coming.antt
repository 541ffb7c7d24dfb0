-- A row of a bind connection behind a message: it is gone, or its Sent waits still.
use Rattle.std.proofs.Common.{◌≡◌, inl, inr, ℕ, Bool, true, false, ◌==◌, ◌&&◌, ◌||◌, List, [], ◌∷◌, ◌++◌, refl, ap, ◌∙◌, sym, subst}
use Rattle.std.specs.Prelude.{Option, Some, None, is_none, is_some, if◌then◌else◌}
use Rattle.std.specs.Option.{option_map}
use Rattle.ldap_spec.specs.Bodies.{abandon, who_am_i}
use Rattle.ldap_spec.specs.Kinds.{fits, is_final, kind_of, same_kind}
use Rattle.ldap_spec.specs.Messages.{Message}
use Rattle.ldap_spec.specs.Responses.{result_code}
use Rattle.lload_names.specs.declared.names.EndWhy.TheVariants.{Bad}
use Rattle.lload_names.specs.declared.names.Entry.{Entry}
use Rattle.lload_names.specs.declared.names.OpKind.TheVariants.{Bind}
use Rattle.lload_names.specs.declared.names.PartName.{PartName}
use Rattle.lload_names.specs.declared.names.What.TheVariants as what
use Rattle.lload_spec.specs.Answers.{Final, Sending, asks_who, closing_at, closing_by, final_answer, is_kept_back, who_answer}
use Rattle.lload_spec.specs.Entries.{is_down, is_expired, is_own}
use Rattle.lload_spec.specs.Journal.{Family}
use Rattle.lload_spec.specs.Lists.{first_passes, passes}
use Rattle.lload_spec.specs.Operations.{is_final_for, is_of}
use Rattle.lload_spec.specs.Settings.{Settings}
use Rattle.lload_spec.proofs.Growth.{right}
use Rattle.lload_laws.specs.ConnectionGrowth.{later_sending}
use Rattle.lload_laws.proofs.ListLaws.{bytes_same}
use Rattle.part_laws.proofs.ListLaws.{none_of_both, or_left}
use Rattle.part_spec.specs.ConnectionState.{Kept, UpRow, behind_message, is_bind_row, is_under}
use Rattle.part_spec.specs.Share.{succeeds}
use Rattle.connection_laws.proofs.Apart.{Shrinks, shrinks_message}
use Rattle.connection_laws.proofs.Closings.{final_more, final_push, who_more}
use Rattle.bind_laws.proofs.Gots.{Comes, live_got}
use Rattle.bind_laws.proofs.Sents.{IsAnswered, IsAsked, IsLive, any_next}
use Rattle.client_answer_laws.proofs.Each.{Each}
use Rattle.rows_laws.proofs.Live.{none_imply}
use Rattle.rows_laws.proofs.Somewhere.{OneIn}
use Rattle.told_laws.proofs.Waiting.{OpenBind, Waits, open_live, who_text}

module _ (s : Settings) (F : Family) (n : ℕ) (r : UpRow) (x : Sending) (l : IsLive s F n r x []) (bind : is_bind_row r ≡ true) (part : PartName) (at : ℕ) (m : Message) where
  abbrev got : Entry
  got = record { part = part; at = at; what = what.Got m.id m.rest }

  abbrev down : Entry
  down = record { part = part; at = at; what = what.Down Bad }

  abbrev who : Entry
  who = record { part = part; at = at; what = what.Own 0 who_am_i }

  comes : (ms : List Entry) → (succeeds m r ≡ true → first_passes (is_own who_am_i) ms ≡ true) → ((r.id == m.id) ≡ true → is_final Bind m.rest ≡ true → is_none (result_code m.rest) ≡ true → is_none r.kept ≡ true → first_passes is_down ms ≡ true) → Comes s F n l.o (behind_message at m r) (later_sending got x) ms
  comes ms f g =
      let later : IsLive s F n r x (got ∷ ms) = any_next s F n r x (got ∷ ms) l in
      let same : later.o ≡ l.o = (let found : Some later.o ≡ Some l.o = sym later.found ∙ l.found in cc) in
      subst (λ o. Comes s F n o (behind_message at m r) (later_sending got x) ms) same (live_got s F n r x got ms later bind at m refl refl refl refl f g)

  off : (b : Bool) → (b && false) ≡ false
  off true = refl
  off false = refl

  abbrev here_text : Option (List ℕ) → Option Final
  here_text a = if passes (is_final_for l.o.request) a then option_map (λ q. record { rest = q; behind = [] }) a else None

  abbrev closing_text : Option Final → Option (List ℕ)
  closing_text q = elim q [ None ↦ None | Some f ↦ closing_by s l.o f ]

  -- an unreadable code settles nothing
  module _ (uncoded : is_none (result_code m.rest) ≡ true) (unsettled : is_some (closing_at s l.o (later_sending got x)) ≡ false) where
    none_of : (q : Option (List ℕ)) → is_some q ≡ false → q ≡ None
    none_of None k = refl
    none_of (Some q) k = absurd (let bad : true ≡ false = k in cc)

    first_waits : final_answer l.o x ≡ None → Waits s l.o (later_sending got x)
    first_waits e = by (m.id == x.id && passes (λ kind. fits kind m.rest) (kind_of l.o.request.rest)) (final_push l.o.request x.id x.behind got e l.reigns)
      where
        by : (b : Bool) → final_answer l.o (later_sending got x) ≡ here_text (if b then Some m.rest else None) → Waits s l.o (later_sending got x)
        by false k = inl k
        by true k = one (is_final_for l.o.request m.rest) k
          where
            ended : Final
            ended = record { rest = m.rest; behind = [] }

            one : (c : Bool) → final_answer l.o (later_sending got x) ≡ (if c then Some ended else None) → Waits s l.o (later_sending got x)
            one true j = inr (record { rest = m.rest; es = []; final = j; still = inl uncoded })
            one false j = inl j

    kept_waits : (k : Kept) → IsAnswered s l.o x (Some k) [] → Waits s l.o (later_sending got x)
    kept_waits k a = by k.who a.asked
      where
        final : final_answer l.o (later_sending got x) ≡ Some (record { rest = k.rest; behind = a.es ++ got ∷ [] })
        final = final_more l.o.request x.id x.behind got (record { rest = k.rest; behind = a.es }) a.final

        closes : closing_at s l.o (later_sending got x) ≡ who_answer (a.es ++ got ∷ [])
        closes =
            ap closing_text final
            ∙ ap (λ b. if b then None else if is_kept_back (asks_who s l.o) k.rest then who_answer (a.es ++ got ∷ []) else Some k.rest) (ap (λ b. is_of Bind l.o && b) a.code ∙ off (is_of Bind l.o))
            ∙ ap (λ b. if b then who_answer (a.es ++ got ∷ []) else Some k.rest) a.back

        by : (w : Option ℕ) → IsAsked w a.es [] → Waits s l.o (later_sending got x)
        by None q = absurd (let bad : false ≡ true = q.1 in cc)
        by (Some w) q =
            inr (record {
              rest = k.rest;
              es = a.es ++ got ∷ [];
              final = final;
              still = inr (a.back, inr (record { w = w; asked = who_more a.es got w q.0; untold = sym (ap (who_text (a.es ++ got ∷ [])) (who_more a.es got w q.0)) ∙ sym closes ∙ none_of (closing_at s l.o (later_sending got x)) unsettled }));
            })

    uncoded_waits : Waits s l.o (later_sending got x)
    uncoded_waits = by r.kept l.answer
      where
        by : (k : Option Kept) → IsAnswered s l.o x k [] → Waits s l.o (later_sending got x)
        by None a = first_waits a
        by (Some k) a = kept_waits k a

  abbrev Rows : List UpRow → Type 0
  Rows rs = Each (λ q. OneIn (λ y. OpenBind s F q y) (later_sending got x ∷ [])) (rs ++ [])

  -- the rows that are left of it
  pub row_opens : Rows (behind_message at m r)
  row_opens = by (is_none (result_code m.rest)) refl
    where
      coded : (o : Option ℕ) → passes (λ c. c == 0) o ≡ true → is_none o ≡ true → false ≡ true
      coded None i j = i
      coded (Some c) i j = j

      by : (b : Bool) → is_none (result_code m.rest) ≡ b → Rows (behind_message at m r)
      by false e = done (comes (who ∷ []) (λ j. bytes_same who_am_i) (λ a b c d. absurd (let bad : false ≡ true = sym e ∙ c in cc)))
        where
          done : Comes s F n l.o (behind_message at m r) (later_sending got x) (who ∷ []) → Rows (behind_message at m r)
          done (inl c) = subst Rows (sym c.0) tt
          done (inr c) = subst Rows (sym c.is) (inl (open_live s F n c.row (later_sending got x) (who ∷ []) (c.live refl)), tt)
      by true e = done (comes (down ∷ []) (λ j. absurd (let bad : false ≡ true = coded (result_code m.rest) (right r.ask_who _ (right (is_bind_row r) _ (right (is_final r.kind m.rest) _ (right (is_under m.id r) _ j)))) e in cc)) (λ a b c d. refl))
        where
          op_stays : (q : UpRow) → behind_message at m r ≡ q ∷ [] → r.op ≡ q.op
          op_stays q k = (subst (Shrinks r) k (shrinks_message at m r)).1

          done : Comes s F n l.o (behind_message at m r) (later_sending got x) (down ∷ []) → Rows (behind_message at m r)
          done (inl c) = subst Rows (sym c.0) tt
          done (inr c) =
              subst Rows (sym c.is) (
                inl (record {
                  o = l.o;
                  found = l.found;
                  bind = ap (passes (same_kind Bind)) l.kind;
                  op = l.op ∙ op_stays c.row c.is;
                  unexpired = none_of_both (is_expired l.o.name) x.behind (got ∷ []) (none_imply (is_expired l.o.name) (λ e. is_expired l.o.name e || is_own (abandon x.id) e) x.behind (λ y k. or_left (is_expired l.o.name y) _ k) l.going) refl;
                  waits = uncoded_waits e c.unsettled;
                }),
                tt,
              )
