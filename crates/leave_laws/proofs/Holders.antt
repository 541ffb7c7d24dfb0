-- Where a bind connection's state has a holder, its list has the holder's client: from entry to entry.
use Rattle.std.proofs.Common.{◌≡◌, ℕ, Bool, true, false, ◌==◌, ◌&&◌, not, List, [], ◌∷◌, ◌++◌, refl, ap, ◌∙◌, sym, subst}
use Rattle.std.specs.Prelude.{Option, Some, None, is_some, map, option_map}
use Rattle.std.specs.List.{list_any}
use Rattle.std.proofs.lemmas.List.{append-nil}
use Rattle.ldap_spec.specs.Messages.{Message}
use Rattle.lload_names.specs.declared.names.Entry.{Entry}
use Rattle.lload_names.specs.declared.names.OpName.{OpName}
use Rattle.lload_names.specs.declared.names.PartName.{PartName}
use Rattle.lload_names.specs.declared.names.What.TheVariants as what
use Rattle.lload_spec.specs.Answers.{Sending, closing_at, sendings}
use Rattle.lload_spec.specs.CausedUp.{is_holding}
use Rattle.lload_spec.specs.Entries.{got_message, sent_message}
use Rattle.lload_spec.specs.Journal.{Family}
use Rattle.lload_spec.specs.Lists.{last, passes}
use Rattle.lload_spec.specs.Operations.{Operation, operation}
use Rattle.lload_spec.specs.Settings.{Settings}
use Rattle.lload_spec.proofs.Growth.{left}
use Rattle.lload_laws.specs.ConnectionGrowth.{later_sending}
use Rattle.lload_laws.proofs.ConnectionGrowth.{sendings_grow}
use Rattle.part_laws.proofs.ListLaws.{false_by, last_push, or_left}
use Rattle.part_spec.specs.ConnectionState.{ConnectionState, UpRow, frees_holder, is_bind_row, lets_go}
use Rattle.connection_laws.proofs.Closings.{is_closed}
use Rattle.bind_laws.proofs.Lone.{is_lone}
use Rattle.bind_laws.proofs.Sents.{IsLive}
use Rattle.bind_laws.proofs.Tells.{RowsAre, SentsAre}
use Rattle.identity_laws.proofs.BoundOut.{each_end}
use Rattle.identity_laws.proofs.Letters.{each_of}
use Rattle.upstream_laws.proofs.Answered.{last_stays}
use Rattle.upstream_laws.proofs.Held.{is_letting}
use Rattle.leave_laws.proofs.Holding.{holds_got, holds_quiet, holds_settled}

-- the last Sent is of the holder's client, and holds the connection
pub record Holding (s : Settings) (F : Family) (h : OpName) (x : Sending) : Type 0 where
  pub o : Operation
  pub found : operation F x.op ≡ Some o
  pub client : x.op.client ≡ h.client
  pub holds : is_holding s o x ≡ true

abbrev pub LastHolding : Settings → Family → Option OpName → Option Sending → Type 0
LastHolding s F None x = Unit {0}
LastHolding s F (Some h) None = ⊥
LastHolding s F (Some h) (Some x) = Holding s F h x

module _ (s : Settings) (F : Family) (u : ℕ) (place : List Entry) where
  -- an entry that leaves the holder
  pub holding_quiet : (e : Entry) (h : Option OpName) → sent_message e.what ≡ None → got_message e.what ≡ None → is_letting e ≡ false → LastHolding s F h (last (sendings u place)) → LastHolding s F h (last (sendings u (place ++ e ∷ [])))
  holding_quiet e h sent got stays k = subst (LastHolding s F h) (sym (last_stays u place e sent)) (by h (last (sendings u place)) k)
    where
      by : (n : Option OpName) (o : Option Sending) → LastHolding s F n o → LastHolding s F n (option_map (later_sending e) o)
      by None o j = tt
      by (Some n) None j = absurd j
      by (Some n) (Some x) j = record { o = j.o; found = j.found; client = j.client; holds = holds_quiet s j.o x e got stays j.holds }

  -- a Sent
  pub holding_sent : (part : PartName) (at id : ℕ) (op : OpName) (rest : List ℕ) (h : OpName) (t : Operation → Bool) → passes t (operation F op) ≡ true → op.client ≡ h.client → LastHolding s F (Some h) (last (sendings u (place ++ record { part = part; at = at; what = what.Sent id op rest } ∷ [])))
  holding_sent part at id op rest h t found client = subst (LastHolding s F (Some h)) (sym (ap last (sendings_grow u place sends) ∙ last_push (map (later_sending sends) (sendings u place)) new)) (by (operation F op) refl found)
    where
      sends : Entry
      sends = record { part = part; at = at; what = what.Sent id op rest }

      new : Sending
      new = record { connection = u; op = op; id = id; at = at; rest = rest; before = place; behind = [] }

      by : (o : Option Operation) → operation F op ≡ o → passes t o ≡ true → Holding s F h (record { connection = u; op = op; id = id; at = at; rest = rest; before = place; behind = [] })
      by None e k = absurd (let bad : false ≡ true = k in cc)
      by (Some o) e k = record { o = o; found = e; client = client; holds = refl }

module _ (s : Settings) (F : Family) (u : ℕ) (place : List Entry) (p : ConnectionState) (own : p.own_bind ≡ None) (lone : is_lone p.rows ≡ true) (known : SentsAre s F u place p.ids.next p.rows []) (part : PartName) (at id : ℕ) (rest : List ℕ) where
  abbrev got : Entry
  got = record { part = part; at = at; what = what.Got id rest }

  abbrev m : Message
  m = record { id = id; rest = rest }

  -- a message that doesn't let the holder go
  pub holding_got : (h : Option OpName) → frees_holder p (record { id = id; rest = rest }) ≡ false → LastHolding s F h (last (sendings u place)) → LastHolding s F h (last (sendings u (place ++ got ∷ [])))
  holding_got h frees k = subst (LastHolding s F h) (sym (last_stays u place got refl)) (by h (last (sendings u place)) refl k)
    where
      lets : list_any (lets_go m) p.rows ≡ false
      lets = sym (ap (λ o. not (passes (λ v. v.id == id) o) && list_any (lets_go m) p.rows) own) ∙ frees

      holds : (x : Sending) → last (sendings u place) ≡ Some x → (o : Operation) → operation F x.op ≡ Some o → is_holding s o x ≡ true → is_holding s o (later_sending got x) ≡ true
      holds x e o found j = rows p.rows known.live refl lone known.are lets
        where
          rows : (rs : List UpRow) (live : List Sending) → known.live ≡ live → is_lone rs ≡ true → RowsAre s F p.ids.next rs live [] → list_any (lets_go m) rs ≡ false → is_holding s o (later_sending got x) ≡ true
          rows [] [] z b a i = holds_settled s o x got refl closed j
            where
              shut : is_closed s F x ≡ true
              shut = each_end (λ y. is_closed s F y ≡ true) known.done x (sym (ap last (known.split ∙ ap (λ xs. known.done ++ xs) z ∙ append-nil known.done)) ∙ e) (each_of (λ y. is_closed s F y ≡ true) (is_closed s F) known.done (λ y q. q) known.closed)

              closed : is_some (closing_at s o x) ≡ true
              closed = sym (ap (passes (λ q. is_some (closing_at s q x))) found) ∙ shut
          rows [] (y ∷ live) z b a i = absurd a
          rows (r ∷ []) [] z b a i = absurd a
          rows (r ∷ []) (y ∷ []) z b a i =
              let same : y ≡ x = (let ends : Some y ≡ Some x = sym (last_push known.done y) ∙ sym (ap last (known.split ∙ ap (λ xs. known.done ++ xs) z)) ∙ e in cc) in
              let live : IsLive s F p.ids.next r x [] = subst (λ v. IsLive s F p.ids.next r v []) same a in
              let this : live.o ≡ o = (let founds : Some live.o ≡ Some o = sym live.found ∙ found in cc) in
              let stays : lets_go m r ≡ false = false_by (lets_go m r) (λ q. sym i ∙ or_left (lets_go m r) false q) in
              subst (λ q. is_holding s q (later_sending got x) ≡ true) this (holds_got s F p.ids.next r x live (left (is_bind_row r) _ b) part at m stays (subst (λ q. is_holding s q x ≡ true) (sym this) j))
          rows (r ∷ []) (y ∷ w ∷ live) z b a i = absurd a
          rows (r ∷ q ∷ rs) live z b a i = absurd a

      by : (n : Option OpName) (o : Option Sending) → last (sendings u place) ≡ o → LastHolding s F n o → LastHolding s F n (option_map (later_sending got) o)
      by None o e j = tt
      by (Some n) None e j = absurd j
      by (Some n) (Some x) e j = record { o = j.o; found = j.found; client = j.client; holds = holds x e j.o j.found j.holds }
