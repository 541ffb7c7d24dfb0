-- Each end of a bind connection has its cause, but for an exchange that its client left.
use Rattle.std.proofs.Common.{◌≡◌, ◌⊎◌, inl, inr, ℕ, Bool, true, false, ◌==◌, ◌&&◌, ◌||◌, not, List, [], ◌∷◌, ◌++◌, refl, ap, ◌∙◌, sym, subst}
use Rattle.std.specs.Prelude.{Option, Some, None, cond, map, filter, flat_map, is_none, is_some, if◌then◌else◌, option_map}
use Rattle.std.specs.List.{list_any, list_all}
use Rattle.std.specs.Str.{bytes_eq}
use Rattle.std.proofs.lemmas.List.{append-nil, map-append}
use Rattle.ldap_spec.specs.Bodies.{abandon, who_am_i}
use Rattle.ldap_spec.specs.Kinds.{fits, is_final, is_intermediate, tag_of}
use Rattle.ldap_spec.specs.Responses.{has_code, result_code}
use Rattle.ldap_spec.specs.Messages.{Message}
use Rattle.lload_names.specs.declared.names.Entry.{Entry}
use Rattle.lload_names.specs.declared.names.OpKind.TheVariants.{Bind}
use Rattle.lload_names.specs.declared.names.OpName.{OpName}
use Rattle.lload_names.specs.declared.names.PartName.{PartName}
use Rattle.lload_names.specs.declared.names.What.{What}
use Rattle.lload_names.specs.declared.names.What.TheVariants as what
use Rattle.lload_spec.specs.Answers.{Sending, closing_at, is_left_in_progress, is_open, of_operation, sending_made, sendings}
use Rattle.lload_spec.specs.CausedUp.{is_holding}
use Rattle.lload_spec.specs.Entries.{is_down, is_expired, sent_message}
use Rattle.lload_spec.specs.Journal.{Family, same_op}
use Rattle.lload_spec.specs.Lists.{last, passes}
use Rattle.lload_spec.specs.Operations.{Operation, operation}
use Rattle.lload_spec.specs.Settings.{Settings}
use Rattle.lload_spec.proofs.Growth.{left, right}
use Rattle.lload_laws.specs.ConnectionGrowth.{later_sending}
use Rattle.lload_laws.proofs.ConnectionGrowth.{sendings_grow}
use Rattle.part_laws.proofs.ListLaws.{any_behind, last_push, not_true, or_elim, or_left, same_op_eq, same_op_refl}
use Rattle.part_spec.specs.ConnectionState.{ConnectionState, Kept, UpRow, behind_message, behind_own, frees_holder, step_connection, is_bind_row, is_under, is_under_own, is_under_who, keeps_back, lets_go}
use Rattle.connection_laws.proofs.Closings.{closed_stay, is_closed}
use Rattle.bind_laws.proofs.Lone.{is_lone}
use Rattle.bind_laws.proofs.Meets.{bind_kind}
use Rattle.bind_laws.proofs.Sents.{IsLive}
use Rattle.bind_laws.proofs.Tells.{RowsAre, SentsAre}
use Rattle.caused_laws.proofs.Holders.{HeldBy, Holds, Inv, IsOver, LastHolds, inv_got}
use Rattle.client_answer_laws.proofs.Each.{Each, each_append, each_imply, each_map}
use Rattle.rows_laws.proofs.Live.{opened_before}
use Rattle.rows_laws.proofs.Lives.{down_shut, is_open_in}
use Rattle.rows_laws.proofs.Somewhere.{OneIn, filter_flat, one_flat}
use Rattle.rows_laws.proofs.Steps.{expired_shut, op_named, settled_shut}
use Rattle.rows_laws.proofs.Walk.{each_row}
use Rattle.upstream_laws.proofs.Answered.{Said, last_stays}
use Rattle.upstream_laws.proofs.Held.{gone_closed, is_letting, let_go, settled_unheld, unheld_later}

-- a Sent that is open has a row
abbrev pub Rowed : Settings → Family → List UpRow → Sending → Type 0
Rowed s F rows x = is_open_in s F x ≡ true → OneIn (λ r. x.op ≡ r.op) rows

-- the last Sent doesn't hold the connection
abbrev pub Unheld : Settings → Family → Option Sending → Type 0
Unheld s F None = Unit {0}
Unheld s F (Some x) = of_operation F (is_holding s) x ≡ false

pub unheld_more : (s : Settings) (F : Family) (e : Entry) (o : Option Sending) → Unheld s F o → Unheld s F (option_map (later_sending e) o)
unheld_more s F e None h = tt
unheld_more s F e (Some x) h = unheld_later s F e x h

pub unheld_behind : (s : Settings) (F : Family) (e : Entry) (o : Option Sending) → is_letting e ≡ true → Unheld s F (option_map (later_sending e) o)
unheld_behind s F e None h = tt
unheld_behind s F e (Some x) h = let_go s F (later_sending e x) (any_behind is_letting x.behind (e ∷ []) (or_left (is_letting e) false h))

module _ (s : Settings) (F : Family) (e : Entry) where
  -- the Sents with an entry more, where each row stays, or what becomes of it
  rowed_flat : (Ok : UpRow → Type 0) (f : UpRow → List UpRow) (rows : List UpRow) (sents : List Sending) → Each Ok rows → ((r : UpRow) → Ok r → (x : Sending) → is_open_in s F (later_sending e x) ≡ true → x.op ≡ r.op → OneIn (λ q. x.op ≡ q.op) (f r)) → Each (Rowed s F rows) sents → Each (Rowed s F (flat_map f rows)) (map (later_sending e) sents)
  rowed_flat Ok f rows sents ok go h = each_map (Rowed s F (flat_map f rows)) (later_sending e) sents (each_imply (Rowed s F rows) (λ x. Rowed s F (flat_map f rows) (later_sending e x)) sents (λ x k o. one_flat (λ r. x.op ≡ r.op) Ok (λ q. x.op ≡ q.op) f rows ok (λ r a i. go r a x o i) (k (opened_before s F e x o))) h)

  rowed_same : (rows : List UpRow) (sents : List Sending) → Each (Rowed s F rows) sents → Each (Rowed s F rows) (map (later_sending e) sents)
  rowed_same rows sents h = each_map (Rowed s F rows) (later_sending e) sents (each_imply (Rowed s F rows) (λ x. Rowed s F rows (later_sending e x)) sents (λ x k o. k (opened_before s F e x o)) h)

  rowed_down : is_down e ≡ true → (sents : List Sending) → Each (Rowed s F []) (map (later_sending e) sents)
  rowed_down d [] = tt
  rowed_down d (x ∷ sents) = (λ o. absurd (let bad : false ≡ true = down_shut s F e d x o in cc), rowed_down d sents)

  rowed_closed : (rows : List UpRow) (sents : List Sending) → list_all (is_closed s F) sents ≡ true → Each (Rowed s F rows) sents
  rowed_closed rows [] h = tt
  rowed_closed rows (x ∷ sents) h = (λ o. absurd (let bad : false ≡ true = shut (operation F x.op) refl (left (is_closed s F x) _ h) o in cc), rowed_closed rows sents (right (is_closed s F x) _ h))
    where
      shut : (q : Option Operation) → operation F x.op ≡ q → passes (λ o. is_some (closing_at s o x)) q ≡ true → is_open_in s F x ≡ true → false ≡ true
      shut None z k o = k
      shut (Some q) z k o = sym (settled_shut s F x q z k) ∙ o

-- Behind an entry of each kind.
module _ (s : Settings) (F : Family) (u : ℕ) (place : List Entry) (part : PartName) (at : ℕ) (rows : List UpRow) (h : Each (Rowed s F rows) (sendings u place)) where
  abbrev entry : What → Entry
  entry w = record { part = part; at = at; what = w }

  abbrev after : What → List UpRow → Type 0
  after w rs = Each (Rowed s F rs) (sendings u (place ++ entry w ∷ []))

  pub unsent : (w : What) (rs : List UpRow) → sent_message w ≡ None → Each (Rowed s F rs) (map (later_sending (entry w)) (sendings u place)) → after w rs
  unsent w rs none k = subst (Each (Rowed s F rs)) (sym (sendings_grow u place (entry w) ∙ ap (λ o. map (later_sending (entry w)) (sendings u place) ++ sending_made u place (entry w) [] o) none ∙ append-nil (map (later_sending (entry w)) (sendings u place)))) k

  pub rowed_idle : (w : What) → sent_message w ≡ None → after w rows
  rowed_idle w none = unsent w rows none (rowed_same s F (entry w) rows (sendings u place) h)

  pub rowed_ended : (w : What) → sent_message w ≡ None → is_down (entry w) ≡ true → after w []
  rowed_ended w none d = unsent w [] none (rowed_down s F (entry w) d (sendings u place))

  -- no own message abandons a Bind
  pub rowed_own : list_all is_bind_row rows ≡ true → (id : ℕ) (rest : List ℕ) → after (what.Own id rest) (flat_map (behind_own (record { id = id; rest = rest })) rows)
  rowed_own binds id rest = unsent (what.Own id rest) (flat_map (behind_own (record { id = id; rest = rest })) rows) refl (rowed_flat s F (entry (what.Own id rest)) (λ r. is_bind_row r ≡ true) (behind_own (record { id = id; rest = rest })) rows (sendings u place) (each_row is_bind_row rows binds) (λ r b x o i. stays r b x i) h)
    where
      stays : (r : UpRow) → is_bind_row r ≡ true → (x : Sending) → x.op ≡ r.op → OneIn (λ q. x.op ≡ q.op) (behind_own (record { id = id; rest = rest }) r)
      stays r b x i = by (bytes_eq rest who_am_i && passes (λ k. is_none k.who) r.kept)
        where
          kept_rows : Bool → Bool → List UpRow
          kept_rows a c = elim a [ true ↦ record r { kept = elim r.kept [ None ↦ None | Some k ↦ Some (record k { who = Some id }) ] } ∷ [] | false ↦ elim (not c && bytes_eq rest (abandon r.id)) [ true ↦ [] | false ↦ r ∷ [] ] ]

          by : (a : Bool) → OneIn (λ q. x.op ≡ q.op) (kept_rows a (is_bind_row r))
          by true = inl i
          by false = subst (λ c. OneIn (λ q. x.op ≡ q.op) (kept_rows false c)) (sym b) (inl i)

  pub rowed_expired : (op : OpName) → after (what.Expired op) (filter (λ r. not (same_op op r.op)) rows)
  rowed_expired op = unsent (what.Expired op) (filter (λ r. not (same_op op r.op)) rows) refl (subst (λ rs. Each (Rowed s F rs) (map (later_sending (entry (what.Expired op))) (sendings u place))) (filter_flat (λ r. not (same_op op r.op)) rows) (rowed_flat s F (entry (what.Expired op)) (λ r. Unit {0}) (λ r. cond (not (same_op op r.op)) (r ∷ []) []) rows (sendings u place) (units rows) (λ r b x o i. stays r x i o) h))
    where
      units : (rs : List UpRow) → Each (λ r. Unit {0}) rs
      units [] = tt
      units (r ∷ rs) = (tt, units rs)

      stays : (r : UpRow) (x : Sending) → x.op ≡ r.op → is_open_in s F (later_sending (entry (what.Expired op)) x) ≡ true → OneIn (λ q. x.op ≡ q.op) (cond (not (same_op op r.op)) (r ∷ []) [])
      stays r x i o = by (same_op op r.op) refl
        where
          none : (q : Option Operation) → operation F x.op ≡ q → same_op op r.op ≡ true → false ≡ true
          none None z e = sym (ap (passes (λ y. is_open s y (later_sending (entry (what.Expired op)) x))) z) ∙ o
          none (Some q) z e = sym (expired_shut s F (later_sending (entry (what.Expired op)) x) q z (any_behind (λ y. is_expired q.name y || is_down y) x.behind (entry (what.Expired op) ∷ []) (or_left (same_op q.name op || false) false (or_left (same_op q.name op) false (ap (λ n. same_op n op) (sym (op_named F x.op q z) ∙ i ∙ sym (same_op_eq op r.op e)) ∙ same_op_refl op))))) ∙ o

          by : (c : Bool) → same_op op r.op ≡ c → OneIn (λ q. x.op ≡ q.op) (cond (not c) (r ∷ []) [])
          by true e = absurd (let bad : false ≡ true = none (operation F x.op) refl e in cc)
          by false e = inl i

  pub rowed_sent : (id : ℕ) (op : OpName) (rest : List ℕ) (r : UpRow) → rows ≡ [] → op ≡ r.op → after (what.Sent id op rest) (r ∷ [])
  rowed_sent id op rest r none same = subst (Each (Rowed s F (r ∷ []))) (sym (sendings_grow u place (entry (what.Sent id op rest)))) (each_append (Rowed s F (r ∷ [])) (map (later_sending (entry (what.Sent id op rest))) (sendings u place)) (record { connection = u; op = op; id = id; at = at; rest = rest; before = place; behind = [] } ∷ []) (each_imply (Rowed s F []) (Rowed s F (r ∷ [])) (map (later_sending (entry (what.Sent id op rest))) (sendings u place)) (λ x k o. absurd (k o)) (rowed_same s F (entry (what.Sent id op rest)) [] (sendings u place) (subst (λ rs. Each (Rowed s F rs) (sendings u place)) none h))) (λ o. inl same, tt))

-- A message, where its turn begins.
module _ (s : Settings) (F : Family) (u : ℕ) (place : List Entry) (p : ConnectionState) (own : p.own_bind ≡ None) (lone : is_lone p.rows ≡ true) (known : SentsAre s F u place p.ids.next p.rows []) (part : PartName) (at id : ℕ) (rest : List ℕ) where
  abbrev got : Entry
  got = record { part = part; at = at; what = what.Got id rest }

  abbrev m : Message
  m = record { id = id; rest = rest }

  pub rowed_got : Said F (flat_map (behind_message at m) p.rows) (last (sendings u (place ++ got ∷ []))) → Each (Rowed s F (flat_map (behind_message at m) p.rows)) (sendings u (place ++ got ∷ []))
  rowed_got said = subst (Each (Rowed s F (flat_map (behind_message at m) p.rows))) (sym grown) (each_append (Rowed s F (flat_map (behind_message at m) p.rows)) (map (later_sending got) known.done) (map (later_sending got) known.live) (rowed_closed s F got (flat_map (behind_message at m) p.rows) (map (later_sending got) known.done) (closed_stay s F got known.done known.closed)) (by p.rows known.live lone known.are (subst (Said F (flat_map (behind_message at m) p.rows)) (last_stays u place got refl ∙ ap (λ xs. option_map (later_sending got) (last xs)) known.split) said)))
    where
      grown : sendings u (place ++ got ∷ []) ≡ map (later_sending got) known.done ++ map (later_sending got) known.live
      grown = sendings_grow u place got ∙ append-nil (map (later_sending got) (sendings u place)) ∙ ap (map (later_sending got)) known.split ∙ map-append (later_sending got) known.done known.live

      by : (rows : List UpRow) (live : List Sending) → is_lone rows ≡ true → RowsAre s F p.ids.next rows live [] → Said F (flat_map (behind_message at m) rows) (option_map (later_sending got) (last (known.done ++ live))) → Each (Rowed s F (flat_map (behind_message at m) rows)) (map (later_sending got) live)
      by [] [] b a k = tt
      by [] (x ∷ live) b a k = absurd a
      by (r ∷ []) [] b a k = absurd a
      by (r ∷ []) (x ∷ []) b a k = (one (behind_message at m r) refl (subst (Said F (behind_message at m r ++ [])) (ap (option_map (later_sending got)) (last_push known.done x)) k), tt)
        where
          one : (rs : List UpRow) → behind_message at m r ≡ rs → Said F (behind_message at m r ++ []) (Some (later_sending got x)) → Rowed s F (behind_message at m r ++ []) (later_sending got x)
          one [] e j o = absurd (let bad : false ≡ true = sym (settled_shut s F (later_sending got x) a.o a.found (gone_closed s F p.ids.next r x a (left (is_bind_row r) _ b) part at m e)) ∙ o in cc)
          one (q ∷ qs) e j o = subst (λ rs. OneIn (λ y. x.op ≡ y.op) (rs ++ [])) (sym e) (inl (subst (λ rs. Said F (rs ++ []) (Some (later_sending got x))) e j).0.op)
      by (r ∷ []) (x ∷ y ∷ live) b a k = absurd a
      by (r ∷ q ∷ rows) live b a k = absurd a

  -- where the message lets the holder go, the row is gone
  module _ (r : UpRow) (bind : is_bind_row r ≡ true) (lets : lets_go m r ≡ true) where
    abbrev text : Bool → Bool → Bool → Bool → Bool → Bool → Bool → Bool → List UpRow
    text under f g b back none who ext =
        elim under [
          | true ↦ elim f [ false ↦ r ∷ [] | true ↦ elim g [ true ↦ elim b [ false ↦ [] | true ↦ elim back [ true ↦ record r { answered = at; kept = Some (record { rest = rest; who = None }) } ∷ [] | false ↦ elim none [ true ↦ record r { answered = at } ∷ [] | false ↦ [] ] ] ] | false ↦ record r { answered = at } ∷ [] ] ]
          | false ↦ elim who [ true ↦ elim ext [ true ↦ [] | false ↦ record r { answered = at } ∷ [] ] | false ↦ r ∷ [] ]
        ]

    sort : r.kind ≡ Bind
    sort = bind_kind r.kind bind

    answered : (is_under id r && (is_final Bind rest && is_some (result_code rest) && not (has_code 14 rest) && not (keeps_back r rest))) ≡ true → behind_message at m r ≡ []
    answered k =
        let tests : (is_final Bind rest && is_some (result_code rest) && not (has_code 14 rest) && not (keeps_back r rest)) ≡ true = right (is_under id r) _ k in
        let coded : (is_final Bind rest && is_some (result_code rest)) ≡ true = left (is_final Bind rest && is_some (result_code rest)) _ (left (is_final Bind rest && is_some (result_code rest) && not (has_code 14 rest)) _ tests) in
        let final : is_final r.kind rest ≡ true = ap (λ n. is_final n rest) sort ∙ left (is_final Bind rest) _ coded in
        ap (λ b. text b (fits r.kind rest) (is_final r.kind rest) (is_bind_row r) (keeps_back r rest) (is_none (result_code rest)) (is_under_who id r) (tag_of rest == 0x78)) (left (is_under id r) _ k) ∙ ap (λ b. text true b (is_final r.kind rest) (is_bind_row r) (keeps_back r rest) (is_none (result_code rest)) (is_under_who id r) (tag_of rest == 0x78)) (or_left (is_final r.kind rest || is_intermediate rest) _ (or_left (is_final r.kind rest) _ final)) ∙ ap (λ b. text true true b (is_bind_row r) (keeps_back r rest) (is_none (result_code rest)) (is_under_who id r) (tag_of rest == 0x78)) final ∙ ap (λ b. text true true true b (keeps_back r rest) (is_none (result_code rest)) (is_under_who id r) (tag_of rest == 0x78)) bind ∙ ap (λ b. text true true true true b (is_none (result_code rest)) (is_under_who id r) (tag_of rest == 0x78)) (not_true (keeps_back r rest) (right (is_final Bind rest && is_some (result_code rest) && not (has_code 14 rest)) _ tests)) ∙ ap (λ b. text true true true true false b (is_under_who id r) (tag_of rest == 0x78)) (some_not (result_code rest) (right (is_final Bind rest) _ coded))
      where
        some_not : (o : Option ℕ) → is_some o ≡ true → is_none o ≡ false
        some_not None j = absurd (let bad : false ≡ true = j in cc)
        some_not (Some c) j = refl

    told : (is_under_who id r && tag_of rest == 0x78) ≡ true → behind_message at m r ≡ []
    told k = ap (λ b. text b (fits r.kind rest) (is_final r.kind rest) (is_bind_row r) (keeps_back r rest) (is_none (result_code rest)) (is_under_who id r) (tag_of rest == 0x78)) (apart r.kept (left (is_under_who id r) _ k)) ∙ ap (λ b. text false (fits r.kind rest) (is_final r.kind rest) (is_bind_row r) (keeps_back r rest) (is_none (result_code rest)) b (tag_of rest == 0x78)) (left (is_under_who id r) _ k) ∙ ap (text false (fits r.kind rest) (is_final r.kind rest) (is_bind_row r) (keeps_back r rest) (is_none (result_code rest)) true) (right (is_under_who id r) _ k)
      where
        none : (b : Bool) → (b && false) ≡ false
        none true = refl
        none false = refl

        apart : (o : Option Kept) → passes (λ w. w == id) (elim o [ None ↦ None | Some q ↦ q.who ]) ≡ true → ((r.id == id) && not (is_some o)) ≡ false
        apart None j = absurd (let bad : false ≡ true = j in cc)
        apart (Some q) j = none (r.id == id)

    pub lets_gone : behind_message at m r ≡ []
    lets_gone = or_elim (is_under id r && (is_final Bind rest && is_some (result_code rest) && not (has_code 14 rest) && not (keeps_back r rest))) (is_under_who id r && tag_of rest == 0x78) answered told (right (is_bind_row r) _ lets)

  pub unheld_got : frees_holder p m ≡ true → Unheld s F (last (sendings u (place ++ got ∷ [])))
  unheld_got frees = subst (Unheld s F) (sym (last_stays u place got refl ∙ ap (λ xs. option_map (later_sending got) (last xs)) known.split)) (by p.rows known.live refl lone known.are (right (not (is_under_own p id)) _ frees))
    where
      -- the same connection, held by the last Sent's operation
      held : OpName → ConnectionState
      held op = record p { holder = Some op; retired = false; down = false }

      over : (r : UpRow) (x : Sending) → last (sendings u place) ≡ Some x → (a : IsLive s F p.ids.next r x []) → is_left_in_progress a.o (later_sending got x) ≡ false
      over r x end a = now (inv_got s F u place (held x.op) part at None m own p.ids.next known.done known.live known.split known.are (inr (subst (Holds F (Some x.op)) (sym end) (record { o = a.o; found = a.found; either = inl (record { by = x.op; holds = refl; client = refl }) }))))
        where
          ends : LastHolds F None (later_sending got x) → is_left_in_progress a.o (later_sending got x) ≡ false
          ends h = by h.either
            where
              same : h.o ≡ a.o
              same = let found : Some h.o ≡ Some a.o = sym h.found ∙ a.found in cc

              by : HeldBy None x.op.client ⊎ IsOver h.o (later_sending got x) → is_left_in_progress a.o (later_sending got x) ≡ false
              by (inl k) = absurd (let bad : None ≡ Some k.by = k.holds in cc)
              by (inr k) = ap (λ o. is_left_in_progress o (later_sending got x)) (sym same) ∙ ap (passes (λ f. has_code 14 f.rest)) k.came ∙ k.code

          now : Inv F u (place ++ got ∷ []) (step_connection s (held x.op) (record { entry = got; mark = None })) → is_left_in_progress a.o (later_sending got x) ≡ false
          now (inl h) = absurd (let bad : false ≡ true = h in cc)
          now (inr h) = ends (subst (Holds F None) (last_stays u place got refl ∙ ap (option_map (later_sending got)) end) (subst (λ b. Holds F (if b then None else Some x.op) (last (sendings u (place ++ got ∷ [])))) frees h))

      by : (rows : List UpRow) (live : List Sending) → known.live ≡ live → is_lone rows ≡ true → RowsAre s F p.ids.next rows live [] → list_any (lets_go m) rows ≡ true → Unheld s F (option_map (later_sending got) (last (known.done ++ live)))
      by [] live e b a k = absurd (let bad : false ≡ true = k in cc)
      by (r ∷ []) [] e b a k = absurd a
      by (r ∷ []) (x ∷ []) e b a k =
          let lets : lets_go m r ≡ true = or_elim (lets_go m r) false (λ j. j) (λ j. absurd (let bad : false ≡ true = j in cc)) k in
          subst (Unheld s F) (sym (ap (option_map (later_sending got)) (last_push known.done x))) (settled_unheld s F (later_sending got x) a.o a.found (gone_closed s F p.ids.next r x a (left (is_bind_row r) _ b) part at m (lets_gone r (left (is_bind_row r) _ b) lets)) (over r x (ap last (known.split ∙ ap (λ xs. known.done ++ xs) e) ∙ last_push known.done x) a))
      by (r ∷ []) (x ∷ y ∷ live) e b a k = absurd a
      by (r ∷ q ∷ rows) live e b a k = absurd a
