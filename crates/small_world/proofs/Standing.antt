-- A world stands for its journal behind each call: nothing began, a part begins, the desk hears, a request is forwarded
-- or refused, and an answer comes, to a live operation or again.
use Rattle.std.proofs.Common.{append_assoc, ◌≡◌, ℕ, suc, ◌+◌, Bool, true, false, ◌||◌, ◌==◌, List, [], ◌∷◌, ◌++◌, length, refl, ap, ◌∙◌, sym, subst, arith}
use Rattle.std.specs.Prelude.{Some, None, if◌then◌else◌, filter, slice_get, slice_set}
use Rattle.std.specs.List.{list_all, list_any}
use Rattle.std.proofs.lemmas.List.{append-nil, length-append}
use Rattle.std.proofs.lemmas.List.Folds.{list_any-append}
use Rattle.std.proofs.lemmas.List.Elements.{filter-append}
use Rattle.ldap_spec.specs.Bodies.{refusal}
use Rattle.lload_names.specs.declared.names.Entry.{Entry}
use Rattle.lload_names.specs.declared.names.OpKind.TheVariants.{Delete}
use Rattle.lload_names.specs.declared.names.Refusal.TheVariants.{C3}
use Rattle.lload_names.specs.declared.names.Answer.TheVariants.{Go, Unavailable}
use Rattle.lload_names.specs.declared.names.Letter.TheVariants.{IsUp}
use Rattle.lload_names.specs.declared.names.PartName.{PartName}
use Rattle.lload_names.specs.declared.names.PartName.TheVariants.{Desk, Client, Up as Connection}
use Rattle.lload_names.specs.declared.names.What.TheVariants.{Arrived, Linked, Up, Heard}
use Rattle.small_spec.specs.Lists.{passes}
use Rattle.small_spec.specs.Journal.{of_part, clients_from, connections_from}
use Rattle.small_spec.specs.Entries.{is_arrived, is_linked, is_up, heard}
use Rattle.small_spec.specs.Operations.{operations}
use Rattle.small_spec.specs.Answers.{sendings}
use Rattle.small_spec.specs.Fifo.{is_out_entry, is_sent_entry}
use Rattle.small_spec.specs.Standing.{arrivals, is_one_element}
use Rattle.small_spec.specs.Follows.{says_up}
use Rattle.small_laws.proofs.FamilyGrowth.{parts_append, clients_append, connections_append}
use Rattle.small_world.specs.declared.world.Link.{Link}
use Rattle.small_world.specs.declared.world.Link.TheVariants.{NotLinked, Unheard, Heard as HeardUp}
use Rattle.small_world.specs.declared.world.Forwarded.{Forwarded}
use Rattle.small_world.specs.States.{WorldState, at_rest, heard_link, is_linked_state, is_heard_state, uses, answered}
use Rattle.small_world.specs.Stands.{StandsFor, is_sent_rightly, ClientList, ConnectionList, one_if, is_empty}
use Rattle.small_world.specs.Rounds.{hearing}
use Rattle.small_world.specs.Pieces.{came, learned, sent, out, got, forwarding, refusing, answering}
use Rattle.small_world.proofs.DeleteFacts.{delete_makes, deleted_fits}
use Rattle.small_world.proofs.RowLaws.{rising_append, rising_wider, rising_answered}
use Rattle.small_world.proofs.ClientRounds.{client_arrived, client_forwarded, client_refused, client_answered}
use Rattle.small_world.proofs.ConnectionRounds.{connection_up, connection_sent, connection_got, connection_answered}
use Rattle.small_world.proofs.SentSteps.{each_quiet, each_arrived, each_forwarded, each_refused, each_answered, each_again}

pub at_rest_stands : StandsFor at_rest []
at_rest_stands = record {
  clients = refl;
  connections = refl;
  arrivals = refl;
  arrived = refl;
  linked = refl;
  up = refl;
  heard = refl;
  desk = refl;
  client = record { count = refl; each_told = refl; each_latest = refl; each_owned = refl; none_gone = refl; none_sent = refl };
  connection = record { names = refl; ids_rise = refl; given = refl; none_out = refl };
  each_sent = refl;
  rising = refl;
  behind_link = refl;
  behind_arrival = refl;
}

-- a test of some entry of a part's list, behind a piece
some_of : (test : Entry → Bool) (p : PartName) (J K : List Entry) → list_any test (of_part p (J ++ K)) ≡ (list_any test (of_part p J) || list_any test (of_part p K))
some_of test p J K = ap (list_any test) (parts_append p J K) ∙ list_any-append test (of_part p J) (of_part p K)

-- a test that no entry of the piece passes
none_more : (test : Entry → Bool) (p : PartName) (J K : List Entry) (b : Bool) → list_any test (of_part p J) ≡ b → list_any test (of_part p K) ≡ false → list_any test (of_part p (J ++ K)) ≡ b
none_more test p J K b h n = some_of test p J K ∙ ap (λ c. c || list_any test (of_part p K)) h ∙ ap (λ c. b || c) n ∙ or_false b
  where
    or_false : (c : Bool) → (c || false) ≡ c
    or_false true = refl
    or_false false = refl

-- the part's list behind a piece
part_grows : (p : PartName) (J K L : List Entry) → of_part p K ≡ L → of_part p (J ++ K) ≡ of_part p J ++ L
part_grows p J K L h = parts_append p J K ∙ ap (λ l. of_part p J ++ l) h

-- the part's list where the piece has nothing of the part
part_stays : (p : PartName) (J K : List Entry) → of_part p K ≡ [] → of_part p (J ++ K) ≡ of_part p J
part_stays p J K h = part_grows p J K [] h ∙ append-nil (of_part p J)

-- where a list of one number stays
one_stays : (b : Bool) (K : List Entry) → clients_from (1 ∷ []) K ≡ 1 ∷ [] → (b ≡ true) → (seen : List ℕ) → seen ≡ one_if b → clients_from seen K ≡ one_if b
one_stays true K h t seen is = ap (λ l. clients_from l K) is ∙ h
one_stays false K h t seen is = absurd (let bad : false ≡ true = t in cc)

-- how many clients arrived, behind a piece
arrivals_grow : (J K : List Entry) (n : ℕ) → arrivals K ≡ n → arrivals (J ++ K) ≡ arrivals J + n
arrivals_grow J K n h = ap length (filter-append (λ e. is_arrived e.what) J K) ∙ length-append (filter (λ e. is_arrived e.what) J) (filter (λ e. is_arrived e.what) K) ∙ ap (λ m. arrivals J + m) h

-- a connection of which the desk heard was linked
linked_if_heard : (l : Link) → is_heard_state l ≡ true → is_linked_state l ≡ true
linked_if_heard NotLinked h = h
linked_if_heard Unheard h = refl
linked_if_heard HeardUp h = refl

-- an operation's number as the lists count it
next_number : (made n : ℕ) → n ≡ made → made + 1 ≡ suc n
next_number made n h = omega arith

-- the world behind a request that was forwarded
abbrev pub with_forwarded : WorldState → ℕ → WorldState
with_forwarded w id = record w { made = w.made + 1; forwarded = w.forwarded ++ record { k = w.made + 1; id = id; answered = false } ∷ [] }

pub forwarded_stands : (w : WorldState) (J : List Entry) (id : ℕ) (rest : List ℕ) → StandsFor w J → w.arrived ≡ true → is_heard_state w.link ≡ true → uses w id ≡ false → (id == 0) ≡ false → is_one_element 0x4A rest ≡ true → StandsFor (with_forwarded w id) (J ++ forwarding (w.made + 1) (suc (length w.forwarded)) id rest)
forwarded_stands w J id rest h arrived up free some delete = record {
  clients = clients_append [] J K ∙ client_known w.arrived arrived (clients_from [] J) h.clients;
  connections = connections_append [] J K ∙ connection_known w.link up (connections_from [] J) h.connections;
  arrivals = arrivals_stay;
  arrived = none_more (λ e. is_arrived e.what) (Client 1) J K w.arrived h.arrived refl;
  linked = none_more (λ e. is_linked e.what) (Connection 1) J K (is_linked_state w.link) h.linked refl;
  up = none_more (λ e. is_up e.what) (Connection 1) J K (is_linked_state w.link) h.up refl;
  heard = none_more (λ e. passes (says_up 1) (heard e.what)) Desk J K (is_heard_state w.link) h.heard refl;
  desk = none_more (λ e. is_out_entry e || is_sent_entry e) Desk J K false h.desk refl;
  client = subst (ClientList (w.forwarded ++ row ∷ []) (w.made + 1)) (sym C') (client_forwarded w.forwarded w.made C id rest 1 h.client h.rising free some delete);
  connection = subst (ConnectionList (w.forwarded ++ row ∷ [])) (sym U') (connection_sent w.forwarded U row rest h.connection);
  each_sent = ap (λ c. list_all (is_sent_rightly (w.forwarded ++ row ∷ []) c) (sendings 1 (of_part (Connection 1) (J ++ K)))) C' ∙ ap (λ u. list_all (is_sent_rightly (w.forwarded ++ row ∷ []) ((C ++ came id rest ∷ []) ++ learned (w.made + 1) (Go 1 1) ∷ [])) (sendings 1 u)) U' ∙ each_forwarded w.forwarded row C U id 1 (suc (length w.forwarded)) rest (next_number w.made (length (operations 1 C)) h.client.count) (delete_makes id rest some delete) h.each_sent;
  rising = rising_append 0 w.made w.forwarded row h.rising (omega arith) refl;
  behind_link = ap (λ b. b || is_empty (w.forwarded ++ row ∷ [])) (linked_if_heard w.link up);
  behind_arrival = ap (λ b. b || is_empty (w.forwarded ++ row ∷ [])) arrived;
}
  where
    K : List Entry
    K = forwarding (w.made + 1) (suc (length w.forwarded)) id rest

    C : List Entry
    C = of_part (Client 1) J

    U : List Entry
    U = of_part (Connection 1) J

    row : Forwarded
    row = record { k = w.made + 1; id = id; answered = false }

    client_known : (b : Bool) → b ≡ true → (seen : List ℕ) → seen ≡ one_if b → clients_from seen K ≡ one_if b
    client_known b t seen is = one_stays b K refl t seen is

    connection_known : (l : Link) → is_heard_state l ≡ true → (seen : List ℕ) → seen ≡ one_if (is_linked_state l) → connections_from seen K ≡ one_if (is_linked_state l)
    connection_known NotLinked t seen is = absurd (let bad : false ≡ true = t in cc)
    connection_known Unheard t seen is = absurd (let bad : false ≡ true = t in cc)
    connection_known HeardUp t seen is = ap (λ l. connections_from l K) is

    arrivals_stay : arrivals (J ++ K) ≡ (if w.arrived then 1 else 0)
    arrivals_stay = arrivals_grow J K 0 refl ∙ ap (λ n. n + 0) h.arrivals ∙ omega arith

    C' : of_part (Client 1) (J ++ K) ≡ (C ++ came id rest ∷ []) ++ learned (w.made + 1) (Go 1 1) ∷ []
    C' = part_grows (Client 1) J K (came id rest ∷ learned (w.made + 1) (Go 1 1) ∷ []) refl ∙ sym (append_assoc C (came id rest ∷ []) (learned (w.made + 1) (Go 1 1) ∷ []))

    U' : of_part (Connection 1) (J ++ K) ≡ U ++ sent (suc (length w.forwarded)) (w.made + 1) rest ∷ []
    U' = part_grows (Connection 1) J K (sent (suc (length w.forwarded)) (w.made + 1) rest ∷ []) refl

-- the world behind a request that was refused
abbrev pub with_refused : WorldState → WorldState
with_refused w = record w { made = w.made + 1 }

pub refused_stands : (w : WorldState) (J : List Entry) (id : ℕ) (rest : List ℕ) → StandsFor w J → w.arrived ≡ true → uses w id ≡ false → (id == 0) ≡ false → is_one_element 0x4A rest ≡ true → StandsFor (with_refused w) (J ++ refusing (w.made + 1) id rest)
refused_stands w J id rest h arrived free some delete = record {
  clients = clients_append [] J K ∙ one_stays w.arrived K refl arrived (clients_from [] J) h.clients;
  connections = connections_append [] J K ∙ h.connections;
  arrivals = arrivals_grow J K 0 refl ∙ ap (λ n. n + 0) h.arrivals ∙ omega arith;
  arrived = none_more (λ e. is_arrived e.what) (Client 1) J K w.arrived h.arrived refl;
  linked = none_more (λ e. is_linked e.what) (Connection 1) J K (is_linked_state w.link) h.linked refl;
  up = none_more (λ e. is_up e.what) (Connection 1) J K (is_linked_state w.link) h.up refl;
  heard = none_more (λ e. passes (says_up 1) (heard e.what)) Desk J K (is_heard_state w.link) h.heard refl;
  desk = none_more (λ e. is_out_entry e || is_sent_entry e) Desk J K false h.desk refl;
  client = subst (ClientList w.forwarded (w.made + 1)) (sym C') (client_refused w.forwarded w.made C id rest h.client h.rising free some delete);
  connection = subst (ConnectionList w.forwarded) (sym U') h.connection;
  each_sent = ap (λ c. list_all (is_sent_rightly w.forwarded c) (sendings 1 (of_part (Connection 1) (J ++ K)))) C' ∙ ap (λ u. list_all (is_sent_rightly w.forwarded (((C ++ came id rest ∷ []) ++ learned (w.made + 1) Unavailable ∷ []) ++ out id (refusal Delete C3) ∷ [])) (sendings 1 u)) U' ∙ each_refused w.forwarded C (of_part (Connection 1) J) id (w.made + 1) Unavailable rest (refusal Delete C3) (delete_makes id rest some delete) h.each_sent;
  rising = rising_wider 0 w.made (w.made + 1) w.forwarded h.rising (omega arith);
  behind_link = h.behind_link;
  behind_arrival = h.behind_arrival;
}
  where
    K : List Entry
    K = refusing (w.made + 1) id rest

    C : List Entry
    C = of_part (Client 1) J

    C' : of_part (Client 1) (J ++ K) ≡ ((C ++ came id rest ∷ []) ++ learned (w.made + 1) Unavailable ∷ []) ++ out id (refusal Delete C3) ∷ []
    C' = part_grows (Client 1) J K (came id rest ∷ learned (w.made + 1) Unavailable ∷ out id (refusal Delete C3) ∷ []) refl ∙ sym (append_assoc C (came id rest ∷ []) (learned (w.made + 1) Unavailable ∷ out id (refusal Delete C3) ∷ [])) ∙ sym (append_assoc (C ++ came id rest ∷ []) (learned (w.made + 1) Unavailable ∷ []) (out id (refusal Delete C3) ∷ []))

    U' : of_part (Connection 1) (J ++ K) ≡ of_part (Connection 1) J
    U' = part_stays (Connection 1) J K refl

-- rows that have one aren't none
not_empty : (rows : List Forwarded) (i : ℕ) (f : Forwarded) → slice_get rows i ≡ Some f → is_empty rows ≡ false
not_empty [] i f h = absurd (let bad : None ≡ Some f = h in cc)
not_empty (g ∷ rows) i f h = refl

-- what holds or there are no rows holds where there is one
holds_with_rows : (b : Bool) (rows : List Forwarded) (i : ℕ) (f : Forwarded) → slice_get rows i ≡ Some f → (b || is_empty rows) ≡ true → b ≡ true
holds_with_rows true rows i f h k = refl
holds_with_rows false rows i f h k = absurd (let bad : false ≡ true = sym (not_empty rows i f h) ∙ k in cc)

-- the world behind the answer to a live operation
abbrev pub with_answered : WorldState → ℕ → Forwarded → WorldState
with_answered w i f = record w { forwarded = slice_set w.forwarded i (answered f) }

-- a list of one connection stays
one_connection : (l : Link) (K : List Entry) → connections_from (1 ∷ []) K ≡ 1 ∷ [] → is_linked_state l ≡ true → (seen : List ℕ) → seen ≡ one_if (is_linked_state l) → connections_from seen K ≡ one_if (is_linked_state l)
one_connection NotLinked K h t seen is = absurd (let bad : false ≡ true = t in cc)
one_connection Unheard K h t seen is = ap (λ l. connections_from l K) is ∙ h
one_connection HeardUp K h t seen is = ap (λ l. connections_from l K) is ∙ h

pub answered_stands : (w : WorldState) (J : List Entry) (i id : ℕ) (f : Forwarded) (rest : List ℕ) → StandsFor w J → slice_get w.forwarded i ≡ Some f → f.answered ≡ false → id ≡ 1 + i → is_one_element 0x6B rest ≡ true → StandsFor (with_answered w i f) (J ++ answering f.k id f.id rest)
answered_stands w J i id f rest h there live is deleted = record {
  clients = clients_append [] J K ∙ one_stays w.arrived K refl (holds_with_rows w.arrived w.forwarded i f there h.behind_arrival) (clients_from [] J) h.clients;
  connections = connections_append [] J K ∙ one_connection w.link K refl linked_now (connections_from [] J) h.connections;
  arrivals = arrivals_grow J K 0 refl ∙ ap (λ n. n + 0) h.arrivals ∙ omega arith;
  arrived = none_more (λ e. is_arrived e.what) (Client 1) J K w.arrived h.arrived refl;
  linked = none_more (λ e. is_linked e.what) (Connection 1) J K (is_linked_state w.link) h.linked refl;
  up = none_more (λ e. is_up e.what) (Connection 1) J K (is_linked_state w.link) h.up refl;
  heard = none_more (λ e. passes (says_up 1) (heard e.what)) Desk J K (is_heard_state w.link) h.heard refl;
  desk = none_more (λ e. is_out_entry e || is_sent_entry e) Desk J K false h.desk refl;
  client = subst (ClientList rows' w.made) (sym C') (client_answered w.forwarded w.made C i f rest h.client h.rising there live deleted);
  connection = subst (ConnectionList rows') (sym U') (connection_got rows' U id rest (connection_answered w.forwarded U i f there h.connection));
  each_sent = ap (λ c. list_all (is_sent_rightly rows' c) (sendings 1 (of_part (Connection 1) (J ++ K)))) C' ∙ ap (λ u. list_all (is_sent_rightly rows' (C ++ out f.id rest ∷ [])) (sendings 1 u)) U' ∙ each_answered w.forwarded w.made i id f C U rest h.client h.connection h.rising there live is (deleted_fits rest deleted) h.each_sent;
  rising = rising_answered 0 w.made w.forwarded i f h.rising there;
  behind_link = ap (λ b. b || is_empty rows') linked_now;
  behind_arrival = ap (λ b. b || is_empty rows') (holds_with_rows w.arrived w.forwarded i f there h.behind_arrival);
}
  where
    K : List Entry
    K = answering f.k id f.id rest

    C : List Entry
    C = of_part (Client 1) J

    U : List Entry
    U = of_part (Connection 1) J

    rows' : List Forwarded
    rows' = slice_set w.forwarded i (answered f)

    linked_now : is_linked_state w.link ≡ true
    linked_now = holds_with_rows (is_linked_state w.link) w.forwarded i f there h.behind_link

    C' : of_part (Client 1) (J ++ K) ≡ C ++ out f.id rest ∷ []
    C' = part_grows (Client 1) J K (out f.id rest ∷ []) refl

    U' : of_part (Connection 1) (J ++ K) ≡ U ++ got id rest ∷ []
    U' = part_grows (Connection 1) J K (got id rest ∷ []) refl

pub again_stands : (w : WorldState) (J : List Entry) (i id : ℕ) (f : Forwarded) (rest : List ℕ) → StandsFor w J → slice_get w.forwarded i ≡ Some f → f.answered ≡ true → id ≡ 1 + i → StandsFor w (J ++ got id rest ∷ [])
again_stands w J i id f rest h there done is = record {
  clients = clients_append [] J K ∙ h.clients;
  connections = connections_append [] J K ∙ one_connection w.link K refl (holds_with_rows (is_linked_state w.link) w.forwarded i f there h.behind_link) (connections_from [] J) h.connections;
  arrivals = arrivals_grow J K 0 refl ∙ ap (λ n. n + 0) h.arrivals ∙ omega arith;
  arrived = none_more (λ e. is_arrived e.what) (Client 1) J K w.arrived h.arrived refl;
  linked = none_more (λ e. is_linked e.what) (Connection 1) J K (is_linked_state w.link) h.linked refl;
  up = none_more (λ e. is_up e.what) (Connection 1) J K (is_linked_state w.link) h.up refl;
  heard = none_more (λ e. passes (says_up 1) (heard e.what)) Desk J K (is_heard_state w.link) h.heard refl;
  desk = none_more (λ e. is_out_entry e || is_sent_entry e) Desk J K false h.desk refl;
  client = subst (ClientList w.forwarded w.made) (sym C') h.client;
  connection = subst (ConnectionList w.forwarded) (sym U') (connection_got w.forwarded U id rest h.connection);
  each_sent = ap (λ c. list_all (is_sent_rightly w.forwarded c) (sendings 1 (of_part (Connection 1) (J ++ K)))) C' ∙ ap (λ u. list_all (is_sent_rightly w.forwarded C) (sendings 1 u)) U' ∙ each_again w.forwarded w.made i id f C U rest h.connection h.rising there done is h.each_sent;
  rising = h.rising;
  behind_link = h.behind_link;
  behind_arrival = h.behind_arrival;
}
  where
    K : List Entry
    K = got id rest ∷ []

    C : List Entry
    C = of_part (Client 1) J

    U : List Entry
    U = of_part (Connection 1) J

    C' : of_part (Client 1) (J ++ K) ≡ C
    C' = part_stays (Client 1) J K refl

    U' : of_part (Connection 1) (J ++ K) ≡ U ++ got id rest ∷ []
    U' = part_grows (Connection 1) J K (got id rest ∷ []) refl

-- client 1 arrives
pub arrived_stands : (w : WorldState) (J : List Entry) → StandsFor w J → w.arrived ≡ false → StandsFor (record w { arrived = true }) (J ++ record { part = Client 1; at = 0; what = Arrived } ∷ [])
arrived_stands w J h new = record {
  clients = clients_append [] J K ∙ ap (λ l. clients_from l K) (h.clients ∙ ap one_if new);
  connections = connections_append [] J K ∙ h.connections;
  arrivals = arrivals_grow J K 1 refl ∙ ap (λ n. n + 1) (h.arrivals ∙ ap (λ b. if b then 1 else 0) new);
  arrived = some_of (λ e. is_arrived e.what) (Client 1) J K ∙ ap (λ b. b || true) (h.arrived ∙ new);
  linked = none_more (λ e. is_linked e.what) (Connection 1) J K (is_linked_state w.link) h.linked refl;
  up = none_more (λ e. is_up e.what) (Connection 1) J K (is_linked_state w.link) h.up refl;
  heard = none_more (λ e. passes (says_up 1) (heard e.what)) Desk J K (is_heard_state w.link) h.heard refl;
  desk = none_more (λ e. is_out_entry e || is_sent_entry e) Desk J K false h.desk refl;
  client = subst (ClientList w.forwarded w.made) (sym C') (client_arrived w.forwarded w.made C h.client);
  connection = subst (ConnectionList w.forwarded) (sym U') h.connection;
  each_sent = ap (λ c. list_all (is_sent_rightly w.forwarded c) (sendings 1 (of_part (Connection 1) (J ++ K)))) C' ∙ ap (λ u. list_all (is_sent_rightly w.forwarded (C ++ record { part = Client 1; at = 0; what = Arrived } ∷ [])) (sendings 1 u)) U' ∙ each_arrived w.forwarded C (of_part (Connection 1) J) (record { part = Client 1; at = 0; what = Arrived }) refl h.each_sent;
  rising = h.rising;
  behind_link = h.behind_link;
  behind_arrival = refl;
}
  where
    K : List Entry
    K = record { part = Client 1; at = 0; what = Arrived } ∷ []

    C : List Entry
    C = of_part (Client 1) J

    C' : of_part (Client 1) (J ++ K) ≡ C ++ record { part = Client 1; at = 0; what = Arrived } ∷ []
    C' = part_grows (Client 1) J K (record { part = Client 1; at = 0; what = Arrived } ∷ []) refl

    U' : of_part (Connection 1) (J ++ K) ≡ of_part (Connection 1) J
    U' = part_stays (Connection 1) J K refl

-- a connection that isn't linked isn't heard of
unheard_if_unlinked : (l : Link) → is_linked_state l ≡ false → is_heard_state l ≡ false
unheard_if_unlinked NotLinked h = refl
unheard_if_unlinked Unheard h = refl
unheard_if_unlinked HeardUp h = absurd (let bad : true ≡ false = h in cc)

-- connection 1 is linked and up
pub linked_stands : (w : WorldState) (J : List Entry) → StandsFor w J → is_linked_state w.link ≡ false → StandsFor (record w { link = Unheard }) (J ++ record { part = Connection 1; at = 0; what = Linked } ∷ record { part = Connection 1; at = 0; what = Up } ∷ [])
linked_stands w J h new = record {
  clients = clients_append [] J K ∙ h.clients;
  connections = connections_append [] J K ∙ ap (λ l. connections_from l K) (h.connections ∙ ap one_if new);
  arrivals = arrivals_grow J K 0 refl ∙ ap (λ n. n + 0) h.arrivals ∙ omega arith;
  arrived = none_more (λ e. is_arrived e.what) (Client 1) J K w.arrived h.arrived refl;
  linked = some_of (λ e. is_linked e.what) (Connection 1) J K ∙ ap (λ b. b || true) (h.linked ∙ new);
  up = some_of (λ e. is_up e.what) (Connection 1) J K ∙ ap (λ b. b || true) (h.up ∙ new);
  heard = none_more (λ e. passes (says_up 1) (heard e.what)) Desk J K false (h.heard ∙ unheard_if_unlinked w.link new) refl;
  desk = none_more (λ e. is_out_entry e || is_sent_entry e) Desk J K false h.desk refl;
  client = subst (ClientList w.forwarded w.made) (sym C') h.client;
  connection = subst (ConnectionList w.forwarded) (sym U') (connection_up w.forwarded U h.connection);
  each_sent = ap (λ c. list_all (is_sent_rightly w.forwarded c) (sendings 1 (of_part (Connection 1) (J ++ K)))) C' ∙ ap (λ u. list_all (is_sent_rightly w.forwarded C) (sendings 1 u)) U' ∙ each_quiet w.forwarded C (U ++ record { part = Connection 1; at = 0; what = Linked } ∷ []) (record { part = Connection 1; at = 0; what = Up }) refl (λ m id. refl) (each_quiet w.forwarded C U (record { part = Connection 1; at = 0; what = Linked }) refl (λ m id. refl) h.each_sent);
  rising = h.rising;
  behind_link = refl;
  behind_arrival = h.behind_arrival;
}
  where
    K : List Entry
    K = record { part = Connection 1; at = 0; what = Linked } ∷ record { part = Connection 1; at = 0; what = Up } ∷ []

    C : List Entry
    C = of_part (Client 1) J

    U : List Entry
    U = of_part (Connection 1) J

    C' : of_part (Client 1) (J ++ K) ≡ C
    C' = part_stays (Client 1) J K refl

    U' : of_part (Connection 1) (J ++ K) ≡ (U ++ record { part = Connection 1; at = 0; what = Linked } ∷ []) ++ record { part = Connection 1; at = 0; what = Up } ∷ []
    U' = part_grows (Connection 1) J K (record { part = Connection 1; at = 0; what = Linked } ∷ record { part = Connection 1; at = 0; what = Up } ∷ []) refl ∙ sym (append_assoc U (record { part = Connection 1; at = 0; what = Linked } ∷ []) (record { part = Connection 1; at = 0; what = Up } ∷ []))

-- the desk hears of connection 1 where it hasn't yet
news_heard : (w : WorldState) (J : List Entry) → StandsFor w J → w.link ≡ Unheard → StandsFor (record w { link = HeardUp }) (J ++ record { part = Desk; at = 0; what = Heard (IsUp 1) } ∷ [])
news_heard w J h is = record {
  clients = clients_append [] J K ∙ h.clients;
  connections = connections_append [] J K ∙ h.connections ∙ ap (λ l. one_if (is_linked_state l)) is;
  arrivals = arrivals_grow J K 0 refl ∙ ap (λ n. n + 0) h.arrivals ∙ omega arith;
  arrived = none_more (λ e. is_arrived e.what) (Client 1) J K w.arrived h.arrived refl;
  linked = none_more (λ e. is_linked e.what) (Connection 1) J K true (h.linked ∙ ap is_linked_state is) refl;
  up = none_more (λ e. is_up e.what) (Connection 1) J K true (h.up ∙ ap is_linked_state is) refl;
  heard = some_of (λ e. passes (says_up 1) (heard e.what)) Desk J K ∙ ap (λ b. b || true) (h.heard ∙ ap is_heard_state is);
  desk = none_more (λ e. is_out_entry e || is_sent_entry e) Desk J K false h.desk refl;
  client = subst (ClientList w.forwarded w.made) (sym C') h.client;
  connection = subst (ConnectionList w.forwarded) (sym U') h.connection;
  each_sent = ap (λ c. list_all (is_sent_rightly w.forwarded c) (sendings 1 (of_part (Connection 1) (J ++ K)))) C' ∙ ap (λ u. list_all (is_sent_rightly w.forwarded (of_part (Client 1) J)) (sendings 1 u)) U' ∙ h.each_sent;
  rising = h.rising;
  behind_link = refl;
  behind_arrival = h.behind_arrival;
}
  where
    K : List Entry
    K = record { part = Desk; at = 0; what = Heard (IsUp 1) } ∷ []

    C' : of_part (Client 1) (J ++ K) ≡ of_part (Client 1) J
    C' = part_stays (Client 1) J K refl

    U' : of_part (Connection 1) (J ++ K) ≡ of_part (Connection 1) J
    U' = part_stays (Connection 1) J K refl

-- nothing is heard where nothing is news
nothing_heard : (w : WorldState) (J : List Entry) (l : Link) → StandsFor w J → w.link ≡ l → StandsFor (record w { link = l }) (J ++ [])
nothing_heard w J l h is = subst (λ x. StandsFor (record w { link = x }) (J ++ [])) is (subst (StandsFor w) (sym (append-nil J)) h)

heard_by : (w : WorldState) (J : List Entry) (l : Link) → StandsFor w J → w.link ≡ l → StandsFor (record w { link = heard_link l }) (J ++ hearing l)
heard_by w J NotLinked h is = nothing_heard w J NotLinked h is
heard_by w J Unheard h is = news_heard w J h is
heard_by w J HeardUp h is = nothing_heard w J HeardUp h is

pub heard_stands : (w : WorldState) (J : List Entry) → StandsFor w J → StandsFor (record w { link = heard_link w.link }) (J ++ hearing w.link)
heard_stands w J h = heard_by w J w.link h refl
