-- Each clause of a share that speaks of one list is the promise's clause of that list.
use Rattle.std.proofs.Common.{◌≡◌, ℕ, Bool, true, ◌&&◌, List, [], ◌∷◌, ◌++◌, refl, ◌∙◌, subst}
use Rattle.std.specs.List.{list_all}
use Rattle.std.proofs.lemmas.List.Folds.{list_all-append}
use Rattle.lload_names.specs.declared.names.Entry.{Entry}
use Rattle.lload_names.specs.declared.names.Answer.TheVariants.{Busy, Unavailable}
use Rattle.lload_names.specs.declared.names.Refusal.TheVariants.{C1, C3}
use Rattle.lload_names.specs.declared.names.PartName.{PartName}
use Rattle.lload_names.specs.declared.names.PartName.TheVariants.{Desk, Client, Up as Connection}
use Rattle.lload_spec.specs.Lists.{each_split_from, each_split, each_entry}
use Rattle.lload_names.specs.declared.names.EndWhy.TheVariants.{OwnBind}
use Rattle.lload_spec.specs.Settings.{Settings}
use Rattle.lload_spec.specs.Journal.{Family, family}
use Rattle.lload_spec.specs.Entries.{is_of_client, is_of_desk, is_of_connection, is_up, is_retired, is_down_by}
use Rattle.lload_spec.specs.Operations.{Operation, operations, operations_of}
use Rattle.lload_spec.specs.Fifo.{is_ended_once, has_own_outs}
use Rattle.lload_spec.specs.Right.{Right}
use Rattle.lload_spec.specs.Caused.{is_choice_told, is_late_caused, is_stall_caused, is_later}
use Rattle.lload_spec.specs.CausedUp.{exactly_behind, is_up_due, is_retirement_due, is_refused_own_bind, is_missed_caused}
use Rattle.lload_spec.specs.Strict.{has_place_in_client, has_place_in_desk, lives_as_connection}
use Rattle.lload_spec.proofs.Growth.{left, right, both}
use Rattle.part_spec.specs.Linked.{list_of}
use Rattle.part_spec.specs.Marked.{Marked, entries}
use Rattle.part_spec.specs.Share.{ClientShare, ConnectionShare, DeskShare}
use Rattle.promise_laws.specs.OneList.{Shared, OneListLaw}

-- Lists.

all_pass : {A : Type 0} (test : A → Bool) (xs : List A) → ((x : A) → test x ≡ true) → list_all test xs ≡ true
all_pass test [] h = refl
all_pass test (x ∷ xs) h = both (test x) (list_all test xs) (h x) (all_pass test xs h)

-- what passes at each split has at each element what the test says of that alone
each_says : {A : Type 0} (test : List A → A → List A → Bool) (q : A → Bool) (before xs : List A) → ((b : List A) (x : A) (r : List A) → test b x r ≡ true → q x ≡ true) → each_split_from test before xs ≡ true → list_all q xs ≡ true
each_says test q before [] says h = refl
each_says test q before (x ∷ xs) says h =
    let here : test before x xs ≡ true = left (test before x xs) (each_split_from test (before ++ x ∷ []) xs) h in
    let there : each_split_from test (before ++ x ∷ []) xs ≡ true = right (test before x xs) (each_split_from test (before ++ x ∷ []) xs) h in
    both (q x) (list_all q xs) (says before x xs here) (each_says test q (before ++ x ∷ []) xs says there)

-- A fact of a list is one of the list with the same entries.
of_list : (P : List Entry → Type 0) (s : Settings) (F : Family) (marked : PartName → List Marked) (p : PartName) → Shared s F marked → P (entries (marked p)) → P (list_of F p)
of_list P s F marked p h f = subst P (h.same_entries p) f

-- The desk.

desk_of_sort : (list : List Entry) → each_entry (λ place e. is_of_desk e.what && has_place_in_desk place e) list ≡ true → list_all (λ (e : Entry). is_of_desk e.what) list ≡ true
desk_of_sort list h = each_says (λ place (e : Entry) behind. is_of_desk e.what && has_place_in_desk place e) (λ (e : Entry). is_of_desk e.what) [] list (λ b x r t. left (is_of_desk x.what) (has_place_in_desk b x) t) h

-- Clients.

client_of_sort : (s : Settings) (c : ℕ) (list : List Entry) → each_split (λ place e behind. is_of_client e.what && has_place_in_client s c place e behind) list ≡ true → list_all (λ (e : Entry). is_of_client e.what) list ≡ true
client_of_sort s c list h = each_says (λ place (e : Entry) behind. is_of_client e.what && has_place_in_client s c place e behind) (λ (e : Entry). is_of_client e.what) [] list (λ b x r t. left (is_of_client x.what) (has_place_in_client s c b x r) t) h

-- of all operations, where it is so of those of each client
of_all : (F : Family) (test : Operation → Bool) (cs : List ℕ) → ((c : ℕ) → list_all test (operations c (F.client c)) ≡ true) → list_all test (operations_of F cs) ≡ true
of_all F test [] h = refl
of_all F test (c ∷ cs) h = list_all-append test (operations c (F.client c)) (operations_of F cs) ∙ both (list_all test (operations c (F.client c))) (list_all test (operations_of F cs)) (h c) (of_all F test cs h)

-- what is said of a client's Outs looks at its list alone
own_outs : (F G : Family) (c : ℕ) → F.client c ≡ G.client c → has_own_outs F c ≡ true → has_own_outs G c ≡ true
own_outs F G c e h = subst (λ (l : List Entry). has_own_outs (record G { client = λ _. l }) c ≡ true) e h

-- Connections.

connection_of_sort : (list : List Entry) → each_entry (λ place e. is_of_connection e.what && lives_as_connection place e) list ≡ true → list_all (λ (e : Entry). is_of_connection e.what) list ≡ true
connection_of_sort list h = each_says (λ place (e : Entry) behind. is_of_connection e.what && lives_as_connection place e) (λ (e : Entry). is_of_connection e.what) [] list (λ b x r t. left (is_of_connection x.what) (lives_as_connection b x) t) h

-- The promises.

pub one_list : OneListLaw
one_list s F marked h =
    let desk : DeskShare s (marked Desk) = h.shares Desk in
    let client : (c : ℕ) → ClientShare s c (marked (Client c)) = λ c. h.shares (Client c) in
    let connection : (u : ℕ) → ConnectionShare s u (marked (Connection u)) = λ u. h.shares (Connection u) in
    record {
      right = of_list (Right s) s F marked Desk h desk.choices;
      ended_once = of_all F is_ended_once F.clients (λ c. of_list (λ l. list_all is_ended_once (operations c l) ≡ true) s F marked (Client c) h (client c).ended_once);
      outs_owned = all_pass (has_own_outs F) F.clients (λ c. own_outs (family (list_of F (Client c))) F c (h.own_entries (Client c)) (of_list (λ l. has_own_outs (family l) c ≡ true) s F marked (Client c) h (client c).outs_owned));
      busy = all_pass (λ c. each_split (is_choice_told c Busy C1) (F.client c)) F.clients (λ c. of_list (λ l. each_split (is_choice_told c Busy C1) l ≡ true) s F marked (Client c) h (client c).busy);
      unavailable = all_pass (λ c. each_split (is_choice_told c Unavailable C3) (F.client c)) F.clients (λ c. of_list (λ l. each_split (is_choice_told c Unavailable C3) l ≡ true) s F marked (Client c) h (client c).unavailable);
      late = all_pass (λ c. each_entry (is_late_caused c) (F.client c)) F.clients (λ c. of_list (λ l. each_entry (is_late_caused c) l ≡ true) s F marked (Client c) h (client c).late);
      stalls = all_pass (λ c. each_entry (is_stall_caused c) (F.client c)) F.clients (λ c. of_list (λ l. each_entry (is_stall_caused c) l ≡ true) s F marked (Client c) h (client c).stalls);
      moments = both (each_entry is_later F.desk && list_all (λ c. each_entry is_later (F.client c)) F.clients) (list_all (λ u. each_entry is_later (F.connection u)) F.connections)
          (both (each_entry is_later F.desk) (list_all (λ c. each_entry is_later (F.client c)) F.clients) (of_list (λ l. each_entry is_later l ≡ true) s F marked Desk h desk.moments) (all_pass (λ c. each_entry is_later (F.client c)) F.clients (λ c. of_list (λ l. each_entry is_later l ≡ true) s F marked (Client c) h (client c).moments)))
          (all_pass (λ u. each_entry is_later (F.connection u)) F.connections (λ u. of_list (λ l. each_entry is_later l ≡ true) s F marked (Connection u) h (connection u).moments));
      entries_placed = both (list_all (λ (e : Entry). is_of_desk e.what) F.desk && list_all (λ c. list_all (λ (e : Entry). is_of_client e.what) (F.client c)) F.clients) (list_all (λ u. list_all (λ (e : Entry). is_of_connection e.what) (F.connection u)) F.connections)
          (both (list_all (λ (e : Entry). is_of_desk e.what) F.desk) (list_all (λ c. list_all (λ (e : Entry). is_of_client e.what) (F.client c)) F.clients) (of_list (λ l. list_all (λ (e : Entry). is_of_desk e.what) l ≡ true) s F marked Desk h (desk_of_sort (entries (marked Desk)) desk.life)) (all_pass (λ c. list_all (λ (e : Entry). is_of_client e.what) (F.client c)) F.clients (λ c. of_list (λ l. list_all (λ (e : Entry). is_of_client e.what) l ≡ true) s F marked (Client c) h (client_of_sort s c (entries (marked (Client c))) (client c).life))))
          (all_pass (λ u. list_all (λ (e : Entry). is_of_connection e.what) (F.connection u)) F.connections (λ u. of_list (λ l. list_all (λ (e : Entry). is_of_connection e.what) l ≡ true) s F marked (Connection u) h (connection_of_sort (entries (marked (Connection u))) (connection u).life)));
      ups = all_pass (λ u. exactly_behind (is_up_due s u) (λ e. is_up e.what) (F.connection u)) F.connections (λ u. of_list (λ l. exactly_behind (is_up_due s u) (λ e. is_up e.what) l ≡ true) s F marked (Connection u) h (connection u).ups);
      retirements = all_pass (λ u. exactly_behind (is_retirement_due s) (λ e. is_retired e.what) (F.connection u)) F.connections (λ u. of_list (λ l. exactly_behind (is_retirement_due s) (λ e. is_retired e.what) l ≡ true) s F marked (Connection u) h (connection u).retirements);
      own_bind_ends = all_pass (λ u. exactly_behind (is_refused_own_bind s u) (is_down_by OwnBind) (F.connection u)) F.connections (λ u. of_list (λ l. exactly_behind (is_refused_own_bind s u) (is_down_by OwnBind) l ≡ true) s F marked (Connection u) h (connection u).own_bind_ends);
      missed = all_pass (λ u. each_entry is_missed_caused (F.connection u)) F.connections (λ u. of_list (λ l. each_entry is_missed_caused l ≡ true) s F marked (Connection u) h (connection u).missed);
    }
