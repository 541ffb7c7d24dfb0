-- How connection 1's list keeps its part when the list grows, and what becomes of its rows' names.
use Rattle.std.proofs.Common.{◌≡◌, ℕ, zero, suc, ◌+◌, Bool, true, false, ◌||◌, ◌==◌, List, [], ◌∷◌, ◌++◌, length, refl, ap, ◌∙◌, sym, arith, eq-eqb}
use Rattle.std.specs.Prelude.{Some, None, if◌then◌else◌, map, slice_get, slice_set, is_some}
use Rattle.std.proofs.lemmas.List.{map-append, length-append, length-set}
use Rattle.std.proofs.lemmas.List.Folds.{list_any-append}
use Rattle.lload_names.specs.declared.names.Entry.{Entry}
use Rattle.lload_names.specs.declared.names.PartName.TheVariants.{Up as Connection}
use Rattle.lload_names.specs.declared.names.What.TheVariants.{Sent, Got, Linked, Up}
use Rattle.small_spec.specs.Lists.{each_entry}
use Rattle.small_spec.specs.Entries.{Named, sent_message, given_id}
use Rattle.small_spec.specs.Answers.{Sending, sendings}
use Rattle.small_spec.specs.Fifo.{is_out_entry}
use Rattle.small_spec.specs.Identifiers.{has_next_id, given_count}
use Rattle.small_spec.proofs.Growth.{looks_back, both}
use Rattle.small_laws.specs.ConnectionGrowth.{later_sending, new_sending}
use Rattle.small_laws.proofs.ConnectionGrowth.{sendings_none, sendings_one, given_count_grows}
use Rattle.small_world.specs.declared.world.Forwarded.{Forwarded}
use Rattle.small_world.specs.States.{answered}
use Rattle.small_world.specs.Stands.{ConnectionList, numbered, sent_name}

-- a number is itself
pub same_number : (n : ℕ) → (n == n) ≡ true
same_number n = eq-eqb n n refl

-- the name of a row under an identifier
abbrev pub row_name : ℕ → Forwarded → Named ℕ
row_name n f = record { op = record { client = 1; k = f.k }; value = n }

-- the names of rows and one more
pub numbered-append : (n : ℕ) (rows : List Forwarded) (f : Forwarded) → numbered n (rows ++ f ∷ []) ≡ numbered n rows ++ row_name (n + length rows) f ∷ []
numbered-append n [] f = ap (λ i. row_name i f ∷ []) (omega arith)
numbered-append n (g ∷ rows) f = ap (λ l. row_name n g ∷ l) (numbered-append (suc n) rows f ∙ ap (λ i. numbered (suc n) rows ++ row_name i f ∷ []) (omega arith))

-- a row that is answered keeps its name
pub numbered-answered : (n : ℕ) (rows : List Forwarded) (i : ℕ) (f : Forwarded) → slice_get rows i ≡ Some f → numbered n (slice_set rows i (answered f)) ≡ numbered n rows
numbered-answered n [] i f h = refl
numbered-answered n (g ∷ rows) zero f h = let same : g ≡ f = cc in ap (λ k. row_name n k ∷ numbered (suc n) rows) (sym same)
numbered-answered n (g ∷ rows) (suc i) f h = ap (λ l. row_name n g ∷ l) (numbered-answered (suc n) rows i f h)

-- the names of Sent entries stay when something comes behind them
names_later : (e : Entry) (ss : List Sending) → map sent_name (map (later_sending e) ss) ≡ map sent_name ss
names_later e [] = refl
names_later e (s ∷ ss) = ap (λ l. sent_name s ∷ l) (names_later e ss)

-- an entry that is neither a Sent, an Own nor an Out keeps the list
keeps : (rows : List Forwarded) (U : List Entry) (e : Entry) → sent_message e.what ≡ None → given_id e.what ≡ None → is_out_entry e ≡ false → ConnectionList rows U → ConnectionList rows (U ++ e ∷ [])
keeps rows U e unsent ungiven unout h = record {
  names = ap (map sent_name) (sendings_none 1 U e unsent) ∙ names_later e (sendings 1 U) ∙ h.names;
  ids_rise = looks_back has_next_id U e ∙ both (each_entry has_next_id U) (has_next_id U e) h.ids_rise (ap (λ g. elim g as (λ _. Bool) [ None ↦ true | Some id ↦ id == suc (given_count U) ]) ungiven);
  given = given_count_grows U e ∙ ap (λ g. given_count U + (if is_some g then 1 else 0)) ungiven ∙ omega (arith, h.given);
  none_out = list_any-append is_out_entry U (e ∷ []) ∙ ap (λ b. b || (is_out_entry e || false)) h.none_out ∙ ap (λ b. b || false) unout;
}

pub connection_got : (rows : List Forwarded) (U : List Entry) (id : ℕ) (rest : List ℕ) → ConnectionList rows U → ConnectionList rows (U ++ record { part = Connection 1; at = 0; what = Got id rest } ∷ [])
connection_got rows U id rest h = keeps rows U _ refl refl refl h

pub connection_up : (rows : List Forwarded) (U : List Entry) → ConnectionList rows U → ConnectionList rows ((U ++ record { part = Connection 1; at = 0; what = Linked } ∷ []) ++ record { part = Connection 1; at = 0; what = Up } ∷ [])
connection_up rows U h = keeps rows (U ++ record { part = Connection 1; at = 0; what = Linked } ∷ []) _ refl refl refl (keeps rows U _ refl refl refl h)

-- a row that is answered changes nothing in the list
pub connection_answered : (rows : List Forwarded) (U : List Entry) (i : ℕ) (f : Forwarded) → slice_get rows i ≡ Some f → ConnectionList rows U → ConnectionList (slice_set rows i (answered f)) U
connection_answered rows U i f there h = record {
  names = h.names ∙ sym (numbered-answered 1 rows i f there);
  ids_rise = h.ids_rise;
  given = h.given ∙ sym (length-set rows i (answered f));
  none_out = h.none_out;
}

-- a Sent of a further row under the next identifier
pub connection_sent : (rows : List Forwarded) (U : List Entry) (f : Forwarded) (rest : List ℕ) → ConnectionList rows U → ConnectionList (rows ++ f ∷ []) (U ++ record { part = Connection 1; at = 0; what = Sent (suc (length rows)) (record { client = 1; k = f.k }) rest } ∷ [])
connection_sent rows U f rest h = record {
  names = ap (map sent_name) (sendings_one 1 U e _ refl) ∙ map-append sent_name (map (later_sending e) (sendings 1 U)) (new_sending 1 U e _ ∷ []) ∙ ap (λ l. l ++ row_name (suc (length rows)) f ∷ []) (names_later e (sendings 1 U) ∙ h.names) ∙ ap (λ i. numbered 1 rows ++ row_name i f ∷ []) (omega arith) ∙ sym (numbered-append 1 rows f);
  ids_rise = looks_back has_next_id U e ∙ both (each_entry has_next_id U) (has_next_id U e) h.ids_rise (ap (λ n. suc (length rows) == suc n) h.given ∙ same_number (suc (length rows)));
  given = given_count_grows U e ∙ ap (λ n. n + 1) h.given ∙ sym (length-append rows (f ∷ []));
  none_out = list_any-append is_out_entry U (e ∷ []) ∙ ap (λ b. b || false) h.none_out;
}
  where
    e : Entry
    e = record { part = Connection 1; at = 0; what = Sent (suc (length rows)) (record { client = 1; k = f.k }) rest }
