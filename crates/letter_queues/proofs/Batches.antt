-- Letters that aren't sorted yet.
use Rattle.std.proofs.Common.{◌≡◌, Bool, true, false, cond, ◌&&◌, ◌==◌, List, [], ◌∷◌, ◌++◌, length, Option, Some, None, refl, ap, sym, ◌∙◌, append_assoc, arith}
use Rattle.std.proofs.lemmas.List.{append-nil}
use Rattle.std.proofs.lemmas.Bool.Decides.{nat_tests}
use Rattle.std.specs.Prelude.{is_none}
use Rattle.std.specs.List.{list_any}
use Rattle.lload_names.specs.declared.names.PartName.{PartName}
use Rattle.lload_names.specs.declared.names.Posted.{Posted}
use Rattle.lload_names.specs.Same.{same_part}
use Rattle.part_spec.specs.World.{Flight, flights, lowest}
use Rattle.letter_queues.specs.declared.batch.Batch.{Batch}
use Rattle.letter_queues.specs.declared.returned.Returned.{Returned}
use Rattle.letter_queues.specs.Batches.{batch_flights, flights_in, flights_back}
use Rattle.letter_queues.specs.Queues.{Queues, queue, receivers, senders_to, lower_of, Carries}
use Rattle.letter_queues.proofs.Lowest.{lowest-append, receivers-append, senders-append, batch-sender, senders-yes, senders-no, same-senders, same-receivers}
use Rattle.letter_queues.proofs.QueueLaws.{queue-append}

-- one more batch
in-push : (bs : List Batch) (b : Batch) → flights_in (bs ++ b ∷ []) ≡ flights_in bs ++ batch_flights b
in-push [] b = append-nil (batch_flights b)
in-push (x ∷ bs) b = ap (λ l. batch_flights x ++ l) (in-push bs b) ∙ sym (append_assoc (batch_flights x) (flights_in bs) (batch_flights b))

pub queue-push : (s r : PartName) (back sorted : List Flight) (bs : List Batch) (b : Batch) → queue s r (back ++ (sorted ++ flights_in (bs ++ b ∷ []))) ≡ queue s r (back ++ (sorted ++ flights_in bs)) ++ queue s r (batch_flights b)
queue-push s r back sorted bs b =
    ap (λ l. queue s r (back ++ (sorted ++ l))) (in-push bs b)
    ∙ ap (λ l. queue s r (back ++ l)) (sym (append_assoc sorted (flights_in bs) (batch_flights b)))
    ∙ ap (queue s r) (sym (append_assoc back (sorted ++ flights_in bs) (batch_flights b)))
    ∙ queue-append s r (back ++ (sorted ++ flights_in bs)) (batch_flights b)

-- the lower of parts
pub lower-none : (o : Option PartName) → lower_of o None ≡ o
lower-none None = refl
lower-none (Some p) = refl

pub lower-assoc : (a b c : Option PartName) → lower_of a (lower_of b c) ≡ lower_of (lower_of a b) c
lower-assoc None b c = refl
lower-assoc (Some p) None c = refl
lower-assoc (Some p) (Some q) None = refl
lower-assoc (Some p) (Some q) (Some r) = lowest-append (p ∷ q ∷ []) (r ∷ [])

-- a letter more
pub one-receiver : (found : Option PartName) (p : PartName) (x : Posted) (xs rest : List Posted) → rest ≡ x ∷ xs → lower_of found (lowest (receivers (flights p rest))) ≡ lower_of (lower_of found (Some x.to)) (lowest (receivers (flights p xs)))
one-receiver found p x xs rest e = ap (λ l. lower_of found (lowest (receivers (flights p l)))) e ∙ lower-assoc found (Some x.to) (lowest (receivers (flights p xs)))

-- a batch more
pub batch-receivers : (found : Option PartName) (b : Batch) (bs rest : List Batch) → rest ≡ b ∷ bs → lower_of found (lowest (receivers (flights_in rest))) ≡ lower_of (lower_of found (lowest (receivers (batch_flights b)))) (lowest (receivers (flights_in bs)))
batch-receivers found b bs rest e =
    ap (λ l. lower_of found (lowest (receivers (flights_in l)))) e
    ∙ ap (lower_of found) (receivers-append (batch_flights b) (flights_in bs))
    ∙ lower-assoc found (lowest (receivers (batch_flights b))) (lowest (receivers (flights_in bs)))

pub batch-senders : (found : Option PartName) (r : PartName) (b : Batch) (bs rest : List Batch) (has : Bool) → rest ≡ b ∷ bs → has ≡ list_any (λ p. same_part r p.to) b.letters.items → lower_of found (lowest (senders_to r (flights_in rest))) ≡ lower_of (lower_of found (cond has (Some b.from) None)) (lowest (senders_to r (flights_in bs)))
batch-senders found r b bs rest has e h =
    ap (λ l. lower_of found (lowest (senders_to r (flights_in l)))) e
    ∙ ap (lower_of found) (senders-append r (batch_flights b) (flights_in bs))
    ∙ lower-assoc found (lowest (senders_to r (batch_flights b))) (lowest (senders_to r (flights_in bs)))
    ∙ ap (λ o. lower_of (lower_of found o) (lowest (senders_to r (flights_in bs)))) (batch-sender b.from r b.letters.items ∙ ap (λ x. cond x (Some b.from) None) (sym h))

-- where all are sorted
has-some : (b : Batch) (bs : List Batch) → (length (b ∷ bs) == 0) ≡ true → (length (b ∷ bs) == 0) ≡ false
has-some b bs h = grind (arith, nat_tests)

pub sorted-alone : (back : Option Returned) (given : List Batch) → (is_none back && length given == 0) ≡ true → (sorted : List Flight) → flights_back back ++ (sorted ++ flights_in given) ≡ sorted
sorted-alone None [] h sorted = append-nil sorted
sorted-alone None (b ∷ bs) h sorted = absurd (let bad : true ≡ false = sym h ∙ has-some b bs h in cc)
sorted-alone (Some r) given h sorted = absurd (let bad : false ≡ true = h in cc)

-- the sender of a letter that was put back
pub back_sender : (r from : PartName) (posted : Posted) → lowest (senders_to r (flights from (posted ∷ []))) ≡ cond (same_part r posted.to) (Some from) None
back_sender r from posted = by (same_part r posted.to) refl
  where
    by : (b : Bool) → same_part r posted.to ≡ b → lowest (senders_to r (flights from (posted ∷ []))) ≡ cond (same_part r posted.to) (Some from) None
    by true e = ap lowest (senders-yes r (record { from = from; posted = posted }) [] e) ∙ sym (ap (λ x. cond x (Some from) None) e)
    by false e = ap lowest (senders-no r (record { from = from; posted = posted }) [] e) ∙ sym (ap (λ x. cond x (Some from) None) e)

-- the lowest of what was put back, what is sorted and what isn't is that of the letters that are carried
pub waiting-is : (r : PartName) (a b d letters : List Flight) (q : Queues) (x y z : Option PartName) → a ++ (b ++ d) ≡ q.letters → Carries letters q → x ≡ lowest (senders_to r a) → y ≡ lowest (senders_to r b) → z ≡ lowest (senders_to r d) → lower_of x (lower_of y z) ≡ lowest (senders_to r letters)
waiting-is r a b d letters q x y z view carried e f g =
    ap (λ o. lower_of o (lower_of y z)) e
    ∙ ap (λ o. lower_of (lowest (senders_to r a)) (lower_of o z)) f
    ∙ ap (λ o. lower_of (lowest (senders_to r a)) (lower_of (lowest (senders_to r b)) o)) g
    ∙ sym (senders-append r a (b ++ d) ∙ ap (lower_of (lowest (senders_to r a))) (senders-append r b d))
    ∙ ap (λ l. lowest (senders_to r l)) view
    ∙ same-senders q.letters letters (λ s t. sym (carried s t)) r

pub lowest-waiting-is : (a b d letters : List Flight) (q : Queues) (x y z : Option PartName) → a ++ (b ++ d) ≡ q.letters → Carries letters q → x ≡ lowest (receivers a) → y ≡ lowest (receivers b) → z ≡ lowest (receivers d) → lower_of x (lower_of y z) ≡ lowest (receivers letters)
lowest-waiting-is a b d letters q x y z view carried e f g =
    ap (λ o. lower_of o (lower_of y z)) e
    ∙ ap (λ o. lower_of (lowest (receivers a)) (lower_of o z)) f
    ∙ ap (λ o. lower_of (lowest (receivers a)) (lower_of (lowest (receivers b)) o)) g
    ∙ sym (receivers-append a (b ++ d) ∙ ap (lower_of (lowest (receivers a))) (receivers-append b d))
    ∙ ap (λ l. lowest (receivers l)) view
    ∙ same-receivers q.letters letters (λ s t. sym (carried s t))
