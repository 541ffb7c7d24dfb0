-- Reading the first message of octets behind which more stand.
use Rattle.std.proofs.Common.{◌≡◌, ℕ, suc, ◌+◌, ◌-◌, ◌≤◌, Bool, true, false, cond, not, ◌&&◌, eqb, ltb, ltb-false, le-ltb, List, [], ◌∷◌, ◌++◌, length, take, drop, Option, Some, None, refl, ap, subst, ◌∙◌, sym, arith, length-append, length-drop}
use Rattle.std.proofs.lemmas.List.{take-append-le, drop-append-le}
use Rattle.ldap_spec.specs.Elements.{length_of, length_size}
use Rattle.ldap_spec.specs.Messages.{Message, message_of_contents}
use Rattle.ldap_spec.specs.Streams.{Reading, Whole, Short, Bad, TooBig, bad_place, read_contents, read_sized, read_headed, read}
use Rattle.ldap_spec.specs.Framing.{BeginsNoMessage}
use Rattle.ldap_spec.proofs.ReadingLaws.{spelled_is_read}
use Rattle.msg_framer.specs.History.{HasEnded}

-- the octets are enough to tell
abbrev pub IsSettled : Reading → Type 0
IsSettled (Whole m behind) = Unit {0}
IsSettled (Short needed) = ⊥
IsSettled (Bad at) = Unit {0}
IsSettled (TooBig n) = Unit {0}

-- the same reading, of octets behind which more stand
abbrev pub followed : List ℕ → Reading → Reading
followed more (Whole m behind) = Whole m (behind ++ more)
followed more (Short needed) = Short needed
followed more (Bad at) = Bad at
followed more (TooBig n) = TooBig n

-- the second is the first, with more octets behind it, where the first is settled
abbrev pub Stays : List ℕ → Reading → Reading → Type 0
Stays more r s = IsSettled r → s ≡ followed more r

stays_either : (more : List ℕ) (b : Bool) (x y u v : Reading) → Stays more x u → Stays more y v → Stays more (cond b x y) (cond b u v)
stays_either more true x y u v p q = p
stays_either more false x y u v p q = q

stays_short : (more : List ℕ) (b c : Bool) (k : ℕ) (y v : Reading) → (b ≡ false → c ≡ false) → (b ≡ false → Stays more y v) → Stays more (cond b (Short k) y) (cond c (Short k) v)
stays_short more true c k y v p q = λ s. absurd s
stays_short more false true k y v p q = let wrong : true ≡ false = p refl in absurd (cc)
stays_short more false false k y v p q = q refl

-- contents and what stands behind them, by the message that they are
abbrev told : Option Message → ℕ → List ℕ → Reading
told o place behind = elim o [ Some m ↦ Whole m behind | None ↦ Bad place ]

told_stays : (more : List ℕ) (o : Option Message) (place : ℕ) (behind : List ℕ) → Stays more (told o place behind) (told o place (behind ++ more))
told_stays more None place behind = λ s. refl
told_stays more (Some m) place behind = λ s. refl

contents_stay : (from to : ℕ) (bytes more : List ℕ) → from ≤ to → to ≤ length bytes → Stays more (read_contents from to bytes) (read_contents from to (bytes ++ more))
contents_stay from to bytes more f t =
    let contents : List ℕ = take (to - from) (drop from bytes) in
    let same : take (to - from) (drop from (bytes ++ more)) ≡ contents =
    ap (take (to - from)) (drop-append-le from bytes more (omega arith)) ∙ take-append-le (to - from) (drop from bytes) more (omega (arith, length-drop from bytes)) in
    let behind : drop to (bytes ++ more) ≡ drop to bytes ++ more = drop-append-le to bytes more t in
    let by : List ℕ → List ℕ → Reading = λ xs ys. told (message_of_contents xs) (from + bad_place xs) ys in
    λ s. ap (λ (xs : List ℕ). by xs (drop to (bytes ++ more))) same ∙ (ap (by contents) behind ∙ told_stays more (message_of_contents contents) (from + bad_place contents) (drop to bytes) s)

longer : (bytes more : List ℕ) (k : ℕ) → ltb (length bytes) k ≡ false → ltb (length (bytes ++ more)) k ≡ false
longer bytes more k h = le-ltb _ _ (omega (arith, ltb-false _ _ h, length-append bytes more))

sized_stay : (limit head : ℕ) (bytes more : List ℕ) (o : Option ℕ) → Stays more (read_sized limit head bytes o) (read_sized limit head (bytes ++ more) o)
sized_stay limit head bytes more None = λ s. refl
sized_stay limit head bytes more (Some n) =
    stays_either more (ltb limit n) (TooBig n) _ (TooBig n) _ (λ s. refl)
    (stays_short more (ltb (length bytes) (head + n)) (ltb (length (bytes ++ more)) (head + n)) (head + n) (read_contents head (head + n) bytes) (read_contents head (head + n) (bytes ++ more))
    (longer bytes more (head + n))
    (λ h. contents_stay head (head + n) bytes more (omega arith) (ltb-false _ _ h)))

headed_stay : (limit k t : ℕ) (bytes more : List ℕ) → Stays more (read_headed limit (suc k) (t ∷ bytes)) (read_headed limit (suc k) (t ∷ (bytes ++ more)))
headed_stay limit k t bytes more =
    stays_short more (ltb (length (t ∷ bytes)) (suc k)) (ltb (length (t ∷ (bytes ++ more))) (suc k)) (suc k) _ _
    (longer (t ∷ bytes) more (suc k))
    (λ h.
    let there : suc k ≤ length (t ∷ bytes) = ltb-false _ _ h in
    let same : take k (bytes ++ more) ≡ take k bytes = take-append-le k bytes more (omega (arith, there)) in
    let stay : Stays more (read_sized limit (suc k) (t ∷ bytes) (length_of (take k bytes))) (read_sized limit (suc k) (t ∷ (bytes ++ more)) (length_of (take k bytes))) = sized_stay limit (suc k) (t ∷ bytes) more (length_of (take k bytes)) in
    λ s. ap (λ (xs : List ℕ). read_sized limit (suc k) (t ∷ (bytes ++ more)) (length_of xs)) same ∙ stay s)

one_stays : (more : List ℕ) (b : Bool) → Stays more (cond b (Short 2) (Bad 0)) (cond b (Short 2) (Bad 0))
one_stays more true = λ s. absurd s
one_stays more false = λ s. refl

two_stay : (more : List ℕ) (b d : Bool) (r : Reading) → Stays more (cond b (Short 2) (Bad 0)) (cond (b && d) r (Bad 0))
two_stay more true d r = λ s. absurd s
two_stay more false d r = λ s. refl

one_read : (limit t : ℕ) (more : List ℕ) → Stays more (read limit (t ∷ [])) (read limit (t ∷ more))
one_read limit t [] = one_stays [] (eqb t 48)
one_read limit t (n ∷ xs) = two_stay (n ∷ xs) (eqb t 48) (not (eqb (length_size n) 0)) (read_headed limit (suc (length_size n)) (t ∷ n ∷ xs))

-- what was read stays, whatever follows
pub read_stays : (limit : ℕ) (bytes more : List ℕ) → Stays more (read limit bytes) (read limit (bytes ++ more))
read_stays limit [] more = λ s. absurd s
read_stays limit (t ∷ []) more = one_read limit t more
read_stays limit (t ∷ n ∷ xs) more =
    stays_either more (eqb t 48 && not (eqb (length_size n) 0)) _ (Bad 0) _ (Bad 0) (headed_stay limit (length_size n) t (n ∷ xs) more) (λ s. refl)

-- the same, by what was read
pub read_more : (limit : ℕ) (bytes more : List ℕ) (r : Reading) → read limit bytes ≡ r → IsSettled r → read limit (bytes ++ more) ≡ followed more r
read_more limit bytes more r h s = read_stays limit bytes more (subst IsSettled (sym h) s) ∙ ap (followed more) h

ended_settled : (r : Reading) → HasEnded r → IsSettled r
ended_settled (Whole m behind) h = tt
ended_settled (Short needed) h = absurd h
ended_settled (Bad at) h = tt
ended_settled (TooBig n) h = tt

ended_followed : (more : List ℕ) (r : Reading) → HasEnded r → HasEnded (followed more r)
ended_followed more (Whole m behind) h = h
ended_followed more (Short needed) h = h
ended_followed more (Bad at) h = h
ended_followed more (TooBig n) h = h

-- what has ended stays so, whatever follows
pub ended_more : (limit : ℕ) (bytes more : List ℕ) → HasEnded (read limit bytes) → HasEnded (read limit (bytes ++ more))
ended_more limit bytes more h = subst HasEnded (sym (read_stays limit bytes more (ended_settled (read limit bytes) h))) (ended_followed more (read limit bytes) h)

-- what has ended begins with no message
pub ended_begins_none : (limit : ℕ) (bytes : List ℕ) → HasEnded (read limit bytes) → BeginsNoMessage limit bytes
ended_begins_none limit bytes h = λ s behind m e w. subst HasEnded (ap (read limit) e ∙ spelled_is_read limit s behind m w) h
