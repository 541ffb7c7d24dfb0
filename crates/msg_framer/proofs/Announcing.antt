-- What a framer answers, by the stream that it was fed.
use Rattle.std.proofs.Common.{◌≡◌, ◌≢◌, ℕ, List, [], ◌∷◌, ◌++◌, ap, subst, ◌∙◌, sym, arith, append_assoc, length-append}
use Rattle.std.proofs.lemmas.List.{append-nil}
use Rattle.ldap_spec.specs.Laws.{AreOctets}
use Rattle.ldap_spec.specs.Messages.{Message}
use Rattle.ldap_spec.specs.Streams.{Reading, Whole, Short, Bad as NoMessage, TooBig as TooLong, read}
use Rattle.ldap_spec.specs.Framing.{IsStream}
use Rattle.ldap_spec.proofs.ReadingLaws.{spelled_is_read, read_is_spelled}
use Rattle.msg_framer.specs.declared.framer.Next.{Next}
use Rattle.msg_framer.specs.declared.framer.Next.TheVariants.{Message as FirstMessage, NotYet, Bad, TooBig}
use Rattle.msg_framer.specs.Held.{Held}
use Rattle.msg_framer.specs.History.{HasEnded, Stands}
use Rattle.msg_framer.specs.Telling.{Tells, LendsMessage, Announces, GoesOn}
use Rattle.msg_framer.proofs.MoreOctets.{read_more}
use Rattle.msg_framer.proofs.Histories.{none_dropped, short_ended, stream_left}

-- what is told as a message is lent as one
pub lends_message : (limit : ℕ) (bytes : List ℕ) (next : Next) → AreOctets bytes → Tells (read limit bytes) next → LendsMessage limit next
lends_message limit bytes (FirstMessage id rest) o t =
    let m : Message = record { id = id; rest = rest.now } in
    let s = read_is_spelled limit bytes t.0 m o t.1 in
    let w = s.2.spelling in
    (w.is_message, omega (arith, s.2.within, length-append w.id_length (w.integer ++ rest.now), length-append w.integer rest.now))
lends_message limit bytes NotYet o t = tt
lends_message limit bytes Bad o t = tt
lends_message limit bytes TooBig o t = tt

one_reading : (r : Reading) (m n : Message) (xs ys : List ℕ) → r ≡ Whole m xs → r ≡ Whole n ys → n ≡ m
one_reading r m n xs ys h k = let e : Whole m xs ≡ Whole n ys = sym h ∙ k in cc

-- the first of some messages is what is told, and where there is none, the end
announces : (limit : ℕ) (left dropped : List ℕ) (more : List Message) (tail : List ℕ) (next : Next) → AreOctets left → (dropped ≢ [] → HasEnded (read limit left)) → IsStream limit (left ++ dropped) more tail → Tells (read limit left) next →
    Announces limit more tail next
announces limit left dropped (m ∷ ms) tail (FirstMessage id rest) o n s t =
    let first : read limit (left ++ dropped) ≡ Whole (record { id = id; rest = rest.now }) (t.0 ++ dropped) = read_more limit left dropped (Whole (record { id = id; rest = rest.now }) t.0) t.1 tt in
    one_reading (read limit (left ++ dropped)) (record { id = id; rest = rest.now }) m (t.0 ++ dropped) s.1 first (ap (read limit) s.3 ∙ spelled_is_read limit s.0 s.1 m s.2)
announces limit left dropped (m ∷ ms) tail NotYet o n s t =
    let none : dropped ≡ [] = none_dropped dropped (read limit left) n (λ w. short_ended t.0 (subst HasEnded t.1 w)) in
    let whole : read limit (left ++ dropped) ≡ Whole m s.1 = ap (read limit) s.3 ∙ spelled_is_read limit s.0 s.1 m s.2 in
    let same : read limit (left ++ dropped) ≡ Short t.0 = ap (λ (xs : List ℕ). read limit (left ++ xs)) none ∙ (ap (read limit) (append-nil left) ∙ t.1) in
    let wrong : Whole m s.1 ≡ Short t.0 = sym whole ∙ same in
    absurd (cc)
announces limit left dropped (m ∷ ms) tail Bad o n s t =
    let whole : read limit (left ++ dropped) ≡ Whole m s.1 = ap (read limit) s.3 ∙ spelled_is_read limit s.0 s.1 m s.2 in
    let wrong : Whole m s.1 ≡ NoMessage t.0 = sym whole ∙ read_more limit left dropped (NoMessage t.0) t.1 tt in
    absurd (cc)
announces limit left dropped (m ∷ ms) tail TooBig o n s t =
    let whole : read limit (left ++ dropped) ≡ Whole m s.1 = ap (read limit) s.3 ∙ spelled_is_read limit s.0 s.1 m s.2 in
    let wrong : Whole m s.1 ≡ TooLong t.0 = sym whole ∙ read_more limit left dropped (TooLong t.0) t.1 tt in
    absurd (cc)
announces limit left dropped [] tail (FirstMessage id rest) o n s t =
    let m : Message = record { id = id; rest = rest.now } in
    let spelled = read_is_spelled limit left t.0 m o t.1 in
    s.1 spelled.0 (t.0 ++ dropped) m (sym s.0 ∙ (ap (λ (xs : List ℕ). xs ++ dropped) spelled.1 ∙ append_assoc spelled.0 t.0 dropped)) spelled.2
announces limit left dropped [] tail NotYet o n s t =
    let none : dropped ≡ [] = none_dropped dropped (read limit left) n (λ w. short_ended t.0 (subst HasEnded t.1 w)) in
    (t.0, ap (read limit) (sym s.0 ∙ (ap (λ (xs : List ℕ). left ++ xs) none ∙ append-nil left)) ∙ t.1)
announces limit left dropped [] tail Bad o n s t = (t.0, ap (read limit) (sym s.0) ∙ read_more limit left dropped (NoMessage t.0) t.1 tt)
announces limit left dropped [] tail TooBig o n s t = (t.0, ap (read limit) (sym s.0) ∙ read_more limit left dropped (TooLong t.0) t.1 tt)

-- the answer is what comes next in the stream of all that was fed
pub goes_on : (fed tail : List ℕ) (passed ms : List Message) (f : Held) (next : Next) → AreOctets f.left → Tells (read f.limit f.left) next → Stands fed passed f → IsStream f.limit fed ms tail → GoesOn f.limit passed ms tail next
goes_on fed tail passed ms f next o t h s =
    let b = stream_left fed passed ms tail f h s in
    (b.0, b.1, announces f.limit f.left h.dropped b.0 tail next o h.ended b.2 t)
