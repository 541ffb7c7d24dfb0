-- Where a framer stands, behind each of its calls.
use Rattle.std.proofs.Common.{◌≡◌, ◌≢◌, ◌↔◌, Bool, false, IsTrue, ℕ, ◌-◌, ◌<◌, ◌≤◌, List, [], ◌∷◌, ◌++◌, length, take, drop, refl, ap, subst, ◌∙◌, sym, arith, length-append, length-drop, ⊎_elim}
use Rattle.std.proofs.lemmas.Bool.{cases_lt}
use Rattle.std.proofs.lemmas.List.{append-nil, append_cancel_right, take-append-le, drop-append-le, get_or_append_left, get_or-append_right}
use Rattle.ldap_spec.specs.Laws.{AreOctets}
use Rattle.ldap_spec.specs.Messages.{Message, SpellsWithin}
use Rattle.ldap_spec.specs.Streams.{Reading, Whole, Short, Bad, TooBig, read}
use Rattle.ldap_spec.specs.Framing.{IsStream, BeginsNoMessage}
use Rattle.ldap_spec.proofs.ReadingLaws.{read_is_spelled}
use Rattle.ber_envelope.specs.declared.reading.Read.{Read}
use Rattle.ber_envelope.specs.declared.reading.Read.TheVariants.{Whole as WholeRead, Short as ShortRead, Bad as BadRead, TooBig as TooBigRead}
use Rattle.ber_envelope.specs.Reading.{Answers, message_between}
use Rattle.msg_framer.specs.Held.{Held}
use Rattle.msg_framer.specs.Cached.{IsRead, WasRead, IsEnd}
use Rattle.msg_framer.specs.History.{BeginsWith, HasEnded, IsFirst, Stands, IsBehind}
use Rattle.msg_framer.proofs.MoreOctets.{read_more, ended_more, ended_begins_none}
use Rattle.msg_framer.proofs.Beginnings.{ContinuesWith, begins_more, begins_last, stream_behind, stream_begins}

pub octets_join : (xs ys : List ℕ) → AreOctets xs → AreOctets ys → AreOctets (xs ++ ys)
octets_join xs ys o p = record {
  each = λ i. ⊎_elim
      (λ l. let P : ℕ → Type 0 = λ n. n < 256 in subst P (sym (get_or_append_left xs ys 0 i l)) (o.each i))
      (λ l. let P : ℕ → Type 0 = λ n. n < 256 in subst P (sym (get_or-append_right xs ys (length xs) i 0 refl l)) (p.each (i - length xs)))
      (cases_lt i (length xs));
}

-- the same message between the same places
same_between : (octets piece : List ℕ) (id rest_at end : ℕ) → rest_at ≤ end → end ≤ length octets → message_between octets id rest_at end ≡ message_between (octets ++ piece) id rest_at end
same_between octets piece id rest_at end r e =
    let behind : drop rest_at (octets ++ piece) ≡ drop rest_at octets ++ piece = drop-append-le rest_at octets piece (omega arith) in
    let rest : take (end - rest_at) (drop rest_at (octets ++ piece)) ≡ take (end - rest_at) (drop rest_at octets) =
    ap (take (end - rest_at)) behind ∙ take-append-le (end - rest_at) (drop rest_at octets) piece (omega (arith, length-drop rest_at octets)) in
    let made : List ℕ → Message = λ xs. record { id = id; rest = xs } in
    ap made (sym rest)

-- a message that was read is still read behind another piece
still_whole : (limit : ℕ) (bytes piece : List ℕ) (id rest_at end : ℕ) → Answers bytes (read limit bytes) (WholeRead id rest_at end) → Answers (bytes ++ piece) (read limit (bytes ++ piece)) (WholeRead id rest_at end)
still_whole limit bytes piece id rest_at end a =
    let m : Message = message_between bytes id rest_at end in
    let r : read limit (bytes ++ piece) ≡ Whole m (drop end bytes ++ piece) = read_more limit bytes piece (Whole m (drop end bytes)) a.2 tt in
    let behind : drop end bytes ++ piece ≡ drop end (bytes ++ piece) = sym (drop-append-le end bytes piece a.1) in (
      a.0,
      omega (arith, a.1, length-append bytes piece),
      r ∙ (ap (λ (n : Message). Whole n (drop end bytes ++ piece)) (same_between bytes piece id rest_at end a.0 a.1) ∙ ap (Whole (message_between (bytes ++ piece) id rest_at end)) behind),
    )

-- and so is every answer that isn't short of octets
still_answers : (limit : ℕ) (bytes piece : List ℕ) (first : Read) → ((needed : ℕ) → first ≡ ShortRead needed → ⊥) → Answers bytes (read limit bytes) first → Answers (bytes ++ piece) (read limit (bytes ++ piece)) first
still_answers limit bytes piece (WholeRead id rest_at end) n a = still_whole limit bytes piece id rest_at end a
still_answers limit bytes piece (ShortRead needed) n a = absurd (n needed refl)
still_answers limit bytes piece (BadRead at) n a = read_more limit bytes piece (Bad at) a tt
still_answers limit bytes piece (TooBigRead size) n a = read_more limit bytes piece (TooBig size) a tt

pub still_read : (limit : ℕ) (bytes : List ℕ) (first : Read) → AreOctets bytes → WasRead limit bytes first → ((needed : ℕ) → first ≡ ShortRead needed → ⊥) → IsRead limit bytes first
still_read limit bytes first o w n = record {
  octets = o;
  answers = rw w.joined (still_answers limit w.before w.more first n w.was.answers);
}

pub whole_ended : (m : Message) (behind : List ℕ) → HasEnded (Whole m behind) → ⊥
whole_ended m behind h = h

pub short_ended : (needed : ℕ) → HasEnded (Short needed) → ⊥
short_ended needed h = h

some_is : (d : ℕ) (ds : List ℕ) → d ∷ ds ≢ []
some_is d ds = λ e. cc

-- nothing was dropped where a message may come
pub none_dropped : (dropped : List ℕ) (r : Reading) → (dropped ≢ [] → HasEnded r) → (HasEnded r → ⊥) → dropped ≡ []
none_dropped [] r h n = refl
none_dropped (d ∷ ds) r h n = absurd (n (h (some_is d ds)))

-- behind a piece that was kept
pub stands_kept : (fed piece : List ℕ) (passed : List Message) (f g : Held) → Stands fed passed f → g.limit ≡ f.limit → g.left ≡ f.left ++ piece → (HasEnded (read f.limit f.left) → ⊥) → Stands (fed ++ piece) passed g
stands_kept fed piece passed f g h l e n =
    let none : h.dropped ≡ [] = none_dropped h.dropped (read f.limit f.left) h.ended n in
    let all : fed ≡ h.kept = h.all ∙ (ap (λ (xs : List ℕ). h.kept ++ xs) none ∙ append-nil h.kept) in
    record {
      kept = h.kept ++ piece;
      dropped = [];
      all = ap (λ (xs : List ℕ). xs ++ piece) all ∙ sym (append-nil (h.kept ++ piece));
      begins = rw (l, e) (begins_more f.limit h.kept passed f.left piece h.begins);
      ended = λ some. absurd (some refl);
    }

-- where the answer kept is no end, a message may come
pub has_not_ended : (limit : ℕ) (bytes : List ℕ) (first : Read) (b : Bool) → IsRead limit bytes first → IsTrue b ↔ IsEnd first → b ≡ false → HasEnded (read limit bytes) → ⊥
has_not_ended limit bytes (WholeRead id rest_at end) b r t e h = whole_ended (message_between bytes id rest_at end) (drop end bytes) (subst HasEnded r.answers.2 h)
has_not_ended limit bytes (ShortRead needed) b r t e h = short_ended needed (subst HasEnded r.answers h)
has_not_ended limit bytes (BadRead at) b r t e h = let held : IsTrue b = t.1 tt in absurd (cc)
has_not_ended limit bytes (TooBigRead size) b r t e h = let held : IsTrue b = t.1 tt in absurd (cc)

-- behind a message that was passed
pub stands_passed : (fed : List ℕ) (passed : List Message) (f g : Held) (m : Message) (behind : List ℕ) → AreOctets f.left → IsFirst f m behind → g.limit ≡ f.limit → g.left ≡ behind → Stands fed passed f → Stands fed (passed ++ m ∷ []) g
stands_passed fed passed f g m behind o first l e h =
    let s = read_is_spelled f.limit f.left behind m o first in
    let none : h.dropped ≡ [] = none_dropped h.dropped (read f.limit f.left) h.ended (λ w. whole_ended m behind (subst HasEnded first w)) in
    record {
      kept = h.kept;
      dropped = h.dropped;
      all = h.all;
      begins = rw (l, e) (begins_last f.limit h.kept passed f.left s.0 behind m h.begins s.2 s.1);
      ended = λ some. absurd (some none);
    }

-- the stream of the octets that were kept
pub stream_kept : (fed : List ℕ) (passed ms : List Message) (tail : List ℕ) (f : Held) (h : Stands fed passed f) → (IsStream f.limit h.kept ms tail → IsBehind passed f ms tail) × (IsBehind passed f ms tail → IsStream f.limit h.kept ms tail)
stream_kept fed passed ms tail f h = (
  stream_begins f.limit h.kept passed ms f.left tail h.begins,
  λ b. subst (λ (ns : List Message). IsStream f.limit h.kept ns tail) (sym b.1) (stream_behind f.limit h.kept passed b.0 f.left tail h.begins b.2),
)

-- the stream of what has ended has no message
ended_stream : (limit : ℕ) (left : List ℕ) (ms : List Message) (tail : List ℕ) → HasEnded (read limit left) → IsStream limit left ms tail → (ms ≡ []) × (left ≡ tail)
ended_stream limit left [] tail n s = (refl, s.0)
ended_stream limit left (m ∷ ms) tail n s = absurd (ended_begins_none limit left n s.0 s.1 m s.3 s.2)

-- octets that were dropped stand at the end of the tail
tail_longer : (limit : ℕ) (left dropped : List ℕ) (ms : List Message) (tail : List ℕ) → (dropped ≢ [] → HasEnded (read limit left)) → IsStream limit left ms tail → IsStream limit (left ++ dropped) ms (tail ++ dropped)
tail_longer limit left [] ms tail n s = rw (append-nil left, append-nil tail) s
tail_longer limit left (d ∷ ds) ms tail n s =
    let ended : HasEnded (read limit left) = n (some_is d ds) in
    let e = ended_stream limit left ms tail ended s in
    let same : left ++ (d ∷ ds) ≡ tail ++ (d ∷ ds) = ap (λ (xs : List ℕ). xs ++ (d ∷ ds)) e.1 in
    let none : BeginsNoMessage limit (tail ++ (d ∷ ds)) = subst (BeginsNoMessage limit) same (ended_begins_none limit (left ++ (d ∷ ds)) (ended_more limit left (d ∷ ds) ended)) in
    let bare : IsStream limit (left ++ (d ∷ ds)) [] (tail ++ (d ∷ ds)) = (same, none) in
    subst (λ (ns : List Message). IsStream limit (left ++ (d ∷ ds)) ns (tail ++ (d ∷ ds))) (sym e.0) bare

tail_shorter : (limit : ℕ) (left dropped : List ℕ) (ms : List Message) (tail : List ℕ) → (dropped ≢ [] → HasEnded (read limit left)) → IsStream limit (left ++ dropped) ms (tail ++ dropped) → IsStream limit left ms tail
tail_shorter limit left [] ms tail n s =
    let P : List ℕ → Type 0 = λ xs. IsStream limit xs ms tail in
    subst P (append-nil left) (subst (λ (ys : List ℕ). IsStream limit (left ++ []) ms ys) (append-nil tail) s)
tail_shorter limit left (d ∷ ds) ms tail n s =
    let ended : HasEnded (read limit left) = n (some_is d ds) in
    let e = ended_stream limit (left ++ (d ∷ ds)) ms (tail ++ (d ∷ ds)) (ended_more limit left (d ∷ ds) ended) s in
    let same : left ≡ tail = append_cancel_right left tail (d ∷ ds) e.1 in
    let bare : IsStream limit left [] tail = (same, subst (BeginsNoMessage limit) same (ended_begins_none limit left ended)) in
    subst (λ (ns : List Message). IsStream limit left ns tail) (sym e.0) bare

-- the octets that were kept, and then those that were dropped, as one stream
begins_all : (fed : List ℕ) (passed : List Message) (f : Held) (h : Stands fed passed f) → BeginsWith f.limit fed passed (f.left ++ h.dropped)
begins_all fed passed f h = subst (λ (xs : List ℕ). BeginsWith f.limit xs passed (f.left ++ h.dropped)) (sym h.all) (begins_more f.limit h.kept passed f.left h.dropped h.begins)

pub stream_all : (fed : List ℕ) (passed ms : List Message) (tail : List ℕ) (f : Held) (h : Stands fed passed f) → (IsStream f.limit h.kept ms tail → IsStream f.limit fed ms (tail ++ h.dropped)) × (IsStream f.limit fed ms (tail ++ h.dropped) → IsStream f.limit h.kept ms tail)
stream_all fed passed ms tail f h =
    let Q : List ℕ → List ℕ → List Message → Type 0 = λ xs ys ns. IsStream f.limit xs ns ys in (
      λ s.
          let b = stream_begins f.limit h.kept passed ms f.left tail h.begins s in
          subst (Q fed (tail ++ h.dropped)) (sym b.1) (stream_behind f.limit fed passed b.0 (f.left ++ h.dropped) (tail ++ h.dropped) (begins_all fed passed f h) (tail_longer f.limit f.left h.dropped b.0 tail h.ended b.2)),
      λ s.
          let b = stream_begins f.limit fed passed ms (f.left ++ h.dropped) (tail ++ h.dropped) (begins_all fed passed f h) s in
          subst (Q h.kept tail) (sym b.1) (stream_behind f.limit h.kept passed b.0 f.left tail h.begins (tail_shorter f.limit f.left h.dropped b.0 tail h.ended b.2)),
    )

-- the stream behind the messages that were passed
pub stream_left : (fed : List ℕ) (passed ms : List Message) (tail : List ℕ) (f : Held) (h : Stands fed passed f) → IsStream f.limit fed ms tail → ContinuesWith f.limit passed (f.left ++ h.dropped) ms tail
stream_left fed passed ms tail f h s = stream_begins f.limit fed passed ms (f.left ++ h.dropped) tail (begins_all fed passed f h) s

-- what stands behind the message that was read
pub behind_same : (r : Reading) (m n : Message) (xs ys : List ℕ) → r ≡ Whole m xs → r ≡ Whole n ys → xs ≡ ys
behind_same r m n xs ys h k = let e : Whole m xs ≡ Whole n ys = sym h ∙ k in cc

pub some_spelled : (limit : ℕ) (s : List ℕ) (m : Message) → SpellsWithin limit s m → 1 ≤ length s
some_spelled limit s m w = omega (arith, ap length w.spelling.spelled)

-- it is shorter
pub behind_shorter : (limit : ℕ) (bytes behind : List ℕ) (m : Message) → AreOctets bytes → read limit bytes ≡ Whole m behind → length behind < length bytes
behind_shorter limit bytes behind m o h =
    let s = read_is_spelled limit bytes behind m o h in
    omega (arith, ap length s.1, length-append s.0 behind, some_spelled limit s.0 m s.2)
