-- What a connection's list gains from one entry more at its end.
use Rattle.std.proofs.Common.{◌≡◌, ℕ, List, [], ◌∷◌, ◌++◌, refl, ap, ◌∙◌, sym, append_assoc}
use Rattle.std.specs.Prelude.{Option, Some, None, map}
use Rattle.std.proofs.lemmas.List.{append-nil, map-append}
use Rattle.ldap_spec.specs.Messages.{Message}
use Rattle.lload_names.specs.declared.names.Entry.{Entry}
use Rattle.lload_spec.specs.Entries.{Named, sent_message}
use Rattle.lload_spec.specs.Answers.{Sending, sending_made, sendings_from}
use Rattle.lload_laws.specs.ConnectionGrowth.{later_sending, SendingsGrow}

-- the Sent that an entry is, with one entry more behind it
made_later : (u : ℕ) (before : List Entry) (x : Entry) (L : List Entry) (e : Entry) (m : Option (Named Message)) → sending_made u before x (L ++ e ∷ []) m ≡ map (later_sending e) (sending_made u before x L m)
made_later u before x L e None = refl
made_later u before x L e (Some s) = refl

sendings_grow_from : (u : ℕ) (before L : List Entry) (e : Entry) → sendings_from u before (L ++ e ∷ []) ≡ map (later_sending e) (sendings_from u before L) ++ sending_made u (before ++ L) e [] (sent_message e.what)
sendings_grow_from u before [] e = append-nil (sending_made u before e [] (sent_message e.what)) ∙ ap (λ l. sending_made u l e [] (sent_message e.what)) (sym (append-nil before))
sendings_grow_from u before (x ∷ L) e = ap (λ l. l ++ sendings_from u (before ++ x ∷ []) (L ++ e ∷ [])) (made_later u before x L e (sent_message x.what)) ∙ ap (λ l. map (later_sending e) here ++ l) (sendings_grow_from u (before ++ x ∷ []) L e) ∙ sym (append_assoc (map (later_sending e) here) (map (later_sending e) rest) (last ((before ++ x ∷ []) ++ L))) ∙ ap (λ l. l ++ last ((before ++ x ∷ []) ++ L)) (sym (map-append (later_sending e) here rest)) ∙ ap (λ l. map (later_sending e) (here ++ rest) ++ last l) (append_assoc before (x ∷ []) L)
  where
    here : List Sending
    here = sending_made u before x L (sent_message x.what)

    rest : List Sending
    rest = sendings_from u (before ++ x ∷ []) L

    last : List Entry → List Sending
    last l = sending_made u l e [] (sent_message e.what)

pub sendings_grow : SendingsGrow
sendings_grow u L e = sendings_grow_from u [] L e
