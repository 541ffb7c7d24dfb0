-- What a connection's list gains from one entry more at its end.
use Rattle.std.specs.Prelude.{◌≡◌, ℕ, List, [], ◌∷◌, ◌++◌, map}
use Rattle.lload_names.specs.declared.names.Entry.{Entry}
use Rattle.lload_spec.specs.Entries.{sent_message}
use Rattle.lload_spec.specs.Answers.{Sending, sendings, sending_made}

-- a Sent with one entry more behind it
abbrev pub later_sending : Entry → Sending → Sending
later_sending e s = record s { behind = s.behind ++ e ∷ [] }

-- each Sent stays, with the entry behind it, and then comes the entry where it is one
abbrev pub SendingsGrow : Type 0
SendingsGrow =
    (u : ℕ) (L : List Entry) (e : Entry) → sendings u (L ++ e ∷ []) ≡ map (later_sending e) (sendings u L)
    ++ sending_made u L e [] (sent_message e.what)
