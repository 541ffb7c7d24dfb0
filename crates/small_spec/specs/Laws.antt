-- Laws over the definitions: what stays when a list grows at its end.
use Rattle.std.specs.Prelude.{◌≡◌, ℕ, Bool, ◌&&◌, List, [], ◌∷◌, ◌++◌, Option, IsTrue}
use Rattle.lload_names.specs.declared.names.Entry.{Entry}
use Rattle.lload_names.specs.declared.names.OpKind.{OpKind}
use Rattle.small_spec.specs.Lists.{each_entry}
use Rattle.ldap_spec.specs.Messages.{Message}
use Rattle.small_spec.specs.Answers.{answers_under}
use Rattle.small_spec.specs.Fifo.{allowed}

-- what looks back alone holds of a longer list where it held and holds of the new entry
abbrev pub LooksBack : Type 0
LooksBack = (test : List Entry → Entry → Bool) (L : List Entry) (e : Entry) → each_entry test (L ++ e ∷ []) ≡ (each_entry test L && test L e)

-- what a client got stays allowed when the connection's list grows
abbrev pub AnswersMayGrow : Type 0
AnswersMayGrow = (request : Message) (kind : Option OpKind) (id : ℕ) (L M : List Entry) (outs : List (List ℕ)) → IsTrue (allowed kind (answers_under request id L) outs) → IsTrue (allowed kind (answers_under request id (L ++ M)) outs)
