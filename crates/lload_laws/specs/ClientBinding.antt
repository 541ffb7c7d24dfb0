-- What a client is bound to, by its list and by the calls that the list comes to.
use Rattle.std.specs.Prelude.{◌≡◌, ℕ, List}
use Rattle.lload_names.specs.declared.names.Entry.{Entry}
use Rattle.lload_spec.specs.Settings.{Settings}
use Rattle.lload_spec.specs.Binding.{binding}
use Rattle.lload_spec.specs.BindingCalls.{binding_after}
use Rattle.lload_spec.specs.ClientCalls.{calls_of}

-- the binding at each place of a client's list, and at each moment, is that of the calls that the list comes to
abbrev pub BoundByCalls : Type 0
BoundByCalls = (s : Settings) (c : ℕ) (L : List Entry) (t : ℕ) → binding s c L t ≡ binding_after s.write_coherence (calls_of s c L) t
