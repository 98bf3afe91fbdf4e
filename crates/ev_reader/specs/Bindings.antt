-- The entries of a map of names as bindings.
use Rattle.std.specs.Prelude.{List, map, Bool, String, string_bytes}
use Rattle.std.specs.declared.alloc.Global.{Global}
use Rattle.ev_reader.specs.declared.scope.Binding.{Binding}

abbrev pub bindings : List (String Global × Bool) → List Binding
bindings entries = map (λ (e : String Global × Bool). record { name = string_bytes e.0; is_var = e.1 }) entries
