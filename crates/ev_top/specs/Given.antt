-- The names that programs are given.
use Rattle.std.specs.Prelude.{◌≡◌, ℕ, List, is_some}
use Rattle.std.specs.List.{list_any}
use Rattle.std.specs.Str.{bytes_eq}
use Rattle.def_machine.specs.Values.{Name}
use Rattle.def_machine.specs.Native.{safe_value}
use Rattle.ev_top.specs.Programs.{safe_names}

-- a name is given exactly where the machine has a value for it
abbrev pub AreSafe : Type 0
AreSafe = (noun : List ℕ) → is_some (safe_value {N = Name} noun) ≡ list_any (bytes_eq noun) safe_names
