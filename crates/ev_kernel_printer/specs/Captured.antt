-- What an object captures when it is made, by the number of its expression.
use Rattle.std.specs.Prelude.{◌≡◌, ℕ, ◌<◌, List, length, Option, Some, None, slice_get}
use Rattle.def_kernel.specs.declared.node.Node.{Node}
use Rattle.def_kernel.specs.declared.node.Node.TheVariants.{Object}
use Rattle.ev_kernel_printer.specs.FreeNames.{free_names}

-- these names, where the node is an object expression
abbrev pub if_object : Option Node → List (List ℕ) → Option (List (List ℕ))
if_object (Some (Object pattern auditors members)) names = Some names
if_object _ names = None

abbrev pub captured : List Node → ℕ → Option (List (List ℕ))
captured tree id = if_object (slice_get tree id) (free_names tree id)

-- of each of so many first nodes what it captures
pub record AreRows (tree : List Node) (count : ℕ) (rows : List (Option (List (List ℕ)))) : Type 0 where
  pub many : length rows ≡ count
  pub each : (id : ℕ) → id < count → slice_get rows id ≡ Some (captured tree id)
