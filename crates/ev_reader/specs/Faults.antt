-- What is said of a tree that breaks a rule of scopes.
use Rattle.std.specs.Prelude.{ℕ, List, ◌++◌, codes, decimal}
use Rattle.ev_reader.specs.declared.scope_fault.ScopeFault.{ScopeFault}
use Rattle.ev_reader.specs.declared.scope_fault.ScopeFault.TheVariants.{Unbound, AssignToFinal, BoundTwice, Memory}

abbrev pub fault_text : ScopeFault → List ℕ
fault_text (Unbound node) = codes "unbound noun at node " ++ decimal node
fault_text (AssignToFinal node) = codes "final noun assigned at node " ++ decimal node
fault_text (BoundTwice node) = codes "noun bound twice at node " ++ decimal node
fault_text Memory = codes "out of memory"
