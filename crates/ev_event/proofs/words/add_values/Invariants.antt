-- what is written, and the values that are left, are all
use Rattle.std.proofs.Common.{◌≡◌, ◌++◌, ◌∷◌, drop, string_bytes}
use Rattle.std.specs.List.{flat_map}
use Rattle.def_event.specs.Lines.{values}
use Rattle.ev_event.proofs.words.add_values.Given as goal

abbrev pub invariant-loop-x : goal.invariant-loop-x
invariant-loop-x l =
    string_bytes l.out ++ flat_map (λ v. 32 ∷ v) (values l.names (drop l.x-index l.xs)) ≡ string_bytes l.fn.out ++ flat_map (λ v. 32 ∷ v) (values l.names l.xs)
