use Rattle.std.proofs.Common.{◌≡◌, ◌++◌, take}
use Rattle.ev_heap.proofs.packed.Values.extend.Given as goal

-- the first ones stand behind the others
abbrev pub invariant-loop-value : goal.invariant-loop-value
invariant-loop-value l = l.self ≡ l.fn.self ++ take l.value-index l.values
