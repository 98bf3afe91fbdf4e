use Rattle.std.proofs.Common.{◌≡◌, ◌++◌, drop}
use Rattle.def_op.specs.Views.{all_described}
use Rattle.ev_judge.specs.Named.{named_all}
use Rattle.ev_judge.proofs.naming.+listing.Given as goal

-- what is noted, and then what the others name, is all of it
abbrev pub invariant-note_all-loop-desc : goal.invariant-note_all-loop-desc
invariant-note_all-loop-desc l =
    l.values.items ++ named_all l.connection (all_described (drop l.desc-index l.descs)) ≡ l.initial.values.items ++ named_all l.connection (all_described l.descs)
