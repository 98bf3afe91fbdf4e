-- those left stand once behind those before them exactly where all do
use Rattle.std.proofs.Common.{◌≡◌, [], drop, take}
use Rattle.ev_script.specs.Vats.{stand_once}
use Rattle.ev_script.proofs.vats.stand_once.Given as goal

abbrev pub invariant-loop-i : goal.invariant-loop-i
invariant-loop-i l = stand_once (take l.i l.places) (drop l.i l.places) ≡ stand_once [] l.places
