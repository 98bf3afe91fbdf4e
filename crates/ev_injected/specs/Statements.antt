-- What holds of queues of injected frames and of those of a run in numbers.
use Rattle.std.specs.Prelude.{◌≡◌, length, map}
use Rattle.def_run.specs.Numbers.{Way, begins, link_of}
use Rattle.def_hostile.specs.Hostile.{Play, raw_of}
use Rattle.ev_injected.specs.Lanes.{fresh_all}

-- at the start of each play
abbrev pub StartsAreFresh : Type 0
StartsAreFresh = (play : Play) → map (λ (l : Way). raw_of play (link_of l)) (begins play.script).ways ≡ fresh_all (length play.script.vats)
