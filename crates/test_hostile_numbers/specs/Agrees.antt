-- That the run in the vats' own numbers has the text that is due: the one that the run in names has.
use Rattle.std.specs.Prelude.{◌≡◌, ℕ, List}
use Rattle.def_hostile.specs.Hostile.{Play, acts}
use Rattle.def_hostile.specs.HostileText as names
use Rattle.def_hostile.specs.Numbers.{performs}
use Rattle.def_hostile.specs.NumbersText.{text, wire_text}

-- the texts of both runs are one, without frames and with them
abbrev pub TextsAgree : Play → Type 0
TextsAgree play = (text play (performs play) ≡ names.text play (acts play)) × (wire_text play (performs play) ≡ names.wire_text play (acts play))

abbrev pub TellsSo : Play → List ℕ → Type 0
TellsSo play due = text play (performs play) ≡ due

-- with the frames
abbrev pub TellsFramesSo : Play → List ℕ → Type 0
TellsFramesSo play due = wire_text play (performs play) ≡ due
