-- Fates in four runs with hostile vats, by computing.
use Rattle.std.specs.Prelude.{◌≡◌, ℕ, List, [], ◌∷◌}
use Rattle.def_machine.specs.Values.{Sent}
use Rattle.def_hostile.specs.Hostile.{Play, Scene, Acted, Plays, Breaks, acts, opened_hostile}
use Rattle.law_fate.specs.Fates.Fate.{sent, takes, losses, leavings}
use Rattle.law_hostile_fate.specs.Brought.{told, brought, arrivals, opened_brought}
use Rattle.test_hostile.specs.MessageOfAFrame as message
use Rattle.test_hostile.specs.Replayed as replayed
use Rattle.test_hostile.specs.CutByAFrame as malformed
use Rattle.test_hostile.specs.Lines.{opened_more}

unfoldable pub scene_of : Acted → Scene
scene_of (Plays s) = s
scene_of (Breaks c k s) = s

-- how often message n of vat v was sent, brought, taken, lost, stands in the closing list, and arrived at a hostile vat
unfoldable pub counts : Play → ℕ → ℕ → List ℕ
counts play v n = let x = Sent (record { sender = v; number = n }) in let es = told (scene_of (acts play)).lines in
    sent x es ∷ brought play.hostile x es ∷ takes x es ∷ losses x es ∷ leavings x es ∷ arrivals play.hostile x es ∷ []

-- a frame brings a message, which is taken
abbrev pub IsBrought : Type 0
IsBrought = counts message.play 1 0 ≡ 0 ∷ 1 ∷ 1 ∷ 0 ∷ 0 ∷ 0 ∷ []

-- a message of an honest vat comes to a hostile one
abbrev pub Arrives : Type 0
Arrives = counts replayed.play 0 0 ≡ 1 ∷ 0 ∷ 0 ∷ 0 ∷ 0 ∷ 1 ∷ []

-- a malformed frame brings none
abbrev pub BringsNone : Type 0
BringsNone = counts malformed.play 1 0 ≡ 0 ∷ 0 ∷ 0 ∷ 0 ∷ 0 ∷ 0 ∷ []

-- opens the definitions of this file, and of those below
unfoldable pub opened_rows : Unit {0}
unfolding scene_of counts message.opened replayed.opened malformed.opened opened_more opened_hostile opened_brought
opened_rows = tt
