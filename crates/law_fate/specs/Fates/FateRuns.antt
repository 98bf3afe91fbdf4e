-- In every run each message is sent once at most, and what was sent has one place or one fate at most.
use Rattle.std.specs.Prelude.{◌≡◌, ℕ, zero, ◌+◌, ◌≤◌, List}
use Rattle.def_machine.specs.Values.{Name}
use Rattle.def_run.specs.World.{Script, Program, Entry, World, Run, Goes, Stopped, begins, open_from, steps_from, run}
use Rattle.law_fate.specs.Fates.Fate.{places, sent, fates, takes}

-- of the world that a run has reached, or at which it stopped
abbrev pub Reached : (World → Type 0) → Run → Type 0
Reached P (Goes w) = P w
Reached P (Stopped c k w) = P w

-- of the world after any of the opening turns of a script, and after all of them and any entries
abbrev pub InRuns : (World → Type 0) → Type 0
InRuns P = (script : Script) → ((ps : List Program) → Reached P (open_from script zero ps (begins script)))
    × ((w : World) (es : List Entry) (k : ℕ) → open_from script zero script.vats (begins script) ≡ Goes w → Reached P (steps_from script es k w))

-- of the world at the end of a run, or at which it stopped
abbrev pub AtEnds : (World → Type 0) → Type 0
AtEnds P = (script : Script) → Reached P (run script)

abbrev pub EachSentOnce : Type 0
EachSentOnce = (x : Name) → AtEnds (λ w. sent x w.history ≤ 1)

abbrev pub EachTakenOnce : Type 0
EachTakenOnce = (x : Name) → AtEnds (λ w. takes x w.history ≤ 1)

-- Takes, losses and places are no more than there were sends, and of these there is one at most.
-- So a message that was taken or lost has no place, and is not taken again.
abbrev pub PlacesAndFates : Type 0
PlacesAndFates = (x : Name) → InRuns (λ w. (places x w + fates x w.history ≤ sent x w.history) × (sent x w.history ≤ 1))

-- Takes, losses and places in the closing list are no more than there were sends, and of these there is one at most.
abbrev pub OneFateAtMost : Type 0
OneFateAtMost = (x : Name) → AtEnds (λ w. (fates x w.history ≤ sent x w.history) × (sent x w.history ≤ 1))
