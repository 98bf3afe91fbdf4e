-- What a run leaves that stops: the world to which it came before the step that stopped.
use Rattle.std.specs.Prelude.{◌≡◌, ◌⊎◌, ◌+◌, ℕ, zero, List, ◌∷◌, ◌++◌, length, Some}
use Rattle.def_machine.specs.Values.{Name}
use Rattle.def_machine.specs.State.{Note, Stop}
use Rattle.def_run.specs.World.{Script, Program, Entry, Link, World, Run, Goes, Stopped, begins, open_from, open_vat, step, steps_from, run, link_at, with_link, with_notes}

-- The opening turn of the next vat stops so, after those of the vats before it;
abbrev pub OpeningStops : Script → World → Run → Type 0
OpeningStops script x r = (ps rest : List Program) × (p : Program) × (script.vats ≡ ps ++ p ∷ rest) × (open_from script zero ps (begins script) ≡ Goes x) × (open_vat script (length ps) p x ≡ r)

-- or the next entry does, after all opening turns and the entries before it.
abbrev pub EntryStops : Script → World → Run → Type 0
EntryStops script x r = (opened : World) × (es rest : List Entry) × (e : Entry) × (script.schedule ≡ es ++ e ∷ rest)
    × (open_from script zero script.vats (begins script) ≡ Goes opened) × (steps_from script es 1 opened ≡ Goes x) × (step script e (1 + length es) x ≡ r)

-- that world with a link's first note taken off it: what a carry works on
abbrev pub TakenOff : World → World → Type 0
TakenOff x w = (v u : ℕ) × (l : Link) × (n : Note Name) × (ns : List (Note Name))
    × (link_at v u x.links ≡ Some l) × (l.notes ≡ n ∷ ns) × (w ≡ record x { links = with_link (with_notes ns) v u x.links })

-- the same world, or that one without the note that the step took off its link
abbrev pub LeavesOf : World → World → Type 0
LeavesOf x w = (w ≡ x) ⊎ TakenOff x w

-- What a run leaves that stops is what it came to before the step that stopped.
abbrev pub StoppedRunsLeave : Type 0
StoppedRunsLeave = (script : Script) (c : Stop) (k : ℕ) (w : World) → run script ≡ Stopped c k w
    → (x : World) × (OpeningStops script x (Stopped c k w) ⊎ EntryStops script x (Stopped c k w)) × LeavesOf x w
