-- A gift is asked for before it is named.
use Rattle.std.specs.Prelude.{◌≡◌, ℕ, zero, List, ◌∷◌, ◌++◌, Some}
use Rattle.def_machine.specs.Values.{Name}
use Rattle.def_machine.specs.State.{Note, Ask}
use Rattle.law_fate.specs.Name.Names.{IsAmong}
use Rattle.law_fate.specs.Name.Runs.{KnowsOnce}
use Rattle.def_run.specs.World.{Script, Entry, Link, World, Goes, link_at, begins, open_from, steps_from}
use Rattle.law_reference.specs.Reference.NameTableRuns.{NotesBringNew}
use Rattle.law_frame.specs.Frame.Asked.{told_in}

-- In every world of a run whose notes bring what is new: no note that was ever put on a link names a gift for which a later note of that link asks.
abbrev pub GiftsAreAskedForFirst : Type 0
GiftsAreAskedForFirst = (script : Script) → KnowsOnce script → (w x : World) (es : List Entry) (k : ℕ) → NotesBringNew script es k w → open_from script zero script.vats (begins script) ≡ Goes w → steps_from script es k w ≡ Goes x
    → (v u : ℕ) (l : Link) → link_at v u x.links ≡ Some l → (front rest : List (Note Name)) (n : Note Name) → l.log ≡ front ++ n ∷ rest → (p i : ℕ) (g : Name) → IsAmong g (told_in n) → IsAmong (Ask p i g) rest → ⊥
