-- That no step of a run goes astray.
use Rattle.std.specs.Prelude.{◌≡◌, ℕ, zero, List, None, slice_get}
use Rattle.def_machine.specs.State.{Stop, Astray}
use Rattle.def_run.specs.World.{Script, Entry, Turn, Carry, CutLink, NoticeLink, World, Goes, Stopped, begins, open_from, step, steps_from}
use Rattle.law_fate.specs.Name.Runs.{KnowsOnce}

-- an arrival, a cut, or the notice of one at a vat that is there
abbrev pub IsThereFor : World → Entry → Type 0
IsThereFor w (Turn v) = ⊥
IsThereFor w (Carry u v) = Unit {0}
IsThereFor w (CutLink u v) = Unit {0}
IsThereFor w (NoticeLink v u) = slice_get w.vats v ≡ None → ⊥

-- Law: no such entry goes astray, in whatever world of a run.
abbrev pub ArrivalsAreNotAstray : Type 0
ArrivalsAreNotAstray = (script : Script) → KnowsOnce script → (w x y : World) (es : List Entry) (e : Entry) (k l n : ℕ) (c : Stop) → IsThereFor x e
    → open_from script zero script.vats (begins script) ≡ Goes w → steps_from script es k w ≡ Goes x → step script e l x ≡ Stopped c n y → c ≡ Astray → ⊥
