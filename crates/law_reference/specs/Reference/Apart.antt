-- That the notes of a run bring what is new, where the gifts of each note that arrives stand apart.
use Rattle.std.specs.Prelude.{◌≡◌, ℕ, zero, suc, List, [], ◌∷◌, Some, slice_get}
use Rattle.def_machine.specs.Values.{Name}
use Rattle.def_machine.specs.State.{Note, Vat}
use Rattle.def_run.specs.World.{Script, Entry, Turn, Carry, CutLink, NoticeLink, Link, World, Goes, link_at, begins, open_from, step}
use Rattle.law_fate.specs.Name.Runs.{KnowsOnce}
use Rattle.law_reference.specs.Reference.NameTableRuns.{NotesBringNew}
use Rattle.law_reference.specs.Reference.News.{GiftsApart}

-- of the first note on the link that an entry carries from
abbrev pub EntryApart : World → Entry → Type 0
EntryApart w (Carry from to) = (l : Link) (n : Note Name) (ns : List (Note Name)) (s : Vat Name) → link_at from to w.links ≡ Some l → l.notes ≡ n ∷ ns → slice_get w.vats to ≡ Some s → GiftsApart to n s
EntryApart w (Turn v) = Unit {0}
EntryApart w (CutLink v u) = Unit {0}
EntryApart w (NoticeLink v u) = Unit {0}

-- and so by each entry of these, from that world on
abbrev pub AllApart : Script → List Entry → ℕ → World → Type 0
AllApart script [] k w = Unit {0}
AllApart script (e ∷ es) k w = EntryApart w e × ((y : World) → step script e k w ≡ Goes y → AllApart script es (suc k) y)

-- After all opening turns, then, the notes of any entries bring what is new.
abbrev pub NewWhereApart : Type 0
NewWhereApart = (script : Script) → KnowsOnce script → (w : World) (es : List Entry) (k : ℕ) → open_from script zero script.vats (begins script) ≡ Goes w → AllApart script es k w → NotesBringNew script es k w
