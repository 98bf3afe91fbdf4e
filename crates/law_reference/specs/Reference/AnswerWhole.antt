-- Where the notes of a run bring gifts as new, they bring all names as new.
use Rattle.std.specs.Prelude.{◌≡◌, ℕ, zero, ◌+◌, ◌≤◌, List, ◌∷◌, Some, slice_get}
use Rattle.def_machine.specs.Values.{Name, Gift}
use Rattle.def_machine.specs.State.{Note, Vat}
use Rattle.def_run.specs.World.{Script, Entry, Link, World, Goes, begins, open_from, steps_from, link_at, read_note, names_of}
use Rattle.law_fate.specs.Name.Runs.{KnowsOnce}
use Rattle.law_reference.specs.Reference.Knowing.{claims}
use Rattle.law_reference.specs.Reference.NameTableRuns.{allowed, brings_here, NotesBringNew}

-- The first note on each link of that world brings each gift once at most, and none that is claimed at the receiver.
abbrev pub BringsNewGifts : World → Type 0
BringsNewGifts w = (from to : ℕ) (l : Link) (n : Note Name) (ns : List (Note Name)) (s : Vat Name) → link_at from to w.links ≡ Some l → l.notes ≡ n ∷ ns → slice_get w.vats to ≡ Some s
    → (h i : ℕ) → claims to (Gift h i) s.known + brings_here to (Gift h i) from s.gifts (read_note (names_of s) n) ≤ allowed to (Gift h i) s w.drawn

-- so it is after all opening turns of the script and any entries
abbrev pub GiftsComeNew : Script → Type 0
GiftsComeNew script = (w x : World) (es : List Entry) (k : ℕ) → open_from script zero script.vats (begins script) ≡ Goes w → steps_from script es k w ≡ Goes x → BringsNewGifts x

-- then the notes bring what is new by any entries
abbrev pub NotesBringNewWhereGiftsDo : Type 0
NotesBringNewWhereGiftsDo = (script : Script) → KnowsOnce script → GiftsComeNew script → (w : World) → open_from script zero script.vats (begins script) ≡ Goes w → (es : List Entry) (k : ℕ) → NotesBringNew script es k w
