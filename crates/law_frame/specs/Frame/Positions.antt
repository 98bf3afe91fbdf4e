-- What a vat has for the exports of a peer once it heard a note.
use Rattle.std.specs.Prelude.{◌≡◌, ℕ, zero, List, ◌∷◌, Some, slice_get, length}
use Rattle.def_machine.specs.Values.{Name, Local}
use Rattle.def_machine.specs.State.{Note, Vat}
use Rattle.def_machine.specs.Arrive.{Incoming}
use Rattle.law_fate.specs.Name.Names.{names_in}
use Rattle.law_fate.specs.Name.Runs.{KnowsOnce}
use Rattle.law_machine.specs.Renamed.Renaming.{Wire}
use Rattle.def_run.specs.World.{Script, Entry, World, Goes, link_at, begins, open_from, steps_from}
use Rattle.law_reference.specs.Reference.Logs.{roots_of, with_note, exports_after, questions}
use Rattle.law_reference.specs.Reference.Cuts.{NoticesFollowCuts}
use Rattle.law_reference.specs.Reference.NameTableRuns.{BringsNew, NotesBringNew}
use Rattle.law_frame.specs.Frame.Tables.{import_numbers, arrived}
use Rattle.law_frame.specs.Frame.Hearing.{Heard}
use Rattle.law_frame.specs.Frame.Alike.{names_heard}
use Rattle.law_frame.specs.Frame.Known.{OnUncutLink}
use Rattle.law_frame.specs.Frame.AlikeArrivals.{frame_heard}

-- what v exported to u, as far as its notes have arrived, and with this note
unfoldable pub exported_with : World → ℕ → ℕ → Note Name → List Name
exported_with w v u n = with_note v (questions (λ i. i) w.links u v) n (exports_after v (questions (λ i. i) w.links u v) (arrived (link_at v u w.links)) (roots_of (link_at v u w.links)))

-- In every world of a run whose notes bring what is new, and in which each notice stands behind a cut of the same two vats: once the receiver heard the next note on a link that is not cut, it has by position what the sender exported to it in the notes that have arrived and in this one,
-- each name by its number among the names known once the note was read; and it knows as many names as those.
abbrev pub PositionsAreKeptAlike : Type 0
PositionsAreKeptAlike = (script : Script) → KnowsOnce script → (w x : World) (es : List Entry) (k : ℕ) → NoticesFollowCuts es → NotesBringNew script es k w → open_from script zero script.vats (begins script) ≡ Goes w → steps_from script es k w ≡ Goes x
    → (v u : ℕ) (s : Vat Name) → slice_get x.vats u ≡ Some s → (v ≡ u → ⊥) → OnUncutLink x v u (λ l. (n : Note Name) (ns : List (Note Name)) → l.notes ≡ n ∷ ns → BringsNew x v u n s
    → (h : Heard (Note (Incoming Local Wire))) × (frame_heard script x v u s n ≡ Some h) × (h.imports ≡ import_numbers v (names_heard (names_in s.known) n) zero (exported_with x v u n)) × (h.known ≡ length (names_heard (names_in s.known) n)))
