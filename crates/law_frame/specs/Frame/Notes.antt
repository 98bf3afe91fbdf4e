-- What is read alike in every run in which each notice stands behind a cut of the same two vats.
use Rattle.std.specs.Prelude.{◌≡◌, ℕ, zero, ◌+◌, List, ◌∷◌, Some, slice_get, length}
use Rattle.def_machine.specs.Values.{Name, Local, numbering}
use Rattle.def_machine.specs.State.{Note, Vat, Gives}
use Rattle.def_machine.specs.Arrive.{Incoming, arrive}
use Rattle.law_fate.specs.Name.Names.{names_in}
use Rattle.law_fate.specs.Name.Runs.{KnowsOnce}
use Rattle.def_machine.specs.Maps as maps
use Rattle.law_machine.specs.Renamed.Renaming.{Wire}
use Rattle.law_machine.specs.Renamed.Stands.{Is, found, StandsFor}
use Rattle.def_run.specs.Draws.{draw_word}
use Rattle.def_run.specs.World.{Script, Entry, Carry, World, Goes, begins, open_from, steps_from, step, readied}
use Rattle.law_reference.specs.Reference.Cuts.{NoticesFollowCuts}
use Rattle.law_frame.specs.Frame.Tables.{import_numbers}
use Rattle.law_frame.specs.Frame.Hearing.{Heard}
use Rattle.law_frame.specs.Frame.Known.{OnUncutLink}
use Rattle.law_frame.specs.Frame.Alike.{names_heard}
use Rattle.law_frame.specs.Frame.Kinds.{OfNextNotes, IsReadAlike}
use Rattle.law_frame.specs.Frame.AlikeArrivals.{frame_heard, table_across}
use Rattle.law_frame.specs.Frame.Positions.{exported_with}

-- each note that is the next to arrive on a link that is not cut
abbrev pub EveryNoteIsReadAlike : Type 0
EveryNoteIsReadAlike = OfNextNotes IsReadAlike

-- Once vat u heard the note, it has by position what v exported to it in the notes that have arrived and in this one, and it knows as many names as are known once the note was read.
abbrev pub IsKeptAlike : Script → World → ℕ → ℕ → Vat Name → Note Name → Type 0
IsKeptAlike script x v u s n = (h : Heard (Note (Incoming Local Wire))) × (frame_heard script x v u s n ≡ Some h) × (h.imports ≡ import_numbers v (names_heard (names_in s.known) n) zero (exported_with x v u n)) × (h.known ≡ length (names_heard (names_in s.known) n))

abbrev pub EveryPositionIsKeptAlike : Type 0
EveryPositionIsKeptAlike = OfNextNotes IsKeptAlike

-- Where the first note on the link from v to u, which is not cut, is carried from world x to world y, vat u hears it by its own tables;
-- and from each state in numbers that stands for the state that the note finds, its arrival so heard ends in one that stands for the state of u in y.
abbrev pub EveryArrivalStands : Type 0
EveryArrivalStands = (script : Script) → KnowsOnce script → (w x y : World) (es : List Entry) (k v u : ℕ) → NoticesFollowCuts es → open_from script zero script.vats (begins script) ≡ Goes w → steps_from script es k w ≡ Goes x → step script (Carry v u) (k + length es) x ≡ Goes y
    → (s r : Vat Name) → slice_get x.vats u ≡ Some s → slice_get y.vats u ≡ Some r → (v ≡ u → ⊥) → OnUncutLink x v u (λ l. (n : Note Name) (ns : List (Note Name)) → l.notes ≡ n ∷ ns
    → (h : Heard (Note (Incoming Local Wire))) × (frame_heard script x v u s n ≡ Some h) × ((q : Vat Local) → StandsFor u (table_across x u r) q (readied x s)
    → maps.done (found u (table_across x u r)) (λ a. a) (arrive (numbering (draw_word script.key)) v h.read q) ≡ Gives tt (maps.vat Is r)))
