-- The arrival of a note by the receiver's own tables and numbers stands for its arrival in names.
use Rattle.std.specs.Prelude.{◌≡◌, ℕ, zero, ◌+◌, List, [], ◌∷◌, ◌++◌, Option, Some, slice_get, length, map}
use Rattle.def_machine.specs.Values.{Name, Local, numbering, word_of}
use Rattle.def_machine.specs.State.{Note, Vat, Gives}
use Rattle.def_machine.specs.Arrive.{Incoming, arrive}
use Rattle.law_fate.specs.Name.Names.{names_in}
use Rattle.law_fate.specs.Name.Runs.{KnowsOnce}
use Rattle.def_machine.specs.Maps as maps
use Rattle.law_machine.specs.Renamed.Renaming.{Wire}
use Rattle.law_machine.specs.Renamed.Stands.{Table, Is, found, StandsFor}
use Rattle.def_run.specs.Draws.{draw_word}
use Rattle.def_run.specs.World.{Script, Entry, Carry, World, Goes, begins, open_from, steps_from, step, readied}
use Rattle.law_reference.specs.Reference.Logs.{operation}
use Rattle.law_reference.specs.Reference.Cuts.{NoticesFollowCuts}
use Rattle.law_reference.specs.Reference.Exports.{exported_at}
use Rattle.law_reference.specs.Reference.NameTableRuns.{NotesBringNew}
use Rattle.law_frame.specs.Frame.Tables.{tables_of}
use Rattle.law_frame.specs.Frame.Hearing.{Heard, note_heard}
use Rattle.law_frame.specs.Frame.Alike.{numbered_gift}
use Rattle.law_frame.specs.Frame.Known.{OnUncutLink}

-- what vat u hears in the frame of a note from v, by its own tables
unfoldable pub frame_heard : Script → World → ℕ → ℕ → Vat Name → Note Name → Option (Heard (Note (Incoming Local Wire)))
frame_heard script w v u s n = note_heard u v (tables_of w u s v) (map (numbered_gift (names_in s.known)) s.gifts) (operation word_of w.links v u n) (tables_of w u s v).imports (length s.known)

-- The table by which the numbers of vat u are read where a note arrives in world w: the names and messages that it has in the end, in state s, and what others had exported to it before.
unfoldable pub table_across : World → ℕ → Vat Name → Table
table_across w u s = record { names = names_in s.known; mails = s.mails; exports = exported_at w.links u }

-- In a run whose notes bring what is new, and in which each notice stands behind a cut of the same two vats: where the first note on the link from v to u, which is not cut, is carried from world x to world y, vat u hears it by its own tables;
-- and from each state in numbers that stands for the state that the note finds, its arrival so heard ends in one that stands for the state of u in y.
abbrev pub ArrivalsByNumbersStand : Type 0
ArrivalsByNumbersStand = (script : Script) → KnowsOnce script → (w x y : World) (es : List Entry) (k v u : ℕ) → NoticesFollowCuts es → NotesBringNew script (es ++ Carry v u ∷ []) k w → open_from script zero script.vats (begins script) ≡ Goes w → steps_from script es k w ≡ Goes x → step script (Carry v u) (k + length es) x ≡ Goes y
    → (s r : Vat Name) → slice_get x.vats u ≡ Some s → slice_get y.vats u ≡ Some r → (v ≡ u → ⊥) → OnUncutLink x v u (λ l. (n : Note Name) (ns : List (Note Name)) → l.notes ≡ n ∷ ns
    → (h : Heard (Note (Incoming Local Wire))) × (frame_heard script x v u s n ≡ Some h) × ((q : Vat Local) → StandsFor u (table_across x u r) q (readied x s)
    → maps.done (found u (table_across x u r)) (λ a. a) (arrive (numbering (draw_word script.key)) v h.read q) ≡ Gives tt (maps.vat Is r)))
