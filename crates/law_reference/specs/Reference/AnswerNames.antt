-- What the sender of a note calls the answer that it asks for is the name of that answer at the receiver.
use Rattle.std.specs.Prelude.{◌≡◌, ℕ, zero, List, ◌++◌, Some, slice_get}
use Rattle.def_machine.specs.Values.{Name}
use Rattle.def_machine.specs.State.{Note, Put, Vat}
use Rattle.def_run.specs.World.{Script, Program, Entry, Link, World, Goes, begins, open_from, steps_from, link_at, names_of, read_note}
use Rattle.law_machine.specs.Machine.Steps.{Step, Opens as Starts, Takes, Receives, Notices}
use Rattle.law_fate.specs.Name.Names.{AllOf, IsAmong}
use Rattle.law_fate.specs.Name.Runs.{KnowsOnce}
use Rattle.law_machine.specs.Run.Moves.{Does}
use Rattle.law_reference.specs.Reference.Notes.{NamesItsAnswer}

-- of all notes that were put on a link, and of all that are under way on it
abbrev pub LinkNamesAnswers : Link → Type 0
LinkNamesAnswers l = AllOf (NamesItsAnswer l.to) l.log × AllOf (NamesItsAnswer l.to) l.notes

-- of all notes that a vat put in its last step
abbrev pub PutsNameAnswers : Vat Name → Type 0
PutsNameAnswers s = AllOf (λ (p : Put Name). NamesItsAnswer p.to p.note) s.outbox

-- what arrives in a step of vat v is under way to it
abbrev pub IsUnderWay : World → ℕ → Vat Name → Step Name Name → Type 0
IsUnderWay w v s (Receives from m) = (l : Link) × (n : Note Name) × (link_at from v w.links ≡ Some l) × IsAmong n l.notes × (m ≡ read_note (names_of s) n)
IsUnderWay w v s (Starts tree depth root given) = Unit {0}
IsUnderWay w v s (Takes tree depth m) = Unit {0}
IsUnderWay w v s (Notices u) = Unit {0}

-- of the notes on the links of a world, of those that each vat put in its last step, and of those that it puts in any step that may be its next
abbrev pub NamesAnswers : Script → World → Type 0
NamesAnswers script w = AllOf LinkNamesAnswers w.links
    × ((v : ℕ) (s : Vat Name) → slice_get w.vats v ≡ Some s → PutsNameAnswers s)
    × ((v : ℕ) (s q t : Vat Name) (what : Step Name Name) → IsUnderWay w v s what → Does script w v s q t what → PutsNameAnswers t)

-- in every world of a run
abbrev pub AnswersAreNamed : Type 0
AnswersAreNamed = (script : Script) → KnowsOnce script
    → ((ps rest : List Program) (w : World) → script.vats ≡ ps ++ rest → open_from script zero ps (begins script) ≡ Goes w → NamesAnswers script w)
    × ((w x : World) (es : List Entry) (k : ℕ) → open_from script zero script.vats (begins script) ≡ Goes w → steps_from script es k w ≡ Goes x → NamesAnswers script x)
