-- In every run in which notices stand behind their cuts, the gifts of each note stand apart, so that notes bring what is new, names are known once, tables are tables and waits end.
use Rattle.std.specs.Prelude.{◌≡◌, ℕ, zero, List, ◌∷◌, Some, slice_get}
use Rattle.def_machine.specs.Values.{Name}
use Rattle.def_machine.specs.State.{Note, Vat}
use Rattle.def_run.specs.World.{Script, Entry, Link, World, Goes, begins, open_from, link_at, names}
use Rattle.law_fate.specs.Name.Runs.{KnowsOnce}
use Rattle.law_reference.specs.Reference.Cuts.{NoticesFollowCuts}
use Rattle.law_reference.specs.Reference.Hosts.{InEachVatBehindCuts}
use Rattle.law_reference.specs.Reference.NameTableRuns.{NotesBringNew, NamesDiffer}
use Rattle.law_reference.specs.Reference.Tables.{EachHasTable}
use Rattle.law_reference.specs.Reference.News.{GiftsApart}
use Rattle.law_reference.specs.Reference.Waits.{WaitsEnd}
use Rattle.law_reference.specs.Reference.ApartAsking.{InRunsBehindCuts, AfterEntriesBehindCuts}

-- The gifts of the first note on each link stand apart at its receiver: one that passes is neither known there nor named in the note, and one of the receiver's own that it knows, or that the note names, stands.
abbrev pub GiftsStandApart : Type 0
GiftsStandApart = AfterEntriesBehindCuts (λ w. (from to : ℕ) (l : Link) (n : Note Name) (ns : List (Note Name)) (s : Vat Name) → link_at from to w.links ≡ Some l → l.notes ≡ n ∷ ns → slice_get w.vats to ≡ Some s → GiftsApart to n s)

-- the notes that arrive by any entries bring what is new
abbrev pub NotesBringWhatIsNew : Type 0
NotesBringWhatIsNew = (script : Script) → KnowsOnce script → (w : World) (es : List Entry) (k : ℕ) → NoticesFollowCuts es → open_from script zero script.vats (begins script) ≡ Goes w → NotesBringNew script es k w

-- the names that each vat knows differ pairwise
abbrev pub EachNameIsKnownOnce : Type 0
EachNameIsKnownOnce = InRunsBehindCuts NamesDiffer

-- the table of each vat is one
abbrev pub EachVatHasItsTable : Type 0
EachVatHasItsTable = InRunsBehindCuts EachHasTable

-- in each vat waits and views end
abbrev pub WaitsEndInEveryVat : Type 0
WaitsEndInEveryVat = InEachVatBehindCuts (λ script v s. WaitsEnd (names script v) s.known)
