-- What a step that stops is in the numbers of the vats.
use Rattle.std.specs.Prelude.{◌≡◌, ℕ, zero, ◌+◌, List, [], ◌∷◌, ◌++◌, Some, None, slice_get, length}
use Rattle.def_machine.specs.Values.{Name, Local}
use Rattle.def_machine.specs.State.{Vat, Stop, Astray, Stops}
use Rattle.def_run.specs.World.{Script, Program, Entry, Turn, Carry, CutLink, NoticeLink, World, Goes, Stopped, begins, open_vat, open_from, step, steps_from, readied}
use Rattle.law_fate.specs.Name.Runs.{KnowsOnce}
use Rattle.law_machine.specs.Renamed.Stands.{StandsFor}
use Rattle.law_fate.specs.Fates.WholeFateRuns.{KnowsVats}
use Rattle.law_reference.specs.Reference.Cuts.{NoticesFollowCuts}
use Rattle.law_reference.specs.Reference.Tables.{table_of}
use Rattle.law_frame.specs.Frame.Steps.{OwnStep, entry_by_numbers, opening_by_numbers}
use Rattle.law_frame.specs.Frame.States.{in_numbers}
use Rattle.law_frame.specs.Frame.Chain.{run_by_numbers}

-- whether an entry is of vat u: its turn, the arrival of a note there, or its notice of a cut
abbrev pub IsOf : ℕ → Entry → Type 0
IsOf u (Turn v) = v ≡ u
IsOf u (Carry v t) = t ≡ u
IsOf u (CutLink v t) = ⊥
IsOf u (NoticeLink v t) = v ≡ u

-- a step that is of the vat where that holds: then it stops for reason c, and else the vat takes none
abbrev pub StopsWhere : Type 0 → Stop → OwnStep → Type 0
StopsWhere Own c d = (Own → (p : Vat Local) × (d ≡ Some (Stops c p))) × ((Own → ⊥) → d ≡ None)

-- Where an entry of a run in which each notice stands behind a cut of the same two vats stops the run, so it is of each vat, from every state in numbers that stands for what the step finds.
abbrev pub StopsByNumbers : Type 0
StopsByNumbers = (script : Script) → KnowsOnce script → (w x y : World) (es : List Entry) (e : Entry) (k n : ℕ) (c : Stop) → NoticesFollowCuts es → open_from script zero script.vats (begins script) ≡ Goes w → steps_from script es k w ≡ Goes x → step script e (k + length es) x ≡ Stopped c n y
    → (u : ℕ) (s : Vat Name) → slice_get x.vats u ≡ Some s → (q : Vat Local) → StandsFor u (table_of x u s) q (readied x s) → StopsWhere (IsOf u e) c (entry_by_numbers script x e u s q)

-- And there is such a state, where each vat of the script knows only vats of it.
abbrev pub StopsAreTakenInNumbers : Type 0
StopsAreTakenInNumbers = (script : Script) → KnowsOnce script → KnowsVats script → (w x y : World) (es : List Entry) (e : Entry) (k n : ℕ) (c : Stop) → NoticesFollowCuts es → open_from script zero script.vats (begins script) ≡ Goes w → steps_from script es k w ≡ Goes x → step script e (k + length es) x ≡ Stopped c n y
    → (u : ℕ) (s : Vat Name) → slice_get x.vats u ≡ Some s → StopsWhere (IsOf u e) c (entry_by_numbers script x e u s (in_numbers x u s))

-- And what stops in numbers stops the run: where the step of a vat stops from a state in numbers that stands for what the step finds, the entry stops the run for the same reason.
abbrev pub StopsInNumbersStop : Type 0
StopsInNumbersStop = (script : Script) → KnowsOnce script → (w x : World) (es : List Entry) (e : Entry) (k : ℕ) (c : Stop) → NoticesFollowCuts (es ++ e ∷ []) → open_from script zero script.vats (begins script) ≡ Goes w → steps_from script es k w ≡ Goes x
    → (u : ℕ) (s : Vat Name) → slice_get x.vats u ≡ Some s → (q p : Vat Local) → StandsFor u (table_of x u s) q (readied x s) → entry_by_numbers script x e u s q ≡ Some (Stops c p) → (n : ℕ) × (y : World) × (step script e (k + length es) x ≡ Stopped c n y)

-- An entry that stops a run for want of fuel, for the depth or at a word is of a vat that is there. This asks nothing.
abbrev pub StopsAreOfVats : Type 0
StopsAreOfVats = (script : Script) (x y : World) (e : Entry) (k n : ℕ) (c : Stop) → (c ≡ Astray → ⊥) → step script e k x ≡ Stopped c n y → (u : ℕ) × (s : Vat Name) × (slice_get x.vats u ≡ Some s) × IsOf u e

-- where these entries stop a run: those that go on, up to the world before, the one that stops, and those that are left
pub record StopsAt (script : Script) (es : List Entry) (k : ℕ) (w : World) (c : Stop) (n : ℕ) (y : World) : Type 0 where
  pub front : List Entry
  pub entry : Entry
  pub rest : List Entry
  pub before : World
  pub split : es ≡ front ++ entry ∷ rest
  pub goes : steps_from script front k w ≡ Goes before
  pub stops : step script entry (k + length front) before ≡ Stopped c n y

-- So each vat goes through a run that stops in its own numbers, from any state in numbers that stands for the one that it has after the opening turns, up to the entry that stops the run, and that stops it where it is its step.
abbrev pub StoppedRunsByNumbers : Type 0
StoppedRunsByNumbers = (script : Script) → KnowsOnce script → (w y : World) (es : List Entry) (k n : ℕ) (c : Stop) → NoticesFollowCuts es → open_from script zero script.vats (begins script) ≡ Goes w → steps_from script es k w ≡ Stopped c n y
    → (a : StopsAt script es k w c n y) × ((u : ℕ) (s r : Vat Name) → slice_get w.vats u ≡ Some s → slice_get a.before.vats u ≡ Some r → (q : Vat Local) → StandsFor u (table_of w u s) q (readied w s)
    → (p : Vat Local) × (run_by_numbers script u a.front k w q ≡ Some p) × StopsWhere (IsOf u a.entry) c (entry_by_numbers script a.before a.entry u r p))

-- So it is where an opening turn stops the run.
abbrev pub OpeningTurnsStopByNumbers : Type 0
OpeningTurnsStopByNumbers = (script : Script) → KnowsOnce script → (ps rest : List Program) (p : Program) (x y : World) (n : ℕ) (c : Stop) → script.vats ≡ ps ++ p ∷ rest → open_from script zero ps (begins script) ≡ Goes x → open_vat script (length ps) p x ≡ Stopped c n y
    → (u : ℕ) (s : Vat Name) → slice_get x.vats u ≡ Some s → (q : Vat Local) → StandsFor u (table_of x u s) q (readied x s) → StopsWhere (length ps ≡ u) c (opening_by_numbers script (length ps) p u s q)

-- And what stops in numbers stops the opening turn.
abbrev pub OpeningStopsInNumbersStop : Type 0
OpeningStopsInNumbersStop = (script : Script) → KnowsOnce script → (ps rest : List Program) (p : Program) (x : World) (c : Stop) → script.vats ≡ ps ++ p ∷ rest → open_from script zero ps (begins script) ≡ Goes x
    → (u : ℕ) (s : Vat Name) → slice_get x.vats u ≡ Some s → (q r : Vat Local) → StandsFor u (table_of x u s) q (readied x s) → opening_by_numbers script (length ps) p u s q ≡ Some (Stops c r) → (n : ℕ) × (y : World) × (open_vat script (length ps) p x ≡ Stopped c n y)
