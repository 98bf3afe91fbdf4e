-- The state of a vat in its own numbers.
use Rattle.std.specs.Prelude.{◌≡◌, ℕ, zero, ◌+◌, true, false, List, [], ◌∷◌, ◌++◌, Some, slice_get, length, ◌==◌}
use Rattle.def_machine.specs.Values.{Name, Root, Object, Promise, Answer, Gift, Sent, Local, Obj, Prom, Far, Mess}
use Rattle.def_machine.specs.State.{Vat}
use Rattle.law_fate.specs.Name.Names.{names_in}
use Rattle.law_fate.specs.Name.Runs.{KnowsOnce}
use Rattle.def_machine.specs.Maps as maps
use Rattle.law_machine.specs.Renamed.Stands.{StandsFor}
use Rattle.def_run.specs.World.{Script, Program, Entry, World, Goes, begins, open_vat, open_from, step, steps_from, readied}
use Rattle.law_reference.specs.Reference.Logs.{rank, exports}
use Rattle.law_reference.specs.Reference.Tables.{table_of}
use Rattle.law_fate.specs.Fates.Steps.{InRunsOf}
use Rattle.law_fate.specs.Fates.WholeFateRuns.{KnowsVats}
use Rattle.law_reference.specs.Reference.Cuts.{NoticesFollowCuts}
use Rattle.law_frame.specs.Frame.Steps.{EndsFor, entry_by_numbers, opening_by_numbers}

-- The number of a name at vat v, whose state is s: an object of its own has its number, one of another vat its position among that vat's exports, a message its place among those that v has had, and any other name its place among those that v knows.
unfoldable pub number_of : World → ℕ → Vat Name → Name → Local
number_of w v s (Object h i) = elim (v == h) [ true ↦ Obj i | false ↦ Far h (rank (exports (λ i. i) w.links h v) (Object h i)) ]
number_of w v s (Sent m) = Mess (rank s.mails (Sent m))
number_of w v s (Root u) = Prom (rank (names_in s.known) (Root u))
number_of w v s (Promise u i) = Prom (rank (names_in s.known) (Promise u i))
number_of w v s (Answer h m) = Prom (rank (names_in s.known) (Answer h m))
number_of w v s (Gift h i) = Prom (rank (names_in s.known) (Gift h i))

-- the state in which a step finds the vat, with the number of each name in its place
unfoldable pub in_numbers : World → ℕ → Vat Name → Vat Local
in_numbers w v s = maps.vat (number_of w v s) (readied w s)

-- In every world of a run of a script whose vats know only vats of it, that state stands for the state in names.
abbrev pub EachStateHasNumbers : Type 0
EachStateHasNumbers = (script : Script) → KnowsOnce script → KnowsVats script → InRunsOf script (λ w. (v : ℕ) (s : Vat Name) → slice_get w.vats v ≡ Some s → StandsFor v (table_of w v s) (in_numbers w v s) (readied w s))

-- So each entry of a run in which each notice stands behind a cut of the same two vats is taken by each vat in its own numbers, from that state.
abbrev pub EntriesAreTakenInNumbers : Type 0
EntriesAreTakenInNumbers = (script : Script) → KnowsOnce script → KnowsVats script → (w x y : World) (es : List Entry) (e : Entry) (k : ℕ) → NoticesFollowCuts (es ++ e ∷ []) → open_from script zero script.vats (begins script) ≡ Goes w → steps_from script es k w ≡ Goes x → step script e (k + length es) x ≡ Goes y
    → (u : ℕ) (s r : Vat Name) → slice_get x.vats u ≡ Some s → slice_get y.vats u ≡ Some r → EndsFor x u s r (entry_by_numbers script x e u s (in_numbers x u s))

-- And so is each opening turn.
abbrev pub OpeningTurnsAreTakenInNumbers : Type 0
OpeningTurnsAreTakenInNumbers = (script : Script) → KnowsOnce script → KnowsVats script → (ps rest : List Program) (p : Program) (x y : World) → script.vats ≡ ps ++ p ∷ rest → open_from script zero ps (begins script) ≡ Goes x → open_vat script (length ps) p x ≡ Goes y
    → (u : ℕ) (s r : Vat Name) → slice_get x.vats u ≡ Some s → slice_get y.vats u ≡ Some r → EndsFor x u s r (opening_by_numbers script (length ps) p u s (in_numbers x u s))
