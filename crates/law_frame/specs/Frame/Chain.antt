-- What a step in numbers leaves is what the next one begins with.
use Rattle.std.specs.Prelude.{◌≡◌, ℕ, zero, suc, ◌+◌, List, [], ◌∷◌, ◌++◌, Option, Some, None, slice_get, length}
use Rattle.def_machine.specs.Values.{Name, Local}
use Rattle.def_machine.specs.State.{Vat, Gives, Throws, Ejects, Stops}
use Rattle.law_fate.specs.Name.Runs.{KnowsOnce}
use Rattle.law_machine.specs.Renamed.Stands.{StandsFor}
use Rattle.def_run.specs.World.{Script, Program, Entry, World, Run, Goes, Stopped, begins, open_vat, open_from, step, steps_from, readied}
use Rattle.law_fate.specs.Fates.WholeFateRuns.{KnowsVats}
use Rattle.law_reference.specs.Reference.Cuts.{NoticesFollowCuts}
use Rattle.law_reference.specs.Reference.Tables.{table_of}
use Rattle.law_frame.specs.Frame.Steps.{OwnStep, entry_by_numbers, opening_by_numbers}
use Rattle.law_frame.specs.Frame.States.{in_numbers}

-- the state in numbers as the next step finds it: with the fuel and the draws of the world, and nothing put yet
unfoldable pub readied_by_numbers : World → Vat Local → Vat Local
readied_by_numbers w q = record q { fuel = w.fuel; drawn = w.drawn; outbox = []; happened = [] }

-- Vat u, which was in state q in numbers, has state r in names in the next world, y. What is left, the state q where it takes no step and what the step gives where it does, stands there for what the step after that will find, by the names, messages and exports of world y.
abbrev pub LeavesFor : World → ℕ → Vat Name → Vat Local → OwnStep → Type 0
LeavesFor y u r q None = StandsFor u (table_of y u r) (readied_by_numbers y q) (readied y r)
LeavesFor y u r q (Some d) = (p : Vat Local) × (d ≡ Gives tt p) × StandsFor u (table_of y u r) (readied_by_numbers y p) (readied y r)

-- So it is of each vat, from every state in numbers that stands for what the step finds.
abbrev pub ChainsOn : World → World → (ℕ → Vat Name → Vat Local → OwnStep) → Type 0
ChainsOn x y f = (u : ℕ) (s r : Vat Name) → slice_get x.vats u ≡ Some s → slice_get y.vats u ≡ Some r → (q : Vat Local) → StandsFor u (table_of x u s) q (readied x s) → LeavesFor y u r q (f u s q)

-- So it is by each entry of a run in which each notice stands behind a cut of the same two vats.
abbrev pub EntriesChainOn : Type 0
EntriesChainOn = (script : Script) → KnowsOnce script → (w x y : World) (es : List Entry) (e : Entry) (k : ℕ) → NoticesFollowCuts (es ++ e ∷ []) → open_from script zero script.vats (begins script) ≡ Goes w → steps_from script es k w ≡ Goes x → step script e (k + length es) x ≡ Goes y
    → ChainsOn x y (entry_by_numbers script x e)

-- And so it is by each opening turn.
abbrev pub OpeningTurnsChainOn : Type 0
OpeningTurnsChainOn = (script : Script) → KnowsOnce script → (ps rest : List Program) (p : Program) (x y : World) → script.vats ≡ ps ++ p ∷ rest → open_from script zero ps (begins script) ≡ Goes x → open_vat script (length ps) p x ≡ Goes y
    → ChainsOn x y (opening_by_numbers script (length ps) p)

-- the state in numbers that a step leaves to the next one in world y, if it gives
unfoldable pub left_by : World → Vat Local → OwnStep → Option (Vat Local)
left_by y q None = Some (readied_by_numbers y q)
left_by y q (Some (Gives a p)) = Some (readied_by_numbers y p)
left_by y q (Some (Throws z p)) = None
left_by y q (Some (Ejects n z p)) = None
left_by y q (Some (Stops c p)) = None

unfoldable pub where_goes : Run → (World → Option (Vat Local)) → Option (Vat Local)
where_goes (Goes y) f = f y
where_goes (Stopped c n y) f = None

unfoldable pub where_is : {A : Type 0} → Option A → (A → Option (Vat Local)) → Option (Vat Local)
where_is (Some a) f = f a
where_is None f = None

-- the state in which vat u is in its own numbers after these entries, from state q in world w, each entry taken from what the one before it left
unfoldable pub run_by_numbers : Script → ℕ → List Entry → ℕ → World → Vat Local → Option (Vat Local)
run_by_numbers script u [] k w q = Some q
run_by_numbers script u (e ∷ es) k w q = where_goes (step script e k w) (λ y. where_is (slice_get w.vats u) (λ s. where_is (left_by y q (entry_by_numbers script w e u s q)) (run_by_numbers script u es (suc k) y)))

-- So a vat goes through all entries of such a run in its own numbers, from any state in numbers that stands for the one that it has after the opening turns, and what it is in at the end stands for its state in names there.
abbrev pub RunsByNumbersStand : Type 0
RunsByNumbersStand = (script : Script) → KnowsOnce script → (w x : World) (es : List Entry) (k : ℕ) → NoticesFollowCuts es → open_from script zero script.vats (begins script) ≡ Goes w → steps_from script es k w ≡ Goes x
    → (u : ℕ) (s r : Vat Name) → slice_get w.vats u ≡ Some s → slice_get x.vats u ≡ Some r → (q : Vat Local) → StandsFor u (table_of w u s) q (readied w s)
    → (p : Vat Local) × (run_by_numbers script u es k w q ≡ Some p) × StandsFor u (table_of x u r) p (readied x r)

-- And there is such a state, where each vat of the script knows only vats of it.
abbrev pub RunsAreTakenInNumbers : Type 0
RunsAreTakenInNumbers = (script : Script) → KnowsOnce script → KnowsVats script → (w x : World) (es : List Entry) (k : ℕ) → NoticesFollowCuts es → open_from script zero script.vats (begins script) ≡ Goes w → steps_from script es k w ≡ Goes x
    → (u : ℕ) (s r : Vat Name) → slice_get w.vats u ≡ Some s → slice_get x.vats u ≡ Some r
    → (p : Vat Local) × (run_by_numbers script u es k w (in_numbers w u s) ≡ Some p) × StandsFor u (table_of x u r) p (readied x r)
