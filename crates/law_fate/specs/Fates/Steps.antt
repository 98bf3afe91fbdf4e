-- In every run views end, and every step of a vat finds a place for each message that it sends.
use Rattle.std.specs.Prelude.{◌≡◌, ℕ, ◌+◌, ◌≤◌, Bool, List, ◌∷◌, ◌++◌, Some, slice_get}
use Rattle.def_machine.specs.Values.{Name, Root, naming}
use Rattle.def_machine.specs.State.{Message, Note, Vat, Done, Gives, Throws, Ejects, Stops}
use Rattle.law_machine.specs.Machine.Steps.{Step, Opens, Takes, Receives, Notices, does}
use Rattle.def_run.specs.World.{Script, Program, Entry, Link, World, Goes, begins, open_from, steps_from, names, names_of, read_note, readied, tree_at, given}
use Rattle.law_fate.specs.Name.Names.{IsAmong}
use Rattle.law_fate.specs.Name.Runs.{KnowsOnce, InEachVat}
use Rattle.law_fate.specs.Fates.Fate.{one, of_note, sent_in, account}
use Rattle.law_fate.specs.Fates.Finding.{ViewsEnd}

-- in each vat, whatever words are drawn: from each name one comes, by no more views than names are known, to one that is not viewed
abbrev pub ViewsEndInRuns : Type 0
ViewsEndInRuns = InEachVat (λ w v s. (word : ℕ → ℕ) → ViewsEnd (naming word v) s)

-- Where it gives, its places at the vat and in the notes put, and what became of it, are no fewer than they were, with those that came and its sends.
abbrev pub Found : (ℕ → Bool) → Name → ℕ → Vat Name → Done Name (Unit {0}) → Type 0
Found cut x came s (Gives a t) = account cut x s + came + sent_in x t.happened ≤ account cut x t
Found cut x came s (Throws p t) = Unit {0}
Found cut x came s (Ejects n y t) = Unit {0}
Found cut x came s (Stops c t) = Unit {0}

-- the number of a vat, the places that come with a step, the step, and the state before it
abbrev pub OfSteps : Type 1
OfSteps = ℕ → (Name → ℕ) → Step Name Name → Vat Name → Type 0

-- of the opening turn of a vat of a world
abbrev pub OfOpening : Script → World → OfSteps → ℕ → Vat Name → Type 0
OfOpening script w R v s = (p : Program) → slice_get script.vats v ≡ Some p → R v (λ x. 0) (Opens p.tree script.depth (Root v) (given script.vats p.knows)) (readied w s)

-- of a turn on the first message of its queue
abbrev pub OfTurn : Script → World → OfSteps → ℕ → Vat Name → Type 0
OfTurn script w R v s = (m : Message Name) (ms : List (Message Name)) → s.queue ≡ m ∷ ms → R v (λ x. one m.id x) (Takes (tree_at script.vats v) script.depth m) (readied w (record s { queue = ms }))

-- of the arrival of a note that is under way
abbrev pub OfArrival : World → OfSteps → ℕ → Vat Name → Type 0
OfArrival w R v s = (from : ℕ) (l : Link) (n : Note Name) → IsAmong l w.links → IsAmong n l.notes → R v (λ x. of_note x n) (Receives from (read_note (names_of s) n)) (readied w s)

-- of the notice of a vat
abbrev pub OfNotice : World → OfSteps → ℕ → Vat Name → Type 0
OfNotice w R v s = (u : ℕ) → R v (λ x. 0) (Notices u) (readied w s)

-- of each step that a vat of a world may take
abbrev pub OfEachStep : Script → World → OfSteps → Type 0
OfEachStep script w R = (v : ℕ) (s : Vat Name) → slice_get w.vats v ≡ Some s → OfOpening script w R v s × OfTurn script w R v s × OfArrival w R v s × OfNotice w R v s

-- It holds of that script in the world after any of the opening turns, and after all of them and any entries.
abbrev pub InRunsOf : Script → (World → Type 0) → Type 0
InRunsOf script P = ((ps rest : List Program) (w : World) → script.vats ≡ ps ++ rest → open_from script 0 ps (begins script) ≡ Goes w → P w)
    × ((w y : World) (es : List Entry) (k : ℕ) → open_from script 0 script.vats (begins script) ≡ Goes w → steps_from script es k w ≡ Goes y → P y)

-- whichever links of the vat are cut
abbrev pub Finds : Script → ℕ → (Name → ℕ) → Step Name Name → Vat Name → Type 0
Finds script v came step s = (cut : ℕ → Bool) (x : Name) → Found cut x (came x) s (does (names script v) step s)

-- in every world of every run, each step of each vat
abbrev pub StepsFindPlaces : Type 0
StepsFindPlaces = (script : Script) → KnowsOnce script → InRunsOf script (λ w. OfEachStep script w (Finds script))
