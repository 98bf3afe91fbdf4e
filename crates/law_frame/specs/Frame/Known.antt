-- What the two vats of a link know of what they asked for and told.
use Rattle.std.specs.Prelude.{◌≡◌, ℕ, zero, false, List, ◌++◌, Some, slice_get}
use Rattle.def_machine.specs.Values.{Name, host_of}
use Rattle.def_machine.specs.State.{Vat}
use Rattle.law_fate.specs.Name.Names.{AllOf, IsAmong, IsKnownIn, Once, names_in}
use Rattle.law_fate.specs.Name.Runs.{KnowsOnce, InRuns, InEachVat}
use Rattle.def_run.specs.Draws.{draw_word}
use Rattle.def_run.specs.World.{Script, Program, Entry, Link, World, Goes, link_at, begins, open_from, steps_from}
use Rattle.law_reference.specs.Reference.Logs.{questions_in, exports_after, questions, exports}
use Rattle.law_frame.specs.Frame.Asked.{HoldsNoList}
use Rattle.law_frame.specs.Frame.Tables.{arrived}

-- the vat knows each of these names
abbrev pub KnowsEach : Vat Name → List Name → Type 0
KnowsEach s ns = AllOf (λ n. IsAmong n (names_in s.known)) ns

-- or it is an object
abbrev pub KnowsEachPromise : Vat Name → List Name → Type 0
KnowsEachPromise s ns = AllOf (IsKnownIn (names_in s.known)) ns

-- of the link from one vat to another, as long as it is not cut
abbrev pub OnUncutLink : World → ℕ → ℕ → (Link → Type 0) → Type 0
OnUncutLink w v u P = (l : Link) → link_at v u w.links ≡ Some l → l.cut ≡ false → P l

-- The words that were drawn in a run are the first of its stream, in order, and differ pairwise.
abbrev pub DrawsAreInOrder : Type 0
DrawsAreInOrder = (script : Script) → KnowsOnce script
    → ((ps rest : List Program) (w : World) → script.vats ≡ ps ++ rest → open_from script zero ps (begins script) ≡ Goes w → ((i x : ℕ) → slice_get w.drawn i ≡ Some x → x ≡ draw_word script.key i) × Once w.drawn)
    × ((w x : World) (es : List Entry) (k : ℕ) → open_from script zero script.vats (begins script) ≡ Goes w → steps_from script es k w ≡ Goes x → ((i n : ℕ) → slice_get x.drawn i ≡ Some n → n ≡ draw_word script.key i) × Once x.drawn)

-- What a vat ever asked another for is of that one.
abbrev pub QuestionsAreOfTheirHosts : Type 0
QuestionsAreOfTheirHosts = InRuns (λ w. (v u : ℕ) → AllOf (λ n. host_of n ≡ u) (questions (λ i. i) w.links v u))

-- No note that was ever put on a link holds a list by its number.
abbrev pub NotesHoldNoLists : Type 0
NotesHoldNoLists = InRuns (λ w. AllOf (λ l. AllOf HoldsNoList l.log) w.links)

-- A vat knows each answer and each gift for which it ever asked another.
abbrev pub WhatAVatAskedForIsKnown : Type 0
WhatAVatAskedForIsKnown = InEachVat (λ w u s. (v : ℕ) → KnowsEach s (questions (λ i. i) w.links u v))

-- A vat knows each answer and each gift for which another asked it, as far as the notes of that have arrived.
abbrev pub WhatAVatWasAskedForIsKnown : Type 0
WhatAVatWasAskedForIsKnown = InEachVat (λ w u s. (v : ℕ) → OnUncutLink w v u (λ l. KnowsEach s (questions_in u (arrived (Some l)))))

-- Of what a vat ever exported to another, it knows all but objects.
abbrev pub WhatAVatExportedIsKnown : Type 0
WhatAVatExportedIsKnown = InEachVat (λ w u s. (v : ℕ) → KnowsEachPromise s (exports (λ i. i) w.links u v))

-- Of what another vat exported to it, as far as it has arrived, a vat knows all but objects.
abbrev pub WhatArrivedIsKnown : Type 0
WhatArrivedIsKnown = InEachVat (λ w u s. (v : ℕ) → OnUncutLink w v u (λ l. KnowsEachPromise s (exports_after v (questions (λ i. i) w.links u v) (arrived (Some l)) l.roots)))
