-- That what leaves by an ejector is awaited by an escape.
use Rattle.std.specs.Prelude.{◌≡◌, ℕ, zero, true, List, ◌++◌, Some, slice_get}
use Rattle.def_machine.specs.Values.{Words, Value, Name, Naming, naming, numbering}
use Rattle.def_machine.specs.State.{Scope, Thing, Ejector, Vat, Done, Gives, Throws, Ejects, Stops}
use Rattle.def_machine.specs.Calls.{turn_value}
use Rattle.def_machine.specs.Eval.{evaluator}
use Rattle.def_kernel.specs.declared.node.Node.{Node}
use Rattle.def_run.specs.World.{Script, Program, Entry, World, Goes, begins, open_from, steps_from, names, readied}

-- no ejector is live
abbrev pub NoneIsLive : {N : Type 0} → List (Thing N) → Type 0
NoneIsLive ts = (i : ℕ) → slice_get ts i ≡ Some (Ejector true) → ⊥

-- it is left by no ejector, and none is live after it
abbrev pub IsAwaited : {N A : Type 0} → Done N A → Type 0
IsAwaited (Gives a t) = NoneIsLive t.things
IsAwaited (Throws p t) = NoneIsLive t.things
IsAwaited (Ejects n v t) = ⊥
IsAwaited (Stops c t) = Unit {0}

-- so it is of what the opening turn of a tree evaluates, and of what a turn does with a message
abbrev pub EndsAwaited : {N W : Type 0} → Naming N W → Type 0
EndsAwaited {N} K = (tree : List Node) (depth : ℕ) (s : Vat N) → NoneIsLive s.things
    → ((id : ℕ) (here : Scope N) → IsAwaited ((evaluator K tree depth).expression id here s)) × ((act : ℕ) (target : Value N) (verb : Words) (args : List (Value N)) → IsAwaited (turn_value K tree (evaluator K tree depth) act target verb args s))

-- Law: no turn is left by an ejector, under global names and under local numbers.
abbrev pub EjectionsAreAwaited : Type 0
EjectionsAreAwaited = ((word : ℕ → ℕ) (v : ℕ) → EndsAwaited (naming word v)) × ((word : ℕ → ℕ) → EndsAwaited (numbering {W = Name} word))

-- in each vat of a world, where a step begins
abbrev pub EndsAwaitedIn : Script → World → Type 0
EndsAwaitedIn script w = (v : ℕ) (s : Vat Name) → slice_get w.vats v ≡ Some s → (tree : List Node) (depth : ℕ)
    → ((id : ℕ) (here : Scope Name) → IsAwaited ((evaluator (names script v) tree depth).expression id here (readied w s)))
    × ((act : ℕ) (target : Value Name) (verb : Words) (args : List (Value Name)) → IsAwaited (turn_value (names script v) tree (evaluator (names script v) tree depth) act target verb args (readied w s)))

-- Law: so it is in the world after any of the opening turns, and after all of them and any entries.
abbrev pub EjectionsAreAwaitedInRuns : Type 0
EjectionsAreAwaitedInRuns = (script : Script)
    → ((ps rest : List Program) (w : World) → script.vats ≡ ps ++ rest → open_from script zero ps (begins script) ≡ Goes w → EndsAwaitedIn script w)
    × ((w x : World) (es : List Entry) (k : ℕ) → open_from script zero script.vats (begins script) ≡ Goes w → steps_from script es k w ≡ Goes x → EndsAwaitedIn script x)
