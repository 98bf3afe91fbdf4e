-- Evaluation over the inside of a vat is the machine's.
use Rattle.std.specs.Prelude.{◌≡◌, ℕ, true, List, ◌++◌, Ok, Err, map, reverse}
use Rattle.ev_base.specs.declared.values.Value.{Value as Held}
use Rattle.def_kernel.specs.declared.node.Node.{Node}
use Rattle.def_machine.specs.Values.{Words, Local}
use Rattle.def_machine.specs.State.{Scope as Surroundings, Done, Gives, Throws, Ejects, Stops}
use Rattle.def_machine.specs.State as machine
use Rattle.def_machine.specs.Scopes.{Answer}
use Rattle.def_machine.specs.Calls as calls
use Rattle.def_machine.specs.Eval as theirs
use Rattle.ev_pass.specs.declared.interior.Interior.{Interior}
use Rattle.ev_room.specs.Acts.{Out}
use Rattle.ev_room.specs.Reading.{World, names, texts_of, text_of, value_of, values_of, caught_in, vat_of}
use Rattle.ev_room.specs.Sound.{IsSound, caught_of, is_there, are_there, are_bound}
use Rattle.ev_room.specs.declared.exit.Exit.TheVariants.{Thrown, Ejected, Fuel, Deep, Repeated, Astray, Memory}
use Rattle.ev_room.specs.declared.scope.Scope.{Scope}
use Rattle.ev_steps.specs.Steps.{evaluator, turn_value}

-- ---- what is given

-- the bindings of a scope, the last one first
abbrev pub scope_in : World → Scope → Surroundings Local
scope_in w here = record { act = here.act; nouns = map (λ b. caught_in w (caught_of b)) (reverse here.nouns) }

abbrev pub answer_in : World → Held × Scope → Answer Local
answer_in w a = record { value = value_of w a.0; scope = scope_in w a.1 }

-- ---- outcomes

-- An outcome in the code's terms stands for one of the machine, by what that which it gives stands for. Where memory ran out it says nothing.
abbrev pub StandsFor : {A B : Type 0} → (World → A → B) → World → Out A → Done Local B → Type 0
StandsFor of w (Ok a, i) d = d ≡ Gives (of w a) (vat_of w i)
StandsFor of w (Err (Thrown id), i) d = d ≡ Throws (text_of w id) (vat_of w i)
StandsFor of w (Err (Ejected n v), i) d = d ≡ Ejects n (value_of w v) (vat_of w i)
StandsFor of w (Err Fuel, i) d = d ≡ Stops machine.Fuel (vat_of w i)
StandsFor of w (Err Deep, i) d = d ≡ Stops machine.Deep (vat_of w i)
StandsFor of w (Err (Repeated m n), i) d = d ≡ Stops (machine.Repeated m n) (vat_of w i)
StandsFor of w (Err Astray, i) d = d ≡ Stops machine.Astray (vat_of w i)
StandsFor of w (Err Memory, i) d = Unit {0}

-- the texts of an inside stand first among those of the end of the turn, and words are drawn under the same key
abbrev pub ComesBefore : Interior → World → Type 0
ComesBefore i w = ((more : List Words) × (texts_of w ≡ i.heap.texts ++ more)) × (i.words.key ≡ w.key)

-- that, where what is left comes before the end of the turn
abbrev pub Meets : {A B : Type 0} → (World → A → B) → World → Out A → Done Local B → Type 0
Meets of w o d = ComesBefore o.1 w → StandsFor of w o d

-- ---- laws

-- an expression, in a scope whose values stand in the heap
abbrev pub ExpressionsAreTheMachines : Type 0
ExpressionsAreTheMachines = (w : World) (tree : List Node) (d id : ℕ) (here : Scope) (i : Interior) → IsSound i → are_bound i.heap here.nouns ≡ true
    → Meets answer_in w ((evaluator tree d).expression id here i) ((theirs.evaluator (names w) tree d).expression id (scope_in w here) (vat_of w i))

-- a pattern, at a value with an ejector
abbrev pub PatternsAreTheMachines : Type 0
PatternsAreTheMachines = (w : World) (tree : List Node) (d id : ℕ) (x j : Held) (here : Scope) (i : Interior) → IsSound i
    → is_there i.heap x ≡ true → is_there i.heap j ≡ true → are_bound i.heap here.nouns ≡ true
    → Meets scope_in w ((evaluator tree d).pattern id x j here i) ((theirs.evaluator (names w) tree d).pattern id (value_of w x) (value_of w j) (scope_in w here) (vat_of w i))

-- what a turn runs, at the target of its message
abbrev pub MessagesAreTheMachines : Type 0
MessagesAreTheMachines = (w : World) (tree : List Node) (d act : ℕ) (x : Held) (verb : Words) (args : List Held) (i : Interior) → IsSound i
    → is_there i.heap x ≡ true → are_there i.heap args ≡ true
    → Meets value_of w (turn_value tree (evaluator tree d) act x verb args i) (calls.turn_value (names w) tree (theirs.evaluator (names w) tree d) act (value_of w x) verb (values_of w args) (vat_of w i))
