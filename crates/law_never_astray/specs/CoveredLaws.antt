-- That what the objects of a vat carry stays so, in all that evaluation does.
use Rattle.std.specs.Prelude.{◌≡◌, ℕ, zero, Bool, true, false, List, [], Some, None, length, slice_get}
use Rattle.def_machine.specs.Values.{Words, Value, Name, Local, Naming, naming, numbering}
use Rattle.def_machine.specs.State.{Slot, Binding, Cell, Vat, Astray, Done, Gives, Throws, Ejects, Stops}
use Rattle.def_machine.specs.Form.{items_of}
use Rattle.def_machine.specs.Scopes.{bound_in, read_bound}
use Rattle.def_machine.specs.Calls.{build, turn_value}
use Rattle.def_machine.specs.Eval.{evaluator}
use Rattle.def_kernel.specs.declared.node.Node.{Node}
use Rattle.def_kernel.specs.Trees.{Has, IsTree}
use Rattle.ev_reader.specs.Scopes.{bound, first_fault}
use Rattle.law_never_astray.specs.Scoped.{Scopes}
use Rattle.law_never_astray.specs.Formed.{AllOf}
use Rattle.law_never_astray.specs.Covered.{Stands, Covers, Carries}

-- each name that is given is bound finally, or is one of the safe scope
abbrev pub AreGiven : {N : Type 0} → List (Binding N) → List Words → Type 0
AreGiven nouns given = AllOf (λ x. Stands zero false x (bound_in nouns x)) given

-- so it is after, however it ended; of a stop nothing is said
abbrev pub EndsCarrying : {N A : Type 0} → List Node → Done N A → Type 0
EndsCarrying tree (Gives a t) = Carries tree t
EndsCarrying tree (Throws p t) = Carries tree t
EndsCarrying tree (Ejects n v t) = Carries tree t
EndsCarrying tree (Stops c t) = Unit {0}

-- what an opening turn evaluates of a tree that is accepted, and what a turn does with a message
abbrev pub EvaluationCarries : {N W : Type 0} → Naming N W → Type 0
EvaluationCarries {N} K = (tree : List Node) (depth act : ℕ) (s : Vat N) → Carries tree s
    → ((names : List Words) (nouns : List (Binding N)) → IsTree tree → first_fault tree names ≡ None → AreGiven nouns names → EndsCarrying tree ((evaluator K tree depth).expression 0 (record { act = act; nouns = nouns }) s))
    × ((target : Value N) (verb : Words) (args : List (Value N)) → EndsCarrying tree (turn_value K tree (evaluator K tree depth) act target verb args s))

-- Law: evaluation keeps it, under global names and under local numbers.
abbrev pub EvaluationsCarry : Type 0
EvaluationsCarry = ((word : ℕ → ℕ) (v : ℕ) → EvaluationCarries (naming word v)) × ((word : ℕ → ℕ) → EvaluationCarries (numbering {W = Name} word))

-- ---- what a node asks for

-- In a state with so many slots an environment has each noun of the scopes that it covers: reading it gives something, and what it
-- may be assigned to is a slot that is there.
abbrev pub NounsAreFoundBy : Type 0 → Type 0
NounsAreFoundBy N = (s : Vat N) (nouns : List (Binding N)) (scopes : Scopes) (x : Words) (is_var : Bool) → Covers (length s.slots) nouns scopes → bound x scopes ≡ Some is_var
    → ((act : ℕ) → (v : Value N) × (t : Vat N) × (read_bound act (bound_in nouns x) x s ≡ Gives v t)) × (is_var ≡ true → (k : ℕ) × (c : Cell N) × (bound_in nouns x ≡ Some (Slot k)) × (slice_get s.slots k ≡ Some c))

-- Law: so it is under global names and under local numbers.
abbrev pub NounsAreFound : Type 0
NounsAreFound = NounsAreFoundBy Name × NounsAreFoundBy Local

-- the form of a node that is there is built, unless the fuel does not suffice or it is too heavy
abbrev pub FormsAreBuiltBy : {N W : Type 0} → Naming N W → Type 0
FormsAreBuiltBy {N} K = (tree : List Node) (act e : ℕ) (n : Node) (s t : Vat N) → Has tree e n → Carries tree s → build K tree act (items_of tree e) [] s ≡ Stops Astray t → ⊥

-- Law: so it is under global names and under local numbers.
abbrev pub FormsAreBuilt : Type 0
FormsAreBuilt = ((word : ℕ → ℕ) (v : ℕ) → FormsAreBuiltBy (naming word v)) × ((word : ℕ → ℕ) → FormsAreBuiltBy (numbering {W = Name} word))
