-- That each object of its own that a vat names is there, by its number.
use Rattle.std.specs.Prelude.{◌≡◌, ℕ, ◌<◌, List, length}
use Rattle.def_machine.specs.Values.{Words, Value, Name, Naming, Own, IsAnswer, naming, numbering}
use Rattle.def_machine.specs.State.{Binding, Scope, Vat, Done, Gives, Throws, Ejects, Stops}
use Rattle.def_machine.specs.Scopes.{Answer}
use Rattle.def_machine.specs.Calls.{turn_value}
use Rattle.def_machine.specs.Eval.{evaluator}
use Rattle.def_kernel.specs.declared.node.Node.{Node}
use Rattle.law_fate.specs.Name.Names.{Bit, Named, Mail, Drew, At, Off, Entered, Owns, Gave, AllOf, ValueOk, ValuesOk, NounOk, Everywhere}

module _ {N W : Type 0} (K : Naming N W) where
  -- where it is an object of this vat, that is one of so many things
  abbrev pub IsThere : ℕ → N → Type 0
  IsThere count n = (i : ℕ) → K.spot n ≡ Own i → i < count

  -- no answer of that message is named as an object of this vat
  abbrev pub AnswersApart : N → Type 0
  AnswersApart m = (h k i : ℕ) → K.spot (K.made (IsAnswer h m) k) ≡ Own i → ⊥

  abbrev pub There : ℕ → Bit N → Type 0
  There count (Named n) = IsThere count n
  There count (Mail n) = AnswersApart n
  There count (Drew i) = Unit {0}
  There count (At h) = Unit {0}
  There count (Off h) = Unit {0}
  There count (Entered n) = IsThere count n
  There count (Owns n i) = IsThere count n
  There count (Gave i) = Unit {0}

  -- each object of its own that a vat names in what it has is there
  abbrev pub ThingsAreThere : Vat N → Type 0
  ThingsAreThere s = Everywhere (There (length s.things)) s

  abbrev pub NounsThere : Vat N → List (Binding N) → Type 0
  NounsThere s ns = AllOf (NounOk (There (length s.things))) ns

-- ---- the law

module _ {N W : Type 0} (K : Naming N W) where
  -- after it so it is again, and in what it gives; of a stop nothing is said
  abbrev pub AnswerThere : Done N (Answer N) → Type 0
  AnswerThere (Gives x t) = ThingsAreThere K t × ValueOk (There K (length t.things)) x.value × NounsThere K t x.scope.nouns
  AnswerThere (Throws p t) = ThingsAreThere K t
  AnswerThere (Ejects n v t) = ThingsAreThere K t × ValueOk (There K (length t.things)) v
  AnswerThere (Stops c t) = Unit {0}

  abbrev pub ValueThere : Done N (Value N) → Type 0
  ValueThere (Gives x t) = ThingsAreThere K t × ValueOk (There K (length t.things)) x
  ValueThere (Throws p t) = ThingsAreThere K t
  ValueThere (Ejects n v t) = ThingsAreThere K t × ValueOk (There K (length t.things)) v
  ValueThere (Stops c t) = Unit {0}

  -- what an opening turn evaluates, and what a turn does with a message
  abbrev pub EvaluationKeepsThings : Type 0
  EvaluationKeepsThings = (tree : List Node) (depth : ℕ) (s : Vat N) → ThingsAreThere K s
      → ((id : ℕ) (here : Scope N) → NounsThere K s here.nouns → AnswerThere ((evaluator K tree depth).expression id here s))
      × ((act : ℕ) (target : Value N) (verb : Words) (args : List (Value N)) → ValueOk (There K (length s.things)) target → ValuesOk (There K (length s.things)) args → ValueThere (turn_value K tree (evaluator K tree depth) act target verb args s))

-- Law: evaluation names no object of its vat that is not there, under global names and under local numbers.
abbrev pub ThingsStayThere : Type 0
ThingsStayThere = ((word : ℕ → ℕ) (v : ℕ) → EvaluationKeepsThings (naming word v)) × ((word : ℕ → ℕ) → EvaluationKeepsThings (numbering {W = Name} word))
