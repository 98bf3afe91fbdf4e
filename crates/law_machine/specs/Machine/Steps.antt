-- The steps of one vat, of every kind, and what it is to hold from a state to the state after.
use Rattle.std.specs.Prelude.{ℕ, List}
use Rattle.def_machine.specs.Values.{Naming}
use Rattle.def_machine.specs.State.{Binding, Message, Note, Vat, Done, Gives, Throws, Ejects, Stops, Act}
use Rattle.def_machine.specs.Arrive.{Incoming, arrive, notice}
use Rattle.def_machine.specs.Eval.{opening, taking}
use Rattle.def_kernel.specs.declared.node.Node.{Node}

pub data Step (N W : Type 0) : Type 0 where
  -- the opening turn of a tree, with this greatest depth, the vat's root, and what it is given
  Opens : List Node → ℕ → N → List (Binding N) → Step N W
  -- a turn that takes this message
  Takes : List Node → ℕ → Message N → Step N W
  -- a note from that peer arrives
  Receives : ℕ → Note (Incoming N W) → Step N W
  -- the link with that vat is noticed as cut
  Notices : ℕ → Step N W

unfoldable pub does : {N W : Type 0} → Naming N W → Step N W → Act N (Unit {0})
does K (Opens tree depth root given) = opening K tree depth root given
does K (Takes tree depth m) = taking K tree depth m
does K (Receives from n) = arrive K from n
does K (Notices w) = notice K w

-- R leads from s to the state after, however what was done ended
abbrev pub After : {N A : Type 0} → (Vat N → Vat N → Type 0) → Vat N → Done N A → Type 0
After R s (Gives a t) = R s t
After R s (Throws p t) = R s t
After R s (Ejects n v t) = R s t
After R s (Stops c t) = R s t

-- R leads from the state before each step to the state after it, whatever the names are
abbrev pub KeptBySteps : {N W : Type 0} → (Naming N W → Vat N → Vat N → Type 0) → Type 0
KeptBySteps {N} {W} R = (K : Naming N W) (step : Step N W) (s : Vat N) → After (R K) s (does K step s)

-- it gave or it stopped: it threw nothing and left by no ejector
abbrev pub IsQuiet : {N A : Type 0} → Done N A → Type 0
IsQuiet (Gives a t) = Unit {0}
IsQuiet (Throws p t) = ⊥
IsQuiet (Ejects n v t) = ⊥
IsQuiet (Stops c t) = Unit {0}

-- each step ends so
abbrev pub StepsEnd : (N W : Type 0) → (Done N (Unit {0}) → Type 0) → Type 0
StepsEnd N W P = (K : Naming N W) (step : Step N W) (s : Vat N) → P (does K step s)
