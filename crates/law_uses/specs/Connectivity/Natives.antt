-- What data answers to a call, its caller knew.
use Rattle.std.specs.Prelude.{ℕ, List}
use Rattle.def_machine.specs.Values.{Words, Value, Name, Naming, naming, numbering}
use Rattle.def_machine.specs.State.{Happened}
use Rattle.def_machine.specs.Native.{data_reply}
use Rattle.law_machine.specs.Natives.Natives.{ReplyHas}
use Rattle.law_uses.specs.Connectivity.Known.{AValue, AllOf, Holdings, Knows}

-- Data on which an activation calls answers with what that activation knows: the value that it gives, the members of a list that is made of it, and what it calls in turn.
abbrev pub AnswersKnown : {N W : Type 0} → Naming N W → Type 0
AnswersKnown {N} {W} K = (h : Holdings N W) (so : List (Happened N)) (a : ℕ) (y : Value N) (verb : Words) (held args : List (Value N))
    → Knows K h so a (AValue y) → AllOf (λ v. Knows K h so a (AValue v)) held → AllOf (λ v. Knows K h so a (AValue v)) args
    → ReplyHas (λ v. Knows K h so a (AValue v)) (data_reply h.lists y verb held args)

-- under global names and under local numbers
abbrev pub DataAddsNothing : Type 0
DataAddsNothing = ((word : ℕ → ℕ) (v : ℕ) → AnswersKnown (naming word v)) × ((word : ℕ → ℕ) → AnswersKnown (numbering {W = Name} word))
