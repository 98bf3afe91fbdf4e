-- That a step does not go astray.
use Rattle.std.specs.Prelude.{◌≡◌, ℕ, ◌⊎◌, Bool, true, false, List, Some, None}
use Rattle.def_machine.specs.Values.{Value, Name, Naming, IsAnswer, naming, numbering}
use Rattle.def_machine.specs.State.{Message, Known, Vat, Astray, Done, Gives, Throws, Ejects, Stops, WhereSome}
use Rattle.def_machine.specs.Refs.{entry_of, settle}
use Rattle.law_fate.specs.Name.Names.{AllOf}

-- however it ended, it did not go astray
abbrev pub NotAstray : {N A : Type 0} → Done N A → Type 0
NotAstray (Gives a t) = Unit {0}
NotAstray (Throws p t) = Unit {0}
NotAstray (Ejects n v t) = Unit {0}
NotAstray (Stops c t) = c ≡ Astray → ⊥

-- where mail tells which names are of messages
module _ {N W : Type 0} (K : Naming N W) (mail : N → Bool) where
  -- it is known as none, and no answer of a message comes to be named so
  abbrev pub IsNone : List (Known N) → N → Type 0
  IsNone ks n = (entry_of K ks n ≡ None) × ((h : ℕ) (m : N) (k : ℕ) → mail m ≡ true → K.same (K.made (IsAnswer h m) k) n ≡ false)

  -- it is known, or never comes to be
  abbrev pub IsAwaited : List (Known N) → N → Type 0
  IsAwaited ks n = ((k : Known N) × (entry_of K ks n ≡ Some k)) ⊎ IsNone ks n

  -- a message whose answer is one of these
  abbrev pub IsAsked : (N → Type 0) → Message N → Type 0
  IsAsked P m = (mail m.id ≡ true) × WhereSome P m.answer

  -- so is each name that waits on another, and each answer of a message that is held
  abbrev pub EntryWaits : (N → Type 0) → Known N → Type 0
  EntryWaits P k = AllOf P k.waiting × AllOf (IsAsked P) k.held

  abbrev pub AllAwaited : List (Known N) → Type 0
  AllAwaited ks = AllOf (EntryWaits (IsAwaited ks)) ks

-- A settling is not astray, where what waits is known.
abbrev pub SettlingEnds : {N W : Type 0} → Naming N W → Type 0
SettlingEnds {N} K = (mail : N → Bool) (p : N) (y : Value N) (s : Vat N) → AllAwaited K mail s.known → NotAstray (settle K p y s)

-- under global names and under local numbers
abbrev pub SettlingsEnd : Type 0
SettlingsEnd = ((word : ℕ → ℕ) (v : ℕ) → SettlingEnds (naming word v)) × ((word : ℕ → ℕ) → SettlingEnds (numbering {W = Name} word))
