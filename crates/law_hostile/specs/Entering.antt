-- What the entries of a vat leave of the names in a note.
use Rattle.std.specs.Prelude.{ℕ, List}
use Rattle.def_machine.specs.Values.{Name, Gift}
use Rattle.def_machine.specs.State.{Note, Vat}
use Rattle.def_run.specs.Entered.{entered}
use Rattle.def_run.specs.Marks.{base, placed}
use Rattle.law_fate.specs.Name.Names.{Bit, Named, At, Drew, NoteOk, IsMade}
use Rattle.law_reference.specs.Reference.Notes.{IsBetween}

-- what holds of a gift holds of it as any entry, and of a gift that passes
pub record HoldsOfEntries (P : Bit Name → Type 0) : Type 0 where
  pub unmarked : (h i : ℕ) → P (Named (Gift h i)) → P (Named (Gift h (base i)))
  pub placed_too : (h i : ℕ) → P (Named (Gift h i)) → P (Named (Gift h (placed i)))
  pub passed : (h i : ℕ) → P (At h) → P (Drew i) → P (Named (Gift h i))

-- What so holds of each name in a note holds of it by the entries of the vat at which it arrives.
abbrev pub EnteringKeepsNames : Type 1
EnteringKeepsNames = (P : Bit Name → Type 0) → HoldsOfEntries P → (u v : ℕ) (exports ks : List Name) (n : Note Name) → NoteOk P n → NoteOk P (entered u v exports ks n)

-- That a name was made so holds.
abbrev pub EnteringKeepsMade : Type 0
EnteringKeepsMade = (vats : List (Vat Name)) (draws : List ℕ) (u v : ℕ) (exports ks : List Name) (n : Note Name) → NoteOk (IsMade vats draws) n → NoteOk (IsMade vats draws) (entered u v exports ks n)

-- A note between two vats stays one.
abbrev pub EnteringKeepsEnds : Type 0
EnteringKeepsEnds = (u v : ℕ) (exports ks : List Name) (n : Note Name) → IsBetween v u n → IsBetween v u (entered u v exports ks n)
