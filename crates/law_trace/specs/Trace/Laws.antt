-- What is printed of names, lists, slots, integers and short texts is read again as a value.
use Rattle.std.specs.Prelude.{◌≡◌, ℕ, ℤ, pos, negsuc, true, false, ◌<◌, ◌≤◌, ◌^◌, ◌⊎◌, List, length, Some, Ok}
use Rattle.std.specs.Fmt.{signed_decimal}
use Rattle.std.specs.Char.{IsScalar}
use Rattle.std.specs.Str.{chars}
use Rattle.def_text.specs.Quoting.{shortened}
use Rattle.ev_base.specs.declared.names.Name.{Name}
use Rattle.def_event.specs.declared.shown.Shown.{Null, Bool, Int, Char, Text, Broken, Prim, List as ListOf, Slot, Name as Named}
use Rattle.def_event.specs.Lines as lines
use Rattle.ev_trace_words.specs.Laws.{AreNames, FitsName}
use Rattle.ev_trace_words.specs.Parts.{guarded}
use Rattle.ev_trace_words.specs.Values.{value}

-- a name, and a list and a slot by their numbers
pub record ThingsAreReadAgain : Type 0 where
  pub named : (names : List (List ℕ)) (x : Name) → AreNames names → FitsName (length names) x → value names (lines.name names x) ≡ Ok (Named x)
  pub list : (names : List (List ℕ)) (v n : ℕ) → AreNames names → v < length names → n < 2 ^ 64 → value names (lines.numbered names v 37 n) ≡ Ok (ListOf v n)
  pub slot : (names : List (List ℕ)) (v n : ℕ) → AreNames names → v < length names → n < 2 ^ 64 → value names (lines.numbered names v 38 n) ≡ Ok (Slot v n)

-- an integer of 128 bits
abbrev pub IsWide : ℤ → Type 0
IsWide (pos n) = n < 2 ^ 127
IsWide (negsuc n) = n < 2 ^ 127

-- an integer that is printed is read as itself
abbrev pub IntegersAreReadAgain : Type 0
IntegersAreReadAgain = (names : List (List ℕ)) (z : ℤ) → AreNames names → IsWide z → value names (signed_decimal z) ≡ Ok (Int z)

-- a text of at most 32 characters that is printed is read as itself
abbrev pub ShortTextsAreReadAgain : Type 0
ShortTextsAreReadAgain = (names : List (List ℕ)) (t : List ℕ) → AreNames names → length (chars t) ≤ 32 → value names (shortened t) ≡ Ok (Text t)

-- and so is a broken reference, where its problem is such a text
abbrev pub ShortProblemsAreReadAgain : Type 0
ShortProblemsAreReadAgain = (names : List (List ℕ)) (t : List ℕ) → AreNames names → length (chars t) ≤ 32 → value names (lines.value names (Broken t)) ≡ Ok (Broken t)

-- a character
abbrev pub CharactersAreReadAgain : Type 0
CharactersAreReadAgain = (names : List (List ℕ)) (c : ℕ) → AreNames names → IsScalar c → value names (lines.value names (Char c)) ≡ Ok (Char c)

-- the number of a primitive of the safe scope, or of `nullOk` with a guard, which is 32 more than that of the guard
abbrev pub IsPrimitive : ℕ → Type 0
IsPrimitive n = (n < 20) ⊎ ((guard : ℕ) × (guarded guard ≡ Some n))

abbrev pub PrimitivesAreReadAgain : Type 0
PrimitivesAreReadAgain = (names : List (List ℕ)) (n : ℕ) → IsPrimitive n → value names (lines.value names (Prim n)) ≡ Ok (Prim n)

-- null and the booleans
pub record ConstantsAreReadAgain : Type 0 where
  pub nothing : (names : List (List ℕ)) → value names (lines.value names Null) ≡ Ok Null
  pub yes_value : (names : List (List ℕ)) → value names (lines.value names (Bool true)) ≡ Ok (Bool true)
  pub no_value : (names : List (List ℕ)) → value names (lines.value names (Bool false)) ≡ Ok (Bool false)
