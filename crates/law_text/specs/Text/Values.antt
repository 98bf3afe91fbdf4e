-- Values by their texts.
use Rattle.std.specs.Prelude.{◌≡◌, ℕ, suc, ◌<◌, ◌^◌, Bool as Bools, true, ◌||◌, ◌==◌, nat_le, ℤ, pos, negsuc, List, [], ◌∷◌, length, Option, Some, None}
use Rattle.std.specs.List.{list_all}
use Rattle.std.specs.Char.{is_ascii_alphanumeric}
use Rattle.def_text.specs.Quoting.{shortened, quoted_character}
use Rattle.def_event.specs.declared.shown.Shown.{Shown, Null, Bool, Int, Char, Text, Broken, Prim, List as ListOf, Slot, Name as Named, Members', Row_of-Shown, end_of-Shown, more_of-Shown}
use Rattle.def_event.specs.Lines.{primitive_name, vat, value}
use Rattle.law_text.specs.Text.Names.{IsNameOf}

-- a byte of a name of a vat: a letter, a digit, `_`, or one of a character that is not of one byte
abbrev pub names_vat : ℕ → Bools
names_vat c = is_ascii_alphanumeric c || ((c == 95) || nat_le 128 c)

-- Names of vats are of such bytes, and two vats have two names.
pub record AreVats (vats : List (List ℕ)) : Type 0 where
  pub spelled : (v : ℕ) → list_all names_vat (vat vats v) ≡ true
  pub differ : (v w : ℕ) → v < length vats → w < length vats → vat vats v ≡ vat vats w → v ≡ w

-- of no more than 64 digits
abbrev pub IsWide : ℤ → Type 0
IsWide (pos n) = n < 10 ^ 64
IsWide (negsuc n) = suc n < 10 ^ 64

abbrev mutual
  -- Its vat is one of these, its number of 64 bits; so is each member of a list of a note.
  pub IsValueOf : List (List ℕ) → Shown → Type 0
  IsValueOf vats (Int z) = IsWide z
  IsValueOf vats (ListOf v n) = (v < length vats) × (n < 2 ^ 64)
  IsValueOf vats (Slot v n) = (v < length vats) × (n < 2 ^ 64)
  IsValueOf vats (Named n) = IsNameOf vats n
  IsValueOf vats (Members' shape row) = AreMembersOf vats row
  IsValueOf vats Null = Unit {0}
  IsValueOf vats (Bool b) = Unit {0}
  IsValueOf vats (Char c) = Unit {0}
  IsValueOf vats (Text t) = Unit {0}
  IsValueOf vats (Broken t) = Unit {0}
  IsValueOf vats (Prim n) = Unit {0}

  pub AreMembersOf : List (List ℕ) → {n : _} → Row_of-Shown n → Type 0
  AreMembersOf vats end_of-Shown = Unit {0}
  AreMembersOf vats (more_of-Shown x rest) = IsValueOf vats x × AreMembersOf vats rest

-- the members of a list in a note
abbrev pub row_members : {n : _} → Row_of-Shown n → List Shown
row_members end_of-Shown = []
row_members (more_of-Shown x rest) = x ∷ row_members rest

abbrev pub members_in : Shown → Option (List Shown)
members_in (Members' shape row) = Some (row_members row)
members_in _ = None

mutual
  -- They are one, but for texts of which lines show the same, and for characters and primitives that are spelled alike.
  pub data Alike : Shown → Shown → Type 0 where
    same : {x : Shown} → Alike x x
    texts : {t u : List ℕ} → shortened t ≡ shortened u → Alike (Text t) (Text u)
    problems : {t u : List ℕ} → shortened t ≡ shortened u → Alike (Broken t) (Broken u)
    characters : {c d : ℕ} → quoted_character c ≡ quoted_character d → Alike (Char c) (Char d)
    primitives : {m n : ℕ} → primitive_name m ≡ primitive_name n → Alike (Prim m) (Prim n)
    -- two lists in notes, whose members are alike
    lists : {x y : Shown} {xs ys : List Shown} → members_in x ≡ Some xs → members_in y ≡ Some ys → AreAlike xs ys → Alike x y

  -- one for one
  pub data AreAlike : List Shown → List Shown → Type 0 where
    none : AreAlike [] []
    more : {x y : Shown} {xs ys : List Shown} → Alike x y → AreAlike xs ys → AreAlike (x ∷ xs) (y ∷ ys)

abbrev pub TextsTellValues : Type 0
TextsTellValues = (vats : List (List ℕ)) → AreVats vats → (x y : Shown) → IsValueOf vats x → IsValueOf vats y → value vats x ≡ value vats y → Alike x y
