-- What is printed of a run is read again, and what is read is how it is printed.
use Rattle.std.specs.Prelude.{◌≡◌, ℕ, ◌<◌, ◌^◌, true, List, length, Some}
use Rattle.std.specs.List.{list_all}
use Rattle.ev_base.specs.declared.names.Name.{Name}
use Rattle.ev_base.specs.declared.names.Name.TheVariants.{Object, Own, Answer, Gift, Root, Claimed}
use Rattle.def_event.specs.Lines.{spaced}
use Rattle.def_event.specs.Lines as lines
use Rattle.ev_script.specs.Vats.{differ, is_vat_name}
use Rattle.ev_trace_words.specs.Words.{words_of}
use Rattle.ev_trace_words.specs.Parts.{name}

-- the words of a line, with a space between two, are the line
abbrev pub LinesAreTheirWords : Type 0
LinesAreTheirWords = (line : List ℕ) → spaced (words_of line) ≡ line

-- each may be the name of a vat, and no two are the same
pub record AreNames (names : List (List ℕ)) : Type 0 where
  pub lawful : list_all is_vat_name names ≡ true
  pub apart : differ names ≡ true

-- a name of so many vats, whose number is below 2^64, or below 2^128 where a hostile vat claimed it
abbrev pub FitsName : ℕ → Name → Type 0
FitsName vats (Object v n) = (v < vats) × (n < 2 ^ 64)
FitsName vats (Own v n) = (v < vats) × (n < 2 ^ 64)
FitsName vats (Answer host m) = (host < vats) × (m.sender < vats) × (m.number < 2 ^ 64)
FitsName vats (Gift host i) = (host < vats) × (i < 2 ^ 64)
FitsName vats (Root v) = v < vats
FitsName vats (Claimed host provider word) = (host < vats) × (provider < vats) × (word < 2 ^ 128)

-- a name that is printed is read as itself
abbrev pub NamesAreReadAgain : Type 0
NamesAreReadAgain = (names : List (List ℕ)) (x : Name) → AreNames names → FitsName (length names) x → name names (lines.name names x) ≡ Some x

-- a word that is read as a name is how that name is printed
abbrev pub NamesAreSpelledSo : Type 0
NamesAreSpelledSo = (names : List (List ℕ)) (word : List ℕ) (x : Name) → name names word ≡ Some x → lines.name names x ≡ word
