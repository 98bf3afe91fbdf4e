-- The text of vats for what is told of a script.
use Rattle.std.specs.Prelude.{ℕ, Bool, not, ◌&&◌, if◌then◌else◌, List, [], ◌∷◌, ◌++◌, codes, decimal, map, Some, None}
use Rattle.std.specs.List.{flat_map, list_any}
use Rattle.std.specs.declared.option.Option.{Option}
use Rattle.std.specs.Str.{bytes_eq}
use Rattle.def_vats.specs.Reading.{ended, is_head, lines_of, nothing_told, plain_source}
use Rattle.def_vats.specs.declared.told.Told.{Told}
use Rattle.def_vats.specs.declared.told.ToldVat.{ToldVat}

-- words, one space in front of each
abbrev pub spaced : List (List ℕ) → List ℕ
spaced words = flat_map (λ word. 32 ∷ word) words

-- a head
abbrev pub head_line : List (List ℕ) → List ℕ
head_line words = codes "===" ++ spaced words

-- a line behind a bar
abbrev pub barred : List ℕ → List ℕ
barred line = 124 ∷ line

-- whether lines can stand for a source as it is: none is a head, and they are read as the source
abbrev pub stands_for : List (List ℕ) → List ℕ → Bool
stands_for lines source = not (list_any is_head lines) && bytes_eq (plain_source lines) source

abbrev pub is_plain : List ℕ → Bool
is_plain source = stands_for (lines_of source) source

abbrev pub known_words : List (List ℕ) → List (List ℕ)
known_words [] = []
known_words (name ∷ names) = codes "knows" ∷ name ∷ names

abbrev pub vat_words : List ℕ → ToldVat → List (List ℕ)
vat_words verb vat = verb ∷ vat.name ∷ known_words vat.knows

-- the lines, each with its line feed
abbrev pub lines_text : List (List ℕ) → List ℕ
lines_text lines = flat_map ended lines

abbrev pub plain_vat : ToldVat → List (List ℕ) → List ℕ
plain_vat vat lines = ended (head_line (vat_words (codes "vat") vat)) ++ lines_text lines

abbrev pub quoted_vat : ToldVat → List (List ℕ) → List ℕ
quoted_vat vat lines = ended (head_line (vat_words (codes "quoted") vat)) ++ lines_text (map barred lines)

abbrev pub vat_text : ToldVat → List ℕ
vat_text vat = if is_plain vat.source then plain_vat vat (lines_of vat.source) else quoted_vat vat (lines_of vat.source)

-- a key of zeros is not told
abbrev pub key_text : List ℕ → List ℕ
key_text key = if bytes_eq key nothing_told.key then [] else codes "=== key " ++ ended key

abbrev pub fuel_text : Option ℕ → List ℕ
fuel_text None = []
fuel_text (Some fuel) = codes "=== fuel " ++ ended (decimal fuel)

abbrev pub schedule_text : List (List ℕ) → List ℕ
schedule_text entries = ended (codes "=== schedule") ++ lines_text entries

abbrev pub text_of : Told → List ℕ
text_of told = key_text told.key ++ fuel_text told.fuel ++ flat_map vat_text told.vats ++ schedule_text told.schedule
