-- The vats of a script: what each is told to be, their names, their sources and whom each knows.
use Rattle.std.specs.Prelude.{ℕ, suc, ◌==◌, nat_le, Bool, true, false, not, ◌&&◌, ◌||◌, if◌then◌else◌, List, [], ◌∷◌, ◌++◌, length, codes, map, Some, None, is_some, option_map}
use Rattle.std.specs.List.{list_any, list_all}
use Rattle.std.specs.declared.option.Option.{Option}
use Rattle.std.specs.Str.{bytes_eq}
use Rattle.ev_base.specs.SafeScope.{safe_value}
use Rattle.def_text.specs.Keywords.{is_keyword}
use Rattle.serde_json.specs.Data.{Data}
use Rattle.serde_json.specs.Find.{as_str}
use Rattle.ev_script.specs.Json.{◌>>=◌, has_members, text_at, list_at, each}
use Rattle.ev_script.specs.Head.{is_between}
use Rattle.ev_script.specs.declared.script.VatScript.{VatScript}
use Rattle.ev_script.specs.declared.vats.Described.{Described}

-- ---- at most 16 objects, each with exactly the members `name` (a text), `knows` (a list of texts) and `source` (a text)

abbrev pub is_vat_object : Data → Bool
is_vat_object d = has_members 3 (codes "name" ∷ codes "knows" ∷ codes "source" ∷ []) d

abbrev pub vat_members : Data → Option Described
vat_members d = do
  name ← text_at (codes "name") d
  knows ← list_at (codes "knows") d
  words ← each as_str knows
  source ← text_at (codes "source") d
  Some (record { name = name; knows = words; source = source })

abbrev pub vat_of : Data → Option Described
vat_of d = if is_vat_object d then vat_members d else None

abbrev pub vats_in : List Data → Option (List Described)
vats_in vats = if nat_le (length vats) 16 then each vat_of vats else None

abbrev pub vats_of : Data → Option (List Described)
vats_of d = do
  vats ← list_at (codes "vats") d
  vats_in vats

-- ---- names

abbrev pub is_lower : ℕ → Bool
is_lower c = is_between 97 122 c

abbrev pub is_lower_or_digit : ℕ → Bool
is_lower_or_digit c = is_between 97 122 c || is_between 48 57 c

abbrev pub begins_lower : List ℕ → Bool
begins_lower [] = false
begins_lower (c ∷ cs) = is_lower c

-- 1 to 16 characters out of a to z and digits that begin with a letter, and neither a keyword nor a name of the safe scope
abbrev pub is_vat_name : List ℕ → Bool
is_vat_name word = nat_le (length word) 16 && begins_lower word && list_all is_lower_or_digit word && not (is_keyword word) && not (is_some (safe_value word))

-- no word stands twice
abbrev pub differ : List (List ℕ) → Bool
differ [] = true
differ (word ∷ words) = not (list_any (bytes_eq word) words) && differ words

-- the names of the vats, in order
abbrev pub names_of : List Described → List (List ℕ)
names_of vats = map (λ (vat : Described). vat.name) vats

abbrev pub are_vat_names : List (List ℕ) → Bool
are_vat_names names = list_all is_vat_name names && differ names

-- ---- sources of at most 65,536 bytes

abbrev pub is_source : Described → Bool
is_source vat = nat_le (length vat.source) 65536

-- ---- whom a vat knows: names of other vats of the script, none twice

-- the place of a word among the names of the vats
abbrev pub place_of : List (List ℕ) → List ℕ → Option ℕ
place_of [] word = None
place_of (name ∷ names) word = if bytes_eq word name then Some 0 else option_map suc (place_of names word)

-- no place stands twice, nor among those before them
abbrev pub stand_once : List ℕ → List ℕ → Bool
stand_once before [] = true
stand_once before (place ∷ places) = not (list_any (λ p. p == place) before) && stand_once (before ++ place ∷ []) places

-- the places are those of other vats than the one at this place, and none stands twice
abbrev pub are_others : ℕ → List ℕ → Bool
are_others self places = not (list_any (λ p. p == self) places) && stand_once [] places

-- the places of the known vats of the vat at a place
abbrev pub known : List (List ℕ) → ℕ → List (List ℕ) → Option (List ℕ)
known names self words = do
  places ← each (place_of names) words
  if are_others self places then Some places else None

-- the vats from a place on, each with the places of whom it knows
abbrev pub known_from : List (List ℕ) → ℕ → List Described → Option (List VatScript)
known_from names place [] = Some []
known_from names place (vat ∷ vats) = do
  knows ← known names place vat.knows
  rest ← known_from names (suc place) vats
  Some (record { name = vat.name; knows = knows; source = vat.source } ∷ rest)
