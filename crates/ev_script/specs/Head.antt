-- The object that a script is, its key and its fuel.
use Rattle.std.specs.Prelude.{ℕ, ◌+◌, ◌-◌, ◌*◌, ◌==◌, nat_le, Bool, ◌&&◌, ◌||◌, if◌then◌else◌, List, [], ◌∷◌, length, slice_index, codes, map, Some, None, is_some, option_and_then}
use Rattle.std.specs.List.{list_all, range_with_len}
use Rattle.std.specs.declared.option.Option.{Option}
use Rattle.serde_json.specs.Data.{Data}
use Rattle.serde_json.specs.Find.{get, as_number, as_u64}
use Rattle.ev_script.specs.Json.{has_members, text_at}

abbrev pub is_between : ℕ → ℕ → ℕ → Bool
is_between low high n = nat_le low n && nat_le n high

-- an object with the members `key`, `vats` and `schedule`, perhaps `fuel`, and no other
abbrev pub is_script_object : Data → Bool
is_script_object d = has_members (if is_some (get (codes "fuel") d) then 4 else 3) (codes "key" ∷ codes "vats" ∷ codes "schedule" ∷ []) d

-- ---- the key: 64 digits out of 0 to 9 and a to f, which spell 32 bytes

abbrev pub is_hex_digit : ℕ → Bool
is_hex_digit c = is_between 48 57 c || is_between 97 102 c

-- what a digit counts
abbrev pub hex_value : ℕ → ℕ
hex_value c = if is_between 48 57 c then c - 48 else if is_between 97 102 c then c - 87 else 0

abbrev pub is_key : List ℕ → Bool
is_key text = (length text == 64) && list_all is_hex_digit text

-- byte i is spelled by the digits 2i and 2i + 1, the higher first
abbrev pub key_byte : List ℕ → ℕ → ℕ
key_byte text i = 16 * hex_value (slice_index text (2 * i)) + hex_value (slice_index text (2 * i + 1))

abbrev pub key_bytes : List ℕ → List ℕ
key_bytes text = map (key_byte text) (range_with_len 0 32)

abbrev pub key_from : List ℕ → Option (List ℕ)
key_from text = if is_key text then Some (key_bytes text) else None

abbrev pub key_of : Data → Option (List ℕ)
key_of d = option_and_then key_from (text_at (codes "key") d)

-- ---- the fuel: a whole number from 1 to 10,000,000, and 1,000,000 where the script says none

abbrev pub bounded_fuel : ℕ → Option ℕ
bounded_fuel n = if is_between 1 10000000 n then Some n else None

abbrev pub fuel_from : Option Data → Option ℕ
fuel_from None = Some 1000000
fuel_from (Some d) = option_and_then bounded_fuel (option_and_then as_u64 (as_number d))

abbrev pub fuel_of : Data → Option ℕ
fuel_of d = fuel_from (get (codes "fuel") d)
