-- The rules of scripts, asked of what is told: the script that it is, or the first rule that fails. Nothing is asked of its form in
-- JSON, for what is told has a key, vats with names and sources, and entries.
use Rattle.std.specs.Prelude.{ℕ, suc, nat_le, Bool, List, [], ◌∷◌, length, map, Some, None, Result, Ok}
use Rattle.std.specs.List.{list_all}
use Rattle.std.specs.declared.option.Option.{Option}
use Rattle.ev_script.specs.Head.{bounded_fuel, key_from}
use Rattle.ev_script.specs.Vats.{are_vat_names, known}
use Rattle.ev_script.specs.Script.{◌>>=◌, rule, rule_holds, read_schedule}
use Rattle.ev_script.specs.declared.script.Script.{Script}
use Rattle.ev_script.specs.declared.script.VatScript.{VatScript}
use Rattle.def_vats.specs.declared.told.Told.{Told}
use Rattle.def_vats.specs.declared.told.ToldVat.{ToldVat}
use Rattle.ev_make_json.specs.Data.{schedule_data}

abbrev pub fuel_of : Option ℕ → Option ℕ
fuel_of None = Some 1000000
fuel_of (Some fuel) = bounded_fuel fuel

abbrev pub names_of : List ToldVat → List (List ℕ)
names_of vats = map (λ (vat : ToldVat). vat.name) vats

abbrev pub is_source : ToldVat → Bool
is_source vat = nat_le (length vat.source) 65536

-- a vat with the places of whom it knows, in front of others
abbrev pub with_known : ToldVat → Option (List ℕ) → Option (List VatScript) → Option (List VatScript)
with_known vat None vats = None
with_known vat (Some knows) None = None
with_known vat (Some knows) (Some vats) = Some (record { name = vat.name; knows = knows; source = vat.source } ∷ vats)

-- the vats from a place on, each with the places of whom it knows
abbrev pub known_from : List (List ℕ) → ℕ → List ToldVat → Option (List VatScript)
known_from names place [] = Some []
known_from names place (vat ∷ vats) = with_known vat (known names place vat.knows) (known_from names (suc place) vats)

-- rules 5 to 12
unfoldable pub read_vats : List ℕ → ℕ → List ToldVat → List (List ℕ) → Result Script ℕ
read_vats key fuel vats schedule = do
  few ← rule_holds 5 (nat_le (length vats) 16)
  named ← rule_holds 6 (are_vat_names (names_of vats))
  small ← rule_holds 7 (list_all is_source vats)
  known ← rule 8 (known_from (names_of vats) 0 vats)
  entries ← read_schedule (names_of vats) (schedule_data schedule)
  Ok (record { key = key; fuel = fuel; vats = known; schedule = entries })

-- rules 3 to 12
unfoldable pub read_told : Told → Result Script ℕ
read_told told = do
  key ← rule 3 (key_from told.key)
  fuel ← rule 4 (fuel_of told.fuel)
  read_vats key fuel told.vats told.schedule
