-- What is told of a script, as a JSON value.
use Rattle.std.specs.Prelude.{ℕ, List, map, codes, Some, None}
use Rattle.std.specs.declared.option.Option.{Option}
use Rattle.serde_json.specs.Data.{Data, unsigned, number, string, array, object, Members, no_members, member, put}
use Rattle.serde_json.specs.View.{items_of}
use Rattle.serde_json.specs.Written.{compact_text}
use Rattle.def_vats.specs.declared.told.Told.{Told}
use Rattle.def_vats.specs.declared.told.ToldVat.{ToldVat}

abbrev pub texts_data : List (List ℕ) → Data
texts_data texts = array (items_of (map string texts))

abbrev pub vat_data : ToldVat → Data
vat_data vat = object (member (codes "knows") (texts_data vat.knows) (member (codes "name") (string vat.name) (member (codes "source") (string vat.source) no_members)))

abbrev pub vats_data : List ToldVat → Data
vats_data vats = array (items_of (map vat_data vats))

-- a member for the fuel, where it is told
abbrev pub fuel_member : Option ℕ → Members
fuel_member None = no_members
fuel_member (Some fuel) = member (codes "fuel") (number (unsigned fuel)) no_members

abbrev pub with_others : Told → Members → Members
with_others told members = put (codes "vats") (vats_data told.vats) (put (codes "schedule") (texts_data told.schedule) (put (codes "key") (string told.key) members))

abbrev pub script_data : Told → Data
script_data told = object (with_others told (fuel_member told.fuel))

-- a value with a schedule alone
abbrev pub schedule_data : List (List ℕ) → Data
schedule_data schedule = object (member (codes "schedule") (texts_data schedule) no_members)

-- the script in JSON, on one line
abbrev pub written : Told → List ℕ
written told = compact_text (script_data told)
