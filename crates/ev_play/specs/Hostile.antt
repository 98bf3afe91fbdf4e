-- Which vats of a play are hostile, that they have no program, and that they alone inject.
use Rattle.std.specs.Prelude.{ℕ, ◌+◌, ◌==◌, Bool, true, if◌then◌else◌, List, [], ◌∷◌, length, slice_get, codes, Some, None, is_some, option_and_then}
use Rattle.std.specs.List.{list_any}
use Rattle.std.specs.declared.option.Option.{Option}
use Rattle.serde_json.specs.Data.{Data}
use Rattle.serde_json.specs.Find.{get, as_str}
use Rattle.ev_script.specs.Json.{◌>>=◌, has_members, list_of, each}
use Rattle.ev_script.specs.Vats.{place_of, stand_once}
use Rattle.ev_script.specs.declared.script.VatScript.{VatScript}
use Rattle.ev_play.specs.declared.play.Doing.{Doing}
use Rattle.ev_play.specs.declared.play.Doing.TheVariants.{Does, Inject}

-- an object with the members `key`, `vats` and `schedule`, perhaps `fuel`, perhaps `hostile`, and no other
abbrev pub member_there : List ℕ → Data → ℕ
member_there name d = if is_some (get name d) then 1 else 0

abbrev pub is_play_object : Data → Bool
is_play_object d = has_members (3 + member_there (codes "fuel") d + member_there (codes "hostile") d) (codes "key" ∷ codes "vats" ∷ codes "schedule" ∷ []) d

-- ---- `hostile`, where it is there, is a list of names of vats of the script, each once

abbrev pub vat_named : List (List ℕ) → Data → Option ℕ
vat_named names d = option_and_then (place_of names) (as_str d)

abbrev pub hostile_in : List (List ℕ) → Data → Option (List ℕ)
hostile_in names d = do
  values ← list_of d
  places ← each (vat_named names) values
  if stand_once [] places then Some places else None

abbrev pub hostile_from : List (List ℕ) → Option Data → Option (List ℕ)
hostile_from names None = Some []
hostile_from names (Some d) = hostile_in names d

abbrev pub hostile_of : List (List ℕ) → Data → Option (List ℕ)
hostile_of names d = hostile_from names (get (codes "hostile") d)

-- ---- the source of a hostile vat is the empty text

abbrev pub is_empty_source : Option VatScript → Bool
is_empty_source None = true
is_empty_source (Some vat) = length vat.source == 0

abbrev pub has_no_source : List VatScript → ℕ → Bool
has_no_source vats place = is_empty_source (slice_get vats place)

-- ---- the first vat of each inject is hostile

abbrev pub is_hostile : List ℕ → ℕ → Bool
is_hostile hostile v = list_any (λ h. h == v) hostile

abbrev pub may_do : List ℕ → Doing → Bool
may_do hostile (Does e) = true
may_do hostile (Inject v w bytes) = is_hostile hostile v
