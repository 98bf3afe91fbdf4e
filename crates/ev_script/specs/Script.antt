-- What bytes are a script, and which rule is the first that others break.
use Rattle.std.specs.Prelude.{◌≡◌, ℕ, nat_le, Bool, if◌then◌else◌, List, [], length, Some, None, Result, Ok, Err}
use Rattle.std.specs.List.{list_all}
use Rattle.std.specs.declared.option.Option.{Option}
use Rattle.serde_json.specs.Data.{Data}
use Rattle.ev_script.specs.Json.{json_of, each}
use Rattle.ev_script.specs.Head.{is_script_object, key_of, fuel_of}
use Rattle.ev_script.specs.Vats.{vats_of, names_of, are_vat_names, is_source, known_from}
use Rattle.ev_script.specs.Schedule.{entries_of, step_in, round, written_out, are_in_order}
use Rattle.ev_script.specs.declared.vats.Described.{Described}
use Rattle.ev_script.specs.declared.entries.Step.{Step}
use Rattle.ev_script.specs.declared.script.Entry.{Entry}
use Rattle.ev_script.specs.declared.script.Script.{Script}
use Rattle.ev_script.specs.declared.script.ScriptFault.{ScriptFault}
use Rattle.ev_script.specs.declared.script.ScriptFault.TheVariants.{Rule, Memory}

infixl 10 ◌>>=◌
abbrev pub ◌>>=◌ : {A B : Type 0} → Result A ℕ → (A → Result B ℕ) → Result B ℕ
Ok x >>= f = f x
Err rule >>= f = Err rule

-- what rule k gives, or k where it fails
abbrev pub rule : {A : Type 0} → ℕ → Option A → Result A ℕ
rule k None = Err k
rule k (Some x) = Ok x

abbrev pub rule_holds : ℕ → Bool → Result (Unit {0}) ℕ
rule_holds k b = if b then Ok tt else Err k

-- rules 5 to 7: what the vats are told to be
unfoldable pub read_vats : Data → Result (List Described) ℕ
read_vats d = do
  vats ← rule 5 (vats_of d)
  named ← rule_holds 6 (are_vat_names (names_of vats))
  small ← rule_holds 7 (list_all is_source vats)
  Ok vats

-- the most entries of a schedule
abbrev pub most_entries : ℕ
most_entries = 100000

-- rule 11: the entries, drains written out
unfoldable pub write_out : List Entry → List Step → Result (List Entry) ℕ
write_out entries steps = if nat_le (length (written_out entries steps)) most_entries then Ok (written_out entries steps) else Err 11

-- rules 9 to 12: the schedule
unfoldable pub read_schedule : List (List ℕ) → Data → Result (List Entry) ℕ
read_schedule names d = do
  values ← rule 9 (entries_of names d)
  steps ← rule 10 (each (step_in names) values)
  entries ← write_out (round (length names)) steps
  ordered ← rule_holds 12 (are_in_order [] entries)
  Ok entries

-- rules 8 to 12: whom the vats know, and the schedule
unfoldable pub read_rest : List ℕ → ℕ → List Described → Data → Result Script ℕ
read_rest key fuel vats d = do
  known ← rule 8 (known_from (names_of vats) 0 vats)
  schedule ← read_schedule (names_of vats) d
  Ok (record { key = key; fuel = fuel; vats = known; schedule = schedule })

-- rules 2 to 12
unfoldable pub read_value : Data → Result Script ℕ
read_value d = do
  object ← rule_holds 2 (is_script_object d)
  key ← rule 3 (key_of d)
  fuel ← rule 4 (fuel_of d)
  vats ← read_vats d
  read_rest key fuel vats d

-- The script that the bytes are, or the first rule that fails. Each rule is tested over the whole script before the next.
unfoldable pub read : List ℕ → Result Script ℕ
read bytes = do
  d ← rule 1 (json_of bytes)
  read_value d

-- what a reader gave is what is due, or memory ran out
abbrev pub Reads : {A : Type 0} → Result A ScriptFault → Result A ℕ → Type 0
Reads (Ok x) due = due ≡ Ok x
Reads (Err (Rule k)) due = due ≡ Err k
Reads (Err Memory) due = Unit {0}
