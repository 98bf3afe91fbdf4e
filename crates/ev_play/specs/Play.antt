-- What bytes are a play, which is a script that may name hostile vats and inject frames, and which rule is the first that others break.
use Rattle.std.specs.Prelude.{ℕ, nat_le, if◌then◌else◌, List, [], length, Result, Ok, Err}
use Rattle.std.specs.List.{list_all}
use Rattle.serde_json.specs.Data.{Data}
use Rattle.ev_script.specs.Json.{json_of, each}
use Rattle.ev_script.specs.Head.{key_of, fuel_of}
use Rattle.ev_script.specs.Vats.{names_of, known_from}
use Rattle.ev_script.specs.Schedule.{round, are_in_order}
use Rattle.ev_script.specs.Script.{◌>>=◌, rule, rule_holds, read_vats, most_entries}
use Rattle.ev_script.specs.declared.vats.Described.{Described}
use Rattle.ev_script.specs.declared.script.Entry.{Entry}
use Rattle.ev_script.specs.declared.script.VatScript.{VatScript}
use Rattle.ev_play.specs.Doings.{doings_of, play_step_in, done_by_all, entries_in}
use Rattle.ev_play.specs.Hostile.{is_play_object, hostile_of, has_no_source, may_do}
use Rattle.ev_play.specs.declared.doings.PlayStep.{PlayStep}
use Rattle.ev_play.specs.declared.play.Doing.{Doing}
use Rattle.ev_play.specs.declared.play.Play.{Play}

-- rule 11: what is done, drains written out
unfoldable pub do_all : List Entry → List PlayStep → Result (List Doing) ℕ
do_all round steps = if nat_le (length (done_by_all round steps)) most_entries then Ok (done_by_all round steps) else Err 11

-- rules 9 to 12: what is done
unfoldable pub read_doings : List (List ℕ) → Data → Result (List Doing) ℕ
read_doings names d = do
  values ← rule 9 (doings_of names d)
  steps ← rule 10 (each (play_step_in names) values)
  doings ← do_all (round (length names)) steps
  ordered ← rule_holds 12 (are_in_order [] (entries_in doings))
  Ok doings

-- rules 13 to 15: the hostile vats
unfoldable pub read_hostile : List (List ℕ) → List VatScript → List Doing → Data → Result (List ℕ) ℕ
read_hostile names vats doings d = do
  hostile ← rule 13 (hostile_of names d)
  silent ← rule_holds 14 (list_all (has_no_source vats) hostile)
  injected ← rule_holds 15 (list_all (may_do hostile) doings)
  Ok hostile

-- rules 8 to 15: whom the vats know, what is done, and the hostile vats
unfoldable pub read_play_rest : List ℕ → ℕ → List Described → Data → Result Play ℕ
read_play_rest key fuel vats d = do
  known ← rule 8 (known_from (names_of vats) 0 vats)
  doings ← read_doings (names_of vats) d
  hostile ← read_hostile (names_of vats) known doings d
  Ok (record { script = record { key = key; fuel = fuel; vats = known; schedule = entries_in doings }; hostile = hostile; doings = doings })

-- rules 2 to 15
unfoldable pub read_play_value : Data → Result Play ℕ
read_play_value d = do
  object ← rule_holds 2 (is_play_object d)
  key ← rule 3 (key_of d)
  fuel ← rule 4 (fuel_of d)
  vats ← read_vats d
  read_play_rest key fuel vats d

-- The play that the bytes are, or the first rule that fails. Each rule is tested over the whole script before the next.
unfoldable pub read_play : List ℕ → Result Play ℕ
read_play bytes = do
  d ← rule 1 (json_of bytes)
  read_play_value d
