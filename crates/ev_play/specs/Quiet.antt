-- Plays without hostile vats, beside scripts.
use Rattle.std.specs.Prelude.{◌≡◌, ℕ, Bool, false, List, [], map, codes, Some, None, Result, Ok, Err, All}
use Rattle.std.specs.declared.option.Option.{Option}
use Rattle.std.specs.Str.{bytes_eq}
use Rattle.serde_json.specs.Data.{Data}
use Rattle.serde_json.specs.Find.{get, as_str}
use Rattle.ev_text.specs.Lines.{split}
use Rattle.ev_script.specs.Json.{json_of, list_at}
use Rattle.ev_script.specs.Script.{read}
use Rattle.ev_script.specs.declared.script.Script.{Script}
use Rattle.ev_play.specs.Play.{read_play}
use Rattle.ev_play.specs.declared.play.Doing.TheVariants.{Does}
use Rattle.ev_play.specs.declared.play.Play.{Play}

-- ---- bytes that name no hostile vat and inject nothing

abbrev pub begins_inject : Option (List ℕ × List ℕ) → Bool
begins_inject None = false
begins_inject (Some words) = bytes_eq words.0 (codes "inject")

abbrev pub is_inject : Option (List ℕ) → Bool
is_inject None = false
is_inject (Some text) = begins_inject (split text)

-- a value that is a text whose first word is `inject`
abbrev pub injects : Data → Bool
injects d = is_inject (as_str d)

-- no member `hostile`, and no such text in the schedule
abbrev pub IsQuietValue : Data → Type 0
IsQuietValue d = (get (codes "hostile") d ≡ None) × ((values : List Data) → list_at (codes "schedule") d ≡ Some values → All (λ v. injects v ≡ false) values)

abbrev pub IsQuiet : List ℕ → Type 0
IsQuiet bytes = (d : Data) → json_of bytes ≡ Some d → IsQuietValue d

-- ---- the play of a script: no vat is hostile, and its schedule is done

abbrev pub play_of : Script → Play
play_of script = record { script = script; hostile = []; doings = map Does script.schedule }

-- what is made of what was read, or the rule that fails
abbrev pub given : {A B : Type 0} → (A → B) → Result A ℕ → Result B ℕ
given f (Ok x) = Ok (f x)
given f (Err rule) = Err rule

-- Law: such bytes are read as a script is: the play is that of the script, or the same rule is the first that fails.
abbrev pub QuietPlaysAreScripts : Type 0
QuietPlaysAreScripts = (bytes : List ℕ) → IsQuiet bytes → read_play bytes ≡ given play_of (read bytes)

-- Law: a play that is read in which no vat is hostile is that of its script.
abbrev pub HonestPlaysAreScripts : Type 0
HonestPlaysAreScripts = (bytes : List ℕ) (play : Play) → read_play bytes ≡ Ok play → play.hostile ≡ [] → play ≡ play_of play.script
