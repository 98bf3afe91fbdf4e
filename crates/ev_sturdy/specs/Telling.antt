-- The text of a sheet: a line that answers each of its lines, and `end`.
use Rattle.std.specs.Prelude.{◌≡◌, ℕ, ◌+◌, List, [], ◌∷◌, ◌++◌, codes, decimal, string_bytes, Some, None, Result, Ok, Err}
use Rattle.std.specs.declared.option.Option.{Option}
use Rattle.ev_script.specs.declared.script.ScriptFault.{ScriptFault}
use Rattle.ev_script.specs.declared.script.ScriptFault.TheVariants.{Rule, Memory}
use Rattle.ev_sturdy.specs.Past.{Deed, Past, kept}
use Rattle.ev_sturdy.specs.Answers.{Outcome, Answers, Stops, answer_text, draws_of, outcome}
use Rattle.ev_sturdy.specs.Sheet.{read}
use Rattle.ev_sturdy.specs.declared.sheet.Line.{Line}
use Rattle.ev_sturdy.specs.declared.sheet.Sheet.{Sheet}
use Rattle.ev_sturdy.specs.declared.telling.Told.{Told}

-- a text, and the two draws that gave one number, where nothing more was answered for that
pub record Ending : Type 0 where
  pub text : List ℕ
  pub repeated : Option (ℕ × ℕ)

abbrev pub with_text : List ℕ → Option (ℕ × ℕ) → Ending
with_text text repeated = record { text = text; repeated = repeated }

abbrev pub written_line : List ℕ → List ℕ
written_line text = text ++ 10 ∷ []

abbrev pub stop_line : ℕ → ℕ → List ℕ
stop_line first second = written_line (codes "stop word " ++ decimal first ++ codes " " ++ decimal second)

abbrev pub at_end : Ending
at_end = record { text = written_line (codes "end"); repeated = None }

abbrev pub stopped : ℕ → ℕ → Ending
stopped first second = record { text = stop_line first second; repeated = Some (first, second) }

abbrev pub behind : List ℕ → Ending → Ending
behind front ending = record { text = front ++ ending.text; repeated = ending.repeated }

-- the line of an outcome, and what follows by what was done
abbrev pub told_by : Outcome → (List Deed → Ending) → Ending
told_by (Answers due) next = behind (written_line (answer_text due.0)) (next due.1)
told_by (Stops first second) next = stopped first second

-- the text of lines, by the count of draws and what was done before them
abbrev pub telling : List ℕ → ℕ → Past → List Line → Ending
telling key draw past [] = at_end
telling key draw past (line ∷ lines) = told_by (outcome key draw line (kept past)) (λ deeds. telling key (draw + draws_of line) (deeds ++ past) lines)

abbrev pub text_of_sheet : Sheet → Ending
text_of_sheet sheet = telling sheet.key 0 [] sheet.lines

-- what was told is what is due
abbrev pub IsTold : Told → Ending → Type 0
IsTold told ending = (string_bytes told.text ≡ ending.text) × (told.repeated ≡ ending.repeated)

-- what is due for bytes: the text of the sheet that they are, or the first rule that they break
abbrev pub due_by : Result Sheet ℕ → Result Ending ℕ
due_by (Ok sheet) = Ok (text_of_sheet sheet)
due_by (Err rule) = Err rule

abbrev pub due : List ℕ → Result Ending ℕ
due bytes = due_by (read bytes)

-- an answer is what is due, unless memory runs out
abbrev pub Tells : Result Told ScriptFault → Result Ending ℕ → Type 0
Tells (Ok told) (Ok ending) = IsTold told ending
Tells (Ok told) (Err rule) = ⊥
Tells (Err (Rule rule)) ending = ending ≡ Err rule
Tells (Err Memory) ending = Unit {0}
