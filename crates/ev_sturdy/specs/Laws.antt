-- What holds of the answers to any lines.
use Rattle.std.specs.Prelude.{◌≡◌, ℕ, ◌+◌, List, [], ◌∷◌, ◌++◌, Some, None}
use Rattle.std.specs.declared.option.Option.{Option}
use Rattle.ev_sturdy.specs.Kept.{digest}
use Rattle.ev_sturdy.specs.Past.{Deed, Past, Shown, WasRegistered, kept}
use Rattle.ev_sturdy.specs.Answers.{Outcome, Answers, Stops, draws_of, outcome}
use Rattle.ev_sturdy.specs.declared.answers.Answer.{Answer}
use Rattle.ev_sturdy.specs.declared.answers.Answer.TheVariants.{Broken, Reference}
use Rattle.ev_sturdy.specs.declared.sheet.Line.{Line}
use Rattle.ev_sturdy.specs.declared.sheet.Line.TheVariants.{Show, Use}

abbrev pub reached_by : Outcome → (List Deed → Option (ℕ × Past)) → Option (ℕ × Past)
reached_by (Answers due) next = next due.1
reached_by (Stops first second) next = None

-- the count of draws and what was done once lines are answered, where no draw among them repeats another
abbrev pub reached : List ℕ → ℕ → Past → List Line → Option (ℕ × Past)
reached key draw past [] = Some (draw, past)
reached key draw past (line ∷ lines) = reached_by (outcome key draw line (kept past)) (λ deeds. reached key (draw + draws_of line) (deeds ++ past) lines)

-- the next line would be answered so, and do this
abbrev pub IsAnswered : List ℕ → ℕ × Past → Line → Answer → List Deed → Type 0
IsAnswered key state line said deeds = outcome key state.0 line (kept state.1) ≡ Answers (said, deeds)

-- A reference that answered `broken` behind some lines answers so behind any more of them.
abbrev pub BrokenForGood : Type 0
BrokenForGood = (key : List ℕ) (lines more : List Line) (number place : ℕ) (before after : ℕ × Past)
    → reached key 0 [] lines ≡ Some before → reached key 0 [] (lines ++ more) ≡ Some after
    → IsAnswered key before (Use number place) Broken [] → IsAnswered key after (Use number place) Broken []

-- A number that is shown is answered by a reference only to an object that was registered under its digest.
abbrev pub ReferencesAreToRegistered : Type 0
ReferencesAreToRegistered = (key : List ℕ) (lines : List Line) (swiss number place : ℕ) (deeds : List Deed) (before : ℕ × Past)
    → reached key 0 [] lines ≡ Some before → IsAnswered key before (Show swiss) (Reference number place) deeds
    → (object : ℕ) × (deeds ≡ Shown object ∷ []) × WasRegistered (digest swiss) object before.1
