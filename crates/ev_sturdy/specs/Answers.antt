-- What is answered to a line, by what is known of the lines before it, and what the line did. The newest deed stands first.
use Rattle.std.specs.Prelude.{◌≡◌, ℕ, ◌+◌, nat_eq, if◌then◌else◌, List, [], ◌∷◌, ◌++◌, codes, decimal, Some, None, Result, Ok, Err}
use Rattle.std.specs.declared.option.Option.{Option}
use Rattle.std.specs.Int.{w128, to_le_bytes}
use Rattle.std.specs.Map.{lookup}
use Rattle.hex.specs.Hex.{encode_lower}
use Rattle.ev_intro.specs.Word.{word, draws}
use Rattle.ev_sturdy.specs.Kept.{Kept, generation, is_over, may_notice, object_shown, owner, rank, used}
use Rattle.ev_sturdy.specs.Past.{Deed, Past, after}
use Rattle.ev_sturdy.specs.Past as deed
use Rattle.ev_sturdy.specs.declared.sturdy.Side.{Side}
use Rattle.ev_sturdy.specs.declared.sturdy.Side.TheVariants.{Host, Guest}
use Rattle.ev_sturdy.specs.declared.sturdy.SturdyFault.{SturdyFault}
use Rattle.ev_sturdy.specs.declared.sturdy.SturdyFault.TheVariants as fault
use Rattle.ev_sturdy.specs.declared.sturdy.Used.{Used}
use Rattle.ev_sturdy.specs.declared.sturdy.Used.TheVariants as use_is
use Rattle.ev_sturdy.specs.declared.answers.Answer.{Answer}
use Rattle.ev_sturdy.specs.declared.answers.Answer.TheVariants.{Swiss, Taken, Connected, Open, Cut, Down, Noticed, Whole, Reference, Unknown, Object, Lost, Broken, Nothing}
use Rattle.ev_sturdy.specs.declared.answers.Reply.{Reply}
use Rattle.ev_sturdy.specs.declared.answers.Reply.TheVariants.{Says, Repeats}
use Rattle.ev_sturdy.specs.declared.sheet.Line.{Line}
use Rattle.ev_sturdy.specs.declared.sheet.Line.TheVariants as line

-- ---- how an answer is written

abbrev pub side_text : Side → List ℕ
side_text Host = codes "host"
side_text Guest = codes "guest"

-- the 16 bytes of a number, the lowest first, each as two digits
unfoldable pub swiss_digits : ℕ → List ℕ
swiss_digits swiss = encode_lower (to_le_bytes w128 swiss)

abbrev pub answer_text : Answer → List ℕ
answer_text (Swiss swiss) = codes "swiss " ++ swiss_digits swiss
answer_text (Taken object) = codes "refused taken " ++ decimal object
answer_text (Connected number) = codes "connected " ++ decimal number
answer_text (Open number) = codes "refused open " ++ decimal number
answer_text Cut = codes "cut"
answer_text Down = codes "refused down"
answer_text (Noticed side) = codes "noticed " ++ side_text side
answer_text Whole = codes "refused whole"
answer_text (Reference number place) = codes "ref " ++ decimal number ++ codes " " ++ decimal place
answer_text Unknown = codes "refused unknown"
answer_text (Object object) = codes "object " ++ decimal object
answer_text Lost = codes "lost"
answer_text Broken = codes "broken"
answer_text Nothing = codes "refused nothing"

-- ---- an answer, and what was done: a refusal does nothing

abbrev pub Done : Type 0
Done = Answer × List Deed

-- a number that was drawn for an object, by the object that has its digest
abbrev pub registered : ℕ → ℕ → Option ℕ → Done
registered object swiss (Some earlier) = (Taken earlier, [])
registered object swiss None = (Swiss swiss, deed.Registered swiss object ∷ [])

-- a connection is made where there was none, or both sides noticed that the last is cut
abbrev pub connected : Kept → Done
connected kept = if is_over kept then (Connected (generation kept + 1), deed.Connected ∷ []) else (Open (generation kept), [])

abbrev pub cutting : Kept → Done
cutting kept = if kept.is_cut then (Down, []) else (Cut, deed.Cut ∷ [])

abbrev pub noticed : Side → Kept → Done
noticed side kept = if may_notice side kept then (Noticed side, deed.Noticed side ∷ []) else (Whole, [])

-- a reference to the object that a number shows
abbrev pub shown_by : Kept → Result ℕ SturdyFault → Done
shown_by kept (Ok object) = (Reference (generation kept) (rank object kept), deed.Shown object ∷ [])
shown_by kept (Err fault.Down) = (Down, [])
shown_by kept (Err _) = (Unknown, [])

abbrev pub shown : ℕ → Kept → Done
shown swiss kept = shown_by kept (object_shown swiss kept)

abbrev pub used_answer : Used → Answer
used_answer (use_is.Object object) = Object object
used_answer use_is.Lost = Lost
used_answer use_is.Broken = Broken
used_answer use_is.Nothing = Nothing

-- ---- a line

-- An answer and what was done, or the two draws that gave one number, where nothing more is answered.
pub data Outcome : Type 0 where
  Answers : Answer × List Deed → Outcome
  Stops : ℕ → ℕ → Outcome

-- the earlier draw that gave what this one gives
abbrev pub earlier : List ℕ → ℕ → Option ℕ
earlier key draw = lookup (nat_eq (word key draw)) (draws key draw)

abbrev pub registering : List ℕ → ℕ → ℕ → Kept → Option ℕ → Outcome
registering key draw object kept (Some first) = Stops first draw
registering key draw object kept None = Answers (registered object (word key draw) (owner (word key draw) kept))

-- what comes of a line, by the count of draws before it and what is known of what was done
abbrev pub outcome : List ℕ → ℕ → Line → Kept → Outcome
outcome key draw (line.Register object) kept = registering key draw object kept (earlier key draw)
outcome key draw line.Connect kept = Answers (connected kept)
outcome key draw (line.Show swiss) kept = Answers (shown swiss kept)
outcome key draw (line.Use generation place) kept = Answers (used_answer (used generation place kept), [])
outcome key draw line.Cut kept = Answers (cutting kept)
outcome key draw (line.Notice side) kept = Answers (noticed side kept)

-- each line that registers draws one number
abbrev pub draws_of : Line → ℕ
draws_of (line.Register object) = 1
draws_of _ = 0

-- what deeds make of what is kept
abbrev pub after_all : List Deed → Kept → Kept
after_all [] kept = kept
after_all (deed ∷ deeds) kept = after deed (after_all deeds kept)

-- what was said and done
abbrev pub Does : Answer × List Deed → Answer → Kept → Kept → Type 0
Does due said old new = (said ≡ due.0) × (new ≡ after_all due.1 old)

abbrev pub Gives : Outcome → Reply → Kept → Kept → Type 0
Gives (Answers due) (Says said) old new = Does due said old new
Gives (Answers due) (Repeats first second) old new = ⊥
Gives (Stops first second) (Says said) old new = ⊥
Gives (Stops first second) (Repeats one other) old new = (one ≡ first) × (other ≡ second)

abbrev pub IfSays : Reply → Type 0 → Type 0
IfSays (Says said) P = P
IfSays (Repeats first second) P = Unit {0}
