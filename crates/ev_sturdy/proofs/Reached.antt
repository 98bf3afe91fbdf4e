-- What holds of the answers to any lines.
use Rattle.std.proofs.Common.{◌≡◌, ◌+◌, ◌++◌, ℕ, List, [], ◌∷◌, Some, Result, Ok, Err, refl, sym, ap, ◌∙◌, append_assoc}
use Rattle.ev_sturdy.specs.Kept.{Kept, object_shown, used}
use Rattle.ev_sturdy.specs.Past.{Deed, Past, Shown, kept}
use Rattle.ev_sturdy.proofs.Broken.{stays_broken}
use Rattle.ev_sturdy.proofs.Shows.{shows_registered}
use Rattle.ev_sturdy.specs.declared.sturdy.SturdyFault.{SturdyFault}
use Rattle.ev_sturdy.specs.declared.sturdy.SturdyFault.TheVariants as fault
use Rattle.ev_sturdy.specs.declared.sturdy.Used.{Used}
use Rattle.ev_sturdy.specs.declared.sturdy.Used.TheVariants as use_is
use Rattle.ev_sturdy.specs.Answers.{Outcome, Answers, Stops, draws_of, outcome, shown_by, used_answer}
use Rattle.ev_sturdy.specs.Laws.{BrokenForGood, ReferencesAreToRegistered, reached, reached_by}
use Rattle.ev_sturdy.specs.declared.answers.Answer.{Answer}
use Rattle.ev_sturdy.specs.declared.answers.Answer.TheVariants.{Broken, Down, Lost, Nothing, Object, Reference, Unknown}
use Rattle.ev_sturdy.specs.declared.sheet.Line.{Line}

-- ---- more lines put more deeds before those that were done

abbrev IsLonger : Past → ℕ × Past → Type 0
IsLonger past state = (deeds : List Deed) × (state.1 ≡ deeds ++ past)

longer_by : (key : List ℕ) (draw : ℕ) (past : Past) (lines : List Line) (state : ℕ × Past) (o : Outcome)
    → ((deeds : List Deed) → reached key draw (deeds ++ past) lines ≡ Some state → IsLonger (deeds ++ past) state)
    → reached_by o (λ deeds. reached key draw (deeds ++ past) lines) ≡ Some state → IsLonger past state
longer_by key draw past lines state (Answers due) longer e =
    let p = longer due.1 e in (p.0 ++ due.1, p.1 ∙ sym (append_assoc p.0 due.1 past))
longer_by key draw past lines state (Stops first second) longer e = absurd cc

longer : (key : List ℕ) (draw : ℕ) (past : Past) (lines : List Line) (state : ℕ × Past) → reached key draw past lines ≡ Some state → IsLonger past state
longer key draw past [] state e = let is : (draw, past) ≡ state = cc in ([], ap (λ (s : ℕ × Past). s.1) (sym is))
longer key draw past (line ∷ lines) state e =
    longer_by key (draw + draws_of line) past lines state (outcome key draw line (kept past))
    (λ deeds h. longer key (draw + draws_of line) (deeds ++ past) lines state h) e

goes_on_by : (key : List ℕ) (draw : ℕ) (past : Past) (lines more : List Line) (state : ℕ × Past) (o : Outcome)
    → ((deeds : List Deed) → reached key draw (deeds ++ past) lines ≡ Some state → reached key draw (deeds ++ past) (lines ++ more) ≡ reached key state.0 state.1 more)
    → reached_by o (λ deeds. reached key draw (deeds ++ past) lines) ≡ Some state
    → reached_by o (λ deeds. reached key draw (deeds ++ past) (lines ++ more)) ≡ reached key state.0 state.1 more
goes_on_by key draw past lines more state (Answers due) on e = on due.1 e
goes_on_by key draw past lines more state (Stops first second) on e = absurd cc

goes_on : (key : List ℕ) (draw : ℕ) (past : Past) (lines more : List Line) (state : ℕ × Past) → reached key draw past lines ≡ Some state
    → reached key draw past (lines ++ more) ≡ reached key state.0 state.1 more
goes_on key draw past [] more state e =
    let is : (draw, past) ≡ state = cc in ap (λ (s : ℕ × Past). reached key s.0 s.1 more) is
goes_on key draw past (line ∷ lines) more state e =
    goes_on_by key (draw + draws_of line) past lines more state (outcome key draw line (kept past))
    (λ deeds h. goes_on key (draw + draws_of line) (deeds ++ past) lines more state h) e

-- ---- broken for good

abbrev said_of : Outcome → Answer
said_of (Answers due) = due.0
said_of (Stops first second) = Broken

abbrev deeds_of : Outcome → List Deed
deeds_of (Answers due) = due.1
deeds_of (Stops first second) = []

is_broken : (u : Used) → Answers (used_answer u, []) ≡ Answers (Broken, []) → u ≡ use_is.Broken
is_broken (use_is.Object object) e = let h : Object object ≡ Broken = ap said_of e in absurd cc
is_broken use_is.Lost e = let h : Lost ≡ Broken = ap said_of e in absurd cc
is_broken use_is.Broken e = refl
is_broken use_is.Nothing e = let h : Nothing ≡ Broken = ap said_of e in absurd cc

pub broken_for_good : BrokenForGood
broken_for_good key lines more number place before after e f broken =
    let p = longer key before.0 before.1 more after (sym (goes_on key 0 [] lines more before e) ∙ f) in
    let was : used number place (kept before.1) ≡ use_is.Broken = is_broken (used number place (kept before.1)) broken in
    let is : used number place (kept after.1) ≡ use_is.Broken =
    ap (λ (past : Past). used number place (kept past)) p.1 ∙ stays_broken number place p.0 before.1 was in
    ap (λ (u : Used). Answers (used_answer u, [])) is

-- ---- what is shown was registered

object_of : (k : Kept) (r : Result ℕ SturdyFault) (number place : ℕ) (deeds : List Deed) → Answers (shown_by k r) ≡ Answers (Reference number place, deeds)
    → (object : ℕ) × (deeds ≡ Shown object ∷ []) × (r ≡ Ok object)
object_of k (Ok object) number place deeds e = (object, sym (ap deeds_of e), refl)
object_of k (Err (fault.Taken object)) number place deeds e = let h : Unknown ≡ Reference number place = ap said_of e in absurd cc
object_of k (Err (fault.Open other)) number place deeds e = let h : Unknown ≡ Reference number place = ap said_of e in absurd cc
object_of k (Err fault.Down) number place deeds e = let h : Down ≡ Reference number place = ap said_of e in absurd cc
object_of k (Err fault.Unknown) number place deeds e = let h : Unknown ≡ Reference number place = ap said_of e in absurd cc
object_of k (Err fault.Memory) number place deeds e = let h : Unknown ≡ Reference number place = ap said_of e in absurd cc

pub references_are_to_registered : ReferencesAreToRegistered
references_are_to_registered key lines swiss number place deeds before e said =
    let p = object_of (kept before.1) (object_shown swiss (kept before.1)) number place deeds said in
    (p.0, p.1, shows_registered swiss p.0 before.1 p.2)
