-- A loop over lines that tells of each.
use Rattle.std.proofs.Common.{◌≡◌, ◌<◌, ◌≤◌, ◌+◌, ◌++◌, ℕ, List, [], ◌∷◌, length, get_or, drop, Some, None, refl, sym, ap, ◌∙◌, append_assoc}
use Rattle.std.proofs.lemmas.List.{get_or_default}
use Rattle.ev_script.proofs.EachLemmas.{next_item, nothing_behind}
use Rattle.ev_sturdy.specs.Kept.{Kept, opened}
use Rattle.ev_sturdy.specs.Past.{Deed, Past, after, kept}
use Rattle.ev_sturdy.proofs.Past.{step}
use Rattle.ev_sturdy.specs.Answers.{Outcome, Answers, Stops, Gives, after_all, answer_text, draws_of, outcome}
use Rattle.ev_sturdy.specs.Telling.{Ending, at_end, behind, stop_line, stopped, telling, told_by, with_text, written_line}
use Rattle.ev_sturdy.specs.declared.answers.Answer.{Answer}
use Rattle.ev_sturdy.specs.declared.answers.Reply.TheVariants.{Says, Repeats}
use Rattle.ev_sturdy.specs.declared.sheet.Line.{Line}

-- what deeds make of what is kept is what is kept of them and the past
pub kept_all : (deeds : List Deed) (past : Past) → after_all deeds (kept past) ≡ kept (deeds ++ past)
kept_all [] past = refl
kept_all (deed ∷ deeds) past = ap (after deed) (kept_all deeds past) ∙ sym (step deed (deeds ++ past))

-- what was told so far, and what the other lines tell
abbrev pub IsSoFar : List ℕ → List Line → Kept → ℕ → List ℕ → List Line → Type 0
IsSoFar key lines now draw text rest = (past : Past) × (now ≡ kept past) × (behind text (telling key draw past rest) ≡ telling key 0 [] lines)

regrouped : (text more : List ℕ) (ending : Ending) → behind (text ++ more) ending ≡ behind text (behind more ending)
regrouped text more ending = ap (λ (t : List ℕ). with_text t ending.repeated) (append_assoc text more ending.text)

says_by : (key : List ℕ) (draw : ℕ) (line : Line) (rest : List Line) (past : Past) (now new : Kept) (text : List ℕ) (said : Answer) (whole : Ending) (o : Outcome)
    → now ≡ kept past → outcome key draw line (kept past) ≡ o → Gives o (Says said) now new → behind text (telling key draw past (line ∷ rest)) ≡ whole
    → (next : Past) × (new ≡ kept next) × (behind (text ++ written_line (answer_text said)) (telling key (draw + draws_of line) next rest) ≡ whole)
says_by key draw line rest past now new text said whole (Answers due) is e gives so_far =
    let front = written_line (answer_text said) in
    let next = telling key (draw + draws_of line) (due.1 ++ past) rest in (
      due.1 ++ past,
      gives.1 ∙ ap (after_all due.1) is ∙ kept_all due.1 past,
      regrouped text front next
          ∙ ap (λ (a : Answer). behind text (behind (written_line (answer_text a)) next)) gives.0
          ∙ ap (λ (o : Outcome). behind text (told_by o (λ deeds. telling key (draw + draws_of line) (deeds ++ past) rest))) (sym e)
          ∙ so_far,
    )
says_by key draw line rest past now new text said whole (Stops first second) is e gives so_far = absurd gives

repeats_by : (key : List ℕ) (draw : ℕ) (line : Line) (rest : List Line) (past : Past) (now new : Kept) (text : List ℕ) (one other : ℕ) (whole : Ending) (o : Outcome)
    → outcome key draw line (kept past) ≡ o → Gives o (Repeats one other) now new → behind text (telling key draw past (line ∷ rest)) ≡ whole
    → behind text (stopped one other) ≡ whole
repeats_by key draw line rest past now new text one other whole (Answers due) e gives so_far = absurd gives
repeats_by key draw line rest past now new text one other whole (Stops first second) e gives so_far =
    ap (λ (n : ℕ). behind text (stopped n other)) gives.0 ∙ ap (λ (n : ℕ). behind text (stopped first n)) gives.1
    ∙ ap (λ (o : Outcome). behind text (told_by o (λ deeds. telling key (draw + draws_of line) (deeds ++ past) rest))) (sym e)
    ∙ so_far

next_line : (lines : List Line) (i : ℕ) (d : Line) → i < length lines → drop i lines ≡ get_or lines i d ∷ drop (i + 1) lines
next_line lines i d lt = next_item (get_or lines i d) lines i lt (get_or_default lines i d (get_or lines i d) lt)

there_is : (key : List ℕ) (draw : ℕ) (past : Past) (lines : List Line) (i : ℕ) (d : Line) (text : List ℕ) (whole : Ending) → i < length lines
    → behind text (telling key draw past (drop i lines)) ≡ whole → behind text (telling key draw past (get_or lines i d ∷ drop (i + 1) lines)) ≡ whole
there_is key draw past lines i d text whole lt so_far =
    ap (λ (ls : List Line). behind text (telling key draw past ls)) (sym (next_line lines i d lt)) ∙ so_far

pub says : (key k : List ℕ) (lines : List Line) (i : ℕ) (d : Line) (now new : Kept) (draw next : ℕ) (text more : List ℕ) (said : Answer) → i < length lines
    → k ≡ key → IsSoFar key lines now draw text (drop i lines) → Gives (outcome k draw (get_or lines i d) now) (Says said) now new
    → next ≡ draw + draws_of (get_or lines i d) → more ≡ text ++ written_line (answer_text said) → IsSoFar key lines new next more (drop (i + 1) lines)
says key k lines i d now new draw next text more said lt same so_far gives drawn is =
    let line = get_or lines i d in
    let past = so_far.0 in
    let p =
    says_by key draw line (drop (i + 1) lines) past now new text said (telling key 0 [] lines) (outcome k draw line now) so_far.1
    (ap (λ (x : List ℕ). outcome x draw line (kept past)) (sym same) ∙ ap (outcome k draw line) (sym so_far.1)) gives
    (there_is key draw past lines i d text (telling key 0 [] lines) lt so_far.2) in (
      p.0,
      p.1,
      ap (λ (t : List ℕ). behind t (telling key next p.0 (drop (i + 1) lines))) is
          ∙ ap (λ (n : ℕ). behind (text ++ written_line (answer_text said)) (telling key n p.0 (drop (i + 1) lines))) drawn ∙ p.2,
    )

pub repeats : (key k : List ℕ) (lines : List Line) (i : ℕ) (d : Line) (now new : Kept) (draw : ℕ) (text more : List ℕ) (one other : ℕ) → i < length lines
    → k ≡ key → IsSoFar key lines now draw text (drop i lines) → Gives (outcome k draw (get_or lines i d) now) (Repeats one other) now new
    → more ≡ text ++ stop_line one other → with_text more (Some (one, other)) ≡ telling key 0 [] lines
repeats key k lines i d now new draw text more one other lt same so_far gives is =
    let line = get_or lines i d in
    let past = so_far.0 in
    ap (λ (t : List ℕ). with_text t (Some (one, other))) is
    ∙ repeats_by key draw line (drop (i + 1) lines) past now new text one other (telling key 0 [] lines) (outcome k draw line now)
    (ap (λ (x : List ℕ). outcome x draw line (kept past)) (sym same) ∙ ap (outcome k draw line) (sym so_far.1)) gives
    (there_is key draw past lines i d text (telling key 0 [] lines) lt so_far.2)

pub ends : (key : List ℕ) (lines : List Line) (i : ℕ) (now : Kept) (draw : ℕ) (text more : List ℕ) → length lines ≤ i
    → IsSoFar key lines now draw text (drop i lines) → more ≡ text ++ at_end.text → with_text more None ≡ telling key 0 [] lines
ends key lines i now draw text more le so_far is =
    ap (λ (t : List ℕ). with_text t None) is
    ∙ ap (λ (ls : List Line). behind text (telling key draw so_far.0 ls)) (sym (nothing_behind lines i le)) ∙ so_far.2

pub begins : (key : List ℕ) (lines : List Line) (now : Kept) (draw : ℕ) (text : List ℕ) → text ≡ [] → now ≡ opened → draw ≡ 0 → IsSoFar key lines now draw text lines
begins key lines now draw text empty at_first undrawn = (
  [],
  at_first,
  ap (λ (t : List ℕ). behind t (telling key draw [] lines)) empty ∙ ap (λ (n : ℕ). behind [] (telling key n [] lines)) undrawn,
)
