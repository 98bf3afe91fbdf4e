-- The earlier draw that gave what the next one gives, if there is one.
use Rattle.std.proofs.Common.{◌≡◌, ◌<◌, ◌≤◌, ℕ, List, Option, Some, None, refl, sym, ap, subst, ◌∙◌, ⊎_elim, arith}
use Rattle.std.proofs.lemmas.Bool.{cases_lt}
use Rattle.ev_intro.specs.Word.{Drawn, IsNew, IsDrawFault, word, draws}
use Rattle.ev_intro.specs.declared.words.DrawFault.TheVariants as fault
use Rattle.ev_intro.proofs.Draws.{draws_found, draws_none, repeats}
use Rattle.ev_sturdy.specs.Kept.{Kept, owner}
use Rattle.ev_sturdy.specs.Answers.{Does, Gives, earlier, registered, registering}
use Rattle.ev_sturdy.specs.declared.answers.Answer.{Answer}
use Rattle.ev_sturdy.specs.declared.answers.Reply.TheVariants.{Says, Repeats}

none_by : (drawn : Drawn) (o : Option ℕ) → earlier drawn.key drawn.count ≡ o → IsNew drawn → o ≡ None
none_by drawn None e new = refl
none_by drawn (Some i) e new =
    let p = draws_found drawn.key drawn.count (word drawn.key drawn.count) i e in absurd (new i p.0 (sym p.1))

pub earlier_none : (drawn : Drawn) → IsNew drawn → earlier drawn.key drawn.count ≡ None
earlier_none drawn new = none_by drawn (earlier drawn.key drawn.count) refl new

-- two first ones are one
same_first : (P : ℕ → Type 0) (i m : ℕ) → P i → P m → ((k : ℕ) → k < i → P k → ⊥) → ((k : ℕ) → k < m → P k → ⊥) → m ≡ i
same_first P i m at_i at_m first_i first_m =
    ⊎_elim (λ (lt : m < i). absurd (first_i m lt at_m))
    (λ (le : i ≤ m). ⊎_elim (λ (lt : i < m). absurd (first_m i lt at_i)) (λ (more : m ≤ i). omega arith) (cases_lt i m))
    (cases_lt m i)

some_by : (drawn : Drawn) (i j : ℕ) (o : Option ℕ) → earlier drawn.key drawn.count ≡ o → IsDrawFault drawn (fault.WordRepeated i j) → o ≡ Some i
some_by drawn i j None e why =
    absurd (draws_none drawn.key drawn.count (word drawn.key drawn.count) e i (subst (λ (n : ℕ). i < n) why.0 why.1) (why.2 ∙ ap (word drawn.key) why.0))
some_by drawn i j (Some m) e why =
    let key = drawn.key in
    let n = drawn.count in
    let p = repeats key n (word key n) m (draws key n) refl refl e in
    ap Some (same_first (λ (k : ℕ). word key k ≡ word key n) i m (why.2 ∙ ap (word key) why.0) p.1
    (λ k lt is. why.3 k lt (is ∙ sym (ap (word key) why.0))) p.2)

pub earlier_some : (drawn : Drawn) (i j : ℕ) → IsDrawFault drawn (fault.WordRepeated i j) → earlier drawn.key drawn.count ≡ Some i
earlier_some drawn i j why = some_by drawn i j (earlier drawn.key drawn.count) refl why

-- ---- what comes of a line that registers

pub registers_so : (key : List ℕ) (draw object : ℕ) (kept new : Kept) (said : Answer) (swiss : ℕ) (o : Option ℕ) → o ≡ None → swiss ≡ word key draw
    → Does (registered object swiss (owner swiss kept)) said kept new → Gives (registering key draw object kept o) (Says said) kept new
registers_so key draw object kept new said swiss o none is does =
    subst (λ (p : Option ℕ). Gives (registering key draw object kept p) (Says said) kept new) (sym none)
    (subst (λ (w : ℕ). Does (registered object w (owner w kept)) said kept new) is does)

pub stops_so : (key : List ℕ) (draw object : ℕ) (kept : Kept) (first second : ℕ) (o : Option ℕ) → o ≡ Some first → second ≡ draw
    → Gives (registering key draw object kept o) (Repeats first second) kept kept
stops_so key draw object kept first second o some is =
    subst (λ (p : Option ℕ). Gives (registering key draw object kept p) (Repeats first second) kept kept) (sym some) (refl, is)
