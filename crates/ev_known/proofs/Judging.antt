-- Lines are judged one after the other, by what stands for the lines before each.
use Rattle.std.proofs.Common.{◌≡◌, ℕ, zero, suc, ◌+◌, ◌<◌, ◌≤◌, arith, Bool, true, false, List, [], ◌∷◌, length, slice_get, Option, Some, None, refl, sym, ap, subst, ◌∙◌, inl, inr}
use Rattle.std.proofs.lemmas.Bool.{cases_lt}
use Rattle.std.specs.Prelude.{◌⊎◌, ◌↔◌}
use Rattle.def_event.specs.declared.event.Event.{Event}
use Rattle.def_event.specs.Uses.{Line, HoldsAt, IsFirstFailing, line_after, lines_before, place_after, place_of}
use Rattle.ev_links.proofs.Lines.{lines_step}

-- what was kept stands for the lines so far, all of which hold
pub record Judging (Holds : List Line → Line → Type 0) (Stands : List Line → Type 0) (at : ℕ) (events : List Event) (i : ℕ) : Type 0 where
  pub stands : Stands (lines_before events i)
  pub here : at ≡ place_of (lines_before events i)
  pub all : (j : ℕ) → j < i → HoldsAt Holds events j

in_list : {A : Type 0} (xs : List A) (i : ℕ) (x : A) → slice_get xs i ≡ Some x → i < length xs
in_list [] i x e = absurd cc
in_list (y ∷ xs) zero x e = omega arith
in_list (y ∷ xs) (suc i) x e = let h = in_list xs i x e in omega arith

same_event : (e f : Event) (o : Option Event) → o ≡ Some e → o ≡ Some f → e ≡ f
same_event e f o g h = let both : Some e ≡ Some f = sym g ∙ h in cc

all_more : (Holds : List Line → Line → Type 0) (events : List Event) (i : ℕ) → ((j : ℕ) → j < i → HoldsAt Holds events j) → HoldsAt Holds events i → (j : ℕ) → j < i + 1 → HoldsAt Holds events j
all_more Holds events i all here j lt = by (cases_lt j i)
  where
    by : (j < i) ⊎ (i ≤ j) → HoldsAt Holds events j
    by (inl less) = all j less
    by (inr le) = let same : i ≡ j = omega arith in subst (HoldsAt Holds events) same here

pub judging_init : (Holds : List Line → Line → Type 0) (Stands : List Line → Type 0) (events : List Event) → Stands [] → Judging Holds Stands 0 events 0
judging_init Holds Stands events h = record { stands = h; here = refl; all = λ j lt. absurd (omega arith) }

-- the line as it was judged is the line after those before it
line_is : (Holds : List Line → Line → Type 0) (Stands : List Line → Type 0) (at next : ℕ) (events : List Event) (i : ℕ) (e : Event) → Judging Holds Stands at events i → next ≡ place_after at e → record { at = next; event = e } ≡ line_after (lines_before events i) e
line_is Holds Stands at next events i e h is =
    ap (λ (n : ℕ). record { at = n; event = e }) (is ∙ ap (λ (n : ℕ). place_after n e) h.here)

-- the answer on a line tells whether it holds, of any lines for which what was kept stands
abbrev pub Judged : (List Line → Line → Type 0) → (List Line → Type 0) → Line → Bool → Type 0
Judged Holds Stands l b = (past : List Line) → Stands past → (b ≡ true) ↔ Holds past l

-- one line was judged, and it holds
holds_here : (Holds : List Line → Line → Type 0) (Stands : List Line → Type 0) (at next : ℕ) (events : List Event) (i : ℕ) (e : Event) (b : Bool) → Judging Holds Stands at events i
    → slice_get events i ≡ Some e → next ≡ place_after at e → Judged Holds Stands (record { at = next; event = e }) b → (b ≡ true) ↔ HoldsAt Holds events i
holds_here Holds Stands at next events i e b h get is judged =
    let past = lines_before events i in
    let both = judged past h.stands in
    let line = line_is Holds Stands at next events i e h is in (
      λ t. λ f g. subst (λ (x : Event). Holds past (line_after past x)) (same_event e f (slice_get events i) get g) (subst (Holds past) line (both.0 t)),
      λ holds. both.1 (subst (Holds past) (sym line) (holds e get)),
    )

pub judging_step : (Holds : List Line → Line → Type 0) (Old New : List Line → Type 0) (at next : ℕ) (events : List Event) (i : ℕ) (e : Event) (b : Bool) → Judging Holds Old at events i
    → slice_get events i ≡ Some e → next ≡ place_after at e → Judged Holds Old (record { at = next; event = e }) b → b ≡ true
    → ((past : List Line) → Old past → New (record { at = next; event = e } ∷ past)) → Judging Holds New next events (i + 1)
judging_step Holds Old New at next events i e b h get is judged yes_it told =
    let past = lines_before events i in
    let line = line_is Holds Old at next events i e h is in
    let suc_is : suc i ≡ i + 1 = omega arith in
    let step : line_after past e ∷ past ≡ lines_before events (i + 1) = sym (lines_step [] events i e get) ∙ ap (lines_before events) suc_is in
    record {
      stands = subst New (ap (λ (l : Line). l ∷ past) line ∙ step) (told past h.stands);
      here = ap (λ (l : Line). l.at) line ∙ ap place_of step;
      all = all_more Holds events i h.all ((holds_here Holds Old at next events i e b h get is judged).0 yes_it);
    }

pub judging_fails : (Holds : List Line → Line → Type 0) (Stands : List Line → Type 0) (at next : ℕ) (events : List Event) (i : ℕ) (e : Event) (b : Bool) → Judging Holds Stands at events i
    → slice_get events i ≡ Some e → next ≡ place_after at e → Judged Holds Stands (record { at = next; event = e }) b → b ≡ false → IsFirstFailing Holds events (Some (i + 1))
judging_fails Holds Stands at next events i e b h get is judged fails =
    (i, refl, λ holds. (let it = (holds_here Holds Stands at next events i e b h get is judged).1 holds in let bad : true ≡ false = sym it ∙ fails in absurd cc), h.all)

pub judging_done : (Holds : List Line → Line → Type 0) (Stands : List Line → Type 0) (at : ℕ) (events : List Event) (i : ℕ) → Judging Holds Stands at events i → length events ≤ i → IsFirstFailing Holds events None
judging_done Holds Stands at events i h le = λ k e get. let lt = in_list events k e get in h.all k (omega arith) e get
