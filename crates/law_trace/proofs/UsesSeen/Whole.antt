-- The judgement on the uses of a history, where its events have other names.
use Rattle.std.proofs.Common.{◌≡◌, ◌↔◌, ℕ, zero, suc, List, [], ◌∷◌, map, take, slice_get, Option, Some, None, refl, sym, ap, subst, ◌∙◌}
use Rattle.std.proofs.lemmas.List.{take-map}
use Rattle.std.proofs.lemmas.Option.{slice_get-map}
use Rattle.def_event.specs.declared.event.Event.{Event}
use Rattle.def_event.specs.declared.event.Event.TheVariants.{Frame}
use Rattle.def_event.specs.Uses.{Line, place_after, place_of, line_after, and_lines, lines_before, names_used, HoldsAt, IsFirstFailing, LineHolds, UsesKnown, BackKnown, TakesSent, CarriesSent}
use Rattle.law_trace.specs.UsesSeen.Alike.{UsesAreSame, HoldAlike}
use Rattle.law_trace.proofs.UsesSeen.Same.{alike, both, every, never, some_of, some_to, through, turned}
use Rattle.law_trace.proofs.UsesSeen.Renaming.{Renaming, IsRenaming, AreLines, none, one, silent, AreEvents, no_event, one_event, silent_event, line, event}
use Rattle.law_trace.proofs.UsesSeen.Telling.{place_same}
use Rattle.law_trace.proofs.UsesSeen.Knowing.{uses_same}
use Rattle.law_trace.proofs.UsesSeen.Calls.{backs_same}
use Rattle.law_trace.proofs.UsesSeen.Messages.{takes_same, carries_same}

-- ---- what is said of each line, said one after the other

abbrev AllFrom : (List Line → Line → Type 0) → List Line → List Event → Type 0
AllFrom Holds past [] = Unit {0}
AllFrom Holds past (e ∷ es) = Holds past (line_after past e) × AllFrom Holds (line_after past e ∷ past) es

module _ (Holds : List Line → Line → Type 0) where
  -- of each line by its number
  abbrev EachFrom : List Line → List Event → Type 0
  EachFrom past es = (k : ℕ) (e : Event) → slice_get es k ≡ Some e → Holds (and_lines past (take k es)) (line_after (and_lines past (take k es)) e)

  from_each : (past : List Line) (es : List Event) → EachFrom past es → AllFrom Holds past es
  from_each past [] h = tt
  from_each past (e ∷ es) h = (h zero e refl, from_each (line_after past e ∷ past) es (λ k f i. h (suc k) f i))

  to_each : (past : List Line) (es : List Event) → AllFrom Holds past es → EachFrom past es
  to_each past [] h k e i = absurd cc
  to_each past (x ∷ es) h zero e i = let same : x ≡ e = cc in subst (λ (y : Event). Holds past (line_after past y)) same h.0
  to_each past (x ∷ es) h (suc k) e i = to_each (line_after past x ∷ past) es h.1 k e i

  each_all : (es : List Event) → ((k : ℕ) → HoldsAt Holds es k) ↔ AllFrom Holds [] es
  each_all es = (from_each [] es, to_each [] es)

module _ (r : Renaming) (good : IsRenaming r) where
  -- ---- lines

  stands_same : (past later : List Line) → AreLines r past later → place_of later ≡ r.place (place_of past)
  stands_same past later none = sym good.no_place
  stands_same past later (one p q l is) = refl
  stands_same past later (silent p q bytes is) = stands_same p q is

  after_same : (past later : List Line) → AreLines r past later → (e : Event) → line_after later (event r e) ≡ line r (line_after past e)
  after_same past later is e = ap (λ (at : ℕ). record { at = at; event = event r e }) (ap (λ (at : ℕ). place_after at (event r e)) (stands_same past later is) ∙ place_same r good (place_of past) e)

  next_are : (past later : List Line) → AreLines r past later → (e : Event) → AreLines r (line_after past e ∷ past) (line_after later (event r e) ∷ later)
  next_are past later is e = subst (λ (l : Line). AreLines r (line_after past e ∷ past) (l ∷ later)) (sym (after_same past later is e)) (one past later (line_after past e) is)

  quiet_are : (past later : List Line) → AreLines r past later → (bytes : List ℕ) → AreLines r (line_after past (Frame bytes) ∷ past) later
  unfolding place_after
  quiet_are past later is bytes = silent past later bytes is

  lines_are : (past later : List Line) → AreLines r past later → (es fs : List Event) → AreEvents r es fs → AreLines r (and_lines past es) (and_lines later fs)
  lines_are past later is es fs no_event = is
  lines_are past later is es fs (one_event xs ys e a) = lines_are (line_after past e ∷ past) (line_after later (event r e) ∷ later) (next_are past later is e) xs ys a
  lines_are past later is es fs (silent_event xs ys bytes a) = lines_are (line_after past (Frame bytes) ∷ past) later (quiet_are past later is bytes) xs ys a

  pub all_are : (es : List Event) → AreEvents r es (map (event r) es)
  all_are [] = no_event
  all_are (e ∷ es) = one_event es (map (event r) es) e (all_are es)

  before_are : (es : List Event) (k : ℕ) → AreLines r (lines_before es k) (lines_before (map (event r) es) k)
  before_are es k = subst (λ (fs : List Event). AreLines r (lines_before es k) (and_lines [] fs)) (sym (take-map (event r) k es)) (lines_are [] [] none (take k es) (map (event r) (take k es)) (all_are (take k es)))

  -- ---- what is said of each line

  module _ (Holds Stands : List Line → Line → Type 0) (same : (past later : List Line) → AreLines r past later → (l : Line) → Stands later (line r l) ↔ Holds past l) where
    line_same : (past later : List Line) → AreLines r past later → (e : Event) → Stands later (line_after later (event r e)) ↔ Holds past (line_after past e)
    line_same past later is e = through (alike (Stands later) (line_after later (event r e)) (line r (line_after past e)) (after_same past later is e)) (same past later is (line_after past e))

    at_same : (es : List Event) (k : ℕ) (e : Event)
        → Stands (lines_before (map (event r) es) k) (line_after (lines_before (map (event r) es) k) (event r e)) ↔ Holds (lines_before es k) (line_after (lines_before es k) e)
    at_same es k e = line_same (lines_before es k) (lines_before (map (event r) es) k) (before_are es k) e

    holds_same : (es : List Event) (k : ℕ) → HoldsAt Holds es k ↔ HoldsAt Stands (map (event r) es) k
    holds_same es k = (
      λ all e is.
          let m = some_of (event r) (slice_get es k) (slice_get (map (event r) es) k) e (slice_get-map (event r) es k) is in
          subst (λ (x : Event). Stands (lines_before (map (event r) es) k) (line_after (lines_before (map (event r) es) k) x)) m.2 ((at_same es k m.0).1 (all m.0 m.1)),
      λ all e is. (at_same es k e).0 (all (event r e) (some_to (event r) (slice_get es k) (slice_get (map (event r) es) k) e (slice_get-map (event r) es k) is)),
    )

    failing_same : (es : List Event) (answer : Option ℕ) → IsFirstFailing Holds es answer ↔ IsFirstFailing Stands (map (event r) es) answer
    failing_same es None = every (HoldsAt Holds es) (HoldsAt Stands (map (event r) es)) (holds_same es)
    failing_same es (Some n) = (
      λ x. (x.0, x.1, (never (holds_same es x.0)).0 x.2, λ j l. (holds_same es j).0 (x.3 j l)),
      λ x. (x.0, x.1, (never (holds_same es x.0)).1 x.2, λ j l. (holds_same es j).1 (x.3 j l)),
    )

    -- also without lines that show frames, of which it holds
    module _ (quiet : (past : List Line) (bytes : List ℕ) → Holds past (line_after past (Frame bytes))) where
      all_same : (past later : List Line) → AreLines r past later → (es fs : List Event) → AreEvents r es fs → AllFrom Holds past es ↔ AllFrom Stands later fs
      all_same past later is es fs no_event = (λ x. x, λ x. x)
      all_same past later is es fs (one_event xs ys e a) =
          both (turned (line_same past later is e)) (all_same (line_after past e ∷ past) (line_after later (event r e) ∷ later) (next_are past later is e) xs ys a)
      all_same past later is es fs (silent_event xs ys bytes a) =
          let rest = all_same (line_after past (Frame bytes) ∷ past) later (quiet_are past later is bytes) xs ys a in
          (λ x. rest.0 x.1, λ x. (quiet past bytes, rest.1 x))

      each_same : (es fs : List Event) → AreEvents r es fs → ((k : ℕ) → HoldsAt Holds es k) ↔ ((k : ℕ) → HoldsAt Stands fs k)
      each_same es fs a =
          through (each_all Holds es) (through (all_same [] [] none es fs a) (turned (each_all Stands fs)))

  -- ---- the four points

  four_same : (whole told : List Event) → AreEvents r whole told → (past later : List Line) → AreLines r past later → (l : Line) → LineHolds told later (line r l) ↔ LineHolds whole past l
  four_same whole told are past later is l =
      let known = uses_same r good past later is l in
      let back = backs_same r good past later is l in
      let taken = takes_same r good whole told are past later is l.event in
      let carried = carries_same r good past later is l.event in
      (λ x. (known.0 x.0, back.0 x.1, taken.0 x.2, carried.0 x.3), λ x. (known.1 x.0, back.1 x.1, taken.1 x.2, carried.1 x.3))

  pub uses_are_same : (es : List Event) → UsesAreSame es (map (event r) es)
  uses_are_same es =
      let told = map (event r) es in
      let are = all_are es in
      record {
        known = holds_same UsesKnown UsesKnown (uses_same r good) es;
        given_back = holds_same BackKnown BackKnown (backs_same r good) es;
        taken = holds_same (λ past l. TakesSent es past l.event) (λ past l. TakesSent told past l.event) (λ past later is l. takes_same r good es told are past later is l.event) es;
        carried = holds_same (λ past l. CarriesSent past l.event) (λ past l. CarriesSent past l.event) (λ past later is l. carries_same r good past later is l.event) es;
        judged = failing_same (LineHolds es) (LineHolds told) (four_same es told are) es;
      }

  -- ---- without frames

  quiet_uses : (past : List Line) (bytes : List ℕ) → UsesKnown past (line_after past (Frame bytes))
  unfolding names_used
  quiet_uses past bytes n i = absurd i

  quiet_backs : (past : List Line) (bytes : List ℕ) → BackKnown past (line_after past (Frame bytes))
  quiet_backs past bytes a x n e named = absurd cc

  quiet_takes : (whole : List Event) (past : List Line) (bytes : List ℕ) → TakesSent whole past (Frame bytes)
  unfolding TakesSent
  quiet_takes whole past bytes = tt

  quiet_carries : (past : List Line) (bytes : List ℕ) → CarriesSent past (Frame bytes)
  unfolding CarriesSent
  quiet_carries past bytes = tt

  pub hold_alike : (es fs : List Event) → AreEvents r es fs → HoldAlike es fs
  hold_alike es fs are = record {
    known = each_same UsesKnown UsesKnown (uses_same r good) quiet_uses es fs are;
    given_back = each_same BackKnown BackKnown (backs_same r good) quiet_backs es fs are;
    taken = each_same (λ past l. TakesSent es past l.event) (λ past l. TakesSent fs past l.event) (λ past later is l. takes_same r good es fs are past later is l.event) (quiet_takes es) es fs are;
    carried = each_same (λ past l. CarriesSent past l.event) (λ past l. CarriesSent past l.event) (λ past later is l. carries_same r good past later is l.event) quiet_carries es fs are;
    judged = each_same (LineHolds es) (LineHolds fs) (four_same es fs are) (λ past bytes. (quiet_uses past bytes, quiet_backs past bytes, quiet_takes es past bytes, quiet_carries past bytes)) es fs are;
  }
