-- What the code prints is what the run shows.
use Rattle.std.proofs.Common.{◌≡◌, ℕ, ◌<◌, Bool, true, false, List, refl, sym, ap, ◌∙◌, arith}
use Rattle.std.proofs.lemmas.Bool.Decides.{nat_tests}
use Rattle.def_machine.specs.Values.{provider_of}
use Rattle.def_run.specs.Marks.{base, is_spelled_out}
use Rattle.def_hostile.specs.Claims.{Claim, is_claimed, spelled_if, spelled_key}
use Rattle.def_hostile.specs.ShownMarks.{gift_by, shown_event, shown_gift}
use Rattle.ev_claims.specs.Telling.{printed_event, told_if, told_key}
use Rattle.ev_claims.proofs.Showing.{base_prints}
use Rattle.law_named_lines.specs.Statements.{PrintedLinesAreShown}
use Rattle.law_named_lines.proofs.Alike.{event_alike}
use Rattle.law_named_lines.proofs.Rekeyed.{event_is}

not_out : (i : ℕ) → provider_of i < 32 → is_spelled_out i ≡ false
unfolding is_spelled_out
not_out i h = grind (arith, nat_tests)

plain_prints : (draws : List ℕ) (h i : ℕ) → provider_of i < 32 → shown_gift draws h (base i) ≡ shown_gift draws h i
unfolding shown_gift gift_by
plain_prints draws h i k = base_prints draws h i ∙ sym (ap (gift_by draws h i) (not_out i k))

by_claim : (draws : List ℕ) (cs : List Claim) (h i : ℕ) (b : Bool) → provider_of i < 32 → shown_gift draws h (told_if i b) ≡ shown_gift draws h (spelled_if cs i b)
unfolding told_if spelled_if
by_claim draws cs h i true k = refl
by_claim draws cs h i false k = plain_prints draws h i k

pub printed_lines_are_shown : PrintedLinesAreShown
unfolding printed_event told_key spelled_key
printed_lines_are_shown draws cs e k =
    event_alike draws draws (told_key cs) (spelled_key cs) (λ h i. provider_of i < 32) (λ h i j. by_claim draws cs h i (is_claimed cs h (base i)) j) e k ∙ ap (shown_event draws) (sym (event_is cs e))
