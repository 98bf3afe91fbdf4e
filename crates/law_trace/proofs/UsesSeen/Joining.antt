-- Histories whose uses are judged alike, the one by way of the other.
use Rattle.std.proofs.Common.{List, None}
use Rattle.def_event.specs.declared.event.Event.{Event}
use Rattle.def_event.specs.Uses.{HoldsAt, UsesKnown, BackKnown, TakesSent, CarriesSent}
use Rattle.law_trace.specs.UsesSeen.Alike.{UsesAreSame, HoldAlike}
use Rattle.law_trace.proofs.UsesSeen.Same.{every, through, turned}

pub same_through : (es fs gs : List Event) → UsesAreSame es fs → UsesAreSame fs gs → UsesAreSame es gs
same_through es fs gs h k = record {
  known = λ i. through (h.known i) (k.known i);
  given_back = λ i. through (h.given_back i) (k.given_back i);
  taken = λ i. through (h.taken i) (k.taken i);
  carried = λ i. through (h.carried i) (k.carried i);
  judged = λ answer. through (h.judged answer) (k.judged answer);
}

pub hold_same : (es fs : List Event) → UsesAreSame es fs → HoldAlike es fs
hold_same es fs h = record {
  known = every (HoldsAt UsesKnown es) (HoldsAt UsesKnown fs) h.known;
  given_back = every (HoldsAt BackKnown es) (HoldsAt BackKnown fs) h.given_back;
  taken = every (HoldsAt (λ past l. TakesSent es past l.event) es) (HoldsAt (λ past l. TakesSent fs past l.event) fs) h.taken;
  carried = every (HoldsAt (λ past l. CarriesSent past l.event) es) (HoldsAt (λ past l. CarriesSent past l.event) fs) h.carried;
  judged = h.judged None;
}

pub hold_turned : (es fs : List Event) → HoldAlike es fs → HoldAlike fs es
hold_turned es fs h = record { known = turned h.known; given_back = turned h.given_back; taken = turned h.taken; carried = turned h.carried; judged = turned h.judged }

pub hold_through : (es fs gs : List Event) → HoldAlike es fs → HoldAlike fs gs → HoldAlike es gs
hold_through es fs gs h k = record {
  known = through h.known k.known;
  given_back = through h.given_back k.given_back;
  taken = through h.taken k.taken;
  carried = through h.carried k.carried;
  judged = through h.judged k.judged;
}
