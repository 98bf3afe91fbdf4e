-- Spelled events are events told under the keys as they are spelled.
use Rattle.std.proofs.Common.{◌≡◌, ℕ, List, refl, ap}
use Rattle.def_machine.specs.Values.{Name, Root, Object, Promise, Answer, Gift, Sent}
use Rattle.def_machine.specs.State.{Passed, Passeds, Plain, AGift, Many, NoMore, More, Note, Deliver, Open, Ask, SettledTo, Elsewhere, Shorten}
use Rattle.def_machine.specs.Maps as maps
use Rattle.def_run.specs.World.{Event, Opens, Turned, Idle, Carried, CutAt, NoticedAt, Here, LostCut, LeftQueue, LeftHeld, LeftWait, LeftLink, Ends}
use Rattle.def_hostile.specs.Claims.{Claim, spelled_key, spelled, spelled_passed, spelled_all, spelled_note, spelled_event}
use Rattle.ev_claims.specs.Telling.{told, told_passed, told_all, told_note, told_event}

module _ (cs : List Claim) where
  abbrev Key : ℕ → ℕ → ℕ
  Key h i = spelled_key cs h i

  name_is : (n : Name) → spelled cs n ≡ told Key n
  unfolding spelled told
  name_is (Gift h i) = refl
  name_is (Root v) = refl
  name_is (Object v i) = refl
  name_is (Promise v i) = refl
  name_is (Answer h m) = refl
  name_is (Sent m) = refl

  names_are : spelled cs ≡ told Key
  names_are i x = name_is x i

  mutual
    unfolding spelled_passed spelled_all told_passed told_all

    passed_is : (y : Passed Name) → spelled_passed cs y ≡ told_passed Key y
    passed_is (Plain y) = ap (λ (f : Name → Name). Plain (maps.value f y)) names_are
    passed_is (AGift h i) = refl
    passed_is (Many ys) = ap (λ zs. Many zs) (all_is ys)

    all_is : (ys : Passeds Name) → spelled_all cs ys ≡ told_all Key ys
    all_is NoMore = refl
    all_is (More y ys) = cc (passed_is y, all_is ys)

  note_is : (u : ℕ) (n : Note Name) → spelled_note cs u n ≡ told_note Key u n
  unfolding spelled_note told_note
  note_is u (Deliver d n verb ys) = cc (name_is n, all_is ys)
  note_is u (Open i n) = cc (name_is n)
  note_is u (Ask p i n) = cc (name_is n)
  note_is u (SettledTo n y) = cc (name_is n, passed_is y)
  note_is u (Elsewhere n c) = cc (name_is n)
  note_is u (Shorten n c i) = cc (name_is n)

  pub event_is : (e : Event) → spelled_event cs e ≡ told_event Key e
  unfolding spelled_event told_event
  event_is (Opens v) = refl
  event_is (Turned k v) = refl
  event_is (Idle k) = refl
  event_is (Carried k v w n bytes) = ap (λ (x : Note Name). Carried k v w x bytes) (note_is w n)
  event_is (CutAt k v w) = refl
  event_is (NoticedAt k v w) = refl
  event_is (Here v e) = ap (λ (f : Name → Name). Here v (maps.line f e)) names_are
  event_is (LostCut m) = refl
  event_is (LeftQueue v m) = refl
  event_is (LeftHeld v n m) = ap (λ (x : Name). LeftHeld v x m) (name_is n)
  event_is (LeftWait v n m) = ap (λ (x : Name). LeftWait v x m) (name_is n)
  event_is (LeftLink v w n) = ap (λ (x : Note Name). LeftLink v w x) (note_is w n)
  event_is Ends = refl
