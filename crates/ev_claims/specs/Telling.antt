-- Events as the lines of a run tell them, where some gifts are claimed: those are spelled out, and no other key has a mark.
use Rattle.std.specs.Prelude.{ℕ, Bool, true, false, List, [], ◌∷◌, ◌++◌}
use Rattle.def_event.specs.declared.event.Event.{Event as ShownEvent}
use Rattle.ev_base.specs.declared.names.Name.{Name as ShownName}
use Rattle.def_machine.specs.Values.{Name, Root, Object, Promise, Answer, Gift, Sent}
use Rattle.def_machine.specs.State.{Passed, Passeds, Plain, AGift, Many, NoMore, More, Note, Deliver, Open, Ask, SettledTo, Elsewhere, Shorten}
use Rattle.def_machine.specs.Maps as maps
use Rattle.def_run.specs.Marks.{base, spelled_out}
use Rattle.def_run.specs.World.{Event, Opens, Turned, Idle, Carried, CutAt, NoticedAt, Here, LostCut, LeftQueue, LeftHeld, LeftWait, LeftLink, Ends}
use Rattle.def_hostile.specs.Claims.{Claim, is_claimed}
use Rattle.def_hostile.specs.ShownMarks.{shown_event, shown_name}

unfoldable pub told_if : ℕ → Bool → ℕ
told_if i true = spelled_out i
told_if i false = base i

-- the key of a gift at that host
unfoldable pub told_key : List Claim → ℕ → ℕ → ℕ
told_key cs h i = told_if i (is_claimed cs h (base i))

-- where each gift, by its host and its key, is under another key
module _ (f : ℕ → ℕ → ℕ) where
  unfoldable pub told : Name → Name
  told (Gift h i) = Gift h (f h i)
  told (Root v) = Root v
  told (Object v i) = Object v i
  told (Promise v i) = Promise v i
  told (Answer h m) = Answer h m
  told (Sent m) = Sent m

  unfoldable mutual
    pub told_passed : Passed Name → Passed Name
    told_passed (Plain y) = Plain (maps.value told y)
    told_passed (AGift h i) = AGift h (f h i)
    told_passed (Many ys) = Many (told_all ys)

    pub told_all : Passeds Name → Passeds Name
    told_all NoMore = NoMore
    told_all (More y ys) = More (told_passed y) (told_all ys)

  -- of a note to vat u; the key under which something is asked for does not print
  unfoldable pub told_note : ℕ → Note Name → Note Name
  told_note u (Deliver d n verb ys) = Deliver d (told n) verb (told_all ys)
  told_note u (Open i n) = Open (f u i) (told n)
  told_note u (Ask p i n) = Ask p i (told n)
  told_note u (SettledTo n y) = SettledTo (told n) (told_passed y)
  told_note u (Elsewhere n c) = Elsewhere (told n) c
  told_note u (Shorten n c i) = Shorten (told n) c (f c i)

  unfoldable pub told_event : Event → Event
  told_event (Opens v) = Opens v
  told_event (Turned k v) = Turned k v
  told_event (Idle k) = Idle k
  told_event (Carried k v w n bytes) = Carried k v w (told_note w n) bytes
  told_event (CutAt k v w) = CutAt k v w
  told_event (NoticedAt k v w) = NoticedAt k v w
  told_event (Here v e) = Here v (maps.line told e)
  told_event (LostCut m) = LostCut m
  told_event (LeftQueue v m) = LeftQueue v m
  told_event (LeftHeld v n m) = LeftHeld v (told n) m
  told_event (LeftWait v n m) = LeftWait v (told n) m
  told_event (LeftLink v w n) = LeftLink v w (told_note w n)
  told_event Ends = Ends

-- ---- as they print, where these words were drawn

-- the words that were drawn, and the gifts that are claimed
pub record Printing : Type 0 where
  pub draws : List ℕ
  pub claims : List Claim

unfoldable pub printed_name : Printing → Name → ShownName
printed_name p n = shown_name p.draws (told (told_key p.claims) n)

unfoldable pub printed_event : Printing → Event → List ShownEvent
printed_event p e = shown_event p.draws (told_event (told_key p.claims) e)

unfoldable pub printed_events : Printing → List Event → List ShownEvent
printed_events p [] = []
printed_events p (e ∷ es) = printed_event p e ++ printed_events p es

-- opens each definition of this file
unfoldable pub opened_telling : Unit {0}
unfolding told_if told_key told told_passed told_all told_note told_event printed_name printed_event printed_events
opened_telling = tt
