-- The kind of a line by the words with which it begins.
use Rattle.std.specs.Prelude.{◌≡◌, ℕ, Bool, false, ◌==◌, ◌&&◌, nat_le, if◌then◌else◌, List, [], ◌∷◌, ◌++◌, codes, bytes_eq, map}
use Rattle.std.specs.List.{list_all}
use Rattle.def_event.specs.declared.event.Event.{Event}
use Rattle.def_event.specs.declared.event.Event.TheVariants.{Open, Turn, Idle, Carry, Cut, Notice, Frame, Take, Call, Back, Thrown, Gone, Got, Slot as SlotMade, Read, Wrote, List as ListMade, Arrived, Ejector, Audition, Promise, Made, Send, SendOnly, When, Done, Threw, Settle, Wait, View, LostCut, LostBroken, LeftQueue, LeftHeld, LeftWait, LeftLink, End, Raw}
use Rattle.def_event.specs.declared.raw.RawLine.TheVariants.{Inject, InjectCut, Malformed, Bytes, LeftBytes}
use Rattle.def_event.specs.Lines.{words, render}
use Rattle.law_text.specs.Text.Feeds.{AllOf}
use Rattle.law_text.specs.Text.Words.{IsOrdinary, WordsFit}

-- the kind of an event: behind `#` where its line begins with the number of an entry, behind `!` where it begins with an activation
abbrev pub kind : Event → List ℕ
kind (Open v) = codes "open"
kind (Turn k v) = codes "#turn"
kind (Idle k) = codes "#idle"
kind (Carry k v w note) = codes "#carry"
kind (Cut k v w) = codes "#cut"
kind (Notice k v w) = codes "#notice"
kind (Frame bytes) = codes "frame"
kind (Take t) = codes "!take"
kind (Call c) = codes "!call"
kind (Back a x) = codes "!back"
kind (Thrown a x) = codes "!thrown"
kind (Gone a) = codes "!gone"
kind (Got a x) = codes "!got"
kind (SlotMade a s x) = codes "!slot"
kind (Read a s x) = codes "!read"
kind (Wrote a s x) = codes "!wrote"
kind (ListMade a l members) = codes "!list"
kind (Arrived l members) = codes "list"
kind (Ejector a o) = codes "!ejector"
kind (Audition a o) = codes "!audition"
kind (Promise a p o) = codes "!promise"
kind (Made o) = codes "!made"
kind (Send m) = codes "!send"
kind (SendOnly m) = codes "!sendonly"
kind (When w) = codes "!when"
kind (Done a x) = codes "!done"
kind (Threw a x) = codes "!threw"
kind (Settle p x) = codes "settle"
kind (Wait p q) = codes "wait"
kind (View p q) = codes "view"
kind (LostCut m) = codes "lost cut"
kind (LostBroken m) = codes "lost broken"
kind (LeftQueue v m) = codes "left queue"
kind (LeftHeld v p m) = codes "left held"
kind (LeftWait v x m) = codes "left wait"
kind (LeftLink v w note) = codes "left link"
kind End = codes "end"
kind (Raw (Inject k v w bytes)) = codes "#inject"
kind (Raw (InjectCut k v w)) = codes "#inject"
kind (Raw (Malformed k v w place)) = codes "#carry"
kind (Raw (Bytes k v w bytes)) = codes "#carry"
kind (Raw (LeftBytes v w bytes)) = codes "left link"

abbrev pub first_of : List (List ℕ) → List ℕ
first_of [] = []
first_of (w ∷ ws) = w

abbrev pub second_of : List (List ℕ) → List ℕ
second_of [] = []
second_of (w ∷ ws) = first_of ws

abbrev pub is_number : List ℕ → Bool
is_number w = list_all (λ c. nat_le 48 c && nat_le c 57) w

abbrev pub is_activation : List ℕ → Bool
is_activation [] = false
is_activation (c ∷ cs) = c == 33

-- what a reader takes for the kind
abbrev pub kind_in : List (List ℕ) → List ℕ
kind_in [] = []
kind_in (w ∷ ws) =
    if is_number w then 35 ∷ first_of ws
    else if is_activation w then 33 ∷ first_of ws
    else if bytes_eq w (codes "left") then codes "left " ++ first_of ws
    else if bytes_eq w (codes "lost") then codes "lost " ++ second_of ws
    else w

abbrev pub WordsTellKinds : Type 0
WordsTellKinds = (vats : List (List ℕ)) (e : Event) → kind_in (words vats e) ≡ kind e

-- of vats whose names are of ordinary bytes
abbrev pub TextsTellKinds : Type 0
TextsTellKinds = (vats : List (List ℕ)) → AllOf IsOrdinary vats → (xs ys : List Event) → AllOf WordsFit xs → AllOf WordsFit ys → render vats xs ≡ render vats ys → map kind xs ≡ map kind ys
