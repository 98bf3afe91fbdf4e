-- Lines of worked histories, by computing.
use Rattle.std.specs.Prelude.{◌≡◌, true, false, ℕ, List, [], ◌∷◌, ◌++◌, codes, Some, None, refl, flat_map, pos, negsuc}
use Rattle.ev_base.specs.declared.names.Name.TheVariants.{Object, Own, Answer, Gift, Root}
use Rattle.ev_base.specs.declared.names.Msg.{Msg}
use Rattle.def_event.specs.declared.shown.Shown.{Shown, Null, Bool, Int, Char, Text, Broken, Prim, Name, List as ListOf, Slot}
use Rattle.std.specs.declared.option.Option.{Option}
use Rattle.ev_base.specs.declared.names.Name.{Name as ShownName}
use Rattle.def_event.specs.declared.event.Event.{Event}
use Rattle.def_event.specs.declared.event.Event.TheVariants.{Open, Turn, Idle, Carry, Cut, Notice, Frame, Take, Call, Back, Thrown, Gone, Got, Slot as SlotMade, Read, Wrote, List as ListMade, Arrived, Ejector, Audition, Promise, Made, Send, When, Done, Threw, Settle, Wait, View, LostCut, LostBroken, LeftQueue, LeftHeld, LeftWait, LeftLink, End}
use Rattle.def_event.specs.declared.note.ShownNote.TheVariants.{Deliver, Settled, Elsewhere, Open as Opens, Ask, Shorten}
use Rattle.def_event.specs.Lines.{members, render, opened_lines}

abbrev vats : List (List ℕ)
vats = codes "a" ∷ codes "b" ∷ codes "c" ∷ codes "buyer" ∷ codes "broker" ∷ codes "seller" ∷ []

abbrev text : List (List ℕ) → List ℕ
text lines = flat_map (λ l. l ++ 10 ∷ []) lines

abbrev object : ℕ → ℕ → Shown
object v n = Name (Object v n)

abbrev msg : ℕ → ℕ → Msg
msg v n = record { sender = v; number = n }

abbrev taken : ℕ → Msg → Shown → List ℕ → List Shown → Event
taken a m x verb args = Take (record { activation = a; message = m; target = x; verb = verb; args = args })

abbrev called : ℕ → Shown → List ℕ → List Shown → Option ℕ → Event
called a x verb args begun = Call (record { activation = a; target = x; verb = verb; args = args; begun = begun })

abbrev made : ℕ → Shown → List ℕ → List Shown → List Shown → Event
made a x name caps stamps = Made (record { activation = a; object = x; name = name; caps = caps; stamps = stamps })

abbrev sent : ℕ → Msg → Shown → List ℕ → List Shown → ShownName → Event
sent a m x verb args answer = Send (record { activation = a; message = m; target = x; verb = verb; args = args; answer = answer })

abbrev reacting : ℕ → Msg → Shown → Shown → ShownName → Event
reacting a m x o answer = When (record { activation = a; message = m; value = x; reaction = o; answer = answer })

entries : render vats (
    Open 0 ∷ Turn 3 1 ∷ Idle 12 ∷ Cut 4 0 1 ∷ Notice 15 0 1
    ∷ Carry 1 0 1 (Deliver (msg 0 0) (Root 1) (codes "two") (Name (Gift 2 0) ∷ Name (Gift 2 1) ∷ []))
    ∷ Carry 1 2 1 (Settled (Root 2) (object 2 0))
    ∷ Carry 10 0 1 (Shorten (Answer 1 (msg 0 0)) (Gift 2 0))
    ∷ Carry 10 1 0 (Opens (Gift 0 0) (Object 0 0))
    ∷ Carry 4 1 2 (Ask (Gift 2 0) 0)
    ∷ Carry 6 1 0 (Elsewhere (Answer 1 (msg 0 0)) 2)
    ∷ Frame (2 ∷ 0xc ∷ 0 ∷ 0xb ∷ 1 ∷ [])
    ∷ LeftQueue 0 (msg 0 2) ∷ LeftHeld 0 (Own 0 0) (msg 0 1) ∷ LeftWait 0 (Name (Own 0 0)) (msg 0 1)
    ∷ LeftLink 2 1 (Settled (Root 2) (object 2 0)) ∷ End ∷ [])
    ≡ text (
    codes "open a" ∷ codes "3 turn b" ∷ codes "12 idle" ∷ codes "4 cut a b" ∷ codes "15 notice a b"
    ∷ codes "1 carry a b deliver a/0 @b two c^0 c^1"
    ∷ codes "1 carry c b settled @c c.0"
    ∷ codes "10 carry a b shorten b?a/0 c^0"
    ∷ codes "10 carry b a open a^0 a.0"
    ∷ codes "4 carry b c ask c^0 a"
    ∷ codes "6 carry b a elsewhere b?a/0 c"
    ∷ codes "frame 020c000b01"
    ∷ codes "left queue a a/2" ∷ codes "left held a a~0 a/1" ∷ codes "left wait a a~0 a/1"
    ∷ codes "left link c b settled @c c.0" ∷ codes "end" ∷ [])
unfolding opened_lines
entries = refl

turns : render vats (
    taken 0 (msg 0 0) (object 0 0) (codes "f") (Int (pos 1) ∷ [])
    ∷ called 0 (object 0 0) (codes "run") [] (Some 1)
    ∷ called 1 (Int (pos 0)) (codes "add") (Int (pos 1) ∷ []) None
    ∷ Back 1 (Int (pos 1)) ∷ Thrown 0 (Text (codes "integer overflow")) ∷ Gone 2 ∷ Got 1 (Name (Answer 5 (msg 5 1)))
    ∷ SlotMade 0 (0, 0) (Int (pos 0)) ∷ Read 1 (0, 0) (Int (pos 0)) ∷ Wrote 1 (3, 0) (Bool true)
    ∷ ListMade 0 (0, 0) [] ∷ ListMade 1 (0, 1) (Text (codes "zip") ∷ ListOf 0 0 ∷ []) ∷ Arrived (1, 0) (Null ∷ Bool false ∷ [])
    ∷ Ejector 0 (object 0 0) ∷ Audition 0 (object 0 1) ∷ Promise 0 (Own 0 0) (object 0 0)
    ∷ made 0 (object 0 1) (codes "q") (Int (pos 3) ∷ []) (Prim 17 ∷ [])
    ∷ made 0 (object 0 0) (codes "_") (Slot 0 0 ∷ []) []
    ∷ made 0 (object 0 0) (codes "aud") [] []
    ∷ sent 0 (msg 3 1) (Name (Answer 4 (msg 3 0))) (codes "buy") (Text (codes "tea") ∷ object 3 0 ∷ []) (Answer 4 (msg 3 1))
    ∷ reacting 0 (msg 3 2) (Name (Answer 4 (msg 3 1))) (object 3 1) (Answer 3 (msg 3 2))
    ∷ Done 0 (Int (negsuc 4)) ∷ Threw 0 (Text (codes "not int"))
    ∷ Settle (Answer 1 (msg 0 0)) (Broken (codes "partition")) ∷ Wait (Root 0) (Answer 1 (msg 0 0)) ∷ View (Answer 1 (msg 0 0)) (Gift 2 0)
    ∷ LostCut (msg 0 3) ∷ LostBroken (msg 0 4) ∷ [])
    ≡ text (
    codes "!0 take a/0 a.0 f 1"
    ∷ codes "!0 call a.0 run as !1"
    ∷ codes "!1 call 0 add 1"
    ∷ codes "!1 back 1" ∷ codes "!0 thrown \"integer overflow\"" ∷ codes "!2 gone" ∷ codes "!1 got seller?seller/1"
    ∷ codes "!0 slot a&0 0" ∷ codes "!1 read a&0 0" ∷ codes "!1 wrote buyer&0 true"
    ∷ codes "!0 list a%0" ∷ codes "!1 list a%1 \"zip\" a%0" ∷ codes "list b%0 null false"
    ∷ codes "!0 ejector a.0" ∷ codes "!0 audition a.1" ∷ codes "!0 promise a~0 a.0"
    ∷ codes "!0 made a.1 q caps 3 stamps <DeepFrozen>"
    ∷ codes "!0 made a.0 _ caps a&0"
    ∷ codes "!0 made a.0 aud"
    ∷ codes "!0 send buyer/1 broker?buyer/0 buy \"tea\" buyer.0 -> broker?buyer/1"
    ∷ codes "!0 when buyer/2 broker?buyer/1 buyer.1 -> buyer?buyer/2"
    ∷ codes "!0 done -5" ∷ codes "!0 threw \"not int\""
    ∷ codes "settle b?a/0 broken:\"partition\"" ∷ codes "wait @a b?a/0" ∷ codes "view b?a/0 c^0"
    ∷ codes "lost a/3 cut" ∷ codes "lost a/4 broken" ∷ [])
unfolding opened_lines
turns = refl

-- lists in lists, a character, a long text, primitives, and verbs that are no identifiers
others : render vats (
    Carry 1 0 1 (Settled (Root 0) (members (Int (pos 1) ∷ members [] ∷ members (Null ∷ []) ∷ [])))
    ∷ Done 0 (Char 39) ∷ Done 0 (Text (codes "xxxxxxxxxxxxxxxxxxxxxxxxxxxxxxxxx")) ∷ Done 0 (Prim 40) ∷ Done 0 (Prim 0)
    ∷ taken 0 (msg 0 0) (object 0 0) (codes "if") [] ∷ taken 0 (msg 0 0) (object 0 0) [] [] ∷ [])
    ≡ text (
    codes "1 carry a b settled @a [1 [] [null]]"
    ∷ codes "!0 done '\\''" ∷ codes "!0 done \"xxxxxxxxxxxxxxxxxxxxxxxxxxxxxxxx\"+1" ∷ codes "!0 done <nullOk:any>" ∷ codes "!0 done <__makeList>"
    ∷ codes "!0 take a/0 a.0 \"if\"" ∷ codes "!0 take a/0 a.0 \"\"" ∷ [])
unfolding opened_lines
others = refl
