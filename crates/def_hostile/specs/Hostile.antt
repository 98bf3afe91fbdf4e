-- The run of a script in which vats are hostile: they take no turns, and the script injects frames on their links.
use Rattle.std.specs.Prelude.{ℕ, zero, suc, ◌+◌, pred, Bool, true, false, List, [], ◌∷◌, ◌++◌, Option, Some, None, length, slice_get, drop, map, ◌==◌, ◌&&◌}
use Rattle.def_op.specs.Frames.{Operation}
use Rattle.def_machine.specs.Values.{Value, Null, Flag, Number, Letter, Text, Prim, Broken, Items, Ref, Name, Root, Object, Promise, Gift, Sent, answer_of}
use Rattle.def_machine.specs.State.{Standing, Unsettled, WaitsOn, Viewed, Settled, Passed, Passeds, Plain, AGift, Many, NoMore, More, Note, Deliver, Open, Ask, SettledTo, Elsewhere, Shorten, Vat, Stop, Astray, ◌>>◌, send_out, is_in}
use Rattle.def_machine.specs.Refs.{standing_of}
use Rattle.def_machine.specs.Arrive.{Incoming, Old, New}
use Rattle.def_machine.specs.Receive.{is_told, receive}
use Rattle.def_machine.specs.Maps as maps
use Rattle.def_run.specs.Connections.{Connection, Newcomers, Heard, note_heard}
use Rattle.def_run.specs.Wire.{Connected, is_object, connected_at, with_connected, numbered, hear_at, write_all}
use Rattle.def_run.specs.World.{Script, Program, Entry, Turn, Carry, CutLink, NoticeLink, Event, Carried, Idle, NoticedAt, LeftLink, Ends, Link, World, Run, Goes, Stopped, link_at, with_link, with_notes, within, next_frame, read_note, names, names_of, begins, open_vat, step, cut, is_cut, left_vats}
use Rattle.def_run.specs.Deeds.{Deed, NewObject, NewPromise, NewMessage, NewLone, Learns, perform_all, hear}
use Rattle.def_hostile.specs.Judge.{Counts, Verdict, Lawful, Malformed, verdict}
use Rattle.def_run.specs.Entered.{entered, imports_placed, sight_by}
use Rattle.def_hostile.specs.Claims.{Claim, claim_all, gifts_in, unnamed}
use Rattle.def_run.specs.Deeds.{opened_deeds}
use Rattle.def_hostile.specs.Judge.{opened_judge}
use Rattle.def_run.specs.Entered.{opened_entered}
use Rattle.def_hostile.specs.Claims.{opened_claims}

pub data Doing : Type 0 where
  -- an entry as of every script
  Does : Entry → Doing
  -- these bytes are put as one frame on the link from one vat to another
  Injects : ℕ → ℕ → List ℕ → Doing

-- a script, the vats of it that are hostile, and what is done in the place of its schedule
pub record Play : Type 0 where
  pub script : Script
  pub hostile : List ℕ
  pub doings : List Doing

-- the injected frames under way from one vat to another, the first in front
pub record Raw : Type 0 where
  pub from : ℕ
  pub to : ℕ
  pub frames : List (List ℕ)

pub data Line : Type 0 where
  -- what happens in the world
  Told : Event → Line
  Injected : ℕ → ℕ → ℕ → List ℕ → Line
  -- on a link that is cut
  NotInjected : ℕ → ℕ → ℕ → Line
  -- and the place of the fault
  Refused : ℕ → ℕ → ℕ → ℕ → Line
  -- a frame comes to a hostile vat
  Unread : ℕ → ℕ → ℕ → List ℕ → Line
  LeftFrame : ℕ → ℕ → List ℕ → Line

pub record Scene : Type 0 where
  pub world : World
  -- by ordered pairs
  pub raws : List Raw
  -- the gifts that frames named first
  pub claims : List Claim
  pub lines : List Line

-- A run, or what is left of it where a step stopped: why, the number of that step (opening turns of honest vats first, then entries, from 0), and what there was before it.
pub data Acted : Type 0 where
  Plays : Scene → Acted
  Breaks : Stop → ℕ → Scene → Acted

unfoldable pub then_plays : Acted → (Scene → Acted) → Acted
then_plays (Plays s) f = f s
then_plays (Breaks c k s) f = Breaks c k s

-- What comes of what is done in that scene; where it stops, the scene is left as it was.
unfoldable pub or_leaves : Scene → Acted → Acted
or_leaves s (Plays t) = Plays t
or_leaves s (Breaks c k t) = Breaks c k s

-- ---- frames under way

unfoldable pub is_raw : ℕ → ℕ → Raw → Bool
is_raw v w r = (r.from == v) && (r.to == w)

unfoldable pub frames_at : ℕ → ℕ → List Raw → List (List ℕ)
frames_at v w [] = []
frames_at v w (r ∷ rs) = elim (is_raw v w r) [ true ↦ r.frames | false ↦ frames_at v w rs ]

unfoldable pub with_frames : (List (List ℕ) → List (List ℕ)) → ℕ → ℕ → List Raw → List Raw
with_frames f v w [] = []
with_frames f v w (r ∷ rs) = elim (is_raw v w r) [ true ↦ record r { frames = f r.frames } ∷ rs | false ↦ r ∷ with_frames f v w rs ]

-- the frames of both directions are lost
unfoldable pub raws_cut : ℕ → ℕ → List Raw → List Raw
raws_cut v w rs = with_frames (λ fs. []) w v (with_frames (λ fs. []) v w rs)

-- ---- what is told

-- what a world tells that an earlier one did not
unfoldable pub told_since : World → World → List Line
told_since w y = map Told (drop (length w.history) y.history)

-- what a step made of the world, behind these lines
unfoldable pub acted : ℕ → Scene → List Line → Run → Acted
acted n s front (Goes y) = Plays (record s { world = y; lines = s.lines ++ front ++ told_since s.world y })
acted n s front (Stopped c k y) = Breaks c n s

unfoldable pub tells : Line → Scene → Acted
tells l s = Plays (record s { lines = s.lines ++ l ∷ [] })

-- an event of the world that changes nothing in it
unfoldable pub happens : Event → Scene → Acted
happens e s = Plays (record s { world = record s.world { history = s.world.history ++ e ∷ [] }; lines = s.lines ++ Told e ∷ [] })

-- ---- what a frame says, in names

-- the new names of vat h, which has made so many objects and promises
unfoldable pub new_names : ℕ → ℕ → ℕ → List Bool → List Name
new_names h objects promises [] = []
new_names h objects promises (true ∷ ks) = Object h objects ∷ new_names h (suc objects) promises ks
new_names h objects promises (false ∷ ks) = Promise h promises ∷ new_names h objects (suc promises) ks

-- the counts of what vat u has in numbers for a peer
unfoldable pub counts : Connection Name → Counts
counts c = record { exports = length c.exports; answers = length c.answers; questions = length c.questions; imports = map is_object c.imports }

-- What is new in a frame of vat h is what it has at that position by then. What a message and a gift that is asked for are called is put in their places later.
unfoldable pub newcomers : ℕ → List Name → Name → Newcomers Name Name
newcomers h imports m = record {
  object = λ p. numbered h imports p;
  promise = λ p k. numbered h imports p;
  gift = λ g i k. Gift g i;
  exported = λ p. numbered h imports p;
  asked = λ q. Root h;
  message = m;
}

unfoldable pub name_in : Incoming Name Name → Name
name_in (Old n) = n
name_in (New n h) = n

-- the host of the gift to which a name is shortened: that of the object to which it settled, or the vat itself
unfoldable pub object_host : ℕ → Value Name → ℕ
object_host u (Ref (Object c i)) = c
object_host u (Ref n) = u
object_host u Null = u
object_host u (Flag b) = u
object_host u (Number z) = u
object_host u (Letter x) = u
object_host u (Text t) = u
object_host u (Prim n) = u
object_host u (Broken p) = u
object_host u (Items k) = u

unfoldable pub shortened_host : ℕ → Standing Name → ℕ
shortened_host u (Settled y) = object_host u y
shortened_host u Unsettled = u
shortened_host u (WaitsOn q) = u
shortened_host u (Viewed q) = u

unfoldable pub answer_if : ℕ → Name → Bool → Option Name
answer_if u m true = Some (answer_of u m)
answer_if u m false = None

-- the names in a note that its sender has for it
unfoldable pub names_value : Value Name → List Name
names_value (Ref n) = n ∷ []
names_value Null = []
names_value (Flag b) = []
names_value (Number z) = []
names_value (Letter x) = []
names_value (Text t) = []
names_value (Prim n) = []
names_value (Broken p) = []
names_value (Items k) = []

unfoldable mutual
  pub names_passed : Passed Name → List Name
  names_passed (Plain y) = names_value y
  names_passed (AGift h i) = []
  names_passed (Many ys) = names_all ys

  pub names_all : Passeds Name → List Name
  names_all NoMore = []
  names_all (More y ys) = names_passed y ++ names_all ys

unfoldable pub names_in_note : Note Name → List Name
names_in_note (Deliver d n verb ys) = n ∷ names_all ys
names_in_note (Open i n) = n ∷ []
names_in_note (Ask p i n) = n ∷ []
names_in_note (SettledTo n y) = n ∷ names_passed y
names_in_note (Elsewhere n c) = n ∷ []
names_in_note (Shorten n c i) = n ∷ []

unfoldable pub makes_new : Bool → Deed
makes_new true = NewObject
makes_new false = NewPromise

unfoldable pub message_deed : ℕ → Bool → Deed
message_deed u true = NewMessage u
message_deed u false = NewLone

unfoldable pub message_deeds : ℕ → Note Name → List Deed
message_deeds u (Deliver d n verb ys) = message_deed u d.asks ∷ []
message_deeds u (Open i n) = []
message_deeds u (Ask p i n) = []
message_deeds u (SettledTo n y) = []
message_deeds u (Elsewhere n c) = []
message_deeds u (Shorten n c i) = []

-- what the record of a hostile vat does to say this to u
unfoldable pub deeds_for : ℕ → List Bool → Note Name → List Deed
deeds_for u new n = map makes_new new ++ message_deeds u n ++ map Learns (names_in_note n)

-- what is asked for in a note to vat u, as its sender names it
unfoldable pub asked_for : ℕ → Note Name → List Name
asked_for u (Deliver d n verb ys) = elim d.asks [ true ↦ answer_of u d.message ∷ [] | false ↦ [] ]
asked_for u (Ask p i n) = n ∷ []
asked_for u (Open i n) = []
asked_for u (SettledTo n y) = []
asked_for u (Elsewhere n c) = []
asked_for u (Shorten n c i) = []

-- the connection of the sender once it put that frame, which makes these names
unfoldable pub said_on : ℕ → Operation → Note Name → List Name → Connected → Connected
said_on u op n new c = record c {
  tables = record c.tables { exports = c.tables.exports ++ new; questions = c.tables.questions ++ asked_for u n };
  written = c.written ++ op ∷ [];
}

unfoldable pub is_resolve : Note Name → Bool
is_resolve (SettledTo n y) = true
is_resolve (Elsewhere n c) = true
is_resolve (Deliver d n verb ys) = false
is_resolve (Open i n) = false
is_resolve (Ask p i n) = false
is_resolve (Shorten n c i) = false

unfoldable pub subject_of : Note Name → Name
subject_of (SettledTo n y) = n
subject_of (Elsewhere n c) = n
subject_of (Deliver d n verb ys) = n
subject_of (Open i n) = n
subject_of (Ask p i n) = n
subject_of (Shorten n c i) = n

unfoldable pub is_empty : List ℕ → Bool
is_empty [] = true
is_empty (h ∷ hs) = false

module _ (play : Play) where
  unfoldable pub is_hostile : ℕ → Bool
  is_hostile v = is_in v play.hostile

  -- how many of the vats in front of v are honest
  unfoldable pub honest_before : ℕ → ℕ
  honest_before zero = zero
  honest_before (suc v) = elim (is_hostile v) [ true ↦ honest_before v | false ↦ suc (honest_before v) ]

  unfoldable pub step_of : ℕ → ℕ
  step_of k = honest_before (length play.script.vats) + pred k

  -- a vat may know a gift twice only where a vat is hostile
  unfoldable pub entered_note : Bool → ℕ → ℕ → World → Vat Name → Note Name → Note Name
  entered_note true v u w s n = n
  entered_note false v u w s n = entered u v (connected_at v u w.connections).tables.exports (names_of s) n

  -- what vat u put, written behind what it heard
  unfoldable pub written_behind : ℕ → List Connected → Option (Vat Name) → List Connected
  written_behind u cs None = cs
  written_behind u cs (Some r) = write_all u r.outbox cs

  -- World y is left by a step by which vat u heard note n of vat v in world w. What it imported stands there as its entries before what it put is written.
  unfoldable pub placed_imports : Bool → ℕ → ℕ → Note Name → World → World → World
  placed_imports true v u n w y = y
  placed_imports false v u n w y = record y { connections = written_behind u (imports_placed u v (hear_at v u n w.connections)) (slice_get y.vats u) }

  unfoldable pub then_places : ℕ → ℕ → Note Name → World → Run → Run
  then_places v u n w (Goes y) = Goes (placed_imports (is_empty play.hostile) v u n w y)
  then_places v u n w (Stopped c k y) = Stopped c k y

  -- ---- a note comes to an honest vat, which receives it by its own entries

  unfoldable pub receives : ℕ → ℕ → ℕ → World → Note Name → Vat Name → Run
  receives k v u w n s =
      then_places v u n w (within u w (Carried k v u n (next_frame v u w.connections) ∷ []) zero
      (receive (names play.script u) (sight_by (names_of s) (connected_at u v w.connections).tables) v (read_note (names_of s) n)) (Some s))

  unfoldable pub receives_at : ℕ → ℕ → ℕ → World → Note Name → Option (Vat Name) → Run
  receives_at k v u w n None = Stopped Astray zero w
  receives_at k v u w n (Some s) = receives k v u w (entered_note (is_empty play.hostile) v u w s n) s

  -- ---- a note comes to a hostile vat

  unfoldable pub swallows : ℕ → ℕ → ℕ → World → Note Name → Option (Vat Name) → Run
  swallows k v u w n s = within u w (Carried k v u n (next_frame v u w.connections) ∷ []) zero (hear play.script u n) s

  unfoldable pub comes : Bool → ℕ → ℕ → ℕ → World → Note Name → Run
  comes true k v u w n = swallows k v u w n (slice_get w.vats u)
  comes false k v u w n = receives_at k v u w n (slice_get w.vats u)

  unfoldable pub carry_notes : ℕ → ℕ → ℕ → Scene → List (Note Name) → Acted
  carry_notes k v u s [] = happens (Idle k) s
  carry_notes k v u s (n ∷ ns) = acted (step_of k) s [] (comes (is_hostile u) k v u (record s.world { links = with_link (with_notes ns) v u s.world.links }) n)

  unfoldable pub carry_link : ℕ → ℕ → ℕ → Scene → Option Link → Acted
  carry_link k v u s None = happens (Idle k) s
  carry_link k v u s (Some l) = elim l.cut [ true ↦ happens (Idle k) s | false ↦ carry_notes k v u s l.notes ]

  -- ---- an injected frame comes to an honest vat

  -- the link is cut, and noticed where the frame came
  unfoldable pub noticed_after : ℕ → ℕ → ℕ → Run → Run
  noticed_after k h u (Goes y) = step play.script (NoticeLink u h) k y
  noticed_after k h u (Stopped c n y) = Stopped c n y

  -- the lines of a cut and a notice without the first of each
  unfoldable pub lines_behind : World → Run → World → List Line
  lines_behind w (Goes y) z = drop 1 (told_since w y) ++ drop 1 (told_since y z)
  lines_behind w (Stopped c k y) z = []

  unfoldable pub severed_by : ℕ → ℕ → ℕ → ℕ → Scene → Run → Run → Acted
  severed_by k h u place s halfway (Goes z) = Plays (record s { world = z; raws = raws_cut h u s.raws; lines = s.lines ++ Refused k h u place ∷ lines_behind s.world halfway z })
  severed_by k h u place s halfway (Stopped c n z) = Breaks c (step_of k) s

  unfoldable pub malformed : ℕ → ℕ → ℕ → ℕ → Scene → Acted
  malformed k h u place s = severed_by k h u place s (cut play.script k h u s.world) (noticed_after k h u (cut play.script k h u s.world))

  -- the note as it is known which gifts and which answer it names
  unfoldable pub completed : ℕ → Vat Name → Note Name → Note Name
  completed u s (Deliver d n verb ys) = Deliver (record d { answer = answer_if u d.message d.asks }) n verb ys
  completed u s (Ask p i n) = Ask p i (Gift u i)
  completed u s (Shorten n c i) = Shorten n (shortened_host u (standing_of (names play.script u) s.known n)) i
  completed u s (Open i n) = Open i n
  completed u s (SettledTo n y) = SettledTo n y
  completed u s (Elsewhere n c) = Elsewhere n c

  -- what an operation of h says to u, where h makes these names and that message
  unfoldable pub read_op : ℕ → ℕ → Connection Name → List Name → Name → Operation → Option (Heard Name (Note (Incoming Name Name)))
  read_op h u c new m op = note_heard is_object u h (newcomers h (c.imports ++ new) m) c op (record { imports = c.imports; learnt = []; known = zero })

  unfoldable pub tells_again : Vat Name → ℕ → Note Name → Bool
  tells_again s u n = is_resolve n && is_told (standing_of (names play.script u) s.known (subject_of n))

  -- The record r of h makes the names, and the note stands on its link; what stands in frames is told beside it.
  unfoldable pub said_beside : ℕ → ℕ → Operation → List Name → Note Name → World → Run → Run
  said_beside h u op new n w (Goes y) = Goes (record y { connections = with_connected (said_on u op n new) h u w.connections })
  said_beside h u op new n w (Stopped c k y) = Stopped c k y

  unfoldable pub said : ℕ → ℕ → Operation → List Bool → List Name → Note Name → World → Vat Name → Run
  said h u op kinds new n w r = said_beside h u op new n w (within h w [] zero (perform_all play.script h (deeds_for u kinds n) >> send_out u n) (Some r))

  unfoldable pub carries_said : ℕ → ℕ → ℕ → Scene → Run → Acted
  carries_said k h u s (Goes y) = carry_link k h u (record s { world = y }) (link_at h u y.links)
  carries_said k h u s (Stopped c n y) = Breaks c (step_of k) s

  -- A note that tells again of what was told is a line and nothing else. Another names its gifts, is said, and then is carried.
  unfoldable pub spoken : ℕ → ℕ → ℕ → Operation → List ℕ → List Bool → List Name → Note Name → Scene → Vat Name → Bool → Acted
  spoken k h u op bytes kinds new n s r true = happens (Carried k h u (unnamed play.hostile s.world.links s.claims n) bytes) s
  spoken k h u op bytes kinds new n s r false =
      carries_said k h u (record s { claims = claim_all play.hostile s.world.links (gifts_in u n) s.claims }) (said h u op kinds new n s.world r)

  unfoldable pub heard_note : ℕ → ℕ → ℕ → Operation → List ℕ → List Bool → List Name → Scene → Vat Name → Vat Name → Option (Heard Name (Note (Incoming Name Name))) → Acted
  heard_note k h u op bytes kinds new s r t None = Breaks Astray (step_of k) s
  heard_note k h u op bytes kinds new s r t (Some x) =
      spoken k h u op bytes kinds new (completed u t (maps.note name_in x.read)) s r (tells_again t u (completed u t (maps.note name_in x.read)))

  unfoldable pub lawful : ℕ → ℕ → ℕ → Operation → List ℕ → List Bool → Scene → Option (Vat Name) → Option (Vat Name) → Acted
  lawful k h u op bytes kinds s None t = Breaks Astray (step_of k) s
  lawful k h u op bytes kinds s (Some r) None = Breaks Astray (step_of k) s
  lawful k h u op bytes kinds s (Some r) (Some t) =
      heard_note k h u op bytes kinds (new_names h (length r.things) r.promises kinds) s r t
      (read_op h u (connected_at u h s.world.connections).tables (new_names h (length r.things) r.promises kinds) (Sent (record { sender = h; number = r.messages })) op)

  unfoldable pub judged_frame : ℕ → ℕ → ℕ → List ℕ → Scene → Verdict → Acted
  judged_frame k h u bytes s (Malformed place) = malformed k h u place s
  judged_frame k h u bytes s (Lawful op kinds) = lawful k h u op bytes kinds s (slice_get s.world.vats h) (slice_get s.world.vats u)

  unfoldable pub frame_comes : Bool → ℕ → ℕ → ℕ → List ℕ → Scene → Acted
  frame_comes true k h u bytes s = tells (Unread k h u bytes) s
  frame_comes false k h u bytes s = judged_frame k h u bytes s (verdict (length play.script.vats) u h (counts (connected_at u h s.world.connections).tables) bytes)

  -- a frame that was injected is carried, or else a note
  unfoldable pub carry : ℕ → ℕ → ℕ → Scene → List (List ℕ) → Acted
  carry k v u s [] = carry_link k v u s (link_at v u s.world.links)
  carry k v u s (f ∷ fs) = frame_comes (is_hostile u) k v u f (record s { raws = with_frames (λ old. fs) v u s.raws })

  -- frames are injected on links of hostile vats
  unfoldable pub does_carry : Bool → ℕ → ℕ → ℕ → Scene → Acted
  does_carry true k v u s = carry k v u s (frames_at v u s.raws)
  does_carry false k v u s = carry_link k v u s (link_at v u s.world.links)

  -- ---- the entries

  unfoldable pub does_turn : Bool → ℕ → ℕ → Scene → Acted
  does_turn true k v s = happens (Idle k) s
  does_turn false k v s = acted (step_of k) s [] (step play.script (Turn v) k s.world)

  unfoldable pub does_notice : Bool → ℕ → ℕ → ℕ → Scene → Acted
  does_notice true k v w s = happens (NoticedAt k v w) s
  does_notice false k v w s = acted (step_of k) s [] (step play.script (NoticeLink v w) k s.world)

  unfoldable pub injects : Bool → ℕ → ℕ → ℕ → List ℕ → Scene → Acted
  injects true k h w bytes s = tells (NotInjected k h w) s
  injects false k h w bytes s = tells (Injected k h w bytes) (record s { raws = with_frames (λ fs. fs ++ bytes ∷ []) h w s.raws })

  -- what is done; where it stops, a frame may be off its link by then, and claims made
  unfoldable pub tries : Doing → ℕ → Scene → Acted
  tries (Does (Turn v)) k s = does_turn (is_hostile v) k v s
  tries (Does (Carry v w)) k s = does_carry (is_hostile v) k v w s
  tries (Does (CutLink v w)) k s = acted (step_of k) (record s { raws = raws_cut v w s.raws }) [] (step play.script (CutLink v w) k s.world)
  tries (Does (NoticeLink v w)) k s = does_notice (is_hostile v) k v w s
  tries (Injects h w bytes) k s = injects (is_cut h w s.world.links) k h w bytes s

  unfoldable pub does : Doing → ℕ → Scene → Acted
  does d k s = or_leaves s (tries d k s)

  unfoldable pub does_all : List Doing → ℕ → Scene → Acted
  does_all [] k s = Plays s
  does_all (d ∷ ds) k s = then_plays (does d k s) (does_all ds (suc k))

  -- ---- the opening turns, and what is left

  unfoldable pub opens : Bool → ℕ → Program → Scene → Acted
  opens true v p s = Plays s
  opens false v p s = acted (honest_before v) s [] (open_vat play.script v p s.world)

  unfoldable pub opens_from : ℕ → List Program → Scene → Acted
  opens_from v [] s = Plays s
  opens_from v (p ∷ ps) s = then_plays (opens (is_hostile v) v p s) (opens_from (suc v) ps)

  unfoldable pub raw_of : Link → Raw
  raw_of l = record { from = l.from; to = l.to; frames = [] }

  unfoldable pub starts : Scene
  starts = record { world = begins play.script; raws = map raw_of (begins play.script).links; claims = []; lines = [] }

  unfoldable pub left_links : List Raw → List Link → List Line
  left_links rs [] = []
  left_links rs (l ∷ ls) = map (λ n. Told (LeftLink l.from l.to n)) l.notes ++ map (LeftFrame l.from l.to) (frames_at l.from l.to rs) ++ left_links rs ls

  unfoldable pub closes : Scene → Acted
  closes s = Plays (record s { lines = s.lines ++ map Told (left_vats play.script s.world.vats) ++ left_links s.raws s.world.links ++ Told Ends ∷ [] })

  -- the whole run
  unfoldable pub acts : Acted
  acts = then_plays (opens_from zero play.script.vats starts) (λ s. then_plays (does_all play.doings 1 s) closes)

-- opens each definition of this file, and of those below
unfoldable pub opened_hostile : Unit {0}
unfolding then_plays or_leaves is_raw frames_at with_frames raws_cut told_since acted tells happens new_names counts newcomers name_in object_host shortened_host answer_if names_passed names_all names_value names_in_note makes_new message_deed message_deeds deeds_for asked_for said_on is_resolve subject_of is_empty is_hostile honest_before step_of entered_note written_behind placed_imports then_places receives receives_at swallows comes carry_notes carry_link noticed_after lines_behind severed_by malformed completed read_op tells_again said_beside said carries_said spoken heard_note lawful judged_frame frame_comes carry does_carry does_turn does_notice injects tries does does_all opens opens_from raw_of starts left_links closes acts opened_deeds opened_judge opened_entered opened_claims
opened_hostile = tt
