-- The run of a script in which each vat goes by its own numbers, and frames stand on the links.
use Rattle.std.specs.Prelude.{ℕ, zero, suc, ◌+◌, pred, Bool, true, false, List, [], ◌∷◌, ◌++◌, Option, Some, None, drop, get_or, length, map, slice_get, slice_set, ◌==◌}
use Rattle.def_op.specs.Frames.{Operation, spelling}
use Rattle.def_machine.specs.Values.{Ref, Name, Root, Object, Gift, answer_of, Local, Obj, Prom, Far, Mess, Naming, numbering}
use Rattle.def_machine.specs.State.{Fixed, Binding, Message, Known, Note, Deliver, Open, Ask, SettledTo, Elsewhere, Shorten, Put, Happened, Vat, Stop, Astray, Done, Gives, Throws, Ejects, Stops, Act, begun, is_in}
use Rattle.def_machine.specs.Arrive.{Incoming, arrive, notice}
use Rattle.def_machine.specs.Scopes.{any_guard}
use Rattle.def_machine.specs.Eval.{opening, taking}
use Rattle.def_run.specs.Connections.{Connection, Learnt, Heard, put_on, frame_now}
use Rattle.def_run.specs.Draws.{draw_word}
use Rattle.def_run.specs.World.{Script, Program, Entry, Turn, Carry, CutLink, NoticeLink, Event, Opens, Turned, Idle, Carried, CutAt, NoticedAt, LostCut, LeftQueue, LeftHeld, LeftWait, LeftLink, Ends, Link, events_of, knowers, name_at, tree_at}
use Rattle.def_machine.specs.Maps as maps
use Rattle.def_run.specs.Names.{Names, Told, of_promise, names_after, name_by}
use Rattle.def_run.specs.Vats.{Member, connection_for, unconnected, sight_for, heard_in, heard_on}
use Rattle.def_run.specs.Vats.{opened_vats}
use Rattle.def_machine.specs.Arrive.{opened_arrive}
use Rattle.def_run.specs.World.{opened_world}

-- a frame under way, and the note that it says, in names
pub record Frame : Type 0 where
  pub note : Note Name
  pub op : Operation

-- the way from one vat to another
pub record Way : Type 0 where
  pub from : ℕ
  pub to : ℕ
  pub cut : Bool
  -- the first in front
  pub frames : List Frame

pub record Vats : Type 0 where
  pub fuel : ℕ
  pub drawn : List ℕ
  pub members : List Member
  -- by ordered pairs
  pub ways : List Way
  pub history : List Event

-- A run, or what is left of it where a step stopped: why, and the number of that step (opening turns first, then entries, from 0).
pub data Course : Type 0 where
  Runs : Vats → Course
  Halts : Stop → ℕ → Vats → Course

unfoldable pub then_runs : Course → (Vats → Course) → Course
then_runs (Runs w) f = f w
then_runs (Halts c k w) f = Halts c k w

-- ---- ways

unfoldable pub is_way : ℕ → ℕ → Way → Bool
is_way v u l = elim (l.from == v) [ true ↦ l.to == u | false ↦ false ]

unfoldable pub way_at : ℕ → ℕ → List Way → Option Way
way_at v u [] = None
way_at v u (l ∷ ls) = elim (is_way v u l) [ true ↦ Some l | false ↦ way_at v u ls ]

unfoldable pub with_way : (Way → Way) → ℕ → ℕ → List Way → List Way
with_way f v u [] = []
with_way f v u (l ∷ ls) = elim (is_way v u l) [ true ↦ f l ∷ ls | false ↦ l ∷ with_way f v u ls ]

-- a frame pushed on a way that is cut is lost
unfoldable pub pushed : Frame → Way → Way
pushed x l = elim l.cut [ true ↦ l | false ↦ record l { frames = l.frames ++ x ∷ [] } ]

unfoldable pub severed : Way → Way
severed l = record l { cut = true; frames = [] }

-- which ways are cut, as the lines of a step look at it
unfoldable pub link_of : Way → Link
link_of l = record { from = l.from; to = l.to; cut = l.cut; notes = []; roots = []; log = [] }

-- ---- names

-- what vat v exported to vat u at a position
unfoldable pub exported : List Member → ℕ → ℕ → ℕ → Option Local
exported ms v u p = elim (slice_get ms v) [ Some m ↦ slice_get (connection_for u m).exports p | None ↦ None ]

-- An object of vat v stands at position p. Of a promise, and where nothing stands, no line tells: as a table of numbers has it, the object
-- is that of number 0 there, and that of the position's own number.
unfoldable pub object_at : ℕ → ℕ → Option Local → Name
object_at v p (Some (Obj i)) = Object v i
object_at v p (Some (Prom k)) = Object v zero
object_at v p (Some (Far h q)) = Object v zero
object_at v p (Some (Mess j)) = Object v zero
object_at v p None = Object v p

-- the object of vat h that it exported to vat u at that position
unfoldable pub far_name : List Member → ℕ → ℕ → ℕ → Name
far_name ms u h p = object_at h p (exported ms h u p)

-- the name of a number of vat u, which has these names
unfoldable pub name_at_vat : List Member → ℕ → Names → Local → Name
name_at_vat ms u t n = name_by u (far_name ms u) t n

-- ---- what a frame tells of numbers

-- the name of what vat v exported to vat u at a position
unfoldable pub name_exported : List Member → ℕ → ℕ → ℕ → Name
name_exported ms v u p = elim (slice_get ms v) [
  | Some m ↦ elim (slice_get (connection_for u m).exports p) [ Some n ↦ name_at_vat ms v m.names n | None ↦ Root v ]
  | None ↦ Root v
]

-- promises at positions from p on are what the peer has there
unfoldable pub told_imports : (ℕ → Name) → ℕ → List Local → List Told
told_imports f p [] = []
told_imports f p (n ∷ ns) = of_promise n (f p) ++ told_imports f (suc p) ns

unfoldable pub told_learnt : List (Learnt Local) → List Told
told_learnt [] = []
told_learnt (g ∷ gs) = of_promise g.name (Gift g.host g.number) ++ told_learnt gs

-- the message that a note brings, if one
unfoldable pub carried_in : Note Name → List Name
carried_in (Deliver d n verb ys) = d.message ∷ []
carried_in (Open i n) = []
carried_in (Ask p i n) = []
carried_in (SettledTo n y) = []
carried_in (Elsewhere n c) = []
carried_in (Shorten n c i) = []

-- the answer that it asks vat u for, where so many names were known once it was read
unfoldable pub told_answer : ℕ → ℕ → Note Name → List Told
told_answer u k (Deliver d n verb ys) = elim d.asks [ true ↦ record { number = k; name = answer_of u d.message } ∷ [] | false ↦ [] ]
told_answer u k (Open i n) = []
told_answer u k (Ask p i n) = []
told_answer u k (SettledTo n y) = []
told_answer u k (Elsewhere n c) = []
told_answer u k (Shorten n c i) = []

-- what vat u, which is m, is told in this frame of vat v by what it hears
unfoldable pub brought : List Member → ℕ → ℕ → Note Name → Heard Local (Note (Incoming Local Local)) → Member → List Told
brought ms v u n h m =
    let old = connection_for v m in
    told_imports (name_exported ms v u) (length old.imports) (drop (length old.imports) h.after.imports)
    ++ told_learnt (drop (length m.learnt) h.after.learnt) ++ told_answer u h.after.known n

-- ---- the outcome of a step

-- a vat as a step finds it
unfoldable pub ready : Vats → Vat Local → Vat Local
ready w s = record s { fuel = w.fuel; drawn = w.drawn; outbox = []; happened = [] }

-- each note of a step written on the connection for its receiver
unfoldable pub written_on : Vat Local → Put Local → List (Connection Local) → List (Connection Local)
written_on s p cs = slice_set cs p.to (put_on (sight_for s p.note) p.note (get_or cs p.to unconnected))

unfoldable pub all_written : Vat Local → List (Put Local) → List (Connection Local) → List (Connection Local)
all_written s [] cs = cs
all_written s (p ∷ ps) cs = all_written s ps (written_on s p cs)

-- the frames of these notes, in order, each with the vat that it is for
pub record Addressed : Type 0 where
  pub to : ℕ
  pub frame : Frame

unfoldable pub frames_of : Vat Local → (Local → Name) → List (Put Local) → List (Connection Local) → List Addressed
frames_of s f [] cs = []
frames_of s f (p ∷ ps) cs =
    record { to = p.to; frame = record { note = maps.note f p.note; op = frame_now (sight_for s p.note) p.note (get_or cs p.to unconnected) } }
    ∷ frames_of s f ps (written_on s p cs)

unfoldable pub push_all : ℕ → List Addressed → List Way → List Way
push_all u [] ls = ls
push_all u (x ∷ xs) ls = push_all u xs (with_way (pushed x.frame) u x.to ls)

-- what a note brought: its message, the numbers that it told, the connections and the gifts learnt once it was received
pub record Brought : Type 0 where
  pub carried : List Name
  pub told : List Told
  pub connections : List (Connection Local)
  pub learnt : List (Learnt Local)

unfoldable pub nothing_brought : Member → Brought
nothing_brought m = record { carried = []; told = []; connections = m.connections; learnt = m.learnt }

-- the lines of a step of vat u behind its own, where these ways are cut
unfoldable pub lines_of : List Way → ℕ → (Local → Name) → List (Happened Local) → List Event
lines_of ls u f es = events_of (map link_of ls) u (map (maps.line f) es)

-- vat u, which is m, is in state s after a step
unfoldable pub left_by : Vats → ℕ → List Event → Member → Brought → Vat Local → Vats
left_by w u head m b s =
    let t : Names = names_after u m.names m.vat b.carried b.told s in
    let f : Local → Name = name_at_vat w.members u t in
    record {
      fuel = s.fuel;
      drawn = s.drawn;
      members = slice_set w.members u (record { vat = s; learnt = b.learnt; connections = all_written s s.outbox b.connections; names = t });
      ways = push_all u (frames_of s f s.outbox b.connections) w.ways;
      history = w.history ++ head ++ lines_of w.ways u f s.happened;
    }

unfoldable pub after_step : Vats → ℕ → List Event → ℕ → Member → (Vat Local → Brought) → Done Local (Unit {0}) → Course
after_step w u head step m b (Gives a s) = Runs (left_by w u head m (b s) s)
after_step w u head step m b (Throws p s) = Halts Astray step w
after_step w u head step m b (Ejects n x s) = Halts Astray step w
after_step w u head step m b (Stops c s) = Halts c step w

-- a step of vat u that no note brought
unfoldable pub own_step : Vats → ℕ → List Event → ℕ → Member → Act Local (Unit {0}) → Course
own_step w u head step m act = after_step w u head step m (λ s. nothing_brought m) (act (ready w m.vat))

-- ---- the start

-- the number of the root of vat v at a vat that knows these, if it does
unfoldable pub root_number : ℕ → ℕ → List ℕ → List Local
root_number k v [] = []
root_number k v (w ∷ ws) = elim (w == v) [ true ↦ Prom k ∷ [] | false ↦ root_number (suc k) v ws ]

-- what vat u, of program p, has for vat v, of program q
unfoldable pub first_connection : ℕ → ℕ → Program → Program → Connection Local
first_connection u v p q = record { exports = elim (is_in u q.knows) [ true ↦ Prom zero ∷ [] | false ↦ [] ]; imports = root_number 1 v p.knows; questions = []; answers = [] }

-- an unused one in its own place
unfoldable pub connections_from : ℕ → Program → ℕ → List Program → List (Connection Local)
connections_from u p v [] = []
connections_from u p v (q ∷ qs) = elim (u == v) [ true ↦ unconnected | false ↦ first_connection u v p q ] ∷ connections_from u p (suc v) qs

unfoldable pub roots_known : ℕ → List ℕ → List (Known Local)
roots_known k [] = []
roots_known k (w ∷ ws) = begun (Prom k) w ∷ roots_known (suc k) ws

unfoldable pub fresh_vat : Script → ℕ → Program → Vat Local
fresh_vat script u p = record {
  number = u;
  fuel = script.fuel;
  drawn = [];
  things = [];
  slots = [];
  lists = [];
  activations = zero;
  messages = zero;
  promises = zero;
  queue = [];
  known = record (begun (Prom zero) u) { told = knowers u zero script.vats } ∷ roots_known 1 p.knows;
  mails = [];
  gifts = [];
  noticed = [];
  outbox = [];
  happened = [];
}

unfoldable pub fresh_member : Script → ℕ → Program → Member
fresh_member script u p = record { vat = fresh_vat script u p; learnt = []; connections = connections_from u p zero script.vats; names = record { known = Root u ∷ map Root p.knows; mails = [] } }

unfoldable pub fresh_from : Script → ℕ → List Program → List Member
fresh_from script u [] = []
fresh_from script u (p ∷ ps) = fresh_member script u p ∷ fresh_from script (suc u) ps

unfoldable pub ways_to : ℕ → ℕ → List Program → List Way
ways_to v u [] = []
ways_to v u (p ∷ ps) = elim (v == u) [ true ↦ ways_to v (suc u) ps | false ↦ record { from = v; to = u; cut = false; frames = [] } ∷ ways_to v (suc u) ps ]

unfoldable pub ways_from : List Program → ℕ → List Program → List Way
ways_from all v [] = []
ways_from all v (p ∷ ps) = ways_to v zero all ++ ways_from all (suc v) ps

unfoldable pub begins : Script → Vats
begins script = record { fuel = script.fuel; drawn = []; members = fresh_from script zero script.vats; ways = ways_from script.vats zero script.vats; history = [] }

-- each vat that is known is a noun for its root
unfoldable pub given : List Program → ℕ → List ℕ → List (Binding Local)
given ps k [] = []
given ps k (w ∷ ws) = record { noun = name_at ps w; bound = Fixed (Ref (Prom k)) any_guard } ∷ given ps (suc k) ws

-- ---- steps

unfoldable pub lost_frames : List Frame → List Event
lost_frames [] = []
lost_frames (x ∷ xs) = map LostCut (carried_in x.note) ++ lost_frames xs

unfoldable pub lost_on : Option Way → List Event
lost_on None = []
lost_on (Some l) = lost_frames l.frames

module _ (script : Script) where
  unfoldable pub numbers : Naming Local Local
  numbers = numbering (draw_word script.key)

  unfoldable pub open_member : ℕ → Program → Vats → Option Member → Course
  open_member u p w None = Halts Astray u w
  open_member u p w (Some m) = own_step w u (Opens u ∷ []) u m (opening numbers p.tree script.depth (Prom zero) (given script.vats 1 p.knows))

  -- the opening turns, from vat u on
  unfoldable pub open_from : ℕ → List Program → Vats → Course
  open_from u [] w = Runs w
  open_from u (p ∷ ps) w = then_runs (open_member u p w (slice_get w.members u)) (open_from (suc u) ps)

  unfoldable pub step_number : ℕ → ℕ
  step_number k = length script.vats + pred k

  unfoldable pub idle : ℕ → Vats → Course
  idle k w = Runs (record w { history = w.history ++ Idle k ∷ [] })

  unfoldable pub turn_queue : ℕ → ℕ → Vats → Member → List (Message Local) → Course
  turn_queue k u w m [] = idle k w
  turn_queue k u w m (x ∷ xs) = after_step w u (Turned k u ∷ []) (step_number k) m (λ s. nothing_brought m)
      (taking numbers (tree_at script.vats u) script.depth x (record (ready w m.vat) { queue = xs }))

  unfoldable pub turn : ℕ → ℕ → Vats → Option Member → Course
  turn k u w None = idle k w
  turn k u w (Some m) = turn_queue k u w m m.vat.queue

  -- what is had once a note that was heard has arrived
  unfoldable pub brings : Vats → ℕ → ℕ → Frame → Heard Local (Note (Incoming Local Local)) → Member → Vat Local → Brought
  brings w v u x h m s = record {
    carried = carried_in x.note;
    told = brought w.members v u x.note h m;
    connections = slice_set m.connections v (heard_on h s (connection_for v m));
    learnt = h.after.learnt;
  }

  unfoldable pub hears : ℕ → ℕ → ℕ → Vats → Frame → Member → Option (Heard Local (Note (Incoming Local Local))) → Course
  hears k v u w x m None = Halts Astray (step_number k) w
  hears k v u w x m (Some h) = after_step w u (Carried k v u x.note (spelling x.op) ∷ []) (step_number k) m (brings w v u x h m)
      (arrive numbers v h.read (ready w m.vat))

  unfoldable pub arrives : ℕ → ℕ → ℕ → Vats → Frame → Option Member → Course
  arrives k v u w x None = idle k w
  arrives k v u w x (Some m) = hears k v u w x m (heard_in v x.op m)

  unfoldable pub carry_frames : ℕ → ℕ → ℕ → Vats → List Frame → Course
  carry_frames k v u w [] = idle k w
  carry_frames k v u w (x ∷ xs) = arrives k v u (record w { ways = with_way (λ l. record l { frames = xs }) v u w.ways }) x (slice_get w.members u)

  unfoldable pub carry_way : ℕ → ℕ → ℕ → Vats → Option Way → Course
  carry_way k v u w None = idle k w
  carry_way k v u w (Some l) = elim l.cut [ true ↦ idle k w | false ↦ carry_frames k v u w l.frames ]

  unfoldable pub cut : ℕ → ℕ → ℕ → Vats → Course
  cut k v u w = Runs (record w {
    ways = with_way severed u v (with_way severed v u w.ways);
    history = w.history ++ CutAt k v u ∷ (lost_on (way_at v u w.ways) ++ lost_on (way_at u v w.ways));
  })

  unfoldable pub notice_by : ℕ → ℕ → ℕ → Vats → Option Member → Course
  notice_by k v u w None = Halts Astray (step_number k) w
  notice_by k v u w (Some m) = own_step w v (NoticedAt k v u ∷ []) (step_number k) m (notice numbers u)

  unfoldable pub step : Entry → ℕ → Vats → Course
  step (Turn u) k w = turn k u w (slice_get w.members u)
  step (Carry v u) k w = carry_way k v u w (way_at v u w.ways)
  step (CutLink v u) k w = cut k v u w
  step (NoticeLink v u) k w = notice_by k v u w (slice_get w.members v)

  unfoldable pub steps_from : List Entry → ℕ → Vats → Course
  steps_from [] k w = Runs w
  steps_from (e ∷ es) k w = then_runs (step e k w) (steps_from es (suc k))

  -- ---- the closing list

  unfoldable pub left_held : ℕ → (Local → Name) → List (Known Local) → List Event
  left_held u f [] = []
  left_held u f (k ∷ ks) = map (λ m. LeftHeld u (f k.name) (f m.id)) k.held ++ left_held u f ks

  unfoldable pub left_wait : ℕ → (Local → Name) → List (Known Local) → List Event
  left_wait u f [] = []
  left_wait u f (k ∷ ks) = map (λ m. LeftWait u (f k.name) (f m.id)) k.reactions ++ left_wait u f ks

  unfoldable pub left_member : List Member → ℕ → Member → List Event
  left_member ms u m = let f : Local → Name = name_at_vat ms u m.names in
      map (λ x. LeftQueue u (f x.id)) m.vat.queue ++ left_held u f m.vat.known ++ left_wait u f m.vat.known

  unfoldable pub left_members : List Member → ℕ → List Member → List Event
  left_members all u [] = []
  left_members all u (m ∷ ms) = left_member all u m ++ left_members all (suc u) ms

  unfoldable pub left_ways : List Way → List Event
  left_ways [] = []
  left_ways (l ∷ ls) = map (λ x. LeftLink l.from l.to x.note) l.frames ++ left_ways ls

  unfoldable pub close : Vats → Course
  close w = Runs (record w { history = w.history ++ left_members w.members zero w.members ++ left_ways w.ways ++ Ends ∷ [] })

  -- the whole run
  unfoldable pub run : Course
  run = then_runs (open_from zero script.vats (begins script)) (λ w. then_runs (steps_from script.schedule 1 w) close)

-- opens each definition of this file, and of those below
unfoldable pub opened_numbers : Unit {0}
unfolding then_runs is_way way_at with_way pushed severed link_of exported object_at far_name name_at_vat name_exported told_imports told_learnt carried_in told_answer brought ready written_on all_written frames_of push_all nothing_brought lines_of left_by after_step own_step root_number first_connection connections_from roots_known fresh_vat fresh_member fresh_from ways_to ways_from begins given lost_frames lost_on numbers open_member open_from step_number idle turn_queue turn brings hears arrives carry_frames carry_way cut notice_by step steps_from left_held left_wait left_member left_members left_ways close run opened_vats opened_arrive opened_world
opened_numbers = tt
