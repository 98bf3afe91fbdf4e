-- A run: vats on links, the opening turns, the entries of the schedule, and the closing list.
use Rattle.std.specs.Prelude.{ℕ, zero, suc, pred, ◌+◌, Bool, true, false, List, [], ◌∷◌, ◌++◌, Option, Some, None, length, slice_get, map, ◌==◌}
use Rattle.def_machine.specs.Values.{Words, Value, Null, Flag, Number, Letter, Text, Prim, Broken, Items, Ref, Name, Root, Object, Gift, same_name, host_of, Naming, naming}
use Rattle.def_machine.specs.State.{Fixed, Binding, Message, Known, Passed, Passeds, Plain, AGift, Many, NoMore, More, Note, Deliver, Open, Ask, SettledTo, Elsewhere, Shorten, Put, Happened, Posted, Vat, Stop, Astray, Done, Gives, Throws, Ejects, Stops, Act, begun, is_in}
use Rattle.def_machine.specs.Arrive.{Incoming, Old, New, arrive, notice}
use Rattle.def_machine.specs.Scopes.{any_guard}
use Rattle.def_machine.specs.Eval.{opening, taking}
use Rattle.def_kernel.specs.declared.node.Node.{Node}
use Rattle.def_run.specs.Draws.{draw_word}
use Rattle.def_run.specs.Wire.{Connected, write_all, hear_at, frame_due, frame_bytes, connected_at}
use Rattle.def_machine.specs.Arrive.{opened_arrive}
use Rattle.def_machine.specs.Eval.{opened_eval}
use Rattle.def_run.specs.Draws.{opened_draws}
use Rattle.def_run.specs.Wire.{opened_wire}

pub data Entry : Type 0 where
  Turn : ℕ → Entry
  Carry : ℕ → ℕ → Entry
  CutLink : ℕ → ℕ → Entry
  NoticeLink : ℕ → ℕ → Entry

-- a vat of a script: its name, the vats that it knows, and the tree of its source
pub record Program : Type 0 where
  pub name : Words
  pub knows : List ℕ
  pub tree : List Node

pub record Script : Type 0 where
  -- of 32 bytes
  pub key : List ℕ
  pub fuel : ℕ
  -- the greatest depth
  pub depth : ℕ
  pub vats : List Program
  pub schedule : List Entry

-- the way from one vat to another
pub record Link : Type 0 where
  pub from : ℕ
  pub to : ℕ
  pub cut : Bool
  -- the notes under way, the first in front
  pub notes : List (Note Name)
  -- what the receiver knows of the sender from the start
  pub roots : List Name
  -- every note that was put, also those that were lost
  pub log : List (Note Name)

pub data Event : Type 0 where
  Opens : ℕ → Event
  Turned : ℕ → ℕ → Event
  Idle : ℕ → Event
  -- entry, from, to, note, and the bytes of its frame
  Carried : ℕ → ℕ → ℕ → Note Name → List ℕ → Event
  CutAt : ℕ → ℕ → ℕ → Event
  NoticedAt : ℕ → ℕ → ℕ → Event
  -- at that vat
  Here : ℕ → Happened Name → Event
  -- a message is lost on a cut link
  LostCut : Name → Event
  LeftQueue : ℕ → Name → Event
  LeftHeld : ℕ → Name → Name → Event
  LeftWait : ℕ → Name → Name → Event
  LeftLink : ℕ → ℕ → Note Name → Event
  Ends : Event

pub record World : Type 0 where
  pub fuel : ℕ
  pub drawn : List ℕ
  pub vats : List (Vat Name)
  -- by ordered pairs
  pub links : List Link
  -- by ordered pairs
  pub connections : List Connected
  pub history : List Event

-- A run, or what is left of it where a step stopped: why, the number of that step (opening turns first, then entries, from 0), and the world that the step worked on, where a note that was carried is off its link already.
pub data Run : Type 0 where
  Goes : World → Run
  Stopped : Stop → ℕ → World → Run

unfoldable pub then_goes : Run → (World → Run) → Run
then_goes (Goes w) f = f w
then_goes (Stopped c k w) f = Stopped c k w

-- ---- links

unfoldable pub is_link : ℕ → ℕ → Link → Bool
is_link v w l = elim (l.from == v) [ true ↦ l.to == w | false ↦ false ]

unfoldable pub link_at : ℕ → ℕ → List Link → Option Link
link_at v w [] = None
link_at v w (l ∷ ls) = elim (is_link v w l) [ true ↦ Some l | false ↦ link_at v w ls ]

unfoldable pub with_link : (Link → Link) → ℕ → ℕ → List Link → List Link
with_link f v w [] = []
with_link f v w (l ∷ ls) = elim (is_link v w l) [ true ↦ f l ∷ ls | false ↦ l ∷ with_link f v w ls ]

unfoldable pub cut_in : Option Link → Bool
cut_in (Some l) = l.cut
cut_in None = false

unfoldable pub is_cut : ℕ → ℕ → List Link → Bool
is_cut v w ls = cut_in (link_at v w ls)

-- a note put on a link that is cut is lost
unfoldable pub pushed : Note Name → Link → Link
pushed n l = elim l.cut [ true ↦ record l { log = l.log ++ n ∷ [] } | false ↦ record l { notes = l.notes ++ n ∷ []; log = l.log ++ n ∷ [] } ]

unfoldable pub push_all : ℕ → List (Put Name) → List Link → List Link
push_all v [] ls = ls
push_all v (p ∷ ps) ls = push_all v ps (with_link (pushed p.note) v p.to ls)

unfoldable pub with_notes : List (Note Name) → Link → Link
with_notes ns l = record l { notes = ns }

unfoldable pub severed_link : Link → Link
severed_link l = record l { cut = true; notes = [] }

-- ---- what a step of one vat makes of the world

-- a deliver note that was put on a cut link is a message lost
unfoldable pub event_of : List Link → ℕ → Happened Name → List Event
event_of ls v (Posted w m) = elim (is_cut v w ls) [ true ↦ LostCut m ∷ [] | false ↦ [] ]
event_of ls v e = Here v e ∷ []

unfoldable pub events_of : List Link → ℕ → List (Happened Name) → List Event
events_of ls v [] = []
events_of ls v (e ∷ es) = event_of ls v e ++ events_of ls v es

unfoldable pub put_at : {A : Type 0} → ℕ → A → List A → List A
put_at n y [] = []
put_at zero y (x ∷ xs) = y ∷ xs
put_at (suc n) y (x ∷ xs) = x ∷ put_at n y xs

-- the connections once what these lines tell has arrived
unfoldable pub heard_by : List Event → List Connected → List Connected
heard_by [] cs = cs
heard_by (Carried k v w n bytes ∷ es) cs = heard_by es (hear_at v w n cs)
heard_by (e ∷ es) cs = heard_by es cs

-- A note that the step's own line tells of was read, and then those of the vat's state after it were written.
unfoldable pub connections_after : ℕ → Vat Name → List Event → List Connected → List Connected
connections_after v s head cs = write_all v s.outbox (heard_by head cs)

-- the bytes of the next frame to arrive from v at w
unfoldable pub next_frame : ℕ → ℕ → List Connected → List ℕ
next_frame v w cs = frame_bytes (frame_due (connected_at v w cs) (connected_at w v cs))

-- the outcome of a step of vat v: its lines behind the step's own, its notes on its links
unfoldable pub put_back : ℕ → World → List Event → ℕ → Done Name (Unit {0}) → Run
put_back v w head step (Gives u s) = Goes (record {
  fuel = s.fuel;
  drawn = s.drawn;
  vats = put_at v s w.vats;
  links = push_all v s.outbox w.links;
  connections = connections_after v s head w.connections;
  history = w.history ++ head ++ events_of w.links v s.happened;
})
put_back v w head step (Throws t s) = Stopped Astray step w
put_back v w head step (Ejects n x s) = Stopped Astray step w
put_back v w head step (Stops c s) = Stopped c step w

unfoldable pub readied : World → Vat Name → Vat Name
readied w s = record s { fuel = w.fuel; drawn = w.drawn; outbox = []; happened = [] }

-- a step of vat v
unfoldable pub within : ℕ → World → List Event → ℕ → Act Name (Unit {0}) → Option (Vat Name) → Run
within v w head step m None = Stopped Astray step w
within v w head step m (Some s) = put_back v w head step (m (readied w s))

-- ---- a note that arrives is read by the names that the receiver knows

unfoldable pub has_name : List Name → Name → Bool
has_name [] n = false
has_name (m ∷ ms) n = elim (same_name m n) [ true ↦ true | false ↦ has_name ms n ]

-- an object need not come to be known
unfoldable pub is_old : List Name → Name → Bool
is_old ks (Object v i) = true
is_old ks n = has_name ks n

unfoldable pub read_name : List Name → Name → Incoming Name Name
read_name ks n = elim (is_old ks n) [ true ↦ Old n | false ↦ New n (host_of n) ]

unfoldable pub known_after : List Name → Name → List Name
known_after ks n = elim (is_old ks n) [ true ↦ ks | false ↦ ks ++ n ∷ [] ]

-- something read, and the names known after it
pub record Reading (A : Type 0) : Type 0 where
  pub read : A
  pub known : List Name

unfoldable pub read_value : List Name → Value Name → Reading (Value (Incoming Name Name))
read_value ks Null = record { read = Null; known = ks }
read_value ks (Flag b) = record { read = Flag b; known = ks }
read_value ks (Number z) = record { read = Number z; known = ks }
read_value ks (Letter c) = record { read = Letter c; known = ks }
read_value ks (Text t) = record { read = Text t; known = ks }
read_value ks (Prim n) = record { read = Prim n; known = ks }
read_value ks (Broken p) = record { read = Broken p; known = ks }
read_value ks (Items k) = record { read = Items k; known = ks }
read_value ks (Ref n) = record { read = Ref (read_name ks n); known = known_after ks n }

unfoldable pub plain_read : Reading (Value (Incoming Name Name)) → Reading (Passed (Incoming Name Name))
plain_read r = record { read = Plain r.read; known = r.known }

unfoldable pub many_read : Reading (Passeds (Incoming Name Name)) → Reading (Passed (Incoming Name Name))
many_read r = record { read = Many r.read; known = r.known }

unfoldable pub more_read : Passed (Incoming Name Name) → Reading (Passeds (Incoming Name Name)) → Reading (Passeds (Incoming Name Name))
more_read x r = record { read = More x r.read; known = r.known }

unfoldable mutual
  pub read_passed : Passed Name → List Name → Reading (Passed (Incoming Name Name))
  read_passed (Plain y) ks = plain_read (read_value ks y)
  read_passed (AGift h i) ks = record { read = AGift h i; known = ks ++ Gift h i ∷ [] }
  read_passed (Many ys) ks = many_read (read_all ys ks)

  pub read_all : Passeds Name → List Name → Reading (Passeds (Incoming Name Name))
  read_all NoMore ks = record { read = NoMore; known = ks }
  read_all (More y ys) ks = more_read (read_passed y ks).read (read_all ys (read_passed y ks).known)

unfoldable pub read_note : List Name → Note Name → Note (Incoming Name Name)
read_note ks (Deliver d n verb ys) = Deliver (record { message = New d.message (host_of d.message); asks = d.asks; answer = None }) (read_name (read_all ys ks).known n) verb (read_all ys ks).read
read_note ks (Open i n) = Open i (read_name ks n)
read_note ks (Ask p i n) = Ask p i (read_name ks n)
read_note ks (SettledTo n y) = SettledTo (read_name ks n) (read_passed y (known_after ks n)).read
read_note ks (Elsewhere n c) = Elsewhere (read_name ks n) c
read_note ks (Shorten n c i) = Shorten (read_name ks n) c i

unfoldable pub names_of : Vat Name → List Name
names_of s = map (λ k. k.name) s.known

-- ---- the start

unfoldable pub known_root : ℕ → Known Name
known_root w = begun (Root w) w

-- the vats, from number u on, that know that one
unfoldable pub knowers : ℕ → ℕ → List Program → List ℕ
knowers v u [] = []
knowers v u (p ∷ ps) = elim (is_in v p.knows) [ true ↦ u ∷ knowers v (suc u) ps | false ↦ knowers v (suc u) ps ]

-- a vat at the start: it knows its own root and then those of its list, and of its own root each vat that knows it is to be told
unfoldable pub fresh : Script → ℕ → Program → Vat Name
fresh script v p = record {
  number = v;
  fuel = script.fuel;
  drawn = [];
  things = [];
  slots = [];
  lists = [];
  activations = zero;
  messages = zero;
  promises = zero;
  queue = [];
  known = record (known_root v) { told = knowers v zero script.vats } ∷ map known_root p.knows;
  mails = [];
  gifts = [];
  noticed = [];
  outbox = [];
  happened = [];
}

unfoldable pub fresh_from : Script → ℕ → List Program → List (Vat Name)
fresh_from script v [] = []
fresh_from script v (p ∷ ps) = fresh script v p ∷ fresh_from script (suc v) ps

unfoldable pub roots_for : ℕ → Program → List Name
roots_for v p = elim (is_in v p.knows) [ true ↦ Root v ∷ [] | false ↦ [] ]

unfoldable pub links_to : ℕ → ℕ → List Program → List Link
links_to v w [] = []
links_to v w (p ∷ ps) = elim (v == w) [
  | true ↦ links_to v (suc w) ps
  | false ↦ record { from = v; to = w; cut = false; notes = []; roots = roots_for v p; log = [] } ∷ links_to v (suc w) ps
]

unfoldable pub links_from : List Program → ℕ → List Program → List Link
links_from all v [] = []
links_from all v (p ∷ ps) = links_to v zero all ++ links_from all (suc v) ps

-- what vat v, of program p, has for vat w, of program q: its own root, where that one knows it, and that one's
unfoldable pub first_connection : ℕ → ℕ → Program → Program → Connected
first_connection v w p q = record { from = v; to = w; tables = record { exports = roots_for v q; imports = roots_for w p; questions = []; answers = [] }; written = []; heard = zero }

unfoldable pub connections_to : ℕ → Program → ℕ → List Program → List Connected
connections_to v p w [] = []
connections_to v p w (q ∷ qs) = elim (v == w) [
  | true ↦ connections_to v p (suc w) qs
  | false ↦ first_connection v w p q ∷ connections_to v p (suc w) qs
]

unfoldable pub connections_from : List Program → ℕ → List Program → List Connected
connections_from all v [] = []
connections_from all v (p ∷ ps) = connections_to v p zero all ++ connections_from all (suc v) ps

unfoldable pub begins : Script → World
begins script = record {
  fuel = script.fuel;
  drawn = [];
  vats = fresh_from script zero script.vats;
  links = links_from script.vats zero script.vats;
  connections = connections_from script.vats zero script.vats;
  history = [];
}

unfoldable pub name_at : List Program → ℕ → Words
name_at ps v = elim (slice_get ps v) [ Some p ↦ p.name | None ↦ [] ]

unfoldable pub tree_at : List Program → ℕ → List Node
tree_at ps v = elim (slice_get ps v) [ Some p ↦ p.tree | None ↦ [] ]

-- each vat that is known is a noun for its root
unfoldable pub given : List Program → List ℕ → List (Binding Name)
given ps [] = []
given ps (w ∷ ws) = record { noun = name_at ps w; bound = Fixed (Ref (Root w)) any_guard } ∷ given ps ws

-- ---- steps

module _ (script : Script) where
  -- how vat v names things
  unfoldable pub names : ℕ → Naming Name Name
  names v = naming (draw_word script.key) v

  unfoldable pub open_vat : ℕ → Program → World → Run
  open_vat v p w = within v w (Opens v ∷ []) v (opening (names v) p.tree script.depth (Root v) (given script.vats p.knows)) (slice_get w.vats v)

  -- the opening turns, from vat v on
  unfoldable pub open_from : ℕ → List Program → World → Run
  open_from v [] w = Goes w
  open_from v (p ∷ ps) w = then_goes (open_vat v p w) (open_from (suc v) ps)

  -- entries are numbered from 1; steps are counted from 0 over the opening turns and then the entries
  unfoldable pub step_number : ℕ → ℕ
  step_number k = length script.vats + pred k

  unfoldable pub idle : ℕ → World → Run
  idle k w = Goes (record w { history = w.history ++ Idle k ∷ [] })

  unfoldable pub turn_queue : ℕ → ℕ → World → Vat Name → List (Message Name) → Run
  turn_queue k v w s [] = idle k w
  turn_queue k v w s (m ∷ ms) = within v w (Turned k v ∷ []) (step_number k) (taking (names v) (tree_at script.vats v) script.depth m) (Some (record s { queue = ms }))

  -- the first entry of the queue is taken
  unfoldable pub turn : ℕ → ℕ → World → Option (Vat Name) → Run
  turn k v w None = idle k w
  turn k v w (Some s) = turn_queue k v w s s.queue

  unfoldable pub arrives : ℕ → ℕ → ℕ → World → Note Name → Option (Vat Name) → Run
  arrives k v w world n None = idle k world
  arrives k v w world n (Some s) = within w world (Carried k v w n (next_frame v w world.connections) ∷ []) (step_number k) (arrive (names w) v (read_note (names_of s) n)) (Some s)

  unfoldable pub carry_notes : ℕ → ℕ → ℕ → World → List (Note Name) → Run
  carry_notes k v w world [] = idle k world
  carry_notes k v w world (n ∷ ns) = arrives k v w (record world { links = with_link (with_notes ns) v w world.links }) n (slice_get world.vats w)

  unfoldable pub carry_link : ℕ → ℕ → ℕ → World → Option Link → Run
  carry_link k v w world None = idle k world
  carry_link k v w world (Some l) = elim l.cut [ true ↦ idle k world | false ↦ carry_notes k v w world l.notes ]

  unfoldable pub lost_by : List (Note Name) → List Event
  lost_by [] = []
  lost_by (Deliver d n verb ys ∷ ns) = LostCut d.message ∷ lost_by ns
  lost_by (n ∷ ns) = lost_by ns

  unfoldable pub lost_on : Option Link → List Event
  lost_on None = []
  lost_on (Some l) = lost_by l.notes

  -- the notes of both directions are lost, and each later one
  unfoldable pub cut : ℕ → ℕ → ℕ → World → Run
  cut k v w world = Goes (record world {
    links = with_link severed_link w v (with_link severed_link v w world.links);
    history = world.history ++ CutAt k v w ∷ (lost_on (link_at v w world.links) ++ lost_on (link_at w v world.links));
  })

  unfoldable pub step : Entry → ℕ → World → Run
  step (Turn v) k w = turn k v w (slice_get w.vats v)
  step (Carry v w) k world = carry_link k v w world (link_at v w world.links)
  step (CutLink v w) k world = cut k v w world
  step (NoticeLink v w) k world = within v world (NoticedAt k v w ∷ []) (step_number k) (notice (names v) w) (slice_get world.vats v)

  unfoldable pub steps_from : List Entry → ℕ → World → Run
  steps_from [] k w = Goes w
  steps_from (e ∷ es) k w = then_goes (step e k w) (steps_from es (suc k))

  -- ---- the closing list

  unfoldable pub left_held : ℕ → List (Known Name) → List Event
  left_held v [] = []
  left_held v (k ∷ ks) = map (λ m. LeftHeld v k.name m.id) k.held ++ left_held v ks

  unfoldable pub left_wait : ℕ → List (Known Name) → List Event
  left_wait v [] = []
  left_wait v (k ∷ ks) = map (λ m. LeftWait v k.name m.id) k.reactions ++ left_wait v ks

  unfoldable pub left_vat : Vat Name → List Event
  left_vat s = map (λ m. LeftQueue s.number m.id) s.queue ++ left_held s.number s.known ++ left_wait s.number s.known

  unfoldable pub left_vats : List (Vat Name) → List Event
  left_vats [] = []
  left_vats (s ∷ ss) = left_vat s ++ left_vats ss

  unfoldable pub left_links : List Link → List Event
  left_links [] = []
  left_links (l ∷ ls) = map (λ n. LeftLink l.from l.to n) l.notes ++ left_links ls

  unfoldable pub close : World → Run
  close w = Goes (record w { history = w.history ++ left_vats w.vats ++ left_links w.links ++ Ends ∷ [] })

  -- the whole run
  unfoldable pub run : Run
  run = then_goes (open_from zero script.vats (begins script)) (λ w. then_goes (steps_from script.schedule 1 w) close)

-- ---- rounds

-- a turn of each of n vats, from v on
unfoldable pub turns_of : ℕ → ℕ → List Entry
turns_of v zero = []
turns_of v (suc n) = Turn v ∷ turns_of (suc v) n

unfoldable pub carries_to : ℕ → ℕ → ℕ → List Entry
carries_to v w zero = []
carries_to v w (suc n) = elim (v == w) [ true ↦ carries_to v (suc w) n | false ↦ Carry v w ∷ carries_to v (suc w) n ]

unfoldable pub carries_of : ℕ → ℕ → ℕ → List Entry
carries_of n v zero = []
carries_of n v (suc m) = carries_to v zero n ++ carries_of n (suc v) m

-- so many rounds of n vats: a turn of each, and a carry of each ordered pair
unfoldable pub drain : ℕ → ℕ → List Entry
drain n zero = []
drain n (suc rounds) = turns_of zero n ++ carries_of n zero n ++ drain n rounds

-- opens each definition of this file, and of those below
unfoldable pub opened_world : Unit {0}
unfolding then_goes is_link link_at with_link cut_in is_cut pushed push_all with_notes severed_link event_of events_of put_at heard_by connections_after next_frame put_back readied within has_name is_old read_name known_after read_value plain_read many_read more_read read_passed read_all read_note names_of known_root knowers fresh fresh_from roots_for links_to links_from first_connection connections_to connections_from begins name_at tree_at given names open_vat open_from step_number idle turn_queue turn arrives carry_notes carry_link lost_by lost_on cut step steps_from left_held left_wait left_vat left_vats left_links close run turns_of carries_to carries_of drain opened_arrive opened_eval opened_draws opened_wire
opened_world = tt
