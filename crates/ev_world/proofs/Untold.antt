-- A step does the same whatever was told before, and tells it behind that.
use Rattle.std.proofs.Common.{◌≡◌, ℕ, zero, Bool, true, false, List, [], ◌∷◌, ◌++◌, Option, Some, None, refl, ap, append_assoc}
use Rattle.std.specs.Prelude.{slice_get}
use Rattle.def_run.specs.Numbers.{Brought, Frame, Vats, Way, after_step, arrives, brings, carry_frames, carry_way, close, cut, given, hears, idle, left_by, left_members, left_ways, notice_by, nothing_brought, numbers, open_member, own_step, ready, step, step_number, turn, turn_queue, way_at, with_way}
use Rattle.def_run.specs.Vats.{Member, heard_in}
use Rattle.def_machine.specs.Arrive.{Incoming, arrive, notice}
use Rattle.def_machine.specs.Eval.{opening, taking}
use Rattle.def_machine.specs.State.{Act, Done, Gives, Throws, Ejects, Stops, Message, Note, Vat}
use Rattle.def_machine.specs.Values.{Local, Prom}
use Rattle.def_run.specs.Connections.{Heard}
use Rattle.def_run.specs.World.{Entry, Turn, Carry, CutLink, NoticeLink, Event, Ends, Program, Script, tree_at}
use Rattle.ev_world.specs.Writing.{IsBehind, untold}

after_behind : (w : Vats) (u : ℕ) (head : List Event) (k : ℕ) (m : Member) (b : Vat Local → Brought) (d : Done Local (Unit {0})) → IsBehind w (after_step w u head k m b d) (after_step (untold w) u head k m b d)
unfolding after_step left_by
after_behind w u head k m b (Gives a s) =
    ap (λ (es : List Event). record (left_by w u head m (b s) s) { history = es }) (append_assoc w.history head (left_by (untold w) u [] m (b s) s).history)
after_behind w u head k m b (Throws p s) = (refl, refl, refl, refl)
after_behind w u head k m b (Ejects n x s) = (refl, refl, refl, refl)
after_behind w u head k m b (Stops c s) = (refl, refl, refl, refl)

own_behind : (w : Vats) (u : ℕ) (head : List Event) (k : ℕ) (m : Member) (act : Act Local (Unit {0})) → IsBehind w (own_step w u head k m act) (own_step (untold w) u head k m act)
unfolding own_step ready
own_behind w u head k m act = after_behind w u head k m (λ s. nothing_brought m) (act (ready w m.vat))

module _ (S : Script) where
  idle_behind : (k : ℕ) (w : Vats) → IsBehind w (idle S k w) (idle S k (untold w))
  unfolding idle
  idle_behind k w = refl

  pub open_behind : (u : ℕ) (p : Program) (w : Vats) (o : Option Member) → IsBehind w (open_member S u p w o) (open_member S u p (untold w) o)
  unfolding open_member
  open_behind u p w None = (refl, refl, refl, refl)
  open_behind u p w (Some m) = own_behind w u _ u m (opening (numbers S) p.tree S.depth (Prom zero) (given S.vats 1 p.knows))

  queue_behind : (k u : ℕ) (w : Vats) (m : Member) (xs : List (Message Local)) → IsBehind w (turn_queue S k u w m xs) (turn_queue S k u (untold w) m xs)
  unfolding turn_queue ready
  queue_behind k u w m [] = idle_behind k w
  queue_behind k u w m (x ∷ xs) =
      after_behind w u _ (step_number S k) m (λ s. nothing_brought m) (taking (numbers S) (tree_at S.vats u) S.depth x (record (ready w m.vat) { queue = xs }))

  turn_behind : (k u : ℕ) (w : Vats) (o : Option Member) → IsBehind w (turn S k u w o) (turn S k u (untold w) o)
  unfolding turn
  turn_behind k u w None = idle_behind k w
  turn_behind k u w (Some m) = queue_behind k u w m m.vat.queue

  hears_behind : (k v u : ℕ) (w : Vats) (x : Frame) (m : Member) (o : Option (Heard Local (Note (Incoming Local Local)))) → IsBehind w (hears S k v u w x m o) (hears S k v u (untold w) x m o)
  unfolding hears brings ready
  hears_behind k v u w x m None = (refl, refl, refl, refl)
  hears_behind k v u w x m (Some h) = after_behind w u _ (step_number S k) m (brings S w v u x h m) (arrive (numbers S) v h.read (ready w m.vat))

  arrives_behind : (k v u : ℕ) (w : Vats) (x : Frame) (o : Option Member) → IsBehind w (arrives S k v u w x o) (arrives S k v u (untold w) x o)
  unfolding arrives
  arrives_behind k v u w x None = idle_behind k w
  arrives_behind k v u w x (Some m) = hears_behind k v u w x m (heard_in v x.op m)

  frames_behind : (k v u : ℕ) (w : Vats) (xs : List Frame) → IsBehind w (carry_frames S k v u w xs) (carry_frames S k v u (untold w) xs)
  unfolding carry_frames
  frames_behind k v u w [] = idle_behind k w
  frames_behind k v u w (x ∷ xs) = arrives_behind k v u (record w { ways = with_way (λ (l : Way). record l { frames = xs }) v u w.ways }) x (slice_get w.members u)

  uncut_behind : (k v u : ℕ) (w : Vats) (xs : List Frame) (b : Bool) → IsBehind w (elim b [ true ↦ idle S k w | false ↦ carry_frames S k v u w xs ]) (elim b [ true ↦ idle S k (untold w) | false ↦ carry_frames S k v u (untold w) xs ])
  uncut_behind k v u w xs true = idle_behind k w
  uncut_behind k v u w xs false = frames_behind k v u w xs

  way_behind : (k v u : ℕ) (w : Vats) (o : Option Way) → IsBehind w (carry_way S k v u w o) (carry_way S k v u (untold w) o)
  unfolding carry_way
  way_behind k v u w None = idle_behind k w
  way_behind k v u w (Some l) = uncut_behind k v u w l.frames l.cut

  cut_behind : (k v u : ℕ) (w : Vats) → IsBehind w (cut S k v u w) (cut S k v u (untold w))
  unfolding cut
  cut_behind k v u w = refl

  notice_behind : (k v u : ℕ) (w : Vats) (o : Option Member) → IsBehind w (notice_by S k v u w o) (notice_by S k v u (untold w) o)
  unfolding notice_by
  notice_behind k v u w None = (refl, refl, refl, refl)
  notice_behind k v u w (Some m) = own_behind w v _ (step_number S k) m (notice (numbers S) u)

  pub step_behind : (e : Entry) (k : ℕ) (w : Vats) → IsBehind w (step S e k w) (step S e k (untold w))
  unfolding step
  step_behind (Turn u) k w = turn_behind k u w (slice_get w.members u)
  step_behind (Carry v u) k w = way_behind k v u w (way_at v u w.ways)
  step_behind (CutLink v u) k w = cut_behind k v u w
  step_behind (NoticeLink v u) k w = notice_behind k v u w (slice_get w.members v)

  pub close_behind : (w : Vats) → IsBehind w (close S w) (close S (untold w))
  unfolding close
  close_behind w =
      let members : List Event = left_members S w.members zero w.members in
      let ways : List Event = left_ways S w.ways in
      let joined : w.history ++ members ++ ways ++ Ends ∷ [] ≡ w.history ++ (members ++ ways ++ Ends ∷ []) = simp append_assoc in
      ap (λ (es : List Event). record w { history = es }) joined
