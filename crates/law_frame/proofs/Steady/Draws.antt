-- Draws only grow, at the end, in each step of the run in numbers.
use Rattle.std.proofs.Common.{◌≡◌, ℕ, Bool, true, false, List, [], ◌∷◌, ◌++◌, Option, Some, None, refl, sym, ap, ◌∙◌, append-nil}
use Rattle.std.specs.Prelude.{slice_get}
use Rattle.def_machine.specs.Values.{Local, Prom}
use Rattle.def_machine.specs.State.{Message, Note, Vat, Done, Gives}
use Rattle.def_machine.specs.Arrive.{Incoming}
use Rattle.law_machine.specs.Machine.Steps.{Step, Opens as Starts, Takes, Receives, Notices, After, does}
use Rattle.law_machine.specs.Machine.Laws.{SameDraws}
use Rattle.law_machine.proofs.Machine.StepLaws.{draws_stays}
use Rattle.def_run.specs.Connections.{Heard}
use Rattle.def_run.specs.World.{Script, Program, Entry, Turn, Carry, CutLink, NoticeLink, Event, Opens, Turned, Carried, NoticedAt, tree_at}
use Rattle.def_op.specs.Frames.{spelling}
use Rattle.law_frame.proofs.Stopping.Later.{stays_front}
use Rattle.def_run.specs.Vats.{Member, heard_in}
use Rattle.def_run.specs.Numbers as numbers
use Rattle.def_run.specs.Numbers.{Vats, Course, Runs, Halts, Way, Frame, Brought, way_at, with_way}

-- where it goes on, these were drawn first
abbrev pub DrawsOn : List ℕ → Course → Type 0
DrawsOn d (Runs y) = (l : List ℕ) × (y.drawn ≡ d ++ l)
DrawsOn d (Halts c n y) = Unit {0}

none_more : (d : List ℕ) → (l : List ℕ) × (d ≡ d ++ l)
none_more d = ([], sym (append-nil d))

after_draws : (w : Vats) (u : ℕ) (head : List Event) (n : ℕ) (m : Member) (b : Vat Local → Brought) (s : Vat Local) (o : Done Local (Unit {0})) → s.drawn ≡ w.drawn → After SameDraws s o → DrawsOn w.drawn (numbers.after_step w u head n m b o)
unfolding numbers.after_step numbers.left_by
after_draws w u head n m b s (Gives a t) e h = let f = stays_front s.drawn t.drawn h in (f.0, f.1 ∙ ap (λ z. z ++ f.0) e)
after_draws w u head n m b s other e h = tt

module _ (script : Script) where
  -- a step of vat u from that state
  step_draws : (w : Vats) (u : ℕ) (head : List Event) (n : ℕ) (m : Member) (b : Vat Local → Brought) (s : Vat Local) (what : Step Local Local) → s.drawn ≡ w.drawn → DrawsOn w.drawn (numbers.after_step w u head n m b (does (numbers.numbers script) what s))
  step_draws w u head n m b s what e = after_draws w u head n m b s (does (numbers.numbers script) what s) e (draws_stays (numbers.numbers script) what s)

  idle_draws : (k : ℕ) (w : Vats) → DrawsOn w.drawn (numbers.idle script k w)
  unfolding numbers.idle
  idle_draws k w = none_more w.drawn

  queue_draws : (k u : ℕ) (w : Vats) (m : Member) (ms : List (Message Local)) → DrawsOn w.drawn (numbers.turn_queue script k u w m ms)
  unfolding numbers.turn_queue does numbers.ready
  queue_draws k u w m [] = idle_draws k w
  queue_draws k u w m (x ∷ xs) = step_draws w u (Turned k u ∷ []) (numbers.step_number script k) m (λ s. numbers.nothing_brought m) (record (numbers.ready w m.vat) { queue = xs }) (Takes (tree_at script.vats u) script.depth x) refl

  turn_draws : (k u : ℕ) (w : Vats) (o : Option Member) → DrawsOn w.drawn (numbers.turn script k u w o)
  unfolding numbers.turn
  turn_draws k u w None = idle_draws k w
  turn_draws k u w (Some m) = queue_draws k u w m m.vat.queue

  hears_draws : (k v u : ℕ) (w : Vats) (x : Frame) (m : Member) (o : Option (Heard Local (Note (Incoming Local Local)))) → DrawsOn w.drawn (numbers.hears script k v u w x m o)
  unfolding numbers.hears does numbers.ready
  hears_draws k v u w x m None = tt
  hears_draws k v u w x m (Some h) = step_draws w u (Carried k v u x.note (spelling x.op) ∷ []) (numbers.step_number script k) m (numbers.brings script w v u x h m) (numbers.ready w m.vat) (Receives v h.read) refl

  arrives_draws : (k v u : ℕ) (w : Vats) (x : Frame) (o : Option Member) → DrawsOn w.drawn (numbers.arrives script k v u w x o)
  unfolding numbers.arrives
  arrives_draws k v u w x None = idle_draws k w
  arrives_draws k v u w x (Some m) = hears_draws k v u w x m (heard_in v x.op m)

  frames_draws : (k v u : ℕ) (w : Vats) (xs : List Frame) → DrawsOn w.drawn (numbers.carry_frames script k v u w xs)
  unfolding numbers.carry_frames
  frames_draws k v u w [] = idle_draws k w
  frames_draws k v u w (x ∷ xs) = arrives_draws k v u (record w { ways = with_way (λ l. record l { frames = xs }) v u w.ways }) x (slice_get w.members u)

  uncut_draws : (k v u : ℕ) (w : Vats) (l : Way) (b : Bool) → DrawsOn w.drawn (elim b [ true ↦ numbers.idle script k w | false ↦ numbers.carry_frames script k v u w l.frames ])
  uncut_draws k v u w l true = idle_draws k w
  uncut_draws k v u w l false = frames_draws k v u w l.frames

  way_draws : (k v u : ℕ) (w : Vats) (o : Option Way) → DrawsOn w.drawn (numbers.carry_way script k v u w o)
  unfolding numbers.carry_way
  way_draws k v u w None = idle_draws k w
  way_draws k v u w (Some l) = uncut_draws k v u w l l.cut

  notice_draws : (k v u : ℕ) (w : Vats) (o : Option Member) → DrawsOn w.drawn (numbers.notice_by script k v u w o)
  unfolding numbers.notice_by numbers.own_step does numbers.ready
  notice_draws k v u w None = tt
  notice_draws k v u w (Some m) = step_draws w v (NoticedAt k v u ∷ []) (numbers.step_number script k) m (λ s. numbers.nothing_brought m) (numbers.ready w m.vat) (Notices u) refl

  cut_draws : (k v u : ℕ) (w : Vats) → DrawsOn w.drawn (numbers.cut script k v u w)
  unfolding numbers.cut
  cut_draws k v u w = none_more w.drawn

  pub entry_draws : (e : Entry) (k : ℕ) (w : Vats) → DrawsOn w.drawn (numbers.step script e k w)
  unfolding numbers.step
  entry_draws (Turn u) k w = turn_draws k u w (slice_get w.members u)
  entry_draws (Carry v u) k w = way_draws k v u w (way_at v u w.ways)
  entry_draws (CutLink v u) k w = cut_draws k v u w
  entry_draws (NoticeLink v u) k w = notice_draws k v u w (slice_get w.members v)

  pub opening_draws : (u : ℕ) (p : Program) (w : Vats) (o : Option Member) → DrawsOn w.drawn (numbers.open_member script u p w o)
  unfolding numbers.open_member numbers.own_step does numbers.ready
  opening_draws u p w None = tt
  opening_draws u p w (Some m) = step_draws w u (Opens u ∷ []) u m (λ s. numbers.nothing_brought m) (numbers.ready w m.vat) (Starts p.tree script.depth (Prom 0) (numbers.given script.vats 1 p.knows)) refl

-- of a step that goes
pub drawn_on : (d : List ℕ) (c : Course) (y : Vats) → DrawsOn d c → c ≡ Runs y → (l : List ℕ) × (y.drawn ≡ d ++ l)
drawn_on d (Runs z) y h e = let i : z ≡ y = cc in (h.0, ap (λ (w : Vats). w.drawn) (sym i) ∙ h.1)
drawn_on d (Halts c n z) y h e = cc
