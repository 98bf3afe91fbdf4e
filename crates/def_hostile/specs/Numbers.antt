-- The run of a script in which vats are hostile, where each honest vat goes by its own numbers, and frames stand on the links. Names are for the lines alone.
use Rattle.std.specs.Prelude.{ℕ, zero, suc, Bool, true, false, List, [], ◌∷◌, ◌++◌, Option, Some, None, drop, length, map, slice_get, slice_set}
use Rattle.def_op.specs.Frames.{Operation, spelling}
use Rattle.def_machine.specs.Values.{Name, Sent, Local}
use Rattle.def_machine.specs.State.{Note, Stop, Astray}
use Rattle.def_machine.specs.Arrive.{Incoming}
use Rattle.def_machine.specs.Receive.{receive}
use Rattle.def_machine.specs.Maps as maps
use Rattle.def_run.specs.Connections.{Heard}
use Rattle.def_run.specs.World.{Program, Turn, CutLink, NoticeLink, Carry, Event, Carried, Idle, NoticedAt, LeftLink, Ends, is_cut}
use Rattle.def_run.specs.Vats.{Member, connection_for, heard_in}
use Rattle.def_run.specs.Numbers.{Frame, Way, Vats, Course, Runs, Halts, way_at, with_way, link_of, ready, after_step, begins, numbers, open_member, idle, turn, cut, step, left_members}
use Rattle.def_hostile.specs.Claims.{Claim, gifts_in}
use Rattle.def_hostile.specs.Judge.{Verdict, Lawful, Malformed, verdict}
use Rattle.def_hostile.specs.Hostile.{Play, Doing, Does, Injects, Raw, Line, Told, Injected, NotInjected, Refused, Unread, LeftFrame, frames_at, with_frames, raws_cut, new_names, name_in, is_empty, is_hostile, honest_before, step_of, read_op, raw_of}
use Rattle.def_hostile.specs.Made.{made_by, with_gifts, claim_all, unnamed}
use Rattle.def_hostile.specs.Outsiders.{Outsider, starting, counted, grown}
use Rattle.def_hostile.specs.Arrivals.{counts_in, sees, brings_nothing, entered_note, named_for, standing_in, subject_in, completed, brings, brings_if}
use Rattle.def_hostile.specs.Made.{opened_made}
use Rattle.def_hostile.specs.Outsiders.{opened_outsiders}
use Rattle.def_hostile.specs.Arrivals.{opened_arrivals}

pub record Cast : Type 0 where
  -- In the place of a hostile vat stands a member that takes no step: what it exported, and its names.
  pub vats : Vats
  -- by vat; of honest vats nobody looks at it
  pub outsiders : List Outsider
  -- the injected frames under way, by ordered pairs
  pub raws : List Raw
  -- the gifts that draws made, and those that frames named first
  pub made : List Claim
  pub claims : List Claim
  pub lines : List Line

-- A run, or what is left of it where a step stopped: why, the number of that step (opening turns of honest vats first, then entries, from 0), and what there was before it.
pub data Performed : Type 0 where
  Performs : Cast → Performed
  Ceases : Stop → ℕ → Cast → Performed

unfoldable pub then_performs : Performed → (Cast → Performed) → Performed
then_performs (Performs c) f = f c
then_performs (Ceases e k c) f = Ceases e k c

-- ---- what is told

-- what there is to tell that an earlier state did not
unfoldable pub told_since : Vats → Vats → List Line
told_since w y = map Told (drop (length w.history) y.history)

unfoldable pub tells : Line → Cast → Performed
tells l c = Performs (record c { lines = c.lines ++ l ∷ [] })

-- an event that changes nothing else
unfoldable pub happens : Event → Cast → Performed
happens e c = Performs (record c { vats = record c.vats { history = c.vats.history ++ e ∷ [] }; lines = c.lines ++ Told e ∷ [] })

-- ---- the outcome of a step

unfoldable pub puts_of : Option Member → List Claim
puts_of (Some m) = made_by m.vat.outbox
puts_of None = []

-- the gifts that draws made, once vat u took a step
unfoldable pub made_after : ℕ → Vats → List Claim → List Claim
made_after u y gs = with_gifts (puts_of (slice_get y.members u)) gs

-- what a step of vat u made of the vats
unfoldable pub acted : ℕ → ℕ → Cast → Course → Performed
acted n u c (Runs y) = Performs (record c { vats = y; made = made_after u y c.made; lines = c.lines ++ told_since c.vats y })
acted n u c (Halts e k y) = Ceases e n c

-- the lines of a cut and a notice without the first of each
unfoldable pub lines_behind : Vats → Course → Vats → List Line
lines_behind w (Runs y) z = drop 1 (told_since w y) ++ drop 1 (told_since y z)
lines_behind w (Halts e k y) z = []

module _ (play : Play) where
  -- ---- a frame comes to an honest vat, which receives its note by its own numbers

  unfoldable pub hears : ℕ → ℕ → ℕ → Vats → Frame → Member → Option (Heard Local (Note (Incoming Local Local))) → Course
  hears k v u w x m None = Halts Astray zero w
  hears k v u w x m (Some h) =
      after_step w u (Carried k v u (entered_note (is_empty play.hostile) w.members v u m x.note) (spelling x.op) ∷ []) zero m
      (brings_if (brings_nothing (numbers play.script) v m h.read) m (brings (is_empty play.hostile) w.members v u x h m))
      (receive (numbers play.script) (sees v m) v h.read (ready w m.vat))

  unfoldable pub arrives : ℕ → ℕ → ℕ → Vats → Frame → Option Member → Course
  arrives k v u w x None = idle play.script k w
  arrives k v u w x (Some m) = hears k v u w x m (heard_in v x.op m)

  -- ---- what an honest vat put is carried

  -- once the frame is off its way; a hostile vat does nothing with it
  unfoldable pub comes : Bool → ℕ → ℕ → ℕ → Cast → Vats → Frame → Performed
  comes true k v u c w x = happens (Carried k v u x.note (spelling x.op)) (record c { vats = w })
  comes false k v u c w x = acted (step_of play k) u c (arrives k v u w x (slice_get w.members u))

  unfoldable pub carry_frames : ℕ → ℕ → ℕ → Cast → List Frame → Performed
  carry_frames k v u c [] = happens (Idle k) c
  carry_frames k v u c (x ∷ xs) = comes (is_hostile play u) k v u c (record c.vats { ways = with_way (λ l. record l { frames = xs }) v u c.vats.ways }) x

  unfoldable pub carry_way : ℕ → ℕ → ℕ → Cast → Option Way → Performed
  carry_way k v u c None = happens (Idle k) c
  carry_way k v u c (Some l) = elim l.cut [ true ↦ happens (Idle k) c | false ↦ carry_frames k v u c l.frames ]

  -- ---- an injected frame comes to an honest vat

  -- the link is cut, and noticed where the frame came
  unfoldable pub noticed_after : ℕ → ℕ → ℕ → Course → Course
  noticed_after k h u (Runs y) = step play.script (NoticeLink u h) k y
  noticed_after k h u (Halts e n y) = Halts e n y

  unfoldable pub severed_by : ℕ → ℕ → ℕ → ℕ → Cast → Course → Course → Performed
  severed_by k h u place c halfway (Runs z) =
      Performs (record c { vats = z; raws = raws_cut h u c.raws; made = made_after u z c.made; lines = c.lines ++ Refused k h u place ∷ lines_behind c.vats halfway z })
  severed_by k h u place c halfway (Halts e n z) = Ceases e (step_of play k) c

  unfoldable pub malformed : ℕ → ℕ → ℕ → ℕ → Cast → Performed
  malformed k h u place c = severed_by k h u place c (cut play.script k h u c.vats) (noticed_after k h u (cut play.script k h u c.vats))

  -- the vats once the frame made these names
  unfoldable pub with_new : ℕ → ℕ → List Bool → Outsider → Member → Vats → Vats
  with_new h u kinds o g w = record w { members = slice_set w.members h (grown h u kinds o g) }

  -- The frame says this note to vat u, which is m: it makes its names, and the note comes in as any other.
  unfoldable pub said : ℕ → ℕ → ℕ → Operation → List Bool → Note Name → Outsider → Member → Member → Cast → Performed
  said k h u op kinds n o g m c =
      acted (step_of play k) u
      (record c { outsiders = slice_set c.outsiders h (counted kinds n o); claims = claim_all c.made (gifts_in u n) c.claims })
      (arrives k h u (with_new h u kinds o g c.vats) (record { note = n; op = op }) (Some m))

  -- what stopped leaves what there was before
  unfoldable pub or_before : Cast → Performed → Performed
  or_before c (Performs y) = Performs y
  or_before c (Ceases e k y) = Ceases e k c

  -- One that brings nothing is a line and nothing else.
  unfoldable pub spoken : ℕ → ℕ → ℕ → Operation → List ℕ → List Bool → Note Name → Outsider → Member → Member → Cast → Bool → Performed
  spoken k h u op bytes kinds n o g m c true = happens (Carried k h u (unnamed c.made c.claims n) bytes) c
  spoken k h u op bytes kinds n o g m c false = or_before c (said k h u op kinds n o g m c)

  -- what it says, in names, where vat u hears that
  unfoldable pub heard_note : ℕ → ℕ → ℕ → Operation → List ℕ → List Bool → Outsider → Member → Member → Cast → Option (Heard Local (Note (Incoming Local Local))) → Option (Heard Name (Note (Incoming Name Name))) → Performed
  heard_note k h u op bytes kinds o g m c None y = Ceases Astray (step_of play k) c
  heard_note k h u op bytes kinds o g m c (Some x) None = Ceases Astray (step_of play k) c
  heard_note k h u op bytes kinds o g m c (Some x) (Some y) =
      spoken k h u op bytes kinds (completed u (standing_in (numbers play.script) m.vat (subject_in x.read)) (maps.note name_in y.read)) o g m c
      (brings_nothing (numbers play.script) h m x.read)

  unfoldable pub lawful : ℕ → ℕ → ℕ → Operation → List ℕ → List Bool → Cast → Member → Option Outsider → Option Member → Performed
  lawful k h u op bytes kinds c m None g = Ceases Astray (step_of play k) c
  lawful k h u op bytes kinds c m (Some o) None = Ceases Astray (step_of play k) c
  lawful k h u op bytes kinds c m (Some o) (Some g) =
      heard_note k h u op bytes kinds o g m c (heard_in h op m)
      (read_op play h u (named_for c.vats.members h u m) (new_names h o.objects o.promises kinds) (Sent (record { sender = h; number = o.messages })) op)

  unfoldable pub judged_frame : ℕ → ℕ → ℕ → List ℕ → Cast → Member → Verdict → Performed
  judged_frame k h u bytes c m (Malformed place) = malformed k h u place c
  judged_frame k h u bytes c m (Lawful op kinds) = lawful k h u op bytes kinds c m (slice_get c.outsiders h) (slice_get c.vats.members h)

  unfoldable pub frame_for : ℕ → ℕ → ℕ → List ℕ → Cast → Option Member → Performed
  frame_for k h u bytes c None = Ceases Astray (step_of play k) c
  frame_for k h u bytes c (Some m) = judged_frame k h u bytes c m (verdict (length play.script.vats) u h (counts_in (connection_for h m)) bytes)

  unfoldable pub frame_comes : Bool → ℕ → ℕ → ℕ → List ℕ → Cast → Performed
  frame_comes true k h u bytes c = tells (Unread k h u bytes) c
  frame_comes false k h u bytes c = frame_for k h u bytes c (slice_get c.vats.members u)

  -- a frame that was injected is carried, or else what was put
  unfoldable pub carry : ℕ → ℕ → ℕ → Cast → List (List ℕ) → Performed
  carry k v u c [] = carry_way k v u c (way_at v u c.vats.ways)
  carry k v u c (f ∷ fs) = or_before c (frame_comes (is_hostile play u) k v u f (record c { raws = with_frames (λ old. fs) v u c.raws }))

  -- frames are injected on links of hostile vats
  unfoldable pub does_carry : Bool → ℕ → ℕ → ℕ → Cast → Performed
  does_carry true k v u c = carry k v u c (frames_at v u c.raws)
  does_carry false k v u c = carry_way k v u c (way_at v u c.vats.ways)

  -- ---- the entries

  unfoldable pub does_turn : Bool → ℕ → ℕ → Cast → Performed
  does_turn true k v c = happens (Idle k) c
  does_turn false k v c = acted (step_of play k) v c (turn play.script k v c.vats (slice_get c.vats.members v))

  unfoldable pub does_notice : Bool → ℕ → ℕ → ℕ → Cast → Performed
  does_notice true k v w c = happens (NoticedAt k v w) c
  does_notice false k v w c = acted (step_of play k) v c (step play.script (NoticeLink v w) k c.vats)

  unfoldable pub injects : Bool → ℕ → ℕ → ℕ → List ℕ → Cast → Performed
  injects true k h w bytes c = tells (NotInjected k h w) c
  injects false k h w bytes c = tells (Injected k h w bytes) (record c { raws = with_frames (λ fs. fs ++ bytes ∷ []) h w c.raws })

  unfoldable pub does : Doing → ℕ → Cast → Performed
  does (Does (Turn v)) k c = does_turn (is_hostile play v) k v c
  does (Does (Carry v w)) k c = does_carry (is_hostile play v) k v w c
  does (Does (CutLink v w)) k c = acted (step_of play k) v (record c { raws = raws_cut v w c.raws }) (step play.script (CutLink v w) k c.vats)
  does (Does (NoticeLink v w)) k c = does_notice (is_hostile play v) k v w c
  does (Injects h w bytes) k c = injects (is_cut h w (map link_of c.vats.ways)) k h w bytes c

  unfoldable pub does_all : List Doing → ℕ → Cast → Performed
  does_all [] k c = Performs c
  does_all (d ∷ ds) k c = then_performs (does d k c) (does_all ds (suc k))

  -- ---- the opening turns, and what is left

  unfoldable pub opens : Bool → ℕ → Program → Cast → Performed
  opens true v p c = Performs c
  opens false v p c = acted (honest_before play v) v c (open_member play.script v p c.vats (slice_get c.vats.members v))

  unfoldable pub opens_from : ℕ → List Program → Cast → Performed
  opens_from v [] c = Performs c
  opens_from v (p ∷ ps) c = then_performs (opens (is_hostile play v) v p c) (opens_from (suc v) ps)

  unfoldable pub starts : Cast
  starts = record { vats = begins play.script; outsiders = starting play.script.vats; raws = map (λ l. raw_of play (link_of l)) (begins play.script).ways; made = []; claims = []; lines = [] }

  unfoldable pub left_ways : List Raw → List Way → List Line
  left_ways rs [] = []
  left_ways rs (l ∷ ls) = map (λ x. Told (LeftLink l.from l.to x.note)) l.frames ++ map (LeftFrame l.from l.to) (frames_at l.from l.to rs) ++ left_ways rs ls

  unfoldable pub closes : Cast → Performed
  closes c = Performs (record c { lines = c.lines ++ map Told (left_members play.script c.vats.members zero c.vats.members) ++ left_ways c.raws c.vats.ways ++ Told Ends ∷ [] })

  -- the whole run
  unfoldable pub performs : Performed
  performs = then_performs (opens_from zero play.script.vats starts) (λ c. then_performs (does_all play.doings 1 c) closes)

-- opens each definition of this file, and of those below
unfoldable pub opened_hostile_numbers : Unit {0}
unfolding then_performs told_since tells happens puts_of made_after acted lines_behind hears arrives comes carry_frames carry_way noticed_after severed_by malformed with_new said or_before spoken heard_note lawful judged_frame frame_for frame_comes carry does_carry does_turn does_notice injects does does_all opens opens_from starts left_ways closes performs opened_made opened_outsiders opened_arrivals
opened_hostile_numbers = tt
