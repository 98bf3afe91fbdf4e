-- The state of a run while a frame that was taken from its way arrives.
use Rattle.std.specs.Prelude.{◌≡◌, ℕ, List, [], ◌∷◌, Result, Ok, Err, Some, length, slice_get}
use Rattle.def_event.specs.declared.event.Event.{Event as ShownEvent}
use Rattle.def_event.specs.declared.event.Event.TheVariants as line
use Rattle.def_run.specs.Numbers.{Brought, Vats, brought, carried_in, left_by, step, step_number}
use Rattle.def_run.specs.Vats.{Member, connection_for}
use Rattle.def_machine.specs.State as machine
use Rattle.def_machine.specs.State.{Note}
use Rattle.def_machine.specs.Values.{Local, Name}
use Rattle.def_run.specs.World.{Carry, Event, Script}
use Rattle.ev_resident.specs.MemberHearing.{Brings, HeardNote}
use Rattle.ev_resident.specs.MemberStanding.{IsMember}
use Rattle.ev_resident.specs.Names.{Entry, carried_mails}
use Rattle.ev_resident.specs.NamesStanding.{Says, mails_of, words_of}
use Rattle.ev_resident.specs.OutcomeStanding.{NamesStand, ObjectsStand}
use Rattle.ev_wire.specs.declared.news.News.{News}
use Rattle.ev_resident.specs.declared.VatStop.{VatStop}
use Rattle.ev_resident.specs.declared.resident.Resident.{Resident}
use Rattle.ev_step_text.specs.Accounts.{More}
use Rattle.ev_step_text.specs.declared.account.Account.{Account}
use Rattle.ev_ways.specs.Rows.{Lane}
use Rattle.ev_ways.specs.Standing.{asks_in}
use Rattle.ev_ways.specs.declared.frame.Frame.{Frame}
use Rattle.ev_world.specs.Midway.{IsMidway}
use Rattle.ev_world.specs.Standing.{Comes, CourseIs, IsWorld, told_so}
use Rattle.ev_world.specs.declared.carrying.Heard.{Heard}
use Rattle.ev_world.specs.declared.world.World.{World}

-- the state with these ways
abbrev pub with_ways : List (List Lane) → World → World
with_ways rows c = record c { ways = rows }

-- These vats are p at place v and m at place u, in the code e and r: m heard this note of p and has taken the step that it began, and so much
-- stood at positions before.
pub record HeardFrom (rs : List Resident) (v u first : ℕ) (news : News) (k : Frame) (ms : List Member) (p m : Member) (h : HeardNote) (n : Note Name) (e r : Resident) : Type 0 where
  pub sender : slice_get rs v ≡ Some e
  pub receiver : slice_get rs u ≡ Some r
  pub there : slice_get ms v ≡ Some p
  pub member : IsMember p e.member
  pub names : NamesStand (words_of r.member.vat.host.inside.words) v p.vat p.names e.names
  pub objects : ObjectsStand ms v e.names.naming.objects
  pub first_is : first ≡ length (connection_for v m).imports
  pub brings : Brings v m h news
  pub message : mails_of (carried_mails k.message) ≡ carried_in n
  pub asks : k.asks ≡ asks_in n

-- that is what a frame told of numbers
abbrev pub TellsFrame : List Resident → ℕ → ℕ → ℕ → News → Frame → List Entry → Type 0
TellsFrame rs v u first news k told = (ms : List Member) (p m : Member) (h : HeardNote) (n : Note Name) (e r : Resident) → HeardFrom rs v u first news k ms p m h n e r
    → Says r.member.vat.host.inside.words told (brought ms v u n h m)

-- the lines that tell of a note that was carried, and of its frame
abbrev pub note_lines : ℕ → ℕ → ℕ → Frame → List ShownEvent
note_lines k v u x = line.Carry k v u x.note ∷ line.Frame x.bytes ∷ []

-- Vat u heard this frame of vat v in entry k: once that is told, and what is left to do in the step is done, the run is where the entry
-- leads. Where the vat stopped, the entry stops so.
abbrev pub HearsFrame : Script → Vats → ℕ → ℕ → ℕ → Frame → World → Result Heard VatStop → Type 0
HearsFrame S w v u k fr c (Ok h) = (told : Account) (e : World) → More c.history told (told_so c.wire (note_lines k v u fr))
    → ((z : Vats) (y : Member) (head : List Event) (g : Brought) (t : machine.Vat Local) → IsMidway S z u y head g t h.before.items h.sendings.items fr.message h.told (record c { history = told }) → IsWorld S (left_by z u head y g t) e)
    → Comes (λ (y : Vats). IsWorld S y e) (step S (Carry v u) k w)
HearsFrame S w v u k fr c (Err stop) = CourseIs S (Err stop) (step_number S k) (step S (Carry v u) k w) c
