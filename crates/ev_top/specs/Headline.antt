-- What holds of the machine's run that a call owes for a script.
use Rattle.std.specs.Prelude.{◌≡◌, ◌⊎◌, ◌≤◌, ◌+◌, ◌*◌, ℕ, zero, true, false, List, ◌∷◌, ◌++◌, length, codes, None, Some, Ok, slice_get}
use Rattle.std.specs.declared.option.Option.{Option}
use Rattle.def_kernel.specs.declared.node.Node.{Node}
use Rattle.def_machine.specs.Values.{Words, Value, Broken, Ref, Name, Foreign, spot_of}
use Rattle.def_machine.specs.State.{Stop, Astray, Vat, is_in}
use Rattle.def_machine.specs.Refs.{follow}
use Rattle.def_run.specs.World as machine
use Rattle.def_run.specs.World.{Program, Entry, NoticeLink, World, Goes, Stopped, begins, names, open_from, run, step, steps_from}
use Rattle.def_run.specs.Text.{text, history_of}
use Rattle.def_event.specs.Order.{JudgesOrder}
use Rattle.def_event.specs.Uses.{JudgesUses}
use Rattle.ev_trace.specs.Reading as trace
use Rattle.law_machine.specs.Machine.Breaks.{settled_value, SeveredStays, NothingOf, HostedBreak}
use Rattle.law_machine.specs.Run.Runs.{EachVat}
use Rattle.law_machine.specs.Halting.Halted.{LeavesOf}
use Rattle.law_machine.specs.Run.Entries.{EntryDoes}
use Rattle.law_reference.specs.Gift.Gifts.{SameGifts}
use Rattle.law_reference.specs.Gift.Unopened.{UnopenedRest, UnopenedBreak}
use Rattle.law_fate.specs.Fates.Fate.{fates, sent}
use Rattle.law_fate.specs.Fates.Carry.{carries}
use Rattle.law_frozen.specs.Runs.{ReachIsFrozenIn}
use Rattle.law_uses.specs.Connectivity.Begotten.{LinesConnected, TakenBegotten}
use Rattle.law_uses.specs.Connectivity.UseLaws.{RunConnected}
use Rattle.law_order.specs.Ordering.Order.{Ordered}
use Rattle.law_text.specs.Text.Runs.{events_of}
use Rattle.law_read.specs.ReadTexts.Runs.{TellsLowOf, trace_of}
use Rattle.ev_reader.specs.declared.accepted.Scoped.{Scoped}
use Rattle.ev_script.specs.declared.script.Script.{Script}
use Rattle.law_read.specs.Generated.Accepted.{generated_script}
use Rattle.ev_top.specs.Causes.{HasPrograms, HasScript, run_of}
use Rattle.law_schedule.specs.Scripts.{machine_script, tree_at}
use Rattle.ev_world.specs.Running.{script_of}
use Rattle.ev_top.specs.Machine.{greatest_depth}
use Rattle.ev_top.specs.Summary.{steps_of}
use Rattle.ev_top.specs.declared.command.Command.{Command}
use Rattle.ev_top.specs.declared.command.Command.TheVariants.{Sum}
use Rattle.ev_io.specs.declared.status.Status.{Status}
use Rattle.ev_io.specs.declared.status.Status.TheVariants.{Usage, ReadFault, TooLong, ScriptRefused}

-- the command runs a script whose programs are read, and this is the machine's
abbrev pub IsToRun : Option Command → List ℕ → machine.Script → Type 0
IsToRun command input script = (read : Script) × (programs : List Scoped) × HasPrograms command input read programs
    × (script ≡ script_of read programs greatest_depth)

-- the run of a script whose programs are read stops in no step as astray
abbrev pub NoRunGoesAstray : Type 0
NoRunGoesAstray = (command : Option Command) (input : List ℕ) (script : Script) (programs : List Scoped) → HasPrograms command input script programs
    → (step : ℕ) (world : World) → run_of script programs ≡ Stopped Astray step world → ⊥

-- ---- the worlds of a run

-- behind all opening turns these entries lead to that world
abbrev pub LeadTo : machine.Script → List Entry → World → Type 0
LeadTo script es world = (opened : World) × (open_from script zero script.vats (begins script) ≡ Goes opened) × (steps_from script es 1 opened ≡ Goes world)

-- The run comes to that world: after some of the opening turns, after all of them and some entries of the schedule, or at its end. One that stops comes to those before the step that stopped.
abbrev pub ComesTo : machine.Script → World → Type 0
ComesTo script world = ((ps rest : List Program) × (script.vats ≡ ps ++ rest) × (open_from script zero ps (begins script) ≡ Goes world))
    ⊎ ((es rest : List Entry) × (script.schedule ≡ es ++ rest) × LeadTo script es world)
    ⊎ (run script ≡ Goes world)

-- Where the run stops, what it leaves is a world that it came to, but for the note that the step took off its link. So the history that is written tells nothing of the step that stopped.
abbrev pub StopsAsItCame : Option Command → List ℕ → Type 0
StopsAsItCame command input = (script : machine.Script) → IsToRun command input script → (stop : Stop) (step : ℕ) (left : World) → run script ≡ Stopped stop step left → (world : World) × ComesTo script world × LeavesOf world left

-- After some entries it comes to the first world, and after some more, or none, to the later one.
abbrev pub GoesOn : machine.Script → World → World → Type 0
GoesOn script first later = (es fs rest : List Entry) × (script.schedule ≡ es ++ fs ++ rest) × LeadTo script es first × (steps_from script fs (1 + length es) first ≡ Goes later)

-- ---- entries

-- Each entry of the schedule does what is there to do, in the world to which the entries before it led, unless it stops: it is idle exactly where nothing is there. A turn takes the first message of its vat's queue, whose other messages stay in front of what comes to be queued;
-- a carry brings the first note of its link; and a cut and a notice are told.
abbrev pub EntriesDoWhatIsThere : Option Command → List ℕ → Type 0
EntriesDoWhatIsThere command input = (script : machine.Script) → IsToRun command input script → (es rest : List Entry) (entry : Entry) (first next : World) → script.schedule ≡ es ++ entry ∷ rest → LeadTo script es first
    → step script entry (1 + length es) first ≡ Goes next → EntryDoes (1 + length es) entry first next

-- ---- messages

-- By the history of a run this message was sent at most once and carried at most twice. At the end it was taken, was lost or stands in the closing list, once where it was sent and else never; where the run stopped, at most so often.
abbrev pub HasOneFate : Name → machine.Run → Type 0
HasOneFate x (Goes w) = (fates x w.history ≡ sent x w.history) × (sent x w.history ≤ 1) × (carries x w.history ≤ 2)
HasOneFate x (Stopped stop step w) = (fates x w.history ≤ sent x w.history) × (sent x w.history ≤ 1) × (carries x w.history ≤ 2)

-- each message, also one that was not sent
abbrev pub MessagesHaveOneFate : Option Command → List ℕ → Type 0
MessagesHaveOneFate command input = (script : machine.Script) → IsToRun command input script → (x : Name) → HasOneFate x (run script)

-- ---- stamps

-- In no vat of any of its worlds does an object that bears DeepFrozen's stamp reach, by captures and members of lists, a var slot or anything that is not frozen.
abbrev pub StampedReachFrozenAlone : Option Command → List ℕ → Type 0
StampedReachFrozenAlone command input = (script : machine.Script) → IsToRun command input script → (world : World) → ComesTo script world → ReachIsFrozenIn script world

-- ---- uses

-- In that run an object uses a reference only by initial conditions, endowment, parenthood or introduction: each step that a vat may begin in any of its worlds is connected, however it ends;
-- each line of the history of each of its worlds is connected in the step that the run took, in which an opening turn is given the roots that its vat knows by the script; and what a message brings that was taken, who sent it knew.
abbrev pub UsesAreConnected : Option Command → List ℕ → Type 0
UsesAreConnected command input = (script : machine.Script) → IsToRun command input script → RunConnected script × ((world : World) → ComesTo script world → LinesConnected script world × TakenBegotten script world)

-- So it is by the lines of its text alone, as `check` judges uses: no line of the history fails, and none of what is read of the text does. The text is read as what a line shows of each event, with the vats numbered as they are found
-- (where the run stops for a word that was drawn before, it is read where the two have numbers below 2^64).
abbrev pub HoldsUses : machine.Script → Type 0
HoldsUses script = JudgesUses (events_of (run script)) None × JudgesUses (trace_of script (run script)).history None
    × (TellsLowOf (run script) → trace.read (text script (run script)) ≡ Ok (trace_of script (run script)))

abbrev pub RunsHoldUses : Option Command → List ℕ → Type 0
RunsHoldUses command input = (script : machine.Script) → IsToRun command input script → HoldsUses script

-- ---- order

-- In that run no object takes a message before each that is before it was taken: what was sent first on a reference, also by who handed it on, comes first.
-- So it is by the lines of its text, as `check` judges the order of messages: neither in the history nor in what is read of the text is a message taken too early.
abbrev pub HoldsOrder : machine.Script → Type 0
HoldsOrder script = Ordered (history_of (run script)) × JudgesOrder (events_of (run script)) None × JudgesOrder (trace_of script (run script)).history None

abbrev pub RunsHoldOrder : Option Command → List ℕ → Type 0
RunsHoldOrder command input = (script : machine.Script) → IsToRun command input script → HoldsOrder script

-- ---- partitions

-- What stays severed at vat v, which is s in one world and t in a later one, or in the same.
pub record StaysSevered (script : machine.Script) (v : ℕ) (s t : Vat Name) : Type 0 where
  -- what it followed to a broken reference it follows to that one
  pub broken : (x : Value Name) (p : Words) → follow (names script v) s x ≡ Broken p → follow (names script v) t x ≡ Broken p
  -- what settlings had led to an object of a vat whose cut it had noticed is broken by the partition
  pub objects : (x : Value Name) (m : Name) (host : ℕ) → settled_value (names script v) s x ≡ Ref m → spot_of v m ≡ Foreign host → is_in host s.noticed ≡ true
      → follow (names script v) t x ≡ Broken (codes "partition")
  -- and nothing that it follows has the host of a cut that it had noticed
  pub apart : SeveredStays (names script v) s t
  -- its gifts keep their places, and once opened they stay opened
  pub gifts : SameGifts s t
  -- and each gift that was not opened did not settle, or it is broken
  pub unopened : UnopenedRest script v s

-- Where a notice of vat w at vat v stands between two worlds, in the later one that cut is noticed, and nothing that v follows has host w. Where it is the first such notice, each name of host w that v knew by then,
-- and that neither had settled nor was viewed, is broken, and each gift of provider w that was not opened by then.
abbrev pub NoticesSever : machine.Script → Type 0
NoticesSever script = (first later : World) (es fs rest : List Entry) (v w : ℕ) → script.schedule ≡ es ++ (NoticeLink v w ∷ fs) ++ rest → LeadTo script es first → steps_from script (NoticeLink v w ∷ fs) (1 + length es) first ≡ Goes later
    → (s : Vat Name) → slice_get first.vats v ≡ Some s → (t : Vat Name) × (slice_get later.vats v ≡ Some t) × (is_in w t.noticed ≡ true) × NothingOf (names script v) w t
    × (is_in w s.noticed ≡ false → HostedBreak (names script v) w s t × UnopenedBreak script v w s t)

-- From each world to which entries lead on, what is broken or severed at a vat stays so; and what a notice severs and breaks is severed and broken for good.
abbrev pub SeveredStaysBroken : Option Command → List ℕ → Type 0
SeveredStaysBroken command input = (script : machine.Script) → IsToRun command input script → ((first later : World) → GoesOn script first later
    → EachVat (λ v s t. StaysSevered script v s t) first later) × NoticesSever script

-- ---- summaries

-- a status that a summary may have: no fault of reading, and no refusal of bytes
abbrev pub IsOfSum : Status → Type 0
IsOfSum Usage = ⊥
IsOfSum ReadFault = ⊥
IsOfSum TooLong = ⊥
IsOfSum (ScriptRefused rule) = ⊥
IsOfSum _ = Unit {0}

-- Where a summary is asked for, the script that is generated for the number is read and run, and it breaks no rule.
abbrev pub SumsUp : Status → Option Command → List ℕ → Type 0
SumsUp result command input = (n : ℕ) → command ≡ Some (Sum n) → IsOfSum result × HasScript command input (generated_script n)

-- The steps of its run are told by the number.
abbrev pub StepsAreKnown : Type 0
StepsAreKnown = (n : ℕ) (trees : List (List Node)) → steps_of (machine_script greatest_depth (tree_at trees) (generated_script n)) ≡ 28 * n + 93

-- ---- of every call

-- whatever is asked for, of whatever bytes
abbrev pub InEveryCall : (Option Command → List ℕ → Type 0) → Type 0
InEveryCall P = (command : Option Command) (input : List ℕ) → P command input
