-- Of which names the messages that wait at a vat are to give the value, and what waits on a name.
use Rattle.std.specs.Prelude.{◌≡◌, ℕ, zero, ◌+◌, ◌≤◌, List, ◌++◌, Option, Some, None, slice_get}
use Rattle.def_machine.specs.Values.{Name}
use Rattle.def_machine.specs.State.{Message, Standing, Unsettled, WaitsOn, Viewed, Settled, Known, Vat}
use Rattle.def_machine.specs.Refs.{standing_of}
use Rattle.def_run.specs.World.{Script, Program, Entry, World, Goes, begins, open_from, steps_from, names}
use Rattle.law_fate.specs.Name.Names.{IsAmong}
use Rattle.law_fate.specs.Name.Runs.{KnowsOnce}
use Rattle.law_fate.specs.Fates.Fate.{one, total}
use Rattle.law_fate.specs.Fates.Fate.{opened_fate}
use Rattle.law_reference.specs.Reference.Cuts.{NoticesFollowCuts}

-- ---- counts

-- one where that is the name, else zero
unfoldable pub answered_by : Name → Option Name → ℕ
answered_by a None = 0
answered_by a (Some b) = one b a

-- one where the answer of the message is that name
unfoldable pub answers : Name → Message Name → ℕ
answers a m = answered_by a m.answer

-- how many messages with that answer wait at a name: such as it holds, and such as react on it
unfoldable pub asked_at : Name → Known Name → ℕ
asked_at a k = total (answers a) k.held + total (answers a) k.reactions

-- how many messages with that answer wait at a vat, in its queue and at the names that it knows
unfoldable pub askings : Name → Vat Name → ℕ
askings a s = total (answers a) s.queue + total (asked_at a) s.known

-- how often a name is among those that wait on another
unfoldable pub waits_at : Name → Known Name → ℕ
waits_at a k = total (λ q. one q a) k.waiting

unfoldable pub waitings : Name → List (Known Name) → ℕ
waitings a ks = total (waits_at a) ks

-- ---- laws

-- A name of which a message that waits at the vat is to give the value is that of no other message; it did neither settle nor wait, and is not among what waits.
abbrev pub AnswersAreOpen : Script → ℕ → Vat Name → Type 0
AnswersAreOpen script v s = (a : Name) → 1 ≤ askings a s → (askings a s ≡ 1) × (standing_of (names script v) s.known a ≡ Unsettled) × (waitings a s.known ≡ 0)

-- it waits on that name, has it as its view, or settled
abbrev pub IsWaitOf : Name → Standing Name → Type 0
IsWaitOf n Unsettled = ⊥
IsWaitOf n (WaitsOn q) = q ≡ n
IsWaitOf n (Viewed q) = q ≡ n
IsWaitOf n (Settled y) = Unit {0}

-- What is among the names that wait on another waits on it, has it as its view, or settled.
abbrev pub WaitersWait : Script → ℕ → Vat Name → Type 0
WaitersWait script v s = (k : Known Name) (q : Name) → IsAmong k s.known → IsAmong q k.waiting → IsWaitOf k.name (standing_of (names script v) s.known q)

-- It holds of each vat after any of the opening turns, and after all of them and any entries in which each notice stands behind a cut of the same two vats.
abbrev pub InEachVat : (Script → ℕ → Vat Name → Type 0) → Type 0
InEachVat P = (script : Script) → KnowsOnce script
    → ((ps rest : List Program) (w : World) → script.vats ≡ ps ++ rest → open_from script zero ps (begins script) ≡ Goes w → (v : ℕ) (s : Vat Name) → slice_get w.vats v ≡ Some s → P script v s)
    × ((w x : World) (es : List Entry) (k : ℕ) → NoticesFollowCuts es → open_from script zero script.vats (begins script) ≡ Goes w → steps_from script es k w ≡ Goes x → (v : ℕ) (s : Vat Name) → slice_get x.vats v ≡ Some s → P script v s)

abbrev pub AnswersAreOpenInRuns : Type 0
AnswersAreOpenInRuns = InEachVat AnswersAreOpen

abbrev pub WaitersWaitInRuns : Type 0
WaitersWaitInRuns = InEachVat WaitersWait

-- opens each definition of this file, and of those below
unfoldable pub opened_answers : Unit {0}
unfolding answered_by answers asked_at askings waits_at waitings opened_fate
opened_answers = tt
