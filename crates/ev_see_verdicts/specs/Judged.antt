-- The verdicts on a history, with the lines at which they fail.
use Rattle.std.specs.Prelude.{◌≡◌, ◌<◌, ℕ, ◌+◌, ◌-◌, ◌==◌, nat_lt, Bool, true, false, ◌&&◌, if◌then◌else◌, List, slice_get, is_some, not, Option, Some, None}
use Rattle.ev_base.specs.declared.names.Msg.{Msg}
use Rattle.ev_base.specs.contracts.names.MsgPartialEq.TheImpl.{eq-value}
use Rattle.def_event.specs.declared.shown.Shown.{Shown, Name as Named}
use Rattle.def_event.specs.declared.event.Event.{Event}
use Rattle.def_event.specs.declared.event.Event.TheVariants.{Carry, Take, Back, Slot, Send, SendOnly}
use Rattle.def_event.specs.Order.{IsFirstOvertaken, IsOrdered, is_object}
use Rattle.def_event.specs.Uses.{IsFirstFailing, JudgesUses, KnowsName, Line}
use Rattle.def_why.specs.declared.fault.Refusal.{Refusal}
use Rattle.def_why.specs.declared.fault.Reason.TheVariants.{SlotUnknown}
use Rattle.def_why.specs.declared.fault.About.TheVariants as about
use Rattle.def_why.specs.declared.fault.Question.TheVariants.{Taken, Settled, Strict}
use Rattle.def_why.specs.Faults.{refusal}
use Rattle.ev_see_verdicts.specs.declared.order.Overtaking.{Overtaking}
use Rattle.ev_see_verdicts.specs.declared.order.Deed.{Deed}
use Rattle.ev_see_verdicts.specs.declared.order.Deed.TheVariants.{ByObject, Sending}
use Rattle.ev_see_verdicts.specs.declared.uses.Point.{Point}
use Rattle.ev_see_verdicts.specs.declared.uses.Point.TheVariants.{Used, GivenBack, TakenOtherwise, Added}
use Rattle.ev_see_verdicts.specs.declared.uses.Unfounded.{Unfounded}
use Rattle.ev_see_verdicts.specs.declared.verdicts.Verdicts.{Verdicts}

-- ---- order

-- an object takes the message, or a line sends it
unfoldable pub does : Deed → Msg → Event → Bool
does ByObject m (Take t) = is_object t.target && eq-value.it t.message m
does Sending m (Send s) = eq-value.it s.message m
does Sending m (SendOnly s) = eq-value.it s.message m
does d m e = false

-- the first line that does it, counted from 0
abbrev pub IsFirstDoing : Deed → Msg → List Event → Option ℕ → Type 0
IsFirstDoing d m es None = (j : ℕ) (e : Event) → slice_get es j ≡ Some e → does d m e ≡ false
IsFirstDoing d m es (Some i) =
    ((e : Event) × (slice_get es i ≡ Some e) × (does d m e ≡ true)) × ((j : ℕ) (e : Event) → j < i → slice_get es j ≡ Some e → does d m e ≡ false)

abbrev pub IsFirstFrom1 : Deed → Msg → List Event → Option ℕ → Type 0
IsFirstFrom1 d m es None = IsFirstDoing d m es None
IsFirstFrom1 d m es (Some n) = (i : ℕ) × (n ≡ i + 1) × IsFirstDoing d m es (Some i)

-- the same, counted from 1
pub record IsFirstLine (d : Deed) (m : Msg) (es : List Event) (line : Option ℕ) : Type 0 where
  pub is : IsFirstFrom1 d m es line

-- the judgement on order, with the lines, counted from 1, of the message that is taken too early and of the one that is before it
abbrev pub TellsOrder : List Event → Option Overtaking → Type 0
TellsOrder es None = IsOrdered es
TellsOrder es (Some o) = (w : IsFirstOvertaken es o.first o.taken) × (o.line ≡ w.line + 1) × (o.sent ≡ w.sent + 1)

-- ---- uses

-- the point of uses that can fail of a line
unfoldable pub point_of : Event → Point
point_of (Take t) = TakenOtherwise
point_of (Carry k v w note) = Added
point_of (Back a x) = GivenBack
point_of _ = Used

abbrev pub point_at : Option Event → Point
point_at None = Used
point_at (Some e) = point_of e

abbrev pub TellsUses : List Event → Option Unfounded → Type 0
TellsUses es None = JudgesUses es None
TellsUses es (Some u) = JudgesUses es (Some u.line) × (u.point ≡ point_at (slice_get es (u.line - 1)))

-- ---- what slots are made with

-- what the value names is known to the activation
unfoldable pub ValueKnown : List Line → ℕ → ℕ → Shown → Type 0
ValueKnown past at a (Named n) = KnowsName past at a n
ValueKnown past at a x = Unit {0}

unfoldable pub made_with : List Line → ℕ → Event → Type 0
made_with past at (Slot a s x) = ValueKnown past at a x
made_with past at e = Unit {0}

-- a slot is made with what its maker knows
abbrev pub SlotKnown : List Line → Line → Type 0
SlotKnown past l = made_with past l.at l.event

unfoldable pub slot_unknown : ℕ → Event → Option Refusal
slot_unknown line (Slot a s x) = Some (record { line = line; fault = record { reason = SlotUnknown; about = about.Slot s.0 s.1 } })
slot_unknown line _ = None

abbrev pub slot_unknown_at : ℕ → Option Event → Option Refusal
slot_unknown_at line None = None
slot_unknown_at line (Some e) = slot_unknown line e

abbrev pub slot_refusal : List Event → Option ℕ → Option Refusal
slot_refusal es None = None
slot_refusal es (Some line) = slot_unknown_at line (slice_get es (line - 1))

-- the first slot that is made with what its maker does not know
abbrev pub TellsSlots : List Event → Option Refusal → Type 0
TellsSlots es r = (line : Option ℕ) × IsFirstFailing SlotKnown es line × (r ≡ slot_refusal es line)

-- that of the earlier line
abbrev pub earlier : Option Refusal → Option Refusal → Option Refusal
earlier None o = o
earlier (Some r) None = Some r
earlier (Some r) (Some q) = if nat_lt q.line r.line then Some q else Some r

-- what a check believes, where that is asked
abbrev pub TellsStrict : Bool → List Event → Option Refusal → Type 0
TellsStrict false es r = r ≡ None
TellsStrict true es r = (slots : Option Refusal) × TellsSlots es slots × (r ≡ earlier (refusal Strict es) slots)

-- ---- the whole

pub record Judges (strict : Bool) (es : List Event) (v : Verdicts) : Type 0 where
  pub asked : v.is_strict ≡ strict
  pub order : TellsOrder es v.order
  pub uses : TellsUses es v.uses
  pub taken : v.taken ≡ refusal Taken es
  pub settled : v.settled ≡ refusal Settled es
  pub beliefs : TellsStrict strict es v.strict

-- each verdict is yes
abbrev pub all_yes : Verdicts → Bool
all_yes v = not (is_some v.order) && not (is_some v.uses) && not (is_some v.taken) && not (is_some v.settled) && not (is_some v.strict)
