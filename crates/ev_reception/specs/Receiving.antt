-- How a frame of any peer comes in at a member, as the run with hostile vats in the vats' own numbers has it.
use Rattle.std.specs.Prelude.{◌≡◌, ℕ, Bool, true, false, if◌then◌else◌, List, map, slice_set, Option, Some, None, Result, Ok, Err}
use Rattle.def_hostile.specs.Arrivals as run
use Rattle.def_hostile.specs.Arrivals.{learnt_after, sees}
use Rattle.def_machine.specs.Receive as machine_receives
use Rattle.def_machine.specs.State as machine
use Rattle.def_machine.specs.State.{Done, GiftEntry}
use Rattle.def_machine.specs.Values.{Local, Naming}
use Rattle.def_run.specs.Vats.{Member as Theirs, connection_for, heard_on}
use Rattle.ev_arrive.specs.Receiving.{tells_nothing}
use Rattle.ev_arrive.specs.declared.brought.Heard.{Heard as Noted}
use Rattle.ev_arrive.specs.declared.brought.Heard.TheVariants.{Deliver, Open, Ask, Settled, Elsewhere, Shorten}
use Rattle.ev_arrive.specs.declared.host.Host.{Host}
use Rattle.ev_arrive.specs.declared.receiving.Sight.{Sight}
use Rattle.ev_reception.specs.declared.receiving.Receipt.{Receipt}
use Rattle.ev_reception.specs.declared.receiving.Receipt.TheVariants.{Unheard, Idle, Came}
use Rattle.ev_vat.specs.Hearing.{AllOwn, BringsSo, HeardNote, IsSteadyHearing}
use Rattle.ev_vat.specs.MemberSteps.{Having, IsDone, Leaves}
use Rattle.ev_vat.specs.Standing.{with_draws}
use Rattle.ev_vat.specs.Vat.{StopsWith}
use Rattle.ev_vat.specs.declared.member.Member.{Member}
use Rattle.ev_vat.specs.declared.vat.VatStop.{VatStop}
use Rattle.ev_vat.specs.declared.vat.VatStop.TheVariants.{Fuel, Deep, WordRepeated, Astray, Memory}

-- ---- what the code looks at

-- a question is answered in any case
abbrev pub is_question : Noted → Bool
is_question (Deliver m asks x verb args) = asks
is_question (Ask p w) = true
is_question (Open w x) = false
is_question (Settled x y) = false
is_question (Elsewhere x c) = false
is_question (Shorten x s) = false

abbrev pub brings_nothing : ℕ → Sight → Noted → Host → Bool
brings_nothing from see note h = if is_question note then false else tells_nothing from see note h

-- ---- what the run does

-- The gifts that a vat hosts are its own promises. So it is at each vat of each run.
abbrev pub HostsOwn : machine.Vat Local → Type 0
HostsOwn s = AllOwn true s (map (λ (g : GiftEntry Local). g.name) s.gifts)

-- what is had once a note of vat v was received that was heard so: what `brings` of the run has
abbrev pub received : Bool → ℕ → Theirs → HeardNote → machine.Vat Local → Having
received alone v m h s = record { connections = slice_set m.connections v (heard_on h s (connection_for v m)); learnt = learnt_after alone s.outbox h.after.learnt }

-- that receipt is answered, and the member is as it was, unless memory ran out
abbrev pub LeftAlone : Receipt → Result Receipt VatStop → Member → Member → Type 0
LeftAlone x (Ok r) before after = (r ≡ x) × (after ≡ before)
LeftAlone x (Err Memory) before after = Unit {0}
LeftAlone x (Err Fuel) before after = ⊥
LeftAlone x (Err Deep) before after = ⊥
LeftAlone x (Err (WordRepeated i j)) before after = ⊥
LeftAlone x (Err Astray) before after = ⊥

-- what a call came to that received a note which brings something
abbrev pub ReceivesSo : Bool → ℕ → Theirs → HeardNote → Result Receipt VatStop → Member → Done Local (Unit {0}) → Type 0
ReceivesSo alone v m h (Ok (Came a)) c d = (s : machine.Vat Local) × IsDone s c d × (IsSteadyHearing v m h s → Leaves (received alone v m h s) s a.sendings.items c)
ReceivesSo alone v m h (Ok Unheard) c d = ⊥
ReceivesSo alone v m h (Ok Idle) c d = ⊥
ReceivesSo alone v m h (Err Fuel) c d = StopsWith machine.Fuel d
ReceivesSo alone v m h (Err Deep) c d = StopsWith machine.Deep d
ReceivesSo alone v m h (Err (WordRepeated i j)) c d = StopsWith (machine.Repeated i j) d
ReceivesSo alone v m h (Err Astray) c d = StopsWith machine.Astray d
ReceivesSo alone v m h (Err Memory) c d = Unit {0}

-- One that brings nothing is no step; any other is received.
abbrev pub ComesIn : Bool → Bool → ℕ → Theirs → HeardNote → Result Receipt VatStop → Member → Member → Done Local (Unit {0}) → Type 0
ComesIn true alone v m h r before after d = LeftAlone Idle r before after
ComesIn false alone v m h r before after d = ReceivesSo alone v m h r after d

-- A note of vat v comes in as it was heard, at a vat that has so much fuel, and those words drawn before.
abbrev pub Receives : Naming Local Local → Bool → ℕ → List ℕ → ℕ → Theirs → Result Receipt VatStop → Member → Member → Option HeardNote → Type 0
Receives K alone fuel drawn v m r before after None = LeftAlone Unheard r before after
Receives K alone fuel drawn v m r before after (Some h) =
    ComesIn (run.brings_nothing K v m h.read) alone v m h r before after (machine_receives.receive K (sees v m) v h.read (with_draws fuel drawn m.vat))

-- what a frame of vat v brought to m, where its note came in
abbrev pub ReceiptBrings : ℕ → Theirs → Option HeardNote → Receipt → Type 0
ReceiptBrings v m o (Came a) = BringsSo v m o a.news
ReceiptBrings v m o Unheard = Unit {0}
ReceiptBrings v m o Idle = Unit {0}
