-- The steps of a vat with what it has for its peers, as the machine's run in numbers has them.
use Rattle.std.specs.Prelude.{◌≡◌, ℕ, List, [], ◌∷◌, map, Option, Some, None, Result, Ok, Err}
use Rattle.def_run.specs.Names.{Names}
use Rattle.def_run.specs.Numbers.{all_written, frames_of}
use Rattle.def_run.specs.Vats.{Member as Theirs}
use Rattle.def_machine.specs.State as machine
use Rattle.def_machine.specs.State.{Act, Done, Gives}
use Rattle.def_machine.specs.Values.{Local, Name}
use Rattle.def_run.specs.Connections.{Connection, Learnt}
use Rattle.ev_vat.specs.declared.member.Member.{Member}
use Rattle.ev_vat.specs.declared.sending.Sending.{Sending}
use Rattle.ev_vat.specs.Sending.{AreOps, sending_of, spelled}
use Rattle.ev_vat.specs.Standing.{IsMember, Sees, with_draws}
use Rattle.ev_room.specs.Reading.{World}
use Rattle.ev_vat.specs.Vat.{StopsWith}
use Rattle.ev_vat.specs.declared.vat.VatStop.{VatStop}
use Rattle.ev_vat.specs.declared.vat.VatStop.TheVariants.{Fuel, Deep, WordRepeated, Astray, Memory}
use Rattle.law_evaluation.specs.Arrivals.Arrivals.{vat_in}
use Rattle.def_run.specs.Asking.{AskAnew}
use Rattle.def_run.specs.Seeing.{SeesAsBefore}

-- what a vat has for its peers before it writes what a step put
pub record Having : Type 0 where
  pub connections : List (Connection Local)
  pub learnt : List (Learnt Local)

-- where no note brought anything
abbrev pub own : Theirs → Having
own m = record { connections = m.connections; learnt = m.learnt }

-- the member after a step that left the vat so
abbrev pub left : Having → Names → machine.Vat Local → Theirs
left b t s = record { vat = s; learnt = b.learnt; connections = all_written s s.outbox b.connections; names = t }

-- What each step of a run keeps: what had a number is the vat's own or not as before, and what notes ask for is new.
pub record IsSteady (m : Theirs) (b : Having) (s : machine.Vat Local) : Type 0 where
  pub owns : SeesAsBefore m.vat s m.connections
  pub asks : AskAnew s s.outbox b.connections

-- what is sent are the frames of what was put, and the member is the run's
pub record Leaves (b : Having) (s : machine.Vat Local) (xs : List Sending) (c : Member) : Type 0 where
  pub sends : (f : Local → Name) → map sending_of xs ≡ map spelled (frames_of s f s.outbox b.connections)
  pub fits : (f : Local → Name) → AreOps (frames_of s f s.outbox b.connections)
  pub member : (t : Names) → IsMember (left b t s) c

-- the machine's step leaves that vat, which is the code's
pub record IsDone (s : machine.Vat Local) (c : Member) (d : Done Local (Unit {0})) : Type 0 where
  pub gives : d ≡ Gives tt s
  pub vat : (w : World) → Sees w c.vat.host.inside → vat_in w c.vat.host ≡ s

-- what a step of the code came to is an outcome of the machine, unless memory ran out; of what a stop leaves nothing is said
abbrev pub EndsSo : {A : Type 0} → Theirs → Having → (A → List Sending) → Result A VatStop → Member → Done Local (Unit {0}) → Type 0
EndsSo m b read (Ok a) c d = (s : machine.Vat Local) × IsDone s c d × (IsSteady m b s → Leaves b s (read a) c)
EndsSo m b read (Err Fuel) c d = StopsWith machine.Fuel d
EndsSo m b read (Err Deep) c d = StopsWith machine.Deep d
EndsSo m b read (Err (WordRepeated i j)) c d = StopsWith (machine.Repeated i j) d
EndsSo m b read (Err Astray) c d = StopsWith machine.Astray d
EndsSo m b read (Err Memory) c d = Unit {0}

-- the same of an act that begins as the step finds the member
abbrev pub Steps : {A : Type 0} → ℕ → List ℕ → Theirs → Having → (A → List Sending) → Result A VatStop → Member → Act Local (Unit {0}) → Type 0
Steps fuel drawn m b read r c act = EndsSo m b read r c (act (with_draws fuel drawn m.vat))

-- what a turn that takes a message came to, and one with no message to take
abbrev pub TurnsSo : {A : Type 0} → Theirs → (A → List Sending) → Result (Option A) VatStop → Member → Done Local (Unit {0}) → Type 0
TurnsSo m read (Ok (Some a)) c d = EndsSo m (own m) read (Ok a) c d
TurnsSo m read (Ok None) c d = ⊥
TurnsSo m read (Err e) c d = EndsSo m (own m) read (Err e) c d

-- where there is no message to take nothing changes, unless memory ran out
abbrev pub IdlesSo : {A : Type 0} → Result (Option A) VatStop → Member → Member → Type 0
IdlesSo (Ok o) before after = (o ≡ None) × (after ≡ before)
IdlesSo (Err Memory) before after = Unit {0}
IdlesSo (Err Fuel) before after = ⊥
IdlesSo (Err Deep) before after = ⊥
IdlesSo (Err (WordRepeated i j)) before after = ⊥
IdlesSo (Err Astray) before after = ⊥

-- a turn takes the first message of the queue, if there is one
abbrev pub Turns : {A : Type 0} → ℕ → List ℕ → Theirs → (A → List Sending) → Result (Option A) VatStop → Member → Member → (machine.Message Local → Act Local (Unit {0})) → List (machine.Message Local) → Type 0
Turns fuel drawn m read r before after take [] = IdlesSo r before after
Turns fuel drawn m read r before after take (x ∷ xs) = TurnsSo m read r after (take x (record (with_draws fuel drawn m.vat) { queue = xs }))
