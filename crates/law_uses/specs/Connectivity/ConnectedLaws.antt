-- What is said of knowing and of connected histories.
use Rattle.std.specs.Prelude.{◌≡◌, ℕ, Bool, true, List, [], ◌∷◌, ◌++◌, Some, map, slice_get}
use Rattle.def_machine.specs.Values.{Value, Items, Name, Root, Naming, naming, numbering}
use Rattle.def_machine.specs.State.{Binding, Cell, Made, Happened}
use Rattle.law_machine.specs.Machine.Steps.{Opens}
use Rattle.law_machine.specs.Natives.Natives.{IsPlain}
use Rattle.law_uses.specs.Connectivity.Known.{Item, AValue, AGuard, ASlot, IsAmong, Holdings, parts_of_all, tells, Leads, Runs, Knows}
use Rattle.law_uses.specs.Connectivity.Connected.{Connected, StepConnected}
use Rattle.law_uses.specs.Connectivity.Rows.{one_object, secret, handed, guarded, coercing, answering, stray, ringless, parting, parted, program, escaping, auditing, fresh}

-- A property of what activations have that each way to come by a reference keeps.
pub record IsClosed {N W : Type 0} (K : Naming N W) (h : Holdings N W) (so : List (Happened N)) (P : ℕ → Item N → Type 0) : Type 0 where
  pub plain : (a : ℕ) (v : Value N) → IsPlain v → P a (AValue v)
  pub initial : (a : ℕ) (i : Item N) → IsAmong (a, i) h.given → P a i
  pub endowed : (a k node : ℕ) (caught : List (Binding N)) (stamps : List (Value N)) (i : Item N)
      → Runs K h so a k → slice_get h.things k ≡ Some (Made node caught stamps) → IsAmong i (parts_of_all (map (λ b. b.bound) caught)) → P a i
  pub told : (a : ℕ) (e : Happened N) (i : Item N) → IsAmong e so → IsAmong (a, i) (tells e) → P a i
  pub member : (a k : ℕ) (v : Value N) (vs : List (Value N)) → P a (AValue (Items k)) → slice_get h.lists k ≡ Some vs → IsAmong v vs → P a (AValue v)
  pub followed : (a : ℕ) (x y : Value N) → P a (AValue x) → Leads K h.before so x y → P a (AValue y)
  pub serves : (a : ℕ) (v : Value N) → P a (AValue v) → P a (AGuard v)
  pub guard : (a k : ℕ) (c : Cell N) → P a (ASlot k) → slice_get h.slots k ≡ Some c → P a (AGuard c.guard)

-- what an activation knows is the least that these ways give: whatever holds of all that they give holds of all that is known
abbrev pub IsLeast : {N W : Type 0} → Naming N W → Type 0
IsLeast {N} {W} K = (h : Holdings N W) (so : List (Happened N)) (p : ℕ → Item N → Bool) → IsClosed K h so (λ a i. p a i ≡ true) → (a : ℕ) (i : Item N) → Knows K h so a i → p a i ≡ true

-- a later state, in which objects keep their captures, lists their members and slots their guards
pub record Grown {N W : Type 0} (h more : Holdings N W) : Type 0 where
  pub objects : (i node : ℕ) (caught : List (Binding N)) (stamps : List (Value N)) → slice_get h.things i ≡ Some (Made node caught stamps) → slice_get more.things i ≡ Some (Made node caught stamps)
  pub lists : (k : ℕ) (vs : List (Value N)) → slice_get h.lists k ≡ Some vs → slice_get more.lists k ≡ Some vs
  pub guards : (k : ℕ) (c : Cell N) → slice_get h.slots k ≡ Some c → (d : Cell N) × (slice_get more.slots k ≡ Some d) × (c.guard ≡ d.guard)
  pub before : h.before ≡ more.before
  pub given : h.given ≡ more.given

-- what is known stays known, after more lines and in a later state
abbrev pub Stays : {N W : Type 0} → Naming N W → Type 0
Stays {N} {W} K = (h later : Holdings N W) (so more : List (Happened N)) (a : ℕ) (i : Item N) → Grown h later → Knows K h so a i → Knows K later (so ++ more) a i

-- under global names and under local numbers
abbrev pub KnownIsLeast : Type 0
KnownIsLeast = ((word : ℕ → ℕ) (v : ℕ) → IsLeast (naming word v)) × ((word : ℕ → ℕ) → IsLeast (numbering {W = Name} word))

abbrev pub KnownStays : Type 0
KnownStays = ((word : ℕ → ℕ) (v : ℕ) → Stays (naming word v)) × ((word : ℕ → ℕ) → Stays (numbering {W = Name} word))

-- what is handed to an object as an argument its activation may use
abbrev pub HandedIsConnected : Type 0
HandedIsConnected = (word : ℕ → ℕ) → Connected (naming word 0) one_object (handed (secret ∷ []))

-- what its caller has and does not hand to it, it may not
abbrev pub KeptIsNotConnected : Type 0
KeptIsNotConnected = (word : ℕ → ℕ) → Connected (naming word 0) one_object (handed []) → ⊥

-- the guard under which an object captured a value its activation may call to coerce
abbrev pub CoercingIsConnected : Type 0
CoercingIsConnected = (word : ℕ → ℕ) → Connected (naming word 0) guarded coercing

-- and may not send on
abbrev pub LeakIsNotConnected : Type 0
LeakIsNotConnected = (word : ℕ → ℕ) → Connected (naming word 0) guarded (handed []) → ⊥

-- an answer may not settle to what the turn did not give
abbrev pub StrayIsNotConnected : Type 0
StrayIsNotConnected = (word : ℕ → ℕ) → Connected (naming word 0) answering stray → ⊥

-- nor break as one that leads back to itself, where the turn gave an object
abbrev pub RinglessIsNotConnected : Type 0
RinglessIsNotConnected = (word : ℕ → ℕ) → Connected (naming word 0) answering ringless → ⊥

-- nor as one of a vat that is cut off, where the turn gave null
abbrev pub PartedIsNotConnected : Type 0
PartedIsNotConnected = (word : ℕ → ℕ) → Connected (naming word 0) parting parted → ⊥

-- the opening turn of a small program, in which an object uses a capture, an argument and what a call gave back
abbrev pub ProgramIsConnected : Type 0
ProgramIsConnected = (word : ℕ → ℕ) → StepConnected (naming word 0) (Opens program 40 (Root 0) []) fresh

-- that of one in which a value is read from a var slot and leaves by an ejector
abbrev pub EscapeIsConnected : Type 0
EscapeIsConnected = (word : ℕ → ℕ) → StepConnected (naming word 0) (Opens escaping 40 (Root 0) []) fresh

-- that of one in which an auditor asks another, which is told a guard that its caller does not know
abbrev pub AuditIsConnected : Type 0
AuditIsConnected = (word : ℕ → ℕ) → StepConnected (naming word 0) (Opens auditing 40 (Root 0) []) fresh
