-- What is said of a vat's state: that its lists are there, what is bound under a frozen guard, and what objects with DeepFrozen's stamp have.
use Rattle.std.specs.Prelude.{◌≡◌, ℕ, zero, suc, ◌<◌, true, List, [], ◌∷◌, Some, slice_get, ◌⊎◌}
use Rattle.def_machine.specs.Values.{Value, Null, Flag, Number, Letter, Text, Prim, Broken, Items, Ref, Naming, Own, IsOwn}
use Rattle.def_machine.specs.State.{Bound, Fixed, Slot, Binding, Cell, Freedom, IsSafe, IsItself, IsFinal, IsVar, View, Thing, Made, Ejector, Audition, Resolver, Message, Standing, Unsettled, WaitsOn, Viewed, Settled, Known, Passed, Passeds, Plain, AGift, Many, NoMore, More, Note, Deliver, Open, Ask, SettledTo, Elsewhere, Shorten, Put, Vat}
use Rattle.def_machine.specs.Scopes.{frozen_guard}

-- it holds of each
abbrev pub AllOf : {A : Type 0} → (A → Type 0) → List A → Type 0
AllOf P [] = Unit {0}
AllOf P (x ∷ xs) = P x × AllOf P xs

abbrev pub IsAmong : {A : Type 0} → A → List A → Type 0
IsAmong x [] = ⊥
IsAmong x (y ∷ ys) = (x ≡ y) ⊎ IsAmong x ys

-- the lists of a vat, by their numbers
abbrev pub Lists : Type 0 → Type 0
Lists N = List (List (Value N))

-- ---- lists that are there

-- a list that stands in its place is there
abbrev pub IsThere : {N : Type 0} → Lists N → Value N → Type 0
IsThere {N} ls (Items k) = (vs : List (Value N)) × (slice_get ls k ≡ Some vs)
IsThere ls Null = Unit {0}
IsThere ls (Flag b) = Unit {0}
IsThere ls (Number z) = Unit {0}
IsThere ls (Letter c) = Unit {0}
IsThere ls (Text t) = Unit {0}
IsThere ls (Prim n) = Unit {0}
IsThere ls (Broken p) = Unit {0}
IsThere ls (Ref n) = Unit {0}

abbrev pub AreThere : {N : Type 0} → Lists N → List (Value N) → Type 0
AreThere ls = AllOf (IsThere ls)

-- below that number, where it is a list
abbrev pub IsBelow : {N : Type 0} → ℕ → Value N → Type 0
IsBelow n (Items k) = k < n
IsBelow n Null = Unit {0}
IsBelow n (Flag b) = Unit {0}
IsBelow n (Number z) = Unit {0}
IsBelow n (Letter c) = Unit {0}
IsBelow n (Text t) = Unit {0}
IsBelow n (Prim p) = Unit {0}
IsBelow n (Broken p) = Unit {0}
IsBelow n (Ref r) = Unit {0}

-- a list is made of what was there: a list among the members of another has the lower number
abbrev pub AreStacked : {N : Type 0} → ℕ → Lists N → Type 0
AreStacked n [] = Unit {0}
AreStacked n (vs ∷ ls) = AllOf (IsBelow n) vs × AreStacked (suc n) ls

abbrev pub MessageThere : {N : Type 0} → Lists N → Message N → Type 0
MessageThere ls m = IsThere ls m.target × AreThere ls m.args

abbrev pub StandingThere : {N : Type 0} → Lists N → Standing N → Type 0
StandingThere ls Unsettled = Unit {0}
StandingThere ls (WaitsOn q) = Unit {0}
StandingThere ls (Viewed q) = Unit {0}
StandingThere ls (Settled y) = IsThere ls y

abbrev pub KnownThere : {N : Type 0} → Lists N → Known N → Type 0
KnownThere ls k = StandingThere ls k.standing × AllOf (MessageThere ls) k.held × AllOf (MessageThere ls) k.reactions

abbrev pub CellThere : {N : Type 0} → Lists N → Cell N → Type 0
CellThere ls c = IsThere ls c.guard × IsThere ls c.value

abbrev pub FreedomThere : {N : Type 0} → Lists N → Freedom N → Type 0
FreedomThere ls IsSafe = Unit {0}
FreedomThere ls IsItself = Unit {0}
FreedomThere ls (IsFinal g) = IsThere ls g
FreedomThere ls IsVar = Unit {0}

abbrev pub ViewThere : {N : Type 0} → Lists N → View N → Type 0
ViewThere ls view = AllOf (λ f. FreedomThere ls f.freedom) view.free

-- ---- notes: no list passes by its number

abbrev pub PlainPasses : {N : Type 0} → Value N → Type 0
PlainPasses (Items k) = ⊥
PlainPasses Null = Unit {0}
PlainPasses (Flag b) = Unit {0}
PlainPasses (Number z) = Unit {0}
PlainPasses (Letter c) = Unit {0}
PlainPasses (Text t) = Unit {0}
PlainPasses (Prim n) = Unit {0}
PlainPasses (Broken p) = Unit {0}
PlainPasses (Ref n) = Unit {0}

abbrev mutual
  pub Passes : {N : Type 0} → Passed N → Type 0
  Passes (Plain y) = PlainPasses y
  Passes (AGift h i) = Unit {0}
  Passes (Many ys) = AllPass ys

  pub AllPass : {N : Type 0} → Passeds N → Type 0
  AllPass NoMore = Unit {0}
  AllPass (More y ys) = Passes y × AllPass ys

abbrev pub NotePasses : {N : Type 0} → Note N → Type 0
NotePasses (Deliver m n verb ys) = AllPass ys
NotePasses (Open i n) = Unit {0}
NotePasses (Ask p i n) = Unit {0}
NotePasses (SettledTo n y) = Passes y
NotePasses (Elsewhere n c) = Unit {0}
NotePasses (Shorten n c i) = Unit {0}

-- ---- frozen values

-- the primitive DeepFrozen
abbrev pub deep_frozen : {N : Type 0} → Value N
deep_frozen = Prim 17

-- no name occurs in it at any depth: each list in it is there, and they nest so deep at most
abbrev pub HasNoName : {N : Type 0} → ℕ → Lists N → Value N → Type 0
HasNoName d ls (Ref n) = ⊥
HasNoName zero ls (Items k) = ⊥
HasNoName {N} (suc d) ls (Items k) = (vs : List (Value N)) × (slice_get ls k ≡ Some vs) × AllOf (λ v. HasNoName d ls v) vs
HasNoName d ls Null = Unit {0}
HasNoName d ls (Flag b) = Unit {0}
HasNoName d ls (Number z) = Unit {0}
HasNoName d ls (Letter c) = Unit {0}
HasNoName d ls (Text t) = Unit {0}
HasNoName d ls (Prim n) = Unit {0}
HasNoName d ls (Broken p) = Unit {0}

-- an object with DeepFrozen's stamp has that number
abbrev pub BearsFrozen : {N : Type 0} → List (Thing N) → ℕ → Type 0
BearsFrozen {N} ts i = (node : ℕ) × (caught : List (Binding N)) × (stamps : List (Value N)) × (slice_get ts i ≡ Some (Made node caught stamps)) × IsAmong deep_frozen stamps

module _ {N W : Type 0} (K : Naming N W) where
  -- an object of this vat with DeepFrozen's stamp, or data in which no name occurs; lists nest at most 100 deep
  abbrev pub IsFrozen : List (Thing N) → Lists N → Value N → Type 0
  IsFrozen ts ls (Ref n) = (i : ℕ) × (K.spot n ≡ Own i) × BearsFrozen ts i
  IsFrozen ts ls Null = Unit {0}
  IsFrozen ts ls (Flag b) = Unit {0}
  IsFrozen ts ls (Number z) = Unit {0}
  IsFrozen ts ls (Letter c) = Unit {0}
  IsFrozen ts ls (Text t) = Unit {0}
  IsFrozen ts ls (Prim p) = Unit {0}
  IsFrozen ts ls (Broken p) = Unit {0}
  IsFrozen ts ls (Items k) = HasNoName 100 ls (Items k)

  -- a capture that is no var slot, and frozen
  abbrev pub FrozenCapture : List (Thing N) → Lists N → Bound N → Type 0
  FrozenCapture ts ls (Fixed v g) = IsFrozen ts ls v
  FrozenCapture ts ls (Slot k) = ⊥

  -- ---- what is reached

  -- in one step: a member of a list, or a capture of an object of this vat
  abbrev pub Leads : Vat N → Value N → Value N → Type 0
  Leads s (Items k) w = (vs : List (Value N)) × (slice_get s.lists k ≡ Some vs) × IsAmong w vs
  Leads s (Ref n) w = (i node : ℕ) × (caught : List (Binding N)) × (stamps : List (Value N)) × (noun : List ℕ) × (g : Value N)
      × (K.spot n ≡ Own i) × (slice_get s.things i ≡ Some (Made node caught stamps)) × IsAmong (record { noun = noun; bound = Fixed w g }) caught
  Leads s Null w = ⊥
  Leads s (Flag b) w = ⊥
  Leads s (Number z) w = ⊥
  Leads s (Letter c) w = ⊥
  Leads s (Text t) w = ⊥
  Leads s (Prim p) w = ⊥
  Leads s (Broken p) w = ⊥

  -- in so many steps
  abbrev pub Reaches : ℕ → Vat N → Value N → Value N → Type 0
  Reaches zero s v w = v ≡ w
  Reaches (suc n) s v w = (u : Value N) × Reaches n s v u × Leads s u w

  -- no capture of it is a var slot
  abbrev pub HasNoSlot : Vat N → Value N → Type 0
  HasNoSlot s (Ref n) = (i node k : ℕ) (caught : List (Binding N)) (stamps : List (Value N)) (noun : List ℕ) → K.spot n ≡ Own i → slice_get s.things i ≡ Some (Made node caught stamps)
      → IsAmong (record { noun = noun; bound = Slot k }) caught → ⊥
  HasNoSlot s v = Unit {0}

  -- From an object with DeepFrozen's stamp one meets, by captures and members of lists any number of times, frozen values and no var slot.
  abbrev pub FrozenReach : Vat N → Type 0
  FrozenReach s = (i n : ℕ) (w : Value N) → BearsFrozen s.things i → Reaches n s (Ref (K.object i)) w → IsFrozen s.things s.lists w × HasNoSlot s w

-- What is kept of a vat.
module _ {N W : Type 0} (K : Naming N W) where
  -- the vat made that promise
  abbrev pub IsPromised : N → Type 0
  IsPromised p = (i k : ℕ) × (p ≡ K.made (IsOwn i) k)

  -- what is bound under a frozen guard is frozen
  abbrev pub BoundWell : List (Thing N) → Lists N → Bound N → Type 0
  BoundWell ts ls (Fixed v g) = IsThere ls v × IsThere ls g × (frozen_guard g ≡ true → IsFrozen K ts ls v)
  BoundWell ts ls (Slot k) = Unit {0}

  abbrev pub NounWell : List (Thing N) → Lists N → Binding N → Type 0
  NounWell ts ls b = BoundWell ts ls b.bound

  -- an object with DeepFrozen's stamp has frozen captures alone, and a resolver is of a promise that the vat made
  abbrev pub ThingWell : List (Thing N) → Lists N → Thing N → Type 0
  ThingWell ts ls (Made node caught stamps) = AllOf (NounWell ts ls) caught × AreThere ls stamps × (IsAmong deep_frozen stamps → AllOf (λ b. FrozenCapture K ts ls b.bound) caught)
  ThingWell ts ls (Ejector live) = Unit {0}
  ThingWell ts ls (Audition live view) = ViewThere ls view
  ThingWell ts ls (Resolver p) = IsPromised p

  -- what is kept of a vat's things, slots, lists, queue, known names and outbox
  pub record SoundParts (ts : List (Thing N)) (cells : List (Cell N)) (ls : Lists N) (ms : List (Message N)) (ks : List (Known N)) (ps : List (Put N)) : Type 0 where
    pub things : AllOf (ThingWell ts ls) ts
    pub slots : AllOf (CellThere ls) cells
    pub lists : AllOf (AreThere ls) ls
    pub stacked : AreStacked zero ls
    pub queue : AllOf (MessageThere ls) ms
    pub known : AllOf (KnownThere ls) ks
    pub outbox : AllOf (λ (p : Put N). NotePasses p.note) ps

  abbrev pub Sound : Vat N → Type 0
  Sound s = SoundParts s.things s.slots s.lists s.queue s.known s.outbox
