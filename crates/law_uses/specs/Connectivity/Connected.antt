-- When the history of a step is connected: an activation uses only what it knows, and gives back only what it knows.
use Rattle.std.specs.Prelude.{◌≡◌, ◌≤◌, length, ℕ, true, false, List, [], ◌∷◌, ◌++◌, Option, Some, None, map, slice_get, ◌⊎◌, codes}
use Rattle.def_machine.specs.Values.{Words, Value, Null, Ref, Naming, Own, IsOwn}
use Rattle.def_machine.specs.State.{Cell, Vat, Happened, Called, Back, Thrown, Left, Got, SlotMade, SlotRead, SlotWrote, ListMade, EjectorMade, AuditionMade, PromiseMade, ObjectMade, Sends, Reacts, Finished, Settles, Waits, Views}
use Rattle.def_machine.specs.Free.{same_words}
use Rattle.law_machine.specs.Machine.Steps.{Step, Opens, Takes, Receives, Notices, does, After}
use Rattle.law_uses.specs.Connectivity.Settlings.{Follows, SettlesWell, WaitsWell, ViewsBy}
use Rattle.law_uses.specs.Connectivity.Known.{Item, AValue, AGuard, ASlot, IsAmong, AllOf, Holdings, parts_of_all, by, values, IsThing, Knows, opened_known}

-- ---- what a line uses

-- As what a call uses its receiver: to coerce, of a specimen and an ejector, as a guard, else as a value.
unfoldable pub callee : {N : Type 0} → Value N → Words → List (Value N) → Item N
callee x verb (v ∷ j ∷ []) = elim (same_words (codes "coerce") verb) [ true ↦ AGuard x | false ↦ AValue x ]
callee x verb _ = AValue x

-- What a line uses, and which activation does. That a message is taken is no use by the activation that takes it.
unfoldable pub uses : {N : Type 0} → Happened N → List (ℕ × Item N)
-- receiver and arguments
uses (Called a x verb args b) = by a (callee x verb args ∷ values args)
-- the value that is written, and the slot
uses (SlotMade a k v) = by a (AValue v ∷ [])
uses (SlotRead a k v) = by a (ASlot k ∷ [])
uses (SlotWrote a k v) = by a (ASlot k ∷ AValue v ∷ [])
-- the members
uses (ListMade a k vs) = by a (values vs)
-- captures, the guards of fixed ones as guards, and auditors
uses (ObjectMade a me x caught stamps) = by a (parts_of_all caught ++ values stamps)
-- target and arguments of a send; the value and what reacts on it
uses (Sends a m) = by a (values (m.target ∷ m.args))
uses (Reacts a x o m) = by a (values (x ∷ o ∷ []))
-- the value answered
uses (Finished a v) = by a (AValue v ∷ [])
uses _ = []

-- an object that is made may capture itself
unfoldable pub itself : {N : Type 0} → Happened N → List (Item N)
itself (ObjectMade a me x caught stamps) = AValue (Ref me) ∷ []
itself _ = []

-- ---- calls that are open

-- a call that has not ended: who calls, on what, under which verb, and the activation that it began
pub record Open (N : Type 0) : Type 0 where
  pub caller : ℕ
  pub receiver : Value N
  pub verb : Words
  pub begun : Option ℕ

unfoldable pub without_first : {A : Type 0} → List A → List A
without_first [] = []
without_first (x ∷ xs) = xs

-- the calls that are open after a line, the innermost first
unfoldable pub open_after : {N : Type 0} → List (Open N) → Happened N → List (Open N)
open_after cs (Called a x verb args b) = record { caller = a; receiver = x; verb = verb; begun = b } ∷ cs
open_after cs (Back a v) = without_first cs
open_after cs (Thrown a p) = without_first cs
open_after cs (Left a) = without_first cs
open_after cs _ = cs

unfoldable pub open_from : {N : Type 0} → List (Open N) → List (Happened N) → List (Open N)
open_from cs [] = cs
open_from cs (e ∷ es) = open_from (open_after cs e) es

unfoldable pub unless_begun : {N : Type 0} → Option ℕ → Value N → Option (Value N)
unless_begun (Some b) x = None
unless_begun None x = Some x

-- what the innermost open call calls, where it began no activation
unfoldable pub served : {N : Type 0} → List (Open N) → Option (Value N)
served [] = None
served (c ∷ cs) = unless_begun c.begun c.receiver

module _ {N W : Type 0} (K : Naming N W) (h : Holdings N W) where
  -- The audition of that number is of an object that this activation evaluates. One that is made while an audition is asked is of the same object.
  pub data Judges (so : List (Happened N)) : ℕ → ℕ → Type 0 where
    evaluates : {a i : ℕ} (n : N) (front rest : List (Happened N)) → so ≡ front ++ AuditionMade a n ∷ rest → K.spot n ≡ Own i → served (open_from [] front) ≡ None → Judges so a i
    asks : {a i : ℕ} (b j : ℕ) (x : Value N) (n : N) (front rest : List (Happened N)) → so ≡ front ++ AuditionMade b n ∷ rest → K.spot n ≡ Own i
        → served (open_from [] front) ≡ Some x → IsThing K h.before so x j → Judges so a j → Judges so a i

  -- By the lines before the innermost call that is open, what it calls leads to an audition of that number, which they tell of.
  abbrev pub AskedThen : List (Happened N) → ℕ → Value N → Words → ℕ → Type 0
  AskedThen so a x verb i = (args : List (Value N)) × (front rest : List (Happened N)) × (so ≡ front ++ Called a x verb args None ∷ rest) × (open_from [] so ≡ record { caller = a; receiver = x; verb = verb; begun = None } ∷ open_from [] front)
      × IsThing K h.before front x i × (b : ℕ) × (n : N) × IsAmong (AuditionMade b n) front × (K.spot n ≡ Own i)

  -- Of what gives a value back: an activation gives what it knows. Data gives what its caller knows anyhow, such as its members or lists that the caller makes of them.
  -- An audition gives that, or, where it is asked for a guard, one that the activation knows as a guard which evaluates the object that is judged.
  abbrev pub GivenBack : List (Happened N) → ℕ → Value N → Words → Option ℕ → Value N → Type 0
  GivenBack so a x verb (Some b) v = Knows K h so b (AValue v)
  GivenBack so a x verb None v = Knows K h so a (AValue v) ⊎ ((same_words (codes "getGuard") verb ≡ true) × (b i : ℕ) × AskedThen so a x verb i × Judges so b i × Knows K h so b (AGuard v))

  abbrev pub BackWell : List (Happened N) → ℕ → Value N → List (Open N) → Type 0
  BackWell so a v [] = ⊥
  BackWell so a v (c ∷ cs) = (a ≡ c.caller) × GivenBack so c.caller c.receiver c.verb c.begun v

  -- an activation gets what was handed to an ejector that it made
  abbrev pub GotWell : List (Happened N) → ℕ → Value N → Type 0
  GotWell so a v = (b i : ℕ) × (x : Value N) × (verb : Words) × (args : List (Value N)) × (j : N)
      × IsAmong (Called b x verb args None) so × IsThing K h.before so x i × IsAmong (EjectorMade a j) so × (K.spot j ≡ Own i) × IsAmong v (Null ∷ args)

  -- what is said of single kinds of lines besides what they use
  abbrev pub ComesWell : List (Happened N) → Happened N → Type 0
  ComesWell so (Back a v) = BackWell so a v (open_from [] so)
  ComesWell so (Got a v) = GotWell so a v
  -- the guard of a slot is known, as a value, to who makes it
  ComesWell so (SlotMade a k v) = (c : Cell N) × (slice_get h.slots k ≡ Some c) × Knows K h so a (AValue c.guard)
  -- what reacts is what the vat follows the value to that is to react
  ComesWell so (Reacts a x o m) = Follows K h.start so o m.target
  -- a promise is the vat's own, of a number that it had not used before the step
  ComesWell so (PromiseMade a p r) = (i k : ℕ) × (p ≡ K.made (IsOwn i) k) × (h.start.vat.promises ≤ i) × (length h.start.vat.known ≤ k)
  -- what is told of a name has its cause
  ComesWell so (Settles p y) = SettlesWell K h.start so p y
  ComesWell so (Waits p q) = WaitsWell K h.start so p q
  ComesWell so (Views p q) = ViewsBy K h.start h.start.step p q
  ComesWell so _ = Unit {0}

  -- a line, after these
  abbrev pub LineWell : List (Happened N) → Happened N → Type 0
  LineWell so e = AllOf (λ u. Knows K h so u.0 u.1 ⊎ IsAmong u.1 (itself e)) (uses e) × ComesWell so e

  -- lines that come after these
  abbrev pub ConnectedAfter : List (Happened N) → List (Happened N) → Type 0
  ConnectedAfter so [] = Unit {0}
  ConnectedAfter so (e ∷ es) = LineWell so e × ConnectedAfter (so ++ e ∷ []) es

  -- the lines of a step
  abbrev pub Connected : List (Happened N) → Type 0
  Connected es = ConnectedAfter [] es

-- opens each definition of this file, and of those below
unfoldable pub opened_connected : Unit {0}
unfolding callee uses itself without_first open_after open_from unless_begun served opened_known
opened_connected = tt

-- ---- steps

-- what an opening activation is given: the roots and names, each bound
unfoldable pub given_to : {N W : Type 0} → Vat N → Step N W → List (ℕ × Item N)
given_to s (Opens tree depth root given) = by s.activations (parts_of_all (map (λ b. b.bound) given))
given_to s (Takes tree depth m) = []
given_to s (Receives from n) = []
given_to s (Notices w) = []

unfoldable pub held_from : {N W : Type 0} → Step N W → Vat N → Vat N → Holdings N W
held_from step s t = record { things = t.things; lists = t.lists; slots = t.slots; before = s.known; given = given_to s step; start = record { step = step; vat = s } }

-- The lines of a step are connected, however it ends. Before a step nothing has happened in it.
abbrev pub StepConnected : {N W : Type 0} → Naming N W → Step N W → Vat N → Type 0
StepConnected K step s = After (λ s t. Connected K (held_from step s t) t.happened) s (does K step s)
