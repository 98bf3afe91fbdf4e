-- What an activation knows at a moment of a step of its vat: the least that initial conditions, endowment, parenthood and introduction give it.
use Rattle.std.specs.Prelude.{◌≡◌, ℕ, true, List, [], ◌∷◌, ◌++◌, Some, map, slice_get, ◌⊎◌, Option, None}
use Rattle.def_machine.specs.Values.{Words, Value, Prim, Items, Ref, Naming, Own}
use Rattle.def_machine.specs.State.{Bound, Fixed, Slot, Binding, Cell, Thing, Made, Message, Viewed, Settled, Known, Happened, Took, Called, Back, Got, SlotMade, SlotRead, ListMade, EjectorMade, AuditionMade, PromiseMade, ObjectMade, Sends, Reacts, Settles, Views, Vat}
use Rattle.def_machine.specs.Refs.{standing_of}
use Rattle.law_machine.specs.Machine.Steps.{Step}
use Rattle.law_machine.specs.Natives.Natives.{IsPlain}

-- What may be known: a value, a value as the guard of something, or a var slot. What is known only as a guard may be called to coerce, and used in no other way.
pub data Item (N : Type 0) : Type 0 where
  AValue : Value N → Item N
  AGuard : Value N → Item N
  ASlot : ℕ → Item N

abbrev pub IsAmong : {A : Type 0} → A → List A → Type 0
IsAmong x [] = ⊥
IsAmong x (y ∷ ys) = (x ≡ y) ⊎ IsAmong x ys

-- it holds of each
abbrev pub AllOf : {A : Type 0} → (A → Type 0) → List A → Type 0
AllOf P [] = Unit {0}
AllOf P (x ∷ xs) = P x × AllOf P xs

-- a step, and the vat before it
pub record Start (N W : Type 0) : Type 0 where
  pub step : Step N W
  pub vat : Vat N

-- What a step's lines are read against. Objects keep their captures, lists their members and slots their guards, so these may be looked up in the state after the step.
pub record Holdings (N W : Type 0) : Type 0 where
  pub things : List (Thing N)
  pub lists : List (List (Value N))
  pub slots : List (Cell N)
  -- what was known of names before the step
  pub before : List (Known N)
  -- what an opening activation is given, each with the number of that activation
  pub given : List (ℕ × Item N)
  pub start : Start N W

-- what is in a capture: a fixed value and its guard, or a var slot
unfoldable pub parts_of : {N : Type 0} → Bound N → List (Item N)
parts_of (Fixed v g) = AValue v ∷ AGuard g ∷ []
parts_of (Slot k) = ASlot k ∷ []

unfoldable pub parts_of_all : {N : Type 0} → List (Bound N) → List (Item N)
parts_of_all [] = []
parts_of_all (b ∷ bs) = parts_of b ++ parts_of_all bs

-- data that a message is taken on; that an object takes a message does not make the object known to its own code
unfoldable pub data_of : {N : Type 0} → Value N → List (Item N)
data_of (Ref n) = []
data_of y = AValue y ∷ []

unfoldable pub by : {N : Type 0} → ℕ → List (Item N) → List (ℕ × Item N)
by a is = map (λ i. (a, i)) is

unfoldable pub values : {N : Type 0} → List (Value N) → List (Item N)
values vs = map AValue vs

-- the answer that a message may have
unfoldable pub answers : {N : Type 0} → Option N → List (Item N)
answers (Some n) = AValue (Ref n) ∷ []
answers None = []

-- What a line by itself makes known, and to which activation: parenthood and introduction.
unfoldable pub tells : {N : Type 0} → Happened N → List (ℕ × Item N)
-- arguments, and the data that takes the message
tells (Took a m) = by a (values m.args ++ data_of m.target)
-- arguments
tells (Called a x verb args (Some b)) = by b (values args)
-- what a call gave back, what came from an ejector, what was read from a slot
tells (Back a v) = by a (AValue v ∷ [])
tells (Got a v) = by a (AValue v ∷ [])
tells (SlotRead a k v) = by a (AValue v ∷ [])
-- what was made, and the answers of sends and reactions
tells (SlotMade a k v) = by a (ASlot k ∷ [])
tells (ListMade a k vs) = by a (AValue (Items k) ∷ [])
tells (EjectorMade a j) = by a (AValue (Ref j) ∷ [])
tells (AuditionMade a n) = by a (AValue (Ref n) ∷ [])
tells (PromiseMade a p r) = by a (AValue (Ref p) ∷ AValue (Ref r) ∷ [])
tells (ObjectMade a me x caught stamps) = by a (AValue (Ref me) ∷ [])
tells (Sends a m) = by a (answers m.answer)
tells (Reacts a x o m) = by a (answers m.answer)
tells _ = []

-- before is what was known of names before the step
module _ {N W : Type 0} (K : Naming N W) (before : List (Known N)) where
  -- two names of one entry among the names known
  abbrev pub AreOne : N → N → Type 0
  AreOne p n = (m : N) × (K.same m p ≡ true) × (K.same m n ≡ true)

  -- after these lines, a value is followed to that in one step: the name settled to it, or has it as its view
  pub data Leads (so : List (Happened N)) : Value N → Value N → Type 0 where
    settled : {n : N} {y : Value N} → standing_of K before n ≡ Settled y → Leads so (Ref n) y
    viewed : {n q : N} → standing_of K before n ≡ Viewed q → Leads so (Ref n) (Ref q)
    settles : {n : N} {y : Value N} (p : N) → IsAmong (Settles p y) so → AreOne p n → Leads so (Ref n) y
    views : {n q : N} (p : N) → IsAmong (Views p q) so → AreOne p n → Leads so (Ref n) (Ref q)

  -- in any number of steps
  pub data Reaches (so : List (Happened N)) : Value N → Value N → Type 0 where
    itself : {x : Value N} → Reaches so x x
    onward : {x z : Value N} (y : Value N) → Leads so x y → Reaches so y z → Reaches so x z

  -- a value is followed to what bears that number of the vat
  abbrev pub IsThing : List (Happened N) → Value N → ℕ → Type 0
  IsThing so x i = (n : N) × Reaches so x (Ref n) × (K.spot n ≡ Own i)

module _ {N W : Type 0} (K : Naming N W) (h : Holdings N W) where
  -- an activation runs the code of that object: a call on it began the activation, or it took a message
  pub data Runs (so : List (Happened N)) : ℕ → ℕ → Type 0 where
    called : {b i : ℕ} (a : ℕ) (x : Value N) (verb : Words) (args : List (Value N)) → IsAmong (Called a x verb args (Some b)) so → IsThing K h.before so x i → Runs so b i
    took : {a i : ℕ} (m : Message N) → IsAmong (Took a m) so → IsThing K h.before so m.target i → Runs so a i

  -- After these lines the activation of that number knows the item.
  pub data Knows (so : List (Happened N)) : ℕ → Item N → Type 0 where
    -- data in which no name stands
    plain : {a : ℕ} {v : Value N} → IsPlain v → Knows so a (AValue v)
    -- initial conditions
    initial : {a : ℕ} {i : Item N} → IsAmong (a, i) h.given → Knows so a i
    -- endowment: what is captured by the object whose code it runs
    endowed : {a : ℕ} {i : Item N} (k node : ℕ) (caught : List (Binding N)) (stamps : List (Value N))
        → Runs so a k → slice_get h.things k ≡ Some (Made node caught stamps) → IsAmong i (parts_of_all (map (λ b. b.bound) caught)) → Knows so a i
    -- parenthood and introduction: what a line made known to it
    told : {a : ℕ} {i : Item N} (e : Happened N) → IsAmong e so → IsAmong (a, i) (tells e) → Knows so a i
    -- a member of a list that it knows
    member : {a : ℕ} {v : Value N} (k : ℕ) (vs : List (Value N)) → Knows so a (AValue (Items k)) → slice_get h.lists k ≡ Some vs → IsAmong v vs → Knows so a (AValue v)
    -- what its vat followed a known name to
    followed : {a : ℕ} {y : Value N} (x : Value N) → Knows so a (AValue x) → Leads K h.before so x y → Knows so a (AValue y)
    -- a value that it knows, as a guard
    serves : {a : ℕ} {v : Value N} → Knows so a (AValue v) → Knows so a (AGuard v)
    -- the guard of a slot that it knows
    guard : {a : ℕ} (k : ℕ) (c : Cell N) → Knows so a (ASlot k) → slice_get h.slots k ≡ Some c → Knows so a (AGuard c.guard)

-- opens the definitions of this file
unfoldable pub opened_known : Unit {0}
unfolding parts_of parts_of_all data_of by values answers tells
opened_known = tt
