-- In which states, and of which notes, nothing that has a place is lost without a line.
use Rattle.std.specs.Prelude.{◌≡◌, ℕ, ◌≤◌, Bool, List, [], ◌∷◌}
use Rattle.def_machine.specs.Values.{Value, Null, Flag, Number, Letter, Text, Prim, Broken, Items, Ref, Name, Root, Object, Promise, Answer, Gift, Sent, Msg, naming}
use Rattle.def_machine.specs.State.{Message, Standing, Unsettled, WaitsOn, Viewed, Settled, Known, Passed, Passeds, Plain, AGift, Many, NoMore, More, Note, Deliver, Open, Ask, SettledTo, Elsewhere, Shorten, Put, Vat, Done, Gives, Throws, Ejects, Stops}
use Rattle.def_machine.specs.Arrive.{Incoming, Old, New}
use Rattle.law_machine.specs.Machine.Steps.{Step, Opens, Takes, Receives, Notices, does}
use Rattle.law_fate.specs.Fates.Fate.{account}

abbrev pub Each : {A : Type 0} → (A → Type 0) → List A → Type 0
Each P [] = Unit {0}
Each P (x ∷ xs) = P x × Each P xs

-- it is the name of a message
abbrev pub NamesMessage : Name → Type 0
NamesMessage x = (m : Msg) × (x ≡ Sent m)

-- it is the name of no object
abbrev pub NamesNoObject : Name → Type 0
NamesNoObject (Object v i) = ⊥
NamesNoObject (Root v) = Unit {0}
NamesNoObject (Promise v i) = Unit {0}
NamesNoObject (Answer v m) = Unit {0}
NamesNoObject (Gift v i) = Unit {0}
NamesNoObject (Sent m) = Unit {0}

abbrev pub NamesObject : Name → Type 0
NamesObject (Object v i) = Unit {0}
NamesObject (Root v) = ⊥
NamesObject (Promise v i) = ⊥
NamesObject (Answer v m) = ⊥
NamesObject (Gift v i) = ⊥
NamesObject (Sent m) = ⊥

-- it is data, broken or not, or an object
abbrev pub NoPromise : Value Name → Type 0
NoPromise (Ref n) = NamesObject n
NoPromise Null = Unit {0}
NoPromise (Flag b) = Unit {0}
NoPromise (Number z) = Unit {0}
NoPromise (Letter c) = Unit {0}
NoPromise (Text t) = Unit {0}
NoPromise (Prim n) = Unit {0}
NoPromise (Broken p) = Unit {0}
NoPromise (Items k) = Unit {0}

abbrev pub SettledWell : Standing Name → Type 0
SettledWell (Settled y) = NoPromise y
SettledWell Unsettled = Unit {0}
SettledWell (WaitsOn q) = Unit {0}
SettledWell (Viewed q) = Unit {0}

-- a message that is held at that name
abbrev pub HeldWell : Name → Message Name → Type 0
HeldWell n m = (m.target ≡ Ref n) × NamesMessage m.id

-- What is known of a name: it is no object, it settled to no promise, and what it holds was sent on it.
pub record KnownWell (k : Known Name) : Type 0 where
  pub name : NamesNoObject k.name
  pub standing : SettledWell k.standing
  pub held : Each (HeldWell k.name) k.held

-- what passes for what a name settled to: data, an object, or a list by its members
abbrev pub PassedLast : Passed Name → Type 0
PassedLast (Plain y) = NoPromise y
PassedLast (AGift h i) = ⊥
PassedLast (Many ys) = Unit {0}

-- A note under way: its message is named as one, and it settles a name to no promise.
abbrev pub NoteWell : Note Name → Type 0
NoteWell (Deliver d n verb ys) = NamesMessage d.message
NoteWell (Open i n) = Unit {0}
NoteWell (Ask p i n) = Unit {0}
NoteWell (SettledTo n y) = PassedLast y
NoteWell (Elsewhere n c) = Unit {0}
NoteWell (Shorten n c i) = Unit {0}

-- of all that a vat knows, and of the notes that it put in this step
abbrev pub AllWell : Vat Name → Type 0
AllWell s = Each KnownWell s.known × Each (λ (p : Put Name). NoteWell p.note) s.outbox

-- ---- notes that arrive

abbrev pub ComesAsNoObject : Incoming Name Name → Type 0
ComesAsNoObject (Old n) = Unit {0}
ComesAsNoObject (New x h) = NamesNoObject x

abbrev pub ValueComes : Value (Incoming Name Name) → Type 0
ValueComes (Ref x) = ComesAsNoObject x
ValueComes Null = Unit {0}
ValueComes (Flag b) = Unit {0}
ValueComes (Number z) = Unit {0}
ValueComes (Letter c) = Unit {0}
ValueComes (Text t) = Unit {0}
ValueComes (Prim n) = Unit {0}
ValueComes (Broken p) = Unit {0}
ValueComes (Items k) = Unit {0}

abbrev mutual
  pub PassedComes : Passed (Incoming Name Name) → Type 0
  PassedComes (Plain y) = ValueComes y
  PassedComes (AGift h i) = Unit {0}
  PassedComes (Many ys) = AllCome ys

  pub AllCome : Passeds (Incoming Name Name) → Type 0
  AllCome NoMore = Unit {0}
  AllCome (More y ys) = PassedComes y × AllCome ys

abbrev pub IsOldObject : Incoming Name Name → Type 0
IsOldObject (Old n) = NamesObject n
IsOldObject (New x h) = ⊥

-- a value to which a name may settle: data or an object, but no list by its number
abbrev pub ValueSettles : Value (Incoming Name Name) → Type 0
ValueSettles (Ref x) = IsOldObject x
ValueSettles Null = Unit {0}
ValueSettles (Flag b) = Unit {0}
ValueSettles (Number z) = Unit {0}
ValueSettles (Letter c) = Unit {0}
ValueSettles (Text t) = Unit {0}
ValueSettles (Prim n) = Unit {0}
ValueSettles (Broken p) = Unit {0}
ValueSettles (Items k) = Unit {0}

-- or a list by its members, and no gift
abbrev pub PassedSettles : Passed (Incoming Name Name) → Type 0
PassedSettles (Plain y) = ValueSettles y
PassedSettles (AGift h i) = ⊥
PassedSettles (Many ys) = AllCome ys

abbrev pub MessageComes : Incoming Name Name → Type 0
MessageComes (Old m) = NamesMessage m
MessageComes (New m h) = NamesMessage m

-- No object comes to be known as a new name, a message is named as one, and a name settles to data, to an object or to a list.
abbrev pub NoteComes : Note (Incoming Name Name) → Type 0
NoteComes (Deliver d x verb ys) = MessageComes d.message × ComesAsNoObject x × AllCome ys
NoteComes (Open i x) = ComesAsNoObject x
NoteComes (Ask p i x) = Unit {0}
NoteComes (SettledTo x y) = ComesAsNoObject x × PassedSettles y
NoteComes (Elsewhere x c) = ComesAsNoObject x
NoteComes (Shorten x c i) = ComesAsNoObject x

abbrev pub StepComes : Step Name Name → Type 0
StepComes (Opens tree depth root given) = Unit {0}
StepComes (Takes tree depth m) = Unit {0}
StepComes (Receives from n) = NoteComes n
StepComes (Notices w) = Unit {0}

-- All is well after it, and what had a place or a fate has one, unless it stops.
abbrev pub PlacesLast : (ℕ → Bool) → Name → Vat Name → Done Name (Unit {0}) → Type 0
PlacesLast cut x s (Gives a t) = AllWell t × (account cut x s ≤ account cut x t)
PlacesLast cut x s (Throws p t) = AllWell t × (account cut x s ≤ account cut x t)
PlacesLast cut x s (Ejects n y t) = AllWell t × (account cut x s ≤ account cut x t)
PlacesLast cut x s (Stops c t) = Unit {0}

-- in every step of every vat from a state in which all is well, whichever of its links are cut
abbrev pub StepsKeepPlaces : Type 0
StepsKeepPlaces = (word : ℕ → ℕ) (v : ℕ) (step : Step Name Name) (s : Vat Name) (cut : ℕ → Bool) (x : Name) → AllWell s → StepComes step → PlacesLast cut x s (does (naming word v) step s)
