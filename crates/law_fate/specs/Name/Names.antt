-- The names that a vat knows, and the names in what it has.
use Rattle.std.specs.Prelude.{◌≡◌, ℕ, zero, ◌<◌, List, [], ◌∷◌, ◌⊎◌, Some, None, slice_get, map}
use Rattle.def_machine.specs.Values.{Value, Null, Flag, Number, Letter, Text, Prim, Broken, Items, Ref, Name, Root, Object, Promise, Answer, Gift, Sent, host_of, word_of}
use Rattle.def_machine.specs.State.{Bound, Fixed, Slot, Binding, Cell, Freedom, IsSafe, IsItself, IsFinal, IsVar, View, Thing, Made, Ejector, Audition, Resolver, Message, Standing, Unsettled, WaitsOn, Viewed, Settled, Known, Passed, Passeds, Plain, AGift, Many, NoMore, More, Note, Deliver, Open, Ask, SettledTo, Elsewhere, Shorten, Put, GiftEntry, Vat, WhereSome}

-- what is said something of
pub data Bit (N : Type 0) : Type 0 where
  -- a name
  Named : N → Bit N
  -- the name of a message
  Mail : N → Bit N
  -- the word of that key
  Drew : ℕ → Bit N
  -- a vat, and another vat than that of the state
  At : ℕ → Bit N
  Off : ℕ → Bit N
  -- a name of which something is known, in hand or not
  Entered : N → Bit N
  -- the name of a gift at its host, and its key
  Owns : N → ℕ → Bit N
  -- the key of a gift that is in hand
  Gave : ℕ → Bit N

-- what that is of names, messages, words and vats, be they in hand or not
abbrev pub bare : {N : Type 0} → Bit N → Bit N
bare (Named n) = Named n
bare (Mail n) = Mail n
bare (Drew i) = Drew i
bare (At h) = At h
bare (Off h) = Off h
bare (Entered n) = Named n
bare (Owns n i) = Named n
bare (Gave i) = Drew i

-- it holds of each
abbrev pub AllOf : {A : Type 0} → (A → Type 0) → List A → Type 0
AllOf P [] = Unit {0}
AllOf P (x ∷ xs) = P x × AllOf P xs

abbrev pub IsAmong : {A : Type 0} → A → List A → Type 0
IsAmong x [] = ⊥
IsAmong x (y ∷ ys) = (x ≡ y) ⊎ IsAmong x ys

-- ---- it holds of every name in something

module _ {N : Type 0} (P : Bit N → Type 0) where
  abbrev pub ValueOk : Value N → Type 0
  ValueOk (Ref n) = P (Named n)
  ValueOk (Items k) = Unit {0}
  ValueOk Null = Unit {0}
  ValueOk (Flag b) = Unit {0}
  ValueOk (Number z) = Unit {0}
  ValueOk (Letter c) = Unit {0}
  ValueOk (Text t) = Unit {0}
  ValueOk (Prim n) = Unit {0}
  ValueOk (Broken p) = Unit {0}

  abbrev pub ValuesOk : List (Value N) → Type 0
  ValuesOk = AllOf ValueOk

  abbrev pub NameOk : N → Type 0
  NameOk n = P (Named n)

  abbrev pub MessageOk : Message N → Type 0
  MessageOk m = P (Mail m.id) × ValueOk m.target × ValuesOk m.args × WhereSome NameOk m.answer

  abbrev pub StandingOk : Standing N → Type 0
  StandingOk Unsettled = Unit {0}
  StandingOk (WaitsOn q) = P (Named q)
  StandingOk (Viewed q) = P (Named q)
  StandingOk (Settled y) = ValueOk y

  abbrev pub EntryOk : N → Type 0
  EntryOk n = P (Entered n)

  -- What is known of a name, and what waits on it, is not in hand for that; but a name of which a vat is to be told is.
  abbrev pub KnownOk : Known N → Type 0
  KnownOk k = P (Entered k.name) × StandingOk k.standing × AllOf MessageOk k.held × AllOf EntryOk k.waiting × AllOf MessageOk k.reactions × AllOf (λ (w : ℕ). P (Named k.name)) k.told

  abbrev pub CellOk : Cell N → Type 0
  CellOk c = ValueOk c.guard × ValueOk c.value

  abbrev pub FreedomOk : Freedom N → Type 0
  FreedomOk IsSafe = Unit {0}
  FreedomOk IsItself = Unit {0}
  FreedomOk (IsFinal g) = ValueOk g
  FreedomOk IsVar = Unit {0}

  abbrev pub ViewOk : View N → Type 0
  ViewOk view = AllOf (λ f. FreedomOk f.freedom) view.free

  abbrev pub BoundOk : Bound N → Type 0
  BoundOk (Fixed v g) = ValueOk v × ValueOk g
  BoundOk (Slot k) = Unit {0}

  abbrev pub NounOk : Binding N → Type 0
  NounOk b = BoundOk b.bound

  abbrev pub ThingOk : Thing N → Type 0
  ThingOk (Made node caught stamps) = AllOf NounOk caught × ValuesOk stamps
  ThingOk (Ejector live) = Unit {0}
  ThingOk (Audition live view) = ViewOk view
  ThingOk (Resolver p) = P (Named p)

  abbrev mutual
    pub PassedOk : Passed N → Type 0
    PassedOk (Plain y) = ValueOk y
    PassedOk (AGift h i) = P (At h) × P (Drew i)
    PassedOk (Many ys) = PassedsOk ys

    pub PassedsOk : Passeds N → Type 0
    PassedsOk NoMore = Unit {0}
    PassedsOk (More y ys) = PassedOk y × PassedsOk ys

  abbrev pub NoteOk : Note N → Type 0
  NoteOk (Deliver d n verb ys) = P (Mail d.message) × P (Named n) × PassedsOk ys
  NoteOk (Open i n) = P (Drew i) × P (Named n)
  NoteOk (Ask p i n) = P (Gave i) × P (Named n)
  NoteOk (SettledTo n y) = P (Named n) × PassedOk y
  NoteOk (Elsewhere n c) = P (Named n) × P (At c)
  NoteOk (Shorten n c i) = P (Named n) × P (Drew i)

  -- a deliver note is put to another vat
  abbrev pub GoesOk : ℕ → Note N → Type 0
  GoesOk to (Deliver m n verb ys) = P (Off to)
  GoesOk to (Open i n) = Unit {0}
  GoesOk to (Ask p i n) = Unit {0}
  GoesOk to (SettledTo n y) = Unit {0}
  GoesOk to (Elsewhere n c) = Unit {0}
  GoesOk to (Shorten n c i) = Unit {0}

  abbrev pub PutOk : Put N → Type 0
  PutOk p = NoteOk p.note × GoesOk p.to p.note

  abbrev pub GiftOk : GiftEntry N → Type 0
  GiftOk g = P (Owns g.name g.number) × P (Drew g.number)

  -- of every name in all that a vat has
  pub record Parts (ts : List (Thing N)) (cs : List (Cell N)) (ls : List (List (Value N))) (ms : List (Message N)) (ks : List (Known N)) (gs : List (GiftEntry N)) (ps : List (Put N)) : Type 0 where
    pub things : AllOf ThingOk ts
    pub slots : AllOf CellOk cs
    pub lists : AllOf ValuesOk ls
    pub queue : AllOf MessageOk ms
    pub known : AllOf KnownOk ks
    pub gifts : AllOf GiftOk gs
    pub outbox : AllOf PutOk ps

  abbrev pub Everywhere : Vat N → Type 0
  Everywhere s = Parts s.things s.slots s.lists s.queue s.known s.gifts s.outbox

-- ---- names that were made

-- how many promises, and how many messages, vat v has made
unfoldable pub promises_of : List (Vat Name) → ℕ → ℕ
promises_of vats v = elim (slice_get vats v) [ Some s ↦ s.promises | None ↦ zero ]

unfoldable pub messages_of : List (Vat Name) → ℕ → ℕ
messages_of vats v = elim (slice_get vats v) [ Some s ↦ s.messages | None ↦ zero ]

-- the word of that key is among those drawn
abbrev pub WasDrawn : List ℕ → ℕ → Type 0
WasDrawn draws i = IsAmong (word_of i) draws

-- Its number is one that its vat has given: a promise of that vat, an answer of a message of that vat, a gift under a word that was drawn. A message is no thing to be named.
abbrev pub WasMade : List (Vat Name) → List ℕ → Name → Type 0
WasMade vats draws (Root w) = Unit {0}
WasMade vats draws (Object w i) = Unit {0}
WasMade vats draws (Promise w i) = i < promises_of vats w
WasMade vats draws (Answer h m) = m.number < messages_of vats m.sender
WasMade vats draws (Gift h i) = WasDrawn draws i
WasMade vats draws (Sent m) = ⊥

-- a message that its sender has made
abbrev pub IsMessageMade : List (Vat Name) → Name → Type 0
IsMessageMade vats (Sent m) = m.number < messages_of vats m.sender
IsMessageMade vats (Root w) = ⊥
IsMessageMade vats (Object w i) = ⊥
IsMessageMade vats (Promise w i) = ⊥
IsMessageMade vats (Answer h m) = ⊥
IsMessageMade vats (Gift h i) = ⊥

abbrev pub IsMade : List (Vat Name) → List ℕ → Bit Name → Type 0
IsMade vats draws (Named n) = WasMade vats draws n
IsMade vats draws (Mail n) = IsMessageMade vats n
IsMade vats draws (Drew i) = WasDrawn draws i
IsMade vats draws (At h) = Unit {0}
IsMade vats draws (Off h) = Unit {0}
IsMade vats draws (Entered n) = WasMade vats draws n
IsMade vats draws (Owns n i) = WasMade vats draws n
IsMade vats draws (Gave i) = WasDrawn draws i

-- ---- names that a vat knows

abbrev pub names_in : List (Known Name) → List Name
names_in ks = map (λ k. k.name) ks

-- an object need not come to be known
abbrev pub IsKnownIn : List Name → Name → Type 0
IsKnownIn ns (Object w i) = Unit {0}
IsKnownIn ns n = IsAmong n ns

-- a name is known to the vat, and a message is one that it has had
abbrev pub IsHad : List Name → List Name → Bit Name → Type 0
IsHad ns mails (Named n) = IsKnownIn ns n
IsHad ns mails (Mail n) = IsAmong n mails
IsHad ns mails (Drew i) = Unit {0}
IsHad ns mails (At h) = Unit {0}
IsHad ns mails (Off h) = Unit {0}
IsHad ns mails (Entered n) = IsKnownIn ns n
IsHad ns mails (Owns n i) = IsKnownIn ns n
IsHad ns mails (Gave i) = Unit {0}

-- the vat that tells of it is its host
abbrev pub HostIsTrue : Known Name → Type 0
HostIsTrue k = k.host ≡ host_of k.name

-- a root, a promise, an answer or a gift: what comes to be known
abbrev pub IsEventual : Name → Type 0
IsEventual (Object w i) = ⊥
IsEventual (Root w) = Unit {0}
IsEventual (Promise w i) = Unit {0}
IsEventual (Answer h m) = Unit {0}
IsEventual (Gift h i) = Unit {0}
IsEventual (Sent m) = ⊥

abbrev pub IsMessageName : Name → Type 0
IsMessageName (Sent m) = Unit {0}
IsMessageName (Root w) = ⊥
IsMessageName (Object w i) = ⊥
IsMessageName (Promise w i) = ⊥
IsMessageName (Answer h m) = ⊥
IsMessageName (Gift h i) = ⊥

-- a root, or a promise that was made by Ref.promise()
abbrev pub IsPlain : Name → Type 0
IsPlain (Root w) = Unit {0}
IsPlain (Promise w i) = Unit {0}
IsPlain (Object w i) = ⊥
IsPlain (Answer h m) = ⊥
IsPlain (Gift h i) = ⊥
IsPlain (Sent m) = ⊥

-- none of them is there twice
abbrev pub PlainOnce : List Name → Type 0
PlainOnce [] = Unit {0}
PlainOnce (n ∷ ns) = (IsPlain n → IsAmong n ns → ⊥) × PlainOnce ns

abbrev pub Once : {A : Type 0} → List A → Type 0
Once [] = Unit {0}
Once (x ∷ xs) = (IsAmong x xs → ⊥) × Once xs

-- opens each definition of this file
unfoldable pub opened_names : Unit {0}
unfolding promises_of messages_of
opened_names = tt
