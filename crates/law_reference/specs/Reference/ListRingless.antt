-- A vat in which no list leads back to itself, with what of its names keeps that so in every step.
use Rattle.std.specs.Prelude.{◌≡◌, ℕ, Bool, true, false, List, [], Some, None, length, ◌⊎◌}
use Rattle.def_machine.specs.Values.{Value, Null, Flag, Number, Letter, Text, Prim, Broken, Items, Ref, Name, Root, Object, Promise, Answer, Gift, Sent, Naming, naming, host_of, word_of}
use Rattle.def_machine.specs.State.{Message, Standing, Viewed, Settled, Known, Passed, Passeds, Plain, AGift, Many, NoMore, More, Note, Deliver, Open, Ask, SettledTo, Elsewhere, Shorten, Put, GiftEntry, Vat, Done, Gives, Throws, Ejects, Stops, is_in, WhereSome}
use Rattle.def_machine.specs.Arrive.{Incoming, Old, New, gift_at}
use Rattle.def_machine.specs.Refs.{entry_of, standing_of}
use Rattle.law_machine.specs.Machine.Breaks.{still_waits}
use Rattle.law_machine.specs.Machine.Steps.{Step, Opens, Takes, Receives, Notices, does, After}
use Rattle.law_fate.specs.Name.Names.{AllOf, IsAmong, WasDrawn, IsMessageName, IsEventual}
use Rattle.law_frozen.specs.Frozen.{NotePasses, Sound}
use Rattle.law_frozen.specs.Laws.{StepWell}
use Rattle.law_reference.specs.Reference.Lists.{NoListLeadsBack}

-- ---- names

abbrev pub IsAnswerName : Name → Type 0
IsAnswerName (Answer h m) = Unit {0}
IsAnswerName (Root w) = ⊥
IsAnswerName (Object w i) = ⊥
IsAnswerName (Promise w i) = ⊥
IsAnswerName (Gift h i) = ⊥
IsAnswerName (Sent m) = ⊥

abbrev pub IsObjectName : Name → Type 0
IsObjectName (Object w i) = Unit {0}
IsObjectName (Root w) = ⊥
IsObjectName (Promise w i) = ⊥
IsObjectName (Answer h m) = ⊥
IsObjectName (Gift h i) = ⊥
IsObjectName (Sent m) = ⊥

-- Where D tells of which draws the gifts came to be as views of names: a gift of such a draw.
abbrev pub IsView : (ℕ → Type 0) → Name → Type 0
IsView D (Gift h i) = D i
IsView D (Root w) = ⊥
IsView D (Object w i) = ⊥
IsView D (Promise w i) = ⊥
IsView D (Answer h m) = ⊥
IsView D (Sent m) = ⊥

-- a message whose answer vat v hosts
abbrev pub IsOwn : ℕ → Message Name → Type 0
IsOwn v m = IsMessageName m.id × WhereSome (λ a. (host_of a ≡ v) × IsAnswerName a) m.answer

abbrev pub HoldsOwn : ℕ → Known Name → Type 0
HoldsOwn v k = AllOf (IsOwn v) k.held × AllOf (IsOwn v) k.reactions

-- a gift at vat v is named by its key
abbrev pub IsNamed : ℕ → GiftEntry Name → Type 0
IsNamed v g = g.name ≡ Gift v g.number

-- no promise
abbrev pub NoPromise : Value Name → Type 0
NoPromise y = (n : Name) → y ≡ Ref n → IsEventual n → ⊥

-- ---- what a vat knows

module _ (K : Naming Name Name) (v : ℕ) where
  -- what waits has a host that was not noticed
  abbrev pub WaitsSpared : List (Known Name) → List ℕ → Type 0
  WaitsSpared ks hs = (n : Name) (k : Known Name) → entry_of K ks n ≡ Some k → still_waits k.standing ≡ true → is_in k.host hs ≡ false

  -- a name of the vat's own is not viewed
  abbrev pub ViewsFar : List (Known Name) → Type 0
  ViewsFar ks = (n g : Name) → standing_of K ks n ≡ Viewed g → host_of n ≡ v → ⊥

  -- a name that is viewed is among those
  abbrev pub ViewsSeen : (Name → Type 0) → List (Known Name) → Type 0
  ViewsSeen Seen ks = (n g : Name) → standing_of K ks n ≡ Viewed g → Seen n

  -- a name of the vat's own, and no view
  abbrev pub IsOwnName : (ℕ → Type 0) → Name → Type 0
  IsOwnName D n = (host_of n ≡ v) × (IsView D n → ⊥)

  -- so is what waits on a name that is no view
  abbrev pub WaitsOwn : (ℕ → Type 0) → List (Known Name) → Type 0
  WaitsOwn D ks = (n p : Name) (k : Known Name) → entry_of K ks p ≡ Some k → IsAmong n k.waiting → (IsView D p → ⊥) → IsOwnName D n

  -- a name settles to no promise, and no view to a list
  abbrev pub SettlesSo : (ℕ → Type 0) → Name → Value Name → Type 0
  SettlesSo D n y = NoPromise y × ((c : ℕ) → y ≡ Items c → IsView D n → ⊥)

  abbrev pub SettledSo : (ℕ → Type 0) → List (Known Name) → Type 0
  SettledSo D ks = (n : Name) (y : Value Name) → standing_of K ks n ≡ Settled y → SettlesSo D n y

module _ (K : Naming Name Name) (v : ℕ) (D : ℕ → Type 0) (Seen : Name → Type 0) where
  pub record NamesRest (ks : List (Known Name)) (hs : List ℕ) : Type 0 where
    -- the vat did not notice itself
    pub here : is_in v hs ≡ false
    pub spared : WaitsSpared K v ks hs
    pub far : ViewsFar K v ks
    pub seen : ViewsSeen K v Seen ks
    pub waits : WaitsOwn K v D ks
    pub settled : SettledSo K v D ks
    -- the vat hosts the answers of the messages that it holds
    pub held : AllOf (HoldsOwn v) ks
    -- what is known is no object
    pub eventual : AllOf (λ (k : Known Name). IsEventual k.name) ks

  -- where these are the vats that were noticed
  pub record Ringless (hs : List ℕ) (s : Vat Name) : Type 0 where
    pub number : s.number ≡ v
    pub names : NamesRest s.known hs
    pub none : NoListLeadsBack K s
    -- the vat hosts the answers of the messages that it is to take
    pub queue : AllOf (IsOwn v) s.queue
    pub gifts : AllOf (IsNamed v) s.gifts

-- ---- what a vat puts

module _ (K : Naming Name Name) (D : ℕ → Type 0) where
  -- what passes is a list only where the name settled to one
  abbrev pub PassesSo : Standing Name → Passed Name → Type 0
  PassesSo t (Many ys) = (c : ℕ) × (t ≡ Settled (Items c))
  PassesSo t (Plain y) = Unit {0}
  PassesSo t (AGift h i) = Unit {0}

  -- Of what a vat knows, its notes tell truly: that a name settled to a list, or that it settled to an object; and what it opens as a view is an object.
  abbrev pub NoteTells : List (Known Name) → Note Name → Type 0
  NoteTells ks (Open i n) = IsObjectName n ⊎ (D i → ⊥)
  NoteTells ks (SettledTo n y) = PassesSo (standing_of K ks n) y
  NoteTells ks (Elsewhere n c) = (o : Name) × (standing_of K ks n ≡ Settled (Ref o))
  NoteTells ks (Deliver m n verb ys) = Unit {0}
  NoteTells ks (Ask p i n) = Unit {0}
  NoteTells ks (Shorten n c i) = Unit {0}

  -- So do the notes put, and no view is under a word that was not drawn.
  abbrev pub PutsSo : List (Known Name) → List (Put Name) → List ℕ → Type 0
  PutsSo ks ps ds = ((i : ℕ) → (WasDrawn ds i → ⊥) → D i → ⊥) × AllOf (λ (p : Put Name). NoteTells ks p.note) ps

  abbrev pub TellsSo : Vat Name → Type 0
  TellsSo s = PutsSo s.known s.outbox s.drawn

-- an opening turn that resolves a name of the vat's own, and a turn of a message whose answer it hosts
abbrev pub IsOwnTurn : ℕ → (ℕ → Type 0) → Step Name Name → Type 0
IsOwnTurn v D (Opens tree depth root given) = (host_of root ≡ v) × (IsView D root → ⊥)
IsOwnTurn v D (Takes tree depth m) = WhereSome (λ a. (host_of a ≡ v) × (IsView D a → ⊥)) m.answer
IsOwnTurn v D (Receives from n) = ⊥
IsOwnTurn v D (Notices w) = ⊥

-- where D tells under which keys the views are, and Seen which names may be viewed
abbrev pub TurnsKeep : (ℕ → Type 0) → (Name → Type 0) → Type 0
TurnsKeep D Seen = (word : ℕ → ℕ) (v : ℕ) (step : Step Name Name) (s : Vat Name) → IsOwnTurn v D step → Sound (naming word v) s → StepWell (naming word v) s step → TellsSo (naming word v) D s
    → Ringless (naming word v) v D Seen s.noticed s → After (λ r t. Sound (naming word v) t × Ringless (naming word v) v D Seen t.noticed t × TellsSo (naming word v) D t) s (does (naming word v) step s)

-- Every opening turn and every turn from such a state ends in such a state.
abbrev pub TurnsCloseNoRing : Type 0
TurnsCloseNoRing = (D : ℕ → Bool) (Seen : Name → Bool) → TurnsKeep (λ i. D i ≡ true) (λ n. Seen n ≡ true)

-- ---- what is asked of a note

-- the name that a note tells
abbrev pub told_name : Incoming Name Name → Name
told_name (Old n) = n
told_name (New x h) = x

-- It is known, or it is no object and has a host that was not noticed.
abbrev pub IsToldWell : List ℕ → Incoming Name Name → Type 0
IsToldWell hs (Old n) = Unit {0}
IsToldWell hs (New x h) = (is_in h hs ≡ false) × IsEventual x

abbrev pub ToldValue : List ℕ → Value (Incoming Name Name) → Type 0
ToldValue hs (Ref x) = IsToldWell hs x
ToldValue hs Null = Unit {0}
ToldValue hs (Flag b) = Unit {0}
ToldValue hs (Number z) = Unit {0}
ToldValue hs (Letter c) = Unit {0}
ToldValue hs (Text t) = Unit {0}
ToldValue hs (Prim n) = Unit {0}
ToldValue hs (Broken p) = Unit {0}
ToldValue hs (Items k) = Unit {0}

-- so is each name that passes; of gifts nothing is asked, since one of a host that was noticed breaks as it comes to be known
abbrev mutual
  pub ToldPassed : List ℕ → Passed (Incoming Name Name) → Type 0
  ToldPassed hs (Plain y) = ToldValue hs y
  ToldPassed hs (AGift h i) = Unit {0}
  ToldPassed hs (Many ys) = ToldPasseds hs ys

  pub ToldPasseds : List ℕ → Passeds (Incoming Name Name) → Type 0
  ToldPasseds hs NoMore = Unit {0}
  ToldPasseds hs (More y ys) = ToldPassed hs y × ToldPasseds hs ys

-- the name of a message
abbrev pub IsToldMail : Incoming Name Name → Type 0
IsToldMail (Old n) = IsMessageName n
IsToldMail (New x h) = IsMessageName x

-- a list, data, or an object that is told so
abbrev pub SettlesWell : Passed (Incoming Name Name) → Type 0
SettlesWell (Plain (Ref (Old n))) = IsEventual n → ⊥
SettlesWell (Plain (Ref (New x h))) = ⊥
SettlesWell (AGift h i) = ⊥
SettlesWell (Plain Null) = Unit {0}
SettlesWell (Plain (Flag b)) = Unit {0}
SettlesWell (Plain (Number z)) = Unit {0}
SettlesWell (Plain (Letter c)) = Unit {0}
SettlesWell (Plain (Text t)) = Unit {0}
SettlesWell (Plain (Prim n)) = Unit {0}
SettlesWell (Plain (Broken p)) = Unit {0}
SettlesWell (Plain (Items k)) = Unit {0}
SettlesWell (Many ys) = Unit {0}

-- where a list passes for what a name settled to, that holds of the name
abbrev pub IfMany : Passed (Incoming Name Name) → Type 0 → Type 0
IfMany (Many ys) P = P
IfMany (Plain y) P = Unit {0}
IfMany (AGift h i) P = Unit {0}

-- no gift under a word that was not drawn is known or waits
abbrev pub NextIsNew : Naming Name Name → Vat Name → Type 0
NextIsNew K s = ((h i : ℕ) → (WasDrawn s.drawn i → ⊥) → entry_of K s.known (Gift h i) ≡ None) × ((p i : ℕ) → (WasDrawn s.drawn i → ⊥) → gift_at p i s.gifts ≡ None)
    × ((h i : ℕ) → (WasDrawn s.drawn i → ⊥) → (p : Name) (k : Known Name) → entry_of K s.known p ≡ Some k → IsAmong (Gift h i) k.waiting → ⊥)

-- What is asked of a note that arrives.
abbrev pub NoteBehind : Naming Name Name → ℕ → (ℕ → Type 0) → (Name → Type 0) → ℕ → List ℕ → Vat Name → Note (Incoming Name Name) → Type 0
NoteBehind K v D Seen from hs s (Deliver d x verb ys) = IsToldMail d.message × IsToldWell hs x × ToldPasseds hs ys
-- what is opened as a view is an object
NoteBehind K v D Seen from hs s (Open i x) = IsToldWell hs x × (IsObjectName (told_name x) ⊎ (D i → ⊥))
NoteBehind K v D Seen from hs s (Ask p i x) = Unit {0}
-- a name that settles to a list is not viewed, and no view
NoteBehind K v D Seen from hs s (SettledTo x y) = IsToldWell hs x × ToldPassed hs y × SettlesWell y × IfMany y ((Seen (told_name x) → ⊥) × (IsView D (told_name x) → ⊥))
-- the name is of another vat and is among those that may be viewed, and the gifts under words that were not drawn are new
NoteBehind K v D Seen from hs s (Elsewhere x c) = IsToldWell hs x × (host_of (told_name x) ≡ v → ⊥) × Seen (told_name x) × NextIsNew K s × ((g i : ℕ) → (WasDrawn s.drawn i → ⊥) → told_name x ≡ Gift g i → ⊥)
NoteBehind K v D Seen from hs s (Shorten x c i) = IsToldWell hs x

-- Where a note may settle a name to a list, what was noticed is heeded.
abbrev pub IsHeeded : Bool → Note (Incoming Name Name) → Type 0
IsHeeded heed (Open i x) = heed ≡ true
IsHeeded heed (SettledTo x y) = heed ≡ true
IsHeeded heed (Deliver m x verb ys) = Unit {0}
IsHeeded heed (Ask p i x) = Unit {0}
IsHeeded heed (Elsewhere x c) = Unit {0}
IsHeeded heed (Shorten x c i) = Unit {0}

-- the vats that were noticed, where they are heeded
abbrev pub heeded : Bool → Vat Name → List ℕ
heeded heed s = elim heed [ true ↦ s.noticed | false ↦ [] ]

-- the keys of views after the arrival: where a name is told to have settled elsewhere, and that vat was not noticed, those of the next word too, where it is new
abbrev pub DrawsAfter : (ℕ → ℕ) → (ℕ → Type 0) → Vat Name → Note (Incoming Name Name) → ℕ → Type 0
DrawsAfter word D s (Elsewhere x c) i = D i ⊎ ((is_in c s.noticed ≡ false) × (WasDrawn s.drawn i → ⊥) × (word_of i ≡ word (length s.drawn)))
DrawsAfter word D s (Deliver m x verb ys) i = D i
DrawsAfter word D s (Open j x) i = D i
DrawsAfter word D s (Ask p j x) i = D i
DrawsAfter word D s (SettledTo x y) i = D i
DrawsAfter word D s (Shorten x c j) i = D i

-- In such a state, with those keys of views; where it does not give, they are as they were.
abbrev pub ArrivedSo : (ℕ → ℕ) → ℕ → (ℕ → Type 0) → (ℕ → Type 0) → (Name → Type 0) → Bool → Done Name (Unit {0}) → Type 0
ArrivedSo word v D E Seen heed (Gives a t) = Sound (naming word v) t × Ringless (naming word v) v E Seen (heeded heed t) t × TellsSo (naming word v) E t
ArrivedSo word v D E Seen heed (Throws p t) = Sound (naming word v) t × Ringless (naming word v) v D Seen (heeded heed t) t × TellsSo (naming word v) D t
ArrivedSo word v D E Seen heed (Ejects n x t) = Sound (naming word v) t × Ringless (naming word v) v D Seen (heeded heed t) t × TellsSo (naming word v) D t
ArrivedSo word v D E Seen heed (Stops c t) = Sound (naming word v) t × Ringless (naming word v) v D Seen (heeded heed t) t × TellsSo (naming word v) D t

abbrev pub ArrivalsKeep : (ℕ → Type 0) → (Name → Type 0) → Type 0
ArrivalsKeep D Seen = (word : ℕ → ℕ) (v from : ℕ) (n : Note (Incoming Name Name)) (heed : Bool) (s : Vat Name) → IsHeeded heed n → NoteBehind (naming word v) v D Seen from (heeded heed s) s n → Sound (naming word v) s → NotePasses n
    → s.outbox ≡ [] → TellsSo (naming word v) D s → Ringless (naming word v) v D Seen (heeded heed s) s
    → ArrivedSo word v D (λ i. DrawsAfter word D s n i) Seen heed (does (naming word v) (Receives from n) s)

-- So does the arrival of every such note, whether what was noticed is heeded or, where it settles no name to a list, not.
abbrev pub ArrivalsCloseNoRing : Type 0
ArrivalsCloseNoRing = (D : ℕ → Bool) (Seen : Name → Bool) → ArrivalsKeep (λ i. D i ≡ true) (λ n. Seen n ≡ true)

abbrev pub NoticesKeep : (ℕ → Type 0) → (Name → Type 0) → Type 0
NoticesKeep D Seen = (word : ℕ → ℕ) (v w : ℕ) (s : Vat Name) → Sound (naming word v) s → TellsSo (naming word v) D s → Ringless (naming word v) v D Seen [] s
    → After (λ r t. Sound (naming word v) t × Ringless (naming word v) v D Seen [] t × TellsSo (naming word v) D t) s (does (naming word v) (Notices w) s)

-- So does the notice of a cut, where what was noticed is not heeded: each name that settles then breaks.
abbrev pub NoticeStepsCloseNoRing : Type 0
NoticeStepsCloseNoRing = (D : ℕ → Bool) (Seen : Name → Bool) → NoticesKeep (λ i. D i ≡ true) (λ n. Seen n ≡ true)
