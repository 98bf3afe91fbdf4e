-- Facts on the names that occur in what a vat has.
use Rattle.std.proofs.Common.{ℕ, List, [], ◌∷◌, ◌++◌, Option, Some, None}
use Rattle.def_machine.specs.Values.{Value, Ref, Coming, IsAnswer, IsGift}
use Rattle.def_machine.specs.State.{Bound, Fixed, Slot, Binding, Scope, Cell, Freedom, IsFinal, View, Thing, Made, Ejector, Audition, Resolver, Message, Standing, Unsettled, WaitsOn, Viewed, Settled, Known, Change, Hold, Wait, WaitOn, See, React, ToTell, Settle, Passed, Passeds, Plain, AGift, Many, NoMore, More, Note, Deliver, Open, Ask, SettledTo, Elsewhere, Shorten, Put, GiftEntry, WhereSome}
use Rattle.law_machine.specs.Natives.Natives.{ReplyHas, AskedHas}
use Rattle.law_fate.specs.Name.Names.{Bit, Named, Mail, Drew, At, Off, Entered, Owns, Gave, AllOf, ValueOk, ValuesOk, NameOk, EntryOk, MessageOk, StandingOk, KnownOk, CellOk, FreedomOk, ViewOk, BoundOk, NounOk, ThingOk, PassedOk, PassedsOk, NoteOk, GoesOk, PutOk, GiftOk}
use Rattle.def_machine.specs.Refs.{Place, Mine, Away, Parcel}
use Rattle.def_machine.specs.Native.{Reply, Says, Lists as Listed, Iterates, Asked, MakesList, Loops, SendsTo, CallsTo, Breaks, Tells, Whens, Coerces, AddsNull}
use Rattle.def_machine.specs.Scopes.{Answer, Answers, AuditionAsk, GetsGuard, Asks, ResolverAsk, Resolves, Smashes, NoResolverAsk}

abbrev pub MayBe : {A : Type 0} → (A → Type 0) → Option A → Type 0
MayBe P (Some x) = P x
MayBe P None = Unit {0}

pub all_map : {A : Type 0} {P Q : A → Type 0} → ((x : A) → P x → Q x) → (xs : List A) → AllOf P xs → AllOf Q xs
all_map f [] h = tt
all_map f (x ∷ xs) h = (f x h.0, all_map f xs h.1)

pub all_end : {A : Type 0} (P : A → Type 0) (xs : List A) (x : A) → AllOf P xs → P x → AllOf P (xs ++ x ∷ [])
all_end P [] x h p = (p, tt)
all_end P (y ∷ xs) x h p = (h.0, all_end P xs x h.1 p)

pub all_append : {A : Type 0} (P : A → Type 0) (xs ys : List A) → AllOf P xs → AllOf P ys → AllOf P (xs ++ ys)
all_append P [] ys h k = k
all_append P (x ∷ xs) ys h k = (h.0, all_append P xs ys h.1 k)

-- what holds, holds of each
pub all_so : {A : Type 0} (Q : Type 0) (xs : List A) → Q → AllOf (λ (x : A). Q) xs
all_so Q [] h = tt
all_so Q (x ∷ xs) h = (h, all_so Q xs h)

pub may_map : {A : Type 0} {P Q : A → Type 0} → ((x : A) → P x → Q x) → (o : Option A) → MayBe P o → MayBe Q o
may_map f (Some x) h = f x h
may_map f None h = tt

module _ {N : Type 0} (P : Bit N → Type 0) where
  abbrev pub PlaceOk : Place N → Type 0
  PlaceOk (Mine n) = P (Named n)
  PlaceOk (Away h n o) = P (Named n) × P (Off h)
  PlaceOk other = Unit {0}

  abbrev pub ChangeOk : Change N → Type 0
  ChangeOk (Hold m) = MessageOk P m
  ChangeOk (Wait q) = P (Entered q)
  ChangeOk (WaitOn q) = P (Named q)
  ChangeOk (See q) = P (Named q)
  ChangeOk (React m) = MessageOk P m
  ChangeOk (ToTell w) = Unit {0}
  ChangeOk (Settle y) = ValueOk P y

  -- what a change asks of the name that it changes
  abbrev pub OnOk : Change N → N → Type 0
  OnOk (ToTell w) n = P (Named n)
  OnOk other n = Unit {0}

  -- what comes to be known by the vat's own doing; what is learnt from a note is another thing
  abbrev pub ComingOk : {W : Type 0} → Coming N W → Type 0
  ComingOk (IsAnswer h m) = P (Mail m)
  ComingOk (IsGift h i) = P (Drew i)
  ComingOk other = ⊥

  abbrev pub ReplyOk : Reply N → Type 0
  ReplyOk = ReplyHas (ValueOk P)

  abbrev pub AskedOk : Asked N → Type 0
  AskedOk = AskedHas (ValueOk P)

  abbrev pub AuditionAskOk : AuditionAsk N → Type 0
  AuditionAskOk (GetsGuard x) = ValueOk P x
  AuditionAskOk (Asks x) = ValueOk P x
  AuditionAskOk other = Unit {0}

  abbrev pub ResolverAskOk : ResolverAsk N → Type 0
  ResolverAskOk (Resolves x) = ValueOk P x
  ResolverAskOk (Smashes x) = ValueOk P x
  ResolverAskOk NoResolverAsk = Unit {0}

-- what may be known of what a vat has in hand
pub data Fact (N : Type 0) : Type 0 where
  Nothing : Fact N
  Also : Fact N → Fact N → Fact N
  IsName : N → Fact N
  IsMail : N → Fact N
  IsDraw : ℕ → Fact N
  IsVat : ℕ → Fact N
  IsOff : ℕ → Fact N
  -- a name of which something is known, the name of a gift at its host, and the draw of a gift in hand
  IsEntry : N → Fact N
  IsOwned : N → ℕ → Fact N
  IsGiven : ℕ → Fact N
  AreEntries : List N → Fact N
  -- a name of which these vats are to be told is in hand
  AreTold : N → List ℕ → Fact N
  -- what is known of that name
  MayEntry : N → Option (Known N) → Fact N
  AreNames : List N → Fact N
  -- the answer that a message may have
  MayName : Option N → Fact N
  IsValue : Value N → Fact N
  AreValues : List (Value N) → Fact N
  AreLists : List (List (Value N)) → Fact N
  IsBound : Bound N → Fact N
  AreNouns : List (Binding N) → Fact N
  IsMessage : Message N → Fact N
  AreMessages : List (Message N) → Fact N
  IsKnown : Known N → Fact N
  AreKnown : List (Known N) → Fact N
  IsGiftEntry : GiftEntry N → Fact N
  AreGifts : List (GiftEntry N) → Fact N
  IsPlace : Place N → Fact N
  IsThing : Thing N → Fact N
  IsView : View N → Fact N
  IsCell : Cell N → Fact N
  IsChange : Change N → Fact N
  MayValue : Option (Value N) → Fact N
  MayBound : Option (Bound N) → Fact N
  MayCell : Option (Cell N) → Fact N
  MayThing : Option (Thing N) → Fact N
  MayKnown : Option (Known N) → Fact N
  MayGift : Option (GiftEntry N) → Fact N
  IsReply : Reply N → Fact N
  IsAsked : Asked N → Fact N
  IsAuditionAsk : AuditionAsk N → Fact N
  IsResolverAsk : ResolverAsk N → Fact N
  DoesPass : Passed N → Fact N
  DoAllPass : Passeds N → Fact N
  NoteDoes : Note N → Fact N
  NoteGoes : ℕ → Note N → Fact N

-- what each kind of outcome is known to be
abbrev pub scope : {N : Type 0} → Scope N → Fact N
scope here = AreNouns here.nouns

abbrev pub answer : {N : Type 0} → Answer N → Fact N
answer x = Also (IsValue x.value) (AreNouns x.scope.nouns)

abbrev pub answers : {N : Type 0} → Answers N → Fact N
answers x = Also (AreValues x.values) (AreNouns x.scope.nouns)

abbrev pub parcel : {N : Type 0} → Parcel N → Fact N
parcel x = DoesPass x.value

abbrev pub new_names : {N : Type 0} → (N × N) → Fact N
new_names x = Also (IsMail x.0) (IsName x.1)

abbrev pub nothing : {N A : Type 0} → A → Fact N
nothing a = Nothing

module _ {N : Type 0} (P : Bit N → Type 0) where
  abbrev pub Holds : Fact N → Type 0
  Holds Nothing = Unit {0}
  Holds (Also A B) = Holds A × Holds B
  Holds (IsName n) = P (Named n)
  Holds (IsMail n) = P (Mail n)
  Holds (IsDraw i) = P (Drew i)
  Holds (IsVat h) = P (At h)
  Holds (IsOff h) = P (Off h)
  Holds (IsEntry n) = P (Entered n)
  Holds (IsOwned n i) = P (Owns n i)
  Holds (IsGiven i) = P (Gave i)
  Holds (AreEntries ns) = AllOf (EntryOk P) ns
  Holds (AreTold p ws) = AllOf (λ (w : ℕ). P (Named p)) ws
  Holds (MayEntry p o) = MayBe (λ (k : Known N). KnownOk P k × AllOf (λ (w : ℕ). P (Named p)) k.told) o
  Holds (AreNames ns) = AllOf (NameOk P) ns
  Holds (MayName o) = WhereSome (NameOk P) o
  Holds (IsValue v) = ValueOk P v
  Holds (AreValues vs) = ValuesOk P vs
  Holds (AreLists vss) = AllOf (ValuesOk P) vss
  Holds (IsBound b) = BoundOk P b
  Holds (AreNouns bs) = AllOf (NounOk P) bs
  Holds (IsMessage m) = MessageOk P m
  Holds (AreMessages ms) = AllOf (MessageOk P) ms
  Holds (IsKnown k) = KnownOk P k
  Holds (AreKnown ks) = AllOf (KnownOk P) ks
  Holds (IsGiftEntry g) = GiftOk P g
  Holds (AreGifts gs) = AllOf (GiftOk P) gs
  Holds (IsPlace p) = PlaceOk P p
  Holds (IsThing x) = ThingOk P x
  Holds (IsView x) = ViewOk P x
  Holds (IsCell c) = CellOk P c
  Holds (IsChange c) = ChangeOk P c
  Holds (MayValue o) = MayBe (ValueOk P) o
  Holds (MayBound o) = MayBe (BoundOk P) o
  Holds (MayCell o) = MayBe (CellOk P) o
  Holds (MayThing o) = MayBe (ThingOk P) o
  Holds (MayKnown o) = MayBe (KnownOk P) o
  Holds (MayGift o) = MayBe (GiftOk P) o
  Holds (IsReply r) = ReplyOk P r
  Holds (IsAsked a) = AskedOk P a
  Holds (IsAuditionAsk a) = AuditionAskOk P a
  Holds (IsResolverAsk a) = ResolverAskOk P a
  Holds (DoesPass y) = PassedOk P y
  Holds (DoAllPass ys) = PassedsOk P ys
  Holds (NoteDoes n) = NoteOk P n
  Holds (NoteGoes to n) = GoesOk P to n

-- what holds of names that are so holds where more are
module _ {N : Type 0} (P Q : Bit N → Type 0) (up : (b : Bit N) → P b → Q b) where
  pub value_up : (v : Value N) → ValueOk P v → ValueOk Q v
  value_up (Ref n) h = up (Named n) h
  value_up other h = tt

  pub values_up : (vs : List (Value N)) → ValuesOk P vs → ValuesOk Q vs
  values_up vs h = all_map value_up vs h

  pub name_up : (o : Option N) → WhereSome (NameOk P) o → WhereSome (NameOk Q) o
  name_up (Some n) h = up (Named n) h
  name_up None h = tt

  pub message_up : (m : Message N) → MessageOk P m → MessageOk Q m
  message_up m h = (up (Mail m.id) h.0, value_up m.target h.1, values_up m.args h.2, name_up m.answer h.3)

  pub standing_up : (x : Standing N) → StandingOk P x → StandingOk Q x
  standing_up Unsettled h = tt
  standing_up (WaitsOn q) h = up (Named q) h
  standing_up (Viewed q) h = up (Named q) h
  standing_up (Settled y) h = value_up y h

  pub known_up : (k : Known N) → KnownOk P k → KnownOk Q k
  known_up k h = (up (Entered k.name) h.0, standing_up k.standing h.1, all_map message_up k.held h.2, all_map (λ n. up (Entered n)) k.waiting h.3, all_map message_up k.reactions h.4, all_map (λ w. up (Named k.name)) k.told h.5)

  pub cell_up : (c : Cell N) → CellOk P c → CellOk Q c
  cell_up c h = (value_up c.guard h.0, value_up c.value h.1)

  freedom_up : (x : Freedom N) → FreedomOk P x → FreedomOk Q x
  freedom_up (IsFinal g) h = value_up g h
  freedom_up other h = tt

  pub view_up : (x : View N) → ViewOk P x → ViewOk Q x
  view_up x h = all_map (λ f. freedom_up f.freedom) x.free h

  pub bound_up : (b : Bound N) → BoundOk P b → BoundOk Q b
  bound_up (Fixed v g) h = (value_up v h.0, value_up g h.1)
  bound_up (Slot k) h = tt

  pub nouns_up : (bs : List (Binding N)) → AllOf (NounOk P) bs → AllOf (NounOk Q) bs
  nouns_up bs h = all_map (λ b. bound_up b.bound) bs h

  pub thing_up : (x : Thing N) → ThingOk P x → ThingOk Q x
  thing_up (Made node caught stamps) h = (nouns_up caught h.0, values_up stamps h.1)
  thing_up (Ejector live) h = tt
  thing_up (Audition live view) h = view_up view h
  thing_up (Resolver p) h = up (Named p) h

  mutual
    pub passed_up : (y : Passed N) → PassedOk P y → PassedOk Q y
    passed_up (Plain y) h = value_up y h
    passed_up (AGift w i) h = (up (At w) h.0, up (Drew i) h.1)
    passed_up (Many ys) h = passeds_up ys h

    pub passeds_up : (ys : Passeds N) → PassedsOk P ys → PassedsOk Q ys
    passeds_up NoMore h = tt
    passeds_up (More y ys) h = (passed_up y h.0, passeds_up ys h.1)

  pub note_up : (n : Note N) → NoteOk P n → NoteOk Q n
  note_up (Deliver d n verb ys) h = (up (Mail d.message) h.0, up (Named n) h.1, passeds_up ys h.2)
  note_up (Open i n) h = (up (Drew i) h.0, up (Named n) h.1)
  note_up (Ask p i n) h = (up (Gave i) h.0, up (Named n) h.1)
  note_up (SettledTo n y) h = (up (Named n) h.0, passed_up y h.1)
  note_up (Elsewhere n c) h = (up (Named n) h.0, up (At c) h.1)
  note_up (Shorten n c i) h = (up (Named n) h.0, up (Drew i) h.1)

  pub goes_up : (to : ℕ) (n : Note N) → GoesOk P to n → GoesOk Q to n
  goes_up to (Deliver m n verb ys) h = up (Off to) h
  goes_up to other h = tt

  pub put_up : (p : Put N) → PutOk P p → PutOk Q p
  put_up p h = (note_up p.note h.0, goes_up p.to p.note h.1)

  pub gift_up : (g : GiftEntry N) → GiftOk P g → GiftOk Q g
  gift_up g h = (up (Owns g.name g.number) h.0, up (Drew g.number) h.1)

  place_up : (p : Place N) → PlaceOk P p → PlaceOk Q p
  place_up (Mine n) h = up (Named n) h
  place_up (Away w n o) h = (up (Named n) h.0, up (Off w) h.1)
  place_up other h = tt

  change_up : (c : Change N) → ChangeOk P c → ChangeOk Q c
  change_up (Hold m) h = message_up m h
  change_up (Wait q) h = up (Entered q) h
  change_up (WaitOn q) h = up (Named q) h
  change_up (See q) h = up (Named q) h
  change_up (React m) h = message_up m h
  change_up (ToTell w) h = tt
  change_up (Settle y) h = value_up y h

  pub on_up : (c : Change N) (n : N) → OnOk P c n → OnOk Q c n
  on_up (ToTell w) n h = up (Named n) h
  on_up other n h = tt

  reply_up : (r : Reply N) → ReplyOk P r → ReplyOk Q r
  reply_up (Says v) h = value_up v h
  reply_up (Listed vs) h = values_up vs h
  reply_up (Iterates o vs) h = (value_up o h.0, values_up vs h.1)
  reply_up other h = tt

  asked_up : (a : Asked N) → AskedOk P a → AskedOk Q a
  asked_up (MakesList vs) h = values_up vs h
  asked_up (Loops o) h = value_up o h
  asked_up (SendsTo only x v l) h = (value_up x h.0, value_up v h.1, value_up l h.2)
  asked_up (CallsTo x v l) h = (value_up x h.0, value_up v h.1, value_up l h.2)
  asked_up (Breaks x) h = value_up x h
  asked_up (Tells t x) h = value_up x h
  asked_up (Whens x o) h = (value_up x h.0, value_up o h.1)
  asked_up (Coerces k x j) h = (value_up x h.0, value_up j h.1)
  asked_up (AddsNull x) h = value_up x h
  asked_up other h = tt

  audition_up : (a : AuditionAsk N) → AuditionAskOk P a → AuditionAskOk Q a
  audition_up (GetsGuard x) h = value_up x h
  audition_up (Asks x) h = value_up x h
  audition_up other h = tt

  resolver_up : (a : ResolverAsk N) → ResolverAskOk P a → ResolverAskOk Q a
  resolver_up (Resolves x) h = value_up x h
  resolver_up (Smashes x) h = value_up x h
  resolver_up NoResolverAsk h = tt

  pub holds_up : (F : Fact N) → Holds P F → Holds Q F
  holds_up Nothing h = tt
  holds_up (Also A B) h = (holds_up A h.0, holds_up B h.1)
  holds_up (IsName n) h = up (Named n) h
  holds_up (IsMail n) h = up (Mail n) h
  holds_up (IsDraw i) h = up (Drew i) h
  holds_up (IsVat w) h = up (At w) h
  holds_up (IsOff w) h = up (Off w) h
  holds_up (IsEntry n) h = up (Entered n) h
  holds_up (IsOwned n i) h = up (Owns n i) h
  holds_up (IsGiven i) h = up (Gave i) h
  holds_up (AreEntries ns) h = all_map (λ n. up (Entered n)) ns h
  holds_up (AreTold p ws) h = all_map (λ w. up (Named p)) ws h
  holds_up (MayEntry p o) h = may_map (λ k i. (known_up k i.0, all_map (λ w. up (Named p)) k.told i.1)) o h
  holds_up (MayName o) h = name_up o h
  holds_up (AreNames ns) h = all_map (λ n. up (Named n)) ns h
  holds_up (IsValue v) h = value_up v h
  holds_up (AreValues vs) h = values_up vs h
  holds_up (AreLists vss) h = all_map values_up vss h
  holds_up (IsBound b) h = bound_up b h
  holds_up (AreNouns bs) h = nouns_up bs h
  holds_up (IsMessage m) h = message_up m h
  holds_up (AreMessages xs) h = all_map message_up xs h
  holds_up (IsKnown k) h = known_up k h
  holds_up (AreKnown ks) h = all_map known_up ks h
  holds_up (IsGiftEntry g) h = gift_up g h
  holds_up (AreGifts gs) h = all_map gift_up gs h
  holds_up (IsPlace p) h = place_up p h
  holds_up (IsThing x) h = thing_up x h
  holds_up (IsView x) h = view_up x h
  holds_up (IsCell c) h = cell_up c h
  holds_up (IsChange c) h = change_up c h
  holds_up (MayValue o) h = may_map value_up o h
  holds_up (MayBound o) h = may_map bound_up o h
  holds_up (MayCell o) h = may_map cell_up o h
  holds_up (MayThing o) h = may_map thing_up o h
  holds_up (MayKnown o) h = may_map known_up o h
  holds_up (MayGift o) h = may_map gift_up o h
  holds_up (IsReply r) h = reply_up r h
  holds_up (IsAsked a) h = asked_up a h
  holds_up (IsAuditionAsk a) h = audition_up a h
  holds_up (IsResolverAsk a) h = resolver_up a h
  holds_up (DoesPass y) h = passed_up y h
  holds_up (DoAllPass ys) h = passeds_up ys h
  holds_up (NoteDoes n) h = note_up n h
  holds_up (NoteGoes to n) h = goes_up to n h
