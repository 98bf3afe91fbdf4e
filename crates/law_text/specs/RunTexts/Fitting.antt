-- What a vat has in whose lines nothing is out of bounds: vats are among so many, numbers below a limit, texts in UTF-8, integers of 128 bits, primitives that there are, names of objects are identifiers or `_`, and lists pass by their members and not too high.
use Rattle.def_kernel.specs.Trees.{IsInt}
pub use Rattle.law_machine.specs.Costs.Sizes.{spread}
unfoldable pub use Rattle.law_machine.specs.Costs.Sizes.{made as size}
use Rattle.std.specs.Prelude.{◌≡◌, ℕ, zero, suc, ◌<◌, ◌==◌, nat_lt, Bool, true, ◌&&◌, ◌||◌, List, Option, Some, None, length, codes, ◌^◌, ◌≤◌}
use Rattle.std.specs.Char.{IsScalar}
use Rattle.std.specs.Str.{IsUtf8, bytes_eq}
use Rattle.def_text.specs.Keywords.{is_identifier}
use Rattle.def_machine.specs.Values.{Words, Value, Null, Flag, Number, Letter, Text, Prim, Broken, Items, Ref, Msg, Name, Root, Object, Promise, Answer, Gift, Sent}
use Rattle.def_machine.specs.State.{Bound, Fixed, Slot, Binding, Cell, Freedom, IsSafe, IsItself, IsFinal, IsVar, View, Thing, Made, Ejector, Audition, Resolver, Message, Standing, Unsettled, WaitsOn, Viewed, Settled, Known, Passed, Passeds, Plain, AGift, Many, NoMore, More, Note, Deliver, Open, Ask, SettledTo, Elsewhere, Shorten, GiftEntry, Happened, Took, Called, Back, Thrown, Left, Got, SlotMade, SlotRead, SlotWrote, ListMade, ListCame, EjectorMade, AuditionMade, PromiseMade, ObjectMade, Sends, Reacts, Finished, Threw, Settles, Waits, Views, Lost, Posted, Vat, WhereSome}
use Rattle.law_text.specs.Text.Feeds.{AllOf}

-- how many vats there are, and what each number is below
pub record Limits : Type 0 where
  pub many : ℕ
  pub limit : ℕ
  pub most : limit ≤ 2 ^ 64

-- a text of which lines and verbs are made
abbrev pub TextFits : Words → Type 0
TextFits t = IsUtf8 t × (length t < 2 ^ 64)

-- an identifier, or `_`
abbrev pub IsObjectName : Words → Type 0
IsObjectName x = IsUtf8 x × ((is_identifier x || bytes_eq x (codes "_")) ≡ true)

-- the number of a primitive of the safe scope, or of `nullOk` with a guard, which is 32 more than that of the guard
abbrev pub is_primitive : ℕ → Bool
is_primitive n = nat_lt n 20 || ((nat_lt 39 n && nat_lt n 47) || (n == 48 || n == 49))

-- it is no list by its number
abbrev pub IsNoList : Value Name → Type 0
IsNoList (Items k) = ⊥
IsNoList _ = Unit {0}

module _ (L : Limits) where
  abbrev pub IsVat : ℕ → Type 0
  IsVat v = v < L.many

  abbrev pub IsLow : ℕ → Type 0
  IsLow n = n < L.limit

  abbrev pub MsgFits : Msg → Type 0
  MsgFits m = IsVat m.sender × IsLow m.number

  abbrev pub NameFits : Name → Type 0
  NameFits (Root v) = IsVat v
  NameFits (Object v i) = IsVat v × IsLow i
  NameFits (Promise v i) = IsVat v × IsLow i
  NameFits (Answer h m) = IsVat h × MsgFits m
  NameFits (Gift h i) = IsVat h
  NameFits (Sent m) = MsgFits m

  abbrev pub ValueFits : Value Name → Type 0
  ValueFits Null = Unit {0}
  ValueFits (Flag b) = Unit {0}
  ValueFits (Number z) = IsInt z
  ValueFits (Letter c) = IsScalar c
  ValueFits (Text t) = TextFits t
  ValueFits (Prim n) = is_primitive n ≡ true
  ValueFits (Broken p) = TextFits p
  ValueFits (Items k) = IsLow k
  ValueFits (Ref n) = NameFits n

  abbrev pub ValuesFit : List (Value Name) → Type 0
  ValuesFit xs = AllOf ValueFits xs

  abbrev pub BoundFits : Bound Name → Type 0
  BoundFits (Fixed v g) = ValueFits v × ValueFits g
  BoundFits (Slot k) = IsLow k

  abbrev pub NounFits : Binding Name → Type 0
  NounFits b = BoundFits b.bound

  abbrev pub NounsFit : List (Binding Name) → Type 0
  NounsFit bs = AllOf NounFits bs

  abbrev pub CellFits : Cell Name → Type 0
  CellFits c = ValueFits c.guard × ValueFits c.value

  abbrev pub FreedomFits : Freedom Name → Type 0
  FreedomFits IsSafe = Unit {0}
  FreedomFits IsItself = Unit {0}
  FreedomFits (IsFinal g) = ValueFits g
  FreedomFits IsVar = Unit {0}

  abbrev pub ViewFits : View Name → Type 0
  ViewFits view = AllOf (λ f. FreedomFits f.freedom) view.free

  abbrev pub ThingFits : Thing Name → Type 0
  ThingFits (Made node caught stamps) = NounsFit caught × ValuesFit stamps
  ThingFits (Ejector live) = Unit {0}
  ThingFits (Audition live view) = ViewFits view
  ThingFits (Resolver p) = NameFits p

  abbrev pub MessageFits : Message Name → Type 0
  MessageFits m = NameFits m.id × ValueFits m.target × TextFits m.verb × ValuesFit m.args × WhereSome NameFits m.answer

  abbrev pub StandingFits : Standing Name → Type 0
  StandingFits Unsettled = Unit {0}
  StandingFits (WaitsOn q) = NameFits q
  StandingFits (Viewed q) = NameFits q
  StandingFits (Settled y) = ValueFits y

  abbrev pub KnownFits : Known Name → Type 0
  KnownFits k = NameFits k.name × IsVat k.host × StandingFits k.standing × AllOf MessageFits k.held × AllOf NameFits k.waiting × AllOf MessageFits k.reactions × AllOf IsVat k.told

  abbrev mutual
    -- what passes, where no list in it is higher than that
    pub PassedFits : ℕ → Passed Name → Type 0
    PassedFits d (Plain y) = ValueFits y × IsNoList y
    PassedFits d (AGift h i) = IsVat h
    PassedFits d (Many ys) = PassedsFit d ys

    -- the members of a list that has at most this height
    pub PassedsFit : ℕ → Passeds Name → Type 0
    PassedsFit zero NoMore = ⊥
    PassedsFit zero (More y ys) = ⊥
    PassedsFit (suc d) NoMore = Unit {0}
    PassedsFit (suc d) (More y ys) = PassedFits d y × PassedsFit (suc d) ys

  abbrev pub NoteFits : Note Name → Type 0
  NoteFits (Deliver d n verb ys) = NameFits d.message × NameFits n × TextFits verb × PassedsFit 101 ys
  NoteFits (Open i n) = NameFits n
  NoteFits (Ask p i n) = NameFits n × IsVat p
  NoteFits (SettledTo n y) = NameFits n × PassedFits 100 y
  NoteFits (Elsewhere n c) = NameFits n × IsVat c
  NoteFits (Shorten n c i) = NameFits n × IsVat c

  abbrev pub GiftFits : GiftEntry Name → Type 0
  GiftFits g = NameFits g.name × IsVat g.provider

  abbrev pub MayBegin : Option ℕ → Type 0
  MayBegin None = Unit {0}
  MayBegin (Some a) = IsLow a

  abbrev pub LineFits : Happened Name → Type 0
  LineFits (Took a m) = IsLow a × MessageFits m
  LineFits (Called a x verb args b) = IsLow a × ValueFits x × TextFits verb × ValuesFit args × MayBegin b
  LineFits (Back a x) = IsLow a × ValueFits x
  LineFits (Thrown a p) = IsLow a × TextFits p
  LineFits (Left a) = IsLow a
  LineFits (Got a x) = IsLow a × ValueFits x
  LineFits (SlotMade a k x) = IsLow a × IsLow k × ValueFits x
  LineFits (SlotRead a k x) = IsLow a × IsLow k × ValueFits x
  LineFits (SlotWrote a k x) = IsLow a × IsLow k × ValueFits x
  LineFits (ListMade a k xs) = IsLow a × IsLow k × ValuesFit xs
  LineFits (ListCame k xs) = IsLow k × ValuesFit xs
  LineFits (EjectorMade a n) = IsLow a × NameFits n
  LineFits (AuditionMade a n) = IsLow a × NameFits n
  LineFits (PromiseMade a p r) = IsLow a × NameFits p × NameFits r
  LineFits (ObjectMade a n x caps stamps) = IsLow a × NameFits n × IsObjectName x × AllOf BoundFits caps × ValuesFit stamps
  LineFits (Sends a m) = IsLow a × MessageFits m
  LineFits (Reacts a x o m) = IsLow a × ValueFits x × ValueFits o × MessageFits m
  LineFits (Finished a x) = IsLow a × ValueFits x
  LineFits (Threw a p) = IsLow a × TextFits p
  LineFits (Settles n x) = NameFits n × ValueFits x
  LineFits (Waits p q) = NameFits p × NameFits q
  LineFits (Views p q) = NameFits p × NameFits q
  LineFits (Lost m) = NameFits m
  LineFits (Posted w m) = NameFits m

  -- all that a vat has
  pub record VatFits (s : Vat Name) : Type 0 where
    pub here : IsVat s.number
    pub things : AllOf ThingFits s.things
    pub slots : AllOf CellFits s.slots
    pub lists : AllOf ValuesFit s.lists
    pub queue : AllOf MessageFits s.queue
    pub known : AllOf KnownFits s.known
    pub gifts : AllOf GiftFits s.gifts
    pub outbox : AllOf (λ p. NoteFits p.note) s.outbox
    pub happened : AllOf LineFits s.happened
