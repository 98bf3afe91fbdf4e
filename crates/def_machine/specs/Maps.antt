-- Everything in a vat with its names changed by a function.
use Rattle.std.specs.Prelude.{map, option_map}
use Rattle.def_machine.specs.Values.{Value, Null, Flag, Number, Letter, Text, Prim, Broken, Items, Ref, Coming, IsRoot, IsOwn, IsAnswer, IsGift, IsLearnt, Mailing, IsSent, IsCarried}
use Rattle.def_machine.specs.State.{Bound, Fixed, Slot, Binding, Scope, Cell, Freedom, IsSafe, IsItself, IsFinal, IsVar, FreeName, View, Thing, Made, Ejector, Audition, Resolver, Message, Standing, Unsettled, WaitsOn, Viewed, Settled, Known, Change, Hold, Wait, WaitOn, See, React, ToTell, Settle, Passed, Passeds, Plain, AGift, Many, NoMore, More, Note, Delivery, Deliver, Open, Ask, SettledTo, Elsewhere, Shorten, Put, GiftEntry, Happened, Took, Called, Back, Thrown, Left, Got, SlotMade, SlotRead, SlotWrote, ListMade, ListCame, EjectorMade, AuditionMade, PromiseMade, ObjectMade, Sends, Reacts, Finished, Threw, Settles, Waits, Views, Lost, Posted, Vat, Done, Gives, Throws, Ejects, Stops}
use Rattle.def_machine.specs.Refs as refs
use Rattle.def_machine.specs.Refs.{Place, Parcel}
use Rattle.def_machine.specs.Arrive.{Incoming, Old, New}

abbrev pub coming : {N M W V : Type 0} → (N → M) → (W → V) → Coming N W → Coming M V
coming f w (IsRoot v) = IsRoot v
coming f w (IsOwn i) = IsOwn i
coming f w (IsAnswer h m) = IsAnswer h (f m)
coming f w (IsGift h i) = IsGift h i
coming f w (IsLearnt x) = IsLearnt (w x)

abbrev pub mailing : {W V : Type 0} → (W → V) → Mailing W → Mailing V
mailing w (IsSent i) = IsSent i
mailing w (IsCarried x) = IsCarried (w x)

abbrev pub incoming : {N M W V : Type 0} → (N → M) → (W → V) → Incoming N W → Incoming M V
incoming f w (Old n) = Old (f n)
incoming f w (New x h) = New (w x) h

module _ {N M : Type 0} (f : N → M) where
  abbrev pub value : Value N → Value M
  value Null = Null
  value (Flag b) = Flag b
  value (Number z) = Number z
  value (Letter c) = Letter c
  value (Text t) = Text t
  value (Prim n) = Prim n
  value (Broken p) = Broken p
  value (Items k) = Items k
  value (Ref n) = Ref (f n)

  abbrev pub message : Message N → Message M
  message m = record { id = f m.id; target = value m.target; verb = m.verb; args = map value m.args; answer = option_map f m.answer }

  abbrev pub standing : Standing N → Standing M
  standing Unsettled = Unsettled
  standing (WaitsOn q) = WaitsOn (f q)
  standing (Viewed q) = Viewed (f q)
  standing (Settled y) = Settled (value y)

  abbrev pub known : Known N → Known M
  known k = record { name = f k.name; host = k.host; standing = standing k.standing; held = map message k.held; waiting = map f k.waiting; reactions = map message k.reactions; told = k.told }

  abbrev pub change : Change N → Change M
  change (Hold m) = Hold (message m)
  change (Wait q) = Wait (f q)
  change (WaitOn q) = WaitOn (f q)
  change (See q) = See (f q)
  change (React m) = React (message m)
  change (ToTell w) = ToTell w
  change (Settle y) = Settle (value y)

  abbrev mutual
    pub passed : Passed N → Passed M
    passed (Plain y) = Plain (value y)
    passed (AGift h i) = AGift h i
    passed (Many ys) = Many (passeds ys)

    pub passeds : Passeds N → Passeds M
    passeds NoMore = NoMore
    passeds (More y ys) = More (passed y) (passeds ys)

  abbrev pub delivery : Delivery N → Delivery M
  delivery d = record { message = f d.message; asks = d.asks; answer = option_map f d.answer }

  abbrev pub note : Note N → Note M
  note (Deliver d y verb args) = Deliver (delivery d) (f y) verb (passeds args)
  note (Open i y) = Open i (f y)
  note (Ask p i y) = Ask p i (f y)
  note (SettledTo p y) = SettledTo (f p) (passed y)
  note (Elsewhere p c) = Elsewhere (f p) c
  note (Shorten p c i) = Shorten (f p) c i

  abbrev pub put : Put N → Put M
  put p = record { to = p.to; note = note p.note }

  abbrev pub gift : GiftEntry N → GiftEntry M
  gift g = record { name = f g.name; provider = g.provider; number = g.number; opened = g.opened }

  abbrev pub bound : Bound N → Bound M
  bound (Fixed v g) = Fixed (value v) (value g)
  bound (Slot k) = Slot k

  abbrev pub binding : Binding N → Binding M
  binding b = record { noun = b.noun; bound = bound b.bound }

  abbrev pub scope : Scope N → Scope M
  scope here = record { act = here.act; nouns = map binding here.nouns }

  abbrev pub cell : Cell N → Cell M
  cell c = record { guard = value c.guard; value = value c.value }

  abbrev pub freedom : Freedom N → Freedom M
  freedom IsSafe = IsSafe
  freedom IsItself = IsItself
  freedom (IsFinal g) = IsFinal (value g)
  freedom IsVar = IsVar

  abbrev pub free_name : FreeName N → FreeName M
  free_name x = record { noun = x.noun; freedom = freedom x.freedom }

  abbrev pub view : View N → View M
  view x = record { node = x.node; free = map free_name x.free }

  abbrev pub thing : Thing N → Thing M
  thing (Made node caught stamps) = Made node (map binding caught) (map value stamps)
  thing (Ejector live) = Ejector live
  thing (Audition live x) = Audition live (view x)
  thing (Resolver p) = Resolver (f p)

  abbrev pub line : Happened N → Happened M
  line (Took a m) = Took a (message m)
  line (Called a x verb args b) = Called a (value x) verb (map value args) b
  line (Back a v) = Back a (value v)
  line (Thrown a p) = Thrown a p
  line (Left a) = Left a
  line (Got a v) = Got a (value v)
  line (SlotMade a k v) = SlotMade a k (value v)
  line (SlotRead a k v) = SlotRead a k (value v)
  line (SlotWrote a k v) = SlotWrote a k (value v)
  line (ListMade a k vs) = ListMade a k (map value vs)
  line (ListCame k vs) = ListCame k (map value vs)
  line (EjectorMade a j) = EjectorMade a (f j)
  line (AuditionMade a j) = AuditionMade a (f j)
  line (PromiseMade a p r) = PromiseMade a (f p) (f r)
  line (ObjectMade a n x bs vs) = ObjectMade a (f n) x (map bound bs) (map value vs)
  line (Sends a m) = Sends a (message m)
  line (Reacts a x o m) = Reacts a (value x) (value o) (message m)
  line (Finished a v) = Finished a (value v)
  line (Threw a p) = Threw a p
  line (Settles p y) = Settles (f p) (value y)
  line (Waits p q) = Waits (f p) (f q)
  line (Views p q) = Views (f p) (f q)
  line (Lost m) = Lost (f m)
  line (Posted w m) = Posted w (f m)

  abbrev pub vat : Vat N → Vat M
  vat s = record {
    number = s.number;
    fuel = s.fuel;
    drawn = s.drawn;
    things = map thing s.things;
    slots = map cell s.slots;
    lists = map (map value) s.lists;
    activations = s.activations;
    messages = s.messages;
    promises = s.promises;
    queue = map message s.queue;
    known = map known s.known;
    mails = map f s.mails;
    gifts = map gift s.gifts;
    noticed = s.noticed;
    outbox = map put s.outbox;
    happened = map line s.happened;
  }

  abbrev pub place : Place N → Place M
  place refs.Near = refs.Near
  place (refs.Mine n) = refs.Mine (f n)
  place (refs.Away h n o) = refs.Away h (f n) o
  place (refs.Gone p) = refs.Gone p

  abbrev pub parcel : Parcel N → Parcel M
  parcel p = record { weight = p.weight; value = passed p.value }

  abbrev pub pair : N × N → M × M
  pair p = (f p.0, f p.1)

  abbrev pub done : {A B : Type 0} → (A → B) → Done N A → Done M B
  done g (Gives a s) = Gives (g a) (vat s)
  done g (Throws p s) = Throws p (vat s)
  done g (Ejects n v s) = Ejects n (value v) (vat s)
  done g (Stops c s) = Stops c (vat s)
