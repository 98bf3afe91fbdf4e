-- A message is carried: what is ahead of what as the first note of a link arrives, which delivers it.
use Rattle.std.specs.Prelude.{◌≡◌, ℕ, suc, ◌≤◌, Bool, true, false, List, [], ◌∷◌, ◌++◌, Some, None, slice_get, ◌⊎◌}
use Rattle.def_machine.specs.Values.{Words, Value, Null, Flag, Number, Letter, Text, Prim, Broken, Items, Ref, Name, Promise, Answer, Gift, Sent, Msg}
use Rattle.def_machine.specs.State.{Message, Passed, Passeds, Plain, AGift, Many, NoMore, More, Delivery, Note, Deliver, Lost, Vat, is_in}
use Rattle.def_machine.specs.Refs.{entry_of}
use Rattle.def_run.specs.World.{names, Script, Carry, Here, LostCut, Link, World, Goes, link_at, step, read_passed, readied}
use Rattle.law_fate.specs.Name.Names.{IsAmong, names_in}
use Rattle.law_order.specs.Ordering.Ways.{Lane, Way, Item, Place, Mid, End, Ways, Doom, Ahead}
use Rattle.law_order.specs.Ordering.Changes.{Beheads}
use Rattle.law_order.specs.Ordering.Leavings.{FirstLeft}
use Rattle.law_order.specs.Ordering.Messages.{StandsAt, IsNowhere, LacksAt, StaysBehind}
use Rattle.law_order.specs.Ordering.Places.{item, leads, ways}
use Rattle.law_order.specs.Ordering.Steps.{Ready}

-- ---- what a note may name

-- not this one, no message, no promise that vat v is to make next, and no answer of its next messages
abbrev pub IsNotNext : ℕ → Vat Name → Name → Name → Type 0
IsNotNext v s bar n = (n ≡ bar → ⊥) × ((m : Msg) → n ≡ Sent m → ⊥) × ((h i : ℕ) → s.messages ≤ i → n ≡ Answer h (record { sender = v; number = i }) → ⊥) × ((i : ℕ) → s.promises ≤ i → n ≡ Promise v i → ⊥)

abbrev pub ValueNotNext : ℕ → Vat Name → Name → Value Name → Type 0
ValueNotNext v s bar (Ref n) = IsNotNext v s bar n
ValueNotNext v s bar Null = Unit {0}
ValueNotNext v s bar (Flag b) = Unit {0}
ValueNotNext v s bar (Number z) = Unit {0}
ValueNotNext v s bar (Letter c) = Unit {0}
ValueNotNext v s bar (Text t) = Unit {0}
ValueNotNext v s bar (Prim k) = Unit {0}
ValueNotNext v s bar (Broken p) = Unit {0}
ValueNotNext v s bar (Items k) = Unit {0}

-- Each name in what passes is such. Of each gift in it the vat did not notice the host; or that is another vat, and the gift is not among the names that are known as it is read.
abbrev mutual
  pub PassedNotNext : ℕ → Vat Name → Name → List Name → Passed Name → Type 0
  PassedNotNext v s bar ns (Plain y) = ValueNotNext v s bar y
  PassedNotNext v s bar ns (AGift h i) = (is_in h s.noticed ≡ false) ⊎ ((h ≡ v → ⊥) × (IsAmong (Gift h i) ns → ⊥))
  PassedNotNext v s bar ns (Many ys) = AllNotNext v s bar ns ys

  pub AllNotNext : ℕ → Vat Name → Name → List Name → Passeds Name → Type 0
  AllNotNext v s bar ns NoMore = Unit {0}
  AllNotNext v s bar ns (More y ys) = PassedNotNext v s bar ns y × AllNotNext v s bar (read_passed y ns).known ys

-- ---- what a carry comes to

module _ (w u : Ways) (k : Lane) (i : Item) where
  -- The item that stood first in lane k came to stand elsewhere, and all that was ahead of it is ahead of it there. Or it is lost, and stands nowhere.
  pub data IsCarried : Type 0 where
    comes_to : {l : Lane} {b : List Item} {n : Name} → StandsAt u i.mail l b n → StaysBehind w u (Mid k [] i.aim) (Mid l b n) → IsCarried
    is_lost : IsNowhere u i.mail → IsCarried

-- From w to y the item that stood first on the link from a to b left it, and each thing keeps its order.
pub record CarryKeeps (script : Script) (honest : ℕ → Bool) (w y : World) (a b : ℕ) (i : Item) : Type 0 where
  -- each reference of each vat
  pub references : (u : ℕ) (x : Value Name) → StaysBehind (ways script honest w) (ways script honest y) (leads script honest w.vats w.links u x) (leads script honest y.vats y.links u x)
  -- what stays where it stood, or stands one nearer to the front of that link
  pub places : (l : Lane) (c d : List Item) (n : Name) → Beheads (Way a b) i (Mid l c n) (Mid l d n) → LacksAt i.mail (Mid l d n) → StaysBehind (ways script honest w) (ways script honest y) (Mid l c n) (Mid l d n)
  -- so do all other messages
  pub left : FirstLeft (ways script honest w) (ways script honest y) (Way a b) i
  pub carried : IsCarried (ways script honest w) (ways script honest y) (Way a b) i

-- As `StaysBehind`, of all messages but m.
abbrev pub StaysBehindBut : Name → Ways → Ways → Place → Place → Type 0
StaysBehindBut m w u c d = (Doom w c → Doom u d) × ((x : Name) → (x ≡ m → ⊥) → Ahead w x c → Ahead u x d)

-- From w to y the item that stood first on the link from a to b left it, and each thing keeps its order behind all other messages.
pub record OthersKeep (script : Script) (honest : ℕ → Bool) (w y : World) (a b : ℕ) (i : Item) : Type 0 where
  pub references : (u : ℕ) (x : Value Name) → StaysBehindBut i.mail (ways script honest w) (ways script honest y) (leads script honest w.vats w.links u x) (leads script honest y.vats y.links u x)
  pub places : (l : Lane) (c d : List Item) (n : Name) → Beheads (Way a b) i (Mid l c n) (Mid l d n) → StaysBehindBut i.mail (ways script honest w) (ways script honest y) (Mid l c n) (Mid l d n)
  pub left : FirstLeft (ways script honest w) (ways script honest y) (Way a b) i

-- the name of that vat leads on to a vat that is not honest
abbrev pub GoesAway : Script → (ℕ → Bool) → World → ℕ → Name → Type 0
GoesAway script honest w b n = (h : ℕ) × (q : Name) × (leads script honest w.vats w.links b (Ref n) ≡ End (Way b h) q) × (honest h ≡ false)

-- Order is kept; or the item went on to a vat that is not honest, of whose links nothing is said, and order is kept behind all others.
abbrev pub OrderKept : (script : Script) (honest : ℕ → Bool) (w y : World) (a b : ℕ) (i : Item) → Type 0
OrderKept script honest w y a b i = CarryKeeps script honest w y a b i ⊎ (GoesAway script honest w b i.aim × OthersKeep script honest w y a b i)

-- it names nothing
abbrev pub IsNoName : Value Name → Type 0
IsNoName (Ref n) = ⊥
IsNoName Null = Unit {0}
IsNoName (Flag b) = Unit {0}
IsNoName (Number z) = Unit {0}
IsNoName (Letter c) = Unit {0}
IsNoName (Text t) = Unit {0}
IsNoName (Prim k) = Unit {0}
IsNoName (Broken p) = Unit {0}
IsNoName (Items k) = Unit {0}

-- The message m came last to the queue of vat b, on data; or a line tells that it was lost.
pub data IsLeftOut (y : World) (b : ℕ) (m : Name) : Type 0 where
  on_data : (t : Vat Name) (q : List (Message Name)) (x : Message Name) → slice_get y.vats b ≡ Some t → t.queue ≡ q ++ x ∷ [] → x.id ≡ m → IsNoName x.target → IsLeftOut y b m
  lost_here : IsAmong (Here b (Lost m)) y.history → IsLeftOut y b m
  lost_on_way : IsAmong (LostCut m) y.history → IsLeftOut y b m

-- it keeps order; where the message is left out, if that stands nowhere
abbrev pub CarryEnds : (script : Script) (honest : ℕ → Bool) (w y : World) (a b : ℕ) (i : Item) → Type 0
CarryEnds script honest w y a b i = OrderKept script honest w y a b i ⊎ (IsLeftOut y b i.mail × (IsNowhere (ways script honest y) i.mail → CarryKeeps script honest w y a b i))

-- The first note on the link from a to b, which is not cut and has honest ends, delivers that message.
pub record BearsMessage (script : Script) (honest : ℕ → Bool) (w : World) (a b : ℕ) (d : Delivery Name) (n : Name) (verb : Words) (ys : Passeds Name) : Type 0 where
  pub vat : Vat Name
  pub there : slice_get w.vats b ≡ Some vat
  pub link : Link
  pub found : link_at a b w.links ≡ Some link
  pub uncut : link.cut ≡ false
  pub rest : List (Note Name)
  pub first : link.notes ≡ Deliver d n verb ys ∷ rest
  pub sender : honest a ≡ true
  pub receiver : honest b ≡ true
  -- where its target leads on over a link, that is there
  pub onward : (h : ℕ) (q : Name) → leads script honest w.vats w.links b (Ref n) ≡ End (Way b h) q → (l : Link) × (link_at b h w.links ≡ Some l)

-- It can be carried: its receiver is ready.
pub record CanCarry (script : Script) (honest : ℕ → Bool) (w : World) (a b : ℕ) (d : Delivery Name) (n : Name) (verb : Words) (ys : Passeds Name) : Type 0 where
  pub borne : BearsMessage script honest w a b d n verb ys
  pub ready : Ready script honest w b (readied w borne.vat)
  -- a message by its name, the receiver's own by a number below its count
  pub message : Msg
  pub named : d.message ≡ Sent message
  pub before : message.sender ≡ b → suc message.number ≤ borne.vat.messages
  -- The note does not name the message's answer at the receiver, which that does not know.
  pub fresh : entry_of (names script b) borne.vat.known (Answer b message) ≡ None
  pub target : IsNotNext b borne.vat (Answer b message) n
  pub args : AllNotNext b borne.vat (Answer b message) (names_in borne.vat.known) ys

-- ---- laws

-- As a message is carried, order is kept.
abbrev pub MessageCarriesKeep : Type 0
MessageCarriesKeep = (script : Script) (honest : ℕ → Bool) (w y : World) (a b k : ℕ) (d : Delivery Name) (n : Name) (verb : Words) (ys : Passeds Name) → CanCarry script honest w a b d n verb ys → step script (Carry a b) k w ≡ Goes y
    → CarryEnds script honest w y a b (item d.message n)
