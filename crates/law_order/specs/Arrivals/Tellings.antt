-- A name of another vat leads elsewhere, as a note or a notice tells the vat of it.
use Rattle.std.specs.Prelude.{◌≡◌, ℕ, suc, Bool, true, false, List, [], ◌∷◌, Option, Some, None, length, slice_get, ◌==◌, ◌&&◌, ◌⊎◌}
use Rattle.def_machine.specs.Values.{Value, Null, Flag, Number, Letter, Text, Prim, Broken, Items, Ref, Name, Naming, same_name, host_of}
use Rattle.def_machine.specs.State.{Standing, Unsettled, WaitsOn, Viewed, Settled, Known, Note, Deliver, Open, Ask, SettledTo, Elsewhere, Shorten, Vat, is_in}
use Rattle.def_machine.specs.Refs.{entry_of, follow_at}
use Rattle.def_run.specs.World.{Script, Link, World, names}
use Rattle.law_order.specs.Ordering.Ways.{Lane, Queue, Held, Way, Item, Place, Nowhere, Free, End, Mid, Ways, IsIn, IsOneWay, Follows}
use Rattle.law_order.specs.Ordering.Turns.{Within, Reroutes}
use Rattle.law_order.specs.Ordering.Messages.{StandsAt, StaysBehind}
use Rattle.law_order.specs.Ordering.Places.{amid}
use Rattle.law_order.specs.Ordering.Worlds.{IsObject, FollowsEnd}
use Rattle.law_order.specs.Ordering.Settle.{aimed_at}
use Rattle.law_order.specs.Ordering.Steps.{WaysAmid, LeadsAmid}
use Rattle.law_order.specs.Ordering.Arrivals.{IsGoodPlace}

-- ---- what stands by names of those that take it

-- by which names messages come to stand in a lane: on a link the receiver's own
unfoldable pub owned : Lane → Name → Bool
owned (Queue v) n = true
owned (Held v p) n = true
owned (Way a b) n = host_of n == b

-- where it brings a message or lets a gift go, it names what that vat hosts
abbrev pub IsNoteFor : ℕ → Note Name → Type 0
IsNoteFor b (Deliver m n verb ys) = host_of n ≡ b
IsNoteFor b (Open i n) = host_of n ≡ b
IsNoteFor b (Ask p i n) = Unit {0}
IsNoteFor b (SettledTo n y) = Unit {0}
IsNoteFor b (Elsewhere n c) = Unit {0}
IsNoteFor b (Shorten n c i) = host_of n ≡ b

abbrev pub AreNotesFor : ℕ → List (Note Name) → Type 0
AreNotesFor b [] = Unit {0}
AreNotesFor b (n ∷ ns) = IsNoteFor b n × AreNotesFor b ns

-- the notes on each link between honest vats are such for its receiver
abbrev pub LinksBring : (ℕ → Bool) → List Link → Type 0
LinksBring honest [] = Unit {0}
LinksBring honest (l ∷ ls) = ((honest l.from && honest l.to) ≡ true → AreNotesFor l.to l.notes) × LinksBring honest ls

-- each name that the vat knows has the host there that the name tells
abbrev pub HostsAreTold : Naming Name Name → Vat Name → Type 0
HostsAreTold K s = (n : Name) (k : Known Name) → entry_of K s.known n ≡ Some k → k.host ≡ host_of n

-- data, an object, or what vat v hosts
abbrev pub IsOwnEnd : ℕ → Value Name → Type 0
IsOwnEnd v (Ref n) = IsObject n ⊎ (host_of n ≡ v)
IsOwnEnd v Null = Unit {0}
IsOwnEnd v (Flag b) = Unit {0}
IsOwnEnd v (Number z) = Unit {0}
IsOwnEnd v (Letter c) = Unit {0}
IsOwnEnd v (Text p) = Unit {0}
IsOwnEnd v (Prim k) = Unit {0}
IsOwnEnd v (Broken p) = Unit {0}
IsOwnEnd v (Items k) = Unit {0}

-- What a vat hosts settles to data and to objects, and has no view: so it is followed to such, or to what the vat hosts.
abbrev pub OwnNamesEnd : Naming Name Name → ℕ → Vat Name → Type 0
OwnNamesEnd K v s = (n : Name) (k : Known Name) → entry_of K s.known n ≡ Some k → host_of n ≡ v → IsOwnEnd v (follow_at K (suc (length s.known)) s.known (Ref n))

-- All this holds in the middle of a step of vat v, and no vat knows an object among its names.
pub record IsTidy (script : Script) (honest : ℕ → Bool) (w : World) (v : ℕ) (s : Vat Name) : Type 0 where
  pub hosts : (u : ℕ) (r : Vat Name) → slice_get (amid v s w).vats u ≡ Some r → HostsAreTold (names script u) r
  pub objects : (u : ℕ) (r : Vat Name) → slice_get (amid v s w).vats u ≡ Some r → (n : Name) → IsObject n → entry_of (names script u) r.known n ≡ None
  pub links : LinksBring honest (amid v s w).links
  pub own : OwnNamesEnd (names script v) v s

-- ---- ways that turn at such names

-- From w to u links lead as they led by such names, and what is held may go on to elsewhere. In both all stands by such names, from which lanes lead on to such places.
pub record IsRetold (Good : Lane → Name → Bool) (w u : Ways) : Type 0 where
  pub stands : (l : Lane) → Within (w.stands l) (u.stands l)
  pub links : (a b : ℕ) (n : Name) → Good (Way a b) n ≡ true → u.onward (Way a b) n ≡ w.onward (Way a b) n
  pub lanes : (l : Lane) (n : Name) → IsOneWay l → Reroutes w u (w.onward l n) (u.onward l n)
  pub one_way : (l : Lane) (n : Name) → IsOneWay l → Good l n ≡ true
  pub places : (l : Lane) (n : Name) → Good l n ≡ true → IsGoodPlace Good (w.onward l n)
  pub places_then : (l : Lane) (n : Name) → Good l n ≡ true → IsGoodPlace Good (u.onward l n)
  pub items : (l : Lane) (i : Item) → IsIn i (w.stands l) → Good l i.aim ≡ true
  pub items_then : (l : Lane) (i : Item) → IsIn i (u.stands l) → Good l i.aim ≡ true

-- What is ahead stays ahead, and what is doomed stays doomed, of each such place.
abbrev pub RetellingKeeps : Type 0
RetellingKeeps = (Good : Lane → Name → Bool) (w u : Ways) → IsRetold Good w u → (c d : Place) → IsGoodPlace Good c → IsGoodPlace Good d → Reroutes w u c d → StaysBehind w u c d

-- ---- a name is told of

-- each place, where what was to go out from vat v on name n goes to e at once
unfoldable pub told_by : ℕ → Name → Place → Place → Place
told_by v n e (End (Way a b) m) = elim ((a == v) && same_name m n) [ true ↦ e | false ↦ End (Way a b) m ]
told_by v n e (End (Queue u) m) = End (Queue u) m
told_by v n e (End (Held u q) m) = End (Held u q) m
told_by v n e (Mid l b m) = Mid l b m
told_by v n e Nowhere = Nowhere
told_by v n e Free = Free

-- it settled to y, or y is its view
abbrev pub LeadsOnTo : Value Name → Standing Name → Type 0
LeadsOnTo y (Settled z) = z ≡ y
LeadsOnTo y (Viewed q) = Ref q ≡ y
LeadsOnTo y (WaitsOn q) = ⊥
LeadsOnTo y Unsettled = ⊥

-- what is known of a name is as it was, as far as it tells where messages go
abbrev pub StandsSo : Option (Known Name) → Option (Known Name) → Type 0
StandsSo None None = Unit {0}
StandsSo (Some j) (Some k) = (k.standing ≡ j.standing) × (k.host ≡ j.host) × (k.held ≡ j.held)
StandsSo None (Some k) = ⊥
StandsSo (Some j) None = ⊥

-- From s to t the vat is told that n, which waited, leads on to y. All else that tells where messages go is as it was.
pub record IsTold (K : Naming Name Name) (s t : Vat Name) (n : Name) (y : Value Name) : Type 0 where
  pub number : t.number ≡ s.number
  pub gifts : t.gifts ≡ s.gifts
  pub noticed : t.noticed ≡ s.noticed
  pub queue : t.queue ≡ s.queue
  pub outbox : t.outbox ≡ s.outbox
  pub names_known : length t.known ≡ length s.known
  pub before : Known Name
  pub found : entry_of K s.known n ≡ Some before
  pub waits : before.standing ≡ Unsettled
  pub after : Known Name
  pub found_then : entry_of K t.known n ≡ Some after
  pub leads : LeadsOnTo y after.standing
  pub host : after.host ≡ before.host
  pub held : after.held ≡ before.held
  pub others : (m : Name) → (m ≡ n → ⊥) → StandsSo (entry_of K s.known m) (entry_of K t.known m)

-- Such a name is of vat h, which is another, and it is no object. The vat did not notice h, or y leads nowhere. What is known at the end is followed to an end, and y leads on to nothing.
pub record IsToldOf (script : Script) (v h : ℕ) (s t : Vat Name) (n : Name) (y : Value Name) : Type 0 where
  pub only : IsTold (names script v) s t n y
  pub own : s.number ≡ v
  pub host : host_of n ≡ h
  pub other : h ≡ v → ⊥
  pub reached : (is_in h s.noticed ≡ false) ⊎ (aimed_at script v t y ≡ Nowhere)
  pub plain : IsObject n → ⊥
  pub follows : FollowsEnd (names script v) t
  pub ended : (d : ℕ) → follow_at (names script v) d t.known y ≡ y

-- From s to t, in the middle of a step of vat v, what is doomed stays doomed and what is ahead stays ahead, of each reference from where it led to where it leads, and of each place in which what stands there is the receiver's own. No message leaves its place.
pub record KeepsTold (script : Script) (honest : ℕ → Bool) (w : World) (v : ℕ) (s t : Vat Name) : Type 0 where
  pub references : (u : ℕ) (x : Value Name) → StaysBehind (WaysAmid script honest w v s) (WaysAmid script honest w v t) (LeadsAmid script honest w v s u x) (LeadsAmid script honest w v t u x)
  pub places : (l : Lane) (b : List Item) (m : Name) → IsGoodPlace owned (Mid l b m) → StaysBehind (WaysAmid script honest w v s) (WaysAmid script honest w v t) (Mid l b m) (Mid l b m)
  pub stands : (m : Name) (l : Lane) (b : List Item) (o : Name) → StandsAt (WaysAmid script honest w v s) m l b o → StandsAt (WaysAmid script honest w v t) m l b o

-- As a vat is told of a name of another vat, each reference to it leads to where y leads, and every other where it led.
abbrev pub ToldNamesLead : Type 0
ToldNamesLead = (script : Script) (honest : ℕ → Bool) (w : World) (v h : ℕ) (r s t : Vat Name) (n : Name) (y : Value Name) → slice_get w.vats v ≡ Some r → IsTidy script honest w v s → IsToldOf script v h s t n y
    → (u : ℕ) (x : Value Name) → LeadsAmid script honest w v t u x ≡ told_by v n (aimed_at script v t y) (LeadsAmid script honest w v s u x)

-- So order is kept where what went to vat h on its name comes to where y leads: no object takes what comes there; or it comes to h by another name, from which h leads on alike; or it comes behind all that stands on the link to h.
abbrev pub ToldNamesKeep : Type 0
ToldNamesKeep = (script : Script) (honest : ℕ → Bool) (w : World) (v h : ℕ) (r s t : Vat Name) (n : Name) (y : Value Name) → slice_get w.vats v ≡ Some r → IsTidy script honest w v s → IsToldOf script v h s t n y
    → Reroutes (WaysAmid script honest w v s) (WaysAmid script honest w v t) (End (Way v h) n) (aimed_at script v t y)
    → KeepsTold script honest w v s t

-- ---- names that notes bring

-- From s to t what is doomed stays doomed and what is ahead stays ahead also of each name that a note brings, whosever it is, where what stands in front of it is the receiver's own.
abbrev pub KeepsPassings : (script : Script) (honest : ℕ → Bool) (w : World) (v : ℕ) (s t : Vat Name) → Type 0
KeepsPassings script honest w v s t = (l : Lane) (b : List Item) (m : Name) → ((i : Item) → IsIn i b → owned l i.aim ≡ true) → StaysBehind (WaysAmid script honest w v s) (WaysAmid script honest w v t) (Mid l b m) (Mid l b m)

-- So it is where what went to vat h on its name comes to a place that follows each place of a name of vat v which it followed.
abbrev pub ToldPassingsKeep : Type 0
ToldPassingsKeep = (script : Script) (honest : ℕ → Bool) (w : World) (v h : ℕ) (r s t : Vat Name) (n : Name) (y : Value Name) → slice_get w.vats v ≡ Some r → IsTidy script honest w v s → IsToldOf script v h s t n y
    → Reroutes (WaysAmid script honest w v s) (WaysAmid script honest w v t) (End (Way v h) n) (aimed_at script v t y)
    → ((m : Name) → host_of m ≡ v → Follows (WaysAmid script honest w v s) (LeadsAmid script honest w v s v (Ref m)) (End (Way v h) n) → Follows (WaysAmid script honest w v t) (LeadsAmid script honest w v s v (Ref m)) (aimed_at script v t y))
    → KeepsPassings script honest w v s t
