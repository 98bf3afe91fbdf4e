-- What a turn does to the order of messages: sends, passings and new names make the ways grow; settlings stand out.
use Rattle.std.specs.Prelude.{◌≡◌, ℕ, ◌≤◌, Bool, true, List, [], ◌∷◌, Some, None, length, slice_get, ◌⊎◌}
use Rattle.def_machine.specs.Values.{Words, Value, Null, Flag, Number, Letter, Text, Prim, Broken, Items, Ref, Name, Promise, Answer, Sent, key, word_of}
use Rattle.def_machine.specs.State.{Binding, Message, Note, Deliver, Open, Ask, SettledTo, Elsewhere, Shorten, Vat, is_in}
use Rattle.def_machine.specs.Refs.{Away, Gone, entry_of, follow, place, pass, deliver, settle, resolve, send, send_only, react}
use Rattle.def_machine.specs.Eval.{opening, taking}
use Rattle.law_machine.specs.Machine.Steps.{After}
use Rattle.def_run.specs.World.{Script, Link, World, names, push_all}
use Rattle.def_kernel.specs.declared.node.Node.{Node}
use Rattle.law_order.specs.Ordering.Ways.{Lane, Queue, Held, Way, Item, Mid, Ways, Doom, Ahead}
use Rattle.law_order.specs.Ordering.Messages.{More, StandsAt, StaysBehind}
use Rattle.law_order.specs.Ordering.Changes.{Grows}
use Rattle.law_order.specs.Ordering.Places.{leads, ways, amid}
use Rattle.law_order.specs.Ordering.Ways as lanes
use Rattle.law_order.specs.Ordering.Worlds.{IfGives, IsObject, IsKnown, FollowsEnd}

-- ---- draws

-- where it lets a gift go, the gift's word is among those
abbrev pub LetsDrawn : List ℕ → Note Name → Type 0
LetsDrawn ds (Deliver m n verb ys) = Unit {0}
LetsDrawn ds (Open i n) = is_in (word_of i) ds ≡ true
LetsDrawn ds (Ask p i n) = Unit {0}
LetsDrawn ds (SettledTo n y) = Unit {0}
LetsDrawn ds (Elsewhere n c) = Unit {0}
LetsDrawn ds (Shorten n c i) = is_in (word_of i) ds ≡ true

abbrev pub NotesDrawn : List ℕ → List (Note Name) → Type 0
NotesDrawn ds [] = Unit {0}
NotesDrawn ds (n ∷ ns) = LetsDrawn ds n × NotesDrawn ds ns

abbrev pub AllDrawn : List ℕ → List Link → Type 0
AllDrawn ds [] = Unit {0}
AllDrawn ds (l ∷ ls) = NotesDrawn ds l.notes × NotesDrawn ds l.log × AllDrawn ds ls

-- the key of a vat's gift under the next word
abbrev pub next_key : Script → ℕ → Vat Name → ℕ
next_key script v s = key s.number ((names script v).word (length s.drawn))

-- ---- a vat in the middle of a step

module _ (script : Script) (honest : ℕ → Bool) (w : World) (v : ℕ) where
  -- the ways in the middle of the step
  abbrev pub WaysAmid : Vat Name → Ways
  WaysAmid s = ways script honest (amid v s w)

  -- where vat u would send on that value then
  abbrev pub LeadsAmid : Vat Name → ℕ → Value Name → lanes.Place
  LeadsAmid s u x = leads script honest (amid v s w).vats (amid v s w).links u x

  -- The vat has its own number, what it knows is followed to an end, and what it will make is new: words, the answers of its messages and its promises.
  pub record Ready (s : Vat Name) : Type 0 where
    pub number : s.number ≡ v
    pub ends : FollowsEnd (names script v) s
    pub draws : AllDrawn s.drawn (push_all v s.outbox w.links)
    pub answers : (h i : ℕ) → s.messages ≤ i → entry_of (names script v) s.known (Answer h (record { sender = v; number = i })) ≡ None
    pub promises : (i : ℕ) → s.promises ≤ i → entry_of (names script v) s.known (Promise v i) ≡ None

  -- The ways only grow, messages come to the ends of lanes alone, and every vat would send on each value where it would have sent before.
  pub record Grown (s t : Vat Name) : Type 0 where
    pub grows : Grows (WaysAmid s) (WaysAmid t)
    pub more : (l : Lane) → More (WaysAmid s) (WaysAmid t) l
    pub leading : (u : ℕ) (x : Value Name) → LeadsAmid t u x ≡ LeadsAmid s u x

  -- Whoever is ready stays so, and the ways only grow.
  abbrev pub StaysReady : Vat Name → Vat Name → Type 0
  StaysReady s t = Ready s → Ready t × Grown s t

  -- From s to t it went by such changes and by settlings, each whole, however it ended.
  pub data Course : Vat Name → Vat Name → Type 0 where
    over : {s : Vat Name} → Course s s
    grew : {s t u : Vat Name} → StaysReady s t → Course t u → Course s u
    settled : {s t u : Vat Name} (p : Name) (y : Value Name) → After (λ r q. q ≡ t) s (settle (names script v) p y s) → Course t u → Course s u
    resolved : {s t u : Vat Name} (p : Name) (x : Value Name) → After (λ r q. q ≡ t) s (resolve (names script v) p x s) → Course t u → Course s u

  -- not held by this vat: in a queue, on a link, or held by another
  abbrev pub IsApart : Lane → Type 0
  IsApart (Queue u) = Unit {0}
  IsApart (Held u p) = u ≡ v → ⊥
  IsApart (Way a b) = Unit {0}

  -- Message m stood with just b in front of it, on the name n, in what the vat held for p. From s to t it stands there still; or it came to a queue or a link, where all is ahead of it that was; or no object takes what was held there.
  pub data IsSentOn (s t : Vat Name) (m p : Name) (b : List Item) (n : Name) : Type 0 where
    still_held : StandsAt (WaysAmid t) m (Held v p) b n → IsSentOn s t m p b n
    sent_there : {l : Lane} {a : List Item} {o : Name} → IsApart l → StandsAt (WaysAmid t) m l a o → StaysBehind (WaysAmid s) (WaysAmid t) (Mid (Held v p) b n) (Mid l a o) → IsSentOn s t m p b n
    now_lost : Doom (WaysAmid t) (Mid (Held v p) b n) → IsSentOn s t m p b n

  -- From s to t, in the middle of a step, what is doomed stays doomed and what is ahead stays ahead, of each thing from the place that it had to the place that it has.
  pub record KeepsOrder (s t : Vat Name) : Type 0 where
    -- each reference, of each vat
    pub references : (u : ℕ) (x : Value Name) → StaysBehind (WaysAmid s) (WaysAmid t) (LeadsAmid s u x) (LeadsAmid t u x)
    -- what stays where it stood
    pub places : (l : Lane) (b : List Item) (n : Name) → StaysBehind (WaysAmid s) (WaysAmid t) (Mid l b n) (Mid l b n)
    -- So does each message in a queue, on a link, or held by another vat.
    pub apart : (m : Name) (l : Lane) (b : List Item) (n : Name) → IsApart l → StandsAt (WaysAmid s) m l b n → StandsAt (WaysAmid t) m l b n
    pub held : (m p : Name) (b : List Item) (n : Name) → StandsAt (WaysAmid s) m (Held v p) b n → IsSentOn s t m p b n

  -- order is kept, and whoever is ready stays so
  abbrev pub StaysInOrder : Vat Name → Vat Name → Type 0
  StaysInOrder s t = (Ready s → Ready t) × KeepsOrder s t

  -- where each settling of this course keeps the vat ready, and keeps order
  abbrev pub SettlingsKeep : {s t : Vat Name} → Course s t → Type 0
  SettlingsKeep over = Unit {0}
  SettlingsKeep (grew f c) = SettlingsKeep c
  SettlingsKeep (settled {s} {t} p y e c) = StaysInOrder s t × SettlingsKeep c
  SettlingsKeep (resolved {s} {t} p x e c) = StaysInOrder s t × SettlingsKeep c

  -- what a vat may have in hand: data, an object, or a name that it knows
  abbrev pub IsHeld : Vat Name → Value Name → Type 0
  IsHeld s (Ref n) = IsObject n ⊎ IsKnown (names script v) s n
  IsHeld s Null = Unit {0}
  IsHeld s (Flag b) = Unit {0}
  IsHeld s (Number z) = Unit {0}
  IsHeld s (Letter c) = Unit {0}
  IsHeld s (Text p) = Unit {0}
  IsHeld s (Prim k) = Unit {0}
  IsHeld s (Broken p) = Unit {0}
  IsHeld s (Items k) = Unit {0}

-- ---- laws

-- As a value passes to a vat the ways only grow: notes that let gifts go are put, and of those gifts nothing was said.
abbrev pub PassingGrows : Type 0
PassingGrows = (script : Script) (honest : ℕ → Bool) (w : World) (v h : ℕ) (x : Value Name) (s : Vat Name) → After (StaysReady script honest w v) s (pass (names script v) h x s)

-- So they do as a message is delivered with its arguments.
abbrev pub DeliveringGrows : Type 0
DeliveringGrows = (script : Script) (honest : ℕ → Bool) (w : World) (v h : ℕ) (n : Name) (m : Message Name) (s : Vat Name) → After (StaysReady script honest w v) s (deliver (names script v) m h n s)

-- As an object reacts on a value the ways only grow.
abbrev pub ReactingGrows : Type 0
ReactingGrows = (script : Script) (honest : ℕ → Bool) (w : World) (v act : ℕ) (x o near : Value Name) (s : Vat Name) → After (StaysReady script honest w v) s (react (names script v) act x o near s)

-- A send on what is not broken makes the ways only grow, with an answer or without.
abbrev pub SendingGrows : Type 0
SendingGrows = (script : Script) (honest : ℕ → Bool) (w : World) (v act : ℕ) (x : Value Name) (verb : Words) (args : List (Value Name)) (s : Vat Name)
    → ((p : Words) → place (names script v) s (follow (names script v) s x) ≡ Gone p → ⊥)
    → After (StaysReady script honest w v) s (send (names script v) act x verb args s) × After (StaysReady script honest w v) s (send_only (names script v) act x verb args s)

-- After a whole send on what a vat has in hand, with an answer or without, the new message is ahead of the place to which that led: it stands there, or what is sent there is lost.
-- It asks that the vat and the host of what the value is followed to are honest.
abbrev pub SendsAreAhead : Type 0
SendsAreAhead = (script : Script) (honest : ℕ → Bool) (w : World) (v act : ℕ) (x : Value Name) (verb : Words) (args : List (Value Name)) (r s : Vat Name)
    → slice_get w.vats v ≡ Some r → honest v ≡ true → ((h : ℕ) (n : Name) (o : Bool) → place (names script v) s (follow (names script v) s x) ≡ Away h n o → honest h ≡ true)
    → Ready script honest w v s → IsHeld script honest w v s x
    → let IsAhead : (Vat Name → Type 0) = (λ t. Ahead (WaysAmid script honest w v t) (Sent (record { sender = v; number = s.messages })) (LeadsAmid script honest w v s v x)) in
    IfGives IsAhead (send (names script v) act x verb args s) × IfGives IsAhead (send_only (names script v) act x verb args s)

-- By such changes each reference and each message keeps its order: each message stands where it stood.
abbrev pub GrownKeeps : Type 0
GrownKeeps = (script : Script) (honest : ℕ → Bool) (w : World) (v : ℕ) (s t : Vat Name) → Grown script honest w v s t → KeepsOrder script honest w v s t

-- So a course keeps order where each settling in it does.
abbrev pub CoursesKeep : Type 0
CoursesKeep = (script : Script) (honest : ℕ → Bool) (w : World) (v : ℕ) (s t : Vat Name) (c : Course script honest w v s t) → SettlingsKeep script honest w v c → Ready script honest w v s → Ready script honest w v t × KeepsOrder script honest w v s t

-- A send goes by such changes, with an answer or without; where the value is broken, the answer of the message, which is new, settles at the end.
abbrev pub SendingGoesSo : Type 0
SendingGoesSo = (script : Script) (honest : ℕ → Bool) (w : World) (v act : ℕ) (x : Value Name) (verb : Words) (args : List (Value Name)) (s : Vat Name) → After (Course script honest w v) s (send (names script v) act x verb args s) × After (Course script honest w v) s (send_only (names script v) act x verb args s)

-- Whatever trees say, a whole turn goes by such changes and by settlings.
abbrev pub TurnsGoSo : Type 0
TurnsGoSo = (script : Script) (honest : ℕ → Bool) (w : World) (v : ℕ) (tree : List Node) (depth : ℕ) (s : Vat Name)
    → ((m : Message Name) → After (Course script honest w v) s (taking (names script v) tree depth m s))
    × ((p : Name) (given : List (Binding Name)) → After (Course script honest w v) s (opening (names script v) tree depth p given s))
