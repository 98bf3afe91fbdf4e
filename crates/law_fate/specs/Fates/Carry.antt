-- How often a message was carried, and how often it may be carried yet: the weight of its places.
use Rattle.std.specs.Prelude.{ℕ, ◌+◌, List, [], ◌∷◌}
use Rattle.def_machine.specs.Values.{Name, Root, Object, Promise, Answer, Gift, Sent}
use Rattle.def_machine.specs.State.{Known, Note, Deliver, Open, Ask, SettledTo, Elsewhere, Shorten, Put, Vat}
use Rattle.def_run.specs.World.{Link, Event, Carried, World}
use Rattle.law_fate.specs.Fates.Fate.{one, total, among, of_note, opened_fate}

-- a line that carries it, in a deliver note
unfoldable pub carried_by : Name → Event → ℕ
carried_by x (Carried k v w n bytes) = of_note x n
carried_by x _ = 0

-- how often a message was carried
unfoldable pub carries : Name → List Event → ℕ
carries x es = total (carried_by x) es

-- so much to an object, and twice as much to a promise, from where it may go on once
unfoldable pub fare : Name → ℕ → ℕ
fare (Object v i) c = c
fare (Root v) c = c + c
fare (Promise v i) c = c + c
fare (Answer v m) c = c + c
fare (Gift v i) c = c + c
fare (Sent m) c = c + c

-- what a message in a note weighs
unfoldable pub weight : Name → Note Name → ℕ
weight x (Deliver d n verb ys) = fare n (one d.message x)
weight x (Open i n) = 0
weight x (Ask p i n) = 0
weight x (SettledTo n y) = 0
weight x (Elsewhere n c) = 0
weight x (Shorten n c i) = 0

-- what it weighs among what names hold; in a queue and among what reacts it weighs nothing
unfoldable pub held_at : Name → List (Known Name) → ℕ
held_at x [] = 0
held_at x (k ∷ ks) = among x k.held + held_at x ks

unfoldable pub put_weight : Name → List (Put Name) → ℕ
put_weight x [] = 0
put_weight x (p ∷ ps) = weight x p.note + put_weight x ps

-- what it weighs at a vat, and in the notes that the vat put in this step
unfoldable pub load : Name → Vat Name → ℕ
load x s = held_at x s.known + put_weight x s.outbox

unfoldable pub vat_weight : Name → Vat Name → ℕ
vat_weight x s = held_at x s.known

unfoldable pub link_weight : Name → Link → ℕ
link_weight x l = total (weight x) l.notes

-- what it weighs in a world
unfoldable pub world_weight : Name → World → ℕ
world_weight x w = total (vat_weight x) w.vats + total (link_weight x) w.links

-- opens each definition of this file, and of those below
unfoldable pub opened_carry : Unit {0}
unfolding carried_by carries fare weight held_at put_weight load vat_weight link_weight world_weight opened_fate
opened_carry = tt
