-- Where a message is, when it was sent, and what became of it, each as a count.
use Rattle.std.specs.Prelude.{ℕ, ◌+◌, Bool, true, false, List, [], ◌∷◌}
use Rattle.def_machine.specs.Values.{Name, same_name}
use Rattle.def_machine.specs.State.{Message, Known, Note, Deliver, Open, Ask, SettledTo, Elsewhere, Shorten, Put, Happened, Took, Sends, Reacts, Lost, Posted, Vat}
use Rattle.def_run.specs.World.{Link, Event, Here, LostCut, LeftQueue, LeftHeld, LeftWait, LeftLink, World}
use Rattle.def_machine.specs.Values.{opened_values}

-- one where it is so, else zero
unfoldable pub once : Bool → ℕ
once true = 1
once false = 0

-- one where it is that message, else zero
unfoldable pub one : Name → Name → ℕ
one m x = once (same_name m x)

-- f of each, in sum
unfoldable pub total : {A : Type 0} → (A → ℕ) → List A → ℕ
total f [] = 0
total f (x ∷ xs) = f x + total f xs

-- ---- places: in a queue, among what a name holds, among what reacts on a name, in a deliver note on a link

unfoldable pub among : Name → List (Message Name) → ℕ
among x [] = 0
among x (m ∷ ms) = one m.id x + among x ms

unfoldable pub at_names : Name → List (Known Name) → ℕ
at_names x [] = 0
at_names x (k ∷ ks) = among x k.held + among x k.reactions + at_names x ks

unfoldable pub at_vat : Name → Vat Name → ℕ
at_vat x s = among x s.queue + at_names x s.known

unfoldable pub in_note : {N : Type 0} → (N → ℕ) → Note N → ℕ
in_note f (Deliver d n verb ys) = f d.message
in_note f (Open i n) = 0
in_note f (Ask p i n) = 0
in_note f (SettledTo n y) = 0
in_note f (Elsewhere n c) = 0
in_note f (Shorten n c i) = 0

-- in a note: that of its message
unfoldable pub of_note : Name → Note Name → ℕ
of_note x n = in_note (λ m. one m x) n

unfoldable pub on_link : Name → Link → ℕ
on_link x l = total (of_note x) l.notes

-- the places of a message in a world
unfoldable pub places : Name → World → ℕ
places x w = total (at_vat x) w.vats + total (on_link x) w.links

-- ---- lines of a history

-- a line that sends it: a send, or a reaction
unfoldable pub sent_here : Name → Happened Name → ℕ
sent_here x (Sends act m) = one m.id x
sent_here x (Reacts act y o m) = one m.id x
sent_here x _ = 0

unfoldable pub sent_by : Name → Event → ℕ
sent_by x (Here v e) = sent_here x e
sent_by x _ = 0

-- how often a message was sent
unfoldable pub sent : Name → List Event → ℕ
sent x es = total (sent_by x) es

unfoldable pub took_here : Name → Happened Name → ℕ
took_here x (Took act m) = one m.id x
took_here x _ = 0

unfoldable pub took_by : Name → Event → ℕ
took_by x (Here v e) = took_here x e
took_by x _ = 0

-- how often it was taken
unfoldable pub takes : Name → List Event → ℕ
takes x es = total (took_by x) es

unfoldable pub lost_here : Name → Happened Name → ℕ
lost_here x (Lost m) = one m x
lost_here x _ = 0

unfoldable pub lost_by : Name → Event → ℕ
lost_by x (Here v e) = lost_here x e
lost_by x (LostCut m) = one m x
lost_by x _ = 0

-- how often it was lost: on a broken reference, or on a link that is cut
unfoldable pub losses : Name → List Event → ℕ
losses x es = total (lost_by x) es

unfoldable pub left_by : Name → Event → ℕ
left_by x (LeftQueue v m) = one m x
left_by x (LeftHeld v n m) = one m x
left_by x (LeftWait v n m) = one m x
left_by x (LeftLink v w n) = of_note x n
left_by x _ = 0

-- how often it stands in the closing list
unfoldable pub leavings : Name → List Event → ℕ
leavings x es = total (left_by x) es

-- how often a message met its fate
unfoldable pub fates : Name → List Event → ℕ
fates x es = takes x es + losses x es + leavings x es

-- ---- within a step of a vat

unfoldable pub where_cut : Bool → ℕ → ℕ → ℕ
where_cut true a b = a
where_cut false a b = b

-- What became of it, where the links from this vat that are cut are told by cut: a deliver note that is put on one is lost.
unfoldable pub gone_here : (ℕ → Bool) → Name → Happened Name → ℕ
gone_here cut x (Took act m) = one m.id x
gone_here cut x (Lost m) = one m x
gone_here cut x (Posted w m) = where_cut (cut w) (one m x) 0
gone_here cut x _ = 0

unfoldable pub gone : (ℕ → Bool) → Name → List (Happened Name) → ℕ
gone cut x [] = 0
gone cut x (e ∷ es) = gone_here cut x e + gone cut x es

unfoldable pub sent_in : Name → List (Happened Name) → ℕ
sent_in x [] = 0
sent_in x (e ∷ es) = sent_here x e + sent_in x es

-- in the notes put on links that are not cut
unfoldable pub put_out : (ℕ → Bool) → Name → List (Put Name) → ℕ
put_out cut x [] = 0
put_out cut x (p ∷ ps) = where_cut (cut p.to) 0 (of_note x p.note) + put_out cut x ps

-- its places at a vat and in the notes that the vat put in this step, and what became of it in this step
unfoldable pub account : (ℕ → Bool) → Name → Vat Name → ℕ
account cut x s = at_vat x s + put_out cut x s.outbox + gone cut x s.happened

-- opens each definition of this file
unfoldable pub opened_fate : Unit {0}
unfolding once one total among at_names at_vat in_note of_note on_link places sent_here sent_by sent took_here took_by takes lost_here lost_by losses left_by leavings fates where_cut gone_here gone sent_in put_out account opened_values
opened_fate = tt
