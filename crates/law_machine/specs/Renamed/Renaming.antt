-- The step of a vat under its own numbers, read by its table of names, is its step in the one global state.
use Rattle.std.specs.Prelude.{◌≡◌, ℕ, Bool, List, map}
use Rattle.def_machine.specs.Values.{Name, Local, naming, numbering}
use Rattle.def_machine.specs.State.{Vat, Message, Note, Binding, Known, Done, Gives, Throws, Ejects, Stops, Act}
use Rattle.def_machine.specs.Arrive.{Incoming, arrive, notice}
use Rattle.def_machine.specs.Eval.{opening, taking}
use Rattle.def_kernel.specs.declared.node.Node.{Node}
use Rattle.def_machine.specs.Maps as maps
use Rattle.def_machine.specs.Maps.{incoming}
use Rattle.law_machine.specs.Renamed.Stands.{Table, Is, found, IsTable, StandsFor}

-- how a note from one vat to another names things
pub data Wire : Type 0 where
  -- the sender's export at a position, and whether it is an object
  Mine : Bool → ℕ → Wire
  -- the receiver's export at a position
  Yours : ℕ → Wire
  -- the answer of the sender's question of that number, and of the receiver's
  MyAnswer : ℕ → Wire
  YourAnswer : ℕ → Wire
  -- the message that the note carries
  Carried : Wire

-- the names that a vat knows, and the messages that it has had, are those of the table
abbrev pub HasTable : Table → Vat Name → Type 0
HasTable t u = (map (λ (k : Known Name). k.name) u.known ≡ t.names) × (u.mails ≡ t.mails)

abbrev pub EndsWith : {A : Type 0} → Table → Done Name A → Type 0
EndsWith t (Gives a u) = HasTable t u
EndsWith t (Throws p u) = HasTable t u
EndsWith t (Ejects n x u) = HasTable t u
EndsWith t (Stops c u) = HasTable t u

-- Where a state of vat v in numbers stands for one in names, and t is the table after the step in names, the outcomes stand for each other.
abbrev pub Stand : ℕ → Table → Act Local (Unit {0}) → Act Name (Unit {0}) → Type 0
Stand v t m n = (s : Vat Local) (r : Vat Name) → StandsFor v t s r → EndsWith t (n r) → maps.done (found v t) (λ u. u) (m s) ≡ maps.done Is (λ u. u) (n r)

-- the arrival of a note, of which every name is read the same
abbrev pub ArrivalsStand : Type 0
ArrivalsStand = (word : ℕ → ℕ) (v : ℕ) (t : Table) → IsTable v t → (w : Wire → Name) (from : ℕ) (n : Note (Incoming Local Wire)) (m : Note (Incoming Name Name))
    → maps.note (incoming (found v t) w) n ≡ maps.note (incoming Is (λ x. x)) m → Stand v t (arrive (numbering word) from n) (arrive (naming word v) from m)

-- the notice of a cut
abbrev pub NoticesStand : Type 0
NoticesStand = (word : ℕ → ℕ) (v : ℕ) (t : Table) → IsTable v t → (c : ℕ) → Stand v t (notice (numbering {W = Wire} word) c) (notice (naming word v) c)

-- a turn that takes a message, of which every name is read the same
abbrev pub TurnsStand : Type 0
TurnsStand = (word : ℕ → ℕ) (v : ℕ) (t : Table) → IsTable v t → (tree : List Node) (depth : ℕ) (m : Message Local) (n : Message Name)
    → maps.message (found v t) m ≡ maps.message Is n → Stand v t (taking (numbering {W = Wire} word) tree depth m) (taking (naming word v) tree depth n)

-- the opening turn, with the vat's root and what it is given read the same
abbrev pub OpeningsStand : Type 0
OpeningsStand = (word : ℕ → ℕ) (v : ℕ) (t : Table) → IsTable v t → (tree : List Node) (depth : ℕ) (p : Local) (q : Name) (bs : List (Binding Local)) (cs : List (Binding Name))
    → found v t p ≡ Is q → map (maps.binding (found v t)) bs ≡ map (maps.binding Is) cs → Stand v t (opening (numbering {W = Wire} word) tree depth p bs) (opening (naming word v) tree depth q cs)
