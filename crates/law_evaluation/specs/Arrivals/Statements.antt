-- What is said of what arrives at a vat that is sound.
use Rattle.std.specs.Prelude.{◌≡◌, ◌++◌, ℕ, List}
use Rattle.def_machine.specs.Arrive as machine
use Rattle.def_machine.specs.Receive as receiving
use Rattle.def_machine.specs.Values.{Words, Local}
use Rattle.ev_room.specs.Reading.{World, names, texts_of}
use Rattle.ev_room.specs.Sound.{IsSound}
use Rattle.ev_arrive.specs.Noticing.{notice}
use Rattle.ev_arrive.specs.declared.host.Host.{Host}
use Rattle.ev_arrive.specs.Hearing.{Name, Sees, heard_by}
use Rattle.ev_arrive.specs.Noting.{arrive}
use Rattle.ev_arrive.specs.Receiving.{receive}
use Rattle.ev_arrive.specs.declared.brought.Heard.{Heard}
use Rattle.ev_arrive.specs.declared.receiving.Sight.{Sight}
use Rattle.law_evaluation.specs.Arrivals.Arrivals.{EndsSound, Means, NoteFits, vat_in}

abbrev pub ReceivesSound : Type 0
ReceivesSound = (h : Host) (from : ℕ) (see : Sight) (note : Heard) → IsSound h.inside → NoteFits h.inside.heap note → EndsSound h.inside (receive from see note h)

abbrev pub ArrivesSound : Type 0
ArrivesSound = (from : ℕ) (note : Heard) (h : Host) → IsSound h.inside → NoteFits h.inside.heap note → EndsSound h.inside (arrive from note h)

abbrev pub NoticesSound : Type 0
NoticesSound = (h : Host) (v : ℕ) → IsSound h.inside → EndsSound h.inside (notice v h)

-- The texts of the heap are a front of those of the end. The machine does not look at what names are called elsewhere (n), at the asker's name (x), nor at the host of what is to be shortened (c).
abbrev pub ReceivesInTheVat : Type 0
ReceivesInTheVat = (w : World) (more : List Words) (h : Host) (n : Local) (x : Name) (c : ℕ) (sight : receiving.Sight Local) (from : ℕ) (see : Sight) (note : Heard)
    → IsSound h.inside → NoteFits h.inside.heap note → Sees sight h note see → texts_of w ≡ h.inside.heap.texts ++ more → h.inside.words.key ≡ w.key
    → Means w (receive from see note h) (receiving.receive (names w) sight from (heard_by (texts_of w) n x c from note) (vat_in w h))

-- The same of a note that arrives.
abbrev pub ArrivesInTheVat : Type 0
ArrivesInTheVat = (w : World) (more : List Words) (h : Host) (n : Local) (x : Name) (c : ℕ) (from : ℕ) (note : Heard)
    → IsSound h.inside → NoteFits h.inside.heap note → texts_of w ≡ h.inside.heap.texts ++ more → h.inside.words.key ≡ w.key
    → Means w (arrive from note h) (machine.arrive (names w) from (heard_by (texts_of w) n x c from note) (vat_in w h))

abbrev pub NoticesInTheVat : Type 0
NoticesInTheVat = (w : World) (more : List Words) (h : Host) (v : ℕ) → IsSound h.inside → texts_of w ≡ h.inside.heap.texts ++ more → h.inside.words.key ≡ w.key
    → Means w (notice v h) (machine.notice (names w) v (vat_in w h))
