-- A note that comes in from a link is received in numbers as in names, whoever sent it.
use Rattle.std.specs.Prelude.{◌≡◌, ℕ}
use Rattle.def_machine.specs.Arrive.{Incoming}
use Rattle.def_machine.specs.Maps as maps
use Rattle.def_machine.specs.Maps.{incoming}
use Rattle.def_machine.specs.Receive.{Sight, host_by, receive}
use Rattle.def_machine.specs.State.{Note, Elsewhere, Vat, Done}
use Rattle.def_machine.specs.Values.{Name, Local, key, numbering, naming}
use Rattle.def_run.specs.Marks.{base}
use Rattle.law_machine.specs.Renamed.Stands.{Table, Is, found, IsTable, StandsFor}
use Rattle.law_machine.specs.Renamed.Renaming.{EndsWith}
use Rattle.law_frame.specs.Heard.Hearing.{as_heard}
use Rattle.law_frame.specs.Local.Hearing.{unnamed}

-- What the tables of vat u tell in numbers they tell in names: which gifts of other hosts it knows as gifts, of keys without a mark, and which of its names have a number for the sender.
pub record SightsAgree (u : ℕ) (t : Table) (a : Sight Local) (b : Sight Name) : Type 0 where
  pub knows : (h p w : ℕ) → (h ≡ u → ⊥) → base (key p w) ≡ key p w → a.knows h p (key p w) ≡ b.knows h p (key p w)
  pub numbers : (k : Local) (n : Name) → found u t k ≡ Is n → a.numbers k ≡ b.numbers n

-- The key under which a vat would view what a note tells to be elsewhere has no mark.
abbrev pub ViewsPlainly : (ℕ → ℕ) → ℕ → Note (Incoming Name Name) → Vat Name → Type 0
ViewsPlainly word u m s = (x : Incoming Name Name) (c w : ℕ) → m ≡ Elsewhere x c → base (key (host_by (naming word u) x s) w) ≡ key (host_by (naming word u) x s) w

-- Where a note was read in numbers as in names, but for how what is new is named, the tables tell the same, and t is the table of the state in which the receiving ends, it ends alike.
abbrev pub ReceivingsGoTogether : Type 0
ReceivingsGoTogether = (word : ℕ → ℕ) (u : ℕ) (t : Table) → IsTable u t → (v : ℕ) (a : Sight Local) (b : Sight Name) → SightsAgree u t a b → (n : Note (Incoming Local Local)) (m : Note (Incoming Name Name))
    → maps.note (incoming (found u t) unnamed) n ≡ maps.note (incoming Is unnamed) (as_heard v u m) → (q : Vat Local) (s : Vat Name) (d : Done Name (Unit {0})) → s.number ≡ u → ViewsPlainly word u m s → StandsFor u t q s
    → receive (naming word u) b v m s ≡ d → EndsWith t d → maps.done (found u t) (λ z. z) (receive (numbering {W = Local} word) a v n q) ≡ maps.done Is (λ z. z) d
