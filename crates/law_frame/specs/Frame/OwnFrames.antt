-- What a vat writes by its own numbers is the frame of the note in names.
use Rattle.std.specs.Prelude.{◌≡◌, ℕ, Bool, true, false, ◌==◌}
use Rattle.def_machine.specs.Values.{Name, Root, Object, Promise, Answer, Gift, Sent, host_of, answer_of, Local, Obj, Prom, Far, Mess, same_local}
use Rattle.def_machine.specs.State.{Note, Deliver, Open, Ask, SettledTo, Elsewhere, Shorten}
use Rattle.def_run.specs.Connections.{Connection, Sight, frame_now, put_on}
use Rattle.def_run.specs.Wire.{sight, is_object}
use Rattle.def_machine.specs.Maps as maps
use Rattle.law_machine.specs.Renamed.Stands.{Table, Is, found, IsTable}
use Rattle.law_frame.specs.Frame.Together.{TablesMay, NoteMay, changed_tables}

-- a message is no reference
unfoldable pub refers : Name → Bool
refers (Sent m) = false
refers (Root v) = true
refers (Object v i) = true
refers (Promise v i) = true
refers (Answer h m) = true
refers (Gift h i) = true

unfoldable pub refers_here : Local → Bool
refers_here (Mess k) = false
refers_here (Obj i) = true
refers_here (Prom k) = true
refers_here (Far h p) = true

-- How vat u sees its own numbers: by what its table has for them.
pub record SeesBy (u : ℕ) (t : Table) (S : Sight Local) : Type 0 where
  pub same : (a b : Local) → S.same a b ≡ same_local a b
  pub own : (a : Local) (n : Name) → refers_here a ≡ true → found u t a ≡ Is n → (host_of n == u) ≡ S.own a
  pub object : (a : Local) (n : Name) → found u t a ≡ Is n → is_object n ≡ S.object a

-- the answer at vat v that a note in numbers asks for, if it does, is that of the message of the note in names
abbrev pub AsksFor : ℕ → ℕ → Table → Sight Local → Note Local → Note Name → Type 0
AsksFor u v t S (Deliver d n verb ys) (Deliver e m x zs) = d.asks ≡ true → found u t (S.answer d.message) ≡ Is (answer_of v e.message)
AsksFor u v t S _ _ = Unit {0}

-- Where what vat u has in numbers for vat v, and a note to v, stand for what it has in names and for that note in names: the frame that it writes by its numbers is that of the note in names, and what it has in numbers after it stands for what it has in names.
abbrev pub FramesAreWrittenByNumbers : Type 0
FramesAreWrittenByNumbers = (u v : ℕ) (t : Table) → IsTable u t → (S : Sight Local) → SeesBy u t S → (c : Connection Local) (d : Connection Name) (n : Note Local) (m : Note Name)
    → changed_tables (found u t) c ≡ changed_tables Is d → maps.note (found u t) n ≡ maps.note Is m → TablesMay refers_here c → TablesMay refers d → NoteMay refers_here n → NoteMay refers m → AsksFor u v t S n m
    → (frame_now S n c ≡ frame_now (sight u v) m d) × (changed_tables (found u t) (put_on S n c) ≡ changed_tables Is (put_on (sight u v) m d))
