-- A history of the machine that is in order, and the lines that show it.
use Rattle.std.specs.Prelude.{◌≡◌, ◌<◌, ℕ, zero, suc, List, take, Option, Some, None, slice_get}
use Rattle.def_machine.specs.Values.{Words, Ref, Name}
use Rattle.def_machine.specs.State.{Message, Happened, Passed, Passeds, NoMore, More, Delivery, Deliver, Took, Sends}
use Rattle.def_run.specs.World.{Event, Here, Carried}
use Rattle.def_run.specs.Shown.{shown_name}
use Rattle.def_run.specs.Text.{shown_events}
use Rattle.def_event.specs.Order.{vat_after, IsOrdered}
use Rattle.law_fate.specs.Name.Names.{IsAmong, IsMessageName}
use Rattle.law_order.specs.Ordering.Order.{Ordered, passes}

-- ---- what is asked of a history, whose lines are numbered from 0

-- a line of a vat stands behind lines at whose end that vat is
abbrev pub AreInPlace : List ℕ → List Event → Type 0
AreInPlace draws es = (i v : ℕ) (e : Happened Name) → slice_get es i ≡ Some (Here v e) → vat_after None (shown_events draws (take i es)) ≡ Some v

-- what a line sends, carries and takes is named as a message
abbrev pub NamesMessage : Event → Type 0
NamesMessage (Here v (Sends act m)) = IsMessageName m.id
NamesMessage (Here v (Took act m)) = IsMessageName m.id
NamesMessage (Carried k u v (Deliver d n verb ys) bytes) = IsMessageName d.message
NamesMessage _ = Unit {0}

abbrev pub NameMessages : List Event → Type 0
NameMessages es = (i : ℕ) (e : Event) → slice_get es i ≡ Some e → NamesMessage e

-- a line before line i sends a message with that name
abbrev pub IsSentBefore : List Event → ℕ → Name → Type 0
IsSentBefore es i x = (j v act : ℕ) × (m : Message Name) × (j < i) × (slice_get es j ≡ Some (Here v (Sends act m))) × (m.id ≡ x)

-- what is carried was sent before
abbrev pub CarryWhatWasSent : List Event → Type 0
CarryWhatWasSent es = (i k u v : ℕ) (d : Delivery Name) (n : Name) (verb : Words) (ys : Passeds Name) (bytes : List ℕ) → slice_get es i ≡ Some (Carried k u v (Deliver d n verb ys) bytes) → IsSentBefore es i d.message

-- the argument of that number
unfoldable pub passed_at : Passeds Name → ℕ → Option (Passed Name)
passed_at NoMore i = None
passed_at (More y ys) zero = Some y
passed_at (More y ys) (suc i) = passed_at ys i

-- A name on which a line sends, that it sends as an argument, or that is an argument of what it carries.
pub data IsNamed (es : List Event) (n : Name) : Type 0 where
  target : (i v act : ℕ) (m : Message Name) → slice_get es i ≡ Some (Here v (Sends act m)) → m.target ≡ Ref n → IsNamed es n
  argument : (i v act place : ℕ) (m : Message Name) → slice_get es i ≡ Some (Here v (Sends act m)) → slice_get m.args place ≡ Some (Ref n) → IsNamed es n
  passed : (i k u v place : ℕ) (d : Delivery Name) (z : Name) (verb : Words) (ys : Passeds Name) (bytes : List ℕ) (y : Passed Name) → slice_get es i ≡ Some (Carried k u v (Deliver d z verb ys) bytes) → passed_at ys place ≡ Some y → IsAmong n (passes y) → IsNamed es n

-- such names are shown as different names where they differ
abbrev pub NamesApart : List ℕ → List Event → Type 0
NamesApart draws es = (m n : Name) → IsNamed es m → IsNamed es n → shown_name draws m ≡ shown_name draws n → m ≡ n

-- ---- the law

abbrev pub HistoriesAreShownInOrder : Type 0
HistoriesAreShownInOrder = (draws : List ℕ) (es : List Event) → AreInPlace draws es → NameMessages es → CarryWhatWasSent es → NamesApart draws es → Ordered es → IsOrdered (shown_events draws es)

-- opens the definition of this file
unfoldable pub opened_shown : Unit {0}
unfolding passed_at
opened_shown = tt
