-- In the middle of a step the messages that the vat numbers next are new.
use Rattle.std.specs.Prelude.{◌≡◌, ℕ, ◌+◌, ◌≤◌, Bool, List, Some, slice_get}
use Rattle.def_machine.specs.Values.{Name}
use Rattle.def_machine.specs.State.{Vat}
use Rattle.def_run.specs.World.{Script, Event, World, readied}
use Rattle.law_fate.specs.Fates.Fate.{at_vat, sent, takes}
use Rattle.law_fate.specs.Fates.FateLaws.{Accounted}
use Rattle.law_fate.specs.Fates.Carry.{carries}
use Rattle.law_order.specs.Ordering.Ways.{Lane, Item}
use Rattle.law_order.specs.Ordering.Messages.{StandsAt}
use Rattle.law_order.specs.Ordering.Steps.{WaysAmid}
use Rattle.law_order.specs.History.News.{message, IsNewFrom}
use Rattle.law_order.specs.History.Told.{IsOfRun}
use Rattle.law_order.specs.Sending.Came.{told_amid}

-- No line tells of them, and they stand nowhere.
pub record AreNextNew (script : Script) (honest : ℕ → Bool) (w : World) (v : ℕ) (head : List Event) (s : Vat Name) : Type 0 where
  pub told : IsNewFrom (told_amid w v head s) v s.messages
  pub nowhere : (n : ℕ) → s.messages ≤ n → (l : Lane) (b : List Item) (m : Name) → StandsAt (WaysAmid script honest w v s) (message v n) l b m → ⊥

-- The vat went from q, as it began, to s, and each place of a message and each line of it is paid by what came and by what was sent.
abbrev pub Counted : World → ℕ → (Name → ℕ) → Vat Name → Vat Name → Type 0
Counted w v came q s = (cut : ℕ → Bool) (x : Name) → Accounted cut v x (came x) (readied w q) s

-- The step of vat v, which was r, begins from q, with those messages in hand; its own lines tell of no message.
pub record IsBegun (w : World) (v : ℕ) (head : List Event) (came : Name → ℕ) (r q : Vat Name) : Type 0 where
  pub found : slice_get w.vats v ≡ Some r
  pub numbers : q.messages ≡ r.messages
  pub places : (x : Name) → at_vat x q + came x ≤ at_vat x r
  pub sends : (x : Name) → sent x head ≡ 0
  pub taking : (x : Name) → takes x head ≡ 0
  pub carrying : (x : Name) → carries x head ≡ 0

-- ---- laws

abbrev pub NextMessagesAreNew : Type 0
NextMessagesAreNew = (script : Script) (honest : ℕ → Bool) (w : World) → IsOfRun script w → (v : ℕ) (head : List Event) (came : Name → ℕ) (r q s : Vat Name) → IsBegun w v head came r q → Counted w v came q s → AreNextNew script honest w v head s
