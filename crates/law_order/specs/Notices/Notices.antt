-- A vat notices that another was cut off: what is ahead of what after it.
use Rattle.std.specs.Prelude.{◌≡◌, ℕ, zero, Bool, true, List, [], ◌∷◌, ◌++◌, Some, slice_get, ◌⊎◌}
use Rattle.def_machine.specs.Values.{Value, Name}
use Rattle.def_machine.specs.State.{Message, Known, Vat}
use Rattle.def_run.specs.World.{Script, NoticeLink, Entry, World, Goes, begins, open_from, steps_from}
use Rattle.law_fate.specs.Name.Names.{AllOf, IsAmong}
use Rattle.law_fate.specs.Name.Runs.{KnowsOnce}
use Rattle.law_reference.specs.Reference.Cuts.{NoticesFollowCuts}
use Rattle.law_order.specs.Ordering.Ways.{Lane, Queue, Held, Way, Item, Nowhere, Mid}
use Rattle.law_order.specs.Ordering.Messages.{StaysBehind}
use Rattle.law_order.specs.Ordering.Places.{queued, leads, ways}

-- a link, or a lane of another vat
abbrev pub IsNotOf : ℕ → Lane → Type 0
IsNotOf v (Queue u) = u ≡ v → ⊥
IsNotOf v (Held u p) = u ≡ v → ⊥
IsNotOf v (Way a b) = Unit {0}

-- the message is among the reactions on a name that the vat knows
abbrev pub IsReacting : Vat Name → Message Name → Type 0
IsReacting s m = (k : Known Name) × IsAmong k s.known × IsAmong m k.reactions

-- From x to y names of vat v, which was s, broke: what they held is lost, and what reacted on them comes to the end of the queue.
pub record BreaksInOrder (script : Script) (honest : ℕ → Bool) (x y : World) (v : ℕ) (s : Vat Name) : Type 0 where
  -- What is doomed stays doomed, and what is ahead stays ahead, of each reference of each vat and of what stays where it stood.
  pub references : (u : ℕ) (z : Value Name) → StaysBehind (ways script honest x) (ways script honest y) (leads script honest x.vats x.links u z) (leads script honest y.vats y.links u z)
  pub places : (l : Lane) (b : List Item) (n : Name) → StaysBehind (ways script honest x) (ways script honest y) (Mid l b n) (Mid l b n)
  -- Each reference leads where it led, or nowhere.
  pub leading : (u : ℕ) (z : Value Name) → (leads script honest y.vats y.links u z ≡ leads script honest x.vats x.links u z) ⊎ (leads script honest y.vats y.links u z ≡ Nowhere)
  -- In other lanes just those messages stand that stood there.
  pub apart : (l : Lane) → IsNotOf v l → (ways script honest y).stands l ≡ (ways script honest x).stands l
  pub queue : (ms : List (Message Name)) × ((ways script honest y).stands (Queue v) ≡ (ways script honest x).stands (Queue v) ++ queued ms) × AllOf (IsReacting s) ms
  -- A name of the vat holds what it held, or nothing, and leads nowhere then.
  pub held : (p : Name) → ((ways script honest y).stands (Held v p) ≡ (ways script honest x).stands (Held v p)) ⊎ (((ways script honest y).stands (Held v p) ≡ []) × ((n : Name) → (ways script honest y).onward (Held v p) n ≡ Nowhere))

-- So it is in every run in which each notice stands behind a cut of the same two vats, as the next entry is the notice of one honest vat that another was cut off.
abbrev pub NoticesKeepOrderInRuns : Type 0
NoticesKeepOrderInRuns = (script : Script) → KnowsOnce script → (w x y : World) (es : List Entry) (k v u : ℕ) → NoticesFollowCuts (es ++ NoticeLink v u ∷ [])
    → open_from script zero script.vats (begins script) ≡ Goes w → steps_from script es k w ≡ Goes x → steps_from script (es ++ NoticeLink v u ∷ []) k w ≡ Goes y
    → (honest : ℕ → Bool) → honest v ≡ true → honest u ≡ true → (s : Vat Name) × (slice_get x.vats v ≡ Some s) × BreaksInOrder script honest x y v s
