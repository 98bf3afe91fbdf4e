-- Messages that frames bring, and messages that come to hostile vats: no line sends the first, and no line takes the second.
use Rattle.std.specs.Prelude.{ℕ, Bool, true, false, List, ◌&&◌, not}
use Rattle.def_machine.specs.Values.{Name}
use Rattle.def_machine.specs.State.{is_in}
use Rattle.def_run.specs.World.{Event, Carried}
use Rattle.law_fate.specs.Fates.Fate.{total, of_note, opened_fate}
unfoldable pub use Rattle.law_scenes.specs.Doings.{told}

-- so many where it is so, else zero
unfoldable pub where_so : Bool → ℕ → ℕ
where_so true n = n
where_so false n = 0

module _ (hs : List ℕ) (x : Name) where
  -- a line that carries it from a hostile vat to an honest one, in a frame: so it comes to be
  unfoldable pub brought_by : Event → ℕ
  brought_by (Carried k h u n bytes) = where_so (is_in h hs && not (is_in u hs)) (of_note x n)
  brought_by _ = 0

  -- a line that carries it to a hostile vat: there it ends
  unfoldable pub arrives_by : Event → ℕ
  arrives_by (Carried k h u n bytes) = where_so (is_in u hs) (of_note x n)
  arrives_by _ = 0

  -- how often frames brought a message
  unfoldable pub brought : List Event → ℕ
  brought es = total brought_by es

  -- how often it arrived at a hostile vat
  unfoldable pub arrivals : List Event → ℕ
  arrivals es = total arrives_by es

-- opens each definition of this file, and of those below
unfoldable pub opened_brought : Unit {0}
unfolding told where_so brought_by arrives_by brought arrivals opened_fate
opened_brought = tt
