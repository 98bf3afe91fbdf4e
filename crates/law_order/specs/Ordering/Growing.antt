-- Links on which more stands at the end, and nothing that leads elsewhere.
use Rattle.std.specs.Prelude.{◌≡◌, ℕ, Bool, false, List, [], ◌∷◌, ◌++◌, Option}
use Rattle.def_machine.specs.Values.{Name}
use Rattle.def_machine.specs.State.{Note}
use Rattle.def_run.specs.World.{Link}
use Rattle.law_order.specs.Ordering.Ways.{Lane, Item, Place}
use Rattle.law_order.specs.Ordering.Turns.{Within}
use Rattle.law_order.specs.Ordering.Places.{delivered, note_place, any_note}
use Rattle.law_order.specs.Ordering.Worlds.{LetsNothingGo}

-- a test that holds of no note that lets nothing go
abbrev pub IsTest : (Note Name → Bool) → Type 0
IsTest f = (n : Note Name) → LetsNothingGo n → f n ≡ false

pub record LinkGrows (l k : Link) : Type 0 where
  pub from : k.from ≡ l.from
  pub to : k.to ≡ l.to
  pub cut : k.cut ≡ l.cut
  pub stands : Within (delivered l.notes) (delivered k.notes)
  pub places : (f : Note Name → Bool) → IsTest f → (a : Lane) → note_place f a [] k.notes ≡ note_place f a [] l.notes
  pub logs : (f : Note Name → Bool) → IsTest f → any_note f k.log ≡ any_note f l.log

abbrev pub AllGrow : List Link → List Link → Type 0
AllGrow [] [] = Unit {0}
AllGrow (l ∷ ls) (k ∷ ks) = LinkGrows l k × AllGrow ls ks
AllGrow other another = ⊥
