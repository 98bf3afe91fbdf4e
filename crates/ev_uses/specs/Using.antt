-- What it is to decide whether names are known to an activation, or made.
use Rattle.std.specs.Prelude.{◌≡◌, ◌⊎◌, ◌↔◌, ℕ, Bool, true, List, Option, Some, None}
use Rattle.ev_base.specs.declared.names.Name.{Name}
use Rattle.def_event.specs.Uses.{AName, BackKnown, IsAmong, KnowsName, Line, UsesKnown}
use Rattle.ev_known.specs.declared.facts.Activation.{Activation}
use Rattle.ev_links.specs.declared.label.Label.{Label}
use Rattle.ev_known.specs.Knowing.{Known, KnownStand}
use Rattle.ev_links.specs.Label.{label}

abbrev pub label_of : Option Name → Option Label
label_of None = None
label_of (Some n) = Some (label (AName n))

-- each of the names is what is made, or known to the activation
abbrev pub AllKnown : List Line → ℕ → ℕ → Option Name → List Name → Type 0
AllKnown past at number made ns = (n : Name) → IsAmong n ns → (made ≡ Some n) ⊎ KnowsName past at number n

-- the answer tells so, of any lines for which the tables stood, and those of afterwards stand for the same lines
pub record DecidesAll (old new : Known) (a : Activation) (made : Option Label) (ns : List Name) (b : Bool) : Type 0 where
  pub each : (past : List Line) (o : Option Name) → KnownStand old past → made ≡ label_of o → (b ≡ true) ↔ AllKnown past a.at a.number o ns
  pub stands : (past : List Line) → KnownStand old past → KnownStand new past

-- what the line uses, and what it gives back, is known
unfoldable pub IsOfKnown : List Line → Line → Type 0
IsOfKnown past l = UsesKnown past l × BackKnown past l
