-- Which labels of some are sought among others.
use Rattle.std.specs.Prelude.{◌≡◌, Bool, true, false, if◌then◌else◌, List, [], ◌∷◌}
use Rattle.ev_links.specs.declared.label.Kind.{Kind}
use Rattle.ev_links.specs.declared.label.Kind.TheVariants.{Gift, Claimed, List as ListKind}
use Rattle.ev_links.specs.declared.label.Label.{Label}
use Rattle.ev_links.specs.declared.links.Link.{Link}
use Rattle.ev_links.specs.declared.links.Scope.TheVariants.{All}
use Rattle.ev_links.specs.Links.{AreReached, IsReached, has_label}
use Rattle.def_event.specs.Uses.{IsAmong}
use Rattle.ev_uses.specs.declared.sought.Sought.{Sought}
use Rattle.ev_uses.specs.declared.sought.Sought.TheVariants.{Names, NoGifts}

abbrev pub is_kind_sought : Sought → Kind → Bool
is_kind_sought s ListKind = false
is_kind_sought Names Gift = true
is_kind_sought NoGifts Gift = false
is_kind_sought Names Claimed = true
is_kind_sought NoGifts Claimed = false
is_kind_sought s _ = true

abbrev pub is_sought : Sought → Label → Bool
is_sought s l = is_kind_sought s l.kind

-- those of the others that are sought stand among these
abbrev pub has_sought : Sought → List Label → List Label → Bool
has_sought s ls [] = true
has_sought s ls (o ∷ os) = if is_sought s o then (if has_label ls o then has_sought s ls os else false) else has_sought s ls os

-- The new labels are reached from the old ones. Those of the others that are no gifts are all there, or not all of them, and all that is reached is.
pub record ReachesSought (rows : List (Label × List Link)) (old new others : List Label) (there : Bool) : Type 0 where
  pub answer : there ≡ has_sought NoGifts new others
  pub sound : (l : Label) → IsAmong l new → IsReached rows All old l
  pub all : there ≡ false → AreReached rows All old new
