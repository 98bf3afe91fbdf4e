-- What the names of an object stand for in its calls, by what the object holds of them.
use Rattle.std.specs.Prelude.{ℕ, List, [], Some, None, map, reverse, take}
use Rattle.std.specs.declared.option.Option.{Option}
use Rattle.ev_heap.specs.declared.kept.Capture.{Capture}
use Rattle.ev_heap.specs.declared.kept.Capture.TheVariants as capture
use Rattle.ev_heap.specs.declared.kept.Caught.{Caught}
use Rattle.ev_room.specs.declared.scope.Binding.{Binding}
use Rattle.ev_room.specs.declared.scope.Bound.{Bound}
use Rattle.ev_room.specs.declared.scope.Bound.TheVariants.{Fixed, Slot}

-- what a name was bound to that an object holds
abbrev pub bound_back : Capture → Bound
bound_back (capture.Fixed v g) = Fixed v g
bound_back (capture.Slot k) = Slot k

abbrev pub binding_back : Caught → Binding
binding_back c = record { noun = c.noun; bound = bound_back c.capture }

abbrev pub those : Option (List Caught) → List Caught
those None = []
those (Some held) = held

-- so many of the outermost bindings of what an object holds, of which the first is the innermost
abbrev pub outermost : ℕ → Option (List Caught) → List Binding
outermost n held = take n (reverse (map binding_back (those held)))
