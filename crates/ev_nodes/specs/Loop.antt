-- The loop: what comes next, or how all of it ended.
use Rattle.std.specs.Prelude.{◌≡◌, List, Result, Ok, Err}
use Rattle.ev_base.specs.declared.values.Value.{Value}
use Rattle.def_kernel.specs.declared.node.Node.{Node}
use Rattle.ev_room.specs.declared.exit.Exit.{Exit}
use Rattle.ev_room.specs.declared.exit.Exit.TheVariants.{Thrown, Ejected, Fuel, Deep, Repeated, Astray, Memory}
use Rattle.ev_room.specs.declared.exit.Came.TheVariants.{Threw, Left}
use Rattle.ev_pass.specs.declared.interior.Interior.{Interior as Room}
use Rattle.ev_room.specs.declared.scope.Scope.{Scope}
use Rattle.ev_room.specs.Acts.{Out, Unless}
use Rattle.ev_frames.specs.declared.frames.Frame.{Frame}
use Rattle.ev_frames.specs.declared.now.Now.{Now}
use Rattle.ev_frames.specs.declared.now.Now.TheVariants.{Ended}
use Rattle.ev_frames.specs.Rest.{Nested, due_of}

-- what comes next, or how all of it ended: what stops ends all at once
unfoldable pub stepped : Result Now Exit → Result Now (Result Value Exit)
stepped (Ok now) = Ok now
stepped (Err (Thrown id)) = Ok (Ended (Threw id))
stepped (Err (Ejected n v)) = Ok (Ended (Left n v))
stepped (Err Fuel) = Err (Err Fuel)
stepped (Err Deep) = Err (Err Deep)
stepped (Err (Repeated i j)) = Err (Err (Repeated i j))
stepped (Err Astray) = Err (Err Astray)
stepped (Err Memory) = Err (Err Memory)

abbrev pub StepsTo : List Node → Result Now (Result Value Exit) → List Frame → Scope → Room → Out (Value × Scope) → Type 0
StepsTo tree (Ok now) fs here s due = due ≡ due_of tree now fs here s
StepsTo tree (Err (Ok v)) fs here s due = due ≡ (Ok (v, here), s)
StepsTo tree (Err (Err e)) fs here s due = Unless e (due ≡ (Err e, s))

abbrev pub NestedOn : Result Now (Result Value Exit) → List Frame → Scope → Type 0
NestedOn (Ok now) fs here = Nested fs here
NestedOn (Err o) fs here = Unit {0}
