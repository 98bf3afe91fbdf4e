-- Patterns that are bound at once, since nothing is evaluated in them.
use Rattle.std.specs.Prelude.{◌≡◌, ℕ, Bool, true, false, List, Some, None, Result, Ok, Err, drop, slice_get}
use Rattle.std.specs.declared.option.Option.{Option}
use Rattle.ev_base.specs.declared.values.Value.{Value}
use Rattle.def_kernel.specs.declared.node.Node.{Node}
use Rattle.def_kernel.specs.declared.node.Node.TheVariants.{Any, Final, Var}
use Rattle.ev_room.specs.declared.exit.Exit.{Exit}
use Rattle.ev_pass.specs.declared.interior.Interior.{Interior as Room}
use Rattle.ev_room.specs.declared.scope.Scope.{Scope}
use Rattle.ev_room.specs.Acts.{Unless}
use Rattle.ev_steps.specs.declared.pattern.Early.{Early}
use Rattle.ev_steps.specs.declared.pattern.Early.TheVariants.{Bound, Later}
use Rattle.ev_steps.specs.Steps.{bind_all, evaluator}

-- a pattern was bound; or it is none of these, and nothing was done
abbrev pub BindsAtOnce : List Node → ℕ → ℕ → Value → Value → Scope → Room → Result Early Exit → Scope → Room → Type 0
BindsAtOnce tree d id v j here s (Ok Bound) after t = (evaluator tree d).pattern id v j here s ≡ (Ok after, t)
BindsAtOnce tree d id v j here s (Ok Later) after t = (after ≡ here) × (t ≡ s)
BindsAtOnce tree d id v j here s (Err e) after t = Unless e ((evaluator tree d).pattern id v j here s ≡ (Err e, t))

-- the patterns from a place on are those from another on, in the scope after those between
abbrev pub BindsFrom : List Node → ℕ → ℕ → List ℕ → List Value → Value → Scope → Room → Result ℕ Exit → Scope → Room → Type 0
BindsFrom tree d k ps vs j here s (Ok n) after t = bind_all (evaluator tree d) (drop k ps) (drop k vs) j here s ≡ bind_all (evaluator tree d) (drop n ps) (drop n vs) j after t
BindsFrom tree d k ps vs j here s (Err e) after t = Unless e (bind_all (evaluator tree d) (drop k ps) (drop k vs) j here s ≡ (Err e, t))

-- a name or nothing, without a guard
abbrev pub is_bare : Option Node → Bool
is_bare (Some (Final x None)) = true
is_bare (Some (Var x None)) = true
is_bare (Some (Any None)) = true
is_bare _ = false

-- what is left for later is none of these
abbrev pub LeavesOthers : List Node → ℕ → Result Early Exit → Type 0
LeavesOthers tree id (Ok Bound) = Unit {0}
LeavesOthers tree id (Ok Later) = is_bare (slice_get tree id) ≡ false
LeavesOthers tree id (Err e) = Unit {0}

-- no pattern stands there with a value, or one that is none of these
abbrev pub IsLeft : List Node → Option ℕ → Option Value → Type 0
IsLeft tree None v = Unit {0}
IsLeft tree (Some p) None = Unit {0}
IsLeft tree (Some p) (Some v) = is_bare (slice_get tree p) ≡ false

-- so at the place up to which patterns were bound
abbrev pub EndsWhereLeft : List Node → List ℕ → List Value → Result ℕ Exit → Type 0
EndsWhereLeft tree ps vs (Ok n) = IsLeft tree (slice_get ps n) (slice_get vs n)
EndsWhereLeft tree ps vs (Err e) = Unit {0}
