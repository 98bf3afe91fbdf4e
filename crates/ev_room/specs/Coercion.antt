-- What comes of a native guard's coercion of a value, and the guard that takes null as well.
use Rattle.std.specs.Prelude.{ℕ, ◌+◌, Bool, true, false, if◌then◌else◌, Some, None}
use Rattle.std.specs.declared.option.Option.{Option}
use Rattle.ev_base.specs.declared.values.Value.{Value}
use Rattle.ev_base.specs.declared.values.Value.TheVariants as held
use Rattle.ev_heap.specs.Contents.{Contents}
use Rattle.ev_prims.specs.Asks.{primitive_at}
use Rattle.ev_prims.specs.declared.primitives.Guard.{Guard}
use Rattle.ev_prims.specs.declared.primitives.Kind.{Kind}
use Rattle.ev_prims.specs.declared.primitives.Kind.TheVariants as kind
use Rattle.ev_prims.specs.declared.primitives.Primitive.{Primitive}
use Rattle.ev_prims.specs.declared.primitives.Primitive.TheVariants.{Guarding}
use Rattle.ev_prims.specs.declared.problem.Problem.TheVariants.{BadArgument}
use Rattle.ev_prims.specs.declared.reply.Reply.{Reply}
use Rattle.ev_prims.specs.declared.reply.Reply.TheVariants.{Says, Fails}
use Rattle.ev_room.specs.Sound.{is_there}
use Rattle.ev_room.specs.Takings.{takes, refusal_id}
use Rattle.ev_room.specs.declared.coercion.Coerced.{Coerced}
use Rattle.ev_room.specs.declared.coercion.Coerced.TheVariants.{Takes, Refuses, NoGuard, Astray}

abbrev pub taken_as : ℕ → Option Value → Coerced
taken_as id (Some v) = Takes v
taken_as id None = Refuses id

abbrev pub there_as : Contents → Guard → Value → Value → Bool → Coerced
there_as h g x y true = taken_as (refusal_id g) (takes h g x y)
there_as h g x y false = Astray

-- what comes of a guard at a value, as it is held and as it is followed, which is to stand in the heap
unfoldable pub guard_coerced : Contents → Guard → Value → Value → Coerced
guard_coerced h g x y = there_as h g x y (is_there h y)

abbrev pub coerced_by : Contents → Primitive → Value → Value → Coerced
coerced_by h (Guarding g) x y = guard_coerced h g x y
coerced_by h _ x y = NoGuard

-- the same of the primitive of a number
unfoldable pub native_coerced : Contents → ℕ → Value → Value → Coerced
native_coerced h n x y = coerced_by h (primitive_at n) x y

-- ---- the guard that takes null as well

abbrev pub null_or_kind : ℕ → Kind → Reply
null_or_kind n kind.Null = Fails BadArgument
null_or_kind n k = Says (held.Prim (32 + n))

abbrev pub null_or_guard : ℕ → Guard → Reply
null_or_guard n g = if g.or_null then Fails BadArgument else null_or_kind n g.kind

-- of the primitive of a number
abbrev pub null_or_prim : ℕ → Primitive → Reply
null_or_prim n (Guarding g) = null_or_guard n g
null_or_prim n _ = Fails BadArgument

unfoldable pub null_or : Value → Reply
null_or (held.Prim n) = null_or_prim n (primitive_at n)
null_or _ = Fails BadArgument
