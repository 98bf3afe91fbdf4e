-- What native guards take of a value, as it is held and as it is followed, and what they throw where they refuse.
use Rattle.std.specs.Prelude.{ℕ, ◌+◌, Bool, true, false, if◌then◌else◌, Some, None}
use Rattle.std.specs.declared.option.Option.{Option}
use Rattle.ev_audit.specs.Frozen.{is_frozen, is_near}
use Rattle.ev_base.specs.declared.values.Value.{Value}
use Rattle.ev_base.specs.declared.values.Value.TheVariants as held
use Rattle.ev_heap.specs.Contents.{Contents}
use Rattle.ev_prims.specs.declared.primitives.Guard.{Guard}
use Rattle.ev_prims.specs.declared.primitives.Kind.{Kind}
use Rattle.ev_prims.specs.declared.primitives.Kind.TheVariants as kind
use Rattle.ev_room.specs.Sound.{not_taken_id, not_taken_or_null_id}

abbrev pub is_null : Value → Bool
is_null held.Null = true
is_null _ = false

-- whether a guard of a kind takes a value as it is
abbrev pub is_kind : Contents → Kind → Value → Bool
is_kind h kind.Any v = true
is_kind h kind.Void v = false
is_kind h kind.Int (held.Int z) = true
is_kind h kind.Int _ = false
is_kind h kind.Boolean (held.Bool b) = true
is_kind h kind.Boolean _ = false
is_kind h kind.Char (held.Char c) = true
is_kind h kind.Char _ = false
is_kind h kind.Text (held.Text id) = true
is_kind h kind.Text _ = false
is_kind h kind.List (held.List k) = true
is_kind h kind.List _ = false
is_kind h kind.Null v = is_null v
is_kind h kind.Near v = is_near v
is_kind h kind.Frozen v = is_frozen h v

-- any gives the value as it is held, void gives null for any value, and all else the followed one
abbrev pub kind_takes : Contents → Kind → Value → Value → Option Value
kind_takes h kind.Any x y = Some x
kind_takes h kind.Void x y = Some held.Null
kind_takes h k x y = if is_kind h k y then Some y else None

abbrev pub takes : Contents → Guard → Value → Value → Option Value
takes h g x y = if g.or_null then (if is_null y then Some held.Null else kind_takes h g.kind x y) else kind_takes h g.kind x y

-- the place of a kind among the problems of those that refuse
abbrev pub kind_place : Kind → ℕ
kind_place kind.Any = 0
kind_place kind.Void = 1
kind_place kind.Int = 2
kind_place kind.Boolean = 3
kind_place kind.Char = 4
kind_place kind.Text = 5
kind_place kind.List = 6
kind_place kind.Null = 7
kind_place kind.Near = 8
kind_place kind.Frozen = 9

-- the text of the problem where a guard refuses
abbrev pub refusal_id : Guard → ℕ
refusal_id g = (if g.or_null then not_taken_or_null_id else not_taken_id) + kind_place g.kind
