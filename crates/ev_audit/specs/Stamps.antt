-- Stamps, in the terms of the code.
use Rattle.std.specs.Prelude.{ℕ, ◌==◌, ◌&&◌, Bool, true, false, if◌then◌else◌, List, [], ◌∷◌}
use Rattle.ev_base.specs.declared.values.Value.{Value}
use Rattle.ev_base.specs.declared.values.Value.TheVariants.{Prim, Obj, Prom, Far}
use Rattle.ev_heap.specs.declared.kept.Shape.{Shape}
use Rattle.ev_heap.specs.declared.kept.Shape.TheVariants.{Made}

-- whether two auditors are one: the same primitive, or the same name
abbrev pub same_auditor : Value → Value → Bool
same_auditor (Prim m) (Prim n) = m == n
same_auditor (Obj i) (Obj j) = i == j
same_auditor (Prom i) (Prom j) = i == j
same_auditor (Far v p) (Far u q) = (v == u) && (p == q)
same_auditor _ _ = false

-- whether an auditor's stamp is among these
unfoldable pub bears : Value → List Value → Bool
bears a [] = false
bears a (b ∷ bs) = if same_auditor a b then true else bears a bs

-- the stamps of what bears a number: of an object alone
abbrev pub stamps_in : Shape → List Value
stamps_in (Made node caught stamps) = stamps
stamps_in _ = []
