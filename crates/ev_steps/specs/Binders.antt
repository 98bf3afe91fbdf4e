-- The nouns that a pattern binds, task by task.
use Rattle.std.specs.Prelude.{ℕ, zero, suc, true, false, List, [], ◌∷◌, ◌++◌, Option, Some, None, slice_get}
use Rattle.def_kernel.specs.declared.node.Node.{Node}
use Rattle.def_kernel.specs.declared.node.Node.TheVariants.{Set, Def, Call, Sequence, MatchBind, Object, Final, Var, Any, ListPattern, Via}
use Rattle.def_machine.specs.Free.{BoundNoun, bound_at}
use Rattle.ev_steps.specs.declared.binders.Task.{Task}

-- the noun that a pattern of one name binds
abbrev pub own : Node → List BoundNoun
own (Final x g) = record { noun = x; is_var = false } ∷ []
own (Var x g) = record { noun = x; is_var = true } ∷ []
own _ = []

abbrev pub perhaps : Option ℕ → List ℕ
perhaps None = []
perhaps (Some e) = e ∷ []

-- the nodes below that may bind nouns in the same scope, in order
abbrev pub below : Node → List ℕ
below (Set x e) = e ∷ []
below (Def p j e) = p ∷ perhaps j ++ e ∷ []
below (Call r v es) = r ∷ es
below (Sequence es) = es
below (MatchBind e p) = e ∷ p ∷ []
below (Object p auditors members) = p ∷ auditors
below (Final x g) = perhaps g
below (Var x g) = perhaps g
below (Any g) = perhaps g
below (ListPattern ps) = ps
below (Via e p) = e ∷ p ∷ []
below _ = []

-- nodes to be looked at, each with so many levels
abbrev pub at_level : ℕ → List ℕ → List Task
at_level height [] = []
at_level height (e ∷ es) = record { node = e; height = height } ∷ at_level height es

abbrev pub own_of : Option Node → List BoundNoun
own_of None = []
own_of (Some n) = own n

abbrev pub below_of : Option Node → List ℕ
below_of None = []
below_of (Some n) = below n

-- what a task finds at once, and the tasks that it leaves
abbrev pub finds : List Node → ℕ → ℕ → List BoundNoun
finds tree zero e = []
finds tree (suc d) e = own_of (slice_get tree e)

abbrev pub leaves : List Node → ℕ → ℕ → List Task
leaves tree zero e = []
leaves tree (suc d) e = at_level d (below_of (slice_get tree e))

-- what is left to be found
unfoldable pub left : List Node → List Task → List BoundNoun
left tree [] = []
left tree (t ∷ ts) = bound_at tree t.height t.node ++ left tree ts
