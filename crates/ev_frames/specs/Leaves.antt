-- Parts that are evaluated at once.
use Rattle.std.specs.Prelude.{◌≡◌, ℕ, Bool, true, false, List, Option, Some, None, Result, Ok, Err, drop, length, slice_get}
use Rattle.ev_base.specs.declared.values.Value.{Value}
use Rattle.def_kernel.specs.declared.node.Node.{Node}
use Rattle.def_kernel.specs.declared.node.Node.TheVariants.{Lit, Noun}
use Rattle.ev_room.specs.declared.exit.Exit.{Exit}
use Rattle.ev_pass.specs.declared.interior.Interior.{Interior as Room}
use Rattle.ev_room.specs.declared.scope.Scope.{Scope}
use Rattle.ev_room.specs.Acts.{Unless}
use Rattle.ev_steps.specs.Steps.{evaluator, gathered, last_of}

-- a leaf gave a value in the same scope; or there is none, and nothing was done
abbrev pub LeafGives : List Node → ℕ → ℕ → Scope → Room → Result (Option Value) Exit → Room → Type 0
LeafGives tree d id here s (Ok (Some v)) t = (evaluator tree d).expression id here s ≡ (Ok (v, here), t)
LeafGives tree d id here s (Ok None) t = t ≡ s
LeafGives tree d id here s (Err e) t = Unless e ((evaluator tree d).expression id here s ≡ (Err e, t))

-- the parts of a sequence from a place on are those from another on, after another value
abbrev pub Passes : List Node → ℕ → ℕ → Value → List ℕ → Scope → Room → Result (ℕ × Value) Exit → Room → Type 0
Passes tree d k v es here s (Ok x) t = last_of (evaluator tree d) v (drop k es) here s ≡ last_of (evaluator tree d) x.1 (drop x.0 es) here t
Passes tree d k v es here s (Err e) t = Unless e (last_of (evaluator tree d) v (drop k es) here s ≡ (Err e, t))

-- the same of arguments
abbrev pub Gathers : List Node → ℕ → List Value → List ℕ → Scope → Room → Result (List Value) Exit → Room → Type 0
Gathers tree d vs es here s (Ok ws) t = gathered (evaluator tree d) vs (drop (length vs) es) here s ≡ gathered (evaluator tree d) ws (drop (length ws) es) here t
Gathers tree d vs es here s (Err e) t = Unless e (gathered (evaluator tree d) vs (drop (length vs) es) here s ≡ (Err e, t))

-- a literal or a noun
abbrev pub is_leaf : Option Node → Bool
is_leaf (Some (Lit l)) = true
is_leaf (Some (Noun x)) = true
is_leaf _ = false

-- what is no leaf is neither
abbrev pub LeavesNodes : List Node → ℕ → Result (Option Value) Exit → Type 0
LeavesNodes tree id (Ok (Some v)) = Unit {0}
LeavesNodes tree id (Ok None) = is_leaf (slice_get tree id) ≡ false
LeavesNodes tree id (Err e) = Unit {0}

-- no part stands there, or one that is neither
abbrev pub IsNoLeaf : List Node → Option ℕ → Type 0
IsNoLeaf tree None = Unit {0}
IsNoLeaf tree (Some p) = is_leaf (slice_get tree p) ≡ false

-- so at the place up to which parts were evaluated
abbrev pub PassesAll : List Node → List ℕ → Result (ℕ × Value) Exit → Type 0
PassesAll tree es (Ok x) = IsNoLeaf tree (slice_get es x.0)
PassesAll tree es (Err e) = Unit {0}

abbrev pub GathersAll : List Node → List ℕ → Result (List Value) Exit → Type 0
GathersAll tree es (Ok vs) = IsNoLeaf tree (slice_get es (length vs))
GathersAll tree es (Err e) = Unit {0}
