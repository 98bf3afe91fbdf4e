-- What a tree weighs: each node 1, and what its text is too long by.
use Rattle.std.specs.Prelude.{ℕ, suc, ◌+◌, ◌-◌, List, [], ◌∷◌, length}
use Rattle.def_kernel.specs.declared.node.Literal.{Literal}
use Rattle.def_kernel.specs.declared.node.Literal.TheVariants.{Int, Char, Text}
use Rattle.def_kernel.specs.declared.node.Node.{Node}
use Rattle.def_kernel.specs.declared.node.Node.TheVariants.{Lit, Noun, Set, Call, Method, Final, Var}

-- A token of a text of 65,536 bytes stands for no longer one: an escape stands for at most four bytes, and `__` may come before.
abbrev pub most_text : ℕ
most_text = 262146

abbrev pub over : List ℕ → ℕ
over x = length x - most_text

abbrev pub literal_weight : Literal → ℕ
literal_weight (Int z) = 1
literal_weight (Char c) = 1
literal_weight (Text t) = suc (over t)

abbrev pub node_weight : Node → ℕ
node_weight (Lit l) = literal_weight l
node_weight (Noun x) = suc (over x)
node_weight (Set x e) = suc (over x)
node_weight (Call r verb args) = suc (over verb)
node_weight (Method verb ps b) = suc (over verb)
node_weight (Final x g) = suc (over x)
node_weight (Var x g) = suc (over x)
node_weight _ = 1

abbrev pub weight : List Node → ℕ
weight [] = 0
weight (n ∷ ns) = node_weight n + weight ns
