-- A piece that is placed weighs what it did, and a tree that weighs little has few nodes and short texts.
use Rattle.std.proofs.Common.{◌≡◌, ℕ, suc, ◌^◌, ◌≤◌, ◌<◌, List, [], ◌∷◌, length, refl, arith}
use Rattle.def_kernel.specs.declared.node.Literal.{Literal}
use Rattle.def_kernel.specs.declared.node.Literal.TheVariants.{Int, Text}
use Rattle.def_kernel.specs.declared.node.Node.{Node}
use Rattle.def_kernel.specs.declared.node.Node.TheVariants.{Lit, Noun, Set, Call, Method, Final, Var}
use Rattle.ev_piece.specs.Placed.{node_at, placed}
use Rattle.law_text.specs.Text.Feeds.{AllOf}
use Rattle.law_text.specs.RunTexts.Laws.{IsShortLiteral, IsShort}
use Rattle.law_reading.specs.Sized.Weights.{over, literal_weight, node_weight, weight}

node_same : (n : ℕ) (m : Node) → node_weight (node_at n m) ≡ node_weight m
unfolding node_at
node_same n (Lit l) = refl
node_same n other = refl

pub placed_weight : (n : ℕ) (p : List Node) → weight (placed n p) ≡ weight p
unfolding placed
placed_weight n [] = refl
placed_weight n (m ∷ p) = omega (arith, node_same n m, placed_weight (suc n) p)

-- ---- few nodes, and short texts

literal_counts : (l : Literal) → 1 ≤ literal_weight l
literal_counts (Int z) = omega arith
literal_counts other = omega arith

node_counts : (m : Node) → 1 ≤ node_weight m
node_counts (Lit l) = literal_counts l
node_counts (Noun x) = omega arith
node_counts (Set x e) = omega arith
node_counts (Call r v es) = omega arith
node_counts (Method v ps b) = omega arith
node_counts (Final x g) = omega arith
node_counts (Var x g) = omega arith
node_counts _ = omega arith

pub few_nodes : (p : List Node) → length p ≤ weight p
few_nodes [] = omega arith
few_nodes (m ∷ p) = omega (arith, node_counts m, few_nodes p)

short_text : (x : List ℕ) → suc (over x) ≤ 2 ^ 32 → length x < 2 ^ 64
short_text x h = omega (arith, h)

short_literal : (l : Literal) → literal_weight l ≤ 2 ^ 32 → IsShortLiteral l
short_literal (Text t) h = short_text t h
short_literal other h = tt

short_node : (m : Node) → node_weight m ≤ 2 ^ 32 → IsShort m
short_node (Lit l) h = short_literal l h
short_node (Noun x) h = short_text x h
short_node (Set x e) h = short_text x h
short_node (Call r v es) h = short_text v h
short_node (Method v ps b) h = short_text v h
short_node (Final x g) h = short_text x h
short_node (Var x g) h = short_text x h
short_node _ h = tt

pub short_texts : (p : List Node) → weight p ≤ 2 ^ 32 → AllOf IsShort p
short_texts [] h = tt
short_texts (m ∷ p) h = (short_node m (omega (arith, h)), short_texts p (omega (arith, h)))
