-- A piece that is one tree of a kind, wherever it is placed.
use Rattle.std.specs.Prelude.{ℕ, suc, ◌+◌, List, [], ◌∷◌, length, Option, Some, None}
use Rattle.def_kernel.specs.declared.node.Node.{Node}
use Rattle.def_kernel.specs.declared.shape.Kind.{Kind}
use Rattle.def_kernel.specs.Trees.{Has, Tree}
use Rattle.ev_piece.specs.Pieces.{Piece}
use Rattle.ev_piece.specs.Placed.{node_at}

-- among these nodes the piece lies, its first node having this number
abbrev pub Lies : List Node → ℕ → Piece → Type 0
Lies nodes n [] = Unit {0}
Lies nodes n (m ∷ ms) = Has nodes n (node_at n m) × Lies nodes (suc n) ms

-- wherever the piece lies, it is one tree of this kind
pub record Fits (kind : Kind) (p : Piece) : Type 0 where
  pub tree : (nodes : List Node) (n : ℕ) → Lies nodes n p → Tree nodes kind n (n + length p)

abbrev pub FitsIf : Kind → Option Piece → Type 0
FitsIf kind None = Unit {0}
FitsIf kind (Some p) = Fits kind p

abbrev pub AllFit : Kind → List Piece → Type 0
AllFit kind [] = Unit {0}
AllFit kind (p ∷ ps) = Fits kind p × AllFit kind ps
