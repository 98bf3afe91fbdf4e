-- What a tree of the grammar has where, and what a piece is when it is placed.
use Rattle.std.specs.Prelude.{◌≡◌, List, [], ◌∷◌}
use Rattle.def_kernel.specs.declared.shape.Kind.{Kind}
use Rattle.def_kernel.specs.declared.shape.Kind.TheVariants.{Expression}
use Rattle.def_kernel.specs.Trees.{IsTree}
use Rattle.def_syntax.specs.declared.syntax.Word.{Word}
use Rattle.def_syntax.specs.Grammar.{Tree, SpellsProgram, shape_of}
use Rattle.ev_piece.specs.Pieces.{Piece}
use Rattle.ev_piece.specs.Placed.{placed}
use Rattle.law_reading.specs.Expansion.Shapes.{sort_of, Fair}
use Rattle.law_reading.specs.Expansion.Fitting.{Fits}

-- Law: a piece that is one expression wherever it lies, placed as a tree of its own, is a kernel tree.
abbrev pub PlacedIsATree : Type 0
PlacedIsATree = (p : Piece) → Fits Expression p → IsTree (placed 0 p)

-- each of these tokens is good
abbrev pub AllGood : (Word → Type 0) → List Word → Type 0
AllGood G [] = Unit {0}
AllGood G (t ∷ ts) = G t × AllGood G ts

-- the tree is fair and of this kind, and the tokens behind it are good
pub record Read (G : Word → Type 0) (kind : Kind) (w : Tree) (rest : List Word) : Type 0 where
  pub fair : Fair G w
  pub sort : sort_of (shape_of w) ≡ kind
  pub good : AllGood G rest

-- nothing is asked of a token
abbrev pub Any : Word → Type 0
Any w = Unit {0}

-- Law: in a tree that tokens spell, each part of a node is of the kind that the node wants there, and the tree is an
-- expression.
abbrev pub SpelledIsFair : Type 0
SpelledIsFair = (w : Tree) (ts : List Word) → SpellsProgram w ts → Fair Any w × (sort_of (shape_of w) ≡ Expression)
