-- What holds of trees and their forms.
use Rattle.std.specs.Prelude.{◌≡◌, ℕ, List, Ok}
use Rattle.std.specs.Str.{IsUtf8}
use Rattle.def_kernel.specs.declared.node.Node.{Node}
use Rattle.def_kernel.specs.Forms.{form}
use Rattle.def_kernel.specs.Reading.{read}
use Rattle.def_kernel.specs.Trees.{IsTree}

-- the form of a tree is read as that tree
abbrev pub ReadingUndoesPrinting : Type 0
ReadingUndoesPrinting = (nodes : List Node) → IsTree nodes → read (form nodes 0) ≡ Ok nodes

-- two trees with the same form are the same tree
abbrev pub FormOfOneTree : Type 0
FormOfOneTree = (left right : List Node) → IsTree left → IsTree right → form left 0 ≡ form right 0 → left ≡ right

-- what is read of a text is a tree
abbrev pub WhatIsReadIsATree : Type 0
WhatIsReadIsATree = (text : List ℕ) (nodes : List Node) → IsUtf8 text → read text ≡ Ok nodes → IsTree nodes

-- and its form is the text
abbrev pub WhatIsReadPrintsTheSame : Type 0
WhatIsReadPrintsTheSame = (text : List ℕ) (nodes : List Node) → IsUtf8 text → read text ≡ Ok nodes → form nodes 0 ≡ text
