-- The numbers of tokens decide nothing.
use Rattle.std.specs.Prelude.{◌≡◌, List, [], ◌∷◌}
use Rattle.def_syntax.specs.declared.syntax.Word.{Word}
use Rattle.def_syntax.specs.Grammar.{Tree, SpellsProgram}
use Rattle.def_syntax.specs.Heights.{height}

-- two token lists of the same kinds
abbrev pub Alike : List Word → List Word → Type 0
Alike [] [] = Unit {0}
Alike [] (u ∷ us) = ⊥
Alike (t ∷ ts) [] = ⊥
Alike (t ∷ ts) (u ∷ us) = (t.kind ≡ u.kind) × Alike ts us

-- Law: of two token lists of the same kinds both spell a tree or none, and the trees are as high as each other. So a
-- continuation of some tokens may have any numbers.
abbrev pub NumbersDecideNothing : Type 0
NumbersDecideNothing = (ts us : List Word) → Alike ts us → (w : Tree) → SpellsProgram w ts → (v : Tree) × SpellsProgram v us × (height v ≡ height w)
