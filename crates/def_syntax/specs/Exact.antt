-- What a parser of the grammar answers.
use Rattle.std.specs.Prelude.{◌≡◌, ℕ, suc, ◌<◌, List, ◌++◌, take, length, ◌≤◌}
use Rattle.def_syntax.specs.declared.syntax.Word.{Word}
use Rattle.def_syntax.specs.Grammar.{Tree, SpellsProgram}
use Rattle.def_syntax.specs.Machine.{Verdict, fails}
use Rattle.def_syntax.specs.Machine.{tree as read}
use Rattle.def_syntax.specs.Heights.{height, most_height, IsFirstHigh, Answer, tree, no_spelling, too_nested, answer}

-- some continuation of the tokens spells a tree
abbrev pub Viable : List Word → Type 0
Viable ts = (more : List Word) × (w : Tree) × SpellsProgram w (ts ++ more)

-- The first token after which no continuation spells a tree, or the count of the tokens at their end.
pub record IsFirstBad (ts : List Word) (k : ℕ) : Type 0 where
  pub within : k ≤ length ts
  pub before : Viable (take k ts)
  pub at : k < length ts → Viable (take (suc k) ts) → ⊥
  pub none : (w : Tree) → SpellsProgram w ts → ⊥

abbrev pub Exact : List Word → Verdict → Type 0
Exact ts (read w) = SpellsProgram w ts × ((u : Tree) → SpellsProgram u ts → u ≡ w)
Exact ts (fails k) = IsFirstBad ts k

-- What the parser answers, exactly.
abbrev pub IsAnswer : List Word → Answer → Type 0
IsAnswer ts (tree w) = SpellsProgram w ts × (height w ≤ most_height)
IsAnswer ts (no_spelling k) = IsFirstBad ts k
IsAnswer ts (too_nested k) = (w : Tree) × SpellsProgram w ts × (most_height < height w) × IsFirstHigh ts k

-- Law: a token list spells at most one tree.
abbrev pub OneTree : Type 0
OneTree = (ts : List Word) (u w : Tree) → SpellsProgram u ts → SpellsProgram w ts → u ≡ w

-- Law: what the machine answers is exact.
abbrev pub AnswersExactly : Type 0
AnswersExactly = (ts : List Word) → IsAnswer ts (answer ts)
