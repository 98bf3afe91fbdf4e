-- What is read is small.
use Rattle.std.specs.Prelude.{◌≤◌, ◌*◌, ℕ, suc, List, Ok, length}
use Rattle.law_text.specs.Text.Feeds.{AllOf}
use Rattle.law_text.specs.RunTexts.Laws.{IsShort}
use Rattle.ev_reader.specs.declared.accepted.Scoped.{Scoped}
use Rattle.ev_reader.specs.Program.{Answers}

-- Law: a text of n bytes, no more than 65,536, is read as a tree of at most 14 · (n + 1) nodes, each text of which is shorter than 2 ^ 64.
abbrev pub WhatIsReadIsSmall : Type 0
WhatIsReadIsSmall = (text : List ℕ) (given : List (List ℕ)) (scoped : Scoped) → length text ≤ 65536 → Answers (Ok scoped) text given
    → (length scoped.tree ≤ 14 * suc (length text)) × AllOf IsShort scoped.tree
