-- Values in notes, one height lower.
use Rattle.std.proofs.Common.{◌≡◌, ◌-◌, ℕ, zero, suc, List, Option, Result, refl, ◌∙◌, ap, subst, arith}
use Rattle.def_event.specs.declared.shown.Shown.{Shown}
use Rattle.ev_script.specs.declared.script.ScriptFault.{ScriptFault}
use Rattle.ev_script.specs.Script.{Reads}
use Rattle.ev_trace_words.specs.Values.{bracketed, note_list, note_value}

lower : (names : List (List ℕ)) (height : ℕ) (word : List ℕ) → (height ≡ 0 → ⊥) → note_list names (note_value names (height - 1)) word (bracketed word) ≡ note_value names height word
lower names zero word h = absurd (h refl)
lower names (suc height) word h = let e : suc height - 1 ≡ height = omega arith in rw e refl

pub reads_lower : (names : List (List ℕ)) (height : ℕ) (word : List ℕ) (found : Option (List ℕ)) (r : Result Shown ScriptFault) → (height ≡ 0 → ⊥) → found ≡ bracketed word
    → Reads r (note_list names (note_value names (height - 1)) word found) → Reads r (note_value names height word)
reads_lower names height word found r h f e = subst (Reads r) (ap (note_list names (note_value names (height - 1)) word) f ∙ lower names height word h) e
