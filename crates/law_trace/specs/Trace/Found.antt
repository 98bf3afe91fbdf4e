-- Names that are found in lines.
use Rattle.std.specs.Prelude.{◌≡◌, ℕ, ◌⊎◌, List, [], ◌∷◌}
use Rattle.def_event.specs.declared.event.Event.{Event}
use Rattle.def_event.specs.Lines.{vat, words}
use Rattle.ev_trace_words.specs.Laws.{AreNames}
use Rattle.ev_trace.specs.Naming.{line_vats}
use Rattle.law_trace.specs.Trace.Readable.{Below, IsRead}

-- the name is one of these
abbrev pub Stands : List ℕ → List (List ℕ) → Type 0
Stands n [] = ⊥
Stands n (x ∷ xs) = (n ≡ x) ⊎ Stands n xs

-- each vat of an event is found in its line by its name
abbrev pub VatsAreFound : Type 0
VatsAreFound = (names : List (List ℕ)) (e : Event) → AreNames names → IsRead (Below names) e → IsRead (λ v. Stands (vat names v) (line_vats (words names e))) e
