-- Words that are told apart where they stand side by side: what stands between quotes or brackets is one word's.
use Rattle.std.specs.Prelude.{◌≡◌, ℕ, zero, suc, Bool, true, List, [], ◌∷◌, Option, Some, None, map, not, ◌==◌, ◌&&◌, if◌then◌else◌}
use Rattle.std.specs.List.{list_all}
use Rattle.def_event.specs.declared.event.Event.{Event}
use Rattle.def_event.specs.Lines.{render, words}
use Rattle.law_text.specs.Text.Feeds.{AllOf, FitsAs}

-- where a reader of a word stands: so many brackets are open
pub data Place : Type 0 where
  -- outside of quotes
  Outside : ℕ → Place
  -- between quotes of texts, and behind a backslash there
  Inside : ℕ → Place
  Escaping : ℕ → Place
  -- between quotes of characters, and behind a backslash there
  Within : ℕ → Place
  Shielding : ℕ → Place

-- an inner space, which stands between brackets
abbrev pub spaced_in : ℕ → Option Place
spaced_in zero = None
spaced_in (suc d) = Some (Outside (suc d))

abbrev pub closed_in : ℕ → Option Place
closed_in zero = None
closed_in (suc d) = Some (Outside d)

-- where the reader stands behind a byte; nowhere, where the word ended in front of it
abbrev pub behind : Place → ℕ → Option Place
behind (Outside d) c =
    if c == 10 then None
    else if c == 32 then spaced_in d
    else if c == 34 then Some (Inside d)
    else if c == 39 then Some (Within d)
    else if c == 91 then Some (Outside (suc d))
    else if c == 93 then closed_in d
    else Some (Outside d)
behind (Inside d) c = if c == 34 then Some (Outside d) else if c == 92 then Some (Escaping d) else Some (Inside d)
behind (Escaping d) c = Some (Inside d)
behind (Within d) c = if c == 39 then Some (Outside d) else if c == 92 then Some (Shielding d) else Some (Within d)
behind (Shielding d) c = Some (Within d)

abbrev pub reads_on : (Place → Option Place) → Option Place → Option Place
reads_on f None = None
reads_on f (Some p) = f p

abbrev pub reads : List ℕ → Place → Option Place
reads [] p = Some p
reads (c ∷ cs) p = reads_on (reads cs) (behind p c)

-- it is read to its end, be it in a line or between brackets
abbrev pub IsWord : List ℕ → Type 0
IsWord w = (d : ℕ) → reads w (Outside d) ≡ Some (Outside d)

-- a byte that ends no word and opens nothing
abbrev pub ordinary : ℕ → Bool
ordinary c = not (c == 10) && (not (c == 32) && (not (c == 34) && (not (c == 39) && (not (c == 91) && not (c == 93)))))

abbrev pub IsOrdinary : List ℕ → Type 0
IsOrdinary w = list_all ordinary w ≡ true

-- The name of an object that is made is a word.
abbrev pub WordsFit : Event → Type 0
WordsFit = FitsAs IsWord

-- of vats whose names are of ordinary bytes
abbrev pub EachWordIsOne : Type 0
EachWordIsOne = (vats : List (List ℕ)) → AllOf IsOrdinary vats → (e : Event) → WordsFit e → AllOf IsWord (words vats e)

abbrev pub TextsTellWords : Type 0
TextsTellWords = (vats : List (List ℕ)) → AllOf IsOrdinary vats → (xs ys : List Event) → AllOf WordsFit xs → AllOf WordsFit ys
    → render vats xs ≡ render vats ys → map (words vats) xs ≡ map (words vats) ys
