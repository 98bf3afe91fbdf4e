-- A history as a sequence diagram, in the text of Mermaid: a lane for each vat, and an item for each carry, take, lost, cut, notice and left line, in their order, and for no other. docs/HISTORY.md has the words of each line.
use Rattle.std.specs.Prelude.{ℕ, ◌+◌, ◌==◌, nat_le, Bool, ◌&&◌, ◌||◌, if◌then◌else◌, List, [], ◌∷◌, ◌++◌, drop, flat_map, codes, decimal, chars, encode_utf8}
use Rattle.std.specs.Str.{bytes_eq}
use Rattle.std.specs.List.{list_any}
use Rattle.def_see.specs.declared.line.Line.{Line}
use Rattle.def_see.specs.Words.{Words, word, has, joined, is_act, is_entry, stands_before}

-- ---- labels

abbrev pub is_between : ℕ → ℕ → ℕ → Bool
is_between low high b = nat_le low b && nat_le b high

-- Characters that end no label and stand for themselves in one: letters, digits and spaces of ASCII, and ! ( ) * + , - . / : = ? @ [ ] ^ _ ~.
unfoldable pub is_plain : ℕ → Bool
is_plain c = is_between 97 122 c || is_between 63 91 c || is_between 40 58 c || c == 32 || c == 33 || c == 61 || is_between 93 95 c || c == 126

-- each other character stands by its number
unfoldable pub escaped_character : ℕ → List ℕ
escaped_character c = if is_plain c then encode_utf8 c else 35 ∷ decimal c ++ 59 ∷ []

abbrev pub escaped : List ℕ → List ℕ
escaped text = flat_map escaped_character (chars text)

-- ---- lanes

-- the vats of which a line says something
unfoldable pub vats_of : Words → List (List ℕ)
vats_of ws =
    if has 0 (codes "open") ws then word 1 ws ∷ []
    else if is_entry (codes "turn") ws then word 2 ws ∷ []
    else if is_entry (codes "carry") ws || is_entry (codes "cut") ws || is_entry (codes "notice") ws then word 2 ws ∷ word 3 ws ∷ []
    else if has 0 (codes "left") ws && has 1 (codes "link") ws then word 2 ws ∷ word 3 ws ∷ []
    else if has 0 (codes "left") ws then word 2 ws ∷ []
    else []

unfoldable pub with_lane : List (List ℕ) → List ℕ → List (List ℕ)
with_lane lanes vat = if list_any (bytes_eq vat) lanes then lanes else lanes ++ vat ∷ []

abbrev pub with_lanes : List (List ℕ) → List (List ℕ) → List (List ℕ)
with_lanes lanes [] = lanes
with_lanes lanes (vat ∷ vats) = with_lanes (with_lane lanes vat) vats

abbrev pub lanes_from : List (List ℕ) → List Line → List (List ℕ)
lanes_from lanes [] = lanes
lanes_from lanes (l ∷ ls) = lanes_from (with_lanes lanes (vats_of l.words)) ls

-- each vat once, in the order in which lines first say something of it
abbrev pub lanes_of : List Line → List (List ℕ)
lanes_of lines = lanes_from [] lines

-- how many lanes stand before that of a vat
abbrev pub place_of : List ℕ → List (List ℕ) → ℕ
place_of vat [] = 0
place_of vat (lane ∷ lanes) = if bytes_eq vat lane then 0 else 1 + place_of vat lanes

-- A lane has a name of its own, `v` and its place, so that a vat may be called like a word of Mermaid.
unfoldable pub alias : List (List ℕ) → List ℕ → List ℕ
alias lanes vat = 118 ∷ decimal (place_of vat lanes)

unfoldable pub participant : List (List ℕ) → List ℕ → List ℕ
participant lanes vat = codes "    participant " ++ alias lanes vat ++ codes " as " ++ escaped vat ++ 10 ∷ []

-- ---- items

-- what an element says, to the end of its line
unfoldable pub label : List ℕ → List ℕ
label text = codes ": " ++ escaped text ++ 10 ∷ []

unfoldable pub note_over : List ℕ
note_over = codes "    Note over "

-- a note over a lane
unfoldable pub noted : List (List ℕ) → List ℕ → List ℕ → List ℕ
noted lanes vat text = note_over ++ alias lanes vat ++ label text

-- across two
unfoldable pub noted_across : List (List ℕ) → List ℕ → List ℕ → List ℕ → List ℕ
noted_across lanes from to text = note_over ++ alias lanes from ++ codes "," ++ alias lanes to ++ label text

-- an arrow of that kind from one to another
unfoldable pub drawn : List (List ℕ) → List ℕ → List ℕ → List ℕ → List ℕ → List ℕ
drawn lanes arrow from to text = codes "    " ++ alias lanes from ++ arrow ++ alias lanes to ++ label text

-- Deliveries, news of names that settled, and what is said of gifts have arrows of their own; so has what is only bytes.
unfoldable pub arrow : Words → List ℕ
arrow ws =
    if has 4 (codes "deliver") ws || has 4 (codes "deliveronly") ws then codes "->>"
    else if has 4 (codes "settled") ws || has 4 (codes "elsewhere") ws then codes "-->>"
    else if has 4 (codes "open") ws || has 4 (codes "ask") ws || has 4 (codes "shorten") ws then codes "--)"
    else codes "-)"

-- the words of a line, from a place on
abbrev pub words_from : ℕ → Words → List ℕ
words_from n ws = joined (codes " ") (drop n ws)

-- the two vats of a cut
pub record Ends : Type 0 where
  pub from : List ℕ
  pub to : List ℕ

abbrev pub ends : List ℕ → List ℕ → Ends
ends from to = record { from = from; to = to }

-- the two vats of the last cut, behind a line
unfoldable pub ends_behind : Ends → Words → Ends
ends_behind last ws = if is_entry (codes "cut") ws then ends (word 2 ws) (word 3 ws) else last

-- a message that a cut loses is crossed out on its way from the vat that sent it, where that is one of the two
unfoldable pub lost_in_cut : List (List ℕ) → Ends → Words → List ℕ
lost_in_cut lanes last ws =
    if stands_before 47 last.to (word 1 ws) then drawn lanes (codes "-x") last.to last.from (words_from 0 ws)
    else drawn lanes (codes "-x") last.from last.to (words_from 0 ws)

unfoldable pub lost : List (List ℕ) → Ends → Line → List ℕ
lost lanes last l = if has 2 (codes "cut") l.words then lost_in_cut lanes last l.words else noted lanes l.at (words_from 0 l.words)

unfoldable pub left : List (List ℕ) → Words → List ℕ
left lanes ws =
    if has 1 (codes "link") ws then drawn lanes (codes "--x") (word 2 ws) (word 3 ws) (words_from 0 ws)
    else noted lanes (word 2 ws) (words_from 0 ws)

-- what a carry brings, behind the number of its entry
unfoldable pub carried : List (List ℕ) → Words → List ℕ
carried lanes ws = drawn lanes (arrow ws) (word 2 ws) (word 3 ws) (word 0 ws ++ 32 ∷ words_from 4 ws)

-- what a turn takes, behind the number of its step
unfoldable pub taken : List (List ℕ) → Line → List ℕ
taken lanes l = noted lanes l.at (l.label ++ codes " takes " ++ words_from 2 l.words)

-- the item of a line, by the lanes and the last cut
unfoldable pub item : List (List ℕ) → Ends → Line → List ℕ
item lanes last l =
    if is_act (codes "take") l.words then taken lanes l
    else if is_entry (codes "carry") l.words then carried lanes l.words
    else if is_entry (codes "cut") l.words || is_entry (codes "notice") l.words then noted_across lanes (word 2 l.words) (word 3 l.words) (words_from 0 l.words)
    else if has 0 (codes "lost") l.words then lost lanes last l
    else if has 0 (codes "left") l.words then left lanes l.words
    else []

abbrev pub items_from : List (List ℕ) → Ends → List Line → List ℕ
items_from lanes last [] = []
items_from lanes last (l ∷ ls) = item lanes last l ++ items_from lanes (ends_behind last l.words) ls

-- the diagram of a history
unfoldable pub diagram : List Line → List ℕ
diagram lines = let lanes = lanes_of lines in
    codes "sequenceDiagram\n" ++ (flat_map (participant lanes) lanes ++ items_from lanes (ends [] []) lines)
