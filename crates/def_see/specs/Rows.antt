-- The row of each message that a history sends, and of each root.
use Rattle.std.specs.Prelude.{ℕ, zero, suc, ◌-◌, Bool, ◌&&◌, if◌then◌else◌, List, [], ◌∷◌, ◌++◌, length, take, map, filter, flat_map, codes, Option, Some, None}
use Rattle.std.specs.Option.{option_map_or}
use Rattle.std.specs.Str.{bytes_eq}
use Rattle.def_see.specs.declared.line.Line.{Line}
use Rattle.def_see.specs.declared.row.Row.{Row}
use Rattle.def_see.specs.Words.{Words, word, has, joined, is_act, is_entry, is_host, sends, what}
use Rattle.def_see.specs.Lines.{line_at, life}

-- ---- what became of a message

-- `K:V>W`: entry K carries it from V to W
unfoldable pub carry_phrase : Line → Words
carry_phrase l =
    if is_entry (codes "carry") l.words then (word 0 l.words ++ codes ":" ++ word 2 l.words ++ codes ">" ++ word 3 l.words) ∷ []
    else []

unfoldable pub taken_phrase : Line → List ℕ
taken_phrase l = codes "taken " ++ l.label ++ codes " by " ++ word 3 l.words

unfoldable pub lost_phrase : Line → List ℕ
lost_phrase l = codes "lost " ++ l.label ++ codes " " ++ word 2 l.words

-- the words of the closing list before the message
unfoldable pub left_phrase : Line → List ℕ
left_phrase l = joined (codes " ") (take (if has 1 (codes "queue") l.words then 3 else 4) l.words)

-- it is taken, lost or left
unfoldable pub fate_phrase : Line → Words
fate_phrase l =
    if is_act (codes "take") l.words then taken_phrase l ∷ []
    else if has 0 (codes "lost") l.words then lost_phrase l ∷ []
    else if has 0 (codes "left") l.words then left_phrase l ∷ []
    else []

-- what lines of these numbers say
abbrev pub phrases : (Line → Words) → List Line → List ℕ → Words
phrases phrase lines numbers = flat_map (λ i. phrase (line_at lines i)) numbers

-- a cell that would be empty has a dash
abbrev pub or_dash : List ℕ → List ℕ
or_dash [] = codes "-"
or_dash (b ∷ bs) = b ∷ bs

-- ---- what a name came to

abbrev pub first_of : (ℕ → Bool) → List ℕ → Option ℕ
first_of p [] = None
first_of p (i ∷ is) = if p i then Some i else first_of p is

abbrev pub or_else : Option ℕ → Option ℕ → Option ℕ
or_else None other = other
or_else (Some i) other = Some i

-- it settles at its host, or somewhere, or waits at its host for another name
unfoldable pub settles_at_host : List ℕ → Line → Bool
settles_at_host name l = has 0 (codes "settle") l.words && is_host l.at name

unfoldable pub settles : Line → Bool
settles l = has 0 (codes "settle") l.words

unfoldable pub waits_at_host : List ℕ → Line → Bool
waits_at_host name l = has 0 (codes "wait") l.words && is_host l.at name

-- Of the lines of these numbers, which are about the name, that which tells what it came to: the first that settles it at its host, where it does; else the first that settles it elsewhere; else the first by which it waits at its host.
unfoldable pub telling : List Line → List ℕ → List ℕ → Option ℕ
telling lines name numbers =
    or_else (first_of (λ i. settles_at_host name (line_at lines i)) numbers)
    (or_else (first_of (λ i. settles (line_at lines i)) numbers)
    (first_of (λ i. waits_at_host name (line_at lines i)) numbers))

-- the name for which it waits by the line of this number, where that is one by which it waits
unfoldable pub awaited_by : List Line → Option ℕ → Option (List ℕ)
awaited_by lines None = None
awaited_by lines (Some i) = if has 0 (codes "wait") (line_at lines i).words then Some (word 2 (line_at lines i).words) else None

-- the name for which a name waits
unfoldable pub awaited : List Line → List ℕ → Option (List ℕ)
awaited lines name = awaited_by lines (telling lines name (life lines name))

-- a name, or for what it waits, over at most so many names
unfoldable pub end_from : ℕ → List Line → List ℕ → List ℕ
end_from zero lines name = name
end_from (suc k) lines name = option_map_or (end_from k lines) (awaited lines name) name

-- the most names over which a row is followed, so that long chains take no more time than short ones
abbrev pub most_followed : ℕ
most_followed = 64

-- a name that did not settle, by the end of what it waits for
unfoldable pub unsettled : List ℕ → List ℕ → List ℕ
unsettled name end = if bytes_eq name end then name ++ codes " is open" else name ++ codes " waits for " ++ end

-- a name by the end of what it waits for, and by the number of the line that tells what that came to
unfoldable pub told : List Line → List ℕ → List ℕ → Option ℕ → List ℕ
told lines name end None = unsettled name end
told lines name end (Some i) =
    if has 0 (codes "wait") (line_at lines i).words then unsettled name end
    else name ++ codes " = " ++ word 2 (line_at lines i).words

abbrev pub told_at_end : List Line → List ℕ → List ℕ → List ℕ
told_at_end lines name end = told lines name end (telling lines end (life lines end))

-- what a name came to, followed to the end of what it waits for
unfoldable pub outcome : List Line → List ℕ → List ℕ
outcome lines name = told_at_end lines name (end_from most_followed lines name)

-- ---- rows

-- what the answer of a message came to, where it has one
unfoldable pub answer : List Line → Words → List ℕ
answer lines ws = if is_act (codes "sendonly") ws then codes "-" else outcome lines (word (length ws - 1) ws)

-- of a line that sends a message
unfoldable pub row : List Line → Line → Row
row lines l = record {
  message = word 2 l.words;
  what = what l.words;
  sent = or_dash l.label;
  carried = or_dash (joined (codes " ") (phrases carry_phrase lines (life lines (word 2 l.words))));
  fate = or_dash (joined (codes ", ") (phrases fate_phrase lines (life lines (word 2 l.words))));
  answer = answer lines l.words;
}

-- a row for each line that sends a message, in order
abbrev pub rows : List Line → List Row
rows lines = map (row lines) (filter (λ l. sends l.words) lines)

-- a row for each root, in the order in which vats open
abbrev pub roots : List Line → Words
roots lines = map (λ l. outcome lines (64 ∷ word 1 l.words)) (filter (λ l. has 0 (codes "open") l.words) lines)
