-- What the text of a run says, and the first rule that a text breaks which is none: 41 where the bytes are not UTF-8; 42 where
-- a line is none, or the text does not end with `end` or the line of a stop, or more than 16 vats are named; 43 where a line
-- says that a frame was put on a link by hand, or that one was malformed.
use Rattle.std.specs.Prelude.{ℕ, ◌-◌, ◌==◌, Bool, true, false, ◌&&◌, ◌||◌, if◌then◌else◌, List, [], ◌∷◌, length, map, take, codes, slice_get, is_some, Some, None, Result, Ok, Err}
use Rattle.std.specs.declared.option.Option.{Option}
use Rattle.std.specs.List.{list_all}
use Rattle.std.specs.Path.{rsplit_once}
use Rattle.std.specs.Str.{bytes_eq, chars, is_utf8}
use Rattle.def_event.specs.declared.event.Event.{Event}
use Rattle.def_event.specs.Lines.{opened_lines}
use Rattle.def_event.specs.declared.trace.Trace.{Trace}
use Rattle.ev_text.specs.Lines.{lines, text_of}
use Rattle.ev_script.specs.Script.{rule, ◌>>=◌}
use Rattle.ev_text.specs.Unquoting.{text_behind}
use Rattle.ev_trace_words.specs.Words.{words_from, words_of}
use Rattle.ev_trace_words.specs.Parts.{count}
use Rattle.ev_trace_words.specs.Values.{all_of}
use Rattle.ev_trace_lines.specs.Events.{Words, event_of}
use Rattle.ev_trace.specs.Naming.{few, names_in, scan, with_names}

-- ---- the last line

-- `fuel` or `depth` and a step, or `word` and two numbers of words
abbrev pub is_reason : Words → Bool
is_reason (kind ∷ step ∷ []) = (bytes_eq kind (codes "fuel") || bytes_eq kind (codes "depth")) && is_some (count step)
is_reason (kind ∷ first ∷ second ∷ []) = bytes_eq kind (codes "word") && is_some (count first) && is_some (count second)
is_reason _ = false

abbrev pub is_stop : Words → Bool
is_stop [] = false
is_stop (word ∷ rest) = bytes_eq word (codes "stop") && is_reason rest

abbrev pub is_end : Words → Bool
is_end (word ∷ []) = bytes_eq word (codes "end")
is_end _ = false

-- ---- the events

-- a line of rule 43 is a line, and tells no event
abbrev pub kept : Result Event ℕ → Result (Option Event) ℕ
kept (Ok event) = Ok (Some event)
kept (Err r) = if r == 43 then Ok None else Err r

abbrev pub somes : List (Option Event) → List Event
somes [] = []
somes (None ∷ found) = somes found
somes (Some event ∷ found) = event ∷ somes found

abbrev pub told : List (Option Event) → Result (List Event) ℕ
told found = if list_all is_some found then Ok (somes found) else Err 43

abbrev pub events_of : List (List ℕ) → List Words → Result (List Event) ℕ
events_of names lines = do
  found ← all_of (λ words. kept (event_of names words)) lines
  told found

-- ---- the whole

abbrev pub trace_of : List Words → Option (List ℕ) → Result Trace ℕ
trace_of lines stop = do
  names ← rule 42 (few (names_in lines))
  events ← events_of names lines
  Ok (record { history = events; names = names; stop = stop })

-- the last line is `end` or the line of a stop, which tells no event
abbrev pub read_by : List (List ℕ) → Option (List ℕ) → Result Trace ℕ
read_by lines None = Err 42
read_by lines (Some last) =
    if is_stop (words_of last) then trace_of (map words_of (take (length lines - 1) lines)) (Some last)
    else if is_end (words_of last) then trace_of (map words_of lines) None
    else Err 42

abbrev pub read_lines : List (List ℕ) → Result Trace ℕ
read_lines lines = read_by lines (slice_get lines (length lines - 1))

abbrev pub read_text : List ℕ → Result Trace ℕ
read_text text = do
  found ← rule 42 (lines text)
  read_lines found

-- what bytes say that are the text of a run
abbrev pub read : List ℕ → Result Trace ℕ
read bytes = do
  text ← rule 41 (text_of bytes)
  read_text text

-- opens the definitions of this crate that do not open by themselves, and what they stand on
unfoldable pub opened_reading : Unit {0}
unfolding words_from scan with_names text_behind chars is_utf8 rsplit_once opened_lines
opened_reading = tt
