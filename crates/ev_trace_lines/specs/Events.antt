-- What a line of a run says, by its words. Rule 42 fails where the words are no line, and rule 43 where they say that a frame
-- was put on a link by hand, or that one was malformed.
use Rattle.std.specs.Prelude.{ℕ, ◌+◌, ◌==◌, nat_lt, nat_le, Bool, true, false, not, ◌&&◌, ◌||◌, if◌then◌else◌, List, [], ◌∷◌, take, drop, length, position, unwrap_or, codes, Some, None, option_map, Result, Ok, Err}
use Rattle.std.specs.declared.option.Option.{Option}
use Rattle.std.specs.List.{list_all}
use Rattle.std.specs.Result.{result_ok}
use Rattle.std.specs.Str.{bytes_eq}
use Rattle.ev_base.specs.declared.names.Msg.{Msg}
use Rattle.ev_base.specs.declared.names.Name.{Name}
use Rattle.def_event.specs.declared.shown.Shown.{Shown}
use Rattle.def_event.specs.declared.note.ShownNote.{ShownNote}
use Rattle.def_event.specs.declared.note.ShownNote.TheVariants.{Deliver, DeliverOnly, Settled, Elsewhere, Open as Opens, Ask, Shorten}
use Rattle.def_event.specs.declared.event.Addressed.{Addressed}
use Rattle.def_event.specs.declared.event.MadeObject.{MadeObject}
use Rattle.def_event.specs.declared.event.Event.{Event}
use Rattle.def_event.specs.declared.event.Event.TheVariants.{Open, Turn, Idle, Carry, Cut, Notice, Frame, Take, Call, Back, Thrown, Gone, Got, Slot, Read, Wrote, List as ListMade, Arrived, Ejector, Audition, Promise, Made, Send, SendOnly, When, Done, Threw, Settle, Wait, View, LostCut, LostBroken, LeftQueue, LeftHeld, LeftWait, LeftLink, End, Raw}
use Rattle.def_event.specs.declared.raw.RawLine.TheVariants.{Bytes, LeftBytes}
use Rattle.hex.specs.Hex.{decode_of}
use Rattle.ev_text.specs.Lines.{is_lower_digit}
use Rattle.ev_script.specs.Script.{rule, ◌>>=◌}
use Rattle.ev_script.specs.Vats.{place_of}
use Rattle.ev_trace_lines.specs.declared.acts.Request.{Request}
use Rattle.ev_trace_lines.specs.declared.notes.Delivered.{Delivered}
use Rattle.ev_trace_words.specs.Parts.{activation, count, message, name, numbered}
use Rattle.ev_trace_words.specs.Texts.{object_name, verb}
use Rattle.ev_trace_words.specs.Values.{note_value, note_values, value, values}

abbrev pub Words : Type 0
Words = List (List ℕ)

-- so many words, where there are no others
unfoldable pub two_words : Words → Option (List ℕ × List ℕ)
two_words (a ∷ b ∷ []) = Some (a, b)
two_words _ = None

unfoldable pub three_words : Words → Option (List ℕ × (List ℕ × List ℕ))
three_words (a ∷ b ∷ c ∷ []) = Some (a, (b, c))
three_words _ = None

-- ---- words that stand between values

abbrev pub place_of_word : List ℕ → Words → ℕ
place_of_word word words = unwrap_or (position (λ w. bytes_eq w word) words) (length words)

-- the words before the first such word, and those behind it
abbrev pub before_word : List ℕ → Words → Words
before_word word words = take (place_of_word word words) words

abbrev pub behind_word : List ℕ → Words → Option Words
behind_word word words = if nat_lt (place_of_word word words) (length words) then Some (drop (place_of_word word words + 1) words) else None

-- bytes by their hexadecimal digits, at least one
abbrev pub bytes_of : List ℕ → Result (List ℕ) ℕ
bytes_of word = if nat_lt 0 (length word) && list_all is_lower_digit word then rule 42 (result_ok (decode_of word)) else Err 42

-- ---- lines and parts of lines that name no vat

abbrev pub begun : Option Words → Result (Option ℕ) ℕ
begun None = Ok None
begun (Some (b ∷ [])) = do
  id ← rule 42 (activation b)
  Ok (Some id)
begun (Some _) = Err 42

-- what is asked by a call, and by a send with its message and its answer
abbrev pub call_of : ℕ → Request → Option ℕ → Event
call_of a s b = Call (record { activation = a; target = s.target; verb = s.verb; args = s.args; begun = b })

abbrev pub send_of : ℕ → Msg → Request → Name → Event
send_of a m s answer = Send (record { activation = a; message = m; target = s.target; verb = s.verb; args = s.args; answer = answer })

-- a reaction to a value
abbrev pub when_of : ℕ → Msg → Shown × Shown → Name → Event
when_of a m x answer = When (record { activation = a; message = m; value = x.0; reaction = x.1; answer = answer })

-- what an activation does with a value, and with a var slot and a value
abbrev pub valued : ℕ → List ℕ → Shown → Option Event
valued a word x =
    if bytes_eq word (codes "back") then Some (Back a x)
    else if bytes_eq word (codes "thrown") then Some (Thrown a x)
    else if bytes_eq word (codes "got") then Some (Got a x)
    else if bytes_eq word (codes "ejector") then Some (Ejector a x)
    else if bytes_eq word (codes "audition") then Some (Audition a x)
    else if bytes_eq word (codes "done") then Some (Done a x)
    else if bytes_eq word (codes "threw") then Some (Threw a x)
    else None

abbrev pub slotted : ℕ → List ℕ → ℕ × ℕ → Shown → Option Event
slotted a word slot x =
    if bytes_eq word (codes "slot") then Some (Slot a slot x)
    else if bytes_eq word (codes "read") then Some (Read a slot x)
    else if bytes_eq word (codes "wrote") then Some (Wrote a slot x)
    else None

-- an event of these words alone
abbrev pub alone : Event → Words → Result Event ℕ
alone event [] = Ok event
alone event _ = Err 42

abbrev pub gone : ℕ → Words → Result Event ℕ
gone a words = alone (Gone a) words

abbrev pub idle : ℕ → Words → Result Event ℕ
idle k words = alone (Idle k) words

abbrev pub ended : Words → Result Event ℕ
ended words = alone End words

-- the bytes of a frame that was put by hand, 1 to 4,096 of them, or `cut`
abbrev pub injection : List ℕ → Result Event ℕ
injection word =
    if bytes_eq word (codes "cut") then Err 43
    else bytes_of word >>= (λ bytes. if nat_lt 4096 (length bytes) then Err 42 else Err 43)

-- a frame that was malformed at this place
abbrev pub malformed : Words → Result Event ℕ
malformed (place ∷ []) = rule 42 (count place) >>= (λ n. Err 43)
malformed _ = Err 42

-- the bytes of a frame that no vat judged
abbrev pub raw_bytes : Words → Result (List ℕ) ℕ
raw_bytes (word ∷ []) = bytes_of word
raw_bytes _ = Err 42

abbrev pub frame : Words → Result Event ℕ
frame (word ∷ []) = do
  bytes ← bytes_of word
  Ok (Frame bytes)
frame _ = Err 42

abbrev pub lost_how : Msg → List ℕ → Option Event
lost_how m word =
    if bytes_eq word (codes "cut") then Some (LostCut m)
    else if bytes_eq word (codes "broken") then Some (LostBroken m)
    else None

module _ (names : List (List ℕ)) where
  abbrev pub vat : List ℕ → Result ℕ ℕ
  vat word = rule 42 (place_of names word)

  -- ---- a note

  unfoldable pub delivery_with : Msg → Name → List ℕ → Words → Result Delivered ℕ
  delivery_with id target v args = do
    asked ← verb v
    xs ← note_values names args
    Ok (record { message = id; target = target; verb = asked; args = xs })

  abbrev pub delivery : Words → Result Delivered ℕ
  delivery (m ∷ t ∷ v ∷ args) = do
    id ← rule 42 (message names m)
    target ← rule 42 (name names t)
    delivery_with id target v args
  delivery _ = Err 42

  abbrev pub two_names : Words → Result (Name × Name) ℕ
  two_names words = do
    w ← rule 42 (two_words words)
    first ← rule 42 (name names w.0)
    second ← rule 42 (name names w.1)
    Ok (first, second)

  abbrev pub name_and_vat : Words → Result (Name × ℕ) ℕ
  name_and_vat words = do
    w ← rule 42 (two_words words)
    first ← rule 42 (name names w.0)
    v ← vat w.1
    Ok (first, v)

  abbrev pub settled_note : Words → Result ShownNote ℕ
  settled_note words = do
    w ← rule 42 (two_words words)
    first ← rule 42 (name names w.0)
    x ← note_value names 100 w.1
    Ok (Settled first x)

  -- a delivery, whose message has no answer where it is only delivered
  abbrev pub delivering : Bool → Words → Result ShownNote ℕ
  delivering only words = do
    d ← delivery words
    if only then Ok (DeliverOnly d.message d.target d.verb d.args) else Ok (Deliver d.message d.target d.verb d.args)

  abbrev pub elsewhere : Words → Result ShownNote ℕ
  elsewhere words = name_and_vat words >>= (λ n. Ok (Elsewhere n.0 n.1))

  abbrev pub opening : Words → Result ShownNote ℕ
  opening words = two_names words >>= (λ n. Ok (Opens n.0 n.1))

  abbrev pub asking : Words → Result ShownNote ℕ
  asking words = name_and_vat words >>= (λ n. Ok (Ask n.0 n.1))

  abbrev pub shortening : Words → Result ShownNote ℕ
  shortening words = two_names words >>= (λ n. Ok (Shorten n.0 n.1))

  abbrev pub note_of : List ℕ → Words → Result ShownNote ℕ
  note_of kind rest =
      if bytes_eq kind (codes "deliver") then delivering false rest
      else if bytes_eq kind (codes "deliveronly") then delivering true rest
      else if bytes_eq kind (codes "settled") then settled_note rest
      else if bytes_eq kind (codes "elsewhere") then elsewhere rest
      else if bytes_eq kind (codes "open") then opening rest
      else if bytes_eq kind (codes "ask") then asking rest
      else if bytes_eq kind (codes "shorten") then shortening rest
      else Err 42

  -- an object or a promise, and a value
  abbrev pub name_and_value : Words → Result (Name × Shown) ℕ
  name_and_value words = do
    w ← rule 42 (two_words words)
    first ← rule 42 (name names w.0)
    second ← value names w.1
    Ok (first, second)

  -- ---- what an activation does

  abbrev pub list_and_members : Words → Result ((ℕ × ℕ) × List Shown) ℕ
  list_and_members [] = Err 42
  list_and_members (l ∷ rest) = do
    list ← rule 42 (numbered names 37 l)
    xs ← values names rest
    Ok (list, xs)

  -- what is asked: of whom, by which verb and with which values
  unfoldable pub asked_with : Shown → List ℕ → Words → Result Request ℕ
  asked_with target v args = do
    asked ← verb v
    xs ← values names args
    Ok (record { target = target; verb = asked; args = xs })

  unfoldable pub asked : List ℕ → List ℕ → Words → Result Request ℕ
  asked t v args = do
    target ← value names t
    asked_with target v args

  abbrev pub addressed : ℕ → Words → Result Addressed ℕ
  addressed a (m ∷ t ∷ v ∷ args) = do
    id ← rule 42 (message names m)
    s ← asked t v args
    Ok (record { activation = a; message = id; target = s.target; verb = s.verb; args = s.args })
  addressed a _ = Err 42

  abbrev pub called : ℕ → Words → Result Event ℕ
  called a (t ∷ v ∷ rest) = do
    s ← asked t v (before_word (codes "as") rest)
    b ← begun (behind_word (codes "as") rest)
    Ok (call_of a s b)
  called a _ = Err 42

  -- a word and the values behind it, at least one, or nothing
  abbrev pub some_values : Words → Result (List Shown) ℕ
  some_values [] = Err 42
  some_values (x ∷ rest) = values names (x ∷ rest)

  abbrev pub part_behind : Option Words → Result (List Shown) ℕ
  part_behind None = Ok []
  part_behind (Some words) = some_values words

  abbrev pub captures : Words → Result (List Shown) ℕ
  captures [] = Ok []
  captures (w ∷ rest) = if bytes_eq w (codes "caps") then some_values rest else Err 42

  unfoldable pub made_with : ℕ → Shown → List ℕ → Words → Result MadeObject ℕ
  made_with a object called rest = do
    caps ← captures (before_word (codes "stamps") rest)
    stamps ← part_behind (behind_word (codes "stamps") rest)
    Ok (record { activation = a; object = object; name = called; caps = caps; stamps = stamps })

  abbrev pub made : ℕ → Words → Result Event ℕ
  made a (o ∷ n ∷ rest) = do
    object ← value names o
    called ← object_name n
    m ← made_with a object called rest
    Ok (Made m)
  made a _ = Err 42

  abbrev pub answered : Option Words → Result Name ℕ
  answered (Some (n ∷ [])) = rule 42 (name names n)
  answered _ = Err 42

  abbrev pub sent : ℕ → Words → Result Event ℕ
  sent a (m ∷ t ∷ v ∷ rest) = do
    id ← rule 42 (message names m)
    s ← asked t v (before_word (codes "->") rest)
    answer ← answered (behind_word (codes "->") rest)
    Ok (send_of a id s answer)
  sent a _ = Err 42

  abbrev pub arrow_name : Words → Result Name ℕ
  arrow_name words = do
    w ← rule 42 (two_words words)
    if bytes_eq w.0 (codes "->") then rule 42 (name names w.1) else Err 42

  unfoldable pub two_values : List ℕ → List ℕ → Result (Shown × Shown) ℕ
  two_values x y = do
    first ← value names x
    second ← value names y
    Ok (first, second)

  abbrev pub reacting : ℕ → Words → Result Event ℕ
  reacting a (m ∷ x ∷ o ∷ rest) = do
    id ← rule 42 (message names m)
    both ← two_values x o
    answer ← arrow_name rest
    Ok (when_of a id both answer)
  reacting a _ = Err 42

  -- an act of one value, which may be that of a var slot
  abbrev pub act_on_value : ℕ → List ℕ → Words → Result Event ℕ
  act_on_value a word (x ∷ []) = do
    held ← value names x
    rule 42 (valued a word held)
  act_on_value a word (s ∷ x ∷ []) = do
    slot ← rule 42 (numbered names 38 s)
    held ← value names x
    rule 42 (slotted a word slot held)
  act_on_value a word _ = Err 42

  abbrev pub taken : ℕ → Words → Result Event ℕ
  taken a words = addressed a words >>= (λ m. Ok (Take m))

  abbrev pub sent_only : ℕ → Words → Result Event ℕ
  sent_only a words = addressed a words >>= (λ m. Ok (SendOnly m))

  abbrev pub listed : ℕ → Words → Result Event ℕ
  listed a words = list_and_members words >>= (λ l. Ok (ListMade a l.0 l.1))

  abbrev pub promised : ℕ → Words → Result Event ℕ
  promised a words = name_and_value words >>= (λ p. Ok (Promise a p.0 p.1))

  abbrev pub act_of : ℕ → List ℕ → Words → Result Event ℕ
  act_of a word rest =
      if bytes_eq word (codes "take") then taken a rest
      else if bytes_eq word (codes "call") then called a rest
      else if bytes_eq word (codes "gone") then gone a rest
      else if bytes_eq word (codes "list") then listed a rest
      else if bytes_eq word (codes "promise") then promised a rest
      else if bytes_eq word (codes "made") then made a rest
      else if bytes_eq word (codes "send") then sent a rest
      else if bytes_eq word (codes "sendonly") then sent_only a rest
      else if bytes_eq word (codes "when") then reacting a rest
      else act_on_value a word rest

  abbrev pub act : ℕ → Words → Result Event ℕ
  act a [] = Err 42
  act a (word ∷ rest) = act_of a word rest

  -- ---- an entry

  abbrev pub one_vat : Words → Result ℕ ℕ
  one_vat (v ∷ []) = vat v
  one_vat _ = Err 42

  abbrev pub two_vats : Words → Result (ℕ × ℕ) ℕ
  two_vats words = do
    w ← rule 42 (two_words words)
    from ← vat w.0
    to ← vat w.1
    Ok (from, to)

  abbrev pub inject : Words → Result Event ℕ
  inject words = do
    w ← rule 42 (three_words words)
    from ← vat w.0
    to ← vat w.1.0
    injection w.1.1

  -- what is carried from vat v to vat w: a frame that is malformed or goes to a hostile vat, or a note
  abbrev pub carried_of : ℕ → ℕ → ℕ → List ℕ → Words → Result Event ℕ
  carried_of k v w kind rest =
      if bytes_eq kind (codes "bytes") then raw_bytes rest >>= (λ bytes. Ok (Raw (Bytes k v w bytes)))
      else if bytes_eq kind (codes "malformed") then malformed rest
      else note_of kind rest >>= (λ n. Ok (Carry k v w n))

  abbrev pub carried : ℕ → Words → Result Event ℕ
  carried k (v ∷ w ∷ kind ∷ rest) = do
    from ← vat v
    to ← vat w
    carried_of k from to kind rest
  carried k _ = Err 42

  -- what is left on the link from vat v to vat w: a frame that a hostile vat put, or a note
  abbrev pub left_on : ℕ → ℕ → List ℕ → Words → Result Event ℕ
  left_on v w kind rest =
      if bytes_eq kind (codes "bytes") then raw_bytes rest >>= (λ bytes. Ok (Raw (LeftBytes v w bytes)))
      else note_of kind rest >>= (λ n. Ok (LeftLink v w n))

  abbrev pub left_link : Words → Result Event ℕ
  left_link (v ∷ w ∷ kind ∷ rest) = do
    from ← vat v
    to ← vat w
    left_on from to kind rest
  left_link _ = Err 42

  abbrev pub turn : ℕ → Words → Result Event ℕ
  turn k words = one_vat words >>= (λ v. Ok (Turn k v))

  abbrev pub cut : ℕ → Words → Result Event ℕ
  cut k words = two_vats words >>= (λ p. Ok (Cut k p.0 p.1))

  abbrev pub noticed : ℕ → Words → Result Event ℕ
  noticed k words = two_vats words >>= (λ p. Ok (Notice k p.0 p.1))

  abbrev pub entry_of : ℕ → List ℕ → Words → Result Event ℕ
  entry_of k word rest =
      if bytes_eq word (codes "turn") then turn k rest
      else if bytes_eq word (codes "idle") then idle k rest
      else if bytes_eq word (codes "carry") then carried k rest
      else if bytes_eq word (codes "cut") then cut k rest
      else if bytes_eq word (codes "notice") then noticed k rest
      else if bytes_eq word (codes "inject") then inject rest
      else Err 42

  abbrev pub entry : ℕ → Words → Result Event ℕ
  entry k [] = Err 42
  entry k (word ∷ rest) = entry_of k word rest

  -- ---- what is left, and other lines

  abbrev pub lost : Words → Result Event ℕ
  lost words = do
    w ← rule 42 (two_words words)
    id ← rule 42 (message names w.0)
    rule 42 (lost_how id w.1)

  abbrev pub left_queue : Words → Result Event ℕ
  left_queue words = do
    w ← rule 42 (two_words words)
    host ← vat w.0
    id ← rule 42 (message names w.1)
    Ok (LeftQueue host id)

  abbrev pub left_held : Words → Result Event ℕ
  left_held words = do
    w ← rule 42 (three_words words)
    host ← vat w.0
    promise ← rule 42 (name names w.1.0)
    id ← rule 42 (message names w.1.1)
    Ok (LeftHeld host promise id)

  abbrev pub left_wait : Words → Result Event ℕ
  left_wait words = do
    w ← rule 42 (three_words words)
    host ← vat w.0
    awaited ← value names w.1.0
    id ← rule 42 (message names w.1.1)
    Ok (LeftWait host awaited id)

  abbrev pub left_of : List ℕ → Words → Result Event ℕ
  left_of word rest =
      if bytes_eq word (codes "queue") then left_queue rest
      else if bytes_eq word (codes "held") then left_held rest
      else if bytes_eq word (codes "wait") then left_wait rest
      else if bytes_eq word (codes "link") then left_link rest
      else Err 42

  abbrev pub left : Words → Result Event ℕ
  left [] = Err 42
  left (word ∷ rest) = left_of word rest

  abbrev pub opened : Words → Result Event ℕ
  opened words = one_vat words >>= (λ v. Ok (Open v))

  abbrev pub arrived : Words → Result Event ℕ
  arrived words = list_and_members words >>= (λ l. Ok (Arrived l.0 l.1))

  abbrev pub settled : Words → Result Event ℕ
  settled words = name_and_value words >>= (λ p. Ok (Settle p.0 p.1))

  abbrev pub waiting : Words → Result Event ℕ
  waiting words = two_names words >>= (λ n. Ok (Wait n.0 n.1))

  abbrev pub viewed : Words → Result Event ℕ
  viewed words = two_names words >>= (λ n. Ok (View n.0 n.1))

  abbrev pub other_line : List ℕ → Words → Result Event ℕ
  other_line word rest =
      if bytes_eq word (codes "open") then opened rest
      else if bytes_eq word (codes "frame") then frame rest
      else if bytes_eq word (codes "list") then arrived rest
      else if bytes_eq word (codes "settle") then settled rest
      else if bytes_eq word (codes "wait") then waiting rest
      else if bytes_eq word (codes "view") then viewed rest
      else if bytes_eq word (codes "lost") then lost rest
      else if bytes_eq word (codes "left") then left rest
      else if bytes_eq word (codes "end") then ended rest
      else Err 42

  -- ---- a line: an activation's, an entry, or another

  abbrev pub unnumbered : List ℕ → Option ℕ → Words → Result Event ℕ
  unnumbered word None rest = other_line word rest
  unnumbered word (Some k) rest = entry k rest

  abbrev pub line_by : List ℕ → Option ℕ → Words → Result Event ℕ
  line_by word None rest = unnumbered word (count word) rest
  line_by word (Some a) rest = act a rest

  -- what a line says, by its words
  abbrev pub event_of : Words → Result Event ℕ
  event_of [] = Err 42
  event_of (word ∷ rest) = line_by word (activation word) rest
