-- Reading a form, character by character: which character may come next, and the tree that is read. Nodes are numbered in
-- the order in which their forms begin.
use Rattle.std.specs.Prelude.{ℕ, zero, suc, ◌+◌, ◌-◌, ◌^◌, ◌==◌, nat_lt, nat_le, Bool, true, false, not, ◌&&◌, ◌||◌, if◌then◌else◌, List, [], ◌∷◌, ◌++◌, length, slice_get, slice_set, codes, Option, Some, None, option_map, option_and_then, is_some, int_le, negsuc, ◌-ℤ◌, ◌+ℤ◌, ◌*ℤ◌, Result, Ok, Err, bytes_eq, ℤ, pos}
use Rattle.std.specs.List.{find, list_any, starts_with}
use Rattle.std.specs.Str.{chars as characters}
use Rattle.std.specs.Char.{encode_utf8 as encoded}
use Rattle.def_text.specs.Keywords.{is_identifier, begins_identifier, continues_identifier}
use Rattle.def_kernel.specs.declared.node.Literal.{Literal}
use Rattle.def_kernel.specs.declared.node.Literal.TheVariants.{Int, Char, Text}
use Rattle.def_kernel.specs.declared.node.Node.{Node}
use Rattle.def_kernel.specs.declared.node.Node.TheVariants as node
use Rattle.def_kernel.specs.declared.reader.Item.{Item}
use Rattle.def_kernel.specs.declared.reader.Item.TheVariants.{Node as ANode, Nodes as ANodes, Word as AWord, Literal as ALit}
use Rattle.def_kernel.specs.declared.reader.Frame.{Frame}
use Rattle.def_kernel.specs.declared.reader.Place.{Place}
use Rattle.def_kernel.specs.declared.reader.Place.TheVariants.{First, Second, Third, Low, High}
use Rattle.def_kernel.specs.declared.reader.Digit.{Digit}
use Rattle.def_kernel.specs.declared.reader.Digit.TheVariants.{More, Made}
use Rattle.def_kernel.specs.declared.reader.Mode.{Mode}
use Rattle.def_kernel.specs.declared.reader.Mode.TheVariants.{Opening as opening, Heading as heading, Behind as behind, Before as before, Grouping as grouping, Exiting as exiting, Bare as bare, Negative as negative, Digits as digits, Text as text, TextEscape as text_escape, TextNumber as text_number, Character as character, CharacterEscape as character_escape, CharacterNumber as character_number, CharacterEnd as character_end, Whole as whole}
use Rattle.def_kernel.specs.declared.reader.State.{State}
use Rattle.def_kernel.specs.declared.shape.Kind.{Kind}
use Rattle.def_kernel.specs.declared.shape.Kind.TheVariants.{Expression, Pattern, Member, Naming}
use Rattle.def_kernel.specs.declared.shape.Want.{Want}
use Rattle.def_kernel.specs.declared.shape.Want.TheVariants.{Tree, Group as Grouped, Name, Verb, Literal as ALiteral}
use Rattle.def_kernel.specs.declared.shape.Tail.{Tail}
use Rattle.def_kernel.specs.declared.shape.Tail.TheVariants.{Nothing, Many, Guard, Caught}
use Rattle.def_kernel.specs.declared.shape.Head.{Head}
use Rattle.def_kernel.specs.declared.shape.Head.TheVariants.{Lit, Noun, Set, Def, DefExit, Call, Seq, If, Escape, Try, Finally, Hide, Match, Object, Method, Matcher, Final, Var, Any, List as ListHead, Via, FinalName, NoName, Group}

-- the words with which a tree may begin, and the shape of each
abbrev pub heads : Kind → List (List ℕ × Head)
heads Expression =
    (codes "lit", Lit) ∷ (codes "noun", Noun) ∷ (codes "set", Set) ∷ (codes "def", Def) ∷ (codes "call", Call) ∷ (codes "seq", Seq)
    ∷ (codes "if", If) ∷ (codes "escape", Escape) ∷ (codes "try", Try) ∷ (codes "finally", Finally) ∷ (codes "hide", Hide)
    ∷ (codes "match", Match) ∷ (codes "object", Object) ∷ []
heads Pattern = (codes "final", Final) ∷ (codes "var", Var) ∷ (codes "any", Any) ∷ (codes "list", ListHead) ∷ (codes "via", Via) ∷ []
heads Member = (codes "method", Method) ∷ (codes "matcher", Matcher) ∷ []
heads Naming = (codes "final", FinalName) ∷ (codes "any", NoName) ∷ []

abbrev expression : Want
expression = Tree Expression

abbrev pattern : Want
pattern = Tree Pattern

-- what must stand behind the word, in order
abbrev pub fixed : Head → List Want
fixed Lit = ALiteral ∷ []
fixed Noun = Name ∷ []
fixed Set = Name ∷ expression ∷ []
fixed Def = pattern ∷ expression ∷ []
fixed DefExit = pattern ∷ expression ∷ expression ∷ []
fixed Call = expression ∷ Verb ∷ []
fixed Seq = expression ∷ []
fixed If = expression ∷ expression ∷ expression ∷ []
fixed Escape = pattern ∷ expression ∷ []
fixed Try = expression ∷ pattern ∷ expression ∷ []
fixed Finally = expression ∷ expression ∷ []
fixed Hide = expression ∷ []
fixed Match = expression ∷ pattern ∷ []
fixed Object = Tree Naming ∷ Grouped Expression ∷ []
fixed Method = Verb ∷ Grouped Pattern ∷ expression ∷ []
fixed Matcher = pattern ∷ expression ∷ []
fixed Final = Name ∷ []
fixed Var = Name ∷ []
fixed Any = []
fixed ListHead = []
fixed Via = expression ∷ pattern ∷ []
fixed FinalName = Name ∷ []
fixed NoName = []
fixed (Group kind) = []

-- what may stand behind that
abbrev pub tail : Head → Tail
tail Call = Many Expression
tail Seq = Many Expression
tail Escape = Caught
tail Object = Many Member
tail Final = Guard
tail Var = Guard
tail Any = Guard
tail ListHead = Many Pattern
tail (Group kind) = Many kind
tail _ = Nothing

-- what may stand behind so many items of the tail
abbrev pub more : Tail → ℕ → Option Want
more Nothing n = None
more (Many kind) n = Some (Tree kind)
more Guard zero = Some expression
more Guard (suc n) = None
more Caught zero = Some pattern
more Caught (suc zero) = Some expression
more Caught (suc (suc n)) = None

-- what may stand behind so many items
abbrev pub wanted : Head → ℕ → Option Want
wanted head n = if nat_lt n (length (fixed head)) then slice_get (fixed head) n else more (tail head) (n - length (fixed head))

-- so many items of the tail are all
abbrev pub tail_ends : Tail → ℕ → Bool
tail_ends Caught n = not (n == 1)
tail_ends _ n = true

-- so many items are all that the shape wants
abbrev pub ends : Head → ℕ → Bool
ends head n = nat_le (length (fixed head)) n && tail_ends (tail head) (n - length (fixed head))

-- the numbers of items that are nodes
abbrev pub numbers : List Item → List ℕ
numbers [] = []
numbers (ANode n ∷ items) = n ∷ numbers items
numbers (_ ∷ items) = numbers items

-- a node of these items; where they do not fit the shape this one stands for none
abbrev pub no_node : Node
no_node = node.Hide 0

-- the first item and the others, where it is a node, a group, a word or a literal
abbrev pub taken_node : List Item → Option (ℕ × List Item)
taken_node (ANode n ∷ items) = Some (n, items)
taken_node _ = None

abbrev pub taken_nodes : List Item → Option (List ℕ × List Item)
taken_nodes (ANodes ns ∷ items) = Some (ns, items)
taken_nodes _ = None

abbrev pub taken_word : List Item → Option (List ℕ × List Item)
taken_word (AWord w ∷ items) = Some (w, items)
taken_word _ = None

abbrev pub taken_literal : List Item → Option (Literal × List Item)
taken_literal (ALit l ∷ items) = Some (l, items)
taken_literal _ = None

-- a node of what was taken, where it was there
abbrev pub with_taken : {A : Type 0} → (A → List Item → Node) → Option (A × List Item) → Node
with_taken f None = no_node
with_taken f (Some taken) = f taken.0 taken.1

abbrev with_node : (ℕ → List Item → Node) → List Item → Node
with_node f items = with_taken f (taken_node items)

abbrev with_nodes : (List ℕ → List Item → Node) → List Item → Node
with_nodes f items = with_taken f (taken_nodes items)

abbrev with_word : (List ℕ → List Item → Node) → List Item → Node
with_word f items = with_taken f (taken_word items)

abbrev with_literal : (Literal → List Item → Node) → List Item → Node
with_literal f items = with_taken f (taken_literal items)

-- the first item, where it is a node
abbrev pub first_node : List Item → Option ℕ
first_node items = option_map (λ taken. taken.0) (taken_node items)

-- the first two
abbrev pub first_nodes : List Item → Option (ℕ × ℕ)
first_nodes items = option_and_then (λ taken. option_map (λ n. (taken.0, n)) (first_node taken.1)) (taken_node items)

-- the node of a shape with these items
abbrev pub node_of : Head → List Item → Node
node_of Lit = with_literal (λ l _. node.Lit l)
node_of Noun = with_word (λ w _. node.Noun w)
node_of Set = with_word (λ w. with_node (λ e _. node.Set w e))
node_of Def = with_node (λ p. with_node (λ e _. node.Def p None e))
node_of DefExit = with_node (λ p. with_node (λ j. with_node (λ e _. node.Def p (Some j) e)))
node_of Call = with_node (λ r. with_word (λ verb args. node.Call r verb (numbers args)))
node_of Seq = λ items. node.Sequence (numbers items)
node_of If = with_node (λ a. with_node (λ b. with_node (λ c _. node.If a b c)))
node_of Escape = with_node (λ p. with_node (λ b rest. node.Escape p b (first_nodes rest)))
node_of Try = with_node (λ b. with_node (λ p. with_node (λ h _. node.Try b p h)))
node_of Finally = with_node (λ b. with_node (λ a _. node.Finally b a))
node_of Hide = with_node (λ b _. node.Hide b)
node_of Match = with_node (λ e. with_node (λ p _. node.MatchBind e p))
node_of Object = with_node (λ p. with_nodes (λ auditors members. node.Object p auditors (numbers members)))
node_of Method = with_word (λ verb. with_nodes (λ patterns. with_node (λ b _. node.Method verb patterns b)))
node_of Matcher = with_node (λ p. with_node (λ b _. node.Matcher p b))
node_of Final = with_word (λ w rest. node.Final w (first_node rest))
node_of Var = with_word (λ w rest. node.Var w (first_node rest))
node_of Any = λ rest. node.Any (first_node rest)
node_of ListHead = λ items. node.ListPattern (numbers items)
node_of Via = with_node (λ e. with_node (λ p _. node.Via e p))
node_of FinalName = with_word (λ w _. node.Final w None)
node_of NoName = λ _. node.Any None
node_of (Group kind) = λ _. no_node

-- what may come next in the innermost form
abbrev pub next_wanted : List Frame → Option Want
next_wanted frames = option_and_then (λ frame. wanted frame.head (length frame.items)) (slice_get frames 0)

abbrev frame_ends : Option Frame → Bool
frame_ends None = false
frame_ends (Some frame) = ends frame.head (length frame.items)

abbrev pub innermost_ends : List Frame → Bool
innermost_ends frames = frame_ends (slice_get frames 0)

-- behind its pattern a definition may have an ejector
abbrev pub takes_exit : Head → ℕ → Bool
takes_exit Def n = n == 1
takes_exit _ n = false

abbrev frame_takes_exit : Option Frame → Bool
frame_takes_exit None = false
frame_takes_exit (Some frame) = takes_exit frame.head (length frame.items)

abbrev pub may_exit : List Frame → Bool
may_exit frames = frame_takes_exit (slice_get frames 0)

abbrev pub with_exit : List Frame → List Frame
with_exit [] = []
with_exit (frame ∷ frames) = record frame { head = DefExit } ∷ frames

-- the state in which reading goes on
abbrev go : List Frame → List Node → Mode → Option State
go frames nodes mode = Some (record { frames = frames; nodes = nodes; mode = mode })

-- an item was read
abbrev pub add_item : Item → List Frame → List Frame
add_item item [] = []
add_item item (frame ∷ frames) = record frame { items = frame.items ++ item ∷ [] } ∷ frames

-- a form begins, whose node has the next number; a group has no node
abbrev pub begin : Head → State → State
begin (Group kind) s = record s { frames = record { number = 0; head = Group kind; items = [] } ∷ s.frames; mode = grouping }
begin head s = record {
  frames = record { number = length s.nodes; head = head; items = [] } ∷ s.frames;
  nodes = s.nodes ++ no_node ∷ [];
  mode = behind;
}

-- the bracket of the innermost form is closed: its node is made, and it is an item of the form round it
abbrev pub close_in : List Frame → Item → List Node → Option State
close_in [] item nodes = go [] nodes whole
close_in (frame ∷ frames) item nodes = go (add_item item (frame ∷ frames)) nodes behind

abbrev pub close_frame : Head → ℕ → List Item → List Frame → List Node → Option State
close_frame (Group kind) number items frames nodes = close_in frames (ANodes (numbers items)) nodes
close_frame head number items frames nodes = close_in frames (ANode number) (slice_set nodes number (node_of head items))

abbrev pub close : State → Option State
close s = elim (innermost_ends s.frames) [
  | true ↦ elim s.frames [
    | [] ↦ None
    | frame ∷ frames ↦ close_frame frame.head frame.number frame.items frames s.nodes
  ]
  | false ↦ None
]

-- behind an item
abbrev pub step_behind : ℕ → State → Option State
step_behind c s = elim (c == 41) [
  | true ↦ close s
  | false ↦ elim ((c == 32) && (is_some (next_wanted s.frames) || may_exit s.frames)) [
    | true ↦ Some (record s { mode = before })
    | false ↦ None
  ]
]

-- the item ends before this character
abbrev pub item_ends : Item → ℕ → State → Option State
item_ends item c s = step_behind c (record s { frames = add_item item s.frames })

-- a bracket opens a tree or a group where one is wanted
abbrev pub open_wanted : Option Want → State → Option State
open_wanted (Some (Tree kind)) s = Some (record s { mode = heading kind [] })
open_wanted (Some (Grouped kind)) s = Some (begin (Group kind) s)
open_wanted _ s = None

abbrev pub is_digit : ℕ → Bool
is_digit c = nat_le 48 c && nat_le c 57

-- the first character of a literal
abbrev pub literal_begins : ℕ → Option Mode
literal_begins c =
    if c == 34 then Some (text false [])
    else if c == 39 then Some character
    else if c == 45 then Some negative
    else if is_digit c then Some (digits false (pos (c - 48)))
    else None

-- the first character of an item that is no bracket
abbrev pub item_begins : Want → ℕ → Option Mode
item_begins Name c = if begins_identifier c then Some (bare (encoded c)) else None
item_begins Verb c = if c == 34 then Some (text true []) else if begins_identifier c then Some (bare (encoded c)) else None
item_begins ALiteral c = literal_begins c
item_begins _ c = None

abbrev pub begin_wanted : Option Want → ℕ → State → Option State
begin_wanted None c s = None
begin_wanted (Some want) c s = option_map (λ mode. record s { mode = mode }) (item_begins want c)

-- behind a space
abbrev pub step_before : ℕ → State → Option State
step_before c s = elim (c == 40) [
  | true ↦ open_wanted (next_wanted s.frames) s
  | false ↦ elim ((c == 101) && may_exit s.frames) [
    | true ↦ Some (record s { mode = exiting (101 ∷ []) })
    | false ↦ begin_wanted (next_wanted s.frames) c s
  ]
]

-- the shape of a word
abbrev pub head_of : List (List ℕ × Head) → List ℕ → Option Head
head_of entries w = option_map (λ entry. entry.1) (find (λ entry. bytes_eq w entry.0) entries)

-- a word among these begins so
abbrev pub is_front_in : List (List ℕ × Head) → List ℕ → Bool
is_front_in entries w = list_any (λ entry. starts_with (λ a b. a == b) entry.0 w) entries

abbrev pub is_front_of_head : List ℕ → Kind → Bool
is_front_of_head w kind = is_front_in (heads kind) w

abbrev pub ends_word : ℕ → Bool
ends_word c = (c == 32) || (c == 41)

abbrev pub begin_head : Option Head → ℕ → State → Option State
begin_head None c s = None
begin_head (Some head) c s = step_behind c (begin head s)

abbrev pub step_heading : Kind → List ℕ → ℕ → State → Option State
step_heading kind w c s = elim (ends_word c) [
  | true ↦ begin_head (head_of (heads kind) w) c s
  | false ↦ elim (is_front_of_head (w ++ encoded c) kind) [
    | true ↦ Some (record s { mode = heading kind (w ++ encoded c) })
    | false ↦ None
  ]
]

abbrev pub step_exiting : List ℕ → ℕ → State → Option State
step_exiting w c s = elim ((c == 32) && bytes_eq w (codes "exit")) [
  | true ↦ Some (record s { frames = with_exit s.frames; mode = before })
  | false ↦ elim (starts_with (λ a b. a == b) (codes "exit") (w ++ encoded c)) [
    | true ↦ Some (record s { mode = exiting (w ++ encoded c) })
    | false ↦ None
  ]
]

abbrev pub step_bare : List ℕ → ℕ → State → Option State
step_bare w c s = elim (ends_word c) [
  | true ↦ elim (is_identifier w) [ true ↦ item_ends (AWord w) c s | false ↦ None ]
  | false ↦ elim (continues_identifier c) [ true ↦ Some (record s { mode = bare (w ++ encoded c) }) | false ↦ None ]
]

-- the integer with one more digit, where 128 bits hold it
abbrev pub fits : ℤ → Option ℤ
fits z = if int_le (negsuc (2 ^ 127 - 1)) z && int_le z (pos (2 ^ 127 - 1)) then Some z else None

abbrev pub with_digit : Bool → ℕ → ℤ → Option ℤ
with_digit true d z = option_and_then (λ tens. fits (tens -ℤ pos d)) (fits (z *ℤ pos 10))
with_digit false d z = option_and_then (λ tens. fits (tens +ℤ pos d)) (fits (z *ℤ pos 10))

-- a zero stands alone
abbrev pub is_zero : ℤ → Bool
is_zero (pos n) = n == 0
is_zero (negsuc n) = false

abbrev pub more_digits : Bool → Option ℤ → State → Option State
more_digits minus None s = None
more_digits minus (Some z) s = Some (record s { mode = digits minus z })

abbrev pub step_digits : Bool → ℤ → ℕ → State → Option State
step_digits minus z c s = elim (is_digit c) [
  | true ↦ elim (is_zero z) [ true ↦ None | false ↦ more_digits minus (with_digit minus (c - 48) z) s ]
  | false ↦ item_ends (ALit (Int z)) c s
]

abbrev pub step_negative : ℕ → State → Option State
step_negative c s = elim (is_digit c && not (c == 48)) [
  | true ↦ Some (record s { mode = digits true (pos 0 -ℤ pos (c - 48)) })
  | false ↦ None
]

-- the item that a text is
abbrev pub text_item : Bool → List ℕ → Item
text_item true w = AWord w
text_item false w = ALit (Text w)

-- a verb that is an identifier stands bare
abbrev pub may_end_text : Bool → List ℕ → Bool
may_end_text verb w = not (verb && is_identifier w)

abbrev pub step_text : Bool → List ℕ → ℕ → State → Option State
step_text verb w c s = elim (c == 34) [
  | true ↦ elim (may_end_text verb w) [
    | true ↦ Some (record s { frames = add_item (text_item verb w) s.frames; mode = behind })
    | false ↦ None
  ]
  | false ↦ elim (c == 92) [
    | true ↦ Some (record s { mode = text_escape verb w })
    | false ↦ elim (nat_lt c 32) [ true ↦ None | false ↦ Some (record s { mode = text verb (w ++ encoded c) }) ]
  ]
]

-- the character of an escape of one letter; `'` has one between `'` alone
abbrev pub letter_escape : ℕ → Option ℕ
letter_escape c =
    if c == 110 then Some 10
    else if c == 116 then Some 9
    else if c == 114 then Some 13
    else if c == 92 then Some 92
    else if c == 34 then Some 34
    else None

abbrev pub step_text_escape : Bool → List ℕ → ℕ → State → Option State
step_text_escape verb w c s = elim (c == 117) [
  | true ↦ Some (record s { mode = text_number verb w First })
  | false ↦ option_map (λ e. record s { mode = text verb (w ++ encoded e) }) (letter_escape c)
]

-- the value of a hexadecimal digit of a small letter
abbrev pub hexadecimal : ℕ → Option ℕ
hexadecimal c = if is_digit c then Some (c - 48) else if nat_le 97 c && nat_le c 102 then Some (c - 87) else None

-- a control character below 16 that has no letter
abbrev pub low_control : ℕ → Option Digit
low_control d = if (d == 9) || (d == 10) || (d == 13) then None else Some (Made d)

-- a digit behind `\u`: two zeros, then 0 or 1, then a digit that makes the number of a control character without a letter
abbrev pub number_digit : Place → ℕ → Option Digit
number_digit First c = if c == 48 then Some (More Second) else None
number_digit Second c = if c == 48 then Some (More Third) else None
number_digit Third c = if c == 48 then Some (More Low) else if c == 49 then Some (More High) else None
number_digit Low c = option_and_then low_control (hexadecimal c)
number_digit High c = option_map (λ d. Made (16 + d)) (hexadecimal c)

abbrev pub text_digit : Bool → List ℕ → Digit → Mode
text_digit verb w (More place) = text_number verb w place
text_digit verb w (Made e) = text verb (w ++ encoded e)

abbrev pub step_character : ℕ → State → Option State
step_character c s = elim (c == 92) [
  | true ↦ Some (record s { mode = character_escape })
  | false ↦ elim ((c == 39) || (c == 34) || nat_lt c 32) [ true ↦ None | false ↦ Some (record s { mode = character_end c }) ]
]

abbrev pub character_letter : ℕ → Option ℕ
character_letter c = if c == 39 then Some 39 else letter_escape c

abbrev pub step_character_escape : ℕ → State → Option State
step_character_escape c s = elim (c == 117) [
  | true ↦ Some (record s { mode = character_number First })
  | false ↦ option_map (λ e. record s { mode = character_end e }) (character_letter c)
]

abbrev pub character_digit : Digit → Mode
character_digit (More place) = character_number place
character_digit (Made e) = character_end e

abbrev pub step_character_end : ℕ → ℕ → State → Option State
step_character_end e c s =
    if c == 39 then Some (record s { frames = add_item (ALit (Char e)) s.frames; mode = behind }) else None

-- behind the bracket of a group
abbrev pub step_grouping : ℕ → State → Option State
step_grouping c s = elim (c == 41) [ true ↦ close s | false ↦ step_before c s ]

-- the state behind a character, where some form goes on with it
abbrev pub step_in : Mode → ℕ → State → Option State
step_in (opening kind) c s = if c == 40 then Some (record s { mode = heading kind [] }) else None
step_in (heading kind w) c s = step_heading kind w c s
step_in behind c s = step_behind c s
step_in before c s = step_before c s
step_in grouping c s = step_grouping c s
step_in (exiting w) c s = step_exiting w c s
step_in (bare w) c s = step_bare w c s
step_in negative c s = step_negative c s
step_in (digits minus z) c s = step_digits minus z c s
step_in (text verb w) c s = step_text verb w c s
step_in (text_escape verb w) c s = step_text_escape verb w c s
step_in (text_number verb w place) c s = option_map (λ digit. record s { mode = text_digit verb w digit }) (number_digit place c)
step_in character c s = step_character c s
step_in character_escape c s = step_character_escape c s
step_in (character_number place) c s = option_map (λ digit. record s { mode = character_digit digit }) (number_digit place c)
step_in (character_end e) c s = step_character_end e c s
step_in whole c s = None

abbrev pub step : ℕ → State → Option State
step c s = step_in s.mode c (record s { mode = whole })

abbrev pub started : State
started = record { frames = []; nodes = []; mode = opening Expression }

-- the tree, or the end of the text where it is no form yet
abbrev pub finished : Mode → ℕ → List Node → Result (List Node) ℕ
finished whole place nodes = Ok nodes
finished _ place nodes = Err place

-- The tree of a text from this state on, or the place of the first character with which no form goes on. The characters
-- begin at this place.
abbrev pub read_on : List ℕ → ℕ → State → Result (List Node) ℕ
read_on [] place s = finished s.mode place s.nodes
read_on (c ∷ cs) place s = elim (step c s) [ None ↦ Err place | Some next ↦ read_on cs (place + length (encoded c)) next ]

abbrev pub read : List ℕ → Result (List Node) ℕ
read form = read_on (characters form) 0 started

unfoldable pub opened_reading : Unit {0}
unfolding characters encoded
opened_reading = tt
