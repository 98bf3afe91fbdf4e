-- What was read so far, as text, in terms of the nodes of its end.
use Rattle.std.proofs.Common.{◌≡◌, ℕ, cond, eqb, Bool, true, false, ℤ, pos, negsuc, List, [], ◌∷◌, ◌++◌, length, map, refl, sym, ◌∙◌, ap, append_assoc}
use Rattle.std.specs.Prelude.{codes}
use Rattle.std.specs.List.{flat_map}
use Rattle.std.specs.Fmt.{signed_decimal}
use Rattle.std.proofs.lemmas.List.{append-nil, map-append}
use Rattle.std.proofs.lemmas.Grind.{flat_map-append}
use Rattle.def_text.specs.Quoting.{escaped, escaped_character}
use Rattle.def_text.specs.Keywords.{printed_verb}
use Rattle.def_kernel.specs.declared.node.Node.{Node}
use Rattle.def_kernel.specs.declared.reader.Item.{Item}
use Rattle.def_kernel.specs.declared.reader.Item.TheVariants.{Node as ANode, Nodes as ANodes, Word as AWord, Literal as ALit}
use Rattle.def_kernel.specs.declared.reader.Frame.{Frame}
use Rattle.def_kernel.specs.declared.reader.Place.{Place as Digits}
use Rattle.def_kernel.specs.declared.reader.Place.TheVariants.{First, Second, Third, Low, High}
use Rattle.def_kernel.specs.declared.reader.Mode.{Mode}
use Rattle.def_kernel.specs.declared.reader.Mode.TheVariants.{Heading as heading, Behind as behind, Exiting as exiting, Bare as bare, Negative as negative, Digits as digits, Text as text, TextEscape as text_escape, TextNumber as text_number, Character as character, CharacterEscape as character_escape, CharacterNumber as character_number, CharacterEnd as character_end, Whole as whole}
use Rattle.def_kernel.specs.declared.reader.State.{State}
use Rattle.def_kernel.specs.declared.shape.Head.{Head}
use Rattle.def_kernel.specs.declared.shape.Head.TheVariants as head
use Rattle.def_kernel.specs.Forms.{spaced, enclosed, literal_form, form_within}
use Rattle.law_kernel_form.proofs.Going.{behind_spaces}

-- an item by the forms of the nodes
abbrev pub item_text : (ℕ → List ℕ) → Item → List ℕ
item_text form (ANode n) = form n
item_text form (ANodes starts) = enclosed (map form starts)
item_text form (AWord w) = printed_verb w
item_text form (ALit l) = literal_form l

-- the word of a shape
abbrev pub word : Head → List ℕ
word head.Lit = codes "lit"
word head.Noun = codes "noun"
word head.Set = codes "set"
word head.Call = codes "call"
word head.Seq = codes "seq"
word head.If = codes "if"
word head.Escape = codes "escape"
word head.Try = codes "try"
word head.Finally = codes "finally"
word head.Hide = codes "hide"
word head.Match = codes "match"
word head.Object = codes "object"
word head.Method = codes "method"
word head.Matcher = codes "matcher"
word head.Final = codes "final"
word head.Var = codes "var"
word head.Any = codes "any"
word head.List = codes "list"
word head.Via = codes "via"
word head.FinalName = codes "final"
word head.NoName = codes "any"
word (head.Group kind) = []
word other = codes "def"

-- `exit` stands behind the first item
abbrev pub behind_first : List (List ℕ) → List (List ℕ)
behind_first [] = []
behind_first (w ∷ ws) = w ∷ codes "exit" ∷ ws

-- what stands between the brackets of a form with these items
abbrev pub inner_words : Head → List (List ℕ) → List (List ℕ)
inner_words (head.Group kind) ws = ws
inner_words head.DefExit ws = codes "def" ∷ behind_first ws
inner_words shape ws = word shape ∷ ws

abbrev pub frame_words : (ℕ → List ℕ) → Frame → List (List ℕ)
frame_words form frame = inner_words frame.head (map (item_text form) frame.items)

-- what stands before one more word
abbrev pub gap_behind : List (List ℕ) → List ℕ
gap_behind [] = []
gap_behind (w ∷ ws) = 32 ∷ []

abbrev pub gap : (ℕ → List ℕ) → List Frame → List ℕ
gap form [] = []
gap form (frame ∷ frames) = gap_behind (frame_words form frame)

-- the open forms
abbrev pub open_text : (ℕ → List ℕ) → List Frame → List ℕ
open_text form [] = []
open_text form (frame ∷ frames) = (open_text form frames ++ gap form frames) ++ 40 ∷ spaced (frame_words form frame)

-- and the space before one more item
abbrev pub up_to_item : (ℕ → List ℕ) → List Frame → List ℕ
up_to_item form frames = open_text form frames ++ gap form frames

-- the characters of an escape by its number
abbrev pub place_text : Digits → List ℕ
place_text First = 92 ∷ 117 ∷ []
place_text Second = 92 ∷ 117 ∷ 48 ∷ []
place_text Third = 92 ∷ 117 ∷ 48 ∷ 48 ∷ []
place_text Low = 92 ∷ 117 ∷ 48 ∷ 48 ∷ 48 ∷ []
place_text High = 92 ∷ 117 ∷ 48 ∷ 48 ∷ 49 ∷ []

-- a character between `'`
abbrev pub alone_text : ℕ → List ℕ
alone_text e = cond (eqb e 39) (92 ∷ 39 ∷ []) (escaped_character e)

-- what of an item was read
abbrev pub mode_text : Mode → List ℕ
mode_text (heading kind w) = 40 ∷ w
mode_text (exiting w) = w
mode_text (bare w) = w
mode_text negative = 45 ∷ []
mode_text (digits minus z) = signed_decimal z
mode_text (text verb w) = 34 ∷ flat_map escaped w
mode_text (text_escape verb w) = 34 ∷ (flat_map escaped w ++ 92 ∷ [])
mode_text (text_number verb w place) = 34 ∷ (flat_map escaped w ++ place_text place)
mode_text character = 39 ∷ []
mode_text character_escape = 39 ∷ 92 ∷ []
mode_text (character_number place) = 39 ∷ place_text place
mode_text (character_end e) = 39 ∷ alone_text e
mode_text _ = []

abbrev pub text_at : (ℕ → List ℕ) → List Frame → Mode → List ℕ
text_at form frames behind = open_text form frames
text_at form frames whole = form 0
text_at form frames mode = up_to_item form frames ++ mode_text mode

-- the form of each of the last nodes
abbrev pub last_form : List Node → ℕ → List ℕ
last_form last = form_within (length last) last

abbrev pub read_text : List Node → State → List ℕ
read_text last s = text_at (last_form last) s.frames s.mode

-- an integer that `-` begins, or not
abbrev pub IsSigned : Bool → ℤ → Type 0
IsSigned true (negsuc n) = Unit {0}
IsSigned true (pos n) = ⊥
IsSigned false (pos n) = Unit {0}
IsSigned false (negsuc n) = ⊥

-- one more word
pub spaced_more : (ws : List (List ℕ)) (w : List ℕ) → spaced (ws ++ w ∷ []) ≡ (spaced ws ++ gap_behind ws) ++ w
spaced_more [] w = append-nil w
spaced_more (v ∷ ws) w =
    ap (λ t. v ++ t) (flat_map-append (λ x. 32 ∷ x) ws (w ∷ [])) ∙ sym (append_assoc v (behind_spaces ws) (behind_spaces (w ∷ [])))
    ∙ ap (λ t. (v ++ behind_spaces ws) ++ 32 ∷ t) (append-nil w) ∙ sym (append_assoc (v ++ behind_spaces ws) (32 ∷ []) w)

-- only behind its first item has a definition `exit`
abbrev pub Ready : Head → List Item → Type 0
Ready head.DefExit [] = ⊥
Ready _ _ = Unit {0}

pub ready_more : (shape : Head) (items : List Item) (i : Item) → Ready shape items → Ready shape (items ++ i ∷ [])
ready_more head.DefExit [] i h = absurd h
ready_more shape [] i h = tt
ready_more head.DefExit (x ∷ items) i h = tt
ready_more shape (x ∷ items) i h = tt

words_more : (shape : Head) (ws : List (List ℕ)) (w : List ℕ) → (shape ≡ head.DefExit → ws ≡ [] → ⊥) → inner_words shape (ws ++ w ∷ []) ≡ inner_words shape ws ++ w ∷ []
words_more head.DefExit [] w h = absurd (h refl refl)
words_more head.DefExit (v ∷ ws) w h = refl
words_more shape ws w h = refl

absurd_ready : (shape : Head) → Ready shape [] → shape ≡ head.DefExit → ⊥
absurd_ready head.DefExit ready is = ready
absurd_ready shape ready is = absurd (cc)

not_empty : (form : ℕ → List ℕ) (shape : Head) (items : List Item) → Ready shape items → shape ≡ head.DefExit → map (item_text form) items ≡ [] → ⊥
not_empty form shape [] ready is none = absurd_ready shape ready is
not_empty form shape (i ∷ items) ready is none = absurd (cc)

pub gap_added : (form : ℕ → List ℕ) (shape : Head) (items : List Item) (i : Item) → gap_behind (inner_words shape (map (item_text form) (items ++ i ∷ []))) ≡ 32 ∷ []
gap_added form (head.Group kind) [] i = refl
gap_added form (head.Group kind) (x ∷ items) i = refl
gap_added form shape items i = refl

-- one more item of a form
pub item_added : (form : ℕ → List ℕ) (number : ℕ) (shape : Head) (items : List Item) (frames : List Frame) (i : Item) → Ready shape items
    → open_text form (record { number = number; head = shape; items = items ++ i ∷ [] } ∷ frames)
    ≡ up_to_item form (record { number = number; head = shape; items = items } ∷ frames) ++ item_text form i
item_added form number shape items frames i ready =
    let pre = up_to_item form frames in
    let ws = inner_words shape (map (item_text form) items) in
    ap (λ ts. pre ++ 40 ∷ spaced (inner_words shape ts)) (map-append (item_text form) items (i ∷ []))
    ∙ ap (λ ts. pre ++ 40 ∷ spaced ts) (words_more shape (map (item_text form) items) (item_text form i) (not_empty form shape items ready))
    ∙ ap (λ t. pre ++ 40 ∷ t) (spaced_more ws (item_text form i))
    ∙ sym (append_assoc pre (40 ∷ (spaced ws ++ gap_behind ws)) (item_text form i))
    ∙ ap (λ t. t ++ item_text form i) (sym (append_assoc pre (40 ∷ spaced ws) (gap_behind ws)))
