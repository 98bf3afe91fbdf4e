-- The form of a node in items: what is told at once of each of its pieces.
use Rattle.std.specs.Prelude.{ℕ, zero, suc, List, [], ◌∷◌, ◌++◌, map, slice_get, codes, Option, Some, None}
use Rattle.def_kernel.specs.declared.node.Literal.{Literal}
use Rattle.def_kernel.specs.declared.node.Literal.TheVariants as literal
use Rattle.def_kernel.specs.declared.node.Node.{Node}
use Rattle.def_kernel.specs.declared.node.Node.TheVariants.{Lit, Noun, Set, Def, Call, Sequence, If, Escape, Try, Finally, Hide, MatchBind, Object, Method, Matcher, Final, Var, Any, ListPattern, Via}
use Rattle.def_machine.specs.Form as form
use Rattle.ev_kernel_printer.specs.declared.items.Item.{Item}
use Rattle.ev_kernel_printer.specs.declared.items.Item.TheVariants.{Begin, End, Word, Int, Char, Text}
use Rattle.ev_kernel_printer.specs.declared.pieces.Piece.{Piece}
use Rattle.ev_kernel_printer.specs.declared.pieces.Piece.TheVariants.{Spaced, Group, Verb, Exit, Open, Close}

-- an item, as the machine has it
abbrev pub item_in : Item → form.Item
item_in Begin = form.Begin
item_in End = form.End
item_in (Word w) = form.Word w
item_in (Int z) = form.Fact (literal.Int z)
item_in (Char c) = form.Fact (literal.Char c)
item_in (Text t) = form.Fact (literal.Text t)

abbrev pub items_in : List Item → List form.Item
items_in is = map item_in is

abbrev pub literal_item : Literal → Item
literal_item (literal.Int z) = Int z
literal_item (literal.Char c) = Char c
literal_item (literal.Text t) = Text t

abbrev pub named : List ℕ → List ℕ → List Item
named w x = Begin ∷ Word w ∷ Word x ∷ []

abbrev pub headed : List ℕ → List Item
headed w = Begin ∷ Word w ∷ []

-- the beginning, the word and what is no node behind it, up to the first part
abbrev pub head_items : Node → List Item
head_items (Lit l) = Begin ∷ Word (codes "lit") ∷ literal_item l ∷ []
head_items (Noun name) = named (codes "noun") name
head_items (Set name value) = named (codes "set") name
head_items (Def pattern exit value) = headed (codes "def")
head_items (Call receiver verb args) = headed (codes "call")
head_items (Sequence parts) = headed (codes "seq")
head_items (If test then_part else_part) = headed (codes "if")
head_items (Escape pattern body caught) = headed (codes "escape")
head_items (Try body pattern handler) = headed (codes "try")
head_items (Finally body after) = headed (codes "finally")
head_items (Hide body) = headed (codes "hide")
head_items (MatchBind value pattern) = headed (codes "match")
head_items (Object pattern auditors members) = headed (codes "object")
head_items (Method verb patterns body) = named (codes "method") verb
head_items (Matcher pattern body) = headed (codes "matcher")
head_items (Final name guard) = named (codes "final") name
head_items (Var name guard) = named (codes "var") name
head_items (Any guard) = headed (codes "any")
head_items (ListPattern patterns) = headed (codes "list")
head_items (Via value pattern) = headed (codes "via")

-- what is told of a node before its parts, to so many levels
abbrev pub head_of : Option Node → List Item
head_of None = []
head_of (Some node) = head_items node

abbrev pub opening_items : List Node → ℕ → ℕ → List Item
opening_items nodes id zero = []
opening_items nodes id (suc height) = head_of (slice_get nodes id)

-- the verb of a call
abbrev pub verb_of : Option Node → Option (List ℕ)
verb_of (Some (Call receiver verb args)) = Some verb
verb_of _ = None

abbrev pub word_items : Option (List ℕ) → List Item
word_items None = []
word_items (Some w) = Word w ∷ []

-- what is told of a piece at once
abbrev pub written_items : List Node → Piece → List Item
written_items nodes (Spaced id height) = opening_items nodes id height
written_items nodes (Group id height) = Begin ∷ opening_items nodes id height
written_items nodes (Verb id) = word_items (verb_of (slice_get nodes id))
written_items nodes Exit = Word (codes "exit") ∷ []
written_items nodes Open = Begin ∷ []
written_items nodes Close = End ∷ []
