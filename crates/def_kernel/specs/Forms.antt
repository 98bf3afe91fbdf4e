-- The form of a tree as text.
use Rattle.std.specs.Prelude.{ℕ, zero, suc, List, [], ◌∷◌, ◌++◌, length, map, flat_map, slice_get, codes, Option, Some, None}
use Rattle.std.specs.Char.{encode_utf8}
use Rattle.std.specs.Fmt.{signed_decimal, digits}
use Rattle.std.specs.Str.{chars}
use Rattle.def_text.specs.Quoting.{quoted, quoted_character}
use Rattle.def_text.specs.Keywords.{printed_verb}
use Rattle.def_kernel.specs.declared.node.Literal.{Literal}
use Rattle.def_kernel.specs.declared.node.Literal.TheVariants.{Int, Char, Text}
use Rattle.def_kernel.specs.declared.node.Node.{Node}
use Rattle.def_kernel.specs.declared.node.Node.TheVariants.{Lit, Noun, Set, Def, Call, Sequence, If, Escape, Try, Finally, Hide, MatchBind, Object, Method, Matcher, Final, Var, Any, ListPattern, Via}

-- items with one space between them
abbrev pub spaced : List (List ℕ) → List ℕ
spaced [] = []
spaced (w ∷ ws) = w ++ flat_map (λ v. 32 ∷ v) ws

abbrev pub enclosed : List (List ℕ) → List ℕ
enclosed items = 40 ∷ (spaced items ++ 41 ∷ [])

abbrev pub literal_form : Literal → List ℕ
literal_form (Int z) = signed_decimal z
literal_form (Char c) = quoted_character c
literal_form (Text text) = quoted text

-- a list of one item or none
abbrev pub perhaps : (ℕ → List ℕ) → Option ℕ → List (List ℕ)
perhaps form None = []
perhaps form (Some id) = form id ∷ []

-- the items of a node's form, by the forms of its parts
abbrev pub items : (ℕ → List ℕ) → Node → List (List ℕ)
items form (Lit literal) = codes "lit" ∷ literal_form literal ∷ []
items form (Noun name) = codes "noun" ∷ name ∷ []
items form (Set name value) = codes "set" ∷ name ∷ form value ∷ []
items form (Def pattern None value) = codes "def" ∷ form pattern ∷ form value ∷ []
items form (Def pattern (Some exit) value) = codes "def" ∷ form pattern ∷ codes "exit" ∷ form exit ∷ form value ∷ []
items form (Call receiver verb args) = codes "call" ∷ form receiver ∷ printed_verb verb ∷ map form args
items form (Sequence parts) = codes "seq" ∷ map form parts
items form (If test then_part else_part) = codes "if" ∷ form test ∷ form then_part ∷ form else_part ∷ []
items form (Escape pattern body None) = codes "escape" ∷ form pattern ∷ form body ∷ []
items form (Escape pattern body (Some caught)) = codes "escape" ∷ form pattern ∷ form body ∷ form caught.0 ∷ form caught.1 ∷ []
items form (Try body pattern handler) = codes "try" ∷ form body ∷ form pattern ∷ form handler ∷ []
items form (Finally body after) = codes "finally" ∷ form body ∷ form after ∷ []
items form (Hide body) = codes "hide" ∷ form body ∷ []
items form (MatchBind value pattern) = codes "match" ∷ form value ∷ form pattern ∷ []
items form (Object pattern auditors members) = codes "object" ∷ form pattern ∷ enclosed (map form auditors) ∷ map form members
items form (Method verb patterns body) = codes "method" ∷ printed_verb verb ∷ enclosed (map form patterns) ∷ form body ∷ []
items form (Matcher pattern body) = codes "matcher" ∷ form pattern ∷ form body ∷ []
items form (Final name guard) = codes "final" ∷ name ∷ perhaps form guard
items form (Var name guard) = codes "var" ∷ name ∷ perhaps form guard
items form (Any guard) = codes "any" ∷ perhaps form guard
items form (ListPattern patterns) = codes "list" ∷ map form patterns
items form (Via value pattern) = codes "via" ∷ form value ∷ form pattern ∷ []

abbrev pub form_of : (ℕ → List ℕ) → Option Node → List ℕ
form_of form None = []
form_of form (Some node) = enclosed (items form node)

-- the form of a node that is there, to a height that no tree of these nodes passes
abbrev pub form_within : ℕ → List Node → ℕ → List ℕ
form_within zero nodes id = []
form_within (suc height) nodes id = form_of (form_within height nodes) (slice_get nodes id)

abbrev pub form : List Node → ℕ → List ℕ
form nodes id = form_within (length nodes) nodes id

-- opens what the definitions of this file stand on
unfoldable pub opened_forms : Unit {0}
unfolding digits chars encode_utf8
opened_forms = tt
