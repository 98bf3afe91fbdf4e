-- The text of pieces is the form of their nodes.
use Rattle.std.proofs.Common.{◌≡◌, ℕ, zero, suc, ◌+◌, ◌<◌, List, [], ◌∷◌, ◌++◌, length, map, refl, ap, sym, ◌∙◌, arith, append_assoc, length-append}
use Rattle.std.proofs.lemmas.List.{append-nil}
use Rattle.std.specs.Prelude.{codes, slice_get, Option, Some, None}
use Rattle.std.specs.List.{flat_map}
use Rattle.std.proofs.lemmas.Grind.{flat_map-append}
use Rattle.def_text.specs.Keywords.{printed_verb}
use Rattle.def_kernel.specs.Forms.{spaced, enclosed, form_of, form_within, form}
use Rattle.def_kernel.specs.Forms.{items as due_items}
use Rattle.def_kernel.specs.declared.node.Node.{Node}
use Rattle.def_kernel.specs.declared.node.Node.TheVariants.{Lit, Noun, Set, Def, Call, Sequence, If, Escape, Try, Finally, Hide, MatchBind, Object, Method, Matcher, Final, Var, Any, ListPattern, Via}
use Rattle.ev_kernel_printer.specs.declared.pieces.Piece.{Piece}
use Rattle.ev_kernel_printer.specs.declared.pieces.Piece.TheVariants.{Spaced, Group, Verb, Exit, Open, Close}
use Rattle.ev_kernel_printer.specs.Pieces.{head, items, group, inner_parts, parts, head_of, parts_of, opening, following, verb_of, written, left}

-- the whole text of a piece, and of pieces
abbrev pub text_of : List Node → Piece → List ℕ
text_of nodes (Spaced id height) = 32 ∷ form_within height nodes id
text_of nodes (Group id height) = 32 ∷ 40 ∷ form_within height nodes id
text_of nodes (Verb id) = 32 ∷ verb_of (slice_get nodes id)
text_of nodes Exit = codes " exit"
text_of nodes Open = codes " ("
text_of nodes Close = codes ")"

abbrev pub texts : List Node → List Piece → List ℕ
texts nodes pieces = flat_map (text_of nodes) pieces

abbrev behind_spaces : List (List ℕ) → List ℕ
behind_spaces ws = flat_map (λ v. 32 ∷ v) ws

items-text : (nodes : List Node) (height : ℕ) (ids : List ℕ) → behind_spaces (map (form_within height nodes) ids) ≡ texts nodes (items height ids)
items-text nodes height [] = refl
items-text nodes height (id ∷ ids) = ap (λ ts. (32 ∷ form_within height nodes id) ++ ts) (items-text nodes height ids)

texts-append : (nodes : List Node) (ps qs : List Piece) → texts nodes (ps ++ qs) ≡ texts nodes ps ++ texts nodes qs
texts-append nodes ps qs = flat_map-append (text_of nodes) ps qs

group-text : (nodes : List Node) (height : ℕ) (ids : List ℕ) → 32 ∷ enclosed (map (form_within height nodes) ids) ≡ texts nodes (group height ids)
group-text nodes height [] = refl
group-text nodes height (id ∷ ids) =
    ap (λ ts. 32 ∷ 40 ∷ ts) (append_assoc (form_within height nodes id) (behind_spaces (map (form_within height nodes) ids)) (41 ∷ []))
    ∙ ap (λ ts. (32 ∷ 40 ∷ form_within height nodes id) ++ (ts ++ 41 ∷ [])) (items-text nodes height ids)
    ∙ ap (λ ts. (32 ∷ 40 ∷ form_within height nodes id) ++ ts) (sym (texts-append nodes (items height ids) (Close ∷ [])))

abbrev Inner : List Node → ℕ → ℕ → Node → Type 0
Inner nodes id height node = 40 ∷ spaced (due_items (form_within height nodes) node) ≡ head node ++ texts nodes (inner_parts id height node)

inner-object : (nodes : List Node) (id height pattern : ℕ) (auditors members : List ℕ) → Inner nodes id height (Object pattern auditors members)
inner-object nodes id height pattern auditors members =
    ap (λ ts. codes "(object" ++ ((32 ∷ form_within height nodes pattern) ++ (ts ++ behind_spaces (map (form_within height nodes) members)))) (group-text nodes height auditors)
    ∙ ap (λ ts. codes "(object" ++ ((32 ∷ form_within height nodes pattern) ++ (texts nodes (group height auditors) ++ ts))) (items-text nodes height members)
    ∙ ap (λ ts. codes "(object" ++ ((32 ∷ form_within height nodes pattern) ++ ts)) (sym (texts-append nodes (group height auditors) (items height members)))

inner-method : (nodes : List Node) (id height : ℕ) (verb : List ℕ) (patterns : List ℕ) (body : ℕ) → Inner nodes id height (Method verb patterns body)
inner-method nodes id height verb patterns body =
    ap (λ ts. codes "(method " ++ (printed_verb verb ++ (ts ++ ((32 ∷ form_within height nodes body) ++ [])))) (group-text nodes height patterns)
    ∙ ap (λ ts. codes "(method " ++ (printed_verb verb ++ ts)) (sym (texts-append nodes (group height patterns) (Spaced body height ∷ [])))

inner-call : (nodes : List Node) (id height receiver : ℕ) (verb : List ℕ) (args : List ℕ) → slice_get nodes id ≡ Some (Call receiver verb args) → Inner nodes id height (Call receiver verb args)
inner-call nodes id height receiver verb args found =
    ap (λ ts. codes "(call" ++ ((32 ∷ form_within height nodes receiver) ++ ((32 ∷ printed_verb verb) ++ ts))) (items-text nodes height args)
    ∙ ap (λ o. codes "(call" ++ ((32 ∷ form_within height nodes receiver) ++ ((32 ∷ verb_of o) ++ texts nodes (items height args)))) (sym found)

inner-text : (nodes : List Node) (id height : ℕ) (node : Node) → slice_get nodes id ≡ Some node → Inner nodes id height node
inner-text nodes id height (Lit literal) found = refl
inner-text nodes id height (Noun name) found = refl
inner-text nodes id height (Set name value) found = refl
inner-text nodes id height (Def pattern None value) found = refl
inner-text nodes id height (Def pattern (Some exit) value) found = refl
inner-text nodes id height (Call receiver verb args) found = inner-call nodes id height receiver verb args found
inner-text nodes id height (Sequence ids) found = ap (λ ts. codes "(seq" ++ ts) (items-text nodes height ids)
inner-text nodes id height (If test then_part else_part) found = refl
inner-text nodes id height (Escape pattern body None) found = refl
inner-text nodes id height (Escape pattern body (Some caught)) found = refl
inner-text nodes id height (Try body pattern handler) found = refl
inner-text nodes id height (Finally body after) found = refl
inner-text nodes id height (Hide body) found = refl
inner-text nodes id height (MatchBind value pattern) found = refl
inner-text nodes id height (Object pattern auditors members) found = inner-object nodes id height pattern auditors members
inner-text nodes id height (Method verb patterns body) found = inner-method nodes id height verb patterns body
inner-text nodes id height (Matcher pattern body) found = refl
inner-text nodes id height (Final name None) found = refl
inner-text nodes id height (Final name (Some guard)) found = refl
inner-text nodes id height (Var name None) found = refl
inner-text nodes id height (Var name (Some guard)) found = refl
inner-text nodes id height (Any None) found = refl
inner-text nodes id height (Any (Some guard)) found = refl
inner-text nodes id height (ListPattern ids) found = ap (λ ts. codes "(list" ++ ts) (items-text nodes height ids)
inner-text nodes id height (Via value pattern) found = refl

found-text : (nodes : List Node) (id height : ℕ) (o : Option Node) → slice_get nodes id ≡ o → form_of (form_within height nodes) o ≡ head_of o ++ texts nodes (parts_of id height o)
found-text nodes id height None found = refl
found-text nodes id height (Some node) found =
    ap (λ ts. ts ++ 41 ∷ []) (inner-text nodes id height node found)
    ∙ append_assoc (head node) (texts nodes (inner_parts id height node)) (41 ∷ [])
    ∙ ap (λ ts. head node ++ ts) (sym (texts-append nodes (inner_parts id height node) (Close ∷ [])))

-- a node's form is what is written of it and the text of what it leaves
pub node-text : (nodes : List Node) (id height : ℕ) → form_within height nodes id ≡ opening nodes id height ++ texts nodes (following nodes id height)
node-text nodes id zero = refl
node-text nodes id (suc height) = found-text nodes id height (slice_get nodes id) refl

piece-text : (nodes : List Node) (piece : Piece) → text_of nodes piece ≡ written nodes piece ++ texts nodes (left nodes piece)
piece-text nodes (Spaced id height) = ap (λ ts. 32 ∷ ts) (node-text nodes id height)
piece-text nodes (Group id height) = ap (λ ts. 32 ∷ 40 ∷ ts) (node-text nodes id height)
piece-text nodes (Verb id) = ap (λ ts. 32 ∷ ts) (sym (append-nil (verb_of (slice_get nodes id))))
piece-text nodes Exit = refl
piece-text nodes Open = refl
piece-text nodes Close = refl

-- what was written and the text of what is left stay the same
pub written-moves : (nodes : List Node) (piece : Piece) (rest : List Piece) (out : List ℕ) → out ++ texts nodes (piece ∷ rest) ≡ (out ++ written nodes piece) ++ texts nodes (left nodes piece ++ rest)
written-moves nodes piece rest out =
    ap (λ ts. out ++ (ts ++ texts nodes rest)) (piece-text nodes piece)
    ∙ ap (λ ts. out ++ ts) (append_assoc (written nodes piece) (texts nodes (left nodes piece)) (texts nodes rest))
    ∙ sym (append_assoc out (written nodes piece) (texts nodes (left nodes piece) ++ texts nodes rest))
    ∙ ap (λ ts. (out ++ written nodes piece) ++ ts) (sym (texts-append nodes (left nodes piece) rest))

writes-some : (nodes : List Node) (piece : Piece) → 0 < length (written nodes piece)
writes-some nodes (Spaced id height) = omega arith
writes-some nodes (Group id height) = omega arith
writes-some nodes (Verb id) = omega arith
writes-some nodes Exit = omega arith
writes-some nodes Open = omega arith
writes-some nodes Close = omega arith

-- the text that is left grows shorter
pub text-shrinks : (nodes : List Node) (piece : Piece) (rest : List Piece) → length (texts nodes (left nodes piece ++ rest)) < length (texts nodes (piece ∷ rest))
text-shrinks nodes piece rest =
    let all : length (texts nodes (piece ∷ rest)) ≡ length (written nodes piece) + length (texts nodes (left nodes piece ++ rest))
    = ap length (written-moves nodes piece rest []) ∙ length-append (written nodes piece) (texts nodes (left nodes piece ++ rest)) in
    let some : 0 < length (written nodes piece) = writes-some nodes piece in
    omega arith

-- what was written and what is left, before the first piece, behind a piece, and behind the last one
pub starts : (nodes : List Node) (n : ℕ) (before out : List ℕ) (none pieces : List Piece)
    → n ≡ length nodes → before ≡ [] → none ≡ [] → out ≡ before ++ opening nodes 0 n → pieces ≡ following nodes 0 n ++ none → out ++ texts nodes pieces ≡ form nodes 0
starts nodes n before out none pieces all empty nothing text parts =
    let out-is : out ≡ opening nodes 0 n = text ∙ ap (λ b. b ++ opening nodes 0 n) empty in
    let pieces-is : pieces ≡ following nodes 0 n = parts ∙ ap (λ p. following nodes 0 n ++ p) nothing ∙ append-nil (following nodes 0 n) in
    ap (λ b. b ++ texts nodes pieces) out-is ∙ ap (λ p. opening nodes 0 n ++ texts nodes p) pieces-is
    ∙ sym (node-text nodes 0 n) ∙ ap (λ k. form_within k nodes 0) all

pub goes : (nodes : List Node) (piece : Piece) (rest before pieces : List Piece) (out more due : List ℕ)
    → before ≡ piece ∷ rest → more ≡ out ++ written nodes piece → pieces ≡ left nodes piece ++ rest → out ++ texts nodes before ≡ due → more ++ texts nodes pieces ≡ due
goes nodes piece rest before pieces out more due next text parts was =
    ap (λ b. b ++ texts nodes pieces) text ∙ ap (λ p. (out ++ written nodes piece) ++ texts nodes p) parts
    ∙ sym (written-moves nodes piece rest out) ∙ ap (λ p. out ++ texts nodes p) (sym next) ∙ was

pub shrinks : (nodes : List Node) (piece : Piece) (rest before pieces : List Piece)
    → before ≡ piece ∷ rest → pieces ≡ left nodes piece ++ rest → length (texts nodes pieces) < length (texts nodes before)
shrinks nodes piece rest before pieces next parts =
    let now : length (texts nodes pieces) ≡ length (texts nodes (left nodes piece ++ rest)) = ap (λ p. length (texts nodes p)) parts in
    let then : length (texts nodes before) ≡ length (texts nodes (piece ∷ rest)) = ap (λ p. length (texts nodes p)) next in
    let less : length (texts nodes (left nodes piece ++ rest)) < length (texts nodes (piece ∷ rest)) = text-shrinks nodes piece rest in
    omega arith
