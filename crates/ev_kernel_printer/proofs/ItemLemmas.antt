-- What is told of pieces is the form of their nodes.
use Rattle.std.proofs.Common.{◌≡◌, ℕ, zero, suc, ◌-◌, arith, List, [], ◌∷◌, ◌++◌, length, map, refl, ap, sym, ◌∙◌, append_assoc}
use Rattle.std.proofs.lemmas.List.{append-nil, map-append}
use Rattle.std.specs.Prelude.{codes, slice_get, Option, Some, None}
use Rattle.def_kernel.specs.declared.node.Literal.{Literal}
use Rattle.def_kernel.specs.declared.node.Literal.TheVariants as literal
use Rattle.def_kernel.specs.declared.node.Node.{Node}
use Rattle.def_kernel.specs.declared.node.Node.TheVariants.{Lit, Noun, Set, Def, Call, Sequence, If, Escape, Try, Finally, Hide, MatchBind, Object, Method, Matcher, Final, Var, Any, ListPattern, Via}
use Rattle.def_machine.specs.Form.{Item, Begin, End, Word, Fact, group, headed, forms, form_option, exit_form, caught_form, node_form, form_found, form_at, items_of}
use Rattle.ev_kernel_printer.specs.Items as told
use Rattle.ev_kernel_printer.specs.Items.{items_in, head_of, opening_items, verb_of, word_items, written_items, literal_item, item_in}
use Rattle.ev_kernel_printer.specs.Pieces.{items, group as group_pieces, perhaps, exit_parts, caught_parts, inner_parts, parts, parts_of, following, left}
use Rattle.ev_kernel_printer.specs.declared.items.Item.{Item as Held}
use Rattle.ev_kernel_printer.specs.declared.pieces.Piece.{Piece}
use Rattle.ev_kernel_printer.specs.declared.pieces.Piece.TheVariants.{Spaced, Group, Verb, Exit, Open, Close}

-- the items of a piece, and of pieces, in front of others
abbrev pub of_piece : List Node → Piece → List Item
of_piece nodes (Spaced id height) = form_at nodes height id
of_piece nodes (Group id height) = Begin ∷ form_at nodes height id
of_piece nodes (Verb id) = items_in (word_items (verb_of (slice_get nodes id)))
of_piece nodes Exit = Word (codes "exit") ∷ []
of_piece nodes Open = Begin ∷ []
of_piece nodes Close = End ∷ []

abbrev pub onto : List Node → List Piece → List Item → List Item
onto nodes [] rest = rest
onto nodes (p ∷ ps) rest = of_piece nodes p ++ onto nodes ps rest

-- nothing more is told, and nothing is left
pub nothing_more : {A : Type 0} (xs ys : List A) → ys ≡ [] → xs ≡ xs ++ ys
nothing_more xs ys e = sym (append-nil xs) ∙ ap (λ zs. xs ++ zs) (sym e)

-- what is told of a node that is not there, and of one that is, and what they leave
opening_none : (nodes : List Node) (id height : ℕ) → None ≡ slice_get nodes id → opening_items nodes id height ≡ []
opening_none nodes id zero e = refl
opening_none nodes id (suc height) e = ap head_of (sym e)

following_none : (nodes : List Node) (id height : ℕ) → None ≡ slice_get nodes id → following nodes id height ≡ []
following_none nodes id zero e = refl
following_none nodes id (suc height) e = ap (parts_of id height) (sym e)

pub told_none : (nodes : List Node) (id height : ℕ) (out : List Held) → None ≡ slice_get nodes id → out ≡ out ++ opening_items nodes id height
told_none nodes id height out e = nothing_more out (opening_items nodes id height) (opening_none nodes id height e)

pub left_none : (nodes : List Node) (id height : ℕ) (ps : List Piece) → None ≡ slice_get nodes id → ps ≡ following nodes id height ++ ps
left_none nodes id height ps e = ap (λ qs. qs ++ ps) (sym (following_none nodes id height e))

pub told_some : (nodes : List Node) (id height : ℕ) (node : Node) (out new : List Held) → (height ≡ 0 → ⊥) → Some node ≡ slice_get nodes id
    → new ≡ out ++ told.head_items node → new ≡ out ++ opening_items nodes id height
told_some nodes id zero node out new some e h = absurd (some refl)
told_some nodes id (suc height) node out new some e h = h ∙ ap (λ o. out ++ head_of o) e

pub left_some : (nodes : List Node) (id height : ℕ) (node : Node) (ps new : List Piece) → (height ≡ 0 → ⊥) → Some node ≡ slice_get nodes id
    → new ≡ parts id (height - 1) node ++ ps → new ≡ following nodes id height ++ ps
left_some nodes id zero node ps new some e h = absurd (some refl)
left_some nodes id (suc height) node ps new some e h =
    let less : suc height - 1 ≡ height = omega arith in
    h ∙ ap (λ k. parts id k node ++ ps) less ∙ ap (λ o. parts_of id height o ++ ps) e

onto_append : (nodes : List Node) (ps qs : List Piece) (rest : List Item) → onto nodes (ps ++ qs) rest ≡ onto nodes ps (onto nodes qs rest)
onto_append nodes [] qs rest = refl
onto_append nodes (p ∷ ps) qs rest = ap (λ is. of_piece nodes p ++ is) (onto_append nodes ps qs rest)

module _ (nodes : List Node) (height : ℕ) where
  abbrev part : ℕ → List Item
  part e = form_at nodes height e

  two : (a b end : List Item) → (a ++ b) ++ end ≡ a ++ (b ++ end)
  two a b end = append_assoc a b end

  three : (a b c end : List Item) → ((a ++ b) ++ c) ++ end ≡ a ++ (b ++ (c ++ end))
  three a b c end = append_assoc (a ++ b) c end ∙ append_assoc a b (c ++ end)

  forms_on : (ids : List ℕ) (end : List Item) → forms (form_at nodes height) ids ++ end ≡ onto nodes (items height ids) end
  unfolding forms
  forms_on [] end = refl
  forms_on (id ∷ ids) end = append_assoc (part id) (forms (form_at nodes height) ids) end ∙ ap (λ is. part id ++ is) (forms_on ids end)

  group_on : (ids : List ℕ) (end : List Item) → group (forms (form_at nodes height) ids) ++ end ≡ onto nodes (group_pieces height ids) end
  unfolding forms group
  group_on [] end = refl
  group_on (id ∷ ids) end =
      ap (λ is. Begin ∷ is) (append_assoc (part id ++ forms (form_at nodes height) ids) (End ∷ []) end ∙ append_assoc (part id) (forms (form_at nodes height) ids) (End ∷ end)
      ∙ ap (λ is. part id ++ is) (forms_on ids (End ∷ end) ∙ sym (onto_append nodes (items height ids) (Close ∷ []) end)))

  option_on : (o : Option ℕ) (end : List Item) → form_option (form_at nodes height) o ++ end ≡ onto nodes (perhaps height o) end
  unfolding form_option
  option_on None end = refl
  option_on (Some id) end = refl

  exit_on : (o : Option ℕ) (end : List Item) → exit_form (form_at nodes height) o ++ end ≡ onto nodes (exit_parts height o) end
  unfolding exit_form
  exit_on None end = refl
  exit_on (Some id) end = refl

  caught_on : (o : Option (ℕ × ℕ)) (end : List Item) → caught_form (form_at nodes height) o ++ end ≡ onto nodes (caught_parts height o) end
  unfolding caught_form
  caught_on None end = refl
  caught_on (Some c) end = two (part c.0) (part c.1) end

  -- a form whose inner part is told by these pieces
  closes : (body : List Item) (ps : List Piece) (rest : List Item) → ((end : List Item) → body ++ end ≡ onto nodes ps end) → (body ++ End ∷ []) ++ rest ≡ onto nodes (ps ++ Close ∷ []) rest
  closes body ps rest f = append_assoc body (End ∷ []) rest ∙ f (End ∷ rest) ∙ sym (onto_append nodes ps (Close ∷ []) rest)

  abbrev NodeOn : ℕ → Node → List Item → Type 0
  NodeOn id node rest = node_form (form_at nodes height) node ++ rest ≡ items_in (told.head_items node) ++ onto nodes (inner_parts id height node ++ Close ∷ []) rest

  beginning : (w : List ℕ) (body : List Item) (ps : List Piece) (rest : List Item) → ((end : List Item) → body ++ end ≡ onto nodes ps end)
      → headed w body ++ rest ≡ Begin ∷ Word w ∷ onto nodes (ps ++ Close ∷ []) rest
  unfolding headed group
  beginning w body ps rest f = ap (λ is. Begin ∷ Word w ∷ is) (closes body ps rest f)

  naming : (w x : List ℕ) (body : List Item) (ps : List Piece) (rest : List Item) → ((end : List Item) → body ++ end ≡ onto nodes ps end)
      → headed w (Word x ∷ body) ++ rest ≡ Begin ∷ Word w ∷ Word x ∷ onto nodes (ps ++ Close ∷ []) rest
  unfolding headed group
  naming w x body ps rest f = ap (λ is. Begin ∷ Word w ∷ Word x ∷ is) (closes body ps rest f)

  literal_on : (l : Literal) → item_in (literal_item l) ≡ Fact l
  literal_on (literal.Int z) = refl
  literal_on (literal.Char c) = refl
  literal_on (literal.Text t) = refl

  lit_on : (l : Literal) (rest : List Item) → headed (codes "lit") (Fact l ∷ []) ++ rest ≡ Begin ∷ Word (codes "lit") ∷ item_in (literal_item l) ∷ End ∷ rest
  unfolding headed group
  lit_on l rest = ap (λ i. Begin ∷ Word (codes "lit") ∷ i ∷ End ∷ rest) (sym (literal_on l))

  def_on : (p e : ℕ) (j : Option ℕ) (end : List Item) → ((part p ++ exit_form (form_at nodes height) j) ++ part e) ++ end ≡ onto nodes (Spaced p height ∷ (exit_parts height j ++ Spaced e height ∷ [])) end
  def_on p e j end =
      three (part p) (exit_form (form_at nodes height) j) (part e) end
      ∙ ap (λ is. part p ++ is) (exit_on j (part e ++ end) ∙ sym (onto_append nodes (exit_parts height j) (Spaced e height ∷ []) end))

  def_node : (p : ℕ) (j : Option ℕ) (e : ℕ) (rest : List Item)
      → headed (codes "def") ((part p ++ exit_form (form_at nodes height) j) ++ part e) ++ rest ≡ Begin ∷ Word (codes "def") ∷ onto nodes ((Spaced p height ∷ (exit_parts height j ++ Spaced e height ∷ [])) ++ Close ∷ []) rest
  def_node p j e rest = beginning (codes "def") ((part p ++ exit_form (form_at nodes height) j) ++ part e) (Spaced p height ∷ (exit_parts height j ++ Spaced e height ∷ [])) rest (def_on p e j)

  escape_on : (p b : ℕ) (c : Option (ℕ × ℕ)) (end : List Item) → ((part p ++ part b) ++ caught_form (form_at nodes height) c) ++ end ≡ onto nodes (Spaced p height ∷ Spaced b height ∷ caught_parts height c) end
  escape_on p b c end = three (part p) (part b) (caught_form (form_at nodes height) c) end ∙ ap (λ is. part p ++ (part b ++ is)) (caught_on c end)

  object_on : (p : ℕ) (auditors members : List ℕ) (end : List Item)
      → ((part p ++ group (forms (form_at nodes height) auditors)) ++ forms (form_at nodes height) members) ++ end ≡ onto nodes (Spaced p height ∷ (group_pieces height auditors ++ items height members)) end
  object_on p auditors members end =
      three (part p) (group (forms (form_at nodes height) auditors)) (forms (form_at nodes height) members) end
      ∙ ap (λ is. part p ++ is) (ap (λ is. group (forms (form_at nodes height) auditors) ++ is) (forms_on members end) ∙ group_on auditors (onto nodes (items height members) end)
      ∙ sym (onto_append nodes (group_pieces height auditors) (items height members) end))

  method_on : (ps : List ℕ) (b : ℕ) (end : List Item) → (group (forms (form_at nodes height) ps) ++ part b) ++ end ≡ onto nodes (group_pieces height ps ++ Spaced b height ∷ []) end
  method_on ps b end =
      two (group (forms (form_at nodes height) ps)) (part b) end ∙ group_on ps (part b ++ end) ∙ sym (onto_append nodes (group_pieces height ps) (Spaced b height ∷ []) end)

  call_on : (id r : ℕ) (verb : List ℕ) (es : List ℕ) → slice_get nodes id ≡ Some (Call r verb es) → (end : List Item)
      → (part r ++ (Word verb ∷ forms (form_at nodes height) es)) ++ end ≡ onto nodes (Spaced r height ∷ Verb id ∷ items height es) end
  call_on id r verb es found end =
      two (part r) (Word verb ∷ forms (form_at nodes height) es) end
      ∙ ap (λ is. part r ++ is) (ap (λ is. Word verb ∷ is) (forms_on es end) ∙ ap (λ (o : Option Node). items_in (word_items (verb_of o)) ++ onto nodes (items height es) end) (sym found))

  pub node_on : (id : ℕ) (node : Node) (rest : List Item) → slice_get nodes id ≡ Some node → NodeOn id node rest
  unfolding node_form
  node_on id (Lit l) rest found = lit_on l rest
  node_on id (Noun x) rest found = naming (codes "noun") x [] [] rest (λ end. refl)
  node_on id (Set x e) rest found = naming (codes "set") x (part e) (Spaced e height ∷ []) rest (λ end. refl)
  node_on id (Def p j e) rest found = def_node p j e rest
  node_on id (Call r verb es) rest found = beginning (codes "call") (part r ++ (Word verb ∷ forms (form_at nodes height) es)) (Spaced r height ∷ Verb id ∷ items height es) rest (call_on id r verb es found)
  node_on id (Sequence es) rest found = beginning (codes "seq") (forms (form_at nodes height) es) (items height es) rest (forms_on es)
  node_on id (If t a b) rest found = beginning (codes "if") ((part t ++ part a) ++ part b) (Spaced t height ∷ Spaced a height ∷ Spaced b height ∷ []) rest (three (part t) (part a) (part b))
  node_on id (Escape p b c) rest found = beginning (codes "escape") ((part p ++ part b) ++ caught_form (form_at nodes height) c) (Spaced p height ∷ Spaced b height ∷ caught_parts height c) rest (escape_on p b c)
  node_on id (Try b p h) rest found = beginning (codes "try") ((part b ++ part p) ++ part h) (Spaced b height ∷ Spaced p height ∷ Spaced h height ∷ []) rest (three (part b) (part p) (part h))
  node_on id (Finally a b) rest found = beginning (codes "finally") (part a ++ part b) (Spaced a height ∷ Spaced b height ∷ []) rest (two (part a) (part b))
  node_on id (Hide e) rest found = beginning (codes "hide") (part e) (Spaced e height ∷ []) rest (λ end. refl)
  node_on id (MatchBind e p) rest found = beginning (codes "match") (part e ++ part p) (Spaced e height ∷ Spaced p height ∷ []) rest (two (part e) (part p))
  node_on id (Object p auditors members) rest found = beginning (codes "object") ((part p ++ group (forms (form_at nodes height) auditors)) ++ forms (form_at nodes height) members) (Spaced p height ∷ (group_pieces height auditors ++ items height members)) rest (object_on p auditors members)
  node_on id (Method v ps b) rest found = naming (codes "method") v (group (forms (form_at nodes height) ps) ++ part b) (group_pieces height ps ++ Spaced b height ∷ []) rest (method_on ps b)
  node_on id (Matcher p b) rest found = beginning (codes "matcher") (part p ++ part b) (Spaced p height ∷ Spaced b height ∷ []) rest (two (part p) (part b))
  node_on id (Final x g) rest found = naming (codes "final") x (form_option (form_at nodes height) g) (perhaps height g) rest (option_on g)
  node_on id (Var x g) rest found = naming (codes "var") x (form_option (form_at nodes height) g) (perhaps height g) rest (option_on g)
  node_on id (Any g) rest found = beginning (codes "any") (form_option (form_at nodes height) g) (perhaps height g) rest (option_on g)
  node_on id (ListPattern ps) rest found = beginning (codes "list") (forms (form_at nodes height) ps) (items height ps) rest (forms_on ps)
  node_on id (Via e p) rest found = beginning (codes "via") (part e ++ part p) (Spaced e height ∷ Spaced p height ∷ []) rest (two (part e) (part p))

  found_on : (id : ℕ) (o : Option Node) (rest : List Item) → slice_get nodes id ≡ o → form_found (form_at nodes height) o ++ rest ≡ items_in (head_of o) ++ onto nodes (parts_of id height o) rest
  unfolding form_found
  found_on id None rest found = refl
  found_on id (Some node) rest found = node_on id node rest found

-- a node's form is what is told of it at once, and then of what it leaves
form_on : (nodes : List Node) (id height : ℕ) (rest : List Item) → form_at nodes height id ++ rest ≡ items_in (opening_items nodes id height) ++ onto nodes (following nodes id height) rest
unfolding form_at
form_on nodes id zero rest = refl
form_on nodes id (suc height) rest = found_on nodes height id (slice_get nodes id) rest refl

piece_on : (nodes : List Node) (p : Piece) (rest : List Item) → of_piece nodes p ++ rest ≡ items_in (written_items nodes p) ++ onto nodes (left nodes p) rest
piece_on nodes (Spaced id height) rest = form_on nodes id height rest
piece_on nodes (Group id height) rest = ap (λ is. Begin ∷ is) (form_on nodes id height rest)
piece_on nodes (Verb id) rest = refl
piece_on nodes Exit rest = refl
piece_on nodes Open rest = refl
piece_on nodes Close rest = refl

moves : (nodes : List Node) (p : Piece) (rest : List Piece) (out : List Held)
    → items_in out ++ onto nodes (p ∷ rest) [] ≡ items_in (out ++ written_items nodes p) ++ onto nodes (left nodes p ++ rest) []
moves nodes p rest out =
    ap (λ is. items_in out ++ is) (piece_on nodes p (onto nodes rest []) ∙ ap (λ is. items_in (written_items nodes p) ++ is) (sym (onto_append nodes (left nodes p) rest [])))
    ∙ sym (append_assoc (items_in out) (items_in (written_items nodes p)) (onto nodes (left nodes p ++ rest) []))
    ∙ ap (λ is. is ++ onto nodes (left nodes p ++ rest) []) (sym (map-append item_in out (written_items nodes p)))

-- what was told and what is left, before the first piece and behind a piece
pub starts : (nodes : List Node) (id n : ℕ) (before out : List Held) (none pieces : List Piece)
    → n ≡ length nodes → before ≡ [] → none ≡ [] → out ≡ before ++ opening_items nodes id n → pieces ≡ following nodes id n ++ none → items_in out ++ onto nodes pieces [] ≡ items_of nodes id
unfolding items_of
starts nodes id n before out none pieces all empty nothing heads parts =
    let out-is : out ≡ opening_items nodes id n = heads ∙ ap (λ b. b ++ opening_items nodes id n) empty in
    let pieces-is : pieces ≡ following nodes id n = parts ∙ ap (λ p. following nodes id n ++ p) nothing ∙ append-nil (following nodes id n) in
    ap (λ b. items_in b ++ onto nodes pieces []) out-is ∙ ap (λ p. items_in (opening_items nodes id n) ++ onto nodes p []) pieces-is
    ∙ sym (form_on nodes id n []) ∙ append-nil (form_at nodes n id) ∙ ap (λ k. form_at nodes k id) all

pub goes : (nodes : List Node) (p : Piece) (rest before pieces : List Piece) (out more : List Held) (due : List Item)
    → before ≡ p ∷ rest → more ≡ out ++ written_items nodes p → pieces ≡ left nodes p ++ rest → items_in out ++ onto nodes before [] ≡ due → items_in more ++ onto nodes pieces [] ≡ due
goes nodes p rest before pieces out more due next heads parts was =
    ap (λ b. items_in b ++ onto nodes pieces []) heads ∙ ap (λ ps. items_in (out ++ written_items nodes p) ++ onto nodes ps []) parts
    ∙ sym (moves nodes p rest out) ∙ ap (λ ps. items_in out ++ onto nodes ps []) (sym next) ∙ was

pub ends : (nodes : List Node) (pieces : List Piece) (out : List Held) (due : List Item) → pieces ≡ [] → items_in out ++ onto nodes pieces [] ≡ due → items_in out ≡ due
ends nodes pieces out due empty was = sym (append-nil (items_in out)) ∙ ap (λ ps. items_in out ++ onto nodes ps []) (sym empty) ∙ was
