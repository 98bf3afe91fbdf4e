-- Trees one behind another, in a form and between brackets of their own.
use Rattle.std.proofs.Common.{◌≡◌, ℕ, ◌+◌, ◌≤◌, List, [], ◌∷◌, ◌++◌, length, map, replicate, Some, refl, sym, ◌∙◌, ap, subst, arith, append_assoc, length-append}
use Rattle.std.specs.Str.{chars, IsUtf8}
use Rattle.std.proofs.lemmas.List.{append-nil, length-replicate}
use Rattle.std.proofs.lemmas.Str.{IsUtf8-append, IsUtf8-nil, chars-nil}
use Rattle.def_kernel.specs.declared.node.Node.{Node}
use Rattle.def_kernel.specs.declared.reader.Item.{Item}
use Rattle.def_kernel.specs.declared.reader.Item.TheVariants.{Node as ANode, Nodes as ANodes}
use Rattle.def_kernel.specs.declared.reader.Frame.{Frame}
use Rattle.def_kernel.specs.declared.reader.Mode.TheVariants.{Before as before, Grouping as grouping, Whole as whole}
use Rattle.def_kernel.specs.declared.shape.Head.{Head}
use Rattle.def_kernel.specs.declared.shape.Head.TheVariants.{Group}
use Rattle.def_kernel.specs.declared.shape.Kind.{Kind}
use Rattle.def_kernel.specs.declared.shape.Want.TheVariants.{Tree, Group as Grouped}
use Rattle.def_kernel.specs.Forms.{spaced, enclosed, form_within}
use Rattle.def_kernel.specs.Reading.{step, no_node, numbers, wanted, open_wanted, close_in}
use Rattle.law_kernel_form.proofs.Parts.{Part, done, joined, long}
use Rattle.law_kernel_form.proofs.Steps.{steps, reads_one, bracket, Goes, goes_nowhere, goes_on, split, bracketed, bracketed_utf8, item, state, framed, at, space_wanted, tree_item}
use Rattle.law_kernel_form.proofs.Going.{behind_spaces, TreeRead, Going, further, wants_more, may_end, closes_form, one}

abbrev forms : List Node → ℕ → List ℕ → List (List ℕ)
forms nodes height starts = map (form_within height nodes) starts

-- in a form where from so many items on trees of this kind are wanted
abbrev WantsRow : Head → Kind → ℕ → Type 0
WantsRow head kind least = (k : ℕ) → least ≤ k → wanted head k ≡ Some (Tree kind)

-- the trees with these numbers are read, behind items of a form and between brackets
pub record RowRead (nodes : List Node) (kind : Kind) (starts : List ℕ) (n m : ℕ) : Type 0 where
  pub part : List Node
  pub is : Part nodes n m part
  pub reads : (height : ℕ) → length nodes ≤ height + n → (number : ℕ) (head : Head) (items : List Item) → WantsRow head kind (length items)
      → (frames : List Frame) (now : List Node) → length now ≡ n
      → Goes (behind_spaces (forms nodes height starts)) (at number head items frames now) (at number head (items ++ map ANode starts) frames (now ++ part))
  pub utf8 : (height : ℕ) → length nodes ≤ height + n → IsUtf8 (spaced (forms nodes height starts))
  pub grouped : (height : ℕ) → length nodes ≤ height + n → (frames : List Frame) (now : List Node) → length now ≡ n → (rest : List ℕ)
      → steps (chars (spaced (forms nodes height starts)) ++ 41 ∷ rest) (state (framed 0 (Group kind) [] frames) now grouping)
      ≡ steps (41 ∷ rest) (at 0 (Group kind) (map ANode starts) frames (now ++ part))
  pub steady : (height other : ℕ) → length nodes ≤ height + n → length nodes ≤ other + n → forms nodes height starts ≡ forms nodes other starts

pub empty_row : (nodes : List Node) (kind : Kind) (n : ℕ) → RowRead nodes kind [] n n
empty_row nodes kind n = record {
  part = [];
  is = done;
  reads = λ height enough number head items wants frames now l.
      subst (λ ns. Goes [] (at number head items frames now) (at number head (items ++ []) frames ns)) (sym (append-nil now))
      (subst (λ is. Goes [] (at number head items frames now) (at number head is frames now)) (sym (append-nil items)) (goes_nowhere (at number head items frames now)));
  utf8 = λ height enough. IsUtf8-nil;
  steady = λ height other enough also_enough. refl;
  grouped = λ height enough frames now l rest.
      ap (λ cs. steps (cs ++ 41 ∷ rest) (state (framed 0 (Group kind) [] frames) now grouping)) chars-nil
      ∙ ap (λ ns. steps (41 ∷ rest) (at 0 (Group kind) [] frames ns)) (sym (append-nil now));
}

deeper : (nodes part : List Node) (n a height : ℕ) → Part nodes n a part → length nodes ≤ height + n → length nodes ≤ height + a
deeper nodes part n a height is enough = let e : length part + n ≡ a = long is in omega arith

reached : (nodes now part : List Node) (n a : ℕ) → length now ≡ n → Part nodes n a part → length (now ++ part) ≡ a
reached nodes now part n a l is = let e : length part + n ≡ a = long is in length-append now part ∙ omega arith

-- one more item is wanted after
wants_later : (head : Head) (kind : Kind) (items : List Item) (i : Item) → WantsRow head kind (length items) → WantsRow head kind (length (items ++ i ∷ []))
wants_later head kind items i wants k h = wants k (let e = length-append items (i ∷ []) in omega arith)

wants_group : (kind : Kind) (least : ℕ) → WantsRow (Group kind) kind least
wants_group kind least k h = wants_more (Group kind) kind k refl (omega arith)

-- the first of the trees, and the others
row_on : (nodes : List Node) (kind : Kind) (n a m : ℕ) (starts : List ℕ) (tree : TreeRead nodes kind n a) (row : RowRead nodes kind starts a m)
    (height : ℕ) → length nodes ≤ height + n → (number : ℕ) (head : Head) (items : List Item) → WantsRow head kind (length items)
    → (frames : List Frame) (now : List Node) → length now ≡ n
    → Goes (behind_spaces (forms nodes height starts)) (at number head (items ++ ANode n ∷ []) frames (now ++ tree.part))
    (at number head (items ++ ANode n ∷ map ANode starts) frames (now ++ (tree.part ++ row.part)))
row_on nodes kind n a m starts tree row height enough number head items wants frames now l =
    let from = at number head (items ++ ANode n ∷ []) frames (now ++ tree.part) in
    subst (λ ns. Goes (behind_spaces (forms nodes height starts)) from (at number head (items ++ ANode n ∷ map ANode starts) frames ns)) (append_assoc now tree.part row.part)
    (subst (λ is. Goes (behind_spaces (forms nodes height starts)) from (at number head is frames ((now ++ tree.part) ++ row.part))) (append_assoc items (ANode n ∷ []) (map ANode starts))
    (row.reads height (deeper nodes tree.part n a height tree.is enough) number head (items ++ ANode n ∷ []) (wants_later head kind items (ANode n) wants) frames (now ++ tree.part)
    (reached nodes now tree.part n a l tree.is)))

pub longer_row : {nodes : List Node} {kind : Kind} {n a m : ℕ} {starts : List ℕ} → TreeRead nodes kind n a → RowRead nodes kind starts a m → RowRead nodes kind (n ∷ starts) n m
longer_row {nodes = nodes} {kind = kind} {n = n} {a = a} {m = m} {starts = starts} tree row = record {
  part = tree.part ++ row.part;
  is = joined tree.is row.is;
  reads = λ height enough number head items wants frames now l.
      goes_on (32 ∷ form_within height nodes n) (behind_spaces (forms nodes height starts)) (at number head items frames now)
      (at number head (items ++ ANode n ∷ []) frames (now ++ tree.part)) (at number head (items ++ ANode n ∷ map ANode starts) frames (now ++ (tree.part ++ row.part)))
      (tree_item (form_within height nodes n) kind n tree.part (tree.reads height enough) number head items frames now (wants (length items) (omega arith)) l)
      (row_on nodes kind n a m starts tree row height enough number head items wants frames now l);
  steady = λ height other enough also_enough.
      ap (λ w. w ∷ forms nodes height starts) (tree.steady height other enough also_enough)
      ∙ ap (λ ws. form_within other nodes n ∷ ws) (row.steady height other (deeper nodes tree.part n a height tree.is enough) (deeper nodes tree.part n a other tree.is also_enough));
  utf8 = λ height enough.
      IsUtf8-append (form_within height nodes n) (behind_spaces (forms nodes height starts)) (tree.reads height enough).utf8
      (row.reads height (deeper nodes tree.part n a height tree.is enough) 0 (Group kind) [] (wants_group kind 0) [] (replicate a no_node) (length-replicate a no_node)).utf8;
  grouped = λ height enough frames now l rest.
      let on = row_on nodes kind n a m starts tree row height enough 0 (Group kind) [] (wants_group kind 0) frames now l in
      let from = state (framed 0 (Group kind) [] frames) now grouping in
      ap (λ cs. steps cs from) (split (form_within height nodes n) (behind_spaces (forms nodes height starts)) (41 ∷ rest) (tree.reads height enough).utf8)
      ∙ (tree.reads height enough).reads (framed 0 (Group kind) [] frames) now l from refl (chars (behind_spaces (forms nodes height starts)) ++ 41 ∷ rest)
      ∙ on.reads (41 ∷ rest) bracket;
}

pub numbers_are : (starts : List ℕ) → numbers (map ANode starts) ≡ starts
numbers_are [] = refl
numbers_are (n ∷ starts) = ap (λ ns. n ∷ ns) (numbers_are starts)

-- more trees of a form
pub then_row : {nodes : List Node} {n : ℕ} {first head : Head} {texts : ℕ → List (List ℕ)} {items : List Item} {a m : ℕ} {kind : Kind} {starts : List ℕ} → Going nodes n first head texts items a
    → RowRead nodes kind starts a m → ((k : ℕ) → length items ≤ k → wanted head k ≡ Some (Tree kind))
    → Going nodes n first head (λ height. texts height ++ map (form_within height nodes) starts) (items ++ map ANode starts) m
then_row {nodes = nodes} {n = n} {head = head} {items = items} {m = m} {starts = starts} g row wants =
    further g (λ height. forms nodes height starts) head (items ++ map ANode starts) row.part m row.is (λ height enough frames now l. row.reads height enough n head items wants frames now l) row.steady

opens_group : (number : ℕ) (head : Head) (items : List Item) (frames : List Frame) (nodes : List Node) (kind : Kind) → wanted head (length items) ≡ Some (Grouped kind)
    → step 40 (state (framed number head items frames) nodes before) ≡ Some (state (framed 0 (Group kind) [] (framed number head items frames)) nodes grouping)
opens_group number head items frames nodes kind e = ap (λ o. open_wanted o (state (framed number head items frames) nodes whole)) e

closes_group : (number : ℕ) (head : Head) (items : List Item) (frames : List Frame) (nodes : List Node) (kind : Kind) (starts : List ℕ)
    → step 41 (at 0 (Group kind) (map ANode starts) (framed number head items frames) nodes) ≡ Some (at number head (items ++ ANodes starts ∷ []) frames nodes)
closes_group number head items frames nodes kind starts =
    closes_form 0 (Group kind) (map ANode starts) (framed number head items frames) nodes (may_end (Group kind) kind (length (map ANode starts)) refl (omega arith))
    ∙ ap (λ ns. close_in (framed number head items frames) (ANodes ns) nodes) (numbers_are starts)

-- trees between brackets
pub then_group : {nodes : List Node} {n : ℕ} {first head : Head} {texts : ℕ → List (List ℕ)} {items : List Item} {a m : ℕ} {kind : Kind} {starts : List ℕ} → Going nodes n first head texts items a
    → RowRead nodes kind starts a m → wanted head (length items) ≡ Some (Grouped kind)
    → Going nodes n first head (λ height. texts height ++ enclosed (map (form_within height nodes) starts) ∷ []) (items ++ ANodes starts ∷ []) m
then_group {nodes = nodes} {n = n} {head = head} {items = items} {m = m} {kind = kind} {starts = starts} g row wants =
    further g (λ height. enclosed (forms nodes height starts) ∷ []) head (items ++ ANodes starts ∷ []) row.part m row.is (λ height enough frames now l.
    let text = spaced (forms nodes height starts) in
    let from = at n head items frames now in
    let to = at n head (items ++ ANodes starts ∷ []) frames (now ++ row.part) in
    one (enclosed (forms nodes height starts)) from to
    (item (enclosed (forms nodes height starts)) from to (bracketed_utf8 text (row.utf8 height enough)) (λ rest h.
    ap (λ cs. steps (32 ∷ cs) from) (bracketed text rest (row.utf8 height enough))
    ∙ reads_one 32 (40 ∷ (chars text ++ 41 ∷ rest)) from (state (framed n head items frames) now before) (space_wanted n head items frames now (Grouped kind) wants)
    ∙ reads_one 40 (chars text ++ 41 ∷ rest) (state (framed n head items frames) now before) (state (framed 0 (Group kind) [] (framed n head items frames)) now grouping)
    (opens_group n head items frames now kind wants)
    ∙ row.grouped height enough (framed n head items frames) now l rest
    ∙ reads_one 41 rest (at 0 (Group kind) (map ANode starts) (framed n head items frames) (now ++ row.part)) to (closes_group n head items frames (now ++ row.part) kind starts))))
    (λ height other enough also_enough. ap (λ ws. enclosed ws ∷ []) (row.steady height other enough also_enough))
