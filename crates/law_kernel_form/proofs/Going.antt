-- Forms that are read item by item.
use Rattle.std.proofs.Common.{◌≡◌, ℕ, zero, suc, ◌+◌, ◌<◌, ◌≤◌, cond, ◌&&◌, true, false, List, [], ◌∷◌, ◌++◌, length, replicate, Option, Some, None, refl, sym, ◌∙◌, ap, subst, arith, append_assoc, length-append}
use Rattle.std.specs.Prelude.{slice_get, slice_set, codes, ◌-◌}
use Rattle.std.specs.Char.{encode_utf8}
use Rattle.std.specs.Str.{chars, IsUtf8}
use Rattle.std.specs.List.{flat_map}
use Rattle.std.proofs.lemmas.Grind.{flat_map-append}
use Rattle.std.proofs.lemmas.Bool.{le-ltb, le-leb}
use Rattle.std.proofs.lemmas.List.{append-nil, length-replicate}
use Rattle.std.proofs.lemmas.Option.{slice_get_within}
use Rattle.std.proofs.lemmas.Str.{IsUtf8-append}
use Rattle.std.proofs.Math.Seq.{set-append_seam}
use Rattle.def_kernel.specs.declared.node.Node.{Node}
use Rattle.def_kernel.specs.declared.reader.Item.{Item}
use Rattle.def_kernel.specs.declared.reader.Item.TheVariants.{Node as ANode}
use Rattle.def_kernel.specs.declared.reader.Frame.{Frame}
use Rattle.def_kernel.specs.declared.reader.Mode.TheVariants.{Heading as heading}
use Rattle.def_kernel.specs.declared.reader.State.{State}
use Rattle.def_kernel.specs.declared.shape.Head.{Head}
use Rattle.def_kernel.specs.declared.shape.Head.TheVariants.{Def, DefExit}
use Rattle.def_kernel.specs.declared.shape.Kind.{Kind}
use Rattle.def_kernel.specs.declared.shape.Want.TheVariants.{Tree}
use Rattle.def_kernel.specs.declared.shape.Tail.TheVariants.{Many}
use Rattle.def_kernel.specs.Forms.{enclosed, items as written, form_of, form_within}
use Rattle.def_kernel.specs.Reading.{step, no_node, node_of, wanted, more, fixed, tail, ends, tail_ends, close_in, close_frame}
use Rattle.def_kernel.specs.Trees.{Has}
use Rattle.law_kernel_form.proofs.Parts.{Part, done, there, joined, long}
use Rattle.law_kernel_form.proofs.Steps.{steps, reads_one, Stops, space, bracket, Goes, goes_nowhere, goes_on, split, bracketed, bracketed_utf8, item, state, at, closed, closes_in, ReadsTree, tree_item}
use Rattle.law_kernel_form.proofs.Heads.{Begins}

-- texts with a space before each
abbrev pub behind_spaces : List (List ℕ) → List ℕ
behind_spaces ws = flat_map (λ v. 32 ∷ v) ws

pub one : (w : List ℕ) (s t : State) → Goes (32 ∷ w) s t → Goes (behind_spaces (w ∷ [])) s t
one w s t goes = subst (λ text. Goes text s t) (sym (append-nil (32 ∷ w))) goes

-- what is wanted, and what may end, behind enough items of a form with any number of trees
pub wants_more : (head : Head) (kind : Kind) (k : ℕ) → tail head ≡ Many kind → length (fixed head) ≤ k → wanted head k ≡ Some (Tree kind)
wants_more head kind k many enough =
    ap (λ b. cond b (slice_get (fixed head) k) (more (tail head) (k - length (fixed head)))) (le-ltb k (length (fixed head)) enough)
    ∙ ap (λ t. more t (k - length (fixed head))) many

pub may_end : (head : Head) (kind : Kind) (k : ℕ) → tail head ≡ Many kind → length (fixed head) ≤ k → ends head k ≡ true
may_end head kind k many enough =
    ap (λ b. b && tail_ends (tail head) (k - length (fixed head))) (le-leb (length (fixed head)) k enough)
    ∙ ap (λ t. tail_ends t (k - length (fixed head))) many

-- the bracket behind a form that may end
pub closes_form : (number : ℕ) (head : Head) (items : List Item) (frames : List Frame) (nodes : List Node) → ends head (length items) ≡ true
    → step 41 (at number head items frames nodes) ≡ close_frame head number items frames nodes
closes_form number head items frames nodes e =
    ap (λ b. elim b as (λ _. Option State) [ true ↦ close_frame head number items frames nodes | false ↦ None ]) e

-- a tree of these nodes is read
pub record TreeRead (nodes : List Node) (kind : Kind) (n m : ℕ) : Type 0 where
  pub part : List Node
  pub is : Part nodes n m part
  pub reads : (height : ℕ) → length nodes ≤ height + n → ReadsTree (form_within height nodes n) kind n part
  pub node : Node
  pub has : Has nodes n node
  pub steady : (height other : ℕ) → length nodes ≤ height + n → length nodes ≤ other + n → form_within height nodes n ≡ form_within other nodes n
  pub prints : (height : ℕ) → length nodes ≤ height + n → form_within height nodes n ≡ enclosed (written (form_within height nodes) node)

-- A form of the node with this number, which was begun, is read as far as these items. Its nodes so far end before the last
-- number.
pub record Going (nodes : List Node) (n : ℕ) (first head : Head) (texts : ℕ → List (List ℕ)) (items : List Item) (m : ℕ) : Type 0 where
  pub part : List Node
  pub is : Part nodes (suc n) m part
  pub reads : (height : ℕ) → length nodes ≤ height + suc n → (frames : List Frame) (start : List Node) → length start ≡ n
      → Goes (behind_spaces (texts height)) (at n first [] frames (start ++ no_node ∷ [])) (at n head items frames (start ++ no_node ∷ part))
  pub steady : (height other : ℕ) → length nodes ≤ height + suc n → length nodes ≤ other + suc n → texts height ≡ texts other

pub begin : (nodes : List Node) (n : ℕ) (head : Head) → Going nodes n head head (λ _. []) [] (suc n)
begin nodes n head = record {
  part = [];
  is = done;
  reads = λ height enough frames start l. goes_nowhere (at n head [] frames (start ++ no_node ∷ []));
  steady = λ height other enough also_enough. refl;
}

-- behind these nodes
reached : (nodes start part : List Node) (n a : ℕ) → length start ≡ n → Part nodes (suc n) a part → length (start ++ no_node ∷ part) ≡ a
reached nodes start part n a l is = let e : length part + suc n ≡ a = long is in length-append start (no_node ∷ part) ∙ omega arith

deeper : (nodes part : List Node) (n a height : ℕ) → Part nodes (suc n) a part → length nodes ≤ height + suc n → length nodes ≤ height + a
deeper nodes part n a height is enough = let e : length part + suc n ≡ a = long is in omega arith

-- more texts are read, which add these nodes
pub further : {nodes : List Node} {n : ℕ} {first head : Head} {texts : ℕ → List (List ℕ)} {items : List Item} {a : ℕ} → Going nodes n first head texts items a
    → (ws : ℕ → List (List ℕ)) (new : Head) (new_items : List Item) (added : List Node) (m : ℕ) → Part nodes a m added
    → ((height : ℕ) → length nodes ≤ height + a → (frames : List Frame) (now : List Node) → length now ≡ a
    → Goes (behind_spaces (ws height)) (at n head items frames now) (at n new new_items frames (now ++ added)))
    → ((height other : ℕ) → length nodes ≤ height + a → length nodes ≤ other + a → ws height ≡ ws other)
    → Going nodes n first new (λ height. texts height ++ ws height) new_items m
further {nodes = nodes} {n = n} {first = first} {head = head} {texts = texts} {items = items} {a = a} g ws new new_items added m is reads same = record {
  part = g.part ++ added;
  is = joined g.is is;
  reads = λ height enough frames start l.
      let front = at n first [] frames (start ++ no_node ∷ []) in
      let middle = at n head items frames (start ++ no_node ∷ g.part) in
      let last = at n new new_items frames ((start ++ no_node ∷ g.part) ++ added) in
      subst (λ text. Goes text front (at n new new_items frames (start ++ no_node ∷ (g.part ++ added)))) (sym (flat_map-append (λ v. 32 ∷ v) (texts height) (ws height)))
      (subst (λ ns. Goes (behind_spaces (texts height) ++ behind_spaces (ws height)) front (at n new new_items frames ns)) (append_assoc start (no_node ∷ g.part) added)
      (goes_on (behind_spaces (texts height)) (behind_spaces (ws height)) front middle last (g.reads height enough frames start l)
      (reads height (deeper nodes g.part n a height g.is enough) frames (start ++ no_node ∷ g.part) (reached nodes start g.part n a l g.is))));
  steady = λ height other enough also_enough.
      ap (λ ts. ts ++ ws height) (g.steady height other enough also_enough)
      ∙ ap (λ ts. texts other ++ ts) (same height other (deeper nodes g.part n a height g.is enough) (deeper nodes g.part n a other g.is also_enough));
}

-- a tree
pub then_tree : {nodes : List Node} {n : ℕ} {first head : Head} {texts : ℕ → List (List ℕ)} {items : List Item} {a m : ℕ} {kind : Kind} → Going nodes n first head texts items a
    → TreeRead nodes kind a m → wanted head (length items) ≡ Some (Tree kind)
    → Going nodes n first head (λ height. texts height ++ form_within height nodes a ∷ []) (items ++ ANode a ∷ []) m
then_tree {nodes = nodes} {n = n} {head = head} {items = items} {a = a} {m = m} {kind = kind} g tree wants =
    further g (λ height. form_within height nodes a ∷ []) head (items ++ ANode a ∷ []) tree.part m tree.is (λ height enough frames now l.
    one (form_within height nodes a) (at n head items frames now) (at n head (items ++ ANode a ∷ []) frames (now ++ tree.part))
    (tree_item (form_within height nodes a) kind a tree.part (tree.reads height enough) n head items frames now wants l))
    (λ height other enough also_enough. ap (λ w. w ∷ []) (tree.steady height other enough also_enough))

-- an item that is no tree
pub then_word : {nodes : List Node} {n : ℕ} {first head : Head} {texts : ℕ → List (List ℕ)} {items : List Item} {a : ℕ} → Going nodes n first head texts items a
    → (w : List ℕ) (new : Head) (new_items : List Item) → ((frames : List Frame) (now : List Node) → Goes (32 ∷ w) (at n head items frames now) (at n new new_items frames now))
    → Going nodes n first new (λ height. texts height ++ w ∷ []) new_items a
then_word {n = n} {head = head} {items = items} {a = a} g w new new_items reads =
    further g (λ _. w ∷ []) new new_items [] a done (λ height enough frames now l.
    subst (λ ns. Goes (behind_spaces (w ∷ [])) (at n head items frames now) (at n new new_items frames ns)) (sym (append-nil now))
    (one w (at n head items frames now) (at n new new_items frames now) (reads frames now)))
    (λ height other enough also_enough. refl)

-- the word `exit`
exit_utf8 : IsUtf8 (codes "exit")
unfolding encode_utf8
exit_utf8 = (codes "exit", (refl, refl))

exit_chars : chars (codes "exit") ≡ codes "exit"
unfolding chars
exit_chars = refl

exits : (n : ℕ) (i : Item) (frames : List Frame) (now : List Node) (rest : List ℕ) → Stops rest
    → steps (32 ∷ (codes "exit" ++ rest)) (at n Def (i ∷ []) frames now) ≡ steps rest (at n DefExit (i ∷ []) frames now)
unfolding encode_utf8
exits n i frames now _ (space {cs = cs}) = refl
exits n i frames now _ (bracket {cs = cs}) = refl

pub then_exit : {nodes : List Node} {n : ℕ} {first : Head} {texts : ℕ → List (List ℕ)} {i : Item} {a : ℕ} → Going nodes n first Def texts (i ∷ []) a
    → Going nodes n first DefExit (λ height. texts height ++ codes "exit" ∷ []) (i ∷ []) a
then_exit {n = n} {i = i} g = then_word g (codes "exit") DefExit (i ∷ []) (λ frames now.
    item (codes "exit") (at n Def (i ∷ []) frames now) (at n DefExit (i ∷ []) frames now) exit_utf8 (λ rest h.
    ap (λ cs. steps (32 ∷ (cs ++ rest)) (at n Def (i ∷ []) frames now)) exit_chars ∙ exits n i frames now rest h))

-- the bracket is closed, and the node is made
closes_node : (n : ℕ) (head : Head) (items : List Item) (frames : List Frame) (start part : List Node) (node : Node)
    → ((ns : List Node) → close_frame head n items frames ns ≡ close_in frames (ANode n) (slice_set ns n (node_of head items)))
    → ends head (length items) ≡ true → node_of head items ≡ node → length start ≡ n
    → step 41 (at n head items frames (start ++ no_node ∷ part)) ≡ Some (closed frames (ANode n) (start ++ node ∷ part))
closes_node n head items frames start part node is_node may_close made l =
    closes_form n head items frames (start ++ no_node ∷ part) may_close ∙ is_node (start ++ no_node ∷ part)
    ∙ ap (λ x. close_in frames (ANode n) (slice_set (start ++ no_node ∷ part) n x)) made
    ∙ ap (λ k. close_in frames (ANode n) (slice_set (start ++ no_node ∷ part) k node)) (sym l)
    ∙ ap (λ ns. close_in frames (ANode n) ns) (set-append_seam start no_node part node)
    ∙ closes_in frames (ANode n) (start ++ node ∷ part)

-- the whole form is read
whole_form : (kind : Kind) (word : List ℕ) (first head : Head) (ws : List (List ℕ)) (items : List Item) (n : ℕ) (part : List Node) (node : Node) → Begins kind word first
    → ((frames : List Frame) (start : List Node) → length start ≡ n → Goes (behind_spaces ws) (at n first [] frames (start ++ no_node ∷ [])) (at n head items frames (start ++ no_node ∷ part)))
    → ((frames : List Frame) (ns : List Node) → close_frame head n items frames ns ≡ close_in frames (ANode n) (slice_set ns n (node_of head items)))
    → ends head (length items) ≡ true → node_of head items ≡ node → ReadsTree (enclosed (word ∷ ws)) kind n (node ∷ part)
whole_form kind word first head ws items n part node begins goes is_node may_close made =
    let some = goes [] (replicate n no_node) (length-replicate n no_node) in
    let text = behind_spaces ws in
    record {
      utf8 = bracketed_utf8 (word ++ text) (IsUtf8-append word text begins.utf8 some.utf8);
      reads = λ frames start l s opens rest.
          let go = goes frames start l in
          let inner : List ℕ = chars text ++ 41 ∷ rest in
          ap (λ cs. steps cs s) (bracketed (word ++ text) rest (IsUtf8-append word text begins.utf8 some.utf8)
          ∙ ap (λ cs. 40 ∷ cs) (split word text (41 ∷ rest) begins.utf8 ∙ ap (λ cs. cs ++ inner) begins.spelled))
          ∙ reads_one 40 (word ++ inner) s (state frames start (heading kind [])) opens
          ∙ begins.reads inner (go.stops (41 ∷ rest) bracket) frames start
          ∙ ap (λ k. steps inner (at k first [] frames (start ++ no_node ∷ []))) l
          ∙ go.reads (41 ∷ rest) bracket
          ∙ reads_one 41 rest (at n head items frames (start ++ no_node ∷ part)) (closed frames (ANode n) (start ++ node ∷ part))
          (closes_node n head items frames start part node (is_node frames) may_close made l);
    }

-- at each height that is enough
at_height : (nodes : List Node) (n : ℕ) (node : Node) (kind : Kind) (part : List Node) → Has nodes n node
    → ((height : ℕ) → length nodes ≤ height + suc n → ReadsTree (enclosed (written (form_within height nodes) node)) kind n part)
    → (height : ℕ) → length nodes ≤ height + n → ReadsTree (form_within height nodes n) kind n part
at_height nodes n node kind part has reads zero enough = let within : n < length nodes = slice_get_within nodes n node has in absurd (omega arith)
at_height nodes n node kind part has reads (suc height) enough =
    subst (λ o. ReadsTree (form_of (form_within height nodes) o) kind n part) (sym has) (reads height (omega arith))

-- its form at all heights that are enough
steady_at : (nodes : List Node) (n : ℕ) (node : Node) (word : List ℕ) (texts : ℕ → List (List ℕ)) → Has nodes n node → ((height : ℕ) → written (form_within height nodes) node ≡ word ∷ texts height)
    → ((height other : ℕ) → length nodes ≤ height + suc n → length nodes ≤ other + suc n → texts height ≡ texts other)
    → (height other : ℕ) → length nodes ≤ height + n → length nodes ≤ other + n → form_within height nodes n ≡ form_within other nodes n
steady_at nodes n node word texts has same steady zero other enough also_enough = let within : n < length nodes = slice_get_within nodes n node has in absurd (omega arith)
steady_at nodes n node word texts has same steady (suc height) zero enough also_enough = let within : n < length nodes = slice_get_within nodes n node has in absurd (omega arith)
steady_at nodes n node word texts has same steady (suc height) (suc other) enough also_enough =
    ap (λ o. form_of (form_within height nodes) o) has
    ∙ ap enclosed (same height ∙ ap (λ ts. word ∷ ts) (steady height other (omega arith) (omega arith)) ∙ sym (same other))
    ∙ sym (ap (λ o. form_of (form_within other nodes) o) has)

-- its form, by the forms of its parts
prints_at : (nodes : List Node) (n : ℕ) (node : Node) (word : List ℕ) (texts : ℕ → List (List ℕ)) → Has nodes n node → ((height : ℕ) → written (form_within height nodes) node ≡ word ∷ texts height)
    → ((height other : ℕ) → length nodes ≤ height + suc n → length nodes ≤ other + suc n → texts height ≡ texts other)
    → (height : ℕ) → length nodes ≤ height + n → form_within height nodes n ≡ enclosed (written (form_within height nodes) node)
prints_at nodes n node word texts has same steady zero enough = let within : n < length nodes = slice_get_within nodes n node has in absurd (omega arith)
prints_at nodes n node word texts has same steady (suc height) enough =
    ap (λ o. form_of (form_within height nodes) o) has
    ∙ ap enclosed (same height ∙ ap (λ ts. word ∷ ts) (steady height (suc height) (omega arith) (omega arith)) ∙ sym (same (suc height)))

pub node_read : {nodes : List Node} {n : ℕ} {kind : Kind} {word : List ℕ} {first head : Head} {texts : ℕ → List (List ℕ)} {items : List Item} {m : ℕ} (node : Node)
    → Has nodes n node → Begins kind word first → Going nodes n first head texts items m
    → ((frames : List Frame) (ns : List Node) → close_frame head n items frames ns ≡ close_in frames (ANode n) (slice_set ns n (node_of head items)))
    → ends head (length items) ≡ true → node_of head items ≡ node → ((height : ℕ) → written (form_within height nodes) node ≡ word ∷ texts height) → TreeRead nodes kind n m
node_read {nodes = nodes} {n = n} {kind = kind} {word = word} {first = first} {head = head} {texts = texts} {items = items} node has begins g is_node may_close made same = record {
  part = node ∷ g.part;
  is = there has g.is;
  reads = at_height nodes n node kind (node ∷ g.part) has (λ height enough.
      subst (λ ws. ReadsTree (enclosed ws) kind n (node ∷ g.part)) (sym (same height))
      (whole_form kind word first head (texts height) items n g.part node begins (g.reads height enough) is_node may_close made));
  node = node;
  has = has;
  steady = steady_at nodes n node word texts has same g.steady;
  prints = prints_at nodes n node word texts has same g.steady;
}
