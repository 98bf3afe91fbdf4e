-- What stands in the forms that are open while a text is read, in terms of the nodes of its end.
use Rattle.std.proofs.Common.{◌≡◌, ℕ, zero, suc, ◌<◌, ◌≤◌, ◌⊎◌, Bool, true, false, List, [], ◌∷◌, ◌++◌, length, Option, Some, refl, sym, ◌∙◌, ap, subst, arith}
use Rattle.std.specs.Prelude.{slice_get, slice_set}
use Rattle.std.specs.Char.{IsScalar}
use Rattle.std.specs.Str.{IsUtf8}
use Rattle.std.proofs.lemmas.List.{length-set}
use Rattle.def_kernel.specs.declared.node.Node.{Node}
use Rattle.def_kernel.specs.declared.reader.Item.{Item}
use Rattle.def_kernel.specs.declared.reader.Item.TheVariants.{Node as ANode, Nodes as ANodes}
use Rattle.def_kernel.specs.declared.reader.Frame.{Frame}
use Rattle.def_kernel.specs.declared.reader.Mode.{Mode}
use Rattle.def_kernel.specs.declared.reader.Mode.TheVariants.{Opening as opening, Heading as heading, Behind as behind, Before as before, Grouping as grouping, Exiting as exiting, Bare as bare, Negative as negative, Digits as digits, Text as text, TextEscape as text_escape, TextNumber as text_number, Character as character, CharacterEscape as character_escape, CharacterNumber as character_number, CharacterEnd as character_end, Whole as whole}
use Rattle.def_kernel.specs.declared.reader.State.{State}
use Rattle.def_kernel.specs.declared.shape.Kind.{Kind}
use Rattle.def_kernel.specs.declared.shape.Kind.TheVariants.{Expression}
use Rattle.def_kernel.specs.declared.shape.Head.{Head}
use Rattle.def_kernel.specs.declared.shape.Head.TheVariants as head
use Rattle.def_kernel.specs.declared.shape.Want.{Want}
use Rattle.def_kernel.specs.declared.shape.Want.TheVariants as want
use Rattle.def_kernel.specs.Reading.{node_of, numbers, ends, next_wanted, may_exit, add_item}
use Rattle.std.proofs.Common.{append_assoc, map}
use Rattle.def_kernel.specs.Trees.{Has, IsInt, Tree, Row}
use Rattle.law_kernel_form.proofs.Parts.{long}
use Rattle.law_kernel_form.proofs.Steps.{state, framed, at, closed}
use Rattle.law_kernel_form.proofs.ReadingTrees.{tree_read, row_read}
use Rattle.std.proofs.lemmas.List.{append-nil}
use Rattle.std.proofs.lemmas.Option.{same_Some}
use Rattle.def_kernel.specs.Forms.{enclosed, spaced, items as written}
use Rattle.law_kernel_form.proofs.Writing.{IsSigned, Ready, ready_more, gap, gap_added, open_text, up_to_item, mode_text, text_at, item_text, inner_words, last_form, read_text, item_added}
use Rattle.law_kernel_form.proofs.Shapes.{written_words, group_words, ItemFits, a_tree, a_group, a_name, a_verb, a_literal, Fits, no_more, also, fits_more, Of, closes, closes_row}

mutual
  -- a tree of this kind may stand here, behind so many nodes
  pub data Place (nodes : List Node) : List Frame → Kind → ℕ → Type 0 where
    at_root : Place nodes [] Expression 0
    inside : {frames : List Frame} {kind : Kind} {n : ℕ} → Open nodes frames n → next_wanted frames ≡ Some (want.Tree kind) → Place nodes frames kind n

  -- the items of the open forms fit their shapes, and so many nodes were begun
  pub data Open (nodes : List Node) : List Frame → ℕ → Type 0 where
    a_form : {frames : List Frame} {kind : Kind} {n m : ℕ} {shape : Head} {items : List Item} → Place nodes frames kind n → Of kind shape → Ready shape items → Fits nodes shape 0 items (suc n) m
        → Open nodes (framed n shape items frames) m
    trees : {frames : List Frame} {kind : Kind} {n m : ℕ} {items : List Item} → Open nodes frames n → next_wanted frames ≡ Some (want.Group kind) → Fits nodes (head.Group kind) 0 items n m
        → Open nodes (framed 0 (head.Group kind) items frames) m

-- what a text is
abbrev pub text_want : Bool → Want
text_want true = want.Verb
text_want false = want.Literal

abbrev pub Next : List Node → List Frame → ℕ → Want → Type 0
Next nodes frames m wants = Open nodes frames m × (next_wanted frames ≡ Some wants)

abbrev pub WordNext : List Frame → Type 0
WordNext frames = (next_wanted frames ≡ Some want.Name) ⊎ (next_wanted frames ≡ Some want.Verb)

-- what is known where reading stands, by what is to come
abbrev pub Stands : List Node → List Frame → ℕ → Mode → Type 0
Stands nodes frames m (opening kind) = Place nodes frames kind m
Stands nodes frames m (heading kind w) = Place nodes frames kind m
Stands nodes frames m behind = Open nodes frames m × (gap (last_form nodes) frames ≡ 32 ∷ [])
Stands nodes frames m before = Open nodes frames m
Stands nodes frames m grouping = Open nodes frames m × (gap (last_form nodes) frames ≡ [])
Stands nodes frames m (exiting w) = Open nodes frames m × (may_exit frames ≡ true)
Stands nodes frames m (bare w) = Open nodes frames m × (WordNext frames × IsUtf8 w)
Stands nodes frames m negative = Next nodes frames m want.Literal
Stands nodes frames m (digits minus z) = Next nodes frames m want.Literal × (IsInt z × IsSigned minus z)
Stands nodes frames m (text verb w) = Next nodes frames m (text_want verb) × IsUtf8 w
Stands nodes frames m (text_escape verb w) = Next nodes frames m (text_want verb) × IsUtf8 w
Stands nodes frames m (text_number verb w place) = Next nodes frames m (text_want verb) × IsUtf8 w
Stands nodes frames m character = Next nodes frames m want.Literal
Stands nodes frames m character_escape = Next nodes frames m want.Literal
Stands nodes frames m (character_number place) = Next nodes frames m want.Literal
Stands nodes frames m (character_end e) = Next nodes frames m want.Literal × IsScalar e
Stands nodes frames m whole = Tree nodes Expression 0 m

abbrev pub StandsAt : List Node → State → Type 0
StandsAt nodes s = Stands nodes s.frames (length s.nodes) s.mode

-- no open form has this number
abbrev pub Untouched : ℕ → List Frame → Type 0
Untouched i [] = Unit {0}
Untouched i (frame ∷ frames) = (frame.number ≡ i → ⊥) × Untouched i frames

-- a node that no open form has stays
pub record Kept (i : ℕ) (s t : State) : Type 0 where
  pub same : slice_get t.nodes i ≡ slice_get s.nodes i
  pub within : i < length t.nodes
  pub untouched : Untouched i t.frames

-- the last nodes are these, apart from those of open forms
pub record Later (last : List Node) (s : State) : Type 0 where
  pub same : (i : ℕ) → 0 < i → i < length s.nodes → Untouched i s.frames → slice_get last i ≡ slice_get s.nodes i
  pub ended : s.mode ≡ whole → last ≡ s.nodes

-- what a step over these bytes keeps, where it leads, and that the text so far grows by them
pub record Good (last : List Node) (x : List ℕ) (s t : State) : Type 0 where
  pub keeps : (i : ℕ) → 0 < i → i < length s.nodes → Untouched i s.frames → Kept i s t
  pub stands : StandsAt last s → Later last t → StandsAt last t
  pub says : StandsAt last s → Later last t → read_text last s ++ x ≡ read_text last t

pub earlier : (last : List Node) (x : List ℕ) (s t : State) → (s.mode ≡ whole → ⊥) → Good last x s t → Later last t → Later last s
earlier last x s t goes_on good later = record {
  same = λ i some within untouched. let k = good.keeps i some within untouched in later.same i some k.within k.untouched ∙ k.same;
  ended = λ e. absurd (goes_on e);
}

pub one_by_one : (last : List Node) (x : List ℕ) (s u t : State) → (u.mode ≡ whole → ⊥) → Good last [] s u → Good last x u t → Good last x s t
one_by_one last x s u t goes_on first good = record {
  keeps = λ i some within untouched.
      let k = first.keeps i some within untouched in let l = good.keeps i some k.within k.untouched in
      record { same = l.same ∙ k.same; within = l.within; untouched = l.untouched };
  stands = λ is later. good.stands (first.stands is (earlier last x u t goes_on good later)) later;
  says = λ is later.
      let l = earlier last x u t goes_on good later in
      ap (λ w. w ++ x) (sym (append-nil (read_text last s)) ∙ first.says is l) ∙ good.says (first.stands is l) later;
}

-- the mode alone changes
pub stays : (last : List Node) (x : List ℕ) (frames : List Frame) (nodes : List Node) (mode new : Mode) → (Stands last frames (length nodes) mode → Stands last frames (length nodes) new)
    → (Stands last frames (length nodes) mode → text_at (last_form last) frames mode ++ x ≡ text_at (last_form last) frames new)
    → Good last x (state frames nodes mode) (state frames nodes new)
stays last x frames nodes mode new leads says = record {
  keeps = λ i some within untouched. record { same = refl; within = within; untouched = untouched };
  stands = λ is later. leads is;
  says = λ is later. says is;
}

-- what of an item was read grows
pub grown : (a b x c : List ℕ) → b ++ x ≡ c → (a ++ b) ++ x ≡ a ++ c
grown a b x c e = append_assoc a b x ∙ ap (λ w. a ++ w) e

untouched_more : (i : ℕ) (item : Item) (frames : List Frame) → Untouched i frames → Untouched i (add_item item frames)
untouched_more i item [] h = h
untouched_more i item (frame ∷ frames) h = h

pub open_more : {nodes : List Node} {frames : List Frame} {n m : ℕ} {item : Item} → Open nodes frames n → ItemFits nodes (next_wanted frames) item n m → Open nodes (add_item item frames) m
open_more (a_form {shape = shape} {items = items} place of ready fits) f = a_form place of (ready_more shape items _ ready) (fits_more (length items) (omega arith) fits f)
open_more (trees {items = items} opened wants fits) f = trees opened wants (fits_more (length items) (omega arith) fits f)

none_open : {nodes : List Node} {m : ℕ} → Open nodes [] m → ⊥
none_open opened = elim opened [ ]

filled : {nodes : List Node} {m : ℕ} (form : ℕ → List ℕ) (item : Item) (frames : List Frame) → Open nodes (add_item item frames) m → gap form (add_item item frames) ≡ 32 ∷ []
filled form item [] opened = absurd (none_open opened)
filled form item (frame ∷ frames) opened = gap_added form frame.head frame.items item

text_more : {nodes : List Node} {frames : List Frame} {m : ℕ} (form : ℕ → List ℕ) (item : Item) → Open nodes frames m → open_text form (add_item item frames) ≡ up_to_item form frames ++ item_text form item
text_more form item (a_form {frames = frames} {n = n} {shape = shape} {items = items} place of ready fits) = item_added form n shape items frames item ready
text_more form item (trees {frames = frames} {kind = kind} {items = items} opened wants fits) = item_added form 0 (head.Group kind) items frames item tt

-- an item is added
pub adds : (last : List Node) (x : List ℕ) (frames : List Frame) (nodes : List Node) (mode : Mode) (item : Item) → (Stands last frames (length nodes) mode → Open last frames (length nodes))
    → (Stands last frames (length nodes) mode → Open last (add_item item frames) (length nodes))
    → text_at (last_form last) frames mode ≡ up_to_item (last_form last) frames ++ mode_text mode
    → (Stands last frames (length nodes) mode → mode_text mode ++ x ≡ item_text (last_form last) item)
    → Good last x (state frames nodes mode) (state (add_item item frames) nodes behind)
adds last x frames nodes mode item opened leads at same = record {
  keeps = λ i some within untouched. record { same = refl; within = within; untouched = untouched_more i item frames untouched };
  stands = λ is later. (leads is, filled (last_form last) item frames (leads is));
  says = λ is later.
      ap (λ w. w ++ x) at ∙ grown (up_to_item (last_form last) frames) (mode_text mode) x (item_text (last_form last) item) (same is) ∙ sym (text_more (last_form last) item (opened is));
}

-- numbers grow
tree_order : {nodes : List Node} {kind : Kind} {a b : ℕ} → Tree nodes kind a b → a ≤ b
tree_order t = let e = long (tree_read t).is in omega arith

row_order : {nodes : List Node} {kind : Kind} {starts : List ℕ} {a b : ℕ} → Row nodes kind starts a b → a ≤ b
row_order t = let e = long (row_read t).is in omega arith

item_order : {nodes : List Node} {o : Option Want} {i : Item} {a b : ℕ} → ItemFits nodes o i a b → a ≤ b
item_order (a_tree t) = tree_order t
item_order (a_group t) = row_order t
item_order (a_name is) = omega arith
item_order (a_verb is) = omega arith
item_order (a_literal is) = omega arith

fits_order : {nodes : List Node} {shape : Head} {k : ℕ} {items : List Item} {a b : ℕ} → Fits nodes shape k items a b → a ≤ b
fits_order no_more = omega arith
fits_order (also f rest) = let e = item_order f in let d = fits_order rest in omega arith

pub positive : {nodes : List Node} {frames : List Frame} {m : ℕ} → Open nodes frames m → 0 < m
positive (a_form place of ready fits) = let e = fits_order fits in omega arith
positive (trees opened wants fits) = let e = fits_order fits in let d = positive opened in omega arith

pub spared : {nodes : List Node} {frames : List Frame} {m : ℕ} (i : ℕ) → Open nodes frames m → m ≤ i → Untouched i frames
spared i (a_form at_root of ready fits) h = let e = fits_order fits in ((λ same. absurd (omega arith)), tt)
spared i (a_form (inside opened wants) of ready fits) h = let e = fits_order fits in ((λ same. absurd (omega arith)), spared i opened (omega arith))
spared i (trees opened wants fits) h = let e = fits_order fits in let d = positive opened in ((λ same. absurd (omega arith)), spared i opened (omega arith))

-- lists
pub get_set_other : (xs : List Node) (i j : ℕ) (x : Node) → (j ≡ i → ⊥) → slice_get (slice_set xs j x) i ≡ slice_get xs i
get_set_other [] i j x h = refl
get_set_other (y ∷ ys) zero zero x h = absurd (h refl)
get_set_other (y ∷ ys) zero (suc j) x h = refl
get_set_other (y ∷ ys) (suc i) zero x h = refl
get_set_other (y ∷ ys) (suc i) (suc j) x h = get_set_other ys i j x (λ e. h (ap suc e))

get_set_same : (xs : List Node) (j : ℕ) (x : Node) → j < length xs → slice_get (slice_set xs j x) j ≡ Some x
get_set_same [] j x h = absurd (omega arith)
get_set_same (y ∷ ys) zero x h = refl
get_set_same (y ∷ ys) (suc j) x h = get_set_same ys j x (omega arith)

pub get_front : (xs ys : List Node) (i : ℕ) → i < length xs → slice_get (xs ++ ys) i ≡ slice_get xs i
get_front [] ys i h = absurd (omega arith)
get_front (x ∷ xs) ys zero h = refl
get_front (x ∷ xs) ys (suc i) h = get_front xs ys i (omega arith)

-- a tree where one was wanted
tree_added : {nodes : List Node} {frames : List Frame} {kind : Kind} {n m : ℕ} → Open nodes frames n → next_wanted frames ≡ Some (want.Tree kind) → Tree nodes kind n m → Open nodes (add_item (ANode n) frames) m
tree_added {nodes = nodes} {n = n} {m = m} opened wants tree = open_more opened (subst (λ o. ItemFits nodes o (ANode n) n m) (sym wants) (a_tree tree))

abbrev is_group : Head → Bool
is_group (head.Group kind) = true
is_group _ = false

no_group_of : {kind other : Kind} → Of kind (head.Group other) → ⊥
no_group_of of = elim of [ ]

no_group_alone : {nodes : List Node} {number m : ℕ} {kind : Kind} {items : List Item} → Open nodes (framed number (head.Group kind) items []) m → ⊥
no_group_alone (trees opened wants fits) = none_open opened
no_group_alone (a_form place of ready fits) = no_group_of of

-- the node of the root is made
closes_root : (last : List Node) (number : ℕ) (shape : Head) (items : List Item) (nodes : List Node) → is_group shape ≡ false → ends shape (length items) ≡ true
    → Open last (framed number shape items []) (length nodes) → last ≡ slice_set nodes number (node_of shape items) → Tree last Expression 0 (length nodes)
closes_root last number shape items nodes no_group may_close (a_form at_root of ready fits) is =
    let e = fits_order fits in
    closes of fits may_close (ap (λ ns. slice_get ns 0) is ∙ get_set_same nodes 0 (node_of shape items) (omega arith))
closes_root last number shape items nodes no_group may_close (a_form (inside opened wants) of ready fits) is = absurd (none_open opened)
closes_root last number shape items nodes no_group may_close (trees opened wants fits) is = absurd (cc)

-- the node of a form in another is made
closes_inner : (last : List Node) (number : ℕ) (shape : Head) (items : List Item) (frame : Frame) (frames : List Frame) (nodes : List Node) → is_group shape ≡ false → ends shape (length items) ≡ true
    → Open last (framed number shape items (frame ∷ frames)) (length nodes)
    → ((i : ℕ) → 0 < i → i < length nodes → Untouched i (frame ∷ frames) → slice_get last i ≡ slice_get (slice_set nodes number (node_of shape items)) i)
    → Open last (add_item (ANode number) (frame ∷ frames)) (length nodes)
closes_inner last number shape items frame frames nodes no_group may_close (a_form (inside opened wants) of ready fits) same =
    let e = fits_order fits in
    tree_added opened wants (closes of fits may_close
    (same number (positive opened) (omega arith) (spared number opened (omega arith)) ∙ get_set_same nodes number (node_of shape items) (omega arith)))
closes_inner last number shape items frame frames nodes no_group may_close (trees opened wants fits) same = absurd (cc)

-- the form of a node that is made
form_is : {last : List Node} {n m : ℕ} {kind : Kind} {shape : Head} {items : List Item} → Of kind shape → Fits last shape 0 items (suc n) m → ends shape (length items) ≡ true
    → Has last n (node_of shape items) → enclosed (inner_words shape (map (item_text (last_form last)) items)) ≡ last_form last n
form_is {last = last} {n = n} {shape = shape} {items = items} of fits may_close has =
    let r = tree_read (closes of fits may_close has) in
    sym (r.prints (length last) (omega arith) ∙ ap (λ x. enclosed (written (last_form last) x)) (same_Some r.node (node_of shape items) (sym r.has ∙ has))
    ∙ ap enclosed (written_words (last_form last) of fits may_close))

root_text : (last : List Node) (number : ℕ) (shape : Head) (items : List Item) (nodes : List Node) → is_group shape ≡ false → ends shape (length items) ≡ true
    → Open last (framed number shape items []) (length nodes) → last ≡ slice_set nodes number (node_of shape items)
    → open_text (last_form last) (framed number shape items []) ++ 41 ∷ [] ≡ last_form last 0
root_text last number shape items nodes no_group may_close (a_form at_root of ready fits) is =
    let e = fits_order fits in
    form_is of fits may_close (ap (λ ns. slice_get ns 0) is ∙ get_set_same nodes 0 (node_of shape items) (omega arith))
root_text last number shape items nodes no_group may_close (a_form (inside opened wants) of ready fits) is = absurd (none_open opened)
root_text last number shape items nodes no_group may_close (trees opened wants fits) is = absurd (cc)

inner_text : (last : List Node) (number : ℕ) (shape : Head) (items : List Item) (frame : Frame) (frames : List Frame) (nodes : List Node) → is_group shape ≡ false → ends shape (length items) ≡ true
    → Open last (framed number shape items (frame ∷ frames)) (length nodes)
    → ((i : ℕ) → 0 < i → i < length nodes → Untouched i (frame ∷ frames) → slice_get last i ≡ slice_get (slice_set nodes number (node_of shape items)) i)
    → open_text (last_form last) (framed number shape items (frame ∷ frames)) ++ 41 ∷ [] ≡ open_text (last_form last) (add_item (ANode number) (frame ∷ frames))
inner_text last number shape items frame frames nodes no_group may_close (a_form (inside opened wants) of ready fits) same =
    let e = fits_order fits in
    let has : Has last number (node_of shape items) = same number (positive opened) (omega arith) (spared number opened (omega arith)) ∙ get_set_same nodes number (node_of shape items) (omega arith) in
    grown (up_to_item (last_form last) (frame ∷ frames)) (40 ∷ spaced (inner_words shape (map (item_text (last_form last)) items))) (41 ∷ []) (last_form last number) (form_is of fits may_close has)
    ∙ sym (text_more (last_form last) (ANode number) opened)
inner_text last number shape items frame frames nodes no_group may_close (trees opened wants fits) same = absurd (cc)

pub node_closed : (last : List Node) (number : ℕ) (shape : Head) (items : List Item) (frames : List Frame) (nodes : List Node) (mode : Mode) → is_group shape ≡ false → ends shape (length items) ≡ true
    → (Stands last (framed number shape items frames) (length nodes) mode → Open last (framed number shape items frames) (length nodes))
    → (Stands last (framed number shape items frames) (length nodes) mode → text_at (last_form last) (framed number shape items frames) mode ≡ open_text (last_form last) (framed number shape items frames))
    → Good last (41 ∷ []) (state (framed number shape items frames) nodes mode) (closed frames (ANode number) (slice_set nodes number (node_of shape items)))
node_closed last number shape items [] nodes mode no_group may_close opened text_is = record {
  keeps = λ i some within untouched. record {
    same = get_set_other nodes i number (node_of shape items) untouched.0;
    within = subst (λ k. i < k) (sym (length-set nodes number (node_of shape items))) within;
    untouched = tt;
  };
  stands = λ is later. subst (λ k. Tree last Expression 0 k) (sym (length-set nodes number (node_of shape items)))
      (closes_root last number shape items nodes no_group may_close (opened is) (later.ended refl));
  says = λ is later. ap (λ w. w ++ 41 ∷ []) (text_is is) ∙ root_text last number shape items nodes no_group may_close (opened is) (later.ended refl);
}
node_closed last number shape items (frame ∷ frames) nodes mode no_group may_close opened text_is =
    let kept = λ (later : Later last (closed (frame ∷ frames) (ANode number) (slice_set nodes number (node_of shape items)))) (i : ℕ) (some : 0 < i) (within : i < length nodes) (untouched : Untouched i (frame ∷ frames)).
    later.same i some (subst (λ k. i < k) (sym (length-set nodes number (node_of shape items))) within) untouched in
    record {
      keeps = λ i some within untouched. record {
        same = get_set_other nodes i number (node_of shape items) untouched.0;
        within = subst (λ k. i < k) (sym (length-set nodes number (node_of shape items))) within;
        untouched = untouched.1;
      };
      stands = λ is later.
          let more = closes_inner last number shape items frame frames nodes no_group may_close (opened is) (kept later) in
          (subst (λ k. Open last (add_item (ANode number) (frame ∷ frames)) k) (sym (length-set nodes number (node_of shape items))) more, filled (last_form last) (ANode number) (frame ∷ frames) more);
      says = λ is later. ap (λ w. w ++ 41 ∷ []) (text_is is) ∙ inner_text last number shape items frame frames nodes no_group may_close (opened is) (kept later);
    }

-- the trees between brackets are an item
group_open : (last : List Node) (number : ℕ) (kind : Kind) (items : List Item) (frames : List Frame) (m : ℕ) → Open last (framed number (head.Group kind) items frames) m
    → Open last (add_item (ANodes (numbers items)) frames) m
group_open last number kind items frames m (trees {n = n} opened wants fits) =
    open_more opened (subst (λ o. ItemFits last o (ANodes (numbers items)) n m) (sym wants) (a_group (closes_row fits)))
group_open last number kind items frames m (a_form place of ready fits) = absurd (no_group_of of)

group_text : (last : List Node) (number : ℕ) (kind : Kind) (items : List Item) (frames : List Frame) (m : ℕ) → Open last (framed number (head.Group kind) items frames) m
    → open_text (last_form last) (framed number (head.Group kind) items frames) ++ 41 ∷ [] ≡ open_text (last_form last) (add_item (ANodes (numbers items)) frames)
group_text last number kind items frames m (trees opened wants fits) =
    grown (up_to_item (last_form last) frames) (40 ∷ spaced (map (item_text (last_form last)) items)) (41 ∷ []) (enclosed (map (last_form last) (numbers items)))
    (ap enclosed (group_words (last_form last) fits))
    ∙ sym (text_more (last_form last) (ANodes (numbers items)) opened)
group_text last number kind items frames m (a_form place of ready fits) = absurd (no_group_of of)

pub group_closed : (last : List Node) (number : ℕ) (kind : Kind) (items : List Item) (frames : List Frame) (nodes : List Node) (mode : Mode)
    → (Stands last (framed number (head.Group kind) items frames) (length nodes) mode → Open last (framed number (head.Group kind) items frames) (length nodes))
    → (Stands last (framed number (head.Group kind) items frames) (length nodes) mode
    → text_at (last_form last) (framed number (head.Group kind) items frames) mode ≡ open_text (last_form last) (framed number (head.Group kind) items frames))
    → Good last (41 ∷ []) (state (framed number (head.Group kind) items frames) nodes mode) (closed frames (ANodes (numbers items)) nodes)
group_closed last number kind items [] nodes mode opened text_is = record {
  keeps = λ i some within untouched. record { same = refl; within = within; untouched = tt };
  stands = λ is later. absurd (no_group_alone (opened is));
  says = λ is later. absurd (no_group_alone (opened is));
}
group_closed last number kind items (frame ∷ frames) nodes mode opened text_is = record {
  keeps = λ i some within untouched. record { same = refl; within = within; untouched = untouched.1 };
  stands = λ is later.
      let more = group_open last number kind items (frame ∷ frames) (length nodes) (opened is) in (more, filled (last_form last) (ANodes (numbers items)) (frame ∷ frames) more);
  says = λ is later. ap (λ w. w ++ 41 ∷ []) (text_is is) ∙ group_text last number kind items (frame ∷ frames) (length nodes) (opened is);
}
