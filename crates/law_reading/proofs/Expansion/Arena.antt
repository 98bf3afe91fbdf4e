-- What a tree of the grammar that an arena shows expands to is one expression.
use Rattle.std.proofs.Common.{◌≡◌, ℕ, ◌<◌, List, [], ◌∷◌, ◌++◌, true, map, slice_get, Option, Some, None, option_map, Ok, Result, refl, sym, ◌∙◌, subst, ap}
use Rattle.std.specs.Str.{IsUtf8}
use Rattle.std.proofs.lemmas.List.{map-append}
use Rattle.std.proofs.lemmas.Option.{slice_get-map}
use Rattle.def_syntax.specs.declared.token.Token.{Token}
use Rattle.def_syntax.specs.declared.token.TokenKind.{TokenKind}
use Rattle.def_syntax.specs.declared.syntax.Word.{Word}
use Rattle.def_syntax.specs.declared.syntax.Shape.{Shape}
use Rattle.def_syntax.specs.Grammar.{Tree, Trees, node, none, more, leaf, shape_of}
use Rattle.ev_parser.specs.declared.draft.Part.{Part}
use Rattle.ev_parser.specs.declared.draft.Part.TheVariants as piece
use Rattle.ev_parser.specs.declared.draft.Node.{Node}
use Rattle.ev_parser.specs.Draft.{Shows, ShowsAll, StandBefore}
use Rattle.ev_parser.specs.Sweet.{node_of}
use Rattle.def_syntax.specs.declared.sugar.SugarNode.{SugarNode}
use Rattle.def_kernel.specs.declared.node.Node.{Node as Kernel}
use Rattle.def_kernel.specs.declared.shape.Kind.{Kind}
use Rattle.def_kernel.specs.declared.shape.Kind.TheVariants.{Expression}
use Rattle.def_kernel.specs.Trees.{IsTree}
use Rattle.ev_piece.specs.Pieces.{Piece}
use Rattle.ev_piece.specs.Placed.{placed}
use Rattle.ev_expand.specs.declared.marks.Marks.{Marks}
use Rattle.ev_expand.specs.declared.marks.Fault.{Fault}
use Rattle.ev_expand.specs.declared.part.Part.{Part as Expansion}
use Rattle.ev_expand.specs.Marked.{marked}
use Rattle.ev_expand.specs.Table.{found, part_at, piece_at, form_piece, form_part, expanded_behind}
use Rattle.ev_expand.specs.Expanded.{fault_of, tree_of, expanded_with, expanded}
use Rattle.law_reading.proofs.Reading.Whole.{slots as whole_slots, has, Whole, AllWhole}
use Rattle.law_reading.proofs.Reading.Alike.{slot}
use Rattle.law_reading.proofs.Reading.Filled.{Entry, entry_before, entry_here, expansion, expansion_entry}
use Rattle.law_reading.specs.Expansion.Fitting.{Fits}
use Rattle.law_reading.proofs.Expansion.Fitting.{placed_tree}
use Rattle.law_reading.specs.Expansion.Shapes.{sort_of, Slot, slots, Fair, AllFair, Sorted}
use Rattle.law_reading.proofs.Expansion.Parts.{Agree, nothing, tree, word}
use Rattle.law_reading.proofs.Expansion.Forms.{Good, form_fits}

-- ---- parts in the arena

-- the slots of a node's parts are those of the tree's
slots_of : (ns : List Node) (ps : List Part) (ts : Trees) → ShowsAll ns ps ts → map slot ps ≡ whole_slots ts
slots_of ns ps none h = ap (map slot) h
slots_of ns ps (more ts t) h = ap (map slot) h.2 ∙ map-append slot h.0 (piece.Tree h.1 ∷ []) ∙ ap (λ (x : List (Option TokenKind)). x ++ None ∷ []) (slots_of ns h.0 ts h.3)
slots_of ns ps (leaf ts t) h = ap (map slot) h.1 ∙ map-append slot h.0 (piece.Token t ∷ []) ∙ ap (λ (x : List (Option TokenKind)). x ++ Some t.kind ∷ []) (slots_of ns h.0 ts h.2)

agree_append : (G : Word → Type 0) (made : List Expansion) {ss rs : List Slot} {ps qs : List Part} → Agree G made ss ps → Agree G made rs qs → Agree G made (ss ++ rs) (ps ++ qs)
agree_append G made nothing b = b
agree_append G made (tree f a) b = tree f (agree_append G made a b)
agree_append G made (word e g a) b = word e g (agree_append G made a b)

-- what was made before a place is what had been made there
agree_before : (G : Word → Type 0) (made done : List Expansion) (i : ℕ) → ((k : ℕ) → k < i → piece_at made k ≡ piece_at done k) → {ss : List Slot} {ps : List Part} → Agree G made ss ps → StandBefore i ps → Agree G done ss ps
agree_before G made done i same nothing b = nothing
agree_before G made done i same (tree {kind = kind} {i = k} f a) b = tree (subst (λ (p : Piece). Fits kind p) (same k b.0) f) (agree_before G made done i same a b.1)
agree_before G made done i same (word e g a) b = word e g (agree_before G made done i same a b)

piece_before : (marks : List Marks) (N : List SugarNode) (i : ℕ) (n : SugarNode) (e : Entry (expansion marks) (expanded_behind marks [] N) i n) (k : ℕ) → k < i → piece_at (expanded_behind marks [] N) k ≡ piece_at e.0 k
unfolding piece_at part_at
piece_before marks N i n e k h = ap (λ (o : Option Expansion). (found o).piece) (entry_before (expansion marks) (expanded_behind marks [] N) i n e k h)

piece_there : (marks : List Marks) (N : List SugarNode) (i : ℕ) (n : SugarNode) (e : Entry (expansion marks) (expanded_behind marks [] N) i n) → piece_at (expanded_behind marks [] N) i ≡ form_piece marks e.0 n.form
unfolding piece_at part_at found form_part
piece_there marks N i n e = ap (λ (o : Option Expansion). (found o).piece) (entry_here (expansion marks) (expanded_behind marks [] N) i n e)

there : (s : List ℕ) (ts : List Token) (ns : List Node) (i : ℕ) (n : Node) → slice_get ns i ≡ Some n → slice_get (map (node_of s ts) ns) i ≡ Some (node_of s ts n)
there s ts ns i n e = slice_get-map (node_of s ts) ns i ∙ ap (λ (o : Option Node). option_map (node_of s ts) o) e

-- what was made in the arena of a text
abbrev made_of : List ℕ → List Token → List Node → List Expansion
made_of s ts ns = expanded_behind (marked (map (node_of s ts) ns)) [] (map (node_of s ts) ns)

node_fits : (s : List ℕ) (ts : List Token) → IsUtf8 s → (ns : List Node) (i : ℕ) (n : Node) (ss : List Slot) → slice_get ns i ≡ Some n
    → Agree (Good s ts) (made_of s ts ns) ss n.parts.items → StandBefore i n.parts.items → Sorted n.shape n.first.kind ss → Good s ts n.first → has n.shape (map slot n.parts.items) ≡ true
    → Fits (sort_of n.shape) (piece_at (made_of s ts ns) i)
node_fits s ts u ns i n ss e a b o g p =
    let N : List SugarNode = map (node_of s ts) ns in
    let x = expansion_entry (marked N) N i (node_of s ts n) (there s ts ns i n e) in
    let old = agree_before (Good s ts) (made_of s ts ns) x.0 i (λ k h. piece_before (marked N) N i (node_of s ts n) x k h) a b in
    subst (λ (q : Piece). Fits (sort_of n.shape) q) (sym (piece_there (marked N) N i (node_of s ts n) x)) (form_fits s ts u (marked N) x.0 n.shape n.first ss n.parts.items old o g p)

mutual
  tree_fits : (s : List ℕ) (ts : List Token) → IsUtf8 s → (ns : List Node) (w : Tree) (i : ℕ) → Fair (Good s ts) w → Whole w → Shows ns i w → Fits (sort_of (shape_of w)) (piece_at (made_of s ts ns) i)
  tree_fits s ts u ns (node h f fs) i fair whole a =
      let all = trees_agree s ts u ns fs a.0.parts.items fair.1.1 whole.1 a.4 in
      let sorted : Sorted a.0.shape a.0.first.kind (slots fs) = subst (λ (x : Shape). Sorted x a.0.first.kind (slots fs)) (sym a.2) (subst (λ (x : Word). Sorted h x.kind (slots fs)) (sym a.3) fair.0) in
      let there_are : has a.0.shape (map slot a.0.parts.items) ≡ true = ap (λ (x : Shape). has x (map slot a.0.parts.items)) a.2 ∙ ap (has h) (slots_of ns a.0.parts.items fs a.4) ∙ whole.0 in
      subst (λ (x : Shape). Fits (sort_of x) (piece_at (made_of s ts ns) i)) a.2 (node_fits s ts u ns i a.0 (slots fs) a.1 all a.6 sorted (subst (Good s ts) (sym a.3) fair.1.0) there_are)

  trees_agree : (s : List ℕ) (ts : List Token) → IsUtf8 s → (ns : List Node) (fs : Trees) (ps : List Part) → AllFair (Good s ts) fs → AllWhole fs → ShowsAll ns ps fs → Agree (Good s ts) (made_of s ts ns) (slots fs) ps
  trees_agree s ts u ns none ps fair whole a = subst (λ (x : List Part). Agree (Good s ts) (made_of s ts ns) [] x) (sym a) nothing
  trees_agree s ts u ns (more fs w) ps fair whole a = subst (λ (x : List Part). Agree (Good s ts) (made_of s ts ns) (slots (more fs w)) x) (sym a.2)
      (agree_append (Good s ts) (made_of s ts ns) (trees_agree s ts u ns fs a.0 fair.0 whole.0 a.3) (tree (tree_fits s ts u ns w a.1 fair.1 whole.1 a.4) nothing))
  trees_agree s ts u ns (leaf fs t) ps fair whole a = subst (λ (x : List Part). Agree (Good s ts) (made_of s ts ns) (slots (leaf fs t)) x) (sym a.1)
      (agree_append (Good s ts) (made_of s ts ns) (trees_agree s ts u ns fs a.0 fair.0 whole a.2) (word refl fair.1 nothing))

-- ---- the expansion

ok_is : {A B : Type 0} (a b : A) → ◌≡◌ {A = Result A B} (Ok a) (Ok b) → a ≡ b
ok_is a b e = cc

with_is : (f : Option Fault) (marks : List Marks) (N : List SugarNode) (i : ℕ) (kernel : List Kernel) → expanded_with f marks N i ≡ Ok kernel → placed 0 (piece_at (expanded_behind marks [] N) i) ≡ kernel
unfolding expanded_with tree_of
with_is None marks N i kernel e = ok_is (placed 0 (piece_at (expanded_behind marks [] N) i)) kernel e
with_is (Some f) marks N i kernel e = absurd (cc)

expanded_is : (N : List SugarNode) (i : ℕ) (kernel : List Kernel) → expanded N i ≡ Ok kernel → placed 0 (piece_at (expanded_behind (marked N) [] N) i) ≡ kernel
unfolding expanded
expanded_is N i kernel e = with_is (fault_of (marked N) i) (marked N) N i kernel e

-- the nodes that an arena which shows such a kernel expands to
pub arena_tree : (s : List ℕ) (ts : List Token) → IsUtf8 s → (ns : List Node) (w : Tree) (i : ℕ) (kernel : List Kernel) → Fair (Good s ts) w → sort_of (shape_of w) ≡ Expression → Whole w → Shows ns i w
    → expanded (map (node_of s ts) ns) i ≡ Ok kernel → IsTree kernel
arena_tree s ts u ns w i kernel fair sort whole a e =
    let fits = tree_fits s ts u ns w i fair whole a in
    subst IsTree (expanded_is (map (node_of s ts) ns) i kernel e) (placed_tree (piece_at (made_of s ts ns) i) (subst (λ (k : Kind). Fits k (piece_at (made_of s ts ns) i)) sort fits))
