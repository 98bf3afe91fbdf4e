-- What an arena that shows a tree of the grammar expands to weighs no more than fourteen times its nodes.
use Rattle.std.proofs.Common.{◌≡◌, ℕ, suc, ◌+◌, ◌*◌, ◌≤◌, ◌<◌, List, [], ◌∷◌, ◌++◌, true, map, length, slice_get, Option, Some, None, option_map, Ok, refl, sym, ◌∙◌, subst, ap, arith}
use Rattle.std.proofs.lemmas.List.{map-append}
use Rattle.std.proofs.lemmas.Option.{slice_get-map}
use Rattle.def_syntax.specs.declared.token.Token.{Token}
use Rattle.def_syntax.specs.declared.sugar.SugarNode.{SugarNode}
use Rattle.def_syntax.specs.declared.syntax.Shape.{Shape}
use Rattle.def_syntax.specs.Grammar.{Tree, Trees, node, none, more, leaf}
use Rattle.ev_parser.specs.declared.draft.Part.{Part}
use Rattle.ev_parser.specs.declared.draft.Part.TheVariants as piece
use Rattle.ev_parser.specs.declared.draft.Node.{Node}
use Rattle.ev_parser.specs.Draft.{Shows, ShowsAll, StandBefore}
use Rattle.ev_parser.specs.Sweet.{node_of}
use Rattle.def_kernel.specs.declared.node.Node.{Node as Kernel}
use Rattle.ev_piece.specs.Placed.{placed}
use Rattle.ev_expand.specs.declared.marks.Marks.{Marks}
use Rattle.ev_expand.specs.declared.marks.Fault.{Fault}
use Rattle.ev_expand.specs.declared.part.Part.{Part as Expansion}
use Rattle.ev_expand.specs.Marked.{marked}
use Rattle.ev_expand.specs.Table.{found, part_at, piece_at, form_piece, form_part, expanded_behind}
use Rattle.ev_expand.specs.Expanded.{fault_of, tree_of, expanded_with, expanded}
use Rattle.law_reading.proofs.Reading.Whole.{slots, has, Whole, AllWhole}
use Rattle.law_reading.proofs.Reading.Alike.{slot}
use Rattle.law_reading.proofs.Reading.Filled.{Entry, entry_before, entry_here, expansion, expansion_entry}
use Rattle.law_reading.specs.Sized.Weights.{weight}
use Rattle.law_reading.proofs.Sized.Counts.{count, counts}
use Rattle.law_reading.proofs.Sized.Tidiness.{Slots, Tidy, TidyTree, AllTidy}
use Rattle.law_reading.proofs.Sized.Sums.{sum, sum_append}
use Rattle.law_reading.proofs.Sized.Costs.{cost}
use Rattle.law_reading.proofs.Sized.Forms.{form_light}
use Rattle.law_reading.proofs.Sized.Placing.{placed_weight}

-- the slots of a node's parts are those of the tree's
slots_of : (ns : List Node) (ps : List Part) (fs : Trees) → ShowsAll ns ps fs → map slot ps ≡ slots fs
slots_of ns ps none h = ap (map slot) h
slots_of ns ps (more fs w) h = ap (map slot) h.2 ∙ map-append slot h.0 (piece.Tree h.1 ∷ []) ∙ ap (λ (x : Slots). x ++ None ∷ []) (slots_of ns h.0 fs h.3)
slots_of ns ps (leaf fs t) h = ap (map slot) h.1 ∙ map-append slot h.0 (piece.Token t ∷ []) ∙ ap (λ (x : Slots). x ++ Some t.kind ∷ []) (slots_of ns h.0 fs h.2)

-- the parts stand before that place
sum_before : (f g : ℕ → ℕ) (i : ℕ) → ((k : ℕ) → k < i → f k ≡ g k) → (ps : List Part) → StandBefore i ps → sum f ps ≡ sum g ps
sum_before f g i same [] h = refl
sum_before f g i same (piece.Tree k ∷ ps) h = omega (arith, same k h.0, sum_before f g i same ps h.1)
sum_before f g i same (piece.Token w ∷ ps) h = omega (arith, sum_before f g i same ps h)

cost_before : (marks : List Marks) (N : List SugarNode) (i : ℕ) (n : SugarNode) (e : Entry (expansion marks) (expanded_behind marks [] N) i n) (k : ℕ) → k < i → cost e.0 k ≡ cost (expanded_behind marks [] N) k
unfolding piece_at part_at
cost_before marks N i n e k h = ap (λ (o : Option Expansion). suc (weight (found o).piece)) (sym (entry_before (expansion marks) (expanded_behind marks [] N) i n e k h))

cost_there : (marks : List Marks) (N : List SugarNode) (i : ℕ) (n : SugarNode) (e : Entry (expansion marks) (expanded_behind marks [] N) i n) → cost (expanded_behind marks [] N) i ≡ suc (weight (form_piece marks e.0 n.form))
unfolding piece_at part_at found form_part
cost_there marks N i n e = ap (λ (o : Option Expansion). suc (weight (found o).piece)) (entry_here (expansion marks) (expanded_behind marks [] N) i n e)

-- what was made in the arena of a text
abbrev made_of : List ℕ → List Token → List Node → List Expansion
made_of s ts ns = expanded_behind (marked (map (node_of s ts) ns)) [] (map (node_of s ts) ns)

node_light : (s : List ℕ) (ts : List Token) → length s ≤ 65536 → (ns : List Node) (i : ℕ) (n : Node) → slice_get ns i ≡ Some n → StandBefore i n.parts.items
    → has n.shape (map slot n.parts.items) ≡ true → Tidy n.shape (map slot n.parts.items) → cost (made_of s ts ns) i ≤ 14 + sum (cost (made_of s ts ns)) n.parts.items
node_light s ts l ns i n e b p t =
    let N : List SugarNode = map (node_of s ts) ns in
    let there : slice_get N i ≡ Some (node_of s ts n) = slice_get-map (node_of s ts) ns i ∙ ap (λ (o : Option Node). option_map (node_of s ts) o) e in
    let x = expansion_entry (marked N) N i (node_of s ts n) there in
    omega (
      arith,
      cost_there (marked N) N i (node_of s ts n) x,
      form_light s ts l (marked N) x.0 n.shape n.first n.parts.items p t,
      sum_before (cost x.0) (cost (made_of s ts ns)) i (λ k h. cost_before (marked N) N i (node_of s ts n) x k h) n.parts.items b,
    )

mutual
  tree_light : (s : List ℕ) (ts : List Token) → length s ≤ 65536 → (ns : List Node) (w : Tree) (i : ℕ) → Whole w → TidyTree w → Shows ns i w → cost (made_of s ts ns) i ≤ 14 * count w
  tree_light s ts l ns (node h f fs) i whole tidy a =
      let same_slots = slots_of ns a.0.parts.items fs a.4 in
      let there_are : has a.0.shape (map slot a.0.parts.items) ≡ true = ap (λ (x : Shape). has x (map slot a.0.parts.items)) a.2 ∙ ap (has h) same_slots ∙ whole.0 in
      let tidy_there : Tidy a.0.shape (map slot a.0.parts.items) = subst (λ (x : Shape). Tidy x (map slot a.0.parts.items)) (sym a.2) (subst (Tidy h) (sym same_slots) tidy.0) in
      omega (arith, node_light s ts l ns i a.0 a.1 a.6 there_are tidy_there, trees_light s ts l ns fs a.0.parts.items whole.1 tidy.1 a.4)

  trees_light : (s : List ℕ) (ts : List Token) → length s ≤ 65536 → (ns : List Node) (fs : Trees) (ps : List Part) → AllWhole fs → AllTidy fs → ShowsAll ns ps fs → sum (cost (made_of s ts ns)) ps ≤ 14 * counts fs
  trees_light s ts l ns none ps whole tidy a = omega (arith, ap (sum (cost (made_of s ts ns))) a)
  trees_light s ts l ns (more fs w) ps whole tidy a =
      omega (
        arith,
        ap (sum (cost (made_of s ts ns))) a.2,
        sum_append (cost (made_of s ts ns)) a.0 (piece.Tree a.1 ∷ []),
        trees_light s ts l ns fs a.0 whole.0 tidy.0 a.3,
        tree_light s ts l ns w a.1 whole.1 tidy.1 a.4,
      )
  trees_light s ts l ns (leaf fs t) ps whole tidy a =
      omega (arith, ap (sum (cost (made_of s ts ns))) a.1, sum_append (cost (made_of s ts ns)) a.0 (piece.Token t ∷ []), trees_light s ts l ns fs a.0 whole tidy a.2)

-- ---- the expansion

with_weight : (f : Option Fault) (marks : List Marks) (N : List SugarNode) (i : ℕ) (kernel : List Kernel) → expanded_with f marks N i ≡ Ok kernel → weight kernel < cost (expanded_behind marks [] N) i
unfolding expanded_with tree_of
with_weight None marks N i kernel e =
    let same : placed 0 (piece_at (expanded_behind marks [] N) i) ≡ kernel = cc in
    omega (arith, ap weight same, placed_weight 0 (piece_at (expanded_behind marks [] N) i))
with_weight (Some f) marks N i kernel e = absurd (cc)

pub expanded_light : (s : List ℕ) (ts : List Token) → length s ≤ 65536 → (ns : List Node) (w : Tree) (i : ℕ) (kernel : List Kernel) → Whole w → TidyTree w → Shows ns i w
    → expanded (map (node_of s ts) ns) i ≡ Ok kernel → weight kernel ≤ 14 * count w
unfolding expanded
expanded_light s ts l ns w i kernel whole tidy a e =
    let N : List SugarNode = map (node_of s ts) ns in
    omega (arith, with_weight (fault_of (marked N) i) (marked N) N i kernel e, tree_light s ts l ns w i whole tidy a)
