-- Two arenas that show one tree have one expansion.
use Rattle.std.proofs.Common.{◌≡◌, ℕ, List, [], ◌∷◌, ◌++◌, ◌<◌, true, map, slice_get, Option, Some, None, option_map, Ok, refl, sym, ◌∙◌, subst, ap}
use Rattle.std.proofs.lemmas.List.{map-append}
use Rattle.std.proofs.lemmas.Option.{slice_get-map}
use Rattle.def_syntax.specs.declared.token.Token.{Token}
use Rattle.def_syntax.specs.declared.token.TokenKind.{TokenKind}
use Rattle.def_syntax.specs.declared.syntax.Word.{Word}
use Rattle.def_syntax.specs.declared.syntax.Shape.{Shape}
use Rattle.def_syntax.specs.Grammar.{Tree, Trees, node, none, more, leaf, SpellsProgram}
use Rattle.ev_parser.specs.declared.draft.Part.{Part}
use Rattle.ev_parser.specs.declared.draft.Part.TheVariants as piece
use Rattle.ev_parser.specs.declared.draft.Node.{Node}
use Rattle.ev_parser.specs.Draft.{Shows, ShowsAll, StandBefore}
use Rattle.ev_parser.specs.Surface.{surface}
use Rattle.ev_parser.specs.Sweet.{node_of}
use Rattle.def_syntax.specs.declared.sugar.SugarNode.{SugarNode}
use Rattle.ev_piece.specs.Placed.{placed}
use Rattle.def_kernel.specs.declared.node.Node.{Node as Kernel}
use Rattle.ev_expand.specs.declared.marks.Marks.{Marks}
use Rattle.ev_expand.specs.declared.marks.Fault.{Fault}
use Rattle.ev_expand.specs.declared.part.Part.{Part as Expansion}
use Rattle.ev_expand.specs.Marked.{marks_at, marks_found, form_marks, inside, node_marks, marked, closed}
use Rattle.ev_expand.specs.Table.{found, part_at, piece_at, form_part, expanded_behind}
use Rattle.ev_expand.specs.Expanded.{fault_of, tree_of, expanded_with, expanded}
use Rattle.law_reading.proofs.Reading.Whole.{slots, has, Whole, AllWhole, program_whole}
use Rattle.law_reading.proofs.Reading.Alike.{Matches, slot, matches_append}
use Rattle.law_reading.proofs.Reading.Inside.{Known, inside_alike, form_marks_alike}
use Rattle.law_reading.proofs.Reading.Pieces.{Two, Same, part_alike}
use Rattle.law_reading.proofs.Reading.Filled.{Entry, entry_before, entry_here, expansion, marks_entry, expansion_entry}

-- trees that stand before two places match in another way, if it holds of what stands there
matches_before : (R Q : ℕ → ℕ → Type 0) (i j : ℕ) → ((a b : ℕ) → a < i → b < j → R a b → Q a b) → (ps qs : List Part) → StandBefore i ps → StandBefore j qs → Matches R ps qs → Matches Q ps qs
matches_before R Q i j f [] [] x y h = tt
matches_before R Q i j f (piece.Token w ∷ ps) (piece.Token v ∷ qs) x y h = (h.0, matches_before R Q i j f ps qs x y h.1)
matches_before R Q i j f (piece.Tree a ∷ ps) (piece.Tree b ∷ qs) x y h = (f a b x.0 y.0 h.0, matches_before R Q i j f ps qs x.1 y.1 h.1)
matches_before R Q i j f (piece.Token w ∷ ps) (piece.Tree b ∷ qs) x y h = absurd h.0
matches_before R Q i j f (piece.Tree a ∷ ps) (piece.Token v ∷ qs) x y h = absurd h.0
matches_before R Q i j f [] (q ∷ qs) x y h = absurd h
matches_before R Q i j f (p ∷ ps) [] x y h = absurd h

-- what is known and made in the two arenas of a text
pub two_of : List ℕ → List Token → List Node → List Node → Two
two_of s ts ns ms = record {
  known = marked (map (node_of s ts) ns);
  known' = marked (map (node_of s ts) ms);
  made = expanded_behind (marked (map (node_of s ts) ns)) [] (map (node_of s ts) ns);
  made' = expanded_behind (marked (map (node_of s ts) ms)) [] (map (node_of s ts) ms);
}

-- a node that has been read, among the nodes of the arena
there : (s : List ℕ) (ts : List Token) (ns : List Node) (i : ℕ) (n : Node) → slice_get ns i ≡ Some n → slice_get (map (node_of s ts) ns) i ≡ Some (node_of s ts n)
there s ts ns i n e = slice_get-map (node_of s ts) ns i ∙ ap (λ (o : Option Node). option_map (node_of s ts) o) e

known_there : (N : List SugarNode) (i : ℕ) (n : SugarNode) (e : Entry node_marks (marked N) i n) → marks_at (marked N) i ≡ node_marks e.0 n
unfolding marks_at marks_found
known_there N i n e = ap marks_found (entry_here node_marks (marked N) i n e)

known_before : (N : List SugarNode) (i : ℕ) (n : SugarNode) (e : Entry node_marks (marked N) i n) (a : ℕ) → a < i → marks_at (marked N) a ≡ marks_at e.0 a
unfolding marks_at
known_before N i n e a h = ap marks_found (entry_before node_marks (marked N) i n e a h)

made_there : (marks : List Marks) (N : List SugarNode) (i : ℕ) (n : SugarNode) (e : Entry (expansion marks) (expanded_behind marks [] N) i n) → part_at (expanded_behind marks [] N) i ≡ form_part marks e.0 n.form
unfolding part_at found
made_there marks N i n e = ap found (entry_here (expansion marks) (expanded_behind marks [] N) i n e)

made_before : (marks : List Marks) (N : List SugarNode) (i : ℕ) (n : SugarNode) (e : Entry (expansion marks) (expanded_behind marks [] N) i n) (a : ℕ) → a < i → part_at (expanded_behind marks [] N) a ≡ part_at e.0 a
unfolding part_at
made_before marks N i n e a h = ap found (entry_before (expansion marks) (expanded_behind marks [] N) i n e a h)

-- the same is known of nodes of one shape, with one first token, whose parts match
marks_alike : (dn dm : List Marks) (s : List ℕ) (ts : List Token) (n m : Node) → n.shape ≡ m.shape → n.first ≡ m.first → Matches (Known dn dm) n.parts.items m.parts.items → has n.shape (map slot n.parts.items) ≡ true → node_marks dn (node_of s ts n) ≡ node_marks dm (node_of s ts m)
unfolding node_marks
marks_alike dn dm s ts n m c f h k =
    ap (λ (x : Marks). form_marks (surface s ts n.shape n.first n.parts.items) n.first.number x) (inside_alike dn dm s ts n.shape n.first n.parts.items m.parts.items h k)
    ∙ form_marks_alike (Known dn dm) s ts n.shape n.first n.parts.items m.parts.items h n.first.number (inside dm (surface s ts n.shape n.first m.parts.items))
    ∙ ap (λ (w : Word). form_marks (surface s ts n.shape w m.parts.items) w.number (inside dm (surface s ts n.shape w m.parts.items))) f
    ∙ ap (λ (x : Shape). form_marks (surface s ts x m.first m.parts.items) m.first.number (inside dm (surface s ts x m.first m.parts.items))) c

parts_alike : (a : Two) (s : List ℕ) (ts : List Token) (n m : Node) → n.shape ≡ m.shape → n.first ≡ m.first → Matches (Same a) n.parts.items m.parts.items → has n.shape (map slot n.parts.items) ≡ true → form_part a.known a.made (surface s ts n.shape n.first n.parts.items) ≡ form_part a.known' a.made' (surface s ts m.shape m.first m.parts.items)
parts_alike a s ts n m c f h k =
    part_alike a s ts n.shape n.first n.parts.items m.parts.items h k
    ∙ ap (λ (w : Word). form_part a.known' a.made' (surface s ts n.shape w m.parts.items)) f
    ∙ ap (λ (x : Shape). form_part a.known' a.made' (surface s ts x m.first m.parts.items)) c

-- two nodes whose parts match in the two arenas match there
node_same : (s : List ℕ) (ts : List Token) (ns ms : List Node) (i j : ℕ) (n m : Node) → slice_get ns i ≡ Some n → slice_get ms j ≡ Some m → n.shape ≡ m.shape → n.first ≡ m.first → Matches (Same (two_of s ts ns ms)) n.parts.items m.parts.items → has n.shape (map slot n.parts.items) ≡ true → StandBefore i n.parts.items → StandBefore j m.parts.items → Same (two_of s ts ns ms) i j
unfolding two_of
node_same s ts ns ms i j n m en em c f h k bn bm =
    let N : List SugarNode = map (node_of s ts) ns in
    let M : List SugarNode = map (node_of s ts) ms in
    let x = marks_entry N i (node_of s ts n) (there s ts ns i n en) in
    let y = marks_entry M j (node_of s ts m) (there s ts ms j m em) in
    let u = expansion_entry (marked N) N i (node_of s ts n) (there s ts ns i n en) in
    let v = expansion_entry (marked M) M j (node_of s ts m) (there s ts ms j m em) in
    let known : Matches (Known x.0 y.0) n.parts.items m.parts.items = matches_before (Same (two_of s ts ns ms)) (Known x.0 y.0) i j
    (λ a b p q r. sym (known_before N i (node_of s ts n) x a p) ∙ r.0 ∙ known_before M j (node_of s ts m) y b q) n.parts.items m.parts.items bn bm h in
    let made : Matches (Same (record { known = marked N; known' = marked M; made = u.0; made' = v.0 })) n.parts.items m.parts.items = matches_before (Same (two_of s ts ns ms)) (Same (record { known = marked N; known' = marked M; made = u.0; made' = v.0 })) i j
    (λ a b p q r. (r.0, sym (made_before (marked N) N i (node_of s ts n) u a p) ∙ r.1 ∙ made_before (marked M) M j (node_of s ts m) v b q)) n.parts.items m.parts.items bn bm h in (
      known_there N i (node_of s ts n) x ∙ marks_alike x.0 y.0 s ts n m c f known k ∙ sym (known_there M j (node_of s ts m) y),
      made_there (marked N) N i (node_of s ts n) u ∙ parts_alike (record { known = marked N; known' = marked M; made = u.0; made' = v.0 }) s ts n m c f made k ∙ sym (made_there (marked M) M j (node_of s ts m) v),
    )

-- the slots of a node's parts are those of the tree's
slots_of : (ns : List Node) (ps : List Part) (ts : Trees) → ShowsAll ns ps ts → map slot ps ≡ slots ts
slots_of ns ps none h = ap (map slot) h
slots_of ns ps (more ts t) h = ap (map slot) h.2 ∙ map-append slot h.0 (piece.Tree h.1 ∷ []) ∙ ap (λ (x : List (Option TokenKind)). x ++ None ∷ []) (slots_of ns h.0 ts h.3)
slots_of ns ps (leaf ts t) h = ap (map slot) h.1 ∙ map-append slot h.0 (piece.Token t ∷ []) ∙ ap (λ (x : List (Option TokenKind)). x ++ Some t.kind ∷ []) (slots_of ns h.0 ts h.2)

mutual
  same : (s : List ℕ) (ts : List Token) (ns ms : List Node) (w : Tree) (i j : ℕ) → Whole w → Shows ns i w → Shows ms j w → Same (two_of s ts ns ms) i j
  same s ts ns ms (node h f fs) i j whole a b = node_same s ts ns ms i j a.0 b.0 a.1 b.1 (a.2 ∙ sym b.2) (a.3 ∙ sym b.3)
      (all_same s ts ns ms fs a.0.parts.items b.0.parts.items whole.1 a.4 b.4)
      (ap (λ (x : Shape). has x (map slot a.0.parts.items)) a.2 ∙ ap (has h) (slots_of ns a.0.parts.items fs a.4) ∙ whole.0)
      a.6 b.6

  all_same : (s : List ℕ) (ts : List Token) (ns ms : List Node) (fs : Trees) (ps qs : List Part) → AllWhole fs → ShowsAll ns ps fs → ShowsAll ms qs fs → Matches (Same (two_of s ts ns ms)) ps qs
  all_same s ts ns ms none ps qs whole a b = subst (λ (x : List Part). Matches (Same (two_of s ts ns ms)) x qs) (sym a) (subst (λ (x : List Part). Matches (Same (two_of s ts ns ms)) [] x) (sym b) tt)
  all_same s ts ns ms (more fs w) ps qs whole a b =
      let h : Matches (Same (two_of s ts ns ms)) (a.0 ++ piece.Tree a.1 ∷ []) (b.0 ++ piece.Tree b.1 ∷ []) =
      matches_append (Same (two_of s ts ns ms)) a.0 b.0 (piece.Tree a.1 ∷ []) (piece.Tree b.1 ∷ []) (all_same s ts ns ms fs a.0 b.0 whole.0 a.3 b.3) (same s ts ns ms w a.1 b.1 whole.1 a.4 b.4, tt) in
      subst (λ (x : List Part). Matches (Same (two_of s ts ns ms)) x qs) (sym a.2) (subst (λ (x : List Part). Matches (Same (two_of s ts ns ms)) (a.0 ++ piece.Tree a.1 ∷ []) x) (sym b.2) h)
  all_same s ts ns ms (leaf fs t) ps qs whole a b =
      let h : Matches (Same (two_of s ts ns ms)) (a.0 ++ piece.Token t ∷ []) (b.0 ++ piece.Token t ∷ []) =
      matches_append (Same (two_of s ts ns ms)) a.0 b.0 (piece.Token t ∷ []) (piece.Token t ∷ []) (all_same s ts ns ms fs a.0 b.0 whole a.2 b.2) (refl, tt) in
      subst (λ (x : List Part). Matches (Same (two_of s ts ns ms)) x qs) (sym a.1) (subst (λ (x : List Part). Matches (Same (two_of s ts ns ms)) (a.0 ++ piece.Token t ∷ []) x) (sym b.1) h)

faults_same : (mn mm : List Marks) (i j : ℕ) → marks_at mn i ≡ marks_at mm j → fault_of mn i ≡ fault_of mm j
unfolding fault_of
faults_same mn mm i j h = ap (λ (x : Marks). (closed x).fault) h

trees_same : (mn mm : List Marks) (N M : List SugarNode) (i j : ℕ) → part_at (expanded_behind mn [] N) i ≡ part_at (expanded_behind mm [] M) j → tree_of mn N i ≡ tree_of mm M j
unfolding tree_of piece_at
trees_same mn mm N M i j h = ap (λ (x : Expansion). placed 0 x.piece) h

with_fault : (mn mm : List Marks) (N M : List SugarNode) (i j : ℕ) (f : Option Fault) → tree_of mn N i ≡ tree_of mm M j → expanded_with f mn N i ≡ expanded_with f mm M j
unfolding expanded_with
with_fault mn mm N M i j (Some f) h = refl
with_fault mn mm N M i j None h = ap (λ (x : List Kernel). Ok x) h

expanded_same : (N M : List SugarNode) (i j : ℕ) → marks_at (marked N) i ≡ marks_at (marked M) j → part_at (expanded_behind (marked N) [] N) i ≡ part_at (expanded_behind (marked M) [] M) j → expanded N i ≡ expanded M j
unfolding expanded
expanded_same N M i j h k =
    with_fault (marked N) (marked M) N M i j (fault_of (marked N) i) (trees_same (marked N) (marked M) N M i j k)
    ∙ ap (λ (x : Option Fault). expanded_with x (marked M) M j) (faults_same (marked N) (marked M) i j h)

pub one_expansion : (s : List ℕ) (ts : List Token) (words : List Word) (w : Tree) → SpellsProgram w words → (ns ms : List Node) (i j : ℕ) → Shows ns i w → Shows ms j w → expanded (map (node_of s ts) ns) i ≡ expanded (map (node_of s ts) ms) j
unfolding two_of
one_expansion s ts words w d ns ms i j a b =
    let h = same s ts ns ms w i j (program_whole w words d) a b in
    expanded_same (map (node_of s ts) ns) (map (node_of s ts) ms) i j h.0 h.1
