-- Each way to put pieces together makes one tree of pieces that are trees; such a piece, placed, is a kernel tree.
use Rattle.std.proofs.Common.{◌≡◌, ℕ, suc, ◌+◌, List, [], ◌∷◌, ◌++◌, map, length, slice_get, Option, Some, None, refl, sym, ◌∙◌, ap, subst, arith, length-append, append_assoc}
use Rattle.std.specs.Str.{IsUtf8}
use Rattle.def_kernel.specs.declared.node.Literal.{Literal}
use Rattle.def_kernel.specs.declared.node.Node.{Node}
use Rattle.def_kernel.specs.declared.node.Node.TheVariants as node
use Rattle.def_kernel.specs.declared.shape.Kind.{Kind}
use Rattle.def_kernel.specs.declared.shape.Kind.TheVariants.{Expression, Pattern, Member, Naming}
use Rattle.def_kernel.specs.Trees.{IsLiteral, IsName, IsTree, Has, Tree, Row, literal, noun as noun_tree, set as set_tree, def as def_tree, def_exit, call as call_tree, sequence, choice, escape as escape_tree, escape_catch as catch_tree, try_catch as try_tree, finally as finally_tree, hide as hide_tree, match_bind as match_tree, object as object_tree, method as method_tree, matcher as matcher_tree, final, final_guarded, variable as variable_tree, variable_guarded, any as any_tree, any_guarded, list as list_tree, via as via_tree, named, unnamed, none, one_more}
use Rattle.ev_piece.specs.Pieces.{Piece, joined, starts, optional, start_if, lit, noun, set, def, call, seq, if_, escape, escape_catch, try_catch, finally, hide, match_bind, object, method, matcher, final_pattern, variable, any, list, via}
use Rattle.ev_piece.specs.Placed.{node_at, placed}
use Rattle.law_reading.specs.Expansion.Fitting.{Lies, Fits, FitsIf, AllFit}

-- ---- where parts lie

lies_first : (nodes : List Node) (n : ℕ) (p q : Piece) → Lies nodes n (p ++ q) → Lies nodes n p
lies_first nodes n [] q h = tt
lies_first nodes n (m ∷ p) q h = (h.0, lies_first nodes (suc n) p q h.1)

lies_from : (nodes : List Node) (n m : ℕ) (p : Piece) → n ≡ m → Lies nodes n p → Lies nodes m p
lies_from nodes n m p e h = subst (λ (i : ℕ). Lies nodes i p) e h

lies_second : (nodes : List Node) (n : ℕ) (p q : Piece) → Lies nodes n (p ++ q) → Lies nodes (n + length p) q
lies_second nodes n [] q h = lies_from nodes n (n + length {A = Node} []) q (omega arith) h
lies_second nodes n (m ∷ p) q h = lies_from nodes (suc n + length p) (n + length (m ∷ p)) q (omega arith) (lies_second nodes (suc n) p q h.1)

tree_to : {nodes : List Node} {kind : Kind} {n a b : ℕ} → a ≡ b → Tree nodes kind n a → Tree nodes kind n b
tree_to {nodes} {kind} {n} {a} {b} e h = subst (λ (i : ℕ). Tree nodes kind n i) e h

from_to : {nodes : List Node} {kind : Kind} {n m a b : ℕ} → n ≡ m → a ≡ b → Tree nodes kind n a → Tree nodes kind m b
from_to {nodes} {kind} {n} {m} {a} {b} e d h = subst (λ (i : ℕ). Tree nodes kind i b) e (tree_to d h)

row_at : {nodes : List Node} {kind : Kind} {is : List ℕ} {n m a b : ℕ} → n ≡ m → a ≡ b → Row nodes kind is n a → Row nodes kind is m b
row_at {nodes} {kind} {is} {n} {m} {a} {b} e d h = subst (λ (i : ℕ). Row nodes kind is i b) e (subst (λ (i : ℕ). Row nodes kind is n i) d h)

at1 : (nodes : List Node) (n : ℕ) (f : ℕ → Node) {a b : ℕ} → a ≡ b → Has nodes n (f a) → Has nodes n (f b)
at1 nodes n f {a} {b} e h = subst (λ (i : ℕ). Has nodes n (f i)) e h

at2 : (nodes : List Node) (n : ℕ) (f : ℕ → ℕ → Node) {a b c d : ℕ} → a ≡ b → c ≡ d → Has nodes n (f a c) → Has nodes n (f b d)
at2 nodes n f {a} {b} {c} {d} e g h = at1 nodes n (f b) g (at1 nodes n (λ (i : ℕ). f i c) e h)

at3 : (nodes : List Node) (n : ℕ) (f : ℕ → ℕ → ℕ → Node) {a b c d i j : ℕ} → a ≡ b → c ≡ d → i ≡ j → Has nodes n (f a c i) → Has nodes n (f b d j)
at3 nodes n f {a} {b} {c} {d} {i} {j} e g k h = at2 nodes n (f b) g k (at1 nodes n (λ (x : ℕ). f x c i) e h)

at4 : (nodes : List Node) (n : ℕ) (f : ℕ → ℕ → ℕ → ℕ → Node) {a b c d i j k l : ℕ} → a ≡ b → c ≡ d → i ≡ j → k ≡ l → Has nodes n (f a c i k) → Has nodes n (f b d j l)
at4 nodes n f {a} {b} {c} {d} {i} {j} {k} {l} e g x y h = at3 nodes n (f b) g x y (at1 nodes n (λ (z : ℕ). f z c i k) e h)

-- trees of a kind that lie one behind another
row : (nodes : List Node) (kind : Kind) (n k : ℕ) (ps : List Piece) → AllFit kind ps → Lies nodes (suc n + k) (joined ps)
    → Row nodes kind (map (λ i. n + i) (starts k ps)) (suc n + k) (suc n + k + length (joined ps))
unfolding joined starts
row nodes kind n k [] f h = row_at refl (omega arith) none
row nodes kind n k (p ∷ ps) f h =
    let rest = row nodes kind n (k + length p) ps f.1 (lies_from nodes (suc n + k + length p) (suc n + (k + length p)) (joined ps) (omega arith) (lies_second nodes (suc n + k) p (joined ps) h)) in
    let all : Row nodes kind ((suc n + k) ∷ map (λ i. n + i) (starts (k + length p) ps)) (suc n + k) (suc n + k + length (p ++ joined ps)) =
    one_more (f.0.tree nodes (suc n + k) (lies_first nodes (suc n + k) p (joined ps) h)) (row_at (omega arith) (omega (arith, length-append p (joined ps))) rest) in
    subst (λ (i : ℕ). Row nodes kind (i ∷ map (λ i. n + i) (starts (k + length p) ps)) (suc n + k) (suc n + k + length (p ++ joined ps))) (omega arith) all

-- the first of two parts, and the second
first : (nodes : List Node) (kind : Kind) (n : ℕ) (p q : Piece) → Fits kind p → Lies nodes n (p ++ q) → Tree nodes kind n (n + length p)
first nodes kind n p q f h = f.tree nodes n (lies_first nodes n p q h)

last : (nodes : List Node) (kind : Kind) (n : ℕ) (p q : Piece) → Fits kind q → Lies nodes n (p ++ q) → Tree nodes kind (n + length p) (n + length p + length q)
last nodes kind n p q f h = f.tree nodes (n + length p) (lies_second nodes n p q h)

-- the third of three, and the fourth of four
third : (nodes : List Node) (kind : Kind) (n : ℕ) (p q r : Piece) → Fits kind r → Lies nodes n ((p ++ q) ++ r) → Tree nodes kind (n + length p + length q) (n + length p + length q + length r)
third nodes kind n p q r f h = f.tree nodes (n + length p + length q) (lies_from nodes (n + length (p ++ q)) (n + length p + length q) r (omega (arith, length-append p q)) (lies_second nodes n (p ++ q) r h))

fourth : (nodes : List Node) (kind : Kind) (n : ℕ) (p q r s : Piece) → Fits kind s → Lies nodes n (((p ++ q) ++ r) ++ s) → Tree nodes kind (n + length p + length q + length r) (n + length p + length q + length r + length s)
fourth nodes kind n p q r s f h =
    f.tree nodes (n + length p + length q + length r) (lies_from nodes (n + length ((p ++ q) ++ r)) (n + length p + length q + length r) s
    (omega (arith, length-append p q, length-append (p ++ q) r)) (lies_second nodes n ((p ++ q) ++ r) s h))

-- ---- each way to put pieces together

pub fits_lit : (l : Literal) → IsLiteral l → Fits Expression (lit l)
unfolding lit node_at
fits_lit l i = record { tree = λ nodes n h. tree_to (omega arith) (literal h.0 i) }

pub fits_noun : (x : List ℕ) → IsName x → Fits Expression (noun x)
unfolding noun node_at
fits_noun x i = record { tree = λ nodes n h. tree_to (omega arith) (noun_tree h.0 i) }

pub fits_set : (x : List ℕ) (e : Piece) → IsName x → Fits Expression e → Fits Expression (set x e)
unfolding set node_at
fits_set x e i f = record {
  tree = λ nodes n h. tree_to (omega arith) (set_tree (at1 nodes n (λ j. node.Set x j) (omega arith) h.0) i (f.tree nodes (suc n) h.1));
}

pub fits_def : (p : Piece) (j : Option Piece) (e : Piece) → Fits Pattern p → FitsIf Expression j → Fits Expression e → Fits Expression (def p j e)
unfolding def node_at optional start_if
fits_def p None e f g k = record {
  tree = λ nodes n h.
      let has = at2 nodes n (λ a b. node.Def a None b) (omega arith) (omega (arith, length-append p [])) h.0 in
      let value : Tree nodes Expression (suc n + length p) (suc n + length p + length e) = from_to (omega arith) (omega arith) (third nodes Expression (suc n) p [] e k h.1) in
      tree_to (omega (arith, length-append p [], length-append (p ++ []) e)) (def_tree has (first nodes Pattern (suc n) p [] f (lies_first nodes (suc n) (p ++ []) e h.1)) value);
}
fits_def p (Some j) e f g k = record {
  tree = λ nodes n h.
      let has = at3 nodes n (λ a b c. node.Def a (Some b) c) (omega arith) (omega arith) (omega (arith, length-append p j)) h.0 in
      let two = lies_first nodes (suc n) (p ++ j) e h.1 in
      tree_to (omega (arith, length-append p j, length-append (p ++ j) e)) (def_exit has (first nodes Pattern (suc n) p j f two) (last nodes Expression (suc n) p j g two) (third nodes Expression (suc n) p j e k h.1));
}

pub fits_call : (r : Piece) (v : List ℕ) (es : List Piece) → Fits Expression r → IsUtf8 v → AllFit Expression es → Fits Expression (call r v es)
unfolding call node_at
fits_call r v es f u g = record {
  tree = λ nodes n h. tree_to (omega (arith, length-append r (joined es)))
      (call_tree (at1 nodes n (λ a. node.Call a v (map (λ i. n + i) (starts (length r) es))) (omega arith) h.0) u
      (first nodes Expression (suc n) r (joined es) f h.1)
      (row nodes Expression n (length r) es g (lies_second nodes (suc n) r (joined es) h.1)));
}

pub fits_seq : (e : Piece) (es : List Piece) → Fits Expression e → AllFit Expression es → Fits Expression (seq (e ∷ es))
unfolding seq node_at starts joined
fits_seq e es f g = record {
  tree = λ nodes n h. tree_to (omega (arith, length-append e (joined es)))
      (sequence (at1 nodes n (λ a. node.Sequence (a ∷ map (λ i. n + i) (starts (0 + length e) es))) (omega arith) h.0)
      (first nodes Expression (suc n) e (joined es) f h.1)
      (row_at (omega arith) refl (row nodes Expression n (0 + length e) es g (lies_from nodes (suc n + length e) (suc n + (0 + length e)) (joined es) (omega arith) (lies_second nodes (suc n) e (joined es) h.1)))));
}

pub fits_if : (a b c : Piece) → Fits Expression a → Fits Expression b → Fits Expression c → Fits Expression (if_ a b c)
unfolding if_ node_at
fits_if a b c f g k = record {
  tree = λ nodes n h.
      let two = lies_first nodes (suc n) (a ++ b) c h.1 in
      tree_to (omega (arith, length-append a b, length-append (a ++ b) c)) (choice (at3 nodes n (λ x y z. node.If x y z) (omega arith) (omega arith) (omega (arith, length-append a b)) h.0)
      (first nodes Expression (suc n) a b f two) (last nodes Expression (suc n) a b g two) (third nodes Expression (suc n) a b c k h.1));
}

pub fits_escape : (p b : Piece) → Fits Pattern p → Fits Expression b → Fits Expression (escape p b)
unfolding escape node_at
fits_escape p b f g = record {
  tree = λ nodes n h. tree_to (omega (arith, length-append p b)) (escape_tree (at2 nodes n (λ x y. node.Escape x y None) (omega arith) (omega arith) h.0)
      (first nodes Pattern (suc n) p b f h.1) (last nodes Expression (suc n) p b g h.1));
}

pub fits_escape_catch : (p b q c : Piece) → Fits Pattern p → Fits Expression b → Fits Pattern q → Fits Expression c → Fits Expression (escape_catch p b q c)
unfolding escape_catch node_at
fits_escape_catch p b q c f g k l = record {
  tree = λ nodes n h.
      let three = lies_first nodes (suc n) ((p ++ b) ++ q) c h.1 in
      let two = lies_first nodes (suc n) (p ++ b) q three in
      tree_to (omega (arith, length-append p b, length-append (p ++ b) q, length-append ((p ++ b) ++ q) c))
      (catch_tree (at4 nodes n (λ x y z w. node.Escape x y (Some (z, w))) (omega arith) (omega arith) (omega (arith, length-append p b)) (omega (arith, length-append p b, length-append (p ++ b) q)) h.0)
      (first nodes Pattern (suc n) p b f two) (last nodes Expression (suc n) p b g two) (third nodes Pattern (suc n) p b q k three) (fourth nodes Expression (suc n) p b q c l h.1));
}

pub fits_try : (b p c : Piece) → Fits Expression b → Fits Pattern p → Fits Expression c → Fits Expression (try_catch b p c)
unfolding try_catch node_at
fits_try b p c f g k = record {
  tree = λ nodes n h.
      let two = lies_first nodes (suc n) (b ++ p) c h.1 in
      tree_to (omega (arith, length-append b p, length-append (b ++ p) c)) (try_tree (at3 nodes n (λ x y z. node.Try x y z) (omega arith) (omega arith) (omega (arith, length-append b p)) h.0)
      (first nodes Expression (suc n) b p f two) (last nodes Pattern (suc n) b p g two) (third nodes Expression (suc n) b p c k h.1));
}

pub fits_finally : (a b : Piece) → Fits Expression a → Fits Expression b → Fits Expression (finally a b)
unfolding finally node_at
fits_finally a b f g = record {
  tree = λ nodes n h. tree_to (omega (arith, length-append a b)) (finally_tree (at2 nodes n (λ x y. node.Finally x y) (omega arith) (omega arith) h.0)
      (first nodes Expression (suc n) a b f h.1) (last nodes Expression (suc n) a b g h.1));
}

pub fits_hide : (e : Piece) → Fits Expression e → Fits Expression (hide e)
unfolding hide node_at
fits_hide e f = record { tree = λ nodes n h. tree_to (omega arith) (hide_tree (at1 nodes n (λ x. node.Hide x) (omega arith) h.0) (f.tree nodes (suc n) h.1)) }

pub fits_match : (e p : Piece) → Fits Expression e → Fits Pattern p → Fits Expression (match_bind e p)
unfolding match_bind node_at
fits_match e p f g = record {
  tree = λ nodes n h. tree_to (omega (arith, length-append e p)) (match_tree (at2 nodes n (λ x y. node.MatchBind x y) (omega arith) (omega arith) h.0)
      (first nodes Expression (suc n) e p f h.1) (last nodes Pattern (suc n) e p g h.1));
}

pub fits_object : (p : Piece) (es ms : List Piece) → Fits Naming p → AllFit Expression es → AllFit Member ms → Fits Expression (object p es ms)
unfolding object node_at
fits_object p es ms f g k = record {
  tree = λ nodes n h.
      let two = lies_first nodes (suc n) (p ++ joined es) (joined ms) h.1 in
      tree_to (omega (arith, length-append p (joined es), length-append (p ++ joined es) (joined ms)))
      (object_tree (at1 nodes n (λ x. node.Object x (map (λ i. n + i) (starts (length p) es)) (map (λ i. n + i) (starts (length (p ++ joined es)) ms))) (omega arith) h.0)
      (first nodes Naming (suc n) p (joined es) f two)
      (row nodes Expression n (length p) es g (lies_second nodes (suc n) p (joined es) two))
      (row_at (omega (arith, length-append p (joined es))) refl (row nodes Member n (length (p ++ joined es)) ms k (lies_second nodes (suc n) (p ++ joined es) (joined ms) h.1))));
}

pub fits_method : (v : List ℕ) (ps : List Piece) (b : Piece) → IsUtf8 v → AllFit Pattern ps → Fits Expression b → Fits Member (method v ps b)
unfolding method node_at
fits_method v ps b u f g = record {
  tree = λ nodes n h. tree_to (omega (arith, length-append (joined ps) b))
      (method_tree (at1 nodes n (λ x. node.Method v (map (λ i. n + i) (starts 0 ps)) x) (omega arith) h.0) u
      (row_at (omega arith) (omega arith) (row nodes Pattern n 0 ps f (lies_from nodes (suc n) (suc n + 0) (joined ps) (omega arith) (lies_first nodes (suc n) (joined ps) b h.1))))
      (last nodes Expression (suc n) (joined ps) b g h.1));
}

pub fits_matcher : (p b : Piece) → Fits Pattern p → Fits Expression b → Fits Member (matcher p b)
unfolding matcher node_at
fits_matcher p b f g = record {
  tree = λ nodes n h. tree_to (omega (arith, length-append p b)) (matcher_tree (at2 nodes n (λ x y. node.Matcher x y) (omega arith) (omega arith) h.0)
      (first nodes Pattern (suc n) p b f h.1) (last nodes Expression (suc n) p b g h.1));
}

pub fits_final : (x : List ℕ) (g : Option Piece) → IsName x → FitsIf Expression g → Fits Pattern (final_pattern x g)
unfolding final_pattern node_at start_if optional
fits_final x None i f = record { tree = λ nodes n h. tree_to (omega arith) (final h.0 i) }
fits_final x (Some g) i f = record { tree = λ nodes n h. tree_to (omega arith) (final_guarded (at1 nodes n (λ y. node.Final x (Some y)) (omega arith) h.0) i (f.tree nodes (suc n) h.1)) }

pub fits_variable : (x : List ℕ) (g : Option Piece) → IsName x → FitsIf Expression g → Fits Pattern (variable x g)
unfolding variable node_at start_if optional
fits_variable x None i f = record { tree = λ nodes n h. tree_to (omega arith) (variable_tree h.0 i) }
fits_variable x (Some g) i f = record { tree = λ nodes n h. tree_to (omega arith) (variable_guarded (at1 nodes n (λ y. node.Var x (Some y)) (omega arith) h.0) i (f.tree nodes (suc n) h.1)) }

pub fits_any : (g : Option Piece) → FitsIf Expression g → Fits Pattern (any g)
unfolding any node_at start_if optional
fits_any None f = record { tree = λ nodes n h. tree_to (omega arith) (any_tree h.0) }
fits_any (Some g) f = record { tree = λ nodes n h. tree_to (omega arith) (any_guarded (at1 nodes n (λ y. node.Any (Some y)) (omega arith) h.0) (f.tree nodes (suc n) h.1)) }

pub fits_list : (ps : List Piece) → AllFit Pattern ps → Fits Pattern (list ps)
unfolding list node_at
fits_list ps f = record {
  tree = λ nodes n h. tree_to (omega arith) (list_tree h.0
      (row_at (omega arith) refl (row nodes Pattern n 0 ps f (lies_from nodes (suc n) (suc n + 0) (joined ps) (omega arith) h.1))));
}

pub fits_via : (e p : Piece) → Fits Expression e → Fits Pattern p → Fits Pattern (via e p)
unfolding via node_at
fits_via e p f g = record {
  tree = λ nodes n h. tree_to (omega (arith, length-append e p)) (via_tree (at2 nodes n (λ x y. node.Via x y) (omega arith) (omega arith) h.0)
      (first nodes Expression (suc n) e p f h.1) (last nodes Pattern (suc n) e p g h.1));
}

-- what names an object
pub fits_named : (x : List ℕ) → IsName x → Fits Naming (final_pattern x None)
unfolding final_pattern node_at start_if optional
fits_named x i = record { tree = λ nodes n h. tree_to (omega arith) (named h.0 i) }

pub fits_unnamed : Fits Naming (any None)
unfolding any node_at start_if optional
fits_unnamed = record { tree = λ nodes n h. tree_to (omega arith) (unnamed h.0) }

-- ---- a piece that is placed

-- what stands behind some nodes
get_here : (xs ys : List Node) (x : Node) → slice_get (xs ++ x ∷ ys) (length xs) ≡ Some x
get_here [] ys x = refl
get_here (y ∷ xs) ys x = get_here xs ys x

lies_placed : (before : List Node) (p : Piece) (n : ℕ) → length before ≡ n → (nodes : List Node) → nodes ≡ before ++ placed n p → Lies nodes n p
unfolding placed
lies_placed before [] n l nodes e = tt
lies_placed before (m ∷ p) n l nodes e = (
  ap (λ (xs : List Node). slice_get xs n) e ∙ ap (λ (k : ℕ). slice_get (before ++ node_at n m ∷ placed (suc n) p) k) (sym l) ∙ get_here before (placed (suc n) p) (node_at n m),
  lies_placed (before ++ node_at n m ∷ []) p (suc n) (omega (arith, l, length-append before (node_at n m ∷ []))) nodes (e ∙ sym (append_assoc before (node_at n m ∷ []) (placed (suc n) p))),
)

length_placed : (n : ℕ) (p : Piece) → length (placed n p) ≡ length p
unfolding placed
length_placed n [] = refl
length_placed n (m ∷ p) = ap suc (length_placed (suc n) p)

pub placed_tree : (p : Piece) → Fits Expression p → IsTree (placed 0 p)
placed_tree p f = subst (λ (k : ℕ). Tree (placed 0 p) Expression 0 k) (let l = length_placed 0 p in omega arith) (f.tree (placed 0 p) 0 (lies_placed [] p 0 refl (placed 0 p) refl))
