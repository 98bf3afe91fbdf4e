-- One more piece behind others, and one more node.
use Rattle.std.proofs.Common.{◌≡◌, ℕ, suc, ◌+◌, List, [], ◌∷◌, ◌++◌, length, refl, sym, ◌∙◌, ap, append_assoc, length-append, arith}
use Rattle.std.proofs.lemmas.List.{append-nil}
use Rattle.def_kernel.specs.declared.node.Node.{Node}
use Rattle.ev_piece.specs.Pieces.{Piece, joined, starts}
use Rattle.ev_piece.specs.Placed.{node_at, placed}

pub joined_behind : (ps : List Piece) (p : Piece) → joined (ps ++ p ∷ []) ≡ joined ps ++ p
unfolding joined
joined_behind [] p = append-nil p
joined_behind (q ∷ ps) p = ap (λ r. q ++ r) (joined_behind ps p) ∙ sym (append_assoc q (joined ps) p)

pub starts_behind : (n : ℕ) (ps : List Piece) (p : Piece) → starts n (ps ++ p ∷ []) ≡ starts n ps ++ suc (n + length (joined ps)) ∷ []
unfolding joined starts
starts_behind n [] p = let e : n ≡ n + 0 = omega arith in ap (λ k. suc k ∷ []) e
starts_behind n (q ∷ ps) p =
    let e : n + length q + length (joined ps) ≡ n + length (q ++ joined ps) = omega (arith, length-append q (joined ps)) in
    ap (λ r. suc n ∷ r) (starts_behind (n + length q) ps p ∙ ap (λ k. starts (n + length q) ps ++ suc k ∷ []) e)

pub placed_behind : (n : ℕ) (ms : List Node) (m : Node) → placed n (ms ++ m ∷ []) ≡ placed n ms ++ node_at (n + length ms) m ∷ []
unfolding placed
placed_behind n [] m = let e : n ≡ n + 0 = omega arith in ap (λ k. node_at k m ∷ []) e
placed_behind n (k ∷ ms) m =
    let e : suc n + length ms ≡ n + suc (length ms) = omega arith in
    ap (λ r. node_at n k ∷ r) (placed_behind (suc n) ms m ∙ ap (λ j. placed (suc n) ms ++ node_at j m ∷ []) e)

-- the starts with that of one more piece
pub added_starts : (old nodes : Piece) (at at' : List ℕ) (k : ℕ) (ps : List Piece) (p : Piece) → at ≡ starts (length old) ps → nodes ≡ old ++ joined ps → k ≡ suc (length nodes) → at' ≡ at ++ k ∷ [] → at' ≡ starts (length old) (ps ++ p ∷ [])
added_starts old nodes at at' k ps p starts_are nodes_are k_is at'_is =
    let e : k ≡ suc (length old + length (joined ps)) = k_is ∙ ap (λ m. suc (length m)) nodes_are ∙ ap suc (length-append old (joined ps)) in
    at'_is ∙ ap (λ r. r ++ k ∷ []) starts_are ∙ ap (λ j. starts (length old) ps ++ j ∷ []) e ∙ sym (starts_behind (length old) ps p)

-- the nodes with those of one more piece
pub added_nodes : (old nodes nodes' : Piece) (ps : List Piece) (p : Piece) → nodes ≡ old ++ joined ps → nodes' ≡ nodes ++ p → nodes' ≡ old ++ joined (ps ++ p ∷ [])
added_nodes old nodes nodes' ps p nodes_are nodes'_are =
    nodes'_are ∙ ap (λ m. m ++ p) nodes_are ∙ append_assoc old (joined ps) p ∙ ap (λ r. old ++ r) (sym (joined_behind ps p))
