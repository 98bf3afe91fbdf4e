-- The parts before a mark, and the trees among some parts.
use Rattle.std.proofs.Common.{◌≡◌, ℕ, suc, List, [], ◌∷◌, ◌++◌, Bool, true, false, cond, length, drop, take, get_or, ◌+◌, ◌<◌, ◌≤◌, refl, sym, ◌∙◌, ap, arith, drop-cons, add-one, drop_of_length-le, take-suc, append_assoc, Some, drop-drop, length-drop}
use Rattle.def_syntax.specs.declared.token.TokenKind.{TokenKind}
use Rattle.ev_parser.specs.declared.draft.Part.{Part}
use Rattle.ev_parser.specs.declared.draft.Part.TheVariants as piece
use Rattle.ev_parser.specs.Surface.{is_mark, mark, trees, catches, CatchAt}

here : (ps : List Part) (i : ℕ) (p : Part) → i < length ps → p ≡ get_or ps i p → drop i ps ≡ p ∷ drop (i + 1) ps
here ps i p h e = drop-cons ps i p h ∙ ap (λ (q : Part). q ∷ drop (suc i) ps) (sym e) ∙ ap (λ (n : ℕ). p ∷ drop n ps) (sym (add-one i))

mark_by : (k : TokenKind) (p : Part) (ps : List Part) (b : Bool) → is_mark k p ≡ b → mark k (p ∷ ps) ≡ cond b 0 (suc (mark k ps))
mark_by k p ps b e = ap (λ (x : Bool). cond x 0 (suc (mark k ps))) e

pub mark_here : (k : TokenKind) (ps : List Part) (i : ℕ) (p : Part) → i < length ps → p ≡ get_or ps i p → is_mark k p ≡ true → mark k ps ≡ i + mark k (drop i ps) → i ≡ mark k ps
mark_here k ps i p h e m n =
    let z : mark k (drop i ps) ≡ 0 = ap (mark k) (here ps i p h e) ∙ mark_by k p (drop (i + 1) ps) true m in
    omega (arith, n, z)

pub mark_next : (k : TokenKind) (ps : List Part) (i : ℕ) (p : Part) → i < length ps → p ≡ get_or ps i p → is_mark k p ≡ false → mark k ps ≡ i + mark k (drop i ps) → mark k ps ≡ (i + 1) + mark k (drop (i + 1) ps)
mark_next k ps i p h e m n =
    let z : mark k (drop i ps) ≡ suc (mark k (drop (i + 1) ps)) = ap (mark k) (here ps i p h e) ∙ mark_by k p (drop (i + 1) ps) false m in
    omega (arith, n, z)

pub mark_last : (k : TokenKind) (ps : List Part) (i : ℕ) → length ps ≤ i → i ≤ length ps → mark k ps ≡ i + mark k (drop i ps) → length ps ≡ mark k ps
mark_last k ps i h l n =
    let z : mark k (drop i ps) ≡ 0 = ap (mark k) (drop_of_length-le ps h) in
    omega (arith, n, z)

pub trees-append : (ps qs : List Part) → trees (ps ++ qs) ≡ trees ps ++ trees qs
trees-append [] qs = refl
trees-append (piece.Tree i ∷ ps) qs = ap (λ (ts : List ℕ). i ∷ ts) (trees-append ps qs)
trees-append (piece.Token w ∷ ps) qs = trees-append ps qs

pub trees_next : (ps : List Part) (i : ℕ) (d : Part) → i < length ps → trees (take (i + 1) ps) ≡ trees (take i ps) ++ trees (get_or ps i d ∷ [])
trees_next ps i d h = ap trees (ap (λ (n : ℕ). take n ps) (add-one i) ∙ take-suc ps i d h) ∙ trees-append (take i ps) (get_or ps i d ∷ [])

pub catches_next : (ps : List Part) (i : ℕ) (f : List (ℕ × ℕ)) (c : ℕ × ℕ) → CatchAt (drop i ps) (Some c) → catches ps ≡ f ++ catches (drop i ps) → i ≤ length ps → (catches ps ≡ (f ++ c ∷ []) ++ catches (drop (i + 3) ps)) × (i + 3 ≤ length ps)
catches_next ps i f c h e l =
    let qs : List Part = h.1 in
    let d : drop (i + 3) ps ≡ qs = sym (drop-drop 3 i ps) ∙ ap (drop 3) h.2 in
    let k : catches (drop i ps) ≡ (c ∷ catches qs) = ap catches h.2 in
    let n : length (drop i ps) ≡ 3 + length qs = ap length h.2 ∙ omega arith in
    (e ∙ ap (λ (x : List (ℕ × ℕ)). f ++ x) (k ∙ ap (λ (x : List Part). c ∷ catches x) (sym d)) ∙ sym (append_assoc f (c ∷ []) (catches (drop (i + 3) ps))), omega (arith, n, length-drop i ps))
