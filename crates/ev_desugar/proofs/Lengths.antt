-- Rows that look at how long a list is.
use Rattle.std.proofs.Common.{◌≡◌, ℕ, suc, ◌+◌, ◌≤◌, ◌<◌, List, [], ◌∷◌, ◌++◌, length, reverse, refl, sym, ◌∙◌, ap, append_assoc, arith, Some, None, length-append, lit<, ◌⊎◌, inl, inr, Bool, true, false, cond, eqb, encode_utf8}
use Rattle.std.proofs.lemmas.Bool.{eqb-true}
use Rattle.std.proofs.lemmas.Str.{encode_ascii}
use Rattle.std.proofs.lemmas.List.{reverse-append, length-reverse}
use Rattle.def_kernel.specs.declared.node.Node.{Node}
use Rattle.def_kernel.specs.declared.node.Node.TheVariants as node
use Rattle.ev_piece.specs.Pieces.{Piece, seq, try_catch, noun, call}
use Rattle.ev_desugar.specs.Words.{Words, character, character_behind}
use Rattle.std.specs.Prelude.{codes}
use Rattle.ev_desugar.specs.Rows.{null, body, caught, tried, noun_guard}

pub body_of_many : (es : List Piece) → 1 < length es → body es ≡ seq es
unfolding body
body_of_many [] h = absurd (omega arith)
body_of_many (e ∷ []) h = absurd (omega arith)
body_of_many (e ∷ d ∷ es) h = refl

pub body_of_one : (rest : List Piece) (e : Piece) → length (rest ++ e ∷ []) ≤ 1 → body (rest ++ e ∷ []) ≡ e
unfolding body
body_of_one [] e h = refl
body_of_one (d ∷ rest) e h = let n : length (rest ++ e ∷ []) ≡ length rest + 1 = length-append rest (e ∷ []) in absurd (omega arith)

pub body_of_none : (es : List Piece) → length es ≡ 0 → body es ≡ null
unfolding body
body_of_none [] h = refl
body_of_none (e ∷ es) h = absurd (omega arith)

pub caught_behind : (b : Piece) (cs : List (Piece × Piece)) (c : Piece × Piece) → caught b (cs ++ c ∷ []) ≡ try_catch (caught b cs) c.0 c.1
unfolding caught
caught_behind b [] c = refl
caught_behind b (d ∷ cs) c = caught_behind (try_catch b d.0 d.1) cs c

pub tried_some : (b : Piece) (cs : List (Piece × Piece)) → (cs ≡ [] → ⊥) → tried b cs None ≡ caught b cs
unfolding tried
tried_some b [] h = absurd (h refl)
tried_some b (c ∷ cs) h = refl

pub noun_guard_some : (x : Words) (es : List Piece) → (es ≡ [] → ⊥) → noun_guard x es ≡ call (noun x) (codes "get") es
unfolding noun_guard
noun_guard_some x [] h = absurd (h refl)
noun_guard_some x (e ∷ es) h = refl

-- The nodes of nested catches: the `try` nodes from the outermost, then what stands behind them. One more catch is one more
-- `try` node before them all, and its pattern and handler behind.
pub caught_grows : (b : Piece) (cs : List (Piece × Piece)) (heads nodes p h : Piece) → reverse heads ++ nodes ≡ caught b cs → reverse (heads ++ node.Try 1 (suc (length heads + length nodes)) (suc (length heads + length (nodes ++ p))) ∷ []) ++ (nodes ++ p ++ h) ≡ caught b (cs ++ (p, h) ∷ [])
unfolding try_catch
caught_grows b cs heads nodes p h e =
    let n : length (reverse heads ++ nodes) ≡ length heads + length nodes = length-append (reverse heads) nodes ∙ ap (λ k. k + length nodes) (length-reverse heads) in
    let m : length (reverse heads ++ nodes ++ p) ≡ length heads + length (nodes ++ p) = ap length (append_assoc (reverse heads) nodes p) ∙ length-append (reverse heads) (nodes ++ p) ∙ ap (λ k. k + length (nodes ++ p)) (length-reverse heads) in
    let head : Node = node.Try 1 (suc (length heads + length nodes)) (suc (length heads + length (nodes ++ p))) in
    let whole : reverse heads ++ (nodes ++ p ++ h) ≡ reverse heads ++ nodes ++ p ++ h = sym (append_assoc (reverse heads) (nodes ++ p) h) ∙ ap (λ r. r ++ h) (sym (append_assoc (reverse heads) nodes p)) in
    ap (λ r. r ++ (nodes ++ p ++ h)) (reverse-append heads (head ∷ []))
    ∙ ap (λ r. head ∷ r) whole
    ∙ ap (λ k. node.Try 1 (suc k) (suc (length heads + length (nodes ++ p))) ∷ (reverse heads ++ nodes ++ p ++ h)) (sym n)
    ∙ ap (λ k. node.Try 1 (suc (length (reverse heads ++ nodes))) (suc k) ∷ (reverse heads ++ nodes ++ p ++ h)) (sym m)
    ∙ ap (λ r. try_catch r p h) e
    ∙ sym (caught_behind b cs (p, h))

bool_cases : (b : Bool) → (b ≡ true) ⊎ (b ≡ false)
bool_cases true = inl refl
bool_cases false = inr refl

-- a character token that does not begin with its quote
pub no_quote : (s : List ℕ) → ((rest : List ℕ) → s ≡ encode_utf8 39 ++ rest → ⊥) → character s ≡ 0
unfolding character
no_quote [] h = refl
no_quote (b ∷ s) h = elim (bool_cases (eqb b 39)) [
  | inl e ↦ absurd (h s (ap (λ x. x ∷ s) (eqb-true b 39 e) ∙ sym (ap (λ xs. xs ++ s) (encode_ascii 39 (lit< tt)))))
  | inr e ↦ ap (λ t. cond t (character_behind s) 0) e
]
