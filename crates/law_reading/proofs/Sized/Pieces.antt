-- What each way to put pieces together weighs.
use Rattle.std.proofs.Common.{◌≡◌, ℕ, suc, ◌+◌, List, [], ◌∷◌, ◌++◌, Option, Some, None, arith, refl}
use Rattle.def_kernel.specs.declared.node.Literal.{Literal}
use Rattle.ev_piece.specs.Pieces.{Piece, joined, optional, lit, noun, set, def, call, seq, if_, escape, escape_catch, try_catch, finally, hide, match_bind, object, method, matcher, final_pattern, variable, any, list, via}
use Rattle.law_reading.specs.Sized.Weights.{over, literal_weight, weight}

pub weight_append : (p q : Piece) → weight (p ++ q) ≡ weight p + weight q
weight_append [] q = omega arith
weight_append (m ∷ p) q = let rest = weight_append p q in omega arith

-- pieces together
abbrev pub total : List Piece → ℕ
total [] = 0
total (p ∷ ps) = weight p + total ps

pub total_append : (ps qs : List Piece) → total (ps ++ qs) ≡ total ps + total qs
total_append [] qs = omega arith
total_append (p ∷ ps) qs = let rest = total_append ps qs in omega arith

weight_joined : (ps : List Piece) → weight (joined ps) ≡ total ps
unfolding joined
weight_joined [] = refl
weight_joined (p ∷ ps) = omega (arith, weight_append p (joined ps), weight_joined ps)

abbrev pub weight_if : Option Piece → ℕ
weight_if None = 0
weight_if (Some p) = weight p

weight_optional : (o : Option Piece) → weight (optional o) ≡ weight_if o
unfolding optional
weight_optional None = refl
weight_optional (Some p) = refl

-- ---- each way

pub weighs_lit : (l : Literal) → weight (lit l) ≡ literal_weight l
unfolding lit
weighs_lit l = omega arith

pub weighs_noun : (x : List ℕ) → weight (noun x) ≡ suc (over x)
unfolding noun
weighs_noun x = omega arith

pub weighs_set : (x : List ℕ) (e : Piece) → weight (set x e) ≡ suc (over x) + weight e
unfolding set
weighs_set x e = refl

pub weighs_def : (p : Piece) (j : Option Piece) (e : Piece) → weight (def p j e) ≡ 1 + (weight p + (weight_if j + weight e))
unfolding def
weighs_def p j e = omega (arith, weight_append (p ++ optional j) e, weight_append p (optional j), weight_optional j)

pub weighs_call : (r : Piece) (v : List ℕ) (es : List Piece) → weight (call r v es) ≡ suc (over v) + (weight r + total es)
unfolding call
weighs_call r v es = omega (arith, weight_append r (joined es), weight_joined es)

pub weighs_seq : (es : List Piece) → weight (seq es) ≡ suc (total es)
unfolding seq
weighs_seq es = omega (arith, weight_joined es)

pub weighs_if : (a b c : Piece) → weight (if_ a b c) ≡ 1 + (weight a + (weight b + weight c))
unfolding if_
weighs_if a b c = omega (arith, weight_append (a ++ b) c, weight_append a b)

pub weighs_escape : (p b : Piece) → weight (escape p b) ≡ 1 + (weight p + weight b)
unfolding escape
weighs_escape p b = omega (arith, weight_append p b)

pub weighs_escape_catch : (p b q c : Piece) → weight (escape_catch p b q c) ≡ 1 + (weight p + (weight b + (weight q + weight c)))
unfolding escape_catch
weighs_escape_catch p b q c = omega (arith, weight_append ((p ++ b) ++ q) c, weight_append (p ++ b) q, weight_append p b)

pub weighs_try : (b p c : Piece) → weight (try_catch b p c) ≡ 1 + (weight b + (weight p + weight c))
unfolding try_catch
weighs_try b p c = omega (arith, weight_append (b ++ p) c, weight_append b p)

pub weighs_finally : (a b : Piece) → weight (finally a b) ≡ 1 + (weight a + weight b)
unfolding finally
weighs_finally a b = omega (arith, weight_append a b)

pub weighs_hide : (e : Piece) → weight (hide e) ≡ suc (weight e)
unfolding hide
weighs_hide e = omega arith

pub weighs_match : (e p : Piece) → weight (match_bind e p) ≡ 1 + (weight e + weight p)
unfolding match_bind
weighs_match e p = omega (arith, weight_append e p)

pub weighs_object : (p : Piece) (es ms : List Piece) → weight (object p es ms) ≡ 1 + (weight p + (total es + total ms))
unfolding object
weighs_object p es ms = omega (arith, weight_append (p ++ joined es) (joined ms), weight_append p (joined es), weight_joined es, weight_joined ms)

pub weighs_method : (v : List ℕ) (ps : List Piece) (b : Piece) → weight (method v ps b) ≡ suc (over v) + (total ps + weight b)
unfolding method
weighs_method v ps b = omega (arith, weight_append (joined ps) b, weight_joined ps)

pub weighs_matcher : (p b : Piece) → weight (matcher p b) ≡ 1 + (weight p + weight b)
unfolding matcher
weighs_matcher p b = omega (arith, weight_append p b)

pub weighs_final : (x : List ℕ) (g : Option Piece) → weight (final_pattern x g) ≡ suc (over x) + weight_if g
unfolding final_pattern
weighs_final x g = omega (arith, weight_optional g)

pub weighs_variable : (x : List ℕ) (g : Option Piece) → weight (variable x g) ≡ suc (over x) + weight_if g
unfolding variable
weighs_variable x g = omega (arith, weight_optional g)

pub weighs_any : (g : Option Piece) → weight (any g) ≡ 1 + weight_if g
unfolding any
weighs_any g = omega (arith, weight_optional g)

pub weighs_list : (ps : List Piece) → weight (list ps) ≡ suc (total ps)
unfolding list
weighs_list ps = omega (arith, weight_joined ps)

pub weighs_via : (e p : Piece) → weight (via e p) ≡ 1 + (weight e + weight p)
unfolding via
weighs_via e p = omega (arith, weight_append e p)

-- a word of the rows, which is short
pub weighs_word : (x : List ℕ) → over x ≡ 0 → weight (noun x) ≡ 1
weighs_word x h = omega (arith, weighs_noun x)
