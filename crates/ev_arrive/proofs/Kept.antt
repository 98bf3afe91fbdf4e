-- What a heap has may be weighed, and a list that comes in is kept within the limits.
use Rattle.std.proofs.Common.{◌≡◌, ℕ, zero, suc, ◌<◌, nat_lt, Bool, true, false, List, [], ◌∷◌, length, All, Err, refl, sym, ap, ◌∙◌, arith}
use Rattle.std.specs.Prelude.{if◌then◌else◌}
use Rattle.std.specs.Bool.{OnTrue}
use Rattle.std.proofs.lemmas.Bool.Decides.{nat_tests}
use Rattle.ev_base.specs.declared.values.Value.{Value}
use Rattle.ev_base.specs.declared.values.Value.TheVariants as held
use Rattle.ev_heap.specs.Contents.{Contents, IsWeighable, is_light}
use Rattle.ev_pass.specs.Acts.{fail}
use Rattle.ev_pass.specs.declared.interior.Interior.{Interior}
use Rattle.ev_pass.specs.declared.interior.Stop.TheVariants.{Missing}
use Rattle.ev_arrive.specs.Learning.{are_kept, is_kept, keep_list, list_if, new_list}

-- one part of a test of two
both : (a b : Bool) → (if a then b else false) ≡ true → (a ≡ true) × (b ≡ true)
both true b h = (refl, h)
both false b h = cc

pub below : (a b : ℕ) → nat_lt a b ≡ true → a < b
below a b e = grind (arith, nat_tests)

weighable : (h : Contents) (v : Value) → is_kept h v ≡ true → IsWeighable h v
weighable h (held.Text id) e = below id (length h.texts) e
weighable h (held.Broken id) e = below id (length h.texts) e
weighable h (held.List id) e = below id (length h.lists) e
weighable h _ e = tt

all_weighable : (h : Contents) (vs : List Value) → are_kept h vs ≡ true → All (IsWeighable h) vs
all_weighable h [] e k d l = absurd (omega arith)
all_weighable h (v ∷ vs) e zero d l = weighable h v (both (is_kept h v) (are_kept h vs) e).0
all_weighable h (v ∷ vs) e (suc k) d l = all_weighable h vs (both (is_kept h v) (are_kept h vs) e).1 k d (omega arith)

pub on_all : (h : Contents) (vs : List Value) (b : Bool) → b ≡ are_kept h vs → OnTrue b (All (IsWeighable h) vs)
on_all h vs true e = all_weighable h vs (sym e)
on_all h vs false e = tt

by_tests : (vs : List Value) (s : Interior) (a b : Bool) → are_kept s.heap vs ≡ a → is_light s.heap vs ≡ b → new_list vs s ≡ list_if vs a b s
unfolding new_list
by_tests vs s a b e f = ap (λ (x : Bool). list_if vs x (is_light s.heap vs) s) e ∙ ap (λ (x : Bool). list_if vs a x s) f

pub not_there : (vs : List Value) (s : Interior) → are_kept s.heap vs ≡ false → new_list vs s ≡ (Err Missing, s)
unfolding list_if fail
not_there vs s e = by_tests vs s false (is_light s.heap vs) e refl

pub too_heavy : (vs : List Value) (s : Interior) → are_kept s.heap vs ≡ true → is_light s.heap vs ≡ false → new_list vs s ≡ (Err Missing, s)
unfolding list_if fail
too_heavy vs s e f = by_tests vs s true false e f

pub light : (vs : List Value) (s : Interior) → are_kept s.heap vs ≡ true → is_light s.heap vs ≡ true → new_list vs s ≡ keep_list vs s
unfolding list_if
light vs s e f = by_tests vs s true true e f
