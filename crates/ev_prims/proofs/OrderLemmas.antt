-- The order of the code is that of the machine.
use Rattle.std.proofs.Common.{◌≡◌, ℕ, ℤ, pos, negsuc, Bool, [], ◌∷◌, Option, Some, None, refl, ap, ◌∙◌, arith}
use Rattle.std.specs.Prelude.{codes}
use Rattle.std.specs.Ordering.{nat_cmp, int_cmp, ordering_then}
use Rattle.std.specs.Cmp.Lexicographic.{slice_cmp}
use Rattle.std.specs.declared.cmp.Ordering.{Ordering}
use Rattle.std.specs.declared.cmp.Ordering.TheVariants.{Less, Equal, Greater}
use Rattle.std.proofs.lemmas.Bool.Decides.{nat_tests}
use Rattle.def_machine.specs.Values.{Words, Flag, Local}
use Rattle.def_machine.specs.Native as native
use Rattle.ev_base.specs.declared.values.Value.TheVariants as held
use Rattle.ev_prims.specs.Orders.{order_in, test_in, compared_by}
use Rattle.ev_prims.specs.declared.order.Test.{Test}
use Rattle.ev_prims.specs.declared.problem.Problem.TheVariants.{NotComparable}
use Rattle.ev_prims.specs.declared.reply.Reply.TheVariants as reply

pub order_of_is : (a b : ℕ) → native.order_of a b ≡ order_in (nat_cmp a b)
unfolding native.order_of
order_of_is a b = grind (arith, nat_tests)

by_first : (o : Ordering) (p : native.Order) (q : Ordering) → p ≡ order_in q
    → elim (order_in o) [ native.Less ↦ native.Less | native.Equal ↦ p | native.Greater ↦ native.Greater ] ≡ order_in (ordering_then o q)
by_first Less p q e = refl
by_first Equal p q e = e
by_first Greater p q e = refl

pub text_order_is : (a b : Words) → native.text_order a b ≡ order_in (slice_cmp nat_cmp a b)
unfolding native.text_order
text_order_is [] [] = refl
text_order_is [] (b ∷ bs) = refl
text_order_is (a ∷ as') [] = refl
text_order_is (a ∷ as') (b ∷ bs) =
    ap (λ o. elim o [ native.Less ↦ native.Less | native.Equal ↦ native.text_order as' bs | native.Greater ↦ native.Greater ]) (order_of_is a b)
    ∙ by_first (nat_cmp a b) (native.text_order as' bs) (slice_cmp nat_cmp as' bs) (text_order_is as' bs)

pub int_order_is : (a b : ℤ) → native.int_order a b ≡ order_in (int_cmp a b)
unfolding native.int_order
int_order_is (pos a) (pos b) = grind (arith, nat_tests)
int_order_is (pos a) (negsuc b) = refl
int_order_is (negsuc a) (pos b) = refl
int_order_is (negsuc a) (negsuc b) = grind (arith, nat_tests)

pub compared_none : (t : native.Order → Bool) (o : Option native.Order) → o ≡ None → native.compared {N = Local} t o ≡ native.Fails (codes "not comparable")
unfolding native.compared
compared_none t None e = refl
compared_none t (Some o) e = absurd (cc)

pub compared_some : (t : native.Order → Bool) (o : Option native.Order) (p : native.Order) → o ≡ Some p → native.compared {N = Local} t o ≡ native.Says (Flag (t p))
unfolding native.compared
compared_some t None p e = absurd (cc)
compared_some t (Some o) p e = let f : Some o ≡ Some p = e in let g : o ≡ p = cc in ap (λ q. native.Says (Flag (t q))) g

pub ordered_none : (t : Test) (o : Option native.Order) → o ≡ None → compared_by t o ≡ reply.Fails NotComparable
unfolding compared_by
ordered_none t o e = ap (compared_by t) e

pub ordered_some : (t : Test) (o : Option native.Order) (p : native.Order) → o ≡ Some p → compared_by t o ≡ reply.Says (held.Bool (test_in t p))
unfolding compared_by
ordered_some t o p e = ap (compared_by t) e
