-- What is told of a value is what the machine tells.
use Rattle.std.proofs.Common.{◌≡◌, ℕ, List, Option, refl, sym, ap, ◌∙◌, subst}
use Rattle.ev_base.specs.declared.values.Value.{Value as Held}
use Rattle.ev_base.specs.declared.values.Value.TheVariants as held
use Rattle.def_kernel.specs.declared.node.Node.{Node}
use Rattle.def_machine.specs.Perform as perform
use Rattle.def_machine.specs.Perform.{test_reply}
use Rattle.def_machine.specs.Refs as refs
use Rattle.def_machine.specs.Scopes as scopes
use Rattle.def_machine.specs.Values.{Words, Value, Local}
use Rattle.ev_prims.specs.Asking.{ref_test_in}
use Rattle.ev_prims.specs.declared.asking.RefTest.{RefTest}
use Rattle.ev_prims.specs.declared.asking.RefTest.TheVariants.{IsNear, IsFar, IsResolved, IsBroken, OptProblem, Fulfillment}
use Rattle.ev_refs.specs.Follow.{followed, place_of}
use Rattle.ev_refs.specs.Reading.{value_by, place_by, vat_by}
use Rattle.ev_refs.specs.References.{References}
use Rattle.ev_refs.specs.Telling.{told_at, reply_by, broken_reply, broken_of, BreaksAsTheMachine, TellsAsTheMachine}
use Rattle.ev_refs.specs.declared.follow.Place.{Place}
use Rattle.ev_refs.specs.declared.follow.Place.TheVariants.{Near, Mine, FarPromise, FarObject, Gone}
use Rattle.ev_refs.specs.declared.natives.RefReply.{RefReply}
use Rattle.ev_refs.proofs.Machine.{names, follow_is, place_is}

module _ (word : ℕ → ℕ) (tree : List Node) (ts : List Words) (x : Held) where
  abbrev Same : RefTest → Place → Type 0
  Same test p = test_reply (names word) tree (ref_test_in test) (value_by ts x) (place_by ts p) ≡ reply_by ts (told_at test x p)

  told_is : (test : RefTest) (p : Place) → Same test p
  unfolding test_reply scopes.is_near perform.is_far perform.is_gone perform.is_unsettled perform.problem_of perform.fulfilled
  told_is IsNear Near = refl
  told_is IsNear (Mine n) = refl
  told_is IsNear (FarPromise h n) = refl
  told_is IsNear (FarObject h n) = refl
  told_is IsNear (Gone t) = refl
  told_is IsFar Near = refl
  told_is IsFar (Mine n) = refl
  told_is IsFar (FarPromise h n) = refl
  told_is IsFar (FarObject h n) = refl
  told_is IsFar (Gone t) = refl
  told_is IsResolved Near = refl
  told_is IsResolved (Mine n) = refl
  told_is IsResolved (FarPromise h n) = refl
  told_is IsResolved (FarObject h n) = refl
  told_is IsResolved (Gone t) = refl
  told_is IsBroken Near = refl
  told_is IsBroken (Mine n) = refl
  told_is IsBroken (FarPromise h n) = refl
  told_is IsBroken (FarObject h n) = refl
  told_is IsBroken (Gone t) = refl
  told_is OptProblem Near = refl
  told_is OptProblem (Mine n) = refl
  told_is OptProblem (FarPromise h n) = refl
  told_is OptProblem (FarObject h n) = refl
  told_is OptProblem (Gone t) = refl
  told_is Fulfillment Near = refl
  told_is Fulfillment (Mine n) = refl
  told_is Fulfillment (FarPromise h n) = refl
  told_is Fulfillment (FarObject h n) = refl
  told_is Fulfillment (Gone t) = refl

pub tells : (r : References) (test : RefTest) (x end : Held) (p : Place) (reply : RefReply) → end ≡ followed r x → p ≡ place_of r end → reply ≡ told_at test x p → TellsAsTheMachine r test x reply
tells r test x end p reply is here told = λ word tree ts s part.
    let stands : place_of r (followed r x) ≡ p = subst (λ (v : Held). place_of r v ≡ p) is (sym here) in
    ap (λ (y : Value Local). test_reply (names word) tree (ref_test_in test) (value_by ts x) (refs.place (names word) (vat_by ts r s) y)) (follow_is word ts r s x part)
    ∙ ap (λ (q : refs.Place Local). test_reply (names word) tree (ref_test_in test) (value_by ts x) q) (place_is word ts r s (followed r x))
    ∙ ap (λ (q : Place). test_reply (names word) tree (ref_test_in test) (value_by ts x) (place_by ts q)) stands
    ∙ told_is word tree ts x test p
    ∙ ap (λ (a : RefReply). reply_by ts a) (sym told)

broken_is : (word : ℕ → ℕ) (tree : List Node) (ts : List Words) (v : Held) → perform.broken_text (names word) tree (value_by ts v) ≡ broken_reply ts (broken_of v)
unfolding perform.broken_text
broken_is word tree ts (held.Text t) = refl
broken_is word tree ts held.Null = refl
broken_is word tree ts (held.Bool b) = refl
broken_is word tree ts (held.Int z) = refl
broken_is word tree ts (held.Char c) = refl
broken_is word tree ts (held.List k) = refl
broken_is word tree ts (held.Prim n) = refl
broken_is word tree ts (held.Obj i) = refl
broken_is word tree ts (held.Prom q) = refl
broken_is word tree ts (held.Far a q) = refl
broken_is word tree ts (held.Broken t) = refl

pub breaks : (r : References) (x end : Held) (reply : Option Held) → end ≡ followed r x → reply ≡ broken_of end → BreaksAsTheMachine r x reply
breaks r x end reply is told = λ word tree ts s part.
    ap (λ (y : Value Local). perform.broken_text (names word) tree y) (follow_is word ts r s x part ∙ ap (λ (v : Held). value_by ts v) (sym is))
    ∙ broken_is word tree ts end
    ∙ ap (λ (a : Option Held). broken_reply ts a) (sym told)

-- the same in the code's terms
pub told_so : (r : References) (test : RefTest) (x end : Held) (p : Place) (reply : RefReply) → end ≡ followed r x → p ≡ place_of r end → reply ≡ told_at test x p → reply ≡ told_at test x (place_of r (followed r x))
told_so r test x end p reply is here told = told ∙ ap (λ (q : Place). told_at test x q) (here ∙ ap (place_of r) is)

pub broken_so : (r : References) (x end : Held) (reply : Option Held) → end ≡ followed r x → reply ≡ broken_of end → reply ≡ broken_of (followed r x)
broken_so r x end reply is told = told ∙ ap (λ (v : Held). broken_of v) is
