-- Stamps are told apart as the machine tells them.
use Rattle.std.proofs.Common.{◌≡◌, ℕ, Bool, true, false, List, [], ◌∷◌, refl}
use Rattle.std.specs.Prelude.{if◌then◌else◌}
use Rattle.ev_base.specs.declared.values.Value.{Value}
use Rattle.ev_base.specs.declared.values.Value.TheVariants as held
use Rattle.def_kernel.specs.declared.node.Node.{Node}
use Rattle.def_machine.specs.Values.{Words, Local, Naming, numbering, same_local}
use Rattle.def_machine.specs.Perform as perform
use Rattle.ev_prims.specs.Reading.{value_by, values_by}
use Rattle.ev_audit.specs.Stamps.{same_auditor, bears}

module _ (word : ℕ → ℕ) (tree : List Node) (t : ℕ → Words) where
  abbrev names : Naming Local Local
  names = numbering {W = Local} word

  abbrev Same : Value → Value → Type 0
  Same a b = perform.same_stamp names tree (value_by t a) (value_by t b) ≡ same_auditor a b

  same_is : (a b : Value) → Same a b
  unfolding perform.same_stamp same_local numbering
  same_is (held.Prim m) (held.Prim n) = refl
  same_is (held.Obj i) (held.Obj j) = refl
  same_is (held.Prom i) (held.Prom j) = refl
  same_is (held.Far v p) (held.Far u q) = refl
  same_is (held.Obj i) (held.Prom j) = refl
  same_is (held.Obj i) (held.Far u q) = refl
  same_is (held.Prom i) (held.Obj j) = refl
  same_is (held.Prom i) (held.Far u q) = refl
  same_is (held.Far v p) (held.Obj j) = refl
  same_is (held.Far v p) (held.Prom j) = refl
  same_is held.Null b = refl
  same_is (held.Bool c) b = refl
  same_is (held.Int z) b = refl
  same_is (held.Char c) b = refl
  same_is (held.Text i) b = refl
  same_is (held.List k) b = refl
  same_is (held.Broken i) b = refl
  same_is (held.Prim n) _ = refl
  same_is (held.Obj i) _ = refl
  same_is (held.Prom i) _ = refl
  same_is (held.Far v p) _ = refl

  first : (a b c d : Bool) → a ≡ b → c ≡ d → elim a [ true ↦ true | false ↦ c ] ≡ (if b then true else d)
  first true true c d e f = refl
  first false false c d e f = f
  first true false c d e f = absurd (cc)
  first false true c d e f = absurd (cc)

  pub bears_is : (a : Value) (bs : List Value) → perform.has_stamp names tree (value_by t a) (values_by t bs) ≡ bears a bs
  unfolding perform.has_stamp bears
  bears_is a [] = refl
  bears_is a (b ∷ bs) = first (perform.same_stamp names tree (value_by t a) (value_by t b)) (same_auditor a b) (perform.has_stamp names tree (value_by t a) (values_by t bs)) (bears a bs) (same_is a b) (bears_is a bs)
