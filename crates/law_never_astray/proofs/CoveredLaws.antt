-- Evaluation of an accepted tree keeps what the objects of a vat carry.
use Rattle.std.proofs.Common.{◌≡◌, ℕ, zero, Bool, true, false, List, [], ◌∷◌, Some, None, refl, sym, subst, ◌⊎◌, inl, inr, length, arith}
use Rattle.std.specs.Prelude.{is_some}
use Rattle.def_machine.specs.Values.{Words, Value, Naming, Spot, Own, naming, numbering}
use Rattle.def_machine.specs.State.{Binding, Vat, Done, Gives, Stops}
use Rattle.def_machine.specs.Scopes.{Evaluator, bound_in}
use Rattle.def_machine.specs.Calls as calls
use Rattle.def_machine.specs.Eval.{evaluator}
use Rattle.def_kernel.specs.declared.node.Node.{Node}
use Rattle.def_kernel.specs.declared.shape.Kind.TheVariants.{Expression}
use Rattle.def_kernel.specs.Trees.{IsTree}
use Rattle.ev_reader.specs.declared.scope.Binding.{Binding as Named}
use Rattle.ev_reader.specs.Scopes as static
use Rattle.ev_reader.specs.Scopes.{bound, with_name, with_given, first_fault}
use Rattle.law_never_astray.proofs.AcceptedTrees.{accepted_scoped}
use Rattle.law_never_astray.specs.Formed.{AllOf}
use Rattle.law_never_astray.specs.Covered.{Stands, Covers}
use Rattle.law_never_astray.specs.CoveredLaws.{AreGiven, EndsCarrying, EvaluationCarries, EvaluationsCarry}
use Rattle.law_never_astray.proofs.Parts.{tree_formed}
use Rattle.law_never_astray.proofs.Statics.{bound_either}
use Rattle.law_never_astray.proofs.Leads.{AtStops, Ends, Leads, Nothing, Refers, MayStop, lead_forget}
use Rattle.law_never_astray.proofs.CoveredNatives.{GoodCaller}
use Rattle.law_never_astray.proofs.Settled.{refers}
use Rattle.law_never_astray.proofs.CoveredEval.{answer, GoodEvaluator, lead_turn_value}
use Rattle.law_never_astray.proofs.CoveredDepths.{good_evaluator, good_call}

-- ---- the names that are given

module _ {N : Type 0} (many : ℕ) (nouns : List (Binding N)) where
  covers_name : (x : Words) (scope : List Named) → Stands many false x (bound_in nouns x) → Covers many nouns (scope ∷ []) → Covers many nouns (with_name x false scope ∷ [])
  covers_name x scope h c = go (is_some (static.bound_in x scope)) refl
    where
      go : (t : Bool) → is_some (static.bound_in x scope) ≡ t → Covers many nouns (with_name x false scope ∷ [])
      go true e = subst (λ z. Covers many nouns (z ∷ [])) (sym (let same : with_name x false scope ≡ scope = rw (e, with_name) refl in same)) c
      go false e = λ y w f. either y w (bound_either x y false w (scope ∷ []) e f)
        where
          either : (y : Words) (w : Bool) → ((y ≡ x) × (w ≡ false)) ⊎ ((y ≡ x → ⊥) × (bound y (scope ∷ []) ≡ Some w)) → Stands many w y (bound_in nouns y)
          either y w (inl i) = subst (λ u. Stands many u y (bound_in nouns y)) (sym i.1) (subst (λ z. Stands many false z (bound_in nouns z)) (sym i.0) h)
          either y w (inr i) = c y w i.1

  pub covers_given : (given : List Words) (scope : List Named) → AllOf (λ x. Stands many false x (bound_in nouns x)) given → Covers many nouns (scope ∷ []) → Covers many nouns (with_given given scope ∷ [])
  covers_given [] scope h c = c
  covers_given (x ∷ xs) scope h c = covers_given xs (with_name x false scope) h.1 (covers_name x scope h.0 c)

  pub covers_none : Covers many nouns ([] ∷ [])
  covers_none x v e = cc

-- ---- evaluation

-- nothing is said of a stop
abbrev pub Whatever : {N : Type 0} → AtStops N
Whatever c s = Unit {0}

may_stop : {N : Type 0} → MayStop {N = N} Whatever
may_stop = record { fuel = λ s. tt; deep = λ s. tt; lost = λ s i e. tt }

pub ends_carrying : {N A : Type 0} (tree : List Node) (many : ℕ) (H : ℕ → A → Type 0) (d : Done N A) → Ends tree Whatever many H d → EndsCarrying tree d
ends_carrying tree many H (Gives a t) h = h.0.1
ends_carrying tree many H (Stops c t) h = tt
ends_carrying tree many H other h = h.1

is_own : {N W : Type 0} (K : Naming N W) (n : N) (p : Spot) → K.spot n ≡ p → ((i : ℕ) × (K.spot n ≡ Own i)) ⊎ ((s : Vat N) → Unit {0})
is_own K n (Own i) e = inl (i, e)
is_own K n other e = inr (λ s. tt)

module _ {N W : Type 0} (K : Naming N W) (tree : List Node) where
  pub refs : Refers K tree Whatever
  refs = refers K tree Whatever (λ d u. tt)

  ends : (rec : Evaluator N) → GoodEvaluator tree Whatever rec → GoodCaller tree Whatever (calls.call K tree rec)
  ends = good_call K tree Whatever may_stop refs (λ u. tt)

  good : (depth : ℕ) → GoodEvaluator tree Whatever (evaluator K tree depth)
  good = good_evaluator K tree Whatever may_stop refs ends

  pub program_leads : (names : List Words) → IsTree tree → first_fault tree names ≡ None → (nouns : List (Binding N)) → AreGiven nouns names → (depth act : ℕ) → Leads tree Whatever zero Nothing ((evaluator K tree depth).expression 0 (record { act = act; nouns = nouns }))
  program_leads names t f nouns g depth act = let a = accepted_scoped tree names t f in let formed = tree_formed tree Expression 0 (length tree) t (length tree) (omega arith) in let rec = good depth in
      lead_forget tree Whatever (answer a.0) (rec.expression zero _ a.0 0 (record { act = act; nouns = nouns }) tt formed a.1 (covers_given zero nouns names [] g (covers_none zero nouns)))

  pub turn_leads : (depth act : ℕ) (target : Value N) (verb : Words) (args : List (Value N)) → Leads tree Whatever zero Nothing (calls.turn_value K tree (evaluator K tree depth) act target verb args)
  turn_leads depth act target verb args = lead_turn_value K tree Whatever may_stop refs (evaluator K tree depth) (good depth) (ends (evaluator K tree depth) (good depth)) zero act target (λ n e. is_own K n (K.spot n) refl) verb args

evaluation_carries : {N W : Type 0} (K : Naming N W) → EvaluationCarries K
evaluation_carries K tree depth act s c = (
  λ names nouns t f g. let l = program_leads K tree names t f nouns g depth act in ends_carrying tree _ Nothing _ (l.after s (omega arith, c)),
  λ target verb args. let l = turn_leads K tree depth act target verb args in ends_carrying tree _ Nothing _ (l.after s (omega arith, c)),
)

pub evaluations_carry : EvaluationsCarry
evaluations_carry = (λ word v. evaluation_carries (naming word v), λ word. evaluation_carries (numbering word))
