-- The evaluator of every depth: a call that uses up its levels does so in a bad state alone.
use Rattle.std.proofs.Common.{◌≡◌, ℕ, zero, suc, ◌+◌, List, refl, subst, ◌∙◌, length}
use Rattle.def_machine.specs.Values.{Words, Value, Naming}
use Rattle.def_machine.specs.State.{Message, Known, Vat, Stop, Deep, Astray, Done, Stops, stop}
use Rattle.def_machine.specs.Calls as calls
use Rattle.def_machine.specs.Eval as eval
use Rattle.def_machine.specs.Scopes.{Evaluator, Caller}
use Rattle.def_kernel.specs.declared.node.Node.{Node}
use Rattle.law_fate.proofs.Name.Facts.{Fact, IsValue}
use Rattle.law_fate.proofs.Name.Care.{Care}
use Rattle.law_never_astray.proofs.Leads.{Nothing}
use Rattle.law_never_astray.specs.Levels.{ListsEnd, LevelsSuffice, call_by}
use Rattle.law_never_astray.proofs.Good.{Good, Goes, good_stop, good_spend, good_look, go_unit, on_number}
use Rattle.law_never_astray.proofs.Natives.{GoodCaller, Works}
use Rattle.law_never_astray.proofs.Eval.{GoodEvaluator, NamesThere, good_call_one}
use Rattle.law_never_astray.proofs.Nodes.{good_expression, good_pattern}

-- of a stop nothing is said
abbrev pub Anything : {N : Type 0} → Vat N → Type 0
Anything s = Unit {0}

too_deep : {N : Type 0} (Bad : Vat N → Type 0) (s : Vat N) → Deep ≡ Astray → Bad s
too_deep Bad s e = cc

module _ {N W : Type 0} (K : Naming N W) (S : Care N) (tree : List Node) (Bad : Vat N → Type 0) (Rests : List (Message N) → List (Known N) → Type 0) where
  -- ---- where nothing is said of stops

  any_goes : {A : Type 0} (H : A → Fact N) (G : ℕ → A → Type 0) (s : Vat N) (d : Done N A) → Goes S tree Bad Rests H G s d → Goes S tree Anything Rests H G s d
  any_goes H G s (Stops c t) h = (tt, λ e. tt, tt)
  any_goes H G s other h = h

  any_good : {C : Fact N} {n : ℕ} {A : Type 0} {m : _} {H : A → Fact N} {G : ℕ → A → Type 0} → Good S tree Bad Rests C n m H G → Good S tree Anything Rests C n m H G
  any_good {m = m} {H = H} {G = G} h = record { after = λ s g c k r. any_goes H G s (m s) (h.after s g c k r) }

  any_works : Works K S tree Bad Rests → Works K S tree Anything Rests
  any_works w = record {
    serves = w.serves;
    promises = λ C n. any_good (w.promises C n);
    breaks = λ C n p g t. any_good (w.breaks C n p g t);
    resolves = λ C n p g y h. any_good (w.resolves C n p g y h);
    sends = λ C n act x g verb args h. any_good (w.sends C n act x g verb args h);
    sends_only = λ C n act x g verb args h. any_good (w.sends_only C n act x g verb args h);
    reacts = λ C n act x g o h near k i. any_good (w.reacts C n act x g o h near k i);
  }

  any_evaluator : (rec : Evaluator N) → GoodEvaluator S tree Bad Rests rec → GoodEvaluator S tree Anything Rests rec
  any_evaluator rec good = record {
    expression = λ C many s t n here i o f d c. any_good (good.expression C many s t n here i o f d c);
    pattern = λ C many s t n v j here a b i o f d c. any_good (good.pattern C many s t n v j here a b i o f d c);
  }

  -- what is said of stops, apart
  with_stops : {A : Type 0} (H : A → Fact N) (G : ℕ → A → Type 0) (s : Vat N) (d : Done N A) → Goes S tree Anything Rests H G s d → ((c : Stop) (t : Vat N) → d ≡ Stops c t → c ≡ Astray → Bad t) → Goes S tree Bad Rests H G s d
  with_stops H G s (Stops c t) h f = (tt, λ e. f c t refl e, tt)
  with_stops H G s other h f = h

  stops_so : {A : Type 0} (H : A → Fact N) (G : ℕ → A → Type 0) (s : Vat N) (d : Done N A) → Goes S tree Bad Rests H G s d → (c : Stop) (t : Vat N) → d ≡ Stops c t → c ≡ Astray → Bad t
  stops_so H G s (Stops r u) h c t e i = let cause : r ≡ c = cc in let state : u ≡ t = cc in subst Bad state (h.1 (cause ∙ i))
  stops_so H G s other h c t e i = cc

module _ {N W : Type 0} (K : Naming N W) (S : Care N) (tree : List Node) (Bad : Vat N → Type 0) (Rests : List (Message N) → List (Known N) → Type 0) (works : Works K S tree Bad Rests) (names : NamesThere K S) where
  -- ---- calls

  -- with so many levels
  call_at_goes : (rec : Evaluator N) → GoodEvaluator S tree Anything Rests rec → (n : ℕ) → GoodCaller S tree Anything Rests (calls.call_at K tree n rec)
  unfolding calls.call_at
  call_at_goes rec good zero C many act x g verb args e = good_stop S tree Anything Rests Astray (λ s i. tt)
  call_at_goes rec good (suc n) C many act x g verb args e = good_call_one K S tree Anything Rests (any_works K S tree Bad Rests works) rec good names (λ a y w xs. calls.call_at K tree n rec a y w xs) (λ D k a y h w xs i. call_at_goes rec good n D k a y h w xs i) C many act x g verb args e

  call_goes : (rec : Evaluator N) → GoodEvaluator S tree Anything Rests rec → GoodCaller S tree Anything Rests (calls.call K tree rec)
  unfolding calls.call
  call_goes rec good C many act x g verb args e = on_number S tree Anything Rests (good_look S tree Anything Rests _) (λ n. call_at_goes rec good n C many act x g verb args e)

  -- that stops for its depth where the levels are used up
  deep : Caller N
  deep act x verb args = stop Deep

  call_by_goes : (rec : Evaluator N) → GoodEvaluator S tree Bad Rests rec → (n : ℕ) → GoodCaller S tree Bad Rests (call_by K tree deep n rec)
  unfolding call_by deep
  call_by_goes rec good zero C many act x g verb args e = good_stop S tree Bad Rests Deep (too_deep Bad)
  call_by_goes rec good (suc n) C many act x g verb args e = good_call_one K S tree Bad Rests works rec good names (λ a y w xs. call_by K tree deep n rec a y w xs) (λ D k a y h w xs i. call_by_goes rec good n D k a y h w xs i) C many act x g verb args e

  -- where lists end levels suffice; and where a call stops in a state that is not bad, they ended as it began
  module _ (suffice : LevelsSuffice K tree)
      (before : (d act : ℕ) (x : Value N) (verb : Words) (args : List (Value N)) (s t : Vat N) (c : Stop) → Rests s.queue s.known → calls.call K tree (eval.evaluator K tree d) act x verb args s ≡ Stops c t → (ListsEnd K s → Bad t) → Bad t) where
    pub good_call : (d : ℕ) → GoodEvaluator S tree Bad Rests (eval.evaluator K tree d) → GoodCaller S tree Bad Rests (calls.call K tree (eval.evaluator K tree d))
    good_call d good C many act x g verb args e = record {
      after = λ s h c k r. with_stops K S tree Bad Rests IsValue Nothing s (calls.call K tree (eval.evaluator K tree d) act x verb args s) ((call_goes (eval.evaluator K tree d) (any_evaluator K S tree Bad Rests _ good) C many act x g verb args e).after s h c k r)
          (λ cause t q a. before d act x verb args s t cause r q (λ ends. stops_so K S tree Bad Rests IsValue Nothing s (call_by K tree deep (4 + length s.lists) (eval.evaluator K tree d) act x verb args s)
          ((call_by_goes (eval.evaluator K tree d) good (4 + length s.lists) C many act x g verb args e).after s h c k r) cause t (suffice (eval.evaluator K tree d) deep s ends act x verb args ∙ q) a));
    }

    good_deeper : (rec : Evaluator N) → GoodEvaluator S tree Bad Rests rec → GoodCaller S tree Bad Rests (calls.call K tree rec) → GoodEvaluator S tree Bad Rests (eval.deeper K tree rec)
    unfolding eval.deeper
    good_deeper rec good again = record {
      expression = λ C many s t n here i o f d c. go_unit S tree Bad Rests (good_spend S tree Bad Rests 1) (good_expression K S tree Bad Rests works rec good again C many s t n here i o f d c);
      pattern = λ C many s t n v j here a b i o f d c. go_unit S tree Bad Rests (good_spend S tree Bad Rests 1) (good_pattern K S tree Bad Rests works rec good again C many s t n v j here a b i o f d c);
    }

    pub good_evaluator : (d : ℕ) → GoodEvaluator S tree Bad Rests (eval.evaluator K tree d)
    unfolding eval.evaluator
    good_evaluator zero = record { expression = λ C many s t n here i o f d c. good_stop S tree Bad Rests Deep (too_deep Bad); pattern = λ C many s t n v j here a b i o f d c. good_stop S tree Bad Rests Deep (too_deep Bad) }
    good_evaluator (suc d) = let good = good_evaluator d in good_deeper (eval.evaluator K tree d) good (good_call d good)
