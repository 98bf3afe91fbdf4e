-- Matchers as they begin, and as their patterns come to an end.
use Rattle.std.proofs.Common.{◌≡◌, ◌==◌, ℕ, ◌+◌, true, false, List, [], ◌∷◌, Some, None, Ok, Err, length, drop, refl, sym, ap, subst, ◌∙◌, arith, add-one}
use Rattle.std.specs.Prelude.{Result, slice_get}
use Rattle.ev_base.specs.declared.values.Value.{Value}
use Rattle.ev_base.specs.declared.values.Value.TheVariants as held
use Rattle.ev_heap.specs.declared.happened.Happened.TheVariants as event
use Rattle.def_kernel.specs.declared.node.Node.{Node}
use Rattle.def_machine.specs.Scopes.{Case}
use Rattle.def_machine.specs.Values.{Words}
use Rattle.ev_prims.specs.declared.problem.Problem.TheVariants.{NoMethod}
use Rattle.ev_room.specs.declared.exit.Exit.{Exit}
use Rattle.ev_room.specs.declared.exit.Exit.TheVariants.{Thrown, Ejected}
use Rattle.ev_room.specs.declared.exit.Came.TheVariants.{Gave, Threw, Left}
use Rattle.ev_pass.specs.declared.interior.Interior.{Interior as Room}
use Rattle.ev_room.specs.declared.scope.Scope.{Scope}
use Rattle.ev_room.specs.Acts.{Out, Unless, and_then, ◌>>=◌, ◌>>◌, give, fail, fails, problem_id, cut, tell, ended_by, new_ejector, kill, leave}
use Rattle.ev_steps.specs.Steps.{evaluator, handed_over, match_all, matched, message_pair, try_matchers}
use Rattle.ev_frames.specs.declared.frames.Frame.{Frame}
use Rattle.ev_frames.specs.declared.frames.Frame.TheVariants.{Case as CaseOf}
use Rattle.ev_frames.specs.declared.now.Now.{Now}
use Rattle.ev_frames.specs.Rest.{Goes, Nested, rest, bound_as, came_to}
use Rattle.ev_room.proofs.Exits.{unless_as}
use Rattle.ev_room.proofs.Places.{drop_some, drop_none}
use Rattle.ev_frames.proofs.Patterning.{scope_back}
use Rattle.ev_frames.proofs.Rests.{case_pushed, cut_in_front, goes_as, nested_behind, same_behind}

module _ (tree : List Node) (d : ℕ) (fs gs : List Frame) (here : Scope) (s : Room) (v : Value) where
  pub case_begins : (m : Case) (ms : List Case) (k j : ℕ) (t : Room) (hs : List Frame) (r : Result Now Exit) (a : Scope) (u : Room) → new_ejector here.act s ≡ (Ok j, t) → gs ≡ CaseOf d (length here.nouns) j m.body ms k v ∷ fs
      → Goes tree r hs a u (rest tree gs here (bound_as ((evaluator tree d).pattern m.pattern v (held.Obj j) here t)))
      → Goes tree r hs a u (rest tree fs here (match_all (evaluator tree d) (m ∷ drop k ms) v here s))
  unfolding match_all ◌>>=◌ and_then
  case_begins m ms k j t hs r a u e pushed g =
      goes_as tree r hs a u (rest tree gs here (bound_as ((evaluator tree d).pattern m.pattern v (held.Obj j) here t))) _
      (rw (e, pushed) (sym (case_pushed tree d j m.body ms k v fs here (bound_as ((evaluator tree d).pattern m.pattern v (held.Obj j) here t))
      ∙ ap (λ (o : Out Scope). rest tree fs here (matched (evaluator tree d) here.act j m.body (match_all (evaluator tree d) (drop k ms) v here) o)) (scope_back ((evaluator tree d).pattern m.pattern v (held.Obj j) here t))))) g

  pub ejector_ends : (m : Case) (ms : List Case) (x : Exit) (t : Room) → Unless x (new_ejector here.act s ≡ (Err x, t))
      → Unless x (rest tree fs here (match_all (evaluator tree d) (m ∷ ms) v here s) ≡ rest tree fs here (Err x, t))
  unfolding match_all ◌>>=◌ and_then
  ejector_ends m ms x t e = unless_as x (λ (y : new_ejector here.act s ≡ (Err x, t)). rw y refl) e

  pub next_case : (m : Case) (ms : List Case) (k : ℕ) (hs : List Frame) (r : Result Now Exit) (a : Scope) (u : Room) → slice_get ms k ≡ Some m
      → Goes tree r hs a u (rest tree fs here (match_all (evaluator tree d) (m ∷ drop (k + 1) ms) v here s))
      → Goes tree r hs a u (rest tree fs here (match_all (evaluator tree d) (drop k ms) v here s))
  next_case m ms k hs r a u at g =
      goes_as tree r hs a u (rest tree fs here (match_all (evaluator tree d) (m ∷ drop (k + 1) ms) v here s)) _ (rw (drop_some ms k m at, add-one k) refl) g

  pub no_case : (ms : List Case) (k : ℕ) → slice_get ms k ≡ None → rest tree fs here (match_all (evaluator tree d) (drop k ms) v here s) ≡ rest tree fs here (Err (Thrown (problem_id NoMethod)), s)
  unfolding match_all fails fail
  no_case ms k at = rw (drop_none ms k at) refl

module _ (tree : List Node) (d : ℕ) (fs gs : List Frame) (here : Scope) (s : Room) (verb : Words) (args : List Value) where
  pub tries : (ms : List Case) (v : Value) (t : Room) (r : Result Now Exit) (a : Scope) (u : Room) → (length ms ≡ 0 → ⊥) → message_pair here.act verb args s ≡ (Ok v, t)
      → Goes tree r gs a u (rest tree fs here (match_all (evaluator tree d) (drop 0 ms) v here t))
      → Goes tree r gs a u (rest tree fs here (try_matchers (evaluator tree d) ms verb args here s))
  unfolding try_matchers ◌>>=◌ and_then
  tries [] v t r a u h e g = absurd (h refl)
  tries (m ∷ ms) v t r a u h e g = goes_as tree r gs a u (rest tree fs here (match_all (evaluator tree d) (m ∷ ms) v here t)) _ (rw e refl) g

  pub pair_ends : (ms : List Case) (x : Exit) (t : Room) → (length ms ≡ 0 → ⊥) → Unless x (message_pair here.act verb args s ≡ (Err x, t))
      → Unless x (rest tree fs here (try_matchers (evaluator tree d) ms verb args here s) ≡ rest tree fs here (Err x, t))
  unfolding try_matchers ◌>>=◌ and_then
  pair_ends [] x t h e = absurd (h refl)
  pair_ends (m ∷ ms) x t h e = unless_as x (λ (y : message_pair here.act verb args s ≡ (Err x, t)). rw y refl) e

  pub tries_none : (ms : List Case) → length ms ≡ 0 → rest tree fs here (try_matchers (evaluator tree d) ms verb args here s) ≡ rest tree fs here (Err (Thrown (problem_id NoMethod)), s)
  unfolding try_matchers fails fail
  tries_none [] e = refl
  tries_none (m ∷ ms) e = absurd (omega arith)

-- ---- the next one

module _ (tree : List Node) (d m : ℕ) (fs gs : List Frame) (here there : Scope) (ms : List Case) (k : ℕ) (v w : Value) (s : Room) (a : there ≡ cut m here) where
  pub cut_below : Nested fs (cut m here) → Nested fs there
  cut_below h = rw a h

  pub hands_over : (n : ℕ) (t : Room) (r : Result Now Exit) (b : Scope) (u : Room) → tell (event.Got there.act w) s ≡ (Ok tt, t)
      → Goes tree r gs b u (rest tree fs there (match_all (evaluator tree d) (drop k ms) v there t))
      → Goes tree r gs b u (rest tree fs (cut m here) (handed_over here.act (match_all (evaluator tree d) (drop k ms) v (cut m here)) n w true s))
  unfolding handed_over ◌>>◌ and_then
  hands_over n t r b u e g =
      goes_as tree r gs b u (rest tree fs there (match_all (evaluator tree d) (drop k ms) v there t)) _
      (subst (λ (x : Scope). rest tree fs x (and_then (tell (event.Got x.act w) s) (λ _. match_all (evaluator tree d) (drop k ms) v x)) ≡ rest tree fs there (match_all (evaluator tree d) (drop k ms) v there t)) a (rw e refl)) g

  pub hand_ends : (n : ℕ) (x : Exit) (t : Room) → Unless x (tell (event.Got there.act w) s ≡ (Err x, t))
      → Unless x (rest tree fs (cut m here) (handed_over here.act (match_all (evaluator tree d) (drop k ms) v (cut m here)) n w true s) ≡ rest tree fs there (Err x, t))
  unfolding handed_over ◌>>◌ and_then
  hand_ends n x t e =
      unless_as x (λ (y : tell (event.Got there.act w) s ≡ (Err x, t)).
      subst (λ (z : Scope). rest tree fs z (and_then (tell (event.Got z.act w) s) (λ _. match_all (evaluator tree d) (drop k ms) v z)) ≡ rest tree fs there (Err x, t)) a (rw y refl)) e

-- ---- how its pattern ended

pub case_below : (d m j b : ℕ) (ms : List Case) (k : ℕ) (v : Value) (fs : List Frame) (here : Scope) → Nested (CaseOf d m j b ms k v ∷ fs) here → Nested fs (cut m here)
unfolding Nested
case_below d m j b ms k v fs here h = h.1

pub case_above : (d m j b : ℕ) (ms : List Case) (k : ℕ) (v : Value) (fs : List Frame) (here : Scope) → Nested (CaseOf d m j b ms k v ∷ fs) here → Nested fs here
unfolding Nested
case_above d m j b ms k v fs here h = nested_behind fs (cut m here) here (cut_in_front m here h.0) h.1

-- the ejector is dead
module _ (tree : List Node) (d m j b : ℕ) (ms : List Case) (k : ℕ) (v : Value) (fs : List Frame) (here : Scope) (s t : Room) (h : Nested (CaseOf d m j b ms k v ∷ fs) here) (dead : kill j s ≡ (Ok tt, t)) where
  behind : (o : Out (Value × Scope)) → rest tree fs (cut m here) o ≡ rest tree fs here o
  unfolding Nested
  behind o = same_behind tree fs (cut m here) here o (cut_in_front m here h.0) h.1

  pub case_gave : (x : Value) → rest tree (CaseOf d m j b ms k v ∷ fs) here (came_to (Gave x) here s) ≡ rest tree fs here ((evaluator tree d).expression b here t)
  unfolding rest matched ended_by leave ◌>>◌ and_then give
  case_gave x = rw dead (behind ((evaluator tree d).expression b here t))

  pub case_threw : (id : ℕ) → rest tree (CaseOf d m j b ms k v ∷ fs) here (came_to (Threw id) here s) ≡ rest tree fs here (Err (Thrown id), t)
  unfolding rest matched ended_by leave ◌>>◌ and_then fail
  case_threw id = rw dead (behind (Err (Thrown id), t))

  pub case_other : (n : ℕ) (x : Value) → (n == j) ≡ false → rest tree (CaseOf d m j b ms k v ∷ fs) here (came_to (Left n x) here s) ≡ rest tree fs here (Err (Ejected n x), t)
  unfolding rest matched handed_over ended_by leave ◌>>◌ and_then fail
  case_other n x e = rw (dead, e) (behind (Err (Ejected n x), t))

  pub case_own : (n : ℕ) (x : Value) (gs : List Frame) (r : Result Now Exit) (a : Scope) (u : Room) → (n == j) ≡ true
      → Goes tree r gs a u (rest tree fs (cut m here) (handed_over here.act (match_all (evaluator tree d) (drop k ms) v (cut m here)) n x true t))
      → Goes tree r gs a u (rest tree (CaseOf d m j b ms k v ∷ fs) here (came_to (Left n x) here s))
  unfolding rest matched ended_by leave ◌>>◌ and_then
  case_own n x gs r a u e g = goes_as tree r gs a u (rest tree fs (cut m here) (handed_over here.act (match_all (evaluator tree d) (drop k ms) v (cut m here)) n x true t)) _ (rw (dead, e) refl) g
