-- Patterns as they begin, and as what is evaluated in them comes to an end.
use Rattle.std.proofs.Common.{◌≡◌, ◌==◌, ℕ, ◌-◌, ◌<◌, ◌≤◌, true, false, List, [], ◌∷◌, Some, None, Ok, Err, length, drop, refl, sym, ap, subst, ◌∙◌, arith}
use Rattle.std.specs.Prelude.{Result, slice_get, codes}
use Rattle.std.proofs.lemmas.Bool.Decides.{nat_tests}
use Rattle.ev_base.specs.declared.values.Value.{Value}
use Rattle.ev_base.specs.declared.values.Value.TheVariants as held
use Rattle.def_kernel.specs.declared.node.Node.{Node}
use Rattle.def_machine.specs.Values.{Words}
use Rattle.ev_room.specs.declared.exit.Exit.{Exit}
use Rattle.ev_room.specs.declared.exit.Exit.TheVariants.{Thrown, Ejected, Deep, Astray}
use Rattle.ev_room.specs.declared.exit.Came.TheVariants.{Gave, Threw, Left}
use Rattle.ev_pass.specs.declared.interior.Interior.{Interior as Room}
use Rattle.ev_room.specs.declared.scope.Scope.{Scope}
use Rattle.ev_room.specs.Acts.{Act, Out, Unless, Extends, and_then, ◌>>=◌, ◌>>◌, give, fail, cut, spend, ended_by, new_ejector, kill, leave}
use Rattle.ev_room.specs.Sound.{not_a_list_id}
use Rattle.ev_room.proofs.Exits.{ends, unless_as}
use Rattle.ev_steps.specs.Steps.{evaluator, define_by, bind_all, bind_asked, bind_list, bind_step, bind_found, bind_via, call, failed, handed, match_ended, match_on, matched_if, not_matched}
use Rattle.ev_steps.proofs.Depth.{pattern_deep, pattern_goes}
use Rattle.ev_frames.specs.declared.frames.Frame.{Frame}
use Rattle.ev_frames.specs.declared.frames.Frame.TheVariants.{Part as PartOf, Match}
use Rattle.ev_frames.specs.declared.frames.Part.TheVariants.{Define, Yields, Then, Asks, Binding}
use Rattle.ev_frames.specs.declared.now.Now.{Now}
use Rattle.ev_frames.specs.Rest.{Goes, Nested, rest, going, handled_on, bound_as, settled, came_to, yielding}
use Rattle.ev_frames.proofs.Again.{part_again}
use Rattle.ev_frames.proofs.Patterning.{after_bound, scope_back}
use Rattle.ev_frames.proofs.Rests.{cut_in_front, goes_as, match_pushed, nested_behind, part_pushed, same_behind, unless_so}

-- ---- what is bound at once, or begins

module _ (tree : List Node) (fs : List Frame) (here there : Scope) (t : Room) (x : Extends here there) (h : Nested fs here) where
  module _ (d p : ℕ) (v j : Value) (s : Room) where
    pub defined_begins : (evaluator tree d).pattern p v j here s ≡ (Ok there, t)
        → rest tree fs here (yielding v ((evaluator tree d).pattern p v j here s)) ≡ rest tree fs there (Ok (v, there), t)
    unfolding yielding and_then give
    defined_begins e = rw e (same_behind tree fs here there (Ok (v, there), t) x h)

    pub defined_ends : (e : Exit) → Unless e ((evaluator tree d).pattern p v j here s ≡ (Err e, t))
        → Unless e (rest tree fs here (yielding v ((evaluator tree d).pattern p v j here s)) ≡ rest tree fs there (Err e, t))
    unfolding yielding and_then
    defined_ends e i = unless_as e (λ (y : (evaluator tree d).pattern p v j here s ≡ (Err e, t)). rw y (same_behind tree fs here there (Err e, t) x h)) i

    pub handled_begins : (e : ℕ) → (evaluator tree d).pattern p v held.Null here s ≡ (Ok there, t)
        → rest tree fs here (handled_on (evaluator tree d) p e v here s) ≡ rest tree fs there ((evaluator tree d).expression e there t)
    unfolding handled_on ◌>>=◌ and_then
    handled_begins e i = rw i (same_behind tree fs here there ((evaluator tree d).expression e there t) x h)

    pub handled_ends : (e : ℕ) (z : Exit) → Unless z ((evaluator tree d).pattern p v held.Null here s ≡ (Err z, t))
        → Unless z (rest tree fs here (handled_on (evaluator tree d) p e v here s) ≡ rest tree fs there (Err z, t))
    unfolding handled_on ◌>>=◌ and_then
    handled_ends e z i = unless_as z (λ (y : (evaluator tree d).pattern p v held.Null here s ≡ (Err z, t)). rw y (same_behind tree fs here there (Err z, t) x h)) i

-- nothing was bound, and the pattern begins
module _ (tree : List Node) (fs : List Frame) (here there : Scope) (s t : Room) (a : there ≡ here) (b : t ≡ s) (d p : ℕ) (v j : Value) where
  pub defined_pushed : (gs : List Frame) → gs ≡ PartOf d (length there.nouns) (Yields v) ∷ fs
      → rest tree fs here (yielding v ((evaluator tree d).pattern p v j here s)) ≡ rest tree gs there (bound_as ((evaluator tree d).pattern p v j there t))
  unfolding yielding going
  defined_pushed gs pushed =
      rw (pushed, a, b) (sym (part_pushed tree d (Yields v) fs here (bound_as ((evaluator tree d).pattern p v j here s))
      ∙ ap (λ (o : Out (Value × Scope)). rest tree fs here o) (after_bound ((evaluator tree d).pattern p v j here s) (λ after. give (v, after)))))

  pub handled_pushed : (gs : List Frame) (e : ℕ) → gs ≡ PartOf d (length there.nouns) (Then e) ∷ fs
      → rest tree fs here (handled_on (evaluator tree d) p e v here s) ≡ rest tree gs there (bound_as ((evaluator tree d).pattern p v held.Null there t))
  unfolding handled_on going ◌>>=◌
  handled_pushed gs e pushed =
      rw (pushed, a, b) (sym (part_pushed tree d (Then e) fs here (bound_as ((evaluator tree d).pattern p v held.Null here s))
      ∙ ap (λ (o : Out (Value × Scope)). rest tree fs here o) (after_bound ((evaluator tree d).pattern p v held.Null here s) (λ inner. (evaluator tree d).expression e inner))))

-- ---- definitions

pub define_on : (tree : List Node) (d m p e : ℕ) (v : Value) (fs gs : List Frame) (here : Scope) (s : Room) → m ≤ length here.nouns → Nested fs (cut m here) → gs ≡ PartOf d m (Define p v) ∷ fs
    → rest tree fs here (define_by (evaluator tree d) p e v here s) ≡ rest tree gs here ((evaluator tree d).expression e here s)
unfolding define_by yielding going ◌>>=◌
define_on tree d m p e v fs gs here s h n pushed = rw pushed (sym (part_again tree d m (Define p v) fs here ((evaluator tree d).expression e here s) h n))

-- ---- lists

module _ (tree : List Node) (d : ℕ) (fs hs : List Frame) (here a : Scope) (s u : Room) (r : Result Now Exit) (ps : List ℕ) (vs : List Value) (j : Value) where
  pub list_binds : length vs ≡ length ps
      → Goes tree r hs a u (rest tree fs here (bound_as (bind_all (evaluator tree d) (drop 0 ps) (drop 0 vs) j here s)))
      → Goes tree r hs a u (rest tree fs here (bound_as (bind_list tree (evaluator tree d) ps j here vs (length vs == length ps) s)))
  unfolding bind_list
  list_binds e g = let b : (length vs == length ps) ≡ true = grind (arith, nat_tests) in rw b g

  pub list_fails : (length vs ≡ length ps → ⊥)
      → Goes tree r hs a u (rest tree fs here (bound_as (failed (call tree (evaluator tree d)) here.act j not_a_list_id s)))
      → Goes tree r hs a u (rest tree fs here (bound_as (bind_list tree (evaluator tree d) ps j here vs (length vs == length ps) s)))
  unfolding bind_list
  list_fails e g = let b : (length vs == length ps) ≡ false = grind (arith, nat_tests) in rw b g

-- ---- asking another value

asked_after : (o : Out Value) (here : Scope) (f : Value → Act Scope) → and_then (settled here o) (λ x t. bound_as (f x.0 t)) ≡ bound_as (and_then o f)
unfolding and_then give
asked_after (Ok v, t) here f = refl
asked_after (Err e, t) here f = refl

pub asks_on : (tree : List Node) (d m : ℕ) (fs gs hs : List Frame) (here a : Scope) (s u : Room) (r : Result Now Exit) (p : ℕ) (v j k f : Value) (verb : Words) → m ≤ length here.nouns → Nested fs (cut m here)
    → gs ≡ PartOf d m (Binding p j) ∷ fs → verb ≡ codes "run" → k ≡ handed s j
    → Goes tree r hs a u (rest tree gs here (settled here (call tree (evaluator tree d) here.act f verb (v ∷ k ∷ []) s)))
    → Goes tree r hs a u (rest tree fs here (bound_as (bind_via tree (evaluator tree d) here.act p v j f here s)))
unfolding bind_via ◌>>=◌
asks_on tree d m fs gs hs here a s u r p v j k f verb h n pushed e is g =
    goes_as tree r hs a u (rest tree gs here (settled here (call tree (evaluator tree d) here.act f verb (v ∷ k ∷ []) s))) _
    (rw (pushed, e, is) (ap (λ (o : Out (Value × Scope)). rest tree fs here o) (sym (asked_in (call tree (evaluator tree d) here.act f (codes "run") (v ∷ handed s j ∷ []) s)))
    ∙ sym (part_again tree d m (Binding p j) fs here (settled here (call tree (evaluator tree d) here.act f (codes "run") (v ∷ handed s j ∷ []) s)) h n))) g
  where
    asked_in : (o : Out Value) → and_then (settled here o) (λ x. going tree (evaluator tree d) here.act m (Binding p j) x.0 x.1) ≡ bound_as (and_then o (λ y. (evaluator tree d).pattern p y j here))
    asked_in (Ok v, t) = unfold and_then give going in refl
    asked_in (Err e, t) = unfold and_then give going in refl

pub expression_after : (o : Out (Value × Scope)) (f : Value → Scope → Act Scope) → and_then o (λ x t. bound_as (f x.0 x.1 t)) ≡ bound_as (and_then o (λ x. f x.0 x.1))
unfolding and_then
expression_after (Ok x, t) f = refl
expression_after (Err e, t) f = refl

pub via_begins : (tree : List Node) (d : ℕ) (fs gs : List Frame) (here : Scope) (s : Room) (e p : ℕ) (v j : Value) → gs ≡ PartOf d (length here.nouns) (Asks p v j) ∷ fs
    → rest tree fs here (bound_as (bind_asked tree (evaluator tree d) e p v j here s)) ≡ rest tree gs here ((evaluator tree d).expression e here s)
unfolding bind_asked going ◌>>=◌
via_begins tree d fs gs here s e p v j pushed =
    rw pushed (ap (λ (o : Out (Value × Scope)). rest tree fs here o) (sym (expression_after ((evaluator tree d).expression e here s) (λ f a. bind_via tree (evaluator tree d) here.act p v j f a)))
    ∙ sym (part_pushed tree d (Asks p v j) fs here ((evaluator tree d).expression e here s)))

-- ---- a pattern begins

pub ends_so : (tree : List Node) (fs : List Frame) (here : Scope) (s : Room) (e : Exit) → rest tree fs here (bound_as (fail e s)) ≡ rest tree fs here (Err e, s)
unfolding and_then fail
ends_so tree fs here s e = refl

module _ (tree : List Node) (d id : ℕ) (v j : Value) (fs : List Frame) (here : Scope) (s : Room) where
  pub begins_deep : d ≡ 0 → rest tree fs here (bound_as ((evaluator tree d).pattern id v j here s)) ≡ rest tree fs here (Err Deep, s)
  unfolding and_then
  begins_deep e = rw (pattern_deep tree d id v j here s e) refl

  pub begins_spent : (x : Exit) (t : Room) → 0 < d → Unless x (spend 1 s ≡ (Err x, t)) → Unless x (rest tree fs here (bound_as ((evaluator tree d).pattern id v j here s)) ≡ rest tree fs here (Err x, t))
  unfolding ◌>>◌ and_then
  begins_spent x t h e =
      unless_as x (λ (y : (evaluator tree d).pattern id v j here s ≡ (Err x, t)). rw y refl)
      (subst (λ (o : Out Scope). Unless x (o ≡ (Err x, t))) (sym (pattern_goes tree d id v j here s h))
      (ends x t (spend 1 s) (λ _. bind_found tree (evaluator tree (d - 1)) (slice_get tree id) v j here) e))

  begun : (t : Room) → 0 < d → spend 1 s ≡ (Ok tt, t) → (evaluator tree d).pattern id v j here s ≡ bind_found tree (evaluator tree (d - 1)) (slice_get tree id) v j here t
  unfolding ◌>>◌ and_then
  begun t h e = pattern_goes tree d id v j here s h ∙ (rw e refl)

  pub begins_none : (t : Room) → 0 < d → spend 1 s ≡ (Ok tt, t) → slice_get tree id ≡ None → rest tree fs here (bound_as ((evaluator tree d).pattern id v j here s)) ≡ rest tree fs here (Err Astray, t)
  unfolding bind_found fail and_then
  begins_none t h e is = rw (begun t h e, is) refl

  pub begins_so : (t : Room) (n : Node) (r : Result Now Exit) (gs : List Frame) (b : Scope) (u : Room) → 0 < d → spend 1 s ≡ (Ok tt, t) → slice_get tree id ≡ Some n
      → Goes tree r gs b u (rest tree fs here (bound_as (bind_step tree (evaluator tree (d - 1)) n v j here t))) → Goes tree r gs b u (rest tree fs here (bound_as ((evaluator tree d).pattern id v j here s)))
  unfolding bind_found
  begins_so t n r gs b u h e is g =
      let x : (evaluator tree d).pattern id v j here s ≡ bind_step tree (evaluator tree (d - 1)) n v j here t = begun t h e ∙ (rw is refl) in
      rw x g

-- ---- matches

module _ (tree : List Node) (d : ℕ) (fs gs : List Frame) (here : Scope) (s : Room) (p : ℕ) (v : Value) where
  pub match_goes : (j : ℕ) (t : Room) (hs : List Frame) (r : Result Now Exit) (a : Scope) (u : Room) → new_ejector here.act s ≡ (Ok j, t) → gs ≡ Match (length here.nouns) j p ∷ fs
      → Goes tree r hs a u (rest tree gs here (bound_as ((evaluator tree d).pattern p v (held.Obj j) here t)))
      → Goes tree r hs a u (rest tree fs here (match_on tree (evaluator tree d) here.act p v here s))
  unfolding match_on ◌>>=◌ and_then
  match_goes j t hs r a u e pushed g =
      goes_as tree r hs a u (rest tree gs here (bound_as ((evaluator tree d).pattern p v (held.Obj j) here t))) _
      (rw (e, pushed) (sym (match_pushed tree j p fs here (bound_as ((evaluator tree d).pattern p v (held.Obj j) here t))
      ∙ ap (λ (o : Out Scope). rest tree fs here (match_ended tree j p here o)) (scope_back ((evaluator tree d).pattern p v (held.Obj j) here t))))) g

  pub ejector_ends : (x : Exit) (t : Room) → Unless x (new_ejector here.act s ≡ (Err x, t)) → Unless x (rest tree fs here (match_on tree (evaluator tree d) here.act p v here s) ≡ rest tree fs here (Err x, t))
  unfolding match_on ◌>>=◌ and_then
  ejector_ends x t e = unless_as x (λ (y : new_ejector here.act s ≡ (Err x, t)). rw y refl) e

pub match_mark : (m j p : ℕ) (fs : List Frame) (here : Scope) → Nested (Match m j p ∷ fs) here → m ≤ length here.nouns
unfolding Nested
match_mark m j p fs here h = h.0

pub match_below : (m j p : ℕ) (fs : List Frame) (here : Scope) → Nested (Match m j p ∷ fs) here → Nested fs (cut m here)
unfolding Nested
match_below m j p fs here h = h.1

-- the ejector is dead
module _ (tree : List Node) (m j p : ℕ) (fs : List Frame) (here : Scope) (s t : Room) (h : Nested (Match m j p ∷ fs) here) (k : kill j s ≡ (Ok tt, t)) where
  behind : (o : Out (Value × Scope)) → rest tree fs (cut m here) o ≡ rest tree fs here o
  behind o = same_behind tree fs (cut m here) here o (cut_in_front m here (match_mark m j p fs here h)) (match_below m j p fs here h)

  pub match_gave : (v : Value) → rest tree (Match m j p ∷ fs) here (came_to (Gave v) here s) ≡ rest tree fs here (Ok (held.Bool true, here), t)
  unfolding rest match_ended ended_by leave ◌>>◌ and_then give
  match_gave v = rw k (behind (Ok (held.Bool true, here), t))

  pub match_threw : (id : ℕ) → rest tree (Match m j p ∷ fs) here (came_to (Threw id) here s) ≡ rest tree fs here (Err (Thrown id), t)
  unfolding rest match_ended ended_by leave ◌>>◌ and_then fail
  match_threw id = rw k (behind (Err (Thrown id), t))

  pub match_other : (n : ℕ) (v : Value) → (n == j) ≡ false → rest tree (Match m j p ∷ fs) here (came_to (Left n v) here s) ≡ rest tree fs here (Err (Ejected n v), t)
  unfolding rest match_ended matched_if ended_by leave ◌>>◌ and_then fail
  match_other n v e = rw (k, e) (behind (Err (Ejected n v), t))

  pub match_fails : (n : ℕ) (v : Value) (gs : List Frame) (r : Result Now Exit) (a : Scope) (u : Room) → (n == j) ≡ true
      → Goes tree r gs a u (rest tree fs (cut m here) (not_matched tree p (cut m here) v t))
      → Goes tree r gs a u (rest tree (Match m j p ∷ fs) here (came_to (Left n v) here s))
  unfolding rest match_ended matched_if ended_by leave ◌>>◌ and_then
  match_fails n v gs r a u e g = goes_as tree r gs a u (rest tree fs (cut m here) (not_matched tree p (cut m here) v t)) _ (rw (k, e) refl) g

module _ (tree : List Node) (m p : ℕ) (fs : List Frame) (here there after : Scope) (v : Value) (s t : Room) (a : there ≡ cut m here) (x : Extends there after) (h : Nested fs (cut m here)) where
  pub match_own : (y : Value) → not_matched tree p there v s ≡ (Ok (y, after), t)
      → rest tree fs (cut m here) (not_matched tree p (cut m here) v s) ≡ rest tree fs after (Ok (y, after), t)
  match_own y e =
      rw (← a) (rw e (same_behind tree fs there after (Ok (y, after), t) x (rw a h)))

  pub match_own_ends : (e : Exit) → Unless e (not_matched tree p there v s ≡ (Err e, t))
      → Unless e (rest tree fs (cut m here) (not_matched tree p (cut m here) v s) ≡ rest tree fs after (Err e, t))
  match_own_ends e i = unless_as e (λ (y : not_matched tree p there v s ≡ (Err e, t)). rw (← a) (rw y (same_behind tree fs there after (Err e, t) x (rw a h)))) i

  pub match_after : Nested fs after
  match_after = nested_behind fs there after x (rw a h)

  pub match_gone : (e : Exit) → Unless e (Nested fs after)
  match_gone e = unless_so e match_after
