-- Patterns as they begin, and as what is evaluated in them comes to an end.
use Rattle.std.proofs.Common.{◌≡◌, ℕ, suc, ◌+◌, ◌-◌, ◌≤◌, zero, List, [], ◌∷◌, Some, None, Ok, Err, length, drop, refl, sym, ap, ◌∙◌, arith, add-one}
use Rattle.std.specs.Prelude.{Result, slice_get}
use Rattle.ev_base.specs.declared.values.Value.{Value}
use Rattle.ev_base.specs.declared.values.Value.TheVariants as held
use Rattle.def_kernel.specs.declared.node.Node.{Node}
use Rattle.ev_room.specs.declared.exit.Exit.{Exit}
use Rattle.ev_pass.specs.declared.interior.Interior.{Interior as Room}
use Rattle.ev_room.specs.declared.scope.Scope.{Scope}
use Rattle.ev_room.specs.Acts.{Act, Out, Unless, Extends, and_then, ◌>>=◌, ◌>>◌, give, kill}
use Rattle.ev_room.proofs.Exits.{unless_as}
use Rattle.ev_steps.specs.Steps.{evaluator, bind_all}
use Rattle.ev_frames.specs.declared.frames.Frame.{Frame}
use Rattle.ev_frames.specs.declared.frames.Frame.TheVariants.{Part as PartOf}
use Rattle.ev_frames.specs.declared.frames.Part.TheVariants.{Then, Binds}
use Rattle.ev_frames.specs.declared.now.Now.{Now}
use Rattle.ev_frames.specs.Rest.{Goes, Nested, rest, going, bound_then, bound_as, scoped}
use Rattle.ev_room.proofs.Places.{drop_some, drop_none}
use Rattle.ev_frames.proofs.Rests.{goes_as, part_pushed, same_behind}

-- ---- a scope, as what gives null in it

pub after_bound : (o : Out Scope) (f : Scope → Act (Value × Scope)) → and_then (bound_as o) (λ x. f x.1) ≡ and_then o f
unfolding and_then give
after_bound (Ok a, t) f = refl
after_bound (Err e, t) f = refl

bound_after : (o : Out Scope) (f : Scope → Act Scope) → and_then (bound_as o) (λ x t. bound_as (f x.1 t)) ≡ bound_as (and_then o f)
unfolding and_then give
bound_after (Ok a, t) f = refl
bound_after (Err e, t) f = refl

pub scope_back : (o : Out Scope) → scoped (bound_as o) ≡ o
unfolding and_then give
scope_back (Ok a, t) = refl
scope_back (Err e, t) = refl

-- ---- what is bound at once, or begins

module _ (tree : List Node) (fs : List Frame) (here there : Scope) (t : Room) (x : Extends here there) (h : Nested fs here) where
  pub step_bound : (o : Out Scope) → o ≡ (Ok there, t) → rest tree fs here (bound_as o) ≡ rest tree fs there (Ok (held.Null, there), t)
  unfolding and_then give
  step_bound o e = rw e (same_behind tree fs here there (Ok (held.Null, there), t) x h)

  pub step_ends : (o : Out Scope) (e : Exit) → Unless e (o ≡ (Err e, t)) → Unless e (rest tree fs here (bound_as o) ≡ rest tree fs there (Err e, t))
  unfolding and_then
  step_ends o e i = unless_as e (λ (y : o ≡ (Err e, t)). rw y (same_behind tree fs here there (Err e, t) x h)) i

  module _ (d p : ℕ) (v j : Value) (s : Room) where
    pub binding_begins : (evaluator tree d).pattern p v j here s ≡ (Ok there, t)
        → rest tree fs here (bound_as ((evaluator tree d).pattern p v j here s)) ≡ rest tree fs there (Ok (held.Null, there), t)
    binding_begins e = step_bound ((evaluator tree d).pattern p v j here s) e

    pub binding_ends : (e : Exit) → Unless e ((evaluator tree d).pattern p v j here s ≡ (Err e, t))
        → Unless e (rest tree fs here (bound_as ((evaluator tree d).pattern p v j here s)) ≡ rest tree fs there (Err e, t))
    binding_ends e i = step_ends ((evaluator tree d).pattern p v j here s) e i

-- nothing was bound, and the pattern begins
module _ (tree : List Node) (fs : List Frame) (here there : Scope) (s t : Room) (a : there ≡ here) (b : t ≡ s) (d p : ℕ) (v j : Value) where
  pub binding_pushed : rest tree fs here (bound_as ((evaluator tree d).pattern p v j here s)) ≡ rest tree fs there (bound_as ((evaluator tree d).pattern p v j there t))
  binding_pushed = rw (a, b) refl

-- ---- patterns one after another

module _ (tree : List Node) (d : ℕ) (fs gs : List Frame) (here : Scope) (s : Room) (ps : List ℕ) (vs : List Value) (j : Value) (k : ℕ) where
  pub binds_next : (p : ℕ) (v : Value) → slice_get ps k ≡ Some p → slice_get vs k ≡ Some v → gs ≡ PartOf d (length here.nouns) (Binds ps vs j (k + 1)) ∷ fs
      → rest tree fs here (bound_as (bind_all (evaluator tree d) (drop k ps) (drop k vs) j here s)) ≡ rest tree gs here (bound_as ((evaluator tree d).pattern p v j here s))
  unfolding bind_all going ◌>>=◌
  binds_next p v at on pushed =
      rw (pushed, add-one k, drop_some ps k p at, drop_some vs k v on)
      (ap (λ (o : Out (Value × Scope)). rest tree fs here o) (sym (bound_after ((evaluator tree d).pattern p v j here s) (λ after. bind_all (evaluator tree d) (drop (suc k) ps) (drop (suc k) vs) j after)))
      ∙ sym (part_pushed tree d (Binds ps vs j (suc k)) fs here (bound_as ((evaluator tree d).pattern p v j here s))))

  pub binds_done : slice_get ps k ≡ None → rest tree fs here (bound_as (bind_all (evaluator tree d) (drop k ps) (drop k vs) j here s)) ≡ rest tree fs here (Ok (held.Null, here), s)
  unfolding bind_all and_then give
  binds_done at = rw (drop_none ps k at) refl

  pub binds_short : (p : ℕ) → slice_get ps k ≡ Some p → slice_get vs k ≡ None → rest tree fs here (bound_as (bind_all (evaluator tree d) (drop k ps) (drop k vs) j here s)) ≡ rest tree fs here (Ok (held.Null, here), s)
  unfolding bind_all and_then give
  binds_short p at on = rw (drop_some ps k p at, drop_none vs k on) refl

module _ (tree : List Node) (d : ℕ) (fs : List Frame) (here after : Scope) (s t : Room) (x : Extends here after) (h : Nested fs here) where
  pub binds_goes : (gs : List Frame) (r : Result Now Exit) (a : Scope) (u : Room) (ps : List ℕ) (vs : List Value) (j : Value) (k n : ℕ)
      → bind_all (evaluator tree d) (drop k ps) (drop k vs) j here s ≡ bind_all (evaluator tree d) (drop n ps) (drop n vs) j after t
      → Goes tree r gs a u (rest tree fs after (bound_as (bind_all (evaluator tree d) (drop n ps) (drop n vs) j after t)))
      → Goes tree r gs a u (rest tree fs here (bound_as (bind_all (evaluator tree d) (drop k ps) (drop k vs) j here s)))
  binds_goes gs r a u ps vs j k n e g =
      goes_as tree r gs a u (rest tree fs after (bound_as (bind_all (evaluator tree d) (drop n ps) (drop n vs) j after t))) _
      (rw e (same_behind tree fs here after (bound_as (bind_all (evaluator tree d) (drop n ps) (drop n vs) j after t)) x h)) g

  pub binds_ends : (ps : List ℕ) (vs : List Value) (j : Value) (k : ℕ) (e : Exit) → Unless e (bind_all (evaluator tree d) (drop k ps) (drop k vs) j here s ≡ (Err e, t))
      → Unless e (rest tree fs here (bound_as (bind_all (evaluator tree d) (drop k ps) (drop k vs) j here s)) ≡ rest tree fs after (Err e, t))
  binds_ends ps vs j k e i = step_ends tree fs here after t x h (bind_all (evaluator tree d) (drop k ps) (drop k vs) j here s) e i

  pub method_goes : (gs : List Frame) (r : Result Now Exit) (a : Scope) (u : Room) (ps : List ℕ) (b : ℕ) (args : List Value) (n : ℕ)
      → bind_all (evaluator tree d) (drop 0 ps) (drop 0 args) held.Null here s ≡ bind_all (evaluator tree d) (drop n ps) (drop n args) held.Null after t
      → Goes tree r gs a u (rest tree fs after (bound_then (evaluator tree d) (drop n ps) b (drop n args) after t))
      → Goes tree r gs a u (rest tree fs here (bound_then (evaluator tree d) ps b args here s))
  unfolding bound_then ◌>>=◌
  method_goes gs r a u ps b args n e g =
      goes_as tree r gs a u (rest tree fs after (and_then (bind_all (evaluator tree d) (drop n ps) (drop n args) held.Null after t) (λ inner. (evaluator tree d).expression b inner))) _
      (rw e (same_behind tree fs here after (and_then (bind_all (evaluator tree d) (drop n ps) (drop n args) held.Null after t) (λ inner. (evaluator tree d).expression b inner)) x h)) g

  pub method_ends : (ps : List ℕ) (b : ℕ) (args : List Value) (e : Exit) → Unless e (bind_all (evaluator tree d) (drop 0 ps) (drop 0 args) held.Null here s ≡ (Err e, t))
      → Unless e (rest tree fs here (bound_then (evaluator tree d) ps b args here s) ≡ rest tree fs after (Err e, t))
  unfolding bound_then ◌>>=◌ and_then
  method_ends ps b args e i =
      unless_as e (λ (y : bind_all (evaluator tree d) ps args held.Null here s ≡ (Err e, t)). rw y (same_behind tree fs here after (Err e, t) x h)) i

drop_past : {A : Type 0} (xs : List A) (k : ℕ) → length xs ≤ k → drop k xs ≡ []
drop_past [] zero h = refl
drop_past [] (suc k) h = refl
drop_past (x ∷ xs) zero h = absurd (omega arith)
drop_past (x ∷ xs) (suc k) h = drop_past xs k (omega arith)

pub body_done : (tree : List Node) (d : ℕ) (fs : List Frame) (here : Scope) (s : Room) (ps : List ℕ) (b : ℕ) (args : List Value) (n : ℕ) → length ps ≤ n
    → rest tree fs here (bound_then (evaluator tree d) (drop n ps) b (drop n args) here s) ≡ rest tree fs here ((evaluator tree d).expression b here s)
unfolding bound_then bind_all give ◌>>=◌ and_then
body_done tree d fs here s ps b args n h = rw (drop_past ps n h) refl

pub body_behind : (tree : List Node) (d : ℕ) (fs gs hs : List Frame) (here a : Scope) (s u : Room) (r : Result Now Exit) (ps : List ℕ) (b : ℕ) (args : List Value) (n : ℕ) → gs ≡ PartOf d (length here.nouns) (Then b) ∷ fs
    → Goes tree r hs a u (rest tree gs here (bound_as (bind_all (evaluator tree d) (drop n ps) (drop n args) held.Null here s)))
    → Goes tree r hs a u (rest tree fs here (bound_then (evaluator tree d) (drop n ps) b (drop n args) here s))
unfolding bound_then going ◌>>=◌
body_behind tree d fs gs hs here a s u r ps b args n pushed g =
    goes_as tree r hs a u (rest tree gs here (bound_as (bind_all (evaluator tree d) (drop n ps) (drop n args) held.Null here s))) _
    (rw pushed (sym (part_pushed tree d (Then b) fs here (bound_as (bind_all (evaluator tree d) (drop n ps) (drop n args) held.Null here s))
    ∙ ap (λ (o : Out (Value × Scope)). rest tree fs here o) (after_bound (bind_all (evaluator tree d) (drop n ps) (drop n args) held.Null here s) (λ inner. (evaluator tree d).expression b inner))))) g
