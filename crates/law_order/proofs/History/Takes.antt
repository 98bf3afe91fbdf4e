-- In which order messages are taken, as lines come at the end of a history.
use Rattle.std.proofs.Common.{◌≡◌, Bool, true, false, not, List, [], ◌∷◌, ◌++◌, Option, Some, None, refl, sym, subst, ◌⊎◌, inl, inr, ◌||◌, ◌&&◌}
use Rattle.def_machine.specs.Values.{Name, same_name}
use Rattle.def_machine.specs.State.{Took}
use Rattle.def_run.specs.World.{Event, Here}
use Rattle.law_order.specs.Ordering.Order.{takes_it, object_takes_it, taken_after, is_object}
use Rattle.law_order.proofs.History.Lines.{and_first}
use Rattle.law_order.specs.History.Lines.{counts, AllQuiet, with_first, was_taken, was_taken_by_object}

pub taken_stays : (a : Name) (es fs : List Event) → was_taken a es ≡ true → was_taken a (es ++ fs) ≡ true
unfolding was_taken
taken_stays a [] fs h = absurd (cc)
taken_stays a (e ∷ es) fs h = go (takes_it a e) (taken_stays a es fs) h
  where
    go : (t : Bool) → (was_taken a es ≡ true → was_taken a (es ++ fs) ≡ true) → (t || was_taken a es) ≡ true → (t || was_taken a (es ++ fs)) ≡ true
    go true f k = refl
    go false f k = f k

object_takes : (b : Name) (e : Event) → object_takes_it b e ≡ true → takes_it b e ≡ true
unfolding object_takes_it takes_it
object_takes b (Here v (Took act x)) h = and_first (same_name x.id b) (is_object x.target) h
object_takes b other h = absurd (cc)

pub untaken_by_object : (b : Name) (es : List Event) → was_taken b es ≡ false → was_taken_by_object b es ≡ false
unfolding was_taken was_taken_by_object
untaken_by_object b [] h = refl
untaken_by_object b (e ∷ es) h = go (object_takes_it b e) (takes_it b e) (object_takes b e) (untaken_by_object b es) h
  where
    go : (s t : Bool) → (s ≡ true → t ≡ true) → (was_taken b es ≡ false → was_taken_by_object b es ≡ false) → (t || was_taken b es) ≡ false → (s || was_taken_by_object b es) ≡ false
    go true true f g k = k
    go true false f g k = absurd (let e : ◌≡◌ {A = Bool} false true = f refl in cc)
    go false true f g k = absurd (cc)
    go false false f g k = g k

-- where no object took it, none did so too early
pub untaken_is_after : (a b : Name) (es : List Event) → was_taken_by_object b es ≡ false → taken_after a b es ≡ true
unfolding was_taken_by_object taken_after
untaken_is_after a b [] h = refl
untaken_is_after a b (e ∷ es) h = go (takes_it a e) (object_takes_it b e) (untaken_is_after a b es) h
  where
    go : (s t : Bool) → (was_taken_by_object b es ≡ false → taken_after a b es ≡ true) → (t || was_taken_by_object b es) ≡ false → elim s [ true ↦ true | false ↦ not t && taken_after a b es ] ≡ true
    go true t f k = refl
    go false true f k = absurd (cc)
    go false false f k = f k

-- More lines: the first was taken before them, or in them none is taken too early.
pub after_more : (a b : Name) (es fs : List Event) → taken_after a b es ≡ true → (was_taken a es ≡ true) ⊎ (taken_after a b fs ≡ true) → taken_after a b (es ++ fs) ≡ true
unfolding taken_after was_taken
after_more a b [] fs h (inl k) = absurd (cc)
after_more a b [] fs h (inr k) = k
after_more a b (e ∷ es) fs h o = go (takes_it a e) (object_takes_it b e) (after_more a b es fs) h o
  where
    go : (s t : Bool) → (taken_after a b es ≡ true → (was_taken a es ≡ true) ⊎ (taken_after a b fs ≡ true) → taken_after a b (es ++ fs) ≡ true) → elim s [ true ↦ true | false ↦ not t && taken_after a b es ] ≡ true → ((s || was_taken a es) ≡ true) ⊎ (taken_after a b fs ≡ true) → elim s [ true ↦ true | false ↦ not t && taken_after a b (es ++ fs) ] ≡ true
    go true t f i j = refl
    go false true f i j = i
    go false false f i j = f i j

-- ---- the lines of a small step

object_quiet : (b : Name) (e : Event) → counts e ≡ false → object_takes_it b e ≡ false
unfolding counts object_takes_it
object_quiet b (Here v (Took act x)) h = absurd (cc)
object_quiet b other h = refl

objects_quiet : (b : Name) (es : List Event) → AllQuiet es → was_taken_by_object b es ≡ false
unfolding was_taken_by_object
objects_quiet b [] h = refl
objects_quiet b (e ∷ es) h = subst (λ z. (z || was_taken_by_object b es) ≡ false) (sym (object_quiet b e h.0)) (objects_quiet b es h.1)

-- an object takes it in that line, if there is one
abbrev pub taken_by : Name → Option Event → Bool
taken_by b None = false
taken_by b (Some e) = object_takes_it b e

pub objects_first : (b : Name) (o : Option Event) (es : List Event) → AllQuiet es → was_taken_by_object b (with_first o es) ≡ taken_by b o
unfolding was_taken_by_object
objects_first b None es h = objects_quiet b es h
objects_first b (Some e) es h = go (object_takes_it b e) _ (objects_quiet b es h)
  where
    go : (t p : Bool) → p ≡ false → (t || p) ≡ t
    go true p i = refl
    go false p i = i
