-- Patterns that are bound at once, one after another.
use Rattle.std.proofs.Common.{◌≡◌, ℕ, zero, suc, ◌+◌, ◌<◌, List, [], ◌∷◌, Some, None, Ok, Err, length, drop, refl, sym, ◌∙◌, add-one}
use Rattle.std.specs.Prelude.{slice_get}
use Rattle.std.proofs.lemmas.Option.{slice_get_within}
use Rattle.ev_base.specs.declared.values.Value.{Value}
use Rattle.ev_room.specs.declared.exit.Exit.{Exit}
use Rattle.ev_pass.specs.declared.interior.Interior.{Interior as Room}
use Rattle.ev_room.specs.declared.scope.Scope.{Scope}
use Rattle.def_machine.specs.Free.{BoundNoun}
use Rattle.ev_room.proofs.Exits.{unless_as}
use Rattle.ev_room.proofs.Places.{drop_some}
use Rattle.ev_room.specs.Acts.{Out, Unless, and_then, ◌>>=◌, give}
use Rattle.ev_steps.specs.Steps.{Evaluator, bind_all, bind_unmatched, unmatched}

pub one_bound : (rec : Evaluator) (ps : List ℕ) (vs : List Value) (j v : Value) (k p : ℕ) (here after : Scope) (s t : Room) (due : Out Scope) → slice_get ps k ≡ Some p → slice_get vs k ≡ Some v
    → rec.pattern p v j here s ≡ (Ok after, t) → bind_all rec (drop k ps) (drop k vs) j here s ≡ due → bind_all rec (drop (k + 1) ps) (drop (k + 1) vs) j after t ≡ due
unfolding bind_all ◌>>=◌ and_then
one_bound rec ps vs j v k p here after s t due at on is h =
    let x : bind_all rec (drop k ps) (drop k vs) j here s ≡ bind_all rec (drop (suc k) ps) (drop (suc k) vs) j after t = rw (drop_some ps k p at, drop_some vs k v on, is) refl in
    rw (add-one k) (sym x ∙ h)

pub one_ends : (rec : Evaluator) (ps : List ℕ) (vs : List Value) (j v : Value) (k p : ℕ) (here : Scope) (s t : Room) (x : Exit) (due : Out Scope) → slice_get ps k ≡ Some p → slice_get vs k ≡ Some v
    → Unless x (rec.pattern p v j here s ≡ (Err x, t)) → bind_all rec (drop k ps) (drop k vs) j here s ≡ due → Unless x (due ≡ (Err x, t))
unfolding bind_all ◌>>=◌ and_then
one_ends rec ps vs j v k p here s t x due at on is h =
    unless_as x (λ (y : rec.pattern p v j here s ≡ (Err x, t)). sym h ∙ (rw (drop_some ps k p at, drop_some vs k v on, y) refl)) is

-- ---- the names of a failed match

pub unmatched_goes : (bs : List BoundNoun) (k : ℕ) (b : BoundNoun) (here after : Scope) (s t : Room) (due : Out Scope) → slice_get bs k ≡ Some b
    → bind_unmatched b here s ≡ (Ok after, t)
    → unmatched (drop k bs) here s ≡ due → unmatched (drop (k + 1) bs) after t ≡ due
unfolding unmatched ◌>>=◌ and_then
unmatched_goes bs k b here after s t due at is h =
    let x : unmatched (drop k bs) here s ≡ unmatched (drop (suc k) bs) after t = rw (drop_some bs k b at, is) refl in
    rw (add-one k) (sym x ∙ h)

pub unmatched_ends : (bs : List BoundNoun) (k : ℕ) (b : BoundNoun) (here : Scope) (s t : Room) (x : Exit) (due : Out Scope) → slice_get bs k ≡ Some b
    → Unless x (bind_unmatched b here s ≡ (Err x, t))
    → unmatched (drop k bs) here s ≡ due → Unless x (due ≡ (Err x, t))
unfolding unmatched ◌>>=◌ and_then
unmatched_ends bs k b here s t x due at is h =
    unless_as x (λ (y : bind_unmatched b here s ≡ (Err x, t)). sym h ∙ (rw (drop_some bs k b at, y) refl)) is

drop_none : (bs : List BoundNoun) (k : ℕ) → slice_get bs k ≡ None → drop k bs ≡ []
drop_none [] zero e = refl
drop_none [] (suc k) e = refl
drop_none (b ∷ bs) zero e = absurd (cc)
drop_none (b ∷ bs) (suc k) e = drop_none bs k e

pub unmatched_done : (bs : List BoundNoun) (k : ℕ) (here : Scope) (s : Room) (due : Out Scope) → slice_get bs k ≡ None → unmatched (drop k bs) here s ≡ due → due ≡ (Ok here, s)
unfolding unmatched give
unmatched_done bs k here s due h e = sym e ∙ (rw (drop_none bs k h) refl)

pub below_count : (bs : List BoundNoun) (k : ℕ) (b : BoundNoun) → slice_get bs k ≡ Some b → k < length bs
below_count bs k b e = slice_get_within bs k b e

pub unmatched_all : (bs : List BoundNoun) (here : Scope) (s : Room) → unmatched (drop 0 bs) here s ≡ unmatched bs here s
unmatched_all bs here s = refl
