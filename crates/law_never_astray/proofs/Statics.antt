-- How a name is found in scopes, and in scopes in which one more is bound.
use Rattle.std.proofs.Common.{◌≡◌, ℕ, Bool, true, false, List, [], ◌∷◌, ◌++◌, Option, Some, None, refl, sym, ap, subst, ◌∙◌, ◌⊎◌, inl, inr, cond}
use Rattle.std.specs.Prelude.{bytes_eq, is_some, drop}
use Rattle.std.proofs.lemmas.Bool.{both_ways}
use Rattle.ev_reader.specs.declared.scope.Binding.{Binding}
use Rattle.ev_reader.specs.Scopes as static
use Rattle.ev_reader.specs.Scopes.{bound, is_bound_here, with_name, with_name_here}
use Rattle.law_never_astray.specs.Scoped.{Scopes}
use Rattle.law_never_astray.proofs.Words.{is_bytes, bytes_is, same_or_not}

-- there is an innermost scope
abbrev pub IsOpen : Scopes → Type 0
IsOpen [] = ⊥
IsOpen (scope ∷ scopes) = Unit {0}

-- what it has
abbrev pub here : List ℕ → Scopes → Option Bool
here x [] = None
here x (scope ∷ scopes) = static.bound_in x scope

abbrev pub first_of : Option Bool → Option Bool → Option Bool
first_of (Some v) o = Some v
first_of None o = o

pub bound_is : (x : List ℕ) (s : Scopes) → bound x s ≡ first_of (here x s) (bound x (drop 1 s))
bound_is x [] = refl
bound_is x (scope ∷ scopes) = go (static.bound_in x scope)
  where
    go : (o : Option Bool) → ◌≡◌ {A = Option Bool} (elim o [ Some v ↦ Some v | None ↦ bound x scopes ]) (first_of o (bound x scopes))
    go (Some v) = refl
    go None = refl

-- ---- one scope

pub in_more : (x : List ℕ) (b : Binding) (bs : List Binding) (t : Bool) → bytes_eq x b.name ≡ t → static.bound_in x (b ∷ bs) ≡ cond t (Some b.is_var) (static.bound_in x bs)
in_more x b bs true e = rw e refl
in_more x b bs false e = rw e refl

pub in_other : (x y : List ℕ) (v : Bool) (bs : List Binding) → (y ≡ x → ⊥) → static.bound_in y (bs ++ record { name = x; is_var = v } ∷ []) ≡ static.bound_in y bs
in_other x y v [] f = go (bytes_eq y x) refl
  where
    go : (t : Bool) → bytes_eq y x ≡ t → static.bound_in y (record { name = x; is_var = v } ∷ []) ≡ None
    go true e = absurd (f (bytes_is y x e))
    go false e = in_more y (record { name = x; is_var = v }) [] false e
in_other x y v (b ∷ bs) f = go (bytes_eq y b.name) refl (in_other x y v bs f)
  where
    go : (t : Bool) → bytes_eq y b.name ≡ t → static.bound_in y (bs ++ record { name = x; is_var = v } ∷ []) ≡ static.bound_in y bs → static.bound_in y (b ∷ (bs ++ record { name = x; is_var = v } ∷ [])) ≡ static.bound_in y (b ∷ bs)
    go true e k = in_more y b _ true e ∙ sym (in_more y b bs true e)
    go false e k = in_more y b _ false e ∙ (k ∙ sym (in_more y b bs false e))

pub in_new : (x : List ℕ) (v : Bool) (bs : List Binding) → static.bound_in x bs ≡ None → static.bound_in x (bs ++ record { name = x; is_var = v } ∷ []) ≡ Some v
in_new x v [] h = in_more x (record { name = x; is_var = v }) [] true (is_bytes x x refl)
in_new x v (b ∷ bs) h = go (bytes_eq x b.name) refl (in_new x v bs)
  where
    go : (t : Bool) → bytes_eq x b.name ≡ t → (static.bound_in x bs ≡ None → static.bound_in x (bs ++ record { name = x; is_var = v } ∷ []) ≡ Some v) → static.bound_in x (b ∷ (bs ++ record { name = x; is_var = v } ∷ [])) ≡ Some v
    go true e k = let g : Some b.is_var ≡ None = sym (in_more x b bs true e) ∙ h in cc
    go false e k = in_more x b _ false e ∙ k (sym (in_more x b bs false e) ∙ h)

-- ---- scopes

no_some : (o : Option Bool) → is_some o ≡ false → o ≡ None
no_some (Some v) e = absurd (both_ways true e refl)
no_some None e = refl

is_none : (o : Option Bool) → o ≡ None → is_some o ≡ false
is_none (Some v) e = cc
is_none None e = refl

pub not_here : (x : List ℕ) (s : Scopes) → is_bound_here x s ≡ false → here x s ≡ None
not_here x [] e = refl
not_here x (scope ∷ scopes) e = no_some (static.bound_in x scope) e

pub here_not : (x : List ℕ) (s : Scopes) → here x s ≡ None → is_bound_here x s ≡ false
here_not x [] e = refl
here_not x (scope ∷ scopes) e = is_none (static.bound_in x scope) e

named_is : (x : List ℕ) (v : Bool) (scope : List Binding) → is_some (static.bound_in x scope) ≡ false → with_name x v scope ≡ scope ++ record { name = x; is_var = v } ∷ []
named_is x v scope e = rw (e, with_name) refl

pub open_named : (x : List ℕ) (v : Bool) (s : Scopes) → IsOpen s → IsOpen (with_name_here x v s)
open_named x v [] o = o
open_named x v (scope ∷ scopes) o = tt

pub outer_named : (x : List ℕ) (v : Bool) (s : Scopes) → drop 1 (with_name_here x v s) ≡ drop 1 s
outer_named x v [] = refl
outer_named x v (scope ∷ scopes) = refl

pub here_new : (x : List ℕ) (v : Bool) (s : Scopes) → IsOpen s → is_bound_here x s ≡ false → here x (with_name_here x v s) ≡ Some v
here_new x v [] o e = absurd o
here_new x v (scope ∷ scopes) o e = ap (static.bound_in x) (named_is x v scope e) ∙ in_new x v scope (no_some _ e)

pub here_other : (x y : List ℕ) (v : Bool) (s : Scopes) → is_bound_here x s ≡ false → (y ≡ x → ⊥) → here y (with_name_here x v s) ≡ here y s
here_other x y v [] e f = refl
here_other x y v (scope ∷ scopes) e f = ap (static.bound_in y) (named_is x v scope e) ∙ in_other x y v scope f

pub bound_other : (x y : List ℕ) (v : Bool) (s : Scopes) → is_bound_here x s ≡ false → (y ≡ x → ⊥) → bound y (with_name_here x v s) ≡ bound y s
bound_other x y v s e f = bound_is y (with_name_here x v s) ∙ (ap (λ o. first_of o (bound y (drop 1 (with_name_here x v s)))) (here_other x y v s e f)
    ∙ (ap (λ t. first_of (here y s) (bound y t)) (outer_named x v s) ∙ sym (bound_is y s)))

pub bound_new : (x : List ℕ) (v : Bool) (s : Scopes) → IsOpen s → is_bound_here x s ≡ false → bound x (with_name_here x v s) ≡ Some v
bound_new x v s o e = bound_is x (with_name_here x v s) ∙ ap (λ p. first_of p (bound x (drop 1 (with_name_here x v s)))) (here_new x v s o e)

-- what is bound where one more is bound
pub bound_either : (x y : List ℕ) (v w : Bool) (s : Scopes) → is_bound_here x s ≡ false → bound y (with_name_here x v s) ≡ Some w → ((y ≡ x) × (w ≡ v)) ⊎ ((y ≡ x → ⊥) × (bound y s ≡ Some w))
bound_either x y v w [] e h = cc
bound_either x y v w (scope ∷ scopes) e h = go (same_or_not y x)
  where
    go : (y ≡ x) ⊎ (y ≡ x → ⊥) → ((y ≡ x) × (w ≡ v)) ⊎ ((y ≡ x → ⊥) × (bound y (scope ∷ scopes) ≡ Some w))
    go (inl f) = let g = bound_new x v (scope ∷ scopes) tt e in let k : bound x (with_name_here x v (scope ∷ scopes)) ≡ Some w = subst (λ z. bound z (with_name_here x v (scope ∷ scopes)) ≡ Some w) f h in inl (f, let i = sym k ∙ g in cc)
    go (inr f) = inr (f, sym (bound_other x y v (scope ∷ scopes) e f) ∙ h)
