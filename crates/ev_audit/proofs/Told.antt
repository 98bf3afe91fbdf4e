-- Nouns and verbs are told apart as texts are.
use Rattle.std.proofs.Common.{◌≡◌, ℕ, Bool, true, false, List, [], ◌∷◌, map, refl, ap, sym, ◌∙◌}
use Rattle.std.specs.Prelude.{codes, ◌||◌, if◌then◌else◌, Option, Some, None, option_map}
use Rattle.std.specs.Str.{bytes_eq}
use Rattle.ev_heap.specs.declared.kept.Bound.{Bound}
use Rattle.ev_heap.specs.declared.kept.Bound.TheVariants.{Itself}
use Rattle.ev_heap.specs.declared.kept.Capture.{Capture}
use Rattle.ev_heap.specs.declared.kept.Capture.TheVariants as capture
use Rattle.ev_heap.specs.declared.kept.FreeName.{FreeName as Held}
use Rattle.def_machine.specs.State.{Binding, Bound as There, FreeName, Freedom, IsItself}
use Rattle.def_machine.specs.Values.{Words, Value, Local}
use Rattle.def_machine.specs.Free.{same_words, has_words}
use Rattle.def_machine.specs.Native.{Reply, Says, Fails}
use Rattle.def_machine.specs.Scopes as scopes
use Rattle.ev_prims.proofs.VerbLemmas as verbs
use Rattle.ev_prims.specs.Primitives.{rule_in}
use Rattle.ev_prims.specs.declared.primitives.Rule.{Rule}
use Rattle.ev_audit.specs.Views.{free_name, free_names, freedom_of, all_fit, bound_at, told_of, freedom_by, bound_so, bound_by, free_held, capture_by}

pub same_turned : (a b : Words) → same_words a b ≡ bytes_eq b a
same_turned a b = verbs.same_turned a b

one_of : (a b : Bool) → elim a [ true ↦ true | false ↦ elim b [ true ↦ true | false ↦ false ] ] ≡ a || b
one_of true b = refl
one_of false true = refl
one_of false false = refl

pub among_two : (x a b : Words) → has_words x (a ∷ b ∷ []) ≡ same_words x a || same_words x b
unfolding has_words
among_two x a b = one_of (same_words x a) (same_words x b)

-- ---- the free names of a view

fit_first : (b c d : Bool) → c ≡ d → elim b [ true ↦ c | false ↦ false ] ≡ (if b then d else false)
fit_first true c d e = e
fit_first false c d e = refl

pub all_meet : (r : Rule) (fs : List Held) → scopes.meets (rule_in r) (free_names fs) ≡ all_fit r fs
unfolding scopes.meets all_fit
all_meet r [] = refl
all_meet r (f ∷ fs) = fit_first (scopes.fits (rule_in r) (free_name f)) (scopes.meets (rule_in r) (free_names fs)) (all_fit r fs) (all_meet r fs)

told_first : (b c : Bool) (x : Bound) (o : Option Bound) (r : Reply Local) → b ≡ c → r ≡ told_of o
    → ◌≡◌ {A = Reply Local} (elim b [ true ↦ Says (scopes.guard_told (freedom_of x)) | false ↦ r ]) (told_of (if c then Some x else o))
told_first true true x o r e f = refl
told_first false false x o r e f = f
told_first true false x o r e f = absurd (cc)
told_first false true x o r e f = absurd (cc)

pub guard_found : (fs : List Held) (x : Words) → scopes.guard_at (free_names fs) x ≡ told_of (bound_at fs x)
unfolding scopes.guard_at bound_at
guard_found [] x = refl
guard_found (f ∷ fs) x = told_first (same_words f.noun x) (bytes_eq x f.noun) f.bound (bound_at fs x) (scopes.guard_at (free_names fs) x) (same_turned f.noun x) (guard_found fs x)

own_first : (b : Bool) (f : Freedom Local) → ◌≡◌ {A = Freedom Local} (elim b [ true ↦ IsItself | false ↦ f ]) (if b then IsItself else f)
own_first true f = refl
own_first false f = refl

-- what the machine knows of a name in a scope
pub freedom_is : (own : Option Words) (nouns : List (Binding Local)) (x : Words) → scopes.freedom_of own nouns x ≡ freedom_by own x (scopes.bound_in nouns x)
unfolding scopes.freedom_of
freedom_is own nouns x = own_first (scopes.is_own own x) (scopes.freedom_of_bound (scopes.bound_in nouns x) x)

pub is_itself : (own : Option Words) (x : Words) (bound : Option (There Local)) → scopes.is_own own x ≡ true → IsItself ≡ freedom_by own x bound
is_itself own x bound e = ap (λ (b : Bool). if b then IsItself else scopes.freedom_of_bound bound x) (sym e)

pub is_bound : (own : Option Words) (x : Words) (bound : Option (There Local)) (f : Freedom Local) → scopes.is_own own x ≡ false → f ≡ scopes.freedom_of_bound bound x → f ≡ freedom_by own x bound
is_bound own x bound f e h = h ∙ ap (λ (b : Bool). if b then IsItself else scopes.freedom_of_bound bound x) (sym e)

bound_found : (t : ℕ → Words) (x : Words) (o : Option Capture) → freedom_of (bound_so o) ≡ scopes.freedom_of_bound (option_map (capture_by t) o) x
unfolding scopes.freedom_of_bound
bound_found t x None = refl
bound_found t x (Some (capture.Fixed v g)) = refl
bound_found t x (Some (capture.Slot k)) = refl

either_found : (b : Bool) (x y : Bound) (z : Freedom Local) → freedom_of y ≡ z → freedom_of (if b then x else y) ≡ (if b then freedom_of x else z)
either_found true x y z e = refl
either_found false x y z e = e

freedom_found : (t : ℕ → Words) (own : Option Words) (x : Words) (o : Option Capture) → freedom_of (bound_by own x o) ≡ freedom_by own x (option_map (capture_by t) o)
freedom_found t own x o = either_found (scopes.is_own own x) Itself (bound_so o) (scopes.freedom_of_bound (option_map (capture_by t) o) x) (bound_found t x o)

-- the view of an object at its making is the machine's
pub free_is : (t : ℕ → Words) (own : Option Words) (nouns : List (Binding Local)) (find : Words → Option Capture) → ((x : Words) → scopes.bound_in nouns x ≡ option_map (capture_by t) (find x))
    → (xs : List Words) → free_names (map (λ x. free_held own x (find x)) xs) ≡ scopes.free_names own nouns xs
unfolding scopes.free_names
free_is t own nouns find f [] = refl
free_is t own nouns find f (x ∷ xs) =
    ap (λ (y : Freedom Local). record { noun = x; freedom = y } ∷ free_names (map (λ z. free_held own z (find z)) xs)) (freedom_found t own x (find x) ∙ ap (λ (o : Option (There Local)). freedom_by own x o) (sym (f x)) ∙ sym (freedom_is own nouns x))
    ∙ ap (λ (fs : List (FreeName Local)). record { noun = x; freedom = scopes.freedom_of own nouns x } ∷ fs) (free_is t own nouns find f xs)
