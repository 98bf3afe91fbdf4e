-- What was told of numbers, as the entries of a map.
use Rattle.std.proofs.Common.{◌≡◌, ℕ, Bool, true, false, cond, nat_eq, List, [], ◌∷◌, ◌++◌, map, Option, Some, None, Result, Ok, Err, OnOk, refl, sym, ap, ◌∙◌, append_assoc}
use Rattle.std.specs.Map.{lookup}
use Rattle.std.proofs.lemmas.List.{map-append}
use Rattle.ev_base.specs.declared.names.Name.{Name}
use Rattle.ev_resident.specs.Names.{Entry, told_at, unless_told, with_told}

abbrev pub entry_of : ℕ × Name → Entry
entry_of e = record { number = e.0; name = e.1 }

abbrev pub entries_of : List (ℕ × Name) → List Entry
entries_of es = map entry_of es

pub told_lookup : (k : ℕ) (es : List (ℕ × Name)) → lookup (nat_eq k) es ≡ told_at k (entries_of es)
unfolding told_at
told_lookup k [] = refl
told_lookup k (e ∷ es) = ap (λ (o : Option Name). cond (nat_eq k e.0) (Some e.1) o) (told_lookup k es)

-- nothing was told of the number
told_first : (e : Entry) (ts : List Entry) → told_at e.number ts ≡ None → ts ++ e ∷ [] ≡ with_told e ts
unfolding with_told unless_told
told_first e ts none = ap (λ (o : Option Name). unless_told o e ts) (sym none)

pub first_ok : {V E : Type 0} (r : Result V E) (e : Entry) (ts us : List Entry) → told_at e.number ts ≡ None → OnOk r (us ≡ ts ++ e ∷ []) → OnOk r (us ≡ with_told e ts)
first_ok (Err x) e ts us none is = tt
first_ok (Ok v) e ts us none is = is ∙ told_first e ts none

-- something was told of it
pub told_before : (x : Name) (e : Entry) (ts : List Entry) → told_at e.number ts ≡ Some x → ts ≡ with_told e ts
unfolding with_told unless_told
told_before x e ts some = ap (λ (o : Option Name). unless_told o e ts) (sym some)

-- ---- in two rows

behind_one : (b : Bool) (x : Name) (o p q : Option Name) → (o ≡ None → p ≡ q) → cond b (Some x) o ≡ None → cond b (Some x) p ≡ q
behind_one true x o p q f none = absurd cc
behind_one false x o p q f none = f none

there_one : (b : Bool) (x y : Name) (o p : Option Name) → (o ≡ Some y → p ≡ Some y) → cond b (Some x) o ≡ Some y → cond b (Some x) p ≡ Some y
there_one true x y o p f some = some
there_one false x y o p f some = f some

-- what the first row does not tell
pub told_behind : (k : ℕ) (es fs : List (ℕ × Name)) → told_at k (entries_of es) ≡ None → told_at k (entries_of (es ++ fs)) ≡ told_at k (entries_of fs)
unfolding told_at
told_behind k [] fs none = refl
told_behind k (e ∷ es) fs none = behind_one (nat_eq k e.0) e.1 (told_at k (entries_of es)) (told_at k (entries_of (es ++ fs))) (told_at k (entries_of fs)) (told_behind k es fs) none

-- what it tells
pub told_there : (k : ℕ) (x : Name) (es fs : List (ℕ × Name)) → told_at k (entries_of es) ≡ Some x → told_at k (entries_of (es ++ fs)) ≡ Some x
unfolding told_at
told_there k x [] fs some = absurd cc
told_there k x (e ∷ es) fs some = there_one (nat_eq k e.0) e.1 x (told_at k (entries_of es)) (told_at k (entries_of (es ++ fs))) (told_there k x es fs) some

tail_none : (b : Bool) (x : Name) (o : Option Name) → cond b (Some x) o ≡ None → o ≡ None
tail_none true x o none = absurd cc
tail_none false x o none = none

-- what both do not tell, the second does not
pub untold_behind : (k : ℕ) (es fs : List (ℕ × Name)) → told_at k (entries_of (es ++ fs)) ≡ None → told_at k (entries_of fs) ≡ None
unfolding told_at
untold_behind k [] fs none = none
untold_behind k (e ∷ es) fs none = untold_behind k es fs (tail_none (nat_eq k e.0) e.1 (told_at k (entries_of (es ++ fs))) none)

-- one more in the second row
pub one_behind : (k : ℕ) (n : Name) (es fs gs : List (ℕ × Name)) (ts : List Entry) → entries_of (es ++ fs) ≡ ts → gs ≡ fs ++ (k, n) ∷ [] → entries_of (es ++ gs) ≡ ts ++ record { number = k; name = n } ∷ []
one_behind k n es fs gs ts stands more =
    ap (λ (xs : List (ℕ × Name)). entries_of (es ++ xs)) more
    ∙ ap entries_of (sym (append_assoc es fs ((k, n) ∷ [])))
    ∙ map-append entry_of (es ++ fs) ((k, n) ∷ [])
    ∙ ap (λ (xs : List Entry). xs ++ record { number = k; name = n } ∷ []) stands
