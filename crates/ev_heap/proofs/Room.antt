-- Values in little room, and those that stand aside.
use Rattle.std.proofs.Common.{◌≡◌, ◌∙◌, ◌≤◌, ℕ, zero, suc, ◌+◌, List, [], ◌∷◌, ◌++◌, take, drop, length, get_or, map, refl, ap, sym, arith, Result, Ok, Err, OnErr}
use Rattle.std.proofs.lemmas.List.{map-append, take-map}
use Rattle.std.proofs.Math.ListN.{get_or-append}
use Rattle.std.proofs.Math.Seq.{get_or-append_seam, take-append_seam}
use Rattle.ev_base.specs.declared.values.Value.{Value}
use Rattle.ev_base.specs.declared.values.Value.TheVariants as value
use Rattle.ev_heap.specs.declared.packed.Small.{Small}
use Rattle.ev_heap.specs.declared.packed.Small.TheVariants as small
use Rattle.ev_heap.specs.Packed.{value_of, values_of, IsHeld, AreHeld, IsSmallOf}

-- more may stand aside
held_more : (n m : ℕ) (s : Small) → n ≤ m → IsHeld n s → IsHeld m s
held_more n m small.Null le h = tt
held_more n m (small.Bool b) le h = tt
held_more n m (small.Int k) le h = tt
held_more n m (small.Char c) le h = tt
held_more n m (small.Text i) le h = tt
held_more n m (small.List i) le h = tt
held_more n m (small.Prim i) le h = tt
held_more n m (small.Obj i) le h = tt
held_more n m (small.Prom i) le h = tt
held_more n m (small.Far i v) le h = tt
held_more n m (small.Broken i) le h = tt
held_more n m (small.Aside i) le h = omega arith

all_held_more : (n m : ℕ) (ss : List Small) → n ≤ m → AreHeld n ss → AreHeld m ss
unfolding AreHeld
all_held_more n m [] le h = tt
all_held_more n m (s ∷ ss) le h = (held_more n m s le h.0, all_held_more n m ss le h.1)

held_behind : (n : ℕ) (ss : List Small) (s : Small) → AreHeld n ss → IsHeld n s → AreHeld n (ss ++ s ∷ [])
unfolding AreHeld
held_behind n [] s h i = (i, tt)
held_behind n (r ∷ ss) s h i = (h.0, held_behind n ss s h.1 i)

-- the first ones are held
pub held_first : (n k : ℕ) (ss : List Small) → AreHeld n ss → AreHeld n (take k ss)
unfolding AreHeld
held_first n zero ss h = tt
held_first n (suc k) [] h = tt
held_first n (suc k) (s ∷ ss) h = (h.0, held_first n k ss h.1)

pub values_first : (bs : List Value) (k : ℕ) (ss : List Small) → values_of bs (take k ss) ≡ take k (values_of bs ss)
unfolding values_of
values_first bs k ss = sym (take-map (value_of bs) k ss)

same : (bs : List Value) (b : Value) (s : Small) → IsHeld (length bs) s → value_of (bs ++ b ∷ []) s ≡ value_of bs s
same bs b small.Null h = refl
same bs b (small.Bool t) h = refl
same bs b (small.Int k) h = refl
same bs b (small.Char c) h = refl
same bs b (small.Text i) h = refl
same bs b (small.List i) h = refl
same bs b (small.Prim i) h = refl
same bs b (small.Obj i) h = refl
same bs b (small.Prom i) h = refl
same bs b (small.Far i v) h = refl
same bs b (small.Broken i) h = refl
same bs b (small.Aside i) h = get_or-append bs (b ∷ []) value.Null i h

-- what comes to stand aside changes none of the others
pub all_same : (bs : List Value) (b : Value) (ss : List Small) → AreHeld (length bs) ss → values_of (bs ++ b ∷ []) ss ≡ values_of bs ss
unfolding AreHeld values_of
all_same bs b [] h = refl
all_same bs b (s ∷ ss) h = ap (λ v. v ∷ map (value_of (bs ++ b ∷ [])) ss) (same bs b s h.0) ∙ ap (λ vs. value_of bs s ∷ vs) (all_same bs b ss h.1)

values_behind : (bs : List Value) (ss : List Small) (s : Small) → values_of bs (ss ++ s ∷ []) ≡ values_of bs ss ++ value_of bs s ∷ []
unfolding values_of
values_behind bs ss s = map-append (value_of bs) ss (s ∷ [])

-- one more in little room
pub small_value : (bs : List Value) (ss : List Small) (s : Small) (v : Value) → IsSmallOf v s → values_of bs (ss ++ s ∷ []) ≡ values_of bs ss ++ v ∷ []
small_value bs ss s v is = values_behind bs ss s ∙ ap (λ w. values_of bs ss ++ w ∷ []) (is bs).0

pub small_held : (bs : List Value) (ss : List Small) (s : Small) (v : Value) → AreHeld (length bs) ss → IsSmallOf v s → AreHeld (length bs) (ss ++ s ∷ [])
small_held bs ss s v h is = held_behind (length bs) ss s h (held_more 0 (length bs) s (omega arith) (is bs).1)

-- one more aside
length_more : (bs : List Value) (b : Value) → length (bs ++ b ∷ []) ≡ length bs + 1
length_more [] b = refl
length_more (c ∷ bs) b = let e : length (bs ++ b ∷ []) ≡ length bs + 1 = length_more bs b in omega arith

pub aside_value : (bs : List Value) (ss : List Small) (v : Value) (p : ℕ) → AreHeld (length bs) ss → p ≡ length bs
    → values_of (bs ++ v ∷ []) (ss ++ small.Aside p ∷ []) ≡ values_of bs ss ++ v ∷ []
aside_value bs ss v p h e =
    values_behind (bs ++ v ∷ []) ss (small.Aside p)
    ∙ ap (λ q. values_of (bs ++ v ∷ []) ss ++ get_or (bs ++ v ∷ []) q value.Null ∷ []) e
    ∙ ap (λ w. values_of (bs ++ v ∷ []) ss ++ w ∷ []) (get_or-append_seam bs v [] value.Null)
    ∙ ap (λ ws. ws ++ v ∷ []) (all_same bs v ss h)

pub aside_left : (bs : List Value) (ss : List Small) (v : Value) → AreHeld (length bs) ss → AreHeld (length (bs ++ v ∷ [])) ss
aside_left bs ss v h = all_held_more (length bs) (length (bs ++ v ∷ [])) ss (let e : length (bs ++ v ∷ []) ≡ length bs + 1 = length_more bs v in omega arith) h

pub aside_held : (bs : List Value) (ss : List Small) (v : Value) (p : ℕ) → AreHeld (length bs) ss → p ≡ length bs → AreHeld (length (bs ++ v ∷ [])) (ss ++ small.Aside p ∷ [])
aside_held bs ss v p h e =
    held_behind (length (bs ++ v ∷ [])) ss (small.Aside p) (aside_left bs ss v h) (let f : length (bs ++ v ∷ []) ≡ length bs + 1 = length_more bs v in omega arith)

-- the first so many, where more stand behind them
pub cut_back : (vs ws : List Value) → take (length vs) (vs ++ ws) ≡ vs
cut_back vs ws = take-append_seam vs ws

-- what holds anyway holds on a fault
pub on_err : {A E : Type 0} (r : Result A E) {P : Type 0} → P → OnErr r P
on_err (Ok a) p = tt
on_err (Err e) p = p

pub values_others : (bs : List Value) (k : ℕ) (ss : List Small) → values_of bs (drop k ss) ≡ drop k (values_of bs ss)
unfolding values_of
values_others bs zero [] = refl
values_others bs (suc k) [] = refl
values_others bs zero (s ∷ ss) = refl
values_others bs (suc k) (s ∷ ss) = values_others bs k ss

-- the value at a place, or null where there is none
pub value_at : (bs : List Value) (ss : List Small) (i : ℕ) → value_of bs (get_or ss i small.Null) ≡ get_or (values_of bs ss) i value.Null
unfolding values_of
value_at bs [] i = refl
value_at bs (s ∷ ss) zero = refl
value_at bs (s ∷ ss) (suc i) = value_at bs ss i
