-- What is found in a scope of which the front is held by an object.
use Rattle.std.proofs.Common.{◌≡◌, ◌≤◌, ◌<◌, ◌+◌, ◌-◌, ℕ, zero, suc, Bool, true, false, cond, List, [], ◌∷◌, ◌++◌, length, refl, sym, ap, subst, ◌∙◌, arith}
use Rattle.std.specs.Prelude.{take, drop, map, reverse, Some, None, if◌then◌else◌}
use Rattle.std.specs.declared.option.Option.{Option}
use Rattle.std.specs.Str.{bytes_eq}
use Rattle.std.proofs.lemmas.List.{append-nil, append_assoc, length-map, length-reverse, length-drop, map-append, reverse-append, take-append-drop}
use mathlib.Core.List.{reverse-cons}
use lib.ListN.{get_or}
use Rattle.def_machine.specs.Values.{Words}
use Rattle.ev_heap.specs.declared.kept.Caught.{Caught}
use Rattle.ev_room.specs.declared.scope.Binding.{Binding}
use Rattle.ev_room.specs.declared.scope.Bound.{Bound}
use Rattle.ev_room.specs.Held.{binding_back, outermost, those}
use Rattle.ev_room.specs.Acts.{found_from}

-- ---- one binding after another

pub found_append : (f : Option Bound) (xs ys : List Binding) (x : Words) → found_from f (xs ++ ys) x ≡ found_from (found_from f xs x) ys x
unfolding found_from
found_append f [] ys x = refl
found_append f (b ∷ bs) ys x = found_append (if bytes_eq b.noun x then Some b.bound else f) bs ys x

pub last_one : (xs : List Binding) (b : Binding) (x : Words) → found_from None (xs ++ b ∷ []) x ≡ (if bytes_eq b.noun x then Some b.bound else found_from None xs x)
unfolding found_from
last_one xs b x = found_append None xs (b ∷ []) x

-- the first that is held is the innermost
pub first_one : (c : Caught) (cs : List Caught) (x : Words)
    → found_from None (reverse (map binding_back (c ∷ cs))) x ≡ (if bytes_eq c.noun x then Some (binding_back c).bound else found_from None (reverse (map binding_back cs)) x)
first_one c cs x = ap (λ (bs : List Binding). found_from None bs x) (reverse-cons (binding_back c) (map binding_back cs)) ∙ last_one (reverse (map binding_back cs)) (binding_back c) x

-- ---- behind those that are held

-- what is found behind something does not depend on what is found before it, unless nothing is found behind
after_one : (f : Option Bound) (y : Binding) (ys : List Binding) (x : Words) (b : Bound) (t : Bool) → (found_from None ys x ≡ Some b → found_from f ys x ≡ Some b)
    → found_from (if t then Some y.bound else None) ys x ≡ Some b → found_from (if t then Some y.bound else f) ys x ≡ Some b
after_one f y ys x b true more e = e
after_one f y ys x b false more e = more e

found_after : (f : Option Bound) (ys : List Binding) (x : Words) (b : Bound) → found_from None ys x ≡ Some b → found_from f ys x ≡ Some b
unfolding found_from
found_after f [] x b e = absurd (cc)
found_after f (y ∷ ys) x b e = after_one f y ys x b (bytes_eq y.noun x) (found_after f ys x b) e

-- something was found before, so something is
stays_one : (c : Bound) (y : Binding) (ys : List Binding) (x : Words) (t : Bool) → ((d : Bound) → found_from (Some d) ys x ≡ None → ⊥)
    → found_from (if t then Some y.bound else Some c) ys x ≡ None → ⊥
stays_one c y ys x true more e = more y.bound e
stays_one c y ys x false more e = more c e

some_stays : (c : Bound) (ys : List Binding) (x : Words) → found_from (Some c) ys x ≡ None → ⊥
unfolding found_from
some_stays c [] x e = absurd (cc)
some_stays c (y ∷ ys) x e = stays_one c y ys x (bytes_eq y.noun x) (λ d. some_stays d ys x) e

none_one : (f : Option Bound) (y : Binding) (ys : List Binding) (x : Words) (t : Bool) → (found_from None ys x ≡ None → found_from f ys x ≡ f)
    → found_from (if t then Some y.bound else None) ys x ≡ None → found_from (if t then Some y.bound else f) ys x ≡ f
none_one f y ys x true more e = absurd (some_stays y.bound ys x e)
none_one f y ys x false more e = more e

none_after : (f : Option Bound) (ys : List Binding) (x : Words) → found_from None ys x ≡ None → found_from f ys x ≡ f
unfolding found_from
none_after f [] x e = refl
none_after f (y ∷ ys) x e = none_one f y ys x (bytes_eq y.noun x) (none_after f ys x) e

pub own_found : (xs ys : List Binding) (x : Words) (b : Bound) → found_from None ys x ≡ Some b → found_from None (xs ++ ys) x ≡ Some b
own_found xs ys x b e = found_append None xs ys x ∙ found_after (found_from None xs x) ys x b e

pub own_none : (xs ys : List Binding) (x : Words) → found_from None ys x ≡ None → found_from None (xs ++ ys) x ≡ found_from None xs x
own_none xs ys x e = found_append None xs ys x ∙ none_after (found_from None xs x) ys x e

-- ---- by place

-- a list up to a place is what stands before it, and what stands there
up_to : (bs : List Binding) (n : ℕ) (b : Binding) → n < length bs → b ≡ get_or bs n b → take (suc n) bs ≡ take n bs ++ b ∷ []
up_to [] n b h e = absurd (omega (arith, h))
up_to (c ∷ bs) zero b h e = ap (λ (d : Binding). d ∷ []) (sym e)
up_to (c ∷ bs) (suc n) b h e = ap (λ (ds : List Binding). c ∷ ds) (up_to bs n b (omega (arith, h)) e)

minus_one : (n : ℕ) → suc n - 1 ≡ n
minus_one n = omega arith

last_there : (bs : List Binding) (m : ℕ) (b : Binding) (x : Words) → 0 < m → m ≤ length bs → b ≡ get_or bs (m - 1) b
    → found_from None (take m bs) x ≡ (if bytes_eq b.noun x then Some b.bound else found_from None (take (m - 1) bs) x)
last_there bs zero b x h k e = absurd (omega (arith, h))
last_there bs (suc n) b x h k e =
    let back = minus_one n in
    let there : b ≡ get_or bs n b = e ∙ ap (λ (i : ℕ). get_or bs i b) back in
    ap (λ (ds : List Binding). found_from None ds x) (up_to bs n b (omega (arith, k)) there)
    ∙ last_one (take n bs) b x
    ∙ ap (λ (i : ℕ). if bytes_eq b.noun x then Some b.bound else found_from None (take i bs) x) (sym back)

chosen : (t u : Bool) (a b : Option Bound) → u ≡ t → (if t then a else b) ≡ (if u then a else b)
chosen t u a b e = ap (λ (v : Bool). if v then a else b) (sym e)

pub last_is : (bs : List Binding) (m : ℕ) (b : Binding) (x : Words) → 0 < m → m ≤ length bs → b ≡ get_or bs (m - 1) b → true ≡ bytes_eq b.noun x
    → found_from None (take m bs) x ≡ Some b.bound
last_is bs m b x h k e t = last_there bs m b x h k e ∙ chosen (bytes_eq b.noun x) true (Some b.bound) (found_from None (take (m - 1) bs) x) t

pub last_is_not : (bs : List Binding) (m : ℕ) (b : Binding) (x : Words) → 0 < m → m ≤ length bs → b ≡ get_or bs (m - 1) b → false ≡ bytes_eq b.noun x
    → found_from None (take m bs) x ≡ found_from None (take (m - 1) bs) x
last_is_not bs m b x h k e t = last_there bs m b x h k e ∙ chosen (bytes_eq b.noun x) false (Some b.bound) (found_from None (take (m - 1) bs) x) t

from_there : (cs : List Caught) (n : ℕ) (c : Caught) → n < length cs → c ≡ get_or cs n c → drop n cs ≡ c ∷ drop (suc n) cs
from_there [] n c h e = absurd (omega (arith, h))
from_there (d ∷ cs) zero c h e = ap (λ (a : Caught). a ∷ cs) (sym e)
from_there (d ∷ cs) (suc n) c h e = from_there cs n c (omega (arith, h)) e

next : (n : ℕ) → suc n ≡ n + 1
next n = omega arith

abbrev found_behind : List Caught → ℕ → Words → Option Bound
found_behind cs n x = found_from None (reverse (map binding_back (drop n cs))) x

first_there : (cs : List Caught) (n : ℕ) (c : Caught) (x : Words) → n < length cs → c ≡ get_or cs n c
    → found_behind cs n x ≡ (if bytes_eq c.noun x then Some (binding_back c).bound else found_behind cs (n + 1) x)
first_there cs n c x h e =
    ap (λ (ds : List Caught). found_from None (reverse (map binding_back ds)) x) (from_there cs n c h e)
    ∙ first_one c (drop (suc n) cs) x
    ∙ ap (λ (i : ℕ). if bytes_eq c.noun x then Some (binding_back c).bound else found_behind cs i x) (next n)

pub first_is : (cs : List Caught) (n : ℕ) (c : Caught) (x : Words) → n < length cs → c ≡ get_or cs n c → true ≡ bytes_eq c.noun x
    → found_from None (reverse (map binding_back (drop n cs))) x ≡ Some (binding_back c).bound
first_is cs n c x h e t = first_there cs n c x h e ∙ chosen (bytes_eq c.noun x) true (Some (binding_back c).bound) (found_behind cs (n + 1) x) t

pub first_is_not : (cs : List Caught) (n : ℕ) (c : Caught) (x : Words) → n < length cs → c ≡ get_or cs n c → false ≡ bytes_eq c.noun x
    → found_from None (reverse (map binding_back (drop n cs))) x ≡ found_from None (reverse (map binding_back (drop (n + 1) cs))) x
first_is_not cs n c x h e t = first_there cs n c x h e ∙ chosen (bytes_eq c.noun x) false (Some (binding_back c).bound) (found_behind cs (n + 1) x) t

-- ---- so many of the outermost

back_count : (cs : List Caught) → length (reverse (map binding_back cs)) ≡ length cs
back_count cs = length-reverse (map binding_back cs) ∙ length-map cs binding_back

take_exactly : (m : ℕ) (xs ys : List Binding) → length xs ≡ m → take m (xs ++ ys) ≡ xs
take_exactly m [] ys e = ap (λ (n : ℕ). take n ys) (sym e)
take_exactly m (x ∷ xs) ys e = ap (λ (n : ℕ). take n (x ∷ (xs ++ ys))) (sym e) ∙ ap (λ (zs : List Binding). x ∷ zs) (take_exactly (length xs) xs ys refl)

-- the outermost of those that are held are the last
pub outermost_last : (n : ℕ) (cs : List Caught) → n ≤ length cs → outermost n (Some cs) ≡ reverse (map binding_back (drop (length cs - n) cs))
outermost_last n cs h =
    let k = length cs - n in
    let back = reverse (map binding_back (drop k cs)) in
    let front = reverse (map binding_back (take k cs)) in
    let parted : reverse (map binding_back cs) ≡ back ++ front =
    ap (λ (zs : List Caught). reverse (map binding_back zs)) (sym (take-append-drop k cs))
    ∙ ap (λ (bs : List Binding). reverse bs) (map-append binding_back (take k cs) (drop k cs))
    ∙ reverse-append (map binding_back (take k cs)) (map binding_back (drop k cs)) in
    let count : length back ≡ length cs - k = back_count (drop k cs) ∙ length-drop k cs in
    ap (λ (bs : List Binding). take n bs) parted ∙ take_exactly n back front (omega (arith, count, h))

taken_count : (n : ℕ) (xs : List Binding) → n ≤ length xs → length (take n xs) ≡ n
taken_count zero xs h = refl
taken_count (suc n) [] h = absurd (omega (arith, h))
taken_count (suc n) (x ∷ xs) h = ap suc (taken_count n xs (omega (arith, h)))

pub outermost_count : (n : ℕ) (held : Option (List Caught)) → n ≤ length (those held) → length (outermost n held) ≡ n
outermost_count n held h = taken_count n (reverse (map binding_back (those held))) (omega (arith, h, back_count (those held)))

take_whole : (xs : List Binding) → take (length xs) xs ≡ xs
take_whole [] = refl
take_whole (x ∷ xs) = ap (λ (zs : List Binding). x ∷ zs) (take_whole xs)

pub held_alone : (cs : List Caught) → outermost (length cs) (Some cs) ++ [] ≡ reverse (map binding_back cs)
held_alone cs = append-nil (outermost (length cs) (Some cs))
    ∙ ap (λ (n : ℕ). take n (reverse (map binding_back cs))) (sym (back_count cs)) ∙ take_whole (reverse (map binding_back cs))

pub pushed_behind : (xs ys : List Binding) (b : Binding) → xs ++ (ys ++ b ∷ []) ≡ (xs ++ ys) ++ b ∷ []
pushed_behind xs ys b = sym (append_assoc xs ys (b ∷ []))

-- ---- cuts

cut_front : (m n : ℕ) (xs ys : List Binding) → m ≤ n → n ≤ length xs → take m (take n xs ++ ys) ≡ take m xs
cut_front zero n xs ys h k = refl
cut_front (suc m) zero xs ys h k = absurd (omega (arith, h))
cut_front (suc m) (suc n) [] ys h k = absurd (omega (arith, k))
cut_front (suc m) (suc n) (x ∷ xs) ys h k = ap (λ (zs : List Binding). x ∷ zs) (cut_front m n xs ys (omega (arith, h)) (omega (arith, k)))

cut_behind : (m : ℕ) (xs ys : List Binding) → length xs ≤ m → take m (xs ++ ys) ≡ xs ++ take (m - length xs) ys
cut_behind m [] ys h = ap (λ (n : ℕ). take n ys) (omega arith)
cut_behind zero (x ∷ xs) ys h = absurd (omega (arith, h))
cut_behind (suc m) (x ∷ xs) ys h =
    ap (λ (zs : List Binding). x ∷ zs) (cut_behind m xs ys (omega (arith, h))) ∙ ap (λ (n : ℕ). x ∷ (xs ++ take n ys)) (omega arith)

cut_long : (m : ℕ) (xs : List Binding) → length xs ≤ m → take m xs ≡ xs
cut_long zero [] h = refl
cut_long zero (x ∷ xs) h = absurd (omega (arith, h))
cut_long (suc m) [] h = refl
cut_long (suc m) (x ∷ xs) h = ap (λ (zs : List Binding). x ∷ zs) (cut_long m xs (omega (arith, h)))

pub cut_held : (m n : ℕ) (held : Option (List Caught)) (ys : List Binding) → m < n → n ≤ length (those held)
    → take m (outermost n held ++ ys) ≡ outermost m held ++ []
cut_held m n held ys h k = cut_front m n (reverse (map binding_back (those held))) ys (omega (arith, h)) (omega (arith, k, back_count (those held))) ∙ sym (append-nil (outermost m held))

pub cut_own : (m n : ℕ) (held : Option (List Caught)) (ys : List Binding) → n ≤ m → n ≤ length (those held)
    → take m (outermost n held ++ ys) ≡ outermost n held ++ take (m - n) ys
cut_own m n held ys h k =
    let count = outermost_count n held k in
    cut_behind m (outermost n held) ys (omega (arith, h, count)) ∙ ap (λ (i : ℕ). outermost n held ++ take (m - i) ys) count

pub cut_none : (m n : ℕ) (held : Option (List Caught)) (ys : List Binding) → n + length ys ≤ m → n ≤ length (those held)
    → take m (outermost n held ++ ys) ≡ outermost n held ++ ys
cut_none m n held ys h k =
    cut_own m n held ys (omega (arith, h)) k ∙ ap (λ (zs : List Binding). outermost n held ++ zs) (cut_long (m - n) ys (omega (arith, h)))
