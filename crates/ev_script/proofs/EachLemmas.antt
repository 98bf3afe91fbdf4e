-- A loop over a list whose items are answered for one by one.
use Rattle.std.proofs.Common.{◌≡◌, ◌<◌, ◌≤◌, ◌+◌, ◌++◌, ◌&&◌, ℕ, suc, Bool, true, false, List, [], ◌∷◌, Option, Some, None, length, get_or, drop, map, refl, sym, ◌∙◌, ap, add-one, drop-cons, append_assoc, append-nil, arith}
use Rattle.std.specs.Prelude.{option_map, option_and_then}
use Rattle.std.specs.List.{list_all}
use Rattle.std.proofs.lemmas.Grind.{common_steps}
use Rattle.std.proofs.lemmas.List.{get_or_default}
use Rattle.ev_script.specs.Json.{each}

pub nothing_behind : {A : Type 0} (xs : List A) (i : ℕ) → length xs ≤ i → drop i xs ≡ []
nothing_behind xs i h = grind (arith, common_steps)

next : {A : Type 0} (d : A) (xs : List A) (i : ℕ) → i < length xs → drop i xs ≡ get_or xs i d ∷ drop (i + 1) xs
next d xs i lt = rw add-one (drop-cons xs i d lt)

-- what is answered so far, and then for the others
abbrev pub done_and : {B : Type 0} → List B → Option (List B) → Option (List B)
done_and done o = option_map (λ ys. done ++ ys) o

pub moved : {B : Type 0} (done : List B) (y : B) (o : Option (List B)) → done_and done (option_and_then (λ ys. Some (y ∷ ys)) o) ≡ done_and (done ++ y ∷ []) o
moved done y None = refl
moved done y (Some ys) = ap Some (sym (append_assoc done (y ∷ []) ys))

first : {A B : Type 0} (f : A → Option B) (x : A) (y : B) (xs : List A) → f x ≡ Some y → each f (x ∷ xs) ≡ option_and_then (λ ys. Some (y ∷ ys)) (each f xs)
first f x y xs e = rw e refl

refused : {A B : Type 0} (f : A → Option B) (x : A) (xs : List A) → f x ≡ None → each f (x ∷ xs) ≡ None
refused f x xs e = rw e refl

-- the next item
pub next_item : {A : Type 0} (x : A) (xs : List A) (i : ℕ) → i < length xs → x ≡ get_or xs i x → drop i xs ≡ x ∷ drop (i + 1) xs
next_item x xs i lt is = next x xs i lt ∙ ap (λ z. z ∷ drop (i + 1) xs) (sym is)

-- the next item is answered for
pub goes : {A B : Type 0} (f : A → Option B) (x : A) (y : B) (done more : List B) (whole : Option (List B)) (xs : List A) (i : ℕ) → i < length xs → x ≡ get_or xs i x
    → done_and done (each f (drop i xs)) ≡ whole → f x ≡ Some y → more ≡ done ++ y ∷ [] → done_and more (each f (drop (i + 1) xs)) ≡ whole
goes f x y done more whole xs i lt is so_far e m =
    ap (λ ys. done_and ys (each f (drop (i + 1) xs))) m
    ∙ sym (moved done y (each f (drop (i + 1) xs)))
    ∙ ap (done_and done) (sym (first f x y (drop (i + 1) xs) e))
    ∙ ap (λ ys. done_and done (each f ys)) (sym (next_item x xs i lt is)) ∙ so_far

-- the next item is not answered for
pub stops : {A B : Type 0} (f : A → Option B) (x : A) (done : List B) (whole : Option (List B)) (xs : List A) (i : ℕ) → i < length xs → x ≡ get_or xs i x
    → done_and done (each f (drop i xs)) ≡ whole → f x ≡ None → None ≡ whole
stops f x done whole xs i lt is so_far e =
    ap (done_and done) (sym (refused f x (drop (i + 1) xs) e))
    ∙ ap (λ ys. done_and done (each f ys)) (sym (next_item x xs i lt is)) ∙ so_far

-- every item is answered for
pub ends : {A B : Type 0} (f : A → Option B) (done : List B) (whole : Option (List B)) (xs : List A) (i : ℕ) → length xs ≤ i
    → done_and done (each f (drop i xs)) ≡ whole → Some done ≡ whole
ends f done whole xs i h so_far =
    ap Some (sym (append-nil done)) ∙ ap (λ ys. done_and done (each f ys)) (sym (nothing_behind xs i h)) ∙ so_far

-- a function of items that are seen otherwise
pub each_map : {A B C : Type 0} (f : B → Option C) (g : A → B) (xs : List A) → each f (map g xs) ≡ each (λ x. f (g x)) xs
each_map f g [] = refl
each_map f g (x ∷ xs) = ap (λ o. option_and_then (λ y. option_and_then (λ ys. Some (y ∷ ys)) o) (f (g x))) (each_map f g xs)

grown : {B : Type 0} (a : Option B) (o : Option (List B)) (n : ℕ) → ((zs : List B) → o ≡ Some zs → length zs ≡ n) → (ys : List B)
    → option_and_then (λ y. option_and_then (λ zs. Some (y ∷ zs)) o) a ≡ Some ys → length ys ≡ suc n
grown None o n h ys e = absurd cc
grown (Some y) None n h ys e = absurd cc
grown (Some y) (Some zs) n h ys e = let g : ys ≡ y ∷ zs = cc in rw g (ap suc (h zs refl))

-- there are as many answers as items
pub each_length : {A B : Type 0} (f : A → Option B) (xs : List A) (ys : List B) → each f xs ≡ Some ys → length ys ≡ length xs
each_length f [] ys e = let g : ys ≡ [] = cc in rw g refl
each_length f (x ∷ xs) ys e = grown (f x) (each f xs) (length xs) (λ zs h. each_length f xs zs h) ys e

-- ---- a loop that stops at the first item that fails a test

both : (b c : Bool) → b ≡ true → (b && c) ≡ c
both b c e = rw e refl

neither : (b c : Bool) → b ≡ false → (b && c) ≡ false
neither b c e = rw e refl

pub passes : {A : Type 0} (p : A → Bool) (x : A) (whole : Bool) (xs : List A) (i : ℕ) → i < length xs → x ≡ get_or xs i x
    → list_all p (drop i xs) ≡ whole → p x ≡ true → list_all p (drop (i + 1) xs) ≡ whole
passes p x whole xs i lt is so_far e =
    sym (both (p x) (list_all p (drop (i + 1) xs)) e) ∙ ap (list_all p) (sym (next_item x xs i lt is)) ∙ so_far

pub fails : {A : Type 0} (p : A → Bool) (x : A) (whole : Bool) (xs : List A) (i : ℕ) → i < length xs → x ≡ get_or xs i x
    → list_all p (drop i xs) ≡ whole → p x ≡ false → false ≡ whole
fails p x whole xs i lt is so_far e =
    sym (neither (p x) (list_all p (drop (i + 1) xs)) e) ∙ ap (list_all p) (sym (next_item x xs i lt is)) ∙ so_far

pub all_pass : {A : Type 0} (p : A → Bool) (whole : Bool) (xs : List A) (i : ℕ) → length xs ≤ i → list_all p (drop i xs) ≡ whole → true ≡ whole
all_pass p whole xs i h so_far = ap (list_all p) (sym (nothing_behind xs i h)) ∙ so_far

pub list_all_map : {A B : Type 0} (p : B → Bool) (g : A → B) (xs : List A) → list_all p (map g xs) ≡ list_all (λ x. p (g x)) xs
list_all_map p g [] = refl
list_all_map p g (x ∷ xs) = ap (λ b. p (g x) && b) (list_all_map p g xs)

-- ---- the same of a loop over items that are read by their place

pub goes_at : {A B : Type 0} (f : A → Option B) (d : A) (y : B) (done more : List B) (whole : Option (List B)) (xs : List A) (i : ℕ) → i < length xs
    → done_and done (each f (drop i xs)) ≡ whole → f (get_or xs i d) ≡ Some y → more ≡ done ++ y ∷ [] → done_and more (each f (drop (i + 1) xs)) ≡ whole
goes_at f d y done more whole xs i lt = goes f (get_or xs i d) y done more whole xs i lt (get_or_default xs i d (get_or xs i d) lt)

pub stops_at : {A B : Type 0} (f : A → Option B) (d : A) (done : List B) (whole : Option (List B)) (xs : List A) (i : ℕ) → i < length xs
    → done_and done (each f (drop i xs)) ≡ whole → f (get_or xs i d) ≡ None → None ≡ whole
stops_at f d done whole xs i lt = stops f (get_or xs i d) done whole xs i lt (get_or_default xs i d (get_or xs i d) lt)
