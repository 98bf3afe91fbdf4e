-- What stood there stands there still.
use Rattle.std.proofs.Common.{◌≡◌, ◌∙◌, ◌<◌, ◌≤◌, ℕ, zero, suc, ◌+◌, List, [], ◌∷◌, ◌++◌, take, length, get_or, refl, ap, sym, arith}
use Rattle.std.proofs.lemmas.List.{get_or-take}
use Rattle.std.proofs.Math.Seq.{get_or-append_seam, take-append_seam}
use Rattle.ev_heap.specs.Verbs.{Begins, IsTextAt, text_at}

pub begins_itself : {A : Type 0} (xs : List A) → Begins xs xs
begins_itself [] = refl
begins_itself (x ∷ xs) = ap (λ ys. x ∷ ys) (begins_itself xs)

pub begins_more : {A : Type 0} (xs ys : List A) → Begins xs (xs ++ ys)
begins_more xs ys = take-append_seam xs ys

take_length : {A : Type 0} (n : ℕ) (xs : List A) → length (take n xs) ≤ length xs
take_length zero xs = omega arith
take_length (suc n) [] = omega arith
take_length (suc n) (x ∷ xs) = let e : length (take n xs) ≤ length xs = take_length n xs in omega arith

pub begins_length : {A : Type 0} (xs ys : List A) → Begins xs ys → length xs ≤ length ys
begins_length xs ys b = let e : length (take (length xs) ys) ≤ length ys = take_length (length xs) ys in let f : length (take (length xs) ys) ≡ length xs = ap length b in omega arith

pub begins_at : {A : Type 0} (xs ys : List A) (i : ℕ) (d : A) → Begins xs ys → i < length xs → get_or ys i d ≡ get_or xs i d
begins_at xs ys i d b lt = sym (get_or-take (length xs) ys i d lt) ∙ ap (λ zs. get_or zs i d) b

length_one_more : {A : Type 0} (xs : List A) (x : A) → length (xs ++ x ∷ []) ≡ length xs + 1
length_one_more [] x = refl
length_one_more (y ∷ xs) x = let e : length (xs ++ x ∷ []) ≡ length xs + 1 = length_one_more xs x in omega arith

pub text_behind : (us : List (List ℕ)) (v : List ℕ) (n : ℕ) → n ≡ length us → IsTextAt (us ++ v ∷ []) n v
text_behind us v n e = (
  let f : length (us ++ v ∷ []) ≡ length us + 1 = length_one_more us v in omega arith,
  ap (λ k. text_at (us ++ v ∷ []) k) e ∙ get_or-append_seam us v [] [],
)

-- one more stands behind
pub grown : {A : Type 0} (xs ys : List A) (x : A) → ys ≡ xs ++ x ∷ [] → Begins xs ys
grown xs ys x e = ap (λ zs. take (length xs) zs) e ∙ begins_more xs (x ∷ [])

pub last_fits : {A : Type 0} (xs ys : List A) (x : A) (n : ℕ) → ys ≡ xs ++ x ∷ [] → n ≡ length xs → n < length ys
last_fits xs ys x n e f =
    let g : length (xs ++ x ∷ []) ≡ length xs + 1 = length_one_more xs x in
    let h : length ys ≡ length (xs ++ x ∷ []) = ap length e in
    omega arith

pub last_is : {A : Type 0} (xs ys : List A) (x : A) (n : ℕ) (d : A) → ys ≡ xs ++ x ∷ [] → n ≡ length xs → get_or ys n d ≡ x
last_is xs ys x n d e f = ap (λ zs. get_or zs n d) e ∙ ap (λ k. get_or (xs ++ x ∷ []) k d) f ∙ get_or-append_seam xs x [] d
