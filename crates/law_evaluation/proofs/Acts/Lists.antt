-- Lists of which each member is so.
use Rattle.std.proofs.Common.{ℕ, zero, suc, List, [], ◌∷◌, ◌++◌, map}
use Rattle.std.specs.Prelude.{slice_set}
use Rattle.ev_room.specs.Holding.{Every}

pub every_both : {A : Type 0} (P : A → Type 0) (xs ys : List A) → Every P xs → Every P ys → Every P (xs ++ ys)
every_both P [] ys a b = b
every_both P (x ∷ xs) ys a b = (a.0, every_both P xs ys a.1 b)

pub every_more : {A : Type 0} (P : A → Type 0) (xs : List A) (x : A) → Every P xs → P x → Every P (xs ++ x ∷ [])
every_more P xs x a b = every_both P xs (x ∷ []) a (b, tt)

pub every_set : {A : Type 0} (P : A → Type 0) (xs : List A) (n : ℕ) (x : A) → Every P xs → P x → Every P (slice_set xs n x)
every_set P [] n x a b = tt
every_set P (y ∷ xs) zero x a b = (b, a.1)
every_set P (y ∷ xs) (suc n) x a b = (a.0, every_set P xs n x a.1 b)

pub every_map : {A B : Type 0} (P : A → Type 0) (Q : B → Type 0) (f : A → B) (xs : List A) → ((x : A) → P x → Q (f x)) → Every P xs → Every Q (map f xs)
every_map P Q f [] each a = tt
every_map P Q f (x ∷ xs) each a = (each x a.0, every_map P Q f xs each a.1)

-- where each is so by itself
pub every_one : {A : Type 0} (P : A → Type 0) (xs : List A) → ((x : A) → P x) → Every P xs
every_one P [] each = tt
every_one P (x ∷ xs) each = (each x, every_one P xs each)
