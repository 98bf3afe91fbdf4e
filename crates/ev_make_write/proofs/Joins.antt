-- Parts of a text one behind another, and lists that agree so far.
use Rattle.std.proofs.Common.{◌≡◌, ◌<◌, ◌+◌, ℕ, zero, suc, List, [], ◌∷◌, ◌++◌, length, take, get_or, sym, ap, ◌∙◌, append_assoc, add-one, drop, drop-cons, arith, subst}
use Rattle.std.specs.List.{flat_map}

pub joined : {X : Type 0} (a b c m n : List X) → m ≡ a ++ b → n ≡ m ++ c → n ≡ a ++ (b ++ c)
joined a b c m n e f = f ∙ ap (λ x. x ++ c) e ∙ append_assoc a b c

front_end : {X : Type 0} (i : ℕ) (xs : List X) (last : X) → i < length xs → last ≡ get_or xs i last → take (suc i) xs ≡ take i xs ++ last ∷ []
front_end i [] last h is = absurd (omega arith)
front_end zero (x ∷ xs) last h is = ap (λ y. y ∷ []) (sym is)
front_end (suc i) (x ∷ xs) last h is = ap (λ ys. x ∷ ys) (front_end i xs last (omega arith) is)

-- lists that agree so far and at the next place
pub grown : {X : Type 0} (i : ℕ) (a b : List X) (x y : X) → i < length a → i < length b → x ≡ get_or a i x → y ≡ get_or b i y → x ≡ y → take i a ≡ take i b → take (i + 1) a ≡ take (i + 1) b
grown i a b x y la lb xa yb e t =
    let k : i + 1 ≡ suc i = omega arith in
    let same : take (suc i) a ≡ take (suc i) b = front_end i a x la xa ∙ ap (λ f. f ++ x ∷ []) t ∙ ap (λ z. take i b ++ z ∷ []) e ∙ sym (front_end i b y lb yb) in
    subst (λ j. take j a ≡ take j b) (sym k) same

next : {X : Type 0} (x : X) (xs : List X) (i : ℕ) → i < length xs → x ≡ get_or xs i x → drop i xs ≡ x ∷ drop (i + 1) xs
next x xs i lt is = rw add-one (drop-cons xs i x lt) ∙ ap (λ z. z ∷ drop (i + 1) xs) (sym is)

-- one item more is written
pub moved : {X : Type 0} (f : X → List ℕ) (i : ℕ) (xs : List X) (x : X) (out new whole : List ℕ) → i < length xs → x ≡ get_or xs i x
    → out ++ flat_map f (drop i xs) ≡ whole → new ≡ out ++ f x → new ++ flat_map f (drop (i + 1) xs) ≡ whole
moved f i xs x out new whole lt is so_far e =
    ap (λ t. t ++ flat_map f (drop (i + 1) xs)) e ∙ append_assoc out (f x) (flat_map f (drop (i + 1) xs)) ∙ ap (λ ys. out ++ flat_map f ys) (sym (next x xs i lt is)) ∙ so_far
