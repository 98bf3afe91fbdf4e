-- A loop over a list whose items are read one by one.
use Rattle.std.proofs.Common.{◌≡◌, ◌<◌, ◌≤◌, ◌+◌, ◌++◌, ℕ, List, [], ◌∷◌, Result, Ok, Err, length, get_or, drop, refl, sym, ◌∙◌, ap, append_assoc, append-nil}
use Rattle.ev_script.specs.declared.script.ScriptFault.{ScriptFault}
use Rattle.ev_script.specs.declared.script.ScriptFault.TheVariants.{Rule, Memory}
use Rattle.ev_script.specs.Script.{Reads, ◌>>=◌}
use Rattle.ev_script.proofs.EachLemmas.{next_item, nothing_behind}
use Rattle.ev_trace_words.specs.Values.{all_of}

-- what was read so far, and then what is read of the others
abbrev pub done_then : {B : Type 0} → List B → Result (List B) ℕ → Result (List B) ℕ
done_then done (Ok ys) = Ok (done ++ ys)
done_then done (Err r) = Err r

abbrev with_first : {B : Type 0} → B → Result (List B) ℕ → Result (List B) ℕ
with_first y r = r >>= (λ ys. Ok (y ∷ ys))

first : {A B : Type 0} (f : A → Result B ℕ) (x : A) (y : B) (xs : List A) → f x ≡ Ok y → all_of f (x ∷ xs) ≡ with_first y (all_of f xs)
first f x y xs e = rw e refl

refused : {A B : Type 0} (f : A → Result B ℕ) (x : A) (r : ℕ) (xs : List A) → f x ≡ Err r → all_of f (x ∷ xs) ≡ Err r
refused f x r xs e = rw e refl

moved : {B : Type 0} (done : List B) (y : B) (r : Result (List B) ℕ) → done_then done (with_first y r) ≡ done_then (done ++ y ∷ []) r
moved done y (Ok ys) = ap Ok (sym (append_assoc done (y ∷ []) ys))
moved done y (Err r) = refl

pub nothing_yet : {B : Type 0} (r : Result (List B) ℕ) → done_then [] r ≡ r
nothing_yet (Ok ys) = refl
nothing_yet (Err r) = refl

-- the next item is read
pub goes_on : {A B : Type 0} (f : A → Result B ℕ) (x : A) (y : B) (done more : List B) (whole : Result (List B) ℕ) (xs : List A) (i : ℕ) → i < length xs → x ≡ get_or xs i x
    → done_then done (all_of f (drop i xs)) ≡ whole → f x ≡ Ok y → more ≡ done ++ y ∷ [] → done_then more (all_of f (drop (i + 1) xs)) ≡ whole
goes_on f x y done more whole xs i lt is so_far e m =
    ap (λ ys. done_then ys (all_of f (drop (i + 1) xs))) m
    ∙ sym (moved done y (all_of f (drop (i + 1) xs)))
    ∙ ap (done_then done) (sym (first f x y (drop (i + 1) xs) e))
    ∙ ap (λ ys. done_then done (all_of f ys)) (sym (next_item x xs i lt is)) ∙ so_far

-- the next item breaks a rule
breaks : {A B : Type 0} (f : A → Result B ℕ) (x : A) (r : ℕ) (done : List B) (whole : Result (List B) ℕ) (xs : List A) (i : ℕ) → i < length xs → x ≡ get_or xs i x
    → done_then done (all_of f (drop i xs)) ≡ whole → f x ≡ Err r → whole ≡ Err r
breaks f x r done whole xs i lt is so_far e =
    sym (ap (done_then done) (sym (refused f x r (drop (i + 1) xs) e)) ∙ ap (λ ys. done_then done (all_of f ys)) (sym (next_item x xs i lt is)) ∙ so_far)

pub stops : {A B : Type 0} (f : A → Result B ℕ) (x : A) (fault : ScriptFault) (done : List B) (whole : Result (List B) ℕ) (xs : List A) (i : ℕ) → i < length xs → x ≡ get_or xs i x
    → done_then done (all_of f (drop i xs)) ≡ whole → Reads (Err fault) (f x) → Reads (Err fault) whole
stops f x (Rule r) done whole xs i lt is so_far e = breaks f x r done whole xs i lt is so_far e
stops f x Memory done whole xs i lt is so_far e = tt

-- every item is read
pub ends : {A B : Type 0} (f : A → Result B ℕ) (done : List B) (whole : Result (List B) ℕ) (xs : List A) (i : ℕ) → length xs ≤ i
    → done_then done (all_of f (drop i xs)) ≡ whole → whole ≡ Ok done
ends f done whole xs i h so_far =
    sym (ap Ok (sym (append-nil done)) ∙ ap (λ ys. done_then done (all_of f ys)) (sym (nothing_behind xs i h)) ∙ so_far)
