-- A loop that appends an entry for each number.
use Rattle.std.proofs.Common.{◌≡◌, ◌<◌, ◌≤◌, ◌+◌, ◌-◌, ◌%◌, ◌++◌, ℕ, suc, List, [], ◌∷◌, refl, sym, ◌∙◌, ap, append_assoc, append-nil, arith}
use Rattle.std.specs.List.{flat_map, range_with_len}
use Rattle.rand_chacha.specs.ChaCha.{ChaCha, word_at, key_of}
use Rattle.ev_generate.specs.Generated.{choice}

range_next : (i n : ℕ) → i < n → range_with_len i (n - i) ≡ i ∷ range_with_len (i + 1) (n - (i + 1))
range_next i n lt = let e : n - i ≡ suc (n - (i + 1)) = omega arith in ap (range_with_len i) e

range_end : (i n : ℕ) → n ≤ i → range_with_len i (n - i) ≡ []
range_end i n le = let e : n - i ≡ 0 = omega arith in ap (range_with_len i) e

pub goes : (f : ℕ → List ℕ) (out more whole : List ℕ) (i n : ℕ) → i < n → out ++ flat_map f (range_with_len i (n - i)) ≡ whole → more ≡ out ++ f i
    → more ++ flat_map f (range_with_len (i + 1) (n - (i + 1))) ≡ whole
goes f out more whole i n lt so_far m =
    let rest = flat_map f (range_with_len (i + 1) (n - (i + 1))) in
    ap (λ (ys : List ℕ). ys ++ rest) m ∙ append_assoc out (f i) rest ∙ ap (λ (r : List ℕ). out ++ flat_map f r) (sym (range_next i n lt)) ∙ so_far

pub ends : (f : ℕ → List ℕ) (out whole : List ℕ) (i n : ℕ) → n ≤ i → out ++ flat_map f (range_with_len i (n - i)) ≡ whole → out ≡ whole
ends f out whole i n le so_far = sym (append-nil out) ∙ ap (λ (r : List ℕ). out ++ flat_map f r) (sym (range_end i n le)) ∙ so_far

-- three texts appended one after the other
pub appended : (out front middle back first second third : List ℕ) → first ≡ out ++ front → second ≡ first ++ middle → third ≡ second ++ back
    → third ≡ out ++ (front ++ (middle ++ back))
appended out front middle back first second third a b c =
    c ∙ ap (λ (xs : List ℕ). xs ++ back) (b ∙ ap (λ (xs : List ℕ). xs ++ middle) a) ∙ append_assoc (out ++ front) middle back
    ∙ append_assoc out front (middle ++ back)

-- what the stream gives at a place is the choice of that place
pub chosen_is : (key : List ℕ) (place chosen : ℕ) (s : ChaCha) → s ≡ record { key = key_of key; stream = 0; word_pos = place }
    → chosen ≡ word_at 10 s.key s.stream s.word_pos % 9 → chosen ≡ choice key place
unfolding choice
chosen_is key place chosen s stands value = value ∙ ap (λ (c : ChaCha). word_at 10 c.key c.stream c.word_pos % 9) stands
