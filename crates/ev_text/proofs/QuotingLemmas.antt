-- Characters between quotes, by their bytes.
use Rattle.std.proofs.Common.{Result, Ok, Err, is_ok, OnOk, length, append_assoc, inl, inr, ◌≡◌, ℕ, ◌≤◌, cond, List, [], ◌∷◌, ◌++◌, sym, ◌∙◌, ap, arith}
use Rattle.std.specs.Bool.{if◌then◌else◌}
use Rattle.std.specs.Char.{encode_utf8}
use Rattle.std.specs.List.{flat_map}
use Rattle.std.proofs.lemmas.List.{append-nil}
use Rattle.std.proofs.lemmas.List.Concat.{flat_map-append}
use Rattle.std.proofs.lemmas.Bool.{cases_lt, lt-ltb, le-ltb}
use Rattle.std.proofs.lemmas.Bool.Decides.{nat_tests}
use Rattle.std.proofs.lemmas.Str.{encode_ascii}
use Rattle.def_text.specs.Quoting.{quoted, escaped, escaped_character}

-- a byte of a character that takes several stands for itself
pub plain : (b : ℕ) → 128 ≤ b → escaped b ≡ b ∷ []
plain b h = grind (arith, nat_tests)

wide : (c : ℕ) → 128 ≤ c → flat_map escaped (encode_utf8 c) ≡ encode_utf8 c
unfolding encode_utf8
wide c h = grind (arith, nat_tests, plain)

-- a character is escaped byte by byte
pub escaped_bytes : (c : ℕ) → flat_map escaped (encode_utf8 c) ≡ escaped_character c
escaped_bytes c = elim (cases_lt c 128) [
  | inl narrow ↦ ap (flat_map escaped) (encode_ascii c narrow) ∙ append-nil (escaped c) ∙ sym (ap (λ b. cond b (escaped c) (encode_utf8 c)) (lt-ltb c 128 narrow))
  | inr high ↦ wide c high ∙ sym (ap (λ b. cond b (escaped c) (encode_utf8 c)) (le-ltb c 128 high))
]

-- the first character, and then the rest
pub escaped_first : (c : ℕ) (rest text : List ℕ) → text ≡ encode_utf8 c ++ rest → flat_map escaped text ≡ escaped_character c ++ flat_map escaped rest
escaped_first c rest text e =
    ap (flat_map escaped) e ∙ flat_map-append escaped (encode_utf8 c) rest ∙ ap (λ xs. xs ++ flat_map escaped rest) (escaped_bytes c)

-- one more character is written
pub one_more : (c : ℕ) (rest text out new all : List ℕ) → text ≡ encode_utf8 c ++ rest → new ≡ out ++ escaped_character c → out ++ flat_map escaped text ≡ all → new ++ flat_map escaped rest ≡ all
one_more c rest text out new all here wrote so_far =
    ap (λ xs. xs ++ flat_map escaped rest) wrote ∙ append_assoc out (escaped_character c) (flat_map escaped rest)
    ∙ ap (λ xs. out ++ xs) (sym (escaped_first c rest text here)) ∙ so_far

-- all is written, and the closing quote
pub all_written : {V E : Type 0} (r : Result V E) (rest text out new first : List ℕ) → length rest ≡ 0
    → out ++ flat_map escaped rest ≡ first ++ 34 ∷ flat_map escaped text → new ≡ (if is_ok r then out ++ encode_utf8 34 else out) → OnOk r (new ≡ first ++ quoted text)
all_written (Err e) rest text out new first none so_far wrote = tt
all_written (Ok v) (b ∷ rest) text out new first none so_far wrote = absurd (omega arith)
all_written (Ok v) [] text out new first none so_far wrote =
    wrote ∙ ap (λ xs. xs ++ encode_utf8 34) (sym (append-nil out) ∙ so_far) ∙ ap (λ xs. (first ++ 34 ∷ flat_map escaped text) ++ xs) (encode_ascii 34 (omega arith))
    ∙ append_assoc first (34 ∷ flat_map escaped text) (34 ∷ [])
